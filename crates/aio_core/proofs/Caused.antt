-- Why a turn stopped: by what the wire replied last.
use Rattle.std.proofs.Common.{◌≡◌, ◌⊎◌, inl, inr, ℕ, Bool, true, false, if◌then◌else◌, List, [], ◌++◌, Result, Ok, Err, ◌∙◌, refl, sym, subst}
use Rattle.model_wire.specs.Call.{Answer, Call}
use Rattle.model_wire.specs.Event.{Event}
use Rattle.model_wire.specs.Fits.{fits}
use Rattle.model_wire.specs.Journal.{Entry}
use Rattle.model_wire.specs.Told.{WireSeen}
use Rattle.model_machine.specs.State.{State}
use Rattle.model_machine.specs.Turn.{turn}
use Rattle.model_machine.specs.Went.{Went, Goes, Stops}
use Rattle.model_says.specs.Says.{step_limit}
use Rattle.aio_wire.specs.EventList.{EventList}
use Rattle.aio_wire.specs.Outside.{Outside}
use Rattle.aio_wire.specs.Port.{Exchanges, StopsShort, outcome_of, ported}
use Rattle.aio_wire.specs.Replied.{MayHaveReplied, Replied}
use Rattle.aio_wire.specs.declared.stop.Stop.{Stop}
use Rattle.aio_wire.specs.declared.stop.Stop.TheVariants as stop
use Rattle.aio_wire.specs.declared.wire.Reply.{Reply}
use Rattle.aio_wire.specs.declared.wire.Reply.TheVariants as reply
use Rattle.aio_exchange.specs.Exchanged.{EndsSo, IsFitting, Last, All, Met, Starved, StopsAs, entries_of}
use Rattle.aio_extra.specs.Added.{Added}
use Rattle.aio_body.specs.declared.run_state.RunState.{RunState}
use Rattle.aio_body.specs.Asking.{Comes, ComesBy}
use Rattle.aio_body.specs.Stands.{Context}
use Rattle.aio_body.specs.Answers.{with_answers}
use Rattle.aio_core.specs.declared.went.Went as code
use Rattle.aio_core.specs.declared.went.Went.TheVariants as went
use Rattle.aio_core.specs.Turning.{HasCause, IsAtRest, Turned, resting, said_by, turning}
use Rattle.aio_core.proofs.AskedByTurn.{there}

not_true : (b : Bool) → (b ≡ true → ⊥) → b ≡ false
not_true true other = absurd (other refl)
not_true false other = refl

module _ (before after : WireSeen) where
  abbrev Causes : Stop → Type 0
  Causes why = HasCause before after (went.Stopped why)

  -- an answer that doesn't fit, or none
  met_caused : (call : Call) (said : Reply) (count : ℕ) (why : Stop) → StopsAs (Met call said) count why → EndsSo (Met call said) after
      → (before.fitting ≡ true → IsFitting (Met call said)) → Causes why
  met_caused call (reply.Got answer) count why is ends fits = subst Causes (sym is) (not_true before.fitting fits)
  met_caused call reply.Over count why is ends fits = subst Causes (sym is) ends
  met_caused call (reply.Bad fault) count why is ends fits = subst Causes (sym is) ends
  met_caused call reply.Failed count why is ends fits = subst Causes (sym is) tt

  -- a turn that went on, or ended otherwise
  turned_caused : {X : Type 0} {a : Added X} (c : Context a) (new : RunState X) (said : code.Went) (w : Went a.Kept) → Turned c new said w
      → HasCause before after said
  turned_caused c new went.Went w t = tt
  turned_caused c new (went.Finished outcome) w t = tt
  turned_caused c new went.Stalled w t = tt
  turned_caused c new (went.Runaway task) w t = tt
  turned_caused c new (went.Stopped why) (Goes now) t = absurd t
  turned_caused c new (went.Stopped why) (Stops how last) t = absurd t

-- ---- the select has no answer that fits
pub select_caused : (call : Call) (old new : EventList) (before after : WireSeen) (result : Result Answer Stop) (why : Stop) → result ≡ Err why
    → ((said : Reply) × Exchanges call old new result said × Replied call before after said)
    ⊎ (StopsShort old new result × MayHaveReplied call before after)
    → HasCause before after (went.Stopped why)
select_caused call old new before after result why e (inr short) = subst (Causes before after) (err_same stop.Memory why (sym short.0.0 ∙ e)) tt
  where
    err_same : (a b : Stop) → ◌≡◌ {A = Result Answer Stop} (Err a) (Err b) → a ≡ b
    err_same a b e = cc
select_caused call old new before after result why e (inl (said, exchanged, replied)) = at said exchanged.1 replied
  where
    err_same : (a b : Stop) → ◌≡◌ {A = Result Answer Stop} (Err a) (Err b) → a ≡ b
    err_same a b e = cc

    misfit : (answer : Answer) (b : Bool) → fits call answer ≡ b → result ≡ (if b then Ok answer else Err (stop.Mismatch new.answers call))
        → (before.fitting ≡ true → fits call answer ≡ true) → Causes before after why
    misfit answer true f r fit = absurd (let x = sym r ∙ e in cc)
    misfit answer false f r fit =
        subst (Causes before after) (err_same (stop.Mismatch new.answers call) why (sym r ∙ e))
        (not_true before.fitting (λ all. let x = sym f ∙ fit all in cc))

    at : (said : Reply) → result ≡ outcome_of call new.answers said → Replied call before after said → Causes before after why
    at (reply.Got answer) r replied = misfit answer (fits call answer) refl r replied.fits
    at reply.Over r replied = subst (Causes before after) (err_same (stop.Over call) why (sym r ∙ e)) replied.ends
    at (reply.Bad fault) r replied = subst (Causes before after) (err_same (stop.Bad fault) why (sym r ∙ e)) replied.ends
    at reply.Failed r replied = subst (Causes before after) (err_same (stop.Failed call) why (sym r ∙ e)) tt

-- ---- a turn, by what it comes to
module _ {X W : Type 0} (a : Added X) (o : Outside W) (old new : RunState X) (was is : W) where
  pub caused_in : (result : Result code.Went Stop) → Comes o (turning a old new) (ported was old.events) (ported is new.events) result
      → (past : List Event) (answers : List Entry) (s : State a.Kept) → IsAtRest a past answers old s
      → HasCause (o.seen was) (o.seen is) (said_by result)
  caused_in result h past answers s r = at h.last result h.exchanged.ends h.exchanged.fitting h.comes
    where
      at : (last : Last) (result : Result code.Went Stop) → EndsSo last (o.seen is) → ((o.seen was).fitting ≡ true → IsFitting last)
          → ComesBy (turning a old new) h.had last old.events new.events result → HasCause (o.seen was) (o.seen is) (said_by result)
      at All (Ok said) ends fits comes =
          let it = (comes (resting a past [] r.0) (with_answers (entries_of h.had ++ []) s) (there a o old new was is h.had past answers [] s r)).1 in
          turned_caused (o.seen was) (o.seen is) (resting a past [] it.0) new said
          (turn step_limit a.meaning (with_answers (entries_of h.had ++ []) s)) it.1
      at (Met call said) (Err why) ends fits comes = met_caused (o.seen was) (o.seen is) call said new.events.answers why comes.0 ends fits
      at Starved (Err why) ends fits comes = subst (λ w. HasCause (o.seen was) (o.seen is) (went.Stopped w)) (sym comes.0) tt
      at All (Err why) ends fits comes = absurd comes
      at (Met call said) (Ok it) ends fits comes = absurd comes
      at Starved (Ok said) ends fits comes = absurd comes
