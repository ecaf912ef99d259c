-- One ask, by what a port's clauses say of it.
use Rattle.std.proofs.Common.{◌≡◌, ◌⊎◌, inl, inr, ℕ, Bool, true, false, List, [], ◌∷◌, ◌++◌, Option, Some, None, Result, Ok, Err}
use Rattle.std.proofs.Common.{◌∙◌, refl, sym, ap, subst, arith, if◌then◌else◌}
use Rattle.std.proofs.Math.Path.{fun_ext}
use Rattle.std.proofs.lemmas.List.{append-nil}
use Rattle.model_wire.specs.declared.event.Event.TheVariants as event
use Rattle.model_wire.specs.declared.event.Handed.{Handed}
use Rattle.model_wire.specs.Call.{Call, Answer}
use Rattle.model_wire.specs.Event.{Event, handed_by}
use Rattle.model_wire.specs.Fits.{fits}
use Rattle.aio_wire.specs.Outside.{Outside}
use Rattle.aio_wire.specs.Port.{AlwaysFails, Exchanges, PortAsked, Ported, StopsShort, UnlessStopped, events_after, outcome_of}
use Rattle.aio_wire.specs.Replied.{MayHaveReplied, Replied, Stays, asked_after, handed_after}
use Rattle.aio_wire.specs.declared.stop.Stop.{Stop}
use Rattle.aio_wire.specs.declared.stop.Stop.TheVariants as stop
use Rattle.aio_wire.specs.declared.wire.Reply.{Reply}
use Rattle.aio_wire.specs.declared.wire.Reply.TheVariants as reply
use Rattle.aio_exchange.specs.Exchanged.{AsksOne, EndsSo, Exchanged, FailsIfRose, IsFailing, IsFitting, IsNoAnswer, IsOneMore, All, Met, Starved, AsksLeave}
use Rattle.aio_exchange.specs.Exchanged.{UnlessFailed, asked_by, bytes_last, handed_to}
use Rattle.aio_exchange.proofs.Exchanging.{agreed, asked_none, handed_none}

module _ {W : Type 0} (o : Outside W) (call : Call) (old new : Ported W)
    (stays : Stays (o.seen old.wire) (o.seen new.wire)) (keeps : o.keeps old.wire new.wire) where
  same_answer : (a b : Answer) → ◌≡◌ {A = Result Answer Stop} (Ok a) (Ok b) → a ≡ b
  same_answer a b e = cc

  same_stop : (a b : Stop) → ◌≡◌ {A = Result Answer Stop} (Err a) (Err b) → a ≡ b
  same_stop a b e = cc

  asked_one : (told : Option (List Call)) → asked_after told call ≡ asked_by (call ∷ []) told
  asked_one None = refl
  asked_one (Some calls) = refl

  handed_one : (said : Reply) (told : Option (Handed → List ℕ)) → handed_after told call said ≡ handed_to (bytes_last (Met call said)) told
  handed_one (reply.Got answer) None = refl
  handed_one (reply.Got answer) (Some held) = refl
  handed_one reply.Over None = refl
  handed_one reply.Over (Some held) = handed_none (Some held)
  handed_one (reply.Bad fault) None = refl
  handed_one (reply.Bad fault) (Some held) = handed_none (Some held)
  handed_one reply.Failed None = refl
  handed_one reply.Failed (Some held) = handed_none (Some held)

  -- it has an answer that fits
  pub exchanged_one : (answer : Answer) → fits call answer ≡ true → new.events ≡ events_after old.events call (reply.Got answer)
      → Replied call (o.seen old.wire) (o.seen new.wire) (reply.Got answer)
      → (o.fails old.wire → AlwaysFails call (Ok answer)) → o.quiet old.wire new.wire
      → Exchanged o (record { call = call; answer = answer } ∷ []) All old new
  exchanged_one answer fit noted replied fails quiet = record {
    unasked = tt;
    fit = (fit, tt);
    is_last = tt;
    notes = noted;
    leaves = replied.left;
    asks = replied.asked ∙ asked_one (o.seen old.wire).asked;
    hands =
        replied.handed ∙ handed_one (reply.Got answer) (o.seen old.wire).handed
        ∙ ap (λ (f : Handed → List ℕ). handed_to f (o.seen old.wire).handed)
        (fun_ext (λ to. sym (append-nil (handed_by to call answer)) ∙ sym (append-nil (handed_by to call answer ++ []))));
    besides = tt;
    ends = tt;
    fitting = λ e. tt;
    failed = tt;
    stays = stays;
    failing = λ h. absurd (never (fails h));
    keeps = keeps;
    unchanged = quiet;
  }
    where
      never : AlwaysFails call (Ok answer) → ⊥
      never (inl e) = absurd (cc)
      never (inr e) = absurd (cc)

  -- it has none
  met_by : (said : Reply) → IsNoAnswer call said → new.events ≡ events_after old.events call said
      → Replied call (o.seen old.wire) (o.seen new.wire) said
      → AsksLeave [] (Met call said) (o.seen old.wire).left (o.seen new.wire).left
      → EndsSo (Met call said) (o.seen new.wire)
      → ((o.seen old.wire).fitting ≡ true → IsFitting (Met call said))
      → FailsIfRose (Met call said) (o.seen old.wire).faults (o.seen new.wire).faults
      → (o.fails old.wire → IsFailing (Met call said)) → UnlessFailed (o.quiet old.wire new.wire) (Met call said)
      → Exchanged o [] (Met call said) old new
  met_by said none noted replied leaves ends fitting failed failing still = record {
    unasked = tt;
    fit = tt;
    is_last = none;
    notes = noted;
    leaves = leaves;
    asks = replied.asked ∙ asked_one (o.seen old.wire).asked;
    hands = replied.handed ∙ handed_one said (o.seen old.wire).handed;
    besides = tt;
    ends = ends;
    fitting = fitting;
    failed = failed;
    stays = stays;
    failing = λ h. (refl, failing h);
    keeps = keeps;
    unchanged = still;
  }

  abbrev pub Stopped : Stop → Type 0
  Stopped why = (o.fails old.wire → AlwaysFails call (Err why)) × UnlessStopped (o.quiet old.wire new.wire) (Err why)

  never_fails : (why other : Stop) → why ≡ other → (other ≡ stop.Failed call → ⊥) → (other ≡ stop.Memory → ⊥)
      → AlwaysFails call (Err why) → ⊥
  never_fails why other e a b (inl f) = a (sym e ∙ same_stop why (stop.Failed call) f)
  never_fails why other e a b (inr f) = b (sym e ∙ same_stop why stop.Memory f)

  stops_with : (said : Reply) → new.events ≡ events_after old.events call said → Replied call (o.seen old.wire) (o.seen new.wire) said
      → (why : Stop) → Err why ≡ outcome_of call new.events.answers said → Stopped why → AsksOne o call old new (Err why)
  stops_with (reply.Got answer) noted replied why e h = at (fits call answer) refl e
    where
      at : (b : Bool) → fits call answer ≡ b → Err why ≡ (if b then Ok answer else Err (stop.Mismatch new.events.answers call))
          → AsksOne o call old new (Err why)
      at true f e = absurd (cc)
      at false f e =
          let is : why ≡ stop.Mismatch new.events.answers call = same_stop why (stop.Mismatch new.events.answers call) e in (
            Met call (reply.Got answer),
            (
              refl,
              is,
              met_by (reply.Got answer) f noted replied replied.left tt (λ t. absurd (let x = sym f ∙ replied.fits t in cc)) tt
                  (λ fails. absurd (never_fails why (stop.Mismatch new.events.answers call) is (λ x. absurd (cc)) (λ x. absurd (cc)) (h.0 fails)))
                  (subst (λ w. UnlessStopped (o.quiet old.wire new.wire) (Err w)) is h.1),
            ),
          )
  stops_with reply.Over noted replied why e h =
      let is : why ≡ stop.Over call = same_stop why (stop.Over call) e in (
        Met call reply.Over,
        (
          refl,
          is,
          met_by reply.Over tt noted replied replied.left replied.ends (λ t. tt) tt
              (λ fails. absurd (never_fails why (stop.Over call) is (λ x. absurd (cc)) (λ x. absurd (cc)) (h.0 fails)))
              (subst (λ w. UnlessStopped (o.quiet old.wire new.wire) (Err w)) is h.1),
        ),
      )
  stops_with (reply.Bad fault) noted replied why e h =
      let is : why ≡ stop.Bad fault = same_stop why (stop.Bad fault) e in (
        Met call (reply.Bad fault),
        (
          refl,
          is,
          met_by (reply.Bad fault) tt noted replied replied.left replied.ends (λ t. tt) tt
              (λ fails. absurd (never_fails why (stop.Bad fault) is (λ x. absurd (cc)) (λ x. absurd (cc)) (h.0 fails)))
              (subst (λ w. UnlessStopped (o.quiet old.wire new.wire) (Err w)) is h.1),
        ),
      )
  stops_with reply.Failed noted replied why e h =
      let is : why ≡ stop.Failed call = same_stop why (stop.Failed call) e in (
        Met call reply.Failed,
        (refl, is, met_by reply.Failed tt noted replied replied.left tt (λ t. tt) replied.failed (λ fails. tt) tt),
      )

  -- memory was refused
  starves : (why : Stop) → why ≡ stop.Memory → ((more : List Event) × (new.events.events ≡ old.events.events ++ more))
      → MayHaveReplied call (o.seen old.wire) (o.seen new.wire) → Stopped why → AsksOne o call old new (Err why)
  starves why is adds may h = (
    Starved,
    (
      tt,
      is,
      record {
        unasked = tt;
        fit = tt;
        is_last = tt;
        notes = adds;
        leaves = agreed (o.seen old.wire).left;
        asks = tt;
        hands = tt;
        besides = one_more may;
        ends = tt;
        fitting = λ t. tt;
        failed = tt;
        stays = stays;
        failing = λ t. (refl, tt);
        keeps = keeps;
        unchanged = subst (λ w. UnlessStopped (o.quiet old.wire new.wire) (Err w)) is h.1;
      },
    ),
  )
    where
      -- the events of a call, with its answer or without
      answered : (answer : Answer) → Replied call (o.seen old.wire) (o.seen new.wire) (reply.Got answer) → IsOneMore [] (o.seen old.wire) (o.seen new.wire)
      answered answer replied = record {
        more = event.Called call ∷ event.Got answer ∷ [];
        one = omega arith;
        asks = replied.asked ∙ asked_one (o.seen old.wire).asked;
        hands = λ called.
            replied.handed ∙ handed_one (reply.Got answer) (o.seen old.wire).handed
            ∙ ap (λ (f : Handed → List ℕ). handed_to f (o.seen old.wire).handed) (fun_ext (λ to. sym (append-nil (handed_by to call answer))));
      }

      called_so : (o.seen new.wire).asked ≡ asked_after (o.seen old.wire).asked call
          → (o.seen new.wire).handed ≡ handed_to (λ to. []) (o.seen old.wire).handed → IsOneMore [] (o.seen old.wire) (o.seen new.wire)
      called_so asked handed = record {
        more = event.Called call ∷ [];
        one = omega arith;
        asks = asked ∙ asked_one (o.seen old.wire).asked;
        hands = λ called. handed;
      }

      by_reply : (said : Reply) → Replied call (o.seen old.wire) (o.seen new.wire) said → IsOneMore [] (o.seen old.wire) (o.seen new.wire)
      by_reply (reply.Got answer) replied = answered answer replied
      by_reply reply.Over replied = called_so replied.asked (replied.handed ∙ handed_one reply.Over (o.seen old.wire).handed)
      by_reply (reply.Bad fault) replied = called_so replied.asked (replied.handed ∙ handed_one (reply.Bad fault) (o.seen old.wire).handed)
      by_reply reply.Failed replied = called_so replied.asked (replied.handed ∙ handed_one reply.Failed (o.seen old.wire).handed)

      one_more : MayHaveReplied call (o.seen old.wire) (o.seen new.wire) → IsOneMore [] (o.seen old.wire) (o.seen new.wire)
      one_more (inr replied) = by_reply replied.0 replied.1
      one_more (inl (inl asked, handed)) = called_so asked (handed ∙ handed_none (o.seen old.wire).handed)
      one_more (inl (inr same, handed)) = record {
        more = [];
        one = omega arith;
        asks = same ∙ asked_none (o.seen old.wire).asked;
        hands = λ called. handed ∙ handed_none (o.seen old.wire).handed;
      }

  -- by what came of it
  comes_of : (result : Result Answer Stop)
      → ((said : Reply) × Exchanges call old.events new.events result said × Replied call (o.seen old.wire) (o.seen new.wire) said)
      ⊎ (StopsShort old.events new.events result × MayHaveReplied call (o.seen old.wire) (o.seen new.wire))
      → (o.fails old.wire → AlwaysFails call result) → UnlessStopped (o.quiet old.wire new.wire) result
      → AsksOne o call old new result
  comes_of (Ok answer) (inr short) fails quiet = absurd (let x = short.0.0 in cc)
  comes_of (Err why) (inr short) fails quiet = starves why (same_stop why stop.Memory short.0.0) short.0.1 short.1 (fails, quiet)
  comes_of (Err why) (inl (said, exchanged, replied)) fails quiet = stops_with said exchanged.0 replied why exchanged.1 (fails, quiet)
  comes_of (Ok answer) (inl (said, exchanged, replied)) fails quiet = at said exchanged.0 exchanged.1 replied
    where
      fit : (it : Answer) (b : Bool) → fits call it ≡ b → Ok answer ≡ (if b then Ok it else Err (stop.Mismatch new.events.answers call))
          → new.events ≡ events_after old.events call (reply.Got it) → Replied call (o.seen old.wire) (o.seen new.wire) (reply.Got it)
          → AsksOne o call old new (Ok answer)
      fit it false f e noted replied = absurd (cc)
      fit it true f e noted replied =
          let is : it ≡ answer = sym (same_answer answer it e) in
          exchanged_one answer (subst (λ x. fits call x ≡ true) is f) (subst (λ x. new.events ≡ events_after old.events call (reply.Got x)) is noted)
          (subst (λ x. Replied call (o.seen old.wire) (o.seen new.wire) (reply.Got x)) is replied) fails quiet

      at : (said : Reply) → new.events ≡ events_after old.events call said → Ok answer ≡ outcome_of call new.events.answers said
          → Replied call (o.seen old.wire) (o.seen new.wire) said → AsksOne o call old new (Ok answer)
      at (reply.Got it) noted e replied = fit it (fits call it) refl e noted replied
      at reply.Over noted e replied = absurd (cc)
      at (reply.Bad fault) noted e replied = absurd (cc)
      at reply.Failed noted e replied = absurd (cc)

-- a port's ask is one exchange
pub asks_one : {W : Type 0} (o : Outside W) (call : Call) (old new : Ported W) (result : Result Answer Stop) → PortAsked o call old new result
    → AsksOne o call old new result
asks_one o call old new result it = comes_of o call old new it.stays it.keeps result it.asks it.fails it.quiet
