-- A kernel's turn by its body's.
use Rattle.std.proofs.Common.{◌≡◌, inl, List, [], ◌++◌, Option, Some, None, ◌∙◌, refl, sym, ap, subst, append-nil}
use Rattle.std.proofs.Math.Logic.{∥∥₁_elim, ∥∥₁_map, ∥∥₁_prop}
use Rattle.std.specs.Prelude.{IfSome}
use Rattle.model_wire.specs.Event.{Event}
use Rattle.model_wire.specs.Journal.{Entry}
use Rattle.model_wire.specs.Told.{WireSeen}
use Rattle.model_machine.specs.State.{State}
use Rattle.aio_wire.specs.EventList.{EventList}
use Rattle.aio_wire.specs.Outside.{Outside}
use Rattle.aio_wire.specs.declared.stop.Stop.TheVariants as stop
use Rattle.aio_extra.specs.Added.{Added}
use Rattle.aio_body.specs.declared.run_state.RunState.{RunState}
use Rattle.aio_body.specs.Stands.{Context, IsBetween, Possible}
use Rattle.aio_body.proofs.Noting.{telling_changes}
use Rattle.aio_core.specs.declared.kernel.Kernel.{Kernel}
use Rattle.aio_core.specs.declared.went.Went as code
use Rattle.aio_core.specs.declared.went.Went.TheVariants as went
use Rattle.aio_core.specs.Again.{Again, IsKept}
use Rattle.aio_core.specs.Turned.{KeepsEnd, KernelStandsFor, TurnedBy, TurnsTo, ended, stood_for, untaken}
use Rattle.aio_core.specs.Turning.{AliveIfWent, AliveUnless, ComesTo, IsAtRest, StarvesAs, TurnMade, WireTurn, changed_by, resting, stood_by, wire_turn}

module _ {X : Type 0} {a : Added X} where
  pub stands_up : {g : _} (past : List Event) (left : List Entry) (kernel : Kernel X g) (s : State a.Kept) → ended kernel ≡ None
      → IsAtRest a past left kernel.body s → KernelStandsFor a past left kernel s
  stands_up past left kernel s goes h = record { events = h.1.stands.events; answers = h.1.stands.rest; goes = goes; rests = h }

module _ {X : Type 0} (a : Added X) {g : _} (old new : Kernel X g) (before after : WireSeen) where
  pub comes_up : (said : code.Went) → (said ≡ went.Went → ended new ≡ None)
      → ComesTo a.meaning before after (changed_by a old.body new.body) said → TurnsTo a before after old new said
  comes_up went.Went goes c = (
    c.0,
    (
      c.1.0,
      λ past rest s h.
          let it = c.1.1 past rest s h.rests in (it.0, (it.1.0, stands_up past rest new it.0 (goes refl) it.1.1)),
    ),
  )
  comes_up (went.Finished outcome) goes c = (c.0, (c.1.0, λ past rest s l h. c.1.1 past rest s l h.rests))
  comes_up went.Stalled goes c = (c.0, λ past rest s l h. c.1 past rest s l h.rests)
  comes_up (went.Runaway task) goes c = (c.0, (c.1.0, λ past rest s l h. c.1.1 past rest s l h.rests))
  comes_up (went.Stopped (stop.Over call)) goes c = (c.0, (c.1.0, λ past rest s l h. c.1.1 past rest s l h.rests))
  comes_up (went.Stopped (stop.Bad fault)) goes c = (c.0, (c.1.0, λ past rest s l h. c.1.1 past rest s l h.rests))
  comes_up (went.Stopped (stop.Mismatch count call)) goes c = (c.0, (c.1.0, λ past rest s l h. c.1.1 past rest s l h.rests))
  comes_up (went.Stopped (stop.Failed call)) goes c = (c.0, (c.1.0, λ past rest s l h. c.1.1 past rest s l h.rests, c.1.2))
  comes_up (went.Stopped stop.Memory) goes c = tt

-- what the machine's turn begins with, where memory was refused
module _ {X : Type 0} (a : Added X) where
  starves_up : {g : _} (wire : WireTurn) (old : Kernel X g) (said : code.Went) → StarvesAs a.meaning wire (stood_by a old.body) (untaken old) said
      → StarvesAs a.meaning wire (stood_for a old) (untaken old) said
  starves_up wire old went.Went it = tt
  starves_up wire old (went.Finished outcome) it = tt
  starves_up wire old went.Stalled it = tt
  starves_up wire old (went.Runaway task) it = tt
  starves_up wire old (went.Stopped (stop.Over call)) it = tt
  starves_up wire old (went.Stopped (stop.Bad fault)) it = tt
  starves_up wire old (went.Stopped (stop.Mismatch count call)) it = tt
  starves_up wire old (went.Stopped (stop.Failed call)) it = tt
  starves_up wire old (went.Stopped stop.Memory) it = record {
    had = it.had;
    left = it.left;
    first = it.first;
    begins = λ past rest s h. it.begins past rest s h.rests;
    more = it.more;
    one = it.one;
    asks = it.asks;
    failing = it.failing;
  }

module _ {X : Type 0} {a : Added X} where
  -- a run that hasn't ended
  pub turned_up : {W : Type 0} {g : _} (o : Outside W) (was is : W) (old new : Kernel X g) (result said : code.Went)
      → (said ≡ went.Went → ended new ≡ None) → TurnMade a o was is old.body new.body said → Again said result
      → TurnedBy a (wire_turn o was is) old new result said
  turned_up o was is old new result said goes made either = record {
    turns = comes_up a old new (o.seen was) (o.seen is) said goes made.comes;
    stalls = λ past answers s h. made.stalls past answers s h.rests;
    asks = λ past answers s h. made.asked past answers s h.rests;
    caused = λ past answers s h. made.caused past answers s h.rests;
    starved = λ past answers s h. starves_up a (wire_turn o was is) old said (made.starved past answers s h.rests);
    unchanged = made.quiet;
    failing = made.fails;
    either = either;
  }

  -- ---- events are taken out
  pub between_taken : (c : Context a) (body : RunState X) (events : EventList) (s : State a.Kept) → events ≡ record body.events { events = [] }
      → IsBetween c body s → IsBetween (record c { past = c.past ++ body.events.events }) (record body { events = events }) s
  between_taken c body events s e h = record {
    stands =
        telling_changes None c (record c { past = c.past ++ body.events.events }) body (record body { events = events }) s s h.stands refl refl refl
        (record {
          own = λ sleeper id sleeps. sleeps;
          futures = h.stands.futures;
          few_futures = h.stands.few_futures;
          main_done = h.stands.main_done;
          events =
              h.stands.events ∙ sym (append-nil (c.past ++ body.events.events))
              ∙ ap (λ (l : EventList). (c.past ++ body.events.events) ++ l.events) (sym e);
          rest = h.stands.rest;
          count = ap (λ (l : EventList). l.answers) e ∙ h.stands.count;
        });
    called = h.called;
    running = h.running;
    sound = h.sound;
  }

  pub events_taken : (past : List Event) (answers : List Entry) (body : RunState X) (events : EventList) (s : State a.Kept)
      → events ≡ record body.events { events = [] }
      → IsAtRest a past answers body s → IsAtRest a (past ++ body.events.events) answers (record body { events = events }) s
  events_taken past answers body events s e h = (h.0, between_taken (resting a past answers h.0) body events s e h.1)

module _ {X : Type 0} (a : Added X) where
  pub alive_taken : (kept : Option code.Went) (body : RunState X) (events : EventList) → events ≡ record body.events { events = [] }
      → ∥ AliveUnless a kept body ∥₁ → ∥ AliveUnless a kept (record body { events = events }) ∥₁
  alive_taken kept body events e alive = ∥∥₁_map alive (at kept)
    where
      at : (o : Option code.Went) → AliveUnless a o body → AliveUnless a o (record body { events = events })
      at None it = ∥∥₁_map it (λ w. (record w.0 { past = w.0.past ++ body.events.events }, (w.1.0, between_taken w.0 body events w.1.0 e w.1.1)))
      at (Some end) it = tt

  pub alive_of : (kept : Option code.Went) (body : RunState X) → kept ≡ None → ∥ AliveUnless a kept body ∥₁ → Possible a IsBetween body
  alive_of kept body none alive = ∥∥₁_elim (subst (λ o. ∥ AliveUnless a o body ∥₁) none alive) ∥∥₁_prop (λ it. it)

-- ---- an end is kept
pub kept_end : (result : code.Went) (kept : Option code.Went) → kept ≡ Some result → KeepsEnd result kept
kept_end went.Went kept e = tt
kept_end (went.Finished outcome) kept e = e
kept_end went.Stalled kept e = e
kept_end (went.Runaway task) kept e = e
kept_end (went.Stopped why) kept e = e

module _ {X : Type 0} (a : Added X) where
  pub alive_ended : (kept : Option code.Went) (result : code.Went) (body : RunState X) → kept ≡ Some result → ∥ AliveUnless a kept body ∥₁
  alive_ended kept result body e = subst (λ o. ∥ AliveUnless a o body ∥₁) (sym e) ∣ tt ∣₁

-- a turn was made, and what it said is kept
module _ (said result : code.Went) (kept now : Option code.Went) (none : kept ≡ None) (is : IsKept said kept now result) where
  pub kept_goes : said ≡ went.Went → now ≡ None
  kept_goes e = let it = subst (λ w. IsKept w kept now result) e is in it.0 ∙ none

  pub kept_again : Again said result
  kept_again = at said is
    where
      at : (it : code.Went) → IsKept it kept now result → Again it result
      at went.Went k = inl k.1
      at (went.Finished outcome) k = k.0
      at went.Stalled k = k.0
      at (went.Runaway task) k = k.0
      at (went.Stopped why) k = k.0

  pub kept_now : KeepsEnd result now
  kept_now = at said is
    where
      at : (it : code.Went) → IsKept it kept now result → KeepsEnd result now
      at went.Went k = subst (λ w. KeepsEnd w now) (sym k.1) tt
      at (went.Finished outcome) k = kept_end result now k.1
      at went.Stalled k = kept_end result now k.1
      at (went.Runaway task) k = kept_end result now k.1
      at (went.Stopped why) k = kept_end result now k.1

  pub kept_alive : {X : Type 0} (a : Added X) (body : RunState X) → AliveIfWent a said body → ∥ AliveUnless a now body ∥₁
  kept_alive a body alive = at said is alive
    where
      at : (it : code.Went) → IsKept it kept now result → AliveIfWent a it body → ∥ AliveUnless a now body ∥₁
      at went.Went k it = subst (λ o. ∥ AliveUnless a o body ∥₁) (sym (k.0 ∙ none)) ∣ it ∣₁
      at (went.Finished outcome) k it = alive_ended a now result body k.1
      at went.Stalled k it = alive_ended a now result body k.1
      at (went.Runaway task) k it = alive_ended a now result body k.1
      at (went.Stopped why) k it = alive_ended a now result body k.1

pub if_none : (o : Option code.Went) (P : code.Went → Type 0) → o ≡ None → IfSome o P
if_none o P e = subst (λ x. IfSome x P) (sym e) tt

pub if_some : (o : Option code.Went) (P : code.Went → Type 0) (end : code.Went) → o ≡ Some end → P end → IfSome o P
if_some o P end e h = subst (λ x. IfSome x P) (sym e) h

pub not_both : {A : Type 0} (o : Option code.Went) (end : code.Went) → o ≡ None → o ≡ Some end → A
not_both o end a b = absurd (let x = sym a ∙ b in cc)
