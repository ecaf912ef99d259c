-- What a call of what is added leaves of a sound state: whatever it keeps then was made.
use Rattle.std.proofs.Common.{◌≡◌, ℕ, true, List, [], ◌∷◌, ◌++◌, Option, Some, None, refl, sym, ap, ◌∙◌}
use Rattle.std.proofs.lemmas.Bool.{false≢true}
use Rattle.model_value.specs.Value.{Outcome}
use Rattle.model_value.specs.declared.outcome.Outcome.TheVariants.{Value as Returned, Failed, Cancelled}
use Rattle.model_wire.specs.declared.answer.Answer.TheVariants as answer
use Rattle.model_wire.specs.declared.event.Event.TheVariants as event
use Rattle.model_wire.specs.Call.{Answer, Call}
use Rattle.model_wire.specs.Journal.{Entry}
use Rattle.model_loop.specs.Futures.{future_outcome}
use Rattle.model_loop.specs.Loop.{Loop}
use Rattle.model_machine.specs.Extra.{Extra, ExtraCall, ExtraSaid, ExtraStep, Keeping, called, key_of, made_by_all}
use Rattle.model_machine.specs.Outcomes.{input_of}
use Rattle.model_machine.specs.Replies.{input_by}
use Rattle.model_machine.specs.Sound.{AreKept, AreKeysKept, Ids, IsFree, IsSoundBut, IsSoundOver, ids_of, sends_made}
use Rattle.model_machine.specs.State.{Generator, Serving, State, in_loop, noted}
use Rattle.model_machine.specs.Told.{told_in}
use Rattle.law_turns.proofs.TreeSteps.{told_in-none}
use Rattle.law_turns.proofs.Turning.{as_told}
use Rattle.law_replies.specs.InStep.{MayStandAt}
use Rattle.law_replies.proofs.Answering.{plain_futures}
use Rattle.law_replies.proofs.Ids.{IsMore, as_many, loop_more, names_up}
use Rattle.law_replies.proofs.Kept.{futures_stay, kept_more, kept_on}
use Rattle.law_replies.proofs.Table.{same_tapes}
use Rattle.law_runs.specs.Allowed.{AreAllowed, IsCallAllowed, IsKeyAllowed, IsSaidAllowed, MayCall, Owns, owns_at}
use Rattle.law_runs.proofs.Steps.{all_after, all_sound}

-- ---- what it may rely on
pub may_call : {S : Type 0} (added : Extra S) {Blocks : Type 0} (running excused : Option ℕ) (s : State S)
    → IsSoundOver Blocks running excused added s → MayCall added running s
may_call added running excused s is = record {
  loop = is.loop;
  kept = is.kept;
  scripts = plain_futures s is.futures;
  outcomes = is.made.outcomes;
}

-- ---- its own state is another
pub extra_replaced : {S : Type 0} (added : Extra S) (running excused : Option ℕ) (s : State S) (extra : S)
    → AreKept (ids_of s) (added.keeps extra) s.futures s.loop.parts → AreKeysKept (added.keeps extra).has_key s.generators → IsSoundBut running excused added s
    → IsSoundBut running excused added (record s { extra = extra })
extra_replaced added running excused s extra kept keys is = record {
  loop = is.loop;
  generators = is.generators;
  asking = λ task l f. let a = is.asking task l f in record { asked = a.asked; says = a.says; stands = a.stands };
  unbegun = is.unbegun;
  main_over = is.main_over;
  main_told = is.main_told;
  resume_point = λ task l f.
      let a = is.resume_point task l f in
      record { sleeping = a.sleeping; leaving = a.leaving; leaving_now = a.leaving_now; opened = a.opened };
  exits = is.exits;
  blocks = record { timeouts = is.blocks.timeouts; groups = is.blocks.groups; entered = is.blocks.entered; own = is.blocks.own };
  streams = is.streams;
  kept_once = is.kept_once;
  futures = record { plain = is.futures.plain; once = is.futures.once; apart = is.futures.apart };
  made = record { arguments = is.made.arguments; tape = is.made.tape; outcomes = is.made.outcomes };
  kept = kept;
  keys = keys;
}

-- ---- keys
-- nobody stands under the key that it is woken under
abbrev pub IsWokenFree : List Generator → (woken : Option ℕ) → Type 0
IsWokenFree generators woken = (key : ℕ) → woken ≡ Some key → IsFree generators key

pub none_free : (generators : List Generator) → IsWokenFree generators None
none_free generators key e = absurd (cc)

pub keys_called : {S : Type 0} (added : Extra S) (woken : Option ℕ) (call : ExtraCall S) (s : State S) → IsWokenFree s.generators woken
    → IsCallAllowed added woken call s → AreKeysKept (added.keeps s.extra).has_key s.generators
    → AreKeysKept (added.keeps call.state).has_key s.generators
keys_called added woken call s free may is = record {
  known = λ task key e. may.keys key (λ same. free key same task e) (is.known task key e);
  once = is.once;
}

pub keys_act : {S : Type 0} (added : Extra S) (call : ExtraCall S) (s : State S) → IsCallAllowed added None call s
    → AreKeysKept (added.keeps s.extra).has_key s.generators → AreKeysKept (added.keeps call.state).has_key s.generators
keys_act added call s may is = keys_called added None call s (none_free s.generators) may is

-- under the key that an answer keeps nobody stands
answer_free : {S : Type 0} (added : Extra S) (woken : Option ℕ) (before after : Keeping) (generators : List Generator)
    → IsWokenFree generators woken → AreKeysKept before.has_key generators → (key : ℕ) → IsKeyAllowed woken before after key
    → MayStandAt after.has_key generators (Serving key)
answer_free added None before after generators free is key may = (λ task e. false≢true (sym may.0 ∙ is.known task key e), may.1)
answer_free added (Some woken) before after generators free is key may = (free key (ap Some (sym may.0)), may.1)

pub said_free : {S : Type 0} (added : Extra S) (woken : Option ℕ) (said : ExtraSaid S) (s : State S) → IsWokenFree s.generators woken
    → IsSaidAllowed added woken said s → AreKeysKept (added.keeps s.extra).has_key s.generators → (key : ℕ) → key_of said.answer ≡ Some key
    → MayStandAt (added.keeps said.call.state).has_key s.generators (Serving key)
said_free added woken said s free may is key e =
    answer_free added woken (added.keeps s.extra) (added.keeps said.call.state) s.generators free is key (may.key key e)

-- ---- whatever was made stays so
pub called_more : {S : Type 0} (added : Extra S) (call : ExtraCall S) (s : State S)
    → AreAllowed (owns_at (ids_of s) (added.keeps s.extra) s.loop.parts) call.steps s.loop → IsMore (ids_of s) (ids_of (called call s))
called_more added call s may =
    loop_more s (in_loop (made_by_all call.steps) s) (same_tapes s (made_by_all call.steps s.loop))
    (all_after None (owns_at (ids_of s) (added.keeps s.extra) s.loop.parts) call.steps s.loop may)

pub called_kept : {S : Type 0} (added : Extra S) (woken : Option ℕ) (call : ExtraCall S) (s : State S) → IsCallAllowed added woken call s
    → AreKept (ids_of (called call s)) (added.keeps call.state) s.futures (made_by_all call.steps s.loop).parts
called_kept added woken call s may =
    kept_more (ids_of s) (ids_of (called call s)) (called_more added call s may.steps) (added.keeps call.state) s.futures
    (made_by_all call.steps s.loop).parts may.kept

-- ---- from the state after a call, and after what the outside answered, a call may be made again
pub may_on : {S : Type 0} (added : Extra S) (running woken : Option ℕ) (call : ExtraCall S) (s : State S) → IsCallAllowed added woken call s
    → MayCall added running s → MayCall added running (called call s)
may_on added running woken call s may is =
    let own = owns_at (ids_of s) (added.keeps s.extra) s.loop.parts in
    let a = all_after None own call.steps s.loop may.steps in
    record {
      loop = all_sound running (told_in s.events) own call.steps s.loop may.steps is.loop;
      kept = called_kept added woken call s may;
      scripts = λ place id e. a.parts.plain id (is.scripts place id e);
      outcomes = λ id value e.
          names_up (ids_of s) (ids_of (called call s)) (called_more added call s may.steps) value (a.parts.outcomes is.outcomes id value e);
    }

pub may_heard : {S : Type 0} (added : Extra S) (running : Option ℕ) (call : Call) (answer : Answer) (left : List Entry) (s : State S)
    → MayCall added running s → MayCall added running (noted (event.Got answer) (record (noted (event.Called call) s) { answers = left }))
may_heard added running call answer left s is =
    let asked = s.events ++ event.Called call ∷ [] in
    record {
      loop =
          as_told running (told_in s.events) (told_in (asked ++ event.Got answer ∷ [])) s.loop
          (λ group. told_in-none asked (event.Got answer ∷ []) (λ any. refl) group
          ∙ told_in-none s.events (event.Called call ∷ []) (λ any. refl) group) is.loop;
      kept = is.kept;
      scripts = is.scripts;
      outcomes = is.outcomes;
    }

-- how a future ended names what was made
pub ended_sends : {S : Type 0} (added : Extra S) (running : Option ℕ) (s : State S) → MayCall added running s → (id : ℕ) (outcome : Outcome)
    → future_outcome s.loop.parts id ≡ Some outcome → sends_made (ids_of s) (input_of outcome) ≡ true
ended_sends added running s is id (Returned value) e = is.outcomes id value e
ended_sends added running s is id (Failed fault) e = refl
ended_sends added running s is id Cancelled e = refl

-- what the outside answered names nothing
pub answer_sends : (n : Ids) (said : Answer) → sends_made n (input_by said) ≡ true
answer_sends n (answer.Extra bytes) = refl
answer_sends n _ = refl

-- ---- whatever was kept stays right through allowed steps
pub steps_keep : {ids : Ids} (own : Owns) (keeping : Keeping) (futures : List ℕ) (steps : List ExtraStep) (l : Loop) → AreAllowed own steps l
    → AreKept ids keeping futures l.parts → AreKept ids keeping futures (made_by_all steps l).parts
steps_keep {ids = ids} own keeping futures steps l may is =
    let a = all_after None own steps l may in
    kept_on _ _ None futures futures l.parts (made_by_all steps l).parts a.parts futures_stay ids ids (as_many ids) keeping is
