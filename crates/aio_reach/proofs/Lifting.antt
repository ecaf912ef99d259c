-- What a call of one part comes to is what the router's does.
use Rattle.std.proofs.Common.{ℕ, ℤ, inl, inr, List, Option, Some, None, refl, ap, arith}
use Rattle.std.proofs.Math.Logic.{∥∥₁_map}
use Rattle.model_value.specs.Value.{Value}
use Rattle.model_loop.specs.Loop.{Loop}
use Rattle.model_loop.specs.Parts.{Parts}
use Rattle.model_machine.specs.Extra as extra
use Rattle.model_machine.specs.Extra.{ExtraAnswer, ExtraCall, ExtraSaid, ExtraStep, called, made_by_all, unknown_code}
use Rattle.model_machine.specs.Sound.{AreKept, Ids, ids_of}
use Rattle.model_machine.specs.State.{State}
use Rattle.model_reach.specs.Part.{refuses, stays}
use Rattle.model_reach.specs.Reach.{called_by, said_by, seen_by}
use Rattle.law_runs.specs.Allowed.{AreAllowed, IsAmong, Owns}
use Rattle.law_runs.proofs.Steps.{all_after}
use Rattle.aio_task.specs.Keeps.{Extends, NameMap}
use Rattle.aio_task.specs.View.{View}
use Rattle.aio_extra.specs.Added.{Added, GoesBeside, IsNamed}
use Rattle.aio_extra.specs.Called.{AnswersAs, CallsAs, IsAskedOf, IsServed, MayAsk, MayServe, SaysAs}
use Rattle.aio_extra.specs.declared.asked.Asked.{Asked}
use Rattle.aio_extra.specs.declared.asked.Asked.TheVariants.{Answer, Raise, Wait, Outside}

-- ---- what steps leave to the others
beside : (owned : ℕ → Type 0) (own : Owns) (t : NameMap) (steps : List ExtraStep) (l : Loop) → AreAllowed own steps l → (u : NameMap)
    → Extends l.parts t (made_by_all steps l).parts u → GoesBeside owned t l.parts u (made_by_all steps l).parts
beside owned own t steps l may u e =
    let a = (all_after None own steps l may).parts in
    record {
      known = e.known;
      tags = e.tags;
      gone = λ id mine. ap (λ f. f id) e.gone;
      futures = a.futures;
      plain = a.plain;
      owners = a.owners;
    }

-- a part in the whole, in code and in the machine
pub record Holds {R X : Type 0} (whole : Added R) (a : Added X) : Type 0 where
  pub get : R → X
  pub put : X → R → R
  pub part : whole.Kept → a.Kept
  pub back : a.Kept → whole.Kept → whole.Kept
  pub stands : (t : NameMap) (p : Parts) (x : R) (kept : whole.Kept) → whole.stands t p x kept → a.stands t p (get x) (part kept)
  pub kept : (ids : Ids) (kept : whole.Kept) (futures : List ℕ) (p : Parts) → AreKept ids (whole.meaning.keeps kept) futures p
      → AreKept ids (a.meaning.keeps (part kept)) futures p
  pub stands_put : (t u : NameMap) (p q : Parts) (x : R) (kept : whole.Kept) (y : X) (it : a.Kept) → whole.stands t p x kept
      → GoesBeside (IsAmong (whole.meaning.keeps kept).own) t p u q → a.stands u q y it → whole.stands u q (put y x) (back it kept)
  pub own_put : (it : a.Kept) (kept : whole.Kept) (id : ℕ) → IsAmong (a.meaning.keeps it).own id
      → IsAmong (whole.meaning.keeps (back it kept)).own id

module _ {R X : Type 0} {whole : Added R} {a : Added X} (holds : Holds whole a) where
  module _ (running : Option ℕ) (t : NameMap) (s : State whole.Kept) (x : R) (v : View) (h : IsServed whole running t s x v) where
    pub served : IsServed a running t (seen_by (holds.part s.extra) s) (holds.get x) v
    served = record {
      keeps = h.keeps;
      stands = holds.stands t s.loop.parts x s.extra h.stands;
      called = h.called;
      runs = h.runs;
      may = record {
        loop = h.may.loop;
        kept = holds.kept (ids_of s) s.extra s.futures s.loop.parts h.may.kept;
        scripts = h.may.scripts;
        outcomes = h.may.outcomes;
      };
      there = h.there;
      rules = h.rules;
    }

    pub calls : (own : Owns) (y : X) (w : View) (call : ExtraCall a.Kept) → AreAllowed own call.steps s.loop
        → CallsAs a t (seen_by (holds.part s.extra) s) v w y call
        → CallsAs whole t s v w (holds.put y x) (called_by (λ it. holds.back it s.extra) call)
    calls own y w call may c = record {
      name_map = c.name_map;
      keeps = c.keeps;
      extends = c.extends;
      stands = holds.stands_put t c.name_map s.loop.parts (made_by_all call.steps s.loop).parts x s.extra y call.state h.stands
          (beside (IsAmong (whole.meaning.keeps s.extra).own) own t call.steps s.loop may c.name_map c.extends) c.stands;
      below = c.below;
      profile = c.profile;
      called = c.called;
      running = c.running;
    }

    named : (it : a.Kept) (on : ℕ) → IsNamed s.futures (IsAmong (a.meaning.keeps it).own) on
        → IsNamed s.futures (IsAmong (whole.meaning.keeps (holds.back it s.extra)).own) on
    named it on (inl script) = inl script
    named it on (inr own) = inr (holds.own_put it s.extra on own)

    answers : (call : ExtraCall a.Kept) (u : NameMap) (asked : Asked) (answer : ExtraAnswer)
        → AnswersAs a u (called call (seen_by (holds.part s.extra) s)) asked answer
        → AnswersAs whole u (called (called_by (λ it. holds.back it s.extra) call) s) asked answer
    answers call u (Answer value) (extra.Answers other) e = e
    answers call u (Raise fault) (extra.Raises other) e = e
    answers call u (Wait on key) (extra.Waits future kept) e = (e.0, e.1, e.2, λ one. named call.state on (e.3 one))
    answers call u (Outside code bytes key) (extra.Asks other piece last) e = e
    answers call u (Answer value) (extra.Raises other) e = absurd e
    answers call u (Answer value) (extra.Waits future key) e = absurd e
    answers call u (Answer value) (extra.Asks code bytes key) e = absurd e
    answers call u (Raise fault) (extra.Answers other) e = absurd e
    answers call u (Raise fault) (extra.Waits future key) e = absurd e
    answers call u (Raise fault) (extra.Asks code bytes key) e = absurd e
    answers call u (Wait on key) (extra.Answers other) e = absurd e
    answers call u (Wait on key) (extra.Raises other) e = absurd e
    answers call u (Wait on key) (extra.Asks code bytes other) e = absurd e
    answers call u (Outside code bytes key) (extra.Answers other) e = absurd e
    answers call u (Outside code bytes key) (extra.Raises other) e = absurd e
    answers call u (Outside code bytes key) (extra.Waits future other) e = absurd e

    pub says : (own : Owns) (y : X) (w : View) (asked : Asked) (said : ExtraSaid a.Kept) → AreAllowed own said.call.steps s.loop
        → SaysAs a t (seen_by (holds.part s.extra) s) v w y asked said
        → SaysAs whole t s v w (holds.put y x) asked (said_by (λ it. holds.back it s.extra) said)
    unfolding calls
    says own y w asked said may c = record {
      calls = calls own y w said.call may c.calls;
      answers = answers said.call c.calls.name_map asked said.answer c.answers;
    }

  -- ---- what a call wants
  pub may : (running : Option ℕ) (x : R) (v : View) → MayServe whole running x v → MayServe a running (holds.get x) v
  may running x v m = ∥∥₁_map m (λ w. (w.0, (seen_by (holds.part w.1.0.extra) w.1.0, served running w.0 w.1.0 x v w.1.1)))

  pub asked_of : (task : ℕ) (t : NameMap) (s : State whole.Kept) (futures : List ℕ) (arguments : Value) (items : List Value) (x : R) (v : View)
      → IsAskedOf whole task t s futures arguments items x v
      → IsAskedOf a task t (seen_by (holds.part s.extra) s) futures arguments items (holds.get x) v
  asked_of task t s futures arguments items x v h =
      record { served = served (Some task) t s x v h.served; named = h.named; listed = h.listed; made = h.made }

  pub may_ask : (task : ℕ) (futures : List ℕ) (arguments : Value) (x : R) (v : View) → MayAsk whole task futures arguments x v
      → MayAsk a task futures arguments (holds.get x) v
  may_ask task futures arguments x v m =
      ∥∥₁_map m (λ w. (w.0, (seen_by (holds.part w.1.0.extra) w.1.0, (w.1.1.0, asked_of task w.0 w.1.0 futures arguments w.1.1.0 x v w.1.1.1))))

-- what is asked of nobody
pub nobody_says : {R : Type 0} (whole : Added R) (running : Option ℕ) (t : NameMap) (s : State whole.Kept) (x : R) (v : View)
    → IsServed whole running t s x v → (code : ℤ) → SaysAs whole t s v v x (Raise (unknown_code code)) (refuses (unknown_code code) s.extra)
nobody_says whole running t s x v h code = record {
  calls = record {
    name_map = t;
    keeps = h.keeps;
    extends = record { known = λ tag given. refl; tags = omega arith; gone = refl; bar = refl };
    stands = h.stands;
    below = refl;
    profile = refl;
    called = refl;
    running = refl;
  };
  answers = refl;
}

pub nobody_calls : {R : Type 0} (whole : Added R) (running : Option ℕ) (t : NameMap) (s : State whole.Kept) (x : R) (v : View)
    → IsServed whole running t s x v → CallsAs whole t s v v x (stays s.extra)
nobody_calls whole running t s x v h = record {
  name_map = t;
  keeps = h.keeps;
  extends = record { known = λ tag given. refl; tags = omega arith; gone = refl; bar = refl };
  stands = h.stands;
  below = refl;
  profile = refl;
  called = refl;
  running = refl;
}
