-- A part of four: what its call comes to is what the whole's does.
use Rattle.std.proofs.Common.{◌≡◌, ℕ, ℤ, true, List, Option, Some, None, sym, ap, subst, ◌∙◌}
use Rattle.std.specs.Prelude.{is_some}
use Rattle.std.proofs.lemmas.Bool.{false≢true}
use Rattle.model_value.specs.Input.{Input}
use Rattle.model_value.specs.Value.{Value}
use Rattle.model_machine.specs.Extra.{Extra, ExtraCall, ExtraSaid, unknown_code}
use Rattle.model_machine.specs.Sound.{ids_of, sends_made}
use Rattle.model_machine.specs.State.{State}
use Rattle.model_reach.specs.Part.{refuses, stays}
use Rattle.model_reach.specs.Reach.{Part, called_by, part_as, part_of_code, part_of_key, said_by, seen_by}
use Rattle.law_runs.specs.Allowed.{AreAllowed, MayCall, owns_at}
use Rattle.aio_task.specs.Keeps.{NameMap}
use Rattle.aio_task.specs.View.{View}
use Rattle.aio_extra.specs.Added.{Added}
use Rattle.aio_extra.specs.Called.{CallsAs, IsAskedOf, IsServed, SaysAs}
use Rattle.aio_extra.specs.declared.asked.Asked.{Asked}
use Rattle.aio_extra.specs.declared.asked.Asked.TheVariants.{Raise}
use Rattle.aio_reach.specs.declared.four.Four.{Four}
use Rattle.aio_reach.specs.Called.{Acts, Asks, Hears, Wakes}
use Rattle.aio_reach.specs.Fours.{AreKeyed, FourKept, four_added}
use Rattle.aio_reach.proofs.Lifting.{Holds, asked_of, calls, nobody_calls, nobody_says, says, served}

module _ {X Y Z W : Type 0} (a : Added X) (b : Added Y) (c : Added Z) (d : Added W) where
  abbrev in_part : Part → Extra (FourKept a b c d)
  in_part = part_as a.meaning b.meaning c.meaning d.meaning

  -- what is asked, and heard, where the code is of this part
  abbrev asked_at : (task : ℕ) (code : ℤ) (items : List Value) (s : State (FourKept a b c d)) → Option Part → ExtraSaid (FourKept a b c d)
  asked_at task code items s o = elim o [ None ↦ refuses (unknown_code code) s.extra | Some part ↦ (in_part part).ask task code items s ]

  abbrev heard_at : (code : ℤ) (bytes : List ℕ) (s : State (FourKept a b c d)) → Option Part → ExtraCall (FourKept a b c d)
  heard_at code bytes s o = elim o [ None ↦ stays s.extra | Some part ↦ (in_part part).item code bytes s ]

  module _ {V : Type 0} (keyed : AreKeyed a b c d) (e : Added V) (this : Part) (holds : Holds (four_added a b c d keyed) e) where
    -- the part at `this` means what the whole does there
    pub record IsPart : Type 0 where
      pub ask : (task : ℕ) (code : ℤ) (items : List Value) (s : State (FourKept a b c d))
          → said_by (λ it. holds.back it s.extra) (e.meaning.ask task code items (seen_by (holds.part s.extra) s)) ≡ (in_part this).ask task code items s
      pub wake : (key : ℕ) (input : Input) (s : State (FourKept a b c d))
          → said_by (λ it. holds.back it s.extra) (e.meaning.wake key input (seen_by (holds.part s.extra) s)) ≡ (in_part this).wake key input s
      pub act : (key : ℕ) (s : State (FourKept a b c d))
          → called_by (λ it. holds.back it s.extra) (e.meaning.act key (seen_by (holds.part s.extra) s)) ≡ (in_part this).act key s
      pub item : (code : ℤ) (bytes : List ℕ) (s : State (FourKept a b c d))
          → called_by (λ it. holds.back it s.extra) (e.meaning.item code bytes (seen_by (holds.part s.extra) s)) ≡ (in_part this).item code bytes s
      pub keys : (kept : FourKept a b c d) (key : ℕ) → ((in_part this).keeps kept).has_key key ≡ (e.meaning.keeps (holds.part kept)).has_key key

-- ---- what a part is called for
wake_allowed : {V : Type 0} (e : Added V) (running : Option ℕ) → is_some running ≡ true → (key : ℕ) (input : Input) (s : State e.Kept)
    → MayCall e.meaning running s → (e.meaning.keeps s.extra).has_key key ≡ true → sends_made (ids_of s) input ≡ true
    → AreAllowed (owns_at (ids_of s) (e.meaning.keeps s.extra) s.loop.parts) (e.meaning.wake key input s).call.steps s.loop
wake_allowed e None runs key input s may known made = absurd (false≢true runs)
wake_allowed e (Some task) runs key input s may known made = (e.allowed.wake task key input s may known made).call.steps

module _ {X Y Z W V : Type 0} {a : Added X} {b : Added Y} {c : Added Z} {d : Added W} {keyed : AreKeyed a b c d} {e : Added V} {this : Part}
    {holds : Holds (four_added a b c d keyed) e} (is : IsPart a b c d keyed e this holds) (x : Four X Y Z W) (y : V) (v w : View) where
  abbrev whole : Added (Four X Y Z W)
  whole = four_added a b c d keyed

  -- a handle runs
  pub acts : (key : ℕ) → part_of_key key ≡ this
      → ((t : NameMap) (s : State e.Kept) → IsServed e None t s (holds.get x) v → CallsAs e t s v w y (e.meaning.act key s))
      → Acts (four_added a b c d keyed) x (holds.put y x) v w key
  acts key mine so = record {
    calls = λ t s h.
        subst (λ part. CallsAs whole t s v w (holds.put y x) ((in_part a b c d part).act key s)) (sym mine)
        (subst (CallsAs whole t s v w (holds.put y x)) (is.act key s)
        (calls holds None t s x v h (owns_at (ids_of s) (e.meaning.keeps (holds.part s.extra)) s.loop.parts) y w
        (e.meaning.act key (seen_by (holds.part s.extra) s))
        (e.allowed.act key (seen_by (holds.part s.extra) s) (served holds None t s x v h).may).steps
        (so t (seen_by (holds.part s.extra) s) (served holds None t s x v h))));
  }

  -- a wait is over
  knows : (s : State (FourKept a b c d)) (key : ℕ) → part_of_key key ≡ this → (whole.meaning.keeps s.extra).has_key key ≡ true
      → (e.meaning.keeps (holds.part s.extra)).has_key key ≡ true
  knows s key mine known =
      sym (is.keys s.extra key) ∙ sym (ap (λ part. ((in_part a b c d part).keeps s.extra).has_key key) mine) ∙ known

  pub wakes : is_some v.running ≡ true → (key : ℕ) (input : Input) (asked : Asked) → part_of_key key ≡ this
      → ((t : NameMap) (s : State e.Kept) → IsServed e v.running t s (holds.get x) v → (e.meaning.keeps s.extra).has_key key ≡ true
      → sends_made (ids_of s) input ≡ true → SaysAs e t s v w y asked (e.meaning.wake key input s))
      → Wakes (four_added a b c d keyed) x (holds.put y x) v w key input asked
  wakes runs key input asked mine so = record {
    says = λ t s h known made.
        let seen = seen_by (holds.part s.extra) s in
        subst (λ part. SaysAs whole t s v w (holds.put y x) asked ((in_part a b c d part).wake key input s)) (sym mine)
        (subst (SaysAs whole t s v w (holds.put y x) asked) (is.wake key input s)
        (says holds v.running t s x v h (owns_at (ids_of s) (e.meaning.keeps (holds.part s.extra)) s.loop.parts) y w asked (e.meaning.wake key input seen)
        (wake_allowed e v.running runs key input seen (served holds v.running t s x v h).may (knows s key mine known) made)
        (so t seen (served holds v.running t s x v h) (knows s key mine known) made)));
  }

  -- a request
  pub asks : (task : ℕ) (code heard : ℤ) → heard ≡ code → part_of_code code ≡ Some this
      → (futures : List ℕ) (arguments : Value) (asked : Asked)
      → ((t : NameMap) (s : State e.Kept) (items : List Value) → IsAskedOf e task t s futures arguments items (holds.get x) v
      → SaysAs e t s v w y asked (e.meaning.ask task heard items s))
      → Asks (four_added a b c d keyed) x (holds.put y x) v w task code futures arguments asked
  asks task code heard same mine futures arguments asked so = record {
    says = λ t s items h.
        let seen = seen_by (holds.part s.extra) s in
        subst (λ o. SaysAs whole t s v w (holds.put y x) asked (asked_at a b c d task code items s o)) (sym mine)
        (subst (SaysAs whole t s v w (holds.put y x) asked) (is.ask task code items s)
        (says holds (Some task) t s x v h.served (owns_at (ids_of s) (e.meaning.keeps (holds.part s.extra)) s.loop.parts) y w asked
        (e.meaning.ask task code items seen)
        (e.allowed.ask task code items seen (served holds (Some task) t s x v h.served).may h.made).call.steps
        (subst (λ n. SaysAs e t seen v w y asked (e.meaning.ask task n items seen)) same
        (so t seen items (asked_of holds task t s futures arguments items x v h)))));
  }

  -- news of the outside
  pub hears : (code heard : ℤ) → heard ≡ code → part_of_code code ≡ Some this → (bytes : List ℕ)
      → ((t : NameMap) (s : State e.Kept) → IsServed e None t s (holds.get x) v → CallsAs e t s v w y (e.meaning.item heard bytes s))
      → Hears (four_added a b c d keyed) x (holds.put y x) v w code bytes
  hears code heard same mine bytes so = record {
    calls = λ t s h.
        let seen = seen_by (holds.part s.extra) s in
        subst (λ o. CallsAs whole t s v w (holds.put y x) (heard_at a b c d code bytes s o)) (sym mine)
        (subst (CallsAs whole t s v w (holds.put y x)) (is.item code bytes s)
        (calls holds None t s x v h (owns_at (ids_of s) (e.meaning.keeps (holds.part s.extra)) s.loop.parts) y w (e.meaning.item code bytes seen)
        (e.allowed.item code bytes seen (served holds None t s x v h).may).steps
        (subst (λ n. CallsAs e t seen v w y (e.meaning.item n bytes seen)) same (so t seen (served holds None t s x v h)))));
  }

-- ---- nobody's code
module _ {X Y Z W : Type 0} (a : Added X) (b : Added Y) (c : Added Z) (d : Added W) (keyed : AreKeyed a b c d) (x : Four X Y Z W) (v : View) where
  abbrev four : Added (Four X Y Z W)
  four = four_added a b c d keyed

  pub nobody_asks : (task : ℕ) (code : ℤ) → part_of_code code ≡ None → (futures : List ℕ) (arguments : Value)
      (asked : Asked) → asked ≡ Raise (unknown_code code) → Asks (four_added a b c d keyed) x x v v task code futures arguments asked
  nobody_asks task code none futures arguments asked is = record {
    says = λ t s items h.
        subst (λ it. SaysAs four t s v v x it (asked_at a b c d task code items s (part_of_code code))) (sym is)
        (subst (λ o. SaysAs four t s v v x (Raise (unknown_code code)) (asked_at a b c d task code items s o)) (sym none)
        (nobody_says four (Some task) t s x v h.served code));
  }

  pub nobody_hears : (code : ℤ) → part_of_code code ≡ None → (bytes : List ℕ) → Hears (four_added a b c d keyed) x x v v code bytes
  nobody_hears code none bytes = record {
    calls = λ t s h.
        subst (λ o. CallsAs four t s v v x (heard_at a b c d code bytes s o)) (sym none) (nobody_calls four None t s x v h);
  }
