-- A give to a head is one to a lane of its child, and one to the lanes of all children.
use Rattle.std.proofs.Common.{◌≡◌, ℕ, zero, suc, ◌^◌, ◌<◌, ◌≤◌, ◌==◌, Bool, true, false, cond, ◌&&◌, List, [], ◌∷◌, ◌++◌, Option}
use Rattle.std.proofs.Common.{Some, None, length, get_or, refl, sym, ap, ◌∙◌, subst, append-nil, length-append, eq-eqb, arith}
use Rattle.std.specs.Prelude.{is_some, slice_set}
use Rattle.std.proofs.lemmas.Bool.{false≢true, eqb-true}
use Rattle.std.proofs.lemmas.Option.{slice_get_past, slice_get-get_or}
use Rattle.model_pump.specs.Commands.{Command}
use Rattle.model_hub.specs.declared.giving.Giving.{Giving}
use Rattle.model_hub.specs.declared.giving.Giving.TheVariants as giving
use Rattle.model_hub.specs.declared.pump.Pump.{Pump}
use Rattle.model_hub.specs.declared.pump.Pump.TheVariants as pump
use Rattle.model_hub.specs.Lanes.{if_given}
use Rattle.aio_lane.specs.Ends.{HeadSeen, GiveAnswers}
use Rattle.aio_lane.specs.declared.command.Giving.{Giving as Answer}
use Rattle.aio_lane.specs.declared.command.Giving.TheVariants as answer
use Rattle.aio_serving.specs.Heads.{is_same_pump, Gives}
use Rattle.aio_lanes.specs.declared.child_lanes.ChildLanes.{ChildLanes}
use Rattle.aio_lanes.specs.Given.{said_by, given_to, fulls_of, GivesTo, lanes_at, given_at, fulls_at, seen_of}

-- ---- one head
record GivesHead (command : Command) (said : Giving) (old new : HeadSeen) : Type 0 where
  given : new.given ≡ old.given ++ if_given true said command
  fulls : old.fulls ≤ new.fulls
  few : length old.given ≤ 2 ^ 61 → length new.given ≤ 2 ^ 61
  full : said ≡ giving.Full → old.fulls < new.fulls
  spent : said ≡ giving.Spent → 2 ^ 61 ≤ length new.given
  lane : new.lane ≡ old.lane

head_gives : (command : Command) (said : Answer) (old new : HeadSeen) → GiveAnswers old command said new → GivesHead command (said_by said) old new
head_gives command answer.Given old new gives =
    record {
      given = ap (λ (h : HeadSeen). h.given) gives.0;
      fulls = omega (arith, ap (λ (h : HeadSeen). h.fulls) gives.0);
      few = λ h.
          omega (arith, ap length (ap (λ (h : HeadSeen). h.given) gives.0), length-append old.given (command ∷ []), gives.1);
      full = λ h. absurd (cc);
      spent = λ h. absurd (cc);
      lane = ap (λ (h : HeadSeen). h.lane) gives.0;
    }
head_gives command (answer.Full back) old new gives =
    record {
      given = ap (λ (h : HeadSeen). h.given) gives.1 ∙ sym (append-nil old.given);
      fulls = omega (arith, ap (λ (h : HeadSeen). h.fulls) gives.1);
      few = λ h. omega (arith, h, ap length (ap (λ (h : HeadSeen). h.given) gives.1));
      full = λ h. omega (arith, ap (λ (h : HeadSeen). h.fulls) gives.1);
      spent = λ h. absurd (cc);
      lane = ap (λ (h : HeadSeen). h.lane) gives.1;
    }
head_gives command (answer.Spent back) old new gives =
    record {
      given = ap (λ (h : HeadSeen). h.given) gives.1 ∙ sym (append-nil old.given);
      fulls = omega (arith, ap (λ (h : HeadSeen). h.fulls) gives.1);
      few = λ h. omega (arith, h, ap length (ap (λ (h : HeadSeen). h.given) gives.1));
      full = λ h. absurd (cc);
      spent = λ h. omega (arith, ap length (ap (λ (h : HeadSeen). h.given) gives.1), gives.2);
      lane = ap (λ (h : HeadSeen). h.lane) gives.1;
    }

nothing_more : (xs : List Command) → xs ≡ xs ++ []
nothing_more xs = sym (append-nil xs)

module _ {Run : Type 0} (command : Command) (said : Answer) (stdin out errs new : HeadSeen) (run : Run) where
  abbrev lanes : ChildLanes Run
  lanes = record { stdin = stdin; out = out; errs = errs; run = run }

  abbrev with_stdin : ChildLanes Run
  with_stdin = record { stdin = new; out = out; errs = errs; run = run }

  module _ (it : GivesHead command (said_by said) stdin new) where
    given_stdin : (other : Pump)
        → given_to other with_stdin ≡ given_to other lanes ++ cond (is_same_pump other pump.Stdin) (if_given true (said_by said) command) []
    given_stdin pump.Stdin = it.given
    given_stdin pump.Out = nothing_more out.given
    given_stdin pump.Errs = nothing_more errs.given
    given_stdin pump.Exit = refl

    fulls_stdin : (other : Pump) → fulls_of other lanes ≤ fulls_of other with_stdin
    fulls_stdin pump.Stdin = it.fulls
    fulls_stdin pump.Out = omega arith
    fulls_stdin pump.Errs = omega arith
    fulls_stdin pump.Exit = omega arith

    few_stdin : (other : Pump) → length (given_to other lanes) ≤ 2 ^ 61 → length (given_to other with_stdin) ≤ 2 ^ 61
    few_stdin pump.Stdin h = it.few h
    few_stdin pump.Out h = h
    few_stdin pump.Errs h = h
    few_stdin pump.Exit h = h

  pub gives_stdin : GiveAnswers stdin command said new → GivesTo pump.Stdin command (said_by said) lanes with_stdin
  gives_stdin gives =
      let it = head_gives command said stdin new gives in
      record {
        given = given_stdin it;
        fulls = fulls_stdin it;
        few = few_stdin it;
        full = it.full;
        spent = it.spent;
        run = refl;
        named = (it.lane, refl, refl);
      }

  abbrev with_out : ChildLanes Run
  with_out = record { stdin = stdin; out = new; errs = errs; run = run }

  module _ (it : GivesHead command (said_by said) out new) where
    given_out : (other : Pump)
        → given_to other with_out ≡ given_to other lanes ++ cond (is_same_pump other pump.Out) (if_given true (said_by said) command) []
    given_out pump.Stdin = nothing_more stdin.given
    given_out pump.Out = it.given
    given_out pump.Errs = nothing_more errs.given
    given_out pump.Exit = refl

    fulls_out : (other : Pump) → fulls_of other lanes ≤ fulls_of other with_out
    fulls_out pump.Stdin = omega arith
    fulls_out pump.Out = it.fulls
    fulls_out pump.Errs = omega arith
    fulls_out pump.Exit = omega arith

    few_out : (other : Pump) → length (given_to other lanes) ≤ 2 ^ 61 → length (given_to other with_out) ≤ 2 ^ 61
    few_out pump.Stdin h = h
    few_out pump.Out h = it.few h
    few_out pump.Errs h = h
    few_out pump.Exit h = h

  pub gives_out : GiveAnswers out command said new → GivesTo pump.Out command (said_by said) lanes with_out
  gives_out gives =
      let it = head_gives command said out new gives in
      record {
        given = given_out it;
        fulls = fulls_out it;
        few = few_out it;
        full = it.full;
        spent = it.spent;
        run = refl;
        named = (refl, it.lane, refl);
      }

  abbrev with_errs : ChildLanes Run
  with_errs = record { stdin = stdin; out = out; errs = new; run = run }

  module _ (it : GivesHead command (said_by said) errs new) where
    given_errs : (other : Pump)
        → given_to other with_errs ≡ given_to other lanes ++ cond (is_same_pump other pump.Errs) (if_given true (said_by said) command) []
    given_errs pump.Stdin = nothing_more stdin.given
    given_errs pump.Out = nothing_more out.given
    given_errs pump.Errs = it.given
    given_errs pump.Exit = refl

    fulls_errs : (other : Pump) → fulls_of other lanes ≤ fulls_of other with_errs
    fulls_errs pump.Stdin = omega arith
    fulls_errs pump.Out = omega arith
    fulls_errs pump.Errs = it.fulls
    fulls_errs pump.Exit = omega arith

    few_errs : (other : Pump) → length (given_to other lanes) ≤ 2 ^ 61 → length (given_to other with_errs) ≤ 2 ^ 61
    few_errs pump.Stdin h = h
    few_errs pump.Out h = h
    few_errs pump.Errs h = it.few h
    few_errs pump.Exit h = h

  pub gives_errs : GiveAnswers errs command said new → GivesTo pump.Errs command (said_by said) lanes with_errs
  gives_errs gives =
      let it = head_gives command said errs new gives in
      record {
        given = given_errs it;
        fulls = fulls_errs it;
        few = few_errs it;
        full = it.full;
        spent = it.spent;
        run = refl;
        named = (refl, refl, it.lane);
      }

-- ---- all children
lanes_here : {Run : Type 0} (xs : List (Option (ChildLanes Run))) (n : ℕ) (x : Option (ChildLanes Run)) → n < length xs
    → lanes_at (slice_set xs n x) n ≡ x
lanes_here [] n x lt = absurd (omega arith)
lanes_here (y ∷ ys) zero x lt = refl
lanes_here (y ∷ ys) (suc n) x lt = lanes_here ys n x (omega arith)

lanes_there : {Run : Type 0} (xs : List (Option (ChildLanes Run))) (n m : ℕ) (x : Option (ChildLanes Run)) → (m ≡ n → ⊥)
    → lanes_at (slice_set xs n x) m ≡ lanes_at xs m
lanes_there [] n m x ne = refl
lanes_there (y ∷ ys) zero zero x ne = absurd (ne refl)
lanes_there (y ∷ ys) zero (suc m) x ne = refl
lanes_there (y ∷ ys) (suc n) zero x ne = refl
lanes_there (y ∷ ys) (suc n) (suc m) x ne = lanes_there ys n m x (λ same. ne (ap suc same))

lanes_if : {Run : Type 0} (xs : List (Option (ChildLanes Run))) (n m : ℕ) (x : Option (ChildLanes Run)) (b : Bool) → n < length xs
    → (m == n) ≡ b → lanes_at (slice_set xs n x) m ≡ cond b x (lanes_at xs m)
lanes_if xs n m x true lt is = ap (lanes_at (slice_set xs n x)) (eqb-true m n is) ∙ lanes_here xs n x lt
lanes_if xs n m x false lt is = lanes_there xs n m x (λ same. false≢true (sym is ∙ eq-eqb m n same))

pub lanes_set : {Run : Type 0} (xs : List (Option (ChildLanes Run))) (n m : ℕ) (x : Option (ChildLanes Run)) → n < length xs
    → lanes_at (slice_set xs n x) m ≡ cond (m == n) x (lanes_at xs m)
lanes_set xs n m x lt = lanes_if xs n m x (m == n) lt refl

-- ---- the place of a child
abbrev of_slot : {Run : Type 0} → Option (Option (ChildLanes Run)) → Option (ChildLanes Run)
of_slot o = elim o [ None ↦ None | Some lanes ↦ lanes ]

module _ {Run : Type 0} (children : List (Option (ChildLanes Run))) (child : ℕ) where
  pub not_past : is_some (lanes_at children child) ≡ true → length children ≤ child → ⊥
  not_past has past = false≢true (sym (ap (λ o. is_some (of_slot o)) (slice_get_past children child past)) ∙ has)

  module _ (slot : Option (ChildLanes Run)) (is : slot ≡ get_or children child slot) (within : child < length children) where
    pub at_slot : lanes_at children child ≡ slot
    at_slot = ap of_slot (slice_get-get_or children child slot within ∙ ap Some (sym is))

    pub not_none : is_some (lanes_at children child) ≡ true → slot ≡ None → ⊥
    not_none has none = false≢true (sym (ap is_some (at_slot ∙ none)) ∙ has)

module _ {Run : Type 0} (children : List (Option (ChildLanes Run))) (child : ℕ) (at : Pump) (command : Command) (said : Giving)
    (old new : ChildLanes Run) (is : lanes_at children child ≡ Some old) (within : child < length children)
    (gives : GivesTo at command said old new) where
  abbrev now : List (Option (ChildLanes Run))
  now = slice_set children child (Some new)

  now_is : (n : ℕ) → lanes_at now n ≡ cond (n == child) (Some new) (lanes_at children n)
  now_is n = lanes_set children child n (Some new) within

  here : lanes_at now child ≡ Some new
  here = now_is child ∙ ap (λ b. cond b (Some new) (lanes_at children child)) (eq-eqb child child refl)

  was : (n : ℕ) → (n == child) ≡ true → lanes_at children n ≡ Some old
  was n same = ap (lanes_at children) (eqb-true n child same) ∙ is

  has_if : (n : ℕ) (b : Bool) → (n == child) ≡ b → is_some (cond b (Some new) (lanes_at children n)) ≡ is_some (lanes_at children n)
  has_if n true same = sym (ap is_some (was n same))
  has_if n false other = refl

  given_if : (n : ℕ) (other : Pump) (b : Bool) → (n == child) ≡ b
      → given_at (cond b (Some new) (lanes_at children n)) other
      ≡ given_at (lanes_at children n) other ++ cond (b && is_same_pump other at) (if_given true said command) []
  given_if n other true same =
      gives.given other
      ∙ ap (λ o. given_at o other ++ cond (is_same_pump other at) (if_given true said command) []) (sym (was n same))
  given_if n other false differs = nothing_more (given_at (lanes_at children n) other)

  fulls_if : (n : ℕ) (other : Pump) (b : Bool) → (n == child) ≡ b
      → fulls_at (lanes_at children n) other ≤ fulls_at (cond b (Some new) (lanes_at children n)) other
  fulls_if n other true same =
      let before = ap (λ o. fulls_at o other) (was n same) in omega (arith, before, gives.fulls other)
  fulls_if n other false differs = omega arith

  few_if : (n : ℕ) (other : Pump) (b : Bool) → (n == child) ≡ b → length (given_at (lanes_at children n) other) ≤ 2 ^ 61
      → length (given_at (cond b (Some new) (lanes_at children n)) other) ≤ 2 ^ 61
  few_if n other true same h = gives.few other (subst (λ o. length (given_at o other) ≤ 2 ^ 61) (was n same) h)
  few_if n other false differs h = h

  pub gives_all : Gives child at command said (seen_of children) (seen_of now)
  gives_all =
      record {
        grows =
            record {
              has = λ n. ap is_some (now_is n) ∙ has_if n (n == child) refl;
              given = λ n other. ap (λ o. given_at o other) (now_is n) ∙ given_if n other (n == child) refl;
              fulls = λ n other.
                  subst (λ o. fulls_at (lanes_at children n) other ≤ fulls_at o other) (sym (now_is n))
                  (fulls_if n other (n == child) refl);
              few = λ n other h.
                  subst (λ o. length (given_at o other) ≤ 2 ^ 61) (sym (now_is n)) (few_if n other (n == child) refl h);
            };
        answers =
            record {
              full = λ h.
                  omega (arith, gives.full h, ap (λ o. fulls_at o at) is, ap (λ o. fulls_at o at) here);
              spent = λ h. omega (arith, gives.spent h, ap length (ap (λ o. given_at o at) here));
            };
      }
