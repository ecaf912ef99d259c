-- The entries of each request as it is asked, and the steps that make its handles.
use Rattle.std.proofs.Common.{◌≡◌, ◌≤◌, ◌+◌, ℕ, ℤ, suc, Bool, false, List, [], ◌∷◌, ◌++◌, Option, Some, None}
use Rattle.std.proofs.Common.{length, length-append, map, filter, not, slice_get, refl, sym, ap, subst, ◌∙◌, arith}
use Rattle.std.specs.List.{AllByRecursion as Each, sum_by}
use Rattle.std.proofs.lemmas.List.Filters.{length-filter_both}
use Rattle.std.proofs.lemmas.List.Sums.{sum_by-cons}
use Rattle.model_value.specs.Action.{Action}
use Rattle.model_value.specs.declared.action.Action.TheVariants as action
use Rattle.model_loop.specs.Futures.{is_pending, next_future}
use Rattle.model_loop.specs.Loop.{Loop}
use Rattle.model_loop.specs.Parts.{Many, Parts, Plain}
use Rattle.model_machine.specs.Extra.{CallsLater, ExtraStep, MakesMany, MakesPlain, made_by}
use Rattle.model_gather.specs.Gathered.{Argument, Gathering, Gathers, Rings, Shields, Tells, TimedWait, WaitMode, Waiting, Waits, WaitsFor, distinct}
use Rattle.model_gather.specs.Gathered.{futures_of, gather_part, registered_from, settled_as}
use Rattle.model_gather.specs.Gather.{Counted as Counting, count_all}
use Rattle.model_gather.specs.Wait.{handle_if_some, one_if_some, rings_after, rings_at, tag_if_some}
use Rattle.law_waiters.proofs.Drawing.{length_tells}
use Rattle.law_members.proofs.Coming.{one_of}
use Rattle.law_members.proofs.Counted.{Counts, IsIn, is_told, the_key}
use Rattle.law_members.proofs.Drawing.{IsWithin, MoreFit, registered_within, rings_within, settled_makes, settled_within, tells_in}
use Rattle.law_members.proofs.Entering.{CountsAll, counting_fit, counts_all, in_distinct, in_filter, plain_fit, tail_alone, tail_of}
use Rattle.law_members.proofs.Onward.{makes}

-- ---- a gather
-- its members that are pending, and those that aren't
abbrev pub open_of : Parts → (awaited : List ℕ) → List ℕ
open_of p awaited = filter (is_pending p) (distinct awaited)

abbrev pub over_of : Parts → (awaited : List ℕ) → List ℕ
over_of p awaited = filter (λ id. not (is_pending p id)) (distinct awaited)

-- none of them counted, and with those counted that are done
abbrev pub whole_of : Parts → (as_items : Bool) → (awaited : List ℕ) → Gathering
whole_of p as_items awaited = record { outer = next_future p; awaited = awaited; as_items = as_items; left = length (distinct awaited) }

abbrev pub counted_of : Parts → (as_items : Bool) → (awaited : List ℕ) → Counting
counted_of p as_items awaited = count_all p false (over_of p awaited) (whole_of p as_items awaited)

abbrev pub gather_steps : (n : ℕ) → Parts → (as_items : Bool) → (awaited : List ℕ) → List ExtraStep
gather_steps n p as_items awaited =
    MakesMany (distinct awaited) ∷ registered_from gather_part (suc n) (open_of p awaited)
    ++ settled_as (counted_of p as_items awaited).outcome (next_future p)

pub gather_fit : (n : ℕ) (l : Loop) (as_items : Bool) (awaited : List ℕ)
    → MoreFit n (Gathers (counted_of l.parts as_items awaited).now ∷ map (Tells n) (open_of l.parts awaited) ++ [])
    (gather_steps n l.parts as_items awaited) l
gather_fit n l as_items awaited =
    counting_fit n (Gathers counted.now) its (open_of l.parts awaited) [] (MakesMany (distinct awaited)) (settled_as counted.outcome (next_future l.parts)) l
    refl refl (tail_of n (open_of l.parts awaited) None) tt (λ test. refl) makes_one
    (settled_within n (n + length (Gathers counted.now ∷ map (Tells n) (open_of l.parts awaited) ++ [])) counted.outcome (next_future l.parts))
    (λ test same. settled_makes test counted.outcome (next_future l.parts)) size left_is all.outer
    (λ m among pending. in_filter (is_pending l.parts) m (distinct awaited) (in_distinct m awaited (subst (IsIn m) all.awaited among)) pending)
  where
    counted : Counting
    counted = counted_of l.parts as_items awaited

    its : Counts
    its = record { own = counted.now.outer; members = counted.now.awaited; left = counted.now.left }

    all : CountsAll (whole_of l.parts as_items awaited) counted.now (length (over_of l.parts awaited))
    all = counts_all l.parts false (over_of l.parts awaited) (whole_of l.parts as_items awaited)

    makes_one : next_future (made_by (MakesMany (distinct awaited)) l).parts ≡ suc (next_future l.parts)
    makes_one =
        let e = length-append l.parts.futures (record { kind = Many (distinct awaited) false; outcome = None; callbacks = [] } ∷ []) in
        omega (arith, e)

    size : n + suc (length (open_of l.parts awaited)) ≤ n + length (Gathers counted.now ∷ map (Tells n) (open_of l.parts awaited) ++ [])
    size =
        let a = length-append (map (Tells n) (open_of l.parts awaited)) [] in
        let b = length_tells n (open_of l.parts awaited) in
        omega (arith, a, b)

    left_is : length (open_of l.parts awaited) ≤ its.left
    left_is =
        let a = length-filter_both (is_pending l.parts) (λ id. not (is_pending l.parts id)) (λ id. refl) (distinct awaited) in
        let b = all.left in
        omega (arith, a, b)

-- ---- a wait
abbrev pub waiting_of : Parts → WaitMode → (delay : Option ℤ) → (arguments : List Argument) → Waiting
waiting_of p mode delay arguments =
    record {
      on = next_future p;
      arguments = arguments;
      mode = mode;
      left = length (futures_of arguments);
      timer = tag_if_some delay (p.next_tag + length (filter (λ id. not (is_pending p id)) (futures_of arguments)));
    }

abbrev pub wait_steps : (n : ℕ) → Parts → (delay : Option ℤ) → (arguments : List Argument) → List ExtraStep
wait_steps n p delay arguments =
    MakesPlain ∷ registered_from gather_part (suc n) (futures_of arguments) ++ rings_after delay (the_key (suc n + length (futures_of arguments))) p

pub wait_fit : (n : ℕ) (l : Loop) (mode : WaitMode) (delay : Option ℤ) (arguments : List Argument)
    → MoreFit n (Waits (waiting_of l.parts mode delay arguments) ∷ map (Tells n) (futures_of arguments) ++ handle_if_some delay n)
    (wait_steps n l.parts delay arguments) l
wait_fit n l mode delay arguments =
    counting_fit n (Waits it) its members (handle_if_some delay n) MakesPlain (rings_after delay (the_key ring) l.parts) l refl refl
    (tail_of n members delay) tt (λ test. refl) makes_one (within delay) (none delay) (size delay) (omega arith) refl (λ m among pending. among)
  where
    members : List ℕ
    members = futures_of arguments

    it : Waiting
    it = waiting_of l.parts mode delay arguments

    its : Counts
    its = record { own = next_future l.parts; members = futures_of arguments; left = length (futures_of arguments) }

    ring : ℕ
    ring = suc n + length members

    makes_one : next_future (made_by MakesPlain l).parts ≡ suc (next_future l.parts)
    makes_one =
        let e = length-append l.parts.futures (record { kind = Plain; outcome = None; callbacks = [] } ∷ []) in
        omega (arith, e)

    tail_size : (o : Option ℤ) → length (map (Tells n) members ++ handle_if_some o n) ≡ length members + one_if_some o
    tail_size None = let a = length-append (map (Tells n) members) [] in let b = length_tells n members in omega (arith, a, b)
    tail_size (Some delay) = let a = length-append (map (Tells n) members) (Rings n ∷ []) in let b = length_tells n members in omega (arith, a, b)

    size : (o : Option ℤ) → n + suc (length members) ≤ n + length (Waits it ∷ map (Tells n) members ++ handle_if_some o n)
    size o = let a = tail_size o in omega (arith, a)

    within : (o : Option ℤ) → Each (IsWithin n (n + length (Waits it ∷ map (Tells n) members ++ handle_if_some o n))) (rings_after o (the_key ring) l.parts)
    within None = tt
    within (Some delay) =
        let a = tail_size (Some delay) in
        rings_within n (n + length (Waits it ∷ map (Tells n) members ++ Rings n ∷ [])) ring (Some delay) l.parts (omega arith) (omega (arith, a))

    last : (ids : List ℕ) → slice_get (map (Tells n) ids ++ Rings n ∷ []) (length ids) ≡ Some (Rings n)
    last [] = refl
    last (id ∷ ids) = last ids

    none : (o : Option ℤ) (test : Action → Bool)
        → ((i : ℕ) → test (action.Extra (the_key (n + i))) ≡ is_told n (tells_in (slice_get (Waits it ∷ map (Tells n) members ++ handle_if_some o n) i)))
        → sum_by (makes test) (rings_after o (the_key ring) l.parts) ≡ 0
    none None test same = refl
    none (Some delay) test same =
        let z : n + suc (length members) ≡ ring = omega arith in
        let a = ap (λ k. test (action.Extra (the_key k))) (sym z) ∙ same (suc (length members)) ∙ ap (λ o. is_told n (tells_in o)) (last members) in
        let b = ap one_of a in
        let d = sum_by-cons (makes test) (CallsLater (rings_at l.parts.time delay) (the_key ring)) [] in
        omega (arith, b, d)

-- ---- a shield, and a wait_for
abbrev pub shield_steps : (n inner : ℕ) → List ExtraStep
shield_steps n inner = MakesPlain ∷ registered_from gather_part (suc n) (inner ∷ [])

pub shield_fit : (n inner : ℕ) (l : Loop) → MoreFit n (Shields (next_future l.parts) ∷ Tells n inner ∷ []) (shield_steps n inner) l
shield_fit n inner l =
    plain_fit n (Shields (next_future l.parts)) (Tells n inner ∷ []) (shield_steps n inner) l refl refl (tail_alone n (inner ∷ []))
    (tt, registered_within n (n + 2) (suc n) (inner ∷ []) (omega arith) (omega arith))

abbrev pub timed_steps : (n : ℕ) → Parts → (delay : Option ℤ) → List ExtraStep
timed_steps n p delay = rings_after delay (the_key (suc n)) p

pub timed_fit : (n : ℕ) (it : TimedWait) (delay : Option ℤ) (l : Loop) → MoreFit n (WaitsFor it ∷ handle_if_some delay n) (timed_steps n l.parts delay) l
timed_fit n it None l = plain_fit n (WaitsFor it) [] [] l refl refl (tail_alone n []) tt
timed_fit n it (Some delay) l =
    plain_fit n (WaitsFor it) (Rings n ∷ []) (timed_steps n l.parts (Some delay)) l refl refl (tail_of n [] (Some delay))
    (rings_within n (n + 2) (suc n) (Some delay) l.parts (omega arith) (omega arith))
