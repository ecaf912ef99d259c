-- A child that was launched has its number, its seats and its lanes, and the others have theirs.
use Rattle.std.proofs.Common.{◌≡◌, ℕ, ◌-◌, ◌^◌, ◌≤◌, ◌<◌, ◌==◌, Bool, true, false, cond, List, [], ◌∷◌, ◌++◌, Option, Some, None}
use Rattle.std.proofs.Common.{length, refl, sym, ap, ◌∙◌, subst, eq-eqb, arith}
use Rattle.std.specs.Prelude.{is_some, nat_lt, slice_get, slice_set}
use Rattle.std.specs.List.{AllByRecursion as Each}
use Rattle.std.proofs.lemmas.Bool.{false≢true}
use Rattle.std.proofs.lemmas.Bool.Decides.{nat_tests}
use Rattle.model_wire.specs.Call.{Item}
use Rattle.model_wire.specs.declared.answer.Answer.TheVariants as answer
use Rattle.model_pump.specs.Posts.{Post}
use Rattle.aio_inbox.specs.declared.view.TakerView.{TakerView}
use Rattle.model_hub.specs.declared.child.Child.{Child}
use Rattle.model_hub.specs.declared.child.Seats.{Seats}
use Rattle.model_hub.specs.declared.pump.Pump.{Pump}
use Rattle.model_hub.specs.declared.pump.Pump.TheVariants as pump
use Rattle.model_hub.specs.Children.{new_child, runs}
use Rattle.model_hub.specs.Hub.{Hub}
use Rattle.model_hub.specs.Others.{Launching, Started, NotStarted, Got}
use Rattle.model_hub.specs.Calls.{launch_from, launch_with, after_launching, most_children}
use Rattle.model_hub.specs.Asked.{is_running}
use Rattle.aio_lanes.specs.declared.child_lanes.ChildLanes.{ChildLanes}
use Rattle.aio_lanes.specs.Given.{lanes_at, given_at, given_to, seen_of, HaveSameLanes}
use Rattle.aio_lanes.proofs.Gives.{lanes_set}
use Rattle.aio_commands.specs.Served.{HaveLanes}
use Rattle.aio_roster.specs.Rosters.{Numbered}
use Rattle.aio_roster.specs.Changes.{MayBeLent, AreApart}
use Rattle.aio_roster.proofs.Running.{kth_of, stands, snoc_case, numbered_front, get_left, within}
use Rattle.aio_live.specs.declared.opening.Heads.{Heads}
use Rattle.aio_intake.specs.Homes.{Apart}
use Rattle.aio_live.specs.States.{StateSeen, IsState}
use Rattle.aio_live.specs.Launching.{AreNew, lanes_with, LaunchesNext}
use Rattle.aio_live.proofs.Asking.{running_at, runs_there}

-- nothing was given to the lanes of a new child
new_given : {Run : Type 0} (heads : Heads) (run : Run) → AreNew heads → (at : Pump) → given_to at (lanes_with heads run) ≡ []
new_given heads run new pump.Stdin = new.stdin.0
new_given heads run new pump.Out = new.out.0
new_given heads run new pump.Errs = new.errs.0
new_given heads run new pump.Exit = refl

-- ---- room was made, and nobody has other lanes
module _ {Run : Type 0} (children : List Child) (free rest : List Seats) (lanes lanes_now : List (Option (ChildLanes Run)))
    (state : IsState children free (seen_of lanes)) (same : HaveSameLanes lanes lanes_now) where
  few_still : (n : ℕ) (at : Pump) → length (given_at (lanes_at lanes_now n) at) ≤ 2 ^ 61
  few_still n at = subst (λ (o : Option (ChildLanes Run)). length (given_at o at) ≤ 2 ^ 61) (sym (same n)) (state.few n at)

  has_still : HaveLanes children (seen_of lanes_now)
  has_still k n named = ap is_some (same n) ∙ state.lanes k n named

  pub opened : IsState children free (seen_of lanes_now)
  opened = record { lanes = has_still; few = few_still; lent = state.lent; apart = state.apart }

  -- four seats were lent, and are nobody's any more
  module _ (seats : Seats) (is : free ≡ seats ∷ rest) where
    lent_first : Each (MayBeLent children) (seats ∷ rest)
    lent_first = subst (Each (MayBeLent children)) is state.lent

    apart_first : Apart (seats ∷ rest)
    apart_first = subst Apart is state.apart

    pub first_lent : MayBeLent children seats
    first_lent = lent_first.0

    pub popped : IsState children rest (seen_of lanes_now)
    popped = record { lanes = has_still; few = few_still; lent = lent_first.1; apart = apart_first.1 }

    -- a child has them
    module _ (number : ℕ) (heads : Heads) (run : Run) (last : number ≡ length children) (new : AreNew heads)
        (placed : number < length lanes_now)
        (lends : (other : Seats) → AreApart other seats → MayBeLent children other
        → MayBeLent (children ++ new_child number seats ∷ []) other)
        (numbered : Numbered (children ++ new_child number seats ∷ [])) where
      abbrev child : Child
      child = new_child number seats

      abbrev all : List Child
      all = children ++ child ∷ []

      abbrev own_place : Option (ChildLanes Run)
      own_place = Some (lanes_with heads run)

      abbrev put : List (Option (ChildLanes Run))
      put = slice_set lanes_now number own_place

      put_is : (n : ℕ) → lanes_at put n ≡ cond (n == number) own_place (lanes_at lanes_now n)
      put_is n = lanes_set lanes_now number n own_place placed

      lent_all : (more : List Seats) → Each (λ (other : Seats). AreApart other seats) more → Each (MayBeLent children) more
          → Each (MayBeLent all) more
      lent_all [] apart lent = tt
      lent_all (other ∷ more) apart lent = (lends other apart.0 lent.0, lent_all more apart.1 lent.1)

      few_if : (n : ℕ) (at : Pump) (b : Bool) → length (given_at (cond b own_place (lanes_at lanes_now n)) at) ≤ 2 ^ 61
      few_if n at true = omega (arith, ap length (new_given heads run new at))
      few_if n at false = few_still n at

      has_if : (n : ℕ) (b : Bool) → (b ≡ false → is_some (lanes_at lanes_now n) ≡ true)
          → is_some (cond b own_place (lanes_at lanes_now n)) ≡ true
      has_if n true h = refl
      has_if n false h = h refl

      numbered_old : Numbered children
      numbered_old = numbered_front children (child ∷ []) numbered

      -- one that runs is the new one, or one of those before
      had : (n : ℕ) (c : Child) → slice_get all n ≡ Some c → runs c.stay ≡ true → (n == number) ≡ false
          → is_some (lanes_at lanes_now n) ≡ true
      had n c at goes =
          snoc_case (λ m d. runs d.stay ≡ true → (m == number) ≡ false → is_some (lanes_at lanes_now m) ≡ true) children child
          (λ m d is_at runs_d differs.
          let kth = kth_of children m d is_at runs_d in
          has_still kth.0 m (kth.1 ∙ ap Some (numbered_old m d is_at)))
          (λ runs_d differs. absurd (false≢true (sym differs ∙ eq-eqb (length children) number (sym last))))
          n c at goes

      has_all : HaveLanes all (seen_of put)
      has_all k n named =
          let there = stands all k n numbered named in
          ap is_some (put_is n) ∙ has_if n (n == number) (had n there.0 there.1 there.2)

      pub launched : IsState all rest (seen_of put)
      launched =
          record {
            lanes = has_all;
            few = λ n at.
                subst (λ (o : Option (ChildLanes Run)). length (given_at o at) ≤ 2 ^ 61) (sym (put_is n)) (few_if n at (n == number));
            lent = lent_all rest apart_first.0 lent_first.1;
            apart = apart_first.1;
          }

-- the same, of what is equal to these
pub launched_by : {Run : Type 0} (children children_open children_now : List Child) (free rest : List Seats)
    (lanes lanes_now lanes_put : List (Option (ChildLanes Run))) (seats : Seats) (number : ℕ) (heads : Heads) (run : Run)
    (own : ChildLanes Run) (state : IsState children free (seen_of lanes)) (same : HaveSameLanes lanes lanes_now)
    (is : free ≡ seats ∷ rest) (last : number ≡ length children) (new : AreNew heads) (placed : number < length lanes_now)
    (open_is : children_open ≡ children) (now_is : children_now ≡ children_open ++ new_child number seats ∷ [])
    (put_is : lanes_put ≡ slice_set lanes_now number (Some own)) (own_is : own ≡ lanes_with heads run)
    (lends : (other : Seats) → AreApart other seats → MayBeLent children_open other → MayBeLent children_now other)
    (numbered : Numbered children_now) → IsState children_now rest (seen_of lanes_put)
launched_by {Run} children children_open children_now free rest lanes lanes_now lanes_put seats number heads run own state same is last new
    placed open_is now_is put_is own_is lends numbered =
    let all : List Child = children ++ new_child number seats ∷ [] in
    let all_is : children_now ≡ all = now_is ∙ ap (λ (cs : List Child). cs ++ new_child number seats ∷ []) open_is in
    let put_all : lanes_put ≡ slice_set lanes_now number (Some (lanes_with heads run)) =
    put_is ∙ ap (λ (o : ChildLanes Run). slice_set lanes_now number (Some o)) own_is in
    subst (λ (cs : List Child). IsState cs rest (seen_of lanes_put)) (sym all_is)
    (subst (λ (ls : List (Option (ChildLanes Run))). IsState all rest (seen_of ls)) (sym put_all)
    (launched children free rest lanes lanes_now state same seats is number heads run last new placed
    (λ other apart lent.
    subst (λ (cs : List Child). MayBeLent cs other) all_is
    (lends other apart (subst (λ (cs : List Child). MayBeLent cs other) (sym open_is) lent)))
    (subst Numbered all_is numbered)))

-- ---- the definition's launch
module _ (hub : Hub) (seats : Seats) (rest : List Seats) (free : hub.free ≡ seats ∷ rest) (few : length hub.children < 2 ^ 32 - 1) where
  pub launch_is : (launching : Launching) → launch_from launching hub ≡ after_launching launching seats rest hub
  launch_is launching =
      let less : nat_lt (length hub.children) most_children ≡ true = grind (arith, nat_tests) in
      ap (λ (l : List Seats). launch_with launching l hub) free
      ∙ ap (λ b. cond b (after_launching launching seats rest hub) (hub, Got answer.Refused)) less

pub without_seats : (launching : Launching) (hub : Hub) → hub.free ≡ [] → launch_from launching hub ≡ (hub, Got answer.Refused)
without_seats launching hub none = ap (λ (l : List Seats). launch_with launching l hub) none

full_by : (launching : Launching) (hub : Hub) (free : List Seats) → length hub.children ≡ most_children
    → launch_with launching free hub ≡ (hub, Got answer.Refused)
full_by launching hub [] full = refl
full_by launching hub (seats ∷ rest) full =
    let not_less : nat_lt (length hub.children) most_children ≡ false = grind (arith, nat_tests) in
    ap (λ b. cond b (after_launching launching seats rest hub) (hub, Got answer.Refused)) not_less

pub without_numbers : (launching : Launching) (hub : Hub) → length hub.children ≡ most_children
    → launch_from launching hub ≡ (hub, Got answer.Refused)
without_numbers launching hub full = full_by launching hub hub.free full

-- ---- what a launch makes of a state
abbrev runs_at : ℕ → List Child → Bool
runs_at n cs = elim (slice_get cs n) [ None ↦ false | Some child ↦ runs child.stay ]

-- no child was started, and nobody's lanes changed
module _ {Run : Type 0} (old new : StateSeen Run) (launching : Launching) (is : launch_from launching old.hub ≡ (new.hub, Got answer.Refused))
    (children : new.hub.children ≡ old.hub.children) (nones : new.nones ≡ old.nones) (same : HaveSameLanes old.lanes new.lanes) where
  pub starts_none : LaunchesNext old new (Got answer.Refused)
  starts_none =
      record {
        launching = launching;
        is = is;
        nones = nones;
        stay = λ n goes. same n;
        ran = λ n goes. ap (λ (cs : List Child). runs_at n cs) children ∙ goes;
        begins = λ n at none goes. absurd (false≢true (sym none ∙ ap (λ (cs : List Child). runs_at n cs) (sym children) ∙ goes));
      }

-- a child was started
module _ {Run : Type 0} (old new : StateSeen Run) (seats : Seats) (number : ℕ) (heads : Heads) (run : Run)
    (lanes_now : List (Option (ChildLanes Run))) (is : launch_from Started old.hub ≡ (new.hub, Got answer.Child))
    (last : number ≡ length old.hub.children) (children : new.hub.children ≡ old.hub.children ++ new_child number seats ∷ [])
    (nones : new.nones ≡ old.nones) (same : HaveSameLanes old.lanes lanes_now) (placed : number < length lanes_now)
    (lanes : new.lanes ≡ slice_set lanes_now number (Some (lanes_with heads run))) (fresh : AreNew heads) where
  abbrev own_lanes : Option (ChildLanes Run)
  own_lanes = Some (lanes_with heads run)

  now_is : (n : ℕ) → lanes_at new.lanes n ≡ cond (n == number) own_lanes (lanes_at lanes_now n)
  now_is n = ap (λ (l : List (Option (ChildLanes Run))). lanes_at l n) lanes ∙ lanes_set lanes_now number n own_lanes placed

  earlier : (n : ℕ) → is_running n old.hub ≡ true → (n == number) ≡ false
  earlier n goes =
      let there = running_at n old.hub goes in
      let less = within old.hub.children n there.0 there.1 in
      grind (arith, nat_tests)

  stays_at : (n : ℕ) → is_running n old.hub ≡ true → lanes_at new.lanes n ≡ lanes_at old.lanes n
  stays_at n goes =
      now_is n ∙ ap (λ b. cond b own_lanes (lanes_at lanes_now n)) (earlier n goes) ∙ same n

  runs_on : (n : ℕ) → is_running n old.hub ≡ true → is_running n new.hub ≡ true
  runs_on n goes =
      let there = running_at n old.hub goes in
      runs_there n new.hub there.0
      (ap (λ (cs : List Child). slice_get cs n) children ∙ get_left old.hub.children (new_child number seats ∷ []) n there.0 there.1)
      there.2

  begins_at : (n : ℕ) (at : Pump) → is_running n old.hub ≡ false → is_running n new.hub ≡ true
      → given_at (lanes_at new.lanes n) at ≡ []
  begins_at n at none goes =
      let there = running_at n new.hub goes in
      let placed_at = ap (λ (cs : List Child). slice_get cs n) (sym children) ∙ there.1 in
      let new_one : (n == number) ≡ true =
      snoc_case (λ m d. is_running m old.hub ≡ false → runs d.stay ≡ true → (m == number) ≡ true) old.hub.children (new_child number seats)
      (λ m d is_at none_m runs_d. absurd (false≢true (sym none_m ∙ runs_there m old.hub d is_at runs_d)))
      (λ none_m runs_d. eq-eqb (length old.hub.children) number (sym last))
      n there.0 placed_at none there.2 in
      ap (λ (o : Option (ChildLanes Run)). given_at o at) (now_is n ∙ ap (λ b. cond b own_lanes (lanes_at lanes_now n)) new_one)
      ∙ new_given heads run fresh at

  pub starts : LaunchesNext old new (Got answer.Child)
  starts =
      record { launching = Started; is = is; nones = nones; stay = stays_at; ran = runs_on; begins = begins_at }

-- ---- the same, part by part
abbrev pub hub_of : List Child → List Item → List Seats → List Post → Bool → Hub
hub_of children kept free taken starved =
    record { children = children; kept = kept; free = free; taken = taken; starved = starved }

abbrev pub state_of : {Run : Type 0} → Hub → ℕ → List (Option (ChildLanes Run)) → StateSeen Run
state_of hub nones lanes = record { hub = hub; nones = nones; lanes = lanes }

module _ {Run : Type 0} (children : List Child) (kept : List Item) (free rest : List Seats) (starved : Bool) (taker taker_now : TakerView)
    (lanes lanes_now : List (Option (ChildLanes Run))) (seats : Seats) (is : free ≡ seats ∷ rest) (few : length children < 2 ^ 32 - 1)
    (taker_is : taker_now ≡ taker) (same : HaveSameLanes lanes lanes_now) where
  abbrev old : StateSeen Run
  old = state_of (hub_of children kept free taker.taken starved) taker.nones lanes

  -- the launcher started none
  pub refused_by : (children_now : List Child) → children_now ≡ children
      → LaunchesNext old (state_of (hub_of children_now kept rest taker_now.taken starved) taker_now.nones lanes_now) (Got answer.Refused)
  refused_by children_now children_is =
      starts_none old (state_of (hub_of children_now kept rest taker_now.taken starved) taker_now.nones lanes_now) NotStarted
      (launch_is old.hub seats rest is few NotStarted
      ∙ ap (λ (cs : List Child). (hub_of cs kept rest taker.taken starved, Got answer.Refused)) (sym children_is)
      ∙ ap (λ (t : TakerView). (hub_of children_now kept rest t.taken starved, Got answer.Refused)) (sym taker_is))
      children_is (ap (λ (t : TakerView). t.nones) taker_is) same

  -- it started one
  pub started_by : (children_open children_now : List Child) (lanes_put : List (Option (ChildLanes Run))) (number : ℕ) (heads : Heads)
      (run : Run) (own : ChildLanes Run) → number ≡ length children → AreNew heads → number < length lanes_now → children_open ≡ children
      → children_now ≡ children_open ++ new_child number seats ∷ [] → lanes_put ≡ slice_set lanes_now number (Some own)
      → own ≡ lanes_with heads run
      → LaunchesNext old (state_of (hub_of children_now kept rest taker_now.taken starved) taker_now.nones lanes_put) (Got answer.Child)
  started_by children_open children_now lanes_put number heads run own last new placed open_is now_is put_is own_is =
      let all_is : children_now ≡ children ++ new_child number seats ∷ [] =
      now_is ∙ ap (λ (cs : List Child). cs ++ new_child number seats ∷ []) open_is in
      starts old (state_of (hub_of children_now kept rest taker_now.taken starved) taker_now.nones lanes_put) seats number heads run lanes_now
      (launch_is old.hub seats rest is few Started
      ∙ ap (λ n. (hub_of (children ++ new_child n seats ∷ []) kept rest taker.taken starved, Got answer.Child)) (sym last)
      ∙ ap (λ (cs : List Child). (hub_of cs kept rest taker.taken starved, Got answer.Child)) (sym all_is)
      ∙ ap (λ (t : TakerView). (hub_of children_now kept rest t.taken starved, Got answer.Child)) (sym taker_is))
      last all_is (ap (λ (t : TakerView). t.nones) taker_is) same placed
      (put_is ∙ ap (λ (o : ChildLanes Run). slice_set lanes_now number (Some o)) own_is) new
