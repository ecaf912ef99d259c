-- The lanes of a child that is taken in are given up, and no others.
use Rattle.std.proofs.Common.{◌≡◌, ℕ, zero, suc, ◌+◌, ◌≤◌, Bool, true, false, cond, List, [], ◌∷◌, Option, Some, None}
use Rattle.std.proofs.Common.{refl, sym, ap, ◌∙◌, subst, inl, inr, arith}
use Rattle.std.specs.Prelude.{◌⊎◌, is_some, slice_get, slice_set}
use Rattle.std.specs.List.{remove}
use Rattle.std.proofs.lemmas.Bool.{false≢true}
use Rattle.model_pump.specs.Posts.{Post}
use Rattle.model_hub.specs.declared.child.Child.{Child}
use Rattle.model_hub.specs.declared.child.Seats.{Seats}
use Rattle.model_hub.specs.declared.child.Stay.TheVariants.{Holding, Gone}
use Rattle.model_hub.specs.Children.{runs}
use Rattle.model_hub.specs.Select.{are_home}
use Rattle.model_hub.specs.Told.{LauncherSeen}
use Rattle.aio_inbox.specs.declared.view.TakerView.{TakerView}
use Rattle.aio_hub.specs.Launches.{StartsNone}
use Rattle.aio_lanes.specs.declared.child_lanes.ChildLanes.{ChildLanes}
use Rattle.aio_lanes.specs.Given.{lanes_at, seen_of}
use Rattle.aio_roster.specs.Rosters.{Numbered, running_of}
use Rattle.aio_roster.proofs.Seated.{some_is, none_some, get_set}
use Rattle.aio_roster.proofs.Running.{stands}
use Rattle.aio_commands.specs.Served.{HaveLanes}
use Rattle.aio_roster.proofs.Lending.{running_less}
use Rattle.aio_intake.specs.Homes.{KeepsPosts}
use Rattle.aio_intake.specs.Taken.{hub_at, TakesOne, TakesNothing, TakesKth, KeepsLanes}

module _ {A : Type 0} where
  abbrev at : List (Option A) → ℕ → Option A
  at l n = elim (slice_get l n) [ None ↦ None | Some x ↦ x ]

  set_here : (l : List (Option A)) (n : ℕ) → at (slice_set l n None) n ≡ None
  set_here [] n = refl
  set_here (x ∷ l) zero = refl
  set_here (x ∷ l) (suc n) = set_here l n

  set_there : (l : List (Option A)) (m n : ℕ) → (n ≡ m → ⊥) → at (slice_set l m None) n ≡ at l n
  set_there [] m n ne = refl
  set_there (x ∷ l) zero zero ne = absurd (ne refl)
  set_there (x ∷ l) zero (suc n) ne = refl
  set_there (x ∷ l) (suc m) zero ne = refl
  set_there (x ∷ l) (suc m) (suc n) ne = set_there l m n (λ same. ne (ap suc same))

  set_case : (l : List (Option A)) (m n : ℕ) → (at (slice_set l m None) n ≡ at l n) ⊎ (at (slice_set l m None) n ≡ None)
  set_case [] m n = inl refl
  set_case (x ∷ l) zero zero = inr refl
  set_case (x ∷ l) zero (suc n) = inl refl
  set_case (x ∷ l) (suc m) zero = inl refl
  set_case (x ∷ l) (suc m) (suc n) = set_case l m n

still : (xs : List ℕ) (k j n : ℕ) → slice_get (remove xs k) j ≡ Some n → (i : ℕ) × (slice_get xs i ≡ Some n)
still [] zero j n h = absurd (none_some n h)
still [] (suc k) j n h = absurd (none_some n h)
still (x ∷ xs) zero j n h = (suc j, h)
still (x ∷ xs) (suc k) zero n h = (zero, h)
still (x ∷ xs) (suc k) (suc j) n h = let found = still xs k j n h in (suc found.0, found.1)

module _ (children : List Child) (number : ℕ) (old new : Child) (numbered : Numbered children) (at_it : slice_get children number ≡ Some old)
    (same : new.number ≡ old.number) where
  pub numbered_still : Numbered (slice_set children number new)
  numbered_still n child h = by_place (get_set children number n new child h)
    where
      by_place : ((n ≡ number) × (child ≡ new)) ⊎ (slice_get children n ≡ Some child) → child.number ≡ n
      by_place (inl here) =
          ap (λ (c : Child). c.number) here.1 ∙ same ∙ numbered number old at_it ∙ sym here.0
      by_place (inr there) = numbered n child there

set_is : (xs : List Child) (n : ℕ) (old new : Child) → slice_get xs n ≡ Some old → slice_get (slice_set xs n new) n ≡ Some new
set_is [] n old new h = absurd (none_some old h)
set_is (x ∷ xs) zero old new h = refl
set_is (x ∷ xs) (suc n) old new h = set_is xs n old new h

module _ {Run : Type 0} (children next : List Child) (k : ℕ) (old new : Child) (lanes lanes_now : List (Option (ChildLanes Run)))
    (numbered : Numbered children) (at_it : slice_get children old.number ≡ Some old) (same : new.number ≡ old.number)
    (over : runs new.stay ≡ false) (is_next : next ≡ slice_set children old.number new)
    (left : running_of next ≡ remove (running_of children) k) where
  -- who runs still, ran before, and is another
  ran : (j n : ℕ) → slice_get (running_of next) j ≡ Some n → (i : ℕ) × (slice_get (running_of children) i ≡ Some n)
  ran j n h = still (running_of children) k j n (ap (λ l. slice_get l j) (sym left) ∙ h)

  another : (j n : ℕ) → slice_get (running_of next) j ≡ Some n → n ≡ old.number → ⊥
  another j n h is =
      let there = stands next j n (subst Numbered (sym is_next) (numbered_still children old.number old new numbered at_it same)) h in
      let it = some_is new there.0
      (sym (ap (slice_get next) is ∙ ap (λ (l : List Child). slice_get l old.number) is_next ∙ set_is children old.number old new at_it) ∙ there.1) in
      false≢true (sym over ∙ ap (λ (c : Child). runs c.stay) it ∙ there.2)

  pub has_still : HaveLanes children (seen_of lanes) → HaveLanes next (seen_of (slice_set lanes old.number None))
  has_still have j n h =
      let before = ran j n h in
      ap is_some (set_there lanes old.number n (another j n h)) ∙ have before.0 n before.1

  pub keeps_still : KeepsLanes children lanes_now lanes → KeepsLanes next lanes_now (slice_set lanes old.number None)
  keeps_still keeps =
      record {
        running = λ j n h. let before = ran j n h in set_there lanes old.number n (another j n h) ∙ keeps.running before.0 n before.1;
        others = λ n. by_case n (set_case lanes old.number n) (keeps.others n);
      }
    where
      by_case : (n : ℕ)
          → (lanes_at (slice_set lanes old.number None) n ≡ lanes_at lanes n) ⊎ (lanes_at (slice_set lanes old.number None) n ≡ None)
          → (lanes_at lanes n ≡ lanes_at lanes_now n) ⊎ (lanes_at lanes n ≡ None)
          → (lanes_at (slice_set lanes old.number None) n ≡ lanes_at lanes_now n) ⊎ (lanes_at (slice_set lanes old.number None) n ≡ None)
      by_case n (inl here) (inl before) = inl (here ∙ before)
      by_case n (inl here) (inr before) = inr (here ∙ before)
      by_case n (inr here) before = inr here

pub keeps_all : {Run : Type 0} (children : List Child) (lanes : List (Option (ChildLanes Run))) → KeepsLanes children lanes lanes
keeps_all children lanes = record { running = λ j n h. refl; others = λ n. inl refl }

-- ---- after the next of those that run
module _ {Run : Type 0} (taken : List Post) (k : ℕ) (children next : List Child) (free free_next : List Seats)
    (first lanes lanes_next : List (Option (ChildLanes Run))) (numbered : Numbered children) where
  pub numbered_on : (gone : Bool) → TakesKth gone taken k children next free free_next lanes lanes_next → Numbered next
  numbered_on true one =
      subst Numbered (sym one.now)
      (numbered_still children one.child.number one.child
      (record one.child { stay = cond (are_home (hub_at taken) one.backs one.child.seats) Gone Holding }) numbered one.at refl)
  numbered_on false none = subst Numbered (sym none.same.0) numbered

  over : (b : Bool) → runs (cond b Gone Holding) ≡ false
  over true = refl
  over false = refl

  left_is : (one : TakesOne taken k children next free free_next lanes lanes_next) → running_of next ≡ remove (running_of children) k
  left_is one =
      ap running_of one.now
      ∙ running_less children k one.child.number one.child
      (record one.child { stay = cond (are_home (hub_at taken) one.backs one.child.seats) Gone Holding }) one.named one.at numbered
      (over (are_home (hub_at taken) one.backs one.child.seats))

  pub lanes_on : (gone : Bool) → TakesKth gone taken k children next free free_next lanes lanes_next → HaveLanes children (seen_of lanes)
      → HaveLanes next (seen_of lanes_next)
  lanes_on true one have =
      subst (λ (l : List (Option (ChildLanes Run))). HaveLanes next (seen_of l)) (sym one.gives_up)
      (has_still children next k one.child (record one.child { stay = cond (are_home (hub_at taken) one.backs one.child.seats) Gone Holding })
      lanes lanes numbered one.at refl (over (are_home (hub_at taken) one.backs one.child.seats)) one.now (left_is one) have)
  lanes_on false none have =
      subst (λ (l : List (Option (ChildLanes Run))). HaveLanes next (seen_of l)) (sym none.same.2)
      (subst (λ (cs : List Child). HaveLanes cs (seen_of lanes)) (sym none.same.0) have)

  pub keeps_on : (gone : Bool) → TakesKth gone taken k children next free free_next lanes lanes_next → KeepsLanes children first lanes
      → KeepsLanes next first lanes_next
  keeps_on true one keeps =
      subst (λ (l : List (Option (ChildLanes Run))). KeepsLanes next first l) (sym one.gives_up)
      (keeps_still children next k one.child (record one.child { stay = cond (are_home (hub_at taken) one.backs one.child.seats) Gone Holding })
      lanes first numbered one.at refl (over (are_home (hub_at taken) one.backs one.child.seats)) one.now (left_is one) keeps)
  keeps_on false none keeps =
      subst (λ (l : List (Option (ChildLanes Run))). KeepsLanes next first l) (sym none.same.2)
      (subst (λ (cs : List Child). KeepsLanes cs first lanes) (sym none.same.0) keeps)

-- ---- where memory was refused
module _ {Run : Type 0} (children next : List Child) (free free_next : List Seats) (lanes lanes_next : List (Option (ChildLanes Run)))
    (nothing : TakesNothing children next free free_next lanes lanes_next) where
  pub lanes_same : HaveLanes children (seen_of lanes) → HaveLanes next (seen_of lanes_next)
  lanes_same have =
      subst (λ (l : List (Option (ChildLanes Run))). HaveLanes next (seen_of l)) (sym nothing.2)
      (subst (λ (cs : List Child). HaveLanes cs (seen_of lanes)) (sym nothing.0) have)

  pub keeps_same : (first : List (Option (ChildLanes Run))) → KeepsLanes children first lanes → KeepsLanes next first lanes_next
  keeps_same first keeps =
      subst (λ (l : List (Option (ChildLanes Run))). KeepsLanes next first l) (sym nothing.2)
      (subst (λ (cs : List Child). KeepsLanes cs first lanes) (sym nothing.0) keeps)

-- ---- one call after another
pub posts_on : (first old new : TakerView) → KeepsPosts first old → KeepsPosts old new → KeepsPosts first new
posts_on first old new before after =
    record { taken = after.taken ∙ before.taken; nones = after.nones ∙ before.nones; seats = after.seats ∙ before.seats }

pub starts_on : (first old new : LauncherSeen) → StartsNone first old → StartsNone old new → StartsNone first new
starts_on first old new before after = (after.0 ∙ before.0, after.1 ∙ before.1)

pub few_on : (gone : Bool) (k n k_next : ℕ) → k ≤ n → k_next ≡ cond gone k (k + 1) → k_next ≤ n + 1
few_on true k n k_next few is = omega (arith, few, is)
few_on false k n k_next few is = omega (arith, few, is)

pub takes_of : {Run : Type 0} (gone : Bool) (taken taken_now : List Post) (k : ℕ) (children next : List Child) (free free_next : List Seats)
    (lanes lanes_next : List (Option (ChildLanes Run))) → taken_now ≡ taken
    → TakesKth gone taken_now k children next free free_next lanes lanes_next → TakesKth gone taken k children next free free_next lanes lanes_next
takes_of gone taken taken_now k children next free free_next lanes lanes_next same =
    subst (λ (t : List Post). TakesKth gone t k children next free free_next lanes lanes_next) same
