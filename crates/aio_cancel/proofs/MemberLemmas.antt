-- A member that a walk takes: by whether it is entered or passed over.
use Rattle.std.proofs.Common.{◌≡◌, ℕ, ◌+◌, ◌<◌, ◌≤◌, ◌⊎◌, Bool, List, [], ◌∷◌, ◌++◌, Some, length, slice_get}
use Rattle.std.proofs.Common.{refl, sym, subst, inl, inr}
use Rattle.std.proofs.lemmas.Bool.{cases_lt}
use Rattle.model_loop.specs.Parts.{Parts}
use Rattle.algorithm_parts.specs.Open.{CanWalk}
use Rattle.algorithm_parts.specs.Shape.{members_at}
use Rattle.algorithm_parts.specs.Weight.{weight}
use Rattle.algorithm_parts.specs.declared.walk.Go.{Go}
use Rattle.algorithm_parts.specs.declared.walk.Go.TheVariants.{Visit, Next}
use Rattle.algorithm_parts.specs.declared.walk.WalkFrame.TheVariants.{Members}
use Rattle.algorithm_parts.proofs.RoomLemmas.{room_for, walk_member, walk_skips}
use Rattle.algorithm_parts.proofs.WeightLemmas.{weigh_push, weigh_skip}
use Rattle.aio_cancel.specs.Members.{TakesMember}
use Rattle.aio_cancel.specs.Seen.{Stacked}

pub taken : (id place member : ℕ) (any : Bool) (before : Stacked) (go : Go) (after : Stacked) (P : Go → Stacked → Type 0)
    → TakesMember id place member any before go after
    → (member < id → P (Visit member) (record before { frames = before.frames ++ Members id (place + 1) any ∷ [] }))
    → (id ≤ member → P (Next id (place + 1) any) before) → P go after
taken id place member any before go after P takes enters passes = at (cases_lt member id)
  where
    both : (go' : Go) (after' : Stacked) → (go ≡ go') × (after ≡ after') → P go' after' → P go after
    both go' after' same p = subst (λ (g : Go). P g after) (sym same.0) (subst (λ (a : Stacked). P go' a) (sym same.1) p)

    at : (member < id) ⊎ (id ≤ member) → P go after
    at (inl l) = both (Visit member) (record before { frames = before.frames ++ Members id (place + 1) any ∷ [] }) (takes.enters l) (enters l)
    at (inr m) = both (Next id (place + 1) any) before (takes.passes m) (passes m)

module _ (p : Parts) (s : List ℕ) (id place member : ℕ) (any : Bool) (before : Stacked)
    (there : Some member ≡ slice_get (members_at (slice_get p.futures id)) place) where
  pub room_to_take : (marks : ℕ) → CanWalk before.room marks (Next id place any) before.frames s p → member < id
      → length before.frames < before.room
  room_to_take marks can l =
      let frame = Members id (place + 1) any in
      room_for before.room marks (Visit member) before.frames frame s p
      (walk_member before.room marks id place (place + 1) member any before.frames (before.frames ++ frame ∷ []) s p can there l refl)

  module _ (go : Go) (after : Stacked) (takes : TakesMember id place member any before go after) where
    pub taken_room : after.room ≡ before.room
    taken_room = taken id place member any before go after (λ g a. a.room ≡ before.room) takes (λ l. refl) (λ m. refl)

    pub taken_walks : (marks : ℕ) → CanWalk before.room marks (Next id place any) before.frames s p → CanWalk after.room marks go after.frames s p
    taken_walks marks can =
        taken id place member any before go after (λ g a. CanWalk a.room marks g a.frames s p) takes
        (λ l. walk_member before.room marks id place (place + 1) member any before.frames _ s p can there l refl)
        (λ m. walk_skips before.room marks id place (place + 1) any before.frames s p can)

    pub taken_falls : weight go after.frames s p < weight (Next id place any) before.frames s p
    taken_falls =
        taken id place member any before go after (λ g a. weight g a.frames s p < weight (Next id place any) before.frames s p) takes
        (λ l. weigh_push id place member any before.frames _ s p there l refl) (λ m. weigh_skip id place member any before.frames s p there)
