-- There is room for a note of each task.
use Rattle.std.proofs.Common.{◌≡◌, ℕ, zero, suc, ◌+◌, ◌<◌, ◌≤◌, ◌⊎◌, Bool, true, false, List, [], ◌∷◌, ◌++◌, length, get_or, slice_set, refl, ap, sym, ◌∙◌}
use Rattle.std.proofs.Common.{arith, inl, inr, length-append}
use Rattle.std.proofs.Math.ListN.{length-set}
use Rattle.std.proofs.lemmas.Bool.{cases_eq}
use Rattle.std.proofs.lemmas.List.{get_or-set_same, get_or-set_other}
use Rattle.model_loop.specs.Cancel.{has_seen}
use Rattle.law_cancel.proofs.Seen.{left, left-push, has_seen_last, has_seen_other}
use Rattle.aio_cancel.specs.Seen.{Marked, HasRoomToMark, Clears}

pub room_left : (marks : List Bool) (visited : List ℕ) (capacity task : ℕ) (now : Marked) → record { tasks = length marks; visited = visited } ≡ now
    → HasRoomToMark marks visited capacity → task < now.tasks → has_seen now.visited task ≡ false → length visited < capacity
room_left marks visited capacity task now view r l n =
    let m : length marks ≡ now.tasks = ap (λ (x : Marked). x.tasks) view in
    let u : has_seen visited task ≡ false = ap (λ (x : Marked). has_seen x.visited task) view ∙ n in
    let a = left-push (length marks) visited task (omega arith) u in
    let b = r.count in
    let c = r.room in
    omega arith

pub added : (marks : List Bool) (visited after : List ℕ) (capacity more task : ℕ) (now : Marked) → record { tasks = length marks; visited = visited } ≡ now
    → HasRoomToMark marks visited capacity → task < now.tasks → has_seen now.visited task ≡ false → after ≡ visited ++ task ∷ [] → capacity ≤ more
    → HasRoomToMark (slice_set marks task true) after more
added marks visited after capacity more task now view r l n e k =
    rw e (record {
      room = let c = r.room in let s = length-set marks task true in omega arith;
      count =
          let a = left-push (length marks) visited task within unseen in
          let b = r.count in
          let c = length-append visited (task ∷ []) in
          rw (length-set marks task true) (omega arith);
      told = λ x. told x (cases_eq x task);
    })
  where
    m : length marks ≡ now.tasks
    m = ap (λ (x : Marked). x.tasks) view

    within : task < length marks
    within = rw m l

    unseen : has_seen visited task ≡ false
    unseen = ap (λ (x : Marked). has_seen x.visited task) view ∙ n

    told : (x : ℕ) → (x ≡ task) ⊎ (x ≡ task → ⊥) → get_or (slice_set marks task true) x false ≡ has_seen (visited ++ task ∷ []) x
    told x (inl q) = rw q (get_or-set_same marks task true false within ∙ sym (has_seen_last visited task))
    told x (inr q) = get_or-set_other marks task x true false q ∙ r.told x ∙ sym (has_seen_other visited task x q)

one_more_false : (marks : List Bool) (k : ℕ) → get_or (marks ++ false ∷ []) k false ≡ get_or marks k false
one_more_false [] zero = refl
one_more_false [] (suc k) = refl
one_more_false (m ∷ marks) zero = refl
one_more_false (m ∷ marks) (suc k) = one_more_false marks k

past_false : (marks : List Bool) → get_or marks (length marks) false ≡ false
past_false [] = refl
past_false (m ∷ marks) = past_false marks

pub announced : (marks after : List Bool) (visited visited' : List ℕ) (capacity more : ℕ) → HasRoomToMark marks visited capacity
    → after ≡ marks ++ false ∷ [] → visited' ≡ visited → length marks + 1 ≤ more → HasRoomToMark after visited' more
announced marks after visited visited' capacity more r e f k =
    rw (e, f) (record {
      room = let c = length-append marks (false ∷ []) in omega arith;
      count =
          let b = r.count in
          let c : length (marks ++ false ∷ []) ≡ suc (length marks) = length-append marks (false ∷ []) ∙ omega arith in
          let u : has_seen visited (length marks) ≡ false = sym (r.told (length marks)) ∙ past_false marks in
          let d : left (suc (length marks)) visited ≡ 1 + left (length marks) visited = rw u refl in
          rw (c, d) (omega arith);
      told = λ x. one_more_false marks x ∙ r.told x;
    })

-- ---- clearing
pub begins_clear : (marks : List Bool) (visited : List ℕ) (capacity : ℕ) → HasRoomToMark marks visited capacity
    → Clears marks visited capacity (length marks) capacity
begins_clear marks visited capacity r = record { told = λ task h. sym (r.told task) ∙ h; size = refl; same = refl }

in_or_past : (marks : List Bool) (task : ℕ) → get_or (slice_set marks task false) task false ≡ false
in_or_past [] task = refl
in_or_past (m ∷ marks) zero = refl
in_or_past (m ∷ marks) (suc task) = in_or_past marks task

pub cleared_one : (marks : List Bool) (visited after : List ℕ) (capacity capacity' count room task : ℕ)
    → Clears marks visited capacity count room → visited ≡ after ++ task ∷ [] → capacity' ≡ capacity
    → Clears (slice_set marks task false) after capacity' count room
cleared_one marks visited after capacity capacity' count room task r e k = record {
  told = λ x. go x (cases_eq x task);
  size = length-set marks task false ∙ r.size;
  same = k ∙ r.same;
}
  where
    go : (x : ℕ) → (x ≡ task) ⊎ (x ≡ task → ⊥) → get_or (slice_set marks task false) x false ≡ true → has_seen after x ≡ true
    go x (inl q) h =
        let a : get_or (slice_set marks task false) task false ≡ true = rw q at h in
        let b = in_or_past marks task in
        absurd (cc)
    go x (inr n) h =
        let a : get_or marks x false ≡ true = sym (get_or-set_other marks task x false false n) ∙ h in
        sym (has_seen_other after task x n) ∙ ap (λ v. has_seen v x) (sym e) ∙ r.told x a

left_none : (n : ℕ) → left n [] ≡ n
left_none zero = refl
left_none (suc n) = let ih = left_none n in omega arith

pub all_cleared : (marks : List Bool) (visited after : List ℕ) (capacity capacity' count room : ℕ)
    → Clears marks visited capacity count room → visited ≡ [] → after ≡ [] → capacity' ≡ capacity → count ≤ room
    → HasRoomToMark marks after capacity'
all_cleared marks visited after capacity capacity' count room r v e k l = rw e (record {
  room = let a = r.size in let b = r.same in omega arith;
  count = let a = left_none (length marks) in omega arith;
  told = λ x. go x (get_or marks x false) refl;
})
  where
    none : (x : ℕ) → has_seen visited x ≡ true → ⊥
    none x h = let a : has_seen [] x ≡ true = rw v at h in absurd (cc)

    go : (x : ℕ) (b : Bool) → get_or marks x false ≡ b → get_or marks x false ≡ has_seen [] x
    go x false h = h
    go x true h = absurd (none x (r.told x h))

pub empty_of : {X : Type 0} (xs : List X) → length xs ≡ 0 → xs ≡ []
empty_of [] e = refl
empty_of (x ∷ xs) e = absurd (omega arith)
