-- Replies in a chain: between two acquires stands a release, and numbers rise.
use Rattle.std.proofs.Common.{◌≡◌, ◌⊎◌, inl, inr, ℕ, suc, ◌≤◌, ◌<◌, Bool, true, false, List, [], ◌∷◌, ◌++◌, refl, sym, ap, subst, ◌∙◌, arith}
use Rattle.std.specs.Prelude.{◌||◌}
use Rattle.std.specs.List.{list_any}
use Rattle.std.proofs.lemmas.Bool.{true≢false}
use Rattle.law_locks.specs.Locks.{has_acquired, has_released}
use Rattle.law_locks.specs.Tries.{Reply}
use Rattle.law_locks.proofs.Held.{Chain, acquires, ends, passes, releases}

module _ (n : ℕ) where
  abbrev Acquires : (locked : Bool) (least : ℕ) → Reply → List Reply → Type 0
  Acquires locked least reply replies =
      (has_acquired n reply ≡ true) × (locked ≡ false) × (least ≤ reply.number) × Chain n true (suc reply.number) replies

  abbrev Others : (locked : Bool) (least : ℕ) → Reply → List Reply → Type 0
  Others locked least reply replies =
      ((has_acquired n reply ≡ false) × (has_released n reply ≡ true) × Chain n false least replies)
      ⊎ ((has_acquired n reply ≡ false) × (has_released n reply ≡ false) × Chain n locked least replies)

  -- the first reply, and what comes behind it
  abbrev Begins : (locked : Bool) (least : ℕ) → List Reply → Type 0
  Begins locked least [] = Unit {0}
  Begins locked least (reply ∷ replies) = Acquires locked least reply replies ⊎ Others locked least reply replies

  begins : (locked : Bool) (least : ℕ) (replies : List Reply) → Chain n locked least replies → Begins locked least replies
  begins locked least replies ends = tt
  begins locked least replies (acquires reply is late c) = inl (is, refl, late, c)
  begins locked least replies (releases reply none is c) = inr (inl (none, is, c))
  begins locked least replies (passes reply none kept c) = inr (inr (none, kept, c))

  abbrev From : List Reply → Type 0
  From replies = (locked : Bool) × ((least : ℕ) × Chain n locked least replies)

  from : (before rest : List Reply) (locked : Bool) (least : ℕ) → Chain n locked least (before ++ rest) → From rest
  from [] rest locked least c = (locked, (least, c))
  from (reply ∷ before) rest locked least c = at (begins locked least (reply ∷ (before ++ rest)) c) (from before rest)
    where
      at : Acquires locked least reply (before ++ rest) ⊎ Others locked least reply (before ++ rest)
          → ((locked : Bool) (least : ℕ) → Chain n locked least (before ++ rest) → From rest) → From rest
      at (inl a) next = next true (suc reply.number) a.3
      at (inr (inl r)) next = next false least r.2
      at (inr (inr p)) next = next locked least p.2

  acquired_not : {A : Type 0} (reply : Reply) → has_acquired n reply ≡ true → has_acquired n reply ≡ false → A
  acquired_not reply is none = absurd (true≢false (sym is ∙ none))

  released_between : (between after : List Reply) (second : Reply) (least : ℕ) → Chain n true least (between ++ second ∷ after)
      → has_acquired n second ≡ true → list_any (has_released n) between ≡ true
  released_between [] after second least c is = at (begins true least (second ∷ after) c)
    where
      at : Acquires true least second after ⊎ Others true least second after → list_any (has_released n) [] ≡ true
      at (inl a) = absurd (true≢false a.1)
      at (inr (inl r)) = acquired_not second is r.0
      at (inr (inr p)) = acquired_not second is p.0
  released_between (reply ∷ between) after second least c is =
      at (begins true least (reply ∷ (between ++ second ∷ after)) c) (λ d. released_between between after second least d is)
    where
      rest : List Reply
      rest = between ++ second ∷ after

      at : Acquires true least reply (between ++ second ∷ after) ⊎ Others true least reply (between ++ second ∷ after)
          → (Chain n true least (between ++ second ∷ after) → list_any (has_released n) between ≡ true)
          → list_any (has_released n) (reply ∷ between) ≡ true
      at (inl a) next = absurd (true≢false a.1)
      at (inr (inl r)) next = ap (λ b. b || list_any (has_released n) between) r.1
      at (inr (inr p)) next = ap (λ b. b || list_any (has_released n) between) p.1 ∙ next p.2

  later_number : (between after : List Reply) (second : Reply) (locked : Bool) (least : ℕ) → Chain n locked least (between ++ second ∷ after)
      → has_acquired n second ≡ true → least ≤ second.number
  later_number [] after second locked least c is = at (begins locked least (second ∷ after) c)
    where
      at : Acquires locked least second after ⊎ Others locked least second after → least ≤ second.number
      at (inl a) = a.2
      at (inr (inl r)) = acquired_not second is r.0
      at (inr (inr p)) = acquired_not second is p.0
  later_number (reply ∷ between) after second locked least c is =
      at (begins locked least (reply ∷ (between ++ second ∷ after)) c) (λ b k d. later_number between after second b k d is)
    where
      at : Acquires locked least reply (between ++ second ∷ after) ⊎ Others locked least reply (between ++ second ∷ after)
          → ((b : Bool) (k : ℕ) → Chain n b k (between ++ second ∷ after) → k ≤ second.number) → least ≤ second.number
      at (inl a) next = let more = next true (suc reply.number) a.3 in let late = a.2 in omega (arith, more, late)
      at (inr (inl r)) next = next false least r.2
      at (inr (inr p)) next = next locked least p.2

  -- behind an acquire
  behind : (before : List Reply) (first : Reply) (rest all : List Reply) (locked : Bool) (least : ℕ) → Chain n locked least all
      → all ≡ before ++ first ∷ rest → has_acquired n first ≡ true → Chain n true (suc first.number) rest
  behind before first rest all locked least c split is =
      let f = from before (first ∷ rest) locked least (subst (Chain n locked least) split c) in
      at f.0 f.1.0 (begins f.0 f.1.0 (first ∷ rest) f.1.1)
    where
      at : (b : Bool) (k : ℕ) → Acquires b k first rest ⊎ Others b k first rest → Chain n true (suc first.number) rest
      at b k (inl a) = a.3
      at b k (inr (inl r)) = acquired_not first is r.0
      at b k (inr (inr p)) = acquired_not first is p.0

  pub chain_released : (all : List Reply) (locked : Bool) (least : ℕ) → Chain n locked least all → (before between after : List Reply)
      (first second : Reply) → all ≡ before ++ first ∷ (between ++ second ∷ after) → has_acquired n first ≡ true → has_acquired n second ≡ true
      → list_any (has_released n) between ≡ true
  chain_released all locked least c before between after first second split is also =
      released_between between after second (suc first.number) (behind before first (between ++ second ∷ after) all locked least c split is) also

  pub chain_rises : (all : List Reply) (locked : Bool) (least : ℕ) → Chain n locked least all → (before between after : List Reply)
      (first second : Reply) → all ≡ before ++ first ∷ (between ++ second ∷ after) → has_acquired n first ≡ true → has_acquired n second ≡ true
      → first.number < second.number
  chain_rises all locked least c before between after first second split is also =
      later_number between after second true (suc first.number) (behind before first (between ++ second ∷ after) all locked least c split is) also
