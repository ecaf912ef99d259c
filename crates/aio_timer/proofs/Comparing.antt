-- How places compare: by deadline, then by number.
use Rattle.std.proofs.Common.{◌≡◌, ℕ, ◌<◌, ◌≤◌, ◌⊎◌, true, false, refl, inl, inr, arith, is_lt}
use Rattle.std.specs.Ordering.{nat_cmp}
use Rattle.std.specs.declared.cmp.Ordering.TheVariants.{Less, Equal}
use Rattle.std.proofs.lemmas.Bool.{cases_lt, lt-ltb, le-ltb, eq-eqb}
use Rattle.aio_timer.specs.declared.place.Place.{Place}
use Rattle.aio_timer.specs.Kept.{place_cmp}

less : (a b : ℕ) → a < b → nat_cmp a b ≡ Less
less a b l = rw (lt-ltb a b l) refl

equal : (a b : ℕ) → a ≡ b → nat_cmp a b ≡ Equal
equal a b e = rw (le-ltb a b (omega arith), eq-eqb a b e) refl

-- a place that is not less neither has an earlier deadline nor, of equal ones, a smaller number
pub no_earlier : (a b : Place) → is_lt (place_cmp a b) ≡ false → (a.when < b.when) ⊎ ((a.when ≡ b.when) × (a.number < b.number)) → ⊥
no_earlier a b h (inl l) = let e : is_lt (place_cmp a b) ≡ true = rw (less a.when b.when l) refl in absurd (cc)
no_earlier a b h (inr k) =
    let e : is_lt (place_cmp a b) ≡ true = rw (equal a.when b.when k.0, less a.number b.number k.1) refl in absurd (cc)

pub no_later : (a b : Place) → is_lt (place_cmp a b) ≡ false → b.when ≤ a.when
no_later a b h = go (cases_lt a.when b.when)
  where
    go : (a.when < b.when) ⊎ (b.when ≤ a.when) → b.when ≤ a.when
    go (inl l) = absurd (no_earlier a b h (inl l))
    go (inr l) = l
