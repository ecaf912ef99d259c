-- One share more at the end.
use Rattle.std.proofs.Common.{◌≡◌, ℕ, ◌+◌, ◌++◌, List, [], ◌∷◌, refl, arith}
use Rattle.simulate.specs.declared.shares.Share.{Share}
use Rattle.simulate.specs.Shares.{Covers}

-- no share has no run
pub Covers-none : (end : ℕ) → Covers end end []
unfolding Covers
Covers-none end = refl

-- a share that begins where the others end covers its runs too
pub Covers-snoc : (first end end' : ℕ) (shares : List Share) (last : Share) → Covers first end shares → last.before ≡ end
    → end + last.runs ≡ end' → Covers first end' (shares ++ (last ∷ []))
unfolding Covers
Covers-snoc first end end' [] last covered begins ends = (omega (arith, covered, begins), omega (arith, covered, ends))
Covers-snoc first end end' (share ∷ rest) last covered begins ends =
    (covered.0, Covers-snoc (first + share.runs) end end' rest last covered.1 begins ends)
