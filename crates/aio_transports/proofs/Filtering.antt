-- What stays of what was opened, and what was opened since, as the definitions have it.
use Rattle.std.proofs.Common.{◌≡◌, ℕ, zero, suc, ◌<◌, Bool, true, false, cond, List, [], ◌∷◌, drop, length, arith, refl, sym}
use Rattle.std.proofs.Common.{ap, ◌∙◌}
use Rattle.std.proofs.Math.Seq.{drop-nil}
use Rattle.std.proofs.lemmas.List.{drop-map}
use Rattle.std.specs.List.{IsSplitAt, filter}
use Rattle.model_stream.specs.Streams.{Opened as PlainOpened}
use Rattle.aio_stream.specs.declared.opened.Opened.{Opened}
use Rattle.aio_stream.specs.Kept.{all_opened, opened_as}

module _ (test : PlainOpened → Bool) where
  pub all_filtered : (those : List Opened)
      → all_opened (filter (λ one. test (opened_as one)) those) ≡ filter test (all_opened those)
  all_filtered [] = refl
  all_filtered (one ∷ those) = by (test (opened_as one)) (all_filtered those)
    where
      by : (b : Bool) → all_opened (filter (λ one. test (opened_as one)) those) ≡ filter test (all_opened those)
          → all_opened (cond b (one ∷ filter (λ one. test (opened_as one)) those) (filter (λ one. test (opened_as one)) those))
          ≡ cond b (opened_as one ∷ filter test (all_opened those)) (filter test (all_opened those))
      by true is = ap (λ xs. opened_as one ∷ xs) is
      by false is = is

pub since_cut : (opened front back : List Opened) (seen : ℕ) → IsSplitAt opened seen front back
    → all_opened back ≡ drop seen (all_opened opened)
since_cut opened front back seen it = ap all_opened it.2 ∙ sym (drop-map opened_as seen opened)

-- nothing was opened since
pub since_none : (opened : List Opened) (seen : ℕ) → length opened < seen → [] ≡ drop seen (all_opened opened)
since_none [] seen h = sym (drop-nil seen)
since_none (one ∷ opened) zero h = absurd (let bad : ⊥ = omega arith in bad)
since_none (one ∷ opened) (suc seen) h = since_none opened seen (omega arith)
