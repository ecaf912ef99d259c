-- Texts of numbers in order, with one more at their end; a number that is drawn after others.
use Rattle.std.proofs.Common.{◌≡◌, ℕ, zero, suc, ◌+◌, ◌*◌, ◌%◌, List, ◌++◌, flat_map, ap, sym, ◌∙◌, append_assoc, append-nil, add-one, add-zero, arith}
use Rattle.model_work.specs.Work.{draw, numbers_from}

pieces-push : (piece : ℕ → List ℕ) (first count : ℕ) → flat_map piece (numbers_from first (suc count))
    ≡ flat_map piece (numbers_from first count) ++ piece (first + count)
unfolding numbers_from
pieces-push piece first zero = append-nil (piece first) ∙ ap piece (sym (add-zero first))
pieces-push piece first (suc count) =
    let last : (first + 1) + count ≡ first + suc count = omega arith in
    ap (λ text. piece first ++ text) (pieces-push piece (first + 1) count)
    ∙ (sym (append_assoc (piece first) (flat_map piece (numbers_from (first + 1) count)) (piece ((first + 1) + count)))
    ∙ ap (λ n. (piece first ++ flat_map piece (numbers_from (first + 1) count)) ++ piece n) last)

-- none
pub pieces-none : (piece : ℕ → List ℕ) (first : ℕ) (front : List ℕ) → front ≡ front ++ flat_map piece (numbers_from first 0)
unfolding numbers_from
pieces-none piece first front = sym (append-nil front)

-- after a text
pub pieces-next : (piece : ℕ → List ℕ) (first count number : ℕ) (front : List ℕ) → number ≡ first + count
    → (front ++ flat_map piece (numbers_from first count)) ++ piece number ≡ front ++ flat_map piece (numbers_from first (count + 1))
pieces-next piece first count number front e =
    append_assoc front (flat_map piece (numbers_from first count)) (piece number)
    ∙ ap (λ text. front ++ text)
    (ap (λ n. flat_map piece (numbers_from first count) ++ piece n) e
    ∙ (sym (pieces-push piece first count) ∙ ap (λ n. flat_map piece (numbers_from first n)) (sym (add-one count))))

pub draw-next : (seed place : ℕ) → draw seed (place + 1) ≡ draw seed place * 48271 % 2147483647
draw-next seed place = ap (draw seed) (add-one place)

-- four texts one after the other
pub four : (front first second third fourth : List ℕ) → (((front ++ first) ++ second) ++ third) ++ fourth
    ≡ front ++ (first ++ (second ++ (third ++ fourth)))
four front first second third fourth =
    append_assoc ((front ++ first) ++ second) third fourth
    ∙ (append_assoc (front ++ first) second (third ++ fourth) ∙ append_assoc front first (second ++ (third ++ fourth)))
