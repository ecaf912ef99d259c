-- The posters of all seats, by fours.
use Rattle.std.proofs.Common.{◌≡◌, ℕ, zero, suc, ◌+◌, ◌*◌, ◌<◌, ◌≤◌, List, [], ◌∷◌, ◌++◌, length, drop}
use Rattle.std.proofs.Common.{refl, sym, ap, ◌∙◌, subst, inl, inr, arith, length-append}
use Rattle.std.specs.Prelude.{◌⊎◌}
use Rattle.std.proofs.lemmas.List.{drop-append-le, map-append}
use Rattle.std.proofs.Math.Seq.{drop-append_seam, drop-append-add}
use Rattle.model_hub.specs.declared.child.Seats.{Seats}
use Rattle.model_hub.specs.Hub.{seats_for}
use Rattle.aio_inbox.specs.declared.view.PosterView.{PosterView}
use Rattle.aio_inbox.specs.Views.{new_poster, new_posters}
use Rattle.aio_postbox.specs.declared.four.Four.{Four}
use Rattle.aio_postbox.specs.Fours.{seats_of, seats_in}

pub count_of : (n : ℕ) → length (new_posters n) ≡ n
count_of zero = refl
count_of (suc n) = omega (arith, length-append (new_posters n) (new_poster n ∷ []), count_of n)

last_or_less : (i n : ℕ) → i < suc n → (i ≡ n) ⊎ (i < n)
last_or_less zero zero lt = inl refl
last_or_less zero (suc n) lt = inr (omega arith)
last_or_less (suc i) zero lt = absurd (omega arith)
last_or_less (suc i) (suc n) lt = elim (last_or_less i n (omega arith)) [ inl same ↦ inl (ap suc same) | inr less ↦ inr (omega arith) ]

module _ (n i : ℕ) where
  abbrev before : List PosterView
  before = new_posters n

  abbrev last : List PosterView
  last = new_poster n ∷ []

  next_by : (i < n → drop i before ≡ new_poster i ∷ drop (i + 1) before) → (i ≡ n) ⊎ (i < n)
      → drop i (before ++ last) ≡ new_poster i ∷ drop (i + 1) (before ++ last)
  next_by below (inl same) =
      ap (λ m. drop m (before ++ last)) (same ∙ sym (count_of n)) ∙ drop-append_seam before last
      ∙ ap (λ m. new_poster m ∷ []) (sym same)
      ∙ ap (λ (l : List PosterView). new_poster i ∷ l)
      (sym (ap (λ m. drop (m + 1) (before ++ last)) (same ∙ sym (count_of n)) ∙ drop-append-add before last 1))
  next_by below (inr less) =
      drop-append-le i before last (omega (arith, count_of n)) ∙ ap (λ (l : List PosterView). l ++ last) (below less)
      ∙ ap (λ (l : List PosterView). new_poster i ∷ l) (sym (drop-append-le (i + 1) before last (omega (arith, count_of n))))

-- the posters from seat i on are that of seat i and those from the next seat on
next : (n i : ℕ) → i < n → drop i (new_posters n) ≡ new_poster i ∷ drop (i + 1) (new_posters n)
next zero i lt = absurd (omega arith)
next (suc n) i lt = next_by n i (next n i) (last_or_less i n lt)

-- one of the posters that are left is taken
pub one : (all i : ℕ) (left rest : List PosterView) (poster : PosterView) → i < all → left ≡ drop i (new_posters all) → left ≡ poster ∷ rest
    → (poster ≡ new_poster i) × (rest ≡ drop (i + 1) (new_posters all))
one all i left rest poster lt from is =
    let e = sym is ∙ from ∙ next all i lt in
    let first : poster ≡ new_poster i = cc in
    let others : rest ≡ drop (i + 1) (new_posters all) = cc in
    (first, others)

-- what is left after some fours, and the seats of these
pub record Grouped {N : Type 0} (all n : ℕ) (left : List PosterView) (fours : List (Four N)) : Type 0 where
  pub rest : left ≡ drop (4 * n) (new_posters all)
  pub seats : seats_in fours ≡ seats_for n

pub none_yet : {N : Type 0} (all : ℕ) (left : List PosterView) (fours : List (Four N)) → left ≡ new_posters all → fours ≡ []
    → Grouped all 0 left fours
none_yet {N} all left fours is none = record { rest = is; seats = ap (λ (l : List (Four N)). seats_in l) none }

pub some_left : (all i : ℕ) (left : List PosterView) → i < all → left ≡ drop i (new_posters all) → 0 < length left
some_left all i left lt from = omega (arith, ap length (from ∙ next all i lt))

module _ {N : Type 0} (all n : ℕ) (left one_left two_left three_left four_left : List PosterView) (fours : List (Four N))
    (stdin out errs exit : PosterView) (few : 4 * n + 4 ≤ all) (so_far : Grouped all n left fours)
    (is_stdin : left ≡ stdin ∷ one_left) (is_out : one_left ≡ out ∷ two_left) (is_errs : two_left ≡ errs ∷ three_left)
    (is_exit : three_left ≡ exit ∷ four_left) where
  first : (stdin ≡ new_poster (4 * n)) × (one_left ≡ drop (4 * n + 1) (new_posters all))
  first = one all (4 * n) left one_left stdin (omega arith) so_far.rest is_stdin

  second : (out ≡ new_poster (4 * n + 1)) × (two_left ≡ drop (4 * n + 1 + 1) (new_posters all))
  second = one all (4 * n + 1) one_left two_left out (omega arith) first.1 is_out

  third : (errs ≡ new_poster (4 * n + 1 + 1)) × (three_left ≡ drop (4 * n + 1 + 1 + 1) (new_posters all))
  third = one all (4 * n + 1 + 1) two_left three_left errs (omega arith) second.1 is_errs

  fourth : (exit ≡ new_poster (4 * n + 1 + 1 + 1)) × (four_left ≡ drop (4 * n + 1 + 1 + 1 + 1) (new_posters all))
  fourth = one all (4 * n + 1 + 1 + 1) three_left four_left exit (omega arith) third.1 is_exit

  seat_is : (p : PosterView) (i j : ℕ) → p ≡ new_poster i → i ≡ j → p.seat ≡ j
  seat_is p i j is same = ap (λ (v : PosterView). v.seat) is ∙ same

  abbrev four_seats : ℕ → ℕ → ℕ → ℕ → Seats
  four_seats a b c d = record { stdin = a; out = b; errs = c; exit = d }

  seats_are : (a b c d w x y z : ℕ) → a ≡ w → b ≡ x → c ≡ y → d ≡ z → four_seats a b c d ≡ four_seats w x y z
  seats_are a b c d w x y z ha hb hc hd = cc

  abbrev four : Four N
  four = record { stdin = stdin; out = out; errs = errs; exit = exit }

  here : seats_of four ≡ four_seats (4 * n) (4 * n + 1) (4 * n + 2) (4 * n + 3)
  here =
      seats_are stdin.seat out.seat errs.seat exit.seat (4 * n) (4 * n + 1) (4 * n + 2) (4 * n + 3)
      (seat_is stdin (4 * n) (4 * n) first.0 refl) (seat_is out (4 * n + 1) (4 * n + 1) second.0 refl)
      (seat_is errs (4 * n + 1 + 1) (4 * n + 2) third.0 (omega arith)) (seat_is exit (4 * n + 1 + 1 + 1) (4 * n + 3) fourth.0 (omega arith))

  at_next : 4 * n + 1 + 1 + 1 + 1 ≡ 4 * suc n
  at_next = omega arith

  pub four_more : Grouped all (suc n) four_left (fours ++ four ∷ [])
  four_more =
      record {
        rest = fourth.1 ∙ ap (λ m. drop m (new_posters all)) at_next;
        seats =
            map-append seats_of fours (four ∷ []) ∙ ap (λ (l : List Seats). l ++ seats_of four ∷ []) so_far.seats
            ∙ ap (λ (s : Seats). seats_for n ++ s ∷ []) here;
      }

  pub four_next : (fours_now : List (Four N)) → fours_now ≡ fours ++ four ∷ [] → Grouped all (n + 1) four_left fours_now
  four_next fours_now is =
      let same : suc n ≡ n + 1 = omega arith in
      subst (λ m. Grouped all m four_left fours_now) same (subst (Grouped all (suc n) four_left) (sym is) four_more)
