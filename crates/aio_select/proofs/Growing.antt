-- When an answer that fits still fits with an item more.
use Rattle.std.proofs.Common.{◌≡◌, ℕ, ◌+◌, Bool, true, false, ◌&&◌, ◌||◌, not, List, [], ◌∷◌, ◌++◌, length, map, sum, refl, sym, ap, ◌∙◌, arith}
use Rattle.std.specs.Prelude.{nat_le, nat_lt}
use Rattle.std.specs.List.{list_any, list_all}
use Rattle.std.proofs.lemmas.Bool.{false≢true}
use Rattle.std.proofs.lemmas.Bool.Decides.{nat_tests}
use Rattle.std.proofs.lemmas.Grind.{common_steps}
use Rattle.model_wire.specs.Call.{Item}
use Rattle.model_wire.specs.declared.watch.Watch.{Watch}
use Rattle.model_wire.specs.Fits.{turn_fits, are_few, are_awaited, is_awaited, stand_apart, clashes, bytes_in, most_items, most_bytes}
use Rattle.aio_select.specs.Room.{is_apart, has_room}

and_first : (a b : Bool) → (a && b) ≡ true → a ≡ true
and_first true b h = refl
and_first false b h = h

and_second : (a b : Bool) → (a && b) ≡ true → b ≡ true
and_second true b h = h
and_second false b h = absurd (false≢true h)

both_true : (a b c : Bool) → a ≡ true → b ≡ true → c ≡ (a && b) → c ≡ true
both_true a b c ha hb h = h ∙ ap (λ x. x && b) ha ∙ hb

-- what comes behind a list that passes
passes_with : (a b c d : Bool) → a ≡ true → c ≡ true → ((a && b) && (c && d)) ≡ (b && d)
passes_with true b true d ha hc = refl
passes_with true b false d ha hc = absurd (false≢true hc)
passes_with false b c d ha hc = absurd (false≢true ha)

swapped : (a b : Bool) → (a && b) ≡ (b && a)
swapped true true = refl
swapped true false = refl
swapped false true = refl
swapped false false = refl

all_more : (p : Item → Bool) (xs : List Item) (x : Item) → list_all p (xs ++ x ∷ []) ≡ (list_all p xs && p x)
all_more p [] x = one (p x)
  where
    one : (b : Bool) → (b && true) ≡ b
    one true = refl
    one false = refl
all_more p (y ∷ ys) x = step (p y) (list_all p (ys ++ x ∷ [])) (list_all p ys) (p x) (all_more p ys x)
  where
    step : (a b c d : Bool) → b ≡ (c && d) → (a && b) ≡ ((a && c) && d)
    step true b c d h = h
    step false b c d h = refl

any_more : (p : Item → Bool) (xs : List Item) (x : Item) → list_any p (xs ++ x ∷ []) ≡ (list_any p xs || p x)
any_more p [] x = one (p x)
  where
    one : (b : Bool) → (b || false) ≡ b
    one true = refl
    one false = refl
any_more p (y ∷ ys) x = step (p y) (list_any p (ys ++ x ∷ [])) (list_any p ys) (p x) (any_more p ys x)
  where
    step : (a b c d : Bool) → b ≡ (c || d) → (a || b) ≡ ((a || c) || d)
    step true b c d h = refl
    step false b c d h = h

-- none before it clashes with an item that comes last
apart_more : (xs : List Item) (x : Item)
    → stand_apart (xs ++ x ∷ []) ≡ (stand_apart xs && not (list_any (λ (other : Item). clashes other x) xs))
apart_more [] x = refl
apart_more (y ∷ ys) x =
    step (list_any (clashes y) (ys ++ x ∷ [])) (list_any (clashes y) ys) (clashes y x) (stand_apart (ys ++ x ∷ [])) (stand_apart ys)
    (list_any (λ (other : Item). clashes other x) ys) (any_more (clashes y) ys x) (apart_more ys x)
  where
    step : (a b c d e f : Bool) → a ≡ (b || c) → d ≡ (e && not f) → (not a && d) ≡ ((not b && e) && not (c || f))
    step a true c d e f h k = ap (λ z. not z && d) h
    step a false true d true f h k = ap (λ z. not z && d) h
    step a false true d false f h k = ap (λ z. not z && d) h
    step a false false d e f h k = ap (λ z. not z && d) h ∙ k

length_more : (xs : List Item) (x : Item) → length (xs ++ x ∷ []) ≡ length xs + 1
length_more xs x = grind (arith, common_steps)

pub sum_more : (xs : List Item) (x : Item) → sum (map bytes_in (xs ++ x ∷ [])) ≡ sum (map bytes_in xs) + bytes_in x
sum_more [] x = grind (arith, common_steps)
sum_more (y ∷ ys) x =
    let rest = sum_more ys x in
    grind (arith, common_steps)

one_more : (n : ℕ) → nat_le (n + 1) most_items ≡ nat_lt n most_items
one_more n = grind (arith, nat_tests)

few_more : (xs : List Item) (x : Item) → are_few (xs ++ x ∷ []) ≡ has_room xs x
few_more xs x =
    ap (λ n. nat_le n most_items && nat_le (sum (map bytes_in (xs ++ x ∷ []))) most_bytes) (length_more xs x)
    ∙ ap (λ b. b && nat_le (sum (map bytes_in (xs ++ x ∷ []))) most_bytes) (one_more (length xs))
    ∙ ap (λ n. nat_lt (length xs) most_items && nat_le n most_bytes) (sum_more xs x)

awaited_more : (watched : List Watch) (xs : List Item) (x : Item) → are_awaited watched xs ≡ true
    → are_awaited watched (xs ++ x ∷ []) ≡ is_apart watched xs x
awaited_more watched xs x h =
    ap (λ b. b && stand_apart (xs ++ x ∷ [])) (all_more (is_awaited watched) xs x)
    ∙ ap (λ b. (list_all (is_awaited watched) xs && is_awaited watched x) && b) (apart_more xs x)
    ∙ passes_with (list_all (is_awaited watched) xs) (is_awaited watched x) (stand_apart xs)
    (not (list_any (λ (other : Item). clashes other x) xs)) (and_first (list_all (is_awaited watched) xs) (stand_apart xs) h)
    (and_second (list_all (is_awaited watched) xs) (stand_apart xs) h)

pub fits_more : (watched : List Watch) (xs : List Item) (x : Item) → turn_fits watched 0 xs ≡ true
    → (is_apart watched xs x && has_room xs x) ≡ turn_fits watched 0 (xs ++ x ∷ [])
fits_more watched xs x h =
    sym (ap (λ b. b && are_awaited watched (xs ++ x ∷ [])) (few_more xs x)
    ∙ ap (λ b. has_room xs x && b) (awaited_more watched xs x (and_second (are_few xs) (are_awaited watched xs) h))
    ∙ swapped (has_room xs x) (is_apart watched xs x))
