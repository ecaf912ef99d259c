-- Two values are equal exactly where they are one value.
use Rattle.std.proofs.Common.{◌≡◌, ℕ, ℤ, Bool, true, false, ◌&&◌, List, [], ◌∷◌, refl, ap, sym, ◌≢◌, length, arith}
use Rattle.std.proofs.lemmas.Bool.{false≢true, eqb-true, eq-eqb}
use Rattle.std.proofs.lemmas.Bool.Decides.{Decides-int_eq}
use Rattle.std.proofs.lemmas.Slice.Eq.{bytes_eq-Decides}
use Rattle.std.specs.Str.{bytes_eq}
use Rattle.std.specs.Ordering.{int_eq}
use denote.Enum.Bare.{same_true, true_same}
use Rattle.model_value.specs.contracts.kind.Kind.{the_type}
use Rattle.model_value.specs.declared.kind.Kind.{Kind}
use Rattle.model_value.specs.Kinds.{same_kind}
use Rattle.model_value.specs.Value.{Value, Nothing, Truth, Int, Text, Bytes, Items, Fut, Task, Group, Timeout, Conn, Server, Child, Errs, Exception, Values}
use Rattle.model_value.specs.Value.{no_values, value_then, Exc, exc, Excs, no_excs, exc_then, values, excs, kind_of, text_of, bytes_of, members_of}
use Rattle.model_value.specs.Equality.{equal, same_truth, same_items, same_exc, same_members}
use Rattle.law_value.proofs.Rows.{excs-excs_of}

first_true : (a b : Bool) → (a && b) ≡ true → a ≡ true
first_true true b e = refl
first_true false b e = e

second_true : (a b : Bool) → (a && b) ≡ true → b ≡ true
second_true true b e = e
second_true false b e = absurd (false≢true e)

truth : (a b : Bool) → same_truth a b ≡ true → a ≡ b
truth true b e = sym e
truth false true e = absurd (false≢true e)
truth false false e = refl

int : (a b : ℤ) → int_eq a b ≡ true → a ≡ b
int a b = (Decides-int_eq a b).0

bytes : (a b : List ℕ) → bytes_eq a b ≡ true → a ≡ b
bytes a b = (bytes_eq-Decides a b).0

kind : (k l : Kind) → same_kind k l ≡ true → k ≡ l
kind k l e = same_true the_type tt k l e

mutual
  pub one_value : (v w : Value) → equal v w ≡ true → v ≡ w
  one_value Nothing Nothing e = refl
  one_value (Truth a) (Truth b) e = ap Truth (truth a b e)
  one_value (Int a) (Int b) e = ap Int (int a b e)
  one_value (Text a) (Text b) e = ap Text (bytes a b e)
  one_value (Bytes a) (Bytes b) e = ap Bytes (bytes a b e)
  one_value (Items a) (Items b) e = ap Items (one_row a b e)
  one_value (Fut a) (Fut b) e = ap Fut (eqb-true a b e)
  one_value (Task a) (Task b) e = ap Task (eqb-true a b e)
  one_value (Group a) (Group b) e = ap Group (eqb-true a b e)
  one_value (Timeout a) (Timeout b) e = ap Timeout (eqb-true a b e)
  one_value (Conn a) (Conn b) e = ap Conn (eqb-true a b e)
  one_value (Server a) (Server b) e = ap Server (eqb-true a b e)
  one_value (Child a) (Child b) e = ap Child (eqb-true a b e)
  one_value (Errs a) (Errs b) e = ap Errs (eqb-true a b e)
  one_value (Exception a) (Exception b) e = ap Exception (one_exc a b e)
  one_value _ _ e = absurd (false≢true e)

  one_row : (v w : Values) → same_items v w ≡ true → v ≡ w
  one_row no_values no_values e = refl
  one_row (value_then v vs) (value_then w ws) e =
      λ i. value_then (one_value v w (first_true (equal v w) (same_items vs ws) e) i) (one_row vs ws (second_true (equal v w) (same_items vs ws) e) i)
  one_row _ _ e = absurd (false≢true e)

  one_exc : (v w : Exc) → same_exc v w ≡ true → v ≡ w
  one_exc (exc k t b ms) (exc k' t' b' ms') e =
      let three = same_kind k k' && bytes_eq t t' && bytes_eq b b' in
      let two = same_kind k k' && bytes_eq t t' in
      let front = first_true three (same_members ms ms') e in
      let start = first_true two (bytes_eq b b') front in
      λ i. exc (kind k k' (first_true (same_kind k k') (bytes_eq t t') start) i) (bytes t t' (second_true (same_kind k k') (bytes_eq t t') start) i)
      (bytes b b' (second_true two (bytes_eq b b') front) i) (one_members ms ms' (second_true three (same_members ms ms') e) i)

  one_members : (v w : Excs) → same_members v w ≡ true → v ≡ w
  one_members no_excs no_excs e = refl
  one_members (exc_then v vs) (exc_then w ws) e =
      λ i. exc_then (one_exc v w (first_true (same_exc v w) (same_members vs ws) e) i) (one_members vs ws (second_true (same_exc v w) (same_members vs ws) e) i)
  one_members _ _ e = absurd (false≢true e)

both : (a b : Bool) → a ≡ true → b ≡ true → (a && b) ≡ true
both true b p q = q
both false b p q = p

same_truth_again : (b : Bool) → same_truth b b ≡ true
same_truth_again true = refl
same_truth_again false = refl

mutual
  pub equal_again : (v : Value) → equal v v ≡ true
  equal_again Nothing = refl
  equal_again (Truth truth) = same_truth_again truth
  equal_again (Int number) = (Decides-int_eq number number).1 refl
  equal_again (Text bytes) = (bytes_eq-Decides bytes bytes).1 refl
  equal_again (Bytes bytes) = (bytes_eq-Decides bytes bytes).1 refl
  equal_again (Items items) = same_items_again items
  equal_again (Fut id) = eq-eqb id id refl
  equal_again (Task id) = eq-eqb id id refl
  equal_again (Group id) = eq-eqb id id refl
  equal_again (Timeout id) = eq-eqb id id refl
  equal_again (Conn id) = eq-eqb id id refl
  equal_again (Server id) = eq-eqb id id refl
  equal_again (Child id) = eq-eqb id id refl
  equal_again (Errs id) = eq-eqb id id refl
  equal_again (Exception fault) = same_exc_again fault

  same_items_again : (vs : Values) → same_items vs vs ≡ true
  same_items_again no_values = refl
  same_items_again (value_then v vs) = both (equal v v) (same_items vs vs) (equal_again v) (same_items_again vs)

  same_exc_again : (e : Exc) → same_exc e e ≡ true
  same_exc_again (exc k t b ms) =
      both (same_kind k k && bytes_eq t t && bytes_eq b b) (same_members ms ms)
      (both (same_kind k k && bytes_eq t t) (bytes_eq b b) (both (same_kind k k) (bytes_eq t t) (true_same the_type k k refl) ((bytes_eq-Decides t t).1 refl))
      ((bytes_eq-Decides b b).1 refl))
      (same_members_again ms)

  same_members_again : (es : Excs) → same_members es es ≡ true
  same_members_again no_excs = refl
  same_members_again (exc_then e es) = both (same_exc e e) (same_members es es) (same_exc_again e) (same_members_again es)

and-false : (b : Bool) → (b && false) ≡ false
and-false true = refl
and-false false = refl

-- lists of other lengths are not equal
pub same_items-lengths : (vs ws : List Value) → length vs ≢ length ws → same_items (values vs) (values ws) ≡ false
same_items-lengths [] [] n = absurd (n refl)
same_items-lengths (v ∷ vs) (w ∷ ws) n =
    rw (same_items-lengths vs ws (λ e. n (omega (arith, e)))) (and-false (equal v w))
same_items-lengths [] (w ∷ ws) n = refl
same_items-lengths (v ∷ vs) [] n = refl

pub same_members-lengths : (es fs : List Exc) → length es ≢ length fs → same_members (excs es) (excs fs) ≡ false
same_members-lengths [] [] n = absurd (n refl)
same_members-lengths (e ∷ es) (f ∷ fs) n =
    rw (same_members-lengths es fs (λ q. n (omega (arith, q)))) (and-false (same_exc e f))
same_members-lengths [] (f ∷ fs) n = refl
same_members-lengths (e ∷ es) [] n = refl

-- whether two exceptions are equal, by their parts
pub same_exc-parts : (a b : Exc) → same_exc a b
    ≡ (same_kind (kind_of a) (kind_of b) && bytes_eq (text_of a) (text_of b) && bytes_eq (bytes_of a) (bytes_of b) && same_members (excs (members_of a))
    (excs (members_of b)))
same_exc-parts (exc k t b ms) (exc k' t' b' ms') = rw (excs-excs_of ms, excs-excs_of ms') refl
