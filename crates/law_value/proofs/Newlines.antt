-- No printed byte is a newline.
use Rattle.std.proofs.Common.{◌≡◌, ℕ, zero, suc, ◌/◌, ◌%◌, Bool, true, false, List, [], ◌∷◌, ◌++◌, ℤ, pos, negsuc, refl, if◌then◌else◌, ◌==◌, arith}
use Rattle.std.proofs.lemmas.Bool.Decides.{nat_tests}
use Rattle.std.proofs.lemmas.List.Folds.{list_any-append}
use lib.Chars.{codes}
use Rattle.std.specs.Fmt.{digits, decimal, signed_decimal, digits_onto, digit_glyph}
use Rattle.model_value.specs.declared.kind.Kind.{Kind}
use Rattle.model_value.specs.declared.kind.Kind.TheVariants.{BaseException}
use Rattle.model_value.specs.declared.place.Place.{Place}
use Rattle.model_value.specs.declared.place.Place.TheVariants.{Bare, InText, InBytes}
use Rattle.model_value.specs.Kinds.{kind_name}
use Rattle.model_value.specs.Escapes.{escaped, escaped_byte, text_literal, bytes_literal}
use Rattle.model_value.specs.Value.{Value, Nothing, Truth, Int, Text, Bytes, Items, Fut, Task, Group, Timeout, Conn, Server, Child, Errs, Exception, Values}
use Rattle.model_value.specs.Value.{no_values, value_then, Exc, exc, Excs, no_excs, exc_then}
use Rattle.model_value.specs.Shown.{shown, quoted, quoted_items, more_items, shown_exc, shown_members, more_members, is_group, truth_text}
use Rattle.law_value.specs.Endings.{has_newline}

joined : (xs ys : List ℕ) → has_newline xs ≡ false → has_newline ys ≡ false → has_newline (xs ++ ys) ≡ false
joined xs ys p q = rw (list_any-append (λ byte. byte == 10) xs ys, p, q) refl

chosen : (b : Bool) (xs ys : List ℕ) → has_newline xs ≡ false → has_newline ys ≡ false → has_newline (if b then xs else ys) ≡ false
chosen true xs ys p q = p
chosen false xs ys p q = q

byte_printed : (place : Place) (b : ℕ) → has_newline (escaped_byte place b) ≡ false
byte_printed place b = grind (arith, nat_tests)

pub text_printed : (place : Place) (bytes : List ℕ) → has_newline (escaped place bytes) ≡ false
text_printed place [] = refl
text_printed place (b ∷ bs) = joined (escaped_byte place b) (escaped place bs) (byte_printed place b) (text_printed place bs)

text_literal_printed : (bytes : List ℕ) → has_newline (text_literal bytes) ≡ false
text_literal_printed bytes = joined (escaped InText bytes) (34 ∷ []) (text_printed InText bytes) refl

bytes_literal_printed : (bytes : List ℕ) → has_newline (bytes_literal bytes) ≡ false
bytes_literal_printed bytes = joined (escaped InBytes bytes) (34 ∷ []) (text_printed InBytes bytes) refl

glyph_printed : (n : ℕ) (rest : List ℕ) → has_newline rest ≡ false → has_newline (digit_glyph false n ∷ rest) ≡ false
glyph_printed n rest p = grind (arith, nat_tests)

digits_printed : (k n : ℕ) (rest : List ℕ) → has_newline rest ≡ false → has_newline (digits_onto k 10 false n rest) ≡ false
digits_printed zero n rest p = p
digits_printed (suc k) n rest p =
    let here = glyph_printed (n % 10) rest p in
    chosen (n / 10 == 0) (digit_glyph false (n % 10) ∷ rest) (digits_onto k 10 false (n / 10) (digit_glyph false (n % 10) ∷ rest)) here
    (digits_printed k (n / 10) _ here)

decimal_printed : (n : ℕ) → has_newline (decimal n) ≡ false
unfolding digits
decimal_printed n = digits_printed 64 n [] refl

int_printed : (z : ℤ) → has_newline (signed_decimal z) ≡ false
int_printed (pos n) = decimal_printed n
int_printed (negsuc n) = decimal_printed (suc n)

name_printed : (kind : Kind) → has_newline (kind_name kind) ≡ false
name_printed BaseException = refl
name_printed _ = refl

truth_printed : (truth : Bool) → has_newline (truth_text truth) ≡ false
truth_printed true = refl
truth_printed false = refl

mutual
  quoted_printed : (v : Value) → has_newline (quoted v) ≡ false
  quoted_printed Nothing = refl
  quoted_printed (Truth truth) = truth_printed truth
  quoted_printed (Int number) = int_printed number
  quoted_printed (Text bytes) = text_literal_printed bytes
  quoted_printed (Bytes bytes) = bytes_literal_printed bytes
  quoted_printed (Items items) = joined (quoted_items items) (codes "]") (items_printed items) refl
  quoted_printed (Fut id) = decimal_printed id
  quoted_printed (Task id) = decimal_printed id
  quoted_printed (Group id) = decimal_printed id
  quoted_printed (Timeout id) = decimal_printed id
  quoted_printed (Conn id) = decimal_printed id
  quoted_printed (Server id) = decimal_printed id
  quoted_printed (Child id) = decimal_printed id
  quoted_printed (Errs id) = decimal_printed id
  quoted_printed (Exception fault) = exc_printed fault

  items_printed : (vs : Values) → has_newline (quoted_items vs) ≡ false
  items_printed no_values = refl
  items_printed (value_then v vs) = joined (quoted v) (more_items vs) (quoted_printed v) (more_printed vs)

  more_printed : (vs : Values) → has_newline (more_items vs) ≡ false
  more_printed no_values = refl
  more_printed (value_then v vs) = joined (quoted v) (more_items vs) (quoted_printed v) (more_printed vs)

  pub exc_printed : (e : Exc) → has_newline (shown_exc e) ≡ false
  exc_printed (exc kind text bytes members) =
      joined (kind_name kind ++ codes "(" ++ text_literal text ++ (if is_group kind then codes ", [" ++ shown_members members ++ codes "]" else [])) (codes ")")
      (
      joined (kind_name kind ++ codes "(" ++ text_literal text) (if is_group kind then codes ", [" ++ shown_members members ++ codes "]" else [])
      (joined (kind_name kind ++ codes "(") (text_literal text) (joined (kind_name kind) (codes "(") (name_printed kind) refl) (text_literal_printed text))
      (chosen (is_group kind) (codes ", [" ++ shown_members members ++ codes "]") [] (joined (shown_members members) (codes "]")
      (members_printed members) refl) refl)
      ) refl

  members_printed : (es : Excs) → has_newline (shown_members es) ≡ false
  members_printed no_excs = refl
  members_printed (exc_then e es) = joined (shown_exc e) (more_members es) (exc_printed e) (more_members_printed es)

  more_members_printed : (es : Excs) → has_newline (more_members es) ≡ false
  more_members_printed no_excs = refl
  more_members_printed (exc_then e es) = joined (shown_exc e) (more_members es) (exc_printed e) (more_members_printed es)

pub shown_printed : (v : Value) → has_newline (shown v) ≡ false
shown_printed (Text bytes) = text_printed Bare bytes
shown_printed Nothing = refl
shown_printed (Truth truth) = truth_printed truth
shown_printed v = quoted_printed v
