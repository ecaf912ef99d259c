-- A value as a tree of numbers, and back. By it proofs tell values apart, and types of code may be seen as values.
use base.Stored.{Gv, gnil, gnum, gcons, num, Coded}
use denote.Enum.Declared.{tag_of}
use Rattle.std.specs.Prelude.{◌≡◌, ℕ, zero, suc, ℤ, pos, negsuc, Bool, true, false, List, [], ◌∷◌, slice_index_or}
use Rattle.std.proofs.Common.{sym, refl, ap, ◌∙◌}
use Rattle.model_value.specs.contracts.kind.Kind.{the_type}
use Rattle.model_value.specs.declared.kind.Kind.{Kind}
use Rattle.model_value.specs.declared.kind.Kind.TheVariants.{BaseException}
use Rattle.model_value.specs.Kinds.{kinds}
use Rattle.model_value.specs.Value.{Value, Nothing, Truth, Int, Text, Bytes, Items, Fut, Task, Group, Timeout, Conn, Server, Child, Errs, Exception, Values}
use Rattle.model_value.specs.Value.{no_values, value_then, Exc, exc, Excs, no_excs, exc_then}

abbrev truth_code : Bool → Gv
truth_code false = gnum 0
truth_code true = gnum 1

abbrev int_code : ℤ → Gv
int_code (pos n) = gcons (gnum 0) (gnum n)
int_code (negsuc n) = gcons (gnum 1) (gnum n)

abbrev bytes_code : List ℕ → Gv
bytes_code [] = gnil
bytes_code (b ∷ bs) = gcons (gnum b) (bytes_code bs)

abbrev mutual
  pub value_code : Value → Gv
  value_code Nothing = gcons (gnum 0) gnil
  value_code (Truth truth) = gcons (gnum 1) (truth_code truth)
  value_code (Int number) = gcons (gnum 2) (int_code number)
  value_code (Text bytes) = gcons (gnum 3) (bytes_code bytes)
  value_code (Bytes bytes) = gcons (gnum 4) (bytes_code bytes)
  value_code (Items items) = gcons (gnum 5) (values_code items)
  value_code (Fut id) = gcons (gnum 6) (gnum id)
  value_code (Task id) = gcons (gnum 7) (gnum id)
  value_code (Group id) = gcons (gnum 8) (gnum id)
  value_code (Timeout id) = gcons (gnum 9) (gnum id)
  value_code (Conn id) = gcons (gnum 10) (gnum id)
  value_code (Server id) = gcons (gnum 11) (gnum id)
  value_code (Child id) = gcons (gnum 12) (gnum id)
  value_code (Errs id) = gcons (gnum 13) (gnum id)
  value_code (Exception fault) = gcons (gnum 14) (exc_code fault)

  values_code : Values → Gv
  values_code no_values = gnil
  values_code (value_then value others) = gcons (value_code value) (values_code others)

  pub exc_code : Exc → Gv
  exc_code (exc kind text bytes members) =
      gcons (gcons (gnum (tag_of the_type kind)) (bytes_code text)) (gcons (bytes_code bytes) (excs_code members))

  excs_code : Excs → Gv
  excs_code no_excs = gnil
  excs_code (exc_then first others) = gcons (exc_code first) (excs_code others)

-- ---- and back
abbrev truth_from : Gv → Bool
truth_from (gnum (suc n)) = true
truth_from _ = false

abbrev int_by_sign : ℕ → ℕ → ℤ
int_by_sign zero n = pos n
int_by_sign (suc _) n = negsuc n

abbrev int_from : Gv → ℤ
int_from (gcons sign n) = int_by_sign (num sign) (num n)
int_from _ = pos 0

abbrev bytes_from : Gv → List ℕ
bytes_from (gcons b bs) = num b ∷ bytes_from bs
bytes_from _ = []

-- the value of a case number, from what its content may be
abbrev by_case : ℕ → Gv → Values → Exc → Value
by_case number content items fault =
    let id = num content in
    slice_index_or
    (Nothing ∷ Truth (truth_from content) ∷ Int (int_from content) ∷ Text (bytes_from content) ∷ Bytes (bytes_from content) ∷ Items items ∷ Fut id ∷ Task id
    ∷ Group id ∷ Timeout id
    ∷ Conn id ∷ Server id ∷ Child id ∷ Errs id ∷ Exception fault ∷ []) number Nothing

abbrev kind_from : Gv → Kind
kind_from (gnum n) = slice_index_or kinds n BaseException
kind_from _ = BaseException

abbrev first_of_pair : Gv → Gv
first_of_pair (gcons a b) = a
first_of_pair _ = gnil

abbrev second_of_pair : Gv → Gv
second_of_pair (gcons a b) = b
second_of_pair _ = gnil

abbrev mutual
  pub value_from : Gv → Value
  value_from (gcons number content) = by_case (num number) content (values_from content) (exc_from content)
  value_from _ = Nothing

  values_from : Gv → Values
  values_from (gcons value others) = value_then (value_from value) (values_from others)
  values_from _ = no_values

  pub exc_from : Gv → Exc
  exc_from (gcons front (gcons bytes members)) =
      exc (kind_from (first_of_pair front)) (bytes_from (second_of_pair front)) (bytes_from bytes) (excs_from members)
  exc_from _ = exc BaseException [] [] no_excs

  excs_from : Gv → Excs
  excs_from (gcons first others) = exc_then (exc_from first) (excs_from others)
  excs_from _ = no_excs

-- ---- the way back undoes the way there
truth_again : (truth : Bool) → truth_from (truth_code truth) ≡ truth
truth_again false = refl
truth_again true = refl

int_again : (number : ℤ) → int_from (int_code number) ≡ number
int_again (pos n) = refl
int_again (negsuc n) = refl

bytes_again : (bytes : List ℕ) → bytes_from (bytes_code bytes) ≡ bytes
bytes_again [] = refl
bytes_again (b ∷ bs) = ap (λ r. b ∷ r) (bytes_again bs)

kind_again : (kind : Kind) → kind_from (gnum (tag_of the_type kind)) ≡ kind
kind_again BaseException = refl
kind_again _ = refl

mutual
  pub value_again : (value : Value) → value_from (value_code value) ≡ value
  value_again Nothing = refl
  value_again (Truth truth) = ap Truth (truth_again truth)
  value_again (Int number) = ap Int (int_again number)
  value_again (Text bytes) = ap Text (bytes_again bytes)
  value_again (Bytes bytes) = ap Bytes (bytes_again bytes)
  value_again (Items items) = ap Items (values_again items)
  value_again (Fut id) = refl
  value_again (Task id) = refl
  value_again (Group id) = refl
  value_again (Timeout id) = refl
  value_again (Conn id) = refl
  value_again (Server id) = refl
  value_again (Child id) = refl
  value_again (Errs id) = refl
  value_again (Exception fault) = ap Exception (exc_again fault)

  values_again : (values : Values) → values_from (values_code values) ≡ values
  values_again no_values = refl
  values_again (value_then value others) = λ i. value_then (value_again value i) (values_again others i)

  pub exc_again : (fault : Exc) → exc_from (exc_code fault) ≡ fault
  exc_again (exc kind text bytes members) =
      λ i. exc (kind_again kind i) (bytes_again text i) (bytes_again bytes i) (excs_again members i)

  excs_again : (members : Excs) → excs_from (excs_code members) ≡ members
  excs_again no_excs = refl
  excs_again (exc_then first others) = λ i. exc_then (exc_again first i) (excs_again others i)

abbrev pub coded_value : Coded Value
coded_value = record { code = value_code; inj = λ v w e. sym (value_again v) ∙ ap value_from e ∙ value_again w }

abbrev pub coded_exc : Coded Exc
coded_exc = record { code = exc_code; inj = λ v w e. sym (exc_again v) ∙ ap exc_from e ∙ exc_again w }
