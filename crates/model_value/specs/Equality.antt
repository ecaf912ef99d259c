-- When `==` finds two values equal: they are of one kind of value and have equal content.
-- Source: the library reference, "Comparisons", cut to the values of scripts.
use Rattle.std.specs.Prelude.{ℕ, ℤ, Bool, true, false, not, ◌&&◌, ◌==◌, List, bytes_eq}
use Rattle.std.specs.Ordering.{int_eq}
use Rattle.model_value.specs.Kinds.{same_kind}
use Rattle.model_value.specs.Value.{Value, Nothing, Truth, Int, Text, Bytes, Items, Fut, Task, Group, Timeout, Conn, Server, Child, Errs, Exception, Values}
use Rattle.model_value.specs.Value.{no_values, value_then, Exc, exc, Excs, no_excs, exc_then}

abbrev pub same_truth : Bool → Bool → Bool
same_truth true b = b
same_truth false b = not b

abbrev pub same_int : ℤ → ℤ → Bool
same_int = int_eq

abbrev pub same_bytes : List ℕ → List ℕ → Bool
same_bytes = bytes_eq

abbrev mutual
  pub equal : Value → Value → Bool
  equal Nothing Nothing = true
  equal (Truth a) (Truth b) = same_truth a b
  equal (Int a) (Int b) = same_int a b
  equal (Text a) (Text b) = same_bytes a b
  equal (Bytes a) (Bytes b) = same_bytes a b
  equal (Items a) (Items b) = same_items a b
  equal (Fut a) (Fut b) = a == b
  equal (Task a) (Task b) = a == b
  equal (Group a) (Group b) = a == b
  equal (Timeout a) (Timeout b) = a == b
  equal (Conn a) (Conn b) = a == b
  equal (Server a) (Server b) = a == b
  equal (Child a) (Child b) = a == b
  equal (Errs a) (Errs b) = a == b
  equal (Exception a) (Exception b) = same_exc a b
  equal _ _ = false

  pub same_items : Values → Values → Bool
  same_items no_values no_values = true
  same_items (value_then v vs) (value_then w ws) = equal v w && same_items vs ws
  same_items _ _ = false

  pub same_exc : Exc → Exc → Bool
  same_exc (exc kind text bytes members) (exc kind' text' bytes' members') =
      same_kind kind kind' && same_bytes text text' && same_bytes bytes bytes' && same_members members members'

  pub same_members : Excs → Excs → Bool
  same_members no_excs no_excs = true
  same_members (exc_then e es) (exc_then f fs) = same_exc e f && same_members es fs
  same_members _ _ = false
