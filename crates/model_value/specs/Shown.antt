-- The text of a value, as `print` and `str` give it.
use Rattle.std.specs.Prelude.{ℕ, Bool, true, false, if◌then◌else◌, List, [], ◌∷◌, ◌++◌}
use Rattle.std.specs.Fmt.{decimal, signed_decimal}
use lib.Chars.{codes}
use Rattle.model_value.specs.declared.kind.Kind.{Kind}
use Rattle.model_value.specs.declared.kind.Kind.TheVariants.{ExceptionGroup}
use Rattle.model_value.specs.Kinds.{kind_name, same_kind}
use Rattle.model_value.specs.declared.place.Place.TheVariants.{Bare}
use Rattle.model_value.specs.Escapes.{escaped, text_literal, bytes_literal}
use Rattle.model_value.specs.Value.{Value, Nothing, Truth, Int, Text, Bytes, Items, Fut, Task, Group, Timeout, Conn, Server, Child, Errs, Exception, Values}
use Rattle.model_value.specs.Value.{no_values, value_then, Exc, exc, Excs, no_excs, exc_then}

-- the letter of an id and its number
abbrev pub id_text : (letter id : ℕ) → List ℕ
id_text letter id = letter ∷ decimal id

abbrev pub truth_text : Bool → List ℕ
truth_text true = codes "True"
truth_text false = codes "False"

abbrev pub is_group : Kind → Bool
is_group kind = same_kind kind ExceptionGroup

abbrev mutual
  -- a value inside a list or an exception: a text has its quotes
  pub quoted : Value → List ℕ
  quoted Nothing = codes "None"
  quoted (Truth truth) = truth_text truth
  quoted (Int number) = signed_decimal number
  quoted (Text bytes) = text_literal bytes
  quoted (Bytes bytes) = bytes_literal bytes
  quoted (Items items) = codes "[" ++ quoted_items items ++ codes "]"
  quoted (Fut id) = id_text 70 id
  quoted (Task id) = id_text 84 id
  quoted (Group id) = id_text 71 id
  quoted (Timeout id) = id_text 79 id
  quoted (Conn id) = id_text 67 id
  quoted (Server id) = id_text 76 id
  quoted (Child id) = id_text 80 id
  quoted (Errs id) = id_text 69 id
  quoted (Exception exception) = shown_exc exception

  -- the items with `, ` between them
  pub quoted_items : Values → List ℕ
  quoted_items no_values = []
  quoted_items (value_then value others) = quoted value ++ more_items others

  -- further items, each behind its `, `
  pub more_items : Values → List ℕ
  more_items no_values = []
  more_items (value_then value others) = codes ", " ++ quoted value ++ more_items others

  -- `KIND("text")`, and for a group `ExceptionGroup("text", [MEMBER, ..])`
  pub shown_exc : Exc → List ℕ
  shown_exc (exc kind text bytes members) =
      kind_name kind ++ codes "(" ++ text_literal text ++ (if is_group kind then codes ", [" ++ shown_members members ++ codes "]" else []) ++ codes ")"

  -- the members with `, ` between them
  pub shown_members : Excs → List ℕ
  shown_members no_excs = []
  shown_members (exc_then first others) = shown_exc first ++ more_members others

  pub more_members : Excs → List ℕ
  more_members no_excs = []
  more_members (exc_then first others) = codes ", " ++ shown_exc first ++ more_members others

-- a value by itself: a text stands without quotes
abbrev pub shown : Value → List ℕ
shown (Text bytes) = escaped Bare bytes
shown value = quoted value
