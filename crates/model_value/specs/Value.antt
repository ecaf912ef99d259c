-- Values and exceptions as plain data. Code shares texts and lists behind a count; here they are lists.
-- Source: the library reference, "Built-in Types" and "Built-in Exceptions".
use Rattle.std.specs.Prelude.{ℕ, ℤ, Bool, List, [], ◌∷◌}
use Rattle.model_value.specs.declared.kind.Kind.{Kind}
use Rattle.model_value.specs.declared.outcome.Outcome as outcome

mutual
  pub data Value : Type 0 where
    Nothing : Value
    Truth : (truth : Bool) → Value
    Int : (number : ℤ) → Value
    Text : (bytes : List ℕ) → Value
    Bytes : (bytes : List ℕ) → Value
    Items : (items : Values) → Value
    Fut : (id : ℕ) → Value
    Task : (id : ℕ) → Value
    Group : (id : ℕ) → Value
    Timeout : (id : ℕ) → Value
    Conn : (id : ℕ) → Value
    Server : (id : ℕ) → Value
    Child : (id : ℕ) → Value
    -- the standard error of a child
    Errs : (id : ℕ) → Value
    Exception : (exception : Exc) → Value

  -- the items of a list value, in order
  pub data Values : Type 0 where
    no_values : Values
    value_then : (value : Value) (others : Values) → Values

  -- an exception: its kind, its text, its bytes, and for a group its members
  pub data Exc : Type 0 where
    exc : (kind : Kind) (text bytes : List ℕ) (members : Excs) → Exc

  pub data Excs : Type 0 where
    no_excs : Excs
    exc_then : (first : Exc) (others : Excs) → Excs

abbrev pub list_of : Values → List Value
list_of no_values = []
list_of (value_then v vs) = v ∷ list_of vs

abbrev pub excs_of : Excs → List Exc
excs_of no_excs = []
excs_of (exc_then e es) = e ∷ excs_of es

abbrev pub values : List Value → Values
values [] = no_values
values (v ∷ vs) = value_then v (values vs)

abbrev pub excs : List Exc → Excs
excs [] = no_excs
excs (e ∷ es) = exc_then e (excs es)

abbrev pub kind_of : Exc → Kind
kind_of (exc kind text bytes members) = kind

abbrev pub text_of : Exc → List ℕ
text_of (exc kind text bytes members) = text

abbrev pub bytes_of : Exc → List ℕ
bytes_of (exc kind text bytes members) = bytes

abbrev pub members_of : Exc → List Exc
members_of (exc kind text bytes members) = excs_of members

-- the exception with these bytes, or with these members, in the place of its own
abbrev pub with_bytes : Exc → List ℕ → Exc
with_bytes (exc kind text old members) bytes = exc kind text bytes members

abbrev pub with_members : Exc → List Exc → Exc
with_members (exc kind text bytes old) members = exc kind text bytes (excs members)

-- an exception with a text alone
abbrev pub exception_of : Kind → List ℕ → Exc
exception_of kind text = exc kind text [] no_excs

-- how a future ends: with a value, failed, or cancelled. Its cases are those of the enumeration.
abbrev pub Outcome : Type 0
Outcome = outcome.Outcome Value Exc
