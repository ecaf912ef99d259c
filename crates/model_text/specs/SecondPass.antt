-- The second pass over lines that have their forms: what their names mean. The least faulty line counts, and in one line
-- the least cause; that there is no `main` without parameters is told behind all lines.
-- Source: the Python language reference, "Naming and binding", "Function definitions".
use Rattle.std.specs.Prelude.{ℕ, Bool, true, false, ◌&&◌, not, List, [], ◌∷◌, ◌++◌, length, map, flat_map, option_to_list, Option, Some, None, Result, Ok, Err}
use Rattle.std.specs.Prelude.{codes, find, nat_eq, nat_le, if◌then◌else◌}
use Rattle.std.specs.List.{list_any}
use Rattle.std.specs.Str.{bytes_eq}
use Rattle.model_value.specs.declared.kind.Kind.{Kind}
use Rattle.model_tree.specs.Syntax.{Name, Expr, Target}
use Rattle.model_tree.specs.Known.{kind_of_name, is_taken}
use Rattle.model_text.specs.declared.cause.Cause.TheVariants as cause
use Rattle.model_text.specs.Terms.{Term}
use Rattle.model_text.specs.Forms.{Form, Profile, Def, Assign, Yield, YieldFrom, Print, Raise, Return, Pass, If, Else, While, Try, Except, Finally, WithGroup}
use Rattle.model_text.specs.Forms.{WithTimeout, End, Spelled}
use Rattle.model_text.specs.FirstPass.{Fault, fault_at, Numbered}
use Rattle.model_text.specs.Naming.{Callee, Scope, Meant, both, meant_map, if_known, if_arity, meaning_of, all_meant, target_of}

-- a line whose names have their meanings
abbrev pub Line : Type 0
Line = Form Expr Target Kind

abbrev pub most_parameters : ℕ
most_parameters = 16

-- ---- the lines of each coroutine
pub record Part (F : Type 0) : Type 0 where
  pub line : ℕ
  pub name : Name
  pub parameters : List Name
  -- the lines behind its head, with the `end`
  pub lines : List F

-- lines before the first `def`, and the coroutines
pub record ScriptParts (F : Type 0) : Type 0 where
  pub front : List F
  pub coroutines : List (Part F)

abbrev pub before_parts : Spelled → Numbered Spelled → ScriptParts (Numbered Spelled) → ScriptParts (Numbered Spelled)
before_parts (Def name parameters) head parts =
    record { front = []; coroutines = record { line = head.line; name = name; parameters = parameters; lines = parts.front } ∷ parts.coroutines }
before_parts _ line parts = record parts { front = line ∷ parts.front }

-- a coroutine's lines stand from its `def` to the next
abbrev pub parts_of : List (Numbered Spelled) → ScriptParts (Numbered Spelled)
parts_of [] = record { front = []; coroutines = [] }
parts_of (line ∷ lines) = before_parts line.form line (parts_of lines)

-- ---- what a coroutine binds: its parameters, and what its lines assign anywhere
abbrev pub bound_by : Spelled → List Name
bound_by (Assign name value) = name ∷ []
bound_by (YieldFrom into target) = option_to_list into
bound_by (Except kind name) = option_to_list name
bound_by (WithGroup name) = name ∷ []
bound_by (WithTimeout delay name) = name ∷ []
bound_by _ = []

abbrev pub variables_in : Part (Numbered Spelled) → List Name
variables_in part = part.parameters ++ flat_map (λ line. bound_by line.form) part.lines

abbrev pub callee : Part (Numbered Spelled) → Callee
callee part = record { name = part.name; parameters = length part.parameters }

-- ---- what a line means
-- a name that a line binds
abbrev pub free : Name → Meant Name
free name = if_known (not (is_taken name)) name

abbrev pub free_or_none : Option Name → Meant (Option Name)
free_or_none None = Ok None
free_or_none (Some name) = meant_map Some (free name)

abbrev pub kind_meant : Option Kind → Meant Kind
kind_meant None = Err cause.Name
kind_meant (Some kind) = Ok kind

abbrev pub value_meant : Scope → Option Term → Meant (Option Expr)
value_meant scope None = Ok None
value_meant scope (Some value) = meant_map Some (meaning_of scope value)

abbrev pub line_meant : Scope → Spelled → Meant Line
line_meant scope (Profile number) = Ok (Profile number)
line_meant scope (Def name parameters) = Ok (Def name parameters)
line_meant scope (Assign name value) = both Assign (free name) (meaning_of scope value)
line_meant scope Yield = Ok Yield
line_meant scope (YieldFrom into target) = both YieldFrom (free_or_none into) (target_of scope target)
line_meant scope (Print items) = meant_map Print (all_meant scope items)
line_meant scope (Raise fault) = meant_map Raise (meaning_of scope fault)
line_meant scope (Return value) = meant_map Return (value_meant scope value)
line_meant scope Pass = Ok Pass
line_meant scope (If test) = meant_map If (meaning_of scope test)
line_meant scope Else = Ok Else
line_meant scope (While test) = meant_map While (meaning_of scope test)
line_meant scope Try = Ok Try
line_meant scope (Except kind name) = both Except (kind_meant (kind_of_name kind)) (free_or_none name)
line_meant scope Finally = Ok Finally
line_meant scope (WithGroup name) = meant_map WithGroup (free name)
line_meant scope (WithTimeout delay name) = both WithTimeout (meaning_of scope delay) (free name)
line_meant scope End = Ok End

-- ---- heads
-- each name once, and none of them the language's own
abbrev pub are_fresh : List Name → Bool
are_fresh [] = true
are_fresh (name ∷ names) = not (is_taken name) && not (list_any (bytes_eq name) names) && are_fresh names

-- a head behind coroutines of these names
abbrev pub head_meant : List Name → Part (Numbered Spelled) → Meant Name
head_meant earlier part =
    both (λ name right. name) (if_known (not (is_taken part.name) && not (list_any (bytes_eq part.name) earlier) && are_fresh part.parameters) part.name)
    (if_arity (nat_le (length part.parameters) most_parameters) part.name)

-- ---- the first fault in order of lines, or the meanings of all
abbrev pub Judged : Type 0 → Type 0
Judged A = Result A Fault

abbrev pub judged_at : {A : Type 0} → ℕ → Meant A → Judged A
judged_at line (Ok meaning) = Ok meaning
judged_at line (Err cause) = fault_at line cause

abbrev pub in_turn : {A B C : Type 0} → (A → B → C) → Judged A → Judged B → Judged C
in_turn f (Ok a) (Ok b) = Ok (f a b)
in_turn f (Ok a) (Err fault) = Err fault
in_turn f (Err fault) second = Err fault

abbrev pub lines_judged : Scope → List (Numbered Spelled) → Judged (List Line)
lines_judged scope [] = Ok []
lines_judged scope (line ∷ lines) =
    in_turn (λ first others. first ∷ others) (judged_at line.line (line_meant scope line.form)) (lines_judged scope lines)

abbrev pub named_part : Part (Numbered Spelled) → List Line → Part Line
named_part part lines = record { line = part.line; name = part.name; parameters = part.parameters; lines = lines }

abbrev pub part_judged : List Callee → List Name → Part (Numbered Spelled) → Judged (Part Line)
part_judged callees earlier part =
    in_turn (λ name lines. named_part part lines) (judged_at part.line (head_meant earlier part))
    (lines_judged (record { callees = callees; variables = variables_in part }) part.lines)

abbrev pub parts_judged : List Callee → List Name → List (Part (Numbered Spelled)) → Judged (List (Part Line))
parts_judged callees earlier [] = Ok []
parts_judged callees earlier (part ∷ parts) =
    in_turn (λ first others. first ∷ others) (part_judged callees earlier part) (parts_judged callees (part.name ∷ earlier) parts)

-- ---- `main`
abbrev pub main_text : List ℕ
main_text = codes "main"

abbrev pub is_main : Option Callee → Bool
is_main None = false
is_main (Some callee) = nat_eq callee.parameters 0

-- the line after the last has this number
abbrev pub main_judged : ℕ → List Callee → Judged Bool
main_judged line callees =
    if is_main (find (λ callee. bytes_eq callee.name main_text) callees) then Ok true else fault_at line cause.NoMain

-- The coroutines with the meanings of their lines, or the first fault. The line after the last has this number.
unfoldable pub second_pass : ℕ → List (Part (Numbered Spelled)) → Judged (List (Part Line))
second_pass line parts =
    let callees = map callee parts in
    in_turn (λ judged main. judged) (parts_judged callees [] parts) (main_judged line callees)
