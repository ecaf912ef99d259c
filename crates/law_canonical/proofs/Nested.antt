-- Lines that stand where they may spell statements.
use Rattle.std.proofs.Common.{◌≡◌, Bool, true, false, List, [], ◌∷◌, ◌++◌, refl, sym, ap, ◌∙◌, subst, append_assoc}
use Rattle.std.specs.Prelude.{not}
use Rattle.model_value.specs.declared.kind.Kind.{Kind}
use Rattle.model_tree.specs.Syntax as plain
use Rattle.model_tree.specs.Syntax.{Name, Expr, Statement, Statements, no_statements, statement_then, Branch, no_branch, branch, Handlers, no_handlers}
use Rattle.model_tree.specs.Syntax.{handler_then}
use Rattle.model_text.specs.Forms.{Form, Profile, Def, Assign, Yield, YieldFrom, Print, Raise, Return, Pass, If, Else, While, Try, Except, Finally, WithGroup}
use Rattle.model_text.specs.Forms.{WithTimeout, End}
use Rattle.model_text.specs.Places.{Block, DefBlock, IfBlock, WhileBlock, TryBlock, WithBlock, Section, ElseSection, ExceptSection, FinallySection}
use Rattle.model_text.specs.Places.{OpenBlock, after, role_of, fits, begins, is_finally, is_outside}
use Rattle.model_text.specs.SecondPass.{Line}
use Rattle.model_text.specs.Spells.{Spells, spells_nothing, spells_next, SpellsOne, spells_line, spells_if, spells_while, spells_try, spells_group}
use Rattle.model_text.specs.Spells.{spells_timeout, SpellsSection, no_section, section_with, SpellsHandlers, no_clauses, clause_then}

-- a line that stands inside blocks
abbrev pub is_inner : {E G K : Type 0} → Form E G K → Bool
is_inner (Profile number) = false
is_inner (Def name parameters) = false
is_inner _ = true

-- The lines fit the blocks that are open before them, and leave none open.
abbrev pub Nested : {E G K : Type 0} → List OpenBlock → List (Form E G K) → Type 0
Nested blocks [] = blocks ≡ []
Nested blocks (line ∷ lines) =
    (is_inner line ≡ true) × (is_outside blocks ≡ false) × (fits blocks (role_of line) ≡ true) × Nested (after (role_of line) blocks) lines

-- ---- what stands behind lines of an open block
abbrev IfSections : List Section → List Line → Type 0
IfSections [] lines = (otherwise : Branch) × SpellsSection Else lines otherwise
IfSections (section ∷ sections) lines = lines ≡ []

record TrySections (lines : List Line) : Type 0 where
  handlers : Handlers
  finally : Branch
  clauses : List Line
  others : List Line
  split : lines ≡ clauses ++ others
  each : SpellsHandlers clauses handlers
  last : SpellsSection Finally others finally

abbrev TryBehind : Bool → List Line → Type 0
TryBehind true lines = lines ≡ []
TryBehind false lines = TrySections lines

-- the sections of a block that may stand behind those that have begun, the latest first
abbrev Sections : Block → List Section → List Line → Type 0
Sections IfBlock begun lines = IfSections begun lines
Sections TryBlock begun lines = TryBehind (is_finally begun) lines
Sections _ begun lines = lines ≡ []

-- what lines in a block are: statements, sections, its `end`, and what stands behind it
record Level (block : Block) (begun : List Section) (Next : List Line → Type 0) (rest : List Line) : Type 0 where
  lines : List Line
  body : Statements
  spelled : Spells lines body
  sections : List Line
  begins : Sections block begun sections
  others : List Line
  split : rest ≡ lines ++ (sections ++ (End ∷ others))
  next : Next others

abbrev Behind : List OpenBlock → List Line → Type 0
Behind [] rest = rest ≡ []
Behind (top ∷ blocks) rest = Level top.block top.sections (Behind blocks) rest

ends-try : (is_over : Bool) → TryBehind is_over []
ends-try true = refl
ends-try false = record {
  handlers = no_handlers;
  finally = no_branch;
  clauses = [];
  others = [];
  split = refl;
  each = no_clauses;
  last = no_section;
}

ends : (block : Block) (begun : List Section) → Sections block begun []
ends IfBlock [] = (no_branch, no_section)
ends IfBlock (section ∷ begun) = refl
ends TryBlock begun = ends-try (is_finally begun)
ends DefBlock begun = refl
ends WhileBlock begun = refl
ends WithBlock begun = refl

-- ---- lists
four : (a b c d : List Line) → a ++ (b ++ (c ++ d)) ≡ (a ++ (b ++ c)) ++ d
four a b c d = sym (append_assoc a (b ++ c) d ∙ ap (λ l. a ++ l) (append_assoc b c d))

five : (a b c d e : List Line) → a ++ ((b ++ c) ++ (d ++ e)) ≡ (a ++ (b ++ (c ++ d))) ++ e
five a b c d e =
    sym (append_assoc a (b ++ (c ++ d)) e
    ∙ ap (λ l. a ++ l) (append_assoc b (c ++ d) e ∙ (ap (λ l. b ++ l) (append_assoc c d e) ∙ sym (append_assoc b c (d ++ e)))))

no_sections : (rest lines sections others : List Line) → rest ≡ lines ++ (sections ++ (End ∷ others)) → sections ≡ [] → rest ≡ lines ++ (End ∷ others)
no_sections rest lines sections others e none = e ∙ ap (λ s. lines ++ (s ++ (End ∷ others))) none

ended : (rest lines sections others : List Line) → rest ≡ lines ++ (sections ++ (End ∷ others)) → sections ≡ [] → rest ≡ (lines ++ End ∷ []) ++ others
ended rest lines sections others e none =
    no_sections rest lines sections others e none ∙ sym (append_assoc lines (End ∷ []) others)

module _ {block : Block} {begun : List Section} {Next : List Line → Type 0} where
  -- ---- a statement in front
  in_front : {first : List Line} {statement : Statement} → SpellsOne first statement → {rest : List Line} → Level block begun Next rest
      → Level block begun Next (first ++ rest)
  in_front {first} {statement} one level = record {
    lines = first ++ level.lines;
    body = statement_then statement level.body;
    spelled = spells_next one level.spelled;
    sections = level.sections;
    begins = level.begins;
    others = level.others;
    split = ap (λ l. first ++ l) level.split ∙ sym (append_assoc first level.lines (level.sections ++ (End ∷ level.others)));
    next = level.next;
  }

  -- a head before lines of its block
  headed : (head : Line) (inner rest others : List Line) (statement : Statement) → SpellsOne (head ∷ inner) statement → rest ≡ inner ++ others
      → Level block begun Next others → Level block begun Next (head ∷ rest)
  headed head inner rest others statement one e level =
      subst (λ l. Level block begun Next (head ∷ l)) (sym e) (in_front one level)

  if_headed : (test : Expr) (rest : List Line) → Level IfBlock [] (Level block begun Next) rest → Level block begun Next (If test ∷ rest)
  if_headed test rest l =
      headed (If test) (l.lines ++ (l.sections ++ End ∷ [])) rest l.others (plain.If test l.body l.begins.0) (spells_if l.spelled l.begins.1)
      (l.split ∙ four l.lines l.sections (End ∷ []) l.others) l.next

  while_headed : (test : Expr) (rest : List Line) → Level WhileBlock [] (Level block begun Next) rest → Level block begun Next (While test ∷ rest)
  while_headed test rest l =
      headed (While test) (l.lines ++ End ∷ []) rest l.others (plain.While test l.body) (spells_while l.spelled)
      (ended rest l.lines l.sections l.others l.split l.begins) l.next

  group_headed : (name : Name) (rest : List Line) → Level WithBlock [] (Level block begun Next) rest → Level block begun Next (WithGroup name ∷ rest)
  group_headed name rest l =
      headed (WithGroup name) (l.lines ++ End ∷ []) rest l.others (plain.With plain.GroupBlock name l.body) (spells_group l.spelled)
      (ended rest l.lines l.sections l.others l.split l.begins) l.next

  timeout_headed : (delay : Expr) (name : Name) (rest : List Line) → Level WithBlock [] (Level block begun Next) rest
      → Level block begun Next (WithTimeout delay name ∷ rest)
  timeout_headed delay name rest l =
      headed (WithTimeout delay name) (l.lines ++ End ∷ []) rest l.others (plain.With (plain.TimeoutBlock delay) name l.body) (spells_timeout l.spelled)
      (ended rest l.lines l.sections l.others l.split l.begins) l.next

  try_headed : (rest : List Line) → Level TryBlock [] (Level block begun Next) rest → Level block begun Next (Try ∷ rest)
  try_headed rest l =
      let t : TrySections l.sections = l.begins in
      headed Try (l.lines ++ (t.clauses ++ (t.others ++ End ∷ []))) rest l.others (plain.Try l.body t.handlers t.finally) (spells_try l.spelled t.each t.last)
      (l.split ∙ (ap (λ s. l.lines ++ (s ++ (End ∷ l.others))) t.split ∙ five l.lines t.clauses t.others (End ∷ []) l.others)) l.next

not-true : (b : Bool) → not b ≡ true → b ≡ false
not-true true e = cc
not-true false e = refl

module _ {Next : List Line → Type 0} where
  -- ---- a section's line in front
  else_begun : (block : Block) (begun : List Section) (rest : List Line) → begins ElseSection block begun ≡ true → Level block (ElseSection ∷ begun) Next rest
      → Level block begun Next (Else ∷ rest)
  else_begun IfBlock [] rest e l = record {
    lines = [];
    body = no_statements;
    spelled = spells_nothing;
    sections = Else ∷ l.lines;
    begins = (branch l.body, section_with l.spelled);
    others = l.others;
    split = ap (λ r. Else ∷ r) (no_sections rest l.lines l.sections l.others l.split l.begins);
    next = l.next;
  }
  else_begun IfBlock (section ∷ begun) rest e l = cc
  else_begun DefBlock begun rest e l = cc
  else_begun WhileBlock begun rest e l = cc
  else_begun TryBlock begun rest e l = cc
  else_begun WithBlock begun rest e l = cc

  except_begun : (block : Block) (begun : List Section) (kind : Kind) (name : _) (rest : List Line) → begins ExceptSection block begun ≡ true
      → Level block (ExceptSection ∷ begun) Next rest → Level block begun Next (Except kind name ∷ rest)
  except_begun TryBlock begun kind name rest e l =
      let t : TrySections l.sections = l.begins in
      let more : TrySections (Except kind name ∷ (l.lines ++ l.sections)) = record {
        handlers = handler_then kind name l.body t.handlers;
        finally = t.finally;
        clauses = Except kind name ∷ (l.lines ++ t.clauses);
        others = t.others;
        split = ap (λ s. Except kind name ∷ s) (ap (λ s. l.lines ++ s) t.split ∙ sym (append_assoc l.lines t.clauses t.others));
        each = clause_then l.spelled t.each;
        last = t.last;
      } in
      record {
        lines = [];
        body = no_statements;
        spelled = spells_nothing;
        sections = Except kind name ∷ (l.lines ++ l.sections);
        begins = subst (λ b. TryBehind b (Except kind name ∷ (l.lines ++ l.sections))) (sym (not-true (is_finally begun) e)) more;
        others = l.others;
        split = ap (λ r. Except kind name ∷ r) (l.split ∙ sym (append_assoc l.lines l.sections (End ∷ l.others)));
        next = l.next;
      }
  except_begun IfBlock begun kind name rest e l = cc
  except_begun DefBlock begun kind name rest e l = cc
  except_begun WhileBlock begun kind name rest e l = cc
  except_begun WithBlock begun kind name rest e l = cc

  finally_begun : (block : Block) (begun : List Section) (rest : List Line) → begins FinallySection block begun ≡ true
      → Level block (FinallySection ∷ begun) Next rest → Level block begun Next (Finally ∷ rest)
  finally_begun TryBlock begun rest e l =
      let more : TrySections (Finally ∷ l.lines) = record {
        handlers = no_handlers;
        finally = branch l.body;
        clauses = [];
        others = Finally ∷ l.lines;
        split = refl;
        each = no_clauses;
        last = section_with l.spelled;
      } in
      record {
        lines = [];
        body = no_statements;
        spelled = spells_nothing;
        sections = Finally ∷ l.lines;
        begins = subst (λ b. TryBehind b (Finally ∷ l.lines)) (sym (not-true (is_finally begun) e)) more;
        others = l.others;
        split = ap (λ r. Finally ∷ r) (no_sections rest l.lines l.sections l.others l.split l.begins);
        next = l.next;
      }
  finally_begun IfBlock begun rest e l = cc
  finally_begun DefBlock begun rest e l = cc
  finally_begun WhileBlock begun rest e l = cc
  finally_begun WithBlock begun rest e l = cc

  end_begun : (block : Block) (begun : List Section) (rest : List Line) → Next rest → Level block begun Next (End ∷ rest)
  end_begun block begun rest next = record {
    lines = [];
    body = no_statements;
    spelled = spells_nothing;
    sections = [];
    begins = ends block begun;
    others = rest;
    split = refl;
    next = next;
  }

behind : (lines : List Line) (blocks : List OpenBlock) → Nested blocks lines → Behind blocks lines
behind [] [] n = refl
behind [] (top ∷ blocks) n = cc
behind (line ∷ lines) [] n = absurd (let e : true ≡ false = n.1 in cc)
behind (Profile number ∷ lines) (top ∷ blocks) n = absurd (let e : false ≡ true = n.0 in cc)
behind (Def name parameters ∷ lines) (top ∷ blocks) n = absurd (let e : false ≡ true = n.0 in cc)
behind (Assign name value ∷ lines) (top ∷ blocks) n = in_front (spells_line refl) (behind lines (top ∷ blocks) n.3)
behind (Yield ∷ lines) (top ∷ blocks) n = in_front (spells_line refl) (behind lines (top ∷ blocks) n.3)
behind (YieldFrom into target ∷ lines) (top ∷ blocks) n = in_front (spells_line refl) (behind lines (top ∷ blocks) n.3)
behind (Print items ∷ lines) (top ∷ blocks) n = in_front (spells_line refl) (behind lines (top ∷ blocks) n.3)
behind (Raise fault ∷ lines) (top ∷ blocks) n = in_front (spells_line refl) (behind lines (top ∷ blocks) n.3)
behind (Return value ∷ lines) (top ∷ blocks) n = in_front (spells_line refl) (behind lines (top ∷ blocks) n.3)
behind (Pass ∷ lines) (top ∷ blocks) n = in_front (spells_line refl) (behind lines (top ∷ blocks) n.3)
behind (If test ∷ lines) (top ∷ blocks) n =
    if_headed test lines (behind lines (record { block = IfBlock; sections = [] } ∷ top ∷ blocks) n.3)
behind (Else ∷ lines) (top ∷ blocks) n =
    else_begun top.block top.sections lines n.2 (behind lines (record { block = top.block; sections = ElseSection ∷ top.sections } ∷ blocks) n.3)
behind (While test ∷ lines) (top ∷ blocks) n =
    while_headed test lines (behind lines (record { block = WhileBlock; sections = [] } ∷ top ∷ blocks) n.3)
behind (Try ∷ lines) (top ∷ blocks) n =
    try_headed lines (behind lines (record { block = TryBlock; sections = [] } ∷ top ∷ blocks) n.3)
behind (Except kind name ∷ lines) (top ∷ blocks) n =
    except_begun top.block top.sections kind name lines n.2 (behind lines (record { block = top.block; sections = ExceptSection ∷ top.sections } ∷ blocks) n.3)
behind (Finally ∷ lines) (top ∷ blocks) n =
    finally_begun top.block top.sections lines n.2 (behind lines (record { block = top.block; sections = FinallySection ∷ top.sections } ∷ blocks) n.3)
behind (WithGroup name ∷ lines) (top ∷ blocks) n =
    group_headed name lines (behind lines (record { block = WithBlock; sections = [] } ∷ top ∷ blocks) n.3)
behind (WithTimeout delay name ∷ lines) (top ∷ blocks) n =
    timeout_headed delay name lines (behind lines (record { block = WithBlock; sections = [] } ∷ top ∷ blocks) n.3)
behind (End ∷ lines) (top ∷ blocks) n = end_begun top.block top.sections lines (behind lines blocks n.3)

-- The lines of a coroutine behind its head: its body and its `end`.
pub nested-spelled : (lines : List Line) → Nested (record { block = DefBlock; sections = [] } ∷ []) lines
    → (inner : List Line) × (body : Statements) × (lines ≡ inner ++ End ∷ []) × Spells inner body
nested-spelled lines n =
    let l : Level DefBlock [] (λ rest. rest ≡ []) lines = behind lines (record { block = DefBlock; sections = [] } ∷ []) n in
    (l.lines, l.body, no_sections lines l.lines l.sections l.others l.split l.begins ∙ ap (λ r. l.lines ++ (End ∷ r)) l.next, l.spelled)
