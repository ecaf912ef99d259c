-- Lines that spell statements by cases are read as these.
use Rattle.std.proofs.Common.{◌≡◌, ℕ, zero, suc, ◌≤◌, List, [], ◌∷◌, ◌++◌, length, Option, Some, refl, sym, ap, ◌∙◌, arith, subst, append_assoc, append-nil}
use Rattle.std.proofs.lemmas.List.{length-append}
use Rattle.model_value.specs.declared.kind.Kind.{Kind}
use Rattle.model_tree.specs.Syntax as plain
use Rattle.model_tree.specs.Syntax.{Name, Statement, Statements, statement_then, Branch, no_branch, branch, Handlers, no_handlers}
use Rattle.model_tree.specs.Syntax.{handler_then}
use Rattle.model_text.specs.Forms.{Profile, Def, Assign, Yield, YieldFrom, Print, Raise, Return, Pass, If, Else, While, Try, Except, Finally, WithGroup}
use Rattle.model_text.specs.Forms.{WithTimeout, End}
use Rattle.model_text.specs.Places.{Begins, Stands, role_of, Section}
use Rattle.model_text.specs.SecondPass.{Line}
use Rattle.model_text.specs.Bodies.{BlockLines, with_line, with_section, depth_behind, cut_at, cut_from, bodies, block_then, first_then, statements_within}
use Rattle.model_text.specs.Bodies.{statements_in, body_in, simple, handlers_in, finally_in, then_statements}
use Rattle.model_text.specs.Spells.{Spells, spells_nothing, spells_next, SpellsOne, spells_line, spells_if, spells_while, spells_try, spells_group}
use Rattle.model_text.specs.Spells.{spells_timeout, SpellsSection, no_section, section_with, SpellsHandlers, no_clauses, clause_then}

-- ---- lines that a cut passes
abbrev behind_lines : List Line → BlockLines → BlockLines
behind_lines lines cut = record cut { body = lines ++ cut.body }

joined_lines : (first others : List Line) (cut : BlockLines) → behind_lines (first ++ others) cut ≡ behind_lines first (behind_lines others cut)
joined_lines first others cut =
    ap (λ (body : List Line). let c : BlockLines = record { body = body; sections = cut.sections; behind = cut.behind } in c)
    (append_assoc first others cut.body)

-- From one depth to another the lines are lines of the body.
abbrev Leads : ℕ → ℕ → List Line → Type 0
Leads before after lines =
    (rest : List Line) → cut_from before (lines ++ rest) ≡ behind_lines lines (cut_from after rest)

leads-append : (a b c : ℕ) (first others : List Line) → Leads a b first → Leads b c others → Leads a c (first ++ others)
leads-append a b c first others f g rest =
    ap (cut_from a) (append_assoc first others rest)
    ∙ (f (others ++ rest) ∙ (ap (behind_lines first) (g rest) ∙ sym (joined_lines first others (cut_from c rest))))

leads-end : (depth : ℕ) → Leads (suc depth) depth (End ∷ [])
leads-end depth rest = refl

simple-stands : (line : Line) (statement : Statement) → simple line ≡ Some statement → role_of line ≡ Stands
simple-stands (Profile number) statement e = refl
simple-stands (Def name parameters) statement e = cc
simple-stands (Assign name value) statement e = refl
simple-stands Yield statement e = refl
simple-stands (YieldFrom into target) statement e = refl
simple-stands (Print items) statement e = refl
simple-stands (Raise fault) statement e = refl
simple-stands (Return value) statement e = refl
simple-stands Pass statement e = refl
simple-stands (If test) statement e = cc
simple-stands Else statement e = cc
simple-stands (While test) statement e = cc
simple-stands Try statement e = cc
simple-stands (Except kind name) statement e = cc
simple-stands Finally statement e = cc
simple-stands (WithGroup name) statement e = cc
simple-stands (WithTimeout delay name) statement e = cc
simple-stands End statement e = cc

leads-line : (line : Line) → role_of line ≡ Stands → (depth : ℕ) → Leads depth depth (line ∷ [])
leads-line line e depth rest =
    ap (λ role. cut_at role depth line rest (cut_from (depth_behind depth role) rest)) e

leads-section : (word : Line) (section : Section) → role_of word ≡ Begins section → (depth : ℕ) (lines : List Line) → Leads (suc depth) (suc depth) lines
    → Leads (suc depth) (suc depth) (word ∷ lines)
leads-section word section e depth lines f rest =
    ap (λ role. cut_at role (suc depth) word (lines ++ rest) (cut_from (depth_behind (suc depth) role) (lines ++ rest))) e ∙ ap (with_line word) (f rest)

mutual
  leads : {lines : List Line} {statements : Statements} → Spells lines statements → (depth : ℕ) → Leads depth depth lines
  leads spells_nothing depth rest = refl
  leads (spells_next {first = first} {others = others} one more) depth rest =
      leads-append depth depth depth first others (leads_one one depth) (leads more depth) rest

  leads_one : {lines : List Line} {statement : Statement} → SpellsOne lines statement → (depth : ℕ) → Leads depth depth lines
  leads_one (spells_line {line = line} {statement = statement} e) depth rest =
      leads-line line (simple-stands line statement e) depth rest
  leads_one (spells_if {test = test} {lines = lines} {others = others} inner section) depth rest =
      ap (with_line (If test))
      (leads-append (suc depth) (suc depth) depth lines (others ++ End ∷ []) (leads inner (suc depth))
      (leads-append (suc depth) (suc depth) depth others (End ∷ []) (leads_section section _ refl depth) (leads-end depth)) rest)
  leads_one (spells_while {test = test} {lines = lines} inner) depth rest =
      ap (with_line (While test)) (leads-append (suc depth) (suc depth) depth lines (End ∷ []) (leads inner (suc depth)) (leads-end depth) rest)
  leads_one (spells_try {lines = lines} {clauses = clauses} {others = others} inner handlers section) depth rest =
      ap (with_line Try)
      (leads-append (suc depth) (suc depth) depth lines (clauses ++ (others ++ End ∷ [])) (leads inner (suc depth))
      (leads-append (suc depth) (suc depth) depth clauses (others ++ End ∷ []) (leads_clauses handlers depth)
      (leads-append (suc depth) (suc depth) depth others (End ∷ []) (leads_section section _ refl depth) (leads-end depth))) rest)
  leads_one (spells_group {name = name} {lines = lines} inner) depth rest =
      ap (with_line (WithGroup name)) (leads-append (suc depth) (suc depth) depth lines (End ∷ []) (leads inner (suc depth)) (leads-end depth) rest)
  leads_one (spells_timeout {delay = delay} {name = name} {lines = lines} inner) depth rest =
      ap (with_line (WithTimeout delay name)) (leads-append (suc depth) (suc depth) depth lines (End ∷ []) (leads inner (suc depth)) (leads-end depth) rest)

  leads_section : {word : Line} {lines : List Line} {body : Branch} → SpellsSection word lines body → (section : Section) → role_of word ≡ Begins section
      → (depth : ℕ) → Leads (suc depth) (suc depth) lines
  leads_section no_section section e depth rest = refl
  leads_section (section_with {word = word} {lines = lines} inner) section e depth rest =
      leads-section word section e depth lines (leads inner (suc depth)) rest

  leads_clauses : {lines : List Line} {handlers : Handlers} → SpellsHandlers lines handlers → (depth : ℕ) → Leads (suc depth) (suc depth) lines
  leads_clauses no_clauses depth rest = refl
  leads_clauses (clause_then {kind = kind} {name = name} {lines = lines} {others = others} inner more) depth rest =
      leads-section (Except kind name) _ refl depth (lines ++ others)
      (leads-append (suc depth) (suc depth) (suc depth) lines others (leads inner (suc depth)) (leads_clauses more depth)) rest

-- ---- the cut behind a head
abbrev over : List Line → List Line → BlockLines
over lines behind = record { body = lines; sections = []; behind = behind }

-- lines and the `end` behind them
cut_ended : (lines others : List Line) → Leads 0 0 lines → cut_from 0 (lines ++ (End ∷ others)) ≡ over lines others
cut_ended lines others f =
    f (End ∷ others) ∙ ap (λ (body : List Line). over body others) (append-nil lines)

three : (a b c : List Line) → (a ++ b) ++ c ≡ a ++ (b ++ c)
three a b c = append_assoc a b c

four : (a b c d : List Line) → (a ++ (b ++ c)) ++ d ≡ a ++ (b ++ (c ++ d))
four a b c d = append_assoc a (b ++ c) d ∙ ap (λ l. a ++ l) (append_assoc b c d)

five : (a b c d e : List Line) → (a ++ (b ++ (c ++ d))) ++ e ≡ a ++ (b ++ (c ++ (d ++ e)))
five a b c d e = append_assoc a (b ++ (c ++ d)) e ∙ ap (λ l. a ++ l) (four b c d e)

-- ---- lengths
some-lines : {lines : List Line} {statement : Statement} → SpellsOne lines statement → 1 ≤ length lines
some-lines (spells_line e) = omega arith
some-lines (spells_if inner otherwise) = omega arith
some-lines (spells_while inner) = omega arith
some-lines (spells_try inner each last) = omega arith
some-lines (spells_group inner) = omega arith
some-lines (spells_timeout inner) = omega arith

left-le : (a b : List Line) (n : ℕ) → length (a ++ b) ≤ n → length a ≤ n
left-le a b n h = omega (arith, length-append a b)

right-le : (a b : List Line) (n : ℕ) → length (a ++ b) ≤ n → length b ≤ n
right-le a b n h = omega (arith, length-append a b)

tail-le : (line : Line) (lines : List Line) (n : ℕ) → length (line ∷ lines) ≤ suc n → length lines ≤ n
tail-le line lines n h = omega arith

tail-le_more : (line : Line) (lines : List Line) (n : ℕ) → length (line ∷ lines) ≤ n → length lines ≤ n
tail-le_more line lines n h = omega arith

behind-le : (a b : List Line) (n : ℕ) → 1 ≤ length a → length (a ++ b) ≤ suc n → length b ≤ n
behind-le a b n some h = omega (arith, length-append a b)

no-room : (line : Line) (lines : List Line) → length (line ∷ lines) ≤ 0 → ⊥
no-room line lines h = omega arith

-- ---- what `except` clauses and what stands behind them read as
pub record ClausesRead (count : ℕ) (cut behind : BlockLines) (handlers : Handlers) : Type 0 where
  pub body : cut.body ≡ []
  pub rest : cut.behind ≡ behind.behind
  pub clauses : handlers_in (bodies (statements_within count) cut.sections) ≡ handlers
  pub last : finally_in (bodies (statements_within count) cut.sections) ≡ finally_in (bodies (statements_within count) behind.sections)

-- a clause in front of a cut
clause_read : (count : ℕ) (kind : Kind) (name : Option Name) (lines : List Line) (body : Statements) (cut behind : BlockLines) (handlers : Handlers)
    → statements_within count lines ≡ body → ClausesRead count cut behind handlers
    → ClausesRead count (with_section (Except kind name) (behind_lines lines cut)) behind (handler_then kind name body handlers)
clause_read count kind name lines body cut behind further e r = record {
  body = refl;
  rest = r.rest;
  clauses =
      ap (λ (l : List Line). handler_then kind name (statements_within count (lines ++ l)) (handlers_in (bodies (statements_within count) cut.sections))) r.body
      ∙ (ap (λ (l : List Line). handler_then kind name (statements_within count l) (handlers_in (bodies (statements_within count) cut.sections)))
      (append-nil lines)
      ∙ (ap (λ (s : Statements). handler_then kind name s (handlers_in (bodies (statements_within count) cut.sections))) e
      ∙ ap (handler_then kind name body) r.clauses));
  last = r.last;
}

-- a `try` in front of its clauses
try_read : (count : ℕ) (lines : List Line) (body : Statements) (cut behind : BlockLines) (handlers : Handlers) (finally : Branch) (others : List Line)
    → statements_within count lines ≡ body → ClausesRead count cut behind handlers → finally_in (bodies (statements_within count) behind.sections) ≡ finally
    → behind.behind ≡ others → block_then (statements_within count) Try (behind_lines lines cut)
    ≡ statement_then (plain.Try body handlers finally) (statements_within count others)
try_read count lines body cut behind handlers finally others e r f o =
    let read : List Line → Statements = statements_within count in
    let hs : Handlers = handlers_in (bodies read cut.sections) in
    let fs : Branch = finally_in (bodies read cut.sections) in
    let first : read (lines ++ cut.body) ≡ body =
    ap (λ (l : List Line). read (lines ++ l)) r.body ∙ (ap read (append-nil lines) ∙ e) in
    ap (λ (s : Statements). statement_then (plain.Try s hs fs) (read cut.behind)) first
    ∙ (ap (λ (h : Handlers). statement_then (plain.Try body h fs) (read cut.behind)) r.clauses
    ∙ (ap (λ (b : Branch). statement_then (plain.Try body handlers b) (read cut.behind)) (r.last ∙ f)
    ∙ ap (λ (l : List Line). statement_then (plain.Try body handlers finally) (read l)) (r.rest ∙ o)))

mutual
  reads : {lines : List Line} {statements : Statements} → Spells lines statements → (count : ℕ) → length lines ≤ count → statements_within count lines
      ≡ statements
  reads spells_nothing zero h = refl
  reads spells_nothing (suc count) h = refl
  reads (spells_next {first = first} {others = others} {statement = statement} one more) zero h =
      absurd (omega (arith, length-append first others, some-lines one))
  reads (spells_next {first = first} {others = others} {statement = statement} one more) (suc count) h =
      reads_one one count others (left-le first others (suc count) h)
      ∙ ap (statement_then statement) (reads more count (behind-le first others count (some-lines one) h))

  reads_one : {lines : List Line} {statement : Statement} → SpellsOne lines statement → (count : ℕ) (others : List Line) → length lines ≤ suc count
      → statements_within (suc count) (lines ++ others) ≡ statement_then statement (statements_within count others)
  reads_one (spells_line {line = line} {statement = statement} e) count others h =
      ap (λ role. first_then role (statements_within count) line others) (simple-stands line statement e)
      ∙ ap (λ found. then_statements found (statements_within count others)) e
  reads_one (spells_if {test = test} {lines = lines} inner no_section) count others h =
      ap (λ l. block_then (statements_within count) (If test) (cut_from 0 l)) (append_assoc lines (End ∷ []) others)
      ∙ (ap (block_then (statements_within count) (If test)) (cut_ended lines others (leads inner 0))
      ∙ ap (λ (s : Statements). statement_then (plain.If test s no_branch) (statements_within count others))
      (reads inner count (left-le lines (End ∷ []) count (tail-le (If test) (lines ++ End ∷ []) count h))))
  reads_one (spells_if {test = test} {lines = lines} {body = body} inner (section_with {lines = lines'} inner')) count others h =
      let within : length (lines ++ (Else ∷ (lines' ++ End ∷ []))) ≤ count = tail-le (If test) (lines ++ (Else ∷ (lines' ++ End ∷ []))) count h in
      let within' : length (lines' ++ End ∷ []) ≤ count =
      tail-le_more Else (lines' ++ End ∷ []) count (right-le lines (Else ∷ (lines' ++ End ∷ [])) count within) in
      ap (λ l. block_then (statements_within count) (If test) (cut_from 0 l)) (four lines (Else ∷ lines') (End ∷ []) others)
      ∙ (ap (block_then (statements_within count) (If test))
      (leads inner 0 (Else ∷ (lines' ++ (End ∷ others)))
      ∙ ap (λ (c : BlockLines). behind_lines lines (with_section Else c)) (cut_ended lines' others (leads inner' 0)))
      ∙ (ap (λ (l : List Line). statement_then (plain.If test (statements_within count l) (branch (statements_within count lines')))
      (statements_within count others)) (append-nil lines)
      ∙ (ap (λ (s : Statements). statement_then (plain.If test s (branch (statements_within count lines')))
      (statements_within count others)) (reads inner count (left-le lines _ count within))
      ∙ ap (λ (s : Statements). statement_then (plain.If test body (branch s)) (statements_within count others))
      (reads inner' count (left-le lines' (End ∷ []) count within')))))
  reads_one (spells_while {test = test} {lines = lines} inner) count others h =
      ap (λ l. block_then (statements_within count) (While test) (cut_from 0 l)) (append_assoc lines (End ∷ []) others)
      ∙ (ap (block_then (statements_within count) (While test)) (cut_ended lines others (leads inner 0))
      ∙ ap (λ (s : Statements). statement_then (plain.While test s) (statements_within count others))
      (reads inner count (left-le lines (End ∷ []) count (tail-le (While test) (lines ++ End ∷ []) count h))))
  reads_one (spells_group {name = name} {lines = lines} inner) count others h =
      ap (λ l. block_then (statements_within count) (WithGroup name) (cut_from 0 l)) (append_assoc lines (End ∷ []) others)
      ∙ (ap (block_then (statements_within count) (WithGroup name)) (cut_ended lines others (leads inner 0))
      ∙ ap (λ (s : Statements). statement_then (plain.With plain.GroupBlock name s) (statements_within count others))
      (reads inner count (left-le lines (End ∷ []) count (tail-le (WithGroup name) (lines ++ End ∷ []) count h))))
  reads_one (spells_timeout {delay = delay} {name = name} {lines = lines} inner) count others h =
      ap (λ l. block_then (statements_within count) (WithTimeout delay name) (cut_from 0 l)) (append_assoc lines (End ∷ []) others)
      ∙ (ap (block_then (statements_within count) (WithTimeout delay name)) (cut_ended lines others (leads inner 0))
      ∙ ap (λ (s : Statements). statement_then (plain.With (plain.TimeoutBlock delay) name s) (statements_within count others))
      (reads inner count (left-le lines (End ∷ []) count (tail-le (WithTimeout delay name) (lines ++ End ∷ []) count h))))
  reads_one (spells_try {lines = lines} {clauses = clauses} {body = body} {handlers = handlers} inner each no_section) count others h =
      let within : length (lines ++ (clauses ++ End ∷ [])) ≤ count = tail-le Try (lines ++ (clauses ++ End ∷ [])) count h in
      let within' : length clauses ≤ count = left-le clauses (End ∷ []) count (right-le lines (clauses ++ End ∷ []) count within) in
      ap (λ l. block_then (statements_within count) Try (cut_from 0 l)) (four lines clauses (End ∷ []) others)
      ∙ (ap (block_then (statements_within count) Try) (leads inner 0 (clauses ++ (End ∷ others)))
      ∙ try_read count lines body (cut_from 0 (clauses ++ (End ∷ others))) (over [] others) handlers no_branch others
      (reads inner count (left-le lines (clauses ++ End ∷ []) count within))
      (reads_clauses each count within' (End ∷ others) (over [] others) refl refl refl) refl refl)
  reads_one
      (spells_try {lines = lines} {clauses = clauses} {body = body} {handlers = handlers} inner each
      (section_with {lines = lines'} {body = body'} inner')) count others h =
      let last : List Line = Finally ∷ (lines' ++ End ∷ []) in
      let within : length (lines ++ (clauses ++ last)) ≤ count = tail-le Try (lines ++ (clauses ++ last)) count h in
      let behind : length (clauses ++ last) ≤ count = right-le lines (clauses ++ last) count within in
      let room : length (lines' ++ End ∷ []) ≤ count = tail-le_more Finally (lines' ++ End ∷ []) count (right-le clauses last count behind) in
      let cut : BlockLines = with_section Finally (over lines' others) in
      ap (λ l. block_then (statements_within count) Try (cut_from 0 l)) (five lines clauses (Finally ∷ lines') (End ∷ []) others)
      ∙ (ap (block_then (statements_within count) Try) (leads inner 0 (clauses ++ (Finally ∷ (lines' ++ (End ∷ others)))))
      ∙ try_read count lines body (cut_from 0 (clauses ++ (Finally ∷ (lines' ++ (End ∷ others))))) cut handlers (branch body') others
      (reads inner count (left-le lines (clauses ++ last) count within))
      (reads_clauses each count (left-le clauses last count behind) (Finally ∷ (lines' ++ (End ∷ others))) cut
      (ap (with_section Finally) (cut_ended lines' others (leads inner' 0))) refl refl)
      (ap branch (reads inner' count (left-le lines' (End ∷ []) count room))) refl)

  reads_clauses : {lines : List Line} {handlers : Handlers} → SpellsHandlers lines handlers → (count : ℕ) → length lines ≤ count
      → (rest : List Line) (behind : BlockLines) → cut_from 0 rest ≡ behind → behind.body ≡ [] → handlers_in (bodies (statements_within count) behind.sections)
      ≡ no_handlers → ClausesRead count (cut_from 0 (lines ++ rest)) behind handlers
  reads_clauses no_clauses count h rest behind e empty none =
      subst (λ (c : BlockLines). ClausesRead count c behind no_handlers) (sym e) (record { body = empty; rest = refl; clauses = none; last = refl })
  reads_clauses (clause_then {kind = kind} {name = name} {lines = lines} {others = others} {body = body} {handlers = handlers} inner more)
      count h rest behind e empty none =
      let within : length (lines ++ others) ≤ count = tail-le_more (Except kind name) (lines ++ others) count h in
      let here : cut_from 0 ((lines ++ others) ++ rest) ≡ behind_lines lines (cut_from 0 (others ++ rest)) =
      ap (cut_from 0) (append_assoc lines others rest) ∙ leads inner 0 (others ++ rest) in
      subst (λ (c : BlockLines). ClausesRead count (with_section (Except kind name) c) behind (handler_then kind name body handlers)) (sym here)
      (clause_read count kind name lines body (cut_from 0 (others ++ rest)) behind handlers (reads inner count (left-le lines others count within))
      (reads_clauses more count (right-le lines others count within) rest behind e empty none))

-- lines that spell statements by cases are read as these
pub spelled-read : (lines : List Line) (statements : Statements) → Spells lines statements → statements_in lines ≡ statements
unfolding statements_in
spelled-read lines body spelled = reads spelled (length lines) (omega arith)

-- the lines of a coroutine, with its `end`
pub spelled-body : (lines : List Line) (statements : Statements) → Spells lines statements → body_in (lines ++ End ∷ []) ≡ statements
spelled-body lines body spelled =
    ap (λ (cut : BlockLines). statements_in cut.body) (cut_ended lines [] (leads spelled 0)) ∙ spelled-read lines body spelled
