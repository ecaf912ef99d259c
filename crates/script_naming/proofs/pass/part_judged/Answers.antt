use Rattle.std.proofs.Common.{List, Ok, map, ap, ap₂, sym, ◌∙◌, subst}
use Rattle.std.specs.Rc.{rc_str_bytes}
use Rattle.model_tree.specs.Syntax.{Name}
use Rattle.model_text.specs.SecondPass.{head_meant, lines_judged, part_judged}
use Rattle.script_term.specs.Spelled.{plain_numbered}
use Rattle.script_fault.specs.Faults.{IsFaultOf}
use Rattle.aio_program.specs.Line.{plain_line, plain_part as plain_named_part}
use Rattle.script_naming.specs.Parts.{plain_part}
use Rattle.script_naming.proofs.Judged.{head-stands, judges-err, part-fails, part-is}
use Rattle.script_naming.proofs.pass.part_judged.Goals as goal

pub returns-in_err-lines : goal.returns-in_err-lines
returns-in_err-lines c names holds =
    let part = plain_part c.args.part.now in
    let name = rc_str_bytes c.args.part.now.name.now in
    let found = c.head_meant.result in
    let fault = c.in_err-lines.field-0.0 in
    judges-err plain_named_part (part_judged c.args.callees.now names part) c.from_residual-in_err-lines.result fault c.from_residual-in_err-lines.ensures.1
    (part-fails c.args.callees.now names part name
    (head-stands part.line name (head_meant names part) found c.in_ok-judged_at.field-0 (c.head_meant.ensures names holds) c.in_ok-judged_at.ensures)
    fault
    (subst (λ scope. IsFaultOf (lines_judged scope (map plain_numbered c.args.part.now.lines.now)) fault) c.in_ok-scope.ensures c.in_err-lines.ensures))

pub returns : goal.returns
returns c names holds =
    let part = plain_part c.args.part.now in
    let name = rc_str_bytes c.args.part.now.name.now in
    let found = c.head_meant.result in
    part-is c.args.callees.now names part name
    (head-stands part.line name (head_meant names part) found c.in_ok-judged_at.field-0 (c.head_meant.ensures names holds) c.in_ok-judged_at.ensures)
    (map plain_line c.in_ok-lines.lines.items)
    (ap (λ scope. lines_judged scope (map plain_numbered c.args.part.now.lines.now)) (sym c.in_ok-scope.ensures) ∙ c.in_ok-lines.ensures)
    ∙ ap₂ (λ (name : Name) (parameters : List Name). Ok (record {
      line = part.line;
      name = name;
      parameters = parameters;
      lines = map plain_line c.in_ok-lines.lines.items;
    })) (sym c.in_ok-clone.ensures.cases) (sym c.in_ok-shared_names.ensures)
