use Rattle.std.proofs.Common.{sym, ◌∙◌, refl, subst}
use Rattle.std.proofs.lemmas.Result.{err_from_is_err_and}
use Rattle.model_program.specs.Written.{ProgramOutput}
use Rattle.model_program.specs.Program.{script_failed}
use Rattle.model_wire.specs.Trace.{line}
use Rattle.aio_run.specs.Script.{Tells, refusal_text}
use Rattle.aio_run.specs.declared.script.NoScript.{NoScript}
use Rattle.aio_run.proofs.Writing.{line_unwritten, line_written}
use Rattle.aio_run.proofs.script.refuse.Goals as goal

pub returns-in_ok-text-in-Refused : goal.returns-in_ok-text-in-Refused
returns-in_ok-text-in-Refused g c =
    let output : ProgramOutput = record { text = line (refusal_text c.in-Refused.line c.in-Refused.cause); status = 3 } in
    line_written (Tells c.args.none) _ output (subst (λ (n : NoScript). Tells n output) (sym c.in-Refused.is) refl) _
    (c.as_str.ensures.value ∙ c.in_ok-text-in-Refused.ensures)
    (g.K.Sink.seen c.args.out.now) (g.K.Sink.seen c.say.new.out) c.say.result c.say.ensures.ok c.say.ensures.err

pub returns-in-Failed : goal.returns-in-Failed
returns-in-Failed g c =
    line_written (Tells c.args.none) _ script_failed (subst (λ (n : NoScript). Tells n script_failed) (sym c.in-Failed.is) refl) _ refl
    (g.K.Sink.seen c.args.out.now) (g.K.Sink.seen c.say-in-Failed.new.out) c.say-in-Failed.result c.say-in-Failed.ensures.ok
    c.say-in-Failed.ensures.err

pub returns-in_err-text-in-Refused : goal.returns-in_err-text-in-Refused
returns-in_err-text-in-Refused g c =
    let output : ProgramOutput = record { text = line (refusal_text c.in-Refused.line c.in-Refused.cause); status = 3 } in
    let p = err_from_is_err_and c.from_residual.result c.from_residual.ensures.1 in
    rw (p.1, p.2)
    (line_unwritten (Tells c.args.none) _ output (subst (λ (n : NoScript). Tells n output) (sym c.in-Refused.is) refl) (g.K.Sink.seen c.args.out.now))
