use Rattle.std.proofs.Common.{None, w64, sym, ap, subst, ◌∙◌}
use Rattle.std.proofs.lemmas.Int.{to_z-of_z}
use Rattle.std.proofs.lemmas.Result.{on_ok_weaker}
use Rattle.model_exec.specs.Serving.{is_job_code}
use Rattle.aio_exec.specs.Seen.{CallsSeen, kept_of}
use Rattle.aio_exec.proofs.Lifting.{free_serve, heard, hears_by, idle}
use Rattle.aio_exec.proofs.serving.ExecExtra.item.Goals as goal

pub told-requires-clause-idle : goal.told-requires-clause-idle
told-requires-clause-idle c = idle None c.args.self.now c.args.parts.now c.requires.serves

pub told-requires-clause-free : goal.told-requires-clause-free
told-requires-clause-free c = free_serve None c.args.self.now c.args.parts.now c.requires.serves

pub returns : goal.returns
returns c =
    let a = c.args in
    let is = ap is_job_code (sym (to_z-of_z w64 a.code c.ranges.code)) ∙ sym c.is_job_code.ensures ∙ c.if-not-is_job_code.false in
    on_ok_weaker c.told.result
    (λ seen. λ t s h.
    hears_by t s a.self.now a.parts.now h a.code a.bytes.now c.told.new.self c.told.new.parts
    (subst (λ b. CallsSeen (kept_of c.told.new.self) a.parts.now c.told.new.parts (heard b a.bytes.now (kept_of a.self.now))) (sym is) seen))
    c.told.ensures
