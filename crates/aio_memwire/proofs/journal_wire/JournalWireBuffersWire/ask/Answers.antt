use Rattle.std.proofs.Common.{◌∙◌, ◌∷◌, ◌++◌, [], Some, ap, inl}
use Rattle.model_wire.specs.Call.{Call}
use Rattle.aio_memwire.proofs.WireLemmas.{on_err_anyway, quiet_got}
use Rattle.aio_memwire.proofs.journal_wire.JournalWireBuffersWire.ask.Goals as goal

pub returns-in_err-hand-clause-unreplied : goal.returns-in_err-hand-clause-unreplied
returns-in_err-hand-clause-unreplied g c =
    let asked = c.args.self.now.own.asked.items in
    on_err_anyway c.from_residual-in_err-hand.result (
      inl (ap Some (c.in_ok-push.ensures.items ∙ ap (λ (call : Call). asked ++ call ∷ []) c.in_ok-copy_of_call.ensures)),
      ap Some c.in_err-hand.ensures.err,
    )

pub returns-in_err-hand-clause-err : goal.returns-in_err-hand-clause-err
returns-in_err-hand-clause-err g c =
    on_err_anyway c.from_residual-in_err-hand.result (quiet_got c.in_ok-reply.reply c.in_err-hand.ensures.got c.in_ok-reply.ensures.quiet)
