-- What any row of steps of a connection keeps of its sender.
use Rattle.std.proofs.Common.{ℕ, List, []}
use Rattle.model_wire.specs.declared.event.Handed.TheVariants as to
use Rattle.model_stream.specs.declared.answers.Wrote.{Wrote}
use Rattle.model_stream.specs.declared.put.Limited.{Limited}
use Rattle.model_stream.specs.Connections.{Connection, write_to, drain_of, limits_of}
use Rattle.model_stream.specs.Senders.{Drain}
use Rattle.model_stream.specs.Sending.{put_answer, written_of}
use Rattle.law_stream.specs.SoundSenders.{IsSoundSender, KeepsConnection}
use Rattle.law_stream.specs.Ways.{Move, Always}
use Rattle.law_stream.proofs.Along.{always_into}
use Rattle.law_stream.proofs.SenderRuns.{along, keeps_both}
use Rattle.law_stream.proofs.SoundSenders.{keeps_still}
use Rattle.law_stream.specs.ConnectionSteps.{ConnectionStep, IsReadable, IsWritable, Loses, Closes, HandlerEnds, WritesEnd, Writes, Drains, SetsLimits, Takes}
use Rattle.law_stream.specs.ConnectionSteps.{ConnectionComes, Rests, Steps, May, done, ran_in, written_in}
use Rattle.law_stream.specs.SoundReceivers as receivers
use Rattle.law_stream.proofs.Quiet.{quiet_keeps, quiet_step}
use Rattle.law_stream.proofs.SoundConnections.{conn_readable, conn_writable, conn_loses, conn_closes}
use Rattle.law_stream.proofs.SoundConnections.{conn_handled, conn_ends, conn_writes, conn_drains, conn_limits}

-- ---- each step, and all
pub step_keeps : (id : ℕ) (step : ConnectionStep) (c : Connection) → IsSoundSender c.sender → May step c
    → Always (KeepsConnection id (ran_in step) (written_in step c) c) (done id step c)
step_keeps id IsReadable c sound may = conn_readable id c sound
step_keeps id IsWritable c sound may = conn_writable id c sound
step_keeps id (Loses ran broken) c sound may = conn_loses id ran broken c sound may
step_keeps id Closes c sound may = conn_closes id c sound
step_keeps id (HandlerEnds returned) c sound may = conn_handled id returned c sound
step_keeps id WritesEnd c sound may = conn_ends id c sound
step_keeps id (Writes piece) c sound may =
    always_into {A = Connection × Wrote} (KeepsConnection id 0 (written_of (put_answer piece c.sender.writer) piece) c) (λ it. it.0) (write_to id piece c)
    (conn_writes id piece c sound)
step_keeps id (Drains yielded next) c sound may =
    always_into {A = Connection × Drain} (KeepsConnection id 0 [] c) (λ it. it.0) (drain_of yielded next c) (conn_drains id yielded next c sound)
step_keeps id (SetsLimits high low) c sound may =
    always_into {A = Connection × Limited} (KeepsConnection id 0 [] c) (λ it. it.0) (limits_of high low c) (conn_limits id high low c sound)
step_keeps id (Takes step) c sound may =
    always_into (KeepsConnection id 0 [] c) (λ after. record c { receiver = after }) (receivers.done step c.receiver)
    (quiet_keeps (to.Conn id) c.sender sound (receivers.done step c.receiver) (quiet_step step c.receiver))

pub connections_keep : (id : ℕ) (c : Connection) (ran : ℕ) (written : List ℕ) (moves : List Move) (after : Connection) → IsSoundSender c.sender
    → ConnectionComes id c ran written moves after → KeepsConnection id ran written c moves after
connections_keep id _ _ _ _ _ sound (Rests c) = keeps_still (to.Conn id) c.sender sound
connections_keep id _ _ _ _ _ sound (Steps step c mid after first more others rest may leads comes) =
    let one = along (KeepsConnection id (ran_in step) (written_in step c) c) (done id step c) first mid (step_keeps id step c sound may) leads in
    keeps_both (to.Conn id) (ran_in step) others (written_in step c) rest c.sender mid.sender after.sender first more one
    (connections_keep id mid others rest more after one.sound comes)
