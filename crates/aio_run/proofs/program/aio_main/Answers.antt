use Rattle.std.proofs.Common.{ap, map, string_bytes}
use Rattle.aio_run.proofs.Promise.{starved_behaves, stopped_behaves, whole_behaves}
use Rattle.aio_run.proofs.program.aio_main.Goals as goal

pub returns-in-Ok : goal.returns-in-Ok
returns-in-Ok g c =
    whole_behaves _ _ (ap (map string_bytes) c.as_slice.ensures.value) _ _ c.serve.ensures.files c.serve.ensures.wire c.serve.ensures.words
    c.in-Ok.status c.in-Ok.ensures.written

pub returns-in-Err-Memory : goal.returns-in-Err-Memory
returns-in-Err-Memory g c =
    starved_behaves _ _ (ap (map string_bytes) c.as_slice.ensures.value) _ _ c.serve.ensures.files c.serve.ensures.wire c.serve.ensures.words
    (rw c.in-Err-Memory.field-0-is at c.in-Err-Memory.ensures.written)

pub returns-in-Err-Sink : goal.returns-in-Err-Sink
returns-in-Err-Sink g c =
    stopped_behaves _ _ (ap (map string_bytes) c.as_slice.ensures.value) _ _ c.serve.ensures.files c.serve.ensures.wire c.serve.ensures.words
    (rw c.in-Err-Sink.field-0-is at c.in-Err-Sink.ensures.written)
