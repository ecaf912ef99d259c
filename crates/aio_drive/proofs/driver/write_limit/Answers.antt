use Rattle.std.proofs.Common.{◌≡◌, List, ◌++◌, IfErr, IfOk, ap, subst}
use Rattle.model_wire.specs.Event.{Event}
use Rattle.model_wire.specs.Told.{took}
use Rattle.model_wire.specs.Trace.{end_text, line, lines_of_events}
use Rattle.model_program.specs.Transcript.{status_of}
use Rattle.aio_wire.specs.EventList.{EventList}
use Rattle.aio_drive.specs.Writing.{StopsWriting}
use Rattle.aio_drive.proofs.driver.write_limit.Goals as goal

pub returns : goal.returns
returns g c =
    let none = ap (λ (l : EventList). l.events) c.new-events.ensures in
    let end = c.last_of-end.result in
    let trace = c.args.manner.trace in
    let sink = g.K.Sink.seen c.args.out.now in
    let late = g.K.Sink.seen c.write_end-told.new.out in
    record {
      end = end;
      last = c.last_of-end.ensures;
      ok = subst (λ (es : List Event). IfOk c.write_end-told.result (λ status.
          (status ≡ status_of end) × (late ≡ took sink (lines_of_events trace es ++ line (end_text end))))) none c.write_end-told.ensures.ok;
      err = subst (λ (es : List Event). IfErr c.write_end-told.result
          (StopsWriting (lines_of_events trace es ++ line (end_text end)) sink late)) none c.write_end-told.ensures.err;
    }
