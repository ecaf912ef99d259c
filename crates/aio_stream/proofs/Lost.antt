-- A connection that is over reads no more, and does not begin to.
use Rattle.std.proofs.Common.{◌≡◌, Bool, true, false, not, ◌&&◌, ◌||◌, ap, refl}
use Rattle.model_stream.specs.Connections.{reads, start_read}
use Rattle.aio_connection.specs.Lost.{connection_of}
use Rattle.aio_connection.specs.declared.lost.LostConnection.{LostConnection}

pub reads_none : (lost : LostConnection) → reads (connection_of lost) ≡ false
reads_none lost = by lost.began
  where
    by : (began : Bool) → (began && false && (not lost.receiver.reader.eof && not lost.receiver.reader.paused)) ≡ false
    by true = refl
    by false = refl

or_false : (began : Bool) → (began || false) ≡ began
or_false true = refl
or_false false = refl

pub starts_none : (lost : LostConnection) → start_read (connection_of lost) ≡ connection_of lost
starts_none lost = ap (λ began. record (connection_of lost) { began = began }) (or_false lost.began)
