-- What is known of what carries the datagrams of an endpoint. What isn't told is `None`, and then nothing is promised of it.
use Rattle.std.specs.Prelude.{◌≡◌, ◌⊎◌, ℕ, ◌<◌, ◌==◌, ◌&&◌, not, List, [], ◌∷◌, bytes_eq, codes, Option, Some, None, length, take, Result, Ok, Err, if◌then◌else◌}
use Rattle.std.specs.IoError.{error_kind}
use Rattle.std.specs.Net.Addr.{ipv4_octets}
use Rattle.std.specs.Net.Socket.{v4_ip, v4_port}
use Rattle.std.specs.Option.{option_map}
use Rattle.std.specs.declared.io.Error.{Error}
use Rattle.std.specs.declared.io.ErrorKind.TheVariants as kind
use Rattle.std.specs.declared.net.socket_addr.SocketAddr.{SocketAddr}
use Rattle.std.specs.declared.net.socket_addr.SocketAddr.TheVariants.{V4, V6}
use Rattle.model_hub.specs.Told.{told_with}
use Rattle.aio_poller.specs.Answers.{is_idle}
use Rattle.aio_poller.specs.Datagrams.{datagram_text}
use Rattle.aio_poller.specs.declared.endpoint.Mailed.{Mailed}
use Rattle.aio_poller.specs.declared.endpoint.Mailed.TheVariants as mailed
use Rattle.aio_poller.specs.declared.endpoint.Received.{Received}
use Rattle.aio_poller.specs.declared.endpoint.Received.TheVariants as received

-- a datagram that was sent, with the port that it went to
pub record Mail : Type 0 where
  pub port : ℕ
  pub bytes : List ℕ

-- one that came, with where it came from
pub record Arrival : Type 0 where
  pub from : SocketAddr
  pub bytes : List ℕ

-- the first of those that came is taken away
abbrev pub TakesFirst : Option (List Arrival) → Option (List Arrival) → Arrival → Type 0
TakesFirst old new first = old ≡ option_map (λ rest. first ∷ rest) new

-- ---- what a send comes to
abbrev pub word_of : Mailed → List ℕ
word_of mailed.Sent = codes "sent"
word_of mailed.Again = codes "again"
word_of mailed.Failed = codes "failed"

-- by how much the system took
abbrev pub mailed_by : Result ℕ Error → (size : ℕ) → Mailed
mailed_by (Ok count) size = if count == size then mailed.Sent else mailed.Failed
mailed_by (Err error) size = if is_idle (error_kind error) then mailed.Again else mailed.Failed

-- Told as sent is what went whole, and once; nothing went of what is to be sent again.
abbrev pub Mails : Mail → Option (List Mail) → Option (List Mail) → Mailed → Type 0
Mails mail old new mailed.Sent = new ≡ told_with (mail ∷ []) old
Mails mail old new mailed.Again = new ≡ old
Mails mail old new mailed.Failed =
    (new ≡ old)
    ⊎ ((count : ℕ) × (count < length mail.bytes) × (new ≡ told_with (record mail { bytes = take count mail.bytes } ∷ []) old))

-- ---- what a receive comes to
-- the port of 127.0.0.1 from which it came; nothing where it came from elsewhere, or from port 0
abbrev pub port_here : SocketAddr → Option ℕ
port_here (V4 address) =
    if bytes_eq (ipv4_octets (v4_ip address)) (127 ∷ 0 ∷ 0 ∷ 1 ∷ []) && not (v4_port address == 0) then Some (v4_port address) else None
port_here (V6 address) = None

-- Of the endpoint with this number: what is told came first, from a port here, and is gone, and so is what is dropped, which came
-- from elsewhere. Else nothing is taken. Its own error is want of memory.
abbrev pub Receives : ℕ → Option (List Arrival) → Option (List Arrival) → Result Received Error → Type 0
Receives number old new (Ok (received.Came text)) =
    (first : Arrival) × (port : ℕ) × TakesFirst old new first × (port_here first.from ≡ Some port)
    × (text ≡ datagram_text number port first.bytes)
Receives number old new (Ok received.Dropped) = (first : Arrival) × TakesFirst old new first × (port_here first.from ≡ None)
Receives number old new (Ok received.Nothing) = new ≡ old
Receives number old new (Ok received.Failed) = new ≡ old
Receives number old new (Err error) = error_kind error ≡ kind.OutOfMemory
