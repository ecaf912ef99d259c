-- What waits, in code and in the definitions.
use Rattle.std.specs.Prelude.{ℕ, List, Option, Some, None}
use Rattle.std.specs.List.{flat_map}
use Rattle.model_dgram.specs.Endpoints as plain
use Rattle.model_dgram.specs.Endpoints.{Endpoints, futures_of, none_opened}
use Rattle.aio_dgram.specs.declared.waiting.Case.{Case}
use Rattle.aio_dgram.specs.declared.waiting.Case.TheVariants.{Opens, Sends, Receives, Closes}
use Rattle.aio_dgram.specs.declared.waiting.Found.{Found}
use Rattle.aio_dgram.specs.declared.waiting.Found.TheVariants as found

abbrev pub waiting_as : Case → plain.Waiting
waiting_as Opens = plain.Opens
waiting_as (Sends endpoint datagram None) = plain.Offers endpoint datagram
waiting_as (Sends endpoint datagram (Some on)) = plain.Sends endpoint datagram on
waiting_as (Receives endpoint on) = plain.Receives endpoint on
waiting_as Closes = plain.Closes

abbrev pub found_of : Option plain.Waiting → Found
found_of None = found.Nothing
found_of (Some plain.Opens) = found.Opens
found_of (Some (plain.Offers endpoint datagram)) = found.Offers endpoint
found_of (Some (plain.Sends endpoint datagram on)) = found.Sends endpoint
found_of (Some (plain.Receives endpoint on)) = found.Receives endpoint
found_of (Some plain.Closes) = found.Closes

abbrev pub future_of : plain.Waiting → Option ℕ
future_of plain.Opens = None
future_of (plain.Offers endpoint datagram) = None
future_of (plain.Sends endpoint datagram on) = Some on
future_of (plain.Receives endpoint on) = Some on
future_of plain.Closes = None

-- it waits on another future
abbrev pub moved : (next : ℕ) → plain.Waiting → plain.Waiting
moved next plain.Opens = plain.Opens
moved next (plain.Offers endpoint datagram) = plain.Sends endpoint datagram next
moved next (plain.Sends endpoint datagram on) = plain.Sends endpoint datagram next
moved next (plain.Receives endpoint on) = plain.Receives endpoint next
moved next plain.Closes = plain.Closes

-- the outside is asked to send its datagram
abbrev pub offering : plain.Waiting → plain.Waiting
offering plain.Opens = plain.Opens
offering (plain.Offers endpoint datagram) = plain.Offers endpoint datagram
offering (plain.Sends endpoint datagram on) = plain.Offers endpoint datagram
offering (plain.Receives endpoint on) = plain.Receives endpoint on
offering plain.Closes = plain.Closes

-- those who wait, and no endpoints
abbrev pub waits : List (ℕ × plain.Waiting) → Endpoints
waits waiting = record none_opened { waiting = waiting }

-- their futures
abbrev pub own_in : List (ℕ × plain.Waiting) → List ℕ
own_in waiting = flat_map (λ entry. futures_of entry.1) waiting
