-- Lists of commands, and what they ask.
use Rattle.std.proofs.Common.{◌≡◌, ℕ, ◌+◌, List, [], ◌∷◌, ◌++◌, length, refl, sym, ap, ◌∙◌, append_assoc, append-nil, length-append, zero-add, add-zero, arith}
use Rattle.model_pump.specs.declared.stream.Stream.{Stream}
use Rattle.model_pump.specs.declared.post.PostKind.TheVariants.{Piece, Room}
use Rattle.model_pump.specs.Commands.{Command}
use Rattle.model_pump.specs.declared.command.Command.TheVariants.{Go, Write, Close, Stop}
use Rattle.aio_lane.specs.Ends.{TailSeen, received as heard}
use Rattle.aio_pump.specs.Moments.{told}
use Rattle.aio_pump.specs.Received.{took_all, gos, writes, joined}
use Rattle.aio_pump.specs.Reading.{pieces}
use Rattle.aio_pump.specs.Writing.{rooms}

-- one command more
pub heard_on : (tail now : TailSeen) (commands : List Command) (command : Command) → now ≡ took_all tail commands
    → heard now command ≡ took_all tail (commands ++ command ∷ [])
heard_on tail now commands command is =
    ap (λ (t : TailSeen). heard t command) is
    ∙ ap (λ (l : List Command). took_all (record tail { taken = [] }) l) (append_assoc tail.taken commands (command ∷ []))

pub joined-append : (parts : List (List ℕ)) (part : List ℕ) → joined (parts ++ part ∷ []) ≡ joined parts ++ part
joined-append [] part = append-nil part
joined-append (first ∷ parts) part =
    ap (λ l. first ++ l) (joined-append parts part) ∙ sym (append_assoc first (joined parts) part)

-- a piece more stands at the end of those before it
pub pieces-append : (stream : Stream) (at : ℕ) (parts : List (List ℕ)) (part : List ℕ)
    → pieces stream at (parts ++ part ∷ []) ≡ pieces stream at parts ++ Piece stream (told (at + length (joined parts))) part ∷ []
pieces-append stream at [] part = ap (λ x. Piece stream (told x) part ∷ []) (sym (add-zero at))
pieces-append stream at (first ∷ parts) part =
    let later = pieces-append stream (at + length first) parts part in
    let place : (at + length first) + length (joined parts) ≡ at + length (joined (first ∷ parts)) =
    omega (arith, length-append first (joined parts)) in
    ap (λ l. Piece stream (told at) first ∷ l)
    (later ∙ ap (λ x. pieces stream (at + length first) parts ++ Piece stream (told x) part ∷ []) place)

pub rooms-append : (whole : List (List ℕ)) (bytes : List ℕ) → rooms (whole ++ bytes ∷ []) ≡ rooms whole ++ Room ∷ []
rooms-append [] bytes = refl
rooms-append (first ∷ whole) bytes = ap (λ l. Room ∷ l) (rooms-append whole bytes)

pub gos-append : (commands more : List Command) → gos (commands ++ more) ≡ gos commands + gos more
gos-append [] more = sym (zero-add (gos more))
gos-append (Go ∷ commands) more = let later = gos-append commands more in omega arith
gos-append (Write bytes ∷ commands) more = gos-append commands more
gos-append (Close ∷ commands) more = gos-append commands more
gos-append (Stop ∷ commands) more = gos-append commands more

pub writes-append : (commands more : List Command) → writes (commands ++ more) ≡ writes commands ++ writes more
writes-append [] more = refl
writes-append (Go ∷ commands) more = writes-append commands more
writes-append (Write bytes ∷ commands) more = ap (λ l. bytes ∷ l) (writes-append commands more)
writes-append (Close ∷ commands) more = writes-append commands more
writes-append (Stop ∷ commands) more = writes-append commands more
