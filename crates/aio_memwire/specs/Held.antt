-- The bytes that connections and children were handed, by number.
use Rattle.std.specs.Prelude.{ℕ, List, [], Option, Some, None, nat_eq}
use Rattle.std.specs.Map.{lookup}
use Rattle.std.specs.declared.alloc.Global.{Global}
use Rattle.std.specs.declared.vec.Vec.{Vec}
use Rattle.model_wire.specs.declared.answer.Answer.TheVariants as answer
use Rattle.model_wire.specs.declared.call.Call.TheVariants as call
use Rattle.model_wire.specs.declared.event.Handed.{Handed}
use Rattle.model_wire.specs.declared.event.Handed.TheVariants as to
use Rattle.model_wire.specs.Call.{Call, Answer}
use Rattle.aio_wire.specs.declared.wire.Reply.{Reply}
use Rattle.aio_wire.specs.declared.wire.Reply.TheVariants as reply
use Rattle.aio_memwire.specs.declared.handed.HandedBytes.{HandedBytes}

-- the bytes of an entry, none where there is no entry
abbrev pub bytes_of : Option (Vec ℕ Global) → List ℕ
bytes_of None = []
bytes_of (Some bytes) = bytes.items

-- the bytes that a table has at a number
abbrev pub bytes_at : List (ℕ × Vec ℕ Global) → ℕ → List ℕ
bytes_at entries number = bytes_of (lookup (nat_eq number) entries)

-- the bytes that each was handed
abbrev pub held : HandedBytes → Handed → List ℕ
held bytes (to.Conn conn) = bytes_at bytes.conns.entries conn
held bytes (to.Child child) = bytes_at bytes.children.entries child

-- to whom a call offers bytes
abbrev pub subject_of : Call → Option Handed
subject_of (call.Send conn bytes) = Some (to.Conn conn)
subject_of (call.Feed child bytes) = Some (to.Child child)
subject_of _ = None

-- the bytes that a call offers
abbrev pub offered : Call → List ℕ
offered (call.Send conn bytes) = bytes
offered (call.Feed child bytes) = bytes
offered _ = []

-- how many bytes an answer takes
abbrev pub count_of : Answer → Option ℕ
count_of (answer.Took count) = Some count
count_of _ = None

-- a reply is an answer
abbrev pub IsGot : Reply → Type 0
IsGot (reply.Got said) = Unit {0}
IsGot reply.Over = ⊥
IsGot (reply.Bad fault) = ⊥
IsGot reply.Failed = ⊥
