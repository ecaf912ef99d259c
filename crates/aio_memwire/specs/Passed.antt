-- What a call that is passed on comes to: the clauses of its trait, of what is wrapped.
use Rattle.std.specs.Prelude.{◌≡◌, ℕ, ◌≤◌, List, Option, Some, Result, IfOk, OnErr}
use Rattle.model_wire.specs.Call.{Call}
use Rattle.model_wire.specs.Told.{ShelfSeen, SourceSeen, SinkSeen}
use Rattle.aio_base.specs.declared.memory.Memory.{Memory}
use Rattle.aio_wire.specs.Files.{Appends}
use Rattle.aio_wire.specs.Got.{FitsRead, ReadLeaves, ReadsAt, ReadLeavesShelf}
use Rattle.aio_wire.specs.Outside.{Outside}
use Rattle.aio_wire.specs.Replied.{Replied, Unreplied, Stays, UnlessFailed}
use Rattle.aio_wire.specs.Took.{FitsWrite, WriteLeaves}
use Rattle.aio_wire.specs.declared.sink.SinkTook.{SinkTook}
use Rattle.aio_wire.specs.declared.source.SourceGot.{SourceGot}
use Rattle.aio_wire.specs.declared.wire.Reply.{Reply}
use Rattle.aio_wire.specs.declared.wire.Reply.TheVariants.{Failed}

-- a source was read, of so many bytes at most
pub record SourceRead (max : ℕ) (old new : SourceSeen) (result : Result SourceGot Memory) : Type 0 where
  pub size : IfOk result (FitsRead max)
  pub left : IfOk result (ReadLeaves old new)
  pub monotone : old.faults ≤ new.faults
  pub err : OnErr result (new ≡ old)

-- a sink was given a piece
pub record SinkGiven (piece : List ℕ) (old new : SinkSeen) (result : Result SinkTook Memory) : Type 0 where
  pub size : IfOk result (FitsWrite piece)
  pub took : IfOk result (WriteLeaves piece old new)
  pub err : OnErr result (new ≡ old)

-- a shelf's file was read from a place, of so many bytes at most
pub record FileRead (name : List ℕ) (from max : ℕ) (old new : ShelfSeen) (result : Result SourceGot Memory) : Type 0 where
  pub size : IfOk result (FitsRead max)
  pub bytes : IfOk result (λ got. (held : Option (List ℕ)) → old.file name ≡ Some held → ReadsAt held from got)
  pub counted : IfOk result (ReadLeavesShelf name old new)
  pub files : new.file ≡ old.file
  pub err : OnErr result (new ≡ old)

-- a piece was put behind the end of a shelf's file
pub record FileGiven (name piece : List ℕ) (old new : ShelfSeen) (result : Result SinkTook Memory) : Type 0 where
  pub size : IfOk result (FitsWrite piece)
  pub written : IfOk result (Appends name piece old new)
  pub err : OnErr result (new ≡ old)

-- a wire was asked
pub record WireAsked {W : Type 0} (o : Outside W) (call : Call) (old new : W) (result : Result Reply Memory) : Type 0 where
  pub replied : IfOk result (Replied call (o.seen old) (o.seen new))
  pub unreplied : OnErr result (Unreplied call (o.seen old) (o.seen new))
  pub stays : Stays (o.seen old) (o.seen new)
  pub fails : o.fails old → IfOk result (λ reply. reply ≡ Failed)
  pub keeps : o.keeps old new
  pub quiet : IfOk result (UnlessFailed (o.quiet old new))
  pub err : OnErr result (o.quiet old new)
