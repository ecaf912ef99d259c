use Rattle.std.proofs.Common.{ℕ, List, Result, Ok, Err, refl, sym, subst}
use Rattle.aio_wire.specs.Files.{Appends}
use Rattle.aio_wire.specs.declared.sink.SinkTook.{SinkTook}
use Rattle.aio_wire.specs.declared.sink.SinkTook.TheVariants as took
use Rattle.aio_edge.specs.Counts.{Took, counting}
use Rattle.aio_edge.proofs.files.FilesShelf.append.Goals as goal

-- what is answered for a write is what an append may answer
appends : {E : Type 0} (wrote : Result ℕ E) (name piece : List ℕ) (before now : ℕ) (answer : SinkTook) → Took wrote before now answer
    → Appends name piece (counting before) (counting now) answer
appends (Ok count) name piece before now answer told =
    let fits : Appends name piece (counting before) (counting now) (took.Took count) = (refl, λ other apart. refl, λ i file. told.1 i) in
    subst (Appends name piece (counting before) (counting now)) (sym told.0) fits
appends (Err error) name piece before now answer told =
    let fits : Appends name piece (counting before) (counting now) took.Failed = (refl, told.1, λ file. told.2) in
    subst (Appends name piece (counting before) (counting now)) (sym told.0) fits

pub returns-clause-written : goal.returns-clause-written
returns-clause-written g c =
    appends c.append_to-wrote.result c.args.name.now c.args.piece.now c.args.self.now.faults c.took.new.self.faults c.took.result c.took.ensures.answered
