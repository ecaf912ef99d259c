use Rattle.aio_wire.proofs.ShelvedLemmas.{lookup-files_of}
use Rattle.aio_wire.proofs.mem_shelf.MemShelf.file.Goals as goal

pub returns-in_err-bytes : goal.returns-in_err-bytes
returns-in_err-bytes c = rw (c.from_residual.ensures, ← c.self.view_is, lookup-files_of, ← c.in_err-bytes.ensures.value)

pub returns : goal.returns
returns c = rw (← c.self.view_is, lookup-files_of, ← c.in_ok-bytes.ensures.value, c.as_slice.ensures.value)
