use Rattle.std.proofs.Common.{sym, subst, arith}
use Rattle.std.proofs.lemmas.List.{take_at}
use Rattle.aio_edge.specs.Bytes.{ReadsFront}
use Rattle.aio_edge.proofs.Fronts.{gives_of}
use Rattle.aio_edge.proofs.files.FilesShelf.read.Goals as goal

pub returns-clause-counted : goal.returns-clause-counted
returns-clause-counted g c = c.got.ensures.left c.args.name.now

pub returns-clause-given : goal.returns-clause-given
returns-clause-given g c =
    gives_of _ _ g.R.File.Read.remaining c.args.self.now.reading c.open_at.new.reading c.args.name.now c.args.from c.read_on-read.result
    _ c.got.result c.open_at.ensures.kept c.read_on-read.ensures.bytes (λ left front.
    c.got.ensures.given left (omega (arith, c.in_ok-piece.ensures.len, c.min.ensures, c.requires))
    (subst (ReadsFront left c.read_on-read.result)
    (sym (take_at _ _ _ (omega (arith, c.read_on-read.auto.piece, c.as_mut_slice.ensures.len)))) front))
