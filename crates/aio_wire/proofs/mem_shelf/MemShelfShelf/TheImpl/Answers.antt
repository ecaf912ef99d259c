use Rattle.std.proofs.Common.{◌≡◌, ℕ, ◌≤◌, List, [], ◌++◌, Option, Some, None, length, take, drop, unwrap_or, refl, sym, ap, subst, ◌∙◌, arith}
use Rattle.std.proofs.Math.Seq.{take-length}
use Rattle.std.proofs.lemmas.Result.{on_err_weaker}
use Rattle.aio_wire.specs.Files.{Appends, with_piece}
use Rattle.aio_wire.specs.Got.{FitsRead, ReadsAt, ReadLeavesShelf}
use Rattle.aio_wire.specs.Shelved.{Shelved, held, got_at, missed_by, seen_of, with_appended}
use Rattle.aio_wire.specs.Took.{FitsWrite}
use Rattle.aio_wire.specs.declared.sink.SinkTook.TheVariants.{Took}
use Rattle.aio_wire.proofs.GivenLemmas.{from_given, from_given_after}
use Rattle.aio_wire.proofs.GotLemmas.{FitsRead-got_of, ReadsAt-got_of, ReadLeavesShelf-got_of}
use Rattle.aio_wire.proofs.ShelvedLemmas.{lookup-insert_entry, lookup-insert_entry_other}
use Rattle.aio_wire.proofs.mem_shelf.MemShelfShelf.TheImpl.Goals as goal

FitsRead-got_at : (file : Option (List ℕ)) (from max : ℕ) → FitsRead max (got_at file from max)
FitsRead-got_at None from max = tt
FitsRead-got_at (Some bytes) from max = FitsRead-got_of max (drop from bytes)

ReadsAt-got_at : (file : Option (List ℕ)) (from max : ℕ) → 1 ≤ max → ReadsAt file from (got_at file from max)
ReadsAt-got_at None from max some = tt
ReadsAt-got_at (Some bytes) from max some = ReadsAt-got_of bytes from max some

ReadLeavesShelf-got_at : (before after : Shelved) (name : List ℕ) (file : Option (List ℕ)) (from max : ℕ)
    → after ≡ record before { missed = missed_by file before.missed } → before.missed ≤ after.missed
    → ReadLeavesShelf name (seen_of before) (seen_of after) (got_at file from max)
ReadLeavesShelf-got_at before after name None from max is later =
    (let e = ap (λ shelf. shelf.missed) is in omega (arith, e), λ other. later)
ReadLeavesShelf-got_at before after name (Some bytes) from max is later =
    ReadLeavesShelf-got_of name (seen_of before) (seen_of after) (take max (drop from bytes)) (ap seen_of is)

pub read-tells : goal.read-tells
read-tells c =
    let before = c.args.self.now in
    let file = held before c.args.name.now in
    let given = got_at file c.args.from c.args.max in
    record {
      size = from_given c.result given (FitsRead c.args.max) c.ensures.next (FitsRead-got_at file c.args.from c.args.max);
      bytes = from_given c.result given (λ got. (told : Option (List ℕ)) → Some file ≡ Some told → ReadsAt told c.args.from got) c.ensures.next
          (λ told is. let same : file ≡ told = cc in subst (λ (f : Option (List ℕ)). ReadsAt f c.args.from given) same
          (ReadsAt-got_at file c.args.from c.args.max c.requires));
      counted = from_given c.result given (ReadLeavesShelf c.args.name.now (seen_of before) (seen_of c.new.self.now)) c.ensures.next
          (ReadLeavesShelf-got_at before c.new.self.now c.args.name.now file c.args.from c.args.max c.ensures.after c.ensures.monotone);
      files = λ i name. Some (held (c.ensures.after i) name);
      err = on_err_weaker c.result (λ same. ap seen_of same) c.ensures.unchanged;
    }

with_piece-held : (file : Option (List ℕ)) (piece : List ℕ) → Some (Some (unwrap_or file [] ++ piece)) ≡ with_piece (Some file) piece
with_piece-held None piece = refl
with_piece-held (Some bytes) piece = refl

-- the files after an append, in the words of every shelf
Appends-with_appended : (before after : Shelved) (name piece : List ℕ) → after ≡ record before { files = with_appended before.files name piece }
    → Appends name piece (seen_of before) (seen_of after) (Took (length piece))
Appends-with_appended before after name piece is = (
  ap (λ shelf. Some (held shelf name)) is ∙ ap Some (lookup-insert_entry before.files name _)
      ∙ with_piece-held (held before name) piece ∙ ap (with_piece (Some (held before name))) (sym (take-length piece)),
  λ other apart. ap (λ shelf. Some (held shelf other)) is ∙ ap Some (lookup-insert_entry_other before.files name _ other apart),
  ap (λ shelf. (seen_of shelf).faults) is,
)

pub append-tells : goal.append-tells
append-tells c =
    let before = c.args.self.now in
    let after = c.new.self.now in
    let piece = c.args.piece.now in
    let given = Took (length piece) in
    record {
      size = from_given c.result given (FitsWrite piece) c.ensures.whole (omega arith, λ some. some);
      written = from_given_after c.result given (Appends c.args.name.now piece (seen_of before) (seen_of after)) c.ensures.whole c.ensures.after
          (λ is. Appends-with_appended before after c.args.name.now piece is);
      err = on_err_weaker c.result (λ same. ap seen_of same) c.ensures.unchanged;
    }
