-- What a journal's wire tells.
use Rattle.std.specs.Prelude.{◌≡◌, ℕ, Bool, true, false, ◌||◌, List, [], ◌∷◌, Option, Some, None, option_map, length, nat_lt, refl, if◌then◌else◌}
use Rattle.std.proofs.Common.{sym, subst}
use Rattle.model_wire.specs.Journal.{Entry, Answered, Refused}
use Rattle.model_wire.specs.JournalText.{most_line}
use Rattle.model_wire.specs.Told.{Agrees, ShelfSeen, WireSeen, WireEnd, Going, OutOfAnswers, AtRefused}
use Rattle.law_entries.specs.Begins.{BeginAlike, has_newline}
use Rattle.law_entries.proofs.Alike.{entries_alike}
use Rattle.aio_wire.specs.Replied.{EndAgrees}
use Rattle.aio_memwire.specs.Held.{held}
use Rattle.aio_memwire.specs.Unread.{Unread, entries_with, rest_of, left_of, end_of_entries, end_of}
use Rattle.aio_memwire.specs.declared.buffers.Answers.{Answers}
use Rattle.aio_memwire.specs.declared.buffers.Buffers.{Buffers}

-- Its count is that of its shelf's file. It tells all that it may tell.
abbrev pub seen_of : ShelfSeen → List ℕ → Buffers → WireSeen
seen_of shelf name own = record {
  left = left_of (shelf.file name) own.journal;
  asked = Some own.asked.items;
  handed = Some (held own.handed);
  end = end_of own.journal;
  fitting = false;
  faults = shelf.faults name;
}

-- The same of a wire that keeps nothing of what it was asked: it tells neither calls nor bytes.
abbrev pub seen_of_answers : ShelfSeen → List ℕ → Answers → WireSeen
seen_of_answers shelf name own = record {
  left = left_of (shelf.file name) own.journal;
  asked = None;
  handed = None;
  end = end_of own.journal;
  fitting = false;
  faults = shelf.faults name;
}

-- ---- how it ended, beside what is left
-- what is told outright is what it is
told_outright : (left : List Entry) → Agrees (Some left) left
told_outright left told is = let same : left ≡ told = Prim.cc in sym same

untold : (left : List Entry) → Agrees None left
untold left told is = absurd (let no : ⊥ = Prim.cc in no)

ends_untold : (end : WireEnd) → EndAgrees end None
ends_untold Going = tt
ends_untold OutOfAnswers = untold []
ends_untold (AtRefused number cause) = ([], untold (Refused number cause ∷ []))

ends_as_first : (first : Entry) (others rest : List Entry) → EndAgrees (end_of_entries (first ∷ others)) (Some (first ∷ rest))
ends_as_first (Answered answer) others rest = tt
ends_as_first (Refused number cause) others rest = (rest, told_outright (Refused number cause ∷ rest))

ends_as_entries : (left : List Entry) → EndAgrees (end_of_entries left) (Some left)
ends_as_entries [] = told_outright []
ends_as_entries (entry ∷ entries) = ends_as_first entry entries entries

ends_alike : (one other : List Entry) → BeginAlike one other → EndAgrees (end_of_entries one) (Some other)
ends_alike one other b =
    subst (λ (es : List Entry). EndAgrees (end_of_entries es) (Some other)) (sym b.one_is)
    (subst (λ (es : List Entry). EndAgrees (end_of_entries (b.first ∷ b.others)) (Some es)) (sym b.other_is)
    (ends_as_first b.first b.others b.rest))

-- where the file's end wasn't read, and its rest is told
ends_told : (it : Unread) (more : List ℕ) (b : Bool) → (has_newline it.held || nat_lt most_line (length it.held)) ≡ b
    → EndAgrees (if b then end_of_entries (entries_with it []) else Going) (Some (entries_with it more))
ends_told it more true whole = ends_alike (entries_with it []) (entries_with it more) (entries_alike it.line it.held more whole)
ends_told it more false part = tt

ends_by : (it : Unread) (ended : Bool) (told : Option (Option (List ℕ)))
    → EndAgrees (if ended || (has_newline it.held || nat_lt most_line (length it.held)) then end_of_entries (entries_with it []) else Going)
    (option_map (entries_with it) (if ended then Some [] else option_map (λ file. rest_of file it.from) told))
ends_by it true told = ends_as_entries (entries_with it [])
ends_by it false None = ends_untold _
ends_by it false (Some file) = ends_told it (rest_of file it.from) _ refl

pub ends_as_left : (told : Option (Option (List ℕ))) (it : Unread) → EndAgrees (end_of it) (left_of told it)
ends_as_left told it = ends_by it it.ended told
