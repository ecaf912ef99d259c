-- What is left of a journal after its file was read on, and after a reply.
use Rattle.std.proofs.Common.{◌≡◌, ℕ, ◌+◌, ◌<◌, ◌≤◌, Bool, true, false, ◌||◌, List, [], ◌∷◌, ◌++◌, Option, Some, None, length, take, drop, refl, ap, sym, ◌∙◌, subst, arith, append_assoc, append-nil, ltb, option_map, Result, Ok, Err, IfOk, OnOk}
use Rattle.std.proofs.lemmas.Bool.{lt-ltb}
use Rattle.std.proofs.lemmas.List.{drop-drop, drop_all, length-drop, take_all, take_at, take-append-drop}
use Rattle.model_value.specs.Lines.{lines_of}
use Rattle.model_wire.specs.Journal.{Entry, Answered, Refused}
use Rattle.model_wire.specs.JournalText.{entries_from, most_line}
use Rattle.model_wire.specs.Told.{Agrees, OutOfAnswers, AtRefused}
use Rattle.aio_wire.specs.Got.{ReadsAt}
use Rattle.aio_wire.specs.Replied.{Kept, ReplyLeaves, EndsAs, FailedIfRose}
use Rattle.aio_wire.specs.Told.{refused_of}
use Rattle.aio_wire.specs.declared.source.SourceGot.TheVariants as got
use Rattle.aio_wire.specs.declared.wire.Reply.{Reply}
use Rattle.aio_wire.specs.declared.wire.Reply.TheVariants.{Got, Over, Bad, Failed}
use Rattle.law_entries.specs.Begins.{has_newline, is_newline}
use Rattle.aio_memwire.specs.Unread.{Unread, is_whole, entries_with, rest_of, more_of, left_of, end_of_entries, end_of, GivesLine, HoldsFew, IsSure}
use Rattle.law_entries.proofs.Alike.{refused_long}
use Rattle.law_entries.proofs.Lines.{lines_ended, lines_unended, lines_begun}

outright : (a b : List Entry) → Agrees (Some a) b → a ≡ b
outright a b agrees = agrees a refl

agrees_same : (a b : List Entry) → a ≡ b → Agrees (Some a) b
agrees_same a b same held is = let e : a ≡ held = cc is in sym e ∙ same

agrees_none : (b : List Entry) → Agrees None b
agrees_none b held is = absurd (cc is)

pub kept_same : (one other : Option (List Entry)) → one ≡ other → Kept one other
kept_same one other same rest agrees = subst (λ (t : Option (List Entry)). Agrees t rest) (sym same) agrees

pub kept_on : (before between after : Option (List Entry)) → Kept before between → Kept between after → Kept before after
kept_on before between after first second rest agrees = first rest (second rest agrees)

-- a reply after nothing was taken away
pub leaves_after : (before between after : Option (List Entry)) (reply : Reply) → Kept before between → ReplyLeaves between after reply
    → ReplyLeaves before after reply
leaves_after before between after (Got answer) kept leaves = λ rest agrees. kept (Answered answer ∷ rest) (leaves rest agrees)
leaves_after before between after Over kept leaves = (kept [] leaves.0, kept_on before between after kept leaves.1)
leaves_after before between after (Bad fault) kept leaves =
    ((leaves.0.0, kept (refused_of fault ∷ leaves.0.0) leaves.0.1), kept_on before between after kept leaves.1)
leaves_after before between after Failed kept leaves = kept_on before between after kept leaves

-- ---- the file is read on
abbrev pub added : List ℕ → Unread → Unread
added bytes it = record it { held = it.held ++ bytes; from = it.from + length bytes }

-- bytes that were read are those after what is held
rest_added : (held : Option (List ℕ)) (it : Unread) (bytes : List ℕ) → ReadsAt held it.from (got.Bytes bytes)
    → entries_with (added bytes it) (rest_of held (it.from + length bytes)) ≡ entries_with it (rest_of held it.from)
rest_added None it bytes read = absurd (cc read.1)
rest_added (Some all) it bytes read =
    let same : all ≡ read.0 = cc read.1 in
    let is : bytes ≡ take (length bytes) (drop it.from all) =
    read.2 ∙ ap (λ (a : List ℕ). take (length bytes) (drop it.from a)) (sym same) in
    let rest : drop (it.from + length bytes) all ≡ drop (length bytes) (drop it.from all) = sym (drop-drop (length bytes) it.from all) in
    let whole : bytes ++ drop (it.from + length bytes) all ≡ drop it.from all =
    ap (λ (b : List ℕ). b ++ drop (it.from + length bytes) all) is
    ∙ ap (λ (r : List ℕ). take (length bytes) (drop it.from all) ++ r) rest
    ∙ take-append-drop (length bytes) (drop it.from all) in
    ap (λ (text : List ℕ). entries_from it.line (lines_of text))
    (append_assoc it.held bytes (drop (it.from + length bytes) all) ∙ ap (λ (r : List ℕ). it.held ++ r) whole)

pub left_added : (told : Option (Option (List ℕ))) (it : Unread) (bytes : List ℕ) → it.ended ≡ false
    → ((held : Option (List ℕ)) → told ≡ Some held → ReadsAt held it.from (got.Bytes bytes)) → left_of told (added bytes it) ≡ left_of told it
left_added None it bytes open_ read = rw open_ refl
left_added (Some held) it bytes open_ read = rw open_ (ap (λ (es : List Entry). Some es) (rest_added held it bytes (read held refl)))

rest_none : (held : Option (List ℕ)) (from : ℕ) → ReadsAt held from got.End → rest_of held from ≡ []
rest_none None from read = absurd (cc read.1)
rest_none (Some all) from read =
    let same : all ≡ read.0 = cc read.1 in
    drop_all from all (omega (arith, read.2, ap (λ (a : List ℕ). length a) same))

-- the end of the file was read
pub kept_ended : (told : Option (Option (List ℕ))) (it : Unread) → it.ended ≡ false
    → ((held : Option (List ℕ)) → told ≡ Some held → ReadsAt held it.from got.End) → Kept (left_of told it) (left_of told (record it { ended = true }))
kept_ended None it open_ read = rw open_ (λ rest agrees. agrees_none rest)
kept_ended (Some held) it open_ read =
    kept_same (left_of (Some held) it) (Some (entries_with it []))
    (rw open_ (ap (λ (more : List ℕ). let es : Option (List Entry) = Some (entries_with it more) in es) (rest_none held it.from (read held refl))))

-- ---- a line is given
-- where the first line ends, whatever comes after what is held
abbrev pub FirstLine : Option (Option (List ℕ)) → Unread → (size gone : ℕ) → Type 0
FirstLine told it size gone =
    (more : List ℕ) → more_of told it ≡ Some more → lines_of (it.held ++ more) ≡ take size it.held ∷ lines_of (drop gone it.held ++ more)

pub given : (told : Option (Option (List ℕ))) (old new : Unread) (size gone : ℕ) (reply : Reply) → FirstLine told old size gone
    → GivesLine size gone old new reply → ReplyLeaves (left_of told old) (left_of told new) reply
given told old new size gone (Got answer) line gives =
    subst (λ (n : Unread). ReplyLeaves (left_of told old) (left_of told n) (Got answer)) (sym gives.1) (by (more_of told old) refl)
  where
    after : Unread
    after = record old { held = drop gone old.held; line = old.line + 1 }

    by : (m : Option (List ℕ)) → more_of told old ≡ m → (rest : List Entry) → Agrees (option_map (entries_with after) m) rest
        → Agrees (option_map (entries_with old) m) (Answered answer ∷ rest)
    by None is rest agrees = agrees_none (Answered answer ∷ rest)
    by (Some more) is rest agrees =
        agrees_same (entries_with old more) (Answered answer ∷ rest)
        (ap (entries_from old.line) (line more is)
        ∙ ap (λ (e : Entry). e ∷ entries_from (old.line + 1) (lines_of (drop gone old.held ++ more))) gives.0
        ∙ ap (λ (es : List Entry). Answered answer ∷ es) (outright (entries_with after more) rest agrees))
given told old new size gone (Bad fault) line gives =
    subst (λ (n : Unread). ReplyLeaves (left_of told old) (left_of told n) (Bad fault)) (sym gives.1)
    (by (more_of told old) refl, λ rest agrees. agrees)
  where
    by : (m : Option (List ℕ)) → more_of told old ≡ m → (rest : List Entry) × Agrees (option_map (entries_with old) m) (refused_of fault ∷ rest)
    by None is = ([], agrees_none (refused_of fault ∷ []))
    by (Some more) is = (
      entries_from (old.line + 1) (lines_of (drop gone old.held ++ more)),
      agrees_same (entries_with old more) (refused_of fault ∷ entries_from (old.line + 1) (lines_of (drop gone old.held ++ more)))
          (ap (entries_from old.line) (line more is)
          ∙ ap (λ (e : Entry). e ∷ entries_from (old.line + 1) (lines_of (drop gone old.held ++ more))) gives.0),
    )
given told old new size gone Over line gives = absurd gives
given told old new size gone Failed line gives = absurd gives

-- how the wire ended after that
pub given_ends : (old new : Unread) (size gone : ℕ) (reply : Reply) → is_whole old ≡ true
    → lines_of (old.held ++ []) ≡ take size old.held ∷ lines_of (drop gone old.held ++ []) → GivesLine size gone old new reply
    → EndsAs (end_of new) reply
given_ends old new size gone (Got answer) whole line gives = tt
given_ends old new size gone (Bad fault) whole line gives =
    subst (λ (n : Unread). end_of n ≡ AtRefused fault.line fault.cause) (sym gives.1)
    (rw whole
    (ap (λ (ls : List (List ℕ)). end_of_entries (entries_from old.line ls)) line
    ∙ ap (λ (e : Entry). end_of_entries (e ∷ entries_from (old.line + 1) (lines_of (drop gone old.held ++ [])))) gives.0))
given_ends old new size gone Over whole line gives = absurd gives
given_ends old new size gone Failed whole line gives = absurd gives

-- a newline ends the first line
pub line_ended : (it : Unread) (at : ℕ) → has_newline (take at it.held) ≡ false → it.held ≡ take at it.held ++ 10 ∷ drop (at + 1) it.held
    → (more : List ℕ) → lines_of (it.held ++ more) ≡ take at it.held ∷ lines_of (drop (at + 1) it.held ++ more)
line_ended it at none is more =
    ap (λ (held : List ℕ). lines_of (held ++ more)) is
    ∙ ap lines_of (append_assoc (take at it.held) (10 ∷ drop (at + 1) it.held) more)
    ∙ lines_ended (take at it.held) (drop (at + 1) it.held ++ more) none

-- the last line has none
pub line_last : (it : Unread) (size : ℕ) → has_newline it.held ≡ false → size ≡ length it.held → 0 < size
    → lines_of (it.held ++ []) ≡ take size it.held ∷ lines_of (drop size it.held ++ [])
line_last it size none all some =
    ap lines_of (append-nil it.held) ∙ lines_unended it.held none (omega (arith, all))
    ∙ ap (λ (line : List ℕ). line ∷ []) (sym (take_all size it.held (omega (arith, all))))
    ∙ ap (λ (rest : List ℕ). take size it.held ∷ lines_of (rest ++ [])) (sym (drop_all size it.held (omega (arith, all))))

-- a line that is too long is refused
pub refused : (told : Option (Option (List ℕ))) (it : Unread) → most_line < length it.held → has_newline it.held ≡ false
    → ReplyLeaves (left_of told it) (left_of told it) (Bad (record { line = it.line; cause = 3 }))
refused told it long none = (by (more_of told it), λ rest agrees. agrees)
  where
    by : (m : Option (List ℕ)) → (rest : List Entry) × Agrees (option_map (entries_with it) m) (Refused it.line 3 ∷ rest)
    by None = ([], agrees_none (Refused it.line 3 ∷ []))
    by (Some more) =
        let begun = lines_begun it.held more none (omega (arith, long)) in (
          entries_from (it.line + 1) begun.others,
          agrees_same (entries_with it more) (Refused it.line 3 ∷ entries_from (it.line + 1) begun.others)
              (ap (entries_from it.line) begun.is
              ∙ ap (λ (e : Entry). e ∷ entries_from (it.line + 1) begun.others)
              (refused_long it.line begun.first (omega (arith, long, begun.long)))),
        )

pub refused_ends : (it : Unread) → most_line < length it.held → has_newline it.held ≡ false → end_of it ≡ AtRefused it.line 3
refused_ends it long none =
    let begun = lines_begun it.held [] none (omega (arith, long)) in
    let whole : is_whole it ≡ true = by it.ended in
    rw whole
    (ap (λ (ls : List (List ℕ)). end_of_entries (entries_from it.line ls)) begun.is
    ∙ ap (λ (e : Entry). end_of_entries (e ∷ entries_from (it.line + 1) begun.others))
    (refused_long it.line begun.first (omega (arith, long, begun.long))))
  where
    by : (ended : Bool) → (ended || (has_newline it.held || ltb most_line (length it.held))) ≡ true
    by true = refl
    by false = rw (none, lt-ltb most_line (length it.held) long) refl

-- of a missing file nothing is read
pub none_read : (told : Option (Option (List ℕ))) (from : ℕ) (bytes : List ℕ)
    → ((held : Option (List ℕ)) → told ≡ Some held → ReadsAt held from (got.Bytes bytes)) → told ≡ Some None → ⊥
none_read told from bytes read missing = let it = read None missing in cc it.1

pub none_ended : (told : Option (Option (List ℕ))) (from : ℕ) → ((held : Option (List ℕ)) → told ≡ Some held → ReadsAt held from got.End)
    → told ≡ Some None → ⊥
none_ended told from read missing = let it = read None missing in cc it.1

-- a line that was given is no failure
pub given_sure : (old new : Unread) (size gone : ℕ) (reply : Reply) → GivesLine size gone old new reply → IsSure reply
given_sure old new size gone (Got answer) gives = tt
given_sure old new size gone (Bad fault) gives = tt
given_sure old new size gone Over gives = absurd gives
given_sure old new size gone Failed gives = absurd gives

pub given_few : (old new : Unread) (size gone : ℕ) (reply : Reply) → GivesLine size gone old new reply → length new.held ≤ length old.held
given_few old new size gone (Got answer) gives = omega (arith, ap (λ (u : Unread). length u.held) gives.1, length-drop gone old.held)
given_few old new size gone (Bad fault) gives = omega (arith, ap (λ (u : Unread). length u.held) gives.1)
given_few old new size gone Over gives = absurd gives
given_few old new size gone Failed gives = absurd gives

-- so few that they stay within what may be held
pub few_after : {T E : Type 0} (r : Result T E) (old mid new : Unread) → (few : HoldsFew old mid) → OnOk r (length new.held ≤ length mid.held)
    → OnOk r (HoldsFew old new)
few_after (Ok reply) old mid new few shrinks = λ before. omega (arith, few before, shrinks)
few_after (Err cause) old mid new few shrinks = tt

-- what holds of a value holds of the call
pub on_ok : {T E Q : Type 0} {P : T → Type 0} (r : Result T E) → ((x : T) → P x → Q) → IfOk r P → OnOk r Q
on_ok (Ok x) holds p = holds x p
on_ok (Err e) holds p = tt

pub sure_rose : (before now : ℕ) (reply : Reply) → IsSure reply → FailedIfRose before now reply
sure_rose before now (Got answer) sure = tt
sure_rose before now Over sure = tt
sure_rose before now (Bad fault) sure = tt
sure_rose before now Failed sure = absurd sure

-- nothing is left of a file that ended
pub over : (told : Option (Option (List ℕ))) (it : Unread) → it.ended ≡ true → it.held ≡ []
    → ReplyLeaves (left_of told it) (left_of told it) Over
over told it ended none =
    (rw ended (agrees_same (entries_with it []) [] (ap (λ (held : List ℕ). entries_from it.line (lines_of (held ++ []))) none)), λ rest agrees. agrees)

pub over_ends : (it : Unread) → it.ended ≡ true → it.held ≡ [] → end_of it ≡ OutOfAnswers
over_ends it ended none =
    rw ended (ap (λ (held : List ℕ). end_of_entries (entries_from it.line (lines_of (held ++ [])))) none)

-- where the end was read it doesn't matter what the shelf tells
pub left_alike : (told : Option (Option (List ℕ))) (it : Unread) → it.ended ≡ true → left_of None it ≡ left_of told it
left_alike told it ended = rw ended refl

-- the last line, whatever the shelf tells
pub first_last : (told : Option (Option (List ℕ))) (it : Unread) (size : ℕ) → it.ended ≡ true → has_newline it.held ≡ false → size ≡ length it.held
    → 0 < size → FirstLine told it size size
first_last told it size ended none all some more is =
    let e = rw ended at is in
    let same : [] ≡ more = cc e in
    subst (λ (m : List ℕ). lines_of (it.held ++ m) ≡ take size it.held ∷ lines_of (drop size it.held ++ m)) same (line_last it size none all some)

pub whole_ended : (it : Unread) → it.ended ≡ true → is_whole it ≡ true
whole_ended it ended = rw ended refl

newline_there : (front rest : List ℕ) → has_newline (front ++ 10 ∷ rest) ≡ true
newline_there [] rest = refl
newline_there (byte ∷ bytes) rest = rw (newline_there bytes rest) (by (is_newline byte))
  where
    by : (b : Bool) → (b || true) ≡ true
    by true = refl
    by false = refl

pub whole_line : (it : Unread) (front rest : List ℕ) → it.held ≡ front ++ 10 ∷ rest → is_whole it ≡ true
whole_line it front rest is =
    let there : has_newline it.held ≡ true = ap has_newline is ∙ newline_there front rest in
    rw there (by it.ended)
  where
    by : (b : Bool) → (b || true) ≡ true
    by true = refl
    by false = refl

-- what was searched of what is held has no newline, with bytes behind it too
pub searched_on : (held bytes : List ℕ) (size : ℕ) → size ≡ length held → has_newline held ≡ false → has_newline (take size (held ++ bytes)) ≡ false
searched_on held bytes size is none = ap has_newline (take_at held bytes size (sym is)) ∙ none

-- two facts of what a call gave
pub both_ok : {T E Q : Type 0} {P R : T → Type 0} (r : Result T E) → ((x : T) → P x → Q → R x) → IfOk r P → OnOk r Q → IfOk r R
both_ok (Ok x) holds p q = holds x p q
both_ok (Err e) holds p q = tt
