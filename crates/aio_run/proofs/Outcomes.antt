-- From a driven run to what the program may write.
use Rattle.std.proofs.Common.{◌≡◌, ℕ, false, List, [], ◌∷◌, ◌++◌, Option, Some, None, Result, Ok, Err, IfOk, IfErr, refl, ap, sym, ◌∙◌, subst, inl, inr}
use Rattle.model_tree.specs.Syntax.{Program}
use Rattle.model_text.specs.declared.cause.Cause.{Cause}
use Rattle.model_text.specs.Canonical.{canonical}
use Rattle.model_text.specs.Causes.{cause_number}
use Rattle.model_text.specs.FirstPass.{fault_at}
use Rattle.model_text.specs.Scripts.{script_of}
use Rattle.model_text.specs.SecondPass.{Judged}
use Rattle.model_wire.specs.declared.event.End.TheVariants as end
use Rattle.model_wire.specs.Event.{Event}
use Rattle.model_wire.specs.Journal.{Entry}
use Rattle.model_wire.specs.JournalText.{entries_of}
use Rattle.model_wire.specs.Told.{Agrees, FileFailed, Rose, ShelfSeen, SinkSeen, WireSeen, NoneFailed}
use Rattle.model_wire.specs.Trace.{End, line}
use Rattle.model_program.specs.Program.{Manner, script_refused, FileSays, JournalSays, JournalBegins, MayRun, MayRunScript, MayReplay}
use Rattle.model_program.specs.Program.{MayCheck, checked}
use Rattle.model_program.specs.Added.{added, first_added}
use Rattle.model_program.specs.Runs.{run}
use Rattle.model_program.specs.Transcript.{status_of}
use Rattle.model_program.specs.Written.{ProgramOutput, WritesWhole}
use Rattle.model_words.specs.Words.{most_turns}
use Rattle.model_commands.specs.Works.{MayWork, counts_of, work_text}
use Rattle.aio_memwire.specs.declared.buffers.Answers.{Answers}
use Rattle.aio_memwire.specs.JournalWire.{seen_of_answers}
use Rattle.aio_memwire.specs.Reading.{IsFront}
use Rattle.aio_memwire.specs.Unread.{Unread, is_whole, left_of, unread}
use Rattle.aio_drive.specs.Drive.{DrivenWire, IsUnbegun, MayDrive, Undisturbed, over_all, over_front}
use Rattle.aio_drive.specs.Outcome.{EndsEarly}
use Rattle.aio_drive.specs.declared.driver.Manner as code
use Rattle.aio_drive.specs.declared.halt.Halt.{Halt}
use Rattle.aio_drive.proofs.Unrecorded.{early_wider, whole_wider}
use Rattle.aio_tally.specs.Tallied.{Tallies, plain_counts}
use Rattle.aio_tally.specs.declared.tallying.Tally.{Tally}
use Rattle.aio_run.specs.Manner.{manner_of}
use Rattle.aio_run.specs.Script.{SpellsScript, IsMissing, Tells, refusal_text}
use Rattle.aio_run.specs.Working.{TalliesOver, TalliesWork}
use Rattle.aio_run.specs.Writes.{Writes}
use Rattle.aio_run.specs.declared.script.NoScript.{NoScript}
use Rattle.aio_run.specs.declared.script.NoScript.TheVariants.{Refused, Failed, Memory as NoMemory}
use Rattle.aio_run.proofs.TextFronts.{spells_alike}

-- what is told outright
outright : {A : Type 0} (a b : A) → Agrees (Some a) b → b ≡ a
outright a b agrees = sym (agrees a refl)

says_from : (told : Option (Option (List ℕ))) (entries : List Entry) → (told ≡ Some None → ⊥) → Agrees (left_of told unread) entries
    → JournalSays told entries
says_from None entries there agrees = tt
says_from (Some None) entries there agrees = there refl
says_from (Some (Some text)) entries there agrees = outright (entries_of text) entries agrees

append-nothing : (had rest : List Entry) → had ++ rest ≡ [] → had ≡ []
append-nothing [] rest e = refl
append-nothing (x ∷ xs) rest e = absurd (cc e)

begins_from : (told : Option (Option (List ℕ))) (had rest : List Entry) → Agrees (left_of told unread) (had ++ rest) → JournalBegins told had
begins_from None had rest agrees = tt
begins_from (Some None) had rest agrees = append-nothing had rest (outright [] (had ++ rest) agrees)
begins_from (Some (Some text)) had rest agrees = (rest, outright (entries_of text) (had ++ rest) agrees)

pub none_failed : (old new : ShelfSeen) → new ≡ old → NoneFailed old new
none_failed old new same = ap (λ (s : ShelfSeen). s.faults) same

-- A program's run that was driven over a journal of a shelf, by what is seen of the shelf before and after.
pub may_run : (program : Program) (how : code.Manner) (journal : List ℕ) (old new : ShelfSeen) (before after : WireSeen) (fails quiet : Type 0)
    → before.left ≡ left_of (old.file journal) unread → (old.file journal ≡ Some None → fails) → (quiet → new ≡ old)
    → (Rose before.faults after.faults → FileFailed journal old new) → (asked : List Event → Type 0) (caused : End → Type 0) (output : ProgramOutput)
    → MayDrive (run program) how end.ShelfFault
    (record { before = before; after = after; undisturbed = Undisturbed fails quiet; asked = asked; caused = caused }) output
    → MayRun old new program (manner_of journal how) output
may_run program how journal old new before after fails quiet told missing same failed asked caused output
    (inl ((alive, still), entries, agrees, is, asks, cause)) =
    inl (
      none_failed old new (same still),
      entries,
      says_from (old.file journal) entries (λ gone. alive (missing gone)) (subst (λ (t : Option (List Entry)). Agrees t entries) told agrees),
      is,
    )
may_run program how journal old new before after fails quiet told missing same failed asked caused output
    (inr (rose, had, (rest, agrees), over, is, asks)) =
    inr (
      failed rose,
      had,
      begins_from (old.file journal) had rest (subst (λ (t : Option (List Entry)). Agrees t (had ++ rest)) told agrees),
      over,
      is,
    )

-- what a journal's wire tells before it is asked
pub told_first : {F : Type 0} (seen : F → ShelfSeen) (held shelf : F) (name journal : List ℕ) (own : Unread) → held ≡ shelf
    → name ≡ journal → own ≡ unread → left_of ((seen held).file name) own ≡ left_of ((seen shelf).file journal) unread
told_first {F} seen held shelf name journal own same named first =
    ap (λ (s : F). left_of ((seen s).file name) own) same ∙ ap (λ (n : List ℕ). left_of ((seen shelf).file n) own) named
    ∙ ap (left_of ((seen shelf).file journal)) first

pub missing_first : {F : Type 0} (seen : F → ShelfSeen) (held shelf : F) (name journal : List ℕ) → held ≡ shelf → name ≡ journal
    → (seen shelf).file journal ≡ Some None → (seen held).file name ≡ Some None
missing_first {F} seen held shelf name journal same named missing =
    ap (λ (s : F). (seen s).file name) same ∙ ap (λ (n : List ℕ). (seen shelf).file n) named ∙ missing

-- what is seen of what was held is seen of what is left of it
pub seen_kept : {F : Type 0} (seen : F → ShelfSeen) (first held now after : F) → held ≡ first → now ≡ after → seen now ≡ seen held
    → seen after ≡ seen first
seen_kept {F} seen first held now after same left quiet = sym (ap seen left) ∙ quiet ∙ ap seen same

-- what is seen of the files stays with what is left
pub files_left : {F : Type 0} (seen : F → ShelfSeen) (first held now after : F) → held ≡ first → now ≡ after → (seen now).file ≡ (seen held).file
    → (seen after).file ≡ (seen first).file
files_left {F} seen first held now after same left kept =
    ap (λ (s : F). (seen s).file) (sym left) ∙ kept ∙ ap (λ (s : F). (seen s).file) same

-- a count that rose in what was held rose in what is left of it
pub rose_here : {F : Type 0} (seen : F → ShelfSeen) (first held now after : F) (name late journal : List ℕ) → held ≡ first → now ≡ after
    → name ≡ journal → late ≡ name → Rose ((seen held).faults name) ((seen now).faults late)
    → Rose ((seen first).faults journal) ((seen after).faults journal)
rose_here {F} seen first held now after name late journal same left named kept rose =
    let before : (seen held).faults name ≡ (seen first).faults journal =
    ap (λ (s : F). (seen s).faults name) same ∙ ap (λ (n : List ℕ). (seen first).faults n) named in
    let behind : (seen now).faults late ≡ (seen after).faults journal =
    ap (λ (s : F). (seen s).faults late) left ∙ ap (λ (n : List ℕ). (seen after).faults n) (kept ∙ named) in
    subst (λ (n : ℕ). Rose ((seen first).faults journal) n) behind (subst (λ (n : ℕ). Rose n ((seen now).faults late)) before rose)

-- A program's run that was driven over the journal's wire of a shelf: `held` is the shelf as the wire was made, and `now` as it
-- was left.
module _ {F : Type 0} (seen : F → ShelfSeen) (first held now after : F) (name late journal : List ℕ) (own own_last : Answers) (program : Program)
    (how : code.Manner) (kept : held ≡ first) (left : now ≡ after) (named : name ≡ journal) (late_name : late ≡ name) (none_read : own.journal ≡ unread) where
  abbrev Fails : Type 0
  Fails = (is_whole own.journal ≡ false) × ((seen held).file name ≡ Some None)

  abbrev Quiet : Type 0
  Quiet = seen now ≡ seen held

  abbrev before : WireSeen
  before = seen_of_answers (seen held) name own

  abbrev after_it : WireSeen
  after_it = seen_of_answers (seen now) late own_last

  abbrev Drives : DrivenWire → ProgramOutput → Type 0
  Drives wire = MayDrive (run program) how end.ShelfFault wire

  abbrev Runs : ProgramOutput → Type 0
  Runs = MayRun (seen first) (seen after) program (manner_of journal how)

  runs : (asked : List Event → Type 0) (caused : End → Type 0) (output : ProgramOutput)
      → Drives (record { before = before; after = after_it; undisturbed = Undisturbed Fails Quiet; asked = asked; caused = caused }) output → Runs output
  runs =
      may_run program how journal (seen first) (seen after) (seen_of_answers (seen held) name own) (seen_of_answers (seen now) late own_last) Fails Quiet
      (told_first seen held first name journal own.journal kept named none_read)
      (λ missing. (ap is_whole none_read, missing_first seen held first name journal kept named missing))
      (seen_kept seen first held now after kept left)
      (rose_here seen first held now after name late journal kept left named late_name)

  none_then : Quiet → NoneFailed (seen first) (seen after)
  none_then quiet = none_failed (seen first) (seen after) (seen_kept seen first held now after kept left quiet)

  abbrev all : DrivenWire
  all = over_all before after_it (Undisturbed Fails Quiet)

  abbrev front : Halt → DrivenWire
  front halt = over_front halt before after_it (Undisturbed Fails Quiet)

  pub run_written : (old new : SinkSeen) (result : Result ℕ Halt) → IfOk result (WritesWhole (Drives all) old new)
      → IfErr result (λ halt. EndsEarly (Drives (front halt)) (IsUnbegun Quiet before after_it) old new halt)
      → Writes Runs (NoneFailed (seen first) (seen after)) old new result
  run_written old new (Ok status) whole early =
      whole_wider (Drives all) Runs Quiet (NoneFailed (seen first) (seen after)) (runs all.asked all.caused) none_then old new status whole
  run_written old new (Err halt) whole early =
      early_wider (Drives (front halt)) Runs (IsUnbegun Quiet before after_it) (NoneFailed (seen first) (seen after))
      (runs (front halt).asked (front halt).caused) (λ holds. none_then holds.0) halt old new early

-- ---- the work of a seed
-- a journal's wire of which nothing was asked tells the entries of its file
pub told_of_file : (told : Option (Option (List ℕ))) (text : List ℕ) (entries : List Entry) → told ≡ Some (Some text)
    → Agrees (left_of told unread) entries → entries ≡ entries_of text
told_of_file told text entries is agrees =
    outright (entries_of text) entries (subst (λ (t : Option (Option (List ℕ))). Agrees (left_of t unread) entries) is agrees)

-- over the entries of a journal
pub tallies_over : (program : Program) (journal : List ℕ) (seen : WireSeen) (it : Tally)
    → ((entries : List Entry) → Agrees seen.left entries → entries ≡ entries_of journal) → Tallies added first_added program most_turns seen it
    → TalliesOver program journal it
tallies_over program journal seen it told (entries, agrees, counts, status) =
    let same = told entries agrees in
    record {
      counts = counts ∙ ap (λ (es : List Entry). counts_of program es most_turns) same;
      status = status ∙ ap (λ (es : List Entry). status_of (run program es most_turns).end) same;
    }

-- the line of what was counted, and the status
pub worked_of : (seed : ℕ) (it : Tally) → TalliesWork seed it
    → MayWork seed (record { text = line (work_text seed (plain_counts it.counts)); status = it.status })
worked_of seed it (program, spells, tallies) = (
  program,
  spells,
  λ i. record { text = line (work_text seed (tallies.counts i)); status = tallies.status i },
)

-- ---- scripts
says_all : (held : Option (List ℕ)) (all : List ℕ) → held ≡ Some all → FileSays (Some held) all
says_all None all is = absurd (cc is)
says_all (Some text) all is = let e : all ≡ text = cc is in e

pub front_says : (told : Option (Option (List ℕ))) (front : List ℕ) → IsFront 1048577 told front
    → (text : List ℕ) × FileSays told text × (script_of front ≡ script_of text)
front_says None front is = (front, tt, refl)
front_says (Some held) front is =
    let found = is held refl in
    (found.0, says_all held found.0 found.1, ap script_of found.2 ∙ spells_alike found.0)

-- a script's replay, by the rules for its text; reading it changed nothing of the shelf
pub replay_by_script : (script : Program) (old mid new : ShelfSeen) (name : List ℕ) (how : Manner) → SpellsScript (old.file name) script → mid ≡ old
    → (output : ProgramOutput) → MayRun mid new script how output → MayReplay old new name how output
replay_by_script script old mid new name how spells same output may =
    let here = subst (λ (s : ShelfSeen). MayRun s new script how output) same may in
    inr (spells.0, spells.1, subst (λ (p : Judged Program). MayRunScript old new p how output) (sym spells.2) here)

pub refused_as : (number cause : ℕ) (why : Cause) (output : ProgramOutput) → cause ≡ cause_number why → Tells (Refused number cause) output
    → output ≡ script_refused (record { line = number; cause = why })
refused_as number cause why output same tells =
    tells ∙ ap (λ (n : ℕ). record { text = line (refusal_text number n); status = 3 }) same

pub replay_without : (none : NoScript) (old new : ShelfSeen) (name : List ℕ) (how : Manner) → IsMissing name old new none
    → (output : ProgramOutput) → Tells none output → MayReplay old new name how output
replay_without (Refused number cause) old new name how missing output tells =
    let (text, why, says, spells, is) = missing.0 in
    let refused : MayRunScript old new (fault_at number why) how output = (none_failed old new missing.1, refused_as number cause why output is tells) in
    inr (text, says, subst (λ (p : Judged Program). MayRunScript old new p how output) (sym spells) refused)
replay_without Failed old new name how missing output tells = inl (missing, tells)
replay_without NoMemory old new name how missing output tells = absurd tells

pub check_by_script : (script : Program) (old new : ShelfSeen) (name : List ℕ) → SpellsScript (old.file name) script → new ≡ old
    → MayCheck old new name (record { text = canonical script; status = 0 })
check_by_script script old new name spells same =
    let output : ProgramOutput = record { text = canonical script; status = 0 } in
    inr (none_failed old new same, spells.0, spells.1, subst (λ (p : Judged Program). output ≡ checked p) (sym spells.2) refl)

pub check_without : (none : NoScript) (old new : ShelfSeen) (name : List ℕ) → IsMissing name old new none
    → (output : ProgramOutput) → Tells none output → MayCheck old new name output
check_without (Refused number cause) old new name missing output tells =
    let (text, why, says, spells, is) = missing.0 in
    let refused = refused_as number cause why output is tells in
    inr (none_failed old new missing.1, text, says, subst (λ (p : Judged Program). output ≡ checked p) (sym spells) refused)
check_without Failed old new name missing output tells = inl (missing, tells)
check_without NoMemory old new name missing output tells = absurd tells

-- where memory was refused while a script was read, none failed
pub none_failed_without : (none : NoScript) (old new : ShelfSeen) (name : List ℕ) → IsMissing name old new none → none ≡ NoMemory → NoneFailed old new
none_failed_without (Refused number cause) old new name missing is = absurd (cc is)
none_failed_without Failed old new name missing is = absurd (cc is)
none_failed_without NoMemory old new name missing is = none_failed old new missing
