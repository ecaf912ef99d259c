-- What was read of a script, or why there is none, by what the shelf tells of its file.
use Rattle.std.specs.Prelude.{◌≡◌, ℕ, List, ◌++◌, Option, Ok, codes}
use Rattle.std.specs.Fmt.{decimal}
use Rattle.model_tree.specs.Syntax.{Program}
use Rattle.model_text.specs.declared.cause.Cause.{Cause}
use Rattle.model_text.specs.Causes.{cause_number}
use Rattle.model_text.specs.FirstPass.{fault_at}
use Rattle.model_text.specs.Scripts.{script_of}
use Rattle.model_wire.specs.Told.{ShelfSeen, FileFailed}
use Rattle.model_wire.specs.Trace.{line}
use Rattle.model_program.specs.Written.{ProgramOutput}
use Rattle.model_program.specs.Program.{FileSays, script_failed}
use Rattle.aio_run.specs.declared.script.NoScript.{NoScript}
use Rattle.aio_run.specs.declared.script.NoScript.TheVariants.{Refused, Failed, Memory}

-- the file says a text that spells this script
abbrev pub SpellsScript : Option (Option (List ℕ)) → Program → Type 0
SpellsScript told script = (text : List ℕ) × FileSays told text × (script_of text ≡ Ok script)

-- the file says a text with this first fault
abbrev pub HasFault : Option (Option (List ℕ)) → ℕ → ℕ → Type 0
HasFault told number cause =
    (text : List ℕ) × (why : Cause) × FileSays told text × (script_of text ≡ fault_at number why) × (cause ≡ cause_number why)

-- There is no script: its text is refused, its file failed, or memory was refused. Only its file failed, if any.
abbrev pub IsMissing : List ℕ → ShelfSeen → ShelfSeen → NoScript → Type 0
IsMissing name old new (Refused number cause) = HasFault (old.file name) number cause × (new ≡ old)
IsMissing name old new Failed = FileFailed name old new
IsMissing name old new Memory = new ≡ old

abbrev pub refusal_text : ℕ → ℕ → List ℕ
refusal_text number cause = codes "! script " ++ decimal number ++ codes " " ++ decimal cause

-- what is written where there is no script
abbrev pub Tells : NoScript → ProgramOutput → Type 0
Tells (Refused number cause) output = output ≡ record { text = line (refusal_text number cause); status = 3 }
Tells Failed output = output ≡ script_failed
Tells Memory output = ⊥
