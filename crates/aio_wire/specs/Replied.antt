-- What a wire may reply, by what is seen of it before and after.
use Rattle.std.specs.Prelude.{◌≡◌, ℕ, ◌≤◌, Bool, true, List, [], ◌∷◌, ◌++◌, Option, Some, None, ◌⊎◌}
use Rattle.model_wire.specs.declared.event.Handed.{Handed}
use Rattle.model_wire.specs.Call.{Call}
use Rattle.model_wire.specs.Event.{handed_by}
use Rattle.model_wire.specs.Fits.{fits}
use Rattle.model_wire.specs.Journal.{Entry, Answered, Refused}
use Rattle.model_wire.specs.Told.{Agrees, Rose, WireSeen, WireEnd, Going, OutOfAnswers, AtRefused}
use Rattle.aio_wire.specs.Told.{refused_of}
use Rattle.aio_wire.specs.declared.wire.Reply.{Reply}
use Rattle.aio_wire.specs.declared.wire.Reply.TheVariants.{Got, Over, Bad, Failed}

-- Nothing is taken away between two moments; more may be told.
abbrev pub Kept : Option (List Entry) → Option (List Entry) → Type 0
Kept old new = (rest : List Entry) → Agrees new rest → Agrees old rest

-- An answer is the first of those that are left, and is then gone; the others take nothing away.
abbrev pub ReplyLeaves : Option (List Entry) → Option (List Entry) → Reply → Type 0
ReplyLeaves old new (Got answer) = (rest : List Entry) → Agrees new rest → Agrees old (Answered answer ∷ rest)
ReplyLeaves old new Over = Agrees old [] × Kept old new
ReplyLeaves old new (Bad fault) = ((rest : List Entry) × Agrees old (refused_of fault ∷ rest)) × Kept old new
ReplyLeaves old new Failed = Kept old new

-- a wire fails only where its count of faults rose in the call
abbrev pub FailedIfRose : ℕ → ℕ → Reply → Type 0
FailedIfRose before now (Got answer) = Unit {0}
FailedIfRose before now Over = Unit {0}
FailedIfRose before now (Bad fault) = Unit {0}
FailedIfRose before now Failed = Rose before now

-- a wire has ended in the way that it replies
abbrev pub EndsAs : WireEnd → Reply → Type 0
EndsAs end (Got answer) = Unit {0}
EndsAs end Over = end ≡ OutOfAnswers
EndsAs end (Bad fault) = end ≡ AtRefused fault.line fault.cause
EndsAs end Failed = Unit {0}

-- an answer of a fitting wire fits its call
abbrev pub FitsCall : Bool → Call → Reply → Type 0
FitsCall fitting call (Got answer) = fitting ≡ true → fits call answer ≡ true
FitsCall fitting call Over = Unit {0}
FitsCall fitting call (Bad fault) = Unit {0}
FitsCall fitting call Failed = Unit {0}

-- what is told of the calls that were asked, after one more
abbrev pub asked_after : Option (List Call) → Call → Option (List Call)
asked_after None call = None
asked_after (Some calls) call = Some (calls ++ call ∷ [])

-- what is told of the bytes that were handed, after a reply: an answer that takes bytes of a send or a feed adds them
abbrev pub handed_after : Option (Handed → List ℕ) → Call → Reply → Option (Handed → List ℕ)
handed_after None call reply = None
handed_after (Some held) call (Got answer) = Some (λ to. held to ++ handed_by to call answer)
handed_after (Some held) call Over = Some held
handed_after (Some held) call (Bad fault) = Some held
handed_after (Some held) call Failed = Some held

-- A wire replied to a call.
pub record Replied (call : Call) (old new : WireSeen) (reply : Reply) : Type 0 where
  -- an answer is the first of those that are left, and is then gone
  pub left : ReplyLeaves old.left new.left reply
  -- `Over` and `Bad` come only where the wire has so ended
  pub ends : EndsAs new.end reply
  -- an answer of a fitting wire fits
  pub fits : FitsCall old.fitting call reply
  -- the call was asked
  pub asked : new.asked ≡ asked_after old.asked call
  -- the bytes that the answer takes were handed
  pub handed : new.handed ≡ handed_after old.handed call reply
  -- it failed only where its count rose
  pub failed : FailedIfRose old.faults new.faults reply

-- a call that had no reply was asked or wasn't, and no byte was handed
abbrev pub Unreplied : Call → WireSeen → WireSeen → Type 0
Unreplied call old new = ((new.asked ≡ asked_after old.asked call) ⊎ (new.asked ≡ old.asked)) × (new.handed ≡ old.handed)

-- where memory was refused after a call was begun, it had no reply or it had one
abbrev pub MayHaveReplied : Call → WireSeen → WireSeen → Type 0
MayHaveReplied call old new = Unreplied call old new ⊎ ((said : Reply) × Replied call old new said)

-- whatever came, whether it is fitting stays, and its count didn't fall
abbrev pub Stays : WireSeen → WireSeen → Type 0
Stays old new = (new.fitting ≡ old.fitting) × (old.faults ≤ new.faults)

-- a fact that holds unless the wire failed
abbrev pub UnlessFailed : Type 0 → Reply → Type 0
UnlessFailed fact (Got answer) = fact
UnlessFailed fact Over = fact
UnlessFailed fact (Bad fault) = fact
UnlessFailed fact Failed = Unit {0}

-- A wire's end beside what it tells of the entries that are left.
abbrev pub EndAgrees : WireEnd → Option (List Entry) → Type 0
EndAgrees Going told = Unit {0}
EndAgrees OutOfAnswers told = Agrees told []
EndAgrees (AtRefused line cause) told = (rest : List Entry) × Agrees told (Refused line cause ∷ rest)
