-- What is asked of locks, events and queues, one try after another, and what each comes to.
use Rattle.std.specs.Prelude.{ℕ, ℤ, pos, Bool, true, false, List, [], ◌∷◌, ◌++◌, Option, Some, None, if◌then◌else◌}
use Rattle.model_value.specs.Input.{Input}
use Rattle.model_value.specs.Value.{Value}
use Rattle.model_loop.specs.Loop.{Loop}
use Rattle.model_machine.specs.Extra.{ExtraAnswer, ExtraSaid}
use Rattle.model_reach.specs.Part.{can_draw, place_of}
use Rattle.model_sync.specs.Synced.{Acquires, Awaits, Gets, Puts, Synced, Waiting, sync_part, waiting_at}
use Rattle.model_sync.specs.Serving.{Acquire, Get, Put, Wait, Wanted, asked_for, wanted_of, woken}

-- A task asks; or its request that waited goes on, under its key, with what the wait came to. Each in the loop as it is then.
pub data Try : Type 0 where
  Asks : (code : ℤ) (arguments : List Value) (l : Loop) → Try
  GoesOn : (key : ℕ) (input : Input) (l : Loop) → Try

abbrev pub loop_of : Try → Loop
loop_of (Asks code arguments l) = l
loop_of (GoesOn key input l) = l

-- what the definitions say of it
abbrev pub said_of : Try → Synced → ExtraSaid Synced
said_of (Asks code arguments l) kept = asked_for code (wanted_of code arguments) l.parts kept
said_of (GoesOn key input l) kept = let place = place_of sync_part key in woken (waiting_at place kept) key place input l.parts kept

-- what is kept after all of them
abbrev pub kept_after : List Try → Synced → Synced
kept_after [] kept = kept
kept_after (it ∷ tries) kept = kept_after tries (said_of it kept).call.state

-- ---- requests and their answers
-- A request has a number, in order of asking.
pub record Reply : Type 0 where
  pub number : ℕ
  pub wanted : Wanted
  -- it waited before
  pub waited : Bool
  pub answer : ExtraAnswer

-- what a request wants that waits
abbrev pub wanted_by : Waiting → Wanted
wanted_by (Acquires lock on) = Acquire (pos lock)
wanted_by (Awaits event on) = Wait (pos event)
wanted_by (Puts queue value on) = Put (pos queue) value
wanted_by (Gets queue on) = Get (pos queue)

abbrev pub asked_reply : Option (Option Wanted) → ExtraAnswer → Synced → List Reply
asked_reply None answer kept = []
asked_reply (Some None) answer kept = []
asked_reply (Some (Some wanted)) answer kept =
    if can_draw sync_part kept.drawn 1 then record { number = kept.drawn; wanted = wanted; waited = false; answer = answer } ∷ [] else []

abbrev pub woken_reply : Option Waiting → (place : ℕ) → ExtraAnswer → List Reply
woken_reply None place answer = []
woken_reply (Some it) place answer = record { number = place; wanted = wanted_by it; waited = true; answer = answer } ∷ []

-- A list that asks for nothing, one for which no key is left, and a key under which nobody waits, are no request.
abbrev pub reply_to : Try → Synced → List Reply
reply_to (Asks code arguments l) kept = asked_reply (wanted_of code arguments) (said_of (Asks code arguments l) kept).answer kept
reply_to (GoesOn key input l) kept =
    let place = place_of sync_part key in woken_reply (waiting_at place kept) place (said_of (GoesOn key input l) kept).answer

-- all of them, in order
abbrev pub replies : List Try → Synced → List Reply
replies [] kept = []
replies (it ∷ tries) kept = reply_to it kept ++ replies tries (said_of it kept).call.state
