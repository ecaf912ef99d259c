-- What a task's step asks for, all along: each request that it makes is fit, and it ends with no block of a group open. That
-- is so where its tape says which blocks are open.
use Rattle.std.specs.Prelude.{◌≡◌, ℕ, zero, suc, Bool, true, false}
use Rattle.model_value.specs.declared.input.Input.TheVariants.{Send, Throw}
use Rattle.model_value.specs.Input.{Input}
use Rattle.model_says.specs.Endings.{Saying, Asks, Returns, Raises as Raised, Runaway}
use Rattle.model_loop.specs.Groups.{group_of}
use Rattle.model_loop.specs.Tasks.{begin_step}
use Rattle.model_machine.specs.Extra.{Extra}
use Rattle.model_machine.specs.Replies.{RequestReply, Answers, Raises, Suspends, Halts, decides, reply}
use Rattle.model_machine.specs.State.{Asked, State, generator_of, resumed, stands, unbooked_in}
use Rattle.model_machine.specs.Step.{given_up, most_answers, says_of}
use Rattle.law_turns.specs.Replied.{HasPlainFutures, IsFit}

-- the task is the parent of no group whose block is open
abbrev pub HasNoOpenGroup : {S : Type 0} → ℕ → State S → Type 0
HasNoOpenGroup task s =
    (id : ℕ) → (group_of s.loop id).entered ≡ true → (group_of s.loop id).ended ≡ false
    → task ≡ (group_of s.loop id).parent → ⊥

-- what comes after an answer
abbrev pub FitsAfter : {S : Type 0} → (State S → Type 0) → (fresh : Bool) → ℕ → RequestReply S → Type 0
FitsAfter then_ fresh task (Answers value now) = then_ (resumed fresh task (Send value) now)
FitsAfter then_ fresh task (Raises fault now) = then_ (resumed fresh task (Throw fault) now)
FitsAfter then_ fresh task (Suspends now) = Unit {0}
FitsAfter then_ fresh task (Halts end last) = Unit {0}

module _ {S : Type 0} (limit : ℕ) (added : Extra S) (task : ℕ) where
  abbrev pub FitsSaying : (State S → Type 0) → Saying → State S → Type 0
  FitsSaying then_ (Asks request) s =
      IsFit request s × HasPlainFutures s × FitsAfter then_ false task (reply added task request s)
  FitsSaying then_ (Returns value) s = HasNoOpenGroup task s
  FitsSaying then_ (Raised fault) s = HasNoOpenGroup task s
  FitsSaying then_ Runaway s = Unit {0}

  -- of a step that is answered at most so often
  unfoldable pub FitsWithin : (answers : ℕ) → State S → Type 0
  FitsWithin zero s = Unit {0}
  FitsWithin (suc answers) s = FitsSaying (FitsWithin answers) (says_of limit added task s) s

  abbrev pub FitsAll : State S → Type 0
  FitsAll s = FitsWithin (most_answers limit (generator_of task s).tape) s

  -- of a whole step
  abbrev pub FitsStep : Input → State S → Type 0
  FitsStep input s =
      let resume_point = (generator_of task s).resume_point in
      let begun = begin_step task input (given_up resume_point s.loop.parts) in
      FitsAfter FitsAll true task
      (decides added resume_point task begun.input (stands Asked task (unbooked_in (λ p. begun.parts) s)))
