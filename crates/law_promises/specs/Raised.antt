-- What the exit of a group comes to, by all that failed in it.
use Rattle.std.specs.Prelude.{◌≡◌, ◌⊎◌, true, List, [], ◌++◌, ℕ, Some}
use Rattle.model_value.specs.Value.{Exc}
use Rattle.model_loop.specs.Children.{failures}
use Rattle.model_loop.specs.Groups.{GroupExit, Waits, Passes, Raises, Exited, body_failure, exception_group, group_of}
use Rattle.model_loop.specs.Loop.{Group, Loop}

-- the failures of the tasks of which the group was told, in that order, and last the body's
abbrev pub all_failures : (told : List ℕ) → (id : ℕ) → Loop → List Exc
all_failures told id l = failures l.parts told ++ body_failure (group_of l id).body

abbrev pub RaisesAll : (failed : List Exc) → Exc → Type 0
RaisesAll failed fault = (failed ≡ [] → ⊥) × (fault ≡ exception_group failed)

-- It waits, or it has ended. Then it raises all that failed together, and where nothing did, what the group kept, if it kept
-- something.
abbrev pub AnswersFor : (failed : List Exc) → Group → GroupExit → Type 0
AnswersFor failed group (Waits on) = Unit {0}
AnswersFor failed group Passes = (group.ended ≡ true) × (failed ≡ [])
AnswersFor failed group (Raises fault) =
    (group.ended ≡ true) × (RaisesAll failed fault ⊎ ((failed ≡ []) × (group.kept ≡ Some fault)))

abbrev pub RaisesWhatFailed : (told : List ℕ) → (id : ℕ) → Exited → Type 0
RaisesWhatFailed told id it =
    AnswersFor (all_failures told id it.loop) (group_of it.loop id) it.answer
