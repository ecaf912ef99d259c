-- A request with what is left to do on a stack, the next on top, which is last.
use Rattle.std.specs.Prelude.{ℕ, Bool, ◌||◌, List, [], ◌∷◌, drop, slice_get}
use Rattle.model_loop.specs.Parts.{Parts}
use Rattle.model_loop.specs.Futures.{made_before}
use Rattle.model_loop.specs.Cancel.{CancelRequest, answers, has_seen, cancel_each, cancel_with}
use Rattle.law_cancel.proofs.CancelCases.{asked_where, must_cancel_unless, cancel_task_where}
use Rattle.algorithm_parts.specs.Shape.{members_at}
use Rattle.algorithm_parts.specs.declared.walk.WalkFrame.{WalkFrame}
use Rattle.algorithm_parts.specs.declared.walk.WalkFrame.TheVariants.{Waits, Members}
use Rattle.algorithm_parts.specs.declared.walk.Go.{Go}
use Rattle.algorithm_parts.specs.declared.walk.Go.TheVariants.{Visit, Next, Answer}

-- an answer of some members joined to that of the others
abbrev pub joined : Bool → CancelRequest → CancelRequest
joined any request = record request { answer = any || request.answer }

abbrev pub ask_joined : ℕ → CancelRequest → CancelRequest
ask_joined id request = asked_where request.answer id request

-- the members that are left
abbrev pub rest_of : ℕ → ℕ → Parts → List ℕ
rest_of id place p = made_before id (drop place (members_at (slice_get p.futures id)))

abbrev pub next_of : ℕ → ℕ → Bool → List ℕ → Parts → CancelRequest
next_of id place any seen p = ask_joined id (joined any (cancel_each cancel_with (rest_of id place p) seen p))

abbrev pub finish : WalkFrame → CancelRequest → CancelRequest
finish (Waits id task) request = must_cancel_unless request.answer task request
finish (Members id place any) request = next_of id place (any || request.answer) request.seen request.parts

abbrev pub resume : List WalkFrame → CancelRequest → CancelRequest
resume [] request = request
resume (frame ∷ frames) request = finish frame (resume frames request)

abbrev pub now : Go → List ℕ → Parts → CancelRequest
now (Visit id) seen p = cancel_with id seen p
now (Next id place any) seen p = next_of id place any seen p
now (Answer answer) seen p = answers answer seen p

abbrev pub run : Go → List WalkFrame → List ℕ → Parts → CancelRequest
run go frames seen p = resume frames (now go seen p)

abbrev pub run_task : ℕ → List WalkFrame → List ℕ → Parts → CancelRequest
run_task task frames seen p = resume frames (cancel_task_where cancel_with (has_seen seen task) task seen p)
