-- Why moves come to an end: every move but a jump takes a statement, a handler or a frame away, and jumps go forward.
use Rattle.std.specs.Prelude.{ℕ, ◌+◌, ◌*◌, ◌-◌, ◌<◌, List, [], ◌∷◌}
use Rattle.algorithm_flat.specs.declared.op.Op.TheVariants as op
use Rattle.algorithm_flat.specs.declared.open_handler.OpenHandler.TheVariants.{InTry, InClause, InFinally, InWith, AtExit}
use Rattle.algorithm_flat.specs.Ops.{CoroutineCode, Has}
use Rattle.algorithm_flat.specs.Moves.{OpenHandler, Frame, Frames}

abbrev pub JumpsForward : CoroutineCode → Type 0
JumpsForward code = (place to : ℕ) → Has code place (op.Jump to) → place < to

-- how often a handler may yet be met
abbrev pub handler_weight : OpenHandler → ℕ
handler_weight (InTry number) = 3
handler_weight (InClause number) = 2
handler_weight (InFinally way) = 1
handler_weight (InWith number entered) = 3
handler_weight (AtExit entered way) = 2

abbrev pub handlers_weight : List OpenHandler → ℕ
handlers_weight [] = 0
handlers_weight (handler ∷ handlers) = handler_weight handler + handlers_weight handlers

abbrev pub callers_weight : List Frame → ℕ
callers_weight [] = 0
callers_weight (frame ∷ frames) = 1 + handlers_weight frame.handlers + callers_weight frames

abbrev pub frames_weight : Frames → ℕ
frames_weight frames = 4 * frames.left + handlers_weight frames.frame.handlers + callers_weight frames.callers

-- how far the end is, where no body has more operations
abbrev pub distance : (size : ℕ) → Frames → ℕ
distance size frames = frames_weight frames * (size + 1) + (size - frames.frame.place)
