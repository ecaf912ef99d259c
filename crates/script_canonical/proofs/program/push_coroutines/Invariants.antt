use Rattle.std.proofs.Common.{◌≡◌, ◌++◌, take}
use Rattle.model_text.specs.Canonical.{coroutines_text}
use Rattle.script_canonical.proofs.program.push_coroutines.Given as goal

abbrev pub invariant-loop-coroutine : goal.invariant-loop-coroutine
invariant-loop-coroutine l =
    l.out.items ≡ l.initial.out.items ++ coroutines_text (take l.coroutine-index l.coroutines)
