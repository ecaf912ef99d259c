use Rattle.std.proofs.Common.{◌≡◌, map, take}
use Rattle.std.specs.Rc.{rc_str_bytes}
use Rattle.model_value.specs.Value.{Text}
use Rattle.aio_written.proofs.writing.push_launch.Given as goal

abbrev pub invariant-loop-word : goal.invariant-loop-word
invariant-loop-word l = l.texts.items ≡ map Text (map rc_str_bytes (take l.word-index l.word-items))
