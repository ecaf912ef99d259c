use Rattle.std.proofs.Common.{◌≡◌, take, map, fold}
use Rattle.std.specs.Rc.{rc_str_bytes}
use Rattle.model_says.specs.Variables.{with_name}
use Rattle.aio_flat.specs.Known.{Knows}
use Rattle.aio_flat.proofs.variables.variables_of.Given as goal

abbrev pub invariant-loop-parameter : goal.invariant-loop-parameter
invariant-loop-parameter l = record {
  names : l.names.items ≡ map rc_str_bytes (take l.parameter-index l.parameter-items);
  known : Knows l.known l.names.items;
}

abbrev pub invariant-loop-name : goal.invariant-loop-name
invariant-loop-name l = record {
  names : l.names.items ≡ fold with_name l.initial.names.items (take l.name-index l.name-items);
  known : Knows l.known l.names.items;
}
