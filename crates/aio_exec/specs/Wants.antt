-- What a list asks for, in code and in the definitions.
use Rattle.model_exec.specs.Serving as plain
use Rattle.aio_exec.specs.declared.wanted.Wanted.{Wanted}

abbrev pub wanted_as : Wanted → plain.Wanted
wanted_as it = record { kind = it.kind; input = it.input.now }
