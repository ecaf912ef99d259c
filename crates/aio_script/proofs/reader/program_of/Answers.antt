use Rattle.std.proofs.Common.{map}
use Rattle.model_text.specs.SecondPass.{parts_of}
use Rattle.script_term.specs.Spelled.{plain_numbered}
use Rattle.aio_script.proofs.Reading.{from_parts}
use Rattle.aio_script.proofs.reader.program_of.Goals as goal

pub returns-clause-program : goal.returns-clause-program
returns-clause-program c =
    from_parts c.args.last c.profile_of.result
    (parts_of (map plain_numbered c.args.forms.now)) c.in_ok-parts.parts.items c.in_ok-coroutines_of.field-0.items
    c.new.result c.in_ok-parts.ensures c.profile_of.ensures c.in_ok-coroutines_of.ensures c.new.ensures
