-- Lines by what they are to the blocks around them.
use Rattle.std.specs.Prelude.{◌≡◌, map}
use Rattle.std.specs.Rc.{rc_str_bytes}
use Rattle.model_text.specs.Forms as form
use Rattle.model_text.specs.Places as places
use Rattle.model_text.specs.Places.{role_of}
use Rattle.model_text.specs.SecondPass.{Line}
use Rattle.model_text.specs.Bodies.{simple}
use Rattle.aio_program.specs.declared.sorted.Sorted.{Sorted}
use Rattle.aio_program.specs.declared.sorted.Sorted.TheVariants as sorted
use Rattle.aio_program.specs.declared.sorted.Head.{Head}
use Rattle.aio_program.specs.declared.sorted.Head.TheVariants as head
use Rattle.aio_program.specs.declared.sorted.Begin.{Begin}
use Rattle.aio_program.specs.declared.sorted.Begin.TheVariants as begin
use Rattle.aio_program.specs.Target.{plain_name}

abbrev pub plain_head : Head → Line
plain_head (head.Def name parameters) = form.Def (rc_str_bytes name) (map rc_str_bytes parameters.items)
plain_head (head.If test) = form.If test
plain_head (head.While test) = form.While test
plain_head head.Try = form.Try
plain_head (head.WithGroup name) = form.WithGroup (rc_str_bytes name)
plain_head (head.WithTimeout delay name) = form.WithTimeout delay (rc_str_bytes name)

abbrev pub plain_begin : Begin → Line
plain_begin begin.Else = form.Else
plain_begin (begin.Except kind name) = form.Except kind (plain_name name)
plain_begin begin.Finally = form.Finally

-- the line is sorted as what it is
abbrev pub IsSorted : Sorted → Line → Type 0
IsSorted (sorted.Opens head) line = line ≡ plain_head head
IsSorted (sorted.Begins begin) line = line ≡ plain_begin begin
IsSorted sorted.Closes line = line ≡ form.End
IsSorted (sorted.Stands statement) line = (role_of line ≡ places.Stands) × (simple line ≡ statement)
