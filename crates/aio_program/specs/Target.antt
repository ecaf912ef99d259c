-- What `yield from` hands over to, what `with` enters, names and branches, as plain data.
use Rattle.std.specs.Prelude.{List, Option, Some, None, option_map}
use Rattle.std.specs.declared.rc.RcStr.{RcStr}
use Rattle.std.specs.declared.alloc.Global.{Global}
use Rattle.std.specs.Rc.{rc_str_bytes}
use Rattle.model_tree.specs.Syntax as plain
use Rattle.model_tree.specs.Syntax.{Name, exprs, statements, Branch, no_branch, branch}
use Rattle.aio_program.specs.declared.target.Target.{Target}
use Rattle.aio_program.specs.declared.target.Target.TheVariants as target
use Rattle.aio_program.specs.declared.target.Manager.{Manager}
use Rattle.aio_program.specs.declared.target.Manager.TheVariants as manager

abbrev pub plain_name : Option (RcStr Global) → Option Name
plain_name name = option_map rc_str_bytes name

abbrev pub plain_target : Target → plain.Target
plain_target (target.Await name) = plain.Await (rc_str_bytes name)
plain_target (target.Call coroutine arguments) = plain.Call (rc_str_bytes coroutine) (exprs arguments)
plain_target (target.Ask request arguments) = plain.Ask request (exprs arguments)
plain_target (target.SpawnTask coroutine arguments) = plain.SpawnTask (rc_str_bytes coroutine) (exprs arguments)
plain_target (target.CreateTask group coroutine arguments) =
    plain.CreateTask group (rc_str_bytes coroutine) (exprs arguments)
plain_target (target.ListenAt port handler) = plain.ListenAt port (rc_str_bytes handler)

abbrev pub plain_manager : Manager → plain.Manager
plain_manager manager.Group = plain.GroupBlock
plain_manager (manager.Timeout delay) = plain.TimeoutBlock delay

abbrev pub plain_branch : Option (List plain.Statement) → Branch
plain_branch None = no_branch
plain_branch (Some body) = branch (statements body)
