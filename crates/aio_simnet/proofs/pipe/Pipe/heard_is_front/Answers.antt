use Rattle.std.proofs.Common.{drop, sym}
use Rattle.std.proofs.lemmas.List.{take-append-drop}
use Rattle.aio_simnet.proofs.pipe.Pipe.heard_is_front.Goals as goal

pub returns : goal.returns
returns c =
    rw (← c.self.view_is)
    (drop c.self.inside.heard c.self.inside.bytes.items, sym (take-append-drop c.self.inside.heard c.self.inside.bytes.items))
