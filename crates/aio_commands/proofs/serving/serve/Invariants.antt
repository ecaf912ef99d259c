use Rattle.std.proofs.Common.{◌≡◌}
use Rattle.aio_roster.specs.Rosters.{Numbered, running_of}
use Rattle.aio_roster.specs.Changes.{LeavesFree}
use Rattle.aio_commands.proofs.Passing.{Going}
use Rattle.aio_commands.proofs.serving.serve.Given as goal

abbrev pub invariant-loop-k : goal.invariant-loop-k
invariant-loop-k g l =
    Going l.watch l.k l.initial.roster.children l.roster.children (g.H.Heads.seen l.initial.heads) (g.H.Heads.seen l.heads)
    × (running_of l.roster.children ≡ running_of l.initial.roster.children)
    × (l.roster.noted ≡ l.initial.roster.noted)
    × LeavesFree l.initial.roster.children l.roster.children
    × Numbered l.roster.children
