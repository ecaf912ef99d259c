use Rattle.std.proofs.Common.{◌≡◌, ◌++◌, map, take}
use Rattle.aio_gather.specs.declared.drawn.Drawn.TheVariants as drawn
use Rattle.aio_gather.proofs.gather.Gather.tell_all.Given as goal

abbrev pub invariant-loop-id : goal.invariant-loop-id
invariant-loop-id l =
    l.self.drawn.items ≡ l.initial.self.drawn.items ++ map (λ id. drawn.Tells l.place id) (take l.id-index l.ids)
