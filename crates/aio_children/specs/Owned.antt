-- The futures of children, none of which is a task's.
use Rattle.std.specs.List.{AllByRecursion as Each}
use Rattle.aio_task.specs.View.{View}
use Rattle.aio_child.specs.Owned.{OwnsChild}
use Rattle.aio_children.specs.Kept.{Kept}

abbrev pub OwnsChildren : View → Kept → Type 0
OwnsChildren v k = Each (OwnsChild v) k.children
