-- Which posts are items, and what a child's record notes of each post.
use Rattle.std.specs.Prelude.{ℕ, ◌+◌, true, List, [], ◌∷◌, Option, Some, None}
use Rattle.std.specs.List.{flat_map}
use Rattle.model_pump.specs.Posts.{Post, PostKind}
use Rattle.model_value.specs.declared.action.ChildItem.{ChildItem}
use Rattle.model_value.specs.declared.action.ChildItem.TheVariants as news
use Rattle.model_wire.specs.Call.{Item}
use Rattle.model_wire.specs.declared.item.Item.TheVariants as item
use Rattle.model_hub.specs.declared.pump.Pump.{Pump}
use Rattle.model_hub.specs.declared.pump.Pump.TheVariants as pump
use Rattle.model_pump.specs.declared.stream.Stream.TheVariants as stream
use Rattle.model_pump.specs.declared.post.PostKind.TheVariants as post
use Rattle.model_hub.specs.declared.child.Child.{Child}
use Rattle.model_hub.specs.declared.child.Flow.{Flow}
use Rattle.model_hub.specs.Children.{pump_of}

-- What a post on the seat of this pump tells of its child. Other posts tell nothing.
abbrev pub told_by : Pump → PostKind → Option (ChildItem (List ℕ))
told_by pump.Out (post.Piece stream.Out offset bytes) = Some (news.Out bytes)
told_by pump.Out (post.End stream.Out) = Some news.OutEnd
told_by pump.Errs (post.Piece stream.Errs offset bytes) = Some (news.Errs bytes)
told_by pump.Errs (post.End stream.Errs) = Some news.ErrsEnd
told_by pump.Exit (post.Exit code) = Some (news.Exit code)
told_by any post.Broken = Some news.Broken
told_by _ _ = None

abbrev pub items_of : ℕ → Option (ChildItem (List ℕ)) → List Item
items_of child None = []
items_of child (Some told) = item.Child child told ∷ []

abbrev pub items_from : ℕ → PostKind → Option Pump → List Item
items_from child kind None = []
items_from child kind (Some from) = items_of child (told_by from kind)

-- what a post tells: at most one item, since a seat is lent to one child
abbrev pub told_of : List Child → Post → List Item
told_of children came = flat_map (λ (child : Child). items_from child.number came.kind (pump_of came.seat child)) children

abbrev pub after_piece : Flow → Flow
after_piece flow = record flow { pieces = flow.pieces + 1 }

abbrev pub after_end : Flow → Flow
after_end flow = record flow { ended = true }

abbrev pub note_from : Pump → PostKind → Child → Child
note_from pump.Out (post.Piece stream.Out offset bytes) child = record child { out = after_piece child.out }
note_from pump.Out (post.End stream.Out) child = record child { out = after_end child.out }
note_from pump.Errs (post.Piece stream.Errs offset bytes) child = record child { errs = after_piece child.errs }
note_from pump.Errs (post.End stream.Errs) child = record child { errs = after_end child.errs }
note_from pump.Exit (post.Exit code) child = record child { exited = true }
note_from any post.Room child = record child { rooms = child.rooms + 1 }
note_from any post.Broken child = record child { broken = true }
note_from _ _ child = child

abbrev pub note_by : Option Pump → PostKind → Child → Child
note_by None kind child = child
note_by (Some from) kind child = note_from from kind child

-- a child after a post, which may be another's
abbrev pub note : Post → Child → Child
note came child = note_by (pump_of came.seat child) came.kind child
