-- The slot that is held.
use Rattle.std.specs.Prelude.{ℕ, None, Some}
use Rattle.model_wire.specs.declared.event.Handed.TheVariants as to
use Rattle.aio_body.specs.declared.held.Kind.{Kind}
use Rattle.aio_body.specs.declared.held.Kind.TheVariants as kind
use Rattle.aio_body.specs.declared.held.Room.{Room}
use Rattle.aio_body.specs.declared.held.Room.TheVariants as room
use Rattle.aio_body.specs.declared.resume_point.Slot.{Slot}
use Rattle.aio_body.specs.declared.resume_point.ResumePoint.{ResumePoint}
use Rattle.aio_body.specs.declared.resume_point.ResumePoint.TheVariants.{Asked, Leaving, Yielding}

abbrev pub standing_in : Kind → ℕ → ResumePoint
standing_in kind.Asked number = Asked
standing_in kind.Leaving number = Leaving number
standing_in kind.YieldingConn number = Yielding (to.Conn number)
standing_in kind.YieldingChild number = Yielding (to.Child number)

abbrev pub slot_in : Room → Slot
slot_in (room.Empty it number) = record { coroutine = None; resume_point = standing_in it number }
slot_in (room.Runs it number coroutine) = record { coroutine = Some coroutine; resume_point = standing_in it number }
slot_in (room.Far slot) = slot.value
