-- What a task stands at that takes few bytes.
use Rattle.aio_body.specs.declared.resume_point.Near.{Near}
use Rattle.aio_body.specs.declared.resume_point.Near.TheVariants as near
use Rattle.aio_body.specs.declared.resume_point.ResumePoint.{ResumePoint}
use Rattle.aio_body.specs.declared.resume_point.ResumePoint.TheVariants.{Leaving, Yielding}

abbrev pub standing_of : Near → ResumePoint
standing_of (near.Leaving group) = Leaving group
standing_of (near.Yielding whom) = Yielding whom
