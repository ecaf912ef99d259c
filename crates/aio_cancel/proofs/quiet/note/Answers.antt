use Rattle.algorithm_parts.proofs.QuietLemmas.{put_sound, asked_if}
use Rattle.aio_cancel.specs.Noted.{noted}
use Rattle.aio_cancel.specs.Awaitables.{parts}
use Rattle.aio_cancel.proofs.quiet.note.Goals as goal

pub returns-in-Some-look_all : goal.returns-in-Some-look_all
returns-in-Some-look_all c = put_sound c.args.seen.now.visited (parts c.args.body.now) (noted c.args.notes.now)
    (noted c.put.new.self) c.args.id c.in-Some.asked c.in-Some-look_all.again c.requires c.in-Some.ensures c.in-Some-look_all.ensures
    (asked_if c.in-Some.asked c.in-Some-look_all.again c.if-not-again.either) c.put.ensures
