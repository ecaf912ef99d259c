use Rattle.std.proofs.Common.{List, ◌∷◌, subst}
use Rattle.model_pump.specs.Posts.{PostKind}
use Rattle.aio_hub.specs.Plays.{PostsFront}
use Rattle.aio_hub.proofs.Plays.{posts_one}
use Rattle.aio_hub.proofs.play.play.Goals as goal

pub loop-kind-preserved : goal.loop-kind-preserved
loop-kind-preserved g c =
    let had : PostsFront c.from-left.result.items (c.in-Some.kind ∷ c.pop_front.new.self.items) c.args.poster
    c.loop-kind.seat c.loop-kind.moved c.loop-kind.ending =
    subst
    (λ (xs : List PostKind).
    PostsFront c.from-left.result.items xs c.args.poster c.loop-kind.seat c.loop-kind.moved c.loop-kind.ending)
    c.in-Some.ensures.items c.loop-kind.invariant in
    posts_one c.from-left.result.items c.pop_front.new.self.items c.in-Some.kind c.args.poster c.loop-kind.seat c.post.new.poster
    c.loop-kind.moved c.bytes_moved-size.result c.saturating_add-moved.result c.loop-kind.ending c.ending_by-by.result had
    c.in-Posted.ensures.answers.1 c.bytes_moved-size.ensures c.saturating_add-moved.ensures c.ending_by-by.ensures
