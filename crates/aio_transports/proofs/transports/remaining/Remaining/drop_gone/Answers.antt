use Rattle.std.proofs.Common.{◌≡◌, Bool, not, List, ◌∙◌, ap, rules}
use Rattle.std.specs.List.{filter}
use Rattle.std.proofs.lemmas.Fn.{filter_same}
use Rattle.model_stream.specs.Streams.{Opened as PlainOpened}
use Rattle.aio_stream.specs.declared.opened.Opened.{Opened}
use Rattle.aio_stream.specs.Kept.{all_opened, opened_as}
use Rattle.aio_transports.specs.Kept.{Remaining, remaining_of}
use Rattle.aio_transports.specs.Watched.{gone_of, without_gone}
use Rattle.aio_transports.proofs.Filtering.{all_filtered}
use Rattle.aio_transports.proofs.transports.remaining.Remaining.drop_gone.Goals as goal

pub returns : goal.returns
returns c =
    let streams = c.args.streams.now in
    let children = c.args.children.now in
    let i = c.self.inside in
    let stays : PlainOpened → Bool = λ one. not (gone_of streams children one) in
    let left : c.retain.new.self.items ≡ filter (λ (one : Opened). stays (opened_as one)) i.those.items =
    filter_same _ (λ (one : Opened). stays (opened_as one)) _ (λ x b f k. search rules) _ _ c.retain.ensures.filtered in
    ap (λ (those : List PlainOpened). remaining_of those i.seen) (ap all_opened left ∙ all_filtered stays i.those.items)
    ∙ ap (λ (r : Remaining). without_gone streams children r) c.self.view_is
