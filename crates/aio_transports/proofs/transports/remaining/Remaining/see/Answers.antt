use Rattle.std.proofs.Common.{◌++◌, ℕ, List, length, ◌∙◌, ap, sym}
use Rattle.std.proofs.lemmas.List.{length-map, map-append}
use Rattle.model_stream.specs.Streams.{Opened as PlainOpened}
use Rattle.aio_stream.specs.Kept.{all_opened, opened_as}
use Rattle.aio_transports.specs.Kept.{Remaining, remaining_of, since}
use Rattle.aio_transports.proofs.transports.remaining.Remaining.see.Goals as goal

pub returns : goal.returns
returns c =
    let i = c.self.inside in
    let opened = all_opened c.args.opened.now in
    ap (λ (those : List PlainOpened). remaining_of those (length c.args.opened.now))
    (ap all_opened c.in_ok-extend_from_slice.ensures.items
    ∙ map-append opened_as i.those.items c.since-since.result.now
    ∙ ap (λ (xs : List PlainOpened). all_opened i.those.items ++ xs) c.since-since.ensures)
    ∙ ap (λ (n : ℕ). remaining_of (all_opened i.those.items ++ since opened c.args.self.now) n)
    (sym (length-map c.args.opened.now opened_as))
    ∙ ap (λ (r : Remaining). remaining_of (r.those ++ since opened c.args.self.now) (length opened)) c.self.view_is
