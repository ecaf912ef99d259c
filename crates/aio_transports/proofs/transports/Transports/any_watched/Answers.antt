use Rattle.std.proofs.Common.{List, [], get_or, ◌∙◌, refl, sym}
use Rattle.std.specs.List.{flat_map}
use Rattle.model_wire.specs.declared.watch.Watch.{Watch}
use Rattle.model_stream.specs.Streams.{Opened as PlainOpened}
use Rattle.aio_stream.specs.declared.opened.Opened.TheVariants as opened
use Rattle.aio_stream.specs.Kept.{all_opened, opened_as}
use Rattle.aio_transports.specs.Watched.{watched_of}
use Rattle.aio_transports.proofs.Watches.{no_entry, none_watched, some_entry, some_watched, watched_more, watched_whole}
use Rattle.aio_transports.proofs.transports.Transports.any_watched.Goals as goal

pub returns-then-is_some : goal.returns-then-is_some
returns-then-is_some c =
    let f : PlainOpened → List Watch = watched_of c.args.self.now in
    let xs = c.args.those.now in
    let i = c.loop-one.one-index in
    some_watched f xs i (opened.Server 0) (flat_map f (all_opened xs)) c.loop-one-test.true
    (some_entry c.watched.result (f (opened_as (get_or xs i (opened.Server 0)))) (sym c.is_some.ensures
    ∙ c.if-is_some.true) c.watched.ensures)
    refl

pub loop-one-preserved : goal.loop-one-preserved
loop-one-preserved c =
    let f : PlainOpened → List Watch = watched_of c.args.self.now in
    let xs = c.args.those.now in
    let i = c.loop-one.one-index in
    sym (watched_more f xs i (opened.Server 0) [] [] [] [] c.loop-one-test.true (sym c.loop-one.invariant)
    (sym (no_entry c.watched.result (f (opened_as (get_or xs i (opened.Server 0)))) (sym c.is_some.ensures
    ∙ c.if-is_some.false) c.watched.ensures))
    refl)

pub returns : goal.returns
returns c =
    let f : PlainOpened → List Watch = watched_of c.args.self.now in
    let xs = c.args.those.now in
    none_watched (flat_map f (all_opened xs))
    (sym (watched_whole f xs c.loop-one.one-index [] [] c.loop-one-test.false (sym c.loop-one.invariant)))
