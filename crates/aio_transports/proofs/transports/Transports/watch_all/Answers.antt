use Rattle.std.proofs.Common.{List, [], ◌∷◌, append-nil, ◌∙◌, sym, ap}
use Rattle.model_wire.specs.declared.watch.Watch.{Watch}
use Rattle.model_stream.specs.Streams.{Opened as PlainOpened}
use Rattle.aio_stream.specs.declared.opened.Opened.TheVariants as opened
use Rattle.aio_transports.specs.Watched.{watched_of}
use Rattle.aio_transports.proofs.Watches.{watched_more, watched_whole}
use Rattle.aio_transports.proofs.transports.Transports.watch_all.Goals as goal
use Rattle.aio_transports.proofs.transports.Transports.watch_all.Goals.{in-Some+in_ok-put_last, in_default}

pub loop-one-preserved : goal.loop-one-preserved
loop-one-preserved c =
    let f : PlainOpened → List Watch = watched_of c.args.self.now in
    let goes = watched_more f c.args.those.now c.loop-one.one-index
    (opened.Server 0) c.args.into.now.items c.loop-one.into.items in
    elim c.match-watched.branch [
      | in-Some+in_ok-put_last w ↦
          goes c.match-watched.into.items (w.in-Some.entry ∷ []) c.loop-one-test.true c.loop-one.invariant w.in-Some.ensures
          (ap (λ v. v.items) w.into-is ∙ w.in_ok-put_last.ensures)
      | in_default w ↦
          goes c.match-watched.into.items [] c.loop-one-test.true c.loop-one.invariant w.in_default.ensures
          (ap (λ v. v.items) w.into-is ∙ sym (append-nil c.loop-one.into.items))
    ]

pub returns : goal.returns
returns c =
    let f : PlainOpened → List Watch = watched_of c.args.self.now in
    watched_whole f c.args.those.now c.loop-one.one-index c.args.into.now.items c.loop-one.into.items c.loop-one-test.false c.loop-one.invariant
