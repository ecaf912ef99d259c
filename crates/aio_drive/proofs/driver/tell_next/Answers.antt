use Rattle.std.proofs.Common.{List, IfErr, IfOk, OnOk, subst}
use Rattle.std.specs.Option.{option_copied}
use Rattle.model_wire.specs.Event.{Event}
use Rattle.model_wire.specs.Trace.{lines_of_events}
use Rattle.model_commands.specs.Recorded.{Records, recorded}
use Rattle.aio_drive.specs.Ending.{WroteTurn}
use Rattle.aio_drive.specs.Recording.{CutsTurn, Recording, telling}
use Rattle.aio_drive.proofs.driver.tell_next.Goals as goal

pub returns : goal.returns
returns g c = record {
  turned = λ going.
      let it = c.turn-went.ensures.turned going in
      let sink = g.K.Sink.seen c.args.out.now in
      let late = g.K.Sink.seen c.tell_turn.new.out in
      let shelf : Recording = record {
        name = option_copied c.args.journal;
        old = g.F.Shelf.seen c.args.shelf.now;
        new = g.F.Shelf.seen c.tell_turn.new.shelf;
      } in
      let out = c.events-events.ensures.taken in
      record {
        mid = c.turn-went.new.self;
        went = c.turn-went.result;
        said = it.0;
        turned = it.1;
        stands = c.events-events.ensures.stands;
        left = c.events-events.ensures.left;
        told = c.tell_turn.ensures.told;
        noted = subst (λ (es : List Event). OnOk c.tell_turn.result (Records shelf.name (recorded es) shelf.old shelf.new)) out
            c.tell_turn.ensures.noted;
        ok = subst (λ (es : List Event). IfOk c.tell_turn.result (λ status.
            WroteTurn c.args.fault.now (lines_of_events c.args.trace es) sink late status c.turn-went.result)) out c.tell_turn.ensures.ok;
        err = subst (λ (es : List Event). IfErr c.tell_turn.result (λ cut.
            CutsTurn shelf (telling c.args.trace c.args.fault.now es) sink late cut c.turn-went.result)) out c.tell_turn.ensures.err;
        refused = c.tell_turn.ensures.refused;
      };
  keeps = c.turn-went.ensures.keeps;
  stays = c.turn-went.ensures.stays;
}
