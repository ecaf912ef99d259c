use Rattle.std.proofs.Common.{◌≡◌, ap, refl, sym, ◌∙◌, arith}
use Rattle.std.specs.Option.{option_copied}
use Rattle.aio_drive.proofs.Rounds.{last_err, last_ok, round_err, round_ok, round_on, still_goes, under_way_first}
use Rattle.aio_drive.proofs.driver.drive_kernel.Goals as goal

pub loop-made-init : goal.loop-made-init
loop-made-init g c = record {
  running = λ kept program begins.
      under_way_first g.X.Extra.added kept program c.args.manner c.args.kernel.now (g.W.Wire.outside.seen c.args.wire.now) (g.K.Sink.seen c.args.out.now)
      (option_copied c.args.journal) (g.F.Shelf.seen c.args.shelf.now)
      (g.W.Wire.outside.fails c.args.wire.now) (g.W.Wire.outside.quiet c.args.wire.now c.args.wire.now) (c.args.shelf.now ≡ c.args.shelf.now) begins
      (g.W.Wire.outside.quiet_same c.args.wire.now) refl;
  stays = (refl, omega arith);
  keeps = g.W.Wire.outside.keeps_same c.args.wire.now;
}

pub loop-made-preserved : goal.loop-made-preserved
loop-made-preserved g c =
    let l = c.loop-made in
    record {
      running = λ kept program begins.
          let under = l.invariant.running kept program begins in
          round_on {same_now = c.tell_next.new.shelf ≡ l.shelf} (g.W.Wire.outside.seen c.args.wire.now) under c.loop-made-test.true l.invariant.stays
          (g.W.Wire.outside.quiet_on c.args.wire.now l.wire c.tell_next.new.wire under.unchanged) (c.tell_next.new.shelf ≡ c.args.shelf.now)
          (g.W.Wire.outside.fails c.tell_next.new.wire)
          c.in-Ok-None.field-0 c.in-Ok-None.field-0-is (c.in-Ok-None.ensures.turned (still_goes under));
      stays =
          let before = l.invariant.stays in
          let now = c.tell_next.ensures.stays in
          (now.0 ∙ before.0, omega (arith, before.1, now.1));
      keeps = g.W.Wire.outside.keeps_on c.args.wire.now l.wire c.tell_next.new.wire l.invariant.keeps c.tell_next.ensures.keeps;
    }

-- ---- the run ended with a turn, or was cut short in it
pub returns-in-Ok-Some-clause-drives : goal.returns-in-Ok-Some-clause-drives
returns-in-Ok-Some-clause-drives g c = λ kept program begins.
    let l = c.loop-made in
    let o = g.W.Wire.outside in
    let under = l.invariant.running kept program begins in
    record {
      ok = round_ok (o.seen c.args.wire.now) under c.loop-made-test.true l.invariant.stays
          (o.quiet_on c.args.wire.now l.wire c.tell_next.new.wire under.unchanged) (c.tell_next.new.shelf ≡ c.args.shelf.now)
          c.in-Ok-Some.field-0 c.in-Ok-Some.status c.in-Ok-Some.field-0-is (c.in-Ok-Some.ensures.turned (still_goes under));
      err = tt;
      keeps = o.keeps_on c.args.wire.now l.wire c.tell_next.new.wire l.invariant.keeps c.tell_next.ensures.keeps;
    }

pub returns-in-Err-clause-drives : goal.returns-in-Err-clause-drives
returns-in-Err-clause-drives g c = λ kept program begins.
    let l = c.loop-made in
    let o = g.W.Wire.outside in
    let under = l.invariant.running kept program begins in
    record {
      ok = tt;
      err = round_err (o.seen c.args.wire.now) under c.loop-made-test.true l.invariant.stays
          (o.quiet_on c.args.wire.now l.wire c.tell_next.new.wire under.unchanged) (c.tell_next.new.shelf ≡ c.args.shelf.now)
          (λ same. sym (ap g.F.Shelf.seen same)) (λ same then. same ∙ then) c.in-Err.cut (c.in-Err.ensures.turned (still_goes under));
      keeps = o.keeps_on c.args.wire.now l.wire c.tell_next.new.wire l.invariant.keeps c.tell_next.ensures.keeps;
    }

pub returns-in-Ok-Some-clause-keeps : goal.returns-in-Ok-Some-clause-keeps
returns-in-Ok-Some-clause-keeps g c =
    g.W.Wire.outside.keeps_on c.args.wire.now c.loop-made.wire c.tell_next.new.wire c.loop-made.invariant.keeps c.tell_next.ensures.keeps

pub returns-in-Err-clause-keeps : goal.returns-in-Err-clause-keeps
returns-in-Err-clause-keeps g c =
    g.W.Wire.outside.keeps_on c.args.wire.now c.loop-made.wire c.tell_next.new.wire c.loop-made.invariant.keeps c.tell_next.ensures.keeps

-- ---- no turn is left
pub returns-in-Ok-clause-drives : goal.returns-in-Ok-clause-drives
returns-in-Ok-clause-drives g c = λ kept program begins.
    let l = c.loop-made in
    let seen = g.W.Wire.outside.seen in
    let it = c.in-Ok.ensures in
    record {
      ok = last_ok (seen c.args.wire.now) (seen l.wire) (l.invariant.running kept program begins) c.requires.some c.loop-made-test.false
          c.args.fault.now (g.K.Sink.seen c.write_limit.new.out) it.end it.last c.in-Ok.status it.ok;
      err = tt;
      keeps = l.invariant.keeps;
    }

pub returns-in-Err-write_limit-clause-drives : goal.returns-in-Err-write_limit-clause-drives
returns-in-Err-write_limit-clause-drives g c = λ kept program begins.
    let l = c.loop-made in
    let seen = g.W.Wire.outside.seen in
    let it = c.in-Err-write_limit.ensures in
    record {
      ok = tt;
      err = last_err (seen c.args.wire.now) (seen l.wire) (l.invariant.running kept program begins) c.requires.some c.loop-made-test.false
          c.args.fault.now (g.K.Sink.seen c.write_limit.new.out) it.end it.last c.in-Err-write_limit.halt it.err;
      keeps = l.invariant.keeps;
    }

pub returns-in-Ok-clause-keeps : goal.returns-in-Ok-clause-keeps
returns-in-Ok-clause-keeps g c = c.loop-made.invariant.keeps

pub returns-in-Err-write_limit-clause-keeps : goal.returns-in-Err-write_limit-clause-keeps
returns-in-Err-write_limit-clause-keeps g c = c.loop-made.invariant.keeps
