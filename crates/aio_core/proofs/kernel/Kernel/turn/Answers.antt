use Rattle.std.proofs.Common.{◌≡◌, ◌∙◌, refl, sym, arith}
use Rattle.aio_core.specs.Again.{Again}
use Rattle.aio_core.specs.declared.went.Went.TheVariants as went
use Rattle.aio_core.proofs.Keeping.{alive_ended, alive_of, if_none, if_some, kept_again, kept_alive, kept_end, kept_goes, kept_now, not_both, turned_up}
use Rattle.aio_core.proofs.Sound.{turn_sound}
use Rattle.aio_core.proofs.kernel.Kernel.turn.Goals as goal

-- ---- the run had ended
pub invariant_of-self : goal.invariant_of-self
invariant_of-self g c = record { alive = alive_ended g.X.Extra.added c.end.new.kept c.end.result c.args.self.now.body c.end.ensures.kept }

pub returns-in-Some : goal.returns-in-Some
returns-in-Some g c =
    let it_ended = sym c.take.ensures.value ∙ c.in-Some.is in
    record {
      turned = λ none. not_both c.args.self.now.ended c.in-Some.ended none it_ended;
      sound = λ past answers s h. turn_sound g.X.Extra.added past answers c.args.self.now s h;
      keeps = g.W.Wire.outside.keeps_same c.args.wire.now;
      stays = (refl, omega arith);
      kept = kept_end c.end.result c.end.new.kept c.end.ensures.kept;
      again = if_some c.args.self.now.ended (λ it. Again it c.end.result) c.in-Some.ended it_ended c.end.ensures.answer;
      unchanged = if_some c.args.self.now.ended (λ it. c.args.wire.now ≡ c.args.wire.now) c.in-Some.ended it_ended refl;
    }

-- ---- it had not
pub turn-requires : goal.turn-requires
turn-requires g c =
    alive_of g.X.Extra.added c.args.self.now.ended c.args.self.now.body (sym c.take.ensures.value ∙ c.in_default.is) c.args.self.now.alive

pub invariant_of-self-in-Ok : goal.invariant_of-self-in-Ok
invariant_of-self-in-Ok g c = record {
  alive = kept_alive c.in-Ok.went c.keep.result c.take.new.self c.keep.new.kept c.take.ensures.after c.keep.ensures
      g.X.Extra.added c.turn.new.body c.in-Ok.ensures.alive;
}

pub invariant_of-self-in-Err : goal.invariant_of-self-in-Err
invariant_of-self-in-Err g c = record {
  alive = kept_alive (went.Stopped _) c.keep-in-Err.result c.take.new.self c.keep-in-Err.new.kept c.take.ensures.after c.keep-in-Err.ensures
      g.X.Extra.added c.turn.new.body tt;
}

pub returns-in-Ok : goal.returns-in-Ok
returns-in-Ok g c =
    let none = sym c.take.ensures.value ∙ c.in_default.is in
    record {
      turned = λ e. (
        c.in-Ok.went,
        turned_up g.W.Wire.outside c.args.wire.now c.turn.new.wire c.args.self.now _ c.keep.result c.in-Ok.went
            (kept_goes c.in-Ok.went c.keep.result c.take.new.self c.keep.new.kept c.take.ensures.after c.keep.ensures) c.in-Ok.ensures
            (kept_again c.in-Ok.went c.keep.result c.take.new.self c.keep.new.kept c.take.ensures.after c.keep.ensures),
      );
      sound = λ past answers s h. turn_sound g.X.Extra.added past answers c.args.self.now s h;
      keeps = c.in-Ok.ensures.keeps;
      stays = c.in-Ok.ensures.stays;
      kept = kept_now c.in-Ok.went c.keep.result c.take.new.self c.keep.new.kept c.take.ensures.after c.keep.ensures;
      again = if_none c.args.self.now.ended (λ it. Again it c.keep.result) none;
      unchanged = if_none c.args.self.now.ended (λ it. c.turn.new.wire ≡ c.args.wire.now) none;
    }

pub returns-in-Err : goal.returns-in-Err
returns-in-Err g c =
    let none = sym c.take.ensures.value ∙ c.in_default.is in
    let said = went.Stopped c.in-Err.stop in
    record {
      turned = λ e. (
        said,
        turned_up g.W.Wire.outside c.args.wire.now c.turn.new.wire c.args.self.now _ c.keep-in-Err.result said
            (kept_goes said c.keep-in-Err.result c.take.new.self c.keep-in-Err.new.kept c.take.ensures.after c.keep-in-Err.ensures)
            c.in-Err.ensures
            (kept_again said c.keep-in-Err.result c.take.new.self c.keep-in-Err.new.kept c.take.ensures.after c.keep-in-Err.ensures),
      );
      sound = λ past answers s h. turn_sound g.X.Extra.added past answers c.args.self.now s h;
      keeps = c.in-Err.ensures.keeps;
      stays = c.in-Err.ensures.stays;
      kept = kept_now said c.keep-in-Err.result c.take.new.self c.keep-in-Err.new.kept c.take.ensures.after c.keep-in-Err.ensures;
      again = if_none c.args.self.now.ended (λ it. Again it c.keep-in-Err.result) none;
      unchanged = if_none c.args.self.now.ended (λ it. c.turn.new.wire ≡ c.args.wire.now) none;
    }
