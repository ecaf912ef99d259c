use Rattle.std.proofs.Common.{length, refl, sym, ap, ◌∙◌, arith}
use Rattle.std.specs.Prelude.{slice_get}
use Rattle.aio_commands.proofs.Passing.{none_yet, goes_on, runs_same, all_served}
use Rattle.aio_commands.proofs.serving.serve.Goals as goal

pub loop-k-init : goal.loop-k-init
loop-k-init g c = (
  none_yet c.args.watch.now c.args.roster.now.children (g.H.Heads.seen c.args.heads.now),
  refl,
  refl,
  (λ seats lent. lent),
  c.count_running-count.ensures.numbered,
)

pub serve_one-requires : goal.serve_one-requires
serve_one-requires g c =
    record {
      running = omega (arith, ap length c.loop-k.invariant.1, c.count_running-count.ensures.count, c.loop-k-test.true);
      lanes = λ k n h.
          c.loop-k.invariant.0.went.grows.has n ∙ c.requires.lanes k n (ap (λ l. slice_get l k) (sym c.loop-k.invariant.1) ∙ h);
      noted = omega (arith, c.loop-k.invariant.2, c.requires.noted);
    }

pub loop-k-preserved : goal.loop-k-preserved
loop-k-preserved g c = (
  goes_on c.args.watch.now c.loop-k.k c.args.roster.now.children c.loop-k.roster.children c.serve_one.new.roster.children
      (g.H.Heads.seen c.args.heads.now) (g.H.Heads.seen c.loop-k.heads) (g.H.Heads.seen c.serve_one.new.heads)
      c.count_running-count.ensures.numbered c.loop-k.invariant.0 c.serve_one.ensures.served,
  runs_same c.args.watch.now c.loop-k.k c.args.roster.now.children c.loop-k.roster.children c.serve_one.new.roster.children
      (g.H.Heads.seen c.args.heads.now) (g.H.Heads.seen c.loop-k.heads) (g.H.Heads.seen c.serve_one.new.heads)
      c.count_running-count.ensures.numbered c.loop-k.invariant.0 c.serve_one.ensures.served
      ∙ c.loop-k.invariant.1,
  c.serve_one.ensures.noted ∙ c.loop-k.invariant.2,
  (λ seats lent. c.serve_one.ensures.lent seats (c.loop-k.invariant.3 seats lent)),
  c.serve_one.ensures.numbered,
)

pub returns : goal.returns
returns g c =
    record {
      served =
          all_served c.args.watch.now c.loop-k.k c.args.roster.now.children c.loop-k.roster.children (g.H.Heads.seen c.args.heads.now)
          (g.H.Heads.seen c.loop-k.heads) c.loop-k.invariant.0
          (omega (arith, ap length c.loop-k.invariant.1, c.count_running-count.ensures.count, c.loop-k-test.false));
      lanes = λ k n h.
          c.loop-k.invariant.0.went.grows.has n ∙ c.requires.lanes k n (ap (λ l. slice_get l k) (sym c.loop-k.invariant.1) ∙ h);
      numbered_now = c.loop-k.invariant.4;
      running = c.loop-k.invariant.1;
      numbered = c.count_running-count.ensures.numbered;
      lent = c.loop-k.invariant.3;
      noted = c.loop-k.invariant.2;
    }
