use Rattle.std.proofs.Common.{refl, sym, subst, ◌∙◌, arith}
use Rattle.aio_roster.specs.Rosters.{Numbered}
use Rattle.aio_postbox.specs.Fours.{seats_in}
use Rattle.aio_intake.proofs.Passing.{none_yet, goes_after, some_left, all_taken}
use Rattle.aio_intake.proofs.Emptying.{keeps_all, keeps_on, lanes_on, numbered_on, lanes_same, keeps_same, posts_on, starts_on, few_on, takes_of}
use Rattle.aio_intake.proofs.taking.take_in.Goals as goal

pub loop-n-init : goal.loop-n-init
loop-n-init g c =
    record {
      going = none_yet c.args.postbox.now.taken c.args.roster.now.children (seats_in c.args.free.now.items);
      few = omega arith;
      numbered = c.count_running-count.ensures.numbered;
      numbered_now = c.count_running-count.ensures.numbered;
      keeps = keeps_all c.args.roster.now.children c.args.lanes.now;
      lanes = c.requires.lanes;
      hand = c.requires.hand;
      posts = record { taken = refl; nones = refl; seats = refl };
      noted = refl;
      none = (refl, refl);
      monotone = omega arith;
    }

pub take_in_kth-requires-clause-running : goal.take_in_kth-requires-clause-running
take_in_kth-requires-clause-running g c =
    let so_far = c.loop-n.invariant in
    some_left c.args.postbox.now.taken c.loop-n._n c.loop-n.k c.args.roster.now.children c.loop-n.roster.children
    (seats_in c.args.free.now.items) (seats_in c.loop-n.free.items) so_far.going
    (omega (arith, c.count_running-count.ensures.count, c.loop-n-test.true))

pub take_in_kth-requires-clause-lanes : goal.take_in_kth-requires-clause-lanes
take_in_kth-requires-clause-lanes g c = c.loop-n.invariant.lanes

pub returns-in_err-gone-clause-keeps : goal.returns-in_err-gone-clause-keeps
returns-in_err-gone-clause-keeps g c =
    keeps_same c.loop-n.roster.children c.take_in_kth.new.roster.children (seats_in c.loop-n.free.items)
    (seats_in c.take_in_kth.new.free.items) c.loop-n.lanes c.take_in_kth.new.lanes c.in_err-gone.ensures.err c.args.lanes.now
    c.loop-n.invariant.keeps

pub returns-in_err-gone-clause-lanes : goal.returns-in_err-gone-clause-lanes
returns-in_err-gone-clause-lanes g c =
    lanes_same c.loop-n.roster.children c.take_in_kth.new.roster.children (seats_in c.loop-n.free.items)
    (seats_in c.take_in_kth.new.free.items) c.loop-n.lanes c.take_in_kth.new.lanes c.in_err-gone.ensures.err c.loop-n.invariant.lanes

pub returns-in_err-gone-clause-hand : goal.returns-in_err-gone-clause-hand
returns-in_err-gone-clause-hand g c = c.take_in_kth.ensures.hand c.loop-n.invariant.hand

pub returns-in_err-gone-clause-posts : goal.returns-in_err-gone-clause-posts
returns-in_err-gone-clause-posts g c =
    posts_on c.args.postbox.now c.loop-n.postbox c.take_in_kth.new.postbox c.loop-n.invariant.posts c.take_in_kth.ensures.keeps

pub returns-in_err-gone-clause-noted : goal.returns-in_err-gone-clause-noted
returns-in_err-gone-clause-noted g c = c.take_in_kth.ensures.noted ∙ c.loop-n.invariant.noted

pub returns-in_err-gone-clause-none : goal.returns-in_err-gone-clause-none
returns-in_err-gone-clause-none g c =
    starts_on (g.L.Launcher.seen c.args.launcher.now) (g.L.Launcher.seen c.loop-n.launcher)
    (g.L.Launcher.seen c.take_in_kth.new.launcher) c.loop-n.invariant.none c.take_in_kth.ensures.none

pub returns-in_err-gone-clause-monotone : goal.returns-in_err-gone-clause-monotone
returns-in_err-gone-clause-monotone g c = omega (arith, c.loop-n.invariant.monotone, c.take_in_kth.ensures.monotone)

pub returns-in_err-gone-clause-numbered : goal.returns-in_err-gone-clause-numbered
returns-in_err-gone-clause-numbered g c = subst Numbered (sym c.in_err-gone.ensures.err.0) c.loop-n.invariant.numbered_now

pub next_place-k-requires : goal.next_place-k-requires
next_place-k-requires g c = omega (arith, c.loop-n.invariant.few, c.loop-n-test.true)

pub loop-n-preserved : goal.loop-n-preserved
loop-n-preserved g c =
    let so_far = c.loop-n.invariant in
    let next = c.take_in_kth.new in
    let gone = c.in_ok-gone.gone in
    let takes = takes_of gone c.args.postbox.now.taken c.loop-n.postbox.taken c.loop-n.k c.loop-n.roster.children next.roster.children
    (seats_in c.loop-n.free.items) (seats_in next.free.items) c.loop-n.lanes next.lanes so_far.posts.taken c.in_ok-gone.ensures.takes in
    record {
      going =
          goes_after c.args.postbox.now.taken c.loop-n._n c.loop-n.k c.args.roster.now.children c.loop-n.roster.children
          next.roster.children (seats_in c.args.free.now.items) (seats_in c.loop-n.free.items) (seats_in next.free.items) c.loop-n.lanes
          next.lanes so_far.going so_far.numbered gone c.next_place-k.result takes c.next_place-k.ensures;
      few = few_on gone c.loop-n.k c.loop-n._n c.next_place-k.result so_far.few c.next_place-k.ensures;
      numbered = so_far.numbered;
      numbered_now =
          numbered_on c.args.postbox.now.taken c.loop-n.k c.loop-n.roster.children next.roster.children (seats_in c.loop-n.free.items)
          (seats_in next.free.items) c.args.lanes.now c.loop-n.lanes next.lanes so_far.numbered_now gone takes;
      keeps =
          keeps_on c.args.postbox.now.taken c.loop-n.k c.loop-n.roster.children next.roster.children (seats_in c.loop-n.free.items)
          (seats_in next.free.items) c.args.lanes.now c.loop-n.lanes next.lanes so_far.numbered_now gone takes so_far.keeps;
      lanes =
          lanes_on c.args.postbox.now.taken c.loop-n.k c.loop-n.roster.children next.roster.children (seats_in c.loop-n.free.items)
          (seats_in next.free.items) c.args.lanes.now c.loop-n.lanes next.lanes so_far.numbered_now gone takes so_far.lanes;
      hand = c.take_in_kth.ensures.hand so_far.hand;
      posts = posts_on c.args.postbox.now c.loop-n.postbox next.postbox so_far.posts c.take_in_kth.ensures.keeps;
      noted = c.take_in_kth.ensures.noted ∙ so_far.noted;
      none =
          starts_on (g.L.Launcher.seen c.args.launcher.now) (g.L.Launcher.seen c.loop-n.launcher) (g.L.Launcher.seen next.launcher)
          so_far.none c.take_in_kth.ensures.none;
      monotone = omega (arith, so_far.monotone, c.take_in_kth.ensures.monotone);
    }

pub returns : goal.returns
returns g c =
    let so_far = c.loop-n.invariant in
    record {
      takes =
          all_taken c.args.postbox.now.taken c.loop-n._n c.loop-n.k c.args.roster.now.children c.loop-n.roster.children
          (seats_in c.args.free.now.items) (seats_in c.loop-n.free.items) so_far.going
          (omega (arith, c.count_running-count.ensures.count, c.loop-n-test.false));
      keeps = so_far.keeps;
      numbered = so_far.numbered_now;
      lanes = so_far.lanes;
      hand = so_far.hand;
      posts = so_far.posts;
      noted = so_far.noted;
      none = so_far.none;
      monotone = so_far.monotone;
    }
