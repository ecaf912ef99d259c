use Rattle.std.proofs.Common.{◌≡◌, sym, ap, subst}
use Rattle.model_pump.specs.declared.stream.Stream.{Stream}
use Rattle.model_stream.specs.Children.{Child, its_pipe}
use Rattle.model_stream.specs.Receivers.{Receiver, give_up_read}
use Rattle.aio_change.specs.Owned.{IsOwnIfAny}
use Rattle.aio_child.specs.Owned.{OwnsChild}
use Rattle.aio_child.proofs.Owning.{own_given_up}
use Rattle.aio_child.proofs.child.Child.give_up.Goals as goal

pub returns-in-Out-clause-after : goal.returns-in-Out-clause-after
returns-in-Out-clause-after c =
    let i = c.self.inside in
    let before : Child = record { stdin = i.stdin; out = i.out; errs = i.errs; code = i.code; waits = i.waits.items } in
    subst (λ (pipe : Stream). record before { out = c.give_up.new.self }
    ≡ (its_pipe pipe).put (give_up_read c.args.on ((its_pipe pipe).get c.args.self.now)) c.args.self.now) (sym c.in-Out.is)
    (subst (λ (v : Child). record before { out = c.give_up.new.self } ≡ record v { out = give_up_read c.args.on v.out }) c.self.view_is
    (ap (λ (r : Receiver). record before { out = r }) c.give_up.ensures))

pub returns-in-Out-clause-own : goal.returns-in-Out-clause-own
returns-in-Out-clause-own c v own =
    let i = c.self.inside in
    let before : Child = record { stdin = i.stdin; out = i.out; errs = i.errs; code = i.code; waits = i.waits.items } in
    let was : OwnsChild v before = subst (OwnsChild v) (sym c.self.view_is) own in
    record {
      stdin = was.stdin;
      out = subst (λ (r : Receiver). IsOwnIfAny v r.waiter) (sym c.give_up.ensures) (own_given_up v c.args.on i.out was.out);
      errs = was.errs;
      waits = was.waits;
    }

pub returns-in-Errs-clause-after : goal.returns-in-Errs-clause-after
returns-in-Errs-clause-after c =
    let i = c.self.inside in
    let before : Child = record { stdin = i.stdin; out = i.out; errs = i.errs; code = i.code; waits = i.waits.items } in
    subst (λ (pipe : Stream). record before { errs = c.give_up-in-Errs.new.self }
    ≡ (its_pipe pipe).put (give_up_read c.args.on ((its_pipe pipe).get c.args.self.now)) c.args.self.now) (sym c.in-Errs.is)
    (subst (λ (v : Child). record before { errs = c.give_up-in-Errs.new.self } ≡ record v { errs = give_up_read c.args.on v.errs }) c.self.view_is
    (ap (λ (r : Receiver). record before { errs = r }) c.give_up-in-Errs.ensures))

pub returns-in-Errs-clause-own : goal.returns-in-Errs-clause-own
returns-in-Errs-clause-own c v own =
    let i = c.self.inside in
    let before : Child = record { stdin = i.stdin; out = i.out; errs = i.errs; code = i.code; waits = i.waits.items } in
    let was : OwnsChild v before = subst (OwnsChild v) (sym c.self.view_is) own in
    record {
      stdin = was.stdin;
      errs = subst (λ (r : Receiver). IsOwnIfAny v r.waiter) (sym c.give_up-in-Errs.ensures) (own_given_up v c.args.on i.errs was.errs);
      out = was.out;
      waits = was.waits;
    }
