-- What is known where there is a state that is stood for, before a call of streams and after it.
use Rattle.std.proofs.Common.{◌≡◌, ℕ, Bool, true, List, Option, None, slice_get, ◌∙◌}
use Rattle.std.proofs.Math.Logic.{∥∥₁_elim, ∥∥₁_map}
use Rattle.std.proofs.Props.{props}
use Rattle.model_wire.specs.Journal.{Entry}
use Rattle.model_loop.specs.Futures.{is_pending_at}
use Rattle.model_machine.specs.State.{State}
use Rattle.aio_wire.specs.Outside.{Outside}
use Rattle.aio_wire.specs.Port.{Ported}
use Rattle.aio_exchange.specs.Exchanged.{Exchange}
use Rattle.law_cases.specs.Trees.{IsMade}
use Rattle.aio_transports.specs.Owned.{OwnsTransports}
use Rattle.aio_extra.specs.Added.{Added}
use Rattle.aio_body.specs.declared.run_state.RunState.{RunState}
use Rattle.aio_body.specs.Stands.{Possible, Context}
use Rattle.aio_body.proofs.Asking.{HasCome}
use Rattle.aio_body.specs.Answers.{with_rest}
use Rattle.aio_body.proofs.Answering.{alive_come}
use Rattle.aio_body.proofs.May.{same_prop}
use Rattle.refine_streams.specs.Streams.{HasStreams}
use Rattle.refine_streams.specs.Went.{HasGone, MayCall}
use Rattle.refine_streams.proofs.Owning.{owns_prop, transports_own}
use Rattle.refine_streams.proofs.Kept.{streams_stand}

pub same_truth : (a b : Bool) → IsProp (a ≡ b)
same_truth a b = hlevel props

module _ {X : Type 0} {a : Added X} (out : Option ℕ) (from : Context a → RunState X → State a.Kept → Type 0) (old : RunState X)
    (may : (c : Context a) (s : State a.Kept) → from c old s → MayCall out c old s) (possible : Possible a from old) where
  -- there are streams that stand for what is kept
  pub has_streams : HasStreams old.transports
  has_streams = streams_stand old.transports (∥∥₁_map possible (λ w. (w.1.0.streams, (may w.0 w.1.0 w.1.1).stands.transports)))

  -- no future of a listener, a connection or a child is a task's
  pub transports_owned : OwnsTransports old.parts old.transports
  transports_owned =
      ∥∥₁_elim possible (owns_prop old.parts old.transports) (λ w.
      let it = may w.0 w.1.0 w.1.1 in
      transports_own it.stands.name_map old.parts w.1.0.loop.parts it.stands.keeps old.transports w.1.0.streams it.stands.transports it.streams)

  -- ---- after it. What began may begin with other answers left.
  module _ {W M : Type 0} (o : Outside W)
      (again : (answers : List Entry) (c : Context a) (s : State a.Kept) → from c old s → (t : State a.Kept) × from (with_rest answers c) old t)
      (had : List Exchange) (x y : Ported W) (Known : (first now : ℕ) → Type 0) (does : State a.Kept → M) (next : State a.Kept → M) (new : RunState X)
      (come : HasCome o (λ c s. from c old s) had x y (λ c s. HasGone out Known (does s) next c old new s)) where
    gone_some : ∥ ((c : Context a) × ((s : State a.Kept) × HasGone out Known (does s) next c old new s)) ∥₁
    gone_some = alive_come o (λ c s. from c old s) again had x y (λ c s. HasGone out Known (does s) next c old new s) come possible

    pub called_gone : old.parts.called ≡ None → new.parts.called ≡ None
    called_gone was = ∥∥₁_elim gone_some (same_prop new.parts.called None) (λ w. w.1.1.called ∙ was)

    pub running_gone : (running : Option ℕ) → old.parts.running ≡ running → new.parts.running ≡ running
    running_gone running was = ∥∥₁_elim gone_some (same_prop new.parts.running running) (λ w. w.1.1.running ∙ was)

    -- a future that was made is pending
    pub pending_gone : (on : ℕ) → ((first now : ℕ) → Known first now → IsMade first now on) → is_pending_at (slice_get new.parts.futures on) ≡ true
    pending_gone on made =
        ∥∥₁_elim gone_some (same_truth (is_pending_at (slice_get new.parts.futures on)) true) (λ w. w.1.1.pending on (made _ _ w.1.1.made))
