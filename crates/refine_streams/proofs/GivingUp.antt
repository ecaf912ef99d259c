-- A read that is resumed waits no more.
use Rattle.std.proofs.Common.{◌≡◌, ℕ, Option, Some, ◌∙◌, sym, ap, subst}
use Rattle.model_loop.specs.Futures.{next_future}
use Rattle.model_stream.specs.Requests.{StreamReader, give_up_read}
use Rattle.model_machine.specs.Replies.{waits_no_more}
use Rattle.model_machine.specs.State.{State}
use Rattle.law_cases.specs.TreeEnd.{owned_in as plain_in}
use Rattle.law_cases.proofs.Asking.{gives_up, gives_up_own}
use Rattle.aio_transports.specs.Standing.{Becomes}
use Rattle.aio_extra.specs.Added.{Added}
use Rattle.aio_body.specs.declared.run_state.RunState.{RunState}
use Rattle.aio_body.specs.Asked.{IsInStep}
use Rattle.aio_body.specs.Stands.{Context, Stands}
use Rattle.refine_streams.specs.Went.{MayCall}
use Rattle.refine_streams.proofs.Leaving.{fewer_kept}
use Rattle.refine_streams.proofs.Standing.{streams_change}

pub gives_up_so : {X : Type 0} {a : Added X} (out : Option ℕ) (c : Context a) (old new : RunState X) (s : State a.Kept) (on : ℕ) (from : StreamReader)
    → MayCall out c old s → Becomes (give_up_read on from) old.transports new.transports → new ≡ record old { transports = new.transports }
    → MayCall out c new (waits_no_more on from s)
gives_up_so {X} {a} out c old new s on from h becomes frame = record {
  stands =
      subst (λ (b : RunState X). Stands out c b (waits_no_more on from s)) (sym frame)
      (streams_change out c old new.transports s (give_up_read on from s.streams) h.stands (becomes s.streams h.stands.transports).0
      (λ sleeper id own.
      fewer_kept s.loop.parts (next_future s.loop.parts) s.streams (give_up_read on from s.streams)
      (gives_up (plain_in s) (next_future s.loop.parts) on from s.streams h.streams).asked id own.plain));
  streams = gives_up_own (plain_in s) on from s.streams h.streams;
  owns = h.owns;
}

-- in a task's step, which goes on
pub gives_up_in_step : {X : Type 0} {a : Added X} (task : ℕ) (c : Context a) (old new : RunState X) (s t : State a.Kept) → IsInStep task c old s
    → new ≡ record old { transports = new.transports } → MayCall (Some task) c new t → IsInStep task c new t
gives_up_in_step {X} task c old new s t h frame may = record {
  stands = may.stands;
  called = ap (λ (b : RunState X). b.parts.called) frame ∙ h.called;
  running = ap (λ (b : RunState X). b.parts.running) frame ∙ h.running;
}
