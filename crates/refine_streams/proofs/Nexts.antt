-- What a request or a callback makes of the result of its tree only adds events.
use Rattle.std.proofs.Common.{ℕ, List, ◌++◌, Option, Some, None, refl}
use Rattle.model_value.specs.Value.{Exc, Value}
use Rattle.model_wire.specs.declared.event.Handed.{Handed}
use Rattle.model_stream.specs.declared.answers.ChildWait.{ChildWait}
use Rattle.model_stream.specs.declared.answers.ChildWait.TheVariants as wait_as
use Rattle.model_stream.specs.declared.answers.Drain.TheVariants as drain_as
use Rattle.model_stream.specs.declared.answers.StreamGot.TheVariants as got
use Rattle.model_stream.specs.declared.answers.Wrote.{Wrote}
use Rattle.model_stream.specs.declared.answers.Wrote.TheVariants as wrote
use Rattle.model_stream.specs.declared.put.Limited.{Limited}
use Rattle.model_stream.specs.declared.put.Limited.TheVariants as limited
use Rattle.model_stream.specs.Reading.{ReadOp}
use Rattle.model_stream.specs.Receivers.{AllGot, StreamGot}
use Rattle.model_stream.specs.Requests.{StreamReader}
use Rattle.model_stream.specs.Senders.{Drain}
use Rattle.model_stream.specs.Streams.{Streams}
use Rattle.model_machine.specs.Replies as plain
use Rattle.model_machine.specs.Replies.{awaits_exit_as, connects_as, drains_as, launches_as, limits_as, listens_as, reads_all_as, reads_as, writes_as}
use Rattle.model_machine.specs.Turn.{goes_with}
use Rattle.model_machine.specs.Went.{Went, Stops, state_of}
use Rattle.law_runs.proofs.Counts.{goes_on_same}
use Rattle.law_reach.specs.Reaches.{left_by}
use Rattle.aio_body.proofs.Growing.{replies_begin}
use Rattle.aio_extra.specs.Added.{Added}
use Rattle.aio_body.specs.Asking.{ReplyBegins, WentBegins}
use Rattle.aio_body.specs.Stands.{Context}
use Rattle.refine_streams.specs.Alike.{AddsEvents, LeavesState}

-- ---- what a piece leaves
-- a request's, as it is served or goes on
abbrev pub reply_leaves : {X At R : Type 0} {a : Added X} (from : Context a → At → Type 0) (does : At → plain.RequestReply a.Kept)
    (says : Context a → R → plain.RequestReply a.Kept → Type 0)
    → LeavesState {a = a} (record { from = from; does = does; ends = plain.Halts; says = says; begins = ReplyBegins })
reply_leaves from does says = record { left = left_by; halts = λ how last. refl; begins = replies_begin }

-- a callback's
abbrev pub went_leaves : {X At R : Type 0} {a : Added X} (from : Context a → At → Type 0) (does : At → Went a.Kept)
    (says : Context a → R → Went a.Kept → Type 0)
    → LeavesState {a = a} (record { from = from; does = does; ends = Stops; says = says; begins = WentBegins })
went_leaves from does says = record { left = state_of; halts = λ how last. refl; begins = λ events it goes. goes }

-- ---- what comes next
module _ {S : Type 0} where
  pub answers_add : (value : Value) → AddsEvents {S = S} left_by (plain.Answers value)
  answers_add value t = goes_on_same t.events

  pub raises_add : (fault : Exc) → AddsEvents {S = S} left_by (plain.Raises fault)
  raises_add fault t = goes_on_same t.events

  pub listens_add : (it : Option ℕ) → AddsEvents {S = S} left_by (listens_as it)
  listens_add None t = goes_on_same t.events
  listens_add (Some id) t = goes_on_same t.events

  pub connects_add : (task : ℕ) (it : Option (ℕ × ℕ)) → AddsEvents {S = S} left_by (connects_as task it)
  connects_add task None t = goes_on_same t.events
  connects_add task (Some begun) t = goes_on_same t.events

  pub launches_add : (it : Option ℕ) → AddsEvents {S = S} left_by (launches_as it)
  launches_add None t = goes_on_same t.events
  launches_add (Some id) t = goes_on_same t.events

  pub writes_add : (it : Wrote) → AddsEvents {S = S} left_by (writes_as it)
  writes_add wrote.Done t = goes_on_same t.events
  writes_add wrote.AfterEof t = goes_on_same t.events

  pub drains_add : (task : ℕ) (whom : Handed) (it : Drain) → AddsEvents {S = S} left_by (drains_as task whom it)
  drains_add task whom drain_as.Goes t = goes_on_same t.events
  drains_add task whom drain_as.Yields t = goes_on_same t.events
  drains_add task whom (drain_as.Waits on) t = goes_on_same t.events
  drains_add task whom (drain_as.Raises fault) t = goes_on_same t.events

  pub limits_add : (it : Limited) → AddsEvents {S = S} left_by (limits_as it)
  limits_add limited.Set t = goes_on_same t.events
  limits_add limited.BadLimits t = goes_on_same t.events

  pub reads_add : (task : ℕ) (op : ReadOp) (from : StreamReader) (it : StreamGot) → AddsEvents {S = S} left_by (reads_as task op from it)
  reads_add task op from (got.Bytes bytes) t = goes_on_same t.events
  reads_add task op from (got.Raises fault) t = goes_on_same t.events
  reads_add task op from (got.Waits on) t = goes_on_same t.events

  pub reads_all_add : (task : ℕ) (from : StreamReader) (taken : List ℕ) (it : AllGot)
      → AddsEvents {S = S} left_by (reads_all_as task from (taken ++ it.taken) it.got)
  reads_all_add task from taken it = at it.got
    where
      at : (said : StreamGot) → AddsEvents {S = S} left_by (reads_all_as task from (taken ++ it.taken) said)
      at (got.Bytes bytes) t = goes_on_same t.events
      at (got.Raises fault) t = goes_on_same t.events
      at (got.Waits on) t = goes_on_same t.events

  pub exits_add : (task : ℕ) (it : ChildWait) → AddsEvents {S = S} left_by (awaits_exit_as task it)
  exits_add task (wait_as.Code code) t = goes_on_same t.events
  exits_add task (wait_as.Waits on) t = goes_on_same t.events

  pub goes_add : (it : Streams) → AddsEvents {S = S} state_of (goes_with it)
  goes_add it t = goes_on_same t.events
