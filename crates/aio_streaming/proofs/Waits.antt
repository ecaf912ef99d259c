-- What a task awaits that waits till a writer is closed: a future that streams keep.
use Rattle.std.proofs.Common.{◌≡◌, ℕ, ◌<◌, ◌≤◌, true, List, [], Option, Some, None, length, slice_get, refl, sym, ap, subst, inr}
use Rattle.std.proofs.Common.{arith, ◌∙◌}
use Rattle.std.proofs.Common.{is_none, if◌then◌else◌}
use Rattle.std.proofs.Math.Logic.{∥∥₁_elim}
use Rattle.std.proofs.lemmas.Bool.{eq-eqb}
use Rattle.std.proofs.lemmas.List.Sums.{get_or-le-sum_by}
use Rattle.std.proofs.lemmas.Option.{get_or_from_slice_get, slice_get-get_or, slice_get_within}
use Rattle.std.specs.List.{sum_by}
use Rattle.std.specs.Option.{option_map}
use Rattle.model_value.specs.declared.input.Input.TheVariants.{Send, Throw}
use Rattle.model_value.specs.Input.{Input}
use Rattle.model_value.specs.Request.{Request}
use Rattle.model_value.specs.Value.{Outcome}
use Rattle.model_wire.specs.declared.event.Handed.{Handed}
use Rattle.model_wire.specs.declared.event.Handed.TheVariants as to
use Rattle.model_loop.specs.Futures.{is_pending_at, outcome_at}
use Rattle.model_loop.specs.Parts.{Future, Plain}
use Rattle.model_loop.specs.Suspend.{suspend}
use Rattle.model_stream.specs.Children.{Child}
use Rattle.model_stream.specs.Connections.{Connection}
use Rattle.model_stream.specs.Kept.{child_times, connection_asked, one_time, sender_times, times_asked}
use Rattle.model_stream.specs.Requests.{closed_future}
use Rattle.model_stream.specs.Senders.{Sender}
use Rattle.model_stream.specs.Streams.{Streams}
use Rattle.model_machine.specs.Outcomes.{input_of}
use Rattle.model_machine.specs.Replies as plain
use Rattle.model_machine.specs.Replies.{awaits, awaits_as}
use Rattle.model_machine.specs.State.{State}
use Rattle.refine_parts.proofs.Telling.{outcome_kept, pending_kept}
use Rattle.aio_cancel.specs.Awaitables.{Appended}
use Rattle.aio_task.specs.View.{View, parts}
use Rattle.aio_extra.specs.Added.{Added}
use Rattle.aio_body.specs.declared.run_state.RunState.{RunState}
use Rattle.aio_body.specs.declared.reply.RequestReply.{RequestReply}
use Rattle.aio_body.specs.declared.reply.RequestReply.TheVariants as said
use Rattle.aio_body.specs.Asked.{IsAskingFor, IsInStep, Says}
use Rattle.aio_body.specs.Outcomes.{RepliesAs, reply_of}
use Rattle.aio_body.specs.Stands.{Possible, Context}
use Rattle.aio_body.proofs.Within.{asked_within}
use Rattle.aio_body.proofs.May.{same_prop}
use Rattle.aio_body.proofs.Rooms.{waits_so}
use Rattle.aio_body.proofs.Telling.{kept_stays, named_spares}
use Rattle.refine_streams.proofs.Possible.{same_truth}
use Rattle.aio_streaming.specs.Written.{KeepsFuture}

-- ---- what is awaited is kept
some_is : (one other : ℕ) → Some one ≡ Some other → one ≡ other
some_is one other e = cc

its_own : (on : ℕ) → one_time on (Some on) ≡ 1
its_own on = ap (λ b. if b then 1 else 0) (eq-eqb on on refl)

closed_of : (on : ℕ) (s : Sender) → s.closed_future ≡ on → 0 < sender_times on s
closed_of on s e =
    let one : one_time on (Some s.closed_future) ≡ 1 = ap (λ n. one_time on (Some n)) e ∙ its_own on in
    omega (arith, one)

among : {A : Type 0} (w : A → ℕ) (xs : List A) (id : ℕ) (x : A) → slice_get xs id ≡ Some x → w x ≤ sum_by w xs
among w xs id x e =
    subst (λ y. w y ≤ sum_by w xs) (get_or_from_slice_get xs id x x e) (get_or-le-sum_by w xs id x (slice_get_within xs id x e))

pub closed_kept : (whom : Handed) (s : Streams) (on : ℕ) → closed_future whom s ≡ Some on → 0 < times_asked on s
closed_kept (to.Conn id) s on e = at (slice_get s.connections id) refl e
  where
    at : (found : Option Connection) → slice_get s.connections id ≡ found
        → option_map (λ (sender : Sender). sender.closed_future) (option_map (λ (c : Connection). c.sender) found) ≡ Some on
        → 0 < times_asked on s
    at None is none = absurd (cc)
    at (Some c) is same =
        let closed = closed_of on c.sender (some_is c.sender.closed_future on same) in
        let all = among (connection_asked on) s.connections id c is in
        omega (arith, closed, all)
closed_kept (to.Child id) s on e = at (slice_get s.children id) refl e
  where
    at : (found : Option Child) → slice_get s.children id ≡ found
        → option_map (λ (sender : Sender). sender.closed_future) (option_map (λ (p : Child). p.stdin) found) ≡ Some on
        → 0 < times_asked on s
    at None is none = absurd (cc)
    at (Some p) is same =
        let closed = closed_of on p.stdin (some_is p.stdin.closed_future on same) in
        let all = among (child_times on) s.children id p is in
        omega (arith, closed, all)

-- ---- the await
pending_at : (xs : List Future) (on : ℕ) → on < length xs → outcome_at (slice_get xs on) ≡ None
    → is_pending_at (slice_get xs on) ≡ true
pending_at xs on within none =
    let blank : Future = record { kind = Plain; outcome = None; callbacks = [] } in
    let there = slice_get-get_or xs on blank within in
    ap is_pending_at there ∙ ap is_none (sym (ap outcome_at there) ∙ none)

module _ {X : Type 0} {a : Added X} (task on : ℕ) (body : RunState X) where
  -- a request that was asked goes on in its step
  pub keeps_asked : (request : Request) (c : Context a) (s : State a.Kept) → IsAskingFor task request c body s
      → 0 < times_asked on s.streams
      → KeepsFuture task on c body s
  keeps_asked request c s h kept = record {
    going = record { in_step = h.going.in_step; sound = h.going.sound.others.loop; streams = h.going.sound.others.streams };
    kept = kept;
  }

  outcome_is : (c : Context a) (s : State a.Kept) → KeepsFuture task on c body s
      → outcome_at (slice_get body.parts.futures on) ≡ outcome_at (slice_get s.loop.parts.futures on)
  outcome_is c s h =
      let stands = h.going.in_step.stands in
      outcome_kept stands.name_map body.parts s.loop.parts stands.keeps on (kept_stays (Some task) c body s stands on h.kept)

  -- what it needs
  module _ (possible : Possible a (KeepsFuture task on) body) where
    pub keeps_idle : body.parts.called ≡ None
    keeps_idle = ∥∥₁_elim possible (same_prop body.parts.called None) (λ w. w.1.1.going.in_step.called)

    pub keeps_running : body.parts.running ≡ Some task
    keeps_running = ∥∥₁_elim possible (same_prop body.parts.running (Some task)) (λ w. w.1.1.going.in_step.running)

    pub keeps_pending : outcome_at (slice_get body.parts.futures on) ≡ None
        → is_pending_at (slice_get body.parts.futures on) ≡ true
    keeps_pending none =
        ∥∥₁_elim possible (same_truth (is_pending_at (slice_get body.parts.futures on)) true) (λ w.
        let s = w.1.0 in
        let h = w.1.1 in
        let stands = h.going.in_step.stands in
        pending_kept stands.name_map body.parts s.loop.parts stands.keeps on
        ∙ pending_at s.loop.parts.futures on (asked_within s h.going.streams on h.kept) (sym (outcome_is w.0 s h) ∙ none))

  -- what is done is told as it ended
  heard_so : (c : Context a) (s : State a.Kept) (input : Input) → IsInStep task c body s
      → Says task c body (reply_of input) (plain.replied input s)
  heard_so c s (Send value) h = (refl, h)
  heard_so c s (Throw fault) h = (refl, h)

  pub ended_so : (outcome : Outcome) → outcome_at (slice_get body.parts.futures on) ≡ Some outcome → (reply : RequestReply)
      → RepliesAs outcome reply
      → (c : Context a) (s : State a.Kept) → KeepsFuture task on c body s → Says task c body reply (awaits task on s)
  ended_so outcome is reply replies c s h =
      subst (Says task c body reply) (sym (ap (λ o. awaits_as o task on s) (sym (outcome_is c s h) ∙ is)))
      (subst (λ (r : RequestReply). Says task c body r (plain.replied (input_of outcome) s)) (sym replies)
      (heard_so c s (input_of outcome) h.going.in_step))

  -- else the task waits
  pub awaits_so : outcome_at (slice_get body.parts.futures on) ≡ None → (v : View)
      → parts v ≡ (suspend task on (parts body.parts)).parts
      → Appended body.parts.queue v.queue
      → v ≡ record body.parts { queue = v.queue; futures = v.futures; tasks = v.tasks; running = None }
      → (c : Context a) (s : State a.Kept) → KeepsFuture task on c body s
      → Says task c (record body { parts = v }) said.Suspends (awaits task on s)
  awaits_so none v after appended frame c s h =
      subst (Says task c (record body { parts = v }) said.Suspends)
      (sym (ap (λ o. awaits_as o task on s) (sym (outcome_is c s h) ∙ none)))
      (waits_so task on c body s v h.going.in_step (named_spares a s task on (inr (inr h.kept))) after appended frame)
