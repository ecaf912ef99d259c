-- A connect begins.
use Rattle.std.proofs.Common.{◌≡◌, ℕ, ◌+◌, true, false, Option, Some, None, Result, Ok, Err, length}
use Rattle.std.proofs.Common.{◌∙◌, refl, sym, ap, subst}
use Rattle.model_wire.specs.Call.{Answer}
use Rattle.model_wire.specs.declared.answer.Answer.TheVariants as answer
use Rattle.model_wire.specs.declared.call.Call.TheVariants as call
use Rattle.model_stream.specs.Answers.{is_conn}
use Rattle.model_stream.specs.Connections.{Connection, connecting}
use Rattle.model_stream.specs.Doing.{Ends, Changes, MakeFuture}
use Rattle.model_stream.specs.Streams.{Streams, add_connection, begun, connect}
use Rattle.aio_wire.specs.Outside.{Outside}
use Rattle.aio_wire.specs.declared.stop.Stop.{Stop}
use Rattle.aio_wire.specs.declared.stop.Stop.TheVariants as stop
use Rattle.aio_exchange.specs.Exchanged.{AsksOne}
use Rattle.aio_exchange.specs.Follows.{Follows, Reach}
use Rattle.aio_exchange.proofs.Following.{follows_ends, follows_unless, follows_where}
use Rattle.aio_exchange.proofs.Telling.{tells_changed, tells_end, tells_follow}
use Rattle.aio_task.specs.View.{View}
use Rattle.aio_change.specs.Owned.{IsOwn, KeepsOwn}
use Rattle.aio_change.specs.Seen.{seen_changed}
use Rattle.aio_change.proofs.AfterAsking.{asks_met, asks_on, asks_starved}
use Rattle.aio_change.proofs.Owning.{own_changed, own_made}
use Rattle.aio_stream.specs.Kept.{Kept, with_connection}
use Rattle.aio_stream.specs.Owned.{OwnsStreams}
use Rattle.aio_stream.specs.Standing.{Answers, StreamStandsFor, ToldWith}
use Rattle.aio_listener.proofs.Accepts.{one_more_made, own_with, stands_with_connection}
use Rattle.aio_stream.proofs.Placing.{kept_connections}

-- ---- a connection is being made
module _ (k after : Kept) (closed on id : ℕ) (old first new : View) (closed_is : closed ≡ length old.futures) (on_is : on ≡ length first.futures)
    (id_is : id ≡ length k.connections) (made : first ≡ seen_changed MakeFuture old) (then_made : new ≡ seen_changed MakeFuture first)
    (is : after ≡ with_connection (connecting closed on) k) where
  on_next : on ≡ length old.futures + 1
  on_next = on_is ∙ one_more_made old first made

  pub begins_told : (result : ℕ × ℕ) → result ≡ (id, on) → ToldWith (λ s. begun (length old.futures) s answer.Conn) k after old new (Some result)
  begins_told result result_is s h =
      let next = length old.futures in
      let c : Connection = connecting next (next + 1) in
      let ended : Streams × Option (ℕ × ℕ) = (add_connection c s, Some (length s.connections, next + 1)) in
      let said : Streams × Option (ℕ × ℕ) = (add_connection c s, Some result) in
      let same : (id, on) ≡ (length s.connections, next + 1) =
      ap (λ (i : ℕ). (i, on)) (id_is ∙ ap length (sym h.connections)) ∙ ap (λ (f : ℕ). (length s.connections, f)) on_next in (
        add_connection c s,
        (
          tells_changed seen_changed MakeFuture (Changes MakeFuture (Ends ended)) old first new said made
              (tells_changed seen_changed MakeFuture (Ends ended) first new new said then_made
              (tells_end seen_changed ended said new (ap (λ (p : ℕ × ℕ). (add_connection c s, Some p)) (result_is ∙ same)))),
          (
            subst (λ (it : Kept). StreamStandsFor it (add_connection c s))
                (sym (is ∙ ap (λ (f : ℕ). with_connection (connecting f on) k) closed_is ∙ ap (λ (f : ℕ). with_connection (connecting next f) k) on_next))
                (stands_with_connection k c s h),
            refl,
          ),
        ),
      )

  pub begins_own : OwnsStreams old k → OwnsStreams new after
  begins_own own =
      subst (OwnsStreams new) (sym is)
      (own_with new k.connections (connecting closed on) (kept_connections old new keeps k.connections own)
      (record { making = the_connect; sender = (the_closed, tt); waiter = tt }))
    where
      to_first : (future : ℕ) → IsOwn (seen_changed MakeFuture old) future → IsOwn first future
      to_first future it = subst (λ (v : View). IsOwn v future) (sym made) it

      to_new : (future : ℕ) → IsOwn (seen_changed MakeFuture first) future → IsOwn new future
      to_new future it = subst (λ (v : View). IsOwn v future) (sym then_made) it

      keeps : KeepsOwn old new
      keeps future it =
          to_new future (own_changed MakeFuture first future (to_first future (own_changed MakeFuture old future it)))

      the_closed : IsOwn new closed
      the_closed = to_new closed (own_changed MakeFuture first closed (to_first closed
          (subst (λ (f : ℕ). IsOwn (seen_changed MakeFuture old) f) (sym closed_is) (own_made old))))

      the_connect : IsOwn new on
      the_connect = to_new on (subst (λ (f : ℕ). IsOwn (seen_changed MakeFuture first) f) (sym on_is) (own_made first))

-- ---- `connect`
module _ {W : Type 0} (o : Outside W) (number next : ℕ) (k : Kept) (old mid : Reach View W) where
  pub connect_met : (after : Kept) (why : Stop) → AsksOne o (call.Connect number) old.port mid.port (Err why) → mid.parts ≡ old.parts
      → Answers {R = Option (ℕ × ℕ)} o (connect number next) k after old mid (Err why)
  connect_met after why one parts s h =
      (s, (asks_met o (call.Connect number) (call.Connect number) (begun next s) refl why old mid one parts, tt))

  module _ (came : Answer) (one : AsksOne o (call.Connect number) old.port mid.port (Ok came)) (parts : mid.parts ≡ old.parts) where
    comes_on : (s : Streams) (new : Reach View W) (result : Result (Streams × Option (ℕ × ℕ)) Stop)
        → Follows o seen_changed (begun next s came) mid new result
        → Follows o seen_changed (connect number next s) old new result
    comes_on s new result f = asks_on o (call.Connect number) (call.Connect number) (begun next s) refl came old mid new result one parts f

    -- it is refused
    pub connect_refused : is_conn came ≡ false → Answers {R = Option (ℕ × ℕ)} o (connect number next) k k old mid (Ok None)
    connect_refused e s h = (
      s,
      (
        comes_on s mid (Ok (s, None)) (follows_unless o seen_changed {A = Streams × Option (ℕ × ℕ)} (is_conn came)
            (begun next s answer.Conn) (Ends (s, None)) mid mid (Ok (s, None)) e
            (follows_ends o seen_changed {A = Streams × Option (ℕ × ℕ)} (s, None) mid)),
        (h, refl),
      ),
    )

    -- memory was refused after it
    pub connect_starved : (after : Kept) (new : Reach View W) → new.port ≡ mid.port
        → Answers {R = Option (ℕ × ℕ)} o (connect number next) k after old new (Err stop.Memory)
    connect_starved after new port s h =
        (s, (asks_starved o (call.Connect number) (call.Connect number) (begun next s) refl came old mid new one parts port, tt))

    pub connect_begins : (after : Kept) (new : Reach View W) (result : ℕ × ℕ) → is_conn came ≡ true → new.port ≡ mid.port
        → ToldWith (λ s. begun next s answer.Conn) k after mid.parts new.parts (Some result)
        → Answers {R = Option (ℕ × ℕ)} o (connect number next) k after old new (Ok (Some result))
    connect_begins after new result e port told s h =
        let it = told s h in (
          it.0,
          (
            comes_on s new (Ok (it.0, Some result)) (follows_where o seen_changed {A = Streams × Option (ℕ × ℕ)} (is_conn came)
                (begun next s answer.Conn) (Ends (s, None)) mid new (Ok (it.0, Some result)) e
                (tells_follow seen_changed o (begun next s answer.Conn) mid new (it.0, Some result) it.1.0 port)),
            it.1.1,
          ),
        )
