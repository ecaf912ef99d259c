-- One of the connections changes.
use Rattle.std.proofs.Common.{◌≡◌, ℕ, zero, suc, ◌<◌, ◌≤◌, List, [], ◌∷◌, Option, Some, None, Result, Ok, Err, IfOk}
use Rattle.std.proofs.Common.{OnOk, length, slice_get, slice_set, ◌∙◌, refl, sym, ap, subst}
use Rattle.std.proofs.Common.{Vec, vec_len, arith, slice_index_or}
use Rattle.std.specs.List.{AllByRecursion as Each}
use Rattle.std.specs.Option.{option_map}
use Rattle.std.proofs.lemmas.Option.{slice_get_past}
use Rattle.model_wire.specs.declared.event.Handed.TheVariants as to
use Rattle.model_stream.specs.declared.answers.Wrote.{Wrote}
use Rattle.model_stream.specs.declared.answers.Wrote.TheVariants as wrote
use Rattle.model_stream.specs.Connections.{Connection, its_receiver, write_to}
use Rattle.model_stream.specs.Doing.{Doing, Ends, and_then}
use Rattle.model_stream.specs.Receivers.{give_up_read}
use Rattle.model_stream.specs.Requests as requests
use Rattle.model_stream.specs.Requests.{OfConn, asked_one, noted, write, write_unnoted, written_by}
use Rattle.model_stream.specs.Streams.{Streams, its_connections, on_one}
use Rattle.aio_wire.specs.Outside.{Outside}
use Rattle.aio_wire.specs.declared.stop.Stop.{Stop}
use Rattle.aio_exchange.specs.Follows.{Follows, Reach, after_of, with_after}
use Rattle.aio_exchange.specs.Tells.{Tells}
use Rattle.aio_exchange.proofs.Following.{follows_ends, follows_stopped, follows_then}
use Rattle.aio_exchange.proofs.Telling.{tells_ends, tells_then}
use Rattle.aio_task.specs.View.{View}
use Rattle.aio_change.specs.Owned.{KeepsOwn}
use Rattle.aio_change.specs.Seen.{seen_changed}
use Rattle.aio_change.proofs.Owning.{are_kept, is_kept_if_any, told_keeps, went_keeps}
use Rattle.aio_connection.specs.Owned.{futures_of}
use Rattle.aio_connection.specs.Owned.{OwnsConnection}
use Rattle.aio_stream.specs.Kept.{Kept}
use Rattle.aio_stream.specs.Owned.{OwnsStreams}
use Rattle.aio_stream.specs.Standing.{Answers, Becomes, Comes, StandsAfter, StreamStandsFor, Told, ToldWith}

-- ---- reads of a list
pub at_place : {X : Type 0} (xs : List X) (id : ℕ) (x : X) → id < length xs → x ≡ slice_index_or xs id x → slice_get xs id ≡ Some x
at_place [] id x m e = absurd (omega (arith, m))
at_place (y ∷ ys) zero x m e = ap Some (sym e)
at_place (y ∷ ys) (suc id) x m e = at_place ys id x (omega (arith, m)) e

pub past_place : {X : Type 0} (xs : List X) (i : ℕ) → length xs ≤ i → slice_get xs i ≡ None
past_place xs i m = slice_get_past xs i m

-- what stands there already is put there
pub set_same : {X : Type 0} (xs : List X) (id : ℕ) (x : X) → slice_get xs id ≡ Some x → slice_set xs id x ≡ xs
set_same [] id x e = refl
set_same (y ∷ ys) zero x e = ap (λ it. it ∷ ys) (let same : x ≡ y = cc in same)
set_same (y ∷ ys) (suc id) x e = ap (λ those. y ∷ those) (set_same ys id x e)

pub counted : {X A : Type 0} (those : Vec X A) (count : ℕ) → count ≡ vec_len those → count ≡ length those.items
counted those count e = omega (arith, those.ok.0)

-- ---- those that are no task's
module _ (old new : View) (keeps : KeepsOwn old new) where
  kept_connection : (c : Connection) → OwnsConnection old c → OwnsConnection new c
  kept_connection c own = record {
    making = is_kept_if_any old new keeps c.making own.making;
    sender = are_kept old new keeps (futures_of c.sender) own.sender;
    waiter = is_kept_if_any old new keeps c.receiver.waiter own.waiter;
  }

  pub kept_connections : (cs : List Connection) → Each (OwnsConnection old) cs → Each (OwnsConnection new) cs
  kept_connections [] own = tt
  kept_connections (c ∷ cs) own = (kept_connection c own.0, kept_connections cs own.1)

  kept_placed : (cs : List Connection) (id : ℕ) (after : Connection) → Each (OwnsConnection old) cs → OwnsConnection new after
      → Each (OwnsConnection new) (slice_set cs id after)
  kept_placed [] id after own one = tt
  kept_placed (c ∷ cs) zero after own one = (one, kept_connections cs own.1)
  kept_placed (c ∷ cs) (suc id) after own one = (kept_connection c own.0, kept_placed cs id after own.1 one)

pub own_at : (v : View) (cs : List Connection) (id : ℕ) (c : Connection) → slice_get cs id ≡ Some c → Each (OwnsConnection v) cs → OwnsConnection v c
own_at v [] id c e own = absurd (let bad : ⊥ = cc in bad)
own_at v (x ∷ xs) zero c e own = subst (OwnsConnection v) (let same : x ≡ c = cc in same) own.0
own_at v (x ∷ xs) (suc id) c e own = own_at v xs id c e own.1

-- ---- a call on one that there is
module _ (k : Kept) (id : ℕ) (c after : Connection) (at : slice_get k.connections id ≡ Some c) where
  abbrev pub placed : Kept
  placed = record k { connections = slice_set k.connections id after }

  abbrev put_in : Streams → Streams
  put_in s = record s { connections = slice_set s.connections id after }

  stands_placed : (s : Streams) → StreamStandsFor k s → StandsAfter placed s (put_in s)
  stands_placed s h = (
    record {
      servers = h.servers;
      connections = ap (λ cs. slice_set cs id after) h.connections;
      opened = h.opened;
      most = h.most;
    },
    refl,
  )

  is_there : (s : Streams) → StreamStandsFor k s → Some c ≡ slice_get s.connections id
  is_there s h = sym (ap (λ cs. slice_get cs id) h.connections ∙ at)

  abbrev on_by : (Connection → Doing Connection) → Streams → Option Connection → Doing Streams
  on_by change s it = elim it [
    | None ↦ Ends s
    | Some one ↦ and_then (change one) (λ it. Ends (record s { connections = slice_set s.connections id it }))
  ]

  module _ {R W : Type 0} (o : Outside W) (change : Connection → Doing Connection) (old new : Reach View W)
      (result : Result R Stop) (f : Follows o seen_changed (change c) old new (after_of after result)) where
    pub comes_placed : Comes o (on_one its_connections id change) k placed old new result
    comes_placed s h = (
      put_in s,
      (
        subst (λ it. Follows o seen_changed (on_by change s it) old new (after_of (put_in s) result)) (is_there s h) (goes result f),
        ok result,
      ),
    )
      where
        goes : (r : Result R Stop) → Follows o seen_changed (change c) old new (after_of after r)
            → Follows o seen_changed (on_by change s (Some c)) old new (after_of (put_in s) r)
        goes (Ok done) f =
            follows_then o seen_changed (change c) (λ it. Ends (record s { connections = slice_set s.connections id it })) after old new new
            (Ok (put_in s)) f (follows_ends o seen_changed (put_in s) new)
        goes (Err why) f =
            follows_stopped o seen_changed (change c) (λ it. Ends (record s { connections = slice_set s.connections id it })) why old new f

        ok : (r : Result R Stop) → OnOk r (StandsAfter placed s (put_in s))
        ok (Ok said) = stands_placed s h
        ok (Err why) = tt

    pub own_placed : OnOk result (OwnsConnection new.parts after) → OwnsStreams old.parts k → OnOk result (OwnsStreams new.parts placed)
    own_placed one own = by result f one
      where
        by : (r : Result R Stop) → Follows o seen_changed (change c) old new (after_of after r) → OnOk r (OwnsConnection new.parts after)
            → OnOk r (OwnsStreams new.parts placed)
        by (Ok done) f one = kept_placed old.parts new.parts (went_keeps o (change c) old new after f) k.connections id after own one
        by (Err why) f one = tt

  -- a piece is written to it, which is noted in the streams alone
  module _ {W : Type 0} (o : Outside W) (piece : List ℕ) (old new : Reach View W) (result : Result Wrote Stop)
      (f : Follows o seen_changed (write_to id piece c) old new (with_after after result)) where
    abbrev unnoted_by : Streams → Option Connection → Doing (Streams × Wrote)
    unnoted_by s it = elim it [
      | None ↦ Ends (s, wrote.Done)
      | Some one ↦ and_then (write_to id piece one) (λ done. Ends (record s { connections = slice_set s.connections id done.0 }, done.1))
    ]

    unnoted : (s : Streams) → Some c ≡ slice_get s.connections id
        → Follows o seen_changed (unnoted_by s (slice_get s.connections id)) old new (with_after (put_in s) result)
    unnoted s there = subst (λ it. Follows o seen_changed (unnoted_by s it) old new (with_after (put_in s) result)) there (goes result f)
      where
        goes : (r : Result Wrote Stop) → Follows o seen_changed (write_to id piece c) old new (with_after after r)
            → Follows o seen_changed (unnoted_by s (Some c)) old new (with_after (put_in s) r)
        goes (Ok done) f =
            follows_then o seen_changed (write_to id piece c) (λ it. Ends (record s { connections = slice_set s.connections id it.0 }, it.1))
            (after, done) old new new (Ok (put_in s, done)) f (follows_ends o seen_changed (put_in s, done) new)
        goes (Err why) f =
            follows_stopped o seen_changed (write_to id piece c) (λ it. Ends (record s { connections = slice_set s.connections id it.0 }, it.1)) why
            old new f

    noted_so : (s : Streams) → StreamStandsFor k s → (noting : List ℕ)
        → Follows o seen_changed (write_unnoted (to.Conn id) piece (noted (to.Conn id) noting s)) old new
        (with_after (put_in (noted (to.Conn id) noting s)) result)
        × OnOk result (StandsAfter placed s (put_in (noted (to.Conn id) noting s)))
    noted_so s h [] = (unnoted s (is_there s h), ok result)
      where
        ok : (r : Result Wrote Stop) → OnOk r (StandsAfter placed s (put_in s))
        ok (Ok said) = stands_placed s h
        ok (Err why) = tt
    noted_so s h (byte ∷ bytes) =
        let it = noted (to.Conn id) (byte ∷ bytes) s in
        let stands : StreamStandsFor k it = record { servers = h.servers; connections = h.connections; opened = h.opened; most = h.most } in
        (unnoted it (is_there it stands), ok result)
      where
        ok : (r : Result Wrote Stop) → OnOk r (StandsAfter placed s (put_in (noted (to.Conn id) (byte ∷ bytes) s)))
        ok (Ok said) = (
          record {
            servers = h.servers;
            connections = ap (λ cs. slice_set cs id after) h.connections;
            opened = h.opened;
            most = h.most;
          },
          refl,
        )
        ok (Err why) = tt

    abbrev writes_by : Streams → Option Connection → Doing (Streams × Wrote)
    writes_by s it = elim (option_map (λ (c : Connection). c.sender) it) [
      | None ↦ Ends (s, wrote.Done)
      | Some sender ↦ write_unnoted (to.Conn id) piece (noted (to.Conn id) (written_by (to.Conn id) piece sender) s)
    ]

    pub writes_placed : Answers o (write (to.Conn id) piece) k placed old new result
    writes_placed s h =
        let done = noted_so s h (written_by (to.Conn id) piece c.sender) in
        let after_it : Streams = put_in (noted (to.Conn id) (written_by (to.Conn id) piece c.sender) s) in
        (after_it, (subst (λ it. Follows o seen_changed (writes_by s it) old new (with_after after_it result)) (is_there s h) done.0, done.1))

    pub own_written : OnOk result (OwnsConnection old.parts c → OwnsConnection new.parts after) → OwnsStreams old.parts k
        → OnOk result (OwnsStreams new.parts placed)
    own_written one own = by result f one
      where
        by : (r : Result Wrote Stop) → Follows o seen_changed (write_to id piece c) old new (with_after after r)
            → OnOk r (OwnsConnection old.parts c → OwnsConnection new.parts after) → OnOk r (OwnsStreams new.parts placed)
        by (Ok done) f one =
            kept_placed old.parts new.parts (went_keeps o (write_to id piece c) old new (after, done) f) k.connections id after own
            (one (own_at old.parts k.connections id c at own))
        by (Err why) f one = tt

  -- a call that asks nothing
  module _ {R E : Type 0} (change : Connection → Doing Connection) (old new : View) (result : Result R E)
      (f : OnOk result (Tells seen_changed (change c) old new after)) where
    pub told_placed : OnOk result (Told (on_one its_connections id change) k placed old new)
    told_placed = by result f
      where
        by : (r : Result R E) → OnOk r (Tells seen_changed (change c) old new after) → OnOk r (Told (on_one its_connections id change) k placed old new)
        by (Ok done) f = λ s h. (
          put_in s,
          (
            subst (λ it. Tells seen_changed (on_by change s it) old new (put_in s)) (is_there s h)
                (tells_then seen_changed (change c) (λ it. Ends (record s { connections = slice_set s.connections id it })) after old new new (put_in s) f
                (tells_ends seen_changed (put_in s) new)),
            stands_placed s h,
          ),
        )
        by (Err why) f = tt

    pub own_told : OnOk result (OwnsConnection new after) → OwnsStreams old k → OnOk result (OwnsStreams new placed)
    own_told one own = by result f one
      where
        by : (r : Result R E) → OnOk r (Tells seen_changed (change c) old new after) → OnOk r (OwnsConnection new after) → OnOk r (OwnsStreams new placed)
        by (Ok done) f one = kept_placed old new (told_keeps (change c) old new after f) k.connections id after own one
        by (Err why) f one = tt

  -- a call with an answer that asks nothing
  module _ {R S E : Type 0} (other : S) (change : Connection → Doing (Connection × S)) (said_as : R → S) (old new : View) (result : Result R E)
      (f : IfOk result (λ said. Tells seen_changed (change c) old new (after, said_as said))) where
    abbrev asked_by : Streams → Option Connection → Doing (Streams × S)
    asked_by s it = elim it [
      | None ↦ Ends (s, other)
      | Some one ↦ and_then (change one) (λ it. Ends (record s { connections = slice_set s.connections id it.0 }, it.1))
    ]

    pub said_placed : IfOk result (λ said. ToldWith (asked_one its_connections other id change) k placed old new (said_as said))
    said_placed = by result f
      where
        by : (r : Result R E) → IfOk r (λ said. Tells seen_changed (change c) old new (after, said_as said))
            → IfOk r (λ said. ToldWith (asked_one its_connections other id change) k placed old new (said_as said))
        by (Ok said) f = λ s h. (
          put_in s,
          (
            subst (λ it. Tells seen_changed (asked_by s it) old new (put_in s, said_as said)) (is_there s h)
                (tells_then seen_changed (change c) (λ it. Ends (record s { connections = slice_set s.connections id it.0 }, it.1)) (after, said_as said)
                old new new (put_in s, said_as said) f (tells_ends seen_changed {A = Streams × S} (put_in s, said_as said) new)),
            stands_placed s h,
          ),
        )
        by (Err why) f = tt

    pub own_said : OnOk result (OwnsConnection old c → OwnsConnection new after) → OwnsStreams old k → OnOk result (OwnsStreams new placed)
    own_said one own = by result f one
      where
        by : (r : Result R E) → IfOk r (λ said. Tells seen_changed (change c) old new (after, said_as said))
            → OnOk r (OwnsConnection old c → OwnsConnection new after) → OnOk r (OwnsStreams new placed)
        by (Ok said) f one =
            kept_placed old new (told_keeps (change c) old new (after, said_as said) f) k.connections id after own
            (one (own_at old k.connections id c at own))
        by (Err why) f one = tt

  -- a read that gives up
  module _ (on : ℕ) (is : after ≡ its_receiver.put (give_up_read on c.receiver) c) where
    abbrev given_by : Streams → Option Connection → Streams
    given_by s it = elim it [
      | None ↦ s
      | Some one ↦ record s { connections = slice_set s.connections id (its_receiver.put (give_up_read on one.receiver) one) }
    ]

    pub given_placed : Becomes (requests.give_up_read on (OfConn id)) k placed
    given_placed s h =
        subst (λ it. StandsAfter placed s (given_by s it)) (is_there s h)
        (subst (λ a. StandsAfter placed s (record s { connections = slice_set s.connections id a })) is (stands_placed s h))

-- ---- on one that there isn't
module _ (k : Kept) (id : ℕ) (past : slice_get k.connections id ≡ None) where
  none_there : (s : Streams) → StreamStandsFor k s → None ≡ slice_get s.connections id
  none_there s h = sym (ap (λ cs. slice_get cs id) h.connections ∙ past)

  pub given_absent : (on : ℕ) → Becomes (requests.give_up_read on (OfConn id)) k k
  given_absent on s h =
      subst (λ (it : Option Connection). StandsAfter k s
      (elim it [
        | None ↦ s
        | Some one ↦ record s { connections = slice_set s.connections id (its_receiver.put (give_up_read on one.receiver) one) }
      ])) (none_there s h) (h, refl)

  pub comes_absent : {R W : Type 0} (o : Outside W) (change : Connection → Doing Connection) (at : Reach View W) (result : R)
      → Comes o (on_one its_connections id change) k k at at (Ok result)
  comes_absent o change at result s h = (
    s,
    (
      subst (λ (it : Option Connection). Follows o seen_changed
          (elim it [
            | None ↦ Ends s
            | Some one ↦ and_then (change one) (λ it. Ends (record s { connections = slice_set s.connections id it }))
          ]) at at (Ok s)) (none_there s h) (follows_ends o seen_changed s at),
      (h, refl),
    ),
  )

  pub writes_absent : {W : Type 0} (o : Outside W) (piece : List ℕ) (at : Reach View W)
      → Answers o (write (to.Conn id) piece) k k at at (Ok wrote.Done)
  writes_absent o piece at s h = (
    s,
    (
      subst (λ (it : Option Connection). Follows {A = Streams × Wrote} o seen_changed
          (elim (option_map (λ (c : Connection). c.sender) it) [
            | None ↦ Ends (s, wrote.Done)
            | Some sender ↦ write_unnoted (to.Conn id) piece (noted (to.Conn id) (written_by (to.Conn id) piece sender) s)
          ]) at at (Ok (s, wrote.Done))) (none_there s h) (follows_ends o seen_changed {A = Streams × Wrote} (s, wrote.Done) at),
      (h, refl),
    ),
  )

  pub said_absent : {S : Type 0} (other : S) (change : Connection → Doing (Connection × S)) (at : View)
      → ToldWith (asked_one its_connections other id change) k k at at other
  said_absent {S} other change at s h = (
    s,
    (
      subst (λ (it : Option Connection). Tells {A = Streams × S} seen_changed
          (elim it [
            | None ↦ Ends (s, other)
            | Some one ↦ and_then (change one) (λ it. Ends (record s { connections = slice_set s.connections id it.0 }, it.1))
          ]) at at (s, other)) (none_there s h) (tells_ends seen_changed {A = Streams × S} (s, other) at),
      (h, refl),
    ),
  )

  pub told_absent : (change : Connection → Doing Connection) (at : View) → Told (on_one its_connections id change) k k at at
  told_absent change at s h = (
    s,
    (
      subst (λ (it : Option Connection). Tells seen_changed
          (elim it [
            | None ↦ Ends s
            | Some one ↦ and_then (change one) (λ it. Ends (record s { connections = slice_set s.connections id it }))
          ]) at at s) (none_there s h) (tells_ends seen_changed s at),
      (h, refl),
    ),
  )
