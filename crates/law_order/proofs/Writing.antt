-- A write keeps the order of each: the piece is noted, and what of it was handed on is its front.
use Rattle.std.proofs.Common.{◌≡◌, ℕ, cond, List, [], ◌∷◌, ◌++◌, Option, Some, None, slice_get, refl, sym, subst}
use Rattle.std.specs.Option.{option_map}
use Rattle.model_wire.specs.declared.event.Handed.{Handed}
use Rattle.model_wire.specs.declared.event.Handed.TheVariants as to
use Rattle.model_stream.specs.declared.answers.Wrote.{Wrote}
use Rattle.model_stream.specs.declared.answers.Wrote.TheVariants as wrote
use Rattle.model_stream.specs.Children as child
use Rattle.model_stream.specs.Children.{Child}
use Rattle.model_stream.specs.Connections as connection
use Rattle.model_stream.specs.Connections.{Connection}
use Rattle.model_stream.specs.Doing.{Doing, Ends, and_then}
use Rattle.model_stream.specs.History.{is_same, written_to}
use Rattle.model_stream.specs.Requests.{noted, written_by, write_unnoted, write}
use Rattle.model_stream.specs.Streams.{Streams}
use Rattle.law_stream.specs.SoundSenders.{IsSoundSender}
use Rattle.law_stream.specs.Ways.{Move, Always}
use Rattle.law_stream.proofs.Along.{always_into, always_map}
use Rattle.law_order.specs.Sides.{AreKept, KeepsAllWith, standing_of}
use Rattle.law_order.proofs.AllSides.{unchanged}
use Rattle.law_order.proofs.Among.{always_all, each_child, each_conn, none_written, noted_more, now_child, now_conn, stands_same}
use Rattle.law_order.proofs.Framed as framed
use Rattle.law_order.specs.Fronts.{Continues, KeepsFrontBy}
use Rattle.law_order.proofs.OwnOrder.{always_back, child_write_front, write_front}

-- from the streams in which the piece is noted
gather_noted : {X : Type 0} (s t : Streams) (now : X → Streams) (whose : Handed) (piece : List ℕ) (doing : Doing X)
    → ((x : X) → (now x).written ≡ t.written) → ((whom : Handed) → standing_of whom t ≡ standing_of whom s)
    → ((whom : Handed) → written_to whom t.written ≡ written_to whom s.written ++ cond (is_same whom whose) piece [])
    → ((whom : Handed) → IsSoundSender (standing_of whom t)
    → Always (λ moves x. KeepsFrontBy Continues whom (cond (is_same whom whose) piece []) (standing_of whom t) moves (standing_of whom (now x))) doing)
    → Always (λ moves x. AreKept s moves (now x)) doing
gather_noted {X} s t now whose piece doing same stands wrote_it each =
    always_map
    (λ moves (x : X). (whom : Handed) → IsSoundSender (standing_of whom t)
    → KeepsFrontBy Continues whom (cond (is_same whom whose) piece []) (standing_of whom t) moves (standing_of whom (now x)))
    (λ moves x. AreKept s moves (now x)) doing
    (λ moves x h whom sound. (
      cond (is_same whom whose) piece [],
      record {
        written = subst (λ xs. written_to whom xs ≡ written_to whom s.written ++ cond (is_same whom whose) piece []) (sym (same x)) (wrote_it whom);
        keeps = subst (λ before. KeepsFrontBy Continues whom (cond (is_same whom whose) piece []) before moves (standing_of whom (now x))) (stands whom)
            (h whom (subst IsSoundSender (sym (stands whom)) sound));
      },
    ))
    (always_all (λ (whom : Handed) moves (x : X). IsSoundSender (standing_of whom t)
    → KeepsFrontBy Continues whom (cond (is_same whom whose) piece []) (standing_of whom t) moves (standing_of whom (now x))) doing
    (λ whom.
    always_all (λ (sound : IsSoundSender (standing_of whom t)) moves (x : X).
    KeepsFrontBy Continues whom (cond (is_same whom whose) piece []) (standing_of whom t) moves (standing_of whom (now x))) doing (each whom)))

abbrev Wrote_ : Streams → List Move → Streams × Wrote → Type 0
Wrote_ s moves done = AreKept s moves done.0

module _ (id : ℕ) (piece : List ℕ) (s : Streams) where
  conn_writes_at : (c : Connection) (t : Streams) → slice_get t.connections id ≡ Some c → ((whom : Handed) → standing_of whom t ≡ standing_of whom s)
      → ((whom : Handed)
      → written_to whom t.written ≡ written_to whom s.written ++ cond (is_same whom (to.Conn id)) (written_by (to.Conn id) piece c.sender) [])
      → Always (Wrote_ s) (write_unnoted (to.Conn id) piece t)
  conn_writes_at c t e stands wrote_it =
      subst
      (λ found. Always (Wrote_ s) (elim found [
        | None ↦ Ends (t, wrote.Done)
        | Some one ↦ and_then (connection.write_to id piece one) (λ done. Ends (now_conn t id done.0, done.1))
      ]))
      (sym e)
      (always_into (Wrote_ s) (λ (done : Connection × Wrote). (now_conn t id done.0, done.1)) (connection.write_to id piece c)
      (gather_noted {X = Connection × Wrote} s t (λ done. now_conn t id done.0) (to.Conn id) (written_by (to.Conn id) piece c.sender)
      (connection.write_to id piece c) (λ done. refl) stands wrote_it
      (each_conn {X = Connection × Wrote} Continues t id (written_by (to.Conn id) piece c.sender) (connection.write_to id piece c) (λ done. done.0) c e
      (write_front id piece c) (framed.write_to_framed id piece c))))

  child_writes_at : (p : Child) (t : Streams) → slice_get t.children id ≡ Some p → ((whom : Handed) → standing_of whom t ≡ standing_of whom s)
      → ((whom : Handed)
      → written_to whom t.written ≡ written_to whom s.written ++ cond (is_same whom (to.Child id)) (written_by (to.Child id) piece p.stdin) [])
      → Always (Wrote_ s) (write_unnoted (to.Child id) piece t)
  child_writes_at p t e stands wrote_it =
      subst
      (λ found. Always (Wrote_ s) (elim found [
        | None ↦ Ends (t, wrote.Done)
        | Some one ↦ and_then (child.write_child id piece one) (λ done. Ends (now_child t id done.0, done.1))
      ]))
      (sym e)
      (always_into (Wrote_ s) (λ (done : Child × Wrote). (now_child t id done.0, done.1)) (child.write_child id piece p)
      (gather_noted {X = Child × Wrote} s t (λ done. now_child t id done.0) (to.Child id) (written_by (to.Child id) piece p.stdin)
      (child.write_child id piece p) (λ done. refl) stands wrote_it
      (each_child {X = Child × Wrote} Continues t id (written_by (to.Child id) piece p.stdin) (child.write_child id piece p) (λ done. done.0) p e
      (λ sound.
      always_back {A = Child × Wrote} {B = Child}
      (λ moves after. KeepsFrontBy Continues (to.Child id) (written_by (to.Child id) piece p.stdin) p.stdin moves after.stdin) (λ done. done.0)
      (child.write_child id piece p) (child_write_front id piece p sound)) (framed.child_write_framed id piece p))))

  -- the piece is noted where there is one
  noting : (whose : Handed) (P : Streams → Type 0) (written : List ℕ)
      → ((t : Streams) → t.connections ≡ s.connections → t.children ≡ s.children → ((whom : Handed) → standing_of whom t ≡ standing_of whom s)
      → ((whom : Handed) → written_to whom t.written ≡ written_to whom s.written ++ cond (is_same whom whose) written []) → P t)
      → P (noted whose written s)
  noting whose P [] each = each s refl refl (λ whom. refl) (λ whom. none_written (is_same whom whose) (written_to whom s.written))
  noting whose P (byte ∷ bytes) each =
      let now = noted whose (byte ∷ bytes) s in
      each now refl refl (stands_same s now refl refl) (λ whom. noted_more whom s.written whose (byte ∷ bytes))

pub writes : (whom : Handed) (piece : List ℕ) (s : Streams) → KeepsAllWith {R = Wrote} s (write whom piece s)
writes (to.Conn id) piece s = at (slice_get s.connections id) refl
  where
    at : (found : Option Connection) → slice_get s.connections id ≡ found
        → Always (Wrote_ s) (elim (option_map (λ (c : Connection). c.sender) found) [
          | None ↦ Ends (s, wrote.Done)
          | Some sender ↦ write_unnoted (to.Conn id) piece (noted (to.Conn id) (written_by (to.Conn id) piece sender) s)
        ])
    at None e = unchanged s
    at (Some c) e =
        noting id piece s (to.Conn id) (λ t. Always (Wrote_ s) (write_unnoted (to.Conn id) piece t)) (written_by (to.Conn id) piece c.sender)
        (λ t conns childs stands wrote_it.
        conn_writes_at id piece s c t (subst (λ cs. slice_get cs id ≡ Some c) (sym conns) e) stands wrote_it)
writes (to.Child id) piece s = at (slice_get s.children id) refl
  where
    at : (found : Option Child) → slice_get s.children id ≡ found
        → Always (Wrote_ s) (elim (option_map (λ (p : Child). p.stdin) found) [
          | None ↦ Ends (s, wrote.Done)
          | Some sender ↦ write_unnoted (to.Child id) piece (noted (to.Child id) (written_by (to.Child id) piece sender) s)
        ])
    at None e = unchanged s
    at (Some p) e =
        noting id piece s (to.Child id) (λ t. Always (Wrote_ s) (write_unnoted (to.Child id) piece t)) (written_by (to.Child id) piece p.stdin)
        (λ t conns childs stands wrote_it.
        child_writes_at id piece s p t (subst (λ ps. slice_get ps id ≡ Some p) (sym childs) e) stands wrote_it)
