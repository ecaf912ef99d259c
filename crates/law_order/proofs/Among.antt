-- What one connection or child does, and what opens one, keeps the order of each among all.
use Rattle.std.proofs.Common.{◌≡◌, ◌⊎◌, inl, inr, ℕ, Bool, true, false, cond, List, [], ◌∷◌, ◌++◌, Option, Some, None, length, slice_get, slice_set}
use Rattle.std.proofs.Common.{refl, sym, ap, subst, ◌∙◌}
use Rattle.std.specs.Option.{option_map}
use Rattle.std.proofs.lemmas.Bool.{cases_eq, eqb-true, eqb-false}
use Rattle.std.proofs.lemmas.List.{append-nil, append_assoc}
use Rattle.model_wire.specs.declared.event.Handed.{Handed}
use Rattle.model_wire.specs.declared.event.Handed.TheVariants as to
use Rattle.model_stream.specs.Children.{Child, new_child}
use Rattle.model_stream.specs.Connections.{Connection}
use Rattle.model_stream.specs.Doing.{Doing, Ends, Changes, Asks}
use Rattle.model_stream.specs.History.{is_same, written_to}
use Rattle.model_stream.specs.Senders.{Sender, new_sender}
use Rattle.model_stream.specs.Streams.{Streams, Written, add_child, add_connection}
use Rattle.law_cancel.proofs.Lookups.{get-set_kept, get-set_other, get-set_same, get-push_last, get-push_other}
use Rattle.law_stream.specs.SoundSenders.{IsSoundSender}
use Rattle.law_stream.specs.Ways.{Move, Did, Heard, Always}
use Rattle.law_stream.proofs.Along.{always_map}
use Rattle.law_stream.proofs.SoundSends.{new_sound}
use Rattle.law_order.specs.Frames.{IsApart, IsFramed}
use Rattle.law_order.proofs.Framing.{framed_hands}
use Rattle.law_order.specs.Fronts.{Continues, KeepsFrontBy, Way}
use Rattle.law_order.proofs.Fronts.{front_as, front_both, front_still}
use Rattle.law_order.specs.Sides.{AreKept, AreKeptBy, KeepsSide, standing_as, standing_of}

-- for each of some
pub always_all : {A I : Type 0} (Holds : I → List Move → A → Type 0) (doing : Doing A) → ((i : I) → Always (Holds i) doing)
    → Always (λ moves result. (i : I) → Holds i moves result) doing
always_all Holds (Ends result) each = each
always_all Holds (Changes change rest) each = always_all (λ i moves. Holds i (Did change ∷ moves)) rest each
always_all Holds (Asks call rest) each =
    λ answer fit. always_all (λ i moves. Holds i (Heard call answer ∷ moves)) (rest answer) (λ i. each i answer fit)

-- ---- who is the same
same_is : (whom other : Handed) → is_same whom other ≡ true → whom ≡ other
same_is (to.Conn id) (to.Conn other) is = ap to.Conn (eqb-true id other is)
same_is (to.Conn id) (to.Child other) is = absurd (let bad : ⊥ = cc in bad)
same_is (to.Child id) (to.Conn other) is = absurd (let bad : ⊥ = cc in bad)
same_is (to.Child id) (to.Child other) is = ap to.Child (eqb-true id other is)

abbrev pub now_conn : Streams → ℕ → Connection → Streams
now_conn s id c = record s { connections = slice_set s.connections id c }

abbrev pub now_child : Streams → ℕ → Child → Streams
now_child s id p = record s { children = slice_set s.children id p }

abbrev conn_as : Option Connection → Sender
conn_as o = standing_as (option_map (λ (c : Connection). c.sender) o)

abbrev child_as : Option Child → Sender
child_as o = standing_as (option_map (λ (p : Child). p.stdin) o)

pub apart_conn : (whom : Handed) (s : Streams) (id : ℕ) (c : Connection) → is_same whom (to.Conn id) ≡ false
    → standing_of whom (now_conn s id c) ≡ standing_of whom s
apart_conn (to.Conn other) s id c apart =
    ap conn_as (get-set_other s.connections id other c (λ same. eqb-false other id apart (sym same)))
apart_conn (to.Child other) s id c apart = refl

pub apart_child : (whom : Handed) (s : Streams) (id : ℕ) (p : Child) → is_same whom (to.Child id) ≡ false
    → standing_of whom (now_child s id p) ≡ standing_of whom s
apart_child (to.Conn other) s id p apart = refl
apart_child (to.Child other) s id p apart =
    ap child_as (get-set_other s.children id other p (λ same. eqb-false other id apart (sym same)))

-- where connections and children are the same
pub stands_same : (s after : Streams) → after.connections ≡ s.connections → after.children ≡ s.children → (whom : Handed)
    → standing_of whom after ≡ standing_of whom s
stands_same s after connections children (to.Conn id) = ap (λ cs. conn_as (slice_get cs id)) connections
stands_same s after connections children (to.Child id) = ap (λ ps. child_as (slice_get ps id)) children

-- what doesn't touch a sender
pub still_conn : (whom : Handed) (s : Streams) (id : ℕ) (c after : Connection) → slice_get s.connections id ≡ Some c → after.sender ≡ c.sender
    → standing_of whom (now_conn s id after) ≡ standing_of whom s
still_conn (to.Conn other) s id c after e same = get-set_kept conn_as s.connections id other c after e same
still_conn (to.Child other) s id c after e same = refl

pub still_child : (whom : Handed) (s : Streams) (id : ℕ) (p after : Child) → slice_get s.children id ≡ Some p → after.stdin ≡ p.stdin
    → standing_of whom (now_child s id after) ≡ standing_of whom s
still_child (to.Conn other) s id p after e same = refl
still_child (to.Child other) s id p after e same = get-set_kept child_as s.children id other p after e same

-- ---- one of them does something, by which this piece is written to it
abbrev Front : (way : Way) (whom : Handed) (piece : List ℕ) (s : Streams) (moves : List Move) (after : Streams) → Type 0
Front way whom piece s moves after = KeepsFrontBy way whom piece (standing_of whom s) moves (standing_of whom after)

front_by : (way : Way) (whom : Handed) (piece : List ℕ) (x : Sender) (moves : List Move) (y : Sender) (s after : Streams) → standing_of whom s ≡ x
    → standing_of whom after ≡ y → KeepsFrontBy way whom piece x moves y → Front way whom piece s moves after
front_by way whom piece x moves y s after was is keeps =
    subst (λ now. KeepsFrontBy way whom piece (standing_of whom s) moves now) (sym is)
    (subst (λ before. KeepsFrontBy way whom piece before moves y) (sym was) keeps)

-- one that it is no matter of
other_by : (way : Way) (whom : Handed) (moves : List Move) (s after : Streams) → IsSoundSender (standing_of whom s)
    → standing_of whom after ≡ standing_of whom s → IsApart whom moves → Front way whom [] s moves after
other_by way whom moves s after sound same none =
    front_by way whom [] (standing_of whom s) moves (standing_of whom s) s after refl same
    (front_as way whom [] (standing_of whom s) moves (standing_of whom s) (front_still whom (standing_of whom s) moves sound none))

module _ {X : Type 0} (way : Way) (s : Streams) (id : ℕ) (piece : List ℕ) (doing : Doing X) where
  module _ (get : X → Connection) (c : Connection) (e : slice_get s.connections id ≡ Some c)
      (here : IsSoundSender c.sender → Always (λ moves x. KeepsFrontBy way (to.Conn id) piece c.sender moves (get x).sender) doing)
      (framed : IsFramed (to.Conn id) doing) where
    own_conn : IsSoundSender (standing_of (to.Conn id) s) → Always (λ moves x. Front way (to.Conn id) piece s moves (now_conn s id (get x))) doing
    own_conn sound =
        let was = ap conn_as e in
        always_map (λ moves x. KeepsFrontBy way (to.Conn id) piece c.sender moves (get x).sender)
        (λ moves x. Front way (to.Conn id) piece s moves (now_conn s id (get x))) doing
        (λ moves x keeps.
        front_by way (to.Conn id) piece c.sender moves (get x).sender s (now_conn s id (get x)) was
        (ap conn_as (get-set_same s.connections id c (get x) e)) keeps)
        (here (subst IsSoundSender was sound))

    pub each_conn : (whom : Handed) → IsSoundSender (standing_of whom s)
        → Always (λ moves x. Front way whom (cond (is_same whom (to.Conn id)) piece []) s moves (now_conn s id (get x))) doing
    each_conn whom sound = at (is_same whom (to.Conn id)) refl
      where
        at : (b : Bool) → is_same whom (to.Conn id) ≡ b → Always (λ moves x. Front way whom (cond b piece []) s moves (now_conn s id (get x))) doing
        at true is =
            subst (λ who. IsSoundSender (standing_of who s) → Always (λ moves x. Front way who piece s moves (now_conn s id (get x))) doing)
            (sym (same_is whom (to.Conn id) is)) own_conn sound
        at false is =
            always_map (λ moves x. IsApart whom moves) (λ moves x. Front way whom [] s moves (now_conn s id (get x))) doing
            (λ moves x none.
            other_by way whom moves s (now_conn s id (get x)) sound (apart_conn whom s id (get x) is) none) (framed_hands (to.Conn id) whom is doing framed)

  module _ (get : X → Child) (p : Child) (e : slice_get s.children id ≡ Some p)
      (here : IsSoundSender p.stdin → Always (λ moves x. KeepsFrontBy way (to.Child id) piece p.stdin moves (get x).stdin) doing)
      (framed : IsFramed (to.Child id) doing) where
    own_child : IsSoundSender (standing_of (to.Child id) s) → Always (λ moves x. Front way (to.Child id) piece s moves (now_child s id (get x))) doing
    own_child sound =
        let was = ap child_as e in
        always_map (λ moves x. KeepsFrontBy way (to.Child id) piece p.stdin moves (get x).stdin)
        (λ moves x. Front way (to.Child id) piece s moves (now_child s id (get x))) doing
        (λ moves x keeps.
        front_by way (to.Child id) piece p.stdin moves (get x).stdin s (now_child s id (get x)) was
        (ap child_as (get-set_same s.children id p (get x) e)) keeps)
        (here (subst IsSoundSender was sound))

    pub each_child : (whom : Handed) → IsSoundSender (standing_of whom s)
        → Always (λ moves x. Front way whom (cond (is_same whom (to.Child id)) piece []) s moves (now_child s id (get x))) doing
    each_child whom sound = at (is_same whom (to.Child id)) refl
      where
        at : (b : Bool) → is_same whom (to.Child id) ≡ b → Always (λ moves x. Front way whom (cond b piece []) s moves (now_child s id (get x))) doing
        at true is =
            subst (λ who. IsSoundSender (standing_of who s) → Always (λ moves x. Front way who piece s moves (now_child s id (get x))) doing)
            (sym (same_is whom (to.Child id) is)) own_child sound
        at false is =
            always_map (λ moves x. IsApart whom moves) (λ moves x. Front way whom [] s moves (now_child s id (get x))) doing
            (λ moves x none.
            other_by way whom moves s (now_child s id (get x)) sound (apart_child whom s id (get x) is) none) (framed_hands (to.Child id) whom is doing framed)

-- ---- what is written, noted
pub noted_more : (whom : Handed) (xs : List Written) (to_whom : Handed) (piece : List ℕ)
    → written_to whom (xs ++ record { to = to_whom; piece = piece } ∷ []) ≡ written_to whom xs ++ cond (is_same whom to_whom) piece []
noted_more whom [] to_whom piece = append-nil (cond (is_same whom to_whom) piece [])
noted_more whom (one ∷ more) to_whom piece =
    let mine = cond (is_same whom one.to) one.piece [] in
    ap (λ bytes. mine ++ bytes) (noted_more whom more to_whom piece)
    ∙ sym (append_assoc mine (written_to whom more) (cond (is_same whom to_whom) piece []))

-- nothing is
pub none_written : (b : Bool) (bytes : List ℕ) → bytes ≡ bytes ++ cond b [] []
none_written true bytes = sym (append-nil bytes)
none_written false bytes = sym (append-nil bytes)

-- where all is as it was but for what each stands as
pub kept_by : (way : Way) (s after : Streams) (moves : List Move) (b : Handed → Bool) → after.written ≡ s.written
    → ((whom : Handed) → IsSoundSender (standing_of whom s)
    → KeepsFrontBy way whom (cond (b whom) [] []) (standing_of whom s) moves (standing_of whom after))
    → AreKeptBy way s moves after
kept_by way s after moves b same each whom sound = (
  cond (b whom) [] [],
  record {
    written = ap (written_to whom) same ∙ none_written (b whom) (written_to whom s.written);
    keeps = each whom sound;
  },
)

-- where each stands as it did, and is handed nothing
pub kept_still : (way : Way) (s after : Streams) (moves : List Move) → after.written ≡ s.written
    → ((whom : Handed) → standing_of whom after ≡ standing_of whom s) → ((whom : Handed) → IsApart whom moves) → AreKeptBy way s moves after
kept_still way s after moves same stands none whom sound = (
  [],
  record {
    written = ap (written_to whom) same ∙ sym (append-nil (written_to whom s.written));
    keeps = other_by way whom moves s after sound (stands whom) (none whom);
  },
)

-- ---- one is opened
fresh : (whom : Handed) (moves : List Move) (whole : Bool) (closed_future : ℕ) → IsApart whom moves
    → KeepsFrontBy Continues whom [] (new_sender false 0) moves (new_sender whole closed_future)
fresh whom moves whole closed_future none =
    let still = front_still whom (new_sender false 0) moves (new_sound false 0) none in
    record {
      sound = new_sound whole closed_future;
      order = λ written handed front.
          let it = still.order written handed front in record { rest = it.rest; front = it.front; unsent = it.unsent };
      stays = λ is. is;
      silent = λ is. none.hands;
      mute = λ is. refl;
      once = still.once;
      good = still.good;
      closed = still.closed;
      ends = record {
        order = λ written handed order.
            let it = still.ends.order written handed order in record { rest = it.rest; front = it.front; unsent = it.unsent };
        losses = still.ends.losses;
        closes = still.ends.closes;
      };
    }

get-end : {X : Type 0} (xs : List X) → slice_get xs (length xs) ≡ None
get-end [] = refl
get-end (x ∷ xs) = get-end xs

pub opened_conn : (s : Streams) (c : Connection) (closed_future : ℕ) (moves : List Move) → c.sender ≡ new_sender false closed_future
    → ((whom : Handed) → IsApart whom moves) → AreKept s moves (add_connection c s)
opened_conn s c closed_future moves new none whom sound = (
  [],
  record { written = sym (append-nil (written_to whom s.written)); keeps = at whom sound },
)
  where
    at : (whom : Handed) → IsSoundSender (standing_of whom s)
        → KeepsFrontBy Continues whom [] (standing_of whom s) moves (standing_of whom (add_connection c s))
    at (to.Child other) sound = front_still (to.Child other) (standing_of (to.Child other) s) moves sound (none (to.Child other))
    at (to.Conn other) sound = by (cases_eq other (length s.connections))
      where
        by : (other ≡ length s.connections) ⊎ (other ≡ length s.connections → ⊥)
            → KeepsFrontBy Continues (to.Conn other) [] (standing_of (to.Conn other) s) moves (standing_of (to.Conn other) (add_connection c s))
        by (inl last) =
            front_by Continues (to.Conn other) [] (new_sender false 0) moves (new_sender false closed_future) s (add_connection c s)
            (ap (λ n. conn_as (slice_get s.connections n)) last ∙ ap conn_as (get-end s.connections))
            (ap (λ n. conn_as (slice_get (s.connections ++ c ∷ []) n)) last ∙ ap conn_as (get-push_last s.connections c) ∙ new)
            (fresh (to.Conn other) moves false closed_future (none (to.Conn other)))
        by (inr before) =
            front_by Continues (to.Conn other) [] (standing_of (to.Conn other) s) moves (standing_of (to.Conn other) s) s (add_connection c s) refl
            (ap conn_as (get-push_other s.connections c other before))
            (front_still (to.Conn other) (standing_of (to.Conn other) s) moves sound (none (to.Conn other)))

pub opened_child : (s : Streams) (closed_future : ℕ) (moves : List Move) → ((whom : Handed) → IsApart whom moves)
    → AreKept s moves (add_child (new_child closed_future) s)
opened_child s closed_future moves none whom sound = (
  [],
  record { written = sym (append-nil (written_to whom s.written)); keeps = at whom sound },
)
  where
    p : Child
    p = new_child closed_future

    at : (whom : Handed) → IsSoundSender (standing_of whom s)
        → KeepsFrontBy Continues whom [] (standing_of whom s) moves (standing_of whom (add_child (new_child closed_future) s))
    at (to.Conn other) sound = front_still (to.Conn other) (standing_of (to.Conn other) s) moves sound (none (to.Conn other))
    at (to.Child other) sound = by (cases_eq other (length s.children))
      where
        by : (other ≡ length s.children) ⊎ (other ≡ length s.children → ⊥)
            → KeepsFrontBy Continues (to.Child other) [] (standing_of (to.Child other) s) moves
            (standing_of (to.Child other) (add_child (new_child closed_future) s))
        by (inl last) =
            front_by Continues (to.Child other) [] (new_sender false 0) moves (new_sender true closed_future) s (add_child (new_child closed_future) s)
            (ap (λ n. child_as (slice_get s.children n)) last ∙ ap child_as (get-end s.children))
            (ap (λ n. child_as (slice_get (s.children ++ new_child closed_future ∷ []) n)) last
            ∙ ap child_as (get-push_last s.children (new_child closed_future)))
            (fresh (to.Child other) moves true closed_future (none (to.Child other)))
        by (inr before) =
            front_by Continues (to.Child other) [] (standing_of (to.Child other) s) moves (standing_of (to.Child other) s) s
            (add_child (new_child closed_future) s) refl (ap child_as (get-push_other s.children (new_child closed_future) other before))
            (front_still (to.Child other) (standing_of (to.Child other) s) moves sound (none (to.Child other)))

-- ---- one after another
pub side_both : (whom : Handed) (piece last : List ℕ) (s mid after : Streams) (moves more : List Move) → KeepsSide Continues whom piece s moves mid
    → KeepsSide Continues whom last mid more after → KeepsSide Continues whom (piece ++ last) s (moves ++ more) after
side_both whom piece last s mid after moves more first second =
    record {
      written = second.written ∙ ap (λ bytes. bytes ++ last) first.written ∙ append_assoc (written_to whom s.written) piece last;
      keeps = front_both whom piece last (standing_of whom s) (standing_of whom mid) (standing_of whom after) moves more first.keeps second.keeps;
    }

pub kept_both : (s mid after : Streams) (moves more : List Move) → AreKept s moves mid → AreKept mid more after → AreKept s (moves ++ more) after
kept_both s mid after moves more first second whom sound =
    let one = first whom sound in
    let two = second whom one.1.keeps.sound in
    (one.0 ++ two.0, side_both whom one.0 two.0 s mid after moves more one.1 two.1)
