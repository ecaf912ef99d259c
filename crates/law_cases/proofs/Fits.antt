-- What is kept, and how often at most: of a writer, a reader, a connection, a child and all of them.
use Rattle.std.proofs.Common.{◌≡◌, inl, inr, ◌⊎◌, ℕ, zero, suc, ◌+◌, ◌≤◌, ◌<◌, Bool, true, false, cond, ◌&&◌, List, [], ◌∷◌, ◌++◌, Option, Some, None}
use Rattle.std.proofs.Common.{nat_eq, nat_le, nat_lt, slice_get, slice_set, refl, ap, sym, subst, le_refl, arith}
use Rattle.std.specs.List.{count_by, sum_by}
use Rattle.std.specs.Option.{option_map_or}
use Rattle.std.proofs.lemmas.Bool.{cases_eq, cases_lt, le-leb, le-ltb, lt-leb, lt-ltb, ne_eqb}
use Rattle.std.proofs.lemmas.List.Sums.{sum_by-cons, sum_by_push}
use Rattle.model_stream.specs.Children.{Child}
use Rattle.model_stream.specs.Connections.{Connection}
use Rattle.model_stream.specs.Receivers.{Receiver}
use Rattle.model_stream.specs.Senders.{Sender}
use Rattle.model_stream.specs.Streams.{Streams}
use Rattle.model_stream.specs.Kept.{AllAre, OneIs, SenderKeeps, ReceiverKeeps, ConnectionKeeps, ChildKeeps, StreamsKeep, child_times, connection_times}
use Rattle.model_stream.specs.Kept.{connection_asked, one_time, receiver_times, sender_times, times_asked, times_kept}
use Rattle.law_cases.specs.Trees.{IsKnown, IsOwn, Owned, made_in}
use Rattle.law_cases.proofs.Composing.{all_more, known, one_more, receiver_more, sender_more}

abbrev pub SenderFits : (ℕ → Type 0) → (ℕ → ℕ) → Sender → Type 0
SenderFits P limit s = P s.closed_future × AllAre P s.drains × ((future : ℕ) → sender_times future s ≤ limit future)

abbrev pub ReceiverFits : (ℕ → Type 0) → (ℕ → ℕ) → Receiver → Type 0
ReceiverFits P limit r = OneIs P r.waiter × ((future : ℕ) → receiver_times future r ≤ limit future)

-- in all, and but for what its connect waits on
abbrev pub Limits : Type 0
Limits = (ℕ → ℕ) × (ℕ → ℕ)

abbrev pub IsWithin : Limits → Connection → (future : ℕ) → Type 0
IsWithin limit c future = (connection_times future c ≤ limit.0 future) × (connection_asked future c ≤ limit.1 future)

abbrev pub ConnectionFits : (ℕ → Type 0) → Limits → Connection → Type 0
ConnectionFits P limit c = OneIs P c.making × SenderKeeps P c.sender × ReceiverKeeps P c.receiver × ((future : ℕ) → IsWithin limit c future)

abbrev pub ChildFits : (ℕ → Type 0) → (ℕ → ℕ) → Child → Type 0
ChildFits P limit p =
    SenderKeeps P p.stdin × ReceiverKeeps P p.out × ReceiverKeeps P p.errs × AllAre P p.waits × ((future : ℕ) → child_times future p ≤ limit future)

-- what is made since adds to it
abbrev pub grown : (ℕ → ℕ) → (first next : ℕ) → ℕ → ℕ
grown limit first next future = limit future + made_in first next future

abbrev pub both_grown : Limits → (first next : ℕ) → Limits
both_grown limit first next = (grown limit.0 first next, grown limit.1 first next)

-- as often as it is there
abbrev pub now_sender : Sender → ℕ → ℕ
now_sender s future = sender_times future s

abbrev pub now_connection : Connection → Limits
now_connection c = ((λ future. connection_times future c), (λ future. connection_asked future c))

abbrev pub now_receiver : Receiver → ℕ → ℕ
now_receiver r future = receiver_times future r

pub sender_now : (P : ℕ → Type 0) (s : Sender) → SenderKeeps P s → SenderFits P (now_sender s) s
sender_now P s kept = (kept.0, kept.1, λ future. le_refl _)

pub receiver_now : (P : ℕ → Type 0) (r : Receiver) → ReceiverKeeps P r → ReceiverFits P (now_receiver r) r
receiver_now P r kept = (kept, λ future. le_refl _)

-- ---- what was kept is so where more is known, and more may be kept
module _ (own : Owned) (limit : ℕ → ℕ) (first next : ℕ) where
  abbrev Known : ℕ → Type 0
  Known = IsKnown own first next

  pub sender_still : (s : Sender) → SenderFits (IsOwn own) limit s → SenderFits (IsKnown own first next) (grown limit first next) s
  sender_still s kept = (
    known own first next s.closed_future kept.0,
    all_more (IsOwn own) Known (known own first next) s.drains kept.1,
    λ future. let a = kept.2 future in omega (arith, a),
  )

  pub receiver_still : (r : Receiver) → ReceiverFits (IsOwn own) limit r → ReceiverFits (IsKnown own first next) (grown limit first next) r
  receiver_still r kept = (one_more (IsOwn own) Known (known own first next) r.waiter kept.0, λ future. let a = kept.1 future in omega (arith, a))

  pub child_still : (p : Child) → ChildFits (IsOwn own) limit p → ChildFits (IsKnown own first next) (grown limit first next) p
  child_still p kept = (
    sender_more (IsOwn own) Known (known own first next) p.stdin kept.0,
    receiver_more (IsOwn own) Known (known own first next) p.out kept.1,
    receiver_more (IsOwn own) Known (known own first next) p.errs kept.2,
    all_more (IsOwn own) Known (known own first next) p.waits kept.3,
    λ future. let a = kept.4 future in omega (arith, a),
  )

pub connection_still : (own : Owned) (limit : Limits) (first next : ℕ) (c : Connection) → ConnectionFits (IsOwn own) limit c
    → ConnectionFits (IsKnown own first next) (both_grown limit first next) c
connection_still own limit first next c kept = (
  one_more (IsOwn own) (IsKnown own first next) (known own first next) c.making kept.0,
  sender_more (IsOwn own) (IsKnown own first next) (known own first next) c.sender kept.1,
  receiver_more (IsOwn own) (IsKnown own first next) (known own first next) c.receiver kept.2,
  λ future. let a = kept.3 future in (omega (arith, a.0), omega (arith, a.1)),
)

-- ---- what is made
pub made_before : (first next future : ℕ) → future < first → made_in first next future ≡ 0
made_before first next future h = rw (lt-leb first future h) refl

pub made_after : (first next future : ℕ) → next ≤ future → made_in first next future ≡ 0
made_after first next future h = rw (le-ltb future next h) (off (nat_le first future))
  where
    off : (b : Bool) → ◌≡◌ {A = ℕ} (cond (b && false) 1 0) 0
    off true = refl
    off false = refl

made_within : (first next future : ℕ) → first ≤ future → future < next → made_in first next future ≡ 1
made_within first next future from below = rw (le-leb first future from, lt-ltb future next below) refl

pub made_most : (first next future : ℕ) → made_in first next future ≤ 1
made_most first next future = at (nat_le first future && nat_lt future next)
  where
    at : (b : Bool) → cond b 1 0 ≤ 1
    at true = omega arith
    at false = omega arith

once_most : (future : ℕ) (o : Option ℕ) → one_time future o ≤ 1
once_most future None = omega arith
once_most future (Some other) = at (nat_eq future other)
  where
    at : (b : Bool) → cond b 1 0 ≤ 1
    at true = omega arith
    at false = omega arith

pub made_next : (first next future : ℕ) → first ≤ next → made_in first next future + one_time future (Some next) ≤ made_in first (next + 1) future
made_next first next future on = at (cases_eq future next)
  where
    at : (future ≡ next) ⊎ (future ≡ next → ⊥) → made_in first next future + one_time future (Some next) ≤ made_in first (next + 1) future
    at (inl same) =
        let a = made_after first next future (omega (arith, same)) in
        let b = made_within first (next + 1) future (omega (arith, on, same)) (omega (arith, same)) in
        let c = once_most future (Some next) in
        omega (arith, a, b, c)
    at (inr n) =
        let none : one_time future (Some next) ≡ 0 = ap (λ b. cond b 1 0) (ne_eqb future next n) in
        from none (cases_lt future first) (cases_lt future next)
      where
        from : one_time future (Some next) ≡ 0 → (future < first) ⊎ (first ≤ future) → (future < next) ⊎ (next ≤ future)
            → made_in first next future + one_time future (Some next) ≤ made_in first (next + 1) future
        from none (inl h) below = let a = made_before first next future h in omega (arith, a, none)
        from none (inr h) (inr past) = let a = made_after first next future past in omega (arith, a, none)
        from none (inr h) (inl below) =
            let a = made_within first next future h below in
            let b = made_within first (next + 1) future h (omega (arith, below)) in
            omega (arith, a, b, none)

-- ---- lists of what is open
pub sum_set : {A : Type 0} (w : A → ℕ) (xs : List A) (id : ℕ) (x y : A) → slice_get xs id ≡ Some x
    → sum_by w (slice_set xs id y) + w x ≡ sum_by w xs + w y
sum_set w [] id x y e = absurd (let bad : ⊥ = cc in bad)
sum_set w (h ∷ xs) zero x y e =
    let a = sum_by-cons w y xs in
    let b = sum_by-cons w h xs in
    let c : w h ≡ w x = ap (λ o. option_map_or w o 0) e in
    omega (arith, a, b, c)
sum_set w (h ∷ xs) (suc id) x y e =
    let a = sum_by-cons w h (slice_set xs id y) in
    let b = sum_by-cons w h xs in
    let c = sum_set w xs id x y e in
    omega (arith, a, b, c)

pub times_push : (future next : ℕ) (futures : List ℕ)
    → count_by (nat_eq future) (futures ++ next ∷ []) ≡ count_by (nat_eq future) futures + one_time future (Some next)
times_push future next futures = sum_by_push (λ other. cond (nat_eq future other) 1 0) futures next

-- what is kept otherwise than by a connect is kept
asked_sum : (future : ℕ) (cs : List Connection) → sum_by (connection_asked future) cs ≤ sum_by (connection_times future) cs
asked_sum future [] = omega arith
asked_sum future (c ∷ cs) =
    let a = sum_by-cons (connection_asked future) c cs in
    let b = sum_by-cons (connection_times future) c cs in
    let d = asked_sum future cs in
    omega (arith, a, b, d)

pub asked_kept : (future : ℕ) (s : Streams) → times_asked future s ≤ times_kept future s
asked_kept future s = let a = asked_sum future s.connections in omega (arith, a)

-- what is kept nowhere
module _ (P : ℕ → Type 0) (future : ℕ) (not : P future → ⊥) where
  none_time : (o : Option ℕ) → OneIs P o → one_time future o ≡ 0
  none_time None h = refl
  none_time (Some other) h = ap (λ b. cond b 1 0) (ne_eqb future other (λ e. not (subst P (sym e) h)))

  none_times : (futures : List ℕ) → AllAre P futures → count_by (nat_eq future) futures ≡ 0
  none_times [] h = refl
  none_times (other ∷ futures) h =
      let a = sum_by-cons (λ x. cond (nat_eq future x) 1 0) other futures in
      let b = none_time (Some other) h.0 in
      let c = none_times futures h.1 in
      omega (arith, a, b, c)

  none_sender : (s : Sender) → SenderKeeps P s → sender_times future s ≡ 0
  none_sender s h = let a = none_time (Some s.closed_future) h.0 in let b = none_times s.drains h.1 in omega (arith, a, b)

  none_connection : (c : Connection) → ConnectionKeeps P c → connection_times future c ≡ 0
  none_connection c h =
      let a = none_time c.making h.0 in
      let b = none_sender c.sender h.1 in
      let d = none_time c.receiver.waiter h.2 in
      omega (arith, a, b, d)

  none_child : (p : Child) → ChildKeeps P p → child_times future p ≡ 0
  none_child p h =
      let a = none_sender p.stdin h.0 in
      let b = none_time p.out.waiter h.1 in
      let c = none_time p.errs.waiter h.2 in
      let d = none_times p.waits h.3 in
      omega (arith, a, b, c, d)

  none_sum : {A : Type 0} (w : A → ℕ) (xs : List A) → ((id : ℕ) (x : A) → slice_get xs id ≡ Some x → w x ≡ 0) → sum_by w xs ≡ 0
  none_sum w [] each = refl
  none_sum w (x ∷ xs) each =
      let a = sum_by-cons w x xs in
      let b = each 0 x refl in
      let c = none_sum w xs (λ id y e. each (suc id) y e) in
      omega (arith, a, b, c)

  pub kept_nowhere : (s : Streams) → StreamsKeep P s → times_kept future s ≡ 0
  kept_nowhere s h =
      let a = none_sum (connection_times future) s.connections (λ id c e. none_connection c (h.connections id c e)) in
      let b = none_sum (child_times future) s.children (λ id p e. none_child p (h.children id p e)) in
      omega (arith, a, b)
