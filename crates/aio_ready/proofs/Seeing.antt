-- Handles whose states stand in a register: what changes of it do to them.
use Rattle.std.proofs.Common.{◌≡◌, Bool, true, false, ◌||◌, not, List, [], ◌∷◌, ◌++◌, map, Option, Some, None, refl, if◌then◌else◌}
use Rattle.std.specs.Option.{option_map, is_some}
use Rattle.std.proofs.lemmas.Bool.{and_parts, false≢true, true≢false}
use Rattle.std.proofs.lemmas.List.{append-nil, append_assoc, map-append}
use Rattle.std.proofs.lemmas.List.Folds.{list_all-append}
use Rattle.model_value.specs.Action.{Action}
use Rattle.aio_ready.specs.declared.handle.HandleName.{HandleName}
use Rattle.aio_ready.specs.declared.handle.Handle.{Handle}
use Rattle.aio_ready.specs.declared.index.Leaf.{Leaf}
use Rattle.aio_ready.specs.declared.entry.Entry.{Entry}
use Rattle.aio_ready.specs.declared.entry.Entry.TheVariants.{Loose, Registered}
use Rattle.aio_ready.specs.Names.{is_same, marked}
use Rattle.aio_ready.specs.Entries.{loosely_marked, is_loose, all_loose, is_dead, seen, is_held, all_held, is_apart, all_apart, AreDistinct, AreRegistered}
use Rattle.aio_ready.proofs.Names.{same_is, turned_name}

-- ---- a change under another name
apart_is : (same : Bool) → not same ≡ true → same ≡ false
apart_is true h = absurd (false≢true h)
apart_is false h = refl

one_unseen : (old new : HandleName → Option Bool) (name : HandleName) (entry : Entry)
    → ((other : HandleName) → is_same name other ≡ false → new other ≡ old other) → is_apart name entry ≡ true
    → seen new entry ≡ seen old entry
one_unseen old new name (Loose handle leaf) h k = refl
one_unseen old new name (Registered own action) h k = rw (h own (apart_is (is_same name own) k)) refl

pub unseen : (old new : HandleName → Option Bool) (name : HandleName) (entries : List Entry)
    → ((other : HandleName) → is_same name other ≡ false → new other ≡ old other) → all_apart name entries ≡ true
    → map (seen new) entries ≡ map (seen old) entries
unseen old new name [] h k = refl
unseen old new name (entry ∷ entries) h k =
    let parts = and_parts (is_apart name entry) (all_apart name entries) k in
    rw (one_unseen old new name entry h parts.0, unseen old new name entries h parts.1) refl

one_held : (old new : HandleName → Option Bool) (name : HandleName) (entry : Entry)
    → ((other : HandleName) → is_same name other ≡ false → new other ≡ old other) → is_apart name entry ≡ true
    → is_held new entry ≡ is_held old entry
one_held old new name (Loose handle leaf) h k = refl
one_held old new name (Registered own action) h k = rw (h own (apart_is (is_same name own) k)) refl

pub still_held : (old new : HandleName → Option Bool) (name : HandleName) (entries : List Entry)
    → ((other : HandleName) → is_same name other ≡ false → new other ≡ old other) → all_apart name entries ≡ true
    → all_held new entries ≡ all_held old entries
still_held old new name [] h k = refl
still_held old new name (entry ∷ entries) h k =
    let parts = and_parts (is_apart name entry) (all_apart name entries) k in
    rw (one_held old new name entry h parts.0, still_held old new name entries h parts.1) refl

-- ---- what the register doesn't have is the name of none
none_held : (state : Option Bool) → state ≡ None → is_some state ≡ true → false ≡ true
none_held None h k = k
none_held (Some dead) h k = absurd (cc)

not_by : (states : HandleName → Option Bool) (name own : HandleName) (same : Bool) → is_same name own ≡ same
    → states name ≡ None → is_some (states own) ≡ true → not same ≡ true
not_by states name own false e h k = refl
not_by states name own true e h k =
    let none : states own ≡ None = rw (← same_is name own e) h in
    absurd (false≢true (none_held (states own) none k))

one_not_held : (states : HandleName → Option Bool) (name : HandleName) (entry : Entry) → states name ≡ None
    → is_held states entry ≡ true → is_apart name entry ≡ true
one_not_held states name (Loose handle leaf) h k = refl
one_not_held states name (Registered own action) h k = not_by states name own (is_same name own) refl h k

pub not_held : (states : HandleName → Option Bool) (name : HandleName) (entries : List Entry) → states name ≡ None
    → all_held states entries ≡ true → all_apart name entries ≡ true
not_held states name [] h k = refl
not_held states name (entry ∷ entries) h k =
    let parts = and_parts (is_held states entry) (all_held states entries) k in
    rw (one_not_held states name entry h parts.0, not_held states name entries h parts.1) refl

-- ---- marks
dead_after : (same : Bool) (state : Option Bool) → is_some state ≡ true
    → is_dead (if same then option_map (λ _. true) state else state) ≡ (is_dead state || same)
dead_after same None h = absurd (false≢true h)
dead_after true (Some true) h = refl
dead_after true (Some false) h = refl
dead_after false (Some true) h = refl
dead_after false (Some false) h = refl

held_after : (same : Bool) (state : Option Bool) → is_some (if same then option_map (λ _. true) state else state) ≡ is_some state
held_after true None = refl
held_after true (Some dead) = refl
held_after false state = refl

one_marked : (old new : HandleName → Option Bool) (name : HandleName) (entry : Entry)
    → ((other : HandleName) → new other ≡ (if is_same name other then option_map (λ _. true) (old other) else old other))
    → is_held old entry ≡ true → seen new (loosely_marked name entry) ≡ marked name (seen old entry)
one_marked old new name (Loose handle leaf) h k = refl
one_marked old new name (Registered own action) h k = rw (h own, dead_after (is_same name own) (old own) k) refl

pub all_marked : (old new : HandleName → Option Bool) (name : HandleName) (entries : List Entry)
    → ((other : HandleName) → new other ≡ (if is_same name other then option_map (λ _. true) (old other) else old other))
    → all_held old entries ≡ true → map (seen new) (map (loosely_marked name) entries) ≡ map (marked name) (map (seen old) entries)
all_marked old new name [] h k = refl
all_marked old new name (entry ∷ entries) h k =
    let parts = and_parts (is_held old entry) (all_held old entries) k in
    rw (one_marked old new name entry h parts.0, all_marked old new name entries h parts.1) refl

mark_held : (old new : HandleName → Option Bool) (name : HandleName) (entry : Entry)
    → ((other : HandleName) → new other ≡ (if is_same name other then option_map (λ _. true) (old other) else old other))
    → is_held new (loosely_marked name entry) ≡ is_held old entry
mark_held old new name (Loose handle leaf) h = refl
mark_held old new name (Registered own action) h = rw (h own, held_after (is_same name own) (old own)) refl

marks_held : (old new : HandleName → Option Bool) (name : HandleName) (entries : List Entry)
    → ((other : HandleName) → new other ≡ (if is_same name other then option_map (λ _. true) (old other) else old other))
    → all_held new (map (loosely_marked name) entries) ≡ all_held old entries
marks_held old new name [] h = refl
marks_held old new name (entry ∷ entries) h = rw (mark_held old new name entry h, marks_held old new name entries h) refl

mark_apart : (name other : HandleName) (entry : Entry) → is_apart other (loosely_marked name entry) ≡ is_apart other entry
mark_apart name other (Loose handle leaf) = refl
mark_apart name other (Registered own action) = refl

marks_apart : (name other : HandleName) (entries : List Entry)
    → all_apart other (map (loosely_marked name) entries) ≡ all_apart other entries
marks_apart name other [] = refl
marks_apart name other (entry ∷ entries) = rw (mark_apart name other entry, marks_apart name other entries) refl

marks_distinct : (name : HandleName) (entries : List Entry) → AreDistinct entries → AreDistinct (map (loosely_marked name) entries)
marks_distinct name [] h = tt
marks_distinct name (Loose handle leaf ∷ entries) h = marks_distinct name entries h
marks_distinct name (Registered own action ∷ entries) h =
    (rw (marks_apart name own entries) h.0, marks_distinct name entries h.1)

pub registered_marked : (old new : HandleName → Option Bool) (name : HandleName) (entries : List Entry)
    → ((other : HandleName) → new other ≡ (if is_same name other then option_map (λ _. true) (old other) else old other))
    → AreRegistered old entries → AreRegistered new (map (loosely_marked name) entries)
registered_marked old new name entries h k = record {
  held = rw (marks_held old new name entries h) k.held;
  distinct = marks_distinct name entries k.distinct;
}

-- ---- one after all others
held_after_all : (states : HandleName → Option Bool) (last : Entry) (entries : List Entry) → all_held states entries ≡ true
    → is_held states last ≡ true → all_held states (entries ++ last ∷ []) ≡ true
held_after_all states last entries h k = rw (list_all-append (is_held states) entries (last ∷ []), h, k) refl

apart_after_all : (name : HandleName) (last : Entry) (entries : List Entry) → all_apart name entries ≡ true
    → is_apart name last ≡ true → all_apart name (entries ++ last ∷ []) ≡ true
apart_after_all name last entries h k = rw (list_all-append (is_apart name) entries (last ∷ []), h, k) refl

loose_distinct : (handle : Handle) (leaf : Leaf) (entries : List Entry) → AreDistinct entries
    → AreDistinct (entries ++ Loose handle leaf ∷ [])
loose_distinct handle leaf [] h = tt
loose_distinct handle leaf (Loose other own ∷ entries) h = loose_distinct handle leaf entries h
loose_distinct handle leaf (Registered name action ∷ entries) h =
    (apart_after_all name (Loose handle leaf) entries h.0 refl, loose_distinct handle leaf entries h.1)

distinct_after_all : (name : HandleName) (action : Action) (entries : List Entry) → AreDistinct entries
    → all_apart name entries ≡ true → AreDistinct (entries ++ Registered name action ∷ [])
distinct_after_all name action [] h k = (refl, tt)
distinct_after_all name action (Loose other leaf ∷ entries) h k = distinct_after_all name action entries h k
distinct_after_all name action (Registered own other ∷ entries) h k =
    let parts = and_parts (not (is_same name own)) (all_apart name entries) k in (
      apart_after_all own (Registered name action) entries h.0 (rw (turned_name own name) parts.0),
      distinct_after_all name action entries h.1 parts.1,
    )

pub registered_loose : (states : HandleName → Option Bool) (handle : Handle) (leaf : Leaf) (entries : List Entry)
    → AreRegistered states entries → AreRegistered states (entries ++ Loose handle leaf ∷ [])
registered_loose states handle leaf entries h = record {
  held = held_after_all states (Loose handle leaf) entries h.held refl;
  distinct = loose_distinct handle leaf entries h.distinct;
}

some_is : (state : Option Bool) → state ≡ Some false → is_some state ≡ true
some_is state h = rw h refl

pub registered_entered : (old new : HandleName → Option Bool) (name : HandleName) (action : Action) (entries : List Entry)
    → ((other : HandleName) → is_same name other ≡ false → new other ≡ old other) → old name ≡ None → new name ≡ Some false
    → AreRegistered old entries → AreRegistered new (entries ++ Registered name action ∷ [])
registered_entered old new name action entries h none there k =
    let apart = not_held old name entries none k.held in record {
      held = held_after_all new (Registered name action) entries (rw (still_held old new name entries h apart) k.held)
          (some_is (new name) there);
      distinct = distinct_after_all name action entries k.distinct apart;
    }

-- ---- the first leaves
pub registered_left : (old new : HandleName → Option Bool) (name : HandleName) (action : Action) (entries : List Entry)
    → ((other : HandleName) → is_same name other ≡ false → new other ≡ old other)
    → AreRegistered old (Registered name action ∷ entries) → AreRegistered new entries
registered_left old new name action entries h k =
    let parts = and_parts (is_some (old name)) (all_held old entries) k.held in record {
      held = rw (still_held old new name entries h k.distinct.0) parts.1;
      distinct = k.distinct.1;
    }

pub loose_left : (states : HandleName → Option Bool) (handle : Handle) (leaf : Leaf) (entries : List Entry)
    → AreRegistered states (Loose handle leaf ∷ entries) → AreRegistered states entries
loose_left states handle leaf entries h = record { held = h.held; distinct = h.distinct }

pub first_held : (states : HandleName → Option Bool) (name : HandleName) (action : Action) (entries : List Entry)
    → AreRegistered states (Registered name action ∷ entries) → is_some (states name) ≡ true
first_held states name action entries h = (and_parts (is_some (states name)) (all_held states entries) h.held).0

-- ---- the queue: those before the bar, and those after it
others_by : (same : Bool) (new changed old : Option Bool) → new ≡ (if same then changed else old) → same ≡ false → new ≡ old
others_by true new changed old h k = absurd (true≢false k)
others_by false new changed old h k = h

-- all names but the one that is entered
pub but_entered : (old new : HandleName → Option Bool) (name : HandleName)
    → ((other : HandleName) → new other ≡ (if is_same name other then Some false else old other))
    → (other : HandleName) → is_same name other ≡ false → new other ≡ old other
but_entered old new name h other k = others_by (is_same name other) (new other) (Some false) (old other) (h other) k

pub queue_loose : (states : HandleName → Option Bool) (handle : Handle) (leaf : Leaf) (below late : List Entry)
    → AreRegistered states (below ++ late) → AreRegistered states (below ++ (late ++ Loose handle leaf ∷ []))
queue_loose states handle leaf below late h =
    rw (← append_assoc below late (Loose handle leaf ∷ [])) (registered_loose states handle leaf (below ++ late) h)

pub queue_entered : (old new : HandleName → Option Bool) (name : HandleName) (action : Action) (below late : List Entry)
    → ((other : HandleName) → new other ≡ (if is_same name other then Some false else old other)) → old name ≡ None
    → new name ≡ Some false → AreRegistered old (below ++ late)
    → AreRegistered new (below ++ (late ++ Registered name action ∷ []))
queue_entered old new name action below late h none there k =
    rw (← append_assoc below late (Registered name action ∷ []))
    (registered_entered old new name action (below ++ late) (but_entered old new name h) none there k)

-- what is seen once a name is entered
pub record SeenEntered (old new : HandleName → Option Bool) (name : HandleName) (action : Action) (below late : List Entry) : Type 0 where
  pub before : map (seen new) below ≡ map (seen old) below
  pub after : map (seen new) (late ++ Registered name action ∷ [])
      ≡ map (seen old) late ++ record { name = name; action = action; dead = false } ∷ []

seen_last : (states : HandleName → Option Bool) (name : HandleName) (action : Action) → states name ≡ Some false
    → seen states (Registered name action) ≡ record { name = name; action = action; dead = false }
seen_last states name action h = rw h refl

pub seen_entered : (old new : HandleName → Option Bool) (name : HandleName) (action : Action) (below late : List Entry)
    → ((other : HandleName) → new other ≡ (if is_same name other then Some false else old other)) → old name ≡ None
    → new name ≡ Some false → AreRegistered old (below ++ late) → SeenEntered old new name action below late
seen_entered old new name action below late h none there k =
    let apart = not_held old name (below ++ late) none k.held in
    let parts = and_parts (all_apart name below) (all_apart name late) (rw (list_all-append (is_apart name) below late) at apart) in
    let others = but_entered old new name h in record {
      before = unseen old new name below others parts.0;
      after = rw (
        map-append (seen new) late (Registered name action ∷ []),
        unseen old new name late others parts.1,
        seen_last new name action there,
      )
          refl;
    }

-- marks of both parts
pub queue_marked : (old new : HandleName → Option Bool) (name : HandleName) (below late : List Entry)
    → ((other : HandleName) → new other ≡ (if is_same name other then option_map (λ _. true) (old other) else old other))
    → AreRegistered old (below ++ late)
    → AreRegistered new (map (loosely_marked name) below ++ map (loosely_marked name) late)
queue_marked old new name below late h k =
    rw (← map-append (loosely_marked name) below late) (registered_marked old new name (below ++ late) h k)

pub below_held : (states : HandleName → Option Bool) (below late : List Entry) → AreRegistered states (below ++ late)
    → (all_held states below ≡ true) × (all_held states late ≡ true)
below_held states below late h =
    and_parts (all_held states below) (all_held states late) (rw (list_all-append (is_held states) below late) at h.held)

pub seen_marked : (old new : HandleName → Option Bool) (name : HandleName) (below late : List Entry)
    → ((other : HandleName) → new other ≡ (if is_same name other then option_map (λ _. true) (old other) else old other))
    → AreRegistered old (below ++ late)
    → (map (seen new) (map (loosely_marked name) below) ≡ map (marked name) (map (seen old) below))
    × (map (seen new) (map (loosely_marked name) late) ≡ map (marked name) (map (seen old) late))
seen_marked old new name below late h k =
    let held = below_held old below late k in
    (all_marked old new name below h held.0, all_marked old new name late h held.1)

-- all stand before the bar
pub queue_barred : (states : HandleName → Option Bool) (below late : List Entry) → AreRegistered states (below ++ late)
    → AreRegistered states ((below ++ late) ++ [])
queue_barred states below late h = rw (append-nil (below ++ late)) h

-- the first leaves
pub seen_left : (old new : HandleName → Option Bool) (name : HandleName) (action : Action) (below late : List Entry)
    → ((other : HandleName) → is_same name other ≡ false → new other ≡ old other)
    → AreRegistered old (Registered name action ∷ below ++ late)
    → (map (seen new) below ≡ map (seen old) below) × (map (seen new) late ≡ map (seen old) late)
seen_left old new name action below late h k =
    let parts = and_parts (all_apart name below) (all_apart name late) (rw (list_all-append (is_apart name) below late) at k.distinct.0) in
    (unseen old new name below h parts.0, unseen old new name late h parts.1)

-- ---- callbacks are loose
pub loose_added : (handle : Handle) (leaf : Leaf) (entries : List Entry) → all_loose entries ≡ true
    → all_loose (entries ++ Loose handle leaf ∷ []) ≡ true
loose_added handle leaf entries h = rw (list_all-append is_loose entries (Loose handle leaf ∷ []), h) refl
