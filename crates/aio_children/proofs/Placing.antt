-- One of the children changes.
use Rattle.std.proofs.Common.{◌≡◌, ℕ, zero, suc, ◌<◌, ◌≤◌, List, [], ◌∷◌, Option, Some, None, Result, Ok, Err, IfOk}
use Rattle.std.proofs.Common.{OnOk, length, slice_get, slice_set, ◌∙◌, refl, sym, ap, subst}
use Rattle.std.proofs.Common.{slice_index_or}
use Rattle.std.specs.List.{AllByRecursion as Each}
use Rattle.std.specs.Option.{option_map}
use Rattle.std.proofs.lemmas.Option.{slice_get_past, slice_get_read}
use Rattle.model_wire.specs.declared.event.Handed.TheVariants as to
use Rattle.model_stream.specs.declared.answers.Wrote.{Wrote}
use Rattle.model_stream.specs.declared.answers.Wrote.TheVariants as wrote
use Rattle.model_pump.specs.declared.stream.Stream.{Stream}
use Rattle.model_stream.specs.Children.{Child, its_pipe, write_child}
use Rattle.model_stream.specs.Doing.{Doing, Ends, and_then}
use Rattle.model_stream.specs.Receivers.{give_up_read}
use Rattle.model_stream.specs.Requests as requests
use Rattle.model_stream.specs.Requests.{OfChild, asked_one, noted, write, write_unnoted, written_by}
use Rattle.model_stream.specs.Streams.{Streams, its_children, on_one}
use Rattle.aio_wire.specs.Outside.{Outside}
use Rattle.aio_wire.specs.declared.stop.Stop.{Stop}
use Rattle.aio_exchange.specs.Follows.{Follows, Reach, after_of, with_after}
use Rattle.aio_exchange.specs.Tells.{Tells}
use Rattle.aio_exchange.proofs.Following.{follows_ends, follows_stopped, follows_then}
use Rattle.aio_exchange.proofs.Telling.{tells_ends, tells_then}
use Rattle.aio_task.specs.View.{View}
use Rattle.aio_change.specs.Owned.{KeepsOwn}
use Rattle.aio_change.specs.Seen.{seen_changed}
use Rattle.aio_change.proofs.Owning.{told_keeps, went_keeps}
use Rattle.aio_child.specs.Owned.{OwnsChild}
use Rattle.aio_child.proofs.Owning.{kept_child}
use Rattle.aio_children.specs.Kept.{Kept}
use Rattle.aio_children.specs.Owned.{OwnsChildren}
use Rattle.aio_children.specs.Standing.{Answers, Becomes, Comes, StandsAfter, ChildrenStandFor, Told, ToldWith}

-- ---- reads of a list
pub at_place : {X : Type 0} (xs : List X) (id : ℕ) (x : X) → id < length xs → x ≡ slice_index_or xs id x → slice_get xs id ≡ Some x
at_place xs id x m e = slice_get_read xs (length xs) id x refl m e

pub past_place : {X : Type 0} (xs : List X) (i : ℕ) → length xs ≤ i → slice_get xs i ≡ None
past_place xs i m = slice_get_past xs i m

pub same_place : {X : Type 0} (xs : List X) (id : ℕ) (x : X) → slice_get xs id ≡ Some x → slice_set xs id x ≡ xs
same_place [] id x e = refl
same_place (y ∷ ys) zero x e = ap (λ it. it ∷ ys) (let same : x ≡ y = cc in same)
same_place (y ∷ ys) (suc id) x e = ap (λ those. y ∷ those) (same_place ys id x e)

-- ---- those that are no task's
module _ (old new : View) (keeps : KeepsOwn old new) where
  pub kept_children : (ps : List Child) → Each (OwnsChild old) ps → Each (OwnsChild new) ps
  kept_children [] own = tt
  kept_children (p ∷ ps) own = (kept_child old new keeps p own.0, kept_children ps own.1)

  kept_placed : (ps : List Child) (id : ℕ) (after : Child) → Each (OwnsChild old) ps → OwnsChild new after
      → Each (OwnsChild new) (slice_set ps id after)
  kept_placed [] id after own one = tt
  kept_placed (p ∷ ps) zero after own one = (one, kept_children ps own.1)
  kept_placed (p ∷ ps) (suc id) after own one = (kept_child old new keeps p own.0, kept_placed ps id after own.1 one)

pub own_at : (v : View) (ps : List Child) (id : ℕ) (p : Child) → slice_get ps id ≡ Some p → Each (OwnsChild v) ps → OwnsChild v p
own_at v [] id p e own = absurd (let bad : ⊥ = cc in bad)
own_at v (x ∷ xs) zero p e own = subst (OwnsChild v) (let same : x ≡ p = cc in same) own.0
own_at v (x ∷ xs) (suc id) p e own = own_at v xs id p e own.1

-- ---- a call on one that there is
module _ (k : Kept) (id : ℕ) (p after : Child) (at : slice_get k.children id ≡ Some p) where
  abbrev pub placed : Kept
  placed = record k { children = slice_set k.children id after }

  abbrev put_in : Streams → Streams
  put_in s = record s { children = slice_set s.children id after }

  stands_placed : (s : Streams) → ChildrenStandFor k s → StandsAfter placed s.opened s (put_in s)
  stands_placed s h = (
    record { children = ap (λ ps. slice_set ps id after) h.children; most = h.most },
    record { servers = refl; connections = refl; opened = refl },
  )

  is_there : (s : Streams) → ChildrenStandFor k s → Some p ≡ slice_get s.children id
  is_there s h = sym (ap (λ ps. slice_get ps id) h.children ∙ at)

  abbrev on_by : (Child → Doing Child) → Streams → Option Child → Doing Streams
  on_by change s it = elim it [
    | None ↦ Ends s
    | Some one ↦ and_then (change one) (λ it. Ends (record s { children = slice_set s.children id it }))
  ]

  module _ {R W : Type 0} (o : Outside W) (change : Child → Doing Child) (old new : Reach View W)
      (result : Result R Stop) (f : Follows o seen_changed (change p) old new (after_of after result)) where
    pub comes_placed : Comes o (on_one its_children id change) k placed old new result
    comes_placed s h = (
      put_in s,
      (
        subst (λ it. Follows o seen_changed (on_by change s it) old new (after_of (put_in s) result)) (is_there s h) (goes result f),
        ok result,
      ),
    )
      where
        goes : (r : Result R Stop) → Follows o seen_changed (change p) old new (after_of after r)
            → Follows o seen_changed (on_by change s (Some p)) old new (after_of (put_in s) r)
        goes (Ok done) f =
            follows_then o seen_changed (change p) (λ it. Ends (record s { children = slice_set s.children id it })) after old new new
            (Ok (put_in s)) f (follows_ends o seen_changed (put_in s) new)
        goes (Err why) f =
            follows_stopped o seen_changed (change p) (λ it. Ends (record s { children = slice_set s.children id it })) why old new f

        ok : (r : Result R Stop) → OnOk r (StandsAfter placed s.opened s (put_in s))
        ok (Ok said) = stands_placed s h
        ok (Err why) = tt

    pub own_placed : OnOk result (OwnsChild new.parts after) → OwnsChildren old.parts k → OnOk result (OwnsChildren new.parts placed)
    own_placed one own = by result f one
      where
        by : (r : Result R Stop) → Follows o seen_changed (change p) old new (after_of after r) → OnOk r (OwnsChild new.parts after)
            → OnOk r (OwnsChildren new.parts placed)
        by (Ok done) f one = kept_placed old.parts new.parts (went_keeps o (change p) old new after f) k.children id after own one
        by (Err why) f one = tt

  -- a piece is written to it, which is noted in the streams alone
  module _ {W : Type 0} (o : Outside W) (piece : List ℕ) (old new : Reach View W) (result : Result Wrote Stop)
      (f : Follows o seen_changed (write_child id piece p) old new (with_after after result)) where
    abbrev unnoted_by : Streams → Option Child → Doing (Streams × Wrote)
    unnoted_by s it = elim it [
      | None ↦ Ends (s, wrote.Done)
      | Some one ↦ and_then (write_child id piece one) (λ done. Ends (record s { children = slice_set s.children id done.0 }, done.1))
    ]

    unnoted : (s : Streams) → Some p ≡ slice_get s.children id
        → Follows o seen_changed (unnoted_by s (slice_get s.children id)) old new (with_after (put_in s) result)
    unnoted s there = subst (λ it. Follows o seen_changed (unnoted_by s it) old new (with_after (put_in s) result)) there (goes result f)
      where
        goes : (r : Result Wrote Stop) → Follows o seen_changed (write_child id piece p) old new (with_after after r)
            → Follows o seen_changed (unnoted_by s (Some p)) old new (with_after (put_in s) r)
        goes (Ok done) f =
            follows_then o seen_changed (write_child id piece p) (λ it. Ends (record s { children = slice_set s.children id it.0 }, it.1))
            (after, done) old new new (Ok (put_in s, done)) f (follows_ends o seen_changed (put_in s, done) new)
        goes (Err why) f =
            follows_stopped o seen_changed (write_child id piece p) (λ it. Ends (record s { children = slice_set s.children id it.0 }, it.1)) why
            old new f

    noted_so : (s : Streams) → ChildrenStandFor k s → (noting : List ℕ)
        → Follows o seen_changed (write_unnoted (to.Child id) piece (noted (to.Child id) noting s)) old new
        (with_after (put_in (noted (to.Child id) noting s)) result)
        × OnOk result (StandsAfter placed s.opened s (put_in (noted (to.Child id) noting s)))
    noted_so s h [] = (unnoted s (is_there s h), ok result)
      where
        ok : (r : Result Wrote Stop) → OnOk r (StandsAfter placed s.opened s (put_in s))
        ok (Ok said) = stands_placed s h
        ok (Err why) = tt
    noted_so s h (byte ∷ bytes) =
        let it = noted (to.Child id) (byte ∷ bytes) s in
        let stands : ChildrenStandFor k it = record { children = h.children; most = h.most } in
        (unnoted it (is_there it stands), ok result)
      where
        ok : (r : Result Wrote Stop) → OnOk r (StandsAfter placed s.opened s (put_in (noted (to.Child id) (byte ∷ bytes) s)))
        ok (Ok said) = (
          record { children = ap (λ ps. slice_set ps id after) h.children; most = h.most },
          record { servers = refl; connections = refl; opened = refl },
        )
        ok (Err why) = tt

    abbrev writes_by : Streams → Option Child → Doing (Streams × Wrote)
    writes_by s it = elim (option_map (λ (p : Child). p.stdin) it) [
      | None ↦ Ends (s, wrote.Done)
      | Some sender ↦ write_unnoted (to.Child id) piece (noted (to.Child id) (written_by (to.Child id) piece sender) s)
    ]

    pub writes_placed : Answers o (write (to.Child id) piece) k placed old new result
    writes_placed s h =
        let done = noted_so s h (written_by (to.Child id) piece p.stdin) in
        let after_it : Streams = put_in (noted (to.Child id) (written_by (to.Child id) piece p.stdin) s) in
        (after_it, (subst (λ it. Follows o seen_changed (writes_by s it) old new (with_after after_it result)) (is_there s h) done.0, done.1))

    pub own_written : OnOk result (OwnsChild old.parts p → OwnsChild new.parts after) → OwnsChildren old.parts k
        → OnOk result (OwnsChildren new.parts placed)
    own_written one own = by result f one
      where
        by : (r : Result Wrote Stop) → Follows o seen_changed (write_child id piece p) old new (with_after after r)
            → OnOk r (OwnsChild old.parts p → OwnsChild new.parts after) → OnOk r (OwnsChildren new.parts placed)
        by (Ok done) f one =
            kept_placed old.parts new.parts (went_keeps o (write_child id piece p) old new (after, done) f) k.children id after own
            (one (own_at old.parts k.children id p at own))
        by (Err why) f one = tt

  -- a call that asks nothing
  module _ {R E : Type 0} (change : Child → Doing Child) (old new : View) (result : Result R E)
      (f : OnOk result (Tells seen_changed (change p) old new after)) where
    pub told_placed : OnOk result (Told (on_one its_children id change) k placed old new)
    told_placed = by result f
      where
        by : (r : Result R E) → OnOk r (Tells seen_changed (change p) old new after) → OnOk r (Told (on_one its_children id change) k placed old new)
        by (Ok done) f = λ s h. (
          put_in s,
          (
            subst (λ it. Tells seen_changed (on_by change s it) old new (put_in s)) (is_there s h)
                (tells_then seen_changed (change p) (λ it. Ends (record s { children = slice_set s.children id it })) after old new new (put_in s) f
                (tells_ends seen_changed (put_in s) new)),
            stands_placed s h,
          ),
        )
        by (Err why) f = tt

    pub own_told : OnOk result (OwnsChild new after) → OwnsChildren old k → OnOk result (OwnsChildren new placed)
    own_told one own = by result f one
      where
        by : (r : Result R E) → OnOk r (Tells seen_changed (change p) old new after) → OnOk r (OwnsChild new after) → OnOk r (OwnsChildren new placed)
        by (Ok done) f one = kept_placed old new (told_keeps (change p) old new after f) k.children id after own one
        by (Err why) f one = tt

  -- a call with an answer that asks nothing
  module _ {R S E : Type 0} (other : S) (change : Child → Doing (Child × S)) (said_as : R → S) (old new : View) (result : Result R E)
      (f : IfOk result (λ said. Tells seen_changed (change p) old new (after, said_as said))) where
    abbrev asked_by : Streams → Option Child → Doing (Streams × S)
    asked_by s it = elim it [
      | None ↦ Ends (s, other)
      | Some one ↦ and_then (change one) (λ it. Ends (record s { children = slice_set s.children id it.0 }, it.1))
    ]

    pub said_placed : IfOk result (λ said. ToldWith (asked_one its_children other id change) k placed old new (said_as said))
    said_placed = by result f
      where
        by : (r : Result R E) → IfOk r (λ said. Tells seen_changed (change p) old new (after, said_as said))
            → IfOk r (λ said. ToldWith (asked_one its_children other id change) k placed old new (said_as said))
        by (Ok said) f = λ s h. (
          put_in s,
          (
            subst (λ it. Tells seen_changed (asked_by s it) old new (put_in s, said_as said)) (is_there s h)
                (tells_then seen_changed (change p) (λ it. Ends (record s { children = slice_set s.children id it.0 }, it.1)) (after, said_as said)
                old new new (put_in s, said_as said) f (tells_ends seen_changed {A = Streams × S} (put_in s, said_as said) new)),
            stands_placed s h,
          ),
        )
        by (Err why) f = tt

    pub own_said : OnOk result (OwnsChild old p → OwnsChild new after) → OwnsChildren old k → OnOk result (OwnsChildren new placed)
    own_said one own = by result f one
      where
        by : (r : Result R E) → IfOk r (λ said. Tells seen_changed (change p) old new (after, said_as said))
            → OnOk r (OwnsChild old p → OwnsChild new after) → OnOk r (OwnsChildren new placed)
        by (Ok said) f one =
            kept_placed old new (told_keeps (change p) old new (after, said_as said) f) k.children id after own
            (one (own_at old k.children id p at own))
        by (Err why) f one = tt

  -- a read that gives up
  module _ (pipe : Stream) (on : ℕ) (is : after ≡ (its_pipe pipe).put (give_up_read on ((its_pipe pipe).get p)) p) where
    abbrev given_by : Streams → Option Child → Streams
    given_by s it = elim it [
      | None ↦ s
      | Some one ↦ record s { children = slice_set s.children id ((its_pipe pipe).put (give_up_read on ((its_pipe pipe).get one)) one) }
    ]

    pub given_placed : Becomes (requests.give_up_read on (OfChild pipe id)) k placed
    given_placed s h =
        subst (λ it. StandsAfter placed s.opened s (given_by s it)) (is_there s h)
        (subst (λ a. StandsAfter placed s.opened s (record s { children = slice_set s.children id a })) is (stands_placed s h))

  pub own_changed_alone : (v : View) → (OwnsChild v p → OwnsChild v after) → OwnsChildren v k → OwnsChildren v placed
  own_changed_alone v one own = kept_placed v v (λ future it. it) k.children id after own (one (own_at v k.children id p at own))

-- a call that leaves the child as it is
module _ (k : Kept) (id : ℕ) (p : Child) (at : slice_get k.children id ≡ Some p) where
  pub comes_beside : {R W : Type 0} (o : Outside W) (change : Child → Doing Child) (old new : Reach View W) (result : Result R Stop)
      → Follows o seen_changed (change p) old new (after_of p result) → Comes o (on_one its_children id change) k k old new result
  comes_beside o change old new result f =
      subst (λ (n : Kept). Comes o (on_one its_children id change) k n old new result)
      (ap (λ (ps : List Child). record k { children = ps }) (same_place k.children id p at))
      (comes_placed k id p p at o change old new result f)

-- ---- on one that there isn't
module _ (k : Kept) (id : ℕ) (past : slice_get k.children id ≡ None) where
  none_there : (s : Streams) → ChildrenStandFor k s → None ≡ slice_get s.children id
  none_there s h = sym (ap (λ ps. slice_get ps id) h.children ∙ past)

  stands_still : (s : Streams) → ChildrenStandFor k s → StandsAfter k s.opened s s
  stands_still s h = (h, record { servers = refl; connections = refl; opened = refl })

  pub comes_absent : {R W : Type 0} (o : Outside W) (change : Child → Doing Child) (at : Reach View W) (result : R)
      → Comes o (on_one its_children id change) k k at at (Ok result)
  comes_absent o change at result s h = (
    s,
    (
      subst (λ (it : Option Child). Follows o seen_changed
          (elim it [
            | None ↦ Ends s
            | Some one ↦ and_then (change one) (λ it. Ends (record s { children = slice_set s.children id it }))
          ]) at at (Ok s)) (none_there s h) (follows_ends o seen_changed s at),
      stands_still s h,
    ),
  )

  pub writes_absent : {W : Type 0} (o : Outside W) (piece : List ℕ) (at : Reach View W)
      → Answers o (write (to.Child id) piece) k k at at (Ok wrote.Done)
  writes_absent o piece at s h = (
    s,
    (
      subst (λ (it : Option Child). Follows {A = Streams × Wrote} o seen_changed
          (elim (option_map (λ (p : Child). p.stdin) it) [
            | None ↦ Ends (s, wrote.Done)
            | Some sender ↦ write_unnoted (to.Child id) piece (noted (to.Child id) (written_by (to.Child id) piece sender) s)
          ]) at at (Ok (s, wrote.Done))) (none_there s h) (follows_ends o seen_changed {A = Streams × Wrote} (s, wrote.Done) at),
      stands_still s h,
    ),
  )

  pub said_absent : {S : Type 0} (other : S) (change : Child → Doing (Child × S)) (at : View)
      → ToldWith (asked_one its_children other id change) k k at at other
  said_absent {S} other change at s h = (
    s,
    (
      subst (λ (it : Option Child). Tells {A = Streams × S} seen_changed
          (elim it [
            | None ↦ Ends (s, other)
            | Some one ↦ and_then (change one) (λ it. Ends (record s { children = slice_set s.children id it.0 }, it.1))
          ]) at at (s, other)) (none_there s h) (tells_ends seen_changed {A = Streams × S} (s, other) at),
      stands_still s h,
    ),
  )

  pub given_absent : (pipe : Stream) (on : ℕ) → Becomes (requests.give_up_read on (OfChild pipe id)) k k
  given_absent pipe on s h =
      subst (λ (it : Option Child). StandsAfter k s.opened s
      (elim it [
        | None ↦ s
        | Some one ↦ record s { children = slice_set s.children id ((its_pipe pipe).put (give_up_read on ((its_pipe pipe).get one)) one) }
      ])) (none_there s h) (stands_still s h)

  pub told_absent : (change : Child → Doing Child) (at : View) → Told (on_one its_children id change) k k at at
  told_absent change at s h = (
    s,
    (
      subst (λ (it : Option Child). Tells seen_changed
          (elim it [
            | None ↦ Ends s
            | Some one ↦ and_then (change one) (λ it. Ends (record s { children = slice_set s.children id it }))
          ]) at at s) (none_there s h) (tells_ends seen_changed s at),
      stands_still s h,
    ),
  )
