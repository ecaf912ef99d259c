-- What a call on listeners and connections comes to, or one on children, for both together.
use Rattle.std.proofs.Common.{[], Result, Ok, Err, IfOk, OnOk, ◌∙◌, refl}
use Rattle.model_stream.specs.Doing.{Doing}
use Rattle.model_stream.specs.Streams.{Streams}
use Rattle.aio_wire.specs.Outside.{Outside}
use Rattle.aio_wire.specs.declared.stop.Stop.{Stop}
use Rattle.aio_exchange.specs.Follows.{Follows, Reach, after_of, with_after}
use Rattle.aio_task.specs.View.{View}
use Rattle.aio_change.specs.Owned.{KeepsOwn}
use Rattle.aio_change.specs.Seen.{seen_changed}
use Rattle.aio_change.proofs.Owning.{told_keeps, went_keeps}
use Rattle.aio_children.specs.Kept.{Kept as Children}
use Rattle.aio_children.specs.Owned.{OwnsChildren}
use Rattle.aio_children.specs.Standing as children
use Rattle.aio_children.proofs.Placing.{kept_children}
use Rattle.aio_stream.specs.Kept.{Kept as Conns}
use Rattle.aio_stream.specs.Owned.{OwnsStreams}
use Rattle.aio_stream.specs.Standing as streams
use Rattle.aio_stream.proofs.Placing.{kept_connections}
use Rattle.aio_transports.specs.Kept.{Remaining, kept_all}
use Rattle.aio_transports.specs.Owned.{OwnsTransports}
use Rattle.aio_transports.specs.Standing.{Answers, Becomes, Comes, StandsAfter, TransportsStandFor, Told, ToldWith}
use Rattle.aio_transports.proofs.Lasting.{Lasts, LastsWith}
use Rattle.aio_transports.proofs.Numbering.{EndsIn, follows_in, tells_in}
use Rattle.aio_transports.proofs.Remaining.{still_remains}

-- ---- what it stands for after a change of a half
module _ (c : Conns) (p : Children) (rest : Remaining) (s : Streams) (h : TransportsStandFor (kept_all c p rest) s) (after : Streams)
    (lasts : Lasts s after) where
  pub beside_children : (new : Conns) → streams.StandsAfter new s after → StandsAfter (kept_all new p rest) s after
  beside_children new it = (
    record {
      streams = it.0;
      children = record { children = it.1 ∙ h.children.children; most = lasts.most ∙ h.children.most };
      remaining = still_remains rest s after lasts h.remaining;
    },
    lasts.most,
  )

  pub beside_streams : (new : Children) → children.StandsAfter new s.opened s after → StandsAfter (kept_all c new rest) s after
  beside_streams new it = (
    record {
      streams = record {
        servers = it.1.servers ∙ h.streams.servers;
        connections = it.1.connections ∙ h.streams.connections;
        opened = it.1.opened ∙ h.streams.opened;
        most = lasts.most ∙ h.streams.most;
      };
      children = it.0;
      remaining = still_remains rest s after lasts h.remaining;
    },
    lasts.most,
  )

-- some streams that each half stands for
abbrev pub streams_of : Conns → Streams
streams_of c =
    record { servers = c.servers; connections = c.connections; children = []; opened = c.opened; written = []; most = c.most }

abbrev pub streams_with : Children → Streams
streams_with p =
    record { servers = []; connections = []; children = p.children; opened = []; written = []; most = p.most }

pub stands_of : (c : Conns) → streams.StreamStandsFor c (streams_of c)
stands_of c = record { servers = refl; connections = refl; opened = refl; most = refl }

pub stands_with : (p : Children) → children.ChildrenStandFor p (streams_with p)
stands_with p = record { children = refl; most = refl }

-- ---- what is no task's stays so
module _ (old new : View) (keeps : KeepsOwn old new) where
  pub own_children : (p : Children) → OwnsChildren old p → OwnsChildren new p
  own_children p own = kept_children old new keeps p.children own

  pub own_streams : (c : Conns) → OwnsStreams old c → OwnsStreams new c
  own_streams c own = kept_connections old new keeps c.connections own

-- ---- a call that may ask
module _ {R W : Type 0} (o : Outside W) (c : Conns) (p : Children) (rest : Remaining) (old new : Reach View W) (result : Result R Stop) where
  module _ (tree : Streams → Doing Streams) (many : (s : Streams) → EndsIn (Lasts s) (tree s)) where
    pub comes_on_streams : (next : Conns) → streams.Comes o tree c next old new result
        → Comes o tree (kept_all c p rest) (kept_all next p rest) old new result
    comes_on_streams next it s h = let done = it s h.streams in (done.0, (done.1.0, ok done.0 result done.1.0 done.1.1))
      where
        ok : (after : Streams) (r : Result R Stop) → Follows o seen_changed (tree s) old new (after_of after r)
            → OnOk r (streams.StandsAfter next s after) → OnOk r (StandsAfter (kept_all next p rest) s after)
        ok after (Ok said) f stands =
            beside_children c p rest s h after (follows_in (Lasts s) seen_changed (tree s) (many s) o old new after f) next stands
        ok after (Err why) f stands = tt

    pub comes_on_children : (next : Children) → children.Comes o tree p next old new result
        → Comes o tree (kept_all c p rest) (kept_all c next rest) old new result
    comes_on_children next it s h = let done = it s h.children in (done.0, (done.1.0, ok done.0 result done.1.0 done.1.1))
      where
        ok : (after : Streams) (r : Result R Stop) → Follows o seen_changed (tree s) old new (after_of after r)
            → OnOk r (children.StandsAfter next s.opened s after) → OnOk r (StandsAfter (kept_all c next rest) s after)
        ok after (Ok said) f stands =
            beside_streams c p rest s h after (follows_in (Lasts s) seen_changed (tree s) (many s) o old new after f) next stands
        ok after (Err why) f stands = tt

    pub own_on_streams : (next : Conns) → streams.Comes o tree c next old new result → OnOk result (OwnsStreams new.parts next)
        → OwnsTransports old.parts (kept_all c p rest) → OnOk result (OwnsTransports new.parts (kept_all next p rest))
    own_on_streams next it owns own = let done = it (streams_of c) (stands_of c) in by done.0 result done.1.0 owns
      where
        by : (after : Streams) (r : Result R Stop) → Follows o seen_changed (tree (streams_of c)) old new (after_of after r)
            → OnOk r (OwnsStreams new.parts next) → OnOk r (OwnsTransports new.parts (kept_all next p rest))
        by after (Ok said) f owns =
            (owns, own_children old.parts new.parts (went_keeps o (tree (streams_of c)) old new after f) p own.1)
        by after (Err why) f owns = tt

    pub own_on_children : (next : Children) → children.Comes o tree p next old new result
        → OnOk result (OwnsChildren new.parts next)
        → OwnsTransports old.parts (kept_all c p rest) → OnOk result (OwnsTransports new.parts (kept_all c next rest))
    own_on_children next it owns own = let done = it (streams_with p) (stands_with p) in by done.0 result done.1.0 owns
      where
        by : (after : Streams) (r : Result R Stop) → Follows o seen_changed (tree (streams_with p)) old new (after_of after r)
            → OnOk r (OwnsChildren new.parts next) → OnOk r (OwnsTransports new.parts (kept_all c next rest))
        by after (Ok said) f owns =
            (own_streams old.parts new.parts (went_keeps o (tree (streams_with p)) old new after f) c own.0, owns)
        by after (Err why) f owns = tt

  -- with an answer
  module _ (tree : Streams → Doing (Streams × R)) (many : (s : Streams) → EndsIn (LastsWith {R = R} s) (tree s)) where
    pub answers_on_streams : (next : Conns) → streams.Answers o tree c next old new result
        → Answers o tree (kept_all c p rest) (kept_all next p rest) old new result
    answers_on_streams next it s h = let done = it s h.streams in (done.0, (done.1.0, ok done.0 result done.1.0 done.1.1))
      where
        ok : (after : Streams) (r : Result R Stop) → Follows o seen_changed (tree s) old new (with_after after r)
            → OnOk r (streams.StandsAfter next s after) → OnOk r (StandsAfter (kept_all next p rest) s after)
        ok after (Ok said) f stands =
            beside_children c p rest s h after (follows_in (LastsWith {R = R} s) seen_changed (tree s) (many s) o old new
            (after, said) f) next stands
        ok after (Err why) f stands = tt

    pub answers_on_children : (next : Children) → children.Answers o tree p next old new result
        → Answers o tree (kept_all c p rest) (kept_all c next rest) old new result
    answers_on_children next it s h = let done = it s h.children in (done.0, (done.1.0, ok done.0 result done.1.0 done.1.1))
      where
        ok : (after : Streams) (r : Result R Stop) → Follows o seen_changed (tree s) old new (with_after after r)
            → OnOk r (children.StandsAfter next s.opened s after) → OnOk r (StandsAfter (kept_all c next rest) s after)
        ok after (Ok said) f stands =
            beside_streams c p rest s h after (follows_in (LastsWith {R = R} s) seen_changed (tree s) (many s) o old new
            (after, said) f) next stands
        ok after (Err why) f stands = tt

    pub own_answers_streams : (next : Conns) → streams.Answers o tree c next old new result
        → OnOk result (OwnsStreams new.parts next)
        → OwnsTransports old.parts (kept_all c p rest) → OnOk result (OwnsTransports new.parts (kept_all next p rest))
    own_answers_streams next it owns own = let done = it (streams_of c) (stands_of c) in by done.0 result done.1.0 owns
      where
        by : (after : Streams) (r : Result R Stop) → Follows o seen_changed (tree (streams_of c)) old new (with_after after r)
            → OnOk r (OwnsStreams new.parts next) → OnOk r (OwnsTransports new.parts (kept_all next p rest))
        by after (Ok said) f owns =
            (owns, own_children old.parts new.parts (went_keeps o (tree (streams_of c)) old new (after, said) f) p own.1)
        by after (Err why) f owns = tt

    pub own_answers_children : (next : Children) → children.Answers o tree p next old new result
        → OnOk result (OwnsChildren new.parts next)
        → OwnsTransports old.parts (kept_all c p rest) → OnOk result (OwnsTransports new.parts (kept_all c next rest))
    own_answers_children next it owns own = let done = it (streams_with p) (stands_with p) in by done.0 result done.1.0 owns
      where
        by : (after : Streams) (r : Result R Stop) → Follows o seen_changed (tree (streams_with p)) old new (with_after after r)
            → OnOk r (OwnsChildren new.parts next) → OnOk r (OwnsTransports new.parts (kept_all c next rest))
        by after (Ok said) f owns =
            (own_streams old.parts new.parts (went_keeps o (tree (streams_with p)) old new (after, said) f) c own.0, owns)
        by after (Err why) f owns = tt

-- ---- a call that asks nothing
module _ (c : Conns) (p : Children) (rest : Remaining) (old new : View) where
  module _ (tree : Streams → Doing Streams) (many : (s : Streams) → EndsIn (Lasts s) (tree s)) where
    told_streams : (next : Conns) → streams.Told tree c next old new
        → Told tree (kept_all c p rest) (kept_all next p rest) old new
    told_streams next it s h =
        let done = it s h.streams in
        let lasts : Lasts s done.0 = tells_in (Lasts s) seen_changed (tree s) (many s) old new done.0 done.1.0 in
        (done.0, (done.1.0, beside_children c p rest s h done.0 lasts next done.1.1))

    told_children : (next : Children) → children.Told tree p next old new
        → Told tree (kept_all c p rest) (kept_all c next rest) old new
    told_children next it s h =
        let done = it s h.children in
        let lasts : Lasts s done.0 = tells_in (Lasts s) seen_changed (tree s) (many s) old new done.0 done.1.0 in
        (done.0, (done.1.0, beside_streams c p rest s h done.0 lasts next done.1.1))

    module _ {R E : Type 0} where
      pub told_on_streams : (result : Result R E) (next : Conns) → OnOk result (streams.Told tree c next old new)
          → OnOk result (Told tree (kept_all c p rest) (kept_all next p rest) old new)
      told_on_streams (Ok done) next it = told_streams next it
      told_on_streams (Err why) next it = tt

      pub told_on_children : (result : Result R E) (next : Children) → OnOk result (children.Told tree p next old new)
          → OnOk result (Told tree (kept_all c p rest) (kept_all c next rest) old new)
      told_on_children (Ok done) next it = told_children next it
      told_on_children (Err why) next it = tt

      pub own_told_streams : (result : Result R E) (next : Conns) → OnOk result (streams.Told tree c next old new)
          → OnOk result (OwnsStreams new next) → OwnsTransports old (kept_all c p rest)
          → OnOk result (OwnsTransports new (kept_all next p rest))
      own_told_streams (Ok done) next it owns own =
          let told = it (streams_of c) (stands_of c) in
          (owns, own_children old new (told_keeps (tree (streams_of c)) old new told.0 told.1.0) p own.1)
      own_told_streams (Err why) next it owns own = tt

      pub own_told_children : (result : Result R E) (next : Children) → OnOk result (children.Told tree p next old new)
          → OnOk result (OwnsChildren new next) → OwnsTransports old (kept_all c p rest)
          → OnOk result (OwnsTransports new (kept_all c next rest))
      own_told_children (Ok done) next it owns own =
          let told = it (streams_with p) (stands_with p) in
          (own_streams old new (told_keeps (tree (streams_with p)) old new told.0 told.1.0) c own.0, owns)
      own_told_children (Err why) next it owns own = tt

  -- with an answer
  module _ {S : Type 0} (tree : Streams → Doing (Streams × S)) (many : (s : Streams) → EndsIn (LastsWith {R = S} s) (tree s)) where
    pub said_streams : (next : Conns) (said : S) → streams.ToldWith tree c next old new said
        → ToldWith tree (kept_all c p rest) (kept_all next p rest) old new said
    said_streams next said it s h =
        let done = it s h.streams in
        let lasts : Lasts s done.0 = tells_in (LastsWith {R = S} s) seen_changed (tree s) (many s) old new
        (done.0, said) done.1.0 in
        (done.0, (done.1.0, beside_children c p rest s h done.0 lasts next done.1.1))

    pub said_children : (next : Children) (said : S) → children.ToldWith tree p next old new said
        → ToldWith tree (kept_all c p rest) (kept_all c next rest) old new said
    said_children next said it s h =
        let done = it s h.children in
        let lasts : Lasts s done.0 = tells_in (LastsWith {R = S} s) seen_changed (tree s) (many s) old new
        (done.0, said) done.1.0 in
        (done.0, (done.1.0, beside_streams c p rest s h done.0 lasts next done.1.1))

    module _ {R E : Type 0} (said_as : R → S) where
      pub said_on_streams : (result : Result R E) (next : Conns)
          → IfOk result (λ said. streams.ToldWith tree c next old new (said_as said))
          → IfOk result (λ said. ToldWith tree (kept_all c p rest) (kept_all next p rest) old new (said_as said))
      said_on_streams (Ok said) next it = said_streams next (said_as said) it
      said_on_streams (Err why) next it = tt

      pub said_on_children : (result : Result R E) (next : Children)
          → IfOk result (λ said. children.ToldWith tree p next old new (said_as said))
          → IfOk result (λ said. ToldWith tree (kept_all c p rest) (kept_all c next rest) old new (said_as said))
      said_on_children (Ok said) next it = said_children next (said_as said) it
      said_on_children (Err why) next it = tt

      pub own_said_streams : (result : Result R E) (next : Conns)
          → IfOk result (λ said. streams.ToldWith tree c next old new (said_as said)) → OnOk result (OwnsStreams new next)
          → OwnsTransports old (kept_all c p rest) → OnOk result (OwnsTransports new (kept_all next p rest))
      own_said_streams (Ok said) next it owns own =
          let told = it (streams_of c) (stands_of c) in
          (owns, own_children old new (told_keeps (tree (streams_of c)) old new (told.0, said_as said) told.1.0) p own.1)
      own_said_streams (Err why) next it owns own = tt

      pub own_said_children : (result : Result R E) (next : Children)
          → IfOk result (λ said. children.ToldWith tree p next old new (said_as said)) → OnOk result (OwnsChildren new next)
          → OwnsTransports old (kept_all c p rest) → OnOk result (OwnsTransports new (kept_all c next rest))
      own_said_children (Ok said) next it owns own =
          let told = it (streams_with p) (stands_with p) in
          (own_streams old new (told_keeps (tree (streams_with p)) old new (told.0, said_as said) told.1.0) c own.0, owns)
      own_said_children (Err why) next it owns own = tt

-- a call that changes nothing of the loop
module _ (c : Conns) (p : Children) (rest : Remaining) where
  pub becomes_on_streams : (change : Streams → Streams) → ((s : Streams) → Lasts s (change s)) → (next : Conns)
      → streams.Becomes change c next
      → Becomes change (kept_all c p rest) (kept_all next p rest)
  becomes_on_streams change many next it s h = beside_children c p rest s h (change s) (many s) next (it s h.streams)

  pub becomes_on_children : (change : Streams → Streams) → ((s : Streams) → Lasts s (change s)) → (next : Children)
      → children.Becomes change p next → Becomes change (kept_all c p rest) (kept_all c next rest)
  becomes_on_children change many next it s h = beside_streams c p rest s h (change s) (many s) next (it s h.children)

  module _ {R E : Type 0} where
    pub own_alone : (result : Result R E) (next : Conns) → OnOk result ((v : View) → OwnsStreams v c → OwnsStreams v next)
        → OnOk result ((v : View) → OwnsTransports v (kept_all c p rest) → OwnsTransports v (kept_all next p rest))
    own_alone (Ok said) next owns = λ v own. (owns v own.0, own.1)
    own_alone (Err why) next owns = tt
