-- The course of `pump_out`: what is so at each turn of its loop, and how a command leads on from there.
use Rattle.std.proofs.Common.{◌≡◌, ℕ, ◌+◌, ◌-◌, ◌^◌, ◌≤◌, inl, inr, List, [], ◌∷◌, ◌++◌, length, Option, Some, None, min}
use Rattle.std.proofs.Common.{refl, sym, ap, ◌∙◌, subst, append_assoc, append-nil, length-append, zero-add, arith}
use Rattle.std.proofs.Math.Nat.{min-le_left, min-le_right, le-min, le_trans}
use Rattle.std.proofs.lemmas.List.Elements.{All-nil, All-push}
use Rattle.std.specs.List.{All}
use Rattle.model_wire.specs.Told.{Agrees, Rose, SourceSeen}
use Rattle.model_pump.specs.declared.stream.Stream.{Stream}
use Rattle.model_pump.specs.Posts.{PostKind}
use Rattle.model_pump.specs.declared.post.PostKind.TheVariants.{Piece, End, Fault, Starved}
use Rattle.model_pump.specs.Commands.{Command}
use Rattle.model_pump.specs.declared.command.Command.TheVariants.{Go, Write, Close, Stop}
use Rattle.aio_lane.specs.Ends.{TailSeen, received as heard}
use Rattle.aio_inbox.specs.declared.view.PosterView.{PosterView}
use Rattle.aio_pump.specs.declared.report.Ending.{Ending}
use Rattle.aio_pump.specs.declared.report.Ending.TheVariants.{Ended, Stopped, Failed, Spent, Memory}
use Rattle.aio_pump.specs.Moments.{Moment, Posts, told}
use Rattle.aio_pump.specs.Received.{took_all, gos, joined}
use Rattle.aio_pump.specs.Reading.{pieces, IsPiece, Gave, PumpedOut, Goes, ObeysOut}
use Rattle.aio_pump.proofs.Posting.{posts_on, posts_still, told_add}
use Rattle.aio_pump.proofs.Lists.{heard_on, joined-append, pieces-append, gos-append}

-- what is so while the pump goes on: each Go so far was answered by a piece
pub record GoingOut (stream : Stream) (tail hears : TailSeen) (before now : Moment SourceSeen) : Type 0 where
  pub received : List Command
  pub parts : List (List ℕ)
  pub receives : hears ≡ took_all tail received
  pub posts : Posts (pieces stream 0 parts) before now
  pub sized : All IsPiece parts
  pub gave : Gave before.served (joined parts) now.served
  pub moves : now.moved ≡ told (length (joined parts))
  pub answered : length parts ≡ gos received

-- a count that rose since a later moment rose since an earlier one
pub rose_before : (old mid new : ℕ) → old ≤ mid → Rose mid new → Rose old new
rose_before old mid new low rose =
    let top = 2 ^ 64 - 1 in
    let lower : min (old + 1) top ≤ min (mid + 1) top =
    le-min (omega (arith, min-le_left (old + 1) top, low)) (min-le_right (old + 1) top) in
    le_trans lower rose

gave_on : (old mid new : SourceSeen) (given part : List ℕ) → Gave old given mid → Gave mid part new → Gave old (given ++ part) new
gave_on old mid new given part first second = (
  (λ rest is. subst (λ l. Agrees old.left l) (sym (append_assoc given part rest)) (first.0 (part ++ rest) (second.0 rest is))),
  le_trans first.1 second.1,
)

gave_still : (old mid new : SourceSeen) (given : List ℕ) → Gave old given mid → new.left ≡ mid.left → mid.faults ≤ new.faults
    → Gave old given new
gave_still old mid new given first same later =
    ((λ rest is. first.0 rest (subst (λ o. Agrees o rest) same is)), le_trans first.1 later)

pub starts : (stream : Stream) (tail : TailSeen) (before : Moment SourceSeen) → before.moved ≡ 0 → GoingOut stream tail tail before before
starts stream tail before none = record {
  received = [];
  parts = [];
  receives = ap (λ (l : List Command). took_all (record tail { taken = [] }) l) (sym (append-nil tail.taken));
  posts = (refl, refl);
  sized = All-nil IsPiece;
  gave = ((λ rest is. is), omega arith);
  moves = none;
  answered = refl;
}

module _ (stream : Stream) (tail hears : TailSeen) (before now after : Moment SourceSeen) (going : GoingOut stream tail hears before now) where
  -- a Go that was answered by a piece
  goes_on : Goes stream now after None → GoingOut stream tail (heard hears Go) before after
  goes_on went =
      let part = went.0 in
      let place : now.moved ≡ told (0 + length (joined going.parts)) = going.moves ∙ ap told (sym (zero-add _)) in
      let kinds : pieces stream 0 going.parts ++ Piece stream now.moved part ∷ [] ≡ pieces stream 0 (going.parts ++ part ∷ []) =
      ap (λ x. pieces stream 0 going.parts ++ Piece stream x part ∷ []) place ∙ sym (pieces-append stream 0 going.parts part) in
      record {
        received = going.received ++ Go ∷ [];
        parts = going.parts ++ part ∷ [];
        receives = heard_on tail hears going.received Go going.receives;
        posts = subst (λ (l : List PostKind). Posts l before after) kinds
            (posts_on before now after (pieces stream 0 going.parts) (Piece stream now.moved part) going.posts went.1);
        sized = All-push IsPiece going.parts part going.sized went.4;
        gave = subst (λ (l : List ℕ). Gave before.served l after.served) (sym (joined-append going.parts part))
            (gave_on before.served now.served after.served (joined going.parts) part going.gave went.3);
        moves = went.2 ∙ ap (λ x. told (x + length part)) going.moves ∙ told_add (length (joined going.parts)) (length part)
            ∙ ap told (sym (length-append (joined going.parts) part) ∙ ap length (sym (joined-append going.parts part)));
        answered = omega (arith, length-append going.parts (part ∷ []), gos-append going.received (Go ∷ []), going.answered);
      }

  one_more : length going.parts + 1 ≡ gos (going.received ++ Go ∷ [])
  one_more = omega (arith, gos-append going.received (Go ∷ []), going.answered)

  all_of : List ℕ → Type 0
  all_of l = l ≡ joined going.parts

  -- a Go at which the pump ends
  goes_last : (ending : Ending) → Goes stream now after (Some ending) → PumpedOut stream tail before after (Some (heard hears Go)) ending
  goes_last Ended went = record {
    received = going.received ++ Go ∷ [];
    parts = going.parts;
    given = joined going.parts;
    last = End stream ∷ [];
    returned = ap Some (heard_on tail hears going.received Go going.receives);
    posts = posts_on before now after (pieces stream 0 going.parts) (End stream) going.posts went.0;
    sized = going.sized;
    gave = gave_still before.served now.served after.served (joined going.parts) going.gave went.2 went.3;
    prefix = ([], append-nil (joined going.parts));
    moves = went.1 ∙ going.moves;
    ends = (refl, inr (refl, went.4, (going.received, refl), one_more));
  }
  goes_last Stopped went = absurd went
  goes_last Failed went = record {
    received = going.received ++ Go ∷ [];
    parts = going.parts;
    given = joined going.parts;
    last = Fault ∷ [];
    returned = ap Some (heard_on tail hears going.received Go going.receives);
    posts = posts_on before now after (pieces stream 0 going.parts) Fault going.posts went.0;
    sized = going.sized;
    gave = gave_still before.served now.served after.served (joined going.parts) going.gave went.2 went.3;
    prefix = ([], append-nil (joined going.parts));
    moves = went.1 ∙ going.moves;
    ends = (
      refl,
      refl,
      rose_before before.served.faults now.served.faults after.served.faults going.gave.1 went.4,
      (going.received, refl),
      one_more,
    );
  }
  goes_last Spent went = record {
    received = going.received ++ Go ∷ [];
    parts = going.parts;
    given = joined going.parts ++ went.3.0;
    last = [];
    returned = ap Some (heard_on tail hears going.received Go going.receives);
    posts = subst (λ (l : List PostKind). Posts l before after) (sym (append-nil (pieces stream 0 going.parts)))
        (posts_still before now after (pieces stream 0 going.parts) going.posts went.0);
    sized = going.sized;
    gave = gave_on before.served now.served after.served (joined going.parts) went.3.0 going.gave went.3.1;
    prefix = (went.3.0, refl);
    moves = went.1 ∙ going.moves;
    ends = (refl, ap (λ (v : PosterView). length v.posted) went.0.0 ∙ went.2, (going.received, refl), one_more);
  }
  goes_last Memory went = record {
    received = going.received ++ Go ∷ [];
    parts = going.parts;
    given = joined going.parts;
    last = Starved ∷ [];
    returned = ap Some (heard_on tail hears going.received Go going.receives);
    posts = posts_on before now after (pieces stream 0 going.parts) Starved going.posts went.0;
    sized = going.sized;
    gave = subst (λ (o : SourceSeen). Gave before.served (joined going.parts) o) (sym went.2) going.gave;
    prefix = ([], append-nil (joined going.parts));
    moves = went.1 ∙ going.moves;
    ends = (refl, refl, (going.received, refl), one_more);
  }

-- a command that changes nothing but what was received, and is no Go
module _ (stream : Stream) (tail hears : TailSeen) (before now : Moment SourceSeen) (going : GoingOut stream tail hears before now) where
  skips : (bytes : List ℕ) → GoingOut stream tail (heard hears (Write bytes)) before now
  skips bytes = record {
    received = going.received ++ Write bytes ∷ [];
    parts = going.parts;
    receives = heard_on tail hears going.received (Write bytes) going.receives;
    posts = going.posts;
    sized = going.sized;
    gave = going.gave;
    moves = going.moves;
    answered = omega (arith, gos-append going.received (Write bytes ∷ []), going.answered);
  }

  no_more : Posts (pieces stream 0 going.parts ++ []) before now
  no_more = subst (λ (l : List PostKind). Posts l before now) (sym (append-nil (pieces stream 0 going.parts))) going.posts

  closes : PumpedOut stream tail before now (Some (heard hears Close)) Ended
  closes = record {
    received = going.received ++ Close ∷ [];
    parts = going.parts;
    given = joined going.parts;
    last = [];
    returned = ap Some (heard_on tail hears going.received Close going.receives);
    posts = no_more;
    sized = going.sized;
    gave = going.gave;
    prefix = ([], append-nil (joined going.parts));
    moves = going.moves;
    ends = (refl, inl (refl, (going.received, refl), omega (arith, gos-append going.received (Close ∷ []), going.answered)));
  }

  stops : PumpedOut stream tail before now (Some (heard hears Stop)) Stopped
  stops = record {
    received = going.received ++ Stop ∷ [];
    parts = going.parts;
    given = joined going.parts;
    last = [];
    returned = ap Some (heard_on tail hears going.received Stop going.receives);
    posts = no_more;
    sized = going.sized;
    gave = going.gave;
    prefix = ([], append-nil (joined going.parts));
    moves = going.moves;
    ends = (refl, refl, (going.received, refl), omega (arith, gos-append going.received (Stop ∷ []), going.answered));
  }

none_some : (ending : Ending) → Some ending ≡ None → ⊥
none_some ending is = cc

same_ending : (a b : Ending) → Some a ≡ Some b → a ≡ b
same_ending a b is = cc

-- one turn of the loop, by its command and its answer
module _ (stream : Stream) (tail hears : TailSeen) (before now after : Moment SourceSeen) (going : GoingOut stream tail hears before now) where
  turns : (command : Command) → ObeysOut stream command now after None → GoingOut stream tail (heard hears command) before after
  turns Go turned = goes_on stream tail hears before now after going turned
  turns (Write bytes) turned =
      subst (λ (m : Moment SourceSeen). GoingOut stream tail (heard hears (Write bytes)) before m) (sym turned.1)
      (skips stream tail hears before now going bytes)
  turns Close turned = absurd (none_some Ended (sym turned.0))
  turns Stop turned = absurd (none_some Stopped (sym turned.0))

  ended : (command : Command) (ending : Ending) → ObeysOut stream command now after (Some ending)
      → PumpedOut stream tail before after (Some (heard hears command)) ending
  ended Go ending turned = goes_last stream tail hears before now after going ending turned
  ended (Write bytes) ending turned = absurd (none_some ending turned.0)
  ended Close ending turned =
      subst (λ (x : Moment SourceSeen × Ending). PumpedOut stream tail before x.0 (Some (heard hears Close)) x.1)
      (λ i. (sym turned.1 i, sym (same_ending ending Ended turned.0) i)) (closes stream tail hears before now going)
  ended Stop ending turned =
      subst (λ (x : Moment SourceSeen × Ending). PumpedOut stream tail before x.0 (Some (heard hears Stop)) x.1)
      (λ i. (sym turned.1 i, sym (same_ending ending Stopped turned.0) i)) (stops stream tail hears before now going)

  -- the same, where the answer is known by an equation
  pub turns_at : (command : Command) (answer : Option Ending) → answer ≡ None → ObeysOut stream command now after answer
      → GoingOut stream tail (heard hears command) before after
  turns_at command answer is turned = turns command (subst (λ a. ObeysOut stream command now after a) is turned)

  pub ended_at : (command : Command) (ending : Ending) (answer : Option Ending) → answer ≡ Some ending
      → ObeysOut stream command now after answer → PumpedOut stream tail before after (Some (heard hears command)) ending
  ended_at command ending answer is turned = ended command ending (subst (λ a. ObeysOut stream command now after a) is turned)
