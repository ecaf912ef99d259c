-- The course of `pump_in`: what is so at each turn of its loop, and how a command leads on from there.
use Rattle.std.proofs.Common.{◌≡◌, ℕ, ◌+◌, inl, inr, ⊎_elim, List, [], ◌∷◌, ◌++◌, length, Option, Some}
use Rattle.std.proofs.Common.{None, refl, sym, ap, ◌∙◌, subst, append-nil, length-append}
use Rattle.model_wire.specs.Told.{Rose, SinkSeen, SinkFailed, grown, took}
use Rattle.model_pump.specs.Posts.{PostKind}
use Rattle.model_pump.specs.declared.post.PostKind.TheVariants.{Room, Broken, Starved}
use Rattle.model_pump.specs.Commands.{Command}
use Rattle.model_pump.specs.declared.command.Command.TheVariants.{Go, Write, Close, Stop}
use Rattle.aio_lane.specs.Ends.{TailSeen, may_receive, received as heard}
use Rattle.aio_inbox.specs.declared.view.PosterView.{PosterView}
use Rattle.aio_pump.specs.declared.report.Ending.{Ending}
use Rattle.aio_pump.specs.declared.report.Ending.TheVariants.{Ended, Stopped, Failed, Spent, Memory}
use Rattle.aio_pump.specs.Moments.{Moment, Posts, told}
use Rattle.aio_pump.specs.Received.{took_all, writes, joined}
use Rattle.aio_pump.specs.Writing.{rooms, PumpedIn, Writes, ObeysIn, Looks, ActsIn}
use Rattle.aio_pump.proofs.Posting.{posts_on, posts_still, told_add}
use Rattle.aio_pump.proofs.Lists.{heard_on, joined-append, rooms-append, writes-append}
use Rattle.aio_pump.proofs.Fronts.{grown-grown, grown-nil, took-took, took-nil}

-- what is so while the pump goes on: each Write so far was written whole, and its Room was posted
pub record GoingIn (tail hears : TailSeen) (before now : Moment SinkSeen) : Type 0 where
  pub received : List Command
  pub receives : hears ≡ took_all tail received
  pub posts : Posts (rooms (writes received)) before now
  pub takes : now.served ≡ took before.served (joined (writes received))
  pub moves : now.moved ≡ told (length (joined (writes received)))

pub starts : (tail : TailSeen) (before : Moment SinkSeen) → before.moved ≡ 0 → GoingIn tail tail before before
starts tail before none = record {
  received = [];
  receives = ap (λ (l : List Command). took_all (record tail { taken = [] }) l) (sym (append-nil tail.taken));
  posts = (refl, refl);
  takes = sym (took-nil before.served);
  moves = none;
}

module _ (tail hears : TailSeen) (before now after : Moment SinkSeen) (going : GoingIn tail hears before now) where
  so_far : List (List ℕ)
  so_far = writes going.received

  -- after a part of one more Write
  moved_on : (part : List ℕ) → after.moved ≡ told (now.moved + length part) → after.moved ≡ told (length (joined so_far ++ part))
  unfolding so_far
  moved_on part moved =
      moved ∙ ap (λ x. told (x + length part)) going.moves ∙ told_add (length (joined so_far)) (length part)
      ∙ ap told (sym (length-append (joined so_far) part))

  taken_on : (part : List ℕ) → after.served.taken ≡ grown now.served.taken part
      → after.served.taken ≡ grown before.served.taken (joined so_far ++ part)
  unfolding so_far
  taken_on part taken =
      taken ∙ ap (λ (s : SinkSeen). grown s.taken part) going.takes ∙ grown-grown before.served.taken (joined so_far) part

  same_faults : now.served.faults ≡ before.served.faults
  same_faults = ap (λ (s : SinkSeen). s.faults) going.takes

  rose_on : Rose now.served.faults after.served.faults → Rose before.served.faults after.served.faults
  rose_on rose = subst (λ n. Rose n after.served.faults) same_faults rose

  more : (bytes : List ℕ) → writes (going.received ++ Write bytes ∷ []) ≡ so_far ++ bytes ∷ []
  unfolding so_far
  more bytes = writes-append going.received (Write bytes ∷ [])

  -- a Write that was written whole
  writes_on : (bytes : List ℕ) → Writes bytes now after None → GoingIn tail (heard hears (Write bytes)) before after
  unfolding so_far
  writes_on bytes went =
      let all : joined (writes (going.received ++ Write bytes ∷ [])) ≡ joined so_far ++ bytes =
      ap joined (more bytes) ∙ joined-append so_far bytes in
      record {
        received = going.received ++ Write bytes ∷ [];
        receives = heard_on tail hears going.received (Write bytes) going.receives;
        posts = subst (λ (l : List PostKind). Posts l before after) (sym (ap rooms (more bytes) ∙ rooms-append so_far bytes))
            (posts_on before now after (rooms so_far) Room going.posts went.0);
        takes = went.1 ∙ ap (λ (s : SinkSeen). took s bytes) going.takes ∙ took-took before.served (joined so_far) bytes
            ∙ ap (λ (l : List ℕ). took before.served l) (sym all);
        moves = moved_on bytes went.2 ∙ ap (λ (l : List ℕ). told (length l)) (sym all);
      }

  broken : (bytes part rest : List ℕ) → bytes ≡ part ++ rest
      → writes (going.received ++ Write bytes ∷ []) ≡ so_far ++ (part ++ rest) ∷ []
  broken bytes part rest is = more bytes ∙ ap (λ (b : List ℕ). so_far ++ b ∷ []) is

  -- a Write at which the pump ends
  writes_last : (bytes : List ℕ) (ending : Ending) → Writes bytes now after (Some ending)
      → PumpedIn tail before after (Some (heard hears (Write bytes))) ending
  unfolding so_far
  writes_last bytes Ended went = absurd went
  writes_last bytes Stopped went = absurd went
  writes_last bytes Failed (part, rest, is, some, posts, failed, moved) = record {
    received = going.received ++ Write bytes ∷ [];
    whole = so_far;
    part = part;
    last = Broken ∷ [];
    returned = ap Some (heard_on tail hears going.received (Write bytes) going.receives);
    posts = posts_on before now after (rooms so_far) Broken going.posts posts;
    taken = taken_on part failed.0;
    moves = moved_on part moved;
    ends = (refl, rose_on failed.1, inl (rest, some, broken bytes part rest is));
  }
  writes_last bytes Spent (part, rest, is, posts, spent, taken, faults, moved) = record {
    received = going.received ++ Write bytes ∷ [];
    whole = so_far;
    part = part;
    last = [];
    returned = ap Some (heard_on tail hears going.received (Write bytes) going.receives);
    posts = subst (λ (l : List PostKind). Posts l before after) (sym (append-nil (rooms so_far)))
        (posts_still before now after (rooms so_far) going.posts posts);
    taken = taken_on part taken;
    moves = moved_on part moved;
    ends = (
      refl,
      ap (λ (v : PosterView). length v.posted) posts.0 ∙ spent,
      ⊎_elim (λ same. inl (same ∙ same_faults)) (λ rose. inr (rose_on rose)) faults,
      inl (rest, broken bytes part rest is),
    );
  }
  writes_last bytes Memory (part, rest, is, some, posts, takes, moved) = record {
    received = going.received ++ Write bytes ∷ [];
    whole = so_far;
    part = part;
    last = Starved ∷ [];
    returned = ap Some (heard_on tail hears going.received (Write bytes) going.receives);
    posts = posts_on before now after (rooms so_far) Starved going.posts posts;
    taken = taken_on part (ap (λ (s : SinkSeen). s.taken) takes);
    moves = moved_on part moved;
    ends = (refl, ap (λ (s : SinkSeen). s.faults) takes ∙ same_faults, inl (rest, some, broken bytes part rest is));
  }

-- a command that changes nothing but what was received, and is no Write
module _ (tail hears : TailSeen) (before now : Moment SinkSeen) (going : GoingIn tail hears before now) where
  same_writes : (command : Command) → writes (command ∷ []) ≡ [] → writes going.received ≡ writes (going.received ++ command ∷ [])
  same_writes command none =
      sym (append-nil (writes going.received)) ∙ ap (λ (l : List (List ℕ)). writes going.received ++ l) (sym none)
      ∙ sym (writes-append going.received (command ∷ []))

  skips : GoingIn tail (heard hears Go) before now
  skips =
      let same = same_writes Go refl in
      record {
        received = going.received ++ Go ∷ [];
        receives = heard_on tail hears going.received Go going.receives;
        posts = subst (λ (l : List (List ℕ)). Posts (rooms l) before now) same going.posts;
        takes = going.takes ∙ ap (λ (l : List (List ℕ)). took before.served (joined l)) same;
        moves = going.moves ∙ ap (λ (l : List (List ℕ)). told (length (joined l))) same;
      }

  no_more : Posts (rooms (writes going.received) ++ []) before now
  no_more = subst (λ (l : List PostKind). Posts l before now) (sym (append-nil (rooms (writes going.received)))) going.posts

  taken_all : now.served.taken ≡ grown before.served.taken (joined (writes going.received) ++ [])
  taken_all = ap (λ (s : SinkSeen). s.taken) going.takes
      ∙ ap (λ (l : List ℕ). grown before.served.taken l) (sym (append-nil (joined (writes going.received))))

  moved_all : now.moved ≡ told (length (joined (writes going.received) ++ []))
  moved_all = going.moves ∙ ap (λ (l : List ℕ). told (length l)) (sym (append-nil (joined (writes going.received))))

  closes : PumpedIn tail before now (Some (heard hears Close)) Ended
  closes = record {
    received = going.received ++ Close ∷ [];
    whole = writes going.received;
    part = [];
    last = [];
    returned = ap Some (heard_on tail hears going.received Close going.receives);
    posts = no_more;
    taken = taken_all;
    moves = moved_all;
    ends = (refl, (refl, sym (same_writes Close refl)), (going.received, refl), ap (λ (s : SinkSeen). s.faults) going.takes);
  }

  stops : PumpedIn tail before now (Some (heard hears Stop)) Stopped
  stops = record {
    received = going.received ++ Stop ∷ [];
    whole = writes going.received;
    part = [];
    last = [];
    returned = ap Some (heard_on tail hears going.received Stop going.receives);
    posts = no_more;
    taken = taken_all;
    moves = moved_all;
    ends = (refl, (refl, sym (same_writes Stop refl)), (going.received, refl), ap (λ (s : SinkSeen). s.faults) going.takes);
  }

none_some : (ending : Ending) → Some ending ≡ None → ⊥
none_some ending is = cc

same_ending : (a b : Ending) → Some a ≡ Some b → a ≡ b
same_ending a b is = cc

-- one turn of the loop, by its command and its answer
module _ (tail hears : TailSeen) (before now after : Moment SinkSeen) (going : GoingIn tail hears before now) where
  turns : (command : Command) → ObeysIn command now after None → GoingIn tail (heard hears command) before after
  turns Go turned =
      subst (λ (m : Moment SinkSeen). GoingIn tail (heard hears Go) before m) (sym turned.1) (skips tail hears before now going)
  turns (Write bytes) turned = writes_on tail hears before now after going bytes turned
  turns Close turned = absurd (none_some Ended (sym turned.0))
  turns Stop turned = absurd (none_some Stopped (sym turned.0))

  ended : (command : Command) (ending : Ending) → ObeysIn command now after (Some ending)
      → PumpedIn tail before after (Some (heard hears command)) ending
  ended Go ending turned = absurd (none_some ending turned.0)
  ended (Write bytes) ending turned = writes_last tail hears before now after going bytes ending turned
  ended Close ending turned =
      subst (λ (x : Moment SinkSeen × Ending). PumpedIn tail before x.0 (Some (heard hears Close)) x.1)
      (λ i. (sym turned.1 i, sym (same_ending ending Ended turned.0) i)) (closes tail hears before now going)
  ended Stop ending turned =
      subst (λ (x : Moment SinkSeen × Ending). PumpedIn tail before x.0 (Some (heard hears Stop)) x.1)
      (λ i. (sym turned.1 i, sym (same_ending ending Stopped turned.0) i)) (stops tail hears before now going)

  -- the sink was looked at, and takes bytes
  looked_on : Looks now after None → GoingIn tail hears before after
  looked_on looked = record {
    received = going.received;
    receives = going.receives;
    posts = posts_still before now after (rooms (writes going.received)) going.posts looked.0;
    takes = looked.1 ∙ took-nil now.served ∙ going.takes;
    moves = looked.2 ∙ going.moves;
  }

  taken_still : after.served.taken ≡ now.served.taken
      → after.served.taken ≡ grown before.served.taken (joined (writes going.received) ++ [])
  taken_still taken = taken ∙ taken_all tail hears before now going

  -- a sink that failed at a look took nothing
  none_taken : SinkFailed [] now.served after.served → after.served.taken ≡ now.served.taken
  none_taken failed = failed.0 ∙ grown-nil now.served.taken

  moved_still : after.moved ≡ now.moved → after.moved ≡ told (length (joined (writes going.received) ++ []))
  moved_still still = still ∙ moved_all tail hears before now going

  faults_still : now.served.faults ≡ before.served.faults
  faults_still = ap (λ (s : SinkSeen). s.faults) going.takes

  rises : SinkFailed [] now.served after.served → Rose before.served.faults after.served.faults
  rises failed = subst (λ n. Rose n after.served.faults) faults_still failed.1

  -- a look at which the pump ends
  looked_last : (ending : Ending) → Looks now after (Some ending) → PumpedIn tail before after (Some hears) ending
  looked_last Ended looked = absurd looked
  looked_last Stopped looked = absurd looked
  looked_last Failed (posts, failed, still) = record {
    received = going.received;
    whole = writes going.received;
    part = [];
    last = Broken ∷ [];
    returned = ap Some going.receives;
    posts = posts_on before now after (rooms (writes going.received)) Broken going.posts posts;
    taken = taken_still (none_taken failed);
    moves = moved_still still;
    ends = (refl, rises failed, inr (refl, refl));
  }
  looked_last Spent (posts, spent, sink, still) = record {
    received = going.received;
    whole = writes going.received;
    part = [];
    last = [];
    returned = ap Some going.receives;
    posts = subst (λ (l : List PostKind). Posts l before after) (sym (append-nil (rooms (writes going.received))))
        (posts_still before now after (rooms (writes going.received)) going.posts posts);
    taken = taken_still (⊎_elim (λ same. ap (λ (s : SinkSeen). s.taken) same) none_taken sink);
    moves = moved_still still;
    ends = (
      refl,
      ap (λ (v : PosterView). length v.posted) posts.0 ∙ spent,
      ⊎_elim (λ same. inl (ap (λ (s : SinkSeen). s.faults) same ∙ faults_still)) (λ failed. inr (rises failed)) sink,
      inr (refl, refl),
    );
  }
  looked_last Memory (posts, same, still) = record {
    received = going.received;
    whole = writes going.received;
    part = [];
    last = Starved ∷ [];
    returned = ap Some going.receives;
    posts = posts_on before now after (rooms (writes going.received)) Starved going.posts posts;
    taken = taken_still (ap (λ (s : SinkSeen). s.taken) same);
    moves = moved_still still;
    ends = (refl, ap (λ (s : SinkSeen). s.faults) same ∙ faults_still, inr (refl, refl));
  }

-- one turn of the loop, by what came
module _ (tail hears : TailSeen) (before now after : Moment SinkSeen) (going : GoingIn tail hears before now) where
  goes_on : (came : Option Command) → ActsIn came now after None → GoingIn tail (may_receive hears came) before after
  goes_on (Some command) acted = turns tail hears before now after going command acted
  goes_on None acted = looked_on tail hears before now after going acted

  comes_to : (came : Option Command) (ending : Ending) → ActsIn came now after (Some ending)
      → PumpedIn tail before after (Some (may_receive hears came)) ending
  comes_to (Some command) ending acted = ended tail hears before now after going command ending acted
  comes_to None ending acted = looked_last tail hears before now after going ending acted

  -- the same, where the tail and the answer are known by equations
  pub turns_at : (later : TailSeen) (came : Option Command) → later ≡ may_receive hears came
      → (answer : Option Ending) → answer ≡ None → ActsIn came now after answer → GoingIn tail later before after
  turns_at later came hear answer is acted = subst (λ (t : TailSeen). GoingIn tail t before after) (sym hear)
      (goes_on came (subst (λ a. ActsIn came now after a) is acted))

  pub ended_at : (later : TailSeen) (came : Option Command) → later ≡ may_receive hears came
      → (ending : Ending) (answer : Option Ending) → answer ≡ Some ending → ActsIn came now after answer
      → PumpedIn tail before after (Some later) ending
  ended_at later came hear ending answer is acted = subst (λ (t : TailSeen). PumpedIn tail before after (Some t) ending) (sym hear)
      (comes_to came ending (subst (λ a. ActsIn came now after a) is acted))
