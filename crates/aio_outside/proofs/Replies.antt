-- What a wire over another one replies, by what that one replied.
use Rattle.std.proofs.Common.{◌≡◌, ℕ, true, List, [], Option, None, Result, Ok, Err, refl, inl, arith}
use Rattle.std.specs.Prelude.{IfOk, OnErr}
use Rattle.aio_base.specs.declared.memory.Memory.{Memory}
use Rattle.model_wire.specs.Call.{Call, Answer}
use Rattle.model_wire.specs.Fits.{fits}
use Rattle.model_wire.specs.declared.answer.Answer.TheVariants as answer
use Rattle.model_wire.specs.declared.call.Call.TheVariants as call
use Rattle.model_wire.specs.declared.watch.Watch.{Watch}
use Rattle.model_wire.specs.Told.{Agrees, WireSeen}
use Rattle.aio_wire.specs.Replied.{Replied, Unreplied, Stays, UnlessFailed}
use Rattle.aio_wire.specs.declared.wire.Reply.{Reply}
use Rattle.aio_wire.specs.declared.wire.Reply.TheVariants as reply
use Rattle.aio_outside.specs.Untold.{untold}

none_told : {A : Type 0} (actual : A) → Agrees None actual
none_told actual held is = absurd (cc)

-- the same answers fit both calls
abbrev SameFits : Call → Call → Type 0
SameFits one other = (said : Answer) → fits one said ≡ true → fits other said ≡ true

module _ (one other : Call) (old new : WireSeen) (same : SameFits one other) where
  untold_reply : (given : Reply) → Replied one old new given → Replied other (untold old) (untold new) given
  untold_reply (reply.Got given) did =
      record {
        left = λ rest held. none_told _;
        ends = tt;
        fits = λ fitting. same given (did.fits fitting);
        asked = refl;
        handed = refl;
        failed = tt;
      }
  untold_reply reply.Over did =
      record {
        left = (none_told _, λ rest held. none_told _);
        ends = did.ends;
        fits = tt;
        asked = refl;
        handed = refl;
        failed = tt;
      }
  untold_reply (reply.Bad fault) did =
      record {
        left = (([], none_told _), λ rest held. none_told _);
        ends = did.ends;
        fits = tt;
        asked = refl;
        handed = refl;
        failed = tt;
      }
  untold_reply reply.Failed did =
      record {
        left = λ rest held. none_told _;
        ends = tt;
        fits = tt;
        asked = refl;
        handed = refl;
        failed = did.failed;
      }

  if_untold : (said : Result Reply Memory) → IfOk said (Replied one old new) → IfOk said (Replied other (untold old) (untold new))
  if_untold (Ok given) did = untold_reply given did
  if_untold (Err memory) did = tt

pub if_replied : (one : Call) (old new : WireSeen) (said : Result Reply Memory) → IfOk said (Replied one old new)
    → IfOk said (Replied one (untold old) (untold new))
if_replied one old new said did = if_untold one one old new (λ given is. is) said did

-- a select with another wait has the same answers
same_select : (wait other : Option ℕ) (watched : List Watch) → SameFits (call.Select wait watched) (call.Select other watched)
same_select wait other watched (answer.Turn now items) is = is
same_select wait other watched answer.Done is = absurd (cc)
same_select wait other watched answer.Refused is = absurd (cc)
same_select wait other watched answer.Conn is = absurd (cc)
same_select wait other watched answer.Again is = absurd (cc)
same_select wait other watched answer.Broken is = absurd (cc)
same_select wait other watched (answer.Data bytes) is = absurd (cc)
same_select wait other watched answer.Eof is = absurd (cc)
same_select wait other watched (answer.Took count) is = absurd (cc)
same_select wait other watched answer.Child is = absurd (cc)
same_select wait other watched (answer.Extra bytes) is = absurd (cc)

pub if_selected : (wait other : Option ℕ) (watched : List Watch) (old new : WireSeen) (said : Result Reply Memory)
    → IfOk said (Replied (call.Select wait watched) old new)
    → IfOk said (Replied (call.Select other watched) (untold old) (untold new))
if_selected wait other watched old new said did =
    if_untold (call.Select wait watched) (call.Select other watched) old new (same_select wait other watched) said did

-- a launch that isn't asked is refused
pub replied_refused : (words : List (List ℕ)) (seen : WireSeen)
    → Replied (call.Launch words) (untold seen) (untold seen) (reply.Got answer.Refused)
replied_refused words seen =
    record {
      left = λ rest held. none_told _;
      ends = tt;
      fits = λ fitting. refl;
      asked = refl;
      handed = refl;
      failed = tt;
    }

pub same_stays : (seen : WireSeen) → Stays (untold seen) (untold seen)
same_stays seen = (refl, omega arith)

pub unreplied : (one : Call) (old new : WireSeen) (said : Result Reply Memory) → OnErr said (Unreplied one (untold old) (untold new))
unreplied one old new (Ok given) = tt
unreplied one old new (Err memory) = (inl refl, refl)

pub err_so : (said : Result Reply Memory) (P : Type 0) → P → OnErr said P
err_so (Ok given) P so = tt
err_so (Err memory) P so = so

unless_failed : (given : Reply) → UnlessFailed (Unit {0}) given
unless_failed (reply.Got given) = tt
unless_failed reply.Over = tt
unless_failed (reply.Bad fault) = tt
unless_failed reply.Failed = tt

pub if_unless : (said : Result Reply Memory) → IfOk said (UnlessFailed (Unit {0}))
if_unless (Ok given) = unless_failed given
if_unless (Err memory) = tt
