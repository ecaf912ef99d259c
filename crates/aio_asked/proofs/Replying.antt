-- What a hub replies, as a wire, and that its count never falls.
use Rattle.std.proofs.Common.{◌≡◌, ◌+◌, ◌-◌, ◌^◌, ◌≤◌, true, false, List, ◌++◌, None, Result, Ok, Err, length, refl, sym, ap, ◌∙◌, subst, arith}
use Rattle.std.proofs.Math.Nat.{min-le_left, min-le_right, le-min}
use Rattle.std.proofs.lemmas.List.{length-append}
use Rattle.std.proofs.lemmas.List.Elements.{filter-append}
use Rattle.std.specs.Prelude.{IfOk, OnErr}
use Rattle.std.specs.List.{filter}
use Rattle.aio_base.specs.declared.memory.Memory.{Memory}
use Rattle.model_wire.specs.Call.{Call}
use Rattle.model_wire.specs.Told.{Agrees, Rose}
use Rattle.model_pump.specs.Posts.{Post}
use Rattle.model_hub.specs.Hub.{Hub}
use Rattle.model_hub.specs.Told.{PollerSeen}
use Rattle.model_hub.specs.Asked.{HubSeen, Asks, is_fault, faults_in, faults_of}
use Rattle.law_hub.proofs.Answered.{all_fit}
use Rattle.law_hub.proofs.Counted.{all_counted}
use Rattle.aio_wire.specs.Replied.{Replied, UnlessFailed}
use Rattle.aio_wire.specs.declared.wire.Reply.{Reply}
use Rattle.aio_wire.specs.declared.wire.Reply.TheVariants as reply
use Rattle.aio_polling.specs.declared.ending.Selected.{Selected}
use Rattle.aio_polling.specs.declared.ending.Selected.TheVariants as selected
use Rattle.aio_polling.specs.Selects.{is_starved, said_of as said_by}
use Rattle.aio_live.specs.Selecting.{TakesMore}
use Rattle.aio_live.specs.Starved.{starved}
use Rattle.aio_live.specs.States.{StateSeen}
use Rattle.aio_asked.specs.Asked.{AsksOn, said_of, IsNoEnd, reply_of}
use Rattle.aio_asked.specs.Wired.{wire_of}

-- ---- counts
pub more_faults : (before now : List Post) → TakesMore before now → faults_in before ≤ faults_in now
more_faults before now takes =
    let fault = λ (came : Post). is_fault came.kind in
    let all : faults_in (before ++ takes.0) ≡ faults_in before + faults_in takes.0 =
    ap length (filter-append fault before takes.0) ∙ length-append (filter fault before) (filter fault takes.0) in
    omega (arith, all, ap faults_in takes.1)

pub same_faults : (before now : List Post) → now ≡ before → faults_in before ≤ faults_in now
same_faults before now same = omega (arith, ap faults_in same)

pub starved_posts : {Run : Type 0} (old new : StateSeen Run) → new ≡ starved old → new.hub.taken ≡ old.hub.taken
starved_posts {Run} old new is = ap (λ (s : StateSeen Run). s.hub.taken) is

pub count_later : (poller poller_now : PollerSeen) (hub hub_now : Hub) → poller.faults ≤ poller_now.faults
    → faults_in hub.taken ≤ faults_in hub_now.taken → faults_of poller hub ≤ faults_of poller_now hub_now
count_later poller poller_now hub hub_now polled posts =
    let sum = poller.faults + faults_in hub.taken in
    le-min (omega (arith, min-le_left sum (2 ^ 64 - 1), polled, posts)) (min-le_right sum (2 ^ 64 - 1))

-- ---- a select as a reply
module _ (said : Selected) where
  pub reply_says : (P : Reply → Type 0) → ((given : Reply) → said_of given ≡ said_by said → P given) → IfOk (reply_of said) P
  reply_says P each = by_case said each
    where
      by_case : (some : Selected) → ((given : Reply) → said_of given ≡ said_by some → P given) → IfOk (reply_of some) P
      by_case (selected.Turn now items) found = found _ refl
      by_case selected.Faulted found = found reply.Failed refl
      by_case selected.Starved found = tt
      by_case selected.Unpolled found = found reply.Failed refl

pub reply_goes_on : (said : Selected) → IfOk (reply_of said) IsNoEnd
reply_goes_on (selected.Turn now items) = tt
reply_goes_on selected.Faulted = tt
reply_goes_on selected.Starved = tt
reply_goes_on selected.Unpolled = tt

pub reply_starves : (said : Selected) (P : Type 0) → (is_starved said ≡ true → P) → OnErr (reply_of said) P
reply_starves (selected.Turn now items) P starving = tt
reply_starves selected.Faulted P starving = tt
reply_starves selected.Starved P starving = starving refl
reply_starves selected.Unpolled P starving = tt

-- ---- the replies of a wire
none_told : {A : Type 0} (actual : A) → Agrees None actual
none_told actual held is = absurd (cc)

module _ (asks : Call) (old new : HubSeen) (later : old.poller.faults ≤ new.poller.faults) where
  replied_as : (given : Reply) → Asks asks old new (said_of given) → IsNoEnd given
      → Replied asks (wire_of old.poller old.hub) (wire_of new.poller new.hub) given
  replied_as (reply.Got given) did goes =
      record {
        left = λ rest held. none_told _;
        ends = tt;
        fits = λ fitting. all_fit asks old new given did;
        asked = refl;
        handed = refl;
        failed = tt;
      }
  replied_as reply.Over did goes = absurd goes
  replied_as (reply.Bad fault) did goes = absurd goes
  replied_as reply.Failed did goes =
      record {
        left = λ rest held. held;
        ends = tt;
        fits = tt;
        asked = refl;
        handed = refl;
        failed = subst (Rose (faults_of old.poller old.hub)) did.faults (all_counted asks old new did later);
      }

  pub if_replied : (said : Result Reply Memory) → IfOk said (λ given. Asks asks old new (said_of given)) → IfOk said IsNoEnd
      → IfOk said (Replied asks (wire_of old.poller old.hub) (wire_of new.poller new.hub))
  if_replied (Ok given) did goes = replied_as given did goes
  if_replied (Err memory) did goes = tt

pub on_err_so : (said : Result Reply Memory) (P : Type 0) → P → OnErr said P
on_err_so (Ok given) P so = tt
on_err_so (Err memory) P so = so

unless_failed : (given : Reply) → UnlessFailed (Unit {0}) given
unless_failed (reply.Got given) = tt
unless_failed reply.Over = tt
unless_failed (reply.Bad fault) = tt
unless_failed reply.Failed = tt

pub if_unless : (said : Result Reply Memory) → IfOk said (UnlessFailed (Unit {0}))
if_unless (Ok given) = unless_failed given
if_unless (Err memory) = tt

-- ---- a select of a hub
pub select_says : (asks : Call) (old new : HubSeen) (said : Selected) (result : Result Reply Memory) → result ≡ reply_of said
    → (old.hub.starved ≡ false → Asks asks old new (said_by said)) → IfOk result (λ given. AsksOn asks old new (said_of given))
select_says asks old new said result is did =
    subst (λ r. IfOk r (λ given. AsksOn asks old new (said_of given))) (sym is)
    (reply_says said (λ given. AsksOn asks old new (said_of given)) (λ given same going. subst (Asks asks old new) (sym same) (did going)))

pub select_goes_on : (said : Selected) (result : Result Reply Memory) → result ≡ reply_of said → IfOk result IsNoEnd
select_goes_on said result is = subst (λ r. IfOk r IsNoEnd) (sym is) (reply_goes_on said)

pub select_starves : (said : Selected) (result : Result Reply Memory) (P : Type 0) → result ≡ reply_of said → (is_starved said ≡ true → P)
    → OnErr result P
select_starves said result P is starving = subst (λ r. OnErr r P) (sym is) (reply_starves said P starving)
