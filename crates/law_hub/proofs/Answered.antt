-- What each call of a hub answers fits it.
use Rattle.std.proofs.Common.{◌≡◌, ℕ, Bool, true, false, cond, ◌&&◌, not, List, [], ◌∷◌, length, Option, Some, None, refl, ap, subst, arith}
use Rattle.std.specs.Prelude.{nat_lt, slice_get}
use Rattle.std.proofs.lemmas.Bool.Decides.{nat_tests}
use Rattle.std.proofs.lemmas.Bool.{false≢true}
use Rattle.model_wire.specs.Call.{Call, Answer, Item}
use Rattle.model_wire.specs.declared.answer.Answer.TheVariants as answer
use Rattle.model_wire.specs.declared.call.Call.TheVariants as call
use Rattle.model_wire.specs.declared.watch.Watch.{Watch}
use Rattle.model_wire.specs.Fits.{fits, is_some_within}
use Rattle.model_hub.specs.declared.child.Child.{Child}
use Rattle.model_hub.specs.declared.child.Seats.{Seats}
use Rattle.model_hub.specs.declared.halt.Halt.{Halt}
use Rattle.model_hub.specs.declared.halt.Halt.TheVariants.{Going, Faulted, Starving}
use Rattle.model_hub.specs.Children.{waiting, runs, is_owed}
use Rattle.model_hub.specs.Hub.{Hub, with_child}
use Rattle.model_hub.specs.Others.{Lanes, OfWrite, Launching, Started, NotStarted, NoMemory, Others, Polled, Ready, PollFailed, PollStarved, Said}
use Rattle.model_hub.specs.Others.{Got, Failed, Memory, is_given}
use Rattle.model_hub.specs.Lanes.{serve}
use Rattle.model_hub.specs.Gathering.{begin, gather, most_waiting}
use Rattle.model_hub.specs.Select.{said_at, after_poll}
use Rattle.model_hub.specs.Calls.{answer_to, is_empty, feed_child, offers_write, after_write, extra, socket, after_launching, launch_with}
use Rattle.model_hub.specs.Calls.{most_children}
use Rattle.model_hub.specs.Told.{is_datagram}
use Rattle.model_hub.specs.Asked.{HubSeen, Asks, PollKeeps, NetKeeps, HubKeeps}
use Rattle.law_hub.proofs.Fitting.{and_first, and_second, select_fits}

-- what is answered fits the call
abbrev SaidFits : Call → Said → Type 0
SaidFits asks (Got given) = fits asks given ≡ true
SaidFits asks Failed = Unit {0}
SaidFits asks Memory = Unit {0}

abbrev EndFits : Call → Hub × Said → Type 0
EndFits asks r = SaidFits asks r.1

pub of_two : {A : Type 0} (P : A → Type 0) (b : Bool) (first second : A) → (b ≡ true → P first) → P second → P (cond b first second)
of_two P true first second one two = one refl
of_two P false first second one two = two

-- ---- a select
turn_said : (wait : Option ℕ) (watched : List Watch) (halt : Halt) (now : ℕ) (items : List Item)
    → fits (call.Select wait watched) (answer.Turn now items) ≡ true → SaidFits (call.Select wait watched) (said_at halt now items)
turn_said wait watched Going now items fit = fit
turn_said wait watched Faulted now items fit = tt
turn_said wait watched Starving now items fit = tt

poll_said : (wait : Option ℕ) (watched : List Watch) (others : Others) (polled : Polled) (hub : Hub) (before now : ℕ)
    → PollKeeps watched polled before now → SaidFits (call.Select wait watched) (after_poll watched others polled hub).1
poll_said wait watched others (Ready at sockets) hub before now keeps =
    let all = gather watched (begin watched hub sockets) others.posts in
    turn_said wait watched all.halt at all.items (select_fits watched hub at sockets others.posts keeps)
poll_said wait watched others PollFailed hub before now keeps = tt
poll_said wait watched others PollStarved hub before now keeps = tt

-- ---- a feed
some_within : (bytes : List ℕ) → not (is_empty bytes) ≡ true → is_some_within (length bytes) (length bytes) ≡ true
some_within [] some = absurd (false≢true some)
some_within (first ∷ more) some = grind (arith, nat_tests)

some_offered : (bytes : List ℕ) (child : Child) → offers_write bytes child ≡ true → not (is_empty bytes) ≡ true
some_offered bytes child h =
    and_second (runs child.stay && not child.broken && not (is_owed child.closing) && nat_lt (waiting child) most_waiting) (not (is_empty bytes)) h

fed_said : (lanes : Lanes) (number : ℕ) (bytes : List ℕ) (child : Child) (hub : Hub)
    → SaidFits (call.Feed number bytes) (feed_child lanes number bytes child hub).1
fed_said lanes number bytes child hub =
    of_two (EndFits (call.Feed number bytes)) child.broken (hub, Got answer.Broken)
    (cond (offers_write bytes child && is_given (lanes number OfWrite))
    (with_child number (after_write child) hub, Got (answer.Took (length bytes))) (hub, Got answer.Again))
    (λ broken. refl)
    (of_two (EndFits (call.Feed number bytes)) (offers_write bytes child && is_given (lanes number OfWrite))
    (with_child number (after_write child) hub, Got (answer.Took (length bytes))) (hub, Got answer.Again)
    (λ both. some_within bytes (some_offered bytes child (and_first (offers_write bytes child) (is_given (lanes number OfWrite)) both))) refl)

feed_said : (lanes : Lanes) (number : ℕ) (bytes : List ℕ) (hub : Hub) (found : Option Child)
    → EndFits (call.Feed number bytes)
    (elim found [ None ↦ (hub, Got answer.Again) | Some child ↦ feed_child lanes number bytes child hub ])
feed_said lanes number bytes hub None = refl
feed_said lanes number bytes hub (Some child) = fed_said lanes number bytes child hub

-- ---- a launch
launched_said : (words : List (List ℕ)) (launching : Launching) (seats : Seats) (free : List Seats) (hub : Hub)
    → SaidFits (call.Launch words) (after_launching launching seats free hub).1
launched_said words Started seats free hub = refl
launched_said words NotStarted seats free hub = refl
launched_said words NoMemory seats free hub = tt

launch_said : (words : List (List ℕ)) (launching : Launching) (free : List Seats) (hub : Hub)
    → SaidFits (call.Launch words) (launch_with launching free hub).1
launch_said words launching [] hub = refl
launch_said words launching (seats ∷ free) hub =
    of_two (EndFits (call.Launch words)) (nat_lt (length hub.children) most_children)
    (after_launching launching seats free hub) (hub, Got answer.Refused) (λ few. launched_said words launching seats free hub) refl

-- ---- a call on a socket
net_said : (asks : Call) (said : Said) (before now : ℕ) → NetKeeps asks said before now → SaidFits asks said
net_said asks (Got given) before now keeps = keeps
net_said asks Failed before now keeps = tt
net_said asks Memory before now keeps = tt

-- ---- every call
said_fits : (asks : Call) (others : Others) (hub : Hub) (before now : ℕ) → HubKeeps asks others before now → SaidFits asks (answer_to asks others hub).1
said_fits (call.Select wait watched) others hub before now keeps =
    poll_said wait watched others others.polled (serve others.lanes watched hub) before now keeps
said_fits (call.Listen port) others hub before now keeps = net_said (call.Listen port) others.net before now (keeps refl)
said_fits (call.Accept server) others hub before now keeps = net_said (call.Accept server) others.net before now (keeps refl)
said_fits (call.Connect port) others hub before now keeps = net_said (call.Connect port) others.net before now (keeps refl)
said_fits (call.Recv conn) others hub before now keeps = net_said (call.Recv conn) others.net before now (keeps refl)
said_fits (call.Send conn bytes) others hub before now keeps = net_said (call.Send conn bytes) others.net before now (keeps refl)
said_fits (call.Feed child bytes) others hub before now keeps =
    let served = serve others.lanes [] hub in feed_said others.lanes child bytes served (slice_get served.children child)
said_fits (call.Shut conn) others hub before now keeps = net_said (call.Shut conn) others.net before now (keeps refl)
said_fits (call.Close conn) others hub before now keeps = net_said (call.Close conn) others.net before now (keeps refl)
said_fits (call.CloseServer server) others hub before now keeps = net_said (call.CloseServer server) others.net before now (keeps refl)
said_fits (call.End child) others hub before now keeps = refl
said_fits (call.Kill child) others hub before now keeps = refl
said_fits (call.Launch words) others hub before now keeps =
    let served = serve others.lanes [] hub in launch_said words others.launching served.free served
said_fits (call.Extra code bytes) others hub before now keeps =
    of_two (EndFits (call.Extra code bytes)) (is_datagram code) (socket others.lanes others.net hub) (extra others.lanes hub)
    (λ datagram. net_said (call.Extra code bytes) others.net before now (keeps datagram)) refl

asked_fits : (asks : Call) (others : Others) (hub : Hub) (before now : ℕ) (starved : Bool) → HubKeeps asks others before now
    → SaidFits asks (cond starved (hub, Memory) (answer_to asks others hub)).1
asked_fits asks others hub before now true keeps = tt
asked_fits asks others hub before now false keeps = said_fits asks others hub before now keeps

pub all_fit : (asks : Call) (old new : HubSeen) (given : Answer) → Asks asks old new (Got given) → fits asks given ≡ true
all_fit asks old new given did =
    subst (SaidFits asks) (ap (λ (r : Hub × Said). r.1) did.is)
    (asked_fits asks did.others old.hub old.poller.faults new.poller.faults old.hub.starved did.keeps)
