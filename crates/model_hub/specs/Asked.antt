-- What one call of a hub does, over what is seen of it: its answer and what it keeps are those of the definitions for what
-- the others did, and what they did is what is seen of them.
use Rattle.std.specs.Prelude.{◌≡◌, ℕ, ◌+◌, ◌-◌, ◌^◌, ◌<◌, Bool, true, false, List, [], ◌∷◌, ◌++◌, ◌⊎◌, Option, length, min, if◌then◌else◌}
use Rattle.std.specs.List.{filter}
use Rattle.model_wire.specs.Call.{Call, Answer}
use Rattle.model_wire.specs.declared.answer.Answer.TheVariants as answer
use Rattle.model_wire.specs.declared.call.Call.TheVariants as call
use Rattle.model_wire.specs.declared.watch.Watch.{Watch}
use Rattle.model_wire.specs.Fits.{fits, turn_fits}
use Rattle.model_wire.specs.Told.{Rose}
use Rattle.model_pump.specs.declared.post.PostKind.TheVariants as post
use Rattle.model_pump.specs.declared.stream.Stream.TheVariants as stream
use Rattle.model_pump.specs.Commands.{Command}
use Rattle.model_pump.specs.Posts.{Post, PostKind}
use Rattle.model_hub.specs.declared.child.Child.{Child}
use Rattle.model_hub.specs.declared.giving.Giving.TheVariants.{Full, Spent}
use Rattle.model_hub.specs.declared.pump.Pump.{Pump}
use Rattle.model_hub.specs.declared.pump.Pump.TheVariants as pump
use Rattle.model_hub.specs.Children.{runs}
use Rattle.model_hub.specs.Hub.{Hub, of_child}
use Rattle.model_hub.specs.Others.{Offer, OfGo, OfClose, OfWrite, Lanes, Polled, Ready, PollFailed, PollStarved, Others, Said, Got, Failed, Memory}
use Rattle.model_hub.specs.Lanes.{serve}
use Rattle.model_hub.specs.Gathering.{begin, are_taken}
use Rattle.model_hub.specs.Select.{polled_watch, polled_wait}
use Rattle.model_hub.specs.Calls.{ask, commands_to, most_children}
use Rattle.model_hub.specs.Told.{PollerSeen, LauncherSeen, Launches, Kills, told_with, with_launch, with_kill, is_socket}

-- What is seen of a hub: what it keeps, how many of its takes found no post, what was given to each lane of a child and how
-- many gives met a full one, its poller, its launcher, and how often it failed.
pub record HubSeen : Type 0 where
  pub hub : Hub
  pub nones : ℕ
  pub given : ℕ → Pump → List Command
  pub fulls : ℕ → Pump → ℕ
  pub poller : PollerSeen
  pub launcher : LauncherSeen
  pub faults : ℕ

-- the lane to which an offer goes
abbrev pub lane_of : Offer → Pump
lane_of (OfGo stream.Out) = pump.Out
lane_of (OfGo stream.Errs) = pump.Errs
lane_of OfClose = pump.Stdin
lane_of OfWrite = pump.Stdin

abbrev pub is_running : ℕ → Hub → Bool
is_running number hub = of_child false (λ (child : Child). runs child.stay) number hub.children

-- ---- posts
abbrev pub nones_with : (found_none : Bool) → ℕ → ℕ
nones_with true nones = nones + 1
nones_with false nones = nones

-- A select whose poll was answered takes the posts that its definition says, and nothing else takes any.
abbrev pub TakesPolled : List Watch → Hub → Polled → List Post → (nones nones_now : ℕ) → Type 0
TakesPolled watched hub (Ready now sockets) posts nones nones_now =
    (found_none : Bool)
    × (are_taken watched (begin watched hub sockets) posts found_none ≡ true)
    × (nones_now ≡ nones_with found_none nones)
TakesPolled watched hub PollFailed posts nones nones_now = (posts ≡ []) × (nones_now ≡ nones)
TakesPolled watched hub PollStarved posts nones nones_now = (posts ≡ []) × (nones_now ≡ nones)

abbrev pub TakesPosts : Call → Others → Hub → (nones nones_now : ℕ) → Type 0
TakesPosts (call.Select wait watched) others hub nones nones_now =
    TakesPolled watched (serve others.lanes watched hub) others.polled others.posts nones nones_now
TakesPosts _ others hub nones nones_now = (others.posts ≡ []) × (nones_now ≡ nones)

-- ---- the poller
abbrev pub answers_of_poll : Polled → List Answer
answers_of_poll (Ready now sockets) = answer.Turn now sockets ∷ []
answers_of_poll PollFailed = []
answers_of_poll PollStarved = []

abbrev pub answers_of_net : Said → List Answer
answers_of_net (Got given) = given ∷ []
answers_of_net Failed = []
answers_of_net Memory = []

-- the calls that the poller is asked: one poll of the sockets alone, the call itself, or none
abbrev pub polls_of : Call → Lanes → Hub → List Call
polls_of (call.Select wait watched) lanes hub =
    call.Select (polled_wait watched (serve lanes watched hub) wait) (polled_watch watched) ∷ []
polls_of asks lanes hub = if is_socket asks then asks ∷ [] else []

abbrev pub answers_of : Call → Others → List Answer
answers_of (call.Select wait watched) others = answers_of_poll others.polled
answers_of asks others = if is_socket asks then answers_of_net others.net else []

-- the poller's answer fits what it was asked, and it failed only where its count rose
abbrev pub PollKeeps : List Watch → Polled → (faults faults_now : ℕ) → Type 0
PollKeeps watched (Ready now sockets) faults faults_now = turn_fits (polled_watch watched) now sockets ≡ true
PollKeeps watched PollFailed faults faults_now = Rose faults faults_now
PollKeeps watched PollStarved faults faults_now = Unit {0}

abbrev pub NetKeeps : Call → Said → (faults faults_now : ℕ) → Type 0
NetKeeps asks (Got given) faults faults_now = fits asks given ≡ true
NetKeeps asks Failed faults faults_now = Rose faults faults_now
NetKeeps asks Memory faults faults_now = Unit {0}

abbrev pub HubKeeps : Call → Others → (faults faults_now : ℕ) → Type 0
HubKeeps (call.Select wait watched) others faults faults_now = PollKeeps watched others.polled faults faults_now
HubKeeps asks others faults faults_now = is_socket asks ≡ true → NetKeeps asks others.net faults faults_now

-- ---- the launcher
abbrev pub kills_after : Call → Option Kills → Option Kills
kills_after (call.Kill child) kills = with_kill child kills
kills_after _ kills = kills

-- a child that was started is the one that the answer tells
abbrev pub launches_after : Call → Said → (number : ℕ) → Option Launches → Option Launches
launches_after (call.Launch words) (Got answer.Child) number launches = with_launch words number launches
launches_after _ said number launches = launches

-- a launch is refused only for want of seats or numbers, or where the launcher's count rose
abbrev pub Refuses : Call → Said → Hub → (faults faults_now : ℕ) → Type 0
Refuses (call.Launch words) (Got answer.Refused) hub faults faults_now =
    (hub.free ≡ []) ⊎ (length hub.children ≡ most_children) ⊎ Rose faults faults_now
Refuses _ said hub faults faults_now = Unit {0}

-- ---- failures
abbrev pub is_fault : PostKind → Bool
is_fault post.Fault = true
is_fault _ = false

abbrev pub faults_in : List Post → ℕ
faults_in posts = length (filter (λ (came : Post). is_fault came.kind) posts)

-- the poller's failures and the Fault posts that were taken
abbrev pub faults_of : PollerSeen → Hub → ℕ
faults_of poller hub = min (poller.faults + faults_in hub.taken) (2 ^ 64 - 1)

-- One call that memory wasn't refused to: there is what the others did, and everything else is said by it.
pub record Asks (asks : Call) (old new : HubSeen) (said : Said) : Type 0 where
  pub others : Others
  -- its answer, and what it keeps
  pub is : ask asks others old.hub ≡ (new.hub, said)
  -- the posts that it takes
  pub posts : TakesPosts asks others old.hub old.nones new.nones
  -- what it gives to each lane of a child that runs before and after, in order; the lanes of a new child begin empty; and
  -- where a lane is full or spent it met a full lane, or had given all that a lane carries
  pub lanes : (child : Child) (lane : Pump)
      → is_running child.number old.hub ≡ true → is_running child.number new.hub ≡ true
      → of_child child (λ (here : Child). here) child.number old.hub.children ≡ child
      → new.given child.number lane ≡ old.given child.number lane ++ commands_to asks others.lanes child lane
  pub begins : (number : ℕ) (lane : Pump)
      → is_running number old.hub ≡ false → is_running number new.hub ≡ true → new.given number lane ≡ []
  pub full : (number : ℕ) (offer : Offer)
      → is_running number old.hub ≡ true → is_running number new.hub ≡ true → others.lanes number offer ≡ Full
      → old.fulls number (lane_of offer) < new.fulls number (lane_of offer)
  pub spent : (number : ℕ) (offer : Offer)
      → is_running number old.hub ≡ true → is_running number new.hub ≡ true → others.lanes number offer ≡ Spent
      → length (new.given number (lane_of offer)) ≡ 2 ^ 61
  -- what it asks of the poller, and what that answers
  pub polls : new.poller.asked ≡ told_with (polls_of asks others.lanes old.hub) old.poller.asked
  pub answers : new.poller.answers ≡ told_with (answers_of asks others) old.poller.answers
  pub keeps : HubKeeps asks others old.poller.faults new.poller.faults
  -- what it asks of the launcher
  pub kills : new.launcher.kills ≡ kills_after asks old.launcher.kills
  pub launches : new.launcher.launches ≡ launches_after asks said (length old.hub.children) old.launcher.launches
  pub refused : Refuses asks said old.hub old.launcher.faults new.launcher.faults
  -- its count
  pub faults : new.faults ≡ faults_of new.poller new.hub
