-- A hub fails only where its count rose.
use Rattle.std.proofs.Common.{◌≡◌, ℕ, ◌+◌, ◌-◌, ◌^◌, ◌<◌, ◌≤◌, ⊎_elim, Bool, true, false, cond, ◌&&◌, List, [], ◌∷◌, ◌++◌, length, min, Option, Some}
use Rattle.std.proofs.Common.{None, refl, sym, ap, ◌∙◌, subst, arith}
use Rattle.std.proofs.Math.Nat.{min-eq_left, min-eq_right, min-le_left, min-le_right, le-min}
use Rattle.std.proofs.lemmas.Bool.{cases_lt}
use Rattle.std.proofs.lemmas.List.{length-append}
use Rattle.std.proofs.lemmas.List.Elements.{filter-append}
use Rattle.std.specs.Prelude.{nat_lt, slice_get}
use Rattle.std.specs.List.{filter, flat_map}
use Rattle.model_wire.specs.Call.{Call, Item}
use Rattle.model_wire.specs.declared.answer.Answer.TheVariants as answer
use Rattle.model_wire.specs.declared.call.Call.TheVariants as call
use Rattle.model_wire.specs.declared.watch.Watch.{Watch}
use Rattle.model_wire.specs.Fits.{turn_fits}
use Rattle.model_wire.specs.Told.{Rose}
use Rattle.model_pump.specs.declared.post.PostKind.TheVariants as post
use Rattle.model_pump.specs.Posts.{Post, PostKind}
use Rattle.model_hub.specs.declared.child.Child.{Child}
use Rattle.model_hub.specs.declared.child.Seats.{Seats}
use Rattle.model_hub.specs.declared.halt.Halt.{Halt}
use Rattle.model_hub.specs.declared.halt.Halt.TheVariants.{Going, Faulted, Starving}
use Rattle.model_hub.specs.Posts.{told_of}
use Rattle.model_hub.specs.Hub.{Hub, with_child}
use Rattle.model_hub.specs.Others.{Lanes, OfWrite, Launching, Started, NotStarted, NoMemory, Others, Polled, Ready, PollFailed, PollStarved, Said}
use Rattle.model_hub.specs.Others.{Got, Failed, Memory, is_given}
use Rattle.model_hub.specs.Lanes.{serve}
use Rattle.model_hub.specs.Gathering.{Gathering, goes_in, offer, offer_all, add, add_all, kept_of, stdin_items, start, begin, halt_at, note_in}
use Rattle.model_hub.specs.Gathering.{after_post, gather}
use Rattle.model_hub.specs.Select.{said_at, after_poll}
use Rattle.model_hub.specs.Calls.{answer_to, extra, socket, feed_child, offers_write, after_write, after_launching, launch_with}
use Rattle.model_hub.specs.Calls.{most_children}
use Rattle.model_hub.specs.Told.{is_datagram}
use Rattle.model_hub.specs.Asked.{HubSeen, Asks, PollKeeps, NetKeeps, HubKeeps, is_fault, faults_in, faults_of}
use Rattle.law_hub.proofs.Answered.{of_two}

-- ---- posts that were taken
-- so many faults were taken: those of before, and one more where a fault ended the select
abbrev least : ℕ → Halt → ℕ
least base Going = base
least base Faulted = base + 1
least base Starving = base

abbrev TookFaults : ℕ → Gathering → Type 0
TookFaults base g = least base g.halt ≤ faults_in g.taken

base_least : (base : ℕ) (halt : Halt) → base ≤ least base halt
base_least base Going = omega arith
base_least base Faulted = omega arith
base_least base Starving = omega arith

faults_append : (posts : List Post) (came : Post) → faults_in (posts ++ came ∷ []) ≡ faults_in posts + faults_in (came ∷ [])
faults_append posts came =
    ap length (filter-append (λ (p : Post). is_fault p.kind) posts (came ∷ []))
    ∙ length-append (filter (λ (p : Post). is_fault p.kind) posts) (filter (λ (p : Post). is_fault p.kind) (came ∷ []))

-- the faults in a post
abbrev one_fault : PostKind → ℕ
one_fault kind = length (cond (is_fault kind) (kind ∷ []) [])

faults_one : (b : Bool) (came : Post) → length (cond b (came ∷ []) []) ≡ length (cond b (came.kind ∷ []) [])
faults_one true came = refl
faults_one false came = refl

least_one : (base : ℕ) (kind : PostKind) → least base (halt_at kind) ≤ base + one_fault kind
least_one base (post.Piece stream offset bytes) = omega arith
least_one base (post.End stream) = omega arith
least_one base post.Room = omega arith
least_one base post.Broken = omega arith
least_one base (post.Exit code) = omega arith
least_one base post.Fault = omega arith
least_one base post.Starved = omega arith

noted_faults : (base : ℕ) (g : Gathering) (came : Post) → TookFaults base g → TookFaults base (note_in g came)
noted_faults base g came had =
    let one = least_one base came.kind in
    let all = faults_append g.taken came in
    let same = faults_one (is_fault came.kind) came in
    let below = base_least base g.halt in
    omega (arith, one, all, same, below, had)

module _ (watched : List Watch) (base : ℕ) where
  offer_faults : (g : Gathering) (came : Item) → TookFaults base g → TookFaults base (offer watched g came)
  offer_faults g came had =
      of_two (TookFaults base) (goes_in watched g came) (record g { items = g.items ++ came ∷ [] }) (record g { kept = g.kept ++ kept_of came })
      (λ goes. had) had

  offer_all_faults : (g : Gathering) (items : List Item) → TookFaults base g → TookFaults base (offer_all watched g items)
  offer_all_faults g [] had = had
  offer_all_faults g (came ∷ more) had = offer_all_faults (offer watched g came) more (offer_faults g came had)

  add_faults : (g : Gathering) (came : Item) → TookFaults base g → TookFaults base (add watched g came)
  add_faults g came had =
      of_two (TookFaults base) (turn_fits watched 0 (g.items ++ came ∷ [])) (record g { items = g.items ++ came ∷ [] }) g (λ fits. had) had

  add_all_faults : (g : Gathering) (items : List Item) → TookFaults base g → TookFaults base (add_all watched g items)
  add_all_faults g [] had = had
  add_all_faults g (came ∷ more) had = add_all_faults (add watched g came) more (add_faults g came had)

  gather_faults : (g : Gathering) (posts : List Post) → TookFaults base g → TookFaults base (gather watched g posts)
  gather_faults g [] had = had
  gather_faults g (came ∷ more) had =
      gather_faults (after_post watched g came) more
      (offer_all_faults (note_in g came) (told_of g.children came) (noted_faults base g came had))

select_faults : (watched : List Watch) (hub : Hub) (sockets : List Item) (posts : List Post)
    → TookFaults (faults_in hub.taken) (gather watched (begin watched hub sockets) posts)
select_faults watched hub sockets posts =
    let base = faults_in hub.taken in
    gather_faults watched base (begin watched hub sockets) posts
    (add_all_faults watched base (offer_all watched (start hub sockets) hub.kept) (flat_map (stdin_items hub.children) watched)
    (offer_all_faults watched base (start hub sockets) hub.kept (omega arith)))

-- ---- counts
abbrev top : ℕ
top = 2 ^ 64 - 1

below_sum : (before faults : ℕ) → min (min (before + faults) top + 1) top ≤ before + faults + 1
below_sum before faults =
    omega (arith, min-le_left (min (before + faults) top + 1) top, min-le_left (before + faults) top)

rises_by_posts : (before now faults faults_now : ℕ) → before ≤ now → faults + 1 ≤ faults_now
    → Rose (min (before + faults) top) (min (now + faults_now) top)
rises_by_posts before now faults faults_now later more =
    le-min (omega (arith, below_sum before faults, later, more)) (min-le_right (min (before + faults) top + 1) top)

rises_by_poll : (before now faults : ℕ) → Rose before now → Rose (min (before + faults) top) (min (now + faults) top)
rises_by_poll before now faults rose =
    le-min
    (⊎_elim
    (λ (low : before < top). omega (arith, below_sum before faults, min-eq_left (low_by low), rose))
    (λ (high : top ≤ before). omega (arith, min-le_right (min (before + faults) top + 1) top, min-eq_right (high_by high), rose))
    (cases_lt before top))
    (min-le_right (min (before + faults) top + 1) top)
  where
    low_by : before < top → before + 1 ≤ top
    low_by low = omega (arith, low)

    high_by : top ≤ before → top ≤ before + 1
    high_by high = omega (arith, high)

-- ---- what each call answers
module _ (before now : ℕ) (later : before ≤ now) where
  -- where it failed, its count rose
  abbrev Counted : ℕ → Hub → Said → Type 0
  Counted faults hub (Got given) = Unit {0}
  Counted faults hub Failed = Rose (min (before + faults) top) (min (now + faults_in hub.taken) top)
  Counted faults hub Memory = Unit {0}

  abbrev Counts : Hub → Hub × Said → Type 0
  Counts hub r = Counted (faults_in hub.taken) r.0 r.1

  -- a select
  ended_counts : (faults : ℕ) (hub : Hub) (halt : Halt) (at : ℕ) (items : List Item) → least faults halt ≤ faults_in hub.taken
      → Counted faults hub (said_at halt at items)
  ended_counts faults hub Going at items had = tt
  ended_counts faults hub Faulted at items had = rises_by_posts before now faults (faults_in hub.taken) later had
  ended_counts faults hub Starving at items had = tt

  poll_counts : (watched : List Watch) (others : Others) (polled : Polled) (hub : Hub) → PollKeeps watched polled before now
      → Counts hub (after_poll watched others polled hub)
  poll_counts watched others (Ready at sockets) hub keeps =
      let all = gather watched (begin watched hub sockets) others.posts in
      ended_counts (faults_in hub.taken) (after_poll watched others (Ready at sockets) hub).0 all.halt at all.items
      (select_faults watched hub sockets others.posts)
  poll_counts watched others PollFailed hub keeps = rises_by_poll before now (faults_in hub.taken) keeps
  poll_counts watched others PollStarved hub keeps = tt

  -- a call on a socket
  net_counts : (asks : Call) (lanes : Lanes) (said : Said) (hub : Hub) → NetKeeps asks said before now → Counts hub (socket lanes said hub)
  net_counts asks lanes (Got given) hub keeps = tt
  net_counts asks lanes Failed hub keeps = rises_by_poll before now (faults_in hub.taken) keeps
  net_counts asks lanes Memory hub keeps = tt

  -- the others don't fail
  feed_counts : (lanes : Lanes) (number : ℕ) (bytes : List ℕ) (hub served : Hub) (found : Option Child)
      → Counts hub (elim found [ None ↦ (served, Got answer.Again) | Some child ↦ feed_child lanes number bytes child served ])
  feed_counts lanes number bytes hub served None = tt
  feed_counts lanes number bytes hub served (Some child) =
      of_two (Counts hub) child.broken (served, Got answer.Broken)
      (cond (offers_write bytes child && is_given (lanes number OfWrite))
      (with_child number (after_write child) served, Got (answer.Took (length bytes))) (served, Got answer.Again))
      (λ broken. tt)
      (of_two (Counts hub) (offers_write bytes child && is_given (lanes number OfWrite))
      (with_child number (after_write child) served, Got (answer.Took (length bytes))) (served, Got answer.Again) (λ both. tt) tt)

  launched_counts : (launching : Launching) (seats : Seats) (free : List Seats) (hub served : Hub)
      → Counts hub (after_launching launching seats free served)
  launched_counts Started seats free hub served = tt
  launched_counts NotStarted seats free hub served = tt
  launched_counts NoMemory seats free hub served = tt

  launch_counts : (launching : Launching) (free : List Seats) (hub served : Hub) → Counts hub (launch_with launching free served)
  launch_counts launching [] hub served = tt
  launch_counts launching (seats ∷ free) hub served =
      of_two (Counts hub) (nat_lt (length served.children) most_children) (after_launching launching seats free served)
      (served, Got answer.Refused) (λ few. launched_counts launching seats free hub served) tt

  answer_counts : (asks : Call) (others : Others) (hub : Hub) → HubKeeps asks others before now → Counts hub (answer_to asks others hub)
  answer_counts (call.Select wait watched) others hub keeps =
      poll_counts watched others others.polled (serve others.lanes watched hub) keeps
  answer_counts (call.Listen port) others hub keeps = net_counts (call.Listen port) others.lanes others.net hub (keeps refl)
  answer_counts (call.Accept server) others hub keeps = net_counts (call.Accept server) others.lanes others.net hub (keeps refl)
  answer_counts (call.Connect port) others hub keeps = net_counts (call.Connect port) others.lanes others.net hub (keeps refl)
  answer_counts (call.Recv conn) others hub keeps = net_counts (call.Recv conn) others.lanes others.net hub (keeps refl)
  answer_counts (call.Send conn bytes) others hub keeps = net_counts (call.Send conn bytes) others.lanes others.net hub (keeps refl)
  answer_counts (call.Feed child bytes) others hub keeps =
      let served = serve others.lanes [] hub in
      feed_counts others.lanes child bytes hub served (slice_get served.children child)
  answer_counts (call.Shut conn) others hub keeps = net_counts (call.Shut conn) others.lanes others.net hub (keeps refl)
  answer_counts (call.Close conn) others hub keeps = net_counts (call.Close conn) others.lanes others.net hub (keeps refl)
  answer_counts (call.CloseServer server) others hub keeps = net_counts (call.CloseServer server) others.lanes others.net hub (keeps refl)
  answer_counts (call.End child) others hub keeps = tt
  answer_counts (call.Kill child) others hub keeps = tt
  answer_counts (call.Launch words) others hub keeps =
      let served = serve others.lanes [] hub in launch_counts others.launching served.free hub served
  answer_counts (call.Extra code bytes) others hub keeps =
      of_two (Counts hub) (is_datagram code) (socket others.lanes others.net hub) (extra others.lanes hub)
      (λ datagram. net_counts (call.Extra code bytes) others.lanes others.net hub (keeps datagram)) tt

  asked_counts : (asks : Call) (others : Others) (hub : Hub) (starved : Bool) → HubKeeps asks others before now
      → Counts hub (cond starved (hub, Memory) (answer_to asks others hub))
  asked_counts asks others hub true keeps = tt
  asked_counts asks others hub false keeps = answer_counts asks others hub keeps

pub all_counted : (asks : Call) (old new : HubSeen) → Asks asks old new Failed → old.poller.faults ≤ new.poller.faults
    → Rose (faults_of old.poller old.hub) new.faults
all_counted asks old new did later =
    subst (Rose (faults_of old.poller old.hub)) (sym did.faults)
    (subst (Counts old.poller.faults new.poller.faults later old.hub) did.is
    (asked_counts old.poller.faults new.poller.faults later asks did.others old.hub old.hub.starved did.keeps))
