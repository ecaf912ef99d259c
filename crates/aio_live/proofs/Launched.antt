-- What a launch is, as the record of a call.
use Rattle.std.proofs.Common.{◌≡◌, ℕ, Bool, true, false, cond, List, [], length, refl, sym, ap, ◌∙◌, inl, inr, arith}
use Rattle.std.proofs.lemmas.List.{length-map}
use Rattle.std.specs.Prelude.{◌⊎◌, slice_get, Result, Ok, Err, IfOk}
use Rattle.aio_base.specs.declared.memory.Memory.{Memory as Want}
use Rattle.std.proofs.lemmas.Bool.{false≢true}
use Rattle.model_wire.specs.Call.{Answer}
use Rattle.model_wire.specs.declared.answer.Answer.TheVariants as answer
use Rattle.model_wire.specs.declared.call.Call.TheVariants as call
use Rattle.model_wire.specs.Told.{Rose}
use Rattle.model_hub.specs.declared.child.Child.{Child}
use Rattle.model_hub.specs.declared.pump.Pump.{Pump}
use Rattle.model_hub.specs.Hub.{Hub}
use Rattle.model_hub.specs.Others.{Others, PollFailed, Got, Failed, Memory}
use Rattle.model_hub.specs.Lanes.{serve}
use Rattle.model_hub.specs.Calls.{answer_to, launch_from, most_children}
use Rattle.model_hub.specs.Told.{LauncherSeen}
use Rattle.model_hub.specs.Asked.{is_running, lane_of, Refuses, launches_after}
use Rattle.aio_lanes.specs.Given.{given_at, fulls_at}
use Rattle.aio_commands.specs.Commands.{Commands}
use Rattle.aio_commands.proofs.Together.{plain_commands}
use Rattle.aio_live.specs.States.{StateSeen, heads_of, with_children, Plainly}
use Rattle.aio_live.specs.Launching.{LaunchesNext, LaunchTold, AsksLauncher}
use Rattle.aio_live.proofs.Asking.{told_nothing, running_at, runs_there, to_lanes, ran, to_full, to_spent}
use Rattle.aio_roster.proofs.Running.{kth_of, stands}

module _ {Run : Type 0} (words : List (List ℕ)) (said : Answer) (old between new : StateSeen Run) (launcher launcher_now : LauncherSeen)
    (plainly : Plainly [] old between) (next : LaunchesNext between new (Got said))
    (told : LaunchTold words between.hub said launcher launcher_now) where
  abbrev others : Others
  others =
      record {
        lanes = plainly.served.lanes;
        polled = PollFailed;
        net = Failed;
        posts = [];
        launching = next.launching;
        reports = λ n. [];
      }

  commands : Commands (call.Launch words) others.lanes old.hub.children (heads_of old) (heads_of between)
  commands =
      plain_commands (call.Launch words) old.hub.children between.hub.children (heads_of old) (heads_of between) plainly.rests.numbered
      plainly.served (λ child. refl)

  served : serve others.lanes [] old.hub ≡ between.hub
  served = ap (λ (cs : List Child). with_children cs old.hub) (sym plainly.served.is) ∙ sym plainly.rests.hub

  as_many : length between.hub.children ≡ length old.hub.children
  as_many = ap length plainly.served.is ∙ length-map old.hub.children _

  -- those that run before run after what goes before a call
  goes_on : (n : ℕ) → is_running n old.hub ≡ true → is_running n between.hub ≡ true
  goes_on n goes =
      let at = running_at n old.hub goes in
      let kth = kth_of old.hub.children n at.0 at.1 at.2 in
      let there = stands between.hub.children kth.0 at.0.number plainly.rests.numbered_now
      (ap (λ l. slice_get l kth.0) plainly.rests.running ∙ kth.1) in
      runs_there n between.hub there.0
      (ap (slice_get between.hub.children) (sym (plainly.rests.numbered n at.0 at.1)) ∙ there.1) there.2

  not_before : (n : ℕ) (b : Bool) → is_running n between.hub ≡ b → is_running n old.hub ≡ false → b ≡ false
  not_before n true is none =
      absurd (false≢true (sym none ∙ ran (call.Launch words) others old between plainly.rests commands n is))
  not_before n false is none = refl

  given_same : (n : ℕ) (lane : Pump) → is_running n old.hub ≡ true → (heads_of new).given n lane ≡ (heads_of between).given n lane
  given_same n lane goes = ap (λ o. given_at o lane) (next.stay n (goes_on n goes))

  fulls_same : (n : ℕ) (lane : Pump) → is_running n old.hub ≡ true → (heads_of new).fulls n lane ≡ (heads_of between).fulls n lane
  fulls_same n lane goes = ap (λ o. fulls_at o lane) (next.stay n (goes_on n goes))

  refused_by : (between.hub.free ≡ []) ⊎ (length between.hub.children ≡ most_children) ⊎ Rose launcher.faults launcher_now.faults
      → (old.hub.free ≡ []) ⊎ (length old.hub.children ≡ most_children) ⊎ Rose launcher.faults launcher_now.faults
  refused_by (inl none) = inl (sym (ap (λ (hub : Hub). hub.free) plainly.rests.hub) ∙ none)
  refused_by (inr (inl full)) = inr (inl (sym as_many ∙ full))
  refused_by (inr (inr rose)) = inr (inr rose)

  refused_so : (said_so : Answer) → Refuses (call.Launch words) (Got said_so) between.hub launcher.faults launcher_now.faults
      → Refuses (call.Launch words) (Got said_so) old.hub launcher.faults launcher_now.faults
  refused_so answer.Refused refused = refused_by refused
  refused_so _ refused = tt

  pub launch_asks : AsksLauncher (call.Launch words) (Got said) launcher launcher_now old new
  launch_asks poller going =
      record {
        others = others;
        is =
            ap (λ b. cond b (old.hub, Memory) (answer_to (call.Launch words) others old.hub)) going
            ∙ ap (launch_from next.launching) served ∙ next.is;
        posts = (refl, next.nones ∙ plainly.rests.nones);
        lanes = λ child lane goes goes_now is.
            given_same child.number lane goes
            ∙ to_lanes (call.Launch words) others old between plainly.rests commands child lane goes (goes_on child.number goes) is;
        begins = λ number lane none goes. next.begins number lane (not_before number (is_running number between.hub) refl none) goes;
        full = λ number offer goes goes_now is.
            let more = to_full (call.Launch words) others old between plainly.rests commands number offer goes (goes_on number goes) is in
            omega (arith, more, fulls_same number (lane_of offer) goes);
        spent = λ number offer goes goes_now is.
            ap length (given_same number (lane_of offer) goes)
            ∙ to_spent (call.Launch words) others old between plainly.rests commands number offer goes (goes_on number goes) is;
        polls = told_nothing poller.asked;
        answers = told_nothing poller.answers;
        keeps = λ is. absurd (false≢true is);
        kills = told.kills;
        launches = told.launches ∙ ap (λ n. launches_after (call.Launch words) (Got said) n launcher.launches) as_many;
        refused = refused_so said told.refused;
        faults = refl;
      }

pub launch_all : {Run : Type 0} (words : List (List ℕ)) (result : Result Answer Want) (old between new : StateSeen Run)
    (launcher launcher_now : LauncherSeen) → Plainly [] old between → IfOk result (λ said. LaunchesNext between new (Got said))
    → IfOk result (λ said. LaunchTold words between.hub said launcher launcher_now)
    → IfOk result (λ said. AsksLauncher (call.Launch words) (Got said) launcher launcher_now old new)
launch_all words (Ok said) old between new launcher launcher_now plainly next told =
    launch_asks words said old between new launcher launcher_now plainly next told
launch_all words (Err want) old between new launcher launcher_now plainly next told = tt
