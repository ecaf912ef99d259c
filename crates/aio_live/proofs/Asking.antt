-- What a call did to the children and their lanes, and to poller and launcher, is what the record of a call says.
use Rattle.std.proofs.Common.{◌≡◌, ℕ, ◌<◌, ◌^◌, Bool, true, false, cond, List, [], ◌++◌, Option, Some, None}
use Rattle.std.proofs.Common.{length, refl, sym, ap, ◌∙◌, append-nil, arith}
use Rattle.std.specs.Prelude.{slice_get}
use Rattle.std.proofs.lemmas.Bool.{false≢true}
use Rattle.model_wire.specs.Call.{Call}
use Rattle.model_hub.specs.declared.child.Child.{Child}
use Rattle.model_hub.specs.declared.giving.Giving.TheVariants.{Full, Spent}
use Rattle.model_hub.specs.declared.pump.Pump.{Pump}
use Rattle.model_hub.specs.Children.{runs}
use Rattle.model_hub.specs.Hub.{Hub, of_child}
use Rattle.model_hub.specs.Others.{Offer, Others, Said, Memory}
use Rattle.model_hub.specs.Calls.{answer_to, commands_to}
use Rattle.model_hub.specs.Told.{PollerSeen, LauncherSeen, told_with}
use Rattle.model_hub.specs.Asked.{Asks, is_running, lane_of, TakesPosts, polls_of, answers_of, HubKeeps, kills_after, launches_after, Refuses}
use Rattle.aio_roster.proofs.Running.{kth_of, stands}
use Rattle.aio_commands.specs.Commands.{Commands}
use Rattle.aio_live.specs.States.{StateSeen, Rests, heads_of}
use Rattle.aio_live.specs.Seen.{hub_seen}

pub told_nothing : {A : Type 0} (told : Option (List A)) → told ≡ told_with [] told
told_nothing None = refl
told_nothing (Some told) = ap Some (sym (append-nil told))

-- ---- a child that runs stands at its number
stands_if : (o : Option Child) → elim o [ None ↦ false | Some child ↦ runs child.stay ] ≡ true
    → (child : Child) × (o ≡ Some child) × (runs child.stay ≡ true)
stands_if None h = absurd (false≢true h)
stands_if (Some child) h = (child, refl, h)

pub running_at : (n : ℕ) (hub : Hub) → is_running n hub ≡ true → (child : Child) × (slice_get hub.children n ≡ Some child) × (runs child.stay ≡ true)
running_at n hub h = stands_if (slice_get hub.children n) h

is_it : (o : Option Child) (child : Child) → elim o [ None ↦ false | Some c ↦ runs c.stay ] ≡ true
    → elim o [ None ↦ child | Some c ↦ c ] ≡ child → o ≡ Some child
is_it None child goes is = absurd (false≢true goes)
is_it (Some c) child goes is = ap Some is

abbrev runs_in : Option Child → Bool
runs_in o = elim o [ None ↦ false | Some c ↦ runs c.stay ]

pub runs_there : (n : ℕ) (hub : Hub) (child : Child) → slice_get hub.children n ≡ Some child → runs child.stay ≡ true → is_running n hub ≡ true
runs_there n hub child at goes = ap runs_in at ∙ goes

module _ {Run : Type 0} (asks : Call) (others : Others) (old new : StateSeen Run) (rests : Rests old new)
    (commands : Commands asks others.lanes old.hub.children (heads_of old) (heads_of new)) where
  pub to_lanes : (child : Child) (lane : Pump) → is_running child.number old.hub ≡ true → is_running child.number new.hub ≡ true
      → of_child child (λ (here : Child). here) child.number old.hub.children ≡ child
      → (heads_of new).given child.number lane ≡ (heads_of old).given child.number lane ++ commands_to asks others.lanes child lane
  to_lanes child lane goes goes_on is =
      commands.given child.number child (is_it (slice_get old.hub.children child.number) child goes is) lane

  -- those that run, run before
  pub ran : (n : ℕ) → is_running n new.hub ≡ true → is_running n old.hub ≡ true
  ran n h =
      let at = running_at n new.hub h in
      let kth = kth_of new.hub.children n at.0 at.1 at.2 in
      let there = stands old.hub.children kth.0 at.0.number rests.numbered (ap (λ l. slice_get l kth.0) (sym rests.running) ∙ kth.1) in
      runs_there n old.hub there.0 (ap (slice_get old.hub.children) (sym (place n at.0 at.1)) ∙ there.1) there.2
    where
      place : (m : ℕ) (child : Child) → slice_get new.hub.children m ≡ Some child → child.number ≡ m
      place m child at = rests.numbered_now m child at

  to_begin : (number : ℕ) (lane : Pump) → is_running number old.hub ≡ false → is_running number new.hub ≡ true → (heads_of new).given number lane ≡ []
  to_begin number lane none goes = absurd (false≢true (sym none ∙ ran number goes))

  pub to_full : (number : ℕ) (offer : Offer) → is_running number old.hub ≡ true → is_running number new.hub ≡ true → others.lanes number offer ≡ Full
      → (heads_of old).fulls number (lane_of offer) < (heads_of new).fulls number (lane_of offer)
  to_full number offer goes goes_on is =
      let at = running_at number old.hub goes in (commands.each number at.0 at.1 at.2 offer).full is

  pub to_spent : (number : ℕ) (offer : Offer) → is_running number old.hub ≡ true → is_running number new.hub ≡ true → others.lanes number offer ≡ Spent
      → length ((heads_of new).given number (lane_of offer)) ≡ 2 ^ 61
  to_spent number offer goes goes_on is =
      let at = running_at number old.hub goes in
      omega (arith, (commands.each number at.0 at.1 at.2 offer).spent is, rests.few number (lane_of offer))

  module _ (poller poller_now : PollerSeen) (launcher launcher_now : LauncherSeen) (said : Said) (going : old.hub.starved ≡ false)
      (is : answer_to asks others old.hub ≡ (new.hub, said)) (posts : TakesPosts asks others old.hub old.nones new.nones)
      (polls : poller_now.asked ≡ told_with (polls_of asks others.lanes old.hub) poller.asked)
      (answers : poller_now.answers ≡ told_with (answers_of asks others) poller.answers)
      (keeps : HubKeeps asks others poller.faults poller_now.faults) (kills : launcher_now.kills ≡ kills_after asks launcher.kills)
      (launches : launcher_now.launches ≡ launches_after asks said (length old.hub.children) launcher.launches)
      (refused : Refuses asks said old.hub launcher.faults launcher_now.faults) where
    pub asks_by : Asks asks (hub_seen poller launcher old) (hub_seen poller_now launcher_now new) said
    asks_by =
        record {
          others = others;
          is = ap (λ b. cond b (old.hub, Memory) (answer_to asks others old.hub)) going ∙ is;
          posts = posts;
          lanes = to_lanes;
          begins = to_begin;
          full = to_full;
          spent = to_spent;
          polls = polls;
          answers = answers;
          keeps = keeps;
          kills = kills;
          launches = launches;
          refused = refused;
          faults = refl;
        }
