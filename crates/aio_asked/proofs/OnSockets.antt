-- What a kill and a call on a socket are, as the record of a call.
use Rattle.std.proofs.Common.{◌≡◌, ℕ, Bool, true, false, cond, List, [], ◌∷◌, length, refl, sym, ap, ◌∙◌}
use Rattle.std.proofs.lemmas.Bool.{false≢true}
use Rattle.model_wire.specs.Call.{Call, Answer}
use Rattle.model_wire.specs.declared.answer.Answer.TheVariants as answer
use Rattle.model_wire.specs.declared.call.Call.TheVariants as call
use Rattle.model_hub.specs.declared.child.Child.{Child}
use Rattle.model_hub.specs.Hub.{Hub}
use Rattle.model_hub.specs.Others.{Others, PollFailed, NotStarted, Said, Got, Failed}
use Rattle.model_hub.specs.Lanes.{serve}
use Rattle.model_hub.specs.Calls.{answer_to, extra, socket, watch_of, stdin_to}
use Rattle.model_hub.specs.Told.{PollerSeen, LauncherSeen, with_kill, is_socket, told_with}
use Rattle.model_hub.specs.Asked.{Asks, TakesPosts, polls_of, answers_of, answers_of_net, NetKeeps, HubKeeps, kills_after, launches_after, Refuses}
use Rattle.aio_hub.specs.Polls.{Nets, net_answers, NetFits, NetFailsIfRose}
use Rattle.aio_wire.specs.declared.wire.Reply.{Reply}
use Rattle.aio_wire.specs.declared.wire.Reply.TheVariants as reply
use Rattle.aio_commands.specs.Served.{ServesAll}
use Rattle.aio_commands.specs.Commands.{Commands}
use Rattle.aio_commands.proofs.Together.{plain_commands}
use Rattle.aio_live.specs.States.{StateSeen, heads_of, with_children, Plainly}
use Rattle.aio_live.specs.Seen.{hub_seen}
use Rattle.aio_live.proofs.Asking.{told_nothing, asks_by}
use Rattle.aio_asked.specs.Asked.{AsksOn, IsNoEnd, said_of}

-- ---- replies of a poller
net_told : (said : Reply) → net_answers said ≡ answers_of_net (said_of said)
net_told (reply.Got given) = refl
net_told reply.Over = refl
net_told (reply.Bad fault) = refl
net_told reply.Failed = refl

net_keeps : (asks : Call) (before now : ℕ) (said : Reply) → NetFits asks said → NetFailsIfRose before now said
    → NetKeeps asks (said_of said) before now
net_keeps asks before now (reply.Got given) fits rose = fits
net_keeps asks before now reply.Over fits rose = absurd fits
net_keeps asks before now (reply.Bad fault) fits rose = absurd fits
net_keeps asks before now reply.Failed fits rose = rose

pub no_end : (asks : Call) (said : Reply) → NetFits asks said → IsNoEnd said
no_end asks (reply.Got given) fits = tt
no_end asks reply.Over fits = fits
no_end asks (reply.Bad fault) fits = fits
no_end asks reply.Failed fits = tt

abbrev told_by : Said → Hub → Hub × Said
told_by said hub = (hub, said)

module _ {Run : Type 0} (old new : StateSeen Run) (plainly : Plainly [] old new) where
  abbrev others_with : Said → Others
  others_with said =
      record {
        lanes = plainly.served.lanes;
        polled = PollFailed;
        net = said;
        posts = [];
        launching = NotStarted;
        reports = λ n. [];
      }

  served : serve plainly.served.lanes [] old.hub ≡ new.hub
  served = ap (λ (cs : List Child). with_children cs old.hub) (sym plainly.served.is) ∙ sym plainly.rests.hub

  -- ---- a kill
  pub kill_asks : (number : ℕ) (poller : PollerSeen) (launcher launcher_now : LauncherSeen)
      → launcher_now.kills ≡ with_kill number launcher.kills → launcher_now.launches ≡ launcher.launches
      → AsksOn (call.Kill number) (hub_seen poller launcher old) (hub_seen poller launcher_now new) (Got answer.Done)
  kill_asks number poller launcher launcher_now kills launches going =
      asks_by (call.Kill number) (others_with Failed) old new plainly.rests
      (plain_commands (call.Kill number) old.hub.children new.hub.children (heads_of old) (heads_of new) plainly.rests.numbered plainly.served
      (λ child. refl))
      poller poller launcher launcher_now (Got answer.Done) going (ap (λ (hub : Hub). (hub, Got answer.Done)) served)
      (refl, plainly.rests.nones) (told_nothing poller.asked) (told_nothing poller.answers) (λ is. absurd (false≢true is)) kills launches tt

  -- ---- a call on a socket
  module _ (poller poller_now : PollerSeen) (launcher : LauncherSeen) (said : Reply) (going : old.hub.starved ≡ false) where
    abbrev others : Others
    others = others_with (said_of said)

    unstarved : (said_so : Reply) → socket others.lanes (said_of said_so) old.hub ≡ (new.hub, said_of said_so)
    unstarved said_so = by_said said_so
      where
        so : new.hub.starved ≡ false
        so = ap (λ (hub : Hub). hub.starved) plainly.rests.hub ∙ going

        goes_on : (answered : Said) → told_by answered (record (serve others.lanes [] old.hub) { starved = false }) ≡ told_by answered new.hub
        goes_on answered =
            ap (λ (hub : Hub). told_by answered (record hub { starved = false })) served
            ∙ ap (λ (b : Bool). told_by answered (record new.hub { starved = b })) (sym so)

        by_said : (some : Reply) → socket others.lanes (said_of some) old.hub ≡ (new.hub, said_of some)
        by_said (reply.Got given) = goes_on (Got given)
        by_said reply.Over = goes_on Failed
        by_said (reply.Bad fault) = goes_on Failed
        by_said reply.Failed = goes_on Failed

    by_call : (asks : Call) → Nets asks poller poller_now said
        → Commands asks others.lanes old.hub.children (heads_of old) (heads_of new)
        → answer_to asks others old.hub ≡ socket others.lanes others.net old.hub
        → polls_of asks others.lanes old.hub ≡ asks ∷ [] → answers_of asks others ≡ answers_of_net others.net
        → TakesPosts asks others old.hub old.nones new.nones
        → (NetKeeps asks others.net poller.faults poller_now.faults → HubKeeps asks others poller.faults poller_now.faults)
        → launcher.kills ≡ kills_after asks launcher.kills
        → launcher.launches ≡ launches_after asks (said_of said) (length old.hub.children) launcher.launches
        → Refuses asks (said_of said) old.hub launcher.faults launcher.faults
        → Asks asks (hub_seen poller launcher old) (hub_seen poller_now launcher new) (said_of said)
    by_call asks nets commands is polls answers posts keeps kills launches refused =
        asks_by asks others old new plainly.rests commands poller poller_now launcher launcher (said_of said) going
        (is ∙ unstarved said) posts
        (nets.asked ∙ ap (λ (l : List Call). told_with l poller.asked) (sym polls))
        (nets.answers ∙ ap (λ (l : List Answer). told_with l poller.answers) (net_told said ∙ sym answers))
        (keeps (net_keeps asks poller.faults poller_now.faults said nets.fits nets.failed)) kills launches refused

    given : (asks : Call) (all : ServesAll (watch_of asks) old.hub.children new.hub.children (heads_of old) (heads_of new))
        → ((child : Child) → stdin_to asks all.lanes child ≡ [])
        → Commands asks all.lanes old.hub.children (heads_of old) (heads_of new)
    given asks all none =
        plain_commands asks old.hub.children new.hub.children (heads_of old) (heads_of new) plainly.rests.numbered all none

    pub net_asks : (asks : Call) → is_socket asks ≡ true → Nets asks poller poller_now said
        → Asks asks (hub_seen poller launcher old) (hub_seen poller_now launcher new) (said_of said)
    net_asks (call.Select wait watched) is nets = absurd (false≢true is)
    net_asks (call.Listen port) is nets =
        by_call (call.Listen port) nets (given (call.Listen port) plainly.served (λ c. refl))
        refl refl refl (refl, plainly.rests.nones) (λ k so. k) refl refl tt
    net_asks (call.Accept server) is nets =
        by_call (call.Accept server) nets (given (call.Accept server) plainly.served (λ c. refl))
        refl refl refl (refl, plainly.rests.nones) (λ k so. k) refl refl tt
    net_asks (call.Connect port) is nets =
        by_call (call.Connect port) nets (given (call.Connect port) plainly.served (λ c. refl))
        refl refl refl (refl, plainly.rests.nones) (λ k so. k) refl refl tt
    net_asks (call.Recv conn) is nets =
        by_call (call.Recv conn) nets (given (call.Recv conn) plainly.served (λ c. refl))
        refl refl refl (refl, plainly.rests.nones) (λ k so. k) refl refl tt
    net_asks (call.Send conn bytes) is nets =
        by_call (call.Send conn bytes) nets (given (call.Send conn bytes) plainly.served (λ c. refl))
        refl refl refl (refl, plainly.rests.nones) (λ k so. k) refl refl tt
    net_asks (call.Feed child bytes) is nets = absurd (false≢true is)
    net_asks (call.Shut conn) is nets =
        by_call (call.Shut conn) nets (given (call.Shut conn) plainly.served (λ c. refl))
        refl refl refl (refl, plainly.rests.nones) (λ k so. k) refl refl tt
    net_asks (call.Close conn) is nets =
        by_call (call.Close conn) nets (given (call.Close conn) plainly.served (λ c. refl))
        refl refl refl (refl, plainly.rests.nones) (λ k so. k) refl refl tt
    net_asks (call.CloseServer server) is nets =
        by_call (call.CloseServer server) nets (given (call.CloseServer server) plainly.served (λ c. refl))
        refl refl refl (refl, plainly.rests.nones) (λ k so. k) refl refl tt
    net_asks (call.End child) is nets = absurd (false≢true is)
    net_asks (call.Kill child) is nets = absurd (false≢true is)
    net_asks (call.Launch words) is nets = absurd (false≢true is)
    net_asks (call.Extra code bytes) is nets =
        by_call (call.Extra code bytes) nets (given (call.Extra code bytes) plainly.served (λ c. refl))
        (ap (λ b. cond b (socket others.lanes others.net old.hub) (extra others.lanes old.hub)) is)
        (ap (λ b. cond b (call.Extra code bytes ∷ []) []) is) (ap (λ b. cond b (answers_of_net others.net) []) is)
        (refl, plainly.rests.nones) (λ k so. k) refl refl tt
