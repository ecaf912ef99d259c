-- What feeds, the closing of a standard input, and an added request that isn't the poller's are, as the record of a call.
use Rattle.std.proofs.Common.{◌≡◌, ℕ, ℤ, false, cond, List, [], ◌∷◌, refl, sym, ap, ◌∙◌}
use Rattle.std.proofs.lemmas.Bool.{false≢true}
use Rattle.model_wire.specs.Call.{Answer}
use Rattle.model_wire.specs.declared.answer.Answer.TheVariants as answer
use Rattle.model_wire.specs.declared.call.Call.TheVariants as call
use Rattle.model_hub.specs.declared.child.Child.{Child}
use Rattle.model_hub.specs.Hub.{Hub}
use Rattle.model_hub.specs.Calls.{extra, socket}
use Rattle.model_hub.specs.Told.{is_datagram, told_with}
use Rattle.model_hub.specs.Others.{Lanes, Others, PollFailed, NotStarted, Said, Got, Failed}
use Rattle.aio_commands.proofs.Together.{plain_commands}
use Rattle.aio_live.specs.States.{StateSeen, heads_of, with_children, Plainly, Feeding, Ending}
use Rattle.aio_live.specs.Alone.{AsksAlone}
use Rattle.aio_live.proofs.Asking.{told_nothing, asks_by}

-- the lanes alone do something
abbrev lanes_alone : Lanes → Others
lanes_alone lanes =
    record { lanes = lanes; polled = PollFailed; net = Failed; posts = []; launching = NotStarted; reports = λ n. [] }

abbrev with_said : Said → Hub → Hub × Said
with_said said hub = (hub, said)

module _ {Run : Type 0} (old new : StateSeen Run) where
  pub feed_asks : (number : ℕ) (bytes : List ℕ) (said : Answer) → Feeding number bytes said old new
      → AsksAlone (call.Feed number bytes) (Got said) old new
  feed_asks number bytes said feeding poller launcher going =
      asks_by (call.Feed number bytes) (lanes_alone feeding.fed.lanes) old new feeding.rests feeding.fed.commands poller poller launcher launcher
      (Got said) going (feeding.fed.is old.hub ∙ ap (with_said (Got said)) (sym feeding.rests.hub)) (refl, feeding.rests.nones)
      (told_nothing poller.asked) (told_nothing poller.answers) (λ is. absurd (false≢true is)) refl refl tt

  pub end_asks : (number : ℕ) → Ending number old new → AsksAlone (call.End number) (Got answer.Done) old new
  end_asks number ending poller launcher going =
      asks_by (call.End number) (lanes_alone ending.ended.lanes) old new ending.rests ending.ended.commands poller poller launcher launcher
      (Got answer.Done) going (ap (with_said (Got answer.Done)) (ending.ended.is old.hub ∙ sym ending.rests.hub)) (refl, ending.rests.nones)
      (told_nothing poller.asked) (told_nothing poller.answers) (λ is. absurd (false≢true is)) refl refl tt

  pub extra_asks : (code : ℤ) (bytes : List ℕ) → is_datagram code ≡ false → Plainly [] old new
      → AsksAlone (call.Extra code bytes) (Got answer.Refused) old new
  extra_asks code bytes other plainly poller launcher going =
      asks_by (call.Extra code bytes) others old new plainly.rests
      (plain_commands (call.Extra code bytes) old.hub.children new.hub.children (heads_of old) (heads_of new) plainly.rests.numbered
      plainly.served (λ child. refl))
      poller poller launcher launcher (Got answer.Refused) going
      (ap (λ b. cond b (socket others.lanes others.net old.hub) (extra others.lanes old.hub)) other
      ∙ ap (with_said (Got answer.Refused))
      (ap (λ (cs : List Child). with_children cs old.hub) (sym plainly.served.is) ∙ sym plainly.rests.hub))
      (refl, plainly.rests.nones)
      (told_nothing poller.asked ∙ ap (λ b. told_with (cond b (call.Extra code bytes ∷ []) []) poller.asked) (sym other))
      (told_nothing poller.answers ∙ ap (λ b. told_with (cond b [] []) poller.answers) (sym other))
      (λ is. absurd (false≢true (sym other ∙ is))) refl refl tt
    where
      others : Others
      others = lanes_alone plainly.served.lanes
