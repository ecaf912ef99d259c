-- What a wire was asked, by events: of none, of some after others, and of one ask.
use Rattle.std.proofs.Common.{◌≡◌, ◌⊎◌, inl, inr, ℕ, ◌≤◌, List, [], ◌∷◌, ◌++◌, Option, Some, None, length, ◌∙◌, refl, sym, ap, append_assoc}
use Rattle.std.proofs.Common.{append-nil, arith}
use Rattle.std.proofs.Math.Path.{fun_ext}
use Rattle.model_wire.specs.declared.event.Event.TheVariants as event
use Rattle.model_wire.specs.declared.event.Handed.{Handed}
use Rattle.model_wire.specs.Call.{Answer, Call}
use Rattle.model_wire.specs.Event.{Event, calls_in, handed_after as handed_last, handed_by, handed_in}
use Rattle.model_wire.specs.Told.{WireSeen}
use Rattle.aio_wire.specs.EventList.{EventList}
use Rattle.aio_wire.specs.Port.{events_after}
use Rattle.aio_wire.specs.Replied.{MayHaveReplied, Replied, asked_after, handed_after}
use Rattle.aio_wire.specs.declared.wire.JournalFault.{JournalFault}
use Rattle.aio_wire.specs.declared.wire.Reply.{Reply}
use Rattle.aio_wire.specs.declared.wire.Reply.TheVariants as reply
use Rattle.aio_exchange.specs.Exchanged.{asked_by, handed_to}
use Rattle.aio_exchange.proofs.Exchanging.{asked-on, asked_none, handed-on, handed_none}
use Rattle.aio_core.specs.Asked.{Asks, AsksOnce}

-- ---- events after others
pub calls-append : (xs ys : List Event) → calls_in (xs ++ ys) ≡ calls_in xs ++ calls_in ys
calls-append [] ys = refl
calls-append (event.Called call ∷ xs) ys = ap (λ cs. call ∷ cs) (calls-append xs ys)
calls-append (event.Got answer ∷ xs) ys = calls-append xs ys
calls-append (event.Ran action ∷ xs) ys = calls-append xs ys
calls-append (event.Said task text ∷ xs) ys = calls-append xs ys

-- the last call
pub last_in : List Event → Option Call → Option Call
last_in [] last = last
last_in (event.Called call ∷ events) last = last_in events (Some call)
last_in (event.Got answer ∷ events) last = last_in events last
last_in (event.Ran action ∷ events) last = last_in events last
last_in (event.Said task text ∷ events) last = last_in events last

pub bytes-append : (xs ys : List Event) (last : Option Call) (to : Handed)
    → handed_in (xs ++ ys) last to ≡ handed_in xs last to ++ handed_in ys (last_in xs last) to
unfolding last_in
bytes-append [] ys last to = refl
bytes-append (event.Called call ∷ xs) ys last to = bytes-append xs ys (Some call) to
bytes-append (event.Got answer ∷ xs) ys last to =
    ap (λ bs. handed_last last answer to ++ bs) (bytes-append xs ys last to)
    ∙ sym (append_assoc (handed_last last answer to) (handed_in xs last to) (handed_in ys (last_in xs last) to))
bytes-append (event.Ran action ∷ xs) ys last to = bytes-append xs ys last to
bytes-append (event.Said task text ∷ xs) ys last to = bytes-append xs ys last to

-- ---- what was asked
pub asks_none : (seen : WireSeen) → Asks [] seen seen
asks_none seen = record { asked = asked_none seen.asked; handed = λ last. handed_none seen.handed }

pub asks_then : (xs ys : List Event) (before between after : WireSeen) → Asks xs before between → Asks ys between after → Asks (xs ++ ys) before after
asks_then xs ys before between after first second = record {
  asked =
      second.asked ∙ ap (asked_by (calls_in ys)) first.asked ∙ asked-on (calls_in xs) (calls_in ys) before.asked
      ∙ ap (λ cs. asked_by cs before.asked) (sym (calls-append xs ys));
  handed = λ last.
      second.handed (last_in xs last) ∙ ap (handed_to (handed_in ys (last_in xs last))) (first.handed last)
      ∙ handed-on (handed_in xs last) (handed_in ys (last_in xs last)) before.handed
      ∙ ap (λ bs. handed_to bs before.handed) (fun_ext (λ to. sym (bytes-append xs ys last to)));
}

-- ---- one ask
-- what is noted of it
abbrev pub noted_by : Call → Reply → List Event
noted_by call (reply.Got answer) = event.Called call ∷ event.Got answer ∷ []
noted_by call reply.Over = event.Called call ∷ []
noted_by call (reply.Bad fault) = event.Called call ∷ []
noted_by call reply.Failed = event.Called call ∷ []

pub noted_after : (list : EventList) (call : Call) (said : Reply) → (events_after list call said).events ≡ list.events ++ noted_by call said
noted_after list call (reply.Got answer) = append_assoc list.events (event.Called call ∷ []) (event.Got answer ∷ [])
noted_after list call reply.Over = refl
noted_after list call (reply.Bad fault) = refl
noted_after list call reply.Failed = refl

asked_one : (told : Option (List Call)) (call : Call) → asked_after told call ≡ asked_by (call ∷ []) told
asked_one None call = refl
asked_one (Some calls) call = refl

handed_one : (told : Option (Handed → List ℕ)) (call : Call) (answer : Answer)
    → handed_after told call (reply.Got answer) ≡ handed_to (λ to. handed_by to call answer ++ []) told
handed_one None call answer = refl
handed_one (Some held) call answer = ap Some (fun_ext (λ to. ap (λ bs. held to ++ bs) (sym (append-nil (handed_by to call answer)))))

handed_else : (told : Option (Handed → List ℕ)) (call : Call) (said : Reply) → handed_after told call said ≡ told
    → handed_after told call said ≡ handed_to (λ to. []) told
handed_else told call said same = same ∙ handed_none told

-- where no answer came
asks_called : (call : Call) (before after : WireSeen) → after.asked ≡ asked_after before.asked call → after.handed ≡ before.handed
    → Asks (event.Called call ∷ []) before after
asks_called call before after asked handed = record {
  asked = asked ∙ asked_one before.asked call;
  handed = λ last. handed ∙ handed_none before.handed;
}

stays_over : (told : Option (Handed → List ℕ)) (call : Call) → handed_after told call reply.Over ≡ told
stays_over None call = refl
stays_over (Some held) call = refl

stays_bad : (told : Option (Handed → List ℕ)) (call : Call) (fault : JournalFault) → handed_after told call (reply.Bad fault) ≡ told
stays_bad None call fault = refl
stays_bad (Some held) call fault = refl

stays_failed : (told : Option (Handed → List ℕ)) (call : Call) → handed_after told call reply.Failed ≡ told
stays_failed None call = refl
stays_failed (Some held) call = refl

pub asks_replied : (call : Call) (said : Reply) (before after : WireSeen) → Replied call before after said → Asks (noted_by call said) before after
asks_replied call (reply.Got answer) before after is = record {
  asked = is.asked ∙ asked_one before.asked call;
  handed = λ last. is.handed ∙ handed_one before.handed call answer;
}
asks_replied call reply.Over before after is = asks_called call before after is.asked (is.handed ∙ stays_over before.handed call)
asks_replied call (reply.Bad fault) before after is = asks_called call before after is.asked (is.handed ∙ stays_bad before.handed call fault)
asks_replied call reply.Failed before after is = asks_called call before after is.asked (is.handed ∙ stays_failed before.handed call)

-- ---- one call at most
abbrev pub none_once : (seen : WireSeen) → AsksOnce seen seen
none_once seen = ([], (omega arith), asks_none seen)

replied_once : (call : Call) (said : Reply) (before after : WireSeen) → Replied call before after said → AsksOnce before after
replied_once call said before after is = (noted_by call said, one said, asks_replied call said before after is)
  where
    one : (it : Reply) → length (calls_in (noted_by call it)) ≤ 1
    one (reply.Got answer) = omega arith
    one reply.Over = omega arith
    one (reply.Bad fault) = omega arith
    one reply.Failed = omega arith

pub maybe_once : (call : Call) (before after : WireSeen) → MayHaveReplied call before after → AsksOnce before after
maybe_once call before after (inr (said, replied)) = replied_once call said before after replied
maybe_once call before after (inl none) = at none.0
  where
    at : (after.asked ≡ asked_after before.asked call) ⊎ (after.asked ≡ before.asked) → AsksOnce before after
    at (inl asked) = (event.Called call ∷ [], omega arith, asks_called call before after asked none.1)
    at (inr same) = (
      [],
      omega arith,
      record { asked = same ∙ asked_none before.asked; handed = λ last. none.1 ∙ handed_none before.handed },
    )
