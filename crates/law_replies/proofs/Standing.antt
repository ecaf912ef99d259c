-- A task that waits for a listener, a connection or a child, as its step begins.
use Rattle.std.proofs.Common.{◌≡◌, ℕ, true, [], refl}
use Rattle.std.proofs.lemmas.Bool.{false≢true}
use Rattle.model_value.specs.declared.request.Request.TheVariants as request
use Rattle.model_value.specs.Request.{Request}
use Rattle.model_says.specs.Endings.{Asks}
use Rattle.model_loop.specs.Futures.{next_future}
use Rattle.model_stream.specs.Requests.{StreamReader, give_up_read}
use Rattle.model_machine.specs.Extra.{Extra}
use Rattle.model_machine.specs.Sound.{AreKeptOnce, AreScriptsFutures, AreStreamsFutures, IsOpenedAt, stands_at}
use Rattle.model_machine.specs.State.{ResumePoint, Asked, Sleeping, Leaving, Serving, Connecting, Yielding, Reading, ReadingAll, State, generator_of}
use Rattle.law_cases.specs.Closed.{is_to_streams, stands_at_streams}
use Rattle.law_cases.specs.TreeEnd.{owned_in}
use Rattle.law_cases.proofs.Asking.{gives_up, gives_up_own}
use Rattle.law_cases.proofs.Replying.{woken_at}
use Rattle.law_replies.specs.InStep.{IsAsked}
use Rattle.law_replies.proofs.Replacing.{Replaces, asked_replaced, opened_on, replaces}

-- it asks for that
pub streams_to : (resume_point : ResumePoint) (asked : Request) → stands_at_streams resume_point ≡ true → stands_at resume_point asked ≡ true
    → is_to_streams asked ≡ true
streams_to (Connecting conn) (request.Connect port) is may = refl
streams_to (Connecting conn) _ is may = absurd (false≢true may)
streams_to (Yielding whom) (request.Drain stream) is may = refl
streams_to (Yielding whom) _ is may = absurd (false≢true may)
streams_to (Reading from op on) (request.Read stream count) is may = refl
streams_to (Reading from op on) (request.ReadExactly stream count) is may = refl
streams_to (Reading from op on) (request.ReadUntil stream separator) is may = refl
streams_to (Reading from op on) (request.ReadLine stream) is may = refl
streams_to (Reading from op on) _ is may = absurd (false≢true may)
streams_to (ReadingAll from taken on) (request.Read stream count) is may = refl
streams_to (ReadingAll from taken on) _ is may = absurd (false≢true may)
streams_to Asked asked is may = absurd (false≢true is)
streams_to (Sleeping tag) asked is may = absurd (false≢true is)
streams_to (Leaving group) asked is may = absurd (false≢true is)
streams_to (Serving key) asked is may = absurd (false≢true is)

pub not_pause_at : (resume_point : ResumePoint) (asked : Request) → stands_at_streams resume_point ≡ true → stands_at resume_point asked ≡ true
    → Asks request.Pause ≡ Asks asked → ⊥
not_pause_at resume_point asked is may e =
    at asked (streams_to resume_point asked is may) e
  where
    at : (asked : Request) → is_to_streams asked ≡ true → Asks request.Pause ≡ Asks asked → ⊥
    at request.Pause to e = false≢true to
    at _ to e = absurd cc

-- and a read that was resumed waits no more
given_up : {S : Type 0} (s : State S) (on : ℕ) (from : StreamReader) → AreStreamsFutures s → AreKeptOnce s → AreScriptsFutures s
    → Replaces s (give_up_read on from s.streams)
given_up s on from kept once scripts =
    let first = next_future s.loop.parts in
    let it = gives_up (owned_in s) first on from s.streams kept in
    replaces s s (give_up_read on from s.streams) first kept once scripts it.times it.servers it.connections it.children refl refl
    (gives_up_own (owned_in s) on from s.streams kept)

pub woken_opened : {S : Type 0} (s : State S) (resume_point : ResumePoint) → AreStreamsFutures s → IsOpenedAt s.streams resume_point
    → IsOpenedAt (woken_at resume_point s).streams resume_point
woken_opened s Asked kept h = h
woken_opened s (Sleeping tag) kept h = h
woken_opened s (Leaving group) kept h = h
woken_opened s (Serving key) kept h = h
woken_opened s (Connecting conn) kept h = h
woken_opened s (Yielding whom) kept h = h
woken_opened s (Reading from op on) kept h =
    let it = gives_up (owned_in s) 0 on from s.streams kept in
    opened_on s.streams (give_up_read on from s.streams) it.connections it.children (Reading from op on) h
woken_opened s (ReadingAll from taken on) kept h =
    let it = gives_up (owned_in s) 0 on from s.streams kept in
    opened_on s.streams (give_up_read on from s.streams) it.connections it.children (ReadingAll from taken on) h

pub woken_asked : {S : Type 0} {added : Extra S} {task : ℕ} {stood : ResumePoint} {asked : Request} {s : State S} (resume_point : ResumePoint)
    → IsAsked added task stood asked s → IsAsked added task stood asked (woken_at resume_point s)
woken_asked Asked is = is
woken_asked (Sleeping tag) is = is
woken_asked (Leaving group) is = is
woken_asked (Serving key) is = is
woken_asked (Connecting conn) is = is
woken_asked (Yielding whom) is = is
woken_asked {added = added} {task = task} {stood = stood} {asked = asked} {s = s} (Reading from op on) is =
    asked_replaced added task stood asked s (give_up_read on from s.streams) (given_up s on from is.others.streams is.others.kept_once is.others.futures) is
woken_asked {added = added} {task = task} {stood = stood} {asked = asked} {s = s} (ReadingAll from taken on) is =
    asked_replaced added task stood asked s (give_up_read on from s.streams) (given_up s on from is.others.streams is.others.kept_once is.others.futures) is

pub woken_tape : {S : Type 0} (task : ℕ) (s : State S) (resume_point : ResumePoint) → ((generator_of task s).tape ≡ [] → ⊥)
    → (generator_of task (woken_at resume_point s)).tape ≡ [] → ⊥
woken_tape task s Asked n = n
woken_tape task s (Sleeping tag) n = n
woken_tape task s (Leaving group) n = n
woken_tape task s (Serving key) n = n
woken_tape task s (Connecting conn) n = n
woken_tape task s (Yielding whom) n = n
woken_tape task s (Reading from op on) n = n
woken_tape task s (ReadingAll from had on) n = n
