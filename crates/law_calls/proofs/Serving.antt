-- What goes on holds of what a request comes to, and of what a task makes of its input where it stands at one.
use Rattle.std.proofs.Common.{◌≡◌, inl, inr, ℕ, ℤ, zero, suc, Bool, true, false, List, [], ◌∷◌, Option, Some, None, refl, sym, subst}
use Rattle.std.proofs.lemmas.Bool.{false≢true}
use Rattle.std.proofs.lemmas.List.{append_assoc}
use Rattle.model_value.specs.declared.request.Request.TheVariants as request
use Rattle.model_value.specs.Input.{Input}
use Rattle.model_value.specs.Request.{Request}
use Rattle.model_value.specs.Value.{Outcome, Value}
use Rattle.model_says.specs.Endings as says
use Rattle.model_wire.specs.declared.call.Call.TheVariants as call
use Rattle.model_wire.specs.declared.event.Event.TheVariants as event
use Rattle.model_wire.specs.Call.{Answer, Call}
use Rattle.model_wire.specs.Event.{Event}
use Rattle.model_wire.specs.Fits.{fits}
use Rattle.model_wire.specs.Journal.{Entry}
use Rattle.model_wire.specs.Trace.{End}
use Rattle.model_machine.specs.Arguments.{as_int, as_list}
use Rattle.model_machine.specs.Extra as extra
use Rattle.model_machine.specs.Extra.{Extra, ExtraAnswer, called}
use Rattle.model_machine.specs.Outcomes.{input_of}
use Rattle.model_machine.specs.Replies.{RequestReply, Answers, Raises, Suspends, Halts, Wake, decides, ended, given, input_by, reply, serves, serves_as}
use Rattle.model_machine.specs.Replies.{serves_until, woken, woken_within}
use Rattle.model_machine.specs.State.{ResumePoint, Asked, Sleeping, Leaving, Serving, Connecting, Yielding, Reading, ReadingAll, State, noted}
use Rattle.model_machine.specs.Step.{says_of}
use Rattle.law_reach.specs.Reaches.{IsUnmet, left_by}
use Rattle.law_reach.proofs.Opened.{decides_comes, reply_comes}
use Rattle.law_walk.proofs.Trees.{asked_comes}
use Rattle.law_calls.specs.Tells.{In, LeavesBy, Tells}
use Rattle.law_calls.specs.Told.{HasBegun, IsWoken}
use Rattle.law_calls.proofs.Rows.{Untold, is_extra_request, reply_same, row_untold, unchanging}

-- the outside was asked, and answered
abbrev pub heard : {S : Type 0} → Call → Answer → List Entry → State S → State S
heard it answer left s = noted (event.Got answer) (record (noted (event.Called it) s) { answers = left })

module _ {S : Type 0} {limit : ℕ} {added : Extra S} {Holds : S → List Event → Type 0}
    {Called : (task : ℕ) → ExtraAnswer → S → List Event → Type 0} (tells : Tells limit added Holds Called) where
  pub untold_in : (s t : State S) → Untold s t → In Holds s → In Holds t
  untold_in s t untold holds =
      subst (λ kept. Holds kept t.events) (sym untold.0)
      (subst (Holds s.extra) (sym untold.1.1.0) (tells.beside s.extra s.events untold.1.0 untold.1.1.1 holds))

  -- what isn't for what is added
  comes_in : (s : State S) (it : RequestReply S) → Untold s (left_by it) → In Holds s → LeavesBy Holds it
  comes_in s (Answers value now) untold holds = untold_in s now untold holds
  comes_in s (Raises fault now) untold holds = untold_in s now untold holds
  comes_in s (Suspends now) untold holds = untold_in s now untold holds
  comes_in s (Halts how last) untold holds = inr (untold_in s last untold holds)

  module _ (task : ℕ) where
    unmet : (how : End) (last : State S) → IsUnmet how → LeavesBy Holds (Halts how last)
    unmet how last it = inl (inl it)

    -- ---- what is added
    abbrev WakesIn : Wake S → Type 0
    WakesIn wake = (key : ℕ) (input : Input) (s : State S) → IsWoken task input s → In Holds s → LeavesBy Holds (wake key input s)

    -- what the outside answered wakes it
    abbrev HearsIn : Wake S → Type 0
    HearsIn wake =
        (code : ℤ) (bytes : List ℕ) (key : ℕ) (answer : Answer) (left : List Entry) (s : State S) → fits (call.Extra code bytes) answer ≡ true
        → Called task (extra.Asks code bytes key) s.extra s.events
        → LeavesBy Holds (wake key (input_by answer) (heard (call.Extra code bytes) answer left s))

    until_in : (o : Option Outcome) (wake : Wake S) (on key : ℕ) (s : State S) → ended s on ≡ o → WakesIn wake → In Holds s
        → LeavesBy Holds (serves_until o wake task on key s)
    until_in (Some outcome) wake on key s is wakes holds =
        wakes key (input_of outcome) s (inr (record { on = on; outcome = outcome; ended = is; heard = refl })) holds
    until_in None wake on key s is wakes holds = holds

    serves_in : (answer : ExtraAnswer) (wake : Wake S) (s : State S) → WakesIn wake → HearsIn wake → Called task answer s.extra s.events
        → LeavesBy Holds (serves_as answer wake task s)
    serves_in (extra.Answers value) wake s wakes hears it = tells.over task (extra.Answers value) s.extra s.events refl it
    serves_in (extra.Raises fault) wake s wakes hears it = tells.over task (extra.Raises fault) s.extra s.events refl it
    serves_in (extra.Waits on key) wake s wakes hears it =
        until_in (ended s on) wake on key s refl wakes (tells.over task (extra.Waits on key) s.extra s.events refl it)
    serves_in (extra.Asks code bytes key) wake s wakes hears it =
        asked_comes Halts (LeavesBy Holds) unmet (call.Extra code bytes) (λ said. wake key (input_by said)) s
        (λ came left fit. hears code bytes key came left s fit it)

    within_in : (wakes : ℕ) → WakesIn (woken_within added wakes task) × HearsIn (woken_within added wakes task)
    within_in zero = (λ key input s woken_so holds. inr holds, λ code bytes key answer left s fit it. inl (inr tt))
    within_in (suc wakes) = (
      λ key input s woken_so holds.
          serves_in (added.wake key input s).answer (woken_within added wakes task) (called (added.wake key input s).call s) (within_in wakes).0
          (within_in wakes).1 (tells.wakes task key input s woken_so holds),
      λ code bytes key answer left s fit it.
          let t = heard (call.Extra code bytes) answer left s in
          serves_in (added.wake key (input_by answer) t).answer (woken_within added wakes task) (called (added.wake key (input_by answer) t).call t)
          (within_in wakes).0 (within_in wakes).1
          (tells.hears task key code bytes answer t s.events fit
          (append_assoc s.events (event.Called (call.Extra code bytes) ∷ []) (event.Got answer ∷ [])) it),
    )

    pub woken_in : WakesIn (woken added task)
    woken_in key input s woken_so holds = (within_in (suc (added.wakes_left key s.extra))).0 key input s woken_so holds

    woken_hears : HearsIn (woken added task)
    woken_hears code bytes key answer left s fit it =
        (within_in (suc (added.wakes_left key s.extra))).1 code bytes key answer left s fit it

    -- ---- the table
    extra_in : (asked : Request) (s : State S) → is_extra_request asked ≡ true → says_of limit added task s ≡ says.Asks asked → In Holds s
        → LeavesBy Holds (reply added task asked s)
    unfolding reply
    extra_in (request.Extra code arguments) s is said holds = number (as_int code) refl
      where
        items : (n : ℤ) → as_int code ≡ Some n → (o : Option (List Value)) → as_list arguments ≡ o
            → LeavesBy Holds (given o (λ list now. serves (added.ask task n list now) (woken added task) task now) s)
        items n is_code None e = holds
        items n is_code (Some list) e =
            serves_in (added.ask task n list s).answer (woken added task) (called (added.ask task n list s).call s) woken_in woken_hears
            (tells.asks task n list s (record { number = code; list = arguments; says = said; is_code = is_code; are_arguments = e }) holds)

        number : (o : Option ℤ) → as_int code ≡ o
            → LeavesBy Holds
            (given o (λ n. given (as_list arguments) (λ list now. serves (added.ask task n list now) (woken added task) task now)) s)
        number None e = holds
        number (Some n) e = items n e (as_list arguments) refl
    extra_in _ s is said holds = absurd (false≢true is)

    pub reply_in : (asked : Request) (s : State S) → says_of limit added task s ≡ says.Asks asked → In Holds s
        → LeavesBy Holds (reply added task asked s)
    reply_in asked s said holds = at (is_extra_request asked) refl
      where
        at : (b : Bool) → is_extra_request asked ≡ b → LeavesBy Holds (reply added task asked s)
        at true is = extra_in asked s is said holds
        at false is =
            subst (LeavesBy Holds) (sym (reply_same added task asked s is))
            (comes_in s (reply unchanging task asked s) (row_untold (Some task) (reply_comes unchanging task asked s).reaches) holds)

    -- ---- what a task stands at
    still_in : (resume_point : ResumePoint) (input : Input) (s : State S) → In Holds s
        → LeavesBy Holds (decides (unchanging {S = S}) resume_point task input s)
    still_in resume_point input s holds =
        comes_in s (decides unchanging resume_point task input s)
        (row_untold (Some task) (decides_comes unchanging task resume_point input s).reaches) holds

    pub decides_in : (resume_point : ResumePoint) (input : Input) (s : State S) → HasBegun task s.events → In Holds s
        → LeavesBy Holds (decides added resume_point task input s)
    decides_in Asked input s began holds = still_in Asked input s holds
    decides_in (Sleeping tag) input s began holds = still_in (Sleeping tag) input s holds
    decides_in (Leaving group) input s began holds = still_in (Leaving group) input s holds
    decides_in (Serving key) input s began holds = woken_in key input s (inl began) holds
    decides_in (Connecting conn) input s began holds = still_in (Connecting conn) input s holds
    decides_in (Yielding whom) input s began holds = still_in (Yielding whom) input s holds
    decides_in (Reading from op on) input s began holds = still_in (Reading from op on) input s holds
    decides_in (ReadingAll from taken on) input s began holds = still_in (ReadingAll from taken on) input s holds
