-- What is kept of jobs is what happens of them; and what holds of all that may happen holds of every run.
use Rattle.std.proofs.Common.{◌≡◌, inl, inr, ℕ, zero, suc, ℤ, List, [], ◌∷◌, ◌++◌, Option, Some, None, refl, sym, ap, subst, ◌∙◌}
use Rattle.std.specs.Prelude.{if◌then◌else◌}
use Rattle.model_value.specs.Input.{Input}
use Rattle.model_value.specs.Value.{Value}
use Rattle.model_tree.specs.Syntax.{Program}
use Rattle.model_wire.specs.Event.{Event}
use Rattle.model_wire.specs.Journal.{Entry}
use Rattle.model_machine.specs.Extra.{Extra, ExtraCall, ExtraSaid, unknown_code}
use Rattle.model_machine.specs.Mids.{mids}
use Rattle.model_machine.specs.Replies.{input_by}
use Rattle.model_machine.specs.State.{State, start}
use Rattle.model_machine.specs.Turn.{turn}
use Rattle.model_machine.specs.Went.{Goes, Stops, Went}
use Rattle.model_reach.specs.Part.{refuses, stays as still}
use Rattle.model_reach.specs.Reach.{OfDgram, OfExec, OfGather, OfSync, Part, Parted, part_as, part_of_code, part_of_key, reach}
use Rattle.model_exec.specs.Execed.{Execed, none_execed}
use Rattle.model_exec.specs.Serving.{asked, exec_means}
use Rattle.law_changes.specs.Reaches.{goes, stays}
use Rattle.law_calls.specs.Tells.{AfterTurn, AreAllIn, IsRunIn}
use Rattle.law_calls.specs.Told as told
use Rattle.law_calls.specs.Told.{Acts, Happening, HasHappened, Hears, IsHistory, MayHappen, Told, Wakes, first_told, happens}
use Rattle.law_calls.proofs.History.{first_happened, history_tells}
use Rattle.law_calls.proofs.Turning.{run_in}
use Rattle.law_jobs.specs.Notes.{Note}
use Rattle.law_jobs.specs.Runs.{ComesByTries, called_in, is_exec_code, is_of_exec, served_in, tries_in, tries_of}
use Rattle.law_jobs.specs.Tries.{Asks, GoesOn, HasNews, Try, heard, kept_after, notes, now_of, woken_at}

after-append : (first next : List Try) (kept : Execed) → kept_after (first ++ next) kept ≡ kept_after next (kept_after first kept)
after-append [] next kept = refl
after-append (it ∷ first) next kept = after-append first next (now_of it kept)

module _ {A B D : Type 0} (limit : ℕ) (gather : Extra A) (sync : Extra B) (dgram : Extra D) where
  abbrev S : Type 0
  S = Parted A B Execed D

  abbrev added : Extra S
  added = reach gather sync exec_means dgram

  -- ---- of one call
  asks_tried : (task : ℕ) (code : ℤ) (arguments : List Value) (s : State S) (o : Option Part)
      → kept_after (if is_exec_code o then Asks code arguments ∷ [] else []) s.extra.exec
      ≡ (ExtraSaid.call {S = S} (elim o [
        | None ↦ refuses (unknown_code code) s.extra
        | Some part ↦ (part_as gather sync exec_means dgram part).ask task code arguments s
      ])).state.exec
  asks_tried task code arguments s None = refl
  asks_tried task code arguments s (Some OfGather) = refl
  asks_tried task code arguments s (Some OfSync) = refl
  asks_tried task code arguments s (Some OfExec) = refl
  asks_tried task code arguments s (Some OfDgram) = refl

  wakes_tried : (key : ℕ) (input : Input) (s : State S) (part : Part)
      → kept_after (if is_of_exec part then GoesOn key input s.loop.parts ∷ [] else []) s.extra.exec
      ≡ ((part_as gather sync exec_means dgram part).wake key input s).call.state.exec
  wakes_tried key input s OfGather = refl
  wakes_tried key input s OfSync = refl
  wakes_tried key input s OfExec = refl
  wakes_tried key input s OfDgram = refl

  acts_tried : (key : ℕ) (s : State S) (part : Part) → s.extra.exec ≡ ((part_as gather sync exec_means dgram part).act key s).state.exec
  acts_tried key s OfGather = refl
  acts_tried key s OfSync = refl
  acts_tried key s OfExec = refl
  acts_tried key s OfDgram = refl

  news_tried : (code : ℤ) (bytes : List ℕ) (s : State S) (o : Option Part)
      → kept_after (if is_exec_code o then HasNews code bytes ∷ [] else []) s.extra.exec
      ≡ (ExtraCall.state {S = S} (elim o [
        | None ↦ still s.extra
        | Some part ↦ (part_as gather sync exec_means dgram part).item code bytes s
      ])).exec
  news_tried code bytes s None = refl
  news_tried code bytes s (Some OfGather) = refl
  news_tried code bytes s (Some OfSync) = refl
  news_tried code bytes s (Some OfExec) = refl
  news_tried code bytes s (Some OfDgram) = refl

  found : (it : Happening S) (s : State S) (last : Told S) → s.extra ≡ last.extra → (now : Execed) → kept_after (tries_in it) s.extra.exec ≡ now
      → kept_after (tries_in it) last.extra.exec ≡ now
  found it s last same now h = ap (λ (extra : S). kept_after (tries_in it) extra.exec) (sym same) ∙ h

  call_tried : (it : Happening S) (last : Told S) → MayHappen limit added it last
      → kept_after (tries_in it) last.extra.exec ≡ (happens added it last).extra.exec
  call_tried (told.Asks task code arguments s) last may =
      found (told.Asks task code arguments s) s last may.0 (added.ask task code arguments s).call.state.exec
      (asks_tried task code arguments s (part_of_code code))
  call_tried (Wakes task key input s) last may =
      found (Wakes task key input s) s last may.0 (added.wake key input s).call.state.exec (wakes_tried key input s (part_of_key key))
  call_tried (Hears question answer s) last may =
      found (Hears question answer s) s last may.0 (added.wake question.key (input_by answer) s).call.state.exec
      (wakes_tried question.key (input_by answer) s (part_of_key question.key))
  call_tried (Acts key s) last may = found (Acts key s) s last may.0 (added.act key s).state.exec (acts_tried key s (part_of_key key))
  call_tried (told.HasNews code bytes s) last may =
      found (told.HasNews code bytes s) s last may.0 (added.item code bytes s).state.exec (news_tried code bytes s (part_of_code code))

  -- ---- served by its definition
  pub asked_by : (task : ℕ) (code : ℤ) (arguments : List Value) (s : State S) → part_of_code code ≡ Some OfExec
      → added.ask task code arguments s ≡ served_in (asked code arguments s.extra.exec) s.extra
  asked_by task code arguments s is =
      ap (λ (o : Option Part). elim o [
        | None ↦ refuses (unknown_code code) s.extra
        | Some part ↦ (part_as gather sync exec_means dgram part).ask task code arguments s
      ]) is

  pub woken_by : (key : ℕ) (input : Input) (s : State S) → part_of_key key ≡ OfExec
      → added.wake key input s ≡ served_in (woken_at key input s.loop.parts s.extra.exec) s.extra
  woken_by key input s is = ap (λ part. (part_as gather sync exec_means dgram part).wake key input s) is

  pub news_by : (code : ℤ) (bytes : List ℕ) (s : State S) → part_of_code code ≡ Some OfExec
      → added.item code bytes s ≡ called_in (heard code bytes s.extra.exec) s.extra
  news_by code bytes s is =
      ap (λ (o : Option Part). elim o [
        | None ↦ still s.extra
        | Some part ↦ (part_as gather sync exec_means dgram part).item code bytes s
      ]) is

  -- ---- of all
  tried : {first last : Told S} → (history : IsHistory limit added first last) → kept_after (tries_of history) first.extra.exec ≡ last.extra.exec
  tried stays = refl
  tried {first = first} (goes history it may) =
      after-append (tries_of history) (tries_in it) first.extra.exec ∙ ap (kept_after (tries_in it)) (tried history) ∙ call_tried it _ may

  -- ---- of a run
  module _ (first : S) (nothing : first.exec ≡ none_execed) (Promise : List Note → Execed → Type 0)
      (promised : (tries : List Try) → Promise (notes tries none_execed) (kept_after tries none_execed)) where
    comes : (kept : S) (events : List Event) → HasHappened limit added (first_told first) kept events
        → ComesByTries limit gather sync dgram first Promise kept events
    comes kept events h =
        let tries = tries_of h.history in
        let same : kept_after tries none_execed ≡ kept.exec =
        ap (kept_after tries) (sym nothing) ∙ tried h.history ∙ ap (λ (extra : S). extra.exec) h.keeps in
        record { happened = h; promise = subst (Promise (notes tries none_execed)) same (promised tries) }

    abbrev Happened : S → List Event → Type 0
    Happened = HasHappened limit added (first_told first)

    abbrev Comes : S → List Event → Type 0
    Comes = ComesByTries limit gather sync dgram first Promise

    all_come : (states : List (State S)) → AreAllIn Happened states → AreAllIn Comes states
    all_come [] all = tt
    all_come (s ∷ states) all = (comes s.extra s.events all.0, all_come states all.1)

    after_come : (first_ then_ : State S → Type 0) (went : Went S) → ((s : State S) → first_ s → then_ s) → AfterTurn Happened first_ went
        → AfterTurn Comes then_ went
    after_come first_ then_ (Goes now) each it = each now it
    after_come first_ then_ (Stops how last) each (inl cut) = inl cut
    after_come first_ then_ (Stops how last) each (inr it) = inr (comes last.extra last.events it)

    run_comes : (turns : ℕ) (s : State S) → IsRunIn Happened limit added turns s → IsRunIn Comes limit added turns s
    run_comes zero s it = comes s.extra s.events it
    run_comes (suc turns) s it = (
      comes s.extra s.events it.0,
      all_come (mids limit added s) it.1,
      after_come (IsRunIn Happened limit added turns) (IsRunIn Comes limit added turns) (turn limit added s) (run_comes turns) it.2,
    )

    pub runs_come : (most : ℕ) (program : Program) (answers : List Entry) (turns : ℕ) → IsRunIn Comes limit added turns (start most first program answers)
    runs_come most program answers turns =
        run_comes turns (start most first program answers)
        (run_in (history_tells limit added (first_told first)) turns (start most first program answers) (first_happened limit added first))
