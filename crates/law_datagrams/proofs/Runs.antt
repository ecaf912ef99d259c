-- What is kept of datagrams is what happens of them; and what holds of all that may happen holds of every run.
use Rattle.std.proofs.Common.{◌≡◌, inl, inr, ℕ, zero, suc, ℤ, List, [], ◌∷◌, ◌++◌, Option, Some, None, refl, sym, ap, subst, ◌∙◌}
use Rattle.std.specs.Prelude.{if◌then◌else◌}
use Rattle.model_value.specs.Input.{Input}
use Rattle.model_value.specs.Value.{Value}
use Rattle.model_tree.specs.Syntax.{Program}
use Rattle.model_wire.specs.Event.{Event}
use Rattle.model_wire.specs.Journal.{Entry}
use Rattle.model_machine.specs.Extra.{Extra, ExtraCall, ExtraSaid, unknown_code}
use Rattle.model_machine.specs.Mids.{mids}
use Rattle.model_machine.specs.Replies.{input_by}
use Rattle.model_machine.specs.State.{State, start}
use Rattle.model_machine.specs.Turn.{turn}
use Rattle.model_machine.specs.Went.{Goes, Stops, Went}
use Rattle.model_reach.specs.Part.{refuses, stays as still}
use Rattle.model_reach.specs.Reach.{OfDgram, OfExec, OfGather, OfSync, Part, Parted, part_as, part_of_code, part_of_key, reach}
use Rattle.model_dgram.specs.Endpoints.{Endpoints, none_opened}
use Rattle.model_dgram.specs.Serving.{dgram_means, told as heard}
use Rattle.law_changes.specs.Reaches.{goes, stays}
use Rattle.law_calls.specs.Tells.{AfterTurn, AreAllIn, IsRunIn}
use Rattle.law_calls.specs.Told as told
use Rattle.law_calls.specs.Told.{Acts, Happening, HasHappened, Hears, IsHistory, MayHappen, Told, Wakes, first_told, happens}
use Rattle.law_calls.proofs.History.{first_happened, history_tells}
use Rattle.law_calls.proofs.Turning.{run_in}
use Rattle.law_datagrams.specs.Notes.{Note}
use Rattle.law_datagrams.specs.Runs.{ComesByTries, called_in, is_dgram_code, is_of_dgram, served_in, tries_in, tries_of}
use Rattle.law_datagrams.specs.Tries.{Asks, GoesOn, HasNews, Try, asked_at, kept_after, notes, now_of, woken_at}

after-append : (first next : List Try) (kept : Endpoints) → kept_after (first ++ next) kept ≡ kept_after next (kept_after first kept)
after-append [] next kept = refl
after-append (it ∷ first) next kept = after-append first next (now_of it kept)

module _ {A B C : Type 0} (limit : ℕ) (gather : Extra A) (sync : Extra B) (exec : Extra C) where
  abbrev S : Type 0
  S = Parted A B C Endpoints

  abbrev added : Extra S
  added = reach gather sync exec dgram_means

  -- ---- of one call
  asks_tried : (task : ℕ) (code : ℤ) (arguments : List Value) (s : State S) (o : Option Part)
      → kept_after (if is_dgram_code o then Asks code arguments s.loop.parts ∷ [] else []) s.extra.dgram
      ≡ (ExtraSaid.call {S = S} (elim o [
        | None ↦ refuses (unknown_code code) s.extra
        | Some part ↦ (part_as gather sync exec dgram_means part).ask task code arguments s
      ])).state.dgram
  asks_tried task code arguments s None = refl
  asks_tried task code arguments s (Some OfGather) = refl
  asks_tried task code arguments s (Some OfSync) = refl
  asks_tried task code arguments s (Some OfExec) = refl
  asks_tried task code arguments s (Some OfDgram) = refl

  wakes_tried : (key : ℕ) (input : Input) (s : State S) (part : Part)
      → kept_after (if is_of_dgram part then GoesOn key input s.loop.parts ∷ [] else []) s.extra.dgram
      ≡ ((part_as gather sync exec dgram_means part).wake key input s).call.state.dgram
  wakes_tried key input s OfGather = refl
  wakes_tried key input s OfSync = refl
  wakes_tried key input s OfExec = refl
  wakes_tried key input s OfDgram = refl

  acts_tried : (key : ℕ) (s : State S) (part : Part) → s.extra.dgram ≡ ((part_as gather sync exec dgram_means part).act key s).state.dgram
  acts_tried key s OfGather = refl
  acts_tried key s OfSync = refl
  acts_tried key s OfExec = refl
  acts_tried key s OfDgram = refl

  news_tried : (code : ℤ) (bytes : List ℕ) (s : State S) (o : Option Part)
      → kept_after (if is_dgram_code o then HasNews code bytes ∷ [] else []) s.extra.dgram
      ≡ (ExtraCall.state {S = S} (elim o [
        | None ↦ still s.extra
        | Some part ↦ (part_as gather sync exec dgram_means part).item code bytes s
      ])).dgram
  news_tried code bytes s None = refl
  news_tried code bytes s (Some OfGather) = refl
  news_tried code bytes s (Some OfSync) = refl
  news_tried code bytes s (Some OfExec) = refl
  news_tried code bytes s (Some OfDgram) = refl

  found : (it : Happening S) (s : State S) (last : Told S) → s.extra ≡ last.extra → (now : Endpoints) → kept_after (tries_in it) s.extra.dgram ≡ now
      → kept_after (tries_in it) last.extra.dgram ≡ now
  found it s last same now h = ap (λ (extra : S). kept_after (tries_in it) extra.dgram) (sym same) ∙ h

  call_tried : (it : Happening S) (last : Told S) → MayHappen limit added it last
      → kept_after (tries_in it) last.extra.dgram ≡ (happens added it last).extra.dgram
  call_tried (told.Asks task code arguments s) last may =
      found (told.Asks task code arguments s) s last may.0 (added.ask task code arguments s).call.state.dgram
      (asks_tried task code arguments s (part_of_code code))
  call_tried (Wakes task key input s) last may =
      found (Wakes task key input s) s last may.0 (added.wake key input s).call.state.dgram (wakes_tried key input s (part_of_key key))
  call_tried (Hears question answer s) last may =
      found (Hears question answer s) s last may.0 (added.wake question.key (input_by answer) s).call.state.dgram
      (wakes_tried question.key (input_by answer) s (part_of_key question.key))
  call_tried (Acts key s) last may = found (Acts key s) s last may.0 (added.act key s).state.dgram (acts_tried key s (part_of_key key))
  call_tried (told.HasNews code bytes s) last may =
      found (told.HasNews code bytes s) s last may.0 (added.item code bytes s).state.dgram (news_tried code bytes s (part_of_code code))

  -- ---- served by its definition
  pub asked_by : (task : ℕ) (code : ℤ) (arguments : List Value) (s : State S) → part_of_code code ≡ Some OfDgram
      → added.ask task code arguments s ≡ served_in (asked_at code arguments s.loop.parts s.extra.dgram) s.extra
  asked_by task code arguments s is =
      ap (λ (o : Option Part). elim o [
        | None ↦ refuses (unknown_code code) s.extra
        | Some part ↦ (part_as gather sync exec dgram_means part).ask task code arguments s
      ]) is

  pub woken_by : (key : ℕ) (input : Input) (s : State S) → part_of_key key ≡ OfDgram
      → added.wake key input s ≡ served_in (woken_at key input s.loop.parts s.extra.dgram) s.extra
  woken_by key input s is = ap (λ part. (part_as gather sync exec dgram_means part).wake key input s) is

  pub news_by : (code : ℤ) (bytes : List ℕ) (s : State S) → part_of_code code ≡ Some OfDgram
      → added.item code bytes s ≡ called_in (heard code bytes s.extra.dgram) s.extra
  news_by code bytes s is =
      ap (λ (o : Option Part). elim o [
        | None ↦ still s.extra
        | Some part ↦ (part_as gather sync exec dgram_means part).item code bytes s
      ]) is

  -- ---- of all
  tried : {first last : Told S} → (history : IsHistory limit added first last) → kept_after (tries_of history) first.extra.dgram ≡ last.extra.dgram
  tried stays = refl
  tried {first = first} (goes history it may) =
      after-append (tries_of history) (tries_in it) first.extra.dgram ∙ ap (kept_after (tries_in it)) (tried history) ∙ call_tried it _ may

  -- ---- of a run
  module _ (first : S) (nothing : first.dgram ≡ none_opened) (Promise : List Note → Endpoints → Type 0)
      (promised : (tries : List Try) → Promise (notes tries none_opened) (kept_after tries none_opened)) where
    comes : (kept : S) (events : List Event) → HasHappened limit added (first_told first) kept events
        → ComesByTries limit gather sync exec first Promise kept events
    comes kept events h =
        let tries = tries_of h.history in
        let same : kept_after tries none_opened ≡ kept.dgram =
        ap (kept_after tries) (sym nothing) ∙ tried h.history ∙ ap (λ (extra : S). extra.dgram) h.keeps in
        record { happened = h; promise = subst (Promise (notes tries none_opened)) same (promised tries) }

    abbrev Happened : S → List Event → Type 0
    Happened = HasHappened limit added (first_told first)

    abbrev Comes : S → List Event → Type 0
    Comes = ComesByTries limit gather sync exec first Promise

    all_come : (states : List (State S)) → AreAllIn Happened states → AreAllIn Comes states
    all_come [] all = tt
    all_come (s ∷ states) all = (comes s.extra s.events all.0, all_come states all.1)

    after_come : (first_ then_ : State S → Type 0) (went : Went S) → ((s : State S) → first_ s → then_ s) → AfterTurn Happened first_ went
        → AfterTurn Comes then_ went
    after_come first_ then_ (Goes now) each it = each now it
    after_come first_ then_ (Stops how last) each (inl cut) = inl cut
    after_come first_ then_ (Stops how last) each (inr it) = inr (comes last.extra last.events it)

    run_comes : (turns : ℕ) (s : State S) → IsRunIn Happened limit added turns s → IsRunIn Comes limit added turns s
    run_comes zero s it = comes s.extra s.events it
    run_comes (suc turns) s it = (
      comes s.extra s.events it.0,
      all_come (mids limit added s) it.1,
      after_come (IsRunIn Happened limit added turns) (IsRunIn Comes limit added turns) (turn limit added s) (run_comes turns) it.2,
    )

    pub runs_come : (most : ℕ) (program : Program) (answers : List Entry) (turns : ℕ) → IsRunIn Comes limit added turns (start most first program answers)
    runs_come most program answers turns =
        run_comes turns (start most first program answers)
        (run_in (history_tells limit added (first_told first)) turns (start most first program answers) (first_happened limit added first))
