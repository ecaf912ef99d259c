-- What is kept of locks, events and queues is what their tries come to; and what holds of all tries holds of every run.
use Rattle.std.proofs.Common.{◌≡◌, inl, inr, ℕ, zero, suc, ℤ, List, [], ◌∷◌, ◌++◌, Option, Some, None, refl, sym, ap, subst, ◌∙◌}
use Rattle.std.specs.Prelude.{if◌then◌else◌}
use Rattle.model_value.specs.Input.{Input}
use Rattle.model_value.specs.Value.{Value}
use Rattle.model_tree.specs.Syntax.{Program}
use Rattle.model_wire.specs.Event.{Event}
use Rattle.model_wire.specs.Journal.{Entry}
use Rattle.model_machine.specs.Extra.{Extra, ExtraCall, ExtraSaid, unknown_code}
use Rattle.model_machine.specs.Mids.{mids}
use Rattle.model_machine.specs.Replies.{input_by}
use Rattle.model_machine.specs.State.{State, start}
use Rattle.model_machine.specs.Turn.{turn}
use Rattle.model_machine.specs.Went.{Goes, Stops, Went}
use Rattle.model_reach.specs.Part.{refuses, stays as still}
use Rattle.model_reach.specs.Reach.{OfDgram, OfExec, OfGather, OfSync, Part, Parted, part_as, part_of_code, part_of_key, reach}
use Rattle.model_sync.specs.Synced.{Synced, none_synced}
use Rattle.model_sync.specs.Serving.{sync_means}
use Rattle.law_changes.specs.Reaches.{goes, stays}
use Rattle.law_calls.specs.Tells.{AfterTurn, AreAllIn, IsRunIn}
use Rattle.law_calls.specs.Told as told
use Rattle.law_calls.specs.Told.{Acts, Happening, HasHappened, HasNews, Hears, IsHistory, MayHappen, Told, Wakes, first_told, happens}
use Rattle.law_calls.proofs.History.{first_happened, history_tells}
use Rattle.law_calls.proofs.Turning.{run_in}
use Rattle.law_locks.specs.Runs.{ComesByTries, is_of_sync, is_sync_code, served_in, tries_in, tries_of}
use Rattle.law_locks.specs.Tries.{Asks, GoesOn, Reply, Try, kept_after, replies, said_of}

pub after-append : (first next : List Try) (kept : Synced) → kept_after (first ++ next) kept ≡ kept_after next (kept_after first kept)
after-append [] next kept = refl
after-append (it ∷ first) next kept = after-append first next (said_of it kept).call.state

module _ {A C D : Type 0} (limit : ℕ) (gather : Extra A) (exec : Extra C) (dgram : Extra D) where
  abbrev S : Type 0
  S = Parted A Synced C D

  abbrev added : Extra S
  added = reach gather sync_means exec dgram

  -- ---- of one call
  asks_tried : (task : ℕ) (code : ℤ) (arguments : List Value) (s : State S) (o : Option Part)
      → kept_after (if is_sync_code o then Asks code arguments s.loop ∷ [] else []) s.extra.sync
      ≡ (ExtraSaid.call {S = S} (elim o [
        | None ↦ refuses (unknown_code code) s.extra
        | Some part ↦ (part_as gather sync_means exec dgram part).ask task code arguments s
      ])).state.sync
  asks_tried task code arguments s None = refl
  asks_tried task code arguments s (Some OfGather) = refl
  asks_tried task code arguments s (Some OfSync) = refl
  asks_tried task code arguments s (Some OfExec) = refl
  asks_tried task code arguments s (Some OfDgram) = refl

  wakes_tried : (key : ℕ) (input : Input) (s : State S) (part : Part)
      → kept_after (if is_of_sync part then GoesOn key input s.loop ∷ [] else []) s.extra.sync
      ≡ ((part_as gather sync_means exec dgram part).wake key input s).call.state.sync
  wakes_tried key input s OfGather = refl
  wakes_tried key input s OfSync = refl
  wakes_tried key input s OfExec = refl
  wakes_tried key input s OfDgram = refl

  acts_tried : (key : ℕ) (s : State S) (part : Part) → s.extra.sync ≡ ((part_as gather sync_means exec dgram part).act key s).state.sync
  acts_tried key s OfGather = refl
  acts_tried key s OfSync = refl
  acts_tried key s OfExec = refl
  acts_tried key s OfDgram = refl

  news_tried : (code : ℤ) (bytes : List ℕ) (s : State S) (o : Option Part)
      → s.extra.sync ≡ (ExtraCall.state {S = S} (elim o [
        | None ↦ still s.extra
        | Some part ↦ (part_as gather sync_means exec dgram part).item code bytes s
      ])).sync
  news_tried code bytes s None = refl
  news_tried code bytes s (Some OfGather) = refl
  news_tried code bytes s (Some OfSync) = refl
  news_tried code bytes s (Some OfExec) = refl
  news_tried code bytes s (Some OfDgram) = refl

  found : (it : Happening S) (s : State S) (last : Told S) → s.extra ≡ last.extra → (now : Synced) → kept_after (tries_in it) s.extra.sync ≡ now
      → kept_after (tries_in it) last.extra.sync ≡ now
  found it s last same now h = ap (λ (extra : S). kept_after (tries_in it) extra.sync) (sym same) ∙ h

  call_tried : (it : Happening S) (last : Told S) → MayHappen limit added it last
      → kept_after (tries_in it) last.extra.sync ≡ (happens added it last).extra.sync
  call_tried (told.Asks task code arguments s) last may =
      found (told.Asks task code arguments s) s last may.0 (added.ask task code arguments s).call.state.sync
      (asks_tried task code arguments s (part_of_code code))
  call_tried (Wakes task key input s) last may =
      found (Wakes task key input s) s last may.0 (added.wake key input s).call.state.sync (wakes_tried key input s (part_of_key key))
  call_tried (Hears question answer s) last may =
      found (Hears question answer s) s last may.0 (added.wake question.key (input_by answer) s).call.state.sync
      (wakes_tried question.key (input_by answer) s (part_of_key question.key))
  call_tried (Acts key s) last may = found (Acts key s) s last may.0 (added.act key s).state.sync (acts_tried key s (part_of_key key))
  call_tried (HasNews code bytes s) last may =
      found (HasNews code bytes s) s last may.0 (added.item code bytes s).state.sync (news_tried code bytes s (part_of_code code))

  -- ---- served by its definition
  pub asked_by : (task : ℕ) (code : ℤ) (arguments : List Value) (s : State S) → part_of_code code ≡ Some OfSync
      → added.ask task code arguments s ≡ served_in (said_of (Asks code arguments s.loop) s.extra.sync) s.extra
  asked_by task code arguments s is =
      ap (λ (o : Option Part). elim o [
        | None ↦ refuses (unknown_code code) s.extra
        | Some part ↦ (part_as gather sync_means exec dgram part).ask task code arguments s
      ]) is

  pub woken_by : (key : ℕ) (input : Input) (s : State S) → part_of_key key ≡ OfSync
      → added.wake key input s ≡ served_in (said_of (GoesOn key input s.loop) s.extra.sync) s.extra
  woken_by key input s is = ap (λ part. (part_as gather sync_means exec dgram part).wake key input s) is

  -- ---- of all
  pub tried : {first last : Told S} → (history : IsHistory limit added first last) → kept_after (tries_of history) first.extra.sync ≡ last.extra.sync
  tried stays = refl
  tried {first = first} (goes history it may) =
      after-append (tries_of history) (tries_in it) first.extra.sync ∙ ap (kept_after (tries_in it)) (tried history) ∙ call_tried it _ may

  -- ---- of a run
  module _ (first : S) (nothing : first.sync ≡ none_synced) (Promise : List Reply → Synced → Type 0)
      (promised : (tries : List Try) → Promise (replies tries none_synced) (kept_after tries none_synced)) where
    comes : (kept : S) (events : List Event) → HasHappened limit added (first_told first) kept events
        → ComesByTries limit gather exec dgram first Promise kept events
    comes kept events h =
        let tries = tries_of h.history in
        let same : kept_after tries none_synced ≡ kept.sync =
        ap (kept_after tries) (sym nothing) ∙ tried h.history ∙ ap (λ (extra : S). extra.sync) h.keeps in
        record { happened = h; promise = subst (Promise (replies tries none_synced)) same (promised tries) }

    abbrev Happened : S → List Event → Type 0
    Happened = HasHappened limit added (first_told first)

    abbrev Comes : S → List Event → Type 0
    Comes = ComesByTries limit gather exec dgram first Promise

    all_come : (states : List (State S)) → AreAllIn Happened states → AreAllIn Comes states
    all_come [] all = tt
    all_come (s ∷ states) all = (comes s.extra s.events all.0, all_come states all.1)

    after_come : (first_ then_ : State S → Type 0) (went : Went S) → ((s : State S) → first_ s → then_ s) → AfterTurn Happened first_ went
        → AfterTurn Comes then_ went
    after_come first_ then_ (Goes now) each it = each now it
    after_come first_ then_ (Stops how last) each (inl cut) = inl cut
    after_come first_ then_ (Stops how last) each (inr it) = inr (comes last.extra last.events it)

    run_comes : (turns : ℕ) (s : State S) → IsRunIn Happened limit added turns s → IsRunIn Comes limit added turns s
    run_comes zero s it = comes s.extra s.events it
    run_comes (suc turns) s it = (
      comes s.extra s.events it.0,
      all_come (mids limit added s) it.1,
      after_come (IsRunIn Happened limit added turns) (IsRunIn Comes limit added turns) (turn limit added s) (run_comes turns) it.2,
    )

    pub runs_come : (most : ℕ) (program : Program) (answers : List Entry) (turns : ℕ) → IsRunIn Comes limit added turns (start most first program answers)
    runs_come most program answers turns =
        run_comes turns (start most first program answers)
        (run_in (history_tells limit added (first_told first)) turns (start most first program answers) (first_happened limit added first))
