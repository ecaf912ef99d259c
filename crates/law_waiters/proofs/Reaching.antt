-- So a cancel goes on as it should from each task that waits, in every state of every run.
use Rattle.std.proofs.Common.{◌≡◌, ℕ, ℤ, Bool, true, false, cond, List, Option, Some, None, length, slice_get, sym, subst}
use Rattle.std.proofs.lemmas.Option.{none-some}
use Rattle.model_value.specs.Input.{Input}
use Rattle.model_value.specs.Value.{Value}
use Rattle.model_loop.specs.Parts.{Parts}
use Rattle.model_machine.specs.Extra.{Extra, ExtraCall, ExtraSaid, ExtraStep, made_by_all, unknown_code}
use Rattle.model_machine.specs.State.{State}
use Rattle.model_reach.specs.Part.{place_of, refuses, stays, was_drawn}
use Rattle.model_reach.specs.Reach.{OfDgram, OfExec, OfGather, OfSync, Part, Parted, part_as, part_of_code, part_of_key, reach, seen_by}
use Rattle.model_gather.specs.Gathered.{Drawn, Gathered, Gathers, Shields, Waits, gather_part}
use Rattle.model_gather.specs.Serving.{gather_means}
use Rattle.law_kept.specs.Walks.{Beside, Walks, runs}
use Rattle.law_waiters.specs.Reached.{CancelsGoOn, entry_under}
use Rattle.law_waiters.proofs.Fitting.{EntryFits, FitsAll, acted_fits, asked_fits, each_at, fits_stay, woken_fits}
use Rattle.law_waiters.proofs.Going.{goes_no_further, goes_to_each, members_whole}
use Rattle.law_waiters.proofs.Shapes.{row_stays, steps_stay}

-- ---- alone
abbrev pub Fits : State Gathered → Type 0
Fits s = FitsAll s.extra s.loop.parts

beside_fits : (s t : State Gathered) → Beside s t → Fits s → Fits t
beside_fits s t here fits =
    subst (λ kept. FitsAll kept t.loop.parts) (sym here.kept) (fits_stay s.extra s.loop.parts t.loop.parts (row_stays here.loop) fits)

pub fits_walk : Walks gather_means Fits (λ task answer s. Fits s) (λ task key s. Fits s)
fits_walk = record {
  beside = beside_fits;
  asks = asked_fits;
  stood = λ task key s t at here none fits. beside_fits s t here fits;
  done = λ task on key outcome s is fits. fits;
  hears = λ task key code bytes s t here fits. beside_fits s t here fits;
  wakes = λ task key input s fits.
      woken_fits s.extra s.loop fits (slice_get s.extra.drawn (place_of gather_part key)) (place_of gather_part key) input;
  woken = λ task key s fits. fits;
  over = λ task answer s fits. fits;
  waits = λ task on key s t here fits.
      subst (λ kept. FitsAll kept t.loop.parts) (sym here.kept) (fits_stay s.extra s.loop.parts t.loop.parts (row_stays here.loop) fits);
  acts = λ key handle rest s first live is fits.
      acted_fits s.extra (runs key rest s).loop (fits_stay s.extra s.loop.parts (runs key rest s).loop.parts (λ id kind e. e) fits)
      (slice_get s.extra.drawn (place_of gather_part key));
  news = λ code bytes s fits. fits;
}

-- ---- beside any other parts
module _ {B C D : Type 0} (sync : Extra B) (exec : Extra C) (dgram : Extra D) where
  abbrev All : Type 0
  All = Parted Gathered B C D

  abbrev added : Extra All
  added = reach gather_means sync exec dgram

  abbrev pub PartFits : State All → Type 0
  PartFits s = FitsAll s.extra.gather s.loop.parts

  beside_part : (s t : State All) → Beside s t → PartFits s → PartFits t
  beside_part s t here fits =
      subst (λ (kept : All). FitsAll kept.gather t.loop.parts) (sym here.kept)
      (fits_stay s.extra.gather s.loop.parts t.loop.parts (row_stays here.loop) fits)

  -- a call of another part
  other_part : (s : State All) (steps : List ExtraStep) → PartFits s → FitsAll s.extra.gather (made_by_all steps s.loop).parts
  other_part s steps fits = fits_stay s.extra.gather s.loop.parts (made_by_all steps s.loop).parts (steps_stay steps s.loop) fits

  abbrev Called : State All → ExtraCall All → Type 0
  Called s call = FitsAll call.state.gather (made_by_all call.steps s.loop).parts

  asks_part : (part : Part) (task : ℕ) (code : ℤ) (arguments : List Value) (s : State All) → PartFits s
      → Called s ((part_as gather_means sync exec dgram part).ask task code arguments s).call
  asks_part OfGather task code arguments s fits = asked_fits task code arguments (seen_by s.extra.gather s) fits
  asks_part OfSync task code arguments s fits =
      other_part s ((part_as gather_means sync exec dgram OfSync).ask task code arguments s).call.steps fits
  asks_part OfExec task code arguments s fits =
      other_part s ((part_as gather_means sync exec dgram OfExec).ask task code arguments s).call.steps fits
  asks_part OfDgram task code arguments s fits =
      other_part s ((part_as gather_means sync exec dgram OfDgram).ask task code arguments s).call.steps fits

  abbrev ask_at : Option Part → (task : ℕ) (code : ℤ) → List Value → State All → ExtraSaid All
  ask_at o task code arguments s =
      elim o [
        | None ↦ refuses (unknown_code code) s.extra
        | Some part ↦ (part_as gather_means sync exec dgram part).ask task code arguments s
      ]

  abbrev item_at : Option Part → (code : ℤ) → List ℕ → State All → ExtraCall All
  item_at o code bytes s =
      elim o [ None ↦ stays s.extra | Some part ↦ (part_as gather_means sync exec dgram part).item code bytes s ]

  asked_part : (o : Option Part) (task : ℕ) (code : ℤ) (arguments : List Value) (s : State All) → PartFits s
      → Called s (ask_at o task code arguments s).call
  asked_part None task code arguments s fits = fits
  asked_part (Some part) task code arguments s fits = asks_part part task code arguments s fits

  wakes_part : (part : Part) (key : ℕ) (input : Input) (s : State All) → PartFits s
      → Called s ((part_as gather_means sync exec dgram part).wake key input s).call
  wakes_part OfGather key input s fits =
      woken_fits s.extra.gather s.loop fits (slice_get s.extra.gather.drawn (place_of gather_part key)) (place_of gather_part key) input
  wakes_part OfSync key input s fits = other_part s ((part_as gather_means sync exec dgram OfSync).wake key input s).call.steps fits
  wakes_part OfExec key input s fits = other_part s ((part_as gather_means sync exec dgram OfExec).wake key input s).call.steps fits
  wakes_part OfDgram key input s fits = other_part s ((part_as gather_means sync exec dgram OfDgram).wake key input s).call.steps fits

  acts_part : (part : Part) (key : ℕ) (s : State All) → PartFits s → Called s ((part_as gather_means sync exec dgram part).act key s)
  acts_part OfGather key s fits =
      acted_fits s.extra.gather s.loop fits (slice_get s.extra.gather.drawn (place_of gather_part key))
  acts_part OfSync key s fits = other_part s ((part_as gather_means sync exec dgram OfSync).act key s).steps fits
  acts_part OfExec key s fits = other_part s ((part_as gather_means sync exec dgram OfExec).act key s).steps fits
  acts_part OfDgram key s fits = other_part s ((part_as gather_means sync exec dgram OfDgram).act key s).steps fits

  news_part : (o : Option Part) (code : ℤ) (bytes : List ℕ) (s : State All) → PartFits s
      → Called s (item_at o code bytes s)
  news_part None code bytes s fits = fits
  news_part (Some OfGather) code bytes s fits = fits
  news_part (Some OfSync) code bytes s fits = other_part s ((part_as gather_means sync exec dgram OfSync).item code bytes s).steps fits
  news_part (Some OfExec) code bytes s fits = other_part s ((part_as gather_means sync exec dgram OfExec).item code bytes s).steps fits
  news_part (Some OfDgram) code bytes s fits = other_part s ((part_as gather_means sync exec dgram OfDgram).item code bytes s).steps fits

  pub part_walk : Walks added PartFits (λ task answer s. PartFits s) (λ task key s. PartFits s)
  part_walk = record {
    beside = beside_part;
    asks = λ task code arguments s fits. asked_part (part_of_code code) task code arguments s fits;
    stood = λ task key s t at here none fits. beside_part s t here fits;
    done = λ task on key outcome s is fits. fits;
    hears = λ task key code bytes s t here fits. beside_part s t here fits;
    wakes = λ task key input s fits. wakes_part (part_of_key key) key input s fits;
    woken = λ task key s fits. fits;
    over = λ task answer s fits. fits;
    waits = λ task on key s t here fits.
        subst (λ (kept : All). FitsAll kept.gather t.loop.parts) (sym here.kept)
        (fits_stay s.extra.gather s.loop.parts t.loop.parts (row_stays here.loop) fits);
    acts = λ key handle rest s first live is fits.
        acts_part (part_of_key key) key (runs key rest s)
        (fits_stay s.extra.gather s.loop.parts (runs key rest s).loop.parts (λ id kind e. e) fits);
    news = λ code bytes s fits. news_part (part_of_code code) code bytes s fits;
  }

-- ---- so cancels go on
-- what stands under a key was kept there
under : (b : Bool) (o : Option Drawn) (it : Drawn) → cond b o None ≡ Some it → o ≡ Some it
under true o it e = e
under false o it e = absurd (none-some it e)

pub cancels_go_on : (kept : Gathered) (p : Parts) → FitsAll kept p → CancelsGoOn kept p
cancels_go_on kept p fits = record {
  gathers = λ key it e task seen comes. goes_to_each p task it.outer seen comes it.awaited (here key (Gathers it) e);
  members = λ key it e is. members_whole p it.outer it.awaited (here key (Gathers it) e) is;
  waits = λ key it e task seen comes. goes_no_further p task it.on seen comes (here key (Waits it) e);
  shields = λ key on e task seen comes. goes_no_further p task on seen comes (here key (Shields on) e);
}
  where
    here : (key : ℕ) (it : Drawn) → entry_under kept key ≡ Some it → EntryFits p it
    here key it e = each_at (EntryFits p) kept.drawn (place_of gather_part key) it
        (under (was_drawn gather_part (length kept.drawn) key) (slice_get kept.drawn (place_of gather_part key)) it e) fits
