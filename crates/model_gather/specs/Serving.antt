-- The table of these requests: 100 and 101 gather, 102 wait, 103 shield, 104 wait_for.
use Rattle.std.specs.Prelude.{ℕ, ◌==◌, ℤ, pos, negsuc, Bool, true, false, List, [], ◌∷◌, Option, Some, None, slice_get, if◌then◌else◌}
use Rattle.std.specs.Option.{option_and_then, option_map}
use Rattle.model_value.specs.Input.{Input}
use Rattle.model_value.specs.Value.{Value}
use Rattle.model_says.specs.Requests.{bad_argument}
use Rattle.model_machine.specs.Arguments.{as_awaited, as_delay, as_int, as_list}
use Rattle.model_machine.specs.Extra.{Extra, ExtraCall, ExtraSaid, unknown_code}
use Rattle.model_loop.specs.Parts.{Parts}
use Rattle.model_machine.specs.State.{State}
use Rattle.model_reach.specs.Part.{only_says, passes, place_of, refuses, stays}
use Rattle.model_gather.specs.Gathered.{Argument, Drawn, Gathered, Gathers, WaitMode, Waits, Shields, WaitsFor, Tells, Rings, as_all_awaited, gather_keeps, gather_part, paired}
use Rattle.model_gather.specs.Gather.{gather, gather_told}
use Rattle.model_gather.specs.Wait.{mode_of, wait, wait_told, wait_rings, wait_woken}
use Rattle.model_gather.specs.Shield.{shield, shield_told}
use Rattle.model_gather.specs.WaitFor.{wait_for, wait_for_rings, wait_for_woken}

pub data Wanted : Type 0 where
  Gather : (as_items : Bool) → Wanted
  Wait : Wanted
  Shield : Wanted
  WaitFor : Wanted

abbrev pub wanted_of : ℤ → Option Wanted
wanted_of (pos code) =
    if code == 100 then Some (Gather false)
    else (if code == 101 then Some (Gather true)
    else (if code == 102 then Some Wait
    else (if code == 103 then Some Shield
    else (if code == 104 then Some WaitFor else None))))
wanted_of (negsuc before) = None

-- ---- the shapes of lists
-- a request with its arguments
pub data Request : Type 0 where
  OfGather : (as_items : Bool) (awaited : List ℕ) → Request
  OfWait : (over : Option WaitMode) (delay : Option ℤ) (arguments : List Argument) → Request
  OfShield : (inner : ℕ) → Request
  OfWaitFor : (on : ℕ) (delay : Option ℤ) → Request

abbrev pub both : {A B C : Type 0} → (A → B → C) → Option A → Option B → Option C
both make (Some a) (Some b) = Some (make a b)
both make _ _ = None

-- what is asked by this list, where it has the request's shape
abbrev pub requested : {S : Type 0} → State S → Wanted → List Value → Option Request
requested s (Gather as_items) xs = option_map (OfGather as_items) (as_all_awaited s xs)
requested s Wait (mode ∷ delay ∷ xs ∷ []) =
    option_and_then (λ items. option_and_then (λ awaited. both (λ number time. OfWait (mode_of number) time (paired items awaited)) (as_int mode) (as_delay delay))
    (as_all_awaited s items)) (as_list xs)
requested s Shield (x ∷ []) = option_map OfShield (as_awaited s x)
requested s WaitFor (x ∷ delay ∷ []) = both OfWaitFor (as_awaited s x) (as_delay delay)
requested s Wait _ = None
requested s Shield _ = None
requested s WaitFor _ = None

-- of this task
abbrev pub serve : Request → (task : ℕ) → Parts → Gathered → ExtraSaid Gathered
serve (OfGather as_items awaited) task p kept = gather as_items awaited p kept
serve (OfWait over delay arguments) task p kept = wait over delay arguments p kept
serve (OfShield inner) task p kept = shield inner p kept
serve (OfWaitFor on delay) task p kept = wait_for task on delay p kept

abbrev pub served : Option Request → (task : ℕ) → Parts → Gathered → ExtraSaid Gathered
served None task p kept = refuses bad_argument kept
served (Some it) task p kept = serve it task p kept

abbrev pub asked : Option Wanted → (task : ℕ) (code : ℤ) → List Value → State Gathered → ExtraSaid Gathered
asked None task code arguments s = refuses (unknown_code code) s.extra
asked (Some wanted) task code arguments s = served (requested s wanted arguments) task s.loop.parts s.extra

-- ---- what is woken, and handles that run
abbrev pub woken : Option Drawn → (place : ℕ) → Input → Parts → Gathered → ExtraSaid Gathered
woken (Some (Waits it)) place input p kept = wait_woken input it p kept
woken (Some (WaitsFor it)) place input p kept = wait_for_woken place input it p kept
woken _ place input p kept = only_says (passes input) kept

-- this future is done, for the request at this place
abbrev pub told : Option Drawn → (place future : ℕ) → Parts → Gathered → ExtraCall Gathered
told (Some (Gathers it)) place future p kept = gather_told place future it p kept
told (Some (Waits it)) place future p kept = wait_told place future it p kept
told (Some (Shields on)) place future p kept = shield_told on future p kept
told _ place future p kept = stays kept

-- its time is over
abbrev pub rung : Option Drawn → (place : ℕ) → Parts → Gathered → ExtraCall Gathered
rung (Some (Waits it)) place p kept = wait_rings it kept
rung (Some (WaitsFor it)) place p kept = wait_for_rings place it p kept
rung _ place p kept = stays kept

abbrev pub acted : Option Drawn → Parts → Gathered → ExtraCall Gathered
acted (Some (Tells place future)) p kept = told (slice_get kept.drawn place) place future p kept
acted (Some (Rings place)) p kept = rung (slice_get kept.drawn place) place p kept
acted _ p kept = stays kept

abbrev pub gather_means : Extra Gathered
gather_means =
    record {
      ask = λ task code arguments s. asked (wanted_of code) task code arguments s;
      wake = λ key input s.
          let place = place_of gather_part key in woken (slice_get s.extra.drawn place) place input s.loop.parts s.extra;
      wakes_left = λ key kept. 0;
      act = λ key s. acted (slice_get s.extra.drawn (place_of gather_part key)) s.loop.parts s.extra;
      item = λ code bytes s. stays s.extra;
      watches = λ kept. false;
      keeps = gather_keeps;
    }
