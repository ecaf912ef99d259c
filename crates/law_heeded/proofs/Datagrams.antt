-- Datagram endpoints keep to their own futures.
use Rattle.std.proofs.Common.{◌≡◌, inl, inr, ℕ, ◌<◌, ℤ, Bool, true, false, List, [], ◌∷◌, Option, Some, None, sym, refl, subst, arith}
use Rattle.std.proofs.Common.{length-append}
use Rattle.std.specs.Prelude.{if◌then◌else◌}
use Rattle.std.specs.List.{AllByRecursion as Each}
use Rattle.model_value.specs.Input.{Input}
use Rattle.model_value.specs.Value.{Value}
use Rattle.model_loop.specs.Futures.{next_future}
use Rattle.model_loop.specs.Parts.{Plain}
use Rattle.model_says.specs.Operations.{out_of_range}
use Rattle.model_machine.specs.Extra as extra
use Rattle.model_machine.specs.Extra.{ExtraCall, ExtraSaid, ExtraStep, MakesPlain, made_by_all}
use Rattle.model_machine.specs.State.{State}
use Rattle.model_reach.specs.Part.{can_draw, place_of, refuses, stays}
use Rattle.model_dgram.specs.Endpoints.{Closes, Endpoints, Offers, Opens, Receives, Sends, Waiting, dgram_keeps, dgram_part, waiting_at}
use Rattle.model_dgram.specs.Serving.{Wanted, asked_for, dgram_means, served, told, wanted_of, woken}
use Rattle.law_runs.specs.Allowed.{IsAmong}
use Rattle.law_sync.proofs.Lists.{each_from, each_on}
use Rattle.law_dgram.proofs.Holding.{Holds, holds_from, holds_on, own_holds}
use Rattle.law_dgram.proofs.Comes.{Comes, Hears, May, MayNot, OrNext, Wakes, closed_comes, offered_comes, opened_comes, receives_comes}
use Rattle.law_dgram.proofs.Comes.{sends_comes, served_comes, told_hears}
use Rattle.law_heeded.specs.Owned.{IsCallKept, KeepsToItsFutures, SettlesOwn, WasOwnOrMade}

-- values are any
abbrev Any : Value → Type 0
Any value = Unit {0}

module _ (s : State Endpoints) where
  abbrev Old : ℕ → Type 0
  Old id = IsAmong (dgram_keeps s.extra).own id

  abbrev first : ℕ
  first = next_future s.loop.parts

  abbrev Kept : (last : ℕ) → ℕ → Type 0
  Kept last = WasOwnOrMade (dgram_keeps s.extra).own first last

  holds : Holds Old s.extra.waiting
  holds = holds_from Old s.extra (each_from Old (dgram_keeps s.extra).own (λ id among. among))

  still_kept : IsCallKept dgram_means (stays s.extra) s
  still_kept = record { settles = tt; own = each_from (Kept first) (dgram_keeps s.extra).own (λ id among. inl among) }

  wakes_own : (step : ExtraStep) → Wakes Old Any step → SettlesOwn (dgram_keeps s.extra).own first step
  wakes_own (extra.Settles future outcome) wakes = inl wakes.0
  wakes_own _ wakes = absurd wakes

  -- steps that wake alone
  goes_kept : (steps : List ExtraStep) (state : Endpoints) → Each (Wakes Old Any) steps → Holds Old state.waiting
      → IsCallKept dgram_means (record { state = state; steps = steps }) s
  goes_kept steps state wakes is = record {
    settles = each_on (Wakes Old Any) (SettlesOwn (dgram_keeps s.extra).own first) wakes_own steps wakes;
    own = own_holds (Kept (next_future (made_by_all steps s.loop).parts)) state
        (holds_on Old (Kept (next_future (made_by_all steps s.loop).parts)) (λ id old. inl old) state.waiting is);
  }

  -- it waits on a future that it makes
  waits_kept : (steps : List ExtraStep) (state : Endpoints) → steps ≡ MakesPlain ∷ [] → Holds (OrNext Old Any first) state.waiting
      → IsCallKept dgram_means (record { state = state; steps = steps }) s
  waits_kept steps state is h =
      let e = length-append s.loop.parts.futures (record { kind = Plain; outcome = None; callbacks = [] } ∷ []) in
      subst (λ all. IsCallKept dgram_means (record { state = state; steps = all }) s) (sym is) (record {
        settles = (tt, tt);
        own = own_holds (Kept (next_future (made_by_all (MakesPlain ∷ []) s.loop).parts)) state
            (holds_on (OrNext Old Any first) (Kept (next_future (made_by_all (MakesPlain ∷ []) s.loop).parts)) (λ id or. at id or (omega (arith, e)))
            state.waiting h);
      })
    where
      at : (id : ℕ) → OrNext Old Any first id → first < next_future (made_by_all (MakesPlain ∷ []) s.loop).parts
          → Kept (next_future (made_by_all (MakesPlain ∷ []) s.loop).parts) id
      at id (inl old) more = inl old
      at id (inr same) more = inr (omega (arith, same), omega (arith, same, more))

  comes_kept : (may : Endpoints → Type 0) (drawn key : ℕ) (said : ExtraSaid Endpoints) → Comes Old Any may first drawn key said
      → IsCallKept dgram_means said.call s
  comes_kept may drawn key said (inl g) = goes_kept said.call.steps said.call.state g.steps g.state
  comes_kept may drawn key said (inr w) = waits_kept said.call.steps said.call.state w.steps w.state

  ask_kept : (code : ℤ) (o : Option (Option Wanted)) → IsCallKept dgram_means (asked_for code o s.loop.parts s.extra).call s
  ask_kept code None = still_kept
  ask_kept code (Some None) = still_kept
  ask_kept code (Some (Some wanted)) = at (can_draw dgram_part s.extra.drawn 1)
    where
      at : (b : Bool) → IsCallKept dgram_means (ExtraSaid.call (if b then served wanted s.loop.parts s.extra else refuses out_of_range s.extra)) s
      at true =
          comes_kept May _ _ (served wanted s.loop.parts s.extra)
          (served_comes Old Any tt (λ number. tt) (λ it. tt) s.loop.parts s.extra holds wanted)
      at false = still_kept

  module _ (key : ℕ) (input : Input) where
    abbrev place : ℕ
    place = place_of dgram_part key

    never : (said : ExtraSaid Endpoints) → Comes Old Any MayNot first s.extra.drawn key said → IsCallKept dgram_means said.call s
    never said c = comes_kept MayNot s.extra.drawn key said c

    wake_kept : (o : Option Waiting) → waiting_at place s.extra ≡ o → IsCallKept dgram_means (woken o key place input s.loop.parts s.extra).call s
    wake_kept None e = still_kept
    wake_kept (Some Opens) e =
        never (woken (Some Opens) key place input s.loop.parts s.extra)
        (opened_comes Old Any tt (λ number. tt) (λ it. tt) s.loop.parts s.extra holds key place input)
    wake_kept (Some (Offers id it)) e =
        never (woken (Some (Offers id it)) key place input s.loop.parts s.extra)
        (offered_comes Old Any tt (λ number. tt) (λ it. tt) s.loop.parts s.extra holds key place id it input (Offers id it) e)
    wake_kept (Some (Sends id it on)) e =
        comes_kept May s.extra.drawn key (woken (Some (Sends id it on)) key place input s.loop.parts s.extra)
        (sends_comes Old Any tt (λ number. tt) (λ it. tt) s.loop.parts s.extra holds May key place id it input tt (Sends id it on) e)
    wake_kept (Some (Receives id on)) e =
        never (woken (Some (Receives id on)) key place input s.loop.parts s.extra)
        (receives_comes Old Any tt (λ number. tt) (λ it. tt) s.loop.parts s.extra holds key place id input (Receives id on) e)
    wake_kept (Some Closes) e =
        never (woken (Some Closes) key place input s.loop.parts s.extra)
        (closed_comes Old Any tt (λ number. tt) (λ it. tt) s.loop.parts s.extra holds key place input)

  -- ---- what the outside tells
  hears_kept : (call : ExtraCall Endpoints) → Hears Old Any s.extra.drawn call → IsCallKept dgram_means call s
  hears_kept call h = goes_kept call.steps call.state h.steps h.state

  told_kept : (code : ℤ) (bytes : List ℕ) → IsCallKept dgram_means (told code bytes s.extra) s
  told_kept code bytes =
      hears_kept (told code bytes s.extra) (told_hears Old Any tt (λ number. tt) (λ it. tt) s.loop.parts s.extra holds code bytes)

pub dgram_keeps_to : KeepsToItsFutures dgram_means
dgram_keeps_to = record {
  ask = λ task code arguments s. ask_kept s code (wanted_of code arguments);
  wake = λ key input s. wake_kept s key input (waiting_at (place_of dgram_part key) s.extra) refl;
  act = λ key s. still_kept s;
  item = λ code bytes s. told_kept s code bytes;
}
