-- A request that is woken and waits again does so under its key, on what is pending, or it asks the outside, which a sender does once.
use Rattle.std.proofs.Common.{◌≡◌, ℕ, ◌<◌, ◌⊎◌, inl, inr, Bool, true, false, cond, List, [], ◌∷◌, Option, Some, None, refl, sym, ap, subst, ◌∙◌, arith}
use Rattle.std.specs.Prelude.{is_some}
use Rattle.std.specs.Map.{lookup, set_value}
use Rattle.std.specs.Option.{option_map_or}
use Rattle.std.proofs.lemmas.Bool.{false≢true}
use Rattle.model_value.specs.Input.{Input}
use Rattle.model_value.specs.declared.input.Input.TheVariants.{Send, Throw}
use Rattle.model_loop.specs.Futures.{future_outcome, next_future, outcome_at}
use Rattle.model_loop.specs.Parts.{Plain}
use Rattle.model_machine.specs.Extra.{Answers, Asks, ExtraAnswer, ExtraSaid, KeepsKeys, Raises, Waits, WakesFall, called, is_woken_at_once, key_of, made_by_all}
use Rattle.model_machine.specs.State.{State}
use Rattle.model_reach.specs.Part.{only_says, passes, place_of}
use Rattle.law_cancel.proofs.Lookups.{get-push_last}
use Rattle.model_sync.specs.Synced.{is_place}
use Rattle.model_dgram.specs.Endpoints.{Closes, Endpoints, Offers, Opens, Receives, Sends, Waiting, dgram_keeps, dgram_part, waiting_at}
use Rattle.model_dgram.specs.Serving.{dgram_means, wakes_left, woken}
use Rattle.law_sync.proofs.Falling.{Any, any_each}
use Rattle.law_dgram.proofs.Holding.{Holds, holds_from}
use Rattle.law_dgram.proofs.Comes.{AnswerHolds, Comes, MayNot, closed_comes, offered_comes, opened_comes, receives_comes, sends_comes}

pub any_holds : (kept : Endpoints) → Holds Any kept.waiting
any_holds kept = holds_from Any kept (any_each (dgram_keeps kept).own)

-- one that is found and replaced is found as it is then
pub found_replaced : {A : Type 0} (test : ℕ → Bool) (xs : List (ℕ × A)) (old new : A) → lookup test xs ≡ Some old
    → lookup test (set_value test xs new) ≡ Some new
found_replaced test [] old new e = absurd (cc)
found_replaced {A} test (x ∷ xs) old new e = at (λ g. found_replaced test xs old new g) (test x.0) refl e
  where
    at : (lookup test xs ≡ Some old → lookup test (set_value test xs new) ≡ Some new) → (b : Bool) → test x.0 ≡ b
        → cond b (Some x.1) (lookup test xs) ≡ Some old → lookup test (cond b ((x.0, new) ∷ xs) (x ∷ set_value test xs new)) ≡ Some new
    at rest true is e = ap (λ c. cond c (Some new) (lookup test xs)) is
    at rest false is e = ap (λ c. cond c (Some x.1) (lookup test (set_value test xs new))) is ∙ rest e

-- what is left of its wakes then
abbrev left_at : (key : ℕ) → Endpoints → ℕ
left_at key kept = wakes_left (waiting_at (place_of dgram_part key) kept)

-- it asks the outside where this is so, or is not woken at once
abbrev WaitsAgain : (key : ℕ) → (may : Endpoints → Type 0) → State Endpoints → ExtraSaid Endpoints → Type 0
WaitsAgain key may s said =
    ((next : ℕ) → key_of said.answer ≡ Some next → next ≡ key)
    × (may said.call.state ⊎ (is_woken_at_once said.answer (called said.call s).loop ≡ false))

over : (key : ℕ) (may : Endpoints → Type 0) (s : State Endpoints) (said : ExtraSaid Endpoints)
    → AnswerHolds Any Any (may said.call.state) key said.answer → WaitsAgain key may s said
over key may s said h = at said.answer h
  where
    at : (answer : ExtraAnswer) → AnswerHolds Any Any (may said.call.state) key answer
        → ((next : ℕ) → key_of answer ≡ Some next → next ≡ key)
        × (may said.call.state ⊎ (is_woken_at_once answer (called said.call s).loop ≡ false))
    at (Answers value) h = (λ next e. absurd (cc), inr refl)
    at (Raises exception) h = (λ next e. absurd (cc), inr refl)
    at (Waits on other) h = absurd h
    at (Asks code bytes other) h = (λ next e. ap (λ o. option_map_or (λ (k : ℕ). k) o key) (sym e) ∙ sym h.1, inl h.0)

comes : (key : ℕ) (may : Endpoints → Type 0) (s : State Endpoints) (said : ExtraSaid Endpoints)
    → Comes Any Any may (next_future s.loop.parts) s.extra.drawn key said → WaitsAgain key may s said
comes key may s said (inl g) = over key may s said g.answer
comes key may s said (inr w) = (
  λ next e. ap (λ o. option_map_or (λ (k : ℕ). k) o key) (sym e ∙ ap key_of w.answer),
  inr (ap (λ answer. is_woken_at_once answer (called said.call s).loop) w.answer
      ∙ ap (λ steps. is_some (future_outcome (made_by_all steps s.loop).parts (next_future s.loop.parts))) w.steps
      ∙ ap (λ o. is_some (outcome_at o)) (get-push_last s.loop.parts.futures (record { kind = Plain; outcome = None; callbacks = [] }))),
)

passed : (key : ℕ) (may : Endpoints → Type 0) (input : Input) (s : State Endpoints) → WaitsAgain key may s (only_says (passes input) s.extra)
passed key may (Send value) s = over key may s (only_says (passes (Send value)) s.extra) tt
passed key may (Throw exception) s = over key may s (only_says (passes (Throw exception)) s.extra) tt

module _ (key : ℕ) (input : Input) (s : State Endpoints) where
  abbrev place : ℕ
  place = place_of dgram_part key

  -- fewer wakes are left
  abbrev Fewer : Endpoints → Type 0
  Fewer state = left_at key state < left_at key s.extra

  abbrev Again : ExtraSaid Endpoints → Type 0
  Again said = WaitsAgain key Fewer s said

  never : (said : ExtraSaid Endpoints) → Comes Any Any MayNot (next_future s.loop.parts) s.extra.drawn key said → Again said
  never said c = let w = comes key MayNot s said c in (w.0, at w.1)
    where
      at : ⊥ ⊎ (is_woken_at_once said.answer (called said.call s).loop ≡ false)
          → Fewer said.call.state ⊎ (is_woken_at_once said.answer (called said.call s).loop ≡ false)
      at (inl never_) = absurd never_
      at (inr e) = inr e

  again : (o : Option Waiting) → waiting_at place s.extra ≡ o → Again (woken o key place input s.loop.parts s.extra)
  again None e = passed key Fewer input s
  again (Some Opens) e =
      never (woken (Some Opens) key place input s.loop.parts s.extra)
      (opened_comes Any Any tt (λ n. tt) (λ it. tt) s.loop.parts s.extra (any_holds s.extra) key place input)
  again (Some (Offers id it)) e =
      never (woken (Some (Offers id it)) key place input s.loop.parts s.extra)
      (offered_comes Any Any tt (λ n. tt) (λ it. tt) s.loop.parts s.extra (any_holds s.extra) key place id it input (Offers id it) e)
  again (Some (Sends id it on)) e =
      comes key Fewer s (woken (Some (Sends id it on)) key place input s.loop.parts s.extra)
      (sends_comes Any Any tt (λ n. tt) (λ it. tt) s.loop.parts s.extra (any_holds s.extra) Fewer key place id it input
      (subst (λ o. wakes_left o < left_at key s.extra) (sym (found_replaced (is_place place) s.extra.waiting (Sends id it on) (Offers id it) e))
      (subst (λ o. 0 < wakes_left o) (sym e) (omega arith))) (Sends id it on) e)
  again (Some (Receives id on)) e =
      never (woken (Some (Receives id on)) key place input s.loop.parts s.extra)
      (receives_comes Any Any tt (λ n. tt) (λ it. tt) s.loop.parts s.extra (any_holds s.extra) key place id input (Receives id on) e)
  again (Some Closes) e =
      never (woken (Some Closes) key place input s.loop.parts s.extra)
      (closed_comes Any Any tt (λ n. tt) (λ it. tt) s.loop.parts s.extra (any_holds s.extra) key place input)

  falls : (said : ExtraSaid Endpoints) → Again said → (next : ℕ) → key_of said.answer ≡ Some next
      → is_woken_at_once said.answer (called said.call s).loop ≡ true → left_at next said.call.state < left_at key s.extra
  falls said a next e once = subst (λ k. left_at k said.call.state < left_at key s.extra) (sym (a.0 next e)) (at a.1)
    where
      at : Fewer said.call.state ⊎ (is_woken_at_once said.answer (called said.call s).loop ≡ false) → Fewer said.call.state
      at (inl fewer) = fewer
      at (inr not_) = absurd (false≢true (sym not_ ∙ once))

pub dgram_falls : WakesFall dgram_means
dgram_falls = λ key input s next e once.
    falls key input s (dgram_means.wake key input s) (again key input s (waiting_at (place_of dgram_part key) s.extra) refl) next e once

pub dgram_same : KeepsKeys dgram_means
dgram_same = λ key input s next e. (again key input s (waiting_at (place_of dgram_part key) s.extra) refl).0 next e
