-- Waits for several futures go by no answer that is still to come: of the state, a request reads its arguments' futures alone.
use Rattle.std.proofs.Common.{◌≡◌, ℕ, ℤ, List, [], ◌∷◌, Option, Some, None, refl, ap}
use Rattle.std.specs.Option.{option_and_then, option_map}
use Rattle.model_value.specs.Value.{Value}
use Rattle.model_wire.specs.Journal.{Entry}
use Rattle.model_machine.specs.Arguments.{as_awaited, as_delay, as_int, as_list}
use Rattle.model_machine.specs.State.{State}
use Rattle.model_gather.specs.Gathered.{Gathered, as_all_awaited, paired}
use Rattle.model_gather.specs.Serving.{Request, OfGather, OfWait, Wanted, Gather, Wait, Shield, WaitFor, asked, both, gather_means, requested, served, wanted_of}
use Rattle.model_gather.specs.Wait.{mode_of}
use Rattle.law_replay.specs.Foreseeing.{ForeseesNothing}

module _ (s : State Gathered) (left : List Entry) where
  abbrev after : State Gathered
  after = record s { answers = left }

  all_awaited : (xs : List Value) → as_all_awaited after xs ≡ as_all_awaited s xs
  all_awaited [] = refl
  all_awaited (x ∷ xs) =
      ap (λ (others : Option (List ℕ)).
      elim (as_awaited s x) [ None ↦ None | Some id ↦ elim others [ None ↦ None | Some ids ↦ Some (id ∷ ids) ] ]) (all_awaited xs)

  abbrev waits : (mode delay : Value) (items : List Value) → Option (List ℕ) → Option Request
  waits mode delay items all =
      option_and_then (λ awaited. both (λ number time. OfWait (mode_of number) time (paired items awaited)) (as_int mode) (as_delay delay)) all

  waits_for : (mode delay : Value) (o : Option (List Value))
      → option_and_then (λ items. waits mode delay items (as_all_awaited after items)) o
      ≡ option_and_then (λ items. waits mode delay items (as_all_awaited s items)) o
  waits_for mode delay None = refl
  waits_for mode delay (Some items) = ap (waits mode delay items) (all_awaited items)

  requests : (wanted : Wanted) (xs : List Value) → requested after wanted xs ≡ requested s wanted xs
  requests (Gather as_items) xs = ap (option_map (OfGather as_items)) (all_awaited xs)
  requests Wait [] = refl
  requests Wait (mode ∷ []) = refl
  requests Wait (mode ∷ delay ∷ []) = refl
  requests Wait (mode ∷ delay ∷ xs ∷ []) = waits_for mode delay (as_list xs)
  requests Wait (mode ∷ delay ∷ xs ∷ more ∷ others) = refl
  requests Shield [] = refl
  requests Shield (x ∷ []) = refl
  requests Shield (x ∷ more ∷ others) = refl
  requests WaitFor [] = refl
  requests WaitFor (x ∷ []) = refl
  requests WaitFor (x ∷ delay ∷ []) = refl
  requests WaitFor (x ∷ delay ∷ more ∷ others) = refl

  asks : (task : ℕ) (code : ℤ) (xs : List Value) (o : Option Wanted) → asked o task code xs after ≡ asked o task code xs s
  asks task code xs None = refl
  asks task code xs (Some wanted) =
      ap (λ (it : Option Request). served it task s.loop.parts s.extra) (requests wanted xs)

pub gather_foresees : ForeseesNothing gather_means
gather_foresees = record {
  ask = λ task code arguments s left. asks s left task code arguments (wanted_of code);
  wake = λ key input s left. refl;
  act = λ key s left. refl;
  item = λ code bytes s left. refl;
}
