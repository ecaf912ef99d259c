-- What outcomes of a gather name was made.
use Rattle.std.proofs.Common.{◌≡◌, ℕ, ◌-◌, Bool, true, false, ◌&&◌, not, List, [], ◌∷◌, Option, Some, None, Result, Ok, Err, refl}
use Rattle.std.specs.Prelude.{nat_le, if◌then◌else◌, ◌==◌}
use Rattle.std.specs.Option.{option_and_then, option_map_or}
use Rattle.std.proofs.lemmas.Bool.{and_from}
use Rattle.model_value.specs.Value.{Value, Exc, Items, Nothing, Outcome, values}
use Rattle.model_value.specs.Weight.{weight_of}
use Rattle.model_value.specs.Depth.{depth_of}
use Rattle.model_value.specs.declared.outcome.Outcome.TheVariants.{Value as Returned, Failed, Cancelled}
use Rattle.model_says.specs.Operations.{deepest, heaviest, out_of_range}
use Rattle.model_loop.specs.Futures.{future_outcome}
use Rattle.model_loop.specs.Parts.{Parts}
use Rattle.model_machine.specs.Sound.{Ids, all_made, names_made}
use Rattle.law_runs.specs.Allowed.{ends_made}
use Rattle.model_gather.specs.Gathered.{Gathering}
use Rattle.model_gather.specs.Gather.{count, count_all, decided, first_of, is_value, item_of, items_of, result_of}

-- what a count decides
abbrev pub AreMade : (n : Ids) → Option Outcome → Type 0
AreMade n None = Unit {0}
AreMade n (Some outcome) = ends_made n outcome ≡ true

module _ (n : Ids) (p : Parts) (made : (id : ℕ) (value : Value) → future_outcome p id ≡ Some (Returned value) → names_made n value ≡ true) where
  item_made : (o : Option Outcome) → ((value : Value) → o ≡ Some (Returned value) → names_made n value ≡ true)
      → names_made n (option_map_or item_of o Nothing) ≡ true
  item_made None h = refl
  item_made (Some (Returned value)) h = h value refl
  item_made (Some (Failed exception)) h = refl
  item_made (Some Cancelled) h = refl

  pub items_made : (awaited : List ℕ) → all_made n (values (items_of p awaited)) ≡ true
  items_made [] = refl
  items_made (id ∷ ids) = and_from _ _ (item_made (future_outcome p id) (λ value e. made id value e)) (items_made ids)

  abbrev judged : Bool → List ℕ → Result Value Exc
  judged b awaited = if b then Ok (Items (values (items_of p awaited))) else Err out_of_range

  result_made : (awaited : List ℕ) → ends_made n (result_of (items_of p awaited)) ≡ true
  result_made awaited =
      at (nat_le (weight_of (Items (values (items_of p awaited)))) heaviest && nat_le (depth_of (Items (values (items_of p awaited)))) deepest)
    where
      at : (b : Bool) → ends_made n (elim (judged b awaited) [ Ok value ↦ Returned value | Err exception ↦ Failed exception ]) ≡ true
      at true = items_made awaited
      at false = refl

  decided_made : (asked : Bool) (outcome : Outcome) → ends_made n outcome ≡ true → (it : Gathering) → AreMade n (decided p asked outcome it)
  decided_made asked outcome h it = at (not it.as_items && not (is_value outcome)) (it.left == 0) asked
    where
      at : (fails none asked : Bool)
          → AreMade n (if fails then Some outcome
          else (if none then Some (if asked then Cancelled else result_of (items_of p it.awaited)) else None))
      at true none asked = h
      at false true true = refl
      at false true false = result_made it.awaited
      at false false asked = tt

  pub count_made : (asked : Bool) (member : ℕ) (it : Gathering) → AreMade n (count p asked member it).outcome
  count_made asked member it = at (future_outcome p member) (λ value e. made member value e)
    where
      ends : (outcome : Outcome) → ((value : Value) → Some outcome ≡ Some (Returned value) → names_made n value ≡ true) → ends_made n outcome ≡ true
      ends (Returned value) h = h value refl
      ends (Failed exception) h = refl
      ends Cancelled h = refl

      at : (o : Option Outcome) → ((value : Value) → o ≡ Some (Returned value) → names_made n value ≡ true)
          → AreMade n (option_and_then (λ outcome. decided p asked outcome (record it { left = it.left - 1 })) o)
      at None h = tt
      at (Some outcome) h = decided_made asked outcome (ends outcome h) (record it { left = it.left - 1 })

  pub counts_made : (asked : Bool) (members : List ℕ) (it : Gathering) → AreMade n (count_all p asked members it).outcome
  counts_made asked [] it = tt
  counts_made asked (member ∷ members) it =
      at (count p asked member it).outcome (count_all p asked members (count p asked member it).now).outcome (count_made asked member it)
      (counts_made asked members (count p asked member it).now)
    where
      at : (first others : Option Outcome) → AreMade n first → AreMade n others → AreMade n (first_of first others)
      at None others a b = b
      at (Some outcome) others a b = a

-- what a gather is, stays
pub count_keeps : (p : Parts) (asked : Bool) (members : List ℕ) (it : Gathering)
    → ((count_all p asked members it).now.awaited ≡ it.awaited) × ((count_all p asked members it).now.outer ≡ it.outer)
count_keeps p asked [] it = (refl, refl)
count_keeps p asked (member ∷ members) it = count_keeps p asked members (count p asked member it).now
