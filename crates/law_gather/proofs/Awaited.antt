-- What is awaited was made, and may be.
use Rattle.std.proofs.Common.{◌≡◌, ℕ, zero, suc, ◌<◌, true, List, [], ◌∷◌, Option, Some, None, length, slice_get, inl, inr, refl, sym, ap, ◌∙◌, arith}
use Rattle.std.specs.Prelude.{not, ◌==◌}
use Rattle.std.specs.List.{AllByRecursion as Each, list_all}
use Rattle.std.specs.Option.{option_map_or}
use Rattle.std.proofs.lemmas.Bool.{and_parts, ltb-true}
use Rattle.model_value.specs.Value.{Value, Fut, Task as TaskValue}
use Rattle.model_loop.specs.Futures.{next_future}
use Rattle.model_loop.specs.Owning.{own_future}
use Rattle.model_loop.specs.Parts.{Parts, Task}
use Rattle.model_loop.specs.Tasks.{future_of, next_task}
use Rattle.model_machine.specs.Arguments.{as_awaited}
use Rattle.model_machine.specs.Extra.{Extra}
use Rattle.model_machine.specs.Sound.{IsAwaitable, ids_of, names_made}
use Rattle.model_machine.specs.State.{State}
use Rattle.law_replies.proofs.Counts.{own_there}
use Rattle.law_steps.proofs.CancelSound.{plain_within}
use Rattle.law_runs.specs.Allowed.{MayCall}
use Rattle.model_gather.specs.Gathered.{as_all_awaited, distinct}
use Rattle.law_gather.proofs.Lists.{each_filter}

module _ {S : Type 0} (added : Extra S) (running : Option ℕ) (s : State S) (may : MayCall added running s) where
  abbrev p : Parts
  p = s.loop.parts

  -- it may be awaited, and was made
  abbrev pub IsThere : ℕ → Type 0
  IsThere id = IsAwaitable s.futures s.loop.parts id × (id < next_future p)

  own_of : (tasks : List Task) (task next : ℕ) → task < length tasks
      → (it : Task) × (slice_get tasks task ≡ Some it)
  own_of [] task next h = absurd (omega (arith, h))
  own_of (it ∷ tasks) zero next h = (it, refl)
  own_of (it ∷ tasks) (suc task) next h = own_of tasks task next (omega (arith, h))

  task_there : (task : ℕ) → task < next_task p → IsThere (future_of p task)
  task_there task h =
      let it = own_of p.tasks task 0 h in
      let own : own_future p task ≡ Some it.0.future = ap (λ o. elim o [ None ↦ None | Some t ↦ Some t.future ]) it.1 in
      let is : future_of p task ≡ it.0.future = ap (λ o. option_map_or (λ (t : Task). t.future) o (next_future p)) it.1 in
      (inr (task, own ∙ ap Some (sym is)), own_there p may.loop.parts.owns task h)

  fut_there : (place id : ℕ) → slice_get s.futures place ≡ Some id → IsThere id
  fut_there place id e = (inl (place, e), (plain_within p id (may.scripts place id e)).1)

  abbrev pub AreThere : Option (List ℕ) → Type 0
  AreThere None = Unit {0}
  AreThere (Some ids) = Each IsThere ids

  abbrev pub IfThere : Option ℕ → Type 0
  IfThere None = Unit {0}
  IfThere (Some id) = IsThere id

  pub one_there : (x : Value) → names_made (ids_of s) x ≡ true → IfThere (as_awaited s x)
  one_there (Fut id) h = at (slice_get s.futures id) refl
    where
      at : (o : Option ℕ) → slice_get s.futures id ≡ o → IfThere o
      at None e = tt
      at (Some on) e = fut_there id on e
  one_there (TaskValue id) h = task_there id (ltb-true id (next_task p) h)
  one_there _ h = tt

  pub all_there : (xs : List Value) → list_all (names_made (ids_of s)) xs ≡ true → AreThere (as_all_awaited s xs)
  all_there [] h = tt
  all_there (x ∷ xs) h =
      let b = and_parts (names_made (ids_of s) x) (list_all (names_made (ids_of s)) xs) h in
      at (as_awaited s x) (as_all_awaited s xs) (one_there x b.0) (all_there xs b.1)
    where
      at : (o : Option ℕ) (ids : Option (List ℕ)) → IfThere o → AreThere ids
          → AreThere (elim o [ None ↦ None | Some id ↦ elim ids [ None ↦ None | Some others ↦ Some (id ∷ others) ] ])
      at None ids a b = tt
      at (Some id) None a b = tt
      at (Some id) (Some others) a b = (a, b)

pub distinct_each : (P : ℕ → Type 0) (ids : List ℕ) → Each P ids → Each P (distinct ids)
distinct_each P [] a = tt
distinct_each P (id ∷ ids) a = (a.0, each_filter P (λ other. not (other == id)) (distinct ids) (distinct_each P ids a.1))
