-- What a user relies on, out of a sound state.
use Rattle.std.proofs.Common.{◌≡◌, ℕ, List, None, Option, Some, [], ap, append-nil, arith, cond, false, refl, sym, true, ◌&&◌, ◌++◌, ◌+◌, ◌∙◌, ◌∷◌, ◌≤◌}
use Rattle.model_value.specs.Value.{exception_of, Exc, exc, excs}
use Rattle.model_loop.specs.Balance.{asked_before_exit, asks, has_taken, is_by_group, takes}
use Rattle.model_loop.specs.Entries.{entries}
use Rattle.model_loop.specs.Parts.{Profile, One, Two}
use Rattle.model_loop.specs.Groups.{Raises, body_failure, end_exit, exception_group, group_of, group_text, is_bearable, raised_of}
use Rattle.model_loop.specs.Children.{body_at_end, failures, tells}
use Rattle.law_groups.proofs.Firing.{one_handle}
use Rattle.std.proofs.lemmas.Option.{none-some}
use Rattle.law_groups.proofs.Told.{own_is}
use Rattle.model_loop.specs.Totals.{callbacks_of, pending_where, registered_at}
use Rattle.model_loop.specs.Ways.{HasOneWayOn, one_if, steps}
use Rattle.law_steps.proofs.Bridge.{one_way_on}
use Rattle.model_loop.specs.Timeouts.{is_active, timeout_of}
use Rattle.model_loop.specs.Numbered.{occurrences}
use Rattle.model_loop.specs.Deadlines.{fires_any}
use Rattle.model_loop.specs.Loop.{Loop}
use Rattle.law_steps.proofs.Looks.{follow_steps}
use Rattle.law_groups.proofs.Due.{timers_followed}
use Rattle.std.specs.List.{count_by}
use Rattle.model_loop.specs.Owning.{own_future}
use Rattle.model_loop.specs.Tasks.{future_of, lives}
use Rattle.model_loop.specs.Sound.{IsSound}
use Rattle.model_value.specs.declared.kind.Kind.TheVariants.{ExceptionGroup}

-- ---- one way on
pub one_way : (running : Option ℕ) (told : ℕ → List ℕ) (l : Loop) → IsSound running told l → HasOneWayOn running l.parts
one_way running told l s =
    one_way_on running l.parts s.parts (λ task. timers_followed l.parts s.timed (steps task) (follow_steps task))

-- ---- one handle at most
pub one_handle_at_most : (running : Option ℕ) (told : ℕ → List ℕ) (l : Loop) → IsSound running told l → (id : ℕ)
    → entries (fires_any id) l.parts ≤ one_if (is_active (timeout_of l id).state)
one_handle_at_most running told l s id = one_handle id l (record { numbered = s.numbered; tags = s.timeouts })

-- ---- a group ends after its children
module _ (running : Option ℕ) (told : ℕ → List ℕ) (l : Loop) (s : IsSound running told l) (id : ℕ) where
  pub children_done : (group_of l id).ended ≡ true → (task : ℕ) → 1 ≤ occurrences task (group_of l id).made → lives l.parts task ≡ false
  children_done e task h =
      let c = (s.groups id).kept.child_or_told task in
      let z : occurrences task (group_of l id).children ≡ 0 = ap (occurrences task) ((s.groups id).kept.none_left e) in
      (s.groups id).tellings.told_done task (omega (arith, c, z, h))

  -- it was told of each of them once
  pub told_once : (group_of l id).ended ≡ true → (task : ℕ) → occurrences task (told id) ≡ occurrences task (group_of l id).made
  told_once e task =
      let c = (s.groups id).kept.child_or_told task in
      let z : occurrences task (group_of l id).children ≡ 0 = ap (occurrences task) ((s.groups id).kept.none_left e) in
      omega (arith, c, z)

  pub at_most_once : (task : ℕ) → occurrences task (told id) ≤ 1
  at_most_once task =
      let c = (s.groups id).kept.child_or_told task in
      let o = (s.groups id).kept.made_once task in
      omega (arith, c, o)

  pub errors_at_end : (group_of l id).ended ≡ true
      → (group_of l id).errors ≡ failures l.parts (told id) ++ body_failure (group_of l id).body
  errors_at_end e =
      (s.groups id).errors ∙ ap (λ b. failures l.parts (told id) ++ body_at_end b (group_of l id).body) e

  pub errors_before : (group_of l id).ended ≡ false → (group_of l id).errors ≡ failures l.parts (told id)
  errors_before e =
      (s.groups id).errors ∙ ap (λ b. failures l.parts (told id) ++ body_at_end b (group_of l id).body) e
      ∙ append-nil (failures l.parts (told id))

  -- a child that lives will be told of once, by its own future
  pub child_tells : (task : ℕ) → lives l.parts task ≡ true → 1 ≤ occurrences task (group_of l id).children
      → count_by (tells id task) (callbacks_of l.parts (future_of l.parts task)) ≡ 1
  child_tells task living h = at (own_future l.parts task) refl
    where
      none : pending_where (tells id task) l.parts.pending ≡ 0
      none = (s.groups id).tellings.not_yet task living

      once : occurrences task (group_of l id).children ≡ 1
      once =
          let c = (s.groups id).kept.child_or_told task in
          let o = (s.groups id).kept.made_once task in
          omega (arith, c, o, h)

      at : (o : Option ℕ) → own_future l.parts task ≡ o → count_by (tells id task) (callbacks_of l.parts (future_of l.parts task)) ≡ 1
      at None e =
          let a : pending_where (tells id task) l.parts.pending + 0 ≡ occurrences task (group_of l id).children =
          ap (λ o. pending_where (tells id task) l.parts.pending + registered_at l.parts (tells id task) o) (sym e)
          ∙ (s.groups id).tellings.tellings task in
          let z = none in
          let o = once in
          absurd (omega (arith, a, z, o))
      at (Some on) e =
          let a : pending_where (tells id task) l.parts.pending + count_by (tells id task) (callbacks_of l.parts on) ≡ occurrences task
          (group_of l id).children =
          ap (λ o. pending_where (tells id task) l.parts.pending + registered_at l.parts (tells id task) o) (sym e)
          ∙ (s.groups id).tellings.tellings task in
          let z = none in
          let o = once in
          let c : count_by (tells id task) (callbacks_of l.parts on) ≡ 1 = omega (arith, a, z, o) in
          ap (λ i. count_by (tells id task) (callbacks_of l.parts i)) (own_is l.parts task on e) ∙ c

-- ---- what an exit raises
pub ends_by : (raised : List Exc) (error : Exc) → raised_of (error ∷ raised) ≡ Raises (exception_group (error ∷ raised))
ends_by raised error = refl

pub members_kept : (errors : List Exc) → is_bearable (exc ExceptionGroup group_text [] (excs errors)) ≡ true
    → exception_group errors ≡ exc ExceptionGroup group_text [] (excs errors)
members_kept errors h =
    ap (λ b. cond b (exc ExceptionGroup group_text [] (excs errors)) (exception_of ExceptionGroup group_text)) h

-- an exit that ends with failures raises them all, in that order
pub end_raises : (errors : List Exc) (id : ℕ) (l : Loop) → (kept : Option Exc) → (errors ≡ [] → kept ≡ None)
    → (end_exit kept errors id l).answer ≡ raised_of (errors ++ body_failure (group_of l id).body)
end_raises errors id l None h = refl
end_raises [] id l (Some fault) h = absurd (none-some fault (sym (h refl)))
end_raises (x ∷ xs) id l (Some fault) h = refl

-- ---- a group's request
module _ (running : Option ℕ) (told : ℕ → List ℕ) (l : Loop) (s : IsSound running told l) where
  pub asks_once : (id : ℕ) → count_by (asks (is_by_group id)) l.ledger ≡ one_if (group_of l id).requested
  asks_once id = (s.balance.groups id).asked

  taken_by : (profile : Profile) → l.profile ≡ profile → (id : ℕ)
      → count_by (takes (is_by_group id)) l.ledger ≡ one_if (has_taken profile id l.ledger (group_of l id).requested (group_of l id).ended)
  taken_by profile same id =
      (s.balance.groups id).took ∙ ap (λ it. one_if (has_taken it id l.ledger (group_of l id).requested (group_of l id).ended)) same

  pub takes_in_one : l.profile ≡ One → (id : ℕ) → count_by (takes (is_by_group id)) l.ledger ≡ one_if (asked_before_exit id l.ledger)
  takes_in_one = taken_by One

  pub takes_in_two : l.profile ≡ Two → (id : ℕ)
      → count_by (takes (is_by_group id)) l.ledger ≡ one_if ((group_of l id).ended && (group_of l id).requested)
  takes_in_two = taken_by Two
