-- Where each timeout of the machine has its tag to itself, no handle that is kept steps a task.
use Rattle.std.proofs.Common.{◌≡◌, ℕ, ◌+◌, ◌<◌, ◌⊎◌, Bool, true, false, not, cond, ◌&&◌, ◌==◌, List, [], ◌∷◌, Option, Some, None, length, map, slice_get}
use Rattle.std.proofs.Common.{slice_index_or, refl, ap, sym, ◌∙◌, arith, inl, inr}
use Rattle.std.specs.List.{AllByRecursion, list_any}
use Rattle.std.proofs.lemmas.Bool.{cases_Bool, eq-eqb, false≢true, and_from, and_parts, or_from}
use Rattle.std.proofs.lemmas.List.Sums.{sum_by-cons}
use Rattle.std.proofs.lemmas.Option.{slice_get_within, get_or_from_slice_get}
use Rattle.model_value.specs.Action.{Action}
use Rattle.model_value.specs.declared.action.Action.TheVariants.{Step, StepInCycle, Wakeup}
use Rattle.model_loop.specs.Parts as plain
use Rattle.model_loop.specs.Parts.{Parts}
use Rattle.model_loop.specs.Loop.{Loop}
use Rattle.model_loop.specs.Timeouts.{timeout_of}
use Rattle.model_loop.specs.Deadlines.{fires, others_as, HasTag}
use Rattle.model_loop.specs.Entries.{handles_where, entries}
use Rattle.aio_ready.specs.declared.handle.HandleId.{HandleId}
use Rattle.aio_ready.specs.declared.handle.HandleName.{HandleName}
use Rattle.aio_ready.specs.Names.{is_same}
use Rattle.aio_task.specs.View.{View, is_step, steps_as, NamesNoStep}
use Rattle.aio_task.specs.Keeps.{NameMap, Keeps, Knows, ByHandle, handle_as, name_of}
use Rattle.aio_timeout.specs.declared.handler.TimeoutHandler.{TimeoutHandler}
use Rattle.aio_timeout.specs.declared.handler.TimeoutHandler.TheVariants.{Soon, At}
use Rattle.aio_timeout.specs.declared.timeout.Timeout.{Timeout}
use Rattle.aio_timeout.specs.Kept.{IsHandler, KeepsTimeouts, StepsNone, handler_at}
use Rattle.refine_parts.proofs.Appending.{waiting_kept}
use Rattle.refine_parts.proofs.Naming.{tags_pending}
use Rattle.aio_timeout.proofs.Keeping.{timeout_is}

step_fires_none : (id : ℕ) (action : Action) → is_step action ≡ true → not (fires id action) ≡ true
step_fires_none id (Step task) h = refl
step_fires_none id (StepInCycle task cycle) h = refl
step_fires_none id (Wakeup task) h = refl
step_fires_none id _ h = absurd (false≢true h)

module _ (t : NameMap) (v : View) (p : Parts) (id tag : ℕ) (handle : HandleId) (keeps : Keeps t v p) (knows : Knows t p tag (ByHandle handle)) where
  -- of a handle with a tag that was given, the name tells the tag
  tag_named : (other : plain.Handle) → other.tag < p.next_tag → is_same handle.name (name_of (t.known other.tag)) ≡ true → tag ≡ other.tag
  tag_named other given h =
      keeps.names.own tag other.tag knows.given given
      (ap (λ (n : HandleName). is_same n (name_of (t.known other.tag))) (ap name_of knows.known) ∙ h)

  one : (other : plain.Handle) → other.tag < p.next_tag
      → (not other.dead && others_as id tag other.tag other.action) ≡ false
      → steps_as handle.name (handle_as t.known other) ≡ false
  one other given none = go (cases_Bool (steps_as handle.name (handle_as t.known other)))
    where
      go : (steps_as handle.name (handle_as t.known other) ≡ true) ⊎ (steps_as handle.name (handle_as t.known other) ≡ false)
          → steps_as handle.name (handle_as t.known other) ≡ false
      go (inr h) = h
      go (inl h) =
          let named = and_parts (is_same handle.name (name_of (t.known other.tag))) (not other.dead && is_step other.action) h in
          let live = and_parts (not other.dead) (is_step other.action) named.1 in
          let same : (other.tag == tag) ≡ true = eq-eqb other.tag tag (sym (tag_named other given named.0)) in
          let counted : (not other.dead && others_as id tag other.tag other.action) ≡ true =
          and_from (not other.dead) (others_as id tag other.tag other.action) live.0
          (and_from (other.tag == tag) (not (fires id other.action)) same (step_fires_none id other.action live.1)) in
          absurd (false≢true (sym none ∙ counted))

  none_of : (handles : List plain.Handle) → AllByRecursion (λ (h : plain.Handle). h.tag < p.next_tag) handles
      → handles_where (others_as id tag) handles ≡ 0
      → list_any (steps_as handle.name) (map (handle_as t.known) handles) ≡ false
  none_of [] given none = refl
  none_of (other ∷ handles) given none =
      or_from (steps_as handle.name (handle_as t.known other)) (list_any (steps_as handle.name) (map (handle_as t.known) handles))
      (one other given.0 (first (not other.dead && others_as id tag other.tag other.action) counted))
      (none_of handles given.1 (omega (arith, counted)))
    where
      counted : cond (not other.dead && others_as id tag other.tag other.action) 1 0 + handles_where (others_as id tag) handles ≡ 0
      counted =
          sym (sum_by-cons (λ (h : plain.Handle). cond (not h.dead && others_as id tag h.tag h.action) 1 0) other handles) ∙ none

      first : (b : Bool) → cond b 1 0 + handles_where (others_as id tag) handles ≡ 0 → b ≡ false
      first false e = refl
      first true e = absurd (omega (arith, e))

  names_no_step : entries (others_as id tag) p ≡ 0 → NamesNoStep handle.name v.queue
  names_no_step none =
      ap (list_any (steps_as handle.name)) (waiting_kept t v p keeps)
      ∙ none_of p.pending (tags_pending p keeps.numbered) (omega (arith, none))

pub handlers_step_none : (t : NameMap) (v : View) (l : Loop) (timeouts : List Timeout) → KeepsTimeouts t timeouts v l
    → ((id : ℕ) → HasTag l.parts id (timeout_of l id))
    → (id : ℕ) → StepsNone v.queue (handler_at id timeouts)
handlers_step_none t v l timeouts keeps tags id = at (slice_get timeouts id) refl
  where
    handler : (timeout : Timeout) (h : Option TimeoutHandler) (tag : Option ℕ) → IsHandler t l.parts h tag → (timeout_of l id).tag ≡ tag
        → StepsNone v.queue h
    handler timeout None tag is e = tt
    handler timeout (Some (At timer)) tag is e = tt
    handler timeout (Some (Soon handle)) None is e = absurd is
    handler timeout (Some (Soon handle)) (Some tag) is e =
        names_no_step t v l.parts id tag handle keeps.parts is.0 ((tags id).own tag e)

    at : (o : Option Timeout) → slice_get timeouts id ≡ o → StepsNone v.queue (handler_at id timeouts)
    at None e = rw e tt
    at (Some timeout) e =
        let within : id < length timeouts = slice_get_within timeouts id timeout e in
        let read : timeout ≡ slice_index_or timeouts id timeout = sym (get_or_from_slice_get timeouts id timeout timeout e) in
        rw e (handler timeout timeout.handler (timeout_of l id).tag
        (timeout_is t l timeouts id timeout keeps.timeouts within read).handler refl)
