-- What a group holds is the machine's, and stays so where a flag of it changes.
use Rattle.std.proofs.Common.{◌≡◌, Bool, true, false, [], ◌∷◌, Option, Some, None, refl, ap, sym}
use Rattle.std.specs.Prelude.{if◌then◌else◌}
use Rattle.std.proofs.lemmas.Bool.{false≢true}
use Rattle.model_value.specs.Value.{Exc}
use Rattle.model_loop.specs.Groups.{body_failure, only_cancelled}
use Rattle.model_loop.specs.Loop.{Group}
use Rattle.model_loop.specs.Parts.{Parts}
use Rattle.model_loop.specs.Tasks.{is_cancelled}
use Rattle.aio_task.specs.Keeps.{NameMap}
use Rattle.aio_group.specs.Held.{Held, failing, listed}
use Rattle.aio_group.specs.Stands.{KeepsGroup}

-- what is held of a group is the machine's
module _ {t : NameMap} {p : Parts} {held : Held} {group : Group} (is : KeepsGroup t p held group) where
  pub children_same : held.children ≡ group.children
  children_same = ap (λ (g : Group). g.children) is.same

  pub parent_same : held.parent ≡ group.parent
  parent_same = ap (λ (g : Group). g.parent) is.same

  pub aborting_same : held.aborting ≡ group.aborting
  aborting_same = ap (λ (g : Group). g.aborting) is.same

  pub requested_same : held.requested ≡ group.requested
  requested_same = ap (λ (g : Group). g.requested) is.same

  pub exit_same : held.exit_future ≡ group.exit_future
  exit_same = ap (λ (g : Group). g.exit_future) is.same

  -- ---- a flag changes
  pub enters : KeepsGroup t p (record held { entered = true }) (record group { entered = true })
  enters = record {
    same = ap (λ (g : Group). record g { entered = true }) is.same;
    children = is.children;
    failed = is.failed;
    faults = λ going. let f = is.faults going in record { errors = f.errors; body = f.body; kept = f.kept };
    early = is.early;
    late = is.late;
  }

  pub aborts : KeepsGroup t p (record held { aborting = true }) (record group { aborting = true })
  aborts = record {
    same = ap (λ (g : Group). record g { aborting = true }) is.same;
    children = is.children;
    failed = is.failed;
    faults = λ going. let f = is.faults going in record { errors = f.errors; body = f.body; kept = f.kept };
    early = is.early;
    late = is.late;
  }

  pub requests : KeepsGroup t p (record held { requested = true }) (record group { requested = true })
  requests = record {
    same = ap (λ (g : Group). record g { requested = true }) is.same;
    children = is.children;
    failed = is.failed;
    faults = λ going. let f = is.faults going in record { errors = f.errors; body = f.body; kept = f.kept };
    early = is.early;
    late = is.late;
  }

  pub keeps_this : (kept : Option Exc) → KeepsGroup t p (record held { kept = kept }) (record group { kept = kept })
  keeps_this kept = record {
    same = is.same;
    children = is.children;
    failed = is.failed;
    faults = λ going. let f = is.faults going in record { errors = f.errors; body = f.body; kept = refl };
    early = is.early;
    late = is.late;
  }

  pub wakes_up : KeepsGroup t p (record held { exit_future = None }) (record group { exit_future = None })
  wakes_up = record {
    same = ap (λ (g : Group). record g { exit_future = None }) is.same;
    children = is.children;
    failed = is.failed;
    faults = λ going. let f = is.faults going in record { errors = f.errors; body = f.body; kept = f.kept };
    early = λ e. ((is.early e).0, refl);
    late = λ _. refl;
  }

  pub begins : (raised : Option Exc)
      → KeepsGroup t p (record held { exiting = true; body = failing raised; kept = only_cancelled raised })
      (record group { exiting = true; body = raised; kept = only_cancelled raised })
  begins raised = record {
    same = ap (λ (g : Group). record g { exiting = true }) is.same;
    children = is.children;
    failed = is.failed;
    faults = λ going. record { errors = (is.faults going).errors; body = body_of raised; kept = refl };
    early = λ e. absurd (false≢true (sym e));
    late = is.late;
  }
    where
      body_in : (fault : Exc) (b : Bool) → listed (if b then None else Some fault) ≡ (if b then [] else fault ∷ [])
      body_in fault true = refl
      body_in fault false = refl

      body_of : (raised : Option Exc) → listed (failing raised) ≡ body_failure raised
      body_of None = refl
      body_of (Some fault) = body_in fault (is_cancelled fault)
