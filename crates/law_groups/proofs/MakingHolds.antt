-- A new future that is no task's keeps what holds of the parts and of all groups.
use Rattle.std.proofs.Common.{◌≡◌, ℕ, List, None, Option, ap, refl, sym, ◌++◌, ◌∙◌}
use Rattle.model_loop.specs.Groups.{failure_in}
use Rattle.model_loop.specs.Parts.{FutureKind, Parts}
use Rattle.std.specs.List.{count_by}
use Rattle.law_groups.proofs.Told.{SameToGroups, failures_kept, framed_told}
use Rattle.law_groups.specs.Holds.{Holds}
use Rattle.model_loop.specs.Futures.{make_future, outcome_at}
use Rattle.model_loop.specs.Owning.{owner_in}
use Rattle.model_loop.specs.Children.{body_at_end, tells}
use Rattle.model_loop.specs.Loop.{Group}
use Rattle.model_loop.specs.Sound.{ArePartsSound}
use Rattle.law_steps.proofs.Making.{called_same, make_sound, own_seen, plain_old, made_living}

module _ (kind : FutureKind) (free : owner_in kind ≡ None) (running excused : Option ℕ) (p : Parts) (is : ArePartsSound running excused p) where
  to_groups : SameToGroups p (make_future kind p)
  to_groups = record {
    pending = λ group t. refl;
    registered = λ group t on. ap (count_by (tells group t)) (called_same kind free running excused p is on);
    owned = λ t. refl;
    living = made_living kind free running excused p is;
    tasks = refl;
  }

  pub make_holds : (told heard : ℕ → List ℕ) (groups : ℕ → Group) → Holds running excused told heard groups p
      → Holds running excused told heard groups (make_future kind p)
  make_holds told heard groups h = record {
    parts = make_sound kind free running excused p is;
    tellings = λ id. framed_told p (make_future kind p) to_groups id (told id) (groups id) (h.tellings id);
    heards = h.heards;
    errors = λ id. h.errors id
        ∙ ap (λ l. l ++ body_at_end (groups id).ended (groups id).body)
        (sym (failures_kept p (make_future kind p) (heard id) (λ t o. own_seen kind free running excused p is (λ x. failure_in (outcome_at x)) t)));
    kept = h.kept;
    exits = λ id f e. plain_old kind free running excused p is f (h.exits id f e);
  }
