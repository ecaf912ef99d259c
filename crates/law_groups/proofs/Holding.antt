-- Requests and outcomes keep what holds of the parts and of all groups.
use Rattle.std.proofs.Common.{◌≡◌, ℕ, ◌≤◌, ◌<◌, ◌⊎◌, Bool, true, false, List, [], ◌∷◌, ◌++◌, Option, length, refl, ap, sym, subst, ◌∙◌, inl, inr}
use Rattle.std.proofs.lemmas.Bool.{cases_eq, false≢true}
use Rattle.std.proofs.lemmas.List.{get_or-set_same, get_or-set_other}
use Rattle.model_value.specs.declared.outcome.Outcome.TheVariants.{Cancelled}
use Rattle.model_value.specs.Value.{Outcome}
use Rattle.model_loop.specs.Parts.{Parts}
use Rattle.model_loop.specs.Loop.{Group, Loop}
use Rattle.model_loop.specs.Futures.{outcome_at, future_outcome, is_pending, settle}
use Rattle.model_loop.specs.Tasks.{lives, future_of, must_cancel_of}
use Rattle.model_loop.specs.Cancel.{cancel}
use Rattle.model_loop.specs.Ledger.{Origin, request_where, request_each}
use Rattle.model_loop.specs.Groups.{failure_in, new_group, group_of, set_group}
use Rattle.model_loop.specs.Numbered.{occurrences}
use Rattle.law_cancel.proofs.Counting.{goes-done}
use Rattle.law_steps.specs.Frames.{IsNoTask, Covers}
use Rattle.model_loop.specs.Owning.{owner_at, owner_of, own_future, is_plain}
use Rattle.model_loop.specs.Sound.{ArePartsSound}
use Rattle.model_loop.specs.Children.{IsTold, IsKeptGroup, HasErrors, body_at_end, HasPlainExit}
use Rattle.model_loop.proofs.FutureCases.{is_plain_at}
use Rattle.law_groups.specs.Holds.{Holds}
use Rattle.law_steps.proofs.Settling.{IsSettled, settle_cases, settle_effect}
use Rattle.law_steps.proofs.Looks.{LooksSame, future_of-same, change_looks_same, asked_looks_same}
use Rattle.law_steps.proofs.CancelSound.{cancel_sound, settled_sound, same_sound}
use Rattle.law_steps.proofs.Spreading.{Spreads, begins, settles, asks, raises, sets_must_cancel, as_row, with_spread}
use Rattle.law_groups.proofs.Told.{same_told, settled_told, settled-owned, cancel_told, failures_kept}

-- the same futures and tasks are there, and none changes its owner
pub record KeepsOwners (p q : Parts) : Type 0 where
  pub owned : (task : ℕ) → own_future q task ≡ own_future p task
  pub owners : (id : ℕ) → owner_of q id ≡ owner_of p id
  pub plains : (id : ℕ) → is_plain q id ≡ is_plain p id
  pub made : length q.futures ≡ length p.futures

pub settled_names : (id : ℕ) (p q : Parts) → IsSettled id p q → KeepsOwners p q
settled_names id p q s = record { owned = settled-owned s; owners = λ j. at j (cases_eq id j); plains = λ j. plain j (cases_eq id j); made = s.made }
  where
    at : (j : ℕ) → (id ≡ j) ⊎ (id ≡ j → ⊥) → owner_of q j ≡ owner_of p j
    at j (inl same) = subst (λ i. owner_of q i ≡ owner_of p i) same s.owner
    at j (inr n) = ap owner_at (s.others j n)

    plain : (j : ℕ) → (id ≡ j) ⊎ (id ≡ j → ⊥) → is_plain q j ≡ is_plain p j
    plain j (inl same) = subst (λ i. is_plain q i ≡ is_plain p i) same s.plain
    plain j (inr n) = ap is_plain_at (s.others j n)

pub looks_names : (p q : Parts) → LooksSame p q → KeepsOwners p q
looks_names p q s = record { owned = s.owned; owners = s.owners; plains = s.plains; made = s.made }

pub names_on : (p q r : Parts) → KeepsOwners q r → KeepsOwners p q → KeepsOwners p r
names_on p q r b a = record {
  owned = λ t. b.owned t ∙ a.owned t;
  owners = λ i. b.owners i ∙ a.owners i;
  plains = λ i. b.plains i ∙ a.plains i;
  made = b.made
      ∙ a.made;
}

pub cancels_names : {s : List ℕ} {p : Parts} {t : List ℕ} {q : Parts} → Spreads s p t q → KeepsOwners p q
cancels_names begins = record { owned = λ t. refl; owners = λ i. refl; plains = λ i. refl; made = refl }
cancels_names {p = p} (settles {q = q} g id future e o k) = names_on p q _ (settled_names id q _ (settle_effect id Cancelled q future e o)) (cancels_names g)
cancels_names {p = p} (asks {q = q} g id future members asked e o k) = names_on p q _ (looks_names q _ (asked_looks_same id q future e)) (cancels_names g)
cancels_names {p = p} (raises {q = q} g id task n e) = names_on p q _ (looks_names q _ (change_looks_same id _ q (λ t. refl) (λ t. refl))) (cancels_names g)
cancels_names {p = p} (sets_must_cancel {q = q} g id can) =
    names_on p q _ (looks_names q _ (change_looks_same id _ q (λ t. refl) (λ t. refl))) (cancels_names g)

-- what holds goes on where names stay and done futures do
pub holds_to : (r e running excused : Option ℕ) (told heard : ℕ → List ℕ) (groups : ℕ → Group) (p q : Parts) → KeepsOwners p q
    → ((id : ℕ) → is_pending p id ≡ false → future_outcome q id ≡ future_outcome p id) → ArePartsSound running excused q
    → ((id : ℕ) → IsTold q id (told id) (groups id)) → Holds r e told heard groups p → Holds running excused told heard groups q
holds_to r e running excused told heard groups p q names stay sound tellings h = record {
  parts = sound;
  tellings = tellings;
  heards = h.heards;
  kept = h.kept;
  errors = λ id. same_errors id;
  exits = λ id future e. names.plains future ∙ h.exits id future e;
}
  where
    same_errors : (id : ℕ) → HasErrors q (heard id) (groups id)
    same_errors id = h.errors id ∙ ap (λ l. l ++ body_at_end (groups id).ended (groups id).body) (sym (failures_kept p q (heard id) (λ task o.
        let d : lives p task ≡ false = (h.tellings id).told_done task (h.heards id task o).0 in
        ap (λ i. failure_in (future_outcome q i)) (future_of-same p q names.made task (names.owned task)) ∙ ap failure_in (stay (future_of p task) d))))

pub holds_on : (running excused : Option ℕ) (told heard : ℕ → List ℕ) (groups : ℕ → Group) (p q : Parts) → KeepsOwners p q
    → ((id : ℕ) → is_pending p id ≡ false → future_outcome q id ≡ future_outcome p id) → ArePartsSound running excused q
    → ((id : ℕ) → IsTold q id (told id) (groups id)) → Holds running excused told heard groups p
    → Holds running excused told heard groups q
holds_on running excused = holds_to running excused running excused

-- what looks the same
pub looks_holds : (running excused : Option ℕ) (told heard : ℕ → List ℕ) (groups : ℕ → Group) (p q : Parts) → LooksSame p q
    → ((task : ℕ) → must_cancel_of q task ≡ true → must_cancel_of p task ≡ true) → Holds running excused told heard groups p
    → Holds running excused told heard groups q
looks_holds running excused told heard groups p q s fewer h =
    holds_on running excused told heard groups p q (looks_names p q s) (λ id d. s.outcomes id)
    (same_sound running excused p q s fewer h.parts) (λ g. same_told p q s g (told g) (groups g) (h.tellings g)) h

pub cancel_holds : (running excused : Option ℕ) → Covers running excused → (told heard : ℕ → List ℕ) (groups : ℕ → Group) (id : ℕ) (p : Parts)
    → Holds running excused told heard groups p → Holds running excused told heard groups (cancel id p).parts
cancel_holds running excused covers told heard groups id p h =
    holds_on running excused told heard groups p (cancel id p).parts (cancels_names (with_spread id [] p))
    (λ j d. ap outcome_at (goes-done (as_row (with_spread id [] p)) j d))
    (cancel_sound running excused covers id p h.parts) (λ g. cancel_told running excused covers id p h.parts g (told g) (groups g) (h.tellings g)) h

pub settle_holds : (running excused : Option ℕ) (told heard : ℕ → List ℕ) (groups : ℕ → Group) (id : ℕ) (outcome : Outcome) (p : Parts) → IsNoTask p id
    → Holds running excused told heard groups p → Holds running excused told heard groups (settle id outcome p)
settle_holds running excused told heard groups id outcome p free h = settle_cases (Holds running excused told heard groups) id outcome p h settled
  where
    settled : (q : Parts) → IsSettled id p q → Holds running excused told heard groups q
    settled q s =
        holds_on running excused told heard groups p q (settled_names id p q s) (λ j d. stay j d (cases_eq id j))
        (settled_sound running excused id p q free h.parts s) (λ g. settled_told id p q free s g (told g) (groups g) (h.tellings g)) h
      where
        stay : (j : ℕ) → is_pending p j ≡ false → (id ≡ j) ⊎ (id ≡ j → ⊥) → future_outcome q j ≡ future_outcome p j
        stay j d (inl same) = absurd (false≢true (sym d ∙ subst (λ i. is_pending p i ≡ true) same s.was))
        stay j d (inr n) = ap outcome_at (s.others j n)

-- one request for each task that lives
pub request_each_holds : (running excused : Option ℕ) → Covers running excused
    → (told heard : ℕ → List ℕ) (groups : ℕ → Group) (by : Origin) (tasks : List ℕ) (p : Parts) → Holds running excused told heard groups p
    → Holds running excused told heard groups (request_each by tasks p).parts
request_each_holds running excused covers told heard groups by [] p h = h
request_each_holds running excused covers told heard groups by (task ∷ tasks) p h =
    request_each_holds running excused covers told heard groups by tasks _ (at (lives p task))
  where
    at : (b : Bool) → Holds running excused told heard groups (request_where b by (future_of p task) p).parts
    at true = cancel_holds running excused covers told heard groups (future_of p task) p h
    at false = h

-- ---- a group that is there changes
pub group_same : (id : ℕ) (it : Group) (l : Loop) → id < length l.groups → group_of (set_group id it l) id ≡ it
group_same id it l within = get_or-set_same l.groups id it (new_group 0) within

pub group_other : (id j : ℕ) (it : Group) (l : Loop) → (id ≡ j → ⊥) → group_of (set_group id it l) j ≡ group_of l j
group_other id j it l n = get_or-set_other l.groups id j it (new_group 0) (λ e. n (sym e))

-- its new fields do as the old ones did
pub record Fits (p : Parts) (id : ℕ) (told heard : List ℕ) (it : Group) : Type 0 where
  pub tellings : IsTold p id told it
  pub heards : (task : ℕ) → 1 ≤ occurrences task heard → (1 ≤ occurrences task told) × (1 ≤ occurrences task it.made)
  pub errors : HasErrors p heard it
  pub kept : IsKeptGroup told it
  pub exits : HasPlainExit p it

pub fits_at : (running excused : Option ℕ) (told heard : ℕ → List ℕ) (groups : ℕ → Group) (p : Parts) → Holds running excused told heard groups p → (id : ℕ)
    → Fits p id (told id) (heard id) (groups id)
fits_at running excused told heard groups p h id =
    record { tellings = h.tellings id; heards = h.heards id; errors = h.errors id; kept = h.kept id; exits = h.exits id }

pub holds_each : (running excused : Option ℕ) (told heard : ℕ → List ℕ) (groups : ℕ → Group) (p : Parts) → ArePartsSound running excused p
    → ((id : ℕ) → Fits p id (told id) (heard id) (groups id)) → Holds running excused told heard groups p
holds_each running excused told heard groups p sound fits =
    record {
      parts = sound;
      tellings = λ id. (fits id).tellings;
      heards = λ id. (fits id).heards;
      errors = λ id. (fits id).errors;
      kept = λ id. (fits id).kept;
      exits = λ id. (fits id).exits;
    }

-- the group of a number changes; others stay, as does what they were told
pub set_holds : (running excused : Option ℕ) (told heard told' heard' : ℕ → List ℕ) (id : ℕ) (it : Group) (l : Loop) → id < length l.groups
    → ((j : ℕ) → (id ≡ j → ⊥) → told' j ≡ told j) → ((j : ℕ) → (id ≡ j → ⊥) → heard' j ≡ heard j) → Fits l.parts id (told' id) (heard' id) it
    → Holds running excused told heard (group_of l) l.parts → Holds running excused told' heard' (group_of (set_group id it l)) l.parts
set_holds running excused told heard told' heard' id it l within same_told same_heard fits h =
    holds_each running excused told' heard' (group_of (set_group id it l)) l.parts h.parts (λ j. at j (cases_eq id j))
  where
    at : (j : ℕ) → (id ≡ j) ⊎ (id ≡ j → ⊥) → Fits l.parts j (told' j) (heard' j) (group_of (set_group id it l) j)
    at j (inl same) = subst (λ i. Fits l.parts i (told' i) (heard' i) (group_of (set_group id it l) i)) same
        (subst (Fits l.parts id (told' id) (heard' id)) (sym (group_same id it l within)) fits)
    at j (inr n) = subst (Fits l.parts j (told' j) (heard' j)) (sym (group_other id j it l n))
        (subst (λ hs. Fits l.parts j (told' j) hs (group_of l j)) (sym (same_heard j n))
        (subst (λ ts. Fits l.parts j ts (heard j) (group_of l j)) (sym (same_told j n)) (fits_at running excused told heard (group_of l) l.parts h j)))
