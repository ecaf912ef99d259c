-- What requests come to, by the view of the loop's parts.
use Rattle.std.proofs.Common.{◌≡◌, ℕ, ℤ, ◌+◌, ◌-◌, ◌<◌, arith, Bool, true, List, Option, Some, None, slice_get, refl, sym, ap, subst, ◌∙◌}
use Rattle.std.specs.Prelude.{is_none, length, nat_lt, if◌then◌else◌}
use Rattle.std.specs.Map.{remove_entry}
use Rattle.std.proofs.lemmas.Bool.{and_parts, ltb-true}
use Rattle.model_value.specs.Input.{Input}
use Rattle.model_value.specs.Value.{Value}
use Rattle.model_loop.specs.Owning.{owner_at}
use Rattle.model_loop.specs.Parts.{Future, Parts}
use Rattle.model_machine.specs.Extra.{unknown_code}
use Rattle.model_reach.specs.Part.{can_draw, key_at, no_key, refuses, stays}
use Rattle.model_says.specs.Operations.{out_of_range}
use Rattle.model_exec.specs.Execed.{Asking, Execed, Standing, Waiting, exec_keeps, exec_part, is_number, place_of_job, standing_at}
use Rattle.model_exec.specs.Serving.{Wanted, asked, asked_for, asked_to, given_to, is_job_code, told, waited, wanted_of, woken}
use Rattle.law_exec.proofs.Holding.{all_each, found_holds, holds_from}
use Rattle.aio_task.specs.View.{View}
use Rattle.aio_extra.specs.declared.asked.Asked.{Asked}
use Rattle.aio_exec.specs.Drawn.{Accepted}
use Rattle.aio_exec.specs.Keeps.{came_in, found_of, waits_on}
use Rattle.aio_exec.specs.Seen.{CallsSeen, SaysSeen, are_free, is_free}
use Rattle.aio_exec.specs.declared.requests.Found.TheVariants as found
use Rattle.aio_exec.proofs.Rising.{removed_none}

-- ---- keys
pub room : (drawn : ℕ) → can_draw exec_part drawn 1 ≡ true → key_at exec_part drawn < no_key
room drawn e = ltb-true (key_at exec_part drawn) no_key (ap (λ n. nat_lt (key_at exec_part n) no_key) (same drawn) ∙ e)
  where
    same : (n : ℕ) → n ≡ n + 1 - 1
    same n = omega arith

pub asked_through : (x y : Execed) (v : View) (it : Asked) (code : ℤ) (arguments : List Value) (wanted : Wanted) → is_job_code code ≡ true
    → wanted_of arguments ≡ Some wanted → can_draw exec_part x.drawn 1 ≡ true → SaysSeen y v v it (asked_to wanted x)
    → SaysSeen y v v it (asked code arguments x)
asked_through x y v it code arguments wanted is e can seen =
    subst (λ (b : Bool). SaysSeen y v v it (if b then asked_for code (wanted_of arguments) x else refuses (unknown_code code) x)) (sym is)
    (subst (λ o. SaysSeen y v v it (asked_for code o x)) (sym e)
    (subst (λ (b : Bool). SaysSeen y v v it (if b then asked_to wanted x else refuses out_of_range x)) (sym can) seen))

-- ---- its futures are free
no_owner : (o : Option ℕ) → is_none o ≡ true → o ≡ None
no_owner None e = refl
no_owner (Some it) e = absurd (cc)

waiting_by : (o : Option Standing) (on : ℕ) → waits_on o ≡ Some on → (came : Option (List ℕ)) × (o ≡ Some (Waiting on came))
waiting_by None on e = absurd (cc)
waiting_by (Some Asking) on e = absurd (cc)
waiting_by (Some (Waiting other came)) on e = (came, ap (λ id. Some (Waiting id came)) (same other on e))
  where
    same : (a b : ℕ) → Some a ≡ Some b → a ≡ b
    same a b e = cc

pub no_tasks : (futures : List Future) (kept : Execed) → are_free futures (exec_keeps kept).own ≡ true → (place on : ℕ)
    → waits_on (standing_at place kept) ≡ Some on → owner_at (slice_get futures on) ≡ None
no_tasks futures kept free place on e =
    let w = waiting_by (standing_at place kept) on e in
    let h = found_holds (λ id. is_free futures id ≡ true) place on w.0 kept
    (holds_from (λ id. is_free futures id ≡ true) kept (all_each (is_free futures) (exec_keeps kept).own free)) w.1 in
    no_owner (owner_at (slice_get futures on)) (and_parts (nat_lt on (length futures)) (is_none (owner_at (slice_get futures on))) h).1

-- ---- what is woken
pub woken_waiting : (x y : Execed) (v w : View) (key place : ℕ) (input : Input) (asked : Asked) (p : Parts) (o : Option Standing)
    → found_of o ≡ found.Waiting → SaysSeen y v w asked (waited place (came_in o) input x) → SaysSeen y v w asked (woken o key place input p x)
woken_waiting x y v w key place input asked p None e seen = absurd (cc)
woken_waiting x y v w key place input asked p (Some Asking) e seen = absurd (cc)
woken_waiting x y v w key place input asked p (Some (Waiting on came)) e seen = seen

-- ---- news
pub told_over : (x : Execed) (v : View) (number : ℕ) (result : List ℕ) (d : Accepted)
    → d ≡ record { accepted = x.accepted; going = remove_entry (is_number number) x.going } → place_of_job number x ≡ None
    → CallsSeen (record x { accepted = d.accepted; going = d.going }) v v (told (Some (number, result)) x)
told_over x v number result d after none =
    subst (λ o. CallsSeen (record x { accepted = d.accepted; going = d.going }) v v
    (elim o [ None ↦ stays x | Some place ↦ given_to (standing_at place x) place result (record x { going = remove_entry (is_number number) x.going }) ]))
    (sym none)
    (record {
      kept = ap (λ (d : Accepted). record x { accepted = d.accepted; going = d.going }) after
          ∙ ap (λ going. record x { going = going }) (removed_none (is_number number) x.going none);
      steps = λ known. refl;
    })
