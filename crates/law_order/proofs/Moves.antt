-- What moves schedule is to come then, and one that runs is to come no more.
use Rattle.std.proofs.Common.{◌≡◌, ℕ, ◌+◌, ◌≤◌, Bool, true, false, not, ◌&&◌, cond, List, [], ◌∷◌, refl, arith}
use Rattle.model_value.specs.Action.{Action}
use Rattle.model_wire.specs.declared.event.Handed.{Handed}
use Rattle.model_loop.specs.Parts.{Handle, Parts, Plain}
use Rattle.model_stream.specs.Doing.{MakeFuture, CallSoon, Settle}
use Rattle.model_machine.specs.Does.{changed}
use Rattle.law_stream.specs.Ways.{Move, Did, Heard, is_loss, losses, one_if}
use Rattle.law_groups.proofs.Entries.{entries-soon}
use Rattle.law_groups.proofs.Quiet.{handles-first}
use Rattle.law_walk.specs.Walks.{made_on}
use Rattle.law_order.specs.Quiet.{IsOfLosses, RegistersNone, pending_of}
use Rattle.law_order.proofs.Parts.{make_quiet, settle_quiet}

-- ---- what moves schedule
-- how many callbacks of a kind they schedule
abbrev pub counted : (counts : Action → Bool) → List Move → ℕ
counted counts [] = 0
counted counts (Did MakeFuture ∷ moves) = counted counts moves
counted counts (Did (Settle future outcome) ∷ moves) = counted counts moves
counted counts (Did (CallSoon it) ∷ moves) = one_if (counts it) + counted counts moves
counted counts (Heard it came ∷ moves) = counted counts moves

pub losses_counted : (whom : Handed) (moves : List Move) → counted (λ it. is_loss whom (CallSoon it)) moves ≤ losses whom moves
losses_counted whom [] = omega arith
losses_counted whom (Did MakeFuture ∷ moves) = let rest = losses_counted whom moves in omega (arith, rest)
losses_counted whom (Did (Settle future outcome) ∷ moves) = let rest = losses_counted whom moves in omega (arith, rest)
losses_counted whom (Did (CallSoon it) ∷ moves) = let rest = losses_counted whom moves in omega (arith, rest)
losses_counted whom (Heard it came ∷ moves) = losses_counted whom moves

pub record IsMade (moves : List Move) (p q : Parts) : Type 0 where
  pub registers : RegistersNone q
  pub pending : (counts : Action → Bool) → IsOfLosses counts → pending_of counts q ≤ pending_of counts p + counted counts moves

pub made_by : (moves : List Move) (p : Parts) → RegistersNone p → IsMade moves p (made_on moves p)
made_by [] p none = record { registers = none; pending = λ counts of. omega arith }
made_by (Heard it came ∷ moves) p none =
    let rest = made_by moves p none in record { registers = rest.registers; pending = rest.pending }
made_by (Did MakeFuture ∷ moves) p none =
    let first = make_quiet Plain p in
    let rest = made_by moves (changed MakeFuture p) (first.registers none) in
    record {
      registers = rest.registers;
      pending = λ counts of. let a = first.pending none counts of in let b = rest.pending counts of in omega (arith, a, b);
    }
made_by (Did (Settle future outcome) ∷ moves) p none =
    let first = settle_quiet future outcome p in
    let rest = made_by moves (changed (Settle future outcome) p) (first.registers none) in
    record {
      registers = rest.registers;
      pending = λ counts of. let a = first.pending none counts of in let b = rest.pending counts of in omega (arith, a, b);
    }
made_by (Did (CallSoon it) ∷ moves) p none =
    let rest = made_by moves (changed (CallSoon it) p) none in
    record {
      registers = rest.registers;
      pending = λ counts of.
          let a : pending_of counts (changed (CallSoon it) p) ≡ pending_of counts p + one_if (counts it) =
          entries-soon (λ tag act. counts act) it p in
          let b = rest.pending counts of in
          omega (arith, a, b);
    }

-- ---- one that runs is to come no more
live_one : (dead b : Bool) → dead ≡ false → cond (not dead && b) 1 0 ≡ one_if b
live_one true b is = absurd (let bad : ⊥ = cc in bad)
live_one false b is = refl

pub first_runs : (counts : Action → Bool) (p : Parts) (handle : Handle) (rest : List Handle) → p.pending ≡ handle ∷ rest → handle.dead ≡ false
    → pending_of counts p ≡ one_if (counts handle.action) + pending_of counts (record p { pending = rest })
first_runs counts p handle rest first live =
    let a = handles-first (λ tag act. counts act) handle rest p first in
    let b = live_one handle.dead (counts handle.action) live in
    omega (arith, a, b)

pub first_goes : (counts : Action → Bool) (p : Parts) (handle : Handle) (rest : List Handle) → p.pending ≡ handle ∷ rest
    → pending_of counts (record p { pending = rest }) ≤ pending_of counts p
first_goes counts p handle rest first =
    let a = handles-first (λ tag act. counts act) handle rest p first in omega (arith, a)

abbrev pub loss_of : Handed → Action → Bool
loss_of whom it = is_loss whom (CallSoon it)
