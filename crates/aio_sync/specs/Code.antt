-- Locks, events, queues and what waits as trees of numbers, and back. By it types of code may be seen as such.
use Rattle.std.specs.Prelude.{◌≡◌, ℕ, ℤ, ◌⊎◌, Bool, List}
use Rattle.std.specs.Coded.{Coded, code_by, coded×, coded⊎, coded_list, coded_ℕ, coded_ℤ, coded_bool}
use Rattle.std.proofs.Common.{inl, inr, refl}
use Rattle.model_value.specs.Value.{Value}
use Rattle.aio_base.specs.Code.{coded_value}
use Rattle.model_sync.specs.Synced.{Acquires, Awaits, Event, Gets, Lock, Puts, Queue, Waiting}
use Rattle.aio_sync.specs.Drawn.{Drawn}

abbrev pub coded_lock : Coded Lock
coded_lock =
    code_by (Bool × List ℕ) (coded× coded_bool (coded_list coded_ℕ)) (λ l. (l.locked, l.waiters)) (λ p. record { locked = p.0; waiters = p.1 }) (λ _. refl)

abbrev pub coded_event : Coded Event
coded_event =
    code_by (Bool × List ℕ) (coded× coded_bool (coded_list coded_ℕ)) (λ e. (e.is_set, e.waiters)) (λ p. record { is_set = p.0; waiters = p.1 }) (λ _. refl)

abbrev pub coded_queue : Coded Queue
coded_queue =
    code_by (ℤ × (List Value × (List ℕ × List ℕ)))
    (coded× coded_ℤ (coded× (coded_list coded_value) (coded× (coded_list coded_ℕ) (coded_list coded_ℕ))))
    (λ q. (q.size, (q.values, (q.getters, q.putters))))
    (λ p. record { size = p.0; values = p.1.0; getters = p.1.1.0; putters = p.1.1.1 }) (λ _. refl)

-- ---- what waits
abbrev Pair : Type 0
Pair = ℕ × ℕ

abbrev Cases : Type 0
Cases = Pair ⊎ (Pair ⊎ ((ℕ × (Value × ℕ)) ⊎ Pair))

abbrev cases_of : Waiting → Cases
cases_of (Acquires lock on) = inl (lock, on)
cases_of (Awaits event on) = inr (inl (event, on))
cases_of (Puts queue value on) = inr (inr (inl (queue, (value, on))))
cases_of (Gets queue on) = inr (inr (inr (queue, on)))

abbrev waiting_of : Cases → Waiting
waiting_of (inl p) = Acquires p.0 p.1
waiting_of (inr (inl p)) = Awaits p.0 p.1
waiting_of (inr (inr (inl p))) = Puts p.0 p.1.0 p.1.1
waiting_of (inr (inr (inr p))) = Gets p.0 p.1

pub back : (it : Waiting) → waiting_of (cases_of it) ≡ it
back (Acquires lock on) = refl
back (Awaits event on) = refl
back (Puts queue value on) = refl
back (Gets queue on) = refl

abbrev coded_pair : Coded Pair
coded_pair = coded× coded_ℕ coded_ℕ

abbrev pub coded_waiting : Coded Waiting
coded_waiting =
    code_by Cases (coded⊎ coded_pair (coded⊎ coded_pair (coded⊎ (coded× coded_ℕ (coded× coded_value coded_ℕ)) coded_pair))) cases_of waiting_of back

abbrev pub coded_drawn : Coded Drawn
coded_drawn =
    code_by (ℕ × List (ℕ × Waiting)) (coded× coded_ℕ (coded_list (coded× coded_ℕ coded_waiting))) (λ d. (d.drawn, d.waiting))
    (λ p. record { drawn = p.0; waiting = p.1 }) (λ _. refl)
