-- Datagrams, endpoints and what waits as trees of numbers, and back. By it types of code may be seen as such.
use Rattle.std.specs.Prelude.{◌≡◌, ℕ, ◌⊎◌, List, Option}
use Rattle.std.specs.Coded.{Coded, code_by, coded×, coded⊎, coded_list, coded_option, coded_ℕ}
use Rattle.std.proofs.Common.{inl, inr, refl}
use Rattle.model_dgram.specs.Texts.{Datagram}
use Rattle.model_dgram.specs.Endpoints.{Closes, Endpoint, Offers, Opens, Receives, Sends, Waiting}

abbrev pub coded_datagram : Coded Datagram
coded_datagram =
    code_by (ℕ × List ℕ) (coded× coded_ℕ (coded_list coded_ℕ)) (λ d. (d.port, d.bytes)) (λ p. record { port = p.0; bytes = p.1 }) (λ _. refl)

abbrev pub coded_endpoint : Coded Endpoint
coded_endpoint =
    code_by (List Datagram × (List ℕ × Option ℕ)) (coded× (coded_list coded_datagram) (coded× (coded_list coded_ℕ) (coded_option coded_ℕ)))
    (λ e. (e.held, (e.senders, e.receiver))) (λ p. record { held = p.0; senders = p.1.0; receiver = p.1.1 }) (λ _. refl)

-- ---- what waits
abbrev Cases : Type 0
Cases = ℕ ⊎ (ℕ ⊎ ((ℕ × Datagram) ⊎ ((ℕ × (Datagram × ℕ)) ⊎ (ℕ × ℕ))))

abbrev cases_of : Waiting → Cases
cases_of Opens = inl 0
cases_of Closes = inr (inl 0)
cases_of (Offers endpoint it) = inr (inr (inl (endpoint, it)))
cases_of (Sends endpoint it on) = inr (inr (inr (inl (endpoint, (it, on)))))
cases_of (Receives endpoint on) = inr (inr (inr (inr (endpoint, on))))

abbrev waiting_of : Cases → Waiting
waiting_of (inl n) = Opens
waiting_of (inr (inl n)) = Closes
waiting_of (inr (inr (inl p))) = Offers p.0 p.1
waiting_of (inr (inr (inr (inl p)))) = Sends p.0 p.1.0 p.1.1
waiting_of (inr (inr (inr (inr p)))) = Receives p.0 p.1

pub back : (it : Waiting) → waiting_of (cases_of it) ≡ it
back Opens = refl
back Closes = refl
back (Offers endpoint it) = refl
back (Sends endpoint it on) = refl
back (Receives endpoint on) = refl

abbrev pub coded_waiting : Coded Waiting
coded_waiting =
    code_by Cases
    (coded⊎ coded_ℕ (coded⊎ coded_ℕ (coded⊎ (coded× coded_ℕ coded_datagram) (coded⊎ (coded× coded_ℕ (coded× coded_datagram coded_ℕ)) (coded× coded_ℕ coded_ℕ)))))
    cases_of waiting_of back
