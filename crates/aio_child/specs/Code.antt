-- A child's state as a tree of numbers. By it proofs tell states apart.
use Rattle.std.specs.Prelude.{ℕ, ℤ, List, Option, refl}
use Rattle.std.specs.Coded.{Coded, code_by, coded×, coded_ℕ, coded_ℤ, coded_list, coded_option}
use Rattle.model_stream.specs.Children.{Child}
use Rattle.model_stream.specs.Receivers.{Receiver}
use Rattle.model_stream.specs.Senders.{Sender}
use Rattle.aio_receiver.specs.Code.{coded_receiver}
use Rattle.aio_sender.specs.contracts.sender.Sender as sender

abbrev pub coded_child : Coded Child
coded_child =
    code_by (Sender × ((Receiver × Receiver) × (Option ℤ × List ℕ)))
    (coded× sender.the_row.coded (coded× (coded× coded_receiver coded_receiver) (coded× (coded_option coded_ℤ) (coded_list coded_ℕ))))
    (λ p. (p.stdin, ((p.out, p.errs), (p.code, p.waits))))
    (λ p. record { stdin = p.0; out = p.1.0.0; errs = p.1.0.1; code = p.1.1.0; waits = p.1.1.1 })
    (λ _. refl)
