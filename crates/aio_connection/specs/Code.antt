-- A connection's state as a tree of numbers. By it proofs tell states apart.
use Rattle.std.specs.Prelude.{ℕ, Bool, Option, refl}
use Rattle.std.specs.Coded.{Coded, code_by, coded×, coded_ℕ, coded_bool, coded_option}
use Rattle.model_stream.specs.Connections.{Connection}
use Rattle.model_stream.specs.Receivers.{Receiver}
use Rattle.model_stream.specs.Senders.{Sender}
use Rattle.aio_receiver.specs.Code.{coded_receiver}
use Rattle.aio_sender.specs.contracts.sender.Sender as sender

abbrev pub coded_connection : Coded Connection
coded_connection =
    code_by ((Option ℕ × Option ℕ) × (Bool × (Sender × Receiver)))
    (coded× (coded× (coded_option coded_ℕ) (coded_option coded_ℕ)) (coded× coded_bool (coded× sender.the_row.coded coded_receiver)))
    (λ c. ((c.making, c.handler), (c.began, (c.sender, c.receiver))))
    (λ p. record { making = p.0.0; handler = p.0.1; began = p.1.0; sender = p.1.1.0; receiver = p.1.1.1 })
    (λ _. refl)
