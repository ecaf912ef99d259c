-- A receiver's state as a tree of numbers. By it proofs tell states apart.
use Rattle.std.specs.Prelude.{ℕ, Option, refl}
use Rattle.std.specs.Coded.{Coded, code_by, coded×, coded_ℕ, coded_option}
use Rattle.model_stream.specs.Reading.{Reading}
use Rattle.model_stream.specs.Receivers.{Receiver}
use Rattle.aio_reader.specs.Code.{coded_reading}

abbrev pub coded_receiver : Coded Receiver
coded_receiver =
    code_by (Reading × Option ℕ) (coded× coded_reading (coded_option coded_ℕ)) (λ r. (r.reader, r.waiter))
    (λ p. record { reader = p.0; waiter = p.1 }) (λ _. refl)
