-- A reader's state as a tree of numbers. By it proofs tell states apart.
use Rattle.std.specs.Prelude.{ℕ, Bool, List, Option, refl}
use Rattle.std.specs.Coded.{Coded, code_by, coded×, coded_ℕ, coded_bool, coded_list, coded_option}
use Rattle.model_value.specs.Value.{Exc}
use Rattle.aio_base.specs.Code.{coded_exc}
use Rattle.model_stream.specs.Reading.{Reading}

abbrev pub coded_reading : Coded Reading
coded_reading =
    code_by ((List ℕ × Option Exc) × ((Bool × Bool) × ℕ))
    (coded× (coded× (coded_list coded_ℕ) (coded_option coded_exc)) (coded× (coded× coded_bool coded_bool) coded_ℕ))
    (λ r. ((r.held, r.failed), ((r.eof, r.paused), r.limit)))
    (λ p. record { held = p.0.0; failed = p.0.1; eof = p.1.0.0; paused = p.1.0.1; limit = p.1.1 })
    (λ _. refl)
