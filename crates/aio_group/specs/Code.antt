-- Groups as trees of numbers, and back. By it types of code may be seen as such.
use Rattle.std.specs.Prelude.{ℕ, Bool, List, Option}
use Rattle.std.specs.Coded.{Coded, code_by, coded_option, coded×, coded_list, coded_ℕ, coded_bool}
use Rattle.std.proofs.Common.{refl}
use Rattle.model_value.specs.Value.{Exc}
use Rattle.aio_base.specs.Code.{coded_exc}
use Rattle.aio_group.specs.Held.{Held}

abbrev pub Flags : Type 0
Flags = Bool × (Bool × (Bool × (Bool × Bool)))

abbrev pub coded_flags : Coded Flags
coded_flags = coded× coded_bool (coded× coded_bool (coded× coded_bool (coded× coded_bool coded_bool)))

abbrev pub CodedFields : Type 0
CodedFields = List ℕ × (List ℕ × (Option Exc × (Option Exc × Option ℕ)))

abbrev pub coded_rest : Coded CodedFields
coded_rest =
    coded× (coded_list coded_ℕ) (coded× (coded_list coded_ℕ) (coded× (coded_option coded_exc) (coded× (coded_option coded_exc) (coded_option coded_ℕ))))

abbrev pub coded_held : Coded Held
coded_held =
    code_by (ℕ × (Flags × CodedFields)) (coded× coded_ℕ (coded× coded_flags coded_rest))
    (λ h. (
      h.parent,
      (
        (h.entered, (h.exiting, (h.ended, (h.aborting, h.requested)))),
        (h.children, (h.failed, (h.body, (h.kept, h.exit_future)))),
      ),
    ))
    (λ p. record {
      parent = p.0;
      entered = p.1.0.0;
      exiting = p.1.0.1.0;
      ended = p.1.0.1.1.0;
      aborting = p.1.0.1.1.1.0;
      requested = p.1.0.1.1.1.1;
      children = p.1.1.0;
      failed = p.1.1.1.0;
      body = p.1.1.1.1.0;
      kept = p.1.1.1.1.1.0;
      exit_future = p.1.1.1.1.1.1;
    })
    (λ _. refl)
