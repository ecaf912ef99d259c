use Rattle.std.proofs.Common.{◌≡◌, ◌⊎◌, false, inl, inr, ap, sym, refl, ◌∙◌}
use Rattle.model_value.specs.Request.{Request}
use Rattle.aio_serve.specs.Own.{is_own}
use Rattle.aio_serve.proofs.Owning.{is_of_loop}
use Rattle.aio_serve.proofs.table.is_own.Goals as goal

either : {A B C : Type 0} → A ⊎ B → (A → C) → (B → C) → C
either (inl a) f g = f a
either (inr b) f g = g b

as_other : (r other : Request) → r ≡ other → is_own other ≡ false → false ≡ is_own r
as_other r other same another = sym (ap is_own same ∙ another)

pub returns-in-Extra : goal.returns-in-Extra
returns-in-Extra c =
    let r = c.args.request.now in
    either c.in-Extra.is (λ w. as_other r _ w.2 refl) (λ v.
    either v (λ w. as_other r _ w.2 refl) (λ v.
    either v (λ w. as_other r _ w.1 refl) (λ v.
    either v (λ w. as_other r _ w.1 refl) (λ v.
    either v (λ w. as_other r _ w.2 refl) (λ v.
    either v (λ w. as_other r _ w.1 refl) (λ v.
    either v (λ w. as_other r _ w.1 refl) (λ v.
    either v (λ w. as_other r _ w.1 refl) (λ v.
    either v (λ w. as_other r _ w.1 refl) (λ v.
    either v (λ w. as_other r _ w.1 refl) (λ v.
    either v (λ w. as_other r _ w.3 refl) (λ v.
    either v (λ w. as_other r _ w.2 refl) (λ v.
    either v (λ w. as_other r _ w.2 refl) (λ v.
    either v (λ w. as_other r _ w.2 refl) (λ v.
    either v (λ w. as_other r _ w.1 refl) (λ v.
    either v (λ w. as_other r _ w.1 refl) (λ v.
    either v (λ w. as_other r _ w.1 refl) (λ w. as_other r _ w.1 refl)))))))))))))))))

pub returns-in_default : goal.returns-in_default
returns-in_default c =
    sym (is_of_loop c.args.request.now c.in_default.not-Extra c.in_default.not-Listen c.in_default.not-Connect c.in_default.not-Launch
    c.in_default.not-Write c.in_default.not-WriteEof c.in_default.not-Close c.in_default.not-Kill
    c.in_default.not-WaitClosed c.in_default.not-Drain c.in_default.not-Limits c.in_default.not-Read
    c.in_default.not-ReadExactly c.in_default.not-ReadUntil c.in_default.not-ReadLine c.in_default.not-StandardError
    c.in_default.not-WaitChild c.in_default.not-ReturnCode)
