-- What is kept of children as a tree of numbers. By it proofs tell states apart.
use Rattle.std.specs.Prelude.{ℕ, List, refl}
use Rattle.std.specs.Coded.{Coded, code_by, coded×, coded_ℕ, coded_list}
use Rattle.model_stream.specs.Children.{Child}
use Rattle.aio_child.specs.Code.{coded_child}
use Rattle.aio_children.specs.Kept.{Kept}

abbrev pub coded_kept : Coded Kept
coded_kept =
    code_by (List Child × ℕ) (coded× (coded_list coded_child) coded_ℕ) (λ k. (k.children, k.most))
    (λ p. record { children = p.0; most = p.1 }) (λ _. refl)
