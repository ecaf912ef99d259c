-- What is kept as a tree of numbers. By it proofs tell states apart.
use Rattle.std.specs.Prelude.{ℕ, List, refl}
use Rattle.std.specs.Coded.{Coded, code_by, coded×, coded_ℕ, coded_list}
use Rattle.model_stream.specs.Streams.{Opened}
use Rattle.aio_children.specs.Kept.{Kept as Children}
use Rattle.aio_children.specs.Code as children
use Rattle.aio_stream.specs.Kept.{Kept as Streams}
use Rattle.aio_stream.specs.Code as streams
pub use Rattle.aio_stream.specs.Code.{coded_opened}
use Rattle.aio_transports.specs.Kept.{Kept, Remaining}

abbrev pub coded_remaining : Coded Remaining
coded_remaining =
    code_by (List Opened × ℕ) (coded× (coded_list streams.coded_opened) coded_ℕ) (λ r. (r.those, r.seen))
    (λ p. record { those = p.0; seen = p.1 }) (λ _. refl)

abbrev pub coded_kept : Coded Kept
coded_kept =
    code_by (Streams × (Children × Remaining)) (coded× streams.coded_kept (coded× children.coded_kept coded_remaining))
    (λ k. (k.streams, (k.children, k.remaining))) (λ p. record { streams = p.0; children = p.1.0; remaining = p.1.1 }) (λ _. refl)
