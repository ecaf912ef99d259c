-- Bytes that a sink takes one part after another.
use Rattle.std.proofs.Common.{◌≡◌, ℕ, ◌+◌, ◌-◌, ◌<◌, ◌≤◌, inl, inr, List, [], ◌∷◌, ◌++◌, length, take, drop, Option, Some, None}
use Rattle.std.proofs.Common.{refl, ap, sym, ◌∙◌, subst, append_assoc, append-nil, length-take, length-drop, arith}
use Rattle.std.proofs.Math.Seq.{take-add}
use lib.Seq.{take-nil}
use Rattle.std.proofs.lemmas.List.{take_rest, take-append-drop}
use Rattle.model_wire.specs.Told.{SinkSeen, grown, took}
use Rattle.model_pump.specs.declared.post.PostKind.TheVariants.{Broken, Starved}
use Rattle.aio_pump.specs.declared.report.Ending.TheVariants.{Failed, Spent, Memory}
use Rattle.aio_pump.specs.declared.whole.Wrote.TheVariants as Wrote
use Rattle.aio_pump.specs.declared.whole.Wrote.TheVariants.{Whole}
use Rattle.aio_pump.specs.Moments.{Moment, Posts, IsSpent, told}
use Rattle.aio_pump.specs.Whole.{WritesWhole}
use Rattle.aio_pump.specs.Writing.{Writes}

-- two pieces one after another
pub grown-grown : (told : Option (List ℕ)) (first second : List ℕ) → grown (grown told first) second ≡ grown told (first ++ second)
grown-grown None first second = refl
grown-grown (Some held) first second = ap (λ (bytes : List ℕ). Some bytes) (append_assoc held first second)

-- nothing was added
pub grown-nil : (told : Option (List ℕ)) → grown told [] ≡ told
grown-nil None = refl
grown-nil (Some held) = ap (λ (bytes : List ℕ). Some bytes) (append-nil held)

pub took-took : (sink : SinkSeen) (first second : List ℕ) → took (took sink first) second ≡ took sink (first ++ second)
took-took sink first second = λ i. record { taken = grown-grown sink.taken first second i; faults = sink.faults }

pub took-nil : (sink : SinkSeen) → took sink [] ≡ sink
took-nil sink = λ i. record { taken = grown-nil sink.taken i; faults = sink.faults }

-- a piece of no bytes has none that were taken
pub takes_none : (sink : SinkSeen) (count : ℕ) → took sink (take count []) ≡ took sink []
takes_none sink count = ap (λ (l : List ℕ). took sink l) (take-nil count)

-- one more part of these bytes
pub took_more : (sink mid new : SinkSeen) (bytes : List ℕ) (at count : ℕ) → at ≤ length bytes → mid ≡ took sink (take at bytes)
    → count ≤ length (take (length bytes - at) (drop at bytes)) → new ≡ took mid (take count (take (length bytes - at) (drop at bytes)))
    → (at + count ≤ length bytes) × (new ≡ took sink (take (at + count) bytes))
took_more sink mid new bytes at count low had fits one =
    let rest : take (length bytes - at) (drop at bytes) ≡ drop at bytes = take_rest bytes at in
    let fits_rest : count ≤ length (drop at bytes) = subst (λ (l : List ℕ). count ≤ length l) rest fits in (
      omega (arith, length-drop at bytes),
      one ∙ ap (λ (l : List ℕ). took mid (take count l)) rest ∙ ap (λ (s : SinkSeen). took s (take count (drop at bytes))) had
          ∙ took-took sink (take at bytes) (take count (drop at bytes)) ∙ ap (λ (l : List ℕ). took sink l) (sym (take-add at count bytes)),
    )

-- ---- what the writing of one Write and the post after it did
module _ (bytes : List ℕ) (before after : Moment SinkSeen) (count : ℕ) (moved : after.moved ≡ told (before.moved + count)) where
  front : count < length bytes → length (take count bytes) ≡ count
  front low = omega (arith, length-take count bytes)

  some_left : count < length bytes → 0 < length (drop count bytes)
  some_left low = omega (arith, length-drop count bytes)

  moved_front : count < length bytes → after.moved ≡ told (before.moved + length (take count bytes))
  moved_front low = moved ∙ ap (λ n. told (before.moved + n)) (sym (front low))

  parts : bytes ≡ take count bytes ++ drop count bytes
  parts = sym (take-append-drop count bytes)

  pub whole_spent : WritesWhole bytes before.served after.served count Whole → Posts [] before after → IsSpent before.poster
      → Writes bytes before after (Some Spent)
  whole_spent wrote posts spent = (
    bytes,
    [],
    sym (append-nil bytes),
    posts,
    spent,
    ap (λ (s : SinkSeen). s.taken) wrote.1,
    inl (ap (λ (s : SinkSeen). s.faults) wrote.1),
    moved ∙ ap (λ n. told (before.moved + n)) wrote.0,
  )

  pub broken_put : WritesWhole bytes before.served after.served count Wrote.Broken → Posts (Broken ∷ []) before after
      → Writes bytes before after (Some Failed)
  broken_put wrote posts =
      (take count bytes, drop count bytes, parts, some_left wrote.0, posts, wrote.1, moved_front wrote.0)

  pub broken_spent : WritesWhole bytes before.served after.served count Wrote.Broken → Posts [] before after → IsSpent before.poster
      → Writes bytes before after (Some Spent)
  broken_spent wrote posts spent =
      (take count bytes, drop count bytes, parts, posts, spent, wrote.1.0, inr wrote.1.1, moved_front wrote.0)

  pub starved_put : WritesWhole bytes before.served after.served count Wrote.Starved → Posts (Starved ∷ []) before after
      → Writes bytes before after (Some Memory)
  starved_put wrote posts =
      (take count bytes, drop count bytes, parts, some_left wrote.0, posts, wrote.1, moved_front wrote.0)

  pub starved_spent : WritesWhole bytes before.served after.served count Wrote.Starved → Posts [] before after → IsSpent before.poster
      → Writes bytes before after (Some Spent)
  starved_spent wrote posts spent = (
    take count bytes,
    drop count bytes,
    parts,
    posts,
    spent,
    ap (λ (s : SinkSeen). s.taken) wrote.1,
    inl (ap (λ (s : SinkSeen). s.faults) wrote.1),
    moved_front wrote.0,
  )
