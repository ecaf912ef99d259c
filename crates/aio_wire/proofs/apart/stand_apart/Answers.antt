use Rattle.std.proofs.Common.{◌≡◌, ◌+◌, ℕ, Bool, true, false, not, [], ◌∷◌, ◌++◌, Some, None, filter_map, take, drop, append-nil}
use Rattle.std.proofs.Common.{refl, sym, ap, ◌∙◌, if◌then◌else◌}
use Rattle.std.proofs.lemmas.Bool.{false≢true}
use Rattle.std.proofs.lemmas.List.{take_more, drop_more, take-append-drop}
use Rattle.std.specs.List.{list_any}
use Rattle.model_wire.specs.declared.item.Interest.{Interest}
use Rattle.model_wire.specs.Call.{Item}
use Rattle.model_wire.specs.Fits.{clashes, interest_of, stand_apart}
use Rattle.aio_wire.proofs.Clashing.{same, taken_is, takes_nothing, clash, front_apart, front_taken}
use Rattle.aio_wire.proofs.apart.stand_apart.Goals as goal
use Rattle.aio_wire.proofs.apart.stand_apart.Goals.{in-Some+in_ok-insert+else-not-branch, in_default}

not_false : (b : Bool) → not b ≡ false → b ≡ true
not_false true h = refl
not_false false h = absurd (false≢true (sym h))

not_true : (b : Bool) → not b ≡ true → b ≡ false
not_true true h = absurd (false≢true h)
not_true false h = refl

pub returns-then-not-branch : goal.returns-then-not-branch
returns-then-not-branch c =
    let items = c.args.items.now in
    let i = c.loop-item.item-index in
    let x : Item = c.item-item.result in
    let k : Interest × ℕ = c.in-Some.interest in
    let whole : items ≡ take i items ++ x ∷ drop (i + 1) items =
    sym (take-append-drop i items)
    ∙ ap (λ t. take i items ++ t) (drop_more items i x c.loop-item-test.true ∙ ap (λ y. y ∷ drop (i + 1) items) (sym c.item-item.is)) in
    let seen : list_any (same k) (filter_map interest_of (take i items)) ≡ true =
    ap (list_any (same k)) (sym c.loop-item.invariant.0)
    ∙ not_false (list_any (same k) c.loop-item.taken.keys) (sym c.in_ok-insert.ensures.added ∙ c.if-not-branch.true) in
    let any : list_any (λ other. clashes other x) (take i items) ≡ true =
    sym (taken_is x k (sym c.interest_of.ensures ∙ c.in-Some.is) (take i items)) ∙ seen in
    sym (ap stand_apart whole ∙ clash (take i items) (drop (i + 1) items) x any)

pub loop-item-preserved : goal.loop-item-preserved
loop-item-preserved c =
    let items = c.args.items.now in
    let i = c.loop-item.item-index in
    let x : Item = c.item-item.result in
    let front : take (i + 1) items ≡ take i items ++ x ∷ [] =
    take_more items i x c.loop-item-test.true ∙ ap (λ y. take i items ++ y ∷ []) (sym c.item-item.is) in
    elim c.match-interest_of.branch [
      | in-Some+in_ok-insert+else-not-branch w ↦
          let k : Interest × ℕ = w.in-Some.interest in
          let takes : interest_of x ≡ Some k = sym c.interest_of.ensures ∙ w.in-Some.is in
          let new : list_any (same k) c.loop-item.taken.keys ≡ false =
          not_true (list_any (same k) c.loop-item.taken.keys) (sym w.in_ok-insert.ensures.added ∙ w.if-not-branch.false) in
          let none : list_any (λ other. clashes other x) (take i items) ≡ false =
          sym (taken_is x k takes (take i items)) ∙ ap (list_any (same k)) (sym c.loop-item.invariant.0) ∙ new in (
            ap (λ s. s.keys) w.taken-is ∙ w.in_ok-insert.ensures.keys
                ∙ ap (λ b. if b then c.loop-item.taken.keys else c.loop-item.taken.keys ++ k ∷ []) new
                ∙ ap (λ ks. ks ++ k ∷ []) c.loop-item.invariant.0 ∙ sym (front_taken (take i items) (take (i + 1) items) x (Some k) front takes),
            front_apart (take i items) (take (i + 1) items) x front c.loop-item.invariant.1 none,
          )
      | in_default w ↦
          let takes : interest_of x ≡ None = sym c.interest_of.ensures ∙ w.in_default.is in (
            ap (λ s. s.keys) w.taken-is ∙ c.loop-item.invariant.0 ∙ sym (append-nil (filter_map interest_of (take i items)))
                ∙ sym (front_taken (take i items) (take (i + 1) items) x None front takes),
            front_apart (take i items) (take (i + 1) items) x front c.loop-item.invariant.1 (takes_nothing x takes (take i items)),
          )
    ]
