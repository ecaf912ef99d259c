-- Futures that are settled in order, by the tree.
use Rattle.std.proofs.Common.{◌≡◌, ℕ, ◌+◌, ◌<◌, List, [], ◌∷◌, ◌++◌, Result, length, take, get_or, ◌∙◌, refl, sym, ap, subst}
use Rattle.std.proofs.lemmas.List.{take_more}
use Rattle.model_value.specs.Value.{Outcome}
use Rattle.model_stream.specs.Doing.{Doing, Settle, settles}
use Rattle.aio_wire.specs.Outside.{Outside}
use Rattle.aio_wire.specs.declared.stop.Stop.{Stop}
use Rattle.aio_exchange.specs.Follows.{Follows, Reach}
use Rattle.aio_exchange.specs.Tells.{Tells}
use Rattle.aio_exchange.specs.Ways.{Did, changed_on}
use Rattle.aio_exchange.proofs.Following.{follows_changed}
use Rattle.aio_exchange.proofs.Leading.{changed-append}
use Rattle.aio_exchange.proofs.Telling.{tells_changed}
use Rattle.aio_task.specs.View.{View}
use Rattle.aio_change.specs.Owned.{settled_way}
use Rattle.aio_change.specs.Seen.{seen_changed}

settled-append : (outcome : Outcome) (xs ys : List ℕ) → settled_way outcome (xs ++ ys) ≡ settled_way outcome xs ++ settled_way outcome ys
settled-append outcome [] ys = refl
settled-append outcome (x ∷ xs) ys = ap (λ way. Did (Settle x outcome) ∷ way) (settled-append outcome xs ys)

-- one more
pub settled_more : (outcome : Outcome) (futures : List ℕ) (i : ℕ) (first before after : View) → i < length futures
    → before ≡ changed_on seen_changed (settled_way outcome (take i futures)) first
    → after ≡ seen_changed (Settle (get_or futures i 0) outcome) before
    → after ≡ changed_on seen_changed (settled_way outcome (take (i + 1) futures)) first
settled_more outcome futures i first before after h e f =
    f ∙ ap (seen_changed (Settle (get_or futures i 0) outcome)) e
    ∙ sym (ap (λ those. changed_on seen_changed (settled_way outcome those) first) (take_more futures i 0 h)
    ∙ ap (λ way. changed_on seen_changed way first) (settled-append outcome (take i futures) (get_or futures i 0 ∷ []))
    ∙ changed-append seen_changed (settled_way outcome (take i futures)) (Did (Settle (get_or futures i 0) outcome) ∷ []) first)

-- those of two lists, one after the other
pub settled_both : (outcome : Outcome) (xs ys : List ℕ) (v : View) → changed_on seen_changed (settled_way outcome (xs ++ ys)) v
    ≡ changed_on seen_changed (settled_way outcome ys) (changed_on seen_changed (settled_way outcome xs) v)
settled_both outcome xs ys v =
    ap (λ way. changed_on seen_changed way v) (settled-append outcome xs ys)
    ∙ changed-append seen_changed (settled_way outcome xs) (settled_way outcome ys) v

-- and then the rest of a tree
pub tells_settles : {A : Type 0} (futures : List ℕ) (outcome : Outcome) (rest : Doing A) (old between new : View) (result : A)
    → between ≡ changed_on seen_changed (settled_way outcome futures) old → Tells seen_changed rest between new result
    → Tells seen_changed (settles futures outcome rest) old new result
tells_settles [] outcome rest old between new result is told =
    subst (λ (v : View). Tells seen_changed rest v new result) is told
tells_settles (future ∷ futures) outcome rest old between new result is told =
    let next = seen_changed (Settle future outcome) old in
    tells_changed seen_changed (Settle future outcome) (settles futures outcome rest) old next new result refl
    (tells_settles futures outcome rest next between new result is told)

module _ {W : Type 0} (o : Outside W) where
  pub follows_settles : {A : Type 0} (futures : List ℕ) (outcome : Outcome) (rest : Doing A) (old between new : Reach View W)
      (result : Result A Stop) → between.parts ≡ changed_on seen_changed (settled_way outcome futures) old.parts
      → between.port ≡ old.port → Follows o seen_changed rest between new result
      → Follows o seen_changed (settles futures outcome rest) old new result
  follows_settles [] outcome rest old between new result is same it =
      subst (λ (r : Reach View W). Follows o seen_changed rest r new result) (sym (there old between is same)) it
    where
      there : (x y : Reach View W) → y.parts ≡ x.parts → y.port ≡ x.port → x ≡ y
      there x y p q = sym (ap (λ v. record { parts = v; port = y.port }) p ∙ ap (λ w. record { parts = x.parts; port = w }) q)
  follows_settles (future ∷ futures) outcome rest old between new result is same it =
      let next : Reach View W = record old { parts = seen_changed (Settle future outcome) old.parts } in
      follows_changed o seen_changed (Settle future outcome) (settles futures outcome rest) old next new result refl refl
      (follows_settles futures outcome rest next between new result is same it)
