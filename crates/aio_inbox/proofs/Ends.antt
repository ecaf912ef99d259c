-- What a poster and the taker are after each step.
use Rattle.std.proofs.Common.{◌≡◌, ℕ, ◌+◌, ◌<◌, ◌^◌, List, [], ◌∷◌, ◌++◌, length}
use Rattle.std.proofs.Common.{slice_index_or, All, refl, sym, ap, ◌∙◌, subst, append-nil, arith, length-append}
use Rattle.std.proofs.lemmas.List.Elements.{All-head, All-tail, All-push}
use mathlib.Core.List.{IsPrefix}
use Rattle.model_pump.specs.Posts.{Post, PostKind, posts_of}
use Rattle.aio_inbox.specs.declared.view.SettledSeat.{SettledSeat}
use Rattle.aio_inbox.specs.declared.view.InboxView.{InboxView}
use Rattle.aio_inbox.specs.declared.view.InboxView.TheVariants.{Posts, Takes}
use Rattle.aio_inbox.specs.Views.{with_post, with_posted, with_taken, with_settled, settled_by, poster_of, taker_of}
use Rattle.aio_inbox.specs.Accounts.{Begins, Ends}
use Rattle.aio_inbox.specs.Steps.{Adds, Gets, Awaits, IsLeftFor, IsNext, after_settling}
use Rattle.aio_inbox.specs.Ends.{IsPoster, IsTaker}
use Rattle.aio_inbox.proofs.Posts.{posts_both, numbered_more}

-- ---- posters
pub posted_more : (seat count : ℕ) (v : InboxView) (kind : PostKind) (w : InboxView) → IsPoster seat count v → count < 2 ^ 51
    → Adds v (record { seat = seat; number = count; kind = kind }) w → (poster_of w ≡ with_posted (poster_of v) kind) × IsPoster seat (count + 1) w
posted_more seat count v kind w is room adds =
    let u = poster_of v in
    let x : Post = record { seat = seat; number = count; kind = kind } in
    let e : w ≡ Posts (with_post u x) = subst (λ (z : InboxView). Adds z x w) is.0 adds in
    let same : with_post u x ≡ with_posted u kind =
    ap (λ (y : ℕ × ℕ). with_post u (record { seat = y.0; number = y.1; kind = kind })) (λ i. (sym is.1 i, sym is.2 i)) in (
      ap poster_of e ∙ same,
      subst (IsPoster seat (count + 1)) (sym e) (
        refl,
        is.1,
        (let n = is.2 in omega (arith, n, length-append u.posted (x ∷ []))),
        omega arith,
        numbered_more seat u.posted x is.4 refl (sym is.2),
      ),
    )

-- ---- the taker
all_last : (P : SettledSeat → Type 0) (xs : List SettledSeat) (x : SettledSeat) → All P (xs ++ x ∷ []) → P x
all_last P [] x all = All-head P x [] all
all_last P (y ∷ ys) x all = all_last P ys x (All-tail P y (ys ++ x ∷ []) all)

none_of : {A : Type 0} (l : List A) → length l ≡ 0 → l ≡ []
none_of [] n = refl
none_of (x ∷ xs) n = absurd (omega arith)

-- what is whole stays whole, as long as it is a prefix
whole : (xs ys ps : List Post) → xs ≡ ps → IsPrefix (xs ++ ys) ps → xs ++ ys ≡ ps
whole xs ys ps same prefix =
    let one = ap length same in
    let two = ap length prefix.1 in
    let three = length-append (xs ++ ys) prefix.0 in
    let four = length-append xs ys in
    ap (λ l. xs ++ l) (none_of ys (omega (arith, one, two, three, four))) ∙ append-nil xs ∙ same

pub took : (v : InboxView) (x : Post) (w : InboxView) → IsTaker v → Gets v x w
    → (taker_of w ≡ with_taken (taker_of v) x) × IsTaker w × IsNext (taker_of v) x
took v x w is gets =
    let t = taker_of v in
    let got : (w ≡ Takes (with_taken t x)) × IsNext t x = subst (λ (z : InboxView). Gets z x w) is.0 gets in
    let ends : All (Ends (with_taken t x)) t.settled =
    λ k d low later. let s = slice_index_or t.settled k d in
    posts_both s.seat t.taken (x ∷ [])
    ∙ whole (posts_of s.seat t.taken) (posts_of s.seat (x ∷ [])) s.posted (is.2 k d low later)
    (subst (λ (l : List Post). IsPrefix l s.posted) (posts_both s.seat t.taken (x ∷ [])) (got.1.begins k d low)) in (
      ap taker_of got.0,
      subst IsTaker (sym got.0) (refl, got.1.begins, ends),
      got.1,
    )

pub settled_is : (v u m : InboxView) → IsTaker v → m ≡ after_settling v u → m ≡ Takes (with_settled (taker_of v) (poster_of u))
settled_is v u m is e = e ∙ ap (λ (z : InboxView). after_settling z u) is.0

-- after a poster was given back, and the queue was looked at
pub took_in : (v u m w : InboxView) → IsTaker v → m ≡ after_settling v u → w ≡ m → (items : List Post) × Awaits m items
    → (taker_of w ≡ with_settled (taker_of v) (poster_of u)) × IsTaker w × IsPrefix (posts_of (poster_of u).seat (taker_of w).taken) (poster_of u).posted
took_in v u m w is e same told =
    let t = taker_of v in
    let p = poster_of u in
    let after : m ≡ Takes (with_settled t p) = settled_is v u m is e in
    let now : w ≡ Takes (with_settled t p) = same ∙ after in
    let left : IsLeftFor (with_settled t p) told.0 = subst (λ (z : InboxView). Awaits z told.0) after told.1 in
    let settled = t.settled ++ settled_by t p ∷ [] in
    let begins : All (Begins (with_settled t p)) settled =
    λ k d low. let s = slice_index_or settled k d in (posts_of s.seat told.0, sym (posts_both s.seat t.taken told.0) ∙ left.rest k d low) in
    let ends : All (Ends (with_settled t p)) settled =
    All-push (Ends (with_settled t p)) t.settled (settled_by t p) is.2 (λ later. absurd (omega arith)) in (
      ap taker_of now,
      subst IsTaker (sym now) (refl, begins, ends),
      subst (λ (z : InboxView). IsPrefix (posts_of p.seat (taker_of z).taken) p.posted) (sym now)
          (all_last (Begins (with_settled t p)) t.settled (settled_by t p) begins),
    )
