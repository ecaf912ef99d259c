-- What may still be watched, as what was opened grows and goes.
use Rattle.std.proofs.Common.{◌≡◌, ℕ, ◌≤◌, Bool, true, false, cond, not, List, [], ◌∷◌, ◌++◌, Result, Ok, Err, OnOk, drop, length, take}
use Rattle.std.proofs.Common.{slice_get, arith, refl, sym, ap, ◌∙◌}
use Rattle.std.proofs.lemmas.Grind.{flat_map-append}
use Rattle.std.proofs.lemmas.List.{length-take, take-append-drop, take-append-le, take_all}
use Rattle.std.proofs.lemmas.List.Elements.{filter-append, filter_agree}
use Rattle.std.specs.List.{filter, flat_map}
use Rattle.model_stream.specs.Streams.{Opened, OpenedServer, OpenedConn, OpenedChild, Streams}
use Rattle.model_stream.specs.Watching.{watch_list, watched}
use Rattle.law_over.specs.Gone.{holds_at, is_closed, is_gone, is_over, is_over_child}
use Rattle.law_over.proofs.Staying.{gone_unwatched}
use Rattle.aio_children.specs.Kept.{Kept as Children}
use Rattle.aio_stream.specs.Kept.{Kept as Conns}
use Rattle.aio_transports.specs.Kept.{Kept, Remaining, all_seen, kept_all, since}
use Rattle.aio_transports.specs.Standing.{not_gone, Remains, TransportsStandFor}
use Rattle.aio_transports.specs.Watched.{gone_of, without_gone}
use Rattle.aio_transports.proofs.Lasting.{Lasts}

-- ---- filters by what is gone
module _ {A : Type 0} (gone : A → Bool) where
  abbrev left_of : List A → List A
  left_of = filter (λ one. not (gone one))

  -- what was gone before is gone
  left_again : (before : A → Bool) → ((one : A) → before one ≡ true → gone one ≡ true) → (these : List A)
      → left_of (filter (λ one. not (before one)) these) ≡ left_of these
  left_again before stays [] = refl
  left_again before stays (one ∷ these) = by (before one) refl (left_again before stays these)
    where
      by : (b : Bool) → before one ≡ b → left_of (filter (λ x. not (before x)) these) ≡ left_of these
          → left_of (cond (not b) (one ∷ filter (λ x. not (before x)) these) (filter (λ x. not (before x)) these))
          ≡ cond (not (gone one)) (one ∷ left_of these) (left_of these)
      by true e again = again ∙ sym (ap (λ g. cond (not g) (one ∷ left_of these) (left_of these)) (stays one e))
      by false e again = ap (λ (xs : List A). cond (not (gone one)) (one ∷ xs) xs) again

  left_more : (those these more : List A) → left_of those ≡ left_of these → left_of (those ++ more) ≡ left_of (these ++ more)
  left_more those these more it =
      filter-append (λ one. not (gone one)) those more ∙ ap (λ xs. xs ++ left_of more) it
      ∙ sym (filter-append (λ one. not (gone one)) these more)

  -- what is told of those that are gone is nothing
  left_told : {B : Type 0} (told : A → List B) → ((one : A) → gone one ≡ true → told one ≡ []) → (these : List A)
      → flat_map told (left_of these) ≡ flat_map told these
  left_told told none [] = refl
  left_told {B} told none (one ∷ these) = by (gone one) refl (left_told told none these)
    where
      by : (g : Bool) → gone one ≡ g → flat_map told (left_of these) ≡ flat_map told these
          → flat_map told (cond (not g) (one ∷ left_of these) (left_of these)) ≡ told one ++ flat_map told these
      by true e same = same ∙ sym (ap (λ (xs : List B). xs ++ flat_map told these) (none one e))
      by false e same = ap (λ xs. told one ++ xs) same

-- ---- after a call
within : (n : ℕ) (opened : List Opened) → length (take n opened) ≡ n → n ≤ length opened
within n opened seen = let least = length-take n opened in omega (arith, seen, least)

-- what is gone there
abbrev gone_in : Streams → Opened → Bool
gone_in s one = is_gone one s

pub still_remains : (r : Remaining) (s after : Streams) → Lasts s after → Remains r s → Remains r after
still_remains r s after lasts it =
    record {
      seen = ap length same ∙ it.seen;
      left =
          sym (left_again (gone_in after) (gone_in s) lasts.gone r.those) ∙ ap (left_of (gone_in after)) it.left
          ∙ left_again (gone_in after) (gone_in s) lasts.gone (take r.seen s.opened)
          ∙ ap (left_of (gone_in after)) (sym same);
    }
  where
    same : take r.seen after.opened ≡ take r.seen s.opened
    same =
        ap (take r.seen) lasts.grown.1
        ∙ take-append-le r.seen s.opened lasts.grown.0 (within r.seen s.opened it.seen)

abbrev pub with_remaining : Remaining → Kept → Kept
with_remaining r k = record k { remaining = r }

-- all was seen, and what is gone left out
abbrev pub looked : Kept → Remaining
looked k = without_gone k.streams k.children (all_seen k.streams.opened k.remaining)

-- ---- what a step of a look leaves
module _ (c : Conns) (p : Children) (r : Remaining) (k : Kept) (is : kept_all c p r ≡ k) where
  pub saw : {R E : Type 0} (those : List Opened) (new : Remaining) (result : Result R E) → those ≡ c.opened
      → OnOk result (new ≡ all_seen those r)
      → OnOk result (kept_all c p new ≡ with_remaining (all_seen k.streams.opened k.remaining) k)
  saw those new (Ok done) same sees =
      ap (kept_all c p) (sees ∙ ap (λ (xs : List Opened). all_seen xs r) same)
      ∙ ap (λ (k : Kept). with_remaining (all_seen k.streams.opened k.remaining) k) is
  saw those new (Err why) same sees = tt

  pub dropped : (new : Remaining) → new ≡ without_gone c p r
      → kept_all c p new ≡ with_remaining (without_gone k.streams k.children k.remaining) k
  dropped new drops =
      ap (kept_all c p) drops ∙ ap (λ (k : Kept). with_remaining (without_gone k.streams k.children k.remaining) k) is

module _ (k : Kept) (s : Streams) (h : TransportsStandFor k s) where
  -- what is gone by what is kept is gone
  gone_same : (one : Opened) → gone_of k.streams k.children one ≡ is_gone one s
  gone_same (OpenedServer id) = ap (λ xs. holds_at is_closed (slice_get xs id)) (sym h.streams.servers)
  gone_same (OpenedConn id) = ap (λ xs. holds_at is_over (slice_get xs id)) (sym h.streams.connections)
  gone_same (OpenedChild id) = ap (λ xs. holds_at is_over_child (slice_get xs id)) (sym h.children.children)

  abbrev gone : Opened → Bool
  gone = gone_in s

  seen_since : take k.remaining.seen s.opened ++ since k.streams.opened k.remaining ≡ s.opened
  seen_since =
      ap (λ xs. take k.remaining.seen s.opened ++ drop k.remaining.seen xs) (sym h.streams.opened)
      ∙ take-append-drop k.remaining.seen s.opened

  -- all was seen
  all_left : not_gone s (k.remaining.those ++ since k.streams.opened k.remaining) ≡ not_gone s s.opened
  all_left =
      left_more gone k.remaining.those (take k.remaining.seen s.opened) (since k.streams.opened k.remaining) h.remaining.left
      ∙ ap (not_gone s) seen_since

  looked_left : not_gone s (looked k).those ≡ not_gone s s.opened
  looked_left =
      ap (not_gone s)
      (filter_agree (λ one. not (gone_of k.streams k.children one)) (λ one. not (is_gone one s)) (λ one. ap not (gone_same one))
      (k.remaining.those ++ since k.streams.opened k.remaining))
      ∙ left_again gone gone (λ one e. e) (k.remaining.those ++ since k.streams.opened k.remaining) ∙ all_left

  all_taken : take (length k.streams.opened) s.opened ≡ s.opened
  all_taken = let same = ap length h.streams.opened in take_all (length k.streams.opened) s.opened (omega (arith, same))

  pub looked_stands : TransportsStandFor (with_remaining (looked k) k) s
  looked_stands =
      record {
        streams = h.streams;
        children = h.children;
        remaining = record {
          seen = ap length all_taken ∙ ap length h.streams.opened;
          left = looked_left ∙ ap (not_gone s) (sym all_taken);
        };
      }

  -- of what is gone nothing is watched
  watched_left : (those these : List Opened) → not_gone s those ≡ not_gone s these
      → flat_map (watched s) those ≡ flat_map (watched s) these
  watched_left those these same =
      sym (left_told gone (watched s) (gone_unwatched s) those) ∙ ap (flat_map (watched s)) same
      ∙ left_told gone (watched s) (gone_unwatched s) these

  pub looked_watched : flat_map (watched s) (looked k).those ≡ watch_list s
  looked_watched = watched_left (looked k).those s.opened looked_left

  -- what was opened since comes after it
  pub remaining_watched : flat_map (watched s) k.remaining.those ++ flat_map (watched s) (since k.streams.opened k.remaining) ≡ watch_list s
  remaining_watched =
      sym (flat_map-append (watched s) k.remaining.those (since k.streams.opened k.remaining))
      ∙ watched_left (k.remaining.those ++ since k.streams.opened k.remaining) s.opened all_left
