-- An item is awaited where the one entry awaits it that is about the same.
use denote.Enum.Bare.{sameb, same_true}
use Rattle.std.proofs.Common.{◌≡◌, Bool, true, false, cond, eqb, ◌||◌, List, [], ◌∷◌, Option, Some, None, map, refl, sym, ap, ◌∙◌}
use Rattle.std.proofs.lemmas.Bool.{false≢true, eqb-true, and_parts, or_from}
use Rattle.std.specs.List.{AllByRecursion, IsDistinct}
use Rattle.std.specs.Map.{keys_of, lookup}
use Rattle.model_wire.specs.declared.item.Item.TheVariants as item
use Rattle.model_wire.specs.declared.watch.Watch.{Watch}
use Rattle.model_wire.specs.declared.watch.Watch.TheVariants as watch
use Rattle.model_wire.specs.Call.{Item}
use Rattle.model_wire.specs.Fits.{is_ready_for, is_told, is_watched, is_watched_by}
use Rattle.aio_wire.specs.contracts.awaited.Subject.{the_type}
use Rattle.aio_wire.specs.Places.{Place, is_same_place, place_of, place_of_item, placed}

-- ---- an entry that awaits an item is about the same
about : (it : Item) (w : Watch) → is_watched_by it w ≡ true → is_same_place (place_of_item it) (place_of w) ≡ true
about (item.ReadableServer s) (watch.Server n) is = is
about (item.ReadableServer s) (watch.Conn n reads writes) is = absurd (false≢true is)
about (item.ReadableServer s) (watch.Making n) is = absurd (false≢true is)
about (item.ReadableServer s) (watch.Child n feeds stdin out errs exit) is = absurd (false≢true is)
about (item.ReadableServer s) watch.Extra is = absurd (false≢true is)
about (item.Ready c letters) (watch.Server n) is = absurd (false≢true is)
about (item.Ready c letters) (watch.Conn n reads writes) is = (and_parts (eqb c n) (is_ready_for letters reads writes) is).0
about (item.Ready c letters) (watch.Making n) is = absurd (false≢true is)
about (item.Ready c letters) (watch.Child n feeds stdin out errs exit) is = absurd (false≢true is)
about (item.Ready c letters) watch.Extra is = absurd (false≢true is)
about (item.Up c) (watch.Server n) is = absurd (false≢true is)
about (item.Up c) (watch.Conn n reads writes) is = absurd (false≢true is)
about (item.Up c) (watch.Making n) is = is
about (item.Up c) (watch.Child n feeds stdin out errs exit) is = absurd (false≢true is)
about (item.Up c) watch.Extra is = absurd (false≢true is)
about (item.Down c) (watch.Server n) is = absurd (false≢true is)
about (item.Down c) (watch.Conn n reads writes) is = absurd (false≢true is)
about (item.Down c) (watch.Making n) is = is
about (item.Down c) (watch.Child n feeds stdin out errs exit) is = absurd (false≢true is)
about (item.Down c) watch.Extra is = absurd (false≢true is)
about (item.WritableChild c) (watch.Server n) is = absurd (false≢true is)
about (item.WritableChild c) (watch.Conn n reads writes) is = absurd (false≢true is)
about (item.WritableChild c) (watch.Making n) is = absurd (false≢true is)
about (item.WritableChild c) (watch.Child n feeds stdin out errs exit) is = (and_parts (eqb c n) feeds is).0
about (item.WritableChild c) watch.Extra is = absurd (false≢true is)
about (item.Child c told) (watch.Server n) is = absurd (false≢true is)
about (item.Child c told) (watch.Conn n reads writes) is = absurd (false≢true is)
about (item.Child c told) (watch.Making n) is = absurd (false≢true is)
about (item.Child c told) (watch.Child n feeds stdin out errs exit) is = (and_parts (eqb c n) (is_told told stdin out errs exit) is).0
about (item.Child c told) watch.Extra is = absurd (false≢true is)
about (item.Extra code bytes) (watch.Server n) is = absurd (false≢true is)
about (item.Extra code bytes) (watch.Conn n reads writes) is = absurd (false≢true is)
about (item.Extra code bytes) (watch.Making n) is = absurd (false≢true is)
about (item.Extra code bytes) (watch.Child n feeds stdin out errs exit) is = absurd (false≢true is)
about (item.Extra code bytes) watch.Extra is = refl

alike : (one other : Place) → is_same_place one other ≡ true → one ≡ other
alike one other h =
    let parts = and_parts (sameb the_type one.0 other.0) (eqb one.1 other.1) h in
    ap (λ i. (i, one.1)) (same_true the_type tt one.0 other.0 parts.0) ∙ ap (λ n. (other.0, n)) (eqb-true one.1 other.1 parts.1)

elsewhere : (it : Item) (w : Watch) → is_same_place (place_of_item it) (place_of w) ≡ false → is_watched_by it w ≡ false
elsewhere it w other = at (is_watched_by it w) refl
  where
    at : (b : Bool) → is_watched_by it w ≡ b → is_watched_by it w ≡ false
    at true e = absurd (false≢true (sym other ∙ about it w e))
    at false e = e

-- ---- the only entry
abbrev pub watched_as : Item → Option Watch → Bool
watched_as it None = false
watched_as it (Some w) = is_watched_by it w

no_other : (it : Item) (at : Place) → is_same_place (place_of_item it) at ≡ true → (entries : List Watch)
    → AllByRecursion (λ p. is_same_place at p ≡ false) (keys_of (map placed entries)) → is_watched entries it ≡ false
no_other it at same [] apart = refl
no_other it at same (w ∷ entries) apart =
    or_from (is_watched_by it w) (is_watched entries it)
    (elsewhere it w (ap (λ p. is_same_place p (place_of w)) (alike (place_of_item it) at same) ∙ apart.0)) (no_other it at same entries apart.1)

or-nothing : (a b : Bool) → b ≡ false → (a || b) ≡ a
or-nothing true b h = refl
or-nothing false b h = h

pub only_one : (it : Item) (entries : List Watch) → IsDistinct is_same_place (keys_of (map placed entries))
    → is_watched entries it ≡ watched_as it (lookup (is_same_place (place_of_item it)) (map placed entries))
unfolding IsDistinct
only_one it [] distinct = refl
only_one it (w ∷ entries) distinct =
    at (is_same_place (place_of_item it) (place_of w)) refl (only_one it entries distinct.1)
  where
    at : (b : Bool) → is_same_place (place_of_item it) (place_of w) ≡ b
        → is_watched entries it ≡ watched_as it (lookup (is_same_place (place_of_item it)) (map placed entries))
        → is_watched (w ∷ entries) it
        ≡ watched_as it (cond (is_same_place (place_of_item it) (place_of w)) (Some w) (lookup (is_same_place (place_of_item it)) (map placed entries)))
    at true e rest =
        or-nothing (is_watched_by it w) (is_watched entries it) (no_other it (place_of w) e entries distinct.0)
        ∙ ap (λ b. watched_as it (cond b (Some w) (lookup (is_same_place (place_of_item it)) (map placed entries)))) (sym e)
    at false e rest =
        ap (λ b. b || is_watched entries it) (elsewhere it w e) ∙ rest
        ∙ ap (λ b. watched_as it (cond b (Some w) (lookup (is_same_place (place_of_item it)) (map placed entries)))) (sym e)
