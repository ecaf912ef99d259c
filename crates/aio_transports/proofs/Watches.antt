-- What is watched, by what is kept.
use Rattle.std.proofs.Common.{◌≡◌, ℕ, zero, suc, ◌+◌, ◌<◌, ◌≤◌, ◌==◌, true, false, not, List, [], ◌∷◌, ◌++◌, Option, Some, None}
use Rattle.std.proofs.Common.{MatchOption}
use Rattle.std.proofs.Common.{Result, Ok, Err, OnOk, Bool, ◌||◌, append-nil, get_or, is_some, length, nat_lt, slice_get, take}
use Rattle.std.proofs.Common.{arith, ◌∙◌, refl, sym, ap, subst}
use Rattle.std.proofs.Math.Dec.{eqb-suc-zero}
use Rattle.std.proofs.lemmas.List.{append_assoc, take_all, take_more}
use Rattle.std.specs.List.{flat_map}
use Rattle.model_wire.specs.declared.watch.Watch.{Watch}
use Rattle.model_stream.specs.Streams.{Streams, Opened as PlainOpened, OpenedServer, OpenedConn, OpenedChild}
use Rattle.model_stream.specs.Streams as plain
use Rattle.model_stream.specs.Watching.{watch_list, watched, watched_child, watched_connection, watched_server}
use Rattle.aio_stream.specs.declared.opened.Opened.{Opened}
use Rattle.aio_stream.specs.Kept.{all_opened, may_connect, opened_as}
use Rattle.aio_stream.specs.Watched.{entries}
use Rattle.aio_transports.specs.Kept.{Kept, since}
use Rattle.aio_transports.specs.Standing.{TransportsStandFor}
use Rattle.aio_transports.specs.Watched.{watched_of}
use Rattle.aio_transports.proofs.Remaining.{looked, looked_stands, looked_watched, remaining_watched, with_remaining}

module _ (k : Kept) (s : Streams) (h : TransportsStandFor k s) where
  room_same : may_connect k.streams ≡ plain.may_connect s
  room_same =
      sym (ap (λ n. nat_lt n s.most) (ap length h.streams.connections) ∙ ap (λ most. nat_lt
      (length k.streams.connections) most) h.streams.most)

  watched_same : (one : PlainOpened) → watched_of k one ≡ watched s one
  watched_same (OpenedServer id) =
      ap (λ room. watched_server room id (slice_get k.streams.servers id)) room_same
      ∙ ap (λ xs. watched_server (plain.may_connect s) id (slice_get xs id)) (sym h.streams.servers)
  watched_same (OpenedConn id) = ap (λ xs. watched_connection id (slice_get xs id)) (sym h.streams.connections)
  watched_same (OpenedChild id) = ap (λ xs. watched_child id (slice_get xs id)) (sym h.children.children)

  pub watched_all : (those : List PlainOpened) → flat_map (watched_of k) those ≡ flat_map (watched s) those
  watched_all [] = refl
  watched_all (one ∷ more) =
      ap (λ xs. xs ++ flat_map (watched_of k) more) (watched_same one) ∙ ap (λ xs. watched s one ++ xs) (watched_all more)

-- the entry of a child
pub one_entry : (entry : Option Watch) (these : List Watch) → MatchOption entry (these ≡ []) (λ it. these ≡ it ∷ [])
    → entries entry ≡ these
one_entry None these is = sym is
one_entry (Some it) these is = sym is

-- ---- one more
module _ (f : PlainOpened → List Watch) where
  watched_push : (xs : List Opened) (y : Opened)
      → flat_map f (all_opened (xs ++ y ∷ [])) ≡ flat_map f (all_opened xs) ++ f (opened_as y)
  watched_push [] y = append-nil (f (opened_as y))
  watched_push (x ∷ xs) y =
      ap (λ ys. f (opened_as x) ++ ys) (watched_push xs y)
      ∙ sym (append_assoc (f (opened_as x)) (flat_map f (all_opened xs)) (f (opened_as y)))

  pub watched_more : (xs : List Opened) (i : ℕ) (d : Opened) (first before after entry : List Watch) → i < length xs
      → before ≡ first ++ flat_map f (all_opened (take i xs)) → entry ≡ f (opened_as (get_or xs i d)) → after ≡ before ++ entry
      → after ≡ first ++ flat_map f (all_opened (take (i + 1) xs))
  watched_more xs i d first before after entry h was is then =
      then ∙ ap (λ ys. ys ++ entry) was ∙ append_assoc first (flat_map f (all_opened (take i xs))) entry
      ∙ ap (λ ys. first ++ ys) (sym (
      ap (λ ys. flat_map f (all_opened ys)) (take_more xs i d h) ∙ watched_push (take i xs) (get_or xs i d)
      ∙ ap (λ ys. flat_map f (all_opened (take i xs)) ++ ys) (sym is)
      ))

  pub watched_whole : (xs : List Opened) (i : ℕ) (first after : List Watch) → length xs ≤ i
      → after ≡ first ++ flat_map f (all_opened (take i xs)) → after ≡ first ++ flat_map f (all_opened xs)
  watched_whole xs i first after h is = is ∙ ap (λ ys. first ++ flat_map f (all_opened ys)) (take_all i xs h)

  -- ---- whether any is watched
  none_before : (here more : List Watch) → (length more == 0) ≡ false → (length (here ++ more) == 0) ≡ false
  none_before [] more is = is
  none_before (w ∷ here) more is = eqb-suc-zero (length (here ++ more))

  some_first : (here more : List Watch) → (length here == 0) ≡ false → (length (here ++ more) == 0) ≡ false
  some_first [] more is = absurd (let bad : ⊥ = cc in bad)
  some_first (w ∷ here) more is = eqb-suc-zero (length (here ++ more))

  watched_some : (xs : List Opened) (i : ℕ) (d : Opened) → i < length xs → (length (f (opened_as (get_or xs i d))) == 0) ≡ false
      → (length (flat_map f (all_opened xs)) == 0) ≡ false
  watched_some [] i d h is = absurd (let bad : ⊥ = omega arith in bad)
  watched_some (x ∷ xs) zero d h is = some_first (f (opened_as x)) (flat_map f (all_opened xs)) is
  watched_some (x ∷ xs) (suc i) d h is =
      none_before (f (opened_as x)) (flat_map f (all_opened xs)) (watched_some xs i d (omega arith) is)

  -- one that is watched was found
  pub some_watched : (xs : List Opened) (i : ℕ) (d : Opened) (these : List Watch) → i < length xs
      → (length (f (opened_as (get_or xs i d))) == 0) ≡ false → flat_map f (all_opened xs) ≡ these
      → true ≡ not (length these == 0)
  some_watched xs i d these h is all =
      sym (ap (λ (ys : List Watch). not (length ys == 0)) (sym all) ∙ ap not (watched_some xs i d h is))

-- what an entry says of what it is the entry of
pub some_entry : (entry : Option Watch) (these : List Watch) → is_some entry ≡ true → entries entry ≡ these
    → (length these == 0) ≡ false
some_entry None these some is = absurd (let bad : ⊥ = cc in bad)
some_entry (Some it) these some is = ap (λ (ys : List Watch). length ys == 0) (sym is)

pub no_entry : (entry : Option Watch) (these : List Watch) → is_some entry ≡ false → entries entry ≡ these → these ≡ []
no_entry None these none is = sym is
no_entry (Some it) these none is = absurd (let bad : ⊥ = cc in bad)

-- none is watched
pub none_watched : (these : List Watch) → these ≡ [] → false ≡ not (length these == 0)
none_watched these is = sym (ap (λ (ys : List Watch). not (length ys == 0)) is)

-- what is watched of what remains, once all was seen and what is gone left out, is the list
pub watch_goes : {R E : Type 0} (k after : Kept) (first list : List Watch) (result : Result R E)
    → after ≡ with_remaining (looked k) k
    → OnOk result (list ≡ first ++ flat_map (watched_of after) after.remaining.those)
    → OnOk result ((s : Streams) → TransportsStandFor k s → TransportsStandFor after s × (list ≡ first ++ watch_list s))
watch_goes k after first list (Ok done) is watches =
    λ s h. let stands : TransportsStandFor after s = subst (λ (k : Kept). TransportsStandFor k s) (sym is) (looked_stands k s h) in (
      stands,
      watches
          ∙ ap (λ ws. first ++ ws)
          (watched_all after s stands after.remaining.those
          ∙ ap (λ (k : Kept). flat_map (watched s) k.remaining.those) is ∙ looked_watched k s h),
    )
watch_goes k after first list (Err why) is watches = tt

-- ---- whether anything is watched
some_either : (xs ys : List Watch) → not (length (xs ++ ys) == 0) ≡ (not (length xs == 0) || not (length ys == 0))
some_either [] ys = refl
some_either (x ∷ xs) ys =
    ap not (eqb-suc-zero (length (xs ++ ys))) ∙ sym (ap (λ b. not b || not (length ys == 0)) (eqb-suc-zero (length xs)))

module _ (k : Kept) (s : Streams) (h : TransportsStandFor k s) where
  abbrev pub remaining_list : List Watch
  remaining_list = flat_map (watched_of k) k.remaining.those

  abbrev pub since_list : List Watch
  since_list = flat_map (watched_of k) (since k.streams.opened k.remaining)

  both_lists : remaining_list ++ since_list ≡ watch_list s
  both_lists =
      ap (λ ws. ws ++ since_list) (watched_all k s h k.remaining.those)
      ∙ ap (λ ws. flat_map (watched s) k.remaining.those ++ ws) (watched_all k s h (since k.streams.opened k.remaining))
      ∙ remaining_watched k s h

  pub either_watched : (a b : Bool) → a ≡ not (length remaining_list == 0) → b ≡ not (length since_list == 0)
      → (a || b) ≡ not (length (watch_list s) == 0)
  either_watched a b first then =
      ap (λ a. a || b) first ∙ ap (λ b. not (length remaining_list == 0) || b) then
      ∙ sym (some_either remaining_list since_list) ∙ ap (λ (ws : List Watch). not (length ws == 0)) both_lists
