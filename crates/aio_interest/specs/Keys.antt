-- The number of what an item takes up.
use Rattle.std.specs.Prelude.{◌≡◌, ℕ, ◌+◌, ◌*◌, Bool, false, ◌&&◌, ◌||◌, ◌==◌, List, Option, Some, None}
use Rattle.std.specs.List.{list_any}
use Rattle.std.specs.HashSet.{HashSet, contains}
use Rattle.model_wire.specs.Call.{Item}
use Rattle.model_wire.specs.declared.item.Interest.{Interest}
use Rattle.model_wire.specs.declared.item.Interest.TheVariants as interest
use Rattle.model_wire.specs.declared.watch.Watch.{Watch}
use Rattle.model_wire.specs.declared.watch.Watch.TheVariants as watch
use Rattle.model_wire.specs.Fits.{interest_of}

abbrev pub code_of : Interest → ℕ
code_of interest.Server = 0
code_of interest.Conn = 1
code_of interest.Feed = 2
code_of interest.Stdin = 3
code_of interest.Out = 4
code_of interest.Errs = 5
code_of interest.Exit = 6

abbrev pub key_at : Interest → ℕ → ℕ
key_at of id = 8 * id + code_of of

abbrev pub key_by : Option (Interest × ℕ) → Option ℕ
key_by None = None
key_by (Some taken) = Some (key_at taken.0 taken.1)

abbrev pub key_of : Item → Option ℕ
key_of came = key_by (interest_of came)

abbrev pub is_key : ℕ → Option ℕ → Bool
is_key k None = false
is_key k (Some key) = key == k

-- an item takes up what has this number
abbrev pub has_key : ℕ → Item → Bool
has_key k came = is_key k (key_of came)

-- ---- sets of numbers
abbrev pub has : {S : Type 0} → HashSet ℕ S → ℕ → Bool
has marks k = contains ◌==◌ marks k

abbrev pub has_some : {S : Type 0} → HashSet ℕ S → Option ℕ → Bool
has_some marks None = false
has_some marks (Some key) = has marks key

abbrev pub is_marked_in : {S : Type 0} → HashSet ℕ S → Item → Bool
is_marked_in marks came = has_some marks (key_of came)

-- the set has the numbers of what these items take up
abbrev pub Marks : {S : Type 0} → HashSet ℕ S → List Item → Type 0
Marks marks items = (k : ℕ) → has marks k ≡ list_any (has_key k) items

-- ---- what is watched of children
-- the letter of a child with this number is watched here
abbrev pub awaits : ℕ → Watch → Bool
awaits k (watch.Child child feeds stdin out errs exit) =
    (feeds && key_at interest.Feed child == k) || ((stdin && key_at interest.Stdin child == k)
    || ((out && key_at interest.Out child == k) || ((errs && key_at interest.Errs child == k)
    || (exit && key_at interest.Exit child == k))))
awaits k _ = false

-- the set has the numbers of the letters of children that are watched
abbrev pub Awaits : {S : Type 0} → HashSet ℕ S → List Watch → Type 0
Awaits marks watched = (k : ℕ) → has marks k ≡ list_any (awaits k) watched
