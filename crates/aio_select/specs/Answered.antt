-- What the parts of a select leave, as the definitions say it.
use Rattle.std.specs.Prelude.{◌≡◌, ℕ, ◌+◌, Bool, true, false, List, [], ◌∷◌, ◌++◌, map}
use Rattle.std.specs.List.{flat_map}
use Rattle.model_wire.specs.Call.{Item}
use Rattle.model_wire.specs.declared.watch.Watch.{Watch}
use Rattle.model_hub.specs.declared.halt.Halt.{Halt}
use Rattle.model_hub.specs.declared.halt.Halt.TheVariants.{Going}
use Rattle.model_hub.specs.declared.child.Child.{Child}
use Rattle.model_pump.specs.Posts.{Post}
use Rattle.model_hub.specs.Posts.{note}
use Rattle.model_hub.specs.Gathering.{Gathering, offer, offer_all, add_all, stdin_items, gather, goes_on, are_taken}

abbrev pub gathering : (items kept : List Item) → List Child → List Post → ℕ → Halt → Gathering
gathering items kept children taken count halt =
    record { items = items; kept = kept; children = children; taken = taken; count = count; halt = halt }

-- what is in the answer before posts are taken, where nothing came of the poller
abbrev pub first_items : List Watch → List Child → (kept : List Item) → List Item
first_items watched children kept =
    (add_all watched (offer_all watched (gathering [] [] children [] 0 Going) kept) (flat_map (stdin_items children) watched)).items

abbrev pub has_any : List Item → Bool
has_any [] = false
has_any (came ∷ more) = true

-- an item was offered
abbrev pub Offers : List Watch → (items kept : List Item) → Item → (items kept : List Item) → Type 0
Offers watched items kept came items_now kept_now =
    (children : List Child) (taken : List Post) (count : ℕ) (halt : Halt)
    → gathering items_now kept_now children taken count halt ≡ offer watched (gathering items kept children taken count halt) came

-- items were offered, one after the other
abbrev pub OffersAll : List Watch → (items kept came : List Item) → (items kept : List Item) → Type 0
OffersAll watched items kept came items_now kept_now =
    (children : List Child) (taken : List Post) (count : ℕ) (halt : Halt)
    → gathering items_now kept_now children taken count halt
    ≡ offer_all watched (gathering items kept children taken count halt) came

-- items were added, one after the other, each where it fits
abbrev pub AddsAll : List Watch → (items kept came : List Item) → (items kept : List Item) → Type 0
AddsAll watched items kept came items_now kept_now =
    (children : List Child) (taken : List Post) (count : ℕ) (halt : Halt)
    → gathering items_now kept_now children taken count halt
    ≡ add_all watched (gathering items kept children taken count halt) came

abbrev pub nones_after : Bool → ℕ → ℕ
nones_after true nones = nones + 1
nones_after false nones = nones

-- Posts were taken, each where there wasn't enough yet, and an item was offered for each that tells one.
pub record Goes (watched : List Watch) (old new : Gathering) (nones nones_now : ℕ) : Type 0 where
  pub posts : List Post
  pub taken : new.taken ≡ old.taken ++ posts
  pub none : nones_now ≡ nones
  pub goes : goes_on watched old posts ≡ true
  pub gathers : new ≡ gather watched old posts

-- Posts were taken, and an item was offered for each that tells one: the posts that a select takes.
pub record Gathered (watched : List Watch) (old new : Gathering) (nones nones_now : ℕ) : Type 0 where
  pub posts : List Post
  pub found_none : Bool
  pub taken : new.taken ≡ old.taken ++ posts
  pub none : nones_now ≡ nones_after found_none nones
  pub are_all : are_taken watched old posts found_none ≡ true
  pub gathers : new ≡ gather watched old posts

abbrev pub note_all : List Post → List Child → List Child
note_all [] children = children
note_all (came ∷ more) children = note_all more (map (note came) children)

-- Posts were taken, and the children noted each.
pub record Notes (children : List Child) (taken : List Post) (children_now : List Child) (taken_now : List Post) : Type 0 where
  pub posts : List Post
  pub takes : taken_now ≡ taken ++ posts
  pub notes : children_now ≡ note_all posts children
