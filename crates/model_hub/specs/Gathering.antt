-- How the answer of a select is gathered: the poller's items, then what was kept, `w` and `broken`, and then an item for
-- each post that tells one, as long as posts are taken.
use Rattle.std.specs.Prelude.{ℕ, ◌+◌, ◌-◌, Bool, true, false, not, ◌&&◌, List, [], ◌∷◌, ◌++◌, length, map, sum, nat_le, nat_lt, if◌then◌else◌}
use Rattle.std.specs.List.{list_any, flat_map}
use Rattle.model_value.specs.declared.action.ChildItem.TheVariants as news
use Rattle.model_wire.specs.Call.{Item}
use Rattle.model_wire.specs.declared.item.Item.TheVariants as item
use Rattle.model_wire.specs.declared.watch.Watch.{Watch}
use Rattle.model_wire.specs.declared.watch.Watch.TheVariants as watch
use Rattle.model_wire.specs.Fits.{turn_fits, clashes, bytes_in, most_bytes, most_items, most_piece}
use Rattle.model_hub.specs.declared.halt.Halt.{Halt}
use Rattle.model_hub.specs.declared.halt.Halt.TheVariants.{Going, Faulted, Starving}
use Rattle.model_pump.specs.declared.post.PostKind.TheVariants as post
use Rattle.model_pump.specs.Posts.{Post, PostKind}
use Rattle.model_hub.specs.Posts.{told_of, note}
use Rattle.model_hub.specs.declared.child.Child.{Child}
use Rattle.model_hub.specs.Hub.{Hub, waiting_of, is_broken}

-- The answer so far, the items that are kept so far, the children, the posts that were taken in all, and how many of them
-- in this call.
pub record Gathering : Type 0 where
  pub items : List Item
  pub kept : List Item
  pub children : List Child
  pub taken : List Post
  pub count : ℕ
  pub halt : Halt

-- `P broken` is no post's item: it is told as long as it is so, and never kept
abbrev pub is_kept : Item → Bool
is_kept (item.Child child news.Broken) = false
is_kept _ = true

abbrev pub kept_of : Item → List Item
kept_of came = if is_kept came then came ∷ [] else []

-- The answer with this item fits, and the item doesn't stand behind a kept one of its child and seat.
abbrev pub goes_in : List Watch → Gathering → Item → Bool
goes_in watched so_far came = not (list_any (clashes came) so_far.kept) && turn_fits watched 0 (so_far.items ++ came ∷ [])

abbrev pub offer : List Watch → Gathering → Item → Gathering
offer watched so_far came =
    if goes_in watched so_far came then record so_far { items = so_far.items ++ came ∷ [] }
    else record so_far { kept = so_far.kept ++ kept_of came }

abbrev pub offer_all : List Watch → Gathering → List Item → Gathering
offer_all watched so_far [] = so_far
offer_all watched so_far (came ∷ more) = offer_all watched (offer watched so_far came) more

-- an item that is so, and not kept where it doesn't fit
abbrev pub add : List Watch → Gathering → Item → Gathering
add watched so_far came =
    if turn_fits watched 0 (so_far.items ++ came ∷ []) then record so_far { items = so_far.items ++ came ∷ [] } else so_far

abbrev pub add_all : List Watch → Gathering → List Item → Gathering
add_all watched so_far [] = so_far
add_all watched so_far (came ∷ more) = add_all watched (add watched so_far came) more

-- how many Writes without a Room post a child may have before it is no longer writable
abbrev pub most_waiting : ℕ
most_waiting = 7

-- What is so of a child's standard input as the select begins. Whether it is watched is for the answer to say.
abbrev pub stdin_items : List Child → Watch → List Item
stdin_items children (watch.Child child feeds stdin out errs exit) =
    (if nat_lt (waiting_of child children) most_waiting then item.WritableChild child ∷ [] else [])
    ++ (if is_broken child children then item.Child child news.Broken ∷ [] else [])
stdin_items children _ = []

abbrev pub start : Hub → List Item → Gathering
start hub sockets =
    record { items = sockets; kept = []; children = hub.children; taken = hub.taken; count = 0; halt = Going }

-- before posts are taken
abbrev pub begin : List Watch → Hub → List Item → Gathering
begin watched hub sockets =
    add_all watched (offer_all watched (start hub sockets) hub.kept) (flat_map (stdin_items hub.children) watched)

abbrev pub halt_at : PostKind → Halt
halt_at post.Fault = Faulted
halt_at post.Starved = Starving
halt_at _ = Going

-- a post was taken: the children note it, and its item is offered
abbrev pub note_in : Gathering → Post → Gathering
note_in so_far came =
    record so_far {
      children = map (note came) so_far.children;
      taken = so_far.taken ++ came ∷ [];
      count = so_far.count + 1;
      halt = halt_at came.kind;
    }

abbrev pub after_post : List Watch → Gathering → Post → Gathering
after_post watched so_far came = offer_all watched (note_in so_far came) (told_of so_far.children came)

abbrev pub gather : List Watch → Gathering → List Post → Gathering
gather watched so_far [] = so_far
gather watched so_far (came ∷ more) = gather watched (after_post watched so_far came) more

-- how many posts one call takes at most
abbrev pub most_posts : ℕ
most_posts = 4096

abbrev pub is_halted : Halt → Bool
is_halted Going = false
is_halted Faulted = true
is_halted Starving = true

-- no more than a piece's bytes must be free, and no less than one item
abbrev pub is_full : List Item → Bool
is_full items =
    if nat_le most_items (length items) then true else nat_lt (most_bytes - sum (map bytes_in items)) most_piece

abbrev pub is_enough : Gathering → Bool
is_enough so_far = if is_halted so_far.halt then true else if nat_le most_posts so_far.count then true else is_full so_far.items

-- before each of these posts it had not enough
abbrev pub goes_on : List Watch → Gathering → List Post → Bool
goes_on watched so_far [] = true
goes_on watched so_far (came ∷ more) = not (is_enough so_far) && goes_on watched (after_post watched so_far came) more

-- These are the posts that a select takes: it takes one more until it has enough, or until the inbox gave none.
abbrev pub are_taken : List Watch → Gathering → List Post → (found_none : Bool) → Bool
are_taken watched so_far posts found_none =
    goes_on watched so_far posts && (if is_enough (gather watched so_far posts) then not found_none else found_none)
