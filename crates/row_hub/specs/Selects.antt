-- Hubs and posts of the rows on selects, and what these look at.
use Rattle.std.specs.Prelude.{ℕ, Bool, List, [], ◌∷◌, None, Option}
use Rattle.model_wire.specs.Call.{Item}
use Rattle.model_wire.specs.declared.watch.Watch.{Watch}
use Rattle.model_pump.specs.Posts.{Post}
use Rattle.model_hub.specs.declared.child.Child.{Child}
use Rattle.model_hub.specs.Hub.{Hub}
use Rattle.model_hub.specs.Others.{Polled, Said}
use Rattle.model_hub.specs.Gathering.{begin, are_taken}
use Rattle.model_hub.specs.Select.{select, polled_wait}
use Rattle.row_hub.specs.Made.{times, out, out_item, out_over, extra_item, hub_of, two, with_kept, with_posts}

-- what a select answers, and what is kept then
abbrev pub seen : Hub × Said → Said × List Item
seen after = (after.1, after.0.kept)

-- of a select that takes these posts, with every lane open
abbrev pub select_seen : List Watch → List Item → List Post → Hub → Said × List Item
select_seen watched sockets posts hub = seen (select watched (with_posts sockets posts) hub)

-- of one whose poll came to this
abbrev pub poll_seen : List Watch → Polled → Hub → Said × List Item
poll_seen watched polled hub = seen (select watched (record (with_posts [] []) { polled = polled }) hub)

-- these are the posts that it takes; it found none where the flag says so
abbrev pub takes : List Watch → List Item → List Post → Bool → Hub → Bool
takes watched sockets posts none hub = are_taken watched (begin watched hub sockets) posts none

-- how long it waits where one without a bound is asked for
abbrev pub wait_of : List Watch → Child → Option ℕ
wait_of watched child = polled_wait watched (hub_of (child ∷ [])) None

-- a whole piece
abbrev pub whole : ℕ → Post
whole n = out n (times 65536 120)

abbrev pub whole_item : ℕ → Item
whole_item n = out_item n (times 65536 120)

abbrev pub three_pieces : List Post
three_pieces = whole 0 ∷ whole 1 ∷ whole 2 ∷ []

abbrev pub four_pieces : List Post
four_pieces = whole 0 ∷ whole 1 ∷ whole 2 ∷ whole 3 ∷ []

-- so many bytes that no piece has room beside them
abbrev pub long_extra : Item
long_extra = extra_item (times 200000 0)

-- a piece that is kept, the end behind it, and the end of another child
abbrev pub full_kept : Hub
full_kept = with_kept (whole_item 0 ∷ out_over 0 ∷ out_over 1 ∷ []) two

-- a piece that is longer than any may be, and the end behind it
abbrev pub too_long : List Item
too_long = out_item 0 (times 65537 120) ∷ out_over 0 ∷ []
