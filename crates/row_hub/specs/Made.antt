-- What rows are made of: posts, items, children, hubs and what the others do.
use Rattle.std.specs.Prelude.{ℕ, zero, suc, ◌+◌, ◌*◌, pos, true, false, List, [], ◌∷◌}
use Rattle.model_value.specs.declared.action.ChildItem.TheVariants as news
use Rattle.model_wire.specs.Call.{Item}
use Rattle.model_wire.specs.declared.answer.Answer.TheVariants as answer
use Rattle.model_wire.specs.declared.item.Item.TheVariants as item
use Rattle.model_wire.specs.declared.watch.Watch.{Watch}
use Rattle.model_wire.specs.declared.watch.Watch.TheVariants as watch
use Rattle.model_pump.specs.declared.post.PostKind.TheVariants as post
use Rattle.model_pump.specs.declared.stream.Stream.TheVariants as stream
use Rattle.model_pump.specs.Posts.{Post, PostKind}
use Rattle.model_hub.specs.declared.child.Child.{Child}
use Rattle.model_hub.specs.declared.child.Closing.{Closing}
use Rattle.model_hub.specs.declared.child.Flow.{Flow}
use Rattle.model_hub.specs.declared.child.Seats.{Seats}
use Rattle.model_hub.specs.Children.{new_child}
use Rattle.model_hub.specs.Hub.{Hub}
use Rattle.model_hub.specs.Told.{Kills, Launches}
use Rattle.model_hub.specs.declared.giving.Giving.TheVariants.{Given, Full, Spent}
use Rattle.model_hub.specs.Others.{Lanes, Others, Ready, Back, Said, Got, Failed, Started}

-- so many times this
abbrev pub times : {A : Type 0} → ℕ → A → List A
times zero x = []
times (suc n) x = x ∷ times n x

-- ---- posts, on the seats of the n-th four
abbrev pub four : ℕ → Seats
four n = record { stdin = 4 * n; out = 4 * n + 1; errs = 4 * n + 2; exit = 4 * n + 3 }

abbrev pub say : ℕ → PostKind → Post
say seat kind = record { seat = seat; number = 0; kind = kind }

abbrev pub out : ℕ → List ℕ → Post
out n bytes = say (4 * n + 1) (post.Piece stream.Out 0 bytes)

abbrev pub out_end : ℕ → Post
out_end n = say (4 * n + 1) (post.End stream.Out)

abbrev pub errs_end : ℕ → Post
errs_end n = say (4 * n + 2) (post.End stream.Errs)

abbrev pub exit : ℕ → Post
exit n = say (4 * n + 3) (post.Exit (pos 0))

abbrev pub room : ℕ → Post
room n = say (4 * n) post.Room

abbrev pub broken : ℕ → Post
broken n = say (4 * n) post.Broken

-- ---- items
abbrev pub out_item : ℕ → List ℕ → Item
out_item n bytes = item.Child n (news.Out bytes)

abbrev pub out_over : ℕ → Item
out_over n = item.Child n news.OutEnd

abbrev pub errs_over : ℕ → Item
errs_over n = item.Child n news.ErrsEnd

abbrev pub exit_item : ℕ → Item
exit_item n = item.Child n (news.Exit (pos 0))

abbrev pub broken_item : ℕ → Item
broken_item n = item.Child n news.Broken

abbrev pub extra_item : List ℕ → Item
extra_item bytes = item.Extra (pos 1) bytes

-- ---- children and hubs
abbrev pub child : ℕ → Child
child n = new_child n (four n)

abbrev pub open_flow : ℕ → ℕ → Flow
open_flow gos pieces = record { gos = gos; pieces = pieces; ended = false; owes = false }

abbrev pub over_flow : ℕ → ℕ → Flow
over_flow gos pieces = record { gos = gos; pieces = pieces; ended = true; owes = false }

abbrev pub owing_flow : ℕ → ℕ → Flow
owing_flow gos pieces = record { gos = gos; pieces = pieces; ended = false; owes = true }

abbrev pub with_out : Flow → Child
with_out flow = record (child 0) { out = flow }

abbrev pub with_closing : Closing → Child
with_closing closing = record (child 0) { closing = closing }

-- none of these Writes has a Room post taken
abbrev pub with_writes : ℕ → Child
with_writes writes = record (child 0) { writes = writes }

abbrev pub broken_child : Child
broken_child = record (child 0) { broken = true }

-- a hub of these children, with nothing kept
abbrev pub hub_of : List Child → Hub
hub_of children = record { children = children; kept = []; free = []; taken = []; starved = false }

abbrev pub one : Hub
one = hub_of (child 0 ∷ [])

abbrev pub two : Hub
two = hub_of (child 0 ∷ child 1 ∷ [])

abbrev pub five : Hub
five = hub_of (child 0 ∷ child 1 ∷ child 2 ∷ child 3 ∷ child 4 ∷ [])

abbrev pub with_kept : List Item → Hub → Hub
with_kept kept hub = record hub { kept = kept }

-- ---- what is watched
-- each letter of this child but `w`
abbrev pub boex : ℕ → Watch
boex n = watch.Child n false true true true true

abbrev pub every_letter : ℕ → Watch
every_letter n = watch.Child n true true true true true

abbrev pub all_one : List Watch
all_one = boex 0 ∷ []

abbrev pub both : List Watch
both = boex 0 ∷ boex 1 ∷ watch.Extra ∷ []

abbrev pub all_five : List Watch
all_five = boex 0 ∷ boex 1 ∷ boex 2 ∷ boex 3 ∷ boex 4 ∷ []

-- one child is watched for its exit and its standard error alone
abbrev pub errs_exit : List Watch
errs_exit = watch.Child 0 false false false true true ∷ []

abbrev pub out_alone : List Watch
out_alone = watch.Child 0 false false true false false ∷ []

-- ---- what the others do
abbrev pub all_given : Lanes
all_given n offer = Given

abbrev pub all_full : Lanes
all_full n offer = Full

abbrev pub all_spent : Lanes
all_spent n offer = Spent

-- no poster comes back
abbrev pub none_back : ℕ → List Back
none_back n = []

abbrev pub with_posts : List Item → List Post → Others
with_posts sockets posts =
    record {
      lanes = all_given;
      polled = Ready 5 sockets;
      net = Failed;
      posts = posts;
      launching = Started;
      reports = none_back;
    }

abbrev pub with_lanes : Lanes → Others
with_lanes lanes = record (with_posts [] []) { lanes = lanes }

-- ---- what is answered
abbrev pub turn_of : List Item → Said
turn_of items = Got (answer.Turn 5 items)

-- ---- what a launcher tells before it did anything
abbrev pub no_kills : Kills
no_kills = record { count = 0; child = 0 }

abbrev pub no_launches : Launches
no_launches = record { count = 0; words = []; child = 0 }
