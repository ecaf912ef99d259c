-- Which answers fit a call.
use denote.Enum.Bare.{sameb}
use Rattle.std.specs.Prelude.{ℕ, Bool, true, false, not, ◌&&◌, ◌==◌, List, [], ◌∷◌, Option, Some, None, length, map, sum, nat_le, nat_lt}
use Rattle.std.specs.List.{list_all, list_any}
use Rattle.model_value.specs.declared.action.ChildItem.{ChildItem}
use Rattle.model_value.specs.declared.action.ChildItem.TheVariants as news
use Rattle.model_value.specs.Number.{most}
use Rattle.model_wire.specs.contracts.item.Interest.{the_type}
use Rattle.model_wire.specs.declared.watch.Watch.{Watch}
use Rattle.model_wire.specs.declared.watch.Watch.TheVariants as watch
use Rattle.model_wire.specs.declared.item.Item.TheVariants as item
use Rattle.model_wire.specs.declared.item.Interest.{Interest}
use Rattle.model_wire.specs.declared.item.Interest.TheVariants as interest
use Rattle.model_wire.specs.declared.item.Readiness.{Readiness}
use Rattle.model_wire.specs.declared.item.Readiness.TheVariants as ready
use Rattle.model_wire.specs.declared.answer.Answer.TheVariants as answer
use Rattle.model_wire.specs.declared.call.Call.TheVariants as call
use Rattle.model_wire.specs.Call.{Call, Answer, Item}

-- the greatest number of bytes that one recv, one turn or one answer to an extra has
abbrev pub most_bytes : ℕ
most_bytes = 262144

-- the greatest number of bytes in one piece of a child's output
abbrev pub most_piece : ℕ
most_piece = 65536

-- the greatest number of items in one turn
abbrev pub most_items : ℕ
most_items = 4096

-- a number of bytes is at least one, and at most this
abbrev pub is_some_within : ℕ → ℕ → Bool
is_some_within bound count = nat_lt 0 count && nat_le count bound

-- ---- what is watched
abbrev pub is_ready_for : Readiness → Bool → Bool → Bool
is_ready_for ready.Read reads writes = reads
is_ready_for ready.Write reads writes = writes
is_ready_for ready.Both reads writes = reads && writes

-- the letter of what a child tells is among those that are watched
abbrev pub is_told : ChildItem (List ℕ) → (stdin out errs exit : Bool) → Bool
is_told news.Broken stdin out errs exit = stdin
is_told (news.Out bytes) stdin out errs exit = out
is_told news.OutEnd stdin out errs exit = out
is_told (news.Errs bytes) stdin out errs exit = errs
is_told news.ErrsEnd stdin out errs exit = errs
is_told (news.Exit code) stdin out errs exit = exit

-- what an item needs is watched here
abbrev pub is_watched_by : Item → Watch → Bool
is_watched_by (item.ReadableServer server) (watch.Server watched) = server == watched
is_watched_by (item.Ready conn letters) (watch.Conn watched reads writes) = conn == watched && is_ready_for letters reads writes
is_watched_by (item.Up conn) (watch.Making watched) = conn == watched
is_watched_by (item.Down conn) (watch.Making watched) = conn == watched
is_watched_by (item.WritableChild child) (watch.Child watched feeds stdin out errs exit) = child == watched && feeds
is_watched_by (item.Child child told) (watch.Child watched feeds stdin out errs exit) = child == watched && is_told told stdin out errs exit
is_watched_by (item.Extra code bytes) watch.Extra = true
is_watched_by _ _ = false

abbrev pub is_watched : List Watch → Item → Bool
is_watched watched came = list_any (is_watched_by came) watched

-- ---- what stands once
abbrev pub news_interest : ChildItem (List ℕ) → Interest
news_interest news.Broken = interest.Stdin
news_interest (news.Out bytes) = interest.Out
news_interest news.OutEnd = interest.Out
news_interest (news.Errs bytes) = interest.Errs
news_interest news.ErrsEnd = interest.Errs
news_interest (news.Exit code) = interest.Exit

-- A listener or a connection stands in one item of a turn at most, and so does each letter of a child. Items for the
-- requests that are added to the loop's own may repeat.
abbrev pub interest_of : Item → Option (Interest × ℕ)
interest_of (item.ReadableServer server) = Some (interest.Server, server)
interest_of (item.Ready conn letters) = Some (interest.Conn, conn)
interest_of (item.Up conn) = Some (interest.Conn, conn)
interest_of (item.Down conn) = Some (interest.Conn, conn)
interest_of (item.WritableChild child) = Some (interest.Feed, child)
interest_of (item.Child child told) = Some (news_interest told, child)
interest_of (item.Extra code bytes) = None

abbrev pub is_same : Option (Interest × ℕ) → Option (Interest × ℕ) → Bool
is_same None other = false
is_same (Some taken) None = false
is_same (Some taken) (Some other) = sameb the_type taken.0 other.0 && taken.1 == other.1

-- two items take up the same
abbrev pub clashes : Item → Item → Bool
clashes first second = is_same (interest_of first) (interest_of second)

-- no item takes up the same as one after it
abbrev pub stand_apart : List Item → Bool
stand_apart [] = true
stand_apart (first ∷ others) = not (list_any (clashes first) others) && stand_apart others

-- ---- how much comes
abbrev pub news_bytes : ChildItem (List ℕ) → ℕ
news_bytes news.Broken = 0
news_bytes (news.Out bytes) = length bytes
news_bytes news.OutEnd = 0
news_bytes (news.Errs bytes) = length bytes
news_bytes news.ErrsEnd = 0
news_bytes (news.Exit code) = 0

-- how many bytes an item brings
abbrev pub bytes_in : Item → ℕ
bytes_in (item.ReadableServer server) = 0
bytes_in (item.Ready conn letters) = 0
bytes_in (item.Up conn) = 0
bytes_in (item.Down conn) = 0
bytes_in (item.WritableChild child) = 0
bytes_in (item.Child child told) = news_bytes told
bytes_in (item.Extra code bytes) = length bytes

abbrev pub is_piece : ChildItem (List ℕ) → Bool
is_piece news.Broken = true
is_piece (news.Out bytes) = is_some_within most_piece (length bytes)
is_piece news.OutEnd = true
is_piece (news.Errs bytes) = is_some_within most_piece (length bytes)
is_piece news.ErrsEnd = true
is_piece (news.Exit code) = true

-- a piece of a child's output has a byte, and not too many
abbrev pub is_sized : Item → Bool
is_sized (item.ReadableServer server) = true
is_sized (item.Ready conn letters) = true
is_sized (item.Up conn) = true
is_sized (item.Down conn) = true
is_sized (item.WritableChild child) = true
is_sized (item.Child child told) = is_piece told
is_sized (item.Extra code bytes) = true

-- not too many items come, and not too many bytes with them
abbrev pub are_few : List Item → Bool
are_few items = nat_le (length items) most_items && nat_le (sum (map bytes_in items)) most_bytes

-- an item is watched, and brings as much as it may
abbrev pub is_awaited : List Watch → Item → Bool
is_awaited watched came = is_watched watched came && is_sized came

abbrev pub are_awaited : List Watch → List Item → Bool
are_awaited watched items = list_all (is_awaited watched) items && stand_apart items

-- what a turn may say to a select with this watch list
abbrev pub turn_fits : List Watch → ℕ → List Item → Bool
turn_fits watched now items = nat_le now most && (are_few items && are_awaited watched items)

-- ---- calls and answers
abbrev pub fits : Call → Answer → Bool
fits (call.Select wait watched) (answer.Turn now items) = turn_fits watched now items
fits (call.Listen port) answer.Done = true
fits (call.Listen port) answer.Refused = true
fits (call.Accept server) answer.Conn = true
fits (call.Accept server) answer.Again = true
fits (call.Accept server) answer.Broken = true
fits (call.Connect port) answer.Conn = true
fits (call.Connect port) answer.Refused = true
fits (call.Recv conn) (answer.Data bytes) = is_some_within most_bytes (length bytes)
fits (call.Recv conn) answer.Eof = true
fits (call.Recv conn) answer.Again = true
fits (call.Recv conn) answer.Broken = true
fits (call.Send conn bytes) (answer.Took count) = is_some_within (length bytes) count
fits (call.Send conn bytes) answer.Again = true
fits (call.Send conn bytes) answer.Broken = true
fits (call.Feed child bytes) (answer.Took count) = is_some_within (length bytes) count
fits (call.Feed child bytes) answer.Again = true
fits (call.Feed child bytes) answer.Broken = true
fits (call.Shut conn) answer.Done = true
fits (call.Close conn) answer.Done = true
fits (call.CloseServer server) answer.Done = true
fits (call.End child) answer.Done = true
fits (call.Kill child) answer.Done = true
fits (call.Launch words) answer.Child = true
fits (call.Launch words) answer.Refused = true
fits (call.Extra code bytes) (answer.Extra said) = nat_le (length said) most_bytes
fits (call.Extra code bytes) answer.Refused = true
fits _ _ = false
