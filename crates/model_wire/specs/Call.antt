-- What the loop asks of the outside, what the outside answers, and how both are written.
-- Their cases are those of the enumerations. Source: `selectors.py`; the library reference, `socket` and `subprocess`.
use Rattle.std.specs.Prelude.{ℕ, Bool, true, false, List, [], ◌∷◌, ◌++◌, Option, Some, None, map, codes}
use Rattle.std.specs.Fmt.{decimal, signed_decimal}
use Rattle.std.specs.List.{flat_map}
use Rattle.model_value.specs.declared.action.ChildItem.{ChildItem}
use Rattle.model_value.specs.declared.action.ChildItem.TheVariants as news
use Rattle.model_value.specs.Escapes.{bytes_literal}
use Rattle.model_value.specs.Shown.{shown, id_text}
use Rattle.model_value.specs.Value.{Text, Items, values}
use Rattle.model_wire.specs.declared.watch.Watch.{Watch}
use Rattle.model_wire.specs.declared.watch.Watch.TheVariants as watch
use Rattle.model_wire.specs.declared.item.Item as any_item
use Rattle.model_wire.specs.declared.item.Item.TheVariants as item
use Rattle.model_wire.specs.declared.item.Readiness.{Readiness}
use Rattle.model_wire.specs.declared.item.Readiness.TheVariants as ready
use Rattle.model_wire.specs.declared.answer.Answer as any_answer
use Rattle.model_wire.specs.declared.answer.Answer.TheVariants as answer
use Rattle.model_wire.specs.declared.call.Call as any_call
use Rattle.model_wire.specs.declared.call.Call.TheVariants as call

abbrev pub Item : Type 0
Item = any_item.Item (List ℕ)

abbrev pub Answer : Type 0
Answer = any_answer.Answer (List ℕ) (List Item)

abbrev pub Call : Type 0
Call = any_call.Call (List ℕ) (List Watch) (List (List ℕ))

-- the ids of listeners, connections and children
abbrev pub server_text : ℕ → List ℕ
server_text server = id_text 76 server

abbrev pub conn_text : ℕ → List ℕ
conn_text conn = id_text 67 conn

abbrev pub child_text : ℕ → List ℕ
child_text child = id_text 80 child

-- ---- calls
abbrev pub wait_text : Option ℕ → List ℕ
wait_text None = codes "none"
wait_text (Some wait) = decimal wait

abbrev pub letter_if : Bool → ℕ → List ℕ
letter_if true letter = letter ∷ []
letter_if false letter = []

-- what is watched of a listener, a connection or a child, with a space before it; nothing where no letter is left
abbrev pub watched_text : List ℕ → List ℕ → List ℕ
watched_text subject [] = []
watched_text subject (letter ∷ letters) = codes " " ++ subject ++ codes " " ++ letter ∷ letters

-- `r`, `c`, `rw`, `wboex`, those that hold, and `X`
abbrev pub watch_text : Watch → List ℕ
watch_text (watch.Server server) = watched_text (server_text server) (codes "r")
watch_text (watch.Making conn) = watched_text (conn_text conn) (codes "c")
watch_text (watch.Conn conn reads writes) = watched_text (conn_text conn) (letter_if reads 114 ++ letter_if writes 119)
watch_text (watch.Child child feeds stdin out errs exit) =
    watched_text (child_text child) (letter_if feeds 119 ++ letter_if stdin 98 ++ letter_if out 111 ++ letter_if errs 101 ++ letter_if exit 120)
watch_text watch.Extra = codes " X"

-- a call as it is written
abbrev pub written_call : Call → List ℕ
written_call (call.Select wait watched) = codes "select " ++ wait_text wait ++ flat_map watch_text watched
written_call (call.Listen port) = codes "listen " ++ decimal port
written_call (call.Accept server) = codes "accept " ++ server_text server
written_call (call.Connect port) = codes "connect " ++ decimal port
written_call (call.Recv conn) = codes "recv " ++ conn_text conn ++ codes " 262144"
written_call (call.Send conn bytes) = codes "send " ++ conn_text conn ++ codes " " ++ bytes_literal bytes
written_call (call.Feed child bytes) = codes "feed " ++ child_text child ++ codes " " ++ bytes_literal bytes
written_call (call.Shut conn) = codes "shut " ++ conn_text conn
written_call (call.Close conn) = codes "close " ++ conn_text conn
written_call (call.CloseServer server) = codes "close " ++ server_text server
written_call (call.End child) = codes "end " ++ child_text child
written_call (call.Kill child) = codes "kill " ++ child_text child
written_call (call.Launch words) = codes "launch " ++ shown (Items (values (map Text words)))
written_call (call.Extra code bytes) = codes "extra " ++ signed_decimal code ++ codes " " ++ bytes_literal bytes

-- ---- answers
abbrev pub ready_text : Readiness → List ℕ
ready_text ready.Read = codes "r"
ready_text ready.Write = codes "w"
ready_text ready.Both = codes "rw"

abbrev pub news_text : ChildItem (List ℕ) → List ℕ
news_text news.Broken = codes "broken"
news_text (news.Out bytes) = codes "out " ++ bytes_literal bytes
news_text news.OutEnd = codes "outend"
news_text (news.Errs bytes) = codes "err " ++ bytes_literal bytes
news_text news.ErrsEnd = codes "errend"
news_text (news.Exit code) = codes "exit " ++ signed_decimal code

abbrev pub item_text : Item → List ℕ
item_text (item.ReadableServer server) = server_text server ++ codes " r"
item_text (item.Ready conn letters) = conn_text conn ++ codes " " ++ ready_text letters
item_text (item.Up conn) = conn_text conn ++ codes " up"
item_text (item.Down conn) = conn_text conn ++ codes " down"
item_text (item.WritableChild child) = child_text child ++ codes " w"
item_text (item.Child child told) = child_text child ++ codes " " ++ news_text told
item_text (item.Extra code bytes) = codes "X " ++ signed_decimal code ++ codes " " ++ bytes_literal bytes

-- an item, with a space before it
abbrev pub spaced_item : Item → List ℕ
spaced_item came = codes " " ++ item_text came

-- an answer as it is written: a journal's line, without its newline
abbrev pub written : Answer → List ℕ
written (answer.Turn now items) = codes "turn " ++ decimal now ++ flat_map spaced_item items
written answer.Done = codes "ok"
written answer.Refused = codes "refused"
written answer.Conn = codes "conn"
written answer.Again = codes "again"
written answer.Broken = codes "broken"
written (answer.Data bytes) = codes "data " ++ bytes_literal bytes
written answer.Eof = codes "eof"
written (answer.Took count) = codes "took " ++ decimal count
written answer.Child = codes "child"
written (answer.Extra bytes) = codes "extra " ++ bytes_literal bytes
