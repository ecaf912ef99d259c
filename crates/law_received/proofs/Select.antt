-- What a select brings of a pipe: at most one piece of news, and only where the pipe takes more.
use Rattle.std.proofs.Common.{◌≡◌, ℕ, ℤ, ◌+◌, ◌≤◌, Bool, true, false, eqb, not, ◌&&◌, ◌||◌, List, [], ◌∷◌, ◌++◌, Option, Some, None, refl, sym, ap}
use Rattle.std.proofs.Common.{slice_get, ◌∙◌, arith}
use Rattle.std.specs.List.{flat_map, list_all, list_any}
use Rattle.std.proofs.lemmas.Bool.{and_parts, eq-eqb, eqb-true, false≢true, or_parts}
use Rattle.std.proofs.lemmas.List.Folds.{list_any-append}
use Rattle.model_pump.specs.declared.stream.Stream.{Stream}
use Rattle.model_pump.specs.declared.stream.Stream.TheVariants as stream
use Rattle.model_value.specs.declared.action.Action.TheVariants as action
use Rattle.model_value.specs.declared.action.ChildItem.{ChildItem}
use Rattle.model_value.specs.declared.action.ChildItem.TheVariants as news
use Rattle.model_value.specs.Action.{Action}
use Rattle.model_wire.specs.declared.answer.Answer.TheVariants as answer
use Rattle.model_wire.specs.declared.item.Item.TheVariants as item
use Rattle.model_wire.specs.declared.item.Interest.{Interest}
use Rattle.model_wire.specs.declared.item.Interest.TheVariants as interest
use Rattle.model_wire.specs.declared.item.Readiness.TheVariants as ready
use Rattle.model_wire.specs.declared.watch.Watch.{Watch}
use Rattle.model_wire.specs.declared.watch.Watch.TheVariants as watch
use Rattle.model_wire.specs.Call.{Answer, Item}
use Rattle.model_wire.specs.Fits.{are_awaited, are_few, clashes, fits, interest_of, is_awaited, is_same, is_sized, is_told, is_watched, is_watched_by}
use Rattle.model_wire.specs.Fits.{stand_apart}
use Rattle.model_value.specs.Number.{most}
use Rattle.model_stream.specs.Children.{Child}
use Rattle.model_stream.specs.Connections.{Connection, reads}
use Rattle.model_stream.specs.Listeners.{Server}
use Rattle.model_stream.specs.Receivers.{takes_more}
use Rattle.model_stream.specs.Requests.{StreamReader, OfConn, OfChild}
use Rattle.model_stream.specs.Senders.{has_unsent, is_lost}
use Rattle.std.specs.Prelude.{is_none, nat_le}
use Rattle.model_stream.specs.Streams.{Opened, OpenedChild, OpenedConn, OpenedServer, Streams, may_connect}
use Rattle.model_stream.specs.Watching as watching
use Rattle.model_stream.specs.Watching.{entry_if, watch_list, watched_child, watched_connection, watched_server, watched_standing}
use Rattle.model_machine.specs.Outside.{actions_of, news_of, select, watched}
use Rattle.law_stream.specs.Ways.{one_if}
use Rattle.law_received.specs.Readers.{is_news_to, may_hear, pipe_hears}
use Rattle.law_received.specs.Waiting.{told_count}

abbrev is_item_to : StreamReader → Item → Bool
is_item_to from (item.Child child told) = is_news_to from (action.ChildItem child told)
is_item_to from _ = false

abbrev items_to : StreamReader → List Item → ℕ
items_to from [] = 0
items_to from (it ∷ more) = one_if (is_item_to from it) + items_to from more

-- ---- what is no child's is no news
none_ready : (from : StreamReader) (conn : ℕ) (more : List Action) → told_count from (action.Readable conn ∷ more) ≡ told_count from more
none_ready (OfConn id) conn more = omega arith
none_ready (OfChild stream.Out id) conn more = omega arith
none_ready (OfChild stream.Errs id) conn more = omega arith

none_writable : (from : StreamReader) (conn : ℕ) (more : List Action) → told_count from (action.Writable conn ∷ more) ≡ told_count from more
none_writable (OfConn id) conn more = omega arith
none_writable (OfChild stream.Out id) conn more = omega arith
none_writable (OfChild stream.Errs id) conn more = omega arith

none_server : (from : StreamReader) (id : ℕ) (more : List Action) → told_count from (action.ReadableServer id ∷ more) ≡ told_count from more
none_server (OfConn id) server more = omega arith
none_server (OfChild stream.Out id) server more = omega arith
none_server (OfChild stream.Errs id) server more = omega arith

none_up : (from : StreamReader) (conn : ℕ) (more : List Action) → told_count from (action.Up conn ∷ more) ≡ told_count from more
none_up (OfConn id) conn more = omega arith
none_up (OfChild stream.Out id) conn more = omega arith
none_up (OfChild stream.Errs id) conn more = omega arith

none_down : (from : StreamReader) (conn : ℕ) (more : List Action) → told_count from (action.Down conn ∷ more) ≡ told_count from more
none_down (OfConn id) conn more = omega arith
none_down (OfChild stream.Out id) conn more = omega arith
none_down (OfChild stream.Errs id) conn more = omega arith

none_feed : (from : StreamReader) (child : ℕ) (more : List Action) → told_count from (action.WritableChild child ∷ more) ≡ told_count from more
none_feed (OfConn id) child more = omega arith
none_feed (OfChild stream.Out id) child more = omega arith
none_feed (OfChild stream.Errs id) child more = omega arith

none_extra : (from : StreamReader) (code : ℤ) (bytes : List ℕ) (more : List Action)
    → told_count from (action.ExtraItem code bytes ∷ more) ≡ told_count from more
none_extra (OfConn id) code bytes more = omega arith
none_extra (OfChild stream.Out id) code bytes more = omega arith
none_extra (OfChild stream.Errs id) code bytes more = omega arith

item_count : (from : StreamReader) (it : Item) (more : List Action)
    → told_count from (actions_of it ++ more) ≡ one_if (is_item_to from it) + told_count from more
item_count from (item.Child child told) more = refl
item_count from (item.ReadableServer server) more = let e = none_server from server more in omega (arith, e)
item_count from (item.Ready conn ready.Read) more = let e = none_ready from conn more in omega (arith, e)
item_count from (item.Ready conn ready.Write) more = let e = none_writable from conn more in omega (arith, e)
item_count from (item.Ready conn ready.Both) more =
    let e = none_ready from conn (action.Writable conn ∷ more) ∙ none_writable from conn more in omega (arith, e)
item_count from (item.Up conn) more = let e = none_up from conn more in omega (arith, e)
item_count from (item.Down conn) more = let e = none_down from conn more in omega (arith, e)
item_count from (item.WritableChild child) more = let e = none_feed from child more in omega (arith, e)
item_count from (item.Extra code bytes) more = let e = none_extra from code bytes more in omega (arith, e)

items_count : (from : StreamReader) (items : List Item) → told_count from (flat_map actions_of items) ≡ items_to from items
items_count from [] = refl
items_count from (it ∷ more) =
    let one = item_count from it (flat_map actions_of more) in
    let rest = items_count from more in
    omega (arith, one, rest)

-- ---- two of one pipe clash
abbrev interest_for : Stream → Interest
interest_for stream.Out = interest.Out
interest_for stream.Errs = interest.Errs

item_is : (pipe : Stream) (id : ℕ) (it : Item) → is_item_to (OfChild pipe id) it ≡ true → interest_of it ≡ Some (interest_for pipe, id)
item_is stream.Out id (item.Child child (news.Out bytes)) is = ap (λ n. Some (interest.Out, n)) (sym (eqb-true id child is))
item_is stream.Out id (item.Child child news.OutEnd) is = ap (λ n. Some (interest.Out, n)) (sym (eqb-true id child is))
item_is stream.Errs id (item.Child child (news.Errs bytes)) is = ap (λ n. Some (interest.Errs, n)) (sym (eqb-true id child is))
item_is stream.Errs id (item.Child child news.ErrsEnd) is = ap (λ n. Some (interest.Errs, n)) (sym (eqb-true id child is))
item_is stream.Out id _ is = absurd (false≢true is)
item_is stream.Errs id _ is = absurd (false≢true is)

same_interest : (pipe : Stream) (id : ℕ) → is_same (Some (interest_for pipe, id)) (Some (interest_for pipe, id)) ≡ true
same_interest stream.Out id = eq-eqb id id refl
same_interest stream.Errs id = eq-eqb id id refl

both_clash : (pipe : Stream) (id : ℕ) (first second : Item) → is_item_to (OfChild pipe id) first ≡ true → is_item_to (OfChild pipe id) second ≡ true
    → clashes first second ≡ true
both_clash pipe id first second one two =
    ap (λ o. is_same o (interest_of second)) (item_is pipe id first one)
    ∙ ap (λ o. is_same (Some (interest_for pipe, id)) o) (item_is pipe id second two) ∙ same_interest pipe id

not_both : (b : Bool) → b ≡ true → b ≡ false → ⊥
not_both true is none = let bad : ⊥ = cc in bad
not_both false is none = let bad : ⊥ = cc in bad

none_first : (pipe : Stream) (id : ℕ) (it other : Item) (more : List Item) → is_item_to (OfChild pipe id) it ≡ true
    → items_to (OfChild pipe id) more ≡ 0 → clashes it other ≡ false → items_to (OfChild pipe id) (other ∷ more) ≡ 0
none_first pipe id it other more is rest none = at (is_item_to (OfChild pipe id) other) refl
  where
    at : (b : Bool) → is_item_to (OfChild pipe id) other ≡ b → one_if b + items_to (OfChild pipe id) more ≡ 0
    at true mine = absurd (not_both (clashes it other) (both_clash pipe id it other is mine) none)
    at false mine = omega (arith, rest)

none_more : (pipe : Stream) (id : ℕ) (it : Item) (items : List Item) → is_item_to (OfChild pipe id) it ≡ true → list_any (clashes it) items ≡ false
    → items_to (OfChild pipe id) items ≡ 0
none_more pipe id it [] is none = refl
none_more pipe id it (other ∷ more) is none =
    let parts = or_parts (clashes it other) (list_any (clashes it) more) none in
    none_first pipe id it other more is (none_more pipe id it more is parts.1) parts.0

-- ---- what has news is watched, and takes more
any_if : (f : Watch → Bool) (b : Bool) (w : Watch) → list_any f (entry_if b w) ≡ true → f w ≡ true
any_if f true w is = at (f w) is
  where
    at : (c : Bool) → c || false ≡ true → c ≡ true
    at true is = refl
    at false is = is
any_if f false w is = absurd (false≢true is)

-- what a pipe's news needs
abbrev pick : Stream → Bool → Bool → Bool
pick stream.Out out errs = out
pick stream.Errs out errs = errs

told_which : (pipe : Stream) (id child : ℕ) (told : ChildItem (List ℕ)) (stdin out errs exit : Bool)
    → is_news_to (OfChild pipe id) (action.ChildItem child told) ≡ true → is_told told stdin out errs exit ≡ true → (id ≡ child) × (pick pipe out errs ≡ true)
told_which stream.Out id child (news.Out bytes) stdin out errs exit is told = (eqb-true id child is, told)
told_which stream.Out id child news.OutEnd stdin out errs exit is told = (eqb-true id child is, told)
told_which stream.Errs id child (news.Errs bytes) stdin out errs exit is told = (eqb-true id child is, told)
told_which stream.Errs id child news.ErrsEnd stdin out errs exit is told = (eqb-true id child is, told)
told_which stream.Out id child _ stdin out errs exit is told = absurd (false≢true is)
told_which stream.Errs id child _ stdin out errs exit is told = absurd (false≢true is)

picked : (pipe : Stream) (p : Child) → pick pipe (takes_more p.out) (takes_more p.errs) ≡ true → pipe_hears pipe (Some p) ≡ true
picked stream.Out p is = is
picked stream.Errs p is = is

-- of a child's item
module _ (pipe : Stream) (id : ℕ) (s : Streams) (child : ℕ) (told : ChildItem (List ℕ))
    (is : is_news_to (OfChild pipe id) (action.ChildItem child told) ≡ true) where
  abbrev by_item : Watch → Bool
  by_item = is_watched_by (item.Child child told)

  server_none : (b : Bool) (number : ℕ) (found : Option Server) → list_any by_item (watched_server b number found) ≡ true → ⊥
  server_none b number None any = false≢true any
  server_none b number (Some server) any = false≢true (any_if by_item (server.is_open && b) (watch.Server number) any)

  conn_none : (number : ℕ) (found : Option Connection) → list_any by_item (watched_connection number found) ≡ true → ⊥
  conn_none number None any = false≢true any
  conn_none number (Some c) any = at c.making any
    where
      at : (making : Option ℕ) → list_any by_item (elim making [
        | Some on ↦ watch.Making number ∷ []
        | None ↦ watched_standing number (reads c) (has_unsent c.sender)
      ]) ≡ true → ⊥
      at (Some on) any = false≢true any
      at None any =
          false≢true (any_if by_item (reads c || has_unsent c.sender) (watch.Conn number (reads c) (has_unsent c.sender)) any)

  child_hears : (number : ℕ) (found : Option Child) → slice_get s.children number ≡ found → list_any by_item (watched_child number found) ≡ true
      → may_hear (OfChild pipe id) s ≡ true
  child_hears number None e any = absurd (false≢true any)
  child_hears number (Some p) e any =
      let feeds = has_unsent p.stdin in
      let stdin = not (is_lost p.stdin) in
      let out = takes_more p.out in
      let errs = takes_more p.errs in
      let exit = is_none p.code in
      let it = and_parts (eqb child number) (is_told told stdin out errs exit)
      (any_if by_item _ (watch.Child number feeds stdin out errs exit) any) in
      let which = told_which pipe id child told stdin out errs exit is it.1 in
      let same : id ≡ number = which.0 ∙ eqb-true child number it.0 in
      ap (λ n. pipe_hears pipe (slice_get s.children n)) same ∙ ap (pipe_hears pipe) e ∙ picked pipe p which.1

  opened_hears : (o : Opened) → list_any by_item (watching.watched s o) ≡ true → may_hear (OfChild pipe id) s ≡ true
  opened_hears (OpenedServer number) any = absurd (server_none (may_connect s) number (slice_get s.servers number) any)
  opened_hears (OpenedConn number) any = absurd (conn_none number (slice_get s.connections number) any)
  opened_hears (OpenedChild number) any = child_hears number (slice_get s.children number) refl any

  either_hears : (o : Opened) (more : List Opened)
      → (list_any by_item (flat_map (watching.watched s) more) ≡ true → may_hear (OfChild pipe id) s ≡ true)
      → list_any by_item (watching.watched s o) || list_any by_item (flat_map (watching.watched s) more) ≡ true → may_hear (OfChild pipe id) s ≡ true
  either_hears o more rest any = at (list_any by_item (watching.watched s o)) refl any
    where
      at : (b : Bool) → list_any by_item (watching.watched s o) ≡ b → b || list_any by_item (flat_map (watching.watched s) more) ≡ true
          → may_hear (OfChild pipe id) s ≡ true
      at true mine any_ = opened_hears o mine
      at false mine any_ = rest any_

  any_hears : (opened : List Opened) → list_any by_item (flat_map (watching.watched s) opened) ≡ true → may_hear (OfChild pipe id) s ≡ true
  any_hears [] any = absurd (false≢true any)
  any_hears (o ∷ more) any =
      either_hears o more (any_hears more)
      (sym (list_any-append by_item (watching.watched s o) (flat_map (watching.watched s) more)) ∙ any)

  extra_none : (extra : Bool) → list_any by_item (entry_if extra watch.Extra) ≡ false
  extra_none true = refl
  extra_none false = refl

  -- news that is awaited is heard
  awaited_hears : (extra : Bool) → is_watched (watched s extra) (item.Child child told) ≡ true → may_hear (OfChild pipe id) s ≡ true
  awaited_hears extra any =
      at (list_any by_item (watch_list s)) refl (sym (list_any-append by_item (watch_list s) (entry_if extra watch.Extra)) ∙ any)
    where
      at : (b : Bool) → list_any by_item (watch_list s) ≡ b → b || list_any by_item (entry_if extra watch.Extra) ≡ true
          → may_hear (OfChild pipe id) s ≡ true
      at true mine any_ = any_hears s.opened mine
      at false mine any_ = absurd (false≢true (sym (extra_none extra) ∙ any_))

item_hears : (pipe : Stream) (id : ℕ) (s : Streams) (extra : Bool) (it : Item) → is_item_to (OfChild pipe id) it ≡ true
    → is_awaited (watched s extra) it ≡ true → may_hear (OfChild pipe id) s ≡ true
item_hears pipe id s extra (item.Child child told) is awaited =
    awaited_hears pipe id s child told is extra
    (and_parts (is_watched (watched s extra) (item.Child child told)) (is_sized (item.Child child told)) awaited).0
item_hears pipe id s extra (item.ReadableServer server) is awaited = absurd (false≢true is)
item_hears pipe id s extra (item.Ready conn letters) is awaited = absurd (false≢true is)
item_hears pipe id s extra (item.Up conn) is awaited = absurd (false≢true is)
item_hears pipe id s extra (item.Down conn) is awaited = absurd (false≢true is)
item_hears pipe id s extra (item.WritableChild number) is awaited = absurd (false≢true is)
item_hears pipe id s extra (item.Extra code bytes) is awaited = absurd (false≢true is)

-- ---- all items
true_not : (b : Bool) → not b ≡ true → b ≡ false
true_not true is = absurd (false≢true is)
true_not false is = refl

one_once : (pipe : Stream) (id : ℕ) (s : Streams) (extra : Bool) (it : Item) (more : List Item) → is_awaited (watched s extra) it ≡ true
    → not (list_any (clashes it) more) ≡ true → items_to (OfChild pipe id) more ≤ one_if (may_hear (OfChild pipe id) s)
    → items_to (OfChild pipe id) (it ∷ more) ≤ one_if (may_hear (OfChild pipe id) s)
one_once pipe id s extra it more awaited apart rest = at (is_item_to (OfChild pipe id) it) refl
  where
    at : (b : Bool) → is_item_to (OfChild pipe id) it ≡ b → one_if b + items_to (OfChild pipe id) more ≤ one_if (may_hear (OfChild pipe id) s)
    at false is = omega (arith, rest)
    at true is =
        let none = none_more pipe id it more is (true_not (list_any (clashes it) more) apart) in
        let hears : one_if (may_hear (OfChild pipe id) s) ≡ 1 = ap one_if (item_hears pipe id s extra it is awaited) in
        omega (arith, none, hears)

items_once : (pipe : Stream) (id : ℕ) (s : Streams) (extra : Bool) (items : List Item) → list_all (is_awaited (watched s extra)) items ≡ true
    → stand_apart items ≡ true → items_to (OfChild pipe id) items ≤ one_if (may_hear (OfChild pipe id) s)
items_once pipe id s extra [] awaited apart = omega arith
items_once pipe id s extra (it ∷ more) awaited apart =
    let all = and_parts (is_awaited (watched s extra) it) (list_all (is_awaited (watched s extra)) more) awaited in
    let stand = and_parts (not (list_any (clashes it) more)) (stand_apart more) apart in
    one_once pipe id s extra it more all.0 stand.0 (items_once pipe id s extra more all.1 stand.1)

-- a connection is told none
conn_none_of : (id : ℕ) (actions : List Action) → told_count (OfConn id) actions ≡ 0
conn_none_of id [] = refl
conn_none_of id (it ∷ more) = let rest = conn_none_of id more in omega (arith, rest)

-- ---- the answer to a select
pub told_once : (s : Streams) (time : Option ℕ) (extra : Bool) (came : Answer) → fits (select time (watched s extra)) came ≡ true
    → (from : StreamReader) → told_count from (news_of came) ≤ one_if (may_hear from s)
told_once s time extra came fit (OfConn id) = let none = conn_none_of id (news_of came) in omega (arith, none)
told_once s time extra (answer.Turn now items) fit (OfChild pipe id) =
    let bounds = and_parts (nat_le now most) (are_few items && are_awaited (watched s extra) items) fit in
    let parts = and_parts (are_few items) (are_awaited (watched s extra) items) bounds.1 in
    let all = and_parts (list_all (is_awaited (watched s extra)) items) (stand_apart items) parts.1 in
    let counted = items_count (OfChild pipe id) items in
    let once = items_once pipe id s extra items all.0 all.1 in
    omega (arith, counted, once)
told_once s time extra _ fit (OfChild pipe id) = absurd (false≢true fit)
