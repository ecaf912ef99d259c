-- No step of a select loses an item, or turns two of one seat round.
use denote.Enum.Bare.{sameb, same_true}
use Rattle.std.proofs.Common.{◌≡◌, ℕ, Bool, true, false, cond, eqb, ◌&&◌, ◌||◌, not, List, [], ◌∷◌, ◌++◌}
use Rattle.std.proofs.Common.{Option, Some, None, map, refl, sym, ap, ◌∙◌, append_assoc, append-nil}
use Rattle.std.specs.Prelude.{nat_le, nat_lt}
use Rattle.model_value.specs.Number.{most}
use Rattle.std.specs.List.{filter, list_any, list_all, flat_map}
use Rattle.std.proofs.lemmas.Bool.{false≢true, eqb-true}
use Rattle.std.proofs.lemmas.List.Elements.{filter-append}
use Rattle.model_value.specs.declared.action.ChildItem.{ChildItem}
use Rattle.model_value.specs.declared.action.ChildItem.TheVariants as news
use Rattle.model_wire.specs.Call.{Item}
use Rattle.model_wire.specs.contracts.item.Interest.{the_type}
use Rattle.model_wire.specs.declared.item.Interest.{Interest}
use Rattle.model_wire.specs.declared.item.Item.TheVariants as item
use Rattle.model_wire.specs.declared.watch.Watch.{Watch}
use Rattle.model_wire.specs.declared.watch.Watch.TheVariants as watch
use Rattle.model_wire.specs.Fits.{turn_fits, are_few, are_awaited, is_awaited, is_watched, is_sized, stand_apart, clashes, interest_of, is_same}
use Rattle.model_hub.specs.declared.pump.Pump.{Pump}
use Rattle.model_hub.specs.declared.pump.Pump.TheVariants as pump
use Rattle.model_pump.specs.declared.stream.Stream.TheVariants as stream
use Rattle.model_pump.specs.declared.post.PostKind.TheVariants as post
use Rattle.model_hub.specs.declared.child.Child.{Child}
use Rattle.model_hub.specs.Children.{pump_of, pump_at, holds}
use Rattle.model_pump.specs.Posts.{Post, PostKind}
use Rattle.model_hub.specs.Posts.{told_of, items_from, note, note_by, note_from}
use Rattle.model_hub.specs.Hub.{Hub, waiting_of, is_broken}
use Rattle.model_hub.specs.Gathering.{Gathering, start, begin, stdin_items, most_waiting, goes_in, offer, offer_all}
use Rattle.model_hub.specs.Gathering.{add, add_all, kept_of, note_in, after_post, gather, is_halted}
use Rattle.model_hub.specs.Select.{polled_watch, is_childs, kept_at_end}
use Rattle.law_hub.proofs.Fitting.{and_first, and_second, not_true}
use Rattle.law_hub.specs.Seats.{is_of, items_of, letter, is_teller, told_all}

-- ---- what a post changes of a child
pub record Same (old new : Child) : Type 0 where
  pub number : new.number ≡ old.number
  pub seats : new.seats ≡ old.seats
  pub stay : new.stay ≡ old.stay

same_from : (from : Pump) (kind : PostKind) (child : Child) → Same child (note_from from kind child)
same_from pump.Stdin (post.Piece stream.Out offset bytes) child = record { number = refl; seats = refl; stay = refl }
same_from pump.Stdin (post.Piece stream.Errs offset bytes) child = record { number = refl; seats = refl; stay = refl }
same_from pump.Stdin (post.End stream.Out) child = record { number = refl; seats = refl; stay = refl }
same_from pump.Stdin (post.End stream.Errs) child = record { number = refl; seats = refl; stay = refl }
same_from pump.Stdin post.Room child = record { number = refl; seats = refl; stay = refl }
same_from pump.Stdin post.Broken child = record { number = refl; seats = refl; stay = refl }
same_from pump.Stdin (post.Exit code) child = record { number = refl; seats = refl; stay = refl }
same_from pump.Stdin post.Fault child = record { number = refl; seats = refl; stay = refl }
same_from pump.Stdin post.Starved child = record { number = refl; seats = refl; stay = refl }
same_from pump.Out (post.Piece stream.Out offset bytes) child = record { number = refl; seats = refl; stay = refl }
same_from pump.Out (post.Piece stream.Errs offset bytes) child = record { number = refl; seats = refl; stay = refl }
same_from pump.Out (post.End stream.Out) child = record { number = refl; seats = refl; stay = refl }
same_from pump.Out (post.End stream.Errs) child = record { number = refl; seats = refl; stay = refl }
same_from pump.Out post.Room child = record { number = refl; seats = refl; stay = refl }
same_from pump.Out post.Broken child = record { number = refl; seats = refl; stay = refl }
same_from pump.Out (post.Exit code) child = record { number = refl; seats = refl; stay = refl }
same_from pump.Out post.Fault child = record { number = refl; seats = refl; stay = refl }
same_from pump.Out post.Starved child = record { number = refl; seats = refl; stay = refl }
same_from pump.Errs (post.Piece stream.Out offset bytes) child = record { number = refl; seats = refl; stay = refl }
same_from pump.Errs (post.Piece stream.Errs offset bytes) child = record { number = refl; seats = refl; stay = refl }
same_from pump.Errs (post.End stream.Out) child = record { number = refl; seats = refl; stay = refl }
same_from pump.Errs (post.End stream.Errs) child = record { number = refl; seats = refl; stay = refl }
same_from pump.Errs post.Room child = record { number = refl; seats = refl; stay = refl }
same_from pump.Errs post.Broken child = record { number = refl; seats = refl; stay = refl }
same_from pump.Errs (post.Exit code) child = record { number = refl; seats = refl; stay = refl }
same_from pump.Errs post.Fault child = record { number = refl; seats = refl; stay = refl }
same_from pump.Errs post.Starved child = record { number = refl; seats = refl; stay = refl }
same_from pump.Exit (post.Piece stream.Out offset bytes) child = record { number = refl; seats = refl; stay = refl }
same_from pump.Exit (post.Piece stream.Errs offset bytes) child = record { number = refl; seats = refl; stay = refl }
same_from pump.Exit (post.End stream.Out) child = record { number = refl; seats = refl; stay = refl }
same_from pump.Exit (post.End stream.Errs) child = record { number = refl; seats = refl; stay = refl }
same_from pump.Exit post.Room child = record { number = refl; seats = refl; stay = refl }
same_from pump.Exit post.Broken child = record { number = refl; seats = refl; stay = refl }
same_from pump.Exit (post.Exit code) child = record { number = refl; seats = refl; stay = refl }
same_from pump.Exit post.Fault child = record { number = refl; seats = refl; stay = refl }
same_from pump.Exit post.Starved child = record { number = refl; seats = refl; stay = refl }

pub same_by : (from : Option Pump) (kind : PostKind) (child : Child) → Same child (note_by from kind child)
same_by None kind child = record { number = refl; seats = refl; stay = refl }
same_by (Some from) kind child = same_from from kind child

lent_same : (seat : ℕ) (old new : Child) → Same old new → pump_of seat new ≡ pump_of seat old
lent_same seat old new same =
    ap (λ stay. cond (holds stay) (pump_at seat new.seats) None) same.stay
    ∙ ap (λ seats. cond (holds old.stay) (pump_at seat seats) None) same.seats

-- what a post tells is the same after another
told_same : (came other : Post) (children : List Child) → told_of (map (note came) children) other ≡ told_of children other
told_same came other [] = refl
told_same came other (child ∷ children) =
    let same = same_by (pump_of came.seat child) came.kind child in
    let new = note came child in
    ap (λ n. items_from n other.kind (pump_of other.seat new) ++ told_of (map (note came) children) other) same.number
    ∙ ap (λ from. items_from child.number other.kind from ++ told_of (map (note came) children) other) (lent_same other.seat child new same)
    ∙ ap (λ rest. items_from child.number other.kind (pump_of other.seat child) ++ rest) (told_same came other children)

all_same : (came : Post) (children : List Child) (posts : List Post) → told_all (map (note came) children) posts ≡ told_all children posts
all_same came children [] = refl
all_same came children (other ∷ posts) =
    ap (λ told. told ++ told_all (map (note came) children) posts) (told_same came other children)
    ∙ ap (λ rest. told_of children other ++ rest) (all_same came children posts)

-- ---- which items are of a seat
matching : (seat : Interest × ℕ) (other : Option (Interest × ℕ)) → is_same (Some seat) other ≡ true → other ≡ Some seat
matching seat None h = absurd (false≢true h)
matching seat (Some taken) h =
    let letters = same_true the_type tt seat.0 taken.0 (and_first (sameb the_type seat.0 taken.0) (eqb seat.1 taken.1) h) in
    let ids = eqb-true seat.1 taken.1 (and_second (sameb the_type seat.0 taken.0) (eqb seat.1 taken.1) h) in
    ap (λ i. Some (i, taken.1)) (sym letters) ∙ ap (λ n. Some (seat.0, n)) (sym ids)

broken_is_none : (from : Pump) (child other : ℕ) → is_teller from ≡ true → is_of from child (item.Child other news.Broken) ≡ false
broken_is_none pump.Stdin child other teller = absurd (false≢true teller)
broken_is_none pump.Out child other teller = refl
broken_is_none pump.Errs child other teller = refl
broken_is_none pump.Exit child other teller = refl

feed_is_none : (from : Pump) (child other : ℕ) → is_of from child (item.WritableChild other) ≡ false
feed_is_none pump.Stdin child other = refl
feed_is_none pump.Out child other = refl
feed_is_none pump.Errs child other = refl
feed_is_none pump.Exit child other = refl

server_is_none : (from : Pump) (child other : ℕ) → is_of from child (item.ReadableServer other) ≡ false
server_is_none pump.Stdin child other = refl
server_is_none pump.Out child other = refl
server_is_none pump.Errs child other = refl
server_is_none pump.Exit child other = refl

up_is_none : (from : Pump) (child other : ℕ) → is_of from child (item.Up other) ≡ false
up_is_none pump.Stdin child other = refl
up_is_none pump.Out child other = refl
up_is_none pump.Errs child other = refl
up_is_none pump.Exit child other = refl

-- nothing of a child is polled
never_watched : (child : ℕ) (told : ChildItem (List ℕ)) (watched : List Watch) → is_watched (polled_watch watched) (item.Child child told) ≡ false
never_watched child told [] = refl
never_watched child told (watch.Server server ∷ watched) = never_watched child told watched
never_watched child told (watch.Making conn ∷ watched) = never_watched child told watched
never_watched child told (watch.Conn conn reads writes ∷ watched) = never_watched child told watched
never_watched child told (watch.Child other feeds stdin out errs exit ∷ watched) = never_watched child told watched
never_watched child told (watch.Extra ∷ watched) = never_watched child told watched

polled_is_none : (from : Pump) (child : ℕ) (watched : List Watch) (came : Item) → is_watched (polled_watch watched) came ≡ true
    → is_of from child came ≡ false
polled_is_none from child watched (item.ReadableServer server) h = server_is_none from child server
polled_is_none from child watched (item.Ready conn letters) h = up_is_none from child conn
polled_is_none from child watched (item.Up conn) h = up_is_none from child conn
polled_is_none from child watched (item.Down conn) h = up_is_none from child conn
polled_is_none from child watched (item.WritableChild other) h = feed_is_none from child other
polled_is_none from child watched (item.Child other told) h = absurd (false≢true (sym (never_watched other told watched) ∙ h))
polled_is_none from child watched (item.Extra code bytes) h = refl

-- ---- lists of items
or_first : (a b : Bool) → (a || b) ≡ false → a ≡ false
or_first true b h = h
or_first false b h = refl

or_rest : (a b : Bool) → (a || b) ≡ false → b ≡ false
or_rest true b h = absurd (false≢true (sym h))
or_rest false b h = h

neither : (a b : Bool) → a ≡ false → b ≡ false → (a || b) ≡ false
neither a b ha hb = ap (λ x. x || b) ha ∙ hb

none_found : (p q : Item → Bool) → ((x : Item) → p x ≡ q x) → (xs : List Item) → list_any p xs ≡ false → filter q xs ≡ []
none_found p q same [] h = refl
none_found p q same (x ∷ xs) h =
    ap (λ b. cond b (x ∷ filter q xs) (filter q xs)) (sym (same x) ∙ or_first (p x) (list_any p xs) h)
    ∙ none_found p q same xs (or_rest (p x) (list_any p xs) h)

past_kept : (b : Bool) (x : Item) (X K : List Item) → (b ≡ true → K ≡ []) → (X ++ cond b (x ∷ []) []) ++ K ≡ (X ++ K) ++ cond b (x ∷ []) []
past_kept true x X K h =
    ap (λ k. (X ++ x ∷ []) ++ k) (h refl) ∙ append-nil (X ++ x ∷ []) ∙ ap (λ l. l ++ x ∷ []) (sym (append-nil X))
    ∙ ap (λ k. (X ++ k) ++ x ∷ []) (sym (h refl))
past_kept false x X K h = ap (λ l. l ++ K) (append-nil X) ∙ sym (append-nil (X ++ K))

of_two : (P : Gathering → Type 0) (b : Bool) (first second : Gathering) → (b ≡ true → P first) → P second → P (cond b first second)
of_two P true first second one two = one refl
of_two P false first second one two = two

-- ---- items of one seat
module _ (from : Pump) (child : ℕ) (teller : is_teller from ≡ true) where
  abbrev of : List Item → List Item
  of items = items_of from child items

  -- what the answer has of this seat, and then what is kept of it
  abbrev line : Gathering → List Item
  line g = of g.items ++ of g.kept

  none_kept : (came : Item) (kept : List Item) → list_any (clashes came) kept ≡ false → is_of from child came ≡ true → of kept ≡ []
  none_kept came kept none is =
      let whole = matching (letter from, child) (interest_of came) is in
      none_found (clashes came) (is_of from child) (λ other. ap (λ seat. is_same seat (interest_of other)) whole) kept none

  kept_of_same : (came : Item) → of (kept_of came) ≡ of (came ∷ [])
  kept_of_same (item.ReadableServer server) = refl
  kept_of_same (item.Ready conn letters) = refl
  kept_of_same (item.Up conn) = refl
  kept_of_same (item.Down conn) = refl
  kept_of_same (item.WritableChild other) = refl
  kept_of_same (item.Child other news.Broken) =
      ap (λ b. cond b (item.Child other news.Broken ∷ []) []) (sym (broken_is_none from child other teller))
  kept_of_same (item.Child other (news.Out bytes)) = refl
  kept_of_same (item.Child other news.OutEnd) = refl
  kept_of_same (item.Child other (news.Errs bytes)) = refl
  kept_of_same (item.Child other news.ErrsEnd) = refl
  kept_of_same (item.Child other (news.Exit code)) = refl
  kept_of_same (item.Extra code bytes) = refl

  -- ---- what of an answer is kept where it isn't given
  none_before : (came : Item) (more : List Item) → is_of from child came ≡ false → of more ≡ of (came ∷ more)
  none_before came more none = ap (λ b. cond b (came ∷ of more) (of more)) (sym none)

  both_with : (came : Item) (less more : List Item) → of less ≡ of more → of (came ∷ less) ≡ of (came ∷ more)
  both_with came less more same = ap (λ l. cond (is_of from child came) (came ∷ l) l) same

  childs_kept : (items : List Item) → of (filter is_childs items) ≡ of items
  childs_kept [] = refl
  childs_kept (item.ReadableServer server ∷ more) =
      childs_kept more ∙ none_before (item.ReadableServer server) more (server_is_none from child server)
  childs_kept (item.Ready conn letters ∷ more) = childs_kept more ∙ none_before (item.Ready conn letters) more (up_is_none from child conn)
  childs_kept (item.Up conn ∷ more) = childs_kept more ∙ none_before (item.Up conn) more (up_is_none from child conn)
  childs_kept (item.Down conn ∷ more) = childs_kept more ∙ none_before (item.Down conn) more (up_is_none from child conn)
  childs_kept (item.WritableChild other ∷ more) =
      childs_kept more ∙ none_before (item.WritableChild other) more (feed_is_none from child other)
  childs_kept (item.Child other news.Broken ∷ more) =
      childs_kept more ∙ none_before (item.Child other news.Broken) more (broken_is_none from child other teller)
  childs_kept (item.Child other (news.Out bytes) ∷ more) =
      both_with (item.Child other (news.Out bytes)) (filter is_childs more) more (childs_kept more)
  childs_kept (item.Child other news.OutEnd ∷ more) =
      both_with (item.Child other news.OutEnd) (filter is_childs more) more (childs_kept more)
  childs_kept (item.Child other (news.Errs bytes) ∷ more) =
      both_with (item.Child other (news.Errs bytes)) (filter is_childs more) more (childs_kept more)
  childs_kept (item.Child other news.ErrsEnd ∷ more) =
      both_with (item.Child other news.ErrsEnd) (filter is_childs more) more (childs_kept more)
  childs_kept (item.Child other (news.Exit code) ∷ more) =
      both_with (item.Child other (news.Exit code)) (filter is_childs more) more (childs_kept more)
  childs_kept (item.Extra code bytes ∷ more) = childs_kept more

  failed_line : (g : Gathering) → is_halted g.halt ≡ true → of (kept_at_end g) ≡ line g
  failed_line g halted =
      ap (λ b. of (cond b (filter is_childs g.items ++ g.kept) g.kept)) halted
      ∙ filter-append (is_of from child) (filter is_childs g.items) g.kept
      ∙ ap (λ l. l ++ of g.kept) (childs_kept g.items)

  module _ (watched : List Watch) where
    offer_line : (g : Gathering) (came : Item) → line (offer watched g came) ≡ line g ++ of (came ∷ [])
    offer_line g came =
        of_two (λ next. line next ≡ line g ++ of (came ∷ [])) (goes_in watched g came)
        (record g { items = g.items ++ came ∷ [] }) (record g { kept = g.kept ++ kept_of came })
        (λ goes.
        let none = not_true (list_any (clashes came) g.kept)
        (and_first (not (list_any (clashes came) g.kept)) (turn_fits watched 0 (g.items ++ came ∷ [])) goes) in
        ap (λ l. l ++ of g.kept) (filter-append (is_of from child) g.items (came ∷ []))
        ∙ past_kept (is_of from child came) came (of g.items) (of g.kept) (none_kept came g.kept none))
        (ap (λ l. of g.items ++ l) (filter-append (is_of from child) g.kept (kept_of came))
        ∙ ap (λ l. of g.items ++ (of g.kept ++ l)) (kept_of_same came)
        ∙ sym (append_assoc (of g.items) (of g.kept) (of (came ∷ []))))

    offer_all_line : (g : Gathering) (items : List Item) → line (offer_all watched g items) ≡ line g ++ of items
    offer_all_line g [] = sym (append-nil (line g))
    offer_all_line g (came ∷ more) =
        offer_all_line (offer watched g came) more
        ∙ ap (λ l. l ++ of more) (offer_line g came)
        ∙ append_assoc (line g) (of (came ∷ [])) (of more)
        ∙ ap (λ l. line g ++ l) (sym (filter-append (is_of from child) (came ∷ []) more))

    add_line : (g : Gathering) (came : Item) → is_of from child came ≡ false → line (add watched g came) ≡ line g
    add_line g came not_of =
        of_two (λ next. line next ≡ line g) (turn_fits watched 0 (g.items ++ came ∷ [])) (record g { items = g.items ++ came ∷ [] }) g
        (λ fits.
        ap (λ l. l ++ of g.kept) (filter-append (is_of from child) g.items (came ∷ []))
        ∙ ap (λ b. (of g.items ++ cond b (came ∷ []) []) ++ of g.kept) not_of
        ∙ ap (λ l. l ++ of g.kept) (append-nil (of g.items)))
        refl

    add_all_line : (g : Gathering) (items : List Item) → list_any (is_of from child) items ≡ false → line (add_all watched g items) ≡ line g
    add_all_line g [] none = refl
    add_all_line g (came ∷ more) none =
        add_all_line (add watched g came) more (or_rest (is_of from child came) (list_any (is_of from child) more) none)
        ∙ add_line g came (or_first (is_of from child came) (list_any (is_of from child) more) none)

    -- ---- the children stay, but for what they note
    offer_all_children : (g : Gathering) (items : List Item) → (offer_all watched g items).children ≡ g.children
    offer_all_children g [] = refl
    offer_all_children g (came ∷ more) =
        offer_all_children (offer watched g came) more
        ∙ of_two (λ next. next.children ≡ g.children) (goes_in watched g came) (record g { items = g.items ++ came ∷ [] })
        (record g { kept = g.kept ++ kept_of came }) (λ goes. refl) refl

    add_all_children : (g : Gathering) (items : List Item) → (add_all watched g items).children ≡ g.children
    add_all_children g [] = refl
    add_all_children g (came ∷ more) =
        add_all_children (add watched g came) more
        ∙ of_two (λ next. next.children ≡ g.children) (turn_fits watched 0 (g.items ++ came ∷ [])) (record g { items = g.items ++ came ∷ [] }) g
        (λ goes. refl) refl

    -- ---- posts
    gather_line : (g : Gathering) (posts : List Post) → line (gather watched g posts) ≡ line g ++ of (told_all g.children posts)
    gather_line g [] = sym (append-nil (line g))
    gather_line g (came ∷ posts) =
        let next = after_post watched g came in
        gather_line next posts
        ∙ ap (λ children. line next ++ of (told_all children posts)) (offer_all_children (note_in g came) (told_of g.children came))
        ∙ ap (λ told. line next ++ of told) (all_same came g.children posts)
        ∙ ap (λ l. l ++ of (told_all g.children posts)) (offer_all_line (note_in g came) (told_of g.children came))
        ∙ append_assoc (line g) (of (told_of g.children came)) (of (told_all g.children posts))
        ∙ ap (λ l. line g ++ l) (sym (filter-append (is_of from child) (told_of g.children came) (told_all g.children posts)))

    -- ---- before the posts
    any_append : (xs ys : List Item) → list_any (is_of from child) xs ≡ false → list_any (is_of from child) ys ≡ false
        → list_any (is_of from child) (xs ++ ys) ≡ false
    any_append [] ys hx hy = hy
    any_append (x ∷ xs) ys hx hy =
        neither (is_of from child x) (list_any (is_of from child) (xs ++ ys))
        (or_first (is_of from child x) (list_any (is_of from child) xs) hx)
        (any_append xs ys (or_rest (is_of from child x) (list_any (is_of from child) xs) hx) hy)

    one_none : (b : Bool) (x : Item) → is_of from child x ≡ false → list_any (is_of from child) (cond b (x ∷ []) []) ≡ false
    one_none true x h = neither (is_of from child x) false h refl
    one_none false x h = refl

    stdin_none : (children : List Child) (entry : Watch) → list_any (is_of from child) (stdin_items children entry) ≡ false
    stdin_none children (watch.Server server) = refl
    stdin_none children (watch.Making conn) = refl
    stdin_none children (watch.Conn conn reads writes) = refl
    stdin_none children (watch.Child other feeds stdin out errs exit) =
        any_append (cond (nat_lt (waiting_of other children) most_waiting) (item.WritableChild other ∷ []) [])
        (cond (is_broken other children) (item.Child other news.Broken ∷ []) [])
        (one_none (nat_lt (waiting_of other children) most_waiting) (item.WritableChild other) (feed_is_none from child other))
        (one_none (is_broken other children) (item.Child other news.Broken) (broken_is_none from child other teller))
    stdin_none children watch.Extra = refl

    all_stdin_none : (children : List Child) (entries : List Watch) → list_any (is_of from child) (flat_map (stdin_items children) entries) ≡ false
    all_stdin_none children [] = refl
    all_stdin_none children (entry ∷ entries) =
        any_append (stdin_items children entry) (flat_map (stdin_items children) entries) (stdin_none children entry) (all_stdin_none children entries)

    poll_none : (sockets : List Item) → list_all (is_awaited (polled_watch watched)) sockets ≡ true → of sockets ≡ []
    poll_none [] h = refl
    poll_none (came ∷ more) h =
        let awaited = and_first (is_awaited (polled_watch watched) came) (list_all (is_awaited (polled_watch watched)) more) h in
        let watches = and_first (is_watched (polled_watch watched) came) (is_sized came) awaited in
        ap (λ b. cond b (came ∷ of more) (of more)) (polled_is_none from child watched came watches)
        ∙ poll_none more (and_second (is_awaited (polled_watch watched) came) (list_all (is_awaited (polled_watch watched)) more) h)

    begin_line : (hub : Hub) (sockets : List Item) → of sockets ≡ [] → line (begin watched hub sockets) ≡ of hub.kept
    begin_line hub sockets none =
        add_all_line (offer_all watched (start hub sockets) hub.kept) (flat_map (stdin_items hub.children) watched) (all_stdin_none hub.children watched)
        ∙ offer_all_line (start hub sockets) hub.kept
        ∙ ap (λ l. (l ++ []) ++ of hub.kept) none

    begin_children : (hub : Hub) (sockets : List Item) → (begin watched hub sockets).children ≡ hub.children
    begin_children hub sockets =
        add_all_children (offer_all watched (start hub sockets) hub.kept) (flat_map (stdin_items hub.children) watched)
        ∙ offer_all_children (start hub sockets) hub.kept

    pub select_line : (hub : Hub) (now : ℕ) (sockets : List Item) (posts : List Post) → turn_fits (polled_watch watched) now sockets ≡ true
        → of (gather watched (begin watched hub sockets) posts).items ++ of (gather watched (begin watched hub sockets) posts).kept
        ≡ of (hub.kept ++ told_all hub.children posts)
    select_line hub now sockets posts fit =
        let rest = and_second (nat_le now most) (are_few sockets && are_awaited (polled_watch watched) sockets) fit in
        let awaited = and_second (are_few sockets) (are_awaited (polled_watch watched) sockets) rest in
        let none = poll_none sockets (and_first (list_all (is_awaited (polled_watch watched)) sockets) (stand_apart sockets) awaited) in
        let start_of = begin watched hub sockets in
        gather_line start_of posts
        ∙ ap (λ l. l ++ of (told_all start_of.children posts)) (begin_line hub sockets none)
        ∙ ap (λ children. of hub.kept ++ of (told_all children posts)) (begin_children hub sockets)
        ∙ sym (filter-append (is_of from child) hub.kept (told_all hub.children posts))

    pub failed_select_line : (hub : Hub) (now : ℕ) (sockets : List Item) (posts : List Post)
        → turn_fits (polled_watch watched) now sockets ≡ true
        → is_halted (gather watched (begin watched hub sockets) posts).halt ≡ true
        → of (kept_at_end (gather watched (begin watched hub sockets) posts)) ≡ of (hub.kept ++ told_all hub.children posts)
    failed_select_line hub now sockets posts fit halted =
        failed_line (gather watched (begin watched hub sockets) posts) halted ∙ select_line hub now sockets posts fit
