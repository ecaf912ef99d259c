-- Items clash exactly where what they take up has one number.
use denote.Enum.Bare.{sameb, same_true}
use Rattle.std.proofs.Common.{◌≡◌, ℕ, ◌+◌, ◌*◌, ◌<◌, ◌==◌, Bool, true, false, cond, ◌&&◌, ◌||◌, List, [], ◌∷◌, ◌++◌}
use Rattle.std.proofs.lemmas.List.{take_more}
use Rattle.std.proofs.Common.{Option, Some, None, length, get_or, take, refl, sym, ap, ◌∙◌, eq-eqb, arith}
use Rattle.std.specs.List.{list_any}
use Rattle.std.specs.HashSet.{HashSet}
use Rattle.std.proofs.lemmas.Bool.{false≢true, eqb-true}
use Rattle.model_value.specs.declared.action.ChildItem.{ChildItem}
use Rattle.model_value.specs.declared.action.ChildItem.TheVariants as news
use Rattle.model_wire.specs.Call.{Item}
use Rattle.model_wire.specs.contracts.item.Interest.{the_type}
use Rattle.model_wire.specs.declared.item.Interest.{Interest}
use Rattle.model_wire.specs.declared.item.Interest.TheVariants as interest
use Rattle.model_wire.specs.declared.item.Item.TheVariants as item
use Rattle.model_wire.specs.declared.watch.Watch.{Watch}
use Rattle.model_wire.specs.declared.watch.Watch.TheVariants as watch
use Rattle.model_wire.specs.Fits.{interest_of, news_interest, is_same, is_told, is_piece, clashes, is_watched, is_watched_by, is_awaited}
use Rattle.aio_interest.specs.Keys.{code_of, key_at, key_by, key_of, is_key, has_key, has, has_some, is_marked_in, Marks, awaits, Awaits}

-- ---- one number, one thing
few : (of : Interest) → code_of of < 8
few interest.Server = omega arith
few interest.Conn = omega arith
few interest.Feed = omega arith
few interest.Stdin = omega arith
few interest.Out = omega arith
few interest.Errs = omega arith
few interest.Exit = omega arith

one_id : (i j m n : ℕ) → i < 8 → j < 8 → 8 * m + i ≡ 8 * n + j → m ≡ n
one_id i j m n hi hj h = omega arith

one_code : (i j m n : ℕ) → i < 8 → j < 8 → 8 * m + i ≡ 8 * n + j → i ≡ j
one_code i j m n hi hj h = omega arith

both_true : (a b : Bool) → a ≡ true → b ≡ true → (a && b) ≡ true
both_true true b h k = k
both_true false b h k = absurd (false≢true h)

-- two numbers are told apart by both of their parts
eqb_parts : (i j m n : ℕ) → i < 8 → j < 8 → ((8 * m + i) == (8 * n + j)) ≡ ((m == n) && (i == j))
eqb_parts i j m n hi hj = by_test ((8 * m + i) == (8 * n + j)) refl
  where
    other : (b c : Bool) → (m == n) ≡ b → (i == j) ≡ c → ((8 * m + i) == (8 * n + j)) ≡ false → false ≡ (b && c)
    other true true hb hc h =
        absurd (false≢true (sym h ∙ eq-eqb (8 * m + i) (8 * n + j)
        (ap (λ x. 8 * x + i) (eqb-true m n hb) ∙ ap (λ x. 8 * n + x) (eqb-true i j hc))))
    other true false hb hc h = refl
    other false c hb hc h = refl

    by_test : (b : Bool) → ((8 * m + i) == (8 * n + j)) ≡ b → ((8 * m + i) == (8 * n + j)) ≡ ((m == n) && (i == j))
    by_test true h =
        let is = eqb-true (8 * m + i) (8 * n + j) h in
        h ∙ sym (both_true (m == n) (i == j) (eq-eqb m n (one_id i j m n hi hj is)) (eq-eqb i j (one_code i j m n hi hj is)))
    by_test false h = h ∙ other (m == n) (i == j) refl refl h

-- ---- one code, one interest
of_code : ℕ → Interest
of_code n =
    cond (n == 0) interest.Server (cond (n == 1) interest.Conn (cond (n == 2) interest.Feed (cond (n == 3) interest.Stdin
    (cond (n == 4) interest.Out (cond (n == 5) interest.Errs interest.Exit)))))

back : (of : Interest) → of_code (code_of of) ≡ of
unfolding of_code
back interest.Server = refl
back interest.Conn = refl
back interest.Feed = refl
back interest.Stdin = refl
back interest.Out = refl
back interest.Errs = refl
back interest.Exit = refl

same_self : (of : Interest) → sameb the_type of of ≡ true
same_self interest.Server = refl
same_self interest.Conn = refl
same_self interest.Feed = refl
same_self interest.Stdin = refl
same_self interest.Out = refl
same_self interest.Errs = refl
same_self interest.Exit = refl

same_code : (a b : Interest) → sameb the_type a b ≡ (code_of a == code_of b)
same_code a b = by_test (sameb the_type a b) refl
  where
    other : (c : Bool) → (code_of a == code_of b) ≡ c → sameb the_type a b ≡ false → false ≡ c
    other true hc h =
        let is = sym (back a) ∙ ap of_code (eqb-true (code_of a) (code_of b) hc) ∙ back b in
        absurd (false≢true (sym h ∙ ap (sameb the_type a) (sym is) ∙ same_self a))
    other false hc h = refl

    by_test : (c : Bool) → sameb the_type a b ≡ c → sameb the_type a b ≡ (code_of a == code_of b)
    by_test true h = h ∙ sym (eq-eqb (code_of a) (code_of b) (ap code_of (same_true the_type tt a b h)))
    by_test false h = h ∙ other (code_of a == code_of b) refl h

flipped : (m n : ℕ) → (m == n) ≡ (n == m)
flipped m n = by_test (m == n) refl
  where
    other : (c : Bool) → (n == m) ≡ c → (m == n) ≡ false → false ≡ c
    other true hc h = absurd (false≢true (sym h ∙ eq-eqb m n (sym (eqb-true n m hc))))
    other false hc h = refl

    by_test : (c : Bool) → (m == n) ≡ c → (m == n) ≡ (n == m)
    by_test true h = h ∙ sym (eq-eqb n m (sym (eqb-true m n h)))
    by_test false h = h ∙ other (n == m) refl h

swapped : (a b : Bool) → (a && b) ≡ (b && a)
swapped true true = refl
swapped true false = refl
swapped false true = refl
swapped false false = refl

same_keys : (a b : Interest) (m n : ℕ) → (sameb the_type a b && m == n) ≡ (key_at a m == key_at b n)
same_keys a b m n =
    ap (λ x. x && m == n) (same_code a b) ∙ swapped (code_of a == code_of b) (m == n)
    ∙ sym (eqb_parts (code_of a) (code_of b) m n (few a) (few b))

-- ---- items
abbrev clash_by : Option ℕ → Item → Bool
clash_by None other = false
clash_by (Some k) other = has_key k other

clash_first : (other taken : Option (Interest × ℕ)) → is_same other taken ≡ elim (key_by taken) [ None ↦ false | Some k ↦ is_key k (key_by other) ]
clash_first None None = refl
clash_first None (Some taken) = refl
clash_first (Some other) None = refl
clash_first (Some other) (Some taken) = same_keys other.0 taken.0 other.1 taken.1

clash_second : (taken other : Option (Interest × ℕ)) → is_same taken other ≡ elim (key_by taken) [ None ↦ false | Some k ↦ is_key k (key_by other) ]
clash_second None None = refl
clash_second None (Some other) = refl
clash_second (Some taken) None = refl
clash_second (Some taken) (Some other) =
    same_keys taken.0 other.0 taken.1 other.1 ∙ flipped (key_at taken.0 taken.1) (key_at other.0 other.1)

any_same : {A : Type 0} (p q : A → Bool) → ((x : A) → p x ≡ q x) → (xs : List A) → list_any p xs ≡ list_any q xs
any_same p q same [] = refl
any_same p q same (x ∷ xs) = ap (λ b. b || list_any p xs) (same x) ∙ ap (λ b. q x || b) (any_same p q same xs)

none_any : {A : Type 0} (xs : List A) → list_any (λ (x : A). false) xs ≡ false
none_any [] = refl
none_any (x ∷ xs) = none_any xs

abbrev any_by : List Item → Option ℕ → Bool
any_by items None = false
any_by items (Some k) = list_any (has_key k) items

any_at : (items : List Item) (key : Option ℕ)
    → list_any (λ (other : Item). elim key [ None ↦ false | Some k ↦ is_key k (key_of other) ]) items ≡ any_by items key
any_at items None = none_any items
any_at items (Some k) = refl

marked_at : {S : Type 0} (marks : HashSet ℕ S) (items : List Item) → Marks marks items → (key : Option ℕ) → any_by items key ≡ has_some marks key
marked_at marks items all None = refl
marked_at marks items all (Some k) = sym (all k)

module _ {S : Type 0} (marks : HashSet ℕ S) (items : List Item) (all : Marks marks items) (came : Item) where
  -- an item clashes with one of these exactly where what it takes up is marked
  pub before_it : list_any (λ (other : Item). clashes other came) items ≡ is_marked_in marks came
  before_it =
      any_same (λ (other : Item). clashes other came) (λ (other : Item). elim (key_of came) [ None ↦ false | Some k ↦ is_key k (key_of other) ])
      (λ other. clash_first (interest_of other) (interest_of came)) items
      ∙ any_at items (key_of came) ∙ marked_at marks items all (key_of came)

  pub behind_it : list_any (clashes came) items ≡ is_marked_in marks came
  behind_it =
      any_same (clashes came) (λ (other : Item). elim (key_of came) [ None ↦ false | Some k ↦ is_key k (key_of other) ])
      (λ other. clash_second (interest_of came) (interest_of other)) items
      ∙ any_at items (key_of came) ∙ marked_at marks items all (key_of came)

-- ---- one more
any_more : {A : Type 0} (p : A → Bool) (xs : List A) (x : A) → list_any p (xs ++ x ∷ []) ≡ (p x || list_any p xs)
any_more p [] x = refl
any_more p (y ∷ xs) x = ap (λ b. p y || b) (any_more p xs x) ∙ turned (p y) (p x) (list_any p xs)
  where
    turned : (a b c : Bool) → (a || (b || c)) ≡ (b || (a || c))
    turned true true c = refl
    turned true false c = refl
    turned false true c = refl
    turned false false c = refl

pub marks_more : {S : Type 0} (old new : HashSet ℕ S) (items now : List Item) (came : Item) → Marks old items
    → ((k : ℕ) → has new k ≡ (has_key k came || has old k)) → now ≡ items ++ came ∷ [] → Marks new now
marks_more old new items now came all more is k =
    more k ∙ ap (λ b. has_key k came || b) (all k) ∙ sym (any_more (has_key k) items came) ∙ ap (list_any (has_key k)) (sym is)

pub awaits_more : {S : Type 0} (old new : HashSet ℕ S) (entries now : List Watch) (entry : Watch) → Awaits old entries
    → ((k : ℕ) → has new k ≡ (awaits k entry || has old k)) → now ≡ entries ++ entry ∷ [] → Awaits new now
awaits_more old new entries now entry all more is k =
    more k ∙ ap (λ b. awaits k entry || b) (all k) ∙ sym (any_more (awaits k) entries entry) ∙ ap (list_any (awaits k)) (sym is)

-- ---- news of children
off : (x : Bool) → (x && false) ≡ false
off true = refl
off false = refl

on : (x : Bool) → (x && true) ≡ x
on true = refl
on false = refl

or_none : (x : Bool) → (x || false) ≡ x
or_none true = refl
or_none false = refl

five : (a b c d e p q r t u : Bool) → a ≡ p → b ≡ q → c ≡ r → d ≡ t → e ≡ u → (a || (b || (c || (d || e)))) ≡ (p || (q || (r || (t || u))))
five a b c d e p q r t u ha hb hc hd he =
    ap (λ x. x || (b || (c || (d || e)))) ha ∙ ap (λ x. p || (x || (c || (d || e)))) hb ∙ ap (λ x. p || (q || (x || (d || e)))) hc
    ∙ ap (λ x. p || (q || (r || (x || e)))) hd ∙ ap (λ x. p || (q || (r || (t || x)))) he

abbrev letter_is : Bool → Interest → Interest → Bool
letter_is watched letter of = watched && code_of letter == code_of of

abbrev some_letter : Interest → (feeds stdin out errs exit : Bool) → Bool
some_letter of feeds stdin out errs exit =
    letter_is feeds interest.Feed of || (letter_is stdin interest.Stdin of || (letter_is out interest.Out of
    || (letter_is errs interest.Errs of || letter_is exit interest.Exit of)))

together : (s a b c d e p q r t u : Bool)
    → ((a && (s && p)) || ((b && (s && q)) || ((c && (s && r)) || ((d && (s && t)) || (e && (s && u))))))
    ≡ (s && ((a && p) || ((b && q) || ((c && r) || ((d && t) || (e && u))))))
together true a b c d e p q r t u = refl
together false a b c d e p q r t u =
    five (a && false) (b && false) (c && false) (d && false) (e && false) false false false false false (off a) (off b) (off c) (off d) (off e)

-- whether a letter of a child is watched by an entry, as its number is
module _ (of : Interest) (child other : ℕ) where
  parts : (letter : Interest) → (key_at letter other == key_at of child) ≡ (child == other && code_of letter == code_of of)
  parts letter =
      eqb_parts (code_of letter) (code_of of) other child (few letter) (few of)
      ∙ ap (λ b. b && code_of letter == code_of of) (flipped other child)

  part : (watched : Bool) (letter : Interest)
      → (watched && key_at letter other == key_at of child) ≡ (watched && (child == other && code_of letter == code_of of))
  part watched letter = ap (λ b. watched && b) (parts letter)

  entry_is : (feeds stdin out errs exit : Bool)
      → awaits (key_at of child) (watch.Child other feeds stdin out errs exit) ≡ (child == other && some_letter of feeds stdin out errs exit)
  entry_is feeds stdin out errs exit =
      five (feeds && key_at interest.Feed other == key_at of child) (stdin && key_at interest.Stdin other == key_at of child)
      (out && key_at interest.Out other == key_at of child) (errs && key_at interest.Errs other == key_at of child)
      (exit && key_at interest.Exit other == key_at of child)
      (feeds && (child == other && code_of interest.Feed == code_of of)) (stdin && (child == other && code_of interest.Stdin == code_of of))
      (out && (child == other && code_of interest.Out == code_of of)) (errs && (child == other && code_of interest.Errs == code_of of))
      (exit && (child == other && code_of interest.Exit == code_of of))
      (part feeds interest.Feed) (part stdin interest.Stdin) (part out interest.Out) (part errs interest.Errs) (part exit interest.Exit)
      ∙ together (child == other) feeds stdin out errs exit (code_of interest.Feed == code_of of) (code_of interest.Stdin == code_of of)
      (code_of interest.Out == code_of of) (code_of interest.Errs == code_of of) (code_of interest.Exit == code_of of)

feed_is : (feeds stdin out errs exit : Bool) → some_letter interest.Feed feeds stdin out errs exit ≡ feeds
feed_is feeds stdin out errs exit =
    five (feeds && true) (stdin && false) (out && false) (errs && false) (exit && false) feeds false false false false
    (on feeds) (off stdin) (off out) (off errs) (off exit)
    ∙ or_none feeds

stdin_is : (feeds stdin out errs exit : Bool) → some_letter interest.Stdin feeds stdin out errs exit ≡ stdin
stdin_is feeds stdin out errs exit =
    five (feeds && false) (stdin && true) (out && false) (errs && false) (exit && false) false stdin false false false
    (off feeds) (on stdin) (off out) (off errs) (off exit)
    ∙ or_none stdin

out_is : (feeds stdin out errs exit : Bool) → some_letter interest.Out feeds stdin out errs exit ≡ out
out_is feeds stdin out errs exit =
    five (feeds && false) (stdin && false) (out && true) (errs && false) (exit && false) false false out false false
    (off feeds) (off stdin) (on out) (off errs) (off exit)
    ∙ or_none out

errs_is : (feeds stdin out errs exit : Bool) → some_letter interest.Errs feeds stdin out errs exit ≡ errs
errs_is feeds stdin out errs exit =
    five (feeds && false) (stdin && false) (out && false) (errs && true) (exit && false) false false false errs false
    (off feeds) (off stdin) (off out) (on errs) (off exit)
    ∙ or_none errs

exit_is : (feeds stdin out errs exit : Bool) → some_letter interest.Exit feeds stdin out errs exit ≡ exit
exit_is feeds stdin out errs exit =
    five (feeds && false) (stdin && false) (out && false) (errs && false) (exit && true) false false false false exit
    (off feeds) (off stdin) (off out) (off errs) (on exit)

told_is : (told : ChildItem (List ℕ)) (feeds stdin out errs exit : Bool)
    → some_letter (news_interest told) feeds stdin out errs exit ≡ is_told told stdin out errs exit
told_is news.Broken feeds stdin out errs exit = stdin_is feeds stdin out errs exit
told_is (news.Out bytes) feeds stdin out errs exit = out_is feeds stdin out errs exit
told_is news.OutEnd feeds stdin out errs exit = out_is feeds stdin out errs exit
told_is (news.Errs bytes) feeds stdin out errs exit = errs_is feeds stdin out errs exit
told_is news.ErrsEnd feeds stdin out errs exit = errs_is feeds stdin out errs exit
told_is (news.Exit code) feeds stdin out errs exit = exit_is feeds stdin out errs exit

news_by : (child : ℕ) (told : ChildItem (List ℕ)) (entry : Watch)
    → is_watched_by (item.Child child told) entry ≡ awaits (key_at (news_interest told) child) entry
news_by child told (watch.Child other feeds stdin out errs exit) =
    sym (entry_is (news_interest told) child other feeds stdin out errs exit
    ∙ ap (λ b. child == other && b) (told_is told feeds stdin out errs exit))
news_by child told (watch.Server server) = refl
news_by child told (watch.Making conn) = refl
news_by child told (watch.Conn conn reads writes) = refl
news_by child told watch.Extra = refl

feed_by : (child : ℕ) (entry : Watch) → is_watched_by (item.WritableChild child) entry ≡ awaits (key_at interest.Feed child) entry
feed_by child (watch.Child other feeds stdin out errs exit) =
    sym (entry_is interest.Feed child other feeds stdin out errs exit ∙ ap (λ b. child == other && b) (feed_is feeds stdin out errs exit))
feed_by child (watch.Server server) = refl
feed_by child (watch.Making conn) = refl
feed_by child (watch.Conn conn reads writes) = refl
feed_by child watch.Extra = refl

module _ {S : Type 0} (marks : HashSet ℕ S) (watched : List Watch) (all : Awaits marks watched) where
  pub news_watched : (child : ℕ) (told : ChildItem (List ℕ)) → is_watched watched (item.Child child told) ≡ is_marked_in marks (item.Child child told)
  news_watched child told =
      any_same (is_watched_by (item.Child child told)) (awaits (key_at (news_interest told) child)) (news_by child told) watched
      ∙ sym (all (key_at (news_interest told) child))

  pub feed_watched : (child : ℕ) → is_watched watched (item.WritableChild child) ≡ is_marked_in marks (item.WritableChild child)
  feed_watched child =
      any_same (is_watched_by (item.WritableChild child)) (awaits (key_at interest.Feed child)) (feed_by child) watched
      ∙ sym (all (key_at interest.Feed child))

-- ---- the letters of an entry, marked one after the other
pub letters_marked : (a b c d e before : Bool) → (a || (b || (c || (d || (e || before))))) ≡ ((a || (b || (c || (d || e)))) || before)
letters_marked true b c d e before = refl
letters_marked false true c d e before = refl
letters_marked false false true d e before = refl
letters_marked false false false true e before = refl
letters_marked false false false false e before = refl

-- ---- what is awaited
module _ {S : Type 0} (marks : HashSet ℕ S) (entries watched : List Watch) (all : Awaits marks entries) (same : entries ≡ watched) (came : Item)
    (child : ℕ) (told : ChildItem (List ℕ)) (is : came ≡ item.Child child told) (marked piece : Bool)
    (marked_is : marked ≡ is_marked_in marks came) (piece_is : piece ≡ is_piece told) where
  pub news_awaited : (marked && piece) ≡ is_awaited watched came
  news_awaited =
      ap (λ b. b && piece) (marked_is ∙ ap (is_marked_in marks) is ∙ sym (news_watched marks entries all child told))
      ∙ ap (λ b. is_watched entries (item.Child child told) && b) piece_is
      ∙ sym (ap (is_awaited entries) is) ∙ ap (λ (w : List Watch). is_awaited w came) same

-- the next of a list
pub next_of : {A : Type 0} (xs ys : List A) (n : ℕ) (x : A) → ys ≡ xs → n < length ys → x ≡ get_or ys n x → take (n + 1) xs ≡ take n xs ++ x ∷ []
next_of {A} xs ys n x same few is =
    take_more xs n x (omega (arith, few, ap length same)) ∙ ap (λ (y : A). take n xs ++ y ∷ []) (sym (is ∙ ap (λ (l : List A). get_or l n x) same))
