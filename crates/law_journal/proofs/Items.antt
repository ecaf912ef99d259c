-- The tokens of written items, and the items that they say.
use Rattle.std.proofs.Common.{◌≡◌, ℕ, suc, ℤ, pos, negsuc, true, false, List, [], ◌∷◌, ◌++◌, Some, refl, sym, ap, subst, ◌∙◌, append_assoc, arith}
use Rattle.std.specs.Prelude.{codes}
use Rattle.std.specs.List.{list_any, flat_map, AllByRecursion}
use Rattle.std.specs.Fmt.{decimal, signed_decimal}
use Rattle.std.proofs.lemmas.Bool.Decides.{nat_tests}
use Rattle.model_value.specs.declared.action.ChildItem.{ChildItem}
use Rattle.model_value.specs.declared.action.ChildItem.TheVariants as news
use Rattle.model_value.specs.Escapes.{bytes_literal}
use Rattle.model_wire.specs.declared.item.Item.TheVariants as item
use Rattle.model_wire.specs.declared.item.Readiness.{Readiness}
use Rattle.model_wire.specs.declared.item.Readiness.TheVariants as ready
use Rattle.model_wire.specs.declared.entry.EntryWord.{EntryWord}
use Rattle.model_wire.specs.declared.entry.EntryWord.TheVariants as word
use Rattle.model_wire.specs.declared.entry.IdLetter.TheVariants as letter
use Rattle.model_wire.specs.declared.entry.EntryToken.TheVariants as token
use Rattle.model_wire.specs.Call.{Item, ready_text, spaced_item}
use Rattle.model_wire.specs.JournalText.{EntryToken, items_of, then_item, is_too_wide, is_exit_code}
use Rattle.law_journal.specs.InRange.{IsSigned, NewsInRange, ItemInRange}
use Rattle.law_journal.proofs.Tokens.{key-word, number-word, minus-word, server-word, conn-word, child-word, bytes-word}
use Rattle.law_journal.proofs.Words.{IsWord, Follows, nothing-follows, word-follows}

abbrev key : EntryWord → EntryToken
key known = token.Word known

-- two words, each with its space
two-follow : (first second rest : List ℕ) (one two : EntryToken) (tokens : List EntryToken) → IsWord first one → IsWord second two
    → Follows rest tokens
    → Follows ((32 ∷ (first ++ 32 ∷ second)) ++ rest) (one ∷ two ∷ tokens)
two-follow first second rest one two tokens a b f =
    subst (λ text. Follows text (one ∷ two ∷ tokens)) (ap (λ text. 32 ∷ text) (sym (append_assoc first (32 ∷ second) rest)))
    (word-follows first (32 ∷ (second ++ rest)) one (two ∷ tokens) a (word-follows second rest two tokens b f))

three-follow : (first second third rest : List ℕ) (one two three : EntryToken) (tokens : List EntryToken)
    → IsWord first one → IsWord second two → IsWord third three → Follows rest tokens
    → Follows ((32 ∷ (first ++ 32 ∷ (second ++ 32 ∷ third))) ++ rest) (one ∷ two ∷ three ∷ tokens)
three-follow first second third rest one two three tokens a b c f =
    subst (λ text. Follows text (one ∷ two ∷ three ∷ tokens)) (ap (λ text. 32 ∷ text) (sym (append_assoc first (32 ∷ (second ++ 32 ∷ third)) rest)))
    (word-follows first (((32 ∷ (second ++ 32 ∷ third))) ++ rest) one (two ∷ three ∷ tokens) a (two-follow second third rest two three tokens b c f))

-- the same where the first word and its space stand together
apart : (first second : List ℕ) → 32 ∷ ((first ++ 32 ∷ []) ++ second) ≡ 32 ∷ (first ++ 32 ∷ second)
apart first second = ap (λ text. 32 ∷ text) (append_assoc first (32 ∷ []) second)

two-apart : (first second rest : List ℕ) (one two : EntryToken) (tokens : List EntryToken) → IsWord first one → IsWord second two
    → Follows rest tokens
    → Follows ((32 ∷ ((first ++ 32 ∷ []) ++ second)) ++ rest) (one ∷ two ∷ tokens)
two-apart first second rest one two tokens a b f =
    subst (λ text. Follows (text ++ rest) (one ∷ two ∷ tokens)) (sym (apart first second)) (two-follow first second rest one two tokens a b f)

three-apart : (first second third rest : List ℕ) (one two three : EntryToken) (tokens : List EntryToken)
    → IsWord first one → IsWord second two → IsWord third three → Follows rest tokens
    → Follows ((32 ∷ ((first ++ 32 ∷ []) ++ (second ++ 32 ∷ third))) ++ rest) (one ∷ two ∷ three ∷ tokens)
three-apart first second third rest one two three tokens a b c f =
    subst (λ text. Follows (text ++ rest) (one ∷ two ∷ three ∷ tokens)) (sym (apart first (second ++ 32 ∷ third)))
    (three-follow first second third rest one two three tokens a b c f)

-- ---- what each item is read as
abbrev pub code_token : ℤ → EntryToken
code_token (pos code) = token.Number code
code_token (negsuc code) = token.Minus (suc code)

abbrev ready_word : Readiness → EntryWord
ready_word ready.Read = word.Read
ready_word ready.Write = word.Write
ready_word ready.Both = word.Both

abbrev news_tokens : ChildItem (List ℕ) → List EntryToken → List EntryToken
news_tokens news.Broken tokens = key word.Broken ∷ tokens
news_tokens (news.Out bytes) tokens = key word.Out ∷ token.Bytes bytes ∷ tokens
news_tokens news.OutEnd tokens = key word.OutEnd ∷ tokens
news_tokens (news.Errs bytes) tokens = key word.Errs ∷ token.Bytes bytes ∷ tokens
news_tokens news.ErrsEnd tokens = key word.ErrsEnd ∷ tokens
news_tokens (news.Exit code) tokens = key word.Exit ∷ code_token code ∷ tokens

abbrev pub item_tokens : Item → List EntryToken → List EntryToken
item_tokens (item.ReadableServer server) tokens = token.Id letter.Server server ∷ key word.Read ∷ tokens
item_tokens (item.Ready conn letters) tokens = token.Id letter.Conn conn ∷ key (ready_word letters) ∷ tokens
item_tokens (item.Up conn) tokens = token.Id letter.Conn conn ∷ key word.Up ∷ tokens
item_tokens (item.Down conn) tokens = token.Id letter.Conn conn ∷ key word.Down ∷ tokens
item_tokens (item.WritableChild child) tokens = token.Id letter.Child child ∷ key word.Write ∷ tokens
item_tokens (item.Child child told) tokens = token.Id letter.Child child ∷ news_tokens told tokens
item_tokens (item.Extra code bytes) tokens = key word.News ∷ code_token code ∷ token.Bytes bytes ∷ tokens

abbrev pub items_tokens : List Item → List EntryToken
items_tokens [] = []
items_tokens (came ∷ items) = item_tokens came (items_tokens items)

code-word : (code : ℤ) → IsSigned code → IsWord (signed_decimal code) (code_token code)
code-word (pos code) h = number-word code h
code-word (negsuc code) h = minus-word (suc code) (omega arith)

pub exit-signed : (code : ℤ) → is_exit_code code ≡ true → IsSigned code
exit-signed (pos code) h = grind (arith, nat_tests)
exit-signed (negsuc code) h = grind (arith, nat_tests)

ready-word : (letters : Readiness) → IsWord (ready_text letters) (key (ready_word letters))
ready-word ready.Read = key-word word.Read
ready-word ready.Write = key-word word.Write
ready-word ready.Both = key-word word.Both

news-follows : (child : ℕ) (told : ChildItem (List ℕ)) → IsWord (80 ∷ decimal child) (token.Id letter.Child child) → NewsInRange told
    → (rest : List ℕ) (tokens : List EntryToken) → Follows rest tokens
    → Follows (spaced_item (item.Child child told) ++ rest) (item_tokens (item.Child child told) tokens)
news-follows child news.Broken w h rest tokens f = two-apart (80 ∷ decimal child) (codes "broken") rest _ _ tokens w (key-word word.Broken) f
news-follows child (news.Out bytes) w h rest tokens f =
    three-apart (80 ∷ decimal child) (codes "out") (bytes_literal bytes) rest _ _ _ tokens w (key-word word.Out) (bytes-word bytes h) f
news-follows child news.OutEnd w h rest tokens f = two-apart (80 ∷ decimal child) (codes "outend") rest _ _ tokens w (key-word word.OutEnd) f
news-follows child (news.Errs bytes) w h rest tokens f =
    three-apart (80 ∷ decimal child) (codes "err") (bytes_literal bytes) rest _ _ _ tokens w (key-word word.Errs) (bytes-word bytes h) f
news-follows child news.ErrsEnd w h rest tokens f = two-apart (80 ∷ decimal child) (codes "errend") rest _ _ tokens w (key-word word.ErrsEnd) f
news-follows child (news.Exit code) w h rest tokens f =
    three-apart (80 ∷ decimal child) (codes "exit") (signed_decimal code) rest _ _ _ tokens w (key-word word.Exit) (code-word code (exit-signed code h)) f

item-follows : (came : Item) → ItemInRange came → (rest : List ℕ) (tokens : List EntryToken) → Follows rest tokens
    → Follows (spaced_item came ++ rest) (item_tokens came tokens)
item-follows (item.ReadableServer server) h rest tokens f =
    two-follow (76 ∷ decimal server) (codes "r") rest _ _ tokens (server-word server h) (key-word word.Read) f
item-follows (item.Ready conn letters) h rest tokens f =
    two-apart (67 ∷ decimal conn) (ready_text letters) rest _ _ tokens (conn-word conn h) (ready-word letters) f
item-follows (item.Up conn) h rest tokens f = two-follow (67 ∷ decimal conn) (codes "up") rest _ _ tokens (conn-word conn h) (key-word word.Up) f
item-follows (item.Down conn) h rest tokens f =
    two-follow (67 ∷ decimal conn) (codes "down") rest _ _ tokens (conn-word conn h) (key-word word.Down) f
item-follows (item.WritableChild child) h rest tokens f =
    two-follow (80 ∷ decimal child) (codes "w") rest _ _ tokens (child-word child h) (key-word word.Write) f
item-follows (item.Child child told) h rest tokens f = news-follows child told (child-word child h.0) h.1 rest tokens f
item-follows (item.Extra code bytes) h rest tokens f =
    subst (λ text. Follows ((32 ∷ 88 ∷ 32 ∷ text) ++ rest) (item_tokens (item.Extra code bytes) tokens))
    (sym (append_assoc (signed_decimal code) (32 ∷ []) (bytes_literal bytes)))
    (three-follow (codes "X") (signed_decimal code) (bytes_literal bytes) rest _ _ _ tokens (key-word word.News) (code-word code h.0) (bytes-word bytes h.1) f)

pub items-follow : (items : List Item) → AllByRecursion ItemInRange items → Follows (flat_map spaced_item items) (items_tokens items)
items-follow [] a = nothing-follows
items-follow (came ∷ items) a = item-follows came a.0 (flat_map spaced_item items) (items_tokens items) (items-follow items a.1)

-- ---- and read
read-ready : (conn : ℕ) (letters : Readiness) (tokens : List EntryToken)
    → items_of (item_tokens (item.Ready conn letters) tokens) ≡ then_item (item.Ready conn letters) (items_of tokens)
read-ready conn ready.Read tokens = refl
read-ready conn ready.Write tokens = refl
read-ready conn ready.Both tokens = refl

read-news : (child : ℕ) (told : ChildItem (List ℕ)) (tokens : List EntryToken)
    → items_of (item_tokens (item.Child child told) tokens) ≡ then_item (item.Child child told) (items_of tokens)
read-news child news.Broken tokens = refl
read-news child (news.Out bytes) tokens = refl
read-news child news.OutEnd tokens = refl
read-news child (news.Errs bytes) tokens = refl
read-news child news.ErrsEnd tokens = refl
read-news child (news.Exit (pos code)) tokens = refl
read-news child (news.Exit (negsuc code)) tokens = refl

read-item : (came : Item) (tokens : List EntryToken) → items_of (item_tokens came tokens) ≡ then_item came (items_of tokens)
read-item (item.ReadableServer server) tokens = refl
read-item (item.Ready conn letters) tokens = read-ready conn letters tokens
read-item (item.Up conn) tokens = refl
read-item (item.Down conn) tokens = refl
read-item (item.WritableChild child) tokens = refl
read-item (item.Child child told) tokens = read-news child told tokens
read-item (item.Extra (pos code) bytes) tokens = refl
read-item (item.Extra (negsuc code) bytes) tokens = refl

pub read-items : (items : List Item) → items_of (items_tokens items) ≡ Some items
read-items [] = refl
read-items (came ∷ items) = read-item came (items_tokens items) ∙ ap (then_item came) (read-items items)

-- no token is too wide

narrow-news : (child : ℕ) (told : ChildItem (List ℕ)) (tokens : List EntryToken)
    → list_any is_too_wide (item_tokens (item.Child child told) tokens) ≡ list_any is_too_wide tokens
narrow-news child news.Broken tokens = refl
narrow-news child (news.Out bytes) tokens = refl
narrow-news child news.OutEnd tokens = refl
narrow-news child (news.Errs bytes) tokens = refl
narrow-news child news.ErrsEnd tokens = refl
narrow-news child (news.Exit (pos code)) tokens = refl
narrow-news child (news.Exit (negsuc code)) tokens = refl

narrow-item : (came : Item) (tokens : List EntryToken) → list_any is_too_wide (item_tokens came tokens) ≡ list_any is_too_wide tokens
narrow-item (item.ReadableServer server) tokens = refl
narrow-item (item.Ready conn letters) tokens = refl
narrow-item (item.Up conn) tokens = refl
narrow-item (item.Down conn) tokens = refl
narrow-item (item.WritableChild child) tokens = refl
narrow-item (item.Child child told) tokens = narrow-news child told tokens
narrow-item (item.Extra (pos code) bytes) tokens = refl
narrow-item (item.Extra (negsuc code) bytes) tokens = refl

pub narrow-items : (items : List Item) → list_any is_too_wide (items_tokens items) ≡ false
narrow-items [] = refl
narrow-items (came ∷ items) = narrow-item came (items_tokens items) ∙ narrow-items items
