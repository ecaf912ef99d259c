-- No written answer has a newline.
use Rattle.std.proofs.Common.{◌≡◌, ℕ, false, List, [], ◌∷◌, ◌++◌, ◌==◌, codes, refl, flat_map}
use Rattle.std.specs.Fmt.{decimal, signed_decimal}
use Rattle.std.proofs.lemmas.List.Folds.{list_any-append}
use Rattle.model_value.specs.declared.action.ChildItem.{ChildItem}
use Rattle.model_value.specs.declared.action.ChildItem.TheVariants as news
use Rattle.model_value.specs.declared.place.Place.TheVariants.{InBytes}
use Rattle.model_value.specs.Escapes.{escaped, bytes_literal}
use Rattle.model_value.specs.Value.{Int, Conn}
use Rattle.model_wire.specs.declared.item.Item.TheVariants as item
use Rattle.model_wire.specs.declared.item.Readiness.{Readiness}
use Rattle.model_wire.specs.declared.item.Readiness.TheVariants as ready
use Rattle.model_wire.specs.declared.answer.Answer.TheVariants as answer
use Rattle.model_wire.specs.Call.{Answer, Item, server_text, conn_text, child_text, ready_text, news_text, item_text, spaced_item, written}
use Rattle.law_value.specs.Endings.{has_newline}
use Rattle.law_value.proofs.Newlines.{text_printed, shown_printed}

joined : (xs ys : List ℕ) → has_newline xs ≡ false → has_newline ys ≡ false → has_newline (xs ++ ys) ≡ false
joined xs ys p q = rw (list_any-append (λ byte. byte == 10) xs ys, p, q) refl

decimal-printed : (n : ℕ) → has_newline (decimal n) ≡ false
decimal-printed n = shown_printed (Conn n)

bytes-printed : (bytes : List ℕ) → has_newline (bytes_literal bytes) ≡ false
bytes-printed bytes = joined (escaped InBytes bytes) (34 ∷ []) (text_printed InBytes bytes) refl

ready-printed : (letters : Readiness) → has_newline (ready_text letters) ≡ false
ready-printed ready.Read = refl
ready-printed ready.Write = refl
ready-printed ready.Both = refl

news-printed : (told : ChildItem (List ℕ)) → has_newline (news_text told) ≡ false
news-printed news.Broken = refl
news-printed (news.Out bytes) = bytes-printed bytes
news-printed news.OutEnd = refl
news-printed (news.Errs bytes) = bytes-printed bytes
news-printed news.ErrsEnd = refl
news-printed (news.Exit code) = shown_printed (Int code)

item-printed : (came : Item) → has_newline (item_text came) ≡ false
item-printed (item.ReadableServer server) = joined (server_text server) (codes " r") (decimal-printed server) refl
item-printed (item.Ready conn letters) =
    joined (conn_text conn ++ codes " ") (ready_text letters) (joined (conn_text conn) (codes " ") (decimal-printed conn) refl) (ready-printed letters)
item-printed (item.Up conn) = joined (conn_text conn) (codes " up") (decimal-printed conn) refl
item-printed (item.Down conn) = joined (conn_text conn) (codes " down") (decimal-printed conn) refl
item-printed (item.WritableChild child) = joined (child_text child) (codes " w") (decimal-printed child) refl
item-printed (item.Child child told) =
    joined (child_text child ++ codes " ") (news_text told) (joined (child_text child) (codes " ") (decimal-printed child) refl) (news-printed told)
item-printed (item.Extra code bytes) =
    joined (codes "X " ++ signed_decimal code ++ codes " ") (bytes_literal bytes)
    (joined (codes "X " ++ signed_decimal code) (codes " ") (shown_printed (Int code)) refl) (bytes-printed bytes)

items-printed : (items : List Item) → has_newline (flat_map spaced_item items) ≡ false
items-printed [] = refl
items-printed (came ∷ items) = joined (spaced_item came) (flat_map spaced_item items) (item-printed came) (items-printed items)

pub answer-printed : (said : Answer) → has_newline (written said) ≡ false
answer-printed (answer.Turn now items) = joined (decimal now) (flat_map spaced_item items) (decimal-printed now) (items-printed items)
answer-printed answer.Done = refl
answer-printed answer.Refused = refl
answer-printed answer.Conn = refl
answer-printed answer.Again = refl
answer-printed answer.Broken = refl
answer-printed (answer.Data bytes) = bytes-printed bytes
answer-printed answer.Eof = refl
answer-printed (answer.Took count) = decimal-printed count
answer-printed answer.Child = refl
answer-printed (answer.Extra bytes) = bytes-printed bytes
