-- No answer that fits a call is written too long for a line.
use Rattle.std.proofs.Common.{◌≡◌, ℕ, suc, ◌+◌, ◌*◌, ◌^◌, ◌<◌, ◌≤◌, ℤ, pos, negsuc, List, [], ◌∷◌, ◌++◌, length, map, sum, sym, ap, ◌∙◌, arith}
use Rattle.std.specs.Prelude.{codes}
use Rattle.std.specs.List.{flat_map, AllByRecursion}
use Rattle.std.specs.Fmt.{decimal, signed_decimal}
use Rattle.std.proofs.lemmas.Fmt.{length-decimal-le}
use Rattle.std.proofs.lemmas.List.{length-append}
use Rattle.std.proofs.lemmas.List.Sums.{sum-map, sum_by-cons}
use Rattle.std.proofs.lemmas.Bool.Decides.{nat_tests}
use Rattle.model_value.specs.declared.action.ChildItem.{ChildItem}
use Rattle.model_value.specs.declared.action.ChildItem.TheVariants as news
use Rattle.model_value.specs.declared.place.Place.TheVariants.{InBytes}
use Rattle.model_value.specs.Escapes.{escaped_byte, escaped, bytes_literal}
use Rattle.model_wire.specs.declared.item.Item.TheVariants as item
use Rattle.model_wire.specs.declared.item.Readiness.{Readiness}
use Rattle.model_wire.specs.declared.item.Readiness.TheVariants as ready
use Rattle.model_wire.specs.Call.{Item, ready_text, news_text, spaced_item}
use Rattle.model_wire.specs.Fits.{bytes_in, news_bytes}
use Rattle.law_journal.specs.InRange.{IsSigned, NewsInRange, ItemInRange}
use Rattle.law_journal.proofs.Items.{exit-signed}

pub decimal-short : (n : ℕ) → n < 2 ^ 64 → length (decimal n) ≤ 20
decimal-short n h = length-decimal-le 20 n (omega arith) (omega arith) h

signed-short : (z : ℤ) → IsSigned z → length (signed_decimal z) ≤ 21
signed-short (pos n) h = let d = decimal-short n (omega arith) in omega arith
signed-short (negsuc n) h = let d = decimal-short (suc n) (omega arith) in omega arith

byte-short : (b : ℕ) → length (escaped_byte InBytes b) ≤ 4
byte-short b = grind (arith, nat_tests)

escaped-short : (bytes : List ℕ) → length (escaped InBytes bytes) ≤ 4 * length bytes
escaped-short [] = omega arith
escaped-short (b ∷ bytes) = omega (arith, length-append (escaped_byte InBytes b) (escaped InBytes bytes), byte-short b, escaped-short bytes)

pub literal-short : (bytes : List ℕ) → length (bytes_literal bytes) ≤ 4 * length bytes + 3
literal-short bytes = omega (arith, length-append (escaped InBytes bytes) (34 ∷ []), escaped-short bytes)

ready-short : (letters : Readiness) → length (ready_text letters) ≤ 2
ready-short ready.Read = omega arith
ready-short ready.Write = omega arith
ready-short ready.Both = omega arith

news-short : (told : ChildItem (List ℕ)) → NewsInRange told → length (news_text told) ≤ 30 + 4 * news_bytes told
news-short news.Broken h = omega arith
news-short (news.Out bytes) h = let l = literal-short bytes in omega arith
news-short news.OutEnd h = omega arith
news-short (news.Errs bytes) h = let l = literal-short bytes in omega arith
news-short news.ErrsEnd h = omega arith
news-short (news.Exit code) h = let l = signed-short code (exit-signed code h) in omega arith

item-short : (came : Item) → ItemInRange came → length (spaced_item came) ≤ 64 + 4 * bytes_in came
item-short (item.ReadableServer server) h = let d = decimal-short server (omega arith) in omega (arith, length-append (decimal server) (codes " r"))
item-short (item.Ready conn letters) h =
    let d = decimal-short conn (omega arith) in
    omega (arith, length-append (decimal conn ++ codes " ") (ready_text letters), length-append (decimal conn) (codes " "), ready-short letters)
item-short (item.Up conn) h = let d = decimal-short conn (omega arith) in omega (arith, length-append (decimal conn) (codes " up"))
item-short (item.Down conn) h = let d = decimal-short conn (omega arith) in omega (arith, length-append (decimal conn) (codes " down"))
item-short (item.WritableChild child) h = let d = decimal-short child (omega arith) in omega (arith, length-append (decimal child) (codes " w"))
item-short (item.Child child told) h =
    let d = decimal-short child (omega (arith, h.0)) in
    omega (arith, length-append (decimal child ++ codes " ") (news_text told), length-append (decimal child) (codes " "), news-short told h.1)
item-short (item.Extra code bytes) h =
    let s = signed-short code h.0 in
    omega (arith, length-append (signed_decimal code ++ codes " ") (bytes_literal bytes), length-append (signed_decimal code) (codes " "), literal-short bytes)

pub items-short : (items : List Item) → AllByRecursion ItemInRange items
    → length (flat_map spaced_item items) ≤ 64 * length items + 4 * sum (map bytes_in items)
items-short [] a = omega arith
items-short (came ∷ items) a =
    let all : length (flat_map spaced_item (came ∷ items)) ≡ length (spaced_item came) + length (flat_map spaced_item items) =
    length-append (spaced_item came) (flat_map spaced_item items) in
    let total : sum (map bytes_in (came ∷ items)) ≡ bytes_in came + sum (map bytes_in items) =
    sum-map bytes_in (came ∷ items) ∙ sum_by-cons bytes_in came items ∙ ap (λ n. bytes_in came + n) (sym (sum-map bytes_in items)) in
    omega (arith, all, total, item-short came a.0, items-short items a.1)
