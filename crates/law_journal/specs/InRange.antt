-- Answers whose numbers a journal may hold: ids of 32 bits, bytes, exit codes, and numbers of 64 bits with a sign.
use Rattle.std.specs.Prelude.{◌≡◌, ℕ, ◌<◌, ◌≤◌, ℤ, pos, negsuc, true, List}
use Rattle.std.specs.List.{AllByRecursion}
use Rattle.model_value.specs.declared.action.ChildItem.{ChildItem}
use Rattle.model_value.specs.declared.action.ChildItem.TheVariants as news
use Rattle.model_value.specs.Number.{most}
use Rattle.model_wire.specs.declared.item.Item.TheVariants as item
use Rattle.model_wire.specs.declared.answer.Answer.TheVariants as answer
use Rattle.model_wire.specs.Call.{Answer, Item}
use Rattle.model_wire.specs.JournalText.{most_id, is_exit_code}

abbrev pub AreBytes : List ℕ → Type 0
AreBytes bytes = AllByRecursion (λ byte. byte < 256) bytes

-- a number of 64 bits with a sign
abbrev pub IsSigned : ℤ → Type 0
IsSigned (pos number) = number ≤ most
IsSigned (negsuc number) = number ≤ most

abbrev pub NewsInRange : ChildItem (List ℕ) → Type 0
NewsInRange news.Broken = Unit {0}
NewsInRange (news.Out bytes) = AreBytes bytes
NewsInRange news.OutEnd = Unit {0}
NewsInRange (news.Errs bytes) = AreBytes bytes
NewsInRange news.ErrsEnd = Unit {0}
NewsInRange (news.Exit code) = is_exit_code code ≡ true

abbrev pub ItemInRange : Item → Type 0
ItemInRange (item.ReadableServer server) = server ≤ most_id
ItemInRange (item.Ready conn letters) = conn ≤ most_id
ItemInRange (item.Up conn) = conn ≤ most_id
ItemInRange (item.Down conn) = conn ≤ most_id
ItemInRange (item.WritableChild child) = child ≤ most_id
ItemInRange (item.Child child told) = (child ≤ most_id) × NewsInRange told
ItemInRange (item.Extra code bytes) = IsSigned code × AreBytes bytes

abbrev pub InRange : Answer → Type 0
InRange (answer.Turn now items) = (now ≤ most) × AllByRecursion ItemInRange items
InRange answer.Done = Unit {0}
InRange answer.Refused = Unit {0}
InRange answer.Conn = Unit {0}
InRange answer.Again = Unit {0}
InRange answer.Broken = Unit {0}
InRange (answer.Data bytes) = AreBytes bytes
InRange answer.Eof = Unit {0}
InRange (answer.Took count) = count ≤ most
InRange answer.Child = Unit {0}
InRange (answer.Extra bytes) = AreBytes bytes
