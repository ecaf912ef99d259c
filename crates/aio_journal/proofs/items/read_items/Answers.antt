use Rattle.std.proofs.Common.{◌≡◌, List, [], ◌++◌, Option, Some, None, option_map, refl, sym, subst}
use Rattle.model_wire.specs.Call.{Item}
use Rattle.model_wire.specs.JournalText.{items_of}
use Rattle.aio_journal.proofs.Reading.{stepped}
use Rattle.aio_journal.proofs.items.read_items.Goals as goal

-- before an item is read, all are left
none_read : (others : Option (List Item)) → others ≡ option_map (λ rest. [] ++ rest) others
none_read None = refl
none_read (Some rest) = refl

begun : (read : List Item) (others : Option (List Item)) → read ≡ [] → others ≡ option_map (λ rest. read ++ rest) others
begun read others none = subst (λ items. others ≡ option_map (λ rest. items ++ rest) others) (sym none) (none_read others)

pub loop-items-init : goal.loop-items-init
loop-items-init c = begun c.new-items.result.items (items_of c.args.words.now) c.new-items.ensures.items

pub loop-items-preserved : goal.loop-items-preserved
loop-items-preserved c =
    let next = rw c.in-Some.is at c.in_ok-subject.ensures.next in
    let step = rw c.in-Some-2.is at c.in_ok-item.ensures.step in
    subst (λ read. items_of c.args.words.now ≡ option_map (λ others. read ++ others) (items_of c.read_item.new.words)) (sym c.in_ok-push.ensures.items)
    (stepped (items_of c.args.words.now) c.loop-items.items.items c.in-Some-2.item c.in-Some.subject c.next.new.self c.read_item.new.words c.loop-items.words
    c.loop-items.invariant next step)
