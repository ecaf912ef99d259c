-- What names an inbox: the table of its queue.
use Rattle.atomic_table.specs.Seated.{TableId}
use Rattle.aio_inbox.specs.declared.unnamed.UnnamedInbox.{UnnamedInbox}

abbrev pub table_of : UnnamedInbox → TableId
table_of unnamed = unnamed.queue.table.shared.table_id
