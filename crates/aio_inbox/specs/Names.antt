-- The names of inboxes.
use Rattle.std.specs.Prelude.{◌≡◌, []}
use Rattle.atomic_table.specs.Seated.{TableId}
use Rattle.crossbeam_queue.specs.Passes.{Pass}
use Rattle.model_pump.specs.Posts.{Post}
use Rattle.aio_inbox.specs.declared.view.InboxView.{InboxView}

-- the name of no inbox
abbrev pub no_table : TableId
no_table = record { words = 0; slots = 0; views_name = 0; atom = 0; block = 0; offset = 0; slot_names = [] }

-- the pass is one on the queue with this table, and no slot is out with it
abbrev pub IsPassAt : TableId → Pass Post InboxView → Type 0
IsPassAt table pass = (pass.table_id ≡ table) × (pass.me.1 ≡ [])
