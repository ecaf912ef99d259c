use Rattle.std.proofs.Common.{◌≡◌, ◌≤◌, ◌+◌, ◌-◌, ◌*◌, false, cond, Some, None, length, take}
use Rattle.model_wire.specs.JournalText.{most_line}
use Rattle.aio_wire.specs.Replied.{Kept}
use Rattle.law_entries.specs.Begins.{has_newline}
use Rattle.aio_memwire.specs.Unread.{HoldsFew, left_of}
use Rattle.aio_memwire.proofs.journal.Journal.fetch.Given as goal

-- what was searched has no newline, and what is left lost nothing; of a missing file nothing was read
abbrev pub invariant-loop-at : goal.invariant-loop-at
invariant-loop-at g l = record {
  within : l.searched ≤ length l.self.held;
  none : has_newline (take l.searched l.self.held) ≡ false;
  same : g.F.Shelf.seen l.shelf ≡ g.F.Shelf.seen l.fn.shelf;
  kept : Kept (left_of ((g.F.Shelf.seen l.fn.shelf).file l.name) l.fn.self) (left_of ((g.F.Shelf.seen l.fn.shelf).file l.name) l.self);
  few : HoldsFew l.fn.self l.self;
  missing : (g.F.Shelf.seen l.fn.shelf).file l.name ≡ Some None → l.self ≡ l.fn.self;
}

-- each read adds a byte, or is the last
abbrev pub decreases-loop-at : goal.decreases-loop-at
decreases-loop-at g l = 2 * (most_line + 1 - length l.self.held) + cond l.self.ended 0 1
