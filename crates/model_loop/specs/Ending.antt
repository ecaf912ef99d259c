-- The end of a run. Source: `runners.py`, `_cancel_all_tasks`.
use Rattle.std.specs.List.{range_with_len}
use Rattle.model_loop.specs.Tasks.{next_task}
use Rattle.model_loop.specs.Ledger.{ByEnd, request_each}
use Rattle.model_loop.specs.Loop.{Loop, book}

-- main is done: each task that lives is cancelled, in order of creation
abbrev pub cancel_everything : Loop → Loop
cancel_everything l = book (request_each ByEnd (range_with_len 0 (next_task l.parts))) l
