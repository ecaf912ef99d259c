use Rattle.refine_parts.proofs.Waiting.{before_settle, before_register, before_spawn, before_begin, before_finish, before_uncancel, before_cancel, before_each}
use Rattle.refine_parts.proofs.waits.nothing_new_is_waited_for.Goals as goal

pub returns : goal.returns
returns c = record {
  settle = before_settle;
  register = before_register;
  spawn = before_spawn;
  begin = before_begin;
  finish = before_finish;
  uncancel = before_uncancel;
  cancel = before_cancel;
  each = before_each;
}
