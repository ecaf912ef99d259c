use Rattle.algorithm_parts.proofs.RoomsKept.{settle-room, end-room, register-room, ask-room, change-room, cancel-room, make-room, release-room, let_go-room}
use Rattle.algorithm_parts.proofs.rooms.are_kept.Goals as goal

pub returns : goal.returns
returns c = record {
  settle = settle-room;
  ended = end-room;
  register = register-room;
  ask = ask-room;
  change = change-room;
  cancel = cancel-room;
  make = make-room;
  release = release-room;
  let_go = let_go-room;
}
