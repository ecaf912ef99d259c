-- The code's frames and moves as the definitions have them.
use Rattle.std.specs.Prelude.{ℕ, ◌-◌, Bool, true, false, List, map, reverse, length, slice_get, Option, Some, None, unwrap_or, Result, Ok, Err}
use Rattle.model_value.specs.Value.{Value, Nothing, Exc}
use Rattle.model_value.specs.declared.request.Request.TheVariants as request
use Rattle.model_value.specs.Request.{Request}
use Rattle.model_says.specs.Endings as endings
use Rattle.model_says.specs.Requests.{bad_argument}
use Rattle.algorithm_flat.specs.Moves as plain
use Rattle.aio_gen.specs.declared.frames.Frame.{Frame}
use Rattle.aio_gen.specs.declared.frames.Frames.{Frames}
use Rattle.aio_gen.specs.declared.types.Move.{Move}
use Rattle.aio_gen.specs.declared.types.Move.TheVariants.{Goes, Asks, Returns, Raises, Runaway}

abbrev pub plain_frame : Frame → plain.Frame
plain_frame frame = record {
  coroutine = frame.coroutine;
  place = frame.place;
  handlers = reverse frame.handlers.items;
  env = frame.env;
  into = frame.into;
}

-- at most 64 frames are open
abbrev pub plain_frames : Frames → plain.Frames
plain_frames frames = record {
  frame = plain_frame frames.frame;
  callers = reverse (map plain_frame frames.callers.items);
  room = 63 - length frames.callers.items;
  left = frames.left;
}

abbrev pub plain_move : Move → Frames → plain.Move
plain_move (Goes way) frames = plain.Goes way (plain_frames frames)
plain_move (Asks request use_of) frames = plain.Asks request use_of (plain_frames frames)
plain_move (Returns value) frames = plain.Says (endings.Returns value)
plain_move (Raises fault) frames = plain.Says (endings.Raises fault)
plain_move Runaway frames = plain.Says endings.Runaway

-- where there is no request, the arguments are bad
abbrev pub request_or : Option Request → Result Request Exc
request_or (Some request) = Ok request
request_or None = Err bad_argument

-- the request of the exit of a group, or of a timeout
abbrev pub exit_request : Bool → Value → Option Exc → Request
exit_request true = request.GroupExit
exit_request false = request.TimeoutExit

-- a variable's first value
abbrev pub value_at : List Value → ℕ → Value
value_at values at = unwrap_or (slice_get values at) Nothing
