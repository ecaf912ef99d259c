-- The reader of a connection, and of a pipe that a child writes: how it stands, what it received, told by events, and what of
-- that children told. One that wasn't opened yet stands as a new one.
use Rattle.std.specs.Prelude.{ℕ, Bool, true, false, ◌==◌, List, [], ◌∷◌, ◌++◌, Option, Some, None, slice_get}
use Rattle.model_pump.specs.declared.stream.Stream.{Stream}
use Rattle.model_pump.specs.declared.stream.Stream.TheVariants as stream
use Rattle.model_value.specs.declared.action.Action.TheVariants as action
use Rattle.model_value.specs.declared.action.ChildItem.TheVariants as news
use Rattle.model_value.specs.Action.{Action}
use Rattle.model_wire.specs.declared.answer.Answer.TheVariants as answer
use Rattle.model_wire.specs.declared.call.Call.TheVariants as call
use Rattle.model_wire.specs.declared.event.Event.TheVariants as event
use Rattle.model_wire.specs.Call.{Call, Answer}
use Rattle.model_wire.specs.Event.{Event}
use Rattle.model_stream.specs.Children.{Child, its_pipe}
use Rattle.model_stream.specs.Connections.{Connection}
use Rattle.model_stream.specs.Receivers.{Receiver, new_receiver, takes_more}
use Rattle.model_stream.specs.Requests.{StreamReader, OfConn, OfChild}
use Rattle.model_stream.specs.Senders.{is_closing}
use Rattle.model_stream.specs.Streams.{Streams}
use Rattle.law_stream.specs.ReceiverOrder.{has_failed}

-- ---- the reader, as it stands
abbrev pub conn_receiver : Option Connection → Receiver
conn_receiver None = new_receiver
conn_receiver (Some c) = c.receiver

abbrev pub pipe_receiver : Stream → Option Child → Receiver
pipe_receiver pipe None = new_receiver
pipe_receiver pipe (Some p) = (its_pipe pipe).get p

abbrev pub receiver_of : StreamReader → Streams → Receiver
receiver_of (OfConn id) s = conn_receiver (slice_get s.connections id)
receiver_of (OfChild pipe id) s = pipe_receiver pipe (slice_get s.children id)

abbrev pub held_of : StreamReader → Streams → List ℕ
held_of from s = (receiver_of from s).reader.held

-- whether it failed
abbrev pub is_failed : StreamReader → Streams → Bool
is_failed from s = has_failed (receiver_of from s)

-- whether it will receive no more: its connection closes. A pipe of a child never fails.
abbrev pub conn_shut : Option Connection → Bool
conn_shut None = false
conn_shut (Some c) = is_closing c.sender

abbrev pub is_shut : StreamReader → Streams → Bool
is_shut (OfConn id) s = conn_shut (slice_get s.connections id)
is_shut (OfChild pipe id) s = false

-- ---- what it received
abbrev pub bytes_if : Bool → List ℕ → List ℕ
bytes_if true bytes = bytes
bytes_if false bytes = []

-- with the answer to a call: a connection receives by `recv`
abbrev pub brought_by : StreamReader → Call → Answer → List ℕ
brought_by (OfConn id) (call.Recv conn) (answer.Data bytes) = bytes_if (id == conn) bytes
brought_by _ _ _ = []

-- with a callback: a pipe of a child is told
abbrev pub told_to : StreamReader → Action → List ℕ
told_to (OfChild stream.Out id) (action.ChildItem child (news.Out bytes)) = bytes_if (id == child) bytes
told_to (OfChild stream.Errs id) (action.ChildItem child (news.Errs bytes)) = bytes_if (id == child) bytes
told_to _ _ = []

-- with an answer, by the call before it
abbrev pub brought_last : StreamReader → Option Call → Answer → List ℕ
brought_last from None came = []
brought_last from (Some it) came = brought_by from it came

-- all that it received by events, in order; `last` is the call that they answer first
abbrev pub received_after : StreamReader → (last : Option Call) → List Event → List ℕ
received_after from last [] = []
received_after from last (event.Called it ∷ events) = received_after from (Some it) events
received_after from last (event.Got came ∷ events) = brought_last from last came ++ received_after from None events
received_after from last (event.Ran it ∷ events) = told_to from it ++ received_after from last events
received_after from last (event.Said task text ∷ events) = received_after from last events

abbrev pub received : StreamReader → List Event → List ℕ
received from events = received_after from None events

-- ---- news
-- bytes of a pipe, or its end
abbrev pub is_news_to : StreamReader → Action → Bool
is_news_to (OfChild stream.Out id) (action.ChildItem child (news.Out bytes)) = id == child
is_news_to (OfChild stream.Out id) (action.ChildItem child news.OutEnd) = id == child
is_news_to (OfChild stream.Errs id) (action.ChildItem child (news.Errs bytes)) = id == child
is_news_to (OfChild stream.Errs id) (action.ChildItem child news.ErrsEnd) = id == child
is_news_to _ _ = false

-- of a child, whatever it tells
abbrev pub is_news : Action → Bool
is_news (action.ChildItem child told) = true
is_news _ = false

-- a pipe hears news where it takes more; a connection is told none
abbrev pub pipe_hears : Stream → Option Child → Bool
pipe_hears pipe None = false
pipe_hears pipe (Some p) = takes_more ((its_pipe pipe).get p)

abbrev pub may_hear : StreamReader → Streams → Bool
may_hear (OfConn id) s = true
may_hear (OfChild pipe id) s = pipe_hears pipe (slice_get s.children id)
