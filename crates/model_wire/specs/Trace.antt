-- What is written of a run's events, with the trace and without it, and its last line.
use Rattle.std.specs.Prelude.{ℕ, Bool, true, false, List, [], ◌∷◌, ◌++◌, codes}
use Rattle.std.specs.List.{flat_map}
use Rattle.std.specs.Fmt.{decimal, signed_decimal}
use Rattle.model_value.specs.Shown.{shown, shown_exc, id_text}
use Rattle.model_value.specs.Value.{Value, Exc}
use Rattle.model_value.specs.declared.action.Action.TheVariants as action
use Rattle.model_value.specs.declared.action.ChildItem.{ChildItem}
use Rattle.model_value.specs.declared.action.ChildItem.TheVariants as news
use Rattle.model_wire.specs.declared.event.Event.TheVariants as event
use Rattle.model_wire.specs.declared.event.End as any_end
use Rattle.model_wire.specs.declared.event.End.TheVariants as end
use Rattle.model_wire.specs.Call.{Call, server_text, conn_text, child_text, written_call, written}
use Rattle.model_wire.specs.Event.{Event, Action}

abbrev pub End : Type 0
End = any_end.End Value Exc Call

abbrev pub task_text : ℕ → List ℕ
task_text task = id_text 84 task

abbrev pub group_text : ℕ → List ℕ
group_text group = id_text 71 group

abbrev pub timeout_text : ℕ → List ℕ
timeout_text timeout = id_text 79 timeout

-- ---- actions
-- the word of what a child or one of its pipes tells
abbrev pub news_word : ChildItem (List ℕ) → List ℕ
news_word news.Broken = codes "broken"
news_word (news.Out bytes) = codes "out"
news_word news.OutEnd = codes "outend"
news_word (news.Errs bytes) = codes "err"
news_word news.ErrsEnd = codes "errend"
news_word (news.Exit code) = codes "exit"

abbrev pub action_text : Action → List ℕ
action_text (action.Step task) = codes "step " ++ task_text task
action_text (action.StepInCycle task cycle) = codes "step " ++ task_text task
action_text (action.Wakeup task) = codes "wakeup " ++ task_text task
action_text (action.SleepDone task future) = codes "sleepdone " ++ task_text task
action_text (action.GroupDone group task) = codes "groupdone " ++ group_text group ++ codes " " ++ task_text task
action_text (action.Fires timeout) = codes "timeout " ++ timeout_text timeout
action_text action.MainDone = codes "maindone"
action_text (action.Made conn) = codes "made " ++ conn_text conn
action_text (action.StartRead conn) = codes "startread " ++ conn_text conn
action_text (action.Lost conn broken) = codes "lost " ++ conn_text conn
action_text (action.HandlerDone conn task) = codes "handlerdone " ++ conn_text conn
action_text (action.ReadableServer server) = codes "readable " ++ server_text server
action_text (action.Readable conn) = codes "readable " ++ conn_text conn
action_text (action.Writable conn) = codes "writable " ++ conn_text conn
action_text (action.Up conn) = codes "up " ++ conn_text conn
action_text (action.Down conn) = codes "down " ++ conn_text conn
action_text (action.WritableChild child) = codes "writable " ++ child_text child
action_text (action.ChildItem child told) = codes "childitem " ++ child_text child ++ codes " " ++ news_word told
action_text (action.LostChild child broken) = codes "lost " ++ child_text child
action_text (action.ExtraItem code bytes) = codes "extra " ++ signed_decimal code
action_text (action.Extra key) = codes "extra " ++ decimal key

-- ---- lines
-- a text and the newline that ends it
abbrev pub line : List ℕ → List ℕ
line text = text ++ 10 ∷ []

-- a line that stands in the trace alone
abbrev pub traced : Bool → List ℕ → List ℕ
traced true text = line text
traced false text = []

-- The line of an event: `print` writes one, with its task before it. With the trace so do calls, answers and handles.
abbrev pub line_of : Bool → Event → List ℕ
line_of trace (event.Called call) = traced trace (codes "> " ++ written_call call)
line_of trace (event.Got answer) = traced trace (codes "< " ++ written answer)
line_of trace (event.Ran action) = traced trace (codes ". " ++ action_text action)
line_of trace (event.Said task text) = line (task_text task ++ codes " " ++ text)

abbrev pub lines_of_events : Bool → List Event → List ℕ
lines_of_events trace events = flat_map (line_of trace) events

-- the last line, without its newline
abbrev pub end_text : End → List ℕ
end_text (end.Returned value) = codes "= returned " ++ shown value
end_text (end.Raised fault) = codes "= raised " ++ shown_exc fault
end_text end.Cancelled = codes "= cancelled"
end_text end.WordsRefused = codes "! words"
end_text (end.ScriptRefused number cause) = codes "! script " ++ decimal number ++ codes " " ++ decimal cause
end_text (end.JournalRefused number cause) = codes "! journal " ++ decimal number ++ codes " " ++ decimal cause
end_text (end.Mismatch count call) = codes "! mismatch " ++ decimal count ++ codes " " ++ written_call call
end_text (end.Over call) = codes "! over " ++ written_call call
end_text end.Stalled = codes "= stalled"
end_text (end.Runaway task) = codes "= runaway " ++ task_text task
end_text end.ShelfFault = codes "! fault shelf"
end_text end.WireFault = codes "! fault wire"
end_text (end.Turns limit) = codes "= turns " ++ decimal limit
