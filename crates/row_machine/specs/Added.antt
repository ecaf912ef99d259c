-- A request that is added to the loop's own: with code 1 it waits five milliseconds and answers a text. Its state is the
-- number of the future for which the last such request waits.
use Rattle.std.specs.Prelude.{ℕ, ◌+◌, pos, true, false, List, [], ◌∷◌, codes, Some, None}
use Rattle.model_value.specs.declared.action.Action.TheVariants as action
use Rattle.model_value.specs.declared.input.Input.TheVariants.{Send, Throw}
use Rattle.model_value.specs.declared.outcome.Outcome.TheVariants.{Value as Resolved}
use Rattle.model_value.specs.Input.{Input}
use Rattle.model_value.specs.Value.{Nothing, Text}
use Rattle.model_wire.specs.declared.answer.Answer.TheVariants as answer
use Rattle.model_wire.specs.declared.call.Call.TheVariants as call
use Rattle.model_wire.specs.declared.event.Event.TheVariants as event
use Rattle.model_wire.specs.declared.item.Item.TheVariants as item
use Rattle.model_wire.specs.declared.watch.Watch.{Watch}
use Rattle.model_wire.specs.declared.watch.Watch.TheVariants as watch
use Rattle.model_wire.specs.Event.{Event}
use Rattle.model_wire.specs.Journal.{Entry, Answered}
use Rattle.model_loop.specs.Futures.{next_future}
use Rattle.model_wire.specs.declared.event.End.TheVariants.{Returned}
use Rattle.model_machine.specs.Extra.{CallsLater, Extra, ExtraAnswer, MakesPlain, Answers, Raises, Settles, Waits, nothing_kept}
use Rattle.model_machine.specs.Replies.{most_ids, shown_all}
use Rattle.model_machine.specs.Run.{Run, run_on}
use Rattle.model_machine.specs.State.{start}
use Rattle.model_says.specs.Says.{step_limit}
use Rattle.row_machine.specs.Reading.{Seen, at, prints, program_of, seen_of, text}

abbrev pub woken_as : Input → ExtraAnswer
woken_as (Send value) = Answers (Text (codes "rang"))
woken_as (Throw fault) = Raises fault

abbrev pub alarm : Extra ℕ
alarm =
    record {
      ask = λ task code arguments s.
          record {
            call = record {
              state = next_future s.loop.parts;
              steps = MakesPlain ∷ CallsLater (s.loop.parts.time + 5) 7 ∷ [];
            };
            answer = Waits (next_future s.loop.parts) 7;
          };
      wake = λ key input s. record { call = record { state = s.extra; steps = [] }; answer = woken_as input };
      wakes_left = λ key s. 0;
      act = λ key s. record { state = s.extra; steps = Settles s.extra (Resolved Nothing) ∷ [] };
      item = λ code bytes s. record { state = s.extra; steps = [] };
      watches = λ s. false;
      keeps = λ s. nothing_kept;
    }

abbrev pub seen_with_alarm : List ℕ → List ℕ → Seen
seen_with_alarm script times = seen_of (run_on step_limit alarm 1000 1000 (start most_ids 0 (program_of script) (at times)))

abbrev pub waits_text : List ℕ
waits_text =
    text
    (codes "def main()"
    ∷ codes "  r = yield from extra(1, [])"
    ∷ codes "  print r"
    ∷ codes "end" ∷ [])

abbrev pub waits_seen : Seen
waits_seen =
    record {
      lines = prints 0 (Text (codes "rang") ∷ []) ∷ [];
      waits = Some 0 ∷ Some 5 ∷ Some 0 ∷ Some 0 ∷ [];
      end = Returned Nothing;
    }

-- a cancel of the task goes to what the request waits for, and what wakes the request is CancelledError
abbrev pub cancelled_text : List ℕ
cancelled_text =
    text
    (codes "def w()"
    ∷ codes "  try"
    ∷ codes "    yield from extra(1, [])"
    ∷ codes "  except CancelledError"
    ∷ codes "    print \"cancelled\""
    ∷ codes "  end"
    ∷ codes "end"
    ∷ codes "def main()"
    ∷ codes "  t = yield from spawn(w)"
    ∷ codes "  yield"
    ∷ codes "  yield from cancel(t)"
    ∷ codes "  yield from t"
    ∷ codes "end" ∷ [])

abbrev pub cancelled_seen : Seen
cancelled_seen =
    record {
      lines = prints 1 (Text (codes "cancelled") ∷ []) ∷ [];
      waits = Some 0 ∷ Some 0 ∷ Some 0 ∷ Some 0 ∷ Some 0 ∷ [];
      end = Returned Nothing;
    }

-- the same request, which waits for news of the outside
abbrev pub bell : Extra ℕ
bell =
    record alarm {
      ask = λ task code arguments s.
          record {
            call = record { state = next_future s.loop.parts; steps = MakesPlain ∷ [] };
            answer = Waits (next_future s.loop.parts) 7;
          };
      item = λ code bytes s. record { state = s.extra; steps = Settles s.extra (Resolved Nothing) ∷ [] };
      watches = λ s. true;
    }

abbrev pub news : Entry
news = Answered (answer.Turn 4 (item.Extra (pos 1) [] ∷ []))

abbrev pub run_with_bell : List ℕ → List Entry → Run
run_with_bell script entries = run_on step_limit bell 1000 1000 (start most_ids 0 (program_of script) entries)

abbrev pub watched : List Watch
watched = watch.Extra ∷ []

-- the request is asked; news come, and run; the task is woken; main's callback runs
abbrev pub news_events : List Event
news_events =
    event.Called (call.Select (Some 0) watched) ∷ event.Got (answer.Turn 0 []) ∷ event.Ran (action.Step 0)
    ∷ event.Called (call.Select None watched) ∷ event.Got (answer.Turn 4 (item.Extra (pos 1) [] ∷ []))
    ∷ event.Ran (action.ExtraItem (pos 1) [])
    ∷ event.Called (call.Select (Some 0) watched) ∷ event.Got (answer.Turn 4 []) ∷ event.Ran (action.Wakeup 0)
    ∷ event.Said 0 (shown_all (Text (codes "rang") ∷ []))
    ∷ event.Called (call.Select (Some 0) watched) ∷ event.Got (answer.Turn 4 []) ∷ event.Ran action.MainDone ∷ []
