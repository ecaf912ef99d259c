-- A request that is added to the loop's own and asks the outside in the middle of its step: what it asks is answered, refused, or
-- finds no answer that fits.
use Rattle.std.specs.Prelude.{ℕ, suc, pos, false, List, [], ◌∷◌, ◌++◌, Some, codes}
use Rattle.model_value.specs.declared.action.Action.TheVariants.{Step, MainDone}
use Rattle.model_value.specs.declared.input.Input.TheVariants.{Send, Throw}
use Rattle.model_value.specs.declared.kind.Kind.TheVariants.{OSError}
use Rattle.model_value.specs.Input.{Input}
use Rattle.model_value.specs.Value.{Value, Bytes, Nothing, exception_of}
use Rattle.model_says.specs.Says.{step_limit}
use Rattle.model_wire.specs.declared.answer.Answer.TheVariants as answer
use Rattle.model_wire.specs.declared.call.Call.TheVariants as call
use Rattle.model_wire.specs.declared.event.End.TheVariants as end
use Rattle.model_wire.specs.declared.event.Event.TheVariants.{Called, Got, Ran, Said}
use Rattle.model_wire.specs.Call.{Call}
use Rattle.model_wire.specs.Event.{Event}
use Rattle.model_wire.specs.JournalText.{entries_of}
use Rattle.model_machine.specs.Extra.{Extra, ExtraAnswer, ExtraSaid, Answers, Raises, Asks, nothing_kept}
use Rattle.model_machine.specs.Replies.{most_ids}
use Rattle.model_machine.specs.Run.{Run, run_on}
use Rattle.model_machine.specs.State.{start}
use Rattle.row_machine.specs.Reading.{program_of, text}

-- ---- what is added: it asks `q`, and goes on asking back the bytes that it got, as often as its key says
abbrev pub said : ExtraAnswer → ExtraSaid (Unit {0})
said it = record { call = record { state = tt; steps = [] }; answer = it }

abbrev pub sent : (key : ℕ) → Value → ExtraAnswer
sent (suc left) (Bytes bytes) = Asks (pos 5) bytes left
sent _ value = Answers value

abbrev pub woken_as : (key : ℕ) → Input → ExtraAnswer
woken_as key (Send value) = sent key value
woken_as key (Throw fault) = Raises fault

abbrev pub asking : (more : ℕ) → Extra (Unit {0})
asking more =
    record {
      ask = λ task code arguments s. said (Asks code (codes "q") more);
      wake = λ key input s. said (woken_as key input);
      wakes_left = λ key s. key;
      act = λ key s. record { state = tt; steps = [] };
      item = λ code bytes s. record { state = tt; steps = [] };
      watches = λ s. false;
      keeps = λ s. nothing_kept;
    }

-- ---- runs over a journal
abbrev pub script : List ℕ
script =
    text
    (codes "def main()"
    ∷ codes "  r = yield from extra(5, [])"
    ∷ codes "  print r"
    ∷ codes "end" ∷ [])

abbrev pub asked_over : (more : ℕ) → List (List ℕ) → Run
asked_over more journal =
    run_on step_limit (asking more) 1000 1000 (start most_ids tt (program_of script) (entries_of (text journal)))

abbrev pub selects : Call
selects = call.Select (Some 0) []

abbrev pub asks : List ℕ → Call
asks bytes = call.Extra (pos 5) bytes

-- main's first step, as far as its request
abbrev pub begun : List Event
begun = Called selects ∷ Got (answer.Turn 0 []) ∷ Ran (Step 0) ∷ Called (asks (codes "q")) ∷ []

abbrev pub over : List Event
over = Called selects ∷ Got (answer.Turn 0 []) ∷ Ran MainDone ∷ []

abbrev pub answered : Run
answered = record {
  events = begun ++ Got (answer.Extra (codes "z")) ∷ Said 0 (codes "b\"z\"") ∷ over;
  end = end.Returned Nothing;
}

abbrev pub refused : Run
refused = record {
  events = begun ++ Got answer.Refused ∷ over;
  end = end.Raised (exception_of OSError (codes "extra refused"));
}

-- both asks stand in the one step, and each wake hears the answer to its own
abbrev pub asked_twice : Run
asked_twice = record {
  events = begun ++ Got (answer.Extra (codes "z")) ∷ Called (asks (codes "z")) ∷ Got (answer.Extra (codes "y"))
      ∷ Said 0 (codes "b\"y\"") ∷ over;
  end = end.Returned Nothing;
}

-- ---- the run ends in the middle of the step
abbrev pub unanswered : Run
unanswered = record { events = begun; end = end.Over (asks (codes "q")) }

abbrev pub no_entry : Run
no_entry = record { events = begun; end = end.JournalRefused 2 1 }

abbrev pub misfit : Run
misfit = record { events = begun ++ Got answer.Eof ∷ []; end = end.Mismatch 2 (asks (codes "q")) }
