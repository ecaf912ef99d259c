-- The calls of what is added, in order, are what the events say.
use Rattle.std.proofs.Common.{◌≡◌, ℕ, false, List, [], ◌∷◌, ◌++◌, None, refl, sym, ap, ◌∙◌}
use Rattle.std.proofs.lemmas.Bool.{true≢false}
use Rattle.std.proofs.lemmas.List.{append-nil, append_assoc}
use Rattle.model_value.specs.declared.action.Action.TheVariants as action
use Rattle.model_wire.specs.declared.call.Call.TheVariants as call
use Rattle.model_wire.specs.declared.event.Event.TheVariants as event
use Rattle.model_wire.specs.Event.{Event}
use Rattle.model_machine.specs.Extra as extra
use Rattle.model_machine.specs.Extra.{Extra, ExtraAnswer, asks_outside}
use Rattle.model_machine.specs.Replies.{input_by}
use Rattle.law_changes.specs.Reaches.{goes, stays}
use Rattle.law_calls.specs.Tells.{Tells}
use Rattle.law_calls.specs.Told.{Acts, Asks, HasCalled, HasHappened, HasNews, Hears, Question, Told, Wakes, called_by, first_told, question_by}
use Rattle.law_calls.specs.Told.{asks_last, told_after}
use Rattle.law_calls.proofs.Events.{last_on, told_on, untold_on}

pub asks_none : (task : ℕ) (answer : ExtraAnswer) → asks_outside answer ≡ false → (question_by task answer ≡ None) × (called_by answer ≡ [])
asks_none task (extra.Answers value) is = (refl, refl)
asks_none task (extra.Raises fault) is = (refl, refl)
asks_none task (extra.Waits on key) is = (refl, refl)
asks_none task (extra.Asks code bytes key) is = absurd (true≢false is)

abbrev pub history_tells : {S : Type 0} (limit : ℕ) (added : Extra S) (first : Told S)
    → Tells limit added (HasHappened limit added first) (HasCalled limit added first)
history_tells limit added first = record {
  beside = λ kept events more untold h. record {
    last = h.last;
    history = h.history;
    keeps = h.keeps;
    asked = h.asked;
    told = h.told ∙ sym (untold_on events more h.whole untold);
    whole = last_on events more h.whole ∙ untold.1;
  };
  asks = λ task code arguments s by h. record {
    last = _;
    history = goes h.history (Asks task code arguments s) (sym h.keeps, h.asked, by);
    keeps = refl;
    asked = refl;
    told = ap (λ es. es ++ called_by (added.ask task code arguments s).answer) h.told;
    whole = h.whole;
  };
  wakes = λ task key input s woken_so h. record {
    last = _;
    history = goes h.history (Wakes task key input s) (sym h.keeps, h.asked, woken_so);
    keeps = refl;
    asked = refl;
    told = ap (λ es. es ++ called_by (added.wake key input s).answer) h.told;
    whole = h.whole;
  };
  hears = λ task key code bytes answer s before fit is h.
      let question : Question = record { task = task; key = key; code = code; bytes = bytes } in
      let asked : List Event = event.Called (call.Extra code bytes) ∷ [] in
      let both : List Event = event.Called (call.Extra code bytes) ∷ event.Got answer ∷ [] in
      record {
        last = _;
        history = goes h.history (Hears question answer s) (sym h.keeps, h.asked, fit);
        keeps = refl;
        asked = refl;
        told =
            ap (λ es. (es ++ event.Got answer ∷ []) ++ called_by (added.wake key (input_by answer) s).answer) h.told
            ∙ ap (λ es. es ++ called_by (added.wake key (input_by answer) s).answer)
            (append_assoc (told_after false before) asked (event.Got answer ∷ []) ∙ sym (told_on before both h.whole)
            ∙ ap (told_after false) (sym is));
        whole = ap (asks_last false) is ∙ last_on before both h.whole;
      };
  over = λ task answer kept events is h.
      let none = asks_none task answer is in
      record {
        last = h.last;
        history = h.history;
        keeps = h.keeps;
        asked = h.asked ∙ none.0;
        told = h.told ∙ ap (λ es. told_after false events ++ es) none.1 ∙ append-nil (told_after false events);
        whole = h.whole;
      };
  acts = λ key s before is h. record {
    last = _;
    history = goes h.history (Acts key s) (sym h.keeps, h.asked);
    keeps = refl;
    asked = refl;
    told =
        ap (λ es. es ++ event.Ran (action.Extra key) ∷ []) h.told ∙ sym (told_on before (event.Ran (action.Extra key) ∷ []) h.whole)
        ∙ ap (told_after false) (sym is);
    whole = ap (asks_last false) is ∙ last_on before (event.Ran (action.Extra key) ∷ []) h.whole;
  };
  news = λ code bytes s before is h. record {
    last = _;
    history = goes h.history (HasNews code bytes s) (sym h.keeps, h.asked);
    keeps = refl;
    asked = refl;
    told =
        ap (λ es. es ++ event.Ran (action.ExtraItem code bytes) ∷ []) h.told
        ∙ sym (told_on before (event.Ran (action.ExtraItem code bytes) ∷ []) h.whole) ∙ ap (told_after false) (sym is);
    whole = ap (asks_last false) is ∙ last_on before (event.Ran (action.ExtraItem code bytes) ∷ []) h.whole;
  };
}

pub first_happened : {S : Type 0} (limit : ℕ) (added : Extra S) (state : S) → HasHappened limit added (first_told state) state []
first_happened limit added state = record { last = _; history = stays; keeps = refl; asked = refl; told = refl; whole = refl }
