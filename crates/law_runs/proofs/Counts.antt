-- What one more event adds to what is counted in a list of them.
use Rattle.std.proofs.Common.{◌≡◌, ℕ, suc, cond, Bool, true, false, List, [], ◌∷◌, ◌++◌, refl, ap, sym, ◌∙◌, append_assoc, append-nil}
use Rattle.model_value.specs.Action.{Action}
use Rattle.model_wire.specs.declared.event.Event.TheVariants as event
use Rattle.model_wire.specs.Call.{Answer, Call}
use Rattle.model_wire.specs.Event.{Event}
use Rattle.model_machine.specs.Went.{answers_in}
use Rattle.law_cases.specs.Trees.{is_select}
use Rattle.law_runs.specs.Growth.{EventsGrow, turns_in}

-- ---- events go on
pub goes_on_same : (es : List Event) → EventsGrow es es
goes_on_same es = ([], sym (append-nil es))

pub goes_on_one : (es : List Event) (e : Event) → EventsGrow es (es ++ e ∷ [])
goes_on_one es e = (e ∷ [], refl)

pub goes_on_then : (a b c : List Event) → EventsGrow a b → EventsGrow b c → EventsGrow a c
goes_on_then a b c first second = (first.0 ++ second.0, second.1 ∙ ap (λ (es : List Event). es ++ second.0) first.1 ∙ append_assoc a first.0 second.0)

-- ---- turns
one_more : (b : Bool) (n m : ℕ) → n ≡ m → cond b (suc n) n ≡ cond b (suc m) m
one_more b n m e = ap (λ k. cond b (suc k) k) e

pub turns-said : (es : List Event) (task : ℕ) (text : List ℕ) → turns_in (es ++ event.Said task text ∷ []) ≡ turns_in es
turns-said [] task text = refl
turns-said (event.Called call ∷ es) task text = one_more (is_select call) _ _ (turns-said es task text)
turns-said (event.Got answer ∷ es) task text = turns-said es task text
turns-said (event.Ran it ∷ es) task text = turns-said es task text
turns-said (event.Said other words ∷ es) task text = turns-said es task text

pub turns-ran : (es : List Event) (it : Action) → turns_in (es ++ event.Ran it ∷ []) ≡ turns_in es
turns-ran [] it = refl
turns-ran (event.Called call ∷ es) it = one_more (is_select call) _ _ (turns-ran es it)
turns-ran (event.Got answer ∷ es) it = turns-ran es it
turns-ran (event.Ran other ∷ es) it = turns-ran es it
turns-ran (event.Said task text ∷ es) it = turns-ran es it

pub turns-got : (es : List Event) (answer : Answer) → turns_in (es ++ event.Got answer ∷ []) ≡ turns_in es
turns-got [] answer = refl
turns-got (event.Called call ∷ es) answer = one_more (is_select call) _ _ (turns-got es answer)
turns-got (event.Got other ∷ es) answer = turns-got es answer
turns-got (event.Ran it ∷ es) answer = turns-got es answer
turns-got (event.Said task text ∷ es) answer = turns-got es answer

-- a call that is a select begins one, and another none
turns-called : (b : Bool) (es : List Event) (call : Call) → is_select call ≡ b
    → turns_in (es ++ event.Called call ∷ []) ≡ cond b (suc (turns_in es)) (turns_in es)
turns-called b [] call is = ap (λ c. cond c 1 0) is
turns-called b (event.Called other ∷ es) call is = one_more (is_select other) _ _ (turns-called b es call is) ∙ swapped (is_select other) b (turns_in es)
  where
    swapped : (c d : Bool) (n : ℕ) → cond c (suc (cond d (suc n) n)) (cond d (suc n) n) ≡ cond d (suc (cond c (suc n) n)) (cond c (suc n) n)
    swapped true true n = refl
    swapped true false n = refl
    swapped false true n = refl
    swapped false false n = refl
turns-called b (event.Got answer ∷ es) call is = turns-called b es call is
turns-called b (event.Ran it ∷ es) call is = turns-called b es call is
turns-called b (event.Said task text ∷ es) call is = turns-called b es call is

pub turns-selected : (es : List Event) (call : Call) → is_select call ≡ true → turns_in (es ++ event.Called call ∷ []) ≡ suc (turns_in es)
turns-selected es call is = turns-called true es call is

pub turns-other : (es : List Event) (call : Call) → is_select call ≡ false → turns_in (es ++ event.Called call ∷ []) ≡ turns_in es
turns-other es call is = turns-called false es call is

-- ---- answers
pub answers-said : (es : List Event) (task : ℕ) (text : List ℕ) → answers_in (es ++ event.Said task text ∷ []) ≡ answers_in es
answers-said [] task text = refl
answers-said (event.Called call ∷ es) task text = answers-said es task text
answers-said (event.Got answer ∷ es) task text = ap suc (answers-said es task text)
answers-said (event.Ran it ∷ es) task text = answers-said es task text
answers-said (event.Said other words ∷ es) task text = answers-said es task text

pub answers-ran : (es : List Event) (it : Action) → answers_in (es ++ event.Ran it ∷ []) ≡ answers_in es
answers-ran [] it = refl
answers-ran (event.Called call ∷ es) it = answers-ran es it
answers-ran (event.Got answer ∷ es) it = ap suc (answers-ran es it)
answers-ran (event.Ran other ∷ es) it = answers-ran es it
answers-ran (event.Said task text ∷ es) it = answers-ran es it

pub answers-got : (es : List Event) (answer : Answer) → answers_in (es ++ event.Got answer ∷ []) ≡ suc (answers_in es)
answers-got [] answer = refl
answers-got (event.Called call ∷ es) answer = answers-got es answer
answers-got (event.Got other ∷ es) answer = ap suc (answers-got es answer)
answers-got (event.Ran it ∷ es) answer = answers-got es answer
answers-got (event.Said task text ∷ es) answer = answers-got es answer

pub answers-called : (es : List Event) (call : Call) → answers_in (es ++ event.Called call ∷ []) ≡ answers_in es
answers-called [] call = refl
answers-called (event.Called other ∷ es) call = answers-called es call
answers-called (event.Got answer ∷ es) call = ap suc (answers-called es call)
answers-called (event.Ran it ∷ es) call = answers-called es call
answers-called (event.Said task text ∷ es) call = answers-called es call
