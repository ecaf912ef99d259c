-- What the laws of tapes say, from one ending and what extends it.
use Rattle.std.proofs.Common.{◌≡◌, ℕ, List, [], ◌∷◌, ◌++◌, refl, sym, ◌∙◌, ap, subst, append-nil}
use mathlib.Core.Path.{fun_ext}
use mathlib.Core.List.{nil≢cons}
use Rattle.model_value.specs.Request.{Request}
use Rattle.model_value.specs.Input.{Input}
use Rattle.model_tree.specs.Syntax.{Expr, Program, Statement, Statements, no_statements, statement_then, While, If, no_branch, statements, statements_of}
use Rattle.model_says.specs.Asked.{IsFront, asked, waiting, answers_of, inputs_of}
use Rattle.model_says.specs.Endings.{Asks, Progress, Ending, Passes, Returned, Raised, Stopped, saying_of, progress_of, then_next, begun, decided}
use Rattle.model_says.specs.Says.{Calls, run, run_all, call_within}
use Rattle.model_says.specs.Tape.{Tape}
use Rattle.law_says.proofs.Loops.{loop_again}
use Rattle.law_says.proofs.Sound.{extended, Extends, Emptied, front_refl}
use Rattle.law_says.proofs.Bodies.{sound_call_within, sound_run_all, spends}

-- an ending that asks the same, and is another one
same_asked : (short long ending : Ending) → long ≡ ending → asked ending ≡ asked short → IsFront (asked short) (asked long)
same_asked short long ending is same =
    subst (λ l. IsFront (asked short) l) (sym (ap asked is ∙ same)) (front_refl (asked short))

pub extends_asks : (more : Tape) (short long : Ending) → Extends more short long → IsFront (asked short) (asked long)
extends_asks more (Stopped (Asks request) now) long front = front
extends_asks more (Passes now) long is = same_asked (Passes now) long (Passes (extended more now)) is refl
extends_asks more (Returned value now) long is = same_asked (Returned value now) long (Returned value (extended more now)) is refl
extends_asks more (Raised fault now) long is = same_asked (Raised fault now) long (Raised fault (extended more now)) is refl
extends_asks more (Stopped saying now) long is = same_asked (Stopped saying now) long (Stopped saying (extended more now)) is refl

pub extends_says : (more : Tape) (short long : Ending) → Extends more short long → waiting (saying_of short) ≡ [] → saying_of long ≡ saying_of short
extends_says more (Stopped (Asks request) now) long front none = absurd (nil≢cons (sym none))
extends_says more (Passes now) long is none = ap saying_of is
extends_says more (Returned value now) long is none = ap saying_of is
extends_says more (Raised fault now) long is none = ap saying_of is
extends_says more (Stopped saying now) long is none = ap saying_of is

-- where a request waits, no input is left
pub nothing_left : (ending : Ending) (request : Request) → Emptied ending → saying_of ending ≡ Asks request → (progress_of ending).tape ≡ []
nothing_left (Stopped (Asks other) now) request emptied is = emptied
nothing_left (Passes now) request emptied is = absurd (nil≢cons (ap waiting is))
nothing_left (Returned value now) request emptied is = absurd (nil≢cons (ap waiting is))
nothing_left (Raised fault now) request emptied is = absurd (nil≢cons (ap waiting is))
nothing_left (Stopped saying now) request emptied is = absurd (nil≢cons (ap waiting is))

pub all_answered : (ending : Ending) (request : Request) (inputs : List Input) → Emptied ending → saying_of ending ≡ Asks request
    → answers_of (progress_of ending).exchanges ++ inputs_of (progress_of ending).tape ≡ inputs → answers_of (progress_of ending).exchanges ≡ inputs
all_answered ending request inputs emptied is takes =
    sym (append-nil (answers_of (progress_of ending).exchanges))
    ∙ ap (λ t. answers_of (progress_of ending).exchanges ++ inputs_of t) (sym (nothing_left ending request emptied is))
    ∙ takes

-- ---- a loop as its body and then the loop
passes_on : (ending : Ending) → then_next Passes ending ≡ ending
passes_on (Passes now) = refl
passes_on _ = refl

module _ (limit : ℕ) (program : Program) (call : Calls) (last : Statement) where
  run_last : (body : Statements) (now : Progress) → run_all limit program call (statements (statements_of body ++ last ∷ [])) now
      ≡ then_next (run limit program call last) (run_all limit program call body now)
  run_last no_statements now = passes_on (run limit program call last now)
  run_last (statement_then first others) now = by_ending (run limit program call first now) (run_last others)
    where
      by_ending : (ending : Ending)
          → ((at : Progress) → run_all limit program call (statements (statements_of others ++ last ∷ [])) at
          ≡ then_next (run limit program call last) (run_all limit program call others at))
          → then_next (run_all limit program call (statements (statements_of others ++ last ∷ []))) ending
          ≡ then_next (run limit program call last) (then_next (run_all limit program call others) ending)
      by_ending (Passes at) same = same at
      by_ending _ same = refl

pub loop_as_body : (limit : ℕ) (program : Program) (frames : ℕ) (test : Expr) (body : Statements) (now : Progress)
    → run limit program (call_within limit program frames) (While test body) now
    ≡ run limit program (call_within limit program frames) (If test (statements (statements_of body ++ While test body ∷ [])) no_branch) now
loop_as_body limit program frames test body now =
    let call = call_within limit program frames in
    let body_sound = sound_run_all limit program call (sound_call_within limit program frames) body in
    loop_again limit test (run_all limit program call body) (spends limit test (run_all limit program call body) body_sound) now
    ∙ ap (λ next. begun (decided test next Passes) now) (fun_ext (λ at. sym (run_last limit program call (While test body) body at)))
