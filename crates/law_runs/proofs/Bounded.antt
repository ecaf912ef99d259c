-- A step's bound is never reached: a coroutine asks no more often than its statements allow.
use Rattle.std.proofs.Common.{◌≡◌, ℕ, zero, suc, ◌+◌, ◌*◌, ◌<◌, false, List, [], ◌∷◌, ◌++◌, length, slice_set, subst, if◌then◌else◌, refl, ap, sym, ◌∙◌}
use Rattle.std.proofs.Common.{length-append, mul-le-mul_left, arith}
use Rattle.std.proofs.lemmas.List.Sums.{count_by-le-length, sum_by-append}
use Rattle.model_value.specs.declared.input.Input.TheVariants.{Send, Throw}
use Rattle.model_value.specs.Input.{Input}
use Rattle.model_says.specs.Endings.{Saying, Asks, Returns, Raises as Raised, Runaway}
use Rattle.model_says.specs.Tape.{Resumed, Tape}
use Rattle.model_machine.specs.Extra.{Extra}
use Rattle.model_machine.specs.Replies.{RequestReply, Answers, Raises, Suspends, Halts, reply}
use Rattle.model_machine.specs.State.{Generator, State, generator_of, resumed}
use Rattle.model_machine.specs.Step.{most_answers, says_of, taken_as, served, serve}
use Rattle.law_says.specs.Steps.{steps_in}
use Rattle.law_says.proofs.Counting.{asked_at_most}
use Rattle.law_runs.proofs.Kept.{tape_in, tape_of, length-slice_set, IsKeptInAnswer, reply_state, reply-keeps}

-- ---- an answer on the tape
abbrev entry_of : Input → Resumed
entry_of input = record { input = input; fresh = false }

tape-set_same : (gs : List Generator) (at : ℕ) (g : Generator) → at < length gs → tape_in (slice_set gs at g) at ≡ g.tape
tape-set_same [] at g h = absurd (omega (arith, h))
tape-set_same (x ∷ gs) zero g h = refl
tape-set_same (x ∷ gs) (suc at) g h = tape-set_same gs at g (omega (arith, h))

-- enough answers are left
abbrev IsEnough : (limit count : ℕ) → Tape → Type 0
IsEnough limit count tape = 2 + 2 * (limit * (steps_in tape + 1)) < length tape + count

module _ {S : Type 0} (limit : ℕ) (added : Extra S) (task : ℕ) where
  resumed-tape : (input : Input) (s : State S) → task < length s.generators → tape_of task (resumed false task input s) ≡ tape_of task s ++ entry_of input ∷ []
  resumed-tape input s h = tape-set_same s.generators task _ h

  resumed-length : (input : Input) (s : State S) → length (resumed false task input s).generators ≡ length s.generators
  resumed-length input s = length-slice_set s.generators task _

  -- after an answer one less is enough
  still : (count : ℕ) (before : Tape) (input : Input) → IsEnough limit (suc count) before → IsEnough limit count (before ++ entry_of input ∷ [])
  still count before input h =
      let a : length (before ++ entry_of input ∷ []) ≡ length before + 1 = length-append before (entry_of input ∷ []) in
      let b : steps_in (before ++ entry_of input ∷ []) ≡ steps_in before =
      sum_by-append (λ (e : Resumed). if e.fresh then 1 else 0) before (entry_of input ∷ []) ∙ omega arith in
      rw b (omega (arith, a, h))

  -- more answers than enough change nothing
  abbrev Settles : ℕ → Type 0
  Settles count = (s : State S) → 0 < count → task < length s.generators → IsEnough limit count (tape_of task s)
      → (more : ℕ) → serve limit added (count + more) task s ≡ serve limit added count task s

  module _ (count : ℕ) (settles : Settles count) (more : ℕ) (s : State S) where
    resumed_settles : (now : State S) → IsKeptInAnswer task s now → 0 < count → task < length s.generators → IsEnough limit (suc count) (tape_of task s)
        → (input : Input)
        → serve limit added (count + more) task (resumed false task input now) ≡ serve limit added count task (resumed false task input now)
    resumed_settles now kept some there enough input =
        let next = resumed false task input now in
        let grown = kept.generators in
        let tape : tape_of task next ≡ tape_of task s ++ entry_of input ∷ [] =
        resumed-tape input now (omega (arith, grown)) ∙ ap (λ t. t ++ entry_of input ∷ []) kept.tape in
        let same = resumed-length input now in
        settles next some (omega (arith, grown, same))
        (subst (IsEnough limit count) (sym tape) (still count (tape_of task s) input enough)) more

    taken_settles : (it : RequestReply S) → IsKeptInAnswer task s (reply_state it) → 0 < count → task < length s.generators
        → IsEnough limit (suc count) (tape_of task s)
        → taken_as it false task (serve limit added (count + more) task) ≡ taken_as it false task (serve limit added count task)
    taken_settles (Answers value now) kept some there enough = resumed_settles now kept some there enough (Send value)
    taken_settles (Raises fault now) kept some there enough = resumed_settles now kept some there enough (Throw fault)
    taken_settles (Suspends now) kept some there enough = refl
    taken_settles (Halts end last) kept some there enough = refl

    served_settles : (said : Saying) → says_of limit added task s ≡ said → task < length s.generators → IsEnough limit (suc count) (tape_of task s)
        → served limit added said task (serve limit added (count + more) task) s ≡ served limit added said task (serve limit added count task) s
    served_settles (Asks request) e there enough =
        let it = generator_of task s in
        let most = asked_at_most limit s.program it.coroutine it.arguments it.tape request e in
        taken_settles (reply added task request s) (reply-keeps added task request s) (omega (arith, most, enough)) there enough
    served_settles (Returns value) e there enough = refl
    served_settles (Raised fault) e there enough = refl
    served_settles Runaway e there enough = refl

  serve_settles : (count : ℕ) → Settles count
  unfolding serve
  serve_settles zero = λ s some there enough more. absurd (omega (arith, some))
  serve_settles (suc count) = λ s some there enough more.
      let one : suc count + more ≡ suc (count + more) = omega arith in
      ap (λ n. serve limit added n task s) one
      ∙ served_settles count (serve_settles count) more s (says_of limit added task s) refl there enough

  pub bound_is_enough : (more : ℕ) (s : State S) → task < length s.generators
      → serve limit added (most_answers limit (generator_of task s).tape + more) task s ≡ serve limit added (most_answers limit
      (generator_of task s).tape) task s
  bound_is_enough more s there =
      let tape = (generator_of task s).tape in
      let few = count_by-le-length (λ (e : Resumed). e.fresh) tape in
      let fits = mul-le-mul_left {m = steps_in tape + 1} {n = length tape + 1} limit (omega (arith, few)) in
      serve_settles (most_answers limit tape) s (omega arith) there (omega (arith, fits)) more
