-- What a task runs, after its tape or its standing changed.
use Rattle.std.proofs.Common.{◌≡◌, ℕ, zero, suc, ◌<◌, ◌≤◌, List, [], ◌∷◌, ◌++◌, length, length-set}
use Rattle.std.proofs.Common.{slice_index_or, refl, sym, ap, ◌∙◌, arith}
use Rattle.std.proofs.lemmas.List.{get_or-set_same, get_or-set_other}
use Rattle.std.proofs.lemmas.List.Sums.{fold-append}
use Rattle.model_value.specs.Request.{Request}
use Rattle.model_value.specs.Value.{Value}
use Rattle.model_tree.specs.Syntax.{Program}
use Rattle.model_says.specs.Blocks.{open_with, open_after, open_blocks}
use Rattle.model_says.specs.Endings.{Asks, Exchange, saying_of}
use Rattle.model_says.specs.Says.{course, exchanges_along, step_limit}
use Rattle.model_says.specs.Tape.{Resumed, Tape}
use Rattle.model_machine.specs.State.{Generator, State, generator, generator_of, with_coroutine, with_generator}
use Rattle.law_says.proofs.Growing.{answered_more}

-- ---- generators
pub set_same : {S : Type 0} (task : ℕ) (it : Generator) (s : State S) → task < length s.generators
    → generator_of task (with_generator task it s) ≡ it
set_same task it s within = get_or-set_same s.generators task it (generator 0 []) within

pub set_other : {S : Type 0} (task other : ℕ) (it : Generator) (s : State S) → (task ≡ other → ⊥)
    → generator_of other (with_generator task it s) ≡ generator_of other s
set_other task other it s n = get_or-set_other s.generators task other it (generator 0 []) (λ e. n (sym e))

pub set_length : {S : Type 0} (task : ℕ) (it : Generator) (s : State S) → length (with_generator task it s).generators ≡ length s.generators
set_length task it s = length-set s.generators task it

pub push_within : {X : Type 0} (xs : List X) (x : X) (i : ℕ) (d : X) → i < length xs → slice_index_or (xs ++ x ∷ []) i d ≡ slice_index_or xs i d
push_within [] x i d h = absurd (omega (arith, h))
push_within (y ∷ xs) x zero d h = refl
push_within (y ∷ xs) x (suc i) d h = push_within xs x i d (omega (arith, h))

pub push_last : {X : Type 0} (xs : List X) (x d : X) → slice_index_or (xs ++ x ∷ []) (length xs) d ≡ x
push_last [] x d = refl
push_last (y ∷ xs) x d = push_last xs x d

pub push_past : {X : Type 0} (xs : List X) (x : X) (i : ℕ) (d : X) → length xs < i → slice_index_or (xs ++ x ∷ []) i d ≡ d
push_past [] x zero d h = absurd (omega (arith, h))
push_past [] x (suc i) d h = refl
push_past (y ∷ xs) x zero d h = absurd (omega (arith, h))
push_past (y ∷ xs) x (suc i) d h = push_past xs x i d (omega (arith, h))

pub past_default : {X : Type 0} (xs : List X) (i : ℕ) (d : X) → length xs ≤ i → slice_index_or xs i d ≡ d
past_default [] i d h = refl
past_default (x ∷ xs) zero d h = absurd (omega (arith, h))
past_default (x ∷ xs) (suc i) d h = past_default xs i d (omega (arith, h))

module _ {S : Type 0} (coroutine : ℕ) (arguments : List Value) (s : State S) where
  pub added_same : (task : ℕ) → task < length s.generators → generator_of task (with_coroutine coroutine arguments s) ≡ generator_of task s
  added_same task h = push_within s.generators (generator coroutine arguments) task (generator 0 []) h

  pub added_last : generator_of (length s.generators) (with_coroutine coroutine arguments s) ≡ generator coroutine arguments
  added_last = push_last s.generators (generator coroutine arguments) (generator 0 [])

  pub added_past : (task : ℕ) → length s.generators < task → generator_of task (with_coroutine coroutine arguments s) ≡ generator 0 []
  added_past task h = push_past s.generators (generator coroutine arguments) task (generator 0 []) h

pub past_none : {S : Type 0} (task : ℕ) (s : State S) → length s.generators ≤ task → generator_of task s ≡ generator 0 []
past_none task s h = past_default s.generators task (generator 0 []) h

-- ---- tapes
pub blocks_before : (program : Program) (place : ℕ) (arguments : List Value) → open_blocks program place arguments [] ≡ []
unfolding course
blocks_before program place arguments = refl

pub exchanges_before : (program : Program) (place : ℕ) (arguments : List Value) → exchanges_along program place arguments [] ≡ []
unfolding course
exchanges_before program place arguments = refl

module _ (program : Program) (place : ℕ) (arguments : List Value) (tape : Tape) (asked : Request) (entry : Resumed)
    (says : saying_of (course step_limit program place arguments tape) ≡ Asks asked) where
  pub exchanges_grow : exchanges_along program place arguments (tape ++ entry ∷ [])
      ≡ exchanges_along program place arguments tape ++ record { request = asked; answer = entry.input } ∷ []
  exchanges_grow = answered_more step_limit program place arguments tape asked entry says

  pub blocks_grow : open_blocks program place arguments (tape ++ entry ∷ []) ≡ open_with (open_blocks program place arguments tape) asked entry.input
  blocks_grow =
      ap open_after exchanges_grow
      ∙ fold-append (λ (blocks : List Value) (exchange : Exchange). open_with blocks exchange.request exchange.answer) []
      (exchanges_along program place arguments tape) (record { request = asked; answer = entry.input } ∷ [])
