-- One input more answers the request that waited, and nothing else changes of what was answered.
use Rattle.std.proofs.Common.{◌≡◌, ℕ, ◌⊎◌, inl, inr, List, [], ◌∷◌, ◌++◌, map, fold, refl, sym, ◌∙◌, ap, subst, append-nil}
use mathlib.Core.List.{nil≢cons}
use Rattle.model_value.specs.Input.{Input}
use Rattle.model_value.specs.declared.input.Input.TheVariants.{Send, Throw}
use Rattle.model_value.specs.declared.request.Request.TheVariants as request
use Rattle.model_value.specs.Request.{Request}
use Rattle.model_value.specs.Value.{Value, Exc, list_of}
use Rattle.model_tree.specs.Syntax.{Program}
use Rattle.model_says.specs.Asked.{requests_of, answers_of, inputs_of, waiting, asked}
use Rattle.model_says.specs.Blocks.{open_with, open_after}
use Rattle.model_says.specs.Endings.{Saying, Asks, Returns, Raises, Runaway, Exchange, Ending, Passes, Returned, Raised, Stopped, saying_of, progress_of}
use Rattle.model_says.specs.Says.{course}
use Rattle.model_says.specs.Tape.{Resumed, Tape}
use Rattle.law_says.proofs.Bodies.{course_here, course_extends}
use Rattle.law_says.proofs.Ends.{extends_asks, all_answered, nothing_left}
use Rattle.law_says.specs.Given.{AllOf, IsClosed, InInput, InTape, InSaying}
use Rattle.law_says.specs.Opened.{EnteredBlock, entered_as, opened_with, opened_after, answered, opened, LeavesBlocks}
use Rattle.law_says.proofs.Nesting.{opened_more, Well, WellAsked}
use Rattle.law_says.proofs.BlockBodies.{course_well}

-- ---- lists
abbrev first_of : {A : Type 0} → A → List A → A
first_of other [] = other
first_of other (x ∷ xs) = x

abbrev rest_of : {A : Type 0} → List A → List A
rest_of [] = []
rest_of (x ∷ xs) = xs

heads_are : {A : Type 0} {x y : A} {xs ys : List A} → (x ∷ xs) ≡ (y ∷ ys) → x ≡ y
heads_are {x = x} e = ap (first_of x) e

tails_are : {A : Type 0} {x y : A} {xs ys : List A} → (x ∷ xs) ≡ (y ∷ ys) → xs ≡ ys
tails_are e = ap rest_of e

same_exchange : (x y : Exchange) → x.request ≡ y.request → x.answer ≡ y.answer → x ≡ y
same_exchange x y e f = ap (λ r. record { request = r; answer = x.answer }) e ∙ ap (λ a. record { request = y.request; answer = a }) f

-- requests and answers make the exchanges
one_more : (before after : List Exchange) (it : Request) (input : Input) (more : List Request) (w : List Request) (left : List Input)
    → (requests_of before ++ it ∷ []) ++ more ≡ requests_of after ++ w → answers_of after ++ left ≡ answers_of before ++ input ∷ []
    → (left ≡ []) ⊎ (w ≡ []) → after ≡ before ++ record { request = it; answer = input } ∷ []
one_more [] [] it input more w left asks takes (inl none) = absurd (nil≢cons (sym none ∙ takes))
one_more [] [] it input more w left asks takes (inr none) = absurd (nil≢cons (sym none ∙ sym asks))
one_more [] (x ∷ []) it input more w left asks takes h =
    ap (λ y. y ∷ []) (same_exchange x (record { request = it; answer = input }) (sym (heads_are asks)) (heads_are takes))
one_more [] (x ∷ y ∷ after) it input more w left asks takes h = absurd (nil≢cons (sym (tails_are takes)))
one_more (x ∷ before) [] it input more w left asks takes (inl none) = absurd (nil≢cons (sym none ∙ takes))
one_more (x ∷ before) [] it input more w left asks takes (inr none) = absurd (nil≢cons (sym none ∙ sym asks))
one_more (x ∷ before) (y ∷ after) it input more w left asks takes h =
    ap (λ z. z ∷ after) (same_exchange y x (sym (heads_are asks)) (heads_are takes))
    ∙ ap (λ zs. x ∷ zs) (one_more before after it input more w left (tails_are asks) (tails_are takes) h)

inputs-append : (xs ys : Tape) → inputs_of (xs ++ ys) ≡ inputs_of xs ++ inputs_of ys
inputs-append [] ys = refl
inputs-append (x ∷ xs) ys = ap (λ l. x.input ∷ l) (inputs-append xs ys)

asked_is : (ending : Ending) (it : Request) → saying_of ending ≡ Asks it → asked ending ≡ requests_of (progress_of ending).exchanges ++ it ∷ []
asked_is ending it is = ap (λ s. requests_of (progress_of ending).exchanges ++ waiting s) is

module _ (limit : ℕ) (program : Program) (place : ℕ) (arguments : List Value) (tape : Tape) where
  abbrev now : Ending
  now = course limit program place arguments tape

  -- either nothing is left, or nothing waits
  settled : (longer : Tape) → (inputs_of (progress_of (course limit program place arguments longer)).tape ≡ [])
      ⊎ (waiting (saying_of (course limit program place arguments longer)) ≡ [])
  settled longer = at (saying_of (course limit program place arguments longer)) refl
    where
      at : (saying : Saying) → saying_of (course limit program place arguments longer) ≡ saying
          → (inputs_of (progress_of (course limit program place arguments longer)).tape ≡ [])
          ⊎ (waiting (saying_of (course limit program place arguments longer)) ≡ [])
      at (Asks it) e =
          inl (ap inputs_of (nothing_left (course limit program place arguments longer) it (course_here limit program place arguments longer).empties e))
      at (Returns value) e = inr (ap waiting e)
      at (Raises fault) e = inr (ap waiting e)
      at Runaway e = inr (ap waiting e)

  pub answered_more : (it : Request) (entry : Resumed) → saying_of now ≡ Asks it
      → answered limit program place arguments (tape ++ entry ∷ [])
      ≡ answered limit program place arguments tape ++ record { request = it; answer = entry.input } ∷ []
  answered_more it entry is =
      let long = course limit program place arguments (tape ++ entry ∷ []) in
      let front = extends_asks (entry ∷ []) now long (course_extends limit program place arguments tape (entry ∷ [])) in
      let here = course_here limit program place arguments tape in
      let there = course_here limit program place arguments (tape ++ entry ∷ []) in
      let before : answers_of (progress_of now).exchanges ≡ inputs_of tape =
      all_answered now it (inputs_of tape) here.empties is here.takes in
      one_more (progress_of now).exchanges (progress_of long).exchanges it entry.input front.rest (waiting (saying_of long))
      (inputs_of (progress_of long).tape)
      (ap (λ l. l ++ front.rest) (sym (asked_is now it is)) ∙ front.joined)
      (there.takes ∙ inputs-append tape (entry ∷ []) ∙ ap (λ l. l ++ entry.input ∷ []) (sym before))
      (settled (tape ++ entry ∷ []))

  pub opened_grows : (it : Request) (entry : Resumed) → saying_of now ≡ Asks it
      → opened limit program place arguments (tape ++ entry ∷ []) ≡ opened_with (opened limit program place arguments tape) it entry.input
  opened_grows it entry is =
      ap opened_after (answered_more it entry is) ∙ opened_more (answered limit program place arguments tape) it entry.input

-- ---- blocks, of whatever values
abbrev Any : Value → Type 0
Any value = Unit {0}

any_list : (values : List Value) → AllOf Any values
any_list [] = tt
any_list (value ∷ values) = (tt, any_list values)

any_input : (input : Input) → InInput Any input
any_input (Send value) = tt
any_input (Throw fault) = tt

any_tape : (tape : Tape) → InTape Any tape
any_tape [] = tt
any_tape (entry ∷ tape) = (any_input entry.input, any_tape tape)

any_closed : IsClosed Any
any_closed = record {
  nothing = tt;
  truth = λ t. tt;
  number = λ n. tt;
  text = λ b. tt;
  bytes = λ b. tt;
  exception = λ f. tt;
  made = λ items all. tt;
  held = λ items h. any_list (list_of items);
}

leaves_all : (it : Request) (blocks inner : List EnteredBlock) → blocks ≡ inner ++ [] → LeavesBlocks it inner → LeavesBlocks it blocks
leaves_all it blocks inner e h = subst (LeavesBlocks it) (sym (e ∙ append-nil inner)) h

innermost : (ending : Ending) (it : Request) → Well Any any_closed [] ending → saying_of ending ≡ Asks it
    → LeavesBlocks it (opened_after (progress_of ending).exchanges)
innermost (Stopped saying at) it well is =
    let h = subst (WellAsked Any any_closed [] (opened_after at.exchanges)) is well in leaves_all it (opened_after at.exchanges) h.0 h.1 h.2
innermost (Passes at) it well is = absurd (nil≢cons (ap waiting is))
innermost (Returned value at) it well is = absurd (nil≢cons (ap waiting is))
innermost (Raised fault at) it well is = absurd (nil≢cons (ap waiting is))

abbrev IsOver : Saying → Type 0
IsOver (Asks it) = ⊥
IsOver (Returns value) = Unit {0}
IsOver (Raises fault) = Unit {0}
IsOver Runaway = ⊥

none_open : (ending : Ending) → Well Any any_closed [] ending → IsOver (saying_of ending) → opened_after (progress_of ending).exchanges ≡ []
none_open (Passes at) well over = well.0
none_open (Returned value at) well over = well.0
none_open (Raised fault at) well over = well.0
none_open (Stopped (Asks it) at) well over = absurd over
none_open (Stopped Runaway at) well over = absurd over
none_open (Stopped _ at) well over = absurd well

-- ---- and what is said is of a closed kind
said_given : (P : Value → Type 0) (closed : IsClosed P) (ending : Ending) → Well P closed [] ending → InSaying P (saying_of ending)
said_given P closed (Passes at) well = closed.nothing
said_given P closed (Returned value at) well = well.2
said_given P closed (Raised fault at) well = tt
said_given P closed (Stopped (Asks it) at) well = well.3
said_given P closed (Stopped Runaway at) well = tt
said_given P closed (Stopped _ at) well = absurd well

module _ (limit : ℕ) (program : Program) (place : ℕ) (arguments : List Value) (tape : Tape) where
  well : Well Any any_closed [] (course limit program place arguments tape)
  well = course_well Any any_closed limit program place arguments tape (any_list arguments) (any_tape tape)

  pub leaves_innermost : (it : Request) → saying_of (course limit program place arguments tape) ≡ Asks it
      → LeavesBlocks it (opened limit program place arguments tape)
  leaves_innermost it is = innermost (course limit program place arguments tape) it well is

  pub over_returned : (value : Value) → saying_of (course limit program place arguments tape) ≡ Returns value
      → opened limit program place arguments tape ≡ []
  over_returned value is = none_open (course limit program place arguments tape) well (subst IsOver (sym is) tt)

  pub over_raised : (fault : Exc) → saying_of (course limit program place arguments tape) ≡ Raises fault
      → opened limit program place arguments tape ≡ []
  over_raised fault is = none_open (course limit program place arguments tape) well (subst IsOver (sym is) tt)

  pub said_of_given : (P : Value → Type 0) → IsClosed P → AllOf P arguments → InTape P tape
      → InSaying P (saying_of (course limit program place arguments tape))
  said_of_given P closed all given_ =
      said_given P closed (course limit program place arguments tape) (course_well P closed limit program place arguments tape all given_)

-- ---- the same as values alone
same_step : (blocks : List EnteredBlock) (it : Request) (input : Input)
    → map entered_as (opened_with blocks it input) ≡ open_with (map entered_as blocks) it input
same_step blocks (request.TimeoutEnter delay) (Send value) = refl
same_step blocks (request.TimeoutEnter delay) (Throw fault) = refl
same_step blocks request.GroupEnter (Send value) = refl
same_step blocks request.GroupEnter (Throw fault) = refl
same_step [] (request.TimeoutExit timeout fault) input = refl
same_step (block ∷ blocks) (request.TimeoutExit timeout fault) input = refl
same_step [] (request.GroupExit group fault) input = refl
same_step (block ∷ blocks) (request.GroupExit group fault) input = refl
same_step blocks _ input = refl

same_from : (blocks : List EnteredBlock) (exchanges : List Exchange)
    → map entered_as (fold (λ (bs : List EnteredBlock) (x : Exchange). opened_with bs x.request x.answer) blocks exchanges)
    ≡ fold (λ (bs : List Value) (x : Exchange). open_with bs x.request x.answer) (map entered_as blocks) exchanges
same_from blocks [] = refl
same_from blocks (x ∷ exchanges) =
    same_from (opened_with blocks x.request x.answer) exchanges
    ∙ ap (λ b. fold (λ (bs : List Value) (y : Exchange). open_with bs y.request y.answer) b exchanges) (same_step blocks x.request x.answer)

pub same_blocks : (exchanges : List Exchange) → map entered_as (opened_after exchanges) ≡ open_after exchanges
same_blocks exchanges = same_from [] exchanges
