-- Pieces of a coroutine's body leave the blocks that were open before them, and use what they were given.
use Rattle.std.proofs.Common.{◌≡◌, ℕ, zero, suc, Bool, true, false, if◌then◌else◌, List, [], ◌∷◌, ◌++◌, Option, Some, None, Result, Ok, Err, refl, sym, ◌∙◌, ap}
use Rattle.std.proofs.Common.{subst, append_assoc}
use Rattle.std.proofs.lemmas.List.Sums.{fold-append}
use Rattle.model_value.specs.Input.{Input}
use Rattle.model_value.specs.declared.input.Input.TheVariants.{Send, Throw}
use Rattle.model_value.specs.declared.request.Request.TheVariants as request
use Rattle.model_value.specs.Request.{Request}
use Rattle.model_value.specs.Value.{Value, Truth, Exc}
use Rattle.model_tree.specs.Syntax.{Expr, Exprs, Manager, GroupBlock, TimeoutBlock}
use Rattle.model_says.specs.Expressions.{value_of, values_of}
use Rattle.model_says.specs.Operations.{ValueOrException, bad_operand}
use Rattle.model_says.specs.Tape.{Resumed, Tape}
use Rattle.model_says.specs.Endings.{Saying, Asks, Runaway, Exchange, Progress, Ending, Passes, Returned, Raised, Stopped, Next, routed, given, valued}
use Rattle.model_says.specs.Endings.{all_valued, chosen, decided, begun, begun_with, resumed_by, taken, asked_of, ask}
use Rattle.model_says.specs.Says.{exit_of, managed, exited}
use Rattle.law_says.specs.Given.{AllOf, IsClosed, InInput, InTape, InRequest}
use Rattle.law_says.specs.Opened.{EnteredBlock, OfTimeout, OfGroup, opened_with, opened_after, LeavesBlocks}
use Rattle.law_says.proofs.Values.{InEnv, InAnswer, InRow, in_value, in_values}

pub opened_more : (exchanges : List Exchange) (asked : Request) (answer : Input)
    → opened_after (exchanges ++ record { request = asked; answer = answer } ∷ []) ≡ opened_with (opened_after exchanges) asked answer
opened_more exchanges asked answer =
    fold-append (λ (blocks : List EnteredBlock) (exchange : Exchange). opened_with blocks exchange.request exchange.answer) [] exchanges _

leaves_more : (asked : Request) (inner outer : List EnteredBlock) → LeavesBlocks asked inner → LeavesBlocks asked (inner ++ outer)
leaves_more (request.TimeoutExit timeout fault) inner outer h = (h.0 ++ outer, ap (λ b. b ++ outer) h.1)
leaves_more (request.GroupExit group fault) inner outer h = (h.0 ++ outer, ap (λ b. b ++ outer) h.1)
leaves_more _ inner outer h = tt

module _ (P : Value → Type 0) (closed : IsClosed P) where
  -- the variables, and the inputs that are left
  abbrev pub Clean : Progress → Type 0
  Clean now = InEnv P closed now.env × InTape P now.tape

  abbrev pub WellAsked : List EnteredBlock → List EnteredBlock → Saying → Type 0
  WellAsked outer blocks (Asks asked) =
      (inner : List EnteredBlock) × (blocks ≡ inner ++ outer) × LeavesBlocks asked inner × InRequest P asked
  WellAsked outer blocks Runaway = Unit {0}
  WellAsked outer blocks _ = ⊥

  -- what a piece is that began with these blocks open
  abbrev pub Well : List EnteredBlock → Ending → Type 0
  Well blocks (Passes at) = (opened_after at.exchanges ≡ blocks) × Clean at
  Well blocks (Returned value at) = (opened_after at.exchanges ≡ blocks) × Clean at × P value
  Well blocks (Raised fault at) = (opened_after at.exchanges ≡ blocks) × Clean at
  Well blocks (Stopped saying at) = WellAsked blocks (opened_after at.exchanges) saying

  abbrev pub IsWell : Next → Type 0
  IsWell next = (now : Progress) → Clean now → Well (opened_after now.exchanges) (next now)

  -- ---- ends at once
  pub well_passes : IsWell Passes
  well_passes now clean = (refl, clean)

  pub well_returned : (value : Value) → P value → IsWell (Returned value)
  well_returned value good now clean = (refl, clean, good)

  pub well_raised : (fault : Exc) → IsWell (Raised fault)
  well_raised fault now clean = (refl, clean)

  -- ---- expressions
  module _ (next : Value → Next) (each : (value : Value) → P value → IsWell (next value)) where
    pub well_given : (answer : ValueOrException) → InAnswer P closed answer → IsWell (given next answer)
    well_given (Ok value) good = each value good
    well_given (Err fault) good = well_raised fault

    pub well_valued : (expr : Expr) → IsWell (valued expr next)
    well_valued expr now clean = well_given (value_of expr now.env) (in_value P closed expr now.env clean.0) now clean

  pub well_all_valued : (exprs : Exprs) (next : List Value → Next) → ((values : List Value) → AllOf P values → IsWell (next values))
      → IsWell (all_valued exprs next)
  well_all_valued exprs next each now clean = at (values_of exprs now.env) (in_values P closed exprs now.env clean.0)
    where
      at : (row : Result (List Value) Exc) → InRow P closed row → Well (opened_after now.exchanges) (given next row now)
      at (Ok values) good = each values good now clean
      at (Err fault) good = (refl, clean)

  well_chosen : (next next' : Next) → IsWell next → IsWell next' → (value : Value) → IsWell (chosen next next' value)
  well_chosen next next' well well' (Truth true) = well
  well_chosen next next' well well' (Truth false) = well'
  well_chosen next next' well well' _ = well_raised bad_operand

  pub well_decided : (test : Expr) (next next' : Next) → IsWell next → IsWell next' → IsWell (decided test next next')
  well_decided test next next' well well' =
      well_valued (chosen next next') (λ value good. well_chosen next next' well well' value) test

  pub well_if : (test : Bool) (next next' : Next) → IsWell next → IsWell next' → IsWell (if test then next else next')
  well_if true next next' well well' = well
  well_if false next next' well well' = well'

  -- ---- requests
  module _ (limit : ℕ) where
    well_resumed : (input : Input) (next : Value → Next) → InInput P input → ((value : Value) → P value → IsWell (next value))
        → IsWell (resumed_by input next)
    well_resumed (Send value) next good each = each value good
    well_resumed (Throw fault) next good each = well_raised fault

    -- one that enters no block and leaves none
    pub well_ask : (asked : Request) (next : Value → Next) → ((blocks : List EnteredBlock) (input : Input) → opened_with blocks asked input ≡ blocks)
        → LeavesBlocks asked [] → InRequest P asked → ((value : Value) → P value → IsWell (next value)) → IsWell (ask limit asked next)
    well_ask asked next plain none good each now clean = at now.tape refl
      where
        at : (tape : Tape) → now.tape ≡ tape → Well (opened_after now.exchanges) (asked_of limit asked next tape now)
        at [] e = ([], refl, none, good)
        at (entry ∷ tape) e =
            let rest : InTape P (entry ∷ tape) = subst (InTape P) e clean.1 in
            subst (λ b. Well b (resumed_by entry.input next (taken limit asked entry tape now)))
            (opened_more now.exchanges asked entry.input ∙ plain (opened_after now.exchanges) entry.input)
            (well_resumed entry.input next rest.0 each (taken limit asked entry tape now) (clean.0, rest.1))

    -- one that enters a block, which the body leaves
    pub well_enter : (asked : Request) (block : Value → EnteredBlock) (body : Value → Next)
        → ((blocks : List EnteredBlock) (value : Value) → opened_with blocks asked (Send value) ≡ block value ∷ blocks)
        → ((blocks : List EnteredBlock) (fault : Exc) → opened_with blocks asked (Throw fault) ≡ blocks)
        → LeavesBlocks asked [] → InRequest P asked
        → ((value : Value) → P value → (now : Progress) → Clean now → (blocks : List EnteredBlock) → opened_after now.exchanges ≡ block value ∷ blocks
        → Well blocks (body value now)) → IsWell (ask limit asked body)
    well_enter asked block body enters stays none good each now clean = at now.tape refl
      where
        entered : (entry : Resumed) (tape : Tape) (input : Input) → entry.input ≡ input → InInput P input → InTape P tape
            → Well (opened_after now.exchanges) (resumed_by input body (taken limit asked entry tape now))
        entered entry tape (Send value) is good' rest =
            each value good' (taken limit asked entry tape now) (clean.0, rest) (opened_after now.exchanges)
            (opened_more now.exchanges asked entry.input ∙ ap (opened_with (opened_after now.exchanges) asked) is
            ∙ enters (opened_after now.exchanges) value)
        entered entry tape (Throw fault) is good' rest = (
          opened_more now.exchanges asked entry.input ∙ ap (opened_with (opened_after now.exchanges) asked) is
              ∙ stays (opened_after now.exchanges) fault,
          (clean.0, rest),
        )

        at : (tape : Tape) → now.tape ≡ tape → Well (opened_after now.exchanges) (asked_of limit asked body tape now)
        at [] e = ([], refl, none, good)
        at (entry ∷ tape) e =
            let rest : InTape P (entry ∷ tape) = subst (InTape P) e clean.1 in entered entry tape entry.input refl rest.0 rest.1

    -- ---- exits
    abbrev pub block_of : Manager → Value → EnteredBlock
    block_of GroupBlock value = OfGroup value
    block_of (TimeoutBlock delay) value = OfTimeout value

    exit_leaves : (manager : Manager) (value : Value) (fault : Option Exc) → LeavesBlocks (exit_of manager value fault) (block_of manager value ∷ [])
    exit_leaves GroupBlock value fault = ([], refl)
    exit_leaves (TimeoutBlock delay) value fault = ([], refl)

    exit_given : (manager : Manager) (value : Value) (fault : Option Exc) → InRequest P (exit_of manager value fault)
    exit_given GroupBlock value fault = tt
    exit_given (TimeoutBlock delay) value fault = tt

    exit_drops : (manager : Manager) (value : Value) (fault : Option Exc) (block : EnteredBlock) (blocks : List EnteredBlock) (input : Input)
        → opened_with (block ∷ blocks) (exit_of manager value fault) input ≡ blocks
    exit_drops GroupBlock value fault block blocks input = refl
    exit_drops (TimeoutBlock delay) value fault block blocks input = refl

    well_exit : (manager : Manager) (value : Value) (fault : Option Exc) (way : Next) → IsWell way → (blocks : List EnteredBlock) (now : Progress)
        → Clean now → opened_after now.exchanges ≡ block_of manager value ∷ blocks
        → Well blocks (ask limit (exit_of manager value fault) (λ answer. way) now)
    well_exit manager value fault way well blocks now clean opened = at now.tape refl
      where
        at : (tape : Tape) → now.tape ≡ tape → Well blocks (asked_of limit (exit_of manager value fault) (λ answer. way) tape now)
        at [] e = (block_of manager value ∷ [], opened, exit_leaves manager value fault, exit_given manager value fault)
        at (entry ∷ tape) e =
            let rest : InTape P (entry ∷ tape) = subst (InTape P) e clean.1 in
            subst (λ b. Well b (resumed_by entry.input (λ answer. way) (taken limit (exit_of manager value fault) entry tape now)))
            (opened_more now.exchanges (exit_of manager value fault) entry.input ∙ ap (λ b. opened_with b (exit_of manager value fault) entry.input) opened
            ∙ exit_drops manager value fault (block_of manager value) blocks entry.input)
            (well_resumed entry.input (λ answer. way) rest.0 (λ v h. well) (taken limit (exit_of manager value fault) entry tape now) (clean.0, rest.1))

    pub well_exited : (manager : Manager) (value : Value) (blocks : List EnteredBlock) (ending : Ending)
        → Well (block_of manager value ∷ blocks) ending → Well blocks (exited limit manager value ending)
    well_exited manager value blocks (Passes now) h = well_exit manager value None Passes well_passes blocks now h.1 h.0
    well_exited manager value blocks (Returned result now) h =
        well_exit manager value None (Returned result) (well_returned result h.2) blocks now h.1 h.0
    well_exited manager value blocks (Raised fault now) h =
        well_exit manager value (Some fault) (Raised fault) (well_raised fault) blocks now h.1 h.0
    well_exited manager value blocks (Stopped saying now) h = stopped saying h
      where
        stopped : (saying : Saying) → WellAsked (block_of manager value ∷ blocks) (opened_after now.exchanges) saying
            → WellAsked blocks (opened_after now.exchanges) saying
        stopped (Asks asked) it = (
          it.0 ++ block_of manager value ∷ [],
          it.1 ∙ sym (append_assoc it.0 (block_of manager value ∷ []) blocks),
          leaves_more asked it.0 (block_of manager value ∷ []) it.2,
          it.3,
        )
        stopped Runaway it = tt
        stopped _ it = absurd it

    pub well_managed : (manager : Manager) (body : Value → Next)
        → ((value : Value) → P value → (now : Progress) → Clean now → (blocks : List EnteredBlock)
        → opened_after now.exchanges ≡ block_of manager value ∷ blocks → Well blocks (body value now)) → IsWell (managed limit manager body)
    well_managed GroupBlock body each = well_enter request.GroupEnter OfGroup body (λ b v. refl) (λ b f. refl) tt tt each
    well_managed (TimeoutBlock delay) body each =
        well_valued (λ d. ask limit (request.TimeoutEnter d) body)
        (λ d good. well_enter (request.TimeoutEnter d) OfTimeout body (λ b v. refl) (λ b f. refl) tt tt each) delay

  -- ---- statements begin, and one thing comes after another
  pub well_begun : (next : Next) → IsWell next → IsWell (begun next)
  well_begun next well now clean = at now.left
    where
      at : (left : ℕ) → Well (opened_after now.exchanges) (begun_with left next now)
      at zero = tt
      at (suc left) = well (record now { left = left }) clean

  pub well_routed : (pass : Next) (return : Value → Next) (raise : Exc → Next) → IsWell pass → ((value : Value) → P value → IsWell (return value))
      → ((fault : Exc) → IsWell (raise fault)) → (blocks : List EnteredBlock) (ending : Ending) → Well blocks ending
      → Well blocks (routed pass return raise ending)
  well_routed pass return raise passes returns raises blocks (Passes at) h = subst (λ b. Well b (pass at)) h.0 (passes at h.1)
  well_routed pass return raise passes returns raises blocks (Returned value at) h =
      subst (λ b. Well b (return value at)) h.0 (returns value h.2 at h.1)
  well_routed pass return raise passes returns raises blocks (Raised fault at) h = subst (λ b. Well b (raise fault at)) h.0 (raises fault at h.1)
  well_routed pass return raise passes returns raises blocks (Stopped saying at) h = h
