-- What comes next by names and by numbers: the same, with the variables of the one by the names of the other.
use Rattle.std.proofs.Common.{◌≡◌, ℕ, zero, suc, true, false, List, [], ◌∷◌, Option, Some, None, Result, Ok, Err, refl, sym, ◌∙◌, ap, subst}
use Rattle.model_value.specs.Input.{Input}
use Rattle.model_value.specs.declared.input.Input.TheVariants.{Send, Throw}
use Rattle.model_value.specs.Request.{Request}
use Rattle.model_value.specs.Value.{Value, Nothing, Truth, Exc}
use Rattle.model_tree.specs.Syntax.{Name, Expr, Exprs}
use Rattle.model_says.specs.Operations.{bad_operand}
use Rattle.model_says.specs.Variables.{Env, assigned}
use Rattle.model_says.specs.Expressions.{value_of, values_of}
use Rattle.model_says.specs.Tape.{Resumed, Tape}
use Rattle.model_says.specs.Endings.{Progress, Ending, Passes, Returned, Raised, Stopped, Next, routed, then_next, given, valued, all_valued, chosen, decided}
use Rattle.model_says.specs.Endings.{assign, assign_to, begun, begun_with, resumed_by, taken, asked_of, ask}
use Rattle.model_says.specs.Says.{back_in, came_back}
use Rattle.algorithm_locals.specs.Numbered.{holding, numbered_name, numbered_option, numbered_expr, numbered_exprs}
use Rattle.algorithm_locals.proofs.Environments.{names_in, values_in, assigned-first, names-assigned, value-same, values-same}

-- the same progress with the variables by their numbers
abbrev pub by_number : Progress → Progress
by_number now = record now { env = holding 0 (values_in now.env) }

-- how a piece of a body ends by names, and how by numbers
abbrev pub Ends : List Name → Ending → Ending → Type 0
Ends names (Passes now) other = (names_in now.env ≡ names) × (other ≡ Passes (by_number now))
Ends names (Returned value now) other = (names_in now.env ≡ names) × (other ≡ Returned value (by_number now))
Ends names (Raised fault now) other = (names_in now.env ≡ names) × (other ≡ Raised fault (by_number now))
Ends names (Stopped saying now) other = (there : Progress) × (other ≡ Stopped saying there)

-- likewise of a call, whose variables are let go
abbrev pub Alike : Ending → Ending → Type 0
Alike (Passes now) other = (env : Env) × (other ≡ Passes (back_in env now))
Alike (Returned value now) other = (env : Env) × (other ≡ Returned value (back_in env now))
Alike (Raised fault now) other = (env : Env) × (other ≡ Raised fault (back_in env now))
Alike (Stopped saying now) other = (there : Progress) × (other ≡ Stopped saying there)

pub ends-alike : (names : List Name) (ending other : Ending) → Ends names ending other → Alike ending other
ends-alike names (Passes now) other ends = (holding 0 (values_in now.env), ends.1)
ends-alike names (Returned value now) other ends = (holding 0 (values_in now.env), ends.1)
ends-alike names (Raised fault now) other ends = (holding 0 (values_in now.env), ends.1)
ends-alike names (Stopped saying now) other ends = ends

-- what is next, where the variables have these names
abbrev pub Agree : List Name → Next → Next → Type 0
Agree names next other = (now : Progress) → names_in now.env ≡ names → Ends names (next now) (other (by_number now))

module _ (names : List Name) where
  -- ---- ends at once
  pub passes-agree : Agree names Passes Passes
  passes-agree now named = (named, refl)

  pub returned-agree : (value : Value) → Agree names (Returned value) (Returned value)
  returned-agree value now named = (named, refl)

  pub raised-agree : (fault : Exc) → Agree names (Raised fault) (Raised fault)
  raised-agree fault now named = (named, refl)

  -- ---- one thing after another
  pub routed-ends : (pass pass' : Next) (return return' : Value → Next) (raise raise' : Exc → Next) → Agree names pass pass' →
      ((value : Value) → Agree names (return value) (return' value)) → ((fault : Exc) → Agree names (raise fault) (raise' fault)) →
      (ending other : Ending) → Ends names ending other → Ends names (routed pass return raise ending) (routed pass' return' raise' other)
  routed-ends pass pass' return return' raise raise' passes returns raises (Passes now) other ends =
      subst (λ e. Ends names (pass now) (routed pass' return' raise' e)) (sym ends.1) (passes now ends.0)
  routed-ends pass pass' return return' raise raise' passes returns raises (Returned value now) other ends =
      subst (λ e. Ends names (return value now) (routed pass' return' raise' e)) (sym ends.1) (returns value now ends.0)
  routed-ends pass pass' return return' raise raise' passes returns raises (Raised fault now) other ends =
      subst (λ e. Ends names (raise fault now) (routed pass' return' raise' e)) (sym ends.1) (raises fault now ends.0)
  routed-ends pass pass' return return' raise raise' passes returns raises (Stopped saying now) other ends =
      (ends.0, ap (routed pass' return' raise') ends.1)

  pub then_next-ends : (next next' : Next) → Agree names next next' → (ending other : Ending) → Ends names ending other →
      Ends names (then_next next ending) (then_next next' other)
  then_next-ends next next' agree ending other ends =
      routed-ends next next' Returned Returned Raised Raised agree returned-agree raised-agree ending other ends

  -- ---- values
  pub given-agree : {A : Type 0} (next next' : A → Next) → ((a : A) → Agree names (next a) (next' a)) → (found : Result A Exc) →
      Agree names (given next found) (given next' found)
  given-agree next next' agree (Ok a) = agree a
  given-agree next next' agree (Err fault) = raised-agree fault

  value-there : (expr : Expr) (env : Env) → names_in env ≡ names →
      value_of (numbered_expr names expr) (holding 0 (values_in env)) ≡ value_of expr env
  value-there expr env named =
      subst (λ n. value_of (numbered_expr n expr) (holding 0 (values_in env)) ≡ value_of expr env) named (value-same env expr)

  values-there : (items : Exprs) (env : Env) → names_in env ≡ names →
      values_of (numbered_exprs names items) (holding 0 (values_in env)) ≡ values_of items env
  values-there items env named =
      subst (λ n. values_of (numbered_exprs n items) (holding 0 (values_in env)) ≡ values_of items env) named (values-same env items)

  pub valued-agree : (expr : Expr) (next next' : Value → Next) → ((value : Value) → Agree names (next value) (next' value)) →
      Agree names (valued expr next) (valued (numbered_expr names expr) next')
  valued-agree expr next next' agree now named =
      subst (λ found. Ends names (valued expr next now) (given next' found (by_number now))) (sym (value-there expr now.env named))
      (given-agree next next' agree (value_of expr now.env) now named)

  pub all_valued-agree : (items : Exprs) (next next' : List Value → Next) →
      ((values : List Value) → Agree names (next values) (next' values)) →
      Agree names (all_valued items next) (all_valued (numbered_exprs names items) next')
  all_valued-agree items next next' agree now named =
      subst (λ found. Ends names (all_valued items next now) (given next' found (by_number now))) (sym (values-there items now.env named))
      (given-agree next next' agree (values_of items now.env) now named)

  chosen-agree : (on on' off off' : Next) → Agree names on on' → Agree names off off' → (value : Value) →
      Agree names (chosen on off value) (chosen on' off' value)
  chosen-agree on on' off off' agree agree' (Truth true) = agree
  chosen-agree on on' off off' agree agree' (Truth false) = agree'
  chosen-agree on on' off off' agree agree' _ = raised-agree bad_operand

  pub decided-agree : (test : Expr) (on on' off off' : Next) → Agree names on on' → Agree names off off' →
      Agree names (decided test on off) (decided (numbered_expr names test) on' off')
  decided-agree test on on' off off' agree agree' =
      valued-agree test (chosen on off) (chosen on' off') (chosen-agree on on' off off' agree agree')

  -- ---- statements and requests
  pub begun-agree : (next next' : Next) → Agree names next next' → Agree names (begun next) (begun next')
  begun-agree next next' agree now named = by_left now.left
    where
      by_left : (left : ℕ) → Ends names (begun_with left next now) (begun_with left next' (by_number now))
      by_left zero = (by_number now, refl)
      by_left (suc left) = agree (record now { left = left }) named

  pub ask-agree : (limit : ℕ) (request : Request) (next next' : Value → Next) →
      ((value : Value) → Agree names (next value) (next' value)) → Agree names (ask limit request next) (ask limit request next')
  ask-agree limit request next next' agree now named = by_tape now.tape
    where
      by_input : (entry : Resumed) (tape : Tape) (input : Input) →
          Ends names (resumed_by input next (taken limit request entry tape now)) (resumed_by input next' (taken limit request entry tape (by_number now)))
      by_input entry tape (Send value) = agree value (taken limit request entry tape now) named
      by_input entry tape (Throw fault) = (named, refl)

      by_tape : (tape : Tape) →
          Ends names (asked_of limit request next tape now) (asked_of limit request next' tape (by_number now))
      by_tape [] = (by_number now, refl)
      by_tape (entry ∷ tape) = by_input entry tape entry.input

  -- ---- variables
  pub assigned-agree : (name : Name) (value : Value) (next next' : Next) → Agree names next next' →
      Agree names (λ now. next (assign name value now)) (λ now. next' (assign (numbered_name names name) value now))
  assigned-agree name value next next' agree now named =
      let after = assign name value now in
      let same =
      subst (λ n. assigned (numbered_name n name) value (holding 0 (values_in now.env)) ≡ holding 0 (values_in after.env)) named
      (assigned-first now.env name value) in
      subst (λ env. Ends names (next after) (next' (back_in env (by_number now)))) (sym same)
      (agree after (names-assigned now.env name value ∙ named))

  pub assigned_to-agree : (name : Option Name) (value : Value) (next next' : Next) → Agree names next next' →
      Agree names (λ now. next (assign_to name value now)) (λ now. next' (assign_to (numbered_option names name) value now))
  assigned_to-agree None value next next' agree = agree
  assigned_to-agree (Some name) value next next' agree = assigned-agree name value next next' agree

  -- ---- calls
  pub came_back-ends : (env : Env) (next next' : Value → Next) → names_in env ≡ names →
      ((value : Value) → Agree names (next value) (next' value)) → (ending other : Ending) → Alike ending other →
      Ends names (came_back env next ending) (came_back (holding 0 (values_in env)) next' other)
  came_back-ends env next next' named agree (Passes now) other alike =
      subst (λ e. Ends names (next Nothing (back_in env now)) (came_back (holding 0 (values_in env)) next' e)) (sym alike.1)
      (agree Nothing (back_in env now) named)
  came_back-ends env next next' named agree (Returned value now) other alike =
      subst (λ e. Ends names (next value (back_in env now)) (came_back (holding 0 (values_in env)) next' e)) (sym alike.1)
      (agree value (back_in env now) named)
  came_back-ends env next next' named agree (Raised fault now) other alike =
      (named, ap (came_back (holding 0 (values_in env)) next') alike.1)
  came_back-ends env next next' named agree (Stopped saying now) other alike =
      (alike.0, ap (came_back (holding 0 (values_in env)) next') alike.1)
