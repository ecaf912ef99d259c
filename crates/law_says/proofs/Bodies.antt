-- Every statement, every call and every coroutine is sound.
use Rattle.std.proofs.Common.{◌≡◌, ℕ, zero, suc, ◌+◌, ◌*◌, ◌≤◌, List, ◌++◌, length, length-append, Option, Some, None, sym, ap, subst, le_refl, le_trans, arith}
use mathlib.Core.Path.{fun_ext}
use Rattle.model_value.specs.Kinds.{matches}
use Rattle.model_value.specs.declared.request.Request.TheVariants as request
use Rattle.model_value.specs.Value.{Value, Nothing, Exception, Exc, kind_of}
use Rattle.model_tree.specs.Syntax.{Name, Expr, Target, Await, Call, Ask, SpawnTask, CreateTask, ListenAt, Manager, GroupBlock, TimeoutBlock, Statement, Assign}
use Rattle.model_tree.specs.Syntax.{Yield, YieldFrom, Print, Raise, Return, Pass, If, While, Try, With, Statements, no_statements, statement_then, Branch}
use Rattle.model_tree.specs.Syntax.{no_branch, branch, Handlers, no_handlers, handler_then, Program}
use Rattle.model_says.specs.Operations.{bad_operand}
use Rattle.model_says.specs.Variables.{Env, held, entered, assigned}
use Rattle.model_says.specs.Requests.{requested, place_of, coroutine_at}
use Rattle.model_says.specs.Tape.{Tape}
use Rattle.model_says.specs.Endings.{Runaway, Progress, Passes, Returned, Raised, Stopped, progress_of, Next, then_next, given, valued, all_valued, decided}
use Rattle.model_says.specs.Endings.{assign, assign_to, begun, ask}
use Rattle.model_says.specs.Says.{too_many_frames, raised, handled, finished, back_in, came_back, Calls, exit_of, managed, exited, to_come, turns, looped}
use Rattle.model_says.specs.Says.{delegated, run, run_all, run_branch, run_handlers, call_within, frame_limit, unbegun, course}
use Rattle.law_says.proofs.Loops.{behind, tested, loop_again}
use Rattle.law_says.proofs.Sound.{extended, Here, Extends, SoundBelow, Sound, sound_passes, sound_returned, sound_raised, sound_by_env, sound_in_env}
use Rattle.law_says.proofs.Sound.{sound_given, sound_valued, sound_all_valued, sound_if, sound_decided, sound_ask, sound_begun_below, sound_begun, sound_routed}
use Rattle.law_says.proofs.Sound.{here_stopped}

sound_then_next : (limit bound : ℕ) (first next : Next) → SoundBelow limit bound first → SoundBelow limit bound next
    → SoundBelow limit bound (λ now. then_next next (first now))
sound_then_next limit bound first next sound sound' =
    sound_routed limit bound next Returned Raised sound' (λ value. sound_returned limit value bound) (λ fault. sound_raised limit fault bound) first sound

sound_passes_in : (limit bound : ℕ) (env : Env) → SoundBelow limit bound (λ now. Passes (back_in env now))
sound_passes_in limit bound env = sound_in_env limit bound env Passes (sound_passes limit bound)

sound_assign : (limit bound : ℕ) (name : Name) (value : Value) → SoundBelow limit bound (λ now. Passes (assign name value now))
sound_assign limit bound name value =
    sound_by_env limit bound (λ env now. Passes (back_in (assigned name value env) now)) (λ env. sound_passes_in limit bound (assigned name value env))

-- a next thing that is met with a variable assigned
sound_assigned : (limit bound : ℕ) (name : Name) (value : Value) (next : Next) → SoundBelow limit bound next
    → SoundBelow limit bound (λ now. next (assign name value now))
sound_assigned limit bound name value next sound =
    sound_by_env limit bound (λ env now. next (back_in (assigned name value env) now)) (λ env. sound_in_env limit bound (assigned name value env) next sound)

sound_assign_to : (limit bound : ℕ) (name : Option Name) (value : Value) (next : Next) → SoundBelow limit bound next
    → SoundBelow limit bound (λ now. next (assign_to name value now))
sound_assign_to limit bound None value next sound = sound
sound_assign_to limit bound (Some name) value next sound = sound_assigned limit bound name value next sound

sound_raised_value : (limit bound : ℕ) (value : Value) → SoundBelow limit bound (raised value)
sound_raised_value limit bound (Exception fault) = sound_raised limit fault bound
sound_raised_value limit bound _ = sound_raised limit bad_operand bound

-- ---- loops
never_less : (limit : ℕ) (more : Tape) (now : Progress) → to_come limit now ≤ to_come limit (extended more now)
never_less limit more now =
    let long : limit * length (now.tape ++ more) ≡ limit * (length now.tape + length more) = ap (λ n. limit * n) (length-append now.tape more) in
    omega (arith, long)

module _ (limit : ℕ) (test : Expr) (body : Next) (sound : Sound limit body) where
  pub spends : (now : Progress) → to_come limit (progress_of (body now)) ≤ to_come limit now
  spends now = ((sound (to_come limit now)).here now (le_refl (to_come limit now))).spends

  none_to_come : (now : Progress) → to_come limit now ≤ 0 → looped limit test body now ≡ Stopped Runaway now
  none_to_come now below =
      let none : to_come limit now ≡ 0 = omega (arith, below) in
      ap (λ n. turns limit n test body now) none

  again : looped limit test body ≡ begun (tested test body (looped limit test body))
  again = fun_ext (loop_again limit test body spends)

  pub sound_looped : Sound limit (looped limit test body)
  sound_looped zero =
      record {
        here = λ now below. subst (Here limit now) (sym (none_to_come now below)) (here_stopped limit now);
        extends = λ more now below.
            let none = none_to_come now (le_trans (never_less limit more now) below) in
            subst (λ short. Extends more short (looped limit test body (extended more now))) (sym none) (none_to_come (extended more now) below);
      }
  sound_looped (suc bound) =
      subst (SoundBelow limit (suc bound)) (sym again)
      (sound_begun_below limit bound (tested test body (looped limit test body))
      (sound_decided limit bound test (behind test body (looped limit test body)) Passes
      (sound_then_next limit bound body (looped limit test body) (sound bound) (sound_looped bound))
      (sound_passes limit bound)))

-- ---- `try`, `with`, `yield from`
sound_finished : (limit bound : ℕ) (first finally : Next) → SoundBelow limit bound first → SoundBelow limit bound finally
    → SoundBelow limit bound (λ now. finished finally (first now))
sound_finished limit bound first finally sound sound' =
    sound_routed limit bound finally (λ value now. then_next (Returned value) (finally now)) (λ fault now. then_next (Raised fault) (finally now)) sound'
    (λ value. sound_then_next limit bound finally (Returned value) sound' (sound_returned limit value bound))
    (λ fault. sound_then_next limit bound finally (Raised fault) sound' (sound_raised limit fault bound))
    first sound

sound_handled : (limit bound : ℕ) (first : Next) (handlers : Exc → Next) → SoundBelow limit bound first
    → ((fault : Exc) → SoundBelow limit bound (handlers fault)) → SoundBelow limit bound (λ now. handled handlers (first now))
sound_handled limit bound first handlers sound sound' =
    sound_routed limit bound Passes Returned handlers (sound_passes limit bound) (λ value. sound_returned limit value bound) sound' first sound

sound_came_back : (limit bound : ℕ) (env : Env) (first : Next) (next : Value → Next) → SoundBelow limit bound first
    → ((value : Value) → SoundBelow limit bound (next value)) → SoundBelow limit bound (λ now. came_back env next (first now))
sound_came_back limit bound env first next sound sound' =
    sound_routed limit bound (λ now. next Nothing (back_in env now)) (λ value now. next value (back_in env now)) (λ fault now. Raised fault (back_in env now))
    (sound_in_env limit bound env (next Nothing) (sound' Nothing))
    (λ value. sound_in_env limit bound env (next value) (sound' value))
    (λ fault. sound_in_env limit bound env (Raised fault) (sound_raised limit fault bound))
    first sound

sound_exited : (limit bound : ℕ) (manager : Manager) (entered : Value) (first : Next) → SoundBelow limit bound first
    → SoundBelow limit bound (λ now. exited limit manager entered (first now))
sound_exited limit bound manager entered first sound =
    sound_routed limit bound
    (ask limit (exit_of manager entered None) (λ answer. Passes))
    (λ value. ask limit (exit_of manager entered None) (λ answer. Returned value))
    (λ fault. ask limit (exit_of manager entered (Some fault)) (λ answer. Raised fault))
    (sound_ask limit bound (exit_of manager entered None) (λ answer. Passes) (λ answer. sound_passes limit bound))
    (λ value. sound_ask limit bound (exit_of manager entered None) (λ answer. Returned value) (λ answer. sound_returned limit value bound))
    (λ fault. sound_ask limit bound (exit_of manager entered (Some fault)) (λ answer. Raised fault) (λ answer. sound_raised limit fault bound))
    first sound

sound_managed : (limit bound : ℕ) (manager : Manager) (body : Value → Next) → ((value : Value) → SoundBelow limit bound (body value))
    → SoundBelow limit bound (managed limit manager body)
sound_managed limit bound GroupBlock body sound = sound_ask limit bound request.GroupEnter body sound
sound_managed limit bound (TimeoutBlock delay) body sound =
    sound_valued limit bound delay (λ d. ask limit (request.TimeoutEnter d) body) (λ d. sound_ask limit bound (request.TimeoutEnter d) body sound)

module _ (limit : ℕ) (program : Program) (call : Calls) (sound_call : (place : ℕ) (arguments : List Value) → Sound limit (call place arguments)) where
  sound_delegated : (bound : ℕ) (target : Target) (next : Value → Next) → ((value : Value) → SoundBelow limit bound (next value))
      → SoundBelow limit bound (delegated limit program call target next)
  sound_delegated bound (Await name) next sound =
      sound_by_env limit bound (λ env. ask limit (request.Await (held env name)) next) (λ env. sound_ask limit bound (request.Await (held env name)) next sound)
  sound_delegated bound (Call coroutine arguments) next sound =
      sound_all_valued limit bound arguments (λ values now. came_back now.env next (call (place_of program coroutine) values now))
      (λ values. sound_by_env limit bound (λ env now. came_back env next (call (place_of program coroutine) values now))
      (λ env. sound_came_back limit bound env (call (place_of program coroutine) values) next (sound_call (place_of program coroutine) values bound) sound))
  sound_delegated bound (Ask name arguments) next sound =
      sound_all_valued limit bound arguments (λ values. given (λ asked. ask limit asked next) (requested name values))
      (λ values. sound_given limit bound (λ asked. ask limit asked next) (requested name values) (λ asked. sound_ask limit bound asked next sound))
  sound_delegated bound (SpawnTask coroutine arguments) next sound =
      sound_all_valued limit bound arguments (λ values. ask limit (request.Spawn (place_of program coroutine) values) next)
      (λ values. sound_ask limit bound (request.Spawn (place_of program coroutine) values) next sound)
  sound_delegated bound (CreateTask group coroutine arguments) next sound =
      sound_valued limit bound group (λ g. all_valued arguments (λ values. ask limit (request.Create g (place_of program coroutine) values) next))
      (λ g. sound_all_valued limit bound arguments (λ values. ask limit (request.Create g (place_of program coroutine) values) next)
      (λ values. sound_ask limit bound (request.Create g (place_of program coroutine) values) next sound))
  sound_delegated bound (ListenAt port handler) next sound =
      sound_valued limit bound port (λ p. ask limit (request.Listen p (place_of program handler)) next)
      (λ p. sound_ask limit bound (request.Listen p (place_of program handler)) next sound)

  -- ---- statements
  mutual
    pub sound_run : (statement : Statement) → Sound limit (run limit program call statement)
    sound_run (Assign name value) =
        sound_begun limit (valued value (λ v now. Passes (assign name v now)))
        (λ bound. sound_valued limit bound value (λ v now. Passes (assign name v now)) (λ v. sound_assign limit bound name v))
    sound_run Yield =
        sound_begun limit (ask limit request.Pause (λ answer. Passes))
        (λ bound. sound_ask limit bound request.Pause (λ answer. Passes) (λ answer. sound_passes limit bound))
    sound_run (YieldFrom into target) =
        sound_begun limit (delegated limit program call target (λ answer now. Passes (assign_to into answer now)))
        (λ bound. sound_delegated bound target (λ answer now. Passes (assign_to into answer now))
        (λ answer. sound_assign_to limit bound into answer Passes (sound_passes limit bound)))
    sound_run (Print items) =
        sound_begun limit (all_valued items (λ values. ask limit (request.Print values) (λ answer. Passes)))
        (λ bound. sound_all_valued limit bound items (λ values. ask limit (request.Print values) (λ answer. Passes))
        (λ values. sound_ask limit bound (request.Print values) (λ answer. Passes) (λ answer. sound_passes limit bound)))
    sound_run (Raise fault) =
        sound_begun limit (valued fault raised) (λ bound. sound_valued limit bound fault raised (sound_raised_value limit bound))
    sound_run (Return None) = sound_begun limit (Returned Nothing) (sound_returned limit Nothing)
    sound_run (Return (Some value)) =
        sound_begun limit (valued value Returned) (λ bound. sound_valued limit bound value Returned (λ v. sound_returned limit v bound))
    sound_run Pass = sound_begun limit Passes (sound_passes limit)
    sound_run (If test body otherwise) =
        sound_begun limit (decided test (run_all limit program call body) (run_branch limit program call otherwise))
        (λ bound. sound_decided limit bound test (run_all limit program call body) (run_branch limit program call otherwise) (sound_run_all body bound)
        (sound_run_branch otherwise bound))
    sound_run (While test body) = sound_looped limit test (run_all limit program call body) (sound_run_all body)
    sound_run (Try body handlers finally) =
        sound_begun limit
        (λ now. finished (run_branch limit program call finally) (handled (run_handlers limit program call handlers) (run_all limit program call body now)))
        (λ bound. sound_finished limit bound (λ now. handled (run_handlers limit program call handlers) (run_all limit program call body now))
        (run_branch limit program call finally)
        (sound_handled limit bound (run_all limit program call body) (run_handlers limit program call handlers) (sound_run_all body bound)
        (λ fault. sound_run_handlers handlers fault bound))
        (sound_run_branch finally bound))
    sound_run (With manager name body) =
        sound_begun limit (managed limit manager (λ entered now. exited limit manager entered (run_all limit program call body (assign name entered now))))
        (λ bound. sound_managed limit bound manager (λ entered now. exited limit manager entered (run_all limit program call body (assign name entered now)))
        (λ entered. sound_exited limit bound manager entered (λ now. run_all limit program call body (assign name entered now))
        (sound_assigned limit bound name entered (run_all limit program call body) (sound_run_all body bound))))

    pub sound_run_all : (statements : Statements) → Sound limit (run_all limit program call statements)
    sound_run_all no_statements = sound_passes limit
    sound_run_all (statement_then first others) = λ bound.
        sound_then_next limit bound (run limit program call first) (run_all limit program call others) (sound_run first bound) (sound_run_all others bound)

    sound_run_branch : (branch : Branch) → Sound limit (run_branch limit program call branch)
    sound_run_branch no_branch = sound_passes limit
    sound_run_branch (branch body) = sound_run_all body

    sound_run_handlers : (handlers : Handlers) (fault : Exc) → Sound limit (run_handlers limit program call handlers fault)
    sound_run_handlers no_handlers fault = sound_raised limit fault
    sound_run_handlers (handler_then kind name body others) fault = λ bound.
        sound_if limit bound (matches kind (kind_of fault)) (λ now. run_all limit program call body (assign_to name (Exception fault) now))
        (run_handlers limit program call others fault)
        (sound_assign_to limit bound name (Exception fault) (run_all limit program call body) (sound_run_all body bound))
        (sound_run_handlers others fault bound)

-- ---- calls and coroutines
pub sound_call_within : (limit : ℕ) (program : Program) (frames place : ℕ) (arguments : List Value)
    → Sound limit (call_within limit program frames place arguments)
sound_call_within limit program zero place arguments = sound_raised limit too_many_frames
sound_call_within limit program (suc frames) place arguments = λ bound.
    sound_in_env limit bound (entered (coroutine_at program place) arguments)
    (run_all limit program (call_within limit program frames) (coroutine_at program place).body)
    (sound_run_all limit program (call_within limit program frames) (sound_call_within limit program frames) (coroutine_at program place).body bound)

begins : (limit : ℕ) (program : Program) (place : ℕ) (arguments : List Value) → Next
begins limit program place arguments = ask limit request.Pause (λ answer. call_within limit program frame_limit place arguments)

sound_begins : (limit : ℕ) (program : Program) (place : ℕ) (arguments : List Value) → Sound limit (begins limit program place arguments)
unfolding begins
sound_begins limit program place arguments bound =
    sound_ask limit bound request.Pause (λ answer. call_within limit program frame_limit place arguments)
    (λ answer. sound_call_within limit program frame_limit place arguments bound)

pub course_here : (limit : ℕ) (program : Program) (place : ℕ) (arguments : List Value) (tape : Tape)
    → Here limit (unbegun limit tape) (course limit program place arguments tape)
unfolding begins course
course_here limit program place arguments tape =
    (sound_begins limit program place arguments (to_come limit (unbegun limit tape))).here (unbegun limit tape) (le_refl (to_come limit (unbegun limit tape)))

pub course_extends : (limit : ℕ) (program : Program) (place : ℕ) (arguments : List Value) (tape more : Tape)
    → Extends more (course limit program place arguments tape) (course limit program place arguments (tape ++ more))
unfolding begins course
course_extends limit program place arguments tape more =
    let long = unbegun limit (tape ++ more) in
    (sound_begins limit program place arguments (to_come limit long)).extends more (unbegun limit tape) (le_refl (to_come limit long))
