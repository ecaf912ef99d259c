-- What each piece of a coroutine's body does to its progress, and what a longer tape changes.
use Rattle.std.proofs.Common.{◌≡◌, ℕ, zero, suc, ◌+◌, ◌*◌, ◌≤◌, Bool, true, false, if◌then◌else◌, List, [], ◌∷◌, ◌++◌, map, length, Result, Ok, Err, refl, sym}
use Rattle.std.proofs.Common.{◌∙◌, ap, subst, append_assoc, append-nil, le_refl, le_trans, arith}
use Rattle.model_value.specs.Input.{Input}
use Rattle.model_value.specs.declared.input.Input.TheVariants.{Send, Throw}
use Rattle.model_value.specs.Request.{Request}
use Rattle.model_value.specs.Value.{Value, Truth, Exc}
use Rattle.model_tree.specs.Syntax.{Expr, Exprs}
use Rattle.model_says.specs.Asked.{requests_of, answers_of, inputs_of, waiting, asked, IsFront}
use Rattle.model_says.specs.Variables.{Env}
use Rattle.model_says.specs.Expressions.{value_of, values_of}
use Rattle.model_says.specs.Operations.{bad_operand}
use Rattle.model_says.specs.Tape.{Resumed, Tape}
use Rattle.model_says.specs.Endings.{Asks, Runaway, Exchange, Progress, Ending, Passes, Returned, Raised, Stopped, saying_of, progress_of, Next, routed, given}
use Rattle.model_says.specs.Endings.{valued, all_valued, chosen, decided, begun, begun_with, resumed_by, taken, asked_of, ask}
use Rattle.model_says.specs.Says.{to_come, back_in}
use Rattle.law_says.proofs.Loops.{one_less}

-- ---- lists
pub front_refl : {A : Type 0} (xs : List A) → IsFront xs xs
front_refl xs = record { rest = []; joined = append-nil xs }

pub front-append : {A : Type 0} (xs ys : List A) → IsFront xs (xs ++ ys)
front-append xs ys = record { rest = ys; joined = refl }

pub front_trans : {A : Type 0} {xs ys zs : List A} → IsFront xs ys → IsFront ys zs → IsFront xs zs
front_trans {xs = xs} first second =
    record {
      rest = first.rest ++ second.rest;
      joined = sym (append_assoc xs first.rest second.rest) ∙ ap (λ l. l ++ second.rest) first.joined ∙ second.joined;
    }

map-append : {A B : Type 0} (f : A → B) (xs ys : List A) → map f (xs ++ ys) ≡ map f xs ++ map f ys
map-append f [] ys = refl
map-append f (x ∷ xs) ys = ap (λ l. f x ∷ l) (map-append f xs ys)

requests-append : (xs ys : List Exchange) → requests_of (xs ++ ys) ≡ requests_of xs ++ requests_of ys
requests-append xs ys = map-append (λ exchange. exchange.request) xs ys

answers-append : (xs ys : List Exchange) → answers_of (xs ++ ys) ≡ answers_of xs ++ answers_of ys
answers-append xs ys = map-append (λ exchange. exchange.answer) xs ys

requests-front : (xs ys : List Exchange) (more : List Request) → IsFront xs ys → IsFront (requests_of xs) (requests_of ys ++ more)
requests-front xs ys more front =
    front_trans (record { rest = requests_of front.rest; joined = sym (requests-append xs front.rest) ∙ ap requests_of front.joined })
    (front-append (requests_of ys) more)

-- ---- the same with inputs behind
abbrev pub extended : Tape → Progress → Progress
extended more now = record now { tape = now.tape ++ more }

-- where a request waits, no input is left
abbrev pub Emptied : Ending → Type 0
Emptied (Stopped (Asks request) now) = now.tape ≡ []
Emptied ending = Unit {0}

-- what a piece of a body does, where it is met with so much progress
pub record Here (limit : ℕ) (now : Progress) (ending : Ending) : Type 0 where
  pub grows : IsFront now.exchanges (progress_of ending).exchanges
  pub spends : to_come limit (progress_of ending) ≤ to_come limit now
  pub takes : answers_of (progress_of ending).exchanges ++ inputs_of (progress_of ending).tape ≡ answers_of now.exchanges ++ inputs_of now.tape
  pub empties : Emptied ending

-- What a longer tape makes of an ending: the same with more inputs left. Only a request that waits may go on, and then
-- it is asked before whatever comes next.
abbrev pub Extends : Tape → Ending → Ending → Type 0
Extends more (Passes now) long = long ≡ Passes (extended more now)
Extends more (Returned value now) long = long ≡ Returned value (extended more now)
Extends more (Raised fault now) long = long ≡ Raised fault (extended more now)
Extends more (Stopped (Asks request) now) long = IsFront (asked (Stopped (Asks request) now)) (asked long)
Extends more (Stopped saying now) long = long ≡ Stopped saying (extended more now)

-- both, as long as no more statements may begin than the bound
pub record SoundBelow (limit bound : ℕ) (next : Next) : Type 0 where
  pub here : (now : Progress) → to_come limit now ≤ bound → Here limit now (next now)
  pub extends : (more : Tape) (now : Progress) → to_come limit (extended more now) ≤ bound → Extends more (next now) (next (extended more now))

abbrev pub Sound : ℕ → Next → Type 0
Sound limit next = (bound : ℕ) → SoundBelow limit bound next

-- ---- ends at once
kept : (limit : ℕ) (now : Progress) (ending : Ending) → (progress_of ending).exchanges ≡ now.exchanges → (progress_of ending).tape ≡ now.tape
    → (progress_of ending).left ≡ now.left → Emptied ending → Here limit now ending
kept limit now ending exchanges tape left emptied =
    record {
      grows = subst (λ l. IsFront now.exchanges l) (sym exchanges) (front_refl now.exchanges);
      spends = rw (tape, left) (le_refl (to_come limit now));
      takes = rw (tape, exchanges) refl;
      empties = emptied;
    }

pub here_stopped : (limit : ℕ) (now : Progress) → Here limit now (Stopped Runaway now)
here_stopped limit now = kept limit now (Stopped Runaway now) refl refl refl tt

pub sound_passes : (limit : ℕ) → Sound limit Passes
sound_passes limit bound =
    record { here = λ now below. kept limit now (Passes now) refl refl refl tt; extends = λ more now below. refl }

pub sound_returned : (limit : ℕ) (value : Value) → Sound limit (Returned value)
sound_returned limit value bound =
    record { here = λ now below. kept limit now (Returned value now) refl refl refl tt; extends = λ more now below. refl }

pub sound_raised : (limit : ℕ) (fault : Exc) → Sound limit (Raised fault)
sound_raised limit fault bound =
    record { here = λ now below. kept limit now (Raised fault now) refl refl refl tt; extends = λ more now below. refl }

-- ---- what comes next depends on the variables, or changes them
pub sound_by_env : (limit bound : ℕ) (next : Env → Next) → ((env : Env) → SoundBelow limit bound (next env)) → SoundBelow limit bound (λ now. next now.env now)
sound_by_env limit bound next sound =
    record {
      here = λ now below. (sound now.env).here now below;
      extends = λ more now below. (sound now.env).extends more now below;
    }

pub sound_in_env : (limit bound : ℕ) (env : Env) (next : Next) → SoundBelow limit bound next → SoundBelow limit bound (λ now. next (back_in env now))
sound_in_env limit bound env next sound =
    record {
      here = λ now below.
          let there = sound.here (back_in env now) below in
          record { grows = there.grows; spends = there.spends; takes = there.takes; empties = there.empties };
      extends = λ more now below. sound.extends more (back_in env now) below;
    }

-- ---- expressions
pub sound_given : {A : Type 0} (limit bound : ℕ) (next : A → Next) (result : Result A Exc) → ((value : A) → SoundBelow limit bound (next value))
    → SoundBelow limit bound (given next result)
sound_given limit bound next (Ok value) sound =
    record { here = λ now below. (sound value).here now below; extends = λ more now below. (sound value).extends more now below }
sound_given limit bound next (Err fault) sound =
    record { here = (sound_raised limit fault bound).here; extends = (sound_raised limit fault bound).extends }

pub sound_valued : (limit bound : ℕ) (expr : Expr) (next : Value → Next) → ((value : Value) → SoundBelow limit bound (next value))
    → SoundBelow limit bound (valued expr next)
sound_valued limit bound expr next sound =
    sound_by_env limit bound (λ env. given next (value_of expr env)) (λ env. sound_given limit bound next (value_of expr env) sound)

pub sound_all_valued : (limit bound : ℕ) (exprs : Exprs) (next : List Value → Next) → ((values : List Value) → SoundBelow limit bound (next values))
    → SoundBelow limit bound (all_valued exprs next)
sound_all_valued limit bound exprs next sound =
    sound_by_env limit bound (λ env. given next (values_of exprs env)) (λ env. sound_given limit bound next (values_of exprs env) sound)

pub sound_if : (limit bound : ℕ) (test : Bool) (next next' : Next) → SoundBelow limit bound next → SoundBelow limit bound next'
    → SoundBelow limit bound (if test then next else next')
sound_if limit bound true next next' sound sound' = sound
sound_if limit bound false next next' sound sound' = sound'

sound_chosen : (limit bound : ℕ) (next next' : Next) → SoundBelow limit bound next → SoundBelow limit bound next' → (value : Value)
    → SoundBelow limit bound (chosen next next' value)
sound_chosen limit bound next next' sound sound' (Truth true) = sound
sound_chosen limit bound next next' sound sound' (Truth false) = sound'
sound_chosen limit bound next next' sound sound' _ = sound_raised limit bad_operand bound

pub sound_decided : (limit bound : ℕ) (test : Expr) (next next' : Next) → SoundBelow limit bound next → SoundBelow limit bound next'
    → SoundBelow limit bound (decided test next next')
sound_decided limit bound test next next' sound sound' =
    sound_valued limit bound test (chosen next next') (sound_chosen limit bound next next' sound sound')

-- ---- requests
sound_resumed_by : (limit bound : ℕ) (input : Input) (next : Value → Next) → ((value : Value) → SoundBelow limit bound (next value))
    → SoundBelow limit bound (resumed_by input next)
sound_resumed_by limit bound (Send value) next sound = sound value
sound_resumed_by limit bound (Throw fault) next sound = sound_raised limit fault bound

left_after : (limit : ℕ) (fresh : Bool) (left rest : ℕ) → (if fresh then limit else left) + rest ≤ left + (limit + rest)
left_after limit true left rest = omega arith
left_after limit false left rest = omega arith

-- taking an input leaves no more statements to come
taken_less : (limit : ℕ) (request : Request) (entry : Resumed) (tape : Tape) (now : Progress) → now.tape ≡ entry ∷ tape
    → to_come limit (taken limit request entry tape now) ≤ to_come limit now
taken_less limit request entry tape now is =
    let length_is : limit * length now.tape ≡ limit * suc (length tape) = ap (λ t. limit * length t) is in
    omega (arith, length_is, left_after limit entry.fresh now.left (limit * length tape))

module _ (limit bound : ℕ) (request : Request) (next : Value → Next) (sound : (value : Value) → SoundBelow limit bound (next value)) where
  here_taken : (now : Progress) (entry : Resumed) (tape : Tape) → now.tape ≡ entry ∷ tape → to_come limit now ≤ bound
      → Here limit now (resumed_by entry.input next (taken limit request entry tape now))
  here_taken now entry tape is below =
      let less = taken_less limit request entry tape now is in
      let there = (sound_resumed_by limit bound entry.input next sound).here (taken limit request entry tape now) (le_trans less below) in
      record {
        grows = front_trans (front-append now.exchanges (record { request = request; answer = entry.input } ∷ [])) there.grows;
        spends = le_trans there.spends less;
        takes =
            there.takes
            ∙ ap (λ answers. answers ++ inputs_of tape) (answers-append now.exchanges (record { request = request; answer = entry.input } ∷ []))
            ∙ append_assoc (answers_of now.exchanges) (entry.input ∷ []) (inputs_of tape)
            ∙ ap (λ t. answers_of now.exchanges ++ inputs_of t) (sym is);
        empties = there.empties;
      }

  ask_here : (now : Progress) (tape : Tape) → now.tape ≡ tape → to_come limit now ≤ bound → Here limit now (asked_of limit request next tape now)
  ask_here now [] is below = kept limit now (Stopped (Asks request) now) refl refl refl is
  ask_here now (entry ∷ tape) is below = here_taken now entry tape is below

  -- a request that waited is asked first, whatever comes
  asked_first : (now : Progress) (tape : Tape) → now.tape ≡ tape → to_come limit now ≤ bound
      → IsFront (asked (Stopped (Asks request) now)) (asked (asked_of limit request next tape now))
  asked_first now [] is below = front_refl (asked (Stopped (Asks request) now))
  asked_first now (entry ∷ tape) is below =
      let less = taken_less limit request entry tape now is in
      let there = (sound_resumed_by limit bound entry.input next sound).here (taken limit request entry tape now) (le_trans less below) in
      let ending = resumed_by entry.input next (taken limit request entry tape now) in
      subst (λ front. IsFront front (asked ending)) (requests-append now.exchanges (record { request = request; answer = entry.input } ∷ []))
      (requests-front (taken limit request entry tape now).exchanges (progress_of ending).exchanges (waiting (saying_of ending)) there.grows)

  ask_extends : (more : Tape) (now : Progress) (tape : Tape) → now.tape ≡ tape → to_come limit (extended more now) ≤ bound
      → Extends more (asked_of limit request next tape now) (asked_of limit request next (tape ++ more) (extended more now))
  ask_extends more now [] is below = asked_first (extended more now) more (ap (λ t. t ++ more) is) below
  ask_extends more now (entry ∷ tape) is below =
      let less = taken_less limit request entry (tape ++ more) (extended more now) (ap (λ t. t ++ more) is) in
      (sound_resumed_by limit bound entry.input next sound).extends more (taken limit request entry tape now) (le_trans less below)

  pub sound_ask : SoundBelow limit bound (ask limit request next)
  sound_ask =
      record {
        here = λ now below. ask_here now now.tape refl below;
        extends = λ more now below. ask_extends more now now.tape refl below;
      }

-- ---- statements begin
module _ (limit bound : ℕ) (next : Next) (sound : SoundBelow limit bound next) where
  begun_here : (now : Progress) (left : ℕ) → now.left ≡ left → to_come limit now ≤ suc bound → Here limit now (begun_with left next now)
  begun_here now zero is below = kept limit now (Stopped Runaway now) refl refl refl tt
  begun_here now (suc left) is below =
      let less = one_less limit now left is in
      let there = sound.here (record now { left = left }) (omega (arith, less, below)) in
      record {
        grows = there.grows;
        spends = le_trans there.spends (omega (arith, less));
        takes = there.takes;
        empties = there.empties;
      }

  begun_extends : (more : Tape) (now : Progress) (left : ℕ) → now.left ≡ left → to_come limit (extended more now) ≤ suc bound
      → Extends more (begun_with left next now) (begun_with left next (extended more now))
  begun_extends more now zero is below = refl
  begun_extends more now (suc left) is below =
      let less = one_less limit (extended more now) left is in
      sound.extends more (record now { left = left }) (omega (arith, less, below))

  pub sound_begun_below : SoundBelow limit (suc bound) (begun next)
  sound_begun_below =
      record {
        here = λ now below. begun_here now now.left refl below;
        extends = λ more now below. begun_extends more now now.left refl below;
      }

pub sound_less : (limit bound : ℕ) (next : Next) → SoundBelow limit (suc bound) next → SoundBelow limit bound next
sound_less limit bound next sound =
    record {
      here = λ now below. sound.here now (omega (arith, below));
      extends = λ more now below. sound.extends more now (omega (arith, below));
    }

pub sound_begun : (limit : ℕ) (next : Next) → Sound limit next → Sound limit (begun next)
sound_begun limit next sound bound = sound_less limit bound (begun next) (sound_begun_below limit bound next (sound bound))

-- ---- ways out
-- one thing behind another
afterwards : (limit : ℕ) (now : Progress) (first second : Ending) → Here limit now first → Here limit (progress_of first) second → Here limit now second
afterwards limit now first second here there =
    record {
      grows = front_trans here.grows there.grows;
      spends = le_trans there.spends here.spends;
      takes = there.takes ∙ here.takes;
      empties = there.empties;
    }

asked-front : (now : Progress) (ending : Ending) → IsFront now.exchanges (progress_of ending).exchanges
    → IsFront (requests_of now.exchanges ++ []) (asked ending)
asked-front now ending front =
    subst (λ l. IsFront l (asked ending)) (sym (append-nil (requests_of now.exchanges)))
    (requests-front now.exchanges (progress_of ending).exchanges (waiting (saying_of ending)) front)

module _ (limit bound : ℕ) (pass : Next) (return : Value → Next) (raise : Exc → Next)
    (sound_pass : SoundBelow limit bound pass) (sound_return : (value : Value) → SoundBelow limit bound (return value))
    (sound_raise : (fault : Exc) → SoundBelow limit bound (raise fault)) where
  asked_on : (ending : Ending) → to_come limit (progress_of ending) ≤ bound → IsFront (asked ending) (asked (routed pass return raise ending))
  asked_on (Passes now) below = asked-front now (pass now) (sound_pass.here now below).grows
  asked_on (Returned value now) below = asked-front now (return value now) ((sound_return value).here now below).grows
  asked_on (Raised fault now) below = asked-front now (raise fault now) ((sound_raise fault).here now below).grows
  asked_on (Stopped saying now) below = front_refl (asked (Stopped saying now))

  routed_here : (now : Progress) (ending : Ending) → Here limit now ending → to_come limit (progress_of ending) ≤ bound
      → Here limit now (routed pass return raise ending)
  routed_here now (Passes at) here below = afterwards limit now (Passes at) (pass at) here (sound_pass.here at below)
  routed_here now (Returned value at) here below = afterwards limit now (Returned value at) (return value at) here ((sound_return value).here at below)
  routed_here now (Raised fault at) here below = afterwards limit now (Raised fault at) (raise fault at) here ((sound_raise fault).here at below)
  routed_here now (Stopped saying at) here below = here

  routed_extends : (more : Tape) (short long : Ending) → Extends more short long → to_come limit (progress_of long) ≤ bound
      → Extends more (routed pass return raise short) (routed pass return raise long)
  routed_extends more (Passes now) long is below =
      subst (λ l. Extends more (pass now) (routed pass return raise l)) (sym is)
      (sound_pass.extends more now (subst (λ l. to_come limit (progress_of l) ≤ bound) is below))
  routed_extends more (Returned value now) long is below =
      subst (λ l. Extends more (return value now) (routed pass return raise l)) (sym is)
      ((sound_return value).extends more now (subst (λ l. to_come limit (progress_of l) ≤ bound) is below))
  routed_extends more (Raised fault now) long is below =
      subst (λ l. Extends more (raise fault now) (routed pass return raise l)) (sym is)
      ((sound_raise fault).extends more now (subst (λ l. to_come limit (progress_of l) ≤ bound) is below))
  routed_extends more (Stopped (Asks request) now) long front below = front_trans front (asked_on long below)
  routed_extends more (Stopped saying now) long is below = ap (routed pass return raise) is

  pub sound_routed : (first : Next) → SoundBelow limit bound first → SoundBelow limit bound (λ now. routed pass return raise (first now))
  sound_routed first sound =
      record {
        here = λ now below.
            let there = sound.here now below in
            routed_here now (first now) there (le_trans there.spends below);
        extends = λ more now below.
            let there = sound.here (extended more now) below in
            routed_extends more (first now) (first (extended more now)) (sound.extends more now below) (le_trans there.spends below);
      }
