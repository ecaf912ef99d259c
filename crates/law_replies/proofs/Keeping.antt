-- What a step of the loop keeps of the machine's state, what an answer does to it, and what a task stands at.
use Rattle.std.proofs.Common.{◌≡◌, ℕ, ◌<◌, ◌≤◌, ◌⊎◌, inl, inr, Bool, true, false, not, ◌&&◌, List, [], ◌∷◌, ◌++◌, Option, Some, None, length}
use Rattle.std.proofs.Common.{slice_get, slice_index_or, refl, sym, ap, subst, ◌∙◌, arith}
use mathlib.Core.List.{nil≢cons}
use Rattle.std.specs.List.{list_all}
use Rattle.std.proofs.lemmas.Bool.{cases_eq, eq-eqb, ne_eqb, false≢true}
use Rattle.std.proofs.lemmas.List.Folds.{list_all-append}
use Rattle.model_value.specs.Input.{Input}
use Rattle.model_value.specs.Request.{Request}
use Rattle.model_value.specs.Value.{Value}
use Rattle.model_says.specs.Blocks.{open_with, open_blocks}
use Rattle.model_says.specs.Endings.{Asks, saying_of, Exchange}
use Rattle.model_says.specs.Says.{course, exchanges_along, step_limit}
use Rattle.model_says.specs.Tape.{Resumed}
use Rattle.model_tree.specs.Syntax.{Program}
use Rattle.model_loop.specs.Groups.{group_of}
use Rattle.model_loop.specs.Owning.{is_plain}
use Rattle.model_loop.specs.Sound.{IsSound}
use Rattle.model_loop.specs.Tasks.{lives, next_task}
use Rattle.model_loop.specs.Ways.{is_running}
use Rattle.model_machine.specs.Extra.{Extra}
use Rattle.model_machine.specs.Sound.{AreBlocksOpen, AreKept, AreKeysKept, AreScriptsFutures, AreStreamsFutures, IsAsking, IsLeft, IsOpenedAt, IsSoundBut}
use Rattle.model_machine.specs.Sound.{IsSoundOver, IsStateSound, IsUnbegun}
use Rattle.model_machine.specs.Sound.{StandsRightly, blocks_of, exchanges_of, ids_of, names_block, names_made, sends_made, stands_at}
use Rattle.model_machine.specs.State.{ResumePoint, Asked, Leaving, Generator, State, generator, generator_of, resumed, stands}
use Rattle.model_stream.specs.Kept.{StreamsKeep, times_kept}
use Rattle.model_stream.specs.Streams.{Streams}
use Rattle.law_cases.proofs.Composing.{streams_more}
use Rattle.model_machine.specs.Step.{says_of}
use Rattle.model_machine.specs.Told.{told_in}
use Rattle.law_turns.specs.After.{IsAfter, IsLoopAfter}
use Rattle.law_replies.specs.InStep.{MayStandAt, SameTapes}
use Rattle.law_replies.proofs.Blocks.{AreOpenAt}
use Rattle.law_replies.proofs.Counts.{and_first, and_second, and_both, not_true, not_false, lives_within, lives_before, unbegun_kept, sleep_kept, plain_of}
use Rattle.law_replies.proofs.Counts.{of_plain}
use Rattle.law_replies.proofs.Ids.{IsMore, list_up, names_up, tape_up}
use Rattle.law_replies.proofs.Kept.{kept_on, keys_same, keys_stood}
use Rattle.law_replies.proofs.Tapes.{set_same, set_other, set_length, exchanges_grow, blocks_grow}

-- ---- all but which blocks are open: entries were answered by blocks
abbrev pub AreBlocksEntered : {S : Type 0} → State S → Type 0
AreBlocksEntered s = (task : ℕ) → list_all (λ exchange. names_block exchange.request exchange.answer) (exchanges_of s task) ≡ true

abbrev pub IsApart : {S : Type 0} → (running excused : Option ℕ) → Extra S → State S → Type 0
IsApart running excused added s = IsSoundOver (AreBlocksEntered s) running excused added s

module _ {S : Type 0} (added : Extra S) (running excused : Option ℕ) (s : State S) where
  with_blocks : {Blocks Others : Type 0} → IsSoundOver Blocks running excused added s → Others → IsSoundOver Others running excused added s
  with_blocks is others = record {
    loop = is.loop;
    generators = is.generators;
    asking = is.asking;
    unbegun = is.unbegun;
    main_over = is.main_over;
    main_told = is.main_told;
    resume_point = is.resume_point;
    exits = is.exits;
    blocks = others;
    streams = is.streams;
    kept_once = is.kept_once;
    futures = is.futures;
    made = is.made;
    kept = is.kept;
    keys = is.keys;
  }

  pub apart_of : IsSoundBut running excused added s → IsApart running excused added s
  apart_of is = with_blocks is is.blocks.entered

  pub open_of : AreBlocksOpen s → AreOpenAt s.loop (blocks_of s)
  open_of blocks = record { timeouts = blocks.timeouts; groups = blocks.groups; own = blocks.own }

  pub with_open : IsApart running excused added s → AreOpenAt s.loop (blocks_of s) → IsSoundBut running excused added s
  with_open is at = with_blocks is (record { timeouts = at.timeouts; groups = at.groups; entered = is.blocks; own = at.own })

module _ {S : Type 0} (added : Extra S) (s : State S) where
  -- the excused task asks and stands rightly too
  pub joined : (task : ℕ) → IsSoundBut None (Some task) added s → (lives s.loop.parts task ≡ true → IsAsking added s task)
      → ((generator_of task s).tape ≡ [] → ⊥) → (lives s.loop.parts task ≡ true → StandsRightly s task)
      → ((id : ℕ) → IsLeft s id → task ≡ (group_of s.loop id).parent → (generator_of task s).resume_point ≡ Leaving id) → IsStateSound added s
  joined task is asks begun stands_ left = record {
    loop = is.loop;
    generators = is.generators;
    asking = λ other l f. asking other l (cases_eq task other);
    unbegun = λ other l f e. unbegun other l e (cases_eq task other);
    main_over = is.main_over;
    main_told = is.main_told;
    resume_point = λ other l f. resume_point other l (cases_eq task other);
    exits = λ id e f. exits id e (cases_eq task (group_of s.loop id).parent);
    blocks = is.blocks;
    streams = is.streams;
    kept_once = is.kept_once;
    futures = is.futures;
    made = is.made;
    kept = is.kept;
    keys = is.keys;
  }
    where
      asking : (other : ℕ) → lives s.loop.parts other ≡ true → (task ≡ other) ⊎ (task ≡ other → ⊥) → IsAsking added s other
      asking other l (inl same) = subst (λ k. lives s.loop.parts k ≡ true → IsAsking added s k) same asks l
      asking other l (inr n) = is.asking other l (ne_eqb task other n)

      unbegun : (other : ℕ) → lives s.loop.parts other ≡ true → (generator_of other s).tape ≡ [] → (task ≡ other) ⊎ (task ≡ other → ⊥)
          → IsUnbegun s.loop.parts other
      unbegun other l e (inl same) = absurd (subst (λ k. (generator_of k s).tape ≡ [] → ⊥) same begun e)
      unbegun other l e (inr n) = is.unbegun other l (ne_eqb task other n) e

      resume_point : (other : ℕ) → lives s.loop.parts other ≡ true → (task ≡ other) ⊎ (task ≡ other → ⊥) → StandsRightly s other
      resume_point other l (inl same) = subst (λ k. lives s.loop.parts k ≡ true → StandsRightly s k) same stands_ l
      resume_point other l (inr n) = is.resume_point other l (ne_eqb task other n)

      exits : (id : ℕ) → IsLeft s id → (task ≡ (group_of s.loop id).parent) ⊎ (task ≡ (group_of s.loop id).parent → ⊥)
          → (generator_of (group_of s.loop id).parent s).resume_point ≡ Leaving id
      exits id e (inl same) = subst (λ k. (generator_of k s).resume_point ≡ Leaving id) same (left id e same)
      exits id e (inr n) = is.exits id e (ne_eqb task (group_of s.loop id).parent n)

-- ---- what is said of one task
module _ {S : Type 0} (added : Extra S) (s t : State S) (program : t.program ≡ s.program) (task : ℕ)
    (same : generator_of task t ≡ generator_of task s) where
  pub says_same : says_of step_limit added task t ≡ says_of step_limit added task s
  says_same =
      ap (λ (p : Program). saying_of (course step_limit p (generator_of task t).coroutine (generator_of task t).arguments (generator_of task t).tape)) program
      ∙ ap (λ (g : Generator). saying_of (course step_limit s.program g.coroutine g.arguments g.tape)) same

  pub blocks_same : blocks_of t task ≡ blocks_of s task
  blocks_same =
      ap (λ (p : Program). open_blocks p (generator_of task t).coroutine (generator_of task t).arguments (generator_of task t).tape) program
      ∙ ap (λ (g : Generator). open_blocks s.program g.coroutine g.arguments g.tape) same

  pub exchanges_same : exchanges_of t task ≡ exchanges_of s task
  exchanges_same =
      ap (λ (p : Program). exchanges_along p (generator_of task t).coroutine (generator_of task t).arguments (generator_of task t).tape) program
      ∙ ap (λ (g : Generator). exchanges_along s.program g.coroutine g.arguments g.tape) same

  pub asking_kept : IsAsking added s task → IsAsking added t task
  asking_kept is = record {
    asked = is.asked;
    says = says_same ∙ is.says;
    stands = ap (λ (g : Generator). stands_at g.resume_point is.asked) same ∙ is.stands;
  }

  pub resume_point_kept : (test : Value → Bool) (grown : Bool) (excused timeout group begun : Option ℕ)
      → IsLoopAfter test grown excused timeout group begun s.loop t.loop → t.streams ≡ s.streams
      → ((id : ℕ) → (generator_of task s).resume_point ≡ Leaving id → is_running group id ≡ false) → StandsRightly s task → StandsRightly t task
  resume_point_kept test grown excused timeout group begun a streams free is = record {
    sleeping = λ tag e. sleep_kept test grown excused s.loop.parts t.loop.parts a.parts task tag (is.sleeping tag (sym stands_same ∙ e));
    leaving = λ id e. (a.groups id).parent ∙ is.leaving id (sym stands_same ∙ e);
    leaving_now = λ id e.
        let now = is.leaving_now id (sym stands_same ∙ e) in
        and_both _ _ ((a.groups id).exiting (and_first _ _ now))
        (not_false _ ((a.groups id).ended (free id (sym stands_same ∙ e)) ∙ not_true _ (and_second _ _ now)));
    opened = subst (λ (x : Streams). IsOpenedAt x (generator_of task t).resume_point) (sym streams)
        (subst (IsOpenedAt s.streams) (sym stands_same) is.opened);
  }
    where
      stands_same : (generator_of task t).resume_point ≡ (generator_of task s).resume_point
      stands_same = ap (λ (g : Generator). g.resume_point) same

-- ---- what streams keep
pub streams_kept : {S : Type 0} (s t : State S) → t.streams ≡ s.streams
    → ((id : ℕ) → is_plain s.loop.parts id ≡ true → is_plain t.loop.parts id ≡ true) → AreStreamsFutures s → AreStreamsFutures t
streams_kept s t same plains kept =
    subst (λ streams. StreamsKeep (λ id. is_plain t.loop.parts id ≡ true) streams) (sym same)
    (streams_more (λ id. is_plain s.loop.parts id ≡ true) (λ id. is_plain t.loop.parts id ≡ true) plains s.streams kept)

-- ---- a step of the loop, which no coroutine hears
pub futures_kept : {S : Type 0} (s t : State S) → t.futures ≡ s.futures → t.streams ≡ s.streams
    → ((id : ℕ) → is_plain s.loop.parts id ≡ true → is_plain t.loop.parts id ≡ true) → AreScriptsFutures s → AreScriptsFutures t
futures_kept s t same streams plains is = record {
  plain = λ place id e.
      let f = is.plain place id (sym (ap (λ l. slice_get l place) same) ∙ e) in
      plain_of t.loop.parts id (plains id (of_plain s.loop.parts id f.0 f.1 f.2));
  once = λ place other id e f. is.once place other id (sym (ap (λ l. slice_get l place) same) ∙ e) (sym (ap (λ l. slice_get l other) same) ∙ f);
  apart = λ place id e.
      subst (λ (x : Streams). times_kept id x ≡ 0) (sym streams) (is.apart place id (sym (ap (λ l. slice_get l place) same) ∙ e));
}

-- the tasks that `s` excuses are excused in `t`, and what the loop of `t` is after that of `s` spares the others
module _ {S : Type 0} (added : Extra S) (s t : State S) (tapes : SameTapes s t) (running after before excused : Option ℕ) where
  same_at : (task : ℕ) → generator_of task t ≡ generator_of task s
  same_at task = ap (λ gs. slice_index_or gs task (generator 0 [])) tapes.generators

  pub tapes_blocks : (task : ℕ) → blocks_of t task ≡ blocks_of s task
  tapes_blocks task = blocks_same added s t tapes.program task (same_at task)

  abbrev pub StaysStood : Type 0
  StaysStood =
      (task : ℕ) → is_running excused task ≡ false → lives s.loop.parts task ≡ true → StandsRightly s task → StandsRightly t task

  abbrev pub LeavesNone : Type 0
  LeavesNone =
      (id : ℕ) → IsLeft t id → is_running excused (group_of t.loop id).parent ≡ false
      → IsLeft s id × ((group_of t.loop id).parent ≡ (group_of s.loop id).parent)

  pub loop_keeps : IsAfter (names_made (ids_of s)) false excused s.loop.parts t.loop.parts
      → next_task t.loop.parts ≡ next_task s.loop.parts → IsMore (ids_of s) (ids_of t)
      → IsSound after (told_in t.events) t.loop → ((task : ℕ) → is_running excused task ≡ false → is_running before task ≡ false)
      → (t.main_done ≡ true → lives t.loop.parts 0 ≡ false) → StaysStood → LeavesNone → AreScriptsFutures t
      → IsApart running before added s → IsApart after excused added t
  loop_keeps a made more sound fewer over stays leaves scripts is = record {
    loop = sound;
    streams = streams_kept s t tapes.streams (λ id h. a.plain id h) is.streams;
    kept_once = λ future. subst (λ (x : Streams). times_kept future x ≤ 1) (sym tapes.streams) (is.kept_once future);
    generators = ap length tapes.generators ∙ is.generators ∙ sym made;
    asking = λ task l f. asking_kept added s t tapes.program task (same_at task) (is.asking task (lived task l) (fewer task f));
    unbegun = λ task l f e.
        unbegun_kept _ _ excused s.loop.parts t.loop.parts a task (a.steps task f)
        (is.unbegun task (lived task l) (fewer task f) (sym (ap (λ (g : Generator). g.tape) (same_at task)) ∙ e));
    main_over = over;
    main_told = a.main is.main_told;
    resume_point = λ task l f. stays task f (lived task l) (is.resume_point task (lived task l) (fewer task f));
    exits = λ id e f.
        let x = leaves id e f in
        ap (λ (g : Generator). g.resume_point) (same_at (group_of t.loop id).parent) ∙ ap (λ k. (generator_of k s).resume_point) x.1
        ∙ is.exits id x.0 (fewer (group_of s.loop id).parent (sym (ap (is_running excused) x.1) ∙ f));
    blocks = λ task. ap (list_all (λ exchange. names_block exchange.request exchange.answer))
        (exchanges_same added s t tapes.program task (same_at task)) ∙ is.blocks task;
    futures = scripts;
    made = record {
      arguments = λ task. list_up (ids_of s) (ids_of t) more (generator_of task t).arguments
          (ap (λ (g : Generator). list_all (names_made (ids_of s)) g.arguments) (same_at task) ∙ is.made.arguments task);
      tape = λ task. tape_up (ids_of s) (ids_of t) more (generator_of task t).tape
          (ap (λ (g : Generator). list_all (λ (x : Resumed). sends_made (ids_of s) x.input) g.tape) (same_at task) ∙ is.made.tape task);
      outcomes = λ id value e. names_up (ids_of s) (ids_of t) more value (a.outcomes is.made.outcomes id value e);
    };
    kept = subst (λ extra. AreKept (ids_of t) (added.keeps extra) t.futures t.loop.parts) (sym tapes.extra)
        (kept_on _ _ excused s.futures t.futures s.loop.parts t.loop.parts a tapes.scripts (ids_of s) (ids_of t) more (added.keeps s.extra)
        is.kept);
    keys = subst (λ extra. AreKeysKept (added.keeps extra).has_key t.generators) (sym tapes.extra)
        (subst (AreKeysKept (added.keeps s.extra).has_key) (sym tapes.generators) is.keys);
  }
    where
      lived : (task : ℕ) → lives t.loop.parts task ≡ true → lives s.loop.parts task ≡ true
      lived task l =
          let w = lives_within t.loop.parts task l in
          lives_before _ _ excused s.loop.parts t.loop.parts a is.loop.parts.owns task (omega (arith, w, made)) l

  -- where the loop's own frame says so
  module _ (test : Value → Bool) (grown : Bool) (timeout group begun : Option ℕ) (a : IsLoopAfter test grown excused timeout group begun s.loop t.loop) where
    pub stays_stood : ((task id : ℕ) → is_running excused task ≡ false → (generator_of task s).resume_point ≡ Leaving id
        → StandsRightly s task → is_running group id ≡ false) → StaysStood
    stays_stood free task f l right =
        resume_point_kept added s t tapes.program task (same_at task) test grown excused timeout group begun a tapes.streams (λ id e. free task id f e right)
        right

    -- groups whose exits begin or end are the excused task's
    pub leaves_none : ((id : ℕ) → is_running excused (group_of s.loop id).parent ≡ false
        → (is_running group id ≡ false) × (is_running begun id ≡ false)) → LeavesNone
    leaves_none free id e f =
        let g = a.groups id in
        let x = free id (sym (ap (is_running excused) g.parent) ∙ f) in
        (and_both _ _ (sym (g.still x.1) ∙ and_first _ _ e) (sym (ap not (g.ended x.0)) ∙ and_second _ _ e), g.parent)

-- ---- an answer to the task that runs
module _ {S : Type 0} (added : Extra S) (task : ℕ) (asked : Request) (fresh : Bool) (input : Input) (t : State S)
    (within : task < length t.generators) (says : says_of step_limit added task t ≡ Asks asked) where
  abbrev u : State S
  u = resumed fresh task input t

  abbrev it : Generator
  it = generator_of task t

  abbrev entry : Resumed
  entry = record { input = input; fresh = fresh }

  longer : generator_of task u ≡ record it { tape = it.tape ++ entry ∷ [] }
  longer = set_same task (record it { tape = it.tape ++ entry ∷ [] }) t within

  others_same : (other : ℕ) → (task ≡ other → ⊥) → generator_of other u ≡ generator_of other t
  others_same other n = set_other task other (record it { tape = it.tape ++ entry ∷ [] }) t n

  free_same : (other : ℕ) → is_running (Some task) other ≡ false → generator_of other u ≡ generator_of other t
  free_same other f = others_same other (λ e. absurd (false≢true (sym f ∙ eq-eqb task other e)))

  pub resumed_blocks : blocks_of u task ≡ open_with (blocks_of t task) asked input
  resumed_blocks =
      ap (λ (g : Generator). open_blocks t.program g.coroutine g.arguments g.tape) longer
      ∙ blocks_grow t.program it.coroutine it.arguments it.tape asked entry says

  pub resumed_others : (other : ℕ) → (task ≡ other → ⊥) → blocks_of u other ≡ blocks_of t other
  resumed_others other n = ap (λ (g : Generator). open_blocks t.program g.coroutine g.arguments g.tape) (others_same other n)

  resumed_exchanges : exchanges_of u task ≡ exchanges_of t task ++ record { request = asked; answer = input } ∷ []
  resumed_exchanges =
      ap (λ (g : Generator). exchanges_along t.program g.coroutine g.arguments g.tape) longer
      ∙ exchanges_grow t.program it.coroutine it.arguments it.tape asked entry says

  pub resumed_resume_point : it.resume_point ≡ Asked → (generator_of task u).resume_point ≡ Asked
  resumed_resume_point e = ap (λ (g : Generator). g.resume_point) longer ∙ e

  pub resumed_begun : (generator_of task u).tape ≡ [] → ⊥
  resumed_begun e = not_nil it.tape (sym (ap (λ (g : Generator). g.tape) longer) ∙ e)
    where
      not_nil : (xs : List Resumed) → xs ++ entry ∷ [] ≡ [] → ⊥
      not_nil [] e = nil≢cons (sym e)
      not_nil (x ∷ xs) e = nil≢cons (sym e)

  pub answer_keeps : names_block asked input ≡ true → sends_made (ids_of t) input ≡ true
      → IsApart (Some task) (Some task) added t → IsApart (Some task) (Some task) added u
  answer_keeps named good is = record {
    loop = is.loop;
    streams = is.streams;
    kept_once = is.kept_once;
    generators = set_length task (record it { tape = it.tape ++ entry ∷ [] }) t ∙ is.generators;
    asking = λ other l f. asking_kept added t u refl other (free_same other f) (is.asking other l f);
    unbegun = λ other l f e. is.unbegun other l f (sym (ap (λ (g : Generator). g.tape) (free_same other f)) ∙ e);
    main_over = is.main_over;
    main_told = is.main_told;
    resume_point = λ other l f. stands_right other f (is.resume_point other l f);
    exits = λ id e f. ap (λ (g : Generator). g.resume_point) (free_same (group_of t.loop id).parent f) ∙ is.exits id e f;
    blocks = λ other. entered other (cases_eq task other);
    futures = record { plain = is.futures.plain; once = is.futures.once; apart = is.futures.apart };
    made = record {
      arguments = λ other. arguments other (cases_eq task other);
      tape = λ other. tape other (cases_eq task other);
      outcomes = is.made.outcomes;
    };
    kept = is.kept;
    keys = keys_same (added.keeps t.extra).has_key t.generators u.generators (λ other. stands_same other (cases_eq task other)) is.keys;
  }
    where
      stands_same : (other : ℕ) → (task ≡ other) ⊎ (task ≡ other → ⊥) → (generator_of other u).resume_point ≡ (generator_of other t).resume_point
      stands_same other (inl same) =
          subst (λ k. (generator_of k u).resume_point ≡ (generator_of k t).resume_point) same (ap (λ (g : Generator). g.resume_point) longer)
      stands_same other (inr n) = ap (λ (g : Generator). g.resume_point) (others_same other n)

      stands_right : (other : ℕ) → is_running (Some task) other ≡ false → StandsRightly t other → StandsRightly u other
      stands_right other f is = record {
        sleeping = λ tag e. is.sleeping tag (sym (ap (λ (g : Generator). g.resume_point) (free_same other f)) ∙ e);
        leaving = λ id e. is.leaving id (sym (ap (λ (g : Generator). g.resume_point) (free_same other f)) ∙ e);
        leaving_now = λ id e. is.leaving_now id (sym (ap (λ (g : Generator). g.resume_point) (free_same other f)) ∙ e);
        opened = subst (IsOpenedAt t.streams) (sym (ap (λ (g : Generator). g.resume_point) (free_same other f))) is.opened;
      }

      entered : (other : ℕ) → (task ≡ other) ⊎ (task ≡ other → ⊥)
          → list_all (λ exchange. names_block exchange.request exchange.answer) (exchanges_of u other) ≡ true
      entered other (inl same) =
          subst (λ k. list_all (λ exchange. names_block exchange.request exchange.answer) (exchanges_of u k) ≡ true) same
          (ap (list_all (λ exchange. names_block exchange.request exchange.answer)) resumed_exchanges
          ∙ list_all-append (λ (exchange : Exchange). names_block exchange.request exchange.answer) (exchanges_of t task) _
          ∙ and_both _ _ (is.blocks task) (ap (λ b. b && true) named))
      entered other (inr n) =
          ap (list_all (λ exchange. names_block exchange.request exchange.answer)) (exchanges_same added t u refl other (others_same other n))
          ∙ is.blocks other

      arguments : (other : ℕ) → (task ≡ other) ⊎ (task ≡ other → ⊥)
          → list_all (names_made (ids_of t)) (generator_of other u).arguments ≡ true
      arguments other (inl same) =
          subst (λ k. list_all (names_made (ids_of t)) (generator_of k u).arguments ≡ true) same
          (ap (λ (g : Generator). list_all (names_made (ids_of t)) g.arguments) longer ∙ is.made.arguments task)
      arguments other (inr n) =
          ap (λ (g : Generator). list_all (names_made (ids_of t)) g.arguments) (others_same other n) ∙ is.made.arguments other

      tape : (other : ℕ) → (task ≡ other) ⊎ (task ≡ other → ⊥)
          → list_all (λ entry. sends_made (ids_of t) entry.input) (generator_of other u).tape ≡ true
      tape other (inl same) =
          subst (λ k. list_all (λ entry. sends_made (ids_of t) entry.input) (generator_of k u).tape ≡ true) same
          (ap (λ (g : Generator). list_all (λ (x : Resumed). sends_made (ids_of t) x.input) g.tape) longer
          ∙ list_all-append (λ (x : Resumed). sends_made (ids_of t) x.input) it.tape (entry ∷ [])
          ∙ and_both _ _ (is.made.tape task) (ap (λ b. b && true) good))
      tape other (inr n) =
          ap (λ (g : Generator). list_all (λ (x : Resumed). sends_made (ids_of t) x.input) g.tape) (others_same other n) ∙ is.made.tape other

-- ---- what a task stands at
module _ {S : Type 0} (added : Extra S) (task : ℕ) (resume_point : ResumePoint) (t : State S) (within : task < length t.generators) where
  abbrev stood : State S
  stood = stands resume_point task t

  stands_longer : generator_of task stood ≡ record (generator_of task t) { resume_point = resume_point }
  stands_longer = set_same task (record (generator_of task t) { resume_point = resume_point }) t within

  stands_others : (other : ℕ) → (task ≡ other → ⊥) → generator_of other stood ≡ generator_of other t
  stands_others other n = set_other task other (record (generator_of task t) { resume_point = resume_point }) t n

  pub stood_resume_point : (generator_of task stood).resume_point ≡ resume_point
  stood_resume_point = ap (λ (g : Generator). g.resume_point) stands_longer

  pub stood_tape : (generator_of task stood).tape ≡ (generator_of task t).tape
  stood_tape = ap (λ (g : Generator). g.tape) stands_longer

  pub stood_says : says_of step_limit added task stood ≡ says_of step_limit added task t
  stood_says = ap (λ (g : Generator). saying_of (course step_limit t.program g.coroutine g.arguments g.tape)) stands_longer

  -- whatever of a generator but its standing
  seen_same : {Y : Type 0} (f : ℕ → List Value → List Resumed → Y) (other : ℕ)
      → f (generator_of other stood).coroutine (generator_of other stood).arguments (generator_of other stood).tape
      ≡ f (generator_of other t).coroutine (generator_of other t).arguments (generator_of other t).tape
  seen_same f other = at (cases_eq task other)
    where
      at : (task ≡ other) ⊎ (task ≡ other → ⊥)
          → f (generator_of other stood).coroutine (generator_of other stood).arguments (generator_of other stood).tape
          ≡ f (generator_of other t).coroutine (generator_of other t).arguments (generator_of other t).tape
      at (inl same) =
          subst (λ k. f (generator_of k stood).coroutine (generator_of k stood).arguments (generator_of k stood).tape
          ≡ f (generator_of k t).coroutine (generator_of k t).arguments (generator_of k t).tape) same
          (ap (λ (g : Generator). f g.coroutine g.arguments g.tape) stands_longer)
      at (inr n) = ap (λ (g : Generator). f g.coroutine g.arguments g.tape) (stands_others other n)

  pub stood_blocks : (other : ℕ) → blocks_of stood other ≡ blocks_of t other
  stood_blocks other = seen_same (λ c a tape. open_blocks t.program c a tape) other

  pub stands_keeps : MayStandAt (added.keeps t.extra).has_key t.generators resume_point → (running : Option ℕ) → IsApart running (Some task) added t
      → IsApart running (Some task) added stood
  stands_keeps may running is = record {
    loop = is.loop;
    streams = is.streams;
    kept_once = is.kept_once;
    generators = set_length task (record (generator_of task t) { resume_point = resume_point }) t ∙ is.generators;
    asking = λ other l f. asking_kept added t stood refl other (free other f) (is.asking other l f);
    unbegun = λ other l f e. is.unbegun other l f (sym (ap (λ (g : Generator). g.tape) (free other f)) ∙ e);
    main_over = is.main_over;
    main_told = is.main_told;
    resume_point = λ other l f. stands_right other f (is.resume_point other l f);
    exits = λ id e f. ap (λ (g : Generator). g.resume_point) (free (group_of t.loop id).parent f) ∙ is.exits id e f;
    blocks = λ other. seen_same (λ c a tape. list_all (λ exchange. names_block exchange.request exchange.answer) (exchanges_along t.program c a tape)) other
        ∙ is.blocks other;
    futures = record { plain = is.futures.plain; once = is.futures.once; apart = is.futures.apart };
    made = record {
      arguments = λ other. seen_same (λ c a tape. list_all (names_made (ids_of t)) a) other ∙ is.made.arguments other;
      tape = λ other. seen_same (λ c a tape. list_all (λ (x : Resumed). sends_made (ids_of t) x.input) tape) other ∙ is.made.tape other;
      outcomes = is.made.outcomes;
    };
    kept = is.kept;
    keys = keys_stood (added.keeps t.extra).has_key t.generators stood.generators task resume_point may stood_resume_point
        (λ other n. ap (λ (g : Generator). g.resume_point) (stands_others other n)) is.keys;
  }
    where
      free : (other : ℕ) → is_running (Some task) other ≡ false → generator_of other stood ≡ generator_of other t
      free other f = stands_others other (λ e. absurd (false≢true (sym f ∙ eq-eqb task other e)))

      stands_right : (other : ℕ) → is_running (Some task) other ≡ false → StandsRightly t other → StandsRightly stood other
      stands_right other f is = record {
        sleeping = λ tag e. is.sleeping tag (sym (ap (λ (g : Generator). g.resume_point) (free other f)) ∙ e);
        leaving = λ id e. is.leaving id (sym (ap (λ (g : Generator). g.resume_point) (free other f)) ∙ e);
        leaving_now = λ id e. is.leaving_now id (sym (ap (λ (g : Generator). g.resume_point) (free other f)) ∙ e);
        opened = subst (IsOpenedAt t.streams) (sym (ap (λ (g : Generator). g.resume_point) (free other f))) is.opened;
      }
