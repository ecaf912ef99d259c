-- Values name what was made: those that scripts hand on, and those that they are given as a task is made.
use Rattle.std.proofs.Common.{◌≡◌, ℕ, ◌<◌, ◌≤◌, ◌+◌, ◌⊎◌, inl, inr, true, false, not, List, [], ◌∷◌, Option, Some, None, length}
use Rattle.std.proofs.Common.{length-append, slice_index_or, refl, sym, ap, subst, ◌∙◌, arith}
use Rattle.std.specs.List.{list_all}
use Rattle.std.proofs.lemmas.Bool.{cases_eq, cases_lt}
use Rattle.model_value.specs.Input.{Input}
use Rattle.model_value.specs.declared.input.Input.TheVariants.{Send, Throw}
use Rattle.model_value.specs.declared.outcome.Outcome.TheVariants.{Value as Returned, Failed, Cancelled}
use Rattle.model_value.specs.declared.request.Request.TheVariants as request
use Rattle.model_value.specs.Value.{Value, Values, no_values, value_then, Outcome, list_of, values}
use Rattle.model_says.specs.Endings.{Asks, saying_of}
use Rattle.model_says.specs.Says.{course, exchanges_along, step_limit}
use Rattle.model_says.specs.Blocks.{open_blocks}
use Rattle.model_says.specs.Tape.{Resumed, Tape}
use Rattle.model_loop.specs.Futures.{future_outcome}
use Rattle.model_loop.specs.Groups.{group_of}
use Rattle.model_loop.specs.Tasks.{lives, next_task}
use Rattle.model_loop.specs.Ways.{is_running}
use Rattle.model_machine.specs.Extra.{Extra}
use Rattle.model_machine.specs.Outcomes.{input_of}
use Rattle.model_stream.specs.Kept.{times_kept}
use Rattle.model_stream.specs.Streams.{Streams}
use Rattle.model_machine.specs.Sound.{AreKept, AreKeysKept, AreScriptsFutures, Ids, IsAsking, IsLeft, IsOpenedAt, IsUnbegun, StandsRightly, StandsUnder}
use Rattle.model_machine.specs.Sound.{all_made, blocks_of, ids_of, names_block, names_made}
use Rattle.model_machine.specs.Sound.{sends_made, stands_at}
use Rattle.model_machine.specs.State.{Asked, Sleeping, Leaving, Serving, Generator, State, generator, generator_of, with_coroutine}
use Rattle.model_machine.specs.Step.{says_of}
use Rattle.model_machine.specs.Told.{told_in}
use Rattle.model_loop.specs.Sound.{IsSound}
use Rattle.law_says.specs.Given.{AllOf, IsIn, IsClosed, InInput, InTape, InSaying}
use Rattle.law_says.proofs.Growing.{said_of_given}
use Rattle.law_turns.specs.After.{IsLoopAfter}
use Rattle.law_replies.specs.InStep.{SameTapes}
use Rattle.law_replies.proofs.Counts.{and_first, and_second, and_both, lives_within, lives_before, unbegun_kept}
use Rattle.law_replies.proofs.Keeping.{IsApart, asking_kept, resume_point_kept, streams_kept}
use Rattle.law_replies.proofs.Ids.{IsMore, list_up, loop_more, names_up, tape_up}
use Rattle.law_replies.proofs.Kept.{kept_on}
use Rattle.law_replies.proofs.Tapes.{added_same, added_last, added_past, past_none, blocks_before, exchanges_before}

-- ---- a closed kind
module _ (n : Ids) where
  abbrev pub Made : Value → Type 0
  Made = IsIn (names_made n)

  values_made : (items : List Value) → AllOf Made items → all_made n (values items) ≡ true
  values_made [] h = refl
  values_made (value ∷ items) h = and_both _ _ h.0 (values_made items h.1)

  made_values : (items : Values) → all_made n items ≡ true → AllOf Made (list_of items)
  made_values no_values h = tt
  made_values (value_then value others) h = (and_first _ _ h, made_values others (and_second _ _ h))

  pub made_closed : IsClosed Made
  made_closed = record {
    nothing = refl;
    truth = λ t. refl;
    number = λ k. refl;
    text = λ b. refl;
    bytes = λ b. refl;
    exception = λ f. refl;
    made = values_made;
    held = made_values;
  }

  pub all_of : (items : List Value) → list_all (names_made n) items ≡ true → AllOf Made items
  all_of [] h = tt
  all_of (value ∷ items) h = (and_first _ _ h, all_of items (and_second _ _ h))

  pub of_all : (items : List Value) → AllOf Made items → list_all (names_made n) items ≡ true
  of_all [] h = refl
  of_all (value ∷ items) h = and_both _ _ h.0 (of_all items h.1)

  in_input : (input : Input) → sends_made n input ≡ true → InInput Made input
  in_input (Send value) h = h
  in_input (Throw fault) h = tt

  pub in_tape : (tape : Tape) → list_all (λ (x : Resumed). sends_made n x.input) tape ≡ true → InTape Made tape
  in_tape [] h = tt
  in_tape (x ∷ tape) h = (in_input x.input (and_first _ _ h), in_tape tape (and_second _ _ h))

-- what a coroutine hands on names what was made
pub said_made : {S : Type 0} (added : Extra S) (running excused : Option ℕ) (s : State S) → IsApart running excused added s → (task : ℕ)
    → InSaying (Made (ids_of s)) (says_of step_limit added task s)
said_made added running excused s is task =
    let it = generator_of task s in
    said_of_given step_limit s.program it.coroutine it.arguments it.tape (Made (ids_of s)) (made_closed (ids_of s))
    (all_of (ids_of s) it.arguments (is.made.arguments task)) (in_tape (ids_of s) it.tape (is.made.tape task))

-- how a future ended, as an input
pub ended_made : {S : Type 0} (added : Extra S) (running excused : Option ℕ) (s : State S) → IsApart running excused added s → (id : ℕ)
    (outcome : Outcome) → future_outcome s.loop.parts id ≡ Some outcome → sends_made (ids_of s) (input_of outcome) ≡ true
ended_made added running excused s is id (Returned value) e = is.made.outcomes id value e
ended_made added running excused s is id (Failed fault) e = refl
ended_made added running excused s is id Cancelled e = refl

-- ---- standings
pub asked_sleeps : (tag : ℕ) → Asked ≡ Sleeping tag → ⊥
asked_sleeps tag e = absurd (cc)

pub asked_leaves : (id : ℕ) → Asked ≡ Leaving id → ⊥
asked_leaves id e = absurd (cc)

-- ---- a task is made, whose coroutine is added
pub unbegun_asks : {S : Type 0} (added : Extra S) (task : ℕ) (coroutine : ℕ) (arguments : List Value) (s : State S)
    → generator_of task s ≡ generator coroutine arguments → says_of step_limit added task s ≡ Asks request.Pause
unfolding course
unbegun_asks added task coroutine arguments s e =
    ap (λ (g : Generator). saying_of (course step_limit s.program g.coroutine g.arguments g.tape)) e

module _ {S : Type 0} (added : Extra S) (running : Option ℕ) (coroutine : ℕ) (arguments : List Value) (s t : State S) (tapes : SameTapes s t)
    (a : IsLoopAfter (names_made (ids_of s)) true running None None None s.loop t.loop)
    (more : next_task t.loop.parts ≡ next_task s.loop.parts + 1) (is : IsApart running running added s) where
  abbrev u : State S
  u = with_coroutine coroutine arguments t

  up : IsMore (ids_of s) (ids_of t)
  up = loop_more s t tapes a

  count_is : length t.generators ≡ next_task s.loop.parts
  count_is = ap length tapes.generators ∙ is.generators

  pub old_same : (other : ℕ) → other < next_task s.loop.parts → generator_of other u ≡ generator_of other s
  old_same other h =
      added_same coroutine arguments t other (let c = count_is in omega (arith, h, c))
      ∙ ap (λ gs. slice_index_or gs other (generator 0 [])) tapes.generators

  new_is : generator_of (next_task s.loop.parts) u ≡ generator coroutine arguments
  new_is = ap (λ k. generator_of k u) (sym count_is) ∙ added_last coroutine arguments t

  past_is : (other : ℕ) → next_task s.loop.parts < other → generator_of other u ≡ generator 0 []
  past_is other h = added_past coroutine arguments t other (let c = count_is in omega (arith, h, c))

  -- the old tasks, the new one, and those that aren't there
  each : (P : ℕ → Generator → Type 0) → ((other : ℕ) → other < next_task s.loop.parts → P other (generator_of other s))
      → P (next_task s.loop.parts) (generator coroutine arguments)
      → ((other : ℕ) → next_task s.loop.parts < other → P other (generator 0 [])) → (other : ℕ) → P other (generator_of other u)
  each P old new past other = at (cases_lt other (next_task s.loop.parts))
    where
      at : (other < next_task s.loop.parts) ⊎ (next_task s.loop.parts ≤ other) → P other (generator_of other u)
      at (inl h) = subst (P other) (sym (old_same other h)) (old other h)
      at (inr h) = go (cases_eq (next_task s.loop.parts) other)
        where
          go : (next_task s.loop.parts ≡ other) ⊎ (next_task s.loop.parts ≡ other → ⊥) → P other (generator_of other u)
          go (inl same) = subst (λ k. P k (generator_of k u)) same (subst (P (next_task s.loop.parts)) (sym new_is) new)
          go (inr n) = let l : next_task s.loop.parts < other = omega (arith, h, n) in subst (P other) (sym (past_is other l)) (past other l)

  pub spawned_blocks : (other : ℕ) → blocks_of u other ≡ blocks_of s other
  spawned_blocks =
      each (λ other g. open_blocks t.program g.coroutine g.arguments g.tape ≡ blocks_of s other)
      (λ other h. ap (λ p. open_blocks p (generator_of other s).coroutine (generator_of other s).arguments (generator_of other s).tape) tapes.program)
      (blocks_before t.program coroutine arguments ∙ sym (none (next_task s.loop.parts) (omega arith)))
      (λ other h. blocks_before t.program 0 [] ∙ sym (none other (omega (arith, h))))
    where
      none : (other : ℕ) → next_task s.loop.parts ≤ other → blocks_of s other ≡ []
      none other h =
          ap (λ (g : Generator). open_blocks s.program g.coroutine g.arguments g.tape) (past_none other s (let c = is.generators in omega (arith, h, c)))
          ∙ blocks_before s.program 0 []

  -- a task that lives is the new one, or lived
  living : (other : ℕ) → lives t.loop.parts other ≡ true
      → ((other < next_task s.loop.parts) × (lives s.loop.parts other ≡ true)) ⊎ (next_task s.loop.parts ≡ other)
  living other l = at (cases_lt other (next_task s.loop.parts))
    where
      at : (other < next_task s.loop.parts) ⊎ (next_task s.loop.parts ≤ other)
          → ((other < next_task s.loop.parts) × (lives s.loop.parts other ≡ true)) ⊎ (next_task s.loop.parts ≡ other)
      at (inl h) = inl (h, lives_before _ _ running s.loop.parts t.loop.parts a.parts is.loop.parts.owns other h l)
      at (inr h) = let w = lives_within t.loop.parts other l in inr (omega (arith, w, more, h))

  pub spawn_keeps : IsSound running (told_in t.events) t.loop → IsUnbegun t.loop.parts (next_task s.loop.parts)
      → (t.main_done ≡ true → lives t.loop.parts 0 ≡ false) → list_all (names_made (ids_of s)) arguments ≡ true
      → AreScriptsFutures t → IsApart running running added u
  spawn_keeps sound first over given_ scripts = record {
    loop = sound;
    streams = streams_kept s t tapes.streams (λ id h. a.parts.plain id h) is.streams;
    kept_once = λ future. subst (λ (x : Streams). times_kept future x ≤ 1) (sym tapes.streams) (is.kept_once future);
    generators = length-append t.generators _ ∙ let c = count_is in omega (arith, c, more);
    asking = λ other l f. asking other f (living other l);
    unbegun = λ other l f e. unbegun other f e (living other l);
    main_over = over;
    main_told = a.parts.main is.main_told;
    resume_point = λ other l f. resume_point other f (living other l);
    exits = λ id e f. left id e f;
    blocks = each (λ other g. list_all (λ exchange. names_block exchange.request exchange.answer)
        (exchanges_along t.program g.coroutine g.arguments g.tape) ≡ true)
        (λ other h. ap (λ p. list_all (λ exchange. names_block exchange.request exchange.answer)
        (exchanges_along p (generator_of other s).coroutine (generator_of other s).arguments (generator_of other s).tape)) tapes.program ∙ is.blocks other)
        (ap (list_all (λ exchange. names_block exchange.request exchange.answer)) (exchanges_before t.program coroutine arguments))
        (λ other h. ap (list_all (λ exchange. names_block exchange.request exchange.answer)) (exchanges_before t.program 0 []));
    futures = record { plain = scripts.plain; once = scripts.once; apart = scripts.apart };
    made = record {
      arguments = each (λ other g. list_all (names_made (ids_of t)) g.arguments ≡ true)
          (λ other h. list_up (ids_of s) (ids_of t) up (generator_of other s).arguments (is.made.arguments other))
          (list_up (ids_of s) (ids_of t) up arguments given_) (λ other h. refl);
      tape = each (λ other g. list_all (λ (x : Resumed). sends_made (ids_of t) x.input) g.tape ≡ true)
          (λ other h. tape_up (ids_of s) (ids_of t) up (generator_of other s).tape (is.made.tape other)) refl (λ other h. refl);
      outcomes = λ id value e. names_up (ids_of s) (ids_of t) up value (a.parts.outcomes is.made.outcomes id value e);
    };
    kept = subst (λ extra. AreKept (ids_of t) (added.keeps extra) t.futures t.loop.parts) (sym tapes.extra)
        (kept_on _ _ running s.futures t.futures s.loop.parts t.loop.parts a.parts tapes.scripts (ids_of s) (ids_of t) up (added.keeps s.extra)
        is.kept);
    keys = subst (λ extra. AreKeysKept (added.keeps extra).has_key u.generators) (sym tapes.extra)
        (record {
          known = λ task key e. is.keys.known task key (stood task key e);
          once = λ task other key e f. is.keys.once task other key (stood task key e) (stood other key f);
        });
  }
    where
      asks_serves : (key : ℕ) → Asked ≡ Serving key → ⊥
      asks_serves key e = absurd (cc)

      -- whoever stands at what is added stood so
      stood : (task key : ℕ) → StandsUnder u.generators task key → StandsUnder s.generators task key
      stood task key =
          each (λ other g. g.resume_point ≡ Serving key → StandsUnder s.generators other key) (λ other h e. e)
          (λ e. absurd (asks_serves key e)) (λ other h e. absurd (asks_serves key e)) task

      asking : (other : ℕ) → is_running running other ≡ false
          → ((other < next_task s.loop.parts) × (lives s.loop.parts other ≡ true)) ⊎ (next_task s.loop.parts ≡ other) → IsAsking added u other
      asking other f (inl h) = asking_kept added s u tapes.program other (old_same other h.0) (is.asking other h.1 f)
      asking other f (inr same) = subst (IsAsking added u) same (record {
        asked = request.Pause;
        says = unbegun_asks added (next_task s.loop.parts) coroutine arguments u new_is;
        stands = ap (λ (g : Generator). stands_at g.resume_point request.Pause) new_is;
      })

      unbegun : (other : ℕ) → is_running running other ≡ false → (generator_of other u).tape ≡ []
          → ((other < next_task s.loop.parts) × (lives s.loop.parts other ≡ true)) ⊎ (next_task s.loop.parts ≡ other) → IsUnbegun t.loop.parts other
      unbegun other f e (inl h) =
          unbegun_kept _ _ running s.loop.parts t.loop.parts a.parts other (a.parts.steps other f)
          (is.unbegun other h.1 f (sym (ap (λ (g : Generator). g.tape) (old_same other h.0)) ∙ e))
      unbegun other f e (inr same) = subst (IsUnbegun t.loop.parts) same first

      resume_point : (other : ℕ) → is_running running other ≡ false
          → ((other < next_task s.loop.parts) × (lives s.loop.parts other ≡ true)) ⊎ (next_task s.loop.parts ≡ other) → StandsRightly u other
      resume_point other f (inl h) =
          resume_point_kept added s u tapes.program other (old_same other h.0) _ _ running None None None a tapes.streams (λ id e. refl)
          (is.resume_point other h.1 f)
      resume_point other f (inr same) = subst (StandsRightly u) same (record {
        sleeping = λ tag e. absurd (never e);
        leaving = λ id e. absurd (never' e);
        leaving_now = λ id e. absurd (never' e);
        opened = subst (IsOpenedAt u.streams) (sym (ap (λ (g : Generator). g.resume_point) new_is)) tt;
      })
        where
          never : {tag : ℕ} → (generator_of (next_task s.loop.parts) u).resume_point ≡ Sleeping tag → ⊥
          never {tag} e = asked_sleeps tag (sym (ap (λ (g : Generator). g.resume_point) new_is) ∙ e)

          never' : {id : ℕ} → (generator_of (next_task s.loop.parts) u).resume_point ≡ Leaving id → ⊥
          never' {id} e = asked_leaves id (sym (ap (λ (g : Generator). g.resume_point) new_is) ∙ e)

      -- who stands anywhere is there
      there : (other id : ℕ) → (generator_of other s).resume_point ≡ Leaving id → other < next_task s.loop.parts
      there other id e = at (cases_lt other (next_task s.loop.parts))
        where
          at : (other < next_task s.loop.parts) ⊎ (next_task s.loop.parts ≤ other) → other < next_task s.loop.parts
          at (inl h) = h
          at (inr h) =
              let d = past_none other s (let c = is.generators in omega (arith, h, c)) in absurd (asked_leaves id (sym (ap (λ
              (g : Generator). g.resume_point) d) ∙ e))

      left : (id : ℕ) → IsLeft t id → is_running running (group_of t.loop id).parent ≡ false
          → (generator_of (group_of t.loop id).parent u).resume_point ≡ Leaving id
      left id e f =
          let g = a.groups id in
          let was : IsLeft s id =
          and_both (group_of s.loop id).exiting (not (group_of s.loop id).ended)
          (sym (g.still refl) ∙ and_first (group_of t.loop id).exiting (not (group_of t.loop id).ended) e)
          (sym (ap not (g.ended refl)) ∙ and_second (group_of t.loop id).exiting (not (group_of t.loop id).ended) e) in
          let stood = is.exits id was (sym (ap (is_running running) g.parent) ∙ f) in
          ap (λ k. (generator_of k u).resume_point) g.parent
          ∙ ap (λ (x : Generator). x.resume_point) (old_same (group_of s.loop id).parent (there (group_of s.loop id).parent id stood)) ∙ stood
