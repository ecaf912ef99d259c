-- What requests come to makes allowed steps alone.
use Rattle.std.proofs.Common.{◌≡◌, ℕ, ℤ, pos, negsuc, suc, ◌+◌, ◌<◌, ◌≤◌, ◌==◌, Bool, true, false, List, [], ◌∷◌, ◌++◌, Option, Some, None, length, map, slice_get}
use Rattle.std.proofs.Common.{inr, refl, sym, ap, subst, ◌∙◌, arith, le_refl, length-append}
use Rattle.std.specs.Prelude.{filter, not, if◌then◌else◌}
use Rattle.std.specs.List.{AllByRecursion as Each, list_all}
use Rattle.std.specs.Option.{option_and_then, option_map, option_map_or}
use Rattle.std.proofs.lemmas.List.Elements.{All-from_recursion}
use Rattle.std.proofs.lemmas.Bool.{and_from, and_parts, eq-eqb}
use Rattle.model_value.specs.Value.{Items, Outcome, Value, Values, list_of, no_values, value_then}
use Rattle.model_value.specs.declared.outcome.Outcome.TheVariants.{Value as Returned, Failed, Cancelled}
use Rattle.model_loop.specs.Futures.{future_outcome, is_pending, make_future, next_future}
use Rattle.model_loop.specs.Handles.{deadline}
use Rattle.model_loop.specs.Loop.{Loop}
use Rattle.model_loop.specs.Numbered.{IsNumbered}
use Rattle.model_loop.specs.Owning.{owner_at}
use Rattle.model_loop.specs.Parts.{FutureKind, Many, Parts, Plain}
use Rattle.model_loop.specs.Tasks.{cancelling, next_task}
use Rattle.model_says.specs.Operations.{out_of_range}
use Rattle.model_says.specs.Requests.{bad_argument}
use Rattle.model_machine.specs.Arguments.{as_awaited, as_delay, as_int, as_list}
use Rattle.model_machine.specs.Extra.{Answers, ExtraAnswer, ExtraSaid, ExtraStep, CallsLater, MakesMany, MakesPlain, Raises}
use Rattle.model_machine.specs.Extra.{key_of, made_by, made_by_all, unknown_code}
use Rattle.model_machine.specs.Outcomes.{input_of}
use Rattle.model_machine.specs.Sound.{Ids, IsAwaitable, IsOwned, IsTagOwned, all_made, ids_of, names_made}
use Rattle.model_machine.specs.State.{State}
use Rattle.model_machine.specs.Told.{told_in}
use Rattle.model_reach.specs.Part.{can_draw, key_at, passes, refuses}
use Rattle.law_cancel.proofs.Lookups.{get-push_last}
use Rattle.law_replies.proofs.Counts.{lives_within}
use Rattle.law_runs.specs.Allowed.{AreAllowed, IsAnswerAllowed, IsSaidAllowed, MayCall, owns_at}
use Rattle.law_runs.proofs.Called.{steps_keep}
use Rattle.law_runs.proofs.Steps.{all_after, all_sound}
use Rattle.model_gather.specs.Gathered.{Answered, Argument, Drawn, Gathered, Gathering, Gathers, Shields, Tells, Timed, Waiting, WaitMode, Waits, WaitsFor}
use Rattle.model_gather.specs.Gathered.{as_all_awaited, at_once, distinct, distinct_arguments, drawn_after, draws, futures_of, gather_keeps, gather_part}
use Rattle.model_gather.specs.Gathered.{paired, registered_from, settled_as, values_of}
use Rattle.model_gather.specs.Gather.{Counted, count_all, gather, gather_all}
use Rattle.model_gather.specs.Shield.{shield, shield_open}
use Rattle.model_gather.specs.Wait.{bad_mode, empty_set, handle_if_some, mode_of, one_if_some, rings_after, tag_if_some, wait, wait_all}
use Rattle.model_gather.specs.WaitFor.{bad_timeout, may_time, wait_for, wait_for_all}
use Rattle.model_gather.specs.Serving.{Gather, OfGather, OfShield, OfWait, OfWaitFor, Request, Shield, Wait, WaitFor, Wanted, asked, both, gather_means}
use Rattle.model_gather.specs.Serving.{requested, serve, served}
use Rattle.law_gather.proofs.Awaited.{AreThere, IfThere, IsThere, all_there, distinct_each, one_there}
use Rattle.law_gather.proofs.Changing.{AreOn, Fits, IsMyTag, call_more, key_new, on_allowed, registered_on, says_allowed, settled_on, tells_fit, unnamed}
use Rattle.law_gather.proofs.Falling.{IsNone, passes_once}
use Rattle.law_gather.proofs.Fresh.{allowed_left, counted_tags, later_owned, made_then}
use Rattle.law_gather.proofs.Lists.{each_append, each_filter, each_on, each_true}
use Rattle.law_gather.proofs.Made.{count_keeps, counts_made}

module _ (running : Option ℕ) (s : State Gathered) (may : MayCall gather_means running s) where
  abbrev There : ℕ → Type 0
  There = IsThere gather_means running s may

  -- ---- a future of its own is made first
  record MadeFirst (first : ExtraStep) : Type 0 where
    may_make : AreAllowed (owns_at (ids_of s) (gather_keeps s.extra) s.loop.parts) (first ∷ []) s.loop
    more : next_future s.loop.parts ≤ next_future (made_by first s.loop).parts
    owned : IsOwned (made_by first s.loop).parts (next_future s.loop.parts)

  module _ (first : ExtraStep) (it : MadeFirst first) (rest : List ExtraStep)
      (on : AreOn (ids_of s) (next_future s.loop.parts) (next_future s.loop.parts) rest) where
    abbrev q : Parts
    q = (made_by_all rest (made_by first s.loop)).parts

    rest_allowed : AreAllowed (owns_at (ids_of s) (gather_keeps s.extra) s.loop.parts) rest (made_by first s.loop)
    rest_allowed =
        on_allowed (owns_at (ids_of s) (gather_keeps s.extra) s.loop.parts) (next_future s.loop.parts) (next_future s.loop.parts)
        (inr (le_refl _)) rest (made_by first s.loop) (record { more = it.more; owned = it.owned }) on

    first_allowed : AreAllowed (owns_at (ids_of s) (gather_keeps s.extra) s.loop.parts) (first ∷ rest) s.loop
    first_allowed = (it.may_make.0, rest_allowed)

    -- what could be awaited can be still
    still : (ids : List ℕ) → Each There ids → Each (IsAwaitable s.futures q) ids
    still ids these =
        (steps_keep {ids = ids_of s} (owns_at (ids_of s) (gather_keeps s.extra) s.loop.parts)
        (record { tasks = []; futures = ids; own = []; tags = []; values = []; has_key = λ key. false }) s.futures (first ∷ rest) s.loop first_allowed
        (record {
          tasks = tt;
          awaitable = each_on There (IsAwaitable s.futures s.loop.parts) (λ x h. h.0) ids these;
          own = tt;
          apart = tt;
          tags = tt;
          values = refl;
        })).awaitable

    own_still : IsOwned q (next_future s.loop.parts)
    own_still =
        (steps_keep {ids = ids_of s} (owns_at (ids_of s) (gather_keeps s.extra) s.loop.parts)
        (record { tasks = []; futures = []; own = next_future s.loop.parts ∷ []; tags = []; values = []; has_key = λ key. false }) s.futures rest (made_by first s.loop)
        rest_allowed (record {
          tasks = tt;
          awaitable = tt;
          own = (it.owned, tt);
          apart = (unnamed running s may, tt);
          tags = tt;
          values = refl;
        })).own.0

  made_longer : (kind : FutureKind) → next_future (make_future kind s.loop.parts) ≡ next_future s.loop.parts + 1
  made_longer kind = length-append s.loop.parts.futures (record { kind = kind; outcome = None; callbacks = [] } ∷ [])

  made_owned : (kind : FutureKind) → owner_at (Some (record { kind = kind; outcome = None; callbacks = [] })) ≡ None
      → IsOwned (make_future kind s.loop.parts) (next_future s.loop.parts)
  made_owned kind none = (
    let n = made_longer kind in omega (arith, n),
    ap owner_at (get-push_last s.loop.parts.futures (record { kind = kind; outcome = None; callbacks = [] })) ∙ none,
  )

  plain_first : MadeFirst MakesPlain
  plain_first = record {
    may_make = (tt, tt);
    more = let n = made_longer Plain in omega (arith, n);
    owned = made_owned Plain refl;
  }

  -- ---- gather
  module _ (as_items : Bool) (awaited members : List ℕ) (there : Each There awaited) (those : Each There members) where
    many_first : MadeFirst (MakesMany members)
    many_first = record {
      may_make = (
        All-from_recursion (λ member. member < next_future s.loop.parts) members
            (each_on There (λ member. member < next_future s.loop.parts) (λ x h. h.1) members those),
        tt,
      );
      more = let n = made_longer (Many members false) in omega (arith, n);
      owned = made_owned (Many members false) refl;
    }

    abbrev first : Gathering
    first = record { outer = next_future s.loop.parts; awaited = awaited; as_items = as_items; left = length members }

    abbrev open_ : List ℕ
    open_ = filter (is_pending s.loop.parts) members

    abbrev done : List ℕ
    done = filter (λ id. not (is_pending s.loop.parts id)) members

    abbrev counted : Counted
    counted = count_all s.loop.parts false done first

    abbrev steps : List ExtraStep
    steps = registered_from gather_part (suc (length s.extra.drawn)) open_ ++ settled_as counted.outcome (next_future s.loop.parts)

    open_there : Each There open_
    open_there = each_filter There (is_pending s.loop.parts) members those

    steps_on : AreOn (ids_of s) (next_future s.loop.parts) (next_future s.loop.parts) steps
    steps_on =
        registered_on (ids_of s) (next_future s.loop.parts) (next_future s.loop.parts) gather_part (suc (length s.extra.drawn)) open_
        (settled_as counted.outcome (next_future s.loop.parts))
        (each_on There (λ id. id < next_future s.loop.parts) (λ x h. h.1) open_ open_there)
        (settled_on (ids_of s) (next_future s.loop.parts) (next_future s.loop.parts) counted.outcome
        (counts_made (ids_of s) s.loop.parts may.outcomes false done first))

    abbrev after_all : Parts
    after_all = q (MakesMany members) many_first steps steps_on

    entry_fits : Fits running s may after_all (Gathers counted.now)
    entry_fits = record {
      tasks = tt;
      futures = subst (Each (IsAwaitable s.futures after_all)) (sym (count_keeps s.loop.parts false done first).0)
          (still (MakesMany members) many_first steps steps_on awaited there);
      own = (subst (IsOwned after_all) (sym outer_is) (own_still (MakesMany members) many_first steps steps_on), tt);
      apart = (subst (λ id. (place : ℕ) → slice_get s.futures place ≡ Some id → ⊥) (sym outer_is) (unnamed running s may), tt);
      mine = (inr (let e = outer_is in omega (arith, e)), tt);
      tags = tt;
      my_tags = tt;
      values = tt;
    }
      where
        outer_is : counted.now.outer ≡ next_future s.loop.parts
        outer_is = (count_keeps s.loop.parts false done first).1

    abbrev more : List Drawn
    more = Gathers counted.now ∷ map (Tells (length s.extra.drawn)) open_

    gather_all_said : IsSaidAllowed gather_means None (gather_all as_items awaited members s.loop.parts s.extra) s
    gather_all_said = record {
      call = call_more running s may (MakesMany members ∷ steps) (first_allowed (MakesMany members) many_first steps steps_on) more
          (entry_fits, tells_fit running s may after_all (length s.extra.drawn) open_ (still (MakesMany members) many_first steps steps_on open_ open_there));
      answer = (own_still (MakesMany members) many_first steps steps_on).0;
      key = λ key e. key_new running s may more (omega arith) key e;
    }

  -- ---- a request that is answered as it is asked
  at_once_said : (answer : ExtraAnswer) → ((t : State Gathered) → ids_of t ≡ ids_of s → IsAnswerAllowed answer t) → IsNone (key_of answer)
      → IsSaidAllowed gather_means None (at_once answer s.extra) s
  at_once_said answer ok none = at (can_draw gather_part (length s.extra.drawn) 1)
    where
      at : (b : Bool) → IsSaidAllowed gather_means None
          (if b then record { call = record { state = drawn_after (Answered ∷ []) s.extra; steps = [] }; answer = answer } else refuses out_of_range s.extra) s
      at true = record {
        call = call_more running s may [] tt (Answered ∷ [])
            (record { tasks = tt; futures = tt; own = tt; apart = tt; mine = tt; tags = tt; my_tags = tt; values = tt }, tt);
        answer = ok _ refl;
        key = λ key e. absurd (subst IsNone e none);
      }
      at false = says_allowed running s may None (Raises out_of_range) tt tt

  -- or not, where so many keys can't be drawn
  drawn_said : (more : ℕ) (said : ExtraSaid Gathered) → IsSaidAllowed gather_means None said s → IsSaidAllowed gather_means None (draws more said s.extra) s
  drawn_said more said ok = at (can_draw gather_part (length s.extra.drawn) more)
    where
      at : (b : Bool) → IsSaidAllowed gather_means None (if b then said else refuses out_of_range s.extra) s
      at true = ok
      at false = says_allowed running s may None (Raises out_of_range) tt tt

  gather_said : (as_items : Bool) (awaited : List ℕ) → Each There awaited → IsSaidAllowed gather_means None (gather as_items awaited s.loop.parts s.extra) s
  gather_said as_items [] there = at_once_said (Answers (Items no_values)) (λ t e. refl) tt
  gather_said as_items (id ∷ ids) there =
      drawn_said _ (gather_all as_items (id ∷ ids) (distinct (id ∷ ids)) s.loop.parts s.extra)
      (gather_all_said as_items (id ∷ ids) (distinct (id ∷ ids)) there (distinct_each There (id ∷ ids) there))

  -- ---- wait
  -- its future was made, and its value names what was
  pub record IsArgument (it : Argument) : Type 0 where
    pub there : IsThere gather_means running s may it.future
    pub made : names_made (ids_of s) it.value ≡ true

  arguments_there : (arguments : List Argument) → Each IsArgument arguments → Each There (futures_of arguments)
  arguments_there [] a = tt
  arguments_there (it ∷ others) a = (a.0.there, arguments_there others a.1)

  arguments_made : (arguments : List Argument) → Each IsArgument arguments
      → list_all (names_made (ids_of s)) (values_of arguments) ≡ true
  arguments_made [] a = refl
  arguments_made (it ∷ others) a = and_from (names_made (ids_of s) it.value) _ a.0.made (arguments_made others a.1)

  distinct_arguments_each : (arguments : List Argument) → Each IsArgument arguments → Each IsArgument (distinct_arguments arguments)
  distinct_arguments_each [] a = tt
  distinct_arguments_each (it ∷ others) a = (
    a.0,
    each_filter IsArgument (λ (other : Argument). not (other.future == it.future)) (distinct_arguments others)
        (distinct_arguments_each others a.1),
  )

  rings_on : (n : Ids) (outer bound : ℕ) (delay : Option ℤ) (key : ℕ) (p : Parts) → AreOn n outer bound (rings_after delay key p)
  rings_on n outer bound None key p = tt
  rings_on n outer bound (Some (pos delay)) key p = tt
  rings_on n outer bound (Some (negsuc before)) key p = tt

  -- a timer's handle keeps nothing
  handle_fits : (r : Parts) (delay : Option ℤ) (place : ℕ) → Each (Fits running s may r) (handle_if_some delay place)
  handle_fits r None place = tt
  handle_fits r (Some delay) place =
      (record { tasks = tt; futures = tt; own = tt; apart = tt; mine = tt; tags = tt; my_tags = tt; values = tt }, tt)

  -- the timer's tag is new, where such steps come before it and it is the next tag then
  abbrev tag_list : Option ℤ → ℕ → List ℕ
  tag_list delay tag = option_map_or (λ (tag : ℕ). tag ∷ []) (tag_if_some delay tag) []

  front_sound : (front : List ExtraStep) → AreAllowed (owns_at (ids_of s) (gather_keeps s.extra) s.loop.parts) front s.loop
      → IsNumbered (made_by_all front s.loop).parts
  front_sound front ok = (all_sound running (told_in s.events) (owns_at (ids_of s) (gather_keeps s.extra) s.loop.parts) front s.loop ok may.loop).numbered

  timer_owned : (front : List ExtraStep) → (tag : ℕ) → (made_by_all front s.loop).parts.next_tag ≡ tag
      → AreAllowed (owns_at (ids_of s) (gather_keeps s.extra) s.loop.parts) front s.loop → (delay : Option ℤ) (key : ℕ) (p : Parts)
      → Each (IsTagOwned (made_by_all (front ++ rings_after delay key p) s.loop).parts) (tag_list delay tag)
  timer_owned front tag e ok None key p = tt
  timer_owned front tag e ok (Some (pos delay)) key p = (at (deadline p.time (pos delay)), tt)
    where
      at : (when : ℕ) → IsTagOwned (made_by_all (front ++ CallsLater when key ∷ []) s.loop).parts tag
      at when = subst (λ (l : Loop). IsTagOwned l.parts tag) (sym (made_then front (CallsLater when key ∷ []) s.loop))
          (subst (IsTagOwned (made_by (CallsLater when key) (made_by_all front s.loop)).parts) e
          (later_owned when key (made_by_all front s.loop).parts (front_sound front ok)))
  timer_owned front tag e ok (Some (negsuc before)) key p = (at p.time, tt)
    where
      at : (when : ℕ) → IsTagOwned (made_by_all (front ++ CallsLater when key ∷ []) s.loop).parts tag
      at when = subst (λ (l : Loop). IsTagOwned l.parts tag) (sym (made_then front (CallsLater when key ∷ []) s.loop))
          (subst (IsTagOwned (made_by (CallsLater when key) (made_by_all front s.loop)).parts) e
          (later_owned when key (made_by_all front s.loop).parts (front_sound front ok)))

  timer_mine : (delay : Option ℤ) (tag : ℕ) → s.loop.parts.next_tag ≤ tag → Each (IsMyTag running s may) (tag_list delay tag)
  timer_mine None tag h = tt
  timer_mine (Some delay) tag h = (inr h, tt)

  module _ (over : WaitMode) (delay : Option ℤ) (arguments : List Argument) (those : Each IsArgument arguments) where
    abbrev waited : List ℕ
    waited = futures_of arguments

    abbrev wait_done : ℕ
    wait_done = length (filter (λ id. not (is_pending s.loop.parts id)) waited)

    abbrev ring_key : ℕ
    ring_key = key_at gather_part (suc (length s.extra.drawn) + length waited)

    abbrev handles : List ExtraStep
    handles = registered_from gather_part (suc (length s.extra.drawn)) waited

    abbrev wait_steps : List ExtraStep
    wait_steps = handles ++ rings_after delay ring_key s.loop.parts

    waited_there : Each There waited
    waited_there = arguments_there arguments those

    waited_within : Each (λ id. id < next_future s.loop.parts) waited
    waited_within = each_on There (λ id. id < next_future s.loop.parts) (λ x h. h.1) waited waited_there

    wait_on : AreOn (ids_of s) (next_future s.loop.parts) (next_future s.loop.parts) wait_steps
    wait_on =
        registered_on (ids_of s) (next_future s.loop.parts) (next_future s.loop.parts) gather_part (suc (length s.extra.drawn)) waited
        (rings_after delay ring_key s.loop.parts) waited_within
        (rings_on (ids_of s) (next_future s.loop.parts) (next_future s.loop.parts) delay ring_key s.loop.parts)

    abbrev wait_after : Parts
    wait_after = q MakesPlain plain_first wait_steps wait_on

    wait_allowed : AreAllowed (owns_at (ids_of s) (gather_keeps s.extra) s.loop.parts) (MakesPlain ∷ wait_steps) s.loop
    wait_allowed = first_allowed MakesPlain plain_first wait_steps wait_on

    abbrev wait_tag : ℕ
    wait_tag = s.loop.parts.next_tag + wait_done

    abbrev entry : Waiting
    entry = record {
      on = next_future s.loop.parts;
      arguments = arguments;
      mode = over;
      left = length waited;
      timer = tag_if_some delay wait_tag;
    }

    wait_fits : Fits running s may wait_after (Waits entry)
    wait_fits = record {
      tasks = tt;
      futures = still MakesPlain plain_first wait_steps wait_on waited waited_there;
      own = (own_still MakesPlain plain_first wait_steps wait_on, tt);
      apart = (unnamed running s may, tt);
      mine = (inr (le_refl _), tt);
      tags =
          timer_owned (MakesPlain ∷ handles) wait_tag
          (counted_tags Plain gather_part (suc (length s.extra.drawn)) waited s.loop (made_by MakesPlain s.loop) refl waited_within)
          (allowed_left (owns_at (ids_of s) (gather_keeps s.extra) s.loop.parts) (MakesPlain ∷ handles)
          (rings_after delay ring_key s.loop.parts) s.loop wait_allowed)
          delay ring_key s.loop.parts;
      my_tags = timer_mine delay wait_tag (omega arith);
      values = each_true (names_made (ids_of s)) (values_of arguments) (arguments_made arguments those);
    }

    abbrev wait_more : List Drawn
    wait_more = Waits entry ∷ map (Tells (length s.extra.drawn)) waited ++ handle_if_some delay (length s.extra.drawn)

    wait_all_said : IsSaidAllowed gather_means None (wait_all over delay arguments s.loop.parts s.extra) s
    wait_all_said = record {
      call = call_more running s may (MakesPlain ∷ wait_steps) wait_allowed wait_more (
        wait_fits,
        each_append (Fits running s may wait_after) (map (Tells (length s.extra.drawn)) waited) (handle_if_some delay (length s.extra.drawn))
            (tells_fit running s may wait_after (length s.extra.drawn) waited (still MakesPlain plain_first wait_steps wait_on waited waited_there))
            (handle_fits wait_after delay (length s.extra.drawn)),
      );
      answer = (own_still MakesPlain plain_first wait_steps wait_on).0;
      key = λ key e. key_new running s may wait_more (omega arith) key e;
    }

  wait_said : (mode : Option WaitMode) (delay : Option ℤ) (arguments : List Argument) → Each IsArgument arguments
      → IsSaidAllowed gather_means None (wait mode delay arguments s.loop.parts s.extra) s
  wait_said mode delay [] those = at_once_said (Raises empty_set) (λ t e. tt) tt
  wait_said mode delay (it ∷ others) those = at mode
    where
      at : (o : Option WaitMode) → IsSaidAllowed gather_means None (elim o [
        | None ↦ at_once (Raises bad_mode) s.extra
        | Some over ↦ draws (1 + length (distinct_arguments (it ∷ others)) + one_if_some delay)
            (wait_all over delay (distinct_arguments (it ∷ others)) s.loop.parts s.extra) s.extra
      ]) s
      at None = at_once_said (Raises bad_mode) (λ t e. tt) tt
      at (Some over) =
          drawn_said _ (wait_all over delay (distinct_arguments (it ∷ others)) s.loop.parts s.extra)
          (wait_all_said over delay (distinct_arguments (it ∷ others)) (distinct_arguments_each (it ∷ others) those))

  -- ---- shield
  module _ (inner : ℕ) (there : There inner) where
    abbrev shield_steps : List ExtraStep
    shield_steps = registered_from gather_part (suc (length s.extra.drawn)) (inner ∷ [])

    shield_on : AreOn (ids_of s) (next_future s.loop.parts) (next_future s.loop.parts) shield_steps
    shield_on = (there.1, tt)

    abbrev shield_after : Parts
    shield_after = q MakesPlain plain_first shield_steps shield_on

    abbrev shield_more : List Drawn
    shield_more = Shields (next_future s.loop.parts) ∷ Tells (length s.extra.drawn) inner ∷ []

    shield_open_said : IsSaidAllowed gather_means None (shield_open inner s.loop.parts s.extra) s
    shield_open_said = record {
      call = call_more running s may (MakesPlain ∷ shield_steps) (first_allowed MakesPlain plain_first shield_steps shield_on) shield_more (
        record {
          tasks = tt;
          futures = tt;
          own = (own_still MakesPlain plain_first shield_steps shield_on, tt);
          apart = (unnamed running s may, tt);
          mine = (inr (le_refl _), tt);
          tags = tt;
          my_tags = tt;
          values = tt;
        },
        tells_fit running s may shield_after (length s.extra.drawn) (inner ∷ [])
            (still MakesPlain plain_first shield_steps shield_on (inner ∷ []) (there, tt)),
      );
      answer = (own_still MakesPlain plain_first shield_steps shield_on).0;
      key = λ key e. key_new running s may shield_more (omega arith) key e;
    }

    passes_made : (outcome : Outcome) → future_outcome s.loop.parts inner ≡ Some outcome → (t : State Gathered) → ids_of t ≡ ids_of s
        → IsAnswerAllowed (passes (input_of outcome)) t
    passes_made (Returned value) e t same = ap (λ ids. names_made ids value) same ∙ may.outcomes inner value e
    passes_made (Failed fault) e t same = tt
    passes_made Cancelled e t same = tt

    shield_said : IsSaidAllowed gather_means None (shield inner s.loop.parts s.extra) s
    shield_said = at (future_outcome s.loop.parts inner) refl
      where
        at : (o : Option Outcome) → future_outcome s.loop.parts inner ≡ o → IsSaidAllowed gather_means None (elim o [
          | Some outcome ↦ at_once (passes (input_of outcome)) s.extra
          | None ↦ draws 2 (shield_open inner s.loop.parts s.extra) s.extra
        ]) s
        at (Some outcome) e = at_once_said (passes (input_of outcome)) (passes_made outcome e) (passes_once (input_of outcome))
        at None e = drawn_said 2 (shield_open inner s.loop.parts s.extra) shield_open_said

  -- ---- wait_for
  module _ (task : ℕ) (lives : task < next_task s.loop.parts) (on : ℕ) (there : There on) (delay : Option ℤ) where
    abbrev timed_key : ℕ
    timed_key = key_at gather_part (suc (length s.extra.drawn))

    abbrev timed_steps : List ExtraStep
    timed_steps = rings_after delay timed_key s.loop.parts

    timed_allowed : (o : Option ℤ) → AreAllowed (owns_at (ids_of s) (gather_keeps s.extra) s.loop.parts) (rings_after o timed_key s.loop.parts) s.loop
    timed_allowed None = tt
    timed_allowed (Some (pos delay)) = (tt, tt)
    timed_allowed (Some (negsuc before)) = (tt, tt)

    abbrev timed_more : List Drawn
    timed_more =
        WaitsFor (record { task = task; stored = cancelling s.loop.parts task; timer = tag_if_some delay s.loop.parts.next_tag; state = Timed })
        ∷ handle_if_some delay (length s.extra.drawn)

    tasks_same : next_task (made_by_all timed_steps s.loop).parts ≡ next_task s.loop.parts
    tasks_same =
        (all_after None (owns_at (ids_of s) (gather_keeps s.extra) s.loop.parts) timed_steps s.loop (timed_allowed delay)).parts.same refl

    futures_same : (o : Option ℤ) → next_future (made_by_all (rings_after o timed_key s.loop.parts) s.loop).parts ≡ next_future s.loop.parts
    futures_same None = refl
    futures_same (Some (pos delay)) = refl
    futures_same (Some (negsuc before)) = refl

    wait_for_all_said : IsSaidAllowed gather_means None (wait_for_all task on delay s.loop.parts s.extra) s
    wait_for_all_said = record {
      call = call_more running s may timed_steps (timed_allowed delay) timed_more (
        record {
          tasks = (let e = tasks_same in omega (arith, lives, e), tt);
          futures = tt;
          own = tt;
          apart = tt;
          mine = tt;
          tags = timer_owned [] s.loop.parts.next_tag refl tt delay timed_key s.loop.parts;
          my_tags = timer_mine delay s.loop.parts.next_tag (le_refl _);
          values = tt;
        },
        handle_fits (made_by_all timed_steps s.loop).parts delay (length s.extra.drawn),
      );
      answer = let e = futures_same delay in let w = there.1 in omega (arith, e, w);
      key = λ key e. key_new running s may timed_more (omega arith) key e;
    }

    wait_for_said : IsSaidAllowed gather_means None (wait_for task on delay s.loop.parts s.extra) s
    wait_for_said = at (may_time delay)
      where
        at : (b : Bool) → IsSaidAllowed gather_means None
            (if b then draws (1 + one_if_some delay) (wait_for_all task on delay s.loop.parts s.extra) s.extra else at_once (Raises bad_timeout) s.extra) s
        at true = drawn_said _ (wait_for_all task on delay s.loop.parts s.extra) wait_for_all_said
        at false = at_once_said (Raises bad_timeout) (λ t e. tt) tt

  -- ---- any of them
  -- what is awaited may be, and was made
  abbrev pub IsRequest : Request → Type 0
  IsRequest (OfGather as_items awaited) = Each (IsThere gather_means running s may) awaited
  IsRequest (OfWait mode delay arguments) = Each IsArgument arguments
  IsRequest (OfShield inner) = IsThere gather_means running s may inner
  IsRequest (OfWaitFor on delay) = IsThere gather_means running s may on

  abbrev pub IfRequest : Option Request → Type 0
  IfRequest None = Unit {0}
  IfRequest (Some it) = IsRequest it

  serve_said : (it : Request) (task : ℕ) → task < next_task s.loop.parts → IsRequest it
      → IsSaidAllowed gather_means None (serve it task s.loop.parts s.extra) s
  serve_said (OfGather as_items awaited) task lives is = gather_said as_items awaited is
  serve_said (OfWait mode delay arguments) task lives is = wait_said mode delay arguments is
  serve_said (OfShield inner) task lives is = shield_said inner is
  serve_said (OfWaitFor on delay) task lives is = wait_for_said task lives on is delay

  pub served_said : (o : Option Request) (task : ℕ) → task < next_task s.loop.parts → IfRequest o
      → IsSaidAllowed gather_means None (served o task s.loop.parts s.extra) s
  served_said None task lives is = says_allowed running s may None (Raises bad_argument) tt tt
  served_said (Some it) task lives is = serve_said it task lives is

  -- ---- where the list has the request's shape
  pairs_there : (xs : List Value) (ids : List ℕ) → list_all (names_made (ids_of s)) xs ≡ true → Each There ids
      → Each IsArgument (paired xs ids)
  pairs_there [] ids made there = tt
  pairs_there (x ∷ xs) [] made there = tt
  pairs_there (x ∷ xs) (id ∷ ids) made there =
      let b = and_parts (names_made (ids_of s) x) (list_all (names_made (ids_of s)) xs) made in
      (record { there = there.0; made = b.0 }, pairs_there xs ids b.1 there.1)

  rows_made : (rows : Values) → all_made (ids_of s) rows ≡ true
      → list_all (names_made (ids_of s)) (list_of rows) ≡ true
  rows_made no_values made = refl
  rows_made (value_then x others) made =
      let b = and_parts (names_made (ids_of s) x) (all_made (ids_of s) others) made in
      and_from (names_made (ids_of s) x) _ b.0 (rows_made others b.1)

  items_made : (x : Value) (items : List Value) → as_list x ≡ Some items → names_made (ids_of s) x ≡ true
      → list_all (names_made (ids_of s)) items ≡ true
  items_made (Items rows) items e made = subst (λ xs. list_all (names_made (ids_of s)) xs ≡ true) (same e) (rows_made rows made)
    where
      same : {A : Type 0} {x y : A} → Some x ≡ Some y → x ≡ y
      same e = cc
  items_made _ items e made = absurd (cc)

  wait_there : (mode delay x : Value) → names_made (ids_of s) x ≡ true
      → IfRequest (requested s Wait (mode ∷ delay ∷ x ∷ []))
  wait_there mode delay x made = listed (as_list x) refl
    where
      shaped : (items : List Value) (ids : List ℕ) → Each IsArgument (paired items ids) → (a : Option ℤ) (b : Option (Option ℤ))
          → IfRequest (both (λ number time. OfWait (mode_of number) time (paired items ids)) a b)
      shaped items ids is None b = tt
      shaped items ids is (Some number) None = tt
      shaped items ids is (Some number) (Some time) = is

      awaited : (items : List Value) → list_all (names_made (ids_of s)) items ≡ true → (o : Option (List ℕ))
          → AreThere gather_means running s may o
          → IfRequest (option_and_then (λ ids. both (λ number time. OfWait (mode_of number) time (paired items ids)) (as_int mode) (as_delay delay)) o)
      awaited items all None there = tt
      awaited items all (Some ids) there = shaped items ids (pairs_there items ids all there) (as_int mode) (as_delay delay)

      listed : (o : Option (List Value)) → as_list x ≡ o
          → IfRequest (option_and_then (λ items.
          option_and_then (λ ids. both (λ number time. OfWait (mode_of number) time (paired items ids)) (as_int mode) (as_delay delay)) (as_all_awaited s items)) o)
      listed None e = tt
      listed (Some items) e =
          let all = items_made x items e made in
          awaited items all (as_all_awaited s items) (all_there gather_means running s may items all)

  gather_there : (as_items : Bool) (o : Option (List ℕ)) → AreThere gather_means running s may o → IfRequest (option_map (OfGather as_items) o)
  gather_there as_items None there = tt
  gather_there as_items (Some awaited) there = there

  shield_there : (o : Option ℕ) → IfThere gather_means running s may o → IfRequest (option_map OfShield o)
  shield_there None there = tt
  shield_there (Some inner) there = there

  wait_for_there : (o : Option ℕ) → IfThere gather_means running s may o → (delay : Option (Option ℤ)) → IfRequest (both OfWaitFor o delay)
  wait_for_there None there delay = tt
  wait_for_there (Some on) there None = tt
  wait_for_there (Some on) there (Some delay) = there

  pub requested_there : (wanted : Wanted) (xs : List Value) → list_all (names_made (ids_of s)) xs ≡ true
      → IfRequest (requested s wanted xs)
  requested_there (Gather as_items) xs made = gather_there as_items (as_all_awaited s xs) (all_there gather_means running s may xs made)
  requested_there Wait (mode ∷ delay ∷ x ∷ []) made =
      wait_there mode delay x (and_parts _ _ (and_parts _ _ (and_parts _ _ made).1).1).0
  requested_there Shield (x ∷ []) made = shield_there (as_awaited s x) (one_there gather_means running s may x (and_parts _ _ made).0)
  requested_there WaitFor (x ∷ delay ∷ []) made =
      wait_for_there (as_awaited s x) (one_there gather_means running s may x (and_parts _ _ made).0) (as_delay delay)
  requested_there Wait _ made = tt
  requested_there Shield _ made = tt
  requested_there WaitFor _ made = tt

pub asked_said : (o : Option Wanted) (task : ℕ) (code : ℤ) (xs : List Value) (s : State Gathered) (may : MayCall gather_means (Some task) s)
    → list_all (names_made (ids_of s)) xs ≡ true → IsSaidAllowed gather_means None (asked o task code xs s) s
asked_said None task code xs s may made = says_allowed (Some task) s may None (Raises (unknown_code code)) tt tt
asked_said (Some wanted) task code xs s may made =
    served_said (Some task) s may (requested s wanted xs) task
    (lives_within s.loop.parts task (may.loop.parts.runs task (eq-eqb task task refl)))
    (requested_there (Some task) s may wanted xs made)
