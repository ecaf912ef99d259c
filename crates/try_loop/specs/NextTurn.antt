-- What is added: `extra(1, list)` is answered at once; `extra(2, list)` waits until the next turn, `extra(10, list)` does so five
-- hundred times, and `extra(11, list)` waits for a future that stands for another one.
use Rattle.std.specs.Prelude.{◌≡◌, ℕ, zero, suc, ◌+◌, ◌<◌, ◌≤◌, ℤ, pos, true, false, List, [], ◌∷◌, ◌++◌, Option, Some, None, length, nat_lt, slice_get}
use Rattle.std.specs.Prelude.{slice_set, is_some, refl}
use Rattle.std.specs.List.{All, AllByRecursion as Each}
use Rattle.std.specs.Option.{option_map_or}
use Rattle.std.proofs.Common.{◌∙◌, sym, ap, subst, get_or, inl, inr, arith, le_refl, length-append, length-set}
use Rattle.std.proofs.lemmas.Bool.{false≢true, le-ltb, lt-ltb, ltb-true}
use Rattle.std.proofs.lemmas.Option.{none-some}
use Rattle.model_value.specs.Input.{Input}
use Rattle.model_value.specs.Value.{Value, Int}
use Rattle.model_value.specs.declared.action.Action.TheVariants.{Extra as Acts}
use Rattle.model_value.specs.declared.input.Input.TheVariants.{Send, Throw}
use Rattle.model_value.specs.declared.outcome.Outcome.TheVariants.{Value as Returned}
use Rattle.model_loop.specs.Futures.{next_future, outcome_at}
use Rattle.model_loop.specs.Owning.{owner_at}
use Rattle.model_loop.specs.Parts as parts
use Rattle.model_loop.specs.Parts.{Parts, Plain, Many}
use Rattle.model_machine.specs.Extra.{Extra, ExtraAnswer, Answers, Raises, Waits, ExtraCall, ExtraSaid, ExtraStep, MakesPlain, MakesMany, Settles}
use Rattle.model_machine.specs.Extra.{CallsSoon, WakesFall, Keeping, called, is_woken_at_once, key_of, made_by_all, unknown_code}
use Rattle.model_machine.specs.Sound.{Ids, IsNoneOf, IsOwned, ids_of, names_made}
use Rattle.model_machine.specs.State.{State}
use Rattle.law_cancel.proofs.Lookups.{get-push_last}
use Rattle.law_runs.specs.Allowed.{AreAllowed, IsAnswerAllowed, IsCallAllowed, IsOwn as IsMine, IsSaidAllowed, MakesAllowedSteps, MayCall, owns_at}
use Rattle.law_runs.proofs.Called.{steps_keep}
use Rattle.law_steps.proofs.CancelSound.{plain_within}
use Rattle.aio_ready.specs.Queue as queue
use Rattle.aio_task.specs.Keeps.{NameMap}
use Rattle.aio_task.specs.View.{View}
use Rattle.aio_extra.specs.Added.{Added, GoesBeside}
use Rattle.aio_extra.specs.declared.asked.Asked.{Asked}
use Rattle.aio_extra.specs.declared.asked.Asked.TheVariants.{Answer, Wait as WaitsFor}
use Rattle.try_loop.specs.Wanted.{left_at, wanted_by, told}
use Rattle.try_loop.specs.declared.next_turn.NextTurn.{NextTurn}
use Rattle.try_loop.specs.declared.next_turn.Wanted as wanted
use Rattle.try_loop.specs.declared.next_turn.Wanted.TheVariants.{Seven, Wait, Waits as WaitsOften, Several, Nothing}

-- ---- what its calls mean
-- The machine keeps the futures that are waited for, each under the key that is its place, which its handle resolves; and how often
-- each request waits again.
pub record Waiting : Type 0 where
  pub made : List ℕ
  pub left : List ℕ

abbrev pub first_waiting : Waiting
first_waiting = record { made = []; left = [] }

-- nothing changes
abbrev pub stays : State Waiting → ExtraCall Waiting
stays s = record { state = s.extra; steps = [] }

abbrev pub only_says : ExtraAnswer → State Waiting → ExtraSaid Waiting
only_says answer s = record { call = stays s; answer = answer }

-- a new request waits for this future, and again so many times; a handle is called soon that will resolve it
abbrev pub grown : (on again : ℕ) → Waiting → Waiting
grown on again kept = record { made = kept.made ++ on ∷ []; left = kept.left ++ again ∷ [] }

abbrev pub waits : (again : ℕ) → State Waiting → ExtraSaid Waiting
waits again s = record {
  call = record {
    state = grown (next_future s.loop.parts) again s.extra;
    steps = MakesPlain ∷ CallsSoon (length s.extra.made) ∷ [];
  };
  answer = Waits (next_future s.loop.parts) (length s.extra.made);
}

-- of a future that stands for another one, which nobody settles
abbrev pub waits_for_several : State Waiting → ExtraSaid Waiting
waits_for_several s = record {
  call = record {
    state = grown (next_future s.loop.parts + 1) 0 s.extra;
    steps = MakesPlain ∷ MakesMany (next_future s.loop.parts ∷ []) ∷ CallsSoon (length s.extra.made) ∷ [];
  };
  answer = Waits (next_future s.loop.parts + 1) (length s.extra.made);
}

abbrev pub asked_for : wanted.Wanted → ℤ → State Waiting → ExtraSaid Waiting
asked_for Seven code s = only_says (Answers (Int (pos 7))) s
asked_for Wait code s = waits 0 s
asked_for WaitsOften code s = waits 499 s
asked_for Several code s = waits_for_several s
asked_for Nothing code s = only_says (Raises (unknown_code code)) s

-- a new future stands in the place of the one that is done
abbrev pub again_at : (key more : ℕ) → (on : ℕ) → Waiting → Waiting
again_at key more on kept = record { made = slice_set kept.made key on; left = slice_set kept.left key more }

abbrev pub waits_again : (key more : ℕ) → State Waiting → ExtraSaid Waiting
waits_again key more s = record {
  call = record {
    state = again_at key more (next_future s.loop.parts) s.extra;
    steps = MakesPlain ∷ CallsSoon key ∷ [];
  };
  answer = Waits (next_future s.loop.parts) key;
}

-- what the future was resolved with, unless it is waited again
abbrev pub heard_by : (left key : ℕ) → Value → State Waiting → ExtraSaid Waiting
heard_by zero key value s = only_says (Answers (told value)) s
heard_by (suc more) key value s = waits_again key more s

abbrev pub woken_by : (key : ℕ) → Input → State Waiting → ExtraSaid Waiting
woken_by key (Send value) s = heard_by (left_at s.extra.left key) key value s
woken_by key (Throw fault) s = only_says (Raises fault) s

-- a future of its own gets the number of the wait
abbrev pub resolved_at : Option ℕ → (key : ℕ) → List ExtraStep
resolved_at None key = []
resolved_at (Some future) key = Settles future (Returned (Int (pos key))) ∷ []

abbrev pub made_keeps : Waiting → Keeping
made_keeps kept =
    record { tasks = []; futures = []; own = kept.made; tags = []; values = []; has_key = λ key. nat_lt key (length kept.made) }

abbrev pub next_turn_means : Extra Waiting
next_turn_means =
    record {
      ask = λ task code arguments s. asked_for (wanted_by code) code s;
      wake = λ key input s. woken_by key input s;
      wakes_left = λ key kept. 0;
      act = λ key s. record { state = s.extra; steps = resolved_at (slice_get s.extra.made key) key };
      item = λ code bytes s. stays s;
      watches = λ kept. false;
      keeps = made_keeps;
    }

-- ---- what it stands for
abbrev pub IsOwn : List ℕ → ℕ → Type 0
IsOwn made id = (place : ℕ) × (slice_get made place ≡ Some id)

-- the futures and the counts are the same, and none of these was released
pub record StandsForMade (t : NameMap) (p : Parts) (x : NextTurn) (kept : Waiting) : Type 0 where
  pub made : x.made.items ≡ kept.made
  pub left : x.left.items ≡ kept.left
  pub there : (id : ℕ) → IsOwn kept.made id → t.gone id ≡ false

pub goes_on : (t u : NameMap) (p q : Parts) (x : NextTurn) (kept : Waiting) → StandsForMade t p x kept → GoesBeside (IsOwn kept.made) t p u q
    → StandsForMade u q x kept
goes_on t u p q x kept h beside =
    record { made = h.made; left = h.left; there = λ id own. beside.gone id own ∙ h.there id own }

-- ---- its steps are allowed
told_made : (ids : Ids) (value : Value) → names_made ids (told value) ≡ true
told_made ids (Int number) = refl
told_made ids _ = refl

-- ---- lists
each_from : (P : ℕ → Type 0) (xs : List ℕ) → ((place id : ℕ) → slice_get xs place ≡ Some id → P id) → Each P xs
each_from P [] from = tt
each_from P (x ∷ xs) from = (from 0 x refl, each_from P xs (λ place id e. from (suc place) id e))

each_push : (P : ℕ → Type 0) (xs : List ℕ) (x : ℕ) → Each P xs → P x → Each P (xs ++ x ∷ [])
each_push P [] x all one = (one, tt)
each_push P (y ∷ xs) x all one = (all.0, each_push P xs x all.1 one)

each_set : (P : ℕ → Type 0) (xs : List ℕ) (place x : ℕ) → Each P xs → P x → Each P (slice_set xs place x)
each_set P [] place x all one = tt
each_set P (y ∷ xs) zero x all one = (one, all.1)
each_set P (y ∷ xs) (suc place) x all one = (all.0, each_set P xs place x all.1 one)

pub each_at : (P : ℕ → Type 0) (xs : List ℕ) → Each P xs → (place id : ℕ) → slice_get xs place ≡ Some id → P id
each_at P [] all place id e = absurd (none-some id e)
each_at P (x ∷ xs) all zero id e = subst P (ap (λ o. option_map_or (λ (y : ℕ). y) o x) e) all.0
each_at P (x ∷ xs) all (suc place) id e = each_at P xs all.1 place id e

-- what is so of one is so of each of a list of it
pub all_one : (member next : ℕ) → member < next → All (λ (it : ℕ). it < next) (member ∷ [])
all_one member next le = λ k d h. let none : 0 ≡ k = omega (arith, h) in subst (λ j. get_or (member ∷ []) j d < next) none le

-- ---- what may be called
module _ (running : Option ℕ) (s : State Waiting) (may : MayCall next_turn_means running s) where
  still_own : Each (IsMine s.extra.made (next_future s.loop.parts)) s.extra.made
  still_own = each_from (IsMine s.extra.made (next_future s.loop.parts)) s.extra.made (λ place id e. inl (place, e))

  stays_allowed : (woken : Option ℕ) → IsCallAllowed next_turn_means woken (stays s) s
  stays_allowed woken = record { steps = tt; kept = may.kept; own = still_own; tags = tt; keys = λ key other known. known }

  says_allowed : (woken : Option ℕ) (answer : ExtraAnswer) → IsAnswerAllowed answer (called (stays s) s) → key_of answer ≡ None
      → IsSaidAllowed next_turn_means woken (only_says answer s) s
  says_allowed woken answer ok none =
      record { call = stays_allowed woken; answer = ok; key = λ key e. absurd (none-some key (sym none ∙ e)) }

  abbrev new : ℕ
  new = next_future s.loop.parts

  abbrev plain_future : parts.Future
  plain_future = record { kind = Plain; outcome = None; callbacks = [] }

  abbrev many_future : parts.Future
  many_future = record { kind = Many (new ∷ []) false; outcome = None; callbacks = [] }

  -- what isn't made so far is no script's
  unnamed : (id : ℕ) → new ≤ id → IsNoneOf s.futures id
  unnamed id past place e = let w = (plain_within s.loop.parts id (may.scripts place id e)).1 in absurd (omega (arith, w, past))

  longer : length (s.loop.parts.futures ++ plain_future ∷ []) ≡ new + 1
  longer = length-append s.loop.parts.futures (plain_future ∷ [])

  longest : length ((s.loop.parts.futures ++ plain_future ∷ []) ++ many_future ∷ []) ≡ new + 1 + 1
  longest = length-append (s.loop.parts.futures ++ plain_future ∷ []) (many_future ∷ []) ∙ ap (λ n. n + 1) longer

  -- the list has one more
  more : (on : ℕ) → length (s.extra.made ++ on ∷ []) ≡ length s.extra.made + 1
  more on = length-append s.extra.made (on ∷ [])

  -- ---- a new request
  module _ (on again : ℕ) (steps : List ExtraStep) (past : new ≤ on)
      (ok : AreAllowed (owns_at (ids_of s) (made_keeps s.extra) s.loop.parts) steps s.loop) (there : IsOwned (made_by_all steps s.loop).parts on)
      (within : on < next_future (made_by_all steps s.loop).parts) where
    asks_allowed : IsSaidAllowed next_turn_means None (record {
      call = record { state = grown on again s.extra; steps = steps };
      answer = Waits on (length s.extra.made);
    }) s
    asks_allowed =
        let old = steps_keep (owns_at (ids_of s) (made_keeps s.extra) s.loop.parts) (made_keeps s.extra) s.futures steps s.loop ok may.kept in
        record {
          call = record {
            steps = ok;
            kept = record {
              tasks = tt;
              awaitable = tt;
              own = each_push (IsOwned (made_by_all steps s.loop).parts) s.extra.made on old.own there;
              apart = each_push (IsNoneOf s.futures) s.extra.made on old.apart (unnamed on past);
              tags = tt;
              values = refl;
            };
            own = each_push (IsMine s.extra.made new) s.extra.made on still_own (inr past);
            tags = tt;
            keys = λ key other known.
                let w = ltb-true key (length s.extra.made) known in
                let e = more on in lt-ltb key (length (s.extra.made ++ on ∷ [])) (omega (arith, w, e));
          };
          answer = within;
          key = λ key e.
              let same : length s.extra.made ≡ key = ap (λ o. option_map_or (λ (k : ℕ). k) o key) e in (
                le-ltb key (length s.extra.made) (omega (arith, same)),
                (let m = more on in lt-ltb key (length (s.extra.made ++ on ∷ [])) (omega (arith, same, m))),
              );
        }

  -- the future that is made then
  plain_owned : (key : ℕ) → IsOwned (made_by_all (MakesPlain ∷ CallsSoon key ∷ []) s.loop).parts new
  plain_owned key = (let e = longer in omega (arith, e), ap owner_at (get-push_last s.loop.parts.futures plain_future))

  waits_allowed : (again : ℕ) → IsSaidAllowed next_turn_means None (waits again s) s
  waits_allowed again =
      asks_allowed new again (MakesPlain ∷ CallsSoon (length s.extra.made) ∷ []) (le_refl _) (tt, (tt, tt)) (plain_owned (length s.extra.made))
      (let e = longer in omega (arith, e))

  several_allowed : IsSaidAllowed next_turn_means None (waits_for_several s) s
  several_allowed =
      asks_allowed (new + 1) 0 (MakesPlain ∷ MakesMany (new ∷ []) ∷ CallsSoon (length s.extra.made) ∷ []) (omega arith)
      (tt, (all_one new _ (let e = longer in omega (arith, e)), (tt, tt))) (
        (let e = longest in omega (arith, e)),
        ap (λ n. owner_at (slice_get ((s.loop.parts.futures ++ plain_future ∷ []) ++ many_future ∷ []) n)) (sym longer)
            ∙ ap owner_at (get-push_last (s.loop.parts.futures ++ plain_future ∷ []) many_future),
      ) (let e = longest in omega (arith, e))

  asked_allowed : (it : wanted.Wanted) (code : ℤ) → IsSaidAllowed next_turn_means None (asked_for it code s) s
  asked_allowed Seven code = says_allowed None (Answers (Int (pos 7))) refl refl
  asked_allowed Wait code = waits_allowed 0
  asked_allowed WaitsOften code = waits_allowed 499
  asked_allowed Several code = several_allowed
  asked_allowed Nothing code = says_allowed None (Raises (unknown_code code)) tt refl

  -- ---- one that was woken
  again_allowed : (key left : ℕ) → nat_lt key (length s.extra.made) ≡ true → IsSaidAllowed next_turn_means (Some key) (waits_again key left s) s
  again_allowed key left known =
      let steps = MakesPlain ∷ CallsSoon key ∷ [] in
      let old = steps_keep (owns_at (ids_of s) (made_keeps s.extra) s.loop.parts) (made_keeps s.extra) s.futures steps s.loop (tt, (tt, tt)) may.kept in
      let n = length-set s.extra.made key new in
      record {
        call = record {
          steps = (tt, (tt, tt));
          kept = record {
            tasks = tt;
            awaitable = tt;
            own = each_set (IsOwned (made_by_all steps s.loop).parts) s.extra.made key new old.own (plain_owned key);
            apart = each_set (IsNoneOf s.futures) s.extra.made key new old.apart (unnamed new (le_refl _));
            tags = tt;
            values = refl;
          };
          own = each_set (IsMine s.extra.made new) s.extra.made key new still_own (inr (le_refl _));
          tags = tt;
          keys = λ other differs is.
              let w = ltb-true other (length s.extra.made) is in lt-ltb other (length (slice_set s.extra.made key new)) (omega (arith, w, n));
        };
        answer = let e = longer in omega (arith, e);
        key = λ next e.
            let same : key ≡ next = ap (λ o. option_map_or (λ (k : ℕ). k) o next) e in
            let w = ltb-true key (length s.extra.made) known in
            (sym same, lt-ltb next (length (slice_set s.extra.made key new)) (omega (arith, same, w, n)));
      }

  heard_allowed : (left key : ℕ) (value : Value) → nat_lt key (length s.extra.made) ≡ true
      → IsSaidAllowed next_turn_means (Some key) (heard_by left key value s) s
  heard_allowed zero key value known = says_allowed (Some key) (Answers (told value)) (told_made (ids_of s) value) refl
  heard_allowed (suc left) key value known = again_allowed key left known

  woken_said : (key : ℕ) (input : Input) → nat_lt key (length s.extra.made) ≡ true
      → IsSaidAllowed next_turn_means (Some key) (woken_by key input s) s
  woken_said key (Send value) known = heard_allowed (left_at s.extra.left key) key value known
  woken_said key (Throw fault) known = says_allowed (Some key) (Raises fault) tt refl

  resolved_allowed : (key : ℕ) (o : Option ℕ) → slice_get s.extra.made key ≡ o
      → IsCallAllowed next_turn_means None (record { state = s.extra; steps = resolved_at o key }) s
  resolved_allowed key None e = stays_allowed None
  resolved_allowed key (Some future) e =
      let steps = resolved_at (Some future) key in
      let ok : AreAllowed (owns_at (ids_of s) (made_keeps s.extra) s.loop.parts) steps s.loop = (
        (inl (key, e), each_at (IsOwned s.loop.parts) s.extra.made may.kept.own key future e, refl),
        tt,
      ) in
      record {
        steps = ok;
        kept = steps_keep (owns_at (ids_of s) (made_keeps s.extra) s.loop.parts) (made_keeps s.extra) s.futures steps s.loop ok may.kept;
        own = still_own;
        tags = tt;
        keys = λ other differs known. known;
      }

pub next_turn_allowed : MakesAllowedSteps next_turn_means
next_turn_allowed = record {
  ask = λ task code arguments s may made. asked_allowed (Some task) s may (wanted_by code) code;
  wake = λ task key input s may known made. woken_said (Some task) s may key input known;
  act = λ key s may. resolved_allowed None s may key (slice_get s.extra.made key) refl;
  item = λ code bytes s may. stays_allowed None s may None;
}

-- ---- what is woken waits for what is still to come, or is answered
abbrev IsLater : State Waiting → ExtraSaid Waiting → Type 0
IsLater s said = is_woken_at_once said.answer (called said.call s).loop ≡ false

heard_later : (s : State Waiting) (left key : ℕ) (value : Value) → IsLater s (heard_by left key value s)
heard_later s zero key value = refl
heard_later s (suc left) key value =
    ap (λ o. is_some (outcome_at o)) (get-push_last s.loop.parts.futures (record { kind = Plain; outcome = None; callbacks = [] }))

woken_later : (s : State Waiting) (key : ℕ) (input : Input) → IsLater s (woken_by key input s)
woken_later s key (Send value) = heard_later s (left_at s.extra.left key) key value
woken_later s key (Throw fault) = refl

pub next_turn_falls : WakesFall next_turn_means
next_turn_falls = λ key input s next e once. absurd (false≢true (sym (woken_later s key input) ∙ once))

abbrev pub next_turn : Added NextTurn
next_turn =
    record {
      Kept = Waiting;
      meaning = next_turn_means;
      stands = StandsForMade;
      goes_on = goes_on;
      allowed = next_turn_allowed;
      falls = next_turn_falls;
    }

-- ---- in code: it waits again under its key, or goes on with what its future was resolved with
abbrev pub HearsAs : (left key : ℕ) → Value → Asked → (x y : NextTurn) → (v w : View) → Type 0
HearsAs zero key value asked x y v w =
    (asked ≡ Answer (told value)) × (y.made.items ≡ x.made.items) × (y.left.items ≡ x.left.items) × (w ≡ v)
HearsAs (suc more) key value asked x y v w =
    (asked ≡ WaitsFor (length v.futures) key) × (y.made.items ≡ slice_set x.made.items key (length v.futures))
    × (y.left.items ≡ slice_set x.left.items key more)
    × (w ≡ record v {
      futures = v.futures ++ record { kind = Plain; outcome = None; callbacks = [] } ∷ [];
      queue = queue.soon (Acts key) v.queue;
    })
