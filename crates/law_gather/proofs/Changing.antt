-- What a call changes of what is kept: entries are appended, or one is replaced. It stays right where each new entry is.
use Rattle.std.proofs.Common.{◌≡◌, ℕ, suc, ◌<◌, ◌≤◌, true, false, List, [], ◌∷◌, ◌++◌, Option, Some, None, length, map, slice_get, slice_set}
use Rattle.std.proofs.Common.{inl, refl, sym, ap, subst, ◌∙◌, arith, length-append, length-set}
use Rattle.std.specs.List.{AllByRecursion as Each, flat_map}
use Rattle.std.specs.Option.{option_map_or}
use Rattle.model_value.specs.Value.{Outcome}
use Rattle.model_loop.specs.Futures.{next_future}
use Rattle.model_loop.specs.Loop.{Loop}
use Rattle.model_loop.specs.Parts.{Parts}
use Rattle.model_loop.specs.Tasks.{next_task}
use Rattle.model_machine.specs.Extra.{ExtraAnswer, ExtraStep, MakesPlain, MakesMany, Registers, Settles, Releases, CallsSoon, CallsLater, Revokes, Cancels, Uncancels}
use Rattle.model_machine.specs.Extra.{called, key_of, made_by, made_by_all}
use Rattle.model_machine.specs.Sound.{AreKept, Ids, IsAwaitable, IsNoneOf, IsOwned, IsTagOwned, ids_of, names_made}
use Rattle.model_machine.specs.State.{State}
use Rattle.model_reach.specs.Part.{only_says, stays}
use Rattle.law_steps.proofs.CancelSound.{plain_within}
use Rattle.law_runs.specs.Allowed.{AreAllowed, IsAllowed, IsAnswerAllowed, IsCallAllowed, IsOwn, IsSaidAllowed, MayCall, Owns, ends_made, owns_at}
use Rattle.law_runs.proofs.Called.{steps_keep}
use Rattle.law_runs.proofs.Steps.{all_after}
use Rattle.model_gather.specs.Gathered.{Drawn, Gathered, Tells, gather_keeps, gather_part}
use Rattle.model_gather.specs.Gathered.{futures_in, next_key, own_in, registered_from, settled_as, tag_in, task_in, values_in}
use Rattle.model_gather.specs.Serving.{gather_means}
use Rattle.law_gather.proofs.Falling.{IsNone}
use Rattle.law_gather.proofs.Keys.{drawn_now, drawn_still, undrawn}
use Rattle.law_gather.proofs.Lists.{all_true, each_from, each_on, each_true, flat_append, flat_at, flat_each, flat_replaced}
use Rattle.law_gather.proofs.Made.{AreMade}

-- ---- steps on a future of its own, and handles on futures that were made
abbrev pub AreOn : (n : Ids) (outer bound : ℕ) → List ExtraStep → Type 0
AreOn n outer bound [] = Unit {0}
AreOn n outer bound (Registers future key ∷ steps) = (future < bound) × AreOn n outer bound steps
AreOn n outer bound (Settles future outcome ∷ steps) = (future ≡ outer) × (ends_made n outcome ≡ true) × AreOn n outer bound steps
AreOn n outer bound (CallsLater when key ∷ steps) = AreOn n outer bound steps
AreOn n outer bound (MakesPlain ∷ steps) = ⊥
AreOn n outer bound (MakesMany members ∷ steps) = ⊥
AreOn n outer bound (Releases future ∷ steps) = ⊥
AreOn n outer bound (CallsSoon key ∷ steps) = ⊥
AreOn n outer bound (Revokes tag ∷ steps) = ⊥
AreOn n outer bound (Cancels key future ∷ steps) = ⊥
AreOn n outer bound (Uncancels key task ∷ steps) = ⊥

-- what an allowed step leaves
pub record Left (bound outer : ℕ) (l : Loop) : Type 0 where
  pub more : bound ≤ next_future l.parts
  pub owned : IsOwned l.parts outer

left_on : (own : Owns) (bound outer : ℕ) (step : ExtraStep) (l : Loop) → IsAllowed own step l → Left bound outer l → Left bound outer (made_by step l)
left_on own bound outer step l may left =
    let a = (all_after None own (step ∷ []) l (may, tt)).parts in
    record {
      more = let f = a.futures in let m = left.more in omega (arith, f, m);
      owned = (let f = a.futures in let w = left.owned.0 in omega (arith, f, w), a.owners outer left.owned.0 ∙ left.owned.1);
    }

pub on_allowed : (own : Owns) (outer bound : ℕ) → IsOwn own.futures own.next_future outer → (steps : List ExtraStep) (l : Loop)
    → Left bound outer l → AreOn own.ids outer bound steps → AreAllowed own steps l
on_allowed own outer bound mine [] l left on = tt
on_allowed own outer bound mine (Registers future key ∷ steps) l left on =
    let may : IsAllowed own (Registers future key) l = let m = left.more in let w = on.0 in omega (arith, m, w) in
    (may, on_allowed own outer bound mine steps (made_by (Registers future key) l) (left_on own bound outer (Registers future key) l may left) on.1)
on_allowed own outer bound mine (Settles future outcome ∷ steps) l left on =
    let may : IsAllowed own (Settles future outcome) l = (
      subst (IsOwn own.futures own.next_future) (sym on.0) mine,
      subst (IsOwned l.parts) (sym on.0) left.owned,
      on.1,
    ) in
    (may, on_allowed own outer bound mine steps (made_by (Settles future outcome) l) (left_on own bound outer (Settles future outcome) l may left) on.2)
on_allowed own outer bound mine (CallsLater when key ∷ steps) l left on =
    (tt, on_allowed own outer bound mine steps (made_by (CallsLater when key) l) (left_on own bound outer (CallsLater when key) l tt left) on)
on_allowed own outer bound mine (MakesPlain ∷ steps) l left on = absurd on
on_allowed own outer bound mine (MakesMany members ∷ steps) l left on = absurd on
on_allowed own outer bound mine (Releases future ∷ steps) l left on = absurd on
on_allowed own outer bound mine (CallsSoon key ∷ steps) l left on = absurd on
on_allowed own outer bound mine (Revokes tag ∷ steps) l left on = absurd on
on_allowed own outer bound mine (Cancels key future ∷ steps) l left on = absurd on
on_allowed own outer bound mine (Uncancels key task ∷ steps) l left on = absurd on

pub registered_on : (n : Ids) (outer bound part place : ℕ) (ids : List ℕ) (rest : List ExtraStep) → Each (λ id. id < bound) ids → AreOn n outer bound rest
    → AreOn n outer bound (registered_from part place ids ++ rest)
registered_on n outer bound part place [] rest made on = on
registered_on n outer bound part place (id ∷ ids) rest made on = (made.0, registered_on n outer bound part (suc place) ids rest made.1 on)

pub settled_on : (n : Ids) (outer bound : ℕ) (o : Option Outcome) → AreMade n o → AreOn n outer bound (settled_as o outer)
settled_on n outer bound None made = tt
settled_on n outer bound (Some outcome) made = (refl, made, tt)

-- ---- calls
module _ (running : Option ℕ) (s : State Gathered) (may : MayCall gather_means running s) where
  abbrev pub old_own : List ℕ
  old_own = flat_map own_in s.extra.drawn

  abbrev pub old_tags : List ℕ
  old_tags = flat_map tag_in s.extra.drawn

  abbrev pub IsMine : ℕ → Type 0
  IsMine = IsOwn (flat_map own_in s.extra.drawn) (next_future s.loop.parts)

  abbrev pub IsMyTag : ℕ → Type 0
  IsMyTag = IsOwn (flat_map tag_in s.extra.drawn) s.loop.parts.next_tag

  still_own : Each IsMine (flat_map own_in s.extra.drawn)
  still_own = each_from IsMine (flat_map own_in s.extra.drawn) (λ place id e. inl (place, e))

  still_tags : Each IsMyTag (flat_map tag_in s.extra.drawn)
  still_tags = each_from IsMyTag (flat_map tag_in s.extra.drawn) (λ place id e. inl (place, e))

  -- what an entry keeps is right, where the loop has these parts
  pub record Fits (q : Parts) (it : Drawn) : Type 0 where
    pub tasks : Each (λ task. task < next_task q) (task_in it)
    pub futures : Each (IsAwaitable s.futures q) (futures_in it)
    pub own : Each (IsOwned q) (own_in it)
    pub apart : Each (IsNoneOf s.futures) (own_in it)
    pub mine : Each IsMine (own_in it)
    pub tags : Each (IsTagOwned q) (tag_in it)
    pub my_tags : Each IsMyTag (tag_in it)
    pub values : Each (λ x. names_made (ids_of s) x ≡ true) (values_in it)

  module _ (steps : List ExtraStep) (ok : AreAllowed (owns_at (ids_of s) (gather_keeps s.extra) s.loop.parts) steps s.loop) where
    abbrev pub after : Parts
    after = (made_by_all steps s.loop).parts

    old : AreKept (ids_of s) (gather_keeps s.extra) s.futures after
    old = steps_keep (owns_at (ids_of s) (gather_keeps s.extra) s.loop.parts) (gather_keeps s.extra) s.futures steps s.loop ok may.kept

    old_values : Each (λ x. names_made (ids_of s) x ≡ true) (flat_map values_in s.extra.drawn)
    old_values = each_true (names_made (ids_of s)) (flat_map values_in s.extra.drawn) old.values

    -- an entry that is there is right still
    pub fits_still : (place : ℕ) (it : Drawn) → slice_get s.extra.drawn place ≡ Some it → Fits after it
    fits_still place it e = record {
      tasks = flat_at task_in (λ task. task < next_task after) s.extra.drawn place it e old.tasks;
      futures = flat_at futures_in (IsAwaitable s.futures after) s.extra.drawn place it e old.awaitable;
      own = flat_at own_in (IsOwned after) s.extra.drawn place it e old.own;
      apart = flat_at own_in (IsNoneOf s.futures) s.extra.drawn place it e old.apart;
      mine = flat_at own_in IsMine s.extra.drawn place it e still_own;
      tags = flat_at tag_in (IsTagOwned after) s.extra.drawn place it e old.tags;
      my_tags = flat_at tag_in IsMyTag s.extra.drawn place it e still_tags;
      values = flat_at values_in (λ x. names_made (ids_of s) x ≡ true) s.extra.drawn place it e old_values;
    }

    -- nothing of what is kept changes
    pub call_same : (woken : Option ℕ) → IsCallAllowed gather_means woken (record { state = s.extra; steps = steps }) s
    call_same woken = record { steps = ok; kept = old; own = still_own; tags = still_tags; keys = λ key other known. known }

    -- entries are appended
    pub call_more : (more : List Drawn) → Each (Fits after) more
        → IsCallAllowed gather_means None (record { state = record s.extra { drawn = s.extra.drawn ++ more }; steps = steps }) s
    call_more more fit = record {
      steps = ok;
      kept = record {
        tasks = flat_append task_in (λ task. task < next_task after) s.extra.drawn more old.tasks
            (flat_each task_in (λ task. task < next_task after) more (each_on (Fits after) _ (λ it f. f.tasks) more fit));
        awaitable = flat_append futures_in (IsAwaitable s.futures after) s.extra.drawn more old.awaitable
            (flat_each futures_in (IsAwaitable s.futures after) more (each_on (Fits after) _ (λ it f. f.futures) more fit));
        own = flat_append own_in (IsOwned after) s.extra.drawn more old.own
            (flat_each own_in (IsOwned after) more (each_on (Fits after) _ (λ it f. f.own) more fit));
        apart = flat_append own_in (IsNoneOf s.futures) s.extra.drawn more old.apart
            (flat_each own_in (IsNoneOf s.futures) more (each_on (Fits after) _ (λ it f. f.apart) more fit));
        tags = flat_append tag_in (IsTagOwned after) s.extra.drawn more old.tags
            (flat_each tag_in (IsTagOwned after) more (each_on (Fits after) _ (λ it f. f.tags) more fit));
        values =
            all_true (names_made (ids_of s)) (flat_map values_in (s.extra.drawn ++ more))
            (flat_append values_in (λ x. names_made (ids_of s) x ≡ true) s.extra.drawn more old_values
            (flat_each values_in (λ x. names_made (ids_of s) x ≡ true) more (each_on (Fits after) _ (λ it f. f.values) more fit)));
      };
      own = flat_append own_in IsMine s.extra.drawn more still_own
          (flat_each own_in IsMine more (each_on (Fits after) _ (λ it f. f.mine) more fit));
      tags = flat_append tag_in IsMyTag s.extra.drawn more still_tags
          (flat_each tag_in IsMyTag more (each_on (Fits after) _ (λ it f. f.my_tags) more fit));
      keys = λ key other known.
          let e = length-append s.extra.drawn more in
          drawn_still gather_part (length s.extra.drawn) (length (s.extra.drawn ++ more)) key (omega (arith, e)) known;
    }

    -- one is replaced
    pub call_at : (woken : Option ℕ) (place : ℕ) (it : Drawn) → Fits after it
        → IsCallAllowed gather_means woken (record { state = record s.extra { drawn = slice_set s.extra.drawn place it }; steps = steps }) s
    call_at woken place it fit = record {
      steps = ok;
      kept = record {
        tasks = flat_replaced task_in (λ task. task < next_task after) s.extra.drawn place it old.tasks fit.tasks;
        awaitable = flat_replaced futures_in (IsAwaitable s.futures after) s.extra.drawn place it old.awaitable fit.futures;
        own = flat_replaced own_in (IsOwned after) s.extra.drawn place it old.own fit.own;
        apart = flat_replaced own_in (IsNoneOf s.futures) s.extra.drawn place it old.apart fit.apart;
        tags = flat_replaced tag_in (IsTagOwned after) s.extra.drawn place it old.tags fit.tags;
        values =
            all_true (names_made (ids_of s)) (flat_map values_in (slice_set s.extra.drawn place it))
            (flat_replaced values_in (λ x. names_made (ids_of s) x ≡ true) s.extra.drawn place it old_values fit.values);
      };
      own = flat_replaced own_in IsMine s.extra.drawn place it still_own fit.mine;
      tags = flat_replaced tag_in IsMyTag s.extra.drawn place it still_tags fit.my_tags;
      keys = λ key other known.
          let n = length-set s.extra.drawn place it in
          drawn_still gather_part (length s.extra.drawn) (length (slice_set s.extra.drawn place it)) key (omega (arith, n)) known;
    }

  -- ---- calls that change nothing
  pub stays_allowed : (woken : Option ℕ) → IsCallAllowed gather_means woken (stays s.extra) s
  stays_allowed woken = call_same [] tt woken

  pub says_allowed : (woken : Option ℕ) (answer : ExtraAnswer) → IsAnswerAllowed answer (called (stays s.extra) s) → IsNone (key_of answer)
      → IsSaidAllowed gather_means woken (only_says answer s.extra) s
  says_allowed woken answer ok none = record { call = stays_allowed woken; answer = ok; key = λ key e. absurd (subst IsNone e none) }

  -- ---- handles' entries keep their futures alone
  pub tells_fit : (q : Parts) (place : ℕ) (ids : List ℕ) → Each (IsAwaitable s.futures q) ids → Each (Fits q) (map (Tells place) ids)
  tells_fit q place [] a = tt
  tells_fit q place (id ∷ ids) a = (
    record { tasks = tt; futures = (a.0, tt); own = tt; apart = tt; mine = tt; tags = tt; my_tags = tt; values = tt },
    tells_fit q place ids a.1,
  )

  -- the next future is no script's
  pub unnamed : IsNoneOf s.futures (next_future s.loop.parts)
  unnamed place e = let w = (plain_within s.loop.parts (next_future s.loop.parts) (may.scripts place (next_future s.loop.parts) e)).1 in absurd (omega (arith, w))

  -- a new key is known then
  pub key_new : (more : List Drawn) → 0 < length more → (key : ℕ) → Some (next_key s.extra) ≡ Some key
      → (gather_means.keeps s.extra).has_key key ≡ false
      × ((gather_means.keeps (record s.extra { drawn = s.extra.drawn ++ more })).has_key key ≡ true)
  key_new more some key e =
      let same : next_key s.extra ≡ key = ap (λ o. option_map_or (λ (k : ℕ). k) o key) e in
      let n = length-append s.extra.drawn more in (
        ap (gather_means.keeps s.extra).has_key (sym same) ∙ undrawn gather_part (length s.extra.drawn),
        ap (gather_means.keeps (record s.extra { drawn = s.extra.drawn ++ more })).has_key (sym same)
            ∙ drawn_now gather_part (length s.extra.drawn) (length (s.extra.drawn ++ more)) (omega (arith, n, some)),
      )
