-- Those who wait for a lock, in order: each with the place of its key, and with its future. What becomes of the line as one more
-- waits, as one leaves it, and as the first is woken.
use Rattle.std.proofs.Common.{◌≡◌, ◌⊎◌, inl, inr, ℕ, zero, suc, ◌+◌, ◌<◌, ◌≤◌, Bool, true, false, cond, List, [], ◌∷◌, ◌++◌, Option, Some, None}
use Rattle.std.proofs.Common.{length, map, slice_get}
use Rattle.std.proofs.Common.{refl, sym, ap, subst, ◌∙◌, arith, le_refl, length-append}
use Rattle.std.specs.Prelude.{not, ◌&&◌, ◌==◌, is_some}
use Rattle.std.specs.List.{AllByRecursion as Each}
use Rattle.std.specs.Map.{lookup, remove_entry}
use Rattle.std.proofs.lemmas.Bool.{eq-eqb, eqb-true, false≢true, true≢false}
use Rattle.std.proofs.lemmas.Option.{slice_get_past}
use Rattle.model_value.specs.Value.{Nothing, Outcome}
use Rattle.model_value.specs.declared.outcome.Outcome.TheVariants.{Value as Returned, Failed, Cancelled}
use Rattle.model_loop.specs.Futures.{future_outcome, new_plain, next_future, outcome_at, settle}
use Rattle.model_loop.specs.Parts.{Future, Parts, Plain}
use Rattle.model_loop.proofs.FutureCases.{settled, settled_as}
use Rattle.model_sync.specs.Locks.{are_cancelled, was_cancelled}
use Rattle.model_sync.specs.Queues.{got_value}
use Rattle.model_sync.specs.Synced.{is_place, without}
use Rattle.law_cancel.proofs.Effects.{done_as, settle-futures}
use Rattle.law_cancel.proofs.Lookups.{get-set_same}
use Rattle.law_steps.proofs.Settling.{settle_cases}
use Rattle.law_sync.proofs.Lists.{all_each, each_append, each_both, each_found, each_on, each_removed}
use Rattle.law_apart.specs.Apart.{StaysOrIsCancelled}
use Rattle.law_locks.proofs.Named.{found_within, none_some}

-- ---- outcomes
pub value_over : (o : Option Outcome) → got_value o ≡ true → was_cancelled o ≡ true → ⊥
value_over None value over = absurd (false≢true value)
value_over (Some (Returned it)) value over = absurd (false≢true over)
value_over (Some (Failed it)) value over = absurd (false≢true value)
value_over (Some Cancelled) value over = absurd (false≢true value)

over_unwoken : (o : Option Outcome) → was_cancelled o ≡ true → got_value o ≡ false
over_unwoken None over = refl
over_unwoken (Some (Returned it)) over = absurd (false≢true over)
over_unwoken (Some (Failed it)) over = refl
over_unwoken (Some Cancelled) over = refl

over_done : (o : Option Outcome) → was_cancelled o ≡ true → is_some o ≡ true
over_done None over = over
over_done (Some it) over = refl

-- a new future leaves all others
push_outcome : (futures : List Future) (on : ℕ)
    → outcome_at (slice_get (futures ++ record { kind = Plain; outcome = None; callbacks = [] } ∷ []) on) ≡ outcome_at (slice_get futures on)
push_outcome [] zero = refl
push_outcome [] (suc zero) = refl
push_outcome [] (suc (suc on)) = refl
push_outcome (future ∷ futures) zero = refl
push_outcome (future ∷ futures) (suc on) = push_outcome futures on

pub plain_outcome : (p : Parts) (on : ℕ) → future_outcome (new_plain p) on ≡ future_outcome p on
plain_outcome p on = push_outcome p.futures on

pub next_none : (p : Parts) → future_outcome p (next_future p) ≡ None
next_none p = ap outcome_at (slice_get_past p.futures (length p.futures) (le_refl _))

pub plain_more : (p : Parts) → next_future (new_plain p) ≡ next_future p + 1
plain_more p = length-append p.futures (record { kind = Plain; outcome = None; callbacks = [] } ∷ [])

-- a future is settled
pub settle_others : (id : ℕ) (outcome : Outcome) (p : Parts) (on : ℕ) → (id ≡ on → ⊥) → future_outcome (settle id outcome p) on ≡ future_outcome p on
settle_others id outcome p on other =
    settle_cases (λ q. future_outcome q on ≡ future_outcome p on) id outcome p refl (λ q settled_so. ap outcome_at (settled_so.others on other))

pub settle_made : (id : ℕ) (outcome : Outcome) (p : Parts) → next_future (settle id outcome p) ≡ next_future p
settle_made id outcome p = settle_cases (λ q. next_future q ≡ next_future p) id outcome p refl (λ q settled_so. settled_so.made)

pub settle_done : (id : ℕ) (outcome : Outcome) (p : Parts) → id < next_future p → is_some (future_outcome (settle id outcome p) id) ≡ true
settle_done id outcome p within = at (slice_get p.futures id) refl
  where
    until : (future : Future) → slice_get p.futures id ≡ Some future → (o : Option Outcome) → future.outcome ≡ o
        → is_some (future_outcome (settled_as o id future outcome p) id) ≡ true
    until future e (Some done) o = ap (λ f. is_some (outcome_at f)) e ∙ ap is_some o
    until future e None o =
        subst (λ q. is_some (future_outcome q id) ≡ true) (ap (λ x. settled_as x id future outcome p) o)
        (subst (λ q. is_some (future_outcome q id) ≡ true) (ap (λ f. settled f id outcome p) e)
        (ap (λ (fs : List Future). is_some (outcome_at (slice_get fs id))) (settle-futures id outcome p future e o)
        ∙ ap (λ f. is_some (outcome_at f)) (get-set_same p.futures id future (done_as outcome future) e)))

    at : (o : Option Future) → slice_get p.futures id ≡ o → is_some (future_outcome (settled o id outcome p) id) ≡ true
    at None e = absurd (none_some (slice_get p.futures id) (found_within p.futures id within).0 e (found_within p.futures id within).1)
    at (Some future) e = until future e future.outcome refl

-- one that is done stays
settle_over : (id : ℕ) (outcome : Outcome) (p : Parts) → is_some (future_outcome p id) ≡ true → settle id outcome p ≡ p
settle_over id outcome p done = at (slice_get p.futures id) refl
  where
    until : (future : Future) → slice_get p.futures id ≡ Some future → (o : Option Outcome) → future.outcome ≡ o → settled_as o id future outcome p ≡ p
    until future e (Some it) o = refl
    until future e None o = absurd (true≢false (sym done ∙ ap (λ f. is_some (outcome_at f)) e ∙ ap is_some o))

    at : (o : Option Future) → slice_get p.futures id ≡ o → settled o id outcome p ≡ p
    at None e = refl
    at (Some future) e = until future e future.outcome refl

-- ---- lines
abbrev pub ons : List (ℕ × ℕ) → List ℕ
ons line = map (λ e. e.1) line

abbrev pub IsUnwoken : Parts → ℕ × ℕ → Type 0
IsUnwoken p e = got_value (future_outcome p e.1) ≡ false

abbrev pub IsOver : Parts → ℕ × ℕ → Type 0
IsOver p e = was_cancelled (future_outcome p e.1) ≡ true

abbrev pub IsLater : ℕ × ℕ → ℕ × ℕ → Type 0
IsLater e f = (e.0 < f.0) × (e.1 < f.1)

abbrev pub Rising : List (ℕ × ℕ) → Type 0
Rising [] = Unit {0}
Rising (e ∷ line) = Each (IsLater e) line × Rising line

-- only the first may have been woken
abbrev pub Rest : Parts → List (ℕ × ℕ) → Type 0
Rest p [] = Unit {0}
Rest p (e ∷ line) = Each (IsUnwoken p) line

-- while it is locked nobody was woken, and else the first was
abbrev pub First : Parts → (locked : Bool) → List (ℕ × ℕ) → Type 0
First p locked [] = Unit {0}
First p true (e ∷ line) = IsUnwoken p e
First p false (e ∷ line) = is_some (future_outcome p e.1) ≡ true

-- who wasn't cancelled asked after all that answered
abbrev pub IsStillDue : Parts → (least : ℕ) → ℕ × ℕ → Type 0
IsStillDue p least e = IsOver p e ⊎ (least ≤ e.0)

abbrev pub IsGiven : (drawn next : ℕ) → ℕ × ℕ → Type 0
IsGiven drawn next e = (e.0 < drawn) × (e.1 < next)

pub record Line (p : Parts) (drawn least : ℕ) (line : List (ℕ × ℕ)) : Type 0 where
  pub rising : Rising line
  pub given : Each (IsGiven drawn (next_future p)) line
  pub rest : Rest p line
  pub due : Each (IsStillDue p least) line
  pub reached : least ≤ drawn

-- ---- something else happens
abbrev pub Stays : (p q : Parts) → ℕ × ℕ → Type 0
Stays p q e = StaysOrIsCancelled p q e.1

module _ (p q : Parts) where
  unwoken_on : (e : ℕ × ℕ) → Stays p q e → IsUnwoken p e → IsUnwoken q e
  unwoken_on e (inl same) h = ap got_value same ∙ h
  unwoken_on e (inr gone) h = ap got_value gone.1

  over_on : (e : ℕ × ℕ) → Stays p q e → IsOver p e → IsOver q e
  over_on e (inl same) h = ap was_cancelled same ∙ h
  over_on e (inr gone) h = ap was_cancelled gone.1

  done_on : (e : ℕ × ℕ) → Stays p q e → is_some (future_outcome p e.1) ≡ true → is_some (future_outcome q e.1) ≡ true
  done_on e (inl same) h = ap is_some same ∙ h
  done_on e (inr gone) h = ap is_some gone.1

  due_on : (least : ℕ) (e : ℕ × ℕ) → Stays p q e → IsStillDue p least e → IsStillDue q least e
  due_on least e stays (inl over) = inl (over_on e stays over)
  due_on least e stays (inr le) = inr le

  rest_on : (line : List (ℕ × ℕ)) → Each (Stays p q) line → Rest p line → Rest q line
  rest_on [] all rest = tt
  rest_on (e ∷ line) all rest = each_both (Stays p q) (IsUnwoken p) (IsUnwoken q) unwoken_on line all.1 rest

  pub first_on : (locked : Bool) (line : List (ℕ × ℕ)) → Each (Stays p q) line → First p locked line → First q locked line
  first_on locked [] all first = tt
  first_on true (e ∷ line) all first = unwoken_on e all.0 first
  first_on false (e ∷ line) all first = done_on e all.0 first

  pub line_on : (drawn more least : ℕ) (line : List (ℕ × ℕ)) → drawn ≤ more → next_future p ≤ next_future q → Each (Stays p q) line
      → Line p drawn least line → Line q more least line
  line_on drawn more least line le made all h = record {
    rising = h.rising;
    given = each_on (IsGiven drawn (next_future p)) (IsGiven more (next_future q))
        (λ e g. (let a = g.0 in omega (arith, a, le), let b = g.1 in omega (arith, b, made))) line h.given;
    rest = rest_on line all h.rest;
    due = each_both (Stays p q) (IsStillDue p least) (IsStillDue q least) (due_on least) line all h.due;
    reached = let r = h.reached in omega (arith, r, le);
  }

-- ---- one more waits
module _ (drawn next : ℕ) where
  rising_last : (line : List (ℕ × ℕ)) → Rising line → Each (IsGiven drawn next) line → Rising (line ++ (drawn, next) ∷ [])
  rising_last [] rising given = (tt, tt)
  rising_last (e ∷ line) rising given =
      (each_append (IsLater e) line ((drawn, next) ∷ []) rising.0 (given.0, tt), rising_last line rising.1 given.1)

  rest_last : (p : Parts) (line : List (ℕ × ℕ)) → IsUnwoken p (drawn, next) → Rest p line → Rest p (line ++ (drawn, next) ∷ [])
  rest_last p [] new rest = tt
  rest_last p (e ∷ line) new rest = each_append (IsUnwoken p) line ((drawn, next) ∷ []) rest (new, tt)

  -- it waits since the lock is locked, or since somebody waits
  first_last : (p q : Parts) (locked : Bool) (line : List (ℕ × ℕ)) → (not locked && are_cancelled p (ons line)) ≡ false → IsUnwoken q (drawn, next)
      → First q locked line → First q locked (line ++ (drawn, next) ∷ [])
  first_last p q true [] held new first = new
  first_last p q false [] held new first = absurd (true≢false held)
  first_last p q true (e ∷ line) held new first = first
  first_last p q false (e ∷ line) held new first = first

pub all_stay : (p q : Parts) → ((on : ℕ) → future_outcome q on ≡ future_outcome p on) → (line : List (ℕ × ℕ)) → Each (Stays p q) line
all_stay p q same [] = tt
all_stay p q same (e ∷ line) = (inl (same e.1), all_stay p q same line)

module _ (p : Parts) (drawn least : ℕ) (line : List (ℕ × ℕ)) (h : Line p drawn least line) where
  new_unwoken : IsUnwoken (new_plain p) (drawn, next_future p)
  new_unwoken = ap got_value (plain_outcome p (next_future p) ∙ next_none p)

  still : Each (Stays p (new_plain p)) line
  still = all_stay p (new_plain p) (plain_outcome p) line

  pub waits_line : Line (new_plain p) (drawn + 1) least (line ++ (drawn, next_future p) ∷ [])
  waits_line =
      let more = plain_more p in
      let on = line_on p (new_plain p) drawn (drawn + 1) least line (omega arith) (omega (arith, more)) still h in
      record {
        rising = rising_last drawn (next_future p) line h.rising h.given;
        given = each_append (IsGiven (drawn + 1) (next_future (new_plain p))) line ((drawn, next_future p) ∷ []) on.given
            ((omega arith, omega (arith, more)), tt);
        rest = rest_last drawn (next_future p) (new_plain p) line new_unwoken on.rest;
        due = each_append (IsStillDue (new_plain p) least) line ((drawn, next_future p) ∷ []) on.due (inr h.reached, tt);
        reached = on.reached;
      }

  pub waits_first : (locked : Bool) → (not locked && are_cancelled p (ons line)) ≡ false → First p locked line
      → First (new_plain p) locked (line ++ (drawn, next_future p) ∷ [])
  waits_first locked held first =
      first_last drawn (next_future p) p (new_plain p) locked line held new_unwoken (first_on p (new_plain p) locked line still first)

-- ---- all who wait were cancelled, and the lock is taken
each_over : (p : Parts) (line : List (ℕ × ℕ)) → are_cancelled p (ons line) ≡ true → Each (IsOver p) line
each_over p [] all = tt
each_over p (e ∷ line) all = let a = all_each (λ on. was_cancelled (future_outcome p on)) (ons (e ∷ line)) all in (a.0, of_map line a.1)
  where
    of_map : (line : List (ℕ × ℕ)) → Each (λ on. was_cancelled (future_outcome p on) ≡ true) (ons line) → Each (IsOver p) line
    of_map [] a = tt
    of_map (f ∷ line) a = (a.0, of_map line a.1)

rest_of : (p : Parts) (line : List (ℕ × ℕ)) → Each (IsUnwoken p) line → Rest p line
rest_of p [] all = tt
rest_of p (e ∷ line) all = all.1

first_of : (p : Parts) (line : List (ℕ × ℕ)) → Each (IsUnwoken p) line → First p true line
first_of p [] all = tt
first_of p (e ∷ line) all = all.0

module _ (p : Parts) (drawn least : ℕ) (line : List (ℕ × ℕ)) (h : Line p drawn least line) (all : are_cancelled p (ons line) ≡ true) where
  nobody : Each (IsUnwoken p) line
  nobody = each_on (IsOver p) (IsUnwoken p) (λ e over. over_unwoken (future_outcome p e.1) over) line (each_over p line all)

  pub takes_line : Line p (drawn + 1) (suc drawn) line
  takes_line = record {
    rising = h.rising;
    given = each_on (IsGiven drawn (next_future p)) (IsGiven (drawn + 1) (next_future p)) (λ e g. (let a = g.0 in omega (arith, a), g.1)) line h.given;
    rest = rest_of p line nobody;
    due = each_on (IsOver p) (IsStillDue p (suc drawn)) (λ e over. inl over) line (each_over p line all);
    reached = omega arith;
  }

  pub takes_first : First p true line
  takes_first = first_of p line nobody

-- ---- the first is woken
abbrev pub woken_first : List (ℕ × ℕ) → Parts → Parts
woken_first [] p = p
woken_first (e ∷ line) p = settle e.1 (Returned Nothing) p

module _ (p : Parts) (drawn least : ℕ) where
  later_stays : (e : ℕ × ℕ) (f : ℕ × ℕ) → IsLater e f → Stays p (settle e.1 (Returned Nothing) p) f
  later_stays e f later =
      inl (settle_others e.1 (Returned Nothing) p f.1 (λ same. let l = later.1 in absurd (omega (arith, l, same))))

  first_due : (e : ℕ × ℕ) → IsStillDue p least e → IsStillDue (settle e.1 (Returned Nothing) p) least e
  first_due e (inl over) =
      inl (ap (λ q. was_cancelled (future_outcome q e.1)) (settle_over e.1 (Returned Nothing) p (over_done (future_outcome p e.1) over)) ∙ over)
  first_due e (inr le) = inr le

  pub wakes_line : (line : List (ℕ × ℕ)) → Line p drawn least line → Line (woken_first line p) drawn least line
  wakes_line [] h = h
  wakes_line (e ∷ line) h =
      let q = settle e.1 (Returned Nothing) p in
      let stays = each_on (IsLater e) (Stays p q) (later_stays e) line h.rising.0 in
      let made = settle_made e.1 (Returned Nothing) p in
      record {
        rising = h.rising;
        given = each_on (IsGiven drawn (next_future p)) (IsGiven drawn (next_future q)) (λ f g. (g.0, let b = g.1 in omega (arith, b, made))) (e ∷ line)
            h.given;
        rest = each_both (Stays p q) (IsUnwoken p) (IsUnwoken q) (unwoken_on p q) line stays h.rest;
        due = (first_due e h.due.0, each_both (Stays p q) (IsStillDue p least) (IsStillDue q least) (due_on p q least) line stays h.due.1);
        reached = h.reached;
      }

  pub wakes_first_of : (line : List (ℕ × ℕ)) → Line p drawn least line → First (woken_first line p) false line
  wakes_first_of [] h = tt
  wakes_first_of (e ∷ line) h = settle_done e.1 (Returned Nothing) p h.given.0.1

-- ---- one leaves the line
module _ (test : ℕ → Bool) where
  rising_removed : (line : List (ℕ × ℕ)) → Rising line → Rising (remove_entry test line)
  rising_removed [] a = tt
  rising_removed (e ∷ line) a = at (rising_removed line a.1) (test e.0)
    where
      at : Rising (remove_entry test line) → (b : Bool) → Rising (cond b line (e ∷ remove_entry test line))
      at rest true = a.1
      at rest false = (each_removed (IsLater e) test line a.0, rest)

  rest_removed : (p : Parts) (line : List (ℕ × ℕ)) → Rest p line → Rest p (remove_entry test line)
  rest_removed p [] a = tt
  rest_removed p (e ∷ line) a = at (test e.0)
    where
      at : (b : Bool) → Rest p (cond b line (e ∷ remove_entry test line))
      at true = rest_of p line a
      at false = each_removed (IsUnwoken p) test line a

  pub first_removed : (p : Parts) (line : List (ℕ × ℕ)) → Rest p line → First p true line → First p true (remove_entry test line)
  first_removed p [] rest first = tt
  first_removed p (e ∷ line) rest first = at (test e.0)
    where
      at : (b : Bool) → First p true (cond b line (e ∷ remove_entry test line))
      at true = first_of p line rest
      at false = first

  pub leaves_line : (p : Parts) (drawn least : ℕ) (line : List (ℕ × ℕ)) → Line p drawn least line → Line p drawn least (remove_entry test line)
  leaves_line p drawn least line h = record {
    rising = rising_removed line h.rising;
    given = each_removed (IsGiven drawn (next_future p)) test line h.given;
    rest = rest_removed p line h.rest;
    due = each_removed (IsStillDue p least) test line h.due;
    reached = h.reached;
  }

-- so do its futures
all_left : (on : ℕ) (e : ℕ × ℕ) (line : List (ℕ × ℕ)) → e.1 ≡ on → Each (IsLater e) line → ons line ≡ without on (ons line)
all_left on e [] same all = refl
all_left on e (f ∷ line) same all =
    ap (λ vs. f.1 ∷ vs) (all_left on e line same all.1)
    ∙ ap (λ b. cond (not b) (f.1 ∷ without on (ons line)) (without on (ons line))) (sym (differs (f.1 == on) refl))
  where
    differs : (b : Bool) → (f.1 == on) ≡ b → (f.1 == on) ≡ false
    differs true is = let s = eqb-true f.1 on is in let l = all.0.1 in absurd (omega (arith, s, l, same))
    differs false is = is

pub ons_left : (test : ℕ → Bool) (on : ℕ) (line : List (ℕ × ℕ)) → Rising line → lookup test line ≡ Some on
    → ons (remove_entry test line) ≡ without on (ons line)
ons_left test on [] rising found = absurd (cc)
ons_left test on (e ∷ line) rising found = at (λ g. ons_left test on line rising.1 g) (test e.0) found
  where
    same_as : (x y : ℕ) → Some x ≡ Some y → x ≡ y
    same_as x y e = cc

    goes : e.1 ≡ on → ons line ≡ without on (e.1 ∷ ons line)
    goes same =
        all_left on e line same rising.0
        ∙ ap (λ b. cond (not b) (e.1 ∷ without on (ons line)) (without on (ons line))) (sym (eq-eqb e.1 on same))

    differs : e.1 < on → (b : Bool) → (e.1 == on) ≡ b → (e.1 == on) ≡ false
    differs less true is = let s = eqb-true e.1 on is in absurd (omega (arith, s, less))
    differs less false is = is

    at : (lookup test line ≡ Some on → ons (remove_entry test line) ≡ without on (ons line)) → (b : Bool)
        → cond b (Some e.1) (lookup test line) ≡ Some on → ons (cond b line (e ∷ remove_entry test line)) ≡ without on (e.1 ∷ ons line)
    at rest true is = goes (same_as e.1 on is)
    at rest false is =
        ap (λ vs. e.1 ∷ vs) (rest is)
        ∙ ap (λ b. cond (not b) (e.1 ∷ without on (ons line)) (without on (ons line)))
        (sym (differs (each_found (IsLater e) test line on is rising.0).1.1 (e.1 == on) refl))

-- ---- the first goes on with a value
pub record Sent (p : Parts) (drawn least key : ℕ) (locked : Bool) (line : List (ℕ × ℕ)) : Type 0 where
  pub open_ : locked ≡ false
  pub late : least ≤ key
  pub left : Line p drawn (suc key) line
  pub unwoken : First p true line

pub sends_line : (p : Parts) (drawn least key on : ℕ) (locked : Bool) (line : List (ℕ × ℕ)) → Line p drawn least line → First p locked line
    → lookup (is_place key) line ≡ Some on → got_value (future_outcome p on) ≡ true → Sent p drawn least key locked (remove_entry (is_place key) line)
sends_line p drawn least key on locked [] h first found value = absurd (cc)
sends_line p drawn least key on locked (e ∷ line) h first found value = at (is_place key e.0) refl found
  where
    same_as : (x y : ℕ) → Some x ≡ Some y → x ≡ y
    same_as x y e = cc

    has_value : e.1 ≡ on → got_value (future_outcome p e.1) ≡ true
    has_value same = ap (λ id. got_value (future_outcome p id)) same ∙ value

    opens : (b : Bool) → First p b (e ∷ line) → e.1 ≡ on → b ≡ false
    opens false f same = refl
    opens true f same = absurd (true≢false (sym (has_value same) ∙ f))

    comes_late : e.1 ≡ on → IsStillDue p least e → e.0 ≡ key → least ≤ key
    comes_late same (inl over) is = absurd (value_over (future_outcome p e.1) (has_value same) over)
    comes_late same (inr le) is = omega (arith, le, is)

    at : (b : Bool) → is_place key e.0 ≡ b → cond b (Some e.1) (lookup (is_place key) line) ≡ Some on
        → Sent p drawn least key locked (cond b line (e ∷ remove_entry (is_place key) line))
    at true here is =
        let same = same_as e.1 on is in
        let k = eqb-true e.0 key here in
        record {
          open_ = opens locked first same;
          late = comes_late same h.due.0 k;
          left = record {
            rising = h.rising.1;
            given = h.given.1;
            rest = rest_of p line h.rest;
            due = each_on (IsLater e) (IsStillDue p (suc key)) (λ f later. inr (let l = later.0 in omega (arith, l, k))) line h.rising.0;
            reached = let g = h.given.0.0 in omega (arith, g, k);
          };
          unwoken = first_of p line h.rest;
        }
    at false here is = absurd (true≢false (sym value ∙ (each_found (IsUnwoken p) (is_place key) line on is h.rest).1))
