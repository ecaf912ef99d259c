-- What is so of all wait_fors stays so, whatever is called.
use Rattle.std.proofs.Common.{◌≡◌, ◌<◌, ◌≤◌, ◌+◌, ◌-◌, ◌==◌, ◌⊎◌, inl, inr, ℕ, ℤ, zero, suc, true, false, List, [], ◌∷◌, ◌++◌, Option, Some, None}
use Rattle.std.proofs.Common.{length, length-append, map, slice_get, refl, sym, ap, subst, ◌∙◌, arith}
use Rattle.std.specs.List.{AllByRecursion as Each}
use Rattle.std.proofs.lemmas.Bool.{cases_lt, ne_eqb}
use Rattle.std.proofs.lemmas.Option.{none-some, same_Some, slice_get_past}
use Rattle.model_value.specs.Value.{Outcome}
use Rattle.model_loop.specs.Loop.{Loop}
use Rattle.model_loop.specs.Parts.{Parts}
use Rattle.model_machine.specs.Extra as extra
use Rattle.model_machine.specs.Extra.{Answers, Cancels, ExtraAnswer, ExtraCall, ExtraSaid, ExtraStep, MakesMany, MakesPlain}
use Rattle.model_machine.specs.Extra.{Raises, Revokes, Uncancels, made_by_all}
use Rattle.model_machine.specs.Sound.{StandsUnder}
use Rattle.model_machine.specs.State.{Generator}
use Rattle.model_gather.specs.Gathered.{Drawn, Gathered, Rings, Tells, Timed}
use Rattle.model_gather.specs.Gathered.{TimedWait, WaitsFor, drawn_after}
use Rattle.model_gather.specs.Gathered.{gather_part, next_key, registered_from, settled_as}
use Rattle.model_gather.specs.Wait.{handle_if_some, revoked, rings_after}
use Rattle.law_waiters.proofs.Books.{BooksNot}
use Rattle.law_waiters.proofs.Fewer.{StepFor}
use Rattle.law_waiters.proofs.Right.{Right, grown_right, is_waiting, same_right, the_key}
use Rattle.law_waiters.proofs.Timers.{TimerFits}

-- ---- what is kept, as wait_fors see it
abbrev pub timed_in : Option Drawn → Option TimedWait
timed_in (Some (WaitsFor it)) = Some it
timed_in _ = None

abbrev pub ring_in : Option Drawn → Option ℕ
ring_in (Some (Rings place)) = Some place
ring_in _ = None

abbrev pub timed_at : Gathered → ℕ → Option TimedWait
timed_at kept place = timed_in (slice_get kept.drawn place)

abbrev pub ring_at : Gathered → ℕ → Option ℕ
ring_at kept place = ring_in (slice_get kept.drawn place)

abbrev pub KeepsRight : Gathered → Loop → List Generator → Type 0
KeepsRight kept l gs = Right (timed_at kept) (ring_at kept) (length kept.drawn) l gs

-- a request under this key may be woken, or be waited at: no task stands at it, and its task hasn't gone on
abbrev pub IsReady : ℕ → Gathered → List Generator → Type 0
IsReady key kept gs =
    (k : ℕ) → key ≡ the_key k
    → ((task : ℕ) → StandsUnder gs task (the_key k) → ⊥) × (k < length kept.drawn)
    × ((it : TimedWait) → timed_at kept k ≡ Some it → is_waiting it.state ≡ true)

abbrev pub IsFreeFor : ExtraAnswer → Gathered → List Generator → Type 0
IsFreeFor (Answers value) kept gs = Unit {0}
IsFreeFor (Raises fault) kept gs = Unit {0}
IsFreeFor (extra.Waits on key) kept gs = IsReady key kept gs
IsFreeFor (extra.Asks code bytes key) kept gs = IsReady key kept gs

abbrev pub CallRight : ExtraCall Gathered → Loop → List Generator → Type 0
CallRight call l gs = KeepsRight call.state (made_by_all call.steps l) gs

abbrev pub SaidRight : ExtraSaid Gathered → Loop → List Generator → Type 0
SaidRight said l gs = CallRight said.call l gs × IsFreeFor said.answer said.call.state gs

-- ---- lists
pub append_old : (xs ys : List Drawn) (k : ℕ) → k < length xs → slice_get (xs ++ ys) k ≡ slice_get xs k
append_old [] ys k h = absurd (omega (arith, h))
append_old (x ∷ xs) ys zero h = refl
append_old (x ∷ xs) ys (suc k) h = append_old xs ys k (omega (arith, h))

pub append_new : (xs ys : List Drawn) (k : ℕ) → length xs ≤ k → slice_get (xs ++ ys) k ≡ slice_get ys (k - length xs)
append_new [] ys k h = let e : k ≡ k - 0 = omega arith in ap (slice_get ys) e
append_new (x ∷ xs) ys zero h = absurd (omega (arith, h))
append_new (x ∷ xs) ys (suc k) h =
    let e : k - length xs ≡ suc k - length (x ∷ xs) = omega arith in
    append_new xs ys k (omega (arith, h)) ∙ ap (slice_get ys) e

-- ---- keys
pub keys_apart : (a b : ℕ) → (a ≡ b → ⊥) → (the_key a == the_key b) ≡ false
keys_apart a b n = ne_eqb (the_key a) (the_key b) (λ e. n (omega (arith, e)))

pub registered_apart : (k place : ℕ) (ids : List ℕ) → (k < place) ⊎ (place + length ids ≤ k)
    → Each (StepFor (the_key k)) (registered_from gather_part place ids)
registered_apart k place [] h = tt
registered_apart k place (id ∷ ids) (inl h) = (
  keys_apart place k (λ e. absurd (omega (arith, h, e))),
  registered_apart k (suc place) ids (inl (omega (arith, h))),
)
registered_apart k place (id ∷ ids) (inr h) = (
  keys_apart place k (λ e. absurd (omega (arith, h, e))),
  registered_apart k (suc place) ids (inr (omega (arith, h))),
)

pub registered_books : (key place : ℕ) (ids : List ℕ) → Each (BooksNot key) (registered_from gather_part place ids)
registered_books key place [] = tt
registered_books key place (id ∷ ids) = (tt, registered_books key (suc place) ids)

pub settled_apart : (key : ℕ) (o : Option Outcome) (id : ℕ) → Each (StepFor key) (settled_as o id)
settled_apart key None id = tt
settled_apart key (Some outcome) id = (tt, tt)

pub settled_books : (key : ℕ) (o : Option Outcome) (id : ℕ) → Each (BooksNot key) (settled_as o id)
settled_books key None id = tt
settled_books key (Some outcome) id = (tt, tt)

pub rings_apart : (key other : ℕ) (delay : Option ℤ) (p : Parts) → (other == key) ≡ false → Each (StepFor key) (rings_after delay other p)
rings_apart key other None p n = tt
rings_apart key other (Some delay) p n = (n, tt)

pub rings_books : (key other : ℕ) (delay : Option ℤ) (p : Parts) → Each (BooksNot key) (rings_after delay other p)
rings_books key other None p = tt
rings_books key other (Some delay) p = (tt, tt)

pub revoked_apart : (key : ℕ) (o : Option ℕ) → Each (StepFor key) (revoked o)
revoked_apart key None = tt
revoked_apart key (Some tag) = (tt, tt)

pub revoked_books : (key : ℕ) (o : Option ℕ) → Each (BooksNot key) (revoked o)
revoked_books key None = tt
revoked_books key (Some tag) = (tt, tt)

-- ---- entries for keys that are drawn together
pub record MoreFit (n : ℕ) (more : List Drawn) (q : Parts) : Type 0 where
  pub begins : (i : ℕ) (it : TimedWait) → timed_in (slice_get more i) ≡ Some it → (i ≡ 0) × (it.state ≡ Timed)
  pub timer : (it : TimedWait) → timed_in (slice_get more 0) ≡ Some it → ring_in (slice_get more 1) ≡ Some n → TimerFits (the_key (suc n)) it.timer q
  pub rings : (i k : ℕ) → ring_in (slice_get more i) ≡ Some k → (k ≡ n) × (0 < i)
  pub ringed : (i : ℕ) (it : TimedWait) → ring_in (slice_get more i) ≡ Some n → timed_in (slice_get more 0) ≡ Some it → i ≡ 1

-- behind a request: its handles
pub record IsTail (n : ℕ) (tail : List Drawn) : Type 0 where
  pub none : (i : ℕ) → timed_in (slice_get tail i) ≡ None
  pub rings : (i k : ℕ) → ring_in (slice_get tail i) ≡ Some k → k ≡ n

-- of a request that is no wait_for
pub plain_fits : (n : ℕ) (first : Drawn) (tail : List Drawn) (q : Parts) → timed_in (Some first) ≡ None → ring_in (Some first) ≡ None → IsTail n tail
    → MoreFit n (first ∷ tail) q
plain_fits n first tail q no_time no_ring is =
    record {
      begins = begins;
      timer = λ it e f. absurd (none-some it (sym no_time ∙ e));
      rings = rings;
      ringed = λ i it e f. absurd (none-some it (sym no_time ∙ f));
    }
  where
    begins : (i : ℕ) (it : TimedWait) → timed_in (slice_get (first ∷ tail) i) ≡ Some it → (i ≡ 0) × (it.state ≡ Timed)
    begins zero it e = absurd (none-some it (sym no_time ∙ e))
    begins (suc i) it e = absurd (none-some it (sym (is.none i) ∙ e))

    rings : (i k : ℕ) → ring_in (slice_get (first ∷ tail) i) ≡ Some k → (k ≡ n) × (0 < i)
    rings zero k e = absurd (none-some k (sym no_ring ∙ e))
    rings (suc i) k e = (is.rings i k e, omega arith)

tells_none : (n : ℕ) (ids : List ℕ) (i : ℕ) → timed_in (slice_get (map (Tells n) ids) i) ≡ None
tells_none n [] i = refl
tells_none n (id ∷ ids) zero = refl
tells_none n (id ∷ ids) (suc i) = tells_none n ids i

tells_rings : (n : ℕ) (ids : List ℕ) (i k : ℕ) → ring_in (slice_get (map (Tells n) ids) i) ≡ Some k → k ≡ n
tells_rings n [] i k e = absurd (none-some k e)
tells_rings n (id ∷ ids) zero k e = absurd (none-some k e)
tells_rings n (id ∷ ids) (suc i) k e = tells_rings n ids i k e

pub tells_tail : (n : ℕ) (ids : List ℕ) → IsTail n (map (Tells n) ids)
tells_tail n ids = record { none = tells_none n ids; rings = tells_rings n ids }

timed_none : (n : ℕ) (ids : List ℕ) (delay : Option ℤ) (i : ℕ) → timed_in (slice_get (map (Tells n) ids ++ handle_if_some delay n) i) ≡ None
timed_none n [] None i = refl
timed_none n [] (Some delay) zero = refl
timed_none n [] (Some delay) (suc i) = refl
timed_none n (id ∷ ids) delay zero = refl
timed_none n (id ∷ ids) delay (suc i) = timed_none n ids delay i

timed_rings : (n : ℕ) (ids : List ℕ) (delay : Option ℤ) (i k : ℕ)
    → ring_in (slice_get (map (Tells n) ids ++ handle_if_some delay n) i) ≡ Some k → k ≡ n
timed_rings n [] None i k e = absurd (none-some k e)
timed_rings n [] (Some delay) zero k e = sym (same_Some n k e)
timed_rings n [] (Some delay) (suc i) k e = absurd (none-some k e)
timed_rings n (id ∷ ids) delay zero k e = absurd (none-some k e)
timed_rings n (id ∷ ids) delay (suc i) k e = timed_rings n ids delay i k e

pub timed_tail : (n : ℕ) (ids : List ℕ) (delay : Option ℤ) → IsTail n (map (Tells n) ids ++ handle_if_some delay n)
timed_tail n ids delay = record { none = timed_none n ids delay; rings = timed_rings n ids delay }

pub length_tells : (n : ℕ) (ids : List ℕ) → length (map (Tells n) ids) ≡ length ids
length_tells n [] = refl
length_tells n (id ∷ ids) = ap suc (length_tells n ids)

-- of a wait_for
pub timed_alone : (n : ℕ) (it : TimedWait) (q : Parts) → it.state ≡ Timed → MoreFit n (WaitsFor it ∷ []) q
timed_alone n it q is = record { begins = begins; timer = λ other e f. absurd (none-some n f); rings = rings; ringed = ringed }
  where
    begins : (i : ℕ) (other : TimedWait) → timed_in (slice_get (WaitsFor it ∷ []) i) ≡ Some other → (i ≡ 0) × (other.state ≡ Timed)
    begins zero other e = (refl, ap (λ (w : TimedWait). w.state) (sym (same_Some it other e)) ∙ is)
    begins (suc i) other e = absurd (none-some other e)

    rings : (i k : ℕ) → ring_in (slice_get (WaitsFor it ∷ []) i) ≡ Some k → (k ≡ n) × (0 < i)
    rings zero k e = absurd (none-some k e)
    rings (suc i) k e = absurd (none-some k e)

    ringed : (i : ℕ) (other : TimedWait) → ring_in (slice_get (WaitsFor it ∷ []) i) ≡ Some n
        → timed_in (slice_get (WaitsFor it ∷ []) 0) ≡ Some other → i ≡ 1
    ringed zero other e f = absurd (none-some n e)
    ringed (suc i) other e f = absurd (none-some n e)

pub timed_with : (n : ℕ) (it : TimedWait) (q : Parts) → it.state ≡ Timed → TimerFits (the_key (suc n)) it.timer q → MoreFit n (WaitsFor it ∷ Rings n ∷ []) q
timed_with n it q is fits = record { begins = begins; timer = timer; rings = rings; ringed = ringed }
  where
    more : List Drawn
    more = WaitsFor it ∷ Rings n ∷ []

    begins : (i : ℕ) (other : TimedWait) → timed_in (slice_get (WaitsFor it ∷ Rings n ∷ []) i) ≡ Some other → (i ≡ 0) × (other.state ≡ Timed)
    begins zero other e = (refl, ap (λ (w : TimedWait). w.state) (sym (same_Some it other e)) ∙ is)
    begins (suc zero) other e = absurd (none-some other e)
    begins (suc (suc i)) other e = absurd (none-some other e)

    timer : (other : TimedWait) → timed_in (slice_get (WaitsFor it ∷ Rings n ∷ []) 0) ≡ Some other
        → ring_in (slice_get (WaitsFor it ∷ Rings n ∷ []) 1) ≡ Some n → TimerFits (the_key (suc n)) other.timer q
    timer other e f = subst (λ (w : TimedWait). TimerFits (the_key (suc n)) w.timer q) (same_Some it other e) fits

    rings : (i k : ℕ) → ring_in (slice_get (WaitsFor it ∷ Rings n ∷ []) i) ≡ Some k → (k ≡ n) × (0 < i)
    rings zero k e = absurd (none-some k e)
    rings (suc zero) k e = (sym (same_Some n k e), omega arith)
    rings (suc (suc i)) k e = absurd (none-some k e)

    ringed : (i : ℕ) (other : TimedWait) → ring_in (slice_get (WaitsFor it ∷ Rings n ∷ []) i) ≡ Some n
        → timed_in (slice_get (WaitsFor it ∷ Rings n ∷ []) 0) ≡ Some other → i ≡ 1
    ringed zero other e f = absurd (none-some n e)
    ringed (suc zero) other e f = refl
    ringed (suc (suc i)) other e f = absurd (none-some n e)

module _ (kept : Gathered) (l : Loop) (gs : List Generator) (r : KeepsRight kept l gs) where
  abbrev n : ℕ
  n = length kept.drawn

  -- ---- keys are drawn
  pub more_right : (more : List Drawn) (steps : List ExtraStep) → MoreFit n more (made_by_all steps l).parts
      → ((k : ℕ) → (k < n) ⊎ (n + length more ≤ k) → Each (StepFor (the_key k)) steps) → ((k : ℕ) → Each (BooksNot (the_key k)) steps)
      → KeepsRight (drawn_after more kept) (made_by_all steps l) gs
  more_right more steps fit apart books =
      same_right
      (grown_right r (timed_at (drawn_after more kept)) (ring_at (drawn_after more kept)) (length more) steps old past begins timer rings_new ringed_new
      apart books)
      (timed_at (drawn_after more kept)) (ring_at (drawn_after more kept)) (length (kept.drawn ++ more)) (λ k. refl) (λ k. refl)
      (length-append kept.drawn more)
    where
      new : (k : ℕ) → n ≤ k → slice_get (kept.drawn ++ more) k ≡ slice_get more (k - n)
      new k h = append_new kept.drawn more k h

      old : (k : ℕ) → k < n → (timed_at (drawn_after more kept) k ≡ timed_at kept k) × (ring_at (drawn_after more kept) k ≡ ring_at kept k)
      old k h = (ap timed_in (append_old kept.drawn more k h), ap ring_in (append_old kept.drawn more k h))

      past : (k : ℕ) → n + length more ≤ k → (timed_at (drawn_after more kept) k ≡ None) × (ring_at (drawn_after more kept) k ≡ None)
      past k h =
          let e = length-append kept.drawn more in
          let z = slice_get_past (kept.drawn ++ more) k (omega (arith, h, e)) in
          (ap timed_in z, ap ring_in z)

      begins : (k : ℕ) (it : TimedWait) → n ≤ k → timed_at (drawn_after more kept) k ≡ Some it → (k ≡ n) × (it.state ≡ Timed)
      begins k it h e =
          let b = fit.begins (k - n) it (sym (ap timed_in (new k h)) ∙ e) in
          (let z = b.0 in omega (arith, z, h), b.1)

      first : slice_get (kept.drawn ++ more) n ≡ slice_get more 0
      first = let e : n - n ≡ 0 = omega arith in new n (omega arith) ∙ ap (slice_get more) e

      timer : (it : TimedWait) → timed_at (drawn_after more kept) n ≡ Some it → ring_at (drawn_after more kept) (suc n) ≡ Some n
          → TimerFits (the_key (suc n)) it.timer (made_by_all steps l).parts
      timer it e f =
          let one : suc n - n ≡ 1 = omega arith in
          fit.timer it (sym (ap timed_in first) ∙ e) (sym (ap ring_in (new (suc n) (omega arith) ∙ ap (slice_get more) one)) ∙ f)

      rings_new : (other k : ℕ) → n ≤ other → ring_at (drawn_after more kept) other ≡ Some k → (k ≡ n) × (n < other)
      rings_new other k h e =
          let b = fit.rings (other - n) k (sym (ap ring_in (new other h)) ∙ e) in
          (b.0, let z = b.1 in omega (arith, z, h))

      ringed_new : (other : ℕ) (it : TimedWait) → ring_at (drawn_after more kept) other ≡ Some n → timed_at (drawn_after more kept) n ≡ Some it
          → other ≡ suc n
      ringed_new other it e f = at (cases_lt other n)
        where
          at : (other < n) ⊎ (n ≤ other) → other ≡ suc n
          at (inl h) = absurd (let b = r.back other n (sym (old other h).1 ∙ e) in omega (arith, b, h))
          at (inr h) =
              let one = fit.ringed (other - n) it (sym (ap ring_in (new other h)) ∙ e) (sym (ap timed_in first) ∙ f) in
              omega (arith, one, h)

  -- a request that waits
  pub waits_right : (on : ℕ) (entry : Drawn) (tail : List Drawn) (steps : List ExtraStep) → MoreFit n (entry ∷ tail) (made_by_all steps l).parts
      → ((k : ℕ) → (k < n) ⊎ (n + length (entry ∷ tail) ≤ k) → Each (StepFor (the_key k)) steps) → ((k : ℕ) → Each (BooksNot (the_key k)) steps)
      → SaidRight (record {
        call = record { state = drawn_after (entry ∷ tail) kept; steps = steps };
        answer = extra.Waits on (next_key kept);
      }) l gs
  waits_right on entry tail steps fit apart books = (more_right (entry ∷ tail) steps fit apart books, ready)
    where
      ready : IsReady (next_key kept) (drawn_after (entry ∷ tail) kept) gs
      ready k e =
          let here : n ≡ k = omega (arith, e) in (
            λ task h. absurd (let w = (r.stood task k h).0 in omega (arith, w, here)),
            let z = length-append kept.drawn (entry ∷ tail) in omega (arith, z, here),
            λ it f.
                let at : n - n ≡ 0 = omega arith in
                let first = append_new kept.drawn (entry ∷ tail) n (omega arith) ∙ ap (slice_get (entry ∷ tail)) at in
                ap is_waiting (fit.begins 0 it (sym (ap timed_in first) ∙ ap (timed_at (drawn_after (entry ∷ tail) kept)) here ∙ f)).1,
          )
