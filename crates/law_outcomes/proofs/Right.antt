-- What is so of the futures of gathers, waits and shields between calls, and goes on.
use Rattle.std.proofs.Common.{◌≡◌, ◌<◌, ◌≤◌, ◌⊎◌, inl, inr, ℕ, suc, true, List, [], ◌∷◌, Option, Some, None}
use Rattle.std.proofs.Common.{length, refl, sym, ap, subst, ◌∙◌, arith}
use Rattle.std.specs.List.{AllByRecursion as Each, count_by}
use Rattle.std.specs.Option.{option_map_or}
use Rattle.std.proofs.lemmas.Bool.{cases_eq}
use Rattle.std.proofs.lemmas.Option.{none-some}
use Rattle.model_value.specs.declared.outcome.Outcome.TheVariants.{Cancelled}
use Rattle.model_value.specs.Value.{Nothing, Outcome, Value}
use Rattle.model_loop.specs.Futures.{future_outcome, is_pending, next_future}
use Rattle.model_loop.specs.Parts.{Parts}
use Rattle.model_loop.specs.Totals.{callbacks_of}
use Rattle.model_gather.specs.Gathered.{Drawn, Gathering, Gathers, Rings, Shields, Tells, Waiting, Waits, WaitsFor, Answered, futures_of}
use Rattle.model_gather.specs.Gather.{item_of, items_of, result_of}
use Rattle.law_apart.specs.Apart.{StaysOrIsCancelled}
use Rattle.law_waiters.specs.Timed.{is_key}
use Rattle.law_members.specs.Handles.{coming}
use Rattle.law_members.specs.Members.{IsDone}
use Rattle.law_members.proofs.Counted.{Counts, IsIn, the_key}
use Rattle.law_members.proofs.Drawing.{counts_in, tells_in}
use Rattle.law_members.proofs.Onward.{Onward}
use Rattle.law_outcomes.specs.Came as came
use Rattle.law_outcomes.specs.Came.{GatherCame, HasGoneOn, ShieldCame, WaitCame, WaitIsOver}
use Rattle.law_outcomes.proofs.Handles.{key_is_of}

-- the future of a request that made one
abbrev pub own_in : Option Drawn → Option ℕ
own_in (Some (Gathers it)) = Some it.outer
own_in (Some (Waits it)) = Some it.on
own_in (Some (Shields on)) = Some on
own_in _ = None

-- The handles of members that aren't counted yet stand at these places. Each other member has gone on, and its handle isn't to come.
pub record Uncounted (at : ℕ → Option Drawn) (p : Parts) (k : ℕ) (it : Gathering) : Type 0 where
  pub places : List ℕ
  pub few : length places ≤ it.left
  pub counted : (j m : ℕ) → tells_in (at j) ≡ Some (k, m) → (IsIn j places → ⊥) → (coming (is_key (the_key j)) p ≡ 0) × HasGoneOn p it m
  pub all : (m : ℕ) → IsIn m it.awaited → ((j : ℕ) × (tells_in (at j) ≡ Some (k, m))) ⊎ HasGoneOn p it m

-- each was made before this one, as in every sound state
abbrev pub AreBefore : (own : ℕ) → List ℕ → Type 0
AreBefore own ids = (m : ℕ) → IsIn m ids → m < own

abbrev pub EntryCame : (at : ℕ → Option Drawn) → Parts → ℕ → Option Drawn → Type 0
EntryCame at p k (Some (Gathers it)) =
    AreBefore it.outer it.awaited → GatherCame p it (future_outcome p it.outer) × (future_outcome p it.outer ≡ None → Uncounted at p k it)
EntryCame at p k (Some (Waits it)) = AreBefore it.on (futures_of it.arguments) → WaitCame at p k it (future_outcome p it.on)
EntryCame at p k (Some (Shields on)) = (j inner : ℕ) → tells_in (at j) ≡ Some (k, inner) → ShieldCame p inner (future_outcome p on)
EntryCame at p k _ = Unit {0}

-- `at` gives what each key was drawn for.
pub record Right (at : ℕ → Option Drawn) (p : Parts) : Type 0 where
  pub single : (j : ℕ) → coming (is_key (the_key j)) p ≤ 1
  pub made : (k on : ℕ) → own_in (at k) ≡ Some on → on < next_future p
  pub rising : (k l on other : ℕ) → own_in (at k) ≡ Some on → own_in (at l) ≡ Some other → k < l → on < other
  pub most : (k : ℕ) (it : Counts) → counts_in (at k) ≡ Some it → (m : ℕ) → IsIn m it.members → m ≤ it.own
  pub telling : (j k m : ℕ) → tells_in (at j) ≡ Some (k, m) → (it : Counts) → counts_in (at k) ≡ Some it → IsIn m it.members
  pub told : (j k m : ℕ) → tells_in (at j) ≡ Some (k, m) → m < next_future p
  -- the handle of a shield stands right behind it
  pub behind : (k on j m : ℕ) → at k ≡ Some (Shields on) → tells_in (at j) ≡ Some (k, m) → j ≡ suc k
  pub registered : (j k m : ℕ) → tells_in (at j) ≡ Some (k, m) → is_pending p m ≡ true → 0 < count_by (is_key (the_key j)) (callbacks_of p m)
  pub came : (k : ℕ) → EntryCame at p k (at k)

-- ---- what is done stays
abbrev pub DoneStays : Parts → Parts → Type 0
DoneStays p q = (id : ℕ) (outcome : Outcome) → future_outcome p id ≡ Some outcome → future_outcome q id ≡ Some outcome

pub gone_on : (p q : Parts) → DoneStays p q → (it : Gathering) (m : ℕ) → HasGoneOn p it m → HasGoneOn q it m
gone_on p q stays it m h = (h.0, (stays m h.0 h.1.0, h.1.1))

pub each_gone : (p q : Parts) → DoneStays p q → (it : Gathering) (ids : List ℕ) → Each (HasGoneOn p it) ids → Each (HasGoneOn q it) ids
each_gone p q stays it [] all = tt
each_gone p q stays it (id ∷ ids) all = (gone_on p q stays it id all.0, each_gone p q stays it ids all.1)

pub each_done : (p q : Parts) → DoneStays p q → (ids : List ℕ) → Each (IsDone p) ids → Each (IsDone q) ids
each_done p q stays [] all = tt
each_done p q stays (id ∷ ids) all = ((all.0.0, stays id all.0.0 all.0.1), each_done p q stays ids all.1)

-- so the items are the same
items_same : (p q : Parts) → DoneStays p q → (it : Gathering) (ids : List ℕ) → Each (HasGoneOn p it) ids → items_of q ids ≡ items_of p ids
items_same p q stays it [] all = refl
items_same p q stays it (id ∷ ids) all =
    let here = ap (λ o. option_map_or item_of o Nothing) (stays id all.0.0 all.0.1.0 ∙ sym all.0.1.0) in
    ap (λ (x : Value). x ∷ items_of q ids) here
    ∙ ap (λ (xs : List Value). option_map_or item_of (future_outcome p id) Nothing ∷ xs) (items_same p q stays it ids all.1)

pub gather_on : (p q : Parts) → DoneStays p q → (it : Gathering) (o : Option Outcome) → GatherCame p it o → GatherCame q it o
gather_on p q stays it _ came.still_waits = came.still_waits
gather_on p q stays it _ (came.raises m outcome among is raised no_value) = came.raises m outcome among (stays m outcome is) raised no_value
gather_on p q stays it _ (came.answers all) =
    subst (λ items. GatherCame q it (Some (result_of items))) (items_same p q stays it it.awaited all) (came.answers (each_gone p q stays it it.awaited all))
gather_on p q stays it _ came.is_cancelled = came.is_cancelled

-- ---- what is kept is told anew, for the request at this place
pub record SameFor (at at' : ℕ → Option Drawn) (k : ℕ) : Type 0 where
  pub to : (j m : ℕ) → tells_in (at j) ≡ Some (k, m) → tells_in (at' j) ≡ Some (k, m)
  pub from : (j m : ℕ) → tells_in (at' j) ≡ Some (k, m) → tells_in (at j) ≡ Some (k, m)
  pub rings : (j : ℕ) → at j ≡ Some (Rings k) → at' j ≡ Some (Rings k)

pub same_for : (at : ℕ → Option Drawn) (k : ℕ) → SameFor at at k
same_for at k = record { to = λ j m e. e; from = λ j m e. e; rings = λ j e. e }

-- no handle of a key that was drawn comes to be
abbrev pub NoMore : (at : ℕ → Option Drawn) → Parts → Parts → Type 0
NoMore at p q = (j : ℕ) → (at j ≡ None → ⊥) → coming (is_key (the_key j)) q ≤ coming (is_key (the_key j)) p

drawn_told : (at : ℕ → Option Drawn) (j : ℕ) (it : ℕ × ℕ) → tells_in (at j) ≡ Some it → at j ≡ None → ⊥
drawn_told at j it e none = none-some it (sym (ap tells_in none) ∙ e)

drawn_ring : (at : ℕ → Option Drawn) (j k : ℕ) → at j ≡ Some (Rings k) → at j ≡ None → ⊥
drawn_ring at j k e none = none-some (Rings k) (sym none ∙ e)

module _ (at at' : ℕ → Option Drawn) (p q : Parts) (stays : DoneStays p q) (fewer : NoMore at p q) (k : ℕ) (same : SameFor at at' k) where
  over_on : (it : Waiting) → WaitIsOver at p k it → WaitIsOver at' q k it
  over_on it (came.all_are_done all) = came.all_are_done (each_done p q stays (futures_of it.arguments) all)
  over_on it (came.one_is_done m among first done) = came.one_is_done m among first (done.0, stays m done.0 done.1)
  over_on it (came.one_has_failed m outcome among first is failed) = came.one_has_failed m outcome among first (stays m outcome is) failed
  over_on it (came.time_is_over timer e none) =
      came.time_is_over timer (same.rings timer e)
      (let a = fewer timer (drawn_ring at timer k e) in omega (arith, a, none))

  wait_on : (it : Waiting) (o : Option Outcome) → WaitCame at p k it o → WaitCame at' q k it o
  wait_on it _ came.still_waits = came.still_waits
  wait_on it _ (came.goes_on over) = came.goes_on (over_on it over)
  wait_on it _ came.is_cancelled = came.is_cancelled

  uncounted_on : (it : Gathering) → Uncounted at p k it → Uncounted at' q k it
  uncounted_on it u = record {
    places = u.places;
    few = u.few;
    counted = λ j m e out.
        let was = u.counted j m (same.from j m e) out in
        let a = fewer j (drawn_told at j (k, m) (same.from j m e)) in
        let b = was.0 in
        (omega (arith, a, b), gone_on p q stays it m was.1);
    all = λ m among. by m (u.all m among);
  }
    where
      by : (m : ℕ) → ((j : ℕ) × (tells_in (at j) ≡ Some (k, m))) ⊎ HasGoneOn p it m → ((j : ℕ) × (tells_in (at' j) ≡ Some (k, m))) ⊎ HasGoneOn q it m
      by m (inl handle) = inl (handle.0, same.to handle.0 m handle.1)
      by m (inr gone) = inr (gone_on p q stays it m gone)

  -- its own future stays, or is cancelled
  gathers_on : (it : Gathering) → StaysOrIsCancelled p q it.outer → EntryCame at p k (Some (Gathers it)) → EntryCame at' q k (Some (Gathers it))
  gathers_on it (inl still) here before = (
    subst (GatherCame q it) (sym still) (gather_on p q stays it (future_outcome p it.outer) (here before).0),
    λ none. uncounted_on it ((here before).1 (sym still ∙ none)),
  )
  gathers_on it (inr gone) here before = (subst (GatherCame q it) (sym gone.1) came.is_cancelled, λ none. absurd (none-some Cancelled (sym none ∙ gone.1)))

  waits_on : (it : Waiting) → StaysOrIsCancelled p q it.on → EntryCame at p k (Some (Waits it)) → EntryCame at' q k (Some (Waits it))
  waits_on it (inl still) here before = subst (WaitCame at' q k it) (sym still) (wait_on it (future_outcome p it.on) (here before))
  waits_on it (inr gone) here before = subst (WaitCame at' q k it) (sym gone.1) came.is_cancelled

  shield_on : (inner : ℕ) (o : Option Outcome) → ShieldCame p inner o → ShieldCame q inner o
  shield_on inner _ came.still_waits = came.still_waits
  shield_on inner _ (came.passes outcome is) = came.passes outcome (stays inner outcome is)
  shield_on inner _ came.is_cancelled = came.is_cancelled

  shields_on : (on : ℕ) → StaysOrIsCancelled p q on → EntryCame at p k (Some (Shields on)) → EntryCame at' q k (Some (Shields on))
  shields_on on (inl still) here j inner e =
      subst (ShieldCame q inner) (sym still) (shield_on inner (future_outcome p on) (here j inner (same.from j inner e)))
  shields_on on (inr gone) here j inner e = subst (ShieldCame q inner) (sym gone.1) came.is_cancelled

  pub entry_on : (e : Option Drawn) → ((on : ℕ) → own_in e ≡ Some on → StaysOrIsCancelled p q on) → EntryCame at p k e → EntryCame at' q k e
  entry_on (Some (Gathers it)) leaves here = gathers_on it (leaves it.outer refl) here
  entry_on (Some (Waits it)) leaves here = waits_on it (leaves it.on refl) here
  entry_on (Some (Shields on)) leaves here = shields_on on (leaves on refl) here
  entry_on (Some Answered) leaves here = tt
  entry_on (Some (WaitsFor it)) leaves here = tt
  entry_on (Some (Tells place future)) leaves here = tt
  entry_on (Some (Rings place)) leaves here = tt
  entry_on None leaves here = tt

-- of an entry without a future
pub plain_came : (at : ℕ → Option Drawn) (p : Parts) (k : ℕ) (e : Option Drawn) → own_in e ≡ None → EntryCame at p k e
plain_came at p k (Some (Gathers it)) none = absurd (none-some it.outer (sym none))
plain_came at p k (Some (Waits it)) none = absurd (none-some it.on (sym none))
plain_came at p k (Some (Shields on)) none = absurd (none-some on (sym none))
plain_came at p k (Some Answered) none = tt
plain_came at p k (Some (WaitsFor it)) none = tt
plain_came at p k (Some (Tells place future)) none = tt
plain_came at p k (Some (Rings place)) none = tt
plain_came at p k None none = tt

pub no_more : (at : ℕ → Option Drawn) (p q : Parts) → Onward p q → NoMore at p q
no_more at p q onward j drawn = onward.fewer (is_key (the_key j)) (key_is_of j)

module _ {at : ℕ → Option Drawn} {p : Parts} (r : Right at p) where
  -- ---- the loop goes on
  pub goes_right : (q : Parts) → Onward p q → ((k on : ℕ) → own_in (at k) ≡ Some on → StaysOrIsCancelled p q on) → Right at q
  goes_right q onward leaves = record {
    single = λ j. let a = r.single j in let b = onward.fewer (is_key (the_key j)) (key_is_of j) in omega (arith, a, b);
    made = λ k on e. let a = r.made k on e in let b = onward.stays.made in omega (arith, a, b);
    rising = r.rising;
    most = r.most;
    telling = r.telling;
    told = λ j k m e. let a = r.told j k m e in let b = onward.stays.made in omega (arith, a, b);
    behind = r.behind;
    registered = λ j k m e pending.
        let was = onward.stays.pending m (r.told j k m e) pending in
        let a = r.registered j k m e was.0 in
        let b = was.1 (is_key (the_key j)) in
        omega (arith, a, b);
    came = λ k. entry_on at at p q onward.stays.done (no_more at p q onward) k (same_for at k) (at k) (leaves k) (r.came k);
  }

  -- ---- one entry is replaced, and the future of its request may get an outcome
  module _ (at' : ℕ → Option Drawn) (k : ℕ) (q : Parts) (onward : Onward p q) (others : (l : ℕ) → (k ≡ l → ⊥) → at' l ≡ at l)
      (own_same : own_in (at' k) ≡ own_in (at k)) (tells_same : tells_in (at' k) ≡ tells_in (at k))
      (rings_same : (l : ℕ) → at k ≡ Some (Rings l) → at' k ≡ Some (Rings l))
      (shields_same : (on : ℕ) → at' k ≡ Some (Shields on) → at k ≡ Some (Shields on))
      (counts_same : (it : Counts) → counts_in (at' k) ≡ Some it
      → (was : Counts) × ((counts_in (at k) ≡ Some was) × ((was.own ≡ it.own) × (was.members ≡ it.members))))
      (leaves : (l on : ℕ) → (k ≡ l → ⊥) → own_in (at l) ≡ Some on → StaysOrIsCancelled p q on) (here : EntryCame at' q k (at' k)) where
    own_at : (l : ℕ) → (k ≡ l) ⊎ (k ≡ l → ⊥) → own_in (at' l) ≡ own_in (at l)
    own_at l (inl e) = subst (λ j. own_in (at' j) ≡ own_in (at j)) e own_same
    own_at l (inr d) = ap own_in (others l d)

    tells_now : (l : ℕ) → (k ≡ l) ⊎ (k ≡ l → ⊥) → tells_in (at' l) ≡ tells_in (at l)
    tells_now l (inl e) = subst (λ j. tells_in (at' j) ≡ tells_in (at j)) e tells_same
    tells_now l (inr d) = ap tells_in (others l d)

    own_is : (l : ℕ) → own_in (at' l) ≡ own_in (at l)
    own_is l = own_at l (cases_eq k l)

    tells_is : (l : ℕ) → tells_in (at' l) ≡ tells_in (at l)
    tells_is l = tells_now l (cases_eq k l)

    rings_is : (l j : ℕ) → (k ≡ j) ⊎ (k ≡ j → ⊥) → at j ≡ Some (Rings l) → at' j ≡ Some (Rings l)
    rings_is l j (inl e) is = subst (λ i. at' i ≡ Some (Rings l)) e (rings_same l (subst (λ i. at i ≡ Some (Rings l)) (sym e) is))
    rings_is l j (inr d) is = others j d ∙ is

    counts_was : (l : ℕ) → (k ≡ l) ⊎ (k ≡ l → ⊥) → (it : Counts) → counts_in (at' l) ≡ Some it
        → (was : Counts) × ((counts_in (at l) ≡ Some was) × ((was.own ≡ it.own) × (was.members ≡ it.members)))
    counts_was l (inl e) it is =
        subst (λ i. (was : Counts) × ((counts_in (at i) ≡ Some was) × ((was.own ≡ it.own) × (was.members ≡ it.members)))) e
        (counts_same it (subst (λ i. counts_in (at' i) ≡ Some it) (sym e) is))
    counts_was l (inr d) it is = (it, (sym (ap counts_in (others l d)) ∙ is, (refl, refl)))

    entry_now : (l : ℕ) → (k ≡ l) ⊎ (k ≡ l → ⊥) → EntryCame at' q l (at' l)
    entry_now l (inl e) = subst (λ i. EntryCame at' q i (at' i)) e here
    entry_now l (inr d) =
        subst (EntryCame at' q l) (sym (others l d))
        (entry_on at at' p q onward.stays.done (no_more at p q onward) l (record {
          to = λ j m e. tells_is j ∙ e;
          from = λ j m e. sym (tells_is j) ∙ e;
          rings = λ j e. rings_is l j (cases_eq k j) e;
        }) (at l) (λ on e. leaves l on d e) (r.came l))

    shield_was : (l on : ℕ) → (k ≡ l) ⊎ (k ≡ l → ⊥) → at' l ≡ Some (Shields on) → at l ≡ Some (Shields on)
    shield_was l on (inl e) is =
        subst (λ i. at i ≡ Some (Shields on)) e (shields_same on (subst (λ i. at' i ≡ Some (Shields on)) (sym e) is))
    shield_was l on (inr d) is = sym (others l d) ∙ is

    pub replaced_right : Right at' q
    replaced_right = record {
      single = λ j. let a = r.single j in let b = onward.fewer (is_key (the_key j)) (key_is_of j) in omega (arith, a, b);
      made = λ l on e. let a = r.made l on (sym (own_is l) ∙ e) in let b = onward.stays.made in omega (arith, a, b);
      rising = λ l i on other e f h. r.rising l i on other (sym (own_is l) ∙ e) (sym (own_is i) ∙ f) h;
      most = λ l it e m among.
          let w = counts_was l (cases_eq k l) it e in
          let a = r.most l w.0 w.1.0 m (subst (IsIn m) (sym w.1.1.1) among) in
          let b = w.1.1.0 in
          omega (arith, a, b);
      telling = λ j l m e it f.
          let w = counts_was l (cases_eq k l) it f in
          subst (IsIn m) w.1.1.1 (r.telling j l m (sym (tells_is j) ∙ e) w.0 w.1.0);
      told = λ j l m e. let a = r.told j l m (sym (tells_is j) ∙ e) in let b = onward.stays.made in omega (arith, a, b);
      behind = λ l on j m e f. r.behind l on j m (shield_was l on (cases_eq k l) e) (sym (tells_is j) ∙ f);
      registered = λ j l m e pending.
          let was = onward.stays.pending m (r.told j l m (sym (tells_is j) ∙ e)) pending in
          let a = r.registered j l m (sym (tells_is j) ∙ e) was.0 in
          let b = was.1 (is_key (the_key j)) in
          omega (arith, a, b);
      came = λ l. entry_now l (cases_eq k l);
    }
