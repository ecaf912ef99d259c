-- What a tree leaves where it ends.
use Rattle.std.proofs.Common.{◌≡◌, ◌⊎◌, inl, inr, ℕ, ◌+◌, ◌≤◌, ◌<◌, Bool, true, false, List, [], ◌∷◌, ◌++◌, None, length, refl, sym, ap, subst, ◌∙◌, arith}
use Rattle.std.proofs.Common.{length-append}
use Rattle.std.proofs.lemmas.Bool.{cases_eq}
use Rattle.model_value.specs.Action.{Action}
use Rattle.model_value.specs.Value.{Outcome}
use Rattle.model_wire.specs.declared.event.Event.TheVariants as event
use Rattle.model_wire.specs.Call.{Answer, Call}
use Rattle.model_wire.specs.Event.{Event}
use Rattle.model_wire.specs.Fits.{fits}
use Rattle.model_wire.specs.Journal.{Entry, Answered, Refused}
use Rattle.model_wire.specs.Trace.{End}
use Rattle.model_loop.specs.Futures.{is_pending, is_pending_at, new_plain, next_future, settle}
use Rattle.model_loop.specs.Handles.{soon}
use Rattle.model_loop.specs.Loop.{Loop}
use Rattle.model_loop.specs.Owning.{is_plain}
use Rattle.model_loop.specs.Parts.{Parts, Plain}
use Rattle.model_loop.proofs.FutureCases.{is_plain_at}
use Rattle.model_stream.specs.Doing.{Doing, Ends, Changes, Asks, MakeFuture, CallSoon, Settle}
use Rattle.model_machine.specs.Does.{does}
use Rattle.model_machine.specs.State.{State, noted, unbooked_in}
use Rattle.model_machine.specs.Told.{told_by, told_in}
use Rattle.model_machine.specs.Went.{answered_so, ask_so, fitted_so}
use Rattle.law_cancel.proofs.Lookups.{get-push_last, get-push_other}
use Rattle.law_steps.proofs.CancelSound.{plain_within}
use Rattle.law_steps.proofs.Settling.{IsSettled, settle_cases}
use Rattle.law_changes.specs.Changes.{CallsSoon, MakesFuture, Settles}
use Rattle.law_changes.specs.Reaches.{stays, goes}
use Rattle.law_cases.specs.Trees.{Keeping, is_of_streams, names_opened}
use Rattle.law_cases.specs.TreeEnd.{IsTreeEnd, owned_in}

-- what is asked tells no group
told_called : (events : List Event) (call : Call) (group : ℕ) → told_in (events ++ event.Called call ∷ []) group ≡ told_in events group
told_called [] call group = refl
told_called (event.Called other ∷ events) call group = told_called events call group
told_called (event.Got answer ∷ events) call group = told_called events call group
told_called (event.Said task text ∷ events) call group = told_called events call group
told_called (event.Ran it ∷ events) call group = ap (told_by group it) (told_called events call group)

told_got : (events : List Event) (answer : Answer) (group : ℕ) → told_in (events ++ event.Got answer ∷ []) group ≡ told_in events group
told_got [] answer group = refl
told_got (event.Called call ∷ events) answer group = told_got events answer group
told_got (event.Got other ∷ events) answer group = told_got events answer group
told_got (event.Said task text ∷ events) answer group = told_got events answer group
told_got (event.Ran it ∷ events) answer group = ap (told_by group it) (told_got events answer group)

-- ---- what an outcome leaves of futures
-- those that are plain stay so, and others than this one are as they were
record Leaves (id : ℕ) (p q : Parts) : Type 0 where
  plain : (future : ℕ) → is_plain q future ≡ is_plain p future
  pending : (future : ℕ) → (id ≡ future → ⊥) → is_pending q future ≡ is_pending p future
  made : next_future q ≡ next_future p

settle_leaves : (id : ℕ) (outcome : Outcome) (p : Parts) → Leaves id p (settle id outcome p)
settle_leaves id outcome p = settle_cases (Leaves id p) id outcome p (record { plain = λ future. refl; pending = λ future n. refl; made = refl }) settled
  where
    settled : (q : Parts) → IsSettled id p q → Leaves id p q
    settled q is = record {
      plain = λ future. at future (cases_eq id future);
      pending = λ future n. ap is_pending_at (is.others future n);
      made = is.made;
    }
      where
        at : (future : ℕ) → (id ≡ future) ⊎ (id ≡ future → ⊥) → is_plain q future ≡ is_plain p future
        at future (inl same) = subst (λ k. is_plain q k ≡ is_plain p k) same is.plain
        at future (inr n) = ap is_plain_at (is.others future n)

-- ---- one change, and one ask
module _ {S : Type 0} (s : State S) where
  tree_same : IsTreeEnd s s
  tree_same = record {
    program = refl;
    extra = refl;
    generators = refl;
    streams = refl;
    futures = refl;
    main_done = refl;
    loop = refl;
    row = stays;
    told = λ group. refl;
    kept = λ future h. h;
    made = λ future from below. absurd (omega (arith, from, below));
  }

  tree_makes : (u : State S) → IsTreeEnd s u → IsTreeEnd s (unbooked_in new_plain u)
  tree_makes u it = record {
    program = it.program;
    extra = it.extra;
    generators = it.generators;
    streams = it.streams;
    futures = it.futures;
    main_done = it.main_done;
    loop = ap (λ (l : Loop). record l { parts = new_plain u.loop.parts }) it.loop;
    row = goes it.row (MakesFuture Plain) refl;
    told = it.told;
    kept = λ future h. plain_on future (it.kept future h);
    made = λ future from below. made_on future from below (cases_eq future (length u.loop.parts.futures));
  }
    where
      other : (future : ℕ) → future < length u.loop.parts.futures → future ≡ length u.loop.parts.futures → ⊥
      other future below same = omega (arith, below, same)

      plain_on : (future : ℕ) → is_plain u.loop.parts future ≡ true → is_plain (new_plain u.loop.parts) future ≡ true
      plain_on future h =
          ap is_plain_at (get-push_other u.loop.parts.futures _ future (other future (plain_within u.loop.parts future h).1)) ∙ h

      made_on : (future : ℕ) → next_future s.loop.parts ≤ future → future < next_future (new_plain u.loop.parts)
          → (future ≡ length u.loop.parts.futures) ⊎ (future ≡ length u.loop.parts.futures → ⊥)
          → (is_plain (new_plain u.loop.parts) future ≡ true) × (is_pending (new_plain u.loop.parts) future ≡ true)
      made_on future from below (inl same) =
          subst (λ k. (is_plain (new_plain u.loop.parts) k ≡ true) × (is_pending (new_plain u.loop.parts) k ≡ true)) (sym same)
          (ap is_plain_at (get-push_last u.loop.parts.futures _), ap is_pending_at (get-push_last u.loop.parts.futures _))
      made_on future from below (inr n) =
          let count = length-append u.loop.parts.futures (record { kind = Plain; outcome = None; callbacks = [] } ∷ []) in
          let before = it.made future from (below_on future (length u.loop.parts.futures) (subst (λ k. future < k) count below) n) in
          let same = get-push_other u.loop.parts.futures (record { kind = Plain; outcome = None; callbacks = [] }) future n in
          (ap is_plain_at same ∙ before.0, ap is_pending_at same ∙ before.1)
        where
          below_on : (future count : ℕ) → future < count + 1 → (future ≡ count → ⊥) → future < count
          below_on future count below n = omega (arith, below, n)

  tree_calls : (action : Action) (u : State S) → is_of_streams action ≡ true → IsTreeEnd s u → IsTreeEnd s (unbooked_in (soon action) u)
  tree_calls action u is it = record {
    program = it.program;
    extra = it.extra;
    generators = it.generators;
    streams = it.streams;
    futures = it.futures;
    main_done = it.main_done;
    loop = ap (λ (l : Loop). record l { parts = soon action u.loop.parts }) it.loop;
    row = goes it.row (CallsSoon action) is;
    told = it.told;
    kept = it.kept;
    made = it.made;
  }

  tree_settles : (id : ℕ) (outcome : Outcome) (u : State S) → is_plain s.loop.parts id ≡ true
      → names_opened (length s.streams.connections) outcome ≡ true → IsTreeEnd s u
      → IsTreeEnd s (unbooked_in (settle id outcome) u)
  tree_settles id outcome u own none it =
      let leaves = settle_leaves id outcome u.loop.parts in
      record {
        program = it.program;
        extra = it.extra;
        generators = it.generators;
        streams = it.streams;
        futures = it.futures;
        main_done = it.main_done;
        loop = ap (λ (l : Loop). record l { parts = settle id outcome u.loop.parts }) it.loop;
        row = goes it.row (Settles id outcome) (it.kept id own, none);
        told = it.told;
        kept = λ future h. leaves.plain future ∙ it.kept future h;
        made = λ future from below.
            let before = it.made future from (subst (λ k. future < k) leaves.made below) in
            (leaves.plain future ∙ before.0, leaves.pending future (other future from) ∙ before.1);
      }
    where
      other : (future : ℕ) → next_future s.loop.parts ≤ future → id ≡ future → ⊥
      other future from same = let within = (plain_within s.loop.parts id own).1 in omega (arith, within, from, same)

  tree_asks : (call : Call) (u : State S) → IsTreeEnd s u → IsTreeEnd s (noted (event.Called call) u)
  tree_asks call u it = record {
    program = it.program;
    extra = it.extra;
    generators = it.generators;
    streams = it.streams;
    futures = it.futures;
    main_done = it.main_done;
    loop = it.loop;
    row = it.row;
    told = λ group. told_called u.events call group ∙ it.told group;
    kept = it.kept;
    made = it.made;
  }

  tree_hears : (call : Call) (answer : Answer) (left : List Entry) (u : State S) → IsTreeEnd s u
      → IsTreeEnd s (noted (event.Got answer) (record (noted (event.Called call) u) { answers = left }))
  tree_hears call answer left u it = record {
    program = it.program;
    extra = it.extra;
    generators = it.generators;
    streams = it.streams;
    futures = it.futures;
    main_done = it.main_done;
    loop = it.loop;
    row = it.row;
    told = λ group. told_got (u.events ++ event.Called call ∷ []) answer group ∙ told_called u.events call group ∙ it.told group;
    kept = it.kept;
    made = it.made;
  }

-- ---- a whole tree: what holds wherever the run ends, and of each end of the tree, holds of what it comes to
module _ {S R A : Type 0} (halts : End → State S → R) (P : R → Type 0) (s : State S)
    (halted : (how : End) (last : State S) → IsTreeEnd s last → P (halts how last))
    (Left : ℕ → A → Type 0) (next : A → State S → R)
    (each : (it : A) (t : State S) → IsTreeEnd s t → Left (next_future t.loop.parts) it → P (next it t)) where
  abbrev heard : Call → Answer → List Entry → State S → State S
  heard call answer left u = noted (event.Got answer) (record (noted (event.Called call) u) { answers = left })

  asked : (call : Call) (go_on : Answer → State S → R) (u : State S) → IsTreeEnd s u
      → ((answer : Answer) (left : List Entry) → P (go_on answer (heard call answer left u)))
      → P (ask_so halts call go_on u)
  asked call go_on u it each = by u.answers
    where
      fit : (b : Bool) (answer : Answer) (left : List Entry) → P (fitted_so halts b call answer go_on (heard call answer left u))
      fit true answer left = each answer left
      fit false answer left = halted _ _ (tree_hears s call answer left u it)

      by : (entries : List Entry) → P (answered_so halts entries call go_on (noted (event.Called call) u))
      by [] = halted _ _ (tree_asks s call u it)
      by (Refused line cause ∷ entries) = halted _ _ (tree_asks s call u it)
      by (Answered answer ∷ entries) = fit (fits call answer) answer entries

  along : (tree : Doing A) (number : ℕ) (u : State S) → number ≡ next_future u.loop.parts → Keeping Left (owned_in s) number tree
      → IsTreeEnd s u → P (does halts tree next u)
  along (Ends result) number u same keeps it = each result u it (subst (λ n. Left n result) same keeps)
  along (Changes MakeFuture rest) number u same keeps it =
      along rest (number + 1) (unbooked_in new_plain u) (ap (λ n. n + 1) same ∙ sym (length-append u.loop.parts.futures _)) keeps (tree_makes s u it)
  along (Changes (CallSoon action) rest) number u same keeps it =
      along rest number (unbooked_in (soon action) u) same keeps.1 (tree_calls s action u keeps.0 it)
  along (Changes (Settle future outcome) rest) number u same keeps it =
      along rest number (unbooked_in (settle future outcome) u) (same ∙ sym (settle_leaves future outcome u.loop.parts).made) keeps.1
      (tree_settles s future outcome u keeps.0.0 keeps.0.1 it)
  along (Asks call rest) number u same keeps it =
      asked call (λ answer. does halts (rest answer) next) u it
      (λ answer left. along (rest answer) number (heard call answer left u) same (keeps.1 answer) (tree_hears s call answer left u it))

  pub tree_ends : (tree : Doing A) → Keeping Left (owned_in s) (next_future s.loop.parts) tree → P (does halts tree next s)
  tree_ends tree keeps = along tree (next_future s.loop.parts) s refl keeps (tree_same s)
