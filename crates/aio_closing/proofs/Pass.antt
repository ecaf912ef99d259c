-- A pass over the children that run comes to each of them, in order.
use Rattle.std.proofs.Common.{◌≡◌, ℕ, zero, suc, ◌+◌, Bool, true, false, cond, not, List, [], ◌∷◌, ◌++◌, Option, Some, None}
use Rattle.std.proofs.Common.{length, take, drop, map, refl, sym, ap, ◌∙◌, subst, append-nil, append_assoc, arith}
use Rattle.std.specs.Prelude.{is_some, slice_get, slice_set}
use Rattle.std.specs.List.{filter}
use Rattle.std.proofs.lemmas.List.{length-map}
use Rattle.std.proofs.lemmas.List.Elements.{filter-append}
use Rattle.model_hub.specs.declared.child.Child.{Child}
use Rattle.model_hub.specs.Children.{runs}
use Rattle.model_hub.specs.Closing.{number_of}
use Rattle.model_hub.specs.Told.{Kills, with_kill}
use Rattle.aio_inbox.specs.declared.view.PosterView.{PosterView}
use Rattle.aio_hub.specs.declared.kit.PumpEnd.{PumpEnd}
use Rattle.aio_hub.specs.declared.kit.PumpReports.{PumpReports}
use Rattle.aio_lanes.specs.declared.child_lanes.ChildLanes.{ChildLanes}
use Rattle.aio_lanes.specs.Given.{lanes_at}
use Rattle.aio_roster.specs.Rosters.{RosterSeen, Numbered, running_of}
use Rattle.aio_roster.specs.Changes.{IsKth}
use Rattle.aio_roster.proofs.Seated.{some_is, none_some}
use Rattle.aio_roster.proofs.Running.{find, get_middle, goes}
use Rattle.aio_closing.specs.Kills.{running_in, kills_in, with_kills}
use Rattle.aio_closing.specs.Passes.{KillsKth}
use Rattle.aio_closing.specs.Ends.{ends_of, AreEnds, TellsKth, HaveRuns}
use Rattle.aio_closing.specs.declared.telling.Telling.{Telling}

running_cons : (c : Child) (cs : List Child) (b : Bool) → runs c.stay ≡ b → running_in (c ∷ cs) ≡ cond b (c ∷ running_in cs) (running_in cs)
running_cons c cs b is = ap (λ x. cond x (c ∷ filter goes cs) (filter goes cs)) is

-- the child with the k-th of the numbers of those that run is the k-th of these
pub kth_is : (roster : RosterSeen) (k : ℕ) (child : Child) → Numbered roster.children → IsKth k roster child
    → slice_get (running_in roster.children) k ≡ Some child
kth_is roster k child numbered kth =
    let f = find roster.children k child.number kth.named in
    let middle = ap (λ (l : List Child). slice_get l (length f.before)) f.whole ∙ get_middle f.before f.child f.after in
    let place = sym f.number ∙ numbered (length f.before) f.child middle in
    let same : f.child ≡ child =
    some_is f.child child (sym (ap (slice_get roster.children) place ∙ middle) ∙ kth.is.at) in
    let whole =
    ap running_in f.whole ∙ filter-append goes f.before (f.child ∷ f.after)
    ∙ ap (λ (l : List Child). running_in f.before ++ l) (running_cons f.child f.after true f.goes) in
    let count = sym (length-map (running_in f.before) number_of) ∙ f.earlier in
    ap (λ (l : List Child). slice_get l k) whole
    ∙ ap (slice_get (running_in f.before ++ f.child ∷ running_in f.after)) (sym count)
    ∙ get_middle (running_in f.before) f.child (running_in f.after)
    ∙ ap Some same

-- what is left from place k on is what stands there, and what is left from the next on
pub left_at : (xs : List Child) (k : ℕ) (x : Child) → slice_get xs k ≡ Some x → drop k xs ≡ x ∷ drop (suc k) xs
left_at [] k x at = absurd (none_some x at)
left_at (y ∷ ys) zero x at = ap (λ (c : Child). c ∷ ys) (some_is y x at)
left_at (y ∷ ys) (suc k) x at = left_at ys k x at

-- ---- kills
kills_first : (child : Child) (more : List Child) (kills : Option Kills) (b : Bool) → not child.exited ≡ b
    → with_kills (kills_in (child ∷ more)) kills ≡ with_kills (kills_in more) (cond b (with_kill child.number kills) kills)
kills_first child more kills b is =
    ap (λ x. with_kills (map number_of (cond x (child ∷ filter (λ (c : Child). not c.exited) more) (filter (λ (c : Child). not c.exited) more))) kills) is
    ∙ each b
  where
    each : (x : Bool)
        → with_kills (map number_of (cond x (child ∷ filter (λ (c : Child). not c.exited) more) (filter (λ (c : Child). not c.exited) more))) kills
        ≡ with_kills (kills_in more) (cond x (with_kill child.number kills) kills)
    each true = refl
    each false = refl

pub kill_step : (roster : RosterSeen) (k : ℕ) (start old new : Option Kills) → Numbered roster.children → KillsKth k roster old new
    → with_kills (kills_in (drop k (running_in roster.children))) old ≡ with_kills (kills_in (running_in roster.children)) start
    → with_kills (kills_in (drop (k + 1) (running_in roster.children))) new ≡ with_kills (kills_in (running_in roster.children)) start
kill_step roster k start old new numbered killed before =
    let at = left_at (running_in roster.children) k killed.child (kth_is roster k killed.child numbered killed.is) in
    let next : k + 1 ≡ suc k = omega arith in
    ap (λ n. with_kills (kills_in (drop n (running_in roster.children))) new) next
    ∙ ap (with_kills (kills_in (drop (suc k) (running_in roster.children)))) killed.kills
    ∙ sym (kills_first killed.child (drop (suc k) (running_in roster.children)) old (not killed.child.exited) refl)
    ∙ ap (λ (l : List Child). with_kills (kills_in l) old) (sym at)
    ∙ before

-- ---- no two children that run have one number
take_front : (xs ys : List Child) → take (length xs) (xs ++ ys) ≡ xs
take_front [] ys = refl
take_front (x ∷ xs) ys = ap (λ (l : List Child). x ∷ l) (take_front xs ys)

-- how many run before the child with this number
place_of : (children : List Child) → Numbered children → (k n : ℕ) → slice_get (running_of children) k ≡ Some n
    → length (running_of (take n children)) ≡ k
place_of children numbered k n named =
    let f = find children k n named in
    let middle = ap (λ (l : List Child). slice_get l (length f.before)) f.whole ∙ get_middle f.before f.child f.after in
    let place : n ≡ length f.before = sym f.number ∙ numbered (length f.before) f.child middle in
    let front : take n children ≡ f.before =
    ap (λ m. take m children) place ∙ ap (take (length f.before)) f.whole ∙ take_front f.before (f.child ∷ f.after) in
    ap (λ (l : List Child). length (running_of l)) front ∙ f.earlier

pub apart : (children : List Child) → Numbered children → (j k n : ℕ) → slice_get (running_of children) j ≡ Some n
    → slice_get (running_of children) k ≡ Some n → j ≡ k
apart children numbered j k n at_j at_k = sym (place_of children numbered j n at_j) ∙ place_of children numbered k n at_k

-- ---- the lanes of those that were not taken in
lanes_there : {Run : Type 0} (xs : List (Option (ChildLanes Run))) (n m : ℕ) (x : Option (ChildLanes Run)) → (m ≡ n → ⊥)
    → lanes_at (slice_set xs n x) m ≡ lanes_at xs m
lanes_there [] n m x ne = refl
lanes_there (y ∷ ys) zero zero x ne = absurd (ne refl)
lanes_there (y ∷ ys) zero (suc m) x ne = refl
lanes_there (y ∷ ys) (suc n) zero x ne = refl
lanes_there (y ∷ ys) (suc n) (suc m) x ne = lanes_there ys n m x (λ same. ne (ap suc same))

pub runs_later : {Run : Type 0} (roster : RosterSeen) (lanes lanes_now : List (Option (ChildLanes Run))) (k : ℕ) (child : Child)
    → Numbered roster.children → IsKth k roster child → lanes_now ≡ slice_set lanes child.number None → HaveRuns k roster lanes
    → HaveRuns (k + 1) roster lanes_now
runs_later {Run} roster lanes lanes_now k child numbered kth now before j n le named =
    ap (λ (l : List (Option (ChildLanes Run))). is_some (lanes_at l n)) now
    ∙ ap is_some (lanes_there lanes child.number n None other) ∙ before j n (omega (arith, le)) named
  where
    other : n ≡ child.number → ⊥
    other same =
        let here = apart roster.children numbered j k n named (kth.named ∙ ap Some (sym same)) in
        omega (arith, le, here)

-- ---- what is told
take_more : (xs : List Child) (k : ℕ) (x : Child) → slice_get xs k ≡ Some x → take (suc k) xs ≡ take k xs ++ x ∷ []
take_more [] k x at = absurd (none_some x at)
take_more (y ∷ ys) zero x at = ap (λ (c : Child). c ∷ []) (some_is y x at)
take_more (y ∷ ys) (suc k) x at = ap (λ (l : List Child). y ∷ l) (take_more ys k x at)

ends_more : (cs : List Child) (told : List PumpEnd) (c : Child) (reports : PumpReports PosterView) → AreEnds cs told
    → AreEnds (cs ++ c ∷ []) (told ++ ends_of c.number reports)
ends_more [] told c reports none =
    (reports, [], ap (λ (l : List PumpEnd). l ++ ends_of c.number reports) none ∙ sym (append-nil (ends_of c.number reports)), refl)
ends_more (d ∷ ds) told c reports (first, rest, is, more) = (
  first,
  rest ++ ends_of c.number reports,
  ap (λ (l : List PumpEnd). l ++ ends_of c.number reports) is ∙ append_assoc (ends_of d.number first) rest (ends_of c.number reports),
  ends_more ds rest c reports more,
)

pub told_step : (roster : RosterSeen) (k : ℕ) (old new : Telling) → Numbered roster.children → TellsKth k roster old new
    → (old.short ≡ false → AreEnds (take k (running_in roster.children)) old.ends.items)
    → new.short ≡ false → AreEnds (take (k + 1) (running_in roster.children)) new.ends.items
told_step roster k old new numbered tells before went =
    let all = running_in roster.children in
    let adds = tells.adds went in
    let next : k + 1 ≡ suc k = omega arith in
    let whole : take (k + 1) (running_in roster.children) ≡ take k (running_in roster.children) ++ tells.child ∷ [] =
    ap (λ n. take n (running_in roster.children)) next ∙ take_more all k tells.child (kth_is roster k tells.child numbered tells.is) in
    subst (λ (cs : List Child). AreEnds cs new.ends.items) (sym whole)
    (subst (AreEnds (take k all ++ tells.child ∷ [])) (sym adds.1)
    (ends_more (take k all) old.ends.items tells.child tells.reports (before adds.0)))
