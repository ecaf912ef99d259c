-- Who runs, and which seats are free, stays where children note posts or are served.
use Rattle.std.proofs.Common.{◌≡◌, ℕ, zero, suc, true, false, cond, List, [], ◌∷◌, ◌++◌, Some, None, map, refl, sym, ap, ◌∙◌, subst}
use Rattle.std.specs.Prelude.{slice_get}
use Rattle.model_pump.specs.Posts.{Post}
use Rattle.model_hub.specs.declared.child.Child.{Child}
use Rattle.model_hub.specs.declared.child.Seats.{Seats}
use Rattle.model_hub.specs.Children.{pump_of, pump_at, holds, runs}
use Rattle.model_hub.specs.Posts.{note, told_of, items_from}
use Rattle.model_wire.specs.Call.{Item}
use Rattle.law_hub.specs.Seats.{told_all}
use Rattle.law_hub.proofs.Kept.{Same, same_by}
use Rattle.aio_serving.specs.Heads.{HeadsSeen}
use Rattle.aio_select.specs.Answered.{note_all, Notes}
use Rattle.aio_roster.specs.Rosters.{Numbered, IsFree, running_of}
use Rattle.aio_roster.specs.Changes.{MayBeLent, LeavesFree}
use Rattle.aio_roster.proofs.Seated.{some_is, none_some}
use Rattle.aio_roster.proofs.Running.{running_cons}
use Rattle.aio_live.specs.States.{IsState}
use Rattle.aio_live.proofs.Keeping.{kept_state}

abbrev pub NotingKeeps : (Child → Child) → Type 0
NotingKeeps f = (child : Child) → Same child (f child)

-- what a list of changed children has, the list has changed
from_map : (f : Child → Child) (cs : List Child) (n : ℕ) (new : Child) → slice_get (map f cs) n ≡ Some new
    → (old : Child) × (slice_get cs n ≡ Some old) × (f old ≡ new)
from_map f [] n new h = absurd (none_some new h)
from_map f (c ∷ cs) zero new h = (c, refl, some_is (f c) new h)
from_map f (c ∷ cs) (suc n) new h = from_map f cs n new h

module _ (f : Child → Child) (keeps : NotingKeeps f) where
  running_map : (cs : List Child) → running_of (map f cs) ≡ running_of cs
  running_map [] = refl
  running_map (c ∷ cs) =
      running_cons (f c) (map f cs) (runs c.stay) (ap runs (keeps c).stay)
      ∙ ap (λ n. cond (runs c.stay) (n ∷ running_of (map f cs)) (running_of (map f cs))) (keeps c).number
      ∙ ap (λ (l : List ℕ). cond (runs c.stay) (c.number ∷ l) l) (running_map cs)
      ∙ sym (running_cons c cs (runs c.stay) refl)

  pump_same : (seat : ℕ) (c : Child) → pump_of seat (f c) ≡ pump_of seat c
  pump_same seat c =
      ap (λ stay. cond (holds stay) (pump_at seat (f c).seats) None) (keeps c).stay
      ∙ ap (λ seats. cond (holds c.stay) (pump_at seat seats) None) (keeps c).seats

  free_map : (cs : List Child) (seat : ℕ) → IsFree seat cs → IsFree seat (map f cs)
  free_map cs seat free n new h =
      let old = from_map f cs n new h in
      ap (pump_of seat) (sym old.2) ∙ pump_same seat old.0 ∙ free n old.0 old.1

  lent_map : (cs : List Child) → LeavesFree cs (map f cs)
  lent_map cs seats lent =
      record {
        within = lent.within;
        stdin = free_map cs seats.stdin lent.stdin;
        out = free_map cs seats.out lent.out;
        errs = free_map cs seats.errs lent.errs;
        exit = free_map cs seats.exit lent.exit;
      }

  numbered_map : (cs : List Child) → Numbered cs → Numbered (map f cs)
  numbered_map cs all n new h =
      let old = from_map f cs n new h in
      ap (λ (c : Child). c.number) (sym old.2) ∙ (keeps old.0).number ∙ all n old.0 old.1

  told_map : (cs : List Child) (came : Post) → told_of (map f cs) came ≡ told_of cs came
  told_map [] came = refl
  told_map (c ∷ cs) came =
      ap (λ n. items_from n came.kind (pump_of came.seat (f c)) ++ told_of (map f cs) came) (keeps c).number
      ∙ ap (λ from. items_from c.number came.kind from ++ told_of (map f cs) came) (pump_same came.seat c)
      ∙ ap (λ (l : List Item). items_from c.number came.kind (pump_of came.seat c) ++ l) (told_map cs came)

  pub told_all_map : (cs : List Child) (posts : List Post) → told_all (map f cs) posts ≡ told_all cs posts
  told_all_map cs [] = refl
  told_all_map cs (came ∷ posts) =
      ap (λ (l : List Item). l ++ told_all (map f cs) posts) (told_map cs came)
      ∙ ap (λ (l : List Item). told_of cs came ++ l) (told_all_map cs posts)

-- ---- posts
keeps_note : (came : Post) → NotingKeeps (note came)
keeps_note came child = same_by (pump_of came.seat child) came.kind child

pub running_noted : (posts : List Post) (cs : List Child) → running_of (note_all posts cs) ≡ running_of cs
running_noted [] cs = refl
running_noted (came ∷ posts) cs = running_noted posts (map (note came) cs) ∙ running_map (note came) (keeps_note came) cs

pub numbered_noted : (posts : List Post) (cs : List Child) → Numbered cs → Numbered (note_all posts cs)
numbered_noted [] cs all = all
numbered_noted (came ∷ posts) cs all = numbered_noted posts (map (note came) cs) (numbered_map (note came) (keeps_note came) cs all)

lent_noted : (posts : List Post) (cs : List Child) → LeavesFree cs (note_all posts cs)
lent_noted [] cs seats lent = lent
lent_noted (came ∷ posts) cs seats lent =
    lent_noted posts (map (note came) cs) seats (lent_map (note came) (keeps_note came) cs seats lent)

pub leaves_noted : (posts : List Post) (cs next : List Child) → next ≡ note_all posts cs → LeavesFree cs next
leaves_noted posts cs next is seats lent = subst (λ (l : List Child). MayBeLent l seats) (sym is) (lent_noted posts cs seats lent)

-- ---- who ran before

pub ran_map : (f : Child → Child) → ((child : Child) → runs (f child).stay ≡ true → runs child.stay ≡ true) → (cs : List Child) (n : ℕ)
    → elim (slice_get (map f cs) n) [ None ↦ false | Some child ↦ runs child.stay ] ≡ true
    → elim (slice_get cs n) [ None ↦ false | Some child ↦ runs child.stay ] ≡ true
ran_map f before [] n h = h
ran_map f before (c ∷ cs) zero h = before c h
ran_map f before (c ∷ cs) (suc n) h = ran_map f before cs n h

pub ran_noted : (posts : List Post) (cs : List Child) (n : ℕ)
    → elim (slice_get (note_all posts cs) n) [ None ↦ false | Some child ↦ runs child.stay ] ≡ true
    → elim (slice_get cs n) [ None ↦ false | Some child ↦ runs child.stay ] ≡ true
ran_noted [] cs n h = h
ran_noted (came ∷ posts) cs n h =
    ran_map (note came) (λ child goes. ap runs (sym (keeps_note came child).stay) ∙ goes) cs n (ran_noted posts (map (note came) cs) n h)

-- ---- what a hub keeps holds on
pub state_noted : (children next : List Child) (taken taken_now : List Post) (free : List Seats) (heads : HeadsSeen) → IsState children free heads
    → Notes children taken next taken_now → IsState next free heads
state_noted children next taken taken_now free heads state notes =
    kept_state children next free heads heads state (leaves_noted notes.posts children next notes.notes)
    (λ k n h.
    state.lanes k n (ap (λ l. slice_get l k) (sym (ap running_of notes.notes ∙ running_noted notes.posts children)) ∙ h))
    (λ n at few. few)
