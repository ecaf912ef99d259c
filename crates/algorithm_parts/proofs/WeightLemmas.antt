-- Each step of a request lowers its weight.
use Rattle.std.proofs.Common.{◌≡◌, ℕ, zero, suc, ◌+◌, ◌*◌, ◌^◌, ◌<◌, ◌≤◌, Bool, true, false, List, [], ◌∷◌, ◌++◌, Option, Some, None, length, min, get_or}
use Rattle.std.proofs.Common.{slice_get, slice_set, refl, ap, sym, ◌∙◌, arith, if◌then◌else◌}
use Rattle.std.proofs.Math.Nat.{pow-le-pow_right, one-le-pow, mul-le-mul_left, mul-le-mul_right, pow-succ'}
use Rattle.std.specs.Option.{option_map, option_map_or}
use Rattle.model_value.specs.Value.{Outcome}
use Rattle.model_loop.specs.Parts.{FutureKind, Plain, OfTask, Many, Future, Task, Parts}
use Rattle.model_loop.specs.Futures.{with_future, settle, mark_asked, asked_kind}
use Rattle.model_loop.specs.Tasks.{set_must_cancel, raise_count}
use Rattle.model_loop.specs.Cancel.{has_seen}
use Rattle.model_loop.proofs.FutureCases.{settled, settled_as}
use Rattle.law_cancel.proofs.Seen.{left, left-push, left_falls}
use Rattle.law_cancel.proofs.Effects.{soon_all-futures, settle-tasks, mark_asked-tasks, change_task-futures, length-change_task, done_as, asked_as}
use Rattle.algorithm_parts.specs.Shape.{members_of, members_at}
use Rattle.algorithm_parts.specs.declared.walk.WalkFrame.{WalkFrame}
use Rattle.algorithm_parts.specs.declared.walk.WalkFrame.TheVariants.{Waits, Members}
use Rattle.algorithm_parts.specs.declared.walk.Go.{Go}
use Rattle.algorithm_parts.specs.declared.walk.Go.TheVariants.{Visit, Next, Answer}
use Rattle.algorithm_parts.specs.Weight.{shape, width, unit, places_left, next_weight, frame_weight, frames_weight, weight}

-- ---- the shape stays
shape-set : (fs : List Future) (id : ℕ) (old new : Future) → slice_get fs id ≡ Some old → members_of new.kind ≡ members_of old.kind
    → shape (slice_set fs id new) ≡ shape fs
shape-set [] id old new e m = refl
shape-set (f ∷ fs) zero old new e m = let same : f ≡ old = cc in ap (λ x. x ∷ shape fs) (m ∙ ap (λ (g : Future). members_of g.kind) (sym same))
shape-set (f ∷ fs) (suc id) old new e m = ap (λ xs. members_of f.kind ∷ xs) (shape-set fs id old new e m)

pub settle-shape : (id : ℕ) (outcome : Outcome) (p : Parts) → shape (settle id outcome p).futures ≡ shape p.futures
settle-shape id outcome p = at (slice_get p.futures id) refl
  where
    until : (future : Future) → slice_get p.futures id ≡ Some future → (o : Option Outcome)
        → shape (settled_as o id future outcome p).futures ≡ shape p.futures
    until future e (Some done) = refl
    until future e None = ap shape (soon_all-futures future.callbacks (with_future id (done_as outcome future) p))
        ∙ shape-set p.futures id future (done_as outcome future) e refl

    at : (f : Option Future) → slice_get p.futures id ≡ f → shape (settled f id outcome p).futures ≡ shape p.futures
    at None e = refl
    at (Some future) e = until future e future.outcome

asked_members : (k : FutureKind) → members_of (asked_kind k) ≡ members_of k
asked_members Plain = refl
asked_members (OfTask task) = refl
asked_members (Many members asked) = refl

pub ask-shape : (id : ℕ) (p : Parts) → shape (mark_asked id p).futures ≡ shape p.futures
ask-shape id p = at (slice_get p.futures id) refl
  where
    at : (o : Option Future) → slice_get p.futures id ≡ o
        → shape (option_map_or (λ (f : Future). with_future id (asked_as f) p) o p).futures ≡ shape p.futures
    at None e = refl
    at (Some future) e = shape-set p.futures id future (asked_as future) e (asked_members future.kind)

-- ---- numbers
module _ (sh : List (List ℕ)) where
  base_positive : 0 < width sh + 2
  base_positive = omega arith

  unit-base : (l id : ℕ) → width sh + 2 ≤ unit sh l id
  unit-base l id =
      let e = l * (length sh + 1) + min id (length sh) in
      let n : e + 1 ≡ suc e = omega arith in
      let h : (width sh + 2) * 1 ≤ (width sh + 2) * (width sh + 2) ^ e = mul-le-mul_left (width sh + 2) (one-le-pow e (width sh + 2) base_positive) in
      let g : (width sh + 2) ^ suc e ≡ (width sh + 2) * (width sh + 2) ^ e = pow-succ' (width sh + 2) e in
      rw (n, g) (omega arith)

  -- one more factor
  up : (l id : ℕ) → (width sh + 2) * unit sh l id ≡ (width sh + 2) ^ suc (l * (length sh + 1) + min id (length sh) + 1)
  up l id = sym (pow-succ' (width sh + 2) (l * (length sh + 1) + min id (length sh) + 1))

  up_member : (l id m : ℕ) → m < id → id < length sh → (width sh + 2) * unit sh l m ≤ unit sh l id
  up_member l id m a b = rw (up l m) (pow-le-pow_right base_positive (omega arith))

  up_waiter : (l k id w : ℕ) → k + 1 ≤ l → (width sh + 2) * unit sh k w ≤ unit sh l id
  up_waiter l k id w a =
      let h : (k + 1) * (length sh + 1) ≤ l * (length sh + 1) = mul-le-mul_right (length sh + 1) a in
      rw (up k w) (pow-le-pow_right base_positive (omega arith))

  unit_mono : (k l id : ℕ) → k ≤ l → unit sh k id ≤ unit sh l id
  unit_mono k l id a =
      let h : k * (length sh + 1) ≤ l * (length sh + 1) = mul-le-mul_right (length sh + 1) a in
      pow-le-pow_right base_positive (omega arith)

  next_mono : (k l id place : ℕ) → k ≤ l → next_weight sh k id place ≤ next_weight sh l id place
  next_mono k l id place a =
      let u = unit_mono k l id a in
      let h : places_left sh id place * (unit sh k id + 2) ≤ places_left sh id place * (unit sh l id + 2) = mul-le-mul_left
      (places_left sh id place) (omega arith) in
      omega arith

  frame_mono : (k l : ℕ) (frame : WalkFrame) → k ≤ l → frame_weight sh k frame ≤ frame_weight sh l frame
  frame_mono k l (Waits id task) a = omega arith
  frame_mono k l (Members id place any) a = let h = next_mono k l id place a in omega arith

  pub frames_mono : (k l : ℕ) (frames : List WalkFrame) → k ≤ l → frames_weight sh k frames ≤ frames_weight sh l frames
  frames_mono k l [] a = omega arith
  frames_mono k l (frame ∷ frames) a = let h = frame_mono k l frame a in let i = frames_mono k l frames a in omega arith

  pub frames-push : (l : ℕ) (frames : List WalkFrame) (frame : WalkFrame)
      → frames_weight sh l (frames ++ frame ∷ []) ≡ frames_weight sh l frames + frame_weight sh l frame
  frames-push l [] frame = omega arith
  frames-push l (f ∷ frames) frame = let h = frames-push l frames frame in omega arith

length_le-width : (sh : List (List ℕ)) (id : ℕ) → length (get_or sh id []) ≤ width sh
length_le-width [] id = omega arith
length_le-width (ms ∷ sh) zero = omega arith
length_le-width (ms ∷ sh) (suc id) = let h = length_le-width sh id in omega arith

module _ (sh : List (List ℕ)) (l : ℕ) where
  -- a visit outweighs an answer, and the members
  pub visit_more : (id : ℕ) → 2 ≤ (width sh + 2) * unit sh l id
  visit_more id =
      let u = unit-base sh l id in
      let h : 2 * unit sh l id ≤ (width sh + 2) * unit sh l id = mul-le-mul_right (unit sh l id) (omega arith) in
      omega arith

  pub visit_many : (id : ℕ) → next_weight sh l id 0 < (width sh + 2) * unit sh l id
  visit_many id =
      let u = unit-base sh l id in
      let r = length_le-width sh id in
      let h : places_left sh id 0 * (unit sh l id + 2) ≤ width sh * (unit sh l id + 2) = mul-le-mul_right (unit sh l id + 2) (omega arith) in
      omega arith

  pub visit_waits : (k id w : ℕ) → k + 1 ≤ l → (width sh + 2) * unit sh k w + 1 < (width sh + 2) * unit sh l id
  visit_waits k id w a =
      let u = unit-base sh l id in
      let h = up_waiter sh l k id w a in
      let g : 2 * unit sh l id ≤ (width sh + 2) * unit sh l id = mul-le-mul_right (unit sh l id) (omega arith) in
      omega arith

  pub next_push : (id place m : ℕ) → m < id → id < length sh → place < length (get_or sh id [])
      → (width sh + 2) * unit sh l m + (next_weight sh l id (place + 1) + 1) < next_weight sh l id place
  next_push id place m a b c =
      let h = up_member sh l id m a b in
      let e : places_left sh id place ≡ places_left sh id (place + 1) + 1 = omega arith in
      rw e (omega arith)

  pub next_skip : (id place : ℕ) → place < length (get_or sh id []) → next_weight sh l id (place + 1) < next_weight sh l id place
  next_skip id place c =
      let e : places_left sh id place ≡ places_left sh id (place + 1) + 1 = omega arith in
      rw e (omega arith)

-- ---- the steps of the code
stays : (go : Go) (frames : List WalkFrame) (s : List ℕ) (p q : Parts) → shape q.futures ≡ shape p.futures → length q.tasks ≡ length p.tasks
    → weight go frames s q ≡ weight go frames s p
unfolding weight
stays go frames s p q e f = rw (e, f) refl

pub weigh_answer : (id : ℕ) (answer : Bool) (frames : List WalkFrame) (s : List ℕ) (p : Parts)
    → weight (Answer answer) frames s p < weight (Visit id) frames s p
unfolding weight
weigh_answer id answer frames s p = (let h = visit_more (shape p.futures) (left (length p.tasks) s) id in omega arith)

pub weigh_settle : (id : ℕ) (answer : Bool) (frames : List WalkFrame) (s : List ℕ) (p q : Parts) (outcome : Outcome) → q ≡ settle id outcome p
    → weight (Answer answer) frames s q < weight (Visit id) frames s p
weigh_settle id answer frames s p q outcome e =
    rw (stays (Answer answer) frames s p q (ap (λ (r : Parts). shape r.futures) e
    ∙ settle-shape id outcome p) (ap (λ (r : Parts). length r.tasks) e ∙ ap length (settle-tasks id outcome p)))
    (weigh_answer id answer frames s p)

pub weigh_many : (id : ℕ) (any : Bool) (frames : List WalkFrame) (s : List ℕ) (p : Parts) → weight (Next id 0 any) frames s p < weight (Visit id) frames s p
unfolding weight
weigh_many id any frames s p = (let h = visit_many (shape p.futures) (left (length p.tasks) s) id in omega arith)

raised-shape : (t : ℕ) (p : Parts) → shape (raise_count t p).futures ≡ shape p.futures
raised-shape t p = ap shape (change_task-futures t _ p)

raised-tasks : (t : ℕ) (p : Parts) → length (raise_count t p).tasks ≡ length p.tasks
raised-tasks t p = length-change_task t _ p

pub weigh_must_cancel : (t id : ℕ) (answer : Bool) (frames : List WalkFrame) (s s' : List ℕ) (p q r : Parts) → s' ≡ s ++ t ∷ [] → q ≡ raise_count t p
    → r ≡ set_must_cancel t q → weight (Answer answer) frames s' r < weight (Visit id) frames s p
unfolding weight
weigh_must_cancel t id answer frames s s' p q r e f g =
    rw (
      stays (Answer answer) frames s' p r (ap (λ (x : Parts). shape x.futures) g ∙ ap shape (change_task-futures t _ q)
          ∙ ap (λ (x : Parts). shape x.futures) f ∙ raised-shape t p)
          (ap (λ (x : Parts). length x.tasks) g ∙ length-change_task t _ q ∙ ap (λ (x : Parts). length x.tasks) f ∙ raised-tasks t p),
      e,
    )
    (
    (let l = left_falls (length p.tasks) s (t ∷ []) in
    let m = frames_mono (shape p.futures) (left (length p.tasks) (s ++ t ∷ [])) (left (length p.tasks) s) frames l in
    let h = visit_more (shape p.futures) (left (length p.tasks) s) id in omega arith))

within : {X : Type 0} (xs : List X) (k : ℕ) (x : X) → slice_get xs k ≡ Some x → k < length xs
within [] k x e = absurd (cc)
within (y ∷ ys) zero x e = omega arith
within (y ∷ ys) (suc k) x e = let h = within ys k x e in omega arith

pub weigh_waits : (i t w id : ℕ) (frames after : List WalkFrame) (s s' : List ℕ) (p q : Parts) (waiter : Option ℕ)
    → after ≡ frames ++ Waits i t ∷ [] → s' ≡ s ++ t ∷ [] → q ≡ raise_count t p → has_seen s t ≡ false
    → Some waiter ≡ option_map (λ (task : Task). task.waiter) (slice_get p.tasks t) → weight (Visit w) after s' q < weight (Visit id) frames s p
unfolding weight
weigh_waits i t w id frames after s s' p q waiter a e f n h =
    rw (
      stays (Visit w) after s' p q (ap (λ (x : Parts). shape x.futures) f ∙ raised-shape t p) (ap (λ (x : Parts). length x.tasks) f
          ∙ raised-tasks t p),
      e,
      a,
    )
    (
    (let sh = shape p.futures in
    let l = left-push (length p.tasks) s t (there (slice_get p.tasks t) refl h) n in
    let m = frames_mono sh (left (length p.tasks) (s ++ t ∷ [])) (left (length p.tasks) s) frames (omega arith) in
    let v = visit_waits sh (left (length p.tasks) s) (left (length p.tasks) (s ++ t ∷ [])) id w (omega arith) in
    let u = frames-push sh (left (length p.tasks) (s ++ t ∷ [])) frames (Waits i t) in
    omega arith))
  where
    there : (o : Option Task) → slice_get p.tasks t ≡ o → Some waiter ≡ option_map (λ (task : Task). task.waiter) o → t < length p.tasks
    there None g h = absurd (cc)
    there (Some task) g h = within p.tasks t task g

-- a search goes on to what a task waits for, and keeps no frame
pub weigh_on : (t w id : ℕ) (frames : List WalkFrame) (s s' : List ℕ) (p : Parts) (waiter : Option ℕ) → s' ≡ s ++ t ∷ [] → has_seen s t ≡ false
    → Some waiter ≡ option_map (λ (task : Task). task.waiter) (slice_get p.tasks t) → weight (Visit w) frames s' p < weight (Visit id) frames s p
unfolding weight
weigh_on t w id frames s s' p waiter e n h =
    rw e
    (let sh = shape p.futures in
    let l = left-push (length p.tasks) s t (there (slice_get p.tasks t) refl h) n in
    let m = frames_mono sh (left (length p.tasks) (s ++ t ∷ [])) (left (length p.tasks) s) frames (omega arith) in
    let v = visit_waits sh (left (length p.tasks) s) (left (length p.tasks) (s ++ t ∷ [])) id w (omega arith) in
    omega arith)
  where
    there : (o : Option Task) → slice_get p.tasks t ≡ o → Some waiter ≡ option_map (λ (task : Task). task.waiter) o → t < length p.tasks
    there None g h = absurd (cc)
    there (Some task) g h = within p.tasks t task g

-- a member is one of its future's row
row : (fs : List Future) (id place m : ℕ) → Some m ≡ slice_get (members_at (slice_get fs id)) place
    → (id < length (shape fs)) × (place < length (get_or (shape fs) id []))
row [] id place m e = absurd (cc)
row (f ∷ fs) zero place m e = (omega arith, within (members_of f.kind) place m (sym e))
row (f ∷ fs) (suc id) place m e = let h = row fs id place m e in (let a = h.0 in omega arith, h.1)

pub weigh_push : (id place m : ℕ) (any : Bool) (frames after : List WalkFrame) (s : List ℕ) (p : Parts)
    → Some m ≡ slice_get (members_at (slice_get p.futures id)) place → m < id
    → after ≡ frames ++ Members id (place + 1) any ∷ [] → weight (Visit m) after s p < weight (Next id place any) frames s p
unfolding weight
weigh_push id place m any frames after s p e b a =
    rw a (
    (let r = row p.futures id place m e in
    let h = next_push (shape p.futures) (left (length p.tasks) s) id place m b r.0 r.1 in
    let u = frames-push (shape p.futures) (left (length p.tasks) s) frames (Members id (place + 1) any) in
    omega arith))

pub weigh_skip : (id place m : ℕ) (any : Bool) (frames : List WalkFrame) (s : List ℕ) (p : Parts)
    → Some m ≡ slice_get (members_at (slice_get p.futures id)) place
    → weight (Next id (place + 1) any) frames s p < weight (Next id place any) frames s p
unfolding weight
weigh_skip id place m any frames s p e =
    (let r = row p.futures id place m e in
    let h = next_skip (shape p.futures) (left (length p.tasks) s) id place r.1 in
    omega arith)

pub weigh_end : (id place : ℕ) (any answer : Bool) (frames : List WalkFrame) (s : List ℕ) (p : Parts)
    → weight (Answer answer) frames s p < weight (Next id place any) frames s p
unfolding weight
weigh_end id place any answer frames s p = omega arith

pub weigh_ask : (id place : ℕ) (any answer : Bool) (frames : List WalkFrame) (s : List ℕ) (p q : Parts) → q ≡ mark_asked id p
    → weight (Answer answer) frames s q < weight (Next id place any) frames s p
weigh_ask id place any answer frames s p q e =
    rw (stays (Answer answer) frames s p q (ap (λ (r : Parts). shape r.futures) e ∙ ask-shape id p) (ap (λ (r : Parts). length r.tasks) e
    ∙ ap length (mark_asked-tasks id p)))
    (weigh_end id place any answer frames s p)

pub weigh_back : (i t : ℕ) (answer last : Bool) (frames : List WalkFrame) (s : List ℕ) (p : Parts)
    → weight (Answer answer) frames s p < weight (Answer last) (frames ++ Waits i t ∷ []) s p
unfolding weight
weigh_back i t answer last frames s p =
    (let u = frames-push (shape p.futures) (left (length p.tasks) s) frames (Waits i t) in omega arith)

pub weigh_back_must_cancel : (i t : ℕ) (answer last : Bool) (frames : List WalkFrame) (s : List ℕ) (p q : Parts) → q ≡ set_must_cancel t p
    → weight (Answer answer) frames s q < weight (Answer last) (frames ++ Waits i t ∷ []) s p
weigh_back_must_cancel i t answer last frames s p q e =
    rw (stays (Answer answer) frames s p q (ap (λ (r : Parts). shape r.futures) e
    ∙ ap shape (change_task-futures t _ p)) (ap (λ (r : Parts). length r.tasks) e ∙ length-change_task t _ p))
    (weigh_back i t answer last frames s p)

pub weigh_members : (id place : ℕ) (any more last : Bool) (frames : List WalkFrame) (s : List ℕ) (p : Parts)
    → weight (Next id place more) frames s p < weight (Answer last) (frames ++ Members id place any ∷ []) s p
unfolding weight
weigh_members id place any more last frames s p =
    (let u = frames-push (shape p.futures) (left (length p.tasks) s) frames (Members id place any) in omega arith)

pub weigh_ask_where : (id place : ℕ) (any answer : Bool) (frames : List WalkFrame) (s : List ℕ) (p q : Parts)
    → q ≡ (if any then mark_asked id p else p) → weight (Answer answer) frames s q < weight (Next id place any) frames s p
weigh_ask_where id place true answer frames s p q e = weigh_ask id place true answer frames s p q e
weigh_ask_where id place false answer frames s p q e = rw e (weigh_end id place false answer frames s p)
