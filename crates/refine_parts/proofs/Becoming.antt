-- What happens to queue, futures and tasks in code is what happens to the machine's parts.
use Rattle.std.proofs.Common.{◌≡◌, ℕ, suc, true, false, List, [], ◌∷◌, ◌++◌, length, map, refl, ap, sym, subst, ◌∙◌, arith, append_assoc, append-nil}
use Rattle.std.proofs.lemmas.List.{map-append, append_cancel_left}
use Rattle.model_value.specs.Action.{Action}
use Rattle.model_loop.specs.Parts as plain
use Rattle.model_loop.specs.Parts.{Parts}
use Rattle.model_loop.specs.Handles.{soon, soon_all}
use Rattle.model_loop.specs.Numbered.{IsNumbered}
use Rattle.algorithm_parts.specs.Released.{release_from, with_released}
use Rattle.algorithm_parts.specs.Placed.{placed_from, placed}
use Rattle.aio_ready.specs.declared.handle.Handle.{Handle}
use Rattle.aio_ready.specs.Queue as queue
use Rattle.aio_ready.specs.Queue.{Queue, actions_of, next_name}
use Rattle.aio_cancel.specs.Awaitables.{handles_from, waiting}
use Rattle.aio_task.specs.View.{View, parts}
use Rattle.aio_task.specs.Keeps.{Known, handle_as, NameMap, Keeps, Kept, Becomes}
use Rattle.refine_parts.proofs.Appending.{waiting_kept, kept_soon_all, moved}
use Rattle.refine_parts.proofs.Only.{OnlyAppends, OnlyChanges, appends}

-- ---- the parts of a view
handles_placed : (known : ℕ → Known) (place : ℕ) (handles : List plain.Handle)
    → handles_from place (map (handle_as known) handles) ≡ placed_from place handles
handles_placed known place [] = refl
handles_placed known place (h ∷ handles) =
    ap (λ hs. record { stamp = place; tag = place; action = h.action; dead = h.dead } ∷ hs) (handles_placed known (suc place) handles)

length_placed : (known : ℕ → Known) (handles : List plain.Handle) → length (map (handle_as known) handles) ≡ length handles
length_placed known [] = refl
length_placed known (h ∷ handles) = ap suc (length_placed known handles)

pub parts_kept : (t : NameMap) (v : View) (p : Parts) → Keeps t v p → parts v ≡ placed (with_released t.gone p)
parts_kept t v p k =
    let w = waiting_kept t v p k in
    let f = k.futures in
    let s = k.tasks in
    let l : length (waiting v.queue) ≡ length p.pending = ap length w ∙ length_placed t.known p.pending in
    let h : handles_from 0 (waiting v.queue) ≡ placed_from 0 p.pending = ap (handles_from 0) w ∙ handles_placed t.known 0 p.pending in
    rw (l, h, f, s) refl

-- ---- which actions were appended
handles-actions : (place : ℕ) (handles : List Handle) → map (λ (h : plain.Handle). h.action) (handles_from place handles) ≡ actions_of handles
handles-actions place [] = refl
handles-actions place (h ∷ handles) = ap (λ row. h.action ∷ row) (handles-actions (suc place) handles)

placed-actions : (place : ℕ) (handles : List plain.Handle)
    → map (λ (h : plain.Handle). h.action) (placed_from place handles) ≡ map (λ (h : plain.Handle). h.action) handles
placed-actions place [] = refl
placed-actions place (h ∷ handles) = ap (λ row. h.action ∷ row) (placed-actions (suc place) handles)

queue-actions : (actions : List Action) (q : Queue) → actions_of (waiting (queue.soon_all actions q)) ≡ actions_of (waiting q) ++ actions
queue-actions [] q = sym (append-nil (actions_of (waiting q)))
queue-actions (action ∷ actions) q =
    let new : Handle = record { name = next_name q; action = action; dead = false } in
    queue-actions actions (queue.soon action q)
    ∙ ap (λ hs. actions_of hs ++ actions) (sym (append_assoc q.below q.after (new ∷ [])))
    ∙ ap (λ row. row ++ actions) (map-append (λ (h : Handle). h.action) (waiting q) (new ∷ []))
    ∙ append_assoc (actions_of (waiting q)) (action ∷ []) actions

parts-actions : (actions : List Action) (p : Parts)
    → map (λ (h : plain.Handle). h.action) (soon_all actions p).pending ≡ map (λ (h : plain.Handle). h.action) p.pending ++ actions
parts-actions [] p = sym (append-nil (map (λ (h : plain.Handle). h.action) p.pending))
parts-actions (action ∷ actions) p =
    let new : plain.Handle = record { stamp = p.next_stamp; tag = p.next_tag; action = action; dead = false } in
    parts-actions actions (soon action p)
    ∙ ap (λ row. row ++ actions) (map-append (λ (h : plain.Handle). h.action) p.pending (new ∷ []))
    ∙ append_assoc (map (λ (h : plain.Handle). h.action) p.pending) (action ∷ []) actions

kept-actions : (known : ℕ → Known) (handles : List plain.Handle)
    → actions_of (map (handle_as known) handles) ≡ map (λ (h : plain.Handle). h.action) handles
kept-actions known [] = refl
kept-actions known (h ∷ handles) = ap (λ row. h.action ∷ row) (kept-actions known handles)

-- ---- a call
module _ (t : NameMap) (v w : View) (p q : Parts) (k : Keeps t v p) (only : OnlyAppends p q) (became : Becomes v w (placed (with_released t.gone q))) where
  abbrev act : plain.Handle → Action
  act handle = handle.action

  same_actions : became.queue.0 ≡ only.actions
  same_actions =
      let code : actions_of (waiting w.queue) ≡ actions_of (waiting v.queue) ++ became.queue.0 =
      ap (λ x. actions_of (waiting x)) became.queue.1 ∙ queue-actions became.queue.0 v.queue in
      let machine : map act q.pending ≡ map act p.pending ++ only.actions =
      ap (λ (x : Parts). map act x.pending) only.is ∙ parts-actions only.actions p in
      let before : actions_of (waiting v.queue) ≡ map act p.pending =
      ap actions_of (waiting_kept t v p k) ∙ kept-actions t.known p.pending in
      let after : actions_of (waiting w.queue) ≡ map act q.pending =
      sym (handles-actions 0 (waiting w.queue)) ∙ ap (λ (x : Parts). map act x.pending) became.parts ∙ placed-actions 0 q.pending in
      append_cancel_left (map act p.pending) became.queue.0 only.actions
      (ap (λ row. row ++ became.queue.0) (sym before) ∙ sym code ∙ after ∙ machine)

  queue_is : w.queue ≡ queue.soon_all only.actions v.queue
  queue_is = became.queue.1 ∙ ap (λ row. queue.soon_all row v.queue) same_actions

  more : Kept t p (record v { queue = queue.soon_all only.actions v.queue }) (soon_all only.actions p)
  more = kept_soon_all t v p only.actions k

  was_gone : (id : ℕ) → more.name_map.gone id ≡ true → t.gone id ≡ true
  was_gone id g = sym (ap (λ f. f id) more.extends.gone) ∙ g

  pub kept_becomes : IsNumbered q → Kept t p w q
  kept_becomes numbered = record {
    name_map = more.name_map;
    keeps =
        subst (λ x. Keeps more.name_map w x) (sym only.is)
        (moved more.name_map (record v { queue = queue.soon_all only.actions v.queue }) w (soon_all only.actions p)
        only.futures only.tasks more.keeps became.time became.schedule queue_is
        (ap (λ (x : Parts). x.tasks) became.parts ∙ ap (λ (x : Parts). x.tasks) only.is)
        (ap (λ (x : Parts). x.futures) became.parts ∙ ap (λ (x : Parts). release_from t.gone 0 x.futures) only.is
        ∙ ap (λ f. release_from f 0 only.futures) (sym more.extends.gone))
        (λ id g. let a = k.made id (was_gone id g) in let b = only.more in omega arith)
        (λ id g. only.done id (k.made id (was_gone id g)) (k.done id (was_gone id g)))
        (subst IsNumbered only.is numbered));
    extends = record {
      known = more.extends.known;
      tags = let a = more.extends.tags in let b = ap (λ (x : Parts). x.next_tag) only.is in omega arith;
      gone = more.extends.gone;
      bar = more.extends.bar;
    };
  }

-- where nothing is appended the name map stay as they are
pub keeps_becomes : (t : NameMap) (v w : View) (p q : Parts) → Keeps t v p → (only : OnlyChanges p q)
    → Becomes v w (placed (with_released t.gone q)) → IsNumbered q → Keeps t w q
keeps_becomes t v w p q k only became numbered =
    subst (λ x. Keeps t w x) (sym only.is)
    (moved t v w p only.futures only.tasks k became.time became.schedule (queue_is t v w p q k (appends only) became)
    (ap (λ (x : Parts). x.tasks) became.parts ∙ ap (λ (x : Parts). x.tasks) only.is)
    (ap (λ (x : Parts). x.futures) became.parts ∙ ap (λ (x : Parts). release_from t.gone 0 x.futures) only.is)
    (λ id g. let a = k.made id g in let b = only.more in omega arith) (λ id g. only.done id (k.made id g) (k.done id g))
    (subst IsNumbered only.is numbered))
