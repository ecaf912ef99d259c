-- A run begins: what is made stands for the machine's first state.
use Rattle.std.proofs.Common.{◌≡◌, ℕ, zero, suc, ◌^◌, ◌-◌, ◌<◌, ◌≤◌, ◌⊎◌, Bool, true, false, List, [], ◌∷◌, ◌++◌, None, length, slice_get, ◌∙◌, refl, sym, ap, subst}
use Rattle.std.proofs.Common.{arith, inl, inr, if◌then◌else◌}
use Rattle.std.specs.Prelude.{min}
use Rattle.std.proofs.lemmas.Bool.{cases_eq, false≢true, ne_eqb}
use Rattle.std.proofs.lemmas.List.Elements.{All-nil}
use Rattle.model_value.specs.Number.{most}
use Rattle.model_value.specs.Value.{Value}
use Rattle.model_value.specs.declared.action.Action.TheVariants.{MainDone, Step}
use Rattle.model_tree.specs.Syntax.{Program}
use Rattle.model_text.specs.SecondPass.{main_text}
use Rattle.model_says.specs.Requests.{place_of}
use Rattle.model_stream.specs.Streams.{no_streams}
use Rattle.model_wire.specs.Journal.{Entry}
use Rattle.model_loop.specs.Parts.{OfTask, Future, Parts, Profile, Two, One, Task, profile_named}
use Rattle.model_loop.specs.Start.{first_parts, no_parts}
use Rattle.model_loop.specs.Tasks.{cancelling, future_of, lives, spawn}
use Rattle.model_machine.specs.Replies.{most_ids}
use Rattle.model_machine.specs.State as machine
use Rattle.model_machine.specs.State.{generator, start}
use Rattle.refine_parts.proofs.Calls.{kept_register, kept_spawn}
use Rattle.law_runs.proofs.FirstState.{begins_sound}
use Rattle.aio_ready.specs.Queue as queue
use Rattle.aio_ready.specs.Queue.{no_handles}
use Rattle.aio_future.specs.Settled.{registered, soon_if_done}
use Rattle.aio_task.specs.View.{View, empty, parts}
use Rattle.aio_task.specs.Keeps.{NameMap, Keeps, Kept, ByHandle}
use Rattle.aio_ready.specs.declared.handle.HandleName.TheVariants.{Nameless}
use Rattle.aio_extra.specs.Added.{Added, KeepsNothing, named_in}
use Rattle.aio_body.specs.declared.run_state.RunState.{RunState}
use Rattle.aio_body.specs.declared.resume_point.Slot.{Slot}
use Rattle.aio_body.specs.declared.resume_point.ResumePoint.{ResumePoint}
use Rattle.aio_body.specs.declared.resume_point.ResumePoint.TheVariants.{Asked}
use Rattle.aio_body.specs.Slots.{HoldsMore}
use Rattle.aio_body.specs.Stands.{profile_of, Stands, HasSlot, StandsAt, WaitsAs}
use Rattle.aio_flat.specs.Code.{IsCodeOf}
use Rattle.aio_timeout.specs.Kept.{AreTimeouts}
use Rattle.aio_step.specs.Standing.{TransportsStandFor as AreTransports}
use Rattle.aio_group.specs.Held.{Held}
use Rattle.aio_group.specs.Stands.{KeepsAt}
use Rattle.aio_wire.specs.EventList.{EventList}
use Rattle.aio_core.specs.Empty.{IsEmpty}
use Rattle.aio_core.specs.Turning.{IsAtRest, resting}

-- ---- the parts
abbrev first_name_map : NameMap
first_name_map = record { known = λ tag. ByHandle (record { name = Nameless }); gone = λ id. false; bar = 0 }

empty_keeps : (profile : ℕ) → Keeps first_name_map (empty profile) no_parts
empty_keeps profile = record {
  time = refl;
  handles = record {
    early = [];
    late = [];
    pending = refl;
    below = refl;
    after = refl;
    before_bar = tt;
    past_bar = tt;
    bar_given = omega arith;
  };
  timers = refl;
  deadlines = tt;
  names = record { given = λ tag h. absurd (omega (arith, h)); own = λ tag other h. absurd (omega (arith, h)) };
  futures = refl;
  made = λ id e. absurd (false≢true e);
  done = λ id e. absurd (false≢true e);
  tasks = refl;
  numbered = record {
    stamps = record { once = λ n. omega arith; below = λ n h. refl };
    tags = record { once = λ n. omega arith; below = λ n h. refl };
    members = λ id. All-nil (λ member. member < id);
  };
}

abbrev main_future : Future
main_future = record { kind = OfTask 0; outcome = None; callbacks = [] }

abbrev main_task : Task
main_task = record { future = 0; waiter = None; cancels = 0; must_cancel = false }

-- main's task was made
abbrev pub with_main : ℕ → View
with_main profile = record (empty profile) { queue = queue.soon (Step 0) no_handles; futures = main_future ∷ []; tasks = main_task ∷ [] }

-- and what is called when it is done
abbrev pub with_callback : ℕ → View
with_callback profile = record (with_main profile) {
  futures = registered 0 MainDone (with_main profile).futures;
  queue = soon_if_done 0 MainDone (with_main profile).futures (with_main profile).queue;
}

abbrev main_kept : (profile : ℕ) → Kept first_name_map no_parts (with_main profile) (spawn no_parts)
main_kept profile =
    kept_spawn first_name_map (empty profile) (with_main profile) no_parts (empty_keeps profile)
    (record { parts = refl; queue = (Step 0 ∷ [], refl); time = refl; schedule = refl })

abbrev callback_kept : (profile : ℕ) → Kept (main_kept profile).name_map (spawn no_parts) (with_callback profile) first_parts
callback_kept profile =
    kept_register (main_kept profile).name_map (with_main profile) (spawn no_parts) (main_kept profile).keeps 0 MainDone

-- nothing is released
none_gone : (profile id : ℕ) → (callback_kept profile).name_map.gone id ≡ false
none_gone profile id =
    ap (λ (g : ℕ → Bool). g id) ((callback_kept profile).extends.gone ∙ (main_kept profile).extends.gone)

-- what the calls leave
pub spawned_so : (profile : ℕ) (v : View) → parts v ≡ spawn (parts (empty profile)) → v.queue ≡ queue.soon (Step 0) no_handles
    → v ≡ record (empty profile) { queue = v.queue; futures = v.futures; tasks = v.tasks } → v ≡ with_main profile
spawned_so profile v after q frame =
    frame ∙ ap (λ x. record (empty profile) { queue = x; futures = v.futures; tasks = v.tasks }) q
    ∙ ap (λ (p : Parts). record (empty profile) { queue = queue.soon (Step 0) no_handles; futures = p.futures; tasks = p.tasks }) after

pub registered_so : (profile : ℕ) (v w : View) → v ≡ with_main profile
    → w ≡ record v {
      futures = registered (future_of (parts v) 0) MainDone v.futures;
      queue = soon_if_done (future_of (parts v) 0) MainDone v.futures v.queue;
    }
    → w ≡ with_callback profile
registered_so profile v w is after =
    after ∙ ap (λ (x : View). record x {
      futures = registered (future_of (parts x) 0) MainDone x.futures;
      queue = soon_if_done (future_of (parts x) 0) MainDone x.futures x.queue;
    }) is

-- a byte is enough to tell the profiles apart
byte_named : (number : ℕ) → profile_named number ≡ profile_named (min number (2 ^ 8 - 1))
byte_named number = at (cases_eq number 2)
  where
    named : Bool → Profile
    named is_two = if is_two then Two else One

    at : (number ≡ 2) ⊎ (number ≡ 2 → ⊥) → profile_named number ≡ profile_named (min number (2 ^ 8 - 1))
    at (inl same) = subst (λ (n : ℕ). profile_named n ≡ profile_named (min n (2 ^ 8 - 1))) (sym same) refl
    at (inr other) =
        ap named (ne_eqb number 2 other) ∙ sym (ap named (ne_eqb (min number (2 ^ 8 - 1)) 2 (λ e. other (omega (arith, e)))))

-- ---- the whole
module _ {X : Type 0} (a : Added X) (program : Program) (none held : RunState X) (x : X) (kept : a.Kept) (fresh : KeepsNothing a x kept)
    (e : IsEmpty program x none)
    (holds : HoldsMore (place_of program main_text) [] none held) where
  abbrev begun : RunState X
  begun = record held { parts = with_callback (profile_of program) }

  one_slot : held.slots.items ≡ holds.slot ∷ []
  one_slot = holds.slots ∙ ap (λ (xs : List Slot). xs ++ holds.slot ∷ []) e.slots

  begins_at : (answers : List Entry) → Stands None (resting a [] answers (callback_kept (profile_of program)).name_map.bar) begun
      (start most_ids kept program answers)
  begins_at answers = record {
    name_map = (callback_kept (profile_of program)).name_map;
    code = subst (IsCodeOf program) (sym (ap (λ (b : RunState X). b.code) holds.frame)) e.code;
    profile = record { named = refl; rules = byte_named program.profile };
    keeps = (callback_kept (profile_of program)).keeps;
    left = refl;
    bar = refl;
    blocks = record {
      timeouts =
          subst (λ ts. AreTimeouts (callback_kept (profile_of program)).name_map first_parts ts [])
          (sym (ap (λ (b : RunState X). b.timeouts) holds.frame ∙ e.timeouts)) tt;
      groups =
          subst (λ (gs : List Held). (id : ℕ) → KeepsAt (callback_kept (profile_of program)).name_map first_parts (slice_get gs id) (slice_get [] id))
          (sym (ap (λ (b : RunState X). b.groups) holds.frame ∙ e.groups)) (λ id. tt);
    };
    made = ap length one_slot;
    told = refl;
    few = subst (λ (xs : List Slot). length xs < 2 ^ 32) (sym one_slot) (omega arith);
    held = has;
    gone = λ id gone. absurd (false≢true (sym (none_gone (profile_of program) id) ∙ gone));
    futures = ap (λ (b : RunState X). b.futures.items) holds.frame ∙ e.futures;
    few_futures = omega arith;
    main_done = ap (λ (b : RunState X). b.main_done) holds.frame ∙ e.main_done;
    transports = subst (λ t. AreTransports t (no_streams most_ids)) (sym (ap (λ (b : RunState X). b.transports) holds.frame))
        e.transports;
    time = omega arith;
    counts = counts;
    events = sym (ap (λ (b : RunState X). b.events.events) holds.frame ∙ ap (λ (l : EventList). l.events) e.events);
    rest = refl;
    extra =
        subst (λ y. a.stands (callback_kept (profile_of program)).name_map first_parts y kept) (sym (ap (λ (b : RunState X). b.extra) holds.frame ∙ e.added))
        (fresh.stands (callback_kept (profile_of program)).name_map first_parts);
    count = ap (λ (b : RunState X). b.events.answers) holds.frame ∙ ap (λ (l : EventList). l.answers) e.events;
  }
    where
      counts : (task : ℕ) → cancelling first_parts task ≤ most
      counts zero = omega arith
      counts (suc task) = omega arith

      stand : (code : ResumePoint) → code ≡ Asked
          → StandsAt (callback_kept (profile_of program)).name_map first_parts (named_in a (start most_ids kept program answers)) 0
          code machine.Asked
      stand code is =
          subst (λ (x : ResumePoint).
          StandsAt (callback_kept (profile_of program)).name_map first_parts (named_in a (start most_ids kept program answers)) 0 x
          machine.Asked)
          (sym is) tt

      has : (task : ℕ) → lives first_parts task ≡ true
          → HasSlot a None None (callback_kept (profile_of program)).name_map held.code held.slots.items
          (start most_ids kept program answers) task
      has zero l = record {
        slot = holds.slot;
        found = ap (λ (xs : List Slot). slice_get xs 0) one_slot;
        right = record {
          waits =
              subst (λ code. WaitsAs program code (generator (place_of program main_text) []) holds.slot.coroutine)
              (sym (ap (λ (b : RunState X). b.code) holds.frame)) (holds.waits program e.code);
          resume_point = stand holds.slot.resume_point holds.resume_point;
        };
      }
      has (suc task) l = absurd (false≢true l)

  pub begins_so : (last : RunState X) → last ≡ record held { parts = with_callback (profile_of program) } → (answers : List Entry)
      → IsAtRest a [] answers last (start most_ids kept program answers)
  begins_so last is answers = subst (λ b. IsAtRest a [] answers b (start most_ids kept program answers)) (sym is) (
    (callback_kept (profile_of program)).name_map.bar,
    record {
      stands = begins_at answers;
      called = refl;
      running = refl;
      sound = begins_sound a.meaning most_ids kept program answers fresh.names;
    },
  )

module _ {X : Type 0} {a : Added X} where
  -- main's task is made in a body that is empty
  pub main_made : (program : Program) (none held last : RunState X) (x : X) (kept : a.Kept) → KeepsNothing a x kept
      → (e : IsEmpty program x none) (place : ℕ) (arguments : List Value)
      → place ≡ place_of program main_text → arguments ≡ [] → HoldsMore place arguments none held
      → (ticketed v w : View) (task own : ℕ) → ticketed ≡ held.parts → task ≡ length ticketed.tasks → parts v ≡ spawn (parts ticketed)
      → v.queue ≡ queue.soon (Step (length ticketed.tasks)) ticketed.queue
      → v ≡ record ticketed { queue = v.queue; futures = v.futures; tasks = v.tasks } → own ≡ future_of (parts v) task
      → w ≡ record v { futures = registered own MainDone v.futures; queue = soon_if_done own MainDone v.futures v.queue }
      → last ≡ record held { parts = w } → (answers : List Entry) → IsAtRest a [] answers last
      (start most_ids kept program answers)
  main_made program none held last x kept fresh e place arguments at_place no_arguments holds ticketed v w task own ticket number after pending
      frame is_own on is answers =
      begins_so a program none held x kept fresh e held_main last (is ∙ ap (λ (x : View). record held { parts = x }) is_w) answers
    where
      start_view : ticketed ≡ empty (profile_of program)
      start_view = ticket ∙ ap (λ (b : RunState X). b.parts) holds.frame ∙ e.parts

      held_main : HoldsMore (place_of program main_text) [] none held
      held_main =
          subst (λ n. HoldsMore n [] none held) at_place (subst (λ xs. HoldsMore place xs none held) no_arguments holds)

      is_v : v ≡ with_main (profile_of program)
      is_v =
          spawned_so (profile_of program) v (after ∙ ap (λ (x : View). spawn (parts x)) start_view)
          (pending ∙ ap (λ (x : View). queue.soon (Step (length x.tasks)) x.queue) start_view)
          (frame ∙ ap (λ (x : View). record x { queue = v.queue; futures = v.futures; tasks = v.tasks }) start_view)

      first : task ≡ 0
      first = number ∙ ap (λ (x : View). length x.tasks) start_view

      is_w : w ≡ with_callback (profile_of program)
      is_w =
          registered_so (profile_of program) v w is_v (on ∙ ap (λ id. record v {
            futures = registered id MainDone v.futures;
            queue = soon_if_done id MainDone v.futures v.queue;
          }) (is_own ∙ ap (future_of (parts v)) first))
