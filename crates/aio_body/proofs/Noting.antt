-- Events that are noted, and the one way in which what is told of a run changes.
use Rattle.std.proofs.Common.{◌≡◌, ℕ, ◌+◌, ◌-◌, ◌^◌, ◌<◌, min, List, [], ◌∷◌, ◌++◌, Option, Some, None, append_assoc, length, refl, sym, ap, subst, ◌∙◌, arith}
use Rattle.model_wire.specs.Event.{Event}
use Rattle.model_wire.specs.declared.event.Event.TheVariants as event
use Rattle.model_machine.specs.State.{State, generator_of, noted}
use Rattle.model_machine.specs.Went.{answers_in}
use Rattle.aio_wire.specs.EventList.{EventList}
use Rattle.aio_wire.specs.Events.{answers_after, pushed}
use Rattle.aio_extra.specs.Added.{Added, IsNamed, named_in, owned_in}
use Rattle.aio_body.specs.declared.run_state.RunState.{RunState}
use Rattle.aio_body.specs.Stands.{IsOwnSleep, Context, Stands}
use Rattle.aio_body.proofs.Lasting.{stands_at_by}

pub answers-append : (xs ys : List Event) → answers_in (xs ++ ys) ≡ answers_in xs + answers_in ys
answers-append [] ys = omega arith
answers-append (event.Called call ∷ xs) ys = answers-append xs ys
answers-append (event.Got answer ∷ xs) ys = let ih = answers-append xs ys in omega (arith, ih)
answers-append (event.Ran action ∷ xs) ys = answers-append xs ys
answers-append (event.Said task text ∷ xs) ys = answers-append xs ys

min-suc : (a m : ℕ) → min (min a m + 1) m ≡ min (a + 1) m
min-suc a m = omega arith

-- the number of answers is counted on
pub counted : (n : ℕ) (xs : List Event) (it : Event) → n ≡ min (answers_in xs) (2 ^ 64 - 1)
    → answers_after n it ≡ min (answers_in (xs ++ it ∷ [])) (2 ^ 64 - 1)
counted n xs (event.Called call) e = e ∙ ap (λ k. min k (2 ^ 64 - 1)) (sym (answers-append xs (event.Called call ∷ []) ∙ plus_none (answers_in xs)))
  where
    plus_none : (k : ℕ) → k + 0 ≡ k
    plus_none k = omega arith
counted n xs (event.Ran action) e = e ∙ ap (λ k. min k (2 ^ 64 - 1)) (sym (answers-append xs (event.Ran action ∷ []) ∙ plus_none (answers_in xs)))
  where
    plus_none : (k : ℕ) → k + 0 ≡ k
    plus_none k = omega arith
counted n xs (event.Said task text) e = e ∙ ap (λ k. min k (2 ^ 64 - 1)) (sym (answers-append xs (event.Said task text ∷ []) ∙ plus_none (answers_in xs)))
  where
    plus_none : (k : ℕ) → k + 0 ≡ k
    plus_none k = omega arith
counted n xs (event.Got answer) e =
    ap (λ k. min (k + 1) (2 ^ 64 - 1)) e ∙ min-suc (answers_in xs) (2 ^ 64 - 1)
    ∙ ap (λ k. min k (2 ^ 64 - 1)) (sym (answers-append xs (event.Got answer ∷ [])))

-- What is told of a run is told of this state, beside a loop that stays: its events and answers, whether main is done, and the
-- futures that scripts name, which no future of a sleep becomes.
pub record TellsAs {X : Type 0} {a : Added X} (d : Context a) (new : RunState X) (s now : State a.Kept) : Type 0 where
  pub own : (sleeper : Option ℕ) (id : ℕ) → IsOwnSleep s.loop.parts (named_in a s) sleeper id
      → IsOwnSleep s.loop.parts (IsNamed now.futures (owned_in a s)) sleeper id
  pub futures : new.futures.items ≡ now.futures
  pub few_futures : length now.futures < 2 ^ 32
  pub main_done : new.main_done ≡ now.main_done
  pub events : now.events ≡ d.past ++ new.events.events
  pub rest : now.answers ≡ d.answers
  pub count : new.events.answers ≡ min (answers_in now.events) (2 ^ 64 - 1)

module _ {X : Type 0} {a : Added X} where
  -- Nothing changes but what is told.
  pub telling_changes : (out : Option ℕ) (c d : Context a) (old new : RunState X) (s now : State a.Kept) → Stands out c old s
      → d ≡ record c { past = d.past; answers = d.answers }
      → new ≡ record old { futures = new.futures; main_done = new.main_done; events = new.events }
      → now ≡ record s { futures = now.futures; main_done = now.main_done; events = now.events; answers = now.answers }
      → TellsAs d new s now → Stands out d new now
  telling_changes out c d old new s now h same_context same_body same_state tells =
      subst (λ (e : Context a). Stands out e new now) (sym same_context) (subst (λ (b : RunState X). Stands out context b now) (sym same_body)
      (subst (λ (t : State a.Kept). Stands out context body t) (sym same_state) (record {
        name_map = h.name_map;
        code = h.code;
        profile = h.profile;
        keeps = h.keeps;
        left = h.left;
        bar = h.bar;
        blocks = h.blocks;
        made = h.made;
        told = h.told;
        few = h.few;
        held = λ task l. let has = h.held task l in record {
          slot = has.slot;
          found = has.found;
          right = record {
            waits = has.right.waits;
            resume_point =
                stands_at_by h.name_map h.name_map s.loop.parts s.loop.parts (named_in a s) (IsNamed now.futures (owned_in a s)) task has.slot.resume_point
                (generator_of task s).resume_point (λ tag timer k. k) (tells.own (Some task)) has.right.resume_point;
          };
        };
        gone = λ id e. tells.own None id (h.gone id e);
        futures = tells.futures;
        few_futures = tells.few_futures;
        main_done = tells.main_done;
        transports = h.transports;
        time = h.time;
        counts = h.counts;
        events = tells.events;
        rest = tells.rest;
        extra = h.extra;
        count = tells.count;
      })))
    where
      context : Context a
      context = record c { past = d.past; answers = d.answers }

      body : RunState X
      body = record old { futures = new.futures; main_done = new.main_done; events = new.events }

  -- one event more
  pub stands_noted : (out : Option ℕ) (c : Context a) (body : RunState X) (s : State a.Kept) (it : Event) (events : EventList) → events ≡ pushed body.events it
      → Stands out c body s → Stands out c (record body { events = events }) (noted it s)
  stands_noted out c body s it events e h =
      telling_changes out c c body (record body { events = events }) s (noted it s) h refl refl refl (record {
        own = λ sleeper id sleeps. sleeps;
        futures = h.futures;
        few_futures = h.few_futures;
        main_done = h.main_done;
        events =
            ap (λ (es : List Event). es ++ it ∷ []) h.events ∙ append_assoc c.past body.events.events (it ∷ [])
            ∙ ap (λ (l : EventList). c.past ++ l.events) (sym e);
        rest = h.rest;
        count = ap (λ (l : EventList). l.answers) e ∙ counted body.events.answers s.events it h.count;
      })
