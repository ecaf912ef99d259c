-- What goes on holds of every state, and with it what the calls of a run were, and that between its own each future of a part was left.
use Rattle.std.proofs.Common.{◌≡◌, inl, inr, ℕ, ℤ, Bool, true, false, List, [], ◌∷◌, ◌++◌, Option, Some, None, refl, sym, ap, subst, ◌∙◌, le_refl}
use Rattle.model_value.specs.declared.action.Action.TheVariants as action
use Rattle.std.proofs.lemmas.List.{append_assoc}
use Rattle.model_value.specs.Action.{Action}
use Rattle.model_value.specs.Input.{Input}
use Rattle.model_value.specs.Value.{Value}
use Rattle.model_wire.specs.declared.call.Call.TheVariants as call
use Rattle.model_wire.specs.declared.event.Event.TheVariants as event
use Rattle.model_wire.specs.Call.{Answer}
use Rattle.model_wire.specs.Event.{Event}
use Rattle.model_wire.specs.Fits.{fits}
use Rattle.model_loop.specs.Parts.{Handle, Parts}
use Rattle.model_machine.specs.Extra as extra
use Rattle.model_machine.specs.Extra.{Extra, ExtraAnswer, ExtraCall, ExtraSaid, called, made_by_all, unknown_code}
use Rattle.model_machine.specs.Replies.{input_by}
use Rattle.model_machine.specs.State.{State}
use Rattle.model_reach.specs.Part.{refuses, stays as still}
use Rattle.model_reach.specs.Reach.{Part, Parted, part_as, part_of_code, part_of_key, reach}
use Rattle.law_apart.specs.Apart.{Leaves}
use Rattle.law_apart.proofs.Parts.{leaves_then}
use Rattle.law_calls.proofs.Events.{last_on, untold_on}
use Rattle.law_calls.proofs.History.{history_tells}
use Rattle.law_calls.specs.Tells.{Tells}
use Rattle.law_calls.specs.Told.{Acts, Asks, Happening, HasCalled, HasHappened, HasNews, Hears, IsAskedBy, IsHistory, IsWoken, MayHappen, Question, Told}
use Rattle.law_calls.specs.Told.{Wakes, asks_last, first_told, happens, told_after}
use Rattle.law_changes.specs.Reaches.{goes, stays}
use Rattle.law_heeded.specs.Between.{Along, AreDisjoint, AreLeft, WhereElse, call_in, is_of_part, own_of, part_in, parts_after, state_in}
use Rattle.law_heeded.specs.Owned.{AreApart, KeepsToItsFutures, is_among, is_own}
use Rattle.law_heeded.specs.Walks.{Beside, GivesFacts, TellsNone, Walks, runs}
use Rattle.law_heeded.proofs.Going.{ran_apart as out_apart}
use Rattle.law_heeded.proofs.Owning.{among_test, test_among}
use Rattle.law_heeded.proofs.Quiet.{told_as}
use Rattle.law_heeded.proofs.Sharing.{IsPartKept, act_part, ask_part, in_all, item_part, now_disjoint, other_part, others_leave, wake_part}

module _ {A B C D : Type 0} (gather : Extra A) (sync : Extra B) (exec : Extra C) (dgram : Extra D) (keeps_gather : KeepsToItsFutures gather)
    (keeps_sync : KeepsToItsFutures sync) (keeps_exec : KeepsToItsFutures exec) (keeps_dgram : KeepsToItsFutures dgram) where
  abbrev S : Type 0
  S = Parted A B C D

  abbrev added : Extra S
  added = reach gather sync exec dgram

  abbrev Own : Part → S → List ℕ
  Own = own_of gather sync exec dgram

  abbrev Disjoint : S → Type 0
  Disjoint = AreDisjoint gather sync exec dgram

  -- ---- a call, by the part that serves it
  abbrev CallKept : Option Part → ExtraCall S → State S → Type 0
  CallKept None it s = it ≡ still s.extra
  CallKept (Some part) it s = IsPartKept gather sync exec dgram part it s

  asked_kept : (task : ℕ) (code : ℤ) (arguments : List Value) (s : State S) (o : Option Part)
      → CallKept o (ExtraSaid.call {S = S} (elim o [
        | None ↦ refuses (unknown_code code) s.extra
        | Some part ↦ (part_as gather sync exec dgram part).ask task code arguments s
      ])) s
  asked_kept task code arguments s None = refl
  asked_kept task code arguments s (Some part) =
      ask_part gather sync exec dgram keeps_gather keeps_sync keeps_exec keeps_dgram part task code arguments s

  news_kept : (code : ℤ) (bytes : List ℕ) (s : State S) (o : Option Part)
      → CallKept o (elim o [
        | None ↦ still s.extra
        | Some part ↦ (part_as gather sync exec dgram part).item code bytes s
      ]) s
  news_kept code bytes s None = refl
  news_kept code bytes s (Some part) = item_part gather sync exec dgram keeps_gather keeps_sync keeps_exec keeps_dgram part code bytes s

  kept_of : (it : Happening S) → CallKept (part_in it) (call_in added it) (state_in it)
  kept_of (Asks task code arguments s) = asked_kept task code arguments s (part_of_code code)
  kept_of (Wakes task key input s) =
      wake_part gather sync exec dgram keeps_gather keeps_sync keeps_exec keeps_dgram (part_of_key key) key input s
  kept_of (Hears question answer s) =
      wake_part gather sync exec dgram keeps_gather keeps_sync keeps_exec keeps_dgram (part_of_key question.key) question.key (input_by answer) s
  kept_of (Acts key s) = act_part gather sync exec dgram keeps_gather keeps_sync keeps_exec keeps_dgram (part_of_key key) key s
  kept_of (HasNews code bytes s) = news_kept code bytes s (part_of_code code)

  disjoint_by : (o : Option Part) (it : ExtraCall S) (s : State S) → CallKept o it s → AreApart added s → Disjoint s.extra → Disjoint it.state
  disjoint_by None it s is a d = subst (λ (c : ExtraCall S). Disjoint c.state) (sym is) d
  disjoint_by (Some part) it s is a d = now_disjoint gather sync exec dgram part it s is a d

  disjoint_now : (it : Happening S) → AreApart added (state_in it) → Disjoint (state_in it).extra → Disjoint (call_in added it).state
  disjoint_now it a d = disjoint_by (part_in it) (call_in added it) (state_in it) (kept_of it) a d

  -- ---- of one part
  module _ (limit : ℕ) (part : Part) where
    abbrev Mine : S → ℕ → Bool
    Mine kept = is_among (Own part kept)

    own_by : (o : Option Part) (it : ExtraCall S) (s : State S) → CallKept o it s → is_of_part part o ≡ false → Own part it.state ≡ Own part s.extra
    own_by None it s is other = ap (λ (c : ExtraCall S). Own part c.state) is
    own_by (Some x) it s is other = is.others part (other_part part x other)

    leaves_by : (o : Option Part) (it : ExtraCall S) (s : State S) → CallKept o it s → is_of_part part o ≡ false → AreApart added s
        → Disjoint s.extra → Leaves (Mine s.extra) s.loop.parts (made_by_all it.steps s.loop).parts
    leaves_by None it s is other a d =
        subst (λ (c : ExtraCall S). Leaves (Mine s.extra) s.loop.parts (made_by_all c.steps s.loop).parts) (sym is)
        (record { more = le_refl _; stay = λ future mine. inl refl })
    leaves_by (Some x) it s is other a d = others_leave gather sync exec dgram x it s is a d part (other_part part x other)

    state_same : (it : Happening S) (b : Told S) → (happens added it b).extra ≡ (call_in added it).state
    state_same (Asks task code arguments s) b = refl
    state_same (Wakes task key input s) b = refl
    state_same (Hears question answer s) b = refl
    state_same (Acts key s) b = refl
    state_same (HasNews code bytes s) b = refl

    found : (it : Happening S) (b : Told S) → MayHappen limit added it b → (state_in it).extra ≡ b.extra
    found (Asks task code arguments s) b may = may.0
    found (Wakes task key input s) b may = may.0
    found (Hears question answer s) b may = may.0
    found (Acts key s) b may = may.0
    found (HasNews code bytes s) b may = may.0

    own_still : (it : Happening S) (b : Told S) → MayHappen limit added it b → is_of_part part (part_in it) ≡ false
        → Own part (happens added it b).extra ≡ Own part b.extra
    own_still it b may other =
        ap (Own part) (state_same it b) ∙ own_by (part_in it) (call_in added it) (state_in it) (kept_of it) other ∙ ap (Own part) (found it b may)

    -- later
    move : {a b : Told S} (p : Parts) (history : IsHistory limit added a b) (q r : Parts) → AreLeft gather sync exec dgram part p history q
        → Leaves (Mine b.extra) q r → AreLeft gather sync exec dgram part p history r
    move p stays q r left more = leaves_then (Mine _) p q r left more
    move p (goes {b = b} history it may) q r left more = at (is_of_part part (part_in it)) refl (λ x y. move p history q r x y) left
      where
        at : (o : Bool) → is_of_part part (part_in it) ≡ o
            → (AreLeft gather sync exec dgram part p history q → Leaves (Mine b.extra) q r → AreLeft gather sync exec dgram part p history r)
            → WhereElse o (AreLeft gather sync exec dgram part p history (state_in it).loop.parts
            × Leaves (Mine (call_in added it).state) (parts_after added it) q) (AreLeft gather sync exec dgram part p history q)
            → WhereElse o (AreLeft gather sync exec dgram part p history (state_in it).loop.parts
            × Leaves (Mine (call_in added it).state) (parts_after added it) r) (AreLeft gather sync exec dgram part p history r)
        at true is before left = (
          left.0,
          leaves_then (Mine (call_in added it).state) (parts_after added it) q r left.1
              (subst (λ kept. Leaves (Mine kept) q r) (state_same it b) more),
        )
        at false is before left = before left (subst (λ own. Leaves (is_among own) q r) (own_still it b may is) more)

    -- one call more
    extend : {a b : Told S} (p : Parts) (history : IsHistory limit added a b) (it : Happening S) (may : MayHappen limit added it b)
        → AreApart added (state_in it) → Disjoint (state_in it).extra → AreLeft gather sync exec dgram part p history (state_in it).loop.parts
        → AreLeft gather sync exec dgram part p (goes history it may) (parts_after added it)
    extend {b = b} p history it may a d left = at (is_of_part part (part_in it)) refl
      where
        at : (o : Bool) → is_of_part part (part_in it) ≡ o
            → WhereElse o (AreLeft gather sync exec dgram part p history (state_in it).loop.parts
            × Leaves (Mine (call_in added it).state) (parts_after added it) (parts_after added it))
            (AreLeft gather sync exec dgram part p history (parts_after added it))
        at true is = (left, record { more = le_refl _; stay = λ future mine. inl refl })
        at false is =
            move p history (state_in it).loop.parts (parts_after added it) left
            (subst (λ kept. Leaves (Mine kept) (state_in it).loop.parts (parts_after added it)) (found it b may)
            (leaves_by (part_in it) (call_in added it) (state_in it) (kept_of it) is a d))

    mine_in : (kept : S) (future : ℕ) → Mine kept future ≡ true → is_own added kept future ≡ true
    mine_in kept future mine =
        test_among (added.keeps kept).own future (in_all gather sync exec dgram part kept future (among_test (Own part kept) future mine))

    -- ---- what was so far
    module _ (first : S) (p : Parts) (Fact : Happening S → Type 0) where
      abbrev Left : {last : Told S} → IsHistory limit added (first_told first) last → Parts → Type 0
      Left history q = AreLeft gather sync exec dgram part p history q

      pub record Past (s : State S) : Type 0 where
        pub happened : HasHappened limit (reach gather sync exec dgram) (first_told first) s.extra s.events
        pub left : AreLeft gather sync exec dgram part p happened.history s.loop.parts
        pub facts : Along Fact happened.history
        pub disjoint : AreDisjoint gather sync exec dgram s.extra

      pub record PastCall (task : ℕ) (answer : ExtraAnswer) (s : State S) : Type 0 where
        pub called : HasCalled limit (reach gather sync exec dgram) (first_told first) task answer s.extra s.events
        pub left : AreLeft gather sync exec dgram part p called.history s.loop.parts
        pub facts : Along Fact called.history
        pub disjoint : AreDisjoint gather sync exec dgram s.extra

      pub data WokenBy (task key : ℕ) (s : State S) : Input → Type 0 where
        by_wait : {input : Input} (past : Past s) → IsWoken task input s → WokenBy task key s input
        by_outside : (code : ℤ) (bytes : List ℕ) (answer : Answer) (before : List Event) → fits (call.Extra code bytes) answer ≡ true
            → s.events ≡ before ++ event.Called (call.Extra code bytes) ∷ event.Got answer ∷ []
            → (asked : HasCalled limit added (first_told first) task (extra.Asks code bytes key) s.extra before)
            → Left asked.history s.loop.parts → Along Fact asked.history → Disjoint s.extra → WokenBy task key s (input_by answer)

      tells : Tells limit added (HasHappened limit added (first_told first)) (HasCalled limit added (first_told first))
      tells = history_tells limit added (first_told first)

      -- after what isn't of what is added
      past_on : (s t : State S) → t.extra ≡ s.extra → TellsNone s t → Leaves (is_own added s.extra) s.loop.parts t.loop.parts → Past s → Past t
      past_on s t kept untold leaves h = record {
        happened = record {
          last = h.happened.last;
          history = h.happened.history;
          keeps = h.happened.keeps ∙ sym kept;
          asked = h.happened.asked;
          told =
              h.happened.told ∙ sym (untold_on s.events untold.0 h.happened.whole untold.1.1) ∙ ap (told_after false) (sym untold.1.0);
          whole = ap (asks_last false) untold.1.0 ∙ last_on s.events untold.0 h.happened.whole ∙ untold.1.1.1;
        };
        left = move p h.happened.history s.loop.parts t.loop.parts h.left
            (subst (λ kept_. Leaves (Mine kept_) s.loop.parts t.loop.parts) (sym h.happened.keeps)
            (record { more = leaves.more; stay = λ future mine. leaves.stay future (mine_in s.extra future mine) }));
        facts = h.facts;
        disjoint = subst Disjoint (sym kept) h.disjoint;
      }

      -- a call that is answered so is over
      over_past : (task : ℕ) (answer : ExtraAnswer) (s : State S) → extra.asks_outside answer ≡ false → PastCall task answer s → Past s
      unfolding tells
      over_past task answer s is h = record {
        happened = tells.over task answer s.extra s.events is h.called;
        left = h.left;
        facts = h.facts;
        disjoint = h.disjoint;
      }

      -- ---- the walk
      module _ {Inv : State S → Type 0} {InvCalled : (task : ℕ) → ExtraAnswer → State S → Type 0}
          {InvWoken : (task key : ℕ) → Input → State S → Type 0} (inner : Walks limit (reach gather sync exec dgram) Inv InvCalled InvWoken)
          (gives : GivesFacts limit (reach gather sync exec dgram) Inv InvWoken Fact) where
        pub record HoldsAlong (s : State S) : Type 0 where
          pub inv : Inv s
          pub past : Past s

        pub record CalledAlong (task : ℕ) (answer : ExtraAnswer) (s : State S) : Type 0 where
          pub inv : InvCalled task answer s
          pub past : PastCall task answer s

        pub record WokenAlong (task key : ℕ) (input : Input) (s : State S) : Type 0 where
          pub inv : InvWoken task key input s
          pub by : WokenBy task key s input

        beside_along : (s t : State S) → Beside added s t → HoldsAlong s → HoldsAlong t
        beside_along s t b h = record { inv = inner.beside s t b h.inv; past = past_on s t b.all.kept b.told b.leaves h.past }

        asks_along : (task : ℕ) (code : ℤ) (arguments : List Value) (s : State S) → IsAskedBy limit added task code arguments s → AreApart added s
            → HoldsAlong s → CalledAlong task (added.ask task code arguments s).answer (called (added.ask task code arguments s).call s)
        unfolding tells
        asks_along task code arguments s asked a h =
            let it : Happening S = Asks task code arguments s in
            record {
              inv = inner.asks task code arguments s asked a h.inv;
              past = record {
                called = tells.asks task code arguments s asked h.past.happened;
                left = extend p h.past.happened.history it (sym h.past.happened.keeps, h.past.happened.asked, asked) a h.past.disjoint h.past.left;
                facts = (h.past.facts, gives.asks task code arguments s asked a h.inv);
                disjoint = disjoint_now it a h.past.disjoint;
              };
            }

        wakes_along : (task key : ℕ) (input : Input) (s : State S) → AreApart added s → WokenAlong task key input s
            → CalledAlong task (added.wake key input s).answer (called (added.wake key input s).call s)
        unfolding tells
        wakes_along task key input s a h = record { inv = inner.wakes task key input s a h.inv; past = at input h.inv h.by }
          where
            at : (i : Input) → InvWoken task key i s → WokenBy task key s i
                → PastCall task (added.wake key i s).answer (called (added.wake key i s).call s)
            at i inv (by_wait past woken_so) =
                let it : Happening S = Wakes task key i s in
                record {
                  called = tells.wakes task key i s woken_so past.happened;
                  left = extend p past.happened.history it (sym past.happened.keeps, past.happened.asked, woken_so) a past.disjoint past.left;
                  facts = (past.facts, gives.wakes task key i s a inv);
                  disjoint = disjoint_now it a past.disjoint;
                }
            at _ inv (by_outside code bytes answer before fit events asked left facts d) =
                let question : Question = record { task = task; key = key; code = code; bytes = bytes } in
                let it : Happening S = Hears question answer s in
                record {
                  called = tells.hears task key code bytes answer s before fit events asked;
                  left = extend p asked.history it (sym asked.keeps, asked.asked, fit) a d left;
                  facts = (facts, gives.hears question answer s a inv);
                  disjoint = disjoint_now it a d;
                }

        -- as a handle runs, futures are as they were
        left_out : (by : Action) (rest : List Handle) (s : State S) → (h : Past s) → Left h.happened.history (runs by rest s).loop.parts
        left_out by rest s h =
            move p h.happened.history s.loop.parts (runs by rest s).loop.parts h.left (record { more = le_refl _; stay = λ future mine. inl refl })

        acts_along : (key : ℕ) (handle : Handle) (rest : List Handle) (s : State S) → s.loop.parts.pending ≡ handle ∷ rest → handle.dead ≡ false
            → handle.action ≡ action.Extra key → AreApart added s → HoldsAlong s
            → HoldsAlong (called (added.act key (runs (action.Extra key) rest s)) (runs (action.Extra key) rest s))
        unfolding tells
        acts_along key handle rest s first_is live is a h =
            let gone = runs (action.Extra key) rest s in
            let it : Happening S = Acts key gone in
            record {
              inv = inner.acts key handle rest s first_is live is a h.inv;
              past = record {
                happened = tells.acts key gone s.events refl h.past.happened;
                left = extend p h.past.happened.history it (sym h.past.happened.keeps, h.past.happened.asked)
                    (out_apart added (action.Extra key) handle rest s first_is a) h.past.disjoint (left_out (action.Extra key) rest s h.past);
                facts = (h.past.facts, gives.acts key handle rest s first_is a h.inv);
                disjoint = disjoint_now it (out_apart added (action.Extra key) handle rest s first_is a) h.past.disjoint;
              };
            }

        news_along : (code : ℤ) (bytes : List ℕ) (handle : Handle) (rest : List Handle) (s : State S) → s.loop.parts.pending ≡ handle ∷ rest
            → handle.dead ≡ false → handle.action ≡ action.ExtraItem code bytes → AreApart added s → HoldsAlong s
            → HoldsAlong (called (added.item code bytes (runs (action.ExtraItem code bytes) rest s)) (runs (action.ExtraItem code bytes) rest s))
        unfolding tells
        news_along code bytes handle rest s first_is live is a h =
            let gone = runs (action.ExtraItem code bytes) rest s in
            let it : Happening S = HasNews code bytes gone in
            record {
              inv = inner.news code bytes handle rest s first_is live is a h.inv;
              past = record {
                happened = tells.news code bytes gone s.events refl h.past.happened;
                left = extend p h.past.happened.history it (sym h.past.happened.keeps, h.past.happened.asked)
                    (out_apart added (action.ExtraItem code bytes) handle rest s first_is a) h.past.disjoint
                    (left_out (action.ExtraItem code bytes) rest s h.past);
                facts = (h.past.facts, gives.news code bytes handle rest s first_is a h.inv);
                disjoint = disjoint_now it (out_apart added (action.ExtraItem code bytes) handle rest s first_is a) h.past.disjoint;
              };
            }

        pub along : Walks limit (reach gather sync exec dgram) HoldsAlong CalledAlong WokenAlong
        along = record {
          beside = beside_along;
          asks = asks_along;
          stood = λ task key input s t stood resumed b began none alone a h. record {
            inv = inner.stood task key input s t stood resumed b began none alone a h.inv;
            by = by_wait (past_on s t b.all.kept b.told b.leaves h.past) (inl began);
          };
          done = λ task on key outcome s is h. record {
            inv = inner.done task on key outcome s is h.inv;
            by = by_wait (over_past task (extra.Waits on key) s refl h.past) (inr (record { on = on; outcome = outcome; ended = is; heard = refl }));
          };
          hears = λ task key code bytes answer left s fit h. record {
            inv = inner.hears task key code bytes answer left s fit h.inv;
            by = by_outside code bytes answer s.events fit
                (append_assoc s.events (event.Called (call.Extra code bytes) ∷ []) (event.Got answer ∷ [])) h.past.called h.past.left h.past.facts
                h.past.disjoint;
          };
          wakes = wakes_along;
          over = λ task answer s is h. record { inv = inner.over task answer s is h.inv; past = over_past task answer s is h.past };
          waits = λ task on key s t stood is a h. record {
            inv = inner.waits task on key s t stood is a h.inv;
            past = past_on s t stood.all.kept (told_as s t stood.events) stood.leaves (over_past task (extra.Waits on key) s refl h.past);
          };
          acts = acts_along;
          news = news_along;
        }
