-- Parts that keep to their own futures: so does what routes to them, none of them settles another's, and no future is of two.
use Rattle.std.proofs.Common.{◌≡◌, ◌⊎◌, inl, inr, ℕ, ◌<◌, ℤ, Bool, true, false, List, Option, Some, None, refl, sym, subst, ◌∙◌, arith, le_refl}
use Rattle.std.specs.List.{AllByRecursion as Each}
use Rattle.std.proofs.lemmas.Bool.{true≢false}
use Rattle.model_value.specs.Input.{Input}
use Rattle.model_value.specs.Value.{Value}
use Rattle.model_loop.specs.Futures.{next_future}
use Rattle.model_machine.specs.Extra as extra
use Rattle.model_machine.specs.Extra.{Extra, ExtraCall, ExtraSaid, ExtraStep, made_by_all, unknown_code}
use Rattle.model_machine.specs.State.{State}
use Rattle.model_reach.specs.Part.{refuses, stays as still}
use Rattle.model_reach.specs.Reach.{OfDgram, OfExec, OfGather, OfSync, Part, Parted, called_by, part_as, part_of_code, part_of_key, reach, seen_by}
use Rattle.law_apart.specs.Apart.{IsTheirs, Leaves}
use Rattle.law_parted.proofs.Lists.{each_from, in_first, in_fourth, in_second, in_third, join}
use Rattle.law_runs.specs.Allowed.{IsAmong, IsOwn}
use Rattle.law_sync.proofs.Lists.{among_each, each_on}
use Rattle.law_heeded.specs.Between.{AreDisjoint, is_part, own_of}
use Rattle.law_heeded.specs.Owned.{AreApart, IsCallKept, KeepsToItsFutures, SettlesOwn, WasOwnOrMade, is_among, is_own}
use Rattle.law_heeded.proofs.Owning.{Spares, among_test, apart_on, steps_safe, test_among}

-- ---- two parts
pub same_part : (one other : Part) → (one ≡ other) ⊎ (one ≡ other → ⊥)
same_part OfGather OfGather = inl refl
same_part OfGather OfSync = inr (λ e. absurd (cc))
same_part OfGather OfExec = inr (λ e. absurd (cc))
same_part OfGather OfDgram = inr (λ e. absurd (cc))
same_part OfSync OfGather = inr (λ e. absurd (cc))
same_part OfSync OfSync = inl refl
same_part OfSync OfExec = inr (λ e. absurd (cc))
same_part OfSync OfDgram = inr (λ e. absurd (cc))
same_part OfExec OfGather = inr (λ e. absurd (cc))
same_part OfExec OfSync = inr (λ e. absurd (cc))
same_part OfExec OfExec = inl refl
same_part OfExec OfDgram = inr (λ e. absurd (cc))
same_part OfDgram OfGather = inr (λ e. absurd (cc))
same_part OfDgram OfSync = inr (λ e. absurd (cc))
same_part OfDgram OfExec = inr (λ e. absurd (cc))
same_part OfDgram OfDgram = inl refl

pub other_part : (one other : Part) → is_part one other ≡ false → one ≡ other → ⊥
other_part OfGather OfGather is e = true≢false is
other_part OfSync OfSync is e = true≢false is
other_part OfExec OfExec is e = true≢false is
other_part OfDgram OfDgram is e = true≢false is
other_part OfGather OfSync is e = absurd (cc)
other_part OfGather OfExec is e = absurd (cc)
other_part OfGather OfDgram is e = absurd (cc)
other_part OfSync OfGather is e = absurd (cc)
other_part OfSync OfExec is e = absurd (cc)
other_part OfSync OfDgram is e = absurd (cc)
other_part OfExec OfGather is e = absurd (cc)
other_part OfExec OfSync is e = absurd (cc)
other_part OfExec OfDgram is e = absurd (cc)
other_part OfDgram OfGather is e = absurd (cc)
other_part OfDgram OfSync is e = absurd (cc)
other_part OfDgram OfExec is e = absurd (cc)

module _ {A B C D : Type 0} (gather : Extra A) (sync : Extra B) (exec : Extra C) (dgram : Extra D) where
  abbrev S : Type 0
  S = Parted A B C D

  abbrev added : Extra S
  added = reach gather sync exec dgram

  abbrev Own : Part → S → List ℕ
  Own = own_of gather sync exec dgram

  -- a part's own are the whole's
  pub in_all : (part : Part) (kept : S) (id : ℕ) → IsAmong (Own part kept) id → IsAmong (added.keeps kept).own id
  in_all OfGather kept id h = in_first (Own OfGather kept) (Own OfSync kept) (Own OfExec kept) (Own OfDgram kept) id h
  in_all OfSync kept id h = in_second (Own OfGather kept) (Own OfSync kept) (Own OfExec kept) (Own OfDgram kept) id h
  in_all OfExec kept id h = in_third (Own OfGather kept) (Own OfSync kept) (Own OfExec kept) (Own OfDgram kept) id h
  in_all OfDgram kept id h = in_fourth (Own OfGather kept) (Own OfSync kept) (Own OfExec kept) (Own OfDgram kept) id h

  -- ---- a call of one part
  pub record IsPartKept (part : Part) (call : ExtraCall S) (s : State S) : Type 0 where
    pub settles : Each (SettlesOwn (own_of gather sync exec dgram part s.extra) (next_future s.loop.parts)) call.steps
    pub own : Each (WasOwnOrMade (own_of gather sync exec dgram part s.extra) (next_future s.loop.parts)
        (next_future (made_by_all call.steps s.loop).parts)) (own_of gather sync exec dgram part call.state)
    pub others : (other : Part) → (other ≡ part → ⊥) → own_of gather sync exec dgram other call.state ≡ own_of gather sync exec dgram other s.extra

  of_gather : (call : ExtraCall A) (s : State S) → IsCallKept gather call (seen_by s.extra.gather s)
      → IsPartKept OfGather (called_by (λ it. record (s.extra) { gather = it }) call) s
  of_gather call s is = record { settles = is.settles; own = is.own; others = at }
    where
      at : (other : Part) → (other ≡ OfGather → ⊥) → own_of gather sync exec dgram other (record (s.extra) { gather = call.state })
          ≡ own_of gather sync exec dgram other s.extra
      at OfGather differs = absurd (differs refl)
      at OfSync differs = refl
      at OfExec differs = refl
      at OfDgram differs = refl

  of_sync : (call : ExtraCall B) (s : State S) → IsCallKept sync call (seen_by s.extra.sync s)
      → IsPartKept OfSync (called_by (λ it. record (s.extra) { sync = it }) call) s
  of_sync call s is = record { settles = is.settles; own = is.own; others = at }
    where
      at : (other : Part) → (other ≡ OfSync → ⊥) → own_of gather sync exec dgram other (record (s.extra) { sync = call.state })
          ≡ own_of gather sync exec dgram other s.extra
      at OfGather differs = refl
      at OfSync differs = absurd (differs refl)
      at OfExec differs = refl
      at OfDgram differs = refl

  of_exec : (call : ExtraCall C) (s : State S) → IsCallKept exec call (seen_by s.extra.exec s)
      → IsPartKept OfExec (called_by (λ it. record (s.extra) { exec = it }) call) s
  of_exec call s is = record { settles = is.settles; own = is.own; others = at }
    where
      at : (other : Part) → (other ≡ OfExec → ⊥) → own_of gather sync exec dgram other (record (s.extra) { exec = call.state })
          ≡ own_of gather sync exec dgram other s.extra
      at OfGather differs = refl
      at OfSync differs = refl
      at OfExec differs = absurd (differs refl)
      at OfDgram differs = refl

  of_dgram : (call : ExtraCall D) (s : State S) → IsCallKept dgram call (seen_by s.extra.dgram s)
      → IsPartKept OfDgram (called_by (λ it. record (s.extra) { dgram = it }) call) s
  of_dgram call s is = record { settles = is.settles; own = is.own; others = at }
    where
      at : (other : Part) → (other ≡ OfDgram → ⊥) → own_of gather sync exec dgram other (record (s.extra) { dgram = call.state })
          ≡ own_of gather sync exec dgram other s.extra
      at OfGather differs = refl
      at OfSync differs = refl
      at OfExec differs = refl
      at OfDgram differs = absurd (differs refl)

  -- one that changes nothing
  pub still_kept : (part : Part) (s : State S) → IsPartKept part (still s.extra) s
  still_kept part s = record {
    settles = tt;
    own = each_from (WasOwnOrMade (Own part s.extra) (next_future s.loop.parts) (next_future s.loop.parts)) (Own part s.extra)
        (λ place id e. inl (place, e));
    others = λ other differs. refl;
  }

  -- ---- so it is of the whole
  module _ (part : Part) (call : ExtraCall S) (s : State S) (is : IsPartKept part call s) where
    abbrev first : ℕ
    first = next_future s.loop.parts

    abbrev last : ℕ
    last = next_future (made_by_all call.steps s.loop).parts

    settles_more : (step : ExtraStep) → SettlesOwn (Own part s.extra) first step → SettlesOwn (added.keeps s.extra).own first step
    settles_more (extra.Settles future outcome) (inl own) = inl (in_all part s.extra future own)
    settles_more (extra.Settles future outcome) (inr made) = inr made
    settles_more extra.MakesPlain own = tt
    settles_more (extra.MakesMany members) own = tt
    settles_more (extra.Releases future) own = tt
    settles_more (extra.Registers future key) own = tt
    settles_more (extra.CallsSoon key) own = tt
    settles_more (extra.CallsLater when key) own = tt
    settles_more (extra.Revokes tag) own = tt
    settles_more (extra.Cancels key future) own = tt
    settles_more (extra.Uncancels key task) own = tt

    abbrev Was : ℕ → Type 0
    Was = WasOwnOrMade (added.keeps s.extra).own first last

    was_more : (x : Part) (id : ℕ) → WasOwnOrMade (Own x s.extra) first last id → Was id
    was_more x id (inl own) = inl (in_all x s.extra id own)
    was_more x id (inr made) = inr made

    own_by : (x : Part) → (x ≡ part) ⊎ (x ≡ part → ⊥) → Each Was (Own x call.state)
    own_by x (inl same) =
        subst (λ y. Each Was (Own y call.state)) (sym same)
        (each_on (WasOwnOrMade (Own part s.extra) first last) Was (was_more part) (Own part call.state) is.own)
    own_by x (inr differs) =
        subst (Each Was) (sym (is.others x differs)) (each_from Was (Own x s.extra) (λ place id e. inl (in_all x s.extra id (place, e))))

    own_in : (x : Part) → Each Was (Own x call.state)
    own_in x = own_by x (same_part x part)

    pub whole_kept : IsCallKept added call s
    whole_kept = record {
      settles = each_on (SettlesOwn (Own part s.extra) first) (SettlesOwn (added.keeps s.extra).own first) settles_more call.steps is.settles;
      own = join Was (Own OfGather call.state) (Own OfSync call.state) (Own OfExec call.state) (Own OfDgram call.state) (record {
        first = own_in OfGather;
        second = own_in OfSync;
        third = own_in OfExec;
        fourth = own_in OfDgram;
      });
    }

    -- ---- and no other's is settled, nor comes to be this part's
    module _ (a : AreApart added s) (disjoint : AreDisjoint gather sync exec dgram s.extra) where
      below : (x : Part) (id : ℕ) → IsAmong (Own x s.extra) id → id < first
      below x id own = a.below id (test_among (added.keeps s.extra).own id (in_all x s.extra id own))

      -- this part's own, then and before
      mine : (x : Part) → (x ≡ part → ⊥) → (id : ℕ) → IsAmong (Own part call.state) id → IsAmong (Own x s.extra) id → ⊥
      mine x differs id own theirs =
          at (among_each (WasOwnOrMade (Own part s.extra) first last) (Own part call.state) id is.own own)
        where
          at : WasOwnOrMade (Own part s.extra) first last id → ⊥
          at (inl was) = disjoint x part differs id theirs was
          at (inr made) = let l = below x id theirs in let m = made.0 in absurd (omega (arith, l, m))

      before : (x : Part) → (x ≡ part → ⊥) → (id : ℕ) → IsAmong (Own x call.state) id → IsAmong (Own x s.extra) id
      before x differs id own = subst (λ ids. IsAmong ids id) (is.others x differs) own

      pub now_disjoint : AreDisjoint gather sync exec dgram call.state
      now_disjoint one other differs id of_one of_other = at (same_part one part) (same_part other part)
        where
          at : (one ≡ part) ⊎ (one ≡ part → ⊥) → (other ≡ part) ⊎ (other ≡ part → ⊥) → ⊥
          at (inl a) (inl b) = differs (a ∙ sym b)
          at (inl a) (inr b) = mine other b id (subst (λ x. IsAmong (Own x call.state) id) a of_one) (before other b id of_other)
          at (inr a) (inl b) = mine one a id (subst (λ x. IsAmong (Own x call.state) id) b of_other) (before one a id of_one)
          at (inr a) (inr b) = disjoint one other differs id (before one a id of_one) (before other b id of_other)

      -- of another part
      module _ (x : Part) (differs : x ≡ part → ⊥) where
        abbrev theirs : ℕ → Bool
        theirs = is_among (Own x s.extra)

        spared : (step : ExtraStep) → SettlesOwn (Own part s.extra) first step → Spares theirs step
        spared (extra.Settles future outcome) own = at (is_among (Own x s.extra) future) refl own
          where
            at : (b : Bool) → is_among (Own x s.extra) future ≡ b → IsOwn (Own part s.extra) first future → is_among (Own x s.extra) future ≡ false
            at false e own = e
            at true e (inl was) = absurd (disjoint x part differs future (among_test (Own x s.extra) future e) was)
            at true e (inr made) = let l = below x future (among_test (Own x s.extra) future e) in absurd (omega (arith, l, made))
        spared extra.MakesPlain own = tt
        spared (extra.MakesMany members) own = tt
        spared (extra.Releases future) own = tt
        spared (extra.Registers future key) own = tt
        spared (extra.CallsSoon key) own = tt
        spared (extra.CallsLater when key) own = tt
        spared (extra.Revokes tag) own = tt
        spared (extra.Cancels key future) own = tt
        spared (extra.Uncancels key task) own = tt

        fewer : (future : ℕ) → IsTheirs (is_own added s.extra) first future → IsTheirs theirs first future
        fewer future is = (at (theirs future) refl, is.1)
          where
            at : (b : Bool) → is_among (Own x s.extra) future ≡ b → is_among (Own x s.extra) future ≡ false
            at false e = e
            at true e =
                absurd (true≢false (sym (test_among (added.keeps s.extra).own future (in_all x s.extra future (among_test (Own x s.extra) future e))) ∙ is.0))

        pub others_leave : Leaves (is_among (own_of gather sync exec dgram x s.extra)) s.loop.parts (made_by_all call.steps s.loop).parts
        others_leave =
            (steps_safe theirs first (λ future own. below x future (among_test (Own x s.extra) future own)) call.steps s.loop
            (each_on (SettlesOwn (Own part s.extra) first) (Spares theirs) spared call.steps is.settles)
            (apart_on (is_own added s.extra) theirs first first first first fewer s.loop s.loop.parts.futures refl refl (le_refl first)
            a.apart.loop.parts.callbacks a.apart.loop)).leaves

  -- ---- each call
  module _ (keeps_gather : KeepsToItsFutures gather) (keeps_sync : KeepsToItsFutures sync) (keeps_exec : KeepsToItsFutures exec)
      (keeps_dgram : KeepsToItsFutures dgram) where
    pub ask_part : (part : Part) (task : ℕ) (code : ℤ) (arguments : List Value) (s : State S)
        → IsPartKept part ((part_as gather sync exec dgram part).ask task code arguments s).call s
    ask_part OfGather task code arguments s = of_gather _ s (keeps_gather.ask task code arguments (seen_by s.extra.gather s))
    ask_part OfSync task code arguments s = of_sync _ s (keeps_sync.ask task code arguments (seen_by s.extra.sync s))
    ask_part OfExec task code arguments s = of_exec _ s (keeps_exec.ask task code arguments (seen_by s.extra.exec s))
    ask_part OfDgram task code arguments s = of_dgram _ s (keeps_dgram.ask task code arguments (seen_by s.extra.dgram s))

    pub wake_part : (part : Part) (key : ℕ) (input : Input) (s : State S)
        → IsPartKept part ((part_as gather sync exec dgram part).wake key input s).call s
    wake_part OfGather key input s = of_gather _ s (keeps_gather.wake key input (seen_by s.extra.gather s))
    wake_part OfSync key input s = of_sync _ s (keeps_sync.wake key input (seen_by s.extra.sync s))
    wake_part OfExec key input s = of_exec _ s (keeps_exec.wake key input (seen_by s.extra.exec s))
    wake_part OfDgram key input s = of_dgram _ s (keeps_dgram.wake key input (seen_by s.extra.dgram s))

    pub act_part : (part : Part) (key : ℕ) (s : State S) → IsPartKept part ((part_as gather sync exec dgram part).act key s) s
    act_part OfGather key s = of_gather _ s (keeps_gather.act key (seen_by s.extra.gather s))
    act_part OfSync key s = of_sync _ s (keeps_sync.act key (seen_by s.extra.sync s))
    act_part OfExec key s = of_exec _ s (keeps_exec.act key (seen_by s.extra.exec s))
    act_part OfDgram key s = of_dgram _ s (keeps_dgram.act key (seen_by s.extra.dgram s))

    pub item_part : (part : Part) (code : ℤ) (bytes : List ℕ) (s : State S)
        → IsPartKept part ((part_as gather sync exec dgram part).item code bytes s) s
    item_part OfGather code bytes s = of_gather _ s (keeps_gather.item code bytes (seen_by s.extra.gather s))
    item_part OfSync code bytes s = of_sync _ s (keeps_sync.item code bytes (seen_by s.extra.sync s))
    item_part OfExec code bytes s = of_exec _ s (keeps_exec.item code bytes (seen_by s.extra.exec s))
    item_part OfDgram code bytes s = of_dgram _ s (keeps_dgram.item code bytes (seen_by s.extra.dgram s))

    pub reach_keeps : KeepsToItsFutures (reach gather sync exec dgram)
    reach_keeps = record {
      ask = λ task code arguments s. asked task code arguments s (part_of_code code);
      wake = λ key input s. whole_kept (part_of_key key) _ s (wake_part (part_of_key key) key input s);
      act = λ key s. whole_kept (part_of_key key) _ s (act_part (part_of_key key) key s);
      item = λ code bytes s. news code bytes s (part_of_code code);
    }
      where
        asked : (task : ℕ) (code : ℤ) (arguments : List Value) (s : State S) (o : Option Part)
            → IsCallKept added (ExtraSaid.call {S = S} (elim o [
              | None ↦ refuses (unknown_code code) s.extra
              | Some part ↦ (part_as gather sync exec dgram part).ask task code arguments s
            ])) s
        asked task code arguments s None = whole_kept OfGather (still s.extra) s (still_kept OfGather s)
        asked task code arguments s (Some part) = whole_kept part _ s (ask_part part task code arguments s)

        news : (code : ℤ) (bytes : List ℕ) (s : State S) (o : Option Part)
            → IsCallKept added (elim o [
              | None ↦ still s.extra
              | Some part ↦ (part_as gather sync exec dgram part).item code bytes s
            ]) s
        news code bytes s None = whole_kept OfGather (still s.extra) s (still_kept OfGather s)
        news code bytes s (Some part) = whole_kept part _ s (item_part part code bytes s)
