-- The router makes allowed steps alone where its parts do, and wakes fall.
use Rattle.std.proofs.Common.{◌≡◌, ℕ, ℤ, ◌<◌, ◌⊎◌, inl, inr, true, List, Option, Some, None, refl, sym, ap, subst}
use Rattle.std.specs.List.{list_all}
use Rattle.model_value.specs.Input.{Input}
use Rattle.model_value.specs.Value.{Value}
use Rattle.model_loop.specs.Parts.{Parts}
use Rattle.model_machine.specs.Extra.{Extra, KeepsKeys, WakesFall, unknown_code}
use Rattle.model_machine.specs.Sound.{AreKept, Ids, ids_of, names_made, sends_made}
use Rattle.model_machine.specs.State.{State}
use Rattle.model_reach.specs.Part.{refuses, stays}
use Rattle.model_reach.specs.Reach.{Part, OfGather, OfSync, OfExec, OfDgram, Parted, part_as, part_of_code, part_of_key, reach, seen_by}
use Rattle.law_runs.specs.Allowed.{IsCallAllowed, IsOwn, IsSaidAllowed, MakesAllowedSteps, MayCall}
use Rattle.model_loop.specs.Futures.{next_future}
use Rattle.law_parted.specs.Keys.{HasKeysOf}
use Rattle.law_parted.proofs.Lists.{each_from, in_first, in_fourth, in_second, in_third, join, split}
use Rattle.law_parted.proofs.Together.{AllKept, apart, together}
use Rattle.law_parted.proofs.Within.{Puts, Splits, act_within, ask_within, item_within, wake_within}

-- ---- parts
same_part : (a b : Part) → (a ≡ b) ⊎ (a ≡ b → ⊥)
same_part OfGather OfGather = inl refl
same_part OfGather OfSync = inr (λ e. absurd (cc))
same_part OfGather OfExec = inr (λ e. absurd (cc))
same_part OfGather OfDgram = inr (λ e. absurd (cc))
same_part OfSync OfGather = inr (λ e. absurd (cc))
same_part OfSync OfSync = inl refl
same_part OfSync OfExec = inr (λ e. absurd (cc))
same_part OfSync OfDgram = inr (λ e. absurd (cc))
same_part OfExec OfGather = inr (λ e. absurd (cc))
same_part OfExec OfSync = inr (λ e. absurd (cc))
same_part OfExec OfExec = inl refl
same_part OfExec OfDgram = inr (λ e. absurd (cc))
same_part OfDgram OfGather = inr (λ e. absurd (cc))
same_part OfDgram OfSync = inr (λ e. absurd (cc))
same_part OfDgram OfExec = inr (λ e. absurd (cc))
same_part OfDgram OfDgram = inl refl

module _ {A B C D : Type 0} (gather : Extra A) (sync : Extra B) (exec : Extra C) (dgram : Extra D) where
  abbrev whole : Extra (Parted A B C D)
  whole = reach gather sync exec dgram

  -- whose key it is, says whose keys are looked at
  has_at : (kept : Parted A B C D) (key : ℕ) (part : Part) → part_of_key key ≡ part
      → ((part_as gather sync exec dgram (part_of_key key)).keeps kept).has_key key ≡ ((part_as gather sync exec dgram part).keeps kept).has_key key
  has_at kept key part here = ap (λ q. ((part_as gather sync exec dgram q).keeps kept).has_key key) here

  -- of another part, a part that is put back changes nothing
  other_has : (old new : Parted A B C D) (key : ℕ) (this : Part)
      → ((q : Part) → (q ≡ this → ⊥) → ((part_as gather sync exec dgram q).keeps new).has_key key
      ≡ ((part_as gather sync exec dgram q).keeps old).has_key key)
      → (part_of_key key ≡ this → ⊥)
      → ((part_as gather sync exec dgram (part_of_key key)).keeps new).has_key key
      ≡ ((part_as gather sync exec dgram (part_of_key key)).keeps old).has_key key
  other_has old new key this same differs = same (part_of_key key) differs

  all_of : (ids : Ids) (kept : Parted A B C D) (futures : List ℕ) (p : Parts) → AreKept ids (whole.keeps kept) futures p
      → AllKept ids (gather.keeps kept.gather) (sync.keeps kept.sync) (exec.keeps kept.exec) (dgram.keeps kept.dgram)
      (λ key. ((part_as gather sync exec dgram (part_of_key key)).keeps kept).has_key key) futures p
  all_of ids kept futures p is =
      apart ids (gather.keeps kept.gather) (sync.keeps kept.sync) (exec.keeps kept.exec) (dgram.keeps kept.dgram)
      (λ key. ((part_as gather sync exec dgram (part_of_key key)).keeps kept).has_key key) futures p is

  gather_splits : Splits OfGather (λ (kept : Parted A B C D). kept.gather) (λ it kept. record kept { gather = it }) gather.keeps whole.keeps
  gather_splits = record {
    kept_apart = λ ids kept futures p is. (all_of ids kept futures p is).first;
    kept_put = λ ids it kept futures p is mine.
        let all = all_of ids kept futures p is in
        together ids (gather.keeps it) (sync.keeps kept.sync) (exec.keeps kept.exec) (dgram.keeps kept.dgram) _ futures p
        (record { first = mine; second = all.second; third = all.third; fourth = all.fourth });
    own_in = λ kept id mine.
        in_first (gather.keeps kept.gather).own (sync.keeps kept.sync).own (exec.keeps kept.exec).own (dgram.keeps kept.dgram).own id mine;
    tags_in = λ kept id mine.
        in_first (gather.keeps kept.gather).tags (sync.keeps kept.sync).tags (exec.keeps kept.exec).tags (dgram.keeps kept.dgram).tags id mine;
    keys_now = λ kept key here. has_at kept key OfGather here;
    keys_put = λ it kept key here. has_at (record kept { gather = it }) key OfGather here;
    keys_other = λ it kept key differs. other_has kept (record kept { gather = it }) key OfGather (unchanged it kept key) differs;
    is_this = λ key. same_part (part_of_key key) OfGather;
  }
    where
      unchanged : (it : A) (kept : Parted A B C D) (key : ℕ) (q : Part) → (q ≡ OfGather → ⊥)
          → ((part_as gather sync exec dgram q).keeps (record kept { gather = it })).has_key key
          ≡ ((part_as gather sync exec dgram q).keeps kept).has_key key
      unchanged it kept key OfGather n = absurd (n refl)
      unchanged it kept key OfSync n = refl
      unchanged it kept key OfExec n = refl
      unchanged it kept key OfDgram n = refl

  gather_puts : Puts (λ it (kept : Parted A B C D). record kept { gather = it }) gather.keeps whole.keeps
  gather_puts = record {
    own = λ Q it kept all mine.
        let four = split Q (gather.keeps kept.gather).own (sync.keeps kept.sync).own (exec.keeps kept.exec).own (dgram.keeps kept.dgram).own all in
        join Q (gather.keeps it).own (sync.keeps kept.sync).own (exec.keeps kept.exec).own (dgram.keeps kept.dgram).own
        (record { first = mine; second = four.second; third = four.third; fourth = four.fourth });
    tags = λ Q it kept all mine.
        let four = split Q (gather.keeps kept.gather).tags (sync.keeps kept.sync).tags (exec.keeps kept.exec).tags (dgram.keeps kept.dgram).tags all in
        join Q (gather.keeps it).tags (sync.keeps kept.sync).tags (exec.keeps kept.exec).tags (dgram.keeps kept.dgram).tags
        (record { first = mine; second = four.second; third = four.third; fourth = four.fourth });
  }

  sync_splits : Splits OfSync (λ (kept : Parted A B C D). kept.sync) (λ it kept. record kept { sync = it }) sync.keeps whole.keeps
  sync_splits = record {
    kept_apart = λ ids kept futures p is. (all_of ids kept futures p is).second;
    kept_put = λ ids it kept futures p is mine.
        let all = all_of ids kept futures p is in
        together ids (gather.keeps kept.gather) (sync.keeps it) (exec.keeps kept.exec) (dgram.keeps kept.dgram) _ futures p
        (record { first = all.first; second = mine; third = all.third; fourth = all.fourth });
    own_in = λ kept id mine.
        in_second (gather.keeps kept.gather).own (sync.keeps kept.sync).own (exec.keeps kept.exec).own (dgram.keeps kept.dgram).own id mine;
    tags_in = λ kept id mine.
        in_second (gather.keeps kept.gather).tags (sync.keeps kept.sync).tags (exec.keeps kept.exec).tags (dgram.keeps kept.dgram).tags id mine;
    keys_now = λ kept key here. has_at kept key OfSync here;
    keys_put = λ it kept key here. has_at (record kept { sync = it }) key OfSync here;
    keys_other = λ it kept key differs. other_has kept (record kept { sync = it }) key OfSync (unchanged it kept key) differs;
    is_this = λ key. same_part (part_of_key key) OfSync;
  }
    where
      unchanged : (it : B) (kept : Parted A B C D) (key : ℕ) (q : Part) → (q ≡ OfSync → ⊥)
          → ((part_as gather sync exec dgram q).keeps (record kept { sync = it })).has_key key
          ≡ ((part_as gather sync exec dgram q).keeps kept).has_key key
      unchanged it kept key OfGather n = refl
      unchanged it kept key OfSync n = absurd (n refl)
      unchanged it kept key OfExec n = refl
      unchanged it kept key OfDgram n = refl

  sync_puts : Puts (λ it (kept : Parted A B C D). record kept { sync = it }) sync.keeps whole.keeps
  sync_puts = record {
    own = λ Q it kept all mine.
        let four = split Q (gather.keeps kept.gather).own (sync.keeps kept.sync).own (exec.keeps kept.exec).own (dgram.keeps kept.dgram).own all in
        join Q (gather.keeps kept.gather).own (sync.keeps it).own (exec.keeps kept.exec).own (dgram.keeps kept.dgram).own
        (record { first = four.first; second = mine; third = four.third; fourth = four.fourth });
    tags = λ Q it kept all mine.
        let four = split Q (gather.keeps kept.gather).tags (sync.keeps kept.sync).tags (exec.keeps kept.exec).tags (dgram.keeps kept.dgram).tags all in
        join Q (gather.keeps kept.gather).tags (sync.keeps it).tags (exec.keeps kept.exec).tags (dgram.keeps kept.dgram).tags
        (record { first = four.first; second = mine; third = four.third; fourth = four.fourth });
  }

  exec_splits : Splits OfExec (λ (kept : Parted A B C D). kept.exec) (λ it kept. record kept { exec = it }) exec.keeps whole.keeps
  exec_splits = record {
    kept_apart = λ ids kept futures p is. (all_of ids kept futures p is).third;
    kept_put = λ ids it kept futures p is mine.
        let all = all_of ids kept futures p is in
        together ids (gather.keeps kept.gather) (sync.keeps kept.sync) (exec.keeps it) (dgram.keeps kept.dgram) _ futures p
        (record { first = all.first; second = all.second; third = mine; fourth = all.fourth });
    own_in = λ kept id mine.
        in_third (gather.keeps kept.gather).own (sync.keeps kept.sync).own (exec.keeps kept.exec).own (dgram.keeps kept.dgram).own id mine;
    tags_in = λ kept id mine.
        in_third (gather.keeps kept.gather).tags (sync.keeps kept.sync).tags (exec.keeps kept.exec).tags (dgram.keeps kept.dgram).tags id mine;
    keys_now = λ kept key here. has_at kept key OfExec here;
    keys_put = λ it kept key here. has_at (record kept { exec = it }) key OfExec here;
    keys_other = λ it kept key differs. other_has kept (record kept { exec = it }) key OfExec (unchanged it kept key) differs;
    is_this = λ key. same_part (part_of_key key) OfExec;
  }
    where
      unchanged : (it : C) (kept : Parted A B C D) (key : ℕ) (q : Part) → (q ≡ OfExec → ⊥)
          → ((part_as gather sync exec dgram q).keeps (record kept { exec = it })).has_key key
          ≡ ((part_as gather sync exec dgram q).keeps kept).has_key key
      unchanged it kept key OfGather n = refl
      unchanged it kept key OfSync n = refl
      unchanged it kept key OfExec n = absurd (n refl)
      unchanged it kept key OfDgram n = refl

  exec_puts : Puts (λ it (kept : Parted A B C D). record kept { exec = it }) exec.keeps whole.keeps
  exec_puts = record {
    own = λ Q it kept all mine.
        let four = split Q (gather.keeps kept.gather).own (sync.keeps kept.sync).own (exec.keeps kept.exec).own (dgram.keeps kept.dgram).own all in
        join Q (gather.keeps kept.gather).own (sync.keeps kept.sync).own (exec.keeps it).own (dgram.keeps kept.dgram).own
        (record { first = four.first; second = four.second; third = mine; fourth = four.fourth });
    tags = λ Q it kept all mine.
        let four = split Q (gather.keeps kept.gather).tags (sync.keeps kept.sync).tags (exec.keeps kept.exec).tags (dgram.keeps kept.dgram).tags all in
        join Q (gather.keeps kept.gather).tags (sync.keeps kept.sync).tags (exec.keeps it).tags (dgram.keeps kept.dgram).tags
        (record { first = four.first; second = four.second; third = mine; fourth = four.fourth });
  }

  dgram_splits : Splits OfDgram (λ (kept : Parted A B C D). kept.dgram) (λ it kept. record kept { dgram = it }) dgram.keeps whole.keeps
  dgram_splits = record {
    kept_apart = λ ids kept futures p is. (all_of ids kept futures p is).fourth;
    kept_put = λ ids it kept futures p is mine.
        let all = all_of ids kept futures p is in
        together ids (gather.keeps kept.gather) (sync.keeps kept.sync) (exec.keeps kept.exec) (dgram.keeps it) _ futures p
        (record { first = all.first; second = all.second; third = all.third; fourth = mine });
    own_in = λ kept id mine.
        in_fourth (gather.keeps kept.gather).own (sync.keeps kept.sync).own (exec.keeps kept.exec).own (dgram.keeps kept.dgram).own id mine;
    tags_in = λ kept id mine.
        in_fourth (gather.keeps kept.gather).tags (sync.keeps kept.sync).tags (exec.keeps kept.exec).tags (dgram.keeps kept.dgram).tags id mine;
    keys_now = λ kept key here. has_at kept key OfDgram here;
    keys_put = λ it kept key here. has_at (record kept { dgram = it }) key OfDgram here;
    keys_other = λ it kept key differs. other_has kept (record kept { dgram = it }) key OfDgram (unchanged it kept key) differs;
    is_this = λ key. same_part (part_of_key key) OfDgram;
  }
    where
      unchanged : (it : D) (kept : Parted A B C D) (key : ℕ) (q : Part) → (q ≡ OfDgram → ⊥)
          → ((part_as gather sync exec dgram q).keeps (record kept { dgram = it })).has_key key
          ≡ ((part_as gather sync exec dgram q).keeps kept).has_key key
      unchanged it kept key OfGather n = refl
      unchanged it kept key OfSync n = refl
      unchanged it kept key OfExec n = refl
      unchanged it kept key OfDgram n = absurd (n refl)

  dgram_puts : Puts (λ it (kept : Parted A B C D). record kept { dgram = it }) dgram.keeps whole.keeps
  dgram_puts = record {
    own = λ Q it kept all mine.
        let four = split Q (gather.keeps kept.gather).own (sync.keeps kept.sync).own (exec.keeps kept.exec).own (dgram.keeps kept.dgram).own all in
        join Q (gather.keeps kept.gather).own (sync.keeps kept.sync).own (exec.keeps kept.exec).own (dgram.keeps it).own
        (record { first = four.first; second = four.second; third = four.third; fourth = mine });
    tags = λ Q it kept all mine.
        let four = split Q (gather.keeps kept.gather).tags (sync.keeps kept.sync).tags (exec.keeps kept.exec).tags (dgram.keeps kept.dgram).tags all in
        join Q (gather.keeps kept.gather).tags (sync.keeps kept.sync).tags (exec.keeps kept.exec).tags (dgram.keeps it).tags
        (record { first = four.first; second = four.second; third = four.third; fourth = mine });
  }

  module _ (of_gather : HasKeysOf OfGather gather) (of_sync : HasKeysOf OfSync sync) (of_exec : HasKeysOf OfExec exec)
      (of_dgram : HasKeysOf OfDgram dgram) (for_gather : MakesAllowedSteps gather) (for_sync : MakesAllowedSteps sync)
      (for_exec : MakesAllowedSteps exec) (for_dgram : MakesAllowedSteps dgram) where
    ask_part : (part : Part) (task : ℕ) (code : ℤ) (arguments : List Value) (s : State (Parted A B C D))
        → MayCall (reach gather sync exec dgram) (Some task) s → list_all (names_made (ids_of s)) arguments ≡ true
        → IsSaidAllowed (reach gather sync exec dgram) None ((part_as gather sync exec dgram part).ask task code arguments s) s
    ask_part OfGather = ask_within (reach gather sync exec dgram) gather OfGather (λ (kept : Parted A B C D). kept.gather)
        (λ it kept. record kept { gather = it })
        gather_splits gather_puts of_gather for_gather
    ask_part OfSync = ask_within (reach gather sync exec dgram) sync OfSync (λ (kept : Parted A B C D). kept.sync)
        (λ it kept. record kept { sync = it })
        sync_splits sync_puts of_sync for_sync
    ask_part OfExec = ask_within (reach gather sync exec dgram) exec OfExec (λ (kept : Parted A B C D). kept.exec)
        (λ it kept. record kept { exec = it })
        exec_splits exec_puts of_exec for_exec
    ask_part OfDgram = ask_within (reach gather sync exec dgram) dgram OfDgram (λ (kept : Parted A B C D). kept.dgram)
        (λ it kept. record kept { dgram = it })
        dgram_splits dgram_puts of_dgram for_dgram

    wake_part : (part : Part) (task key : ℕ) (input : Input) (s : State (Parted A B C D)) → part_of_key key ≡ part
        → MayCall (reach gather sync exec dgram) (Some task) s → ((reach gather sync exec dgram).keeps s.extra).has_key key ≡ true
        → sends_made (ids_of s) input ≡ true
        → IsSaidAllowed (reach gather sync exec dgram) (Some key) ((part_as gather sync exec dgram part).wake key input s) s
    wake_part OfGather = wake_within (reach gather sync exec dgram) gather OfGather (λ (kept : Parted A B C D). kept.gather)
        (λ it kept. record kept { gather = it })
        gather_splits gather_puts of_gather for_gather
    wake_part OfSync = wake_within (reach gather sync exec dgram) sync OfSync (λ (kept : Parted A B C D). kept.sync)
        (λ it kept. record kept { sync = it })
        sync_splits sync_puts of_sync for_sync
    wake_part OfExec = wake_within (reach gather sync exec dgram) exec OfExec (λ (kept : Parted A B C D). kept.exec)
        (λ it kept. record kept { exec = it })
        exec_splits exec_puts of_exec for_exec
    wake_part OfDgram = wake_within (reach gather sync exec dgram) dgram OfDgram (λ (kept : Parted A B C D). kept.dgram)
        (λ it kept. record kept { dgram = it })
        dgram_splits dgram_puts of_dgram for_dgram

    act_part : (part : Part) (key : ℕ) (s : State (Parted A B C D)) → MayCall (reach gather sync exec dgram) None s
        → IsCallAllowed (reach gather sync exec dgram) None ((part_as gather sync exec dgram part).act key s) s
    act_part OfGather = act_within (reach gather sync exec dgram) gather OfGather (λ (kept : Parted A B C D). kept.gather)
        (λ it kept. record kept { gather = it })
        gather_splits gather_puts of_gather for_gather
    act_part OfSync = act_within (reach gather sync exec dgram) sync OfSync (λ (kept : Parted A B C D). kept.sync)
        (λ it kept. record kept { sync = it })
        sync_splits sync_puts of_sync for_sync
    act_part OfExec = act_within (reach gather sync exec dgram) exec OfExec (λ (kept : Parted A B C D). kept.exec)
        (λ it kept. record kept { exec = it })
        exec_splits exec_puts of_exec for_exec
    act_part OfDgram = act_within (reach gather sync exec dgram) dgram OfDgram (λ (kept : Parted A B C D). kept.dgram)
        (λ it kept. record kept { dgram = it })
        dgram_splits dgram_puts of_dgram for_dgram

    item_part : (part : Part) (code : ℤ) (bytes : List ℕ) (s : State (Parted A B C D)) → MayCall (reach gather sync exec dgram) None s
        → IsCallAllowed (reach gather sync exec dgram) None ((part_as gather sync exec dgram part).item code bytes s) s
    item_part OfGather = item_within (reach gather sync exec dgram) gather OfGather (λ (kept : Parted A B C D). kept.gather)
        (λ it kept. record kept { gather = it })
        gather_splits gather_puts of_gather for_gather
    item_part OfSync = item_within (reach gather sync exec dgram) sync OfSync (λ (kept : Parted A B C D). kept.sync)
        (λ it kept. record kept { sync = it })
        sync_splits sync_puts of_sync for_sync
    item_part OfExec = item_within (reach gather sync exec dgram) exec OfExec (λ (kept : Parted A B C D). kept.exec)
        (λ it kept. record kept { exec = it })
        exec_splits exec_puts of_exec for_exec
    item_part OfDgram = item_within (reach gather sync exec dgram) dgram OfDgram (λ (kept : Parted A B C D). kept.dgram)
        (λ it kept. record kept { dgram = it })
        dgram_splits dgram_puts of_dgram for_dgram

    -- a code that nobody serves
    stays_allowed : (running : Option ℕ) (s : State (Parted A B C D)) → MayCall (reach gather sync exec dgram) running s
        → IsCallAllowed (reach gather sync exec dgram) None (stays s.extra) s
    stays_allowed running s may = record {
      steps = tt;
      kept = may.kept;
      own = each_from (IsOwn (whole.keeps s.extra).own (next_future s.loop.parts)) (whole.keeps s.extra).own (λ place id e. inl (place, e));
      tags = each_from (IsOwn (whole.keeps s.extra).tags s.loop.parts.next_tag) (whole.keeps s.extra).tags (λ place id e. inl (place, e));
      keys = λ key differs known. known;
    }

    asked : (task : ℕ) (code : ℤ) (arguments : List Value) (s : State (Parted A B C D)) (may : MayCall (reach gather sync exec dgram) (Some task) s)
        → list_all (names_made (ids_of s)) arguments ≡ true → (o : Option Part)
        → IsSaidAllowed (reach gather sync exec dgram) None (elim o [
          | None ↦ refuses (unknown_code code) s.extra
          | Some part ↦ (part_as gather sync exec dgram part).ask task code arguments s
        ]) s
    asked task code arguments s may made None = record { call = stays_allowed (Some task) s may; answer = tt; key = λ key e. absurd (cc) }
    asked task code arguments s may made (Some part) = ask_part part task code arguments s may made

    told : (code : ℤ) (bytes : List ℕ) (s : State (Parted A B C D)) (may : MayCall (reach gather sync exec dgram) None s) (o : Option Part)
        → IsCallAllowed (reach gather sync exec dgram) None (elim o [
          | None ↦ stays s.extra
          | Some part ↦ (part_as gather sync exec dgram part).item code bytes s
        ]) s
    told code bytes s may None = stays_allowed None s may
    told code bytes s may (Some part) = item_part part code bytes s may

    pub reach_allowed : MakesAllowedSteps (reach gather sync exec dgram)
    reach_allowed = record {
      ask = λ task code arguments s may made. asked task code arguments s may made (part_of_code code);
      wake = λ task key input s may known made. wake_part (part_of_key key) task key input s refl may known made;
      act = λ key s may. act_part (part_of_key key) key s may;
      item = λ code bytes s may. told code bytes s may (part_of_code code);
    }

  -- ---- wakes fall
  module _ (same_gather : KeepsKeys gather) (same_sync : KeepsKeys sync) (same_exec : KeepsKeys exec) (same_dgram : KeepsKeys dgram) where
    part_keeps : (part : Part) → KeepsKeys (part_as gather sync exec dgram part)
    part_keeps OfGather = λ key input s next e. same_gather key input (seen_by s.extra.gather s) next e
    part_keeps OfSync = λ key input s next e. same_sync key input (seen_by s.extra.sync s) next e
    part_keeps OfExec = λ key input s next e. same_exec key input (seen_by s.extra.exec s) next e
    part_keeps OfDgram = λ key input s next e. same_dgram key input (seen_by s.extra.dgram s) next e

    pub reach_keeps : KeepsKeys (reach gather sync exec dgram)
    reach_keeps = λ key input s next e. part_keeps (part_of_key key) key input s next e

    module _ (falls_gather : WakesFall gather) (falls_sync : WakesFall sync) (falls_exec : WakesFall exec) (falls_dgram : WakesFall dgram) where
      -- whether it is woken at once is seen of a part as of the whole
      part_falls : (part : Part) → WakesFall (part_as gather sync exec dgram part)
      part_falls OfGather = λ key input s next e once. falls_gather key input (seen_by s.extra.gather s) next e once
      part_falls OfSync = λ key input s next e once. falls_sync key input (seen_by s.extra.sync s) next e once
      part_falls OfExec = λ key input s next e once. falls_exec key input (seen_by s.extra.exec s) next e once
      part_falls OfDgram = λ key input s next e once. falls_dgram key input (seen_by s.extra.dgram s) next e once

      pub reach_falls : WakesFall (reach gather sync exec dgram)
      reach_falls = λ key input s next e once.
          subst (λ part. (part_as gather sync exec dgram part).wakes_left next
          ((part_as gather sync exec dgram (part_of_key key)).wake key input s).call.state
          < (part_as gather sync exec dgram (part_of_key key)).wakes_left key s.extra)
          (ap part_of_key (sym (part_keeps (part_of_key key) key input s next e)))
          (part_falls (part_of_key key) key input s next e once)
