-- What routes requests to four parts goes by no answer that is still to come, where none of the parts does.
use Rattle.std.proofs.Common.{◌≡◌, ℕ, ℤ, List, Option, Some, None, refl, ap}
use Rattle.model_value.specs.Value.{Value}
use Rattle.model_wire.specs.Journal.{Entry}
use Rattle.model_machine.specs.Extra.{Extra, ExtraCall, ExtraSaid, unknown_code}
use Rattle.model_machine.specs.State.{State}
use Rattle.model_reach.specs.Part.{refuses, stays}
use Rattle.model_reach.specs.Reach.{Part, OfGather, OfSync, OfExec, OfDgram, Parted, called_by, part_as, part_of_code, part_of_key, reach, said_by, seen_by, within}
use Rattle.law_replay.specs.Foreseeing.{ForeseesNothing}

-- a part sees as much of the answers as the whole does
within_foresees : {S P : Type 0} (part : S → P) (put : P → S → S) (added : Extra P) → ForeseesNothing added
    → ForeseesNothing (within part put added)
within_foresees part put added foresees = record {
  ask = λ task code arguments s left.
      ap (said_by (λ it. put it s.extra)) (foresees.ask task code arguments (seen_by (part s.extra) s) left);
  wake = λ key input s left. ap (said_by (λ it. put it s.extra)) (foresees.wake key input (seen_by (part s.extra) s) left);
  act = λ key s left. ap (called_by (λ it. put it s.extra)) (foresees.act key (seen_by (part s.extra) s) left);
  item = λ code bytes s left. ap (called_by (λ it. put it s.extra)) (foresees.item code bytes (seen_by (part s.extra) s) left);
}

module _ {A B C D : Type 0} (gather : Extra A) (sync : Extra B) (exec : Extra C) (dgram : Extra D)
    (of_gather : ForeseesNothing gather) (of_sync : ForeseesNothing sync) (of_exec : ForeseesNothing exec)
    (of_dgram : ForeseesNothing dgram) where
  part_foresees : (part : Part) → ForeseesNothing (part_as gather sync exec dgram part)
  part_foresees OfGather = within_foresees (λ kept. kept.gather) (λ it kept. record kept { gather = it }) gather of_gather
  part_foresees OfSync = within_foresees (λ kept. kept.sync) (λ it kept. record kept { sync = it }) sync of_sync
  part_foresees OfExec = within_foresees (λ kept. kept.exec) (λ it kept. record kept { exec = it }) exec of_exec
  part_foresees OfDgram = within_foresees (λ kept. kept.dgram) (λ it kept. record kept { dgram = it }) dgram of_dgram

  abbrev asked_by : Option Part → (task : ℕ) (code : ℤ) → List Value → State (Parted A B C D) → ExtraSaid (Parted A B C D)
  asked_by o task code arguments s =
      elim o [
        | None ↦ refuses (unknown_code code) s.extra
        | Some part ↦ (part_as gather sync exec dgram part).ask task code arguments s
      ]

  asked : (task : ℕ) (code : ℤ) (arguments : List Value) (s : State (Parted A B C D)) (left : List Entry) (o : Option Part)
      → asked_by o task code arguments (record s { answers = left }) ≡ asked_by o task code arguments s
  asked task code arguments s left None = refl
  asked task code arguments s left (Some part) = (part_foresees part).ask task code arguments s left

  abbrev told_by : Option Part → (code : ℤ) (bytes : List ℕ) → State (Parted A B C D) → ExtraCall (Parted A B C D)
  told_by o code bytes s =
      elim o [ None ↦ stays s.extra | Some part ↦ (part_as gather sync exec dgram part).item code bytes s ]

  told : (code : ℤ) (bytes : List ℕ) (s : State (Parted A B C D)) (left : List Entry) (o : Option Part)
      → told_by o code bytes (record s { answers = left }) ≡ told_by o code bytes s
  told code bytes s left None = refl
  told code bytes s left (Some part) = (part_foresees part).item code bytes s left

  pub reach_foresees : ForeseesNothing (reach gather sync exec dgram)
  reach_foresees = record {
    ask = λ task code arguments s left. asked task code arguments s left (part_of_code code);
    wake = λ key input s left. (part_foresees (part_of_key key)).wake key input s left;
    act = λ key s left. (part_foresees (part_of_key key)).act key s left;
    item = λ code bytes s left. told code bytes s left (part_of_code code);
  }
