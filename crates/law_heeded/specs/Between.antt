-- Four parts of what is added, and what becomes of one's futures between its own calls.
use Rattle.std.specs.Prelude.{◌≡◌, ℕ, Bool, true, false, List, Option, Some, None}
use Rattle.model_loop.specs.Parts.{Parts}
use Rattle.model_machine.specs.Extra.{Extra, ExtraCall, made_by_all}
use Rattle.model_machine.specs.Replies.{input_by}
use Rattle.model_machine.specs.State.{State}
use Rattle.model_reach.specs.Reach.{OfDgram, OfExec, OfGather, OfSync, Part, Parted, part_of_code, part_of_key}
use Rattle.law_apart.specs.Apart.{Leaves}
use Rattle.law_calls.specs.Told.{Acts, Asks, Happening, HasHappened, HasNews, Hears, IsHistory, Told, Wakes, first_told}
use Rattle.law_changes.specs.Reaches.{goes, stays}
use Rattle.law_runs.specs.Allowed.{IsAmong}
use Rattle.law_heeded.specs.Owned.{is_among}

-- ---- what happens of what is added
-- the state of the machine in which it is called
abbrev pub state_in : {S : Type 0} → Happening S → State S
state_in (Asks task code arguments s) = s
state_in (Wakes task key input s) = s
state_in (Hears question answer s) = s
state_in (Acts key s) = s
state_in (HasNews code bytes s) = s

-- what is kept then, and the steps
abbrev pub call_in : {S : Type 0} → Extra S → Happening S → ExtraCall S
call_in added (Asks task code arguments s) = (added.ask task code arguments s).call
call_in added (Wakes task key input s) = (added.wake key input s).call
call_in added (Hears question answer s) = (added.wake question.key (input_by answer) s).call
call_in added (Acts key s) = added.act key s
call_in added (HasNews code bytes s) = added.item code bytes s

-- the loop's parts as the call leaves them
abbrev pub parts_after : {S : Type 0} → Extra S → Happening S → Parts
parts_after added it = (made_by_all (call_in added it).steps (state_in it).loop).parts

-- the part that serves it
abbrev pub part_in : {S : Type 0} → Happening S → Option Part
part_in (Asks task code arguments s) = part_of_code code
part_in (Wakes task key input s) = Some (part_of_key key)
part_in (Hears question answer s) = Some (part_of_key question.key)
part_in (Acts key s) = Some (part_of_key key)
part_in (HasNews code bytes s) = part_of_code code

-- all calls of a run meet this
abbrev pub Along : {S : Type 0} → (Fact : Happening S → Type 0) → {limit : ℕ} {added : Extra S} {first last : Told S}
    → IsHistory limit added first last → Type 0
Along Fact stays = Unit {0}
Along Fact (goes history it may) = Along Fact history × Fact it

-- ---- one of four parts
abbrev pub is_part : Part → Part → Bool
is_part OfGather OfGather = true
is_part OfSync OfSync = true
is_part OfExec OfExec = true
is_part OfDgram OfDgram = true
is_part _ _ = false

abbrev pub is_of_part : Part → Option Part → Bool
is_of_part part None = false
is_of_part part (Some other) = is_part part other

abbrev pub WhereElse : Bool → Type 0 → Type 0 → Type 0
WhereElse true then_ else_ = then_
WhereElse false then_ else_ = else_

module _ {A B C D : Type 0} (gather : Extra A) (sync : Extra B) (exec : Extra C) (dgram : Extra D) where
  -- the futures of a part
  abbrev pub own_of : Part → Parted A B C D → List ℕ
  own_of OfGather kept = (gather.keeps kept.gather).own
  own_of OfSync kept = (sync.keeps kept.sync).own
  own_of OfExec kept = (exec.keeps kept.exec).own
  own_of OfDgram kept = (dgram.keeps kept.dgram).own

  -- no future is of two
  abbrev pub AreDisjoint : Parted A B C D → Type 0
  AreDisjoint kept =
      (one other : Part) → (one ≡ other → ⊥) → (id : ℕ) → IsAmong (own_of one kept) id → IsAmong (own_of other kept) id → ⊥

  -- From these parts on, through all calls, up to those: between one call of this part and the next each future of the part stays as
  -- it is, or was pending and is cancelled.
  abbrev pub AreLeft : (part : Part) → {limit : ℕ} {added : Extra (Parted A B C D)} {first last : Told (Parted A B C D)} → Parts
      → IsHistory limit added first last → Parts → Type 0
  AreLeft part {first = first} p stays q = Leaves (is_among (own_of part first.extra)) p q
  AreLeft part {added = added} p (goes history it may) q =
      WhereElse (is_of_part part (part_in it))
      (AreLeft part p history (state_in it).loop.parts × Leaves (is_among (own_of part (call_in added it).state)) (parts_after added it) q)
      (AreLeft part p history q)

  -- What is kept came by calls alone, which the events tell, and it was so through all of them.
  pub record IsLeftAlone (limit : ℕ) (added : Extra (Parted A B C D)) (first : Parted A B C D) (part : Part) (p : Parts)
      (s : State (Parted A B C D)) : Type 0 where
    pub happened : HasHappened limit added (first_told first) s.extra s.events
    pub left : AreLeft part p happened.history s.loop.parts
