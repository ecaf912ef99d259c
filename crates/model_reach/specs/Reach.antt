-- The added requests of a program, by their codes: 100 to 199 wait for several futures, 200 to 299 are locks, events and queues,
-- 300 to 399 jobs beside the loop, and 400 to 499 datagrams. Each hundred is served by a part of its own, and a part that is not
-- there knows no code.
use Rattle.std.specs.Prelude.{ℕ, ◌/◌, ◌%◌, ◌==◌, ℤ, pos, negsuc, ◌||◌, ◌++◌, Option, Some, None, if◌then◌else◌}
use Rattle.model_machine.specs.Extra.{Extra, ExtraCall, ExtraSaid, Keeping, unknown_code}
use Rattle.model_machine.specs.State.{State}
use Rattle.model_reach.specs.Part.{stays, refuses}

-- what the machine keeps of four parts
pub record Parted (A B C D : Type 0) : Type 0 where
  pub gather : A
  pub sync : B
  pub exec : C
  pub dgram : D

-- ---- a part of what serves added requests, as what serves them
-- the state, with what a part keeps in the place of all
abbrev pub seen_by : {S P : Type 0} → P → State S → State P
seen_by kept s =
    record {
      program = s.program;
      extra = kept;
      loop = s.loop;
      streams = s.streams;
      generators = s.generators;
      futures = s.futures;
      main_done = s.main_done;
      events = s.events;
      answers = s.answers;
    }

abbrev pub called_by : {S P : Type 0} → (P → S) → ExtraCall P → ExtraCall S
called_by put call = record { state = put call.state; steps = call.steps }

abbrev pub said_by : {S P : Type 0} → (P → S) → ExtraSaid P → ExtraSaid S
said_by put said = record { call = called_by put said.call; answer = said.answer }

-- `part` is what it keeps of all that is kept, and `put` puts it back
abbrev pub within : {S P : Type 0} → (part : S → P) → (put : P → S → S) → Extra P → Extra S
within part put added =
    record {
      ask = λ task code arguments s. said_by (λ it. put it s.extra) (added.ask task code arguments (seen_by (part s.extra) s));
      wake = λ key input s. said_by (λ it. put it s.extra) (added.wake key input (seen_by (part s.extra) s));
      wakes_left = λ key kept. added.wakes_left key (part kept);
      act = λ key s. called_by (λ it. put it s.extra) (added.act key (seen_by (part s.extra) s));
      item = λ code bytes s. called_by (λ it. put it s.extra) (added.item code bytes (seen_by (part s.extra) s));
      watches = λ kept. added.watches (part kept);
      keeps = λ kept. added.keeps (part kept);
    }

-- what two parts keep, but for the keys
abbrev pub kept_with : Keeping → Keeping → Keeping
kept_with one other =
    record {
      tasks = one.tasks ++ other.tasks;
      futures = one.futures ++ other.futures;
      own = one.own ++ other.own;
      tags = one.tags ++ other.tags;
      values = one.values ++ other.values;
      has_key = one.has_key;
    }

-- ---- which part it is
pub data Part : Type 0 where
  OfGather : Part
  OfSync : Part
  OfExec : Part
  OfDgram : Part

abbrev pub part_of_hundred : ℕ → Option Part
part_of_hundred hundred =
    if hundred == 1 then Some OfGather
    else (if hundred == 2 then Some OfSync
    else (if hundred == 3 then Some OfExec
    else (if hundred == 4 then Some OfDgram else None)))

-- the part that serves a code
abbrev pub part_of_code : ℤ → Option Part
part_of_code (pos code) = part_of_hundred (code / 100)
part_of_code (negsuc before) = None

-- the part that drew a key
abbrev pub part_of_key : ℕ → Part
part_of_key key =
    if key % 4 == 0 then OfGather
    else (if key % 4 == 1 then OfSync
    else (if key % 4 == 2 then OfExec else OfDgram))

-- ---- all of them
module _ {A B C D : Type 0} (gather : Extra A) (sync : Extra B) (exec : Extra C) (dgram : Extra D) where
  abbrev pub part_as : Part → Extra (Parted A B C D)
  part_as OfGather = within (λ kept. kept.gather) (λ it kept. record kept { gather = it }) gather
  part_as OfSync = within (λ kept. kept.sync) (λ it kept. record kept { sync = it }) sync
  part_as OfExec = within (λ kept. kept.exec) (λ it kept. record kept { exec = it }) exec
  part_as OfDgram = within (λ kept. kept.dgram) (λ it kept. record kept { dgram = it }) dgram

  abbrev pub reach : Extra (Parted A B C D)
  reach =
      record {
        ask = λ task code arguments s. elim (part_of_code code) [
          | None ↦ refuses (unknown_code code) s.extra
          | Some part ↦ (part_as part).ask task code arguments s
        ];
        wake = λ key input s. (part_as (part_of_key key)).wake key input s;
        wakes_left = λ key kept. (part_as (part_of_key key)).wakes_left key kept;
        act = λ key s. (part_as (part_of_key key)).act key s;
        item = λ code bytes s. elim (part_of_code code) [
          | None ↦ stays s.extra
          | Some part ↦ (part_as part).item code bytes s
        ];
        watches = λ kept. gather.watches kept.gather || sync.watches kept.sync || exec.watches kept.exec || dgram.watches kept.dgram;
        -- a key is known where the part knows it that draws such keys
        keeps = λ kept.
            let all = kept_with (gather.keeps kept.gather)
            (kept_with (sync.keeps kept.sync) (kept_with (exec.keeps kept.exec) (dgram.keeps kept.dgram))) in
            record all { has_key = λ key. ((part_as (part_of_key key)).keeps kept).has_key key };
      }
