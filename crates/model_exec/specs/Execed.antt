-- What jobs beside the loop keep. Source: the library reference, "Coroutines and Tasks", `asyncio.to_thread`; `threads.py`;
-- `base_events.py`, `run_in_executor`.
use Rattle.std.specs.Prelude.{ℕ, ◌+◌, ◌==◌, Bool, List, [], ◌∷◌, ◌++◌, Option}
use Rattle.std.specs.List.{flat_map}
use Rattle.std.specs.Map.{lookup, remove_entry, set_value}
use Rattle.model_machine.specs.Extra.{ExtraAnswer, ExtraSaid, ExtraStep, Keeping}
use Rattle.model_reach.specs.Part.{key_at, was_drawn}

-- a request that stands
pub data Standing : Type 0 where
  -- the outside is asked to do its job
  Asking : Standing
  -- it waits on this future of its own for what its job comes to, or that came
  Waiting : (on : ℕ) (came : Option (List ℕ)) → Standing

-- the part's number, of which its keys are
abbrev pub exec_part : ℕ
exec_part = 2

-- How many keys were drawn; each request that stands, in order of asking, with the place of its key; how many jobs were accepted,
-- which gives them their numbers from 0 on; and each that hasn't come to anything yet, by its number, with the place of its request's
-- key.
pub record Execed : Type 0 where
  pub drawn : ℕ
  pub standing : List (ℕ × Standing)
  pub accepted : ℕ
  pub going : List (ℕ × ℕ)

abbrev pub none_execed : Execed
none_execed = record { drawn = 0; standing = []; accepted = 0; going = [] }

-- ---- requests
abbrev pub is_number : (number other : ℕ) → Bool
is_number number other = other == number

-- the request that stands under the key at this place
abbrev pub standing_at : (place : ℕ) → Execed → Option Standing
standing_at place kept = lookup (is_number place) kept.standing

-- the key of the request that is asked
abbrev pub next_key : Execed → ℕ
next_key kept = key_at exec_part kept.drawn

-- it is drawn, for a request that is answered at once
abbrev pub draw : Execed → Execed
draw kept = record kept { drawn = kept.drawn + 1 }

-- or for one that asks the outside
abbrev pub ask_last : Execed → Execed
ask_last kept = record kept { drawn = kept.drawn + 1; standing = kept.standing ++ (kept.drawn, Asking) ∷ [] }

-- a request stands on, as this
abbrev pub stand_on : (place : ℕ) → Standing → Execed → Execed
stand_on place it kept = record kept { standing = set_value (is_number place) kept.standing it }

-- or no more
abbrev pub stand_no_more : (place : ℕ) → Execed → Execed
stand_no_more place kept = record kept { standing = remove_entry (is_number place) kept.standing }

-- ---- jobs
-- whose job has this number, if that goes on
abbrev pub place_of_job : (number : ℕ) → Execed → Option ℕ
place_of_job number kept = lookup (is_number number) kept.going

-- the next job is that of the request at this place
abbrev pub accept : (place : ℕ) → Execed → Execed
accept place kept = record kept { accepted = kept.accepted + 1; going = kept.going ++ (kept.accepted, place) ∷ [] }

-- it came to something
abbrev pub job_over : (number : ℕ) → Execed → Execed
job_over number kept = record kept { going = remove_entry (is_number number) kept.going }

-- ---- what a request comes to
-- what is kept then, the steps, and the answer
abbrev pub says : Execed → List ExtraStep → ExtraAnswer → ExtraSaid Execed
says kept steps answer = record { call = record { state = kept; steps = steps }; answer = answer }

-- ---- what is kept
abbrev pub on_of : Standing → List ℕ
on_of Asking = []
on_of (Waiting on came) = on ∷ []

abbrev pub exec_keeps : Execed → Keeping
exec_keeps kept =
    record {
      tasks = [];
      futures = [];
      own = flat_map (λ entry. on_of entry.1) kept.standing;
      tags = [];
      values = [];
      has_key = was_drawn exec_part kept.drawn;
    }
