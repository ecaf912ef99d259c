-- What is noted of jobs, in order, and what users of them rely on.
use Rattle.std.specs.Prelude.{◌≡◌, ℕ, suc, ◌==◌, ℤ, Bool, true, false, ◌||◌, List, [], ◌∷◌, ◌++◌, Option, Some, None, is_some, if◌then◌else◌}
use Rattle.model_value.specs.Value.{Bytes, Exc, Value}
use Rattle.model_exec.specs.Jobs.{job}
use Rattle.model_exec.specs.Execed.{Execed}
use Rattle.model_exec.specs.Serving.{goes_on}

pub data Note : Type 0 where
  -- a request asks the outside for a job of this kind, of these bytes
  Wants : (request : ℕ) (kind : ℤ) (input : List ℕ) → Note
  -- its job is accepted, under this number
  Accepts : (number request : ℕ) → Note
  -- news of the job with this number
  Comes : (number : ℕ) (result : List ℕ) → Note
  -- a request is over
  Answers : (request : ℕ) (value : Value) → Note
  Raises : (request : ℕ) (exception : Exc) → Note

-- ---- the course of a job
-- The first news of a job after it was accepted are what it came to. Others of its number say nothing of it.
pub data Course : Type 0 where
  NotYet : Course
  Going : (request : ℕ) → Course
  Came : (request : ℕ) (result : List ℕ) → Course

abbrev pub course_after : (number : ℕ) → Note → Course → Course
course_after number (Accepts other request) NotYet = if other == number then Going request else NotYet
course_after number (Comes other result) (Going request) = if other == number then Came request result else Going request
course_after number _ course = course

abbrev pub course_from : (number : ℕ) → List Note → Course → Course
course_from number [] course = course
course_from number (note ∷ notes) course = course_from number notes (course_after number note course)

abbrev pub course_of : (number : ℕ) → List Note → Course
course_of number notes = course_from number notes NotYet

-- ---- requests
-- how many jobs were accepted
abbrev pub accepted_in : List Note → ℕ
accepted_in [] = 0
accepted_in (Accepts number request ∷ notes) = suc (accepted_in notes)
accepted_in (_ ∷ notes) = accepted_in notes

abbrev pub is_job_of : (request : ℕ) → Note → Bool
is_job_of request (Accepts number other) = other == request
is_job_of request _ = false

-- whether a request's job was accepted
abbrev pub has_job : (request : ℕ) → List Note → Bool
has_job request [] = false
has_job request (note ∷ notes) = is_job_of request note || has_job request notes

-- what the job comes to that a request wants
abbrev pub job_in : (request : ℕ) → Note → Option (List ℕ)
job_in request (Wants other kind input) = if other == request then Some (job kind input) else None
job_in request _ = None

abbrev pub first_of : {A : Type 0} → Option A → Option A → Option A
first_of (Some it) other = Some it
first_of None other = other

abbrev pub job_of : (request : ℕ) → List Note → Option (List ℕ)
job_of request [] = None
job_of request (note ∷ notes) = first_of (job_in request note) (job_of request notes)

-- ---- what users rely on
-- Jobs are numbered from 0 in order of being accepted, so that no number is given twice; a request that wants a job has one at most.
-- What answers, answers what the first news of its job said, which came after the job was accepted.
abbrev pub IsBorneOut : (before : List Note) → Note → Type 0
IsBorneOut before (Accepts number request) =
    (number ≡ accepted_in before) × (has_job request before ≡ false) × (is_some (job_of request before) ≡ true)
IsBorneOut before (Answers request value) =
    (number : ℕ) × ((result : List ℕ) × ((course_of number before ≡ Came request result) × (value ≡ Bytes result)))
IsBorneOut before _ = Unit {0}

-- each by those before it
abbrev pub AreBorneOut : (before : List Note) → List Note → Type 0
AreBorneOut before [] = Unit {0}
AreBorneOut before (note ∷ notes) = IsBorneOut before note × AreBorneOut (before ++ note ∷ []) notes

-- News are waited for exactly where a job was accepted and came to nothing so far.
pub record JobsKeep (notes : List Note) (kept : Execed) : Type 0 where
  pub borne_out : AreBorneOut [] notes
  pub waits : goes_on kept.going ≡ true → (number : ℕ) × ((request : ℕ) × (course_of number notes ≡ Going request))
  pub watched : (number request : ℕ) → course_of number notes ≡ Going request → goes_on kept.going ≡ true

-- ---- where the outside does what it is asked
-- news of a job that goes on say what the job comes to that was wanted
abbrev pub IsHonest : (before : List Note) → Note → Type 0
IsHonest before (Comes number result) = (request : ℕ) → course_of number before ≡ Going request → job_of request before ≡ Some result
IsHonest before _ = Unit {0}

abbrev pub AreHonest : (before : List Note) → List Note → Type 0
AreHonest before [] = Unit {0}
AreHonest before (note ∷ notes) = IsHonest before note × AreHonest (before ++ note ∷ []) notes

-- what answers, answers its own job
abbrev pub IsOwnJob : (before : List Note) → Note → Type 0
IsOwnJob before (Answers request value) = (result : List ℕ) × ((job_of request before ≡ Some result) × (value ≡ Bytes result))
IsOwnJob before _ = Unit {0}

abbrev pub AreOwnJobs : (before : List Note) → List Note → Type 0
AreOwnJobs before [] = Unit {0}
AreOwnJobs before (note ∷ notes) = IsOwnJob before note × AreOwnJobs (before ++ note ∷ []) notes
