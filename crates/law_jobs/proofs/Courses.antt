-- What notes tell of jobs and requests, as more are noted.
use Rattle.std.proofs.Common.{◌≡◌, ℕ, ◌+◌, Bool, true, false, List, [], ◌∷◌, ◌++◌, Option, Some, None, refl, ap, subst, arith}
use Rattle.std.specs.Prelude.{◌||◌, if◌then◌else◌}
use Rattle.std.proofs.lemmas.Bool.{eq-eqb, ne_eqb}
use Rattle.law_jobs.specs.Notes.{Accepts, Answers, AreBorneOut, Came, Comes, Course, Going, IsBorneOut, Note, NotYet, Raises, Wants, accepted_in, course_after}
use Rattle.law_jobs.specs.Notes.{course_from, first_of, has_job, is_job_of, job_in, job_of}

-- ---- one more
pub course_last : (number : ℕ) (notes : List Note) (note : Note) (course : Course)
    → course_from number (notes ++ note ∷ []) course ≡ course_after number note (course_from number notes course)
course_last number [] note course = refl
course_last number (other ∷ notes) note course = course_last number notes note (course_after number other course)

or_false : (b : Bool) → (b || false) ≡ b
or_false true = refl
or_false false = refl

pub has_last : (request : ℕ) (notes : List Note) (note : Note) → has_job request (notes ++ note ∷ []) ≡ (has_job request notes || is_job_of request note)
has_last request [] note = or_false (is_job_of request note)
has_last request (other ∷ notes) note = go (has_last request notes note) (is_job_of request other)
  where
    go : has_job request (notes ++ note ∷ []) ≡ (has_job request notes || is_job_of request note) → (b : Bool) → (b || has_job request (notes ++ note ∷ [])) ≡ ((b || has_job request notes) || is_job_of request note)
    go rest true = refl
    go rest false = rest

pub job_last : (request : ℕ) (notes : List Note) (note : Note) → job_of request (notes ++ note ∷ []) ≡ first_of (job_of request notes) (job_in request note)
job_last request [] note = go (job_in request note)
  where
    go : (o : Option (List ℕ)) → first_of o None ≡ o
    go None = refl
    go (Some it) = refl
job_last request (other ∷ notes) note = go (job_last request notes note) (job_in request other)
  where
    go : job_of request (notes ++ note ∷ []) ≡ first_of (job_of request notes) (job_in request note) → (o : Option (List ℕ))
        → first_of o (job_of request (notes ++ note ∷ [])) ≡ first_of (first_of o (job_of request notes)) (job_in request note)
    go rest None = rest
    go rest (Some it) = refl

abbrev pub accepted_by : Note → ℕ
accepted_by (Accepts number request) = 1
accepted_by _ = 0

pub accepted_last : (notes : List Note) (note : Note) → accepted_in (notes ++ note ∷ []) ≡ accepted_in notes + accepted_by note
accepted_last [] (Wants request kind input) = refl
accepted_last [] (Accepts number request) = refl
accepted_last [] (Comes number result) = refl
accepted_last [] (Answers request value) = refl
accepted_last [] (Raises request exception) = refl
accepted_last (Wants request kind input ∷ notes) note = accepted_last notes note
accepted_last (Accepts number request ∷ notes) note = let rest = accepted_last notes note in omega (arith, rest)
accepted_last (Comes number result ∷ notes) note = accepted_last notes note
accepted_last (Answers request value ∷ notes) note = accepted_last notes note
accepted_last (Raises request exception ∷ notes) note = accepted_last notes note

append_one : {A : Type 0} (before : List A) (x : A) (rest : List A) → before ++ x ∷ rest ≡ (before ++ x ∷ []) ++ rest
append_one [] x rest = refl
append_one (y ∷ before) x rest = ap (λ xs. y ∷ xs) (append_one before x rest)

pub borne_last : (before notes : List Note) (note : Note) → AreBorneOut before notes → IsBorneOut (before ++ notes) note
    → AreBorneOut before (notes ++ note ∷ [])
borne_last before [] note all last = (subst (λ xs. IsBorneOut xs note) (no_more before) last, tt)
  where
    no_more : (xs : List Note) → xs ++ [] ≡ xs
    no_more [] = refl
    no_more (x ∷ xs) = ap (λ ys. x ∷ ys) (no_more xs)
borne_last before (other ∷ notes) note all last =
    (all.0, borne_last (before ++ other ∷ []) notes note all.1 (subst (λ xs. IsBorneOut xs note) (append_one before other notes) last))

-- ---- of one number
pub accepted_here : (number request : ℕ) → course_after number (Accepts number request) NotYet ≡ Going request
accepted_here number request = ap (λ (b : Bool). if b then Going request else NotYet) (eq-eqb number number refl)

pub accepted_other : (number other request : ℕ) (course : Course) → (other ≡ number → ⊥) → course_after number (Accepts other request) course ≡ course
accepted_other number other request NotYet apart = ap (λ (b : Bool). if b then Going request else NotYet) (ne_eqb other number apart)
accepted_other number other request (Going it) apart = refl
accepted_other number other request (Came it result) apart = refl

pub came_here : (number request : ℕ) (result : List ℕ) → course_after number (Comes number result) (Going request) ≡ Came request result
came_here number request result = ap (λ (b : Bool). if b then Came request result else Going request) (eq-eqb number number refl)

pub came_other : (number other : ℕ) (result : List ℕ) (course : Course) → (other ≡ number → ⊥) → course_after number (Comes other result) course ≡ course
came_other number other result NotYet apart = refl
came_other number other result (Going it) apart = ap (λ (b : Bool). if b then Came it result else Going it) (ne_eqb other number apart)
came_other number other result (Came it held) apart = refl
