-- Where the outside does what it is asked, each request that answers, answers its own job.
use Rattle.std.proofs.Common.{◌≡◌, ℕ, ◌⊎◌, inl, inr, true, List, [], ◌∷◌, ◌++◌, Option, Some, None, refl, sym, ap, subst, ◌∙◌}
use Rattle.std.specs.Prelude.{is_some}
use Rattle.std.proofs.lemmas.Bool.{cases_eq, false≢true}
use Rattle.law_jobs.specs.Notes.{Accepts, Answers, AreBorneOut, AreHonest, AreOwnJobs, Came, Comes, Course, Going, IsBorneOut, IsHonest, IsOwnJob, Note, NotYet}
use Rattle.law_jobs.specs.Notes.{Raises, Wants, course_after, course_of, first_of, job_in, job_of}
use Rattle.law_jobs.proofs.Courses.{accepted_here, accepted_other, came_here, came_other, course_last, job_last}

-- a job that goes on is wanted, and one that came to something came to what was wanted
abbrev IsWanted : List Note → Course → Type 0
IsWanted notes NotYet = Unit {0}
IsWanted notes (Going request) = is_some (job_of request notes) ≡ true
IsWanted notes (Came request result) = job_of request notes ≡ Some result

abbrev AreWanted : List Note → Type 0
AreWanted notes = (number : ℕ) → IsWanted notes (course_of number notes)

module _ (notes : List Note) (note : Note) where
  abbrev then_ : List Note
  then_ = notes ++ note ∷ []

  some_stays : (request : ℕ) (result : List ℕ) → job_of request notes ≡ Some result → job_of request then_ ≡ Some result
  some_stays request result e = job_last request notes note ∙ ap (λ o. first_of o (job_in request note)) e

  is_some_stays : (request : ℕ) → is_some (job_of request notes) ≡ true → is_some (job_of request then_) ≡ true
  is_some_stays request e = ap is_some (job_last request notes note) ∙ go (job_of request notes) e
    where
      go : (o : Option (List ℕ)) → is_some o ≡ true → is_some (first_of o (job_in request note)) ≡ true
      go None e = absurd (false≢true e)
      go (Some it) e = refl

  stays_wanted : (course : Course) → IsWanted notes course → IsWanted then_ course
  stays_wanted NotYet h = tt
  stays_wanted (Going request) h = is_some_stays request h
  stays_wanted (Came request result) h = some_stays request result h

  -- what the note makes of a course
  made_wanted : (number : ℕ) (made : Course) → course_after number note (course_of number notes) ≡ made → IsWanted then_ made
      → IsWanted then_ (course_of number then_)
  made_wanted number made e h = subst (IsWanted then_) (sym (course_last number notes note NotYet ∙ e)) h

one_more : (notes : List Note) (note : Note) → AreWanted notes → IsBorneOut notes note → IsHonest notes note → AreWanted (notes ++ note ∷ [])
one_more notes (Wants request kind input) all borne honest number =
    made_wanted notes (Wants request kind input) number (course_of number notes) refl
    (stays_wanted notes (Wants request kind input) (course_of number notes) (all number))
one_more notes (Answers request value) all borne honest number =
    made_wanted notes (Answers request value) number (course_of number notes) refl
    (stays_wanted notes (Answers request value) (course_of number notes) (all number))
one_more notes (Raises request fault) all borne honest number =
    made_wanted notes (Raises request fault) number (course_of number notes) refl
    (stays_wanted notes (Raises request fault) (course_of number notes) (all number))
one_more notes (Accepts other request) all borne honest number = go (cases_eq other number) (course_of number notes) refl (all number)
  where
    note : Note
    note = Accepts other request

    go : (other ≡ number) ⊎ (other ≡ number → ⊥) → (course : Course) → course_of number notes ≡ course → IsWanted notes course
        → IsWanted (notes ++ note ∷ []) (course_of number (notes ++ note ∷ []))
    go (inl same) NotYet e h =
        made_wanted notes note number (Going request)
        (ap (course_after number note) e ∙ subst (λ n. course_after number (Accepts n request) NotYet ≡ Going request) (sym same) (accepted_here number request))
        (is_some_stays notes note request borne.2)
    go (inl same) (Going it) e h =
        made_wanted notes note number (Going it) (ap (course_after number note) e) (stays_wanted notes note (Going it) h)
    go (inl same) (Came it result) e h =
        made_wanted notes note number (Came it result) (ap (course_after number note) e) (stays_wanted notes note (Came it result) h)
    go (inr apart) course e h =
        made_wanted notes note number course (ap (course_after number note) e ∙ accepted_other number other request course apart)
        (stays_wanted notes note course h)
one_more notes (Comes other result) all borne honest number = go (cases_eq other number) (course_of number notes) refl (all number)
  where
    note : Note
    note = Comes other result

    go : (other ≡ number) ⊎ (other ≡ number → ⊥) → (course : Course) → course_of number notes ≡ course → IsWanted notes course
        → IsWanted (notes ++ note ∷ []) (course_of number (notes ++ note ∷ []))
    go (inl same) NotYet e h = made_wanted notes note number NotYet (ap (course_after number note) e) tt
    go (inl same) (Going request) e h =
        made_wanted notes note number (Came request result)
        (ap (course_after number note) e
        ∙ subst (λ n. course_after number (Comes n result) (Going request) ≡ Came request result) (sym same) (came_here number request result))
        (some_stays notes note request result (honest request (ap (λ n. course_of n notes) same ∙ e)))
    go (inl same) (Came request held) e h =
        made_wanted notes note number (Came request held) (ap (course_after number note) e) (stays_wanted notes note (Came request held) h)
    go (inr apart) course e h =
        made_wanted notes note number course (ap (course_after number note) e ∙ came_other number other result course apart)
        (stays_wanted notes note course h)

own_one : (before : List Note) (note : Note) → AreWanted before → IsBorneOut before note → IsOwnJob before note
own_one before (Wants request kind input) all borne = tt
own_one before (Accepts number request) all borne = tt
own_one before (Comes number result) all borne = tt
own_one before (Answers request value) all borne =
    (borne.1.0, (subst (IsWanted before) borne.1.1.0 (all borne.0), borne.1.1.1))
own_one before (Raises request fault) all borne = tt

own_all : (before notes : List Note) → AreWanted before → AreBorneOut before notes → AreHonest before notes → AreOwnJobs before notes
own_all before [] all borne honest = tt
own_all before (note ∷ notes) all borne honest = (
  own_one before note all borne.0,
  own_all (before ++ note ∷ []) notes (one_more before note all borne.0 honest.0) borne.1 honest.1,
)

pub own_jobs : (all : List Note) → AreBorneOut [] all → AreHonest [] all → AreOwnJobs [] all
own_jobs all borne honest = own_all [] all (λ number. tt) borne honest
