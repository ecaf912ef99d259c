-- What is kept of jobs is what their notes tell, and stays so with each change.
use Rattle.std.proofs.Common.{◌≡◌, ℕ, ℤ, ◌+◌, ◌<◌, ◌≤◌, ◌⊎◌, inl, inr, Bool, true, false, List, [], ◌∷◌, ◌++◌, Option, Some, None, refl, sym, ap, subst, ◌∙◌, arith}
use Rattle.std.specs.Prelude.{◌==◌, ◌||◌, is_some, if◌then◌else◌}
use Rattle.std.specs.Map.{remove_entry}
use Rattle.std.proofs.lemmas.Bool.{cases_eq, eq-eqb, eqb-true, false_from_ne_true, false≢true}
use Rattle.model_exec.specs.Jobs.{job}
use Rattle.model_exec.specs.Execed.{Asking, Execed, Standing, Waiting, accept, ask_last, draw, is_number, job_over, stand_no_more, stand_on}
use Rattle.model_exec.specs.Serving.{given_to}
use Rattle.law_jobs.specs.Notes.{Accepts, AreBorneOut, Came, Comes, Course, Going, IsBorneOut, Note, NotYet, Wants, accepted_in, course_after, course_of}
use Rattle.law_jobs.specs.Notes.{first_of, has_job, is_job_of, job_in, job_of}
use Rattle.law_jobs.proofs.Courses.{accepted_by, accepted_here, accepted_last, accepted_other, borne_last, came_here, came_other, course_last, has_last}
use Rattle.law_jobs.proofs.Courses.{job_last}
use Rattle.law_jobs.proofs.Entries.{Distinct, at, last_distinct, last_here, last_other, removed_distinct, removed_found, removed_here, removed_other}
use Rattle.law_jobs.proofs.Entries.{set_distinct, set_here, set_other}

same_some : {A : Type 0} (x y : A) → Some x ≡ Some y → x ≡ y
same_some x y e = cc

-- the request whose job goes on
abbrev pub going_in : Course → Option ℕ
going_in NotYet = None
going_in (Going request) = Some request
going_in (Came request result) = None

-- a request that asks has no job yet, and wants one; one that waits has a job that goes on, or that came to this
abbrev pub StandsBy : List Note → (place : ℕ) → Standing → Type 0
StandsBy notes place Asking = (has_job place notes ≡ false) × (is_some (job_of place notes) ≡ true)
StandsBy notes place (Waiting on None) = (number : ℕ) × (course_of number notes ≡ Going place)
StandsBy notes place (Waiting on (Some result)) = (number : ℕ) × (course_of number notes ≡ Came place result)

pub record Keeps (notes : List Note) (kept : Execed) : Type 0 where
  pub borne_out : AreBorneOut [] notes
  pub accepted : accepted_in notes ≡ kept.accepted
  pub courses : (number : ℕ) → at number kept.going ≡ going_in (course_of number notes)
  pub going : Distinct kept.going
  pub fresh : (number : ℕ) → kept.accepted ≤ number → course_of number notes ≡ NotYet
  pub below : (request : ℕ) → has_job request notes ≡ true → request < kept.drawn
  pub places : Distinct kept.standing
  pub drawn : (place : ℕ) (it : Standing) → at place kept.standing ≡ Some it → place < kept.drawn
  pub standing : (place : ℕ) (it : Standing) → at place kept.standing ≡ Some it → StandsBy notes place it

-- ---- of notes
abbrev with : List Note → Note → List Note
with notes note = notes ++ note ∷ []

wanted_more : (request : ℕ) (notes : List Note) (note : Note) → is_some (job_of request notes) ≡ true → is_some (job_of request (with notes note)) ≡ true
wanted_more request notes note e = ap is_some (job_last request notes note) ∙ go (job_of request notes) e
  where
    go : (o : Option (List ℕ)) → is_some o ≡ true → is_some (first_of o (job_in request note)) ≡ true
    go None e = absurd (false≢true e)
    go (Some it) e = refl

no_job_more : (request : ℕ) (notes : List Note) (note : Note) → is_job_of request note ≡ false → has_job request (with notes note) ≡ has_job request notes
no_job_more request notes note none = has_last request notes note ∙ ap (λ b. has_job request notes || b) none ∙ or_false (has_job request notes)
  where
    or_false : (b : Bool) → (b || false) ≡ b
    or_false true = refl
    or_false false = refl

-- one that says nothing new of a job or a request
pub record IsQuiet (notes : List Note) (note : Note) : Type 0 where
  pub course : (number : ℕ) → course_after number note (course_of number notes) ≡ course_of number notes
  pub job : (request : ℕ) → is_job_of request note ≡ false
  pub accepted : accepted_by note ≡ 0
  pub borne_out : IsBorneOut notes note

module _ (notes : List Note) (note : Note) (kept : Execed) (k : Keeps notes kept) (q : IsQuiet notes note) where
  course_same : (number : ℕ) → course_of number (with notes note) ≡ course_of number notes
  course_same number = course_last number notes note NotYet ∙ q.course number

  stands_quiet : (place : ℕ) (it : Standing) → StandsBy notes place it → StandsBy (with notes note) place it
  stands_quiet place Asking h = (no_job_more place notes note (q.job place) ∙ h.0, wanted_more place notes note h.1)
  stands_quiet place (Waiting on None) h = (h.0, course_same h.0 ∙ h.1)
  stands_quiet place (Waiting on (Some result)) h = (h.0, course_same h.0 ∙ h.1)

  pub noted_quietly : Keeps (with notes note) kept
  noted_quietly = record {
    borne_out = borne_last [] notes note k.borne_out q.borne_out;
    accepted = let e = accepted_last notes note in let a = q.accepted in let b = k.accepted in omega (arith, e, a, b);
    courses = λ number. k.courses number ∙ ap going_in (sym (course_same number));
    going = k.going;
    fresh = λ number past. course_same number ∙ k.fresh number past;
    below = λ request has. k.below request (sym (no_job_more request notes note (q.job request)) ∙ has);
    places = k.places;
    drawn = k.drawn;
    standing = λ place it e. stands_quiet place it (k.standing place it e);
  }

-- ---- requests
module _ (notes : List Note) (kept : Execed) (k : Keeps notes kept) where
  pub drew : Keeps notes (draw kept)
  drew = record {
    borne_out = k.borne_out;
    accepted = k.accepted;
    courses = k.courses;
    going = k.going;
    fresh = k.fresh;
    below = λ request has. let b = k.below request has in omega (arith, b);
    places = k.places;
    drawn = λ place it e. let b = k.drawn place it e in omega (arith, b);
    standing = k.standing;
  }

  pub stood_no_more : (place : ℕ) → Keeps notes (stand_no_more place kept)
  stood_no_more place = record {
    borne_out = k.borne_out;
    accepted = k.accepted;
    courses = k.courses;
    going = k.going;
    fresh = k.fresh;
    below = k.below;
    places = removed_distinct place kept.standing k.places;
    drawn = λ other it e. k.drawn other it (removed_found other place kept.standing it k.places e);
    standing = λ other it e. k.standing other it (removed_found other place kept.standing it k.places e);
  }

  -- the next place is nobody's
  nobody : at kept.drawn kept.standing ≡ None
  nobody = go (at kept.drawn kept.standing) refl
    where
      go : (o : Option Standing) → at kept.drawn kept.standing ≡ o → o ≡ None
      go None e = refl
      go (Some it) e = let b = k.drawn kept.drawn it e in absurd (omega (arith, b))

  no_job_yet : has_job kept.drawn notes ≡ false
  no_job_yet = false_from_ne_true (has_job kept.drawn notes) (λ has. let b = k.below kept.drawn has in omega (arith, b))

-- a request asks, and what it wants is noted
pub asked_last : (notes : List Note) (kept : Execed) (kind : ℤ) (input : List ℕ) → Keeps notes kept
    → Keeps (with notes (Wants kept.drawn kind input)) (ask_last kept)
asked_last notes kept kind input k = record {
  borne_out = q.borne_out;
  accepted = q.accepted;
  courses = q.courses;
  going = q.going;
  fresh = q.fresh;
  below = λ request has. let b = q.below request has in omega (arith, b);
  places = last_distinct kept.drawn kept.standing Asking none k.places;
  drawn = λ place it e. drawn_so place it e (cases_eq kept.drawn place);
  standing = λ place it e. stands_so place it e (cases_eq kept.drawn place);
}
  where
    note : Note
    note = Wants kept.drawn kind input

    q : Keeps (with notes note) kept
    q = noted_quietly notes note kept k (record { course = λ number. refl; job = λ request. refl; accepted = refl; borne_out = tt })

    none : at kept.drawn kept.standing ≡ None
    none = nobody notes kept k

    wants_one : (o : Option (List ℕ)) (b : Bool) → b ≡ true → is_some (first_of o (if b then Some (job kind input) else None)) ≡ true
    wants_one (Some it) b e = refl
    wants_one None true e = refl
    wants_one None false e = absurd (false≢true e)

    drawn_so : (place : ℕ) (it : Standing) → at place (kept.standing ++ (kept.drawn, Asking) ∷ []) ≡ Some it
        → (kept.drawn ≡ place) ⊎ (kept.drawn ≡ place → ⊥) → place < kept.drawn + 1
    drawn_so place it e (inl same) = omega (arith, same)
    drawn_so place it e (inr other) =
        let b = k.drawn place it (sym (last_other place kept.drawn kept.standing Asking other) ∙ e) in omega (arith, b)

    stands_so : (place : ℕ) (it : Standing) → at place (kept.standing ++ (kept.drawn, Asking) ∷ []) ≡ Some it
        → (kept.drawn ≡ place) ⊎ (kept.drawn ≡ place → ⊥) → StandsBy (with notes note) place it
    stands_so place it e (inl same) =
        subst (StandsBy (with notes note) place)
        (same_some Asking it (sym (last_here kept.drawn kept.standing Asking none)
        ∙ ap (λ n. at n (kept.standing ++ (kept.drawn, Asking) ∷ [])) same ∙ e))
        (subst (λ n. StandsBy (with notes note) n Asking) same (
          no_job_more kept.drawn notes note refl ∙ no_job_yet notes kept k,
          ap is_some (job_last kept.drawn notes note) ∙ wants_one (job_of kept.drawn notes) (kept.drawn == kept.drawn) (eq-eqb kept.drawn kept.drawn refl),
        ))
    stands_so place it e (inr other) = q.standing place it (sym (last_other place kept.drawn kept.standing Asking other) ∙ e)

-- ---- a job is accepted
module _ (notes : List Note) (kept : Execed) (k : Keeps notes kept) (place on : ℕ) (asks : at place kept.standing ≡ Some Asking) where
  abbrev accepts : Note
  accepts = Accepts kept.accepted place

  abbrev now : Execed
  now = accept place (stand_on place (Waiting on None) kept)

  new_course : course_of kept.accepted (with notes accepts) ≡ Going place
  new_course =
      course_last kept.accepted notes accepts NotYet ∙ ap (course_after kept.accepted accepts) (k.fresh kept.accepted (omega arith))
      ∙ accepted_here kept.accepted place

  old_course : (number : ℕ) → (kept.accepted ≡ number → ⊥) → course_of number (with notes accepts) ≡ course_of number notes
  old_course number other = course_last number notes accepts NotYet ∙ accepted_other number kept.accepted place (course_of number notes) other

  -- a job that goes on, or came to something, is another
  stays_course : (number : ℕ) (course : Course) → course_of number notes ≡ course → (course ≡ NotYet → ⊥) → course_of number (with notes accepts) ≡ course
  stays_course number course e apart =
      old_course number (λ same. apart (sym e ∙ k.fresh number (omega (arith, same)))) ∙ e

  none_goes : at kept.accepted kept.going ≡ None
  none_goes = k.courses kept.accepted ∙ ap going_in (k.fresh kept.accepted (omega arith))

  courses_so : (number : ℕ) → (kept.accepted ≡ number) ⊎ (kept.accepted ≡ number → ⊥)
      → at number (kept.going ++ (kept.accepted, place) ∷ []) ≡ going_in (course_of number (with notes accepts))
  courses_so number (inl same) =
      subst (λ n. at n (kept.going ++ (kept.accepted, place) ∷ []) ≡ going_in (course_of n (with notes accepts))) same
      (last_here kept.accepted kept.going place none_goes ∙ ap going_in (sym new_course))
  courses_so number (inr other) =
      last_other number kept.accepted kept.going place other ∙ k.courses number ∙ ap going_in (sym (old_course number other))

  stands_now : (other : ℕ) (it : Standing) → (place ≡ other → ⊥) → StandsBy notes other it → StandsBy (with notes accepts) other it
  stands_now other Asking apart h = (
    has_last other notes accepts ∙ go (has_job other notes) (place == other) h.0 (false_from_ne_true (place == other) (λ e. apart (eqb-true place other e))),
    wanted_more other notes accepts h.1,
  )
    where
      go : (a b : Bool) → a ≡ false → b ≡ false → (a || b) ≡ false
      go false false e f = refl
      go true b e f = absurd (false≢true (sym e))
      go false true e f = absurd (false≢true (sym f))
  stands_now other (Waiting it None) apart h = (h.0, stays_course h.0 (Going other) h.1 (λ e. cc))
  stands_now other (Waiting it (Some result)) apart h = (h.0, stays_course h.0 (Came other result) h.1 (λ e. cc))

  stands_so : (other : ℕ) (it : Standing) → at other now.standing ≡ Some it → (place ≡ other) ⊎ (place ≡ other → ⊥)
      → StandsBy (with notes accepts) other it
  stands_so other it e (inl same) =
      subst (λ n. StandsBy (with notes accepts) n it) same
      (subst (StandsBy (with notes accepts) place)
      (same_some (Waiting on None) it (sym (set_here place kept.standing Asking (Waiting on None) asks) ∙ ap (λ n. at n now.standing) same ∙ e))
      (kept.accepted, new_course))
  stands_so other it e (inr apart) =
      stands_now other it apart (k.standing other it (sym (set_other other place kept.standing (Waiting on None) apart) ∙ e))

  drawn_so : (other : ℕ) (it : Standing) → at other now.standing ≡ Some it → (place ≡ other) ⊎ (place ≡ other → ⊥) → other < kept.drawn
  drawn_so other it e (inl same) = let b = k.drawn place Asking asks in omega (arith, b, same)
  drawn_so other it e (inr apart) = k.drawn other it (sym (set_other other place kept.standing (Waiting on None) apart) ∙ e)

  below_so : (request : ℕ) → (a b : Bool) → has_job request notes ≡ a → (place == request) ≡ b → (a || b) ≡ true → request < kept.drawn
  below_so request true b e f g = k.below request e
  below_so request false true e f g = let same = eqb-true place request f in let b = k.drawn place Asking asks in omega (arith, same, b)
  below_so request false false e f g = absurd (false≢true g)

  pub accepted_now : Keeps (with notes accepts) now
  accepted_now = record {
    borne_out =
        borne_last [] notes accepts k.borne_out
        (let h : StandsBy notes place Asking = k.standing place Asking asks in (sym k.accepted, h.0, h.1));
    accepted = let e = accepted_last notes accepts in let a = k.accepted in omega (arith, e, a);
    courses = λ number. courses_so number (cases_eq kept.accepted number);
    going = last_distinct kept.accepted kept.going place none_goes k.going;
    fresh = λ number past. old_course number (λ same. omega (arith, same, past)) ∙ k.fresh number (omega (arith, past));
    below = λ request has. below_so request (has_job request notes) (place == request) refl refl (sym (has_last request notes accepts) ∙ has);
    places = set_distinct place kept.standing (Waiting on None) k.places;
    drawn = λ other it e. drawn_so other it e (cases_eq place other);
    standing = λ other it e. stands_so other it e (cases_eq place other);
  }

-- ---- news
-- of no job that goes on
pub passed_over : (notes : List Note) (kept : Execed) (number : ℕ) (result : List ℕ) → Keeps notes kept → at number kept.going ≡ None
    → Keeps (with notes (Comes number result)) kept
passed_over notes kept number result k none =
    noted_quietly notes (Comes number result) kept k
    (record { course = λ other. go other (cases_eq number other); job = λ request. refl; accepted = refl; borne_out = tt })
  where
    still : (course : Course) → going_in course ≡ None → course_after number (Comes number result) course ≡ course
    still NotYet e = refl
    still (Going request) e = absurd (cc)
    still (Came request held) e = refl

    go : (other : ℕ) → (number ≡ other) ⊎ (number ≡ other → ⊥) → course_after other (Comes number result) (course_of other notes) ≡ course_of other notes
    go other (inl same) =
        subst (λ n. course_after n (Comes number result) (course_of n notes) ≡ course_of n notes) same
        (still (course_of number notes) (sym (k.courses number) ∙ none))
    go other (inr apart) = came_other other number result (course_of other notes) apart

module _ (notes : List Note) (kept : Execed) (k : Keeps notes kept) (number : ℕ) (result : List ℕ) (place : ℕ)
    (goes : at number kept.going ≡ Some place) where
  abbrev comes : Note
  comes = Comes number result

  its_course : (course : Course) → going_in course ≡ Some place → course ≡ Going place
  its_course NotYet e = absurd (cc)
  its_course (Going request) e = ap Going (same_some request place e)
  its_course (Came request held) e = absurd (cc)

  was_going : course_of number notes ≡ Going place
  was_going = its_course (course_of number notes) (sym (k.courses number) ∙ goes)

  came_now : course_of number (with notes comes) ≡ Came place result
  came_now = course_last number notes comes NotYet ∙ ap (course_after number comes) was_going ∙ came_here number place result

  other_course : (other : ℕ) → (number ≡ other → ⊥) → course_of other (with notes comes) ≡ course_of other notes
  other_course other apart = course_last other notes comes NotYet ∙ came_other other number result (course_of other notes) apart

  -- a request whose job goes on or came is another, but at this place
  stands_still : (other : ℕ) (it : Standing) → (place ≡ other → ⊥) → StandsBy notes other it → StandsBy (with notes comes) other it
  stands_still other Asking apart h = (no_job_more other notes comes refl ∙ h.0, wanted_more other notes comes h.1)
  stands_still other (Waiting on None) apart h = (h.0, other_course h.0 (λ same. apart (place_of_going (sym was_going ∙ ap (λ n. course_of n notes) same ∙ h.1))) ∙ h.1)
    where
      place_of_going : Going place ≡ Going other → place ≡ other
      place_of_going e = same_some place other (ap going_in e)
  stands_still other (Waiting on (Some held)) apart h =
      (h.0, other_course h.0 (λ same. not_going (sym was_going ∙ ap (λ n. course_of n notes) same ∙ h.1)) ∙ h.1)
    where
      not_going : Going place ≡ Came other held → ⊥
      not_going e = let none : Some place ≡ None = ap going_in e in absurd (cc)

  courses_then : (other : ℕ) → (number ≡ other) ⊎ (number ≡ other → ⊥)
      → at other (remove_entry (is_number number) kept.going) ≡ going_in (course_of other (with notes comes))
  courses_then other (inl same) =
      subst (λ n. at n (remove_entry (is_number number) kept.going) ≡ going_in (course_of n (with notes comes))) same
      (removed_here number kept.going k.going ∙ ap going_in (sym came_now))
  courses_then other (inr apart) =
      removed_other other number kept.going apart ∙ k.courses other ∙ ap going_in (sym (other_course other apart))

  fresh_then : (other : ℕ) → kept.accepted ≤ other → course_of other (with notes comes) ≡ NotYet
  fresh_then other past = course_last other notes comes NotYet ∙ ap (course_after other comes) (k.fresh other past)

  -- what stands then: as before, but that the request at this place was given what came
  module _ (now : List (ℕ × Standing)) (distinct : Distinct now)
      (others : (other : ℕ) → (place ≡ other → ⊥) → at other now ≡ at other kept.standing)
      (this : (it : Standing) → at place now ≡ Some it → (place < kept.drawn) × StandsBy (with notes comes) place it) where
    drawn_then : (other : ℕ) (it : Standing) → at other now ≡ Some it → (place ≡ other) ⊎ (place ≡ other → ⊥) → other < kept.drawn
    drawn_then other it e (inl same) = let b = (this it (ap (λ n. at n now) same ∙ e)).0 in omega (arith, b, same)
    drawn_then other it e (inr apart) = k.drawn other it (sym (others other apart) ∙ e)

    stands_then : (other : ℕ) (it : Standing) → at other now ≡ Some it → (place ≡ other) ⊎ (place ≡ other → ⊥) → StandsBy (with notes comes) other it
    stands_then other it e (inl same) =
        subst (λ n. StandsBy (with notes comes) n it) same (this it (ap (λ n. at n now) same ∙ e)).1
    stands_then other it e (inr apart) = stands_still other it apart (k.standing other it (sym (others other apart) ∙ e))

    keeps_now : Keeps (with notes comes) (record (job_over number kept) { standing = now })
    keeps_now = record {
      borne_out = borne_last [] notes comes k.borne_out tt;
      accepted = let e = accepted_last notes comes in let a = k.accepted in omega (arith, e, a);
      courses = λ other. courses_then other (cases_eq number other);
      going = removed_distinct number kept.going k.going;
      fresh = fresh_then;
      below = λ request has. k.below request (sym (no_job_more request notes comes refl) ∙ has);
      places = distinct;
      drawn = λ other it e. drawn_then other it e (cases_eq place other);
      standing = λ other it e. stands_then other it e (cases_eq place other);
    }

  pub given_now : (o : Option Standing) → at place kept.standing ≡ o → Keeps (with notes comes) (given_to o place result (job_over number kept)).state
  given_now None e = keeps_now kept.standing k.places (λ other apart. refl) (λ it f. let none : None ≡ Some it = sym e ∙ f in absurd (cc))
  given_now (Some Asking) e =
      keeps_now kept.standing k.places (λ other apart. refl)
      (λ it f. (
        k.drawn place it f,
        subst (StandsBy (with notes comes) place) (same_some Asking it (sym e ∙ f))
            (let h : StandsBy notes place Asking = k.standing place Asking e in (no_job_more place notes comes refl ∙ h.0, wanted_more place notes comes h.1)),
      ))
  given_now (Some (Waiting on came)) e =
      keeps_now (stand_on place (Waiting on (Some result)) kept).standing
      (set_distinct place kept.standing (Waiting on (Some result)) k.places)
      (λ other apart. set_other other place kept.standing (Waiting on (Some result)) apart)
      (λ it f. (
        k.drawn place (Waiting on came) e,
        subst (StandsBy (with notes comes) place)
            (same_some (Waiting on (Some result)) it (sym (set_here place kept.standing (Waiting on came) (Waiting on (Some result)) e) ∙ f))
            (number, came_now),
      ))
