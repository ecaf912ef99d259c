-- What is kept of jobs is what their notes tell, whatever happens.
use Rattle.std.proofs.Common.{◌≡◌, ℕ, ℤ, pos, cond, Bool, true, false, List, [], ◌∷◌, ◌++◌, Option, Some, None, refl, sym, ap, subst, ◌∙◌}
use Rattle.std.specs.Prelude.{if◌then◌else◌}
use Rattle.std.proofs.lemmas.Bool.{eq-eqb}
use Rattle.model_value.specs.Input.{Input}
use Rattle.model_value.specs.Value.{Bytes, Exc, Value}
use Rattle.model_value.specs.declared.input.Input.TheVariants.{Send, Throw}
use Rattle.model_loop.specs.Futures.{next_future}
use Rattle.model_loop.specs.Parts.{Parts}
use Rattle.model_machine.specs.Extra.{Asks, ExtraCall, ExtraSaid, MakesPlain, Raises as RaisesIt, Waits, unknown_code}
use Rattle.model_reach.specs.Part.{can_draw, place_of, refuses, stays}
use Rattle.model_says.specs.Operations.{out_of_range}
use Rattle.model_fields.specs.Fields.{numbered}
use Rattle.model_exec.specs.Jobs.{is_job, job_code, job_text}
use Rattle.model_exec.specs.Execed.{Asking, Execed, Standing, Waiting, accept, ask_last, draw, exec_part, job_over, next_key, none_execed, place_of_job}
use Rattle.model_exec.specs.Execed.{says, stand_no_more, stand_on, standing_at}
use Rattle.model_exec.specs.Serving.{Wanted, answered, asked, asked_for, asked_to, goes_on, given_to, is_job_code, is_next, no_job, strange_answer, told}
use Rattle.model_exec.specs.Serving.{waited, wanted_of, woken}
use Rattle.law_jobs.specs.Notes.{Answers, Came, Course, Going, JobsKeep, Note, NotYet, Raises, course_of}
use Rattle.law_jobs.specs.Tries as tries
use Rattle.law_jobs.specs.Tries.{GoesOn, HasNews, Try, asked_note, kept_after, news_note, noted, notes, now_of, woken_at, woken_note}
use Rattle.law_jobs.proofs.Entries.{at}
use Rattle.law_jobs.proofs.Keeping.{Keeps, StandsBy, accepted_now, asked_last, drew, given_now, going_in, noted_quietly, passed_over, stood_no_more}

no_more : {A : Type 0} (xs : List A) → xs ++ [] ≡ xs
no_more [] = refl
no_more (x ∷ xs) = ap (λ ys. x ∷ ys) (no_more xs)

appended : {A : Type 0} (xs ys zs : List A) → (xs ++ ys) ++ zs ≡ xs ++ (ys ++ zs)
appended [] ys zs = refl
appended (x ∷ xs) ys zs = ap (λ l. x ∷ l) (appended xs ys zs)

module _ (before : List Note) (kept : Execed) (k : Keeps before kept) where
  -- nothing is noted, and nothing changes
  still : Keeps (before ++ []) kept
  still = subst (λ ns. Keeps ns kept) (sym (no_more before)) k

  -- ---- as it is asked
  abbrev AskedSo : Option Wanted → ExtraSaid Execed → Type 0
  AskedSo wanted said = Keeps (before ++ asked_note wanted said.answer kept.drawn) said.call.state

  to_so : (it : Wanted) → AskedSo (Some it) (asked_to it kept)
  to_so it = go (is_job it.kind it.input)
    where
      go : (b : Bool)
          → AskedSo (Some it)
          (if b then says (ask_last kept) [] (Asks (pos job_code) (job_text it.kind it.input) (next_key kept)) else says (draw kept) [] (RaisesIt no_job))
      go true = asked_last before kept it.kind it.input k
      go false = subst (λ ns. Keeps ns (draw kept)) (sym (no_more before)) (drew before kept k)

  for_so : (code : ℤ) (o : Option Wanted) → AskedSo o (asked_for code o kept)
  for_so code None = still
  for_so code (Some it) = go (can_draw exec_part kept.drawn 1)
    where
      go : (b : Bool) → AskedSo (Some it) (if b then asked_to it kept else refuses out_of_range kept)
      go true = to_so it
      go false = still

  unknown_so : (code : ℤ) (o : Option Wanted) → AskedSo o (refuses (unknown_code code) kept)
  unknown_so code None = still
  unknown_so code (Some it) = still

  asked_so : (code : ℤ) (arguments : List Value) → AskedSo (wanted_of arguments) (asked code arguments kept)
  asked_so code arguments = go (is_job_code code)
    where
      go : (b : Bool)
          → AskedSo (wanted_of arguments) (if b then asked_for code (wanted_of arguments) kept else refuses (unknown_code code) kept)
      go true = for_so code (wanted_of arguments)
      go false = unknown_so code (wanted_of arguments)

  -- ---- as it goes on
  module _ (key place : ℕ) (p : Parts) where
    abbrev GoesSo : Option Standing → ExtraSaid Execed → Type 0
    GoesSo o said = Keeps (before ++ woken_note o kept.accepted place said.answer) said.call.state

    raised_so : (it : Standing) (fault : Exc) → GoesSo (Some it) (says (stand_no_more place kept) [] (RaisesIt fault))
    raised_so it fault =
        noted_quietly before (Raises place fault) (stand_no_more place kept) (stood_no_more before kept k place)
        (record { course = λ number. refl; job = λ request. refl; accepted = refl; borne_out = tt })

    answered_so : (input : Input) → at place kept.standing ≡ Some Asking → GoesSo (Some Asking) (answered key place input p kept)
    answered_so (Throw exception) e = raised_so Asking exception
    answered_so (Send value) e = go (is_next kept value)
      where
        go : (b : Bool)
            → GoesSo (Some Asking)
            (if b then says (accept place (stand_on place (Waiting (next_future p) None) kept)) (MakesPlain ∷ []) (Waits (next_future p) key)
            else says (stand_no_more place kept) [] (RaisesIt strange_answer))
        go true = accepted_now before kept k place (next_future p) e
        go false = raised_so Asking strange_answer

    waited_so : (on : ℕ) (came : Option (List ℕ)) (input : Input) → at place kept.standing ≡ Some (Waiting on came)
        → GoesSo (Some (Waiting on came)) (waited place came input kept)
    waited_so on came (Throw exception) e = raised_so (Waiting on came) exception
    waited_so on None (Send value) e = raised_so (Waiting on None) strange_answer
    waited_so on (Some result) (Send value) e =
        noted_quietly before (Answers place (Bytes result)) (stand_no_more place kept) (stood_no_more before kept k place)
        (record {
          course = λ number. refl;
          job = λ request. refl;
          accepted = refl;
          borne_out = let h : StandsBy before place (Waiting on (Some result)) = k.standing place (Waiting on (Some result)) e in (h.0, (result, (h.1, refl)));
        })

    woken_so : (input : Input) (o : Option Standing) → at place kept.standing ≡ o → GoesSo o (woken o key place input p kept)
    woken_so input None e = still
    woken_so input (Some Asking) e = answered_so input e
    woken_so input (Some (Waiting on came)) e = waited_so on came input e

  -- ---- news
  told_so : (o : Option (ℕ × List ℕ)) → Keeps (before ++ news_note o) (told o kept).state
  told_so None = still
  told_so (Some it) = go (place_of_job it.0 kept) refl
    where
      go : (o : Option ℕ) → at it.0 kept.going ≡ o
          → (let call : ExtraCall Execed = elim o [
            | None ↦ stays kept
            | Some place ↦ given_to (standing_at place kept) place it.1 (job_over it.0 kept)
          ] in Keeps (before ++ news_note (Some it)) call.state)
      go None e = passed_over before kept it.0 it.1 k e
      go (Some place) e = given_now before kept k it.0 it.1 place e (standing_at place kept) refl

  news_so : (code : ℤ) (bytes : List ℕ) → Keeps (before ++ noted (HasNews code bytes) kept) (now_of (HasNews code bytes) kept)
  news_so code bytes = go (is_job_code code)
    where
      go : (b : Bool)
          → (let call : ExtraCall Execed = if b then told (numbered bytes) kept else stays kept in
          Keeps (before ++ (if b then news_note (numbered bytes) else [])) call.state)
      go true = told_so (numbered bytes)
      go false = still

  step_so : (it : Try) → Keeps (before ++ noted it kept) (now_of it kept)
  step_so (tries.Asks code arguments) = asked_so code arguments
  step_so (GoesOn key input p) =
      let place = place_of exec_part key in woken_so key place p input (standing_at place kept) refl
  step_so (HasNews code bytes) = news_so code bytes

-- ---- all that happens
steps_so : (before : List Note) (kept : Execed) → Keeps before kept → (all : List Try) → Keeps (before ++ notes all kept) (kept_after all kept)
steps_so before kept k [] = subst (λ ns. Keeps ns kept) (sym (no_more before)) k
steps_so before kept k (it ∷ all) =
    subst (λ ns. Keeps ns (kept_after all (now_of it kept))) (appended before (noted it kept) (notes all (now_of it kept)))
    (steps_so (before ++ noted it kept) (now_of it kept) (step_so before kept k it) all)

nothing_so : Keeps [] none_execed
nothing_so = record {
  borne_out = tt;
  accepted = refl;
  courses = λ number. refl;
  going = tt;
  fresh = λ number past. refl;
  below = λ request has. let no : false ≡ true = has in absurd (cc);
  places = tt;
  drawn = λ place it e. absurd (cc);
  standing = λ place it e. absurd (cc);
}

promised : (all : List Note) (kept : Execed) → Keeps all kept → JobsKeep all kept
promised all kept k = record {
  borne_out = k.borne_out;
  waits = waits_so kept.going k.courses;
  watched = λ number request e. watched_so kept.going number request (k.courses number ∙ ap going_in e);
}
  where
    goes_so : (number request : ℕ) → going_in (course_of number all) ≡ Some request → course_of number all ≡ Going request
    goes_so number request e = go (course_of number all) e
      where
        go : (course : Course) → going_in course ≡ Some request → course ≡ Going request
        go NotYet e = absurd (cc)
        go (Going other) e = ap Going (same other e)
          where
            same : (other : ℕ) → Some other ≡ Some request → other ≡ request
            same other e = cc
        go (Came other result) e = absurd (cc)

    waits_so : (going : List (ℕ × ℕ)) → ((number : ℕ) → at number going ≡ going_in (course_of number all)) → goes_on going ≡ true
        → (number : ℕ) × ((request : ℕ) × (course_of number all ≡ Going request))
    waits_so [] courses e = let no : false ≡ true = e in absurd (cc)
    waits_so (job ∷ jobs) courses e =
        (job.0, (job.1, goes_so job.0 job.1 (sym (courses job.0) ∙ ap (λ b. cond b (Some job.1) (at job.0 jobs)) (eq-eqb job.0 job.0 refl))))

    watched_so : (going : List (ℕ × ℕ)) (number request : ℕ) → at number going ≡ Some request → goes_on going ≡ true
    watched_so [] number request e = absurd (cc)
    watched_so (job ∷ jobs) number request e = refl

pub jobs_keep : (all : List Try) → JobsKeep (notes all none_execed) (kept_after all none_execed)
jobs_keep all = promised (notes all none_execed) (kept_after all none_execed) (steps_so [] none_execed nothing_so all)
