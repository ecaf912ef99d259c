-- What was sent of each endpoint, and then its line, is part of what was to be sent, in order of asking.
use Rattle.std.proofs.Common.{◌≡◌, ℕ, ◌+◌, ◌<◌, ◌≤◌, ◌⊎◌, inl, inr, Bool, true, false, cond, List, [], ◌∷◌, ◌++◌, Option, Some, None, refl, sym, ap, subst, ◌∙◌, arith}
use Rattle.std.specs.Prelude.{◌==◌, ◌||◌, not, if◌then◌else◌}
use Rattle.std.specs.List.{AllByRecursion as Each}
use Rattle.std.specs.Map.{remove_entry, set_value}
use Rattle.std.proofs.lemmas.Bool.{cases_eq, eq-eqb, eqb-true, false≢true, ne_eqb}
use Rattle.model_sync.specs.Synced.{is_place, without}
use Rattle.model_dgram.specs.Texts.{Datagram}
use Rattle.model_dgram.specs.Endpoints as endpoints
use Rattle.model_dgram.specs.Endpoints.{Endpoint, Endpoints, Waiting, endpoint_at, fresh, none_opened, set_endpoint, wait_again, wait_last, wait_over, waiting_at}
use Rattle.model_dgram.specs.Sending.{stand_last, stands_first}
use Rattle.law_sync.proofs.Lists.{each_append, each_on, each_removed}
use Rattle.law_dgram.proofs.Tidying.{each_changed}
use Rattle.law_jobs.proofs.Entries.{Distinct, at, last_distinct, last_none, last_other, last_some, removed_distinct, removed_found, removed_here, removed_other}
use Rattle.law_jobs.proofs.Entries.{set_distinct, set_here, set_other}
use Rattle.law_datagrams.specs.Notes.{IsPartOf, Note, Offers, Sent, Wanted, Wants, first_of, gathered, is_any, is_offered_in, is_sent_in, sent_by, sent_on, wanted_by}
use Rattle.law_datagrams.specs.Notes.{wanted_in, wanted_of, wanted_on, was_offered, was_sent}
use Rattle.law_datagrams.proofs.Noting.{any_last, gathered_last, wanted_last}
use Rattle.law_datagrams.proofs.Parts.{appended, both_last, fewer, front, more_last, no_more, within}

-- who stands in line, where it is open
abbrev pub line_of : Option Endpoint → List ℕ
line_of None = []
line_of (Some endpoint) = endpoint.senders

-- one for which the outside is asked
pub record IsOffered (before : List Note) (kept : Endpoints) (place id : ℕ) (it : Datagram) : Type 0 where
  pub given : id < kept.opened
  pub wants : wanted_of place before ≡ Some (record { endpoint = id; it = it })
  pub unsent : was_sent place before ≡ false
  pub offered : was_offered place before ≡ true
  pub next : IsPartOf (sent_on id before ++ place ∷ []) (wanted_on id before)
  pub first : (endpoint : Endpoint) → endpoint_at id kept ≡ Some endpoint → stands_first place endpoint.senders ≡ true

abbrev pub StandsBy : List Note → Endpoints → ℕ → Waiting → Type 0
StandsBy before kept place endpoints.Opens = Unit {0}
StandsBy before kept place (endpoints.Offers id it) = IsOffered before kept place id it
StandsBy before kept place (endpoints.Sends id it on) =
    (wanted_of place before ≡ Some (record { endpoint = id; it = it })) × (was_sent place before ≡ false)
StandsBy before kept place (endpoints.Receives id on) = Unit {0}
StandsBy before kept place endpoints.Closes = Unit {0}

abbrev pub IsNoSender : Waiting → Type 0
IsNoSender endpoints.Opens = Unit {0}
IsNoSender (endpoints.Offers id it) = ⊥
IsNoSender (endpoints.Sends id it on) = ⊥
IsNoSender (endpoints.Receives id on) = Unit {0}
IsNoSender endpoints.Closes = Unit {0}

pub record KeepsSends (before : List Note) (kept : Endpoints) : Type 0 where
  pub lines : (id : ℕ) → IsPartOf (sent_on id before ++ line_of (endpoint_at id kept)) (wanted_on id before)
  pub distinct : Distinct kept.endpoints
  pub numbers : Each (λ (entry : ℕ × Endpoint). entry.0 < kept.opened) kept.endpoints
  pub entries : Distinct kept.waiting
  pub places : Each (λ (entry : ℕ × Waiting). entry.0 < kept.drawn) kept.waiting
  pub later : (request : ℕ) → kept.drawn ≤ request → (wanted_of request before ≡ None) × (was_sent request before ≡ false)
  pub standing : (place : ℕ) (it : Waiting) → at place kept.waiting ≡ Some it → StandsBy before kept place it
  -- of one endpoint one at most asks
  pub only : (p q id : ℕ) (it jt : Datagram) → at p kept.waiting ≡ Some (endpoints.Offers id it) → at q kept.waiting ≡ Some (endpoints.Offers id jt)
      → p ≡ q

-- ---- lists
past_none : {A : Type 0} (n : ℕ) (es : List (ℕ × A)) → Each (λ (entry : ℕ × A). entry.0 < n) es → at n es ≡ None
past_none n [] below = refl
past_none n (e ∷ es) below =
    ap (λ b. cond b (Some e.1) (at n es)) (ne_eqb e.0 n (λ same. let l = below.0 in absurd (omega (arith, same, l)))) ∙ past_none n es below.1

pub below_at : {A : Type 0} (m n : ℕ) (x : A) (es : List (ℕ × A)) → at n es ≡ Some x → Each (λ (entry : ℕ × A). entry.0 < m) es → n < m
below_at m n x [] e below = let no : None ≡ Some x = e in absurd (cc)
below_at {A} m n x (y ∷ es) e below = of (λ f. below_at m n x es f below.1) (cases_eq y.0 n)
  where
    of : (at n es ≡ Some x → n < m) → (y.0 ≡ n) ⊎ (y.0 ≡ n → ⊥) → n < m
    of rest (inl same) = let l = below.0 in omega (arith, same, l)
    of rest (inr other) = rest (sym (ap (λ b. cond b (Some y.1) (at n es)) (ne_eqb y.0 n other)) ∙ e)

pub without_part : (p : ℕ) (xs : List ℕ) → IsPartOf (without p xs) xs
without_part p [] = tt
without_part p (x ∷ xs) = of (without_part p xs) (not (x == p))
  where
    add : (ys : List ℕ) → IsPartOf ys xs → IsPartOf ys (x ∷ xs)
    add [] h = tt
    add (y ∷ ys) h = inr h

    of : IsPartOf (without p xs) xs → (b : Bool) → IsPartOf (cond b (x ∷ without p xs) (without p xs)) (x ∷ xs)
    of rest true = inl (refl, rest)
    of rest false = add (without p xs) rest

-- who stands first
pub head_of : (p : ℕ) (line : List ℕ) → stands_first p line ≡ true → (rest : List ℕ) × (line ≡ p ∷ rest)
head_of p [] e = absurd (false≢true e)
head_of p (x ∷ line) e = (line, ap (λ y. y ∷ line) (eqb-true x p e))

same_head : (p q : ℕ) (line : List ℕ) → stands_first p line ≡ true → stands_first q line ≡ true → p ≡ q
same_head p q [] e f = absurd (false≢true e)
same_head p q (x ∷ line) e f = sym (eqb-true x p e) ∙ eqb-true x q f

pub first_left : (p q : ℕ) (line : List ℕ) → (q ≡ p → ⊥) → stands_first q line ≡ true → stands_first q (without p line) ≡ true
first_left p q line apart e =
    let h = head_of q line e in
    ap (λ l. stands_first q (without p l)) h.1
    ∙ ap (λ b. stands_first q (cond (not b) (q ∷ without p h.0) (without p h.0))) (ne_eqb q p apart) ∙ eq-eqb q q refl

first_last : (p n : ℕ) (line : List ℕ) → stands_first p line ≡ true → stands_first p (line ++ n ∷ []) ≡ true
first_last p n [] e = absurd (false≢true e)
first_last p n (x ∷ line) e = e

or_true : (b : Bool) → (b || true) ≡ true
or_true true = refl
or_true false = refl

or_false : (b : Bool) → (b || false) ≡ b
or_false true = refl
or_false false = refl

-- ---- notes that change no line
-- none is of a request that comes to stand in line, or was sent
pub record IsStill (note : Note) : Type 0 where
  pub wanted : (id : ℕ) → wanted_by id note ≡ []
  pub sent : (id : ℕ) → sent_by id note ≡ []
  pub wants : (request : ℕ) → wanted_in request note ≡ None
  pub is_sent : (request : ℕ) → is_sent_in request note ≡ false

module _ (before : List Note) (note : Note) where
  pub gathered_still : {A : Type 0} (of : Note → List A) → of note ≡ [] → gathered of (before ++ note ∷ []) ≡ gathered of before
  gathered_still of e = gathered_last of before note ∙ ap (λ xs. gathered of before ++ xs) e ∙ no_more (gathered of before)

  pub any_still : (test : Note → Bool) → test note ≡ false → is_any test (before ++ note ∷ []) ≡ is_any test before
  any_still test e = any_last test before note ∙ ap (λ b. is_any test before || b) e ∙ or_false (is_any test before)

  pub wanted_still : (request : ℕ) → wanted_in request note ≡ None → wanted_of request (before ++ note ∷ []) ≡ wanted_of request before
  wanted_still request e = wanted_last request before note ∙ ap (first_of (wanted_of request before)) e ∙ first_none (wanted_of request before)
    where
      first_none : (o : Option Wanted) → first_of o None ≡ o
      first_none None = refl
      first_none (Some it) = refl

  pub any_more : (test : Note → Bool) → is_any test before ≡ true → is_any test (before ++ note ∷ []) ≡ true
  any_more test e = any_last test before note ∙ ap (λ b. b || test note) e

  pub wanted_more : (request : ℕ) (want : Wanted) → wanted_of request before ≡ Some want → wanted_of request (before ++ note ∷ []) ≡ Some want
  wanted_more request want e = wanted_last request before note ∙ ap (λ o. first_of o (wanted_in request note)) e

module _ (before : List Note) (kept : Endpoints) (k : KeepsSends before kept) where
  pub noted_still : (note : Note) → IsStill note → KeepsSends (before ++ note ∷ []) kept
  noted_still note still = record {
    lines = λ id.
        subst (λ sent. IsPartOf (sent ++ line_of (endpoint_at id kept)) (wanted_on id (before ++ note ∷ [])))
        (sym (gathered_still before note (sent_by id) (still.sent id)))
        (subst (IsPartOf (sent_on id before ++ line_of (endpoint_at id kept))) (sym (gathered_still before note (wanted_by id) (still.wanted id))) (k.lines id));
    distinct = k.distinct;
    numbers = k.numbers;
    entries = k.entries;
    places = k.places;
    later = λ request past. (
      wanted_still before note request (still.wants request) ∙ (k.later request past).0,
      any_still before note (is_sent_in request) (still.is_sent request) ∙ (k.later request past).1,
    );
    standing = λ place it e. on place it (k.standing place it e);
    only = k.only;
  }
    where
      on : (place : ℕ) (it : Waiting) → StandsBy before kept place it → StandsBy (before ++ note ∷ []) kept place it
      on place endpoints.Opens h = tt
      on place (endpoints.Offers id it) h = record {
        given = h.given;
        wants = wanted_more before note place (record { endpoint = id; it = it }) h.wants;
        unsent = any_still before note (is_sent_in place) (still.is_sent place) ∙ h.unsent;
        offered = any_more before note (is_offered_in place) h.offered;
        next =
            subst (λ sent. IsPartOf (sent ++ place ∷ []) (wanted_on id (before ++ note ∷ [])))
            (sym (gathered_still before note (sent_by id) (still.sent id)))
            (subst (IsPartOf (sent_on id before ++ place ∷ [])) (sym (gathered_still before note (wanted_by id) (still.wanted id))) h.next);
        first = h.first;
      }
      on place (endpoints.Sends id it other) h = (
        wanted_more before note place (record { endpoint = id; it = it }) h.0,
        any_still before note (is_sent_in place) (still.is_sent place) ∙ h.1,
      )
      on place (endpoints.Receives id other) h = tt
      on place endpoints.Closes h = tt

  -- ---- requests that wait
  -- who sends is as before, and so are endpoints
  pub waits_changed : (now : Endpoints) → now.endpoints ≡ kept.endpoints → now.opened ≡ kept.opened → kept.drawn ≤ now.drawn → Distinct now.waiting
      → Each (λ (entry : ℕ × Waiting). entry.0 < now.drawn) now.waiting
      → ((place : ℕ) (it : Waiting) → at place now.waiting ≡ Some it → (at place kept.waiting ≡ Some it) ⊎ IsNoSender it) → KeepsSends before now
  waits_changed now es n more entries places was = record {
    lines = λ id. subst (λ xs. IsPartOf (sent_on id before ++ line_of (at id xs)) (wanted_on id before)) (sym es) (k.lines id);
    distinct = subst Distinct (sym es) k.distinct;
    numbers = subst (λ m. Each (λ (entry : ℕ × Endpoint). entry.0 < m) now.endpoints) (sym n)
        (subst (Each (λ (entry : ℕ × Endpoint). entry.0 < kept.opened)) (sym es) k.numbers);
    entries = entries;
    places = places;
    later = λ request past. k.later request (omega (arith, more, past));
    standing = λ place it e. of place it (was place it e);
    only = λ p q id it jt e f. k.only p q id it jt (sender p id it (was p (endpoints.Offers id it) e)) (sender q id jt (was q (endpoints.Offers id jt) f));
  }
    where
      sender : (p id : ℕ) (it : Datagram) → (at p kept.waiting ≡ Some (endpoints.Offers id it)) ⊎ IsNoSender (endpoints.Offers id it)
          → at p kept.waiting ≡ Some (endpoints.Offers id it)
      sender p id it (inl e) = e
      sender p id it (inr none) = absurd none

      still : (place : ℕ) (it : Waiting) → StandsBy before kept place it → StandsBy before now place it
      still place endpoints.Opens h = tt
      still place (endpoints.Offers id it) h = record {
        given = subst (λ m. id < m) (sym n) h.given;
        wants = h.wants;
        unsent = h.unsent;
        offered = h.offered;
        next = h.next;
        first = λ endpoint e. h.first endpoint (ap (at id) (sym es) ∙ e);
      }
      still place (endpoints.Sends id it on) h = h
      still place (endpoints.Receives id on) h = tt
      still place endpoints.Closes h = tt

      none : (place : ℕ) (it : Waiting) → IsNoSender it → StandsBy before now place it
      none place endpoints.Opens h = tt
      none place (endpoints.Offers id it) h = absurd h
      none place (endpoints.Sends id it on) h = absurd h
      none place (endpoints.Receives id on) h = tt
      none place endpoints.Closes h = tt

      of : (place : ℕ) (it : Waiting) → (at place kept.waiting ≡ Some it) ⊎ IsNoSender it → StandsBy before now place it
      of place it (inl e) = still place it (k.standing place it e)
      of place it (inr h) = none place it h

  -- one more, that sends nothing
  pub waits_last : (it : Waiting) → IsNoSender it → KeepsSends before (wait_last it kept)
  waits_last it none =
      waits_changed (wait_last it kept) refl refl (omega arith)
      (last_distinct kept.drawn kept.waiting it (past_none kept.drawn kept.waiting k.places) k.entries)
      (each_append (λ (entry : ℕ × Waiting). entry.0 < kept.drawn + 1) kept.waiting ((kept.drawn, it) ∷ [])
      (each_on (λ (entry : ℕ × Waiting). entry.0 < kept.drawn) (λ (entry : ℕ × Waiting). entry.0 < kept.drawn + 1) (λ entry l. omega (arith, l))
      kept.waiting k.places) (omega arith, tt))
      (λ place jt e. of place jt (at place kept.waiting) refl e)
    where
      last_one : (jt : Waiting) (b : Bool) → cond b (Some it) None ≡ Some jt → IsNoSender jt
      last_one jt true e = subst IsNoSender (same e) none
        where
          same : Some it ≡ Some jt → it ≡ jt
          same e = cc
      last_one jt false e = let no : None ≡ Some jt = e in absurd (cc)

      of : (place : ℕ) (jt : Waiting) (o : Option Waiting) → at place kept.waiting ≡ o → at place (kept.waiting ++ (kept.drawn, it) ∷ []) ≡ Some jt
          → (at place kept.waiting ≡ Some jt) ⊎ IsNoSender jt
      of place jt None e f = inr (last_one jt (kept.drawn == place) (sym (last_none place kept.waiting (kept.drawn, it) e) ∙ f))
      of place jt (Some x) e f = inl (e ∙ sym (last_some place kept.waiting (kept.drawn, it) x e) ∙ f)

  pub draws : KeepsSends before (endpoints.draw kept)
  draws =
      waits_changed (endpoints.draw kept) refl refl (omega arith) k.entries
      (each_on (λ (entry : ℕ × Waiting). entry.0 < kept.drawn) (λ (entry : ℕ × Waiting). entry.0 < kept.drawn + 1) (λ entry l. omega (arith, l)) kept.waiting
      k.places)
      (λ place it e. inl e)

  -- one less
  pub waits_over : (place : ℕ) → KeepsSends before (wait_over place kept)
  waits_over place =
      waits_changed (wait_over place kept) refl refl (omega arith) (removed_distinct place kept.waiting k.entries)
      (each_removed (λ (entry : ℕ × Waiting). entry.0 < kept.drawn) (is_place place) kept.waiting k.places)
      (λ other it e. inl (removed_found other place kept.waiting it k.entries e))

  -- one that sends nothing becomes another such
  pub waits_again : (place : ℕ) (old it : Waiting) → at place kept.waiting ≡ Some old → IsNoSender it → KeepsSends before (wait_again place it kept)
  waits_again place old it is none =
      waits_changed (wait_again place it kept) refl refl (omega arith) (set_distinct place kept.waiting it k.entries)
      (each_changed (λ (entry : ℕ × Waiting). entry.0 < kept.drawn) (is_place place) kept.waiting it k.places (λ key old_ l. l))
      (λ other jt e. of other jt (cases_eq other place) e)
    where
      of : (other : ℕ) (jt : Waiting) → (other ≡ place) ⊎ (other ≡ place → ⊥) → at other (set_value (is_place place) kept.waiting it) ≡ Some jt
          → (at other kept.waiting ≡ Some jt) ⊎ IsNoSender jt
      of other jt (inl same) e = inr (subst IsNoSender (found (sym (set_here place kept.waiting old it is) ∙ ap (λ n. at n (set_value (is_place place) kept.waiting it)) (sym same) ∙ e)) none)
        where
          found : Some it ≡ Some jt → it ≡ jt
          found e = cc
      of other jt (inr apart) e = inl (sym (set_other other place kept.waiting it (λ f. apart (sym f))) ∙ e)

  -- ---- one endpoint changes
  pub line_changed : (id : ℕ) (endpoint new : Endpoint) → endpoint_at id kept ≡ Some endpoint
      → IsPartOf (sent_on id before ++ new.senders) (wanted_on id before)
      → ((place : ℕ) (it : Datagram) → at place kept.waiting ≡ Some (endpoints.Offers id it) → stands_first place endpoint.senders ≡ true
      → stands_first place new.senders ≡ true) → KeepsSends before (set_endpoint id new kept)
  line_changed id endpoint new is line first = record {
    lines = λ other. of other (cases_eq other id);
    distinct = set_distinct id kept.endpoints new k.distinct;
    numbers = each_changed (λ (entry : ℕ × Endpoint). entry.0 < kept.opened) (is_place id) kept.endpoints new k.numbers (λ key old l. l);
    entries = k.entries;
    places = k.places;
    later = k.later;
    standing = λ place it e. on place it e (k.standing place it e);
    only = k.only;
  }
    where
      of : (other : ℕ) → (other ≡ id) ⊎ (other ≡ id → ⊥)
          → IsPartOf (sent_on other before ++ line_of (endpoint_at other (set_endpoint id new kept))) (wanted_on other before)
      of other (inl same) =
          subst (λ n. IsPartOf (sent_on n before ++ line_of (endpoint_at n (set_endpoint id new kept))) (wanted_on n before)) (sym same)
          (subst (λ o. IsPartOf (sent_on id before ++ line_of o) (wanted_on id before)) (sym (set_here id kept.endpoints endpoint new is)) line)
      of other (inr apart) =
          subst (λ o. IsPartOf (sent_on other before ++ line_of o) (wanted_on other before))
          (sym (set_other other id kept.endpoints new (λ e. apart (sym e)))) (k.lines other)

      at_first : (place other : ℕ) (it : Datagram) → at place kept.waiting ≡ Some (endpoints.Offers other it)
          → ((one : Endpoint) → endpoint_at other kept ≡ Some one → stands_first place one.senders ≡ true)
          → (other ≡ id) ⊎ (other ≡ id → ⊥) → (one : Endpoint) → endpoint_at other (set_endpoint id new kept) ≡ Some one
          → stands_first place one.senders ≡ true
      at_first place other it waits was (inl same) one e =
          subst (λ (x : Endpoint). stands_first place x.senders ≡ true)
          (found (sym (set_here id kept.endpoints endpoint new is) ∙ ap (λ n. endpoint_at n (set_endpoint id new kept)) (sym same) ∙ e))
          (first place it (waits ∙ ap (λ n. Some (endpoints.Offers n it)) same) (was endpoint (ap (λ n. endpoint_at n kept) same ∙ is)))
        where
          found : Some new ≡ Some one → new ≡ one
          found e = cc
      at_first place other it waits was (inr apart) one e = was one (sym (set_other other id kept.endpoints new (λ f. apart (sym f))) ∙ e)

      on : (place : ℕ) (it : Waiting) → at place kept.waiting ≡ Some it → StandsBy before kept place it → StandsBy before (set_endpoint id new kept) place it
      on place endpoints.Opens e h = tt
      on place (endpoints.Offers other it) e h = record {
        given = h.given;
        wants = h.wants;
        unsent = h.unsent;
        offered = h.offered;
        next = h.next;
        first = at_first place other it e h.first (cases_eq other id);
      }
      on place (endpoints.Sends other it on_) e h = h
      on place (endpoints.Receives other on_) e h = tt
      on place endpoints.Closes e h = tt

  pub was_line : (id : ℕ) (endpoint : Endpoint) → endpoint_at id kept ≡ Some endpoint → IsPartOf (sent_on id before ++ endpoint.senders) (wanted_on id before)
  was_line id endpoint is = subst (λ o. IsPartOf (sent_on id before ++ line_of o) (wanted_on id before)) is (k.lines id)

  -- its line stays
  pub set_still : (id : ℕ) (endpoint new : Endpoint) → endpoint_at id kept ≡ Some endpoint → new.senders ≡ endpoint.senders
      → KeepsSends before (set_endpoint id new kept)
  set_still id endpoint new is same =
      line_changed id endpoint new is
      (subst (λ line. IsPartOf (sent_on id before ++ line) (wanted_on id before)) (sym same) (was_line id endpoint is))
      (λ place it waits e. ap (stands_first place) same ∙ e)

  -- one that doesn't wait any more leaves its line
  pub line_left : (id place : ℕ) (endpoint : Endpoint) → endpoint_at id kept ≡ Some endpoint → at place kept.waiting ≡ None
      → KeepsSends before (set_endpoint id (record endpoint { senders = without place endpoint.senders }) kept)
  line_left id place endpoint is gone =
      line_changed id endpoint (record endpoint { senders = without place endpoint.senders }) is
      (within (sent_on id before ++ without place endpoint.senders) (sent_on id before ++ endpoint.senders) (wanted_on id before)
      (fewer (sent_on id before) (without place endpoint.senders) endpoint.senders (without_part place endpoint.senders)) (was_line id endpoint is))
      (λ other it waits e. first_left place other endpoint.senders
      (λ same. let no : None ≡ Some (endpoints.Offers id it) = sym gone ∙ ap (λ n. at n kept.waiting) (sym same) ∙ waits in absurd (cc)) e)

  -- ---- endpoints more and fewer
  pub opens_one : KeepsSends before (record kept { opened = kept.opened + 1; endpoints = kept.endpoints ++ (kept.opened, fresh) ∷ [] })
  opens_one = record {
    lines = λ id. of id (endpoint_at id kept) refl;
    distinct = last_distinct kept.opened kept.endpoints fresh (past_none kept.opened kept.endpoints k.numbers) k.distinct;
    numbers =
        each_append (λ (entry : ℕ × Endpoint). entry.0 < kept.opened + 1) kept.endpoints ((kept.opened, fresh) ∷ [])
        (each_on (λ (entry : ℕ × Endpoint). entry.0 < kept.opened) (λ (entry : ℕ × Endpoint). entry.0 < kept.opened + 1) (λ entry l. omega (arith, l))
        kept.endpoints k.numbers) (omega arith, tt);
    entries = k.entries;
    places = k.places;
    later = k.later;
    standing = λ place it e. on place it (k.standing place it e);
    only = k.only;
  }
    where
      new_or_none : (id : ℕ) (b : Bool) → IsPartOf (sent_on id before ++ []) (wanted_on id before)
          → IsPartOf (sent_on id before ++ line_of (cond b (Some fresh) None)) (wanted_on id before)
      new_or_none id true h = h
      new_or_none id false h = h

      of : (id : ℕ) (o : Option Endpoint) → endpoint_at id kept ≡ o
          → IsPartOf (sent_on id before ++ line_of (at id (kept.endpoints ++ (kept.opened, fresh) ∷ []))) (wanted_on id before)
      of id None e =
          subst (λ p. IsPartOf (sent_on id before ++ line_of p) (wanted_on id before)) (sym (last_none id kept.endpoints (kept.opened, fresh) e))
          (new_or_none id (kept.opened == id) (subst (λ p. IsPartOf (sent_on id before ++ line_of p) (wanted_on id before)) e (k.lines id)))
      of id (Some endpoint) e =
          subst (λ p. IsPartOf (sent_on id before ++ line_of p) (wanted_on id before))
          (e ∙ sym (last_some id kept.endpoints (kept.opened, fresh) endpoint e)) (k.lines id)

      was_open : (id place : ℕ) (o : Option Endpoint) → endpoint_at id kept ≡ o → id < kept.opened
          → ((endpoint : Endpoint) → endpoint_at id kept ≡ Some endpoint → stands_first place endpoint.senders ≡ true)
          → (one : Endpoint) → at id (kept.endpoints ++ (kept.opened, fresh) ∷ []) ≡ Some one → stands_first place one.senders ≡ true
      was_open id place (Some endpoint) e below first one f =
          subst (λ (x : Endpoint). stands_first place x.senders ≡ true)
          (found one (sym (last_some id kept.endpoints (kept.opened, fresh) endpoint e) ∙ f)) (first endpoint e)
        where
          found : (one : Endpoint) → Some endpoint ≡ Some one → endpoint ≡ one
          found one e = cc
      was_open id place None e below first one f =
          let no : None ≡ Some one =
          sym e ∙ sym (last_other id kept.opened kept.endpoints fresh (λ same. let b = below in absurd (omega (arith, same, b)))) ∙ f in
          absurd (cc)

      on : (place : ℕ) (it : Waiting) → StandsBy before kept place it
          → StandsBy before (record kept { opened = kept.opened + 1; endpoints = kept.endpoints ++ (kept.opened, fresh) ∷ [] }) place it
      on place endpoints.Opens h = tt
      on place (endpoints.Offers id it) h = record {
        given = let b = h.given in omega (arith, b);
        wants = h.wants;
        unsent = h.unsent;
        offered = h.offered;
        next = h.next;
        first = was_open id place (endpoint_at id kept) refl h.given h.first;
      }
      on place (endpoints.Sends id it other) h = h
      on place (endpoints.Receives id other) h = tt
      on place endpoints.Closes h = tt

  pub closes_one : (id : ℕ) → KeepsSends before (record kept { endpoints = remove_entry (is_place id) kept.endpoints })
  closes_one id = record {
    lines = λ other. of other (cases_eq other id);
    distinct = removed_distinct id kept.endpoints k.distinct;
    numbers = each_removed (λ (entry : ℕ × Endpoint). entry.0 < kept.opened) (is_place id) kept.endpoints k.numbers;
    entries = k.entries;
    places = k.places;
    later = k.later;
    standing = λ place it e. on place it (k.standing place it e);
    only = k.only;
  }
    where
      no_line : (other : ℕ) → IsPartOf (sent_on other before ++ []) (wanted_on other before)
      no_line other =
          subst (λ xs. IsPartOf xs (wanted_on other before)) (sym (no_more (sent_on other before)))
          (within (sent_on other before) (sent_on other before ++ line_of (endpoint_at other kept)) (wanted_on other before)
          (front (sent_on other before) (line_of (endpoint_at other kept))) (k.lines other))

      of : (other : ℕ) → (other ≡ id) ⊎ (other ≡ id → ⊥)
          → IsPartOf (sent_on other before ++ line_of (at other (remove_entry (is_place id) kept.endpoints))) (wanted_on other before)
      of other (inl same) =
          subst (λ o. IsPartOf (sent_on other before ++ line_of o) (wanted_on other before))
          (sym (ap (λ n. at n (remove_entry (is_place id) kept.endpoints)) same ∙ removed_here id kept.endpoints k.distinct)) (no_line other)
      of other (inr apart) =
          subst (λ o. IsPartOf (sent_on other before ++ line_of o) (wanted_on other before))
          (sym (removed_other other id kept.endpoints (λ e. apart (sym e)))) (k.lines other)

      on : (place : ℕ) (it : Waiting) → StandsBy before kept place it
          → StandsBy before (record kept { endpoints = remove_entry (is_place id) kept.endpoints }) place it
      on place endpoints.Opens h = tt
      on place (endpoints.Offers other it) h = record {
        given = h.given;
        wants = h.wants;
        unsent = h.unsent;
        offered = h.offered;
        next = h.next;
        first = λ endpoint e. h.first endpoint (removed_found other id kept.endpoints endpoint k.distinct e);
      }
      on place (endpoints.Sends other it on_) h = h
      on place (endpoints.Receives other on_) h = tt
      on place endpoints.Closes h = tt

  -- ---- one was sent, which doesn't wait any more, and left its line
  pub was_sent_now : (place id : ℕ) → place < kept.drawn → at place kept.waiting ≡ None
      → ((q : ℕ) (jt : Datagram) → at q kept.waiting ≡ Some (endpoints.Offers id jt) → ⊥)
      → IsPartOf ((sent_on id before ++ place ∷ []) ++ line_of (endpoint_at id kept)) (wanted_on id before) → KeepsSends (before ++ Sent place id ∷ []) kept
  was_sent_now place id drawn gone nobody line = record {
    lines = λ other. of other (cases_eq other id);
    distinct = k.distinct;
    numbers = k.numbers;
    entries = k.entries;
    places = k.places;
    later = λ request past. (
      wanted_still before (Sent place id) request refl ∙ (k.later request past).0,
      any_still before (Sent place id) (is_sent_in request) (ne_eqb place request (λ same. let d = drawn in absurd (omega (arith, same, past, d))))
          ∙ (k.later request past).1,
    );
    standing = λ q it e. on q it e (k.standing q it e);
    only = k.only;
  }
    where
      sent_here : sent_on id (before ++ Sent place id ∷ []) ≡ sent_on id before ++ place ∷ []
      sent_here =
          gathered_last (sent_by id) before (Sent place id)
          ∙ ap (λ (b : Bool). sent_on id before ++ (if b then place ∷ [] else [])) (eq-eqb id id refl)

      sent_there : (other : ℕ) → (other ≡ id → ⊥) → sent_on other (before ++ Sent place id ∷ []) ≡ sent_on other before
      sent_there other apart =
          gathered_still before (Sent place id) (sent_by other) (ap (λ (b : Bool). if b then place ∷ [] else []) (ne_eqb id other (λ e. apart (sym e))))

      wanted_same : (other : ℕ) → wanted_on other (before ++ Sent place id ∷ []) ≡ wanted_on other before
      wanted_same other = gathered_still before (Sent place id) (wanted_by other) refl

      of : (other : ℕ) → (other ≡ id) ⊎ (other ≡ id → ⊥)
          → IsPartOf (sent_on other (before ++ Sent place id ∷ []) ++ line_of (endpoint_at other kept)) (wanted_on other (before ++ Sent place id ∷ []))
      of other (inl same) =
          subst (λ n. IsPartOf (sent_on n (before ++ Sent place id ∷ []) ++ line_of (endpoint_at n kept)) (wanted_on n (before ++ Sent place id ∷ []))) (sym same)
          (subst (λ sent. IsPartOf (sent ++ line_of (endpoint_at id kept)) (wanted_on id (before ++ Sent place id ∷ []))) (sym sent_here)
          (subst (IsPartOf ((sent_on id before ++ place ∷ []) ++ line_of (endpoint_at id kept))) (sym (wanted_same id)) line))
      of other (inr apart) =
          subst (λ sent. IsPartOf (sent ++ line_of (endpoint_at other kept)) (wanted_on other (before ++ Sent place id ∷ []))) (sym (sent_there other apart))
          (subst (IsPartOf (sent_on other before ++ line_of (endpoint_at other kept))) (sym (wanted_same other)) (k.lines other))

      apart_from : (q : ℕ) (it : Waiting) → at q kept.waiting ≡ Some it → place ≡ q → ⊥
      apart_from q it e same = let no : None ≡ Some it = sym gone ∙ ap (λ n. at n kept.waiting) same ∙ e in absurd (cc)

      unsent : (q : ℕ) (it : Waiting) → at q kept.waiting ≡ Some it → was_sent q before ≡ false → was_sent q (before ++ Sent place id ∷ []) ≡ false
      unsent q it e was = any_still before (Sent place id) (is_sent_in q) (ne_eqb place q (apart_from q it e)) ∙ was

      next_there : (q other : ℕ) → (other ≡ id → ⊥) → IsPartOf (sent_on other before ++ q ∷ []) (wanted_on other before)
          → IsPartOf (sent_on other (before ++ Sent place id ∷ []) ++ q ∷ []) (wanted_on other (before ++ Sent place id ∷ []))
      next_there q other apart h =
          subst (λ sent. IsPartOf (sent ++ q ∷ []) (wanted_on other (before ++ Sent place id ∷ []))) (sym (sent_there other apart))
          (subst (IsPartOf (sent_on other before ++ q ∷ [])) (sym (wanted_same other)) h)

      on : (q : ℕ) (it : Waiting) → at q kept.waiting ≡ Some it → StandsBy before kept q it → StandsBy (before ++ Sent place id ∷ []) kept q it
      on q endpoints.Opens e h = tt
      on q (endpoints.Offers other it) e h = record {
        given = h.given;
        wants = wanted_more before (Sent place id) q (record { endpoint = other; it = it }) h.wants;
        unsent = unsent q (endpoints.Offers other it) e h.unsent;
        offered = any_more before (Sent place id) (is_offered_in q) h.offered;
        next = next_there q other (λ same. nobody q it (e ∙ ap (λ n. Some (endpoints.Offers n it)) same)) h.next;
        first = h.first;
      }
      on q (endpoints.Sends other it on_) e h = (
        wanted_more before (Sent place id) q (record { endpoint = other; it = it }) h.0,
        unsent q (endpoints.Sends other it on_) e h.1,
      )
      on q (endpoints.Receives other on_) e h = tt
      on q endpoints.Closes e h = tt

  -- ---- one comes to stand last in line
  pub stands_now : (id : ℕ) (endpoint : Endpoint) (it : Datagram) (on : ℕ) → endpoint_at id kept ≡ Some endpoint
      → KeepsSends (before ++ Wants kept.drawn id it ∷ []) (wait_last (endpoints.Sends id it on) (set_endpoint id (stand_last kept.drawn endpoint) kept))
  stands_now id endpoint it on is = record {
    lines = λ other. of other (cases_eq other id);
    distinct = set_distinct id kept.endpoints lined k.distinct;
    numbers = each_changed (λ (entry : ℕ × Endpoint). entry.0 < kept.opened) (is_place id) kept.endpoints lined k.numbers (λ key old l. l);
    entries = last_distinct kept.drawn kept.waiting (endpoints.Sends id it on) undrawn k.entries;
    places =
        each_append (λ (entry : ℕ × Waiting). entry.0 < kept.drawn + 1) kept.waiting ((kept.drawn, endpoints.Sends id it on) ∷ [])
        (each_on (λ (entry : ℕ × Waiting). entry.0 < kept.drawn) (λ (entry : ℕ × Waiting). entry.0 < kept.drawn + 1) (λ entry l. omega (arith, l))
        kept.waiting k.places) (omega arith, tt);
    later = λ request past. (
      wanted_still before note request (ap (λ (b : Bool). if b then Some (record { endpoint = id; it = it }) else None)
          (ne_eqb kept.drawn request (λ same. absurd (omega (arith, same, past))))) ∙ (k.later request (omega (arith, past))).0,
      any_still before note (is_sent_in request) refl ∙ (k.later request (omega (arith, past))).1,
    );
    standing = λ q jt e. by q jt (at q kept.waiting) refl e;
    only = λ p q other jt ht e f. k.only p q other jt ht (offers_then p other jt (at p kept.waiting) refl e) (offers_then q other ht (at q kept.waiting) refl f);
  }
    where
      note : Note
      note = Wants kept.drawn id it

      lined : Endpoint
      lined = stand_last kept.drawn endpoint

      undrawn : at kept.drawn kept.waiting ≡ None
      undrawn = past_none kept.drawn kept.waiting k.places

      wanted_here : wanted_on id (before ++ note ∷ []) ≡ wanted_on id before ++ kept.drawn ∷ []
      wanted_here =
          gathered_last (wanted_by id) before note
          ∙ ap (λ (b : Bool). wanted_on id before ++ (if b then kept.drawn ∷ [] else [])) (eq-eqb id id refl)

      sent_same : (other : ℕ) → sent_on other (before ++ note ∷ []) ≡ sent_on other before
      sent_same other = gathered_still before note (sent_by other) refl

      -- more is wanted
      grown : (other : ℕ) (xs : List ℕ) → IsPartOf xs (wanted_on other before) → IsPartOf xs (wanted_on other (before ++ note ∷ []))
      grown other xs h =
          subst (IsPartOf xs) (sym (gathered_last (wanted_by other) before note)) (more_last xs (wanted_on other before) (wanted_by other note) h)

      of : (other : ℕ) → (other ≡ id) ⊎ (other ≡ id → ⊥)
          → IsPartOf (sent_on other (before ++ note ∷ []) ++ line_of (endpoint_at other (set_endpoint id lined kept))) (wanted_on other (before ++ note ∷ []))
      of other (inl same) =
          subst (λ n. IsPartOf (sent_on n (before ++ note ∷ []) ++ line_of (endpoint_at n (set_endpoint id lined kept))) (wanted_on n (before ++ note ∷ [])))
          (sym same)
          (subst (λ sent. IsPartOf (sent ++ line_of (endpoint_at id (set_endpoint id lined kept))) (wanted_on id (before ++ note ∷ []))) (sym (sent_same id))
          (subst (λ o. IsPartOf (sent_on id before ++ line_of o) (wanted_on id (before ++ note ∷ []))) (sym (set_here id kept.endpoints endpoint lined is))
          (subst (IsPartOf (sent_on id before ++ (endpoint.senders ++ kept.drawn ∷ []))) (sym wanted_here)
          (subst (λ xs. IsPartOf xs (wanted_on id before ++ kept.drawn ∷ [])) (appended (sent_on id before) endpoint.senders (kept.drawn ∷ []))
          (both_last (sent_on id before ++ endpoint.senders) (wanted_on id before) kept.drawn (was_line id endpoint is))))))
      of other (inr apart) =
          subst (λ sent. IsPartOf (sent ++ line_of (endpoint_at other (set_endpoint id lined kept))) (wanted_on other (before ++ note ∷ []))) (sym (sent_same other))
          (subst (λ o. IsPartOf (sent_on other before ++ line_of o) (wanted_on other (before ++ note ∷ [])))
          (sym (set_other other id kept.endpoints lined (λ e. apart (sym e))))
          (grown other (sent_on other before ++ line_of (endpoint_at other kept)) (k.lines other)))

      one_first : (q other : ℕ) → ((one : Endpoint) → endpoint_at other kept ≡ Some one → stands_first q one.senders ≡ true)
          → (other ≡ id) ⊎ (other ≡ id → ⊥) → (one : Endpoint) → endpoint_at other (set_endpoint id lined kept) ≡ Some one
          → stands_first q one.senders ≡ true
      one_first q other was (inl same) one e =
          subst (λ (x : Endpoint). stands_first q x.senders ≡ true)
          (found (sym (set_here id kept.endpoints endpoint lined is) ∙ ap (λ n. endpoint_at n (set_endpoint id lined kept)) (sym same) ∙ e))
          (first_last q kept.drawn endpoint.senders (was endpoint (ap (λ n. endpoint_at n kept) same ∙ is)))
        where
          found : Some lined ≡ Some one → lined ≡ one
          found e = cc
      one_first q other was (inr apart) one e = was one (sym (set_other other id kept.endpoints lined (λ f. apart (sym f))) ∙ e)

      old : (q : ℕ) (jt : Waiting) → StandsBy before kept q jt
          → StandsBy (before ++ note ∷ []) (wait_last (endpoints.Sends id it on) (set_endpoint id lined kept)) q jt
      old q endpoints.Opens h = tt
      old q (endpoints.Offers other jt) h = record {
        given = h.given;
        wants = wanted_more before note q (record { endpoint = other; it = jt }) h.wants;
        unsent = any_still before note (is_sent_in q) refl ∙ h.unsent;
        offered = any_more before note (is_offered_in q) h.offered;
        next = subst (λ sent. IsPartOf (sent ++ q ∷ []) (wanted_on other (before ++ note ∷ []))) (sym (sent_same other))
            (grown other (sent_on other before ++ q ∷ []) h.next);
        first = one_first q other h.first (cases_eq other id);
      }
      old q (endpoints.Sends other jt on_) h = (
        wanted_more before note q (record { endpoint = other; it = jt }) h.0,
        any_still before note (is_sent_in q) refl ∙ h.1,
      )
      old q (endpoints.Receives other on_) h = tt
      old q endpoints.Closes h = tt

      new_wants : wanted_of kept.drawn (before ++ note ∷ []) ≡ Some (record { endpoint = id; it = it })
      new_wants =
          wanted_last kept.drawn before note
          ∙ ap (λ o. first_of o (wanted_in kept.drawn note)) (k.later kept.drawn (omega arith)).0
          ∙ ap (λ (b : Bool). if b then Some (record { endpoint = id; it = it }) else None) (eq-eqb kept.drawn kept.drawn refl)

      one : (q : ℕ) (jt : Waiting) → (kept.drawn ≡ q) ⊎ (kept.drawn ≡ q → ⊥)
          → cond (kept.drawn == q) (Some (endpoints.Sends id it on)) None ≡ Some jt
          → StandsBy (before ++ note ∷ []) (wait_last (endpoints.Sends id it on) (set_endpoint id lined kept)) q jt
      one q jt (inl same) e =
          subst (StandsBy (before ++ note ∷ []) (wait_last (endpoints.Sends id it on) (set_endpoint id lined kept)) q)
          (found (sym (ap (λ b. cond b (Some (endpoints.Sends id it on)) None) (eq-eqb kept.drawn q same)) ∙ e))
          (subst (λ n. (wanted_of n (before ++ note ∷ []) ≡ Some (record { endpoint = id; it = it })) × (was_sent n (before ++ note ∷ []) ≡ false)) same
          (new_wants, any_still before note (is_sent_in kept.drawn) refl ∙ (k.later kept.drawn (omega arith)).1))
        where
          found : Some (endpoints.Sends id it on) ≡ Some jt → endpoints.Sends id it on ≡ jt
          found e = cc
      one q jt (inr apart) e =
          let no : None ≡ Some jt = sym (ap (λ b. cond b (Some (endpoints.Sends id it on)) None) (ne_eqb kept.drawn q apart)) ∙ e in absurd (cc)

      by : (q : ℕ) (jt : Waiting) (o : Option Waiting) → at q kept.waiting ≡ o
          → at q (kept.waiting ++ (kept.drawn, endpoints.Sends id it on) ∷ []) ≡ Some jt
          → StandsBy (before ++ note ∷ []) (wait_last (endpoints.Sends id it on) (set_endpoint id lined kept)) q jt
      by q jt None e f = one q jt (cases_eq kept.drawn q) (sym (last_none q kept.waiting (kept.drawn, endpoints.Sends id it on) e) ∙ f)
      by q jt (Some x) e f = old q jt (k.standing q jt (e ∙ sym (last_some q kept.waiting (kept.drawn, endpoints.Sends id it on) x e) ∙ f))

      offers_one : (p other : ℕ) (jt : Datagram) (b : Bool) → cond b (Some (endpoints.Sends id it on)) None ≡ Some (endpoints.Offers other jt)
          → at p kept.waiting ≡ Some (endpoints.Offers other jt)
      offers_one p other jt true e = absurd (cc)
      offers_one p other jt false e = absurd (cc)

      offers_then : (p other : ℕ) (jt : Datagram) (o : Option Waiting) → at p kept.waiting ≡ o
          → at p (kept.waiting ++ (kept.drawn, endpoints.Sends id it on) ∷ []) ≡ Some (endpoints.Offers other jt)
          → at p kept.waiting ≡ Some (endpoints.Offers other jt)
      offers_then p other jt None e f =
          offers_one p other jt (kept.drawn == p) (sym (last_none p kept.waiting (kept.drawn, endpoints.Sends id it on) e) ∙ f)
      offers_then p other jt (Some x) e f = e ∙ sym (last_some p kept.waiting (kept.drawn, endpoints.Sends id it on) x e) ∙ f

  -- ---- the outside is asked for who stands first
  pub offers_now : (place id : ℕ) (it : Datagram) (on : ℕ) (endpoint : Endpoint) (text : List ℕ) → at place kept.waiting ≡ Some (endpoints.Sends id it on)
      → endpoint_at id kept ≡ Some endpoint → stands_first place endpoint.senders ≡ true
      → KeepsSends (before ++ Offers place text ∷ []) (wait_again place (endpoints.Offers id it) kept)
  offers_now place id it on endpoint text waits is first = record {
    lines = noted.lines;
    distinct = k.distinct;
    numbers = k.numbers;
    entries = set_distinct place kept.waiting (endpoints.Offers id it) k.entries;
    places =
        each_changed (λ (entry : ℕ × Waiting). entry.0 < kept.drawn) (is_place place) kept.waiting (endpoints.Offers id it) k.places (λ key old l. l);
    later = noted.later;
    standing = λ q jt e. by q jt (cases_eq q place) e;
    only = λ p q other jt ht e f. same p q other jt ht (cases_eq p place) (cases_eq q place) e f;
  }
    where
      quiet : IsStill (Offers place text)
      quiet = record { wanted = λ other. refl; sent = λ other. refl; wants = λ request. refl; is_sent = λ request. refl }

      noted : KeepsSends (before ++ Offers place text ∷ []) kept
      noted = noted_still (Offers place text) quiet

      sends : (wanted_of place (before ++ Offers place text ∷ []) ≡ Some (record { endpoint = id; it = it }))
          × (was_sent place (before ++ Offers place text ∷ []) ≡ false)
      sends = noted.standing place (endpoints.Sends id it on) waits

      there : (q : ℕ) (jt : Waiting) → (q ≡ place → ⊥) → at q (set_value (is_place place) kept.waiting (endpoints.Offers id it)) ≡ Some jt
          → at q kept.waiting ≡ Some jt
      there q jt apart e = sym (set_other q place kept.waiting (endpoints.Offers id it) (λ f. apart (sym f))) ∙ e

      here : at place (set_value (is_place place) kept.waiting (endpoints.Offers id it)) ≡ Some (endpoints.Offers id it)
      here = set_here place kept.waiting (endpoints.Sends id it on) (endpoints.Offers id it) waits

      next_one : IsPartOf (sent_on id (before ++ Offers place text ∷ []) ++ place ∷ []) (wanted_on id (before ++ Offers place text ∷ []))
      next_one =
          let h = head_of place endpoint.senders first in
          within (sent_on id (before ++ Offers place text ∷ []) ++ place ∷ []) (sent_on id (before ++ Offers place text ∷ []) ++ endpoint.senders)
          (wanted_on id (before ++ Offers place text ∷ []))
          (fewer (sent_on id (before ++ Offers place text ∷ [])) (place ∷ []) endpoint.senders (subst (IsPartOf (place ∷ [])) (sym h.1) (inl (refl, tt))))
          (subst (λ o. IsPartOf (sent_on id (before ++ Offers place text ∷ []) ++ line_of o) (wanted_on id (before ++ Offers place text ∷ []))) is
          (noted.lines id))

      new : IsOffered (before ++ Offers place text ∷ []) (wait_again place (endpoints.Offers id it) kept) place id it
      new = record {
        given = below_at kept.opened id endpoint kept.endpoints is k.numbers;
        wants = sends.0;
        unsent = sends.1;
        offered =
            any_last (is_offered_in place) before (Offers place text)
            ∙ ap (λ b. is_any (is_offered_in place) before || b) (eq-eqb place place refl) ∙ or_true (is_any (is_offered_in place) before);
        next = next_one;
        first = λ one e. subst (λ (x : Endpoint). stands_first place x.senders ≡ true) (found one (sym is ∙ e)) first;
      }
        where
          found : (one : Endpoint) → Some endpoint ≡ Some one → endpoint ≡ one
          found one e = cc

      still : (q : ℕ) (jt : Waiting) → StandsBy (before ++ Offers place text ∷ []) kept q jt
          → StandsBy (before ++ Offers place text ∷ []) (wait_again place (endpoints.Offers id it) kept) q jt
      still q endpoints.Opens h = tt
      still q (endpoints.Offers other jt) h =
          record { given = h.given; wants = h.wants; unsent = h.unsent; offered = h.offered; next = h.next; first = h.first }
      still q (endpoints.Sends other jt on_) h = h
      still q (endpoints.Receives other on_) h = tt
      still q endpoints.Closes h = tt

      by : (q : ℕ) (jt : Waiting) → (q ≡ place) ⊎ (q ≡ place → ⊥)
          → at q (set_value (is_place place) kept.waiting (endpoints.Offers id it)) ≡ Some jt
          → StandsBy (before ++ Offers place text ∷ []) (wait_again place (endpoints.Offers id it) kept) q jt
      by q jt (inl e) f =
          subst (StandsBy (before ++ Offers place text ∷ []) (wait_again place (endpoints.Offers id it) kept) q)
          (found (sym here ∙ ap (λ n. at n (set_value (is_place place) kept.waiting (endpoints.Offers id it))) (sym e) ∙ f))
          (subst (λ n. StandsBy (before ++ Offers place text ∷ []) (wait_again place (endpoints.Offers id it) kept) n (endpoints.Offers id it)) (sym e) new)
        where
          found : Some (endpoints.Offers id it) ≡ Some jt → endpoints.Offers id it ≡ jt
          found e = cc
      by q jt (inr apart) f = still q jt (noted.standing q jt (there q jt apart f))

      -- who asks of this endpoint stands first, so it is this one
      is_place_of : (q : ℕ) (jt : Datagram) → at q kept.waiting ≡ Some (endpoints.Offers id jt) → q ≡ place
      is_place_of q jt e = same_head q place endpoint.senders ((k.standing q (endpoints.Offers id jt) e).first endpoint is) first

      of_here : (p other : ℕ) (jt : Datagram) → p ≡ place → at p (set_value (is_place place) kept.waiting (endpoints.Offers id it)) ≡ Some (endpoints.Offers other jt)
          → id ≡ other
      of_here p other jt e f =
          found (sym here ∙ ap (λ n. at n (set_value (is_place place) kept.waiting (endpoints.Offers id it))) (sym e) ∙ f)
        where
          found : Some (endpoints.Offers id it) ≡ Some (endpoints.Offers other jt) → id ≡ other
          found e = cc

      same : (p q other : ℕ) (jt ht : Datagram) → (p ≡ place) ⊎ (p ≡ place → ⊥) → (q ≡ place) ⊎ (q ≡ place → ⊥)
          → at p (set_value (is_place place) kept.waiting (endpoints.Offers id it)) ≡ Some (endpoints.Offers other jt)
          → at q (set_value (is_place place) kept.waiting (endpoints.Offers id it)) ≡ Some (endpoints.Offers other ht) → p ≡ q
      same p q other jt ht (inl e) (inl f) g h = e ∙ sym f
      same p q other jt ht (inl e) (inr f) g h =
          absurd (f (is_place_of q ht (there q (endpoints.Offers other ht) f h ∙ ap (λ n. Some (endpoints.Offers n ht)) (sym (of_here p other jt e g)))))
      same p q other jt ht (inr e) (inl f) g h =
          absurd (e (is_place_of p jt (there p (endpoints.Offers other jt) e g ∙ ap (λ n. Some (endpoints.Offers n jt)) (sym (of_here q other ht f h)))))
      same p q other jt ht (inr e) (inr f) g h =
          k.only p q other jt ht (there p (endpoints.Offers other jt) e g) (there q (endpoints.Offers other ht) f h)

  -- ---- one waits again, that was asked for or not
  pub waits_in_line : (place id : ℕ) (it : Datagram) (on : ℕ) (old : Waiting) → at place kept.waiting ≡ Some old
      → wanted_of place before ≡ Some (record { endpoint = id; it = it }) → was_sent place before ≡ false
      → KeepsSends before (wait_again place (endpoints.Sends id it on) kept)
  waits_in_line place id it on old is wants unsent = record {
    lines = k.lines;
    distinct = k.distinct;
    numbers = k.numbers;
    entries = set_distinct place kept.waiting (endpoints.Sends id it on) k.entries;
    places =
        each_changed (λ (entry : ℕ × Waiting). entry.0 < kept.drawn) (is_place place) kept.waiting (endpoints.Sends id it on) k.places (λ key old_ l. l);
    later = k.later;
    standing = λ q jt e. by q jt (cases_eq q place) e;
    only = λ p q other jt ht e f. k.only p q other jt ht (was p other jt (cases_eq p place) e) (was q other ht (cases_eq q place) f);
  }
    where
      here : at place (set_value (is_place place) kept.waiting (endpoints.Sends id it on)) ≡ Some (endpoints.Sends id it on)
      here = set_here place kept.waiting old (endpoints.Sends id it on) is

      still : (q : ℕ) (jt : Waiting) → StandsBy before kept q jt → StandsBy before (wait_again place (endpoints.Sends id it on) kept) q jt
      still q endpoints.Opens h = tt
      still q (endpoints.Offers other jt) h =
          record { given = h.given; wants = h.wants; unsent = h.unsent; offered = h.offered; next = h.next; first = h.first }
      still q (endpoints.Sends other jt on_) h = h
      still q (endpoints.Receives other on_) h = tt
      still q endpoints.Closes h = tt

      by : (q : ℕ) (jt : Waiting) → (q ≡ place) ⊎ (q ≡ place → ⊥) → at q (set_value (is_place place) kept.waiting (endpoints.Sends id it on)) ≡ Some jt
          → StandsBy before (wait_again place (endpoints.Sends id it on) kept) q jt
      by q jt (inl e) f =
          subst (StandsBy before (wait_again place (endpoints.Sends id it on) kept) q)
          (found (sym here ∙ ap (λ n. at n (set_value (is_place place) kept.waiting (endpoints.Sends id it on))) (sym e) ∙ f))
          (subst (λ n. (wanted_of n before ≡ Some (record { endpoint = id; it = it })) × (was_sent n before ≡ false)) (sym e) (wants, unsent))
        where
          found : Some (endpoints.Sends id it on) ≡ Some jt → endpoints.Sends id it on ≡ jt
          found e = cc
      by q jt (inr apart) f = still q jt (k.standing q jt (sym (set_other q place kept.waiting (endpoints.Sends id it on) (λ g. apart (sym g))) ∙ f))

      was : (p other : ℕ) (jt : Datagram) → (p ≡ place) ⊎ (p ≡ place → ⊥)
          → at p (set_value (is_place place) kept.waiting (endpoints.Sends id it on)) ≡ Some (endpoints.Offers other jt)
          → at p kept.waiting ≡ Some (endpoints.Offers other jt)
      was p other jt (inl e) f =
          let no : Some (endpoints.Sends id it on) ≡ Some (endpoints.Offers other jt) =
          sym here ∙ ap (λ n. at n (set_value (is_place place) kept.waiting (endpoints.Sends id it on))) (sym e) ∙ f in
          absurd (cc)
      was p other jt (inr apart) f = sym (set_other p place kept.waiting (endpoints.Sends id it on) (λ g. apart (sym g))) ∙ f

pub nothing_sent : KeepsSends [] none_opened
nothing_sent = record {
  lines = λ id. tt;
  distinct = tt;
  numbers = tt;
  entries = tt;
  places = tt;
  later = λ request past. (refl, refl);
  standing = λ place it e. let no : None ≡ Some it = e in absurd (cc);
  only = λ p q id it jt e f. let no : None ≡ Some (endpoints.Offers id it) = e in absurd (cc);
}
