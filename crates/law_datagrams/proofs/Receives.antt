-- What receives gave, and then what is held, is part of what came.
use Rattle.std.proofs.Common.{◌≡◌, ℕ, ◌+◌, ◌<◌, ◌⊎◌, inl, inr, Bool, true, false, cond, List, [], ◌∷◌, ◌++◌, Option, Some, None, length, map}
use Rattle.std.proofs.Common.{refl, sym, ap, subst, ◌∙◌, arith}
use Rattle.std.specs.Prelude.{◌==◌, nat_lt, if◌then◌else◌}
use Rattle.std.specs.List.{AllByRecursion as Each}
use Rattle.std.specs.Map.{remove_entry}
use Rattle.std.proofs.lemmas.Bool.{cases_eq, eq-eqb, ne_eqb}
use Rattle.model_value.specs.Value.{Value}
use Rattle.model_sync.specs.Synced.{is_place}
use Rattle.model_dgram.specs.Texts.{Datagram}
use Rattle.model_dgram.specs.Endpoints.{Endpoint, Endpoints, endpoint_at, fresh}
use Rattle.model_dgram.specs.Endpoints.{set_endpoint}
use Rattle.model_dgram.specs.Receiving.{came, hold, told_as}
use Rattle.law_sync.proofs.Lists.{each_append, each_on, each_removed}
use Rattle.law_jobs.proofs.Entries.{Distinct, at, last_distinct, last_none, last_some, removed_distinct, removed_here, removed_other, set_distinct, set_here, set_other}
use Rattle.law_dgram.proofs.Tidying.{each_changed}
use Rattle.law_datagrams.specs.Notes.{Comes, Gives, Note, IsPartOf, come_by, come_on, gathered, given_by, given_on, held_of}
use Rattle.law_datagrams.proofs.Noting.{gathered_last}
use Rattle.law_datagrams.proofs.Parts.{appended, both_last, front, more_last, no_more, within}

-- of an endpoint, what receives gave and what is held, is part of what came
abbrev AreReceived : (given came : List Value) → Option Endpoint → Type 0
AreReceived given came o = IsPartOf (given ++ map told_as (held_of o)) came

pub record KeepsReceives (before : List Note) (kept : Endpoints) : Type 0 where
  pub receives : (id : ℕ) → AreReceived (given_on id before) (come_on id before) (endpoint_at id kept)
  pub distinct : Distinct kept.endpoints
  pub numbers : Each (λ (entry : ℕ × Endpoint). entry.0 < kept.opened) kept.endpoints

-- ---- numbers that weren't given
past_none : (n : ℕ) (es : List (ℕ × Endpoint)) → Each (λ (entry : ℕ × Endpoint). entry.0 < n) es → at n es ≡ None
past_none n [] below = refl
past_none n (e ∷ es) below =
    ap (λ b. cond b (Some e.1) (at n es)) (ne_eqb e.0 n (λ same. let l = below.0 in absurd (omega (arith, same, l)))) ∙ past_none n es below.1

-- ---- quiet notes: none gives, and none tells of what comes
abbrev pub IsQuiet : Note → Type 0
IsQuiet note = (id : ℕ) → (given_by id note ≡ []) × (come_by id note ≡ [])

module _ (before : List Note) (kept : Endpoints) (k : KeepsReceives before kept) where
  -- what is kept of endpoints is the same
  pub kept_same : (now : Endpoints) → now.endpoints ≡ kept.endpoints → now.opened ≡ kept.opened → KeepsReceives before now
  kept_same now es n = record {
    receives = λ id. subst (λ xs. AreReceived (given_on id before) (come_on id before) (at id xs)) (sym es) (k.receives id);
    distinct = subst Distinct (sym es) k.distinct;
    numbers = subst (λ m. Each (λ (entry : ℕ × Endpoint). entry.0 < m) now.endpoints) (sym n)
        (subst (Each (λ (entry : ℕ × Endpoint). entry.0 < kept.opened)) (sym es) k.numbers);
  }

  quiet_same : {A : Type 0} (of : Note → List A) (note : Note) → of note ≡ [] → gathered of (before ++ note ∷ []) ≡ gathered of before
  quiet_same of note e = gathered_last of before note ∙ ap (λ xs. gathered of before ++ xs) e ∙ no_more (gathered of before)

  pub noted_quietly : (note : Note) → IsQuiet note → KeepsReceives (before ++ note ∷ []) kept
  noted_quietly note quiet = record {
    receives = λ id.
        subst (λ given. AreReceived given (come_on id (before ++ note ∷ [])) (endpoint_at id kept)) (sym (quiet_same (given_by id) note (quiet id).0))
        (subst (λ come. AreReceived (given_on id before) come (endpoint_at id kept)) (sym (quiet_same (come_by id) note (quiet id).1)) (k.receives id));
    distinct = k.distinct;
    numbers = k.numbers;
  }

  -- ---- one endpoint changes
  module _ (id : ℕ) (endpoint : Endpoint) (is : endpoint_at id kept ≡ Some endpoint) where
    set_all : (new : Endpoint) (notes : List Note) → AreReceived (given_on id notes) (come_on id notes) (Some new)
        → ((other : ℕ) → (other ≡ id → ⊥) → (given_on other notes ≡ given_on other before) × (come_on other notes ≡ come_on other before))
        → KeepsReceives notes (set_endpoint id new kept)
    set_all new notes here others = record {
      receives = λ other. of other (cases_eq other id);
      distinct = set_distinct id kept.endpoints new k.distinct;
      numbers = each_changed (λ (entry : ℕ × Endpoint). entry.0 < kept.opened) (is_place id) kept.endpoints new k.numbers (λ key old l. l);
    }
      where
        of : (other : ℕ) → (other ≡ id) ⊎ (other ≡ id → ⊥) → AreReceived (given_on other notes) (come_on other notes) (endpoint_at other (set_endpoint id new kept))
        of other (inl same) =
            subst (λ n. AreReceived (given_on n notes) (come_on n notes) (endpoint_at n (set_endpoint id new kept))) (sym same)
            (subst (AreReceived (given_on id notes) (come_on id notes)) (sym (set_here id kept.endpoints endpoint new is)) here)
        of other (inr apart) =
            subst (AreReceived (given_on other notes) (come_on other notes)) (sym (set_other other id kept.endpoints new (λ e. apart (sym e))))
            (subst (λ g. AreReceived g (come_on other notes) (endpoint_at other kept)) (sym (others other apart).0)
            (subst (λ c. AreReceived (given_on other before) c (endpoint_at other kept)) (sym (others other apart).1) (k.receives other)))

    was : AreReceived (given_on id before) (come_on id before) (Some endpoint)
    was = subst (AreReceived (given_on id before) (come_on id before)) is (k.receives id)

    -- it holds the same
    pub set_quiet : (new : Endpoint) → new.held ≡ endpoint.held → KeepsReceives before (set_endpoint id new kept)
    set_quiet new same =
        set_all new before (subst (λ (held : List Datagram). IsPartOf (given_on id before ++ map told_as held) (come_on id before)) (sym same) was)
        (λ other apart. (refl, refl))

    -- the first is given
    given_here : (value : Value) → given_on id (before ++ Gives id value ∷ []) ≡ given_on id before ++ value ∷ []
    given_here value =
        gathered_last (given_by id) before (Gives id value)
        ∙ ap (λ (b : Bool). given_on id before ++ (if b then value ∷ [] else [])) (eq-eqb id id refl)

    given_there : (value : Value) (other : ℕ) → (other ≡ id → ⊥) → given_on other (before ++ Gives id value ∷ []) ≡ given_on other before
    given_there value other apart =
        quiet_same (given_by other) (Gives id value) (ap (λ (b : Bool). if b then value ∷ [] else []) (ne_eqb id other (λ e. apart (sym e))))

    pub gave : (new : Endpoint) (first : Datagram) (others : List Datagram) → endpoint.held ≡ first ∷ others → new.held ≡ others
        → KeepsReceives (before ++ Gives id (told_as first) ∷ []) (set_endpoint id new kept)
    gave new first others held left =
        set_all new (before ++ Gives id (told_as first) ∷ [])
        (subst (λ given. IsPartOf (given ++ map told_as new.held) (come_on id (before ++ Gives id (told_as first) ∷ []))) (sym (given_here (told_as first)))
        (subst (λ come. IsPartOf ((given_on id before ++ told_as first ∷ []) ++ map told_as new.held) come)
        (sym (quiet_same (come_by id) (Gives id (told_as first)) refl))
        (subst (λ (h : List Datagram). IsPartOf ((given_on id before ++ told_as first ∷ []) ++ map told_as h) (come_on id before)) (sym left)
        (subst (λ xs. IsPartOf xs (come_on id before)) (sym (appended (given_on id before) (told_as first ∷ []) (map told_as others)))
        (subst (λ (h : List Datagram). IsPartOf (given_on id before ++ map told_as h) (come_on id before)) held was)))))
        (λ other apart. (given_there (told_as first) other apart, quiet_same (come_by other) (Gives id (told_as first)) refl))

    -- one more is held, or dropped
    come_here : (it : Datagram) → come_on id (before ++ Comes id it ∷ []) ≡ come_on id before ++ told_as it ∷ []
    come_here it =
        gathered_last (come_by id) before (Comes id it)
        ∙ ap (λ (b : Bool). come_on id before ++ (if b then told_as it ∷ [] else [])) (eq-eqb id id refl)

    come_there : (it : Datagram) (other : ℕ) → (other ≡ id → ⊥) → come_on other (before ++ Comes id it ∷ []) ≡ come_on other before
    come_there it other apart =
        quiet_same (come_by other) (Comes id it) (ap (λ (b : Bool). if b then told_as it ∷ [] else []) (ne_eqb id other (λ e. apart (sym e))))

    held_last : (given come : List Value) (held : List Datagram) (it : Datagram) (b : Bool) → IsPartOf (given ++ map told_as held) come
        → IsPartOf (given ++ map told_as (if b then held ++ it ∷ [] else held)) (come ++ told_as it ∷ [])
    held_last given come held it false h = more_last (given ++ map told_as held) come (told_as it ∷ []) h
    held_last given come held it true h =
        subst (λ xs. IsPartOf xs (come ++ told_as it ∷ []))
        (appended given (map told_as held) (told_as it ∷ []) ∙ ap (λ xs. given ++ xs) (sym (mapped held)))
        (both_last (given ++ map told_as held) come (told_as it) h)
      where
        mapped : (held : List Datagram) → map told_as (held ++ it ∷ []) ≡ map told_as held ++ told_as it ∷ []
        mapped [] = refl
        mapped (x ∷ held) = ap (λ xs. told_as x ∷ xs) (mapped held)

    pub held_one : (it : Datagram) → KeepsReceives (before ++ Comes id it ∷ []) (set_endpoint id (record endpoint { held = hold it endpoint.held }) kept)
    held_one it =
        set_all (record endpoint { held = hold it endpoint.held }) (before ++ Comes id it ∷ [])
        (subst (λ given. IsPartOf (given ++ map told_as (hold it endpoint.held)) (come_on id (before ++ Comes id it ∷ [])))
        (sym (quiet_same (given_by id) (Comes id it) refl))
        (subst (λ come. IsPartOf (given_on id before ++ map told_as (hold it endpoint.held)) come) (sym (come_here it))
        (held_last (given_on id before) (come_on id before) endpoint.held it (nat_lt (length endpoint.held) 1024) was)))
        (λ other apart. (quiet_same (given_by other) (Comes id it) refl, come_there it other apart))

  -- ---- news of what isn't open
  pub passed_over : (id : ℕ) (it : Datagram) → KeepsReceives (before ++ Comes id it ∷ []) kept
  passed_over id it = record {
    receives = λ other.
        subst (λ given. AreReceived given (come_on other (before ++ Comes id it ∷ [])) (endpoint_at other kept))
        (sym (quiet_same (given_by other) (Comes id it) refl))
        (subst (λ come. AreReceived (given_on other before) come (endpoint_at other kept)) (sym (gathered_last (come_by other) before (Comes id it)))
        (more_last (given_on other before ++ map told_as (held_of (endpoint_at other kept))) (come_on other before) (come_by other (Comes id it)) (k.receives other)));
    distinct = k.distinct;
    numbers = k.numbers;
  }

  -- ---- one is opened
  pub opened_one : KeepsReceives before (record kept { opened = kept.opened + 1; endpoints = kept.endpoints ++ (kept.opened, fresh) ∷ [] })
  opened_one = record {
    receives = λ id. of id (endpoint_at id kept) refl;
    distinct = last_distinct kept.opened kept.endpoints fresh (past_none kept.opened kept.endpoints k.numbers) k.distinct;
    numbers =
        each_append (λ (entry : ℕ × Endpoint). entry.0 < kept.opened + 1) kept.endpoints ((kept.opened, fresh) ∷ [])
        (each_on (λ (entry : ℕ × Endpoint). entry.0 < kept.opened) (λ (entry : ℕ × Endpoint). entry.0 < kept.opened + 1) (λ entry l. omega (arith, l))
        kept.endpoints k.numbers) (omega arith, tt);
  }
    where
      new_or_none : (id : ℕ) (b : Bool) → AreReceived (given_on id before) (come_on id before) None
          → AreReceived (given_on id before) (come_on id before) (cond b (Some fresh) None)
      new_or_none id true h = h
      new_or_none id false h = h

      of : (id : ℕ) (o : Option Endpoint) → endpoint_at id kept ≡ o
          → AreReceived (given_on id before) (come_on id before) (at id (kept.endpoints ++ (kept.opened, fresh) ∷ []))
      of id None e =
          subst (AreReceived (given_on id before) (come_on id before)) (sym (last_none id kept.endpoints (kept.opened, fresh) e))
          (new_or_none id (kept.opened == id) (subst (AreReceived (given_on id before) (come_on id before)) e (k.receives id)))
      of id (Some endpoint) e =
          subst (AreReceived (given_on id before) (come_on id before)) (e ∙ sym (last_some id kept.endpoints (kept.opened, fresh) endpoint e)) (k.receives id)

  -- ---- one is closed
  pub closed_one : (id : ℕ) → KeepsReceives before (record kept { endpoints = remove_entry (is_place id) kept.endpoints })
  closed_one id = record {
    receives = λ other. of other (cases_eq other id);
    distinct = removed_distinct id kept.endpoints k.distinct;
    numbers = each_removed (λ (entry : ℕ × Endpoint). entry.0 < kept.opened) (is_place id) kept.endpoints k.numbers;
  }
    where
      nothing_held : (other : ℕ) → AreReceived (given_on other before) (come_on other before) None
      nothing_held other =
          subst (λ xs. IsPartOf xs (come_on other before)) (sym (no_more (given_on other before)))
          (within (given_on other before) (given_on other before ++ map told_as (held_of (endpoint_at other kept))) (come_on other before)
          (front (given_on other before) (map told_as (held_of (endpoint_at other kept)))) (k.receives other))

      of : (other : ℕ) → (other ≡ id) ⊎ (other ≡ id → ⊥)
          → AreReceived (given_on other before) (come_on other before) (at other (remove_entry (is_place id) kept.endpoints))
      of other (inl same) =
          subst (AreReceived (given_on other before) (come_on other before))
          (sym (ap (λ n. at n (remove_entry (is_place id) kept.endpoints)) same ∙ removed_here id kept.endpoints k.distinct)) (nothing_held other)
      of other (inr apart) =
          subst (AreReceived (given_on other before) (come_on other before)) (sym (removed_other other id kept.endpoints (λ e. apart (sym e)))) (k.receives other)
