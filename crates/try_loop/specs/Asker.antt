-- What is added: `extra(5, list)` asks the outside and hands on what it hears, `extra(6, list)` asks back what it heard, once, and
-- `extra(7, list)` five times; `extra(8, list)` is answered by the list.
use Rattle.std.specs.Prelude.{◌≡◌, ℕ, zero, suc, ◌<◌, ◌≤◌, ℤ, pos, true, false, ◌&&◌, List, [], ◌∷◌, ◌++◌, Option, Some, None, codes, length, nat_lt, slice_get, slice_set}
use Rattle.std.specs.Prelude.{refl, if◌then◌else◌}
use Rattle.std.specs.List.{list_all}
use Rattle.std.specs.Option.{option_map_or}
use Rattle.std.specs.Ordering.{int_eq}
use Rattle.std.proofs.Common.{sym, ap, subst, arith, length-append, length-set, ◌∙◌}
use Rattle.std.proofs.lemmas.Bool.{le-ltb, lt-ltb, ltb-true}
use Rattle.std.proofs.lemmas.Option.{none-some}
use Rattle.model_value.specs.Input.{Input}
use Rattle.model_value.specs.Value.{Value, Bytes, Items, Nothing as no_value, values}
use Rattle.model_value.specs.declared.input.Input.TheVariants.{Send, Throw}
use Rattle.model_machine.specs.Extra.{Extra, ExtraAnswer, Answers, Raises, Asks, ExtraSaid, Keeping, WakesFall, key_of, unknown_code}
use Rattle.model_machine.specs.Sound.{Ids, all_made, ids_of, names_made}
use Rattle.model_machine.specs.State.{State}
use Rattle.law_cancel.proofs.Lookups.{get-set_same}
use Rattle.law_runs.specs.Allowed.{IsAnswerAllowed, IsCallAllowed, IsSaidAllowed, MakesAllowedSteps}
use Rattle.aio_extra.specs.Added.{Added}
use Rattle.aio_extra.specs.declared.asked.Asked.{Asked}
use Rattle.aio_extra.specs.declared.asked.Asked.TheVariants.{Answer, Raise, Outside}
use Rattle.try_loop.specs.declared.asker.Asker.{Asker}
use Rattle.try_loop.specs.declared.asker.Question.{Question}
use Rattle.try_loop.specs.declared.asker.Question.TheVariants.{Once, Twice, Often, Echo, Nothing}

abbrev pub question_by : ℤ → Question
question_by code =
    if int_eq code (pos 5) then Once
    else (if int_eq code (pos 6) then Twice else (if int_eq code (pos 7) then Often else (if int_eq code (pos 8) then Echo else Nothing)))

-- ---- what its calls mean
-- The machine keeps how often each request asks again. Its key is its place.
abbrev pub Left : Type 0
Left = List ℕ

abbrev pub left_at : Left → (key : ℕ) → ℕ
left_at kept key = option_map_or (λ (left : ℕ). left) (slice_get kept key) 0

abbrev pub only_says : ExtraAnswer → Left → ExtraSaid Left
only_says answer kept = record { call = record { state = kept; steps = [] }; answer = answer }

-- a new request, under the next key
abbrev pub asks_first : (more : ℕ) → ℤ → Left → ExtraSaid Left
asks_first more code kept = only_says (Asks code (codes "q") (length kept)) (kept ++ more ∷ [])

abbrev pub asked_for : Question → ℤ → List Value → Left → ExtraSaid Left
asked_for Once code arguments kept = asks_first 0 code kept
asked_for Twice code arguments kept = asks_first 1 code kept
asked_for Often code arguments kept = asks_first 5 code kept
asked_for Echo code arguments kept = only_says (Answers (Items (values arguments))) kept
asked_for Nothing code arguments kept = only_says (Raises (unknown_code code)) kept

-- It asks again under its own key.
abbrev pub bytes_by : (left key : ℕ) → List ℕ → Left → ExtraSaid Left
bytes_by zero key bytes kept = only_says (Answers (Bytes bytes)) kept
bytes_by (suc more) key bytes kept = only_says (Asks (pos 6) bytes key) (slice_set kept key more)

abbrev pub heard_by : (key : ℕ) → Value → Left → ExtraSaid Left
heard_by key (Bytes bytes) kept = bytes_by (left_at kept key) key bytes kept
heard_by key _ kept = only_says (Answers no_value) kept

abbrev pub woken_by : (key : ℕ) → Input → Left → ExtraSaid Left
woken_by key (Send value) kept = heard_by key value kept
woken_by key (Throw fault) kept = only_says (Raises fault) kept

abbrev pub left_keeps : Left → Keeping
left_keeps kept = record { tasks = []; futures = []; own = []; tags = []; values = []; has_key = λ key. nat_lt key (length kept) }

abbrev pub asker_means : Extra Left
asker_means =
    record {
      ask = λ task code arguments s. asked_for (question_by code) code arguments s.extra;
      wake = λ key input s. woken_by key input s.extra;
      wakes_left = λ key kept. left_at kept key;
      act = λ key s. record { state = s.extra; steps = [] };
      item = λ code bytes s. record { state = s.extra; steps = [] };
      watches = λ kept. false;
      keeps = left_keeps;
    }

-- ---- its answers are allowed
-- it makes no steps, and keeps no fewer requests
grown_allowed : (woken : Option ℕ) (s : State Left) (kept : Left) → length s.extra ≤ length kept
    → IsCallAllowed asker_means woken (record { state = kept; steps = [] }) s
grown_allowed woken s kept more = record {
  steps = tt;
  kept = record { tasks = tt; awaitable = tt; own = tt; apart = tt; tags = tt; values = refl };
  own = tt;
  tags = tt;
  keys = λ key other known. let w = ltb-true key (length s.extra) known in lt-ltb key (length kept) (omega (arith, w, more));
}

says_allowed : (woken : Option ℕ) (answer : ExtraAnswer) (s : State Left) → IsAnswerAllowed answer s → key_of answer ≡ None
    → IsSaidAllowed asker_means woken (only_says answer s.extra) s
says_allowed woken answer s ok none =
    record { call = grown_allowed woken s s.extra (omega arith); answer = ok; key = λ key e. absurd (none-some key (sym none ∙ e)) }

first_allowed : (more : ℕ) (code : ℤ) (s : State Left) → IsSaidAllowed asker_means None (asks_first more code s.extra) s
first_allowed more code s =
    let n = length-append s.extra (more ∷ []) in
    record {
      call = grown_allowed None s (s.extra ++ more ∷ []) (omega (arith, n));
      answer = tt;
      key = λ key e.
          let same : length s.extra ≡ key = ap (λ o. option_map_or (λ (k : ℕ). k) o key) e in (
            le-ltb key (length s.extra) (omega (arith, same)),
            lt-ltb key (length (s.extra ++ more ∷ [])) (omega (arith, same, n)),
          );
    }

-- the items of a list were made where the list was
listed_made : (ids : Ids) (items : List Value) → all_made ids (values items) ≡ list_all (names_made ids) items
listed_made ids [] = refl
listed_made ids (value ∷ items) = ap (λ b. names_made ids value && b) (listed_made ids items)

asked_allowed : (question : Question) (code : ℤ) (arguments : List Value) (s : State Left)
    → list_all (names_made (ids_of s)) arguments ≡ true
    → IsSaidAllowed asker_means None (asked_for question code arguments s.extra) s
asked_allowed Once code arguments s made = first_allowed 0 code s
asked_allowed Twice code arguments s made = first_allowed 1 code s
asked_allowed Often code arguments s made = first_allowed 5 code s
asked_allowed Echo code arguments s made =
    says_allowed None (Answers (Items (values arguments))) s (listed_made (ids_of s) arguments ∙ made) refl
asked_allowed Nothing code arguments s made = says_allowed None (Raises (unknown_code code)) s tt refl

module _ (key : ℕ) (s : State Left) (known : nat_lt key (length s.extra) ≡ true) where
  bytes_allowed : (left : ℕ) (bytes : List ℕ) → IsSaidAllowed asker_means (Some key) (bytes_by left key bytes s.extra) s
  bytes_allowed zero bytes = says_allowed (Some key) (Answers (Bytes bytes)) s refl refl
  bytes_allowed (suc more) bytes =
      let n = length-set s.extra key more in
      record {
        call = grown_allowed (Some key) s (slice_set s.extra key more) (omega (arith, n));
        answer = tt;
        key = λ next e.
            let same : key ≡ next = ap (λ o. option_map_or (λ (k : ℕ). k) o next) e in
            let w = ltb-true key (length s.extra) known in
            (sym same, lt-ltb next (length (slice_set s.extra key more)) (omega (arith, same, w, n)));
      }

  heard_allowed : (value : Value) → IsSaidAllowed asker_means (Some key) (heard_by key value s.extra) s
  heard_allowed (Bytes bytes) = bytes_allowed (left_at s.extra key) bytes
  heard_allowed _ = says_allowed (Some key) (Answers no_value) s refl refl

  woken_allowed : (input : Input) → IsSaidAllowed asker_means (Some key) (woken_by key input s.extra) s
  woken_allowed (Send value) = heard_allowed value
  woken_allowed (Throw fault) = says_allowed (Some key) (Raises fault) s tt refl

pub asker_allowed : MakesAllowedSteps asker_means
asker_allowed = record {
  ask = λ task code arguments s may made. asked_allowed (question_by code) code arguments s made;
  wake = λ task key input s may known made. woken_allowed key s known input;
  act = λ key s may. grown_allowed None s s.extra (omega arith);
  item = λ code bytes s may. grown_allowed None s s.extra (omega arith);
}

-- ---- it asks again fewer times each time
abbrev IsBelow : (left : ℕ) → ExtraSaid Left → Option ℕ → Type 0
IsBelow left said None = Unit {0}
IsBelow left said (Some next) = left_at said.call.state next < left

bytes_below : (o : Option ℕ) (key : ℕ) (bytes : List ℕ) (kept : Left) → slice_get kept key ≡ o
    → let left = option_map_or (λ (n : ℕ). n) o 0 in IsBelow left (bytes_by left key bytes kept) (key_of (bytes_by left key bytes kept).answer)
bytes_below None key bytes kept e = tt
bytes_below (Some zero) key bytes kept e = tt
bytes_below (Some (suc more)) key bytes kept e =
    let now = ap (λ o. option_map_or (λ (n : ℕ). n) o 0) (get-set_same kept key (suc more) more e) in omega (arith, now)

heard_below : (key : ℕ) (value : Value) (kept : Left)
    → IsBelow (left_at kept key) (heard_by key value kept) (key_of (heard_by key value kept).answer)
heard_below key (Bytes bytes) kept = bytes_below (slice_get kept key) key bytes kept refl
heard_below key _ kept = tt

woken_below : (key : ℕ) (input : Input) (kept : Left)
    → IsBelow (left_at kept key) (woken_by key input kept) (key_of (woken_by key input kept).answer)
woken_below key (Send value) kept = heard_below key value kept
woken_below key (Throw fault) kept = tt

pub asker_falls : WakesFall asker_means
asker_falls = λ key input s next e once.
    subst (IsBelow (left_at s.extra key) (woken_by key input s.extra)) e (woken_below key input s.extra)

abbrev pub asker : Added Asker
asker =
    record {
      Kept = Left;
      meaning = asker_means;
      stands = λ t p x kept. x.left.items ≡ kept;
      goes_on = λ t u p q x kept stands beside. stands;
      allowed = asker_allowed;
      falls = asker_falls;
    }

-- ---- an answer in code is one of these
abbrev pub Says : Asked → ExtraAnswer → Type 0
Says (Answer value) (Answers said) = value ≡ said
Says (Raise fault) (Raises said) = fault ≡ said
Says (Outside code bytes key) (Asks number piece kept) = (code ≡ number) × (bytes ≡ piece) × (key ≡ kept)
Says _ _ = ⊥

-- and what is kept is what was said
pub record SaysIt (asked : Asked) (items : Left) (said : ExtraSaid Left) : Type 0 where
  pub answer : Says asked said.answer
  pub left : items ≡ said.call.state
