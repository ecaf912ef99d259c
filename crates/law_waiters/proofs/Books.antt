-- What the ledger books in the name of a key of what is added, of each change.
use Rattle.std.proofs.Common.{◌≡◌, ◌+◌, ◌==◌, ℕ, Bool, false, cond, List, [], ◌∷◌, ◌++◌, map, nat_lt, refl, sym, ap, ◌∙◌, arith}
use Rattle.std.specs.List.{AllByRecursion as Each, count_by}
use Rattle.std.proofs.lemmas.Bool.{eq-eqb, false≢true}
use Rattle.std.proofs.lemmas.List.Sums.{sum_by-append, sum_by-cons}
use Rattle.model_loop.specs.Balance.{asks, takes}
use Rattle.model_loop.specs.Cancel.{cancel}
use Rattle.model_loop.specs.Ledger.{Asked, Began, ByExtra, LedgerEntry, Origin, Raised, Took, raised_among}
use Rattle.model_loop.specs.Loop.{Loop, take_one_back}
use Rattle.model_loop.specs.Tasks.{cancelling}
use Rattle.model_machine.specs.Extra.{ExtraStep, MakesPlain, MakesMany, Settles, Releases, Registers, CallsSoon, CallsLater}
use Rattle.model_machine.specs.Extra.{Revokes, Cancels, Uncancels, made_by}
use Rattle.model_machine.specs.Extra.{made_by_all}
use Rattle.law_changes.proofs.Folds.{fold}
use Rattle.law_changes.specs.Changes.{LoopChange, OfParts, MakesTimeout, ChangesTimeout, MakesGroup, ChangesGroup}
use Rattle.law_changes.specs.Changes.{AsksCancel, TakesBack, BeginsExit, made_of_loop}
use Rattle.law_changes.specs.Reaches.{Reaches}
use Rattle.law_kept.specs.Walks.{MayInLoop, is_by_extra}
use Rattle.law_waiters.specs.Timed.{is_by_key}

-- a test that passes no entry but of what is added
pub record IsOfExtras (test : LedgerEntry → Bool) : Type 0 where
  pub asked : (by : Origin) → is_by_extra by ≡ false → test (Asked by) ≡ false
  pub raised : (task : ℕ) (by : Origin) → test (Raised task by) ≡ false
  pub took : (task : ℕ) (by : Origin) (lowered : Bool) → is_by_extra by ≡ false → test (Took task by lowered) ≡ false
  pub began : (group : ℕ) → test (Began group) ≡ false

not_key : (key : ℕ) (by : Origin) → is_by_extra by ≡ false → is_by_key key by ≡ false
not_key key (ByExtra other) e = absurd (false≢true (sym e))
not_key key _ e = refl

pub asks_of : (key : ℕ) → IsOfExtras (asks (is_by_key key))
asks_of key = record { asked = not_key key; raised = λ task by. refl; took = λ task by lowered e. refl; began = λ group. refl }

pub takes_of : (key : ℕ) → IsOfExtras (takes (is_by_key key))
takes_of key = record { asked = λ by e. refl; raised = λ task by. refl; took = λ task by lowered e. not_key key by e; began = λ group. refl }

module _ (test : LedgerEntry → Bool) where
  abbrev one_of : Bool → ℕ
  one_of b = cond b 1 0

  more_entries : (ledger more : List LedgerEntry) → count_by test (ledger ++ more) ≡ count_by test ledger + count_by test more
  more_entries ledger more = sum_by-append (λ e. cond (test e) 1 0) ledger more

  first_entry : (entry : LedgerEntry) (more : List LedgerEntry) → count_by test (entry ∷ more) ≡ cond (test entry) 1 0 + count_by test more
  first_entry entry more = sum_by-cons (λ e. cond (test e) 1 0) entry more

  module _ (of : IsOfExtras test) where
    raised_none : (by : Origin) (tasks : List ℕ) → count_by test (map (λ task. Raised task by) tasks) ≡ 0
    raised_none by [] = refl
    raised_none by (task ∷ tasks) =
        let a = first_entry (Raised task by) (map (λ task. Raised task by) tasks) in
        let b : ◌≡◌ {A = ℕ} (cond (test (Raised task by)) 1 0) 0 = ap one_of (of.raised task by) in
        let c = raised_none by tasks in
        omega (arith, a, b, c)

    -- a request in this name
    asked_more : (by : Origin) (future : ℕ) (l : Loop)
        → count_by test (made_of_loop (AsksCancel by future) l).ledger ≡ count_by test l.ledger + cond (test (Asked by)) 1 0
    asked_more by future l =
        let raised = map (λ task. Raised task by) (raised_among l.parts (cancel future l.parts).seen) in
        let a = more_entries l.ledger (Asked by ∷ raised) in
        let b = first_entry (Asked by) raised in
        let c = raised_none by (raised_among l.parts (cancel future l.parts).seen) in
        omega (arith, a, b, c)

    took_more : (by : Origin) (task : ℕ) (l : Loop)
        → count_by test (take_one_back by task l).ledger
        ≡ count_by test l.ledger + cond (test (Took task by (nat_lt 0 (cancelling l.parts task)))) 1 0
    took_more by task l =
        let entry = Took task by (nat_lt 0 (cancelling l.parts task)) in
        let a = more_entries l.ledger (entry ∷ []) in
        let b = first_entry entry [] in
        omega (arith, a, b)

    change_same : (change : LoopChange) (l : Loop) → MayInLoop change l → count_by test (made_of_loop change l).ledger ≡ count_by test l.ledger
    change_same (OfParts change) l may = refl
    change_same (MakesTimeout task) l may = refl
    change_same (ChangesTimeout timeout it) l may = refl
    change_same (MakesGroup parent) l may = refl
    change_same (ChangesGroup group it) l may = refl
    change_same (AsksCancel by future) l may =
        let a = asked_more by future l in
        let b : ◌≡◌ {A = ℕ} (cond (test (Asked by)) 1 0) 0 = ap one_of (of.asked by may) in
        omega (arith, a, b)
    change_same (TakesBack by task) l may =
        let a = took_more by task l in
        let b : ◌≡◌ {A = ℕ} (cond (test (Took task by (nat_lt 0 (cancelling l.parts task)))) 1 0) 0 = ap one_of (of.took task by _ may) in
        omega (arith, a, b)
    change_same (BeginsExit group) l may =
        let a = more_entries l.ledger (Began group ∷ []) in
        let b = first_entry (Began group) [] in
        let c : ◌≡◌ {A = ℕ} (cond (test (Began group)) 1 0) 0 = ap one_of (of.began group) in
        omega (arith, a, b, c)

    pub row_same : {l m : Loop} → Reaches made_of_loop MayInLoop l m → count_by test m.ledger ≡ count_by test l.ledger
    row_same row =
        fold (λ (l m : Loop). count_by test m.ledger ≡ count_by test l.ledger) (λ l. refl) (λ l m n a b. b ∙ a) change_same row

-- ---- steps of what is added that book nothing in the name of this key
abbrev pub BooksNot : ℕ → ExtraStep → Type 0
BooksNot key (Cancels other future) = (other == key) ≡ false
BooksNot key (Uncancels other task) = (other == key) ≡ false
BooksNot key _ = Unit {0}

module _ (key : ℕ) where
  pub asks_same : (step : ExtraStep) (l : Loop) → BooksNot key step
      → count_by (asks (is_by_key key)) (made_by step l).ledger ≡ count_by (asks (is_by_key key)) l.ledger
  asks_same (Cancels other future) l not_mine =
      let a = asked_more (asks (is_by_key key)) (asks_of key) (ByExtra other) future l in
      let b : ◌≡◌ {A = ℕ} (cond (other == key) 1 0) 0 = ap (λ b. cond b 1 0) not_mine in
      omega (arith, a, b)
  asks_same (Uncancels other task) l not_mine =
      let a = took_more (asks (is_by_key key)) (asks_of key) (ByExtra other) task l in omega (arith, a)
  asks_same MakesPlain l not_mine = refl
  asks_same (MakesMany members) l not_mine = refl
  asks_same (Settles future outcome) l not_mine = refl
  asks_same (Releases future) l not_mine = refl
  asks_same (Registers future other) l not_mine = refl
  asks_same (CallsSoon other) l not_mine = refl
  asks_same (CallsLater when other) l not_mine = refl
  asks_same (Revokes tag) l not_mine = refl

  pub takes_same : (step : ExtraStep) (l : Loop) → BooksNot key step
      → count_by (takes (is_by_key key)) (made_by step l).ledger ≡ count_by (takes (is_by_key key)) l.ledger
  takes_same (Cancels other future) l not_mine =
      let a = asked_more (takes (is_by_key key)) (takes_of key) (ByExtra other) future l in omega (arith, a)
  takes_same (Uncancels other task) l not_mine =
      let a = took_more (takes (is_by_key key)) (takes_of key) (ByExtra other) task l in
      let b : ◌≡◌ {A = ℕ} (cond (other == key) 1 0) 0 = ap (λ b. cond b 1 0) not_mine in
      omega (arith, a, b)
  takes_same MakesPlain l not_mine = refl
  takes_same (MakesMany members) l not_mine = refl
  takes_same (Settles future outcome) l not_mine = refl
  takes_same (Releases future) l not_mine = refl
  takes_same (Registers future other) l not_mine = refl
  takes_same (CallsSoon other) l not_mine = refl
  takes_same (CallsLater when other) l not_mine = refl
  takes_same (Revokes tag) l not_mine = refl

  pub all_asks_same : (steps : List ExtraStep) (l : Loop) → Each (BooksNot key) steps
      → count_by (asks (is_by_key key)) (made_by_all steps l).ledger ≡ count_by (asks (is_by_key key)) l.ledger
  all_asks_same [] l none = refl
  all_asks_same (step ∷ steps) l none = all_asks_same steps (made_by step l) none.1 ∙ asks_same step l none.0

  pub all_takes_same : (steps : List ExtraStep) (l : Loop) → Each (BooksNot key) steps
      → count_by (takes (is_by_key key)) (made_by_all steps l).ledger ≡ count_by (takes (is_by_key key)) l.ledger
  all_takes_same [] l none = refl
  all_takes_same (step ∷ steps) l none = all_takes_same steps (made_by step l) none.1 ∙ takes_same step l none.0

  -- its own request, and its own uncancel
  pub asks_once : (future : ℕ) (l : Loop)
      → count_by (asks (is_by_key key)) (made_by (Cancels key future) l).ledger ≡ count_by (asks (is_by_key key)) l.ledger + 1
  asks_once future l =
      let a = asked_more (asks (is_by_key key)) (asks_of key) (ByExtra key) future l in
      let b : ◌≡◌ {A = ℕ} (cond (key == key) 1 0) 1 = ap (λ b. cond b 1 0) (eq-eqb key key refl) in
      omega (arith, a, b)

  pub asks_no_take : (future : ℕ) (l : Loop)
      → count_by (takes (is_by_key key)) (made_by (Cancels key future) l).ledger ≡ count_by (takes (is_by_key key)) l.ledger
  asks_no_take future l = let a = asked_more (takes (is_by_key key)) (takes_of key) (ByExtra key) future l in omega (arith, a)

  pub takes_once : (task : ℕ) (l : Loop)
      → count_by (takes (is_by_key key)) (made_by (Uncancels key task) l).ledger ≡ count_by (takes (is_by_key key)) l.ledger + 1
  takes_once task l =
      let a = took_more (takes (is_by_key key)) (takes_of key) (ByExtra key) task l in
      let b : ◌≡◌ {A = ℕ} (cond (key == key) 1 0) 1 = ap (λ b. cond b 1 0) (eq-eqb key key refl) in
      omega (arith, a, b)

  pub takes_no_ask : (task : ℕ) (l : Loop)
      → count_by (asks (is_by_key key)) (made_by (Uncancels key task) l).ledger ≡ count_by (asks (is_by_key key)) l.ledger
  takes_no_ask task l = let a = took_more (asks (is_by_key key)) (asks_of key) (ByExtra key) task l in omega (arith, a)
