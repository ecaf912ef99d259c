-- As a run begins nothing else holds a future of what is added, which has none; so it is in every state of it.
use Rattle.std.proofs.Common.{◌≡◌, inl, ℕ, false, List, [], refl, sym, ap, subst, ◌∙◌, arith, le_refl}
use Rattle.std.proofs.lemmas.Bool.{false≢true}
use Rattle.std.proofs.lemmas.Option.{none-some}
use Rattle.model_tree.specs.Syntax.{Program}
use Rattle.model_says.specs.Says.{step_limit}
use Rattle.model_wire.specs.Journal.{Entry}
use Rattle.model_loop.specs.Futures.{next_future}
use Rattle.model_machine.specs.Extra.{Extra, ExtraAnswer, NamesNothing}
use Rattle.model_machine.specs.State.{State, start}
use Rattle.model_reach.specs.Reach.{Part, Parted, reach}
use Rattle.model_value.specs.Input.{Input}
use Rattle.law_apart.specs.Apart.{IsTheirs}
use Rattle.law_calls.specs.Told.{Happening, first_told}
use Rattle.law_changes.specs.Reaches.{stays}
use Rattle.law_replies.specs.Added.{KeepsSound}
use Rattle.law_runs.proofs.FirstState.{begins_sound}
use Rattle.law_runs.specs.Allowed.{IsAmong}
use Rattle.law_heeded.specs.Between.{IsLeftAlone}
use Rattle.law_heeded.specs.Owned.{AreApart, KeepsToItsFutures, is_among, is_own}
use Rattle.law_heeded.specs.Runs.{IsRunOf}
use Rattle.law_heeded.specs.Walks.{GivesFacts, Walks}
use Rattle.law_heeded.proofs.Along.{HoldsAlong, Past, along}
use Rattle.law_heeded.proofs.Sharing.{in_all, reach_keeps}
use Rattle.law_heeded.proofs.Serving.{Outside}
use Rattle.law_heeded.proofs.Turning.{run_of, run_outer}

-- ---- a run begins
module _ {S : Type 0} (added : Extra S) (most : ℕ) (state : S) (program : Program) (answers : List Entry)
    (nothing : (added.keeps state).own ≡ []) where
  abbrev begun : State S
  begun = start most state program answers

  none_own : (future : ℕ) → is_own added state future ≡ false
  none_own future = ap (λ ids. is_among ids future) nothing

  main_theirs : IsTheirs (is_own added state) (next_future begun.loop.parts) 0
  main_theirs = (none_own 0, omega arith)

  pub start_apart : AreApart added (start most state program answers)
  start_apart = record {
    below = λ future own. absurd (false≢true (sym (none_own future) ∙ own));
    apart = record {
      loop = record {
        parts = record { reached = le_refl _; pending = (tt, tt); timers = tt; callbacks = (refl, tt); tasks = (main_theirs, tt) };
        groups = tt;
      };
      streams = record { connections = λ id c e. absurd (none-some c e); children = λ id p e. absurd (none-some p e) };
      scripts = tt;
    };
  }

-- ---- a run, of which no more is said
module _ {S : Type 0} (added : Extra S) where
  abbrev Any : State S → Type 0
  Any s = Unit {0}

  abbrev AnyCalled : (task : ℕ) → ExtraAnswer → State S → Type 0
  AnyCalled task answer s = Unit {0}

  abbrev AnyWoken : (task key : ℕ) → Input → State S → Type 0
  AnyWoken task key input s = Unit {0}

  any_walks : (limit : ℕ) → Walks limit added Any AnyCalled AnyWoken
  any_walks limit = record {
    beside = λ s t b h. tt;
    asks = λ task code arguments s asked a h. tt;
    stood = λ task key input s t stood resumed b began none alone a h. tt;
    done = λ task on key outcome s is h. tt;
    hears = λ task key code bytes answer left s fit h. tt;
    wakes = λ task key input s a h. tt;
    over = λ task answer s is h. tt;
    waits = λ task on key s t stood is a h. tt;
    acts = λ key handle rest s first live is a h. tt;
    news = λ code bytes handle rest s first live is a h. tt;
  }

  abbrev AnyFact : Happening S → Type 0
  AnyFact it = Unit {0}

  any_facts : (limit : ℕ) → GivesFacts limit added Any AnyWoken AnyFact
  any_facts limit = record {
    asks = λ task code arguments s asked a h. tt;
    wakes = λ task key input s a h. tt;
    hears = λ question answer s a h. tt;
    acts = λ key handle rest s first a h. tt;
    news = λ code bytes handle rest s first a h. tt;
  }

  pub runs_apart : KeepsToItsFutures added → KeepsSound added → (most : ℕ) (state : S) (program : Program) (answers : List Entry) (turns : ℕ)
      → NamesNothing (added.keeps state) → IsRunOf (AreApart added) step_limit added turns (start most state program answers)
  runs_apart owns keeps most state program answers turns nothing =
      run_of (Outside (any_walks step_limit) owns) (AreApart added) (λ s it. it.apart) step_limit added turns (start most state program answers)
      (run_outer (any_walks step_limit) owns keeps turns (start most state program answers) (begins_sound added most state program answers nothing)
      (start_apart added most state program answers nothing.own) tt)

-- ---- of four parts
module _ {A B C D : Type 0} (gather : Extra A) (sync : Extra B) (exec : Extra C) (dgram : Extra D) (keeps_gather : KeepsToItsFutures gather)
    (keeps_sync : KeepsToItsFutures sync) (keeps_exec : KeepsToItsFutures exec) (keeps_dgram : KeepsToItsFutures dgram)
    (sound : KeepsSound (reach gather sync exec dgram)) (first : Parted A B C D) (nothing : NamesNothing ((reach gather sync exec dgram).keeps first))
    (most : ℕ) (program : Program) (answers : List Entry) (part : Part) where
  abbrev S_ : Type 0
  S_ = Parted A B C D

  abbrev added_ : Extra S_
  added_ = reach gather sync exec dgram

  abbrev begun_ : State S_
  begun_ = start most first program answers

  none_in : (ids : List ℕ) (id : ℕ) → ids ≡ [] → IsAmong ids id → ⊥
  none_in ids id e h = at (subst (λ all. IsAmong all id) e h)
    where
      at : IsAmong [] id → ⊥
      at (place, e) = absurd (none-some id e)

  pub start_past : (Fact : Happening (Parted A B C D) → Type 0)
      → Past gather sync exec dgram keeps_gather keeps_sync keeps_exec keeps_dgram step_limit part first (start most first program answers).loop.parts Fact
      (start most first program answers)
  start_past Fact = record {
    happened = record { last = first_told first; history = stays; keeps = refl; asked = refl; told = refl; whole = refl };
    left = record { more = le_refl _; stay = λ future mine. inl refl };
    facts = tt;
    disjoint = λ one other differs id of_one of_other.
        none_in (added_.keeps first).own id nothing.own (in_all gather sync exec dgram one first id of_one);
  }

  -- with what else goes on
  module _ {Inv : State (Parted A B C D) → Type 0} {InvCalled : (task : ℕ) → ExtraAnswer → State (Parted A B C D) → Type 0}
      {InvWoken : (task key : ℕ) → Input → State (Parted A B C D) → Type 0}
      (inner : Walks step_limit (reach gather sync exec dgram) Inv InvCalled InvWoken) (Fact : Happening (Parted A B C D) → Type 0)
      (gives : GivesFacts step_limit (reach gather sync exec dgram) Inv InvWoken Fact) where
    abbrev pub Held : State (Parted A B C D) → Type 0
    Held =
        HoldsAlong gather sync exec dgram keeps_gather keeps_sync keeps_exec keeps_dgram step_limit part first
        (start most first program answers).loop.parts Fact inner gives

    pub runs_along : (turns : ℕ) → Inv (start most first program answers)
        → IsRunOf Held step_limit (reach gather sync exec dgram) turns (start most first program answers)
    runs_along turns inv =
        let walks = along gather sync exec dgram keeps_gather keeps_sync keeps_exec keeps_dgram step_limit part first begun_.loop.parts Fact inner gives in
        let owns = reach_keeps gather sync exec dgram keeps_gather keeps_sync keeps_exec keeps_dgram in
        run_of (Outside walks owns) Held (λ s it. it.holds) step_limit added_ turns begun_
        (run_outer walks owns sound turns begun_ (begins_sound added_ most first program answers nothing)
        (start_apart added_ most first program answers nothing.own) (record { inv = inv; past = start_past Fact }))

  pub runs_left : (turns : ℕ)
      → IsRunOf (IsLeftAlone gather sync exec dgram step_limit (reach gather sync exec dgram) first part (start most first program answers).loop.parts)
      step_limit (reach gather sync exec dgram) turns (start most first program answers)
  runs_left turns =
      let inner = any_walks added_ step_limit in
      let gives = any_facts added_ step_limit in
      run_of (Held inner (AnyFact added_) gives)
      (IsLeftAlone gather sync exec dgram step_limit added_ first part begun_.loop.parts)
      (λ s it. record { happened = it.past.happened; left = it.past.left }) step_limit added_ turns begun_
      (runs_along inner (AnyFact added_) gives turns tt)
