-- Rows of changes put together, and laws that are proved of one change.
use Rattle.law_changes.specs.Reaches.{Reaches, stays, goes}

module _ {A C : Type 0} {make : C → A → A} {May : C → A → Type 0} where
  pub one : {a : A} (change : C) → May change a → Reaches make May a (make change a)
  one change may = goes stays change may

  pub on : {a b c : A} → Reaches make May a b → Reaches make May b c → Reaches make May a c
  on first stays = first
  on first (goes second change may) = goes (on first second) change may

  -- what relates each state to itself, goes on, and is so for each change
  pub fold : (R : A → A → Type 0) → ((a : A) → R a a) → ((a b c : A) → R a b → R b c → R a c)
      → ((change : C) (a : A) → May change a → R a (make change a)) → {a b : A} → Reaches make May a b → R a b
  fold R same next each stays = same _
  fold R same next each (goes row change may) = next _ _ _ (fold R same next each row) (each change _ may)

  -- what each change keeps
  pub keep : (P : A → Type 0) → ((change : C) (a : A) → May change a → P a → P (make change a)) → {a b : A} → Reaches make May a b → P a → P b
  keep P each stays h = h
  keep P each (goes row change may) h = each change _ may (keep P each row h)

-- where more may be done
pub widen : {A C : Type 0} {make : C → A → A} {May More : C → A → Type 0} → ((change : C) (a : A) → May change a → More change a) → {a b : A}
    → Reaches make May a b → Reaches make More a b
widen more stays = stays
widen more (goes row change may) = goes (widen more row) change (more change _ may)
