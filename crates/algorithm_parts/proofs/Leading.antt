-- Lists of what was come to, and what leads on.
use Rattle.std.proofs.Common.{◌≡◌, ℕ, ◌⊎◌, true, List, [], ◌∷◌, ◌++◌, sym, ◌∙◌, inl, inr}
use Rattle.std.proofs.lemmas.Bool.{cases_eq}
use Rattle.model_loop.specs.Parts.{Parts}
use Rattle.model_loop.specs.Cancel.{has_seen}
use Rattle.model_loop.specs.Cycles.{PassesTo, Leads, at_once, through}
use Rattle.law_cancel.proofs.Seen.{has_seen_other}

pub seen_split : (s : List ℕ) (a x : ℕ) → has_seen (s ++ a ∷ []) x ≡ true → (has_seen s x ≡ true) ⊎ (a ≡ x)
seen_split s a x h = go (cases_eq x a)
  where
    go : (x ≡ a) ⊎ (x ≡ a → ⊥) → (has_seen s x ≡ true) ⊎ (a ≡ x)
    go (inl e) = inr (sym e)
    go (inr n) = inl (sym (has_seen_other s a x n) ∙ h)

pub leads_on : {p : Parts} {a b : ℕ} (c : ℕ) → Leads p a b → PassesTo p b c → Leads p a c
leads_on {b = b} c (at_once h) g = through b h (at_once g)
leads_on c (through next h l) g = through next h (leads_on c l g)
