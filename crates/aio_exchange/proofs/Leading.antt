-- Ways one after another.
use Rattle.std.proofs.Common.{◌≡◌, List, [], ◌∷◌, ◌++◌, refl, sym, ap, subst}
use Rattle.model_stream.specs.Doing.{Change, Doing, Ends, Changes, Asks, and_then}
use Rattle.aio_exchange.specs.Ways.{Move, Did, Heard, Leads, had_on, changed_on}

pub had-append : (xs ys : List Move) → had_on (xs ++ ys) ≡ had_on xs ++ had_on ys
had-append [] ys = refl
had-append (Did change ∷ xs) ys = had-append xs ys
had-append (Heard call answer ∷ xs) ys = ap (λ es. record { call = call; answer = answer } ∷ es) (had-append xs ys)

pub changed-append : {V : Type 0} (change : Change → V → V) (xs ys : List Move) (v : V)
    → changed_on change (xs ++ ys) v ≡ changed_on change ys (changed_on change xs v)
changed-append change [] ys v = refl
changed-append change (Did it ∷ xs) ys v = changed-append change xs ys (change it v)
changed-append change (Heard call answer ∷ xs) ys v = changed-append change xs ys v

pub leads_on : {A : Type 0} (xs ys : List Move) (doing mid left : Doing A) → Leads doing xs mid → Leads mid ys left → Leads doing (xs ++ ys) left
leads_on [] ys doing mid left e l = subst (λ d. Leads d ys left) (sym e) l
leads_on (Did it ∷ xs) ys (Changes change rest) mid left h l = (h.0, leads_on xs ys rest mid left h.1 l)
leads_on (Heard asked answer ∷ xs) ys (Asks call rest) mid left h l = (h.0, leads_on xs ys (rest answer) mid left h.1 l)
leads_on (Did it ∷ xs) ys (Ends result) mid left h l = absurd h
leads_on (Did it ∷ xs) ys (Asks call rest) mid left h l = absurd h
leads_on (Heard asked answer ∷ xs) ys (Ends result) mid left h l = absurd h
leads_on (Heard asked answer ∷ xs) ys (Changes change rest) mid left h l = absurd h

-- what comes next stands behind what is left
pub leads_then : {A B : Type 0} (way : List Move) (doing left : Doing A) (next : A → Doing B) → Leads doing way left
    → Leads (and_then doing next) way (and_then left next)
leads_then [] doing left next e = ap (λ d. and_then d next) e
leads_then (Did it ∷ way) (Changes change rest) left next h = (h.0, leads_then way rest left next h.1)
leads_then (Heard asked answer ∷ way) (Asks call rest) left next h = (h.0, leads_then way (rest answer) left next h.1)
leads_then (Did it ∷ way) (Ends result) left next h = absurd h
leads_then (Did it ∷ way) (Asks call rest) left next h = absurd h
leads_then (Heard asked answer ∷ way) (Ends result) left next h = absurd h
leads_then (Heard asked answer ∷ way) (Changes change rest) left next h = absurd h
