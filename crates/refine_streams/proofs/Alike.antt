-- Trees that go the same way: put together, and along a way.
use Rattle.std.proofs.Common.{Bool, true, false, if◌then◌else◌, List, [], ◌∷◌, ◌∙◌, refl, sym}
use Rattle.model_stream.specs.Doing.{Doing, Ends, Changes, Asks, and_then}
use Rattle.aio_exchange.specs.Ways.{Did, Heard, Leads, Move}
use Rattle.refine_streams.specs.Alike.{AreAlike}

-- one thing, and then what is alike
pub alike_then : {A B : Type 0} (tree : Doing A) (first second : A → Doing B) → ((it : A) → AreAlike (first it) (second it))
    → AreAlike (and_then tree first) (and_then tree second)
alike_then (Ends it) first second each = each it
alike_then (Changes change rest) first second each = (refl, alike_then rest first second each)
alike_then (Asks call rest) first second each = (refl, λ answer. alike_then (rest answer) first second each)

-- one of two
pub alike_if : {A : Type 0} (b : Bool) (x y z w : Doing A) → AreAlike x z → AreAlike y w
    → AreAlike (if b then x else y) (if b then z else w)
alike_if true x y z w first second = first
alike_if false x y z w first second = second

-- where one goes, the other goes
pub alike_leads : {A : Type 0} (way : List Move) (tree other left : Doing A) → AreAlike tree other → Leads tree way left
    → (rest : Doing A) × Leads other way rest
alike_leads [] tree other left alike leads = (other, refl)
alike_leads (Did it ∷ way) (Changes change rest) (Changes same after) left alike leads =
    let on = alike_leads way rest after left alike.1 leads.1 in (on.0, (sym alike.0 ∙ leads.0, on.1))
alike_leads (Heard asked answer ∷ way) (Asks call rest) (Asks same after) left alike leads =
    let on = alike_leads way (rest answer) (after answer) left (alike.1 answer) leads.1 in (on.0, (sym alike.0 ∙ leads.0, on.1))
alike_leads (Did it ∷ way) (Changes change rest) (Ends result) left alike leads = absurd alike
alike_leads (Did it ∷ way) (Changes change rest) (Asks call after) left alike leads = absurd alike
alike_leads (Heard asked answer ∷ way) (Asks call rest) (Ends result) left alike leads = absurd alike
alike_leads (Heard asked answer ∷ way) (Asks call rest) (Changes change after) left alike leads = absurd alike
alike_leads (Did it ∷ way) (Ends result) other left alike leads = absurd leads
alike_leads (Did it ∷ way) (Asks call rest) other left alike leads = absurd leads
alike_leads (Heard asked answer ∷ way) (Ends result) other left alike leads = absurd leads
alike_leads (Heard asked answer ∷ way) (Changes change rest) other left alike leads = absurd leads
