-- The events that are of what is added, of rows put together.
use Rattle.std.proofs.Common.{◌≡◌, Bool, true, false, cond, List, [], ◌∷◌, ◌++◌, refl, sym, ap, ◌∙◌}
use Rattle.std.proofs.lemmas.Bool.{false≢true}
use Rattle.std.proofs.lemmas.List.{append-nil}
use Rattle.model_wire.specs.declared.call.Call.TheVariants as call
use Rattle.model_wire.specs.declared.event.Event.TheVariants as event
use Rattle.model_wire.specs.Call.{Answer, Call}
use Rattle.model_wire.specs.Event.{Event}
use Rattle.law_cases.specs.Trees.{is_aside}
use Rattle.law_calls.specs.Tells.{IsUntold}
use Rattle.law_calls.specs.Told.{asks_last, is_extra_call, is_of_extra, told_after}

-- one more in front, where it is of it
told_first : (b : Bool) (e : Event) (of others all rest more : List Event) → all ≡ of ++ more → rest ≡ others ++ more
    → cond b (e ∷ all) rest ≡ cond b (e ∷ of) others ++ more
told_first true e of others all rest more first next = ap (λ es. e ∷ es) first
told_first false e of others all rest more first next = next

-- of a call, after which what comes next goes by whether it is one of it
told_call : (b : Bool) (e : Event) (events more : List Event)
    → ((asks : Bool) → told_after asks (events ++ more) ≡ told_after asks events ++ told_after (asks_last asks events) more)
    → cond b (e ∷ told_after true (events ++ more)) (told_after false (events ++ more))
    ≡ cond b (e ∷ told_after true events) (told_after false events) ++ told_after (asks_last b events) more
told_call true e events more each = ap (λ es. e ∷ es) (each true)
told_call false e events more each = each false

pub told-append : (asks : Bool) (events more : List Event)
    → told_after asks (events ++ more) ≡ told_after asks events ++ told_after (asks_last asks events) more
told-append asks [] more = refl
told-append asks (event.Called it ∷ events) more =
    told_call (is_extra_call it) (event.Called it) events more (λ b. told-append b events more)
told-append asks (event.Got answer ∷ events) more =
    told_first asks (event.Got answer) (told_after false events) (told_after false events) _ _ (told_after (asks_last false events) more)
    (told-append false events more) (told-append false events more)
told-append asks (event.Ran it ∷ events) more =
    told_first (is_of_extra it) (event.Ran it) (told_after false events) (told_after false events) _ _ (told_after (asks_last false events) more)
    (told-append false events more) (told-append false events more)
told-append asks (event.Said task text ∷ events) more = told-append false events more

pub last-append : (asks : Bool) (events more : List Event) → asks_last asks (events ++ more) ≡ asks_last (asks_last asks events) more
last-append asks [] more = refl
last-append asks (event.Called it ∷ events) more = last-append (is_extra_call it) events more
last-append asks (event.Got answer ∷ events) more = last-append false events more
last-append asks (event.Ran it ∷ events) more = last-append false events more
last-append asks (event.Said task text ∷ events) more = last-append false events more

-- where no answer comes next
pub told_on : (events more : List Event) → asks_last false events ≡ false
    → told_after false (events ++ more) ≡ told_after false events ++ told_after false more
told_on events more whole = told-append false events more ∙ ap (λ b. told_after false events ++ told_after b more) whole

pub last_on : (events more : List Event) → asks_last false events ≡ false → asks_last false (events ++ more) ≡ asks_last false more
last_on events more whole = last-append false events more ∙ ap (λ b. asks_last b more) whole

-- ---- what isn't of it
pub untold_none : IsUntold []
untold_none = (refl, refl)

pub untold_then : (events more : List Event) → IsUntold events → IsUntold more → IsUntold (events ++ more)
untold_then events more first next = (
  told_on events more first.1 ∙ ap (λ es. es ++ told_after false more) first.0 ∙ next.0,
  last_on events more first.1 ∙ next.1,
)

pub untold_on : (events more : List Event) → asks_last false events ≡ false → IsUntold more
    → told_after false (events ++ more) ≡ told_after false events
untold_on events more whole untold =
    told_on events more whole ∙ ap (λ es. told_after false events ++ es) untold.0 ∙ append-nil (told_after false events)

no_extra_call : (it : Call) → is_aside it ≡ false → is_extra_call it ≡ false
no_extra_call (call.Extra code bytes) is = absurd (false≢true (sym is))
no_extra_call _ is = refl

-- a call of a connection or a child, and its answer
pub heard_untold : (it : Call) (answer : Answer) → is_aside it ≡ false → IsUntold (event.Called it ∷ event.Got answer ∷ [])
heard_untold it answer is = (ap (λ b. cond b (event.Called it ∷ event.Got answer ∷ []) []) (no_extra_call it is), refl)

pub missed_untold : (it : Call) → is_aside it ≡ false → IsUntold (event.Called it ∷ [])
missed_untold it is =
    (ap (λ b. cond b (event.Called it ∷ []) []) (no_extra_call it is), no_extra_call it is)
