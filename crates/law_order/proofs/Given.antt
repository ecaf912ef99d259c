-- How often the outside was asked to close one, and whether a connection was given up, of events one after another.
use Rattle.std.proofs.Common.{◌≡◌, ℕ, ◌+◌, ◌≤◌, Bool, true, false, ◌&&◌, ◌||◌, List, [], ◌∷◌, ◌++◌, refl, sym, subst, arith}
use Rattle.std.proofs.lemmas.Bool.{or_parts}
use Rattle.model_value.specs.Action.{Action}
use Rattle.model_wire.specs.declared.event.Event.TheVariants as event
use Rattle.model_wire.specs.declared.event.Handed.{Handed}
use Rattle.model_wire.specs.declared.event.Handed.TheVariants as to
use Rattle.model_wire.specs.Event.{Event}
use Rattle.law_stream.specs.Ways.{Move, Did, Heard, closes, is_close, one_if, told_by}
use Rattle.law_order.specs.Order.{closes_asked, may_give_up}
use Rattle.law_order.proofs.Moving.{EndsGiving}
use Rattle.law_order.specs.Losses.{given_up, given_up_after, is_conn_close}

-- ---- how often
pub asked_both : (whom : Handed) (events more : List Event) → closes_asked whom (events ++ more) ≡ closes_asked whom events + closes_asked whom more
asked_both whom [] more = omega arith
asked_both whom (event.Called it ∷ events) more = let rest = asked_both whom events more in omega (arith, rest)
asked_both whom (event.Got came ∷ events) more = asked_both whom events more
asked_both whom (event.Ran it ∷ events) more = asked_both whom events more
asked_both whom (event.Said task text ∷ events) more = asked_both whom events more

pub asked_told : (whom : Handed) (moves : List Move) → closes_asked whom (told_by moves) ≡ closes whom moves
asked_told whom [] = refl
asked_told whom (Did change ∷ moves) = asked_told whom moves
asked_told whom (Heard it came ∷ moves) = let rest = asked_told whom moves in omega (arith, rest)

-- ---- given up
neither : (a b : Bool) → a ≡ false → b ≡ false → (a || b) ≡ false
neither false b one two = two
neither true b one two = absurd (let bad : ⊥ = cc in bad)

last_so : (a b : Bool) → b ≡ true → (a || b) ≡ true
last_so true b is = refl
last_so false b is = is

-- what wasn't given up after more wasn't before
given_sooner : (whom : Handed) (giving : Bool) (events more : List Event) → given_up_after whom giving (events ++ more) ≡ false
    → given_up_after whom giving events ≡ false
given_sooner whom giving [] more is = refl
given_sooner whom giving (event.Ran it ∷ events) more is = given_sooner whom (may_give_up it) events more is
given_sooner whom giving (event.Called it ∷ events) more is =
    let parts = or_parts (giving && is_conn_close whom it) (given_up_after whom giving (events ++ more)) is in
    neither (giving && is_conn_close whom it) (given_up_after whom giving events) parts.0 (given_sooner whom giving events more parts.1)
given_sooner whom giving (event.Got came ∷ events) more is = given_sooner whom giving events more is
given_sooner whom giving (event.Said task text ∷ events) more is = given_sooner whom giving events more is

pub not_before : (whom : Handed) (events more : List Event) → given_up whom (events ++ more) ≡ false → given_up whom events ≡ false
not_before whom events more is = given_sooner whom false events more is

-- a connection that is closed in such a callback was
heard_given : (b rest : Bool) (n : ℕ) → (1 ≤ n → rest ≡ true) → 1 ≤ one_if b + n → ((true && b) || rest) ≡ true
heard_given true rest n each some = refl
heard_given false rest n each some = each (omega (arith, some))

given_told : (conn : ℕ) (moves : List Move) → 1 ≤ closes (to.Conn conn) moves → given_up_after (to.Conn conn) true (told_by moves) ≡ true
given_told conn [] some = absurd (omega (arith, some))
given_told conn (Did change ∷ moves) some = given_told conn moves some
given_told conn (Heard it came ∷ moves) some =
    heard_given (is_close (to.Conn conn) it) (given_up_after (to.Conn conn) true (told_by moves)) (closes (to.Conn conn) moves)
    (λ more. given_told conn moves more) some

given_now : (conn : ℕ) (giving : Bool) (front : List Event) (it : Action) (moves : List Move) → may_give_up it ≡ true
    → 1 ≤ closes (to.Conn conn) moves → given_up_after (to.Conn conn) giving ((front ++ event.Ran it ∷ []) ++ told_by moves) ≡ true
given_now conn giving [] it moves may some =
    subst (λ b. given_up_after (to.Conn conn) b (told_by moves) ≡ true) (sym may) (given_told conn moves some)
given_now conn giving (event.Ran other ∷ front) it moves may some = given_now conn (may_give_up other) front it moves may some
given_now conn giving (event.Called call ∷ front) it moves may some =
    last_so (giving && is_conn_close (to.Conn conn) call) _ (given_now conn giving front it moves may some)
given_now conn giving (event.Got came ∷ front) it moves may some = given_now conn giving front it moves may some
given_now conn giving (event.Said task text ∷ front) it moves may some = given_now conn giving front it moves may some

pub gives : (conn : ℕ) (events : List Event) (moves : List Move) → EndsGiving events → 1 ≤ closes (to.Conn conn) moves
    → given_up (to.Conn conn) (events ++ told_by moves) ≡ true
gives conn events moves ends some =
    subst (λ es. given_up (to.Conn conn) (es ++ told_by moves) ≡ true) (sym ends.ends) (given_now conn false ends.front ends.it moves ends.giving some)
