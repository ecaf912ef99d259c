-- What a change under one number comes to under names.
use Rattle.std.proofs.Common.{◌≡◌, ◌==◌, ℕ, Bool, true, false, Option, Some, None, refl, arith, if◌then◌else◌}
use Rattle.std.specs.Option.{is_some}
use Rattle.std.proofs.lemmas.Bool.{false≢true}
use Rattle.std.proofs.lemmas.Bool.Decides.{nat_tests}
use Rattle.aio_ready.specs.declared.handle.HandleName.{HandleName}
use Rattle.aio_ready.specs.declared.handle.HandleName.TheVariants.{Nameless, Given, Timer}
use Rattle.aio_ready.specs.declared.register.Register.{Register}
use Rattle.aio_ready.specs.Names.{is_same}
use Rattle.aio_ready.specs.Found.{IsChanged, IsTaken}
use Rattle.aio_ready.specs.Registered.{IsChangedAt, IsLeft}

pub given_changed : (change : Option Bool → Option Bool) (number : ℕ) (old new : Register)
    → IsChanged change number old.given new.given → new.timers ≡ old.timers → IsChangedAt change (Given number) old new
given_changed change number old new h k Nameless = refl
given_changed change number old new h k (Given other) = h other
given_changed change number old new h k (Timer other) = rw k refl

pub timer_changed : (change : Option Bool → Option Bool) (number : ℕ) (old new : Register)
    → IsChanged change number old.timers new.timers → new.given ≡ old.given → IsChangedAt change (Timer number) old new
timer_changed change number old new h k Nameless = refl
timer_changed change number old new h k (Given other) = rw k refl
timer_changed change number old new h k (Timer other) = h other

pub given_left : (number : ℕ) (old new : Register) → IsTaken number old.given new.given → new.timers ≡ old.timers
    → IsLeft (Given number) old new
given_left number old new h k Nameless apart = refl
given_left number old new h k (Given other) apart = h other apart
given_left number old new h k (Timer other) apart = rw k refl

pub timer_left : (number : ℕ) (old new : Register) → IsTaken number old.timers new.timers → new.given ≡ old.given
    → IsLeft (Timer number) old new
timer_left number old new h k Nameless apart = refl
timer_left number old new h k (Given other) apart = rw k refl
timer_left number old new h k (Timer other) apart = h other apart

pub nameless_left : (register : Register) → IsLeft Nameless register register
nameless_left register other apart = refl

pub nameless_changed : (change : Option Bool → Option Bool) (register : Register) → IsChangedAt change Nameless register register
nameless_changed change register other = refl

self_by : (same : Bool) (own : Option Bool) → same ≡ true → (if same then Some false else own) ≡ Some false
self_by true own h = refl
self_by false own h = absurd (false≢true h)

same_self : (number : ℕ) → (number == number) ≡ true
same_self number = grind (arith, nat_tests)

-- what was put is there
pub put_there : (number : ℕ) (old new : Option Bool) → new ≡ (if number == number then Some false else old) → new ≡ Some false
put_there number old new h = rw h (self_by (number == number) old (same_self number))

same_number : (number other : ℕ) → (number == other) ≡ true → number ≡ other
same_number number other h = grind (arith, nat_tests)

-- names of one handle are equal
pub same_is : (name other : HandleName) → is_same name other ≡ true → name ≡ other
same_is Nameless other h = absurd (false≢true h)
same_is (Given number) Nameless h = absurd (false≢true h)
same_is (Given number) (Given other) h = rw (same_number number other h) refl
same_is (Given number) (Timer other) h = absurd (false≢true h)
same_is (Timer number) Nameless h = absurd (false≢true h)
same_is (Timer number) (Given other) h = absurd (false≢true h)
same_is (Timer number) (Timer other) h = rw (same_number number other h) refl

pub turned_name : (name other : HandleName) → is_same name other ≡ is_same other name
turned_name Nameless Nameless = refl
turned_name Nameless (Given other) = refl
turned_name Nameless (Timer other) = refl
turned_name (Given number) Nameless = refl
turned_name (Given number) (Given other) = grind (arith, nat_tests)
turned_name (Given number) (Timer other) = refl
turned_name (Timer number) Nameless = refl
turned_name (Timer number) (Given other) = refl
turned_name (Timer number) (Timer other) = grind (arith, nat_tests)

-- what isn't there is not something
pub not_there : (state : Option Bool) → None ≡ state → is_some state ≡ true → ⊥
not_there None h k = false≢true k
not_there (Some dead) h k = absurd (cc)
