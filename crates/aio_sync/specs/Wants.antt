-- What codes and lists ask for, in code and in the definitions.
use Rattle.std.specs.Prelude.{ℕ, ◌==◌, ℤ, pos, negsuc, List, [], ◌∷◌, Option, Some, None, if◌then◌else◌}
use Rattle.std.specs.Option.{option_and_then, option_map}
use Rattle.model_value.specs.Value.{Value}
use Rattle.model_machine.specs.Arguments.{as_int}
use Rattle.model_sync.specs.Serving as plain
use Rattle.model_sync.specs.Serving.{bare, one, two}
use Rattle.aio_sync.specs.declared.wanted.Numbered.{Numbered}
use Rattle.aio_sync.specs.declared.wanted.Numbered.TheVariants.{Acquire, Release, IsLocked, Set, Clear, IsSet, Wait, MakesQueue, Get, Size}
use Rattle.aio_sync.specs.declared.wanted.Shape.{Shape}
use Rattle.aio_sync.specs.declared.wanted.Shape.TheVariants as shape
use Rattle.aio_sync.specs.declared.wanted.Wanted.{Wanted}
use Rattle.aio_sync.specs.declared.wanted.Wanted.TheVariants as wanted

abbrev pub numbered_as : Numbered → ℤ → plain.Wanted
numbered_as Acquire number = plain.Acquire number
numbered_as Release number = plain.Release number
numbered_as IsLocked number = plain.IsLocked number
numbered_as Set number = plain.Set number
numbered_as Clear number = plain.Clear number
numbered_as IsSet number = plain.IsSet number
numbered_as Wait number = plain.Wait number
numbered_as MakesQueue number = plain.MakesQueue number
numbered_as Get number = plain.Get number
numbered_as Size number = plain.Size number

abbrev pub wanted_as : Wanted → plain.Wanted
wanted_as wanted.MakesLock = plain.MakesLock
wanted_as wanted.MakesEvent = plain.MakesEvent
wanted_as (wanted.Put number value) = plain.Put number value
wanted_as (wanted.Of numbered number) = numbered_as numbered number

abbrev pub shape_of : ℤ → Option Shape
shape_of (pos code) =
    if code == 200 then Some shape.MakesLock
    else (if code == 201 then Some (shape.Of Acquire)
    else (if code == 202 then Some (shape.Of Release)
    else (if code == 203 then Some (shape.Of IsLocked)
    else (if code == 210 then Some shape.MakesEvent
    else (if code == 211 then Some (shape.Of Set)
    else (if code == 212 then Some (shape.Of Clear)
    else (if code == 213 then Some (shape.Of IsSet)
    else (if code == 214 then Some (shape.Of Wait)
    else (if code == 220 then Some (shape.Of MakesQueue)
    else (if code == 221 then Some shape.Put
    else (if code == 222 then Some (shape.Of Get)
    else (if code == 225 then Some (shape.Of Size) else None))))))))))))
shape_of (negsuc before) = None

abbrev pub int_in : Option Value → Option ℤ
int_in None = None
int_in (Some x) = as_int x

abbrev pub number_in : List Value → Option ℤ
number_in (x ∷ []) = as_int x
number_in _ = None

abbrev pub two_in : List Value → Option (ℤ × Value)
two_in (x ∷ value ∷ []) = option_map (λ number. (number, value)) (as_int x)
two_in _ = None

abbrev pub shaped : Shape → List Value → Option plain.Wanted
shaped shape.MakesLock xs = bare plain.MakesLock xs
shaped shape.MakesEvent xs = bare plain.MakesEvent xs
shaped shape.Put xs = two plain.Put xs
shaped (shape.Of numbered) xs = one (numbered_as numbered) xs
