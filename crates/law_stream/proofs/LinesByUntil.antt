-- A line is read until its newline.
use Rattle.std.proofs.Common.{◌≡◌, ℕ, ◌+◌, ◌-◌, Bool, true, false, cond, ltb, [], Option, Some, None, length, drop, refl, ap, sym, ◌∙◌, arith}
use lib.Chars.{codes}
use Rattle.model_value.specs.declared.kind.Kind.TheVariants.{LimitOverrunError}
use Rattle.model_value.specs.Value.{Exc, exception_of}
use Rattle.model_stream.specs.Reading.{Reading, Take, take_line, take_until, line_at, unended_line}
use Rattle.model_stream.specs.Reading.{until_found, until_unfound, unless_failed, first_at, newline}
use Rattle.model_stream.specs.Reading.{gives, raises, needs, removes, incomplete, found_too_far, not_found_so_far}
use Rattle.law_stream.specs.LinesByUntil.{line_by}

unfailed : (r : Reading) (other : Take) → r.failed ≡ None → unless_failed r other ≡ other
unfailed r other is = rw is refl

found_by : (over : Bool) (at : ℕ) (r : Reading)
    → cond over (removes found_too_far (drop (at + 1) r.held)) (gives (at + 1) r.held)
    ≡ line_by (Some at) r (cond over (raises (exception_of LimitOverrunError found_too_far) r.held) (gives (at + 1) r.held))
found_by true at r = refl
found_by false at r = refl

unfound_by : (over eof : Bool) (r : Reading)
    → cond over (removes not_found_so_far []) (cond eof (gives (length r.held) r.held) (needs r.held))
    ≡ line_by None r (cond over (raises (exception_of LimitOverrunError not_found_so_far) r.held)
    (cond eof (incomplete (codes "undefined") r.held) (needs r.held)))
unfound_by true eof r = refl
unfound_by false true r = refl
unfound_by false false r = refl

by : (found : Option ℕ) (r : Reading)
    → elim found [ Some at ↦ line_at at r | None ↦ unended_line r ]
    ≡ line_by found r (elim found [ Some at ↦ until_found at 1 r | None ↦ until_unfound 1 r ])
by (Some at) r = found_by (ltb r.limit at) at r
by None r =
    unfound_by (ltb r.limit (length r.held)) r.eof r
    ∙ ap (λ many. line_by None r (cond (ltb r.limit many) (raises (exception_of LimitOverrunError not_found_so_far) r.held)
    (cond r.eof (incomplete (codes "undefined") r.held) (needs r.held)))) (let e : length r.held ≡ length r.held + 1 - 1 = omega arith in e)

pub line_is : (r : Reading) → r.failed ≡ None → take_line r ≡ line_by (first_at newline r.held) r (take_until newline r)
line_is r none =
    unfailed r _ none ∙ by (first_at newline r.held) r
    ∙ ap (λ t. line_by (first_at newline r.held) r t)
    (sym (unfailed r (elim (first_at newline r.held) [ Some at ↦ until_found at 1 r | None ↦ until_unfound 1 r ]) none))

pub failed_is : (r : Reading) (fault : Exc) → r.failed ≡ Some fault → take_line r ≡ take_until newline r
failed_is r fault is = rw is refl
