-- A take that needs more leaves the reader as it was.
use Rattle.std.proofs.Common.{◌≡◌, ℕ, ℤ, pos, negsuc, Bool, true, false, not, ◌&&◌, if◌then◌else◌, List, Option, Some, None, length, ◌∙◌, refl, ap}
use Rattle.std.specs.Prelude.{nat_eq, nat_le, nat_lt}
use Rattle.std.specs.Fmt.{decimal}
use Rattle.model_value.specs.Value.{Exc}
use Rattle.model_stream.specs.declared.read_op.ReadOp.TheVariants.{UpTo, Exactly, Until, Line}
use Rattle.model_stream.specs.declared.read_op.Taken.TheVariants.{Needs}
use Rattle.model_stream.specs.Reading.{Reading, ReadOp, Take, gives, raises, needs, removes, incomplete, first_at, take_up_to, take_exactly}
use Rattle.model_stream.specs.Reading.{take_until, take_line, take_read, until_found, until_unfound, line_at, unended_line, newline, after_take}
use Rattle.model_stream.specs.Sending.{is_nothing}

-- where it needs more, nothing is taken
abbrev LeavesAll : List ℕ → Take → Type 0
LeavesAll held t = t.answer ≡ Needs → t ≡ needs held

given : (held : List ℕ) (count : ℕ) (from : List ℕ) → LeavesAll held (gives count from)
given held count from e = absurd (let bad : ⊥ = cc in bad)

raised : (held : List ℕ) (fault : Exc) (rest : List ℕ) → LeavesAll held (raises fault rest)
raised held fault rest e = absurd (let bad : ⊥ = cc in bad)

removed : (held text rest : List ℕ) → LeavesAll held (removes text rest)
removed held text rest e = absurd (let bad : ⊥ = cc in bad)

needed : (held : List ℕ) → LeavesAll held (needs held)
needed held e = refl

either : (held : List ℕ) (b : Bool) (x y : Take) → LeavesAll held x → LeavesAll held y → LeavesAll held (if b then x else y)
either held true x y p q = p
either held false x y p q = q

unfailed : (held : List ℕ) (failed : Option Exc) (other : Take) → LeavesAll held other
    → LeavesAll held (elim failed [ None ↦ other | Some fault ↦ raises fault held ])
unfailed held None other p = p
unfailed held (Some fault) other p = raised held fault held

where_found : (held : List ℕ) (place : Option ℕ) (found : ℕ → Take) (other : Take) → ((at : ℕ) → LeavesAll held (found at)) → LeavesAll held other
    → LeavesAll held (elim place [ Some at ↦ found at | None ↦ other ])
where_found held None found other p q = q
where_found held (Some at) found other p q = p at

of_up_to : (count : ℕ) (r : Reading) → LeavesAll r.held (take_up_to count r)
of_up_to count r =
    unfailed r.held r.failed _
    (either r.held (nat_eq count 0) (gives 0 r.held) _ (given r.held 0 r.held)
    (either r.held (is_nothing r.held && not r.eof) (needs r.held) (gives count r.held) (needed r.held) (given r.held count r.held)))

of_exactly : (count : ℤ) (r : Reading) → LeavesAll r.held (take_exactly count r)
of_exactly (negsuc n) r = raised r.held _ r.held
of_exactly (pos count) r =
    unfailed r.held r.failed _
    (either r.held (nat_le count (length r.held)) (gives count r.held) _ (given r.held count r.held)
    (either r.held r.eof (incomplete (decimal count) r.held) (needs r.held) (raised r.held _ _) (needed r.held)))

of_until : (separator : List ℕ) (r : Reading) → LeavesAll r.held (take_until separator r)
of_until separator r =
    either r.held (is_nothing separator) _ _ (raised r.held _ r.held)
    (unfailed r.held r.failed _
    (where_found r.held (first_at separator r.held) (λ at. until_found at (length separator) r) (until_unfound (length separator) r)
    (λ at. either r.held (nat_lt r.limit at) _ _ (raised r.held _ r.held) (given r.held _ r.held))
    (either r.held (nat_lt r.limit _) _ _ (raised r.held _ r.held)
    (either r.held r.eof _ _ (raised r.held _ _) (needed r.held)))))

of_line : (r : Reading) → LeavesAll r.held (take_line r)
of_line r =
    unfailed r.held r.failed _
    (where_found r.held (first_at newline r.held) (λ at. line_at at r) (unended_line r)
    (λ at. either r.held (nat_lt r.limit at) _ _ (removed r.held _ _) (given r.held _ r.held))
    (either r.held (nat_lt r.limit (length r.held)) _ _ (removed r.held _ _)
    (either r.held r.eof _ _ (given r.held _ r.held) (needed r.held))))

of_each : (op : ReadOp) (r : Reading) → LeavesAll r.held (take_read op r)
of_each (UpTo count) r = of_up_to count r
of_each (Exactly count) r = of_exactly count r
of_each (Until separator) r = of_until separator r
of_each Line r = of_line r

and_true : (b : Bool) → (b && true) ≡ b
and_true true = refl
and_true false = refl

pub needs_leaves : (op : ReadOp) (r : Reading) → (take_read op r).answer ≡ Needs → after_take (take_read op r) r ≡ r
needs_leaves op r e =
    ap (λ t. after_take t r) (of_each op r e) ∙ ap (λ b. record r { paused = b }) (and_true r.paused)
