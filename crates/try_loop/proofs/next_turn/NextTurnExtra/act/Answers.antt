use Rattle.std.proofs.Common.{ℕ, ◌<◌, ◌≤◌, ◌≡◌, Some, None, List, length, get_or, slice_get, pos, to_z, of_z, w64, refl, sym, ap, ◌∙◌}
use Rattle.std.proofs.lemmas.Int.{to_z-of_z}
use Rattle.std.proofs.lemmas.Option.{slice_get_past, slice_get_read}
use Rattle.model_value.specs.Value.{Int}
use Rattle.try_loop.proofs.Served.{acts_alone, acts_so, idle, unowned}
use Rattle.try_loop.proofs.next_turn.NextTurnExtra.act.Goals as goal

-- what is read of a list
found : (xs ys : List ℕ) (key id : ℕ) → ys ≡ xs → key < length ys → id ≡ get_or ys key id → slice_get xs key ≡ Some id
found xs ys key id same within e = ap (λ (it : List ℕ). slice_get it key) (sym same) ∙ slice_get_read ys (length ys) key id refl within e

past : (xs ys : List ℕ) (key : ℕ) → ys ≡ xs → length ys ≤ key → slice_get xs key ≡ None
past xs ys key same e = ap (λ (it : List ℕ). slice_get it key) (sym same) ∙ slice_get_past ys key e

pub resolve-resolved-requires-clause-idle : goal.resolve-resolved-requires-clause-idle
resolve-resolved-requires-clause-idle c = idle None c.args.self.now c.args.parts.now c.requires.serves

pub resolve-resolved-requires-clause-no_task : goal.resolve-resolved-requires-clause-no_task
resolve-resolved-requires-clause-no_task c =
    let read = c.in-Some.ensures.lookup in
    unowned None c.args.self.now c.args.parts.now c.args.key c.in-Some.id.now
    (found c.args.self.now.made.items c.deref.result.now c.args.key c.in-Some.id.now c.deref.ensures.value read.3.0 read.1) c.requires.serves

pub returns-in-Some : goal.returns-in-Some
returns-in-Some c = λ t s h.
    let read = c.in-Some.ensures.lookup in
    let number = c.in-Ok.ensures in
    acts_so None t s c.args.self.now c.args.parts.now h c.args.key c.in-Some.id.now c.int.result c.resolve-resolved.new.self
    (found c.args.self.now.made.items c.deref.result.now c.args.key c.in-Some.id.now c.deref.ensures.value read.3.0 read.1)
    (c.int.ensures ∙ ap (λ n. Int (to_z w64 (of_z w64 n))) number.1 ∙ ap Int (to_z-of_z w64 (pos c.args.key) number.0))
    c.resolve-resolved.ensures.after

pub returns-in_default-get : goal.returns-in_default-get
returns-in_default-get c = λ t s h.
    acts_alone None t s c.args.self.now c.args.parts.now h c.args.key
    (past c.args.self.now.made.items c.deref.result.now c.args.key c.deref.ensures.value c.in_default-get.ensures.lookup.3)
