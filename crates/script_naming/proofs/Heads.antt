-- Names that stand once, and heads.
use Rattle.std.proofs.Common.{◌≡◌, ℕ, zero, suc, ◌-◌, ◌<◌, ◌≤◌, Bool, true, false, ◌&&◌, ◌||◌, List, [], ◌∷◌, ◌++◌, length, drop, map, slice_index_or, Err}
use Rattle.std.proofs.Common.{Global, refl, ap, ap₂, ◌∙◌}
use Rattle.std.specs.List.{list_any}
use Rattle.std.specs.Rc.{rc_str_bytes}
use Rattle.std.specs.declared.rc.RcStr.{RcStr}
use Rattle.std.specs.Str.{bytes_eq}
use Rattle.std.specs.BTreeSet as sorted
use denote.Ref.{Bor}
use Rattle.std.proofs.lemmas.List.Folds.{list_any-append}
use Rattle.model_tree.specs.Syntax.{Name}
use Rattle.model_text.specs.declared.cause.Cause.TheVariants as cause
use Rattle.model_text.specs.Naming.{both, if_known, if_arity}
use Rattle.model_text.specs.SecondPass.{are_fresh}
use Rattle.script_naming.specs.Scope.{Holds, is_free}
use Rattle.script_naming.proofs.Names.{drop-before}

or-swap : (a b : Bool) → (a || (b || false)) ≡ (b || a)
or-swap true true = refl
or-swap true false = refl
or-swap false true = refl
or-swap false false = refl

pub Holds-first : (set : sorted.BTreeSet (Bor (List ℕ))) (names : List Name) (key : Name) → Holds set (names ++ key ∷ []) → Holds set (key ∷ names)
Holds-first set names key holds = λ name.
    holds name ∙ list_any-append (bytes_eq name) names (key ∷ []) ∙ or-swap (list_any (bytes_eq name) names) (bytes_eq name key)

and-false : (b : Bool) → (b && false) ≡ false
and-false true = refl
and-false false = refl

-- names that don't stand once behind others don't stand once with these before them
pub stale-behind : (names : List (RcStr Global)) (at : ℕ) → are_fresh (map rc_str_bytes (drop at names)) ≡ false → are_fresh (map rc_str_bytes names) ≡ false
stale-behind names zero stale = stale
stale-behind [] (suc at) stale = stale
stale-behind (name ∷ names) (suc at) stale =
    ap (λ b. is_free (map rc_str_bytes names) (rc_str_bytes name) && b) (stale-behind names at stale) ∙ and-false _

pub are_fresh-before : (names : List (RcStr Global)) (at : ℕ) (name : RcStr Global) → 0 < at → at ≤ length names → name ≡ slice_index_or names (at - 1) name
    → are_fresh (map rc_str_bytes (drop (at - 1) names))
    ≡ (is_free (map rc_str_bytes (drop at names)) (rc_str_bytes name) && are_fresh (map rc_str_bytes (drop at names)))
are_fresh-before names at name some inside is =
    ap (λ l. are_fresh (map rc_str_bytes l)) (drop-before names at name some inside is)

-- what is meant by a head, where its tests have these answers
pub head-is : (known right is_known is_right : Bool) (name : Name) → known ≡ is_known → right ≡ is_right
    → both (λ n r. n) (if_known known name) (if_arity right name) ≡ both (λ n r. n) (if_known is_known name) (if_arity is_right name)
head-is known right is_known is_right name known_is right_is =
    ap₂ (λ k r. both (λ (n other : Name). n) (if_known k name) (if_arity r name)) known_is right_is

pub head-unknown : (right : Bool) (name : Name) → both (λ n r. n) (if_known false name) (if_arity right name) ≡ Err cause.Name
head-unknown true name = refl
head-unknown false name = refl
