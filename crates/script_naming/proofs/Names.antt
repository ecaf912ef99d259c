-- What a set of names and a map of arities have after one more name.
use Rattle.std.proofs.Common.{◌≡◌, ℕ, ◌+◌, ◌-◌, ◌<◌, ◌≤◌, Bool, true, false, cond, ◌||◌, List, [], ◌∷◌, ◌++◌, length, take, drop, map, slice_index_or, Option}
use Rattle.std.proofs.Common.{Some, option_map, append_assoc, arith, refl, ap, ap₂, sym, ◌∙◌}
use Rattle.std.specs.Cmp.{decided}
use Rattle.std.specs.Cmp.Lexicographic.{slice_cmp}
use Rattle.std.specs.List.{list_any, flat_map}
use Rattle.std.specs.Ordering.{nat_cmp}
use Rattle.std.specs.Str.{bytes_eq}
use Rattle.std.specs.BTreeMap as tree
use Rattle.std.specs.BTreeSet as sorted
use Rattle.std.specs.Rc.{rc_str_bytes}
use denote.Ref.{Bor}
use Rattle.std.proofs.lemmas.List.{append-nil, take_more, drop_more, map-append, length-map}
use Rattle.std.proofs.lemmas.Grind.{flat_map-append}
use Rattle.std.proofs.lemmas.List.Folds.{list_any-append}
use Rattle.std.proofs.lemmas.Map.Text.{is_eq-slice_cmp, btree_map_updates_str}
use Rattle.std.proofs.lemmas.Slice.Eq.{bytes_eq-Decides}
use Rattle.model_tree.specs.Syntax.{Name}
use Rattle.model_text.specs.Naming.{Callee}
use Rattle.model_text.specs.Forms.{Spelled}
use Rattle.model_text.specs.FirstPass.{Numbered}
use Rattle.model_text.specs.SecondPass.{bound_by, callee}
use Rattle.script_term.specs.declared.spelled.NumberedForm.{NumberedForm}
use Rattle.script_term.specs.Spelled.{plain_spelled, plain_numbered}
use Rattle.script_naming.specs.declared.part.Part.{Part}
use Rattle.script_naming.specs.Parts.{plain_parts}
use Rattle.script_naming.specs.Scope.{Holds, FindsFirst, with_arity}

pub bytes_eq-flip : (xs ys : List ℕ) → bytes_eq xs ys ≡ bytes_eq ys xs
bytes_eq-flip xs ys = (decided bytes_eq bytes_eq-Decides).symm xs ys

last-or : (e b : Bool) → cond e true b ≡ (b || (e || false))
last-or true true = refl
last-or true false = refl
last-or false true = refl
last-or false false = refl

pub Holds-insert : (old new : sorted.BTreeSet (Bor (List ℕ))) (key : Bor (List ℕ)) (names : List Name)
    → sorted.Updates (λ x y. slice_cmp nat_cmp x.now y.now) old new key true → Holds old names → Holds new (names ++ key.now ∷ [])
Holds-insert old new key names updates holds = λ name.
    let query : Bor (List ℕ) = record { ref_ptr = (0, 0); now = name } in
    let before = sorted.contains_by (λ (k : Bor (List ℕ)). slice_cmp nat_cmp name k.now) old in
    updates.0 query
    ∙ ap (λ e. cond e true before) (is_eq-slice_cmp key.now name ∙ bytes_eq-flip key.now name)
    ∙ ap (λ b. cond (bytes_eq name key.now) true b) (holds name)
    ∙ last-or (bytes_eq name key.now) (list_any (bytes_eq name) names)
    ∙ sym (list_any-append (bytes_eq name) names (key.now ∷ []))

first-or-later : (key name : List ℕ) (count : ℕ) (later : Option Callee) (found : Option ℕ) (is_here : Bool) → (is_here ≡ true → key ≡ name) → later
    ≡ option_map (with_arity name) found → cond is_here (Some (with_arity key count)) later ≡ option_map (with_arity name) (cond is_here (Some count) found)
first-or-later key name count later found true same is = ap (λ k. Some (with_arity k count)) (same refl)
first-or-later key name count later found false same is = is

pub FindsFirst-insert : (old new : tree.BTreeMap (Bor (List ℕ)) ℕ) (key : Bor (List ℕ)) (count : ℕ) (callees : List Callee)
    → tree.Updates (λ x y. slice_cmp nat_cmp x.now y.now) old new key (Some count) → FindsFirst old callees
    → FindsFirst new (with_arity key.now count ∷ callees)
FindsFirst-insert old new key count callees updates finds = λ name.
    first-or-later key.now name count _ _ (bytes_eq key.now name) ((bytes_eq-Decides key.now name).0) (finds name)
    ∙ ap (λ found. option_map (with_arity name) found) (sym (btree_map_updates_str key.now old new (Some count) updates name))

-- ---- one line, one coroutine more
abbrev pub names_in : List NumberedForm → List Name
names_in lines = flat_map (λ line. bound_by line.form) (map plain_numbered lines)

pub names_in-push : (lines : List NumberedForm) (line : NumberedForm) → names_in (lines ++ line ∷ []) ≡ names_in lines ++ bound_by (plain_spelled line.form)
names_in-push lines line =
    ap (λ forms. flat_map (λ (form : Numbered Spelled). bound_by form.form) forms) (map-append plain_numbered lines (line ∷ []))
    ∙ flat_map-append (λ (form : Numbered Spelled). bound_by form.form) (map plain_numbered lines) (plain_numbered line ∷ [])
    ∙ ap (λ names. names_in lines ++ names) (append-nil (bound_by (plain_spelled line.form)))

pub names_in-more : (names : List Name) (lines : List NumberedForm) (at : ℕ) (line : NumberedForm) → at < length lines → line ≡ slice_index_or lines at line
    → (names ++ names_in (take at lines)) ++ bound_by (plain_spelled line.form) ≡ names ++ names_in (take (at + 1) lines)
names_in-more names lines at line inside is =
    append_assoc names (names_in (take at lines)) (bound_by (plain_spelled line.form))
    ∙ ap (λ found. names ++ found) (sym (names_in-push (take at lines) line))
    ∙ ap (λ front. names ++ names_in front) (ap (λ l. take at lines ++ l ∷ []) is ∙ sym (take_more lines at line inside))

pub drop-before : {A : Type 0} (xs : List A) (at : ℕ) (x : A) → 0 < at → at ≤ length xs → x ≡ slice_index_or xs (at - 1) x → drop (at - 1) xs ≡ x ∷ drop at xs
drop-before xs at x some inside is =
    let before : at - 1 < length xs = omega arith in
    let next : at - 1 + 1 ≡ at = omega arith in
    drop_more xs (at - 1) x before ∙ ap₂ (λ y n. y ∷ drop n xs) (sym is) next

pub callees-before : (parts : List Part) (at : ℕ) (part : Part) (key : List ℕ) → 0 < at → at ≤ length parts → part ≡ slice_index_or parts (at - 1) part → key
    ≡ rc_str_bytes part.name.now → with_arity key (length part.parameters.now) ∷ map callee (plain_parts (drop at parts))
    ≡ map callee (plain_parts (drop (at - 1) parts))
callees-before parts at part key some inside is named =
    ap₂ (λ name count. with_arity name count ∷ map callee (plain_parts (drop at parts))) named (sym (length-map part.parameters.now rc_str_bytes))
    ∙ ap (λ l. map callee (plain_parts l)) (sym (drop-before parts at part some inside is))
