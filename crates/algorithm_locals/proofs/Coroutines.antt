-- The variables and the places of coroutines whose variables go by their numbers.
use Rattle.std.proofs.Common.{◌≡◌, ℕ, zero, suc, ◌+◌, ◌<◌, Bool, true, false, ◌||◌, if◌then◌else◌, List, [], ◌∷◌, ◌++◌, map, fold, option_to_list, length}
use Rattle.std.proofs.Common.{Option, Some, None, slice_get, append_assoc, append-nil, length-append, refl, sym, ◌∙◌, ap, ap₂, subst, zero-add, arith}
use Rattle.std.specs.Cmp.{decided}
use Rattle.std.specs.List.{list_any}
use Rattle.std.specs.Str.{bytes_eq}
use Rattle.std.proofs.lemmas.Slice.Eq.{bytes_eq-Decides}
use Rattle.model_tree.specs.Syntax.{Name, Statement, Assign, Yield, YieldFrom, Print, Raise, Return, Pass, If, While, Try, With, Statements, no_statements}
use Rattle.model_tree.specs.Syntax.{statement_then, Branch, no_branch, branch, Handlers, no_handlers, handler_then, Coroutine, Program}
use Rattle.model_says.specs.Variables.{names_bound, names_of, names_of_branch, names_of_handlers, with_name, variables_of}
use Rattle.model_says.specs.Requests.{place_among, place_of, coroutine_or_none, coroutine_at}
use Rattle.algorithm_locals.specs.Numbered.{local, locals, number_of, numbered_name, numbered_option, numbered_statement, numbered_statements, numbered_branch}
use Rattle.algorithm_locals.specs.Numbered.{numbered_handlers, numbered_coroutine, numbered_program}
use Rattle.algorithm_locals.proofs.Environments.{same-local, other-local}

-- ---- names that statements bind
map-append : {A B : Type 0} (f : A → B) (xs ys : List A) → map f (xs ++ ys) ≡ map f xs ++ map f ys
map-append f [] ys = refl
map-append f (x ∷ xs) ys = ap (λ l. f x ∷ l) (map-append f xs ys)

module _ (names : List Name) where
  abbrev numbered : List Name → List Name
  numbered found = map (numbered_name names) found

  joined : (xs ys first others : List Name) → first ≡ numbered xs → others ≡ numbered ys → first ++ others ≡ numbered (xs ++ ys)
  joined xs ys first others is are = ap₂ (λ (a b : List Name). a ++ b) is are ∙ sym (map-append (numbered_name names) xs ys)

  option-same : (name : Option Name) → option_to_list (numbered_option names name) ≡ numbered (option_to_list name)
  option-same None = refl
  option-same (Some name) = refl

  mutual
    names-one : (statement : Statement) → names_bound (numbered_statement names statement) ≡ numbered (names_bound statement)
    names-one (Assign name value) = refl
    names-one Yield = refl
    names-one (YieldFrom into target) = option-same into
    names-one (Print items) = refl
    names-one (Raise fault) = refl
    names-one (Return value) = refl
    names-one Pass = refl
    names-one (If test body otherwise) =
        joined (names_of body) (names_of_branch otherwise) _ _ (names-all body) (names-branch otherwise)
    names-one (While test body) = names-all body
    names-one (Try body handlers finally) =
        joined (names_of body ++ names_of_handlers handlers) (names_of_branch finally) _ _
        (joined (names_of body) (names_of_handlers handlers) _ _ (names-all body) (names-handlers handlers))
        (names-branch finally)
    names-one (With manager name body) = ap (λ others. numbered_name names name ∷ others) (names-all body)

    pub names-all : (statements : Statements) → names_of (numbered_statements names statements) ≡ numbered (names_of statements)
    names-all no_statements = refl
    names-all (statement_then first others) =
        joined (names_bound first) (names_of others) _ _ (names-one first) (names-all others)

    names-branch : (statements : Branch) → names_of_branch (numbered_branch names statements) ≡ numbered (names_of_branch statements)
    names-branch no_branch = refl
    names-branch (branch body) = names-all body

    names-handlers : (handlers : Handlers) →
        names_of_handlers (numbered_handlers names handlers) ≡ numbered (names_of_handlers handlers)
    names-handlers no_handlers = refl
    names-handlers (handler_then kind name body others) =
        joined (option_to_list name ++ names_of body) (names_of_handlers others) _ _
        (joined (option_to_list name) (names_of body) _ _ (option-same name) (names-all body)) (names-handlers others)

-- ---- numbers among variables that are collected one by one
flip : (xs ys : List ℕ) → bytes_eq xs ys ≡ bytes_eq ys xs
flip xs ys = (decided bytes_eq bytes_eq-Decides).symm xs ys

or-true : (a b : Bool) → (a || b) ≡ true → a ≡ false → b ≡ true
or-true true b is other = cc
or-true false b is other = is

or-false : (a b : Bool) → (a || b) ≡ false → (a ≡ false) × (b ≡ false)
or-false true b is = cc
or-false false b is = (refl, is)

number-known : (known others : List Name) (name : Name) → list_any (bytes_eq name) known ≡ true →
    number_of (known ++ others) name < length known
number-known [] others name is = cc
number-known (first ∷ known) others name is = by_name (number-known known others name) (bytes_eq first name) refl
  where
    by_name : (list_any (bytes_eq name) known ≡ true → number_of (known ++ others) name < length known) → (here : Bool) →
        bytes_eq first name ≡ here → (if here then 0 else suc (number_of (known ++ others) name)) < suc (length known)
    by_name later true e = omega arith
    by_name later false e =
        let less = later (or-true (bytes_eq name first) (list_any (bytes_eq name) known) is (flip name first ∙ e)) in
        omega (arith, less)

number-new : (known others : List Name) (name : Name) → list_any (bytes_eq name) known ≡ false →
    number_of (known ++ name ∷ others) name ≡ length known
number-new [] others name new = ap (λ b. if b then 0 else suc (number_of others name)) ((bytes_eq-Decides name name).1 refl)
number-new (first ∷ known) others name new =
    let none = or-false (bytes_eq name first) (list_any (bytes_eq name) known) new in
    ap (λ b. if b then 0 else suc (number_of (known ++ name ∷ others) name)) (flip first name ∙ none.0)
    ∙ ap suc (number-new known others name none.1)

or-here : (a b : Bool) → a ≡ true → (a || b) ≡ true
or-here true b is = refl
or-here false b is = cc

or-there : (a b : Bool) → b ≡ true → (a || b) ≡ true
or-there true b is = refl
or-there false b is = is

or-none : (a b : Bool) → a ≡ false → b ≡ false → (a || b) ≡ false
or-none true b is are = cc
or-none false b is are = are

among-locals : (from count number : ℕ) → number < count → list_any (bytes_eq (local (from + number))) (locals from count) ≡ true
among-locals from zero number less = absurd (omega (arith, less))
among-locals from (suc count) zero less = or-here _ _ (same-local (from + 0) from (omega arith))
among-locals from (suc count) (suc number) less =
    let next : from + suc number ≡ suc from + number = omega arith in
    or-there (bytes_eq (local (from + suc number)) (local from)) _
    (ap (λ n. list_any (bytes_eq (local n)) (locals (suc from) count)) next ∙ among-locals (suc from) count number (omega (arith, less)))

past-locals : (from count past : ℕ) → list_any (bytes_eq (local (from + (count + past)))) (locals from count) ≡ false
past-locals from zero past = refl
past-locals from (suc count) past =
    let next : from + (suc count + past) ≡ suc from + (count + past) = omega arith in
    or-none (bytes_eq (local (from + (suc count + past))) (local from)) _
    (other-local (from + (suc count + past)) from (λ is. omega (arith, is)))
    (ap (λ n. list_any (bytes_eq (local n)) (locals (suc from) count)) next ∙ past-locals (suc from) count past)

pub locals-more : (from count : ℕ) → locals from (suc count) ≡ locals from count ++ local (from + count) ∷ []
locals-more from zero = ap (λ n. local n ∷ []) (omega arith)
locals-more from (suc count) =
    let next : suc from + count ≡ from + suc count = omega arith in
    ap (λ others. local from ∷ others)
    (locals-more (suc from) count ∙ ap (λ n. locals (suc from) count ++ local n ∷ []) next)

-- what is collected further stands after what was
front-of : (names known : List Name) → (others : List Name) × (known ++ others ≡ fold with_name known names)
front-of [] known = ([], append-nil known)
front-of (name ∷ names) known = by_known (front-of names) (list_any (bytes_eq name) known)
  where
    by_known : ((first : List Name) → (others : List Name) × (first ++ others ≡ fold with_name first names)) → (is_known : Bool) →
        (others : List Name) × (known ++ others ≡ fold with_name (if is_known then known else known ++ name ∷ []) names)
    by_known later true = later known
    by_known later false =
        let found = later (known ++ name ∷ []) in
        (name ∷ found.0, sym (append_assoc known (name ∷ []) found.0) ∙ found.1)

pub collected-same : (names known whole : List Name) → fold with_name known names ≡ whole →
    fold with_name (locals 0 (length known)) (map (numbered_name whole) names) ≡ locals 0 (length whole)
collected-same [] known whole is = ap (λ (l : List Name). locals 0 (length l)) is
collected-same (name ∷ names) known whole is = by_known (collected-same names) (list_any (bytes_eq name) known) refl
  where
    rest : List Name → List Name
    rest first = fold with_name first (map (numbered_name whole) names)

    with_or_not : Bool → List Name
    with_or_not is_known = if is_known then known else known ++ name ∷ []

    numbered_or_not : ℕ → Bool → List Name
    numbered_or_not number is_known =
        if is_known then locals 0 (length known) else locals 0 (length known) ++ local number ∷ []

    by_known : ((known whole : List Name) → fold with_name known names ≡ whole →
        fold with_name (locals 0 (length known)) (map (numbered_name whole) names) ≡ locals 0 (length whole)) →
        (is_known : Bool) → list_any (bytes_eq name) known ≡ is_known →
        rest (with_name (locals 0 (length known)) (numbered_name whole name)) ≡ locals 0 (length whole)
    by_known later true e =
        let same : fold with_name known names ≡ whole = ap (λ b. fold with_name (with_or_not b) names) (sym e) ∙ is in
        let front = front-of names known in
        let less : number_of whole name < length known =
        subst (λ l. number_of l name < length known) (front.1 ∙ same) (number-known known front.0 name e) in
        let old : list_any (bytes_eq (numbered_name whole name)) (locals 0 (length known)) ≡ true =
        ap (λ n. list_any (bytes_eq (local n)) (locals 0 (length known))) (sym (zero-add (number_of whole name)))
        ∙ among-locals 0 (length known) (number_of whole name) less in
        ap (λ b. rest (numbered_or_not (number_of whole name) b)) old
        ∙ later known whole same
    by_known later false e =
        let more : List Name = known ++ name ∷ [] in
        let same : fold with_name more names ≡ whole = ap (λ b. fold with_name (with_or_not b) names) (sym e) ∙ is in
        let front = front-of names more in
        let all_of : known ++ name ∷ front.0 ≡ whole = sym (append_assoc known (name ∷ []) front.0) ∙ front.1 ∙ same in
        let last : number_of whole name ≡ length known =
        ap (λ l. number_of l name) (sym all_of) ∙ number-new known front.0 name e in
        let long : suc (length known) ≡ length more = omega (arith, length-append known (name ∷ [])) in
        let new : list_any (bytes_eq (local (length known))) (locals 0 (length known)) ≡ false =
        ap (λ n. list_any (bytes_eq (local n)) (locals 0 (length known))) (omega arith) ∙ past-locals 0 (length known) 0 in
        ap (λ n. rest (with_name (locals 0 (length known)) (local n))) last
        ∙ ap (λ b. rest (numbered_or_not (length known) b)) new
        ∙ ap (λ n. rest (locals 0 (length known) ++ local n ∷ [])) (omega arith)
        ∙ ap rest (sym (locals-more 0 (length known)) ∙ ap (locals 0) long)
        ∙ later more whole same

-- ---- coroutines
pub length-locals : (from count : ℕ) → length (locals from count) ≡ count
length-locals from zero = refl
length-locals from (suc count) = ap suc (length-locals (suc from) count)

pub variables-same : (coroutine : Coroutine) → variables_of (numbered_coroutine coroutine) ≡ locals 0 (length (variables_of coroutine))
variables-same coroutine =
    ap (fold with_name (locals 0 (length coroutine.parameters))) (names-all (variables_of coroutine) coroutine.body)
    ∙ collected-same (names_of coroutine.body) coroutine.parameters (variables_of coroutine) refl

coroutine-among : (coroutines : List Coroutine) (place : ℕ) →
    coroutine_or_none (slice_get (map numbered_coroutine coroutines) place) ≡ numbered_coroutine (coroutine_or_none (slice_get coroutines place))
coroutine-among [] place = refl
coroutine-among (first ∷ others) zero = refl
coroutine-among (first ∷ others) (suc place) = coroutine-among others place

pub coroutine-same : (program : Program) (place : ℕ) →
    coroutine_at (numbered_program program) place ≡ numbered_coroutine (coroutine_at program place)
coroutine-same program place = coroutine-among program.coroutines place

place-same-among : (coroutines : List Coroutine) (name : Name) →
    place_among (map numbered_coroutine coroutines) name ≡ place_among coroutines name
place-same-among [] name = refl
place-same-among (first ∷ others) name =
    ap (λ n. if bytes_eq first.name name then 0 else suc n) (place-same-among others name)

pub place-same : (program : Program) (name : Name) → place_of (numbered_program program) name ≡ place_of program name
place-same program name = place-same-among program.coroutines name
