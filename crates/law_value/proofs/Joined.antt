-- The text of a list with one more item, or of members with one more: what stands between, and then that one.
use Rattle.std.proofs.Common.{◌≡◌, ℕ, refl, ap, List, [], ◌∷◌, ◌++◌, append_assoc, if◌then◌else◌}
use Rattle.std.proofs.lemmas.List.{append-nil}
use lib.Chars.{codes}
use Rattle.model_value.specs.Kinds.{kind_name}
use Rattle.model_value.specs.Escapes.{text_literal}
use Rattle.model_value.specs.Value.{Value, Exc, exc, values, excs, kind_of, text_of, members_of}
use Rattle.model_value.specs.Shown.{quoted, quoted_items, more_items, is_group, shown_exc, shown_members, more_members}
use Rattle.law_value.proofs.Rows.{excs-excs_of}

-- what stands before the next item, behind these
abbrev pub separator : {A : Type 0} → List A → List ℕ
separator [] = []
separator (x ∷ xs) = codes ", "

pub separator-push : {A : Type 0} (xs : List A) (x : A) → separator (xs ++ x ∷ []) ≡ codes ", "
separator-push [] x = refl
separator-push (y ∷ xs) x = refl

more_items-push : (vs : List Value) (v : Value) → more_items (values (vs ++ v ∷ [])) ≡ more_items (values vs) ++ (codes ", " ++ quoted v)
more_items-push [] v = ap (λ r. codes ", " ++ r) (append-nil (quoted v))
more_items-push (w ∷ vs) v = simp (more_items-push vs v, append_assoc)

pub quoted_items-push : (vs : List Value) (v : Value) → quoted_items (values (vs ++ v ∷ [])) ≡ quoted_items (values vs) ++ (separator vs ++ quoted v)
quoted_items-push [] v = append-nil (quoted v)
quoted_items-push (w ∷ vs) v = simp (more_items-push vs v, append_assoc)

more_members-push : (es : List Exc) (e : Exc) → more_members (excs (es ++ e ∷ [])) ≡ more_members (excs es) ++ (codes ", " ++ shown_exc e)
more_members-push [] e = ap (λ r. codes ", " ++ r) (append-nil (shown_exc e))
more_members-push (f ∷ es) e = simp (more_members-push es e, append_assoc)

pub shown_members-push : (es : List Exc) (e : Exc) → shown_members (excs (es ++ e ∷ [])) ≡ shown_members (excs es) ++ (separator es ++ shown_exc e)
shown_members-push [] e = append-nil (shown_exc e)
shown_members-push (f ∷ es) e = simp (more_members-push es e, append_assoc)

-- an exception's text by its parts
pub shown_exc-parts : (e : Exc) → shown_exc e ≡ kind_name (kind_of e)
    ++ codes "(" ++ text_literal (text_of e) ++ (if is_group (kind_of e) then codes ", [" ++ shown_members (excs (members_of e)) ++ codes "]" else [])
    ++ codes ")"
shown_exc-parts (exc kind text bytes members) = rw (excs-excs_of members) refl
