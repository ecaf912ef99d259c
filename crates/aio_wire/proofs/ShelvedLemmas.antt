-- Files in a map beside the files that it stands for.
use Rattle.std.proofs.Common.{◌≡◌, ◌≢◌, ℕ, Bool, true, false, cond, List, [], ◌∷◌, ◌++◌, Option, Some, None, option_map, unwrap_or, String, Vec, Global}
use Rattle.std.proofs.Common.{string_bytes, refl, sym, ap, ◌∙◌, true≢false}
use Rattle.std.proofs.lemmas.Slice.Eq.{bytes_eq-Decides}
use Rattle.std.specs.Map.{lookup, set_value}
use Rattle.std.specs.Str.{bytes_eq}
use Rattle.std.specs.String.{string_eq}
use Rattle.aio_wire.specs.Shelved.{files_of, with_appended}
use Rattle.indexmap.specs.IndexMap.{insert_entry}

abbrev Entry : Type 0
Entry = String Global × Vec ℕ Global

bytes_eq-same : (name : List ℕ) → bytes_eq name name ≡ true
bytes_eq-same name = (bytes_eq-Decides name name).1 refl

bytes_eq-apart : (name other : List ℕ) → name ≢ other → bytes_eq name other ≡ false
bytes_eq-apart name other apart = go (bytes_eq name other) refl
  where
    go : (b : Bool) → bytes_eq name other ≡ b → b ≡ false
    go true is = absurd (apart ((bytes_eq-Decides name other).0 is))
    go false is = refl

-- whether a key has these bytes, as a look-up by text asks it
abbrev has_bytes : List ℕ → String Global → Bool
has_bytes name key = bytes_eq name (string_bytes key)

items-cond : (b : Bool) (bytes : Vec ℕ Global) (rest : Option (Vec ℕ Global)) (plain : Option (List ℕ)) → plain ≡ option_map (λ v. v.items) rest
    → cond b (Some bytes.items) plain ≡ option_map (λ v. v.items) (cond b (Some bytes) rest)
items-cond true bytes rest plain e = refl
items-cond false bytes rest plain e = e

-- a file is what the map has at its name
pub lookup-files_of : (name : List ℕ) (es : List Entry) → lookup (bytes_eq name) (files_of es) ≡ option_map (λ v. v.items) (lookup (has_bytes name) es)
lookup-files_of name [] = refl
lookup-files_of name (e ∷ es) = items-cond (has_bytes name e.0) e.1 _ _ (lookup-files_of name es)

files_of-cond : (b : Bool) (written kept : List Entry) (first rest : List (List ℕ × List ℕ)) → files_of written ≡ first → (b ≡ false → files_of kept ≡ rest)
    → files_of (cond b written kept) ≡ cond b first rest
files_of-cond true written kept first rest here later = here
files_of-cond false written kept first rest here later = later refl

at_false : (b : Bool) (first : Vec ℕ Global) (rest : Option (Vec ℕ Global)) (old : Vec ℕ Global) → cond b (Some first) rest ≡ Some old → b ≡ false → rest
    ≡ Some old
at_false true first rest old found other = absurd (true≢false other)
at_false false first rest old found other = found

at_true : (b : Bool) (first : Vec ℕ Global) (rest : Option (Vec ℕ Global)) (old : Vec ℕ Global) → cond b (Some first) rest ≡ Some old → b ≡ true → first ≡ old
at_true true first rest old found same = cc
at_true false first rest old found same = absurd (true≢false (sym same))

-- a value written at a name that is there is the file's
pub files_of-set_value : (name : List ℕ) (es : List Entry) (old new : Vec ℕ Global) → lookup (has_bytes name) es ≡ Some old
    → files_of (set_value (has_bytes name) es new) ≡ insert_entry bytes_eq (files_of es) name new.items
files_of-set_value name [] old new there = cc
files_of-set_value name (e ∷ es) old new there =
    files_of-cond (has_bytes name e.0) _ _ _ _ refl
    (λ other. ap (λ files. (string_bytes e.0, e.1.items) ∷ files) (files_of-set_value name es old new (at_false (has_bytes name e.0) e.1 _ old there other)))

-- an entry put into the map is a file put among the files
pub files_of-insert_entry : (es : List Entry) (key : String Global) (bytes : Vec ℕ Global)
    → files_of (insert_entry string_eq es key bytes) ≡ insert_entry bytes_eq (files_of es) (string_bytes key) bytes.items
files_of-insert_entry [] key bytes = refl
files_of-insert_entry (e ∷ es) key bytes =
    files_of-cond (string_eq key e.0) _ _ _ _ refl
    (λ other. ap (λ files. (string_bytes e.0, e.1.items) ∷ files) (files_of-insert_entry es key bytes))

same-cond : (b : Bool) (written kept : List Entry) (files : List (List ℕ × List ℕ)) → (b ≡ true → files_of written ≡ files)
    → (b ≡ false → files_of kept ≡ files)
    → files_of (cond b written kept) ≡ files
same-cond true written kept files first later = first refl
same-cond false written kept files first later = later refl

-- a value with the same bytes changes no file
pub files_of-set_value_same : (name : List ℕ) (es : List Entry) (old new : Vec ℕ Global) → lookup (has_bytes name) es ≡ Some old → new.items ≡ old.items
    → files_of (set_value (has_bytes name) es new) ≡ files_of es
files_of-set_value_same name [] old new there same = refl
files_of-set_value_same name (e ∷ es) old new there same =
    same-cond (has_bytes name e.0) _ _ _
    (λ first. ap (λ bytes. (string_bytes e.0, bytes) ∷ files_of es) (same ∙ sym (ap (λ v. v.items) (at_true (has_bytes name e.0) e.1 _ old there first))))
    (λ other. ap (λ files. (string_bytes e.0, e.1.items) ∷ files)
    (files_of-set_value_same name es old new (at_false (has_bytes name e.0) e.1 _ old there other) same))

module _ (name piece : List ℕ) (es after : List Entry) where
  -- what was there, in the words of `held`
  there : (old : Vec ℕ Global) → lookup (has_bytes name) es ≡ Some old → lookup (bytes_eq name) (files_of es) ≡ Some old.items
  there old found = lookup-files_of name es ∙ ap (option_map (λ v. v.items)) found

  -- bytes put behind those of a file that is there
  pub with_appended-there : (old new : Vec ℕ Global) → lookup (has_bytes name) es ≡ Some old → new.items ≡ old.items ++ piece
      → after ≡ set_value (has_bytes name) es new → files_of after ≡ with_appended (files_of es) name piece
  with_appended-there old new found grew wrote =
      ap files_of wrote ∙ files_of-set_value name es old new found
      ∙ ap (insert_entry bytes_eq (files_of es) name) (grew ∙ ap (λ held. unwrap_or held [] ++ piece) (sym (there old found)))

  -- a file that is made
  pub with_appended-made : (key : String Global) (bytes : Vec ℕ Global) → lookup (has_bytes name) es ≡ None → string_bytes key ≡ name → bytes.items ≡ piece
      → after ≡ insert_entry string_eq es key bytes → files_of after ≡ with_appended (files_of es) name piece
  with_appended-made key bytes none is holds put =
      ap files_of put ∙ files_of-insert_entry es key bytes
      ∙ (λ i. insert_entry bytes_eq (files_of es) (is i) (holds i))
      ∙ ap (λ held. insert_entry bytes_eq (files_of es) name (unwrap_or held [] ++ piece)) (sym (lookup-files_of name es ∙ ap (option_map (λ v. v.items)) none))

  -- a write of the same bytes
  pub files_of-unchanged : (old new : Vec ℕ Global) → lookup (has_bytes name) es ≡ Some old → new.items ≡ old.items
      → after ≡ set_value (has_bytes name) es new → files_of after ≡ files_of es
  files_of-unchanged old new found same wrote = ap files_of wrote ∙ files_of-set_value_same name es old new found same

abbrev pub Files : Type 0
Files = List (List ℕ × List ℕ)

-- a look-up past the first file: by whether the put replaces the first one
look_past : (b : Bool) (query : List ℕ → Bool) (key old new : List ℕ) (files put : Files) (want : Option (List ℕ))
    → (b ≡ true → cond (query key) (Some new) (lookup query files) ≡ want)
    → (b ≡ false → cond (query key) (Some old) (lookup query put) ≡ want)
    → lookup query (cond b ((key, new) ∷ files) ((key, old) ∷ put)) ≡ want
look_past true query key old new files put want here there = here refl
look_past false query key old new files put want here there = there refl

-- the file that was put is found
pub lookup-insert_entry : (files : Files) (name bytes : List ℕ) → lookup (bytes_eq name) (insert_entry bytes_eq files name bytes) ≡ Some bytes
lookup-insert_entry [] name bytes = rw (bytes_eq-same name)
lookup-insert_entry (file ∷ files) name bytes =
    look_past (bytes_eq name file.0) (bytes_eq name) file.0 file.1 bytes files _ _
    (λ same. rw same)
    (λ other. rw other (lookup-insert_entry files name bytes))

-- and every other file is what it was
pub lookup-insert_entry_other : (files : Files) (name bytes other : List ℕ) → other ≢ name
    → lookup (bytes_eq other) (insert_entry bytes_eq files name bytes) ≡ lookup (bytes_eq other) files
lookup-insert_entry_other [] name bytes other apart = rw (bytes_eq-apart other name apart)
lookup-insert_entry_other (file ∷ files) name bytes other apart =
    look_past (bytes_eq name file.0) (bytes_eq other) file.0 file.1 bytes files _ _
    (λ same. let here : name ≡ file.0 = (bytes_eq-Decides name file.0).0 same in rw (bytes_eq-apart other file.0 (λ is. apart (is ∙ sym here))))
    (λ later. ap (cond (bytes_eq other file.0) (Some file.1)) (lookup-insert_entry_other files name bytes other apart))
