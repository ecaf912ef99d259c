-- The code's last open block is the definition's innermost.
use Rattle.std.proofs.Common.{◌≡◌, ℕ, ◌+◌, ◌-◌, ◌<◌, Bool, true, false, not, ◌||◌, ◌&&◌, List, [], ◌∷◌, ◌++◌, Option, Some, None, IsSome, option_to_list}
use Rattle.std.proofs.Common.{length, map, reverse, take, get_or, set, refl, sym, ap, ◌∙◌, arith, append-nil}
use Rattle.std.specs.List.{list_any, slice_get}
use Rattle.std.proofs.lemmas.List.{take_more, take_all, reverse-append, map-append, length-take-le, set_at}
use Rattle.std.proofs.lemmas.Option.{slice_get_within, slice_get-get_or}
use Rattle.std.proofs.lemmas.Bool.{false≢true}
use Rattle.std.proofs.lemmas.List.Folds.{list_any-append}
use Rattle.model_text.specs.Places as plain
use Rattle.model_text.specs.Places.{after, begins, closes, fits, is_finally, is_outside, may_stand, open_blocks}
use Rattle.model_text.specs.Forms.{Spelled, Profile, Def, Return, Else, Except, Finally, End}
use Rattle.script_form.specs.declared.block.Section.{Section}
use Rattle.script_form.specs.declared.form_place.FormPlace.{FormPlace}
use Rattle.script_form.specs.declared.form_place.FormPlace.TheVariants as standing
use Rattle.script_form.specs.Placed.{standing_of}
use Rattle.script_form.specs.declared.block.OpenBlock.{OpenBlock}
use Rattle.script_form.specs.Blocks.{plain_block, plain_section, kept, plain_open, latest_of, is_in_finally}

-- a list is what stands before its last element, and that one
pub last_split : {X : Type 0} (xs : List X) (n : ℕ) (last : X) → n + 1 ≡ length xs → last ≡ get_or xs n last → xs ≡ take n xs ++ last ∷ []
last_split xs n last all is =
    sym (take_all (length xs) xs (omega arith)) ∙ ap (λ k. take k xs) (sym all)
    ∙ take_more xs n last (omega arith) ∙ ap (λ x. take n xs ++ x ∷ []) (sym is)

pub last_read : {X : Type 0} (xs : List X) (last : X) → Some last ≡ slice_get xs (length xs - 1) → xs ≡ take (length xs - 1) xs ++ last ∷ []
last_read xs last e =
    let n : ℕ = length xs - 1 in
    let within : n < length xs = slice_get_within xs n last (sym e) in
    let is : Some last ≡ Some (get_or xs n last) = e ∙ slice_get-get_or xs n last within in
    last_split xs n last (omega arith) cc

pub set_last : {X : Type 0} (xs : List X) (n : ℕ) (last new : X) → n + 1 ≡ length xs → last ≡ get_or xs n last → set xs n new ≡ take n xs ++ new ∷ []
set_last xs n last new all is =
    ap (λ l. set l n new) (last_split xs n last all is) ∙ set_at (take n xs) last [] new n (length-take-le n xs (omega arith))

-- the definition's innermost block, by the code's last
pub record Innermost (front : List OpenBlock) (last : OpenBlock) (blocks : List plain.OpenBlock) : Type 0 where
  pub innermost : plain.OpenBlock
  pub others : List plain.OpenBlock
  pub split : blocks ≡ innermost ∷ others
  pub same : plain_open last ≡ kept innermost
  pub rest : reverse (map plain_open front) ≡ map kept others

pub kept-last : (front : List OpenBlock) (last : OpenBlock) → reverse (map plain_open (front ++ last ∷ [])) ≡ plain_open last ∷ reverse (map plain_open front)
kept-last front last =
    ap reverse (map-append plain_open front (last ∷ [])) ∙ reverse-append (map plain_open front) (plain_open last ∷ [])

pub innermost_of : (front : List OpenBlock) (last : OpenBlock) (blocks : List plain.OpenBlock) → reverse (map plain_open (front ++ last ∷ [])) ≡ map kept blocks
    → Innermost front last blocks
innermost_of front last [] e = let e' = sym (kept-last front last) ∙ e in cc
innermost_of front last (block ∷ others) e =
    let e' = sym (kept-last front last) ∙ e in
    record { innermost = block; others = others; split = refl; same = cc; rest = cc }

-- A section begins in the innermost block.
pub section_begins : (front : List OpenBlock) (last : OpenBlock) (section : Section) (roles : List plain.Role) → reverse (map plain_open (front ++ last ∷ []))
    ≡ map kept (open_blocks roles) → reverse (map plain_open (front ++ record { block = last.block; latest = Some section } ∷ []))
    ≡ map kept (open_blocks (plain.Begins (plain_section section) ∷ roles))
section_begins front last section roles e =
    let i = innermost_of front last (open_blocks roles) e in
    kept-last front (record { block = last.block; latest = Some section })
    ∙ (λ k. record { block = (i.same k).block; latest = Some (plain_section section) } ∷ i.rest k)
    ∙ sym (ap (λ blocks. map kept (after (plain.Begins (plain_section section)) blocks)) i.split)

-- It begins nowhere where no block is open.
pub no_section_begins : (blocks : List OpenBlock) (section : plain.Section) (roles : List plain.Role) → length blocks ≡ 0 → reverse (map plain_open blocks)
    ≡ map kept (open_blocks roles) → reverse (map plain_open blocks) ≡ map kept (open_blocks (plain.Begins section ∷ roles))
no_section_begins (block ∷ blocks) section roles none e = absurd (omega arith)
no_section_begins [] section roles none e =
    nothing (open_blocks roles) e
  where
    nothing : (blocks : List plain.OpenBlock) → [] ≡ map kept blocks → [] ≡ map kept (after (plain.Begins section) blocks)
    nothing [] e = refl
    nothing (block ∷ blocks) e = cc

-- The innermost block closes.
pub block_closes : (before rest : List OpenBlock) (popped : Option OpenBlock) (roles : List plain.Role) → before ≡ rest ++ option_to_list popped
    → (0 < length before → IsSome popped) → reverse (map plain_open before) ≡ map kept (open_blocks roles) → reverse (map plain_open rest)
    ≡ map kept (open_blocks (plain.Closes ∷ roles))
block_closes before rest (Some last) roles split some e =
    let i = innermost_of rest last (open_blocks roles) (sym (ap (λ blocks. reverse (map plain_open blocks)) split) ∙ e) in
    i.rest ∙ sym (ap (λ blocks. map kept (after plain.Closes blocks)) i.split)
block_closes [] rest None roles split some e =
    ap (λ blocks. reverse (map plain_open blocks)) (sym (append-nil rest) ∙ sym split)
    ∙ nothing (open_blocks roles) e
  where
    nothing : (blocks : List plain.OpenBlock) → [] ≡ map kept blocks → [] ≡ map kept (after plain.Closes blocks)
    nothing [] e = refl
    nothing (block ∷ blocks) e = cc
block_closes (block ∷ before) rest None roles split some e = absurd (false≢true (some (omega arith)))

-- Whether the innermost block takes a line.
pub section_fits : (front : List OpenBlock) (last : OpenBlock) (answer : Bool) (section : plain.Section) (roles : List plain.Role)
    → reverse (map plain_open (front ++ last ∷ [])) ≡ map kept (open_blocks roles)
    → ((sections : List plain.Section) → (plain_open last).latest ≡ latest_of sections → answer ≡ begins section (plain_block last.block) sections) → answer
    ≡ fits (open_blocks roles) (plain.Begins section)
section_fits front last answer section roles e by =
    let i = innermost_of front last (open_blocks roles) e in
    by i.innermost.sections (ap (λ k. k.latest) i.same)
    ∙ ap (λ block. begins section block i.innermost.sections) (ap (λ k. k.block) i.same)
    ∙ sym (ap (λ blocks. fits blocks (plain.Begins section)) i.split)

pub end_fits : (front : List OpenBlock) (last : OpenBlock) (answer : Bool) (roles : List plain.Role) → reverse (map plain_open (front ++ last ∷ []))
    ≡ map kept (open_blocks roles)
    → ((sections : List plain.Section) → (plain_open last).latest ≡ latest_of sections → answer ≡ closes (plain_block last.block) sections) → answer
    ≡ fits (open_blocks roles) plain.Closes
end_fits front last answer roles e by =
    let i = innermost_of front last (open_blocks roles) e in
    by i.innermost.sections (ap (λ k. k.latest) i.same)
    ∙ ap (λ block. closes block i.innermost.sections) (ap (λ k. k.block) i.same)
    ∙ sym (ap (λ blocks. fits blocks plain.Closes) i.split)

list_any-reverse : {X : Type 0} (p : X → Bool) (xs : List X) → list_any p (reverse xs) ≡ list_any p xs
list_any-reverse p [] = refl
list_any-reverse p (x ∷ xs) =
    ap (list_any p) (reverse-append (x ∷ []) xs) ∙ list_any-append p (reverse xs) (x ∷ [])
    ∙ ap (λ b. b || (p x || false)) (list_any-reverse p xs) ∙ swapped (list_any p xs) (p x)
  where
    swapped : (a b : Bool) → (a || (b || false)) ≡ (b || a)
    swapped true true = refl
    swapped true false = refl
    swapped false true = refl
    swapped false false = refl

list_any-map : {X Y : Type 0} (f : X → Y) (p : Y → Bool) (xs : List X) → list_any p (map f xs) ≡ list_any (λ x. p (f x)) xs
list_any-map f p [] = refl
list_any-map f p (x ∷ xs) = ap (λ b. p (f x) || b) (list_any-map f p xs)

finally-kept : (block : plain.OpenBlock) → is_in_finally (kept block) ≡ is_finally block.sections
finally-kept block = by_sections block.block block.sections
  where
    by_sections : (of : plain.Block) (sections : List plain.Section) → is_in_finally (kept (record { block = of; sections = sections })) ≡ is_finally sections
    by_sections of [] = refl
    by_sections of (plain.ElseSection ∷ sections) = refl
    by_sections of (plain.ExceptSection ∷ sections) = refl
    by_sections of (plain.FinallySection ∷ sections) = refl

all_kept : (blocks : List plain.OpenBlock) → list_any (λ block. is_in_finally (kept block)) blocks ≡ list_any (λ block. is_finally block.sections) blocks
all_kept [] = refl
all_kept (block ∷ blocks) = λ i. finally-kept block i || all_kept blocks i

-- Whether some open block is in its `finally`.
pub finally_inside : (blocks : List OpenBlock) (others : List plain.OpenBlock) → reverse (map plain_open blocks) ≡ map kept others
    → list_any (λ block. is_in_finally (plain_open block)) blocks ≡ list_any (λ block. is_finally block.sections) others
finally_inside blocks others e =
    sym (list_any-map plain_open is_in_finally blocks) ∙ sym (list_any-reverse is_in_finally (map plain_open blocks))
    ∙ ap (list_any is_in_finally) e ∙ list_any-map kept is_in_finally others ∙ all_kept others

-- where a form may stand, by its standing
abbrev stands : FormPlace → Bool → List plain.OpenBlock → Bool
stands standing.First is_first blocks = is_first
stands standing.Outside is_first blocks = is_outside blocks
stands standing.Inside is_first blocks = not (is_outside blocks)
stands standing.OutsideFinally is_first blocks =
    not (is_outside blocks) && not (list_any (λ block. is_finally block.sections) blocks)
stands standing.Anywhere is_first blocks = true

may_stand-by : (form : Spelled) (is_first : Bool) (blocks : List plain.OpenBlock) → may_stand is_first blocks form ≡ stands (standing_of form) is_first blocks
may_stand-by (Profile number) is_first blocks = refl
may_stand-by (Def name parameters) is_first blocks = refl
may_stand-by (Return value) is_first blocks = refl
may_stand-by Else is_first blocks = refl
may_stand-by (Except kind name) is_first blocks = refl
may_stand-by Finally is_first blocks = refl
may_stand-by End is_first blocks = refl
may_stand-by _ is_first blocks = refl

-- A form that stands in no `finally`, inside a block.
pub outside_finally : (blocks : List OpenBlock) (answer : Bool) (form : Spelled) (is_first : Bool) (others : List plain.OpenBlock) → standing.OutsideFinally
    ≡ standing_of form → false ≡ is_outside others → answer ≡ list_any (λ block. is_in_finally (plain_open block)) blocks → reverse (map plain_open blocks)
    ≡ map kept others → not answer ≡ may_stand is_first others form
outside_finally blocks answer form is_first others same inside is e =
    ap not (is ∙ finally_inside blocks others e)
    ∙ ap (λ outside. not outside && not (list_any (λ block. is_finally block.sections) others)) inside
    ∙ ap (λ standing. stands standing is_first others) same
    ∙ sym (may_stand-by form is_first others)
