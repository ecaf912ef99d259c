-- Faults in the order of lines.
use Rattle.std.proofs.Common.{◌≡◌, ℕ, ◌+◌, ◌<◌, Bool, true, false, if◌then◌else◌, List, [], ◌∷◌, ◌++◌, length, drop, map, find, slice_index_or, Result, Ok, Err}
use Rattle.std.proofs.Common.{IsErrAnd, refl, ap, ap₂, sym, ◌∙◌, subst}
use Rattle.std.specs.Str.{bytes_eq}
use Rattle.std.proofs.lemmas.List.{append_assoc, drop_more, map-append}
use Rattle.model_tree.specs.Syntax.{Name}
use Rattle.model_text.specs.declared.cause.Cause.TheVariants as cause
use Rattle.model_text.specs.Forms.{Spelled}
use Rattle.model_text.specs.FirstPass.{Numbered, fault_at}
use Rattle.model_text.specs.Naming.{Meant, Callee}
use Rattle.model_text.specs.SecondPass.{Line, Part, Judged, judged_at, in_turn, head_meant, lines_judged, named_part, part_judged, parts_judged, callee}
use Rattle.model_text.specs.SecondPass.{main_text, is_main, main_judged, second_pass, variables_in}
use Rattle.aio_program.specs.declared.line.NamedPart.{NamedPart}
use Rattle.aio_program.specs.Line.{plain_part as plain_named_part}
use Rattle.script_fault.specs.declared.line_fault.LineFault.{LineFault}
use Rattle.script_fault.specs.declared.line_fault.LineFault.TheVariants.{Refused, Memory}
use Rattle.script_fault.specs.declared.script_fault.ScriptFault.{ScriptFault}
use Rattle.script_fault.specs.declared.script_fault.ScriptFault.TheVariants as script
use Rattle.script_fault.specs.Faults.{IsFaultOf}
use Rattle.script_naming.specs.declared.part.Part.{Part as LentPart}
use Rattle.script_naming.specs.Gives.{Gives}
use Rattle.script_naming.specs.Judges.{Judges, found_at}
use Rattle.script_naming.specs.Parts.{plain_part, plain_parts}

-- what was found before, and then what is judged
abbrev pub after : {A : Type 0} → List A → Judged (List A) → Judged (List A)
after found (Ok others) = Ok (found ++ others)
after found (Err fault) = Err fault

pub after-more : {A : Type 0} (found : List A) (first : A) (others : Judged (List A)) → after found (in_turn (λ x xs. x ∷ xs) (Ok first) others)
    ≡ after (found ++ first ∷ []) others
after-more found first (Ok others) = ap Ok (sym (append_assoc found (first ∷ []) others))
after-more found first (Err fault) = refl

pub after-none : {A : Type 0} (others : Judged (List A)) → others ≡ after [] others
after-none (Ok others) = refl
after-none (Err fault) = refl

pub judges-found : {A B : Type 0} (line : ℕ) (view : A → B) (meant : Meant B) (found : Result A LineFault) → Gives view meant found
    → Judges view (judged_at line meant) (found_at line found)
judges-found line view meant (Ok a) gives = ap (λ m. judged_at line m) gives
judges-found line view meant (Err (Refused why)) gives = (why, ap (λ m. judged_at line m) gives, refl)
judges-found line view meant (Err Memory) gives = tt

pub judges-err : {A B : Type 0} (view : A → B) (judged : Judged B) (found : Result A ScriptFault) (fault : ScriptFault) → IsErrAnd found (λ e. e ≡ fault)
    → IsFaultOf judged fault → Judges view judged found
judges-err view judged (Ok a) fault is fails = absurd is
judges-err view judged (Err e) fault is fails = subst (IsFaultOf judged) (sym is) fails

-- what fails makes another judgement fail at the same line
pub fails-at-along : {A B : Type 0} (judged : Judged A) (other : Judged B) (fault : ScriptFault) → ((f : _) → judged ≡ Err f → other ≡ Err f)
    → IsFaultOf judged fault → IsFaultOf other fault
fails-at-along judged other (script.Refused line number) along fails = (fails.0, along _ fails.1, fails.2)
fails-at-along judged other script.Memory along fails = tt

-- ---- a coroutine
-- its head stands where the code found nothing wrong
pub head-stands : {A B : Type 0} (line : ℕ) (name : B) (meant : Meant B) (found : Result A LineFault) (a : A) → Gives (λ _. name) meant found
    → Ok a ≡ found_at line found → judged_at line meant ≡ Ok name
head-stands line name meant (Ok b) a gives is = ap (λ m. judged_at line m) gives
head-stands line name meant (Err fault) a gives is = cc

module _ (callees : List Callee) (names : List Name) (part : Part (Numbered Spelled)) (name : Name)
    (head : judged_at part.line (head_meant names part) ≡ Ok name) where
  pub part-is : (lines : List Line) → lines_judged (record { callees = callees; variables = variables_in part }) part.lines ≡ Ok lines
      → part_judged callees names part ≡ Ok (named_part part lines)
  part-is lines judged = ap₂ (in_turn (λ (n : Name) (ls : List Line). named_part part ls)) head judged

  pub part-fails : (fault : ScriptFault) → IsFaultOf (lines_judged (record { callees = callees; variables = variables_in part }) part.lines) fault
      → IsFaultOf (part_judged callees names part) fault
  part-fails fault fails =
      fails-at-along (lines_judged (record { callees = callees; variables = variables_in part }) part.lines) (part_judged callees names part) fault
      (λ f e. ap₂ (in_turn (λ (n : Name) (ls : List Line). named_part part ls)) head e) fails

-- ---- coroutines in order
parts-then : (callees : List Callee) (names : List Name) (parts : List LentPart) (at : ℕ) (part : LentPart) → at < length parts → part
    ≡ slice_index_or parts at part → parts_judged callees names (plain_parts (drop at parts))
    ≡ in_turn (λ x xs. x ∷ xs) (part_judged callees names (plain_part part))
    (parts_judged callees ((plain_part part).name ∷ names) (plain_parts (drop (at + 1) parts)))
parts-then callees names parts at part inside is =
    ap (λ l. parts_judged callees names (plain_parts l)) (drop_more parts at part inside ∙ ap (λ p. p ∷ drop (at + 1) parts) (sym is))

pub parts-fail : (callees : List Callee) (names : List Name) (parts : List LentPart) (at : ℕ) (part : LentPart) (whole : Judged (List (Part Line)))
    (found : List (Part Line)) (fault : ScriptFault) → at < length parts → part ≡ slice_index_or parts at part → whole
    ≡ after found (parts_judged callees names (plain_parts (drop at parts))) → IsFaultOf (part_judged callees names (plain_part part)) fault
    → IsFaultOf whole fault
parts-fail callees names parts at part whole found fault inside is whole_is fails =
    fails-at-along (part_judged callees names (plain_part part)) whole fault
    (λ f e. whole_is
    ∙ ap (λ judged. after found judged)
    (parts-then callees names parts at part inside is
    ∙ ap (λ judged. in_turn (λ (x : Part Line) xs. x ∷ xs) judged
    (parts_judged callees ((plain_part part).name ∷ names) (plain_parts (drop (at + 1) parts)))) e))
    fails

pub parts-more : (callees : List Callee) (names : List Name) (parts : List LentPart) (at : ℕ) (part : LentPart) (whole : Judged (List (Part Line)))
    (found more : List NamedPart) (named : NamedPart) → at < length parts → part ≡ slice_index_or parts at part → whole
    ≡ after (map plain_named_part found) (parts_judged callees names (plain_parts (drop at parts))) → part_judged callees names (plain_part part)
    ≡ Ok (plain_named_part named) → more ≡ found ++ named ∷ [] → whole
    ≡ after (map plain_named_part more) (parts_judged callees ((plain_part part).name ∷ names) (plain_parts (drop (at + 1) parts)))
parts-more callees names parts at part whole found more named inside is whole_is judged more_is =
    let others = parts_judged callees ((plain_part part).name ∷ names) (plain_parts (drop (at + 1) parts)) in
    whole_is
    ∙ ap (λ j. after (map plain_named_part found) j)
    (parts-then callees names parts at part inside is ∙ ap (λ j. in_turn (λ (x : Part Line) xs. x ∷ xs) j others) judged)
    ∙ after-more (map plain_named_part found) (plain_named_part named) others
    ∙ ap (λ l. after l others) (sym (map-append plain_named_part found (named ∷ [])) ∙ ap (λ l. map plain_named_part l) (sym more_is))

-- ---- all coroutines, and `main`
abbrev main_by : ℕ → Bool → Judged Bool
main_by last has_main = if has_main then Ok true else fault_at last cause.NoMain

by_test : (last : ℕ) (test answer : Bool) → test ≡ answer → main_by last test ≡ main_by last answer
by_test last test answer e = ap (main_by last) e

pub pass-fails : (last : ℕ) (parts : List (Part (Numbered Spelled))) (fault : ScriptFault) → IsFaultOf (parts_judged (map callee parts) [] parts) fault
    → IsFaultOf (second_pass last parts) fault
unfolding second_pass
pass-fails last parts fault fails =
    let main = main_judged last (map callee parts) in
    fails-at-along (parts_judged (map callee parts) [] parts)
    (in_turn (λ (judged : List (Part Line)) (m : Bool). judged) (parts_judged (map callee parts) [] parts) main) fault
    (λ f e. ap (λ j. in_turn (λ (judged : List (Part Line)) (m : Bool). judged) j main) e) fails

pub pass-is : (last : ℕ) (parts : List (Part (Numbered Spelled))) (named : List (Part Line)) → parts_judged (map callee parts) [] parts ≡ Ok named
    → is_main (find (λ callee. bytes_eq callee.name main_text) (map callee parts)) ≡ true → second_pass last parts ≡ Ok named
unfolding second_pass
pass-is last parts named judged main =
    ap₂ (in_turn (λ (these : List (Part Line)) (m : Bool). these)) judged (by_test last _ true main)

pub pass-without-main : (last : ℕ) (parts : List (Part (Numbered Spelled))) (named : List (Part Line)) → parts_judged (map callee parts) [] parts ≡ Ok named
    → is_main (find (λ callee. bytes_eq callee.name main_text) (map callee parts)) ≡ false → second_pass last parts ≡ fault_at last cause.NoMain
unfolding second_pass
pass-without-main last parts named judged main =
    ap₂ (in_turn (λ (these : List (Part Line)) (m : Bool). these)) judged (by_test last _ false main)
