-- What lines spell, by the role of the first line, however many statements are allowed.
use Rattle.std.proofs.Common.{◌≡◌, ℕ, zero, suc, ◌≤◌, List, [], ◌∷◌, length, refl, ap, ◌∙◌, arith}
use Rattle.model_tree.specs.Syntax.{Statements, no_statements}
use Rattle.model_text.specs.Places.{Role, Opens, Stands, Block, role_of}
use Rattle.model_text.specs.SecondPass.{Line}
use Rattle.model_text.specs.Bodies.{SectionLines, cut_from, simple, bodies, block, then_statements, block_then, first_then, statements_within, statements_in}
use Rattle.aio_program.proofs.CutLemmas.{AllWithin, IsWithin, is_within}

bodies_same : (p q : List Line → Statements) (count : ℕ) (sections : List SectionLines) → AllWithin count sections
    → ((lines : List Line) → length lines ≤ count → p lines ≡ q lines) → bodies p sections ≡ bodies q sections
bodies_same p q count [] within same = refl
bodies_same p q count (section ∷ sections) within same =
    λ i. record { head = section.head; body = same section.lines within.0 i } ∷ bodies_same p q count sections within.1 same i

block_same : (p q : List Line → Statements) (line : Line) (lines : List Line) → ((l : List Line) → length l ≤ length lines → p l ≡ q l)
    → block_then p line (cut_from 0 lines) ≡ block_then q line (cut_from 0 lines)
block_same p q line lines same =
    let cut = cut_from 0 lines in
    let within : IsWithin (length lines) lines cut = is_within lines (length lines) 0 (omega arith) in
    let first : p cut.body ≡ q cut.body = same cut.body within.body in
    let others : bodies p cut.sections ≡ bodies q cut.sections =
    bodies_same p q (length lines) cut.sections within.sections same in
    let behind : p cut.behind ≡ q cut.behind = same cut.behind within.behind in
    λ i. then_statements (block line (first i) (others i)) (behind i)

first_same : (role : Role) (p q : List Line → Statements) (line : Line) (lines : List Line) → ((l : List Line) → length l ≤ length lines → p l ≡ q l)
    → first_then role p line lines ≡ first_then role q line lines
first_same (Opens b) p q line lines same = block_same p q line lines same
first_same _ p q line lines same = ap (then_statements (simple line)) (same lines (omega arith))

steady : (n m : ℕ) (lines : List Line) → length lines ≤ n → length lines ≤ m → statements_within n lines ≡ statements_within m lines
steady zero zero lines h h' = refl
steady zero (suc m) [] h h' = refl
steady zero (suc m) (line ∷ lines) h h' = absurd (omega arith)
steady (suc n) zero [] h h' = refl
steady (suc n) zero (line ∷ lines) h h' = absurd (omega arith)
steady (suc n) (suc m) [] h h' = refl
steady (suc n) (suc m) (line ∷ lines) h h' =
    first_same (role_of line) (statements_within n) (statements_within m) line lines (λ l within. steady n m l (omega arith) (omega arith))

pub read_nothing : statements_in [] ≡ no_statements
unfolding statements_in
read_nothing = refl

pub read_alone : (line : Line) (lines : List Line) → role_of line ≡ Stands → statements_in (line ∷ lines) ≡ then_statements (simple line) (statements_in lines)
unfolding statements_in
read_alone line lines e = ap (λ role. first_then role (statements_within (length lines)) line lines) e

pub read_block : (line : Line) (b : Block) (lines : List Line) → role_of line ≡ Opens b → statements_in (line ∷ lines)
    ≡ block_then statements_in line (cut_from 0 lines)
unfolding statements_in
read_block line b lines e =
    ap (λ role. first_then role (statements_within (length lines)) line lines) e
    ∙ block_same (statements_within (length lines)) (λ l. statements_within (length l) l) line lines
    (λ l within. steady (length lines) (length l) l within (omega arith))
