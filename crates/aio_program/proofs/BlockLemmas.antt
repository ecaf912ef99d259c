-- What a line makes of blocks that are open, by its role.
use Rattle.std.proofs.Common.{◌≡◌, List, [], ◌∷◌, ◌++◌, Option, Some, None, option_to_list, refl, sym, ap, ◌∙◌, append_assoc}
use Rattle.model_tree.specs.Syntax.{Statement, Statements, no_statements, statement_then, statements}
use Rattle.model_text.specs.Places.{Opens, Begins, Closes, Stands, Block, role_of}
use Rattle.model_text.specs.Places as places
use Rattle.model_text.specs.SecondPass.{Line}
use Rattle.model_text.specs.Bodies.{BlockLines, cut_from, simple, SectionBody, bodies, block, then_statements, block_then, statements_in, body_in}
use Rattle.aio_program.specs.declared.block.UnendedBlock.{UnendedBlock}
use Rattle.aio_program.specs.declared.sorted.Head.{Head}
use Rattle.aio_program.specs.declared.sorted.Head.TheVariants as head
use Rattle.aio_program.specs.declared.sorted.Begin.{Begin}
use Rattle.aio_program.specs.declared.sorted.Begin.TheVariants as begin
use Rattle.aio_program.specs.Sorted.{plain_head, plain_begin}
use Rattle.aio_program.specs.Block.{over, latest, with_block}
use Rattle.aio_program.specs.Body.{in_front, SectionRest, rest_of, rest, around_block, around, around_all}
use Rattle.aio_program.proofs.CutLemmas.{cut_stands, cut_opens, cut_begins, cut_closes, GoesOnAfter, goes_on}
use Rattle.aio_program.proofs.ReadLemmas.{read_nothing, read_alone, read_block}

-- ---- statements in front of others
pub in_front-nothing : (so_far : List Statement) → in_front so_far no_statements ≡ statements so_far
in_front-nothing [] = refl
in_front-nothing (first ∷ more) = ap (statement_then first) (in_front-nothing more)

in_front-then : (so_far : List Statement) (next : Option Statement) (others : Statements) → in_front so_far (then_statements next others)
    ≡ in_front (so_far ++ option_to_list next) others
in_front-then [] None others = refl
in_front-then [] (Some next) others = refl
in_front-then (first ∷ more) next others = ap (statement_then first) (in_front-then more next others)

in_front-read : (so_far : List Statement) → in_front so_far (statements_in []) ≡ statements so_far
in_front-read so_far = ap (in_front so_far) read_nothing ∙ in_front-nothing so_far

-- ---- the line stands by itself
pub rest-stands : (line : Line) → role_of line ≡ Stands → (so_far : List Statement) (lines : List Line) → rest so_far (line ∷ lines)
    ≡ rest (so_far ++ option_to_list (simple line)) lines
unfolding rest
rest-stands line e so_far lines =
    let cut = cut_from 0 lines in
    let body : in_front so_far (statements_in (line ∷ cut.body)) ≡ in_front (so_far ++ option_to_list (simple line)) (statements_in cut.body) =
    ap (in_front so_far) (read_alone line cut.body e) ∙ in_front-then so_far (simple line) (statements_in cut.body) in
    ap (rest_of so_far) (cut_stands line e 0 lines) ∙ (λ i. record { body = body i; sections = bodies statements_in cut.sections; behind = cut.behind })

-- ---- the body ends
pub rest-nothing : (so_far : List Statement) → (rest so_far []).body ≡ statements so_far
unfolding rest
rest-nothing so_far = in_front-read so_far

pub rest-begins : (line : Line) (section : places.Section) → role_of line ≡ Begins section → (so_far : List Statement) (lines : List Line)
    → (rest so_far (line ∷ lines)).body ≡ statements so_far
unfolding rest
rest-begins line section e so_far lines =
    ap (λ (cut : BlockLines). in_front so_far (statements_in cut.body)) (cut_begins line section e lines) ∙ in_front-read so_far

pub rest-closes : (line : Line) → role_of line ≡ Closes → (so_far : List Statement) (lines : List Line) → (rest so_far (line ∷ lines)).body ≡ statements so_far
unfolding rest
rest-closes line e so_far lines =
    ap (λ (cut : BlockLines). in_front so_far (statements_in cut.body)) (cut_closes line e lines) ∙ in_front-read so_far

-- ---- a block around the rest
pub around-nothing : (outer : List Statement) (sections : List SectionBody) (head : Line) (so_far : List Statement)
    → around_block outer sections head (rest so_far []) ≡ rest (with_block outer (sections ++ record { head = head; body = statements so_far } ∷ [])) []
unfolding around_block rest
around-nothing outer sections head so_far =
    ap (λ (body : Statements). rest (with_block outer (sections ++ record { head = head; body = body } ∷ [])) []) (in_front-read so_far)

pub around-closes : (line : Line) → role_of line ≡ Closes
    → (outer : List Statement) (sections : List SectionBody) (head : Line) (so_far : List Statement) (lines : List Line)
    → around_block outer sections head (rest so_far (line ∷ lines))
    ≡ rest (with_block outer (sections ++ record { head = head; body = statements so_far } ∷ [])) lines
unfolding around_block rest
around-closes line e outer sections head so_far lines =
    ap (λ (cut : BlockLines). around_block outer sections head (rest_of so_far cut)) (cut_closes line e lines)
    ∙ ap (λ (body : Statements). rest (with_block outer (sections ++ record { head = head; body = body } ∷ [])) lines) (in_front-read so_far)

pub around-begins : (line : Line) (section : places.Section) → role_of line ≡ Begins section
    → (outer : List Statement) (sections : List SectionBody) (head : Line) (so_far : List Statement) (lines : List Line)
    → around_block outer sections head (rest so_far (line ∷ lines))
    ≡ around_block outer (sections ++ record { head = head; body = statements so_far } ∷ []) line (rest [] lines)
unfolding around_block rest
around-begins line section e outer sections head so_far lines =
    let cut = cut_from 0 lines in
    let others : List SectionBody = record { head = line; body = statements_in cut.body } ∷ bodies statements_in cut.sections in
    ap (λ (cut : BlockLines). around_block outer sections head (rest_of so_far cut)) (cut_begins line section e lines)
    ∙ (ap (λ (body : Statements). rest (with_block outer (sections ++ record { head = head; body = body } ∷ others)) cut.behind) (in_front-read so_far)
    ∙ ap (λ (all : List SectionBody). rest (with_block outer all) cut.behind)
    (sym (append_assoc sections (record { head = head; body = statements so_far } ∷ []) others)))

pub rest-opens : (line : Line) (b : Block) → role_of line ≡ Opens b → (so_far : List Statement) (lines : List Line) → rest so_far (line ∷ lines)
    ≡ around_block so_far [] line (rest [] lines)
unfolding around_block rest
rest-opens line b e so_far lines =
    let cut = cut_from 0 lines in
    let outer = cut_from 1 lines in
    let next = cut_from 0 cut.behind in
    let on : GoesOnAfter outer cut (cut_from 0 outer.body) = goes_on lines 0 in
    let made : Option Statement = block line (statements_in cut.body) (bodies statements_in cut.sections) in
    let read : statements_in (line ∷ outer.body) ≡ then_statements made (statements_in next.body) =
    read_block line b outer.body e ∙ ap (block_then statements_in line) on.body in
    let body : in_front so_far (statements_in (line ∷ outer.body)) ≡ in_front (so_far ++ option_to_list made) (statements_in next.body) =
    ap (in_front so_far) read ∙ in_front-then so_far made (statements_in next.body) in
    ap (rest_of so_far) (cut_opens line b e 0 lines) ∙ (λ i. record { body = body i; sections = bodies statements_in (on.sections i); behind = on.behind i })

-- ---- all blocks
pub around_all-last : (blocks : List UnendedBlock) (last : UnendedBlock) (inner : SectionRest) → around_all (blocks ++ last ∷ []) inner
    ≡ around_all blocks (around last inner)
around_all-last [] last inner = refl
around_all-last (first ∷ blocks) last inner = ap (around first) (around_all-last blocks last inner)

-- the rest of a body with no statement yet is the body
pub body_in-rest : (lines : List Line) → body_in lines ≡ (rest [] lines).body
unfolding rest
body_in-rest lines = refl

-- ---- roles of sorted lines
pub opens : (h : Head) → (block : Block) × (role_of (plain_head h) ≡ Opens block)
opens (head.Def name parameters) = (places.DefBlock, refl)
opens (head.If test) = (places.IfBlock, refl)
opens (head.While test) = (places.WhileBlock, refl)
opens head.Try = (places.TryBlock, refl)
opens (head.WithGroup name) = (places.WithBlock, refl)
opens (head.WithTimeout delay name) = (places.WithBlock, refl)

pub begins : (b : Begin) → (section : places.Section) × (role_of (plain_begin b) ≡ Begins section)
begins begin.Else = (places.ElseSection, refl)
begins (begin.Except kind name) = (places.ExceptSection, refl)
begins begin.Finally = (places.FinallySection, refl)

-- ---- blocks that are pushed and popped
-- a block at the end, and nothing in its section yet
pub pushed : (blocks all : List UnendedBlock) (block : UnendedBlock) (outer so_far : List Statement) (sections : List SectionBody) (head : Line)
    (lines : List Line) (inner : SectionRest) → all ≡ blocks ++ block ∷ [] → block.outer.items ≡ outer → over block ≡ sections → latest block ≡ head → so_far
    ≡ [] → around_block outer sections head (rest [] lines) ≡ inner → (around_all all (rest so_far lines)).body ≡ (around_all blocks inner).body
pushed blocks all block outer so_far sections head lines inner is_all is_outer is_over is_latest is_empty e =
    let here : around block (rest so_far lines) ≡ inner =
    (λ i. around_block (is_outer i) (is_over i) (is_latest i) (rest (is_empty i) lines)) ∙ e in
    ap (λ (bs : List UnendedBlock). (around_all bs (rest so_far lines)).body) is_all
    ∙ (ap (λ (r : SectionRest). r.body) (around_all-last blocks block (rest so_far lines)) ∙ ap (λ (r : SectionRest). (around_all blocks r).body) here)

-- the last block, taken off
pub popped : (blocks left : List UnendedBlock) (block : UnendedBlock) (inner : SectionRest) → blocks ≡ left ++ block ∷ []
    → (around_all left (around block inner)).body ≡ (around_all blocks inner).body
popped blocks left block inner e =
    sym (ap (λ (bs : List UnendedBlock). (around_all bs inner).body) e ∙ ap (λ (r : SectionRest). r.body) (around_all-last left block inner))

-- no block is open
pub outermost : (blocks : List UnendedBlock) (inner : SectionRest) → blocks ≡ [] → (around_all blocks inner).body ≡ inner.body
outermost blocks inner e = ap (λ (bs : List UnendedBlock). (around_all bs inner).body) e

-- nothing was read yet
pub nothing_yet : (blocks : List UnendedBlock) (so_far : List Statement) (lines : List Line) → blocks ≡ [] → so_far ≡ []
    → (around_all blocks (rest so_far lines)).body ≡ body_in lines
nothing_yet blocks so_far lines e e' =
    outermost blocks (rest so_far lines) e ∙ (ap (λ (s : List Statement). (rest s lines).body) e' ∙ sym (body_in-rest lines))
