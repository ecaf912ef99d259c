-- What a cut at each role of a line is, how a block's cut goes on behind the block inside it, and that it has no more lines.
use Rattle.std.proofs.Common.{◌≡◌, ℕ, zero, suc, ◌≤◌, List, [], ◌∷◌, length, refl, ap, ◌∙◌, arith}
use Rattle.model_text.specs.Places.{Role, Opens, Begins, Closes, Stands, Block, role_of}
use Rattle.model_text.specs.Places as places
use Rattle.model_text.specs.SecondPass.{Line}
use Rattle.model_text.specs.Bodies.{SectionLines, BlockLines, with_line, with_section, depth_behind, cut_at, cut_from}

-- ---- a cut by the role of its first line
by_role : (line : Line) (role : Role) → role_of line ≡ role → (depth : ℕ) (lines : List Line) → cut_from depth (line ∷ lines)
    ≡ cut_at role depth line lines (cut_from (depth_behind depth role) lines)
by_role line role e depth lines = ap (λ r. cut_at r depth line lines (cut_from (depth_behind depth r) lines)) e

pub cut_stands : (line : Line) → role_of line ≡ Stands → (depth : ℕ) (lines : List Line) → cut_from depth (line ∷ lines) ≡ with_line line (cut_from depth lines)
cut_stands line e depth lines = by_role line Stands e depth lines

pub cut_opens : (line : Line) (block : Block) → role_of line ≡ Opens block → (depth : ℕ) (lines : List Line) → cut_from depth (line ∷ lines)
    ≡ with_line line (cut_from (suc depth) lines)
cut_opens line block e depth lines = by_role line (Opens block) e depth lines

pub cut_begins : (line : Line) (section : places.Section) → role_of line ≡ Begins section → (lines : List Line) → cut_from 0 (line ∷ lines)
    ≡ with_section line (cut_from 0 lines)
cut_begins line section e lines = by_role line (Begins section) e 0 lines

pub cut_closes : (line : Line) → role_of line ≡ Closes → (lines : List Line) → cut_from 0 (line ∷ lines) ≡ record { body = []; sections = []; behind = lines }
cut_closes line e lines = by_role line Closes e 0 lines

-- ---- a cut one block further out goes on where the block inside it ends
-- `outer` is the cut one block further out, and `again` the cut of its body
pub record GoesOnAfter (outer cut again : BlockLines) : Type 0 where
  pub sections : outer.sections ≡ (cut_from 0 cut.behind).sections
  pub behind : outer.behind ≡ (cut_from 0 cut.behind).behind
  pub body : again ≡ record cut { behind = (cut_from 0 cut.behind).body }

abbrev goes_on_at : (role : Role) (depth : ℕ) (line : Line) (lines : List Line) → Type 0
goes_on_at role depth line lines =
    let outer = cut_at role (suc depth) line lines (cut_from (depth_behind (suc depth) role) lines) in
    GoesOnAfter outer (cut_at role depth line lines (cut_from (depth_behind depth role) lines)) (cut_from depth outer.body)

abbrev goes_on_from : (depth : ℕ) (lines : List Line) → Type 0
goes_on_from depth lines = GoesOnAfter (cut_from (suc depth) lines) (cut_from depth lines) (cut_from depth (cut_from (suc depth) lines).body)

goes_on_by : (role : Role) (depth : ℕ) (line : Line) (lines : List Line) → role_of line ≡ role → ((d : ℕ) → goes_on_from d lines)
    → goes_on_at role depth line lines
goes_on_by (Opens block) depth line lines e below =
    let inner = below (suc depth) in
    record {
      sections = inner.sections;
      behind = inner.behind;
      body = by_role line (Opens block) e depth (cut_from (suc (suc depth)) lines).body ∙ ap (with_line line) inner.body;
    }
goes_on_by Stands depth line lines e below =
    let inner = below depth in
    record {
      sections = inner.sections;
      behind = inner.behind;
      body = by_role line Stands e depth (cut_from (suc depth) lines).body ∙ ap (with_line line) inner.body;
    }
goes_on_by (Begins section) zero line lines e below =
    let inner = below 0 in
    record {
      sections = inner.sections;
      behind = inner.behind;
      body = by_role line (Begins section) e 0 (cut_from 1 lines).body ∙ ap (with_section line) inner.body;
    }
goes_on_by (Begins section) (suc depth) line lines e below =
    let inner = below (suc depth) in
    record {
      sections = inner.sections;
      behind = inner.behind;
      body = by_role line (Begins section) e (suc depth) (cut_from (suc (suc depth)) lines).body ∙ ap (with_line line) inner.body;
    }
goes_on_by Closes zero line lines e below =
    record { sections = refl; behind = refl; body = by_role line Closes e 0 (cut_from 0 lines).body }
goes_on_by Closes (suc depth) line lines e below =
    let inner = below depth in
    record {
      sections = inner.sections;
      behind = inner.behind;
      body = by_role line Closes e (suc depth) (cut_from (suc depth) lines).body ∙ ap (with_line line) inner.body;
    }

pub goes_on : (lines : List Line) (depth : ℕ) → goes_on_from depth lines
goes_on [] depth = record { sections = refl; behind = refl; body = refl }
goes_on (line ∷ lines) depth = goes_on_by (role_of line) depth line lines refl (goes_on lines)

-- ---- a cut has no more lines than were cut
abbrev pub AllWithin : ℕ → List SectionLines → Type 0
AllWithin count [] = Unit {0}
AllWithin count (section ∷ sections) = (length section.lines ≤ count) × AllWithin count sections

pub record IsWithin (count : ℕ) (lines : List Line) (cut : BlockLines) : Type 0 where
  pub body : length cut.body ≤ length lines
  pub sections : AllWithin count cut.sections
  pub behind : length cut.behind ≤ length lines

within_at : (role : Role) (depth count : ℕ) (line : Line) (lines : List Line) (cut : BlockLines) → length (line ∷ lines) ≤ count → IsWithin count lines cut
    → IsWithin count (line ∷ lines) (cut_at role depth line lines cut)
within_at (Opens block) depth count line lines cut h w =
    let b = w.body in
    let r = w.behind in
    record { body = omega arith; sections = w.sections; behind = omega arith }
within_at Stands depth count line lines cut h w =
    let b = w.body in
    let r = w.behind in
    record { body = omega arith; sections = w.sections; behind = omega arith }
within_at (Begins section) zero count line lines cut h w =
    let b = w.body in
    let r = w.behind in
    record { body = omega arith; sections = (omega arith, w.sections); behind = omega arith }
within_at (Begins section) (suc depth) count line lines cut h w =
    let b = w.body in
    let r = w.behind in
    record { body = omega arith; sections = w.sections; behind = omega arith }
within_at Closes zero count line lines cut h w = record { body = omega arith; sections = tt; behind = omega arith }
within_at Closes (suc depth) count line lines cut h w =
    let b = w.body in
    let r = w.behind in
    record { body = omega arith; sections = w.sections; behind = omega arith }

pub is_within : (lines : List Line) (count depth : ℕ) → length lines ≤ count → IsWithin count lines (cut_from depth lines)
is_within [] count depth h = record { body = omega arith; sections = tt; behind = omega arith }
is_within (line ∷ lines) count depth h =
    let shorter : length lines ≤ count = omega arith in
    within_at (role_of line) depth count line lines (cut_from (depth_behind depth (role_of line)) lines) h
    (is_within lines count (depth_behind depth (role_of line)) shorter)
