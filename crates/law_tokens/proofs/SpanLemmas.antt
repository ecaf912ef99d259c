-- Tokens and spans give a line back.
use Rattle.std.proofs.Common.{◌≡◌, ℕ, ◌+◌, ◌-◌, ◌<◌, ◌≤◌, List, [], ◌∷◌, ◌++◌, length, take, drop, replicate, sym, ap, ◌∙◌, arith, slice_range, subst}
use Rattle.std.proofs.lemmas.List.{length-append, length-drop, length-replicate, drop-drop}
use Rattle.std.proofs.Math.Seq.{take-append_seam, drop-append_seam}
use Rattle.model_text.specs.Tokens.{Token}
use Rattle.model_text.specs.Lines.{SpellsToken, ReadsToken, Reads, IsGivenBack, GivesBack}
use Rattle.law_tokens.proofs.LineLemmas.{text-some}

-- the slice up to where a front ends, and what stands behind it
cut_front : (line : List ℕ) (at next : ℕ) (front others : List ℕ) → next ≡ at + length front → drop at line ≡ front ++ others → slice_range line at next ≡ front
cut_front line at next front others n e =
    let size : next - at ≡ length front = omega arith in
    ap (λ k. take k (drop at line)) size ∙ (ap (take (length front)) e ∙ take-append_seam front others)

further : (line : List ℕ) (at next : ℕ) (front others : List ℕ) → next ≡ at + length front → drop at line ≡ front ++ others → drop next line ≡ others
further line at next front others n e =
    ap (λ k. drop k line) n ∙ (sym (drop-drop (length front) at line) ∙ (ap (drop (length front)) e ∙ drop-append_seam front others))

given_back : (line : List ℕ) (column : ℕ) (token : Token) (rest : List ℕ) → 0 < column → column ≤ length line + 1
    → ReadsToken column (drop (column - 1) line) token rest → IsGivenBack line column token × (drop (token.end - 1) line ≡ rest)
given_back line column token rest some within r =
    let blanks : List ℕ = replicate r.spaces 32 in
    let text : List ℕ = r.text in
    let spaces : length blanks ≡ r.spaces = length-replicate r.spaces 32 in
    let text_some : 0 < length text = text-some token.class text r.spelled in
    let start : token.start - 1 ≡ (column - 1) + length blanks = omega (arith, r.start) in
    let end : token.end - 1 ≡ (token.start - 1) + length text = omega (arith, r.start, r.end) in
    let at_start : drop (token.start - 1) line ≡ text ++ rest =
    further line (column - 1) (token.start - 1) blanks (text ++ rest) start r.whole in
    let at_end : drop (token.end - 1) line ≡ rest =
    further line (token.start - 1) (token.end - 1) text rest end at_start in (
      record {
        behind = omega (arith, r.start);
        rises = omega (arith, r.end);
        within = omega (arith, r.start, r.end, length-drop (column - 1) line, ap length r.whole, length-append blanks (text ++ rest), length-append text rest);
        blanks =
            cut_front line (column - 1) (token.start - 1) blanks (text ++ rest) start r.whole ∙ ap (λ k. replicate k 32) (omega (arith, r.start));
        spelled =
            let P : List ℕ → Type 0 = λ part. SpellsToken token.class part in
            subst P (sym (cut_front line (token.start - 1) (token.end - 1) text rest end at_start)) r.spelled;
      },
      at_end,
    )

pub GivesBack-Reads : (line : List ℕ) (column : ℕ) (tokens : List Token) → 0 < column → column ≤ length line + 1 → Reads column (drop (column - 1) line) tokens
    → GivesBack line column tokens
GivesBack-Reads line column [] some within r = r
GivesBack-Reads line column (token ∷ tokens) some within r =
    let g = given_back line column token r.0 some within r.1 in
    (g.0, GivesBack-Reads line token.end tokens (omega (arith, g.0.rises)) g.0.within (rw (← g.1) at r.2))
