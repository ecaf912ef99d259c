-- What is written stays in order.
use Rattle.std.proofs.Common.{◌≡◌, ℕ, ◌≤◌, arith, zero, suc, Bool, true, false, cond, leb, List, [], ◌∷◌, ◌++◌, Option, Some, None, length, take, drop, refl}
use Rattle.std.proofs.Common.{ap, sym, ◌∙◌, inl, inr, ◌⊎◌}
use Rattle.std.proofs.lemmas.List.{append_assoc, append-nil, take-append-drop, take-take, length-take}
use Rattle.model_stream.specs.declared.put.Put.{Put}
use Rattle.model_stream.specs.declared.put.Put.TheVariants.{Offer, Kept, Empty, AfterEof, Dropped}
use Rattle.model_stream.specs.Sending.{Writer, put_as, put_answer, written_of, took, resume_mark, resumed_under, paused_over, with_marks, marks_of, is_nothing}
use Rattle.law_stream.specs.WriterSteps.{WriterStep, Writes, Takes, SetsMarks, WritesEnd, IsLost, after, written_in, handed_in, dropped_in}
use Rattle.law_stream.specs.WriterSteps.{after_all, written, handed, dropped}

-- ---- what is unsent after each step, and that it ended
record LeftUnsent (w after : Writer) (unsent : List ℕ) : Type 0 where
  unsent_is : after.unsent ≡ unsent
  ended_is : after.ended ≡ w.ended

put_left : (answer : Put) (piece : List ℕ) (w : Writer) → LeftUnsent w (put_as answer piece w) (w.unsent ++ written_of answer piece)
put_left Offer piece w = record { unsent_is = refl; ended_is = refl }
put_left Kept piece w = record { unsent_is = refl; ended_is = refl }
put_left Empty piece w = record { unsent_is = sym (append-nil w.unsent); ended_is = refl }
put_left AfterEof piece w = record { unsent_is = sym (append-nil w.unsent); ended_is = refl }
put_left Dropped piece w = record { unsent_is = sym (append-nil w.unsent); ended_is = refl }

resumed_by : (resumes : Bool) (w : Writer) → LeftUnsent w (cond resumes (record w { paused = false }) w) w.unsent
resumed_by true w = record { unsent_is = refl; ended_is = refl }
resumed_by false w = record { unsent_is = refl; ended_is = refl }

resumed_left : (w : Writer) → LeftUnsent w (resumed_under w) w.unsent
resumed_left w = resumed_by (leb (length w.unsent) (resume_mark w)) w

took_left : (count : ℕ) (w : Writer) → LeftUnsent w (took count w) (drop count w.unsent)
took_left count w =
    let left = resumed_left (paused_over (record w { unsent = drop count w.unsent })) in
    record { unsent_is = left.unsent_is; ended_is = left.ended_is }

marks_left : (marks : Option (ℕ × ℕ)) (w : Writer) → LeftUnsent w (with_marks marks w) w.unsent
marks_left None w = record { unsent_is = refl; ended_is = refl }
marks_left (Some marks) w = record { unsent_is = refl; ended_is = refl }

-- ---- after the loss
none_by :
    (eof nothing ended empty : Bool) (piece : List ℕ) → ended ≡ true
    → written_of (cond eof AfterEof (cond nothing Empty (cond ended Dropped (cond empty Offer Kept)))) piece ≡ []
none_by true nothing ended empty piece is = refl
none_by false true ended empty piece is = refl
none_by false false true empty piece is = refl
none_by false false false empty piece is = absurd (let bad : ⊥ = cc in bad)

-- an ended writer takes nothing that is written
ended_takes_none : (piece : List ℕ) (w : Writer) → w.ended ≡ true → written_of (put_answer piece w) piece ≡ []
ended_takes_none piece w is = none_by w.eof (is_nothing piece) w.ended (is_nothing w.unsent) piece is

-- a writer whose loss was scheduled, and that dropped what was unsent
record IsOver (w : Writer) : Type 0 where
  ended : w.ended ≡ true
  nothing : w.unsent ≡ []

over_from : (w after : Writer) (unsent : List ℕ) → IsOver w → LeftUnsent w after unsent → unsent ≡ [] → IsOver after
over_from w after unsent over left none =
    record { ended = left.ended_is ∙ over.ended; nothing = left.unsent_is ∙ none }

drop_none : (count : ℕ) (bytes : List ℕ) → bytes ≡ [] → drop count bytes ≡ []
drop_none zero bytes is = is
drop_none (suc count) [] is = refl
drop_none (suc count) (byte ∷ bytes) is = absurd (let bad : ⊥ = cc in bad)

take_none : (count : ℕ) (bytes : List ℕ) → bytes ≡ [] → take count bytes ≡ []
take_none zero bytes is = refl
take_none (suc count) [] is = refl
take_none (suc count) (byte ∷ bytes) is = absurd (let bad : ⊥ = cc in bad)

stays_over : (step : WriterStep) (w : Writer) → IsOver w → IsOver (after step w)
stays_over (Writes piece) w over =
    over_from w (after (Writes piece) w) _ over (put_left (put_answer piece w) piece w)
    (ap (λ bytes. bytes ++ written_of (put_answer piece w) piece) over.nothing ∙ ended_takes_none piece w over.ended)
stays_over (Takes count) w over =
    over_from w (after (Takes count) w) _ over (took_left count w) (drop_none count w.unsent over.nothing)
stays_over (SetsMarks high low) w over =
    over_from w (after (SetsMarks high low) w) _ over (marks_left (marks_of high low) w) over.nothing
stays_over WritesEnd w over = record { ended = over.ended; nothing = over.nothing }
stays_over IsLost w over = record { ended = refl; nothing = refl }

handed_over : (step : WriterStep) (w : Writer) → IsOver w → handed_in step w ≡ []
handed_over (Takes count) w over = take_none count w.unsent over.nothing
handed_over (Writes piece) w over = refl
handed_over (SetsMarks high low) w over = refl
handed_over WritesEnd w over = refl
handed_over IsLost w over = refl

-- nothing is handed on after the loss
none_handed : (steps : List WriterStep) (w : Writer) → IsOver w → handed steps w ≡ []
none_handed [] w over = refl
none_handed (step ∷ steps) w over =
    ap (λ bytes. bytes ++ handed steps (after step w)) (handed_over step w over) ∙ none_handed steps (after step w) (stays_over step w over)

-- ---- a step keeps the order
step_order : (step : WriterStep) (w : Writer) → w.unsent ++ written_in step w ≡ handed_in step w ++ (dropped_in step w ++ (after step w).unsent)
step_order (Writes piece) w = sym (put_left (put_answer piece w) piece w).unsent_is
step_order (Takes count) w =
    append-nil w.unsent ∙ sym (take-append-drop count w.unsent)
    ∙ ap (λ rest. take count w.unsent ++ rest) (sym (took_left count w).unsent_is)
step_order (SetsMarks high low) w = append-nil w.unsent ∙ sym (marks_left (marks_of high low) w).unsent_is
step_order WritesEnd w = append-nil w.unsent
step_order IsLost w = refl

-- where something is dropped, nothing is handed on behind it
dropped_last : (step : WriterStep) (steps : List WriterStep) (w : Writer) → (dropped_in step w ≡ []) ⊎ (handed steps (after step w) ≡ [])
dropped_last (Writes piece) steps w = inl refl
dropped_last (Takes count) steps w = inl refl
dropped_last (SetsMarks high low) steps w = inl refl
dropped_last WritesEnd steps w = inl refl
dropped_last IsLost steps w = inr (none_handed steps (after IsLost w) (record { ended = refl; nothing = refl }))

swapped : (front back : List ℕ) → (front ≡ []) ⊎ (back ≡ []) → front ++ back ≡ back ++ front
swapped front back (inl none) = ap (λ bytes. bytes ++ back) none ∙ sym (append-nil back) ∙ ap (λ bytes. back ++ bytes) (sym none)
swapped front back (inr none) = ap (λ bytes. front ++ bytes) none ∙ append-nil front ∙ ap (λ bytes. bytes ++ front) (sym none)

regrouped :
    (unsent wrote handed dropped between more on off last : List ℕ) → unsent ++ wrote ≡ handed ++ (dropped ++ between)
    → between ++ more ≡ on ++ (off ++ last) → dropped ++ on ≡ on ++ dropped
    → unsent ++ (wrote ++ more) ≡ (handed ++ on) ++ ((dropped ++ off) ++ last)
regrouped unsent wrote handed dropped between more on off last first second swap =
    sym (append_assoc unsent wrote more)
    ∙ ap (λ bytes. bytes ++ more) first
    ∙ append_assoc handed (dropped ++ between) more
    ∙ ap (λ bytes. handed ++ bytes)
    (append_assoc dropped between more
    ∙ ap (λ bytes. dropped ++ bytes) second
    ∙ sym (append_assoc dropped on (off ++ last))
    ∙ ap (λ bytes. bytes ++ (off ++ last)) swap
    ∙ append_assoc on dropped (off ++ last)
    ∙ ap (λ bytes. on ++ bytes) (sym (append_assoc dropped off last)))
    ∙ sym (append_assoc handed on ((dropped ++ off) ++ last))

pub all_in_order :
    (steps : List WriterStep) (w : Writer)
    → w.unsent ++ written steps w ≡ handed steps w ++ (dropped steps w ++ (after_all steps w).unsent)
all_in_order [] w = append-nil w.unsent
all_in_order (step ∷ steps) w =
    regrouped w.unsent (written_in step w) (handed_in step w) (dropped_in step w) (after step w).unsent
    (written steps (after step w)) (handed steps (after step w)) (dropped steps (after step w)) (after_all (step ∷ steps) w).unsent
    (step_order step w) (all_in_order steps (after step w))
    (swapped (dropped_in step w) (handed steps (after step w)) (dropped_last step steps w))

pub front_of_front :
    (count most : ℕ) (bytes : List ℕ) → count ≤ length (take most bytes) → take count (take most bytes) ≡ take count bytes
front_of_front count most bytes within = take-take count most bytes (omega (arith, length-take most bytes))
