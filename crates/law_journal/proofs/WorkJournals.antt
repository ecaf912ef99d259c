-- The journal is written answer by answer, and each answer is one that some call may have.
use Rattle.std.proofs.Common.{◌≡◌, ℕ, zero, suc, ◌+◌, ◌%◌, ◌<◌, ◌≤◌, true, List, [], ◌∷◌, ◌++◌, flat_map, map, length}
use Rattle.std.proofs.Common.{replicate, nat_le, None, refl, sym, ap, ap₂, ◌∙◌}
use Rattle.std.proofs.Common.{append_assoc, append-nil, subst, arith, lit<}
use Rattle.std.specs.Prelude.{◌&&◌, codes}
use Rattle.std.specs.List.{AllByRecursion}
use Rattle.std.specs.Fmt.{decimal, digits}
use Rattle.std.proofs.lemmas.Bool.{le-leb, and_from}
use Rattle.std.proofs.lemmas.Bool.Decides.{nat_tests}
use Rattle.std.proofs.lemmas.Grind.{flat_map-append}
use Rattle.std.proofs.lemmas.List.{length-append, length-replicate}
use Rattle.model_value.specs.declared.place.Place.TheVariants.{InBytes}
use Rattle.model_value.specs.Escapes.{escaped}
use Rattle.model_value.specs.Number.{most}
use Rattle.model_wire.specs.declared.watch.Watch.{Watch}
use Rattle.model_wire.specs.declared.watch.Watch.TheVariants as watch
use Rattle.model_wire.specs.declared.item.Item.TheVariants as item
use Rattle.model_wire.specs.declared.item.Readiness.TheVariants as ready
use Rattle.model_wire.specs.declared.answer.Answer.TheVariants as answer
use Rattle.model_wire.specs.declared.call.Call.TheVariants as call
use Rattle.model_wire.specs.Call.{Answer, Item, written}
use Rattle.model_wire.specs.Journal.{Answered}
use Rattle.model_wire.specs.JournalText.{entries_of}
use Rattle.law_journal.proofs.Journals.{journal-read}
use Rattle.model_wire.specs.Fits.{are_few, are_awaited, is_some_within, most_bytes}
use Rattle.law_journal.specs.InRange.{ItemInRange, AreBytes}
use Rattle.law_journal.specs.JournalTexts.{journal_text, MayBeAnswered}
use Rattle.model_work.specs.Work.{numbers_from, connecting_text, arrival_text, quiet_text, journal}
use Rattle.law_journal.specs.WorkAnswers.{arrival, quiet, connecting, answers}
use Rattle.law_journal.proofs.Tasks.{numbers-below}

-- ---- the text
letters-escaped : (count : ℕ) → escaped InBytes (replicate count 120 ++ 10 ∷ []) ≡ replicate count 120 ++ codes "\\n"
letters-escaped zero = refl
letters-escaped (suc count) = ap (λ text. 120 ∷ text) (letters-escaped count)

zero-text : decimal 0 ≡ codes "0"
unfolding digits
zero-text = refl

joined : (time letters : List ℕ) → ((time ++ codes " C0 r") ++ codes "\n") ++ ((codes "data b\"" ++ ((letters ++ codes "\\n") ++ codes "\"")) ++ codes "\n")
    ≡ ((time ++ codes " C0 r\ndata b\"") ++ letters) ++ codes "\\n\"\n"
joined time letters =
    append_assoc (time ++ codes " C0 r") (codes "\n") ((codes "data b\"" ++ ((letters ++ codes "\\n") ++ codes "\"")) ++ codes "\n")
    ∙ (append_assoc time (codes " C0 r") (codes "\ndata b\"" ++ (((letters ++ codes "\\n") ++ codes "\"") ++ codes "\n"))
    ∙ (ap (λ text. time ++ (codes " C0 r\ndata b\"" ++ text))
    (append_assoc (letters ++ codes "\\n") (codes "\"") (codes "\n") ∙ append_assoc letters (codes "\\n") (codes "\"\n"))
    ∙ (sym (append_assoc time (codes " C0 r\ndata b\"") (letters ++ codes "\\n\"\n"))
    ∙ sym (append_assoc (time ++ codes " C0 r\ndata b\"") letters (codes "\\n\"\n")))))

arrival-written : (time : ℕ) → journal_text (arrival time) ≡ arrival_text time
arrival-written time =
    let digits : List ℕ = decimal time in
    let letters : List ℕ = replicate (time % 61) 120 in
    let came : List ℕ = written (answer.Data (letters ++ 10 ∷ [])) ++ codes "\n" in
    ap (λ (text : List ℕ). (written (answer.Turn time (item.Ready 0 ready.Read ∷ [])) ++ codes "\n") ++ text) (append-nil came)
    ∙ (ap (λ (conn : List ℕ). (codes "turn " ++ ((digits ++ ((codes " C" ++ ((conn ++ codes " ") ++ codes "r")) ++ [])) ++ codes "\n")) ++ came) zero-text
    ∙ (ap (λ (bytes : List ℕ). (codes "turn " ++ ((digits ++ codes " C0 r") ++ codes "\n")) ++ ((codes "data b\"" ++ (bytes ++ codes "\"")) ++ codes "\n"))
    (letters-escaped (time % 61))
    ∙ ap (λ text. codes "turn " ++ text) (joined digits letters)))

quiet-written : (time : ℕ) → journal_text (quiet time) ≡ quiet_text time
quiet-written time =
    append-nil (written (answer.Turn time []) ++ codes "\n") ∙ ap (λ text. text ++ codes "\n") (append-nil (codes "turn " ++ decimal time))

connecting-written : journal_text connecting ≡ connecting_text
unfolding digits
connecting-written = refl

pieces-written : (said : ℕ → List Answer) (text : ℕ → List ℕ) → ((time : ℕ) → journal_text (said time) ≡ text time) → (times : List ℕ)
    → journal_text (flat_map said times) ≡ flat_map text times
pieces-written said text e [] = refl
pieces-written said text e (time ∷ times) =
    flat_map-append (λ answer. written answer ++ codes "\n") (said time) (flat_map said times)
    ∙ ap₂ (λ (first others : List ℕ). first ++ others) (e time) (pieces-written said text e times)

two-texts : (first second : List Answer) (one two : List ℕ) → journal_text first ≡ one → journal_text second ≡ two → journal_text (first ++ second) ≡ one ++ two
two-texts first second one two e g =
    flat_map-append (λ answer. written answer ++ codes "\n") first second ∙ ap₂ (λ (x y : List ℕ). x ++ y) e g

journal-written : journal_text answers ≡ journal
journal-written =
    two-texts connecting (flat_map arrival (numbers_from 1 300) ++ flat_map quiet (numbers_from 301 1200)) connecting_text
    (flat_map arrival_text (numbers_from 1 300) ++ flat_map quiet_text (numbers_from 301 1200)) connecting-written
    (two-texts (flat_map arrival (numbers_from 1 300)) (flat_map quiet (numbers_from 301 1200)) (flat_map arrival_text (numbers_from 1 300))
    (flat_map quiet_text (numbers_from 301 1200)) (pieces-written arrival arrival_text arrival-written (numbers_from 1 300))
    (pieces-written quiet quiet_text quiet-written (numbers_from 301 1200)))

-- ---- the answers
letters-bytes : (count : ℕ) → AreBytes (replicate count 120 ++ 10 ∷ [])
letters-bytes zero = (lit< tt, tt)
letters-bytes (suc count) = (lit< tt, letters-bytes count)

early : (time : ℕ) → time < 2000 → nat_le time most ≡ true
early time h = le-leb time most (omega arith)

turn-asked : (time : ℕ) (items : List Item) → time < 2000 → (let w : List Watch = watch.Conn 0 true true ∷ [] in are_few items && are_awaited w items) ≡ true
    → AllByRecursion ItemInRange items → MayBeAnswered (answer.Turn time items)
turn-asked time items h e r =
    (call.Select None (watch.Conn 0 true true ∷ []), and_from (nat_le time most) _ (early time h) e, (omega arith, r))

few : (size : ℕ) → 0 < size → size ≤ most_bytes → is_some_within most_bytes size ≡ true
few size h k = grind (arith, nat_tests)

data-asked : (count : ℕ) → count < 61 → MayBeAnswered (answer.Data (replicate count 120 ++ 10 ∷ []))
data-asked count h =
    let bytes : List ℕ = replicate count 120 ++ 10 ∷ [] in
    let many : length bytes ≡ count + 1 = length-append (replicate count 120) (10 ∷ []) ∙ ap (λ n. n + 1) (length-replicate count 120) in
    (call.Recv 0, ap (is_some_within most_bytes) many ∙ few (count + 1) (omega arith) (omega arith), letters-bytes count)

all-append : (first others : List Answer) → AllByRecursion MayBeAnswered first → AllByRecursion MayBeAnswered others
    → AllByRecursion MayBeAnswered (first ++ others)
all-append [] others f o = o
all-append (said ∷ first) others f o = (f.0, all-append first others f.1 o)

all-asked : (said : ℕ → List Answer) → ((time : ℕ) → time < 2000 → AllByRecursion MayBeAnswered (said time)) → (times : List ℕ)
    → AllByRecursion (λ time. time < 2000) times → AllByRecursion MayBeAnswered (flat_map said times)
all-asked said each [] a = tt
all-asked said each (time ∷ times) a =
    all-append (said time) (flat_map said times) (each time a.0) (all-asked said each times a.1)

answers-asked : AllByRecursion MayBeAnswered answers
answers-asked =
    all-append connecting (flat_map arrival (numbers_from 1 300) ++ flat_map quiet (numbers_from 301 1200)) (
      turn-asked 0 [] (lit< tt) refl tt,
      (
        (call.Connect 9, refl, tt),
        (
          (call.Select None (watch.Making 0 ∷ []), refl, (omega arith, (omega arith, tt))),
          (turn-asked 0 [] (lit< tt) refl tt, tt),
        ),
      ),
    )
    (all-append (flat_map arrival (numbers_from 1 300)) (flat_map quiet (numbers_from 301 1200))
    (all-asked arrival (λ time h. (turn-asked time (item.Ready 0 ready.Read ∷ []) h refl (omega arith, tt), (data-asked (time % 61) (omega arith), tt)))
    (numbers_from 1 300) (numbers-below 2000 1 300 (omega arith)))
    (all-asked quiet (λ time h. (turn-asked time [] h refl tt, tt)) (numbers_from 301 1200) (numbers-below 2000 301 1200 (omega arith))))

pub entries-of-journal : entries_of journal ≡ map Answered answers
entries-of-journal =
    subst (λ (text : List ℕ). entries_of text ≡ map Answered answers) journal-written (journal-read answers answers-asked)
