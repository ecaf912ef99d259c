-- How a file grows to whose end a text is handed bit by bit.
use Rattle.std.proofs.Common.{◌≡◌, ℕ, zero, suc, ◌-◌, ◌≤◌, ◌<◌, List, [], ◌∷◌, ◌++◌, Option, Some, None, length, take, drop, refl, ap, sym, ◌∙◌, subst}
use Rattle.std.proofs.Common.{append_assoc, arith, Bool, false, ◌==◌}
use Rattle.std.proofs.lemmas.Bool.{false≢true}
use Rattle.std.proofs.lemmas.List.{take_rest, take-append-drop}
use Rattle.model_wire.specs.Event.{Event}
use Rattle.model_wire.specs.Told.{Rose, ShelfSeen}
use Rattle.model_commands.specs.Recorded.{Grew, GrewAndFailed, entry_line, recorded, with_bytes}
use Rattle.aio_wire.specs.Files.{Appends, with_piece}
use Rattle.aio_wire.specs.Took.{FitsWrite}
use Rattle.aio_wire.specs.declared.sink.SinkTook.TheVariants.{Took, Failed}
use Rattle.aio_record.specs.Recording.{StopsAppending}
use Rattle.aio_record.specs.declared.Unrecorded.TheVariants.{Memory, File}

-- ---- lists
append-nil : {A : Type 0} (xs : List A) → xs ++ [] ≡ xs
append-nil [] = refl
append-nil (x ∷ xs) = ap (λ ys. x ∷ ys) (append-nil xs)

-- what is told of a file, once nothing came, and once two pieces did
with-nil : (told : Option (Option (List ℕ))) → with_bytes told [] ≡ told
with-nil None = refl
with-nil (Some None) = refl
with-nil (Some (Some held)) = ap (λ (bytes : List ℕ). Some (Some bytes)) (append-nil held)

with-with : (told : Option (Option (List ℕ))) (first second : List ℕ)
    → with_bytes (with_bytes told first) second ≡ with_bytes told (first ++ second)
with-with None first second = refl
with-with (Some None) [] second = refl
with-with (Some None) (byte ∷ first) second = refl
with-with (Some (Some held)) first second = ap (λ (bytes : List ℕ). Some (Some bytes)) (append_assoc held first second)

-- one that isn't empty has a byte
pub some_left : (rest : List ℕ) (empty : Bool) → empty ≡ (length rest == 0) → empty ≡ false → 0 < length rest
some_left [] empty is other = absurd (false≢true (sym other ∙ is))
some_left (byte ∷ rest) empty is other = omega arith

-- what is left, once a front of the rest is gone too
rest_whole : (done rest text : List ℕ) (count : ℕ) → done ++ rest ≡ text
    → (done ++ take count rest) ++ take (length rest - count) (drop count rest) ≡ text
rest_whole done rest text count whole =
    ap (λ (r : List ℕ). (done ++ take count rest) ++ r) (take_rest rest count)
    ∙ append_assoc done (take count rest) (drop count rest) ∙ ap (λ (r : List ℕ). done ++ r) (take-append-drop count rest) ∙ whole

-- ---- a file
pub grew_none : (name : List ℕ) (seen : ShelfSeen) → Grew name [] seen seen
grew_none name seen = record {
  grew = sym (with-nil (seen.file name));
  others = λ other differs. refl;
  failures = refl;
}

pub grew_on : (name first second : List ℕ) (old mid new : ShelfSeen) → Grew name first old mid → Grew name second mid new
    → Grew name (first ++ second) old new
grew_on name first second old mid new before after = record {
  grew =
      after.grew ∙ ap (λ (told : Option (Option (List ℕ))). with_bytes told second) before.grew ∙ with-with (old.file name) first second;
  others = λ other differs. after.others other differs ∙ before.others other differs;
  failures = after.failures ∙ before.failures;
}

pub failed_after : (name first second : List ℕ) (old mid new : ShelfSeen) → Grew name first old mid → GrewAndFailed name second mid new
    → GrewAndFailed name (first ++ second) old new
failed_after name first second old mid new before after = record {
  grew =
      after.grew ∙ ap (λ (told : Option (Option (List ℕ))). with_bytes told second) before.grew ∙ with-with (old.file name) first second;
  others = λ other differs. after.others other differs ∙ before.others other differs;
  failed = subst (λ (n : ℕ). Rose n (new.faults name)) (ap (λ (faults : List ℕ → ℕ). faults name) before.failures) after.failed;
}

-- with a piece behind its end, which is not empty
told_with : (told : Option (Option (List ℕ))) (byte : ℕ) (piece : List ℕ) → with_piece told (byte ∷ piece) ≡ with_bytes told (byte ∷ piece)
told_with None byte piece = refl
told_with (Some None) byte piece = refl
told_with (Some (Some held)) byte piece = refl

-- where something was taken of a piece
told_taken : (told : Option (Option (List ℕ))) (count : ℕ) (piece : List ℕ) → 0 < count → count ≤ length piece
    → with_piece told (take count piece) ≡ with_bytes told (take count piece)
told_taken told zero piece some most = absurd (omega (arith, some))
told_taken told (suc count) [] some most = absurd (omega (arith, most))
told_taken told (suc count) (byte ∷ piece) some most = told_with told byte (take count piece)

appended : (name piece : List ℕ) (count : ℕ) (old new : ShelfSeen) → Appends name piece old new (Took count) → 0 < count → count ≤ length piece
    → Grew name (take count piece) old new
appended name piece count old new (holds, others, none) some most = record {
  grew = holds ∙ told_taken (old.file name) count piece some most;
  others = others;
  failures = none;
}

refused : (name piece : List ℕ) (old new : ShelfSeen) → Appends name piece old new Failed → GrewAndFailed name [] old new
refused name piece old new (same, failed, later) = record {
  grew = ap (λ (file : List ℕ → Option (Option (List ℕ))). file name) same ∙ sym (with-nil (old.file name));
  others = λ other differs. ap (λ (file : List ℕ → Option (Option (List ℕ))). file other) same;
  failed = failed;
}

-- ---- a text that is appended bit by bit
-- so much was appended of a text, and so much is left
pub record AppendedSoFar (done rest text name : List ℕ) (old new : ShelfSeen) : Type 0 where
  pub whole : done ++ rest ≡ text
  pub file : Grew name done old new

pub appended_none : (text name : List ℕ) (seen : ShelfSeen) → AppendedSoFar [] text text name seen seen
appended_none text name seen = record { whole = refl; file = grew_none name seen }

pub appended_more : (done rest text name : List ℕ) (old mid new : ShelfSeen) (count : ℕ) → AppendedSoFar done rest text name old mid
    → Appends name rest mid new (Took count) → FitsWrite rest (Took count) → 0 < length rest
    → AppendedSoFar (done ++ take count rest) (take (length rest - count) (drop count rest)) text name old new
appended_more done rest text name old mid new count so_far took_it (most, some) left = record {
  whole = rest_whole done rest text count so_far.whole;
  file = grew_on name done (take count rest) old mid new so_far.file (appended name rest count mid new took_it (some left) most);
}

pub appended_all : (done rest text name : List ℕ) (old new : ShelfSeen) → AppendedSoFar done rest text name old new → rest ≡ []
    → Grew name text old new
appended_all done rest text name old new so_far none =
    subst (λ (bytes : List ℕ). Grew name bytes old new)
    (sym (append-nil done) ∙ ap (λ (r : List ℕ). done ++ r) (sym none) ∙ so_far.whole) so_far.file

pub stops_unfed : (done rest text name : List ℕ) (old new : ShelfSeen) → AppendedSoFar done rest text name old new
    → StopsAppending name text old new Memory
stops_unfed done rest text name old new so_far = (done, (rest, so_far.whole), so_far.file)

pub stops_failed : (done rest text name : List ℕ) (old mid new : ShelfSeen) → AppendedSoFar done rest text name old mid → Appends name rest mid new Failed
    → StopsAppending name text old new File
stops_failed done rest text name old mid new so_far failed = (
  done ++ [],
  (rest, ap (λ (front : List ℕ). front ++ rest) (append-nil done) ∙ so_far.whole),
  failed_after name done [] old mid new so_far.file (refused name rest mid new failed),
)

-- ---- what events record
pub recorded-append : (xs ys : List Event) → recorded (xs ++ ys) ≡ recorded xs ++ recorded ys
recorded-append [] ys = refl
recorded-append (x ∷ xs) ys =
    ap (λ (t : List ℕ). entry_line x ++ t) (recorded-append xs ys) ∙ sym (append_assoc (entry_line x) (recorded xs) (recorded ys))
