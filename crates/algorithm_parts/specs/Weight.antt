-- Why a request ends: a number that falls with each step. It is far greater than the number of steps.
use Rattle.std.specs.Prelude.{ℕ, ◌+◌, ◌-◌, ◌*◌, ◌^◌, List, [], ◌∷◌, length, map, min, slice_index_or}
use Rattle.model_loop.specs.Parts.{Future, Parts}
use Rattle.law_cancel.proofs.Seen.{left}
use Rattle.algorithm_parts.specs.Shape.{members_of}
use Rattle.algorithm_parts.specs.declared.walk.WalkFrame.{WalkFrame}
use Rattle.algorithm_parts.specs.declared.walk.WalkFrame.TheVariants.{Waits, Members}
use Rattle.algorithm_parts.specs.declared.walk.Go.{Go}
use Rattle.algorithm_parts.specs.declared.walk.Go.TheVariants.{Visit, Next, Answer}

-- the members of each future
abbrev pub shape : List Future → List (List ℕ)
shape futures = map (λ (future : Future). members_of future.kind) futures

abbrev pub width : List (List ℕ) → ℕ
width [] = 0
width (members ∷ others) = length members + width others

-- for a request that may come to so many further tasks
abbrev pub unit : List (List ℕ) → ℕ → ℕ → ℕ
unit sh tasks id = (width sh + 2) ^ (tasks * (length sh + 1) + min id (length sh) + 1)

abbrev pub places_left : List (List ℕ) → ℕ → ℕ → ℕ
places_left sh id place = length (slice_index_or sh id []) - place

abbrev pub next_weight : List (List ℕ) → ℕ → ℕ → ℕ → ℕ
next_weight sh tasks id place = places_left sh id place * (unit sh tasks id + 2) + 1

abbrev pub go_weight : List (List ℕ) → ℕ → Go → ℕ
go_weight sh tasks (Visit id) = (width sh + 2) * unit sh tasks id
go_weight sh tasks (Next id place any) = next_weight sh tasks id place
go_weight sh tasks (Answer answer) = 0

abbrev pub frame_weight : List (List ℕ) → ℕ → WalkFrame → ℕ
frame_weight sh tasks (Waits id task) = 1
frame_weight sh tasks (Members id place any) = next_weight sh tasks id place + 1

abbrev pub frames_weight : List (List ℕ) → ℕ → List WalkFrame → ℕ
frames_weight sh tasks [] = 0
frames_weight sh tasks (frame ∷ frames) = frame_weight sh tasks frame + frames_weight sh tasks frames

unfoldable pub weight : Go → List WalkFrame → List ℕ → Parts → ℕ
weight go frames seen p =
    go_weight (shape p.futures) (left (length p.tasks) seen) go + frames_weight (shape p.futures) (left (length p.tasks) seen) frames
