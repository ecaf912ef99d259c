-- A tree of asks and changes in the machine, and a call beside.
use Rattle.std.proofs.Common.{◌≡◌, ℕ, Bool, true, false, List, [], ◌∷◌, ◌++◌, refl, sym, subst, ◌∙◌}
use Rattle.std.proofs.lemmas.List.{append-nil, append_assoc}
use Rattle.model_wire.specs.declared.event.Event.TheVariants as event
use Rattle.model_wire.specs.Call.{Call, Answer}
use Rattle.model_wire.specs.Event.{Event}
use Rattle.model_wire.specs.Fits.{fits}
use Rattle.model_wire.specs.Journal.{Entry, Answered, Refused}
use Rattle.model_wire.specs.Trace.{End}
use Rattle.model_loop.specs.Parts.{Parts}
use Rattle.model_stream.specs.Doing.{Doing, Ends, Changes, Asks}
use Rattle.model_stream.specs.Streams.{Streams}
use Rattle.model_machine.specs.Does.{changed, does}
use Rattle.model_machine.specs.State.{State, noted, unbooked_in, with_streams}
use Rattle.model_machine.specs.Went.{answered_so, ask_so, fitted_so}
use Rattle.law_reach.specs.Reaches.{IsUnmet}
use Rattle.law_stream.specs.Ways.{Move, Did, Heard, Always, told_by}
use Rattle.law_walk.specs.Walks.{Anyone, Doer, EndsInStep, GivesUp, In, IsHere, hears, is_aside, made_on}

-- ---- a tree in the machine
-- the state after these moves of it
pub record IsMoved {S : Type 0} (s : State S) (moves : List Move) (t : State S) : Type 0 where
  pub streams : t.streams ≡ s.streams
  pub events : t.events ≡ s.events ++ told_by moves
  pub parts : t.loop.parts ≡ made_on moves s.loop.parts

pub moved_holds : {S : Type 0} (Holds : Streams → List Event → Parts → Type 0) (s t : State S) (moves : List Move) (streams : Streams) → IsMoved s moves t
    → Holds streams (s.events ++ told_by moves) (made_on moves s.loop.parts) → In Holds (with_streams streams t)
moved_holds Holds s t moves streams moved it =
    subst (λ events. Holds streams events t.loop.parts) (sym moved.events) (subst (Holds streams (s.events ++ told_by moves)) (sym moved.parts) it)

pub tree_kept : {S : Type 0} {After : Parts → Parts → Type 0} {Keeps : Doer → Streams → List Move → Streams → Type 0}
    {Tells Holds : Streams → List Event → Parts → Type 0} (kept : IsHere After Keeps Tells Holds) (s t : State S) (moves : List Move)
    (streams : Streams) → In Holds s → IsMoved s moves t → Keeps Anyone s.streams moves streams → In Holds (with_streams streams t)
tree_kept {Holds = Holds} kept s t moves streams holds moved it =
    moved_holds Holds s t moves streams moved (kept.tree s.streams s.events s.loop.parts moves streams it holds)

-- one in which a connection is given up
pub drop_kept : {S : Type 0} {After : Parts → Parts → Type 0} {Keeps : Doer → Streams → List Move → Streams → Type 0}
    {Tells Holds : Streams → List Event → Parts → Type 0} (kept : IsHere After Keeps Tells Holds) (conn : ℕ) (s t : State S) (moves : List Move)
    (streams : Streams) → In Holds s → EndsInStep s.events → IsMoved s moves t → Keeps (GivesUp conn) s.streams moves streams
    → In Holds (with_streams streams t)
drop_kept {Holds = Holds} kept conn s t moves streams holds began moved it =
    moved_holds Holds s t moves streams moved (kept.drops conn s.streams s.events s.loop.parts moves streams began it holds)

module _ {S R : Type 0} (halts : End → State S → R) (Comes : R → Type 0) (unmet : (how : End) (last : State S) → IsUnmet how → Comes (halts how last)) where
  -- one call
  pub asked_comes : (it : Call) (next : Answer → State S → R) (s : State S)
      → ((came : Answer) (left : List Entry) → fits it came ≡ true
      → Comes (next came (noted (event.Got came) (record (noted (event.Called it) s) { answers = left }))))
      → Comes (ask_so halts it next s)
  asked_comes it next s each = by s.answers
    where
      fit : (b : Bool) (came : Answer) (left : List Entry) → fits it came ≡ b
          → Comes (fitted_so halts b it came next (noted (event.Got came) (record (noted (event.Called it) s) { answers = left })))
      fit true came left is = each came left is
      fit false came left is = unmet _ _ tt

      by : (entries : List Entry) → Comes (answered_so halts entries it next (noted (event.Called it) s))
      by [] = unmet _ _ tt
      by (Refused line cause ∷ entries) = unmet _ _ tt
      by (Answered came ∷ entries) = fit (fits it came) came entries refl

  pub does_comes : {A : Type 0} (tree : Doing A) (next : A → State S → R) (s : State S) (Holds : List Move → A → Type 0) → Always Holds tree
      → ((moves : List Move) (result : A) (t : State S) → IsMoved s moves t → Holds moves result → Comes (next result t))
      → Comes (does halts tree next s)
  does_comes (Ends result) next s Holds here each = each [] result s (record { streams = refl; events = sym (append-nil s.events); parts = refl }) here
  does_comes (Changes change rest) next s Holds here each =
      does_comes rest next (unbooked_in (changed change) s) (λ moves. Holds (Did change ∷ moves)) here
      (λ moves result t moved. each (Did change ∷ moves) result t (record { streams = moved.streams; events = moved.events; parts = moved.parts }))
  does_comes (Asks it rest) next s Holds here each =
      asked_comes it (λ came. does halts (rest came) next) s
      (λ came left fit.
      does_comes (rest came) next (noted (event.Got came) (record (noted (event.Called it) s) { answers = left }))
      (λ moves. Holds (Heard it came ∷ moves)) (here came fit)
      (λ moves result t moved. each (Heard it came ∷ moves) result t (record {
        streams = moved.streams;
        events = moved.events ∙ append_assoc (s.events ++ event.Called it ∷ []) (event.Got came ∷ []) (told_by moves)
            ∙ append_assoc s.events (event.Called it ∷ []) (event.Got came ∷ told_by moves);
        parts = moved.parts;
      })))

-- a call beside was answered
pub heard_kept : {S : Type 0} {After : Parts → Parts → Type 0} {Keeps : Doer → Streams → List Move → Streams → Type 0}
    {Tells Holds : Streams → List Event → Parts → Type 0} (kept : IsHere After Keeps Tells Holds) (it : Call) (came : Answer) (left : List Entry)
    (s : State S) → is_aside it ≡ true → In Holds s → In Holds (noted (event.Got came) (record (noted (event.Called it) s) { answers = left }))
heard_kept {Holds = Holds} kept it came left s is holds =
    subst (λ events. Holds s.streams events s.loop.parts) (sym (append_assoc s.events (event.Called it ∷ []) (event.Got came ∷ [])))
    (kept.beside s.streams s.events (event.Called it ∷ event.Got came ∷ []) s.loop.parts (hears it came is) holds)
