-- The machine does along a way what its tree says, and stops where the outside has no answer that fits.
use Rattle.std.proofs.Common.{◌≡◌, ℕ, Bool, true, false, List, [], ◌∷◌, ◌++◌, Option, Some, None, ◌∙◌, refl, sym, ap, subst, append_assoc, append-nil}
use Rattle.model_wire.specs.declared.event.Event.TheVariants as event
use Rattle.model_wire.specs.declared.event.End.TheVariants as end
use Rattle.model_wire.specs.Call.{Call, Answer}
use Rattle.model_wire.specs.Event.{Event}
use Rattle.model_wire.specs.Fits.{fits}
use Rattle.model_wire.specs.Journal.{Entry, Answered, Refused}
use Rattle.model_wire.specs.Trace.{End}
use Rattle.model_loop.specs.Futures.{next_future}
use Rattle.model_machine.specs.Does.{changed, does}
use Rattle.model_machine.specs.State.{State, noted, unbooked_in}
use Rattle.model_machine.specs.Went.{answered_so, answers_in, fitted_so}
use Rattle.model_stream.specs.Doing.{Doing, Ends, Changes, Asks}
use Rattle.model_stream.specs.Streams.{Streams}
use Rattle.aio_exchange.specs.Among.{told_by}
use Rattle.aio_exchange.specs.Exchanged.{AllFit, entries_of}
use Rattle.aio_exchange.specs.Ways.{Move, Did, Heard, Leads, had_on}
use Rattle.law_cases.specs.TreeEnd.{IsStreamsEnd, IsTreeEnd, owned_in as plain_in}
use Rattle.law_cases.proofs.Ending.{tree_ends}
use Rattle.law_cases.proofs.Replying.{end_keeps}
use Rattle.law_cases.specs.Trees.{Keeping, KeepsStreams}
use Rattle.refine_streams.specs.Along.{along, called_on, heard_on}

-- the state after a call and its answer
abbrev heard : {S : Type 0} → Call → Answer → List Entry → State S → State S
heard call answer left s = noted (event.Got answer) (record (noted (event.Called call) s) { answers = left })

along_heard : {S : Type 0} (call : Call) (answer : Answer) (way : List Move) (between left : List Entry) (s : State S)
    → along way left (heard call answer between s) ≡ along (Heard call answer ∷ way) left s
along_heard call answer way between left s =
    ap (λ (es : List Event). record (along way left s) { events = es })
    (append_assoc (s.events ++ event.Called call ∷ []) (event.Got answer ∷ []) (told_by (had_on way))
    ∙ append_assoc s.events (event.Called call ∷ []) (event.Got answer ∷ told_by (had_on way)))

along_none : {S : Type 0} (left : List Entry) (s : State S) → s.answers ≡ left → along [] left s ≡ s
along_none left s e =
    ap (λ (es : List Event). record s { events = es; answers = left }) (append-nil s.events)
    ∙ ap (λ (answers : List Entry). record s { answers = answers }) (sym e)

module _ {A S R : Type 0} (halts : End → State S → R) (next : A → State S → R) where
  -- a call with its answer
  does_heard : (call : Call) (rest : Answer → Doing A) (answer : Answer) (s : State S) (after : List Entry) → fits call answer ≡ true
      → s.answers ≡ Answered answer ∷ after
      → does halts (Asks call rest) next s ≡ does halts (rest answer) next (heard call answer after s)
  does_heard call rest answer s after fit e =
      ap (λ (es : List Entry). answered_so halts es call (λ it. does halts (rest it) next) (noted (event.Called call) s)) e
      ∙ ap (λ (b : Bool). fitted_so halts b call answer (λ it. does halts (rest it) next) (heard call answer after s)) fit

  pub does_along : (way : List Move) (tree between : Doing A) (s : State S) (left : List Entry) → Leads tree way between → AllFit (had_on way)
      → s.answers ≡ entries_of (had_on way) ++ left → does halts tree next s ≡ does halts between next (along way left s)
  does_along [] tree between s left h fit e =
      ap (λ (d : Doing A). does halts d next s) h ∙ ap (does halts between next) (sym (along_none left s e))
  does_along (Did it ∷ way) (Changes change rest) between s left h fit e =
      ap (λ c. does halts rest next (unbooked_in (changed c) s)) h.0
      ∙ does_along way rest between (unbooked_in (changed it) s) left h.1 fit e
  does_along (Heard asked answer ∷ way) (Asks call rest) between s left h fit e =
      ap (λ (c : Call). does halts (Asks c rest) next s) h.0
      ∙ does_heard asked rest answer s (entries_of (had_on way) ++ left) fit.0 e
      ∙ does_along way (rest answer) between (heard asked answer (entries_of (had_on way) ++ left) s) left h.1 fit.1 refl
      ∙ ap (does halts between next) (along_heard asked answer way (entries_of (had_on way) ++ left) left s)
  does_along (Did it ∷ way) (Ends result) between s left h fit e = absurd h
  does_along (Did it ∷ way) (Asks call rest) between s left h fit e = absurd h
  does_along (Heard asked answer ∷ way) (Ends result) between s left h fit e = absurd h
  does_along (Heard asked answer ∷ way) (Changes change rest) between s left h fit e = absurd h

  -- the tree ends
  pub does_ends : (tree : Doing A) (way : List Move) (it : A) (s : State S) (left : List Entry) → Leads tree way (Ends it) → AllFit (had_on way)
      → s.answers ≡ entries_of (had_on way) ++ left → does halts tree next s ≡ next it (along way left s)
  does_ends tree way it s left h fit e = does_along way tree (Ends it) s left h fit e

  -- a call has no answer that fits
  module _ (tree : Doing A) (way : List Move) (call : Call) (rest : Answer → Doing A) (s : State S) (h : Leads tree way (Asks call rest))
      (fit : AllFit (had_on way)) where
    pub does_over : s.answers ≡ entries_of (had_on way) ++ [] → does halts tree next s ≡ halts (end.Over call) (called_on way call [] s)
    does_over e = does_along way tree (Asks call rest) s [] h fit e

    pub does_refused : (line cause : ℕ) (left : List Entry) → s.answers ≡ entries_of (had_on way) ++ Refused line cause ∷ left
        → does halts tree next s ≡ halts (end.JournalRefused line cause) (called_on way call (Refused line cause ∷ left) s)
    does_refused line cause left e = does_along way tree (Asks call rest) s (Refused line cause ∷ left) h fit e

    pub does_misfit : (answer : Answer) (left : List Entry) → s.answers ≡ entries_of (had_on way) ++ Answered answer ∷ left
        → fits call answer ≡ false
        → does halts tree next s ≡ halts (end.Mismatch (answers_in (heard_on way call answer left s).events) call) (heard_on way call answer left s)
    does_misfit answer left e misfit =
        does_along way tree (Asks call rest) s (Answered answer ∷ left) h fit e
        ∙ ap (λ (b : Bool). fitted_so halts b call answer (λ it. does halts (rest it) next) (heard_on way call answer left s)) misfit

-- ---- a tree that keeps what streams keep
module _ {A S : Type 0} (Left : ℕ → A → Type 0) (s : State S) where
  -- what a tree came to, unless the run ended in it
  abbrev Came : Option (A × State S) → Type 0
  Came None = Unit {0}
  Came (Some came) = IsTreeEnd s came.1 × Left (next_future came.1.loop.parts) came.0

  pub way_ends : (tree : Doing A) (way : List Move) (it : A) (left : List Entry)
      → Keeping Left (plain_in s) (next_future s.loop.parts) tree → Leads tree way (Ends it) → AllFit (had_on way)
      → s.answers ≡ entries_of (had_on way) ++ left
      → IsTreeEnd s (along way left s) × Left (next_future (along way left s).loop.parts) it
  way_ends tree way it left keeps h fit e =
      subst Came (does_ends (λ how last. None) (λ a t. Some (a, t)) tree way it s left h fit e)
      (tree_ends (λ how last. None) Came s (λ how last ended. tt) Left (λ a t. Some (a, t)) (λ a t ended l. (ended, l)) tree keeps)

pub streams_end : {S : Type 0} (tree : Doing Streams) (way : List Move) (streams : Streams) (s : State S) (left : List Entry)
    → Keeping (KeepsStreams (plain_in s) (next_future s.loop.parts) s.streams) (plain_in s) (next_future s.loop.parts) tree
    → Leads tree way (Ends streams) → AllFit (had_on way) → s.answers ≡ entries_of (had_on way) ++ left
    → IsStreamsEnd s (along way left s) streams
streams_end tree way streams s left keeps h fit e =
    let it = way_ends (KeepsStreams (plain_in s) (next_future s.loop.parts) s.streams) s tree way streams left keeps h fit e in
    end_keeps s (along way left s) streams it.0 it.1
