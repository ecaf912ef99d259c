-- What something reads of the answers, and that it goes by these alone.
use Rattle.std.proofs.Common.{◌≡◌, Bool, true, false, List, [], ◌∷◌, ◌++◌, map, refl, ap, sym, ◌∙◌, append-nil, append_assoc}
use Rattle.std.proofs.lemmas.List.{map-append}
use Rattle.model_wire.specs.declared.event.End.TheVariants as end
use Rattle.model_wire.specs.declared.event.Event.TheVariants as event
use Rattle.model_wire.specs.Call.{Call, Answer}
use Rattle.model_wire.specs.Event.{Event}
use Rattle.model_wire.specs.Fits.{fits}
use Rattle.model_wire.specs.Journal.{Entry, Answered, Refused}
use Rattle.model_wire.specs.Trace.{End}
use Rattle.model_machine.specs.Does.{changed, does}
use Rattle.model_machine.specs.State.{State, noted, unbooked_in}
use Rattle.model_machine.specs.Went.{answered_so, answers_in, ask_so, fitted_so}
use Rattle.model_stream.specs.Doing.{Doing, Ends, Changes, Asks}
use Rattle.law_journal.specs.RecordedAnswers.{answers_of}
use Rattle.law_replay.specs.Reads.{MayFollow}

pub answers_of-append : (events more : List Event) → answers_of (events ++ more) ≡ answers_of events ++ answers_of more
answers_of-append [] more = refl
answers_of-append (event.Called call ∷ events) more = answers_of-append events more
answers_of-append (event.Got answer ∷ events) more = ap (λ (rest : List Answer). answer ∷ rest) (answers_of-append events more)
answers_of-append (event.Ran action ∷ events) more = answers_of-append events more
answers_of-append (event.Said task text ∷ events) more = answers_of-append events more

-- the same state over other answers
abbrev pub over : {S : Type 0} → List Entry → State S → State S
over answers s = record s { answers = answers }

-- ---- what may come of what the machine does: a state is left, and it may have ended the run
module _ {S R : Type 0} (state : R → State S) (put : List Entry → R → R) (Follows : R → List Entry → Type 0) where
  -- Over these answers, of which none was had but `had`, it comes to this; and `by` is what it comes to over others.
  pub record Reads (answers : List Entry) (had : List Answer) (it : R) (by : List Entry → R) : Type 0 where
    pub used : List Answer
    pub are : answers ≡ map Answered used ++ (state it).answers
    pub told : answers_of (state it).events ≡ had ++ used
    pub follows : Follows it (state it).answers
    pub again : (more : List Entry) → Follows it more → by (map Answered used ++ more) ≡ put more it

  -- nothing was read
  pub reads_none : (answers : List Entry) (had : List Answer) (it : R) (by : List Entry → R) → answers ≡ (state it).answers
      → answers_of (state it).events ≡ had → Follows it (state it).answers → ((more : List Entry) → Follows it more → by more ≡ put more it)
      → Reads answers had it by
  reads_none answers had it by are told follows again =
      record { used = []; are = are; told = told ∙ sym (append-nil had); follows = follows; again = again }

  -- so much was read, and then the rest
  pub reads_more : (answers left : List Entry) (had now used : List Answer) (it : R) (by then_by : List Entry → R)
      → answers ≡ map Answered used ++ left → now ≡ had ++ used → ((more : List Entry) → by (map Answered used ++ more) ≡ then_by more)
      → Reads left now it then_by → Reads answers had it by
  reads_more answers left had now used it by then_by are told goes r =
      let all : (more : List Entry) → map Answered (used ++ r.used) ++ more ≡ map Answered used ++ (map Answered r.used ++ more) =
      λ more. ap (λ (es : List Entry). es ++ more) (map-append Answered used r.used) ∙ append_assoc (map Answered used) (map Answered r.used) more in
      record {
        used = used ++ r.used;
        are = are ∙ ap (λ (es : List Entry). map Answered used ++ es) r.are ∙ sym (all (state it).answers);
        told = r.told ∙ ap (λ (a : List Answer). a ++ r.used) told ∙ append_assoc had used r.used;
        follows = r.follows;
        again = λ more may. ap by (all more) ∙ goes (map Answered r.used ++ more) ∙ r.again more may;
      }

  -- whatever state it goes on from
  abbrev pub Alone : (State S → R) → Type 0
  Alone f = (s : State S) → Reads s.answers (answers_of s.events) (f s) (λ answers. f (over answers s))

  -- ---- asks
  module _ (halts : End → State S → R)
      (stops : (answers : List Entry) (had used : List Answer) (how : End) (last : State S) (by : List Entry → R)
      → answers ≡ map Answered used ++ last.answers → answers_of last.events ≡ had ++ used → MayFollow how last.answers
      → ((more : List Entry) → MayFollow how more → by (map Answered used ++ more) ≡ halts how (over more last))
      → Reads answers had (halts how last) by) where
    pub ask_alone : (call : Call) (next : Answer → State S → R) → ((answer : Answer) → Alone (next answer)) → Alone (ask_so halts call next)
    ask_alone call next each s = by_entries s.answers
      where
        asked : State S
        asked = noted (event.Called call) s

        had : List Answer
        had = answers_of s.events

        asks_none : answers_of asked.events ≡ had
        asks_none = answers_of-append s.events (event.Called call ∷ []) ∙ append-nil had

        others : List Entry → R
        others answers = answered_so halts answers call next (over answers asked)

        got : Answer → List Entry → State S
        got came entries = noted (event.Got came) (over entries asked)

        gets : (came : Answer) (entries : List Entry) → answers_of (got came entries).events ≡ had ++ came ∷ []
        gets came entries =
            answers_of-append asked.events (event.Got came ∷ []) ∙ ap (λ (a : List Answer). a ++ came ∷ []) asks_none

        fitted : (came : Answer) (entries : List Entry) (b : Bool) → fits call came ≡ b
            → Reads (Answered came ∷ entries) had (fitted_so halts b call came next (got came entries)) others
        fitted came entries true is =
            reads_more (Answered came ∷ entries) entries had (answers_of (got came entries).events) (came ∷ [])
            (next came (got came entries)) others (λ answers. next came (over answers (got came entries))) refl (gets came entries)
            (λ more. ap (λ (b : Bool). fitted_so halts b call came next (got came more)) is) (each came (got came entries))
        fitted came entries false is =
            stops (Answered came ∷ entries) had (came ∷ []) (end.Mismatch (answers_in (got came entries).events) call) (got came entries) others
            refl (gets came entries) tt (λ more may. ap (λ (b : Bool). fitted_so halts b call came next (got came more)) is)

        by_entries : (entries : List Entry) → Reads entries had (answered_so halts entries call next (over entries asked)) others
        by_entries [] =
            stops [] had [] (end.Over call) (over [] asked) others refl (asks_none ∙ sym (append-nil had)) refl
            (λ more none. ap others none ∙ ap (λ (es : List Entry). halts (end.Over call) (over es asked)) (sym none))
        by_entries (Refused line cause ∷ entries) =
            stops (Refused line cause ∷ entries) had [] (end.JournalRefused line cause) (over (Refused line cause ∷ entries) asked) others refl
            (asks_none ∙ sym (append-nil had)) (entries, refl)
            (λ more refused.
            ap others refused.1 ∙ ap (λ (es : List Entry). halts (end.JournalRefused line cause) (over es asked)) (sym refused.1))
        by_entries (Answered came ∷ entries) = fitted came entries (fits call came) refl

    -- a tree of asks and changes
    pub does_alone : {A : Type 0} (tree : Doing A) (next : A → State S → R) → ((a : A) → Alone (next a)) → Alone (does halts tree next)
    does_alone (Ends result) next each s = each result s
    does_alone (Changes change rest) next each s = does_alone rest next each (unbooked_in (changed change) s)
    does_alone (Asks call rest) next each s =
        ask_alone call (λ answer. does halts (rest answer) next) (λ answer. does_alone (rest answer) next each) s
