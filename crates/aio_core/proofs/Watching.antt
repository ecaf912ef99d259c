-- What a turn watches: all that is open in order of opening, and then what is added.
use Rattle.std.proofs.Common.{◌≡◌, suc, Bool, true, false, ◌==◌, not, List, [], ◌∷◌, ◌++◌, None, length, ◌∙◌, refl, sym, ap}
use Rattle.std.proofs.Common.{arith}
use Rattle.std.proofs.lemmas.Bool.{false≢true, ne_eqb}
use Rattle.model_wire.specs.declared.watch.Watch.{Watch}
use Rattle.model_wire.specs.declared.watch.Watch.TheVariants as watch
use Rattle.model_stream.specs.Streams.{Streams}
use Rattle.model_stream.specs.Watching.{entry_if, watch_list}
use Rattle.model_machine.specs.Extra.{Extra}
use Rattle.model_machine.specs.State.{State}
use Rattle.model_machine.specs.Turn.{watched_by}
use Rattle.refine_parts.specs.Waiting.{is_none_watched}
use Rattle.aio_step.specs.Kept.{Kept}
use Rattle.aio_step.specs.Standing.{TransportsStandFor as AreTransports}
use Rattle.aio_extra.specs.Added.{Added}
use Rattle.aio_body.specs.declared.run_state.RunState.{RunState}
use Rattle.aio_body.specs.Stands.{Context, Stands}
use Rattle.aio_core.specs.Watched.{StandsOn}

-- ---- whether there is an entry
pub any_then : (list : List Watch) (added : Bool) → not (length list == 0) ≡ true
    → true ≡ not (is_none_watched (list ++ entry_if added watch.Extra))
any_then [] added e = absurd (false≢true e)
any_then (entry ∷ entries) added e = refl

pub any_else : (list : List Watch) (added : Bool) → not (length list == 0) ≡ false
    → added ≡ not (is_none_watched (list ++ entry_if added watch.Extra))
any_else [] true e = refl
any_else [] false e = refl
any_else (entry ∷ entries) added e =
    let some : (suc (length entries) == 0) ≡ false = ne_eqb (suc (length entries)) 0 (λ z. absurd (omega (arith, z))) in
    absurd (false≢true (sym e ∙ ap not some))

-- one for what is added, or none
pub put_there : (entries after : List Watch) → after ≡ entries ++ watch.Extra ∷ [] → (added : Bool) → added ≡ true
    → after ≡ entries ++ entry_if added watch.Extra
put_there entries after is added e = is ∙ ap (λ b. entries ++ entry_if b watch.Extra) (sym e)

-- the whole list
pub list_so : {S : Type 0} (added : Extra S) (s : State S) (first entries : List Watch) (watches : Bool)
    → first ≡ [] ++ watch_list s.streams
    → watches ≡ added.watches s.extra → entries ≡ first ++ entry_if watches watch.Extra → entries ≡ watched_by added s
list_so added s first entries watches opened as_added all =
    all ∙ ap (λ list. list ++ entry_if watches watch.Extra) opened ∙ ap (λ b. watch_list s.streams ++ entry_if b watch.Extra)
    as_added

module _ {X : Type 0} {a : Added X} where
  -- ---- what is stood for
  -- other transports stand for the same streams
  module _ (old : RunState X) (transports : Kept) (same : (streams : Streams) → AreTransports old.transports streams
      → AreTransports transports streams) where
    stands_so : (c : Context a) (s : State a.Kept) → Stands None c old s → Stands None c (record old { transports = transports })
        s
    stands_so c s h = record {
      name_map = h.name_map;
      code = h.code;
      profile = h.profile;
      keeps = h.keeps;
      left = h.left;
      bar = h.bar;
      blocks = h.blocks;
      made = h.made;
      told = h.told;
      few = h.few;
      held = h.held;
      gone = h.gone;
      futures = h.futures;
      few_futures = h.few_futures;
      main_done = h.main_done;
      transports = same s.streams h.transports;
      time = h.time;
      counts = h.counts;
      events = h.events;
      rest = h.rest;
      extra = h.extra;
      count = h.count;
    }

    pub stands_watched : StandsOn a old (record old { transports = transports })
    stands_watched = record {
      between = λ c s h. record { stands = stands_so c s h.stands; called = h.called; running = h.running; sound = h.sound };
      events = refl;
    }
