-- A call that is spoken of with another context, as of the coroutine that is taken out, or of how many handles are left.
use Rattle.std.proofs.Common.{◌≡◌, List, ◌++◌, Result, Ok, Err, ◌∙◌, sym, ap, subst}
use Rattle.model_wire.specs.Journal.{Entry}
use Rattle.model_wire.specs.Event.{Event}
use Rattle.aio_wire.specs.Outside.{Outside}
use Rattle.aio_wire.specs.Port.{Ported}
use Rattle.aio_wire.specs.declared.stop.Stop.{Stop}
use Rattle.aio_exchange.specs.Exchanged.{Exchange, Last, All, Met, Starved, entries_of}
use Rattle.aio_extra.specs.Added.{Added}
use Rattle.aio_body.specs.Asking.{Comes, ComesBy, Piece, RestFits, StopsWith, before}
use Rattle.aio_body.specs.Stands.{Context}

-- what is taken out before, and what is left to answer, stay
pub record IsBeside {X : Type 0} {a : Added X} (change : Context a → Context a) : Type 0 where
  pub answers : (entries : List Entry) (c : Context a) → change (record c { answers = entries }) ≡ record (change c) { answers = entries }
  pub rest : (c : Context a) → (change c).answers ≡ c.answers
  pub past : (c : Context a) → (change c).past ≡ c.past

abbrev pub over : {X At M R : Type 0} {a : Added X} → (Context a → Context a) → Piece a At M R → Piece a At M R
over change p =
    record { from = λ c at. p.from (change c) at; does = p.does; ends = p.ends; says = λ c said it. p.says (change c) said it; begins = p.begins }

module _ {X W At M R : Type 0} {a : Added X} (o : Outside W) (change : Context a → Context a) (frame : IsBeside change) (p : Piece a At M R) where
  moved : (had : List Exchange) (c : Context a) → change (before had c) ≡ before had (change c)
  moved had c =
      let it : Context a = change c in
      frame.answers (entries_of had ++ c.answers) c
      ∙ ap (λ (es : List Entry). record it { answers = entries_of had ++ es }) (sym (frame.rest c))

  pub comes_over : (old new : Ported W) (result : Result R Stop) → Comes o p old new result → Comes o (over change p) old new result
  comes_over old new result h = record {
    had = h.had;
    last = h.last;
    exchanged = h.exchanged;
    comes = at h.last result h.comes;
  }
    where
      at : (last : Last) (result : Result R Stop) → ComesBy p h.had last old.events new.events result
          → ComesBy (over change p) h.had last old.events new.events result
      at All (Ok said) comes = λ c s from. comes (change c) s (subst (λ d. p.from d s) (moved h.had c) from)
      at (Met call reply) (Err why) comes = (
        comes.0,
        λ c s from fits.
            let it = comes.1 (change c) s (subst (λ d. p.from d s) (moved h.had c) from)
            (subst (RestFits (Met call reply)) (sym (frame.rest c)) fits) in
            (it.0, subst (λ (es : List Event). StopsWith p.ends why es new.events.events (p.does s)) (frame.past c) it.1),
      )
      at Starved (Err why) comes = (
        comes.0,
        (
          comes.1.0,
          λ c s from.
              let it = comes.1.1 (change c) s (subst (λ d. p.from d s) (moved h.had c) from) in
              (it.0, subst (λ (es : List Event). p.begins (es ++ comes.1.0) (p.does s)) (frame.past c) it.1),
        ),
      )
      at All (Err why) comes = absurd comes
      at (Met call reply) (Ok said) comes = absurd comes
      at Starved (Ok said) comes = absurd comes
