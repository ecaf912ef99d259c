-- Asks among other things, one after another.
use Rattle.std.proofs.Common.{◌≡◌, List, [], ◌∷◌, ◌++◌, ◌∙◌, refl, sym, ap, subst, append_assoc, append-nil}
use Rattle.model_wire.specs.declared.event.Event.TheVariants as event
use Rattle.model_wire.specs.Call.{Call}
use Rattle.model_wire.specs.Event.{Event}
use Rattle.aio_wire.specs.EventList.{EventList}
use Rattle.aio_wire.specs.Outside.{Outside}
use Rattle.aio_wire.specs.declared.wire.Reply.{Reply}
use Rattle.aio_wire.specs.declared.wire.Reply.TheVariants as reply
use Rattle.aio_wire.specs.Port.{Ported, events_after, ported}
use Rattle.aio_exchange.specs.Among.{AreTold, ExchangedOn, asks_among, no_events, noted_last, told_by, told_last, told_of}
use Rattle.aio_exchange.specs.Exchanged.{Exchange, Exchanged, Last, All, Met, Starved, Notes, Unasked, noted_by}
use Rattle.aio_exchange.proofs.Exchanging.{exchanged_none, exchanged_starved, exchanged_then, noted-adds, noted-append}

-- ---- the wire
module _ {W : Type 0} (o : Outside W) where
  -- whatever was noted before
  pub relisted : (had : List Exchange) (last : Last) (old new : W) (e f g : EventList) → Exchanged o had last (ported old e) (ported new f)
      → Exchanged o had last (ported old g) (ported new (noted_last last (noted_by had g)))
  relisted had last old new e f g x = record {
    unasked = unasked_so had last x.unasked;
    fit = x.fit;
    is_last = x.is_last;
    notes = notes_so last;
    leaves = x.leaves;
    asks = x.asks;
    hands = x.hands;
    besides = x.besides;
    ends = x.ends;
    fitting = x.fitting;
    failed = x.failed;
    stays = x.stays;
    failing = x.failing;
    keeps = x.keeps;
    unchanged = x.unchanged;
  }
    where
      unasked_so : (had : List Exchange) (last : Last) → Unasked had last (ported old e) (ported new f)
          → Unasked had last (ported old g) (ported new (noted_last last (noted_by had g)))
      unasked_so [] All u = ap (λ (p : Ported W). ported p.wire g) u
      unasked_so [] (Met call said) u = tt
      unasked_so [] Starved u = tt
      unasked_so (it ∷ had) last u = tt

      notes_so : (last : Last) → Notes had last g (noted_last last (noted_by had g))
      notes_so All = refl
      notes_so (Met call said) = refl
      notes_so Starved = noted-adds had g

  pub on_wire : (had : List Exchange) (last : Last) (old new : Ported W) → Exchanged o had last old new → ExchangedOn o had last old.wire new.wire
  on_wire had last old new x = relisted had last old.wire new.wire old.events new.events no_events x

  pub on_none : (wire : W) → ExchangedOn o [] All wire wire
  on_none wire = exchanged_none o (ported wire no_events)

  pub on_starved : (had : List Exchange) (old new : W) → ExchangedOn o had All old new → ExchangedOn o had Starved old new
  on_starved had old new x = exchanged_starved o had (ported old no_events) (ported new (noted_by had no_events)) x

  pub on_then : (xs ys : List Exchange) (last : Last) (old mid new : W) → ExchangedOn o xs All old mid → ExchangedOn o ys last mid new
      → ExchangedOn o (xs ++ ys) last old new
  on_then xs ys last old mid new first second =
      subst (λ (e : EventList). Exchanged o (xs ++ ys) last (ported old no_events) (ported new (noted_last last e)))
      (sym (noted-append xs ys no_events))
      (exchanged_then o xs ys (ported old no_events) (ported mid (noted_by xs no_events))
      (ported new (noted_last last (noted_by ys (noted_by xs no_events)))) first last
      (relisted ys last mid new no_events (noted_last last (noted_by ys no_events)) (noted_by xs no_events) second))

-- ---- the events
pub asks-append : (xs ys : List Event) → asks_among (xs ++ ys) ≡ asks_among xs ++ asks_among ys
asks-append [] ys = refl
asks-append (event.Called call ∷ xs) ys = ap (λ es. event.Called call ∷ es) (asks-append xs ys)
asks-append (event.Got answer ∷ xs) ys = ap (λ es. event.Got answer ∷ es) (asks-append xs ys)
asks-append (event.Ran action ∷ xs) ys = asks-append xs ys
asks-append (event.Said task text ∷ xs) ys = asks-append xs ys

pub told-append : (xs ys : List Exchange) → told_by (xs ++ ys) ≡ told_by xs ++ told_by ys
told-append [] ys = refl
told-append (x ∷ xs) ys = ap (λ es. event.Called x.call ∷ event.Got x.answer ∷ es) (told-append xs ys)

pub told_none : (events : List Event) → AreTold [] All events events
told_none events = record { more = []; adds = sym (append-nil events); tells = refl }

-- one event more, which tells of no ask
pub told_beside : (events : List Event) (it : Event) → asks_among (it ∷ []) ≡ [] → AreTold [] All events (events ++ it ∷ [])
told_beside events it none = record { more = it ∷ []; adds = refl; tells = none }

pub told_then : (xs ys : List Exchange) (last : Last) (old mid new : List Event) → AreTold xs All old mid → AreTold ys last mid new
    → AreTold (xs ++ ys) last old new
told_then xs ys last old mid new first second = record {
  more = first.more ++ second.more;
  adds = second.adds ∙ ap (λ (es : List Event). es ++ second.more) first.adds ∙ append_assoc old first.more second.more;
  tells =
      asks-append first.more second.more ∙ ap (λ (es : List Event). es ++ asks_among second.more) (first.tells ∙ append-nil (told_by xs))
      ∙ ap (λ (es : List Event). told_by xs ++ es) second.tells ∙ sym (append_assoc (told_by xs) (told_by ys) (told_last last))
      ∙ ap (λ (es : List Event). es ++ told_last last) (sym (told-append xs ys));
}

-- ---- asks through one port are asks among others
asks_of_had : (had : List Exchange) → asks_among (told_by had) ≡ told_by had
asks_of_had [] = refl
asks_of_had (it ∷ had) = ap (λ es. event.Called it.call ∷ event.Got it.answer ∷ es) (asks_of_had had)

asks_of_last : (call : Call) (said : Reply) → asks_among (told_of call said) ≡ told_of call said
asks_of_last call (reply.Got answer) = refl
asks_of_last call reply.Over = refl
asks_of_last call (reply.Bad fault) = refl
asks_of_last call reply.Failed = refl

noted_tells : (had : List Exchange) (list : EventList) → (noted_by had list).events ≡ list.events ++ told_by had
noted_tells [] list = sym (append-nil list.events)
noted_tells (it ∷ had) list =
    noted_tells had (events_after list it.call (reply.Got it.answer))
    ∙ append_assoc (list.events ++ event.Called it.call ∷ []) (event.Got it.answer ∷ []) (told_by had)
    ∙ append_assoc list.events (event.Called it.call ∷ []) (event.Got it.answer ∷ told_by had)

after_tells : (list : EventList) (call : Call) (said : Reply) → (events_after list call said).events ≡ list.events ++ told_of call said
after_tells list call (reply.Got answer) = append_assoc list.events (event.Called call ∷ []) (event.Got answer ∷ [])
after_tells list call reply.Over = refl
after_tells list call (reply.Bad fault) = refl
after_tells list call reply.Failed = refl

pub noted_told : (had : List Exchange) (old new : EventList) → Notes had All old new → AreTold had All old.events new.events
noted_told had old new notes = record {
  more = told_by had;
  adds = ap (λ (l : EventList). l.events) notes ∙ noted_tells had old;
  tells = asks_of_had had ∙ sym (append-nil (told_by had));
}

pub met_told : (had : List Exchange) (call : Call) (said : Reply) (old new : EventList) → Notes had (Met call said) old new
    → AreTold had (Met call said) old.events new.events
met_told had call said old new notes = record {
  more = told_by had ++ told_of call said;
  adds =
      ap (λ (l : EventList). l.events) notes ∙ after_tells (noted_by had old) call said
      ∙ ap (λ (es : List Event). es ++ told_of call said) (noted_tells had old) ∙ append_assoc old.events (told_by had) (told_of call said);
  tells =
      asks-append (told_by had) (told_of call said)
      ∙ ap (λ (es : List Event). es ++ asks_among (told_of call said)) (asks_of_had had)
      ∙ ap (λ (es : List Event). told_by had ++ es) (asks_of_last call said);
}
