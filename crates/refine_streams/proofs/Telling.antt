-- The events that a port notes tell which calls had which answers.
use Rattle.std.proofs.Common.{◌≡◌, ℕ, List, [], ◌∷◌, ◌++◌, ◌∙◌, refl, sym, ap, append_assoc, append-nil}
use Rattle.std.proofs.lemmas.List.{append_cancel_left}
use Rattle.model_wire.specs.declared.event.Event.TheVariants as event
use Rattle.model_wire.specs.Call.{Answer, Call}
use Rattle.model_wire.specs.Event.{Event}
use Rattle.aio_exchange.specs.Among.{told_by, told_of}
use Rattle.aio_exchange.specs.Exchanged.{Exchange, All, Met, Notes, StopsAs, noted_by}
use Rattle.aio_wire.specs.EventList.{EventList}
use Rattle.aio_wire.specs.Port.{events_after}
use Rattle.aio_wire.specs.declared.wire.Reply.{Reply}
use Rattle.aio_wire.specs.declared.stop.Stop.{Stop}
use Rattle.aio_wire.specs.declared.stop.Stop.TheVariants as stop
use Rattle.aio_wire.specs.declared.wire.Reply.TheVariants as reply

-- ---- what is noted
pub noted_events : (had : List Exchange) (list : EventList) → (noted_by had list).events ≡ list.events ++ told_by had
noted_events [] list = sym (append-nil list.events)
noted_events (it ∷ had) list =
    noted_events had (events_after list it.call (reply.Got it.answer))
    ∙ append_assoc (list.events ++ event.Called it.call ∷ []) (event.Got it.answer ∷ []) (told_by had)
    ∙ append_assoc list.events (event.Called it.call ∷ []) (event.Got it.answer ∷ told_by had)

pub after_events : (list : EventList) (call : Call) (said : Reply) → (events_after list call said).events ≡ list.events ++ told_of call said
after_events list call (reply.Got answer) = append_assoc list.events (event.Called call ∷ []) (event.Got answer ∷ [])
after_events list call reply.Over = refl
after_events list call (reply.Bad fault) = refl
after_events list call reply.Failed = refl

-- ---- what was told at the head
module _ (c d : Call) where
  head_call : (es fs : List Event) → ◌≡◌ {A = List Event} (event.Called c ∷ es) (event.Called d ∷ fs) → c ≡ d
  head_call es fs e = cc

  head_rest : (es fs : List Event) → ◌≡◌ {A = List Event} (event.Called c ∷ es) (event.Called d ∷ fs) → es ≡ fs
  head_rest es fs e = cc

  module _ (a b : Answer) where
    pair_answer : (es fs : List Event)
        → ◌≡◌ {A = List Event} (event.Called c ∷ event.Got a ∷ es) (event.Called d ∷ event.Got b ∷ fs) → a ≡ b
    pair_answer es fs e = cc

    pair_rest : (es fs : List Event)
        → ◌≡◌ {A = List Event} (event.Called c ∷ event.Got a ∷ es) (event.Called d ∷ event.Got b ∷ fs) → es ≡ fs
    pair_rest es fs e = cc

alone_not : (c d : Call) (b : Answer) (fs : List Event)
    → ◌≡◌ {A = List Event} (event.Called c ∷ []) (event.Called d ∷ event.Got b ∷ fs) → ⊥
alone_not c d b fs e = absurd (cc)

nil_not : (it : Event) (fs : List Event) → ◌≡◌ {A = List Event} [] (it ∷ fs) → ⊥
nil_not it fs e = absurd (cc)

same_exchange : (x y : Exchange) → x.call ≡ y.call → x.answer ≡ y.answer → x ≡ y
same_exchange x y call answer =
    ap (λ (c : Call). record { call = c; answer = x.answer }) call ∙ ap (λ (a : Answer). record { call = y.call; answer = a }) answer

same_cons : (x y : Exchange) (xs ys : List Exchange) → x ≡ y → xs ≡ ys → ◌≡◌ {A = List Exchange} (x ∷ xs) (y ∷ ys)
same_cons x y xs ys first others = ap (λ (it : Exchange). it ∷ xs) first ∙ ap (λ (its : List Exchange). y ∷ its) others

-- ---- each had its answer
told_once : (xs ys : List Exchange) → told_by xs ≡ told_by ys → xs ≡ ys
told_once [] [] e = refl
told_once [] (y ∷ ys) e = absurd (nil_not (event.Called y.call) (event.Got y.answer ∷ told_by ys) e)
told_once (x ∷ xs) [] e = absurd (nil_not (event.Called x.call) (event.Got x.answer ∷ told_by xs) (sym e))
told_once (x ∷ xs) (y ∷ ys) e =
    same_cons x y xs ys
    (same_exchange x y (head_call x.call y.call _ _ e) (pair_answer x.call y.call x.answer y.answer _ _ e))
    (told_once xs ys (pair_rest x.call y.call x.answer y.answer _ _ e))

-- ---- one more had none
pub record SameStop (xs ys : List Exchange) (c d : Call) : Type 0 where
  pub had : xs ≡ ys
  pub call : c ≡ d

called_once : (xs ys : List Exchange) (c d : Call) → told_by xs ++ event.Called c ∷ [] ≡ told_by ys ++ event.Called d ∷ [] → SameStop xs ys c d
called_once [] [] c d e = record { had = refl; call = head_call c d [] [] e }
called_once [] (y ∷ ys) c d e = absurd (alone_not c y.call y.answer (told_by ys ++ event.Called d ∷ []) e)
called_once (x ∷ xs) [] c d e = absurd (alone_not d x.call x.answer (told_by xs ++ event.Called c ∷ []) (sym e))
called_once (x ∷ xs) (y ∷ ys) c d e =
    let others = called_once xs ys c d (pair_rest x.call y.call x.answer y.answer _ _ e) in
    record {
      had =
          same_cons x y xs ys
          (same_exchange x y (head_call x.call y.call _ _ e) (pair_answer x.call y.call x.answer y.answer _ _ e)) others.had;
      call = others.call;
    }

-- or one that doesn't fit
heard_once : (xs ys : List Exchange) (c d : Call) (a b : Answer)
    → told_by xs ++ event.Called c ∷ event.Got a ∷ [] ≡ told_by ys ++ event.Called d ∷ event.Got b ∷ []
    → SameStop xs ys c d × (a ≡ b)
heard_once [] [] c d a b e = (record { had = refl; call = head_call c d _ _ e }, pair_answer c d a b [] [] e)
heard_once [] (y ∷ []) c d a b e = absurd (nil_not (event.Called d) (event.Got b ∷ []) (pair_rest c y.call a y.answer _ _ e))
heard_once [] (y ∷ z ∷ ys) c d a b e =
    absurd (nil_not (event.Called z.call) (event.Got z.answer ∷ told_by ys ++ event.Called d ∷ event.Got b ∷ []) (pair_rest c y.call a y.answer _ _ e))
heard_once (x ∷ []) [] c d a b e = absurd (nil_not (event.Called c) (event.Got a ∷ []) (sym (pair_rest x.call d x.answer b _ _ e)))
heard_once (x ∷ z ∷ xs) [] c d a b e =
    absurd (nil_not (event.Called z.call) (event.Got z.answer ∷ told_by xs ++ event.Called c ∷ event.Got a ∷ []) (sym (pair_rest x.call d x.answer b _ _ e)))
heard_once (x ∷ xs) (y ∷ ys) c d a b e =
    let others = heard_once xs ys c d a b (pair_rest x.call y.call x.answer y.answer _ _ e) in (
      record {
        had =
            same_cons x y xs ys
            (same_exchange x y (head_call x.call y.call _ _ e) (pair_answer x.call y.call x.answer y.answer _ _ e)) others.0.had;
        call = others.0.call;
      },
      others.1,
    )

-- ---- through a port
module _ (xs ys : List Exchange) (old new : EventList) where
  pub all_once : Notes xs All old new → Notes ys All old new → xs ≡ ys
  all_once a b =
      told_once xs ys
      (append_cancel_left old.events (told_by xs) (told_by ys)
      (sym (noted_events xs old) ∙ ap (λ (l : EventList). l.events) (sym a ∙ b) ∙ noted_events ys old))

  ended : (zs : List Exchange) (call : Call) (said : Reply) → Notes zs (Met call said) old new
      → new.events ≡ old.events ++ (told_by zs ++ told_of call said)
  ended zs call said n =
      ap (λ (l : EventList). l.events) n ∙ after_events (noted_by zs old) call said
      ∙ ap (λ (es : List Event). es ++ told_of call said) (noted_events zs old) ∙ append_assoc old.events (told_by zs) (told_of call said)

  told_same : (c d : Call) (r q : Reply) → Notes xs (Met c r) old new → Notes ys (Met d q) old new
      → told_by xs ++ told_of c r ≡ told_by ys ++ told_of d q
  told_same c d r q a b =
      append_cancel_left old.events (told_by xs ++ told_of c r) (told_by ys ++ told_of d q) (sym (ended xs c r a) ∙ ended ys d q b)

  -- the stop tells the reply, and the events the rest
  pub met_once : (c d : Call) (r q : Reply) (why : Stop) → Notes xs (Met c r) old new → Notes ys (Met d q) old new
      → StopsAs (Met c r) new.answers why → StopsAs (Met d q) new.answers why → SameStop xs ys c d × (r ≡ q)
  met_once c d (reply.Got a) (reply.Got b) why m n s t =
      let it = heard_once xs ys c d a b (told_same c d (reply.Got a) (reply.Got b) m n) in (it.0, ap reply.Got it.1)
  met_once c d reply.Over reply.Over why m n s t = (called_once xs ys c d (told_same c d reply.Over reply.Over m n), refl)
  met_once c d (reply.Bad fault) (reply.Bad other) why m n s t =
      (called_once xs ys c d (told_same c d (reply.Bad fault) (reply.Bad other) m n), ap reply.Bad (bad_same (sym s ∙ t)))
    where
      bad_same : ◌≡◌ {A = Stop} (stop.Bad fault) (stop.Bad other) → fault ≡ other
      bad_same e = cc
  met_once c d reply.Failed reply.Failed why m n s t = (called_once xs ys c d (told_same c d reply.Failed reply.Failed m n), refl)
  met_once c d (reply.Got a) reply.Over why m n s t = absurd (let e = sym s ∙ t in cc)
  met_once c d (reply.Got a) (reply.Bad fault) why m n s t = absurd (let e = sym s ∙ t in cc)
  met_once c d (reply.Got a) reply.Failed why m n s t = absurd (let e = sym s ∙ t in cc)
  met_once c d reply.Over (reply.Got b) why m n s t = absurd (let e = sym s ∙ t in cc)
  met_once c d reply.Over (reply.Bad fault) why m n s t = absurd (let e = sym s ∙ t in cc)
  met_once c d reply.Over reply.Failed why m n s t = absurd (let e = sym s ∙ t in cc)
  met_once c d (reply.Bad fault) (reply.Got b) why m n s t = absurd (let e = sym s ∙ t in cc)
  met_once c d (reply.Bad fault) reply.Over why m n s t = absurd (let e = sym s ∙ t in cc)
  met_once c d (reply.Bad fault) reply.Failed why m n s t = absurd (let e = sym s ∙ t in cc)
  met_once c d reply.Failed (reply.Got b) why m n s t = absurd (let e = sym s ∙ t in cc)
  met_once c d reply.Failed reply.Over why m n s t = absurd (let e = sym s ∙ t in cc)
  met_once c d reply.Failed (reply.Bad fault) why m n s t = absurd (let e = sym s ∙ t in cc)

-- a stop at a call is no want of memory
pub met_not_starved : (call : Call) (said : Reply) (count : ℕ) (why : Stop) → StopsAs (Met call said) count why → why ≡ stop.Memory → ⊥
met_not_starved call (reply.Got answer) count why s e = absurd (let x = sym s ∙ e in cc)
met_not_starved call reply.Over count why s e = absurd (let x = sym s ∙ e in cc)
met_not_starved call (reply.Bad fault) count why s e = absurd (let x = sym s ∙ e in cc)
met_not_starved call reply.Failed count why s e = absurd (let x = sym s ∙ e in cc)
