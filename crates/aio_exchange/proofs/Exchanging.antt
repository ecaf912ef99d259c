-- No ask, and asks one after another.
use Rattle.std.proofs.Common.{◌≡◌, ℕ, ◌≤◌, true, List, [], ◌∷◌, ◌++◌, Option, Some, None}
use Rattle.std.proofs.Common.{◌∙◌, refl, sym, ap, subst, append_assoc, arith}
use Rattle.std.specs.List.{AllByRecursion as Each}
use Rattle.std.proofs.Math.Path.{fun_ext}
use Rattle.std.proofs.lemmas.List.{append-nil}
use Rattle.model_wire.specs.declared.event.Handed.{Handed}
use Rattle.model_wire.specs.declared.event.Event.TheVariants as event
use Rattle.model_wire.specs.Call.{Call}
use Rattle.model_wire.specs.Event.{Event, calls_in, handed_by, handed_in}
use Rattle.model_wire.specs.Fits.{fits}
use Rattle.model_wire.specs.Journal.{Entry, Answered}
use Rattle.model_wire.specs.Told.{Agrees, Rose}
use Rattle.aio_wire.specs.EventList.{EventList}
use Rattle.aio_wire.specs.Outside.{Outside}
use Rattle.aio_wire.specs.Port.{Ported, events_after}
use Rattle.aio_wire.specs.Told.{refused_of}
use Rattle.aio_wire.specs.declared.wire.Reply.TheVariants as reply
use Rattle.aio_exchange.specs.Exchanged.{Besides, Exchange, Exchanged, FailsIfRose, IsFailing, Last, All, Met, Starved, AsksLeave, Notes, Takes}
use Rattle.aio_exchange.specs.Exchanged.{TellsBytes, TellsCalls, Unasked, UnlessFailed, asked_by, bytes_last, bytes_to, calls_of}
use Rattle.aio_exchange.specs.Exchanged.{entries_of, handed_to, noted_by}

-- ---- nothing is asked
pub asked_none : (told : Option (List Call)) → told ≡ asked_by [] told
asked_none None = refl
asked_none (Some calls) = ap Some (sym (append-nil calls))

pub handed_none : (told : Option (Handed → List ℕ)) → told ≡ handed_to (λ to. []) told
handed_none None = refl
handed_none (Some held) = ap Some (fun_ext (λ to. sym (append-nil (held to))))

-- ---- lists
each_append : {A : Type 0} (P : A → Type 0) (xs ys : List A) → Each P xs → Each P ys → Each P (xs ++ ys)
each_append P [] ys a b = b
each_append P (x ∷ xs) ys a b = (a.0, each_append P xs ys a.1 b)

pub entries-append : (xs ys : List Exchange) → entries_of (xs ++ ys) ≡ entries_of xs ++ entries_of ys
entries-append [] ys = refl
entries-append (x ∷ xs) ys = ap (λ es. Answered x.answer ∷ es) (entries-append xs ys)

pub noted-append : (xs ys : List Exchange) (events : EventList) → noted_by (xs ++ ys) events ≡ noted_by ys (noted_by xs events)
noted-append [] ys events = refl
noted-append (x ∷ xs) ys events = noted-append xs ys (events_after events x.call (reply.Got x.answer))

bytes-append : (xs ys : List Exchange) (to : Handed) → bytes_to (xs ++ ys) to ≡ bytes_to xs to ++ bytes_to ys to
bytes-append [] ys to = refl
bytes-append (x ∷ xs) ys to =
    ap (λ bs. handed_by to x.call x.answer ++ bs) (bytes-append xs ys to)
    ∙ sym (append_assoc (handed_by to x.call x.answer) (bytes_to xs to) (bytes_to ys to))

calls-append : (xs ys : List Exchange) → calls_of (xs ++ ys) ≡ calls_of xs ++ calls_of ys
calls-append [] ys = refl
calls-append (x ∷ xs) ys = ap (λ es. x.call ∷ es) (calls-append xs ys)

-- what was noted only adds events
pub noted-adds : (had : List Exchange) (list : EventList) → (more : List Event) × ((noted_by had list).events ≡ list.events ++ more)
noted-adds [] list = ([], sym (append-nil list.events))
noted-adds (x ∷ had) list =
    let on = noted-adds had (events_after list x.call (reply.Got x.answer)) in (
      event.Called x.call ∷ (event.Got x.answer ∷ on.0),
      on.1 ∙ append_assoc (list.events ++ event.Called x.call ∷ []) (event.Got x.answer ∷ []) on.0
          ∙ append_assoc list.events (event.Called x.call ∷ []) (event.Got x.answer ∷ on.0),
    )

-- what is told of calls and of bytes, one list after another
pub asked-on : (xs ys : List Call) (told : Option (List Call)) → asked_by ys (asked_by xs told) ≡ asked_by (xs ++ ys) told
asked-on xs ys None = refl
asked-on xs ys (Some calls) = ap Some (append_assoc calls xs ys)

pub handed-on : (f g : Handed → List ℕ) (told : Option (Handed → List ℕ)) → handed_to g (handed_to f told) ≡ handed_to (λ to. f to ++ g to) told
handed-on f g None = refl
handed-on f g (Some held) = ap Some (fun_ext (λ to. append_assoc (held to) (f to) (g to)))

-- what is told agrees with something
pub agreed : (told : Option (List Entry)) → (rest : List Entry) × Agrees told rest
agreed None = ([], λ held e. absurd (cc e))
agreed (Some entries) = (entries, λ held e. cc)

module _ {W : Type 0} (o : Outside W) where
  -- ---- no ask
  pub exchanged_none : (at : Ported W) → Exchanged o [] All at at
  exchanged_none at = record {
    unasked = refl;
    fit = tt;
    is_last = tt;
    notes = refl;
    leaves = λ rest h. h;
    asks = asked_none (o.seen at.wire).asked;
    hands = handed_none (o.seen at.wire).handed;
    besides = tt;
    ends = tt;
    fitting = λ e. tt;
    failed = tt;
    stays = (refl, omega arith);
    failing = λ h. (refl, tt);
    keeps = o.keeps_same at.wire;
    unchanged = o.quiet_same at.wire;
  }

  -- memory was refused after them
  pub exchanged_starved : (had : List Exchange) (old new : Ported W) → Exchanged o had All old new → Exchanged o had Starved old new
  exchanged_starved had old new first = record {
    unasked = unasked_so had;
    fit = first.fit;
    is_last = tt;
    notes =
        let before = noted-adds had old.events in
        (before.0, ap (λ (l : EventList). l.events) first.notes ∙ before.1);
    leaves = let left = agreed (o.seen new.wire).left in (left.0, first.leaves left.0 left.1);
    asks = tt;
    hands = tt;
    besides = record { more = []; one = omega arith; asks = first.asks; hands = λ called. first.hands };
    ends = tt;
    fitting = λ e. tt;
    failed = tt;
    stays = first.stays;
    failing = λ h. ((first.failing h).0, tt);
    keeps = first.keeps;
    unchanged = first.unchanged;
  }
    where
      unasked_so : (had : List Exchange) → Unasked had Starved old new
      unasked_so [] = tt
      unasked_so (it ∷ had) = tt

  -- ---- one ask after another
  module _ (xs ys : List Exchange) (old mid new : Ported W) (first : Exchanged o xs All old mid) where
    nothing_first : xs ≡ [] → mid ≡ old
    nothing_first e = subst (λ zs. Unasked zs All old mid) e first.unasked

    notes_on : (last : Last) → Notes ys last mid.events new.events → Notes (xs ++ ys) last old.events new.events
    notes_on All n = n ∙ ap (noted_by ys) first.notes ∙ sym (noted-append xs ys old.events)
    notes_on (Met call said) n =
        n ∙ ap (λ (l : EventList). events_after l call said) (ap (noted_by ys) first.notes ∙ sym (noted-append xs ys old.events))
    notes_on Starved n =
        let before = noted-adds xs old.events in (
          before.0 ++ n.0,
          n.1 ∙ ap (λ (l : EventList). l.events ++ n.0) first.notes ∙ ap (λ (es : List Event). es ++ n.0) before.1
              ∙ append_assoc old.events.events before.0 n.0,
        )

    abbrev Told : Type 0
    Told = Option (List Entry)

    -- what was left before both, by what was left after the first
    before_both : (more : List Entry) → Agrees (o.seen mid.wire).left more → Agrees (o.seen old.wire).left (entries_of xs ++ more)
    before_both = first.leaves

    join : (more : List Entry) → Agrees (o.seen mid.wire).left (entries_of ys ++ more) → Agrees (o.seen old.wire).left (entries_of (xs ++ ys) ++ more)
    join more h =
        subst (Agrees (o.seen old.wire).left)
        (sym (append_assoc (entries_of xs) (entries_of ys) more) ∙ ap (λ (es : List Entry). es ++ more) (sym (entries-append xs ys)))
        (before_both (entries_of ys ++ more) h)

    takes_on : Takes ys (o.seen mid.wire).left (o.seen new.wire).left → Takes (xs ++ ys) (o.seen old.wire).left (o.seen new.wire).left
    takes_on l rest h = join rest (l rest h)

    leaves_on : (last : Last) → AsksLeave ys last (o.seen mid.wire).left (o.seen new.wire).left
        → AsksLeave (xs ++ ys) last (o.seen old.wire).left (o.seen new.wire).left
    leaves_on All l = takes_on l
    leaves_on (Met call (reply.Got answer)) l = λ rest h. join (Answered answer ∷ rest) (l rest h)
    leaves_on (Met call reply.Over) l =
        (subst (Agrees (o.seen old.wire).left) (sym (entries-append xs ys)) (before_both (entries_of ys) l.0), takes_on l.1)
    leaves_on (Met call (reply.Bad fault)) l = ((l.0.0, join (refused_of fault ∷ l.0.0) l.0.1), takes_on l.1)
    leaves_on (Met call reply.Failed) l = takes_on l
    leaves_on Starved l = (l.0, join l.0 l.1)

    -- the calls of both
    both_calls : (more : List Call)
        → asked_by (calls_of ys ++ more) (o.seen mid.wire).asked ≡ asked_by (calls_of (xs ++ ys) ++ more) (o.seen old.wire).asked
    both_calls more =
        ap (asked_by (calls_of ys ++ more)) (first.asks ∙ ap (λ (cs : List Call). asked_by cs (o.seen old.wire).asked) (append-nil (calls_of xs)))
        ∙ asked-on (calls_of xs) (calls_of ys ++ more) (o.seen old.wire).asked
        ∙ ap (λ (cs : List Call). asked_by cs (o.seen old.wire).asked)
        (sym (append_assoc (calls_of xs) (calls_of ys) more) ∙ ap (λ (cs : List Call). cs ++ more) (sym (calls-append xs ys)))

    asks_on : (last : Last) → TellsCalls ys last (o.seen mid.wire).asked (o.seen new.wire).asked
        → TellsCalls (xs ++ ys) last (o.seen old.wire).asked (o.seen new.wire).asked
    asks_on All a = a ∙ both_calls []
    asks_on (Met call said) a = a ∙ both_calls (call ∷ [])
    asks_on Starved a = tt

    both_bytes : (more : Handed → List ℕ)
        → handed_to (λ to. bytes_to ys to ++ more to) (o.seen mid.wire).handed
        ≡ handed_to (λ to. bytes_to (xs ++ ys) to ++ more to) (o.seen old.wire).handed
    both_bytes more =
        ap (handed_to (λ to. bytes_to ys to ++ more to))
        (first.hands ∙ ap (λ (f : Handed → List ℕ). handed_to f (o.seen old.wire).handed) (fun_ext (λ to. append-nil (bytes_to xs to))))
        ∙ handed-on (bytes_to xs) (λ to. bytes_to ys to ++ more to) (o.seen old.wire).handed
        ∙ ap (λ (f : Handed → List ℕ). handed_to f (o.seen old.wire).handed)
        (fun_ext (λ to. sym (append_assoc (bytes_to xs to) (bytes_to ys to) (more to))
        ∙ ap (λ (bs : List ℕ). bs ++ more to) (sym (bytes-append xs ys to))))

    hands_on : (last : Last) → TellsBytes ys last (o.seen mid.wire).handed (o.seen new.wire).handed
        → TellsBytes (xs ++ ys) last (o.seen old.wire).handed (o.seen new.wire).handed
    hands_on All h = h ∙ both_bytes (λ to. [])
    hands_on (Met call said) h = h ∙ both_bytes (bytes_last (Met call said))
    hands_on Starved h = tt

    besides_on : (last : Last) → Besides ys last (o.seen mid.wire) (o.seen new.wire) → Besides (xs ++ ys) last (o.seen old.wire) (o.seen new.wire)
    besides_on All b = tt
    besides_on (Met call said) b = tt
    besides_on Starved b = record {
      more = b.more;
      one = b.one;
      asks = b.asks ∙ both_calls (calls_in b.more);
      hands = λ called. b.hands called ∙ both_bytes (handed_in b.more called);
    }

    unasked_on : (last : Last) → Unasked ys last mid new → Unasked (xs ++ ys) last old new
    unasked_on last u = at xs ys last refl u
      where
        at : (zs bs : List Exchange) (last : Last) → xs ≡ zs → Unasked bs last mid new → Unasked (zs ++ bs) last old new
        at [] [] All e u = u ∙ nothing_first e
        at [] (y ∷ bs) All e u = tt
        at [] [] (Met call said) e u = tt
        at [] (y ∷ bs) (Met call said) e u = tt
        at [] [] Starved e u = tt
        at [] (y ∷ bs) Starved e u = tt
        at (x ∷ zs) bs last e u = tt

    failed_on : (last : Last) → FailsIfRose last (o.seen mid.wire).faults (o.seen new.wire).faults
        → FailsIfRose last (o.seen old.wire).faults (o.seen new.wire).faults
    failed_on All f = tt
    failed_on (Met call (reply.Got answer)) f = tt
    failed_on (Met call reply.Over) f = tt
    failed_on (Met call (reply.Bad fault)) f = tt
    failed_on (Met call reply.Failed) f = rose (o.seen old.wire).faults (o.seen mid.wire).faults (o.seen new.wire).faults first.stays.1 f
      where
        rose : (a b c : ℕ) → a ≤ b → Rose b c → Rose a c
        rose a b c h k = omega arith
    failed_on Starved f = tt

    still_on : (last : Last) → UnlessFailed (o.quiet mid.wire new.wire) last → UnlessFailed (o.quiet old.wire new.wire) last
    still_on All q = o.quiet_on old.wire mid.wire new.wire first.unchanged q
    still_on (Met call (reply.Got answer)) q = o.quiet_on old.wire mid.wire new.wire first.unchanged q
    still_on (Met call reply.Over) q = o.quiet_on old.wire mid.wire new.wire first.unchanged q
    still_on (Met call (reply.Bad fault)) q = o.quiet_on old.wire mid.wire new.wire first.unchanged q
    still_on (Met call reply.Failed) q = tt
    still_on Starved q = o.quiet_on old.wire mid.wire new.wire first.unchanged q

    failing_on : (last : Last) → (o.fails mid.wire → (ys ≡ []) × IsFailing last) → o.fails old.wire → ((xs ++ ys) ≡ []) × IsFailing last
    failing_on last f h =
        let none = (first.failing h).0 in
        let there = f (subst (λ (p : Ported W). o.fails p.wire) (sym (nothing_first none)) h) in
        (ap (λ (zs : List Exchange). zs ++ ys) none ∙ there.0, there.1)

    pub exchanged_then : (last : Last) → Exchanged o ys last mid new → Exchanged o (xs ++ ys) last old new
    exchanged_then last second = record {
      unasked = unasked_on last second.unasked;
      fit = each_append (λ (it : Exchange). fits it.call it.answer ≡ true) xs ys first.fit second.fit;
      is_last = second.is_last;
      notes = notes_on last second.notes;
      leaves = leaves_on last second.leaves;
      asks = asks_on last second.asks;
      hands = hands_on last second.hands;
      besides = besides_on last second.besides;
      ends = second.ends;
      fitting = λ e. second.fitting (first.stays.0 ∙ e);
      failed = failed_on last second.failed;
      stays = (second.stays.0 ∙ first.stays.0, omega (arith, first.stays.1, second.stays.1));
      failing = failing_on last second.failing;
      keeps = o.keeps_on old.wire mid.wire new.wire first.keeps second.keeps;
      unchanged = still_on last second.unchanged;
    }
