-- What goes on with each small thing that the machine does: the order of each sending side, and that one is over.
use Rattle.std.proofs.Common.{◌≡◌, ℕ, Bool, true, false, List, [], ◌∷◌, ◌++◌, Option, Some, None, refl, sym, ap, subst, ◌∙◌}
use Rattle.std.proofs.lemmas.List.{append-nil, append_assoc}
use Rattle.model_value.specs.Action.{Action}
use Rattle.model_wire.specs.declared.event.Event.TheVariants as event
use Rattle.model_wire.specs.declared.event.Handed.{Handed}
use Rattle.model_wire.specs.Call.{Call}
use Rattle.model_wire.specs.Event.{Event}
use Rattle.model_loop.specs.Parts.{Handle, Parts}
use Rattle.model_stream.specs.History.{handed, handed_after, handed_in as handed_to, written_to}
use Rattle.model_stream.specs.Streams.{Streams}
use Rattle.law_order.specs.Quiet.{IsQuiet as Quiet}
use Rattle.law_stream.specs.SoundSenders.{outlet_of}
use Rattle.law_stream.specs.Ways.{Move, Did, Heard, handed_in, told_by}
use Rattle.law_order.specs.Fronts.{Continues, IsFront, Loses, MayGiveUp, Way}
use Rattle.law_order.specs.Sides.{AreKept, AreKeptBy, standing_of}
use Rattle.law_walk.specs.Walks.{made_on}
use Rattle.law_order.specs.Order.{AreInOrder, IsOver, closes_asked, losses_ran, may_give_up}

-- ---- what events hand on, one after another
-- events that say for themselves what they hand on, whatever call came before
abbrev pub SayAll : Handed → List Event → Type 0
SayAll whom events = (last : Option Call) → handed_after whom last events ≡ handed whom events

pub handed_then : (whom : Handed) (last : Option Call) (events more : List Event) → SayAll whom more
    → handed_after whom last (events ++ more) ≡ handed_after whom last events ++ handed whom more
handed_then whom last [] more say = say last
handed_then whom last (event.Called it ∷ events) more say = handed_then whom (Some it) events more say
handed_then whom last (event.Got came ∷ events) more say =
    ap (λ bytes. handed_to whom last came ++ bytes) (handed_then whom None events more say)
    ∙ sym (append_assoc (handed_to whom last came) (handed_after whom None events) (handed whom more))
handed_then whom last (event.Ran it ∷ events) more say = handed_then whom last events more say
handed_then whom last (event.Said task text ∷ events) more say = handed_then whom last events more say

told_say : (whom : Handed) (moves : List Move) → SayAll whom (told_by moves)
told_say whom [] last = refl
told_say whom (Did change ∷ moves) last = told_say whom moves last
told_say whom (Heard it came ∷ moves) last = refl

-- events that hand on nothing
pub record HandsOnNone (more : List Event) : Type 0 where
  pub say : (whom : Handed) → SayAll whom more
  pub none : (whom : Handed) → handed whom more ≡ []

-- and in which no loss runs, and the outside is asked to close none
pub record IsQuiet (more : List Event) : Type 0 where
  pub hands : HandsOnNone more
  pub losses : (whom : Handed) → losses_ran whom more ≡ 0
  pub closes : (whom : Handed) → closes_asked whom more ≡ 0

-- events of which the last is a callback in which a connection may be given up
pub record EndsGiving (events : List Event) : Type 0 where
  pub front : List Event
  pub it : Action
  pub ends : events ≡ front ++ event.Ran it ∷ []
  pub giving : may_give_up it ≡ true

-- ---- what whatever is done keeps
pub record IsKept (Holds : Streams → List Event → Parts → Type 0) : Type 0 where
  -- events in which no handle runs, and which hand on nothing
  pub quiet : (s : Streams) (events more : List Event) (p : Parts) → IsQuiet more → Holds s events p → Holds s (events ++ more) p
  -- changes of the loop that schedule no loss
  pub loops : (s : Streams) (events : List Event) (p q : Parts) → Quiet p q → Holds s events p → Holds s events q
  -- the first handle is taken out: a dead one, and one that runs
  pub taken : (s : Streams) (events : List Event) (p : Parts) (handle : Handle) (rest : List Handle) → p.pending ≡ handle ∷ rest
      → handle.dead ≡ true → Holds s events p → Holds s events (record p { pending = rest })
  pub runs : (s : Streams) (events : List Event) (p : Parts) (handle : Handle) (rest : List Handle) → p.pending ≡ handle ∷ rest
      → handle.dead ≡ false → Holds s events p → Holds s (events ++ event.Ran handle.action ∷ []) (record p { pending = rest })
  -- something is done, by which each goes on
  pub tree : (s : Streams) (events : List Event) (p : Parts) (moves : List Move) (after : Streams) → AreKept s moves after → Holds s events p
      → Holds after (events ++ told_by moves) (made_on moves p)
  -- a connection that is being made may be given up
  pub gives_up : (conn : ℕ) (s : Streams) (events : List Event) (p : Parts) (moves : List Move) (after : Streams) → EndsGiving events
      → AreKeptBy (MayGiveUp conn) s moves after → Holds s events p → Holds after (events ++ told_by moves) (made_on moves p)
  -- a loss that was scheduled runs
  pub loses : (who : Handed) (broken : Bool) (s : Streams) (events : List Event) (p : Parts) (handle : Handle) (rest : List Handle)
      → p.pending ≡ handle ∷ rest → handle.dead ≡ false → handle.action ≡ (outlet_of who).loses broken → (moves : List Move) (after : Streams)
      → AreKeptBy (Loses who broken) s moves after → Holds s events p
      → Holds after ((events ++ event.Ran ((outlet_of who).loses broken) ∷ []) ++ told_by moves) (made_on moves (record p { pending = rest }))

pub quiet_same : (whom : Handed) (events more : List Event) → HandsOnNone more → handed whom (events ++ more) ≡ handed whom events
quiet_same whom events more quiet =
    handed_then whom None events more (quiet.say whom) ∙ ap (λ bytes. handed whom events ++ bytes) (quiet.none whom) ∙ append-nil (handed whom events)

pub told_same : (whom : Handed) (events : List Event) (moves : List Move) → handed whom (events ++ told_by moves) ≡ handed whom events ++ handed_in whom moves
told_same whom events moves = handed_then whom None events (told_by moves) (told_say whom moves)

-- the order is
pub order_quiet : (s : Streams) (events more : List Event) (p q : Parts) → HandsOnNone more → AreInOrder s events p → AreInOrder s (events ++ more) q
order_quiet s events more p q quiet ordered whom =
    record {
      sound = (ordered whom).sound;
      order = subst (λ bytes. IsFront (written_to whom s.written) bytes (standing_of whom s)) (sym (quiet_same whom events more quiet)) (ordered whom).order;
    }

pub order_tree : (way : Way) (s : Streams) (events : List Event) (p q : Parts) (moves : List Move) (after : Streams) → AreKeptBy way s moves after
    → AreInOrder s events p → AreInOrder after (events ++ told_by moves) q
order_tree way s events p q moves after kept ordered whom =
    let one = kept whom (ordered whom).sound in
    record {
      sound = one.1.keeps.sound;
      order =
          subst (λ bytes. IsFront bytes (handed whom (events ++ told_by moves)) (standing_of whom after)) (sym one.1.written)
          (subst (λ bytes. IsFront (written_to whom s.written ++ one.0) bytes (standing_of whom after)) (sym (told_same whom events moves))
          (one.1.keeps.order (written_to whom s.written) (handed whom events) (ordered whom).order));
    }

pub ran_hands : (it : Action) → HandsOnNone (event.Ran it ∷ [])
ran_hands it = record { say = λ whom last. refl; none = λ whom. refl }

pub order_kept : IsKept AreInOrder
order_kept =
    record {
      quiet = λ s events more p quiet ordered. order_quiet s events more p p quiet.hands ordered;
      loops = λ s events p q quiet ordered. ordered;
      taken = λ s events p handle rest first dead ordered. ordered;
      runs = λ s events p handle rest first live ordered. order_quiet s events (event.Ran handle.action ∷ []) p p (ran_hands handle.action) ordered;
      tree = λ s events p moves after kept ordered. order_tree Continues s events p (made_on moves p) moves after kept ordered;
      gives_up = λ conn s events p moves after giving kept ordered.
          order_tree (MayGiveUp conn) s events p (made_on moves p) moves after kept ordered;
      loses = λ who broken s events p handle rest first live is moves after kept ordered.
          let ran = event.Ran ((outlet_of who).loses broken) ∷ [] in
          order_tree (Loses who broken) s (events ++ ran) p (made_on moves (record p { pending = rest })) moves after kept
          (order_quiet s events ran p p (ran_hands ((outlet_of who).loses broken)) ordered);
    }

-- and that one is over
over_quiet : (whom : Handed) (bytes : List ℕ) (s : Streams) (events more : List Event) (p q : Parts) → HandsOnNone more → IsOver whom bytes s events p
    → IsOver whom bytes s (events ++ more) q
over_quiet whom bytes s events more p q quiet it =
    record {
      ordered = order_quiet s events more p q quiet it.ordered;
      over = it.over;
      hands = quiet_same whom events more quiet ∙ it.hands;
    }

over_same : (whom : Handed) (bytes : List ℕ) (s : Streams) (events : List Event) (p q : Parts) → IsOver whom bytes s events p → IsOver whom bytes s events q
over_same whom bytes s events p q it = record { ordered = it.ordered; over = it.over; hands = it.hands }

over_tree : (whom : Handed) (bytes : List ℕ) (way : Way) (s : Streams) (events : List Event) (p q : Parts) (moves : List Move) (after : Streams)
    → AreKeptBy way s moves after → IsOver whom bytes s events p → IsOver whom bytes after (events ++ told_by moves) q
over_tree whom bytes way s events p q moves after kept it =
    let keeps = (kept whom (it.ordered whom).sound).1.keeps in
    record {
      ordered = order_tree way s events p q moves after kept it.ordered;
      over = keeps.stays it.over;
      hands = told_same whom events moves ∙ ap (λ more. handed whom events ++ more) (keeps.silent it.over) ∙ append-nil (handed whom events) ∙ it.hands;
    }

pub over_kept : (whom : Handed) (bytes : List ℕ) → IsKept (IsOver whom bytes)
over_kept whom bytes =
    record {
      quiet = λ s events more p quiet it. over_quiet whom bytes s events more p p quiet.hands it;
      loops = λ s events p q quiet it. over_same whom bytes s events p q it;
      taken = λ s events p handle rest first dead it. over_same whom bytes s events p (record p { pending = rest }) it;
      runs = λ s events p handle rest first live it.
          over_quiet whom bytes s events (event.Ran handle.action ∷ []) p (record p { pending = rest }) (ran_hands handle.action) it;
      tree = λ s events p moves after kept it. over_tree whom bytes Continues s events p (made_on moves p) moves after kept it;
      gives_up = λ conn s events p moves after giving kept it.
          over_tree whom bytes (MayGiveUp conn) s events p (made_on moves p) moves after kept it;
      loses = λ who broken s events p handle rest first live is moves after kept it.
          let ran = event.Ran ((outlet_of who).loses broken) ∷ [] in
          over_tree whom bytes (Loses who broken) s (events ++ ran) p (made_on moves (record p { pending = rest })) moves after kept
          (over_quiet whom bytes s events ran p p (ran_hands ((outlet_of who).loses broken)) it);
    }
