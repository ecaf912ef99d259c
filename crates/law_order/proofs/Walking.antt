-- What goes on so goes on with the walk through the machine, and holds of every state of every run.
use Rattle.std.proofs.Common.{◌≡◌, ◌+◌, true, false, ◌||◌, List, [], ◌∷◌, ◌++◌, refl, ap, subst, ◌∙◌}
use Rattle.std.specs.List.{flat_map, list_any}
use Rattle.std.proofs.lemmas.Bool.{false≢true, or_parts}
use Rattle.std.proofs.lemmas.List.Folds.{list_any-append}
use Rattle.model_value.specs.declared.action.Action.TheVariants as action
use Rattle.model_value.specs.Action.{Action}
use Rattle.model_wire.specs.declared.call.Call.TheVariants as call
use Rattle.model_wire.specs.declared.event.Event.TheVariants as event
use Rattle.model_wire.specs.declared.event.Handed.{Handed}
use Rattle.model_wire.specs.declared.event.Handed.TheVariants as to
use Rattle.model_wire.specs.declared.item.Item.TheVariants as item
use Rattle.model_wire.specs.declared.item.Readiness.TheVariants as ready
use Rattle.model_wire.specs.Call.{Answer, Call, Item}
use Rattle.model_wire.specs.Event.{Event, handed_by}
use Rattle.model_loop.specs.Handles.{soon, soon_all}
use Rattle.model_loop.specs.Parts.{Handle, Parts}
use Rattle.model_stream.specs.Streams.{Streams}
use Rattle.model_machine.specs.Outside.{actions_of, items_of, news_of, select, time_of, watched}
use Rattle.model_machine.specs.Turn.{at_time, woken_by}
use Rattle.law_changes.specs.Changes.{FallsDue, Passes}
use Rattle.law_stream.specs.Ways.{Move, is_close, one_if, told_by}
use Rattle.law_walk.specs.Walks.{Anyone, AreTrees, Doer, EndsInStep, GivesUp, IsAside, IsHere, Runs, Walks, hears, is_aside, is_step, made_on, says}
use Rattle.law_order.specs.Quiet.{IsQuiet as Quiet, is_a_loss}
use Rattle.law_order.proofs.Going.{goes_on}
use Rattle.law_order.proofs.Parts.{change_quiet, next, same, soon_quiet}
use Rattle.law_order.specs.Fronts.{MayGiveUp, way_of}
use Rattle.law_order.specs.Sides.{AreKept, AreKeptBy}
use Rattle.law_order.proofs.AllSides as sides
use Rattle.law_order.proofs.Writing.{writes}
use Rattle.law_order.specs.Order.{may_give_up}
use Rattle.law_order.proofs.Moving.{EndsGiving, IsKept, IsQuiet}

-- ---- what connections and children do
abbrev pub KeptBy : Doer → Streams → List Move → Streams → Type 0
KeptBy Anyone = AreKept
KeptBy (Runs it) = AreKeptBy (way_of it)
KeptBy (GivesUp conn) = AreKeptBy (MayGiveUp conn)

all_kept : AreTrees KeptBy
all_kept =
    record {
      acts = sides.acts;
      listens = sides.listens;
      closes_server = sides.closes_server;
      connects = sides.connects;
      launches = sides.launches;
      writes = writes;
      ends = sides.ends;
      drains = sides.drains;
      limits_keep = sides.limits_keep;
      closes = sides.closes;
      drops = sides.drops;
      reads = sides.reads;
      reads_all = sides.reads_all;
      gives_up = sides.gives_up;
      waits = sides.waits;
      kills = sides.kills;
    }

-- ---- what happens beside
aside_hands : (whom : Handed) (it : Call) (came : Answer) → is_aside it ≡ true → handed_by whom it came ≡ []
aside_hands (to.Conn id) (call.Select wait watched) came is = refl
aside_hands (to.Child id) (call.Select wait watched) came is = refl
aside_hands (to.Conn id) (call.Extra code bytes) came is = refl
aside_hands (to.Child id) (call.Extra code bytes) came is = refl
aside_hands whom _ came is = absurd (false≢true is)

aside_closes : (whom : Handed) (it : Call) → is_aside it ≡ true → one_if (is_close whom it) + 0 ≡ 0
aside_closes (to.Conn id) (call.Select wait watched) is = refl
aside_closes (to.Child id) (call.Select wait watched) is = refl
aside_closes (to.Conn id) (call.Extra code bytes) is = refl
aside_closes (to.Child id) (call.Extra code bytes) is = refl
aside_closes whom _ is = absurd (false≢true is)

aside_quiet : (more : List Event) → IsAside more → IsQuiet more
aside_quiet _ (says task text) =
    record { hands = record { say = λ whom last. refl; none = λ whom. refl }; losses = λ whom. refl; closes = λ whom. refl }
aside_quiet _ (hears it came is) =
    record {
      hands = record { say = λ whom last. refl; none = λ whom. ap (λ bytes. bytes ++ []) (aside_hands whom it came is) };
      losses = λ whom. refl;
      closes = λ whom. aside_closes whom it is;
    }

-- ---- the answer to a select
-- no news is a loss
no_loss_in : (it : Item) → list_any is_a_loss (actions_of it) ≡ false
no_loss_in (item.ReadableServer server) = refl
no_loss_in (item.Ready conn ready.Read) = refl
no_loss_in (item.Ready conn ready.Write) = refl
no_loss_in (item.Ready conn ready.Both) = refl
no_loss_in (item.Up conn) = refl
no_loss_in (item.Down conn) = refl
no_loss_in (item.WritableChild child) = refl
no_loss_in (item.Child child told) = refl
no_loss_in (item.Extra code bytes) = refl

no_loss : (items : List Item) → list_any is_a_loss (flat_map actions_of items) ≡ false
no_loss [] = refl
no_loss (it ∷ items) =
    list_any-append is_a_loss (actions_of it) (flat_map actions_of items)
    ∙ ap (λ b. b || list_any is_a_loss (flat_map actions_of items)) (no_loss_in it) ∙ no_loss items

news_quiet : (actions : List Action) (p : Parts) → list_any is_a_loss actions ≡ false → Quiet p (soon_all actions p)
news_quiet [] p other = same p
news_quiet (it ∷ actions) p other =
    let parts = or_parts (is_a_loss it) (list_any is_a_loss actions) other in
    next p (soon it p) (soon_all actions (soon it p)) (soon_quiet it p parts.0) (news_quiet actions (soon it p) parts.1)

woken_quiet : (answer : Answer) (p : Parts) → Quiet p (woken_by answer p)
woken_quiet answer p =
    let timed = at_time (time_of answer) p in
    let told = soon_all (news_of answer) timed in
    next p timed (woken_by answer p) (change_quiet (Passes (time_of answer)) p tt)
    (next timed told (woken_by answer p) (news_quiet (news_of answer) timed (no_loss (items_of answer))) (change_quiet FallsDue told tt))

-- ---- all together
step_gives : (it : Action) → is_step it ≡ true → may_give_up it ≡ true
step_gives (action.Step task) is = refl
step_gives (action.StepInCycle task cycle) is = refl
step_gives (action.Wakeup task) is = refl
step_gives _ is = absurd (false≢true is)

giving : (events : List Event) → EndsInStep events → EndsGiving events
giving events began = record { front = began.front; it = began.it; ends = began.ends; giving = step_gives began.it began.step }

module _ {Holds : Streams → List Event → Parts → Type 0} (kept : IsKept Holds) where
  kept_here : IsHere Quiet KeptBy Holds Holds
  kept_here =
      record {
        tells = λ s events p it. it;
        beside = λ s events more p is it. kept.quiet s events more p (aside_quiet more is) it;
        loops = kept.loops;
        tree = kept.tree;
        drops = λ conn s events p moves after began keeps it. kept.gives_up conn s events p moves after (giving events began) keeps it;
      }

  module _ (s : Streams) (events : List Event) (p : Parts) (handle : Handle) (rest : List Handle) (first : p.pending ≡ handle ∷ rest)
      (live : handle.dead ≡ false) (holds : Holds s events p) where
    abbrev left : Parts
    left = record p { pending = rest }

    ran_kept : (it : Action) → handle.action ≡ it → Holds s (events ++ event.Ran it ∷ []) left
    ran_kept it is = subst (λ act. Holds s (events ++ event.Ran act ∷ []) left) is (kept.runs s events p handle rest first live holds)

    -- a loss is done in one with its running
    acts_kept : (it : Action) (moves : List Move) (after : Streams) → handle.action ≡ it → AreKeptBy (way_of it) s moves after
        → Holds after ((events ++ event.Ran it ∷ []) ++ told_by moves) (made_on moves left)
    acts_kept (action.Lost conn broken) moves after is keeps =
        kept.loses (to.Conn conn) broken s events p handle rest first live is moves after keeps holds
    acts_kept (action.LostChild child broken) moves after is keeps =
        kept.loses (to.Child child) broken s events p handle rest first live is moves after keeps holds
    acts_kept (action.Down conn) moves after is keeps =
        let it = action.Down conn in
        kept.gives_up conn s (events ++ event.Ran it ∷ []) left moves after (record { front = events; it = it; ends = refl; giving = refl }) keeps
        (ran_kept it is)
    acts_kept it moves after is keeps = kept.tree s (events ++ event.Ran it ∷ []) left moves after keeps (ran_kept it is)

  pub kept_walks : Walks Quiet KeptBy Holds (λ bar left. Holds)
  kept_walks =
      record {
        goes_on = goes_on;
        trees = all_kept;
        here = λ bar left. kept_here;
        wakes = λ s events p time extra came fit it.
            let more = event.Called (select time (watched s extra)) ∷ event.Got came ∷ [] in
            kept.loops s (events ++ more) p (woken_by came p) (woken_quiet came p)
            (kept.quiet s events more p (aside_quiet more (hears (select time (watched s extra)) came refl)) it);
        taken = λ bar left s events p handle rest first dead it. kept.taken s events p handle rest first dead it;
        runs = λ bar left s events p handle rest it first live is other holds. ran_kept s events p handle rest first live holds it is;
        acts = λ bar left s events p handle rest it moves after first live is keeps holds.
            acts_kept s events p handle rest first live holds it moves after is keeps;
        empty = λ bar left s events p none it. it;
        stops = λ bar left s events p handle rest first behind it. it;
        ends = λ bar s events p it. it;
      }
