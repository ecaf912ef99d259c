-- Of each connection and child at most one loss is to come or ran, in every state of a run.
use Rattle.std.proofs.Common.{◌≡◌, ℕ, zero, suc, ◌+◌, ◌≤◌, Bool, true, false, List, [], ◌∷◌, ◌++◌, refl, ap, subst, le_refl, arith}
use Rattle.model_tree.specs.Syntax.{Program}
use Rattle.model_wire.specs.declared.event.Event.TheVariants as event
use Rattle.model_wire.specs.declared.event.Handed.{Handed}
use Rattle.model_wire.specs.declared.event.Handed.TheVariants as to
use Rattle.model_wire.specs.Event.{Event}
use Rattle.model_wire.specs.Journal.{Entry}
use Rattle.model_loop.specs.Parts.{Handle, Parts}
use Rattle.model_stream.specs.Streams.{Streams}
use Rattle.model_machine.specs.State.{State, start}
use Rattle.law_order.specs.Quiet.{IsQuiet as Quiet, RegistersNone, losses_pending}
use Rattle.law_order.proofs.Moves.{first_goes, first_runs, loss_of, losses_counted, made_by}
use Rattle.law_order.proofs.Parts.{losses_of}
use Rattle.law_stream.specs.SoundSenders.{outlet_of}
use Rattle.law_stream.specs.Ways.{Move, Did, Heard, one_if, told_by}
use Rattle.law_order.specs.Fronts.{Continues, Loses, MayGiveUp, Way}
use Rattle.law_order.specs.Sides.{AreKeptBy, standing_of}
use Rattle.law_walk.specs.Walks.{In, made_on}
use Rattle.law_order.specs.Order.{IsLostOnce, losses_ran}
use Rattle.law_order.proofs.Beginning.{begins}
use Rattle.law_order.proofs.Moving.{IsKept, IsQuiet, order_kept, order_tree}

-- ---- what ran
ran_both : (whom : Handed) (events more : List Event) → losses_ran whom (events ++ more) ≡ losses_ran whom events + losses_ran whom more
ran_both whom [] more = omega arith
ran_both whom (event.Ran it ∷ events) more = let rest = ran_both whom events more in omega (arith, rest)
ran_both whom (event.Called it ∷ events) more = ran_both whom events more
ran_both whom (event.Got came ∷ events) more = ran_both whom events more
ran_both whom (event.Said task text ∷ events) more = ran_both whom events more

none_told : (whom : Handed) (moves : List Move) → losses_ran whom (told_by moves) ≡ 0
none_told whom [] = refl
none_told whom (Did change ∷ moves) = none_told whom moves
none_told whom (Heard it came ∷ moves) = none_told whom moves

-- ---- it is kept
module _ (s : Streams) (events : List Event) (p : Parts) (it : IsLostOnce s events p) where
  lost_quiet : (more : List Event) → IsQuiet more → IsLostOnce s (events ++ more) p
  lost_quiet more quiet =
      record {
        ordered = order_kept.quiet s events more p quiet it.ordered;
        registers = it.registers;
        once = λ whom.
            let a = ran_both whom events more in
            let b = quiet.losses whom in
            let c = it.once whom in
            omega (arith, a, b, c);
      }

  lost_loops : (q : Parts) → Quiet p q → IsLostOnce s events q
  lost_loops q quiet =
      record {
        ordered = order_kept.loops s events p q quiet it.ordered;
        registers = quiet.registers it.registers;
        once = λ whom. let a = quiet.pending it.registers (loss_of whom) (losses_of whom) in let b = it.once whom in omega (arith, a, b);
      }

  lost_taken : (handle : Handle) (rest : List Handle) → p.pending ≡ handle ∷ rest → handle.dead ≡ true → IsLostOnce s events (record p { pending = rest })
  lost_taken handle rest first dead =
      record {
        ordered = order_kept.taken s events p handle rest first dead it.ordered;
        registers = it.registers;
        once = λ whom. let a = first_goes (loss_of whom) p handle rest first in let b = it.once whom in omega (arith, a, b);
      }

  lost_runs : (handle : Handle) (rest : List Handle) → p.pending ≡ handle ∷ rest → handle.dead ≡ false
      → IsLostOnce s (events ++ event.Ran handle.action ∷ []) (record p { pending = rest })
  lost_runs handle rest first live =
      record {
        ordered = order_kept.runs s events p handle rest first live it.ordered;
        registers = it.registers;
        once = λ whom.
            let a = first_runs (loss_of whom) p handle rest first live in
            let b = ran_both whom events (event.Ran handle.action ∷ []) in
            let c = it.once whom in
            omega (arith, a, b, c);
      }

  lost_tree : (way : Way) (moves : List Move) (after : Streams) → AreKeptBy way s moves after
      → IsLostOnce after (events ++ told_by moves) (made_on moves p)
  lost_tree way moves after kept =
      let parts = made_by moves p it.registers in
      record {
        ordered = order_tree way s events p (made_on moves p) moves after kept it.ordered;
        registers = parts.registers;
        once = λ whom.
            let a = parts.pending (loss_of whom) (losses_of whom) in
            let b = ran_both whom events (told_by moves) in
            let c = none_told whom moves in
            let d = it.once whom in
            let e = (kept whom (it.ordered whom).sound).1.keeps.once in
            let f = losses_counted whom moves in
            omega (arith, a, b, c, d, e, f);
      }

lost_loses : (who : Handed) (broken : Bool) (s : Streams) (events : List Event) (p : Parts) (it : IsLostOnce s events p) (handle : Handle)
    (rest : List Handle) → p.pending ≡ handle ∷ rest → handle.dead ≡ false → handle.action ≡ (outlet_of who).loses broken → (moves : List Move)
    (after : Streams) → AreKeptBy (Loses who broken) s moves after
    → IsLostOnce after ((events ++ event.Ran ((outlet_of who).loses broken) ∷ []) ++ told_by moves) (made_on moves (record p { pending = rest }))
lost_loses who broken s events p it handle rest first live is moves after kept =
    subst (λ act. IsLostOnce after ((events ++ event.Ran act ∷ []) ++ told_by moves) (made_on moves (record p { pending = rest }))) is
    (lost_tree s (events ++ event.Ran handle.action ∷ []) (record p { pending = rest }) (lost_runs s events p it handle rest first live)
    (Loses who broken) moves after kept)

pub lost_kept : IsKept IsLostOnce
lost_kept =
    record {
      quiet = λ s events more p quiet it. lost_quiet s events p it more quiet;
      loops = λ s events p q quiet it. lost_loops s events p it q quiet;
      taken = λ s events p handle rest first dead it. lost_taken s events p it handle rest first dead;
      runs = λ s events p handle rest first live it. lost_runs s events p it handle rest first live;
      tree = λ s events p moves after kept it. lost_tree s events p it Continues moves after kept;
      gives_up = λ conn s events p moves after giving kept it. lost_tree s events p it (MayGiveUp conn) moves after kept;
      loses = λ who broken s events p handle rest first live is moves after kept it.
          lost_loses who broken s events p it handle rest first live is moves after kept;
    }

-- ---- a run begins so
pub begins_lost : {S : Type 0} (most : ℕ) (state : S) (program : Program) (answers : List Entry) → In IsLostOnce (start most state program answers)
begins_lost most state program answers =
    record { ordered = begins most state program answers; registers = registers; once = once }
  where
    registers : RegistersNone (start most state program answers).loop.parts
    registers zero = refl
    registers (suc id) = refl

    once : (whom : Handed) → losses_ran whom [] + losses_pending whom (start most state program answers).loop.parts
        ≤ one_if (standing_of whom (start most state program answers).streams).writer.ended
    once (to.Conn id) = le_refl _
    once (to.Child id) = le_refl _

-- ---- what that says
at_most_one : (b : Bool) → one_if b ≤ 1
at_most_one true = omega arith
at_most_one false = omega arith

module _ {S : Type 0} (s : State S) (it : In IsLostOnce s) (whom : Handed) where
  pub runs_once : losses_ran whom s.events + losses_pending whom s.loop.parts ≤ 1
  runs_once = let a = it.once whom in let b = at_most_one (standing_of whom s.streams).writer.ended in omega (arith, a, b)

  pub runs_after : (standing_of whom s.streams).writer.ended ≡ false → losses_ran whom s.events + losses_pending whom s.loop.parts ≡ 0
  runs_after live = let a = it.once whom in let b = ap one_if live in omega (arith, a, b)
