-- What is done where something is unsent.
use Rattle.std.proofs.Common.{◌≡◌, ℕ, Bool, true, false, cond, not, ◌&&◌, refl}
use Rattle.model_stream.specs.declared.phase.Phase.TheVariants.{Closing}
use Rattle.model_stream.specs.Children.{Child, inlet, its_stdin, break_stdin}
use Rattle.model_stream.specs.Connections.{Connection, flushed}
use Rattle.model_stream.specs.Doing.{Doing, Ends, on}
use Rattle.model_stream.specs.Senders.{Sender, Outlet, has_unsent, is_closing, schedule_loss, close_sender, fail_sender}

closes_by :
    (outlet : Outlet) (s : Sender) (closing unsent : Bool) → unsent ≡ true
    → cond closing (Ends s) (cond unsent (Ends (record s { phase = Closing })) (schedule_loss outlet false s))
    ≡ Ends (cond closing s (record s { phase = Closing }))
closes_by outlet s true unsent some = refl
closes_by outlet s false true some = refl
closes_by outlet s false false some = absurd (let bad : ⊥ = cc in bad)

pub closes :
    (outlet : Outlet) (s : Sender) → has_unsent s ≡ true
    → close_sender outlet s ≡ Ends (cond (is_closing s) s (record s { phase = Closing }))
closes outlet s some = closes_by outlet s (is_closing s) (has_unsent s) some

sends_by : (unsent ended : Bool) (stays goes : Doing Connection) → unsent ≡ true → cond (not (not unsent && not ended)) stays goes ≡ stays
sends_by true ended stays goes some = refl
sends_by false ended stays goes some = absurd (let bad : ⊥ = cc in bad)

pub sends : (id : ℕ) (c : Connection) → has_unsent c.sender ≡ true → flushed id c ≡ Ends c
sends id c some = sends_by (has_unsent c.sender) c.sender.writer.ended (Ends c) _ some

breaks_by :
    (id : ℕ) (p : Child) (ended unsent : Bool) → unsent ≡ true
    → cond ended (Ends p) (on its_stdin (schedule_loss (inlet id) unsent) p) ≡ on its_stdin (λ s. cond ended (Ends s) (schedule_loss (inlet id) true s)) p
breaks_by id p true unsent some = refl
breaks_by id p false true some = refl
breaks_by id p false false some = absurd (let bad : ⊥ = cc in bad)

pub breaks : (id : ℕ) (p : Child) → has_unsent p.stdin ≡ true → break_stdin id p ≡ on its_stdin (fail_sender (inlet id)) p
breaks id p some = breaks_by id p p.stdin.writer.ended (has_unsent p.stdin) some
