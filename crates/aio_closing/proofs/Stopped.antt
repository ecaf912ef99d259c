-- Each lane of the children that run is given Stop, once.
use Rattle.std.proofs.Common.{◌≡◌, ℕ, zero, suc, ◌+◌, ◌<◌, ◌≤◌, ◌==◌, Bool, true, false, cond, ◌&&◌, List, [], ◌∷◌, ◌++◌, Some}
use Rattle.std.proofs.Common.{length, map, refl, sym, ap, ◌∙◌, subst, append-nil, eq-eqb, arith}
use Rattle.std.specs.Prelude.{slice_get}
use Rattle.std.proofs.lemmas.Bool.{false≢true, eqb-true}
use Rattle.model_pump.specs.Commands.{Command}
use Rattle.model_pump.specs.declared.command.Command.TheVariants as command
use Rattle.model_hub.specs.declared.child.Child.{Child}
use Rattle.model_hub.specs.declared.giving.Giving.TheVariants.{Given}
use Rattle.model_hub.specs.declared.pump.Pump.{Pump}
use Rattle.model_hub.specs.declared.pump.Pump.TheVariants as pump
use Rattle.model_hub.specs.Lanes.{if_given}
use Rattle.model_hub.specs.Closing.{number_of}
use Rattle.aio_serving.specs.Heads.{HeadsSeen, is_same_pump, at_lane, Grows}
use Rattle.aio_roster.specs.Rosters.{RosterSeen, Numbered}
use Rattle.aio_roster.proofs.Seated.{some_is, none_some}
use Rattle.aio_closing.specs.Kills.{running_in}
use Rattle.aio_closing.specs.Stops.{is_stopped, Stops, StopsLane, IsStopped, StopsChild, StopsKth}
use Rattle.aio_closing.proofs.Pass.{kth_is, apart}

-- ---- one lane is given something
module _ (n : ℕ) (at : Pump) (commands : List Command) (old new : HeadsSeen) (grows : Grows (at_lane n at commands) old new) where
  lane_given : (other : Pump) → new.given n other ≡ old.given n other ++ cond (is_same_pump other at) commands []
  lane_given other =
      grows.given n other
      ∙ ap (λ b. old.given n other ++ cond (b && is_same_pump other at) commands []) (eq-eqb n n refl)

  lane_others : (m : ℕ) (other : Pump) → (m == n) ≡ false → new.given m other ≡ old.given m other
  lane_others m other differs =
      grows.given m other ∙ ap (λ b. old.given m other ++ cond (b && is_same_pump other at) commands []) differs
      ∙ append-nil (old.given m other)

-- ---- the lanes of one child
module _ (child : Child) (s0 s1 s2 s3 : HeadsSeen) (first : StopsLane child pump.Stdin s0 s1) (second : Stops child.number pump.Out s1 s2)
    (third : Stops child.number pump.Errs s2 s3) where
  abbrev n : ℕ
  n = child.number

  abbrev to_stdin : List Command
  to_stdin = cond (is_stopped child pump.Stdin) (if_given true first.giving command.Stop) []

  abbrev to_out : List Command
  to_out = if_given true second.giving command.Stop

  abbrev to_errs : List Command
  to_errs = if_given true third.giving command.Stop

  given_first : (at : Pump) → s1.given n at ≡ s0.given n at ++ cond (is_same_pump at pump.Stdin) to_stdin []
  given_first at = lane_given n pump.Stdin to_stdin s0 s1 first.grows at

  given_second : (at : Pump) → s2.given n at ≡ s1.given n at ++ cond (is_same_pump at pump.Out) to_out []
  given_second at = lane_given n pump.Out to_out s1 s2 second.grows at

  given_third : (at : Pump) → s3.given n at ≡ s2.given n at ++ cond (is_same_pump at pump.Errs) to_errs []
  given_third at = lane_given n pump.Errs to_errs s2 s3 third.grows at

  last_stdin : s3.given n pump.Stdin ≡ s1.given n pump.Stdin
  last_stdin =
      given_third pump.Stdin ∙ append-nil (s2.given n pump.Stdin) ∙ given_second pump.Stdin ∙ append-nil (s1.given n pump.Stdin)

  last_out : s3.given n pump.Out ≡ s2.given n pump.Out
  last_out = given_third pump.Out ∙ append-nil (s2.given n pump.Out)

  stopped_at : (at : Pump) → IsStopped child at s0 s3
  stopped_at pump.Stdin =
      record {
        giving = first.giving;
        told = first.told;
        given = last_stdin ∙ given_first pump.Stdin;
        spent = λ is spent. let so = first.spent is spent in omega (arith, so, ap length last_stdin);
      }
  stopped_at pump.Out =
      record {
        giving = second.giving;
        told = second.told;
        given =
            last_out ∙ given_second pump.Out
            ∙ ap (λ (l : List Command). l ++ to_out) (given_first pump.Out ∙ append-nil (s0.given n pump.Out));
        spent = λ is spent. let so = second.spent spent in omega (arith, so, ap length last_out);
      }
  stopped_at pump.Errs =
      record {
        giving = third.giving;
        told = third.told;
        given =
            given_third pump.Errs
            ∙ ap (λ (l : List Command). l ++ to_errs)
            (given_second pump.Errs ∙ append-nil (s1.given n pump.Errs) ∙ given_first pump.Errs ∙ append-nil (s0.given n pump.Errs));
        spent = λ is spent. third.spent spent;
      }
  stopped_at pump.Exit =
      record {
        giving = Given;
        told = refl;
        given =
            given_third pump.Exit ∙ append-nil (s2.given n pump.Exit) ∙ given_second pump.Exit ∙ append-nil (s1.given n pump.Exit)
            ∙ given_first pump.Exit;
        spent = λ is spent. absurd (false≢true is);
      }

  pub stops_child : StopsChild child s0 s3
  stops_child =
      record {
        has = λ m. third.grows.has m ∙ second.grows.has m ∙ first.grows.has m;
        stopped = stopped_at;
        others = λ m at differs.
            lane_others n pump.Errs to_errs s2 s3 third.grows m at differs
            ∙ lane_others n pump.Out to_out s1 s2 second.grows m at differs
            ∙ lane_others n pump.Stdin to_stdin s0 s1 first.grows m at differs;
      }

-- ---- all children
name_at : (xs : List Child) (j : ℕ) (c : Child) → slice_get xs j ≡ Some c → slice_get (map number_of xs) j ≡ Some c.number
name_at [] j c at = absurd (none_some c at)
name_at (x ∷ xs) zero c at = ap (λ (d : Child). Some d.number) (some_is x c at)
name_at (x ∷ xs) (suc j) c at = name_at xs j c at

unless_same : (m n : ℕ) (b : Bool) → (m == n) ≡ b → (m ≡ n → ⊥) → b ≡ false
unless_same m n true is differs = absurd (differs (eqb-true m n is))
unless_same m n false is differs = refl

module _ (roster : RosterSeen) (numbered : Numbered roster.children) (s0 s s_now : HeadsSeen) (k : ℕ) (one : StopsKth k roster s s_now) where
  abbrev running : List Child
  running = running_in roster.children

  here : slice_get running k ≡ Some one.child
  here = kth_is roster k one.child numbered one.is

  differs : (j : ℕ) (child : Child) → slice_get running j ≡ Some child → (j ≡ k → ⊥) → (child.number == one.child.number) ≡ false
  differs j child at ne =
      unless_same child.number one.child.number (child.number == one.child.number) refl
      (λ same.
      ne
      (apart roster.children numbered j k child.number (name_at running j child at)
      (name_at running k one.child here ∙ ap Some (sym same))))

  unchanged : (j : ℕ) (child : Child) → slice_get running j ≡ Some child → (j ≡ k → ⊥) → (at : Pump)
      → s_now.given child.number at ≡ s.given child.number at
  unchanged j child is ne at = one.stops.others child.number at (differs j child is ne)

  -- whose lanes were given Stop before
  keeps : (child : Child) (at : Pump) → s_now.given child.number at ≡ s.given child.number at → IsStopped child at s0 s
      → IsStopped child at s0 s_now
  keeps child at same stopped =
      record {
        giving = stopped.giving;
        told = stopped.told;
        given = same ∙ stopped.given;
        spent = λ is spent. let so = stopped.spent is spent in omega (arith, so, ap length same);
      }

  -- whose lanes are given Stop now
  begins : (child : Child) (at : Pump) → s.given child.number at ≡ s0.given child.number at → IsStopped child at s s_now
      → IsStopped child at s0 s_now
  begins child at same stopped =
      record {
        giving = stopped.giving;
        told = stopped.told;
        given =
            stopped.given
            ∙ ap (λ (l : List Command). l ++ cond (is_stopped child at) (if_given true stopped.giving command.Stop) []) same;
        spent = stopped.spent;
      }

  module _ (stopped : (j : ℕ) (child : Child) → slice_get running j ≡ Some child → j < k → (at : Pump) → IsStopped child at s0 s)
      (waits : (j : ℕ) (child : Child) → slice_get running j ≡ Some child → k ≤ j → (at : Pump)
      → s.given child.number at ≡ s0.given child.number at) where
    by_place : (j : ℕ) (child : Child) → slice_get running j ≡ Some child → (at : Pump) → (b : Bool) → (j == k) ≡ b → j < k + 1
        → IsStopped child at s0 s_now
    by_place j child is at true same less =
        let place = eqb-true j k same in
        let it : one.child ≡ child = some_is one.child child (sym here ∙ ap (slice_get running) (sym place) ∙ is) in
        begins child at (waits j child is (omega arith) at)
        (subst (λ (c : Child). IsStopped c at s s_now) it (one.stops.stopped at))
    by_place j child is at false other less =
        let ne : j ≡ k → ⊥ = λ same. false≢true (sym other ∙ eq-eqb j k same) in
        keeps child at (unchanged j child is ne at) (stopped j child is (omega (arith, ne, less)) at)

    pub stopped_step : (j : ℕ) (child : Child) → slice_get running j ≡ Some child → j < k + 1 → (at : Pump) → IsStopped child at s0 s_now
    stopped_step j child is less at = by_place j child is at (j == k) refl less

    pub waits_step : (j : ℕ) (child : Child) → slice_get running j ≡ Some child → k + 1 ≤ j → (at : Pump)
        → s_now.given child.number at ≡ s0.given child.number at
    waits_step j child is le at =
        unchanged j child is (λ same. omega (arith, le, same)) at ∙ waits j child is (omega (arith, le)) at
