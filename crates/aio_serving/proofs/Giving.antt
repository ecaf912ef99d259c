-- How what several gives add to the lanes joins.
use Rattle.std.proofs.Common.{◌≡◌, ℕ, ◌==◌, Bool, true, false, cond, ◌&&◌, List, [], ◌++◌, length, refl, ap, ◌∙◌, subst, append-nil, length-append, arith}
use Rattle.model_wire.specs.declared.watch.Watch.{Watch}
use Rattle.model_pump.specs.Commands.{Command}
use Rattle.model_pump.specs.declared.stream.Stream.{Stream}
use Rattle.model_pump.specs.declared.stream.Stream.TheVariants as stream
use Rattle.model_hub.specs.declared.child.Child.{Child}
use Rattle.model_hub.specs.declared.child.Flow.{Flow}
use Rattle.model_hub.specs.declared.giving.Giving.{Giving}
use Rattle.model_hub.specs.declared.pump.Pump.{Pump}
use Rattle.model_hub.specs.declared.pump.Pump.TheVariants as pump
use Rattle.model_hub.specs.Children.{with_flow}
use Rattle.model_hub.specs.Others.{Offer, OfGo, OfClose, OfWrite}
use Rattle.model_hub.specs.Lanes.{offers_go, after_go, with_go, with_close, gos_to, closes_to}
use Rattle.model_hub.specs.Asked.{lane_of}
use Rattle.aio_serving.specs.Heads.{HeadsSeen, at_lane, is_same_pump, Grows, Answers}
use Rattle.aio_serving.specs.Served.{always, answering, GivesGo, GivesClose, served_alone, served_to, Serves}

-- ---- one give after another
pub answers_later : (child : ℕ) (at : Pump) (giving : Giving) (more : ℕ → Pump → List Command) (old mid new : HeadsSeen)
    → Answers child at giving old mid → Grows more mid new → Answers child at giving old new
answers_later child at how more old mid new answers grows =
    record {
      full = λ h. omega (arith, answers.full h, grows.fulls child at);
      spent = λ h.
          omega (arith, answers.spent h, ap length (grows.given child at), length-append (mid.given child at) (more child at));
    }

pub answers_before : (child : ℕ) (at : Pump) (giving : Giving) (more : ℕ → Pump → List Command) (old mid new : HeadsSeen)
    → Grows more old mid → Answers child at giving mid new → Answers child at giving old new
answers_before child at how more old mid new grows answers =
    record { full = λ h. omega (arith, answers.full h, grows.fulls child at); spent = answers.spent }

-- ---- what a child's lanes are offered doesn't depend on what was given before
errs_same : (watched : List Watch) (child : Child) (g : Giving) (b : Bool) (flow : Flow) (n : ℕ) (p : Pump)
    → at_lane (cond b (with_flow stream.Out flow child) child).number pump.Errs
    (gos_to (always g) watched stream.Errs (cond b (with_flow stream.Out flow child) child)) n p
    ≡ at_lane child.number pump.Errs (gos_to (always g) watched stream.Errs child) n p
errs_same watched child g true flow n p = refl
errs_same watched child g false flow n p = refl

close_same : (of : Stream) (child : Child) (g : Giving) (b : Bool) (flow : Flow) (n : ℕ) (p : Pump)
    → at_lane (cond b (with_flow of flow child) child).number pump.Stdin (closes_to (always g) (cond b (with_flow of flow child) child)) n p
    ≡ at_lane child.number pump.Stdin (closes_to (always g) child) n p
close_same stream.Out child g true flow n p = refl
close_same stream.Errs child g true flow n p = refl
close_same of child g false flow n p = refl

number_same : (of : Stream) (child : Child) (b : Bool) (flow : Flow) → (cond b (with_flow of flow child) child).number ≡ child.number
number_same stream.Out child true flow = refl
number_same stream.Errs child true flow = refl
number_same of child false flow = refl

-- what three gives add is what the child is served
joined : (xs outs errs closes : List Command) (b : Bool) (p : Pump)
    → ((xs ++ cond (b && is_same_pump p pump.Out) outs []) ++ cond (b && is_same_pump p pump.Errs) errs [])
    ++ cond (b && is_same_pump p pump.Stdin) closes []
    ≡ xs ++ cond b (elim p [ pump.Stdin ↦ closes | pump.Out ↦ outs | pump.Errs ↦ errs | pump.Exit ↦ [] ]) []
joined xs outs errs closes true pump.Stdin = simp append-nil
joined xs outs errs closes true pump.Out = simp append-nil
joined xs outs errs closes true pump.Errs = simp append-nil
joined xs outs errs closes true pump.Exit = simp append-nil
joined xs outs errs closes false p = simp append-nil

cases_of : (watched : List Watch) (child : Child) (out errs close : Giving) (p : Pump)
    → elim p [
      | pump.Stdin ↦ closes_to (always close) child
      | pump.Out ↦ gos_to (always out) watched stream.Out child
      | pump.Errs ↦ gos_to (always errs) watched stream.Errs child
      | pump.Exit ↦ []
    ]
    ≡ served_to (λ number. answering out errs close) watched child p
cases_of watched child out errs close pump.Stdin = refl
cases_of watched child out errs close pump.Out = refl
cases_of watched child out errs close pump.Errs = refl
cases_of watched child out errs close pump.Exit = refl

module _ (watched : List Watch) (child one two three : Child) (s0 s1 s2 s3 : HeadsSeen)
    (outs : GivesGo watched stream.Out child one s0 s1) (errs : GivesGo watched stream.Errs one two s1 s2)
    (closes : GivesClose two three s2 s3) where
  abbrev lanes : Offer → Giving
  lanes = answering outs.giving errs.giving closes.giving

  one_number : one.number ≡ child.number
  one_number =
      ap (λ (x : Child). x.number) outs.is
      ∙ number_same stream.Out child (offers_go watched stream.Out child) (after_go outs.giving child.out)

  two_number : two.number ≡ child.number
  two_number =
      ap (λ (x : Child). x.number) errs.is
      ∙ number_same stream.Errs one (offers_go watched stream.Errs one) (after_go errs.giving one.errs) ∙ one_number

  errs_more : (n : ℕ) (p : Pump) → at_lane one.number pump.Errs (gos_to (always errs.giving) watched stream.Errs one) n p
      ≡ at_lane child.number pump.Errs (gos_to (always errs.giving) watched stream.Errs child) n p
  errs_more n p =
      ap (λ (x : Child). at_lane x.number pump.Errs (gos_to (always errs.giving) watched stream.Errs x) n p) outs.is
      ∙ errs_same watched child errs.giving (offers_go watched stream.Out child) (after_go outs.giving child.out) n p

  closes_more : (n : ℕ) (p : Pump) → at_lane two.number pump.Stdin (closes_to (always closes.giving) two) n p
      ≡ at_lane child.number pump.Stdin (closes_to (always closes.giving) child) n p
  closes_more n p =
      ap (λ (x : Child). at_lane x.number pump.Stdin (closes_to (always closes.giving) x) n p) errs.is
      ∙ close_same stream.Errs one closes.giving (offers_go watched stream.Errs one) (after_go errs.giving one.errs) n p
      ∙ ap (λ (x : Child). at_lane x.number pump.Stdin (closes_to (always closes.giving) x) n p) outs.is
      ∙ close_same stream.Out child closes.giving (offers_go watched stream.Out child) (after_go outs.giving child.out) n p

  given : (n : ℕ) (p : Pump) → s3.given n p ≡ s0.given n p ++ served_alone (λ number. lanes) watched child n p
  given n p =
      closes.grows.given n p
      ∙ ap (λ (l : List Command). s2.given n p ++ l) (closes_more n p)
      ∙ ap (λ (l : List Command). l ++ at_lane child.number pump.Stdin (closes_to (always closes.giving) child) n p)
      (errs.grows.given n p ∙ ap (λ (l : List Command). s1.given n p ++ l) (errs_more n p)
      ∙ ap (λ (l : List Command). l ++ at_lane child.number pump.Errs (gos_to (always errs.giving) watched stream.Errs child) n p)
      (outs.grows.given n p))
      ∙ joined (s0.given n p) (gos_to (always outs.giving) watched stream.Out child) (gos_to (always errs.giving) watched stream.Errs child)
      (closes_to (always closes.giving) child) (n == child.number) p
      ∙ ap (λ (l : List Command). s0.given n p ++ cond (n == child.number) l [])
      (cases_of watched child outs.giving errs.giving closes.giving p)

  each : (offer : Offer) → Answers child.number (lane_of offer) (lanes offer) s0 s3
  each (OfGo stream.Out) =
      answers_later child.number pump.Out outs.giving _ s0 s2 s3
      (answers_later child.number pump.Out outs.giving _ s0 s1 s2 outs.answers errs.grows) closes.grows
  each (OfGo stream.Errs) =
      answers_later child.number pump.Errs errs.giving _ s0 s2 s3
      (answers_before child.number pump.Errs errs.giving _ s0 s1 s2 outs.grows
      (subst (λ (n : ℕ). Answers n pump.Errs errs.giving s1 s2) one_number errs.answers))
      closes.grows
  each OfClose =
      answers_before child.number pump.Stdin closes.giving _ s0 s1 s3 outs.grows
      (answers_before child.number pump.Stdin closes.giving _ s1 s2 s3 errs.grows
      (subst (λ (n : ℕ). Answers n pump.Stdin closes.giving s2 s3) two_number closes.answers))
  each OfWrite = record { full = λ h. absurd (cc); spent = λ h. absurd (cc) }

  pub serves : Serves watched child three s0 s3
  serves =
      record {
        answers = lanes;
        is = closes.is ∙ ap (with_close (λ number. lanes)) (errs.is ∙ ap (with_go (λ number. lanes) watched stream.Errs) outs.is);
        grows =
            record {
              has = λ n. closes.grows.has n ∙ errs.grows.has n ∙ outs.grows.has n;
              given = given;
              fulls = λ n p. omega (arith, closes.grows.fulls n p, errs.grows.fulls n p, outs.grows.fulls n p);
              few = λ n p h. closes.grows.few n p (errs.grows.few n p (outs.grows.few n p h));
            };
        each = each;
      }
