-- What serving a child leaves as it is, and on what it depends.
use Rattle.std.proofs.Common.{◌≡◌, ℕ, ◌≤◌, ◌==◌, Bool, true, false, cond, ◌&&◌, not, List, [], refl, sym, ap, ◌∙◌, subst, arith}
use Rattle.std.proofs.lemmas.Bool.Decides.{nat_tests}
use Rattle.model_wire.specs.declared.watch.Watch.{Watch}
use Rattle.model_pump.specs.declared.command.Command.TheVariants as command
use Rattle.model_pump.specs.declared.stream.Stream.{Stream}
use Rattle.model_pump.specs.declared.stream.Stream.TheVariants as stream
use Rattle.model_hub.specs.declared.child.Child.{Child}
use Rattle.model_hub.specs.declared.child.Flow.{Flow}
use Rattle.model_hub.specs.declared.giving.Giving.{Giving}
use Rattle.model_hub.specs.declared.giving.Giving.TheVariants.{Given, Full, Spent}
use Rattle.model_hub.specs.declared.pump.Pump.{Pump}
use Rattle.model_hub.specs.declared.pump.Pump.TheVariants as pump
use Rattle.model_hub.specs.Children.{runs, is_owed, flow_of, with_flow}
use Rattle.model_hub.specs.Others.{Offer, OfGo, OfClose, Lanes}
use Rattle.model_hub.specs.Lanes.{is_wanted, is_idle, offers_go, after_go, after_close, with_go, with_close, serve_child, if_given}
use Rattle.aio_serving.specs.Served.{IsModest, IsModestFlow, served_to}

-- the rest of a child, whatever its streams were given and became of its Close
pub record IsSame (old new : Child) : Type 0 where
  pub number : new.number ≡ old.number
  pub seats : new.seats ≡ old.seats
  pub stay : new.stay ≡ old.stay
  pub out : new.out.pieces ≡ old.out.pieces
  pub errs : new.errs.pieces ≡ old.errs.pieces
  pub rooms : new.rooms ≡ old.rooms
  pub writes : new.writes ≡ old.writes

pub same_self : (child : Child) → IsSame child child
same_self child =
    record { number = refl; seats = refl; stay = refl; out = refl; errs = refl; rooms = refl; writes = refl }

pub same_on : (a b c : Child) → IsSame a b → IsSame b c → IsSame a c
same_on a b c f g =
    record {
      number = g.number ∙ f.number;
      seats = g.seats ∙ f.seats;
      stay = g.stay ∙ f.stay;
      out = g.out ∙ f.out;
      errs = g.errs ∙ f.errs;
      rooms = g.rooms ∙ f.rooms;
      writes = g.writes ∙ f.writes;
    }

pieces_same : (giving : Giving) (flow : Flow) → (after_go giving flow).pieces ≡ flow.pieces
pieces_same Given flow = refl
pieces_same Full flow = refl
pieces_same Spent flow = refl

go_same : (of : Stream) (child : Child) (giving : Giving) (b : Bool) → IsSame child (cond b (with_flow of (after_go giving (flow_of of child)) child) child)
go_same stream.Out child how true =
    record { number = refl; seats = refl; stay = refl; out = pieces_same how child.out; errs = refl; rooms = refl; writes = refl }
go_same stream.Errs child how true =
    record { number = refl; seats = refl; stay = refl; out = refl; errs = pieces_same how child.errs; rooms = refl; writes = refl }
go_same of child how false = same_self child

pub with_go_same : (lanes : Lanes) (watched : List Watch) (of : Stream) (child : Child) → IsSame child (with_go lanes watched of child)
with_go_same lanes watched of child = go_same of child (lanes child.number (OfGo of)) (offers_go watched of child)

close_same : (child : Child) (giving : Giving) (b : Bool) → IsSame child (cond b (record child { closing = after_close giving }) child)
close_same child how true =
    record { number = refl; seats = refl; stay = refl; out = refl; errs = refl; rooms = refl; writes = refl }
close_same child how false = same_self child

pub with_close_same : (lanes : Lanes) (child : Child) → IsSame child (with_close lanes child)
with_close_same lanes child = close_same child (lanes child.number OfClose) (runs child.stay && is_owed child.closing)

pub serve_same : (lanes : Lanes) (watched : List Watch) (child : Child) → IsSame child (serve_child lanes watched child)
serve_same lanes watched child =
    let one = with_go lanes watched stream.Out child in
    let two = with_go lanes watched stream.Errs one in
    same_on child two (with_close lanes two)
    (same_on child one two (with_go_same lanes watched stream.Out child) (with_go_same lanes watched stream.Errs one))
    (with_close_same lanes two)

-- ---- no stream gets more Gos than it may
and_first : (a b : Bool) → (a && b) ≡ true → a ≡ true
and_first true b h = refl
and_first false b h = h

and_second : (a b : Bool) → (a && b) ≡ true → b ≡ true
and_second true b h = h
and_second false b h = absurd (cc)

-- what is offered a Go has as many pieces as Gos, or more
few_gos : (owes wanted ended : Bool) (gos pieces : ℕ) → (owes ≡ true → gos ≤ pieces)
    → cond owes true (wanted && (not ended && pieces == gos)) ≡ true → gos ≤ pieces
few_gos true wanted ended gos pieces modest h = modest refl
few_gos false wanted ended gos pieces modest h =
    let same : (pieces == gos) ≡ true = and_second (not ended) (pieces == gos) (and_second wanted (not ended && pieces == gos) h) in
    grind (arith, nat_tests)

after_modest : (giving : Giving) (flow : Flow) → IsModestFlow flow → flow.gos ≤ flow.pieces → IsModestFlow (after_go giving flow)
after_modest Given flow modest few = (omega (arith, few), λ h. absurd (cc))
after_modest Full flow modest few = (modest.0, λ h. few)
after_modest Spent flow modest few = (modest.0, λ h. absurd (cc))

go_modest : (watched : List Watch) (of : Stream) (child : Child) (giving : Giving) (b : Bool) → offers_go watched of child ≡ b → IsModest child
    → IsModest (cond b (with_flow of (after_go giving (flow_of of child)) child) child)
go_modest watched stream.Out child how true offers modest =
    let few = few_gos child.out.owes (is_wanted watched stream.Out child) child.out.ended child.out.gos child.out.pieces modest.out.1
    (and_second (runs child.stay) _ offers) in
    record { out = after_modest how child.out modest.out few; errs = modest.errs; writes = modest.writes }
go_modest watched stream.Errs child how true offers modest =
    let few = few_gos child.errs.owes (is_wanted watched stream.Errs child) child.errs.ended child.errs.gos child.errs.pieces modest.errs.1
    (and_second (runs child.stay) _ offers) in
    record { out = modest.out; errs = after_modest how child.errs modest.errs few; writes = modest.writes }
go_modest watched of child how false offers modest = modest

pub with_go_modest : (lanes : Lanes) (watched : List Watch) (of : Stream) (child : Child) → IsModest child
    → IsModest (with_go lanes watched of child)
with_go_modest lanes watched of child modest =
    go_modest watched of child (lanes child.number (OfGo of)) (offers_go watched of child) refl modest

close_modest : (child : Child) (giving : Giving) (b : Bool) → IsModest child → IsModest (cond b (record child { closing = after_close giving }) child)
close_modest child how true modest = record { out = modest.out; errs = modest.errs; writes = modest.writes }
close_modest child how false modest = modest

pub serve_modest : (lanes : Lanes) (watched : List Watch) (child : Child) → IsModest child → IsModest (serve_child lanes watched child)
serve_modest lanes watched child modest =
    let one = with_go lanes watched stream.Out child in
    let two = with_go lanes watched stream.Errs one in
    close_modest two (lanes two.number OfClose) (runs two.stay && is_owed two.closing)
    (with_go_modest lanes watched stream.Errs one (with_go_modest lanes watched stream.Out child modest))

-- ---- a child depends on its own lanes alone
module _ (these those : Lanes) (watched : List Watch) where
  go_alike : (of : Stream) (child : Child) → these child.number (OfGo of) ≡ those child.number (OfGo of)
      → with_go these watched of child ≡ with_go those watched of child
  go_alike of child same =
      ap (λ (g : Giving). cond (offers_go watched of child) (with_flow of (after_go g (flow_of of child)) child) child) same

  close_alike : (child : Child) → these child.number OfClose ≡ those child.number OfClose → with_close these child ≡ with_close those child
  close_alike child same =
      ap (λ (g : Giving). cond (runs child.stay && is_owed child.closing) (record child { closing = after_close g }) child) same

  module _ (child : Child) (same : (offer : Offer) → these child.number offer ≡ those child.number offer) where
    at : (other : Child) → other.number ≡ child.number → (offer : Offer) → these other.number offer ≡ those other.number offer
    at other is offer = subst (λ (n : ℕ). these n offer ≡ those n offer) (sym is) (same offer)

    pub serve_alike : serve_child these watched child ≡ serve_child those watched child
    serve_alike =
        let one = with_go those watched stream.Out child in
        let two = with_go those watched stream.Errs one in
        let first = with_go_same those watched stream.Out child in
        let second = same_on child one two first (with_go_same those watched stream.Errs one) in
        ap (λ (x : Child). with_close these (with_go these watched stream.Errs x)) (go_alike stream.Out child (same (OfGo stream.Out)))
        ∙ ap (with_close these) (go_alike stream.Errs one (at one first.number (OfGo stream.Errs)))
        ∙ close_alike two (at two second.number OfClose)

    pub served_alike : (p : Pump) → served_to these watched child p ≡ served_to those watched child p
    served_alike pump.Stdin = ap (λ (g : Giving). if_given (runs child.stay && is_owed child.closing) g command.Close) (same OfClose)
    served_alike pump.Out = ap (λ (g : Giving). if_given (offers_go watched stream.Out child) g command.Go) (same (OfGo stream.Out))
    served_alike pump.Errs = ap (λ (g : Giving). if_given (offers_go watched stream.Errs child) g command.Go) (same (OfGo stream.Errs))
    served_alike pump.Exit = refl

-- ---- one that doesn't run is left alone
module _ (lanes : Lanes) (watched : List Watch) (child : Child) (stays : runs child.stay ≡ false) where
  none_offered : (of : Stream) → offers_go watched of child ≡ false
  none_offered of =
      ap (λ b. b && cond (flow_of of child).owes true (is_wanted watched of child && is_idle (flow_of of child))) stays

  no_go : (of : Stream) → with_go lanes watched of child ≡ child
  no_go of = ap (λ b. cond b (with_flow of (after_go (lanes child.number (OfGo of)) (flow_of of child)) child) child) (none_offered of)

  no_close : with_close lanes child ≡ child
  no_close = ap (λ b. cond (b && is_owed child.closing) (record child { closing = after_close (lanes child.number OfClose) }) child) stays

  pub unserved : serve_child lanes watched child ≡ child
  unserved =
      ap (λ (x : Child). with_close lanes (with_go lanes watched stream.Errs x)) (no_go stream.Out)
      ∙ ap (with_close lanes) (no_go stream.Errs) ∙ no_close

  pub none_served : (p : Pump) → served_to lanes watched child p ≡ []
  none_served pump.Stdin = ap (λ b. if_given (b && is_owed child.closing) (lanes child.number OfClose) command.Close) stays
  none_served pump.Out = ap (λ b. if_given b (lanes child.number (OfGo stream.Out)) command.Go) (none_offered stream.Out)
  none_served pump.Errs = ap (λ b. if_given b (lanes child.number (OfGo stream.Errs)) command.Go) (none_offered stream.Errs)
  none_served pump.Exit = refl
