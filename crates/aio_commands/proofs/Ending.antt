-- What a call gives at its beginning, and the Close of one standard input, together.
use Rattle.std.proofs.Common.{◌≡◌, ℕ, zero, suc, ◌==◌, Bool, true, false, cond, ◌&&◌, List, [], ◌∷◌, ◌++◌, Option}
use Rattle.std.proofs.Common.{Some, None, map, refl, sym, ap, ◌∙◌, subst, append-nil, append_assoc, eq-eqb}
use Rattle.std.specs.Prelude.{slice_get}
use Rattle.std.proofs.lemmas.Bool.{eqb-true, false≢true}
use Rattle.model_wire.specs.declared.call.Call.TheVariants as call
use Rattle.model_pump.specs.Commands.{Command}
use Rattle.model_pump.specs.declared.command.Command.TheVariants as command
use Rattle.model_pump.specs.declared.stream.Stream.{Stream}
use Rattle.model_pump.specs.declared.stream.Stream.TheVariants as stream
use Rattle.model_hub.specs.declared.child.Child.{Child}
use Rattle.model_hub.specs.declared.child.Closing.{Closing}
use Rattle.model_hub.specs.declared.child.Closing.TheVariants.{Open, Owed, Closed, Unclosable}
use Rattle.model_hub.specs.declared.child.Flow.{Flow}
use Rattle.model_hub.specs.declared.giving.Giving.{Giving}
use Rattle.model_hub.specs.declared.giving.Giving.TheVariants as giving
use Rattle.model_hub.specs.declared.pump.Pump.{Pump}
use Rattle.model_hub.specs.declared.pump.Pump.TheVariants as pump
use Rattle.model_hub.specs.Children.{runs, is_unasked, is_owed, flow_of, with_flow}
use Rattle.model_hub.specs.Hub.{Hub, with_child}
use Rattle.model_hub.specs.Others.{Offer, OfGo, OfClose, OfWrite, Lanes}
use Rattle.model_hub.specs.Lanes.{serve_child, with_go, with_close, after_go, after_close, offers_go, if_given}
use Rattle.model_hub.specs.Asked.{lane_of}
use Rattle.model_hub.specs.Calls.{commands_to, close_at, close_stdin}
use Rattle.aio_serving.specs.Heads.{HeadsSeen, is_same_pump, Answers}
use Rattle.aio_serving.specs.Served.{always, served_to}
use Rattle.aio_serving.proofs.Giving.{answers_later, answers_before}
use Rattle.aio_serving.proofs.Same.{serve_same, serve_alike, served_alike}
use Rattle.aio_roster.specs.Rosters.{Numbered}
use Rattle.aio_roster.proofs.Seated.{none_some}
use Rattle.aio_commands.specs.Served.{ServesAll}
use Rattle.aio_commands.specs.Fed.{EndsAt}
use Rattle.aio_commands.specs.Commands.{EndCall}
use Rattle.aio_commands.proofs.Commanding.{close_of}
use Rattle.aio_commands.proofs.Together.{each_is, to_one, get_map}

-- ---- a Close that wasn't asked for isn't owed
unasked_not_owed : (closing : Closing) → is_unasked closing ≡ true → is_owed closing ≡ false
unasked_not_owed Open h = refl
unasked_not_owed Owed h = absurd (false≢true h)
unasked_not_owed Closed h = refl
unasked_not_owed Unclosable h = refl

no_and : (a b : Bool) → b ≡ false → (a && b) ≡ false
no_and true b h = h
no_and false b h = refl

-- a Go leaves the Close as it is
go_if : (of : Stream) (flow : Flow) (child : Child) (b : Bool) → (cond b (with_flow of flow child) child).closing ≡ child.closing
go_if stream.Out flow child true = refl
go_if stream.Errs flow child true = refl
go_if of flow child false = refl

module _ (lanes : Lanes) (child : Child) where
  abbrev gone : Child
  gone = with_go lanes [] stream.Errs (with_go lanes [] stream.Out child)

  gone_closing : gone.closing ≡ child.closing
  gone_closing =
      let one = with_go lanes [] stream.Out child in
      go_if stream.Errs (after_go (lanes one.number (OfGo stream.Errs)) (flow_of stream.Errs one)) one (offers_go [] stream.Errs one)
      ∙ go_if stream.Out (after_go (lanes child.number (OfGo stream.Out)) (flow_of stream.Out child)) child (offers_go [] stream.Out child)

  -- where its Close wasn't asked for, serving it leaves it so
  pub left_open : is_unasked child.closing ≡ true → with_close lanes gone ≡ gone
  left_open unasked =
      ap (λ b. cond b (record gone { closing = after_close (lanes gone.number OfClose) }) gone)
      (no_and (runs gone.stay) (is_owed gone.closing) (ap is_owed gone_closing ∙ unasked_not_owed child.closing unasked))

  closing_if : (b : Bool) (how : Giving) → is_unasked (cond b (record gone { closing = after_close how }) gone).closing ≡ true → is_unasked gone.closing ≡ true
  closing_if true giving.Given h = absurd (false≢true h)
  closing_if true giving.Full h = absurd (false≢true h)
  closing_if true giving.Spent h = absurd (false≢true h)
  closing_if false how h = h

  -- one whose Close isn't asked for afterwards, wasn't asked for it before
  pub was_open : is_unasked (serve_child lanes [] child).closing ≡ true → is_unasked child.closing ≡ true
  was_open h =
      ap is_unasked (sym gone_closing)
      ∙ closing_if (runs gone.stay && is_owed gone.closing) (lanes gone.number OfClose) h

map_at : (f g : Child → Child) (cs : List Child) → ((n : ℕ) (c : Child) → slice_get cs n ≡ Some c → f c ≡ g c) → map f cs ≡ map g cs
map_at f g [] same = refl
map_at f g (c ∷ cs) same =
    ap (λ (x : Child). x ∷ map f cs) (same 0 c refl)
    ∙ ap (λ (xs : List Child). g c ∷ xs) (map_at f g cs (λ n x h. same (suc n) x h))

abbrev ended_by : Giving → ℕ → Hub → Option Child → Hub
ended_by how number hub o = elim o [ None ↦ hub | Some c ↦ with_child number (close_stdin how c) hub ]

abbrev unasked_at : Option Child → Bool
unasked_at o = elim o [ None ↦ false | Some c ↦ is_unasked c.closing ]

module _ (number : ℕ) (children served_now children_now : List Child) (old mid new : HeadsSeen)
    (numbered : Numbered children) (served : ServesAll [] children served_now old mid)
    (ended : EndsAt number served_now children_now mid new) where
  -- its Close wasn't asked for
  abbrev unasked : Bool
  unasked = unasked_at (slice_get children number)

  abbrev lanes : Lanes
  lanes n offer =
      elim offer [
        | OfGo of ↦ served.lanes n (OfGo of)
        | OfClose ↦ cond (n == number && unasked) ended.giving (served.lanes n OfClose)
        | OfWrite ↦ served.lanes n OfWrite
      ]

  both : (a b : Bool) → (a && b) ≡ true → (a ≡ true) × (b ≡ true)
  both true b h = (refl, h)
  both false b h = absurd (false≢true h)

  alike : (child : Child) → (child.number == number && unasked) ≡ false → (offer : Offer) → lanes child.number offer ≡ served.lanes child.number offer
  alike child is (OfGo of) = refl
  alike child is OfClose = ap (λ b. cond b ended.giving (served.lanes child.number OfClose)) is
  alike child is OfWrite = refl

  open_there : (n : ℕ) (child : Child) → slice_get children n ≡ Some child → (child.number == number && unasked) ≡ true → is_unasked child.closing ≡ true
  open_there n child at is =
      let hold = both (child.number == number) unasked is in
      let same = eqb-true child.number number hold.0 in
      ap unasked_at (sym at ∙ ap (slice_get children) (sym (numbered n child at) ∙ same)) ∙ hold.1

  child_if : (n : ℕ) (child : Child) → slice_get children n ≡ Some child → (b : Bool) → (child.number == number && unasked) ≡ b
      → serve_child lanes [] child ≡ serve_child served.lanes [] child
  child_if n child at true is =
      let closed = open_there n child at is in
      left_open lanes child closed ∙ sym (left_open served.lanes child closed)
  child_if n child at false is = serve_alike lanes served.lanes [] child (alike child is)

  child_is : (n : ℕ) (child : Child) → slice_get children n ≡ Some child → serve_child lanes [] child ≡ serve_child served.lanes [] child
  child_is n child at = child_if n child at (child.number == number && unasked) refl

  now_is : map (serve_child lanes []) children ≡ served_now
  now_is = map_at (serve_child lanes []) (serve_child served.lanes []) children child_is ∙ sym served.is

  served_at : (n : ℕ) (child : Child) → slice_get children n ≡ Some child → slice_get served_now n ≡ Some (serve_child lanes [] child)
  served_at n child at = ap (λ cs. slice_get cs n) (sym now_is) ∙ get_map (serve_child lanes []) children n child at

  -- what goes before
  to_if : (n : ℕ) (child : Child) → slice_get children n ≡ Some child → (b : Bool) → (child.number == number && unasked) ≡ b → (p : Pump)
      → served_to served.lanes [] child p ≡ served_to lanes [] child p
  to_if n child at false is p = sym (served_alike lanes served.lanes [] child (alike child is) p)
  to_if n child at true is pump.Out = refl
  to_if n child at true is pump.Errs = refl
  to_if n child at true is pump.Exit = refl
  to_if n child at true is pump.Stdin =
      let not = no_and (runs child.stay) (is_owed child.closing) (unasked_not_owed child.closing (open_there n child at is)) in
      ap (λ b. if_given b (served.lanes child.number OfClose) command.Close) not
      ∙ sym (ap (λ b. if_given b (lanes child.number OfClose) command.Close) not)

  -- the Close
  close_is : unasked ≡ true → lanes number OfClose ≡ ended.giving
  close_is is =
      ap (λ b. cond (b && unasked) ended.giving (served.lanes number OfClose)) (eq-eqb number number refl)
      ∙ ap (λ b. cond b ended.giving (served.lanes number OfClose)) is

  give_if : (c : Child) (b : Bool) → is_unasked c.closing ≡ b → (b ≡ true → unasked ≡ true) → close_of ended.giving c ≡ close_of (lanes number OfClose) c
  give_if c true is asked = ap (λ g. if_given (runs c.stay && is_unasked c.closing) g command.Close) (sym (close_is (asked refl)))
  give_if c false is asked =
      let not = no_and (runs c.stay) (is_unasked c.closing) is in
      ap (λ b. if_given b ended.giving command.Close) not ∙ sym (ap (λ b. if_given b (lanes number OfClose) command.Close) not)

  if_here : (n : ℕ) (child : Child) → slice_get children n ≡ Some child → (b : Bool) → (n == number) ≡ b
      → cond b (close_of ended.giving (serve_child lanes [] child)) []
      ≡ if_given (b && runs (serve_child lanes [] child).stay && is_unasked (serve_child lanes [] child).closing) (lanes number OfClose) command.Close
  if_here n child at false is = refl
  if_here n child at true is =
      give_if (serve_child lanes [] child) (is_unasked (serve_child lanes [] child).closing) refl
      (λ h. ap unasked_at (ap (slice_get children) (sym (eqb-true n number is)) ∙ at) ∙ was_open lanes child h)

  number_is : (n : ℕ) (child : Child) → slice_get children n ≡ Some child → (serve_child lanes [] child).number ≡ n
  number_is n child at = (serve_same lanes [] child).number ∙ numbered n child at

  more : (n : ℕ) (child : Child) → slice_get children n ≡ Some child → (p : Pump)
      → served_to lanes [] child p ++ cond (is_same_pump p pump.Stdin) (cond (n == number) (close_of ended.giving (serve_child lanes [] child)) []) []
      ≡ commands_to (call.End number) lanes child p
  more n child at pump.Stdin =
      ap (λ (l : List Command). served_to lanes [] child pump.Stdin ++ l)
      (if_here n child at (n == number) refl
      ∙ ap (λ m.
      if_given (m == number && runs (serve_child lanes [] child).stay && is_unasked (serve_child lanes [] child).closing)
      (lanes number OfClose) command.Close)
      (sym (number_is n child at)))
  more n child at pump.Out = append-nil (served_to lanes [] child pump.Out)
  more n child at pump.Errs = append-nil (served_to lanes [] child pump.Errs)
  more n child at pump.Exit = refl

  given : (n : ℕ) (child : Child) → slice_get children n ≡ Some child → (p : Pump)
      → new.given n p ≡ old.given n p ++ commands_to (call.End number) lanes child p
  given n child at p =
      ended.grows.given n p
      ∙ ap (λ (l : List Command). mid.given n p ++ l)
      (to_one number (close_of ended.giving) served_now n (serve_child lanes [] child) p (served_at n child at))
      ∙ ap (λ (l : List Command).
      l ++ cond (is_same_pump p pump.Stdin) (cond (n == number) (close_of ended.giving (serve_child lanes [] child)) []) [])
      (served.grows.given n p
      ∙ ap (λ (l : List Command). old.given n p ++ l)
      (each_is served.lanes [] children numbered n child p at ∙ to_if n child at (child.number == number && unasked) refl p))
      ∙ append_assoc (old.given n p) (served_to lanes [] child p)
      (cond (is_same_pump p pump.Stdin) (cond (n == number) (close_of ended.giving (serve_child lanes [] child)) []) [])
      ∙ ap (λ (l : List Command). old.given n p ++ l) (more n child at p)

  close_each : (n : ℕ) (child : Child) → slice_get children n ≡ Some child → runs child.stay ≡ true → (b : Bool) → (n == number && unasked) ≡ b
      → Answers n pump.Stdin (cond b ended.giving (served.lanes n OfClose)) old new
  close_each n child at goes true is =
      subst (λ m. Answers m pump.Stdin ended.giving old new) (sym (eqb-true n number (both (n == number) unasked is).0))
      (answers_before number pump.Stdin ended.giving _ old mid new served.grows ended.answers)
  close_each n child at goes false is =
      answers_later n pump.Stdin (served.lanes n OfClose) _ old mid new (served.each n child at goes OfClose) ended.grows

  each : (n : ℕ) (child : Child) → slice_get children n ≡ Some child → runs child.stay ≡ true → (offer : Offer)
      → Answers n (lane_of offer) (lanes n offer) old new
  each n child at goes (OfGo of) =
      answers_later n (lane_of (OfGo of)) (served.lanes n (OfGo of)) _ old mid new (served.each n child at goes (OfGo of)) ended.grows
  each n child at goes OfClose = close_each n child at goes (n == number && unasked) refl
  each n child at goes OfWrite =
      answers_later n pump.Stdin (served.lanes n OfWrite) _ old mid new (served.each n child at goes OfWrite) ended.grows

  -- ---- the children
  stdin_if : (c : Child) (b : Bool) → is_unasked c.closing ≡ b → (b ≡ true → unasked ≡ true)
      → close_stdin (lanes number OfClose) c ≡ close_stdin ended.giving c
  stdin_if c true is asked =
      ap (λ g. cond (runs c.stay && is_unasked c.closing) (record c { closing = after_close g }) c) (close_is (asked refl))
  stdin_if c false is asked =
      let not = no_and (runs c.stay) (is_unasked c.closing) is in
      ap (λ b. cond b (record c { closing = after_close (lanes number OfClose) }) c) not
      ∙ sym (ap (λ b. cond b (record c { closing = after_close ended.giving }) c) not)

  close_if : (hub : Hub) (o : Option Child) → slice_get children number ≡ o
      → close_at lanes number (record hub { children = served_now }) ≡ close_at (always ended.giving) number (record hub { children = served_now })
  close_if hub None at =
      let none = none_there at in
      ap (ended_by (lanes number OfClose) number (record hub { children = served_now })) none
      ∙ sym (ap (ended_by ended.giving number (record hub { children = served_now })) none)
    where
      none_map : (cs : List Child) (n : ℕ) → slice_get cs n ≡ None → slice_get (map (serve_child lanes []) cs) n ≡ None
      none_map [] n h = refl
      none_map (c ∷ cs) zero h = absurd (none_some c (sym h))
      none_map (c ∷ cs) (suc n) h = none_map cs n h

      none_there : slice_get children number ≡ None → slice_get served_now number ≡ None
      none_there h = ap (λ cs. slice_get cs number) (sym now_is) ∙ none_map children number h
  close_if hub (Some child) at =
      let there = served_at number child at in
      ap (ended_by (lanes number OfClose) number (record hub { children = served_now })) there
      ∙ ap (λ (x : Child). with_child number x (record hub { children = served_now }))
      (stdin_if (serve_child lanes [] child) (is_unasked (serve_child lanes [] child).closing) refl
      (λ h. ap unasked_at at ∙ was_open lanes child h))
      ∙ sym (ap (ended_by ended.giving number (record hub { children = served_now })) there)

  pub end_call : EndCall number children children_now old new
  end_call =
      record {
        lanes = lanes;
        is = λ hub.
            ap (λ (cs : List Child). close_at lanes number (record hub { children = cs })) now_is
            ∙ close_if hub (slice_get children number) refl ∙ ended.is hub;
        commands =
            record {
              has = λ n. ended.grows.has n ∙ served.grows.has n;
              given = given;
              each = each;
              few = λ n p h. ended.grows.few n p (served.grows.few n p h);
            };
      }
