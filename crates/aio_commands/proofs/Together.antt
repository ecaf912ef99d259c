-- What a call gives at its beginning, and what it gives then, together.
use Rattle.std.proofs.Common.{◌≡◌, ℕ, zero, suc, ◌+◌, ◌<◌, ◌==◌, Bool, true, false, cond, ◌&&◌, List, [], ◌∷◌, ◌++◌, Option}
use Rattle.std.proofs.Common.{Some, None, map, refl, sym, ap, ◌∙◌, subst, append-nil, append_assoc, eq-eqb, arith}
use Rattle.std.specs.Prelude.{slice_get}
use Rattle.std.proofs.lemmas.Bool.{eqb-true, false≢true}
use Rattle.std.proofs.lemmas.Bool.Decides.{nat_tests}
use Rattle.model_wire.specs.Call.{Call, Answer}
use Rattle.model_wire.specs.declared.call.Call.TheVariants as call
use Rattle.model_wire.specs.declared.watch.Watch.{Watch}
use Rattle.model_pump.specs.Commands.{Command}
use Rattle.model_pump.specs.declared.command.Command.TheVariants as command
use Rattle.model_hub.specs.declared.child.Child.{Child}
use Rattle.model_hub.specs.declared.giving.Giving.{Giving}
use Rattle.model_hub.specs.declared.giving.Giving.TheVariants as giving
use Rattle.model_hub.specs.declared.pump.Pump.{Pump}
use Rattle.model_hub.specs.declared.pump.Pump.TheVariants as pump
use Rattle.model_hub.specs.Children.{runs}
use Rattle.model_hub.specs.Others.{Offer, OfGo, OfClose, OfWrite, Lanes}
use Rattle.model_hub.specs.Lanes.{serve_child, if_given}
use Rattle.model_hub.specs.Asked.{lane_of}
use Rattle.model_hub.specs.Calls.{offers_write, commands_to, stdin_to, watch_of, feed_to}
use Rattle.aio_serving.specs.Heads.{HeadsSeen, is_same_pump, Answers}
use Rattle.aio_serving.specs.Served.{always, served_to}
use Rattle.aio_serving.proofs.Giving.{answers_later, answers_before}
use Rattle.aio_serving.proofs.Same.{serve_same}
use Rattle.aio_roster.specs.Rosters.{Numbered}
use Rattle.aio_roster.proofs.Seated.{none_some, some_is}
use Rattle.aio_commands.specs.Served.{ServesAll, served_each}
use Rattle.aio_commands.specs.Fed.{FeedsAt}
use Rattle.aio_commands.specs.Commands.{Commands, FeedCall}
use Rattle.aio_commands.proofs.Commanding.{for_one}

-- ---- lists
pub get_map : (f : Child → Child) (cs : List Child) (n : ℕ) (c : Child) → slice_get cs n ≡ Some c → slice_get (map f cs) n ≡ Some (f c)
get_map f [] n c h = absurd (none_some c h)
get_map f (x ∷ xs) zero c h = ap (λ (y : Child). Some (f y)) (some_is x c h)
get_map f (x ∷ xs) (suc n) c h = get_map f xs n c h

map_same : (f g : Child → Child) → ((c : Child) → f c ≡ g c) → (cs : List Child) → map f cs ≡ map g cs
map_same f g same [] = refl
map_same f g same (c ∷ cs) = ap (λ (x : Child). x ∷ map f cs) (same c) ∙ ap (λ (xs : List Child). g c ∷ xs) (map_same f g same cs)

-- ---- what a child with a number is served
module _ (lanes : Lanes) (watched : List Watch) where
  none_each : (cs : List Child) (base m : ℕ) (p : Pump) → ((i : ℕ) (c : Child) → slice_get cs i ≡ Some c → c.number ≡ base + i) → m < base
      → served_each lanes watched cs m p ≡ []
  none_each [] base m p all less = refl
  none_each (c ∷ cs) base m p all less =
      ap (λ b. cond b (served_to lanes watched c p) [] ++ served_each lanes watched cs m p) differs
      ∙ none_each cs (base + 1) m p (λ i x h. all (suc i) x h ∙ omega arith) (omega arith)
    where
      first : c.number ≡ base + 0
      first = all 0 c refl

      differs : (m == c.number) ≡ false
      differs = grind (arith, nat_tests, all 0 c refl)

  each_from : (cs : List Child) (base n : ℕ) (child : Child) (p : Pump)
      → ((i : ℕ) (c : Child) → slice_get cs i ≡ Some c → c.number ≡ base + i) → slice_get cs n ≡ Some child
      → served_each lanes watched cs (base + n) p ≡ served_to lanes watched child p
  each_from [] base n child p all at = absurd (none_some child at)
  each_from (c ∷ cs) base zero child p all at =
      ap (λ b. cond b (served_to lanes watched c p) [] ++ served_each lanes watched cs (base + 0) p)
      (eq-eqb (base + 0) c.number (sym (all 0 c refl)))
      ∙ ap (λ (l : List Command). served_to lanes watched c p ++ l)
      (none_each cs (base + 1) (base + 0) p (λ i x h. all (suc i) x h ∙ omega arith) (omega arith))
      ∙ append-nil (served_to lanes watched c p) ∙ ap (λ (x : Child). served_to lanes watched x p) (some_is c child at)
  each_from (c ∷ cs) base (suc n) child p all at =
      ap (λ b. cond b (served_to lanes watched c p) [] ++ served_each lanes watched cs (base + suc n) p) differs
      ∙ ap (λ m. served_each lanes watched cs m p) further
      ∙ each_from cs (base + 1) n child p (λ i x h. all (suc i) x h ∙ omega arith) at
    where
      first : c.number ≡ base + 0
      first = all 0 c refl

      differs : ((base + suc n) == c.number) ≡ false
      differs = grind (arith, nat_tests, all 0 c refl)

      further : base + suc n ≡ base + 1 + n
      further = omega arith

  at_zero : (n i : ℕ) → n ≡ i → n ≡ 0 + i
  at_zero n i h = omega arith

  pub each_is : (children : List Child) → Numbered children → (n : ℕ) (child : Child) (p : Pump) → slice_get children n ≡ Some child
      → served_each lanes watched children n p ≡ served_to lanes watched child p
  each_is children numbered n child p at =
      ap (λ m. served_each lanes watched children m p) (at_zero n n refl)
      ∙ each_from children 0 n child p (λ i c h. at_zero c.number i (numbered i c h)) at

-- ---- a call that gives no more than what goes before
module _ (asks : Call) (children children_now : List Child) (old new : HeadsSeen) (numbered : Numbered children)
    (served : ServesAll (watch_of asks) children children_now old new) (none : (child : Child) → stdin_to asks served.lanes child ≡ []) where
  no_more : (child : Child) (p : Pump) → served_to served.lanes (watch_of asks) child p ≡ commands_to asks served.lanes child p
  no_more child pump.Stdin =
      sym (append-nil (served_to served.lanes (watch_of asks) child pump.Stdin))
      ∙ ap (λ (l : List Command). served_to served.lanes (watch_of asks) child pump.Stdin ++ l)
      (sym (none (serve_child served.lanes [] child)))
  no_more child pump.Out = refl
  no_more child pump.Errs = refl
  no_more child pump.Exit = refl

  pub plain_commands : Commands asks served.lanes children old new
  plain_commands =
      record {
        has = served.grows.has;
        given = λ n child at p.
            served.grows.given n p
            ∙ ap (λ (l : List Command). old.given n p ++ l)
            (each_is served.lanes (watch_of asks) children numbered n child p at ∙ no_more child p);
        each = served.each;
        few = served.grows.few;
      }

-- ---- what goes to the lane of one standard input
module _ (number : ℕ) (commands : Child → List Command) (children : List Child) (n : ℕ) (child : Child) (p : Pump)
    (at : slice_get children n ≡ Some child) where
  here : n ≡ number → for_one number commands (slice_get children number) n p ≡ for_one number commands (Some child) n p
  here same = ap (λ (o : Option Child). for_one number commands o n p) (ap (slice_get children) (sym same) ∙ at)

  unless : (o : Option Child) → (n == number && is_same_pump p pump.Stdin) ≡ false → for_one number commands o n p ≡ []
  unless None is = refl
  unless (Some c) is = ap (λ x. cond x (commands c) []) is

  no_other : (b s : Bool) → b ≡ false → (b && s) ≡ false
  no_other true s h = absurd (false≢true (sym h))
  no_other false s h = refl

  by_test : (b : Bool) → (n == number) ≡ b → (s : Bool) → is_same_pump p pump.Stdin ≡ s
      → for_one number commands (slice_get children number) n p ≡ cond s (cond b (commands child) []) []
  by_test true is true same =
      here (eqb-true n number is)
      ∙ ap (λ x. cond (x && is_same_pump p pump.Stdin) (commands child) []) is
      ∙ ap (λ x. cond x (commands child) []) same
  by_test true is false same =
      unless (slice_get children number) (ap (λ x. x && is_same_pump p pump.Stdin) is ∙ same)
  by_test false is true same =
      unless (slice_get children number) (no_other (n == number) (is_same_pump p pump.Stdin) is)
  by_test false is false same =
      unless (slice_get children number) (no_other (n == number) (is_same_pump p pump.Stdin) is)

  pub to_one : for_one number commands (slice_get children number) n p ≡ cond (is_same_pump p pump.Stdin) (cond (n == number) (commands child) []) []
  to_one = by_test (n == number) refl (is_same_pump p pump.Stdin) refl

-- ---- a feed
module _ (number : ℕ) (bytes : List ℕ) (children served_now children_now : List Child) (said : Answer) (old mid new : HeadsSeen)
    (numbered : Numbered children) (served : ServesAll [] children served_now old mid)
    (fed : FeedsAt number bytes served_now children_now said mid new) where
  abbrev lanes : Lanes
  lanes n offer =
      elim offer [
        | OfGo of ↦ served.lanes n (OfGo of)
        | OfClose ↦ served.lanes n OfClose
        | OfWrite ↦ cond (n == number) fed.giving giving.Given
      ]

  abbrev written : Child → List Command
  written child = if_given (offers_write bytes child) fed.giving (command.Write bytes)

  now_is : map (serve_child lanes []) children ≡ served_now
  now_is = map_same (serve_child lanes []) (serve_child served.lanes []) (λ c. refl) children ∙ sym served.is

  write_is : lanes number OfWrite ≡ fed.giving
  write_is = ap (λ b. cond b fed.giving giving.Given) (eq-eqb number number refl)

  served_at : (n : ℕ) (child : Child) → slice_get children n ≡ Some child → slice_get served_now n ≡ Some (serve_child lanes [] child)
  served_at n child at = ap (λ cs. slice_get cs n) (sym now_is) ∙ get_map (serve_child lanes []) children n child at

  number_is : (n : ℕ) (child : Child) → slice_get children n ≡ Some child → (serve_child lanes [] child).number ≡ n
  number_is n child at = (serve_same lanes [] child).number ∙ numbered n child at

  if_here : (b : Bool) (child : Child) → cond b (written child) [] ≡ if_given (b && offers_write bytes child) fed.giving (command.Write bytes)
  if_here true child = refl
  if_here false child = refl

  more : (n : ℕ) (child : Child) → slice_get children n ≡ Some child → (p : Pump)
      → served_to lanes [] child p ++ cond (is_same_pump p pump.Stdin) (cond (n == number) (written (serve_child lanes [] child)) []) []
      ≡ commands_to (call.Feed number bytes) lanes child p
  more n child at pump.Stdin =
      ap (λ (l : List Command). served_to lanes [] child pump.Stdin ++ l)
      (if_here (n == number) (serve_child lanes [] child)
      ∙ ap (λ m. if_given (m == number && offers_write bytes (serve_child lanes [] child)) fed.giving (command.Write bytes))
      (sym (number_is n child at))
      ∙ ap (λ g. if_given ((serve_child lanes [] child).number == number && offers_write bytes (serve_child lanes [] child)) g (command.Write bytes))
      (sym write_is))
  more n child at pump.Out = append-nil (served_to lanes [] child pump.Out)
  more n child at pump.Errs = append-nil (served_to lanes [] child pump.Errs)
  more n child at pump.Exit = refl

  given : (n : ℕ) (child : Child) → slice_get children n ≡ Some child → (p : Pump)
      → new.given n p ≡ old.given n p ++ commands_to (call.Feed number bytes) lanes child p
  given n child at p =
      fed.grows.given n p
      ∙ ap (λ (l : List Command). mid.given n p ++ l) (to_one number written served_now n (serve_child lanes [] child) p (served_at n child at))
      ∙ ap (λ (l : List Command).
      l ++ cond (is_same_pump p pump.Stdin) (cond (n == number) (written (serve_child lanes [] child)) []) [])
      (served.grows.given n p
      ∙ ap (λ (l : List Command). old.given n p ++ l) (each_is served.lanes [] children numbered n child p at ∙ same_served p))
      ∙ append_assoc (old.given n p) (served_to lanes [] child p)
      (cond (is_same_pump p pump.Stdin) (cond (n == number) (written (serve_child lanes [] child)) []) [])
      ∙ ap (λ (l : List Command). old.given n p ++ l) (more n child at p)
    where
      same_served : (q : Pump) → served_to served.lanes [] child q ≡ served_to lanes [] child q
      same_served pump.Stdin = refl
      same_served pump.Out = refl
      same_served pump.Errs = refl
      same_served pump.Exit = refl

  write_each : (n : ℕ) (b : Bool) → (n == number) ≡ b → Answers n pump.Stdin (cond b fed.giving giving.Given) old new
  write_each n true is =
      subst (λ m. Answers m pump.Stdin fed.giving old new) (sym (eqb-true n number is))
      (answers_before number pump.Stdin fed.giving _ old mid new served.grows fed.answers)
  write_each n false is = record { full = λ h. absurd (cc); spent = λ h. absurd (cc) }

  each : (n : ℕ) (child : Child) → slice_get children n ≡ Some child → runs child.stay ≡ true → (offer : Offer)
      → Answers n (lane_of offer) (lanes n offer) old new
  each n child at goes (OfGo of) =
      answers_later n (lane_of (OfGo of)) (served.lanes n (OfGo of)) _ old mid new (served.each n child at goes (OfGo of)) fed.grows
  each n child at goes OfClose =
      answers_later n pump.Stdin (served.lanes n OfClose) _ old mid new (served.each n child at goes OfClose) fed.grows
  each n child at goes OfWrite = write_each n (n == number) refl

  pub feed_call : FeedCall number bytes children children_now said old new
  feed_call =
      record {
        lanes = lanes;
        is = λ hub.
            ap (λ (cs : List Child). feed_to lanes number bytes (record hub { children = cs })) now_is
            ∙ ap (λ (g : Giving). feed_to (always g) number bytes (record hub { children = served_now })) write_is ∙ fed.is hub;
        commands =
            record {
              has = λ n. fed.grows.has n ∙ served.grows.has n;
              given = given;
              each = each;
              few = λ n p h. fed.grows.few n p (served.grows.few n p h);
            };
      }
