-- What a feed, and a Close, make of the children.
use Rattle.std.proofs.Common.{◌≡◌, ℕ, zero, suc, ◌+◌, ◌-◌, ◌≤◌, Bool, true, false, cond, ◌&&◌, not, List, [], ◌∷◌, ◌++◌, Option}
use Rattle.std.proofs.Common.{Some, None, length, refl, sym, ap, ◌∙◌, subst, append-nil, arith}
use Rattle.std.specs.Prelude.{slice_get, slice_set, nat_lt}
use Rattle.std.proofs.lemmas.Bool.{false≢true}
use Rattle.std.proofs.lemmas.Bool.Decides.{nat_tests}
use Rattle.model_wire.specs.Call.{Answer}
use Rattle.model_wire.specs.declared.answer.Answer.TheVariants as answer
use Rattle.model_pump.specs.Commands.{Command}
use Rattle.model_pump.specs.declared.command.Command.TheVariants as command
use Rattle.model_hub.specs.declared.child.Child.{Child}
use Rattle.model_hub.specs.declared.giving.Giving.{Giving}
use Rattle.model_hub.specs.declared.giving.Giving.TheVariants as giving
use Rattle.model_hub.specs.declared.pump.Pump.{Pump}
use Rattle.model_hub.specs.declared.pump.Pump.TheVariants as pump
use Rattle.model_hub.specs.Children.{runs, waiting, is_owed, is_unasked}
use Rattle.model_hub.specs.Hub.{Hub, with_child}
use Rattle.model_hub.specs.Others.{Said, Got}
use Rattle.model_hub.specs.Lanes.{if_given, after_close}
use Rattle.model_hub.specs.Gathering.{most_waiting}
use Rattle.model_hub.specs.Calls.{offers_write, after_write, feed_child, close_stdin, is_empty}
use Rattle.aio_serving.specs.Heads.{HeadsSeen, at_lane, Grows, Answers}
use Rattle.aio_serving.specs.Fed.{is_written, feed_answer, Feeds, Ends}
use Rattle.aio_serving.specs.Served.{IsModest, always}
use Rattle.aio_roster.specs.Rosters.{IsShort, IsSameChild, running_of}
use Rattle.aio_roster.proofs.Seated.{running_set}
use Rattle.aio_roster.proofs.Running.{kth_of}
use Rattle.aio_commands.specs.Served.{HaveLanes}
use Rattle.aio_commands.specs.Fed.{nothing_to, written_to, FeedsAt, closed_to, EndsAt}

-- ---- lists and tests
set_same : (xs : List Child) (n : ℕ) (x : Child) → slice_get xs n ≡ Some x → slice_set xs n x ≡ xs
set_same [] n x h = refl
set_same (y ∷ ys) zero x h = ap (λ (z : Child). z ∷ ys) (cc)
set_same (y ∷ ys) (suc n) x h = ap (λ (zs : List Child). y ∷ zs) (set_same ys n x h)

and_first : (a b : Bool) → (a && b) ≡ true → a ≡ true
and_first true b h = refl
and_first false b h = h

and_second : (a b : Bool) → (a && b) ≡ true → b ≡ true
and_second true b h = h
and_second false b h = absurd (false≢true h)

nothing_given : (old : HeadsSeen) → Grows nothing_to old old
nothing_given old =
    record { has = λ n. refl; given = λ n p. sym (append-nil (old.given n p)); fulls = λ n p. omega arith; few = λ n p h. h }

given_none : (number : ℕ) (old : HeadsSeen) → Answers number pump.Stdin giving.Given old old
given_none number old = record { full = λ h. absurd (cc); spent = λ h. absurd (cc) }

pub has_lanes : (children : List Child) (heads : HeadsSeen) (child : Child) → HaveLanes children heads
    → slice_get children child.number ≡ Some child → runs child.stay ≡ true → heads.has child.number ≡ true
has_lanes children heads child lanes at goes =
    let found = kth_of children child.number child at goes in lanes found.0 child.number found.1

-- those that run are the same, and have lanes, after one is another with the same number and stay
pub lanes_kept : (children : List Child) (heads heads_now : HeadsSeen) (number : ℕ) (old new : Child) → slice_get children number ≡ Some old
    → IsSameChild old new → ((n : ℕ) → heads_now.has n ≡ heads.has n) → HaveLanes children heads → HaveLanes (slice_set children number new) heads_now
lanes_kept children heads heads_now number old new at same has lanes k n named =
    has n ∙ lanes k n (ap (λ l. slice_get l k) (sym (running_set children number old new at same.number same.stay)) ∙ named)

pub runs_kept : (children : List Child) (number : ℕ) (old new : Child) → slice_get children number ≡ Some old → IsSameChild old new
    → running_of (slice_set children number new) ≡ running_of children
runs_kept children number old new at same = running_set children number old new at same.number same.stay

-- ---- a feed
-- a Write is offered to a child that runs, is not broken, and to which fewer than seven wait
-- the tests of `offers_write`, one by one
four_hold : (a b c d e : Bool) → (a && b && c && d && e) ≡ true → (a ≡ true) × (b ≡ true) × (d ≡ true)
four_hold true true true true e h = (refl, refl, refl)
four_hold true true true false e h = absurd (false≢true h)
four_hold true true false d e h = absurd (false≢true h)
four_hold true false c d e h = absurd (false≢true h)
four_hold false b c d e h = absurd (false≢true h)

offered_so : (bytes : List ℕ) (child : Child) → offers_write bytes child ≡ true
    → (runs child.stay ≡ true) × (not child.broken ≡ true) × (nat_lt (waiting child) most_waiting ≡ true)
offered_so bytes child h =
    four_hold (runs child.stay) (not child.broken) (not (is_owed child.closing)) (nat_lt (waiting child) most_waiting)
    (not (is_empty bytes)) h

not_true : (b : Bool) → not b ≡ true → b ≡ false
not_true true h = absurd (false≢true h)
not_true false h = refl

whole_if_offered : (bytes : List ℕ) (child : Child) → offers_write bytes child ≡ true → child.broken ≡ false
whole_if_offered bytes child h = not_true child.broken (offered_so bytes child h).1

few_if_offered : (bytes : List ℕ) (child : Child) → offers_write bytes child ≡ true → nat_lt (waiting child) most_waiting ≡ true
few_if_offered bytes child h = (offered_so bytes child h).2

-- ---- by the child with a number, where it was launched
abbrev pub for_one : ℕ → (Child → List Command) → Option Child → ℕ → Pump → List Command
for_one number commands o = elim o [ None ↦ nothing_to | Some c ↦ at_lane number pump.Stdin (commands c) ]

abbrev pub write_of : List ℕ → Giving → Child → List Command
write_of bytes how c = if_given (offers_write bytes c) how (command.Write bytes)

abbrev pub close_of : Giving → Child → List Command
close_of how c = if_given (runs c.stay && is_unasked c.closing) how command.Close

abbrev fed_by : Giving → ℕ → List ℕ → Hub → Option Child → Hub × Said
fed_by how number bytes hub o =
    elim o [ None ↦ (hub, Got answer.Again) | Some c ↦ feed_child (always how) number bytes c hub ]

abbrev closed_by : Giving → ℕ → Hub → Option Child → Hub
closed_by how number hub o = elim o [ None ↦ hub | Some c ↦ with_child number (close_stdin how c) hub ]

module _ (bytes : List ℕ) (child result : Child) (said : Answer) (old new : HeadsSeen) (feeds : Feeds bytes child result said old new) where
  abbrev written : Bool
  written = is_written feeds.giving bytes child

  offered : written ≡ true → offers_write bytes child ≡ true
  offered h = and_first (offers_write bytes child) _ h

  same_if : (b : Bool) → IsSameChild child (cond b (after_write child) child)
  same_if true = record { number = refl; seats = refl; stay = refl }
  same_if false = record { number = refl; seats = refl; stay = refl }

  pub fed_same : IsSameChild child result
  fed_same = subst (IsSameChild child) (sym feeds.is) (same_if written)

  short_if : (most : ℕ) (b : Bool) → IsShort most child → IsShort most (cond b (after_write child) child)
  short_if most true short = short
  short_if most false short = short

  pub fed_short : (most : ℕ) → IsShort most child → IsShort most result
  fed_short most short = subst (IsShort most) (sym feeds.is) (short_if most written short)

  few : (writes rooms : ℕ) → nat_lt (writes - rooms) 7 ≡ true → writes + 1 ≤ rooms + 7
  few writes rooms h = grind (arith, nat_tests)

  modest_if : (b : Bool) → written ≡ b → IsModest child → IsModest (cond b (after_write child) child)
  modest_if true is modest =
      record {
        out = modest.out;
        errs = modest.errs;
        writes = few child.writes child.rooms (few_if_offered bytes child (offered is));
      }
  modest_if false is modest = modest

  pub fed_modest : IsModest child → IsModest result
  fed_modest modest = subst IsModest (sym feeds.is) (modest_if written refl modest)

  -- ---- as the definition has it
  module _ (number : ℕ) (children : List Child) (at : slice_get children number ≡ Some child) (same : child.number ≡ number) where
    abbrev of : Hub → Hub
    of hub = record hub { children = children }

    abbrev told : Bool → Bool → Answer
    told b w = cond b answer.Broken (cond w (answer.Took (length bytes)) answer.Again)

    abbrev paired : Hub → Answer → List Child → Hub × Said
    paired hub a cs = (record hub { children = cs }, Got a)

    abbrev definition : Hub → Bool → Bool → Hub × Said
    definition hub b w =
        cond b (of hub, Got answer.Broken)
        (cond w (with_child number (after_write child) (of hub), Got (answer.Took (length bytes))) (of hub, Got answer.Again))

    abbrev result_as : Hub → Child → Answer → Hub × Said
    result_as hub x a = (record hub { children = slice_set children number x }, Got a)

    pair_is : (hub : Hub) (b w : Bool) → child.broken ≡ b → written ≡ w
        → definition hub b w ≡ result_as hub (cond w (after_write child) child) (told b w)
    pair_is hub true true broken is =
        absurd (false≢true (sym (whole_if_offered bytes child (offered is)) ∙ broken))
    pair_is hub true false broken is =
        ap (paired hub answer.Broken) (sym (set_same children number child at))
    pair_is hub false true broken is = refl
    pair_is hub false false broken is =
        ap (paired hub answer.Again) (sym (set_same children number child at))

    grown : (n : ℕ) (p : Pump) → new.given n p ≡ old.given n p ++ written_to feeds.giving number bytes children n p
    grown n p =
        feeds.grows.given n p
        ∙ ap (λ m. old.given n p ++ at_lane m pump.Stdin (if_given (offers_write bytes child) feeds.giving (command.Write bytes)) n p)
        same
        ∙ ap (λ (o : Option Child). old.given n p ++ for_one number (write_of bytes feeds.giving) o n p) (sym at)

    pub feeds_at : FeedsAt number bytes children (slice_set children number result) said old new
    feeds_at =
        record {
          giving = feeds.giving;
          is = λ hub.
              ap (fed_by feeds.giving number bytes (of hub)) at
              ∙ pair_is hub child.broken written refl refl
              ∙ ap (λ (x : Child). result_as hub x (feed_answer feeds.giving bytes child)) (sym feeds.is)
              ∙ ap (result_as hub result) (sym feeds.says);
          grows = record { has = feeds.grows.has; given = grown; fulls = feeds.grows.fulls; few = feeds.grows.few };
          answers = subst (λ m. Answers m pump.Stdin feeds.giving old new) same feeds.answers;
        }

pub none_fed : (number : ℕ) (bytes : List ℕ) (children : List Child) (old : HeadsSeen) → slice_get children number ≡ None
    → FeedsAt number bytes children children answer.Again old old
none_fed number bytes children old none =
    record {
      giving = giving.Given;
      is = λ hub. ap (fed_by giving.Given number bytes (record hub { children = children })) none;
      grows =
          record {
            has = λ n. refl;
            given = λ n p.
                (nothing_given old).given n p
                ∙ ap (λ (o : Option Child). old.given n p ++ for_one number (write_of bytes giving.Given) o n p) (sym none);
            fulls = λ n p. omega arith;
            few = λ n p h. h;
          };
      answers = given_none number old;
    }

-- ---- a Close
module _ (child result : Child) (old new : HeadsSeen) (ends : Ends child result old new) where
  abbrev asked : Bool
  asked = runs child.stay && is_unasked child.closing

  same_end : (b : Bool) → IsSameChild child (cond b (record child { closing = after_close ends.giving }) child)
  same_end true = record { number = refl; seats = refl; stay = refl }
  same_end false = record { number = refl; seats = refl; stay = refl }

  pub ended_same : IsSameChild child result
  ended_same = subst (IsSameChild child) (sym ends.is) (same_end asked)

  short_end : (most : ℕ) (b : Bool) → IsShort most child → IsShort most (cond b (record child { closing = after_close ends.giving }) child)
  short_end most true short = short
  short_end most false short = short

  pub ended_short : (most : ℕ) → IsShort most child → IsShort most result
  ended_short most short = subst (IsShort most) (sym ends.is) (short_end most asked short)

  modest_end : (b : Bool) → IsModest child → IsModest (cond b (record child { closing = after_close ends.giving }) child)
  modest_end true modest = record { out = modest.out; errs = modest.errs; writes = modest.writes }
  modest_end false modest = modest

  pub ended_modest : IsModest child → IsModest result
  ended_modest modest = subst IsModest (sym ends.is) (modest_end asked modest)

  module _ (number : ℕ) (children : List Child) (at : slice_get children number ≡ Some child) (same : child.number ≡ number) where
    closed : (n : ℕ) (p : Pump) → new.given n p ≡ old.given n p ++ closed_to ends.giving number children n p
    closed n p =
        ends.grows.given n p
        ∙ ap (λ m. old.given n p ++ at_lane m pump.Stdin (if_given asked ends.giving command.Close) n p) same
        ∙ ap (λ (o : Option Child). old.given n p ++ for_one number (close_of ends.giving) o n p) (sym at)

    pub ends_at : EndsAt number children (slice_set children number result) old new
    ends_at =
        record {
          giving = ends.giving;
          is = λ hub.
              ap (closed_by ends.giving number (record hub { children = children })) at
              ∙ ap (λ (x : Child). record hub { children = slice_set children number x }) (sym ends.is);
          grows = record { has = ends.grows.has; given = closed; fulls = ends.grows.fulls; few = ends.grows.few };
          answers = subst (λ m. Answers m pump.Stdin ends.giving old new) same ends.answers;
        }

pub none_ended : (number : ℕ) (children : List Child) (old : HeadsSeen) → slice_get children number ≡ None → EndsAt number children children old old
none_ended number children old none =
    record {
      giving = giving.Given;
      is = λ hub. ap (closed_by giving.Given number (record hub { children = children })) none;
      grows =
          record {
            has = λ n. refl;
            given = λ n p.
                (nothing_given old).given n p
                ∙ ap (λ (o : Option Child). old.given n p ++ for_one number (close_of giving.Given) o n p) (sym none);
            fulls = λ n p. omega arith;
            few = λ n p h. h;
          };
      answers = given_none number old;
    }
