-- One pass over the children that run is a step of each child.
use Rattle.std.proofs.Common.{◌≡◌, ℕ, zero, suc, ◌+◌, ◌<◌, ◌≤◌, ◌==◌, Bool, true, false, cond, List, [], ◌∷◌, ◌++◌, Some, length}
use Rattle.std.proofs.Common.{map, refl, sym, ap, ◌∙◌, subst, append-nil, append_assoc, length-append, eq-eqb, arith}
use Rattle.std.specs.Prelude.{slice_get, slice_set}
use Rattle.std.proofs.lemmas.List.{map-append}
use Rattle.std.proofs.lemmas.Grind.{flat_map-append}
use Rattle.std.proofs.lemmas.Bool.Decides.{nat_tests}
use Rattle.model_wire.specs.declared.watch.Watch.{Watch}
use Rattle.model_pump.specs.Commands.{Command}
use Rattle.model_hub.specs.declared.child.Child.{Child}
use Rattle.model_hub.specs.declared.giving.Giving.{Giving}
use Rattle.model_hub.specs.declared.giving.Giving.TheVariants as giving
use Rattle.model_hub.specs.declared.pump.Pump.{Pump}
use Rattle.model_hub.specs.Children.{runs}
use Rattle.model_hub.specs.Others.{Offer, Lanes}
use Rattle.model_hub.specs.Lanes.{serve_child}
use Rattle.model_hub.specs.Asked.{lane_of}
use Rattle.aio_serving.specs.Heads.{HeadsSeen, Answers}
use Rattle.aio_serving.specs.Served.{IsModest, Serves, served_alone}
use Rattle.aio_serving.proofs.Giving.{answers_later, answers_before}
use Rattle.aio_serving.proofs.Same.{IsSame, serve_same, serve_modest, serve_alike, served_alike, unserved, none_served}
use Rattle.aio_roster.specs.Rosters.{Numbered, running_of, IsShort, IsSameChild}
use Rattle.aio_commands.specs.Served.{ServesOne, ServesAll, served_each}
use Rattle.aio_roster.proofs.Seated.{some_is, none_some, running_set}
use Rattle.aio_roster.proofs.Running.{Found, find, within, running_cons, running_append, get_middle, set_middle, get_after}
use Rattle.aio_roster.proofs.Running.{nothing_left, numbered_front, none_less, Below, below, snoc_case}

abbrev none : List Command
none = []

-- ---- what the lanes of one child answer, beside what those of others did
abbrev with_lanes : ℕ → (Offer → Giving) → Lanes → Lanes
with_lanes k answers lanes n offer = cond (n == k) (answers offer) (lanes n offer)

here : (k : ℕ) (answers : Offer → Giving) (lanes : Lanes) (offer : Offer) → with_lanes k answers lanes k offer ≡ answers offer
here k answers lanes offer = ap (λ b. cond b (answers offer) (lanes k offer)) (eq-eqb k k refl)

not_same : (n k : ℕ) → n < k → (n == k) ≡ false
not_same n k below = grind (arith, nat_tests)

there : (k : ℕ) (answers : Offer → Giving) (lanes : Lanes) (n : ℕ) → n < k → (offer : Offer) → with_lanes k answers lanes n offer ≡ lanes n offer
there k answers lanes n below offer = ap (λ b. cond b (answers offer) (lanes n offer)) (not_same n k below)

module _ (watched : List Watch) (k : ℕ) (answers : Offer → Giving) (lanes : Lanes) where
  map_there : (cs : List Child) → Below k cs → map (serve_child (with_lanes k answers lanes) watched) cs ≡ map (serve_child lanes watched) cs
  map_there [] low = refl
  map_there (c ∷ cs) low =
      ap (λ (x : Child). x ∷ map (serve_child (with_lanes k answers lanes) watched) cs)
      (serve_alike (with_lanes k answers lanes) lanes watched c (there k answers lanes c.number low.0))
      ∙ ap (λ (l : List Child). serve_child lanes watched c ∷ l) (map_there cs low.1)

  each_there : (cs : List Child) → Below k cs → (n : ℕ) (p : Pump) → served_each (with_lanes k answers lanes) watched cs n p ≡ served_each lanes watched cs n p
  each_there [] low n p = refl
  each_there (c ∷ cs) low n p =
      ap (λ (l : List Command). cond (n == c.number) l [] ++ served_each (with_lanes k answers lanes) watched cs n p)
      (served_alike (with_lanes k answers lanes) lanes watched c (there k answers lanes c.number low.0) p)
      ∙ ap (λ (l : List Command). served_alone lanes watched c n p ++ l) (each_there cs low.1 n p)

below_get : (k : ℕ) (cs : List Child) → Below k cs → (n : ℕ) (c : Child) → slice_get cs n ≡ Some c → c.number < k
below_get k [] low n c h = absurd (none_some c h)
below_get k (x ∷ cs) low zero c h = subst (λ (y : Child). y.number < k) (some_is x c h) low.0
below_get k (x ∷ cs) low (suc n) c h = below_get k cs low.1 n c h

module _ (watched : List Watch) (s0 : HeadsSeen) where
  pub none_served_yet : ServesAll watched [] [] s0 s0
  none_served_yet =
      record {
        lanes = λ n offer. giving.Given;
        is = refl;
        grows =
            record {
              has = λ n. refl;
              given = λ n p. sym (append-nil (s0.given n p));
              fulls = λ n p. omega arith;
              few = λ n p h. h;
            };
        each = λ n child h goes offer. absurd (none_some child h);
      }

  module _ (done served : List Child) (s : HeadsSeen) (went : ServesAll watched done served s0 s) where
    skip_one : (child : Child) → runs child.stay ≡ false → ServesAll watched (done ++ child ∷ []) (served ++ child ∷ []) s0 s
    skip_one child stays =
        record {
          lanes = went.lanes;
          is =
              ap (λ (l : List Child). l ++ child ∷ []) went.is
              ∙ ap (λ (c : Child). map (serve_child went.lanes watched) done ++ c ∷ []) (sym (unserved went.lanes watched child stays))
              ∙ sym (map-append (serve_child went.lanes watched) done (child ∷ []));
          grows =
              record {
                has = went.grows.has;
                given = λ n p. went.grows.given n p ∙ ap (λ (l : List Command). s0.given n p ++ l) (more n p);
                fulls = went.grows.fulls;
                few = went.grows.few;
              };
          each =
              snoc_case (λ n c. runs c.stay ≡ true → (offer : Offer) → Answers n (lane_of offer) (went.lanes n offer) s0 s) done child went.each
              (λ goes offer. absurd (cc));
        }
      where
        nil_if : (b : Bool) → cond b none none ≡ none
        nil_if true = refl
        nil_if false = refl

        more : (n : ℕ) (p : Pump) → served_each went.lanes watched done n p ≡ served_each went.lanes watched (done ++ child ∷ []) n p
        more n p =
            sym (append-nil (served_each went.lanes watched done n p))
            ∙ ap (λ (l : List Command). served_each went.lanes watched done n p ++ l)
            (sym (append-nil (served_alone went.lanes watched child n p)
            ∙ ap (λ (l : List Command). cond (n == child.number) l []) (none_served went.lanes watched child stays p) ∙ nil_if (n == child.number)))
            ∙ sym (flat_map-append (λ (c : Child). served_alone went.lanes watched c n p) done (child ∷ []))

    module _ (child result : Child) (next : HeadsSeen) (low : Below child.number done) (last : child.number ≡ length done)
        (serves : Serves watched child result s next) where
      abbrev lanes : Lanes
      lanes = with_lanes child.number serves.answers went.lanes

      grown : (n : ℕ) (p : Pump) → next.given n p ≡ s0.given n p ++ served_each lanes watched (done ++ child ∷ []) n p
      grown n p =
          serves.grows.given n p
          ∙ ap (λ (l : List Command). l ++ served_alone (λ m. serves.answers) watched child n p) (went.grows.given n p)
          ∙ append_assoc (s0.given n p) (served_each went.lanes watched done n p) (served_alone (λ m. serves.answers) watched child n p)
          ∙ ap (λ (l : List Command). s0.given n p ++ l)
          (ap (λ (l : List Command). l ++ served_alone (λ m. serves.answers) watched child n p)
          (sym (each_there watched child.number serves.answers went.lanes done low n p))
          ∙ ap (λ (l : List Command). served_each lanes watched done n p ++ cond (n == child.number) l [])
          (sym (served_alike lanes (λ m. serves.answers) watched child (here child.number serves.answers went.lanes) p))
          ∙ ap (λ (l : List Command). served_each lanes watched done n p ++ l) (sym (append-nil (served_alone lanes watched child n p)))
          ∙ sym (flat_map-append (λ (c : Child). served_alone lanes watched c n p) done (child ∷ [])))

      answered : (n : ℕ) (c : Child) → slice_get done n ≡ Some c → runs c.stay ≡ true → (offer : Offer)
          → Answers n (lane_of offer) (lanes n offer) s0 next
      answered n c at goes offer =
          subst (λ (g : Giving). Answers n (lane_of offer) g s0 next)
          (sym (there child.number serves.answers went.lanes n (subst (λ m. n < m) (sym last) (within done n c at)) offer))
          (answers_later n (lane_of offer) (went.lanes n offer) _ s0 s next (went.each n c at goes offer) serves.grows)

      answers_last : (offer : Offer) → Answers (length done) (lane_of offer) (lanes (length done) offer) s0 next
      answers_last offer =
          subst (λ (m : ℕ). Answers m (lane_of offer) (lanes m offer) s0 next) last
          (subst (λ (g : Giving). Answers child.number (lane_of offer) g s0 next) (sym (here child.number serves.answers went.lanes offer))
          (answers_before child.number (lane_of offer) (serves.answers offer) _ s0 s next went.grows (serves.each offer)))

      serve_next : ServesAll watched (done ++ child ∷ []) (served ++ result ∷ []) s0 next
      serve_next =
          record {
            lanes = lanes;
            is =
                ap (λ (l : List Child). l ++ result ∷ []) (went.is ∙ sym (map_there watched child.number serves.answers went.lanes done low))
                ∙ ap (λ (c : Child). map (serve_child lanes watched) done ++ c ∷ [])
                (serves.is ∙ sym (serve_alike lanes (λ m. serves.answers) watched child (here child.number serves.answers went.lanes)))
                ∙ sym (map-append (serve_child lanes watched) done (child ∷ []));
            grows =
                record {
                  has = λ n. serves.grows.has n ∙ went.grows.has n;
                  given = grown;
                  fulls = λ n p. omega (arith, serves.grows.fulls n p, went.grows.fulls n p);
                  few = λ n p h. serves.grows.few n p (went.grows.few n p h);
                };
            each =
                snoc_case (λ n c. runs c.stay ≡ true → (offer : Offer) → Answers n (lane_of offer) (lanes n offer) s0 next) done child answered
                (λ goes offer. answers_last offer);
          }

  -- those that don't run are left alone
  skip_all : (done served rest : List Child) (s : HeadsSeen) → running_of rest ≡ [] → ServesAll watched done served s0 s
      → ServesAll watched (done ++ rest) (served ++ rest) s0 s
  skip_all done served [] s none went =
      subst (λ (l : List Child). ServesAll watched l (served ++ []) s0 s) (sym (append-nil done))
      (subst (λ (l : List Child). ServesAll watched done l s0 s) (sym (append-nil served)) went)
  skip_all done served (c ∷ cs) s none went =
      subst (λ (l : List Child). ServesAll watched l (served ++ c ∷ cs) s0 s) (append_assoc done (c ∷ []) cs)
      (subst (λ (l : List Child). ServesAll watched ((done ++ c ∷ []) ++ cs) l s0 s) (append_assoc served (c ∷ []) cs)
      (skip_all (done ++ c ∷ []) (served ++ c ∷ []) cs s (stays.1) (skip_one done served s went c stays.0)))
    where
      which : (b : Bool) → runs c.stay ≡ b → cond b (c.number ∷ running_of cs) (running_of cs) ≡ [] → (runs c.stay ≡ false) × (running_of cs ≡ [])
      which true is h = absurd (cc)
      which false is h = (is, h)

      stays : (runs c.stay ≡ false) × (running_of cs ≡ [])
      stays = which (runs c.stay) refl (sym (running_cons c cs (runs c.stay) refl) ∙ none)

-- ---- one more of those that run
pub record Going (watched : List Watch) (k : ℕ) (children children_now : List Child) (s0 s : HeadsSeen) : Type 0 where
  pub done : List Child
  pub served : List Child
  pub rest : List Child
  pub whole : children ≡ done ++ rest
  pub now : children_now ≡ served ++ rest
  pub same : length served ≡ length done
  pub reached : length (running_of served) ≡ k
  pub went : ServesAll watched done served s0 s

pub none_yet : (watched : List Watch) (children : List Child) (s : HeadsSeen) → Going watched 0 children children s s
none_yet watched children s =
    record {
      done = [];
      served = [];
      rest = children;
      whole = refl;
      now = refl;
      same = refl;
      reached = refl;
      went = none_served_yet watched s;
    }

module _ (watched : List Watch) (k : ℕ) (children now next : List Child) (s0 s s_next : HeadsSeen) (numbered : Numbered children)
    (going : Going watched k children now s0 s) (one : ServesOne watched k now next s s_next) where
  first : slice_get (running_of going.rest) 0 ≡ Some one.number
  first =
      sym (get_after (running_of going.served) (running_of going.rest))
      ∙ ap (λ l. slice_get l (length (running_of going.served))) (sym (running_append going.served going.rest))
      ∙ ap (λ m. slice_get (running_of (going.served ++ going.rest)) m) going.reached
      ∙ ap (λ (l : List Child). slice_get (running_of l) k) (sym going.now) ∙ one.named

  abbrev found : Found going.rest 0 one.number
  found = find going.rest 0 one.number first

  none_runs : running_of found.before ≡ []
  none_runs = nothing_left (running_of found.before) found.earlier

  old_whole : children ≡ (going.done ++ found.before) ++ found.child ∷ found.after
  old_whole =
      going.whole ∙ ap (λ (l : List Child). going.done ++ l) found.whole
      ∙ sym (append_assoc going.done found.before (found.child ∷ found.after))

  now_whole : now ≡ (going.served ++ found.before) ++ found.child ∷ found.after
  now_whole =
      going.now ∙ ap (λ (l : List Child). going.served ++ l) found.whole
      ∙ sym (append_assoc going.served found.before (found.child ∷ found.after))

  number_is : found.child.number ≡ length (going.done ++ found.before)
  number_is =
      numbered (length (going.done ++ found.before)) found.child
      (ap (λ (l : List Child). slice_get l (length (going.done ++ found.before))) old_whole
      ∙ get_middle (going.done ++ found.before) found.child found.after)

  place : one.number ≡ length (going.served ++ found.before)
  place =
      sym found.number ∙ number_is ∙ length-append going.done found.before
      ∙ ap (λ m. m + length found.before) (sym going.same) ∙ sym (length-append going.served found.before)

  is_found : one.child ≡ found.child
  is_found =
      some_is one.child found.child
      (sym one.at ∙ ap (λ (l : List Child). slice_get l one.number) now_whole
      ∙ ap (λ m. slice_get ((going.served ++ found.before) ++ found.child ∷ found.after) m) place
      ∙ get_middle (going.served ++ found.before) found.child found.after)

  next_whole : next ≡ (going.served ++ found.before) ++ one.result ∷ found.after
  next_whole =
      one.now ∙ ap (λ (l : List Child). slice_set l one.number one.result) now_whole
      ∙ ap (λ m. slice_set ((going.served ++ found.before) ++ found.child ∷ found.after) m one.result) place
      ∙ set_middle (going.served ++ found.before) found.child found.after one.result

  low : Below found.child.number (going.done ++ found.before)
  low =
      below (going.done ++ found.before) 0 found.child.number
      (λ n c h. numbered_front (going.done ++ found.before) (found.child ∷ found.after)
      (λ m d g. numbered m d (ap (λ (l : List Child). slice_get l m) old_whole ∙ g)) n c h ∙ none_less n)
      (omega (arith, number_is))

  result_goes : runs one.result.stay ≡ true
  result_goes =
      ap (λ (c : Child). runs c.stay) one.serves.is
      ∙ ap runs (serve_same (λ m. one.serves.answers) watched one.child).stay ∙ ap (λ (c : Child). runs c.stay) is_found ∙ found.goes

  reached_next : length (running_of ((going.served ++ found.before) ++ one.result ∷ [])) ≡ k + 1
  reached_next =
      ap length (running_append (going.served ++ found.before) (one.result ∷ [])
      ∙ ap (λ (l : List ℕ). l ++ running_of (one.result ∷ [])) (running_append going.served found.before
      ∙ ap (λ (l : List ℕ). running_of going.served ++ l) none_runs ∙ append-nil (running_of going.served))
      ∙ ap (λ (l : List ℕ). running_of going.served ++ l) (running_cons one.result [] true result_goes))
      ∙ length-append (running_of going.served) (one.result.number ∷ []) ∙ ap (λ m. m + 1) going.reached

  pub goes_on : Going watched (k + 1) children next s0 s_next
  goes_on =
      record {
        done = (going.done ++ found.before) ++ found.child ∷ [];
        served = (going.served ++ found.before) ++ one.result ∷ [];
        rest = found.after;
        whole = old_whole ∙ sym (append_assoc (going.done ++ found.before) (found.child ∷ []) found.after);
        now = next_whole ∙ sym (append_assoc (going.served ++ found.before) (one.result ∷ []) found.after);
        same =
            length-append (going.served ++ found.before) (one.result ∷ [])
            ∙ ap (λ m. m + 1) (sym place ∙ sym found.number ∙ number_is)
            ∙ sym (length-append (going.done ++ found.before) (found.child ∷ []));
        reached = reached_next;
        went =
            serve_next watched s0 (going.done ++ found.before) (going.served ++ found.before) s
            (skip_all watched s0 going.done going.served found.before s none_runs going.went)
            found.child one.result s_next low number_is
            (subst (λ (c : Child). Serves watched c one.result s s_next) is_found one.serves);
      }

  kept : IsSame one.child (serve_child (λ m. one.serves.answers) watched one.child)
  kept = serve_same (λ m. one.serves.answers) watched one.child

  pub runs_same : running_of next ≡ running_of now
  runs_same =
      ap running_of one.now
      ∙ running_set now one.number one.child one.result one.at
      (ap (λ (c : Child). c.number) one.serves.is ∙ kept.number) (ap (λ (c : Child). c.stay) one.serves.is ∙ kept.stay)

-- all of them were served
module _ (watched : List Watch) (k : ℕ) (children now : List Child) (s0 s : HeadsSeen) (going : Going watched k children now s0 s)
    (all : length (running_of now) ≤ k) where
  rest_none : running_of going.rest ≡ []
  rest_none =
      nothing_left (running_of going.rest)
      (omega (
        arith,
        ap (λ (l : List Child). length (running_of l)) going.now,
        ap length (running_append going.served going.rest),
        length-append (running_of going.served) (running_of going.rest),
        going.reached,
      ))

  pub all_served : ServesAll watched children now s0 s
  all_served =
      subst (λ (l : List Child). ServesAll watched l now s0 s) (sym going.whole)
      (subst (λ (l : List Child). ServesAll watched (going.done ++ going.rest) l s0 s) (sym going.now)
      (skip_all watched s0 going.done going.served going.rest s rest_none going.went))

-- ---- a child that is served keeps what a roster knows of it
pub same_child : (watched : List Watch) (child result : Child) (old new : HeadsSeen) → Serves watched child result old new → IsSameChild child result
same_child watched child result old new serves =
    let kept = serve_same (λ m. serves.answers) watched child in
    record {
      number = ap (λ (c : Child). c.number) serves.is ∙ kept.number;
      seats = ap (λ (c : Child). c.seats) serves.is ∙ kept.seats;
      stay = ap (λ (c : Child). c.stay) serves.is ∙ kept.stay;
    }

pub same_short : (watched : List Watch) (child result : Child) (old new : HeadsSeen) (most : ℕ) → Serves watched child result old new
    → IsShort most child → IsShort most result
same_short watched child result old new most serves short =
    let kept = serve_same (λ m. serves.answers) watched child in (
      omega (arith, short.0, ap (λ (c : Child). c.out.pieces) serves.is, kept.out),
      omega (arith, short.1, ap (λ (c : Child). c.errs.pieces) serves.is, kept.errs),
      omega (arith, short.2, ap (λ (c : Child). c.rooms) serves.is, kept.rooms),
    )

pub same_modest : (watched : List Watch) (child result : Child) (old new : HeadsSeen) → Serves watched child result old new → IsModest child
    → IsModest result
same_modest watched child result old new serves modest =
    subst IsModest (sym serves.is) (serve_modest (λ m. serves.answers) watched child modest)
