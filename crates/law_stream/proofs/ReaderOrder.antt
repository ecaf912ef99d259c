-- What is read stays in order.
use Rattle.std.proofs.Common.{◌≡◌, ℕ, ◌+◌, ◌-◌, ◌*◌, ◌≤◌, ℤ, pos, negsuc, Bool, true, false, cond, eqb, ltb, leb, ◌||◌, ◌&&◌, not, List, [], ◌∷◌, ◌++◌, Some}
use Rattle.std.specs.Prelude.{is_some}
use Rattle.std.proofs.lemmas.Bool.{false≢true}
use Rattle.std.proofs.Common.{Option, None, length, take, drop, min, refl, ap, sym, ◌∙◌, arith}
use lib.Chars.{codes}
use Rattle.std.proofs.lemmas.List.{append_assoc, append-nil, take-append-drop, take_min, drop_all, length-drop, length-append}
use Rattle.std.proofs.lemmas.Bool.Decides.{nat_tests}
use Rattle.model_value.specs.Value.{Exc}
use Rattle.model_stream.specs.declared.read_op.ReadOp.TheVariants.{UpTo, Exactly, Until, Line}
use Rattle.model_stream.specs.Reading.{Reading, ReadOp, Take, take_read, take_up_to, take_exactly, take_until, take_line, gives, raises, needs, removes}
use Rattle.model_stream.specs.Reading.{after_take, unless_failed, incomplete, first_at, until_found, until_unfound, line_at, unended_line, newline, feed}
use Rattle.model_stream.specs.Sending.{is_nothing}
use Rattle.law_stream.specs.ReaderSteps.{TakesFront, ReaderStep, Feeds, FeedsEnd, Fails, Resumes, Takes, after, fed_in, taken_away, gone_in, all_after, fed}
use Rattle.law_stream.specs.ReaderSteps.{RaisesAlone, gone, let_go, let_go_in, joined, feed_all}

-- ---- each operation takes a front
front_given : (count : ℕ) (held : List ℕ) → TakesFront (gives count held) held
front_given count held = record { count = count; rest = refl; given = refl }

front_kept : (fault : Exc) (held : List ℕ) → TakesFront (raises fault held) held
front_kept fault held = record { count = 0; rest = refl; given = tt }

front_needed : (held : List ℕ) → TakesFront (needs held) held
front_needed held = record { count = 0; rest = refl; given = tt }

front_all : (fault : Exc) (held : List ℕ) → TakesFront (raises fault []) held
front_all fault held = record { count = length held; rest = sym (drop_all (length held) held (omega arith)); given = tt }

front_removed : (text : List ℕ) (count : ℕ) (held : List ℕ) → TakesFront (removes text (drop count held)) held
front_removed text count held = record { count = count; rest = refl; given = tt }

front_removed_all : (text held : List ℕ) → TakesFront (removes text []) held
front_removed_all text held = record { count = length held; rest = sym (drop_all (length held) held (omega arith)); given = tt }

front_if : (b : Bool) (x y : Take) (held : List ℕ) → TakesFront x held → TakesFront y held → TakesFront (cond b x y) held
front_if true x y held here there = here
front_if false x y held here there = there

front_unless : (r : Reading) (other : Take) → TakesFront other r.held → TakesFront (unless_failed r other) r.held
front_unless r other there =
    elim r.failed as (λ failed. TakesFront (elim failed [ None ↦ other | Some fault ↦ raises fault r.held ]) r.held)
    [ None ↦ there | Some fault ↦ front_kept fault r.held ]

front_incomplete : (wanted held : List ℕ) → TakesFront (incomplete wanted held) held
front_incomplete wanted held = front_all _ held

front_up_to : (count : ℕ) (r : Reading) → TakesFront (take_up_to count r) r.held
front_up_to count r =
    front_unless r _
    (front_if (eqb count 0) _ _ r.held (front_given 0 r.held)
    (front_if (is_nothing r.held && not r.eof) _ _ r.held (front_needed r.held) (front_given count r.held)))

front_exactly : (count : ℤ) (r : Reading) → TakesFront (take_exactly count r) r.held
front_exactly (negsuc n) r = front_kept _ r.held
front_exactly (pos count) r =
    front_unless r _
    (front_if (leb count (length r.held)) _ _ r.held (front_given count r.held)
    (front_if r.eof _ _ r.held (front_incomplete _ r.held) (front_needed r.held)))

front_found : (at separator : ℕ) (r : Reading) → TakesFront (until_found at separator r) r.held
front_found at separator r =
    front_if (ltb r.limit at) _ _ r.held (front_kept _ r.held) (front_given (at + separator) r.held)

front_unfound : (separator : ℕ) (r : Reading) → TakesFront (until_unfound separator r) r.held
front_unfound separator r =
    front_if (ltb r.limit (length r.held + 1 - separator)) _ _ r.held (front_kept _ r.held)
    (front_if r.eof _ _ r.held (front_incomplete (codes "undefined") r.held) (front_needed r.held))

front_until : (separator : List ℕ) (r : Reading) → TakesFront (take_until separator r) r.held
front_until separator r =
    front_if (is_nothing separator) _ _ r.held (front_kept _ r.held)
    (front_unless r _
    (elim (first_at separator r.held) as (λ found.
    TakesFront (elim found [ Some at ↦ until_found at (length separator) r | None ↦ until_unfound (length separator) r ]) r.held)
    [ Some at ↦ front_found at (length separator) r | None ↦ front_unfound (length separator) r ]))

front_line_at : (at : ℕ) (r : Reading) → TakesFront (line_at at r) r.held
front_line_at at r =
    front_if (ltb r.limit at) _ _ r.held (front_removed _ (at + 1) r.held) (front_given (at + 1) r.held)

front_unended : (r : Reading) → TakesFront (unended_line r) r.held
front_unended r =
    front_if (ltb r.limit (length r.held)) _ _ r.held (front_removed_all _ r.held)
    (front_if r.eof _ _ r.held (front_given (length r.held) r.held) (front_needed r.held))

front_line : (r : Reading) → TakesFront (take_line r) r.held
front_line r =
    front_unless r _
    (elim (first_at newline r.held) as (λ found. TakesFront (elim found [ Some at ↦ line_at at r | None ↦ unended_line r ]) r.held)
    [ Some at ↦ front_line_at at r | None ↦ front_unended r ])

pub takes_front : (op : ReadOp) (r : Reading) → TakesFront (take_read op r) r.held
takes_front (UpTo count) r = front_up_to count r
takes_front (Exactly count) r = front_exactly count r
takes_front (Until separator) r = front_until separator r
takes_front Line r = front_line r

-- ---- of one that failed
-- it raises, and leaves all that is held
pub record RaisesOnly (t : Take) (held : List ℕ) : Type 0 where
  pub fault : Exc
  pub is : t ≡ raises fault held

only_unless : (r : Reading) (other : Take) → is_some r.failed ≡ true → RaisesOnly (unless_failed r other) r.held
only_unless r other is = at r.failed is
  where
    at : (failed : Option Exc) → is_some failed ≡ true
        → RaisesOnly (elim failed as (λ o. Take) [ None ↦ other | Some fault ↦ raises fault r.held ]) r.held
    at None is = absurd (false≢true is)
    at (Some fault) is = record { fault = fault; is = refl }

only_if : (b : Bool) (x y : Take) (held : List ℕ) → RaisesOnly x held → RaisesOnly y held → RaisesOnly (cond b x y) held
only_if true x y held one other = one
only_if false x y held one other = other

pub raises_only : (op : ReadOp) (r : Reading) → is_some r.failed ≡ true → RaisesOnly (take_read op r) r.held
raises_only (UpTo count) r is = only_unless r _ is
raises_only (Exactly (negsuc n)) r is = record { fault = _; is = refl }
raises_only (Exactly (pos count)) r is = only_unless r _ is
raises_only (Until separator) r is =
    only_if (is_nothing separator) _ _ r.held (record { fault = _; is = refl }) (only_unless r _ is)
raises_only Line r is = only_unless r _ is

pub failed_leaves : (op : ReadOp) (r : Reading) → is_some r.failed ≡ true → (take_read op r).rest ≡ r.held
failed_leaves op r is = ap (λ (t : Take). t.rest) (raises_only op r is).is

paused_still : (b : Bool) → b && true ≡ b
paused_still true = refl
paused_still false = refl

pub raises_alone : (op : ReadOp) (r : Reading) (fault : Exc) → r.failed ≡ Some fault → RaisesAlone (take_read op r) r
raises_alone op r fault failed =
    let it = raises_only op r (ap is_some failed) in
    record {
      fault = it.fault;
      answer = ap (λ (t : Take). t.answer) it.is;
      after = ap (λ (t : Take). after_take t r) it.is ∙ ap (λ b. record r { paused = b }) (paused_still r.paused);
    }

-- ---- steps keep the order
none_away : (held : List ℕ) → taken_away held held ≡ []
none_away held = ap (λ n. take n held) (let e : length held - length held ≡ 0 = omega arith in e)

away : (count : ℕ) (held : List ℕ) → taken_away held (drop count held) ++ drop count held ≡ held
away count held =
    let many : length held - length (drop count held) ≡ min count (length held) = omega (arith, length-drop count held) in
    ap (λ n. take n held ++ drop count held) many
    ∙ ap (λ front. front ++ drop count held) (take_min count held)
    ∙ take-append-drop count held

pub taken_order : (held : List ℕ) (t : Take) → TakesFront t held → held ≡ taken_away held t.rest ++ t.rest
taken_order held t front =
    sym (ap (λ rest. taken_away held rest ++ rest) front.rest ∙ away front.count held)

step_order : (step : ReaderStep) (r : Reading) → r.held ++ fed_in step ≡ gone_in step r ++ (let_go_in step r ++ (after step r).held)
step_order (Feeds piece) r = refl
step_order FeedsEnd r = append-nil r.held
step_order (Fails fault) r = refl
step_order Resumes r = append-nil r.held
step_order (Takes op) r = append-nil r.held ∙ taken_order r.held (take_read op r) (takes_front op r)

-- from one that failed nothing is taken, and it stays failed
none_gone : (step : ReaderStep) (r : Reading) → is_some r.failed ≡ true → (gone_in step r ≡ []) × (is_some (after step r).failed ≡ true)
none_gone (Feeds piece) r is = (refl, is)
none_gone FeedsEnd r is = (refl, is)
none_gone (Fails fault) r is = (refl, refl)
none_gone Resumes r is = (refl, is)
none_gone (Takes op) r is = (ap (taken_away r.held) (failed_leaves op r is) ∙ none_away r.held, is)

pub none_taken : (steps : List ReaderStep) (r : Reading) → is_some r.failed ≡ true → gone steps r ≡ []
none_taken [] r is = refl
none_taken (step ∷ steps) r is =
    let one = none_gone step r is in
    ap (λ bytes. bytes ++ gone steps (after step r)) one.0 ∙ none_taken steps (after step r) one.1

stays_failed : (steps : List ReaderStep) (r : Reading) → is_some r.failed ≡ true → is_some (all_after steps r).failed ≡ true
stays_failed [] r is = is
stays_failed (step ∷ steps) r is = stays_failed steps (after step r) (none_gone step r is).1

-- what is let go comes behind all that is taken
behind : (step : ReaderStep) (steps : List ReaderStep) (r : Reading)
    → let_go_in step r ++ gone steps (after step r) ≡ gone steps (after step r) ++ let_go_in step r
behind (Fails fault) steps r =
    let none = none_taken steps (after (Fails fault) r) refl in
    ap (λ bytes. r.held ++ bytes) none ∙ append-nil r.held ∙ sym (ap (λ bytes. bytes ++ r.held) none)
behind (Feeds piece) steps r = sym (append-nil (gone steps (after (Feeds piece) r)))
behind FeedsEnd steps r = sym (append-nil (gone steps (after FeedsEnd r)))
behind Resumes steps r = sym (append-nil (gone steps (after Resumes r)))
behind (Takes op) steps r = sym (append-nil (gone steps (after (Takes op) r)))

-- bytes that are taken, then let go, then taken, let go and held, where what is let go may stand behind
pub in_order_then : (taken lost more gone_ rest : List ℕ) → lost ++ more ≡ more ++ lost
    → taken ++ (lost ++ (more ++ (gone_ ++ rest))) ≡ (taken ++ more) ++ ((lost ++ gone_) ++ rest)
in_order_then taken lost more gone_ rest swaps =
    ap (λ bytes. taken ++ bytes)
    (sym (append_assoc lost more (gone_ ++ rest)) ∙ ap (λ bytes. bytes ++ (gone_ ++ rest)) swaps ∙ append_assoc more lost (gone_ ++ rest)
    ∙ ap (λ bytes. more ++ bytes) (sym (append_assoc lost gone_ rest)))
    ∙ sym (append_assoc taken more ((lost ++ gone_) ++ rest))

pub all_in_order : (steps : List ReaderStep) (r : Reading)
    → r.held ++ fed steps ≡ gone steps r ++ (let_go steps r ++ (all_after steps r).held)
all_in_order [] r = append-nil r.held
all_in_order (step ∷ steps) r =
    sym (append_assoc r.held (fed_in step) (fed steps))
    ∙ ap (λ bytes. bytes ++ fed steps) (step_order step r)
    ∙ append_assoc (gone_in step r) (let_go_in step r ++ (after step r).held) (fed steps)
    ∙ ap (λ bytes. gone_in step r ++ bytes)
    (append_assoc (let_go_in step r) (after step r).held (fed steps)
    ∙ ap (λ bytes. let_go_in step r ++ bytes) (all_in_order steps (after step r)))
    ∙ in_order_then (gone_in step r) (let_go_in step r) (gone steps (after step r)) (let_go steps (after step r)) (all_after (step ∷ steps) r).held
    (behind step steps r)

-- one that didn't fail let nothing go
pub none_let_go : (steps : List ReaderStep) (r : Reading) → (all_after steps r).failed ≡ None → let_go steps r ≡ []
none_let_go [] r none = refl
none_let_go (Fails fault ∷ steps) r none =
    absurd (false≢true (sym (ap is_some none) ∙ stays_failed steps (after (Fails fault) r) refl))
none_let_go (Feeds piece ∷ steps) r none = none_let_go steps (after (Feeds piece) r) none
none_let_go (FeedsEnd ∷ steps) r none = none_let_go steps (after FeedsEnd r) none
none_let_go (Resumes ∷ steps) r none = none_let_go steps (after Resumes r) none
none_let_go (Takes op ∷ steps) r none = none_let_go steps (after (Takes op) r) none

-- ---- cuts
absorbed : (p a b : Bool) → (a ≡ true → b ≡ true) → p || a || b ≡ p || b
absorbed true a b follows = refl
absorbed false false b follows = refl
absorbed false true b follows = sym (follows refl)

over_still : (most few many : ℕ) → few ≤ many → ltb most few ≡ true → ltb most many ≡ true
over_still most few many within over = grind (arith, nat_tests)

pub two_cuts : (piece other : List ℕ) (r : Reading) → feed other (feed piece r) ≡ feed (piece ++ other) r
two_cuts piece other r =
    let same = append_assoc r.held piece other in
    let pauses =
    absorbed r.paused (ltb (2 * r.limit) (length (r.held ++ piece))) (ltb (2 * r.limit) (length (r.held ++ piece ++ other)))
    (over_still (2 * r.limit) (length (r.held ++ piece)) (length (r.held ++ piece ++ other)) (omega (arith, length-append (r.held ++ piece) other)))
    ∙ ap (λ bytes. r.paused || ltb (2 * r.limit) (length bytes)) same in
    λ i. record r { held = same i; paused = pauses i }

pub all_cuts : (pieces : List (List ℕ)) (piece : List ℕ) (r : Reading) → feed_all (piece ∷ pieces) r ≡ feed (piece ++ joined pieces) r
all_cuts [] piece r = ap (λ bytes. feed bytes r) (sym (append-nil piece))
all_cuts (other ∷ pieces) piece r =
    all_cuts pieces other (feed piece r) ∙ two_cuts piece (other ++ joined pieces) r
