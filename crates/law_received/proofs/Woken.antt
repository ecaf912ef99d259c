-- As a select is answered, what waits is due.
use Rattle.std.proofs.Common.{◌≡◌, ℕ, suc, ◌+◌, ◌≤◌, Bool, true, false, List, [], ◌∷◌, ◌++◌, Option, refl, sym, ap, subst, ◌∙◌, length, le_refl, arith}
use Rattle.std.proofs.lemmas.Bool.{false≢true}
use Rattle.std.proofs.lemmas.List.{append-nil, append_assoc}
use Rattle.model_pump.specs.declared.stream.Stream.TheVariants as stream
use Rattle.model_value.specs.declared.action.Action.TheVariants as action
use Rattle.model_value.specs.Action.{Action}
use Rattle.model_wire.specs.Call.{Answer}
use Rattle.model_wire.specs.Fits.{fits}
use Rattle.model_loop.specs.Handles.{soon, soon_all}
use Rattle.model_loop.specs.Parts.{Handle, Parts}
use Rattle.model_stream.specs.Requests.{StreamReader, OfConn, OfChild}
use Rattle.model_stream.specs.Streams.{Streams}
use Rattle.model_machine.specs.Outside.{news_of, select, time_of, watched}
use Rattle.model_machine.specs.Turn.{at_time, woken_by}
use Rattle.law_changes.specs.Changes.{FallsDue, Passes}
use Rattle.law_stream.specs.Ways.{one_if}
use Rattle.law_received.specs.Readers.{is_news, is_news_to, may_hear}
use Rattle.law_received.specs.Waiting.{Appends, AreBelow, Entry, Follows, IsDue, NoneNews, OwnNoNews, entries_of, told_count, waiting}
use Rattle.law_received.proofs.Due.{below_both, below_later, due_after, entries_push, goes_on}
use Rattle.law_received.proofs.Select.{told_once}

-- ---- what waits
waiting_both : (from : StreamReader) (xs ys : List Entry) → waiting from (xs ++ ys) ≡ waiting from xs + waiting from ys
waiting_both from [] ys = omega arith
waiting_both from (x ∷ xs) ys = let rest = waiting_both from xs ys in omega (arith, rest)

news_is : (from : StreamReader) (it : Action) → is_news it ≡ false → is_news_to from it ≡ false
news_is (OfConn id) it none = refl
news_is (OfChild pipe id) (action.ChildItem child told) none = absurd (false≢true (sym none))
news_is (OfChild stream.Out id) _ none = refl
news_is (OfChild stream.Errs id) _ none = refl

waiting_none : (from : StreamReader) (xs : List Entry) → NoneNews xs → waiting from xs ≡ 0
waiting_none from [] none = refl
waiting_none from (x ∷ xs) none =
    let one : one_if (is_news_to from x.action) ≡ 0 = ap one_if (news_is from x.action none.0) in
    let rest = waiting_none from xs none.1 in
    omega (arith, one, rest)

-- callbacks that are appended, whatever they are
pub record Brings (actions : List Action) (p q : Parts) : Type 0 where
  pub own : OwnNoNews p → OwnNoNews q
  pub more : List Entry
  pub pending : entries_of q.pending ≡ entries_of p.pending ++ more
  pub below : AreBelow q.next_stamp more
  pub later : p.next_stamp ≤ q.next_stamp
  pub count : (from : StreamReader) → waiting from more ≡ told_count from actions

brings : (actions : List Action) (p : Parts) → Brings actions p (soon_all actions p)
brings [] p =
    record {
      own = λ own. own;
      more = [];
      pending = sym (append-nil (entries_of p.pending));
      below = tt;
      later = le_refl _;
      count = λ from. refl;
    }
brings (it ∷ actions) p =
    let rest = brings actions (soon it p) in
    let one : Entry = record { stamp = p.next_stamp; action = it } in
    let up : p.next_stamp + 1 ≤ (soon_all actions (soon it p)).next_stamp = rest.later in
    record {
      own = λ own. rest.own (record { callbacks = own.callbacks; timers = own.timers });
      more = one ∷ rest.more;
      pending = rest.pending
          ∙ ap (λ es. es ++ rest.more) (entries_push p.pending (record { stamp = p.next_stamp; tag = p.next_tag; action = it; dead = false }))
          ∙ append_assoc (entries_of p.pending) (one ∷ []) rest.more;
      below = (omega (arith, up), rest.below);
      later = omega (arith, up);
      count = λ from. let counted = rest.count from in omega (arith, counted);
    }

many_entries : (handles : List Handle) → length (entries_of handles) ≡ length handles
many_entries [] = refl
many_entries (x ∷ xs) = ap suc (many_entries xs)

no_first : (first : List Entry) → length first ≡ 0 → (from : StreamReader) → waiting from first ≡ 0
no_first [] none from = refl
no_first (x ∷ xs) none from = absurd (let many : suc (length xs) ≡ 0 = none in omega (arith, many))

pub woken_due : (s : Streams) (p : Parts) (time : Option ℕ) (extra : Bool) (came : Answer) → fits (select time (watched s extra)) came ≡ true
    → IsDue 0 0 s p → IsDue (woken_by came p).next_stamp (length (woken_by came p).pending) s (woken_by came p)
woken_due s p time extra came fit rests =
    record {
      own = last.own (mid.own timed.own);
      first = entries_of (woken_by came p).pending;
      since = [];
      pending = sym (append-nil (entries_of (woken_by came p).pending));
      many = many_entries (woken_by came p).pending;
      before = stamps;
      after = tt;
      stamps = subst (AreBelow (woken_by came p).next_stamp) (sym (append-nil (entries_of (woken_by came p).pending))) stamps;
      once = once;
    }
  where
    timed : IsDue 0 0 s (at_time (time_of came) p)
    timed = due_after 0 0 s p (at_time (time_of came) p) (goes_on.change (Passes (time_of came)) p tt) rests

    mid : Brings (news_of came) (at_time (time_of came) p) (soon_all (news_of came) (at_time (time_of came) p))
    mid = brings (news_of came) (at_time (time_of came) p)

    last : Follows (soon_all (news_of came) (at_time (time_of came) p)) (woken_by came p)
    last = goes_on.change FallsDue (soon_all (news_of came) (at_time (time_of came) p)) tt

    dues : Appends (soon_all (news_of came) (at_time (time_of came) p)) (woken_by came p)
    dues = last.appends (mid.own timed.own)

    whole : entries_of (woken_by came p).pending ≡ ((timed.first ++ timed.since) ++ mid.more) ++ dues.more
    whole = dues.pending ∙ ap (λ es. es ++ dues.more) (mid.pending ∙ ap (λ es. es ++ mid.more) timed.pending)

    stamps : AreBelow (woken_by came p).next_stamp (entries_of (woken_by came p).pending)
    stamps =
        let n1 = (at_time (time_of came) p).next_stamp in
        let n2 = (soon_all (news_of came) (at_time (time_of came) p)).next_stamp in
        let n3 = (woken_by came p).next_stamp in
        subst (AreBelow n3) (sym whole)
        (below_both n3 ((timed.first ++ timed.since) ++ mid.more) dues.more
        (below_later n2 n3 ((timed.first ++ timed.since) ++ mid.more) dues.later
        (below_both n2 (timed.first ++ timed.since) mid.more (below_later n1 n2 (timed.first ++ timed.since) mid.later timed.stamps) mid.below))
        dues.below)

    once : (from : StreamReader) → waiting from (entries_of (woken_by came p).pending) ≤ one_if (may_hear from s)
    once from =
        let all = ap (waiting from) whole in
        let a = waiting_both from ((timed.first ++ timed.since) ++ mid.more) dues.more in
        let b = waiting_both from (timed.first ++ timed.since) mid.more in
        let c = waiting_both from timed.first timed.since in
        let d = no_first timed.first timed.many from in
        let e = waiting_none from timed.since timed.after in
        let f = mid.count from in
        let g = waiting_none from dues.more dues.none in
        let h = told_once s time extra came fit from in
        omega (arith, all, a, b, c, d, e, f, g, h)
