-- Each step keeps the rule.
use Rattle.std.proofs.Common.{◌≡◌, ◌≢◌, ℕ, suc, ◌+◌, ◌<◌, ◌≤◌, ◌^◌, List, [], ◌∷◌, ◌++◌, length, set}
use Rattle.std.proofs.Common.{Bool, cond, refl, sym, ap, ◌∙◌, subst, ⊎_elim, append_assoc, eq-eqb, ne_eqb, arith, length-append}
use Rattle.std.specs.Prelude.{◌==◌}
use Rattle.std.proofs.lemmas.List.Elements.{All-nil, All-push, All-weaker}
use mathlib.Core.Logic.{dite}
use mathlib.Core.Option.{Option, some, none, some-injective, some-ne-none}
use native.Mathlib.Decide.{ℕ_discrete}
use lib.ListN.{get_elem?}
use Rattle.crossbeam_queue.specs.Fifo.{Pushes, Pops, Forks, Merges, Learns}
use Rattle.crossbeam_queue.proofs.Lists.{at_set}
use Rattle.model_pump.specs.Posts.{Post, posts_of}
use Rattle.aio_inbox.specs.declared.view.PosterView.{PosterView}
use Rattle.aio_inbox.specs.declared.view.SettledSeat.{SettledSeat}
use Rattle.aio_inbox.specs.declared.view.TakerView.{TakerView}
use Rattle.aio_inbox.specs.declared.view.InboxView.{InboxView}
use Rattle.aio_inbox.specs.declared.view.InboxView.TheVariants.{Posts, Takes, Nobody}
use Rattle.aio_inbox.specs.Numbers.{IsNumbered}
use Rattle.aio_inbox.specs.Accounts.{Begins}
use Rattle.aio_inbox.specs.Views.{new_poster, with_post, with_taken, with_none, with_seat, with_settled, settled_by, first_view}
use Rattle.aio_inbox.specs.Delivers.{Past, IsOrderly, FitsPoster, FitsSettled, FitsTaker, Fits, Delivers}
use Rattle.aio_inbox.specs.Steps.{Adds, Gets, HasRest, Awaits}
use Rattle.aio_inbox.proofs.Posts.{snoc_at, posts_both, posted_here, posted_else, numbered_more, next_number, more_than_before}
use Rattle.aio_inbox.proofs.Counting.{in_bound, made_of_post}

-- ---- what every pass knows, as one pass changes and one is made
abbrev Each : (ℕ → InboxView → Type 0) → List InboxView → Type 0
Each F views = (pass : ℕ) (v : InboxView) → get_elem? views pass ≡ some v → F pass v

each_set : (F : ℕ → InboxView → Type 0) (views : List InboxView) (pass : ℕ) (w : InboxView) → F pass w
    → ((j : ℕ) (u : InboxView) → j ≢ pass → get_elem? views j ≡ some u → F j u) → Each F (set views pass w)
each_set F views pass w mine others j u e =
    ⊎_elim
    (λ (x : (j ≡ pass) × (w ≡ u)). subst (λ (y : ℕ × InboxView). F y.0 y.1) (λ i. (sym x.0 i, x.1 i)) mine)
    (λ (x : (j ≢ pass) × (get_elem? views j ≡ some u)). others j u x.0 x.1)
    (at_set views pass j w u e)

each_snoc : (F : ℕ → InboxView → Type 0) (views : List InboxView) (w : InboxView) → Each F views → F (length views) w → Each F (views ++ w ∷ [])
each_snoc F views w old mine j u e =
    ⊎_elim
    (λ (h : get_elem? views j ≡ some u). old j u h)
    (λ (h : (j ≡ length views) × (w ≡ u)). subst (λ (y : ℕ × InboxView). F y.0 y.1) (λ i. (sym h.0 i, h.1 i)) mine)
    (snoc_at views w u j e)

-- what a pass knows fits what is so after a step, by cases
still_fits : (past after : Past) (taken now : List Post) (reader pass : ℕ)
    → ((v : PosterView) → FitsPoster past pass v → FitsPoster after pass v)
    → ((v : TakerView) → FitsTaker past taken reader pass v → FitsTaker after now reader pass v)
    → (u : InboxView) → Fits past taken reader pass u → Fits after now reader pass u
still_fits past after taken now reader pass poster taker (Posts v) f = poster v f
still_fits past after taken now reader pass poster taker (Takes v) f = taker v f
still_fits past after taken now reader pass poster taker Nobody f = tt

-- the same taker, where settled seats still fit
taker_fits : (past after : Past) (taken : List Post) (reader pass : ℕ) (v : TakerView) → after.seats ≡ past.seats
    → ((s : SettledSeat) → FitsSettled past s → FitsSettled after s) → FitsTaker past taken reader pass v → FitsTaker after taken reader pass v
taker_fits past after taken reader pass v same settled f =
    record {
      one = f.one;
      taken_is = f.taken_is;
      seats_are = f.seats_are ∙ sym same;
      settled = All-weaker (FitsSettled past) (FitsSettled after) settled v.settled f.settled;
    }

-- ---- the pass of one seat is another now
abbrev changed : (ℕ → Option ℕ) → ℕ → Option ℕ → ℕ → Option ℕ
changed pass_of seat pass k = cond (k == seat) pass (pass_of k)

changed_here : (pass_of : ℕ → Option ℕ) (seat : ℕ) (pass : Option ℕ) (k : ℕ) → k ≡ seat → changed pass_of seat pass k ≡ pass
changed_here pass_of seat pass k e = ap (λ (b : Bool). cond b pass (pass_of k)) (eq-eqb k seat e)

changed_else : (pass_of : ℕ → Option ℕ) (seat : ℕ) (pass : Option ℕ) (k : ℕ) → k ≢ seat → changed pass_of seat pass k ≡ pass_of k
changed_else pass_of seat pass k n = ap (λ (b : Bool). cond b pass (pass_of k)) (ne_eqb k seat n)

-- two passes that post have two seats
two_seats : (pass_of : ℕ → Option ℕ) (j k a b : ℕ) → j ≢ k → pass_of a ≡ some j → pass_of b ≡ some k → a ≢ b
two_seats pass_of j k a b n p q e = n (some-injective j k (sym p ∙ ap pass_of e ∙ q))

-- a seat that nobody posts on is not that of a pass that posts
not_idle : (pass_of : ℕ → Option ℕ) (j a b : ℕ) → pass_of a ≡ some j → pass_of b ≡ none → a ≢ b
not_idle pass_of j a b p q e = some-ne-none j (sym p ∙ ap pass_of e ∙ q)

-- ---- an empty queue
abbrev nothing : Past
nothing = record { all = []; seats = 0; pass_of = λ seat. none }

pub begins : Delivers [] (first_view ∷ [])
begins = record {
  past = nothing;
  taken = [];
  reader = 0;
  order = record {
    few = omega arith;
    short = λ seat. omega arith;
    numbered = λ seat i p e. absurd (some-ne-none p (sym e));
    unmade = λ seat out. refl;
  };
  cut = refl;
  few = omega arith;
  knows = each_snoc (Fits nothing [] 0) [] first_view (λ j u e. absurd (some-ne-none u (sym e)))
      (record { one = refl; taken_is = refl; seats_are = refl; settled = All-nil (FitsSettled nothing) });
}

-- ---- a post
abbrev after_post : Past → Post → Past
after_post past x = record { all = past.all ++ x ∷ []; seats = past.seats; pass_of = past.pass_of }

still_orderly : (past : Past) (pass : ℕ) (v : PosterView) (x : Post) → IsOrderly past → FitsPoster past pass v
    → x.seat ≡ v.seat → x.number ≡ length v.posted → length v.posted < 2 ^ 51 → IsOrderly (after_post past x)
still_orderly past pass v x order mine seat number room =
    let known : (k : ℕ) → x.seat ≡ k → length (posts_of k past.all) ≡ length v.posted =
    λ k e. ap (λ (s : ℕ). length (posts_of s past.all)) (sym e ∙ seat) ∙ ap length mine.posted in
    record {
      few = order.few;
      short = λ k. dite (ℕ_discrete x.seat k)
          (λ e. let here = ap length (posted_here k past.all x e) in
          let longer = length-append (posts_of k past.all) (x ∷ []) in
          let was = known k e in
          omega (arith, here, longer, was, room))
          (λ other. subst (λ (l : List Post). length l ≤ 2 ^ 51) (sym (posted_else k past.all x other)) (order.short k));
      numbered = λ k. dite (ℕ_discrete x.seat k)
          (λ e. subst (IsNumbered k) (sym (posted_here k past.all x e))
          (numbered_more k (posts_of k past.all) x (order.numbered k) e (number ∙ sym (known k e))))
          (λ other. subst (IsNumbered k) (sym (posted_else k past.all x other)) (order.numbered k));
      unmade = λ k out. posted_else k past.all x (λ e. let low : v.seat < past.seats = mine.made in absurd (omega arith)) ∙ order.unmade k out;
    }

pub posts : (n pass : ℕ) (v : PosterView) (x : Post) → n ≡ 1024 → x.seat ≡ v.seat → x.number ≡ length v.posted → length v.posted < 2 ^ 51
    → Pushes Delivers n pass (Posts v) x (Adds (Posts v) x)
posts n pass v x full seat number room items views space h at =
    let w = Posts (with_post v x) in
    let mine : FitsPoster h.past pass v = h.knows pass (Posts v) at in
    let after = after_post h.past x in (
      w,
      record {
        past = after;
        taken = h.taken;
        reader = h.reader;
        order = still_orderly h.past pass v x h.order mine seat number room;
        cut = sym (append_assoc h.taken items (x ∷ [])) ∙ ap (λ l. l ++ x ∷ []) h.cut;
        few = omega (arith, length-append items (x ∷ []));
        knows = each_set (Fits after h.taken h.reader) views pass w
            (record { alone = mine.alone; made = mine.made; posted = posted_here v.seat h.past.all x seat ∙ ap (λ l. l ++ x ∷ []) mine.posted })
            (λ j u other e. still_fits h.past after h.taken h.taken h.reader j
            (λ p f. record {
              alone = f.alone;
              made = f.made;
              posted = posted_else p.seat h.past.all x
                  (λ same. two_seats h.past.pass_of j pass p.seat v.seat other f.alone mine.alone (sym same ∙ seat)) ∙ f.posted;
            })
            (λ t f. taker_fits h.past after h.taken h.reader j t refl
            (λ s g. record {
              idle = g.idle;
              made = g.made;
              posted = posted_else s.seat h.past.all x (λ same. not_idle h.past.pass_of pass v.seat s.seat mine.alone g.idle (sym seat ∙ same)) ∙ g.posted;
            })
            f)
            u (h.knows j u e));
      },
      refl,
    )

pub has_rest : (pass : ℕ) (v : PosterView) → Learns Delivers pass (Posts v) (HasRest (Posts v))
has_rest pass v items views h at =
    let mine : FitsPoster h.past pass v = h.knows pass (Posts v) at in
    record {
      taken = h.taken;
      posted = ap (posts_of v.seat) h.cut ∙ mine.posted;
      bound = subst (λ (l : List Post). length l ≤ 2 ^ 61) (sym h.cut) (in_bound h.past h.order);
    }

-- ---- a take
pub takes : (pass : ℕ) (v : TakerView) → Pops Delivers pass (Takes v) (Gets (Takes v))
takes pass v x items views h at =
    let w = Takes (with_taken v x) in
    let mine : FitsTaker h.past h.taken h.reader pass v = h.knows pass (Takes v) at in
    let now = h.taken ++ x ∷ [] in
    let taken_now : v.taken ++ x ∷ [] ≡ now = ap (λ l. l ++ x ∷ []) mine.taken_is in
    let cut : now ++ items ≡ h.past.all = append_assoc h.taken (x ∷ []) items ∙ h.cut in (
      w,
      record {
        past = h.past;
        taken = now;
        reader = h.reader;
        order = h.order;
        cut = cut;
        few = (let f : suc (length items) ≤ 1024 = h.few in omega arith);
        knows = each_set (Fits h.past now h.reader) views pass w
            (record { one = mine.one; taken_is = taken_now; seats_are = mine.seats_are; settled = mine.settled })
            (λ j u other e. still_fits h.past h.past h.taken now h.reader j
            (λ p f. f)
            (λ t f. absurd (other (f.one ∙ sym mine.one)))
            u (h.knows j u e));
      },
      (
        refl,
        (let number : x.number ≡ length (posts_of x.seat h.taken) =
            next_number x h.taken items (subst (λ l. IsNumbered x.seat (posts_of x.seat l)) (sym h.cut) (h.order.numbered x.seat)) in
            record {
              number = number ∙ ap (λ l. length (posts_of x.seat l)) (sym mine.taken_is);
              made = subst (λ (n : ℕ). x.seat < n) (sym mine.seats_are)
                  (made_of_post h.past.seats x h.taken items (λ seat out. ap (posts_of seat) h.cut ∙ h.order.unmade seat out));
              short = (let before = more_than_before x h.taken items in
                  let all = ap (λ l. length (posts_of x.seat l)) h.cut in
                  let short = h.order.short x.seat in
                  omega (arith, number, before, all, short));
              bound = (let bound = in_bound h.past h.order in
                  let all = ap length cut in
                  let parts = length-append now items in
                  let same = ap length taken_now in
                  omega (arith, bound, all, parts, same));
              begins = All-weaker (FitsSettled h.past) (Begins (with_taken v x))
                  (λ s g. (
                    posts_of s.seat items,
                    sym (posts_both s.seat (v.taken ++ x ∷ []) items) ∙ ap (λ l. posts_of s.seat (l ++ items)) taken_now ∙ ap (posts_of s.seat) cut ∙ g.posted,
                  ))
                  v.settled mine.settled;
            }),
      ),
    )

pub awaits : (pass : ℕ) (v : TakerView) → Learns Delivers pass (Takes v) (Awaits (Takes v))
awaits pass v items views h at =
    let mine : FitsTaker h.past h.taken h.reader pass v = h.knows pass (Takes v) at in
    let cut : v.taken ++ items ≡ h.past.all = ap (λ l. l ++ items) mine.taken_is ∙ h.cut in
    record {
      rest = All-weaker (FitsSettled h.past) (λ s. posts_of s.seat (v.taken ++ items) ≡ s.posted)
          (λ s g. ap (posts_of s.seat) cut ∙ g.posted) v.settled mine.settled;
      bound = subst (λ (l : List Post). length l ≤ 2 ^ 61) (sym cut) (in_bound h.past h.order);
    }

-- ---- a seat
pub seats : (pass : ℕ) (v : TakerView) → v.seats < 1024 → Forks Delivers pass (Takes v) (Takes (with_seat v)) (Posts (new_poster v.seats))
seats pass v few items views h at =
    let mine : FitsTaker h.past h.taken h.reader pass v = h.knows pass (Takes v) at in
    let own : InboxView = Posts (new_poster v.seats) in
    let longer = set views pass (Takes (with_seat v)) in
    let pass_of = changed h.past.pass_of h.past.seats (some (length longer)) in
    let after : Past = record { all = h.past.all; seats = h.past.seats + 1; pass_of = pass_of } in
    let same : v.seats ≡ h.past.seats = mine.seats_are in
    let kept : (seat : ℕ) (p : Option ℕ) → seat < h.past.seats → h.past.pass_of seat ≡ p → pass_of seat ≡ p =
    λ seat p low is. changed_else h.past.pass_of h.past.seats (some (length longer)) seat (λ e. absurd (omega arith)) ∙ is in
    record {
      past = after;
      taken = h.taken;
      reader = h.reader;
      order = record {
        few = omega arith;
        short = h.order.short;
        numbered = h.order.numbered;
        unmade = λ seat out. h.order.unmade seat (omega arith);
      };
      cut = h.cut;
      few = h.few;
      knows = each_snoc (Fits after h.taken h.reader) longer own
          (each_set (Fits after h.taken h.reader) views pass (Takes (with_seat v))
          (record {
            one = mine.one;
            taken_is = mine.taken_is;
            seats_are = ap (λ (n : ℕ). n + 1) same;
            settled = All-weaker (FitsSettled h.past) (FitsSettled after)
                (λ s g. record {
                  idle = kept s.seat none g.made g.idle;
                  made = (let low = g.made in omega (arith, low));
                  posted = g.posted;
                }) v.settled mine.settled;
          })
          (λ j u other e. still_fits h.past after h.taken h.taken h.reader j
          (λ p f. record { alone = kept p.seat (some j) f.made f.alone; made = (let low = f.made in omega (arith, low)); posted = f.posted })
          (λ t f. absurd (other (f.one ∙ sym mine.one)))
          u (h.knows j u e)))
          (record {
            alone = changed_here h.past.pass_of h.past.seats (some (length longer)) v.seats same;
            made = omega arith;
            posted = h.order.unmade v.seats (omega arith);
          });
    }

-- ---- a take that found nothing
pub counts : (pass : ℕ) (v : TakerView) → Forks Delivers pass (Takes v) (Takes (with_none v)) Nobody
counts pass v items views h at =
    let mine : FitsTaker h.past h.taken h.reader pass v = h.knows pass (Takes v) at in
    record {
      past = h.past;
      taken = h.taken;
      reader = h.reader;
      order = h.order;
      cut = h.cut;
      few = h.few;
      knows = each_snoc (Fits h.past h.taken h.reader) (set views pass (Takes (with_none v))) Nobody
          (each_set (Fits h.past h.taken h.reader) views pass (Takes (with_none v))
          (record { one = mine.one; taken_is = mine.taken_is; seats_are = mine.seats_are; settled = mine.settled })
          (λ j u other e. h.knows j u e))
          tt;
    }

-- ---- a poster that is settled
pub settles : (pass : ℕ) (v : TakerView) (other : ℕ) (p : PosterView)
    → Merges Delivers pass (Takes v) other (Posts p) (Takes (with_settled v p)) Nobody
settles pass v other p items views h at two at_other =
    let both : InboxView = Takes (with_settled v p) in
    let mine : FitsTaker h.past h.taken h.reader pass v = h.knows pass (Takes v) at in
    let was : get_elem? views other ≡ some (Posts p) =
    ⊎_elim
    (λ (t : (other ≡ pass) × (both ≡ Posts p)). absurd (two t.0))
    (λ (t : (other ≢ pass) × (get_elem? views other ≡ some (Posts p))). t.1)
    (at_set views pass other both (Posts p) at_other) in
    let theirs : FitsPoster h.past other p = h.knows other (Posts p) was in
    let pass_of = changed h.past.pass_of p.seat none in
    let after : Past = record { all = h.past.all; seats = h.past.seats; pass_of = pass_of } in
    let F : ℕ → InboxView → Type 0 = Fits after h.taken h.reader in
    let idle : (s : SettledSeat) → FitsSettled h.past s → FitsSettled after s =
    λ s g. record {
      idle = changed_else h.past.pass_of p.seat none s.seat (λ same. not_idle h.past.pass_of other p.seat s.seat theirs.alone g.idle (sym same)) ∙ g.idle;
      made = g.made;
      posted = g.posted;
    } in
    record {
      past = after;
      taken = h.taken;
      reader = h.reader;
      order = record { few = h.order.few; short = h.order.short; numbered = h.order.numbered; unmade = h.order.unmade };
      cut = h.cut;
      few = h.few;
      knows = each_set F (set views pass both) other Nobody tt
          (λ j y away e. each_set (λ i z. i ≢ other → F i z) views pass both
          (λ _. record {
            one = mine.one;
            taken_is = mine.taken_is;
            seats_are = mine.seats_are;
            settled = All-push (FitsSettled after) v.settled (settled_by v p)
                (All-weaker (FitsSettled h.past) (FitsSettled after) idle v.settled mine.settled)
                (record { idle = changed_here h.past.pass_of p.seat none p.seat refl; made = theirs.made; posted = theirs.posted });
          })
          (λ i z apart e' away'. still_fits h.past after h.taken h.taken h.reader i
          (λ q f. record {
            alone = changed_else h.past.pass_of p.seat none q.seat (two_seats h.past.pass_of i other q.seat p.seat away' f.alone theirs.alone) ∙ f.alone;
            made = f.made;
            posted = f.posted;
          })
          (λ t f. absurd (apart (f.one ∙ sym mine.one)))
          z (h.knows i z e'))
          j y e away);
    }
