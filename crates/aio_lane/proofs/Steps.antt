-- Each kind of step keeps the rule of a lane.
use Rattle.std.proofs.Common.{◌≡◌, ◌≢◌, ℕ, zero, suc, true, true≢false, List, [], ◌∷◌, ◌++◌, length, set, sym}
use Rattle.std.proofs.Common.{refl, ap, ◌∙◌, subst, ⊎_elim, append_assoc, length-append, arith, lit≤}
use mathlib.Core.Option.{some, some-ne-none}
use lib.ListN.{get_elem?}
use Rattle.crossbeam_queue.specs.Fifo.{Pushes, Pops, Forks, Merges, Learns}
use Rattle.crossbeam_queue.proofs.Lists.{at_set, at_snoc}
use Rattle.model_pump.specs.Commands.{Command}
use Rattle.aio_lane.specs.declared.track.Track.{Track}
use Rattle.aio_lane.specs.Delivers.{track, Fits, Delivers, nobody, of_head, of_tail, of_both, with_given, with_taken, with_full, EndsWith}

-- a pass that is only at the end of a longer row is the last
at_end : (l : List Track) (a b : Track) (j : ℕ) → get_elem? l j ≢ some b → get_elem? (l ++ a ∷ []) j ≡ some b → j ≡ length l
at_end [] a b zero n e = refl
at_end [] a b (suc j) n e = absurd (some-ne-none b (sym e))
at_end (x ∷ xs) a b zero n e = absurd (n e)
at_end (x ∷ xs) a b (suc j) n e = ap suc (at_end xs a b j n e)

abbrev Each : (ℕ → Track → Type 0) → List Track → Type 0
Each F views = (port : ℕ) (v : Track) → get_elem? views port ≡ some v → F port v

each_set : (F : ℕ → Track → Type 0) (views : List Track) (port : ℕ) (w : Track) → F port w
    → ((j : ℕ) (u : Track) → j ≢ port → get_elem? views j ≡ some u → F j u) → Each F (set views port w)
each_set F views port w mine others j u e = ⊎_elim
    (λ (x : (j ≡ port) × (w ≡ u)). subst (λ (y : ℕ × Track). F y.0 y.1) (λ i. (sym x.0 i, x.1 i)) mine)
    (λ (x : (j ≢ port) × (get_elem? views j ≡ some u)). others j u x.0 x.1) (at_set views port j w u e)

-- a pass that may do nothing fits any rule
idle : (head tail : ℕ) (given taken : List Command) (port : ℕ) → Fits head tail given taken port nobody
idle head tail given taken port = record { giving = λ p. absurd (true≢false (sym p)); taking = λ p. absurd (true≢false (sym p)) }

pub begins : Delivers [] (track true true [] [] 0 ∷ [])
begins =
    let both : Track = track true true [] [] 0 in
    record {
      head = 0;
      tail = 0;
      given = [];
      taken = [];
      line = refl;
      few = lit≤ tt;
      passes = each_set (Fits 0 0 [] []) (both ∷ []) 0 both (record { giving = λ _. (refl, refl); taking = λ _. (refl, refl) })
          (λ j u other e. absurd (other (at_end [] _ u j (λ x. some-ne-none u (sym x)) e)));
    }

pub gives : (n port : ℕ) (v : Track) (x : Command) → n ≡ 8 → v.gives ≡ true → Pushes Delivers n port v x (λ w. w ≡ with_given v x)
gives n port v x eight may items views room h at =
    let w : Track = with_given v x in
    let mine = h.passes port v at in
    let all = h.given ++ x ∷ [] in (
      w,
      record {
        head = h.head;
        tail = h.tail;
        given = all;
        taken = h.taken;
        line = ap (λ l. l ++ x ∷ []) h.line ∙ append_assoc h.taken items (x ∷ []);
        few = omega (arith, length-append items (x ∷ []));
        passes = each_set (Fits h.head h.tail all h.taken) views port w
            (record { giving = λ _. ((mine.giving may).0, ap (λ l. l ++ x ∷ []) (mine.giving may).1); taking = mine.taking })
            (λ j u other e. record {
              giving = λ p. absurd (other (((h.passes j u e).giving p).0 ∙ sym (mine.giving may).0));
              taking = (h.passes j u e).taking;
            });
      },
      refl,
    )

pub takes : (port : ℕ) (v : Track) → v.takes ≡ true → Pops Delivers port v (λ x w. w ≡ with_taken v x)
takes port v may x items views h at =
    let w : Track = with_taken v x in
    let mine = h.passes port v at in
    let all = h.taken ++ x ∷ [] in (
      w,
      record {
        head = h.head;
        tail = h.tail;
        given = h.given;
        taken = all;
        line = h.line ∙ sym (append_assoc h.taken (x ∷ []) items);
        few = let few = h.few in omega arith;
        passes = each_set (Fits h.head h.tail h.given all) views port w
            (record { giving = mine.giving; taking = λ _. ((mine.taking may).0, ap (λ l. l ++ x ∷ []) (mine.taking may).1) })
            (λ j u other e. record {
              giving = (h.passes j u e).giving;
              taking = λ p. absurd (other (((h.passes j u e).taking p).0 ∙ sym (mine.taking may).0));
            });
      },
      refl,
    )

pub forks : (port : ℕ) (v : Track) → v.gives ≡ true → v.takes ≡ true → Forks Delivers port v (of_head v) (of_tail v)
forks port v a b items views h at =
    let mine = h.passes port v at in
    let vs : List Track = set views port (of_head v) in
    let Old : ℕ → Track → Type 0 = λ j u. (u.gives ≡ true → (j ≡ h.head) × (u.given ≡ h.given)) × (u.takes ≢ true) in
    let old : Each Old vs = each_set Old views port (of_head v) ((λ _. mine.giving a), λ p. true≢false (sym p))
    (λ j u other e. ((h.passes j u e).giving, λ p. other (((h.passes j u e).taking p).0 ∙ sym (mine.taking b).0))) in
    record {
      head = h.head;
      tail = length vs;
      given = h.given;
      taken = h.taken;
      line = h.line;
      few = h.few;
      passes = λ j u e. ⊎_elim
          (λ x. record { giving = (old j u x).0; taking = λ p. absurd ((old j u x).1 p) })
          (λ (is : of_tail v ≡ u). record {
            giving = λ p. absurd (true≢false (sym (ap (λ (y : Track). y.gives) is ∙ p)));
            taking = λ p. (at_end vs (of_tail v) u j (λ x. (old j u x).1 p) e, ap (λ (y : Track). y.taken) (sym is) ∙ (mine.taking b).1);
          })
          (at_snoc vs (of_tail v) u j e);
    }

-- a pass that counts a full lane splits off one that may do nothing
pub counts : (port : ℕ) (v : Track) → Forks Delivers port v (with_full v) nobody
counts port v items views h at =
    let vs : List Track = set views port (with_full v) in
    let all : ℕ → Track → Type 0 = Fits h.head h.tail h.given h.taken in
    let mine : all port (with_full v) = record { giving = (h.passes port v at).giving; taking = (h.passes port v at).taking } in
    let old : Each all vs = each_set all views port (with_full v) mine (λ j u other e. h.passes j u e) in
    record {
      head = h.head;
      tail = h.tail;
      given = h.given;
      taken = h.taken;
      line = h.line;
      few = h.few;
      passes = λ j u e. ⊎_elim (λ x. old j u x)
          (λ (is : nobody ≡ u). subst (λ (y : Track). all j y) is (idle h.head h.tail h.given h.taken j)) (at_snoc vs nobody u j e);
    }

pub merges : (port : ℕ) (v : Track) (other : ℕ) (u : Track) → v.gives ≡ true → u.takes ≡ true
    → Merges Delivers port v other u (of_both v u) nobody
merges port v other u a b items views h at two at' =
    let mine = h.passes port v at in
    let vs : List Track = set views port (of_both v u) in
    let was : get_elem? views other ≡ some u =
    ⊎_elim (λ x. absurd (two x.0)) (λ x. x.1) (at_set views port other (of_both v u) u at') in
    let theirs = (h.passes other u was).taking b in
    let Now : ℕ → Track → Type 0 = λ j y. j ≢ other → Fits h.head port h.given h.taken j y in
    let now : Each Now vs = each_set Now views port (of_both v u)
    (λ _. record { giving = λ _. mine.giving a; taking = λ _. (refl, theirs.1) })
    (λ j y _ e apart. record {
      giving = (h.passes j y e).giving;
      taking = λ p. absurd (apart (((h.passes j y e).taking p).0 ∙ sym theirs.0));
    }) in
    record {
      head = h.head;
      tail = port;
      given = h.given;
      taken = h.taken;
      line = h.line;
      few = h.few;
      passes = each_set (Fits h.head port h.given h.taken) vs other nobody (idle h.head port h.given h.taken other)
          (λ j y apart e. now j y e apart);
    }

-- what stands in a lane is the last that was given
pub stands : (port : ℕ) (v : Track) → v.gives ≡ true → Learns Delivers port v (EndsWith v.given)
stands port v may items views h at = (h.taken, ((h.passes port v at).giving may).1 ∙ h.line)

pub settles : (port : ℕ) (v : Track) → v.gives ≡ true → v.takes ≡ true → Learns Delivers port v (λ items. v.given ≡ v.taken ++ items)
settles port v a b items views h at =
    let mine = h.passes port v at in (mine.giving a).1 ∙ h.line ∙ ap (λ l. l ++ items) (sym (mine.taking b).1)
