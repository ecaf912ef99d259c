-- One pass over the children that run is the taking in of each child.
use Rattle.std.proofs.Common.{◌≡◌, ℕ, ◌+◌, ◌<◌, ◌≤◌, ◌==◌, Bool, true, false, cond, ◌&&◌, List, [], ◌∷◌, ◌++◌, Option, Some, length}
use Rattle.std.proofs.Common.{map, refl, sym, ap, ◌∙◌, subst, append-nil, append_assoc, length-append, eq-eqb, arith}
use Rattle.std.specs.Prelude.{slice_get, slice_set}
use Rattle.std.specs.List.{flat_map}
use Rattle.std.proofs.lemmas.List.{map-append}
use Rattle.std.proofs.lemmas.Grind.{flat_map-append}
use Rattle.std.proofs.lemmas.Bool.Decides.{nat_tests}
use Rattle.model_pump.specs.Posts.{Post}
use Rattle.model_hub.specs.declared.child.Child.{Child}
use Rattle.model_hub.specs.declared.child.Seats.{Seats}
use Rattle.model_hub.specs.declared.child.Stay.TheVariants.{Holding, Gone}
use Rattle.model_hub.specs.Children.{runs, is_over}
use Rattle.model_hub.specs.Others.{Back}
use Rattle.model_hub.specs.Select.{is_taken_in, are_home, after_report, seats_back}
use Rattle.aio_lanes.specs.declared.child_lanes.ChildLanes.{ChildLanes}
use Rattle.aio_roster.specs.Rosters.{Numbered, running_of}
use Rattle.aio_roster.proofs.Seated.{some_is}
use Rattle.aio_roster.proofs.Running.{Found, find, running_cons, running_append, get_middle, set_middle, get_after}
use Rattle.aio_roster.proofs.Running.{nothing_left, numbered_front, none_less, Below, below}
use Rattle.aio_intake.specs.Taken.{hub_at, TakesOne, TakesNone, TakesKth, TakesIn}

-- ---- what one child reported, beside what others did
abbrev Reports : Type 0
Reports = ℕ → List Back

abbrev with_backs : ℕ → List Back → Reports → Reports
with_backs k backs reports n = cond (n == k) backs (reports n)

here : (k : ℕ) (backs : List Back) (reports : Reports) → with_backs k backs reports k ≡ backs
here k backs reports = ap (λ b. cond b backs (reports k)) (eq-eqb k k refl)

not_same : (n k : ℕ) → n < k → (n == k) ≡ false
not_same n k below = grind (arith, nat_tests)

there : (k : ℕ) (backs : List Back) (reports : Reports) (n : ℕ) → n < k → with_backs k backs reports n ≡ reports n
there k backs reports n below = ap (λ b. cond b backs (reports n)) (not_same n k below)

module _ (taken : List Post) where
  abbrev after : Reports → Child → Child
  after reports child = after_report (hub_at taken) reports child

  abbrev back : Reports → Child → List Seats
  back reports child = seats_back (hub_at taken) reports child

  after_alike : (r s : Reports) (child : Child) → r child.number ≡ s child.number → after r child ≡ after s child
  after_alike r s child is =
      ap (λ backs. cond (is_taken_in child) (record child { stay = cond (are_home (hub_at taken) backs child.seats) Gone Holding }) child) is

  back_alike : (r s : Reports) (child : Child) → r child.number ≡ s child.number → back r child ≡ back s child
  back_alike r s child is =
      ap (λ backs. cond (is_taken_in child && are_home (hub_at taken) backs child.seats) (child.seats ∷ []) []) is

  after_none : (r : Reports) (child : Child) → is_taken_in child ≡ false → after r child ≡ child
  after_none r child none =
      ap (λ b. cond b (record child { stay = cond (are_home (hub_at taken) (r child.number) child.seats) Gone Holding }) child) none

  back_none : (r : Reports) (child : Child) → is_taken_in child ≡ false → back r child ≡ []
  back_none r child none = ap (λ b. cond (b && are_home (hub_at taken) (r child.number) child.seats) (child.seats ∷ []) []) none

  after_one : (r : Reports) (child : Child) → is_taken_in child ≡ true
      → after r child ≡ record child { stay = cond (are_home (hub_at taken) (r child.number) child.seats) Gone Holding }
  after_one r child is =
      ap (λ b. cond b (record child { stay = cond (are_home (hub_at taken) (r child.number) child.seats) Gone Holding }) child) is

  back_one : (r : Reports) (child : Child) → is_taken_in child ≡ true
      → back r child ≡ cond (are_home (hub_at taken) (r child.number) child.seats) (child.seats ∷ []) []
  back_one r child is = ap (λ b. cond (b && are_home (hub_at taken) (r child.number) child.seats) (child.seats ∷ []) []) is

  not_running : (child : Child) → runs child.stay ≡ false → is_taken_in child ≡ false
  not_running child stays = ap (λ b. b && is_over child) stays

  none_over : (child : Child) → is_over child ≡ false → is_taken_in child ≡ false
  none_over child over = both (runs child.stay) (is_over child) over
    where
      both : (a b : Bool) → b ≡ false → (a && b) ≡ false
      both true b h = h
      both false b h = refl

  is_one : (child : Child) → runs child.stay ≡ true → is_over child ≡ true → is_taken_in child ≡ true
  is_one child goes over = ap (λ b. b && is_over child) goes ∙ over

  module _ (k : ℕ) (backs : List Back) (reports : Reports) where
    map_there : (cs : List Child) → Below k cs → map (after (with_backs k backs reports)) cs ≡ map (after reports) cs
    map_there [] low = refl
    map_there (c ∷ cs) low =
        ap (λ (x : Child). x ∷ map (after (with_backs k backs reports)) cs)
        (after_alike (with_backs k backs reports) reports c (there k backs reports c.number low.0))
        ∙ ap (λ (l : List Child). after reports c ∷ l) (map_there cs low.1)

    back_there : (cs : List Child) → Below k cs → flat_map (back (with_backs k backs reports)) cs ≡ flat_map (back reports) cs
    back_there [] low = refl
    back_there (c ∷ cs) low =
        ap (λ (l : List Seats). l ++ flat_map (back (with_backs k backs reports)) cs)
        (back_alike (with_backs k backs reports) reports c (there k backs reports c.number low.0))
        ∙ ap (λ (l : List Seats). back reports c ++ l) (back_there cs low.1)

  -- those that don't run are left alone
  which : (c : Child) (cs : List Child) (b : Bool) → runs c.stay ≡ b → cond b (c.number ∷ running_of cs) (running_of cs) ≡ []
      → (runs c.stay ≡ false) × (running_of cs ≡ [])
  which c cs true is h = absurd (cc)
  which c cs false is h = (is, h)

  stays : (c : Child) (cs : List Child) → running_of (c ∷ cs) ≡ [] → (runs c.stay ≡ false) × (running_of cs ≡ [])
  stays c cs none = which c cs (runs c.stay) refl (sym (running_cons c cs (runs c.stay) refl) ∙ none)

  map_rest : (r : Reports) (cs : List Child) → running_of cs ≡ [] → map (after r) cs ≡ cs
  map_rest r [] none = refl
  map_rest r (c ∷ cs) none =
      let is = stays c cs none in
      ap (λ (x : Child). x ∷ map (after r) cs) (after_none r c (not_running c is.0)) ∙ ap (λ (l : List Child). c ∷ l) (map_rest r cs is.1)

  back_rest : (r : Reports) (cs : List Child) → running_of cs ≡ [] → flat_map (back r) cs ≡ []
  back_rest r [] none = refl
  back_rest r (c ∷ cs) none =
      let is = stays c cs none in
      ap (λ (l : List Seats). l ++ flat_map (back r) cs) (back_none r c (not_running c is.0)) ∙ back_rest r cs is.1

  -- ---- after n of those that run, of which k run on
  pub record Going (n k : ℕ) (children now : List Child) (free free_now : List Seats) : Type 0 where
    pub before : List Child
    pub passed : List Child
    pub rest : List Child
    pub reports : Reports
    pub whole : children ≡ before ++ rest
    pub is_now : now ≡ passed ++ rest
    pub same : length passed ≡ length before
    pub reached : length (running_of passed) ≡ k
    pub ahead : length (running_of rest) + n ≡ length (running_of children)
    pub is_passed : passed ≡ map (after reports) before
    pub is_free : free_now ≡ free ++ flat_map (back reports) before

  pub none_yet : (children : List Child) (free : List Seats) → Going 0 0 children children free free
  none_yet children free =
      record {
        before = [];
        passed = [];
        rest = children;
        reports = λ n. [];
        whole = refl;
        is_now = refl;
        same = refl;
        reached = refl;
        ahead = omega arith;
        is_passed = refl;
        is_free = sym (append-nil free);
      }

  module _ (n k : ℕ) (children now : List Child) (free free_now : List Seats) (going : Going n k children now free free_now) where
    -- how many run now
    pub all_now : length (running_of now) ≡ k + length (running_of going.rest)
    all_now =
        ap (λ (l : List Child). length (running_of l)) going.is_now
        ∙ ap length (running_append going.passed going.rest)
        ∙ length-append (running_of going.passed) (running_of going.rest)
        ∙ ap (λ m. m + length (running_of going.rest)) going.reached

    pub some_left : n < length (running_of children) → k < length (running_of now)
    some_left few = omega (arith, all_now, going.ahead, few)

    module _ (numbered : Numbered children) (number : ℕ) (child : Child) (named : slice_get (running_of now) k ≡ Some number)
        (at : slice_get now number ≡ Some child) where
      first : slice_get (running_of going.rest) 0 ≡ Some number
      first =
          sym (get_after (running_of going.passed) (running_of going.rest))
          ∙ ap (λ l. slice_get l (length (running_of going.passed))) (sym (running_append going.passed going.rest))
          ∙ ap (λ m. slice_get (running_of (going.passed ++ going.rest)) m) going.reached
          ∙ ap (λ (l : List Child). slice_get (running_of l) k) (sym going.is_now) ∙ named

      abbrev found : Found going.rest 0 number
      found = find going.rest 0 number first

      none_runs : running_of found.before ≡ []
      none_runs = nothing_left (running_of found.before) found.earlier

      old_whole : children ≡ (going.before ++ found.before) ++ found.child ∷ found.after
      old_whole =
          going.whole ∙ ap (λ (l : List Child). going.before ++ l) found.whole
          ∙ sym (append_assoc going.before found.before (found.child ∷ found.after))

      now_whole : now ≡ (going.passed ++ found.before) ++ found.child ∷ found.after
      now_whole =
          going.is_now ∙ ap (λ (l : List Child). going.passed ++ l) found.whole
          ∙ sym (append_assoc going.passed found.before (found.child ∷ found.after))

      number_is : found.child.number ≡ length (going.before ++ found.before)
      number_is =
          numbered (length (going.before ++ found.before)) found.child
          (ap (λ (l : List Child). slice_get l (length (going.before ++ found.before))) old_whole
          ∙ get_middle (going.before ++ found.before) found.child found.after)

      place : number ≡ length (going.passed ++ found.before)
      place =
          sym found.number ∙ number_is ∙ length-append going.before found.before
          ∙ ap (λ m. m + length found.before) (sym going.same) ∙ sym (length-append going.passed found.before)

      is_found : child ≡ found.child
      is_found =
          some_is child found.child
          (sym at ∙ ap (λ (l : List Child). slice_get l number) now_whole
          ∙ ap (λ m. slice_get ((going.passed ++ found.before) ++ found.child ∷ found.after) m) place
          ∙ get_middle (going.passed ++ found.before) found.child found.after)

      set_now : (result : Child) → slice_set now number result ≡ (going.passed ++ found.before) ++ result ∷ found.after
      set_now result =
          ap (λ (l : List Child). slice_set l number result) now_whole
          ∙ ap (λ m. slice_set ((going.passed ++ found.before) ++ found.child ∷ found.after) m result) place
          ∙ set_middle (going.passed ++ found.before) found.child found.after result

      low : Below found.child.number (going.before ++ found.before)
      low =
          below (going.before ++ found.before) 0 found.child.number
          (λ m c h. numbered_front (going.before ++ found.before) (found.child ∷ found.after)
          (λ i d g. numbered i d (ap (λ (l : List Child). slice_get l i) old_whole ∙ g)) m c h ∙ none_less m)
          (omega (arith, number_is))

      rest_runs : running_of going.rest ≡ found.child.number ∷ running_of found.after
      rest_runs =
          ap running_of found.whole ∙ running_append found.before (found.child ∷ found.after)
          ∙ ap (λ (l : List ℕ). l ++ running_of (found.child ∷ found.after)) none_runs
          ∙ running_cons found.child found.after true found.goes

      module _ (backs : List Back) (result : Child) (next : List Child) (free_next : List Seats) (k_next : ℕ)
          (next_is : next ≡ (going.passed ++ found.before) ++ result ∷ found.after)
          (is_result : result ≡ after (λ m. backs) found.child)
          (is_free : free_next ≡ free_now ++ back (λ m. backs) found.child)
          (reached_next : k + length (running_of (result ∷ [])) ≡ k_next) where
        abbrev reports : Reports
        reports = with_backs found.child.number backs going.reports

        front_is : going.passed ++ found.before ≡ map (after reports) (going.before ++ found.before)
        front_is =
            ap (λ (l : List Child). l ++ found.before) going.is_passed
            ∙ ap (λ (l : List Child). map (after going.reports) going.before ++ l) (sym (map_rest going.reports found.before none_runs))
            ∙ sym (map-append (after going.reports) going.before found.before)
            ∙ sym (map_there found.child.number backs going.reports (going.before ++ found.before) low)

        back_front : flat_map (back going.reports) going.before ≡ flat_map (back reports) (going.before ++ found.before)
        back_front =
            sym (append-nil (flat_map (back going.reports) going.before))
            ∙ ap (λ (l : List Seats). flat_map (back going.reports) going.before ++ l) (sym (back_rest going.reports found.before none_runs))
            ∙ sym (flat_map-append (back going.reports) going.before found.before)
            ∙ sym (back_there found.child.number backs going.reports (going.before ++ found.before) low)

        result_is : result ≡ after reports found.child
        result_is = is_result ∙ after_alike (λ m. backs) reports found.child (sym (here found.child.number backs going.reports))

        back_is : back (λ m. backs) found.child ≡ flat_map (back reports) (found.child ∷ [])
        back_is =
            back_alike (λ m. backs) reports found.child (sym (here found.child.number backs going.reports))
            ∙ sym (append-nil (back reports found.child))

        counted : length (running_of ((going.passed ++ found.before) ++ result ∷ [])) ≡ k_next
        counted =
            ap length (running_append (going.passed ++ found.before) (result ∷ []))
            ∙ length-append (running_of (going.passed ++ found.before)) (running_of (result ∷ []))
            ∙ ap (λ (l : List ℕ). length l + length (running_of (result ∷ [])))
            (running_append going.passed found.before ∙ ap (λ (l : List ℕ). running_of going.passed ++ l) none_runs
            ∙ append-nil (running_of going.passed))
            ∙ ap (λ m. m + length (running_of (result ∷ []))) going.reached ∙ reached_next

        step : Going (n + 1) k_next children next free free_next
        step =
            record {
              before = (going.before ++ found.before) ++ found.child ∷ [];
              passed = (going.passed ++ found.before) ++ result ∷ [];
              rest = found.after;
              reports = reports;
              whole = old_whole ∙ sym (append_assoc (going.before ++ found.before) (found.child ∷ []) found.after);
              is_now = next_is ∙ sym (append_assoc (going.passed ++ found.before) (result ∷ []) found.after);
              same =
                  length-append (going.passed ++ found.before) (result ∷ [])
                  ∙ ap (λ m. m + 1) (sym place ∙ sym found.number ∙ number_is)
                  ∙ sym (length-append (going.before ++ found.before) (found.child ∷ []));
              reached = counted;
              ahead = omega (arith, going.ahead, ap length rest_runs);
              is_passed =
                  ap (λ (l : List Child). l ++ result ∷ []) front_is
                  ∙ ap (λ (c : Child). map (after reports) (going.before ++ found.before) ++ c ∷ []) result_is
                  ∙ sym (map-append (after reports) (going.before ++ found.before) (found.child ∷ []));
              is_free =
                  is_free
                  ∙ ap (λ (l : List Seats). l ++ back (λ m. backs) found.child) going.is_free
                  ∙ append_assoc free (flat_map (back going.reports) going.before) (back (λ m. backs) found.child)
                  ∙ ap (λ (l : List Seats). free ++ l)
                  (ap (λ (l : List Seats). l ++ back (λ m. backs) found.child) back_front
                  ∙ ap (λ (l : List Seats). flat_map (back reports) (going.before ++ found.before) ++ l) back_is
                  ∙ sym (flat_map-append (back reports) (going.before ++ found.before) (found.child ∷ [])));
            }

  -- ---- the next of those that run
  left_none : (child : Child) (b : Bool) → running_of (record child { stay = cond b Gone Holding } ∷ []) ≡ []
  left_none child true = refl
  left_none child false = refl

  none_more : (k : ℕ) (l : List ℕ) → l ≡ [] → k + length l ≡ k
  none_more k l none = omega (arith, ap length none)

  one_more : (k m : ℕ) (l : List ℕ) → l ≡ m ∷ [] → k + length l ≡ k + 1
  one_more k m l one = omega (arith, ap length one)

  module _ {Run : Type 0} (n k : ℕ) (children now next : List Child) (free free_now free_next : List Seats)
      (lanes lanes_next : List (Option (ChildLanes Run))) (going : Going n k children now free free_now) (numbered : Numbered children) where
    pub goes_on : TakesOne taken k now next free_now free_next lanes lanes_next → Going (n + 1) k children next free free_next
    goes_on one =
        let is_over = is_one one.child one.goes one.over in
        let result = record one.child { stay = cond (are_home (hub_at taken) one.backs one.child.seats) Gone Holding } in
        let same = is_found n k children now free free_now going numbered one.child.number one.child one.named one.at in
        step n k children now free free_now going numbered one.child.number one.child one.named one.at one.backs result next free_next k
        (one.now ∙ set_now n k children now free free_now going numbered one.child.number one.child one.named one.at result)
        (sym (after_one (λ m. one.backs) one.child is_over) ∙ ap (after (λ m. one.backs)) same)
        (one.back ∙ ap (λ (l : List Seats). free_now ++ l) (sym (back_one (λ m. one.backs) one.child is_over) ∙ ap (back (λ m. one.backs)) same))
        (none_more k (running_of (result ∷ [])) (left_none one.child (are_home (hub_at taken) one.backs one.child.seats)))

    pub goes_by : TakesNone k now next free_now free_next lanes lanes_next → Going (n + 1) (k + 1) children next free free_next
    goes_by none =
        let not_over = none_over none.child none.over in
        let same = is_found n k children now free free_now going numbered none.child.number none.child none.named none.at in
        let front = found n k children now free free_now going numbered none.child.number none.child none.named none.at in
        step n k children now free free_now going numbered none.child.number none.child none.named none.at [] none.child next free_next (k + 1)
        (none.same.0 ∙ now_whole n k children now free free_now going numbered none.child.number none.child none.named none.at
        ∙ ap (λ (c : Child). (going.passed ++ front.before) ++ c ∷ front.after) (sym same))
        (sym (after_none (λ m. []) none.child not_over) ∙ ap (after (λ m. [])) same)
        (none.same.1 ∙ sym (append-nil free_now)
        ∙ ap (λ (l : List Seats). free_now ++ l) (sym (back_none (λ m. []) none.child not_over) ∙ ap (back (λ m. [])) same))
        (one_more k none.child.number (running_of (none.child ∷ []))
        (running_cons none.child [] true (ap (λ (c : Child). runs c.stay) same ∙ front.goes)))

    pub goes_after : (gone : Bool) (k_next : ℕ) → TakesKth gone taken k now next free_now free_next lanes lanes_next
        → k_next ≡ cond gone k (k + 1) → Going (n + 1) k_next children next free free_next
    goes_after true k_next one is = subst (λ m. Going (n + 1) m children next free free_next) (sym is) (goes_on one)
    goes_after false k_next none is = subst (λ m. Going (n + 1) m children next free free_next) (sym is) (goes_by none)

  -- ---- all of them
  module _ (n k : ℕ) (children now : List Child) (free free_now : List Seats) (going : Going n k children now free free_now)
      (all : length (running_of children) ≤ n) where
    rest_none : running_of going.rest ≡ []
    rest_none = nothing_left (running_of going.rest) (omega (arith, going.ahead))

    children_are : now ≡ map (after going.reports) children
    children_are =
        going.is_now
        ∙ ap (λ (l : List Child). l ++ going.rest) going.is_passed
        ∙ ap (λ (l : List Child). map (after going.reports) going.before ++ l) (sym (map_rest going.reports going.rest rest_none))
        ∙ sym (map-append (after going.reports) going.before going.rest)
        ∙ ap (map (after going.reports)) (sym going.whole)

    free_are : free_now ≡ free ++ flat_map (back going.reports) children
    free_are =
        going.is_free
        ∙ ap (λ (l : List Seats). free ++ l)
        (sym (append-nil (flat_map (back going.reports) going.before))
        ∙ ap (λ (l : List Seats). flat_map (back going.reports) going.before ++ l) (sym (back_rest going.reports going.rest rest_none))
        ∙ sym (flat_map-append (back going.reports) going.before going.rest)
        ∙ ap (flat_map (back going.reports)) (sym going.whole))

    pub all_taken : TakesIn taken children now free free_now
    all_taken =
        record {
          reports = going.reports;
          is = λ hub.
              ap (λ (cs : List Child). record hub { children = cs; free = free ++ flat_map (back going.reports) children; taken = taken })
              (sym children_are)
              ∙ ap (λ (fs : List Seats). record hub { children = now; free = fs; taken = taken }) (sym free_are);
        }
