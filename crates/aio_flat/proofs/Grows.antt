-- Bodies that grow step by step.
use Rattle.std.proofs.Common.{◌≡◌, ◌≢◌, ◌⊎◌, inl, inr, ℕ, zero, suc, ◌+◌, ◌<◌, ◌≤◌, List, [], ◌∷◌, ◌++◌, length, slice_get, slice_set, Some, None, refl, sym}
use Rattle.std.proofs.Common.{◌∙◌, ap, subst, arith, length-append}
use Rattle.std.proofs.lemmas.Bool.{cases_lt}
use Rattle.std.proofs.lemmas.List.{length-set}
use Rattle.std.proofs.lemmas.Option.{slice_get_within}
use Rattle.algorithm_flat.specs.declared.op.Op.TheVariants as op
use Rattle.algorithm_flat.specs.Ops.{Op, Range, CoroutineCode, Has, Covers}
use Rattle.algorithm_flat.specs.Nearer.{JumpsForward}
use Rattle.aio_flat.specs.Grows.{Grows, with_op, with_range, put_op, jump_of, GoesForward}

-- ---- lists
get-append : {A : Type 0} (xs ys : List A) (at : ℕ) → at < length xs → slice_get (xs ++ ys) at ≡ slice_get xs at
get-append [] ys at inside = absurd (omega arith)
get-append (x ∷ xs) ys zero inside = refl
get-append (x ∷ xs) ys (suc at) inside = get-append xs ys at (omega arith)

get-last : {A : Type 0} (xs : List A) (y : A) → slice_get (xs ++ y ∷ []) (length xs) ≡ Some y
get-last [] y = refl
get-last (x ∷ xs) y = get-last xs y

get-set_same : {A : Type 0} (xs : List A) (at : ℕ) (y : A) → at < length xs → slice_get (slice_set xs at y) at ≡ Some y
get-set_same [] at y inside = absurd (omega arith)
get-set_same (x ∷ xs) zero y inside = refl
get-set_same (x ∷ xs) (suc at) y inside = get-set_same xs at y (omega arith)

get-set_other : {A : Type 0} (xs : List A) (at other : ℕ) (y : A) → other ≢ at →
    slice_get (slice_set xs at y) other ≡ slice_get xs other
get-set_other [] at other y differ = refl
get-set_other (x ∷ xs) zero zero y differ = absurd (differ refl)
get-set_other (x ∷ xs) zero (suc other) y differ = refl
get-set_other (x ∷ xs) (suc at) zero y differ = refl
get-set_other (x ∷ xs) (suc at) (suc other) y differ = get-set_other xs at other y (λ same. differ (ap suc same))

pub length-push : {A : Type 0} (xs : List A) (y : A) → length (xs ++ y ∷ []) ≡ length xs + 1
length-push xs y = length-append xs (y ∷ [])

-- ---- jumps
jump-is : (operation : Op) (to : ℕ) → operation ≡ op.Jump to → jump_of operation ≡ Some to
jump-is operation to is = ap jump_of is

pub some-is : {A : Type 0} (a b : A) → Some a ≡ Some b → a ≡ b
some-is a b is = cc

forward-push : (body : CoroutineCode) (operation : Op) → jump_of operation ≡ None → JumpsForward body →
    JumpsForward (with_op operation body)
forward-push body operation none forward place to has = by_place (cases_lt place (length body.ops))
  where
    at_last : place ≡ length body.ops → place < to
    at_last is =
        let here : slice_get (body.ops ++ operation ∷ []) (length body.ops) ≡ Some (op.Jump to) =
        subst (λ n. slice_get (body.ops ++ operation ∷ []) n ≡ Some (op.Jump to)) is has in
        let jump : operation ≡ op.Jump to = some-is operation (op.Jump to) (sym (get-last body.ops operation) ∙ here) in
        let never : None ≡ Some to = sym none ∙ jump-is operation to jump in
        cc

    by_place : (place < length body.ops) ⊎ (length body.ops ≤ place) → place < to
    by_place (inl before) = forward place to (sym (get-append body.ops (operation ∷ []) place before) ∙ has)
    by_place (inr past) =
        let inside = slice_get_within (body.ops ++ operation ∷ []) place (op.Jump to) has in
        at_last (omega (arith, inside, length-push body.ops operation))

forward-put : (body : CoroutineCode) (at : ℕ) (operation : Op) → GoesForward at operation → JumpsForward body →
    JumpsForward (put_op at operation body)
forward-put body at operation goes forward place to has = by_place (cases_lt place at) (cases_lt at place)
  where
    elsewhere : place ≢ at → place < to
    elsewhere differ = forward place to (sym (get-set_other body.ops at place operation differ) ∙ has)

    here : place ≡ at → place < to
    here is =
        let inside = slice_get_within (slice_set body.ops at operation) place (op.Jump to) has in
        let within : at < length body.ops = omega (arith, inside, length-set body.ops at operation, is) in
        let same : slice_get (slice_set body.ops at operation) at ≡ Some (op.Jump to) =
        subst (λ n. slice_get (slice_set body.ops at operation) n ≡ Some (op.Jump to)) is has in
        let jump : operation ≡ op.Jump to =
        some-is operation (op.Jump to) (sym (get-set_same body.ops at operation within) ∙ same) in
        subst (λ n. n < to) (sym is) (goes to (jump-is operation to jump))

    by_place : (place < at) ⊎ (at ≤ place) → (at < place) ⊎ (place ≤ at) → place < to
    by_place (inl before) side = elsewhere (omega (arith, before))
    by_place (inr past) (inl after) = elsewhere (omega (arith, after))
    by_place (inr past) (inr before) = here (omega (arith, past, before))

-- ---- how bodies grow
module _ (old : CoroutineCode) where
  pub grows-none : Grows old old (λ code. Unit {0})
  grows-none = record {
    more_ops = omega arith;
    more_ranges = omega arith;
    kept_ops = λ place low high. refl;
    kept_ranges = λ place low high. refl;
    forward = λ forward. forward;
    facts = λ code has. tt;
  }

  pub grows-op : (operation : Op) → jump_of operation ≡ None →
      Grows old (with_op operation old) (λ code. Has code (length old.ops) operation)
  grows-op operation none = record {
    more_ops = omega (arith, length-push old.ops operation);
    more_ranges = omega arith;
    kept_ops = λ place low high. get-append old.ops (operation ∷ []) place high;
    kept_ranges = λ place low high. refl;
    forward = forward-push old operation none;
    facts = λ code has.
        has.ops (length old.ops) (omega arith) (omega (arith, length-push old.ops operation)) ∙ get-last old.ops operation;
  }

  pub grows-range : (range : Range) → Grows old (with_range range old) (λ code. Covers code (length old.ranges) range)
  grows-range range = record {
    more_ops = omega arith;
    more_ranges = omega (arith, length-append old.ranges (range ∷ []));
    kept_ops = λ place low high. refl;
    kept_ranges = λ place low high. get-append old.ranges (range ∷ []) place high;
    forward = λ forward. forward;
    facts = λ code has.
        has.ranges (length old.ranges) (omega arith) (omega (arith, length-append old.ranges (range ∷ [])))
        ∙ get-last old.ranges range;
  }

  module _ (new : CoroutineCode) where
    pub grows-so : (Facts Others : CoroutineCode → Type 0) → ((code : CoroutineCode) → Facts code → Others code) → Grows old new Facts →
        Grows old new Others
    grows-so Facts Others so grows = record {
      more_ops = grows.more_ops;
      more_ranges = grows.more_ranges;
      kept_ops = grows.kept_ops;
      kept_ranges = grows.kept_ranges;
      forward = grows.forward;
      facts = λ code has. so code (grows.facts code has);
    }

    pub grows-then : (last : CoroutineCode) (Facts Others : CoroutineCode → Type 0) → Grows old new Facts → Grows new last Others →
        Grows old last (λ code. Facts code × Others code)
    grows-then last Facts Others grows more = record {
      more_ops = omega (arith, grows.more_ops, more.more_ops);
      more_ranges = omega (arith, grows.more_ranges, more.more_ranges);
      kept_ops = λ place low high.
          more.kept_ops place low (omega (arith, high, grows.more_ops)) ∙ grows.kept_ops place low high;
      kept_ranges = λ place low high.
          more.kept_ranges place low (omega (arith, high, grows.more_ranges)) ∙ grows.kept_ranges place low high;
      forward = λ forward. more.forward (grows.forward forward);
      facts = λ code has. (
        grows.facts code (record {
          ops = λ place low high.
              has.ops place low (omega (arith, high, more.more_ops)) ∙ more.kept_ops place (omega arith) high;
          ranges = λ place low high.
              has.ranges place low (omega (arith, high, more.more_ranges)) ∙ more.kept_ranges place (omega arith) high;
        }),
        more.facts code (record {
          ops = λ place low high. has.ops place (omega (arith, low, grows.more_ops)) high;
          ranges = λ place low high. has.ranges place (omega (arith, low, grows.more_ranges)) high;
        }),
      );
    }

    -- an operation is put before what was laid, at a place that was held for it
    pub grows-put : (operation : Op) (Facts : CoroutineCode → Type 0) → GoesForward (length old.ops) operation →
        Grows (with_op op.Pass old) new Facts →
        Grows old (put_op (length old.ops) operation new) (λ code. Has code (length old.ops) operation × Facts code)
    grows-put operation Facts goes grows =
        let at : ℕ = length old.ops in
        let held : length (with_op op.Pass old).ops ≡ at + 1 = length-push old.ops op.Pass in
        let long : length (slice_set new.ops at operation) ≡ length new.ops = length-set new.ops at operation in
        record {
          more_ops = omega (arith, grows.more_ops, held, long);
          more_ranges = grows.more_ranges;
          kept_ops = λ place low high.
              get-set_other new.ops at place operation (omega (arith, high))
              ∙ grows.kept_ops place low (omega (arith, high, held))
              ∙ get-append old.ops (op.Pass ∷ []) place high;
          kept_ranges = grows.kept_ranges;
          forward = λ forward.
              forward-put new at operation goes (grows.forward (forward-push old op.Pass refl forward));
          facts = λ code has. (
            has.ops at (omega arith) (omega (arith, grows.more_ops, held, long))
                ∙ get-set_same new.ops at operation (omega (arith, grows.more_ops, held)),
            grows.facts code (record {
              ops = λ place low high.
                  has.ops place (omega (arith, low, held)) (omega (arith, high, long))
                  ∙ get-set_other new.ops at place operation (omega (arith, low, held));
              ranges = has.ranges;
            }),
          );
        }
