-- Comparisons are orders, where the code's orders are.
use Rattle.std.proofs.Common.{◌≡◌, ◌⊎◌, inl, inr, Bool, true, false, not, Some, Ok, refl, ap, sym, ◌∙◌, is_lt, is_le, is_gt, is_ge, Ordering, Less, Equal}
use Rattle.std.proofs.Common.{Greater}
use Rattle.std.proofs.lemmas.Bool.{false≢true}
use Rattle.std.specs.Ordering.{ordering_reverse}
use Rattle.std.specs.Cmp.{IsTotalOrder}
use Rattle.model_value.specs.Value.{Value, Truth}
use Rattle.model_says.specs.Operations.{ValueOrException, order, ordered, negation}
use Rattle.model_says.specs.Expressions.{of_one}
use Rattle.aio_expr.specs.Ordered.{IsBelow, IsOrdered}

abbrev truth_in : ValueOrException → Bool
truth_in (Ok (Truth t)) = t
truth_in _ = false

less-is : (r : Ordering) → is_lt r ≡ true → r ≡ Less
less-is Less e = refl
less-is Equal e = absurd (false≢true e)
less-is Greater e = absurd (false≢true e)

mirrored : (r : Ordering) → is_gt r ≡ is_lt (ordering_reverse r)
mirrored Less = refl
mirrored Equal = refl
mirrored Greater = refl

le-is : (r : Ordering) → is_le r ≡ not (is_lt (ordering_reverse r))
le-is Less = refl
le-is Equal = refl
le-is Greater = refl

ge-is : (r : Ordering) → is_ge r ≡ not (is_lt r)
ge-is Less = refl
ge-is Equal = refl
ge-is Greater = refl

not-itself : (r : Ordering) → r ≡ ordering_reverse r → ¬ (is_lt r ≡ true)
not-itself Less e lt = false≢true (ap is_lt (sym e))
not-itself Equal e lt = false≢true lt
not-itself Greater e lt = false≢true lt

module _ {A : Type 0} (make : A → Value) (R : A → A → Ordering) (total : IsTotalOrder R) (same : (a b : A) → R a b ≡ Equal → a ≡ b)
    (is : (a b : A) → order (make a) (make b) ≡ Some (R a b)) where
  tested : (test : Ordering → Bool) (a b : A) → ordered test (order (make a) (make b)) ≡ Ok (Truth (test (R a b)))
  tested test a b = ap (ordered test) (is a b)

  below : (a b : A) → IsBelow (make a) (make b) → is_lt (R a b) ≡ true
  below a b h = ap truth_in (sym (tested is_lt a b) ∙ h)

  is_below : (a b : A) → is_lt (R a b) ≡ true → IsBelow (make a) (make b)
  is_below a b h = tested is_lt a b ∙ ap (λ t. Ok (Truth t)) h

  one : (a b : A) (r : Ordering) → R a b ≡ r → IsBelow (make a) (make b) ⊎ (IsBelow (make b) (make a) ⊎ (a ≡ b))
  one a b Less e = inl (is_below a b (ap is_lt e))
  one a b Equal e = inr (inr (same a b e))
  one a b Greater e = inr (inl (is_below b a (ap is_lt (total.antisymm b a ∙ ap ordering_reverse e))))

  pub is_ordered : IsOrdered make
  is_ordered =
      record {
        not_below_itself = λ a h. not-itself (R a a) (total.antisymm a a) (below a a h);
        transitive = λ a b c h g. is_below a c (ap is_lt (total.trans a b c (less-is (R a b) (below a b h)) (less-is (R b c) (below b c g))));
        one_of_three = λ a b. one a b (R a b) refl;
        above = λ a b. tested is_gt a b ∙ ap (λ t. Ok (Truth t)) (mirrored (R a b) ∙ ap is_lt (sym (total.antisymm b a))) ∙ sym (tested is_lt b a);
        at_most = λ a b. tested is_le a b ∙ ap (λ t. Ok (Truth t)) (le-is (R a b) ∙ ap (λ r. not (is_lt r)) (sym (total.antisymm b a)))
            ∙ ap (of_one negation) (sym (tested is_lt b a));
        at_least = λ a b. tested is_ge a b ∙ ap (λ t. Ok (Truth t)) (ge-is (R a b)) ∙ ap (of_one negation) (sym (tested is_lt a b));
      }
