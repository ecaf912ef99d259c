-- What four keep together is right where what each keeps is.
use Rattle.std.proofs.Common.{◌≡◌, ℕ, Bool, true, ◌++◌, List, ◌∙◌, sym}
use Rattle.std.specs.List.{list_all}
use Rattle.std.proofs.lemmas.Bool.{and_from, and_parts}
use Rattle.std.proofs.lemmas.List.Folds.{list_all-append}
use Rattle.model_value.specs.Value.{Value}
use Rattle.model_loop.specs.Parts.{Parts}
use Rattle.model_machine.specs.Extra.{Keeping}
use Rattle.model_machine.specs.Sound.{AreKept, Ids, names_made}
use Rattle.model_reach.specs.Reach.{kept_with}
use Rattle.law_parted.proofs.Lists.{join, split}

module _ (ids : Ids) (a b c d : Keeping) (has_key : ℕ → Bool) (futures : List ℕ) (p : Parts) where
  -- ---- values
  values_join : (xs ys : List Value) → list_all (names_made ids) xs ≡ true → list_all (names_made ids) ys ≡ true
      → list_all (names_made ids) (xs ++ ys) ≡ true
  values_join xs ys x y = list_all-append (names_made ids) xs ys ∙ and_from _ _ x y

  values_left : (xs ys : List Value) → list_all (names_made ids) (xs ++ ys) ≡ true → list_all (names_made ids) xs ≡ true
  values_left xs ys h = (and_parts _ _ (sym (list_all-append (names_made ids) xs ys) ∙ h)).0

  values_right : (xs ys : List Value) → list_all (names_made ids) (xs ++ ys) ≡ true → list_all (names_made ids) ys ≡ true
  values_right xs ys h = (and_parts _ _ (sym (list_all-append (names_made ids) xs ys) ∙ h)).1

  -- ---- all of it
  pub record AllKept : Type 0 where
    pub first : AreKept ids a futures p
    pub second : AreKept ids b futures p
    pub third : AreKept ids c futures p
    pub fourth : AreKept ids d futures p

  pub together : AllKept → AreKept ids (record (kept_with a (kept_with b (kept_with c d))) { has_key = has_key }) futures p
  together it = record {
    tasks = join _ a.tasks b.tasks c.tasks d.tasks
        (record { first = it.first.tasks; second = it.second.tasks; third = it.third.tasks; fourth = it.fourth.tasks });
    awaitable = join _ a.futures b.futures c.futures d.futures
        (record { first = it.first.awaitable; second = it.second.awaitable; third = it.third.awaitable; fourth = it.fourth.awaitable });
    own = join _ a.own b.own c.own d.own (record { first = it.first.own; second = it.second.own; third = it.third.own; fourth = it.fourth.own });
    apart = join _ a.own b.own c.own d.own
        (record { first = it.first.apart; second = it.second.apart; third = it.third.apart; fourth = it.fourth.apart });
    tags = join _ a.tags b.tags c.tags d.tags
        (record { first = it.first.tags; second = it.second.tags; third = it.third.tags; fourth = it.fourth.tags });
    values = values_join a.values _ it.first.values (values_join b.values _ it.second.values (values_join c.values d.values it.third.values it.fourth.values));
  }

  pub apart : AreKept ids (record (kept_with a (kept_with b (kept_with c d))) { has_key = has_key }) futures p → AllKept
  apart it =
      let tasks = split _ a.tasks b.tasks c.tasks d.tasks it.tasks in
      let awaitable = split _ a.futures b.futures c.futures d.futures it.awaitable in
      let own = split _ a.own b.own c.own d.own it.own in
      let none = split _ a.own b.own c.own d.own it.apart in
      let tags = split _ a.tags b.tags c.tags d.tags it.tags in
      let rest = values_right a.values (b.values ++ (c.values ++ d.values)) it.values in
      let last = values_right b.values (c.values ++ d.values) rest in
      record {
        first = record {
          tasks = tasks.first;
          awaitable = awaitable.first;
          own = own.first;
          apart = none.first;
          tags = tags.first;
          values = values_left a.values (b.values ++ (c.values ++ d.values)) it.values;
        };
        second = record {
          tasks = tasks.second;
          awaitable = awaitable.second;
          own = own.second;
          apart = none.second;
          tags = tags.second;
          values = values_left b.values (c.values ++ d.values) rest;
        };
        third = record {
          tasks = tasks.third;
          awaitable = awaitable.third;
          own = own.third;
          apart = none.third;
          tags = tags.third;
          values = values_left c.values d.values last;
        };
        fourth = record {
          tasks = tasks.fourth;
          awaitable = awaitable.fourth;
          own = own.fourth;
          apart = none.fourth;
          tags = tags.fourth;
          values = values_right c.values d.values last;
        };
      }
