-- A block that is left is the innermost on its task's tape, and a timeout or a group of the task.
use Rattle.std.proofs.Common.{◌≡◌, ℕ, Bool, true, false, List, [], ◌∷◌, Option, map, drop, fold, refl, sym, ap, ◌∙◌}
use Rattle.std.specs.List.{list_all}
use Rattle.std.proofs.lemmas.Bool.{false≢true}
use Rattle.model_value.specs.Input.{Input}
use Rattle.model_value.specs.declared.input.Input.TheVariants.{Send, Throw}
use Rattle.model_value.specs.declared.request.Request.TheVariants as request
use Rattle.model_value.specs.Request.{Request}
use Rattle.model_value.specs.Value.{Value, Exc, Group, Timeout}
use Rattle.model_says.specs.Endings.{Asks, Exchange}
use Rattle.model_says.specs.Says.{step_limit}
use Rattle.model_machine.specs.Extra.{Extra}
use Rattle.model_machine.specs.Sound.{blocks_of, exchanges_of, names_block}
use Rattle.model_machine.specs.State.{State, generator_of}
use Rattle.model_machine.specs.Step.{says_of}
use Rattle.law_says.specs.Opened.{EnteredBlock, OfTimeout, OfGroup, entered_as, opened, opened_with}
use Rattle.law_says.proofs.Growing.{leaves_innermost, same_blocks}
use Rattle.law_replies.proofs.Counts.{and_first, and_second, and_both}

-- a block that was entered as a timeout is one, and so of groups
abbrev named_rightly : EnteredBlock → Bool
named_rightly (OfTimeout (Timeout id)) = true
named_rightly (OfTimeout value) = false
named_rightly (OfGroup (Group id)) = true
named_rightly (OfGroup value) = false

right_drop : (blocks : List EnteredBlock) → list_all named_rightly blocks ≡ true → list_all named_rightly (drop 1 blocks) ≡ true
right_drop [] h = refl
right_drop (block ∷ blocks) h = and_second (named_rightly block) (list_all named_rightly blocks) h

entered_timeout : (value : Value) (delay : Value) → names_block (request.TimeoutEnter delay) (Send value) ≡ true → named_rightly (OfTimeout value) ≡ true
entered_timeout (Timeout id) delay h = refl
entered_timeout _ delay h = absurd (false≢true h)

entered_group : (value : Value) → names_block request.GroupEnter (Send value) ≡ true → named_rightly (OfGroup value) ≡ true
entered_group (Group id) h = refl
entered_group _ h = absurd (false≢true h)

right_step : (blocks : List EnteredBlock) (asked : Request) (input : Input) → list_all named_rightly blocks ≡ true → names_block asked input ≡ true
    → list_all named_rightly (opened_with blocks asked input) ≡ true
right_step blocks (request.TimeoutEnter delay) (Send value) h k = and_both (named_rightly (OfTimeout value)) _ (entered_timeout value delay k) h
right_step blocks (request.TimeoutEnter delay) (Throw fault) h k = h
right_step blocks request.GroupEnter (Send value) h k = and_both (named_rightly (OfGroup value)) _ (entered_group value k) h
right_step blocks request.GroupEnter (Throw fault) h k = h
right_step blocks (request.TimeoutExit timeout fault) input h k = right_drop blocks h
right_step blocks (request.GroupExit group fault) input h k = right_drop blocks h
right_step blocks _ input h k = h

right_from : (blocks : List EnteredBlock) (exchanges : List Exchange) → list_all named_rightly blocks ≡ true
    → list_all (λ (x : Exchange). names_block x.request x.answer) exchanges ≡ true
    → list_all named_rightly (fold (λ (bs : List EnteredBlock) (x : Exchange). opened_with bs x.request x.answer) blocks exchanges) ≡ true
right_from blocks [] h k = h
right_from blocks (x ∷ exchanges) h k =
    right_from (opened_with blocks x.request x.answer) exchanges
    (right_step blocks x.request x.answer h
    (and_first (names_block x.request x.answer) (list_all (λ (y : Exchange). names_block y.request y.answer) exchanges) k))
    (and_second (names_block x.request x.answer) (list_all (λ (y : Exchange). names_block y.request y.answer) exchanges) k)

is_timeout : (value : Value) → named_rightly (OfTimeout value) ≡ true → (id : ℕ) × (value ≡ Timeout id)
is_timeout (Timeout id) h = (id, refl)
is_timeout _ h = absurd (false≢true h)

is_group : (value : Value) → named_rightly (OfGroup value) ≡ true → (id : ℕ) × (value ≡ Group id)
is_group (Group id) h = (id, refl)
is_group _ h = absurd (false≢true h)

module _ {S : Type 0} (added : Extra S) (task : ℕ) (s : State S)
    (entered : list_all (λ exchange. names_block exchange.request exchange.answer) (exchanges_of s task) ≡ true) where
  abbrev blocks : List EnteredBlock
  blocks =
      opened step_limit s.program (generator_of task s).coroutine (generator_of task s).arguments (generator_of task s).tape

  as_values : map entered_as blocks ≡ blocks_of s task
  as_values = same_blocks (exchanges_of s task)

  right : list_all named_rightly blocks ≡ true
  right = right_from [] (exchanges_of s task) refl entered

  pub innermost_timeout : (value : Value) (raised : Option Exc) → says_of step_limit added task s ≡ Asks (request.TimeoutExit value raised)
      → (id : ℕ) × (value ≡ Timeout id) × ((outer : List Value) × (blocks_of s task ≡ Timeout id ∷ outer))
  innermost_timeout value raised says =
      let it = leaves_innermost step_limit s.program (generator_of task s).coroutine (generator_of task s).arguments (generator_of task s).tape
      (request.TimeoutExit value raised) says in
      let r = is_timeout value (and_first (named_rightly (OfTimeout value)) (list_all named_rightly it.0) (sym (ap (list_all named_rightly) it.1) ∙ right)) in
      (r.0, r.1, (map entered_as it.0, sym as_values ∙ ap (map entered_as) it.1 ∙ ap (λ v. v ∷ map entered_as it.0) r.1))

  pub innermost_group : (value : Value) (raised : Option Exc) → says_of step_limit added task s ≡ Asks (request.GroupExit value raised)
      → (id : ℕ) × (value ≡ Group id) × ((outer : List Value) × (blocks_of s task ≡ Group id ∷ outer))
  innermost_group value raised says =
      let it = leaves_innermost step_limit s.program (generator_of task s).coroutine (generator_of task s).arguments (generator_of task s).tape
      (request.GroupExit value raised) says in
      let r = is_group value (and_first (named_rightly (OfGroup value)) (list_all named_rightly it.0) (sym (ap (list_all named_rightly) it.1) ∙ right)) in
      (r.0, r.1, (map entered_as it.0, sym as_values ∙ ap (map entered_as) it.1 ∙ ap (λ v. v ∷ map entered_as it.0) r.1))
