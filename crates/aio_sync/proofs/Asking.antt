-- What a code and its list ask for.
use Rattle.std.proofs.Common.{◌≡◌, ℕ, ℤ, ◌+◌, ◌-◌, ◌<◌, arith, pos, negsuc, Bool, true, false, List, [], ◌∷◌, Option, Some, None, refl, sym, ap, subst, ◌∙◌}
use Rattle.std.specs.Prelude.{◌==◌, nat_lt, if◌then◌else◌}
use Rattle.std.specs.Option.{option_map}
use Rattle.std.proofs.lemmas.Bool.{ltb-true}
use Rattle.model_value.specs.Value.{Exc, Value}
use Rattle.model_sync.specs.Serving as plain
use Rattle.model_sync.specs.Serving.{asked_for, bare, one, served, two, wanted_of}
use Rattle.model_sync.specs.Synced.{Synced, sync_part}
use Rattle.model_loop.specs.Parts.{Parts}
use Rattle.model_machine.specs.Extra.{ExtraSaid, unknown_code}
use Rattle.model_reach.specs.Part.{can_draw, drawing, key_at, no_key, refuses}
use Rattle.model_says.specs.Operations.{out_of_range}
use Rattle.model_says.specs.Requests.{bad_argument}
use Rattle.aio_task.specs.View.{View}
use Rattle.aio_extra.specs.declared.asked.Asked.{Asked}
use Rattle.aio_extra.specs.declared.asked.Asked.TheVariants.{Raise}
use Rattle.aio_sync.specs.Seen.{SaysSeen}
use Rattle.aio_sync.specs.declared.wanted.Numbered.TheVariants.{Acquire, Release, IsLocked, Set, Clear, IsSet, Wait, MakesQueue, Get, Size}
use Rattle.aio_sync.specs.declared.wanted.Shape.{Shape}
use Rattle.aio_sync.specs.declared.wanted.Shape.TheVariants as shape
use Rattle.aio_sync.specs.declared.wanted.Wanted.{Wanted}
use Rattle.aio_sync.specs.Wants.{numbered_as, shape_of, shaped, wanted_as}

module _ (xs : List Value) where
  abbrev to : Shape → Option plain.Wanted
  to it = shaped it xs

  -- one code after another
  step : (b : Bool) (it : Shape) (w : Option plain.Wanted) (o : Option Shape) (r : Option (Option plain.Wanted)) → w ≡ to it → r ≡ option_map to o
      → (if b then Some w else r) ≡ option_map to (if b then Some it else o)
  step true it w o r e rest = ap Some e
  step false it w o r e rest = rest

  pub wanted_by : (code : ℤ) → wanted_of code xs ≡ option_map to (shape_of code)
  wanted_by (negsuc before) = refl
  wanted_by (pos code) =
      step (code == 200) shape.MakesLock _ _ _ refl
      (step (code == 201) (shape.Of Acquire) _ _ _ refl
      (step (code == 202) (shape.Of Release) _ _ _ refl
      (step (code == 203) (shape.Of IsLocked) _ _ _ refl
      (step (code == 210) shape.MakesEvent _ _ _ refl
      (step (code == 211) (shape.Of Set) _ _ _ refl
      (step (code == 212) (shape.Of Clear) _ _ _ refl
      (step (code == 213) (shape.Of IsSet) _ _ _ refl
      (step (code == 214) (shape.Of Wait) _ _ _ refl
      (step (code == 220) (shape.Of MakesQueue) _ _ _ refl
      (step (code == 221) shape.Put _ _ _ refl
      (step (code == 222) (shape.Of Get) _ _ _ refl
      (step (code == 225) (shape.Of Size) _ _ _ refl refl))))))))))))

module _ (code : ℤ) (xs : List Value) (p : Parts) (kept : Synced) where
  pub asked_unknown : shape_of code ≡ None → asked_for code (wanted_of code xs) p kept ≡ refuses (unknown_code code) kept
  asked_unknown e = ap (λ o. asked_for code o p kept) (wanted_by xs code ∙ ap (option_map (λ it. shaped it xs)) e)

  pub asked_badly : (it : Shape) → shape_of code ≡ Some it → shaped it xs ≡ None
      → asked_for code (wanted_of code xs) p kept ≡ refuses bad_argument kept
  asked_badly it e bad = ap (λ o. asked_for code o p kept) (wanted_by xs code ∙ ap (option_map (λ it. shaped it xs)) e ∙ ap Some bad)

  pub asked_rightly : (it : Shape) → shape_of code ≡ Some it → (wanted : Wanted) → shaped it xs ≡ Some (wanted_as wanted)
      → asked_for code (wanted_of code xs) p kept ≡ drawing sync_part kept.drawn 1 (served (wanted_as wanted) p kept) kept
  asked_rightly it e wanted ok = ap (λ o. asked_for code o p kept) (wanted_by xs code ∙ ap (option_map (λ it. shaped it xs)) e ∙ ap Some ok)

  pub asked_over : (it : Shape) → shape_of code ≡ Some it → (wanted : Wanted) → shaped it xs ≡ Some (wanted_as wanted)
      → can_draw sync_part kept.drawn 1 ≡ false → asked_for code (wanted_of code xs) p kept ≡ refuses out_of_range kept
  asked_over it e wanted ok full =
      asked_rightly it e wanted ok
      ∙ ap (λ (b : Bool). if b then served (wanted_as wanted) p kept else refuses out_of_range kept) full

  pub asked_served : (it : Shape) → shape_of code ≡ Some it → (wanted : Wanted) → shaped it xs ≡ Some (wanted_as wanted)
      → can_draw sync_part kept.drawn 1 ≡ true → asked_for code (wanted_of code xs) p kept ≡ served (wanted_as wanted) p kept
  asked_served it e wanted ok can =
      asked_rightly it e wanted ok
      ∙ ap (λ (b : Bool). if b then served (wanted_as wanted) p kept else refuses out_of_range kept) can

-- ---- by the view of the loop's parts
pub refused : (x : Synced) (v : View) (asked : Asked) (exception : Exc) → asked ≡ Raise exception → SaysSeen x v v asked (refuses exception x)
refused x v asked exception e = subst (λ it. SaysSeen x v v it (refuses exception x)) (sym e) (record {
  call = record { kept = refl; steps = λ known. refl };
  answer = refl;
})

pub room : (drawn : ℕ) → can_draw sync_part drawn 1 ≡ true → key_at sync_part drawn < no_key
room drawn e = ltb-true (key_at sync_part drawn) no_key (ap (λ n. nat_lt (key_at sync_part n) no_key) (same drawn) ∙ e)
  where
    same : (n : ℕ) → n ≡ n + 1 - 1
    same n = omega arith

module _ (x y : Synced) (v w : View) (asked : Asked) (said : ExtraSaid Synced) where
  pub drawing_through : can_draw sync_part x.drawn 1 ≡ true → SaysSeen y v w asked said → SaysSeen y v w asked (drawing sync_part x.drawn 1 said x)
  drawing_through can seen = subst (λ (b : Bool). SaysSeen y v w asked (if b then said else refuses out_of_range x)) (sym can) seen

pub drawing_over : (x : Synced) (v : View) (asked : Asked) (said : ExtraSaid Synced) → can_draw sync_part x.drawn 1 ≡ false → asked ≡ Raise out_of_range
    → SaysSeen x v v asked (drawing sync_part x.drawn 1 said x)
drawing_over x v asked said full e =
    subst (λ (b : Bool). SaysSeen x v v asked (if b then said else refuses out_of_range x)) (sym full) (refused x v asked out_of_range e)
