-- What holds however a tree ends holds where a call ended that did what the tree says.
use Rattle.std.proofs.Common.{◌≡◌, true, List, [], ◌∷◌, Ok, subst}
use Rattle.model_stream.specs.Doing.{Change, Doing, Ends, Changes, Asks}
use Rattle.model_stream.specs.Streams.{Opened, Streams}
use Rattle.aio_wire.specs.Outside.{Outside}
use Rattle.aio_exchange.specs.Exchanged.{Last, All, Met, Starved}
use Rattle.aio_exchange.specs.Follows.{EndsBy, Follows, Reach}
use Rattle.aio_exchange.specs.Tells.{Tells}
use Rattle.aio_exchange.specs.Ways.{Move, Did, Heard, Leads}
use Rattle.law_over.specs.AllEnds.{AllEnds}
use Rattle.law_over.specs.Gone.{StaysGone, StaysGoneWith, is_gone}
use Rattle.law_over.specs.Grown.{Grown, Grows, GrowsWith}

leads_hold : {A : Type 0} (Holds : A → Type 0) (doing : Doing A) (way : List Move) (result : A) → Leads doing way (Ends result)
    → AllEnds Holds doing → Holds result
leads_hold Holds (Ends last) [] result is all = subst Holds (let same : last ≡ result = cc in same) all
leads_hold Holds (Changes change rest) [] result is all = absurd (let bad : ⊥ = cc in bad)
leads_hold Holds (Asks call rest) [] result is all = absurd (let bad : ⊥ = cc in bad)
leads_hold Holds (Ends last) (Did it ∷ way) result is all = absurd is
leads_hold Holds (Ends last) (Heard asked answer ∷ way) result is all = absurd is
leads_hold Holds (Changes change rest) (Did it ∷ way) result is all = leads_hold Holds rest way result is.1 all
leads_hold Holds (Changes change rest) (Heard asked answer ∷ way) result is all = absurd is
leads_hold Holds (Asks call rest) (Did it ∷ way) result is all = absurd is
leads_hold Holds (Asks call rest) (Heard asked answer ∷ way) result is all = leads_hold Holds (rest answer) way result is.1 (all answer)

pub tells_hold : {A V : Type 0} (change : Change → V → V) (doing : Doing A) (old new : V) (result : A) (Holds : A → Type 0)
    → Tells change doing old new result → AllEnds Holds doing → Holds result
tells_hold change doing old new result Holds told all = leads_hold Holds doing told.way result told.leads all

pub follows_hold : {A V W : Type 0} (o : Outside W) (change : Change → V → V) (doing : Doing A) (old new : Reach V W) (result : A) (Holds : A → Type 0)
    → Follows o change doing old new (Ok result) → AllEnds Holds doing → Holds result
follows_hold {A} o change doing old new result Holds f all =
    leads_hold Holds doing f.way result (subst (Leads doing f.way) (left_is f.last f.ends) f.leads) all
  where
    left_is : (last : Last) → EndsBy last f.left new.port.events.answers (Ok result) → f.left ≡ Ends result
    left_is All is = is
    left_is (Met call said) is = absurd is
    left_is Starved is = absurd is

-- ---- so it is of what is gone
module _ {V : Type 0} (change : Change → V → V) where
  pub follows_gone : {W : Type 0} (o : Outside W) (tree : Streams → Doing Streams) (old new : Reach V W) (one : Opened) (s after : Streams)
      → StaysGone tree → Follows o change (tree s) old new (Ok after) → is_gone one s ≡ true → is_gone one after ≡ true
  follows_gone o tree old new one s after stays f h = follows_hold o change (tree s) old new after (λ it. is_gone one it ≡ true) f (stays one s h)

  pub answers_gone : {R W : Type 0} (o : Outside W) (tree : Streams → Doing (Streams × R)) (old new : Reach V W) (one : Opened) (s after : Streams)
      (said : R) → StaysGoneWith tree → Follows o change (tree s) old new (Ok (after, said)) → is_gone one s ≡ true → is_gone one after ≡ true
  answers_gone {R} o tree old new one s after said stays f h =
      follows_hold {A = Streams × R} o change (tree s) old new (after, said) (λ it. is_gone one it.0 ≡ true) f (stays one s h)

  pub tells_gone : (tree : Streams → Doing Streams) (old new : V) (one : Opened) (s after : Streams) → StaysGone tree
      → Tells change (tree s) old new after → is_gone one s ≡ true → is_gone one after ≡ true
  tells_gone tree old new one s after stays told h = tells_hold change (tree s) old new after (λ it. is_gone one it ≡ true) told (stays one s h)

  pub tells_answer_gone : {R : Type 0} (tree : Streams → Doing (Streams × R)) (old new : V) (one : Opened) (s after : Streams) (said : R)
      → StaysGoneWith tree → Tells change (tree s) old new (after, said) → is_gone one s ≡ true → is_gone one after ≡ true
  tells_answer_gone {R} tree old new one s after said stays told h =
      tells_hold {A = Streams × R} change (tree s) old new (after, said) (λ it. is_gone one it.0 ≡ true) told (stays one s h)

  -- ---- and of the order of opening
  pub follows_grown : {W : Type 0} (o : Outside W) (tree : Streams → Doing Streams) (old new : Reach V W) (s after : Streams) → Grows tree
      → Follows o change (tree s) old new (Ok after) → Grown s after
  follows_grown o tree old new s after grows f = follows_hold o change (tree s) old new after (Grown s) f (grows s)

  pub answers_grown : {R W : Type 0} (o : Outside W) (tree : Streams → Doing (Streams × R)) (old new : Reach V W) (s after : Streams) (said : R)
      → GrowsWith tree → Follows o change (tree s) old new (Ok (after, said)) → Grown s after
  answers_grown {R} o tree old new s after said grows f =
      follows_hold {A = Streams × R} o change (tree s) old new (after, said) (λ it. Grown s it.0) f (grows s)

  pub tells_grown : (tree : Streams → Doing Streams) (old new : V) (s after : Streams) → Grows tree → Tells change (tree s) old new after → Grown s after
  tells_grown tree old new s after grows told = tells_hold change (tree s) old new after (Grown s) told (grows s)

  pub tells_answer_grown : {R : Type 0} (tree : Streams → Doing (Streams × R)) (old new : V) (s after : Streams) (said : R) → GrowsWith tree
      → Tells change (tree s) old new (after, said) → Grown s after
  tells_answer_grown {R} tree old new s after said grows told =
      tells_hold {A = Streams × R} change (tree s) old new (after, said) (λ it. Grown s it.0) told (grows s)
