-- As many handles stand before the bar as before.
use Rattle.std.proofs.Common.{◌≡◌, Bool, true, false, List, [], ◌∷◌, length, refl, ap, ◌∙◌, if◌then◌else◌}
use Rattle.std.proofs.lemmas.List.{length-map}
use Rattle.model_value.specs.Action.{Action}
use Rattle.aio_ready.specs.Names.{marked}
use Rattle.aio_ready.specs.declared.handle.HandleName.{HandleName}
use Rattle.aio_ready.specs.Queue as queue
use Rattle.aio_ready.specs.Queue.{Queue, soon_all}
use Rattle.aio_cancel.specs.Awaitables.{Appended}

pub below_cancelled : (name : HandleName) (q : Queue) → length (queue.cancelled name q).below ≡ length q.below
below_cancelled name q = length-map q.below (marked name)

pub below_unless : (lives : Bool) (name : HandleName) (q : Queue) → length (if lives then q else queue.cancelled name q).below ≡ length q.below
below_unless true name q = refl
below_unless false name q = below_cancelled name q

below_soon_all : (actions : List Action) (q : Queue) → (soon_all actions q).below ≡ q.below
below_soon_all [] q = refl
below_soon_all (action ∷ actions) q = below_soon_all actions (queue.soon action q)

pub below_appended : (q r : Queue) → Appended q r → length r.below ≡ length q.below
below_appended q r a = ap (λ (x : Queue). length x.below) a.1 ∙ ap length (below_soon_all a.0 q)
