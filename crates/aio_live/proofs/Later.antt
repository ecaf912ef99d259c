-- What a select leaves, also where memory was refused: posts that were taken stay so, and so does want of memory.
use Rattle.std.proofs.Common.{◌≡◌, true, ◌||◌, List, ◌++◌, ap, ◌∙◌}
use Rattle.model_wire.specs.declared.watch.Watch.{Watch}
use Rattle.model_pump.specs.Posts.{Post}
use Rattle.model_hub.specs.Hub.{Hub}
use Rattle.aio_polling.specs.declared.ending.Selected.{Selected}
use Rattle.aio_polling.specs.declared.ending.Selected.TheVariants as selected
use Rattle.aio_polling.specs.Selects.{is_starved}
use Rattle.aio_live.specs.States.{StateSeen, Plainly}
use Rattle.aio_live.specs.Selecting.{TakesMore, TakesAfter}

-- what goes before a call takes no post
pub plainly_posts : {Run : Type 0} (watched : List Watch) (old new : StateSeen Run) → Plainly watched old new → new.hub.taken ≡ old.hub.taken
plainly_posts watched old new plainly = ap (λ (h : Hub). h.taken) plainly.rests.hub

pub takes_on : {Run : Type 0} (watched : List Watch) (s0 s1 : StateSeen Run) → Plainly watched s0 s1 → (mid next : List Post)
    → TakesMore s1.hub.taken mid → next ≡ mid → TakesMore s0.hub.taken next
takes_on watched s0 s1 plainly mid next takes same =
    (takes.0, same ∙ takes.1 ∙ ap (λ (l : List Post). l ++ takes.0) (plainly_posts watched s0 s1 plainly))

module _ {Run : Type 0} (s1 s2 s3 : StateSeen Run) where
  after_starved : (said : Selected) → TakesAfter said s2 s3 → s3.hub.starved ≡ s2.hub.starved
  after_starved (selected.Turn now items) over = ap (λ (h : Hub). h.starved) over.hub
  after_starved selected.Faulted over = ap (λ (h : Hub). h.starved) over.hub
  after_starved selected.Starved over = ap (λ (h : Hub). h.starved) over.hub
  after_starved selected.Unpolled same = ap (λ (s : StateSeen Run). s.hub.starved) same

  pub starving_on : (said : Selected) → s2.hub.starved ≡ (is_starved said || s1.hub.starved) → TakesAfter said s2 s3 → is_starved said ≡ true
      → s3.hub.starved ≡ true
  starving_on said starved after is = after_starved said after ∙ starved ∙ ap (λ b. b || s1.hub.starved) is
