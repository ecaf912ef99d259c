-- A select's answer fits its call, and nothing that posts told is lost.
use Rattle.std.proofs.Common.{◌≡◌, ℕ, true, cond, List, ◌++◌, Option, refl, sym, ap, ◌∙◌, subst, append-nil}
use Rattle.std.specs.List.{filter}
use Rattle.model_wire.specs.Call.{Item}
use Rattle.model_wire.specs.declared.watch.Watch.{Watch}
use Rattle.model_wire.specs.Fits.{turn_fits}
use Rattle.model_pump.specs.Posts.{Post}
use Rattle.model_hub.specs.declared.child.Child.{Child}
use Rattle.model_hub.specs.declared.halt.Halt.{Halt}
use Rattle.model_hub.specs.declared.halt.Halt.TheVariants.{Going, Faulted, Starving}
use Rattle.model_hub.specs.declared.pump.Pump.{Pump}
use Rattle.model_hub.specs.Hub.{Hub}
use Rattle.model_hub.specs.Others.{Lanes, Polled, Ready, PollFailed, PollStarved}
use Rattle.model_hub.specs.Lanes.{serve_child}
use Rattle.model_hub.specs.Gathering.{begin, gather, is_halted}
use Rattle.model_hub.specs.Select.{is_childs, kept_at_end, polled_watch}
use Rattle.model_hub.specs.Asked.{TakesPolled, PollKeeps}
use Rattle.model_hub.specs.Told.{PollerSeen}
use Rattle.law_hub.specs.Seats.{is_teller, items_of, told_all}
use Rattle.law_hub.proofs.Fitting.{select_fits}
use Rattle.law_hub.proofs.Kept.{select_line, failed_select_line}
use Rattle.aio_serving.proofs.Same.{serve_same}
use Rattle.aio_polling.specs.declared.ending.Selected.{Selected}
use Rattle.aio_polling.specs.declared.ending.Selected.TheVariants as selected
use Rattle.aio_polling.specs.Selects.{hub_of, hub_after, selected_at, SelectsPolled}
use Rattle.aio_live.specs.States.{StateSeen, Plainly}
use Rattle.aio_live.specs.Selecting.{SelectsItems, TakesAfter, AnswerFits, told_in, NothingIsLost}
use Rattle.aio_live.proofs.Noting.{NotingKeeps, told_all_map}

-- ---- it fits
fits_at : (watched : List Watch) (halt : Halt) (now : ℕ) (items : List Item) → turn_fits watched now items ≡ true
    → AnswerFits watched (selected_at halt now items)
fits_at watched Going now items fits = fits
fits_at watched Faulted now items fits = tt
fits_at watched Starving now items fits = tt

answer_fits : (watched : List Watch) (polled : Polled) (posts : List Post) (old new : Hub) (said : Selected) (faults faults_now : ℕ)
    → SelectsPolled watched polled posts old said new → PollKeeps watched polled faults faults_now → AnswerFits watched said
answer_fits watched (Ready now sockets) posts old new said faults faults_now ends keeps =
    let all = gather watched (begin watched old sockets) posts in
    subst (AnswerFits watched) (sym ends.says) (fits_at watched all.halt now all.items (select_fits watched old now sockets posts keeps))
answer_fits watched PollFailed posts old new said faults faults_now ends keeps = subst (AnswerFits watched) (sym ends.0) tt
answer_fits watched PollStarved posts old new said faults faults_now ends keeps = absurd ends

pub select_answer_fits : {Run : Type 0} (wait : Option ℕ) (watched : List Watch) (poller poller_now : PollerSeen) (said : Selected)
    (s1 s2 : StateSeen Run) → SelectsItems wait watched poller poller_now said s1 s2 → AnswerFits watched said
select_answer_fits wait watched poller poller_now said s1 s2 items =
    answer_fits watched items.selects.polled items.selects.posts (hub_of s1.hub.children s1.hub.kept s1.hub.taken)
    (hub_after s2.hub.children s2.hub.kept s2.hub.taken said) said poller.faults poller_now.faults items.selects.ends items.selects.keeps

-- ---- nothing is lost
module _ (from : Pump) (child : ℕ) (teller : is_teller from ≡ true) (watched : List Watch) (old : Hub) where
  abbrev of : List Item → List Item
  of items = items_of from child items

  line_at : (now : ℕ) (sockets : List Item) (posts : List Post) → turn_fits (polled_watch watched) now sockets ≡ true → (halt : Halt)
      → (gather watched (begin watched old sockets) posts).halt ≡ halt
      → of (told_in (selected_at halt now (gather watched (begin watched old sockets) posts).items))
      ++ of (kept_at_end (gather watched (begin watched old sockets) posts))
      ≡ of (old.kept ++ told_all old.children posts)
  line_at now sockets posts fit Going is =
      let all = gather watched (begin watched old sockets) posts in
      ap (λ (h : Halt). of all.items ++ of (cond (is_halted h) (filter is_childs all.items ++ all.kept) all.kept)) is
      ∙ select_line from child teller watched old now sockets posts fit
  line_at now sockets posts fit Faulted is = failed_select_line from child teller watched old now sockets posts fit (ap is_halted is)
  line_at now sockets posts fit Starving is = failed_select_line from child teller watched old now sockets posts fit (ap is_halted is)

  line_is : (polled : Polled) (posts : List Post) (said : Selected) (new : Hub) (nones nones_now faults faults_now : ℕ)
      → SelectsPolled watched polled posts old said new → TakesPolled watched old polled posts nones nones_now
      → PollKeeps watched polled faults faults_now
      → of (told_in said) ++ of new.kept ≡ of (old.kept ++ told_all old.children posts)
  line_is (Ready now sockets) posts said new nones nones_now faults faults_now ends takes keeps =
      let all = gather watched (begin watched old sockets) posts in
      ap (λ (s : Selected). of (told_in s) ++ of new.kept) ends.says
      ∙ ap (λ (h : Hub). of (told_in (selected_at all.halt now all.items)) ++ of h.kept) ends.keeps
      ∙ line_at now sockets posts keeps all.halt refl
  line_is PollFailed posts said new nones nones_now faults faults_now ends takes keeps =
      ap (λ (s : Selected). of (told_in s) ++ of new.kept) ends.0
      ∙ ap (λ (h : Hub). of h.kept) ends.1
      ∙ ap of (sym (append-nil old.kept))
      ∙ ap (λ (l : List Post). of (old.kept ++ told_all old.children l)) (sym takes.0)
  line_is PollStarved posts said new nones nones_now faults faults_now ends takes keeps = absurd ends

keeps_serve : (lanes : Lanes) (watched : List Watch) → NotingKeeps (serve_child lanes watched)
keeps_serve lanes watched child =
    let same = serve_same lanes watched child in record { number = same.number; seats = same.seats; stay = same.stay }

module _ {Run : Type 0} (s2 s3 : StateSeen Run) where
  kept_after : (said : Selected) → TakesAfter said s2 s3 → s3.hub.kept ≡ s2.hub.kept
  kept_after (selected.Turn now items) over = ap (λ (h : Hub). h.kept) over.hub
  kept_after selected.Faulted over = ap (λ (h : Hub). h.kept) over.hub
  kept_after selected.Starved over = ap (λ (h : Hub). h.kept) over.hub
  kept_after selected.Unpolled same = ap (λ (s : StateSeen Run). s.hub.kept) same

  taken_after : (said : Selected) → TakesAfter said s2 s3 → s3.hub.taken ≡ s2.hub.taken
  taken_after (selected.Turn now items) over = ap (λ (h : Hub). h.taken) over.hub
  taken_after selected.Faulted over = ap (λ (h : Hub). h.taken) over.hub
  taken_after selected.Starved over = ap (λ (h : Hub). h.taken) over.hub
  taken_after selected.Unpolled same = ap (λ (s : StateSeen Run). s.hub.taken) same

module _ {Run : Type 0} (wait : Option ℕ) (watched : List Watch) (poller poller_now : PollerSeen) (s0 s1 s2 s3 : StateSeen Run) (said : Selected)
    (plainly : Plainly watched s0 s1) (items : SelectsItems wait watched poller poller_now said s1 s2) (after : TakesAfter said s2 s3) where
  children_told : told_all s1.hub.children items.selects.posts ≡ told_all s0.hub.children items.selects.posts
  children_told =
      ap (λ (cs : List Child). told_all cs items.selects.posts) plainly.served.is
      ∙ told_all_map (serve_child plainly.served.lanes watched) (keeps_serve plainly.served.lanes watched) s0.hub.children items.selects.posts

  pub nothing_lost : NothingIsLost s0 s3 said
  nothing_lost = (
    items.selects.posts,
    taken_after s2 s3 said after ∙ items.selects.came
        ∙ ap (λ (l : List Post). l ++ items.selects.posts) (ap (λ (h : Hub). h.taken) plainly.rests.hub),
    λ from child teller.
        ap (λ (l : List Item). items_of from child (told_in said) ++ items_of from child l) (kept_after s2 s3 said after)
        ∙ line_is from child teller watched (hub_of s1.hub.children s1.hub.kept s1.hub.taken) items.selects.polled items.selects.posts said
        (hub_after s2.hub.children s2.hub.kept s2.hub.taken said) s1.nones s2.nones poller.faults poller_now.faults items.selects.ends
        items.selects.takes items.selects.keeps
        ∙ ap (λ (l : List Item). items_of from child (l ++ told_all s1.hub.children items.selects.posts))
        (ap (λ (h : Hub). h.kept) plainly.rests.hub)
        ∙ ap (λ (l : List Item). items_of from child (s0.hub.kept ++ l)) children_told,
  )
