-- How must_cancel of a task goes on within its own step, by each of its requests and the whole rest of it.
use Rattle.std.proofs.Common.{◌≡◌, ℕ, true, List, None, refl, ap, slice_get}
use Rattle.std.specs.Option.{option_map_or}
use Rattle.model_value.specs.Input.{Input}
use Rattle.model_value.specs.Request.{Request}
use Rattle.model_loop.specs.Loop.{Loop}
use Rattle.model_loop.specs.Parts.{Parts, Task}
use Rattle.model_loop.specs.Tasks.{must_cancel_of}
use Rattle.model_machine.specs.Extra.{Extra}
use Rattle.model_machine.specs.Replies.{RequestReply, Answers, Raises, Suspends, Halts, decides, reply}
use Rattle.model_machine.specs.State.{ResumePoint, State}
use Rattle.model_machine.specs.Step.{serve}
use Rattle.model_machine.specs.Went.{Went, Goes, Stops}
use Rattle.law_changes.specs.Changes.{MakesTask, OfParts, Settles}
use Rattle.law_changes.specs.Reaches.{LoopReaches}
use Rattle.law_changes.proofs.Folds.{one}
use Rattle.law_changes.proofs.LoopRows.{asks_row, create_row, enter_group_row, enter_row, exit_begin_row, exit_timeout_row, exit_woken_row, reschedule_row}
use Rattle.law_changes.proofs.LoopRows.{takes_row}
use Rattle.law_reach.proofs.Extras.{all_row}
use Rattle.law_promises.specs.OwnStep.{ReplyFalls, WentFalls}
use Rattle.law_promises.proofs.MustCancelStays.{as_tasks, nobody}
use Rattle.law_promises.proofs.OwnStep.{StepEnds, ends_after, ends_over, ends_so, ends_waiting, falls}
use Rattle.law_promises.proofs.OwnWalk.{ReplyComes, StepWalk, WentComes, decides_comes, reply_comes, serve_comes}
use Rattle.law_promises.proofs.TakingBack.{IsFollowed, followed_refl, followed_then, row_followed, unbooked}

module _ (me : ℕ) where
  row : {l q : Loop} → LoopReaches None l q → IsFollowed me l q
  row reaches = row_followed me reaches (nobody me)

  own_walk : StepWalk me (IsFollowed me) (StepEnds me)
  own_walk = record {
    same = followed_refl me;
    next = followed_then me;
    ends = ends_after me;
    rests = ends_so me;
    waits = λ on l. ends_waiting me on l l (followed_refl me l);
    over = λ end l. ends_over me end l;
    parts = λ l q tasks. unbooked me l (record l { parts = q }) refl refl
        (ap (λ (ts : List Task). option_map_or (λ (t : Task). t.cancels) (slice_get ts me) 0) tasks) (as_tasks l.parts q tasks me);
    settles = λ future outcome l. row (one (OfParts (Settles future outcome)) tt);
    asks = λ by on l. row (asks_row None by on l);
    takes = λ by task l. row (takes_row None by task l);
    spawns = λ l. row (one (OfParts MakesTask) tt);
    enters = λ delay l. row (enter_row None me delay l);
    leaves = λ raised id l. row (exit_timeout_row None raised id l);
    moves = λ id when l. row (reschedule_row None id when l);
    enters_group = λ l. row (enter_group_row None me l);
    begins = λ raised id l. row (exit_begin_row None raised id l);
    wakes = λ input id l. row (exit_woken_row None input id l);
    creates = λ id l. row (create_row None id l);
    added = λ steps l. row (all_row None steps l);
  }

module _ {S : Type 0} (added : Extra S) (me : ℕ) where
  reply_falls : (s : State S) (it : RequestReply S) → must_cancel_of s.loop.parts me ≡ true → ReplyComes (IsFollowed me) (StepEnds me) s it
      → ReplyFalls me s it
  reply_falls s (Answers value now) must comes = comes.keeps must
  reply_falls s (Raises fault now) must comes = comes.keeps must
  reply_falls s (Suspends now) must comes = falls me s.loop now.loop must comes
  reply_falls s (Halts end last) must comes = tt

  went_falls : (s : State S) (it : Went S) → must_cancel_of s.loop.parts me ≡ true → WentComes (StepEnds me) s it → WentFalls me s it
  went_falls s (Goes now) must ends = falls me s.loop now.loop must ends
  went_falls s (Stops end last) must ends = tt

  pub asks_falls : (asked : Request) (s : State S) → must_cancel_of s.loop.parts me ≡ true → ReplyFalls me s (reply added me asked s)
  asks_falls asked s must = reply_falls s (reply added me asked s) must (reply_comes me (own_walk me) added asked s)

  pub resumed_falls : (resume_point : ResumePoint) (input : Input) (s : State S) → must_cancel_of s.loop.parts me ≡ true
      → ReplyFalls me s (decides added resume_point me input s)
  resumed_falls resume_point input s must =
      reply_falls s (decides added resume_point me input s) must (decides_comes me (own_walk me) added resume_point input s)

  pub rest_falls : (limit answers : ℕ) (s : State S) → must_cancel_of s.loop.parts me ≡ true → WentFalls me s (serve limit added answers me s)
  rest_falls limit answers s must = went_falls s (serve limit added answers me s) must (serve_comes me (own_walk me) added limit answers s)
