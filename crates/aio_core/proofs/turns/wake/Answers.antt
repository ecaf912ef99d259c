use Rattle.std.proofs.Common.{◌≡◌, ◌≤◌, max, ◌∙◌, sym, ap, subst}
use Rattle.model_value.specs.Number.{most}
use Rattle.model_machine.specs.Outside.{news_of, time_of}
use Rattle.model_machine.specs.State.{unbooked_in}
use Rattle.model_machine.specs.Turn.{woken_by}
use Rattle.aio_task.specs.View.{View}
use Rattle.aio_body.specs.Stands.{IsBetween}
use Rattle.aio_core.specs.Turning.{all_below}
use Rattle.aio_core.proofs.Waking.{barred_view, due_view, idle_alive, later_time, news_view, time_few, timed_view, wakes_so}
use Rattle.aio_core.proofs.Waking.{woken_view}
use Rattle.aio_core.proofs.turns.wake.Goals as goal

pub set_now-requires : goal.set_now-requires
set_now-requires g c =
    let body = c.args.body.now in
    let is : c.max-now.result ≡ max body.parts.time (time_of c.args.answer.now) =
    c.max-now.ensures ∙ ap (λ n. max n c.time_of.result) c.now.ensures ∙ ap (max body.parts.time) c.time_of.ensures in
    subst (λ n. n ≤ most) (sym is) (later_time c.args.answer.now c.requires.time body.parts.time (time_few body c.requires.alive))

pub note_news-requires : goal.note_news-requires
note_news-requires g c = record {
  idle = ap (λ (v : View). v.called) c.set_now.ensures ∙ idle_alive c.args.body.now
      c.requires.alive;
}

pub due-requires : goal.due-requires
due-requires g c = record {
  idle =
      ap (λ (v : View). v.called) c.in_ok-note_news.ensures ∙ ap (λ (v : View). v.called) c.set_now.ensures
      ∙ idle_alive c.args.body.now c.requires.alive;
}

pub set_bar-requires : goal.set_bar-requires
set_bar-requires g c = record {
  idle =
      ap (λ (v : View). v.called) c.due.ensures ∙ ap (λ (v : View). v.called) c.in_ok-note_news.ensures
      ∙ ap (λ (v : View). v.called) c.set_now.ensures ∙ idle_alive c.args.body.now c.requires.alive;
}

pub returns : goal.returns
returns g c =
    let body = c.args.body.now in
    let it = c.args.answer.now in
    let now_is : c.max-now.result ≡ max body.parts.time (time_of it) =
    c.max-now.ensures ∙ ap (λ n. max n c.time_of.result) c.now.ensures ∙ ap (max body.parts.time) c.time_of.ensures in
    let is : c.set_bar.new.self ≡ woken_view (news_of it) (max body.parts.time (time_of it)) body.parts =
    c.set_bar.ensures
    ∙ ap barred_view (c.due.ensures ∙ ap (due_view c.max-now.result) (c.in_ok-note_news.ensures ∙ ap (news_view (news_of it))
    c.set_now.ensures))
    ∙ ap (λ n. barred_view (due_view n (news_view (news_of it) (timed_view n body.parts)))) now_is in
    λ d s h. subst (λ v. IsBetween (all_below d (unbooked_in (woken_by it) s)) (record body { parts = v }) (unbooked_in (woken_by it) s))
    (sym is) (wakes_so d body s it c.requires.time h)
