use Rattle.std.proofs.Common.{◌≡◌, ◌<◌, ℕ, not, filter, length, ap, subst, sym, ◌∙◌}
use Rattle.std.specs.Prelude.{◌==◌}
use Rattle.std.specs.List.{AllByRecursion as Each}
use Rattle.aio_group.specs.Held.{Held}
use Rattle.aio_group.specs.GoesOn.{Moves}
use Rattle.aio_group.specs.Stands.{Belongs}
use Rattle.aio_task.specs.View.{View}
use Rattle.aio_group.proofs.Listing.{taken_again}
use Rattle.aio_group.proofs.Spawning.{child_belongs}
use Rattle.aio_group.proofs.children.create.Goals as goal

number : (c : goal.After-remove) → c.in-Ok.next ≡ length c.args.parts.now.tasks
number c = c.in-Ok.ensures.1 ∙ c.tasks.ensures

pub returns-in-Err-clause-err : goal.returns-in-Err-clause-err
returns-in-Err-clause-err c =
    let a = c.args.group.now in
    let next = c.in-Ok.next in
    let below : Each (λ child. child < next) a.children =
    subst (λ (n : ℕ). Each (λ child. child < n) a.children) (sym (number c)) c.requires.belongs.children in (
      c.remove.ensures
          ∙ ap (λ (h : Held). record h { children = filter (λ child. not (child == next)) h.children }) c.in_ok-add.ensures.after
          ∙ ap (λ cs. record a { children = cs }) (taken_again a.children next below),
      c.in-Err.ensures.err ∙ c.ticket.ensures,
    )

pub returns-in-Err-clause-belongs : goal.returns-in-Err-clause-belongs
returns-in-Err-clause-belongs c =
    let e = returns-in-Err-clause-err c in
    subst (λ h. Belongs c.spawn_for.new.parts h) (sym e.0) (subst (λ v. Belongs v c.args.group.now) (sym e.1) c.requires.belongs)

pub returns-in-Ok-spawn_for-clause-belongs : goal.returns-in-Ok-spawn_for-clause-belongs
returns-in-Ok-spawn_for-clause-belongs c =
    let v = c.args.parts.now in
    let w = c.spawn_for.new.parts in
    let a = c.args.group.now in
    let ticket = c.ticket.ensures in
    let next : c.in-Ok.next ≡ length v.tasks = c.in-Ok.ensures.1 ∙ c.tasks.ensures in
    let moves : Moves v w = subst (λ x. Moves x w) ticket c.in-Ok-spawn_for.ensures.moves in
    let made : length v.tasks < length w.tasks = subst (λ (x : View). length x.tasks < length w.tasks) ticket c.in-Ok-spawn_for.ensures.made in
    child_belongs v w a c.add.new.self c.in-Ok.next moves (subst (λ n. n < length w.tasks) (sym next) made) c.requires.belongs
    c.in_ok-add.ensures.after
