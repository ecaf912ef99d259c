-- A select: Gos, one poll, posts, and the children whose pipes are over.
use Rattle.std.specs.Prelude.{ℕ, Bool, true, false, ◌&&◌, ◌==◌, List, [], ◌∷◌, ◌++◌, Option, Some, length, map, if◌then◌else◌}
use Rattle.std.specs.List.{filter, list_any, flat_map}
use Rattle.model_wire.specs.Call.{Item}
use Rattle.model_wire.specs.declared.answer.Answer.TheVariants as answer
use Rattle.model_wire.specs.declared.item.Item.TheVariants as item
use Rattle.model_wire.specs.declared.watch.Watch.{Watch}
use Rattle.model_wire.specs.declared.watch.Watch.TheVariants as watch
use Rattle.model_hub.specs.declared.halt.Halt.{Halt}
use Rattle.model_hub.specs.declared.halt.Halt.TheVariants.{Going, Faulted, Starving}
use Rattle.model_hub.specs.declared.child.Child.{Child}
use Rattle.model_hub.specs.declared.child.Seats.{Seats}
use Rattle.model_hub.specs.declared.child.Stay.TheVariants.{Holding, Gone}
use Rattle.model_hub.specs.Children.{runs, is_over}
use Rattle.model_pump.specs.Posts.{posts_of}
use Rattle.model_hub.specs.Hub.{Hub}
use Rattle.model_hub.specs.Others.{Others, Polled, Ready, PollFailed, PollStarved, Back, Said, Got, Failed, Memory}
use Rattle.model_hub.specs.Lanes.{serve}
use Rattle.model_hub.specs.Gathering.{Gathering, begin, gather, is_kept, is_halted}

-- ---- the poll
abbrev pub is_no_child : Watch → Bool
is_no_child (watch.Child child feeds stdin out errs exit) = false
is_no_child _ = true

-- listeners, connections and the Extra alone are polled
abbrev pub polled_watch : List Watch → List Watch
polled_watch watched = filter is_no_child watched

-- it doesn't wait where the hub has an item for an answer that has none
abbrev pub wait_for : List Item → Option ℕ → Option ℕ
wait_for [] wait = wait
wait_for (came ∷ more) wait = Some 0

abbrev pub polled_wait : List Watch → Hub → Option ℕ → Option ℕ
polled_wait watched hub wait = wait_for (begin watched hub []).items wait

-- ---- taking in
-- the poster of this seat came back, and all its posts were taken
abbrev pub is_home : Hub → List Back → ℕ → Bool
is_home hub backs seat =
    list_any (λ (back : Back). back.seat == seat && back.count == length (posts_of seat hub.taken)) backs

abbrev pub are_home : Hub → List Back → Seats → Bool
are_home hub backs seats =
    is_home hub backs seats.stdin && is_home hub backs seats.out && is_home hub backs seats.errs && is_home hub backs seats.exit

abbrev pub is_taken_in : Child → Bool
is_taken_in child = runs child.stay && is_over child

abbrev pub after_report : Hub → (ℕ → List Back) → Child → Child
after_report hub reports child =
    if is_taken_in child then record child { stay = if are_home hub (reports child.number) child.seats then Gone else Holding }
    else child

abbrev pub seats_back : Hub → (ℕ → List Back) → Child → List Seats
seats_back hub reports child =
    if is_taken_in child && are_home hub (reports child.number) child.seats then child.seats ∷ [] else []

-- Each child whose pipes are over is taken in. Its four seats may be lent again where all four posters are home.
abbrev pub take_in : (ℕ → List Back) → Hub → Hub
take_in reports hub =
    record hub {
      children = map (after_report hub reports) hub.children;
      free = hub.free ++ flat_map (seats_back hub reports) hub.children;
    }

-- ---- the whole
-- what of an answer that isn't given is kept: the items of children that posts told
abbrev pub is_childs : Item → Bool
is_childs (item.Child child told) = is_kept (item.Child child told)
is_childs _ = false

abbrev pub said_at : Halt → ℕ → List Item → Said
said_at Going now items = Got (answer.Turn now items)
said_at Faulted now items = Failed
said_at Starving now items = Memory

-- A select that fails gives nothing: what it would have given is kept, before what was kept behind it.
abbrev pub kept_at_end : Gathering → List Item
kept_at_end all = if is_halted all.halt then filter is_childs all.items ++ all.kept else all.kept

abbrev pub starves : Halt → Bool
starves Going = false
starves Faulted = false
starves Starving = true

abbrev pub end_select : (reports : ℕ → List Back) → Hub → ℕ → Gathering → Hub × Said
end_select reports hub now all = (
  take_in reports
      (record hub { children = all.children; kept = kept_at_end all; taken = all.taken; starved = starves all.halt }),
  said_at all.halt now all.items,
)

abbrev pub after_poll : List Watch → Others → Polled → Hub → Hub × Said
after_poll watched others (Ready now sockets) hub =
    end_select others.reports hub now (gather watched (begin watched hub sockets) others.posts)
after_poll watched others PollFailed hub = (hub, Failed)
after_poll watched others PollStarved hub = (record hub { starved = true }, Memory)

abbrev pub select : List Watch → Others → Hub → Hub × Said
select watched others hub = after_poll watched others others.polled (serve others.lanes watched hub)
