-- What a launcher in memory answers.
use Rattle.std.specs.Prelude.{◌≡◌, ℕ, List, [], ◌∷◌, true, false}
use Rattle.model_hub.specs.Told.{Launches, Kills, one_more}
use Rattle.aio_inbox.specs.declared.view.PosterView.{PosterView}
use Rattle.aio_hub.specs.declared.kit.PumpKit.{PumpKit}
use Rattle.aio_hub.specs.declared.kit.PumpReports.{PumpReports}
use Rattle.aio_hub.specs.declared.launcher.Launched.{Launched}
use Rattle.aio_hub.specs.declared.launcher.Launched.TheVariants as launched
use Rattle.aio_hub.specs.InMemory.{Plan, plan_of, fails_next, after_call}
use Rattle.aio_hub.specs.Plays.{ChildPosts, no_posts, PlaysAll}

-- A launcher in memory: what the pumps of the next children are to post, which launches fail, and what it launched and
-- killed.
pub record LauncherState : Type 0 where
  pub left : List ChildPosts
  pub plan : Plan
  pub launches : Launches
  pub kills : Kills

abbrev pub new_launcher : List ChildPosts → List ℕ → LauncherState
new_launcher children failing =
    record {
      left = children;
      plan = plan_of failing;
      launches = record { count = 0; words = []; child = 0 };
      kills = record { count = 0; child = 0 };
    }

-- what the next child's pumps are to post: nothing past the list
abbrev pub next_posts : List ChildPosts → ChildPosts
next_posts [] = no_posts
next_posts (first ∷ more) = first

abbrev pub later_posts : List ChildPosts → List ChildPosts
later_posts [] = []
later_posts (first ∷ more) = more

abbrev pub after_launch : List (List ℕ) → ℕ → LauncherState → LauncherState
after_launch words child state =
    record {
      left = later_posts state.left;
      plan = after_call state.plan;
      launches = record { count = one_more state.launches.count; words = words; child = child };
      kills = state.kills;
    }

-- a launch that is refused takes nothing of the list
abbrev pub after_refusal : LauncherState → LauncherState
after_refusal state = record state { plan = after_call state.plan }

abbrev pub after_kill : ℕ → LauncherState → LauncherState
after_kill child state = record state { kills = record { count = one_more state.kills.count; child = child } }

-- A launch is refused exactly where it is one of those that fail; else its pumps post what stands next in the list.
abbrev pub AnswersLaunch : {Inbox : Type 0} → List (List ℕ) → PumpKit Inbox PosterView → LauncherState → LauncherState
    → Launched (PumpReports PosterView) → Type 0
AnswersLaunch words kit old new (launched.Running run) =
    (fails_next old.plan ≡ false) × (new ≡ after_launch words kit.child old) × PlaysAll (next_posts old.left) kit run
AnswersLaunch words kit old new launched.Refused = (fails_next old.plan ≡ true) × (new ≡ after_refusal old)
