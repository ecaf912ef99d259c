-- What a launcher answers, by what is seen of it before and after.
use Rattle.std.specs.Prelude.{◌≡◌, ℕ, List}
use Rattle.model_wire.specs.Told.{Rose}
use Rattle.model_hub.specs.Told.{LauncherSeen, with_launch}
use Rattle.aio_hub.specs.declared.launcher.Launched.{Launched}
use Rattle.aio_hub.specs.declared.launcher.Launched.TheVariants as launched

-- no child was started and none was killed
abbrev pub StartsNone : LauncherSeen → LauncherSeen → Type 0
StartsNone old new = (new.launches ≡ old.launches) × (new.kills ≡ old.kills)

-- a child was started with these words and this number, or none was, and the count rose
abbrev pub LaunchAnswers : {Run : Type 0} → List (List ℕ) → ℕ → LauncherSeen → LauncherSeen → Launched Run → Type 0
LaunchAnswers words child old new (launched.Running run) =
    (new.launches ≡ with_launch words child old.launches) × (new.kills ≡ old.kills)
LaunchAnswers words child old new launched.Refused = StartsNone old new × Rose old.faults new.faults
