-- What it is for a state that is written by hand to be sound. Its groups were told of tasks in some way; and where only the
-- parts are written, some ledger stands beside them.
use Rattle.std.specs.Prelude.{ℕ, List, [], Option}
use Rattle.model_loop.specs.Ledger.{LedgerEntry}
use Rattle.model_loop.specs.Loop.{Loop}
use Rattle.model_loop.specs.Parts.{Profile, One, Parts}
use Rattle.model_loop.specs.Sound.{IsSound}

-- while this task is running, or none
abbrev pub LoopStands : Option ℕ → Loop → Type 0
LoopStands running l = (told : ℕ → List ℕ) × IsSound running told l

-- the same state under a profile
abbrev pub under : Profile → Loop → Loop
under profile l = record l { profile = profile }

-- a loop without timeouts and groups
abbrev pub bare : Parts → List LedgerEntry → Loop
bare p ledger = record { parts = p; timeouts = []; groups = []; ledger = ledger; profile = One }

abbrev pub PartsStand : Option ℕ → Parts → Type 0
PartsStand running p = (ledger : List LedgerEntry) × LoopStands running (bare p ledger)

-- in both profiles
abbrev pub PartsStandInBoth : Option ℕ → Parts → Type 0
PartsStandInBoth running p = (profile : Profile) → (ledger : List LedgerEntry) × LoopStands running (under profile (bare p ledger))
