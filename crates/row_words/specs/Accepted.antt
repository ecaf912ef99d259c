-- Names and options in any order.
use Rattle.std.specs.Prelude.{ℕ, Bool, true, false, List, [], ◌∷◌, Option, Some, None, codes}
use Rattle.model_words.specs.Words.{Command, Check, Replay, Run, Work}
use Rattle.row_words.specs.Words.{WordsRow, check, replay, run, work}

abbrev pub accepted_checks : List WordsRow
accepted_checks =
    check (codes "s" ∷ []) (Some (Check (codes "s")))
    ∷ check (codes "check" ∷ []) (Some (Check (codes "check")))
    ∷ check (codes "a-b" ∷ []) (Some (Check (codes "a-b"))) ∷ []

-- so many turns are allowed where no word says how many
abbrev pub all : ℕ
all = 1099511627776

-- a replay of `s` over `j`
abbrev pub of_both : Bool → ℕ → Option Command
of_both trace turns = Some (Replay (codes "s") (codes "j") trace turns)

abbrev pub accepted_replays : List WordsRow
accepted_replays =
    replay (codes "s" ∷ codes "j" ∷ []) (of_both false all)
    ∷ replay (codes "s" ∷ codes "j" ∷ codes "--trace" ∷ []) (of_both true all)
    ∷ replay (codes "--trace" ∷ codes "s" ∷ codes "j" ∷ []) (of_both true all)
    ∷ replay (codes "s" ∷ codes "--turns" ∷ codes "5" ∷ codes "j" ∷ []) (of_both false 5)
    ∷ replay (codes "s" ∷ codes "--turns=5" ∷ codes "j" ∷ codes "--trace" ∷ []) (of_both true 5)
    ∷ replay (codes "--trace" ∷ codes "--turns" ∷ codes "0000000000001" ∷ codes "s" ∷ codes "j" ∷ []) (of_both true 1)
    ∷ replay (codes "s" ∷ codes "j" ∷ codes "--turns=1099511627776" ∷ []) (of_both false all) ∷ []

-- a run of `s`
abbrev pub of_script : Option (List ℕ) → Bool → ℕ → Option Command
of_script recorded trace turns = Some (Run (codes "s") recorded trace turns)

abbrev pub accepted_runs : List WordsRow
accepted_runs =
    run (codes "s" ∷ []) (of_script None false all)
    ∷ run (codes "s" ∷ codes "--record" ∷ codes "j" ∷ []) (of_script (Some (codes "j")) false all)
    ∷ run (codes "--record=j" ∷ codes "s" ∷ []) (of_script (Some (codes "j")) false all)
    ∷ run (codes "--record" ∷ codes "j" ∷ codes "--trace" ∷ codes "s" ∷ codes "--turns" ∷ codes "7" ∷ []) (of_script (Some (codes "j")) true 7)
    ∷ run (codes "--turns=7" ∷ codes "s" ∷ codes "--record=a=b" ∷ []) (of_script (Some (codes "a=b")) false 7)
    ∷ run (codes "s" ∷ codes "--record==" ∷ []) (of_script (Some (codes "=")) false all)
    ∷ run (codes "s" ∷ codes "--trace" ∷ []) (of_script None true all) ∷ []

abbrev pub accepted_works : List WordsRow
accepted_works =
    work (codes "0" ∷ []) (Some (Work 0))
    ∷ work (codes "000007" ∷ []) (Some (Work 7))
    ∷ work (codes "999999" ∷ []) (Some (Work 999999)) ∷ []
