-- Words that ask for nothing.
use Rattle.std.specs.Prelude.{List, [], ◌∷◌, None, codes}
use Rattle.row_words.specs.Words.{WordsRow, check, nothing, replay, run, work}

-- no words; a replay without its journal; options that a check has not; a run without a turn; a name that begins with a dash
abbrev pub refused_words : List WordsRow
refused_words =
    nothing []
    ∷ replay (codes "s" ∷ []) None
    ∷ check (codes "s" ∷ codes "--trace" ∷ []) None
    ∷ run (codes "s" ∷ codes "--turns" ∷ codes "0" ∷ []) None
    ∷ check (codes "-x" ∷ []) None ∷ []

abbrev pub other_verbs : List WordsRow
other_verbs =
    nothing (codes "play" ∷ codes "s" ∷ codes "j" ∷ [])
    ∷ nothing ([] ∷ codes "s" ∷ [])
    ∷ nothing (codes "--trace" ∷ codes "replay" ∷ codes "s" ∷ codes "j" ∷ []) ∷ []

abbrev pub refused_checks : List WordsRow
refused_checks =
    check [] None
    ∷ check ([] ∷ []) None
    ∷ check (codes "-s" ∷ []) None
    ∷ check (codes "s" ∷ codes "t" ∷ []) None
    ∷ check (codes "--turns=5" ∷ codes "s" ∷ []) None
    ∷ check (codes "s" ∷ codes "--record=j" ∷ []) None ∷ []

abbrev pub refused_replays : List WordsRow
refused_replays =
    replay (codes "s" ∷ [] ∷ []) None
    ∷ replay (codes "s" ∷ codes "j" ∷ codes "k" ∷ []) None
    ∷ replay (codes "s" ∷ codes "-j" ∷ []) None
    ∷ replay (codes "--" ∷ codes "s" ∷ codes "j" ∷ []) None
    ∷ replay (codes "s" ∷ codes "j" ∷ codes "--trace" ∷ codes "--trace" ∷ []) None
    ∷ replay (codes "s" ∷ codes "j" ∷ codes "--trace=1" ∷ []) None
    ∷ replay (codes "s" ∷ codes "j" ∷ codes "--turns" ∷ []) None
    ∷ replay (codes "s" ∷ codes "j" ∷ codes "--turns=" ∷ []) None
    ∷ replay (codes "s" ∷ codes "j" ∷ codes "--turns" ∷ [] ∷ []) None
    ∷ replay (codes "s" ∷ codes "j" ∷ codes "--turns" ∷ codes "--trace" ∷ []) None
    ∷ replay (codes "s" ∷ codes "j" ∷ codes "--turns=5" ∷ codes "--turns" ∷ codes "5" ∷ []) None
    ∷ replay (codes "s" ∷ codes "j" ∷ codes "--turns=0" ∷ []) None
    ∷ replay (codes "s" ∷ codes "j" ∷ codes "--turns=+5" ∷ []) None
    ∷ replay (codes "s" ∷ codes "j" ∷ codes "--turns=00000000000001" ∷ []) None
    ∷ replay (codes "s" ∷ codes "j" ∷ codes "--turns=1099511627777" ∷ []) None
    ∷ replay (codes "s" ∷ codes "--turns" ∷ codes "j" ∷ []) None
    ∷ replay (codes "s" ∷ codes "j" ∷ codes "--record=k" ∷ []) None
    ∷ replay (codes "s" ∷ codes "j" ∷ codes "--record" ∷ codes "k" ∷ []) None ∷ []

abbrev pub refused_runs : List WordsRow
refused_runs =
    run [] None
    ∷ run (codes "s" ∷ codes "j" ∷ []) None
    ∷ run (codes "s" ∷ codes "--record" ∷ []) None
    ∷ run (codes "s" ∷ codes "--record=" ∷ []) None
    ∷ run (codes "s" ∷ codes "--record" ∷ [] ∷ []) None
    ∷ run (codes "s" ∷ codes "--record=-j" ∷ []) None
    ∷ run (codes "s" ∷ codes "--record" ∷ codes "--trace" ∷ []) None
    ∷ run (codes "s" ∷ codes "--record=j" ∷ codes "--record" ∷ codes "j" ∷ []) None
    ∷ run (codes "--record" ∷ codes "s" ∷ []) None
    ∷ run (codes "--" ∷ codes "s" ∷ []) None
    ∷ run (codes "s" ∷ codes "--records=j" ∷ []) None ∷ []

abbrev pub refused_works : List WordsRow
refused_works =
    work [] None
    ∷ work ([] ∷ []) None
    ∷ work (codes "1000000" ∷ []) None
    ∷ work (codes "0000000" ∷ []) None
    ∷ work (codes "-1" ∷ []) None
    ∷ work (codes "+1" ∷ []) None
    ∷ work (codes "1x" ∷ []) None
    ∷ work (codes "1" ∷ codes "2" ∷ []) None
    ∷ work (codes "1" ∷ codes "--trace" ∷ []) None ∷ []
