-- What the words of a replay or a run ask for, where some were taken and others are left.
use Rattle.std.specs.Prelude.{ℕ, Bool, true, false, List, [], ◌∷◌, ◌++◌, Option, Some, None, codes, filter, if◌then◌else◌}
use Rattle.std.specs.List.{list_all}
use Rattle.std.specs.Option.{option_copied}
use Rattle.model_words.specs.Words.{Command, Sorted, is_known, is_name, is_record, is_trace, is_turns, joined, replay_of, replay_with, run_of, run_with}
use Rattle.aio_words.specs.declared.given.Given.{Given}
use Rattle.aio_words.specs.declared.given.Names.{Names}
use Rattle.aio_words.specs.declared.given.Names.TheVariants as names
use Rattle.aio_words.specs.declared.given.Verb.{Verb}
use Rattle.aio_words.specs.declared.given.Verb.TheVariants as verb

abbrev pub names_of : Names → List (List ℕ)
names_of names.None = []
names_of (names.Script script) = script.now ∷ []
names_of (names.Both script journal) = script.now ∷ journal.now ∷ []

abbrev pub traces_of : Bool → List (List ℕ)
traces_of true = codes "--trace" ∷ []
traces_of false = []

-- a value as one word with its option
abbrev pub with_option : List ℕ → List ℕ
with_option value = codes "--turns=" ++ value

abbrev pub limits_of : Option (List ℕ) → List (List ℕ)
limits_of None = []
limits_of (Some value) = with_option value ∷ []

abbrev pub with_record_option : List ℕ → List ℕ
with_record_option name = codes "--record=" ++ name

abbrev pub records_of : Option (List ℕ) → List (List ℕ)
records_of None = []
records_of (Some name) = with_record_option name ∷ []

-- what sorted words ask for
abbrev pub command_with : Verb → Sorted → Option Command
command_with verb.Replay words = replay_with words
command_with verb.Run words = run_with words

-- what all words behind the verb ask for
abbrev pub asked_of : Verb → List (List ℕ) → Option Command
asked_of verb.Replay words = replay_of words
asked_of verb.Run words = run_of words

-- these words with further ones
abbrev pub gathered_with : Verb → (names traces limits records words : List (List ℕ)) → Option Command
gathered_with verb names traces limits records words =
    if list_all is_known words
    then command_with verb (record {
      names = names ++ filter is_name words;
      traces = traces ++ filter is_trace words;
      limits = limits ++ filter is_turns words;
      records = records ++ filter is_record words;
    })
    else None

abbrev pub gathered : Given → List (List ℕ) → Option Command
gathered given words =
    gathered_with given.verb (names_of given.names) (traces_of given.trace) (limits_of (option_copied given.turns))
    (records_of (option_copied given.recorded)) words

-- what the words ask for, of which some were taken
abbrev pub left : Given → List (List ℕ) → Option Command
left given words = gathered given (joined words)
