-- The words behind the program's name. Source: the library reference, `sys.argv`; `argparse`, for an option and its value.
use Rattle.std.specs.Prelude.{ℕ, ◌^◌, ◌==◌, Bool, true, false, ◌&&◌, ◌||◌, not, List, [], ◌∷◌, ◌++◌, Option, Some, None, codes, drop, filter, length, nat_eq}
use Rattle.std.specs.Prelude.{nat_le, if◌then◌else◌}
use Rattle.std.specs.List.{list_all, starts_with}
use Rattle.std.specs.Option.{option_and_then, option_map}
use Rattle.std.specs.Str.{bytes_eq}
use Rattle.model_value.specs.Number.{number_of}

-- Files are told by their names. With the trace, calls, answers and handles have their lines too. So many turns are allowed.
pub data Command : Type 0 where
  -- writes a script's canonical text
  Check : (script : List ℕ) → Command
  -- runs a script over a journal's answers
  Replay : (script journal : List ℕ) (trace : Bool) (turns : ℕ) → Command
  -- runs a script over the outside's answers; where a file is named, each answer is recorded in it
  Run : (script : List ℕ) (recorded : Option (List ℕ)) (trace : Bool) (turns : ℕ) → Command
  -- runs the work that a seed makes
  Work : (seed : ℕ) → Command

-- a word that names a file: it is not empty and does not begin with a dash
abbrev pub is_name : List ℕ → Bool
is_name [] = false
is_name (first ∷ others) = not (first == 45)

-- ---- options
abbrev pub is_trace : List ℕ → Bool
is_trace word = bytes_eq word (codes "--trace")

abbrev pub is_turns : List ℕ → Bool
is_turns word = starts_with nat_eq word (codes "--turns=")

abbrev pub is_record : List ℕ → Bool
is_record word = starts_with nat_eq word (codes "--record=")

-- `--turns V` says what `--turns=V` says, and `--record V` what `--record=V` says
abbrev pub joined : List (List ℕ) → List (List ℕ)
joined [] = []
joined (word ∷ []) = word ∷ []
joined (word ∷ next ∷ words) =
    if bytes_eq word (codes "--turns") then (codes "--turns=" ++ next) ∷ joined words
    else (if bytes_eq word (codes "--record") then (codes "--record=" ++ next) ∷ joined words else word ∷ joined (next ∷ words))

-- the trace is asked for by one word `--trace`; it may stand once
abbrev pub trace_of : List (List ℕ) → Option Bool
trace_of [] = Some false
trace_of (trace ∷ []) = Some true
trace_of _ = None

-- the most turns that may be allowed; so many are where no word says how many
abbrev pub most_turns : ℕ
most_turns = 2 ^ 40

abbrev pub allowed : ℕ → Option ℕ
allowed turns = if nat_le 1 turns && nat_le turns most_turns then Some turns else None

-- how many turns a value allows: 1 to 13 digits
abbrev pub turns_of : List ℕ → Option ℕ
turns_of value = if nat_le (length value) 13 then option_and_then allowed (number_of value) else None

-- how many turns words `--turns=V` allow, of which one may stand
abbrev pub limit_of : List (List ℕ) → Option ℕ
limit_of [] = Some most_turns
limit_of (word ∷ []) = turns_of (drop 8 word)
limit_of _ = None

-- the file that a value names
abbrev pub named : List ℕ → Option (Option (List ℕ))
named value = if is_name value then Some (Some value) else None

-- the file that words `--record=V` name, of which one may stand
abbrev pub record_of : List (List ℕ) → Option (Option (List ℕ))
record_of [] = Some None
record_of (word ∷ []) = named (drop 9 word)
record_of _ = None

-- ---- commands
-- words by what they are, each kind in order
pub record Sorted : Type 0 where
  pub names : List (List ℕ)
  pub traces : List (List ℕ)
  pub limits : List (List ℕ)
  pub records : List (List ℕ)

abbrev pub is_known : List ℕ → Bool
is_known word = is_name word || is_trace word || is_turns word || is_record word

abbrev pub sorted : List (List ℕ) → Sorted
sorted words = record {
  names = filter is_name words;
  traces = filter is_trace words;
  limits = filter is_turns words;
  records = filter is_record words;
}

-- names and options stand in any order, and no other word among them
abbrev pub sorted_by : (Sorted → Option Command) → List (List ℕ) → Option Command
sorted_by command words = if list_all is_known words then command (sorted words) else None

abbrev pub check_of : List (List ℕ) → Option Command
check_of (script ∷ []) = if is_name script then Some (Check script) else None
check_of _ = None

-- a replay has two names, and no record
abbrev pub replay_named : (names records : List (List ℕ)) → Option (Bool → ℕ → Command)
replay_named (script ∷ journal ∷ []) [] = Some (Replay script journal)
replay_named _ _ = None

-- a run has one name
abbrev pub run_named : (names records : List (List ℕ)) → Option (Bool → ℕ → Command)
run_named (script ∷ []) records = option_map (λ recorded trace turns. Run script recorded trace turns) (record_of records)
run_named _ _ = None

-- with its trace and its limit of turns
abbrev pub limited : Option (Bool → ℕ → Command) → (traces limits : List (List ℕ)) → Option Command
limited command traces limits =
    option_and_then (λ command. option_and_then (λ trace. option_map (command trace) (limit_of limits)) (trace_of traces)) command

abbrev pub replay_with : Sorted → Option Command
replay_with words = limited (replay_named words.names words.records) words.traces words.limits

abbrev pub run_with : Sorted → Option Command
run_with words = limited (run_named words.names words.records) words.traces words.limits

abbrev pub replay_of : List (List ℕ) → Option Command
replay_of words = sorted_by replay_with (joined words)

abbrev pub run_of : List (List ℕ) → Option Command
run_of words = sorted_by run_with (joined words)

-- a seed has 1 to 6 digits
abbrev pub work_of : List (List ℕ) → Option Command
work_of (seed ∷ []) = if nat_le (length seed) 6 then option_map Work (number_of seed) else None
work_of _ = None

-- What the words ask for, where they ask for something: `check SCRIPT`, `replay SCRIPT JOURNAL [--trace] [--turns N]`,
-- `run SCRIPT [--record NAME] [--trace] [--turns N]`, or `work N`.
abbrev pub command_of : List (List ℕ) → Option Command
command_of [] = None
command_of (verb ∷ words) =
    if bytes_eq verb (codes "check") then check_of words
    else (if bytes_eq verb (codes "replay") then replay_of words
    else (if bytes_eq verb (codes "run") then run_of words
    else (if bytes_eq verb (codes "work") then work_of words else None)))
