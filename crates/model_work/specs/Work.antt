-- The work that a number makes: a script whose group of tasks sleeps while main reads lines from a connection, and the
-- journal that it runs over.
-- Source: numbers are drawn as by `minstd_rand` of C++'s `<random>`, the generator of Park, Miller and Stockmeyer.
use Rattle.std.specs.Prelude.{ℕ, zero, suc, ◌+◌, ◌*◌, ◌%◌, List, [], ◌∷◌, ◌++◌, flat_map, replicate, codes}
use Rattle.std.specs.Fmt.{decimal}
use Prim.Native.String.{String}

-- ---- numbers
-- the number that is drawn from a seed at this place; before the first stands one more than the seed
abbrev pub draw : ℕ → ℕ → ℕ
draw seed zero = seed + 1
draw seed (suc place) = draw seed place * 48271 % 2147483647

-- how many tasks the group has: 100 to 199
abbrev pub group_size : ℕ → ℕ
group_size seed = 100 + draw seed 1 % 100

-- how long a task of the group sleeps; its tasks are counted from 1
abbrev pub delay : ℕ → ℕ → ℕ
delay seed task = draw seed (task + 1) % 1000

-- so many numbers in order, from this one on
unfoldable pub numbers_from : ℕ → ℕ → List ℕ
numbers_from first zero = []
numbers_from first (suc count) = first ∷ numbers_from (first + 1) count

-- ---- the script
-- the text of lines, each with its newline
abbrev pub lines_text : List String → List ℕ
lines_text [] = []
lines_text (line ∷ lines) = codes line ++ (10 ∷ lines_text lines)

-- a task of the group prints which comes first, the end of its sleep or a timeout
abbrev pub sleeper_text : List ℕ
sleeper_text = lines_text (
    "def w(i, d)"
    ∷ "  try"
    ∷ "    with timeout(500) as o"
    ∷ "      yield from sleep(d)"
    ∷ "    end"
    ∷ "    print i, \"slept\""
    ∷ "  except TimeoutError"
    ∷ "    print i, \"late\""
    ∷ "  end"
    ∷ "end"
    ∷ [])

abbrev pub opening_text : List ℕ
opening_text = lines_text (
    "def main()"
    ∷ "  c = yield from connect(9)"
    ∷ "  n = 0"
    ∷ "  with group as g"
    ∷ [])

-- the line that makes this task, which sleeps so long
abbrev pub create_text : ℕ → ℕ → List ℕ
create_text task delay = codes "    yield from create(g, w, " ++ decimal task ++ codes ", " ++ decimal delay ++ codes ")\n"

-- main reads 300 lines while they sleep
abbrev pub reading_text : List ℕ
reading_text = lines_text (
    "    while n < 300"
    ∷ "      b = yield from readline(c)"
    ∷ "      n = n + 1"
    ∷ "    end"
    ∷ "  end"
    ∷ "  print n"
    ∷ "end"
    ∷ [])

-- the lines that make the tasks of the group
abbrev pub creating_text : ℕ → List ℕ
creating_text seed = flat_map (λ task. create_text task (delay seed task)) (numbers_from 1 (group_size seed))

abbrev pub script : ℕ → List ℕ
script seed = sleeper_text ++ (opening_text ++ (creating_text seed ++ reading_text))

-- ---- the journal, which is the same for every seed
-- the connection is up at time 0
abbrev pub connecting_text : List ℕ
connecting_text = lines_text ("turn 0" ∷ "conn" ∷ "turn 0 C0 up" ∷ "turn 0" ∷ [])

-- at this time a line comes: letters x, 60 at most, and its newline
abbrev pub arrival_text : ℕ → List ℕ
arrival_text time = codes "turn " ++ decimal time ++ codes " C0 r\ndata b\"" ++ replicate (time % 61) 120 ++ codes "\\n\"\n"

-- at this time nothing comes
abbrev pub quiet_text : ℕ → List ℕ
quiet_text time = codes "turn " ++ decimal time ++ codes "\n"

abbrev pub journal : List ℕ
journal = connecting_text ++ (flat_map arrival_text (numbers_from 1 300) ++ flat_map quiet_text (numbers_from 301 1200))
