-- The generated workload, from numbers to lines.
use Rattle.std.specs.Prelude.{ℕ, List, [], ◌∷◌, ◌++◌, ◌*◌, ◌%◌, ◌==◌, flat_map, codes, if◌then◌else◌}
use Rattle.std.specs.List.{range_with_len}
use Rattle.std.specs.Fmt.{decimal}

-- a line, and the LF that ends it
abbrev pub ended : List ℕ → List ℕ
ended line = line ++ codes "\n"

-- a cell, a switch, three computeds over them, and a page that shows the last of these
unfoldable pub first_lines : List (List ℕ)
first_lines =
    codes "cell a = 0" ∷ codes "cell s = true" ∷ codes "computed b = a + 1" ∷ codes "computed c = a * 2"
    ∷ codes "computed d = if s then b + c else b" ∷ codes "template t" ∷ codes "tag @p" ∷ codes "text d" ∷ codes "end" ∷ codes "end"
    ∷ codes "mount p t" ∷ []

-- the cell is set
abbrev pub line_of_set : ℕ → List ℕ
line_of_set value = codes "set a " ++ decimal value

-- the switch is turned in every third round, off and on by turns
abbrev pub switch_lines : ℕ → List (List ℕ)
switch_lines i = if i % 6 == 3 then codes "set s false" ∷ [] else (if i % 6 == 0 then codes "set s true" ∷ [] else [])

-- the page is brought up to date in every fourth round
abbrev pub flush_lines : ℕ → List (List ℕ)
flush_lines i = if i % 4 == 0 then codes "flush" ∷ [] else []

-- the lines of a round
unfoldable pub lines_of_round : ℕ → List (List ℕ)
lines_of_round i = line_of_set ((37 * i) % 100) ∷ (switch_lines i ++ flush_lines i)

-- the lines of the workload of so many rounds, of which the first is round 1
abbrev pub workload : ℕ → List (List ℕ)
workload rounds = (first_lines ++ flat_map lines_of_round (range_with_len 1 rounds)) ++ codes "flush" ∷ []

-- its script
abbrev pub workload_text : ℕ → List ℕ
workload_text rounds = flat_map ended (workload rounds)
