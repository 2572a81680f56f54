-- Where a script may be cut, and what holds of both parts.
use Rattle.std.specs.Prelude.{◌≡◌, ◌+◌, ◌++◌, ℕ, true, List, length}
use Rattle.std.specs.List.{AllByRecursion}
use Rattle.effect_model.specs.Worlds.{Environment}
use Rattle.script_lines.specs.Lines.{EndsLine, kept_lines, lines}
use Rattle.script_lines.specs.Pieces.{Piece, outside, pieces_of, place_after}
use Rattle.live_cmd.specs.declared.command.Item.{Item}
use Rattle.script_items.specs.Items.{ItemsFrom}
use Rattle.live_words.specs.declared.jobs.ScriptJob.{ScriptJob}
use Rattle.live_report.specs.Reports.{output_of}
use Rattle.live_model.specs.Machine.{Machine}
use Rattle.live_model.specs.Output.{entries_from, machine_after}

-- Bytes behind which a script may be cut: there are none or they end with LF, and each block that begins in them ends in them.
pub record IsWhole (x : List ℕ) : Type 0 where
  pub line : EndsLine x
  pub blocks : AllByRecursion (λ (p : Piece). p.ended ≡ true) (pieces_of 1 x)

-- the number of the line behind bytes whose first line has the number n
abbrev pub next_number : ℕ → List ℕ → ℕ
next_number n x = n + length (lines x)

-- ---- laws

-- The items of a script are those of its parts in turn, and no others.
abbrev pub ItemsLaw : Type 0
ItemsLaw = (n : ℕ) (x y : List ℕ) (is js : List Item) → IsWhole x → ItemsFrom n x is → ItemsFrom (next_number n x) y js →
    ItemsFrom n (x ++ y) (is ++ js) × ((ks : List Item) → ItemsFrom n (x ++ y) ks → ks ≡ is ++ js)

-- the items of a script, parted
abbrev pub PartsLaw : Type 0
PartsLaw = (n : ℕ) (x y : List ℕ) (ks : List Item) → IsWhole x → ItemsFrom n (x ++ y) ks →
    (is : List Item) × (js : List Item) × ItemsFrom n x is × ItemsFrom (next_number n x) y js × (ks ≡ is ++ js)

-- Whatever number their first line has, such bytes end outside a block, and bytes that end a line and end there are such bytes.
abbrev pub WholeLaw : Type 0
WholeLaw = (n : ℕ) (x : List ℕ) → (IsWhole x → place_after outside (kept_lines n x) ≡ outside)
    × (EndsLine x → place_after outside (kept_lines n x) ≡ outside → IsWhole x)

-- what items tell that are done one after the other, and the machine that they come to
abbrev pub EntriesLaw : Type 0
EntriesLaw = (env : Environment) (m : Machine) (is js : List Item) →
    (entries_from env m (is ++ js) ≡ entries_from env m is ++ entries_from env (machine_after env m is) js)
    × (machine_after env m (is ++ js) ≡ machine_after env (machine_after env m is) js)

-- What a job prints of a script begins with what it prints of the first part, and ends with what it prints of the second part, whose lines have
-- the next numbers and whose items go on from the machine that the first part came to.
abbrev pub OutputLaw : ScriptJob → Type 0
OutputLaw j = (env : Environment) (m : Machine) (n : ℕ) (x y : List ℕ) (is ks : List Item) → IsWhole x → ItemsFrom n x is → ItemsFrom n (x ++ y) ks →
    (js : List Item) × ItemsFrom (next_number n x) y js
    × (output_of j ks (entries_from env m ks)
    ≡ output_of j is (entries_from env m is) ++ output_of j js (entries_from env (machine_after env m is) js))
