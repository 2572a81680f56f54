-- What the program holds of lines that it reads.
use Rattle.std.specs.Prelude.{◌≡◌, ℕ, Bool, true, false, ◌||◌, List, [], ◌∷◌, map, reverse}
use Rattle.std.specs.Prelude.{Option, Some, None, option_map, option_and_then, Result, Ok, Err, IsTrue}
use Rattle.sig_words.specs.Lexemes.{Lexeme}
use Rattle.sig_words.specs.Literals.{plain}
use Rattle.formula_text.specs.Grammar.{Draft}
use Rattle.formula_text.specs.Slots.{Wiring, refusal, wired}
use Rattle.formula_text.specs.declared.wired.Allow.{Allow}
use Rattle.formula_text.specs.declared.wired.FormulaFault.{FormulaFault}
use Rattle.line_forms.specs.Findings as findings
use Rattle.line_forms.specs.Slots.{among_names, with_each}
use Rattle.line_forms.specs.Told.{unless_faulty}
use Rattle.script_lines.specs.Lines.{NumberedLine}
use Rattle.tpl_syntax.specs.declared.judge.ReadLine.{ReadLine}
use Rattle.tpl_syntax.specs.declared.line.Line.{Line}
use Rattle.tpl_syntax.specs.declared.line.Line.TheVariants as line
use Rattle.tpl_syntax.specs.declared.line.Purpose.TheVariants as purpose
use Rattle.tpl_syntax.specs.declared.place.Level.{Level}
use Rattle.tpl_syntax.specs.declared.place.Place.{Place as HeldPlace}
use Rattle.tpl_syntax.specs.declared.place.Role.{Role as HeldRole}
use Rattle.tpl_syntax.specs.declared.place.Role.TheVariants as held_role
use Rattle.tpl_syntax.specs.declared.read.Reading.{Reading}
use Rattle.tpl_syntax.specs.declared.read.Reading.TheVariants as reading
use Rattle.tpl_syntax.specs.declared.reader.Scan.{Scan}
use Rattle.tpl_syntax.specs.declared.reader.Seen.{Seen}
use Rattle.tpl_syntax.specs.Grammar.{Row, templates, Said, Writes, said_line}
use Rattle.tpl_syntax.specs.Refusals.{Judged, allowed, excess, has_end, is_bare, misplacing, refusal_of}
use Rattle.tpl_syntax.specs.Lines.{Plan, formula_of, mapped}
use Rattle.tpl_syntax.specs.Places.{Place, Role, leaf, attribute, begins, turns, ends, fits, is_closed, moved, role_of, top}
use Rattle.tpl_syntax.specs.Templates.{Answer, IsFaulty, Say, Sayings, reached, unless_refused}

-- what is begun, held with the innermost last
abbrev pub levels_of : List Level → List Level
levels_of held = reverse held

-- a place that is held
abbrev pub place_of : HeldPlace → Place
place_of p = record { levels = levels_of p.levels.items; in_tag = p.in_tag; attributes = p.attributes.items }

-- what a line is, as it is held
abbrev pub role_seen : HeldRole → Role
role_seen held_role.Leaf = leaf
role_seen (held_role.Attribute n) = attribute n.now
role_seen (held_role.Begins l) = begins l
role_seen held_role.Turns = turns
role_seen held_role.Ends = ends

-- ---- one line

-- whether `</` stands in a literal, found before these characters or with them
abbrev pub finds : Scan → List ℕ → Bool
finds s cs = has_end s.opened (plain s.behind cs) || s.found

-- a formula as it is held: with slots or what is wrong with it, and whether it is a bare text
abbrev pub seen : Allow → Draft → Seen
seen allow x = record { told = unless_faulty (refusal allow x) (wired x); bare = is_bare x }

-- what is found in a line that says this
abbrev pub found_of : Allow → Said → Line Seen
found_of allow x = mapped (seen allow) (said_line x)

-- what is found in the tokens behind the first word, as a line of this row
abbrev pub found_as : Allow → Row → List Lexeme → Option (Line Seen)
found_as allow r ls = findings.found_as templates (found_of allow) r ls

-- what is found by the first of the rows that reads them
abbrev pub found_first : Allow → List Row → List Lexeme → Option (Line Seen)
found_first allow rs ls = findings.found_first templates (found_of allow) rs ls

-- what is wrong with a formula that was read
abbrev pub fault_told : Result Wiring FormulaFault → Option FormulaFault
fault_told (Ok w) = None
fault_told (Err f) = Some f

-- what is wrong with the formula of a line that was read
abbrev pub fault_seen : Line Seen → Option FormulaFault
fault_seen l = option_and_then (λ s. fault_told s.told) (formula_of l)

-- whether a line that was read is a bare text
abbrev pub bare_seen : Line Seen → Bool
bare_seen (line.Over purpose.Text s) = s.bare
bare_seen _ = false

-- a line that was found at a place
abbrev pub read_at : Place → ℕ → Line Seen → ReadLine
read_at p k l =
    record { number = k; misplaced = misplacing p (fault_seen l) (bare_seen l) (role_of l); excess = excess (fault_seen l); line = l }

-- what is read at a place of the line of a number that says this
abbrev pub read_of : Place → ℕ × Said → ReadLine
read_of p x = read_at p x.0 (found_of (allowed p) x.1)

-- ---- all lines

-- what is read of lines that say this
abbrev pub readings : Place → Sayings → List ReadLine
readings p [] = []
readings p (x ∷ xs) = read_of p x ∷ readings (moved p (said_line x.1)) xs

-- from a place up to another, the lines were read so
abbrev pub AreRead : Place → List NumberedLine → List ReadLine → Place → Type 0
AreRead p [] [] to = p ≡ to
AreRead p (l ∷ ls) (r ∷ rs) to =
    (x : Said) × Writes x l.1 × IsTrue (fits p (said_line x)) × (r ≡ read_of p (l.0, x)) × AreRead (moved p (said_line x)) ls rs to
AreRead p _ _ to = ⊥

-- lines were read up to a place where all is ended
pub record Whole (ls : List NumberedLine) (rs : List ReadLine) : Type 0 where
  pub to : Place
  pub closed : is_closed to ≡ true
  pub read : AreRead top ls rs to

-- lines say something, and something that they begin isn't ended
pub record Unended (ls : List NumberedLine) : Type 0 where
  pub xs : Sayings
  pub say : Say top ls xs
  pub begun : is_closed (reached top xs) ≡ false

-- what was read of the lines of a template
abbrev pub IsReading : List NumberedLine → Reading → Type 0
IsReading ls (reading.Faulty k) = IsFaulty top ls k
IsReading ls reading.Unended = Unended ls
IsReading ls (reading.Said rs) = Whole ls rs.items

-- what is wrong with a line that was read
abbrev pub judged_read : ReadLine → Judged
judged_read r = record { number = r.number; misplaced = r.misplaced; excess = r.excess }

-- ---- the template of lines that nothing is wrong with

-- a formula that nothing is wrong with
abbrev pub wired_told : Result Wiring FormulaFault → Option Wiring
wired_told (Ok w) = Some w
wired_told (Err f) = None

-- a line that nothing is wrong with
abbrev pub wired_line : Line Seen → Option (Line Wiring)
wired_line (line.Plain m) = Some (line.Plain m)
wired_line (line.Over p s) = option_map (λ w. line.Over p w) (wired_told s.told)

-- a line before those that nothing is wrong with, if nothing is wrong with it
abbrev pub with_line : Option (Line Wiring) → List (Line Wiring) → List (Line Wiring)
with_line None ls = ls
with_line (Some l) ls = l ∷ ls

-- the lines that nothing is wrong with
abbrev pub sound_lines : List ReadLine → List (Line Wiring)
sound_lines [] = []
sound_lines (r ∷ rs) = with_line (wired_line r.line) (sound_lines rs)

-- those names, and behind them the others of a wired formula
abbrev pub with_wired : List (List ℕ) → Option Wiring → List (List ℕ)
with_wired ns None = ns
with_wired ns (Some w) = with_each ns w.1

-- those names, and behind them the others of the lines
abbrev pub with_all : List (List ℕ) → List (Line Wiring) → List (List ℕ)
with_all ns [] = ns
with_all ns (l ∷ ls) = with_all (with_wired ns (formula_of l)) ls

-- the template of wired lines
abbrev pub plan_wired : List (Line Wiring) → Plan
plan_wired ls = record { lines = map (mapped (among_names (with_all [] ls))) ls; names = with_all [] ls }

-- what lines are that were read
abbrev pub answer_read : List ReadLine → Answer
answer_read rs = unless_refused (refusal_of (map judged_read rs)) (plan_wired (sound_lines rs))
