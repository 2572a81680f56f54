-- What is read line by line.
use Rattle.std.proofs.Common.{◌≡◌, ◌<◌, ◌≤◌, ℕ, ◌+◌, List, ◌∷◌, length, map, get_or, drop, sym, ap, subst, ◌∙◌, inr, arith}
use Rattle.std.specs.Prelude.{IsTrue}
use Rattle.script_lines.specs.declared.line.NumberedLine as held
use Rattle.script_lines.specs.Lines.{NumberedLine}
use Rattle.script_lines.specs.Views as script
use Rattle.script_lines.proofs.Shared.{lines_from}
use Rattle.body_text.specs.declared.allowance.Allowance.{Allowance}
use Rattle.body_text.specs.declared.judge.ReadLine.{ReadLine}
use Rattle.body_text.specs.declared.line.Found.{Found}
use Rattle.body_text.specs.declared.line.LineKind.{LineKind}
use Rattle.body_text.specs.declared.line.LineKind.TheVariants as kind
use Rattle.body_text.specs.Grammar.{Said, Writes, said_line}
use Rattle.body_text.specs.Places.{fits, kind_of, moved}
use Rattle.body_text.specs.Verdicts.{IsFaulty}
use Rattle.body_text.specs.Views.{AreRead, Unended, found_of, read_at}
use Rattle.body_text.proofs.Judgements.{says_read}

-- what was found in a line that may stand where so many are begun
pub record FoundAt (allowance : Allowance) (depth : ℕ) (bytes : List ℕ) (f : Found) : Type 0 where
  pub said : Said
  pub writes : Writes said bytes
  pub stands : IsTrue (fits allowance depth (kind_of (said_line said)))
  pub is : f ≡ found_of allowance.formulas said

pub found_at : (allowance : Allowance) (depth : ℕ) (bytes : List ℕ) (f : Found) → (x : Said) × Writes x bytes × IsTrue (fits allowance depth (kind_of (said_line x))) × (f ≡ found_of allowance.formulas x) → FoundAt allowance depth bytes f
found_at allowance depth bytes f h = record { said = h.0; writes = h.1; stands = h.2; is = h.3 }

after_line : (allowance : Allowance) (n m : ℕ) (bytes : List ℕ) (f : Found) (a : FoundAt allowance n bytes f) → m ≡ moved n f.kind → m ≡ moved n (kind_of (said_line a.said))
after_line allowance n m bytes f a e = e ∙ ap (λ (g : Found). moved n g.kind) a.is

-- a line begins at most one more
pub one_deeper : (n : ℕ) (k : LineKind) → moved n k ≤ n + 1
one_deeper n (kind.Plain s) = omega arith
one_deeper n (kind.Opens s) = omega arith
one_deeper n kind.End = omega arith

-- a fault of a later line is one of the lines from here on
pub faulty_later : (allowance : Allowance) (n m : ℕ) (ls : List held.NumberedLine) (i : ℕ) (d : held.NumberedLine) (f : Found) (k : ℕ) → i < length ls
    → FoundAt allowance n (get_or ls i d).text.now f → m ≡ moved n f.kind → IsFaulty allowance m (map script.line_of (drop (i + 1) ls)) k → IsFaulty allowance n (map script.line_of (drop i ls)) k
faulty_later allowance n m ls i d f k h a e later =
    let bytes = (get_or ls i d).text.now in
    rw (lines_from ls i d h)
    (inr (a.said, a.writes, a.stands, subst (λ (z : ℕ). IsFaulty allowance z (map script.line_of (drop (i + 1) ls)) k) (after_line allowance n m bytes f a e) later))

-- this line is read, and then the later ones
pub read_later : (allowance : Allowance) (n m : ℕ) (ls : List held.NumberedLine) (i : ℕ) (d : held.NumberedLine) (f : Found) (r : ReadLine) (rs : List ReadLine) (to : ℕ) → i < length ls
    → FoundAt allowance n (get_or ls i d).text.now f → m ≡ moved n f.kind → r ≡ read_at n (get_or ls i d).number f
    → AreRead allowance m (map script.line_of (drop (i + 1) ls)) rs to → AreRead allowance n (map script.line_of (drop i ls)) (r ∷ rs) to
read_later allowance n m ls i d f r rs to h a e is later =
    let bytes = (get_or ls i d).text.now in
    rw (lines_from ls i d h) (
      a.said,
      a.writes,
      a.stands,
      is ∙ ap (read_at n (get_or ls i d).number) a.is,
      subst (λ (z : ℕ). AreRead allowance z (map script.line_of (drop (i + 1) ls)) rs to) (after_line allowance n m bytes f a e) later,
    )

-- lines that were read up to a place where something isn't ended
pub left_open : (allowance : Allowance) (ls : List NumberedLine) (rs : List ReadLine) (to : ℕ) → AreRead allowance 0 ls rs to → 0 < to → Unended allowance ls
left_open allowance ls rs to a h =
    let s = says_read allowance 0 ls rs to a in
    record { xs = s.xs; say = s.say; begun = subst (λ (n : ℕ). 0 < n) (sym s.end) h }
