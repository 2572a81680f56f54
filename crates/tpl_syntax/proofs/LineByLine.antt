-- What is read line by line.
use Rattle.std.proofs.Common.{◌≡◌, ◌<◌, ℕ, ◌+◌, false, List, ◌∷◌, length, map, get_or, drop, ap, subst, ◌∙◌, inr}
use Rattle.std.specs.Prelude.{IsTrue}
use Rattle.script_lines.specs.declared.line.NumberedLine as held
use Rattle.script_lines.specs.Lines.{NumberedLine}
use Rattle.script_lines.specs.Views as script
use Rattle.script_lines.proofs.Shared.{lines_from}
use Rattle.tpl_syntax.specs.declared.judge.ReadLine.{ReadLine}
use Rattle.tpl_syntax.specs.declared.line.Line.{Line}
use Rattle.tpl_syntax.specs.declared.reader.Seen.{Seen}
use Rattle.tpl_syntax.specs.Grammar.{Said, Writes, said_line}
use Rattle.tpl_syntax.specs.Refusals.{allowed}
use Rattle.tpl_syntax.specs.Places.{Place, fits, is_closed, moved, top}
use Rattle.tpl_syntax.specs.Templates.{IsFaulty}
use Rattle.tpl_syntax.specs.Views.{AreRead, Unended, found_of, read_at}
use Rattle.tpl_syntax.proofs.Places.{same_moved}
use Rattle.tpl_syntax.proofs.Judgements.{says_read}

-- what was found in a line that may stand at a place
pub record FoundAt (p : Place) (bytes : List ℕ) (l : Line Seen) : Type 0 where
  pub said : Said
  pub writes : Writes said bytes
  pub stands : IsTrue (fits p (said_line said))
  pub is : l ≡ found_of (allowed p) said

pub found_at : (p : Place) (bytes : List ℕ) (l : Line Seen) → (x : Said) × Writes x bytes × IsTrue (fits p (said_line x)) × (l ≡ found_of (allowed p) x) → FoundAt p bytes l
found_at p bytes l h = record { said = h.0; writes = h.1; stands = h.2; is = h.3 }

after_line : (p q : Place) (bytes : List ℕ) (l : Line Seen) (a : FoundAt p bytes l) → q ≡ moved p l → q ≡ moved p (said_line a.said)
after_line p q bytes l a e = e ∙ ap (λ (m : Line Seen). moved p m) a.is ∙ same_moved p _ (said_line a.said)

-- a fault of a later line is one of the lines from here on
pub faulty_later : (p q : Place) (ls : List held.NumberedLine) (i : ℕ) (d : held.NumberedLine) (l : Line Seen) (k : ℕ) → i < length ls
    → FoundAt p (get_or ls i d).text.now l → q ≡ moved p l → IsFaulty q (map script.line_of (drop (i + 1) ls)) k → IsFaulty p (map script.line_of (drop i ls)) k
faulty_later p q ls i d l k h a e later =
    let bytes = (get_or ls i d).text.now in
    rw (lines_from ls i d h)
    (inr (a.said, a.writes, a.stands, subst (λ (z : Place). IsFaulty z (map script.line_of (drop (i + 1) ls)) k) (after_line p q bytes l a e) later))

-- this line is read, and then the later ones
pub read_later : (p q : Place) (ls : List held.NumberedLine) (i : ℕ) (d : held.NumberedLine) (l : Line Seen) (r : ReadLine) (rs : List ReadLine) (to : Place) → i < length ls
    → FoundAt p (get_or ls i d).text.now l → q ≡ moved p l → r ≡ read_at p (get_or ls i d).number l
    → AreRead q (map script.line_of (drop (i + 1) ls)) rs to → AreRead p (map script.line_of (drop i ls)) (r ∷ rs) to
read_later p q ls i d l r rs to h a e is later =
    let bytes = (get_or ls i d).text.now in
    rw (lines_from ls i d h) (
      a.said,
      a.writes,
      a.stands,
      is ∙ ap (read_at p (get_or ls i d).number) a.is,
      subst (λ (z : Place). AreRead z (map script.line_of (drop (i + 1) ls)) rs to) (after_line p q bytes l a e) later,
    )

-- lines that were read up to a place where something isn't ended
pub left_open : (ls : List NumberedLine) (rs : List ReadLine) (to : Place) → AreRead top ls rs to → is_closed to ≡ false → Unended ls
left_open ls rs to a e =
    let s = says_read top ls rs to a in
    record { xs = s.xs; say = s.say; begun = ap is_closed s.end ∙ e }
