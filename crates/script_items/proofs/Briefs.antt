-- What scripts say most is one line, and the item that begins there.
use Rattle.std.proofs.Common.{◌≡◌, ◌≤◌, ℕ, ◌+◌, true, false, List, [], ◌∷◌, ◌++◌, Some, codes, length, drop, refl, sym, ap, subst, ◌∙◌, append_assoc, arith}
use Rattle.std.specs.Prelude.{nat_lt}
use Rattle.std.proofs.Math.Seq.{drop-append-add}
use Rattle.std.proofs.lemmas.Bool.Decides.{nat_tests}
use Rattle.std.proofs.lemmas.List.{append-nil, drop-drop, length-append, length-drop}
use Rattle.sig_base.specs.declared.limits.TheConstants.{MOST_LINE}
use Rattle.sig_base.specs.declared.scalar.Scalar.{Scalar}
use Rattle.sig_words.specs.Lexemes.{word}
use Rattle.line_forms.specs.Printed.{line_text}
use Rattle.line_forms.specs.Reader.{name_of}
use Rattle.line_forms.proofs.Shared.{kept_all, name_is, name_word, said_whole, text_writes, IsWhole}
use Rattle.script_lines.specs.Lines.{kept_lines, numbered}
use Rattle.script_lines.specs.Pieces.{Piece, outside, pieces, pieces_of}
use Rattle.script_lines.proofs.Shared.{line_alone}
use Rattle.live_cmd.specs.declared.command.Bare.TheVariants as bares
use Rattle.live_cmd.specs.declared.command.Command.TheVariants as command
use Rattle.live_cmd.specs.declared.command.Item.{Item}
use Rattle.live_cmd.specs.declared.command.Item.TheVariants as item
use Rattle.live_cmd.specs.declared.command.Verb.TheVariants as verbs
use Rattle.live_cmd.specs.Grammar.{bare, commands, set, verb, Said, Writes, is_alone}
use Rattle.script_items.specs.Items.{Begins}
use Rattle.script_items.specs.Briefs.{IsShort, IsWholeLine}
use Rattle.script_items.specs.Views.{IsPlain}
use Rattle.script_items.proofs.Blocks.{too_few}
use Rattle.script_items.proofs.Commonest.{plain_flush, plain_get, plain_set, set_printed}
use Rattle.script_items.proofs.FirstWords.{begins_none}
use Rattle.script_items.proofs.Items.{is_plain}

-- ---- one line

-- a whole line stands first, and the others behind it
one_kept : (n : ℕ) (l rest : List ℕ) → IsWhole l → kept_lines n (l ++ 10 ∷ rest) ≡ (n, l) ∷ kept_lines (n + 1) rest
unfolding numbered
one_kept n l rest w =
    let text : (l ++ codes "\n") ++ rest ≡ l ++ 10 ∷ rest = append_assoc l (codes "\n") rest in
    let same : n + length (l ∷ []) ≡ n + 1 = omega arith in
    ap (kept_lines n) (sym text ∙ ap (λ (x : List ℕ). x ++ rest) (sym (append-nil (l ++ codes "\n")))) ∙ kept_all n (l ∷ []) rest (w, tt)
    ∙ ap (λ (k : ℕ). numbered n (l ∷ []) ++ kept_lines k rest) same

-- what is printed of a command by itself is such a line
printed_line : (x : Said) (l : List ℕ) (i : Item) → line_text commands x ≡ l → Writes x (line_text commands x) → is_alone x ≡ true →
    ((k : ℕ) → IsPlain (k, l) i) → IsWholeLine l i
printed_line x l i text writes alone plain = record {
  kept = λ n rest. one_kept n l rest (subst IsWhole text (said_whole commands x (line_text commands x) writes));
  alone = begins_none l x (subst (Writes x) text writes) alone;
  plain = plain;
}

-- `get` and a name
pub get_line : (t n : List ℕ) → Some n ≡ name_of (word t) → IsWholeLine (codes "get " ++ t) (item.Do (command.Named verbs.Get n))
get_line t n e =
    let is = name_is t n e in
    let x : Said = (verb verbs.Get, (t, tt)) in
    let text : line_text commands x ≡ codes "get " ++ t = ap (λ (bs : List ℕ). codes "get " ++ bs) (append-nil (t ++ []) ∙ append-nil t) in
    printed_line x (codes "get " ++ t) (item.Do (command.Named verbs.Get n)) text (text_writes commands x refl ((is.0, name_word t is.0), tt)) refl
    (λ k. plain_get k t n e)

-- `set`, a name, and a whole number or a truth
pub set_line : (p q n : List ℕ) (v : Scalar) → Some n ≡ name_of (word p) → IsShort v q → IsWholeLine (codes "set " ++ (p ++ 32 ∷ q)) (item.Do (command.Set n v))
set_line p q n v e h =
    let told = set_printed p q n v e h in
    printed_line (set, (p, (v, tt))) (codes "set " ++ (p ++ 32 ∷ q)) (item.Do (command.Set n v)) told.0 told.1 refl (λ k. plain_set k (p ++ 32 ∷ q) p q n v refl e h)

-- `flush`
pub flush_line : IsWholeLine (codes "flush") (item.Do (command.Bare bares.Flush))
flush_line =
    printed_line (bare bares.Flush, tt) (codes "flush") (item.Do (command.Bare bares.Flush)) refl (text_writes commands (bare bares.Flush, tt) refl tt) refl
    plain_flush

-- ---- where it stands

-- a line with its LF and what stands behind it are all bytes from a place on
pub all_bytes : (s l rest : List ℕ) (at : ℕ) → at ≤ length s → drop at s ≡ l ++ 10 ∷ rest → at + (length l + 1) + length rest ≡ length s
all_bytes s l rest at within is =
    let left = length-drop at s in
    let same = ap length is in
    let parts = length-append l (10 ∷ rest) in
    omega (arith, within, left, same, parts)

-- and what stands behind it begins there
behind_line : (s l rest : List ℕ) (at next : ℕ) → drop at s ≡ l ++ 10 ∷ rest → next ≡ at + (length l + 1) → drop next s ≡ rest
behind_line s l rest at next is e =
    ap (λ (k : ℕ). drop k s) e ∙ sym (drop-drop (length l + 1) at s) ∙ ap (drop (length l + 1)) is ∙ drop-append-add l (10 ∷ rest) 1

-- such a line is a piece, and the item that begins there
pub brief_begins : (s l rest : List ℕ) (at line next : ℕ) (i : Item) → drop at s ≡ l ++ 10 ∷ rest → next ≡ at + (length l + 1) → length l ≤ MOST_LINE →
    IsWholeLine l i → Begins s at line i next (line + 1)
brief_begins s l rest at line next i is e few w =
    let piece : Piece = record { ended = true; lines = (line, l) ∷ [] } in
    let short : nat_lt MOST_LINE (length l) ≡ false = grind (arith, nat_tests) in
    record {
      piece = piece;
      front = ap (pieces_of line) is ∙ ap (pieces outside) (w.kept line rest) ∙ line_alone (line, l) (kept_lines (line + 1) rest) w.alone
          ∙ ap (λ (bs : List ℕ). piece ∷ pieces_of (line + 1) bs) (sym (behind_line s l rest at next is e));
      item = is_plain piece (line, l) i (rw short refl) refl (too_few ((line, l) ∷ []) (omega arith)) refl (w.plain line);
    }
