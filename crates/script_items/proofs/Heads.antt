-- What was found in a line says what its bytes begin or end.
use Rattle.std.proofs.Common.{◌≡◌, ℕ, Bool, true, false, List, [], ◌++◌, Option, Some, None, codes, refl, sym, ap, subst, ◌∙◌}
use Rattle.std.specs.Prelude.{MatchOption}
use Rattle.std.specs.Str.{bytes_eq}
use Rattle.std.proofs.lemmas.List.{append-nil}
use Rattle.std.proofs.lemmas.Slice.Eq.{bytes_eq-Decides}
use Rattle.sig_base.specs.Words.{is_name}
use Rattle.sig_words.specs.Lexemes.{word}
use Rattle.formula_text.specs.declared.wired.FormulaFault.{FormulaFault}
use Rattle.line_forms.specs.Forms.{Args}
use Rattle.line_forms.specs.Told.{unless_faulty}
use Rattle.line_forms.specs.Printed.{line_text}
use Rattle.line_forms.specs.Reader.{name_of}
use Rattle.line_forms.proofs.Shared.{name_is, name_word, text_writes}
use Rattle.script_items.specs.declared.contents.Head.{Head}
use Rattle.live_cmd.specs.declared.line.Found.{Found}
use Rattle.live_cmd.specs.declared.line.Line.{Line}
use Rattle.script_items.specs.Blocks.{Ends, IsNoHead, is_head, said_head}
use Rattle.live_cmd.specs.Grammar.{Row, row, commands, Said, Writes, said_line, effect, on, template, close}
use Rattle.live_cmd.specs.Refusals.{fault_of}
use Rattle.script_items.specs.Views.{end_told, head_of, head_told, is_end}
use Rattle.live_cmd.specs.Views.{found_of, line_or_fault}
use Rattle.script_items.proofs.Blocks.{no_close}
use Rattle.live_cmd.proofs.Shared.{none_such}

-- ---- ends

not_end : (o : Option FormulaFault) (l : Line) → is_end l ≡ false → end_told (unless_faulty o l) ≡ false
not_end None l e = e
not_end (Some f) l e = refl

end_row : (r : Row) (a : Args (row r).1) (bytes : List ℕ) → Writes (r, a) bytes → Ends (end_told (line_or_fault (r, a))) bytes
end_row close a bytes w = w
end_row r a bytes w =
    subst (λ (b : Bool). Ends b bytes) (sym (not_end (fault_of (r, a)) (said_line (r, a)) refl)) (no_close bytes (r, a) w refl)

-- what was found in a line says whether it is an `end`
pub end_found : (bytes : List ℕ) (f : Found) → (x : Said) × Writes x bytes × (f ≡ found_of x) → Ends (end_told f.line) bytes
end_found bytes f h = subst (λ (g : Found). Ends (end_told g.line) bytes) (sym h.2) (end_row h.0.0 h.0.1 bytes h.1)

-- a line that says nothing is none
pub end_none : (bytes : List ℕ) → ((x : Said) → Writes x bytes → ⊥) → Ends false bytes
end_none bytes none = λ w. none (close, tt) w

-- the word alone is one
pub end_alone : (bytes w : List ℕ) → bytes_eq bytes w ≡ true → w ≡ codes "end" → Ends true bytes
end_alone bytes w same is = rw ((bytes_eq-Decides bytes w).0 same ∙ is) (text_writes commands (close, tt) refl tt)

-- ---- heads

-- a head that was found, or none
abbrev pub IsHead : List ℕ → Option Head → Type 0
IsHead bytes found = MatchOption found (IsNoHead bytes) (λ h. Writes (said_head h) bytes)

no_head : (o : Option FormulaFault) (l : Line) → head_of l ≡ None → head_told (unless_faulty o l) ≡ None
no_head None l e = e
no_head (Some f) l e = refl

head_row : (r : Row) (a : Args (row r).1) (bytes : List ℕ) → Writes (r, a) bytes → IsHead bytes (head_told (line_or_fault (r, a)))
head_row effect a bytes w = w
head_row on a bytes w = w
head_row template a bytes w = w
head_row r a bytes w =
    subst (λ (h : Option Head). IsHead bytes h) (sym (no_head (fault_of (r, a)) (said_line (r, a)) refl))
    (none_such (λ y. is_head y.0) bytes (r, a) w refl)

-- what was found in a line says whether it begins a block
pub head_found : (bytes : List ℕ) (f : Found) → (x : Said) × Writes x bytes × (f ≡ found_of x) → IsHead bytes (head_told f.line)
head_found bytes f h = subst (λ (g : Found). IsHead bytes (head_told g.line)) (sym h.2) (head_row h.0.0 h.0.1 bytes h.1)

-- a line that says nothing begins none
pub head_none : (bytes : List ℕ) → ((x : Said) → Writes x bytes → ⊥) → IsNoHead bytes
head_none bytes none = λ x w h. none x w

-- `effect` and a name
pub effect_writes : (l t n : List ℕ) → l ≡ codes "effect " ++ t → Some n ≡ name_of (word t) → Writes (effect, (n, (None, tt))) l
effect_writes l t n is e =
    let told = name_is t n e in
    let x : Said = (effect, (n, (None, tt))) in
    let good : is_name n ≡ true = rw told.1 told.0 in
    let text : line_text commands x ≡ codes "effect " ++ n = ap (λ (bs : List ℕ). codes "effect " ++ bs) (append-nil (n ++ []) ∙ append-nil n) in
    let line : codes "effect " ++ n ≡ l = ap (λ (bs : List ℕ). codes "effect " ++ bs) told.1 ∙ sym is in
    subst (Writes x) (text ∙ line) (text_writes commands x refl ((good, name_word n good), (tt, tt)))
