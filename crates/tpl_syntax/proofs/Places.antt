-- Where lines may stand.
use Rattle.std.proofs.Common.{◌≡◌, ℕ, true, false, List, refl, sym, ap, ◌∙◌}
use Rattle.std.specs.Prelude.{IsTrue}
use Rattle.formula_text.specs.declared.wired.Allow.{Allow}
use Rattle.line_forms.proofs.Shared as lines
use Rattle.tpl_syntax.specs.declared.line.Line.{Line}
use Rattle.tpl_syntax.specs.declared.line.Line.TheVariants as line
use Rattle.tpl_syntax.specs.declared.reader.Seen.{Seen}
use Rattle.tpl_syntax.specs.Grammar.{templates, Said, Writes, said_line}
use Rattle.tpl_syntax.specs.Lines.{mapped}
use Rattle.tpl_syntax.specs.Places.{Place, behind, fits, moved, role_of, stands}
use Rattle.tpl_syntax.specs.Views.{found_of}
use Rattle.tpl_syntax.proofs.Grammars.{is_grammar}

-- what a line is, whether it fits, and where the next one stands, isn't told by its formula
pub same_role : {F G : Type 0} (f : F → G) (l : Line F) → role_of (mapped f l) ≡ role_of l
same_role f (line.Plain m) = refl
same_role f (line.Over p x) = refl

pub same_fits : {F G : Type 0} (p : Place) (f : F → G) (l : Line F) → fits p (mapped f l) ≡ fits p l
same_fits p f l = ap (stands p) (same_role f l)

pub same_moved : {F G : Type 0} (p : Place) (f : F → G) (l : Line F) → moved p (mapped f l) ≡ moved p l
same_moved p f l = ap (behind p) (same_role f l)

fits_of : (p : Place) (allow : Allow) (l : Line Seen) (x : Said) → l ≡ found_of allow x → fits p l ≡ fits p (said_line x)
fits_of p allow l x e = ap (λ (m : Line Seen). fits p m) e ∙ same_fits p _ (said_line x)

-- a line that fits as it is found fits
pub does_fit : (p : Place) (allow : Allow) (bytes : List ℕ) (l : Line Seen) → fits p l ≡ true → (x : Said) × Writes x bytes × (l ≡ found_of allow x)
    → (x : Said) × Writes x bytes × IsTrue (fits p (said_line x)) × (l ≡ found_of allow x)
does_fit p allow bytes l h w = (w.0, w.1, sym (fits_of p allow l w.0 w.2) ∙ h, w.2)

-- nothing else that the line says fits either
pub does_not_fit : (p : Place) (allow : Allow) (bytes : List ℕ) (l : Line Seen) → fits p l ≡ false → (x : Said) × Writes x bytes × (l ≡ found_of allow x)
    → (x : Said) → Writes x bytes → IsTrue (fits p (said_line x)) → ⊥
does_not_fit p allow bytes l h w x s t =
    let same : w.0 ≡ x = lines.one_writing templates is_grammar bytes w.0 x w.1 s in
    let bad : false ≡ true = sym h ∙ fits_of p allow l w.0 w.2 ∙ ap (λ (y : Said). fits p (said_line y)) same ∙ t in
    cc
