-- Where lines may stand.
use Rattle.std.proofs.Common.{◌≡◌, ℕ, true, false, List, sym, ap, ◌∙◌}
use Rattle.std.specs.Prelude.{IsTrue}
use Rattle.line_forms.proofs.Shared as lines
use Rattle.body_text.specs.declared.allowance.Allowance.{Allowance}
use Rattle.body_text.specs.declared.line.Found.{Found}
use Rattle.body_text.specs.Grammar.{bodies, Said, Writes, said_line}
use Rattle.body_text.specs.Places.{fits, kind_of}
use Rattle.body_text.specs.Views.{found_of}
use Rattle.body_text.proofs.Grammars.{is_grammar}

fits_of : (allowance : Allowance) (depth : ℕ) (f : Found) (x : Said) → f ≡ found_of allowance.formulas x → fits allowance depth f.kind ≡ fits allowance depth (kind_of (said_line x))
fits_of allowance depth f x e = ap (λ (g : Found). fits allowance depth g.kind) e

-- a line that fits as it is found fits
pub does_fit : (allowance : Allowance) (depth : ℕ) (bytes : List ℕ) (f : Found) → fits allowance depth f.kind ≡ true → (x : Said) × Writes x bytes × (f ≡ found_of allowance.formulas x)
    → (x : Said) × Writes x bytes × IsTrue (fits allowance depth (kind_of (said_line x))) × (f ≡ found_of allowance.formulas x)
does_fit allowance depth bytes f h w = (w.0, w.1, sym (fits_of allowance depth f w.0 w.2) ∙ h, w.2)

-- nothing else that the line says fits either
pub does_not_fit : (allowance : Allowance) (depth : ℕ) (bytes : List ℕ) (f : Found) → fits allowance depth f.kind ≡ false → (x : Said) × Writes x bytes × (f ≡ found_of allowance.formulas x)
    → (x : Said) → Writes x bytes → IsTrue (fits allowance depth (kind_of (said_line x))) → ⊥
does_not_fit allowance depth bytes f h w x s t =
    let same : w.0 ≡ x = lines.one_writing bodies is_grammar bytes w.0 x w.1 s in
    let bad : false ≡ true = sym h ∙ fits_of allowance depth f w.0 w.2 ∙ ap (λ (y : Said). fits allowance depth (kind_of (said_line y))) same ∙ t in
    cc
