-- What becomes of the label of an effect that ends.
use Rattle.std.proofs.Common.{◌≡◌, ℕ, nat_eq, false, cond, Option, Some, None, refl, sym, ap, ◌∙◌}
use Rattle.live_entries.specs.declared.label.Label.{Label}
use Rattle.live_model.specs.Labels.{is_named, label_at, lasting, with_label}

-- a label that no command gave goes
goes : (o : Option Label) → is_named (label_at (λ (e : ℕ). o) 0) ≡ false → lasting o ≡ None
goes None h = refl
goes (Some l) h = ap (λ b. cond b (Some l) None) h

-- so it is taken out, and the others stay
pub goes_out : (labels later : ℕ → Option Label) (n : ℕ) → is_named (label_at labels n) ≡ false → ((e : ℕ) → later e ≡ cond (nat_eq n e) None (labels e)) →
    later ≡ with_label n (lasting (labels n)) labels
goes_out labels later n h each = λ i e. (each e ∙ sym (ap (λ (o : Option Label). cond (nat_eq n e) o (labels e)) (goes (labels n) h))) i
