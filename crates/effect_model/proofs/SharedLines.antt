-- Statements of one line with others in the places of their parts.
use Rattle.std.proofs.Common.{◌≡◌, Some, refl, ap, ap₂, ◌∙◌}
use Rattle.std.specs.Prelude.{option_map}
use Rattle.effect_model.specs.declared.plain.Plain.{Plain}
use Rattle.effect_model.specs.declared.plain.Plain.TheVariants as p
use Rattle.effect_model.specs.Lines.{formula_of, mapped, target_of}

module _ {T F U G : Type 0} where
  -- what it acts on, and its formula
  pub target_mapped : (c : T → U) (f : F → G) (a : Plain T T F) → target_of (mapped c c f a) ≡ option_map c (target_of a)
  target_mapped c f (p.Set n x) = refl
  target_mapped c f _ = refl

  -- it is the same where its parts are
  pub mapped_alike : (c d : T → U) (f g : F → G) (a : Plain T T F) → ((n : T) → target_of a ≡ Some n → c n ≡ d n)
      → ((x : F) → formula_of a ≡ Some x → f x ≡ g x) → mapped c c f a ≡ mapped d d g a
  mapped_alike c d f g (p.Set n x) h k = ap₂ (λ (m : U) (y : G). p.Set m y) (h n refl) (k x refl)
  mapped_alike c d f g (p.Log x) h k = ap (λ (y : G). p.Log y) (k x refl)
  mapped_alike c d f g (p.CleanupSet n x) h k = ap₂ (λ (m : U) (y : G). p.CleanupSet m y) (h n refl) (k x refl)
  mapped_alike c d f g (p.CleanupLog x) h k = ap (λ (y : G). p.CleanupLog y) (k x refl)
  mapped_alike c d f g (p.Dispose n) h k = ap (λ (m : U). p.Dispose m) (h n refl)

pub formula_mapped : {C T F D U G : Type 0} (c : C → D) (t : T → U) (f : F → G) (a : Plain C T F) → formula_of (mapped c t f a) ≡ option_map f (formula_of a)
formula_mapped c t f (p.Set n x) = refl
formula_mapped c t f _ = refl

-- with its own parts it is itself
mapped_same : {C T F : Type 0} (a : Plain C T F) → mapped (λ n. n) (λ n. n) (λ x. x) a ≡ a
mapped_same (p.Set n x) = refl
mapped_same _ = refl

-- with others and others again it is that with both
mapped_twice : {T F U G : Type 0} (c : T → U) (d : U → T) (f : F → G) (g : G → F) (a : Plain T T F) →
    mapped d d g (mapped c c f a) ≡ mapped (λ n. d (c n)) (λ n. d (c n)) (λ x. g (f x)) a
mapped_twice c d f g (p.Set n x) = refl
mapped_twice c d f g _ = refl

-- so it comes back where its parts do
pub mapped_back : {T F U G : Type 0} (c : T → U) (d : U → T) (f : F → G) (g : G → F) (a : Plain T T F) →
    ((n : T) → target_of a ≡ Some n → d (c n) ≡ n) → ((x : F) → formula_of a ≡ Some x → g (f x) ≡ x) →
    mapped d d g (mapped c c f a) ≡ a
mapped_back c d f g a h k = mapped_twice c d f g a ∙ mapped_alike (λ n. d (c n)) (λ n. n) (λ x. g (f x)) (λ x. x) a h k ∙ mapped_same a
