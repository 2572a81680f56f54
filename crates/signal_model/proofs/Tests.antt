-- Tests by their two answers.
use Rattle.std.proofs.Common.{◌≡◌, ◌||◌, Bool, true, false, refl, ◌⊎◌, inl, inr}

pub tested : (b : Bool) → (b ≡ true) ⊎ (b ≡ false)
tested true = inl refl
tested false = inr refl

pub either : (a b : Bool) → (a || b) ≡ true → (a ≡ true) ⊎ (b ≡ true)
either true b h = inl refl
either false b h = inr h

pub neither : (a b : Bool) → (a || b) ≡ false → (a ≡ false) × (b ≡ false)
neither true b h = cc
neither false b h = (refl, h)

pub or_left : (a b : Bool) → a ≡ true → (a || b) ≡ true
or_left true b h = refl
or_left false b h = cc

pub or_right : (a b : Bool) → b ≡ true → (a || b) ≡ true
or_right true b h = refl
or_right false b h = h

-- the second of two tests may be weaker
pub or_weaker : (a b c : Bool) → (b ≡ true → c ≡ true) → (a || b) ≡ true → (a || c) ≡ true
or_weaker true b c f h = refl
or_weaker false b c f h = f h
