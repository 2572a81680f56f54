-- Tests that fail.
use Rattle.std.proofs.Common.{◌≡◌, ◌||◌, not, Bool, true, false, refl}

-- where neither holds, the first doesn't
pub or_fst : (a b : Bool) → (a || b) ≡ false → a ≡ false
or_fst true b h = cc
or_fst false b h = refl

-- and the second doesn't
pub or_snd : (a b : Bool) → (a || b) ≡ false → b ≡ false
or_snd true b h = cc
or_snd false b h = h

-- both fail
pub or_none : (a b : Bool) → a ≡ false → b ≡ false → (a || b) ≡ false
or_none a b g h = rw (g, h) refl

-- what isn't refused holds
pub not_false : (a : Bool) → not a ≡ false → a ≡ true
not_false true h = refl
not_false false h = cc
