-- What is what its place needs and isn't gone isn't refused.
use Rattle.std.proofs.Common.{◌≡◌, ℕ, Bool, not, List, true, false, None, Some, refl, sym}
use Rattle.std.proofs.lemmas.Bool.{true≢false}
use Rattle.effect_model.specs.Worlds.{World}
use Rattle.live_model.specs.declared.names.Meaning.{Meaning}
use Rattle.live_model.specs.declared.names.Need.{Need}
use Rattle.live_model.specs.declared.names.Need.TheVariants as need
use Rattle.live_model.specs.Names.{is_gone, meets, refusal_at}

pub unrefused : (w : World) (needed : Need) (m : Meaning) (n : List ℕ) → meets needed m.kind ≡ true → is_gone w m.kind m.number ≡ false →
    refusal_at w (n, needed) (Some m) ≡ None
unrefused w need.New m n met kept = absurd (true≢false (sym met))
unrefused w (need.Of k) m n met kept = rw (kept, met) refl
unrefused w need.Signal m n met kept = rw (kept, met) refl
unrefused w need.Thing m n met kept = rw (kept, met) refl

-- what was told not to be gone lives
pub alive : (told gone : Bool) → told ≡ gone → not told ≡ true → gone ≡ false
alive true gone is kept = absurd (true≢false (sym kept))
alive false gone is kept = sym is
