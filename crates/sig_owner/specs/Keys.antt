-- Which things are one, and where each stands by a map.
use Rattle.std.specs.Prelude.{◌≡◌, ℕ, ◌==◌, ◌||◌, Bool, List, [], ◌∷◌, true, false, Option, Some, refl}
use Rattle.std.specs.Bool.{Decides}
use Rattle.std.proofs.Common.{ap, eqb-true, eq-eqb}
use Rattle.indexmap.specs.IndexMap.{IndexMap, get}
use Rattle.sig_owner.specs.declared.thing.Thing.{Thing}
use Rattle.sig_owner.specs.declared.thing.Undoing.{Undoing}
use Rattle.sig_owner.specs.declared.thing.Undoing.TheVariants as undoing
use Rattle.sig_owner.specs.declared.thing.Thing.TheVariants as a

-- whether two are one thing
abbrev pub same_key : Thing → Thing → Bool
same_key (a.Node m) (a.Node n) = m == n
same_key (a.Effect m) (a.Effect n) = m == n
same_key (a.Page m) (a.Page n) = m == n
same_key (a.Owner m) (a.Owner n) = m == n
same_key _ _ = false

-- the same things are equal
pub same_key-true : (s t : Thing) → same_key s t ≡ true → s ≡ t
same_key-true (a.Node m) (a.Node n) e = ap a.Node (eqb-true m n e)
same_key-true (a.Effect m) (a.Effect n) e = ap a.Effect (eqb-true m n e)
same_key-true (a.Page m) (a.Page n) e = ap a.Page (eqb-true m n e)
same_key-true (a.Owner m) (a.Owner n) e = ap a.Owner (eqb-true m n e)
same_key-true _ _ e = cc

-- a thing is the same as itself
pub same_key-refl : (t : Thing) → same_key t t ≡ true
same_key-refl (a.Node n) = eq-eqb n n refl
same_key-refl (a.Effect n) = eq-eqb n n refl
same_key-refl (a.Page n) = eq-eqb n n refl
same_key-refl (a.Owner n) = eq-eqb n n refl

-- the same things are equal, and the others are not
pub same_key-Decides : (s t : Thing) → Decides (same_key s t) (s ≡ t)
same_key-Decides s t = (same_key-true s t, λ (e : s ≡ t). rw (← e) (same_key-refl s))

-- what a map has at a thing
abbrev pub placed : {S : Type 0} → IndexMap Thing ℕ S → Thing → Option ℕ
placed places t = get same_key places t

-- where a thing's row is, or the row under which it stands: an owner's id is its number, and the others are placed
abbrev pub hinted : (Thing → Option ℕ) → Thing → Option ℕ
hinted place (a.Owner n) = Some n
hinted place t = place t

-- whether a thing is gone in a step
abbrev pub is_gone_in : Undoing → Thing → Bool
is_gone_in (undoing.Gone s) t = same_key s t
is_gone_in (undoing.Cleanup o c) t = false

-- the same of these steps
abbrev pub are_gone_in : List Undoing → Thing → Bool
are_gone_in [] t = false
are_gone_in (u ∷ us) t = is_gone_in u t || are_gone_in us t
