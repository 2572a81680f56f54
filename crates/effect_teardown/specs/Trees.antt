-- How a tree of what stands is formed.
use Rattle.std.specs.Prelude.{◌≡◌}
use Rattle.effect_model.specs.Owners.{Thing, the_owner, the_effect, the_watcher, Owned, nothing, thing, cleanup, Undoing, cleans, ends}

-- a thing is an effect
abbrev pub IsEffect : Thing → Type 0
IsEffect (the_effect n) = Unit {0}
IsEffect _ = ⊥

-- a cleanup that is done is that of an effect
abbrev pub OnEffects : Undoing → Type 0
OnEffects (cleans t c) = IsEffect t
OnEffects (ends t) = Unit {0}

-- a thing can stand somewhere, with this under it: no watcher does, and under a signal or a page there is nothing
abbrev pub CanStand : Thing → Owned → Type 0
CanStand (the_owner n) made = Unit {0}
CanStand (the_effect n) made = Unit {0}
CanStand (the_watcher n) made = ⊥
CanStand _ made = made ≡ nothing

-- what stands under a holder can stand there, and cleanups are those of effects
abbrev pub IsFormed : Thing → Owned → Type 0
IsFormed holder nothing = Unit {0}
IsFormed holder (thing t made earlier) = CanStand t made × IsFormed t made × IsFormed holder earlier
IsFormed holder (cleanup c earlier) = IsEffect holder × IsFormed holder earlier

-- so is all that stands; no cleanup stands at the top
pub record AreFormed (all : Owned) : Type 0 where
  pub formed : IsFormed (the_owner 0) all
