-- The end-of-life law.
use Rattle.std.specs.Prelude.{◌≡◌, ℕ, ◌+◌, ◌≤◌, ◌||◌, Bool, false, List, [], ◌∷◌, ◌++◌, map}
use Rattle.effect_model.specs.Owners.{Thing, the_signal, the_effect, the_watcher, same_thing, Cleanup}
use Rattle.effect_model.specs.Worlds.{Environment, Event, ran, changed_signal, notified, frozen, body_ran, failed, cleaned, gone, made_child, noted}
use Rattle.effect_model.specs.Commands.{Command, new_world, after_commands}
use Rattle.effect_laws.specs.Rolls.{bit, open_cleanups, ends_of, noted_by, cleaned_by, waiting_under}

-- the things that an event tells something of; a refusal may name what is gone
abbrev pub about : Event → List Thing
about (ran m) = the_signal m.run.name ∷ []
about (changed_signal n how) = the_signal n ∷ []
about (notified n) = the_watcher n ∷ []
about (frozen ns) = map the_watcher ns
about (body_ran n names) = the_effect n ∷ []
about (failed n f) = the_effect n ∷ []
about (cleaned t c) = t ∷ []
about (gone t) = t ∷ []
about (made_child c n k) = the_effect c ∷ the_effect n ∷ []
about (noted t c) = t ∷ []
about _ = []

-- none of these has ended
abbrev pub NoneEnded : List Event → List Thing → Type 0
NoneEnded before [] = Unit {0}
NoneEnded before (t ∷ ts) = (ends_of t before ≡ 0) × NoneEnded before ts

-- all that a thing has noted was done, counted by any test
abbrev pub IsClear : List Event → Thing → Type 0
IsClear before t = (p : Cleanup → Bool) → noted_by t p before ≡ cleaned_by t p before

-- Where a body is evaluated or a thing ends, all that it noted was done before. What is done was noted, and more often than it was done.
abbrev pub KeepsCleanups : List Event → Event → Type 0
KeepsCleanups before (body_ran n names) = IsClear before (the_effect n)
KeepsCleanups before (gone t) = IsClear before t
KeepsCleanups before (cleaned t c) = (p : Cleanup → Bool) → cleaned_by t p before + bit (p c) ≤ noted_by t p before
KeepsCleanups before _ = Unit {0}

-- each event comes in time: nothing that it tells of has ended before
abbrev pub AreInTime : List Event → List Event → Type 0
AreInTime before [] = Unit {0}
AreInTime before (e ∷ es) = NoneEnded before (about e) × KeepsCleanups before e × AreInTime (before ++ e ∷ []) es

-- In what any commands tell, nothing that has ended runs, is changed, is evaluated, is notified, is cleaned up or ends again. A cleanup that
-- was noted is done once, before its effect runs again or ends; and what was noted and not done still waits under its effect.
abbrev pub EndLaw : Type 0
EndLaw = (env : Environment) (n : ℕ) (cs : List Command) →
    let w = after_commands env (new_world n) cs in
    AreInTime [] w.told × ((t : Thing) (p : Cleanup → Bool) → noted_by t p w.told ≡ cleaned_by t p w.told + waiting_under false t p w.owned)

-- whether a thing is among these
abbrev pub is_among : Thing → List Thing → Bool
is_among t [] = false
is_among t (u ∷ us) = same_thing t u || is_among t us

-- nothing is told of a thing
abbrev pub IsSilent : Thing → List Event → Type 0
IsSilent t [] = Unit {0}
IsSilent t (e ∷ es) = (is_among t (about e) ≡ false) × IsSilent t es

-- after its end, nothing is told of a thing
abbrev pub SilenceLaw : Type 0
SilenceLaw = (env : Environment) (n : ℕ) (cs : List Command) (before after : List Event) (t : Thing) →
    (after_commands env (new_world n) cs).told ≡ before ++ gone t ∷ after → IsSilent t after

-- Cleanups are done for a run or an end alone: after each command, each that was done was followed by its effect's run or end.
abbrev pub ClosingLaw : Type 0
ClosingLaw = (env : Environment) (n : ℕ) (cs : List Command) (t : Thing) → open_cleanups t 0 (after_commands env (new_world n) cs).told ≡ 0
