-- Steps of the store, by the things that its rows are.
use Rattle.std.specs.Prelude.{ℕ, Option}
use Rattle.effect_model.specs.Owners.{Thing, Undoing, cleans, ends}
use Rattle.sig_owner.specs.declared.thing.Thing.{Thing as AThing}
use Rattle.sig_owner.specs.declared.thing.Thing.TheVariants as a
use Rattle.sig_owner.specs.declared.thing.Undoing.{Undoing as AnUndoing}
use Rattle.sig_owner.specs.declared.thing.Undoing.TheVariants as undoing
use Rattle.sig_owner.specs.Tables.{cleanup_of, thing_of}
use Rattle.effect_tables.specs.declared.thing.Thing.{Thing as Noted}
use Rattle.effect_tables.specs.Things.{named_at}

-- a thing of the store, by the things of its rows
abbrev pub told_thing : (ℕ → Option Noted) → AThing → Thing
told_thing ts (a.Owner row) = named_at ts row
told_thing ts (a.Node n) = thing_of (a.Node n)
told_thing ts (a.Effect n) = thing_of (a.Effect n)
told_thing ts (a.Page n) = thing_of (a.Page n)

-- a step of the store, by the things of its rows
abbrev pub retold : (ℕ → Option Noted) → AnUndoing → Undoing
retold ts (undoing.Cleanup row c) = cleans (named_at ts row) (cleanup_of c)
retold ts (undoing.Gone t) = ends (told_thing ts t)
