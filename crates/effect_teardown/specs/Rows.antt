-- What lives by the tables.
use Rattle.std.specs.Prelude.{ℕ, ◌==◌, Bool, true, List, [], ◌∷◌, map, Option, Some, None, if◌then◌else◌}
use Rattle.signal_model.specs.Signals.{is_in}
use Rattle.effect_model.specs.Owners.{Thing, the_signal, the_owner, the_effect, the_page, the_watcher}
use Rattle.effect_tables.specs.declared.effect.Effect.{Effect}
use Rattle.effect_tables.specs.declared.tables.Tables.{Tables}
use Rattle.effect_tables.specs.Owners.{living}

-- the row of the effect of a number
abbrev pub effect_row : ℕ → List Effect → Option ℕ
effect_row n [] = None
effect_row n (x ∷ xs) = if n == x.id then Some x.row else effect_row n xs

-- whether a thing lives, as far as the tables tell; which signals and watchers live they don't
abbrev pub is_tabled : Thing → Tables → Bool
is_tabled (the_owner n) t = is_in n (living 0 t.owners.items)
is_tabled (the_effect n) t = is_in n (map (λ (x : Effect). x.id) t.effects.items)
is_tabled (the_page n) t = is_in n t.pages.items
is_tabled (the_signal n) t = true
is_tabled (the_watcher n) t = true
