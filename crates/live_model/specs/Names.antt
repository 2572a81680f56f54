-- What names stand for, what they have to stand for, and what is refused of them.
use Rattle.std.specs.Prelude.{ℕ, Bool, true, false, not, List, [], ◌∷◌, Option, Some, None, if◌then◌else◌}
use Rattle.std.specs.Str.{bytes_eq}
use Rattle.std.specs.Option.{option_or, option_map_or}
use Rattle.std.specs.Map.{lookup}
use Rattle.effect_model.specs.Owners.{Thing, the_signal, the_owner, the_effect, the_page, the_watcher}
use Rattle.effect_model.specs.Worlds.{World, lives}
use Rattle.live_entries.specs.declared.refusal.Refusal.{Refusal}
use Rattle.live_entries.specs.declared.refusal.Refusal.TheVariants as refusal
use Rattle.live_model.specs.declared.names.Kind.{Kind}
use Rattle.live_model.specs.declared.names.Kind.TheVariants as kind
use Rattle.live_model.specs.declared.names.Meaning.{Meaning}
use Rattle.live_model.specs.declared.names.Need.{Need}
use Rattle.live_model.specs.declared.names.Need.TheVariants as need

-- the names that were made and what they stand for, in order of making
abbrev pub Names : Type 0
Names = List (List ℕ × Meaning)

-- what a name stands for, if it was made
abbrev pub meaning_of : Names → List ℕ → Option Meaning
meaning_of names n = lookup (bytes_eq n) names

-- the number of what a name stands for; 0 for a name that wasn't made
abbrev pub number_of : Names → List ℕ → ℕ
number_of names n = option_map_or (λ (m : Meaning). m.number) (meaning_of names n) 0

-- whether the two are one kind
abbrev pub same_kind : Kind → Kind → Bool
same_kind kind.Cell kind.Cell = true
same_kind kind.List kind.List = true
same_kind kind.Computed kind.Computed = true
same_kind kind.Owner kind.Owner = true
same_kind kind.Effect kind.Effect = true
same_kind kind.Watcher kind.Watcher = true
same_kind kind.Template kind.Template = true
same_kind kind.Page kind.Page = true
same_kind _ _ = false

-- whether it stands for a signal
abbrev pub is_signal : Kind → Bool
is_signal kind.Cell = true
is_signal kind.List = true
is_signal kind.Computed = true
is_signal _ = false

-- what of a kind can be disposed, by its number
abbrev pub thing_of : Kind → ℕ → Option Thing
thing_of kind.Cell n = Some (the_signal n)
thing_of kind.List n = Some (the_signal n)
thing_of kind.Computed n = Some (the_signal n)
thing_of kind.Owner n = Some (the_owner n)
thing_of kind.Effect n = Some (the_effect n)
thing_of kind.Watcher n = Some (the_watcher n)
thing_of kind.Template n = None
thing_of kind.Page n = Some (the_page n)

-- the thing that has a name, if it is one that can be disposed
abbrev pub thing_named : Option Meaning → Option Thing
thing_named None = None
thing_named (Some m) = thing_of m.kind m.number

-- whether what was made is what a place needs
abbrev pub meets : Need → Kind → Bool
meets need.New k = false
meets (need.Of j) k = same_kind j k
meets need.Signal k = is_signal k
meets need.Thing k = not (same_kind kind.Template k)

-- whether a thing was disposed; what can't be was not
abbrev pub has_ended : World → Option Thing → Bool
has_ended w None = false
has_ended w (Some t) = not (lives t w)

-- whether what was made is gone
abbrev pub is_gone : World → Kind → ℕ → Bool
is_gone w k n = has_ended w (thing_of k n)

-- a name that is used, and what it has to be
abbrev pub Use : Type 0
Use = List ℕ × Need

-- what has the name must not be gone, and be what its place needs
abbrev pub misuse : World → Use → Meaning → Option Refusal
misuse w (n, needed) m =
    if is_gone w m.kind m.number then Some (refusal.Gone n) else (if meets needed m.kind then None else Some (refusal.Kind n))

-- a new name must not have been made; a used one must have been, not be gone, and be what its place needs
abbrev pub refusal_at : World → Use → Option Meaning → Option Refusal
refusal_at w (n, need.New) None = None
refusal_at w (n, need.New) (Some m) = Some (refusal.Taken n)
refusal_at w (n, needed) None = Some (refusal.Unknown n)
refusal_at w (n, needed) (Some m) = misuse w (n, needed) m

-- the refusal of the first name that has one
abbrev pub first_refusal : World → Names → List Use → Option Refusal
first_refusal w names [] = None
first_refusal w names (u ∷ us) = option_or (refusal_at w u (meaning_of names u.0)) (first_refusal w names us)

-- in the body of an effect its own name counts as made
abbrev pub refusal_within : World → Names → List ℕ → Use → Option Refusal
refusal_within w names own (n, needed) =
    if bytes_eq own n then (if meets needed kind.Effect then None else Some (refusal.Kind n)) else refusal_at w (n, needed) (meaning_of names n)

-- the refusal of the first name in the body of an effect that has one
abbrev pub first_within : World → Names → List ℕ → List Use → Option Refusal
first_within w names own [] = None
first_within w names own (u ∷ us) = option_or (refusal_within w names own u) (first_within w names own us)
