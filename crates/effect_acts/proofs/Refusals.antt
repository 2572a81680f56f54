-- Why a rewiring is refused.
use Rattle.std.proofs.Common.{◌≡◌, ℕ, Bool, true, false, cond, List, [], ◌∷◌, Option, Some, None, option_map, refl, sym, ap, ◌∙◌}
use Rattle.std.specs.List.{AllByRecursion}
use Rattle.std.specs.Option.{option_or}
use Rattle.signal_model.specs.Recipes.{Recipe}
use Rattle.signal_model.specs.Signals.{IsCell, IsComputed, IsGone, Stands, is_there, standing, is_cell}
use Rattle.sig_nodes.specs.Answers.{kind_here}
use Rattle.sig_nodes.specs.declared.answers.Standing.{Standing}
use Rattle.sig_nodes.specs.declared.answers.Standing.TheVariants.{Gone, Cell, Computed, Computing}
use Rattle.effect_model.specs.Acts.{gone_refused, host_of, host_refused, or_refused, rewire_signal, rewire_standing, rewiring_refused, some_gone}
use Rattle.effect_model.specs.Owners.{the_signal}
use Rattle.effect_model.specs.Worlds.{Refused, World, refused, tell, thing_gone}
use Rattle.effect_acts.specs.Acts.{first_gone}

-- the refusal of a signal that is gone
abbrev pub gone_of : ℕ → Refused
gone_of n = thing_gone (the_signal n)

pub gone_first : (ns : List ℕ) (w : World) → some_gone ns w ≡ option_map gone_of (first_gone w.signals ns)
gone_first [] w = refl
gone_first (n ∷ ns) w = go (is_there (standing w.signals n)) (gone_first ns w)
  where
    go : (b : Bool) → some_gone ns w ≡ option_map gone_of (first_gone w.signals ns) →
        option_or (cond b None (Some (gone_of n))) (some_gone ns w) ≡ option_map gone_of (cond b (first_gone w.signals ns) (Some n))
    go true more = more
    go false more = refl

-- where its target is gone
pub target_gone : (n : ℕ) (r : Recipe) (w : World) → is_there (standing w.signals n) ≡ false → rewiring_refused n r w ≡ Some (gone_of n)
target_gone n r w off = ap (λ b. option_or (cond b None (Some (gone_of n))) (option_or (some_gone r.slots w) (host_refused (host_of r.expression) w))) off

-- where it is there
target_there : (n : ℕ) (r : Recipe) (w : World) → is_there (standing w.signals n) ≡ true → rewiring_refused n r w ≡ option_or (some_gone r.slots w) (host_refused (host_of r.expression) w)
target_there n r w on = ap (λ b. option_or (cond b None (Some (gone_of n))) (option_or (some_gone r.slots w) (host_refused (host_of r.expression) w))) on

pub slot_gone : (n m : ℕ) (r : Recipe) (w : World) → is_there (standing w.signals n) ≡ true → Some m ≡ first_gone w.signals r.slots → rewiring_refused n r w ≡ Some (gone_of m)
slot_gone n m r w on e =
    target_there n r w on ∙ ap (λ o. option_or o (host_refused (host_of r.expression) w)) (gone_first r.slots w ∙ ap (option_map gone_of) (sym e))

pub by_host : (n : ℕ) (r : Recipe) (w : World) → is_there (standing w.signals n) ≡ true → None ≡ first_gone w.signals r.slots → rewiring_refused n r w ≡ host_refused (host_of r.expression) w
by_host n r w on e =
    target_there n r w on ∙ ap (λ o. option_or o (host_refused (host_of r.expression) w)) (gone_first r.slots w ∙ ap (option_map gone_of) (sym e))

-- a refusal is told, and nothing else is done
pub refused_is : (n : ℕ) (r : Recipe) (w : World) (why : Refused) → rewiring_refused n r w ≡ Some why → rewire_signal n r w ≡ tell (refused why) w
refused_is n r w why e = ap (λ o. or_refused o (rewire_standing (standing w.signals n) n r w) w) e

-- of a rewiring that isn't refused each part is not
pub none_refused : (n : ℕ) (r : Recipe) (w : World) → rewiring_refused n r w ≡ None → host_refused (host_of r.expression) w ≡ None
none_refused n r w e = go (gone_refused (the_signal n) w) (some_gone r.slots w) e
  where
    go : (a b : Option Refused) → option_or a (option_or b (host_refused (host_of r.expression) w)) ≡ None → host_refused (host_of r.expression) w ≡ None
    go None None q = q
    go None (Some x) q = cc
    go (Some x) b q = cc

pub slots_open : (n : ℕ) (r : Recipe) (w : World) → rewiring_refused n r w ≡ None → some_gone r.slots w ≡ None
slots_open n r w e = go (gone_refused (the_signal n) w) (some_gone r.slots w) e
  where
    go : (a b : Option Refused) → option_or a (option_or b (host_refused (host_of r.expression) w)) ≡ None → b ≡ None
    go None None q = refl
    go None (Some x) q = cc
    go (Some x) b q = cc

-- what is there was given
pub given_slots : (given : ℕ → Bool) (w : World) (ns : List ℕ) → ((n : ℕ) → is_there (standing w.signals n) ≡ true → given n ≡ true) → some_gone ns w ≡ None →
    AllByRecursion (λ (n : ℕ). given n ≡ true) ns
given_slots given w [] names h = tt
given_slots given w (n ∷ ns) names h = go (is_there (standing w.signals n)) refl h (given_slots given w ns names)
  where
    go : (b : Bool) → is_there (standing w.signals n) ≡ b → option_or (cond b None (Some (gone_of n))) (some_gone ns w) ≡ None →
        (some_gone ns w ≡ None → AllByRecursion (λ (m : ℕ). given m ≡ true) ns) → (given n ≡ true) × AllByRecursion (λ (m : ℕ). given m ≡ true) ns
    go true p q more = (names n p, more q)
    go false p q more = cc

-- ---- cells

-- whether what stands so is a cell
abbrev pub cell_stands : Standing → Bool
cell_stands Gone = false
cell_stands Cell = true
cell_stands Computed = false
cell_stands Computing = false

pub cell_there : (s : Stands) (b : Bool) → cell_stands (kind_here s b) ≡ is_cell s
cell_there IsGone b = refl
cell_there (IsCell c) b = refl
cell_there (IsComputed c) true = refl
cell_there (IsComputed c) false = refl

-- a cell isn't rewired
pub cell_kept : (n : ℕ) (r : Recipe) (w : World) → rewiring_refused n r w ≡ None → is_cell (standing w.signals n) ≡ true → rewire_signal n r w ≡ w
cell_kept n r w e on = ap (λ o. or_refused o (rewire_standing (standing w.signals n) n r w) w) e ∙ go (standing w.signals n) on
  where
    go : (s : Stands) → is_cell s ≡ true → rewire_standing s n r w ≡ w
    go IsGone q = cc
    go (IsCell c) q = refl
    go (IsComputed c) q = cc
