-- Scripts whose links fit their bodies.
use Rattle.std.specs.Prelude.{ℕ, suc, ◌+◌, ◌≤◌, List, [], ◌∷◌, length}
use Rattle.std.specs.Rc.{rc_value}
use Rattle.sig_base.specs.declared.limits.TheConstants.{MOST_SOURCES}
use Rattle.effect_laws.specs.Asks.{AreFit}
use Rattle.sig_untrack.specs.Links.{Parts, linked}
use Rattle.sig_untrack.specs.Stated.{Stated, no_more, plain, when, effect, rewire, Bodies, no_bodies, body, before, Rewiring, Source, formula, host}
use Rattle.effect_tables.specs.declared.effect.Effect.{Effect}
use Rattle.effect_tables.specs.declared.effect.Script.{Script}
use Rattle.effect_tables.specs.declared.effect.TheConstants.{MOST_STATEMENTS}
use Rattle.effect_tables.specs.Bodies.{Linking, no_links, links, links_before}

-- how many statements there are, guarded ones too, but for those of nested effects
abbrev pub count_of : Stated → ℕ
count_of no_more = 0
count_of (plain a rest) = suc (count_of rest)
count_of (when x inner rest) = suc (count_of inner + count_of rest)
count_of (effect n rest) = suc (count_of rest)
count_of (rewire n rest) = suc (count_of rest)

-- each slot of the formulas is one of so many names, whatever the places stand for, and the statements are few
pub record FitsNames (names : ℕ) (ss : Stated) : Type 0 where
  pub named : (p : Parts) → AreFit names (linked p ss)
  pub few : count_of ss ≤ MOST_STATEMENTS

-- a host formula has few arguments
abbrev pub IsFew : Source → List ℕ → Type 0
IsFew (formula t) slots = Unit {0}
IsFew (host place) slots = length slots ≤ MOST_SOURCES

-- so has each rewiring that has names
abbrev pub AreFew : List Rewiring → List (List ℕ) → Type 0
AreFew [] slots = Unit {0}
AreFew (r ∷ rs) [] = Unit {0}
AreFew (r ∷ rs) (ns ∷ slots) = IsFew r.source ns × AreFew rs slots

-- bodies fit their links, each its own, and so do their nested effects
abbrev pub AreFitting : Bodies → Linking → Type 0
AreFitting no_bodies ls = Unit {0}
AreFitting (body ss targets names inner rewires rest) no_links = Unit {0}
AreFitting (body ss targets names inner rewires rest) (links ns ts ls slots more) =
    FitsNames (length ns) ss × AreFew rewires slots × AreFitting inner ls × AreFitting rest more

-- the body of a script fits its links
pub record IsFitting (s : Script) : Type 0 where
  pub fits : AreFitting (before s.body no_bodies) (links_before s.links no_links)

-- the script of an effect does
abbrev pub IsFitted : Effect → Type 0
IsFitted x = IsFitting (rc_value x.script)
