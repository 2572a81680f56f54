-- What acts of bodies mean.
use Rattle.std.proofs.Common.{◌≡◌, ℕ, zero, suc, List, [], ◌∷◌, map, Option, Some, None, refl, sym, ap, subst, ◌∙◌}
use Rattle.std.specs.Prelude.{slice_get}
use Rattle.effect_model.specs.Owners.{Thing, the_signal}
use Rattle.sig_untrack.specs.declared.body.Body.{Body}
use Rattle.sig_untrack.specs.declared.body.Body.TheViews.{out-Body}
use Rattle.sig_untrack.specs.Links.{Parts, Rewired}
use Rattle.sig_untrack.specs.Stated.{Rewiring, Source, formula, host, rewiring}
use Rattle.sig_nodes.specs.Answers.{HasFewSlots}
use Rattle.effect_tables.specs.declared.effect.Script.{Script}
use Rattle.effect_tables.specs.declared.links.Links.{Links}
use Rattle.effect_tables.specs.declared.links.Links.TheViews.{out-Links}
use Rattle.effect_tables.specs.Scripts.{AreFew, IsFew}
use Rattle.effect_tables.specs.Bodies as tables
use Rattle.effect_tables.specs.Bodies.{rewired, signal_number, target_thing}
use Rattle.effect_teardown.specs.Sites.{IsPart, parts_of, slots_in}
use Rattle.effect_teardown.proofs.SharedSites.{part_parts}
use Rattle.effect_acts.specs.declared.changes.Change.{Change}
use Rattle.effect_acts.specs.Rewires.{IsMeant}

-- ---- a host formula has few arguments

pub few_at : (rs : List Rewiring) (slots : List (List ℕ)) (n : ℕ) (r : Rewiring) (ns : List ℕ) → slice_get rs n ≡ Some r → slice_get slots n ≡ Some ns → AreFew rs slots → IsFew r.source ns
few_at [] slots n r ns p q h = cc
few_at (x ∷ xs) [] n r ns p q h = cc
few_at (x ∷ xs) (y ∷ ys) zero r ns p q h = subst (λ x. x) (λ i. IsFew (let e : x ≡ r = cc in e i).source (let e : y ≡ ns = cc in e i)) h.0
few_at (x ∷ xs) (y ∷ ys) (suc n) r ns p q h = few_at xs ys n r ns p q h.1

pub few_slots : (s : Source) (ns : List ℕ) → IsFew s ns → HasFewSlots (tables.expression_of s) ns
few_slots (formula t) ns h = tt
few_slots (host k) ns h = h

-- ---- the rewiring of a place

pub unwired : (thing : ℕ → Thing) (rs : List Rewiring) (slots : List (List ℕ)) (n : ℕ) → slice_get rs n ≡ None → rewired (λ m. the_signal 0) None None ≡ rewired thing (slice_get rs n) (slice_get slots n)
unwired thing rs slots n e = ap (λ o. rewired thing o (slice_get slots n)) (sym e)

pub unslotted : (thing : ℕ → Thing) (rs : List Rewiring) (slots : List (List ℕ)) (n : ℕ) → slice_get slots n ≡ None → rewired (λ m. the_signal 0) None None ≡ rewired thing (slice_get rs n) (slice_get slots n)
unslotted thing rs slots n e = go (slice_get rs n) ∙ ap (rewired thing (slice_get rs n)) (sym e)
  where
    go : (o : Option Rewiring) → rewired (λ m. the_signal 0) None None ≡ rewired thing o None
    go None = refl
    go (Some r) = refl

pub meant_as : (x : Change) (r s : Rewired) → r ≡ s → IsMeant x r → IsMeant x s
meant_as x r s e m = subst (IsMeant x) e m

-- ---- acts

module _ (s : Script) (path : List ℕ) (b : Body) (l : Links) (is : IsPart s path b l) (origin : ℕ) where
  -- the target of a place, as a cell and as a thing
  pub cell_meant : (t n : ℕ) → n ≡ signal_number (target_thing origin (slice_get (out-Links l).targets.items t)) → n ≡ (parts_of origin s path).cells t
  cell_meant t n cell = cell ∙ ap (λ (p : Parts). p.cells t) (sym (part_parts s path b l is origin))

  pub thing_meant : (t : ℕ) (x : Thing) → x ≡ target_thing origin (slice_get (out-Links l).targets.items t) → x ≡ (parts_of origin s path).things t
  thing_meant t x thing = thing ∙ ap (λ (p : Parts). p.things t) (sym (part_parts s path b l is origin))

  pub rewire_is : (n : ℕ) → rewired (λ m. target_thing origin (slice_get (out-Links l).targets.items m)) (slice_get (map rewiring (out-Body b).rewires.items) n) (slice_get (slots_in (out-Links l).rewires.items) n) ≡
      (parts_of origin s path).rewirings n
  rewire_is n = ap (λ (p : Parts). p.rewirings n) (sym (part_parts s path b l is origin))
