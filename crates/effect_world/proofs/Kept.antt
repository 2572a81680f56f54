-- What is known of effects stays right where each cell stays as it was.
use Rattle.std.proofs.Common.{◌≡◌, ℕ, ◌==◌, Bool, true, false, cond, List, [], ◌∷◌, ◌++◌, Option, Some, None, refl, sym, ap, subst, ◌∙◌}
use Rattle.sig_base.specs.declared.value.Outcome.{Outcome}
use Rattle.signal_model.specs.Changes.{with_cell, with_computed, with_recipe}
use Rattle.signal_model.specs.Recipes.{Recipe}
use Rattle.signal_model.specs.Signals.{Cell, Computed, Signals, Stands, IsCell, IsComputed, IsGone, cell_at, computed_at, or_computed, standing}
use Rattle.signal_model.specs.Values.{Seen}
use Rattle.effect_model.specs.Worlds.{Effect}
use Rattle.effect_tables.specs.declared.heard.Heard.{Heard}
use Rattle.effect_tables.specs.Heard.{still_in, AreHeard, IsHeardOf, IsQuiet}
use Rattle.effect_tables.proofs.Shared.{all_weaker}

-- what stands as a cell is a cell
is_cell : (o : Option Cell) (d : Option Computed) (y : Cell) → or_computed o d ≡ IsCell y → o ≡ Some y
is_cell (Some c) d y e = cc
is_cell None (Some d) y e = absurd cc
is_cell None None y e = absurd cc

-- a cell that is found afterwards too stands as it was
cell_stays : (w v : Signals) (m : ℕ) (y : Cell) → (cell_at m w.cells ≡ Some y → cell_at m v.cells ≡ Some y) → standing w m ≡ IsCell y → standing v m ≡ standing w m
cell_stays w v m y found h =
    let e : cell_at m w.cells ≡ Some y = is_cell (cell_at m w.cells) (computed_at m w.computeds) y h in
    ap (λ o. or_computed o (computed_at m v.computeds)) (found e) ∙ sym (ap (λ o. or_computed o (computed_at m w.computeds)) e)

-- so it is where one is made behind the others
found_more : (m : ℕ) (cs : List Cell) (c y : Cell) → cell_at m cs ≡ Some y → cell_at m (cs ++ c ∷ []) ≡ Some y
found_more m [] c y e = absurd cc
found_more m (d ∷ cs) c y e = go (m == d.name) e (found_more m cs c y)
  where
    go : (b : Bool) → cond b (Some d) (cell_at m cs) ≡ Some y → (cell_at m cs ≡ Some y → cell_at m (cs ++ c ∷ []) ≡ Some y) → cond b (Some d) (cell_at m (cs ++ c ∷ [])) ≡ Some y
    go true h more = h
    go false h more = more h

-- what was read and has its value still has it afterwards
still_same : (s t : Stands) (o : Outcome) → ((y : Cell) → s ≡ IsCell y → t ≡ s) → still_in s o ≡ true → still_in t o ≡ true
still_same (IsCell y) t o f h = ap (λ u. still_in u o) (f y refl) ∙ h
still_same (IsComputed d) t o f h = absurd cc
still_same IsGone t o f h = absurd cc

quiet_same : (w v : Signals) (h : Heard) (p : ℕ) (k : Option (List Seen)) → ((m : ℕ) (y : Cell) → standing w m ≡ IsCell y → standing v m ≡ standing w m) → IsQuiet w h p k → IsQuiet v h p k
quiet_same w v h p None same quiet = quiet
quiet_same w v h p (Some ss) same quiet =
    all_weaker (IsHeardOf w h p) (IsHeardOf v h p) ss
    (λ s heard. record { still = still_same (standing w s.name) (standing v s.name) s.outcome (same s.name) heard.still; wakes = heard.wakes }) quiet

kept : (w v : Signals) (h : Heard) (xs ys : List Effect) → ((m : ℕ) (y : Cell) → standing w m ≡ IsCell y → standing v m ≡ standing w m) → ys ≡ xs → AreHeard w h xs → AreHeard v h ys
kept w v h xs ys same is a = subst (AreHeard v h) (sym is) (record { each = λ p x on at. quiet_same w v h p x.kept same (a.each p x on at) })

-- a cell is made, a computed is, or it gets another recipe
pub cell_heard : (w later : Signals) (c : Cell) (h : Heard) (xs ys : List Effect) → later ≡ with_cell w c → ys ≡ xs → AreHeard w h xs → AreHeard later h ys
cell_heard w later c h xs ys made is a =
    subst (λ v. AreHeard v h ys) (sym made)
    (kept w (with_cell w c) h xs ys (λ m y at. cell_stays w (with_cell w c) m y (found_more m w.cells c y) at) is a)

pub computed_heard : (w later : Signals) (c : Computed) (h : Heard) (xs ys : List Effect) → later ≡ with_computed w c → ys ≡ xs → AreHeard w h xs → AreHeard later h ys
computed_heard w later c h xs ys made is a =
    subst (λ v. AreHeard v h ys) (sym made) (kept w (with_computed w c) h xs ys (λ m y at. cell_stays w (with_computed w c) m y (λ e. e) at) is a)

pub recipe_heard : (w later : Signals) (n : ℕ) (r : Recipe) (h : Heard) (xs : List Effect) → later ≡ with_recipe w n r → AreHeard w h xs → AreHeard later h xs
recipe_heard w later n r h xs changed a =
    subst (λ v. AreHeard v h xs) (sym changed) (kept w (with_recipe w n r) h xs xs (λ m y at. cell_stays w (with_recipe w n r) m y (λ e. e) at) refl a)
