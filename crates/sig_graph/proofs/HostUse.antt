-- Which host formulas the computeds that stand ask, and how that changes.
use Rattle.std.proofs.Common.{◌≡◌, ℕ, ◌==◌, ◌||◌, Bool, true, false, cond, List, [], ◌∷◌, ◌++◌, Option, Some, None, refl, ap, ◌∙◌, ◌⊎◌, inl, inr}
use Rattle.signal_model.specs.Recipes.{Recipe}
use Rattle.signal_model.specs.Signals.{Signals, Cell, Computed, cell_at, computed_at, or_computed, changed, without, standing}
use Rattle.signal_model.specs.Changes.{with_computed, with_recipe, without_signal}
use Rattle.signal_model.specs.Asks.{asks_host, is_host}
use Rattle.sig_graph.specs.HostUse.{some_asks, uses_host}
use Rattle.signal_model.proofs.Shared.{or_right}

-- what the computed under a name asks is asked by one of them
listed : (place n : ℕ) (cs : List Computed) (c : Computed) → computed_at n cs ≡ Some c → is_host place c.recipe.expression ≡ true → some_asks place cs ≡ true
listed place n [] c at is = cc
listed place n (d ∷ ds) c at is = go (n == d.name) at (listed place n ds c)
  where
    go : (b : Bool) → cond b (Some d) (computed_at n ds) ≡ Some c → (computed_at n ds ≡ Some c → is_host place c.recipe.expression ≡ true → some_asks place ds ≡ true) →
        (is_host place d.recipe.expression || some_asks place ds) ≡ true
    go true e more = let same : d ≡ c = cc in ap (λ (x : Computed). is_host place x.recipe.expression || some_asks place ds) same ∙ ap (λ b. b || some_asks place ds) is
    go false e more = or_right (is_host place d.recipe.expression) (some_asks place ds) (more e is)

pub uses_standing : (w : Signals) (place n : ℕ) → asks_host place (standing w n) ≡ true → uses_host w place ≡ true
uses_standing w place n is = go (cell_at n w.cells) (computed_at n w.computeds) refl is
  where
    go : (x : Option Cell) (y : Option Computed) → computed_at n w.computeds ≡ y → asks_host place (or_computed x y) ≡ true → uses_host w place ≡ true
    go (Some d) y e h = cc
    go None None e h = cc
    go None (Some c) e h = listed place n w.computeds c e h

-- a computed is made
pub uses_made : (w : Signals) (c : Computed) (place : ℕ) → uses_host (with_computed w c) place ≡ (uses_host w place || is_host place c.recipe.expression)
uses_made w c place = go w.computeds
  where
    one : (a : Bool) → (a || false) ≡ a
    one true = refl
    one false = refl

    more : (a b d e : Bool) → b ≡ (d || e) → (a || b) ≡ ((a || d) || e)
    more true b d e h = refl
    more false b d e h = h

    go : (cs : List Computed) → some_asks place (cs ++ c ∷ []) ≡ (some_asks place cs || is_host place c.recipe.expression)
    go [] = one (is_host place c.recipe.expression)
    go (d ∷ ds) = more (is_host place d.recipe.expression) (some_asks place (ds ++ c ∷ [])) (some_asks place ds) (is_host place c.recipe.expression) (go ds)

-- one gets another recipe
pub uses_rewired : (w : Signals) (n : ℕ) (r : Recipe) (place : ℕ) → uses_host (with_recipe w n r) place ≡ true →
    (is_host place r.expression ≡ true) ⊎ (uses_host w place ≡ true)
uses_rewired w n r place = go w.computeds
  where
    go : (cs : List Computed) → some_asks place (changed (λ (c : Computed). c.name) n (λ c. record c { recipe = r }) cs) ≡ true →
        (is_host place r.expression ≡ true) ⊎ (some_asks place cs ≡ true)
    go [] h = cc
    go (c ∷ cs) h = by (n == c.name) (go cs) h
      where
        rest : List Computed
        rest = changed (λ (d : Computed). d.name) n (λ d. record d { recipe = r }) cs

        behind : (is_host place r.expression ≡ true) ⊎ (some_asks place cs ≡ true) →
            (is_host place r.expression ≡ true) ⊎ ((is_host place c.recipe.expression || some_asks place cs) ≡ true)
        behind (inl e) = inl e
        behind (inr e) = inr (or_right (is_host place c.recipe.expression) (some_asks place cs) e)

        here : (a : Bool) → (a || some_asks place rest) ≡ true → (some_asks place rest ≡ true → (is_host place r.expression ≡ true) ⊎ (some_asks place cs ≡ true)) →
            (a ≡ true) ⊎ ((is_host place r.expression ≡ true) ⊎ (some_asks place cs ≡ true))
        here true e f = inl refl
        here false e f = inr (f e)

        new : (is_host place r.expression ≡ true) ⊎ ((is_host place r.expression ≡ true) ⊎ (some_asks place cs ≡ true)) →
            (is_host place r.expression ≡ true) ⊎ ((is_host place c.recipe.expression || some_asks place cs) ≡ true)
        new (inl e) = inl e
        new (inr e) = behind e

        old : (is_host place c.recipe.expression ≡ true) ⊎ ((is_host place r.expression ≡ true) ⊎ (some_asks place cs ≡ true)) →
            (is_host place r.expression ≡ true) ⊎ ((is_host place c.recipe.expression || some_asks place cs) ≡ true)
        old (inl e) = inr (ap (λ a. a || some_asks place cs) e)
        old (inr e) = behind e

        by : (b : Bool) → (some_asks place rest ≡ true → (is_host place r.expression ≡ true) ⊎ (some_asks place cs ≡ true)) →
            some_asks place (cond b (record c { recipe = r }) c ∷ rest) ≡ true →
            (is_host place r.expression ≡ true) ⊎ ((is_host place c.recipe.expression || some_asks place cs) ≡ true)
        by true f q = new (here (is_host place r.expression) q f)
        by false f q = old (here (is_host place c.recipe.expression) q f)

-- a signal is disposed
pub uses_without : (w : Signals) (n place : ℕ) → uses_host (without_signal w n) place ≡ true → uses_host w place ≡ true
uses_without w n place = go w.computeds
  where
    go : (cs : List Computed) → some_asks place (without (λ (c : Computed). c.name) n cs) ≡ true → some_asks place cs ≡ true
    go [] h = h
    go (c ∷ cs) h = by (n == c.name) (go cs) h
      where
        rest : List Computed
        rest = without (λ (d : Computed). d.name) n cs

        kept : (a : Bool) → (a || some_asks place rest) ≡ true → (some_asks place rest ≡ true → some_asks place cs ≡ true) → (a || some_asks place cs) ≡ true
        kept true e f = refl
        kept false e f = f e

        by : (b : Bool) → (some_asks place rest ≡ true → some_asks place cs ≡ true) → some_asks place (cond b rest (c ∷ rest)) ≡ true →
            (is_host place c.recipe.expression || some_asks place cs) ≡ true
        by true f q = or_right (is_host place c.recipe.expression) (some_asks place cs) (f q)
        by false f q = kept (is_host place c.recipe.expression) q f
