-- What stands after each change, and what stays listed, watched and ruled.
use Rattle.std.proofs.Common.{◌≡◌, ◌==◌, ◌<◌, ◌++◌, ℕ, Bool, true, false, cond, List, [], ◌∷◌, map, Option, Some, None, refl, sym, ap, subst, ◌∙◌, inl, inr}
use Rattle.std.specs.Prelude.{is_some}
use Rattle.std.specs.Option.{option_map}
use Rattle.std.specs.List.{AllByRecursion}
use Rattle.std.proofs.lemmas.Bool.{eqb-true, eq-eqb}
use Rattle.sig_base.specs.declared.value.Value.{Value}
use Rattle.signal_model.specs.Recipes.{Recipe}
use Rattle.signal_model.specs.Signals.{Signals, Cell, Computed, Stands, IsGone, IsCell, IsComputed, or_computed, is_there, cell_at, computed_at, standing, changed, without}
use Rattle.signal_model.specs.Changes.{with_cell, with_computed, with_value, with_recipe, without_signal}
use Rattle.signal_model.specs.Kept.{AreGiven}
use Rattle.signal_model.proofs.Shared.{tested, stands-computed}
use Rattle.signal_laws.proofs.Shared.{set_kind, rewire_kind, found_more, found_out, found_left, found_new, found_changed}
use Rattle.signal_laws.proofs.Shared.{found_other}
use Rattle.effect_model.specs.Worlds.{Watcher}
use Rattle.effect_model.specs.Acts.{forget}
use Rattle.sig_nodes.specs.Answers.{host_here, rule_here}
use Rattle.sig_graph.specs.States.{Progress, Seen, is_given, progress_at}
use Rattle.sig_state.specs.Equality.{IsRuled}
use Rattle.sig_effect.specs.Stores.{AreListed, AreRuled, AreWatched}
use Rattle.effect_tables.proofs.Shared.{all_behind, all_weaker}
use Rattle.sig_effect.proofs.Watched.{all_mapped, in_apart, in_left}

-- ---- what stands

-- a name under which something stands isn't one under which nothing does
pub apart_from : (w : Signals) (m n : ℕ) → is_there (standing w m) ≡ true → is_there (standing w n) ≡ false → (m == n) ≡ false
apart_from w m n here off = elim (tested (m == n)) [
  | inl e ↦ let q : true ≡ false = sym here ∙ ap (λ k. is_there (standing w k)) (eqb-true m n e) ∙ off in absurd cc
  | inr e ↦ e
]

-- nothing stands under an id that wasn't given
pub none_there : (g : Seen) (n : ℕ) → AreGiven (is_given g) g.state.signals g.state.memos → is_given g n ≡ false → is_there (standing g.state.signals n) ≡ false
none_there g n given new = elim (tested (is_there (standing g.state.signals n))) [
  | inl e ↦ let h : is_given g n ≡ true = given.names n e in let q : true ≡ false = sym h ∙ new in absurd cc
  | inr e ↦ e
]

-- two names differ both ways round
not_back : (a b : ℕ) → (b == a) ≡ false → (a == b) ≡ false
not_back a b off = elim (tested (a == b)) [
  | inl q ↦ let x : true ≡ false = sym (eq-eqb b a (sym (eqb-true a b q))) ∙ off in absurd cc
  | inr q ↦ q
]

-- nothing that is gone asks a host formula
pub gone_host : (s : Stands) → is_there s ≡ false → host_here s ≡ None
gone_host IsGone h = refl
gone_host (IsCell c) h = cc
gone_host (IsComputed c) h = cc

-- nothing stands in either table
no_cell : (x : Option Cell) (y : Option Computed) → is_there (or_computed x y) ≡ false → x ≡ None
no_cell None y h = refl
no_cell (Some c) y h = cc

no_computed : (x : Option Cell) (y : Option Computed) → is_there (or_computed x y) ≡ false → y ≡ None
no_computed (Some c) y h = cc
no_computed None None h = refl
no_computed None (Some c) h = cc

-- a computed stands in the second table alone
computed_alone : (x : Option Cell) (y : Option Computed) (c : Computed) → or_computed x y ≡ IsComputed c → x ≡ None
computed_alone None y c h = refl
computed_alone (Some d) y c h = cc

-- another signal is as before a making
pub cell_beside : (w : Signals) (c : Cell) (m : ℕ) → (m == c.name) ≡ false → standing (with_cell w c) m ≡ standing w m
cell_beside w c m off = ap (λ x. or_computed x (computed_at m w.computeds)) (found_more (λ (c : Cell). c.name) m w.cells c off)

pub computed_beside : (w : Signals) (c : Computed) (m : ℕ) → (m == c.name) ≡ false → standing (with_computed w c) m ≡ standing w m
computed_beside w c m off = ap (λ x. or_computed (cell_at m w.cells) x) (found_more (λ (c : Computed). c.name) m w.computeds c off)

-- what is made stands, where nothing stood
pub cell_made : (w : Signals) (c : Cell) → is_there (standing w c.name) ≡ false → standing (with_cell w c) c.name ≡ IsCell c
cell_made w c off = ap (λ x. or_computed x (computed_at c.name w.computeds)) (found_new (λ (c : Cell). c.name) w.cells c (no_cell (cell_at c.name w.cells) (computed_at c.name w.computeds) off))

pub computed_made : (w : Signals) (c : Computed) → is_there (standing w c.name) ≡ false → standing (with_computed w c) c.name ≡ IsComputed c
computed_made w c off =
    ap (λ x. or_computed x (computed_at c.name (with_computed w c).computeds)) (no_cell (cell_at c.name w.cells) (computed_at c.name w.computeds) off)
    ∙ ap (λ x. or_computed None x) (found_new (λ (c : Computed). c.name) w.computeds c (no_computed (cell_at c.name w.cells) (computed_at c.name w.computeds) off))

-- what is disposed is gone, and another signal is as before
pub gone_now : (w : Signals) (n : ℕ) → standing (without_signal w n) n ≡ IsGone
gone_now w n = λ i. or_computed (found_out (λ (c : Cell). c.name) n w.cells i) (found_out (λ (c : Computed). c.name) n w.computeds i)

pub left_now : (w : Signals) (n m : ℕ) → (m == n) ≡ false → standing (without_signal w n) m ≡ standing w m
left_now w n m off = λ i. or_computed (found_left (λ (c : Cell). c.name) m n w.cells off i) (found_left (λ (c : Computed). c.name) m n w.computeds off i)

-- what is rewired has the recipe, and another signal is as before
pub recipe_now : (w : Signals) (n : ℕ) (r : Recipe) (m : ℕ) (c : Computed) → standing w m ≡ IsComputed c → (m == n) ≡ true →
    standing (with_recipe w n r) m ≡ IsComputed (record c { recipe = r })
recipe_now w n r m c e on =
    ap (λ x. or_computed x (computed_at m (with_recipe w n r).computeds)) (computed_alone (cell_at m w.cells) (computed_at m w.computeds) c e)
    ∙ ap (λ x. or_computed None x) (found_changed (λ (c : Computed). c.name) m n (λ d. record d { recipe = r }) w.computeds (λ d. refl)
    ∙ ap (option_map (λ d. cond (m == n) (record d { recipe = r }) d)) (stands-computed w m c e))
    ∙ ap (λ b. or_computed None (Some (cond b (record c { recipe = r }) c))) on

pub recipe_beside : (w : Signals) (n : ℕ) (r : Recipe) (m : ℕ) → (m == n) ≡ false → standing (with_recipe w n r) m ≡ standing w m
recipe_beside w n r m off = ap (λ x. or_computed (cell_at m w.cells) x) (found_other (λ (c : Computed). c.name) m n (λ d. record d { recipe = r }) w.computeds (λ d. refl) off)

-- a set leaves each computed, and each rule
pub value_computed : (w : Signals) (n : ℕ) (v : Value) (m : ℕ) (c : Computed) → standing w m ≡ IsComputed c → standing (with_value w n v) m ≡ IsComputed c
value_computed w n v m c e =
    ap (λ x. or_computed x (computed_at m w.computeds)) (found_changed (λ (c : Cell). c.name) m n (λ d. record d { value = v }) w.cells (λ d. refl)
    ∙ ap (option_map (λ d. cond (m == n) (record d { value = v }) d)) (computed_alone (cell_at m w.cells) (computed_at m w.computeds) c e))
    ∙ ap (λ x. or_computed None x) (stands-computed w m c e)

pub value_rule : (w : Signals) (n : ℕ) (v : Value) (m : ℕ) → rule_here (standing (with_value w n v) m) ≡ rule_here (standing w m)
value_rule w n v m =
    ap (λ x. rule_here (or_computed x (computed_at m w.computeds))) (found_changed (λ (c : Cell). c.name) m n (λ d. record d { value = v }) w.cells (λ d. refl))
    ∙ go (m == n) (cell_at m w.cells) (computed_at m w.computeds)
  where
    go : (b : Bool) (x : Option Cell) (y : Option Computed) → rule_here (or_computed (option_map (λ d. cond b (record d { value = v }) d) x) y) ≡ rule_here (or_computed x y)
    go b None y = refl
    go true (Some c) y = refl
    go false (Some c) y = refl

-- and each host formula
pub value_host : (w : Signals) (n : ℕ) (v : Value) (m : ℕ) → host_here (standing (with_value w n v) m) ≡ host_here (standing w m)
value_host w n v m =
    ap (λ x. host_here (or_computed x (computed_at m w.computeds))) (found_changed (λ (c : Cell). c.name) m n (λ d. record d { value = v }) w.cells (λ d. refl))
    ∙ go (m == n) (cell_at m w.cells) (computed_at m w.computeds)
  where
    go : (b : Bool) (x : Option Cell) (y : Option Computed) → host_here (or_computed (option_map (λ d. cond b (record d { value = v }) d) x) y) ≡ host_here (or_computed x y)
    go b None y = refl
    go true (Some c) y = refl
    go false (Some c) y = refl

-- ---- what is listed

there_of : (w : Signals) (m : ℕ) (c : Computed) → standing w m ≡ IsComputed c → is_there (standing w m) ≡ true
there_of w m c e = ap is_there e

pub listed_cell : (w : Signals) (c : Cell) → is_there (standing w c.name) ≡ false → AreListed w → AreListed (with_cell w c)
listed_cell w c off all =
    all_weaker _ _ w.computeds (λ d e. cell_beside w c d.name (apart_from w d.name c.name (there_of w d.name d e) off) ∙ e) all

pub listed_computed : (w : Signals) (c : Computed) → is_there (standing w c.name) ≡ false → AreListed w → AreListed (with_computed w c)
listed_computed w c off all =
    all_behind (λ (d : Computed). standing (with_computed w c) d.name ≡ IsComputed d) w.computeds c
    (all_weaker _ _ w.computeds (λ d e. computed_beside w c d.name (apart_from w d.name c.name (there_of w d.name d e) off) ∙ e) all)
    (computed_made w c off)

pub listed_value : (w : Signals) (n : ℕ) (v : Value) → AreListed w → AreListed (with_value w n v)
listed_value w n v all = all_weaker _ _ w.computeds (λ d e. value_computed w n v d.name d e) all

recipes_from : (w : Signals) (n : ℕ) (r : Recipe) (ds : List Computed) → AllByRecursion (λ (d : Computed). standing w d.name ≡ IsComputed d) ds →
    AllByRecursion (λ (d : Computed). standing (with_recipe w n r) d.name ≡ IsComputed d) (changed (λ (d : Computed). d.name) n (λ d. record d { recipe = r }) ds)
recipes_from w n r [] all = tt
recipes_from w n r (d ∷ ds) all = (go (n == d.name) refl, recipes_from w n r ds all.1)
  where
    go : (b : Bool) → (n == d.name) ≡ b → standing (with_recipe w n r) (cond b (record d { recipe = r }) d).name ≡ IsComputed (cond b (record d { recipe = r }) d)
    go true e = recipe_now w n r d.name d all.0 (eq-eqb d.name n (sym (eqb-true n d.name e)))
    go false e = recipe_beside w n r d.name (not_back d.name n e) ∙ all.0

pub listed_recipe : (w : Signals) (n : ℕ) (r : Recipe) → AreListed w → AreListed (with_recipe w n r)
listed_recipe w n r all = recipes_from w n r w.computeds all

left_from : (w : Signals) (n : ℕ) (ds : List Computed) → AllByRecursion (λ (d : Computed). standing w d.name ≡ IsComputed d) ds →
    AllByRecursion (λ (d : Computed). standing (without_signal w n) d.name ≡ IsComputed d) (without (λ (d : Computed). d.name) n ds)
left_from w n [] all = tt
left_from w n (d ∷ ds) all = go (n == d.name) refl (left_from w n ds all.1)
  where
    go : (b : Bool) → (n == d.name) ≡ b → AllByRecursion (λ (e : Computed). standing (without_signal w n) e.name ≡ IsComputed e) (without (λ (e : Computed). e.name) n ds) →
        AllByRecursion (λ (e : Computed). standing (without_signal w n) e.name ≡ IsComputed e)
        (cond b (without (λ (e : Computed). e.name) n ds) (d ∷ without (λ (e : Computed). e.name) n ds))
    go true e more = more
    go false e more = (left_now w n d.name (not_back d.name n e) ∙ all.0, more)

pub listed_left : (w : Signals) (n : ℕ) → AreListed w → AreListed (without_signal w n)
listed_left w n all = left_from w n w.computeds all

-- ---- what is watched

pub watched_still : (w v : Signals) (xs : List Watcher) → ((n : ℕ) → is_there (standing w n) ≡ true → is_there (standing v n) ≡ true) → AreWatched w xs → AreWatched v xs
watched_still w v xs keeps all = all_weaker _ _ xs (λ x h n q. keeps n (h n q)) all

pub watched_left : (w : Signals) (n : ℕ) (xs : List Watcher) → AreWatched w xs → AreWatched (without_signal w n) (map (forget n) xs)
watched_left w n xs all =
    all_mapped _ _ (forget n) xs
    (λ x h m q. ap is_there (left_now w n m (in_apart m n x.signals q)) ∙ h m (in_left m n x.signals q)) all

pub cell_keeps : (w : Signals) (c : Cell) (m : ℕ) → is_there (standing w c.name) ≡ false → is_there (standing w m) ≡ true → is_there (standing (with_cell w c) m) ≡ true
cell_keeps w c m off here = ap is_there (cell_beside w c m (apart_from w m c.name here off)) ∙ here

pub computed_keeps : (w : Signals) (c : Computed) (m : ℕ) → is_there (standing w c.name) ≡ false → is_there (standing w m) ≡ true → is_there (standing (with_computed w c) m) ≡ true
computed_keeps w c m off here = ap is_there (computed_beside w c m (apart_from w m c.name here off)) ∙ here

pub value_keeps : (w : Signals) (n : ℕ) (v : Value) (m : ℕ) → is_there (standing w m) ≡ true → is_there (standing (with_value w n v) m) ≡ true
value_keeps w n v m here = sym (set_kind w n v m).there ∙ here

pub recipe_keeps : (w : Signals) (n : ℕ) (r : Recipe) (m : ℕ) → is_there (standing w m) ≡ true → is_there (standing (with_recipe w n r) m) ≡ true
recipe_keeps w n r m here = sym (rewire_kind w n r m).there ∙ here

-- ---- what is ruled

no_rule : (rules : ℕ) (s : Stands) → rule_here s ≡ None → IsRuled rules s
no_rule rules s none = record { below = λ r e. let q : None ≡ Some r = sym none ∙ e in absurd cc }

-- what has the rule of a ruled one is ruled
same_rule : (rules : ℕ) (s t : Stands) → rule_here t ≡ rule_here s → IsRuled rules s → IsRuled rules t
same_rule rules s t e h = record { below = λ r q. h.below r (sym e ∙ q) }

pub ruled_cell : (rules : ℕ) (w : Signals) (c : Cell) → is_there (standing w c.name) ≡ false → ((r : ℕ) → c.rule ≡ Some r → r < rules) → AreRuled rules w → AreRuled rules (with_cell w c)
ruled_cell rules w c off below all = record { each = each }
  where
    each : (m : ℕ) → IsRuled rules (standing (with_cell w c) m)
    each m = elim (tested (m == c.name)) [
      | inl e ↦
          let same : m ≡ c.name = eqb-true m c.name e in
          record { below = λ r q. below r (sym (ap (λ k. rule_here (standing (with_cell w c) k)) same ∙ ap rule_here (cell_made w c off)) ∙ q) }
      | inr e ↦ same_rule rules (standing w m) (standing (with_cell w c) m) (ap rule_here (cell_beside w c m e)) (all.each m)
    ]

pub ruled_computed : (rules : ℕ) (w : Signals) (c : Computed) → is_there (standing w c.name) ≡ false → AreRuled rules w → AreRuled rules (with_computed w c)
ruled_computed rules w c off all = record { each = each }
  where
    each : (m : ℕ) → IsRuled rules (standing (with_computed w c) m)
    each m = elim (tested (m == c.name)) [
      | inl e ↦
          let same : m ≡ c.name = eqb-true m c.name e in
          no_rule rules (standing (with_computed w c) m) (ap (λ k. rule_here (standing (with_computed w c) k)) same ∙ ap rule_here (computed_made w c off))
      | inr e ↦ same_rule rules (standing w m) (standing (with_computed w c) m) (ap rule_here (computed_beside w c m e)) (all.each m)
    ]

pub ruled_value : (rules : ℕ) (w : Signals) (n : ℕ) (v : Value) → AreRuled rules w → AreRuled rules (with_value w n v)
ruled_value rules w n v all = record { each = λ m. same_rule rules (standing w m) (standing (with_value w n v) m) (value_rule w n v m) (all.each m) }

pub ruled_recipe : (rules : ℕ) (w : Signals) (n : ℕ) (r : Recipe) (c : Computed) → standing w n ≡ IsComputed c → AreRuled rules w → AreRuled rules (with_recipe w n r)
ruled_recipe rules w n r c stands all = record { each = each }
  where
    each : (m : ℕ) → IsRuled rules (standing (with_recipe w n r) m)
    each m = elim (tested (m == n)) [
      | inl e ↦
          let here : standing w m ≡ IsComputed c = ap (standing w) (eqb-true m n e) ∙ stands in
          no_rule rules (standing (with_recipe w n r) m) (ap rule_here (recipe_now w n r m c here e))
      | inr e ↦ same_rule rules (standing w m) (standing (with_recipe w n r) m) (ap rule_here (recipe_beside w n r m e)) (all.each m)
    ]

pub ruled_left : (rules : ℕ) (w : Signals) (n : ℕ) → AreRuled rules w → AreRuled rules (without_signal w n)
ruled_left rules w n all = record { each = each }
  where
    each : (m : ℕ) → IsRuled rules (standing (without_signal w n) m)
    each m = elim (tested (m == n)) [
      | inl e ↦ no_rule rules (standing (without_signal w n) m) (ap (λ k. rule_here (standing (without_signal w n) k)) (eqb-true m n e) ∙ ap rule_here (gone_now w n))
      | inr e ↦ same_rule rules (standing w m) (standing (without_signal w n) m) (ap rule_here (left_now w n m e)) (all.each m)
    ]

-- ---- nothing is being evaluated

-- a computed more, which isn't being evaluated
pub idle_made : (ps : List Progress) (n m : ℕ) → is_some (progress_at m ps) ≡ false → is_some (progress_at m (ps ++ record { name = n; known = None } ∷ [])) ≡ false
idle_made [] n m h = at (m == n)
  where
    at : (b : Bool) → is_some (cond b None (progress_at m [])) ≡ false
    at true = refl
    at false = refl
idle_made (p ∷ ps) n m h = at (m == p.name) h (idle_made ps n m)
  where
    at : (b : Bool) → is_some (cond b p.known (progress_at m ps)) ≡ false →
        (is_some (progress_at m ps) ≡ false → is_some (progress_at m (ps ++ record { name = n; known = None } ∷ [])) ≡ false) →
        is_some (cond b p.known (progress_at m (ps ++ record { name = n; known = None } ∷ []))) ≡ false
    at true e more = e
    at false e more = more e

-- a name that is left out is in no list without it
out : (n : ℕ) (ps : List Progress) → is_some (progress_at n (without (λ (p : Progress). p.name) n ps)) ≡ false
out n [] = refl
out n (p ∷ ps) = at (n == p.name) refl (out n ps)
  where
    at : (b : Bool) → (n == p.name) ≡ b → is_some (progress_at n (without (λ (q : Progress). q.name) n ps)) ≡ false →
        is_some (progress_at n (cond b (without (λ (q : Progress). q.name) n ps) (p ∷ without (λ (q : Progress). q.name) n ps))) ≡ false
    at true e h = h
    at false e h = rw e h

-- and another is there as before
left : (m n : ℕ) (ps : List Progress) → (m == n) ≡ false → progress_at m (without (λ (p : Progress). p.name) n ps) ≡ progress_at m ps
left m n [] off = refl
left m n (p ∷ ps) off = at (n == p.name) refl (left m n ps off)
  where
    at : (b : Bool) → (n == p.name) ≡ b → progress_at m (without (λ (q : Progress). q.name) n ps) ≡ progress_at m ps →
        progress_at m (cond b (without (λ (q : Progress). q.name) n ps) (p ∷ without (λ (q : Progress). q.name) n ps)) ≡ progress_at m (p ∷ ps)
    at true e h = let no : (m == p.name) ≡ false = ap (λ z. m == z) (sym (eqb-true n p.name e)) ∙ off in rw no h
    at false e h = ap (λ o. cond (m == p.name) p.known o) h

-- one less
pub idle_left : (ps : List Progress) (n : ℕ) → ((m : ℕ) → is_some (progress_at m ps) ≡ false) → (m : ℕ) →
    is_some (progress_at m (without (λ (p : Progress). p.name) n ps)) ≡ false
idle_left ps n h m = at (m == n) refl
  where
    at : (b : Bool) → (m == n) ≡ b → is_some (progress_at m (without (λ (p : Progress). p.name) n ps)) ≡ false
    at true e = subst (λ z. is_some (progress_at z (without (λ (p : Progress). p.name) n ps)) ≡ false) (sym (eqb-true m n e)) (out n ps)
    at false e = ap is_some (left m n ps e) ∙ h m
