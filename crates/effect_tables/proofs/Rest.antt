-- What the tables stand for is at rest.
use Rattle.std.proofs.Common.{◌≡◌, ℕ, zero, suc, ◌+◌, Bool, true, false, cond, List, [], ◌∷◌, Option, not, refl, ap, ◌∙◌, arith}
use Rattle.std.specs.Prelude.{is_some, ◌&&◌}
use Rattle.effect_model.specs.Owners.{Thing, the_signal, the_owner, the_effect, the_page, the_watcher, Owned, nothing, thing, is_holder, listed}
use Rattle.effect_model.specs.Worlds.{World, at_rest}
use Rattle.sig_owner.specs.Tables.{Item, held, leaf, noted, Row, live_at, thing_at}
use Rattle.sig_owner.specs.Renames.{renamed, renamed_thing}
use Rattle.sig_owner.specs.Trees.{is_top, owned_of, piled, stands_under, top_items}
use Rattle.effect_tables.specs.declared.tables.Tables.{Tables}
use Rattle.effect_tables.specs.Consistency.{TablesAgree, IsKnown}
use Rattle.effect_tables.specs.Placed.{numbering, placed, tree_of}

holder_known : (owners : List (Option ℕ)) (k : ℕ) (t : Thing) → IsKnown owners k t → is_holder t ≡ true
holder_known owners k (the_owner n) h = refl
holder_known owners k (the_effect n) h = refl
holder_known owners k (the_signal n) h = absurd h
holder_known owners k (the_page n) h = absurd h
holder_known owners k (the_watcher n) h = absurd h

same_kind : (g : ℕ → ℕ) (t : Thing) → is_holder (renamed_thing g t) ≡ is_holder t
same_kind g (the_owner n) = refl
same_kind g (the_effect n) = refl
same_kind g (the_signal n) = refl
same_kind g (the_page n) = refl
same_kind g (the_watcher n) = refl

-- items that are all holders
abbrev AreHolders : (ℕ → Thing) → List Item → Type 0
AreHolders names [] = Unit {0}
AreHolders names (held m ∷ is) = (is_holder (names m) ≡ true) × AreHolders names is
AreHolders names (_ ∷ is) = ⊥

-- what stands at the top lives
top_holders : (names : ℕ → Thing) (rows : List Row) (n : ℕ) → ((j : ℕ) → live_at rows j ≡ true → is_holder (names (n + j)) ≡ true) → AreHolders names (top_items n rows)
top_holders names [] n h = tt
top_holders names (r ∷ rs) n h =
    go (is_top r) refl (top_holders names rs (n + 1) (λ j on. ap (λ (k : ℕ). is_holder (names k)) (let e : n + 1 + j ≡ n + suc j = omega arith in e) ∙ h (suc j) on))
  where
    both : (a b : Bool) → (a && b) ≡ true → a ≡ true
    both true b q = refl
    both false b q = q

    go : (b : Bool) → is_top r ≡ b → AreHolders names (top_items (n + 1) rs) → AreHolders names (cond b (held n ∷ top_items (n + 1) rs) (top_items (n + 1) rs))
    go true q more = (ap (λ (k : ℕ). is_holder (names k)) (let e : n ≡ n + 0 = omega arith in e) ∙ h zero (both r.live (not (is_some r.above)) q), more)
    go false q more = more

listed_piled : (g : ℕ → ℕ) (names : ℕ → Thing) (below : ℕ → Owned) (is : List Item) (earlier : Owned) → AreHolders names is →
    listed (renamed g earlier) ≡ renamed g earlier → listed (renamed g (piled names below is earlier)) ≡ renamed g (piled names below is earlier)
listed_piled g names below [] earlier a e = e
listed_piled g names below (held m ∷ is) earlier a e =
    let t : Thing = renamed_thing g (names m) in
    let made : Owned = renamed g (below m) in
    listed_piled g names below is (thing (names m) (below m) earlier) a.1
    (ap (λ b. cond b (thing t made (listed (renamed g earlier))) (listed (renamed g earlier))) (same_kind g (names m) ∙ a.0) ∙ ap (thing t made) e)
listed_piled g names below (leaf t ∷ is) earlier a e = absurd a
listed_piled g names below (noted c ∷ is) earlier a e = absurd a

-- only owners and effects stand at the top
pub listed_tree : (t : Tables) → TablesAgree t → listed (tree_of t) ≡ tree_of t
unfolding owned_of
listed_tree t h =
    listed_piled (numbering t) (thing_at t.store) (stands_under t.store) (top_items 0 t.store) nothing
    (top_holders (thing_at t.store) t.store 0 (λ j on. ap (λ (k : ℕ). is_holder (thing_at t.store k)) (let e : 0 + j ≡ j = omega arith in e) ∙ holder_known t.owners.items j (thing_at t.store j) (h.numbered.known j on))) refl

-- what is placed there is at rest, where nothing was told
pub placed_rests : (t : Tables) (w : World) → TablesAgree t → at_rest (placed t w) ≡ record (placed t w) { told = [] }
placed_rests t w h = λ i. record (placed t w) { owned = listed_tree t h i; told = [] }
