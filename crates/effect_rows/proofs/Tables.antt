-- What calls leave of tables.
use Rattle.std.proofs.Common.{◌≡◌, ℕ, List, ◌+◌, ◌≤◌, false, Option, Some, None, refl, sym, ap, ◌∙◌, subst, arith}
use Rattle.effect_model.specs.Owners.{Thing, the_signal, the_owner, Owned, nothing, alone, made_inside, Undoing, listed}
use Rattle.effect_model.specs.Worlds.{World, at_rest}
use Rattle.effect_model.specs.Bodies.{Body}
use Rattle.effect_model.specs.Commands.{new_world, with_new_effect, with_new_owner, with_new_page}
use Rattle.sig_owner.specs.Trees.{has_thing, owned_of}
use Rattle.effect_tables.specs.declared.tables.Tables.{Tables}
use Rattle.effect_tables.specs.Children.{adopted}
use Rattle.effect_tables.specs.Consistency.{TablesAgree, LeavesOut}
use Rattle.effect_tables.specs.Placed.{placed, tree_of, untouched}
use Rattle.effect_tables.proofs.Shared.{listed_tree}
use Rattle.effect_teardown.specs.Trees.{AreFormed, CanStand, IsFormed}
use Rattle.effect_teardown.specs.Teardowns.{Takes}
use Rattle.effect_teardown.proofs.Shared.{formed_listed, formed_put}
use Rattle.effect_rows.specs.Trees.{IsReady}

-- a tree with a thing more, which can stand alone
formed_made : (inside : Option ℕ) (t : Thing) (x : Owned) → CanStand t nothing → AreFormed x → AreFormed (made_inside inside t x)
formed_made None t x can f = record { formed = (can, tt, f.formed) }
formed_made (Some o) t x can f = record { formed = formed_put (the_owner 0) (the_owner o) (alone t) x refl (can, tt, tt) f.formed }

-- a signal that stood nowhere still does
still_fresh : (t u : Tables) (n : ℕ) → LeavesOut None t.store u.store → ((k : ℕ) → n ≤ k → has_thing (the_signal k) (owned_of t.store) ≡ false) →
    (k : ℕ) → n ≤ k → has_thing (the_signal k) (owned_of u.store) ≡ false
still_fresh t u n l f k le = l.still k (λ e. none_some k e) (f k le)
  where
    none_some : (k : ℕ) → None ≡ Some k → ⊥
    none_some k e = cc

-- the tree of tables that were changed at rest
formed_rest : (u : Tables) (x : Owned) → TablesAgree u → listed (tree_of u) ≡ listed x → AreFormed x → AreFormed (tree_of u)
formed_rest u x h e f = record {
  formed = subst (IsFormed (the_owner 0)) (sym e ∙ listed_tree u h) (formed_listed (the_owner 0) x f.formed);
}

-- new tables
pub new_ready : (t : Tables) → TablesAgree t → ((w : World) → placed t w ≡ untouched w) → owned_of t.store ≡ nothing → IsReady 0 t
new_ready t h p bare = record {
  holds = h;
  formed = subst AreFormed (sym (ap (λ (w : World). w.owned) (p (new_world 0)))) (record { formed = tt });
  fresh = λ n _. ap (has_thing (the_signal n)) bare;
}

-- tables with an owner more
pub owner_ready : (n : ℕ) (t u : Tables) (inside : Option ℕ) → IsReady n t → TablesAgree u → LeavesOut None t.store u.store →
    ((w : World) → placed u w ≡ with_new_owner inside (placed t w)) → IsReady n u
owner_ready n t u inside r h l d = record {
  holds = h;
  formed = subst AreFormed (sym (ap (λ (w : World). w.owned) (d (new_world 0)))) (formed_made inside _ (tree_of t) tt r.formed);
  fresh = still_fresh t u n l r.fresh;
}

-- tables with an effect more
pub effect_ready : (n : ℕ) (t u : Tables) (b : Body) (inside : Option ℕ) → IsReady n t → TablesAgree u → LeavesOut None t.store u.store →
    ((w : World) → placed u w ≡ with_new_effect b inside (placed t w)) → IsReady n u
effect_ready n t u b inside r h l d = record {
  holds = h;
  formed = subst AreFormed (sym (ap (λ (w : World). w.owned) (d (new_world 0)))) (formed_made inside _ (tree_of t) tt r.formed);
  fresh = still_fresh t u n l r.fresh;
}

-- tables with a page more
pub page_ready : (n : ℕ) (t u : Tables) (inside : Option ℕ) → IsReady n t → TablesAgree u → LeavesOut None t.store u.store →
    ((w : World) → at_rest (placed u w) ≡ at_rest (with_new_page inside (placed t w))) → IsReady n u
page_ready n t u inside r h l d = record {
  holds = h;
  formed = formed_rest u _ h (ap (λ (w : World). w.owned) (d (new_world 0))) (formed_made inside _ (tree_of t) refl r.formed);
  fresh = still_fresh t u n l r.fresh;
}

-- tables with a signal more, which is the next one
pub signal_ready : (n m id : ℕ) (t u : Tables) (inside : Option ℕ) → IsReady n t → TablesAgree u → LeavesOut (Some id) t.store u.store → id ≡ n → m ≡ n + 1 →
    ((w : World) → at_rest (placed u w) ≡ at_rest (adopted id inside (placed t w))) → IsReady m u
signal_ready n m id t u inside r h l is more d = record {
  holds = h;
  formed = formed_rest u _ h (ap (λ (w : World). w.owned) (d (new_world 0))) (formed_made inside _ (tree_of t) refl r.formed);
  fresh = λ k le. l.still k (λ e. other id k (omega (arith, le, is, more)) e) (r.fresh k (omega (arith, le, more)));
}
  where
    other : (n k : ℕ) → n + 1 ≤ k → Some n ≡ Some k → ⊥
    other n k le e = let same : n ≡ k = cc in omega (arith, le, same)

-- tables from which something was taken
pub taken_ready : (n : ℕ) (t u : Tables) (us : List Undoing) (left : Owned) → IsReady n t → Takes t u us left → IsReady n u
taken_ready n t u us left r x = record {
  holds = x.holds;
  formed = subst AreFormed (sym x.tree) x.formed;
  fresh = still_fresh t u n x.signals r.fresh;
}
