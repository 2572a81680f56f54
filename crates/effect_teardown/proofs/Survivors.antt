-- The rows of effects live after things were taken back.
use Rattle.std.proofs.Common.{◌≡◌, ℕ, zero, suc, Bool, true, false, cond, List, [], ◌∷◌, map, refl, ◌∙◌}
use Rattle.effect_model.specs.Owners.{Thing, the_owner, the_effect}
use Rattle.sig_owner.specs.Tables.{Row, all_ended, changed_at, dropped, dropped_row, emptied_row, ended_row, is_row_of, thing_at, without}
use Rattle.sig_owner.specs.Walks.{ended_under, with_taken_back}
use Rattle.effect_tables.specs.Consistency.{AreLiving}

-- an edit of a row that leaves an effect as it was, or no effect there
living_changed : (f : Row → Row) → ((r : Row) (e : ℕ) → (f r).holder ≡ the_effect e → (r.holder ≡ the_effect e) × ((f r).live ≡ r.live)) → (n : ℕ) (rows : List Row) → AreLiving rows → AreLiving (changed_at f n rows)
living_changed f c n [] h k e q = h k e q
living_changed f c zero (r ∷ rs) h zero e q = let x = c r e q in x.1 ∙ h zero e x.0
living_changed f c zero (r ∷ rs) h (suc k) e q = h (suc k) e q
living_changed f c (suc n) (r ∷ rs) h zero e q = h zero e q
living_changed f c (suc n) (r ∷ rs) h (suc k) e q = living_changed f c n rs (λ j. h (suc j)) k e q

no_effect : (e : ℕ) → the_owner 0 ≡ the_effect e → ⊥
no_effect e q = cc

all_living : (ns : List ℕ) (rows : List Row) → AreLiving rows → AreLiving (all_ended ns rows)
all_living [] rows h = h
all_living (n ∷ ns) rows h = all_living ns (changed_at ended_row n rows) (living_changed ended_row (λ r e q. absurd (no_effect e q)) n rows h)

pub back_living : (rows : List Row) (n : ℕ) → AreLiving rows → AreLiving (with_taken_back rows n)
back_living rows n h = living_changed emptied_row (λ r e q. (q, refl)) n (all_ended (ended_under rows n) rows) (all_living (ended_under rows n) rows h)

map_living : (names : ℕ → Thing) (t : Thing) (rows : List Row) → AreLiving rows → AreLiving (map (dropped_row names t) rows)
map_living names t [] h k e q = h k e q
map_living names t (r ∷ rs) h zero e q = go (is_row_of t r) q
  where
    go : (b : Bool) → (cond b (ended_row r) (record r { items = without names t r.items })).holder ≡ the_effect e → (cond b (ended_row r) (record r { items = without names t r.items })).live ≡ true
    go true z = absurd (no_effect e z)
    go false z = h zero e z
map_living names t (r ∷ rs) h (suc k) e q = map_living names t rs (λ j. h (suc j)) k e q

pub drop_living : (t : Thing) (rows : List Row) → AreLiving rows → AreLiving (dropped t rows)
drop_living t rows h = map_living (thing_at rows) t rows h
