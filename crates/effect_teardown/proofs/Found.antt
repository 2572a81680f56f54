-- What lives by the tables lives in the store.
use Rattle.std.proofs.Common.{◌≡◌, ℕ, zero, suc, ◌==◌, ◌||◌, Bool, true, false, cond, List, [], ◌∷◌, map, get_or, Some, None, refl, sym, ap, ◌∙◌}
use Rattle.std.specs.Prelude.{is_some}
use Rattle.std.specs.List.{AllByRecursion}
use Rattle.std.proofs.lemmas.Bool.{eqb-true}
use Rattle.signal_model.specs.Signals.{is_in}
use Rattle.effect_model.specs.Owners.{Thing, the_effect, the_owner}
use Rattle.sig_store.specs.Stored.{entry}
use Rattle.sig_owner.specs.Renames.{renamed_thing}
use Rattle.sig_owner.specs.Tables.{Row, live_at, thing_at}
use Rattle.effect_tables.specs.declared.effect.Effect.{Effect}
use Rattle.effect_tables.specs.declared.tables.Tables.{Tables}
use Rattle.effect_tables.specs.Consistency.{TablesAgree, IsEffect, IsOwner}
use Rattle.effect_tables.specs.Owners.{is_row, living}
use Rattle.effect_tables.specs.Placed.{numbering}
use Rattle.effect_tables.proofs.Shared.{IsNowhere, IsPlace, lives_at, number_at, some_one}
use Rattle.effect_teardown.specs.Rows.{effect_row}

-- a thing lives in this row
pub record IsFound (rows : List Row) (n : ℕ) (t : Thing) : Type 0 where
  pub lives : live_at rows n ≡ true
  pub thing : thing_at rows n ≡ t

pub effect_found : (rows : List Row) (n r : ℕ) (xs : List Effect) → Some r ≡ effect_row n xs → AllByRecursion (IsEffect rows) xs → IsFound rows r (the_effect n)
effect_found rows n r [] e all = cc
effect_found rows n r (x ∷ xs) e all = go (n == x.id) refl e (effect_found rows n r xs)
  where
    go : (b : Bool) → (n == x.id) ≡ b → Some r ≡ cond b (Some x.row) (effect_row n xs) → (Some r ≡ effect_row n xs → AllByRecursion (IsEffect rows) xs → IsFound rows r (the_effect n)) →
        IsFound rows r (the_effect n)
    go true q h more =
        let row : r ≡ x.row = some_one r x.row h in
        record { lives = ap (live_at rows) row ∙ all.0.lives; thing = ap (thing_at rows) row ∙ all.0.thing ∙ ap the_effect (sym (eqb-true n x.id q)) }
    go false q h more = more h all.1

pub effect_listed : (n r : ℕ) (xs : List Effect) → Some r ≡ effect_row n xs → is_in n (map (λ (x : Effect). x.id) xs) ≡ true
effect_listed n r [] e = cc
effect_listed n r (x ∷ xs) e = go (n == x.id) e (effect_listed n r xs)
  where
    go : (b : Bool) → Some r ≡ cond b (Some x.row) (effect_row n xs) → (Some r ≡ effect_row n xs → is_in n (map (λ (y : Effect). y.id) xs) ≡ true) → (b || is_in n (map (λ (y : Effect). y.id) xs)) ≡ true
    go true h more = refl
    go false h more = more h

pub effect_unlisted : (n : ℕ) (xs : List Effect) → None ≡ effect_row n xs → is_in n (map (λ (x : Effect). x.id) xs) ≡ false
effect_unlisted n [] e = refl
effect_unlisted n (x ∷ xs) e = go (n == x.id) e (effect_unlisted n xs)
  where
    go : (b : Bool) → None ≡ cond b (Some x.row) (effect_row n xs) → (None ≡ effect_row n xs → is_in n (map (λ (y : Effect). y.id) xs) ≡ false) → (b || is_in n (map (λ (y : Effect). y.id) xs)) ≡ false
    go true h more = cc
    go false h more = more h

-- the row of the effect at the place of its number
pub placed_row : (n : ℕ) (xs : List Effect) (i : ℕ) (d : Effect) → IsPlace n xs i → effect_row n xs ≡ Some (get_or xs i d).row
placed_row n [] i d p = absurd p
placed_row n (x ∷ xs) zero d p = ap (λ b. cond b (Some x.row) (effect_row n xs)) p
placed_row n (x ∷ xs) (suc i) d p = ap (λ b. cond b (Some x.row) (effect_row n xs)) p.0 ∙ placed_row n xs i d p.1

pub unplaced_row : (n : ℕ) (xs : List Effect) → IsNowhere n xs → effect_row n xs ≡ None
unplaced_row n [] h = refl
unplaced_row n (x ∷ xs) h = ap (λ b. cond b (Some x.row) (effect_row n xs)) h.0 ∙ unplaced_row n xs h.1

-- the row of an owner that lives
pub record IsOwnerFound (t : Tables) (n r : ℕ) : Type 0 where
  pub found : IsFound t.store r (the_owner r)
  pub number : renamed_thing (numbering t) (the_owner r) ≡ the_owner n
  pub listed : is_row r t.owners.items ≡ true
  pub on : is_in n (living 0 t.owners.items) ≡ true

pub owner_found : (t : Tables) (n r : ℕ) → TablesAgree t → Some r ≡ entry t.owners.items n → IsOwnerFound t n r
owner_found t n r h e =
    let two = number_at t.owners.items n r h.numbered.apart (sym e) in
    let own : IsOwner t.store r = h.alive.owners r two.1 in
    record {
      found = record { lives = own.lives; thing = own.thing };
      number = ap the_owner two.0;
      listed = two.1;
      on = lives_at t.owners.items n ∙ sym (ap is_some e);
    }

pub owner_gone : (t : Tables) (n : ℕ) → None ≡ entry t.owners.items n → is_in n (living 0 t.owners.items) ≡ false
owner_gone t n off = lives_at t.owners.items n ∙ sym (ap is_some off)
