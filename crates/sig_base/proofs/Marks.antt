-- What the marked rows keep of all the rows.
use Rattle.std.proofs.Common.{◌≡◌, ℕ, ◌≤◌, Bool, true, false, List, [], ◌∷◌, length, map, refl, ap, arith}
use Rattle.std.specs.List.{AllByRecursion, IsDistinct}
use Rattle.std.specs.Str.{bytes_eq}
use Rattle.std.proofs.lemmas.List.Elements.{All-from_recursion, recursion_from_All}
use Rattle.sig_base.specs.declared.rows.Row.{Row}
use Rattle.sig_base.specs.Tables.{AreRows, keys_of, marked}

marked-length : {A : Type 0} (ms : List Bool) (xs : List A) → length (marked ms xs) ≤ length xs
marked-length [] xs = omega arith
marked-length (m ∷ ms) [] = omega arith
marked-length (true ∷ ms) (x ∷ xs) = omega (arith, marked-length ms xs)
marked-length (false ∷ ms) (x ∷ xs) = omega (arith, marked-length ms xs)

marked-map : {A B : Type 0} (f : A → B) (ms : List Bool) (xs : List A) → map f (marked ms xs) ≡ marked ms (map f xs)
marked-map f [] xs = refl
marked-map f (m ∷ ms) [] = refl
marked-map f (true ∷ ms) (x ∷ xs) = ap (λ l. f x ∷ l) (marked-map f ms xs)
marked-map f (false ∷ ms) (x ∷ xs) = marked-map f ms xs

-- what holds of all elements holds of the marked ones
marked-each : {A : Type 0} (P : A → Type 0) (ms : List Bool) (xs : List A) → AllByRecursion P xs → AllByRecursion P (marked ms xs)
marked-each P [] xs h = tt
marked-each P (m ∷ ms) [] h = tt
marked-each P (true ∷ ms) (x ∷ xs) h = (h.0, marked-each P ms xs h.1)
marked-each P (false ∷ ms) (x ∷ xs) h = marked-each P ms xs h.1

marked-distinct : {A : Type 0} (e : A → A → Bool) (ms : List Bool) (xs : List A) → IsDistinct e xs → IsDistinct e (marked ms xs)
unfolding IsDistinct
marked-distinct e [] xs h = tt
marked-distinct e (m ∷ ms) [] h = tt
marked-distinct e (true ∷ ms) (x ∷ xs) h = (marked-each (λ y. e x y ≡ false) ms xs h.0, marked-distinct e ms xs h.1)
marked-distinct e (false ∷ ms) (x ∷ xs) h = marked-distinct e ms xs h.1

-- the marked rows stand with the same fields
pub AreRows-marked : (fields : List (List ℕ)) (rows : List Row) (ms : List Bool) → AreRows fields rows → AreRows fields (marked ms rows)
AreRows-marked fields rows ms h =
    let W : Row → Type 0 = λ r. length r.values ≡ length fields in
    record {
      few_fields = h.few_fields;
      distinct_fields = h.distinct_fields;
      no_key_field = h.no_key_field;
      few_rows = omega (arith, h.few_rows, marked-length ms rows);
      distinct_keys = rw (marked-map (λ (r : Row). r.key) ms rows) (marked-distinct bytes_eq ms (keys_of rows) h.distinct_keys);
      one_value_each = All-from_recursion W (marked ms rows) (marked-each W ms rows (recursion_from_All W rows h.one_value_each));
    }
