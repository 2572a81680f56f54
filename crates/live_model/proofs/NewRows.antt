-- Rows that are still to come are rows.
use Rattle.std.proofs.Common.{◌≡◌, ℕ, Bool, true, false, not, List, [], ◌∷◌, length, refl, sym, arith, codes}
use Rattle.std.specs.Prelude.{nat_lt, ◌||◌}
use Rattle.std.specs.List.{IsDistinct, AllByRecursion, list_all, list_any}
use Rattle.std.specs.Str.{bytes_eq}
use Rattle.std.proofs.lemmas.Bool.{and_parts, not-true, or_parts}
use Rattle.std.proofs.lemmas.Bool.Decides.{nat_tests}
use Rattle.std.proofs.lemmas.List.Elements.{All-from_recursion}
use Rattle.std.proofs.lemmas.Map.Keys.{IsDistinct-cons}
use Rattle.std.proofs.lemmas.Slice.Eq.{bytes_eq-Decides}
use Rattle.sig_base.specs.Tables.{AreRows}
use Rattle.sig_base.specs.declared.limits.TheConstants.{MOST_FIELDS}
use Rattle.sig_base.specs.declared.rows.Row.{Row}
use Rattle.line_forms.specs.Forms.{are_distinct}
use Rattle.live_cmd.specs.Grammar.{are_fields, is_field}
use Rattle.live_model.specs.Scripts.{is_list}

-- no name that is among others
apart : (n : List ℕ) (ns : List (List ℕ)) → list_any (bytes_eq n) ns ≡ false → AllByRecursion (λ m. bytes_eq n m ≡ false) ns
apart n [] h = tt
apart n (m ∷ ms) h = let s = or_parts (bytes_eq n m) (list_any (bytes_eq n) ms) h in (s.0, apart n ms s.1)

distinct : (ns : List (List ℕ)) → are_distinct ns ≡ true → IsDistinct bytes_eq ns
unfolding IsDistinct
distinct [] h = tt
distinct (n ∷ ns) h =
    let s = and_parts (not (list_any (bytes_eq n) ns)) (are_distinct ns) h in
    IsDistinct-cons bytes_eq n ns (apart n ns (not-true (list_any (bytes_eq n) ns) s.0)) (distinct ns s.1)

no_key : (ns : List (List ℕ)) → list_all is_field ns ≡ true → list_any (bytes_eq (codes "key")) ns ≡ false
no_key [] h = refl
no_key (n ∷ ns) h =
    let s = and_parts (is_field n) (list_all is_field ns) h in
    go (bytes_eq (codes "key") n) (not-true (bytes_eq n (codes "key")) s.0) refl (no_key ns s.1)
  where
    go : (b : Bool) → bytes_eq n (codes "key") ≡ false → bytes_eq (codes "key") n ≡ b → list_any (bytes_eq (codes "key")) ns ≡ false →
        (b || list_any (bytes_eq (codes "key")) ns) ≡ false
    go true e f r = absurd (let g : bytes_eq n (codes "key") ≡ true = (bytes_eq-Decides n (codes "key")).1 (sym ((bytes_eq-Decides (codes "key") n).0 f)) in cc)
    go false e f r = r

-- so it is with the fields of a list
pub new_rows : (fields : List (List ℕ)) → is_list fields ≡ true → AreRows fields []
unfolding IsDistinct
new_rows fields h =
    let s = and_parts (are_fields fields) (not (nat_lt MOST_FIELDS (length fields))) h in
    let f = and_parts (list_all is_field fields) (are_distinct fields) s.0 in
    let few = not-true (nat_lt MOST_FIELDS (length fields)) s.1 in
    record {
      few_fields = grind (arith, nat_tests);
      distinct_fields = distinct fields f.1;
      no_key_field = no_key fields f.0;
      few_rows = omega arith;
      distinct_keys = tt;
      one_value_each = All-from_recursion (λ (r : Row). length r.values ≡ length fields) [] tt;
    }
