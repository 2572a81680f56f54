-- An address stands for one line and one row.
use Rattle.std.proofs.Common.{◌≡◌, ℕ, zero, suc, ◌+◌, ◌*◌, ◌<◌, refl, ap, arith, List, [], ◌∷◌, Option, Some, None}
use Rattle.page_model.specs.Addresses.{doubled, key_code, row_code, address}

some_doubled : (m n : ℕ) → 0 < doubled m (1 + 2 * n)
some_doubled zero n = omega arith
some_doubled (suc m) n = (let i = some_doubled m n in omega arith)

one_pair : (m n m' n' : ℕ) → doubled m (1 + 2 * n) ≡ doubled m' (1 + 2 * n') → (m ≡ m') × (n ≡ n')
one_pair zero n zero n' e = (refl, omega arith)
one_pair zero n (suc m') n' e = (let x = doubled m' (1 + 2 * n') in absurd (omega arith))
one_pair (suc m) n zero n' e = absurd (omega arith)
one_pair (suc m) n (suc m') n' e = (let i = one_pair m n m' n' (omega arith) in (ap suc i.0, i.1))

one_key : (xs ys : List ℕ) → key_code xs ≡ key_code ys → xs ≡ ys
one_key [] [] e = refl
one_key [] (y ∷ ys) e = (let i = some_doubled y (key_code ys) in absurd (omega arith))
one_key (x ∷ xs) [] e = (let i = some_doubled x (key_code xs) in absurd (omega arith))
one_key (x ∷ xs) (y ∷ ys) e = (let i = one_pair x (key_code xs) y (key_code ys) e in let j = one_key xs ys i.1 in let k = i.0 in cc)

one_row : (r s : Option (List ℕ)) → row_code r ≡ row_code s → r ≡ s
one_row None None e = refl
one_row None (Some y) e = absurd (omega arith)
one_row (Some x) None e = absurd (omega arith)
one_row (Some x) (Some y) e = ap Some (one_key x y (omega arith))

pub one_address : (l l' : ℕ) (r r' : Option (List ℕ)) → address l r ≡ address l' r' → (l ≡ l') × (r ≡ r')
unfolding address
one_address l l' r r' e = (let i = one_pair l (row_code r) l' (row_code r') e in (i.0, one_row r r' i.1))

-- the root's address is none of them
pub address_above : (l : ℕ) (r : Option (List ℕ)) → 0 < address l r
unfolding address
address_above l r = some_doubled l (row_code r)
