-- What is kept of lines in some rows, while it is brought up to date where it stands.
use Rattle.std.proofs.Common.{◌≡◌, ℕ, zero, suc, ◌+◌, ◌≤◌, List, [], ◌∷◌, ◌++◌, drop, length, map, take, sym, ap, ◌∙◌, arith}
use Rattle.std.proofs.Math.Seq.{drop-nil, take-add}
use Rattle.std.proofs.lemmas.List.{drop-map, drop_all, map-append, take-map}
use Rattle.tpl_model.specs.PageUpdates.PageMemos.{PageMemo, unread}
use Rattle.tpl_kept.specs.Turns.{first_of}

-- ---- nothing was kept next

pub none_first : {A : Type 0} (f : A → PageMemo) (xs : List A) (n : ℕ) (m : PageMemo) → m ≡ unread → length xs ≤ n → m ≡ first_of (map f (drop n xs))
none_first f xs n m e le = e ∙ ap (λ z. first_of (map f z)) (sym (drop_all n xs le))

-- ---- all was gone over

pub none_left : {A : Type 0} (f : A → PageMemo) (xs : List A) (n : ℕ) → length xs ≤ n → [] ≡ map f (drop n xs)
none_left f xs n le = ap (map f) (sym (drop_all n xs le))

-- ---- some stay

pub drop_more : {A : Type 0} (n k : ℕ) (xs : List A) → drop (n + k) xs ≡ drop k (drop n xs)
drop_more zero k xs = let e : 0 + k ≡ k = omega arith in ap (λ z. drop z xs) e
drop_more (suc n) k [] = drop-nil (suc n + k) ∙ sym (drop-nil k)
drop_more (suc n) k (x ∷ xs) = let e : suc n + k ≡ suc (n + k) = omega arith in ap (λ z. drop z (x ∷ xs)) e ∙ drop_more n k xs

pub some_left : {A : Type 0} (f : A → PageMemo) (xs : List A) (n k : ℕ) → map f (drop (n + k) xs) ≡ drop k (map f (drop n xs))
some_left f xs n k = ap (map f) (drop_more n k xs) ∙ sym (drop-map f k (drop n xs))

pub some_done : {A : Type 0} (f : A → PageMemo) (xs : List A) (n k : ℕ) → map f (take (n + k) xs) ≡ map f (take n xs) ++ take k (map f (drop n xs))
some_done f xs n k =
    ap (map f) (take-add n k xs)
    ∙ (map-append f (take n xs) (take k (drop n xs)) ∙ ap (λ z. map f (take n xs) ++ z) (sym (take-map f k (drop n xs))))
