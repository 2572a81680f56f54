-- Sources from their names and their numbers.
use Rattle.std.proofs.Common.{◌≡◌, Bool, true, false, take, if◌then◌else◌, ℕ, zero, suc, ◌+◌, ◌<◌, ◌≤◌, List, [], ◌∷◌, ◌++◌, append_assoc, drop, length, Option, Some, None, refl, sym, ap, ◌∙◌, arith}
use Rattle.std.specs.Prelude.{slice_get, slice_index_or}
use Rattle.signal_model.specs.Memos.{source_names}
use Rattle.sig_base.specs.declared.value.Known.{Known}
use Rattle.sig_nodes.specs.Computations.{GoesOn, paired}

-- their names are those
pub names_paired : (ns : List ℕ) (ms : List (Option ℕ)) → length ns ≡ length ms → source_names (paired ns ms) ≡ ns
names_paired [] ms h = refl
names_paired (n ∷ ns) [] h = absurd (omega arith)
names_paired (n ∷ ns) (m ∷ ms) h = let l : length ns ≡ length ms = omega arith in ap (λ (r : List ℕ). n ∷ r) (names_paired ns ms l)

-- the source at a place
pub paired_at : (ns : List ℕ) (ms : List (Option ℕ)) (i n : ℕ) (m : Option ℕ) → length ns ≡ length ms → i < length ns → n ≡ slice_index_or ns i n → m ≡ slice_index_or ms i m →
    Some (record { name = n; number = m }) ≡ slice_get (paired ns ms) i
paired_at [] ms i n m h l a b = absurd (omega arith)
paired_at (x ∷ ns) [] i n m h l a b = absurd (omega arith)
paired_at (x ∷ ns) (y ∷ ms) zero n m h l a b = λ j. Some (record { name = a j; number = b j })
paired_at (x ∷ ns) (y ∷ ms) (suc i) n m h l a b =
    let k : length ns ≡ length ms = omega arith in let lt : i < length ns = omega arith in paired_at ns ms i n m k lt a b

-- past the last there is none
pub paired_past : (ns : List ℕ) (ms : List (Option ℕ)) (i : ℕ) → length ns ≤ i → None ≡ slice_get (paired ns ms) i
paired_past [] ms i h = refl
paired_past (x ∷ ns) [] i h = refl
paired_past (x ∷ ns) (y ∷ ms) zero h = absurd (omega arith)
paired_past (x ∷ ns) (y ∷ ms) (suc i) h = let l : length ns ≤ i = omega arith in paired_past ns ms i l

-- there are as many as numbers
pub paired_length : (ns : List ℕ) (ms : List (Option ℕ)) → length ns ≡ length ms → length (paired ns ms) ≡ length ns
paired_length [] ms h = refl
paired_length (n ∷ ns) [] h = absurd (omega arith)
paired_length (n ∷ ns) (m ∷ ms) h = let l : length ns ≡ length ms = omega arith in ap suc (paired_length ns ms l)

-- one element more is moved behind a list
pub moved_one : {A : Type 0} (held rest all : List A) (i : ℕ) (x y : A) → i < length rest → y ≡ x → x ≡ slice_index_or rest i x → held ++ drop i rest ≡ all → (held ++ y ∷ []) ++ drop (i + 1) rest ≡ all
moved_one {A = A} held rest all i x y l same is h =
    append_assoc held (y ∷ []) (drop (i + 1) rest) ∙ ap (λ z. held ++ (z ∷ drop (i + 1) rest)) same ∙ ap (λ r. held ++ r) (sym (go rest i l is)) ∙ h
  where
    go : (ys : List A) (k : ℕ) → k < length ys → x ≡ slice_index_or ys k x → drop k ys ≡ x ∷ drop (k + 1) ys
    go [] k q e = absurd (omega arith)
    go (z ∷ ys) zero q e = ap (λ w. w ∷ ys) (sym e)
    go (z ∷ ys) (suc k) q e =
        let s : k < length ys = omega arith in
        let n : suc k + 1 ≡ suc (k + 1) = omega arith in
        rw n (go ys k s e)

-- what is known of an evaluation that goes on
pub going : (b : Bool) (earlier known : List Known) → GoesOn (if b then Some earlier else None) known → (take (length earlier) known ≡ earlier) × (b ≡ true)
going true earlier known h = (h, refl)
going false earlier known h = absurd h
