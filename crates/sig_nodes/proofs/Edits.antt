-- What an edit of one node makes of the nodes.
use Rattle.std.proofs.Common.{◌≡◌, ℕ, zero, suc, ◌+◌, ◌≤◌, ◌==◌, Bool, true, false, cond, List, [], ◌∷◌, length, Some, refl, sym, ap, ◌∙◌, subst, arith, if◌then◌else◌, ◌⊎◌, inl, inr, true≢false}
use Rattle.std.specs.Prelude.{slice_get, slice_set}
use Rattle.std.proofs.lemmas.Bool.{eqb-true, eq-eqb}
use Rattle.sig_base.specs.declared.value.Outcome.{Outcome}
use Rattle.signal_model.specs.Memos.{Source, Memo}
use Rattle.sig_nodes.specs.declared.node.Node.{Node}
use Rattle.sig_nodes.specs.declared.node.Body.{Body}
use Rattle.sig_nodes.specs.declared.node.Body.TheVariants.{Gone}
use Rattle.sig_nodes.specs.Nodes.{body_at, change_at, seat_at, changed_at}

-- ---- the node at a place

-- the body of the node that is read at a place
pub body_got : (xs : List Node) (n : ℕ) (x : Node) → slice_get xs n ≡ Some x → body_at xs n ≡ x.body
body_got [] n x h = cc
body_got (y ∷ ys) zero x h = let e : y ≡ x = cc in ap (λ (z : Node). z.body) e
body_got (y ∷ ys) (suc n) x h = body_got ys n x h

-- its change number
pub change_got : (xs : List Node) (n : ℕ) (x : Node) → slice_get xs n ≡ Some x → change_at xs n ≡ x.number
change_got [] n x h = cc
change_got (y ∷ ys) zero x h = let e : y ≡ x = cc in ap (λ (z : Node). z.number) e
change_got (y ∷ ys) (suc n) x h = change_got ys n x h

-- its seat
pub seat_got : (xs : List Node) (n : ℕ) (x : Node) → slice_get xs n ≡ Some x → seat_at xs n ≡ x.seat
seat_got [] n x h = cc
seat_got (y ∷ ys) zero x h = let e : y ≡ x = cc in ap (λ (z : Node). z.seat) e
seat_got (y ∷ ys) (suc n) x h = seat_got ys n x h

-- past the last place nothing lives
pub body_past : (xs : List Node) (n : ℕ) → length xs ≤ n → body_at xs n ≡ Gone
body_past [] n h = refl
body_past (x ∷ xs) zero h = absurd (omega arith)
body_past (x ∷ xs) (suc n) h = let l : length xs ≤ n = omega arith in body_past xs n l

-- the node that is read at a place is written as g makes it
pub written : (xs : List Node) (n : ℕ) (x y : Node) (g : Node → Node) → slice_get xs n ≡ Some x → y ≡ g x → slice_set xs n y ≡ changed_at g n xs
written [] n x y g h made = refl
written (z ∷ xs) zero x y g h made = let e : z ≡ x = cc in ap (λ w. w ∷ xs) (made ∙ ap g (sym e))
written (z ∷ xs) (suc n) x y g h made = ap (λ (ys : List Node). z ∷ ys) (written xs n x y g h made)

-- and where it is as it was, so are the nodes
pub unwritten : (xs : List Node) (n : ℕ) (x y : Node) → slice_get xs n ≡ Some x → y ≡ x → slice_set xs n y ≡ xs
unwritten [] n x y h same = refl
unwritten (z ∷ xs) zero x y h same = let e : z ≡ x = cc in ap (λ w. w ∷ xs) (same ∙ sym e)
unwritten (z ∷ xs) (suc n) x y h same = ap (λ (ys : List Node). z ∷ ys) (unwritten xs n x y h same)

-- what is written stands there then
pub body_written : (xs : List Node) (n : ℕ) (x y : Node) → slice_get xs n ≡ Some x → body_at (slice_set xs n y) n ≡ y.body
body_written [] n x y h = cc
body_written (z ∷ xs) zero x y h = refl
body_written (z ∷ xs) (suc n) x y h = body_written xs n x y h

pub changed_length : (g : Node → Node) (n : ℕ) (xs : List Node) → length (changed_at g n xs) ≡ length xs
changed_length g n [] = refl
changed_length g zero (x ∷ xs) = refl
changed_length g (suc n) (x ∷ xs) = ap suc (changed_length g n xs)

-- the body at a place after an edit that gives it by f
pub body_changed : (g : Node → Node) (f : Body → Body) (n m : ℕ) (xs : List Node) → ((x : Node) → (g x).body ≡ f x.body) → f Gone ≡ Gone →
    body_at (changed_at g n xs) m ≡ (if n == m then f (body_at xs m) else body_at xs m)
body_changed g f n m xs h z = go (tested (n == m))
  where
    tested : (b : Bool) → (b ≡ true) ⊎ (b ≡ false)
    tested true = inl refl
    tested false = inr refl

    here : (ys : List Node) (k : ℕ) → body_at (changed_at g k ys) k ≡ f (body_at ys k)
    here [] k = sym z
    here (y ∷ ys) zero = h y
    here (y ∷ ys) (suc k) = here ys k

    other : (ys : List Node) (k j : ℕ) → (k ≡ j → ⊥) → body_at (changed_at g k ys) j ≡ body_at ys j
    other [] k j ne = refl
    other (y ∷ ys) zero zero ne = absurd (ne refl)
    other (y ∷ ys) zero (suc j) ne = refl
    other (y ∷ ys) (suc k) zero ne = refl
    other (y ∷ ys) (suc k) (suc j) ne = other ys k j (λ e. ne (ap suc e))

    go : ((n == m) ≡ true) ⊎ ((n == m) ≡ false) → body_at (changed_at g n xs) m ≡ cond (n == m) (f (body_at xs m)) (body_at xs m)
    go (inl e) = subst (λ k. body_at (changed_at g n xs) k ≡ f (body_at xs k)) (eqb-true n m e) (here xs n) ∙ ap (λ c. cond c (f (body_at xs m)) (body_at xs m)) (sym e)
    go (inr e) = other xs n m (λ q. true≢false (sym (eq-eqb n m q) ∙ e)) ∙ ap (λ c. cond c (f (body_at xs m)) (body_at xs m)) (sym e)

-- numbers rise by at most one
pub change_risen : (g : Node → Node) (n m : ℕ) (xs : List Node) → ((x : Node) → (g x).number ≤ x.number + 1) → change_at (changed_at g n xs) m ≤ change_at xs m + 1
change_risen g n m [] h = omega arith
change_risen g zero zero (x ∷ xs) h = h x
change_risen g zero (suc m) (x ∷ xs) h = omega arith
change_risen g (suc n) zero (x ∷ xs) h = omega arith
change_risen g (suc n) (suc m) (x ∷ xs) h = change_risen g n m xs h

-- seats stay
pub seat_stays : (g : Node → Node) (n m : ℕ) (xs : List Node) → ((x : Node) → (g x).seat ≡ x.seat) → seat_at (changed_at g n xs) m ≡ seat_at xs m
seat_stays g n m [] h = refl
seat_stays g zero zero (x ∷ xs) h = h x
seat_stays g zero (suc m) (x ∷ xs) h = refl
seat_stays g (suc n) zero (x ∷ xs) h = refl
seat_stays g (suc n) (suc m) (x ∷ xs) h = seat_stays g n m xs h

-- and those of other places in any case
pub seat_other : (g : Node → Node) (n m : ℕ) (xs : List Node) → (n ≡ m → ⊥) → seat_at (changed_at g n xs) m ≡ seat_at xs m
seat_other g n m [] h = refl
seat_other g zero zero (x ∷ xs) h = absurd (h refl)
seat_other g zero (suc m) (x ∷ xs) h = refl
seat_other g (suc n) zero (x ∷ xs) h = refl
seat_other g (suc n) (suc m) (x ∷ xs) h = seat_other g n m xs (λ e. h (ap suc e))

-- a run
abbrev pub memo_made : Outcome → List Source → ℕ → Memo
memo_made o ss g = record { outcome = o; sources = ss; generation = g; rewired = false }
