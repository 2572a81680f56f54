-- Sets of dependants, edited at places.
use Rattle.std.proofs.Common.{◌≡◌, ℕ, zero, suc, ◌+◌, ◌<◌, ◌≤◌, ◌==◌, ◌||◌, ◌&&◌, Bool, true, false, cond, if◌then◌else◌, List, [], ◌∷◌, length, drop, ◌++◌, refl, sym, ap, ◌∙◌, subst, arith, ◌⊎◌, inl, inr, Option, Some, None, is_some}
use Rattle.std.specs.Prelude.{slice_set, get_or, nat_eq, Result, Ok, Err, OnOk}
use Rattle.std.specs.List.{All, AllByRecursion, IsDistinct}
use Rattle.std.proofs.lemmas.Map.Keys.{IsDistinct-head, IsDistinct-tail}
use Rattle.std.proofs.lemmas.Bool.{eqb-true, eq-eqb}
use Rattle.sig_marks.specs.declared.readers.Readers.{Readers}
use Rattle.signal_model.specs.Laws.{AreDistinct}
use Rattle.signal_model.specs.Signals.{is_in}
use Rattle.signal_model.proofs.Shared.{tested}
use Rattle.sig_store.specs.Stored.{entry}
use Rattle.sig_marks.specs.Tables.{dependants_at, depends, marked_at, Drops, Relinks}
use Rattle.sig_marks.specs.Sets.{HasRoom, Links, Makes, Unlinks, depends_in, keys_in, keys_of, keys_held, room_for, spare_at, spare_in, stands_of, standing_count}

-- tests of places
pub apart : (a b : ℕ) → (a ≡ b → ⊥) → (a == b) ≡ false
apart a b h = elim (tested (a == b)) [ inl e ↦ absurd (h (eqb-true a b e)) | inr e ↦ e ]

pub suc_zero : (m : ℕ) → (suc m == 0) ≡ false
suc_zero m = apart (suc m) 0 (λ e. absurd (omega (arith, e)))

pub zero_suc : (m : ℕ) → (0 == suc m) ≡ false
zero_suc m = apart 0 (suc m) (λ e. absurd (omega (arith, e)))

pub suc_suc : (a b : ℕ) → (suc a == suc b) ≡ (a == b)
suc_suc a b = elim (tested (a == b)) [
  | inl e ↦ eq-eqb (suc a) (suc b) (ap suc (eqb-true a b e)) ∙ sym e
  | inr e ↦ apart (suc a) (suc b) (λ q. let r : a ≡ b = omega (arith, q) in cc (sym (eq-eqb a b r) ∙ e)) ∙ sym e
]

-- ---- which entries stand

module _ {A : Type 0} where
  pub there_below : (es : List (Option A)) (i : ℕ) → is_some (entry es i) ≡ true → i < length es
  there_below [] i h = cc
  there_below (e ∷ es) zero h = omega arith
  there_below (e ∷ es) (suc i) h = let k : i < length es = there_below es i h in omega (arith, k)

  -- an entry that is set
  entry_set : (es : List (Option A)) (i : ℕ) (x : Option A) (m : ℕ) → i < length es → entry (slice_set es i x) m ≡ (if m == i then x else entry es m)
  entry_set [] i x m l = absurd (omega arith)
  entry_set (e ∷ es) zero x zero l = refl
  entry_set (e ∷ es) zero x (suc m) l = ap (λ b. cond b x (entry es m)) (sym (suc_zero m))
  entry_set (e ∷ es) (suc i) x zero l = ap (λ b. cond b x e) (sym (zero_suc i))
  entry_set (e ∷ es) (suc i) x (suc m) l = let k : i < length es = omega arith in entry_set es i x m k ∙ ap (λ b. cond b x (entry es m)) (sym (suc_suc m i))

  pub stands_len : (es : List (Option A)) → length (stands_of es) ≡ length es
  stands_len [] = refl
  stands_len (e ∷ es) = ap suc (stands_len es)

  pub stands_is : (es : List (Option A)) (m : ℕ) → marked_at (stands_of es) m ≡ is_some (entry es m)
  stands_is [] m = refl
  stands_is (e ∷ es) zero = refl
  stands_is (e ∷ es) (suc m) = stands_is es m

  pub stands_set : (es : List (Option A)) (i : ℕ) (x : Option A) → stands_of (slice_set es i x) ≡ slice_set (stands_of es) i (is_some x)
  stands_set [] i x = refl
  stands_set (e ∷ es) zero x = refl
  stands_set (e ∷ es) (suc i) x = ap (λ bs. is_some e ∷ bs) (stands_set es i x)

  -- what stood stands
  pub stands_same : (es : List (Option A)) (i : ℕ) (x y : A) → entry es i ≡ Some y → stands_of (slice_set es i (Some x)) ≡ stands_of es
  stands_same [] i x y h = refl
  stands_same (e ∷ es) zero x y h = ap (λ (o : Option A). is_some o ∷ stands_of es) (sym h)
  stands_same (e ∷ es) (suc i) x y h = ap (λ bs. is_some e ∷ bs) (stands_same es i x y h)

  -- what is gone stays gone
  pub stands_gap : (es : List (Option A)) (i : ℕ) → is_some (entry es i) ≡ false → stands_of es ≡ slice_set (stands_of es) i false
  stands_gap [] i h = refl
  stands_gap (e ∷ es) zero h = ap (λ b. b ∷ stands_of es) h
  stands_gap (e ∷ es) (suc i) h = ap (λ bs. is_some e ∷ bs) (stands_gap es i h)

  pub stands_end : (es : List (Option A)) (x : A) → stands_of (es ++ Some x ∷ []) ≡ stands_of es ++ true ∷ []
  stands_end [] x = refl
  stands_end (e ∷ es) x = ap (λ bs. is_some e ∷ bs) (stands_end es x)

  pub stands_alike : (xs ys : List (Option A)) (m : ℕ) → stands_of xs ≡ stands_of ys → is_some (entry xs m) ≡ is_some (entry ys m)
  stands_alike xs ys m e = sym (stands_is xs m) ∙ ap (λ ts. marked_at ts m) e ∙ stands_is ys m

  pub alike_len : (xs ys : List (Option A)) → stands_of xs ≡ stands_of ys → length xs ≡ length ys
  alike_len xs ys e = sym (stands_len xs) ∙ ap length e ∙ stands_len ys

pub count_end : (bs : List Bool) → standing_count (bs ++ true ∷ []) ≡ standing_count bs + 1
count_end [] = refl
count_end (true ∷ bs) = omega (arith, count_end bs)
count_end (false ∷ bs) = omega (arith, count_end bs)

pub count_less : (bs : List Bool) (i : ℕ) → marked_at bs i ≡ true → standing_count (slice_set bs i false) + 1 ≡ standing_count bs
count_less [] i h = cc
count_less (true ∷ bs) zero h = omega arith
count_less (false ∷ bs) zero h = cc
count_less (true ∷ bs) (suc i) h = omega (arith, count_less bs i h)
count_less (false ∷ bs) (suc i) h = omega (arith, count_less bs i h)

-- ---- sets

pub keys_len : (ss : List (Option Readers)) → length (keys_of ss) ≡ length ss
keys_len [] = refl
keys_len (s ∷ ss) = ap suc (keys_len ss)

pub keys_at : (ss : List (Option Readers)) (m : ℕ) → dependants_at (keys_of ss) m ≡ keys_in (entry ss m)
keys_at [] m = refl
keys_at (s ∷ ss) zero = refl
keys_at (s ∷ ss) (suc m) = keys_at ss m

linked_is : (ss : List (Option Readers)) (m d : ℕ) → depends_in ss m d ≡ is_in d (keys_in (entry ss m))
linked_is ss m d = ap (is_in d) (keys_at ss m)

pub set_linked : (ss : List (Option Readers)) (i : ℕ) (x : Option Readers) (m d : ℕ) → i < length ss →
    depends_in (slice_set ss i x) m d ≡ (if m == i then is_in d (keys_in x) else depends_in ss m d)
set_linked ss i x m d l = linked_is (slice_set ss i x) m d ∙ ap (λ (o : Option Readers). is_in d (keys_in o)) (entry_set ss i x m l) ∙ by (m == i)
  where
    by : (b : Bool) → is_in d (keys_in (cond b x (entry ss m))) ≡ cond b (is_in d (keys_in x)) (depends_in ss m d)
    by true = refl
    by false = sym (linked_is ss m d)

set_spare : (ss : List (Option Readers)) (i reader : ℕ) (x : Option Readers) (m : ℕ) → i < length ss → spare_at (slice_set ss i x) reader m ≡ (if m == i then spare_in reader x else spare_at ss reader m)
set_spare ss i reader x m l = ap (λ (o : Option Readers). spare_in reader o) (entry_set ss i x m l) ∙ by (m == i)
  where
    by : (b : Bool) → spare_in reader (cond b x (entry ss m)) ≡ cond b (spare_in reader x) (spare_at ss reader m)
    by true = refl
    by false = refl

gap_linked : (ss : List (Option Readers)) (i d : ℕ) → is_some (entry ss i) ≡ false → depends_in ss i d ≡ false
gap_linked ss i d h = linked_is ss i d ∙ by (entry ss i) h
  where
    by : (o : Option Readers) → is_some o ≡ false → is_in d (keys_in o) ≡ false
    by None q = refl
    by (Some s) q = cc

pub gap_spare : (ss : List (Option Readers)) (i reader : ℕ) → is_some (entry ss i) ≡ false → 0 < spare_at ss reader i
gap_spare ss i reader h = by (entry ss i) h
  where
    by : (o : Option Readers) → is_some o ≡ false → 0 < spare_in reader o
    by None q = omega arith
    by (Some s) q = cc

pub at_linked : (ss : List (Option Readers)) (i d : ℕ) (s : Readers) → entry ss i ≡ Some s → is_in d (keys_held s) ≡ depends_in ss i d
at_linked ss i d s here = sym (linked_is ss i d ∙ ap (λ (o : Option Readers). is_in d (keys_in o)) here)

pub at_spare : (ss : List (Option Readers)) (i reader : ℕ) (s : Readers) → entry ss i ≡ Some s → room_for reader s ≡ spare_at ss reader i
at_spare ss i reader s here = sym (ap (λ (o : Option Readers). spare_in reader o) here)

below : (ss : List (Option Readers)) (i : ℕ) (s : Readers) → entry ss i ≡ Some s → i < length ss
below ss i s here = there_below ss i (ap (λ (o : Option Readers). is_some o) here)

-- room doesn't go where one set has no less
roomy : (ss : List (Option Readers)) (i reader : ℕ) (x s : Readers) → entry ss i ≡ Some s → room_for reader s ≤ room_for reader x → (m : ℕ) → spare_at ss reader m ≤ spare_at (slice_set ss i (Some x)) reader m
roomy ss i reader x s here room m = by (tested (m == i))
  where
    set : spare_at (slice_set ss i (Some x)) reader m ≡ (if m == i then room_for reader x else spare_at ss reader m)
    set = set_spare ss i reader (Some x) m (below ss i s here)

    by : ((m == i) ≡ true) ⊎ ((m == i) ≡ false) → spare_at ss reader m ≤ spare_at (slice_set ss i (Some x)) reader m
    by (inl e) =
        let a : spare_at (slice_set ss i (Some x)) reader m ≡ room_for reader x = set ∙ ap (λ c. cond c (room_for reader x) (spare_at ss reader m)) e in
        let b : spare_at ss reader m ≡ room_for reader s = ap (spare_at ss reader) (eqb-true m i e) ∙ sym (at_spare ss i reader s here) in
        omega (arith, a, b, room)
    by (inr e) = let a : spare_at (slice_set ss i (Some x)) reader m ≡ spare_at ss reader m = set ∙ ap (λ c. cond c (room_for reader x) (spare_at ss reader m)) e in omega (arith, a)

none_off : (ss : List (Option Readers)) (i reader m d : ℕ) → ((d : ℕ) → depends_in ss i d ≡ false) → depends_in ss m d ≡ (if reader == d && (m == i || false) then false else depends_in ss m d)
none_off ss i reader m d none = by (reader == d) (m == i) refl
  where
    by : (r b : Bool) → (m == i) ≡ b → depends_in ss m d ≡ (if r && (b || false) then false else depends_in ss m d)
    by false b e = refl
    by true false e = refl
    by true true e = ap (λ z. depends_in ss z d) (eqb-true m i e) ∙ none d

-- an edit of one set is one of them all
pub unlinked : (ss : List (Option Readers)) (i reader : ℕ) (x s : Readers) → entry ss i ≡ Some s →
    ((d : ℕ) → is_in d (keys_held x) ≡ (if reader == d then false else is_in d (keys_held s))) → room_for reader s ≤ room_for reader x → Unlinks ss (slice_set ss i (Some x)) (i ∷ []) reader
unlinked ss i reader x s here off room = record {
  stands = stands_same ss i x s here;
  off = λ m d. set_linked ss i (Some x) m d (below ss i s here) ∙ go m d (m == i) refl;
  room = roomy ss i reader x s here room;
}
  where
    go : (m d : ℕ) (b : Bool) → (m == i) ≡ b → cond b (is_in d (keys_held x)) (depends_in ss m d) ≡ cond (reader == d && (m == i || false)) false (depends_in ss m d)
    go m d true e = off d ∙ ap (λ y. cond (reader == d) false y) (at_linked ss i d s here ∙ ap (λ z. depends_in ss z d) (sym (eqb-true m i e))) ∙ both (reader == d)
      where
        both : (c : Bool) → cond c false (depends_in ss m d) ≡ cond (c && (m == i || false)) false (depends_in ss m d)
        both false = refl
        both true = rw e refl
    go m d false e = rw e (none (reader == d))
      where
        none : (c : Bool) → depends_in ss m d ≡ cond (c && false) false (depends_in ss m d)
        none false = refl
        none true = refl

pub unlinked_gap : (ss : List (Option Readers)) (i reader : ℕ) → is_some (entry ss i) ≡ false → Unlinks ss ss (i ∷ []) reader
unlinked_gap ss i reader gone = record {
  stands = refl;
  off = λ m d. none_off ss i reader m d (λ k. gap_linked ss i k gone);
  room = λ m. let e : spare_at ss reader m ≡ spare_at ss reader m = refl in omega (arith, e);
}

pub linked : (ss : List (Option Readers)) (i reader : ℕ) (x s : Readers) → entry ss i ≡ Some s → ((d : ℕ) → is_in d (keys_held x) ≡ (if reader == d then true else is_in d (keys_held s))) →
    Links ss (slice_set ss i (Some x)) (i ∷ []) reader
linked ss i reader x s here on = record {
  stands = stands_same ss i x s here;
  on = λ m d there. all m d;
  few = λ m d q. fewer (reader == d) (m == i) refl (depends_in ss m d) (sym (all m d) ∙ q);
}
  where
    fewer : {d : ℕ} (r b : Bool) → (reader == d) ≡ r → (y : Bool) → cond (r && (b || false)) true y ≡ true → (reader ≡ d) ⊎ (y ≡ true)
    fewer {d} true b e y q = inl (eqb-true reader d e)
    fewer {d} false b e y q = inr q

    go : (m d : ℕ) (b : Bool) → (m == i) ≡ b → cond b (is_in d (keys_held x)) (depends_in ss m d) ≡ cond (reader == d && (m == i || false)) true (depends_in ss m d)
    go m d true e = on d ∙ ap (λ y. cond (reader == d) true y) (at_linked ss i d s here ∙ ap (λ z. depends_in ss z d) (sym (eqb-true m i e))) ∙ both (reader == d)
      where
        both : (c : Bool) → cond c true (depends_in ss m d) ≡ cond (c && (m == i || false)) true (depends_in ss m d)
        both false = refl
        both true = rw e refl
    go m d false e = rw e (none (reader == d))
      where
        none : (c : Bool) → depends_in ss m d ≡ cond (c && false) true (depends_in ss m d)
        none false = refl
        none true = refl

    all : (m d : ℕ) → depends_in (slice_set ss i (Some x)) m d ≡ cond (reader == d && (m == i || false)) true (depends_in ss m d)
    all m d = set_linked ss i (Some x) m d (below ss i s here) ∙ go m d (m == i) refl

pub linked_gap : (ss : List (Option Readers)) (i reader : ℕ) → is_some (entry ss i) ≡ false → Links ss ss (i ∷ []) reader
linked_gap ss i reader gone = record {
  stands = refl;
  on = λ m d there. by m d (reader == d) (m == i) refl there;
  few = λ m d q. inr q;
}
  where
    by : (m d : ℕ) (r b : Bool) → (m == i) ≡ b → is_some (entry ss m) ≡ true → depends_in ss m d ≡ cond (r && (b || false)) true (depends_in ss m d)
    by m d false b e there = refl
    by m d true false e there = refl
    by m d true true e there = let q : is_some (entry ss i) ≡ true = ap (λ z. is_some (entry ss z)) (sym (eqb-true m i e)) ∙ there in cc (sym q ∙ gone)

-- a reader has room in the other sets, and is in this one
pub linked_room : (ss : List (Option Readers)) (i reader : ℕ) (x s : Readers) → entry ss i ≡ Some s → ((d : ℕ) → is_in d (keys_held x) ≡ (if reader == d then true else is_in d (keys_held s))) →
    (m : ℕ) → HasRoom ss reader m → HasRoom (slice_set ss i (Some x)) reader m
linked_room ss i reader x s here on m h = by (tested (m == i)) h
  where
    keys : depends_in (slice_set ss i (Some x)) m reader ≡ (if m == i then is_in reader (keys_held x) else depends_in ss m reader)
    keys = set_linked ss i (Some x) m reader (below ss i s here)

    by : ((m == i) ≡ true) ⊎ ((m == i) ≡ false) → HasRoom ss reader m → HasRoom (slice_set ss i (Some x)) reader m
    by (inl e) q =
        inl (keys ∙ ap (λ b. cond b (is_in reader (keys_held x)) (depends_in ss m reader)) e ∙ on reader ∙ ap (λ b. cond b true (is_in reader (keys_held s))) (eq-eqb reader reader refl))
    by (inr e) (inl q) = inl (keys ∙ ap (λ b. cond b (is_in reader (keys_held x)) (depends_in ss m reader)) e ∙ q)
    by (inr e) (inr q) =
        inr (let a : spare_at (slice_set ss i (Some x)) reader m ≡ spare_at ss reader m = set_spare ss i reader (Some x) m (below ss i s here) ∙ ap (λ c. cond c (room_for reader x) (spare_at ss reader m)) e in omega (arith, a, q))

pub spare_here : (ss : List (Option Readers)) (i reader : ℕ) (x s : Readers) → entry ss i ≡ Some s → spare_at (slice_set ss i (Some x)) reader i ≡ room_for reader x
spare_here ss i reader x s here = set_spare ss i reader (Some x) i (below ss i s here) ∙ ap (λ c. cond c (room_for reader x) (spare_at ss reader i)) (eq-eqb i i refl)

keys_same : (ss : List (Option Readers)) (i : ℕ) (x s : Readers) → entry ss i ≡ Some s → keys_held x ≡ keys_held s → keys_of (slice_set ss i (Some x)) ≡ keys_of ss
keys_same [] i x s here e = refl
keys_same (o ∷ ss) zero x s here e = ap (λ ks. ks ∷ keys_of ss) (e ∙ ap (λ (q : Option Readers). keys_in q) (sym here))
keys_same (o ∷ ss) (suc i) x s here e = ap (λ kss. keys_in o ∷ kss) (keys_same ss i x s here e)

pub roomier : (ss : List (Option Readers)) (i reader : ℕ) (x s : Readers) → entry ss i ≡ Some s → keys_held x ≡ keys_held s → room_for reader s ≤ room_for reader x → Makes ss (slice_set ss i (Some x)) reader
roomier ss i reader x s here keys room = record { keys = keys_same ss i x s here keys; stands = stands_same ss i x s here; room = roomy ss i reader x s here room }

pub reserved : (a b : List (Option Readers)) (reads : List ℕ) (reader at x : ℕ) → x ≡ get_or reads at x → ((m : ℕ) → spare_at a reader m ≤ spare_at b reader m) →
    ((i d : ℕ) → i < at → i < length reads → 0 < spare_at a reader (get_or reads i d)) → 0 < spare_at b reader x → (i d : ℕ) → i < at + 1 → i < length reads → 0 < spare_at b reader (get_or reads i d)
reserved a b reads reader at x is more before here i d l k = go (tested (i == at))
  where
    same : (xs : List ℕ) (j p q : ℕ) → j < length xs → get_or xs j p ≡ get_or xs j q
    same [] j p q l = absurd (omega arith)
    same (y ∷ ys) zero p q l = refl
    same (y ∷ ys) (suc j) p q l = let k : j < length ys = omega arith in same ys j p q k

    go : ((i == at) ≡ true) ⊎ ((i == at) ≡ false) → 0 < spare_at b reader (get_or reads i d)
    go (inl e) =
        let is_at : i ≡ at = eqb-true i at e in
        subst (λ z. 0 < spare_at b reader z) (is ∙ ap (λ z. get_or reads z x) (sym is_at) ∙ same reads i x d k) here
    go (inr e) =
        let off : i ≡ at → ⊥ = λ q. absurd (true_false (sym (eq-eqb i at q) ∙ e)) in
        let lt : i < at = below i at l off in
        let u : 0 < spare_at a reader (get_or reads i d) = before i d lt k in
        let v : spare_at a reader (get_or reads i d) ≤ spare_at b reader (get_or reads i d) = more (get_or reads i d) in
        omega (arith, u, v)
      where
        true_false : true ≡ false → ⊥
        true_false q = cc

        below : (p q : ℕ) → p < q + 1 → (p ≡ q → ⊥) → p < q
        below p q u off = omega (arith, u, off)

-- ---- one after the other

pub unlinks_none : (a : List (Option Readers)) (reader : ℕ) → Unlinks a a [] reader
unlinks_none a reader = record { stands = refl; off = λ m d. none (reader == d) m d; room = λ m. let e : spare_at a reader m ≡ spare_at a reader m = refl in omega (arith, e) }
  where
    none : (c : Bool) (m d : ℕ) → depends_in a m d ≡ cond (c && false) false (depends_in a m d)
    none true m d = refl
    none false m d = refl

pub unlinks_more : (a b c : List (Option Readers)) (n : ℕ) (ns : List ℕ) (reader : ℕ) → Unlinks a b (n ∷ []) reader → Unlinks b c ns reader → Unlinks a c (n ∷ ns) reader
unlinks_more a b c n ns reader f g = record {
  stands = g.stands ∙ f.stands;
  off = λ m d. g.off m d ∙ ap (λ x. cond (reader == d && is_in m ns) false x) (f.off m d) ∙ join (reader == d) (m == n) (is_in m ns) (depends_in a m d);
  room = λ m. let x = f.room m in let y = g.room m in omega (arith, x, y);
}
  where
    join : (r x y z : Bool) → cond (r && y) false (cond (r && (x || false)) false z) ≡ cond (r && (x || y)) false z
    join true true true z = refl
    join true true false z = refl
    join true false true z = refl
    join true false false z = refl
    join false x y z = refl

pub links_none : (a : List (Option Readers)) (reader : ℕ) → Links a a [] reader
links_none a reader = record { stands = refl; on = λ m d there. none (reader == d) m d; few = λ m d q. inr q }
  where
    none : (c : Bool) (m d : ℕ) → depends_in a m d ≡ cond (c && false) true (depends_in a m d)
    none true m d = refl
    none false m d = refl

pub links_more : (a b c : List (Option Readers)) (n : ℕ) (ns : List ℕ) (reader : ℕ) → Links a b (n ∷ []) reader → Links b c ns reader → Links a c (n ∷ ns) reader
links_more a b c n ns reader f g = record {
  stands = g.stands ∙ f.stands;
  on = λ m d there.
      g.on m d (stands_alike b a m f.stands ∙ there)
      ∙ ap (λ x. cond (reader == d && is_in m ns) true x) (f.on m d there) ∙ join (reader == d) (m == n) (is_in m ns) (depends_in a m d);
  few = λ m d q. elim (g.few m d q) [ inl e ↦ inl e | inr was ↦ f.few m d was ];
}
  where
    join : (r x y z : Bool) → cond (r && y) true (cond (r && (x || false)) true z) ≡ cond (r && (x || y)) true z
    join true true true z = refl
    join true true false z = refl
    join true false true z = refl
    join true false false z = refl
    join false x y z = refl

pub makes_none : (a : List (Option Readers)) (reader : ℕ) → Makes a a reader
makes_none a reader = record { keys = refl; stands = refl; room = λ m. let e : spare_at a reader m ≡ spare_at a reader m = refl in omega (arith, e) }

pub makes_more : (a b c : List (Option Readers)) (reader : ℕ) → Makes a b reader → Makes b c reader → Makes a c reader
makes_more a b c reader f g = record { keys = g.keys ∙ f.keys; stands = g.stands ∙ f.stands; room = λ m. let x = f.room m in let y = g.room m in omega (arith, x, y) }

-- ---- of all sets

-- room, an unlinking and a linking
pub relinked : (a b c e : List (Option Readers)) (sources reads : List ℕ) (reader : ℕ) → Makes a b reader → Unlinks b c sources reader → Links c e reads reader →
    Relinks (keys_of a) (keys_of e) (stands_of a) sources reads reader
relinked a b c e sources reads reader made off on = record {
  len = keys_len e ∙ alike_len e a (on.stands ∙ off.stands ∙ made.stands) ∙ sym (keys_len a);
  now = λ m d there.
      on.on m d (stands_alike c a m (off.stands ∙ made.stands) ∙ sym (stands_is a m) ∙ there)
      ∙ ap (λ x. if reader == d && is_in m reads then true else x)
      (off.off m d ∙ ap (λ (kss : List (List ℕ)). if reader == d && is_in m sources then false else depends kss m d) made.keys);
}

-- of who depends on what then, the reader is the only one that is new
pub relinked_few : (a b c e : List (Option Readers)) (sources reads : List ℕ) (reader : ℕ) → Makes a b reader → Unlinks b c sources reader → Links c e reads reader →
    (m d : ℕ) → depends_in e m d ≡ true → (reader ≡ d) ⊎ (depends_in a m d ≡ true)
relinked_few a b c e sources reads reader made off on m d q = elim (on.few m d q) [
  | inl is ↦ inl is
  | inr was ↦ inr (sym (ap (λ (kss : List (List ℕ)). depends kss m d) made.keys) ∙ by (reader == d && is_in m sources) (depends_in b m d) (sym (off.off m d) ∙ was))
]
  where
    by : (x y : Bool) → cond x false y ≡ true → y ≡ true
    by true y p = cc
    by false y p = p

-- a set that is taken away
pub forgotten : (ss : List (Option Readers)) (i : ℕ) (s : Readers) → entry ss i ≡ Some s → (m d : ℕ) →
    depends_in (slice_set ss i None) m d ≡ (if m == i then false else depends_in ss m d)
forgotten ss i s here m d = set_linked ss i None m d (below ss i s here)

pub forgotten_gap : (ss : List (Option Readers)) (i m d : ℕ) → is_some (entry ss i) ≡ false → depends_in ss m d ≡ (if m == i then false else depends_in ss m d)
forgotten_gap ss i m d gone = by (m == i) refl
  where
    by : (b : Bool) → (m == i) ≡ b → depends_in ss m d ≡ cond b false (depends_in ss m d)
    by false e = refl
    by true e = ap (λ z. depends_in ss z d) (eqb-true m i e) ∙ gap_linked ss i d gone

-- an unlinking, and a set that is taken away
pub dropped : (a b c : List (Option Readers)) (sources : List ℕ) (n : ℕ) → Unlinks a b sources n → length c ≡ length b →
    ((m d : ℕ) → depends_in c m d ≡ (if m == n then false else depends_in b m d)) → Drops (keys_of a) (keys_of c) sources n
dropped a b c sources n off len empty = record {
  len = keys_len c ∙ len ∙ alike_len b a off.stands ∙ sym (keys_len a);
  now = λ m d other. empty m d ∙ ap (λ x. cond x false (depends_in b m d)) other ∙ off.off m d;
  own = λ d. empty n d ∙ ap (λ x. cond x false (depends_in b n d)) (eq-eqb n n refl);
  less = λ m d on. by m d (n == d && is_in m sources) (sym (off.off m d) ∙ kept m d (m == n) (sym (empty m d) ∙ on));
}
  where
    kept : (m d : ℕ) (x : Bool) → cond x false (depends_in b m d) ≡ true → depends_in b m d ≡ true
    kept m d true q = cc
    kept m d false q = q

    by : (m d : ℕ) (x : Bool) → cond x false (depends_in a m d) ≡ true → depends_in a m d ≡ true
    by m d true q = cc
    by m d false q = q

pub more_depends : (ss : List (Option Readers)) (x : Readers) → keys_held x ≡ [] → (m d : ℕ) → depends_in (ss ++ Some x ∷ []) m d ≡ depends_in ss m d
more_depends [] x e zero d = ap (is_in d) e
more_depends [] x e (suc m) d = refl
more_depends (s ∷ ss) x e zero d = refl
more_depends (s ∷ ss) x e (suc m) d = more_depends ss x e m d

-- what is left from a place on
pub drop_at : {A : Type 0} (xs : List A) (i : ℕ) (x : A) → i < length xs → drop i xs ≡ get_or xs i x ∷ drop (i + 1) xs
drop_at {A} xs i x l = let e : suc i ≡ i + 1 = omega arith in go xs i l ∙ ap (λ j. get_or xs i x ∷ drop j xs) e
  where
    go : (ys : List A) (j : ℕ) → j < length ys → drop j ys ≡ get_or ys j x ∷ drop (suc j) ys
    go [] j k = absurd (omega arith)
    go (y ∷ ys) zero k = refl
    go (y ∷ ys) (suc j) k = let m : j < length ys = omega arith in go ys j m

pub drop_end : {A : Type 0} (xs : List A) (i : ℕ) → length xs ≤ i → drop i xs ≡ []
drop_end [] zero l = refl
drop_end [] (suc i) l = refl
drop_end (x ∷ xs) zero l = absurd (omega arith)
drop_end (x ∷ xs) (suc i) l = let k : length xs ≤ i = omega arith in drop_end xs i k

pub OnOk-map : {A E P Q : Type 0} (r : Result A E) → (P → Q) → OnOk r P → OnOk r Q
OnOk-map (Ok x) f h = f h
OnOk-map (Err e) f h = tt

pub all_in : (ds : List ℕ) (n : ℕ) → ((d : ℕ) → is_in d ds ≡ true → d < n) → All (λ d. d < n) ds
all_in [] n h = λ k e l. absurd (omega arith)
all_in (d ∷ ds) n h = λ k e l. go k e l (all_in ds n (λ x q. h x (later (x == d) (is_in x ds) q)))
  where
    later : (a b : Bool) → b ≡ true → (a || b) ≡ true
    later true b q = refl
    later false b q = q

    go : (k e : ℕ) → k < length (d ∷ ds) → All (λ x. x < n) ds → get_or (d ∷ ds) k e < n
    go zero e l rest = h d (ap (λ b. b || is_in d ds) (eq-eqb d d refl))
    go (suc k) e l rest = let z : k < length ds = omega arith in rest k e z

-- ---- the dependants of one place

-- the keys of a set are apart
pub distinct_keys : (ks : List ℕ) → IsDistinct nat_eq ks → AreDistinct ks
distinct_keys [] d = tt
distinct_keys (k ∷ ks) d = (none k ks (IsDistinct-head nat_eq k ks d), distinct_keys ks (IsDistinct-tail nat_eq k ks d))
  where
    none : (m : ℕ) (ns : List ℕ) → AllByRecursion (λ n. nat_eq m n ≡ false) ns → is_in m ns ≡ false
    none m [] h = refl
    none m (n ∷ ns) h = rw h.0 (none m ns h.1)
