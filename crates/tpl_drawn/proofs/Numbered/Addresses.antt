-- Addresses that are noted with their numbers.
use Rattle.std.proofs.Common.{◌≡◌, eq-eqb, ℕ, zero, suc, ◌+◌, ◌<◌, ◌≤◌, ◌==◌, ◌||◌, Bool, true, false, cond, Option, Some, None, List, [], ◌∷◌, ◌++◌, drop, length, map, get_or, refl, sym, ap, ◌∙◌, arith}
use Rattle.std.proofs.lemmas.List.{drop_more}
use Rattle.page_model.specs.Addresses.{address}
use Rattle.page_model.specs.Forest.{Forest, none, node, keys, label_in, on, tally}
use Rattle.page_model.specs.Labels.{Root, Look}
use Rattle.page_model.specs.Pages.{by_number}
use Rattle.page_model.proofs.Shared.{on_tally}
use Rattle.indexmap.specs.IndexMap.{IndexMap}
use Rattle.tpl_model.specs.ShownNodes.Addresses.{address_of, same_address, same_address-Decides}
use Rattle.tpl_model.specs.declared.shown.Address.{Address}
use Rattle.tpl_model.proofs.Shared.{same_number}
use Rattle.tpl_drawn.specs.Addresses.{address_at, AreNumbersOf, noted, noted_from, number_in}

-- ---- one after the other

-- what is noted rests on what was noted
same_noted : (xs : List Address) (ns : List ℕ) (m l : Address → Option ℕ) → ((a : Address) → m a ≡ l a) → (a : Address) → noted xs ns m a ≡ noted xs ns l a
same_noted [] ns m l e a = e a
same_noted (x ∷ xs) [] m l e a = e a
same_noted (x ∷ xs) (n ∷ ns) m l e a =
    same_noted xs ns (λ b. cond (same_address x b) (Some n) (m b)) (λ b. cond (same_address x b) (Some n) (l b))
    (λ b. ap (λ z. cond (same_address x b) (Some n) z) (e b)) a

-- as many numbers as addresses are left, and with them all are noted
pub record AreLeft (all rest : List Address) (numbers : List ℕ) (at : ℕ) (now : Address → Option ℕ) : Type 0 where
  pub many : length rest + at ≡ length numbers
  pub each : (a : Address) → noted rest (drop at numbers) now a ≡ noted all (drop 1 numbers) (λ b. None) a

pub none_noted : (all : List Address) (numbers : List ℕ) (now : Address → Option ℕ) → length all + 1 ≡ length numbers → ((a : Address) → now a ≡ None) →
    AreLeft all all numbers 1 now
none_noted all numbers now l e = record { many = l; each = λ a. same_noted all (drop 1 numbers) now (λ b. None) e a }

any_default : {A : Type 0} (xs : List A) (i : ℕ) (d e : A) → i < length xs → get_or xs i d ≡ get_or xs i e
any_default [] i d e l = absurd (omega (arith, l))
any_default (x ∷ xs) zero d e l = refl
any_default (x ∷ xs) (suc i) d e l = any_default xs i d e (omega (arith, l))

pub one_noted : (all rest left : List Address) (numbers : List ℕ) (at : ℕ) (x : Address) (before now : Address → Option ℕ) → left ≡ x ∷ rest →
    ((a : Address) → now a ≡ (cond (same_address x a) (Some (get_or numbers at 0)) (before a))) → AreLeft all left numbers at before →
    AreLeft all rest numbers (at + 1) now
one_noted all rest left numbers at x before now e put are =
    let h = ap length e in
    let m = are.many in
    let n = get_or numbers at 0 in
    let lt : at < length numbers = omega (arith, h, m) in
    record {
      many = omega (arith, h, m);
      each = λ a.
          same_noted rest (drop (at + 1) numbers) now (λ b. cond (same_address x b) (Some n) (before b)) put a
          ∙ (ap (λ z. noted (x ∷ rest) z before a) (sym (drop_more numbers at n lt ∙ ap (λ z. z ∷ drop (at + 1) numbers) (any_default numbers at n 0 lt)))
          ∙ (ap (λ z. noted z (drop at numbers) before a) (sym e) ∙ are.each a));
    }

pub all_noted : (all rest : List Address) (numbers : List ℕ) (at : ℕ) (now : Address → Option ℕ) → rest ≡ [] → AreLeft all rest numbers at now →
    (a : Address) → now a ≡ noted all (drop 1 numbers) (λ b. None) a
all_noted all rest numbers at now e are a = ap (λ z. noted z (drop at numbers) now a) (sym e) ∙ are.each a

-- ---- under the next numbers

-- what is noted rests on what was noted
same_from : (xs : List Address) (n : ℕ) (m l : Address → Option ℕ) → ((a : Address) → m a ≡ l a) → (a : Address) → noted_from xs n m a ≡ noted_from xs n l a
same_from [] n m l e a = e a
same_from (x ∷ xs) n m l e a =
    same_from xs (n + 1) (λ b. cond (same_address x b) (Some n) (m b)) (λ b. cond (same_address x b) (Some n) (l b))
    (λ b. ap (λ z. cond (same_address x b) (Some n) z) (e b)) a

-- the addresses that are left have the numbers from this one on, and with them all are noted
pub record AreWaiting (all rest : List Address) (from at : ℕ) (old now : Address → Option ℕ) : Type 0 where
  pub many : at + length rest ≡ from + length all
  pub each : (a : Address) → noted_from rest at now a ≡ noted_from all from old a

pub all_waiting : (all : List Address) (from : ℕ) (old : Address → Option ℕ) → AreWaiting all all from from old old
all_waiting all from old = record { many = refl; each = λ a. refl }

pub one_less : (all rest left : List Address) (from at : ℕ) (x : Address) (old before now : Address → Option ℕ) → left ≡ x ∷ rest →
    ((a : Address) → now a ≡ (cond (same_address x a) (Some at) (before a))) → AreWaiting all left from at old before → AreWaiting all rest from (at + 1) old now
one_less all rest left from at x old before now e put are =
    let h = ap length e in
    let m = are.many in
    record {
      many = omega (arith, h, m);
      each = λ a.
          same_from rest (at + 1) now (λ b. cond (same_address x b) (Some at) (before b)) put a ∙ (ap (λ z. noted_from z at before a) (sym e) ∙ are.each a);
    }

-- where one is left, its number isn't the last there can be
pub room_left : (all rest left : List Address) (from at : ℕ) (x : Address) (old before : Address → Option ℕ) → left ≡ x ∷ rest →
    AreWaiting all left from at old before → at < from + length all
room_left all rest left from at x old before e are =
    let h = ap length e in
    let m = are.many in
    omega (arith, h, m)

pub none_waiting : (all rest : List Address) (from at : ℕ) (old now : Address → Option ℕ) → rest ≡ [] → AreWaiting all rest from at old now →
    (a : Address) → now a ≡ noted_from all from old a
none_waiting all rest from at old now e are a = ap (λ z. noted_from z at now a) (sym e) ∙ are.each a

-- ---- the nodes of a page

-- numbers by address codes, one after the other
abbrev put_all : List ℕ → List ℕ → (ℕ → Option ℕ) → ℕ → Option ℕ
put_all [] ns m j = m j
put_all (x ∷ xs) [] m j = m j
put_all (x ∷ xs) (n ∷ ns) m j = put_all xs ns (λ i. cond (x == i) (Some n) (m i)) j

put_same : (xs ns : List ℕ) (m l : ℕ → Option ℕ) → ((j : ℕ) → m j ≡ l j) → (j : ℕ) → put_all xs ns m j ≡ put_all xs ns l j
put_same [] ns m l e j = e j
put_same (x ∷ xs) [] m l e j = e j
put_same (x ∷ xs) (n ∷ ns) m l e j =
    put_same xs ns (λ i. cond (x == i) (Some n) (m i)) (λ i. cond (x == i) (Some n) (l i)) (λ i. ap (λ z. cond (x == i) (Some n) z) (e i)) j

-- addresses are noted as their codes are
noted_code : (xs : List Address) (ns : List ℕ) (m : Address → Option ℕ) (l : ℕ → Option ℕ) → ((a : Address) → m a ≡ l (address_of a)) →
    (a : Address) → noted xs ns m a ≡ put_all (map address_of xs) ns l (address_of a)
noted_code [] ns m l e a = e a
noted_code (x ∷ xs) [] m l e a = e a
noted_code (x ∷ xs) (n ∷ ns) m l e a =
    noted_code xs ns (λ b. cond (same_address x b) (Some n) (m b)) (λ i. cond (address_of x == i) (Some n) (l i))
    (λ b. (λ i. cond (same_number x b i) (Some n) (e b i))) a

put_both : (xs ys ns ms : List ℕ) (m : ℕ → Option ℕ) (j : ℕ) → length xs ≡ length ns →
    put_all (xs ++ ys) (ns ++ ms) m j ≡ put_all ys ms (put_all xs ns m) j
put_both [] ys [] ms m j l = refl
put_both [] ys (n ∷ ns) ms m j l = absurd (omega (arith, l))
put_both (x ∷ xs) ys [] ms m j l = absurd (omega (arith, l))
put_both (x ∷ xs) ys (n ∷ ns) ms m j l = put_both xs ys ns ms (λ i. cond (x == i) (Some n) (m i)) j (omega (arith, l))

many_numbers : (t : Forest (ℕ × Look)) → length (keys t) ≡ length (keys (by_number t))
many_numbers none = refl
many_numbers (node a x k r) =
    let i = many_numbers k in
    let j = many_numbers r in
    ap suc (lengths (keys k) (keys r) (keys (by_number k)) (keys (by_number r)) i j)
  where
    lengths : (xs ys us vs : List ℕ) → length xs ≡ length us → length ys ≡ length vs → length (xs ++ ys) ≡ length (us ++ vs)
    lengths [] ys [] vs e f = f
    lengths [] ys (u ∷ us) vs e f = absurd (omega (arith, e))
    lengths (x ∷ xs) ys [] vs e f = absurd (omega (arith, e))
    lengths (x ∷ xs) ys (u ∷ us) vs e f = ap suc (lengths xs ys us vs (omega (arith, e)) f)

-- where each address stands once, it gets the number of its node
forest_noted : (t : Forest (ℕ × Look)) (m : ℕ → Option ℕ) (j : ℕ) → tally j t ≤ 1 →
    put_all (keys t) (keys (by_number t)) m j ≡ cond (on j t) (Some (label_in (0, Root) j t).0) (m j)
forest_noted none m j l = refl
forest_noted (node a x k r) m j l =
    let first : ℕ → Option ℕ = λ i. cond (a == i) (Some x.0) (m i) in
    let inside = forest_noted k first j (omega (arith, l)) in
    let later = forest_noted r (put_all (keys k) (keys (by_number k)) first) j (omega (arith, l)) in
    put_both (keys k) (keys r) (keys (by_number k)) (keys (by_number r)) first j (many_numbers k) ∙ (later
    ∙ go (on j k) (on j r) (a == j) refl refl refl inside)
  where
    go : (u v w : Bool) → on j k ≡ u → on j r ≡ v → (a == j) ≡ w →
        put_all (keys k) (keys (by_number k)) (λ i. cond (a == i) (Some x.0) (m i)) j ≡ cond (on j k) (Some (label_in (0, Root) j k).0) (cond (a == j) (Some x.0) (m j)) →
        cond (on j r) (Some (label_in (0, Root) j r).0) (put_all (keys k) (keys (by_number k)) (λ i. cond (a == i) (Some x.0) (m i)) j)
        ≡ cond ((a == j) || (on j k || on j r)) (Some (cond (a == j) x (cond (on j k) (label_in (0, Root) j k) (label_in (0, Root) j r))).0) (m j)
    go true true w e f g inside = (let p = on_tally j k e in let q = on_tally j r f in absurd (omega (arith, p, q, l)))
    go u true true e f g inside = (let q = on_tally j r f in absurd (let z = rw g at l in omega (arith, q, z)))
    go false true false e f g inside = rw (e, f, g) refl
    go true false true e f g inside = (let p = on_tally j k e in absurd (let z = rw g at l in omega (arith, p, z)))
    go true false false e f g inside = rw (e, f, g) (rw e at inside)
    go false false true e f g inside = rw (e, f, g) (rw (e, g) at inside)
    go false false false e f g inside = rw (e, f, g) (rw (e, g) at inside)

pub are_numbers : (xs : List Address) (ms : List ℕ) (t : Forest (ℕ × Look)) (root : ℕ) (number : Address → Option ℕ) →
    ((a : Address) → number a ≡ noted xs (drop 1 ms) (λ b. None) a) → ((j : ℕ) → tally j t ≤ 1) → map address_of xs ≡ keys t → ms ≡ root ∷ keys (by_number t) →
    AreNumbersOf number t
are_numbers xs ms t root number e once keys_are all_are a =
    let ns = drop 1 ms in
    let numbers_are : ns ≡ keys (by_number t) = ap (drop 1) all_are in
    e a ∙ (noted_code xs ns (λ b. None) (λ j. None) (λ b. refl) a
    ∙ ((λ i. put_all (keys_are i) (numbers_are i) (λ j. None) (address_of a)) ∙ forest_noted t (λ j. None) (address_of a) (once (address_of a))))

-- ---- one address

-- the same address has the same number
pub number_same : {S : Type 0} (all : IndexMap Address ℕ S) (a b : Address) (n : ℕ) → same_address a b ≡ true → number_in all a ≡ Some n → number_in all b ≡ Some n
number_same all a b n e h = ap (number_in all) (sym ((same_address-Decides a b).0 e)) ∙ h

-- an address of the same code is the address of that line and key
pub address_is : (a : Address) (line : ℕ) (key : Option (List ℕ)) → address_of a ≡ address line key → a ≡ address_at line key
address_is a line key e =
    (same_address-Decides a (address_at line key)).0 (same_number a (address_at line key) ∙ eq-eqb (address_of a) (address line key) e)
