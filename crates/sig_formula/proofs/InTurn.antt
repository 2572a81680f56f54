-- Parts of a formula that are evaluated in turn: what they ask for it asks for, and what they come to it comes to.
use Rattle.std.proofs.Common.{◌≡◌, ◌<◌, ◌+◌, ◌∙◌, ◌++◌, append_assoc, ℕ, Bool, true, false, List, [], Option, Some, None, ap, sym, subst, refl, arith, is_none, not, if◌then◌else◌}
use Rattle.sig_base.specs.declared.value.Value.{Value}
use Rattle.sig_base.specs.declared.value.Value.TheVariants as value
use Rattle.sig_base.specs.declared.value.Known.{Known}
use Rattle.sig_base.specs.declared.value.Outcome.{Outcome}
use Rattle.sig_base.specs.declared.value.Outcome.TheVariants.{Good}
use Rattle.sig_formula.specs.declared.evaluate.FormulaStep.TheVariants.{Ask, End}
use Rattle.sig_formula.specs.declared.formula.BinOp.{BinOp}
use Rattle.sig_formula.specs.declared.parts.Part.{Part}
use Rattle.sig_formula.specs.declared.parts.Part.TheVariants as part
use Rattle.sig_formula.specs.Evaluation.{chosen, decided, formula_step, negated, operated, unless_decided, with_value}
use Rattle.sig_formula.specs.Operations.{IsPartTold, StaysGood}
use Rattle.sig_formula.specs.Turns.{IsDecided, IsOperated, IsPartRead, branch_in, first_in, goes_on, next_in, operated_told, told_value}
use Rattle.sig_formula.specs.Trees.{Tree, literal, slot, row_field, row_key, negation, binary, choice, count_of, sum_of, rows_where, untracked}
use Rattle.sig_formula.proofs.Numbers.{slot_asked, with_undecided}

-- what stands in two that are the same is the same
some_same : {A : Type 0} (x y : A) → Some x ≡ Some y → x ≡ y
some_same x y h = cc

-- what is told of a part it is read to be
pub part_read : (p : Part) (t : Tree) (known : List Known) → IsPartTold p t known → IsPartRead p t known
part_read (part.Slot n) t known h = slot_asked t n known h.0 h.1
part_read (part.Number m) t known h = h
part_read (part.Truth b) t known h = h
part_read part.Open t known h = h

-- a part that is told to be a value comes to it, also where more is known
told_stays : (p : Part) (t : Tree) (known : List Known) (v : Value) → told_value p ≡ Some v → IsPartRead p t known → StaysGood t known v
told_stays (part.Slot n) t known v e h = absurd (cc)
told_stays (part.Number m) t known v e h = subst (λ (u : Value). StaysGood t known u) (some_same (value.Int m) v e) h
told_stays (part.Truth b) t known v e h = subst (λ (u : Value). StaysGood t known u) (some_same (value.Bool b) v e) h
told_stays part.Open t known v e h = absurd (cc)

-- ---- the first part

-- how many operations a formula has that stand within no other part
abbrev pub operations : Tree → ℕ
operations (negation a) = operations a + 1
operations (binary o a b) = operations a + operations b + 1
operations (choice t a b) = operations t + (operations a + operations b) + 1
operations _ = 0

-- the first part has fewer
pub first_fewer : (t a : Tree) → first_in t ≡ Some a → operations a < operations t
first_fewer (negation x) a is = subst (λ (u : Tree). operations u < operations (negation x)) (some_same x a is) (omega arith)
first_fewer (binary o x y) a is = subst (λ (u : Tree). operations u < operations (binary o x y)) (some_same x a is) (omega arith)
first_fewer (choice x y z) a is = subst (λ (u : Tree). operations u < operations (choice x y z)) (some_same x a is) (omega arith)
first_fewer (literal s) a is = absurd (cc)
first_fewer (slot n) a is = absurd (cc)
first_fewer (row_field f) a is = absurd (cc)
first_fewer row_key a is = absurd (cc)
first_fewer (count_of x) a is = absurd (cc)
first_fewer (sum_of x y) a is = absurd (cc)
first_fewer (rows_where x y) a is = absurd (cc)
first_fewer (untracked x) a is = absurd (cc)

-- what the first part asks for the whole asks for
pub first_asked : (t a : Tree) (known : List Known) (n : ℕ) → first_in t ≡ Some a → formula_step false a None known [] ≡ Ask n false →
    formula_step false t None known [] ≡ Ask n false
first_asked (negation x) a known n is h =
    ap (λ s. with_value s (λ v. End (negated v)))
    (subst (λ (u : Tree). formula_step false u None known [] ≡ Ask n false) (sym (some_same x a is)) h)
first_asked (binary o x y) a known n is h =
    ap (λ s. with_value s (λ v. unless_decided (decided o v) (with_value (formula_step false y None known []) (λ w. End (operated o v w)))))
    (subst (λ (u : Tree). formula_step false u None known [] ≡ Ask n false) (sym (some_same x a is)) h)
first_asked (choice x y z) a known n is h =
    ap (λ s. with_value s (λ v. chosen v (formula_step false y None known []) (formula_step false z None known [])))
    (subst (λ (u : Tree). formula_step false u None known [] ≡ Ask n false) (sym (some_same x a is)) h)
first_asked (literal s) a known n is h = absurd (cc)
first_asked (slot m) a known n is h = absurd (cc)
first_asked (row_field f) a known n is h = absurd (cc)
first_asked row_key a known n is h = absurd (cc)
first_asked (count_of x) a known n is h = absurd (cc)
first_asked (sum_of x y) a known n is h = absurd (cc)
first_asked (rows_where x y) a known n is h = absurd (cc)
first_asked (untracked x) a known n is h = absurd (cc)

-- ---- the next part

-- a part that is there on a condition
if_some : (c : Bool) (x b : Tree) → (if c then Some x else None) ≡ Some b → (c ≡ true) × (x ≡ b)
if_some true x b is = (refl, some_same x b is)
if_some false x b is = absurd (cc)

-- a value that an operator goes on with
record GoesOnBy (o : BinOp) (p : Part) : Type 0 where
  v : Value
  is : told_value p ≡ Some v
  free : decided o v ≡ None

-- where there is none, nothing is decided
none_there : (d : Option Outcome) → is_none d ≡ true → d ≡ None
none_there None h = refl
none_there (Some o) h = absurd (cc)

-- an operator that goes on has such a value
goes_by : (o : BinOp) (p : Part) → goes_on o (told_value p) ≡ true → GoesOnBy o p
goes_by o (part.Slot n) h = absurd (cc)
goes_by o (part.Number m) h = record { v = value.Int m; is = refl; free = none_there (decided o (value.Int m)) h }
goes_by o (part.Truth b) h = record { v = value.Bool b; is = refl; free = none_there (decided o (value.Bool b)) h }
goes_by o part.Open h = absurd (cc)

-- a truth that chooses a branch
record BranchBy (p : Part) (x y b : Tree) : Type 0 where
  c : Bool
  is : told_value p ≡ Some (value.Bool c)
  same : (if c then x else y) ≡ b

-- a branch that is chosen has such a truth
branch_by : (p : Part) (x y b : Tree) → branch_in (told_value p) x y ≡ Some b → BranchBy p x y b
branch_by (part.Slot n) x y b h = absurd (cc)
branch_by (part.Number m) x y b h = absurd (cc)
branch_by (part.Truth c) x y b h = record { c = c; is = refl; same = some_same (if c then x else y) b h }
branch_by part.Open x y b h = absurd (cc)

-- the next part has fewer operations
branch_fewer : (c : Bool) (t x y : Tree) → operations (if c then x else y) < operations (choice t x y)
branch_fewer true t x y = omega arith
branch_fewer false t x y = omega arith

pub next_fewer : (t b : Tree) (p : Part) → next_in t p ≡ Some b → operations b < operations t
next_fewer (binary o x y) b p is =
    subst (λ (u : Tree). operations u < operations (binary o x y)) (if_some (goes_on o (told_value p)) y b is).1 (omega arith)
next_fewer (choice t x y) b p is =
    let by = branch_by p x y b is in
    subst (λ (u : Tree). operations u < operations (choice t x y)) by.same (branch_fewer by.c t x y)
next_fewer (literal s) b p is = absurd (cc)
next_fewer (slot n) b p is = absurd (cc)
next_fewer (row_field f) b p is = absurd (cc)
next_fewer row_key b p is = absurd (cc)
next_fewer (negation x) b p is = absurd (cc)
next_fewer (count_of x) b p is = absurd (cc)
next_fewer (sum_of x y) b p is = absurd (cc)
next_fewer (rows_where x y) b p is = absurd (cc)
next_fewer (untracked x) b p is = absurd (cc)

-- a branch that is chosen is what the choice comes to
chosen_branch : (c : Bool) (t x y : Tree) (known : List Known) → formula_step false t None known [] ≡ End (Good (value.Bool c)) →
    formula_step false (choice t x y) None known [] ≡ formula_step false (if c then x else y) None known []
chosen_branch true t x y known h =
    ap (λ s. with_value s (λ v. chosen v (formula_step false x None known []) (formula_step false y None known []))) h
chosen_branch false t x y known h =
    ap (λ s. with_value s (λ v. chosen v (formula_step false x None known []) (formula_step false y None known []))) h

-- what an operation comes to, once its left operand came to a value that doesn't decide
operation_by : (o : BinOp) (x y a b : Tree) (p : Part) (known more : List Known) (g : GoesOnBy o p) → x ≡ a → y ≡ b → IsPartRead p a known →
    formula_step false (binary o x y) None (known ++ more) [] ≡ with_value (formula_step false b None (known ++ more) []) (λ w. End (operated o g.v w))
operation_by o x y a b p known more g same same' h =
    with_undecided o x y (known ++ more) g.v g.free
    (ap (λ (u : Tree). formula_step false u None (known ++ more) []) same ∙ told_stays p a known g.v g.is h more)
    ∙ ap (λ (u : Tree). with_value (formula_step false u None (known ++ more) []) (λ w. End (operated o g.v w))) same'

-- and a choice, once its test came to a truth
choice_by : (t x y a b : Tree) (p : Part) (known more : List Known) → BranchBy p x y b → t ≡ a → IsPartRead p a known →
    formula_step false (choice t x y) None (known ++ more) [] ≡ formula_step false b None (known ++ more) []
choice_by t x y a b p known more by same h =
    chosen_branch by.c t x y (known ++ more)
    (ap (λ (u : Tree). formula_step false u None (known ++ more) []) same ∙ told_stays p a known (value.Bool by.c) by.is h more)
    ∙ ap (λ (u : Tree). formula_step false u None (known ++ more) []) by.same

-- what the next part asks for the whole asks for
pub next_asked : (t a b : Tree) (p : Part) (known more : List Known) (n : ℕ) → first_in t ≡ Some a → IsPartRead p a known → next_in t p ≡ Some b →
    formula_step false b None (known ++ more) [] ≡ Ask n false → formula_step false t None (known ++ more) [] ≡ Ask n false
next_asked (binary o x y) a b p known more n first h is asks =
    let found = if_some (goes_on o (told_value p)) y b is in
    let g = goes_by o p found.0 in
    operation_by o x y a b p known more g (some_same x a first) found.1 h ∙ ap (λ s. with_value s (λ w. End (operated o g.v w))) asks
next_asked (choice t x y) a b p known more n first h is asks =
    choice_by t x y a b p known more (branch_by p x y b is) (some_same t a first) h ∙ asks
next_asked (literal s) a b p known more n first h is asks = absurd (cc)
next_asked (slot m) a b p known more n first h is asks = absurd (cc)
next_asked (row_field f) a b p known more n first h is asks = absurd (cc)
next_asked row_key a b p known more n first h is asks = absurd (cc)
next_asked (negation x) a b p known more n first h is asks = absurd (cc)
next_asked (count_of x) a b p known more n first h is asks = absurd (cc)
next_asked (sum_of x y) a b p known more n first h is asks = absurd (cc)
next_asked (rows_where x y) a b p known more n first h is asks = absurd (cc)
next_asked (untracked x) a b p known more n first h is asks = absurd (cc)

-- ---- the whole

-- a formula is read as one that comes to the same wherever no less is known
same_read : (q : Part) (t b : Tree) (known : List Known) →
    ((rest : List Known) → formula_step false t None (known ++ rest) [] ≡ formula_step false b None (known ++ rest) []) →
    formula_step false t None known [] ≡ formula_step false b None known [] → IsPartRead q b known → IsPartRead q t known
same_read (part.Slot n) t b known later now h = now ∙ h
same_read (part.Number m) t b known later now h = λ rest. later rest ∙ h rest
same_read (part.Truth c) t b known later now h = λ rest. later rest ∙ h rest
same_read part.Open t b known later now h = tt

-- a choice comes to what its branch comes to
pub branch_read : (t x y a b : Tree) (p q : Part) (known more : List Known) → first_in (choice t x y) ≡ Some a → IsPartRead p a known →
    next_in (choice t x y) p ≡ Some b → IsPartRead q b (known ++ more) → IsPartRead q (choice t x y) (known ++ more)
branch_read t x y a b p q known more first h is made =
    let by = branch_by p x y b is in
    let same : t ≡ a = some_same t a first in
    same_read q (choice t x y) b (known ++ more)
    (λ rest.
    subst (λ (ks : List Known). formula_step false (choice t x y) None ks [] ≡ formula_step false b None ks []) (sym (append_assoc known more rest))
    (choice_by t x y a b p known (more ++ rest) by same h)) (choice_by t x y a b p known more by same h) made

-- two operands that are told to be values, and what an operator makes of them
record OperatedBy (o : BinOp) (p q : Part) (z : Value) : Type 0 where
  v : Value
  w : Value
  first : told_value p ≡ Some v
  next : told_value q ≡ Some w
  made : operated o v w ≡ Good z

-- where it makes a value, there are two
operated_by : (o : BinOp) (p q : Part) (z : Value) → operated_told o (told_value p) (told_value q) ≡ Some (Good z) → OperatedBy o p q z
operated_by o p q z h = go (told_value p) (told_value q) refl refl h
  where
    go : (x y : Option Value) → told_value p ≡ x → told_value q ≡ y → operated_told o x y ≡ Some (Good z) → OperatedBy o p q z
    go (Some v) (Some w) first next e =
        record { v = v; w = w; first = first; next = next; made = some_same (operated o v w) (Good z) e }
    go (Some v) None first next e = absurd (cc)
    go None y first next e = absurd (cc)

-- an operation comes to that value
operation_good : (o : BinOp) (x y a b : Tree) (p q : Part) (z : Value) (known more : List Known) →
    operated_told o (told_value p) (told_value q) ≡ Some (Good z) → first_in (binary o x y) ≡ Some a → IsPartRead p a known →
    next_in (binary o x y) p ≡ Some b → IsPartRead q b (known ++ more) → StaysGood (binary o x y) (known ++ more) z
operation_good o x y a b p q z known more made first h is read rest =
    let found = if_some (goes_on o (told_value p)) y b is in
    let by = operated_by o p q z made in
    let free : decided o by.v ≡ None = none_there (decided o by.v) (ap (goes_on o) (sym by.first) ∙ found.0) in
    let g : GoesOnBy o p = record { v = by.v; is = by.first; free = free } in
    subst (λ (ks : List Known). formula_step false (binary o x y) None ks [] ≡ with_value (formula_step false b None ks []) (λ w. End (operated o by.v w)))
    (sym (append_assoc known more rest)) (operation_by o x y a b p known (more ++ rest) g (some_same x a first) found.1 h)
    ∙ (ap (λ s. with_value s (λ w. End (operated o by.v w))) (told_stays q b (known ++ more) by.w by.next read rest) ∙ ap (λ u. End u) by.made)

-- what is told of an operation it is read to be
pub operation_read : (o : BinOp) (x y a b : Tree) (p q r : Part) (known more : List Known) → IsOperated r o p q → first_in (binary o x y) ≡ Some a →
    IsPartRead p a known → next_in (binary o x y) p ≡ Some b → IsPartRead q b (known ++ more) → IsPartRead r (binary o x y) (known ++ more)
operation_read o x y a b p q (part.Slot n) known more made first h is read =
    next_asked (binary o x y) a b p known more n first h is (subst (λ (u : Part). IsPartRead u b (known ++ more)) made read)
operation_read o x y a b p q (part.Number m) known more made first h is read =
    operation_good o x y a b p q (value.Int m) known more made first h is read
operation_read o x y a b p q (part.Truth c) known more made first h is read =
    operation_good o x y a b p q (value.Bool c) known more made first h is read
operation_read o x y a b p q part.Open known more made first h is read = tt

-- ---- a first part that decides

-- what a negation comes to
pub negation_read : (x a : Tree) (b : Bool) (known : List Known) → first_in (negation x) ≡ Some a → IsPartRead (part.Truth b) a known →
    IsPartRead (part.Truth (not b)) (negation x) known
negation_read x a b known first h rest =
    ap (λ s. with_value s (λ v. End (negated v)))
    (ap (λ (u : Tree). formula_step false u None (known ++ rest) []) (some_same x a first) ∙ h rest)

-- and what an operation comes to, where its left operand decides
pub decided_read : (o : BinOp) (x y a : Tree) (b : Bool) (r : Part) (known : List Known) → IsDecided r o b → first_in (binary o x y) ≡ Some a →
    IsPartRead (part.Truth b) a known → IsPartRead r (binary o x y) known
decided_read o x y a b (part.Truth c) known made first h = λ rest.
    ap (λ s. with_value s (λ v. unless_decided (decided o v) (with_value (formula_step false y None (known ++ rest) []) (λ w. End (operated o v w)))))
    (ap (λ (u : Tree). formula_step false u None (known ++ rest) []) (some_same x a first) ∙ h rest)
    ∙ ap (λ d. unless_decided d (with_value (formula_step false y None (known ++ rest) []) (λ w. End (operated o (value.Bool b) w)))) made
decided_read o x y a b (part.Number m) known made first h = absurd made
decided_read o x y a b (part.Slot n) known made first h = absurd made
decided_read o x y a b part.Open known made first h = tt
