-- What is spelled so is read.
use Rattle.std.proofs.Common.{◌≡◌, ℕ, zero, suc, ◌+◌, ◌<◌, ◌≤◌, true, false, List, [], ◌∷◌, ◌++◌, length, Some, None, refl, sym, ap, ◌∙◌, append_assoc, arith, inl, inr, ◌⊎◌}
use Rattle.std.specs.Prelude.{nat_le}
use Rattle.std.proofs.lemmas.Bool.{le-leb, lt-leb, and_left, and_right, and_from, cases_Bool}
use Rattle.std.proofs.lemmas.List.{length-append}
use Rattle.formula_text.specs.Signs.{Sign}
use Rattle.formula_text.specs.Signs as t
use Rattle.sig_formula.specs.declared.formula.BinOp.{BinOp}
use Rattle.formula_text.specs.declared.rough.OverRows.{OverRows}
use Rattle.formula_text.specs.Grammar.{Draft, binary, choice, each_row, spelled, meant, level, before, rule, Fits}
use Rattle.formula_text.specs.Grammar.{Written, single, group, it_dot, around, over_rows, negated, chain, pick}
use Rattle.formula_text.specs.Parser.{Part, Reader, head, goes_on, tail_at, tail, expr, choice_at, each_row_at}
use Rattle.formula_text.proofs.Groups.{level_before, level_not, level_some}
use Rattle.formula_text.proofs.Sound.{each_tokens, pick_tokens}

-- no operator goes on here with a part of rule least or tighter
abbrev pub Stops : ℕ → List Sign → Type 0
Stops least (t.operator o ∷ ts) = level o < least
Stops least _ = Unit {0}

stop_at : (read : Reader) (again : Part → Part) (least : ℕ) (p : Part) (rest : List Sign) → Stops least rest → tail_at read again least p rest ≡ p
stop_at read again least p (t.operator o ∷ ts) h =
    let no : goes_on o least p.1 ≡ false = and_left (nat_le least (level o)) (nat_le (before o) p.1) (lt-leb least (level o) h) in
    rw no refl
stop_at read again least p _ h = refl

stop : (read : Reader) (k least : ℕ) (p : Part) → Stops least p.2 → tail read k least p ≡ p
unfolding tail
stop read zero least p h = refl
stop read (suc k) least p h = stop_at read (tail read k least) least p p.2 h

-- the reader has come to this part, and looks for operators
pub record Leads (n least : ℕ) (ts : List Sign) (p : Part) : Type 0 where
  pub inner : ℕ
  pub turns : ℕ
  pub n-is : n ≡ suc inner
  pub enough : length p.2 ≤ turns
  pub reads : expr n least ts ≡ Some (tail (expr inner) turns least p)

-- what stops behind a comparison's operands stops behind `not`, which no operator binds like
Stops-not : (rest : List Sign) → Stops 4 rest → Stops 3 rest
Stops-not (t.operator o ∷ ts) h = level_not o h
Stops-not _ h = tt

pub Stops-more : (a b : ℕ) (rest : List Sign) → a ≤ b → Stops a rest → Stops b rest
Stops-more a b (t.operator o ∷ ts) le h = omega arith
Stops-more a b _ le h = tt

pub ended : (n least : ℕ) (ts : List Sign) (p : Part) → Leads n least ts p → Stops least p.2 → expr n least ts ≡ Some p
ended n least ts p l h = l.reads ∙ ap (λ (q : Part). Some q) (stop (expr l.inner) l.turns least p h)

pub step_chain : (read : Reader) (k least : ℕ) (o : BinOp) (x y : Draft) (own right : ℕ) (ts rest : List Sign) → least ≤ level o → before o ≤ own
    → read (level o + 1) ts ≡ Some (y, right, rest)
    → tail read (suc k) least (x, own, t.operator o ∷ ts) ≡ tail read k least (binary o x y, level o, rest)
unfolding tail
step_chain read k least o x y own right ts rest low high e =
    let yes : goes_on o least own ≡ true = and_from (nat_le least (level o)) (nat_le (before o) own) (le-leb _ _ low) (le-leb _ _ high) in
    rw (yes, e) refl

chain_turn : (o : BinOp) (a b : Written) (n least : ℕ) (rest : List Sign) → least ≤ level o → before o ≤ rule a
    → (inner turns : ℕ) → n ≡ suc inner → length (t.operator o ∷ (spelled b ++ rest)) ≤ turns
    → expr n least (spelled a ++ (t.operator o ∷ (spelled b ++ rest))) ≡ Some (tail (expr inner) turns least (meant a, rule a, t.operator o ∷ (spelled b ++ rest)))
    → expr inner (level o + 1) (spelled b ++ rest) ≡ Some (meant b, rule b, rest)
    → Leads n least ((spelled a ++ (t.operator o ∷ spelled b)) ++ rest) (binary o (meant a) (meant b), level o, rest)
chain_turn o a b n least rest low high inner zero is enough left right = absurd (omega arith)
chain_turn o a b n least rest low high inner (suc k) is enough left right =
    record {
      inner = inner;
      turns = k;
      n-is = is;
      enough = omega (arith, length-append (spelled b) rest);
      reads = rw (append_assoc (spelled a) (t.operator o ∷ spelled b) rest) (left ∙ ap (λ (q : Part). Some q) (step_chain (expr inner) k least o (meant a) (meant b) (rule a) (rule b) (spelled b ++ rest) rest low high right));
    }

chain_leads : (o : BinOp) (a b : Written) (n least : ℕ) (rest : List Sign) → least ≤ level o → before o ≤ rule a
    → Leads n least (spelled a ++ (t.operator o ∷ (spelled b ++ rest))) (meant a, rule a, t.operator o ∷ (spelled b ++ rest))
    → ((m : ℕ) → n ≡ suc m → expr m (level o + 1) (spelled b ++ rest) ≡ Some (meant b, rule b, rest))
    → Leads n least ((spelled a ++ (t.operator o ∷ spelled b)) ++ rest) (binary o (meant a) (meant b), level o, rest)
chain_leads o a b n least rest low high left right = chain_turn o a b n least rest low high left.inner left.turns left.n-is left.enough left.reads (right left.inner left.n-is)

pub Stops-zero : (rest : List Sign) → Stops 1 rest → Stops 0 rest
Stops-zero (t.operator o ∷ ts) h = absurd (omega (arith, level_some o))
Stops-zero _ h = tt

pub choice_reads : (read : Reader) (ts us vs rest : List Sign) (x y z : Draft) (i j k : ℕ) → read 0 ts ≡ Some (x, i, t.then_word ∷ us)
    → read 0 us ≡ Some (y, j, t.else_word ∷ vs) → read 0 vs ≡ Some (z, k, rest) → choice_at read ts ≡ Some (choice x y z, 0, rest)
choice_reads read ts us vs rest x y z i j k e f g = rw (e, f, g) refl

-- the rows and what is evaluated of each are read to their ends
each_reads : (read : Reader) (f : OverRows) (ts us rest : List Sign) (x y : Draft) (i j : ℕ) → read 0 ts ≡ Some (x, i, t.comma ∷ us)
    → read 0 us ≡ Some (y, j, t.closing ∷ rest) → each_row_at read f (t.opening ∷ ts) ≡ Some (each_row f x y, 8, rest)
each_reads read f ts us rest x y i j e g = rw (e, g) refl

-- the test and the branch for truth are read to their ends
pub pick_reads : (n least : ℕ) (ts us vs after rest : List Sign) (x y z : Draft) (i j l : ℕ) → least ≤ 0
    → ts ≡ us → expr n 0 us ≡ Some (x, i, t.then_word ∷ vs) → expr n 0 vs ≡ Some (y, j, t.else_word ∷ after) → expr n 0 after ≡ Some (z, l, rest)
    → expr (suc n) least (t.if_word ∷ ts) ≡ Some (tail (expr n) (suc (length ts)) least (choice x y z, 0, rest))
unfolding expr
pick_reads n least ts us vs after rest x y z i j l low is e f g =
    let yes : nat_le least 0 ≡ true = le-leb least 0 low in
    let whole = choice_reads (expr n) us vs after rest x y z i j l e f g in
    rw (yes, is, whole) refl

pub exact : (w : Written) (n least : ℕ) (rest : List Sign) → Fits w → least ≤ rule w → Stops (rule w + 1) rest → length (spelled w) + length rest ≤ n
    → Leads n least (spelled w ++ rest) (meant w, rule w, rest)
unfolding expr
exact (single v) zero least rest fits low stops small = absurd (omega arith)
exact (single v) (suc n) least rest fits low stops small = record { inner = n; turns = suc (length rest); n-is = refl; enough = omega arith; reads = refl }
exact (group w) zero least rest fits low stops small = absurd (omega arith)
exact (group w) (suc n) least rest fits low stops small =
    let len = length-append (spelled w) (t.closing ∷ []) in
    let inner = ended n 0 (spelled w ++ (t.closing ∷ rest)) (meant w, rule w, t.closing ∷ rest) (exact w n 0 (t.closing ∷ rest) fits (omega arith) tt (omega arith)) tt in
    let regroup = append_assoc (spelled w) (t.closing ∷ []) rest in
    record { inner = n; turns = suc (length ((spelled w ++ t.closing ∷ []) ++ rest)); n-is = refl; enough = omega (arith, length-append (spelled w ++ t.closing ∷ []) rest); reads = rw (regroup, inner) refl }
exact (it_dot m) zero least rest fits low stops small = absurd (omega arith)
exact (it_dot m) (suc n) least rest fits low stops small =
    record { inner = n; turns = suc (suc (suc (length rest))); n-is = refl; enough = omega arith; reads = refl }
exact (around f w) zero least rest fits low stops small = absurd (omega arith)
exact (around f w) (suc n) least rest fits low stops small =
    let len = length-append (spelled w) (t.closing ∷ []) in
    let inner = ended n 0 (spelled w ++ (t.closing ∷ rest)) (meant w, rule w, t.closing ∷ rest)
    (exact w n 0 (t.closing ∷ rest) fits (omega arith) tt (omega arith)) tt in
    let regroup = append_assoc (spelled w) (t.closing ∷ []) rest in
    record {
      inner = n;
      turns = suc (suc (length ((spelled w ++ t.closing ∷ []) ++ rest)));
      n-is = refl;
      enough = omega (arith, length-append (spelled w ++ t.closing ∷ []) rest);
      reads = rw (regroup, inner) refl;
    }
exact (over_rows f a b) zero least rest fits low stops small = absurd (omega arith)
exact (over_rows f a b) (suc n) least rest fits low stops small =
    let after = spelled b ++ (t.closing ∷ rest) in
    let within = spelled a ++ (t.comma ∷ after) in
    let is = each_tokens (spelled a) (spelled b) rest in
    let len-ab = length-append (spelled a) (t.comma ∷ spelled b) in
    let len = length-append (spelled a ++ (t.comma ∷ spelled b)) (t.closing ∷ []) in
    let len-b = length-append (spelled b) (t.closing ∷ rest) in
    let rows = ended n 0 within (meant a, rule a, t.comma ∷ after) (exact a n 0 (t.comma ∷ after) fits.0 (omega arith) tt (omega arith)) tt in
    let part = ended n 0 after (meant b, rule b, t.closing ∷ rest) (exact b n 0 (t.closing ∷ rest) fits.1 (omega arith) tt (omega arith)) tt in
    let whole = ((spelled a ++ (t.comma ∷ spelled b)) ++ t.closing ∷ []) ++ rest in
    let read = each_reads (expr n) f within after rest (meant a) (meant b) (rule a) (rule b) rows part in
    record {
      inner = n;
      turns = suc (suc (length whole));
      n-is = refl;
      enough = omega (arith, length-append ((spelled a ++ (t.comma ∷ spelled b)) ++ t.closing ∷ []) rest);
      reads = rw (is, read) refl;
    }
exact (negated w) zero least rest fits low stops small = absurd (omega arith)
exact (negated w) (suc n) least rest fits low stops small =
    let inner = ended n 3 (spelled w ++ rest) (meant w, rule w, rest) (exact w n 3 rest fits.1 fits.0 (Stops-more 3 (rule w + 1) rest (omega (arith, fits.0)) (Stops-not rest stops)) (omega arith)) (Stops-not rest stops) in
    let yes : nat_le least 3 ≡ true = le-leb least 3 low in
    record { inner = n; turns = suc (length (spelled w ++ rest)); n-is = refl; enough = omega (arith, length-append (spelled w) rest); reads = rw (yes, inner) refl }
exact (chain o a b) n least rest fits low stops small =
    let len = length-append (spelled a) (t.operator o ∷ spelled b) in
    let len-b = length-append (spelled b) rest in
    let left = exact a n least (t.operator o ∷ (spelled b ++ rest)) fits.2 (omega (arith, level_before o, fits.0)) (omega (arith, level_before o, fits.0)) (omega arith) in
    chain_leads o a b n least rest low fits.0 left (λ m is.
    let is2 : n ≡ suc m = is in
    ended m (level o + 1) (spelled b ++ rest) (meant b, rule b, rest)
    (exact b m (level o + 1) rest fits.3 (omega (arith, fits.1)) (Stops-more (level o + 1) (rule b + 1) rest (omega (arith, fits.1)) stops) (omega (arith, is2)))
    stops)
exact (pick w a b) zero least rest fits low stops small = absurd (omega arith)
exact (pick w a b) (suc n) least rest fits low stops small =
    let after-else = spelled b ++ rest in
    let after-then = spelled a ++ (t.else_word ∷ after-else) in
    let after-if = spelled w ++ (t.then_word ∷ after-then) in
    let is = pick_tokens (spelled w) (spelled a) (spelled b) rest in
    let len = length-append (spelled w) (t.then_word ∷ (spelled a ++ (t.else_word ∷ spelled b))) in
    let len-a = length-append (spelled a) (t.else_word ∷ spelled b) in
    let len-a2 = length-append (spelled a) (t.else_word ∷ after-else) in
    let len-b = length-append (spelled b) rest in
    let test = ended n 0 after-if (meant w, rule w, t.then_word ∷ after-then) (exact w n 0 (t.then_word ∷ after-then) fits.0 (omega arith) tt (omega arith)) tt in
    let held = ended n 0 after-then (meant a, rule a, t.else_word ∷ after-else) (exact a n 0 (t.else_word ∷ after-else) fits.1 (omega arith) tt (omega arith)) tt in
    let last = ended n 0 after-else (meant b, rule b, rest) (exact b n 0 rest fits.2 (omega arith) (Stops-more 1 (rule b + 1) rest (omega arith) stops) (omega arith)) (Stops-zero rest stops) in
    let whole = (spelled w ++ (t.then_word ∷ (spelled a ++ (t.else_word ∷ spelled b)))) ++ rest in
    record {
      inner = n;
      turns = suc (length whole);
      n-is = refl;
      enough = omega (arith, ap length is, length-append (spelled w) (t.then_word ∷ after-then));
      reads = pick_reads n least whole after-if after-then after-else rest (meant w) (meant a) (meant b) (rule w) (rule a) (rule b) low is test held last;
    }

-- ---- the steps of the loop

pub none_begins : (n least : ℕ) (ts : List Sign) → length ts < n → ((m : ℕ) → length ts ≤ m → None ≡ head (expr m) least ts) → None ≡ expr n least ts
unfolding expr
none_begins zero least ts small h = absurd (omega arith)
none_begins (suc m) least ts small h = rw (sym (h m (omega arith))) refl

pub begins : (n least : ℕ) (ts : List Sign) (p : Part) → length ts < n → ((m : ℕ) → length ts ≤ m → Some p ≡ head (expr m) least ts) → length p.2 ≤ length ts → Leads n least ts p
unfolding expr
begins zero least ts p small h shorter = absurd (omega arith)
begins (suc m) least ts p small h shorter = record { inner = m; turns = length ts; n-is = refl; enough = shorter; reads = rw (sym (h m (omega arith))) refl }

goes_turn : (o : BinOp) (x y : Draft) (own right n least : ℕ) (ts after rest : List Sign) → least ≤ level o → before o ≤ own
    → (inner turns : ℕ) → n ≡ suc inner → length (t.operator o ∷ after) ≤ turns
    → expr n least ts ≡ Some (tail (expr inner) turns least (x, own, t.operator o ∷ after))
    → Some (y, right, rest) ≡ expr inner (level o + 1) after → length rest ≤ length after
    → Leads n least ts (binary o x y, level o, rest)
goes_turn o x y own right n least ts after rest low high inner zero is enough left e shorter = absurd (omega arith)
goes_turn o x y own right n least ts after rest low high inner (suc k) is enough left e shorter =
    record { inner = inner; turns = k; n-is = is; enough = omega arith; reads = left ∙ ap (λ (q : Part). Some q) (step_chain (expr inner) k least o x y own right after rest low high (sym e)) }

-- an operator with its right side
pub goes : (o : BinOp) (x y : Draft) (own right n least : ℕ) (ts after rest : List Sign) → least ≤ level o → before o ≤ own
    → Leads n least ts (x, own, t.operator o ∷ after) → length (t.operator o ∷ after) ≤ length ts → length ts < n
    → ((m : ℕ) → length after < m → Some (y, right, rest) ≡ expr m (level o + 1) after) → length rest ≤ length after
    → Leads n least ts (binary o x y, level o, rest)
goes o x y own right n least ts after rest low high l inside small e shorter =
    let is = l.n-is in
    goes_turn o x y own right n least ts after rest low high l.inner l.turns l.n-is l.enough l.reads (e l.inner (omega arith)) shorter

stays_at : (read : Reader) (k least : ℕ) (p : Part) (o : BinOp) (after : List Sign) → p.2 ≡ t.operator o ∷ after → read (level o + 1) after ≡ None → tail read k least p ≡ p
unfolding tail
stays_at read zero least p o after is e = refl
stays_at read (suc k) least p o after is e = elim (cases_Bool (goes_on o least p.1)) [
  | inl holds ↦ rw (is, holds, e) refl
  | inr fails ↦ rw (is, fails) refl
]

-- an operator without its right side
pub stays : (o : BinOp) (n least : ℕ) (ts after : List Sign) (p : Part) → p.2 ≡ t.operator o ∷ after
    → Leads n least ts p → length (t.operator o ∷ after) ≤ length ts → length ts < n
    → ((m : ℕ) → length after < m → None ≡ expr m (level o + 1) after)
    → Some p ≡ expr n least ts
stays o n least ts after p is l inside small e =
    let n-is = l.n-is in
    sym (l.reads ∙ ap (λ (q : Part). Some q) (stays_at (expr l.inner) l.turns least p o after is (sym (e l.inner (omega arith)))))

refuses_at : (read : Reader) (k least : ℕ) (p : Part) (o : BinOp) (after : List Sign) → p.2 ≡ t.operator o ∷ after → goes_on o least p.1 ≡ false → tail read k least p ≡ p
unfolding tail
refuses_at read zero least p o after is e = refl
refuses_at read (suc k) least p o after is e = rw (is, e) refl

-- an operator that binds too loosely here
pub refuses : (o : BinOp) (n least : ℕ) (ts after : List Sign) (p : Part) → p.2 ≡ t.operator o ∷ after → Leads n least ts p → (level o < least) ⊎ (p.1 < before o) → Some p ≡ expr n least ts
refuses o n least ts after p is l (inl low) =
    sym (l.reads ∙ ap (λ (q : Part). Some q) (refuses_at (expr l.inner) l.turns least p o after is (and_left (nat_le least (level o)) (nat_le (before o) p.1) (lt-leb _ _ low))))
refuses o n least ts after p is l (inr high) =
    sym (l.reads ∙ ap (λ (q : Part). Some q) (refuses_at (expr l.inner) l.turns least p o after is (and_right (nat_le least (level o)) (nat_le (before o) p.1) (lt-leb _ _ high))))

-- anything else than an operator
pub others : (n least : ℕ) (ts : List Sign) (p : Part) → Stops 0 p.2 → Leads n least ts p → Some p ≡ expr n least ts
others n least ts p h l = sym (ended n least ts p l (Stops-more 0 least p.2 (omega arith) h))

pub none_stops : (rest : List Sign) → rest ≡ [] → Stops 0 rest
none_stops rest is = rw is tt
