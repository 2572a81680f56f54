-- The reader finds the longest formula, and a text spells one formula.
use Rattle.std.proofs.Common.{◌≡◌, take, drop, ℕ, zero, suc, ◌+◌, ◌≤◌, true, List, [], ◌∷◌, ◌++◌, length, Option, Some, None, refl, sym, ap, ◌∙◌, append_assoc, arith, inl, inr}
use Rattle.std.specs.Prelude.{nat_le}
use Rattle.std.proofs.lemmas.Bool.{le-leb, cases_Bool}
use Rattle.std.proofs.lemmas.Option.{same_Some}
use Rattle.std.proofs.lemmas.List.{append-nil, length-append, take-append-drop, append_cancel_right, map-append, length-map, length-drop}
use Rattle.sig_words.specs.Lexemes.{Lexeme}
use Rattle.formula_text.specs.Signs.{Sign, sign, signs}
use Rattle.formula_text.specs.Signs as t
use Rattle.sig_formula.specs.declared.formula.BinOp.{BinOp}
use Rattle.formula_text.specs.Grammar.{Draft, negation, binary, choice, spelled, meant, level, before, rule, Fits, Spells, IsLongest, HasNone}
use Rattle.formula_text.specs.Grammar.{Written, single, group, it_dot, around, over_rows, negated, chain, pick}
use Rattle.formula_text.specs.Parser.{Part, Reader, goes_on, extended, tail_at, tail, expr}
use Rattle.formula_text.proofs.Groups.{level_before, level_small}
use Rattle.formula_text.proofs.Sound.{expr_sound, pick_tokens}
use Rattle.formula_text.proofs.Complete.{Stops, Stops-more, Leads, exact, ended, Stops-zero, step_chain, pick_reads}

Stops-any : (rest : List Sign) → Stops 9 rest
Stops-any (t.operator o ∷ ts) = omega (arith, level_small o)
Stops-any _ = tt

Stops-nil : (own : ℕ) → Stops own []
Stops-nil own = tt

abbrev Shrinks : Reader → Type 0
Shrinks read = (least : ℕ) (ts : List Sign) (p : Part) → least ≤ 8 → read least ts ≡ Some p → length p.2 ≤ length ts

expr_shrinks : (n : ℕ) → Shrinks (expr n)
expr_shrinks n least ts p small e =
    let took = expr_sound n least ts p small e in
    omega (arith, ap length took.tokens, length-append (spelled took.form) p.2)

extended_shrinks : (again : Part → Part) (o : BinOp) (p : Part) (rest : List Sign) (r : Option Part) → ((q : Part) → length (again q).2 ≤ length q.2) → length rest ≤ length p.2
    → ((q : Part) → r ≡ Some q → length q.2 ≤ length rest) → length (extended again o p r).2 ≤ length p.2
extended_shrinks again o p rest None more shorter right = omega arith
extended_shrinks again o p rest (Some q) more shorter right = omega (arith, more (binary o p.0 q.0, level o, q.2), right q refl)

tail_at_shrinks : (read : Reader) → Shrinks read → (again : Part → Part) (least : ℕ) (p : Part) (rest : List Sign) → ((q : Part) → length (again q).2 ≤ length q.2) → p.2 ≡ rest → length (tail_at read again least p rest).2 ≤ length p.2
tail_at_shrinks read shrinks again least p (t.operator o ∷ rest) more is = elim (cases_Bool (goes_on o least p.1)) [
  | inl holds ↦ rw holds (extended_shrinks again o p rest (read (level o + 1) rest) more (omega (arith, ap length is)) (λ q e. shrinks (level o + 1) rest q (level_small o) e))
  | inr fails ↦ rw fails (omega arith)
]
tail_at_shrinks read shrinks again least p _ more is = omega arith

tail_shrinks : (read : Reader) → Shrinks read → (k least : ℕ) (p : Part) → length (tail read k least p).2 ≤ length p.2
unfolding tail
tail_shrinks read shrinks zero least p = omega arith
tail_shrinks read shrinks (suc k) least p = tail_at_shrinks read shrinks (tail read k least) least p p.2 (λ q. tail_shrinks read shrinks k least q) refl

record AtLeast (n least : ℕ) (ts rest : List Sign) : Type 0 where
  part : Part
  reads : expr n least ts ≡ Some part
  more : length part.2 ≤ length rest

from_leads : (n least : ℕ) (ts : List Sign) (p : Part) → Leads n least ts p → AtLeast n least ts p.2
from_leads n least ts p l = record { part = tail (expr l.inner) l.turns least p; reads = l.reads; more = tail_shrinks (expr l.inner) (expr_shrinks l.inner) l.turns least p }

negated_at_least : (w : Written) (n least : ℕ) (rest : List Sign) → least ≤ 3 → AtLeast n 3 (spelled w ++ rest) rest → AtLeast (suc n) least (t.not_word ∷ (spelled w ++ rest)) rest
unfolding expr
negated_at_least w n least rest low inner =
    let holds : nat_le least 3 ≡ true = le-leb least 3 low in
    let p : Part = (negation inner.part.0, 3, inner.part.2) in
    let ts = spelled w ++ rest in
    record {
      part = tail (expr n) (suc (length ts)) least p;
      reads = rw (holds, inner.reads) refl;
      more = omega (arith, tail_shrinks (expr n) (expr_shrinks n) (suc (length ts)) least p, inner.more);
    }

chain_at_least : (o : BinOp) (a b : Written) (n least : ℕ) (rest : List Sign) → least ≤ level o → before o ≤ rule a
    → (inner turns : ℕ) → n ≡ suc inner → length (t.operator o ∷ (spelled b ++ rest)) ≤ turns
    → expr n least (spelled a ++ (t.operator o ∷ (spelled b ++ rest))) ≡ Some (tail (expr inner) turns least (meant a, rule a, t.operator o ∷ (spelled b ++ rest)))
    → AtLeast inner (level o + 1) (spelled b ++ rest) rest
    → AtLeast n least ((spelled a ++ (t.operator o ∷ spelled b)) ++ rest) rest
chain_at_least o a b n least rest low high inner zero is enough left right = absurd (omega arith)
chain_at_least o a b n least rest low high inner (suc k) is enough left right =
    let p : Part = (binary o (meant a) right.part.0, level o, right.part.2) in
    record {
      part = tail (expr inner) k least p;
      reads = rw (append_assoc (spelled a) (t.operator o ∷ spelled b) rest) (left ∙ ap (λ (q : Part). Some q) (step_chain (expr inner) k least o (meant a) right.part.0 (rule a) right.part.1 (spelled b ++ rest) right.part.2 low high right.reads));
      more = omega (arith, tail_shrinks (expr inner) (expr_shrinks inner) k least p, right.more);
    }

pick_at_least : (n least : ℕ) (ts us vs after rest : List Sign) (x y : Draft) (i j : ℕ) → least ≤ 0
    → ts ≡ us → expr n 0 us ≡ Some (x, i, t.then_word ∷ vs) → expr n 0 vs ≡ Some (y, j, t.else_word ∷ after) → AtLeast n 0 after rest
    → AtLeast (suc n) least (t.if_word ∷ ts) rest
pick_at_least n least ts us vs after rest x y i j low is e f last =
    let p : Part = (choice x y last.part.0, 0, last.part.2) in
    record {
      part = tail (expr n) (suc (length ts)) least p;
      reads = pick_reads n least ts us vs after last.part.2 x y last.part.0 i j last.part.1 low is e f last.reads;
      more = omega (arith, tail_shrinks (expr n) (expr_shrinks n) (suc (length ts)) least p, last.more);
    }

at_least : (w : Written) (n least : ℕ) (rest : List Sign) → Fits w → least ≤ rule w → length (spelled w) + length rest ≤ n → AtLeast n least (spelled w ++ rest) rest
at_least (single v) n least rest fits low small = from_leads n least _ _ (exact (single v) n least rest fits low (Stops-any rest) small)
at_least (group w) n least rest fits low small = from_leads n least _ _ (exact (group w) n least rest fits low (Stops-any rest) small)
at_least (it_dot m) n least rest fits low small = from_leads n least _ _ (exact (it_dot m) n least rest fits low (Stops-any rest) small)
at_least (around f w) n least rest fits low small = from_leads n least _ _ (exact (around f w) n least rest fits low (Stops-any rest) small)
at_least (over_rows f a b) n least rest fits low small = from_leads n least _ _ (exact (over_rows f a b) n least rest fits low (Stops-any rest) small)
at_least (negated w) zero least rest fits low small = absurd (omega arith)
at_least (negated w) (suc n) least rest fits low small = negated_at_least w n least rest low (at_least w n 3 rest fits.1 fits.0 (omega arith))
at_least (chain o a b) n least rest fits low small =
    let len = length-append (spelled a) (t.operator o ∷ spelled b) in
    let len-b = length-append (spelled b) rest in
    let left = exact a n least (t.operator o ∷ (spelled b ++ rest)) fits.2 (omega (arith, level_before o, fits.0)) (omega (arith, level_before o, fits.0)) (omega arith) in
    let is = left.n-is in
    chain_at_least o a b n least rest low fits.0 left.inner left.turns left.n-is left.enough left.reads
    (at_least b left.inner (level o + 1) rest fits.3 (omega (arith, fits.1)) (omega arith))
at_least (pick w a b) zero least rest fits low small = absurd (omega arith)
at_least (pick w a b) (suc n) least rest fits low small =
    let after-else = spelled b ++ rest in
    let after-then = spelled a ++ (t.else_word ∷ after-else) in
    let after-if = spelled w ++ (t.then_word ∷ after-then) in
    let len = length-append (spelled w) (t.then_word ∷ (spelled a ++ (t.else_word ∷ spelled b))) in
    let len-a = length-append (spelled a) (t.else_word ∷ spelled b) in
    let len-a2 = length-append (spelled a) (t.else_word ∷ after-else) in
    let len-b = length-append (spelled b) rest in
    let test = ended n 0 after-if (meant w, rule w, t.then_word ∷ after-then) (exact w n 0 (t.then_word ∷ after-then) fits.0 (omega arith) tt (omega arith)) tt in
    let held = ended n 0 after-then (meant a, rule a, t.else_word ∷ after-else) (exact a n 0 (t.else_word ∷ after-else) fits.1 (omega arith) tt (omega arith)) tt in
    pick_at_least n least _ after-if after-then after-else rest (meant w) (meant a) (rule w) (rule a) low (pick_tokens (spelled w) (spelled a) (spelled b) rest) test held
    (at_least b n 0 rest fits.2 (omega arith) (omega arith))

at_least_spelled : (n : ℕ) (ts more after : List Sign) (y : Draft) → length ts ≤ n → ts ≡ more ++ after → Spells more y → AtLeast n 0 ts after
at_least_spelled n ts more after y small is s =
    let whole : ts ≡ spelled s.form ++ after = is ∙ ap (λ (x : List Sign). x ++ after) s.tokens in
    rw whole (at_least s.form n 0 after s.fits (omega arith) (omega (arith, ap length whole, length-append (spelled s.form) after)))

split_at : (k : ℕ) (ls : List Lexeme) → signs ls ≡ signs (take k ls) ++ signs (drop k ls)
split_at k ls = ap signs (sym (take-append-drop k ls)) ∙ map-append sign (take k ls) (drop k ls)

-- what is read is the longest formula
pub longest : (n : ℕ) (ls : List Lexeme) (p : Part) (k : ℕ) → length ls ≤ n → expr n 0 (signs ls) ≡ Some p → p.2 ≡ signs (drop k ls) → k ≤ length ls → IsLongest ls k p.0
longest n ls p k small e is inside =
    let len-ls = length-map ls sign in
    let took = expr_sound n 0 (signs ls) p (omega arith) e in
    let front : signs (take k ls) ≡ spelled took.form =
    append_cancel_right _ _ (signs (drop k ls)) (sym (split_at k ls) ∙ took.tokens ∙ ap (λ (r : List Sign). spelled took.form ++ r) is) in
    record {
      within = inside;
      spells = record { form = took.form; fits = took.fits; tokens = front; meaning = took.meaning };
      longest = λ m y small-m s.
          let a = at_least_spelled n (signs ls) (signs (take m ls)) (signs (drop m ls)) y (omega arith) (split_at m ls) s in
          let same : p ≡ a.part = same_Some _ _ (sym e ∙ a.reads) in
          let len = ap (λ (q : Part). length q.2) same in
          omega (arith, a.more, len, ap length is, length-map (drop m ls) sign, length-map (drop k ls) sign, length-drop m ls, length-drop k ls);
    }

-- where nothing is read, there is no formula
pub has_none : (n : ℕ) (ls : List Lexeme) → length ls ≤ n → expr n 0 (signs ls) ≡ None → HasNone ls
has_none n ls small e m y s =
    let len-ls = length-map ls sign in
    let a = at_least_spelled n (signs ls) (signs (take m ls)) (signs (drop m ls)) y (omega arith) (split_at m ls) s in
    let r = a.reads in
    absurd cc

-- ---- one meaning

reads_whole : (ts : List Sign) (x : Draft) → Spells ts x → (own : ℕ) × (expr (length ts) 0 ts ≡ Some (x, own, []))
reads_whole ts x s =
    let is : ts ≡ spelled s.form ++ [] = s.tokens ∙ sym (append-nil (spelled s.form)) in
    let read = ended (length ts) 0 (spelled s.form ++ []) (meant s.form, rule s.form, []) (exact s.form (length ts) 0 [] s.fits (omega arith) tt (omega (arith, ap length s.tokens))) tt in
    (rule s.form, ap (λ (us : List Sign). expr (length ts) 0 us) is ∙ read ∙ ap (λ (y : Draft). Some (y, rule s.form, [])) s.meaning)

pub one_meaning : (ts : List Sign) (x y : Draft) → Spells ts x → Spells ts y → x ≡ y
one_meaning ts x y a b =
    let r = reads_whole ts x a in
    let s = reads_whole ts y b in
    ap (λ (q : Part). q.0) (same_Some (x, r.0, []) (y, s.0, []) (sym r.1 ∙ s.1))

-- ---- a formula before something else

pub reads_front : (ts rest : List Sign) (x : Draft) → Spells ts x → Stops 1 rest → (own : ℕ) × (expr (length (ts ++ rest)) 0 (ts ++ rest) ≡ Some (x, own, rest))
reads_front ts rest x s stops =
    let is : ts ++ rest ≡ spelled s.form ++ rest = ap (λ (us : List Sign). us ++ rest) s.tokens in
    let n = length (ts ++ rest) in
    let read = ended n 0 (spelled s.form ++ rest) (meant s.form, rule s.form, rest)
    (exact s.form n 0 rest s.fits (omega arith) (Stops-more 1 (rule s.form + 1) rest (omega arith) stops) (omega (arith, ap length is, length-append (spelled s.form) rest)))
    (Stops-zero rest stops) in
    (rule s.form, ap (λ (us : List Sign). expr n 0 us) is ∙ read ∙ ap (λ (y : Draft). Some (y, rule s.form, rest)) s.meaning)

-- what stands before a token that is no operator spells one formula, and ends at one place
pub one_front : (a b rest after : List Sign) (x y : Draft) → Spells a x → Spells b y → Stops 1 rest → Stops 1 after → a ++ rest ≡ b ++ after → (x ≡ y) × (rest ≡ after)
one_front a b rest after x y s t stops ends e =
    let r = reads_front a rest x s stops in
    let q = reads_front b after y t ends in
    let same : Some (x, r.0, rest) ≡ Some (y, q.0, after) = sym r.1 ∙ ap (λ (us : List Sign). expr (length us) 0 us) e ∙ q.1 in
    let p = same_Some (x, r.0, rest) (y, q.0, after) same in
    (ap (λ (z : Part). z.0) p, ap (λ (z : Part). z.2) p)
