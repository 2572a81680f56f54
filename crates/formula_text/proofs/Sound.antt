-- What is read is spelled so.
use Rattle.std.proofs.Common.{◌≡◌, ℕ, zero, suc, ◌+◌, ◌≤◌, List, [], ◌∷◌, ◌++◌, length, Option, Some, None, refl, sym, ap, subst, ◌∙◌, append_assoc, arith, inl, inr}
use Rattle.std.specs.Prelude.{nat_le, option_map, option_and_then}
use Rattle.std.proofs.lemmas.Bool.{leb-true, and_parts, cases_Bool}
use Rattle.std.proofs.lemmas.Option.{same_Some}
use Rattle.formula_text.specs.Signs.{Sign, name}
use Rattle.formula_text.specs.Signs as t
use Rattle.sig_formula.specs.declared.formula.BinOp.{BinOp}
use Rattle.formula_text.specs.declared.rough.Around.{Around}
use Rattle.formula_text.specs.declared.rough.OverRows.{OverRows}
use Rattle.formula_text.specs.Grammar.{Draft, negation, binary, of_row, one_part, each_row, spelled, meant, level, before, rule, Fits}
use Rattle.formula_text.specs.Grammar.{Written, single, group, it_dot, around, over_rows, negated, chain, pick}
use Rattle.formula_text.specs.Parser.{Part, Reader, closed_at, closed, one_closed, one_part_at, each_closed, comma_at, after_rows, each_row_at, field_at}
use Rattle.formula_text.specs.Parser.{row_part_at, negate, chosen, else_at, after_branch, then_at, after_test, choice_at, head, goes_on, extended, tail_at}
use Rattle.formula_text.specs.Parser.{tail, expr}
use Rattle.formula_text.proofs.Groups.{level_small}

pub record Took (least : ℕ) (ts : List Sign) (p : Part) : Type 0 where
  pub form : Written
  pub fits : Fits form
  pub in_place : least ≤ rule form
  pub rule_is : rule form ≡ p.1
  pub meaning : meant form ≡ p.0
  pub tokens : ts ≡ spelled form ++ p.2

abbrev pub IsSound : Reader → Type 0
IsSound read = (least : ℕ) (ts : List Sign) (p : Part) → least ≤ 8 → read least ts ≡ Some p → Took least ts p

and_then_some : {A B : Type 0} (o : Option A) (f : A → Option B) (y : B) → option_and_then f o ≡ Some y → (x : A) × (o ≡ Some x) × (f x ≡ Some y)
and_then_some None f y e = absurd cc
and_then_some (Some x) f y e = (x, refl, e)

map_some : {A B : Type 0} (o : Option A) (f : A → B) (y : B) → option_map f o ≡ Some y → (x : A) × (o ≡ Some x) × (f x ≡ y)
map_some None f y e = absurd cc
map_some (Some x) f y e = (x, refl, same_Some _ _ e)

closed_some : (x : Draft) (ts : List Sign) (p : Part) → closed_at x ts ≡ Some p → (after : List Sign) × (ts ≡ t.closing ∷ after) × (p ≡ (x, 8, after))
closed_some x (t.closing ∷ ts) p e = (ts, refl, sym (same_Some _ _ e))
closed_some x _ p e = absurd cc

-- what stands before one part in parentheses
one_sound : (read : Reader) → IsSound read → (f : Around) (least : ℕ) (ts : List Sign) (p : Part) → least ≤ 8 → one_part_at read f ts ≡ Some p
    → Took least (t.around f ∷ ts) p
one_sound read sound f least (t.opening ∷ ts) p small e =
    let a = and_then_some (read 0 ts) (one_closed f) p e in
    let inner = sound 0 ts a.0 (omega arith) a.1 in
    let b = closed_some (one_part f a.0.0) a.0.2 p a.2 in
    subst (λ (q : Part). Took least (t.around f ∷ t.opening ∷ ts) q) (sym b.2)
    (record {
      form = around f inner.form;
      fits = inner.fits;
      in_place = small;
      rule_is = refl;
      meaning = ap (one_part f) inner.meaning;
      tokens = ap (λ (x : List Sign). t.around f ∷ t.opening ∷ x)
          (inner.tokens ∙ ap (λ (x : List Sign). spelled inner.form ++ x) b.1 ∙ sym (append_assoc (spelled inner.form) (t.closing ∷ []) b.0));
    })
one_sound read sound f least _ p small e = absurd cc

comma_some : (read : Reader) (f : OverRows) (x : Draft) (ts : List Sign) (p : Part) → comma_at read f x ts ≡ Some p
    → (us : List Sign) × (q : Part) × (ts ≡ t.comma ∷ us) × (read 0 us ≡ Some q) × (each_closed f x q ≡ Some p)
comma_some read f x (t.comma ∷ ts) p e = let a = and_then_some (read 0 ts) (each_closed f x) p e in (ts, a.0, refl, a.1, a.2)
comma_some read f x _ p e = absurd cc

-- the tokens of two parts in parentheses, with what stands behind them
pub each_tokens : (a b rest : List Sign) → ((a ++ (t.comma ∷ b)) ++ t.closing ∷ []) ++ rest ≡ a ++ (t.comma ∷ (b ++ (t.closing ∷ rest)))
each_tokens a b rest = append_assoc (a ++ (t.comma ∷ b)) (t.closing ∷ []) rest ∙ append_assoc a (t.comma ∷ b) (t.closing ∷ rest)

-- what stands before rows and a part
each_sound : (read : Reader) → IsSound read → (f : OverRows) (least : ℕ) (ts : List Sign) (p : Part) → least ≤ 8 → each_row_at read f ts ≡ Some p
    → Took least (t.over_rows f ∷ ts) p
each_sound read sound f least (t.opening ∷ ts) p small e =
    let a = and_then_some (read 0 ts) (after_rows read f) p e in
    let b = comma_some read f a.0.0 a.0.2 p a.2 in
    let rows = sound 0 ts a.0 (omega arith) a.1 in
    let part = sound 0 b.0 b.1 (omega arith) b.3 in
    let c = closed_some (each_row f a.0.0 b.1.0) b.1.2 p b.4 in
    subst (λ (q : Part). Took least (t.over_rows f ∷ t.opening ∷ ts) q) (sym c.2)
    (record {
      form = over_rows f rows.form part.form;
      fits = (rows.fits, part.fits);
      in_place = small;
      rule_is = refl;
      meaning = let g = rows.meaning in let h = part.meaning in cc;
      tokens = ap (λ (x : List Sign). t.over_rows f ∷ t.opening ∷ x)
          (rows.tokens ∙ ap (λ (x : List Sign). spelled rows.form ++ x)
          (b.2 ∙ ap (λ (x : List Sign). t.comma ∷ x) (part.tokens ∙ ap (λ (x : List Sign). spelled part.form ++ x) c.1))
          ∙ sym (each_tokens (spelled rows.form) (spelled part.form) c.0));
    })
each_sound read sound f least _ p small e = absurd cc

field_some : (ts : List Sign) (p : Part) → field_at ts ≡ Some p → (n : List ℕ) × (after : List Sign) × (ts ≡ t.leaf (name n) ∷ after) × (p ≡ (of_row n, 8, after))
field_some (t.leaf (name n) ∷ ts) p e = (n, ts, refl, sym (same_Some _ _ e))
field_some _ p e = absurd cc

-- what stands behind `it`
row_sound : (least : ℕ) (ts : List Sign) (p : Part) → least ≤ 8 → row_part_at ts ≡ Some p → Took least (t.it_word ∷ ts) p
row_sound least (t.dot ∷ ts) p small e =
    let a = field_some ts p e in
    subst (λ (q : Part). Took least (t.it_word ∷ t.dot ∷ ts) q) (sym a.3)
    (record {
      form = it_dot a.0;
      fits = tt;
      in_place = small;
      rule_is = refl;
      meaning = refl;
      tokens = ap (λ (x : List Sign). t.it_word ∷ t.dot ∷ x) a.2;
    })
row_sound least _ p small e = absurd cc

else_some : (read : Reader) (x y : Draft) (ts : List Sign) (p : Part) → else_at read x y ts ≡ Some p
    → (us : List Sign) × (q : Part) × (ts ≡ t.else_word ∷ us) × (read 0 us ≡ Some q) × (chosen x y q ≡ Some p)
else_some read x y (t.else_word ∷ ts) p e = let a = and_then_some (read 0 ts) (chosen x y) p e in (ts, a.0, refl, a.1, a.2)
else_some read x y _ p e = absurd cc

then_some : (read : Reader) (x : Draft) (ts : List Sign) (p : Part) → then_at read x ts ≡ Some p
    → (us : List Sign) × (q : Part) × (ts ≡ t.then_word ∷ us) × (read 0 us ≡ Some q) × (after_branch read x q ≡ Some p)
then_some read x (t.then_word ∷ ts) p e = let a = and_then_some (read 0 ts) (after_branch read x) p e in (ts, a.0, refl, a.1, a.2)
then_some read x _ p e = absurd cc

-- the tokens of a choice, with what stands behind it
pub pick_tokens : (a b c rest : List Sign) → (a ++ (t.then_word ∷ (b ++ (t.else_word ∷ c)))) ++ rest ≡ a ++ (t.then_word ∷ (b ++ (t.else_word ∷ (c ++ rest))))
pick_tokens a b c rest =
    append_assoc a (t.then_word ∷ (b ++ (t.else_word ∷ c))) rest
    ∙ ap (λ (x : List Sign). a ++ (t.then_word ∷ x)) (append_assoc b (t.else_word ∷ c) rest)

choice_sound : (read : Reader) → IsSound read → (least : ℕ) (ts : List Sign) (p : Part) → least ≤ 0 → choice_at read ts ≡ Some p → Took least (t.if_word ∷ ts) p
choice_sound read sound least ts p small e =
    let a = and_then_some (read 0 ts) (after_test read) p e in
    let b = then_some read a.0.0 a.0.2 p a.2 in
    let c = else_some read a.0.0 b.1.0 b.1.2 p b.4 in
    let test = sound 0 ts a.0 (omega arith) a.1 in
    let held = sound 0 b.0 b.1 (omega arith) b.3 in
    let last = sound 0 c.0 c.1 (omega arith) c.3 in
    subst (λ (q : Part). Took least (t.if_word ∷ ts) q) (same_Some _ _ c.4)
    (record {
      form = pick test.form held.form last.form;
      fits = (test.fits, held.fits, last.fits);
      in_place = small;
      rule_is = refl;
      meaning = let f = test.meaning in let g = held.meaning in let h = last.meaning in cc;
      tokens = ap (λ (x : List Sign). t.if_word ∷ x)
          (test.tokens ∙ ap (λ (x : List Sign). spelled test.form ++ x) (b.2 ∙ ap (λ (x : List Sign). t.then_word ∷ x) (held.tokens ∙ ap (λ (x : List Sign). spelled held.form ++ x) (c.2 ∙ ap (λ (x : List Sign). t.else_word ∷ x) last.tokens)))
          ∙ sym (pick_tokens (spelled test.form) (spelled held.form) (spelled last.form) c.1.2));
    })

head_sound : (read : Reader) → IsSound read → (least : ℕ) (ts : List Sign) (p : Part) → least ≤ 8 → head read least ts ≡ Some p → Took least ts p
head_sound read sound least (t.leaf n ∷ ts) p small e =
    subst (λ (q : Part). Took least (t.leaf n ∷ ts) q) (same_Some _ _ e)
    (record { form = single n; fits = tt; in_place = small; rule_is = refl; meaning = refl; tokens = refl })
head_sound read sound least (t.opening ∷ ts) p small e =
    let a = and_then_some (read 0 ts) closed p e in
    let inner = sound 0 ts a.0 (omega arith) a.1 in
    let b = closed_some a.0.0 a.0.2 p a.2 in
    subst (λ (q : Part). Took least (t.opening ∷ ts) q) (sym b.2)
    (record {
      form = group inner.form;
      fits = inner.fits;
      in_place = small;
      rule_is = refl;
      meaning = inner.meaning;
      tokens = ap (λ (x : List Sign). t.opening ∷ x) (inner.tokens ∙ ap (λ (x : List Sign). spelled inner.form ++ x) b.1 ∙ sym (append_assoc (spelled inner.form) (t.closing ∷ []) b.0));
    })
head_sound read sound least (t.around f ∷ ts) p small e = one_sound read sound f least ts p small e
head_sound read sound least (t.over_rows f ∷ ts) p small e = each_sound read sound f least ts p small e
head_sound read sound least (t.it_word ∷ ts) p small e = row_sound least ts p small e
head_sound read sound least (t.not_word ∷ ts) p small e = elim (cases_Bool (nat_le least 3)) [
  | inl holds ↦
      let a = and_then_some (read 3 ts) negate p (rw holds at e) in
      let inner = sound 3 ts a.0 (omega arith) a.1 in
      subst (λ (q : Part). Took least (t.not_word ∷ ts) q) (same_Some _ _ a.2)
      (record {
        form = negated inner.form;
        fits = (inner.in_place, inner.fits);
        in_place = leb-true least 3 holds;
        rule_is = refl;
        meaning = ap negation inner.meaning;
        tokens = ap (λ (x : List Sign). t.not_word ∷ x) inner.tokens;
      })
  | inr fails ↦ let bad = rw fails at e in absurd cc
]
head_sound read sound least (t.if_word ∷ ts) p small e = elim (cases_Bool (nat_le least 0)) [
  | inl holds ↦ choice_sound read sound least ts p (leb-true least 0 holds) (rw holds at e)
  | inr fails ↦ let bad = rw fails at e in absurd cc
]
head_sound read sound least _ p small e = absurd cc

extended_sound : (again : Part → Part) (least : ℕ) (ts : List Sign) (o : BinOp) (p : Part) (rest : List Sign) (r : Option Part) →
    ((q : Part) → Took least ts q → Took least ts (again q)) → Took least ts p → p.2 ≡ t.operator o ∷ rest → least ≤ level o → before o ≤ p.1
    → ((q : Part) → r ≡ Some q → Took (level o + 1) rest q) → Took least ts (extended again o p r)
extended_sound again least ts o p rest None more took is low high right = took
extended_sound again least ts o p rest (Some q) more took is low high right =
    let b = right q refl in
    more (binary o p.0 q.0, level o, q.2) (record {
      form = chain o took.form b.form;
      fits = (rw (sym took.rule_is) at high, omega (arith, b.in_place), took.fits, b.fits);
      in_place = low;
      rule_is = refl;
      meaning = cc;
      tokens = took.tokens ∙ ap (λ (x : List Sign). spelled took.form ++ x) (is ∙ ap (λ (x : List Sign). t.operator o ∷ x) b.tokens) ∙ sym (append_assoc (spelled took.form) (t.operator o ∷ spelled b.form) q.2);
    })

tail_at_sound : (read : Reader) → IsSound read → (again : Part → Part) (least : ℕ) (ts : List Sign) (p : Part) (rest : List Sign) → ((q : Part) → Took least ts q → Took least ts (again q)) → p.2 ≡ rest → Took least ts p → Took least ts (tail_at read again least p rest)
tail_at_sound read sound again least ts p (t.operator o ∷ rest) more is took = elim (cases_Bool (goes_on o least p.1)) [
  | inl holds ↦
      let parts = and_parts (nat_le least (level o)) (nat_le (before o) p.1) holds in
      rw holds (extended_sound again least ts o p rest (read (level o + 1) rest) more took is (leb-true _ _ parts.0) (leb-true _ _ parts.1) (λ q e. sound (level o + 1) rest q (level_small o) e))
  | inr fails ↦ rw fails took
]
tail_at_sound read sound again least ts p _ more is took = took

tail_sound : (read : Reader) → IsSound read → (k least : ℕ) (ts : List Sign) (p : Part) → Took least ts p → Took least ts (tail read k least p)
unfolding tail
tail_sound read sound zero least ts p took = took
tail_sound read sound (suc k) least ts p took = tail_at_sound read sound (tail read k least) least ts p p.2 (λ q h. tail_sound read sound k least ts q h) refl took

pub expr_sound : (n least : ℕ) (ts : List Sign) (p : Part) → least ≤ 8 → expr n least ts ≡ Some p → Took least ts p
unfolding expr
expr_sound zero least ts p small e = absurd cc
expr_sound (suc n) least ts p small e =
    let a = map_some (head (expr n) least ts) (tail (expr n) (length ts) least) p e in
    subst (λ (q : Part). Took least ts q) a.2 (tail_sound (expr n) (λ l us q. expr_sound n l us q) (length ts) least ts a.0 (head_sound (expr n) (λ l us q. expr_sound n l us q) least ts a.0 small a.1))
