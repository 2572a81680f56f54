-- Lines spell one list of statements, and some, where all that they begin is ended.
use Rattle.std.proofs.Common.{◌≡◌, ◌+◌, ◌-◌, ℕ, zero, suc, true, List, [], ◌∷◌, ◌++◌, refl, sym, ap, subst, ◌∙◌, append_assoc, arith}
use Rattle.std.proofs.lemmas.List.{append-nil}
use Rattle.script_lines.specs.Lines.{NumberedLine}
use Rattle.body_text.specs.declared.allowance.Allowance.{Allowance}
use Rattle.body_text.specs.declared.line.Line.{Line}
use Rattle.body_text.specs.declared.line.Line.TheVariants as line
use Rattle.body_text.specs.Grammar.{said_line}
use Rattle.body_text.specs.Places.{fits, kind_of, moved}
use Rattle.body_text.specs.Verdicts.{Sayings, Say, reached, said_lines}
use Rattle.body_text.specs.Statements.{Statements, done, plain, rewire, when, effect, lines_of}

-- ---- one list of statements

pub tail_of : (x y : Line) (a b : List Line) → x ∷ a ≡ y ∷ b → a ≡ b
tail_of x y a b e = cc

-- the lines up to an `end` and those behind it, and the same of others behind a further `end`
pub apart : (i s : Statements) (r : List Line) → (lines_of i ++ (line.End ∷ lines_of s)) ++ (line.End ∷ r) ≡ lines_of i ++ (line.End ∷ (lines_of s ++ (line.End ∷ r)))
apart i s r = append_assoc (lines_of i) (line.End ∷ lines_of s) (line.End ∷ r)

pub one_block : (s u : Statements) (r q : List Line) → lines_of s ++ (line.End ∷ r) ≡ lines_of u ++ (line.End ∷ q) → (s ≡ u) × (r ≡ q)
one_block done done r q e = (refl, tail_of _ _ _ _ e)
one_block done _ r q e = absurd cc
one_block (plain a s) (plain b u) r q e =
    let rest = one_block s u r q (tail_of _ _ _ _ e) in let f = rest.0 in (cc, rest.1)
one_block (plain a s) _ r q e = absurd cc
one_block (rewire n x s) (rewire m y u) r q e =
    let rest = one_block s u r q (tail_of _ _ _ _ e) in let f = rest.0 in (cc, rest.1)
one_block (rewire n x s) _ r q e = absurd cc
one_block (when x i s) (when y j u) r q e =
    let whole = sym (apart i s r) ∙ tail_of _ _ _ _ e ∙ apart j u q in
    let first = one_block i j (lines_of s ++ (line.End ∷ r)) (lines_of u ++ (line.End ∷ q)) whole in
    let rest = one_block s u r q first.1 in
    let f = first.0 in let g = rest.0 in (cc, rest.1)
one_block (when x i s) _ r q e = absurd cc
one_block (effect i s) (effect j u) r q e =
    let whole = sym (apart i s r) ∙ tail_of _ _ _ _ e ∙ apart j u q in
    let first = one_block i j (lines_of s ++ (line.End ∷ r)) (lines_of u ++ (line.End ∷ q)) whole in
    let rest = one_block s u r q first.1 in
    let f = first.0 in let g = rest.0 in (cc, rest.1)
one_block (effect i s) _ r q e = absurd cc

-- lines spell one list of statements
pub spelled : (s t : Statements) → lines_of s ≡ lines_of t → s ≡ t
spelled s t e = (one_block s t [] [] (ap (λ (ls : List Line). ls ++ (line.End ∷ [])) e)).0

-- ---- some list of statements

-- lines where so many are begun: statements up to the `end` of each, and those behind all
abbrev Parts : ℕ → List Line → Type 0
Parts zero ls = (s : Statements) × (ls ≡ lines_of s)
Parts (suc n) ls = (s : Statements) × (rest : List Line) × (ls ≡ lines_of s ++ (line.End ∷ rest)) × Parts n rest

put_plain : (n : ℕ) (a : _) (ls : List Line) → Parts n ls → Parts n (line.Plain a ∷ ls)
put_plain zero a ls p = (plain a p.0, ap (λ (ms : List Line). line.Plain a ∷ ms) p.1)
put_plain (suc n) a ls p = (plain a p.0, p.1, ap (λ (ms : List Line). line.Plain a ∷ ms) p.2, p.3)

put_rewire : (n : ℕ) (m : _) (x : _) (ls : List Line) → Parts n ls → Parts n (line.Rewire m x ∷ ls)
put_rewire zero m x ls p = (rewire m x p.0, ap (λ (ms : List Line). line.Rewire m x ∷ ms) p.1)
put_rewire (suc n) m x ls p = (rewire m x p.0, p.1, ap (λ (ms : List Line). line.Rewire m x ∷ ms) p.2, p.3)

put_when : (n : ℕ) (x : _) (ls : List Line) → Parts (suc n) ls → Parts n (line.When x ∷ ls)
put_when zero x ls p =
    (when x p.0 p.3.0, ap (λ (ms : List Line). line.When x ∷ ms) (p.2 ∙ ap (λ (ms : List Line). lines_of p.0 ++ (line.End ∷ ms)) p.3.1))
put_when (suc n) x ls p = (
  when x p.0 p.3.0,
  p.3.1,
  ap (λ (ms : List Line). line.When x ∷ ms)
      (p.2 ∙ ap (λ (ms : List Line). lines_of p.0 ++ (line.End ∷ ms)) p.3.2 ∙ sym (apart p.0 p.3.0 p.3.1)),
  p.3.3,
)

put_effect : (n : ℕ) (ls : List Line) → Parts (suc n) ls → Parts n (line.Effect ∷ ls)
put_effect zero ls p =
    (effect p.0 p.3.0, ap (λ (ms : List Line). line.Effect ∷ ms) (p.2 ∙ ap (λ (ms : List Line). lines_of p.0 ++ (line.End ∷ ms)) p.3.1))
put_effect (suc n) ls p = (
  effect p.0 p.3.0,
  p.3.1,
  ap (λ (ms : List Line). line.Effect ∷ ms)
      (p.2 ∙ ap (λ (ms : List Line). lines_of p.0 ++ (line.End ∷ ms)) p.3.2 ∙ sym (apart p.0 p.3.0 p.3.1)),
  p.3.3,
)

put_end : (allowance : Allowance) (n : ℕ) (ls : List Line) → fits allowance n (kind_of line.End) ≡ true → Parts (n - 1) ls → Parts n (line.End ∷ ls)
put_end allowance zero ls h p = absurd cc
put_end allowance (suc n) ls h p =
    let e : suc n - 1 ≡ n = omega arith in
    (done, ls, refl, subst (λ (m : ℕ). Parts m ls) e p)

put_line : (allowance : Allowance) (n : ℕ) (l : Line) (ls : List Line) → fits allowance n (kind_of l) ≡ true → Parts (moved n (kind_of l)) ls → Parts n (l ∷ ls)
put_line allowance n (line.Plain a) ls h p = put_plain n a ls p
put_line allowance n (line.Rewire m x) ls h p = put_rewire n m x ls p
put_line allowance n (line.When x) ls h p = let e : n + 1 ≡ suc n = omega arith in put_when n x ls (subst (λ (m : ℕ). Parts m ls) e p)
put_line allowance n line.Effect ls h p = let e : n + 1 ≡ suc n = omega arith in put_effect n ls (subst (λ (m : ℕ). Parts m ls) e p)
put_line allowance n line.End ls h p = put_end allowance n ls h p

no_parts : (n : ℕ) → n ≡ 0 → Parts n []
no_parts zero e = (done, refl)
no_parts (suc n) e = absurd (omega arith)

parts : (allowance : Allowance) (n : ℕ) (ls : List NumberedLine) (xs : Sayings) → Say allowance n ls xs → reached allowance n xs ≡ 0 → Parts n (said_lines xs)
parts allowance n [] [] s e = no_parts n e
parts allowance n [] (x ∷ xs) s e = absurd s
parts allowance n (l ∷ ls) [] s e = absurd s
parts allowance n (l ∷ ls) (x ∷ xs) s e = put_line allowance n (said_line x.1) (said_lines xs) s.2 (parts allowance (moved n (kind_of (said_line x.1))) ls xs s.3 e)

-- lines that end all that they begin spell statements
pub some_spelled : (allowance : Allowance) (ls : List NumberedLine) (xs : Sayings) → Say allowance 0 ls xs → reached allowance 0 xs ≡ 0 → (s : Statements) × (said_lines xs ≡ lines_of s)
some_spelled allowance ls xs s e = parts allowance 0 ls xs s e

-- ---- lines that spell statements end all that they begin

abbrev behind : ℕ → List Line → ℕ
behind n [] = n
behind n (l ∷ ls) = behind (moved n (kind_of l)) ls

reached_said : (allowance : Allowance) (n : ℕ) (xs : Sayings) → reached allowance n xs ≡ behind n (said_lines xs)
reached_said allowance n [] = refl
reached_said allowance n (x ∷ xs) = reached_said allowance (moved n (kind_of (said_line x.1))) xs

behind_all : (n : ℕ) (s : Statements) (r : List Line) → behind n (lines_of s ++ r) ≡ behind n r
behind_all n done r = refl
behind_all n (plain a s) r = behind_all n s r
behind_all n (rewire m x s) r = behind_all n s r
behind_all n (when x i s) r =
    let back : (n + 1) - 1 ≡ n = omega arith in
    ap (behind (n + 1)) (append_assoc (lines_of i) (line.End ∷ lines_of s) r) ∙ behind_all (n + 1) i (line.End ∷ (lines_of s ++ r))
    ∙ ap (λ (m : ℕ). behind m (lines_of s ++ r)) back ∙ behind_all n s r
behind_all n (effect i s) r =
    let back : (n + 1) - 1 ≡ n = omega arith in
    ap (behind (n + 1)) (append_assoc (lines_of i) (line.End ∷ lines_of s) r) ∙ behind_all (n + 1) i (line.End ∷ (lines_of s ++ r))
    ∙ ap (λ (m : ℕ). behind m (lines_of s ++ r)) back ∙ behind_all n s r

pub ends_all : (allowance : Allowance) (xs : Sayings) (s : Statements) → said_lines xs ≡ lines_of s → reached allowance 0 xs ≡ 0
ends_all allowance xs s e = reached_said allowance 0 xs ∙ ap (behind 0) (e ∙ sym (append-nil (lines_of s))) ∙ behind_all 0 s []
