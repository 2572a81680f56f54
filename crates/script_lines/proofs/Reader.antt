-- How the lines and the pieces of a script are read from its front.
use Rattle.std.proofs.Common.{◌≡◌, ℕ, zero, suc, ◌+◌, ◌-◌, ◌<◌, ◌≤◌, true, false, List, [], ◌∷◌, ◌++◌, length, take, drop, get_or, refl, sym, ap, ◌∙◌, arith, inl, inr}
use Rattle.std.specs.Prelude.{◌==◌, not, nat_lt, Some, None}
use Rattle.std.specs.List.{onto_first, position, position_or_len}
use Rattle.std.proofs.lemmas.Bool.{cases_Bool, and_right, eq-eqb, ne_eqb, ltb-true, ltb-false}
use Rattle.std.proofs.lemmas.List.{drop-drop, drop_all}
use Rattle.std.proofs.lemmas.List.Sums.{prefix_len-le-length}
use Rattle.script_lines.specs.Lines.{NumberedLine, lines, numbered, kept, kept_lines, is_line_feed, is_passed, without_return}
use Rattle.script_lines.specs.Pieces.{outside, inside, begins_block, opens, closes, level_after, pieces}

-- no bytes have no lines
pub lines_nil : lines [] ≡ []
unfolding lines
lines_nil = refl

-- a line with no LF after it
last_line : (b : ℕ) (bs : List ℕ) → position_or_len is_line_feed (b ∷ bs) ≡ length (b ∷ bs) → lines (b ∷ bs) ≡ (b ∷ bs) ∷ []
unfolding lines
last_line b [] h = elim (cases_Bool (b == 10)) [
  | inl e ↦ let bad = rw e at h in absurd (omega arith)
  | inr e ↦ rw (e, and_right (b == 13) false refl) refl
]
last_line b (c ∷ cs) h = elim (cases_Bool (b == 10)) [
  | inl e ↦ let bad = rw e at h in absurd (omega arith)
  | inr e ↦
      let shorter = rw e at h in
      elim (cases_Bool (c == 10)) [
        | inl f ↦ let bad = rw f at shorter in absurd (omega arith)
        | inr f ↦ rw (e, and_right (b == 13) (c == 10) f) (ap (onto_first b) (last_line c cs (omega arith)))
      ]
]

-- a line with its LF, before which so many bytes stand
first_line : (bs : List ℕ) (n : ℕ) → position_or_len is_line_feed bs ≡ n → n < length bs → lines bs ≡ without_return (take n bs) ∷ lines (drop (suc n) bs)
unfolding lines
first_line [] n p h = absurd (omega arith)
first_line (b ∷ bs) zero p h = elim (cases_Bool (b == 10)) [
  | inl e ↦ rw e refl
  | inr e ↦ let bad = rw e at p in absurd (omega arith)
]
first_line (b ∷ []) (suc m) p h = absurd (omega arith)
first_line (b ∷ c ∷ cs) (suc zero) p h = elim (cases_Bool (b == 10)) [
  | inl e ↦ let bad = rw e at p in absurd (omega arith)
  | inr e ↦
      let shorter = rw e at p in
      elim (cases_Bool (c == 10)) [
        | inl f ↦ elim (cases_Bool (b == 13)) [ inl g ↦ rw (e, f, g) refl | inr g ↦ rw (e, f, g) refl ]
        | inr f ↦ let bad = rw f at shorter in absurd (omega arith)
      ]
]
first_line (b ∷ c ∷ cs) (suc (suc m)) p h = elim (cases_Bool (b == 10)) [
  | inl e ↦ let bad = rw e at p in absurd (omega arith)
  | inr e ↦
      let shorter = rw e at p in
      elim (cases_Bool (c == 10)) [
        | inl f ↦ let bad = rw f at shorter in absurd (omega arith)
        | inr f ↦
            let some : (suc (length (take m cs)) == 0) ≡ false = ne_eqb _ 0 (λ k. omega arith) in
            let rest = first_line (c ∷ cs) (suc m) (omega arith) (omega arith) in
            rw (e, and_right (b == 13) (c == 10) f, and_right (b == 13) (suc (length (take m cs)) == 0) some) (ap (onto_first b) rest)
      ]
]

-- where the first LF stands
placed : (r : List ℕ) (n : ℕ) → Some n ≡ position is_line_feed r → (position_or_len is_line_feed r ≡ n) × (position_or_len is_line_feed r < length r)
placed r n h = elim (cases_Bool (nat_lt (position_or_len is_line_feed r) (length r))) [
  | inl e ↦ let same = rw e at h in (cc, ltb-true _ _ e)
  | inr e ↦ let bad = rw e at h in absurd cc
]

-- where none stands
not_placed : (r : List ℕ) → None ≡ position is_line_feed r → position_or_len is_line_feed r ≡ length r
not_placed r h = elim (cases_Bool (nat_lt (position_or_len is_line_feed r) (length r))) [
  | inl e ↦ let bad = rw e at h in absurd cc
  | inr e ↦ let most = ltb-false _ _ e in let least = prefix_len-le-length (λ b. not (is_line_feed b)) r in omega arith
]

drop_past : (s : List ℕ) (at n : ℕ) → drop (suc n) (drop at s) ≡ drop (at + n + 1) s
drop_past s at n = let i : at + suc n ≡ at + n + 1 = omega arith in drop-drop (suc n) at s ∙ ap (λ (k : ℕ). drop k s) i

-- the line that begins at a place, where an LF ends it
pub line_at : (s r : List ℕ) (at n : ℕ) → r ≡ drop at s → Some n ≡ position is_line_feed r → lines (drop at s) ≡ without_return (take n r) ∷ lines (drop (at + n + 1) s)
line_at s r at n is found =
    let place = placed r n found in
    let cut = first_line r n place.0 (omega arith) in
    ap lines (sym is) ∙ cut ∙ ap (λ (t : List ℕ). without_return (take n r) ∷ lines t) (ap (drop (suc n)) is ∙ drop_past s at n)

last_of : (r : List ℕ) → 0 < length r → position_or_len is_line_feed r ≡ length r → lines r ≡ r ∷ []
last_of [] h e = absurd (omega arith)
last_of (b ∷ bs) h e = last_line b bs e

-- the line that begins at a place, where no LF ends it
pub last_at : (s r : List ℕ) (at : ℕ) → r ≡ drop at s → None ≡ position is_line_feed r → 0 < length r → lines (drop at s) ≡ r ∷ lines (drop (length s) s)
last_at s r at is none h = ap lines (sym is) ∙ last_of r h (not_placed r none) ∙ ap (λ (ls : List (List ℕ)). r ∷ ls) (sym (ap lines (drop_all (length s) s (omega arith)) ∙ lines_nil))

-- a CR at the end is dropped
pub return_dropped : (l : List ℕ) → 0 < length l → get_or l (length l - 1) 0 ≡ 13 → without_return l ≡ take (length l - 1) l
return_dropped [] h e = absurd (omega arith)
return_dropped (b ∷ []) h e = rw e refl
return_dropped (b ∷ c ∷ cs) h e =
    let z : (suc (length cs) == 0) ≡ false = ne_eqb _ 0 (λ k. omega arith) in
    let i : suc (suc (length cs)) - 1 ≡ suc (suc (length cs) - 1) = omega arith in
    rw (and_right (b == 13) _ z, i) (ap (λ (t : List ℕ). b ∷ t) (return_dropped (c ∷ cs) (omega arith) (rw i at e)))

-- another end stays
pub no_return : (l : List ℕ) → (0 < length l → get_or l (length l - 1) 0 ≡ 13 → ⊥) → without_return l ≡ l
no_return [] h = refl
no_return (b ∷ []) h = let z : (b == 13) ≡ false = ne_eqb b 13 (h (omega arith)) in rw z refl
no_return (b ∷ c ∷ cs) h =
    let z : (suc (length cs) == 0) ≡ false = ne_eqb _ 0 (λ k. omega arith) in
    let i : suc (suc (length cs)) - 1 ≡ suc (suc (length cs) - 1) = omega arith in
    rw (and_right (b == 13) _ z) (ap (λ (t : List ℕ). b ∷ t) (no_return (c ∷ cs) (λ p e. h (omega arith) (rw i e))))

-- ---- lines that are passed over, and lines that are kept

-- nothing is kept where no line is left
pub none_kept : (n : ℕ) (t : List ℕ) → lines t ≡ [] → kept_lines n t ≡ []
unfolding kept_lines numbered
none_kept n t e = ap (λ (ls : List (List ℕ)). kept (numbered n ls)) e

-- the first line is passed over
pub passed_first : (n : ℕ) (t l u : List ℕ) → lines t ≡ l ∷ lines u → is_passed l ≡ true → kept_lines n t ≡ kept_lines (n + 1) u
unfolding kept_lines numbered
passed_first n t l u e p = ap (λ (ls : List (List ℕ)). kept (numbered n ls)) e ∙ rw p refl

-- the first line is kept
pub kept_first : (n : ℕ) (t l u : List ℕ) → lines t ≡ l ∷ lines u → is_passed l ≡ false → kept_lines n t ≡ (n, l) ∷ kept_lines (n + 1) u
unfolding kept_lines numbered
kept_first n t l u e p = ap (λ (ls : List (List ℕ)). kept (numbered n ls)) e ∙ rw p refl

-- ---- pieces of lines

-- nothing is left outside a block
pub none_left : pieces outside [] ≡ []
unfolding pieces
none_left = refl

-- nothing is left inside a block
pub block_unended : (level : ℕ) (got : List NumberedLine) → pieces (inside level got) [] ≡ record { ended = false; lines = got } ∷ pieces outside []
unfolding pieces
block_unended level got = refl

-- a line begins a block
pub block_begins : (l : NumberedLine) (ls : List NumberedLine) → begins_block l.1 ≡ true → pieces outside (l ∷ ls) ≡ pieces (inside 1 (l ∷ [])) ls
unfolding pieces
block_begins l ls e = rw e refl

-- a line stands alone
pub line_alone : (l : NumberedLine) (ls : List NumberedLine) → begins_block l.1 ≡ false → pieces outside (l ∷ ls) ≡ record { ended = true; lines = l ∷ [] } ∷ pieces outside ls
unfolding pieces
line_alone l ls e = rw e refl

-- a line ends its block
pub block_ends : (level : ℕ) (got : List NumberedLine) (l : NumberedLine) (ls : List NumberedLine) → level_after level l.1 ≡ 0 → pieces (inside level got) (l ∷ ls) ≡ record { ended = true; lines = got ++ l ∷ [] } ∷ pieces outside ls
unfolding pieces
block_ends level got l ls e = let z = eq-eqb (level_after level l.1) 0 e in rw z refl

-- a line leaves its block open
pub block_goes_on : (level : ℕ) (got : List NumberedLine) (l : NumberedLine) (ls : List NumberedLine) → 0 < level_after level l.1 → pieces (inside level got) (l ∷ ls) ≡ pieces (inside (level_after level l.1) (got ++ l ∷ [])) ls
unfolding pieces
block_goes_on level got l ls e = let z = ne_eqb (level_after level l.1) 0 (λ h. omega arith) in rw z refl

-- a line opens at most one level
pub level_least : (level : ℕ) (l : List ℕ) → level_after level l ≤ level + 1
level_least level l = elim (cases_Bool (opens l)) [
  | inl e ↦ rw e (omega arith)
  | inr e ↦ elim (cases_Bool (closes l)) [ inl f ↦ rw (e, f) (omega arith) | inr f ↦ rw (e, f) (omega arith) ]
]
