-- A script may be cut after a line that stands outside a block.
use Rattle.std.proofs.Common.{◌≡◌, ℕ, suc, ◌+◌, true, List, [], ◌∷◌, ◌++◌, length, refl, add-zero, sym, ap, ◌∙◌, arith, inl, inr}
use Rattle.std.specs.Prelude.{◌==◌, ◌&&◌, not}
use Rattle.std.specs.List.{onto_first}
use Rattle.std.proofs.lemmas.Bool.{cases_Bool}
use Rattle.std.proofs.lemmas.List.Elements.{filter-append}
use Rattle.script_lines.specs.Lines.{NumberedLine, EndsLine, lines, numbered, is_passed, kept, kept_lines}
use Rattle.script_lines.specs.Pieces.{Piece, Place, outside, inside, begins_block, level_after, pieces, pieces_of, place_after}

-- bytes that end with LF have a first line
some_line : (b : ℕ) (bs : List ℕ) → EndsLine (b ∷ bs) → (l : List ℕ) × (ls : List (List ℕ)) × (lines (b ∷ bs) ≡ l ∷ ls)
unfolding lines
some_line b [] h = ([], [], rw h refl)
some_line b (c ∷ cs) h =
    let r = some_line c cs h in
    elim (cases_Bool (b == 10)) [
      | inl e ↦ ([], lines (c ∷ cs), rw e refl)
      | inr e ↦ elim (cases_Bool (b == 13 && c == 10)) [
        | inl f ↦ (r.0, r.1, rw (e, f) r.2)
        | inr f ↦ (b ∷ r.0, r.1, rw (e, f) (ap (onto_first b) r.2))
      ]
    ]

-- the lines of two parts, of which the first ends with LF
lines_append : (x y : List ℕ) → EndsLine x → lines (x ++ y) ≡ lines x ++ lines y
unfolding lines
lines_append [] y h = refl
lines_append (b ∷ []) y h = rw h refl
lines_append (b ∷ c ∷ x) y h =
    let some = some_line c x h in
    let again : lines ((c ∷ x) ++ y) ≡ lines (c ∷ x) ++ lines y = lines_append (c ∷ x) y h in
    elim (cases_Bool (b == 10)) [
      | inl e ↦ rw e (ap (λ (ls : List (List ℕ)). [] ∷ ls) again)
      | inr e ↦ elim (cases_Bool (b == 13 && c == 10)) [
        | inl f ↦ rw (e, f) again
        | inr f ↦ rw (e, f) (ap (onto_first b) (again ∙ ap (λ (ls : List (List ℕ)). ls ++ lines y) some.2) ∙ ap (λ (ls : List (List ℕ)). onto_first b ls ++ lines y) (sym some.2))
      ]
    ]

-- numbers go on from one part to the next
numbered_append : (n : ℕ) (xs ys : List (List ℕ)) → numbered n (xs ++ ys) ≡ numbered n xs ++ numbered (n + length xs) ys
unfolding numbered
numbered_append n [] ys = rw add-zero refl
numbered_append n (l ∷ xs) ys =
    let count : n + suc (length xs) ≡ (n + 1) + length xs = omega arith in
    rw count (ap (λ (ls : List NumberedLine). (n, l) ∷ ls) (numbered_append (n + 1) xs ys))

-- the lines of two parts that aren't passed over
kept_append : (n : ℕ) (x y : List ℕ) → EndsLine x → kept_lines n (x ++ y) ≡ kept_lines n x ++ kept_lines (n + length (lines x)) y
unfolding kept_lines
kept_append n x y ends =
    ap (λ (ls : List (List ℕ)). kept (numbered n ls)) (lines_append x y ends)
    ∙ ap kept (numbered_append n (lines x) (lines y))
    ∙ filter-append (λ (l : NumberedLine). not (is_passed l.1)) (numbered n (lines x)) (numbered (n + length (lines x)) (lines y))

-- the pieces of two parts, of which the first ends outside a block
pieces_append : (p : Place) (xs ys : List NumberedLine) → place_after p xs ≡ outside → pieces p (xs ++ ys) ≡ pieces p xs ++ pieces outside ys
unfolding pieces place_after
pieces_append outside [] ys h = refl
pieces_append (inside level got) [] ys h = absurd cc
pieces_append outside (l ∷ xs) ys h = elim (cases_Bool (begins_block l.1)) [
  | inl e ↦ rw e (pieces_append (inside 1 (l ∷ [])) xs ys (rw e at h))
  | inr e ↦ rw e (ap (λ (ps : List Piece). let p : Piece = record { ended = true; lines = l ∷ [] } in p ∷ ps) (pieces_append outside xs ys (rw e at h)))
]
pieces_append (inside level got) (l ∷ xs) ys h = elim (cases_Bool (level_after level l.1 == 0)) [
  | inl e ↦ rw e (ap (λ (ps : List Piece). let p : Piece = record { ended = true; lines = got ++ l ∷ [] } in p ∷ ps) (pieces_append outside xs ys (rw e at h)))
  | inr e ↦ rw e (pieces_append (inside (level_after level l.1) (got ++ l ∷ [])) xs ys (rw e at h))
]

-- the pieces of a script are those of both parts in turn
pub script_cut : (n : ℕ) (x y : List ℕ) → EndsLine x → place_after outside (kept_lines n x) ≡ outside → pieces_of n (x ++ y) ≡ pieces_of n x ++ pieces_of (n + length (lines x)) y
script_cut n x y ends closed =
    ap (pieces outside) (kept_append n x y ends) ∙ pieces_append outside (kept_lines n x) (kept_lines (n + length (lines x)) y) closed
