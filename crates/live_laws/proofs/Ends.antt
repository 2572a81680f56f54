-- Bytes in which each block ends end outside a block, whatever number their first line has.
use Rattle.std.proofs.Common.{◌≡◌, ℕ, ◌+◌, true, List, [], ◌∷◌, ◌++◌, refl, inl, inr}
use Rattle.std.specs.Prelude.{◌==◌}
use Rattle.std.specs.List.{AllByRecursion}
use Rattle.std.proofs.lemmas.Bool.{cases_Bool}
use Rattle.script_lines.specs.Lines.{NumberedLine, is_passed, kept, kept_lines, lines, numbered}
use Rattle.script_lines.specs.Pieces.{Piece, Place, outside, inside, begins_block, level_after, pieces, place_after}
use Rattle.live_laws.specs.Cuts.{IsWhole, WholeLaw}

-- each of these pieces has its end
abbrev AreEnded : List Piece → Type 0
AreEnded ps = AllByRecursion (λ (p : Piece). p.ended ≡ true) ps

-- these lines have the same bytes
abbrev Same : List NumberedLine → List NumberedLine → Type 0
Same [] [] = Unit {0}
Same (l ∷ ls) (k ∷ ks) = (l.1 ≡ k.1) × Same ls ks
Same _ _ = ⊥

-- these places have the same levels open
abbrev Level : Place → Place → Type 0
Level outside outside = Unit {0}
Level (inside level got) (inside other had) = level ≡ other
Level _ _ = ⊥

-- whatever numbers lines have, the same are kept
same_kept : (n m : ℕ) (ls : List (List ℕ)) → Same (kept (numbered n ls)) (kept (numbered m ls))
unfolding numbered
same_kept n m [] = tt
same_kept n m (l ∷ ls) = elim (cases_Bool (is_passed l)) [
  | inl e ↦ rw e (same_kept (n + 1) (m + 1) ls)
  | inr e ↦ rw e (refl, same_kept (n + 1) (m + 1) ls)
]

-- where each piece of lines has its end, the same lines end outside
closed : (p q : Place) (ls ks : List NumberedLine) → Level p q → Same ls ks → AreEnded (pieces p ls) → place_after q ks ≡ outside
unfolding pieces place_after
closed outside outside [] [] v s h = refl
closed (inside level got) (inside other had) [] [] v s h = absurd cc
closed outside (inside other had) ls ks v s h = absurd v
closed (inside level got) outside ls ks v s h = absurd v
closed p q [] (k ∷ ks) v s h = absurd s
closed p q (l ∷ ls) [] v s h = absurd s
closed outside outside (l ∷ ls) (k ∷ ks) v s h = elim (cases_Bool (begins_block l.1)) [
  | inl e ↦ rw (rw s.0 at e) (closed (inside 1 (l ∷ [])) (inside 1 (k ∷ [])) ls ks refl s.1 (rw e at h))
  | inr e ↦ rw (rw s.0 at e) (closed outside outside ls ks tt s.1 (rw e at h).1)
]
closed (inside level got) (inside other had) (l ∷ ls) (k ∷ ks) v s h = elim (cases_Bool (level_after level l.1 == 0)) [
  | inl e ↦ rw (rw (s.0, v) at e) (closed outside outside ls ks tt s.1 (rw e at h).1)
  | inr e ↦
      let w : level_after level l.1 ≡ level_after other k.1 = rw (s.0, v) refl in
      rw (rw (s.0, v) at e) (closed (inside (level_after level l.1) (got ++ l ∷ [])) (inside (level_after other k.1) (had ++ k ∷ [])) ls ks w s.1 (rw e at h))
]

-- where lines end outside, each piece of the same lines has its end
ended : (p q : Place) (ls ks : List NumberedLine) → Level p q → Same ls ks → place_after p ls ≡ outside → AreEnded (pieces q ks)
unfolding pieces place_after
ended outside outside [] [] v s h = tt
ended (inside level got) (inside other had) [] [] v s h = absurd cc
ended outside (inside other had) ls ks v s h = absurd v
ended (inside level got) outside ls ks v s h = absurd v
ended p q [] (k ∷ ks) v s h = absurd s
ended p q (l ∷ ls) [] v s h = absurd s
ended outside outside (l ∷ ls) (k ∷ ks) v s h = elim (cases_Bool (begins_block l.1)) [
  | inl e ↦ rw (rw s.0 at e) (ended (inside 1 (l ∷ [])) (inside 1 (k ∷ [])) ls ks refl s.1 (rw e at h))
  | inr e ↦ rw (rw s.0 at e) (refl, ended outside outside ls ks tt s.1 (rw e at h))
]
ended (inside level got) (inside other had) (l ∷ ls) (k ∷ ks) v s h = elim (cases_Bool (level_after level l.1 == 0)) [
  | inl e ↦ rw (rw (s.0, v) at e) (refl, ended outside outside ls ks tt s.1 (rw e at h))
  | inr e ↦
      let w : level_after level l.1 ≡ level_after other k.1 = rw (s.0, v) refl in
      rw (rw (s.0, v) at e) (ended (inside (level_after level l.1) (got ++ l ∷ [])) (inside (level_after other k.1) (had ++ k ∷ [])) ls ks w s.1 (rw e at h))
]

-- such bytes end outside a block
pub whole_closed : (n : ℕ) (x : List ℕ) → IsWhole x → place_after outside (kept_lines n x) ≡ outside
unfolding kept_lines
whole_closed n x w = closed outside outside (kept_lines 1 x) (kept_lines n x) tt (same_kept 1 n (lines x)) w.blocks

pub whole_law : WholeLaw
unfolding kept_lines
whole_law n x =
    (whole_closed n x, λ e h. record { line = e; blocks = ended outside outside (kept_lines n x) (kept_lines 1 x) tt (same_kept n 1 (lines x)) h })
