-- What crates above may cite of these proofs: which ids are given, how the progress of evaluations changes, and which host formulas are
-- asked.
use Rattle.std.proofs.Common.{◌≡◌, ℕ, ◌+◌, ◌==◌, nat_lt, arith, Bool, true, false, cond, List, [], ◌∷◌, Option, Some, None, refl, sym, ap, ◌∙◌}
use Rattle.std.proofs.lemmas.Bool.{eqb-true}
use Rattle.std.proofs.lemmas.Bool.Decides.{nat_tests}
use Rattle.sig_base.specs.declared.value.Known.{Known}
use Rattle.signal_model.specs.Signals.{changed}
use Rattle.sig_graph.specs.States.{Progress, Seen, State, Makes, is_given, progress_at, with_progress}
-- ---- host formulas

pub use Rattle.sig_graph.proofs.HostUse.{uses_standing, uses_made, uses_rewired, uses_without}

-- ---- ids

-- the ids that were given are the numbers below their count
pub given_is : (g : Seen) (n : ℕ) → is_given g n ≡ nat_lt n g.given
unfolding is_given
given_is g n = refl

-- where no id is given, the same ones were given
pub given_same : (old new : Seen) (n : ℕ) → new.given ≡ old.given → is_given new n ≡ is_given old n
unfolding is_given
given_same old new n e = ap (nat_lt n) e

-- an id that is made is given then
pub given_made : (old new : Seen) (n : ℕ) (after : State) → Makes old new n after → is_given new n ≡ true
unfolding is_given
given_made old new n after m = go n old.given new.given m.id m.given
  where
    go : (i a b : ℕ) → i ≡ a → b ≡ a + 1 → nat_lt i b ≡ true
    go i a b e more = grind (arith, nat_tests)

-- and the others stay given
pub given_more : (old new : Seen) (n : ℕ) (after : State) → Makes old new n after → (k : ℕ) → is_given old k ≡ true → is_given new k ≡ true
unfolding is_given
given_more old new n after m k = go k old.given new.given m.given
  where
    go : (i a b : ℕ) → b ≡ a + 1 → nat_lt i a ≡ true → nat_lt i b ≡ true
    go i a b more h = grind (arith, nat_tests)

-- ---- progress

-- a step of another evaluation
pub progress_other : (s : State) (n m : ℕ) (k : Option (List Known)) → (m == n) ≡ false → progress_at m (with_progress s n k).progress ≡ progress_at m s.progress
progress_other s n m k off = go s.progress
  where
    go : (ps : List Progress) → progress_at m (changed (λ (p : Progress). p.name) n (λ p. record p { known = k }) ps) ≡ progress_at m ps
    go [] = refl
    go (p ∷ ps) = by (n == p.name) refl (go ps)
      where
        by : (b : Bool) → (n == p.name) ≡ b → progress_at m (changed (λ (q : Progress). q.name) n (λ q. record q { known = k }) ps) ≡ progress_at m ps →
            progress_at m (cond b (record p { known = k }) p ∷ changed (λ (q : Progress). q.name) n (λ q. record q { known = k }) ps) ≡ progress_at m (p ∷ ps)
        by false e ih = ap (λ o. cond (m == p.name) p.known o) ih
        by true e ih = let a : (m == p.name) ≡ false = ap (λ z. m == z) (sym (eqb-true n p.name e)) ∙ off in rw a ih

-- an evaluation that is under way goes on
pub progress_on : (s : State) (n : ℕ) (earlier : List Known) (k : Option (List Known)) → progress_at n s.progress ≡ Some earlier → progress_at n (with_progress s n k).progress ≡ k
progress_on s n earlier k h = go s.progress h
  where
    go : (ps : List Progress) → progress_at n ps ≡ Some earlier → progress_at n (changed (λ (p : Progress). p.name) n (λ p. record p { known = k }) ps) ≡ k
    go [] q = cc
    go (p ∷ ps) q = by (n == p.name) refl q (go ps)
      where
        by : (b : Bool) → (n == p.name) ≡ b → cond b p.known (progress_at n ps) ≡ Some earlier → (progress_at n ps ≡ Some earlier → progress_at n (changed (λ (z : Progress). z.name) n (λ z. record z { known = k }) ps) ≡ k) →
            progress_at n (cond b (record p { known = k }) p ∷ changed (λ (z : Progress). z.name) n (λ z. record z { known = k }) ps) ≡ k
        by true e r ih = rw e refl
        by false e r ih = rw e (ih r)

-- an evaluation that ends isn't under way
pub progress_ended : (s : State) (n : ℕ) → progress_at n (with_progress s n None).progress ≡ None
progress_ended s n = go s.progress
  where
    go : (ps : List Progress) → progress_at n (changed (λ (p : Progress). p.name) n (λ p. record p { known = None }) ps) ≡ None
    go [] = refl
    go (p ∷ ps) = by (n == p.name) refl (go ps)
      where
        by : (b : Bool) → (n == p.name) ≡ b → progress_at n (changed (λ (z : Progress). z.name) n (λ z. record z { known = None }) ps) ≡ None →
            progress_at n (cond b (record p { known = None }) p ∷ changed (λ (z : Progress). z.name) n (λ z. record z { known = None }) ps) ≡ None
        by true e ih = rw e refl
        by false e ih = rw e ih
