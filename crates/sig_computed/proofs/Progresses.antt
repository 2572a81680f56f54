-- Which computeds are being evaluated, by the progress of each.
use Rattle.std.proofs.Common.{◌≡◌, ℕ, ◌==◌, ◌||◌, ◌&&◌, Bool, true, false, cond, List, [], ◌∷◌, map, Option, None, refl, sym, ap, ◌∙◌}
use Rattle.std.specs.Prelude.{is_some}
use Rattle.std.proofs.lemmas.Bool.{eqb-true}
use Rattle.sig_base.specs.declared.value.Known.{Known}
use Rattle.signal_model.specs.Signals.{is_in}
use Rattle.sig_graph.specs.States.{State, Progress, progress_at, is_computing}
use Rattle.sig_computed.specs.Views.{passing, evaluating, progressed}

-- nothing stands beside false
and_false : (a : Bool) → (a && false) ≡ false
and_false true = refl
and_false false = refl

-- what passes a test is among the names that do
in_passing : (test : ℕ → Bool) (n : ℕ) (ns : List ℕ) → is_in n (passing test ns) ≡ (is_in n ns && test n)
in_passing test n [] = refl
in_passing test n (m ∷ ns) = go (n == m) (test m) refl refl (in_passing test n ns)
  where
    go : (a b : Bool) → (n == m) ≡ a → test m ≡ b → is_in n (passing test ns) ≡ (is_in n ns && test n) →
        is_in n (cond b (m ∷ passing test ns) (passing test ns)) ≡ ((a || is_in n ns) && test n)
    go true true e t more = (λ i. e i || is_in n (passing test ns)) ∙ sym (ap test (eqb-true n m e) ∙ t)
    go false true e t more = (λ i. e i || is_in n (passing test ns)) ∙ more
    go true false e t more =
        more ∙ ap (λ b. is_in n ns && b) (ap test (eqb-true n m e) ∙ t) ∙ and_false (is_in n ns) ∙ sym (ap test (eqb-true n m e) ∙ t)
    go false false e t more = more

-- who has progress has a row
has_row : (n : ℕ) (ps : List Progress) → is_some (progress_at n ps) ≡ true → is_in n (map (λ (p : Progress). p.name) ps) ≡ true
has_row n [] h = cc
has_row n (p ∷ ps) h = go (n == p.name) h (has_row n ps)
  where
    go : (b : Bool) → is_some (cond b p.known (progress_at n ps)) ≡ true → (is_some (progress_at n ps) ≡ true → is_in n (map (λ (p : Progress). p.name) ps) ≡ true) →
        (b || is_in n (map (λ (p : Progress). p.name) ps)) ≡ true
    go true q f = refl
    go false q f = f q

-- a computed is among those that are being evaluated where it is
pub in_evaluating : (s : State) (n : ℕ) → is_in n (evaluating s) ≡ is_computing s n
in_evaluating s n = in_passing (is_computing s) n (map (λ (p : Progress). p.name) s.progress) ∙ go (is_computing s n) refl
  where
    go : (b : Bool) → is_computing s n ≡ b → (is_in n (map (λ (p : Progress). p.name) s.progress) && b) ≡ b
    go true e = ap (λ a. a && true) (has_row n s.progress e)
    go false e = and_false (is_in n (map (λ (p : Progress). p.name) s.progress))

-- ---- one computed's progress changes

-- of any other it stays
pub progress_other : (n m : ℕ) (k : Option (List Known)) (ps : List Progress) → (m == n) ≡ false → progress_at m (progressed n k ps) ≡ progress_at m ps
progress_other n m k [] off = refl
progress_other n m k (p ∷ ps) off = go (n == p.name) refl (progress_other n m k ps off)
  where
    go : (b : Bool) → (n == p.name) ≡ b → progress_at m (progressed n k ps) ≡ progress_at m ps →
        progress_at m (cond b (record p { known = k }) p ∷ progressed n k ps) ≡ progress_at m (p ∷ ps)
    go true e h = (λ i. cond (away i) k (progress_at m (progressed n k ps))) ∙ h ∙ (λ i. cond (sym away i) p.known (progress_at m ps))
      where
        away : (m == p.name) ≡ false
        away = ap (λ y. m == y) (sym (eqb-true n p.name e)) ∙ off
    go false e h = ap (λ r. cond (m == p.name) p.known r) h

-- of itself it is the new one, where it is being evaluated
pub progress_same : (n : ℕ) (k : Option (List Known)) (ps : List Progress) → is_some (progress_at n ps) ≡ true → progress_at n (progressed n k ps) ≡ k
progress_same n k [] h = cc
progress_same n k (p ∷ ps) h = go (n == p.name) refl h (progress_same n k ps)
  where
    go : (b : Bool) → (n == p.name) ≡ b → is_some (cond b p.known (progress_at n ps)) ≡ true → (is_some (progress_at n ps) ≡ true → progress_at n (progressed n k ps) ≡ k) →
        progress_at n (cond b (record p { known = k }) p ∷ progressed n k ps) ≡ k
    go true e q f = (λ i. cond (e i) k (progress_at n (progressed n k ps)))
    go false e q f = (λ i. cond (e i) p.known (progress_at n (progressed n k ps))) ∙ f q

-- once it is none, it is none
pub progress_ended : (n : ℕ) (ps : List Progress) → progress_at n (progressed n None ps) ≡ None
progress_ended n [] = refl
progress_ended n (p ∷ ps) = go (n == p.name) refl (progress_ended n ps)
  where
    go : (b : Bool) → (n == p.name) ≡ b → progress_at n (progressed n None ps) ≡ None →
        progress_at n (cond b (record p { known = None }) p ∷ progressed n None ps) ≡ None
    go true e h = (λ i. cond (e i) None (progress_at n (progressed n None ps)))
    go false e h = (λ i. cond (e i) p.known (progress_at n (progressed n None ps))) ∙ h
