-- Marking keeps what is unmarked clean.
use Rattle.std.proofs.Common.{◌≡◌, ℕ, ◌==◌, Bool, true, false, Some, refl, sym, ap, ◌∙◌, subst, ◌⊎◌, inl, inr, true≢false}
use Rattle.std.proofs.lemmas.Bool.{eqb-true}
use Rattle.signal_model.specs.Signals.{Signals, Stands, IsGone, IsCell, IsComputed, is_computed, is_in, is_there, standing}
use Rattle.signal_model.specs.Memos.{Memo, Memos, memo_of, sources_in, source_names, keeps}
use Rattle.signal_model.specs.Kept.{OnlyComputedsKeep}
use Rattle.signal_model.proofs.Shared.{tested}
use Rattle.mark_laws.specs.Marked.{IsUnmarked, AreUnmarked, AreDependants, HasSpread}
use Rattle.mark_laws.proofs.Edited.{IsEdit, IsMild, unmoved}

-- what is computed isn't gone
pub computed_stands : (s : Stands) → is_computed s ≡ true → is_there s ≡ true
computed_stands IsGone h = cc
computed_stands (IsCell c) h = refl
computed_stands (IsComputed c) h = refl

-- an edit of n, whose keepers are marked, and n itself where it is a computed
pub pushed : (w : Signals) (k : Memos) (w' : Signals) (k' : Memos) (t u : ℕ → Bool) (n : ℕ) → IsEdit w k w' k' n →
    ((m : ℕ) → t m ≡ true → u m ≡ true) → ((d : ℕ) → keeps k d n ≡ true → u d ≡ true) →
    ((m d : ℕ) → is_computed (standing w m) ≡ true → t m ≡ false → u m ≡ true → keeps k d m ≡ true → u d ≡ true) →
    (is_computed (standing w' n) ≡ true → u n ≡ true) → AreUnmarked w k t → AreUnmarked w' k' u
pushed w k w' k' t u n edit more start on here clean d is off = go (tested (d == n))
  where
    not_here : (b : Bool) → (d == n) ≡ b → b ≡ true → ⊥
    not_here b e q = let same : d ≡ n = eqb-true d n (e ∙ q) in true≢false (sym (here (subst (λ x. is_computed (standing w' x) ≡ true) same is)) ∙ subst (λ x. u x ≡ false) same off)

    was_off : (x : Bool) → t d ≡ x → t d ≡ false
    was_off false e = e
    was_off true e = absurd (true≢false (sym (more d e) ∙ off))

    go : ((d == n) ≡ true) ⊎ ((d == n) ≡ false) → IsUnmarked w' k' u d
    go (inl same) = absurd (not_here (d == n) refl same)
    go (inr other) = by (clean d (sym (edit.kind d other) ∙ is) (was_off (t d) refl))
      where
        by : IsUnmarked w k t d → IsUnmarked w' k' u d
        by x = record {
          memo = x.memo;
          at = edit.memo d other ∙ x.at;
          fine = x.fine;
          wired = x.wired;
          current = unmoved k k' x.memo.sources (λ m q. edit.number m (apart m q)) ∙ x.current;
          sources = λ m q c. calm m q (sym (edit.kind m (apart m q)) ∙ c) (tested (u m));
        }
          where
            kept : (m : ℕ) → is_in m (source_names x.memo.sources) ≡ true → keeps k d m ≡ true
            kept m q = ap (λ z. is_in m (source_names (sources_in z))) x.at ∙ q

            apart : (m : ℕ) → is_in m (source_names x.memo.sources) ≡ true → (m == n) ≡ false
            apart m q = elim (tested (m == n)) [
              | inr no' ↦ no'
              | inl same ↦ absurd (true≢false (sym (start d (subst (λ z. keeps k d z ≡ true) (eqb-true m n same) (kept m q))) ∙ off))
            ]

            calm : (m : ℕ) → is_in m (source_names x.memo.sources) ≡ true → is_computed (standing w m) ≡ true → (u m ≡ true) ⊎ (u m ≡ false) → u m ≡ false
            calm m q c (inr no') = no'
            calm m q c (inl marked) = absurd (true≢false (sym (on m d c (x.sources m q c) marked (kept m q)) ∙ off))

-- what keeps a signal that stands is among its dependants
pub start_of : (w : Signals) (k : Memos) (dependants : ℕ → ℕ → Bool) (t u : ℕ → Bool) (n : ℕ) → is_there (standing w n) ≡ true → AreDependants w k dependants → HasSpread w dependants t u n →
    (d : ℕ) → keeps k d n ≡ true → u d ≡ true
start_of w k dependants t u n stands links spread d q = spread.start d (links n d stands ∙ q)

pub on_of : (w : Signals) (k : Memos) (dependants : ℕ → ℕ → Bool) (t u : ℕ → Bool) (n : ℕ) → AreDependants w k dependants → HasSpread w dependants t u n →
    (m d : ℕ) → is_computed (standing w m) ≡ true → t m ≡ false → u m ≡ true → keeps k d m ≡ true → u d ≡ true
on_of w k dependants t u n links spread m d c off on q = spread.on m d c off on (links m d (computed_stands (standing w m) c) ∙ q)

-- an edit that leaves kinds and sources leaves the links and the owners
pub mild_links : (w : Signals) (k : Memos) (w' : Signals) (k' : Memos) (dependants : ℕ → ℕ → Bool) → IsMild w k w' k' → AreDependants w k dependants → AreDependants w' k' dependants
mild_links w k w' k' dependants mild links m d stands = links m d (sym (mild.gone m) ∙ stands) ∙ ap (λ ss. is_in m (source_names ss)) (sym (mild.sources d))

pub mild_owners : (w : Signals) (k : Memos) (w' : Signals) (k' : Memos) → IsMild w k w' k' → OnlyComputedsKeep w k → OnlyComputedsKeep w' k'
mild_owners w k w' k' mild owners n x at = let b : (y : Memo) × (memo_of k n ≡ Some y) = mild.owners n x at in mild.kind n ∙ owners n b.0 b.1
