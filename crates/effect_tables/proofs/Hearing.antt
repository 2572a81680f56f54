-- What is known of effects that need no look stays right.
use Rattle.std.proofs.Common.{◌≡◌, ◌⊎◌, inl, inr, ℕ, ◌==◌, Bool, true, false, List, [], ◌∷◌, ◌++◌, length, zero, suc, cond, Option, Some, None, refl, sym, ap, subst, ◌∙◌}
use Rattle.std.proofs.lemmas.Bool.{eqb-true, true≢false}
use Rattle.std.specs.List.{AllByRecursion}
use Rattle.std.specs.Prelude.{slice_get}
use Rattle.sig_base.specs.declared.value.Value.{Value}
use Rattle.signal_model.specs.Changes.{with_value}
use Rattle.signal_model.specs.Signals.{Cell, Signals, changed, computed_at, or_computed, standing}
use Rattle.signal_laws.proofs.Shared.{found_other}
use Rattle.signal_model.specs.Values.{Seen}
use Rattle.effect_model.specs.Worlds.{Effect}
use Rattle.effect_tables.specs.declared.heard.Heard.{Heard}
use Rattle.effect_tables.proofs.Marks.{all_so}
use Rattle.effect_tables.specs.Heard.{is_marked, reads_at, still_in, AreHeard, IsAdded, IsHeard, IsHeardOf, IsMissed, IsQuiet, IsWoken}
use Rattle.effect_tables.specs.Runs.{with_reads}

-- where nothing is known
pub none_heard : (w : Signals) (h : Heard) (xs : List Effect) → ((p : ℕ) → is_marked p h.quiet ≡ false) → AreHeard w h xs
none_heard w h xs none = record {
  each = λ p x on at. absurd (true≢false (sym on ∙ none p));
}

-- reads of one effect, in other words
quiet_so : (w v : Signals) (h j : Heard) (p q : ℕ) (k : Option (List Seen)) → ((s : Seen) → IsHeardOf w h p s → IsHeardOf v j q s) → IsQuiet w h p k → IsQuiet v j q k
quiet_so w v h j p q None f quiet = quiet
quiet_so w v h j p q (Some ss) f quiet = all_so (IsHeardOf w h p) (IsHeardOf v j q) ss f quiet

-- A cell has another value, and what it wakes isn't known any more.
pub woken_heard : (n : ℕ) (w v : Signals) (h j : Heard) (xs : List Effect) → ((m : ℕ) → (m ≡ n → ⊥) → standing v m ≡ standing w m) → IsWoken n h j →
    AreHeard w h xs → AreHeard v j xs
woken_heard n w v h j xs others woken a = record {
  each = λ p x on at. quiet_so w v h j p p x.kept
      (λ s heard.
      let off : s.name ≡ n → ⊥ = λ e. true≢false (sym heard.wakes ∙ ap (λ m. reads_at h.readers m p) e ∙ woken.woken p on) in
      record {
        still = ap (λ st. still_in st s.outcome) (others s.name off) ∙ heard.still;
        wakes = ap (λ rs. reads_at rs s.name p) woken.readers ∙ heard.wakes;
      })
      (a.each p x (woken.marked p on) at);
}

value_other : (w : Signals) (n : ℕ) (v : Value) (m : ℕ) → (m ≡ n → ⊥) → standing (with_value w n v) m ≡ standing w m
value_other w n v m off =
    ap (λ x. or_computed x (computed_at m w.computeds))
    (found_other (λ (c : Cell). c.name) m n (λ c. record c { value = v }) w.cells (λ c. refl) (go (m == n) refl))
  where
    go : (b : Bool) → (m == n) ≡ b → (m == n) ≡ false
    go true e = absurd (off (eqb-true m n e))
    go false e = e

pub set_heard : (n : ℕ) (v : Value) (w later : Signals) (h j : Heard) (xs : List Effect) → later ≡ with_value w n v → IsWoken n h j → AreHeard w h xs → AreHeard later j xs
set_heard n v w later h j xs is woken a =
    subst (λ s. AreHeard s j xs) (sym is) (woken_heard n w (with_value w n v) h j xs (λ m off. value_other w n v m off) woken a)

-- both at once
all_both : (A B C : Seen → Type 0) (ss : List Seen) → ((s : Seen) → A s → B s → C s) → AllByRecursion A ss → AllByRecursion B ss → AllByRecursion C ss
all_both A B C [] f one two = tt
all_both A B C (s ∷ ss) f one two = (f s one.0 two.0, all_both A B C ss f one.1 two.1)

-- An effect that has read cells alone, which have their values still, is known to need no look.
pub heard_heard : (p : ℕ) (ss : List Seen) (w : Signals) (h j : Heard) (xs : List Effect) (x : Effect) → IsHeard p ss h j → slice_get xs p ≡ Some x → x.kept ≡ Some ss →
    AllByRecursion (λ (s : Seen). still_in (standing w s.name) s.outcome ≡ true) ss → AreHeard w h xs → AreHeard w j xs
heard_heard p ss w h j xs x heard here kept still a = record {
  each = λ q y on at. elim (heard.marked q on) [
    | inl was ↦ quiet_so w w h j q q y.kept (λ s so. record { still = so.still; wakes = heard.more s.name q so.wakes }) (a.each q y was at)
    | inr is ↦
        let same : x ≡ y = some_one x y (sym here ∙ ap (slice_get xs) (sym is) ∙ at) in
        subst (IsQuiet w j q) (sym kept ∙ ap (λ (z : Effect). z.kept) same)
        (subst (λ k. AllByRecursion (IsHeardOf w j k) ss) (sym is)
        (all_both (λ (s : Seen). still_in (standing w s.name) s.outcome ≡ true) (λ (s : Seen). reads_at j.readers s.name p ≡ true) (IsHeardOf w j p) ss
        (λ s one two. record { still = one; wakes = two }) still heard.each))
  ];
}
  where
    some_one : (x y : Effect) → Some x ≡ Some y → x ≡ y
    some_one x y e = cc

-- an effect whose number is another one keeps what it kept
kept_at : (k p : ℕ) (ss : List Seen) (xs : List Effect) (y : Effect) → ((x : Effect) → slice_get xs p ≡ Some x → (k == x.number) ≡ false) →
    slice_get (changed (λ (x : Effect). x.number) k (with_reads ss) xs) p ≡ Some y → slice_get xs p ≡ Some y
kept_at k p ss [] y off at = at
kept_at k zero ss (x ∷ xs) y off at = sym (ap (λ b. Some (cond b (with_reads ss x) x)) (off x refl)) ∙ at
kept_at k (suc p) ss (x ∷ xs) y off at = kept_at k p ss xs y off at

-- An effect has run again, and nothing is known of it any more.
pub kept_heard : (k : ℕ) (ss : List Seen) (w : Signals) (h j : Heard) (xs ys : List Effect) → IsMissed k xs h j →
    ys ≡ changed (λ (x : Effect). x.number) k (with_reads ss) xs → AreHeard w h xs → AreHeard w j ys
kept_heard k ss w h j xs ys missed is a = record {
  each = λ q x on at.
      let before : slice_get xs q ≡ Some x = kept_at k q ss xs x (λ y there. missed.off q y on there) (sym (ap (λ zs. slice_get zs q) is) ∙ at) in
      quiet_so w w h j q q x.kept (λ s so. record { still = so.still; wakes = ap (λ rs. reads_at rs s.name q) missed.readers ∙ so.wakes })
      (a.each q x (missed.marked q on) before);
}

-- An effect is made behind the others.
found_before : (p : ℕ) (xs : List Effect) (x y : Effect) → slice_get (xs ++ x ∷ []) p ≡ Some y → (slice_get xs p ≡ Some y) ⊎ (p ≡ length xs)
found_before zero [] x y at = inr refl
found_before (suc p) [] x y at = absurd cc
found_before zero (z ∷ xs) x y at = inl at
found_before (suc p) (z ∷ xs) x y at = elim (found_before p xs x y at) [ inl here ↦ inl here | inr e ↦ inr (ap suc e) ]

pub added_heard : (p : ℕ) (w : Signals) (h j : Heard) (xs ys : List Effect) (x : Effect) → IsAdded p h j → p ≡ length xs → ys ≡ xs ++ x ∷ [] → AreHeard w h xs → AreHeard w j ys
added_heard p w h j xs ys x added last is a = record {
  each = λ q y on at. elim (found_before q xs x y (sym (ap (λ zs. slice_get zs q) is) ∙ at)) [
    | inl here ↦ quiet_so w w h j q q y.kept (λ s so. record { still = so.still; wakes = ap (λ rs. reads_at rs s.name q) added.readers ∙ so.wakes }) (a.each q y (added.marked q on) here)
    | inr e ↦ absurd (true≢false (sym on ∙ ap (λ k. is_marked k j.quiet) (e ∙ sym last) ∙ added.off))
  ];
}

-- nothing of it was changed
pub same_heard : (w v : Signals) (h j : Heard) (xs ys : List Effect) → v ≡ w → j ≡ h → ys ≡ xs → AreHeard w h xs → AreHeard v j ys
same_heard w v h j xs ys signals heard effects a = subst (λ x. x) (λ i. AreHeard (sym signals i) (sym heard i) (sym effects i)) a
