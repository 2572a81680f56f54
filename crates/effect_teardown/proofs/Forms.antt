-- Trees stay formed.
use Rattle.std.proofs.Common.{◌≡◌, ℕ, Bool, true, false, cond, refl, sym, ap, subst, ◌∙◌, inl, inr}
use Rattle.std.proofs.lemmas.Bool.{eqb-true}
use Rattle.signal_model.proofs.Shared.{tested}
use Rattle.effect_model.specs.Owners.{Thing, the_signal, the_owner, the_effect, the_page, the_watcher, Owned, nothing, thing, cleanup, emptied, put_under, same_thing, taken_out, under, with_earlier}
use Rattle.effect_laws.proofs.Shared.{same_self}
use Rattle.sig_owner.specs.Renames.{renamed, renamed_thing}
use Rattle.effect_model.specs.Owners.{is_holder, listed}
use Rattle.effect_teardown.specs.Trees.{CanStand, IsEffect, IsFormed}

-- ---- which things are one

pub same_is : (t u : Thing) → same_thing t u ≡ true → t ≡ u
same_is (the_signal m) (the_signal n) e = ap the_signal (eqb-true m n e)
same_is (the_owner m) (the_owner n) e = ap the_owner (eqb-true m n e)
same_is (the_effect m) (the_effect n) e = ap the_effect (eqb-true m n e)
same_is (the_page m) (the_page n) e = ap the_page (eqb-true m n e)
same_is (the_watcher m) (the_watcher n) e = ap the_watcher (eqb-true m n e)
same_is _ _ e = cc

true_false : (b : Bool) → b ≡ true → b ≡ false → ⊥
true_false true p q = cc
true_false false p q = cc

pub same_swapped : (t u : Thing) → same_thing t u ≡ same_thing u t
same_swapped t u = elim (tested (same_thing t u)) [
  | inl e ↦ (λ i. same_thing (same_is t u e i) (sym (same_is t u e) i))
  | inr e ↦ elim (tested (same_thing u t)) [
    | inl q ↦ absurd (true_false (same_thing t u) (ap (same_thing t) (same_is u t q) ∙ same_self t) e)
    | inr q ↦ e ∙ sym q
  ]
]

-- ---- what is formed

-- what was made later, above what was made earlier
pub formed_both : (h : Thing) (x y : Owned) → IsFormed h x → IsFormed h y → IsFormed h (with_earlier x y)
formed_both h nothing y p q = q
formed_both h (thing t made rest) y p q = (p.0, p.1, formed_both h rest y p.2 q)
formed_both h (cleanup c rest) y p q = (p.0, formed_both h rest y p.1 q)

-- what stands under a thing
pub formed_under : (h t : Thing) (x : Owned) → IsFormed h x → IsFormed t (under t x)
formed_under h t nothing p = tt
formed_under h t (cleanup c rest) p = formed_under h t rest p.1
formed_under h t (thing u made rest) p =
    formed_both t (cond (same_thing t u) made (under t made)) (under t rest) (go (same_thing t u) refl (formed_under u t made p.1)) (formed_under h t rest p.2)
  where
    go : (b : Bool) → same_thing t u ≡ b → IsFormed t (under t made) → IsFormed t (cond b made (under t made))
    go true e inner = subst (λ v. IsFormed v made) (sym (same_is t u e)) p.1
    go false e inner = inner

can_emptied : (u t : Thing) (made : Owned) (b : Bool) → CanStand u made → CanStand u (cond b nothing (emptied t made))
can_emptied (the_owner n) t made b p = tt
can_emptied (the_effect n) t made b p = tt
can_emptied (the_watcher n) t made b p = p
can_emptied (the_signal n) t made true p = refl
can_emptied (the_signal n) t made false p = ap (emptied t) p
can_emptied (the_page n) t made true p = refl
can_emptied (the_page n) t made false p = ap (emptied t) p

-- where nothing stands under a thing any more
pub formed_emptied : (h t : Thing) (x : Owned) → IsFormed h x → IsFormed h (emptied t x)
formed_emptied h t nothing p = tt
formed_emptied h t (cleanup c rest) p = (p.0, formed_emptied h t rest p.1)
formed_emptied h t (thing u made rest) p = (can_emptied u t made (same_thing t u) p.0, go (same_thing t u) (formed_emptied u t made p.1), formed_emptied h t rest p.2)
  where
    go : (b : Bool) → IsFormed u (emptied t made) → IsFormed u (cond b nothing (emptied t made))
    go true inner = tt
    go false inner = inner

can_out : (u t : Thing) (made : Owned) → CanStand u made → CanStand u (taken_out t made)
can_out (the_owner n) t made p = tt
can_out (the_effect n) t made p = tt
can_out (the_watcher n) t made p = p
can_out (the_signal n) t made p = ap (taken_out t) p
can_out (the_page n) t made p = ap (taken_out t) p

-- where a thing was taken out
pub formed_out : (h t : Thing) (x : Owned) → IsFormed h x → IsFormed h (taken_out t x)
formed_out h t nothing p = tt
formed_out h t (cleanup c rest) p = (p.0, formed_out h t rest p.1)
formed_out h t (thing u made rest) p = go (same_thing t u) (formed_out u t made p.1) (formed_out h t rest p.2)
  where
    go : (b : Bool) → IsFormed u (taken_out t made) → IsFormed h (taken_out t rest) → IsFormed h (cond b (taken_out t rest) (thing u (taken_out t made) (taken_out t rest)))
    go true inner more = more
    go false inner more = (can_out u t made p.0, inner, more)

can_put : (v u : Thing) (one made : Owned) (b : Bool) → same_thing u v ≡ b → is_holder u ≡ true → CanStand v made → CanStand v (cond b (with_earlier one made) (put_under u one made))
can_put (the_owner n) u one made b e k p = tt
can_put (the_effect n) u one made b e k p = tt
can_put (the_watcher n) u one made b e k p = p
can_put (the_signal n) u one made true e k p = absurd (true_false (is_holder u) k (ap is_holder (same_is u (the_signal n) e)))
can_put (the_signal n) u one made false e k p = ap (put_under u one) p
can_put (the_page n) u one made true e k p = absurd (true_false (is_holder u) k (ap is_holder (same_is u (the_page n) e)))
can_put (the_page n) u one made false e k p = ap (put_under u one) p

-- where one more was put under a holder
pub formed_put : (h u : Thing) (one x : Owned) → is_holder u ≡ true → IsFormed u one → IsFormed h x → IsFormed h (put_under u one x)
formed_put h u one nothing k o p = tt
formed_put h u one (cleanup c rest) k o p = (p.0, formed_put h u one rest k o p.1)
formed_put h u one (thing v made rest) k o p =
    (can_put v u one made (same_thing u v) refl k p.0, go (same_thing u v) refl (formed_put v u one made k o p.1), formed_put h u one rest k o p.2)
  where
    go : (b : Bool) → same_thing u v ≡ b → IsFormed v (put_under u one made) → IsFormed v (cond b (with_earlier one made) (put_under u one made))
    go true e inner = formed_both v one made (subst (λ t. IsFormed t one) (same_is u v e) o) p.1
    go false e inner = inner

-- but for what stands at the top and can't own
pub formed_listed : (h : Thing) (x : Owned) → IsFormed h x → IsFormed h (listed x)
formed_listed h nothing p = tt
formed_listed h (cleanup c rest) p = (p.0, formed_listed h rest p.1)
formed_listed h (thing t made rest) p = go (is_holder t) (formed_listed h rest p.2)
  where
    go : (b : Bool) → IsFormed h (listed rest) → IsFormed h (cond b (thing t made (listed rest)) (listed rest))
    go true more = (p.0, p.1, more)
    go false more = more

-- ---- by other numbers

effect_back : (g : ℕ → ℕ) (h : Thing) → IsEffect (renamed_thing g h) → IsEffect h
effect_back g (the_effect n) p = p
effect_back g (the_owner n) p = p
effect_back g (the_signal n) p = p
effect_back g (the_page n) p = p
effect_back g (the_watcher n) p = p

nothing_back : (g : ℕ → ℕ) (x : Owned) → renamed g x ≡ nothing → x ≡ nothing
nothing_back g nothing e = refl
nothing_back g (thing t made rest) e = cc
nothing_back g (cleanup c rest) e = cc

can_back : (g : ℕ → ℕ) (t : Thing) (made : Owned) → CanStand (renamed_thing g t) (renamed g made) → CanStand t made
can_back g (the_owner n) made p = tt
can_back g (the_effect n) made p = tt
can_back g (the_watcher n) made p = p
can_back g (the_signal n) made p = nothing_back g made p
can_back g (the_page n) made p = nothing_back g made p

pub formed_back : (g : ℕ → ℕ) (h : Thing) (x : Owned) → IsFormed (renamed_thing g h) (renamed g x) → IsFormed h x
formed_back g h nothing p = tt
formed_back g h (cleanup c rest) p = (effect_back g h p.0, formed_back g h rest p.1)
formed_back g h (thing t made rest) p = (can_back g t made p.0, formed_back g t made p.1, formed_back g h rest p.2)

-- at the top it is formed under any owner
pub formed_top : (m n : ℕ) (x : Owned) → IsFormed (the_owner m) x → IsFormed (the_owner n) x
formed_top m n nothing p = tt
formed_top m n (cleanup c rest) p = absurd p.0
formed_top m n (thing t made rest) p = (p.0, p.1, formed_top m n rest p.2)

-- ---- what can't own

leaf_bare : (u : Thing) (made : Owned) → is_holder u ≡ false → CanStand u made → made ≡ nothing
leaf_bare (the_owner n) made k p = cc
leaf_bare (the_effect n) made k p = cc
leaf_bare (the_watcher n) made k p = absurd p
leaf_bare (the_signal n) made k p = p
leaf_bare (the_page n) made k p = p

-- nothing stands under what can't own
pub under_leaf : (h t : Thing) (x : Owned) → is_holder t ≡ false → IsFormed h x → under t x ≡ nothing
under_leaf h t nothing k p = refl
under_leaf h t (cleanup c rest) k p = under_leaf h t rest k p.1
under_leaf h t (thing u made rest) k p = ap (λ z. with_earlier z (under t rest)) (go (same_thing t u) refl (under_leaf u t made k p.1)) ∙ under_leaf h t rest k p.2
  where
    go : (b : Bool) → same_thing t u ≡ b → under t made ≡ nothing → cond b made (under t made) ≡ nothing
    go true e inner = leaf_bare u made (ap is_holder (sym (same_is t u e)) ∙ k) p.0
    go false e inner = inner

-- no watcher stands anywhere
pub out_watcher : (h : Thing) (n : ℕ) (x : Owned) → IsFormed h x → taken_out (the_watcher n) x ≡ x
out_watcher h n nothing p = refl
out_watcher h n (cleanup c rest) p = ap (cleanup c) (out_watcher h n rest p.1)
out_watcher h n (thing (the_watcher m) made rest) p = absurd p.0
out_watcher h n (thing (the_owner m) made rest) p = λ i. thing (the_owner m) (out_watcher (the_owner m) n made p.1 i) (out_watcher h n rest p.2 i)
out_watcher h n (thing (the_effect m) made rest) p = λ i. thing (the_effect m) (out_watcher (the_effect m) n made p.1 i) (out_watcher h n rest p.2 i)
out_watcher h n (thing (the_signal m) made rest) p = λ i. thing (the_signal m) (out_watcher (the_signal m) n made p.1 i) (out_watcher h n rest p.2 i)
out_watcher h n (thing (the_page m) made rest) p = λ i. thing (the_page m) (out_watcher (the_page m) n made p.1 i) (out_watcher h n rest p.2 i)

-- ---- a thing that is emptied and then taken out

pub out_emptied : (t : Thing) (x : Owned) → taken_out t (emptied t x) ≡ taken_out t x
out_emptied t nothing = refl
out_emptied t (cleanup c rest) = ap (cleanup c) (out_emptied t rest)
out_emptied t (thing u made rest) = go (same_thing t u) (out_emptied t made) (out_emptied t rest)
  where
    go : (b : Bool) → taken_out t (emptied t made) ≡ taken_out t made → taken_out t (emptied t rest) ≡ taken_out t rest →
        cond b (taken_out t (emptied t rest)) (thing u (taken_out t (cond b nothing (emptied t made))) (taken_out t (emptied t rest))) ≡ cond b (taken_out t rest) (thing u (taken_out t made) (taken_out t rest))
    go true inner more = more
    go false inner more = λ i. thing u (inner i) (more i)
