-- Cells that are noted as showing something else, perhaps.
use Rattle.std.proofs.Common.{◌≡◌, ◌==◌, ◌||◌, ℕ, Bool, true, false, List, [], ◌∷◌, ◌++◌, None, Some, if◌then◌else◌, nat_eq, inl, inr, refl, sym, ap, subst, ◌∙◌}
use Rattle.std.specs.List.{AllByRecursion, IsDistinct}
use Rattle.std.specs.Map.{keys_of}
use Rattle.std.proofs.lemmas.Bool.{cases_Bool, eqb-true}
use Rattle.signal_model.specs.Signals.{is_in}
use Rattle.signal_laws.proofs.Shared.{in_append}
use Rattle.tpl_hearing.specs.Heard.{Outcomes, heard_of}
use Rattle.tpl_hearing.specs.Unseen.{may_differ, NoneDiffers}
use Rattle.tpl_hearing.proofs.Fronts.{all_heard}

-- neither of two is
neither : (a b : Bool) → (a || b) ≡ false → (a ≡ false) × (b ≡ false)
neither true b e = cc
neither false b e = (refl, e)

-- a name that isn't among these, nor the next one
last_noted : (m n : ℕ) (ns : List ℕ) → is_in m (ns ++ n ∷ []) ≡ false → (is_in m ns ≡ false) × ((m == n) ≡ false)
last_noted m n ns e =
    let apart = neither (is_in m ns) ((m == n) || false) (sym (in_append m ns (n ∷ [])) ∙ e) in
    (apart.0, (neither (m == n) false apart.1).0)

-- one more is noted
pub noted : (known : Bool) (ns later : List ℕ) (n m : ℕ) → later ≡ ns ++ n ∷ [] → may_differ (if known then Some later else None) m ≡ false →
    (may_differ (if known then Some ns else None) m ≡ false) × ((m == n) ≡ false)
noted false ns later n m is e = cc
noted true ns later n m is e = last_noted m n ns (sym (ap (is_in m) is) ∙ e)

-- a name that is among those none of which was heard
unheard_in : (heard : Outcomes) (ns : List ℕ) (n : ℕ) → AllByRecursion (λ m. heard_of heard m ≡ None) ns → is_in n ns ≡ true → heard_of heard n ≡ None
unheard_in heard [] n all i = cc
unheard_in heard (m ∷ ms) n all i = go (n == m) refl i (unheard_in heard ms n all.1)
  where
    go : (b : Bool) → (n == m) ≡ b → (b || is_in n ms) ≡ true → (is_in n ms ≡ true → heard_of heard n ≡ None) → heard_of heard n ≡ None
    go true e h later = subst (λ x. heard_of heard x ≡ None) (sym (eqb-true n m e)) all.0
    go false e h later = later h

-- where none of them was heard, none that was may show something else
pub none_noted : (heard : Outcomes) (ns : List ℕ) → IsDistinct nat_eq (keys_of heard) → AllByRecursion (λ m. heard_of heard m ≡ None) ns →
    NoneDiffers (Some ns) heard
none_noted heard ns once all i n o at = elim (cases_Bool (is_in n ns)) [
  | inl t ↦ let clash : Some o ≡ None = sym (all_heard heard i n o once at) ∙ unheard_in heard ns n all t in absurd cc
  | inr f ↦ f
]
