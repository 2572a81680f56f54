-- Addresses as numbers.
use Rattle.std.proofs.Common.{◌≡◌, ◌==◌, sym, ap, ◌∙◌, eqb-true, eq-eqb, inl, inr}
use Rattle.std.proofs.lemmas.Bool.{cases_Bool, true≢false}
use Rattle.page_model.proofs.Shared.{one_address}
use Rattle.tpl_model.specs.declared.shown.Address.{Address}
use Rattle.tpl_model.specs.ShownNodes.Addresses.{address_of, one_of, same_address, same_address-Decides}

-- two are one address where they are one number
pub same_number : (a b : Address) → same_address a b ≡ (address_of a == address_of b)
same_number a b = elim (cases_Bool (same_address a b)) [
  | inl e ↦ e ∙ sym (eq-eqb (address_of a) (address_of b) (ap address_of ((same_address-Decides a b).0 e)))
  | inr e ↦ elim (cases_Bool (address_of a == address_of b)) [
    | inl f ↦ (
        let h = one_address a.line b.line a.key b.key (eqb-true (address_of a) (address_of b) f) in
        absurd (true≢false (sym ((same_address-Decides a b).1 (one_of a b h)) ∙ e)))
    | inr f ↦ e ∙ sym f
  ]
]
