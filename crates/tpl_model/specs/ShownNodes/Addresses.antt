-- Addresses of nodes as the code has them, and which are one.
use Rattle.std.specs.Prelude.{◌≡◌, ℕ, ◌==◌, ◌&&◌, Bool, true, false, List, [], Option, Some, None, refl, unwrap_or}
use Rattle.std.specs.Bool.{Decides}
use Rattle.std.specs.Str.{bytes_eq}
use Rattle.std.proofs.Common.{ap, ◌∙◌, eqb-true, eq-eqb}
use Rattle.std.proofs.lemmas.Bool.Decides.{Decides-and}
use Rattle.std.proofs.lemmas.Slice.Eq.{bytes_eq-Decides}
use Rattle.page_model.specs.Addresses.{address}
use Rattle.tpl_model.specs.declared.shown.Address.{Address}

-- an address as a number
abbrev pub address_of : Address → ℕ
address_of a = address a.line a.key

-- the same key, or none
abbrev pub same_key : Option (List ℕ) → Option (List ℕ) → Bool
same_key None None = true
same_key (Some k) (Some l) = bytes_eq k l
same_key _ _ = false

-- whether two are one address
abbrev pub same_address : Address → Address → Bool
same_address a b = a.line == b.line && same_key a.key b.key

-- the same keys are equal, and the others are not
key_decides : (k l : Option (List ℕ)) → Decides (same_key k l) (k ≡ l)
key_decides None None = (λ e. refl, λ e. refl)
key_decides (Some k) (Some l) = (λ e. ap Some ((bytes_eq-Decides k l).0 e), λ e. (bytes_eq-Decides k l).1 (ap (λ z. unwrap_or z []) e))
key_decides None (Some l) = (λ e. cc, λ e. cc)
key_decides (Some k) None = (λ e. cc, λ e. cc)

-- addresses of the same line and key are equal
pub one_of : (a b : Address) → (a.line ≡ b.line) × (a.key ≡ b.key) → a ≡ b
one_of a b h =
    ap {A = ℕ} {B = Address} (λ l. record { line = l; key = a.key }) h.0
    ∙ ap {A = Option (List ℕ)} {B = Address} (λ k. record { line = b.line; key = k }) h.1

-- the same addresses are equal, and the others are not
pub same_address-Decides : (a b : Address) → Decides (same_address a b) (a ≡ b)
same_address-Decides a b =
    let d = Decides-and (a.line == b.line) (same_key a.key b.key) (eqb-true a.line b.line, eq-eqb a.line b.line) (key_decides a.key b.key) in
    (λ h. one_of a b (d.0 h), λ (e : a ≡ b). d.1 (ap (λ (x : Address). x.line) e, ap (λ (x : Address). x.key) e))
