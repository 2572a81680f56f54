use Rattle.std.proofs.Common.{◌≡◌, ◌∙◌, ◌-◌, ◌||◌, true, ℕ, List, length, ap, subst, sym}
use Rattle.signal_model.specs.Signals.{is_in}
use Rattle.signal_laws.proofs.Shared.{in_append}
use Rattle.sig_computed.proofs.Looks.{in_at}
use Rattle.sig_computed.proofs.visited.Visited.last.Goals as goal

pub returns-in-Some : goal.returns-in-Some
returns-in-Some c =
    let ns = c.deref.result.now in
    let late = c.self.inside.late.items in
    let keys = c.self.inside.ids.keys in
    let id = c.in-Some.last.now in
    let here : is_in id late ≡ true =
    subst (λ (ms : List ℕ). is_in id ms ≡ true) c.deref.ensures.value
    (in_at ns (length ns - 1) id (sym c.in-Some.ensures.value)) in
    ap (λ (ms : List ℕ). is_in id ms) (sym c.self.view_is) ∙ in_append id late keys ∙ ap (λ b. b || is_in id keys) here
