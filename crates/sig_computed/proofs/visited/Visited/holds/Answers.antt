use Rattle.std.proofs.Common.{◌≡◌, ◌||◌, true, false, List, ℕ, sym, ap, ◌∙◌}
use Rattle.signal_model.specs.Signals.{is_in}
use Rattle.signal_model.proofs.Shared.{or_left}
use Rattle.signal_laws.proofs.Shared.{in_append}
use Rattle.sig_computed.proofs.visited.Visited.holds.Goals as goal

pub returns-then-is_among : goal.returns-then-is_among
returns-then-is_among c =
    let id = c.args.id in
    let late = c.self.inside.late.items in
    let keys = c.self.inside.ids.keys in
    let on : is_in id late ≡ true = ap (is_in id) (sym c.deref.ensures.value) ∙ sym c.is_among.ensures ∙ c.if-is_among.true in
    sym (ap (λ (ns : List ℕ). is_in id ns) (sym c.self.view_is) ∙ in_append id late keys ∙ or_left (is_in id late) (is_in id keys) on)

pub returns : goal.returns
returns c =
    let id = c.args.id in
    let late = c.self.inside.late.items in
    let keys = c.self.inside.ids.keys in
    let off : is_in id late ≡ false = ap (is_in id) (sym c.deref.ensures.value) ∙ sym c.is_among.ensures ∙ c.if-is_among.false in
    let has : c.contains.result ≡ is_in id keys = c.contains.ensures in
    has ∙ sym (ap (λ (ns : List ℕ). is_in id ns) (sym c.self.view_is) ∙ in_append id late keys ∙ ap (λ b. b || is_in id keys) off)
