-- What became of lines, change by change.
use Rattle.std.proofs.Common.{◌≡◌, ◌<◌, ◌+◌, ◌-◌, ℕ, suc, true, arith, refl, sym, ap, subst, ◌∙◌, map}
use Rattle.std.specs.Box.{box_value}
use Rattle.tpl_model.specs.KeptLines.Changes as model
use Rattle.tpl_model.specs.KeptLines.Changes.{chain, changed, changed_node, same_before}
use Rattle.tpl_model.specs.declared.change.Change.TheVariants.{rolls-Stays, rolls-Made, rolls-Over, rolls-First, rolls-Same}
use Rattle.tpl_model.specs.declared.change.Change.TheVariants as change
use Rattle.tpl_model.specs.declared.change.Change.TheOpen.{Change-F}
use Rattle.tpl_model.specs.declared.change.Change.TheFolds.{fold-roll-Change}

pub changed_stays : changed change.Stays ≡ model.stays
unfolding changed
changed_stays = ap changed (sym rolls-Stays) ∙ fold-roll-Change model.Change changed_node Change-F.Stays

pub changed_made : changed change.Made ≡ model.made
unfolding changed
changed_made = ap changed (sym rolls-Made) ∙ fold-roll-Change model.Change changed_node Change-F.Made

pub changed_over : (same inside later : _) → changed (change.Over same inside later) ≡ model.over same (chain (map changed inside.items)) (changed (box_value later))
unfolding changed
changed_over same inside later = ap changed (sym (rolls-Over same inside later)) ∙ fold-roll-Change model.Change changed_node (Change-F.Over same inside later)

pub changed_first : (same inside : _) → changed (change.First same inside) ≡ model.over same (chain (map changed inside.items)) model.stays
unfolding changed
changed_first same inside = ap changed (sym (rolls-First same inside)) ∙ fold-roll-Change model.Change changed_node (Change-F.First same inside)

-- a line before none, and before some
pub none_before : (c : model.Change) → same_before 0 c ≡ c
unfolding same_before
none_before c = refl

next_before : (n : ℕ) (c : model.Change) → same_before (suc n) c ≡ model.over true model.nothing (same_before n c)
unfolding same_before
next_before n c = refl

pub one_before : (n : ℕ) (c : model.Change) → same_before (n + 1) c ≡ model.over true model.nothing (same_before n c)
one_before n c = subst (λ z. same_before z c ≡ model.over true model.nothing (same_before n c)) (omega arith) (next_before n c)

pub one_less : (n : ℕ) (c : model.Change) → 0 < n → model.over true model.nothing (same_before (n - 1) c) ≡ same_before n c
one_less n c some = sym (one_before (n - 1) c) ∙ ap (λ z. same_before z c) (omega (arith, some))

pub changed_same : (more later : _) → changed (change.Same more later) ≡ model.over true model.nothing (same_before more (changed (box_value later)))
unfolding changed
changed_same more later = ap changed (sym (rolls-Same more later)) ∙ fold-roll-Change model.Change changed_node (Change-F.Same more later)
