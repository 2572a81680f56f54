-- The edits between two numbered trees lead from the one to the other.
use Rattle.std.proofs.Common.{◌≡◌, ℕ, ◌≤◌, Bool, true, sym, ap, subst, ◌∙◌, arith}
use Rattle.page_model.specs.Forest.{Forest, none, node, on, tally, keys, parent, label_in, height, pruned, tops, relabelled}
use Rattle.page_model.specs.Labels.{Root, Look, shown, holds, Alike, Sound}
use Rattle.page_model.specs.Replay.{Done, replay}
use Rattle.page_model.specs.Edits.{ascending, look_edits, edits}
use Rattle.page_model.proofs.Whole.{Fit, whole, tally_pruned}
use Rattle.page_model.proofs.Told.{told_leads}
use Rattle.page_model.proofs.Orders.{in_ascending, once_ascending, in_keys, once_keys, once_tops}
use Rattle.page_model.proofs.Shown.{on_shown, tally_shown, parent_shown, height_shown, label_shown, holds_seen, alike_holds, opened_shown, names_at}

-- what two numbered trees need
pub record Linkable (old new : Forest Look) : Type 0 where
  pub old_once : (j : ℕ) → tally j old ≤ 1
  pub new_once : (j : ℕ) → tally j new ≤ 1
  pub parents : (n : ℕ) → on n old ≡ true → on n new ≡ true → parent n old ≡ parent n new
  pub lines : (n : ℕ) → on n old ≡ true → on n new ≡ true → Alike (label_in Root n old) (label_in Root n new)
  pub sound : Sound new
  pub low : height new ≤ 33

fit_of : (old new : Forest Look) → Linkable old new → Fit (λ n. look_edits n (label_in Root n old) (label_in Root n new)) (shown old) (shown new)
fit_of old new l = record {
  old_once = λ j. (let a = tally_shown j old in let b = l.old_once j in omega arith);
  new_once = λ j. (let a = tally_shown j new in let b = l.new_once j in omega arith);
  parents = λ n h g. parent_shown n old ∙ (l.parents n (sym (on_shown n old) ∙ h) (sym (on_shown n new) ∙ g) ∙ sym (parent_shown n new));
  same = λ n h g.
      ap holds (label_shown n old) ∙ (holds_seen (label_in Root n old)
      ∙ (alike_holds (label_in Root n old) (label_in Root n new) (l.lines n (sym (on_shown n old) ∙ h) (sym (on_shown n new) ∙ g))
      ∙ sym (ap holds (label_shown n new) ∙ holds_seen (label_in Root n new))));
  says = λ n h g t o s q.
      told_leads n (label_in Root n old) (label_in Root n new) t (l.lines n (sym (on_shown n old) ∙ h) (sym (on_shown n new) ∙ g)) (names_at n new l.sound) o s (q ∙ label_shown n old)
      ∙ ap (λ z. Done (relabelled n z t)) (sym (label_shown n new));
  opened = opened_shown new l.sound;
  low = (let a = height_shown new in let b = l.low in omega arith);
}

edits_root : (os ns : Forest Look) → Linkable (node 0 Root os none) (node 0 Root ns none) → replay (edits (node 0 Root os none) (node 0 Root ns none)) (shown (node 0 Root os none)) ≡ Done (shown (node 0 Root ns none))
edits_root os ns l =
    let o : Forest Look = node 0 Root os none in
    let n : Forest Look = node 0 Root ns none in
    let old = shown o in
    let new = shown n in
    let f = fit_of o n l in
    let keep : ℕ → Bool = λ m. on m new in
    whole (λ m. look_edits m (label_in Root m o) (label_in Root m n)) Root Root (shown os) (shown ns) (ascending (tops keep old)) (ascending (keys (pruned keep old))) f
    (once_ascending (tops keep old) (once_tops keep old f.old_once)) (λ m. in_ascending m (tops keep old))
    (once_ascending (keys (pruned keep old)) (once_keys (pruned keep old) (λ j. (let a = tally_pruned keep j old in let b = f.old_once j in omega arith))))
    (λ m. in_ascending m (keys (pruned keep old)) ∙ in_keys m (pruned keep old))

pub edits_lead : (old new os ns : Forest Look) → old ≡ node 0 Root os none → new ≡ node 0 Root ns none → Linkable old new → replay (edits old new) (shown old) ≡ Done (shown new)
edits_lead old new os ns eo en =
    let P : Forest Look → Forest Look → Type 0 = λ a b. Linkable a b → replay (edits a b) (shown a) ≡ Done (shown b) in
    let first : P (node 0 Root os none) (node 0 Root ns none) = edits_root os ns in
    let Q : Forest Look → Type 0 = λ a. P a (node 0 Root ns none) in
    let second : P old (node 0 Root ns none) = subst Q (sym eo) first in
    let R : Forest Look → Type 0 = λ b. P old b in
    subst R (sym en) second
