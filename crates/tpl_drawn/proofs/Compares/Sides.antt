-- Parts of the page that stands beside parts of the next one, and what a change tells of them.
use Rattle.std.proofs.Common.{◌≡◌, ℕ, Bool, true, false, List, Option, Some, refl, sym, ap, ◌∙◌}
use Rattle.std.proofs.lemmas.Bool.{false≢true}
use Rattle.sig_base.specs.declared.value.Value.TheVariants as value
use Rattle.sig_base.specs.declared.value.Outcome.{Outcome}
use Rattle.sig_base.specs.declared.value.Outcome.TheVariants.{Good, Bad}
use Rattle.sig_formula.specs.Trees.{Tree}
use Rattle.page_model.specs.Forest.{Forest, none, node, after, on}
use Rattle.page_model.specs.Labels.{Look}
use Rattle.tpl_model.specs.Lines.{Block, empty, text, tag, choice, each, attempt}
use Rattle.tpl_model.specs.Shapes.{Here, row_here}
use Rattle.tpl_model.specs.Sources.{evaluating}
use Rattle.tpl_model.specs.KeptLines.Outcomes.{Outcomes}
use Rattle.tpl_model.specs.PageUpdates.Differences.{Within}
use Rattle.tpl_model.specs.PageUpdates.PageMemos.{PageMemo, either, hearing, memo_of, nodes, part_shown}
use Rattle.tpl_model.proofs.Shared.{Half, Single, half_first, half_kids, half_later, memo_like, within_first, within_later, New}
use Rattle.tpl_model.specs.KeptLines.Memos.{Agrees, attempt_memo, lines_memo, truth_in}
use Rattle.tpl_model.specs.KeptLines.Before.{WasMade}
use Rattle.tpl_model.specs.KeptLines.Changes.{Change, stays, made, over, also, nothing, is_made, is_stays, Tells}

-- ---- parts

-- a part of the next page, below whose new nodes all is new
pub record Side (old new q : Forest Look) : Type 0 where
  pub within : Within new q
  pub single : Single q
  pub fresh : New (λ c. on c old) q

-- a part of the page that stands, and one of the next page
pub record Beside (old new p q : Forest Look) : Type 0 where
  pub half : Half old new p q
  pub fresh : New (λ c. on c old) q

new_first : (old : ℕ → Bool) (xs ys : Forest Look) → New old (after xs ys) → New old xs
new_first old none ys n = tt
new_first old (node m x k r) ys n = (n.0, n.1, new_first old r ys n.2)

new_later : (old : ℕ → Bool) (xs ys : Forest Look) → New old (after xs ys) → New old ys
new_later old none ys n = n
new_later old (node m x k r) ys n = new_later old r ys n.2

pub side_of : (old new p q : Forest Look) → Beside old new p q → Side old new q
side_of old new p q b = record { within = b.half.within_new; single = b.half.single_new; fresh = b.fresh }

pub side_first : (old new q s : Forest Look) → Side old new (after q s) → Side old new q
side_first old new q s d =
    let a = within_first new q s d.within d.single in
    record { within = a.0; single = a.1; fresh = new_first (λ c. on c old) q s d.fresh }

pub side_later : (old new q s : Forest Look) → Side old new (after q s) → Side old new s
side_later old new q s d =
    let a = within_later new q s d.within d.single in
    record { within = a.0; single = a.1; fresh = new_later (λ c. on c old) q s d.fresh }

pub beside_first : (old new p r q s : Forest Look) → Beside old new (after p r) (after q s) → Beside old new p q
beside_first old new p r q s b = record { half = half_first old new p q r s b.half; fresh = new_first (λ c. on c old) q s b.fresh }

pub beside_later : (old new p r q s : Forest Look) → Beside old new (after p r) (after q s) → Beside old new r s
beside_later old new p r q s b = record { half = half_later old new p q r s b.half; fresh = new_later (λ c. on c old) q s b.fresh }

pub beside_kids : (old new : Forest Look) (a : ℕ) (x y : Look) (p q : Forest Look) → Beside old new (node a x p none) (node a y q none) → Beside old new p q
beside_kids old new a x y p q b = record { half = half_kids old new a x y p q b.half; fresh = b.fresh.1 }

-- ---- what is kept

-- what is kept of lines on these outcomes
abbrev pub kept : List ℕ → (ℕ → Outcome) → Option Here → Block → PageMemo
kept links source here b = memo_of (hearing (evaluating links source)) false here b

-- formulas come to the same in two rows
abbrev pub Alike : List ℕ → (ℕ → Outcome) → Option Here → Option Here → Type 0
Alike links source here here' = (f : Tree) → hearing (evaluating links source) (row_here here) f ≡ hearing (evaluating links source) (row_here here') f

-- what was made on the outcomes of before is what was kept
pub same_kept : (links : List ℕ) (before : Outcomes) (source now : ℕ → Outcome) → Agrees before source → (b : Block) (here here' : Option Here) →
    Alike links source here here' → WasMade (lines_memo b) links (row_here here') before (kept links now here' b) →
    kept links source here b ≡ kept links now here' b
same_kept links before source now agrees b here here' like w =
    memo_like (hearing (evaluating links source)) b false here here' like ∙ sym (w.is source agrees here' refl)

-- what is kept of what is tried, with nothing behind it
abbrev pub tried_kept : List ℕ → (ℕ → Outcome) → Option Here → Block → Block → PageMemo
tried_kept links source here first second = attempt_memo false first second (hearing (evaluating links source)) here

-- the nodes of the part that is shown
abbrev pub tried_nodes : Option (List ℕ) → Block → Block → PageMemo → Forest Look
tried_nodes k first second (either a b r) = part_shown b (nodes k first a) (nodes k second b)
tried_nodes k first second m = none

-- where it is the same, that is what was kept
pub tried_same : (links : List ℕ) (before : Outcomes) (source now : ℕ → Outcome) → Agrees before source → (first second : Block) (here here' : Option Here) →
    Alike links source here here' → WasMade (attempt_memo false first second) links (row_here here') before (tried_kept links now here' first second) →
    tried_kept links source here first second ≡ tried_kept links now here' first second
tried_same links before source now agrees first second here here' like w =
    memo_like (hearing (evaluating links source)) (attempt first second empty) false here here' like ∙ sym (w.is source agrees here' refl)

-- what stays is what was kept
pub stays_kept : (links : List ℕ) (before : Outcomes) (source now : ℕ → Outcome) → Agrees before source → (b : Block) (here here' : Option Here)
    (c : Change) → Alike links source here here' → is_stays c ≡ true → Tells b links (row_here here') before (kept links now here' b) c →
    kept links source here b ≡ kept links now here' b
stays_kept links before source now agrees empty here here' c like s t = refl
stays_kept links before source now agrees (text n f rest) here here' stays like s t = same_kept links before source now agrees (text n f rest) here here' like t
stays_kept links before source now agrees (tag n name xs inner rest) here here' stays like s t =
    same_kept links before source now agrees (tag n name xs inner rest) here here' like t
stays_kept links before source now agrees (choice f one other rest) here here' stays like s t =
    same_kept links before source now agrees (choice f one other rest) here here' like t
stays_kept links before source now agrees (each f inner rest) here here' stays like s t =
    same_kept links before source now agrees (each f inner rest) here here' like t
stays_kept links before source now agrees (attempt first second rest) here here' stays like s t =
    same_kept links before source now agrees (attempt first second rest) here here' like t
stays_kept links before source now agrees b here here' made like s t = absurd (false≢true s)
stays_kept links before source now agrees b here here' (over e inside later) like s t = absurd (false≢true s)
stays_kept links before source now agrees b here here' (also first others) like s t = absurd (false≢true s)
stays_kept links before source now agrees b here here' nothing like s t = absurd (false≢true s)

-- ---- tests

pub made_is : (c : Change) → is_made c ≡ true → c ≡ made
made_is made h = refl
made_is stays h = absurd (false≢true h)
made_is (over s inside later) h = absurd (false≢true h)
made_is (also first others) h = absurd (false≢true h)
made_is nothing h = absurd (false≢true h)

pub truth_is : (o : Outcome) (t : Bool) → truth_in o ≡ Some t → o ≡ Good (value.Bool t)
truth_is (Good (value.Bool b)) t h = (let e : b ≡ t = cc in ap (λ z. Good (value.Bool z)) e)
truth_is (Good (value.Int n)) t h = absurd (cc)
truth_is (Good (value.Text n)) t h = absurd (cc)
truth_is (Good (value.Rows n)) t h = absurd (cc)
truth_is (Bad e) t h = absurd (cc)
