-- What the proofs of the replay law speak of.
use Rattle.std.specs.Prelude.{ℕ, suc, ◌+◌, ◌≤◌, Bool, true, false, ◌&&◌, not, leb, ltb, if◌then◌else◌, List, [], ◌∷◌, ◌++◌, ◌≡◌, Option, Some, None, map}
use Rattle.page_model.specs.Forest.{Forest, none, node, after, count, has, only, put, stands, moved, on, tally, kids, parent, at}
use Rattle.page_model.specs.Labels.{Kind}
use Rattle.page_model.specs.Replay.{Op, OpInsert, OpMove}
use Rattle.page_model.specs.Edits.{listed}

-- each number once
abbrev pub Once : List ℕ → Type 0
Once [] = Unit {0}
Once (p ∷ ps) = (listed p ps ≡ false) × Once ps

-- no key stands twice among the siblings
abbrev pub Apart : {A : Type 0} → Forest A → Type 0
Apart none = Unit {0}
Apart (node n x k r) = (has n r ≡ false) × Apart r

-- a new child put at a place, or a kept one moved there
pub data Step (A : Type 0) : Type 0 where
  Insert : (place key : ℕ) (label : A) (below : Forest A) → Step A
  Move : (key place : ℕ) → Step A

-- the steps from the children as they are now to the new ones, from place i on
abbrev pub steps : {A : Type 0} → ℕ → Forest A → Forest A → List (Step A)
steps i now none = []
steps i now (node n x k r) =
    if has n now
    then (if stands n i now then steps (suc i) now r else Move n i ∷ steps (suc i) (moved n i now) r)
    else Insert i n x k ∷ steps (suc i) (put i (node n x k none) now) r

abbrev pub op_at : ℕ → Step Kind → Op
op_at p (Insert i n x k) = OpInsert p i n x k
op_at p (Move n i) = OpMove n i

-- the new children, each kept one with what stands below it now
abbrev pub led_by : {A : Type 0} → (ℕ → Bool) → Forest A → Forest A → Forest A
led_by kept now none = none
led_by kept now (node n x k r) = after (if kept n then only n now else node n x k none) (led_by kept now r)

-- the operations of one parent after the other, on the tree as the earlier ones left it
abbrev pub plan : (ℕ → Bool) → (ℕ → Forest Kind) → List ℕ → Forest Kind → List Op
plan kept new [] now = []
plan kept new (p ∷ ps) now = map (op_at p) (steps 0 (kids p now) (new p)) ++ plan kept new ps (at p (λ k. led_by kept k (new p)) now)

-- what a step makes of the children, or none where it can't be taken
abbrev pub take_step : {A : Type 0} → Step A → Forest A → Option (Forest A)
take_step (Insert i n x k) now = if leb i (count now) && not (has n now) then Some (put i (node n x k none) now) else None
take_step (Move n i) now = if has n now && ltb i (count now) then Some (moved n i now) else None

abbrev pub and_then : {A B : Type 0} → Option A → (A → Option B) → Option B
and_then None f = None
and_then (Some x) f = f x

abbrev pub take_steps : {A : Type 0} → List (Step A) → Forest A → Option (Forest A)
take_steps [] now = Some now
take_steps (s ∷ ss) now = and_then (take_step s now) (take_steps ss)

-- the new children, those that stood before with what they have now
abbrev pub led : {A : Type 0} → Forest A → Forest A → Forest A
led now none = none
led now (node n x k r) = after (if has n now then only n now else node n x k none) (led now r)

-- one parent after the other is led to its new children
abbrev pub arrange : {A : Type 0} → (ℕ → Bool) → (ℕ → Forest A) → List ℕ → Forest A → Forest A
arrange kept look [] now = now
arrange kept look (p ∷ ps) now = arrange kept look ps (at p (λ k. led_by kept k (look p)) now)

-- the new trees, where each kept node has the label that it had
abbrev pub as_was : {A : Type 0} → (ℕ → Bool) → (ℕ → A) → Forest A → Forest A
as_was kept label none = none
as_was kept label (node n x k r) = node n (if kept n then label n else x) (if kept n then as_was kept label k else k) (as_was kept label r)

-- no key stands twice in the trees
abbrev pub Single : {A : Type 0} → Forest A → Type 0
Single none = Unit {0}
Single (node n x k r) = (on n k ≡ false) × (on n r ≡ false) × Single k × Single r × ((m : ℕ) → on m k ≡ true → on m r ≡ false)

-- each node of the trees has the children that `look` gives
abbrev pub Knows : {A : Type 0} → (ℕ → Forest A) → Forest A → Type 0
Knows look none = Unit {0}
Knows look (node n x k r) = (look n ≡ k) × Knows look k × Knows look r

-- no new tree among these holds the key
abbrev pub Clear : {A : Type 0} → (ℕ → Bool) → ℕ → Forest A → Type 0
Clear kept p none = Unit {0}
Clear kept p (node n x k r) = (kept n ≡ false → on p (node n x k none) ≡ false) × Clear kept p r

-- each kept node among the new ones stands among the old ones with its label, and so do its children
abbrev pub Matches : {A : Type 0} → (ℕ → Bool) → (ℕ → A) → Forest A → Forest A → Type 0
Matches kept label old none = Unit {0}
Matches {A = A} kept label old (node n x k r) = (kept n ≡ true → (ks : Forest A) × (only n old ≡ node n (label n) ks none) × Matches kept label ks k) × Matches kept label old r

-- how often the key stands in the new trees among these
abbrev pub newly : {A : Type 0} → (ℕ → Bool) → ℕ → Forest A → ℕ
newly kept j none = 0
newly kept j (node n x k r) = (if kept n then 0 else tally j (node n x k none)) + newly kept j r

abbrev pub all_newly : {A : Type 0} → (ℕ → Bool) → (ℕ → Forest A) → ℕ → List ℕ → ℕ
all_newly kept new j [] = 0
all_newly kept new j (p ∷ ps) = newly kept j (new p) + all_newly kept new j ps

-- the children of a node, and the new ones, of which just the kept are among the old
pub record Ready {A : Type 0} (kept : ℕ → Bool) (now new : Forest A) : Type 0 where
  pub apart : Apart now
  pub apart_new : Apart new
  pub cover : (m : ℕ) → has m now ≡ true → has m new ≡ true
  pub known : (m : ℕ) → has m new ≡ true → has m now ≡ kept m

-- below a new node all are new, and each kept one has the label that `label` gives
abbrev pub Labelled : {A : Type 0} → (ℕ → Bool) → (ℕ → A) → Forest A → Type 0
Labelled kept label none = Unit {0}
Labelled kept label (node m x k r) = (kept m ≡ true → (label m ≡ x) × Labelled kept label k) × (kept m ≡ false → (j : ℕ) → on j k ≡ true → kept j ≡ false) × Labelled kept label r

-- two trees in which no number stands twice, the nodes of the first all on the second under the same parents
pub record Linked {A : Type 0} (old new : Forest A) : Type 0 where
  pub old_once : (j : ℕ) → tally j old ≤ 1
  pub new_once : (j : ℕ) → tally j new ≤ 1
  pub within : (n : ℕ) → on n old ≡ true → on n new ≡ true
  pub same_parent : (n : ℕ) → on n old ≡ true → parent n old ≡ parent n new
  pub below_old : (n : ℕ) → has n new ≡ false → has n old ≡ false
  pub below_new : (n : ℕ) → has n old ≡ false → has n new ≡ false
