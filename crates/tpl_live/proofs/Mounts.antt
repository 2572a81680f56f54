-- What a mount gives, in the terms of the code.
use Rattle.std.proofs.Common.{◌≡◌, ℕ, ◌+◌, Bool, true, false, cond, List, [], ◌∷◌, length, nat_eq, Some, None, refl, sym, ap, subst, ◌∙◌}
use Rattle.std.specs.Map.{keys_of}
use Rattle.std.specs.Prelude.{unwrap_or}
use Rattle.sig_base.specs.declared.value.Value.TheVariants as value
use Rattle.sig_base.specs.declared.value.Outcome.{Outcome}
use Rattle.sig_base.specs.declared.value.Outcome.TheVariants.{Good, Bad}
use Rattle.sig_base.specs.declared.value.Fault.TheVariants.{Gone}
use Rattle.signal_model.specs.Recipes.{Hosts}
use Rattle.signal_model.specs.Kept.{AreKept}
use Rattle.signal_model.specs.Memos.{Memos}
use Rattle.signal_model.specs.Signals.{Signals}
use Rattle.signal_laws.specs.ReadLaws.{firsts_after}
use Rattle.page_model.specs.Forest.{Forest, keys, kids, node, none}
use Rattle.page_model.specs.Labels.{Kind, Look, Root, Sound, shown}
use Rattle.page_model.specs.Pages.{IsPage, NumberedPage, bare, edits_between, page_shape, renumbered, tree_of}
use Rattle.page_model.specs.Replay.{Op}
use Rattle.page_model.specs.Trees.{AreNodes}
use Rattle.page_model.proofs.Shared.{bare_page, tree_made}
use Rattle.sig_host.specs.Loans.{IsGoodOutcome}
use Rattle.tpl_model.specs.Laws.{GivesRows, IsTemplate}
use Rattle.tpl_model.specs.Lines.{Block, Line, block_of}
use Rattle.tpl_model.specs.Shapes.{shown_lines}
use Rattle.tpl_model.specs.Sources.{evaluating, in_order, template_shape}
use Rattle.tpl_model.specs.Updates.{updated}
use Rattle.tpl_model.proofs.Shared.{rows_law, scratch_law, shape_law, shape_shown}
use Rattle.tpl_model.specs.PageUpdates.PageMemos.{PageMemo, names, nodes}
use Rattle.tpl_model.specs.PageUpdates.Updates.{memo_on, memo_shape, next_page, shape_on}
use Rattle.tpl_hearing.specs.Heard.{AreFromScratch, HaveRows, HasRows, Hears, Outcomes, Scene, heard_of}
use Rattle.tpl_hearing.proofs.Shared.{heard_scratch}
use Rattle.tpl_model.specs.KeptLines.Memos.{Makes, lines_memo}
use Rattle.tpl_live.specs.Pages.{AreInserted, AreKnown, AreLined, Standing, Stands, below_in, inserts, lines_shape, outcome_in, page_in, shown_in}
use Rattle.tpl_live.proofs.Mounted.{MountedAs, leads, mounted}
use Rattle.tpl_live.proofs.Sourced.{made_on, made_right, names_heard}

-- ---- rows

is_good : (o : Outcome) → HasRows o → IsGoodOutcome o
is_good (Good (value.Bool b)) h = tt
is_good (Good (value.Int i)) h = tt
is_good (Good (value.Text t)) h = tt
is_good (Good (value.Rows t)) h = h
is_good (Bad e) h = tt

-- where outcomes that were heard are rows, these are rows
pub all_good : (heard : Outcomes) → HaveRows heard → (n : ℕ) → IsGoodOutcome (outcome_in heard n)
all_good [] h n = tt
all_good (p ∷ ps) h n = go (nat_eq n p.0) (all_good ps h.1 n)
  where
    go : (b : Bool) → IsGoodOutcome (unwrap_or (heard_of ps n) (Bad Gone)) → IsGoodOutcome (unwrap_or (cond b (Some p.1) (heard_of ps n)) (Bad Gone))
    go true later = is_good p.1 h.0
    go false later = later

-- ---- once all lines are made

-- what is known then
pub record AreMade (lines : List Line) (links : List ℕ) (heard : Outcomes) (m : PageMemo) : Type 0 where
  pub template : IsTemplate lines
  pub rows : GivesRows (evaluating links (outcome_in heard))
  pub memo : m ≡ memo_on lines links (outcome_in heard)
  pub order : keys_of heard ≡ firsts_after [] (names m)

pub are_made : (lines : List Line) (b : Block) (links : List ℕ) (first heard : Outcomes) (m : PageMemo) → IsTemplate lines → b ≡ block_of lines → first ≡ [] →
    Makes (lines_memo b) links None first heard m → HaveRows heard → AreMade lines links heard m
are_made lines b links first heard m t own fresh made good =
    let x = subst (λ z. Makes (lines_memo b) links None z heard m) fresh made in
    record {
      template = t;
      rows = rows_law links (outcome_in heard) (all_good heard good);
      memo = made_on lines b links heard m own x;
      order = x.order;
    }

-- what a template shows can be inserted below the root, where its names come to rows that are rows
pub can_show : (lines : List Line) (links : List ℕ) (source : ℕ → Outcome) → IsTemplate lines → GivesRows (evaluating links source) →
    AreInserted (shown (in_order 1 (shown_lines (evaluating links source) lines).nodes))
can_show lines links source t g =
    let eval = evaluating links source in
    let shape = shape_on lines links source in
    let m = memo_on lines links source in
    let tree = tree_made bare shape bare_page (shape_law lines eval t g) in
    let at : tree.rooted.below ≡ shown (in_order 1 (shown_lines eval lines).nodes) = ap (kids 0) (sym tree.rooted.is ∙ scratch_law lines eval t g) in
    record {
      nodes = subst AreNodes at tree.nodes;
      leads = leads lines links source m (shown (in_order 1 (shown_lines eval lines).nodes)) t g refl
          (ap (λ z. shown (in_order 1 z)) (sym (ap (kids 0) (shape_shown lines links source))));
    }

-- so can the nodes of lines that were made
pub can_insert : (lines : List Line) (b : Block) (links : List ℕ) (heard : Outcomes) (m : PageMemo) → b ≡ block_of lines → AreMade lines links heard m →
    AreInserted (below_in b m)
can_insert lines b links heard m own made =
    let source = outcome_in heard in
    let same_nodes : nodes None (block_of lines) m ≡ (shown_lines (evaluating links source) lines).nodes =
    ap (kids 0) (ap (memo_shape lines) made.memo ∙ shape_shown lines links source) in
    subst (λ z. AreInserted (below_in z m)) (sym own)
    (subst AreInserted (ap (λ z. shown (in_order 1 z)) (sym same_nodes)) (can_show lines links source made.template made.rows))

-- they have children only where they can hold them, and each attribute once
pub made_sound : (lines : List Line) (b : Block) (links : List ℕ) (heard : Outcomes) (m : PageMemo) → b ≡ block_of lines → AreMade lines links heard m →
    Sound (shown_in b m)
made_sound lines b links heard m own made =
    let source = outcome_in heard in
    let same : memo_shape lines m ≡ shape_on lines links source = ap (memo_shape lines) made.memo ∙ shape_shown lines links source in
    let sound = (shape_law lines (evaluating links source) made.template made.rows).sound in
    subst (λ z. Sound (shown_in z m)) (sym own) (subst (λ (z : Forest Look). Sound z) (sym same) sound).2

-- the page as it stands
stands_as : (lines : List Line) (links : List ℕ) (s : Standing) (below : Forest Kind) → s.lines ≡ block_of lines → AreMade lines links s.heard s.memo →
    below ≡ below_in (block_of lines) s.memo → s.next ≡ 1 + length (keys (shown_in (block_of lines) s.memo)) → s.tree ≡ node 0 Root below none →
    MountedAs lines links (outcome_in s.heard) s below
stands_as lines links s below own made e next tree =
    mounted lines links (outcome_in s.heard) s below made.template made.rows own made.memo e next tree

-- what is known of the numbers of a page that shows these lines and has this tree
abbrev pub KnowsThere : Standing → Type 0
KnowsThere s = (p : NumberedPage) → IsPage p → page_shape p ≡ lines_shape s.lines s.memo → s.tree ≡ tree_of p → AreKnown p s.tree s.number

-- and of their lines
abbrev pub LinedThere : Standing → Type 0
LinedThere s = (p : NumberedPage) → IsPage p → page_shape p ≡ lines_shape s.lines s.memo → s.tree ≡ tree_of p → AreLined p s.line

shape_of : (lines : List Line) (links : List ℕ) (s : Standing) (below : Forest Kind) → s.lines ≡ block_of lines →
    MountedAs lines links (outcome_in s.heard) s below → page_shape (page_in s) ≡ lines_shape s.lines s.memo
shape_of lines links s below own x = x.keeps.shape ∙ sym (ap (λ z. lines_shape z s.memo) own)

pub stands : (lines : List Line) (links : List ℕ) (s : Standing) → s.lines ≡ block_of lines → s.links ≡ links → AreMade lines links s.heard s.memo →
    s.next ≡ 1 + length (keys (shown_in s.lines s.memo)) → s.tree ≡ node 0 Root (below_in s.lines s.memo) none → KnowsThere s → LinedThere s → Stands lines links s
stands lines links s own linked made next tree knows lined =
    let x = stands_as lines links s (below_in s.lines s.memo) own made (ap (λ z. below_in z s.memo) own)
    (next ∙ ap (λ z. 1 + length (keys (shown_in z s.memo))) own) tree in
    record {
      template = made.template;
      block = own;
      linked = linked;
      keeps = x.keeps;
      sound = x.sound;
      names = names_heard (keys_of s.heard) (names s.memo) made.order;
      known = knows (page_in s) x.keeps.page (shape_of lines links s (below_in s.lines s.memo) own x) x.keeps.stands;
      lined = lined (page_in s) x.keeps.page (shape_of lines links s (below_in s.lines s.memo) own x) x.keeps.stands;
    }

-- it is that of the signals, and so are the operations
pub record IsUpdated (hosts : Hosts) (w : Signals) (lines : List Line) (links : List ℕ) (k : Memos) (s : Standing) (os : List Op) : Type 0 where
  pub page : page_in s ≡ (updated hosts w lines links k bare).page
  pub ops : os ≡ (updated hosts w lines links k bare).ops

pub is_updated : (x y : Scene) (before after : Hosts → Type 0) (lines : List Line) (links : List ℕ) (first : Outcomes) (s : Standing) (ops : List Op) (hosts : Hosts) →
    first ≡ [] → Hears x y before after first s.heard → before hosts → AreKept hosts x.graph.state.signals x.graph.state.memos → s.lines ≡ block_of lines →
    AreMade lines links s.heard s.memo → s.next ≡ 1 + length (keys (shown_in s.lines s.memo)) → s.tree ≡ node 0 Root (below_in s.lines s.memo) none →
    ops ≡ inserts 0 (below_in s.lines s.memo) → IsUpdated hosts x.graph.state.signals lines links x.graph.state.memos s ops
is_updated x y before after lines links first s ops hosts fresh h all kept own made next tree same =
    let w : Signals = x.graph.state.signals in
    let m = stands_as lines links s (below_in s.lines s.memo) own made (ap (λ z. below_in z s.memo) own)
    (next ∙ ap (λ z. 1 + length (keys (shown_in z s.memo))) own) tree in
    let scratch : AreFromScratch hosts w s.heard =
    heard_scratch x y before after first s.heard hosts h all kept (subst (AreFromScratch hosts w) (sym fresh) tt) in
    let right = made_right hosts w lines links s.heard s.memo made.memo made.order scratch in
    let to : next_page lines links (outcome_in s.heard) bare ≡ renumbered bare (template_shape hosts w lines links) = ap (renumbered bare) right.shape in
    record { page = m.page ∙ to; ops = same ∙ (sym m.edits ∙ ap (edits_between bare) to) }
