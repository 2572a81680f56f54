-- A page that is brought up to date, in the terms of the code.
use Rattle.std.proofs.Common.{◌≡◌, ℕ, false, List, [], Option, Some, None, refl, sym, ap, subst, ◌∙◌}
use Rattle.std.specs.Map.{keys_of}
use Rattle.std.specs.Prelude.{unwrap_or}
use Rattle.sig_base.specs.declared.value.Outcome.{Outcome}
use Rattle.sig_base.specs.declared.value.Outcome.TheVariants.{Bad}
use Rattle.sig_base.specs.declared.value.Fault.TheVariants.{Gone}
use Rattle.signal_model.specs.Recipes.{Hosts}
use Rattle.signal_model.specs.Kept.{AreKept}
use Rattle.signal_model.specs.Signals.{Signals, is_in}
use Rattle.page_model.specs.Forest.{Forest, node, none}
use Rattle.page_model.specs.Labels.{Kind, Root, Sound}
use Rattle.page_model.specs.Pages.{IsShape, SameOrigin, carried, edits_between, page_shape, renumbered, tree_of, with_numbers}
use Rattle.page_model.specs.Replay.{Op}
use Rattle.tpl_model.specs.NextPage.Updates.{Updates}
use Rattle.tpl_model.proofs.Shared.{update_law, origin_law, shape_law, shape_shown, source_law}
use Rattle.tpl_hearing.specs.Heard.{AreFromScratch, Grows, HaveRows, Hears, Outcomes, Scene}
use Rattle.tpl_hearing.specs.HeardAgain.{IsFront}
use Rattle.tpl_hearing.proofs.Shared.{heard_scratch}
use Rattle.tpl_model.specs.KeptLines.Memos.{Agrees, Makes, lines_memo}
use Rattle.tpl_model.specs.KeptLines.Before.{WasMade}
use Rattle.tpl_kept.specs.Renewals.{WasMadeIfRead}
use Rattle.tpl_kept.proofs.Shared.{remade, stayed}
use Rattle.tpl_model.specs.Lines.{Block, Line, block_of}
use Rattle.tpl_model.specs.Shapes.{Here, row_here}
use Rattle.tpl_model.specs.Sources.{evaluating, firsts}
use Rattle.tpl_model.specs.Updates.{updated}
use Rattle.tpl_model.specs.PageUpdates.PageMemos.{PageMemo, hearing, memo_of, names, nodes}
use Rattle.tpl_model.specs.PageUpdates.Updates.{Keeps, memo_on, memo_shape, shape_on}
use Rattle.tpl_live.specs.Pages.{AreKnown, AreLined, Standing, Stands, lines_shape, numbered_as, outcome_in, page_in}
use Rattle.tpl_live.specs.Plans.{Carries, Compares}
use Rattle.tpl_drawn.specs.Comparison.{Compared, known_of, restated_in, touched_in}
use Rattle.tpl_drawn.proofs.Shared.{compare_law}
use Rattle.tpl_model.specs.KeptLines.Changes.{Change, Tells}
use Rattle.tpl_model.specs.declared.shown.Address.{Address}
use Rattle.tpl_live.proofs.Mounted.{numbers_back}
use Rattle.tpl_live.proofs.Mounts.{AreMade, are_made}
use Rattle.tpl_live.proofs.Reheard.{all_same, heard_so, reads_in, same_up_to}
use Rattle.tpl_live.proofs.Sourced.{heard_agrees, made_right, names_heard}

-- ---- what was kept

-- what is kept on what was heard was made wherever the names have these outcomes
pub was_made : (lines : List Line) (b : Block) (links : List ℕ) (heard : Outcomes) (m : PageMemo) → b ≡ block_of lines →
    m ≡ memo_on lines links (outcome_in heard) → keys_of heard ≡ firsts [] (names m) → WasMade (lines_memo b) links None heard m
was_made lines b links heard m own is order = record { is = λ source agrees here row. go here row source agrees }
  where
    same : (source : ℕ → Outcome) → Agrees heard source → memo_on lines links (outcome_in heard) ≡ memo_on lines links source
    same source agrees =
        source_law lines links (outcome_in heard) source
        (λ n i.
        let k = reads_in (keys_of heard) (names m) order n (ap (λ z. is_in n (names z)) is ∙ i) in
        let o = heard_so heard n k in
        ap (λ z. unwrap_or z (Bad Gone)) o.1 ∙ sym (agrees.each n o.0 o.1))

    go : (here : Option Here) → row_here here ≡ None → (source : ℕ → Outcome) → Agrees heard source →
        m ≡ lines_memo b (hearing (evaluating links source)) here
    go None row source agrees = is ∙ (same source agrees ∙ ap (memo_of (hearing (evaluating links source)) false None) (sym own))
    go (Some h) row source agrees = cc

-- ---- what comes next

-- what is kept next shows a shape of the same template, to which the page can be carried
pub record Follows (lines : List Line) (links : List ℕ) (s : Standing) (heard : Outcomes) (m : PageMemo) : Type 0 where
  pub is : lines_shape s.lines m ≡ memo_shape lines m
  pub formed : IsShape (lines_shape s.lines m)
  pub origin : SameOrigin (page_shape (page_in s)) (lines_shape s.lines m)
  pub updates : Updates lines links (outcome_in heard) m (page_in s) (memo_shape lines m)

pub follows : (lines : List Line) (links : List ℕ) (s : Standing) (heard : Outcomes) (m : PageMemo) → Stands lines links s → AreMade lines links heard m →
    Follows lines links s heard m
follows lines links s heard m st made =
    let now = outcome_in heard in
    let before = outcome_in s.heard in
    let u = update_law lines links before now s.memo m (page_in s) s.tree st.template st.keeps st.sound made.rows made.memo in
    let is : lines_shape s.lines m ≡ memo_shape lines m = ap (λ z. node 0 Root (nodes None z m) none) st.block in
    let to : shape_on lines links now ≡ lines_shape s.lines m = sym (is ∙ u.shows) in
    let old : shape_on lines links before ≡ page_shape (page_in s) =
    sym (st.keeps.shape ∙ (ap (memo_shape lines) st.keeps.memo ∙ shape_shown lines links before)) in
    record {
      is = is;
      formed = subst IsShape to (shape_law lines (evaluating links now) st.template made.rows);
      origin = subst (SameOrigin (page_shape (page_in s))) to
          (subst (λ z. SameOrigin z (shape_on lines links now)) old (origin_law lines (evaluating links before) (evaluating links now) st.template));
      updates = u;
    }

-- the page that comes next
abbrev pub next_of : Standing → Outcomes → PageMemo → ℕ → Forest Kind → (Address → Option ℕ) → (ℕ → Option ℕ) → Standing
next_of s heard m next tree number line =
    record { lines = s.lines; links = s.links; heard = heard; memo = m; next = next; tree = tree; number = number; line = line }

pub record NextStands (lines : List Line) (links : List ℕ) (s t : Standing) (m : PageMemo) : Type 0 where
  pub page : page_in t ≡ renumbered (page_in s) (memo_shape lines m)
  pub stands : Stands lines links t

pub next_stands : (lines : List Line) (links : List ℕ) (s : Standing) (heard : Outcomes) (m : PageMemo) (next : ℕ) (tree : Forest Kind)
    (number : Address → Option ℕ) (line : ℕ → Option ℕ) (os : List Op) → Stands lines links s → AreMade lines links heard m →
    Carries (page_in s) (lines_shape s.lines m) os next tree number → AreLined (renumbered (page_in s) (lines_shape s.lines m)) line →
    NextStands lines links s (next_of s heard m next tree number line) m
next_stands lines links s heard m next tree number line os st made carried_there lined_there =
    let p = page_in s in
    let shape = memo_shape lines m in
    let f = follows lines links s heard m st made in
    let trees : tree ≡ tree_of (renumbered p shape) = carried_there.stands ∙ ap (λ z. tree_of (renumbered p z)) f.is in
    let all : numbered_as (lines_shape s.lines m) tree ≡ with_numbers (carried p shape) shape =
    (λ i. numbered_as (f.is i) (trees i)) ∙ numbers_back (carried p shape) shape in
    let count : next ≡ (renumbered p shape).next = carried_there.leads.count ∙ ap (λ z. (renumbered p z).next) f.is in
    let page : page_in (next_of s heard m next tree number line) ≡ renumbered p shape = (λ i. record { nodes = all i; next = count i }) in
    record {
      page = page;
      stands = record {
        template = st.template;
        block = st.block;
        linked = st.linked;
        keeps = subst (λ z. Keeps lines links (outcome_in heard) m z tree) (sym page)
            (subst (λ z. Keeps lines links (outcome_in heard) m (renumbered p shape) z) (sym trees) f.updates.keeps);
        sound = subst (λ z. Sound (page_shape z)) (sym page) f.updates.sound;
        names = names_heard (keys_of heard) (names m) made.order;
        known = subst (λ z. AreKnown z tree number) (sym page) (subst (λ z. AreKnown (renumbered p z) tree number) f.is carried_there.known);
        lined = subst (λ z. AreLined z line) (sym page) (subst (λ z. AreLined (renumbered p z) line) f.is lined_there);
      };
    }

-- it is that of the signals, and so are the operations
pub record IsCarried (hosts : Hosts) (lines : List Line) (links : List ℕ) (x : Scene) (s t : Standing) (os : List Op) : Type 0 where
  pub page : page_in t ≡ (updated hosts x.graph.state.signals lines links x.graph.state.memos (page_in s)).page
  pub ops : os ≡ (updated hosts x.graph.state.signals lines links x.graph.state.memos (page_in s)).ops

pub is_carried : (x y : Scene) (before after : Hosts → Type 0) (lines : List Line) (links : List ℕ) (first heard : Outcomes) (s : Standing) (m : PageMemo)
    (next : ℕ) (tree : Forest Kind) (number : Address → Option ℕ) (line : ℕ → Option ℕ) (os : List Op) (hosts : Hosts) → first ≡ [] → Hears x y before after first heard →
    before hosts → AreKept hosts x.graph.state.signals x.graph.state.memos → Stands lines links s → AreMade lines links heard m →
    Carries (page_in s) (lines_shape s.lines m) os next tree number → AreLined (renumbered (page_in s) (lines_shape s.lines m)) line →
    IsCarried hosts lines links x s (next_of s heard m next tree number line) os
is_carried x y before after lines links first heard s m next tree number line os hosts fresh h all kept st made carried_there lined_there =
    let w : Signals = x.graph.state.signals in
    let p = page_in s in
    let f = follows lines links s heard m st made in
    let ns = next_stands lines links s heard m next tree number line os st made carried_there lined_there in
    let scratch : AreFromScratch hosts w heard =
    heard_scratch x y before after first heard hosts h all kept (subst (AreFromScratch hosts w) (sym fresh) tt) in
    let right = made_right hosts w lines links heard m made.memo made.order scratch in
    record {
      page = ns.page ∙ ap (renumbered p) (f.updates.shows ∙ right.shape);
      ops = sym carried_there.leads.edits ∙ ap (λ z. edits_between p (renumbered p z)) (f.is ∙ (f.updates.shows ∙ right.shape));
    }

-- ---- as the code has it

-- what is kept was made
made_before : (lines : List Line) (links : List ℕ) (s : Standing) → Stands lines links s → WasMade (lines_memo s.lines) links None s.heard s.memo
made_before lines links s st = was_made lines s.lines links s.heard s.memo st.block st.keeps.memo st.names

pub was_made_there : (lines : List Line) (links : List ℕ) (s : Standing) → Stands lines links s → WasMadeIfRead (lines_memo s.lines) s.links None s.heard s.memo
was_made_there lines links s st =
    record { made = λ u. subst (λ z. WasMade (lines_memo s.lines) z None s.heard s.memo) (sym st.linked) (made_before lines links s st) }

-- where its names have the outcomes of before, it would be made so again
pub made_still : (lines : List Line) (links : List ℕ) (s : Standing) → Stands lines links s → Makes (lines_memo s.lines) links None [] s.heard s.memo
made_still lines links s st = stayed s.lines links None s.heard [] s.heard s.memo (made_before lines links s st) (all_same (names s.memo) s.heard st.names)

-- what is kept next, where names were heard first, up to one that may have changed
pub made_anew : (lines : List Line) (links : List ℕ) (s : Standing) (front heard : Outcomes) (m : PageMemo) → Stands lines links s → IsFront s.heard front →
    Grows front heard → Makes (lines_memo s.lines) s.links None front heard m → HaveRows heard → AreMade lines links heard m
made_anew lines links s front heard m st f grows made good =
    are_made lines s.lines links [] heard m st.template st.block refl
    (remade s.lines links None s.heard [] front heard s.memo m (made_before lines links s st) (same_up_to (names s.memo) s.heard front st.names f) grows
    (subst (λ z. Makes (lines_memo s.lines) z None front heard m) st.linked made)) good

-- what became of what is kept tells what has to be compared
compared_there : (lines : List Line) (links : List ℕ) (s : Standing) (heard : Outcomes) (m : PageMemo) (c : Change) → Stands lines links s →
    AreMade lines links heard m → Tells s.lines s.links None s.heard m c →
    Compared (page_in s) (lines_shape s.lines m) (touched_in (known_of (page_in s)) s.lines m c) (restated_in (known_of (page_in s)) s.lines m c)
compared_there lines links s heard m c st made told =
    let known : ℕ → Option ℕ = known_of (page_in s) in
    let told_block : Tells (block_of lines) links None s.heard m c =
    subst (λ z. Tells (block_of lines) z None s.heard m c) st.linked (subst (λ z. Tells z s.links None s.heard m c) st.block told) in
    subst (λ z. Compared (page_in s) (lines_shape z m) (touched_in known z m c) (restated_in known z m c)) (sym st.block)
    (compare_law lines links s.heard (outcome_in s.heard) (outcome_in heard) s.memo m (page_in s) s.tree c st.template (heard_agrees s.heard) st.keeps made.rows made.memo
    told_block)

-- the page can be compared with what is kept next
pub compares_there : (lines : List Line) (links : List ℕ) (s : Standing) (heard : Outcomes) (m : PageMemo) (c : Change) → Stands lines links s →
    AreMade lines links heard m → Tells s.lines s.links None s.heard m c → Compares (page_in s) s.lines m c s.number s.tree s.next
compares_there lines links s heard m c st made told =
    let f = follows lines links s heard m st made in
    record {
      page = st.keeps.page;
      sound = st.sound;
      formed = f.formed;
      origin = f.origin;
      known = st.known;
      stands = st.keeps.stands;
      count = refl;
      compared = compared_there lines links s heard m c st made told;
    }
