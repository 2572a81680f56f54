-- A page is mounted from the bare one.
use Rattle.std.proofs.Common.{◌≡◌, ◌==◌, eq-eqb, inl, inr, ℕ, Bool, true, false, refl, sym, ap, ◌∙◌, List, [], ◌∷◌, None}
use Rattle.std.proofs.lemmas.Bool.{cases_Bool, true≢false}
use Rattle.page_model.specs.Forest.{none}
use Rattle.page_model.specs.Labels.{Root}
use Rattle.page_model.specs.Pages.{bare, page_shape, tree_of}
use Rattle.page_model.specs.Replay.{replay}
use Rattle.tpl_model.specs.Laws.{begun}
use Rattle.tpl_model.specs.Lines.{block_of}
use Rattle.tpl_model.specs.Sources.{evaluating}
use Rattle.tpl_model.specs.PageUpdates.Differences.{Finds, nothing}
use Rattle.signal_model.specs.Signals.{is_in}
use Rattle.tpl_model.specs.PageUpdates.PageMemos.{all_same, hearing, names}
use Rattle.tpl_model.specs.PageUpdates.Updates.{shape_on, memo_on, mount_found, MountLaw, SourceLaw, Tells}
use Rattle.tpl_model.proofs.PageUpdates.Evaluations.{steady}
use Rattle.tpl_model.proofs.PageUpdates.Updates.{memo_agree}
use Rattle.tpl_model.proofs.PageUpdates.Memos.{shape_shown, shows}
use Rattle.tpl_model.proofs.PageUpdates.Summary.{found_edits_law, found_order_law}
use Rattle.tpl_model.proofs.PageUpdates.Walk.{finds_node, finds_none}
use Rattle.page_model.proofs.Shared.{page_after, shape_after}
use Rattle.tpl_model.proofs.Made.{is_page, origin, replays}
use Rattle.tpl_model.proofs.Shaped.{shape_law}

pub mount_law : MountLaw
mount_law lines links now t g =
    let eval = evaluating links now in
    let shape = shape_on lines links now in
    let p = is_page lines bare t begun in
    let s = shape_law lines eval t g in
    let f : Finds (page_shape bare) shape (page_shape bare) mount_found = finds_node (page_shape bare) shape 0 Root none nothing true false refl (λ h. absurd (true≢false h)) (λ h. refl) (finds_none (page_shape bare) shape) in
    let e = found_edits_law bare shape mount_found p s f in
    record {
      keeps = record { memo = refl; shape = shape_after bare shape ∙ sym (shape_shown lines links now); page = page_after bare shape p s; stands = refl };
      reads = (shows eval (block_of lines) false None).reads;
      gives = record { edits = e; order = found_order_law bare shape mount_found p s (origin lines bare eval t begun) f };
      leads = ap (λ z. replay z (tree_of bare)) (sym e) ∙ replays lines bare eval t begun g;
    }

-- ---- what is kept rests on what was read

in_more : (n m : ℕ) (xs ns : List ℕ) → is_in n ns ≡ true → is_in n (m ∷ ns) ≡ true
in_more n m xs ns h = elim (cases_Bool (n == m)) [ inl e ↦ rw e refl | inr e ↦ rw e h ]

all_in : (xs ns : List ℕ) → ((n : ℕ) → is_in n ns ≡ true → is_in n xs ≡ true) → all_same (λ n. is_in n xs) ns ≡ true
all_in xs [] h = refl
all_in xs (m ∷ ns) h = (let e : is_in m xs ≡ true = h m (let i = eq-eqb m m refl in rw i refl) in rw e (all_in xs ns (λ n i. h n (in_more n m xs ns i))))

pub source_law : SourceLaw
source_law lines links source other h =
    let ns = names (memo_on lines links source) in
    let same : ℕ → Bool = λ n. is_in n ns in
    let t : Tells same source other = h in
    memo_agree same (hearing (evaluating links source)) (hearing (evaluating links other)) (steady same source other links t) (block_of lines) false None (all_in ns ns (λ n i. i))
