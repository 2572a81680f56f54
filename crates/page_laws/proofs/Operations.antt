-- Operations of pages that are made from templates lead from each to the next, and what is told of one page is told of no other.
use Rattle.std.proofs.Common.{◌≡◌, ℕ, Bool, true, false, cond, List, [], ◌∷◌, ◌++◌, map, append-nil, refl, sym, ap, subst, ◌∙◌}
use Rattle.std.specs.List.{AllByRecursion, filter}
use Rattle.std.specs.Str.{bytes_eq}
use Rattle.std.proofs.lemmas.List.Concat.{flat_map-append}
use Rattle.signal_laws.proofs.Shared.{all_append, all_snoc}
use Rattle.effect_model.specs.Owners.{Thing, the_signal, the_owner, the_effect, the_page, the_watcher}
use Rattle.effect_model.specs.Worlds.{Event, ran, changed_signal, notified, frozen, logged, body_ran, failed, cleaned, gone, dropped_host, refused, made_child, noted}
use Rattle.page_model.specs.Forest.{Forest}
use Rattle.page_model.specs.Labels.{Kind, Look}
use Rattle.page_model.specs.Pages.{NumberedPage, bare, edits_between, renumbered, tree_of}
use Rattle.page_model.specs.Replay.{Op}
use Rattle.page_model.specs.Texts.{AreWritable, IsSized, op_text}
use Rattle.page_model.proofs.Shared.{edits_writable, same_name}
use Rattle.page_ops.specs.Ops.{HasText}
use Rattle.tpl_model.specs.Laws.{GivesRows, IsMade, IsTemplate}
use Rattle.tpl_model.specs.Lines.{Line}
use Rattle.tpl_model.specs.Shapes.{Evaluating, shape_of}
use Rattle.tpl_model.proofs.Shared.{is_page, replays, shape_law}
use Rattle.live_entries.specs.declared.entry.Entry.{Entry}
use Rattle.live_entries.specs.declared.entry.Entry.TheVariants as entry
use Rattle.live_entries.specs.Printed.{IsSizedEntry}
use Rattle.live_model.specs.Labels.{Labels, relabelled}
use Rattle.live_model.specs.Machine.{cleanup_entries, entries_of, event_entries, news_of, ops_told}
use Rattle.live_model.specs.Pages.{Page, page_html}
use Rattle.page_laws.specs.LivePages.{Lead, Spell, op_here, ops_of, tree_named}

-- a text is that of one operation
abbrev pub OneReading : Type 0
OneReading = (o p : Op) → HasText o → HasText p → op_text o ≡ op_text p → o ≡ p

-- ---- operations and their texts

all_spelt : (ops : List Op) → AreWritable ops → AllByRecursion IsSized ops → Spell (map op_text ops) ops
all_spelt [] w s = tt
all_spelt (o ∷ ops) w s = ((w.0, s.0), refl, all_spelt ops w.1 s.1)

only_these : (one : OneReading) (ops : List Op) → AreWritable ops → AllByRecursion IsSized ops → (others : List Op) → Spell (map op_text ops) others →
    others ≡ ops
only_these one [] w s [] h = refl
only_these one [] w s (p ∷ others) h = absurd h
only_these one (o ∷ ops) w s [] h = absurd h
only_these one (o ∷ ops) w s (p ∷ others) h =
    let same : p ≡ o = one p o h.0 (w.0, s.0) h.1 in
    ap (λ (q : Op). q ∷ others) same ∙ ap (λ (qs : List Op). o ∷ qs) (only_these one ops w.1 s.1 others h.2)

none_spelt : (others : List Op) → Spell [] others → others ≡ []
none_spelt [] h = refl
none_spelt (p ∷ others) h = absurd h

-- no operations lead from a tree to itself
none_led : (t : Forest Kind) → Lead [] t t
none_led t = record { replayed = refl; spelt = tt; alone = none_spelt }

pub still_led : (ops : List Op) (before after : Forest Kind) → ops ≡ [] → before ≡ after → Lead ops before after
still_led ops before after e f = subst (λ (os : List Op). Lead os before after) (sym e) (subst (λ (t : Forest Kind). Lead [] before t) f (none_led before))

-- the edits of a page to the next shape of its template
pub page_led : (one : OneReading) (lines : List Line) (old : NumberedPage) (evaluate : Evaluating) → IsTemplate lines → IsMade lines old →
    GivesRows evaluate → AllByRecursion IsSized (edits_between old (renumbered old (shape_of evaluate lines))) →
    Lead (edits_between old (renumbered old (shape_of evaluate lines))) (tree_of old) (tree_of (renumbered old (shape_of evaluate lines)))
page_led one lines old evaluate f made gives sized =
    let shape : Forest Look = shape_of evaluate lines in
    let ops : List Op = edits_between old (renumbered old shape) in
    let w : AreWritable ops = edits_writable old shape (is_page lines old f made) (shape_law lines evaluate f gives) in
    record {
      replayed = replays lines old evaluate f made gives;
      spelt = all_spelt ops w sized;
      alone = only_these one ops w sized;
    }

-- ---- what entries tell of pages

pub ops_both : (n : List ℕ) (xs ys : List Entry) → ops_of n (xs ++ ys) ≡ ops_of n xs ++ ops_of n ys
ops_both n xs ys = flat_map-append (op_here n) xs ys

-- entries that tell no operation of any page
abbrev pub AreQuiet : List Entry → Type 0
AreQuiet es = (n : List ℕ) → ops_of n es ≡ []

pub quiet_both : (xs ys : List Entry) → AreQuiet xs → AreQuiet ys → AreQuiet (xs ++ ys)
quiet_both xs ys g h n = ops_both n xs ys ∙ (ap (λ (os : List Op). os ++ ops_of n ys) (g n) ∙ h n)

cleanup_quiet : (labels : Labels) (t : Thing) → AreQuiet (cleanup_entries labels t)
cleanup_quiet labels (the_signal i) n = refl
cleanup_quiet labels (the_owner i) n = refl
cleanup_quiet labels (the_effect i) n = refl
cleanup_quiet labels (the_page i) n = refl
cleanup_quiet labels (the_watcher i) n = refl

event_quiet : (labels : Labels) (e : Event) → AreQuiet (event_entries labels e)
event_quiet labels (ran m) n = refl
event_quiet labels (notified w) n = refl
event_quiet labels (frozen ws) n = refl
event_quiet labels (logged v) n = refl
event_quiet labels (body_ran e ns) n = refl
event_quiet labels (failed e f) n = refl
event_quiet labels (cleaned t c) n = cleanup_quiet labels t n
event_quiet labels (gone t) n = refl
event_quiet labels (changed_signal m how) n = refl
event_quiet labels (dropped_host place asks) n = refl
event_quiet labels (refused why) n = refl
event_quiet labels (made_child c p k) n = refl
event_quiet labels (noted t c) n = refl

-- so are those of what happens
pub events_quiet : (labels : Labels) (es : List Event) → AreQuiet (entries_of labels es)
events_quiet labels [] n = refl
events_quiet labels (e ∷ es) n =
    quiet_both (event_entries labels e) (entries_of (relabelled e labels) es) (event_quiet labels e) (events_quiet (relabelled e labels) es) n

either_way : (b : Bool) (ops : List Op) → ops ≡ cond b ops ops
either_way true ops = refl
either_way false ops = refl

sized_here : (n : List ℕ) (e : Entry) → IsSizedEntry e → AllByRecursion IsSized (op_here n e)
sized_here n (entry.Op m o) h = go (bytes_eq n m)
  where
    go : (b : Bool) → AllByRecursion IsSized (cond b (o ∷ []) [])
    go true = (h, tt)
    go false = tt
sized_here n _ h = tt

-- what is told of a page can be printed and read
pub sized_ops : (n : List ℕ) (es : List Entry) → AllByRecursion IsSizedEntry es → AllByRecursion IsSized (ops_of n es)
sized_ops n [] h = tt
sized_ops n (e ∷ es) h = all_append IsSized (op_here n e) (ops_of n es) (sized_here n e h.0) (sized_ops n es h.1)

-- operations that are told of one page are its own, and none of another
told_here : (n m : List ℕ) (ops : List Op) → ops_of n (ops_told m ops) ≡ cond (bytes_eq n m) ops []
told_here n m [] = either_way (bytes_eq n m) []
told_here n m (o ∷ ops) = ap (λ (os : List Op). cond (bytes_eq n m) (o ∷ []) [] ++ os) (told_here n m ops) ∙ go (bytes_eq n m)
  where
    go : (b : Bool) → cond b (o ∷ []) [] ++ cond b ops [] ≡ cond b (o ∷ ops) []
    go true = refl
    go false = refl

-- with the page behind them
pub page_told : (n m : List ℕ) (ops : List Op) (html : List ℕ) → ops_of n (ops_told m ops ++ entry.Page m html ∷ []) ≡ cond (bytes_eq n m) ops []
page_told n m ops html = ops_both n (ops_told m ops) (entry.Page m html ∷ []) ∙ (append-nil (ops_of n (ops_told m ops)) ∙ told_here n m ops)

pub news_told : (n : List ℕ) (p : Page) (ops : List Op) → ops_of n (news_of p ops) ≡ cond (bytes_eq n p.name) ops []
news_told n p [] = either_way (bytes_eq n p.name) []
news_told n p (o ∷ ops) = page_told n p.name (o ∷ ops) (page_html p)

-- ---- names of pages

-- neither name is the other
abbrev pub Differ : List ℕ → List ℕ → Type 0
Differ m n = (bytes_eq m n ≡ false) × (bytes_eq n m ≡ false)

-- pages under names of their own
abbrev pub AreApart : List Page → Type 0
AreApart [] = Unit {0}
AreApart (p ∷ ps) = AllByRecursion (λ (q : Page). Differ p.name q.name) ps × AreApart ps

-- what holds of each for two causes
pub all_by_two : {A : Type 0} (P Q R : A → Type 0) → ((x : A) → P x → Q x → R x) → (xs : List A) → AllByRecursion P xs → AllByRecursion Q xs →
    AllByRecursion R xs
all_by_two P Q R f [] p q = tt
all_by_two P Q R f (x ∷ xs) p q = (f x p.0 q.0, all_by_two P Q R f xs p.1 q.1)

-- each page's tree is that of its name
pub named_trees : (ps : List Page) → AreApart ps → AllByRecursion (λ (p : Page). tree_named ps p.name ≡ tree_of p.content) ps
named_trees [] h = tt
named_trees (p ∷ ps) h = (
  ap (λ b. cond b (tree_of p.content) (tree_named ps p.name)) (same_name p.name),
  all_by_two (λ (q : Page). Differ p.name q.name) (λ (q : Page). tree_named ps q.name ≡ tree_of q.content)
      (λ (q : Page). tree_named (p ∷ ps) q.name ≡ tree_of q.content)
      (λ q d e. ap (λ b. cond b (tree_of p.content) (tree_named ps q.name)) d.1 ∙ e) ps h.0 (named_trees ps h.1),
)

-- under a name that no page has stands the bare page
pub unnamed_tree : (n : List ℕ) (ps : List Page) → AllByRecursion (λ (q : Page). Differ q.name n) ps → tree_named ps n ≡ tree_of bare
unnamed_tree n [] h = refl
unnamed_tree n (p ∷ ps) h = ap (λ b. cond b (tree_of p.content) (tree_named ps n)) h.0.1 ∙ unnamed_tree n ps h.1

-- what holds of all holds of those that pass
pub all_filtered : {A : Type 0} (P : A → Type 0) (f : A → Bool) (xs : List A) → AllByRecursion P xs → AllByRecursion P (filter f xs)
all_filtered P f [] h = tt
all_filtered P f (x ∷ xs) h = go (f x) (all_filtered P f xs h.1)
  where
    go : (b : Bool) → AllByRecursion P (filter f xs) → AllByRecursion P (cond b (x ∷ filter f xs) (filter f xs))
    go true rest = (h.0, rest)
    go false rest = rest

pub apart_filtered : (f : Page → Bool) (ps : List Page) → AreApart ps → AreApart (filter f ps)
apart_filtered f [] h = tt
apart_filtered f (p ∷ ps) h = go (f p) (apart_filtered f ps h.1)
  where
    go : (b : Bool) → AreApart (filter f ps) → AreApart (cond b (p ∷ filter f ps) (filter f ps))
    go true rest = (all_filtered (λ (q : Page). Differ p.name q.name) f ps h.0, rest)
    go false rest = rest

pub apart_behind : (ps : List Page) (p : Page) → AreApart ps → AllByRecursion (λ (q : Page). Differ q.name p.name) ps → AreApart (ps ++ p ∷ [])
apart_behind [] p h d = (tt, tt)
apart_behind (q ∷ ps) p h d = (all_snoc (λ (r : Page). Differ q.name r.name) ps p h.0 d.0, apart_behind ps p h.1 d.1)
