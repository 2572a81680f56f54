-- The outcomes of a template's names are heard as they are needed, until it can be shown from scratch.
use Rattle.std.proofs.Common.{◌≡◌, ◌<◌, ℕ, zero, suc, true, false, List, [], ◌∷◌, get_or, ◌⊎◌, inl, inr, length, refl, sym, ap, subst, ◌∙◌, arith, Option, Some, None}
use Rattle.std.specs.Prelude.{replicate, slice_get, slice_index, slice_set, unwrap_or}
use Rattle.std.specs.Map.{keys_of}
use Rattle.std.proofs.lemmas.Bool.{false≢true}
use Rattle.std.proofs.lemmas.Grind.{get_or_default_zero}
use Rattle.std.proofs.lemmas.List.{length-replicate, length-set}
use Rattle.sig_base.specs.declared.value.Outcome.{Outcome}
use Rattle.sig_base.specs.declared.value.Outcome.TheVariants.{Bad}
use Rattle.sig_base.specs.declared.value.Fault.TheVariants.{Gone}
use Rattle.signal_model.specs.Recipes.{Hosts}
use Rattle.signal_model.specs.Kept.{AreKept}
use Rattle.signal_model.specs.Signals.{Signals, is_in}
use Rattle.signal_model.specs.Values.{value_of}
use Rattle.signal_laws.specs.ReadLaws.{firsts_after, with_name}
use Rattle.sig_computed.specs.Notes.{IsIdle}
use Rattle.sig_host.specs.Loans.{IsGoodOutcome}
use Rattle.page_model.specs.Forest.{Forest, node, none}
use Rattle.page_model.specs.Labels.{Kind, Root}
use Rattle.page_model.specs.Pages.{bare, renumbered, tree_of}
use Rattle.tpl_model.specs.Laws.{GivesRows, IsTemplate}
use Rattle.tpl_model.specs.Lines.{Line}
use Rattle.tpl_model.specs.Sources.{counted, is_there, known_page, needed, on_known, or_gone, template_asked}
use Rattle.tpl_model.specs.Shapes.{shown_lines}
use Rattle.tpl_model.specs.Updates.{updated}
use Rattle.tpl_model.proofs.Shared.{rows_law, scratch_law, inside_law, last_law, missing_is, next_law}
use Rattle.tpl_model.specs.PageUpdates.Updates.{reads_on}
use Rattle.tpl_model.specs.Needs.Outcomes.{AreKnown}
use Rattle.tpl_hearing.specs.Heard.{AreFromScratch, HaveRows, Hears, Outcomes, Scene, Settles, heard_of}
use Rattle.tpl_hearing.proofs.Shared.{heard_in, heard_scratch, nothing_heard, still_heard, then_heard}
use Rattle.tpl_live.specs.Pages.{AreInserted}
use Rattle.tpl_live.proofs.Mounts.{all_good, can_show}
use Rattle.tpl_live.proofs.Sourced.{heard_is, names_heard, settled_as}

-- ---- what was heard is known

-- each outcome that is known was heard of the name of its place
abbrev pub WereLearnt : List ℕ → List (Option Outcome) → Outcomes → Type 0
WereLearnt links known heard = (n : ℕ) (o : Outcome) → slice_get known n ≡ Some (Some o) → heard_of heard (slice_index links n) ≡ Some o

-- so its name is among those that were heard
learnt_in : (links : List ℕ) (known : List (Option Outcome)) (heard : Outcomes) → WereLearnt links known heard → (n : ℕ) →
    is_there (slice_get known n) ≡ true → is_in (slice_index links n) (keys_of heard) ≡ true
learnt_in links known heard l n h = go (slice_get known n) refl h
  where
    go : (x : Option (Option Outcome)) → slice_get known n ≡ x → is_there x ≡ true → is_in (slice_index links n) (keys_of heard) ≡ true
    go (Some (Some o)) e i = heard_in heard (slice_index links n) o (l n o e)
    go (Some None) e i = absurd (false≢true i)
    go None e i = absurd (false≢true i)

-- the outcomes of signals
abbrev values_in : Hosts → Signals → ℕ → Outcome
values_in hosts w n = value_of hosts w n []

-- what is known are the outcomes of the signals that were heard
known_are : (hosts : Hosts) (w : Signals) (links : List ℕ) (known : List (Option Outcome)) (heard : Outcomes) → length known ≡ length links →
    WereLearnt links known heard → AreFromScratch hosts w heard → AreKnown links (values_in hosts w) known (keys_of heard)
known_are hosts w links known heard count l all = record {
  count = count;
  outcomes = λ n o e.
      let is = l n o e in
      sym (ap (λ z. unwrap_or z (Bad Gone)) is)
      ∙ heard_is hosts w heard (slice_index links n) all (heard_in heard (slice_index links n) o is);
  asked = learnt_in links known heard l;
}

-- ---- one name after the other

-- Names of a template were heard as they were needed, and are known at their places. All that were heard and then all that the template reads on
-- the signals are, in order, what it reads.
pub record IsLearning (x y : Scene) (before after : Hosts → Type 0) (lines : List Line) (links : List ℕ) (known : List (Option Outcome)) (heard : Outcomes) : Type 0 where
  pub count : length known ≡ length links
  pub learnt : WereLearnt links known heard
  pub hears : Hears x y before after [] heard
  pub order : (hosts : Hosts) → before hosts → AreKept hosts x.graph.state.signals x.graph.state.memos →
      firsts_after (keys_of heard) (reads_on lines links (values_in hosts x.graph.state.signals))
      ≡ firsts_after [] (reads_on lines links (values_in hosts x.graph.state.signals))

-- what is known are the outcomes of signals
learning_known : (x y : Scene) (before after : Hosts → Type 0) (lines : List Line) (links : List ℕ) (known : List (Option Outcome)) (heard : Outcomes) →
    IsLearning x y before after lines links known heard → (hosts : Hosts) → before hosts → AreKept hosts x.graph.state.signals x.graph.state.memos →
    AreKnown links (values_in hosts x.graph.state.signals) known (keys_of heard)
learning_known x y before after lines links known heard l hosts all kept =
    known_are hosts x.graph.state.signals links known heard l.count l.learnt (heard_scratch x y before after [] heard hosts l.hears all kept tt)

none_there : (count n : ℕ) (o : Outcome) → slice_get (replicate count None) n ≡ Some (Some o) → ⊥
none_there zero n o h = cc
none_there (suc count) zero o h = cc
none_there (suc count) (suc n) o h = none_there count n o h

pub nothing_learnt : (x : Scene) (before : Hosts → Type 0) (lines : List Line) (links : List ℕ) (known : List (Option Outcome)) (heard : Outcomes) (count : ℕ) →
    count ≡ length links → known ≡ replicate count None → heard ≡ [] → IsIdle x.graph.state → IsLearning x x before before lines links known heard
nothing_learnt x before lines links known heard count same unknown fresh idle = record {
  count = ap length unknown ∙ length-replicate count None ∙ same;
  learnt = λ n o h. absurd (none_there count n o (ap (λ ks. slice_get ks n) (sym unknown) ∙ h));
  hears = subst (Hears x x before before []) (sym fresh) (nothing_heard x before [] idle);
  order = λ hosts all kept. ap (λ (h : Outcomes). firsts_after (keys_of h) (reads_on lines links (values_in hosts x.graph.state.signals))) fresh;
}

-- one more is put at its place
put_known : (known : List (Option Outcome)) (i n : ℕ) (o p : Outcome) → slice_get (slice_set known i (Some o)) n ≡ Some (Some p) →
    ((n ≡ i) × (o ≡ p)) ⊎ (slice_get known n ≡ Some (Some p))
put_known [] i n o p h = inr h
put_known (k ∷ ks) zero zero o p h = inl (refl, ap or_gone h)
put_known (k ∷ ks) zero (suc n) o p h = inr h
put_known (k ∷ ks) (suc i) zero o p h = inr h
put_known (k ∷ ks) (suc i) (suc n) o p h = elim (put_known ks i n o p h) [ inl e ↦ inl (ap suc e.0, e.1) | inr e ↦ inr e ]

-- the name of a place
pub at_place : (links : List ℕ) (i id : ℕ) → i < length links → id ≡ get_or links i id → id ≡ slice_index links i
at_place links i id lt e = e ∙ get_or_default_zero links i id lt

-- the name that is needed was heard
pub learnt_more : (x y z : Scene) (before mid after : Hosts → Type 0) (lines : List Line) (links : List ℕ) (known now : List (Option Outcome))
    (heard later : Outcomes) (i : ℕ) (o : Outcome) → IsLearning x y before mid lines links known heard → needed known lines ≡ Some i →
    Hears y z mid after heard later → keys_of later ≡ with_name (keys_of heard) (slice_index links i) → heard_of later (slice_index links i) ≡ Some o →
    now ≡ slice_set known i (Some o) → IsLearning x z before after lines links now later
learnt_more x y z before mid after lines links known now heard later i o l need h names is put = record {
  count = ap length put ∙ length-set known i (Some o) ∙ l.count;
  learnt = λ n p at. elim (put_known known i n o p (ap (λ ks. slice_get ks n) (sym put) ∙ at)) [
    | inl e ↦ ap (λ m. heard_of later (slice_index links m)) e.0 ∙ (is ∙ ap Some e.1)
    | inr e ↦ ap (λ (q : Outcomes). heard_of q (slice_index links n)) h.grows.all
        ∙ still_heard heard h.grows.more (slice_index links n) p (l.learnt n p e)
  ];
  hears = then_heard x y z before mid after [] heard later l.hears h;
  order = λ hosts all kept.
      let source = values_in hosts x.graph.state.signals in
      ap (λ ns. firsts_after ns (reads_on lines links source)) names
      ∙ (next_law lines links source known (keys_of heard) i (learning_known x y before mid lines links known heard l hosts all kept) need
      ∙ l.order hosts all kept);
}

-- ---- there are fewer that aren't known

-- how many aren't
abbrev pub unknown_names : List (Option Outcome) → ℕ
unknown_names [] = 0
unknown_names (None ∷ ks) = suc (unknown_names ks)
unknown_names (Some o ∷ ks) = unknown_names ks

one_fewer : (known : List (Option Outcome)) (i : ℕ) (o : Outcome) → i < length known → is_there (slice_get known i) ≡ false →
    unknown_names (slice_set known i (Some o)) < unknown_names known
one_fewer [] i o lt off = absurd (omega (arith, lt))
one_fewer (None ∷ ks) zero o lt off = omega arith
one_fewer (Some p ∷ ks) zero o lt off = absurd (false≢true (sym off))
one_fewer (None ∷ ks) (suc i) o lt off = let r = one_fewer ks i o (omega (arith, lt)) off in omega (arith, r)
one_fewer (Some p ∷ ks) (suc i) o lt off = one_fewer ks i o (omega (arith, lt)) off

pub fewer_unknown : (known now : List (Option Outcome)) (lines : List Line) (i : ℕ) (o : Outcome) → needed known lines ≡ Some i → now ≡ slice_set known i (Some o) →
    unknown_names now < unknown_names known
fewer_unknown known now lines i o need put =
    subst (λ ks. unknown_names ks < unknown_names known) (sym put)
    (one_fewer known i o (inside_law lines known i need) (missing_is known (shown_lines (on_known known) lines).reads i need))

-- ---- all that is needed is known

-- what is known comes to rows that are rows
known_good : (links : List ℕ) (known : List (Option Outcome)) (heard : Outcomes) → WereLearnt links known heard → HaveRows heard → (n : ℕ) →
    IsGoodOutcome (or_gone (slice_get known n))
known_good links known heard l good n = go (slice_get known n) refl
  where
    go : (x : Option (Option Outcome)) → slice_get known n ≡ x → IsGoodOutcome (or_gone x)
    go (Some (Some o)) e =
        subst IsGoodOutcome (ap (λ z. unwrap_or z (Bad Gone)) (l n o e)) (all_good heard good (slice_index links n))
    go (Some None) e = tt
    go None e = tt

known_rows : (links : List ℕ) (known : List (Option Outcome)) (heard : Outcomes) → WereLearnt links known heard → HaveRows heard → GivesRows (on_known known)
known_rows links known heard l good = rows_law (counted (length known) 0) (λ n. or_gone (slice_get known n)) (known_good links known heard l good)

-- so the page can be put together
pub known_inserted : (x y : Scene) (before after : Hosts → Type 0) (lines : List Line) (links : List ℕ) (known : List (Option Outcome)) (heard : Outcomes)
    (below : Forest Kind) → IsLearning x y before after lines links known heard → HaveRows heard → IsTemplate lines → below ≡ known_page known lines →
    AreInserted below
known_inserted x y before after lines links known heard below l good t e =
    subst AreInserted (sym e)
    (can_show lines (counted (length known) 0) (λ n. or_gone (slice_get known n)) t (known_rows links known heard l.learnt good))

-- it is the tree of a page that is mounted
pub known_tree : (x y : Scene) (before after : Hosts → Type 0) (lines : List Line) (links : List ℕ) (known : List (Option Outcome)) (heard : Outcomes)
    (below tree : Forest Kind) → IsLearning x y before after lines links known heard → HaveRows heard → IsTemplate lines → needed known lines ≡ None →
    below ≡ known_page known lines → tree ≡ node 0 Root below none → (hosts : Hosts) → before hosts →
    AreKept hosts x.graph.state.signals x.graph.state.memos → tree ≡ tree_of (updated hosts x.graph.state.signals lines links x.graph.state.memos bare).page
known_tree x y before after lines links known heard below tree l good t none_needed e is hosts all kept =
    let source = values_in hosts x.graph.state.signals in
    let last = last_law lines links source known (keys_of heard) (learning_known x y before after lines links known heard l hosts all kept) none_needed in
    is ∙ (ap (λ (f : Forest Kind). node 0 Root f none) e
    ∙ (sym (scratch_law lines (on_known known) t (known_rows links known heard l.learnt good)) ∙ ap (λ s. tree_of (renumbered bare s)) last.0))

-- and what was settled are the names that the template reads
pub known_settles : (x y : Scene) (before after : Hosts → Type 0) (lines : List Line) (links : List ℕ) (known : List (Option Outcome)) (heard : Outcomes) →
    IsLearning x y before after lines links known heard → needed known lines ≡ None →
    Settles x y before after (λ hosts. template_asked hosts x.graph.state.signals lines links)
known_settles x y before after lines links known heard l none_needed =
    settled_as x y before after lines links [] heard refl l.hears
    (λ hosts all kept.
    let source = values_in hosts x.graph.state.signals in
    let last = last_law lines links source known (keys_of heard) (learning_known x y before after lines links known heard l hosts all kept) none_needed in
    names_heard (keys_of heard) (reads_on lines links source) (sym last.1 ∙ l.order hosts all kept))
