-- A page that is made on what was heard is that of the signals, and what it settled are the names that its template reads.
use Rattle.std.proofs.Common.{◌≡◌, ℕ, ◌+◌, ◌≤◌, ◌==◌, ◌||◌, Bool, true, false, cond, List, [], ◌∷◌, ◌++◌, nat_eq, append_assoc, append-nil, Some, None, refl, sym, ap, subst, ◌∙◌}
use Rattle.std.specs.Prelude.{unwrap_or}
use Rattle.std.proofs.lemmas.Bool.{eqb-true, false≢true}
use Rattle.std.specs.Map.{keys_of}
use Rattle.sig_base.specs.declared.value.Outcome.{Outcome}
use Rattle.sig_base.specs.declared.value.Outcome.TheVariants.{Bad}
use Rattle.sig_base.specs.declared.value.Fault.TheVariants.{Gone}
use Rattle.signal_model.specs.Recipes.{Hosts}
use Rattle.signal_model.specs.Signals.{Signals, is_in}
use Rattle.signal_model.specs.Values.{value_of}
use Rattle.signal_model.specs.Kept.{AreKept}
use Rattle.signal_model.specs.Memos.{Memos}
use Rattle.signal_laws.specs.ReadLaws.{firsts_after}
use Rattle.signal_laws.proofs.Shared.{firsts_hold_law, in_append}
use Rattle.sig_computed.specs.Asked.{IsAsking}
use Rattle.sig_computed.specs.Costs.{step_bound}
use Rattle.sig_computed.specs.Notes.{IsSettling}
use Rattle.tpl_model.specs.Lines.{Block, Line, block_of}
use Rattle.tpl_model.specs.Sources.{evaluating, firsts, template_asked, template_shape}
use Rattle.tpl_model.specs.PageUpdates.PageMemos.{PageMemo, names}
use Rattle.tpl_model.specs.PageUpdates.Updates.{memo_on, memo_shape, reads_on, shape_on}
use Rattle.tpl_model.proofs.Shared.{shape_shown, source_law, shows}
use Rattle.tpl_hearing.specs.Heard.{AreFromScratch, Hears, Outcomes, Scene, Settles, heard_of}
use Rattle.tpl_hearing.proofs.Shared.{heard_scratch}
use Rattle.tpl_model.specs.KeptLines.Memos.{Agrees, Makes, lines_memo}
use Rattle.tpl_live.specs.Pages.{outcome_in}

-- ---- names in order

-- names one after the other, each at its first place
pub firsts_are : (before ns xs : List ℕ) → ((j : ℕ) → is_in j before ≡ is_in j ns) → firsts_after ns xs ≡ ns ++ firsts before xs
firsts_are before ns [] same = sym (append-nil ns)
firsts_are before ns (x ∷ xs) same =
    go (is_in x ns) refl (firsts_are before ns xs same)
    (firsts_are (x ∷ before) (ns ++ x ∷ []) xs (λ j. ap (λ z. (j == x) || z) (same j) ∙ (turned (j == x) (is_in j ns) ∙ sym (in_append j ns (x ∷ [])))))
  where
    turned : (a b : Bool) → (a || b) ≡ (b || (a || false))
    turned true true = refl
    turned true false = refl
    turned false true = refl
    turned false false = refl

    go : (b : Bool) → is_in x ns ≡ b → firsts_after ns xs ≡ ns ++ firsts before xs →
        firsts_after (ns ++ x ∷ []) xs ≡ (ns ++ x ∷ []) ++ firsts (x ∷ before) xs →
        firsts_after (cond b ns (ns ++ x ∷ [])) xs ≡ ns ++ cond (is_in x before) (firsts before xs) (x ∷ firsts (x ∷ before) xs)
    go true e stays joins = rw (same x ∙ e) stays
    go false e stays joins = rw (same x ∙ e) (joins ∙ append_assoc ns (x ∷ []) (firsts (x ∷ before) xs))

-- the names that were heard are those that were read, each once
pub names_heard : (ns : List ℕ) (xs : List ℕ) → ns ≡ firsts_after [] xs → ns ≡ firsts [] xs
names_heard ns xs e = e ∙ firsts_are [] [] xs (λ j. refl)

-- and the other way
pub names_read : (ns : List ℕ) (xs : List ℕ) → ns ≡ firsts [] xs → ns ≡ firsts_after [] xs
names_read ns xs e = e ∙ sym (firsts_are [] [] xs (λ j. refl))

-- ---- what was heard

-- the outcomes that were heard agree with what was heard
pub heard_agrees : (heard : Outcomes) → Agrees heard (outcome_in heard)
heard_agrees heard = record { each = λ n o h. ap (λ z. unwrap_or z (Bad Gone)) h }

-- a name that was heard has the outcome from scratch
pub heard_is : (hosts : Hosts) (w : Signals) (heard : Outcomes) (n : ℕ) → AreFromScratch hosts w heard → is_in n (keys_of heard) ≡ true →
    outcome_in heard n ≡ value_of hosts w n []
heard_is hosts w [] n all h = absurd (false≢true h)
heard_is hosts w (p ∷ ps) n all h = go (nat_eq n p.0) refl h (heard_is hosts w ps n all.1)
  where
    go : (b : Bool) → nat_eq n p.0 ≡ b → (b || is_in n (keys_of ps)) ≡ true → (is_in n (keys_of ps) ≡ true → outcome_in ps n ≡ value_of hosts w n []) →
        unwrap_or (cond b (Some p.1) (heard_of ps n)) (Bad Gone) ≡ value_of hosts w n []
    go true e i later = all.0 ∙ ap (λ m. value_of hosts w m []) (sym (eqb-true n p.0 e))
    go false e i later = later i

-- ---- what is made

-- what is kept of lines that were made on what was heard
pub made_on : (lines : List Line) (b : Block) (links : List ℕ) (heard : Outcomes) (m : PageMemo) → b ≡ block_of lines →
    Makes (lines_memo b) links None [] heard m → m ≡ memo_on lines links (outcome_in heard)
made_on lines b links heard m e made =
    (subst (λ z. Makes (lines_memo z) links None [] heard m) e made).is (outcome_in heard) (heard_agrees heard) None refl

-- it shows the template's shape on the signals, and its names are those that the template reads
pub record IsRight (hosts : Hosts) (w : Signals) (lines : List Line) (links : List ℕ) (heard : Outcomes) : Type 0 where
  pub shape : shape_on lines links (outcome_in heard) ≡ template_shape hosts w lines links
  pub asked : keys_of heard ≡ template_asked hosts w lines links

pub made_right : (hosts : Hosts) (w : Signals) (lines : List Line) (links : List ℕ) (heard : Outcomes) (m : PageMemo) → m ≡ memo_on lines links (outcome_in heard) →
    keys_of heard ≡ firsts_after [] (names m) → AreFromScratch hosts w heard → IsRight hosts w lines links heard
made_right hosts w lines links heard m is order all =
    let source = outcome_in heard in
    let other : ℕ → Outcome = λ n. value_of hosts w n [] in
    let same : memo_on lines links source ≡ memo_on lines links other =
    source_law lines links source other
    (λ n i. heard_is hosts w heard n all
    (ap (is_in n) order ∙ (firsts_hold_law n [] (names m) ∙ (ap (λ z. is_in n (names z)) is ∙ i)))) in
    let reads : names (memo_on lines links other) ≡ reads_on lines links other = (shows (evaluating links other) (block_of lines) false None).reads in
    record {
      shape = sym (shape_shown lines links source) ∙ (ap (memo_shape lines) same ∙ shape_shown lines links other);
      asked = names_heard (keys_of heard) (names m) order ∙ ap (firsts []) (ap names (is ∙ same) ∙ reads);
    }

-- ---- what is settled

-- names were settled, which are those that the template reads
pub settled_as : (x y : Scene) (before after : Hosts → Type 0) (lines : List Line) (links : List ℕ) (first heard : Outcomes) → first ≡ [] →
    Hears x y before after first heard → ((hosts : Hosts) → before hosts → AreKept hosts x.graph.state.signals x.graph.state.memos →
    keys_of heard ≡ template_asked hosts x.graph.state.signals lines links) →
    Settles x y before after (λ hosts. template_asked hosts x.graph.state.signals lines links)
settled_as x y before after lines links first heard none h asked =
    let s = h.settles in
    let w : Signals = x.graph.state.signals in
    let k : Memos = x.graph.state.memos in
    let right : (hosts : Hosts) → before hosts → AreKept hosts w k → keys_of h.grows.more ≡ template_asked hosts w lines links =
    λ hosts all kept. ap keys_of (sym (h.grows.all ∙ ap (λ f. f ++ h.grows.more) none)) ∙ asked hosts all kept in
    record {
      settled = λ hosts all kept. subst (λ ns. IsSettling hosts w k ns x.notes y.notes y.graph.state.memos) (right hosts all kept) (s.settled hosts all kept);
      kept = s.kept;
      asked = λ hosts all kept. subst (λ ns. IsAsking hosts w k ns x.asked y.asked) (right hosts all kept) (s.asked hosts all kept);
      steps = λ hosts all kept.
          subst (λ ns. y.graph.state.looked ≤ x.graph.state.looked + step_bound hosts w k ns) (right hosts all kept) (s.steps hosts all kept);
      answers = s.answers;
      there = s.there;
      most = s.most;
      signals = s.signals;
      idle = s.idle;
      seats = s.seats;
      given = s.given;
      named = s.named;
      worn = s.worn;
    }

-- so it is where lines were made on what was heard
pub settled_right : (x y : Scene) (before after : Hosts → Type 0) (lines : List Line) (links : List ℕ) (first heard : Outcomes) (m : PageMemo) → first ≡ [] →
    Hears x y before after first heard → m ≡ memo_on lines links (outcome_in heard) → keys_of heard ≡ firsts_after [] (names m) →
    Settles x y before after (λ hosts. template_asked hosts x.graph.state.signals lines links)
settled_right x y before after lines links first heard m none h is order =
    let w : Signals = x.graph.state.signals in
    settled_as x y before after lines links first heard none h
    (λ hosts all kept.
    (made_right hosts w lines links heard m is order
    (heard_scratch x y before after first heard hosts h all kept (subst (AreFromScratch hosts w) (sym none) tt))).asked)
