-- An evaluation rests on the outcomes that it read, and on nothing else.
use Rattle.std.proofs.Common.{◌≡◌, ℕ, zero, suc, ◌+◌, ◌<◌, ◌==◌, Bool, true, false, cond, List, [], ◌∷◌, length, take, Option, refl, sym, ap, ◌∙◌}
use Rattle.std.proofs.Common.{subst, arith, inl, inr}
use Rattle.std.specs.Prelude.{slice_index}
use Rattle.std.proofs.lemmas.Bool.{eqb-true, eq-eqb}
use Rattle.sig_base.specs.declared.value.Value.{Value}
use Rattle.sig_base.specs.declared.value.Known.{Known}
use Rattle.sig_base.specs.declared.value.Step.{Step}
use Rattle.sig_base.specs.declared.value.Step.TheVariants.{Read, Done, Fail}
use Rattle.sig_base.specs.declared.value.Outcome.{Outcome}
use Rattle.sig_base.specs.declared.value.Outcome.TheVariants.{Good, Bad}
use Rattle.sig_formula.specs.Trees.{Tree}
use Rattle.sig_formula.specs.declared.formula.RowRef.{RowRef}
use Rattle.signal_model.specs.Recipes.{Hosts, Recipe, formula, recipe_answer}
use Rattle.signal_model.specs.Values.{Seen, Evaluation, learnt, read_first, after_read, after_step, asked_within, asked_from, unknown_slots}
use Rattle.signal_model.specs.Sound.{names_of}
use Rattle.signal_model.specs.Laws.{IsRead}
use Rattle.signal_laws.specs.ReadLaws.{read_of, HaveOutcomes, ReadingLaw, SameReadsLaw, NextReadLaw, NoHostLaw}

-- ---- the outcomes that were read

-- of a name that was read, the outcome that it has was read
read_right : (source : ℕ → Outcome) (ss : List Seen) (n : ℕ) → HaveOutcomes source ss → IsRead n ss → read_of ss n ≡ source n
read_right source [] n h on = absurd on
read_right source (s ∷ ss) n h on = go (n == s.name) refl on (read_right source ss n h.1)
  where
    go : (b : Bool) → (n == s.name) ≡ b → IsRead n (s ∷ ss) → (IsRead n ss → read_of ss n ≡ source n) → cond b s.outcome (read_of ss n) ≡ source n
    go true e r f = sym h.0 ∙ ap source (sym (eqb-true n s.name e))
    go false e r f = elim r [ inl is ↦ cc (sym (eq-eqb n s.name is) ∙ e) | inr there ↦ f there ]

-- where two sources are the same on the names that were read, these have the outcomes that were read by both
by_other : (source other : ℕ → Outcome) (ss : List Seen) → ((n : ℕ) → IsRead n ss → other n ≡ source n) → HaveOutcomes source ss →
    HaveOutcomes other ss
by_other source other [] f h = tt
by_other source other (s ∷ ss) f h = (f s.name (inl refl) ∙ h.0, by_other source other ss (λ n on. f n (inr on)) h.1)

-- ---- one answer of a recipe, and how it goes on

-- the read has the outcome of its name
outcomes_step : (st : Step) (slots : List ℕ) (source : ℕ → Outcome) (f : ℕ → Value → Evaluation) →
    ((s : ℕ) (v : Value) → HaveOutcomes source (f s v).reads) → HaveOutcomes source (after_step st slots source f).reads
outcomes_step (Done v) slots source f later = tt
outcomes_step (Fail e) slots source f later = tt
outcomes_step (Read s) slots source f later = go (source (slice_index slots s)) refl
  where
    go : (o : Outcome) → source (slice_index slots s) ≡ o → HaveOutcomes source (after_read (slice_index slots s) o (f s)).reads
    go (Bad e) is = (is, tt)
    go (Good v) is = (is, later s v)

-- the same read, the same evaluation
same_read : (m : ℕ) (o : Outcome) (other : ℕ → Outcome) (f g : Value → Evaluation) →
    ((v : Value) → HaveOutcomes other (f v).reads → g v ≡ f v) → HaveOutcomes other (after_read m o f).reads →
    after_read m (other m) g ≡ after_read m o f
same_read m (Bad e) other f g later h = ap (λ o. after_read m o g) h.0
same_read m (Good v) other f g later h = ap (λ o. after_read m o g) h.0
    ∙ ap (read_first (record { name = m; outcome = Good v })) (later v h.1)

same_step : (st : Step) (slots : List ℕ) (source other : ℕ → Outcome) (f g : ℕ → Value → Evaluation) →
    ((s : ℕ) (v : Value) → HaveOutcomes other (f s v).reads → g s v ≡ f s v) → HaveOutcomes other (after_step st slots source f).reads →
    after_step st slots other g ≡ after_step st slots source f
same_step (Done v) slots source other f g later h = refl
same_step (Fail e) slots source other f g later h = refl
same_step (Read s) slots source other f g later h =
    same_read (slice_index slots s) (source (slice_index slots s)) other (f s) (g s) (later s) h

-- where the first reads of an evaluation have their outcomes, another reads these names first, and then the next
abbrev ReadsNext : (ℕ → Outcome) → Evaluation → Evaluation → Type 0
ReadsNext other e after = (count : ℕ) → HaveOutcomes other (take count e.reads) → count < length e.reads →
    take (suc count) (names_of after.reads) ≡ take (suc count) (names_of e.reads)

first_name : (m : ℕ) (o : Outcome) (f : Value → Evaluation) → take 1 (names_of (after_read m o f).reads) ≡ m ∷ []
first_name m (Bad e) f = refl
first_name m (Good v) f = refl

next_name : (m : ℕ) (o : Outcome) (other : ℕ → Outcome) (f g : Value → Evaluation) → ((v : Value) → ReadsNext other (f v) (g v)) →
    ReadsNext other (after_read m o f) (after_read m (other m) g)
next_name m o other f g later zero h lt = first_name m (other m) g ∙ sym (first_name m o f)
next_name m (Bad e) other f g later (suc count) h lt = absurd (omega (arith, lt))
next_name m (Good v) other f g later (suc count) h lt =
    ap (λ o. take (suc (suc count)) (names_of (after_read m o g).reads)) h.0
    ∙ ap (λ ns. m ∷ ns) (later v count h.1 (omega (arith, lt)))

next_step : (st : Step) (slots : List ℕ) (source other : ℕ → Outcome) (f g : ℕ → Value → Evaluation) →
    ((s : ℕ) (v : Value) → ReadsNext other (f s v) (g s v)) → ReadsNext other (after_step st slots source f) (after_step st slots other g)
next_step (Done v) slots source other f g later count h lt = absurd (omega (arith, lt))
next_step (Fail e) slots source other f g later count h lt = absurd (omega (arith, lt))
next_step (Read s) slots source other f g later count h lt =
    next_name (slice_index slots s) (source (slice_index slots s)) other (f s) (g s) (later s) count h lt

-- ---- a recipe asked again and again

module _ (hosts : Hosts) (r : Recipe) where
  -- it reads the outcomes that its names have
  own_outcomes : (source : ℕ → Outcome) (turns : ℕ) (known : List Known) → HaveOutcomes source (asked_within turns hosts r source known).reads
  own_outcomes source zero known = tt
  own_outcomes source (suc turns) known =
      outcomes_step (recipe_answer hosts r known) r.slots source (λ s v. asked_within turns hosts r source (learnt known s v))
      (λ s v. own_outcomes source turns (learnt known s v))

  -- by another source, where the names that it read have the outcomes that it read, it is the same
  same_asked : (source other : ℕ → Outcome) (turns : ℕ) (known : List Known) →
      HaveOutcomes other (asked_within turns hosts r source known).reads →
      asked_within turns hosts r other known ≡ asked_within turns hosts r source known
  same_asked source other zero known h = refl
  same_asked source other (suc turns) known h =
      same_step (recipe_answer hosts r known) r.slots source other (λ s v. asked_within turns hosts r source (learnt known s v))
      (λ s v. asked_within turns hosts r other (learnt known s v)) (λ s v. same_asked source other turns (learnt known s v)) h

  -- where the first have, the next is of the same name
  next_asked : (source other : ℕ → Outcome) (turns : ℕ) (known : List Known) →
      ReadsNext other (asked_within turns hosts r source known) (asked_within turns hosts r other known)
  next_asked source other zero known count h lt = absurd (omega (arith, lt))
  next_asked source other (suc turns) known count h lt =
      next_step (recipe_answer hosts r known) r.slots source other (λ s v. asked_within turns hosts r source (learnt known s v))
      (λ s v. asked_within turns hosts r other (learnt known s v)) (λ s v. next_asked source other turns (learnt known s v)) count h lt

-- ---- the laws

-- an evaluation is a reading
pub reading_law : ReadingLaw
reading_law hosts r source =
    let turns : ℕ = suc (unknown_slots (length r.slots) []) in
    let reads : List Seen = (asked_from hosts r source []).reads in
    let own : HaveOutcomes source reads = own_outcomes hosts r source turns [] in (
      same_asked hosts r source (read_of reads) turns []
          (by_other source (read_of reads) reads (λ n on. read_right source reads n own on) own),
      own,
    )

-- the same outcomes, the same evaluation
pub same_reads_law : SameReadsLaw
same_reads_law hosts r e source is h =
    same_asked hosts r (read_of e.reads) source (suc (unknown_slots (length r.slots) [])) []
    (subst (λ (x : Evaluation). HaveOutcomes source x.reads) (sym is) h) ∙ is

-- as far as the outcomes are the same, so are the names
pub next_read_law : NextReadLaw
next_read_law hosts r e source count is h lt =
    let one : count + 1 ≡ suc count = omega arith in
    rw one
    (next_asked hosts r (read_of e.reads) source (suc (unknown_slots (length r.slots) [])) [] count
    (subst (λ (x : Evaluation). HaveOutcomes source (take count x.reads)) (sym is) h)
    (subst (λ (x : Evaluation). count < length x.reads) (sym is) lt) ∙ ap (λ (x : Evaluation). take (suc count) (names_of x.reads)) is)

-- a formula asks no host formula
no_host : (hosts others : Hosts) (row : Option RowRef) (t : Tree) (slots : List ℕ) (source : ℕ → Outcome) (turns : ℕ) (known : List Known) →
    asked_within turns hosts (record { expression = formula row t; slots = slots }) source known
    ≡ asked_within turns others (record { expression = formula row t; slots = slots }) source known
no_host hosts others row t slots source zero known = refl
no_host hosts others row t slots source (suc turns) known =
    ap (after_step (recipe_answer hosts (record { expression = formula row t; slots = slots }) known) slots source)
    (λ i s v. no_host hosts others row t slots source turns (learnt known s v) i)

pub no_host_law : NoHostLaw
no_host_law hosts others row t slots source = no_host hosts others row t slots source (suc (unknown_slots (length slots) [])) []
