-- Lines whose formulas have no slot read no name.
use Rattle.std.proofs.Common.{◌≡◌, ◌&&◌, ◌||◌, ℕ, true, false, List, [], ◌∷◌, ◌++◌, length, map, Option, refl, sym, ap, ◌∙◌}
use Rattle.std.proofs.lemmas.Bool.{and_parts, false≢true, or_from}
use Rattle.sig_base.specs.declared.value.Value.{Value}
use Rattle.sig_base.specs.declared.value.Value.TheVariants as value
use Rattle.sig_base.specs.declared.value.Outcome.{Outcome}
use Rattle.sig_base.specs.declared.value.Outcome.TheVariants.{Good}
use Rattle.sig_base.specs.declared.value.Step.{Step}
use Rattle.sig_base.specs.declared.value.Step.TheVariants.{Read, Done, Fail}
use Rattle.sig_formula.specs.Evaluation.{answer_of}
use Rattle.sig_formula.specs.Trees as tree
use Rattle.sig_formula.specs.Trees.{Tree, has_slot}
use Rattle.sig_formula.specs.declared.formula.RowRef.{RowRef}
use Rattle.sig_formula.proofs.Shared.{asks_askable}
use Rattle.signal_model.specs.Recipes.{Recipe, formula, judged, no_hosts}
use Rattle.signal_model.specs.Values.{Evaluation, Seen, after_step, asked_from, learnt}
use Rattle.signal_model.proofs.Shared.{asked_by_steps}
use Rattle.tpl_model.specs.Lines.{Block, empty, text, tag, choice, each, attempt}
use Rattle.tpl_model.specs.Shapes.{Here, row_here}
use Rattle.tpl_model.specs.Sources.{evaluating}
use Rattle.tpl_model.specs.PageUpdates.PageMemos.{Hearing, PageMemo, blank, all_names, attributes_heard, hearing, memo_of, names, picks}
use Rattle.tpl_model.specs.KeptLines.Memos.{lines_memo}
use Rattle.tpl_hearing.specs.Heard.{Outcomes}
use Rattle.tpl_hearing.proofs.Shared.{outcome_in}
use Rattle.tpl_kept.specs.Renewals.{WasMadeIfRead, is_unread}
use Rattle.tpl_kept.specs.Nameless.{AreNameless, ReadsNone, all_slotless, nameless, slotless}
use Rattle.tpl_kept.specs.Turns.{WereEach, first_of, later_of}
use Rattle.tpl_kept.proofs.Listened.Reuse.{any_here, any_row, in_agrees}

-- ---- a formula

-- it has none of the slots
no_slot : (t : Tree) (s : ℕ) → slotless t ≡ true → has_slot s t ≡ false
no_slot (tree.literal x) s e = refl
no_slot (tree.slot n) s e = absurd (false≢true e)
no_slot (tree.row_field g) s e = refl
no_slot tree.row_key s e = refl
no_slot (tree.negation a) s e = no_slot a s e
no_slot (tree.binary o a b) s e =
    let p = and_parts (slotless a) (slotless b) e in
    or_from (has_slot s a) (has_slot s b) (no_slot a s p.0) (no_slot b s p.1)
no_slot (tree.choice t a b) s e =
    let p = and_parts (slotless t) (slotless a && slotless b) e in
    let q = and_parts (slotless a) (slotless b) p.1 in
    or_from (has_slot s t) (has_slot s a || has_slot s b) (no_slot t s p.0) (or_from (has_slot s a) (has_slot s b) (no_slot a s q.0) (no_slot b s q.1))
no_slot (tree.count_of a) s e = no_slot a s e
no_slot (tree.sum_of a b) s e =
    let p = and_parts (slotless a) (slotless b) e in
    or_from (has_slot s a) (has_slot s b) (no_slot a s p.0) (no_slot b s p.1)
no_slot (tree.rows_where a b) s e =
    let p = and_parts (slotless a) (slotless b) e in
    or_from (has_slot s a) (has_slot s b) (no_slot a s p.0) (no_slot b s p.1)
no_slot (tree.untracked a) s e = no_slot a s e

-- an answer that isn't a read ends
ended_reads : (count : ℕ) (slots : List ℕ) (source : ℕ → Outcome) (go : ℕ → Value → Evaluation) (st : Step) → ((s : ℕ) → st ≡ Read s → ⊥) →
    (after_step (judged count [] st) slots source go).reads ≡ []
ended_reads count slots source go (Done v) never = refl
ended_reads count slots source go (Fail e) never = refl
ended_reads count slots source go (Read s) never = absurd (never s refl)

-- it reads nothing
slotless_reads : (links : List ℕ) (source : ℕ → Outcome) (row : Option RowRef) (f : Tree) → slotless f ≡ true → (evaluating links source row f).reads ≡ []
slotless_reads links source row f e =
    let r : Recipe = record { expression = formula row f; slots = links } in
    ap (λ (z : Evaluation). z.reads) (asked_by_steps no_hosts r source [])
    ∙ ended_reads (length links) links source (λ s v. asked_from no_hosts r source (learnt [] s v)) (answer_of f row [])
    (λ s is. false≢true (sym (no_slot f s e) ∙ (asks_askable f row [] s is).own))

-- ---- lines

-- of a formula without a slot no name is heard
abbrev IsSilent : Hearing → Type 0
IsSilent hear = (row : Option RowRef) (f : Tree) → slotless f ≡ true → (hear row f).names ≡ []

silent : (links : List ℕ) (source : ℕ → Outcome) → IsSilent (hearing (evaluating links source))
silent links source row f e = ap (map (λ (s : Seen). s.name)) (slotless_reads links source row f e)

none_of : (a b c : List ℕ) → a ≡ [] → b ≡ [] → c ≡ [] → (a ++ b) ++ c ≡ []
none_of a b c e f g = λ i. (e i ++ f i) ++ g i

attributes_silent : (hear : Hearing) → IsSilent hear → (row : Option RowRef) (xs : List (List ℕ × Tree)) → all_slotless xs ≡ true →
    all_names (attributes_heard false hear row xs) ≡ []
attributes_silent hear q row [] e = refl
attributes_silent hear q row (x ∷ xs) e =
    let p = and_parts (slotless x.1) (all_slotless xs) e in
    ap (λ z. z ++ all_names (attributes_heard false hear row xs)) (q row x.1 p.0) ∙ attributes_silent hear q row xs p.1

picked_silent : (o : Outcome) (a b : PageMemo) → names a ≡ [] → names b ≡ [] → names (picks o a b blank) ≡ []
picked_silent (Good (value.Bool true)) a b e f = e
picked_silent (Good (value.Bool false)) a b e f = f
picked_silent _ a b e f = refl

lines_silent : (hear : Hearing) → IsSilent hear → (here : Option Here) (b : Block) → nameless b ≡ true → names (memo_of hear false here b) ≡ []
lines_silent hear q here empty e = refl
lines_silent hear q here (text n f rest) e =
    let p = and_parts (slotless f) (nameless rest) e in
    ap (λ z. z ++ names (memo_of hear false here rest)) (q (row_here here) f p.0) ∙ lines_silent hear q here rest p.1
lines_silent hear q here (tag n name xs inner rest) e =
    let p = and_parts (all_slotless xs) (nameless inner && nameless rest) e in
    let k = and_parts (nameless inner) (nameless rest) p.1 in
    none_of (all_names (attributes_heard false hear (row_here here) xs)) (names (memo_of hear false here inner)) (names (memo_of hear false here rest))
    (attributes_silent hear q (row_here here) xs p.0) (lines_silent hear q here inner k.0) (lines_silent hear q here rest k.1)
lines_silent hear q here (choice f one other rest) e =
    let p = and_parts (slotless f) (nameless one && (nameless other && nameless rest)) e in
    let k = and_parts (nameless one) (nameless other && nameless rest) p.1 in
    let l = and_parts (nameless other) (nameless rest) k.1 in
    let h = hear (row_here here) f in
    none_of h.names (names (picks h.outcome (memo_of hear false here one) (memo_of hear false here other) blank)) (names (memo_of hear false here rest))
    (q (row_here here) f p.0)
    (picked_silent h.outcome (memo_of hear false here one) (memo_of hear false here other) (lines_silent hear q here one k.0) (lines_silent hear q here other l.0))
    (lines_silent hear q here rest l.1)
lines_silent hear q here (each f inner rest) e = absurd (false≢true e)
lines_silent hear q here (attempt first second rest) e = absurd (false≢true e)

-- ---- what was kept of them

first_silent : (b : Block) (links : List ℕ) (before : Outcomes) (row : Option RowRef) (m : PageMemo) → nameless b ≡ true →
    WasMadeIfRead (lines_memo b) links row before m → is_unread m ≡ false → ReadsNone m
first_silent b links before row m e was u =
    let source = outcome_in before in
    record {
      read = u;
      none = ap names ((was.made u).is source (in_agrees before) (any_here row) (any_row row))
          ∙ lines_silent (hearing (evaluating links source)) (silent links source) (any_here row) b e;
    }

-- so it is in each of some rows
pub are_silent : (b : Block) (links : List ℕ) (before : Outcomes) (rows : List (Option RowRef)) (was : List PageMemo) → nameless b ≡ true →
    WereEach b links rows before was → AreNameless (length rows) was
are_silent b links before [] was e all = tt
are_silent b links before (r ∷ rows) was e all = (
  (λ u. first_silent b links before r (first_of was) e all.0 u),
  are_silent b links before rows (later_of was) e all.1,
)
