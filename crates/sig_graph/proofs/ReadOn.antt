-- Slots that are read in one go: by the nodes, and by what these stand for.
use Rattle.std.proofs.Common.{◌≡◌, ℕ, ◌+◌, ◌≤◌, ◌^◌, Bool, true, false, cond, List, [], ◌∷◌, ◌++◌, append_assoc, length, length-append, map, Some, None, refl, sym, ap, ◌∙◌, subst, arith, is_some}
use Rattle.std.specs.Prelude.{nat_lt, slice_get, slice_index}
use Rattle.std.specs.List.{All}
use Rattle.std.proofs.lemmas.List.{append-nil, map-append}
use Rattle.std.proofs.lemmas.List.Elements.{All-append, All-cons, All-nil}
use Rattle.std.proofs.lemmas.Option.{get_or_from_slice_get, slice_get_within}
use Rattle.sig_base.specs.declared.value.Known.{Known}
use Rattle.sig_base.specs.declared.value.Value.{Value}
use Rattle.sig_base.specs.declared.value.Outcome.{Outcome}
use Rattle.sig_base.specs.declared.value.Outcome.TheVariants.{Good}
use Rattle.sig_formula.specs.declared.evaluate.FormulaStep.TheVariants.{Ask, End}
use Rattle.sig_formula.specs.declared.formula.BinOp.{BinOp}
use Rattle.sig_formula.specs.Evaluation.{formula_step, known_at, operated}
use Rattle.sig_formula.specs.declared.parts.Part.{Part}
use Rattle.sig_formula.specs.declared.parts.Part.TheVariants as part
use Rattle.sig_formula.specs.Operations.{StaysGood}
use Rattle.sig_formula.specs.Turns.{IsPartRead, first_in, next_in}
use Rattle.sig_formula.specs.Programs.{decides}
use Rattle.sig_formula.specs.Trees.{Tree, binary, slot}
use Rattle.sig_formula.proofs.Shared.{first_asked, next_asked, pair_ends, part_ends, right_asks, slot_read, whole_asks}
use Rattle.signal_model.specs.Recipes as recipes
use Rattle.signal_model.specs.Recipes.{Recipe, IsUnknownSlot, judged}
use Rattle.signal_model.specs.Signals.{Computed, IsComputed, Stands, is_in, standing}
use Rattle.sig_marks.specs.Tables.{MarkTable}
use Rattle.sig_nodes.specs.declared.answers.Asked.TheVariants.{Slot as SlotAsked, Ended}
use Rattle.sig_nodes.specs.declared.node.Node.{Node}
use Rattle.sig_nodes.specs.declared.node.Body.TheVariants.{Computed as ComputedBody}
use Rattle.sig_nodes.specs.Answers.{host_here, host_place, slots_here, IsAnswerHere, IsAnswerOf}
use Rattle.sig_nodes.proofs.Shared.{formula_ends, formula_needs}
use Rattle.sig_nodes.specs.Computations.{Computation}
use Rattle.sig_nodes.specs.Reading.{IsNeeded}
use Rattle.sig_graph.specs.Looks.{is_clean_mark}
use Rattle.sig_nodes.specs.Nodes.{body_at, stands_of}
use Rattle.sig_graph.specs.Parts.{signals_of, state_of}
use Rattle.sig_graph.specs.Places.{KeepsMarks}
use Rattle.sig_graph.specs.States.{State, counted}
use Rattle.sig_graph.specs.declared.reading.Reached.{Reached}
use Rattle.sig_graph.specs.declared.reading.Reached.TheVariants as reached
use Rattle.sig_graph.specs.Reading.{SlotRead, AreReadHere, AreReadNext, AsksFor, HasReadHere, HasReadOn, IsReadHere, IsReadNext, IsReached, IsReachedHere, IsReadOne, IsReadWhere, IsReady, IsSlotReady, ReadsNext}
use Rattle.sig_graph.proofs.Consistency.{computed_here}
use Rattle.sig_graph.proofs.Lookups.{at_place, shown_found}
use Rattle.sig_graph.proofs.Parts.{progress_found, stands}
use Rattle.sig_graph.proofs.Searches.{unmarked_clean}

-- what is known of a read, and the signal
abbrev known_in : SlotRead → Known
known_in r = r.known

abbrev name_in : SlotRead → ℕ
name_in r = r.name

-- ---- one slot more

-- a slot that is read after others
read_behind : (xs : List Node) (marked : List Bool) (c : Recipe) (r : SlotRead) (known : List Known) (more : List SlotRead) →
    IsReadHere xs marked c (known ++ map known_in more) r → AreReadHere xs marked c known more → AreReadHere xs marked c known (more ++ r ∷ [])
read_behind xs marked c r known [] here before = (subst (λ (ks : List Known). IsReadHere xs marked c ks r) (append-nil known) here, tt)
read_behind xs marked c r known (s ∷ ss) here before = (
  before.0,
  read_behind xs marked c r (known ++ s.known ∷ []) ss
      (subst (λ (ks : List Known). IsReadHere xs marked c ks r) (sym (append_assoc known (s.known ∷ []) (map known_in ss))) here) before.1,
)

-- once one slot more is read
pub read_more : (xs : List Node) (marked : List Bool) (c : Recipe) (first known known' : List Known) (begun reads reads' : List ℕ) →
    HasReadHere xs marked c first begun known reads → ReadsNext xs marked c known reads known' reads' → HasReadHere xs marked c first begun known' reads'
read_more xs marked c first known known' begun reads reads' h n = record {
  more = h.more ++ n.read ∷ [];
  knows = n.knows ∙ ap (λ ks. ks ++ n.read.known ∷ []) h.knows ∙ append_assoc first (map known_in h.more) (n.read.known ∷ [])
      ∙ ap (λ ks. first ++ ks) (sym (map-append known_in h.more (n.read ∷ [])));
  names = n.names ∙ ap (λ ns. ns ++ n.read.name ∷ []) h.names ∙ append_assoc begun (map name_in h.more) (n.read.name ∷ [])
      ∙ ap (λ ns. begun ++ ns) (sym (map-append name_in h.more (n.read ∷ [])));
  here = read_behind xs marked c n.read first h.more (subst (λ (ks : List Known). IsReadHere xs marked c ks n.read) h.knows n.here) h.here;
}

-- before the first
pub none_read : (xs : List Node) (marked : List Bool) (c : Recipe) (known : List Known) (reads : List ℕ) → HasReadHere xs marked c known reads known reads
none_read xs marked c known reads = record { more = []; knows = sym (append-nil known); names = sym (append-nil reads); here = tt }

-- ---- slots that are read after others

-- several
reads_behind : (xs : List Node) (marked : List Bool) (c : Recipe) (known : List Known) (more rs : List SlotRead) → AreReadHere xs marked c known more →
    AreReadHere xs marked c (known ++ map known_in more) rs → AreReadHere xs marked c known (more ++ rs)
reads_behind xs marked c known [] rs before after = subst (λ (ks : List Known). AreReadHere xs marked c ks rs) (append-nil known) after
reads_behind xs marked c known (s ∷ ss) rs before after = (
  before.0,
  reads_behind xs marked c (known ++ s.known ∷ []) ss rs before.1
      (subst (λ (ks : List Known). AreReadHere xs marked c ks rs) (sym (append_assoc known (s.known ∷ []) (map known_in ss))) after),
)

-- the two together
pub read_both : (xs : List Node) (marked : List Bool) (c : Recipe) (first known known' : List Known) (begun reads reads' : List ℕ) →
    HasReadHere xs marked c first begun known reads → HasReadHere xs marked c known reads known' reads' → HasReadHere xs marked c first begun known' reads'
read_both xs marked c first known known' begun reads reads' h n = record {
  more = h.more ++ n.more;
  knows = n.knows ∙ ap (λ ks. ks ++ map known_in n.more) h.knows ∙ append_assoc first (map known_in h.more) (map known_in n.more)
      ∙ ap (λ ks. first ++ ks) (sym (map-append known_in h.more n.more));
  names = n.names ∙ ap (λ ns. ns ++ map name_in n.more) h.names ∙ append_assoc begun (map name_in h.more) (map name_in n.more)
      ∙ ap (λ ns. begun ++ ns) (sym (map-append name_in h.more n.more));
  here = reads_behind xs marked c first h.more n.more h.here (subst (λ (ks : List Known). AreReadHere xs marked c ks n.more) h.knows n.here);
}

-- no less is known then
pub no_less_known : (xs : List Node) (marked : List Bool) (c : Recipe) (known known' : List Known) (reads reads' : List ℕ) →
    HasReadHere xs marked c known reads known' reads' → length known ≤ length known'
no_less_known xs marked c known known' reads reads' h =
    let more : List Known = map known_in h.more in
    let e : length known' ≡ length known + length more = ap length h.knows ∙ length-append known more in
    omega (arith, e)

-- ---- a formula that is gone over once

-- a slot that is read
pub number_read : (xs : List Node) (marked : List Bool) (c : Recipe) (known known' : List Known) (reads reads' : List ℕ) (n id : ℕ) (v w : Value) →
    slice_get c.slots n ≡ Some id → IsNeeded c known n → IsReady xs marked id v → w ≡ v → known' ≡ known ++ (record { slot = n; value = w }) ∷ [] →
    reads' ≡ reads ++ id ∷ [] → HasReadHere xs marked c known reads known' reads'
number_read xs marked c known known' reads reads' n id v w got needed ready same knows names =
    let inside = slice_get_within c.slots n id got in
    let read : SlotRead = record { known = record { slot = n; value = w }; name = id } in
    read_more xs marked c known known known' reads reads reads' (none_read xs marked c known reads) (record {
      read = read;
      knows = knows;
      names = names;
      here = record {
        asked = (needed inside).0;
        judged = (needed inside).1;
        name = got;
        ready = subst (λ (u : Value). IsReady xs marked id u) (sym same) ready;
      };
    })

-- it comes to its value then
pub number_told : (n : ℕ) (known known' : List Known) (v : Value) → known_at n known ≡ None → known' ≡ known ++ (record { slot = n; value = v }) ∷ [] →
    StaysGood (slot n) known' v
number_told n known known' v unknown knows =
    subst (λ (ks : List Known). StaysGood (slot n) ks v) (sym knows) (slot_read (slot n) n known v refl unknown)

-- what a part comes to it goes on to come to
pub part_now : (t : Tree) (known : List Known) (v : Value) → StaysGood t known v → formula_step false t None known [] ≡ End (Good v)
part_now t known v h = subst (λ (ks : List Known). formula_step false t None ks [] ≡ End (Good v)) (append-nil known) (h [])

part_then : (xs : List Node) (marked : List Bool) (c : Recipe) (known known' : List Known) (reads reads' : List ℕ) (t : Tree) (v : Value) →
    StaysGood t known v → HasReadHere xs marked c known reads known' reads' → formula_step false t None known' [] ≡ End (Good v)
part_then xs marked c known known' reads reads' t v good h =
    subst (λ (ks : List Known). formula_step false t None ks [] ≡ End (Good v)) (sym h.knows) (good (map known_in h.more))

-- a formula that asks for a slot needs it
pub alone_asks : (c : Recipe) (t : Tree) (known : List Known) → c.expression ≡ recipes.formula None t → AsksFor c t known
alone_asks c t known is more n h = formula_needs c t (known ++ more) n is (whole_asks t (known ++ more) n h)

-- the slot that a part asks for now is needed
pub asked_now : (c : Recipe) (t : Tree) (known : List Known) (n : ℕ) → AsksFor c t known → formula_step false t None known [] ≡ Ask n false →
    IsNeeded c known n
asked_now c t known n asks h =
    subst (λ (ks : List Known). IsNeeded c ks n) (append-nil known)
    (asks [] n (subst (λ (ks : List Known). formula_step false t None ks [] ≡ Ask n false) (sym (append-nil known)) h))

-- where it comes to a value, that is the answer
pub alone_ends : (c : Recipe) (t : Tree) (known : List Known) (v : Value) (o : Outcome) → c.expression ≡ recipes.formula None t →
    StaysGood t known v → o ≡ Good v → IsAnswerOf c known Ended o
alone_ends c t known v o is good made =
    subst (λ (x : Outcome). IsAnswerOf c known Ended x) (sym made) (formula_ends c t known (Good v) is (part_ends t known v (part_now t known v good)))

-- ---- parts in the turn of their evaluation

-- a part needs the slots that its first part asks for
pub first_asks : (c : Recipe) (t a : Tree) (known : List Known) → first_in t ≡ Some a → AsksFor c t known → AsksFor c a known
first_asks c t a known first asks more n h = asks more n (first_asked t a (known ++ more) n first h)

-- and then those that its next part asks for
pub next_asks : (xs : List Node) (marked : List Bool) (c : Recipe) (known known' : List Known) (reads reads' : List ℕ) (t a b : Tree) (p : Part) →
    AsksFor c t known → HasReadHere xs marked c known reads known' reads' → first_in t ≡ Some a → IsPartRead p a known' → next_in t p ≡ Some b →
    AsksFor c b known'
next_asks xs marked c known known' reads reads' t a b p asks h first told is more n e =
    let read : List Known = map known_in h.more in
    let here : known' ++ more ≡ known ++ (read ++ more) = ap (λ (ks : List Known). ks ++ more) h.knows ∙ append_assoc known read more in
    let whole = next_asked t a b p known' more n first told is e in
    subst (λ (ks : List Known). IsNeeded c ks n) (sym here)
    (asks (read ++ more) n (subst (λ (ks : List Known). formula_step false t None ks [] ≡ Ask n false) here whole))

-- what is told of it by its next part, once the slots that this needs are read
pub made_read : (xs : List Node) (marked : List Bool) (c : Recipe) (known known' : List Known) (reads reads' : List ℕ) (t a b : Tree) (p q r : Part) →
    ((x y : Tree) (ks more : List Known) → first_in t ≡ Some x → IsPartRead p x ks → next_in t p ≡ Some y → IsPartRead q y (ks ++ more) →
    IsPartRead r t (ks ++ more)) → HasReadHere xs marked c known reads known' reads' → first_in t ≡ Some a → IsPartRead p a known →
    next_in t p ≡ Some b → IsPartRead q b known' → IsPartRead r t known'
made_read xs marked c known known' reads reads' t a b p q r law h first told is second =
    let read : List Known = map known_in h.more in
    subst (λ (ks : List Known). IsPartRead r t ks) (sym h.knows)
    (law a b known read first told is (subst (λ (ks : List Known). IsPartRead q b ks) h.knows second))

-- ---- an operation between two parts

-- it needs the slots that its left part asks for
pub left_asks : (c : Recipe) (o : BinOp) (a b : Tree) (known : List Known) → c.expression ≡ recipes.formula None (binary o a b) → AsksFor c a known
left_asks c o a b known is = first_asks c (binary o a b) a known refl (alone_asks c (binary o a b) known is)

-- and then those that its right part asks for
pub second_asks : (c : Recipe) (o : BinOp) (a b : Tree) (known : List Known) (v : Value) → c.expression ≡ recipes.formula None (binary o a b) →
    decides o ≡ false → StaysGood a known v → AsksFor c b known
second_asks c o a b known v is free good more n h =
    alone_asks c (binary o a b) known is more n (right_asks o a b (known ++ more) v n free (good more) h)

-- a formula that asks for a slot needs that
pub alone_left : (c : Recipe) (t : Tree) (known : List Known) (n : ℕ) → c.expression ≡ recipes.formula None t → IsPartRead (part.Slot n) t known →
    IsNeeded c known n
alone_left c t known n is told = asked_now c t known n (alone_asks c t known is) told

-- and so does an operation whose left part asks for one
pub first_left : (c : Recipe) (o : BinOp) (a b : Tree) (known : List Known) (n : ℕ) → c.expression ≡ recipes.formula None (binary o a b) →
    IsPartRead (part.Slot n) a known → IsNeeded c known n
first_left c o a b known n is told = asked_now c a known n (left_asks c o a b known is) told

-- or its right part, once the left one came to a value
pub second_left : (xs : List Node) (marked : List Bool) (c : Recipe) (known known' : List Known) (reads reads' : List ℕ) (o : BinOp) (a b : Tree) (v : Value)
    (n : ℕ) → c.expression ≡ recipes.formula None (binary o a b) → decides o ≡ false → StaysGood a known v →
    HasReadHere xs marked c known reads known' reads' → IsPartRead (part.Slot n) b known' → IsNeeded c known' n
second_left xs marked c known known' reads reads' o a b v n is free good h told =
    alone_left c (binary o a b) known' n is
    (right_asks o a b known' v n free (part_then xs marked c known known' reads reads' a v good h) told)

-- what it makes of the two is the answer
pub pair_answers : (xs : List Node) (marked : List Bool) (c : Recipe) (known known' : List Known) (reads reads' : List ℕ) (o : BinOp) (a b : Tree) (v w : Value)
    (x : Outcome) → c.expression ≡ recipes.formula None (binary o a b) → decides o ≡ false → StaysGood a known v →
    HasReadHere xs marked c known reads known' reads' → StaysGood b known' w → x ≡ operated o v w → IsAnswerOf c known' Ended x
pair_answers xs marked c known known' reads reads' o a b v w x is free first h second made =
    formula_ends c (binary o a b) known' x is
    (pair_ends o a b known' v w x free (part_then xs marked c known known' reads reads' a v first h) (part_now b known' w second) made)

-- ---- by what the nodes stand for

-- a slot whose signal is read at once
slot_found : (xs : List Node) (g l w id : ℕ) (t : MarkTable) (c : Computation) (r : SlotRead) → KeepsMarks xs g t → body_at xs id ≡ ComputedBody c →
    slice_get c.recipe.slots r.known.slot ≡ Some r.name → IsReady xs t.marked r.name r.known.value → IsSlotReady (state_of xs g l w) id r
slot_found xs g l w id t c r keeps is name h =
    let slots : slots_here (standing (signals_of xs) id) ≡ c.recipe.slots = ap slots_here (stands xs id ∙ ap (stands_of id) is) in
    record {
      name = sym (ap (λ (ns : List ℕ). slice_index ns r.known.slot) slots ∙ get_or_from_slice_get c.recipe.slots r.known.slot r.name 0 name);
      ready = λ on.
          let calm = h.calm (computed_here xs r.name on) in (
            ap is_some (progress_found xs r.name) ∙ calm.0,
            ap is_clean_mark (sym (unmarked_clean xs g t r.name keeps (computed_here xs r.name on) calm.1)),
          );
      shown = sym (shown_found xs g r.name) ∙ h.shown;
    }

-- a read
read_found : (xs : List Node) (g l w id : ℕ) (t : MarkTable) (c : Computation) (known : List Known) (r : SlotRead) → KeepsMarks xs g t →
    body_at xs id ≡ ComputedBody c → IsReadHere xs t.marked c.recipe known r → IsReadNext (state_of xs g l w) id known r
read_found xs g l w id t c known r keeps is h =
    let here : standing (signals_of xs) id ≡ IsComputed (record { name = id; recipe = c.recipe }) = stands xs id ∙ ap (stands_of id) is in
    let slots : slots_here (standing (signals_of xs) id) ≡ c.recipe.slots = ap slots_here here in
    let found = slot_found xs g l w id t c r keeps is h.name h.ready in
    record {
      asked = λ o. subst (λ (st : Stands). IsAnswerHere st known (SlotAsked r.known.slot) o) (sym here) (h.asked o);
      judged = subst (λ (ns : List ℕ). IsUnknownSlot (length ns) r.known.slot known) (sym slots) h.judged;
      name = found.name;
      ready = found.ready;
      shown = found.shown;
    }

-- one slot, where it is read
pub one_found : (b : Bool) (xs : List Node) (g l w id n : ℕ) (t : MarkTable) (c : Computation) (f : Tree) (known known' : List Known) (reads reads' : List ℕ) →
    KeepsMarks xs g t → body_at xs id ≡ ComputedBody c → c.recipe.expression ≡ recipes.formula None f →
    IsReadWhere b xs t.marked c.recipe n known reads known' reads' → IsReadOne b (state_of xs g l w) id n known reads known' reads'
one_found true xs g l w id n t c f known known' reads reads' keeps is formula h = record {
  read = h.read;
  same = h.same;
  knows = h.knows;
  names = h.names;
  formula = ap host_here (stands xs id ∙ ap (stands_of id) is) ∙ ap host_place formula;
  ready = slot_found xs g l w id t c h.read keeps is h.name h.ready;
}
one_found false xs g l w id n t c f known known' reads reads' keeps is formula h = h

-- each of them
reads_found : (xs : List Node) (g l w id : ℕ) (t : MarkTable) (c : Computation) (known : List Known) (rs : List SlotRead) → KeepsMarks xs g t →
    body_at xs id ≡ ComputedBody c → AreReadHere xs t.marked c.recipe known rs → AreReadNext (state_of xs g l w) id known rs
reads_found xs g l w id t c known [] keeps is h = tt
reads_found xs g l w id t c known (r ∷ rs) keeps is h =
    (read_found xs g l w id t c known r keeps is h.0, reads_found xs g l w id t c (known ++ r.known ∷ []) rs keeps is h.1)

-- all that was read in one go
pub read_on_found : (xs : List Node) (g l w id : ℕ) (t : MarkTable) (c : Computation) (known known' : List Known) (reads reads' : List ℕ) →
    KeepsMarks xs g t → body_at xs id ≡ ComputedBody c → HasReadHere xs t.marked c.recipe known reads known' reads' →
    HasReadOn (state_of xs g l w) id known reads known' reads'
read_on_found xs g l w id t c known known' reads reads' keeps is h = record {
  more = h.more;
  knows = h.knows;
  names = h.names;
  next = reads_found xs g l w id t c known h.more keeps is h.here;
}

-- what it came to
pub reached_found : (r : Reached) (c : Computed) (known : List Known) (o : Outcome) → IsReached r c.recipe known o → IsReachedHere r (IsComputed c) known o
reached_found reached.Ended c known o h = h
reached_found (reached.Needs n) c known o h = h
reached_found reached.Left c known o h = tt

-- nothing was read
pub no_read_on : (s : State) (id : ℕ) (known : List Known) (reads : List ℕ) → HasReadOn s id known reads known reads
no_read_on s id known reads = record { more = []; knows = sym (append-nil known); names = sym (append-nil reads); next = tt }

-- ---- the names

-- what holds of the signals of all slots holds of those that were read
pub names_read : (P : ℕ → Type 0) (xs : List Node) (marked : List Bool) (c : Recipe) (known known' : List Known) (reads reads' : List ℕ) →
    ((m : ℕ) → is_in m c.slots ≡ true → P m) → HasReadHere xs marked c known reads known' reads' → All P reads → All P reads'
names_read P xs marked c known known' reads reads' each h all =
    subst (All P) (sym h.names) (All-append P reads (map name_in h.more) all (go known h.more h.here))
  where
    go : (ks : List Known) (rs : List SlotRead) → AreReadHere xs marked c ks rs → All P (map name_in rs)
    go ks [] q = All-nil P
    go ks (r ∷ rs) q =
        All-cons P r.name (map name_in rs) (at_place P c.slots r.known.slot (Some r.name) each (sym q.0.name)) (go (ks ++ r.known ∷ []) rs q.1)

-- the same of one slot
pub name_read : (b : Bool) (P : ℕ → Type 0) (xs : List Node) (marked : List Bool) (c : Recipe) (n : ℕ) (known known' : List Known) (reads reads' : List ℕ) →
    ((m : ℕ) → is_in m c.slots ≡ true → P m) → IsReadWhere b xs marked c n known reads known' reads' → All P reads → All P reads'
name_read true P xs marked c n known known' reads reads' each h all =
    subst (All P) (sym h.names) (All-append P reads (h.read.name ∷ []) all
    (All-cons P h.read.name [] (at_place P c.slots h.read.known.slot (Some h.read.name) each (sym h.name)) (All-nil P)))
name_read false P xs marked c n known known' reads reads' each h all = subst (All P) (sym h.1) all

-- ---- steps

-- one counted step is at most one more
pub counted_most : (n : ℕ) → counted n ≤ n + 1
counted_most n = go (nat_lt (n + 1) (2 ^ 128))
  where
    go : (b : Bool) → cond b (n + 1) n ≤ n + 1
    go true = omega arith
    go false = omega arith
