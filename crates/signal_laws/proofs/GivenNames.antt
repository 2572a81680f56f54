-- The names in use were given.
use Rattle.std.proofs.Common.{◌≡◌, ℕ, zero, suc, ◌<◌, ◌==◌, Bool, true, false, cond, List, [], ◌∷◌, ◌++◌, map, Option, Some, None, option_map}
use Rattle.std.proofs.Common.{length, refl, sym, ap, ◌∙◌, arith, ◌⊎◌, inl, inr}
use Rattle.std.specs.Prelude.{slice_index}
use Rattle.std.specs.Option.{option_or}
use Rattle.std.proofs.lemmas.Bool.Decides.{nat_tests}
use Rattle.std.proofs.lemmas.Bool.{eqb-true}
use Rattle.sig_base.specs.declared.value.Value.{Value}
use Rattle.sig_base.specs.declared.value.Known.{Known}
use Rattle.sig_base.specs.declared.value.Outcome.{Outcome}
use Rattle.sig_base.specs.declared.value.Outcome.TheVariants.{Good, Bad}
use Rattle.sig_base.specs.declared.value.Step.{Step}
use Rattle.sig_base.specs.declared.value.Step.TheVariants.{Read, Done, Fail}
use Rattle.signal_model.specs.Recipes.{Hosts, Recipe, given_answer, recipe_answer}
use Rattle.signal_model.specs.Signals.{Signals, Computed, Cell, IsGone, IsComputed, is_in, standing, changed}
use Rattle.signal_model.specs.Signals.{cell_at, computed_at, or_computed}
use Rattle.signal_model.specs.Values.{Evaluation, learnt, after_read, after_step, asked_within, unknown_slots, value_of, evaluated, reads_of}
use Rattle.signal_model.specs.Orders.{Visit, evaluation_order}
use Rattle.signal_model.specs.Memos.{Memo, Entry, Memos, entry_at, memo_in, sources_in, sources_of, source_names, must_run}
use Rattle.signal_model.specs.Settling.{Settled, source_now, ran_entry, with_run, settle_visit, settle_visits}
use Rattle.signal_model.specs.Sound.{names_of}
use Rattle.signal_model.specs.Changes.{after_making, raised, memo_rewired}
use Rattle.signal_model.specs.Changes.{entry_rewired}
use Rattle.signal_model.specs.Changes.{without_signal, after_disposal}
use Rattle.signal_model.specs.Laws.{IsRead}
use Rattle.signal_model.proofs.Shared.{read_new, tested}
use Rattle.signal_model.specs.Kept.{AreGiven}
use Rattle.signal_model.specs.Signals.{is_there}
use Rattle.signal_laws.specs.ChangeLaws.{GivenNextLaw, GivenEmptyLaw, GivenMoreLaw, GivenCellLaw, GivenComputedLaw, GivenSetLaw, GivenRewireLaw, GivenDisposeLaw}
use Rattle.signal_laws.specs.ChangeLaws.{GivenSettleLaw}
use Rattle.signal_laws.proofs.LookUps.{found_changed, found_append, found_out, found_left}
use Rattle.signal_laws.proofs.AfterChange.{set_back, set_kind, rewire_kind}
use Rattle.signal_laws.proofs.AfterRun.{new_memo, names_now}
use Rattle.signal_laws.proofs.CleanVisits.{comp_is, is_in-read}
use Rattle.signal_laws.specs.OrderLaws.{AreOrdered}
use Rattle.signal_laws.proofs.PlacedVisits.{places_law}
use Rattle.signal_laws.proofs.Lists.{in_head, in_tail}

-- the next of the names that are given in order
pub given_next_law : GivenNextLaw
given_next_law count =
    record { new = grind (arith, nat_tests); given = grind (arith, nat_tests); stay = λ n below. grind (arith, nat_tests) }

-- nothing stands, so nothing is in use
pub given_empty_law : GivenEmptyLaw
given_empty_law given = record { names = λ n h. cc; slots = λ n m c st on. cc; sources = λ n m on. cc }

-- more names are given
pub given_more_law : GivenMoreLaw
given_more_law before after w k more g = record {
  names = λ n h. more n (g.names n h);
  slots = λ n m c st on. more m (g.slots n m c st on);
  sources = λ n m on. more m (g.sources n m on);
}

-- ---- makings

-- one more cell is no computed
cell_more_back : (x : Option Cell) (y : Option Computed) (b : Bool) (c : Cell) (d : Computed) →
    or_computed (option_or x (cond b (Some c) None)) y ≡ IsComputed d → or_computed x y ≡ IsComputed d
cell_more_back None y true c d h = cc
cell_more_back None y false c d h = h
cell_more_back (Some e) y b c d h = cc

-- what stands with it is it, or stood before
cell_more_there : (x : Option Cell) (y : Option Computed) (b : Bool) (c : Cell) →
    is_there (or_computed (option_or x (cond b (Some c) None)) y) ≡ true →
    (b ≡ true) ⊎ (is_there (or_computed x y) ≡ true)
cell_more_there None y true c h = inl refl
cell_more_there None y false c h = inr h
cell_more_there (Some e) y b c h = inr refl

-- a computed that stands with one more computed is it, or stood before
computed_more_back : (x : Option Cell) (y : Option Computed) (b : Bool) (c d : Computed) →
    or_computed x (option_or y (cond b (Some c) None)) ≡ IsComputed d →
    (c ≡ d) ⊎ (or_computed x y ≡ IsComputed d)
computed_more_back (Some e) y b c d h = cc
computed_more_back None (Some e) b c d h = inr h
computed_more_back None None true c d h = inl (comp_is c d h)
computed_more_back None None false c d h = cc

-- and what stands
computed_more_there : (x : Option Cell) (y : Option Computed) (b : Bool) (c : Computed) →
    is_there (or_computed x (option_or y (cond b (Some c) None))) ≡ true →
    (b ≡ true) ⊎ (is_there (or_computed x y) ≡ true)
computed_more_there (Some e) y b c h = inr refl
computed_more_there None (Some e) b c h = inr refl
computed_more_there None None true c h = inl refl
computed_more_there None None false c h = cc

-- a new entry has no sources
making_sources : (k : Memos) (n x : ℕ) → sources_of (after_making k n) x ≡ sources_of k x
making_sources k n x =
    ap (λ o. sources_in (memo_in o)) (found_append (λ (e : Entry). e.name) x k.entries (record { name = n; number = 0; memo = None })) ∙ go (entry_at x k.entries) (x == n)
  where
    go : (o : Option Entry) (b : Bool) →
        sources_in (memo_in (option_or o (cond b (Some (record { name = n; number = 0; memo = None })) None))) ≡ sources_in (memo_in o)
    go None true = refl
    go None false = refl
    go (Some e) b = refl

-- a cell is made
pub given_cell_law : GivenCellLaw
given_cell_law given w k c new g = record {
  names = λ n h. elim (cell_more_there (cell_at n w.cells) (computed_at n w.computeds) (n == c.name) c
      (sym (ap (λ x. is_there (or_computed x (computed_at n w.computeds))) (found_append (λ (c : Cell). c.name) n w.cells c)) ∙ h)) [
        | inl is ↦ ap given (eqb-true n c.name is) ∙ new
        | inr was ↦ g.names n was
      ];
  slots = λ n m d st on. g.slots n m d
      (cell_more_back (cell_at n w.cells) (computed_at n w.computeds) (n == c.name) c d
      (sym (ap (λ x. or_computed x (computed_at n w.computeds)) (found_append (λ (c : Cell). c.name) n w.cells c)) ∙ st)) on;
  sources = λ n m on. g.sources n m (sym (ap (λ ss. is_in m (source_names ss)) (making_sources k c.name n)) ∙ on);
}

-- a computed is made
pub given_computed_law : GivenComputedLaw
given_computed_law given w k c new slots g = record {
  names = λ n h. elim (computed_more_there (cell_at n w.cells) (computed_at n w.computeds) (n == c.name) c
      (sym (ap (λ x. is_there (or_computed (cell_at n w.cells) x)) (found_append (λ (c : Computed). c.name) n w.computeds c)) ∙ h)) [
        | inl is ↦ ap given (eqb-true n c.name is) ∙ new
        | inr was ↦ g.names n was
      ];
  slots = λ n m d st on. elim (computed_more_back (cell_at n w.cells) (computed_at n w.computeds) (n == c.name) c d
      (sym (ap (λ x. or_computed (cell_at n w.cells) x) (found_append (λ (c : Computed). c.name) n w.computeds c)) ∙ st)) [
        | inl is ↦ slots m (ap (λ (x : Computed). is_in m x.recipe.slots) is ∙ on)
        | inr was ↦ g.slots n m d was on
      ];
  sources = λ n m on. g.sources n m (sym (ap (λ ss. is_in m (source_names ss)) (making_sources k c.name n)) ∙ on);
}

-- ---- changes of what stands

-- a change of an entry that leaves its sources leaves all sources
changed_sources : (g : Entry → Entry) → ((e : Entry) → sources_in (g e).memo ≡ sources_in e.memo) → ((e : Entry) → (g e).name ≡ e.name) →
    (n x : ℕ) (es : List Entry) →
    sources_in (memo_in (entry_at x (changed (λ (e : Entry). e.name) n g es))) ≡ sources_in (memo_in (entry_at x es))
changed_sources g keeps same n x es = ap (λ o. sources_in (memo_in o)) (found_changed (λ (e : Entry). e.name) x n g es same) ∙ go (entry_at x es) (x == n)
  where
    go : (o : Option Entry) (b : Bool) → sources_in (memo_in (option_map (λ e. cond b (g e) e) o)) ≡ sources_in (memo_in o)
    go None b = refl
    go (Some e) true = keeps e
    go (Some e) false = refl

-- a mark of a rewiring leaves the sources
rewired_sources : (m : Option Memo) → sources_in (memo_rewired m) ≡ sources_in m
rewired_sources None = refl
rewired_sources (Some m) = refl

-- a cell is set
pub given_set_law : GivenSetLaw
given_set_law given w k n v g = record {
  names = λ x h. g.names x ((set_kind w n v x).there ∙ h);
  slots = λ x m d st on. g.slots x m d (set_back w n v x d st) on;
  sources = λ x m on. g.sources x m (sym (ap (λ ss. is_in m (source_names ss)) (changed_sources raised (λ e. refl) (λ e. refl) n x k.entries)) ∙ on);
}

-- a computed with another recipe has it, or is as before
recipe_back : (x : Option Cell) (y : Option Computed) (b : Bool) (r : Recipe) (d : Computed) →
    or_computed x (option_map (λ c. cond b (record c { recipe = r }) c) y) ≡ IsComputed d →
    (d.recipe ≡ r) ⊎ (or_computed x y ≡ IsComputed d)
recipe_back (Some e) y b r d h = cc
recipe_back None None b r d h = cc
recipe_back None (Some c) true r d h = inl (ap (λ (x : Computed). x.recipe) (sym (comp_is (record c { recipe = r }) d h)))
recipe_back None (Some c) false r d h = inr h

-- a computed is rewired
pub given_rewire_law : GivenRewireLaw
given_rewire_law given w k n r slots g = record {
  names = λ x h. g.names x ((rewire_kind w n r x).there ∙ h);
  slots = λ x m d st on. elim (recipe_back (cell_at x w.cells) (computed_at x w.computeds) (x == n) r d
      (sym (ap (λ y. or_computed (cell_at x w.cells) y) (found_changed (λ (c : Computed). c.name) x n (λ c. record c { recipe = r }) w.computeds (λ c. refl))) ∙ st)) [
        | inl is ↦ slots m (ap (λ (y : Recipe). is_in m y.slots) (sym is) ∙ on)
        | inr was ↦ g.slots x m d was on
      ];
  sources = λ x m on. g.sources x m
      (sym (ap (λ ss. is_in m (source_names ss)) (changed_sources entry_rewired (λ e. rewired_sources e.memo) (λ e. refl) n x k.entries)) ∙ on);
}

-- a signal is disposed
pub given_dispose_law : GivenDisposeLaw
given_dispose_law given w k n g = record {
  names = λ x h. elim (tested (x == n)) [
    | inr off ↦ g.names x (ap is_there (sym (other x off)) ∙ h)
    | inl on ↦
        cc (sym (ap is_there (gone x on)) ∙ h)
  ];
  slots = λ x m d st on. elim (tested (x == n)) [ inr off ↦ g.slots x m d (sym (other x off) ∙ st) on | inl is ↦ cc (sym (gone x is) ∙ st) ];
  sources = λ x m on. elim (tested (x == n)) [
    | inr off ↦ g.sources x m (sym (ap (λ o. is_in m (source_names (sources_in (memo_in o)))) (found_left (λ (e : Entry). e.name) x n k.entries off)) ∙ on)
    | inl is ↦
        let none : entry_at x (after_disposal k n).entries ≡ None = ap (λ y. entry_at y (after_disposal k n).entries) (eqb-true x n is)
        ∙ found_out (λ (e : Entry). e.name) n k.entries in
        cc (sym (ap (λ o. is_in m (source_names (sources_in (memo_in o)))) none) ∙ on)
  ];
}
  where
    other : (x : ℕ) → (x == n) ≡ false → standing (without_signal w n) x ≡ standing w x
    other x off =
        let a : cell_at x (without_signal w n).cells ≡ cell_at x w.cells = found_left (λ (c : Cell). c.name) x n w.cells off in
        let b : computed_at x (without_signal w n).computeds ≡ computed_at x w.computeds = found_left (λ (c : Computed). c.name) x n w.computeds off in
        (λ i. or_computed (a i) (b i))

    gone : (x : ℕ) → (x == n) ≡ true → standing (without_signal w n) x ≡ IsGone
    gone x on =
        let a : cell_at n (without_signal w n).cells ≡ None = found_out (λ (c : Cell). c.name) n w.cells in
        let b : computed_at n (without_signal w n).computeds ≡ None = found_out (λ (c : Computed). c.name) n w.computeds in
        ap (standing (without_signal w n)) (eqb-true x n on) ∙ (λ i. or_computed (a i) (b i))

-- ---- settling

-- a place of a list has one of its names
place_in : (slots : List ℕ) (s : ℕ) → s < length slots → is_in (slice_index slots s) slots ≡ true
place_in [] s lt = absurd (omega arith)
place_in (n ∷ ns) zero lt = in_head n ns
place_in (n ∷ ns) (suc s) lt = let less : s < length ns = omega arith in in_tail (slice_index ns s) n ns (place_in ns s less)

-- after a read
read_in : (slots : List ℕ) (n m : ℕ) (o : Outcome) (f : Value → Evaluation) → is_in n slots ≡ true →
    ((v : Value) → IsRead m (f v).reads → is_in m slots ≡ true) →
    IsRead m (after_read n o f).reads → is_in m slots ≡ true
read_in slots n m (Bad e) f here rest read = elim read [ inl is ↦ ap (λ x. is_in x slots) is ∙ here | inr none ↦ absurd none ]
read_in slots n m (Good v) f here rest read = elim read [ inl is ↦ ap (λ x. is_in x slots) is ∙ here | inr more ↦ rest v more ]

-- what a recipe reads is among its slots
asked_in : (t : ℕ) (hosts : Hosts) (r : Recipe) (source : ℕ → Outcome) (known : List Known) (m : ℕ) →
    IsRead m (asked_within t hosts r source known).reads → is_in m r.slots ≡ true
asked_in zero hosts r source known m read = absurd read
asked_in (suc t) hosts r source known m read =
    go (recipe_answer hosts r known) refl read (λ s v more. asked_in t hosts r source (learnt known s v) m more)
  where
    go : (st : Step) → recipe_answer hosts r known ≡ st →
        IsRead m (after_step st r.slots source (λ s v. asked_within t hosts r source (learnt known s v))).reads →
        ((s : ℕ) (v : Value) → IsRead m (asked_within t hosts r source (learnt known s v)).reads → is_in m r.slots ≡ true) → is_in m r.slots ≡ true
    go (Done v) e now rest = absurd now
    go (Fail x) e now rest = absurd now
    go (Read s) e now rest =
        read_in r.slots (slice_index r.slots s) m (source (slice_index r.slots s)) (λ v. asked_within t hosts r source (learnt known s v))
        (place_in r.slots s (read_new (length r.slots) known (given_answer hosts r.expression known) s e).inside) (rest s) now

-- a run leaves its own sources, or those that were there
run_sources : (k : Memos) (n x : ℕ) (ran : Evaluation) →
    (sources_of (with_run k n ran) x ≡ sources_of k x) ⊎ ((x ≡ n) × (sources_of (with_run k n ran) x ≡ map (source_now k) ran.reads))
run_sources k n x ran = elim (go (entry_at x k.entries) (x == n) refl) [ inl old ↦ inl (eq ∙ old) | inr new ↦ inr (new.0, eq ∙ new.1) ]
  where
    eq : sources_of (with_run k n ran) x ≡ sources_in
        (memo_in (option_map (λ e. cond (x == n) (ran_entry (new_memo k ran.outcome (map (source_now k) ran.reads)) e) e) (entry_at x k.entries)))
    eq = ap (λ o. sources_in (memo_in o))
        (found_changed (λ (e : Entry). e.name) x n (ran_entry (new_memo k ran.outcome (map (source_now k) ran.reads))) k.entries (λ e. refl))

    go : (o : Option Entry) (b : Bool) → (x == n) ≡ b →
        (sources_in (memo_in (option_map (λ e. cond b (ran_entry (new_memo k ran.outcome (map (source_now k) ran.reads)) e) e) o)) ≡ sources_in
        (memo_in o)) ⊎ ((x ≡ n) × (sources_in
        (memo_in (option_map (λ e. cond b (ran_entry (new_memo k ran.outcome (map (source_now k) ran.reads)) e) e) o)) ≡ map
        (source_now k) ran.reads))
    go None b e = inl refl
    go (Some r) false e = inl refl
    go (Some r) true e = inr (eqb-true x n e, refl)

-- a run reads what was given
given_run : (hosts : Hosts) (given : ℕ → Bool) (w : Signals) (k : Memos) (c : Computed) → standing w c.name ≡ IsComputed c → AreGiven given w k →
    AreGiven given w (with_run k c.name (evaluated hosts w c []))
given_run hosts given w k c st g = record {
  names = g.names;
  slots = g.slots;
  sources = λ x m on. elim (run_sources k c.name x (evaluated hosts w c [])) [
    | inl old ↦ g.sources x m (sym (ap (λ ss. is_in m (source_names ss)) old) ∙ on)
    | inr new ↦
        let named : is_in m (names_of (reads_of hosts w c)) ≡ true =
        sym (ap (is_in m) (ap source_names new.1 ∙ names_now k (reads_of hosts w c))) ∙ on in
        let read : IsRead m (reads_of hosts w c) = is_in-read m (reads_of hosts w c) named in
        g.slots c.name m c st (asked_in (suc (unknown_slots (length c.recipe.slots) [])) hosts c.recipe
        (λ j. value_of hosts w j (c.name ∷ [])) [] m read)
  ];
}

-- so do the visits of an evaluation
given_visits : (hosts : Hosts) (given : ℕ → Bool) (w : Signals) (seen : List ℕ) (vs : List Visit) (s : Settled) → AreOrdered hosts w seen vs →
    AreGiven given w s.memos → AreGiven given w (settle_visits hosts w vs s).memos
given_visits hosts given w seen [] s o g = g
given_visits hosts given w seen (v ∷ vs) s o g = given_visits hosts given w (v.computed.name ∷ seen) vs (settle_visit hosts w v s) o.1
    (go (must_run s.memos v.computed.name v.path))
  where
    go : (b : Bool) → AreGiven given w (cond b (record {
      memos = with_run s.memos v.computed.name (evaluated hosts w v.computed []);
      runs = s.runs ++ record { name = v.computed.name; evaluation = evaluated hosts w v.computed [] } ∷ [];
    }) s).memos
    go false = g
    go true = given_run hosts given w s.memos v.computed o.0.stands g

-- settling uses no more names
pub given_settle_law : GivenSettleLaw
given_settle_law hosts given w k asked g = given_visits hosts given w [] (evaluation_order hosts w asked) (record { memos = k; runs = [] })
    (places_law hosts w asked).ordered g
