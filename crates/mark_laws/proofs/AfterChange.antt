-- Each edit keeps dependants and marks true.
use Rattle.std.proofs.Common.{◌≡◌, ℕ, ◌==◌, ◌||◌, ◌&&◌, not, Bool, true, false, cond, List, [], ◌∷◌, ◌++◌, Option, Some, None, map, refl, sym, ap, ◌∙◌, subst, ◌⊎◌, inl, inr, true≢false, is_some}
use Rattle.std.proofs.lemmas.Bool.{eqb-true, eq-eqb}
use Rattle.sig_base.specs.declared.value.Outcome.{Outcome}
use Rattle.signal_model.specs.Signals.{Signals, Cell, Computed, IsGone, is_computed, is_in, is_there, or_computed, standing, cell_at, computed_at}
use Rattle.signal_model.specs.Memos.{Memo, Entry, Memos, entry_at, number_in, memo_in, memo_of, number_of, sources_in, sources_of, source_names, keeps, named_now, memo_is_cycle, holds_cycle, must_run, same_number, is_cycle, some_moved}
use Rattle.signal_model.specs.Settling.{ran_entry, with_memo}
use Rattle.signal_model.specs.Changes.{with_cell, with_computed, after_making, with_value, after_change, with_recipe, after_rewiring, without_signal, after_disposal}
use Rattle.signal_model.proofs.Shared.{tested}
use Rattle.signal_laws.proofs.Shared.{found_other, found_same, found_out, found_more, found_new, Calm, calm_of}
use Rattle.mark_laws.specs.Marked.{IsUnmarked, AreMarked, IsUnused, some_marked, run_unmarks, stop_unmarks, ended, with_flag, relinked, unlinked}
use Rattle.mark_laws.specs.MarkLaws.{SetMarksLaw, RewireMarksLaw, DisposeMarksLaw, BeginMarksLaw, RunMarksLaw, StopMarksLaw, CellMarksLaw, ComputedMarksLaw}
use Rattle.mark_laws.proofs.Edited.{IsEdit, set_edit, rewire_edit, dispose_edit, no_edit, IsMild, set_mild, rewire_mild, unmoved}
use Rattle.mark_laws.proofs.Marks.{pushed, start_of, on_of, mild_links, mild_owners}

pub set_marks_law : SetMarksLaw
set_marks_law w k dependants t u computing n c v is marks spread =
    let stands : is_there (standing w n) ≡ true = ap is_there is in
    let mild : IsMild w k (with_value w n v) (after_change k n) = set_mild w k n v in
    record {
      links = mild_links w k (with_value w n v) (after_change k n) dependants mild marks.links;
      clean = pushed w k (with_value w n v) (after_change k n) t u n (set_edit w k n v) spread.more (start_of w k dependants t u n stands marks.links spread) (on_of w k dependants t u n marks.links spread)
          (λ h. absurd (true≢false (sym h ∙ mild.kind n ∙ ap is_computed is))) marks.clean;
      running = λ m b. spread.more m (marks.running m b);
      owners = mild_owners w k (with_value w n v) (after_change k n) mild marks.owners;
    }

pub rewire_marks_law : RewireMarksLaw
rewire_marks_law w k dependants t u computing n c r is marks spread here =
    let stands : is_there (standing w n) ≡ true = ap is_there is in
    let mild : IsMild w k (with_recipe w n r) (after_rewiring k n) = rewire_mild w k n r in
    record {
      links = mild_links w k (with_recipe w n r) (after_rewiring k n) dependants mild marks.links;
      clean = pushed w k (with_recipe w n r) (after_rewiring k n) t u n (rewire_edit w k n r) spread.more (start_of w k dependants t u n stands marks.links spread) (on_of w k dependants t u n marks.links spread)
          (λ h. here) marks.clean;
      running = λ m b. spread.more m (marks.running m b);
      owners = mild_owners w k (with_recipe w n r) (after_rewiring k n) mild marks.owners;
    }

pub gone_after : (w : Signals) (n : ℕ) → standing (without_signal w n) n ≡ IsGone
gone_after w n = (λ i. or_computed (found_out (λ (c : Cell). c.name) n w.cells i) (found_out (λ (c : Computed). c.name) n w.computeds i))

pub dispose_marks_law : DisposeMarksLaw
dispose_marks_law w k dependants t u computing n stands marks spread =
    let edit : IsEdit w k (without_signal w n) (after_disposal k n) n = dispose_edit w k n in
    record {
      links = λ m d s. dependants_after m d s (tested (d == n));
      clean = pushed w k (without_signal w n) (after_disposal k n) t u n edit spread.more (start_of w k dependants t u n stands marks.links spread) (on_of w k dependants t u n marks.links spread)
          (λ h. absurd (true≢false (sym h ∙ ap is_computed (gone_after w n)))) marks.clean;
      running = λ m b. spread.more m (marks.running m (flag m b));
      owners = λ m x at. owner m x at (tested (m == n));
    }
  where
    flag : (m : ℕ) → with_flag computing n false m ≡ true → computing m ≡ true
    flag m b = go (n == m) b
      where
        go : (z : Bool) → cond z false (computing m) ≡ true → computing m ≡ true
        go true q = cc
        go false q = q

    none : memo_of (after_disposal k n) n ≡ None
    none = ap memo_in (found_out (λ (e : Entry). e.name) n k.entries)

    apart : (m : ℕ) → is_there (standing (without_signal w n) m) ≡ true → (m == n) ≡ false
    apart m s = elim (tested (m == n)) [
      | inr no' ↦ no'
      | inl same ↦ let e : m ≡ n = eqb-true m n same in absurd (true≢false (sym (subst (λ z. is_there (standing (without_signal w n) z) ≡ true) e s) ∙ ap is_there (gone_after w n)))
    ]

    turned : (d : ℕ) (b : Bool) → (d == n) ≡ b → (n == d) ≡ b
    turned d true e = let z : d ≡ n = eqb-true d n e in eq-eqb n d (sym z)
    turned d false e = go (tested (n == d))
      where
        go : ((n == d) ≡ true) ⊎ ((n == d) ≡ false) → (n == d) ≡ false
        go (inr q) = q
        go (inl q) = absurd (true≢false (sym (eq-eqb d n (sym (eqb-true n d q))) ∙ e))

    dependants_after : (m d : ℕ) → is_there (standing (without_signal w n) m) ≡ true → ((d == n) ≡ true) ⊎ ((d == n) ≡ false) → unlinked dependants n m d ≡ keeps (after_disposal k n) d m
    dependants_after m d s (inl same) =
        let e : d ≡ n = eqb-true d n same in
        ap (λ b. cond b false (dependants m d)) (turned d true same)
        ∙ sym (ap (λ z. keeps (after_disposal k n) z m) e ∙ ap (λ x. is_in m (source_names (sources_in x))) none)
    dependants_after m d s (inr other) =
        ap (λ b. cond b false (dependants m d)) (turned d false other)
        ∙ marks.links m d (sym ((dispose_edit w k n).gone m (apart m s)) ∙ s)
        ∙ sym (ap (λ x. is_in m (source_names (sources_in x))) ((dispose_edit w k n).memo d other))

    owner : (m : ℕ) (x : Memo) → memo_of (after_disposal k n) m ≡ Some x → ((m == n) ≡ true) ⊎ ((m == n) ≡ false) → is_computed (standing (without_signal w n) m) ≡ true
    owner m x at (inl same) = absurd (true≢false (sym (ap is_some (sym none ∙ subst (λ z. memo_of (after_disposal k n) z ≡ Some x) (eqb-true m n same) at))))
    owner m x at (inr other) = (dispose_edit w k n).kind m other ∙ marks.owners m x (sym ((dispose_edit w k n).memo m other) ∙ at)

pub begin_marks_law : BeginMarksLaw
begin_marks_law w k dependants t u computing n c is marks spread here =
    let stands : is_there (standing w n) ≡ true = ap is_there is in
    record {
      links = marks.links;
      clean = pushed w k w k t u n (no_edit w k n) spread.more (start_of w k dependants t u n stands marks.links spread) (on_of w k dependants t u n marks.links spread) (λ h. here) marks.clean;
      running = λ m b. go m (tested (n == m)) b;
      owners = marks.owners;
    }
  where
    go : (m : ℕ) → ((n == m) ≡ true) ⊎ ((n == m) ≡ false) → with_flag computing n true m ≡ true → u m ≡ true
    go m (inl same) b = subst (λ z. u z ≡ true) (eqb-true n m same) here
    go m (inr other) b = spread.more m (marks.running m (sym (ap (λ z. cond z true (computing m)) other) ∙ b))

-- a flag that is taken away
flag_off : (computing : ℕ → Bool) (n m : ℕ) → with_flag computing n false m ≡ true → ((n == m) ≡ false) × (computing m ≡ true)
flag_off computing n m b = go (n == m) refl b
  where
    go : (z : Bool) → (n == m) ≡ z → cond z false (computing m) ≡ true → ((n == m) ≡ false) × (computing m ≡ true)
    go true e q = cc
    go false e q = (e, q)

-- no marked computed is among them
unmarked_all : (w : Signals) (t : ℕ → Bool) (ms : List ℕ) (m : ℕ) → some_marked w t ms ≡ false → is_in m ms ≡ true → is_computed (standing w m) ≡ true → t m ≡ false
unmarked_all w t [] m h q c = cc
unmarked_all w t (x ∷ xs) m h q c = go (tested (m == x)) (λ a b. unmarked_all w t xs m a b c)
  where
    fst : (a b : Bool) → (a || b) ≡ false → a ≡ false
    fst true b h = cc
    fst false b h = refl

    snd : (a b : Bool) → (a || b) ≡ false → b ≡ false
    snd true b h = cc
    snd false b h = h

    both : (a b : Bool) → (a && b) ≡ false → a ≡ true → b ≡ false
    both true b h e = h
    both false b h e = cc

    go : ((m == x) ≡ true) ⊎ ((m == x) ≡ false) → (some_marked w t xs ≡ false → is_in m xs ≡ true → t m ≡ false) → t m ≡ false
    go (inl same) ih =
        let e : m ≡ x = eqb-true m x same in
        let here : (is_computed (standing w x) && t x) ≡ false = fst (is_computed (standing w x) && t x) (some_marked w t xs) h in
        subst (λ z. t z ≡ false) (sym e) (both (is_computed (standing w x)) (t x) here (subst (λ z. is_computed (standing w z) ≡ true) e c))
    go (inr other) ih = ih (snd (is_computed (standing w x) && t x) (some_marked w t xs) h) (sym (ap (λ b. b || is_in m xs) other) ∙ q)

-- what is unmarked
record Unmarks (w : Signals) (t : ℕ → Bool) (o : Outcome) (reads : List ℕ) : Type 0 where
  fine : is_cycle o ≡ false
  calm : some_marked w t reads ≡ false

unmarks_of : (w : Signals) (t : ℕ → Bool) (o : Outcome) (reads : List ℕ) → run_unmarks w t o reads ≡ true → Unmarks w t o reads
unmarks_of w t o reads h = go (is_cycle o) (some_marked w t reads) refl refl h
  where
    go : (a b : Bool) → is_cycle o ≡ a → some_marked w t reads ≡ b → (not a && not b) ≡ true → Unmarks w t o reads
    go false false e f q = record { fine = e; calm = f }
    go false true e f q = cc
    go true b e f q = cc

-- what an end leaves unmarked
ended_off : (t : ℕ → Bool) (n : ℕ) (f : Bool) (m : ℕ) → t n ≡ true → ended t n f m ≡ false → ((n == m) ≡ true × (f ≡ true)) ⊎ ((n == m) ≡ false × (t m ≡ false))
ended_off t n f m on h = go (n == m) refl f refl h
  where
    go : (b : Bool) → (n == m) ≡ b → (g : Bool) → f ≡ g → cond b (cond g false (t m)) (t m) ≡ false → ((n == m) ≡ true × (f ≡ true)) ⊎ ((n == m) ≡ false × (t m ≡ false))
    go false e g r q = inr (e, q)
    go true e true r q = inl (e, r)
    go true e false r q = absurd (true≢false (sym on ∙ ap t (eqb-true n m e) ∙ q))

-- and it touches nothing
ended_less : (t : ℕ → Bool) (n : ℕ) (f : Bool) (m : ℕ) → t m ≡ false → ended t n f m ≡ false
ended_less t n f m h = go (n == m) f
  where
    go : (b g : Bool) → cond b (cond g false (t m)) (t m) ≡ false
    go false g = h
    go true true = refl
    go true false = h

-- it stays marked while another is computing
ended_running : (t computing : ℕ → Bool) (n : ℕ) (f : Bool) (m : ℕ) → ((m' : ℕ) → computing m' ≡ true → t m' ≡ true) → with_flag computing n false m ≡ true → ended t n f m ≡ true
ended_running t computing n f m run b =
    let x : ((n == m) ≡ false) × (computing m ≡ true) = flag_off computing n m b in
    ap (λ z. cond z (cond f false (t m)) (t m)) x.0 ∙ run m x.1

-- three tests that fail
three_off : (a b c : Bool) → (not a && (not b && not c)) ≡ true → (a ≡ false) × (b ≡ false) × (c ≡ false)
three_off true b c h = cc
three_off false true c h = cc
three_off false false true h = cc
three_off false false false h = (refl, refl, refl)

pub stop_marks_law : StopMarksLaw
stop_marks_law w k dependants t computing n c is running marks = record {
  links = marks.links;
  clean = λ d kind off. by d kind (ended_off t n f d (marks.running n running) off);
  running = λ m b. ended_running t computing n f m marks.running b;
  owners = marks.owners;
}
  where
    f : Bool
    f = stop_unmarks w k t n

    by : (d : ℕ) → is_computed (standing w d) ≡ true → ((n == d) ≡ true × (f ≡ true)) ⊎ ((n == d) ≡ false × (t d ≡ false)) → IsUnmarked w k (ended t n f) d
    by d kind (inr x) =
        let old : IsUnmarked w k t d = marks.clean d kind x.1 in
        record { memo = old.memo; at = old.at; fine = old.fine; wired = old.wired; current = old.current; sources = λ m q s. ended_less t n f m (old.sources m q s) }
    by d kind (inl x) =
        let p : (must_run k n [] ≡ false) × (holds_cycle k n ≡ false) × (some_marked w t (source_names (sources_of k n)) ≡ false) =
        three_off (must_run k n []) (holds_cycle k n) (some_marked w t (source_names (sources_of k n))) x.1 in
        subst (λ z. IsUnmarked w k (ended t n f) z) (eqb-true n d x.0) (here p.1 p.2 (calm_of k n p.0))
      where
        here : holds_cycle k n ≡ false → some_marked w t (source_names (sources_of k n)) ≡ false → Calm k n → IsUnmarked w k (ended t n f) n
        here fine calm q = elim q.case [
          | inl cy ↦ absurd (true≢false (sym cy.0 ∙ sym (ap memo_is_cycle q.at) ∙ fine))
          | inr ok ↦ record {
            memo = q.memo;
            at = q.at;
            fine = ok.0;
            wired = ok.1;
            current = ok.2;
            sources = λ m isin s. ended_less t n f m (unmarked_all w t (source_names (sources_of k n)) m calm
                (ap (λ x. is_in m (source_names (sources_in x))) q.at ∙ isin) s);
          }
        ]

-- the names of sources with their present numbers
pub names_now : (k : Memos) (ms : List ℕ) → source_names (map (named_now k) ms) ≡ ms
names_now k [] = refl
names_now k (m ∷ ms) = ap (λ xs. m ∷ xs) (names_now k ms)

-- none has moved since
now_still : (k : Memos) (ms : List ℕ) → some_moved k [] (map (named_now k) ms) ≡ false
now_still k [] = refl
now_still k (m ∷ ms) = let e : same_number (number_of k m) (number_of k m) ≡ true = same (number_of k m) in rw e (now_still k ms)
  where
    same : (x : Option ℕ) → same_number x x ≡ true
    same None = refl
    same (Some a) = eq-eqb a a refl

pub run_marks_law : RunMarksLaw
run_marks_law w k dependants t computing n c o reads entry is running at marks = record {
  links = λ m d stands. dependants_after m d stands (tested (d == n));
  clean = λ d kind off. by d kind (ended_off t n f d (marks.running n running) off);
  running = λ m b. ended_running t computing n f m marks.running b;
  owners = λ m x at'. owner m x at' (tested (m == n));
}
  where
    f : Bool
    f = run_unmarks w t o reads

    memo : Memo
    memo = record { outcome = o; sources = map (named_now k) reads; generation = k.generation; rewired = false }

    k' : Memos
    k' = with_memo k n o (map (named_now k) reads)

    kept : memo_of k' n ≡ Some memo
    kept = ap memo_in (found_same (λ (e : Entry). e.name) n (ran_entry memo) k.entries entry (λ e. refl) at)

    other_memo : (m : ℕ) → (m == n) ≡ false → memo_of k' m ≡ memo_of k m
    other_memo m off = ap memo_in (found_other (λ (e : Entry). e.name) m n (ran_entry memo) k.entries (λ e. refl) off)

    other_number : (m : ℕ) → (m == n) ≡ false → number_of k' m ≡ number_of k m
    other_number m off = ap number_in (found_other (λ (e : Entry). e.name) m n (ran_entry memo) k.entries (λ e. refl) off)

    turned : (d : ℕ) (b : Bool) → (d == n) ≡ b → (n == d) ≡ b
    turned d true e = let z : d ≡ n = eqb-true d n e in eq-eqb n d (sym z)
    turned d false e = go (tested (n == d))
      where
        go : ((n == d) ≡ true) ⊎ ((n == d) ≡ false) → (n == d) ≡ false
        go (inr q) = q
        go (inl q) = absurd (true≢false (sym (eq-eqb d n (sym (eqb-true n d q))) ∙ e))

    dependants_after : (m d : ℕ) → is_there (standing w m) ≡ true → ((d == n) ≡ true) ⊎ ((d == n) ≡ false) → relinked dependants n reads m d ≡ keeps k' d m
    dependants_after m d stands (inl same) =
        ap (λ b. cond b (is_in m reads) (dependants m d)) (turned d true same)
        ∙ sym (ap (λ z. keeps k' z m) (eqb-true d n same) ∙ ap (λ x. is_in m (source_names (sources_in x))) kept ∙ ap (is_in m) (names_now k reads))
    dependants_after m d stands (inr other) =
        ap (λ b. cond b (is_in m reads) (dependants m d)) (turned d false other) ∙ marks.links m d stands ∙ sym (ap (λ x. is_in m (source_names (sources_in x))) (other_memo d other))

    -- n is marked, so what is unmarked doesn't keep it
    apart : (ms : List ℕ) → ((m : ℕ) → is_in m ms ≡ true → is_computed (standing w m) ≡ true → t m ≡ false) → (m : ℕ) → is_in m ms ≡ true → (m == n) ≡ false
    apart ms h m q = elim (tested (m == n)) [
      | inr no' ↦ no'
      | inl same ↦
          let e : m ≡ n = eqb-true m n same in
          absurd (true≢false (sym (marks.running n running) ∙ h n (subst (λ z. is_in z ms ≡ true) e q) (ap is_computed is)))
    ]

    by : (d : ℕ) → is_computed (standing w d) ≡ true → ((n == d) ≡ true × (f ≡ true)) ⊎ ((n == d) ≡ false × (t d ≡ false)) → IsUnmarked w k' (ended t n f) d
    by d kind (inr x) =
        let old : IsUnmarked w k t d = marks.clean d kind x.1 in
        record {
          memo = old.memo;
          at = other_memo d (back x.0) ∙ old.at;
          fine = old.fine;
          wired = old.wired;
          current = unmoved k k' old.memo.sources (λ m q. other_number m (apart (source_names old.memo.sources) old.sources m q)) ∙ old.current;
          sources = λ m q s. ended_less t n f m (old.sources m q s);
        }
      where
        back : (n == d) ≡ false → (d == n) ≡ false
        back e = elim (tested (d == n)) [ inr q ↦ q | inl q ↦ absurd (true≢false (sym (turned d true q) ∙ e)) ]
    by d kind (inl x) = subst (λ z. IsUnmarked w k' (ended t n f) z) (eqb-true n d x.0) (here (unmarks_of w t o reads x.1))
      where
        named : (m : ℕ) → is_in m (source_names (map (named_now k) reads)) ≡ true → is_in m reads ≡ true
        named m q = sym (ap (is_in m) (names_now k reads)) ∙ q

        here : Unmarks w t o reads → IsUnmarked w k' (ended t n f) n
        here free = record {
          memo = memo;
          at = kept;
          fine = free.fine;
          wired = refl;
          current = unmoved k k' (map (named_now k) reads) (λ m q. other_number m (apart reads (λ z u s. unmarked_all w t reads z free.calm u s) m (named m q))) ∙ now_still k reads;
          sources = λ m q s. ended_less t n f m (unmarked_all w t reads m free.calm (named m q) s);
        }

    owner : (m : ℕ) (x : Memo) → memo_of k' m ≡ Some x → ((m == n) ≡ true) ⊎ ((m == n) ≡ false) → is_computed (standing w m) ≡ true
    owner m x at' (inl same) = subst (λ z. is_computed (standing w z) ≡ true) (sym (eqb-true m n same)) (ap is_computed is)
    owner m x at' (inr other) = marks.owners m x (sym (other_memo m other) ∙ at')

-- ---- makings

-- a new name that isn't an unmarked computed
made : (w w' : Signals) (k : Memos) (dependants : ℕ → ℕ → Bool) (t computing : ℕ → Bool) (n : ℕ) → IsUnused k n → ((d : ℕ) → dependants n d ≡ false) → ((m : ℕ) → (m == n) ≡ false → standing w' m ≡ standing w m) →
    (is_computed (standing w' n) ≡ true → t n ≡ true) → AreMarked w k dependants t computing → AreMarked w' (after_making k n) dependants t computing
made w w' k dependants t computing n new none others here marks = record {
  links = λ m d s. dependants_after m d s (tested (m == n));
  clean = pushed w k w' k' t t n edit (λ m q. q) (λ d q. absurd (true≢false (sym q ∙ unkept d))) (λ m d c off on q. absurd (true≢false (sym on ∙ off))) here marks.clean;
  running = marks.running;
  owners = λ m x at. owner m x at (tested (m == n));
}
  where
    x : Entry
    x = record { name = n; number = 0; memo = None }

    k' : Memos
    k' = after_making k n

    edit : IsEdit w k w' k' n
    edit = record {
      kind = λ m off. ap is_computed (others m off);
      gone = λ m off. ap is_there (others m off);
      number = λ m off. ap number_in (found_more (λ (e : Entry). e.name) m k.entries x off);
      memo = λ m off. ap memo_in (found_more (λ (e : Entry). e.name) m k.entries x off);
    }

    unkept : (d : ℕ) → keeps k d n ≡ false
    unkept d = new.unread d

    fresh : memo_of k' n ≡ None
    fresh = ap memo_in (found_new (λ (e : Entry). e.name) k.entries x new.entry)

    was : memo_of k n ≡ None
    was = ap memo_in new.entry

    same_memo : (d : ℕ) → memo_of k' d ≡ memo_of k d
    same_memo d = elim (tested (d == n)) [
      | inr off ↦ ap memo_in (found_more (λ (e : Entry). e.name) d k.entries x off)
      | inl on ↦ subst (λ z. memo_of k' z ≡ memo_of k z) (sym (eqb-true d n on)) (fresh ∙ sym was)
    ]

    dependants_after : (m d : ℕ) → is_there (standing w' m) ≡ true → ((m == n) ≡ true) ⊎ ((m == n) ≡ false) → dependants m d ≡ keeps k' d m
    dependants_after m d s (inr off) = marks.links m d (sym (ap is_there (others m off)) ∙ s) ∙ ap (λ z. is_in m (source_names (sources_in z))) (sym (same_memo d))
    dependants_after m d s (inl on) = subst (λ z. dependants z d ≡ keeps k' d z) (sym (eqb-true m n on)) (none d ∙ sym (unkept d) ∙ ap (λ z. is_in n (source_names (sources_in z))) (sym (same_memo d)))

    owner : (m : ℕ) (y : Memo) → memo_of k' m ≡ Some y → ((m == n) ≡ true) ⊎ ((m == n) ≡ false) → is_computed (standing w' m) ≡ true
    owner m y at (inr off) = ap is_computed (others m off) ∙ marks.owners m y (sym (same_memo m) ∙ at)
    owner m y at (inl on) = absurd (true≢false (sym (ap is_some (sym fresh ∙ subst (λ z. memo_of k' z ≡ Some y) (eqb-true m n on) at))))

-- a cell that stands shows at its name
cell_shown : (n : ℕ) (es : List Cell) (x : Cell) (y : Option Computed) → n ≡ x.name → is_computed (or_computed (cell_at n (es ++ x ∷ [])) y) ≡ false
cell_shown n [] x y is = let e : (n == x.name) ≡ true = eq-eqb n x.name is in rw e refl
cell_shown n (e ∷ es) x y is = go (n == e.name) (cell_shown n es x y is)
  where
    go : (b : Bool) → is_computed (or_computed (cell_at n (es ++ x ∷ [])) y) ≡ false → is_computed (or_computed (cond b (Some e) (cell_at n (es ++ x ∷ []))) y) ≡ false
    go true ih = refl
    go false ih = ih

pub cell_marks_law : CellMarksLaw
cell_marks_law w k dependants t computing c new none marks =
    made w (with_cell w c) k dependants t computing c.name new none (λ m off. ap (λ z. or_computed z (computed_at m w.computeds)) (found_more (λ (c : Cell). c.name) m w.cells c off))
    (λ h. absurd (true≢false (sym h ∙ cell_shown c.name w.cells c (computed_at c.name w.computeds) refl))) marks

pub computed_marks_law : ComputedMarksLaw
computed_marks_law w k dependants t computing c new none here marks =
    made w (with_computed w c) k dependants t computing c.name new none (λ m off. ap (λ z. or_computed (cell_at m w.cells) z) (found_more (λ (c : Computed). c.name) m w.computeds c off)) (λ h. here) marks
