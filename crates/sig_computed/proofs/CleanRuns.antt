-- What is clean reads what is clean, and stays clean when another runs.
use Rattle.std.proofs.Common.{◌≡◌, ℕ, ◌==◌, ◌||◌, ◌&&◌, not, true, false, cond, List, [], ◌∷◌, Option, Some, None, refl, sym, ap, ◌∙◌, subst, inl, inr}
use Rattle.std.proofs.lemmas.Bool.{eqb-true}
use Rattle.sig_base.specs.declared.value.Outcome.{Outcome}
use Rattle.signal_model.specs.Recipes.{Hosts}
use Rattle.signal_model.specs.Signals.{Signals, Computed, IsComputed, is_computed, is_in, standing}
use Rattle.signal_model.specs.Values.{reads_of}
use Rattle.signal_model.specs.Memos.{Source, Memo, Memos, memo_in, number_in, memo_of, number_of, sources_in, source_names, keeps, same_number, is_cycle, some_moved, must_run_by, must_run}
use Rattle.signal_model.specs.Settling.{with_memo}
use Rattle.signal_model.specs.Marks.{Clean, mark_of, IsMark, IsBelow, kept, kept_below}
use Rattle.signal_model.specs.Kept.{OnlyComputedsKeep, AreKept}
use Rattle.signal_model.specs.Laws.{IsRead, IsChain}
use Rattle.signal_model.proofs.Shared.{tested, mark_law}
use Rattle.signal_laws.specs.CleanLaws.{IsUpToDate}
use Rattle.signal_laws.proofs.Shared.{clean_law, quiet_here, is_read-in, in_head, in_tail, run_other}

-- what is below what is below is below
below_on : (k : Memos) (n p m : ℕ) → IsBelow k n p → IsBelow k p m → IsBelow k n m
below_on k n p m (kept on) h = kept_below on h
below_on k n p m (kept_below {p = q} on rest) h = kept_below on (below_on k q p m rest h)

module _ (hosts : Hosts) (w : Signals) (k : Memos) (are_kept : AreKept hosts w k) where
  -- the mark of what is clean
  clean_mark : (n : ℕ) → mark_of w k n ≡ Clean → IsMark w k n Clean
  clean_mark n clean = subst (IsMark w k n) clean (mark_law w k n Clean are_kept.entries.memos).0

  -- a computed below what is clean is clean
  pub clean_below : (n m : ℕ) (d : Computed) → mark_of w k n ≡ Clean → IsBelow k n m → standing w m ≡ IsComputed d → mark_of w k m ≡ Clean
  clean_below n m d clean below st =
      let mark : IsMark w k n Clean = clean_mark n clean in
      let calm : must_run k m [] ≡ false = sym (ap (λ s. is_computed s && must_run k m []) st) ∙ mark.1 m below in
      let at_m : IsMark w k m Clean = (calm, λ x b. mark.1 x (below_on k n m x below b)) in
      sym ((mark_law w k m Clean are_kept.entries.memos).1 at_m)

  -- so is each computed that a clean one reads
  pub clean_read : (n m : ℕ) (c d : Computed) → standing w n ≡ IsComputed c → mark_of w k n ≡ Clean → IsRead m (reads_of hosts w c) →
      standing w m ≡ IsComputed d → mark_of w k m ≡ Clean
  clean_read n m c d st clean read std =
      let up : IsUpToDate hosts w k n c = (clean_law hosts w k n c are_kept.sound st clean).1 in
      let on : keeps k n m ≡ true = ap (λ x. is_in m (source_names (sources_in x))) up.at ∙ ap (is_in m) up.names
      ∙ is_read-in m (reads_of hosts w c) read in
      clean_below n m d clean (kept on) std

  -- ---- another runs

  module _ (f : ℕ) (c : Computed) (path : List ℕ) (st : standing w f ≡ IsComputed c) (chain : IsChain hosts w f path) (due : must_run k f path ≡ true)
      (o : Outcome) (ss : List Source) where
    -- the memos after the run
    abbrev after : Memos
    after = with_memo k f o ss

    -- what is clean didn't run
    isnt : (n : ℕ) → mark_of w k n ≡ Clean → (n == f) ≡ false
    isnt n clean = elim (tested (n == f)) [
      | inr off ↦ off
      | inl on ↦
          let at_f : mark_of w k f ≡ Clean = ap (mark_of w k) (sym (eqb-true n f on)) ∙ clean in
          cc (sym due ∙ quiet_here hosts w k f c path st (clean_mark f at_f).0 (clean_law hosts w k f c are_kept.sound st at_f).1 chain)
    ]

    -- nor did anything below it
    below_isnt : (n : ℕ) → mark_of w k n ≡ Clean → (m : ℕ) → IsBelow k n m → (m == f) ≡ false
    below_isnt n clean m below = elim (tested (m == f)) [
      | inr off ↦ off
      | inl on ↦ isnt m (clean_below n m c clean below (ap (standing w) (eqb-true m f on) ∙ st))
    ]

    -- neither a name nor any below it has run
    record IsApart (n : ℕ) : Type 0 where
      here : (n == f) ≡ false
      below : (m : ℕ) → IsBelow k n m → (m == f) ≡ false

    apart_on : (n m : ℕ) → IsBelow k n m → IsApart n → IsApart m
    apart_on n m h a = record { here = a.below m h; below = λ x b. a.below x (below_on k n m x h b) }

    memo_same : (n : ℕ) → (n == f) ≡ false → memo_of after n ≡ memo_of k n
    memo_same n off = ap memo_in (run_other k f o ss n off)

    number_same : (n : ℕ) → (n == f) ≡ false → number_of after n ≡ number_of k n
    number_same n off = ap number_in (run_other k f o ss n off)

    keeps_same : (n m : ℕ) → (n == f) ≡ false → keeps after n m ≡ keeps k n m
    keeps_same n m off = ap (λ x. is_in m (source_names (sources_in x))) (memo_same n off)

    below_same : (n m : ℕ) → IsApart n → IsBelow after n m → IsBelow k n m
    below_same n m a (kept on) = kept (sym (keeps_same n m a.here) ∙ on)
    below_same n m a (kept_below {p = p} on rest) =
        let on' : keeps k n p ≡ true = sym (keeps_same n p a.here) ∙ on in
        kept_below on' (below_same p m (apart_on n p (kept on') a) rest)

    moved_same : (ls : List Source) → ((m : ℕ) → is_in m (source_names ls) ≡ true → (m == f) ≡ false) → some_moved after [] ls ≡ some_moved k [] ls
    moved_same [] h = refl
    moved_same (s ∷ ls) h =
        let a : number_of after s.name ≡ number_of k s.name = number_same s.name (h s.name (in_head s.name (source_names ls))) in
        let b : some_moved after [] ls ≡ some_moved k [] ls = moved_same ls (λ m on. h m (in_tail m s.name (source_names ls) on)) in
        (λ i. (not (same_number (a i) s.number) || false) || b i)

    must_same : (n : ℕ) → IsApart n → must_run after n [] ≡ must_run k n []
    must_same n a = ap (λ x. must_run_by after x []) (memo_same n a.here) ∙ go (memo_of k n) refl
      where
        go : (x : Option Memo) → memo_of k n ≡ x → must_run_by after x [] ≡ must_run_by k x []
        go None e = refl
        go (Some m) e = ap (λ b. cond (is_cycle m.outcome) (not (m.generation == k.generation)) (m.rewired || b))
            (moved_same m.sources (λ x on. a.below x (kept (ap (λ y. is_in x (source_names (sources_in y))) e ∙ on))))

    -- so it is clean still
    pub clean_run : OnlyComputedsKeep w after → (n : ℕ) → mark_of w k n ≡ Clean → mark_of w after n ≡ Clean
    clean_run only n clean =
        let mark : IsMark w k n Clean = clean_mark n clean in
        let a : IsApart n = record { here = isnt n clean; below = below_isnt n clean } in
        let now : IsMark w after n Clean = (
          must_same n a ∙ mark.0,
          λ m b.
              let below : IsBelow k n m = below_same n m a b in
              ap (λ x. is_computed (standing w m) && x) (must_same m (apart_on n m below a)) ∙ mark.1 m below,
        ) in
        sym ((mark_law w after n Clean only).1 now)
