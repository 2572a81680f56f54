-- Ways along kept sources that come back.
use Rattle.std.proofs.Common.{◌≡◌, ℕ, ◌==◌, ◌||◌, not, true, cond, List, [], ◌∷◌, sym, ap, ◌∙◌, ◌⊎◌, inl, inr}
use Rattle.std.proofs.lemmas.Bool.{eqb-true}
use Rattle.signal_model.specs.Signals.{Signals, is_in}
use Rattle.signal_model.specs.Memos.{Source, Memos, memo_is_cycle, holds_cycle, sources_in, source_names, differs, some_moved, must_run_by, must_run}
use Rattle.signal_model.specs.Sound.{Keeps, IsKeptPath}
use Rattle.signal_model.proofs.Shared.{tested, either, or_left, or_right}
use Rattle.signal_laws.specs.KeptPathLaws.{HasSource, IsSourcePath, IsBroken, KeptCycleLaw, KeptPathLaw, EvaluatedSourceLaw}
use Rattle.signal_laws.proofs.AfterChange.{Calm, calm_of}
use Rattle.signal_laws.proofs.Lists.{in_head, in_tail}

-- a keeper that neither must run nor holds the fault cycle, or why not
keeper : (w : Signals) (k : Memos) (p n : ℕ) → HasSource w k p n →
    ((must_run k p [] ≡ true) ⊎ (holds_cycle k p ≡ true)) ⊎ Keeps w k p n
keeper w k p n h = elim (tested (must_run k p [])) [
  | inl due ↦ inl (inl due)
  | inr calm ↦ elim (tested (holds_cycle k p)) [
    | inl cy ↦ inl (inr cy)
    | inr fine ↦
        let q : Calm k p = calm_of k p calm in
        inr (record {
          computed = h.computed;
          stands = h.stands;
          memo = q.memo;
          at = q.at;
          fine = ap memo_is_cycle (sym q.at) ∙ fine;
          calm = calm;
          kept = ap (λ x. is_in n (source_names (sources_in x))) (sym q.at) ∙ h.kept;
        })
  ]
]

-- a path is broken, or all its members keep
broken_or : (w : Signals) (k : Memos) (n : ℕ) (path : List ℕ) → IsSourcePath w k n path → IsBroken k path ⊎ IsKeptPath w k n path
broken_or w k n [] c = inr tt
broken_or w k n (p ∷ ps) c = elim (keeper w k p n c.0) [
  | inl bad ↦ inl (record { name = p; on = in_head p ps; why = bad })
  | inr good ↦ elim (broken_or w k p ps c.1) [
    | inl b ↦ inl (record { name = b.name; on = in_tail b.name p ps b.on; why = b.why })
    | inr rest ↦ inr (good, rest)
  ]
]

-- a cycle of kept sources is broken
pub kept_cycle_law : KeptCycleLaw
kept_cycle_law hosts w k n path sound c on = elim (broken_or w k n path c) [ inl b ↦ b | inr good ↦ absurd (sound.acyclic n path good on) ]

-- a path of calm keepers comes to nothing of its own
pub kept_path_law : KeptPathLaw
kept_path_law hosts w k n path sound c = elim (tested (is_in n path)) [ inl on ↦ absurd (sound.acyclic n path c on) | inr off ↦ off ]

-- a source on the path has moved
moved_on : (k : Memos) (path : List ℕ) (ss : List Source) (m : ℕ) → is_in m (source_names ss) ≡ true → is_in m path ≡ true →
    some_moved k path ss ≡ true
moved_on k path [] m h on = cc
moved_on k path (s ∷ ss) m h on = elim (either (m == s.name) (is_in m (source_names ss)) h) [
  | inl e ↦ or_left (differs k s || is_in s.name path) (some_moved k path ss)
      (or_right (differs k s) (is_in s.name path) (ap (λ x. is_in x path) (sym (eqb-true m s.name e)) ∙ on))
  | inr t ↦ or_right (differs k s || is_in s.name path) (some_moved k path ss) (moved_on k path ss m t on)
]

-- a keeper of what is being evaluated must run
pub evaluated_source_law : EvaluatedSourceLaw
evaluated_source_law k n m path memo at fine kept on =
    ap (λ x. must_run_by k x path) at ∙ ap (λ b. cond b (not (memo.generation == k.generation)) (memo.rewired || some_moved k path memo.sources)) fine
    ∙ or_right memo.rewired (some_moved k path memo.sources) (moved_on k path memo.sources m kept on)
