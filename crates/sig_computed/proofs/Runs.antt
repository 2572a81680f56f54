-- How a run is kept, and noted.
use Rattle.std.proofs.Common.{◌≡◌, ℕ, List, [], ◌∷◌, map, refl, ap, ◌∙◌}
use Rattle.sig_base.specs.declared.value.Outcome.{Outcome}
use Rattle.signal_model.specs.Values.{Seen}
use Rattle.signal_model.specs.Memos.{Memos, named_now}
use Rattle.signal_model.specs.Settling.{source_now, with_memo}
use Rattle.signal_model.specs.Sound.{names_of}

-- names with their present numbers
names_now : (k : Memos) (rs : List Seen) → map (named_now k) (names_of rs) ≡ map (source_now k) rs
names_now k [] = refl
names_now k (r ∷ rs) = ap (λ l. named_now k r.name ∷ l) (names_now k rs)

-- a run is kept by its outcome and the names of its reads
pub kept_run : (k : Memos) (n : ℕ) (o o' : Outcome) (ids : List ℕ) (rs : List Seen) → o ≡ o' → ids ≡ names_of rs →
    with_memo k n o (map (named_now k) ids) ≡ with_memo k n o' (map (source_now k) rs)
kept_run k n o o' ids rs eo ei =
    let a : map (named_now k) ids ≡ map (source_now k) rs = ap (map (named_now k)) ei ∙ names_now k rs in
    (λ i. with_memo k n (eo i) (a i))
