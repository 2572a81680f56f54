-- What was read is looked at again.
use Rattle.std.proofs.Common.{◌≡◌, ◌<◌, ◌≤◌, ◌+◌, ℕ, Bool, true, false, not, cond, List, [], ◌∷◌, ◌++◌, length, take, drop, get_or, Option, Some, None, refl, sym, ap, subst, ◌∙◌}
use Rattle.std.proofs.lemmas.List.{append-nil, drop_more, take_all, take_more, take-append-drop}
use Rattle.sig_base.specs.declared.value.Outcome.{Outcome}
use Rattle.sig_base.specs.Values.{same_outcome, same_outcome-Decides}
use Rattle.signal_model.specs.Recipes.{Hosts}
use Rattle.signal_model.specs.Values.{Seen, value_of}
use Rattle.signal_model.specs.Sound.{names_of}
use Rattle.signal_model.specs.Kept.{AreKept}
use Rattle.signal_laws.specs.ReadLaws.{HaveOutcomes}
use Rattle.effect_model.specs.Runs.{looked_at, looked_names, some_differs}
use Rattle.sig_computed.specs.Notes.{IsIdle}
use Rattle.sig_computed.specs.Scenes.{Scene, Settles}
use Rattle.sig_computed.proofs.Shared.{nothing_settled, then_settled}
use Rattle.effect_runs.proofs.Asks.{read_one, scratch, IsRead}
use Rattle.effect_runs.proofs.Names.{same_settled}

-- ---- signals that have the outcomes that were read

same_now : (source : ℕ → Outcome) (s : Seen) → source s.name ≡ s.outcome → same_outcome (source s.name) s.outcome ≡ true
same_now source s is = (same_outcome-Decides (source s.name) s.outcome).1 is

differs_behind : (source : ℕ → Outcome) (ss more : List Seen) → HaveOutcomes source ss → some_differs source (ss ++ more) ≡ some_differs source more
differs_behind source [] more all = refl
differs_behind source (s ∷ ss) more all =
    ap (λ b. cond b (some_differs source (ss ++ more)) true) (same_now source s all.0) ∙ differs_behind source ss more all.1

looked_behind : (source : ℕ → Outcome) (ss more : List Seen) → HaveOutcomes source ss → looked_at source (ss ++ more) ≡ names_of ss ++ looked_at source more
looked_behind source [] more all = refl
looked_behind source (s ∷ ss) more all =
    ap (λ b. s.name ∷ cond b (looked_at source (ss ++ more)) []) (same_now source s all.0) ∙ ap (λ ns. s.name ∷ ns) (looked_behind source ss more all.1)

-- ---- one signal after the other

-- none was looked at yet
pub none_read : (x : Scene) (before : Hosts → Type 0) → IsIdle x.graph.state → IsRead x x before before []
none_read x before idle = record { settles = nothing_settled x before idle; outcomes = λ hosts all kept. tt }

-- all were
pub none_differs : (x y : Scene) (before after : Hosts → Type 0) (reads : List Seen) (place : ℕ) → length reads ≤ place →
    IsRead x y before after (take place reads) → (hosts : Hosts) → before hosts → AreKept hosts x.graph.state.signals x.graph.state.memos → false ≡ some_differs (scratch hosts x) reads
none_differs x y before after reads place end a hosts all kept =
    let rs : IsRead x y before after reads = subst (IsRead x y before after) (take_all place reads end) a in
    sym (ap (some_differs (scratch hosts x)) (sym (append-nil reads)) ∙ differs_behind (scratch hosts x) reads [] (rs.outcomes hosts all kept))

pub all_looked : (x y : Scene) (before after : Hosts → Type 0) (reads : List Seen) (place : ℕ) → length reads ≤ place →
    IsRead x y before after (take place reads) → Settles x y before after (λ hosts. looked_at (scratch hosts x) reads)
all_looked x y before after reads place end a =
    let rs : IsRead x y before after reads = subst (IsRead x y before after) (take_all place reads end) a in
    same_settled x y before after (λ _. names_of reads) (λ hosts. looked_at (scratch hosts x) reads) rs.settles
    (λ hosts all kept.
    sym (ap (looked_at (scratch hosts x)) (sym (append-nil reads)) ∙ looked_behind (scratch hosts x) reads [] (rs.outcomes hosts all kept)
    ∙ append-nil (names_of reads)))

-- the next of what was read, and whether it has another outcome now
pub record IsNext (y : Scene) (mid : Hosts → Type 0) (reads : List Seen) (place : ℕ) (s : Seen) (d : Bool) : Type 0 where
  pub inside : place < length reads
  pub read : s ≡ get_or reads place s
  pub differs : (hosts : Hosts) → mid hosts → AreKept hosts y.graph.state.signals y.graph.state.memos → d ≡ not (same_outcome (scratch hosts y s.name) s.outcome)

same_by : (b : Bool) → false ≡ not b → b ≡ true
same_by true e = refl
same_by false e = absurd cc

other_by : (b : Bool) → true ≡ not b → b ≡ false
other_by true e = absurd cc
other_by false e = refl

module _ (x y : Scene) (before mid : Hosts → Type 0) (reads : List Seen) (place : ℕ) (s : Seen) (d : Bool)
    (next : IsNext y mid reads place s d) (a : IsRead x y before mid (take place reads)) where
  -- it has the outcome that was read
  pub next_same : (z : Scene) (after : Hosts → Type 0) → Settles y z mid after (λ _. s.name ∷ []) → d ≡ false → IsRead x z before after (take (place + 1) reads)
  next_same z after later is =
      let one : take (place + 1) reads ≡ take place reads ++ s ∷ [] =
      take_more reads place s next.inside ∙ ap (λ r. take place reads ++ r ∷ []) (sym next.read) in
      subst (IsRead x z before after) (sym one)
      (read_one x y z before mid after (take place reads) s.name s.outcome a later
      (λ hosts all kept.
      sym ((same_outcome-Decides (scratch hosts y s.name) s.outcome).0 (same_by (same_outcome (scratch hosts y s.name) s.outcome) (sym is ∙ next.differs hosts all kept)))))

  -- the reads about it
  parts : reads ≡ take place reads ++ s ∷ drop (place + 1) reads
  parts =
      sym (take-append-drop place reads)
      ∙ ap (λ r. take place reads ++ r) (drop_more reads place s next.inside ∙ ap (λ r. r ∷ drop (place + 1) reads) (sym next.read))

  other_now : d ≡ true → (hosts : Hosts) → before hosts → AreKept hosts x.graph.state.signals x.graph.state.memos → same_outcome (scratch hosts x s.name) s.outcome ≡ false
  other_now other hosts all kept =
      ap (λ w. same_outcome (value_of hosts w s.name []) s.outcome) (sym a.settles.signals)
      ∙ other_by (same_outcome (scratch hosts y s.name) s.outcome)
      (sym other ∙ next.differs hosts (a.settles.answers hosts all) (a.settles.kept hosts all kept))

  -- it has another one
  pub next_differs : d ≡ true → (hosts : Hosts) → before hosts → AreKept hosts x.graph.state.signals x.graph.state.memos → true ≡ some_differs (scratch hosts x) reads
  next_differs other hosts all kept =
      sym (ap (some_differs (scratch hosts x)) parts
      ∙ differs_behind (scratch hosts x) (take place reads) (s ∷ drop (place + 1) reads) (a.outcomes hosts all kept)
      ∙ ap (λ b. cond b (some_differs (scratch hosts x) (drop (place + 1) reads)) true) (other_now other hosts all kept))

  -- and so the look ends there
  pub next_looked : (z : Scene) (after : Hosts → Type 0) → Settles y z mid after (λ _. s.name ∷ []) → d ≡ true →
      Settles x z before after (λ hosts. looked_at (scratch hosts x) reads)
  next_looked z after later other =
      same_settled x z before after (λ _. names_of (take place reads) ++ s.name ∷ []) (λ hosts. looked_at (scratch hosts x) reads)
      (then_settled x y z before mid after (λ _. names_of (take place reads)) (λ _. s.name ∷ []) a.settles later)
      (λ hosts all kept.
      sym (ap (looked_at (scratch hosts x)) parts
      ∙ looked_behind (scratch hosts x) (take place reads) (s ∷ drop (place + 1) reads) (a.outcomes hosts all kept)
      ∙ ap (λ b. names_of (take place reads) ++ s.name ∷ cond b (looked_at (scratch hosts x) (drop (place + 1) reads)) []) (other_now other hosts all kept)))

-- ---- what an effect keeps

-- it has never run, so nothing is looked at
pub never_looked : (x : Scene) (before : Hosts → Type 0) (k : Option (List Seen)) → k ≡ None → IsIdle x.graph.state →
    Settles x x before before (λ hosts. looked_names (scratch hosts x) k)
never_looked x before k e idle =
    subst (λ o. Settles x x before before (λ hosts. looked_names (scratch hosts x) o)) (sym e) (nothing_settled x before idle)

-- or what it has read is
pub kept_looked : (x y : Scene) (before after : Hosts → Type 0) (k : Option (List Seen)) (reads : List Seen) → k ≡ Some reads →
    Settles x y before after (λ hosts. looked_at (scratch hosts x) reads) → Settles x y before after (λ hosts. looked_names (scratch hosts x) k)
kept_looked x y before after k reads e s = subst (λ o. Settles x y before after (λ hosts. looked_names (scratch hosts x) o)) (sym e) s
