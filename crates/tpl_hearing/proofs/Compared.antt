-- Of which names it is known whether they have the outcomes of before.
use Rattle.std.proofs.Common.{◌≡◌, ℕ, zero, suc, Bool, true, [], ◌∷◌, Some, sym, ap, subst, ◌∙◌}
use Rattle.std.specs.Prelude.{IfSome, None, Option, slice_get, unwrap_or}
use Rattle.tpl_hearing.specs.Heard.{Comparisons, Grows, Outcomes, heard_of}
use Rattle.tpl_hearing.specs.HeardAgain.{AllCompared, IsAsBefore, IsCompared}
use Rattle.tpl_hearing.proofs.Names.{still_heard}

-- what is the same has the outcome of before
pub as_before : (before now : Outcomes) (n : ℕ) (b : Bool) → b ≡ true → IsCompared before now n b → IsAsBefore before now n
as_before before now n b e c = record { outcome = c.outcome; was = c.was e; is = c.is }

-- it stays so when more are heard
one_still : (before mid now : Outcomes) (n : ℕ) (b : Bool) → Grows mid now → IsCompared before mid n b → IsCompared before now n b
one_still before mid now n b g c = record {
  outcome = c.outcome;
  is = ap (λ (h : Outcomes). heard_of h n) g.all ∙ still_heard mid g.more n c.outcome c.is;
  was = c.was;
}

pub still_compared : (before mid now : Outcomes) (ps : Comparisons) → Grows mid now → AllCompared before mid ps → AllCompared before now ps
still_compared before mid now [] g all = tt
still_compared before mid now (p ∷ ps) g all = (one_still before mid now p.0 p.1 g all.0, still_compared before mid now ps g all.1)

-- what is known at a place is so
pub known_compared : (before now : Outcomes) (ps : Comparisons) (i n : ℕ) (b : Bool) → AllCompared before now ps → slice_get ps i ≡ Some (n, b) →
    IsCompared before now n b
known_compared before now [] i n b all is = cc
known_compared before now (p ∷ ps) zero n b all is =
    subst (λ (q : ℕ × Bool). IsCompared before now q.0 q.1) (ap (λ (q : Option (ℕ × Bool)). unwrap_or q p) is) all.0
known_compared before now (p ∷ ps) (suc i) n b all is = known_compared before now ps i n b all.1 is

-- the name that was the last one before it as well
pub name_same : (before heard : Outcomes) (n : ℕ) (last : Option ℕ) → last ≡ Some n → IfSome last (IsAsBefore before heard) → IsCompared before heard n true
name_same before heard n last is known =
    let same : IsAsBefore before heard n = subst (λ o. IfSome o (IsAsBefore before heard)) is known in
    record { outcome = same.outcome; is = same.is; was = λ e. same.was }

-- what is known of the last one
pub last_same : (before heard : Outcomes) (n : ℕ) (b : Bool) (last : Option ℕ) → IfSome last (λ m. (m ≡ n) × (b ≡ true)) → IsCompared before heard n b →
    IfSome last (IsAsBefore before heard)
last_same before heard n b None is c = tt
last_same before heard n b (Some m) is c = subst (IsAsBefore before heard) (sym is.0) (as_before before heard n b is.1 c)
