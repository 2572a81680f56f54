-- Names that were heard at another time, heard again.
use Rattle.std.proofs.Common.{◌≡◌, ℕ, ◌+◌, ◌<◌, List, [], ◌∷◌, ◌++◌, length, take, get_or, refl, sym, ap, subst, ◌∙◌}
use Rattle.std.specs.Map.{keys_of}
use Rattle.std.proofs.lemmas.List.{take_more}
use Rattle.signal_laws.specs.ReadLaws.{with_name, firsts_after}
use Rattle.signal_laws.proofs.Shared.{all_snoc, firsts_append_law}
use Rattle.tpl_hearing.specs.Heard.{Grows, Outcomes, heard_of}
use Rattle.tpl_hearing.specs.HeardAgain.{AreAsBefore, AreSame, AreSameUpTo, IsAsBefore}
use Rattle.tpl_hearing.proofs.Names.{still_heard}

-- nothing was heard again yet
pub none_again : (before heard : Outcomes) → AreSame before [] heard heard
none_again before heard = record { same = tt; order = refl }

-- what was heard stays so
pub still_as_before : (before mid now : Outcomes) (ns : List ℕ) → Grows mid now → AreAsBefore before mid ns → AreAsBefore before now ns
still_as_before before mid now [] g all = tt
still_as_before before mid now (n ∷ ns) g all = (
  record {
    outcome = all.0.outcome;
    was = all.0.was;
    is = ap (λ (h : Outcomes). heard_of h n) g.all ∙ still_heard mid g.more n all.0.outcome all.0.is;
  },
  still_as_before before mid now ns g all.1,
)

-- the next of the names
pub record IsNext (before : Outcomes) (ns : List ℕ) (place n : ℕ) (earlier mid now : Outcomes) : Type 0 where
  pub inside : place < length ns
  pub name : n ≡ get_or ns place n
  pub same : AreSame before (take place ns) earlier mid
  pub grows : Grows mid now
  pub joins : keys_of now ≡ with_name (keys_of mid) n

module _ (before : Outcomes) (ns : List ℕ) (place n : ℕ) (earlier mid now : Outcomes)
    (x : IsNext before ns place n earlier mid now) where
  -- the names as far as this one
  up_to : take (place + 1) ns ≡ take place ns ++ n ∷ []
  up_to = take_more ns place n x.inside ∙ ap (λ m. take place ns ++ m ∷ []) (sym x.name)

  order_next : keys_of now ≡ firsts_after (keys_of earlier) (take (place + 1) ns)
  order_next =
      x.joins ∙ ap (λ ms. with_name ms n) x.same.order ∙ sym (firsts_append_law (keys_of earlier) (take place ns) (n ∷ []))
      ∙ ap (firsts_after (keys_of earlier)) (sym up_to)

  -- it has the outcome of before
  pub same_again : IsAsBefore before now n → AreSame before (take (place + 1) ns) earlier now
  same_again is = record {
    same = subst (AreAsBefore before now) (sym up_to)
        (all_snoc (IsAsBefore before now) (take place ns) n (still_as_before before mid now (take place ns) x.grows x.same.same) is);
    order = order_next;
  }

  -- or another one
  pub other_now : AreSameUpTo before ns earlier now
  other_now = record {
    count = place;
    inside = x.inside;
    same = still_as_before before mid now (take place ns) x.grows x.same.same;
    order = order_next;
  }
