-- Names of lines that are heard again one line after the other.
use Rattle.std.proofs.Common.{◌≡◌, ℕ, ◌+◌, Bool, true, false, List, [], ◌++◌, length, take, refl, sym, ap, subst, ◌∙◌, arith}
use Rattle.std.specs.Map.{keys_of}
use Rattle.std.proofs.Math.Seq.{take-append-add}
use Rattle.std.proofs.lemmas.List.{length-append, take-append-le}
use Rattle.signal_laws.specs.ReadLaws.{firsts_after}
use Rattle.signal_laws.proofs.Shared.{all_append}
use Rattle.tpl_hearing.specs.Heard.{Grows, Outcomes}
use Rattle.tpl_hearing.specs.HeardAgain.{AreAsBefore, AreHeardAgain, AreSame, AreSameUpTo, IsAsBefore}
use Rattle.tpl_hearing.proofs.Shared.{still_as_before}
use Rattle.tpl_model.specs.PageUpdates.PageMemos.{Heard, PageMemo, line, names}
use Rattle.tpl_kept.proofs.Listened.Sequences.{in_order}
use Rattle.tpl_kept.proofs.Listened.Splits.{again_as}

-- where there is no name
pub none_same : (before heard : Outcomes) (m : PageMemo) → names m ≡ [] → AreSame before (names m) heard heard
none_same before heard m is = subst (λ ns. AreSame before ns heard heard) (sym is) (record { same = tt; order = refl })

module _ (before : Outcomes) (ns ms : List ℕ) where
  -- the first of these may have another outcome
  other_on : (earlier now : Outcomes) → AreSameUpTo before ns earlier now → AreSameUpTo before (ns ++ ms) earlier now
  other_on earlier now a =
      let inside = a.inside in
      let long : length (ns ++ ms) ≡ length ns + length ms = length-append ns ms in
      record {
        count = a.count;
        inside = omega (arith, inside, long);
        same = subst (AreAsBefore before now) (sym (take-append-le a.count ns ms (omega (arith, inside)))) a.same;
        order = a.order ∙ ap (firsts_after (keys_of earlier)) (sym (take-append-le (a.count + 1) ns ms (omega (arith, inside))));
      }

  -- all of these are the same, and so are others behind them, as far as they are
  same_on : (same : Bool) (earlier mid now : Outcomes) → AreSame before ns earlier mid → Grows mid now → AreHeardAgain same before ms mid now →
      AreHeardAgain same before (ns ++ ms) earlier now
  same_on true earlier mid now a g b = record {
    same = all_append (IsAsBefore before now) ns ms (still_as_before before mid now ns g a.same) b.same;
    order = in_order (keys_of earlier) (keys_of mid) (keys_of now) ns ms a.order b.order;
  }
  same_on false earlier mid now a g b =
      let inside = b.inside in
      let long : length (ns ++ ms) ≡ length ns + length ms = length-append ns ms in
      let next : (length ns + b.count) + 1 ≡ length ns + (b.count + 1) = omega arith in
      record {
        count = length ns + b.count;
        inside = omega (arith, inside, long);
        same = subst (AreAsBefore before now) (sym (take-append-add ns ms b.count))
            (all_append (IsAsBefore before now) ns (take b.count ms) (still_as_before before mid now ns g a.same) b.same);
        order = in_order (keys_of earlier) (keys_of mid) (keys_of now) ns (take (b.count + 1) ms) a.order b.order
            ∙ ap (firsts_after (keys_of earlier)) (sym (ap (λ i. take i (ns ++ ms)) next ∙ take-append-add ns ms (b.count + 1)));
      }

-- a text of which a name may have another outcome
pub line_other : (before : Outcomes) (h : Heard) (r m : PageMemo) (ids : List ℕ) (earlier now : Outcomes) (same : Bool) → m ≡ line h r → ids ≡ h.names →
    same ≡ false → AreHeardAgain same before ids earlier now → AreSameUpTo before (names m) earlier now
line_other before h r m ids earlier now same is e other a =
    subst (λ z. AreSameUpTo before (names z) earlier now) (sym is)
    (other_on before h.names (names r) earlier now (again_as same false before ids h.names earlier now other e a))

-- a text that is the same, before lines that were heard again
pub line_same : (same : Bool) (before : Outcomes) (h : Heard) (r m : PageMemo) (ids : List ℕ) (behind : PageMemo) (earlier mid now : Outcomes) (first : Bool) →
    m ≡ line h r → ids ≡ h.names → behind ≡ r → first ≡ true → AreHeardAgain first before ids earlier mid → Grows mid now →
    AreHeardAgain same before (names behind) mid now → AreHeardAgain same before (names m) earlier now
line_same same before h r m ids behind earlier mid now first is e later all a g b =
    subst (λ z. AreHeardAgain same before (names z) earlier now) (sym is)
    (same_on before h.names (names r) same earlier mid now (again_as first true before ids h.names earlier mid all e a) g
    (subst (λ z. AreHeardAgain same before (names z) mid now) later b))
