-- Texts that come first and are the same: what was kept of them stays, before lines that are brought up to date.
use Rattle.std.proofs.Common.{◌≡◌, ◌<◌, ◌-◌, ℕ, zero, suc, false, true, List, Option, refl, sym, ap, subst, ◌∙◌, arith}
use Rattle.sig_formula.specs.Trees.{Tree}
use Rattle.sig_formula.specs.declared.formula.RowRef.{RowRef}
use Rattle.tpl_model.specs.Lines.{Block, empty, text, tag, choice, each, attempt}
use Rattle.tpl_hearing.specs.Heard.{Grows, Outcomes}
use Rattle.tpl_hearing.specs.HeardAgain.{AreSame}
use Rattle.tpl_model.specs.PageUpdates.PageMemos.{Heard, PageMemo, unread, blank, line, element, branch, loop, row, either}
use Rattle.tpl_model.specs.KeptLines.Memos.{Makes, lines_memo}
use Rattle.tpl_model.specs.KeptLines.Before.{WasListened, WasMade}
use Rattle.tpl_model.specs.KeptLines.Changes.{Change, same_before, Tells}
use Rattle.tpl_kept.specs.Heads.{is_text, rest_in}
use Rattle.tpl_kept.specs.SameTexts.{kept_behind, lines_behind, with_behind, AreSameTexts, AreTexts}
use Rattle.tpl_kept.proofs.Listened.Reuse.{line_stayed}
use Rattle.tpl_kept.proofs.Listened.Sequences.{text_made}
use Rattle.tpl_kept.proofs.Listened.Splits.{text_was}
use Rattle.tpl_kept.proofs.Renewals.Apart.{kind}
use Rattle.tpl_kept.proofs.Renewals.Fronts.{text_first}

-- ---- how many they are

-- where some come, the first is one
pub text_kind : (n : ℕ) (m k : PageMemo) → 0 < n → m ≡ k → AreTexts n m → kind k ≡ 2
text_kind zero m k some e all = absurd (omega (arith, some))
text_kind (suc n) unread k some e all = absurd all
text_kind (suc n) blank k some e all = absurd all
text_kind (suc n) (line h r) k some e all = ap kind (sym e)
text_kind (suc n) (element hs i r) k some e all = absurd all
text_kind (suc n) (branch h i r) k some e all = absurd all
text_kind (suc n) (loop h i r) k some e all = absurd all
text_kind (suc n) (row h i r) k some e all = absurd all
text_kind (suc n) (either a b r) k some e all = absurd all

-- those that are the same are texts
pub same_texts : (n : ℕ) (before heard : Outcomes) (m : PageMemo) → AreSameTexts n before heard m → AreTexts n m
same_texts zero before heard m all = tt
same_texts (suc n) before heard unread all = absurd all
same_texts (suc n) before heard blank all = absurd all
same_texts (suc n) before heard (line h r) all = same_texts n before heard r all.1
same_texts (suc n) before heard (element hs i r) all = absurd all
same_texts (suc n) before heard (branch h i r) all = absurd all
same_texts (suc n) before heard (loop h i r) all = absurd all
same_texts (suc n) before heard (row h i r) all = absurd all
same_texts (suc n) before heard (either a b r) all = absurd all

-- one more of them
pub same_more : (n : ℕ) (before heard : Outcomes) (m : PageMemo) (h : Heard) (r : PageMemo) → AreSameTexts n before heard m → line h r ≡ kept_behind n m →
    AreSame before h.names heard heard → AreSameTexts (suc n) before heard m × (r ≡ kept_behind (suc n) m)
same_more zero before heard m h r all e first = subst (λ z. AreSameTexts (suc zero) before heard z × (r ≡ kept_behind (suc zero) z)) e ((first, tt), refl)
same_more (suc n) before heard unread h r all e first = absurd all
same_more (suc n) before heard blank h r all e first = absurd all
same_more (suc n) before heard (line g s) h r all e first = let more = same_more n before heard s h r all.1 e first in ((all.0, more.0), more.1)
same_more (suc n) before heard (element hs i s) h r all e first = absurd all
same_more (suc n) before heard (branch g i s) h r all e first = absurd all
same_more (suc n) before heard (loop g i s) h r all e first = absurd all
same_more (suc n) before heard (row g i s) h r all e first = absurd all
same_more (suc n) before heard (either x y s) h r all e first = absurd all

-- ---- what is behind them

-- behind one less
pub lines_less : (n : ℕ) (b : Block) → 0 < n → lines_behind (n - 1) (rest_in b) ≡ lines_behind n b
lines_less zero b some = absurd (omega (arith, some))
lines_less (suc n) b some = let e : suc n - 1 ≡ n = omega arith in ap (λ z. lines_behind z (rest_in b)) e

pub texts_less : (n : ℕ) (m : PageMemo) (h : Heard) (r : PageMemo) → 0 < n → m ≡ line h r → AreTexts n m → AreTexts (n - 1) r
texts_less zero m h r some e all = absurd (omega (arith, some))
texts_less (suc n) m h r some e all =
    let less : n ≡ suc n - 1 = omega arith in subst (λ z. AreTexts z r) less (subst (AreTexts (suc n)) e all)

pub kept_less : (n : ℕ) (m : PageMemo) (h : Heard) (r : PageMemo) → 0 < n → m ≡ line h r → kept_behind (n - 1) r ≡ kept_behind n m
kept_less zero m h r some e = absurd (omega (arith, some))
kept_less (suc n) m h r some e =
    let less : suc n - 1 ≡ n = omega arith in ap (λ z. kept_behind z r) less ∙ ap (kept_behind (suc n)) (sym e)

pub with_less : (n : ℕ) (m : PageMemo) (h : Heard) (r s : PageMemo) → 0 < n → m ≡ line h r → line h (with_behind (n - 1) r s) ≡ with_behind n m s
with_less zero m h r s some e = absurd (omega (arith, some))
with_less (suc n) m h r s some e =
    let less : suc n - 1 ≡ n = omega arith in ap (λ z. line h (with_behind z r s)) less ∙ ap (λ z. with_behind (suc n) z s) (sym e)

-- what comes behind them last is what is kept
pub with_last : (n : ℕ) (m k s : PageMemo) → AreTexts n m → with_behind n (with_behind n m k) s ≡ with_behind n m s
with_last zero m k s all = refl
with_last (suc n) unread k s all = absurd all
with_last (suc n) blank k s all = absurd all
with_last (suc n) (line h r) k s all = ap (line h) (with_last n r k s all)
with_last (suc n) (element hs i r) k s all = absurd all
with_last (suc n) (branch h i r) k s all = absurd all
with_last (suc n) (loop h i r) k s all = absurd all
with_last (suc n) (row h i r) k s all = absurd all
with_last (suc n) (either a b r) k s all = absurd all

-- so many texts are still there
pub still_texts : (n : ℕ) (m k : PageMemo) → AreTexts n m → AreTexts n (with_behind n m k)
still_texts zero m k all = tt
still_texts (suc n) unread k all = absurd all
still_texts (suc n) blank k all = absurd all
still_texts (suc n) (line h r) k all = still_texts n r k all
still_texts (suc n) (element hs i r) k all = absurd all
still_texts (suc n) (branch h i r) k all = absurd all
still_texts (suc n) (loop h i r) k all = absurd all
still_texts (suc n) (row h i r) k all = absurd all
still_texts (suc n) (either a b r) k all = absurd all

-- ---- what is kept of lines that begin with them

-- what was kept behind them was made of the lines there; where that is brought up to date, so are all lines
pub record LeadsWith (n : ℕ) (b : Block) (links : List ℕ) (at : Option RowRef) (before heard : Outcomes) (m : PageMemo) : Type 0 where
  pub was : WasMade (lines_memo (lines_behind n b)) links at before (kept_behind n m)
  pub made : (now : Outcomes) (s : PageMemo) → Grows heard now → Makes (lines_memo (lines_behind n b)) links at heard now s →
      Makes (lines_memo b) links at heard now (with_behind n m s)
  pub told : (s : PageMemo) (c : Change) → Tells (lines_behind n b) links at before s c → Tells b links at before (with_behind n m s) (same_before n c)

-- one text more
text_leads : (n number : ℕ) (f : Tree) (rest : Block) (links : List ℕ) (at : Option RowRef) (before heard : Outcomes) (h : Heard) (r : PageMemo) →
    WasListened f links at before h → AreSame before h.names heard heard → LeadsWith n rest links at before heard r →
    LeadsWith (suc n) (text number f rest) links at before heard (line h r)
unfolding same_before
text_leads n number f rest links at before heard h r was same behind = record {
  was = behind.was;
  made = λ now s grows made.
      let later = behind.made now s grows made in
      text_made false links at number f rest heard heard now h (with_behind n r s) (line h (with_behind n r s))
      (line_stayed f links at before heard heard h was same) grows
      (record { is = λ source agrees here e. later.is source agrees here e; order = later.order }) refl;
  told = λ s c told. (λ e. was, behind.told s c told);
}

-- so many
pub leads : (n : ℕ) (b : Block) (links : List ℕ) (at : Option RowRef) (before heard : Outcomes) (m : PageMemo) → AreSameTexts n before heard m →
    WasMade (lines_memo b) links at before m → LeadsWith n b links at before heard m
unfolding same_before
leads zero b links at before heard m all was = record { was = was; made = λ now s grows made. made; told = λ s c told. told }
leads (suc n) b links at before heard unread all was = absurd all
leads (suc n) b links at before heard blank all was = absurd all
leads (suc n) b links at before heard (line h r) all was =
    by_kind (λ rest w. leads n rest links at before heard r all.1 w) b (text_first b links at before (line h r) h r was refl) was
  where
    by_kind : ((rest : Block) → WasMade (lines_memo rest) links at before r → LeadsWith n rest links at before heard r) → (c : Block) → is_text c ≡ true →
        WasMade (lines_memo c) links at before (line h r) → LeadsWith (suc n) c links at before heard (line h r)
    by_kind behind empty e w = cc
    by_kind behind (text number f rest) e w =
        let both = text_was links at number f rest before (line h r) h r w refl in
        text_leads n number f rest links at before heard h r both.0 all.0 (behind rest both.1)
    by_kind behind (tag number name xs inner rest) e w = cc
    by_kind behind (choice f one other rest) e w = cc
    by_kind behind (each f inner rest) e w = cc
    by_kind behind (attempt first second rest) e w = cc
leads (suc n) b links at before heard (element hs i r) all was = absurd all
leads (suc n) b links at before heard (branch h i r) all was = absurd all
leads (suc n) b links at before heard (loop h i r) all was = absurd all
leads (suc n) b links at before heard (row h i r) all was = absurd all
leads (suc n) b links at before heard (either x y r) all was = absurd all

-- ---- taken from their place, and put back

-- what comes first stays there
pub texts_left : (n : ℕ) (m k x : PageMemo) → k ≡ with_behind n m x → AreTexts n m → AreTexts n k
texts_left n m k x e all = subst (AreTexts n) (sym e) (still_texts n m x all)

module _ (n : ℕ) (b rest : Block) (links : List ℕ) (at : Option RowRef) (before heard : Outcomes) (m : PageMemo)
    (e : rest ≡ lines_behind n b) (all : AreSameTexts n before heard m) (was : WasMade (lines_memo b) links at before m) where
  -- what was kept behind them
  pub was_behind : (k : PageMemo) → k ≡ kept_behind n m → WasMade (lines_memo rest) links at before k
  was_behind k is =
      subst (λ z. WasMade (lines_memo z) links at before k) (sym e)
      (subst (WasMade (lines_memo (lines_behind n b)) links at before) (sym is) (leads n b links at before heard m all was).was)

  -- what is kept of all lines
  put_back : (k x s next : PageMemo) → k ≡ with_behind n m x → next ≡ with_behind n k s → next ≡ with_behind n m s
  put_back k x s next is so = so ∙ ap (λ z. with_behind n z s) is ∙ with_last n m x s (same_texts n before heard m all)

  pub made_all : (now : Outcomes) (k x s next : PageMemo) → k ≡ with_behind n m x → next ≡ with_behind n k s → Grows heard now →
      Makes (lines_memo rest) links at heard now s → Makes (lines_memo b) links at heard now next
  made_all now k x s next is so grows made =
      subst (Makes (lines_memo b) links at heard now) (sym (put_back k x s next is so))
      ((leads n b links at before heard m all was).made now s grows (subst (λ z. Makes (lines_memo z) links at heard now s) e made))

  -- what became of them
  pub told_all : (k x s next : PageMemo) (c d : Change) → k ≡ with_behind n m x → next ≡ with_behind n k s → d ≡ same_before n c →
      Tells rest links at before s c → Tells b links at before next d
  told_all k x s next c d is so same told =
      subst (λ z. Tells b links at before z d) (sym (put_back k x s next is so))
      (subst (Tells b links at before (with_behind n m s)) (sym same)
      ((leads n b links at before heard m all was).told s c (subst (λ z. Tells z links at before s c) e told)))
