-- Texts and elements that are heard again where they are kept, before lines that are brought up to date.
use Rattle.std.proofs.Common.{◌≡◌, ◌<◌, ℕ, Bool, List, [], ◌∷◌, Option, false, true, refl, sym, ap, subst, ◌∙◌, arith}
use Rattle.sig_formula.specs.Trees.{Tree}
use Rattle.sig_formula.specs.declared.formula.RowRef.{RowRef}
use Rattle.tpl_model.specs.Lines.{Block, empty, text, tag, choice, each, attempt}
use Rattle.tpl_hearing.specs.Heard.{Grows, Outcomes}
use Rattle.tpl_model.specs.PageUpdates.PageMemos.{Heard, PageMemo, line, element, names}
use Rattle.tpl_model.specs.KeptLines.Memos.{Listens, ListensAll, Makes, lines_memo}
use Rattle.tpl_model.specs.KeptLines.Before.{WasListened, WasListenedAll, WasMade}
use Rattle.tpl_model.specs.KeptLines.Changes.{Change, chain, nothing, over, stays, Tells}
use Rattle.tpl_kept.specs.Heads.{IsText, attributes_in, inner_in, is_text, lines_size, rest_in}
use Rattle.tpl_kept.specs.Renewals.{AreChanged}
use Rattle.tpl_kept.proofs.Listened.Sequences.{element_made, text_made}
use Rattle.tpl_kept.proofs.Listened.Splits.{ElementWas, changed_remade, element_was, text_was}
use Rattle.tpl_kept.proofs.Made.Memos.{grows_on}
use Rattle.tpl_kept.proofs.Renewals.Apart.{block_kind, kind, was_kind}
use Rattle.tpl_kept.proofs.Renewals.Changes.{tells_whole}

-- ---- all of them stay

pub all_stay : (b : Block) (links : List ℕ) (at : Option RowRef) (before : Outcomes) (m k : PageMemo) (c : Change) → WasMade (lines_memo b) links at before m →
    k ≡ m → c ≡ stays → Tells b links at before k c
all_stay b links at before m k c was e f =
    subst (λ z. Tells b links at before z c) (sym e) (subst (Tells b links at before m) (sym f) (tells_whole b links at before m stays (λ Parts. was)))

-- ---- a text

-- where a text is kept the first line is one
pub text_first : (b : Block) (links : List ℕ) (at : Option RowRef) (before : Outcomes) (m : PageMemo) (h : Heard) (r : PageMemo) →
    WasMade (lines_memo b) links at before m → m ≡ line h r → is_text b ≡ true
text_first b links at before m h r was is = by_kind b (sym (was_kind b links at before m was) ∙ ap kind is)
  where
    by_kind : (c : Block) → block_kind c ≡ 2 → is_text c ≡ true
    by_kind empty k = absurd (omega (arith, k))
    by_kind (text n f rest) k = refl
    by_kind (tag n name xs inner rest) k = absurd (omega (arith, k))
    by_kind (choice f one other rest) k = absurd (omega (arith, k))
    by_kind (each f inner rest) k = absurd (omega (arith, k))
    by_kind (attempt first second rest) k = absurd (omega (arith, k))

-- what was kept of a text, and of the lines behind it
pub record TextWas (b : Block) (f : Tree) (rest : Block) (links : List ℕ) (at : Option RowRef) (before : Outcomes) (m : PageMemo) (h : Heard) (r : PageMemo)
    : Type 0 where
  pub number : ℕ
  pub block_is : b ≡ text number f rest
  pub was : WasMade (lines_memo b) links at before m
  pub heard : WasListened f links at before h
  pub behind : WasMade (lines_memo rest) links at before r

pub text_before : (b : Block) (f : Tree) (rest : Block) (links : List ℕ) (at : Option RowRef) (before : Outcomes) (m : PageMemo) (h : Heard) (r : PageMemo) →
    IsText b f → rest ≡ rest_in b → m ≡ line h r → WasMade (lines_memo b) links at before m → TextWas b f rest links at before m h r
text_before empty f rest links at before m h r x e is was = absurd x
text_before (text n g behind) f rest links at before m h r x e is was =
    let same : text n g behind ≡ text n f rest = (λ i. text n (x i) (sym e i)) in
    let w = text_was links at n f rest before m h r (subst (λ z. WasMade (lines_memo z) links at before m) same was) is in
    record { number = n; block_is = same; was = was; heard = w.0; behind = w.1 }
text_before (tag n name xs inner behind) f rest links at before m h r x e is was = absurd x
text_before (choice g one other behind) f rest links at before m h r x e is was = absurd x
text_before (each g inner behind) f rest links at before m h r x e is was = absurd x
text_before (attempt first second behind) f rest links at before m h r x e is was = absurd x

-- what is kept next
pub text_renewed : (b : Block) (f : Tree) (rest : Block) (links : List ℕ) (at : Option RowRef) (before a mid c d : Outcomes) (m : PageMemo) (h : Heard) (r : PageMemo)
    (k : Heard) (s all : PageMemo) → TextWas b f rest links at before m h r → AreChanged before (names m) a mid → Listens f links at mid c k →
    Grows mid c → Makes (lines_memo rest) links at c d s → Grows c d → all ≡ line k s → Makes (lines_memo b) links at a d all
text_renewed b f rest links at before a mid c d m h r k s all x changed heard g made grows is =
    changed_remade b links at before a mid d m all x.was changed (grows_on mid c d g grows)
    (subst (λ z. Makes (lines_memo z) links at mid d all) (sym x.block_is)
    (text_made false links at x.number f rest mid c d k s all heard grows (record { is = λ source agrees here e. made.is source agrees here e; order = made.order }) is))

-- what became of it
pub text_told : (b : Block) (f : Tree) (rest : Block) (links : List ℕ) (at : Option RowRef) (before : Outcomes) (m : PageMemo) (h : Heard) (r : PageMemo)
    (same : Bool) (k : Heard) (s all : PageMemo) (later change : Change) → TextWas b f rest links at before m h r →
    (same ≡ true → WasListened f links at before k) → Tells rest links at before s later → all ≡ line k s → change ≡ over same nothing later →
    Tells b links at before all change
text_told b f rest links at before m h r same k s all later change x heard told is so =
    subst (λ z. Tells z links at before all change) (sym x.block_is)
    (subst (λ z. Tells (text x.number f rest) links at before z change) (sym is)
    (subst (Tells (text x.number f rest) links at before (line k s)) (sym so) (heard, told)))

-- fewer lines are behind it
pub text_less : (b : Block) (f : Tree) (rest : Block) (links : List ℕ) (at : Option RowRef) (before : Outcomes) (m : PageMemo) (h : Heard) (r : PageMemo) →
    TextWas b f rest links at before m h r → lines_size rest < lines_size b
text_less b f rest links at before m h r x =
    let s : lines_size b ≡ lines_size (text x.number f rest) = ap lines_size x.block_is in
    omega (arith, s)

-- ---- an element

-- what was kept of an element, inside it and behind it
pub record TagWas (b : Block) (xs : List (List ℕ × Tree)) (inner rest : Block) (links : List ℕ) (at : Option RowRef) (before : Outcomes) (m : PageMemo)
    (hs : List Heard) (i r : PageMemo) : Type 0 where
  pub number : ℕ
  pub name : List ℕ
  pub block_is : b ≡ tag number name xs inner rest
  pub was : WasMade (lines_memo b) links at before m
  pub parts : ElementWas xs inner rest links at before hs i r

pub tag_before : (b : Block) (xs : List (List ℕ × Tree)) (inner rest : Block) (links : List ℕ) (at : Option RowRef) (before : Outcomes) (m : PageMemo)
    (hs : List Heard) (i r : PageMemo) → xs ≡ attributes_in b → inner ≡ inner_in b false → rest ≡ rest_in b → m ≡ element hs i r →
    WasMade (lines_memo b) links at before m → TagWas b xs inner rest links at before m hs i r
tag_before b xs inner rest links at before m hs i r ex ei er is was =
    by_kind b (sym (was_kind b links at before m was) ∙ ap kind is) ex ei er was
  where
    by_kind : (c : Block) → block_kind c ≡ 3 → xs ≡ attributes_in c → inner ≡ inner_in c false → rest ≡ rest_in c →
        WasMade (lines_memo c) links at before m → TagWas c xs inner rest links at before m hs i r
    by_kind empty k p q s w = absurd (omega (arith, k))
    by_kind (text n f behind) k p q s w = absurd (omega (arith, k))
    by_kind (tag n name ys inside behind) k p q s w =
        let same : tag n name ys inside behind ≡ tag n name xs inner rest = (λ j. tag n name (sym p j) (sym q j) (sym s j)) in
        record {
          number = n;
          name = name;
          block_is = same;
          was = w;
          parts = element_was links at n name xs inner rest before m hs i r (subst (λ z. WasMade (lines_memo z) links at before m) same w) is;
        }
    by_kind (choice f one other behind) k p q s w = absurd (omega (arith, k))
    by_kind (each f inside behind) k p q s w = absurd (omega (arith, k))
    by_kind (attempt first second behind) k p q s w = absurd (omega (arith, k))

-- what is kept next
pub tag_renewed : (b : Block) (xs : List (List ℕ × Tree)) (inner rest : Block) (links : List ℕ) (at : Option RowRef) (before a mid c d e : Outcomes)
    (m : PageMemo) (hs : List Heard) (i r : PageMemo) (ks : List Heard) (j s all : PageMemo) → TagWas b xs inner rest links at before m hs i r →
    AreChanged before (names m) a mid → ListensAll xs links at mid c ks → Grows mid c → Makes (lines_memo inner) links at c d j → Grows c d →
    Makes (lines_memo rest) links at d e s → Grows d e → all ≡ element ks j s → Makes (lines_memo b) links at a e all
tag_renewed b xs inner rest links at before a mid c d e m hs i r ks j s all x changed heard g inside grows made more is =
    changed_remade b links at before a mid e m all x.was changed (grows_on mid d e (grows_on mid c d g grows) more)
    (subst (λ z. Makes (lines_memo z) links at mid e all) (sym x.block_is)
    (element_made false links at x.number x.name xs inner rest mid c d e ks j s all heard grows
    (record { is = λ source agrees here u. inside.is source agrees here u; order = inside.order }) more
    (record { is = λ source agrees here u. made.is source agrees here u; order = made.order }) is))

-- what became of it
pub tag_told : (b : Block) (xs : List (List ℕ × Tree)) (inner rest : Block) (links : List ℕ) (at : Option RowRef) (before : Outcomes) (m : PageMemo)
    (hs : List Heard) (i r : PageMemo) (same : Bool) (ks : List Heard) (j s all : PageMemo) (parts : List Change) (told later change : Change) →
    TagWas b xs inner rest links at before m hs i r → (same ≡ true → WasListenedAll xs links at before ks) → Tells inner links at before j told →
    Tells rest links at before s later → all ≡ element ks j s → parts ≡ told ∷ [] → change ≡ over same (chain parts) later →
    Tells b links at before all change
tag_told b xs inner rest links at before m hs i r same ks j s all parts told later change x heard inside behind is one so =
    subst (λ z. Tells z links at before all change) (sym x.block_is)
    (subst (λ z. Tells (tag x.number x.name xs inner rest) links at before z change) (sym is)
    (subst (Tells (tag x.number x.name xs inner rest) links at before (element ks j s)) (sym (so ∙ ap (λ z. over same (chain z) later) one)) (heard, (inside, behind))))

-- fewer lines are inside it, and behind it
pub inside_less : (b : Block) (xs : List (List ℕ × Tree)) (inner rest : Block) (links : List ℕ) (at : Option RowRef) (before : Outcomes) (m : PageMemo)
    (hs : List Heard) (i r : PageMemo) → TagWas b xs inner rest links at before m hs i r → lines_size inner < lines_size b
inside_less b xs inner rest links at before m hs i r x =
    let s : lines_size b ≡ lines_size (tag x.number x.name xs inner rest) = ap lines_size x.block_is in
    omega (arith, s)

pub behind_less : (b : Block) (xs : List (List ℕ × Tree)) (inner rest : Block) (links : List ℕ) (at : Option RowRef) (before : Outcomes) (m : PageMemo)
    (hs : List Heard) (i r : PageMemo) → TagWas b xs inner rest links at before m hs i r → lines_size rest < lines_size b
behind_less b xs inner rest links at before m hs i r x =
    let s : lines_size b ≡ lines_size (tag x.number x.name xs inner rest) = ap lines_size x.block_is in
    omega (arith, s)
