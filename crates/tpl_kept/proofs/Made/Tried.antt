-- What is kept of what is tried, once both of its parts are made.
use Rattle.std.specs.Prelude.{◌||◌, not}
use Rattle.std.proofs.Common.{◌≡◌, ◌<◌, ◌≤◌, ◌+◌, ℕ, suc, Bool, true, false, List, [], ◌∷◌, length, Option, refl, sym, ap, subst, ◌∙◌, ◌⊎◌, inl, inr, arith}
use Rattle.sig_formula.specs.declared.formula.RowRef.{RowRef}
use Rattle.tpl_model.specs.Lines.{Block, empty, text, tag, choice, each, attempt}
use Rattle.tpl_hearing.specs.Heard.{Grows, Outcomes}
use Rattle.tpl_model.specs.PageUpdates.PageMemos.{PageMemo, blank, either, failed}
use Rattle.tpl_model.specs.KeptLines.Memos.{Makes, attempt_memo, part_memo}
use Rattle.tpl_kept.proofs.Listened.Sequences.{parts_made, unread_made, where_read}
use Rattle.tpl_kept.proofs.Made.Memos.{alone_failed, alone_kept, alone_made, unless_are, unless_few}
use Rattle.tpl_kept.specs.Heads.{AreRows, IsAttempted, IsRow, MakesEach, Opens, OpensOn, TellsFault, any_failed, first_part, last_of, last_read, lines_size, met_fault, places_tried, second_part, unless_ended}
use Rattle.tpl_kept.specs.declared.making.head.Head.{Head}

-- ---- where the parts are made

-- in one row or nowhere
one_row : (over : Bool) (b : Block) (row : Option RowRef) → (unless_ended over (places_tried b row) ≡ []) ⊎ (unless_ended over (places_tried b row) ≡ row ∷ [])
one_row true b row = inl refl
one_row false empty row = inl refl
one_row false (text n f rest) row = inl refl
one_row false (tag n name xs inner rest) row = inl refl
one_row false (choice f one other rest) row = inl refl
one_row false (each f inner rest) row = inl refl
one_row false (attempt first second rest) row = inr refl

-- rows are rows
pub tried_are : (b : Block) (row : Option RowRef) → IsRow row → AreRows (places_tried b row)
tried_are b row r = elim (one_row false b row) [ inl e ↦ subst AreRows (sym e) tt | inr e ↦ subst AreRows (sym e) (r, tt) ]

few_tried : (b : Block) (row : Option RowRef) → length (places_tried b row) ≤ 1
few_tried b row = elim (one_row false b row) [
  | inl e ↦ (let n : length (places_tried b row) ≡ 0 = ap length e in omega (arith, n))
  | inr e ↦ (let n : length (places_tried b row) ≡ 1 = ap length e in omega (arith, n))
]

-- less is left
first_less : (b : Block) (row : Option RowRef) (n : ℕ) → lines_size (first_part b) + length (places_tried b row) < lines_size b + suc n
first_less empty row n = omega arith
first_less (text k f rest) row n = omega arith
first_less (tag k name xs inner rest) row n = omega arith
first_less (choice f one other rest) row n = omega arith
first_less (each f inner rest) row n = omega arith
first_less (attempt first second rest) row n = omega arith

second_less : (b : Block) (row : Option RowRef) (n : ℕ) → lines_size (second_part b) + length (places_tried b row) < lines_size b + suc n
second_less empty row n = omega arith
second_less (text k f rest) row n = omega arith
second_less (tag k name xs inner rest) row n = omega arith
second_less (choice f one other rest) row n = omega arith
second_less (each f inner rest) row n = omega arith
second_less (attempt first second rest) row n = omega arith

-- the lines of a part, and the rows where they are made
pub record Ready (b lines : Block) (all places : List (Option RowRef)) : Type 0 where
  pub smaller : lines_size lines + length places < lines_size b + length all
  pub few : length places ≤ 1
  pub rows : AreRows places

pub first_ready : (b lines : Block) (row : Option RowRef) (rows others places : List (Option RowRef)) → rows ≡ row ∷ others → AreRows rows → lines ≡ first_part b →
    places ≡ places_tried b row → Ready b lines rows places
first_ready b lines row rows others places split are l p =
    let s : length rows ≡ suc (length others) = ap length split in
    let m : lines_size lines ≡ lines_size (first_part b) = ap lines_size l in
    let n : length places ≡ length (places_tried b row) = ap length p in
    let k = first_less b row (length others) in
    let f = few_tried b row in
    record {
      smaller = omega (arith, s, m, n, k);
      few = omega (arith, n, f);
      rows = subst AreRows (sym p) (tried_are b row (subst AreRows split are).0);
    }

pub second_ready : (b lines : Block) (row : Option RowRef) (over : Bool) (rows others at places : List (Option RowRef)) → rows ≡ row ∷ others → AreRows rows →
    lines ≡ second_part b → at ≡ places_tried b row → places ≡ unless_ended over at → Ready b lines rows places
second_ready b lines row over rows others at places split are l p q =
    let s : length rows ≡ suc (length others) = ap length split in
    let m : lines_size lines ≡ lines_size (second_part b) = ap lines_size l in
    let e : places ≡ unless_ended over (places_tried b row) = q ∙ ap (unless_ended over) p in
    let n : length places ≡ length (unless_ended over (places_tried b row)) = ap length e in
    let u = unless_few over (places_tried b row) in
    let k = second_less b row (length others) in
    let f = few_tried b row in
    record {
      smaller = omega (arith, s, m, n, u, k);
      few = omega (arith, n, u, f);
      rows = subst AreRows (sym e) (unless_are over (places_tried b row) (tried_are b row (subst AreRows split are).0));
    }

-- ---- what is kept of them

-- what is kept last was read
only_read : (ys : List PageMemo) (k : PageMemo) → ys ≡ k ∷ [] → last_read ys ≡ last_of ys
only_read ys k e = ap last_read e ∙ sym (ap last_of e)

-- the second part, unless the first is shown
second_made : (ends ended : Bool) (b : Block) (links : List ℕ) (row : Option RowRef) (a c : Outcomes) (ys : List PageMemo) →
    MakesEach ends b links (unless_ended (not ended) (row ∷ [])) a c [] ys → Makes (where_read ended (part_memo ends b)) links row a c (last_read ys)
second_made ends true b links row a c ys x =
    let k = alone_kept ends b links row a c ys x in
    let y = subst (Makes (part_memo ends b) links row a c) (sym (only_read ys k.0 k.1)) (alone_made ends b links row a c ys x) in
    record { is = λ source agrees here e. y.is source agrees here e; order = y.order }
second_made ends false b links row a c ys x =
    subst (λ z. Makes (where_read false (part_memo ends b)) links row a z (last_read ys)) (sym x.0)
    (unread_made (part_memo ends b) links row a (last_read ys) (ap last_read x.1))

-- whether it met a fault
second_failed : (ends : Bool) (b : Block) (links : List ℕ) (row : Option RowRef) (places : List (Option RowRef)) (a c : Outcomes) (ys : List PageMemo) →
    (places ≡ []) ⊎ (places ≡ row ∷ []) → MakesEach ends b links places a c [] ys → any_failed ys ≡ failed (last_read ys)
second_failed ends b links row places a c ys (inl e) x =
    let none = (subst (λ z. MakesEach ends b links z a c [] ys) e x).1 in
    ap any_failed none ∙ sym (ap (λ z. failed (last_read z)) none)
second_failed ends b links row places a c ys (inr e) x =
    let one = subst (λ z. MakesEach ends b links z a c [] ys) e x in
    let k = alone_kept ends b links row a c ys one in
    sym (ap failed (only_read ys k.0 k.1) ∙ alone_failed ends b links row a c ys one)

-- what was made of both parts, as the code made it
pub record BothMade (ends : Bool) (b : Block) (links : List ℕ) (row : Option RowRef) (a m c : Outcomes) (ended : Bool) (xs ys : List PageMemo) : Type 0 where
  pub first : MakesEach true (first_part b) links (places_tried b row) a m [] xs
  pub told : ended ≡ any_failed xs
  pub second : MakesEach ends (second_part b) links (unless_ended (not ended) (places_tried b row)) m c [] ys
  pub grows : Grows m c

pub both_made : (ends : Bool) (b front back : Block) (links : List ℕ) (row : Option RowRef) (at left : List (Option RowRef)) (a m c : Outcomes) (ended : Bool)
    (none xs nil ys : List PageMemo) → front ≡ first_part b → back ≡ second_part b → at ≡ places_tried b row → left ≡ unless_ended (not ended) at → none ≡ [] →
    nil ≡ [] → MakesEach true front links at a m none xs → TellsFault none xs ended → MakesEach ends back links left m c nil ys → Grows m c →
    BothMade ends b links row a m c ended xs ys
both_made ends b front back links row at left a m c ended none xs nil ys ef eb ea el en em one told two g = record {
  first = subst (λ z. MakesEach true (first_part b) links (places_tried b row) a m z xs) en
      (subst (λ z. MakesEach true (first_part b) links z a m none xs) ea (subst (λ z. MakesEach true z links at a m none xs) ef one));
  told = sym (told ∙ ap (λ z. any_failed z || ended) en);
  second = subst (λ z. MakesEach ends (second_part b) links (unless_ended (not ended) (places_tried b row)) m c z ys) em
      (subst (λ z. MakesEach ends (second_part b) links z m c nil ys) (el ∙ ap (unless_ended (not ended)) ea)
      (subst (λ z. MakesEach ends z links left m c nil ys) eb two));
  grows = g;
}

-- whether its second part met a fault
pub both_told : (ends : Bool) (b : Block) (links : List ℕ) (row : Option RowRef) (a m c : Outcomes) (ended : Bool) (xs nil ys : List PageMemo) (met : Bool) →
    BothMade ends b links row a m c ended xs ys → nil ≡ [] → TellsFault nil ys met → met ≡ failed (last_read ys)
both_told ends b links row a m c ended xs nil ys met both e told =
    sym (told ∙ ap (λ z. any_failed z || met) e)
    ∙ second_failed ends (second_part b) links row (unless_ended (not ended) (places_tried b row)) m c ys (one_row (not ended) b row) both.second

-- ---- the first line

-- what is tried met a fault where its second part did
pub attempted_failed : (h : Head) (xs ys : List PageMemo) (met : Bool) → IsAttempted h xs ys → met ≡ failed (last_read ys) → met ≡ met_fault h
attempted_failed h xs ys met o e = e ∙ (sym (ap failed o.2.1.1) ∙ sym (ap met_fault o.2.0))

-- nothing is heard for any other line before it is
nothing_before : (ends over : Bool) (b c : Block) (links : List ℕ) (a m d : Outcomes) (xs ys : List PageMemo) → MakesEach true b links [] a m [] xs →
    MakesEach ends c links (unless_ended over []) m d [] ys → d ≡ a
nothing_before ends true b c links a m d xs ys one two = two.0 ∙ one.0
nothing_before ends false b c links a m d xs ys one two = two.0 ∙ one.0

-- what was heard of the first line
pub opened : (ends : Bool) (b : Block) (links : List ℕ) (row : Option RowRef) (a m c now : Outcomes) (ended : Bool) (xs ys : List PageMemo) (h : Head) →
    BothMade ends b links row a m c ended xs ys → OpensOn ends b links row c now xs ys h → Opens ends b links row a now h
opened ends empty links row a m c now ended xs ys h both o =
    subst (λ z. Opens ends empty links row z now h) (nothing_before ends (not ended) empty empty links a m c xs ys both.first both.second) o
opened ends (text n f rest) links row a m c now ended xs ys h both o =
    let b = text n f rest in
    subst (λ z. Opens ends (text n f rest) links row z now h) (nothing_before ends (not ended) b b links a m c xs ys both.first both.second) o
opened ends (tag n name ks inner rest) links row a m c now ended xs ys h both o =
    let b = tag n name ks inner rest in
    subst (λ z. Opens ends (tag n name ks inner rest) links row z now h) (nothing_before ends (not ended) b b links a m c xs ys both.first both.second) o
opened ends (choice f one other rest) links row a m c now ended xs ys h both o =
    let b = choice f one other rest in
    subst (λ z. Opens ends (choice f one other rest) links row z now h) (nothing_before ends (not ended) b b links a m c xs ys both.first both.second) o
opened ends (each f inner rest) links row a m c now ended xs ys h both o =
    let b = each f inner rest in
    subst (λ z. Opens ends (each f inner rest) links row z now h) (nothing_before ends (not ended) b b links a m c xs ys both.first both.second) o
opened ends (attempt first second rest) links row a m c now ended xs ys h both o =
    let k = o.0 in
    let one = alone_made true first links row a m xs both.first in
    let met : failed (last_of xs) ≡ ended = alone_failed true first links row a m xs both.first ∙ sym both.told in
    let two = subst (λ z. Makes (where_read z (part_memo ends second)) links row m c (last_read ys)) (sym met) (second_made ends ended second links row m c ys both.second) in
    let made : Makes (attempt_memo ends first second) links row a c (either (last_of xs) (last_read ys) blank) =
    parts_made ends links row first second a m c (last_of xs) (last_read ys) (either (last_of xs) (last_read ys) blank) one both.grows two refl in (
      k.0,
      k.1,
      (
        k.2.0,
        subst (λ y. y) (λ i. Makes (attempt_memo ends first second) links row a (sym o.1 i) (either (sym k.2.1.0 i) (sym k.2.1.1 i) blank)) made,
      ),
    )

-- as the code has it
pub begun : (ends : Bool) (b front back : Block) (links : List ℕ) (row : Option RowRef) (at left : List (Option RowRef)) (a m c now : Outcomes) (ended : Bool)
    (none xs nil ys : List PageMemo) (h : Head) → front ≡ first_part b → back ≡ second_part b → at ≡ places_tried b row → left ≡ unless_ended (not ended) at →
    none ≡ [] → nil ≡ [] → MakesEach true front links at a m none xs → TellsFault none xs ended → MakesEach ends back links left m c nil ys → Grows m c →
    OpensOn ends b links row c now xs ys h → Opens ends b links row a now h
begun ends b front back links row at left a m c now ended none xs nil ys h ef eb ea el en em one told two g o =
    opened ends b links row a m c now ended xs ys h
    (both_made ends b front back links row at left a m c ended none xs nil ys ef eb ea el en em one told two g) o
