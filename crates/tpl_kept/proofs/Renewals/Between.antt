-- What was kept for rows at the front and at the back stays where it is, and only that of the rows between is looked for.
use Rattle.std.proofs.Common.{◌≡◌, ℕ, zero, suc, ◌+◌, ◌≤◌, List, [], ◌∷◌, ◌++◌, drop, length, map, take, Option, Some, refl, sym, ap, subst, ◌∙◌, arith}
use Rattle.std.proofs.lemmas.Bool.{true≢false}
use Rattle.std.proofs.lemmas.List.{drop-map, length-map, map-append, take-map}
use Rattle.sig_base.specs.Tables.{Table}
use Rattle.sig_formula.specs.declared.formula.RowRef.{RowRef}
use Rattle.tpl_model.specs.Lines.{Block}
use Rattle.tpl_hearing.specs.Heard.{Outcomes}
use Rattle.tpl_model.specs.PageUpdates.PageMemos.{PageMemo, unread}
use Rattle.tpl_model.specs.KeptLines.Memos.{lines_memo}
use Rattle.tpl_kept.specs.Renewals.{SlotsWere}
use Rattle.tpl_kept.proofs.Listened.Rowed.{row_at}
use Rattle.tpl_kept.proofs.Listened.Slots.{like_row}
use Rattle.tpl_kept.proofs.Listened.Splits.{unread_was}
use Rattle.tpl_kept.specs.Heads.{places_from}
use Rattle.tpl_kept.proofs.Renewals.RowMemos.{among_both, how_many, were_both}
use Rattle.tpl_kept.specs.Turns.{AreAlike, AreAmong, RowsStand, ServeRows, WereEach, later_of}

-- ---- some of the rows

places_both : (u : Table) (i n k j total : ℕ) → i + n ≡ j → n + k ≡ total → places_from u i n ++ places_from u j k ≡ places_from u i total
places_both u i zero k j total e f =
    let from : j ≡ i = omega (arith, e) in
    let count : k ≡ total = omega (arith, f) in
    ap (λ z. places_from u z k) from ∙ ap (places_from u i) count
places_both u i (suc n) k j total e f =
    let count : suc (n + k) ≡ total = omega (arith, f) in
    ap (λ z. Some (row_at u i) ∷ z) (places_both u (suc i) n k j (n + k) (omega (arith, e)) refl) ∙ ap (places_from u i) count

slots_front : (b : Block) (links : List ℕ) (t : Table) (i n : ℕ) (before : Outcomes) (ms : List PageMemo) → SlotsWere b links t i before ms →
    SlotsWere b links t i before (take n ms)
slots_front b links t i zero before ms all = tt
slots_front b links t i (suc n) before [] all = tt
slots_front b links t i (suc n) before (m ∷ ms) all = (all.0, slots_front b links t (suc i) n before ms all.1)

slots_behind : (b : Block) (links : List ℕ) (t : Table) (i n j : ℕ) (before : Outcomes) (ms : List PageMemo) → i + n ≡ j → SlotsWere b links t i before ms →
    SlotsWere b links t j before (drop n ms)
slots_behind b links t i zero j before ms e all = let from : i ≡ j = omega (arith, e) in subst (λ z. SlotsWere b links t z before ms) from all
slots_behind b links t i (suc n) j before [] e all = tt
slots_behind b links t i (suc n) j before (m ∷ ms) e all = slots_behind b links t (suc i) n j before ms (omega (arith, e)) all.1

were_front : (b : Block) (links : List ℕ) (before : Outcomes) (rs : List (Option RowRef)) (ms : List PageMemo) → WereEach b links rs before ms →
    WereEach b links rs before (take (length rs) ms)
were_front b links before [] ms all = tt
were_front b links before (r ∷ rs) [] all = all
were_front b links before (r ∷ rs) (m ∷ ms) all = (all.0, were_front b links before rs ms all.1)

among_front : (t : Table) (rs : List (Option RowRef)) (ms : List PageMemo) → AreAmong t rs ms → AreAmong t rs (take (length rs) ms)
among_front t [] ms all = tt
among_front t (r ∷ rs) [] all = all
among_front t (r ∷ rs) (m ∷ ms) all = (all.0, among_front t rs ms all.1)

-- where nothing is kept, that serves
pub nothing_serves : (b : Block) (links : List ℕ) (before : Outcomes) (rs : List (Option RowRef)) (ms : List PageMemo) → ms ≡ [] → WereEach b links rs before ms
nothing_serves b links before [] ms e = tt
nothing_serves b links before (r ∷ rs) [] e = (unread_was (lines_memo b) links r before unread refl, nothing_serves b links before rs [] refl)
nothing_serves b links before (r ∷ rs) (m ∷ ms) e = cc

pub nothing_among : (t : Table) (rs : List (Option RowRef)) (ms : List PageMemo) → ms ≡ [] → AreAmong t rs ms
nothing_among t [] ms e = tt
nothing_among t (r ∷ rs) [] e = ((λ k. absurd (true≢false k)), nothing_among t rs [] refl)
nothing_among t (r ∷ rs) (m ∷ ms) e = cc

-- ---- rows that are alike

alike_serve : (b : Block) (links : List ℕ) (t u : Table) (i j n : ℕ) (before : Outcomes) (ms : List PageMemo) → i + n ≤ length t.rows →
    AreAlike t i u j n → SlotsWere b links t i before ms → WereEach b links (places_from u j n) before ms
alike_serve b links t u i j zero before ms lt same all = tt
alike_serve b links t u i j (suc n) before [] lt same all = (
  unread_was (lines_memo b) links (Some (row_at u j)) before unread refl,
  alike_serve b links t u (suc i) (suc j) n before [] (omega (arith, lt)) same.1 tt,
)
alike_serve b links t u i j (suc n) before (m ∷ ms) lt same all = (
  like_row b links (row_at t i) (row_at u j) before m same.0 (all.0 (omega (arith, lt))),
  alike_serve b links t u (suc i) (suc j) n before ms (omega (arith, lt)) same.1 all.1,
)

alike_among : (t u : Table) (i j n : ℕ) (ms : List PageMemo) → i + n ≤ length t.rows → AreAlike t i u j n → AreAmong t (places_from u j n) ms
alike_among t u i j zero ms lt same = tt
alike_among t u i j (suc n) ms lt same = (
  (λ k. record { place = i; inside = omega (arith, lt); same = same.0 }),
  alike_among t u (suc i) (suc j) n (later_of ms) (omega (arith, lt)) same.1,
)

-- ---- all rows

-- What was kept is cut behind the rows that stand and before those at the back that are alike; what was found for the rows between stands behind the
-- first and before the last.
pub record Cut {A : Type 0} (t u : Table) (front back k i last : ℕ) (memos first left behind found all : List A) : Type 0 where
  pub is_first : first ≡ take front memos
  pub is_left : left ≡ take k (drop front memos)
  pub is_behind : behind ≡ drop k (drop front memos)
  pub whole : all ≡ found ++ behind
  pub many : length found ≡ last
  pub between : front + k ≡ i
  pub was_all : i + back ≤ length t.rows
  pub now_all : last + back ≡ length u.rows
  pub alike : AreAlike t i u last back

pub found_serve : {A : Type 0} (f : A → PageMemo) (t u : Table) (front back k i last : ℕ) (memos first left behind found all : List A) (old : List PageMemo) →
    Cut t u front back k i last memos first left behind found all → RowsStand t u front old (map f memos) →
    ((b : Block) (links : List ℕ) (before : Outcomes) → SlotsWere b links t front before (map f left) →
    WereEach b links (places_from u 0 front) before (map f first) → WereEach b links (places_from u 0 last) before (map f found)) →
    (AreAmong t (places_from u 0 front) (map f first) → AreAmong t (places_from u 0 last) (map f found)) →
    ServeRows t u old (map f all) × AreAmong t (places_from u 0 (length u.rows)) (map f all)
found_serve f t u front back k i last memos first left behind found all old c x serve among =
    let is_first : map f first ≡ take (length (places_from u 0 front)) (map f memos) =
    ap (map f) c.is_first ∙ (sym (take-map f front memos) ∙ ap (λ z. take z (map f memos)) (sym (how_many u 0 front))) in
    let is_left : map f left ≡ take k (drop front (map f memos)) =
    ap (map f) c.is_left ∙ (sym (take-map f k (drop front memos)) ∙ ap (take k) (sym (drop-map f front memos))) in
    let is_behind : map f behind ≡ drop k (drop front (map f memos)) =
    ap (map f) c.is_behind ∙ (sym (drop-map f k (drop front memos)) ∙ ap (drop k) (sym (drop-map f front memos))) in
    let are_all : map f found ++ map f behind ≡ map f all = sym (ap (map f) c.whole ∙ map-append f found behind) in
    let places : places_from u 0 last ++ places_from u last back ≡ places_from u 0 (length u.rows) =
    places_both u 0 last back last (length u.rows) (omega arith) c.now_all in
    let many : length (places_from u 0 last) ≡ length (map f found) = how_many u 0 last ∙ (sym c.many ∙ sym (length-map found f)) in (
      (λ b links before s.
          let rest : SlotsWere b links t front before (drop front (map f memos)) =
          slots_behind b links t 0 front front before (map f memos) (omega arith) (x.left b links before s) in
          let found_were : WereEach b links (places_from u 0 last) before (map f found) =
          serve b links before
          (subst (SlotsWere b links t front before) (sym is_left) (slots_front b links t front k before (drop front (map f memos)) rest))
          (subst (WereEach b links (places_from u 0 front) before) (sym is_first)
          (were_front b links before (places_from u 0 front) (map f memos) (x.serve b links before s))) in
          let behind_were : WereEach b links (places_from u last back) before (map f behind) =
          alike_serve b links t u i last back before (map f behind) c.was_all c.alike
          (subst (SlotsWere b links t i before) (sym is_behind) (slots_behind b links t front k i before (drop front (map f memos)) c.between rest)) in
          subst (λ z. WereEach b links z before (map f all)) places
          (subst (WereEach b links (places_from u 0 last ++ places_from u last back) before) are_all
          (were_both b links before (places_from u 0 last) (places_from u last back) (map f found) (map f behind) many found_were behind_were))),
      (let found_are : AreAmong t (places_from u 0 last) (map f found) =
          among (subst (AreAmong t (places_from u 0 front)) (sym is_first) (among_front t (places_from u 0 front) (map f memos) x.among)) in
          subst (λ z. AreAmong t z (map f all)) places
          (subst (AreAmong t (places_from u 0 last ++ places_from u last back)) are_all
          (among_both t (places_from u 0 last) (places_from u last back) (map f found) (map f behind) many found_are
          (alike_among t u i last back (map f behind) c.was_all c.alike)))),
    )
