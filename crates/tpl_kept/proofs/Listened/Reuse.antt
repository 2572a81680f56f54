-- What was kept before, where the names are as before, and where it is made anew.
use Rattle.std.proofs.Common.{◌≡◌, ℕ, zero, suc, ◌+◌, ◌<◌, ◌==◌, Bool, true, false, List, [], ◌∷◌, ◌++◌, length, take, Option, Some, None, refl, sym, ap, ◌∙◌, eqb-true, eq-eqb, inl, inr, arith}
use Rattle.std.specs.Prelude.{unwrap_or}
use Rattle.std.specs.Map.{keys_of}
use Rattle.std.proofs.lemmas.Bool.{cases_Bool, false≢true}
use Rattle.std.proofs.lemmas.List.{append-nil}
use Rattle.sig_base.specs.declared.value.Fault.TheVariants.{Gone}
use Rattle.sig_base.specs.declared.value.Outcome.{Outcome}
use Rattle.sig_base.specs.declared.value.Outcome.TheVariants.{Bad}
use Rattle.sig_formula.specs.Trees.{Tree}
use Rattle.sig_formula.specs.declared.formula.RowRef.{RowRef}
use Rattle.signal_model.specs.Signals.{is_in}
use Rattle.signal_laws.specs.ReadLaws.{firsts_after}
use Rattle.signal_laws.proofs.Shared.{firsts_front_law}
use Rattle.tpl_model.specs.Lines.{Block, empty, tag, attempt}
use Rattle.tpl_model.specs.Shapes.{Here, row_here}
use Rattle.tpl_model.specs.Sources.{evaluating}
use Rattle.tpl_hearing.specs.Heard.{Grows, Outcomes}
use Rattle.tpl_hearing.specs.HeardAgain.{AreAsBefore, AreSame, AreSameUpTo}
use Rattle.tpl_hearing.proofs.Shared.{outcome_in, still_as_before}
use Rattle.tpl_model.specs.PageUpdates.PageMemos.{Heard, Hearing, PageMemo, blank, element, either, hearing, all_names, all_same, attributes_heard, memo_of, names, up_to_change}
use Rattle.tpl_model.specs.PageUpdates.Updates.{Tells}
use Rattle.tpl_model.proofs.Shared.{begins, memo_agree, memo_upto, steady}
use Rattle.tpl_model.specs.KeptLines.Memos.{Agrees, Listens, ListensAll, Makes, attempt_memo, lines_memo}
use Rattle.tpl_kept.proofs.Listened.Sequences.{both_names}
use Rattle.tpl_model.specs.KeptLines.Before.{WasListened, WasListenedAll, WasMade}

-- a place of lines in a row
abbrev pub any_here : Option RowRef → Option Here
any_here None = None
any_here (Some r) = Some (record { key = []; row = r })

pub any_row : (row : Option RowRef) → row_here (any_here row) ≡ row
any_row None = refl
any_row (Some r) = refl

-- ---- names that are as before

-- the outcomes that were heard agree
pub in_agrees : (heard : Outcomes) → Agrees heard (outcome_in heard)
in_agrees heard = record { each = λ n o h. ap (λ (z : Option Outcome). unwrap_or z (Bad Gone)) h }

-- a name among those that are as before has the outcome of before
as_before_in : (before now : Outcomes) (ns : List ℕ) → AreAsBefore before now ns → (source : ℕ → Outcome) → Agrees now source → (n : ℕ) →
    is_in n ns ≡ true → outcome_in before n ≡ source n
as_before_in before now [] all source a n h = absurd (false≢true h)
as_before_in before now (m ∷ ns) all source a n h = elim (cases_Bool (n == m)) [
  | inl e ↦ (
      let q : n ≡ m = eqb-true n m e in
      ap (outcome_in before) q ∙ (ap (λ (z : Option Outcome). unwrap_or z (Bad Gone)) all.0.was ∙ (sym (a.each m all.0.outcome all.0.is) ∙ ap source (sym q))))
  | inr e ↦ as_before_in before now ns all.1 source a n (rw e at h)
]

-- the names of a list are in it
in_more : (n m : ℕ) (ns : List ℕ) → is_in n ns ≡ true → is_in n (m ∷ ns) ≡ true
in_more n m ns h = elim (cases_Bool (n == m)) [ inl e ↦ rw e refl | inr e ↦ rw e h ]

all_in : (xs ns : List ℕ) → ((n : ℕ) → is_in n ns ≡ true → is_in n xs ≡ true) → all_same (λ n. is_in n xs) ns ≡ true
all_in xs [] h = refl
all_in xs (m ∷ ns) h = (let e : is_in m xs ≡ true = h m (let i = eq-eqb m m refl in rw i refl) in rw e (all_in xs ns (λ n i. h n (in_more n m ns i))))

own_in : (ns : List ℕ) → all_same (λ n. is_in n ns) ns ≡ true
own_in ns = all_in ns ns (λ n i. i)

-- ---- kept as it is

-- lines all of whose names are as before are those from scratch
pub stayed : (b : Block) (links : List ℕ) (row : Option RowRef) (before earlier now : Outcomes) (m : PageMemo) →
    WasMade (lines_memo b) links row before m → AreSame before (names m) earlier now → Makes (lines_memo b) links row earlier now m
stayed b links row before earlier now m was a = record {
  is = λ source agrees here e.
      let s0 : ℕ → Outcome = outcome_in before in
      let hear : Hearing = hearing (evaluating links s0) in
      let later : Hearing = hearing (evaluating links source) in
      let ns = names m in
      let same : ℕ → Bool = λ n. is_in n ns in
      let p : m ≡ memo_of hear false here b = was.is s0 (in_agrees before) here e in
      let t : Tells same s0 source = as_before_in before now ns a.same source agrees in
      let q : all_same same (names (memo_of hear false here b)) ≡ true = ap (λ z. all_same same (names z)) (sym p) ∙ own_in ns in
      p ∙ memo_agree same hear later (steady same s0 source links t) b false here q;
  order = a.order;
}

-- so is a line
pub line_stayed : (f : Tree) (links : List ℕ) (row : Option RowRef) (before earlier now : Outcomes) (h : Heard) →
    WasListened f links row before h → AreSame before h.names earlier now → Listens f links row earlier now h
line_stayed f links row before earlier now h was a = record {
  is = λ source agrees.
      let s0 : ℕ → Outcome = outcome_in before in
      let same : ℕ → Bool = λ n. is_in n h.names in
      let p : h ≡ hearing (evaluating links s0) row f = was.is s0 (in_agrees before) in
      let t : Tells same s0 source = as_before_in before now h.names a.same source agrees in
      p ∙ (steady same s0 source links t).heard row f (ap (λ (z : Heard). all_same same z.names) (sym p) ∙ own_in h.names);
  order = a.order;
}

-- ---- made anew

-- where two lists have one beginning, up to the first that has changed, so have they as far as is as before
front_same : (same : ℕ → Bool) (count : ℕ) (xs ys : List ℕ) → all_same same (take count xs) ≡ true → count < length xs →
    up_to_change same xs ≡ up_to_change same ys → take (count + 1) xs ≡ take (count + 1) ys
front_same same count [] ys a lt u = absurd (omega (arith, lt))
front_same same count (x ∷ xs) [] a lt u = cc
front_same same zero (x ∷ xs) (y ∷ ys) a lt u = (let h : x ≡ y = cc in ap (λ z. z ∷ []) h)
front_same same (suc count) (x ∷ xs) (y ∷ ys) a lt u = elim (cases_Bool (same x)) [
  | inl e ↦ (
      let h : x ≡ y = cc in
      let f : same y ≡ true = ap same (sym h) ∙ e in
      let v : x ∷ up_to_change same xs ≡ y ∷ up_to_change same ys = rw (e, f) at u in
      let w : up_to_change same xs ≡ up_to_change same ys = cc in
      let n : suc count + 1 ≡ suc (count + 1) = omega arith in
      let r = front_same same count xs ys (rw e at a) (omega (arith, lt)) w in
      rw n (λ i. h i ∷ r i))
  | inr e ↦ absurd (false≢true (rw e at a))
]

-- names that were heard first, as far as they are as before, and then all that are read now
pub order_anew : (same : ℕ → Bool) (xs ys : List ℕ) (count : ℕ) (earlier mid now : Outcomes) → all_same same (take count xs) ≡ true → count < length xs →
    up_to_change same xs ≡ up_to_change same ys → keys_of mid ≡ firsts_after (keys_of earlier) (take (count + 1) xs) →
    keys_of now ≡ firsts_after (keys_of mid) ys → keys_of now ≡ firsts_after (keys_of earlier) ys
order_anew same xs ys count earlier mid now a lt u h k =
    k ∙ (ap (λ z. firsts_after z ys) (h ∙ ap (firsts_after (keys_of earlier)) (front_same same count xs ys a lt u))
    ∙ firsts_front_law (keys_of earlier) ys (count + 1))

-- lines of which a name has changed, made on what is heard then
pub remade : (b : Block) (links : List ℕ) (row : Option RowRef) (before earlier mid now : Outcomes) (m k : PageMemo) →
    WasMade (lines_memo b) links row before m → AreSameUpTo before (names m) earlier mid → Grows mid now → Makes (lines_memo b) links row mid now k →
    Makes (lines_memo b) links row earlier now k
remade b links row before earlier mid now m k was a g made =
    let front = take a.count (names m) in
    let s0 : ℕ → Outcome = outcome_in before in
    let s1 : ℕ → Outcome = outcome_in now in
    let here = any_here row in
    let hear : Hearing = hearing (evaluating links s0) in
    let later : Hearing = hearing (evaluating links s1) in
    let same : ℕ → Bool = λ n. is_in n front in
    let t : Tells same s0 s1 = as_before_in before now front (still_as_before before mid now front g a.same) s1 (in_agrees now) in
    let p : m ≡ memo_of hear false here b = was.is s0 (in_agrees before) here (any_row row) in
    let q : k ≡ memo_of later false here b = made.is s1 (in_agrees now) here (any_row row) in
    let u : up_to_change same (names m) ≡ up_to_change same (names k) =
    ap (λ z. up_to_change same (names z)) p
    ∙ (memo_upto same hear later (steady same s0 s1 links t) (begins same s0 s1 links t) b false here ∙ ap (λ z. up_to_change same (names z)) (sym q)) in
    record {
      is = made.is;
      order = order_anew same (names m) (names k) a.count earlier mid now (own_in front) a.inside u a.order made.order;
    }

-- so is a line
pub line_remade : (f : Tree) (links : List ℕ) (row : Option RowRef) (before earlier mid now : Outcomes) (h k : Heard) → WasListened f links row before h →
    AreSameUpTo before h.names earlier mid → Grows mid now → Listens f links row mid now k → Listens f links row earlier now k
line_remade f links row before earlier mid now h k was a g made =
    let front = take a.count h.names in
    let s0 : ℕ → Outcome = outcome_in before in
    let s1 : ℕ → Outcome = outcome_in now in
    let same : ℕ → Bool = λ n. is_in n front in
    let t : Tells same s0 s1 = as_before_in before now front (still_as_before before mid now front g a.same) s1 (in_agrees now) in
    let p : h ≡ hearing (evaluating links s0) row f = was.is s0 (in_agrees before) in
    let q : k ≡ hearing (evaluating links s1) row f = made.is s1 (in_agrees now) in
    let u : up_to_change same h.names ≡ up_to_change same k.names =
    ap (λ (z : Heard). up_to_change same z.names) p ∙ (begins same s0 s1 links t row f ∙ ap (λ (z : Heard). up_to_change same z.names) (sym q)) in
    record {
      is = made.is;
      order = order_anew same h.names k.names a.count earlier mid now (own_in front) a.inside u a.order made.order;
    }

-- ---- attributes, as those of an element that has nothing inside

abbrev pub attributes_in : PageMemo → List Heard
attributes_in (element hs i r) = hs
attributes_in m = []

abbrev bare_tag : List (List ℕ × Tree) → Block
bare_tag xs = tag 0 [] xs empty empty

bare_names : (hs : List Heard) → names (element hs blank blank) ≡ all_names hs
bare_names hs = append-nil (all_names hs ++ []) ∙ append-nil (all_names hs)

bare_was : (xs : List (List ℕ × Tree)) (links : List ℕ) (row : Option RowRef) (before : Outcomes) (hs : List Heard) →
    WasListenedAll xs links row before hs → WasMade (lines_memo (bare_tag xs)) links row before (element hs blank blank)
bare_was xs links row before hs was = record {
  is = λ source agrees here e.
      ap (λ z. element z blank blank) (was.is source agrees ∙ ap (λ z. attributes_heard false (hearing (evaluating links source)) z xs) (sym e));
}

bare_made : (xs : List (List ℕ × Tree)) (links : List ℕ) (row : Option RowRef) (earlier now : Outcomes) (hs : List Heard) →
    ListensAll xs links row earlier now hs → Makes (lines_memo (bare_tag xs)) links row earlier now (element hs blank blank)
bare_made xs links row earlier now hs l = record {
  is = λ source agrees here e.
      ap (λ z. element z blank blank) (l.is source agrees ∙ ap (λ z. attributes_heard false (hearing (evaluating links source)) z xs) (sym e));
  order = l.order ∙ ap (firsts_after (keys_of earlier)) (sym (bare_names hs));
}

bare_listened : (xs : List (List ℕ × Tree)) (links : List ℕ) (row : Option RowRef) (earlier now : Outcomes) (hs : List Heard) →
    Makes (lines_memo (bare_tag xs)) links row earlier now (element hs blank blank) → ListensAll xs links row earlier now hs
bare_listened xs links row earlier now hs made = record {
  is = λ source agrees.
      let hear : Hearing = hearing (evaluating links source) in
      let e : element hs blank blank ≡ element (attributes_heard false hear (row_here (any_here row)) xs) blank blank =
      made.is source agrees (any_here row) (any_row row) in
      ap attributes_in e ∙ ap (λ z. attributes_heard false hear z xs) (any_row row);
  order = made.order ∙ ap (firsts_after (keys_of earlier)) (bare_names hs);
}

-- attributes all of whose names are as before
pub all_stayed : (xs : List (List ℕ × Tree)) (links : List ℕ) (row : Option RowRef) (before earlier now : Outcomes) (hs : List Heard) →
    WasListenedAll xs links row before hs → AreSame before (all_names hs) earlier now → ListensAll xs links row earlier now hs
all_stayed xs links row before earlier now hs was a =
    let b : AreSame before (names (element hs blank blank)) earlier now = rw (bare_names hs) a in
    bare_listened xs links row earlier now hs (stayed (bare_tag xs) links row before earlier now (element hs blank blank) (bare_was xs links row before hs was) b)

-- and where one has changed
pub all_remade : (xs : List (List ℕ × Tree)) (links : List ℕ) (row : Option RowRef) (before earlier mid now : Outcomes) (hs ks : List Heard) →
    WasListenedAll xs links row before hs → AreSameUpTo before (all_names hs) earlier mid → Grows mid now → ListensAll xs links row mid now ks →
    ListensAll xs links row earlier now ks
all_remade xs links row before earlier mid now hs ks was a g made =
    let b : AreSameUpTo before (names (element hs blank blank)) earlier mid = rw (bare_names hs) a in
    bare_listened xs links row earlier now ks
    (remade (bare_tag xs) links row before earlier mid now (element hs blank blank) (element ks blank blank) (bare_was xs links row before hs was) b g
    (bare_made xs links row mid now ks made))

-- ---- what is tried, as lines that have nothing behind them

-- all of whose names are as before
pub attempt_stayed : (first second : Block) (links : List ℕ) (row : Option RowRef) (before earlier now : Outcomes) (x y : PageMemo) →
    WasMade (attempt_memo false first second) links row before (either x y blank) → AreSame before (names x ++ names y) earlier now →
    Makes (attempt_memo false first second) links row earlier now (either x y blank)
attempt_stayed first second links row before earlier now x y was a =
    let b : AreSame before (names (either x y blank)) earlier now = rw (both_names x y) a in
    let made = stayed (attempt first second empty) links row before earlier now (either x y blank) (record { is = λ source agrees here e. was.is source agrees here e }) b in
    record { is = λ source agrees here e. made.is source agrees here e; order = made.order }

-- and where one has changed
pub attempt_remade : (first second : Block) (links : List ℕ) (row : Option RowRef) (before earlier mid now : Outcomes) (x y k : PageMemo) →
    WasMade (attempt_memo false first second) links row before (either x y blank) → AreSameUpTo before (names x ++ names y) earlier mid → Grows mid now →
    Makes (attempt_memo false first second) links row mid now k → Makes (attempt_memo false first second) links row earlier now k
attempt_remade first second links row before earlier mid now x y k was a g made =
    let b : AreSameUpTo before (names (either x y blank)) earlier mid = rw (both_names x y) a in
    let again = remade (attempt first second empty) links row before earlier mid now (either x y blank) k (record { is = λ source agrees here e. was.is source agrees here e })
    b g (record { is = λ source agrees here e. made.is source agrees here e; order = made.order }) in
    record { is = λ source agrees here e. again.is source agrees here e; order = again.order }
