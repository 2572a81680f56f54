-- Lines that read no name stay, and others are brought up to date behind them.
use Rattle.std.proofs.Common.{◌≡◌, ℕ, zero, suc, ◌+◌, ◌<◌, ◌≤◌, false, List, [], ◌∷◌, ◌++◌, drop, length, map, replicate, slice_get, take, Option, Some, refl, sym, ap, subst, ◌∙◌, append_assoc, arith}
use Rattle.std.proofs.lemmas.Bool.{true≢false}
use Rattle.std.proofs.lemmas.List.{append-nil, map-append, replicate_more}
use Rattle.sig_formula.specs.declared.formula.RowRef.{RowRef}
use Rattle.tpl_model.specs.Lines.{Block}
use Rattle.tpl_hearing.specs.Heard.{Outcomes}
use Rattle.tpl_hearing.specs.HeardAgain.{AreSame}
use Rattle.tpl_model.specs.PageUpdates.PageMemos.{Heard, PageMemo, all_names, blank, branch, element, line, names}
use Rattle.tpl_model.specs.KeptLines.Changes.{Change, stays}
use Rattle.tpl_kept.proofs.Listened.Reuse.{stayed}
use Rattle.tpl_kept.specs.Heads.{AreRows, MakesEach}
use Rattle.tpl_kept.specs.Turns.{WereEach, first_of, later_of}
use Rattle.tpl_kept.specs.Changes.{TellsEach}
use Rattle.tpl_kept.specs.Nameless.{AreNameless, KeepsFront, KeepsRows, ReadNone, ReadsNone}
use Rattle.tpl_kept.specs.Renewals.{is_unread}
use Rattle.tpl_kept.proofs.Renewals.Changes.{stays_told}

-- lines of which neither the first nor those inside it and behind it read a name
pub blank_none : ReadsNone blank
blank_none = record { read = refl; none = refl }

pub line_none : (h : Heard) (r : PageMemo) → h.names ≡ [] → ReadsNone r → ReadsNone (line h r)
line_none h r e later = record { read = refl; none = ap (λ z. z ++ names r) e ∙ later.none }

pub element_none : (hs : List Heard) (i r : PageMemo) → all_names hs ≡ [] → ReadsNone i → ReadsNone r → ReadsNone (element hs i r)
element_none hs i r e inside later =
    record { read = refl; none = ap (λ z. (z ++ names i) ++ names r) e ∙ (ap (λ z. z ++ names r) inside.none ∙ later.none) }

pub branch_none : (h : Heard) (i r : PageMemo) → h.names ≡ [] → ReadsNone i → ReadsNone r → ReadsNone (branch h i r)
branch_none h i r e inside later =
    record { read = refl; none = ap (λ z. (z ++ names i) ++ names r) e ∙ (ap (λ z. z ++ names r) inside.none ∙ later.none) }

-- nothing is heard where no name was read
same_unheard : (before now : Outcomes) (ns : List ℕ) → ns ≡ [] → AreSame before ns now now
same_unheard before now ns e = subst (λ z. AreSame before z now now) (sym e) (record { same = tt; order = refl })

-- ---- the first of some rows

-- what is known of the rows that are left
pub record FrontLeft (b : Block) (links : List ℕ) (before : Outcomes) (rows left : List (Option RowRef)) (later : List PageMemo) : Type 0 where
  pub fewer : length left ≤ length rows
  pub are : AreRows left
  pub were : WereEach b links left before later

fronts_left : (n : ℕ) (b : Block) (links : List ℕ) (before : Outcomes) (rows left : List (Option RowRef)) (was later dones put : List PageMemo) (changes added : List Change) →
    KeepsRows n rows was dones changes left later put added → AreRows rows → WereEach b links rows before was → FrontLeft b links before rows left later
fronts_left zero b links before rows left was later dones put changes added x a w =
    let e : length rows ≡ length left = ap length x.0 in
    record {
      fewer = omega (arith, e);
      are = subst AreRows x.0 a;
      were = subst (λ z. WereEach b links z before later) x.0 (subst (λ z. WereEach b links rows before z) x.1.0 w);
    }
fronts_left (suc n) b links before [] left was later dones put changes added x a w = absurd x
fronts_left (suc n) b links before (r ∷ rows) left was later dones put changes added x a w =
    let f = fronts_left n b links before rows left (later_of was) later (dones ++ first_of was ∷ []) put (changes ++ stays ∷ []) added x.1 a.1 w.1 in
    let k = f.fewer in
    record { fewer = omega (arith, k); are = f.are; were = f.were }

-- they are kept, and the others are made
fronts_made : (n : ℕ) (b : Block) (links : List ℕ) (before a c : Outcomes) (rows left : List (Option RowRef)) (was later dones put after : List PageMemo)
    (changes added : List Change) → KeepsRows n rows was dones changes left later put added → WereEach b links rows before was →
    MakesEach false b links left a c put after → MakesEach false b links rows a c dones after
fronts_made zero b links before a c rows left was later dones put after changes added x w made =
    subst (λ z. MakesEach false b links z a c dones after) (sym x.0) (subst (λ z. MakesEach false b links left a c z after) (sym x.1.1.0) made)
fronts_made (suc n) b links before a c [] left was later dones put after changes added x w made = absurd x
fronts_made (suc n) b links before a c (r ∷ rows) left was later dones put after changes added x w made =
    let m = first_of was in
    record {
      mid = a;
      memo = m;
      made = stayed b links r before a a m (w.0.made x.0.read) (same_unheard before a (names m) x.0.none);
      grows = record { more = []; all = sym (append-nil a) };
      later = fronts_made n b links before a c rows left (later_of was) later (dones ++ m ∷ []) put after (changes ++ stays ∷ []) added x.1 w.1 made;
    }

-- what became of all of them is told
fronts_told : (n : ℕ) (b : Block) (links : List ℕ) (before : Outcomes) (rows left : List (Option RowRef)) (was later dones put after : List PageMemo)
    (changes added became : List Change) → KeepsRows n rows was dones changes left later put added → WereEach b links rows before was →
    TellsEach b links left before later put after added became → TellsEach b links rows before was dones after changes became
fronts_told zero b links before rows left was later dones put after changes added became x w told =
    subst (λ z. TellsEach b links z before was dones after changes became) (sym x.0)
    (subst (λ z. TellsEach b links left before z dones after changes became) (sym x.1.0)
    (subst (λ z. TellsEach b links left before later z after changes became) (sym x.1.1.0)
    (subst (λ z. TellsEach b links left before later put after z became) (sym x.1.1.1) told)))
fronts_told (suc n) b links before [] left was later dones put after changes added became x w told = absurd x
fronts_told (suc n) b links before (r ∷ rows) left was later dones put after changes added became x w told =
    let m = first_of was in
    let t = fronts_told n b links before rows left (later_of was) later (dones ++ m ∷ []) put after (changes ++ stays ∷ []) added became x.1 w.1 told in
    record {
      memos = m ∷ t.memos;
      became = stays ∷ t.became;
      put = t.put ∙ append_assoc dones (m ∷ []) t.memos;
      added = t.added ∙ append_assoc changes (stays ∷ []) t.became;
      told = (stays_told b links r before m stays refl x.0.read (w.0.made x.0.read), t.told);
    }

-- none of them
pub no_front : (rows : List (Option RowRef)) (was dones : List PageMemo) (changes : List Change) → KeepsFront rows was dones changes rows was dones changes
no_front rows was dones changes = record { count = 0; keeps = (refl, (refl, (refl, refl))) }

-- ---- so many of them

none_there : {A : Type 0} (i : ℕ) (x : A) → slice_get [] i ≡ Some x → ⊥
none_there zero x e = cc
none_there (suc i) x e = cc

-- what became of one more is that it stays
pub stays_put : {A : Type 0} (f : A → Change) (old now more : List A) (x : A) (i : ℕ) → map f now ≡ map f old ++ replicate i stays →
    more ≡ now ++ x ∷ [] → f x ≡ stays → map f more ≡ map f old ++ replicate (i + 1) stays
stays_put f old now more x i e p q =
    ap (map f) p
    ∙ (map-append f now (x ∷ [])
    ∙ ((λ j. e j ++ q j ∷ [])
    ∙ (append_assoc (map f old) (replicate i stays) (stays ∷ []) ∙ ap (λ z. map f old ++ z) (replicate_more i stays))))

-- the one at a place
pub nameless_at : {A : Type 0} (f : A → PageMemo) (n i : ℕ) (x : A) (xs : List A) → i < n → slice_get xs i ≡ Some x → AreNameless n (map f xs) →
    is_unread (f x) ≡ false → ReadsNone (f x)
nameless_at f zero i x xs lt is all u = absurd (omega (arith, lt))
nameless_at f (suc n) i x [] lt is all u = absurd (none_there i x is)
nameless_at f (suc n) zero x (y ∷ ys) lt is all u =
    let e : y ≡ x = cc in
    subst (λ z. is_unread (f z) ≡ false → ReadsNone (f z)) e all.0 u
nameless_at f (suc n) (suc i) x (y ∷ ys) lt is all u = nameless_at f n i x ys (omega (arith, lt)) is all.1 u

-- one more
pub read_more : {A : Type 0} (f : A → PageMemo) (n : ℕ) (x : A) (xs : List A) → slice_get xs n ≡ Some x → ReadsNone (f x) → ReadNone n (map f xs) →
    ReadNone (n + 1) (map f xs)
read_more f n x [] is r all = absurd (none_there n x is)
read_more f zero x (y ∷ ys) is r all = let e : x ≡ y = cc in (subst (λ z. ReadsNone (f z)) e r, tt)
read_more f (suc n) x (y ∷ ys) is r all =
    let p : suc (n + 1) ≡ suc n + 1 = omega arith in
    subst (λ z. ReadNone z (f y ∷ map f ys)) p (all.0, read_more f n x ys is r all.1)

-- something was kept in each of them
pub few_read : (n : ℕ) (ms : List PageMemo) → ReadNone n ms → n ≤ length ms
few_read zero ms r = omega arith
few_read (suc n) [] r = absurd (true≢false r.0.read)
few_read (suc n) (m ∷ ms) r = let k = few_read n ms r.1 in omega (arith, k)

all_keep : (n : ℕ) (rows : List (Option RowRef)) (was dones : List PageMemo) (changes : List Change) → n ≤ length rows → ReadNone n was →
    KeepsRows n rows was dones changes (drop n rows) (drop n was) (dones ++ take n was) (changes ++ replicate n stays)
all_keep zero rows was dones changes le r = (refl, (refl, (sym (append-nil dones), sym (append-nil changes))))
all_keep (suc n) [] was dones changes le r = absurd (omega (arith, le))
all_keep (suc n) (x ∷ rows) [] dones changes le r = absurd (true≢false r.0.read)
all_keep (suc n) (x ∷ rows) (m ∷ was) dones changes le r = (
  r.0,
  subst (λ y. y)
      (λ i. KeepsRows n rows was (dones ++ m ∷ []) (changes ++ stays ∷ []) (drop n rows) (drop n was) (append_assoc dones (m ∷ []) (take n was) i) (append_assoc changes (stays ∷ []) (replicate n stays) i))
      (all_keep n rows was (dones ++ m ∷ []) (changes ++ stays ∷ []) (omega (arith, le)) r.1),
)

pub all_front : (n : ℕ) (rows left : List (Option RowRef)) (was later dones put : List PageMemo) (changes added : List Change) → n ≤ length rows →
    ReadNone n was → left ≡ drop n rows → later ≡ drop n was → put ≡ dones ++ take n was → added ≡ changes ++ replicate n stays →
    KeepsFront rows was dones changes left later put added
all_front n rows left was later dones put changes added le r el ew ep ea = record {
  count = n;
  keeps = subst (λ y. y) (λ i. KeepsRows n rows was dones changes (sym el i) (sym ew i) (sym ep i) (sym ea i)) (all_keep n rows was dones changes le r);
}

-- so it is for the first, however many they are
pub front_left : (b : Block) (links : List ℕ) (before : Outcomes) (rows left : List (Option RowRef)) (was later dones put : List PageMemo) (changes added : List Change) →
    KeepsFront rows was dones changes left later put added → AreRows rows → WereEach b links rows before was → FrontLeft b links before rows left later
front_left b links before rows left was later dones put changes added front a w =
    fronts_left front.count b links before rows left was later dones put changes added front.keeps a w

pub front_made : (b : Block) (links : List ℕ) (before a c : Outcomes) (rows left : List (Option RowRef)) (was later dones put after : List PageMemo)
    (changes added : List Change) → KeepsFront rows was dones changes left later put added → WereEach b links rows before was →
    MakesEach false b links left a c put after → MakesEach false b links rows a c dones after
front_made b links before a c rows left was later dones put after changes added front w made =
    fronts_made front.count b links before a c rows left was later dones put after changes added front.keeps w made

pub front_told : (b : Block) (links : List ℕ) (before : Outcomes) (rows left : List (Option RowRef)) (was later dones put after : List PageMemo)
    (changes added became : List Change) → KeepsFront rows was dones changes left later put added → WereEach b links rows before was →
    TellsEach b links left before later put after added became → TellsEach b links rows before was dones after changes became
front_told b links before rows left was later dones put after changes added became front w told =
    fronts_told front.count b links before rows left was later dones put after changes added became front.keeps w told
