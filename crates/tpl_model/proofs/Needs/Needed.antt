-- The names that are needed in turn are those that a template reads, each once and in order: one more that is known moves the evaluation on along
-- the same order.
use Rattle.std.proofs.Common.{◌≡◌, ◌<◌, ◌+◌, ℕ, zero, suc, ◌==◌, Bool, true, false, ◌||◌, cond, List, [], ◌∷◌, ◌++◌, inl, inr, length, map, refl, sym, ap, subst, ◌∙◌, arith, Option, Some, None, if◌then◌else◌}
use Rattle.std.specs.Prelude.{nat_lt, slice_get, slice_index, unwrap_or}
use Rattle.std.proofs.lemmas.Bool.{cases_Bool, eqb-true, false≢true, lt-ltb, ltb-true}
use Rattle.sig_base.specs.declared.value.Outcome.{Outcome}
use Rattle.signal_model.specs.Signals.{is_in}
use Rattle.signal_laws.specs.ReadLaws.{firsts_after, with_name}
use Rattle.signal_laws.proofs.Shared.{firsts_hold_law, in_head, or_right}
use Rattle.page_model.specs.Forest.{Forest, node, none}
use Rattle.page_model.specs.Labels.{Look, Root}
use Rattle.tpl_model.specs.Lines.{Line, block_of}
use Rattle.tpl_model.specs.Shapes.{Showing, shown_lines}
use Rattle.tpl_model.specs.Sources.{counted, evaluating, first_missing, is_there, needed, on_known, or_gone}
use Rattle.tpl_model.proofs.Dependence.{shown_agree}
use Rattle.tpl_model.specs.PageUpdates.PageMemos.{hearing, up_to_change}
use Rattle.tpl_model.specs.PageUpdates.Updates.{Tells, reads_on}
use Rattle.tpl_model.proofs.PageUpdates.Evaluations.{begins, steady}
use Rattle.tpl_model.proofs.PageUpdates.Names.{memo_upto}
use Rattle.tpl_model.proofs.PageUpdates.Memos.{shows}
use Rattle.tpl_model.specs.Needs.Outcomes.{AreKnown, InsideLaw, LastLaw, NextLaw, PlacesLaw, placed, shown_anew}
use Rattle.tpl_model.proofs.Needs.Renamed.{AreCalled, lines_anew}

-- ---- the first that isn't known

-- whether the name at a place is known
abbrev knows : List (Option Outcome) → ℕ → Bool
knows known n = is_there (slice_get known n)

-- the first that isn't known isn't
pub missing_is : (known : List (Option Outcome)) (xs : List ℕ) (i : ℕ) → first_missing known xs ≡ Some i → knows known i ≡ false
missing_is known [] i h = cc
missing_is known (x ∷ xs) i h = go (knows known x) refl h (missing_is known xs i)
  where
    go : (b : Bool) → knows known x ≡ b → cond b (first_missing known xs) (Some x) ≡ Some i → (first_missing known xs ≡ Some i → knows known i ≡ false) →
        knows known i ≡ false
    go true e is later = later is
    go false e is later = ap (knows known) (sym (ap (λ z. unwrap_or z i) is)) ∙ e

-- where there is none, all are known
all_known : (known : List (Option Outcome)) (xs : List ℕ) (n : ℕ) → first_missing known xs ≡ None → is_in n xs ≡ true → knows known n ≡ true
all_known known [] n h i = absurd (false≢true i)
all_known known (x ∷ xs) n h i = go (knows known x) refl h (all_known known xs n)
  where
    go : (b : Bool) → knows known x ≡ b → cond b (first_missing known xs) (Some x) ≡ None → (first_missing known xs ≡ None → is_in n xs ≡ true → knows known n ≡ true) →
        knows known n ≡ true
    go false e is later = cc
    go true e is later = elim (cases_Bool (n == x)) [
      | inl f ↦ ap (knows known) (eqb-true n x f) ∙ e
      | inr f ↦ later is (rw f at i)
    ]

-- it is one of the names up to it
first_upto : (known : List (Option Outcome)) (xs : List ℕ) → first_missing known (up_to_change (knows known) xs) ≡ first_missing known xs
first_upto known [] = refl
first_upto known (x ∷ xs) = elim (cases_Bool (knows known x)) [ inl e ↦ rw e (first_upto known xs) | inr e ↦ rw e refl ]

-- what is needed first is the first that isn't known of what is read where all outcomes are known
needed_is : (known : List (Option Outcome)) (lines : List Line) (source : ℕ → Outcome) → Tells (knows known) (λ n. or_gone (slice_get known n)) source →
    needed known lines ≡ first_missing known (shown_lines (evaluating (counted (length known) 0) source) lines).reads
needed_is known lines source tells =
    let places = counted (length known) 0 in
    let now : ℕ → Outcome = λ n. or_gone (slice_get known n) in
    let b = block_of lines in
    let upto = memo_upto (knows known) (hearing (evaluating places now)) (hearing (evaluating places source)) (steady (knows known) now source places tells)
    (begins (knows known) now source places tells) b false None in
    let reads = ap (up_to_change (knows known)) (sym (shows (evaluating places now) b false None).reads) ∙ upto
    ∙ ap (up_to_change (knows known)) (shows (evaluating places source) b false None).reads in
    sym (first_upto known (shown_lines (evaluating places now) lines).reads) ∙ ap (first_missing known) reads
    ∙ first_upto known (shown_lines (evaluating places source) lines).reads

-- ---- it is the place of a name

-- a place of so many stays, and another is the next one
abbrev moved : ℕ → ℕ → ℕ
moved count n = if nat_lt n count then n else suc n

pub counted_length : (n i : ℕ) → length (counted n i) ≡ n
counted_length zero i = refl
counted_length (suc n) i = ap suc (counted_length n (suc i))

pub counted_at : (n i s : ℕ) → s < n → slice_index (counted n i) s ≡ i + s
counted_at zero i s h = absurd (omega arith)
counted_at (suc n) i zero h = omega arith
counted_at (suc n) i (suc s) h = (let e = counted_at n (suc i) s (omega arith) in e ∙ omega arith)

place_at : (count n : ℕ) → n < count → slice_index (counted count 0) n ≡ n
place_at count n lt = let e = counted_at count 0 n lt in e ∙ omega arith

place_stays : (count n : ℕ) → n < count → slice_index (counted count 0) n ≡ moved count (slice_index (counted count 0) n)
place_stays count n lt =
    let e = place_at count n lt in
    let f = lt-ltb n count lt in
    let stays : n ≡ moved count n = rw f refl in
    e ∙ (stays ∙ ap (moved count) (sym e))

places_stay : (count : ℕ) (source : ℕ → Outcome) → AreCalled (moved count) (counted count 0) (counted count 0) source source
places_stay count source = record {
  count = refl;
  names = λ n lt. place_stays count n (subst (λ k. n < k) (counted_length count 0) lt);
  outcomes = λ n lt. refl;
}

abbrev head_of : List ℕ → ℕ
head_of [] = 0
head_of (x ∷ xs) = x

abbrev tail_of : List ℕ → List ℕ
tail_of [] = []
tail_of (x ∷ xs) = xs

-- names that all stay are places
first_inside : (known : List (Option Outcome)) (count : ℕ) (xs : List ℕ) (i : ℕ) → xs ≡ map (moved count) xs → first_missing known xs ≡ Some i → i < count
first_inside known count [] i e h = cc
first_inside known count (x ∷ xs) i e h = go (knows known x) h (first_inside known count xs i (ap tail_of e))
  where
    stays : (b : Bool) → nat_lt x count ≡ b → x ≡ cond b x (suc x) → x < count
    stays true f same = ltb-true x count f
    stays false f same = absurd (omega (arith, same))

    go : (b : Bool) → cond b (first_missing known xs) (Some x) ≡ Some i → (first_missing known xs ≡ Some i → i < count) → i < count
    go true is later = later is
    go false is later = subst (λ k. k < count) (ap (λ z. unwrap_or z i) is) (stays (nat_lt x count) refl (ap head_of e))

-- what is needed is one of those that may be known
pub inside_law : InsideLaw
inside_law lines known i h =
    let places = counted (length known) 0 in
    let now : ℕ → Outcome = λ n. or_gone (slice_get known n) in
    let same = lines_anew (moved (length known)) lines places places now now (places_stay (length known) now) in
    first_inside known (length known) (shown_lines (on_known known) lines).reads i (ap (λ (x : Showing). x.reads) same) h

-- ---- the order of asking

stays_joined : (ns : List ℕ) (n : ℕ) → is_in n ns ≡ true → with_name ns n ≡ ns
stays_joined ns n h = ap (λ b. cond b ns (ns ++ n ∷ [])) h

-- what is needed first is the first that joins those that were heard
next_joins : (known : List (Option Outcome)) (g : ℕ → ℕ) (ns : List ℕ) (i : ℕ) → ((n : ℕ) → knows known n ≡ true → is_in (g n) ns ≡ true) →
    (xs : List ℕ) → first_missing known xs ≡ Some i → firsts_after (with_name ns (g i)) (map g xs) ≡ firsts_after ns (map g xs)
next_joins known g ns i had [] h = cc
next_joins known g ns i had (x ∷ xs) h = go (knows known x) refl h (next_joins known g ns i had xs)
  where
    now : List ℕ
    now = with_name ns (g i)

    there : is_in (g i) now ≡ true
    there = firsts_hold_law (g i) ns (g i ∷ []) ∙ or_right (is_in (g i) ns) (is_in (g i) (g i ∷ [])) (in_head (g i) [])

    still : is_in (g x) ns ≡ true → is_in (g x) now ≡ true
    still e = firsts_hold_law (g x) ns (g i ∷ []) ∙ ap (λ b. b || is_in (g x) (g i ∷ [])) e

    go : (b : Bool) → knows known x ≡ b → cond b (first_missing known xs) (Some x) ≡ Some i →
        (first_missing known xs ≡ Some i → firsts_after now (map g xs) ≡ firsts_after ns (map g xs)) →
        firsts_after (with_name now (g x)) (map g xs) ≡ firsts_after (with_name ns (g x)) (map g xs)
    go true e is later =
        let a = had x e in
        ap (λ z. firsts_after z (map g xs)) (stays_joined now (g x) (still a))
        ∙ (later is ∙ ap (λ z. firsts_after z (map g xs)) (sym (stays_joined ns (g x) a)))
    go false e is later =
        let same : x ≡ i = ap (λ z. unwrap_or z i) is in
        ap (λ z. firsts_after (with_name now (g z)) (map g xs)) same
        ∙ (ap (λ z. firsts_after z (map g xs)) (stays_joined now (g i) there) ∙ ap (λ z. firsts_after (with_name ns (g z)) (map g xs)) (sym same))

-- where all are known, none joins
none_joins : (known : List (Option Outcome)) (g : ℕ → ℕ) (ns : List ℕ) → ((n : ℕ) → knows known n ≡ true → is_in (g n) ns ≡ true) →
    (xs : List ℕ) → first_missing known xs ≡ None → firsts_after ns (map g xs) ≡ ns
none_joins known g ns had [] h = refl
none_joins known g ns had (x ∷ xs) h = go (knows known x) refl h (none_joins known g ns had xs)
  where
    go : (b : Bool) → knows known x ≡ b → cond b (first_missing known xs) (Some x) ≡ None → (first_missing known xs ≡ None → firsts_after ns (map g xs) ≡ ns) →
        firsts_after (with_name ns (g x)) (map g xs) ≡ ns
    go true e is later = ap (λ z. firsts_after z (map g xs)) (stays_joined ns (g x) (had x e)) ∙ later is
    go false e is later = cc

-- ---- names by their places

pub places_law : PlacesLaw
places_law lines links source =
    let count = length links in
    let inside : (n : ℕ) → n < length (counted count 0) → n < count = λ n lt. subst (λ k. n < k) (counted_length count 0) lt in
    lines_anew (slice_index links) lines (counted count 0) links (placed links source) source (record {
      count = sym (counted_length count 0);
      names = λ n lt. ap (slice_index links) (sym (place_at count n (inside n lt)));
      outcomes = λ n lt. ap (placed links source) (sym (place_at count n (inside n lt)));
    })

-- the same for as many names as may be known
on_places : (lines : List Line) (links : List ℕ) (source : ℕ → Outcome) (count : ℕ) → count ≡ length links →
    shown_lines (evaluating links source) lines
    ≡ shown_anew (slice_index links) (shown_lines (evaluating (counted count 0) (placed links source)) lines)
on_places lines links source count same =
    places_law lines links source
    ∙ ap (λ k. shown_anew (slice_index links) (shown_lines (evaluating (counted k 0) (placed links source)) lines)) (sym same)

-- an outcome that is known is that of its name
known_tells : (links : List ℕ) (source : ℕ → Outcome) (known : List (Option Outcome)) (asked : List ℕ) → AreKnown links source known asked →
    Tells (knows known) (λ n. or_gone (slice_get known n)) (placed links source)
known_tells links source known asked k n h = go (slice_get known n) refl h
  where
    go : (x : Option (Option Outcome)) → slice_get known n ≡ x → is_there x ≡ true → or_gone x ≡ placed links source n
    go (Some (Some o)) e i = k.outcomes n o e
    go (Some None) e i = absurd (false≢true i)
    go None e i = absurd (false≢true i)

-- ---- one name after the other

pub next_law : NextLaw
next_law lines links source known asked i k need =
    let later = (shown_lines (evaluating (counted (length known) 0) (placed links source)) lines).reads in
    let reads : reads_on lines links source ≡ map (slice_index links) later
    = ap (λ (s : Showing). s.reads) (on_places lines links source (length known) k.count) in
    let first = sym (needed_is known lines (placed links source) (known_tells links source known asked k)) ∙ need in
    ap (firsts_after (with_name asked (slice_index links i))) reads
    ∙ (next_joins known (slice_index links) asked i k.asked later first ∙ ap (firsts_after asked) (sym reads))

pub last_law : LastLaw
last_law lines links source known asked k none_needed =
    let places = counted (length known) 0 in
    let later = (shown_lines (evaluating places (placed links source)) lines).reads in
    let tells = known_tells links source known asked k in
    let shown = on_places lines links source (length known) k.count in
    let agree = shown_agree (λ n. or_gone (slice_get known n)) (placed links source) places (block_of lines) false None
    (λ n i. tells n (all_known known (shown_lines (on_known known) lines).reads n none_needed i)) in
    let root : Showing → Forest Look = λ s. node 0 Root s.nodes none in
    let reads : reads_on lines links source ≡ map (slice_index links) later = ap (λ (s : Showing). s.reads) shown in (
      ap root agree ∙ sym (ap root shown),
      ap (firsts_after asked) reads
          ∙ none_joins known (slice_index links) asked k.asked later (sym (needed_is known lines (placed links source) tells) ∙ none_needed),
    )
