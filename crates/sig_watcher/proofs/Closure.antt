-- The seats of those that have one of some signals in the closure of their kept sources.
use Rattle.std.proofs.Common.{◌≡◌, ℕ, zero, suc, ◌+◌, ◌<◌, ◌==◌, ◌⊎◌, inl, inr, Bool, true, false, List, [], ◌∷◌, ◌++◌, append-nil, append_assoc, length, take, Option, Some, None, refl, sym, ap, ◌∙◌, subst, arith, true≢false}
use Rattle.std.specs.Prelude.{slice_get, slice_index_or}
use Rattle.std.proofs.lemmas.Bool.{eqb-true, eq-eqb}
use Rattle.std.proofs.lemmas.List.{take-append-le, take_more}
use Rattle.std.proofs.lemmas.Option.{get_or_from_slice_get, slice_get_within}
use Rattle.signal_model.specs.Signals.{Signals, Stands, IsGone, IsCell, IsComputed, is_computed, is_in, is_there, standing}
use Rattle.signal_model.specs.Memos.{Memo, Memos, keeps, memo_of, source_names, sources_in}
use Rattle.signal_model.specs.Marks.{HasBelow, IsBelow, found_below, kept, kept_below}
use Rattle.signal_model.specs.Kept.{OnlyComputedsKeep}
use Rattle.signal_model.specs.Laws.{Searches}
use Rattle.signal_model.proofs.Shared.{below_law, either, or_left, or_right, tested}
use Rattle.signal_laws.proofs.Shared.{in_append, or_none}
use Rattle.sig_graph.specs.Search.{of_holder}
use Rattle.sig_seats.specs.Seats.{holder}
use Rattle.sig_graph.specs.States.{Seen}
use Rattle.effect_model.specs.Acts.{is_reached_by_any, some_name}
use Rattle.sig_watcher.specs.Reach.{Adds, AreReaching, HasSeat, IsFound, IsUnfound, NoneFound, SomeFound}

-- ---- lists of names

-- a name of the list passes a test
pub record PassesIn (test : ℕ → Bool) (ns : List ℕ) : Type 0 where
  pub name : ℕ
  pub here : is_in name ns ≡ true
  pub passes : test name ≡ true

-- what is read at a place is among the others
pub among : (names : List ℕ) (i m : ℕ) → i < length names → m ≡ slice_index_or names i m → is_in m names ≡ true
among [] i m l is = absurd (omega (arith, l))
among (n ∷ ns) zero m l is = or_left (m == n) (is_in m ns) (eq-eqb m n is)
among (n ∷ ns) (suc i) m l is = let k : i < length ns = omega (arith, l) in or_right (m == n) (is_in m ns) (among ns i m k is)

-- what is in a list of one
only_one : (m n : ℕ) → is_in m (n ∷ []) ≡ true → m ≡ n
only_one m n h = elim (either (m == n) false h) [ inl e ↦ eqb-true m n e | inr f ↦ absurd (true≢false (sym f)) ]

-- those up to a place and the one there
up_to : (ns : List ℕ) (i p : ℕ) → Some p ≡ slice_get ns i → take (i + 1) ns ≡ take i ns ++ p ∷ []
up_to ns i p e = take_more ns i p (slice_get_within ns i p (sym e)) ∙ ap (λ m. take i ns ++ m ∷ []) (get_or_from_slice_get ns i p p (sym e))

pub among_more : (ns : List ℕ) (i p m : ℕ) → Some p ≡ slice_get ns i → is_in m (take (i + 1) ns) ≡ true → (is_in m (take i ns) ≡ true) ⊎ (m ≡ p)
among_more ns i p m e h = elim (either (is_in m (take i ns)) (is_in m (p ∷ [])) (sym (ap (is_in m) (up_to ns i p e) ∙ in_append m (take i ns) (p ∷ [])) ∙ h)) [
  | inl old ↦ inl old
  | inr new ↦ inr (only_one m p new)
]

-- the one at a place is among them
pub among_at : (ns : List ℕ) (i p : ℕ) → Some p ≡ slice_get ns i → is_in p ns ≡ true
among_at ns i p e = among ns i p (slice_get_within ns i p (sym e)) (sym (get_or_from_slice_get ns i p p (sym e)))

-- where none stands there these are all
pub all_taken : (ns : List ℕ) (i : ℕ) → None ≡ slice_get ns i → take i ns ≡ ns
all_taken [] zero e = refl
all_taken [] (suc i) e = refl
all_taken (n ∷ ns) zero e = cc
all_taken (n ∷ ns) (suc i) e = ap (λ ms. n ∷ ms) (all_taken ns i e)

-- what is below the next place is below this one or at it
pub below_or : (s t : ℕ) → s < t + 1 → (s < t) ⊎ (s ≡ t)
below_or zero zero l = inr refl
below_or zero (suc t) l = inl (omega arith)
below_or (suc s) zero l = absurd (omega (arith, l))
below_or (suc s) (suc t) l = let k : s < t + 1 = omega (arith, l) in elim (below_or s t k) [ inl a ↦ inl (omega (arith, a)) | inr e ↦ inr (ap suc e) ]

-- one of those up to a place and the one there is one of those before it, or is the one there
pub in_more : (ns : List ℕ) (i p m : ℕ) → i < length ns → p ≡ slice_index_or ns i p → is_in m (take (i + 1) ns) ≡ true → (is_in m (take i ns) ≡ true) ⊎ (m ≡ p)
in_more ns i p m l is h =
    let more : take (i + 1) ns ≡ take i ns ++ p ∷ [] = take_more ns i p l ∙ ap (λ k. take i ns ++ k ∷ []) (sym is) in
    elim (either (is_in m (take i ns)) (is_in m (p ∷ [])) (sym (ap (is_in m) more ∙ in_append m (take i ns) (p ∷ [])) ∙ h)) [
      | inl old ↦ inl old
      | inr new ↦ inr (only_one m p new)
    ]

-- none is found so far, and the next one isn't
pub none_more : (g : Seen) (ns : List ℕ) (seats names : List ℕ) (i m : ℕ) → i < length names → m ≡ slice_index_or names i m →
    NoneFound g ns seats (take i names) → IsUnfound g ns seats m → NoneFound g ns seats (take (i + 1) names)
none_more g ns seats names i m l is none clear = λ p h. elim (in_more names i m p l is h) [
  | inl old ↦ none p old
  | inr e ↦ subst (IsUnfound g ns seats) (sym e) clear
]

-- a name of the list that passes
pub some_here : (test : ℕ → Bool) (ns : List ℕ) (n : ℕ) → is_in n ns ≡ true → test n ≡ true → some_name test ns ≡ true
some_here test [] n h on = cc
some_here test (m ∷ ms) n h on = elim (either (n == m) (is_in n ms) h) [
  | inl e ↦ or_left (test m) (some_name test ms) (ap test (sym (eqb-true n m e)) ∙ on)
  | inr f ↦ or_right (test m) (some_name test ms) (some_here test ms n f on)
]

-- which one it is
pub some_is : (test : ℕ → Bool) (ns : List ℕ) → some_name test ns ≡ true → PassesIn test ns
some_is test [] h = cc
some_is test (m ∷ ms) h = elim (either (test m) (some_name test ms) h) [
  | inl on ↦ record { name = m; here = or_left (m == m) (is_in m ms) (eq-eqb m m refl); passes = on }
  | inr f ↦ let rest : PassesIn test ms = some_is test ms f in
      record { name = rest.name; here = or_right (rest.name == m) (is_in rest.name ms) rest.here; passes = rest.passes }
]

-- what stands behind doesn't count for the front
front : (ns ms : List ℕ) (i p : ℕ) → Some p ≡ slice_get ns i → take (i + 1) (ns ++ ms) ≡ take i ns ++ p ∷ []
front ns ms i p e = let inside : i < length ns = slice_get_within ns i p (sym e) in take-append-le (i + 1) ns ms (omega (arith, inside)) ∙ up_to ns i p e

-- ---- seats that are reached

-- a seat stays among them
seat_stays : (g : Seen) (old added new : List ℕ) (m : ℕ) → new ≡ old ++ added → HasSeat g old m → HasSeat g new m
seat_stays g old added new m behind h = record {
  seat = h.seat;
  holds = h.holds;
  listed = ap (is_in h.seat) behind ∙ in_append h.seat old added ∙ or_left (is_in h.seat old) (is_in h.seat added) h.listed;
}

-- and is an old one or an added one
seat_split : (g : Seen) (old added new : List ℕ) (m : ℕ) → new ≡ old ++ added → HasSeat g new m → HasSeat g old m ⊎ HasSeat g added m
seat_split g old added new m behind h =
    elim (either (is_in h.seat old) (is_in h.seat added) (sym (ap (is_in h.seat) behind ∙ in_append h.seat old added) ∙ h.listed)) [
      | inl was ↦ inl (record { seat = h.seat; holds = h.holds; listed = was })
      | inr is ↦ inr (record { seat = h.seat; holds = h.holds; listed = is })
    ]

-- nobody has one of no seats
nobody : (g : Seen) (m : ℕ) → HasSeat g [] m → ⊥
nobody g m h = true≢false (sym h.listed)

pub adds_more : (g : Seen) (test : ℕ → Bool) (old new : List ℕ) (m : ℕ) → Adds g test old new → HasSeat g old m → HasSeat g new m
adds_more g test old new m a h = seat_stays g old a.added new m a.behind h

-- none is added
pub adds_none : (g : Seen) (test : ℕ → Bool) (seats : List ℕ) → Adds g test seats seats
adds_none g test seats = record { added = []; behind = sym (append-nil seats); passes = λ m h. absurd (nobody g m h) }

-- one is
pub adds_one : (g : Seen) (seats new : List ℕ) (seat name : ℕ) → new ≡ seats ++ seat ∷ [] → holder g.seats seat ≡ Some name → Adds g (λ m. m == name) seats new
adds_one g seats new seat name behind holds = record {
  added = seat ∷ [];
  behind = behind;
  passes = λ m h.
      let e : Some m ≡ Some name = sym h.holds ∙ ap (holder g.seats) (only_one h.seat seat h.listed) ∙ holds in
      let who : m ≡ name = cc in
      eq-eqb m name who;
}

-- and is there then
pub one_there : (g : Seen) (seats new : List ℕ) (seat name : ℕ) → new ≡ seats ++ seat ∷ [] → holder g.seats seat ≡ Some name → HasSeat g new name
one_there g seats new seat name behind holds = record {
  seat = seat;
  holds = holds;
  listed = ap (is_in seat) behind ∙ in_append seat seats (seat ∷ []) ∙ or_right (is_in seat seats) (is_in seat (seat ∷ [])) (or_left (seat == seat) false (eq-eqb seat seat refl));
}

-- those of one test, where they pass another
pub adds_under : (g : Seen) (test other : ℕ → Bool) (old new : List ℕ) → ((m : ℕ) → test m ≡ true → other m ≡ true) → Adds g test old new → Adds g other old new
adds_under g test other old new on a = record { added = a.added; behind = a.behind; passes = λ m h. on m (a.passes m h) }

-- that of one signal
pub adds_as : (g : Seen) (test : ℕ → Bool) (name : ℕ) (old new : List ℕ) → test name ≡ true → Adds g (λ m. m == name) old new → Adds g test old new
adds_as g test name old new on a = adds_under g (λ m. m == name) test old new (λ m h. ap test (eqb-true m name h) ∙ on) a

-- some after others
pub adds_then : (g : Seen) (test : ℕ → Bool) (a b c : List ℕ) → Adds g test a b → Adds g test b c → Adds g test a c
adds_then g test a b c one two = record {
  added = one.added ++ two.added;
  behind = two.behind ∙ ap (λ ss. ss ++ two.added) one.behind ∙ append_assoc a one.added two.added;
  passes = λ m h. elim (seat_split g one.added two.added (one.added ++ two.added) m refl h) [
    | inl first ↦ one.passes m first
    | inr later ↦ two.passes m later
  ];
}

-- those that keep who has a seat
pub adds_from : (g : Seen) (seat p : ℕ) (old new : List ℕ) → holder g.seats seat ≡ Some p → Adds g (λ m. keeps g.state.memos m p) old new →
    Adds g (λ m. of_holder (keeps g.state.memos m) (holder g.seats seat)) old new
adds_from g seat p old new holds a = record { added = a.added; behind = a.behind; passes = λ m h. ap (of_holder (keeps g.state.memos m)) holds ∙ a.passes m h }

-- ---- the search

-- Who has a reached seat has one of the signals below it. Reached are the seats of those that keep one of them, and of those that keep who
-- has a seat before a place.
pub record IsUnderway (g : Seen) (ns : List ℕ) (seats : List ℕ) (place : ℕ) : Type 0 where
  pub sound : (m : ℕ) → HasSeat g seats m → HasBelow (λ p. is_in p ns) g.state.memos m
  pub start : (m n : ℕ) → is_in n ns ≡ true → keeps g.state.memos m n ≡ true → HasSeat g seats m
  pub on : (m p : ℕ) → keeps g.state.memos m p ≡ true → HasSeat g (take place seats) p → HasSeat g seats m

-- it begins with those that keep one of the signals, where none was reached
pub begun : (g : Seen) (ns : List ℕ) (old new : List ℕ) → old ≡ [] → Adds g (λ m. some_name (keeps g.state.memos m) ns) old new →
    ((m n : ℕ) → is_in n ns ≡ true → keeps g.state.memos m n ≡ true → HasSeat g new m) → IsUnderway g ns new 0
begun g ns old new none a there = record {
  sound = λ m h. elim (seat_split g old a.added new m a.behind h) [
    | inl was ↦ absurd (nobody g m (subst (λ ss. HasSeat g ss m) none was))
    | inr is ↦
        let one : PassesIn (keeps g.state.memos m) ns = some_is (keeps g.state.memos m) ns (a.passes m is) in
        record { name = one.name; below = kept one.passes; passes = one.here }
  ];
  start = there;
  on = λ m p h f. absurd (nobody g p f);
}

-- the seat at the place has been looked at
pub went_on : (g : Seen) (ns : List ℕ) (seat place : ℕ) (old new : List ℕ) → Some seat ≡ slice_get old place → IsUnderway g ns old place →
    Adds g (λ m. of_holder (keeps g.state.memos m) (holder g.seats seat)) old new →
    ((m p : ℕ) → holder g.seats seat ≡ Some p → keeps g.state.memos m p ≡ true → HasSeat g new m) → IsUnderway g ns new (place + 1)
went_on g ns seat place old new at u a there = record {
  sound = λ m h. elim (seat_split g old a.added new m a.behind h) [
    | inl was ↦ u.sound m was
    | inr is ↦ far m (holder g.seats seat) refl (a.passes m is)
  ];
  start = λ m n i h. more m (u.start m n i h);
  on = λ m p h f. elim (seat_split g (take place old) (seat ∷ []) (take (place + 1) new) p looked f) [
    | inl was ↦ more m (u.on m p h was)
    | inr is ↦ there m p (sym (ap (holder g.seats) (only_one is.seat seat is.listed)) ∙ is.holds) h
  ];
}
  where
    more : (m : ℕ) → HasSeat g old m → HasSeat g new m
    more m h = seat_stays g old a.added new m a.behind h

    looked : take (place + 1) new ≡ take place old ++ seat ∷ []
    looked = ap (take (place + 1)) a.behind ∙ front old a.added place seat at

    far : (m : ℕ) (o : Option ℕ) → holder g.seats seat ≡ o → of_holder (keeps g.state.memos m) o ≡ true → HasBelow (λ z. is_in z ns) g.state.memos m
    far m None e q = cc
    far m (Some p) e q =
        let b : HasBelow (λ z. is_in z ns) g.state.memos p = u.sound p (record { seat = seat; holds = e; listed = among_at old place seat at }) in
        record { name = b.name; below = kept_below q b.below; passes = b.passes }

-- in the end none is left
pub ended : (g : Seen) (ns : List ℕ) (place : ℕ) (seats : List ℕ) → None ≡ slice_get seats place → IsUnderway g ns seats place → AreReaching g ns seats
ended g ns place seats none u = record {
  sound = u.sound;
  settled = λ m p h f. elim f [
    | inl i ↦ u.start m p i h
    | inr is ↦ u.on m p h (subst (λ ss. HasSeat g ss p) (sym (all_taken seats place none)) is)
  ];
}

-- ---- what the seats say in the end

-- a computed is there
pub computed_there : (s : Stands) → is_computed s ≡ true → is_there s ≡ true
computed_there IsGone e = cc
computed_there (IsCell c) e = refl
computed_there (IsComputed c) e = refl

-- so is what keeps something
pub keeper_there : (w : Signals) (k : Memos) (m p : ℕ) → OnlyComputedsKeep w k → keeps k m p ≡ true → is_there (standing w m) ≡ true
keeper_there w k m p only h = go (memo_of k m) refl h
  where
    go : (o : Option Memo) → memo_of k m ≡ o → is_in p (source_names (sources_in o)) ≡ true → is_there (standing w m) ≡ true
    go None e q = cc
    go (Some memo) e q = computed_there (standing w m) (only m memo e)

-- what has something below it is there
below_there : (w : Signals) (k : Memos) (m n : ℕ) → OnlyComputedsKeep w k → IsBelow k m n → is_there (standing w m) ≡ true
below_there w k m n only (kept h) = keeper_there w k m n only h
below_there w k m n only (kept_below {p = p} h r) = keeper_there w k m p only h

-- and its seat is reached where what is below it is one of the signals
below_found : (g : Seen) (ns : List ℕ) (seats : List ℕ) → AreReaching g ns seats → (a b : ℕ) → IsBelow g.state.memos a b → is_in b ns ≡ true → HasSeat g seats a
below_found g ns seats reaching a b (kept h) i = reaching.settled a b h (inl i)
below_found g ns seats reaching a b (kept_below {p = p} h r) i = reaching.settled a p h (inr (below_found g ns seats reaching p b r i))

-- so below what isn't found none of the signals is found
clear_below : (g : Seen) (ns : List ℕ) (m : ℕ) (seats : List ℕ) → OnlyComputedsKeep g.state.signals g.state.memos → AreReaching g ns seats →
    IsUnfound g ns seats m → HasBelow (λ p. is_in p ns) g.state.memos m → ⊥
clear_below g ns m seats only reaching clear below = elim clear.off [
  | inl gone ↦ true≢false (sym (below_there g.state.signals g.state.memos m below.name only below.below) ∙ gone)
  | inr down ↦
      let f : HasSeat g seats m = below_found g ns seats reaching m below.name below.below below.passes in
      true≢false (sym f.listed ∙ down f.seat f.holds)
]

-- whether a signal is reached, by whether it is found
pub found_reached : (g : Seen) (ns : List ℕ) (m : ℕ) (seats : List ℕ) → OnlyComputedsKeep g.state.signals g.state.memos → AreReaching g ns seats →
    IsFound g ns seats m → is_reached_by_any g.state.signals g.state.memos ns m ≡ true
found_reached g ns m seats only reaching (inl i) =
    or_left (is_in m ns) (found_below (λ p. is_in p ns) (length g.state.signals.computeds) g.state.memos m) i
found_reached g ns m seats only reaching (inr f) =
    let search : Searches (λ p. is_in p ns) g.state.signals g.state.memos m = below_law (λ p. is_in p ns) g.state.signals g.state.memos m only in
    or_right (is_in m ns) (found_below (λ p. is_in p ns) (length g.state.signals.computeds) g.state.memos m) (search.finds (reaching.sound m f))

pub unfound_unreached : (g : Seen) (ns : List ℕ) (m : ℕ) (seats : List ℕ) → OnlyComputedsKeep g.state.signals g.state.memos → AreReaching g ns seats →
    IsUnfound g ns seats m → is_reached_by_any g.state.signals g.state.memos ns m ≡ false
unfound_unreached g ns m seats only reaching clear =
    or_none (is_in m ns) (found_below (λ p. is_in p ns) (length g.state.signals.computeds) g.state.memos m) clear.other
    (elim (tested (found_below (λ p. is_in p ns) (length g.state.signals.computeds) g.state.memos m)) [
      | inr off ↦ off
      | inl on ↦
          let search : Searches (λ p. is_in p ns) g.state.signals g.state.memos m = below_law (λ p. is_in p ns) g.state.signals g.state.memos m only in
          absurd (clear_below g ns m seats only reaching clear (search.found on))
    ])

-- the same of some of these
pub some_reached : (g : Seen) (ns : List ℕ) (seats : List ℕ) (names : List ℕ) → OnlyComputedsKeep g.state.signals g.state.memos → AreReaching g ns seats →
    SomeFound g ns seats names → some_name (is_reached_by_any g.state.signals g.state.memos ns) names ≡ true
some_reached g ns seats names only reaching some =
    some_here (is_reached_by_any g.state.signals g.state.memos ns) names some.name some.here (found_reached g ns some.name seats only reaching some.found)

pub none_reached : (g : Seen) (ns : List ℕ) (seats : List ℕ) (names : List ℕ) → OnlyComputedsKeep g.state.signals g.state.memos → AreReaching g ns seats →
    NoneFound g ns seats names → some_name (is_reached_by_any g.state.signals g.state.memos ns) names ≡ false
none_reached g ns seats names only reaching none = go names none
  where
    go : (ms : List ℕ) → NoneFound g ns seats ms → some_name (is_reached_by_any g.state.signals g.state.memos ns) ms ≡ false
    go [] h = refl
    go (k ∷ ks) h =
        or_none (is_reached_by_any g.state.signals g.state.memos ns k) (some_name (is_reached_by_any g.state.signals g.state.memos ns) ks)
        (unfound_unreached g ns k seats only reaching (h k (or_left (k == k) (is_in k ks) (eq-eqb k k refl))))
        (go ks (λ m q. h m (or_right (m == k) (is_in m ks) q)))
