-- What an index marks, with one fact more.
use Rattle.std.proofs.Common.{◌≡◌, ℕ, zero, suc, ◌+◌, ◌-◌, ◌<◌, ◌≤◌, ◌==◌, ◌&&◌, nat_eq, Bool, true, false, cond, List, [], ◌∷◌, ◌++◌, map, reverse, length, get_or, drop, Some, None, Option, refl, sym, ap, ◌∙◌, arith}
use Rattle.std.specs.Prelude.{unwrap_or}
use Rattle.std.specs.Map.{lookup}
use Rattle.std.proofs.lemmas.Bool.{eqb-true, eq-eqb, ne_eqb, le-ltb, lt-ltb}
use Rattle.std.proofs.lemmas.List.{map-append, reverse-append, length-append, length-reverse, length-map, get_or_append_left, get_or_push, at_drop_more}
use Rattle.indexmap.specs.IndexMap.{insert_entry}
use Rattle.effect_model.specs.declared.how.How.{How}
use Rattle.why_model.specs.declared.causes.Cause.{Cause}
use Rattle.why_model.specs.declared.causes.Cause.TheVariants as cause
use Rattle.why_model.specs.Facts as plain
use Rattle.why_model.specs.Facts.{Note, was_changed, has_run, Found, last_run, last_number, is_news, is_rewire, moves, rewires}
use Rattle.why_model.specs.Chains.{first_moved, cause_of, links_from, links_of, chain}
use Rattle.sig_computed.specs.declared.notes.RunNote.{RunNote}
use Rattle.live_why.specs.declared.facts.Fact.{Fact}
use Rattle.live_why.specs.declared.facts.Fact.TheVariants.{Change, Run}
use Rattle.live_why.specs.Views.{note_of, fact_of, facts_of, past}
use Rattle.live_why.proofs.SharedPasts.{past-more, past-none, past-all, past-part, length-past}
use Rattle.live_why.proofs.SharedSearches.{there}
use Rattle.live_why.specs.declared.index.Marks.{Marks}
use Rattle.live_why.specs.Marking.{marks_at, back, marks_changed, marks_run, number_of_run, marks_by, cause_at, causes_by, IsRight}

-- ---- the index

-- a signal that is marked has the marks, and the others have theirs
pub put_marks : (es : List (ℕ × Marks)) (k : ℕ) (v : Marks) (n : ℕ) → marks_at (insert_entry nat_eq es k v) n ≡ cond (n == k) v (marks_at es n)
put_marks [] k v n = go (n == k)
  where
    go : (b : Bool) → unwrap_or (cond b (Some v) None) (record { run = 0; rewired = 0; moved = 0 }) ≡ cond b v (record { run = 0; rewired = 0; moved = 0 })
    go true = refl
    go false = refl
put_marks (e ∷ es) k v n = go (k == e.0) refl (n == e.0) refl (put_marks es k v n)
  where
    go : (a : Bool) → (k == e.0) ≡ a → (b : Bool) → (n == e.0) ≡ b → marks_at (insert_entry nat_eq es k v) n ≡ cond (n == k) v (marks_at es n) →
        marks_at (cond a ((e.0, v) ∷ es) (e ∷ insert_entry nat_eq es k v)) n ≡ cond (n == k) v (unwrap_or (cond b (Some e.1) (lookup (nat_eq n) es)) (record { run = 0; rewired = 0; moved = 0 }))
    go true p b q ih =
        let same : (n == k) ≡ b = ap (λ x. n == x) (eqb-true k e.0 p) ∙ q in
        ap (λ x. unwrap_or (cond x (Some v) (lookup (nat_eq n) es)) (record { run = 0; rewired = 0; moved = 0 })) q
        ∙ by b
        ∙ ap (λ x. cond x v (unwrap_or (cond b (Some e.1) (lookup (nat_eq n) es)) (record { run = 0; rewired = 0; moved = 0 }))) (sym same)
      where
        by : (b : Bool) → unwrap_or (cond b (Some v) (lookup (nat_eq n) es)) (record { run = 0; rewired = 0; moved = 0 })
            ≡ cond b v (unwrap_or (cond b (Some e.1) (lookup (nat_eq n) es)) (record { run = 0; rewired = 0; moved = 0 }))
        by true = refl
        by false = refl
    go false p true q ih =
        let off : (n == k) ≡ false = ne_eqb n k (λ h. let z : (k == e.0) ≡ true = eq-eqb k e.0 (sym h ∙ eqb-true n e.0 q) in let y : true ≡ false = sym z ∙ p in cc) in
        ap (λ x. unwrap_or (cond x (Some e.1) (lookup (nat_eq n) (insert_entry nat_eq es k v))) (record { run = 0; rewired = 0; moved = 0 })) q
        ∙ ap (λ x. cond x v e.1) (sym off)
    go false p false q ih =
        ap (λ x. unwrap_or (cond x (Some e.1) (lookup (nat_eq n) (insert_entry nat_eq es k v))) (record { run = 0; rewired = 0; moved = 0 })) q ∙ ih

-- ---- all facts

-- with one more, that comes first
pub back-more : (fs : List Fact) (f : Fact) → back (fs ++ f ∷ []) ≡ fact_of f ∷ back fs
unfolding back
back-more fs f = ap reverse (map-append fact_of fs (f ∷ [])) ∙ reverse-append (map fact_of fs) (fact_of f ∷ [])

pub back-past : (fs : List Fact) → back fs ≡ past fs (length fs)
unfolding back
back-past fs = sym (past-all fs)

pub back-reverse : (fs : List Fact) → back fs ≡ reverse (facts_of fs)
unfolding back
back-reverse fs = refl

pub length-back : (fs : List Fact) → length (back fs) ≡ length fs
unfolding back
length-back fs = length-reverse (map fact_of fs) ∙ length-map fs fact_of

-- nothing is marked of nothing
pub right_new : IsRight [] [] []
unfolding back
right_new = record { marks = λ n. refl; own = refl }

-- ---- the last run

-- a run that is found is one of the facts
record IsAt (fs : List Fact) (i : ℕ) (p : Found) : Type 0 where
  note : RunNote
  is : (x : Fact) → x ≡ get_or fs (p.number - 1) x → x ≡ Run note
  same : note_of note ≡ p.note
  some : 0 < p.number
  inside : p.number ≤ i

one_fact : (fs : List Fact) (i : ℕ) (x y : Fact) → i < length fs → x ≡ get_or fs i x → y ≡ get_or fs i y → y ≡ x
one_fact [] i x y h a b = absurd (omega (arith, h))
one_fact (f ∷ fs) zero x y h a b = b ∙ sym a
one_fact (f ∷ fs) (suc i) x y h a b = one_fact fs i x y (omega (arith, h)) a b

run_at : (fs : List Fact) (i n : ℕ) (p : Found) → i ≤ length fs → last_run n (past fs i) ≡ Some p → IsAt fs i p
run_at fs zero n p h e = let q : None ≡ Some p = sym (ap (last_run n) (past-none fs)) ∙ e in cc
run_at fs (suc i) n p h e =
    let f : (x : Fact) × (x ≡ get_or fs i x) = there fs i (omega (arith, h)) in
    let k : suc i ≡ i + 1 = omega arith in
    go f.0 f.1 (sym (ap (λ j. last_run n (past fs j)) k ∙ ap (last_run n) (past-more fs i f.0 (omega (arith, h)) f.1)) ∙ e) (run_at fs i n p (omega (arith, h)))
  where
    later : IsAt fs i p → IsAt fs (suc i) p
    later a = record { note = a.note; is = a.is; same = a.same; some = a.some; inside = (let q : p.number ≤ i = a.inside in omega (arith, q)) }

    go : (x : Fact) → x ≡ get_or fs i x → last_run n (fact_of x ∷ past fs i) ≡ Some p → (last_run n (past fs i) ≡ Some p → IsAt fs i p) → IsAt fs (suc i) p
    go (Change m how) is q ih = later (ih q)
    go (Run r) is q ih = by (n == r.id) q
      where
        by : (b : Bool) → cond b (Some (record { number = length (past fs i) + 1; note = note_of r })) (last_run n (past fs i)) ≡ Some p → IsAt fs (suc i) p
        by false z = later (ih z)
        by true z =
            let eq : record { number = length (past fs i) + 1; note = note_of r } ≡ p = cc in
            let size : length (past fs i) ≡ i = length-past fs i (omega (arith, h)) in
            let num : length (past fs i) + 1 ≡ p.number = ap (λ (x : Found). x.number) eq in
            record {
              note = r;
              is = λ y at. one_fact fs i (Run r) y (omega (arith, h)) is (at ∙ ap (λ j. get_or fs j y) (omega (arith, num, size)));
              same = ap (λ (x : Found). x.note) eq;
              some = omega (arith, num);
              inside = omega (arith, num, size);
            }

found_at : (fs : List Fact) (n : ℕ) (p : Found) → last_run n (back fs) ≡ Some p → IsAt fs (length fs) p
found_at fs n p e = run_at fs (length fs) n p (omega arith) (sym (ap (last_run n) (back-past fs)) ∙ e)

-- by the number that is marked: no run
pub marked_none : (fs : List Fact) (n number : ℕ) → number ≡ number_of_run (last_run n (back fs)) → number ≡ 0 → last_run n (back fs) ≡ None
marked_none fs n number e z = go (last_run n (back fs)) refl (sym e ∙ z)
  where
    go : (o : Option Found) → last_run n (back fs) ≡ o → number_of_run o ≡ 0 → o ≡ None
    go None q h = refl
    go (Some p) q h = let a : 0 < p.number = (found_at fs n p q).some in absurd (omega (arith, a, h))

-- or the fact of that number
pub record IsMarked (fs : List Fact) (n number : ℕ) : Type 0 where
  pub note : RunNote
  pub is : (x : Fact) → x ≡ get_or fs (number - 1) x → x ≡ Run note
  pub found : last_run n (back fs) ≡ Some (record { number = number; note = note_of note })
  pub inside : number ≤ length fs

pub marked_some : (fs : List Fact) (n number : ℕ) → number ≡ number_of_run (last_run n (back fs)) → (number ≡ 0 → ⊥) → IsMarked fs n number
marked_some fs n number e z = go (last_run n (back fs)) refl e
  where
    go : (o : Option Found) → last_run n (back fs) ≡ o → number ≡ number_of_run o → IsMarked fs n number
    go None q h = absurd (z h)
    go (Some p) q h =
        let a : IsAt fs (length fs) p = found_at fs n p q in
        let le : p.number ≤ length fs = a.inside in
        record {
          note = a.note;
          is = λ x at. a.is x (at ∙ ap (λ j. get_or fs (j - 1) x) h);
          found = q ∙ ap (λ (m : Note). Some (record { number = p.number; note = m })) (sym a.same)
              ∙ ap (λ k. Some (record { number = k; note = note_of a.note })) (sym h);
          inside = omega (arith, le, h);
        }

-- the run at hand is that one
pub marked_run : (fs : List Fact) (n number : ℕ) (x : Fact) (r : RunNote) → number ≡ number_of_run (last_run n (back fs)) → (number ≡ 0 → ⊥) →
    x ≡ get_or fs (number - 1) x → x ≡ Run r → last_run n (back fs) ≡ Some (record { number = number; note = note_of r })
marked_run fs n number x r e z at is =
    let m : IsMarked fs n number = marked_some fs n number e z in
    let q : Run m.note ≡ Run r = sym (m.is x at) ∙ is in
    let s : m.note ≡ r = cc in
    m.found ∙ ap (λ y. Some (record { number = number; note = note_of y })) s

-- and no change
pub marked_change : (fs : List Fact) (n number : ℕ) (x : Fact) (m : ℕ) (how : How) → number ≡ number_of_run (last_run n (back fs)) → (number ≡ 0 → ⊥) →
    x ≡ get_or fs (number - 1) x → x ≡ Change m how → ⊥
marked_change fs n number x m how e z at is =
    let k : IsMarked fs n number = marked_some fs n number e z in
    let q : Run k.note ≡ Change m how = sym (k.is x at) ∙ is in
    cc

pub marked_inside : (fs : List Fact) (n number : ℕ) → number ≡ number_of_run (last_run n (back fs)) → number ≤ length fs
marked_inside fs n number e = go (last_run n (back fs)) refl e
  where
    go : (o : Option Found) → last_run n (back fs) ≡ o → number ≡ number_of_run o → number ≤ length fs
    go None q h = omega (arith, h)
    go (Some p) q h = let a : p.number ≤ length fs = (found_at fs n p q).inside in omega (arith, a, h)

-- ---- the first read that was moved

pub first_here : (since i m : ℕ) (ms : List ℕ) (js : List plain.Fact) → i < length ms → m ≡ get_or ms i m → since < last_number (moves m) js →
    first_moved since (drop i ms) js ≡ cause.Changed m (last_number (moves m) js)
first_here since i m ms js h is lt =
    at_drop_more (λ xs. first_moved since xs js) ms i m h
    ∙ ap (λ y. first_moved since (y ∷ drop (i + 1) ms) js) (sym is)
    ∙ ap (λ b. cond b (cause.Changed m (last_number (moves m) js)) (first_moved since (drop (i + 1) ms) js)) (lt-ltb since (last_number (moves m) js) lt)

pub first_later : (since i m : ℕ) (ms : List ℕ) (js : List plain.Fact) → i < length ms → m ≡ get_or ms i m → last_number (moves m) js ≤ since →
    first_moved since (drop (i + 1) ms) js ≡ first_moved since (drop i ms) js
first_later since i m ms js h is le =
    sym (at_drop_more (λ xs. first_moved since xs js) ms i m h
    ∙ ap (λ y. first_moved since (y ∷ drop (i + 1) ms) js) (sym is)
    ∙ ap (λ b. cond b (cause.Changed m (last_number (moves m) js)) (first_moved since (drop (i + 1) ms) js)) (le-ltb since (last_number (moves m) js) le))

-- ---- one fact more

changed_is : (js : List plain.Fact) (n m : ℕ) (how : How) → (b : Bool) → (n == m) ≡ b →
    cond b (marks_changed how (length js + 1) (marks_by m js)) (marks_by n js) ≡ marks_by n (was_changed m how ∷ js)
changed_is js n m how true e =
    let q : m ≡ n = sym (eqb-true n m e) in
    ap (λ x. marks_changed how (length js + 1) (marks_by x js)) q
    ∙ ap (λ b. record {
      run = number_of_run (last_run n js);
      rewired = cond (b && is_rewire how) (length js + 1) (last_number (rewires n) js);
      moved = cond b (length js + 1) (last_number (moves n) js);
    }) (sym e)
changed_is js n m how false e =
    ap (λ b. record {
      run = number_of_run (last_run n js);
      rewired = cond (b && is_rewire how) (length js + 1) (last_number (rewires n) js);
      moved = cond b (length js + 1) (last_number (moves n) js);
    }) (sym e)

run_is : (js : List plain.Fact) (n : ℕ) (r : Note) → (b : Bool) → (n == r.name) ≡ b →
    cond b (marks_run (is_news (last_run r.name js) r.outcome) (length js + 1) (marks_by r.name js)) (marks_by n js) ≡ marks_by n (has_run r ∷ js)
run_is js n r true e =
    let q : r.name ≡ n = sym (eqb-true n r.name e) in
    ap (λ x. marks_run (is_news (last_run x js) r.outcome) (length js + 1) (marks_by x js)) q
    ∙ ap (λ b. record {
      run = number_of_run (cond b (Some (record { number = length js + 1; note = r })) (last_run n js));
      rewired = last_number (rewires n) js;
      moved = cond (b && is_news (last_run n js) r.outcome) (length js + 1) (last_number (moves n) js);
    }) (sym e)
run_is js n r false e =
    ap (λ b. record {
      run = number_of_run (cond b (Some (record { number = length js + 1; note = r })) (last_run n js));
      rewired = last_number (rewires n) js;
      moved = cond (b && is_news (last_run n js) r.outcome) (length js + 1) (last_number (moves n) js);
    }) (sym e)

-- what was right is right with a change
pub right_changed : (fs gs : List Fact) (cs ds : List Cause) (es xs : List (ℕ × Marks)) (m : ℕ) (how : How) (number : ℕ) (old : Marks) → IsRight fs cs es →
    number ≡ length fs + 1 → old ≡ marks_at es m → gs ≡ fs ++ Change m how ∷ [] → ds ≡ cs ++ cause.First ∷ [] →
    ((n : ℕ) → marks_at xs n ≡ cond (n == m) (marks_changed how number old) (marks_at es n)) → IsRight gs ds xs
right_changed fs gs cs ds es xs m how number old right num was facts causes put = record {
  marks = λ n.
      put n
      ∙ ap (λ k. cond (n == m) k (marks_at es n)) (ap (λ x. marks_changed how number x) (was ∙ right.marks m) ∙ ap (λ x. marks_changed how x (marks_by m (back fs))) size)
      ∙ ap (λ k. cond (n == m) (marks_changed how (length (back fs) + 1) (marks_by m (back fs))) k) (right.marks n)
      ∙ changed_is (back fs) n m how (n == m) refl
      ∙ ap (marks_by n) (sym whole);
  own = causes ∙ ap (λ k. k ++ cause.First ∷ []) right.own ∙ ap causes_by (sym whole);
}
  where
    size : number ≡ length (back fs) + 1
    size = let s : length (back fs) ≡ length fs = length-back fs in omega (arith, num, s)

    whole : back gs ≡ was_changed m how ∷ back fs
    whole = ap back facts ∙ back-more fs (Change m how)

-- and with a run
pub right_run : (fs gs : List Fact) (cs ds : List Cause) (es xs : List (ℕ × Marks)) (r : RunNote) (c : Cause) (news : Bool) (number : ℕ) (old : Marks) →
    IsRight fs cs es → number ≡ length fs + 1 → old ≡ marks_at es r.id → c ≡ cause_of r.id (back fs) → news ≡ is_news (last_run r.id (back fs)) r.outcome →
    gs ≡ fs ++ Run r ∷ [] → ds ≡ cs ++ c ∷ [] → ((n : ℕ) → marks_at xs n ≡ cond (n == r.id) (marks_run news number old) (marks_at es n)) → IsRight gs ds xs
right_run fs gs cs ds es xs r c news number old right num was why new facts causes put = record {
  marks = λ n.
      put n
      ∙ ap (λ k. cond (n == r.id) k (marks_at es n)) (ap (λ x. marks_run news number x) (was ∙ right.marks r.id)
      ∙ ap (λ x. marks_run news x (marks_by r.id (back fs))) size ∙ ap (λ x. marks_run x (length (back fs) + 1) (marks_by r.id (back fs))) new)
      ∙ ap (λ k. cond (n == r.id) (marks_run (is_news (last_run r.id (back fs)) r.outcome) (length (back fs) + 1) (marks_by r.id (back fs))) k) (right.marks n)
      ∙ run_is (back fs) n (note_of r) (n == r.id) refl
      ∙ ap (marks_by n) (sym whole);
  own = causes ∙ ap (λ k. k ++ c ∷ []) right.own ∙ ap (λ k. causes_by (back fs) ++ k ∷ []) why ∙ ap causes_by (sym whole);
}
  where
    size : number ≡ length (back fs) + 1
    size = let s : length (back fs) ≡ length fs = length-back fs in omega (arith, num, s)

    whole : back gs ≡ has_run (note_of r) ∷ back fs
    whole = ap back facts ∙ back-more fs (Run r)

-- what isn't noted leaves all right
pub right_same : (fs gs : List Fact) (cs ds : List Cause) (es xs : List (ℕ × Marks)) → IsRight fs cs es → gs ≡ fs → ds ≡ cs →
    ((n : ℕ) → marks_at xs n ≡ marks_at es n) → IsRight gs ds xs
right_same fs gs cs ds es xs right facts causes put = record {
  marks = λ n. put n ∙ right.marks n ∙ ap (λ x. marks_by n (back x)) (sym facts);
  own = causes ∙ right.own ∙ ap (λ x. causes_by (back x)) (sym facts);
}

-- ---- the causes that are kept

pub length-causes : (js : List plain.Fact) → length (causes_by js) ≡ length js
length-causes [] = refl
length-causes (f ∷ earlier) =
    let a : length (causes_by earlier ++ cause_at f earlier ∷ []) ≡ length (causes_by earlier) + 1 = length-append (causes_by earlier) (cause_at f earlier ∷ []) in
    let b : length (causes_by earlier) ≡ length earlier = length-causes earlier in
    omega (arith, a, b)

-- the cause of the first of these facts, whatever came later
cause_in : (later : List plain.Fact) (f : plain.Fact) (earlier : List plain.Fact) (d : Cause) →
    get_or (causes_by (later ++ f ∷ earlier)) (length earlier) d ≡ cause_at f earlier
cause_in [] f earlier d = get_or_push (causes_by earlier) (cause_at f earlier) d (length earlier) (length-causes earlier)
cause_in (x ∷ later) f earlier d =
    get_or_append_left (causes_by (later ++ f ∷ earlier)) (cause_at x (later ++ f ∷ earlier) ∷ []) d (length earlier) (longer later) ∙ cause_in later f earlier d
  where
    size : (xs : List plain.Fact) → length earlier < length (xs ++ f ∷ earlier)
    size [] = omega arith
    size (y ∷ xs) = let k : length earlier < length (xs ++ f ∷ earlier) = size xs in omega (arith, k)

    longer : (xs : List plain.Fact) → length earlier < length (causes_by (xs ++ f ∷ earlier))
    longer xs = let k : length earlier < length (xs ++ f ∷ earlier) = size xs in let q : length (causes_by (xs ++ f ∷ earlier)) ≡ length (xs ++ f ∷ earlier) = length-causes (xs ++ f ∷ earlier) in omega (arith, k, q)

-- the cause that is kept of a run
pub kept_cause : (fs : List Fact) (cs : List Cause) (es : List (ℕ × Marks)) (number : ℕ) (x : Fact) (r : RunNote) (c : Cause) → IsRight fs cs es →
    0 < number → number ≤ length fs → x ≡ get_or fs (number - 1) x → x ≡ Run r → c ≡ get_or cs (number - 1) c → c ≡ cause_of r.id (past fs (number - 1))
kept_cause fs cs es number x r c right pos le at is kept =
    kept
    ∙ ap (λ k. get_or k (number - 1) c) (right.own ∙ ap causes_by split)
    ∙ ap (λ k. get_or (causes_by (reverse (map fact_of (drop number fs)) ++ fact_of x ∷ past fs (number - 1))) k c) (sym (length-past fs (number - 1) (omega (arith, le))))
    ∙ cause_in (reverse (map fact_of (drop number fs))) (fact_of x) (past fs (number - 1)) c
    ∙ ap (λ y. cause_at (fact_of y) (past fs (number - 1))) is
  where
    e : number ≡ number - 1 + 1
    e = omega (arith, pos)

    split : back fs ≡ reverse (map fact_of (drop number fs)) ++ fact_of x ∷ past fs (number - 1)
    split =
        back-past fs ∙ past-part fs number
        ∙ ap (λ js. reverse (map fact_of (drop number fs)) ++ js) (ap (past fs) e ∙ past-more fs (number - 1) x (omega (arith, pos, le)) at)

pub causes_inside : (fs : List Fact) (cs : List Cause) (es : List (ℕ × Marks)) → IsRight fs cs es → length cs ≡ length fs
causes_inside fs cs es right = ap length right.own ∙ length-causes (back fs) ∙ length-back fs

-- ---- the chain

-- where nothing is marked there is none
pub chain_none : (fs : List Fact) (n number : ℕ) → number ≡ number_of_run (last_run n (back fs)) → number ≡ 0 → chain (facts_of fs) n ≡ None
chain_none fs n number e z =
    ap (λ js. links_of js (last_run n js)) (sym (back-reverse fs)) ∙ ap (links_of (back fs)) (marked_none fs n number e z)

-- else it is the links from the number that is marked
pub chain_some : (fs : List Fact) (n number : ℕ) → number ≡ number_of_run (last_run n (back fs)) → (number ≡ 0 → ⊥) →
    chain (facts_of fs) n ≡ Some (links_from (back fs) number)
chain_some fs n number e z =
    ap (λ js. links_of js (last_run n js)) (sym (back-reverse fs)) ∙ ap (links_of (back fs)) (marked_some fs n number e z).found
