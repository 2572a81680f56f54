-- What edits of places make of what callers see.
use Rattle.std.proofs.Common.{◌≡◌, ◌≢◌, ◌⊎◌, ℕ, zero, suc, ◌+◌, ◌<◌, ◌≤◌, List, [], ◌∷◌, ◌++◌, length, get_or, set, Option, Some, None, IsSome, is_some, true, refl, sym, ap, ◌∙◌, inl, inr, arith, length-append, false, nat_eq, count_by, cond, if◌then◌else◌, Bool}
use Rattle.std.proofs.lemmas.Bool.{cases_eq}
use Rattle.std.proofs.lemmas.List.{ext_get_or, get_or-set_same, get_or-set_other, get_or_past, get_or_push, get_or_append_left, length-set}
use Rattle.std.specs.Option.{option_map}
use Rattle.sig_store.specs.declared.store.Held.{Held}
use Rattle.std.proofs.lemmas.Bool.{eqb-true, eq-eqb}
use Rattle.std.proofs.lemmas.List.Sums.{sum_by-set}
use Rattle.sig_store.specs.Stored.{entry, seen}
use Rattle.sig_store.specs.Places.{counted_up, holds_number, number_there, place_by, value_there, entries_by, IsIndex, IsLeft, IsNoted, IsPlaced, IsStore}

module _ {A : Type 0} where
  pub length-counted_up : (f : ℕ → A) (n : ℕ) → length (counted_up f n) ≡ n
  length-counted_up f zero = refl
  length-counted_up f (suc n) = omega (arith, length-counted_up f n, length-append (counted_up f n) (f n ∷ []))

  pub get_or-counted_up : (f : ℕ → A) (n k : ℕ) (d : A) → k < n → get_or (counted_up f n) k d ≡ f k
  get_or-counted_up f zero k d h = absurd (omega arith)
  get_or-counted_up f (suc n) k d h =
      elim (cases_eq k n) [
        | inl same ↦ rw same (get_or_push (counted_up f n) (f n) d n (length-counted_up f n))
        | inr other ↦
            let below : k < n = omega arith in
            get_or_append_left (counted_up f n) (f n ∷ []) d k (omega (arith, length-counted_up f n)) ∙ get_or-counted_up f n k d below
      ]

  -- the same numbers give the same list
  pub counted_up-alike : (f g : ℕ → A) (n : ℕ) → ((k : ℕ) → k < n → f k ≡ g k) → counted_up f n ≡ counted_up g n
  counted_up-alike f g zero h = refl
  counted_up-alike f g (suc n) h =
      let rest : counted_up f n ≡ counted_up g n = counted_up-alike f g n (λ k l. h k (omega arith)) in
      let last : f n ≡ g n = h n (omega arith) in
      rw (rest, last) refl

  -- one other gives another item
  pub counted_up-set : (f g : ℕ → A) (n k : ℕ) (x : A) → k < n → g k ≡ x → ((j : ℕ) → j ≢ k → g j ≡ f j) → counted_up g n ≡ set (counted_up f n) k x
  counted_up-set f g n k x within here others =
      ext_get_or x (counted_up g n) (set (counted_up f n) k x) sizes each
    where
      sizes : length (counted_up g n) ≡ length (set (counted_up f n) k x)
      sizes = length-counted_up g n ∙ sym (length-counted_up f n) ∙ sym (length-set (counted_up f n) k x)

      each : (i : ℕ) → i < length (counted_up g n) → get_or (counted_up g n) i x ≡ get_or (set (counted_up f n) k x) i x
      each i l =
          let inside : i < n = omega (arith, length-counted_up g n) in
          elim (cases_eq i k) [
            | inl same ↦ rw same (get_or-counted_up g n k x within ∙ here ∙ sym (get_or-set_same (counted_up f n) k x x (omega (arith, length-counted_up f n))))
            | inr other ↦ get_or-counted_up g n i x inside ∙ others i other ∙ sym (get_or-counted_up f n i x inside) ∙ sym (get_or-set_other (counted_up f n) k i x x other)
          ]

module _ {T : Type 0} where
  -- no number was given
  pub entries-none : (at : ℕ → Option ℕ) (look : ℕ → Option (Held T)) → entries_by at look 0 ≡ []
  unfolding entries_by
  entries-none at look = refl

  -- one entry for each number that was given
  pub entries-length : (at : ℕ → Option ℕ) (look : ℕ → Option (Held T)) (made : ℕ) → length (entries_by at look made) ≡ made
  unfolding entries_by
  entries-length at look made = length-counted_up (λ n. value_there look (at n)) made

  -- a number has what its place holds
  pub entry-there : (at : ℕ → Option ℕ) (look : ℕ → Option (Held T)) (made n : ℕ) → IsStore at look made → entry (entries_by at look made) n ≡ value_there look (at n)
  unfolding entries_by
  entry-there at look made n store =
      elim (reached n made) [
        | inl below ↦ get_or-counted_up (λ k. value_there look (at k)) made n None below
        | inr past ↦
            get_or_past (counted_up (λ k. value_there look (at k)) made) n None (omega (arith, length-counted_up (λ k. value_there look (at k)) made))
            ∙ sym (nothing (at n) refl past)
      ]
    where
      reached : (a b : ℕ) → (a < b) ⊎ (b ≤ a)
      reached zero zero = inr (omega arith)
      reached zero (suc b) = inl (omega arith)
      reached (suc a) zero = inr (omega arith)
      reached (suc a) (suc b) = elim (reached a b) [ inl l ↦ inl (omega arith) | inr l ↦ inr (omega arith) ]

      nothing : (p : Option ℕ) → at n ≡ p → made ≤ n → value_there look p ≡ None
      nothing None e past = refl
      nothing (Some p) e past = absurd (omega (arith, store.below n p e))

  -- what stands has a place
  pub place-there : (look : ℕ → Option (Held T)) (p : Option ℕ) → IsSome (value_there look p) → IsSome p
  place-there look None h = h
  place-there look (Some p) h = refl

  -- a place that a number has holds something
  pub held-there : (at : ℕ → Option ℕ) (look : ℕ → Option (Held T)) (made n p : ℕ) → IsStore at look made → at n ≡ Some p → IsSome (look p)
  held-there at look made n p store here = by (look p) (store.stands n p here)
    where
      by : (o : Option (Held T)) → option_map (λ (h : Held T). h.number) o ≡ Some n → IsSome o
      by None e = absurd (cc)
      by (Some h) e = refl

  -- and that under the number
  pub number-there : (at : ℕ → Option ℕ) (look : ℕ → Option (Held T)) (made n p : ℕ) (h : Held T) → IsStore at look made → at n ≡ Some p → look p ≡ Some h → h.number ≡ n
  number-there at look made n p h store here found =
      let e : Some h.number ≡ Some n = ap (option_map (λ (x : Held T). x.number)) (sym found) ∙ store.stands n p here in
      cc

-- An edit of one number's place: other numbers keep theirs, other places what they hold, and no other number has the place.
pub record Edits {T : Type 0} (at later : ℕ → Option ℕ) (look after : ℕ → Option (Held T)) (n p : ℕ) : Type 0 where
  pub numbers : (j : ℕ) → j ≢ n → later j ≡ at j
  pub places : (q : ℕ) → q ≢ p → after q ≡ look q
  pub own : (j : ℕ) → j ≢ n → at j ≡ Some p → ⊥

module _ {T : Type 0} (at later : ℕ → Option ℕ) (look after : ℕ → Option (Held T)) (n p : ℕ) where
  -- what stands under other numbers stays
  elsewhere : Edits at later look after n p → (j : ℕ) → j ≢ n → value_there after (later j) ≡ value_there look (at j)
  elsewhere edit j other = ap (value_there after) (edit.numbers j other) ∙ by (at j) refl
    where
      by : (o : Option ℕ) → at j ≡ o → value_there after o ≡ value_there look o
      by None e = refl
      by (Some q) e = ap (option_map (λ (h : Held T). h.value)) (edit.places q (λ same. edit.own j other (e ∙ ap Some same)))

  -- a number that was given has other things
  pub edited : (made : ℕ) (v : Option T) → Edits at later look after n p → n < made → value_there after (later n) ≡ v → entries_by later after made ≡ set (entries_by at look made) n v
  unfolding entries_by
  edited made v edit given here =
      counted_up-set (λ k. value_there look (at k)) (λ k. value_there after (later k)) made n v given here (elsewhere edit)

  -- the next number is given
  pub added : (v : Option T) → Edits at later look after n p → value_there after (later n) ≡ v → entries_by later after (n + 1) ≡ entries_by at look n ++ v ∷ []
  unfolding entries_by
  added v edit here =
      let next : n + 1 ≡ suc n = omega arith in
      let rest : counted_up (λ k. value_there look (at k)) n ≡ counted_up (λ k. value_there after (later k)) n =
      counted_up-alike (λ k. value_there look (at k)) (λ k. value_there after (later k)) n (λ k l. sym (elsewhere edit k (λ same. omega (arith, same, l)))) in
      rw (next, rest, here) refl

  -- other numbers have their places, which hold them
  others_stand : (made : ℕ) → IsStore at look made → Edits at later look after n p → (m q : ℕ) → m ≢ n → later m ≡ Some q → option_map (λ (h : Held T). h.number) (after q) ≡ Some m
  others_stand made store edit m q other there =
      let before : at m ≡ Some q = sym (edit.numbers m other) ∙ there in
      ap (option_map (λ (h : Held T). h.number)) (edit.places q (λ same. edit.own m other (before ∙ ap Some same))) ∙ store.stands m q before

  -- what other places hold has its place
  elsewhere_own : (made : ℕ) → IsStore at look made → Edits at later look after n p → ((q : ℕ) → q ≢ p → at n ≡ Some q → ⊥) → (m q : ℕ) → q ≢ p → number_there after q ≡ Some m → later m ≡ Some q
  elsewhere_own made store edit away m q other holding =
      let before : at m ≡ Some q = store.own.place m q (ap (option_map (λ (h : Held T). h.number)) (sym (edit.places q other)) ∙ holding) in
      elim (cases_eq m n) [
        | inl same ↦ absurd (away q other (ap at (sym same) ∙ before))
        | inr apart ↦ edit.numbers m apart ∙ before
      ]

  -- all that is known of a store holds where it holds of the number that is edited
  pub stays_store : (made next : ℕ) → IsStore at look made → Edits at later look after n p → made ≤ next
      → ((q : ℕ) → later n ≡ Some q → (option_map (λ (h : Held T). h.number) (after q) ≡ Some n) × (n < next))
      → ((m : ℕ) → number_there after p ≡ Some m → later m ≡ Some p) → ((q : ℕ) → q ≢ p → at n ≡ Some q → ⊥) → IsStore later after next
  stays_store made next store edit more here mine away = record {
    stands = λ m q there. elim (cases_eq m n) [
      | inl same ↦ (here q (ap later (sym same) ∙ there)).0 ∙ ap Some (sym same)
      | inr other ↦ others_stand made store edit m q other there
    ];
    below = λ m q there. elim (cases_eq m n) [
      | inl same ↦ let l = (here q (ap later (sym same) ∙ there)).1 in omega (arith, same, l)
      | inr other ↦ let l = store.below m q (sym (edit.numbers m other) ∙ there) in omega (arith, l, more)
    ];
    own = record {
      place = λ m q holding. elim (cases_eq q p) [
        | inl same ↦ mine m (ap (number_there after) (sym same) ∙ holding) ∙ ap Some (sym same)
        | inr other ↦ elsewhere_own made store edit away m q other holding
      ];
    };
  }

-- another number is another key
pub differs : (n j : ℕ) → j ≢ n → nat_eq n j ≡ false
differs n j other = by (nat_eq n j) refl
  where
    by : (b : Bool) → nat_eq n j ≡ b → b ≡ false
    by true e = absurd (other (sym (eqb-true n j e)))
    by false e = refl

-- a number has one place
pub one_place : (at : ℕ → Option ℕ) (n p : ℕ) → at n ≡ Some p → (q : ℕ) → q ≢ p → at n ≡ Some q → ⊥
one_place at n p here q other there =
    let e : Some q ≡ Some p = sym there ∙ here in
    let same : q ≡ p = cc in
    other same

-- how much a slot counts
abbrev one_if : Bool → ℕ
one_if b = cond b 1 0

-- a write where something is held changes no count
pub count-kept : {X : Type 0} (xs : List (Option X)) (p : ℕ) (w : X) → IsSome (get_or xs p None) → count_by is_some (set xs p (Some w)) ≡ count_by is_some xs
count-kept {X} xs p w present =
    let within : p < length xs = grind (arith, get_or_past) in
    let counted = sum_by-set (λ (o : Option X). one_if (is_some o)) xs p (Some w) None within in
    let one : one_if (is_some (get_or xs p None)) ≡ one_if true = ap one_if present in
    omega (arith, counted, one)

module _ {T : Type 0} where
  -- a place that was written holds the number that was written, and no other
  pub sole : (after : ℕ → Option (Held T)) (n p : ℕ) (h : Held T) → after p ≡ Some h → h.number ≡ n
      → ((q : ℕ) → Some p ≡ Some q → number_there after q ≡ Some n) × ((m : ℕ) → number_there after p ≡ Some m → (m ≡ n) × (Some p ≡ Some p))
  sole after n p h found number =
      let held : number_there after p ≡ Some n = ap (option_map (λ (x : Held T). x.number)) found ∙ ap Some number in
      (λ q e. let same : q ≡ p = cc in ap (number_there after) same ∙ held, λ m e. let same : Some m ≡ Some n = sym e ∙ held in (cc, refl))

  -- the same entries and the same room are the same
  pub alike : (es ds : List (Option T)) (r q : ℕ) → es ≡ ds → r ≡ q → seen es r ≡ seen ds q
  alike es ds r q e f = rw (e, f) refl

-- ---- places by index and by number

module _ {T : Type 0} where
  -- what is held under a number
  pub held_number : (o : Option (Held T)) (n : ℕ) → option_map (λ (h : Held T). h.number) o ≡ Some n → holds_number o n ≡ true
  held_number None n e = absurd (cc)
  held_number (Some h) n e = let same : h.number ≡ n = cc in eq-eqb h.number n same

  -- and what isn't
  pub unheld : (o : Option (Held T)) (n : ℕ) → (option_map (λ (h : Held T). h.number) o ≡ Some n → ⊥) → holds_number o n ≡ false
  unheld None n away = refl
  unheld (Some h) n away = by (nat_eq h.number n) refl
    where
      by : (b : Bool) → nat_eq h.number n ≡ b → b ≡ false
      by true e = absurd (away (ap Some (eqb-true h.number n e)))
      by false e = refl

  -- a number whose value stands at itself
  pub placed_home : (index : ℕ → Option ℕ) (look : ℕ → Option (Held T)) (n : ℕ) → holds_number (look n) n ≡ true → place_by index look n ≡ Some n
  unfolding place_by
  placed_home index look n h = ap (λ b. if b then Some n else index n) h

  -- a number whose value doesn't
  pub placed_away : (index : ℕ → Option ℕ) (look : ℕ → Option (Held T)) (n : ℕ) → holds_number (look n) n ≡ false → place_by index look n ≡ index n
  unfolding place_by
  placed_away index look n h = ap (λ b. if b then Some n else index n) h

-- An edit of one place, which held and holds nothing or the value of one number; of other numbers the index has what it had.
record Puts {T : Type 0} (index later : ℕ → Option ℕ) (look after : ℕ → Option (Held T)) (n p : ℕ) : Type 0 where
  numbers : (j : ℕ) → j ≢ n → later j ≡ index j
  places : (q : ℕ) → q ≢ p → after q ≡ look q
  before : (m : ℕ) → number_there look p ≡ Some m → m ≡ n
  since : (m : ℕ) → number_there after p ≡ Some m → m ≡ n

-- what it makes of places and of the index, and where the number stands then
pub record Moves {T : Type 0} (index later : ℕ → Option ℕ) (look after : ℕ → Option (Held T)) (n p : ℕ) (place : Option ℕ) : Type 0 where
  pub edit : Edits (place_by index look) (place_by later after) look after n p
  pub placed : place_by later after n ≡ place
  pub indexed : IsIndex later after

module _ {T : Type 0} (index later : ℕ → Option ℕ) (look after : ℕ → Option (Held T)) (n p : ℕ) where
  -- other numbers have the places that they had
  same_place : Puts index later look after n p → (j : ℕ) → j ≢ n → place_by later after j ≡ place_by index look j
  unfolding place_by
  same_place puts j other = rw (test, puts.numbers j other) refl
    where
      test : holds_number (after j) j ≡ holds_number (look j) j
      test = elim (cases_eq j p) [
        | inl same ↦ unheld (after j) j (λ e. other (puts.since j (ap (number_there after) (sym same) ∙ e)))
            ∙ sym (unheld (look j) j (λ e. other (puts.before j (ap (number_there look) (sym same) ∙ e))))
        | inr apart ↦ ap (λ o. holds_number o j) (puts.places j apart)
      ]

  -- all of it, by what the index has of the number
  moved : (made : ℕ) (place : Option ℕ) → IsPlaced index look made → Puts index later look after n p
      → ((q : ℕ) → later n ≡ Some q → (number_there after q ≡ Some n) × (q ≢ n)) → place_by later after n ≡ place → Moves index later look after n p place
  moved made place known puts mine placed = record {
    edit = record {
      numbers = same_place puts;
      places = puts.places;
      own = λ j other there. other (puts.before j (known.store.stands j p there));
    };
    placed = placed;
    indexed = record {
      stands = λ m q there. elim (cases_eq m n) [
        | inl same ↦ (mine q (ap later (sym same) ∙ there)).0 ∙ ap Some (sym same)
        | inr other ↦
            let before : index m ≡ Some q = sym (puts.numbers m other) ∙ there in
            let holding : number_there look q ≡ Some m = known.indexed.stands m q before in
            ap (option_map (λ (h : Held T). h.number)) (puts.places q (λ same. other (puts.before m (ap (number_there look) (sym same) ∙ holding)))) ∙ holding
      ];
      away = λ m q there. elim (cases_eq m n) [
        | inl same ↦ λ home. (mine q (ap later (sym same) ∙ there)).1 (home ∙ same)
        | inr other ↦ known.indexed.away m q (sym (puts.numbers m other) ∙ there)
      ];
    };
  }

  -- the next number isn't held, and the index has nothing of it
  unmade : IsPlaced index look n → (q : ℕ) → number_there look q ≡ Some n → ⊥
  unmade known q holding = let l = known.store.below n q (known.store.own.place n q holding) in absurd (omega (arith, l))

  -- the value of the next number is put in
  pub pushed : (h : Held T) → IsPlaced index look n → look p ≡ None → after p ≡ Some h → h.number ≡ n → ((q : ℕ) → q ≢ p → after q ≡ look q) → IsNoted index later n p
      → Moves index later look after n p (Some p)
  pushed h known empty found number others noted = moved n (Some p) known puts mine placed
    where
      held : number_there after p ≡ Some n
      held = ap (option_map (λ (x : Held T). x.number)) found ∙ ap Some number

      puts : Puts index later look after n p
      puts = record {
        numbers = noted.others;
        places = others;
        before = λ m e. let none : None ≡ Some m = ap (option_map (λ (x : Held T). x.number)) (sym empty) ∙ e in absurd (cc);
        since = λ m e. let same : Some m ≡ Some n = sym e ∙ held in cc;
      }

      mine : (q : ℕ) → later n ≡ Some q → (number_there after q ≡ Some n) × (q ≢ n)
      mine q there = elim noted.here [
        | inl own ↦ absurd (unmade known q (known.indexed.stands n q (sym own.1 ∙ there)))
        | inr put ↦
            let e : Some q ≡ Some p = sym there ∙ put.1 in
            let same : q ≡ p = cc in
            (ap (number_there after) same ∙ held, λ home. put.0 (sym same ∙ home))
      ]

      placed : place_by later after n ≡ Some p
      placed = elim noted.here [
        | inl own ↦ placed_home later after n (held_number (after n) n (ap (number_there after) (sym own.0) ∙ held)) ∙ ap Some (sym own.0)
        | inr put ↦
            placed_away later after n (unheld (after n) n (λ e. unmade known n (ap (option_map (λ (x : Held T). x.number)) (sym (others n (λ same. put.0 (sym same)))) ∙ e)))
            ∙ put.1
      ]

  -- the value of a number is taken out
  pub removed : (made : ℕ) → IsPlaced index look made → place_by index look n ≡ Some p → after p ≡ None → ((q : ℕ) → q ≢ p → after q ≡ look q) → IsLeft index later n p
      → Moves index later look after n p None
  removed made known here empty others left = moved made None known puts (λ q there. let e : None ≡ Some q = sym gone ∙ there in absurd (cc)) placed
    where
      held : number_there look p ≡ Some n
      held = known.store.stands n p here

      puts : Puts index later look after n p
      puts = record {
        numbers = left.others;
        places = others;
        before = λ m e. let same : Some m ≡ Some n = sym e ∙ held in cc;
        since = λ m e. let none : None ≡ Some m = ap (option_map (λ (x : Held T). x.number)) (sym empty) ∙ e in absurd (cc);
      }

      -- the index has nothing of a number that stands at itself
      home : p ≡ n → (o : Option ℕ) → index n ≡ o → o ≡ None
      home own None e = refl
      home own (Some q) e =
          let there : Some q ≡ Some p = sym (known.store.own.place n q (known.indexed.stands n q e)) ∙ here in
          let same : q ≡ p = cc in
          absurd (known.indexed.away n q e (same ∙ own))

      gone : later n ≡ None
      gone = elim left.here [ inl own ↦ own.1 ∙ home own.0 (index n) refl | inr none ↦ none ]

      nowhere : number_there after n ≡ Some n → ⊥
      nowhere e = elim (cases_eq n p) [
        | inl same ↦ let none : None ≡ Some n = ap (option_map (λ (x : Held T). x.number)) (sym empty) ∙ ap (number_there after) (sym same) ∙ e in absurd (cc)
        | inr apart ↦
            let there : Some n ≡ Some p = sym (known.store.own.place n n (ap (option_map (λ (x : Held T). x.number)) (sym (others n apart)) ∙ e)) ∙ here in
            let same : n ≡ p = cc in
            apart same
      ]

      placed : place_by later after n ≡ None
      placed = placed_away later after n (unheld (after n) n nowhere) ∙ gone

-- the same test gives the same place
same_test : {T : Type 0} (index : ℕ → Option ℕ) (look after : ℕ → Option (Held T)) (n : ℕ) → holds_number (after n) n ≡ holds_number (look n) n → place_by index after n ≡ place_by index look n
unfolding place_by
same_test index look after n e = ap (λ b. if b then Some n else index n) e

-- another value is put in place of that of a number
pub written : {T : Type 0} (index : ℕ → Option ℕ) (look after : ℕ → Option (Held T)) (n p made : ℕ) (h : Held T) → IsPlaced index look made → place_by index look n ≡ Some p
    → after p ≡ Some h → h.number ≡ n → ((q : ℕ) → q ≢ p → after q ≡ look q) → Moves index index look after n p (Some p)
written {T} index look after n p made h known here found number others = moved index index look after n p made (Some p) known puts mine placed
  where
    held : number_there look p ≡ Some n
    held = known.store.stands n p here

    now : number_there after p ≡ Some n
    now = ap (option_map (λ (x : Held T). x.number)) found ∙ ap Some number

    puts : Puts index index look after n p
    puts = record {
      numbers = λ j other. refl;
      places = others;
      before = λ m e. let same : Some m ≡ Some n = sym e ∙ held in cc;
      since = λ m e. let same : Some m ≡ Some n = sym e ∙ now in cc;
    }

    mine : (q : ℕ) → index n ≡ Some q → (number_there after q ≡ Some n) × (q ≢ n)
    mine q there =
        let e : Some q ≡ Some p = sym (known.store.own.place n q (known.indexed.stands n q there)) ∙ here in
        let same : q ≡ p = cc in
        (ap (number_there after) same ∙ now, known.indexed.away n q there)

    test : holds_number (after n) n ≡ holds_number (look n) n
    test = elim (cases_eq n p) [
      | inl same ↦ held_number (after n) n (ap (number_there after) same ∙ now) ∙ sym (held_number (look n) n (ap (number_there look) same ∙ held))
      | inr apart ↦ ap (λ o. holds_number o n) (others n apart)
    ]

    placed : place_by index after n ≡ Some p
    placed = same_test index look after n test ∙ here

-- a store after such an edit
pub stays_placed : {T : Type 0} (index later : ℕ → Option ℕ) (look after : ℕ → Option (Held T)) (n p made next : ℕ) (place : Option ℕ) → IsPlaced index look made
    → Moves index later look after n p place → made ≤ next → ((q : ℕ) → place ≡ Some q → (number_there after q ≡ Some n) × (n < next))
    → ((m : ℕ) → number_there after p ≡ Some m → (m ≡ n) × (place ≡ Some p)) → ((q : ℕ) → q ≢ p → place_by index look n ≡ Some q → ⊥) → IsPlaced later after next
stays_placed index later look after n p made next place known moves more here mine away = record {
  store = stays_store (place_by index look) (place_by later after) look after n p made next known.store moves.edit more
      (λ q there. here q (sym moves.placed ∙ there))
      (λ m holding. let e = mine m holding in ap (place_by later after) e.0 ∙ moves.placed ∙ e.1) away;
  indexed = moves.indexed;
}

-- a store without anything
pub none_placed : {T : Type 0} (index : ℕ → Option ℕ) (look : ℕ → Option (Held T)) → ((n : ℕ) → index n ≡ None) → ((p : ℕ) → look p ≡ None) → IsPlaced index look 0
none_placed {T} index look unknown empty = record {
  store = record {
    stands = λ n p there. absurd (nothing n p there);
    below = λ n p there. absurd (nothing n p there);
    own = record { place = λ n p holding. absurd (nowhere n p holding) };
  };
  indexed = record { stands = λ n p there. absurd (unplaced n p there); away = λ n p there. absurd (unplaced n p there) };
}
  where
    nowhere : (n p : ℕ) → number_there look p ≡ Some n → ⊥
    nowhere n p holding = let e : None ≡ Some n = ap (option_map (λ (h : Held T). h.number)) (sym (empty p)) ∙ holding in cc

    unplaced : (n p : ℕ) → index n ≡ Some p → ⊥
    unplaced n p there = let e : None ≡ Some p = sym (unknown n) ∙ there in cc

    nothing : (n p : ℕ) → place_by index look n ≡ Some p → ⊥
    nothing n p there = unplaced n p (sym (placed_away index look n (unheld (look n) n (nowhere n n))) ∙ there)

-- the same index and the same values are the same places
pub same_places : {T : Type 0} (index later : ℕ → Option ℕ) (look after : ℕ → Option (Held T)) → ((j : ℕ) → later j ≡ index j) → ((q : ℕ) → after q ≡ look q) → (n : ℕ)
    → place_by later after n ≡ place_by index look n
unfolding place_by
same_places index later look after numbers places n = let at = numbers n in let there = places n in rw (at, there) refl

-- and the same store
pub same_placed : {T : Type 0} (index later : ℕ → Option ℕ) (look after : ℕ → Option (Held T)) (made : ℕ) → ((j : ℕ) → later j ≡ index j) → ((q : ℕ) → after q ≡ look q)
    → IsPlaced index look made → IsPlaced later after made
same_placed {T} index later look after made numbers places known = record {
  store = record {
    stands = λ n p there. held p ∙ known.store.stands n p (sym (at n) ∙ there);
    below = λ n p there. known.store.below n p (sym (at n) ∙ there);
    own = record { place = λ n p holding. at n ∙ known.store.own.place n p (sym (held p) ∙ holding) };
  };
  indexed = record {
    stands = λ n p there. held p ∙ known.indexed.stands n p (sym (numbers n) ∙ there);
    away = λ n p there. known.indexed.away n p (sym (numbers n) ∙ there);
  };
}
  where
    at : (n : ℕ) → place_by later after n ≡ place_by index look n
    at = same_places index later look after numbers places

    held : (p : ℕ) → number_there after p ≡ number_there look p
    held p = ap (option_map (λ (h : Held T). h.number)) (places p)
