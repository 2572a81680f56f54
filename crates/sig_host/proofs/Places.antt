-- A place of a shelf that changes, and the others that stay.
use Rattle.std.proofs.Common.{◌≡◌, ℕ, List, [], ◌∷◌, zero, suc, Option, Some, None, IsTrue, false, unwrap_or, option_map, map, slice_get, slice_set, get_or, ◌+◌, ap, sym, ◌∙◌, subst, refl}
use Rattle.std.proofs.Math.Seq.{map-set_same}
use Rattle.std.proofs.lemmas.List.{map-set}
use Rattle.sig_base.specs.declared.value.Known.{Known}
use Rattle.sig_base.specs.declared.value.Step.{Step}
use Rattle.signal_model.specs.Recipes.{Hosts}
use Rattle.sig_host.specs.Hosts.{AnswersBy, HostPlace, IsCounted, Meaning, asked_more_at, count_there, dropped_at, hosts_of, is_there, no_place, place_at, unasked_place}

-- what is known of the place that is read
pub read_at : {P A : Type 0} (m : P → A) (g : P → HostPlace) (xs : List P) (i : ℕ) (d : P) → IsTrue (is_there (map g xs) i) → d ≡ get_or xs i d → slice_get (map m xs) i ≡ Some (m d)
read_at m g [] i d there at = cc
read_at m g (x ∷ xs) zero d there at = ap (λ p. Some (m p)) (sym at)
read_at m g (x ∷ xs) (suc i) d there at = read_at m g xs i d there at

-- an answer of a meaning is that of an equal meaning
pub answer_is : (m : Option Meaning) (f : Meaning) (known : List Known) (s : Step) → ((h : Meaning) → m ≡ Some h → h ≡ f) → option_map (λ (h : Meaning). h known) m ≡ Some s → s ≡ f known
answer_is None f known s same e = cc
answer_is (Some h) f known s same e = let t : h ≡ f = same h refl in let u : h known ≡ s = cc in sym u ∙ ap (λ (k : Meaning). k known) t

-- the answer of the place that is read
pub answer_at : {P : Type 0} (m : P → Option Meaning) (g : P → HostPlace) (xs : List P) (i : ℕ) (d : P) {hosts : Hosts} (known : List Known) (s : Step) → IsTrue (is_there (map g xs) i) → d ≡ get_or xs i d → AnswersBy hosts (map m xs) → option_map (λ (h : Meaning). h known) (m d) ≡ Some s → s ≡ hosts i known
answer_at m g xs i d {hosts} known s there at all e = answer_is (m d) (hosts i) known s (λ h is. all.each i h (read_at m g xs i d there at ∙ ap Some is)) e

-- a place keeps its meaning
pub answers_kept : {P : Type 0} (m : P → Option Meaning) (xs : List P) (i : ℕ) (y d : P) {hosts : Hosts} → d ≡ get_or xs i d → m y ≡ m d → AnswersBy hosts (map m xs) → AnswersBy hosts (map m (slice_set xs i y))
answers_kept m xs i y d {hosts} at e all = subst (AnswersBy hosts) (sym (map-set_same m xs i y d (e ∙ ap m at))) all

-- where a place has none of the meanings, a meaning is one that was there
gone_at : (ms : List (Option Meaning)) (i k : ℕ) (f : Meaning) → slice_get (slice_set ms i None) k ≡ Some (Some f) → slice_get ms k ≡ Some (Some f)
gone_at [] i k f e = e
gone_at (m ∷ ms) zero zero f e = cc
gone_at (m ∷ ms) zero (suc k) f e = e
gone_at (m ∷ ms) (suc i) zero f e = e
gone_at (m ∷ ms) (suc i) (suc k) f e = gone_at ms i k f e

answers_gone_at : {hosts : Hosts} (ms : List (Option Meaning)) (i : ℕ) → AnswersBy hosts ms → AnswersBy hosts (slice_set ms i None)
answers_gone_at ms i all = record { each = λ k f e. all.each k f (gone_at ms i k f e) }

-- the formula of a place is gone
pub answers_gone : {P : Type 0} (m : P → Option Meaning) (xs : List P) (i : ℕ) (y : P) {hosts : Hosts} → m y ≡ None → AnswersBy hosts (map m xs) → AnswersBy hosts (map m (slice_set xs i y))
answers_gone m xs i y {hosts} e all = subst (AnswersBy hosts) (sym (map-set m xs i y ∙ ap (slice_set (map m xs) i) e)) (answers_gone_at (map m xs) i all)

-- the meanings of formulas that are handed in as a list
lent_at : {B : Type 0} (f : B → Meaning) (hs : List B) (k : ℕ) (h d : Meaning) → slice_get (map (λ b. Some (f b)) hs) k ≡ Some (Some h) → h ≡ unwrap_or (slice_get (map f hs) k) d
lent_at f [] k h d e = cc
lent_at f (b ∷ hs) zero h d e = cc
lent_at f (b ∷ hs) (suc k) h d e = lent_at f hs k h d e

pub answers_lent : {B : Type 0} (f : B → Meaning) (hs : List B) (ms : List (Option Meaning)) → ms ≡ map (λ b. Some (f b)) hs → AnswersBy (hosts_of (map f hs)) ms
answers_lent f hs ms e = record { each = λ k h is. lent_at f hs k h _ (ap (λ l. slice_get l k) (sym e) ∙ is) }

-- a place is counted, as the others are
pub counted_set : {P : Type 0} (f : P → Option ℕ) (g : P → HostPlace) (xs : List P) (i : ℕ) (y : P) → f y ≡ count_there (g y) → IsCounted (map f xs) (map g xs) → IsCounted (map f (slice_set xs i y)) (map g (slice_set xs i y))
counted_set f g xs i y e all = record {
  same = map-set f xs i y ∙ ap (slice_set (map f xs) i) e ∙ ap (λ l. slice_set l i (count_there (g y))) all.same ∙ sym (map-set count_there (map g xs) i (g y))
      ∙ ap (map count_there) (sym (map-set g xs i y));
}

-- the count of the place that is read
pub counted_at : {P : Type 0} (f : P → Option ℕ) (g : P → HostPlace) (xs : List P) (i : ℕ) (d : P) → IsTrue (is_there (map g xs) i) → d ≡ get_or xs i d → IsCounted (map f xs) (map g xs) → f d ≡ count_there (g d)
counted_at f g [] i d there at all = cc
counted_at f g (x ∷ xs) zero d there at all =
    let h : f x ≡ count_there (g x) = some (f x) (count_there (g x)) (ap (λ l. slice_get l 0) all.same) in
    ap f at ∙ h ∙ ap (λ p. count_there (g p)) (sym at)
  where
    some : (a b : Option ℕ) → Some a ≡ Some b → a ≡ b
    some a b e = cc
counted_at f g (x ∷ xs) (suc i) d there at all = counted_at f g xs i d there at (record { same = rest (f x) (count_there (g x)) (map f xs) (map count_there (map g xs)) all.same })
  where
    rest : (a b : Option ℕ) (us vs : List (Option ℕ)) → (a ∷ us) ≡ (b ∷ vs) → us ≡ vs
    rest a b us vs e = cc

-- what is there is there where it is read
pub there_at : {P : Type 0} (g : P → HostPlace) (xs : List P) (i : ℕ) (d : P) → IsTrue (is_there (map g xs) i) → d ≡ get_or xs i d → place_at (map g xs) i ≡ g d
there_at g xs i d there at = ap (λ o. unwrap_or o no_place) (read_at g g xs i d there at)

-- formulas that were never asked
pub counted_new : {A : Type 0} (hs : List A) (us : List (Option ℕ)) (ps : List HostPlace) → us ≡ map (λ _. Some 0) hs → ps ≡ map (λ _. unasked_place) hs → IsCounted us ps
counted_new {A = A} hs us ps e q = record { same = e ∙ go hs ∙ ap (map count_there) (sym q) }
  where
    go : (xs : List A) → map (λ _. Some 0) xs ≡ map count_there (map (λ _. unasked_place) xs)
    go [] = refl
    go (x ∷ xs) = ap (λ l. Some 0 ∷ l) (go xs)

-- the formula of a place goes
pub dropped_set : {P : Type 0} (g : P → HostPlace) (xs : List P) (i : ℕ) (y d : P) → IsTrue (is_there (map g xs) i) → d ≡ get_or xs i d →
    g y ≡ record { there = false; asks = (g d).asks } → map g (slice_set xs i y) ≡ dropped_at (map g xs) i
dropped_set g xs i y d there at e =
    map-set g xs i y ∙ ap (slice_set (map g xs) i) (e ∙ ap (λ (o : HostPlace). record { there = false; asks = o.asks }) (sym (there_at g xs i d there at)))

-- a place was asked once more
pub asked_set : {P : Type 0} (g : P → HostPlace) (xs : List P) (i n : ℕ) (y d : P) → IsTrue (is_there (map g xs) i) → d ≡ get_or xs i d →
    (g y).there ≡ (g d).there → (g y).asks ≡ (g d).asks + n → map g (slice_set xs i y) ≡ asked_more_at (map g xs) i n
asked_set g xs i n y d there at same e =
    map-set g xs i y
    ∙ ap (slice_set (map g xs) i) ((λ j. record { there = same j; asks = e j }) ∙ ap (λ (o : HostPlace). record { there = o.there; asks = o.asks + n }) (sym (there_at g xs i d there at)))

-- a place was asked as often as before
pub asked_same : {P : Type 0} (g : P → HostPlace) (xs : List P) (i : ℕ) (y d : P) → d ≡ get_or xs i d → g y ≡ g d → map g (slice_set xs i y) ≡ map g xs
asked_same g xs i y d at e = map-set_same g xs i y d (e ∙ ap g at)

-- whether a formula is there stays at each place, if it does at the one that changes
pub there_same : {P : Type 0} (g : P → HostPlace) (xs : List P) (i : ℕ) (y d : P) → d ≡ get_or xs i d → (g y).there ≡ (g d).there → (k : ℕ) → is_there (map g (slice_set xs i y)) k ≡ is_there (map g xs) k
there_same g [] i y d at e k = refl
there_same g (x ∷ xs) zero y d at e zero = e ∙ ap (λ p. (g p).there) at
there_same g (x ∷ xs) zero y d at e (suc k) = refl
there_same g (x ∷ xs) (suc i) y d at e zero = refl
there_same g (x ∷ xs) (suc i) y d at e (suc k) = there_same g xs i y d at e k
