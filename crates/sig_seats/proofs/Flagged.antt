-- Flags of listed seats.
use Rattle.std.proofs.Common.{◌≡◌, ℕ, zero, suc, ◌+◌, ◌<◌, ◌≤◌, ◌==◌, ◌||◌, ◌&&◌, not, Bool, true, false, if◌then◌else◌, List, [], ◌∷◌, ◌++◌, length, length-append, drop, refl, sym, ap, ◌∙◌, arith, ◌⊎◌, inl, inr, true≢false}
use Rattle.std.specs.Prelude.{get_or, replicate, slice_set, slice_index_or}
use Rattle.std.proofs.lemmas.Bool.{eqb-true, eq-eqb}
use Rattle.sig_base.specs.declared.limits.TheConstants.{MOST_NODES}
use Rattle.signal_model.specs.Signals.{is_in}
use Rattle.signal_model.proofs.Shared.{tested}
use Rattle.sig_seats.specs.Flags.{count_down, is_up, AreReached}

-- ---- flags

set_here : (t : List Bool) (d : ℕ) → d < length t → is_up (slice_set t d true) d ≡ true
set_here [] d h = absurd (omega arith)
set_here (x ∷ xs) zero h = refl
set_here (x ∷ xs) (suc d) h = let l : d < length xs = omega arith in set_here xs d l

set_size : (t : List Bool) (d : ℕ) → length (slice_set t d true) ≡ length t
set_size [] d = refl
set_size (x ∷ xs) zero = refl
set_size (x ∷ xs) (suc d) = ap suc (set_size xs d)

set_fewer : (t : List Bool) (d : ℕ) → d < length t → is_up t d ≡ false → count_down (slice_set t d true) + 1 ≡ count_down t
set_fewer [] d l h = absurd (omega arith)
set_fewer (true ∷ xs) zero l h = cc
set_fewer (false ∷ xs) zero l h = omega arith
set_fewer (true ∷ xs) (suc d) l h = let k : d < length xs = omega arith in omega (arith, set_fewer xs d k h)
set_fewer (false ∷ xs) (suc d) l h = let k : d < length xs = omega arith in omega (arith, set_fewer xs d k h)

-- all flags are down at first
pub flags_down : (k s : ℕ) → is_up (replicate k false) s ≡ false
flags_down zero s = refl
flags_down (suc k) zero = refl
flags_down (suc k) (suc s) = flags_down k s

other_flag : (t : List Bool) (d s : ℕ) (b : Bool) → (s ≡ d → ⊥) → is_up (slice_set t d b) s ≡ is_up t s
other_flag [] d s b ne = refl
other_flag (x ∷ xs) zero zero b ne = absurd (ne refl)
other_flag (x ∷ xs) zero (suc s) b ne = refl
other_flag (x ∷ xs) (suc d) zero b ne = refl
other_flag (x ∷ xs) (suc d) (suc s) b ne = other_flag xs d s b (λ e. ne (ap suc e))

flag_down : (t : List Bool) (d : ℕ) → is_up (slice_set t d false) d ≡ false
flag_down [] d = refl
flag_down (x ∷ xs) zero = refl
flag_down (x ∷ xs) (suc d) = flag_down xs d

pub down_size : (t : List Bool) (d : ℕ) → length (slice_set t d false) ≡ length t
down_size [] d = refl
down_size (x ∷ xs) zero = refl
down_size (x ∷ xs) (suc d) = ap suc (down_size xs d)

-- past the last flag none is up
pub flag_past : (t : List Bool) (s : ℕ) → length t ≤ s → is_up t s ≡ false
flag_past [] s l = refl
flag_past (x ∷ xs) zero l = absurd (omega arith)
flag_past (x ∷ xs) (suc s) l = let k : length xs ≤ s = omega arith in flag_past xs s k

-- a flag that is read
pub flag_read : (t : List Bool) (s : ℕ) (b : Bool) → s < length t → b ≡ slice_index_or t s b → b ≡ is_up t s
flag_read [] s b l e = absurd (omega arith)
flag_read (x ∷ xs) zero b l e = e
flag_read (x ∷ xs) (suc s) b l e = let k : s < length xs = omega arith in flag_read xs s b k e

pub flag_inside : (t : List Bool) (s : ℕ) → is_up t s ≡ true → s < length t
flag_inside [] s up = cc
flag_inside (x ∷ xs) zero up = omega arith
flag_inside (x ∷ xs) (suc s) up = omega (arith, flag_inside xs s up)

-- as many are down as there are, where none is up
all_down : (t : List Bool) → ((s : ℕ) → is_up t s ≡ false) → count_down t ≡ length t
all_down [] h = refl
all_down (x ∷ xs) h = (λ i. (if h 0 i then 0 else 1) + all_down xs (λ s. h (suc s)) i) ∙ more (length xs)
  where
    more : (n : ℕ) → 1 + n ≡ suc n
    more n = omega arith

same_or_not : (s d : ℕ) → (s ≡ d) ⊎ (((s == d) ≡ false) × (s ≡ d → ⊥))
same_or_not s d = elim (tested (s == d)) [
  | inl e ↦ inl (eqb-true s d e)
  | inr e ↦ inr (e, λ q. true≢false (sym (eq-eqb s d q) ∙ e))
]

off : (b : Bool) → (b && false) ≡ false
off true = refl
off false = refl

on : (b : Bool) → (b && true) ≡ b
on true = refl
on false = refl

-- ---- listed seats

-- a list with one more at its end
pub in_more : (s : ℕ) (xs : List ℕ) (y : ℕ) → is_in s (xs ++ y ∷ []) ≡ (is_in s xs || (s == y))
in_more s [] y = go (s == y)
  where
    go : (b : Bool) → (b || false) ≡ b
    go true = refl
    go false = refl
in_more s (x ∷ xs) y = ap (λ r. s == x || r) (in_more s xs y) ∙ sym (assoc (s == x) (is_in s xs) (s == y))
  where
    assoc : (a b c : Bool) → ((a || b) || c) ≡ (a || (b || c))
    assoc true b c = refl
    assoc false b c = refl

pub in_get : (ss : List ℕ) (i : ℕ) → i < length ss → is_in (get_or ss i 0) ss ≡ true
in_get [] i l = absurd (omega arith)
in_get (s ∷ ss) zero l = ap (λ b. b || is_in s ss) (eq-eqb s s refl)
in_get (s ∷ ss) (suc i) l = let k : i < length ss = omega arith in later (get_or ss i 0 == s) (is_in (get_or ss i 0) ss) (in_get ss i k)
  where
    later : (a b : Bool) → b ≡ true → (a || b) ≡ true
    later true b q = refl
    later false b q = q

in_step : (s : ℕ) (ss : List ℕ) (i : ℕ) → i < length ss → is_in s (drop i ss) ≡ (s == get_or ss i 0 || is_in s (drop (i + 1) ss))
in_step s [] i l = absurd (omega arith)
in_step s (r ∷ ss) zero l = refl
in_step s (r ∷ ss) (suc i) l =
    let k : i < length ss = omega arith in
    let e : suc i + 1 ≡ suc (i + 1) = omega arith in
    rw e (in_step s ss i k)

-- the flag of one seat more is taken down
pub lowered_step : (t : List Bool) (ss : List ℕ) (i s : ℕ) → i < length ss →
    (is_up (slice_set t (get_or ss i 0) false) s && not (is_in s (drop (i + 1) ss))) ≡ (is_up t s && not (is_in s (drop i ss)))
lowered_step t ss i s l = elim (same_or_not s (get_or ss i 0)) [
  | inl e ↦
      ap (λ b. b && not (is_in s (drop (i + 1) ss))) (ap (is_up (slice_set t (get_or ss i 0) false)) e ∙ flag_down t (get_or ss i 0))
      ∙ sym (off (is_up t s))
      ∙ ap (λ b. is_up t s && not (b || is_in s (drop (i + 1) ss))) (sym (eq-eqb s (get_or ss i 0) e))
      ∙ ap (λ b. is_up t s && not b) (sym (in_step s ss i l))
  | inr q ↦
      ap (λ b. b && not (is_in s (drop (i + 1) ss))) (other_flag t (get_or ss i 0) s false q.1)
      ∙ ap (λ b. is_up t s && not (b || is_in s (drop (i + 1) ss))) (sym q.0)
      ∙ ap (λ b. is_up t s && not b) (sym (in_step s ss i l))
]

-- all of them are down
pub lowered_end : (b : Bool) (s : ℕ) (ss : List ℕ) (i : ℕ) → length ss ≤ i → (b && not (is_in s (drop i ss))) ≡ b
lowered_end b s [] zero l = on b
lowered_end b s [] (suc i) l = on b
lowered_end b s (r ∷ ss) zero l = absurd (omega arith)
lowered_end b s (r ∷ ss) (suc i) l = let k : length ss ≤ i = omega arith in lowered_end b s ss i k

-- no seats
pub none_reached : (t : List Bool) (capacity : ℕ) → length t ≡ MOST_NODES → ((s : ℕ) → is_up t s ≡ false) → MOST_NODES ≤ capacity → AreReached t [] capacity
none_reached t capacity size down room = record {
  size = size;
  up = down;
  count = let u : count_down t ≡ length t = all_down t down in omega (arith, u, size);
  room = room;
}

-- once the flags of all listed seats are down
pub cleared : (t u : List Bool) (ss : List ℕ) (capacity : ℕ) → AreReached t ss capacity → length u ≡ length t → ((s : ℕ) → is_up u s ≡ (is_up t s && not (is_in s ss))) → AreReached u [] capacity
cleared t u ss capacity h size lowered =
    none_reached u capacity (size ∙ h.size) (λ s. lowered s ∙ ap (λ b. b && not (is_in s ss)) (h.up s) ∙ go (is_in s ss)) h.room
  where
    go : (b : Bool) → (b && not b) ≡ false
    go true = refl
    go false = refl

-- the flag of a seat that isn't listed is down
fresh_down : (t : List Bool) (ss : List ℕ) (capacity d : ℕ) → AreReached t ss capacity → is_in d ss ≡ false → is_up t d ≡ false
fresh_down t ss capacity d h off = h.up d ∙ off

-- so there is room for it
pub room_more : (t : List Bool) (ss : List ℕ) (capacity d : ℕ) → AreReached t ss capacity → d < MOST_NODES → is_in d ss ≡ false → length ss + 1 ≤ MOST_NODES
room_more t ss capacity d h inside off =
    let size : length t ≡ MOST_NODES = h.size in
    let fewer : count_down (slice_set t d true) + 1 ≡ count_down t = set_fewer t d (omega (arith, size, inside)) (fresh_down t ss capacity d h off) in
    let count : length ss + count_down t ≡ MOST_NODES = h.count in
    omega (arith, fewer, count)

-- one seat more
pub reached_more : (t : List Bool) (ss : List ℕ) (capacity room d : ℕ) → AreReached t ss capacity → d < MOST_NODES → is_in d ss ≡ false → capacity ≤ room → AreReached (slice_set t d true) (ss ++ d ∷ []) room
reached_more t ss capacity room d h inside off more = record {
  size = set_size t d ∙ h.size;
  up = λ s. up s (same_or_not s d);
  count =
      let fewer : count_down (slice_set t d true) + 1 ≡ count_down t = set_fewer t d in_table (fresh_down t ss capacity d h off) in
      let len : length (ss ++ d ∷ []) ≡ length ss + 1 = length-append ss (d ∷ []) in
      let count : length ss + count_down t ≡ MOST_NODES = h.count in
      omega (arith, fewer, len, count);
  room = let r : MOST_NODES ≤ capacity = h.room in omega (arith, r, more);
}
  where
    in_table : d < length t
    in_table = let size : length t ≡ MOST_NODES = h.size in omega (arith, size, inside)

    last : (a b : Bool) → b ≡ true → (a || b) ≡ true
    last true b q = refl
    last false b q = q

    none : (a : Bool) → (a || false) ≡ a
    none true = refl
    none false = refl

    up : (s : ℕ) → (s ≡ d) ⊎ (((s == d) ≡ false) × (s ≡ d → ⊥)) → is_up (slice_set t d true) s ≡ is_in s (ss ++ d ∷ [])
    up s (inl e) = ap (is_up (slice_set t d true)) e ∙ set_here t d in_table ∙ sym (in_more s ss d ∙ last (is_in s ss) (s == d) (eq-eqb s d e))
    up s (inr q) = other_flag t d s true q.1 ∙ h.up s ∙ sym (in_more s ss d ∙ ap (λ b. is_in s ss || b) q.0 ∙ none (is_in s ss))
