-- Where the first LF stands, and what a line's first byte says of its first word.
use Rattle.std.proofs.Common.{◌≡◌, ℕ, suc, ◌+◌, ◌<◌, ◌==◌, ◌||◌, Bool, true, false, cond, nat_lt, List, [], ◌∷◌, length, refl, sym, ap, ◌∙◌, arith, inl, inr}
use Rattle.std.specs.Prelude.{codes, get_or, slice_index, Option, Some, None}
use Rattle.std.specs.List.{position, position_or_len, prefix_len, take_while}
use Rattle.std.specs.Str.{bytes_eq}
use Rattle.std.proofs.lemmas.Bool.{cases_Bool, eq-eqb, le-ltb, lt-ltb}
use Rattle.std.proofs.lemmas.List.Sums.{position_or_len_is}
use Rattle.std.proofs.lemmas.Slice.Eq.{bytes_eq-Decides}
use Rattle.memchr.specs.Find.{IsFirstByte}
use Rattle.sig_base.specs.Words.{begins_word, in_word}
use Rattle.script_lines.specs.Lines.{behind_blanks, front_word}
use Rattle.script_lines.specs.Pieces.{begins_block, fronts_block}

not_true : (b : Bool) → (b ≡ true → ⊥) → b ≡ false
not_true true h = absurd (h refl)
not_true false h = refl

-- the first byte that passes is where it passes first
pub first_is : (p : ℕ → Bool) (bs : List ℕ) (r : Option ℕ) → IsFirstByte p bs r → r ≡ position p bs
first_is p bs None none =
    let at : position_or_len p bs ≡ length bs =
    position_or_len_is p bs (length bs) 0 (omega arith) (λ k l. not_true (p (get_or bs k 0)) (none k (omega arith) l)) (λ l. absurd (omega (arith, l))) in
    sym (ap (λ n. cond (nat_lt n (length bs)) (Some n) None) at ∙ ap (λ b. cond b (Some (length bs)) None) (le-ltb (length bs) (length bs) (omega arith)))
first_is p bs (Some n) h =
    let high : n < length bs = h.0.high in
    let at : position_or_len p bs ≡ n =
    position_or_len_is p bs n 0 (omega (arith, high)) (λ k l. not_true (p (get_or bs k 0)) (h.0.before k (omega arith) l)) (λ l. h.1) in
    sym (ap (λ m. cond (nat_lt m (length bs)) (Some m) None) at ∙ ap (λ b. cond b (Some n) None) (lt-ltb n (length bs) high))

-- the word at the front is nothing, or begins with the first byte
taken : (b c : ℕ) (bs w : List ℕ) → take_while in_word (b ∷ bs) ≡ c ∷ w → b ≡ c
taken b c bs w = elim (cases_Bool (in_word b)) [
  | inl e ↦
      let next : 1 + prefix_len in_word bs ≡ suc (prefix_len in_word bs) = omega arith in
      rw (e, next) (λ h. ap (λ l. get_or l 0 c) h)
  | inr e ↦ rw e (λ h. absurd (nothing h))
]
  where
    nothing : [] ≡ c ∷ w → ⊥
    nothing h = cc

fronted : (b c : ℕ) (bs w : List ℕ) → front_word (b ∷ bs) ≡ c ∷ w → b ≡ c
fronted b c bs w = elim (cases_Bool (begins_word b)) [
  | inl e ↦ rw e (taken b c bs w)
  | inr e ↦ rw e (λ h. absurd (nothing h))
]
  where
    nothing : [] ≡ c ∷ w → ⊥
    nothing h = cc

unlike : (b c : ℕ) (bs w : List ℕ) → (b == c) ≡ false → bytes_eq (front_word (b ∷ bs)) (c ∷ w) ≡ false
unlike b c bs w apart = elim (cases_Bool (bytes_eq (front_word (b ∷ bs)) (c ∷ w))) [
  | inl e ↦ absurd (differ (fronted b c bs w ((bytes_eq-Decides (front_word (b ∷ bs)) (c ∷ w)).0 e)))
  | inr e ↦ e
]
  where
    differ : b ≡ c → ⊥
    differ h = no (sym (eq-eqb b c h) ∙ apart)
      where
        no : true ≡ false → ⊥
        no q = cc

-- nothing begins no block
pub none_begins : (line : List ℕ) → behind_blanks line ≡ [] → begins_block line ≡ false
unfolding begins_block
none_begins line h = ap (λ l. bytes_eq (front_word l) (codes "effect") || bytes_eq (front_word l) (codes "template") || bytes_eq (front_word l) (codes "on")) h

parts : (x y z : Bool) → (x || y || z) ≡ false → (x ≡ false) × (y ≡ false) × (z ≡ false)
parts false false false h = (refl, refl, refl)
parts true y z h = absurd cc
parts false true z h = absurd cc
parts false false true h = absurd cc

-- nor does what begins with another letter
pub other_begins : (rest line : List ℕ) → fronts_block (slice_index rest 0) ≡ false → behind_blanks line ≡ rest → begins_block line ≡ false
unfolding begins_block
other_begins [] line other h = none_begins line h
other_begins (b ∷ bs) line other h =
    let each = parts (b == 101) (b == 116) (b == 111) other in
    ap (λ l. bytes_eq (front_word l) (codes "effect") || bytes_eq (front_word l) (codes "template") || bytes_eq (front_word l) (codes "on")) h
    ∙ (λ i. unlike b 101 bs (codes "ffect") each.0 i || unlike b 116 bs (codes "emplate") each.1 i || unlike b 111 bs (codes "n") each.2 i)
