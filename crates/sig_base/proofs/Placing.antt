-- Few bytes in an array whose last one says how many they are.
use Rattle.std.proofs.Common.{◌≡◌, ℕ, ◌+◌, ◌-◌, ◌≤◌, List, [], ◌∷◌, ◌++◌, get_or, set, length, take, drop, replicate, refl, sym, ap, ◌∙◌, subst, arith, true, false, IsUtf8}
use Rattle.std.specs.Prelude.{nat_le, nat_lt}
use Rattle.std.specs.Str.{bytes_eq}
use Rattle.std.proofs.lemmas.Bool.{leb-true, ltb-true}
use Rattle.std.proofs.lemmas.List.{drop-replicate, get_or-append_right, get_or_at, length-replicate, replicate_more, set-append_right, set_at, take_at}
use Rattle.std.proofs.Math.Seq.{paste}
use Rattle.std.proofs.lemmas.List.Edits.{paste_all}
use Rattle.sig_base.proofs.Lengths.{unlike}
use Rattle.sig_base.specs.declared.chars.TheConstants.{FEW}
use Rattle.sig_base.specs.Placed.{IsPlaced, padded, placed}

-- so many zeros
abbrev zeros : ℕ → List ℕ
zeros n = replicate n 0

-- the last byte of the array in which bytes stand
count-padded : (last : ℕ) (text : List ℕ) → length text ≤ last → get_or (padded last text) last 0 ≡ length text
count-padded last text h =
    let n = length text in
    get_or-append_right text (zeros (last - n) ++ n ∷ []) n last 0 refl h
    ∙ get_or_at (zeros (last - n)) n [] 0 (last - n) (length-replicate (last - n) 0)

-- what stands in the array in which bytes stand
pub placed-padded : (last : ℕ) (text : List ℕ) → length text ≤ last → placed last (padded last text) ≡ text
placed-padded last text h =
    let n = length text in
    ap (λ k. take k (padded last text)) (count-padded last text h) ∙ take_at text (zeros (last - n) ++ n ∷ []) n refl

-- an array in which characters stand is in order
pub IsPlaced-padded : (last : ℕ) (text : List ℕ) → length text ≤ last → IsUtf8 text → IsPlaced last (padded last text)
IsPlaced-padded last text h u =
    let there = placed-padded last text h in
    record {
      few = subst (λ n. n ≤ last) (sym (count-padded last text h)) h;
      text = ∣ subst IsUtf8 (sym there) u ∣₁;
      whole = ap (padded last) (sym there);
    }

-- the zeros that are left behind as many
zeros_left : (last n : ℕ) → n ≤ last → drop n (zeros (last + 1)) ≡ zeros (last - n) ++ 0 ∷ []
zeros_left last n h =
    let is : last + 1 - n ≡ last - n + 1 = omega (arith, h) in
    drop-replicate n (last + 1) 0 ∙ (ap zeros is ∙ sym (replicate_more (last - n) 0))

-- those, once the last says how many they are left behind
counted_left : (last n : ℕ) → n ≤ last → set (drop n (zeros (last + 1))) (last - n) n ≡ zeros (last - n) ++ n ∷ []
counted_left last n h =
    ap (λ z. set z (last - n) n) (zeros_left last n h) ∙ set_at (zeros (last - n)) 0 [] n (last - n) (length-replicate (last - n) 0)

-- bytes in front of zeros, once the last place says how many they are
counted : (last : ℕ) (text : List ℕ) → length text ≤ last
    → set (text ++ drop (length text) (zeros (last + 1))) last (length text) ≡ padded last text
counted last text h =
    set-append_right text (drop (length text) (zeros (last + 1))) (length text) last (length text) refl h
    ∙ ap (λ z. text ++ z) (counted_left last (length text) h)

-- bytes that were written over zeros, once the last place says how many they are
pub counted_all : (last : ℕ) (text array : List ℕ) (n : ℕ) → length text ≤ last → n ≡ length text
    → array ≡ paste (zeros (last + 1)) 0 text n → set array last (length text) ≡ padded last text
counted_all last text array n h is from =
    let d : List ℕ = zeros (last + 1) in
    let whole : 0 + n ≡ length text = omega (arith, is) in
    let here : array ≡ text ++ drop (length text) d = from ∙ (paste_all d 0 text n is ∙ ap (λ m. text ++ drop m d) whole) in
    ap (λ a. set a last (length text)) here ∙ counted last text h

-- arrays in which the same bytes stand are the same
pub same_whole : (last : ℕ) (a b : List ℕ) → IsPlaced last a → IsPlaced last b → placed last a ≡ placed last b → a ≡ b
same_whole last a b h k e = h.whole ∙ (ap (padded last) e ∙ sym k.whole)

-- few bytes are none that are too many to stand in place
pub few_other : (few others : List ℕ) → nat_le (length few) FEW ≡ true → nat_lt FEW (length others) ≡ true → bytes_eq few others ≡ false
few_other few others h k = unlike few others (λ e. absurd (omega (arith, e, leb-true (length few) FEW h, ltb-true FEW (length others) k)))

-- nor are those few
pub other_few : (few others : List ℕ) → nat_le (length few) FEW ≡ true → nat_lt FEW (length others) ≡ true → bytes_eq others few ≡ false
other_few few others h k = unlike others few (λ e. absurd (omega (arith, e, leb-true (length few) FEW h, ltb-true FEW (length others) k)))
