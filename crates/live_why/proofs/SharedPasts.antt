-- So many facts, and one more.
use Rattle.std.proofs.Common.{◌≡◌, ℕ, ◌+◌, ◌<◌, ◌≤◌, List, [], ◌∷◌, ◌++◌, map, reverse, length, get_or, take, drop, refl, sym, ap, ◌∙◌, arith}
use Rattle.std.proofs.lemmas.List.{take_more, take_all, map-append, reverse-append, length-reverse, length-map, length-take-le, take-append-drop}
use Rattle.live_why.specs.declared.facts.Fact.{Fact}
use Rattle.live_why.specs.Views.{fact_of, facts_of, past}

-- with one more, that comes first
pub past-more : (fs : List Fact) (i : ℕ) (f : Fact) → i < length fs → f ≡ get_or fs i f → past fs (i + 1) ≡ fact_of f ∷ past fs i
unfolding past
past-more fs i f h e =
    ap (λ xs. reverse (map fact_of xs)) (take_more fs i f h)
    ∙ ap reverse (map-append fact_of (take i fs) (get_or fs i f ∷ []))
    ∙ reverse-append (map fact_of (take i fs)) (fact_of (get_or fs i f) ∷ [])
    ∙ ap (λ x. fact_of x ∷ reverse (map fact_of (take i fs))) (sym e)

-- none
pub past-none : (fs : List Fact) → past fs 0 ≡ []
unfolding past
past-none fs = refl

-- all of them
pub past-all : (fs : List Fact) → past fs (length fs) ≡ reverse (facts_of fs)
unfolding past
past-all fs = ap (λ xs. reverse (map fact_of xs)) (take_all (length fs) fs (omega arith))

-- how many they are
pub length-past : (fs : List Fact) (i : ℕ) → i ≤ length fs → length (past fs i) ≡ i
unfolding past
length-past fs i h = length-reverse (map fact_of (take i fs)) ∙ length-map (take i fs) fact_of ∙ length-take-le i fs h

-- those before others are the last of them
pub past-part : (fs : List Fact) (i : ℕ) → past fs (length fs) ≡ reverse (map fact_of (drop i fs)) ++ past fs i
unfolding past
past-part fs i =
    past-all fs
    ∙ ap (λ xs. reverse (map fact_of xs)) (sym (take-append-drop i fs))
    ∙ ap reverse (map-append fact_of (take i fs) (drop i fs))
    ∙ reverse-append (map fact_of (take i fs)) (map fact_of (drop i fs))
