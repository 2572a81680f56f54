-- What stands between parentheses, one after the other.
use Rattle.std.proofs.Common.{◌≡◌, List, [], ◌∷◌, ◌++◌, Option, Some, None, option_map, option_and_then, codes, refl, sym, ap, ◌∙◌, append_assoc, inl, inr}
use Rattle.std.proofs.lemmas.List.{append-nil}
use Rattle.std.proofs.lemmas.Option.{same_Some}
use Rattle.std.proofs.lemmas.Bool.{cases_Bool}
use Rattle.sig_words.specs.Lexemes.{Lexeme, symbol}
use Rattle.line_forms.specs.Forms.{One, Of}
use Rattle.line_forms.specs.Reader.{each_of, one_of, same, read_fixed, read_one, read_behind, read_listed, read_opened, with_first}
use Rattle.line_forms.proofs.Soundness.{is_same}

comma : (ls rest : List Lexeme) → Some rest ≡ read_fixed (symbol (codes ",")) ls → ls ≡ symbol (codes ",") ∷ rest
comma [] rest e = absurd cc
comma (l ∷ ls) rest e = elim (cases_Bool (same (symbol (codes ",")) l)) [
  | inl h ↦ let f : Some rest ≡ Some ls = e ∙ rw h refl in let g : ls ≡ rest = cc in rw (is_same (symbol (codes ",")) l h, g) refl
  | inr h ↦ let f : Some rest ≡ None = e ∙ rw h refl in absurd cc
]

of_read : (o : One) (ls rest2 : List Lexeme) (n : Of o) → Some (n, rest2) ≡ read_one o ls
    → read_behind o (symbol (codes ",") ∷ ls) ≡ option_map (with_first n) (read_behind o rest2)
of_read o [] rest2 n e = absurd cc
of_read o (k ∷ ls) rest2 n e = at (one_of o k) refl
  where
    after : Of o → Option (Of o × List Lexeme)
    after m = Some (m, ls)

    of_pair : (m : Of o) → Some (n, rest2) ≡ after m → (n ≡ m) × (rest2 ≡ ls)
    of_pair m g =
        let other : Of o × List Lexeme = (m, ls) in
        let mine : Of o × List Lexeme = (n, rest2) in
        let p : mine ≡ other = same_Some mine other g in
        (ap (λ (q : Of o × List Lexeme). q.0) p, ap (λ (q : Of o × List Lexeme). q.1) p)

    same : (m : Of o) → one_of o k ≡ Some m → (n ≡ m) × (rest2 ≡ ls) → read_behind o (symbol (codes ",") ∷ k ∷ ls) ≡ option_map (with_first n) (read_behind o rest2)
    same m f p = rw (f, p.0, p.1) refl

    at : (x : Option (Of o)) → one_of o k ≡ x → read_behind o (symbol (codes ",") ∷ k ∷ ls) ≡ option_map (with_first n) (read_behind o rest2)
    at None f = let mine : Of o × List Lexeme = (n, rest2) in let g : Some mine ≡ None = e ∙ rw f refl in absurd cc
    at (Some m) f = same m f (of_pair m (e ∙ rw f refl))

of_unread : (o : One) (ls : List Lexeme) → None ≡ read_one o ls → read_behind o (symbol (codes ",") ∷ ls) ≡ None
of_unread o [] e = refl
of_unread o (k ∷ ls) e = at (one_of o k) refl
  where
    at : (x : Option (Of o)) → one_of o k ≡ x → read_behind o (symbol (codes ",") ∷ k ∷ ls) ≡ None
    at None f = rw f refl
    at (Some m) f = let other : Of o × List Lexeme = (m, ls) in let g : None ≡ Some other = e ∙ rw f refl in absurd cc

-- nothing is read, and these tokens are left
abbrev nothing_read : (o : One) → List Lexeme → List (Of o) × List Lexeme
nothing_read o rest = ([], rest)

no_comma : (o : One) (ls : List Lexeme) → None ≡ read_fixed (symbol (codes ",")) ls
    → read_behind o ls ≡ option_map (nothing_read o) (read_fixed (symbol (codes ")")) ls)
no_comma o [] e = refl
no_comma o (l ∷ []) e = elim (cases_Bool (same (symbol (codes ")")) l)) [ inl h ↦ rw h refl | inr h ↦ rw h refl ]
no_comma o (l ∷ k ∷ ls) e = elim (cases_Bool (same (symbol (codes ")")) l)) [
  | inl h ↦ rw h refl
  | inr h ↦ elim (cases_Bool (same (symbol (codes ",")) l)) [
    | inl g ↦ let f : None ≡ Some (k ∷ ls) = e ∙ rw g refl in absurd cc
    | inr g ↦ rw (h, g) refl
  ]
]

-- what was read so far, before what is read
abbrev pub behind_all : (o : One) → List (Of o) → List (Of o) × List Lexeme → List (Of o) × List Lexeme
behind_all o vs r = (vs ++ r.0, r.1)

-- what was read so far, and what is read, are the whole
abbrev pub Goes : (o : One) → List (Of o) → List Lexeme → Option (List (Of o) × List Lexeme) → Type 0
Goes o vs ls whole = option_map (behind_all o vs) (read_behind o ls) ≡ whole

pushed : (o : One) (vs : List (Of o)) (v : Of o) (x : Option (List (Of o) × List Lexeme))
    → option_map (behind_all o (vs ++ v ∷ [])) x ≡ option_map (behind_all o vs) (option_map (with_first v) x)
pushed o vs v None = refl
pushed o vs v (Some r) = ap (λ (ns : List (Of o)). Some (ns, r.1)) (append_assoc vs (v ∷ []) r.0)

pub goes : (o : One) (vs : List (Of o)) (v : Of o) (ls rest rest2 : List Lexeme) (whole : Option (List (Of o) × List Lexeme)) → Goes o vs ls whole
    → Some rest ≡ read_fixed (symbol (codes ",")) ls → Some (v, rest2) ≡ read_one o rest → Goes o (vs ++ v ∷ []) rest2 whole
goes o vs v ls rest rest2 whole h e f =
    pushed o vs v (read_behind o rest2) ∙ ap (option_map (behind_all o vs)) (sym (ap (read_behind o) (comma ls rest e) ∙ of_read o rest rest2 v f)) ∙ h

pub stops : (o : One) (vs : List (Of o)) (ls rest : List Lexeme) (whole : Option (List (Of o) × List Lexeme)) → Goes o vs ls whole
    → Some rest ≡ read_fixed (symbol (codes ",")) ls → None ≡ read_one o rest → None ≡ whole
stops o vs ls rest whole h e f = ap (option_map (behind_all o vs)) (sym (ap (read_behind o) (comma ls rest e) ∙ of_unread o rest f)) ∙ h

pub ends : (o : One) (vs : List (Of o)) (ls after : List Lexeme) (whole : Option (List (Of o) × List Lexeme)) → Goes o vs ls whole
    → None ≡ read_fixed (symbol (codes ",")) ls → Some after ≡ read_fixed (symbol (codes ")")) ls → Some (vs, after) ≡ whole
ends o vs ls after whole h e f =
    ap (λ (ns : List (Of o)). Some (ns, after)) (sym (append-nil vs))
    ∙ ap (option_map (behind_all o vs)) (ap (option_map (nothing_read o)) f ∙ sym (no_comma o ls e)) ∙ h

pub lacks : (o : One) (vs : List (Of o)) (ls : List Lexeme) (whole : Option (List (Of o) × List Lexeme)) → Goes o vs ls whole
    → None ≡ read_fixed (symbol (codes ",")) ls → None ≡ read_fixed (symbol (codes ")")) ls → None ≡ whole
lacks o vs ls whole h e f = ap (option_map (behind_all o vs)) (ap (option_map (nothing_read o)) f ∙ sym (no_comma o ls e)) ∙ h

-- ---- a list

-- a list begins with its parenthesis
pub unopened : (o : One) (ls : List Lexeme) → None ≡ read_fixed (symbol (codes "(")) ls → read_listed o ls ≡ None
unopened o [] e = refl
unopened o (l ∷ ls) e = elim (cases_Bool (same (symbol (codes "(")) l)) [
  | inl h ↦ let f : None ≡ Some ls = e ∙ rw h refl in absurd cc
  | inr h ↦ rw h refl
]

-- behind the parenthesis it goes on
opened : (o : One) (ls rest : List Lexeme) → Some rest ≡ read_fixed (symbol (codes "(")) ls → read_listed o ls ≡ read_opened o rest
opened o [] rest e = absurd cc
opened o (l ∷ ls) rest e = elim (cases_Bool (same (symbol (codes "(")) l)) [
  | inl h ↦ let f : Some rest ≡ Some ls = e ∙ rw h refl in let g : ls ≡ rest = cc in rw (h, g) refl
  | inr h ↦ let f : Some rest ≡ None = e ∙ rw h refl in absurd cc
]

at_end : (o : One) (ls rest : List Lexeme) → Some rest ≡ read_fixed (symbol (codes ")")) ls → read_opened o ls ≡ Some ([], rest)
at_end o [] rest e = absurd cc
at_end o (l ∷ ls) rest e = elim (cases_Bool (same (symbol (codes ")")) l)) [
  | inl h ↦ let f : Some rest ≡ Some ls = e ∙ rw h refl in let g : ls ≡ rest = cc in rw (h, g) refl
  | inr h ↦ let f : Some rest ≡ None = e ∙ rw h refl in absurd cc
]

-- a list without anything
pub empty_list : (o : One) (ls rest rest2 : List Lexeme) → Some rest ≡ read_fixed (symbol (codes "(")) ls
    → Some rest2 ≡ read_fixed (symbol (codes ")")) rest → read_listed o ls ≡ Some ([], rest2)
empty_list o ls rest rest2 e f = opened o ls rest e ∙ at_end o rest rest2 f

goes_on : (o : One) (ls : List Lexeme) → None ≡ read_fixed (symbol (codes ")")) ls → (x : Option (Of o × List Lexeme)) → x ≡ read_one o ls
    → read_opened o ls ≡ option_and_then (λ (r : Of o × List Lexeme). option_map (with_first r.0) (read_behind o r.1)) x
goes_on o [] e None f = refl
goes_on o [] e (Some r) f = absurd cc
goes_on o (l ∷ ls) e x f = elim (cases_Bool (same (symbol (codes ")")) l)) [
  | inl h ↦ let g : None ≡ Some ls = e ∙ rw h refl in absurd cc
  | inr h ↦ rw (h, f) (at (one_of o l))
]
  where
    at : (y : Option (Of o)) → option_and_then (λ v. option_map (with_first v) (read_behind o ls)) y
        ≡ option_and_then (λ (r : Of o × List Lexeme). option_map (with_first r.0) (read_behind o r.1)) (option_map (λ v. (v, ls)) y)
    at None = refl
    at (Some v) = refl

-- a list with a first
pub first_list : (o : One) (ls rest rest2 : List Lexeme) (v : Of o) → Some rest ≡ read_fixed (symbol (codes "(")) ls
    → None ≡ read_fixed (symbol (codes ")")) rest → Some (v, rest2) ≡ read_one o rest → read_listed o ls ≡ option_map (with_first v) (read_behind o rest2)
first_list o ls rest rest2 v e f g = opened o ls rest e ∙ goes_on o rest f (Some (v, rest2)) g

-- none that has neither
pub no_first : (o : One) (ls rest : List Lexeme) → Some rest ≡ read_fixed (symbol (codes "(")) ls
    → None ≡ read_fixed (symbol (codes ")")) rest → None ≡ read_one o rest → read_listed o ls ≡ None
no_first o ls rest e f g = opened o ls rest e ∙ goes_on o rest f None g

-- ---- what all tokens say

each_pushed : (o : One) (vs : List (Of o)) (v : Of o) (x : Option (List (Of o)))
    → option_map (λ ws. (vs ++ v ∷ []) ++ ws) x ≡ option_map (λ ws. vs ++ ws) (option_map (λ ws. v ∷ ws) x)
each_pushed o vs v None = refl
each_pushed o vs v (Some ws) = ap (λ (ns : List (Of o)). Some ns) (append_assoc vs (v ∷ []) ws)

-- one more of what all tokens say
pub each_goes : (o : One) (vs : List (Of o)) (v : Of o) (l : Lexeme) (ls : List Lexeme) (whole : Option (List (Of o)))
    → Some v ≡ one_of o l → option_map (λ ws. vs ++ ws) (each_of o (l ∷ ls)) ≡ whole → option_map (λ ws. (vs ++ v ∷ []) ++ ws) (each_of o ls) ≡ whole
each_goes o vs v l ls whole e h =
    each_pushed o vs v (each_of o ls)
    ∙ ap (λ (x : Option (Of o)). option_map (λ ws. vs ++ ws) (option_and_then (λ w. option_map (λ ws. w ∷ ws) (each_of o ls)) x)) e ∙ h
