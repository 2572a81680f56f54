-- What spells a line is read as it.
use Rattle.std.proofs.Common.{◌≡◌, ℕ, ◌-◌, Bool, true, false, List, [], ◌∷◌, ◌++◌, length, Option, Some, None, codes, refl, sym, ap, subst, ◌∙◌, arith, inl, inr}
use Rattle.std.specs.Prelude.{IfSome, ◌||◌, not}
use Rattle.std.specs.Str.{bytes_eq}
use Rattle.std.proofs.lemmas.Slice.Eq.{bytes_eq-Decides}
use Rattle.std.proofs.lemmas.Bool.{and_parts, cases_Bool}
use Rattle.std.proofs.lemmas.List.{append-nil, length-append, length-map, map-append}
use Rattle.std.proofs.Math.Seq.{drop-append_seam}
use Rattle.sig_base.specs.declared.scalar.Scalar.{Scalar}
use Rattle.sig_base.specs.declared.scalar.Scalar.TheVariants as scalar
use Rattle.sig_words.specs.Lexemes.{Lexeme, word, symbol}
use Rattle.formula_text.specs.Signs.{Sign, signs, sign}
use Rattle.formula_text.specs.Signs as s
use Rattle.formula_text.specs.Grammar.{Draft, IsFormula, Spells as FormulaSigns}
use Rattle.formula_text.specs.Parser.{expr}
use Rattle.formula_text.proofs.Shared.{Stops, reads_front}
use Rattle.line_forms.specs.Forms.{One, name, value, key, count, tagged, Part, one, perhaps, many, listed, arguments, formula, fixed, part, Form, Of, Contents, Args, Says, SayEach, SayBehind, SayListed, SayPerhaps, SpellsPart, SpellsForm, token_of}
use Rattle.line_forms.specs.Reader.{same, scalar_of, one_of, read_perhaps, each_of, read_behind, read_opened, read_formula, read_part, read_form, is_operator, bars, avoids, is_open, is_clear, differ, is_other, apart}
use Rattle.line_forms.proofs.Soundness.{form_sound, said_sound}
use Rattle.line_forms.specs.Rows.{Language, rows_of, Said, Spells, Reaches, IsGrammar, first_of, said_of}

no_cons : (l : Lexeme) (ls : List Lexeme) → [] ≡ l ∷ ls → ⊥
no_cons l ls e = cc

not_true : (b : Bool) → not b ≡ true → b ≡ false
not_true true e = absurd cc
not_true false e = refl

bytes_self : (w : List ℕ) → bytes_eq w w ≡ true
bytes_self w = (bytes_eq-Decides w w).1 refl

-- ---- one token

scalar_complete : (v : Scalar) → scalar_of (token_of value v) ≡ Some v
scalar_complete (scalar.Bool true) = refl
scalar_complete (scalar.Bool false) = refl
scalar_complete (scalar.Int z) = refl
scalar_complete (scalar.Text t) = refl

one_complete : (o : One) (v : Of o) (l : Lexeme) → Says o v l → one_of o l ≡ Some v
one_complete name v l h = rw (h.written, h.good) refl
one_complete value v l h = rw h.written (scalar_complete v)
one_complete key v l h = rw h.written refl
one_complete count v l h = rw h.written refl
one_complete tagged v l h = rw h.written refl

-- what says something is no symbol
no_symbol : (o : One) (v : Of o) (l : Lexeme) (w : List ℕ) → Says o v l → same (symbol w) l ≡ false
no_symbol name v l w h = rw h.written refl
no_symbol value (scalar.Bool true) l w h = rw h.written refl
no_symbol value (scalar.Bool false) l w h = rw h.written refl
no_symbol value (scalar.Int z) l w h = rw h.written refl
no_symbol value (scalar.Text x) l w h = rw h.written refl
no_symbol key v l w h = rw h.written refl
no_symbol count v l w h = rw h.written refl
no_symbol tagged v l w h = rw h.written refl

-- ---- parts

-- whether a token with this property is first
abbrev pub first : (Lexeme → Bool) → List Lexeme → Bool
first q [] = false
first q (l ∷ ls) = q l

perhaps_complete : (w : List ℕ) (o : One) (v : Option (Of o)) (own rest : List Lexeme) → SayPerhaps w o v own → first (same (word w)) rest ≡ false → read_perhaps w o (own ++ rest) ≡ Some (v, rest)
perhaps_complete w o None own [] t h = rw t refl
perhaps_complete w o None own (l ∷ rest) t h = rw (t, h) refl
perhaps_complete w o (Some v) own rest t h = rw (t.1, bytes_self w, one_complete o v t.0 t.2) refl

each_complete : (o : One) (vs : List (Of o)) (ls : List Lexeme) → SayEach o vs ls → each_of o ls ≡ Some vs
each_complete o [] ls t = rw t refl
each_complete o (v ∷ vs) ls t = rw (t.2, one_complete o v t.0 t.3, each_complete o vs t.1 t.4) refl

many_complete : (o : One) (vs : List (Of o)) (own rest : List Lexeme) → SayEach o vs own → first (λ _. true) rest ≡ false → read_part (many o) (own ++ rest) ≡ Some (vs, rest)
many_complete o vs own [] t h = rw (append-nil own, each_complete o vs own t) refl
many_complete o vs own (l ∷ rest) t h = absurd cc

behind_complete : (o : One) (vs : List (Of o)) (own rest : List Lexeme) → SayBehind o vs own → read_behind o (own ++ rest) ≡ Some (vs, rest)
behind_complete o [] own [] t = rw t refl
behind_complete o [] own (l ∷ rest) t = rw t refl
behind_complete o (v ∷ vs) own rest t = rw (t.2, one_complete o v t.0 t.3, behind_complete o vs t.1 rest t.4) refl

opened_complete : (o : One) (vs : List (Of o)) (own rest : List Lexeme) → SayListed o vs own → read_opened o (own ++ rest) ≡ Some (vs, rest)
opened_complete o [] own rest t = rw t refl
opened_complete o (v ∷ vs) own rest t = rw (t.2, no_symbol o v t.0 (codes ")") t.3, one_complete o v t.0 t.3, behind_complete o vs t.1 rest t.4) refl

stops_sign : (x : Sign) (ss : List Sign) → is_operator x ≡ false → Stops 1 (x ∷ ss)
stops_sign (s.operator o) ss h = absurd cc
stops_sign _ ss h = tt

stops : (rest : List Lexeme) → first (bars formula) rest ≡ false → Stops 1 (signs rest)
stops [] h = tt
stops (l ∷ rest) h = stops_sign (sign l) (signs rest) h

formula_complete : (f : Draft) (own rest : List Lexeme) → IsFormula own f → first (bars formula) rest ≡ false → read_formula (own ++ rest) ≡ Some (f, rest)
unfolding read_formula
formula_complete f own rest t h =
    let cut = map-append sign own rest in
    let r = reads_front (signs own) (signs rest) f t (stops rest h) in
    let size : length (own ++ rest) ≡ length (signs own ++ signs rest) = sym (length-map (own ++ rest) sign) ∙ ap length cut in
    let read : expr (length (own ++ rest)) 0 (signs (own ++ rest)) ≡ Some (f, r.0, signs rest) = rw (size, cut) r.1 in
    let len = length-append own rest in
    let behind : length (own ++ rest) - length (signs rest) ≡ length own = omega (arith, length-map rest sign, len) in
    rw read (rw (behind, drop-append_seam own rest) refl)

pub part_complete : (p : Part) (v : Contents p) (own rest : List Lexeme) → SpellsPart p v own → first (bars p) rest ≡ false → read_part p (own ++ rest) ≡ Some (v, rest)
part_complete (one o) v own rest t h = rw (t.1, one_complete o v t.0 t.2) refl
part_complete (perhaps w o) v own rest t h = perhaps_complete w o v own rest t h
part_complete (many o) v own rest t h = many_complete o v own rest t h
part_complete (listed o) v own rest t h = rw (t.1, opened_complete o v t.0 rest t.2) refl
part_complete arguments v own rest t h = rw (t.0.1, opened_complete name v t.0.0 rest t.0.2, t.1) refl
part_complete formula v own rest t h = formula_complete v own rest t h

-- ---- forms

perhaps_first : (w : List ℕ) (o : One) (v : Option (Of o)) (own rest ls : List Lexeme) (q : Lexeme → Bool) → ls ≡ own ++ rest → SayPerhaps w o v own → q (word w) ≡ false → first q rest ≡ false → first q ls ≡ false
perhaps_first w o None own rest ls q e t h k = rw (e, t) k
perhaps_first w o (Some v) own rest ls q e t h k = rw (e, t.1) h

avoids_first : (q : Lexeme → Bool) (ps : Form) (a : Args ps) (ls : List Lexeme) → SpellsForm ps a ls → avoids q ps ≡ true → first q ls ≡ false
avoids_first q [] a ls t h = rw t refl
avoids_first q (fixed l ∷ ps) a ls t h = rw t.1 (not_true (q l) h)
avoids_first q (part (one o) ∷ ps) a ls t h = absurd cc
avoids_first q (part (many o) ∷ ps) a ls t h = absurd cc
avoids_first q (part (listed o) ∷ ps) a ls t h = absurd cc
avoids_first q (part arguments ∷ ps) a ls t h = absurd cc
avoids_first q (part formula ∷ ps) a ls t h = absurd cc
avoids_first q (part (perhaps w o) ∷ ps) a ls t h =
    let both = and_parts (not (q (word w))) (avoids q ps) h in
    perhaps_first w o a.0 t.0 t.1 ls q t.2 t.3 (not_true (q (word w)) both.0) (avoids_first q ps a.1 t.1 t.4 both.1)

never : (ls : List Lexeme) → first (λ _. false) ls ≡ false
never [] = refl
never (l ∷ ls) = refl

halts : (p : Part) (ps : Form) (a : Args ps) (rest : List Lexeme) → SpellsForm ps a rest → (not (is_open p) || avoids (bars p) ps) ≡ true → first (bars p) rest ≡ false
halts (one o) ps a rest t h = never rest
halts (perhaps w o) ps a rest t h = avoids_first (bars (perhaps w o)) ps a rest t h
halts (many o) ps a rest t h = avoids_first (bars (many o)) ps a rest t h
halts (listed o) ps a rest t h = never rest
halts arguments ps a rest t h = never rest
halts formula ps a rest t h = avoids_first (bars formula) ps a rest t h

pub form_complete : (ps : Form) (a : Args ps) (ls : List Lexeme) → SpellsForm ps a ls → is_clear ps ≡ true → read_form ps ls ≡ Some a
form_complete [] a ls t h = rw t refl
form_complete (fixed l ∷ ps) a ls t h =
    let both = and_parts (same l l) (is_clear ps) h in
    rw (t.1, both.0) (form_complete ps a t.0 t.2 both.1)
form_complete (part p ∷ ps) a ls t h =
    let both = and_parts (not (is_open p) || avoids (bars p) ps) (is_clear ps) h in
    rw (t.2, part_complete p a.0 t.0 t.1 t.3 (halts p ps a.1 t.1 t.4 both.0), form_complete ps a.1 t.1 t.4 both.1) refl

-- ---- rows

heads : (l m : Lexeme) (ls ms : List Lexeme) → l ∷ ls ≡ m ∷ ms → (l ≡ m) × (ls ≡ ms)
heads l m ls ms e = (cc, cc)

differ_sound : (l m : Lexeme) → differ l m ≡ true → l ≡ m → ⊥
differ_sound (word a) (word b) e f = let g : a ≡ b = cc in let h : bytes_eq a b ≡ true = (bytes_eq-Decides a b).1 g in absurd cc
differ_sound (symbol a) (symbol b) e f = let g : a ≡ b = cc in let h : bytes_eq a b ≡ true = (bytes_eq-Decides a b).1 g in absurd cc
differ_sound _ _ e f = absurd cc

other_begins : (l : Sign) (ss : List Sign) (x : Draft) → FormulaSigns (l ∷ ss) x → is_other l ≡ true → ⊥
unfolding expr
other_begins s.other ss x t h = let r = reads_front (s.other ∷ ss) [] x t tt in let e = r.1 in absurd cc
other_begins _ ss x t h = absurd cc

formula_some : (x : Draft) → FormulaSigns [] x → ⊥
unfolding expr
formula_some x t = let r = reads_front [] [] x t tt in let e = r.1 in absurd cc

no_formula : (l : Lexeme) (ls own rest : List Lexeme) (x : Draft) → is_other (sign l) ≡ true → l ∷ ls ≡ own ++ rest → IsFormula own x → ⊥
no_formula l ls [] rest x h e t = formula_some x t
no_formula l ls (k ∷ own) rest x h e t = let f = heads l k ls (own ++ rest) e in other_begins (sign k) (signs own) x t (ap (λ (m : Lexeme). is_other (sign m)) (sym f.0) ∙ h)

-- forms that are apart have no line in common
apart_sound : (ps qs : Form) (a : Args ps) (b : Args qs) (ls : List Lexeme) → apart ps qs ≡ true → SpellsForm ps a ls → SpellsForm qs b ls → ⊥
apart_sound [] (fixed m ∷ qs) a b ls e t u = no_cons m u.0 (sym t ∙ u.1)
apart_sound [] (part (one q) ∷ qs) a b ls e t u = no_cons u.3.0 u.1 (sym t ∙ u.2 ∙ ap (λ (own : List Lexeme). own ++ u.1) u.3.1)
apart_sound (fixed l ∷ ps) (fixed m ∷ qs) a b ls e t u =
    let f = heads l m t.0 u.0 (sym t.1 ∙ u.1) in
    elim (cases_Bool (differ l m)) [
      | inl g ↦ differ_sound l m g f.0
      | inr g ↦ apart_sound ps qs a b t.0 (rw g at e) t.2 (subst (λ (rest : List Lexeme). SpellsForm qs b rest) (sym f.1) u.2)
    ]
apart_sound (part (one o) ∷ ps) (part (one q) ∷ qs) a b ls e t u =
    let left : ls ≡ t.3.0 ∷ t.1 = t.2 ∙ ap (λ (own : List Lexeme). own ++ t.1) t.3.1 in
    let right : ls ≡ u.3.0 ∷ u.1 = u.2 ∙ ap (λ (own : List Lexeme). own ++ u.1) u.3.1 in
    let f = heads t.3.0 u.3.0 t.1 u.1 (sym left ∙ right) in
    apart_sound ps qs a.1 b.1 t.1 e t.4 (subst (λ (rest : List Lexeme). SpellsForm qs b.1 rest) (sym f.1) u.4)
apart_sound (fixed l ∷ ps) (part formula ∷ qs) a b ls e t u = no_formula l t.0 u.0 u.1 b.0 e (sym t.1 ∙ u.2) u.3
apart_sound _ _ a b ls e t u = absurd cc

-- what is read as a form that is apart is nothing
apart_reads : (ps qs : Form) (b : Args qs) (ls : List Lexeme) → apart ps qs ≡ true → SpellsForm qs b ls → read_form ps ls ≡ None
apart_reads ps qs b ls e t = at (read_form ps ls) (form_sound ps ls)
  where
    at : (o : Option (Args ps)) → IfSome o (λ a. SpellsForm ps a ls) → o ≡ None
    at None h = refl
    at (Some a) h = absurd (apart_sound ps qs a b ls e h t)

first_complete : (language : Language) (r : language.Row) (a : Args (language.row r).1) (us : List language.Row) (ls : List Lexeme) → is_clear (language.row r).1 ≡ true → Reaches language r us
    → SpellsForm (language.row r).1 a ls → first_of language us ls ≡ Some (r, a)
first_complete language r a [] ls c h t = absurd h
first_complete language r a (u ∷ us) ls c (inl e) t =
    subst (λ (v : language.Row). first_of language (v ∷ us) ls ≡ Some (r, a)) (sym e) (rw (form_complete (language.row r).1 a ls t c) refl)
first_complete language r a (u ∷ us) ls c (inr h) t = rw (apart_reads (language.row u).1 (language.row r).1 a ls h.0 t) (first_complete language r a us ls c h.1 t)

-- what spells a line is read as it
pub said_complete : (language : Language) → IsGrammar language → (x : Said language) (ls : List Lexeme) → Spells language x ls
    → said_of language ls ≡ Some x
said_complete language g x ls t = rw t.1 (first_complete language x.0 x.1 (rows_of (language.row x.0).0 language.table) t.0 (g.clear x.0) (g.reached x.0) t.2)

-- what is read as a line spells it
pub said_spells : (language : Language) → IsGrammar language → (x : Said language) (ls : List Lexeme) → said_of language ls ≡ Some x
    → Spells language x ls
said_spells language g x ls e = subst (λ (o : Option (Said language)). IfSome o (λ y. Spells language y ls)) e (said_sound language ls g.begins)
