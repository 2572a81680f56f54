-- What is read of tokens is spelled by them.
use Rattle.std.proofs.Common.{◌≡◌, ℕ, ◌+◌, ◌-◌, Bool, true, false, cond, List, [], ◌∷◌, ◌++◌, length, take, drop, Option, Some, None, option_map, codes, refl, sym, ap, ◌∙◌, arith, inl, inr}
use Rattle.std.specs.Prelude.{pos, negsuc, option_and_then, IfSome}
use Rattle.std.specs.Option.{option_or}
use Rattle.std.specs.Str.{bytes_eq}
use Rattle.std.specs.Cmp.Lexicographic.{same_text}
use Rattle.std.proofs.lemmas.Bool.{and_parts, cases_Bool}
use Rattle.std.proofs.lemmas.List.{length-append, append-nil, length-map, take-append-drop, map-append, drop-map, append_cancel_right}
use Rattle.std.proofs.Math.Seq.{drop-append_seam}
use Rattle.sig_base.specs.Words.{is_name}
use Rattle.sig_words.specs.Lexemes.{Lexeme, word, tag, number, literal, symbol}
use Rattle.formula_text.specs.Signs.{Sign, signs, sign}
use Rattle.formula_text.specs.Grammar.{IsFormula, spelled}
use Rattle.formula_text.specs.Parser.{Part as Run, expr}
use Rattle.formula_text.proofs.Shared.{Took as TookSigns, expr_sound}
use Rattle.line_forms.specs.Forms.{One, name, value, key, count, tagged, Part, one, perhaps, many, listed, arguments, formula, fixed, part, Form, Of, Says, SayEach, SayBehind, SayListed, SayPerhaps, are_distinct, SpellsPart, SpellsForm}
use Rattle.line_forms.specs.Reader.{same, scalar_of, name_of, key_of, count_of, tag_of, one_of, there, read_one, read_perhaps, each_of, with_first, read_behind, read_opened, read_listed, if_distinct, left_of, read_formula, read_part, read_fixed, read_form}
use Rattle.line_forms.specs.Rows.{Language, Table, rows_of, all_begin, each_begins, Said, Spells, first_of, said_of}

-- ---- what is there, if anything is

if_either : {A : Type 0} (b : Bool) (x y : Option A) (P : A → Type 0) → (b ≡ true → IfSome x P) → (b ≡ false → IfSome y P) → IfSome (cond b x y) P
if_either true x y P f g = f refl
if_either false x y P f g = g refl

if_mapped : {A B : Type 0} (o : Option A) (f : A → B) (P : A → Type 0) (Q : B → Type 0) → IfSome o P → ((a : A) → P a → Q (f a)) → IfSome (option_map f o) Q
if_mapped None f P Q h k = tt
if_mapped (Some a) f P Q h k = k a h

if_then : {A B : Type 0} (o : Option A) (f : A → Option B) (P : A → Type 0) (Q : B → Type 0) → IfSome o P → ((a : A) → P a → IfSome (f a) Q) → IfSome (option_and_then f o) Q
if_then None f P Q h k = tt
if_then (Some a) f P Q h k = k a h

if_same : {A : Type 0} (o : Option A) (P Q : A → Type 0) → IfSome o P → ((a : A) → P a → Q a) → IfSome o Q
if_same None P Q h k = tt
if_same (Some a) P Q h k = k a h

-- ---- one token

pub same_bytes : (a b : List ℕ) → bytes_eq a b ≡ true → a ≡ b
same_bytes a b e = same_text a b (sym e)

pub is_same : (m l : Lexeme) → same m l ≡ true → l ≡ m
is_same (word a) (word b) e = ap word (same_bytes b a e)
is_same (symbol a) (symbol b) e = ap symbol (same_bytes b a e)
is_same (word a) (tag b) e = absurd cc
is_same (word a) (number b) e = absurd cc
is_same (word a) (literal b) e = absurd cc
is_same (word a) (symbol b) e = absurd cc
is_same (symbol a) (tag b) e = absurd cc
is_same (symbol a) (number b) e = absurd cc
is_same (symbol a) (literal b) e = absurd cc
is_same (symbol a) (word b) e = absurd cc
is_same (tag a) l e = absurd cc
is_same (number a) l e = absurd cc
is_same (literal a) l e = absurd cc

name_says : (l : Lexeme) → IfSome (name_of l) (λ v. Says name v l)
name_says (word w) = if_either (is_name w) (Some w) None _ (λ h. record { written = refl; good = h }) (λ h. tt)
name_says (tag w) = tt
name_says (number z) = tt
name_says (literal w) = tt
name_says (symbol w) = tt

value_says : (l : Lexeme) → IfSome (scalar_of l) (λ v. Says value v l)
value_says (word w) =
    if_either (bytes_eq w (codes "true")) _ _ (λ v. Says value v (word w)) (λ h. record { written = ap word (same_bytes w (codes "true") h); good = refl })
    (λ _. if_either (bytes_eq w (codes "false")) _ _ (λ v. Says value v (word w)) (λ h. record { written = ap word (same_bytes w (codes "false") h); good = refl }) (λ _. tt))
value_says (tag w) = tt
value_says (number z) = record { written = refl; good = refl }
value_says (literal w) = record { written = refl; good = refl }
value_says (symbol w) = tt

key_says : (l : Lexeme) → IfSome (key_of l) (λ v. Says key v l)
key_says (word w) = tt
key_says (tag w) = tt
key_says (number z) = tt
key_says (literal w) = record { written = refl; good = refl }
key_says (symbol w) = tt

count_says : (l : Lexeme) → IfSome (count_of l) (λ v. Says count v l)
count_says (word w) = tt
count_says (tag w) = tt
count_says (number (pos k)) = record { written = refl; good = refl }
count_says (number (negsuc k)) = tt
count_says (literal w) = tt
count_says (symbol w) = tt

tag_says : (l : Lexeme) → IfSome (tag_of l) (λ v. Says tagged v l)
tag_says (word w) = tt
tag_says (tag w) = record { written = refl; good = refl }
tag_says (number z) = tt
tag_says (literal w) = tt
tag_says (symbol w) = tt

pub one_says : (o : One) (l : Lexeme) → IfSome (one_of o l) (λ v. Says o v l)
one_says name l = name_says l
one_says value l = value_says l
one_says key l = key_says l
one_says count l = count_says l
one_says tagged l = tag_says l

-- ---- parts

-- tokens at the front spell what was read
abbrev pub Took : {A : Type 0} → (A → List Lexeme → Type 0) → List Lexeme → A × List Lexeme → Type 0
Took P ls r = (own : List Lexeme) × (ls ≡ own ++ r.1) × P r.0 own

one_took : (o : One) (ls : List Lexeme) → IfSome (read_one o ls) (Took (SpellsPart (one o)) ls)
one_took o [] = tt
one_took o (l ∷ ls) = if_mapped (one_of o l) (λ v. (v, ls)) (λ v. Says o v l) _ (one_says o l) (λ v h. (l ∷ [], refl, (l, refl, h)))

perhaps_took : (w : List ℕ) (o : One) (ls : List Lexeme) → IfSome (read_perhaps w o ls) (Took (SayPerhaps w o) ls)
perhaps_took w o [] = ([], refl, refl)
perhaps_took w o (l ∷ ls) =
    if_either (same (word w) l) _ _ (Took (SayPerhaps w o) (l ∷ ls))
    (λ h. if_mapped (read_one o ls) there (Took (SpellsPart (one o)) ls) _ (one_took o ls)
    (λ r t. (word w ∷ t.2.0 ∷ [], rw (is_same (word w) l h) (ap (λ (ks : List Lexeme). word w ∷ ks) (t.1 ∙ ap (λ (ks : List Lexeme). ks ++ r.1) t.2.1)), (t.2.0, refl, t.2.2))))
    (λ _. ([], refl, refl))

each_took : (o : One) (ls : List Lexeme) → IfSome (each_of o ls) (λ vs. SayEach o vs ls)
each_took o [] = refl
each_took o (l ∷ ls) =
    if_then (one_of o l) _ (λ v. Says o v l) _ (one_says o l)
    (λ v h. if_mapped (each_of o ls) (λ vs. v ∷ vs) (λ vs. SayEach o vs ls) _ (each_took o ls) (λ vs g. (l, ls, refl, h, g)))

many_took : (o : One) (ls : List Lexeme) → IfSome (read_part (many o) ls) (Took (SpellsPart (many o)) ls)
many_took o ls = if_mapped (each_of o ls) (λ vs. (vs, [])) (λ vs. SayEach o vs ls) _ (each_took o ls) (λ vs h. (ls, sym (append-nil ls), h))

behind_took : (o : One) (ls : List Lexeme) → IfSome (read_behind o ls) (Took (SayBehind o) ls)
behind_took o [] = tt
behind_took o (l ∷ []) =
    if_either (same (symbol (codes ")")) l) _ _ (Took (SayBehind o) (l ∷ [])) (λ h. (symbol (codes ")") ∷ [], ap (λ (m : Lexeme). m ∷ []) (is_same _ l h), refl)) (λ _. tt)
behind_took o (l ∷ k ∷ ls) =
    if_either (same (symbol (codes ")")) l) _ _ (Took (SayBehind o) (l ∷ k ∷ ls))
    (λ h. (symbol (codes ")") ∷ [], ap (λ (m : Lexeme). m ∷ k ∷ ls) (is_same _ l h), refl))
    (λ _. if_either (same (symbol (codes ",")) l) _ _ (Took (SayBehind o) (l ∷ k ∷ ls))
    (λ h. if_then (one_of o k) _ (λ v. Says o v k) _ (one_says o k)
    (λ v g. if_mapped (read_behind o ls) (with_first v) (Took (SayBehind o) ls) _ (behind_took o ls)
    (λ r t. (symbol (codes ",") ∷ k ∷ t.0, rw (is_same (symbol (codes ",")) l h) (ap (λ (ks : List Lexeme). symbol (codes ",") ∷ k ∷ ks) t.1), (k, t.0, refl, g, t.2)))))
    (λ _. tt))

opened_took : (o : One) (ls : List Lexeme) → IfSome (read_opened o ls) (Took (SayListed o) ls)
opened_took o [] = tt
opened_took o (l ∷ ls) =
    if_either (same (symbol (codes ")")) l) _ _ (Took (SayListed o) (l ∷ ls))
    (λ h. (symbol (codes ")") ∷ [], ap (λ (m : Lexeme). m ∷ ls) (is_same _ l h), refl))
    (λ _. if_then (one_of o l) _ (λ v. Says o v l) _ (one_says o l)
    (λ v g. if_mapped (read_behind o ls) (with_first v) (Took (SayBehind o) ls) _ (behind_took o ls)
    (λ r t. (l ∷ t.0, ap (λ (ks : List Lexeme). l ∷ ks) t.1, (l, t.0, refl, g, t.2)))))

listed_took : (o : One) (ls : List Lexeme) → IfSome (read_listed o ls) (Took (SpellsPart (listed o)) ls)
listed_took o [] = tt
listed_took o (l ∷ ls) =
    if_either (same (symbol (codes "(")) l) _ _ (Took (SpellsPart (listed o)) (l ∷ ls))
    (λ h. lift (read_opened o ls) (opened_took o ls) (is_same (symbol (codes "(")) l h))
    (λ _. tt)
  where
    lift : (r : Option (List (Of o) × List Lexeme)) → IfSome r (Took (SayListed o) ls) → l ≡ symbol (codes "(") → IfSome r (Took (SpellsPart (listed o)) (l ∷ ls))
    lift None h e = tt
    lift (Some r) t e = (symbol (codes "(") ∷ t.0, rw e (ap (λ (ks : List Lexeme). symbol (codes "(") ∷ ks) t.1), (t.0, refl, t.2))

arguments_took : (ls : List Lexeme) → IfSome (read_part arguments ls) (Took (SpellsPart arguments) ls)
arguments_took ls =
    if_then (read_listed name ls) if_distinct (Took (SpellsPart (listed name)) ls) (Took (SpellsPart arguments) ls) (listed_took name ls)
    (λ r t. if_either (are_distinct r.0) (Some r) None (Took (SpellsPart arguments) ls) (λ h. (t.0, t.1, (t.2, h))) (λ _. tt))

-- signs of tokens that are split are those of a split of the tokens
pub split_signs : (ls : List Lexeme) (a b : List Sign) → signs ls ≡ a ++ b → signs (drop (length ls - length b) ls) ≡ b
split_signs ls a b e =
    let len : length ls ≡ length a + length b = sym (length-map ls sign) ∙ ap length e ∙ length-append a b in
    let n : length ls - length b ≡ length a = omega arith in
    rw n (sym (drop-map sign (length a) ls) ∙ ap (λ (ss : List Sign). drop (length a) ss) e ∙ drop-append_seam a b)

-- the tokens before them spell the front
front_signs : (ls : List Lexeme) (a b : List Sign) → signs ls ≡ a ++ b → signs (take (length ls - length b) ls) ≡ a
front_signs ls a b e =
    let n = length ls - length b in
    append_cancel_right _ _ b (ap (λ (ss : List Sign). signs (take n ls) ++ ss) (sym (split_signs ls a b e)) ∙ sym (map-append sign (take n ls) (drop n ls)) ∙ ap signs (take-append-drop n ls) ∙ e)

formula_took : (ls : List Lexeme) → IfSome (read_formula ls) (Took (λ f own. IsFormula own f) ls)
unfolding read_formula
formula_took ls = if_mapped (expr (length ls) 0 (signs ls)) (left_of ls) (TookSigns 0 (signs ls)) _ (sound (expr (length ls) 0 (signs ls)) refl) (λ r t. (
  take (length ls - length r.2) ls,
  sym (take-append-drop (length ls - length r.2) ls),
  record { form = t.form; fits = t.fits; tokens = front_signs ls (spelled t.form) r.2 t.tokens; meaning = t.meaning },
))
  where
    sound : (o : Option Run) → expr (length ls) 0 (signs ls) ≡ o → IfSome o (TookSigns 0 (signs ls))
    sound None e = tt
    sound (Some r) e = expr_sound (length ls) 0 (signs ls) r (omega arith) e

pub part_took : (p : Part) (ls : List Lexeme) → IfSome (read_part p ls) (Took (SpellsPart p) ls)
part_took (one o) ls = one_took o ls
part_took (perhaps w o) ls = perhaps_took w o ls
part_took (many o) ls = many_took o ls
part_took (listed o) ls = listed_took o ls
part_took arguments ls = arguments_took ls
part_took formula ls = formula_took ls

-- ---- lines

fixed_took : (m : Lexeme) (ls : List Lexeme) → IfSome (read_fixed m ls) (λ rest. ls ≡ m ∷ rest)
fixed_took m [] = tt
fixed_took m (l ∷ ls) = if_either (same m l) (Some ls) None (λ rest. l ∷ ls ≡ m ∷ rest) (λ h. ap (λ (k : Lexeme). k ∷ ls) (is_same m l h)) (λ _. tt)

pub form_sound : (ps : Form) (ls : List Lexeme) → IfSome (read_form ps ls) (λ a. SpellsForm ps a ls)
form_sound [] [] = refl
form_sound [] (l ∷ ls) = tt
form_sound (fixed m ∷ ps) ls =
    if_then (read_fixed m ls) (read_form ps) (λ rest. ls ≡ m ∷ rest) (λ a. SpellsForm (fixed m ∷ ps) a ls) (fixed_took m ls)
    (λ rest e. if_same (read_form ps rest) _ _ (form_sound ps rest) (λ a h. (rest, e, h)))
form_sound (part p ∷ ps) ls =
    if_then (read_part p ls) _ (Took (SpellsPart p) ls) (λ a. SpellsForm (part p ∷ ps) a ls) (part_took p ls)
    (λ r t. if_mapped (read_form ps r.1) (λ a. (r.0, a)) (λ a. SpellsForm ps a r.1) _ (form_sound ps r.1) (λ a h. (t.0, r.1, t.1, t.2, h)))

first_sound : (language : Language) (w : List ℕ) (rs : List language.Row) (ls : List Lexeme) → all_begin language w rs ≡ true
    → IfSome (first_of language rs ls) (λ x. Spells language x (word w ∷ ls))
first_sound language w [] ls h = tt
first_sound language w (r ∷ rs) ls h =
    let both = and_parts (bytes_eq (language.row r).0 w) (all_begin language w rs) h in
    let begins = same_bytes (language.row r).0 w both.0 in
    either (option_map (λ a. (r, a)) (read_form (language.row r).1 ls)) (first_of language rs ls)
    (if_mapped (read_form (language.row r).1 ls) (λ a. (r, a)) (λ a. SpellsForm (language.row r).1 a ls) (λ x. Spells language x (word w ∷ ls)) (form_sound (language.row r).1 ls)
    (λ a g. (ls, ap (λ (v : List ℕ). word v ∷ ls) (sym begins), g)))
    (first_sound language w rs ls both.1)
  where
    either : (a b : Option (Said language)) → IfSome a (λ x. Spells language x (word w ∷ ls)) → IfSome b (λ x. Spells language x (word w ∷ ls))
        → IfSome (option_or a b) (λ x. Spells language x (word w ∷ ls))
    either None b h k = k
    either (Some x) b h k = h

begins_looked : (language : Language) (w : List ℕ) (es : Table language.Row) → each_begins language es ≡ true → all_begin language w (rows_of w es) ≡ true
begins_looked language w [] h = refl
begins_looked language w (e ∷ es) h =
    let both = and_parts (all_begin language e.0 e.1) (each_begins language es) h in
    elim (cases_Bool (bytes_eq w e.0)) [
      | inl f ↦ rw (f, same_bytes w e.0 f) both.0
      | inr f ↦ rw f (begins_looked language w es both.1)
    ]

-- what is read of tokens is spelled by them
pub said_sound : (language : Language) (ls : List Lexeme) → each_begins language language.table ≡ true
    → IfSome (said_of language ls) (λ x. Spells language x ls)
said_sound language [] h = tt
said_sound language (word w ∷ ls) h = first_sound language w (rows_of w language.table) ls (begins_looked language w language.table h)
said_sound language (tag w ∷ ls) h = tt
said_sound language (number z ∷ ls) h = tt
said_sound language (literal w ∷ ls) h = tt
said_sound language (symbol w ∷ ls) h = tt
