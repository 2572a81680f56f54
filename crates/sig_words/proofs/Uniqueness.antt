-- A line is cut into tokens in one way.
use Rattle.std.proofs.Common.{◌≡◌, ℕ, zero, suc, ◌+◌, ◌-◌, ◌<◌, ◌≤◌, Bool, true, false, List, [], ◌∷◌, ◌++◌, length, take, drop, refl, sym, ap, ◌∙◌, arith, inl, inr}
use Rattle.std.specs.Prelude.{slice_index}
use Rattle.std.specs.List.{list_all}
use Rattle.std.specs.Char.{is_ascii_digit}
use Rattle.std.proofs.lemmas.Bool.{and_parts}
use Rattle.std.proofs.lemmas.Bool.Decides.{nat_tests}
use Rattle.std.proofs.lemmas.Str.{utf8_valid_len-IsValidUpTo}
use Rattle.std.proofs.lemmas.List.{get_or-drop, take-append-drop, drop-drop, length-drop, length-take}
use Rattle.sig_words.specs.declared.token.TokenKind.{TokenKind}
use Rattle.sig_words.specs.declared.token.Token.{Token}
use Rattle.sig_words.specs.declared.token.TokenKind.TheVariants.{Word, Tag, Number, Literal, Symbol}
use Rattle.sig_base.specs.Words.{begins_word, is_blank}
use Rattle.sig_words.specs.Tokens.{is_one, is_two, IsToken, NoToken, StandsAt, Cuts, AreTokens, NoneBegins, IsBad, no_token, no_utf8, may_sign}
use Rattle.sig_words.specs.Lexemes.{text_at}
use Rattle.sig_words.proofs.Fronts.{numeric, word_first, index_drop, first_of_take, only_token}

word_no_blank : (b : ℕ) → begins_word b ≡ true → is_blank b ≡ false
word_no_blank b h = grind (arith, nat_tests)

digit_no_blank : (b : ℕ) → is_ascii_digit b ≡ true → is_blank b ≡ false
digit_no_blank b h = grind (arith, nat_tests)

one_no_blank : (b : ℕ) → is_one b ≡ true → is_blank b ≡ false
one_no_blank b h = grind (arith, nat_tests)

two_no_blank : (b c : ℕ) → is_two b c ≡ true → is_blank b ≡ false
two_no_blank b c h = grind (arith, nat_tests)

no_blank : (sign : Bool) (k : TokenKind) (text next : List ℕ) → IsToken sign k text next → is_blank (slice_index text 0) ≡ false
no_blank sign Word text next t = word_no_blank (slice_index text 0) (word_first text t.form)
no_blank sign Tag text next t = rw t.form.1 refl
no_blank sign (Number z) text next t =
    let n = numeric z t.form.0 in
    let first : is_blank n.first ≡ false = elim n.begins [ inl d ↦ digit_no_blank n.first d | inr e ↦ rw e refl ] in
    rw (t.form.1 ∙ n.is) first
no_blank sign Literal text next t = rw t.form.1 refl
no_blank sign Symbol [] next t = absurd t.form
no_blank sign Symbol (b ∷ []) next t = one_no_blank b t.form
no_blank sign Symbol (b ∷ c ∷ []) next t = two_no_blank b c t.form
no_blank sign Symbol (b ∷ c ∷ d ∷ bs) next t = absurd t.form

all_at : (p : ℕ → Bool) (l : List ℕ) (n k : ℕ) → list_all p (take n l) ≡ true → k < n → k < length l → p (slice_index l k) ≡ true
all_at p [] n k all small within = absurd (omega arith)
all_at p (b ∷ l) zero k all small within = absurd (omega arith)
all_at p (b ∷ l) (suc n) zero all small within = (and_parts (p b) (list_all p (take n l)) all).0
all_at p (b ∷ l) (suc n) (suc k) all small within = all_at p l n k (and_parts (p b) (list_all p (take n l)) all).1 (omega arith) (omega arith)

all_whole : (p : ℕ → Bool) (l : List ℕ) (k : ℕ) → list_all p l ≡ true → k < length l → p (slice_index l k) ≡ true
all_whole p [] k all within = absurd (omega arith)
all_whole p (b ∷ l) zero all within = (and_parts (p b) (list_all p l) all).0
all_whole p (b ∷ l) (suc k) all within = all_whole p l k (and_parts (p b) (list_all p l) all).1 (omega arith)

-- between two places all is blank
blank_between : (line : List ℕ) (from to at : ℕ) → list_all is_blank (take (to - from) (drop from line)) ≡ true → from ≤ at → at < to → at < length line → is_blank (slice_index line at) ≡ true
blank_between line from to at all after before within =
    let i : from + (at - from) ≡ at = omega arith in
    let h = all_at is_blank (drop from line) (to - from) (at - from) all (omega arith) (omega (arith, length-drop from line)) in
    rw (get_or-drop from line (at - from) 0, i) at h

blank_after : (line : List ℕ) (from at : ℕ) → list_all is_blank (drop from line) ≡ true → from ≤ at → at < length line → is_blank (slice_index line at) ≡ true
blank_after line from at all after within =
    let i : from + (at - from) ≡ at = omega arith in
    let h = all_whole is_blank (drop from line) (at - from) all (omega (arith, length-drop from line)) in
    rw (get_or-drop from line (at - from) 0, i) at h

start_no_blank : (line : List ℕ) (from : ℕ) (t : Token) → StandsAt line from t → is_blank (slice_index line t.start) ≡ false
start_no_blank line from t s =
    let some = s.some in
    let h = no_blank (may_sign line t.start) t.kind _ _ s.token in
    let first : slice_index (take (t.end - t.start) (drop t.start line)) 0 ≡ slice_index line t.start = first_of_take (t.end - t.start) (drop t.start line) (omega arith) ∙ index_drop t.start line in
    rw first at h

not_both : (b : Bool) → b ≡ true → b ≡ false → ⊥
not_both b h k = absurd cc

starts_same : (line : List ℕ) (from : ℕ) (t u : Token) → StandsAt line from t → StandsAt line from u → t.start ≡ u.start
starts_same line from t u s r =
    let within-t = s.within in let some-t = s.some in let after-t = s.after in
    let within-u = r.within in let some-u = r.some in let after-u = r.after in
    let low : t.start < u.start → ⊥ = λ h. not_both _ (blank_between line from u.start t.start r.blanks s.after h (omega arith)) (start_no_blank line from t s) in
    let high : u.start < t.start → ⊥ = λ h. not_both _ (blank_between line from t.start u.start s.blanks r.after h (omega arith)) (start_no_blank line from u r) in
    omega (arith, low, high)

at_start : (line : List ℕ) (from : ℕ) (t : Token) → StandsAt line from t → take (t.end - t.start) (drop t.start line) ++ drop t.end line ≡ drop t.start line
at_start line from t s =
    let some = s.some in
    let i : t.start + (t.end - t.start) ≡ t.end = omega arith in
    let back : drop t.end line ≡ drop (t.end - t.start) (drop t.start line) = ap (λ (k : ℕ). drop k line) (sym i) ∙ sym (drop-drop (t.end - t.start) t.start line) in
    ap (λ (l : List ℕ). take (t.end - t.start) (drop t.start line) ++ l) back ∙ take-append-drop (t.end - t.start) (drop t.start line)

text_length : (line : List ℕ) (from : ℕ) (t : Token) → StandsAt line from t → length (take (t.end - t.start) (drop t.start line)) ≡ t.end - t.start
text_length line from t s = let a = s.some in let b = s.within in omega (arith, length-take (t.end - t.start) (drop t.start line), length-drop t.start line)

stands_same : (line : List ℕ) (from : ℕ) (t u : Token) → StandsAt line from t → StandsAt line from u → t ≡ u
stands_same line from t u s r =
    let start = starts_same line from t u s r in
    let token : IsToken (may_sign line t.start) u.kind (take (u.end - u.start) (drop u.start line)) (drop u.end line) = rw start r.token in
    let one = only_token (may_sign line t.start) t.kind u.kind _ _ _ _ s.token token (at_start line from t s ∙ ap (λ (k : ℕ). drop k line) start ∙ sym (at_start line from u r)) in
    let a = s.some in let b = r.some in
    let size : t.end - t.start ≡ u.end - u.start = sym (text_length line from t s) ∙ ap length one.1 ∙ text_length line from u r in
    let end : t.end ≡ u.end = omega arith in
    let make : TokenKind → ℕ → ℕ → Token = λ k x y. record { kind = k; start = x; end = y } in
    ap (λ (k : TokenKind). make k t.start t.end) one.0 ∙ ap (λ (x : ℕ). make u.kind x t.end) start ∙ ap (λ (y : ℕ). make u.kind u.start y) end

one_cut : (line : List ℕ) (from last end : ℕ) (ts us : List Token) → Cuts line from ts last → list_all is_blank (drop last line) ≡ true → Cuts line from us end → list_all is_blank (drop end line) ≡ true → ts ≡ us
one_cut line from last end [] [] c b d e = refl
one_cut line from last end [] (u ∷ us) c b d e =
    let r = d.0 in let x = r.some in let y = r.within in
    absurd (not_both _ (blank_after line from u.start (rw c b) r.after (omega arith)) (start_no_blank line from u r))
one_cut line from last end (t ∷ ts) [] c b d e =
    let s = c.0 in let x = s.some in let y = s.within in
    absurd (not_both _ (blank_after line from t.start (rw d e) s.after (omega arith)) (start_no_blank line from t s))
one_cut line from last end (t ∷ ts) (u ∷ us) c b d e =
    let same = stands_same line from t u c.0 d.0 in
    let there : Cuts line t.end us end = rw same d.1 in
    let rest = one_cut line t.end last end ts us c.1 b there e in
    cc

pub one_cutting : (line : List ℕ) (ts us : List Token) → AreTokens line ts → AreTokens line us → ts ≡ us
one_cutting line ts us a b = one_cut line 0 a.last b.last ts us a.cuts a.blanks b.cuts b.blanks

-- blanks alone from a place on, up to one where no token begins
record StopsAt (line : List ℕ) (from at : ℕ) : Type 0 where
  after : from ≤ at
  within : at < length line
  blanks : list_all is_blank (take (at - from) (drop from line)) ≡ true
  no_blank : is_blank (slice_index line at) ≡ false
  none : NoToken (may_sign line at) (drop at line)

no_stop : (line : List ℕ) (from at : ℕ) (u : Token) → StopsAt line from at → StandsAt line from u → ⊥
no_stop line from at u s r =
    let x = r.some in let y = r.within in let after = s.after in let within = s.within in
    let low : u.start < at → ⊥ = λ h. not_both _ (blank_between line from at u.start s.blanks r.after h (omega arith)) (start_no_blank line from u r) in
    let high : at < u.start → ⊥ = λ h. not_both _ (blank_between line from u.start at r.blanks after h (omega arith)) s.no_blank in
    let same : at ≡ u.start = omega (arith, low, high) in
    s.none u.kind (text_at line u) (drop u.end line) (ap (λ (k : ℕ). drop k line) same ∙ sym (at_start line from u r)) (rw same r.token)

no_cut : (line : List ℕ) (from last at end : ℕ) (before us : List Token) → Cuts line from before last → StopsAt line last at → Cuts line from us end → list_all is_blank (drop end line) ≡ true → ⊥
no_cut line from last at end [] [] c s d e = not_both _ (blank_after line from at (rw d e) (rw c s.after) s.within) s.no_blank
no_cut line from last at end [] (u ∷ us) c s d e = no_stop line from at u (rw c s) d.0
no_cut line from last at end (t ∷ ts) [] c s d e =
    let r = c.0 in let x = r.some in let y = r.within in
    not_both _ (blank_after line from t.start (rw d e) r.after (omega arith)) (start_no_blank line from t r)
no_cut line from last at end (t ∷ ts) (u ∷ us) c s d e =
    let same = stands_same line from t u c.0 d.0 in
    let there : Cuts line t.end us end = rw same d.1 in
    no_cut line t.end last at end ts us c.1 s there e

stops_same : (line : List ℕ) (from at to : ℕ) → StopsAt line from at → StopsAt line from to → at ≡ to
stops_same line from at to a b =
    let low : at < to → ⊥ = λ h. not_both _ (blank_between line from to at b.blanks a.after h a.within) a.no_blank in
    let high : to < at → ⊥ = λ h. not_both _ (blank_between line from at to a.blanks b.after h b.within) b.no_blank in
    omega (arith, low, high)

cut_same : (line : List ℕ) (from last end at to : ℕ) (ts us : List Token) → Cuts line from ts last → StopsAt line last at → Cuts line from us end → StopsAt line end to → at ≡ to
cut_same line from last end at to [] [] c a d b = stops_same line from at to (rw c a) (rw d b)
cut_same line from last end at to [] (u ∷ us) c a d b = absurd (no_stop line from at u (rw c a) d.0)
cut_same line from last end at to (t ∷ ts) [] c a d b = absurd (no_stop line from to t (rw d b) c.0)
cut_same line from last end at to (t ∷ ts) (u ∷ us) c a d b =
    let same = stands_same line from t u c.0 d.0 in
    let there : Cuts line t.end us end = rw same d.1 in
    cut_same line t.end last end at to ts us c.1 a there b

stop_of : (line : List ℕ) (at : ℕ) (n : NoneBegins line at) → StopsAt line n.last at
stop_of line at n = record { after = n.after; within = n.within; blanks = n.blanks; no_blank = n.no_blank; none = n.none }

pub no_cutting : (line : List ℕ) (at : ℕ) (ts : List Token) → IsBad line at → AreTokens line ts → ⊥
no_cutting line at ts (no_token utf8 bad) a = no_cut line 0 bad.last at a.last bad.before ts bad.cuts (stop_of line at bad) a.cuts a.blanks
no_cutting line at ts (no_utf8 none upto) a = none a.utf8

pub one_place : (line : List ℕ) (at to : ℕ) → IsBad line at → IsBad line to → at ≡ to
one_place line at to (no_token utf8 bad) (no_token other worse) = cut_same line 0 bad.last worse.last at to bad.before worse.before bad.cuts (stop_of line at bad) worse.cuts (stop_of line to worse)
one_place line at to (no_token utf8 bad) (no_utf8 none upto) = absurd (none utf8)
one_place line at to (no_utf8 none upto) (no_token utf8 bad) = absurd (none utf8)
one_place line at to (no_utf8 none upto) (no_utf8 nor past) = sym (utf8_valid_len-IsValidUpTo line at upto) ∙ utf8_valid_len-IsValidUpTo line to past
