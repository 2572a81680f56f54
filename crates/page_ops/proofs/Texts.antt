-- The parts of an operation's text, and what they say.
use Rattle.std.proofs.Common.{◌≡◌, ℕ, true, false, List, [], ◌∷◌, ◌++◌, drop, refl, sym, ap, ◌∙◌, append-nil}
use Rattle.std.specs.Prelude.{codes, slice_index}
use Rattle.std.specs.Fmt.{decimal}
use Rattle.std.specs.List.{list_all}
use Rattle.sig_base.specs.Printer.{quoted}
use Rattle.sig_base.specs.Words.{in_tag}
use Rattle.html_out.specs.Html.{good_name}
use Rattle.page_model.specs.Replay.{Op, OpRemove, OpInsert, OpMove, OpText, OpAttr, OpUnattr}
use Rattle.page_model.specs.Texts.{op_text, IsNumber, IsText}
use Rattle.page_model.specs.Trees.{Brings}
use Rattle.page_ops.specs.declared.reader.Verb.{Verb}
use Rattle.page_ops.specs.declared.reader.Verb.TheVariants as verb
use Rattle.page_ops.specs.Ops.{HasText}
use Rattle.page_ops.specs.Parser.{IsSaid, behind_front, front, number_of, rest_of, verb_of, word_of}
use Rattle.page_ops.proofs.Nested.{NumberAt}
use Rattle.page_ops.proofs.Words.{behind_is, front_is, name_run}

-- ---- the word, the number, and the rest

pub parts_of : (o : Op) → op_text o ≡ word_of (verb_of o) ++ 32 ∷ (decimal (number_of o) ++ rest_of o)
parts_of (OpRemove n) = ap (λ zs. codes "remove " ++ zs) (sym (append-nil (decimal n)))
parts_of (OpInsert p i n x k) = refl
parts_of (OpMove n i) = refl
parts_of (OpText n t) = refl
parts_of (OpAttr n i name value) = refl
parts_of (OpUnattr n name) = refl

word_run : (v : Verb) → list_all in_tag (word_of v) ≡ true
word_run verb.Remove = refl
word_run verb.Insert = refl
word_run verb.Move = refl
word_run verb.Text = refl
word_run verb.Attr = refl
word_run verb.Unattr = refl

pub rest_stops : (o : Op) → in_tag (slice_index (rest_of o) 0) ≡ false
rest_stops (OpRemove n) = refl
rest_stops (OpInsert p i n x k) = refl
rest_stops (OpMove n i) = refl
rest_stops (OpText n t) = refl
rest_stops (OpAttr n i name value) = refl
rest_stops (OpUnattr n name) = refl

pub is_number : (o : Op) → HasText o → IsNumber (number_of o)
is_number (OpRemove n) h = h.1
is_number (OpInsert p i n x k) h = let s = h.1 in s.0
is_number (OpMove n i) h = let s = h.1 in s.0
is_number (OpText n t) h = let s = h.1 in s.0
is_number (OpAttr n i name value) h = let s = h.1 in s.0
is_number (OpUnattr n name) h = h.1

pub word_first : (o : Op) → front (op_text o) ≡ word_of (verb_of o)
word_first o = ap front (parts_of o) ∙ front_is (word_of (verb_of o)) (32 ∷ (decimal (number_of o) ++ rest_of o)) (word_run (verb_of o)) refl

pub behind_word : (o : Op) → behind_front (op_text o) ≡ 32 ∷ (decimal (number_of o) ++ rest_of o)
behind_word o = ap behind_front (parts_of o) ∙ behind_is (word_of (verb_of o)) (32 ∷ (decimal (number_of o) ++ rest_of o)) (word_run (verb_of o)) refl

-- the parts that are read of an operation's text are its own
pub text_said : (o : Op) (bytes word behind number_text after left : List ℕ) (does : Verb) (number : ℕ) → HasText o → bytes ≡ op_text o
    → word ≡ front bytes → behind ≡ behind_front bytes → ((v : Verb) → word ≡ word_of v → does ≡ v)
    → number_text ≡ drop 1 behind → NumberAt number_text number after → left ≡ drop 1 after → IsSaid does number left o
text_said o bytes word behind number_text after left does number has e w b says t num l =
    let is = num (number_of o) (rest_of o) (is_number o has) (rest_stops o) (t ∙ ap (drop 1) (b ∙ (ap behind_front e ∙ behind_word o))) in
    record {
      has_text = has;
      verb = says (verb_of o) (w ∙ (ap front e ∙ word_first o));
      numbered = is.0;
      rest = l ∙ ap (drop 1) is.1;
    }

-- ---- what each verb goes on with

pub move_said : (n place : ℕ) (left after : List ℕ) (o : Op) → IsSaid verb.Move n left o → NumberAt left place after → OpMove n place ≡ o
move_said n place left after (OpRemove m) s num = absurd (let v = s.verb in cc)
move_said n place left after (OpInsert p i m x k) s num = absurd (let v = s.verb in cc)
move_said n place left after (OpMove m i) s num =
    let h = s.has_text in let z = h.1 in
    let is = num i [] z.1 refl (s.rest ∙ sym (append-nil (decimal i))) in
    ap (λ a. OpMove a place) s.numbered ∙ ap (OpMove m) is.0
move_said n place left after (OpText m t) s num = absurd (let v = s.verb in cc)
move_said n place left after (OpAttr m i name value) s num = absurd (let v = s.verb in cc)
move_said n place left after (OpUnattr m name) s num = absurd (let v = s.verb in cc)

pub text_op_said : (n : ℕ) (left text : List ℕ) (o : Op) → IsSaid verb.Text n left o → ((t rest : List ℕ) → IsText t → left ≡ quoted t ++ rest → text ≡ t) → OpText n text ≡ o
text_op_said n left text (OpRemove m) s says = absurd (let v = s.verb in cc)
text_op_said n left text (OpInsert p i m x k) s says = absurd (let v = s.verb in cc)
text_op_said n left text (OpMove m i) s says = absurd (let v = s.verb in cc)
text_op_said n left text (OpText m t) s says =
    let h = s.has_text in let z = h.1 in
    ap (λ a. OpText a text) s.numbered ∙ ap (OpText m) (says t [] z.1 (s.rest ∙ sym (append-nil (quoted t))))
text_op_said n left text (OpAttr m i name value) s says = absurd (let v = s.verb in cc)
text_op_said n left text (OpUnattr m name) s says = absurd (let v = s.verb in cc)

pub unattr_said : (n : ℕ) (left word name : List ℕ) (o : Op) → IsSaid verb.Unattr n left o → word ≡ front left → (good_name word ≡ true → name ≡ word) → OpUnattr n name ≡ o
unattr_said n left word name (OpRemove m) s w named = absurd (let v = s.verb in cc)
unattr_said n left word name (OpInsert p i m x k) s w named = absurd (let v = s.verb in cc)
unattr_said n left word name (OpMove m i) s w named = absurd (let v = s.verb in cc)
unattr_said n left word name (OpText m t) s w named = absurd (let v = s.verb in cc)
unattr_said n left word name (OpAttr m i other value) s w named = absurd (let v = s.verb in cc)
unattr_said n left word name (OpUnattr m other) s w named =
    let h = s.has_text in
    let word_is : word ≡ other = w ∙ (ap front (s.rest ∙ sym (append-nil other)) ∙ front_is other [] (name_run other h.0) refl) in
    ap (λ a. OpUnattr a name) s.numbered ∙ ap (OpUnattr m) (named (ap good_name word_is ∙ h.0) ∙ word_is)

pub attr_said : (n place : ℕ) (left after label word behind quote name value : List ℕ) (o : Op) → IsSaid verb.Attr n left o → NumberAt left place after
    → label ≡ drop 1 after → word ≡ front label → behind ≡ behind_front label → quote ≡ drop 1 behind → (good_name word ≡ true → name ≡ word)
    → ((t rest : List ℕ) → IsText t → quote ≡ quoted t ++ rest → value ≡ t) → OpAttr n place name value ≡ o
attr_said n place left after label word behind quote name value (OpRemove m) s num l w b q named says = absurd (let v = s.verb in cc)
attr_said n place left after label word behind quote name value (OpInsert p i m x k) s num l w b q named says = absurd (let v = s.verb in cc)
attr_said n place left after label word behind quote name value (OpMove m i) s num l w b q named says = absurd (let v = s.verb in cc)
attr_said n place left after label word behind quote name value (OpText m t) s num l w b q named says = absurd (let v = s.verb in cc)
attr_said n place left after label word behind quote name value (OpAttr m i other t) s num l w b q named says =
    let h = s.has_text in let z = h.1 in
    let is = num i (32 ∷ (other ++ 32 ∷ quoted t)) z.1 refl s.rest in
    let label_is : label ≡ other ++ 32 ∷ quoted t = l ∙ ap (drop 1) is.1 in
    let run = name_run other h.0 in
    let word_is : word ≡ other = w ∙ (ap front label_is ∙ front_is other (32 ∷ quoted t) run refl) in
    let quote_is : quote ≡ quoted t = q ∙ ap (drop 1) (b ∙ (ap behind_front label_is ∙ behind_is other (32 ∷ quoted t) run refl)) in
    ap (λ a. OpAttr a place name value) s.numbered
    ∙ (ap (λ a. OpAttr m a name value) is.0
    ∙ (ap (λ a. OpAttr m i a value) (named (ap good_name word_is ∙ h.0) ∙ word_is)
    ∙ ap (OpAttr m i other) (says t [] z.2 (quote_is ∙ sym (append-nil (quoted t))))))
attr_said n place left after label word behind quote name value (OpUnattr m other) s num l w b q named says = absurd (let v = s.verb in cc)

-- what an operation brings that has a text are nodes
pub text_brings : (o : Op) → HasText o → Brings o
text_brings (OpRemove n) h = tt
text_brings (OpInsert p i n x k) h = let w = h.0 in w.1
text_brings (OpMove n i) h = tt
text_brings (OpText n t) h = tt
text_brings (OpAttr n i name value) h = tt
text_brings (OpUnattr n name) h = tt
