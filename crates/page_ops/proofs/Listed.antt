-- Attributes read one after another.
use Rattle.std.proofs.Common.{◌≡◌, ℕ, ◌-◌, ◌<◌, true, false, List, [], ◌∷◌, ◌++◌, length, drop, refl, sym, ap, ◌∙◌, arith, append_assoc, append-nil}
use Rattle.std.specs.Prelude.{slice_index}
use Rattle.std.proofs.lemmas.Bool.{false≢true}
use Rattle.std.proofs.lemmas.List.{length-drop}
use Rattle.sig_base.specs.Printer.{quoted}
use Rattle.html_out.specs.Html.{good_name}
use Rattle.page_model.specs.Forest.{Forest, none, node}
use Rattle.page_model.specs.Labels.{Kind, named}
use Rattle.page_model.specs.Texts.{IsText, written_attributes, written_nodes}
use Rattle.page_ops.specs.Parser.{AreFit, begins_attribute, behind_front, behind_quote, front}
use Rattle.std.specs.List.{prefix_len}
use Rattle.sig_base.specs.Words.{in_tag}
use Rattle.page_ops.proofs.Attributes.{fit_name, fit_new, fit_text}
use Rattle.page_ops.proofs.Quotes.{behind_quoted, behind_shorter}
use Rattle.page_ops.proofs.Words.{behind_is, front_is, name_first, name_run}

-- attributes that are read already, and those that the bytes begin with
pub record Left (have : List (List ℕ × List ℕ)) (bytes : List ℕ) (all : List (List ℕ × List ℕ)) (tail : List ℕ) : Type 0 where
  pub more : List (List ℕ × List ℕ)
  pub are : all ≡ have ++ more
  pub text : bytes ≡ written_attributes more ++ tail

-- behind attributes no other one begins
pub tail_begins : (k : Forest Kind) (rest : List ℕ) → begins_attribute (written_nodes k ++ 41 ∷ rest) ≡ false
tail_begins none rest = refl
tail_begins (node n x k r) rest = refl

pub attribute_text : (name value tail : List ℕ) (more : List (List ℕ × List ℕ)) → written_attributes ((name, value) ∷ more) ++ tail ≡ 32 ∷ (name ++ 61 ∷ (quoted value ++ (written_attributes more ++ tail)))
attribute_text name value tail more = ap (λ zs. 32 ∷ zs) (
    append_assoc name (61 ∷ (quoted value ++ written_attributes more)) tail
    ∙ ap (λ zs. name ++ 61 ∷ zs) (append_assoc (quoted value) (written_attributes more) tail))

-- where an attribute stands, one begins
pub attribute_begins : (name value tail : List ℕ) (more : List (List ℕ × List ℕ)) → good_name name ≡ true → begins_attribute (written_attributes ((name, value) ∷ more) ++ tail) ≡ true
attribute_begins name value tail more good =
    let f = name_first name good in
    let e : written_attributes ((name, value) ∷ more) ++ tail ≡ 32 ∷ (f.0 ∷ (f.1 ++ 61 ∷ (quoted value ++ (written_attributes more ++ tail)))) =
    attribute_text name value tail more ∙ ap (λ zs. 32 ∷ (zs ++ 61 ∷ (quoted value ++ (written_attributes more ++ tail)))) f.2 in
    rw e f.3

-- where no attribute begins, all are read
pub left_ends : (have : List (List ℕ × List ℕ)) (bytes : List ℕ) (all : List (List ℕ × List ℕ)) (tail : List ℕ) → AreFit all → begins_attribute bytes ≡ false → Left have bytes all tail → (have ≡ all) × (bytes ≡ tail)
left_ends have bytes all tail fit stops left = ends left.more left.are left.text
  where
    ends : (more : List (List ℕ × List ℕ)) → all ≡ have ++ more → bytes ≡ written_attributes more ++ tail → (have ≡ all) × (bytes ≡ tail)
    ends [] e f = (sym (e ∙ append-nil have), f)
    ends (a ∷ more) e f =
        let named = fit.named in
        absurd (false≢true (sym stops ∙ (ap begins_attribute f ∙ attribute_begins a.0 a.1 tail more (fit_name have more a (rw e at named)))))

-- where one begins, its name and its value are read, and it stands behind the others
pub left_goes : (have new : List (List ℕ × List ℕ)) (bytes left : List ℕ) (all : List (List ℕ × List ℕ)) (tail word after quote name value : List ℕ)
    → AreFit all → begins_attribute tail ≡ false → begins_attribute bytes ≡ true → Left have bytes all tail
    → word ≡ front (drop 1 bytes) → after ≡ behind_front (drop 1 bytes) → quote ≡ drop 1 after
    → (good_name word ≡ true → name ≡ word)
    → ((t rest : List ℕ) → IsText t → quote ≡ quoted t ++ rest → value ≡ t)
    → (named name have ≡ false → new ≡ have ++ (name, value) ∷ [])
    → left ≡ behind_quote false (drop 1 quote)
    → Left new left all tail
left_goes have new bytes left all tail word after quote name value fit ends begins before w a q named_as says put l = goes before.more before.are before.text
  where
    goes : (more : List (List ℕ × List ℕ)) → all ≡ have ++ more → bytes ≡ written_attributes more ++ tail → Left new left all tail
    goes [] e f = absurd (false≢true (sym ends ∙ (ap begins_attribute (sym f) ∙ begins)))
    goes (x ∷ more) e f =
        let named_fit = fit.named in let texts = fit.texts in let distinct = fit.distinct in
        let good : good_name x.0 ≡ true = fit_name have more x (rw e at named_fit) in
        let is_text : IsText x.1 = fit_text have more x (rw e at texts) in
        let fresh : named x.0 have ≡ false = fit_new have more x (rw e at distinct) in
        let behind = 61 ∷ (quoted x.1 ++ (written_attributes more ++ tail)) in
        let begun : drop 1 bytes ≡ x.0 ++ behind = ap (λ zs. drop 1 zs) (f ∙ attribute_text x.0 x.1 tail more) in
        let run = name_run x.0 good in
        let word_is : word ≡ x.0 = w ∙ (ap front begun ∙ front_is x.0 behind run refl) in
        let after_is : after ≡ behind = a ∙ (ap behind_front begun ∙ behind_is x.0 behind run refl) in
        let quote_is : quote ≡ quoted x.1 ++ (written_attributes more ++ tail) = q ∙ ap (λ zs. drop 1 zs) after_is in
        let name_is : name ≡ x.0 = named_as (ap good_name word_is ∙ good) ∙ word_is in
        let value_is : value ≡ x.1 = says x.1 (written_attributes more ++ tail) is_text quote_is in
        let new_is : new ≡ have ++ (name, value) ∷ [] = put (ap (λ n. named n have) name_is ∙ fresh) in
        let is : new ≡ have ++ x ∷ [] = new_is ∙ (ap (λ n. have ++ (n, value) ∷ []) name_is ∙ ap (λ v. have ++ (x.0, v) ∷ []) value_is) in
        record {
          more = more;
          are = e ∙ (sym (append_assoc have (x ∷ []) more) ∙ ap (λ zs. zs ++ more) (sym is));
          text = l ∙ (ap (λ zs. behind_quote false (drop 1 zs)) quote_is ∙ behind_quoted x.1 (written_attributes more ++ tail));
        }

-- what is left gets shorter
pub left_shorter : (bytes left after quote : List ℕ) → begins_attribute bytes ≡ true → after ≡ behind_front (drop 1 bytes) → quote ≡ drop 1 after → left ≡ behind_quote false (drop 1 quote) → length left < length bytes
left_shorter [] left after quote begins a q l = absurd cc
left_shorter (b ∷ bytes) left after quote begins a q l =
    let h = behind_shorter false (drop 1 quote) in
    let after_length : length after ≡ length bytes - prefix_len in_tag bytes = ap length a ∙ length-drop (prefix_len in_tag bytes) bytes in
    let quote_length : length quote ≡ length after - 1 = ap length q ∙ length-drop 1 after in
    let drop_length : length (drop 1 quote) ≡ length quote - 1 = length-drop 1 quote in
    let left_length : length left ≡ length (behind_quote false (drop 1 quote)) = ap length l in
    omega arith

-- where attributes end a word ends
pub list_stops : (xs : List (List ℕ × List ℕ)) (k : Forest Kind) (rest : List ℕ) → in_tag (slice_index (written_attributes xs ++ (written_nodes k ++ 41 ∷ rest)) 0) ≡ false
list_stops [] none rest = refl
list_stops [] (node n x k r) rest = refl
list_stops (a ∷ xs) k rest = refl
