-- A text is that of one operation.
use Rattle.std.proofs.Common.{◌≡◌, ℕ, ◌<◌, ◌^◌, true, false, List, [], ◌∷◌, ◌++◌, drop, refl, sym, ap, ◌∙◌, append_assoc, append-nil}
use Rattle.std.specs.Prelude.{◌==◌, if◌then◌else◌, slice_index}
use Rattle.std.specs.Fmt.{decimal}
use Rattle.std.proofs.lemmas.Bool.{false≢true}
use Rattle.sig_base.specs.Printer.{quoted}
use Rattle.sig_base.specs.Words.{in_tag}
use Rattle.html_out.specs.Html.{good_name}
use Rattle.page_model.specs.Forest.{Forest, none, node}
use Rattle.page_model.specs.Labels.{Root, Text, Element, Kind, GoodNames}
use Rattle.page_model.specs.Replay.{Op, OpRemove, OpInsert, OpMove, OpText, OpAttr, OpUnattr}
use Rattle.page_model.specs.Texts.{op_text, written_attributes, written_label, written_nodes}
use Rattle.page_tree.specs.Subs.{insertion}
use Rattle.page_ops.specs.declared.reader.Verb.{Verb}
use Rattle.page_ops.specs.declared.reader.Verb.TheVariants as verb
use Rattle.page_ops.specs.Ops.{HasText}
use Rattle.page_ops.specs.Parser.{IsFit, begins_attribute, begins_node, behind_front, behind_quote, front, node_text, number_of, rest_of, unquoted, verb_of, word_of}
use Rattle.page_ops.proofs.Listed.{attribute_begins, attribute_text, list_stops, tail_begins}
use Rattle.page_ops.proofs.Nested.{fit_first, fit_kids, fit_rest, label_stops, nodes_text}
use Rattle.page_ops.proofs.Quotes.{behind_quoted, quoted_is, quoted_opens}
use Rattle.page_ops.proofs.Texts.{behind_word, is_number, rest_stops, word_first}
use Rattle.page_ops.proofs.Words.{behind_is, front_is, name_first, name_run, number_run, one_number}

-- ---- numbers, names and texts

one_front : (n m : ℕ) (a b : List ℕ) → n < 2 ^ 64 → m < 2 ^ 64 → in_tag (slice_index a 0) ≡ false → in_tag (slice_index b 0) ≡ false → decimal n ++ a ≡ decimal m ++ b → (n ≡ m) × (a ≡ b)
one_front n m a b f g s t e = (
  one_number n m f g (sym (front_is (decimal n) a (number_run n f) s) ∙ (ap front e ∙ front_is (decimal m) b (number_run m g) t)),
  sym (behind_is (decimal n) a (number_run n f) s) ∙ (ap behind_front e ∙ behind_is (decimal m) b (number_run m g) t),
)

one_name : (m n a b : List ℕ) → good_name m ≡ true → good_name n ≡ true → in_tag (slice_index a 0) ≡ false → in_tag (slice_index b 0) ≡ false → m ++ a ≡ n ++ b → (m ≡ n) × (a ≡ b)
one_name m n a b f g s t e = (
  sym (front_is m a (name_run m f) s) ∙ (ap front e ∙ front_is n b (name_run n g) t),
  sym (behind_is m a (name_run m f) s) ∙ (ap behind_front e ∙ behind_is n b (name_run n g) t),
)

one_text : (t u a b : List ℕ) → quoted t ++ a ≡ quoted u ++ b → (t ≡ u) × (a ≡ b)
one_text t u a b e = (
  sym (quoted_is t a) ∙ (ap (λ zs. unquoted false (drop 1 zs)) e ∙ quoted_is u b),
  sym (behind_quoted t a) ∙ (ap (λ zs. behind_quote false (drop 1 zs)) e ∙ behind_quoted u b),
)

-- no name begins with a quote
no_quote : (t n a b : List ℕ) → good_name n ≡ true → quoted t ++ a ≡ n ++ b → ⊥
no_quote t n a b good e =
    let f = name_first n good in
    let first : 34 ≡ f.0 = ap (λ zs. slice_index zs 0) (sym (quoted_opens t a) ∙ (e ∙ ap (λ zs. zs ++ b) f.2)) in
    false≢true (rw (sym first) at f.3)

-- ---- attributes

one_list : (xs ys : List (List ℕ × List ℕ)) (k j : Forest Kind) (a b : List ℕ) → GoodNames xs → GoodNames ys
    → written_attributes xs ++ (written_nodes k ++ 41 ∷ a) ≡ written_attributes ys ++ (written_nodes j ++ 41 ∷ b) → (xs ≡ ys) × (written_nodes k ++ 41 ∷ a ≡ written_nodes j ++ 41 ∷ b)
one_list [] [] k j a b f g e = (refl, e)
one_list [] (y ∷ ys) k j a b f g e = absurd (false≢true (sym (tail_begins k a) ∙ (ap begins_attribute e ∙ attribute_begins y.0 y.1 (written_nodes j ++ 41 ∷ b) ys g.0)))
one_list (x ∷ xs) [] k j a b f g e = absurd (false≢true (sym (tail_begins j b) ∙ (ap begins_attribute (sym e) ∙ attribute_begins x.0 x.1 (written_nodes k ++ 41 ∷ a) xs f.0)))
one_list (x ∷ xs) (y ∷ ys) k j a b f g e =
    let texts = ap (drop 1) (sym (attribute_text x.0 x.1 (written_nodes k ++ 41 ∷ a) xs) ∙ (e ∙ attribute_text y.0 y.1 (written_nodes j ++ 41 ∷ b) ys)) in
    let names = one_name x.0 y.0 _ _ f.0 g.0 refl refl texts in
    let values = one_text x.1 y.1 _ _ (ap (drop 1) names.1) in
    let rest = one_list xs ys k j a b f.1 g.1 values.1 in
    let pair : List ℕ → List ℕ → List ℕ × List ℕ = λ m v. (m, v) in
    let same : x ≡ y = ap (λ m. pair m x.1) names.0 ∙ ap (λ v. pair y.0 v) values.0 in
    (ap (λ z. z ∷ xs) same ∙ ap (λ zs. y ∷ zs) rest.0, rest.1)

-- ---- nodes

one_label : (l n m : ℕ) (x y : Kind) (k j : Forest Kind) (a b : List ℕ) → IsFit l (node n x k none) → IsFit l (node m y j none)
    → written_label x ++ (written_nodes k ++ 41 ∷ a) ≡ written_label y ++ (written_nodes j ++ 41 ∷ b) → (x ≡ y) × (written_nodes k ++ 41 ∷ a ≡ written_nodes j ++ 41 ∷ b)
one_label l n m Root y k j a b f g e = absurd (let i = f.nodes in i.0)
one_label l n m (Text t) Root k j a b f g e = absurd (let i = g.nodes in i.0)
one_label l n m (Element name xs) Root k j a b f g e = absurd (let i = g.nodes in i.0)
one_label l n m (Text t) (Text u) k j a b f g e = let s = one_text t u _ _ (ap (drop 1) e) in (ap Text s.0, s.1)
one_label l n m (Text t) (Element name ys) k j a b f g e =
    let w = g.named in
    absurd (no_quote t name _ _ w.0.0 (ap (drop 1) e ∙ append_assoc name (written_attributes ys) (written_nodes j ++ 41 ∷ b)))
one_label l n m (Element name xs) (Text t) k j a b f g e =
    let w = f.named in
    absurd (no_quote t name _ _ w.0.0 (ap (drop 1) (sym e) ∙ append_assoc name (written_attributes xs) (written_nodes k ++ 41 ∷ a)))
one_label l n m (Element name xs) (Element other ys) k j a b f g e =
    let w = f.named in let v = g.named in
    let parts = sym (append_assoc name (written_attributes xs) (written_nodes k ++ 41 ∷ a)) ∙ (ap (drop 1) e ∙ append_assoc other (written_attributes ys) (written_nodes j ++ 41 ∷ b)) in
    let names = one_name name other _ _ w.0.0 v.0.0 (list_stops xs k a) (list_stops ys j b) parts in
    let lists = one_list xs ys k j a b w.0.1 v.0.1 names.1 in
    (ap (λ z. Element z xs) names.0 ∙ ap (Element other) lists.0, lists.1)

one_node_text : (l n m : ℕ) (x y : Kind) (k j : Forest Kind) (a b : List ℕ) → IsFit l (node n x k none) → IsFit l (node m y j none)
    → node_text n x k a ≡ node_text m y j b → (n ≡ m) × (x ≡ y) × (written_nodes k ++ 41 ∷ a ≡ written_nodes j ++ 41 ∷ b)
one_node_text l n m x y k j a b f g e =
    let i = f.nodes in let z = f.sized in let h = g.nodes in let v = g.sized in
    let numbers = one_front n m (written_label x ++ (written_nodes k ++ 41 ∷ a)) (written_label y ++ (written_nodes j ++ 41 ∷ b)) z.0 v.0 (label_stops x k (written_nodes k ++ 41 ∷ a) i.0) (label_stops y j (written_nodes j ++ 41 ∷ b) h.0) e in
    let labels = one_label l n m x y k j a b f g numbers.1 in
    (numbers.0, labels.0, labels.1)

-- where the text of one node stands, another one's does
one_first : (n m : ℕ) (x y : Kind) (k r j s : Forest Kind) (a b : List ℕ) → written_nodes (node n x k r) ++ 41 ∷ a ≡ written_nodes (node m y j s) ++ 41 ∷ b → node_text n x k (written_nodes r ++ 41 ∷ a) ≡ node_text m y j (written_nodes s ++ 41 ∷ b)
one_first n m x y k r j s a b e = ap (drop 2) (sym (nodes_text n x k r a) ∙ (e ∙ nodes_text m y j s b))

no_node : (m : ℕ) (y : Kind) (j s : Forest Kind) (a b : List ℕ) → 41 ∷ a ≡ written_nodes (node m y j s) ++ 41 ∷ b → ⊥
no_node m y j s a b e = false≢true (ap begins_node (e ∙ nodes_text m y j s b))

same_node : (n m : ℕ) (x y : Kind) (k j r s : Forest Kind) → n ≡ m → x ≡ y → k ≡ j → r ≡ s → node n x k r ≡ node m y j s
same_node n m x y k j r s e f g h = ap (λ q. node q x k r) e ∙ (ap (λ q. node m q k r) f ∙ (ap (λ q. node m y q r) g ∙ ap (node m y j) h))

one_nodes : (l : ℕ) (f g : Forest Kind) (a b : List ℕ) → IsFit l f → IsFit l g → written_nodes f ++ 41 ∷ a ≡ written_nodes g ++ 41 ∷ b → (f ≡ g) × (a ≡ b)
one_nodes l none none a b f g e = (refl, ap (drop 1) e)
one_nodes l none (node m y j s) a b f g e = absurd (no_node m y j s a b e)
one_nodes l (node n x k r) none a b f g e = absurd (no_node n x k r b a (sym e))
one_nodes l (node n x k r) (node m y j s) a b f g e =
    let opened = one_node_text l n m x y k j (written_nodes r ++ 41 ∷ a) (written_nodes s ++ 41 ∷ b) (fit_first l n x k r f) (fit_first l m y j s g) (one_first n m x y k r j s a b e) in
    let below = one_nodes l k j (written_nodes r ++ 41 ∷ a) (written_nodes s ++ 41 ∷ b) (fit_kids l n x k r f) (fit_kids l m y j s g) opened.2 in
    let rest = one_nodes l r s a b (fit_rest l n x k r f) (fit_rest l m y j s g) below.1 in
    (same_node n m x y k j r s opened.0 opened.1 below.0 rest.0, rest.1)

-- ---- operations

-- each verb by the first letter of its word
abbrev verb_by : ℕ → Verb
verb_by b =
    if b == 114 then verb.Remove
    else if b == 105 then verb.Insert
    else if b == 109 then verb.Move
    else if b == 116 then verb.Text
    else if b == 97 then verb.Attr
    else verb.Unattr

verb_is : (v : Verb) → verb_by (slice_index (word_of v) 0) ≡ v
verb_is verb.Remove = refl
verb_is verb.Insert = refl
verb_is verb.Move = refl
verb_is verb.Text = refl
verb_is verb.Attr = refl
verb_is verb.Unattr = refl

-- two operations of one verb and one number that go on alike
one_rest : (o p : Op) → HasText o → HasText p → verb_of o ≡ verb_of p → number_of o ≡ number_of p → rest_of o ≡ rest_of p → o ≡ p
one_rest (OpRemove n) (OpRemove m) f g w e r = ap OpRemove e
one_rest (OpInsert p i n x k) (OpInsert q j m y l) f g w e r =
    let u = f.0 in let s = f.1 in let v = g.0 in let t = g.1 in
    let places = one_front i j _ _ s.1 t.1 refl refl (ap (drop 1) r) in
    let a : IsFit 32 (node n x k none) = record { low = u.0; nodes = u.1; named = u.2; sized = s.2 } in
    let b : IsFit 32 (node m y l none) = record { low = v.0; nodes = v.1; named = v.2; sized = t.2 } in
    let nodes = one_nodes 32 (node n x k none) (node m y l none) [] [] a b (ap (λ zs. zs ++ 41 ∷ []) places.1) in
    ap (λ z. OpInsert z i n x k) e ∙ (ap (λ z. OpInsert q z n x k) places.0 ∙ ap (insertion q j) nodes.0)
one_rest (OpMove n i) (OpMove m j) f g w e r =
    let s = f.1 in let t = g.1 in
    let places = one_front i j [] [] s.1 t.1 refl refl (append-nil (decimal i) ∙ (ap (drop 1) r ∙ sym (append-nil (decimal j)))) in
    ap (λ z. OpMove z i) e ∙ ap (OpMove m) places.0
one_rest (OpText n t) (OpText m u) f g w e r =
    let texts = one_text t u [] [] (append-nil (quoted t) ∙ (ap (drop 1) r ∙ sym (append-nil (quoted u)))) in
    ap (λ z. OpText z t) e ∙ ap (OpText m) texts.0
one_rest (OpAttr n i name t) (OpAttr m j other u) f g w e r =
    let s = f.1 in let v = g.1 in
    let places = one_front i j _ _ s.1 v.1 refl refl (ap (drop 1) r) in
    let names = one_name name other _ _ f.0 g.0 refl refl (ap (drop 1) places.1) in
    let texts = one_text t u [] [] (append-nil (quoted t) ∙ (ap (drop 1) names.1 ∙ sym (append-nil (quoted u)))) in
    ap (λ z. OpAttr z i name t) e ∙ (ap (λ z. OpAttr m z name t) places.0 ∙ (ap (λ z. OpAttr m j z t) names.0 ∙ ap (OpAttr m j other) texts.0))
one_rest (OpUnattr n name) (OpUnattr m other) f g w e r = ap (λ z. OpUnattr z name) e ∙ ap (OpUnattr m) (ap (drop 1) r)
one_rest o p f g w e r = absurd cc

pub one_op : (o p : Op) → HasText o → HasText p → op_text o ≡ op_text p → o ≡ p
one_op o p f g e =
    let words : word_of (verb_of o) ≡ word_of (verb_of p) = sym (word_first o) ∙ (ap front e ∙ word_first p) in
    let verbs : verb_of o ≡ verb_of p = sym (verb_is (verb_of o)) ∙ (ap (λ zs. verb_by (slice_index zs 0)) words ∙ verb_is (verb_of p)) in
    let behind = ap (drop 1) (sym (behind_word o) ∙ (ap behind_front e ∙ behind_word p)) in
    let numbers = one_front (number_of o) (number_of p) (rest_of o) (rest_of p) (is_number o f) (is_number p g) (rest_stops o) (rest_stops p) behind in
    one_rest o p f g verbs numbers.0 numbers.1
