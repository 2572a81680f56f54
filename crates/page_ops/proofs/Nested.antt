-- Nodes read one after another, and what stands below each.
use Rattle.std.proofs.Common.{◌≡◌, ℕ, zero, suc, ◌-◌, ◌≤◌, true, false, List, [], ◌∷◌, ◌++◌, length, drop, map, refl, sym, ap, ◌∙◌, arith, append_assoc}
use Rattle.std.specs.Prelude.{◌&&◌, nat_lt, slice_index}
use Rattle.std.specs.Char.{is_ascii_lowercase}
use Rattle.std.specs.Fmt.{decimal}
use Rattle.std.proofs.lemmas.Bool.{false≢true}
use Rattle.std.proofs.lemmas.Bool.Decides.{nat_tests}
use Rattle.std.proofs.lemmas.List.{length-drop, map-append}
use Rattle.sig_base.specs.Printer.{quoted}
use Rattle.sig_base.specs.Words.{in_tag}
use Rattle.html_out.specs.Html.{good_name}
use Rattle.page_model.specs.Forest.{Forest, none, node, after}
use Rattle.page_model.specs.Labels.{Root, Text, Element, Kind}
use Rattle.page_model.specs.Texts.{IsNumber, IsText, written_attributes, written_label, written_nodes}
use Rattle.page_model.specs.Trees.{IsNode}
use Rattle.page_tree.specs.declared.sub.Sub.{Sub}
use Rattle.page_tree.specs.Subs.{side_by_side, sub_tree}
use Rattle.page_ops.specs.Parser.{AreFit, IsFit, begins_node, behind_front, behind_quote, front, node_text}
use Rattle.page_ops.proofs.Listed.{list_stops}
use Rattle.page_ops.proofs.Quotes.{behind_shorter, quoted_opens}
use Rattle.page_ops.proofs.Words.{behind_is, front_is, name_first, name_run}

-- ---- nodes that have a text, put together and taken apart

pub fit_none : (l : ℕ) → IsFit l none
fit_none l = record { low = omega arith; nodes = tt; named = tt; sized = tt }

pub fit_after : (l : ℕ) (a b : Forest Kind) → IsFit l a → IsFit l b → IsFit l (after a b)
fit_after l none b f g = g
fit_after l (node n x k r) b f g =
    let s = f.sized in let w = f.named in let i = f.nodes in let low = f.low in
    let h = fit_after l r b (record { low = omega arith; nodes = i.2; named = w.2; sized = s.3 }) g in
    let deep = h.low in
    record {
      low = omega arith;
      nodes = (i.0, i.1, h.nodes);
      named = (w.0, w.1, h.named);
      sized = (s.0, s.1, s.2, h.sized);
    }

pub fit_first : (l n : ℕ) (x : Kind) (k r : Forest Kind) → IsFit l (node n x k r) → IsFit l (node n x k none)
fit_first l n x k r f =
    let s = f.sized in let w = f.named in let i = f.nodes in let low = f.low in
    record { low = omega arith; nodes = (i.0, i.1, tt); named = (w.0, w.1, tt); sized = (s.0, s.1, s.2, tt) }

pub fit_rest : (l n : ℕ) (x : Kind) (k r : Forest Kind) → IsFit l (node n x k r) → IsFit l r
fit_rest l n x k r f =
    let s = f.sized in let w = f.named in let i = f.nodes in let low = f.low in
    record { low = omega arith; nodes = i.2; named = w.2; sized = s.3 }

pub fit_kids : (l n : ℕ) (x : Kind) (k r : Forest Kind) → IsFit l (node n x k r) → IsFit l k
fit_kids l n x k r f =
    let s = f.sized in let w = f.named in let i = f.nodes in let low = f.low in
    record { low = omega arith; nodes = i.1; named = w.1; sized = s.2 }

pub fit_below : (l n : ℕ) (x : Kind) (k r : Forest Kind) → IsFit (suc l) (node n x k r) → IsFit l k
fit_below l n x k r f =
    let s = f.sized in let w = f.named in let i = f.nodes in let low = f.low in
    record { low = omega arith; nodes = i.1; named = w.1; sized = s.2 }

fit_tail : (l : ℕ) (a b : Forest Kind) → IsFit l (after a b) → IsFit l b
fit_tail l none b f = f
fit_tail l (node n x k r) b f = fit_tail l r b (fit_rest l n x k (after r b) f)

pub fit_text : (l n : ℕ) (t : List ℕ) → IsNumber n → IsText t → IsFit (suc l) (node n (Text t) none none)
fit_text l n t number text = record { low = omega arith; nodes = (refl, tt, tt); named = (tt, tt, tt); sized = (number, text, tt, tt) }

pub fit_element : (l n : ℕ) (name : List ℕ) (xs : List (List ℕ × List ℕ)) (k : Forest Kind) → IsNumber n → good_name name ≡ true → AreFit xs → IsFit l k → IsFit (suc l) (node n (Element name xs) k none)
fit_element l n name xs k number good fit below =
    let low = below.low in
    record {
      low = omega arith;
      nodes = (fit.distinct, below.nodes, tt);
      named = ((good, fit.named), below.named, tt);
      sized = (number, fit.texts, below.sized, tt);
    }

-- ---- one after another

after_none : (a : Forest Kind) → after a none ≡ a
after_none none = refl
after_none (node n x k r) = ap (node n x k) (after_none r)

after_assoc : (a b c : Forest Kind) → after (after a b) c ≡ after a (after b c)
after_assoc none b c = refl
after_assoc (node n x k r) b c = ap (node n x k) (after_assoc r b c)

side_put : (ts : List (Forest Kind)) (t : Forest Kind) → side_by_side (ts ++ t ∷ []) ≡ after (side_by_side ts) t
side_put [] t = after_none t
side_put (s ∷ ts) t = ap (after s) (side_put ts t) ∙ sym (after_assoc s (side_by_side ts) t)

-- the trees of subtrees with one more
pub subs_put : (subs : List Sub) (s : Sub) → side_by_side (map sub_tree (subs ++ s ∷ [])) ≡ after (side_by_side (map sub_tree subs)) (sub_tree s)
subs_put subs s = ap side_by_side (map-append sub_tree subs (s ∷ [])) ∙ side_put (map sub_tree subs) (sub_tree s)

-- nodes that are read already, and those that the bytes begin with
pub record LeftNodes (have : Forest Kind) (bytes : List ℕ) (all : Forest Kind) (rest : List ℕ) : Type 0 where
  pub more : Forest Kind
  pub are : all ≡ after have more
  pub text : bytes ≡ written_nodes more ++ 41 ∷ rest

pub nodes_text : (n : ℕ) (x : Kind) (k r : Forest Kind) (rest : List ℕ) → written_nodes (node n x k r) ++ 41 ∷ rest ≡ 32 ∷ 40 ∷ node_text n x k (written_nodes r ++ 41 ∷ rest)
nodes_text n x k r rest = ap (λ zs. 32 ∷ 40 ∷ zs) (
    append_assoc (decimal n) (written_label x ++ (written_nodes k ++ 41 ∷ written_nodes r)) (41 ∷ rest)
    ∙ ap (λ zs. decimal n ++ zs) (append_assoc (written_label x) (written_nodes k ++ 41 ∷ written_nodes r) (41 ∷ rest)
    ∙ ap (λ zs. written_label x ++ zs) (append_assoc (written_nodes k) (41 ∷ written_nodes r) (41 ∷ rest))))

-- where no node begins that may, all are read
pub nodes_end : (levels : ℕ) (have all : Forest Kind) (bytes rest : List ℕ) → IsFit levels all → (nat_lt 0 levels && begins_node bytes) ≡ false → LeftNodes have bytes all rest → (have ≡ all) × (bytes ≡ 41 ∷ rest)
nodes_end levels have all bytes rest fit stops left = ends levels stops left.more left.are left.text (fit_tail levels have left.more (rw left.are at fit))
  where
    ends : (levels : ℕ) → (nat_lt 0 levels && begins_node bytes) ≡ false → (more : Forest Kind) → all ≡ after have more → bytes ≡ written_nodes more ++ 41 ∷ rest → IsFit levels more → (have ≡ all) × (bytes ≡ 41 ∷ rest)
    ends levels stops none e f fit = (sym (e ∙ after_none have), f)
    ends zero stops (node n x k r) e f fit = let low = fit.low in absurd (omega arith)
    ends (suc l) stops (node n x k r) e f fit =
        let above : nat_lt 0 (suc l) ≡ true = grind (arith, nat_tests) in
        absurd (false≢true (sym stops ∙ (ap (λ b. b && begins_node bytes) above ∙ ap begins_node (f ∙ nodes_text n x k r rest))))

-- where one begins, it is read, and stands behind the others
pub nodes_go : (levels l : ℕ) (have child all : Forest Kind) (bytes rest inside left : List ℕ) → l ≡ levels → IsFit levels all
    → begins_node bytes ≡ true → LeftNodes have bytes all rest → inside ≡ drop 2 bytes
    → ((n : ℕ) (x : Kind) (k : Forest Kind) (rest : List ℕ) → IsFit l (node n x k none) → inside ≡ node_text n x k rest → (child ≡ node n x k none) × (left ≡ rest))
    → LeftNodes (after have child) left all rest
nodes_go levels l have child all bytes rest inside left same fit begins before i says = goes before.more before.are before.text
  where
    goes : (more : Forest Kind) → all ≡ after have more → bytes ≡ written_nodes more ++ 41 ∷ rest → LeftNodes (after have child) left all rest
    goes none e f = absurd (false≢true (sym (ap begins_node f) ∙ begins))
    goes (node n x k r) e f =
        let fits : IsFit levels (node n x k r) = fit_tail levels have (node n x k r) (rw e at fit) in
        let one : IsFit l (node n x k none) = rw same (fit_first levels n x k r fits) in
        let is = says n x k (written_nodes r ++ 41 ∷ rest) one (i ∙ ap (λ zs. drop 2 zs) (f ∙ nodes_text n x k r rest)) in
        record {
          more = r;
          are = e ∙ (sym (after_assoc have (node n x k none) r) ∙ ap (λ z. after (after have z) r) (sym is.0));
          text = is.1;
        }

-- ---- one node

-- what stands behind a node's number
pub label_stops : (x : Kind) (k : Forest Kind) (zs : List ℕ) → IsNode x k → in_tag (slice_index (written_label x ++ zs) 0) ≡ false
label_stops Root k zs i = absurd i
label_stops (Text t) k zs i = refl
label_stops (Element name xs) k zs i = refl

-- what the number at the front is
abbrev pub NumberAt : List ℕ → ℕ → List ℕ → Type 0
NumberAt bytes number after = (n : ℕ) (rest : List ℕ) → IsNumber n → in_tag (slice_index rest 0) ≡ false → bytes ≡ decimal n ++ rest → (number ≡ n) × (after ≡ rest)

-- a node that is a text
pub record IsTextNode (number : ℕ) (label : List ℕ) (n : ℕ) (x : Kind) (k : Forest Kind) (rest : List ℕ) : Type 0 where
  pub text : List ℕ
  pub is : x ≡ Text text
  pub bare : k ≡ none
  pub is_text : IsText text
  pub numbered : number ≡ n
  pub written : label ≡ quoted text ++ 41 ∷ rest

-- a node that is an element
pub record IsElementNode (levels number : ℕ) (label : List ℕ) (n : ℕ) (x : Kind) (k : Forest Kind) (rest : List ℕ) : Type 0 where
  pub name : List ℕ
  pub attributes : List (List ℕ × List ℕ)
  pub is : x ≡ Element name attributes
  pub good : good_name name ≡ true
  pub fit : AreFit attributes
  pub below : IsFit levels k
  pub numbered : number ≡ n
  pub written : label ≡ name ++ (written_attributes attributes ++ (written_nodes k ++ 41 ∷ rest))

pub text_node : (l number n : ℕ) (x : Kind) (k : Forest Kind) (bytes behind label rest : List ℕ) → IsFit (suc l) (node n x k none) → bytes ≡ node_text n x k rest
    → NumberAt bytes number behind → label ≡ drop 1 behind → slice_index label 0 ≡ 34 → IsTextNode number label n x k rest
text_node l number n Root k bytes behind label rest fit e num d quote = absurd (let i = fit.nodes in i.0)
text_node l number n (Text t) k bytes behind label rest fit e num d quote =
    let i = fit.nodes in let s = fit.sized in
    let is = num n (written_label (Text t) ++ (written_nodes k ++ 41 ∷ rest)) s.0 refl e in
    record {
      text = t;
      is = refl;
      bare = i.0;
      is_text = s.1;
      numbered = is.0;
      written = d ∙ (ap (λ zs. drop 1 zs) is.1 ∙ ap (λ z. quoted t ++ (written_nodes z ++ 41 ∷ rest)) i.0);
    }
text_node l number n (Element name xs) k bytes behind label rest fit e num d quote =
    let w = fit.named in let s = fit.sized in
    let is = num n (written_label (Element name xs) ++ (written_nodes k ++ 41 ∷ rest)) s.0 refl e in
    let f = name_first name w.0.0 in
    let first : slice_index label 0 ≡ f.0 = ap (λ zs. slice_index zs 0) (d ∙ ap (λ zs. drop 1 zs) is.1 ∙ ap (λ zs. (zs ++ written_attributes xs) ++ (written_nodes k ++ 41 ∷ rest)) f.2) in
    absurd (no_quote f.0 f.3 (sym first ∙ quote))
  where
    no_quote : (b : ℕ) → is_ascii_lowercase b ≡ true → b ≡ 34 → ⊥
    no_quote b h e = false≢true (rw e at h)

pub element_node : (l number n : ℕ) (x : Kind) (k : Forest Kind) (bytes behind label rest : List ℕ) → IsFit (suc l) (node n x k none) → bytes ≡ node_text n x k rest
    → NumberAt bytes number behind → label ≡ drop 1 behind → (slice_index label 0 ≡ 34 → ⊥) → IsElementNode l number label n x k rest
element_node l number n Root k bytes behind label rest fit e num d other = absurd (let i = fit.nodes in i.0)
element_node l number n (Text t) k bytes behind label rest fit e num d other =
    let s = fit.sized in
    let is = num n (written_label (Text t) ++ (written_nodes k ++ 41 ∷ rest)) s.0 refl e in
    absurd (other (ap (λ zs. slice_index zs 0) (d ∙ (ap (λ zs. drop 1 zs) is.1 ∙ quoted_opens t (written_nodes k ++ 41 ∷ rest)))))
element_node l number n (Element name xs) k bytes behind label rest fit e num d other =
    let i = fit.nodes in let w = fit.named in let s = fit.sized in
    let is = num n (written_label (Element name xs) ++ (written_nodes k ++ 41 ∷ rest)) s.0 refl e in
    record {
      name = name;
      attributes = xs;
      is = refl;
      good = w.0.0;
      fit = record { distinct = i.0; named = w.0.1; texts = s.1 };
      below = fit_below l n (Element name xs) k none fit;
      numbered = is.0;
      written = d ∙ (ap (λ zs. drop 1 zs) is.1 ∙ append_assoc name (written_attributes xs) (written_nodes k ++ 41 ∷ rest));
    }

-- what an element's parts are, as they are read
pub element_read : (l number n : ℕ) (x : Kind) (k : Forest Kind) (label rest word behind name children : List ℕ) (list : List (List ℕ × List ℕ))
    → IsElementNode l number label n x k rest → word ≡ front label → behind ≡ behind_front label → (good_name word ≡ true → name ≡ word)
    → ((xs : List (List ℕ × List ℕ)) (k : Forest Kind) (rest : List ℕ) → AreFit xs → behind ≡ written_attributes xs ++ (written_nodes k ++ 41 ∷ rest) → (list ≡ xs) × (children ≡ written_nodes k ++ 41 ∷ rest))
    → (x ≡ Element name list) × (children ≡ written_nodes k ++ 41 ∷ rest)
element_read l number n x k label rest word behind name children list is w b named lists =
    let tail = written_attributes is.attributes ++ (written_nodes k ++ 41 ∷ rest) in
    let run = name_run is.name is.good in
    let stops = list_stops is.attributes k rest in
    let word_is : word ≡ is.name = w ∙ (ap front is.written ∙ front_is is.name tail run stops) in
    let name_is : name ≡ is.name = named (ap good_name word_is ∙ is.good) ∙ word_is in
    let read = lists is.attributes k rest is.fit (b ∙ (ap behind_front is.written ∙ behind_is is.name tail run stops)) in
    (is.is ∙ (ap (λ m. Element m is.attributes) (sym name_is) ∙ ap (Element name) (sym read.0)), read.1)

pub text_shorter : (bytes behind label after left : List ℕ) → length behind ≤ length bytes → label ≡ drop 1 behind → after ≡ behind_quote false (drop 1 label) → left ≡ drop 1 after → length left ≤ length bytes
text_shorter bytes behind label after left h d a l =
    let label_length : length label ≡ length behind - 1 = ap length d ∙ length-drop 1 behind in
    let text_length : length (drop 1 label) ≡ length label - 1 = length-drop 1 label in
    let less = behind_shorter false (drop 1 label) in
    let after_length : length after ≡ length (behind_quote false (drop 1 label)) = ap length a in
    let left_length : length left ≡ length after - 1 = ap length l ∙ length-drop 1 after in
    omega arith

pub front_shorter : (bytes label behind : List ℕ) (front_length : ℕ) → length label ≤ length bytes → behind ≡ drop front_length label → length behind ≤ length bytes
front_shorter bytes label behind n h b = let e : length behind ≡ length label - n = ap length b ∙ length-drop n label in omega arith

pub below_one : (l : ℕ) → nat_lt 0 l ≡ true → suc (l - 1) ≡ l
below_one zero h = absurd (grind (arith, nat_tests))
below_one (suc l) h = omega arith
