-- What a node says otherwise than the tree has it, one operation after the other.
use Rattle.std.proofs.Common.{◌≡◌, ℕ, suc, true, false, refl, sym, ap, ◌∙◌, append_assoc, append-nil, List, [], ◌∷◌, ◌++◌, map, Option, Some, None, inl, inr}
use Rattle.std.specs.List.{flat_map}
use Rattle.std.specs.Str.{bytes_eq}
use Rattle.std.proofs.lemmas.Bool.{cases_Bool}
use Rattle.std.proofs.lemmas.List.{map-append}
use Rattle.page_model.specs.Edits.{line_edits, same_value}
use Rattle.page_model.specs.Labels.{Root, Text, Element, Kind}
use Rattle.page_model.specs.Replay.{Op, OpAttr, OpText, OpUnattr}
use Rattle.page_ops.specs.Ops.{op_of}
use Rattle.page_ops.specs.declared.op.Op as held
use Rattle.page_tree.specs.Queries.{attribute_count, attribute_value, text_in, value_named}
use Rattle.page_tree.specs.Rows.{attributes_of}
use Rattle.tpl_model.specs.NextPage.KeptNodes.{attributes_told, told_on}
use Rattle.tpl_patch.specs.Attributes.{set_edits, unset_edits}

-- one operation behind others
pub pushed : (os ps : List held.Op) (o : held.Op) (x : Op) → ps ≡ os ++ o ∷ [] → op_of o ≡ x → map op_of ps ≡ map op_of os ++ x ∷ []
pushed os ps o x e f = ap (map op_of) e ∙ (map-append op_of os (o ∷ []) ∙ ap (λ z. map op_of os ++ z ∷ []) f)

-- ---- one attribute

pub no_unset : (n : ℕ) (name : List ℕ) (o : Option (List ℕ)) (os : List Op) → None ≡ o → os ≡ os ++ unset_edits n name o
no_unset n name None os e = sym (append-nil os)
no_unset n name (Some u) os e = absurd (cc)

pub one_unset : (n : ℕ) (name : List ℕ) (o : Option (List ℕ)) (u : List ℕ) (os ps : List Op) → Some u ≡ o → ps ≡ os ++ OpUnattr n name ∷ [] →
    ps ≡ os ++ unset_edits n name o
one_unset n name None u os ps e h = absurd (cc)
one_unset n name (Some v) u os ps e h = h

pub no_set : (n i : ℕ) (name : List ℕ) (o : Option (List ℕ)) (v : List ℕ) (os : List Op) → same_value o v ≡ true → os ≡ os ++ set_edits n i name o v
no_set n i name o v os e = rw e (sym (append-nil os))

pub one_set : (n i : ℕ) (name : List ℕ) (o : Option (List ℕ)) (v : List ℕ) (os ps : List Op) → same_value o v ≡ false →
    ps ≡ os ++ OpAttr n i name v ∷ [] → ps ≡ os ++ set_edits n i name o v
one_set n i name o v os ps e h = rw e h

-- the later ones behind it
pub unset_line : (n i : ℕ) (name : List ℕ) (o : Option (List ℕ)) (later : ℕ → List Op) (os ps : List Op) → ps ≡ os ++ unset_edits n name o →
    ps ++ later i ≡ os ++ line_edits n i name o None later
unset_line n i name None later os ps e = ap (λ z. z ++ later i) e ∙ append_assoc os [] (later i)
unset_line n i name (Some u) later os ps e = ap (λ z. z ++ later i) e ∙ append_assoc os (OpUnattr n name ∷ []) (later i)

pub set_line : (n i j : ℕ) (name : List ℕ) (o : Option (List ℕ)) (v : List ℕ) (later : ℕ → List Op) (os ps : List Op) → j ≡ suc i →
    ps ≡ os ++ set_edits n i name o v → ps ++ later j ≡ os ++ line_edits n i name o (Some v) later
set_line n i j name None v later os ps q e =
    ap (λ z. z ++ later j) e ∙ (append_assoc os (OpAttr n i name v ∷ []) (later j) ∙ ap (λ z. os ++ OpAttr n i name v ∷ later z) q)
set_line n i j name (Some u) v later os ps q e = elim (cases_Bool (bytes_eq u v)) [
  | inl h ↦ (let e' = rw h at e in rw h (ap (λ z. z ++ later j) e' ∙ (append_assoc os [] (later j) ∙ ap (λ z. os ++ later z) q)))
  | inr h ↦ (
      let e' = rw h at e in
      rw h (ap (λ z. z ++ later j) e' ∙ (append_assoc os (OpAttr n i name v ∷ []) (later j) ∙ ap (λ z. os ++ OpAttr n i name v ∷ later z) q)))
]

-- ---- the attributes of a node

value_is : (name : List ℕ) (k : Kind) → attribute_value name k ≡ value_named name (attributes_of k)
value_is name Root = refl
value_is name (Text t) = refl
value_is name (Element element now) = refl

-- one line more is told
pub line_told : (n : ℕ) (k : Kind) (x : List ℕ × Option (List ℕ)) (ls rest : List (List ℕ × Option (List ℕ))) (i j : ℕ) (a os ps : List Op) → ls ≡ x ∷ rest →
    ((later : ℕ → List Op) → ps ++ later j ≡ os ++ line_edits n i x.0 (attribute_value x.0 k) x.1 later) →
    os ++ attributes_told n (attributes_of k) ls i ≡ a → ps ++ attributes_told n (attributes_of k) rest j ≡ a
line_told n k x ls rest i j a os ps e h before =
    let later : ℕ → List Op = attributes_told n (attributes_of k) rest in
    h later
    ∙ (ap (λ o. os ++ line_edits n i x.0 o x.1 later) (value_is x.0 k) ∙ (ap (λ z. os ++ attributes_told n (attributes_of k) z i) (sym e) ∙ before))

pub lines_told : (n : ℕ) (k : Kind) (c : ℕ) (name : List ℕ) (xs ls : List (List ℕ × Option (List ℕ))) (i : ℕ) (os ps : List Op) → Some c ≡ attribute_count k →
    ls ≡ [] → ps ++ attributes_told n (attributes_of k) ls i ≡ os ++ attributes_told n (attributes_of k) xs 0 → ps ≡ os ++ told_on n k (Element name xs)
lines_told n Root c name xs ls i os ps e q h = absurd (cc)
lines_told n (Text t) c name xs ls i os ps e q h = absurd (cc)
lines_told n (Element element now) c name xs ls i os ps e q h = sym (append-nil ps) ∙ (ap (λ z. ps ++ attributes_told n now z i) (sym q) ∙ h)

pub no_element : (n : ℕ) (k : Kind) (name : List ℕ) (xs : List (List ℕ × Option (List ℕ))) (os : List Op) → None ≡ attribute_count k →
    os ≡ os ++ told_on n k (Element name xs)
no_element n Root name xs os e = sym (append-nil os)
no_element n (Text t) name xs os e = sym (append-nil os)
no_element n (Element element now) name xs os e = absurd (cc)

-- ---- a text

pub no_text : (n : ℕ) (k : Kind) (t : List ℕ) (os : List Op) → None ≡ text_in k → os ≡ os ++ told_on n k (Text t)
no_text n Root t os e = sym (append-nil os)
no_text n (Text s) t os e = absurd (cc)
no_text n (Element name now) t os e = sym (append-nil os)

pub same_text : (n : ℕ) (k : Kind) (s t : List ℕ) (os : List Op) → Some s ≡ text_in k → bytes_eq s t ≡ true → os ≡ os ++ told_on n k (Text t)
same_text n Root s t os e h = absurd (cc)
same_text n (Text u) s t os e h =
    let q : s ≡ u = cc in
    let f : bytes_eq u t ≡ true = ap (λ z. bytes_eq z t) (sym q) ∙ h in
    rw f (sym (append-nil os))
same_text n (Element name now) s t os e h = absurd (cc)

pub other_text : (n : ℕ) (k : Kind) (s t : List ℕ) (os ps : List Op) → Some s ≡ text_in k → bytes_eq s t ≡ false → ps ≡ os ++ OpText n t ∷ [] →
    ps ≡ os ++ told_on n k (Text t)
other_text n Root s t os ps e h p = absurd (cc)
other_text n (Text u) s t os ps e h p =
    let q : s ≡ u = cc in
    let f : bytes_eq u t ≡ false = ap (λ z. bytes_eq z t) (sym q) ∙ h in
    rw f p
other_text n (Element name now) s t os ps e h p = absurd (cc)

-- ---- a node

pub no_root : (n : ℕ) (k : Kind) (os : List Op) → os ≡ os ++ told_on n k Root
no_root n Root os = sym (append-nil os)
no_root n (Text s) os = sym (append-nil os)
no_root n (Element name now) os = sym (append-nil os)

-- one node more
pub node_told : {X : Type 0} (f : X → List Op) (x : X) (ls rest : List X) (a os ps : List Op) → ls ≡ x ∷ rest → ps ≡ os ++ f x → os ++ flat_map f ls ≡ a →
    ps ++ flat_map f rest ≡ a
node_told f x ls rest a os ps e h before =
    ap (λ z. z ++ flat_map f rest) h ∙ (append_assoc os (f x) (flat_map f rest) ∙ (ap (λ z. os ++ flat_map f z) (sym e) ∙ before))
