-- Two shapes of one template have one origin.
use Rattle.std.proofs.Common.{◌≡◌, ℕ, zero, suc, ◌≤◌, ◌==◌, Bool, true, false, ◌⊎◌, refl, sym, subst, ◌∙◌, arith, eqb-true, eq-eqb, inl, inr, List, [], ◌∷◌, Option, Some, None}
use Rattle.std.proofs.lemmas.Bool.{cases_Bool, false≢true}
use Rattle.sig_formula.specs.Trees.{Tree}
use Rattle.sig_formula.specs.declared.formula.RowRef.{RowRef}
use Rattle.page_model.specs.Addresses.{address}
use Rattle.page_model.specs.Forest.{Forest, none, node, after, has, on, parent, label_in}
use Rattle.page_model.specs.Labels.{Root, Text, Element, Look, SameNames, Alike}
use Rattle.page_model.proofs.Shared.{one_address, address_above}
use Rattle.tpl_model.specs.Lines.{Block, empty, text, tag, choice, each, attempt, block_of}
use Rattle.tpl_model.specs.Shapes.{Evaluating, Here, key_here, row_here, Showing, formula_shown, then_shown, within, chosen, each_row, attempted, node_text, attributes_of, attributes_told, shown_block, shown_lines}
use Rattle.tpl_model.specs.Laws.{Fits, OriginLaw}
use Rattle.tpl_model.proofs.Kept.{then_has, attributes_none, inside_has, each_has, chosen_has, attempted_has}
use Rattle.tpl_model.proofs.Single.{times, once_line}

-- the attributes have the names of these lines
abbrev pub Named : List (List ℕ × Tree) → List (List ℕ × Option (List ℕ)) → Type 0
Named [] [] = Unit {0}
Named [] (b ∷ bs) = ⊥
Named (a ∷ xs) [] = ⊥
Named (a ∷ xs) (b ∷ bs) = (a.0 ≡ b.0) × Named xs bs

named_by : (evaluate : Evaluating) (row : Option RowRef) (xs : List (List ℕ × Tree)) → Named xs (attributes_of evaluate row xs)
named_by evaluate row [] = tt
named_by evaluate row (a ∷ xs) = (refl, named_by evaluate row xs)

same_names : (xs : List (List ℕ × Tree)) (vs ws : List (List ℕ × Option (List ℕ))) → Named xs vs → Named xs ws → SameNames vs ws
same_names [] [] [] a b = tt
same_names [] [] (w ∷ ws) a b = absurd b
same_names [] (v ∷ vs) ws a b = absurd a
same_names (x ∷ xs) [] ws a b = absurd a
same_names (x ∷ xs) (v ∷ vs) [] a b = absurd b
same_names (x ∷ xs) (v ∷ vs) (w ∷ ws) a b = (sym a.0 ∙ b.0, same_names xs vs ws a.1 b.1)

pub record IsTag (name : List ℕ) (xs : List (List ℕ × Tree)) (x : Look) : Type 0 where
  pub values : List (List ℕ × Option (List ℕ))
  pub is : x ≡ Element name values
  pub names : Named xs values

pub record IsText (x : Look) : Type 0 where
  pub characters : List ℕ
  pub is : x ≡ Text characters

pub record Own (l : ℕ) (k : Option (List ℕ)) (n : ℕ) (c : Option (List ℕ)) (p q : ℕ) : Type 0 where
  pub line : n ≡ l
  pub row : k ≡ c
  pub above : p ≡ q

-- line l of the block, for row k, gives a node with this look below p, where the block stands in row c below q
abbrev pub Gives : (l : ℕ) (k : Option (List ℕ)) (p : ℕ) (x : Look) → Block → Option (List ℕ) → ℕ → Type 0
Gives l k p x empty c q = ⊥
Gives l k p x (text n f rest) c q = (Own l k n c p q × IsText x) ⊎ Gives l k p x rest c q
Gives l k p x (tag n name xs inner rest) c q = (Own l k n c p q × IsTag name xs x) ⊎ (Gives l k p x inner c
    (address n c) ⊎ Gives l k p x rest c q)
Gives l k p x (choice f a b rest) c q = Gives l k p x a c q ⊎ (Gives l k p x b c q ⊎ Gives l k p x rest c q)
Gives l k p x (each f inner rest) c q = ((key : List ℕ) × Gives l k p x inner (Some key) q) ⊎ Gives l k p x rest c q
Gives l k p x (attempt a b rest) c q = Gives l k p x a c q ⊎ (Gives l k p x b c q ⊎ Gives l k p x rest c q)

pub record From (b : Block) (c : Option (List ℕ)) (q : ℕ) (a p : ℕ) (x : Look) : Type 0 where
  pub line : ℕ
  pub row : Option (List ℕ)
  pub is : a ≡ address line row
  pub gives : Gives line row p x b c q

-- each node, by its address, its parent's and its look
abbrev pub Each : (ℕ → ℕ → Look → Type 0) → ℕ → Forest Look → Type 0
Each R q none = Unit {0}
Each R q (node a x k r) = R a q x × Each R a k × Each R q r

each_after : (R : ℕ → ℕ → Look → Type 0) (q : ℕ) (x y : Forest Look) → Each R q x → Each R q y → Each R q (after x y)
each_after R q none y f g = g
each_after R q (node a l k r) y f g = (f.0, f.1, each_after R q r y f.2 g)

each_map : (R S : ℕ → ℕ → Look → Type 0) → ((a p : ℕ) (x : Look) → R a p x → S a p x) → (q : ℕ) (t : Forest Look) → Each R q t →
    Each S q t
each_map R S h q none f = tt
each_map R S h q (node a x k r) f = (h a q x f.0, each_map R S h a k f.1, each_map R S h q r f.2)

widened : (b b' : Block) (c c' : Option (List ℕ)) (q q' : ℕ) → ((l : ℕ) (k : Option (List ℕ)) (p : ℕ) (x : Look) →
    Gives l k p x b c q → Gives l k p x b' c' q') → (a p : ℕ) (x : Look) → From b c q a p x → From b' c' q' a p x
widened b b' c c' q q' h a p x f = record { line = f.line; row = f.row; is = f.is; gives = h f.line f.row p x f.gives }

pub given : (evaluate : Evaluating) (b : Block) (ends : Bool) (here : Option Here) (q : ℕ) →
    Each (From b (key_here here) q) q (shown_block evaluate ends here b).nodes
given evaluate empty ends here q = tt
given evaluate (text n t rest) ends here q =
    let c = key_here here in
    let R = From (text n t rest) c q in
    let e = evaluate (row_here here) t in
    let own : Each R q (node (address n c) (Text (node_text e.outcome)) none none) = (
      record {
        line = n;
        row = c;
        is = refl;
        gives = inl
            (record { line = refl; row = refl; above = refl }, record { characters = node_text e.outcome; is = refl });
      },
      tt,
      tt,
    ) in
    let later = each_map (From rest c q) R (widened rest (text n t rest) c c q q (λ l k p x g. inr g)) q
    (shown_block evaluate ends here rest).nodes (given evaluate rest ends here q) in
    then_has (Each R q) ends (formula_shown e (node (address n c) (Text (node_text e.outcome)) none none))
    (shown_block evaluate ends here rest) tt (each_after R q (node (address n c) (Text (node_text e.outcome)) none none)
    (shown_block evaluate ends here rest).nodes own later)
given evaluate (tag n name xs inner rest) ends here q =
    let c = key_here here in
    let b = tag n name xs inner rest in
    let R = From b c q in
    let look : Look = Element name (attributes_of evaluate (row_here here) xs) in
    let inside = then_shown ends (attributes_told ends evaluate (row_here here) xs) (shown_block evaluate ends here inner) in
    let i = each_map (From inner c (address n c)) R (widened inner b c c (address n c) q (λ l k p x g. inr (inl g))) (address n c)
    (shown_block evaluate ends here inner).nodes (given evaluate inner ends here (address n c)) in
    let below : Each R (address n c) inside.nodes = inside_has (Each R (address n c)) ends (attributes_told ends evaluate
    (row_here here) xs) (shown_block evaluate ends here inner) (attributes_none ends evaluate (row_here here) xs) tt i in
    let own : Each R q (node (address n c) look inside.nodes none) = (
      record {
        line = n;
        row = c;
        is = refl;
        gives = inl (
          record { line = refl; row = refl; above = refl },
          record {
            values = attributes_of evaluate
                (row_here here) xs;
            is = refl;
            names = named_by evaluate (row_here here) xs;
          },
        );
      },
      below,
      tt,
    ) in
    let later = each_map (From rest c q) R (widened rest b c c q q (λ l k p x g. inr (inr g))) q
    (shown_block evaluate ends here rest).nodes (given evaluate rest ends here q) in
    then_has (Each R q) ends (within (address n c) look inside) (shown_block evaluate ends here rest) tt (each_after R q (node
    (address n c) look inside.nodes none) (shown_block evaluate ends here rest).nodes own later)
given evaluate (choice t one' other rest) ends here q =
    let c = key_here here in
    let b = choice t one' other rest in
    let R = From b c q in
    let e = evaluate (row_here here) t in
    let x = each_map (From one' c q) R (widened one' b c c q q (λ l k p x g. inl g)) q (shown_block evaluate ends here one').nodes
    (given evaluate one' ends here q) in
    let y = each_map (From other c q) R (widened other b c c q q (λ l k p x g. inr (inl g))) q
    (shown_block evaluate ends here other).nodes (given evaluate other ends here q) in
    let own = inside_has (Each R q) ends (formula_shown e none) (chosen e.outcome (shown_block evaluate ends here one')
    (shown_block evaluate ends here other)) refl tt
    (chosen_has (Each R q) tt e.outcome (shown_block evaluate ends here one') (shown_block evaluate ends here other) x y) in
    let later = each_map (From rest c q) R (widened rest b c c q q (λ l k p x g. inr (inr g))) q
    (shown_block evaluate ends here rest).nodes (given evaluate rest ends here q) in
    let first = then_shown ends (formula_shown e none) (chosen e.outcome (shown_block evaluate ends here one')
    (shown_block evaluate ends here other)) in
    then_has (Each R q) ends first (shown_block evaluate ends here rest) tt (each_after R q first.nodes
    (shown_block evaluate ends here rest).nodes own later)
given evaluate (each t inner rest) ends here q =
    let c = key_here here in
    let b = each t inner rest in
    let R = From b c q in
    let e = evaluate (row_here here) t in
    let go : Here → Showing = λ r. shown_block evaluate ends (Some r) inner in
    let one' : (r : Here) → Each R q (go r).nodes = λ r.
    each_map (From inner (Some r.key) q) R (widened inner b (Some r.key) c q q (λ l k p x g. inl (r.key, g))) q (go r).nodes
    (given evaluate inner ends (Some r) q) in
    let own = inside_has (Each R q) ends (formula_shown e none) (each_row ends go e.outcome) refl tt (each_has (Each R q) tt
    (each_after R q) ends go one' e.outcome) in
    let later = each_map (From rest c q) R (widened rest b c c q q (λ l k p x g. inr g)) q (shown_block evaluate ends here rest).nodes
    (given evaluate rest ends here q) in
    let first = then_shown ends (formula_shown e none) (each_row ends go e.outcome) in
    then_has (Each R q) ends first (shown_block evaluate ends here rest) tt (each_after R q first.nodes
    (shown_block evaluate ends here rest).nodes own later)
given evaluate (attempt one' other rest) ends here q =
    let c = key_here here in
    let b = attempt one' other rest in
    let R = From b c q in
    let x = each_map (From one' c q) R (widened one' b c c q q (λ l k p x g. inl g)) q (shown_block evaluate true here one').nodes
    (given evaluate one' true here q) in
    let y = each_map (From other c q) R (widened other b c c q q (λ l k p x g. inr (inl g))) q
    (shown_block evaluate ends here other).nodes (given evaluate other ends here q) in
    let own = attempted_has (Each R q) (shown_block evaluate true here one') (shown_block evaluate ends here other) x y in
    let later = each_map (From rest c q) R (widened rest b c c q q (λ l k p x g. inr (inr g))) q
    (shown_block evaluate ends here rest).nodes (given evaluate rest ends here q) in
    let first = attempted (shown_block evaluate true here one') (shown_block evaluate ends here other) in
    then_has (Each R q) ends first (shown_block evaluate ends here rest) tt (each_after R q first.nodes
    (shown_block evaluate ends here rest).nodes own later)

-- ---- one line gives one node for a row

there : (l : ℕ) (k : Option (List ℕ)) (p : ℕ) (x : Look) (b : Block) (c : Option (List ℕ)) (q : ℕ) → Gives l k p x b c q → 1 ≤ times l b
there l k p x empty c q g = absurd g
there l k p x (text n f rest) c q (inl g) = (let e = eq-eqb n l g.0.line in rw e (omega arith))
there l k p x (text n f rest) c q (inr g) = (let i = there l k p x rest c q g in omega arith)
there l k p x (tag n name xs inner rest) c q (inl g) = (let e = eq-eqb n l g.0.line in rw e (omega arith))
there l k p x (tag n name xs inner rest) c q (inr (inl g)) = (let i = there l k p x inner c (address n c) g in omega arith)
there l k p x (tag n name xs inner rest) c q (inr (inr g)) = (let i = there l k p x rest c q g in omega arith)
there l k p x (choice f a b rest) c q (inl g) = (let i = there l k p x a c q g in omega arith)
there l k p x (choice f a b rest) c q (inr (inl g)) = (let i = there l k p x b c q g in omega arith)
there l k p x (choice f a b rest) c q (inr (inr g)) = (let i = there l k p x rest c q g in omega arith)
there l k p x (each f inner rest) c q (inl g) = (let i = there l k p x inner (Some g.0) q g.1 in omega arith)
there l k p x (each f inner rest) c q (inr g) = (let i = there l k p x rest c q g in omega arith)
there l k p x (attempt a b rest) c q (inl g) = (let i = there l k p x a c q g in omega arith)
there l k p x (attempt a b rest) c q (inr (inl g)) = (let i = there l k p x b c q g in omega arith)
there l k p x (attempt a b rest) c q (inr (inr g)) = (let i = there l k p x rest c q g in omega arith)

-- inside a row all addresses have its key
row_is : (l : ℕ) (k : Option (List ℕ)) (p : ℕ) (x : Look) (b : Block) (c : Option (List ℕ)) (q d : ℕ) → Fits b d true →
    Gives l k p x b c q → k ≡ c
row_is l k p x empty c q d f g = absurd g
row_is l k p x (text n t rest) c q d f (inl g) = g.0.row
row_is l k p x (text n t rest) c q d f (inr g) = row_is l k p x rest c q d f g
row_is l k p x (tag n name xs inner rest) c q zero f g = absurd f
row_is l k p x (tag n name xs inner rest) c q (suc d) f (inl g) = g.0.row
row_is l k p x (tag n name xs inner rest) c q (suc d) f (inr (inl g)) = row_is l k p x inner c (address n c) d f.2 g
row_is l k p x (tag n name xs inner rest) c q (suc d) f (inr (inr g)) = row_is l k p x rest c q (suc d) f.3 g
row_is l k p x (choice t a b rest) c q zero f g = absurd f
row_is l k p x (choice t a b rest) c q (suc d) f (inl g) = row_is l k p x a c q d f.0 g
row_is l k p x (choice t a b rest) c q (suc d) f (inr (inl g)) = row_is l k p x b c q d f.1 g
row_is l k p x (choice t a b rest) c q (suc d) f (inr (inr g)) = row_is l k p x rest c q (suc d) f.2 g
row_is l k p x (each t inner rest) c q zero f g = absurd f
row_is l k p x (each t inner rest) c q (suc d) f g = absurd (false≢true (sym f.0))
row_is l k p x (attempt a b rest) c q zero f g = absurd f
row_is l k p x (attempt a b rest) c q (suc d) f (inl g) = row_is l k p x a c q d f.0 g
row_is l k p x (attempt a b rest) c q (suc d) f (inr (inl g)) = row_is l k p x b c q d f.1 g
row_is l k p x (attempt a b rest) c q (suc d) f (inr (inr g)) = row_is l k p x rest c q (suc d) f.2 g

alike_texts : (x y : Look) → IsText x → IsText y → Alike x y
alike_texts x y u v = rw (u.is, v.is) tt

alike_tags : (name : List ℕ) (xs : List (List ℕ × Tree)) (x y : Look) → IsTag name xs x → IsTag name xs y → Alike x y
alike_tags name xs x y u v = rw (u.is, v.is) (refl, same_names xs u.values v.values u.names v.names)

pub record Same (p p' : ℕ) (x x' : Look) : Type 0 where
  pub parents : p ≡ p'
  pub alike : Alike x x'

only : (l : ℕ) (k : Option (List ℕ)) (p p' : ℕ) (x x' : Look) (b : Block) (c : Option (List ℕ)) (q d : ℕ) (in_row : Bool) →
    Fits b d in_row → times l b ≤ 1 → Gives l k p x b c q → Gives l k p' x' b c q → Same p p' x x'
only l k p p' x x' empty c q d in_row f t g h = absurd g
only l k p p' x x' (text n e rest) c q d in_row f t (inl g) (inl h) = record {
  parents = g.0.above
      ∙ sym h.0.above;
  alike = alike_texts x x' g.1 h.1;
}
only l k p p' x x' (text n e rest) c q d in_row f t (inl g) (inr h) = (let i = there l k p' x' rest c q h in
    let e' = eq-eqb n l g.0.line in let s = rw e' at t in absurd (omega arith))
only l k p p' x x' (text n e rest) c q d in_row f t (inr g) (inl h) = (let i = there l k p x rest c q g in
    let e' = eq-eqb n l h.0.line in let s = rw e' at t in absurd (omega arith))
only l k p p' x x' (text n e rest) c q d in_row f t (inr g) (inr h) = only l k p p' x x' rest c q d in_row f (omega arith) g h
only l k p p' x x' (tag n name xs inner rest) c q zero in_row f t g h = absurd f
only l k p p' x x' (tag n name xs inner rest) c q (suc d) in_row f t (inl g) (inl h) = record {
  parents = g.0.above
      ∙ sym h.0.above;
  alike = alike_tags name xs x x' g.1 h.1;
}
only l k p p' x x' (tag n name xs inner rest) c q (suc d) in_row f t (inl g) (inr (inl h)) = (let i = there l k p' x' inner c
    (address n c) h in let e' = eq-eqb n l g.0.line in let s = rw e' at t in absurd (omega arith))
only l k p p' x x' (tag n name xs inner rest) c q (suc d) in_row f t (inl g) (inr (inr h)) = (let i = there l k p' x' rest c q h in
    let e' = eq-eqb n l g.0.line in let s = rw e' at t in absurd (omega arith))
only l k p p' x x' (tag n name xs inner rest) c q (suc d) in_row f t (inr (inl g)) (inl h) = (let i = there l k p x inner c
    (address n c) g in let e' = eq-eqb n l h.0.line in let s = rw e' at t in absurd (omega arith))
only l k p p' x x' (tag n name xs inner rest) c q (suc d) in_row f t (inr (inl g)) (inr (inl h)) = only l k p p' x x' inner c
    (address n c) d in_row f.2 (omega arith) g h
only l k p p' x x' (tag n name xs inner rest) c q (suc d) in_row f t (inr (inl g)) (inr (inr h)) = (let i = there l k p x inner c
    (address n c) g in let j = there l k p' x' rest c q h in absurd (omega arith))
only l k p p' x x' (tag n name xs inner rest) c q (suc d) in_row f t (inr (inr g)) (inl h) = (let i = there l k p x rest c q g in
    let e' = eq-eqb n l h.0.line in let s = rw e' at t in absurd (omega arith))
only l k p p' x x' (tag n name xs inner rest) c q (suc d) in_row f t (inr (inr g)) (inr (inl h)) =
    (let i = there l k p x rest c q g in let j = there l k p' x' inner c (address n c) h in absurd (omega arith))
only l k p p' x x' (tag n name xs inner rest) c q (suc d) in_row f t (inr (inr g)) (inr (inr h)) = only l k p p' x x' rest c q
    (suc d) in_row f.3 (omega arith) g h
only l k p p' x x' (choice e a b rest) c q zero in_row f t g h = absurd f
only l k p p' x x' (choice e a b rest) c q (suc d) in_row f t (inl g) (inl h) = only l k p p' x x' a c q d in_row f.0 (omega arith) g h
only l k p p' x x' (choice e a b rest) c q (suc d) in_row f t (inl g) (inr (inl h)) = (let i = there l k p x a c q g in
    let j = there l k p' x' b c q h in absurd (omega arith))
only l k p p' x x' (choice e a b rest) c q (suc d) in_row f t (inl g) (inr (inr h)) = (let i = there l k p x a c q g in
    let j = there l k p' x' rest c q h in absurd (omega arith))
only l k p p' x x' (choice e a b rest) c q (suc d) in_row f t (inr (inl g)) (inl h) = (let i = there l k p x b c q g in
    let j = there l k p' x' a c q h in absurd (omega arith))
only l k p p' x x' (choice e a b rest) c q (suc d) in_row f t (inr (inl g)) (inr (inl h)) = only l k p p' x x' b c q d in_row f.1
    (omega arith) g h
only l k p p' x x' (choice e a b rest) c q (suc d) in_row f t (inr (inl g)) (inr (inr h)) = (let i = there l k p x b c q g in
    let j = there l k p' x' rest c q h in absurd (omega arith))
only l k p p' x x' (choice e a b rest) c q (suc d) in_row f t (inr (inr g)) (inl h) = (let i = there l k p x rest c q g in
    let j = there l k p' x' a c q h in absurd (omega arith))
only l k p p' x x' (choice e a b rest) c q (suc d) in_row f t (inr (inr g)) (inr (inl h)) = (let i = there l k p x rest c q g in
    let j = there l k p' x' b c q h in absurd (omega arith))
only l k p p' x x' (choice e a b rest) c q (suc d) in_row f t (inr (inr g)) (inr (inr h)) = only l k p p' x x' rest c q
    (suc d) in_row f.2 (omega arith) g h
only l k p p' x x' (each e inner rest) c q zero in_row f t g h = absurd f
only l k p p' x x' (each e inner rest) c q (suc d) in_row f t (inl g) (inl h) =
    let a = row_is l k p x inner (Some g.0) q d f.1 g.1 in
    let b = row_is l k p' x' inner (Some h.0) q d f.1 h.1 in
    let s : Some h.0 ≡ Some g.0 = sym b ∙ a in
    only l k p p' x x' inner (Some g.0) q d true f.1 (omega arith) g.1 (subst (λ o. Gives l k p' x' inner o q) s h.1)
only l k p p' x x' (each e inner rest) c q (suc d) in_row f t (inl g) (inr h) = (let i = there l k p x inner (Some g.0) q g.1 in
    let j = there l k p' x' rest c q h in absurd (omega arith))
only l k p p' x x' (each e inner rest) c q (suc d) in_row f t (inr g) (inl h) = (let i = there l k p x rest c q g in
    let j = there l k p' x' inner (Some h.0) q h.1 in absurd (omega arith))
only l k p p' x x' (each e inner rest) c q (suc d) in_row f t (inr g) (inr h) = only l k p p' x x' rest c q (suc d) in_row f.2
    (omega arith) g h
only l k p p' x x' (attempt a b rest) c q zero in_row f t g h = absurd f
only l k p p' x x' (attempt a b rest) c q (suc d) in_row f t (inl g) (inl h) = only l k p p' x x' a c q d in_row f.0 (omega arith) g h
only l k p p' x x' (attempt a b rest) c q (suc d) in_row f t (inl g) (inr (inl h)) = (let i = there l k p x a c q g in
    let j = there l k p' x' b c q h in absurd (omega arith))
only l k p p' x x' (attempt a b rest) c q (suc d) in_row f t (inl g) (inr (inr h)) = (let i = there l k p x a c q g in
    let j = there l k p' x' rest c q h in absurd (omega arith))
only l k p p' x x' (attempt a b rest) c q (suc d) in_row f t (inr (inl g)) (inl h) = (let i = there l k p x b c q g in
    let j = there l k p' x' a c q h in absurd (omega arith))
only l k p p' x x' (attempt a b rest) c q (suc d) in_row f t (inr (inl g)) (inr (inl h)) = only l k p p' x x' b c q d in_row f.1
    (omega arith) g h
only l k p p' x x' (attempt a b rest) c q (suc d) in_row f t (inr (inl g)) (inr (inr h)) = (let i = there l k p x b c q g in
    let j = there l k p' x' rest c q h in absurd (omega arith))
only l k p p' x x' (attempt a b rest) c q (suc d) in_row f t (inr (inr g)) (inl h) = (let i = there l k p x rest c q g in
    let j = there l k p' x' a c q h in absurd (omega arith))
only l k p p' x x' (attempt a b rest) c q (suc d) in_row f t (inr (inr g)) (inr (inl h)) = (let i = there l k p x rest c q g in
    let j = there l k p' x' b c q h in absurd (omega arith))
only l k p p' x x' (attempt a b rest) c q (suc d) in_row f t (inr (inr g)) (inr (inr h)) = only l k p p' x x' rest c q
    (suc d) in_row f.2 (omega arith) g h

-- ---- nodes that are looked up

found_top : (R : ℕ → ℕ → Look → Type 0) (q a : ℕ) (t : Forest Look) → Each R q t → has a t ≡ true → (x : Look) × R a q x
found_top R q a none f h = absurd (false≢true h)
found_top R q a (node m x k r) f h = elim (cases_Bool (m == a)) [
  | inl e ↦ (x, subst (λ i. R i q x) (eqb-true m a e) f.0)
  | inr e ↦ found_top R q a r f.2 (rw e at h)
]

found_parent : (R : ℕ → ℕ → Look → Type 0) (q a : ℕ) (t : Forest Look) → Each R q t → has a t ≡ false → on a t ≡ true →
    (x : Look) × R a (parent a t) x
found_parent R q a none f n h = absurd (false≢true h)
found_parent R q a (node m x k r) f n h = elim (cases_Bool (m == a)) [
  | inl e ↦ absurd (false≢true (sym (rw e at n)))
  | inr e ↦ elim (cases_Bool (has a k)) [
    | inl u ↦ rw u (found_top R m a k f.1 u)
    | inr u ↦ elim (cases_Bool (on a k)) [
      | inl v ↦ rw (u, v) (found_parent R m a k f.1 u v)
      | inr v ↦ rw (u, v) (found_parent R q a r f.2 (rw e at n) (rw (e, v) at h))
    ]
  ]
]

found_label : (R : ℕ → ℕ → Look → Type 0) (q a : ℕ) (t : Forest Look) → Each R q t → on a t ≡ true → (p : ℕ) × R a p (label_in Root a t)
found_label R q a none f h = absurd (false≢true h)
found_label R q a (node m x k r) f h = elim (cases_Bool (m == a)) [
  | inl e ↦ rw e (q, subst (λ i. R i q x) (eqb-true m a e) f.0)
  | inr e ↦ elim (cases_Bool (on a k)) [
    | inl v ↦ rw (e, v) (found_label R m a k f.1 v)
    | inr v ↦ rw (e, v) (found_label R q a r f.2 (rw (e, v) at h))
  ]
]

-- the parent of a node under the root
found : (R : ℕ → ℕ → Look → Type 0) (a : ℕ) (t : Forest Look) → Each R 0 t → on a t ≡ true →
    (x : Look) × R a (parent a (node 0 Root t none)) x
found R a t f h = elim (cases_Bool (has a t)) [
  | inl u ↦ rw u (found_top R 0 a t f u)
  | inr u ↦ rw (u, h) (found_parent R 0 a t f u h)
]

same_from : (b : Block) (d : ℕ) → Fits b d false → ((l : ℕ) → times l b ≤ 1) → (a p p' : ℕ) (x x' : Look) → From b None 0 a p x →
    From b None 0 a p' x' → Same p p' x x'
same_from b d f t a p p' x x' g h =
    let e = one_address h.line g.line h.row g.row (sym h.is ∙ g.is) in
    let i = subst (λ l. Gives l h.row p' x' b None 0) e.0 h.gives in
    let j = subst (λ k. Gives g.line k p' x' b None 0) e.1 i in
    only g.line g.row p p' x x' b None 0 d false f (t g.line) g.gives j

pub off_root : (b : Block) (t : Forest Look) → Each (From b None 0) 0 t → on 0 t ≡ false
off_root b t f = elim (cases_Bool (on 0 t)) [
  | inl e ↦ (let g = found_label (From b None 0) 0 0 t f e in let u = address_above g.1.line g.1.row in let v = g.1.is in
      absurd (omega arith))
  | inr e ↦ e
]

top_off : (a : ℕ) (t : Forest Look) → on a t ≡ false → has a t ≡ false
top_off a none h = refl
top_off a (node m x k r) h = elim (cases_Bool (m == a)) [
  | inl e ↦ absurd (false≢true (sym (rw e at h)))
  | inr e ↦ elim (cases_Bool (on a k)) [
    | inl v ↦ absurd (false≢true (sym (rw (e, v) at h)))
    | inr v ↦ rw e (top_off a r (rw (e, v) at h))
  ]
]

pub root_parent : (b : Block) (t : Forest Look) → Each (From b None 0) 0 t → parent 0 (node 0 Root t none) ≡ 0
root_parent b t f = (let e = off_root b t f in let u = top_off 0 t e in rw (u, e) refl)

below_root : (a : ℕ) (t : Forest Look) → (0 == a) ≡ false → on a (node 0 Root t none) ≡ true → on a t ≡ true
below_root a t e h = elim (cases_Bool (on a t)) [
  | inl v ↦ v
  | inr v ↦ absurd (false≢true (rw (e, v) at h))
]

-- two shapes of one template have one origin
pub origin_law : OriginLaw
origin_law lines evaluate later f =
    let b = block_of lines in
    let s = (shown_lines evaluate lines).nodes in
    let t = (shown_lines later lines).nodes in
    let u : Each (From b None 0) 0 s = given evaluate b false None 0 in
    let v : Each (From b None 0) 0 t = given later b false None 0 in
    let once : (l : ℕ) → times l b ≤ 1 = λ l. once_line l lines in
    record {
      parents = λ a h h'. elim (cases_Bool (0 == a)) [
        | inl e ↦ (let q : 0 ≡ a = eqb-true 0 a e in subst (λ i. parent i (node 0 Root s none) ≡ parent i (node 0 Root t none)) q
            (root_parent b s u ∙ sym (root_parent b t v)))
        | inr e ↦ (
            let x = found (From b None 0) a s u (below_root a s e h) in
            let y = found (From b None 0) a t v (below_root a t e h') in
            (same_from b 31 f once a _ _ x.0 y.0 x.1 y.1).parents)
      ];
      lines = λ a h h'. elim (cases_Bool (0 == a)) [
        | inl e ↦ rw e tt
        | inr e ↦ (
            let i = below_root a s e h in
            let j = below_root a t e h' in
            let x = found_label (From b None 0) 0 a s u i in
            let y = found_label (From b None 0) 0 a t v j in
            rw (e, i, j) ((same_from b 31 f once a x.0 y.0 (label_in Root a s) (label_in Root a t) x.1 y.1).alike))
      ];
    }
