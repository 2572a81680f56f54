-- The body of statements means them.
use Rattle.std.proofs.Common.{◌≡◌, ℕ, zero, suc, ◌+◌, List, [], ◌∷◌, ◌++◌, drop, length, Option, Some, refl, subst, sym, ap, ap₂, ◌∙◌, append_assoc, arith}
use Rattle.std.proofs.lemmas.List.{append-nil, drop-drop, drop_at, length-append}
use Rattle.effect_model.specs.Lines.{formula_of, target_of}
use Rattle.effect_model.proofs.SharedLines.{mapped_back}
use Rattle.sig_untrack.specs.Stated as stated
use Rattle.sig_untrack.specs.Stated.{Stated, Rewiring, Bodies, no_bodies}
use Rattle.formula_text.specs.Grammar.{Draft, leaf, negation, binary, choice, of_row, one_part, each_row}
use Rattle.formula_text.specs.Refusals.{slot_of, slotted, with_name, with_names}
use Rattle.formula_text.specs.Canonical.{named, unslotted}
use Rattle.formula_text.specs.Signs.{name, constant}
use Rattle.formula_text.proofs.Shared.{Has, HasEach, each_there, named_again, named_back, named_slot}
use Rattle.body_text.specs.declared.line.Source.{Source}
use Rattle.body_text.specs.declared.line.Source.TheVariants as source
use Rattle.body_text.specs.Parts.{appended}
use Rattle.body_text.specs.Names.{GoOn}
use Rattle.body_text.specs.Statements.{Statement, Statements, done, plain, rewire, when, effect, body_of, effects_of, own_effects, own_rewires, placed, placed_line, rewiring_of, rewirings_of, with_formula, with_own, with_target, with_targets}
use Rattle.body_text.specs.Printer.{Parts, effect_at, meaning, meanings, meant, named_line, rewired_at, source_of}
use Rattle.body_text.proofs.Sequences.{goes_own, goes_targets}
use Rattle.line_forms.proofs.Shared.{there}

-- ---- the names of statements

-- each name of the formula stays
each_on : (ns ms : List (List ℕ)) (x : Draft) → GoOn ns ms → HasEach ns x → HasEach ms x
each_on ns ms (leaf (name n)) g h = (g.kept n h).0
each_on ns ms (leaf (constant s)) g h = tt
each_on ns ms (negation x) g h = each_on ns ms x g h
each_on ns ms (binary o x y) g h = (each_on ns ms x g h.0, each_on ns ms y g h.1)
each_on ns ms (choice w x y) g h = (each_on ns ms w g h.0, each_on ns ms x g h.1, each_on ns ms y g h.2)
each_on ns ms (of_row n) g h = tt
each_on ns ms (one_part f x) g h = each_on ns ms x g h
each_on ns ms (each_row f x y) g h = (each_on ns ms x g h.0, each_on ns ms y g h.1)

-- what a statement acts on and reads is there
pub record HasLine (ts ns : List (List ℕ)) (a : Statement) : Type 0 where
  pub target : (n : List ℕ) → target_of a ≡ Some n → Has ts n
  pub formula : (x : Draft) → formula_of a ≡ Some x → HasEach ns x

-- the same of the own statements of a body
abbrev pub HasOwn : List (List ℕ) → List (List ℕ) → Statements → Type 0
HasOwn ts ns done = Unit {0}
HasOwn ts ns (plain a s) = HasLine ts ns a × HasOwn ts ns s
HasOwn ts ns (rewire n x s) = Has ts n × HasOwn ts ns s
HasOwn ts ns (when x i s) = HasEach ns x × HasOwn ts ns i × HasOwn ts ns s
HasOwn ts ns (effect i s) = HasOwn ts ns s

line_on : (ts us ns ms : List (List ℕ)) (a : Statement) → GoOn ts us → GoOn ns ms → HasLine ts ns a → HasLine us ms a
line_on ts us ns ms a g h l =
    record { target = λ n e. (g.kept n (l.target n e)).0; formula = λ x e. each_on ns ms x h (l.formula x e) }

own_on : (ts us ns ms : List (List ℕ)) (s : Statements) → GoOn ts us → GoOn ns ms → HasOwn ts ns s → HasOwn us ms s
own_on ts us ns ms done g h o = tt
own_on ts us ns ms (plain a s) g h o = (line_on ts us ns ms a g h o.0, own_on ts us ns ms s g h o.1)
own_on ts us ns ms (rewire n x s) g h o = ((g.kept n o.0).0, own_on ts us ns ms s g h o.1)
own_on ts us ns ms (when x i s) g h o = (each_on ns ms x h o.0, own_on ts us ns ms i g h o.1, own_on ts us ns ms s g h o.2)
own_on ts us ns ms (effect i s) g h o = own_on ts us ns ms s g h o

line_there : (ts ns : List (List ℕ)) (a : Statement) → HasLine (with_target ts (target_of a)) (with_formula ns (formula_of a)) a
line_there ts ns a = record {
  target = λ n e. subst (λ (o : Option (List ℕ)). Has (with_target ts o) n) (sym e) (there ts n);
  formula = λ x e. subst (λ (o : Option Draft). HasEach (with_formula ns o) x) (sym e) (each_there ns x);
}

pub own_there : (ts ns : List (List ℕ)) (s : Statements) → HasOwn (with_targets ts s) (with_own ns s) s
own_there ts ns done = tt
own_there ts ns (plain a s) =
    let us = with_target ts (target_of a) in
    let ms = with_formula ns (formula_of a) in
    (line_on us (with_targets us s) ms (with_own ms s) a (goes_targets us s) (goes_own ms s) (line_there ts ns a), own_there us ms s)
own_there ts ns (rewire n x s) =
    let us = with_name ts n in (((goes_targets us s).kept n (there ts n)).0, own_there us ns s)
own_there ts ns (when x i s) =
    let ms = with_names ns x in
    let us = with_targets ts i in
    let ks = with_own ms i in (
      each_on ks (with_own ks s) x (goes_own ks s) (each_on ms ks x (goes_own ms i) (each_there ns x)),
      own_on us (with_targets us s) ks (with_own ks s) i (goes_targets us s) (goes_own ks s) (own_there ts ms i),
      own_there us ks s,
    )
own_there ts ns (effect i s) = own_there ts ns s

-- ---- what stands at places

-- the statements of the own nested effects
abbrev pub nested_of : Statements → List Statements
nested_of done = []
nested_of (plain a s) = nested_of s
nested_of (rewire n x s) = nested_of s
nested_of (when x i s) = nested_of i ++ nested_of s
nested_of (effect i s) = i ∷ nested_of s

nested_count : (s : Statements) → length (nested_of s) ≡ own_effects s
nested_count done = refl
nested_count (plain a s) = nested_count s
nested_count (rewire n x s) = nested_count s
nested_count (when x i s) = let e = nested_count i in let f = nested_count s in let g = length-append (nested_of i) (nested_of s) in omega arith
nested_count (effect i s) = let e = nested_count s in omega arith

rewires_count : (ts : List (List ℕ)) (s : Statements) → length (rewirings_of ts s) ≡ own_rewires s
rewires_count ts done = refl
rewires_count ts (plain a s) = rewires_count ts s
rewires_count ts (rewire n x s) = let e = rewires_count ts s in omega arith
rewires_count ts (when x i s) =
    let e = rewires_count ts i in let f = rewires_count ts s in let g = length-append (rewirings_of ts i) (rewirings_of ts s) in omega arith
rewires_count ts (effect i s) = rewires_count ts s

-- behind so many more
drop_past : {A : Type 0} (n k : ℕ) (xs ys zs : List A) → drop n xs ≡ ys ++ zs → length ys ≡ k → drop (n + k) xs ≡ zs
drop_past n k xs ys zs e l = sym (drop-drop k n xs) ∙ ap (drop k) e ∙ drop_at ys zs k l

effect_there : (n : ℕ) (xs : List Statements) (y : Statements) (ys : List Statements) → drop n xs ≡ y ∷ ys → effect_at xs n ≡ y
effect_there zero [] y ys e = absurd cc
effect_there zero (x ∷ xs) y ys e = cc
effect_there (suc n) [] y ys e = absurd cc
effect_there (suc n) (x ∷ xs) y ys e = effect_there n xs y ys e

rewired_there : (ts : List (List ℕ)) (n : ℕ) (xs : List Rewiring) (y : Rewiring) (ys : List Rewiring) (rest : Statements) → drop n xs ≡ y ∷ ys
    → rewired_at ts xs n rest ≡ rewire (named ts y.target) (source_of y.source y.names) rest
rewired_there ts zero [] y ys rest e = absurd cc
rewired_there ts zero (x ∷ xs) y ys rest e =
    let same : x ≡ y = cc in ap (λ (z : Rewiring). rewire (named ts z.target) (source_of z.source z.names) rest) same
rewired_there ts (suc n) [] y ys rest e = absurd cc
rewired_there ts (suc n) (x ∷ xs) y ys rest e = rewired_there ts n xs y ys rest e

rewire_back : (ts : List (List ℕ)) (n : List ℕ) (s : Source) (rest : Statements) → Has ts n
    → rewire (named ts (rewiring_of (slot_of ts n) s).target) (source_of (rewiring_of (slot_of ts n) s).source (rewiring_of (slot_of ts n) s).names) rest
    ≡ rewire n s rest
rewire_back ts n (source.Formula x) rest h = ap₂ (λ (m : List ℕ) (y : Draft). rewire m (source.Formula y) rest) (named_slot ts n h) (named_back x)
rewire_back ts n (source.Host k ns) rest h = ap (λ (m : List ℕ). rewire m (source.Host k ns) rest) (named_slot ts n h)

-- ---- statements mean themselves

line_back : (ts ns : List (List ℕ)) (a : Statement) → HasLine ts ns a → named_line ts ns (placed_line ts ns a) ≡ a
line_back ts ns a h =
    mapped_back (slot_of ts) (named ts) (slotted ns) (unslotted ns) a (λ n e. named_slot ts n (h.target n e)) (λ x e. named_again ns x (h.formula x e))

then_none : (s : Statements) → appended s done ≡ s
then_none done = refl
then_none (plain a s) = ap (plain a) (then_none s)
then_none (rewire n x s) = ap (rewire n x) (then_none s)
then_none (when x i s) = ap (when x i) (then_none s)
then_none (effect i s) = ap (effect i) (then_none s)

pub back : (b : Parts) (e r : ℕ) (s : Statements) (es : List Statements) (rs : List Rewiring) (after : Stated) → HasOwn b.targets b.names s
    → drop e b.effects ≡ nested_of s ++ es → drop r b.rewires ≡ rewirings_of b.targets s ++ rs
    → meant b (placed b.targets b.names e r s after) ≡ appended s (meant b after)
back b e r done es rs after h f g = refl
back b e r (plain a s) es rs after h f g = ap₂ plain (line_back b.targets b.names a h.0) (back b e r s es rs after h.1 f g)
back b e r (rewire n x s) es rs after h f g =
    let one = rewiring_of (slot_of b.targets n) x in
    let next = drop_past r 1 b.rewires (one ∷ []) (rewirings_of b.targets s ++ rs) g refl in
    rewired_there b.targets r b.rewires one (rewirings_of b.targets s ++ rs) (meant b (placed b.targets b.names e (r + 1) s after)) g
    ∙ rewire_back b.targets n x (meant b (placed b.targets b.names e (r + 1) s after)) h.0
    ∙ ap (rewire n x) (back b e (r + 1) s es rs after h.1 f next)
back b e r (when x i s) es rs after h f g =
    let effects = f ∙ append_assoc (nested_of i) (nested_of s) es in
    let rewires = g ∙ append_assoc (rewirings_of b.targets i) (rewirings_of b.targets s) rs in
    let inner = back b e r i (nested_of s ++ es) (rewirings_of b.targets s ++ rs) stated.no_more h.1 effects rewires ∙ then_none i in
    let rest = back b (e + own_effects i) (r + own_rewires i) s es rs after h.2
    (drop_past e (own_effects i) b.effects (nested_of i) (nested_of s ++ es) effects (nested_count i))
    (drop_past r (own_rewires i) b.rewires (rewirings_of b.targets i) (rewirings_of b.targets s ++ rs) rewires (rewires_count b.targets i)) in
    ap (λ (y : Draft). when y (meant b (placed b.targets b.names e r i stated.no_more)) (meant b (placed b.targets b.names (e + own_effects i) (r + own_rewires i) s after)))
    (named_again b.names x h.0)
    ∙ ap₂ (when x) inner rest
back b e r (effect i s) es rs after h f g =
    ap₂ effect (effect_there e b.effects i (nested_of s ++ es) f)
    (back b (e + 1) r s es rs after h (drop_past e 1 b.effects (i ∷ []) (nested_of s ++ es) f refl) g)

-- a body means its statements, where its nested effects mean theirs
own_back : (s : Statements) (inner : List Statements) → inner ≡ nested_of s
    → meant (record { targets = with_targets [] s; names = with_own [] s; effects = inner; rewires = rewirings_of (with_targets [] s) s })
    (placed (with_targets [] s) (with_own [] s) 0 0 s stated.no_more) ≡ s
own_back s inner e =
    let b : Parts = record { targets = with_targets [] s; names = with_own [] s; effects = inner; rewires = rewirings_of (with_targets [] s) s } in
    back b 0 0 s [] [] stated.no_more (own_there [] [] s) (e ∙ sym (append-nil (nested_of s))) (sym (append-nil (rewirings_of (with_targets [] s) s)))
    ∙ then_none s

pub nested_back : (s : Statements) (others : Bodies) → meanings (effects_of s others) ≡ nested_of s ++ meanings others
nested_back done others = refl
nested_back (plain a s) others = nested_back s others
nested_back (rewire n x s) others = nested_back s others
nested_back (when x i s) others =
    nested_back i (effects_of s others) ∙ ap (λ (ms : List Statements). nested_of i ++ ms) (nested_back s others)
    ∙ sym (append_assoc (nested_of i) (nested_of s) (meanings others))
nested_back (effect i s) others =
    ap₂ (λ (m : Statements) (ms : List Statements). m ∷ ms)
    (own_back i (meanings (effects_of i no_bodies)) (nested_back i no_bodies ∙ append-nil (nested_of i))) (nested_back s others)

-- the body of statements means them
pub meant_back : (s : Statements) → meaning (body_of s) ≡ s
meant_back s = own_back s (meanings (effects_of s no_bodies)) (nested_back s no_bodies ∙ append-nil (nested_of s))
