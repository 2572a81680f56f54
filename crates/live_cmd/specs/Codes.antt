-- How bodies are stored where a value holds one: by their parts, each behind its own parts.
use Rattle.std.specs.Prelude.{◌≡◌, ◌⊎◌, ℕ, zero, suc, List, [], ◌∷◌, refl}
use Rattle.std.specs.Coded.{Coded, code_by, coded_list, coded_ℕ, coded×, coded⊎}
use Rattle.std.proofs.Common.{◌∙◌, ap, inl, inr}
use Rattle.sig_formula.specs.Codes.{tree_code}
use Rattle.sig_formula.specs.Trees.{Tree, slot}
use Rattle.effect_model.specs.declared.plain.Plain.{Plain}
use Rattle.effect_model.specs.declared.plain.Plain.TheVariants as line
use Rattle.sig_untrack.specs.Stated.{Stated, no_more, plain, when, effect, rewire}
use Rattle.sig_untrack.specs.Stated.{Source, formula, host, Rewiring, Bodies, no_bodies, body}

-- ---- statements

-- which statement it is, its place, and its formula
abbrev Part : Type 0
Part = ℕ × (ℕ × Tree)

-- a statement with a place and no formula
abbrev placed : ℕ → ℕ → Part
placed tag n = (tag, (n, slot 0))

-- a statement of one line; the numbers before theirs are of the others
abbrev line_part : Plain ℕ ℕ Tree → Part
line_part (line.Set n t) = (4, (n, t))
line_part (line.Log t) = (5, (0, t))
line_part (line.CleanupSet n t) = (6, (n, t))
line_part (line.CleanupLog t) = (7, (0, t))
line_part (line.Dispose n) = placed 8 n

-- the one with a number, from the first of them on
abbrev line_with : ℕ → ℕ → Tree → Plain ℕ ℕ Tree
line_with zero n t = line.Set n t
line_with (suc zero) n t = line.Log t
line_with (suc (suc zero)) n t = line.CleanupSet n t
line_with (suc (suc (suc zero))) n t = line.CleanupLog t
line_with _ n t = line.Dispose n

-- the parts of statements, and those behind them
abbrev parts_of : Stated → List Part → List Part
parts_of no_more rest = placed 0 0 ∷ rest
parts_of (plain a s) rest = parts_of s (line_part a ∷ rest)
parts_of (when t i s) rest = parts_of i (parts_of s ((1, (0, t)) ∷ rest))
parts_of (effect n s) rest = parts_of s (placed 2 n ∷ rest)
parts_of (rewire n s) rest = parts_of s (placed 3 n ∷ rest)

-- the statements of a stack, once one more is put before those on top
abbrev with_tag : ℕ → ℕ → Tree → List Stated → List Stated
with_tag zero n t stack = no_more ∷ stack
with_tag (suc zero) n t (s ∷ i ∷ stack) = when t i s ∷ stack
with_tag (suc (suc zero)) n t (s ∷ stack) = effect n s ∷ stack
with_tag (suc (suc (suc zero))) n t (s ∷ stack) = rewire n s ∷ stack
with_tag (suc (suc (suc (suc k)))) n t (s ∷ stack) = plain (line_with k n t) s ∷ stack
with_tag _ n t stack = stack

-- the statements of a stack, once all parts are put on
abbrev stack_of : List Part → List Stated → List Stated
stack_of [] stack = stack
stack_of (p ∷ ps) stack = stack_of ps (with_tag p.0 p.1.0 p.1.1 stack)

-- those on top
abbrev first_of : List Stated → Stated
first_of [] = no_more
first_of (s ∷ ss) = s

-- a statement of one line is had back
line_back : (a : Plain ℕ ℕ Tree) (s : Stated) (stack : List Stated)
    → with_tag (line_part a).0 (line_part a).1.0 (line_part a).1.1 (s ∷ stack) ≡ plain a s ∷ stack
line_back (line.Set n t) s stack = refl
line_back _ s stack = refl

-- the parts of statements put them on the stack
pub stack_of-parts_of : (s : Stated) (rest : List Part) (stack : List Stated) → stack_of (parts_of s rest) stack ≡ stack_of rest (s ∷ stack)
stack_of-parts_of no_more rest stack = refl
stack_of-parts_of (plain a s) rest stack = stack_of-parts_of s (line_part a ∷ rest) stack ∙ ap (stack_of rest) (line_back a s stack)
stack_of-parts_of (when t i s) rest stack =
    stack_of-parts_of i (parts_of s ((1, (0, t)) ∷ rest)) stack ∙ stack_of-parts_of s ((1, (0, t)) ∷ rest) (i ∷ stack)
stack_of-parts_of (effect n s) rest stack = stack_of-parts_of s (placed 2 n ∷ rest) stack
stack_of-parts_of (rewire n s) rest stack = stack_of-parts_of s (placed 3 n ∷ rest) stack

-- statements are stored as their parts
abbrev pub stated_code : Coded Stated
stated_code =
    code_by (List Part) (coded_list (coded× coded_ℕ (coded× coded_ℕ tree_code)))
    (λ s. parts_of s []) (λ ps. first_of (stack_of ps [])) (λ s. ap first_of (stack_of-parts_of s [] []))

-- ---- rewirings

-- a source as it is stored
abbrev source_part : Source → Tree ⊎ ℕ
source_part (formula t) = inl t
source_part (host k) = inr k

-- the source that is stored so
abbrev source_from : Tree ⊎ ℕ → Source
source_from (inl t) = formula t
source_from (inr k) = host k

-- the source is had back
pub source_from-source_part : (s : Source) → source_from (source_part s) ≡ s
source_from-source_part (formula t) = refl
source_from-source_part (host k) = refl

-- a source is stored as a formula or a place
abbrev pub source_code : Coded Source
source_code = code_by (Tree ⊎ ℕ) (coded⊎ tree_code coded_ℕ) source_part source_from source_from-source_part

-- a rewiring is stored as what it has
abbrev pub rewiring_code : Coded Rewiring
rewiring_code =
    code_by (ℕ × (Source × List (List ℕ))) (coded× coded_ℕ (coded× source_code (coded_list (coded_list coded_ℕ))))
    (λ r. (r.target, (r.source, r.names))) (λ x. record { target = x.0; source = x.1.0; names = x.1.1 }) (λ _. refl)

-- ---- bodies

-- what a body has beside its nested effects, or the end of a list of bodies
abbrev BodyPart : Type 0
BodyPart = (Stated × (List (List ℕ) × (List (List ℕ) × List Rewiring))) ⊎ ℕ

-- the parts of bodies, and those behind them
abbrev body_parts : Bodies → List BodyPart → List BodyPart
body_parts no_bodies rest = inr 0 ∷ rest
body_parts (body ss ts ns inner rs others) rest = body_parts inner (body_parts others (inl (ss, (ts, (ns, rs))) ∷ rest))

-- the bodies of a stack, once a part is put on
abbrev with_body : BodyPart → List Bodies → List Bodies
with_body (inr n) stack = no_bodies ∷ stack
with_body (inl b) (others ∷ inner ∷ stack) = body b.0 b.1.0 b.1.1.0 inner b.1.1.1 others ∷ stack
with_body (inl b) stack = stack

-- the bodies of a stack, once all parts are put on
abbrev bodies_of : List BodyPart → List Bodies → List Bodies
bodies_of [] stack = stack
bodies_of (p ∷ ps) stack = bodies_of ps (with_body p stack)

-- those on top
abbrev first_bodies : List Bodies → Bodies
first_bodies [] = no_bodies
first_bodies (b ∷ bs) = b

-- the parts of bodies put them on the stack
pub bodies_of-body_parts : (b : Bodies) (rest : List BodyPart) (stack : List Bodies) →
    bodies_of (body_parts b rest) stack ≡ bodies_of rest (b ∷ stack)
bodies_of-body_parts no_bodies rest stack = refl
bodies_of-body_parts (body ss ts ns inner rs others) rest stack =
    let own : List BodyPart = inl (ss, (ts, (ns, rs))) ∷ rest in
    bodies_of-body_parts inner (body_parts others own) stack ∙ bodies_of-body_parts others own (inner ∷ stack)

-- bodies are stored as their parts
abbrev pub bodies_code : Coded Bodies
bodies_code =
    code_by (List BodyPart)
    (coded_list (coded⊎ (coded× stated_code (coded× (coded_list (coded_list coded_ℕ))
    (coded× (coded_list (coded_list coded_ℕ)) (coded_list rewiring_code)))) coded_ℕ))
    (λ b. body_parts b []) (λ ps. first_bodies (bodies_of ps [])) (λ b. ap first_bodies (bodies_of-body_parts b [] []))
