-- Acts in order.
use Rattle.std.proofs.Common.{◌≡◌, ℕ, ◌+◌, ◌<◌, ◌≤◌, ◌++◌, true, false, cond, List, [], ◌∷◌, length, take, get_or, refl, sym, ap, ◌∙◌, arith}
use Rattle.std.specs.Prelude.{if◌then◌else◌}
use Rattle.std.proofs.lemmas.List.{map-append, take_all, take_more}
use Rattle.signal_model.specs.Recipes.{Hosts}
use Rattle.effect_model.specs.Bodies.{Act, to_make}
use Rattle.effect_model.specs.Owners.{the_effect}
use Rattle.effect_model.specs.Runs.{do_act, do_acts, next_child}
use Rattle.effect_model.specs.Worlds as plain
use Rattle.effect_model.specs.Worlds.{lives}
use Rattle.effect_tables.proofs.Shared.{all_rest}
use Rattle.sig_untrack.specs.declared.body.Act.{Act as AnAct}
use Rattle.sig_untrack.specs.Links.{Parts, act_of, acts_of}
use Rattle.effect_world.specs.Signals.{Scene}
use Rattle.effect_world.specs.Stores.{Agrees}
use Rattle.effect_world.specs.Answers.{Acted}
use Rattle.effect_acts.proofs.Shared.{acted_lent}
use Rattle.effect_acts.specs.Labels.{labelled}
use Rattle.effect_acts.proofs.Sequences.{acted_then}

-- ---- labels

pub labelled_more : (k : ℕ) (as' : List Act) (a : Act) → labelled k (as' ++ a ∷ []) ≡ next_child a (labelled k as')
labelled_more k [] a = refl
labelled_more k (b ∷ as') a = labelled_more (next_child b k) as' a

-- an act makes one child at most
pub one_child : (a : Act) (k : ℕ) → next_child a k ≤ k + 1
one_child (to_make b) k = omega arith
one_child _ k = omega arith

-- ---- acts

-- acts, and then others
acts_then : (env : plain.Environment) (e k : ℕ) (as' bs : List Act) (w : plain.World) → do_acts env e k (as' ++ bs) w ≡ do_acts env e (labelled k as') bs (do_acts env e k as' w)
acts_then env e k [] bs w = refl
acts_then env e k (a ∷ as') bs w = acts_then env e (next_child a k) as' bs (if lives (the_effect e) w then do_act env e k a w else w)

-- one act, where the effect lives, and where it is gone
pub done_there : (env : plain.Environment) (e k : ℕ) (a : Act) (w : plain.World) → lives (the_effect e) w ≡ true → do_act env e k a w ≡ do_acts env e k (a ∷ []) w
done_there env e k a w on = ap (λ b. cond b (do_act env e k a w) w) (sym on)

pub none_there : (env : plain.Environment) (e k : ℕ) (a : Act) (w : plain.World) → lives (the_effect e) w ≡ false → do_acts env e k (a ∷ []) w ≡ w
none_there env e k a w off = ap (λ b. cond b (do_act env e k a w) w) off

-- the acts of a body, and one more
acts_more : (p : Parts) (acts : List AnAct) (i : ℕ) (item : AnAct) → i < length acts → item ≡ get_or acts i item → acts_of p (take (i + 1) acts) ≡ acts_of p (take i acts) ++ act_of p item ∷ []
acts_more p acts i item l is =
    ap (acts_of p) (take_more acts i item l ∙ ap (λ (a : AnAct). take i acts ++ a ∷ []) (sym is)) ∙ map-append (act_of p) (take i acts) (item ∷ [])

pub label_more : (p : Parts) (acts : List AnAct) (i k n : ℕ) (item : AnAct) → i < length acts → item ≡ get_or acts i item → k ≡ labelled 1 (acts_of p (take i acts)) → n ≡ next_child (act_of p item) k →
    n ≡ labelled 1 (acts_of p (take (i + 1) acts))
label_more p acts i k n item l is label next =
    next ∙ ap (next_child (act_of p item)) label ∙ sym (labelled_more 1 (acts_of p (take i acts)) (act_of p item)) ∙ ap (labelled 1) (sym (acts_more p acts i item l is))

-- one act more is done
pub acted_next : (slacks : List ℕ) (old mid new : Scene) (first between last : Hosts → Type 0) (p : Parts) (e k : ℕ) (acts : List AnAct) (i : ℕ) (item : AnAct) → Agrees old.asked old.world →
    i < length acts → item ≡ get_or acts i item → k ≡ labelled 1 (acts_of p (take i acts)) → Acted slacks old mid first between i (λ env. do_acts env e 1 (acts_of p (take i acts))) →
    Acted slacks mid new between last 1 (λ env. do_acts env e k (act_of p item ∷ [])) → Acted slacks old new first last (i + 1) (λ env. do_acts env e 1 (acts_of p (take (i + 1) acts)))
acted_next slacks old mid new first between last p e k acts i item agrees l is label a b =
    acted_lent slacks old new first last (i + 1) (i + 1) (λ env w. do_acts env e k (act_of p item ∷ []) (do_acts env e 1 (acts_of p (take i acts)) w)) (λ env. do_acts env e 1 (acts_of p (take (i + 1) acts)))
    (λ env.
    (λ j w. do_acts env e (label j) (act_of p item ∷ []) (do_acts env e 1 (acts_of p (take i acts)) w))
    ∙ (λ j w. sym (acts_then env e 1 (acts_of p (take i acts)) (act_of p item ∷ []) w) j)
    ∙ ap (do_acts env e 1) (sym (acts_more p acts i item l is)))
    (omega arith)
    (acted_then slacks old mid new first between last i 1 (λ env. do_acts env e 1 (acts_of p (take i acts))) (λ env. do_acts env e k (act_of p item ∷ [])) agrees
    (λ env. all_rest.acting_on env e 1 (acts_of p (take i acts))) (λ env. all_rest.acting_on env e k (act_of p item ∷ [])) a b)

-- all of them
pub acted_all : (slacks : List ℕ) (old new : Scene) (first last : Hosts → Type 0) (p : Parts) (e : ℕ) (acts : List AnAct) (i : ℕ) → length acts ≤ i → i ≤ length acts →
    Acted slacks old new first last i (λ env. do_acts env e 1 (acts_of p (take i acts))) → Acted slacks old new first last (length acts) (λ env. do_acts env e 1 (acts_of p acts))
acted_all slacks old new first last p e acts i l w a =
    acted_lent slacks old new first last i (length acts) (λ env. do_acts env e 1 (acts_of p (take i acts))) (λ env. do_acts env e 1 (acts_of p acts))
    (λ env. ap (λ xs. do_acts env e 1 (acts_of p xs)) (take_all i acts l)) w a
