-- Acts on signals read and change nothing else.
use Rattle.std.proofs.Common.{◌≡◌, ℕ, Bool, true, false, cond, List, [], ◌∷◌, Option, Some, None, refl, sym, ap, ◌∙◌, append-nil, append_assoc}
use Rattle.std.specs.Option.{option_or}
use Rattle.sig_base.specs.declared.value.Value.{Value}
use Rattle.signal_model.specs.Recipes.{Recipe}
use Rattle.signal_model.specs.Signals.{Stands, IsGone, IsCell, IsComputed, standing}
use Rattle.signal_model.specs.Changes.{after_rewiring, with_recipe}
use Rattle.effect_model.specs.declared.how.How.TheVariants.{Rewire}
use Rattle.effect_model.specs.Owners.{the_signal, Cleanup, sets, logs}
use Rattle.effect_model.specs.Worlds.{Environment, Event, changed_signal, Refused, World, logged, settle, tell, tell_all}
use Rattle.effect_model.specs.Acts.{are_alike, notify_of_all, do_cleanup, end_of, end_standing, gone_refused, host_of, host_refused, or_refused, rewire_signal, rewire_standing, rewiring_refused, set_cell, set_standing, some_gone, with_drop, with_new_value, with_quiet_value, with_use, without_node}
use Rattle.effect_model.specs.Batches.{Batch, abort, give_back, is_other, replaced_by, set_quietly, with_replacing}
use Rattle.effect_laws.specs.Frames.{IsOfSignals, signal_part, with_part}

-- a world with its own signals
pub part_same : (w : World) → w ≡ with_part (signal_part w) w
part_same w = λ i. record w { told = sym (append-nil w.told) i }

-- a world with the signals of one with those of another
pub with_with : (y x w : World) → with_part y (with_part x w) ≡ with_part (with_part y x) w
with_with y x w = λ i. record (with_part y (with_part x w)) { told = append_assoc w.told x.told y.told i }

-- one act on signals after another
pub framed_then : (f g : World → World) → IsOfSignals f → IsOfSignals g → IsOfSignals (λ w. g (f w))
framed_then f g a b = record {
  framed = λ w.
      let x : World = f (signal_part w) in
      b.framed (f w) ∙ (λ i. with_part (g (signal_part (a.framed w i))) (a.framed w i)) ∙ with_with (g (signal_part x)) x w ∙ ap (λ z. with_part z w) (sym (b.framed x));
}

-- one of two acts
chosen : (b : Bool) (f g : World → World) → IsOfSignals f → IsOfSignals g → (w : World) → cond b (f w) (g w) ≡ with_part (cond b (f (signal_part w)) (g (signal_part w))) w
chosen true f g a c w = a.framed w
chosen false f g a c w = c.framed w

framed_none : IsOfSignals (λ w. w)
framed_none = record { framed = part_same }

pub framed_tell : (es : List Event) → IsOfSignals (tell_all es)
framed_tell es = record { framed = λ w. refl }

-- ---- a cell is set

pub framed_notify : (ns : List ℕ) → IsOfSignals (notify_of_all ns)
framed_notify ns = record { framed = λ w. refl }

pub framed_quiet : (n : ℕ) (v : Value) → IsOfSignals (with_quiet_value n v)
framed_quiet n v = record { framed = λ w. refl }

new_value : (n : ℕ) (v : Value) → IsOfSignals (with_new_value n v)
new_value n v = framed_then (with_quiet_value n v) (notify_of_all (n ∷ [])) (framed_quiet n v) (framed_notify (n ∷ []))

pub framed_set : (env : Environment) (n : ℕ) (v : Value) → IsOfSignals (set_cell env n v)
framed_set env n v = record { framed = λ w. go w (standing w.signals n) }
  where
    go : (w : World) (s : Stands) → set_standing s env n v w ≡ with_part (set_standing s env n v (signal_part w)) w
    go w IsGone = refl
    go w (IsCell c) = chosen (are_alike env.slacks c.rule c.value v) (λ x. x) (with_new_value n v) framed_none (new_value n v) w
    go w (IsComputed c) = part_same w

replacing : (n : ℕ) (v : Value) (o : Option Value) → IsOfSignals (with_replacing n v o)
replacing n v None = framed_none
replacing n v (Some before) = framed_quiet n v

pub framed_set_quietly : (env : Environment) (n : ℕ) (v : Value) → IsOfSignals (set_quietly env n v)
framed_set_quietly env n v = record { framed = λ w. (replacing n v (replaced_by env.slacks (standing w.signals n) v)).framed w }

given_back : (n : ℕ) (v : Value) → IsOfSignals (give_back n v)
given_back n v = record { framed = λ w. chosen (is_other v (standing w.signals n)) (with_quiet_value n v) (λ x. x) (framed_quiet n v) framed_none w }

pub framed_abort : (b : Batch) → IsOfSignals (abort b)
framed_abort [] = framed_none
framed_abort (p ∷ b) = framed_then (give_back p.0 p.1) (abort b) (given_back p.0 p.1) (framed_abort b)

-- ---- a computed gets another recipe

framed_drop : (o : Option ℕ) → IsOfSignals (with_drop o)
framed_drop None = framed_none
framed_drop (Some k) = record { framed = λ w. refl }

framed_use : (o : Option ℕ) → IsOfSignals (with_use o)
framed_use None = framed_none
framed_use (Some k) = record { framed = λ w. part_same (with_use (Some k) w) }

gone_part : (ns : List ℕ) (w : World) → some_gone ns w ≡ some_gone ns (signal_part w)
gone_part [] w = refl
gone_part (n ∷ ns) w = ap (option_or (gone_refused (the_signal n) w)) (gone_part ns w)

host_part : (o : Option ℕ) (w : World) → host_refused o w ≡ host_refused o (signal_part w)
host_part None w = refl
host_part (Some k) w = refl

refused_part : (n : ℕ) (r : Recipe) (w : World) → rewiring_refused n r w ≡ rewiring_refused n r (signal_part w)
refused_part n r w = λ i. option_or (gone_refused (the_signal n) w) (option_or (gone_part r.slots w i) (host_part (host_of r.expression) w i))

framed_rewired : (n : ℕ) (r : Recipe) →
    IsOfSignals (λ w. tell (changed_signal n Rewire) (record w { signals = with_recipe w.signals n r; memos = after_rewiring w.memos n }))
framed_rewired n r = record { framed = λ w. refl }

pub framed_rewire : (n : ℕ) (r : Recipe) → IsOfSignals (rewire_signal n r)
framed_rewire n r = record {
  framed = λ w.
      by w (rewiring_refused n r w) (standing w.signals n)
      ∙ ap (λ o. with_part (or_refused o (rewire_standing (standing w.signals n) n r (signal_part w)) (signal_part w)) w) (refused_part n r w);
}
  where
    done : (w : World) (s : Stands) → rewire_standing s n r w ≡ with_part (rewire_standing s n r (signal_part w)) w
    done w IsGone = part_same w
    done w (IsCell c) = part_same w
    done w (IsComputed c) =
        (framed_then _ (with_drop (host_of c.recipe.expression)) (framed_then _ (with_use (host_of r.expression)) (framed_rewired n r) (framed_use (host_of r.expression))) (framed_drop (host_of c.recipe.expression))).framed w

    by : (w : World) (o : Option Refused) (s : Stands) → or_refused o (rewire_standing s n r w) w ≡ with_part (or_refused o (rewire_standing s n r (signal_part w)) (signal_part w)) w
    by w None s = done w s
    by w (Some why) s = refl

-- ---- names are settled

pub framed_settle : (env : Environment) (names : List ℕ) → IsOfSignals (settle env names)
framed_settle env names = record { framed = λ w. refl }

-- ---- cleanups and ends

pub framed_cleanup : (env : Environment) (c : Cleanup) → IsOfSignals (do_cleanup env c)
framed_cleanup env (sets n v) = framed_set env n v
framed_cleanup env (logs v) = framed_tell (logged v ∷ [])

pub framed_end : (n : ℕ) → IsOfSignals (end_of (the_signal n))
framed_end n = record { framed = λ w. go w (standing w.signals n) }
  where
    left : IsOfSignals (without_node n)
    left = record { framed = λ w. refl }

    go : (w : World) (s : Stands) → end_standing s n w ≡ with_part (end_standing s n (signal_part w)) w
    go w IsGone = part_same w
    go w (IsCell c) = left.framed w
    go w (IsComputed c) = (framed_then (with_drop (host_of c.recipe.expression)) _ (framed_drop (host_of c.recipe.expression)) left).framed w
