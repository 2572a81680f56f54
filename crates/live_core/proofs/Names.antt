-- What names stand for stays made, and of their kind.
use Rattle.std.proofs.Common.{◌≡◌, ◌≤◌, ◌<◌, ◌+◌, ◌==◌, ℕ, arith, Bool, true, false, cond, List, [], ◌∷◌, ◌++◌, ◌⊎◌, inl, inr, Some, None, refl, sym, ap, subst, ◌∙◌}
use Rattle.std.proofs.lemmas.Bool.{true≢false}
use Rattle.std.specs.Str.{bytes_eq}
use Rattle.std.proofs.lemmas.Bool.{eqb-true, lt-ltb, ltb-true}
use Rattle.signal_model.specs.Signals.{Signals, Stands, standing}
use Rattle.sig_graph.specs.States.{Seen, is_given}
use Rattle.sig_graph.proofs.Shared.{given_is, given_same}
use Rattle.effect_world.specs.declared.world.World.{World}
use Rattle.live_model.specs.declared.names.Kind.{Kind}
use Rattle.live_model.specs.declared.names.Kind.TheVariants as kind
use Rattle.live_model.specs.declared.names.Meaning.{Meaning}
use Rattle.live_model.specs.Names.{Names, is_signal, meaning_of, same_kind}
use Rattle.live_core.specs.Consistency.{is_of_kind, IsMeant, AreMeant}

-- a name is one of those before, or the last one
last_or : (names : Names) (a : List ℕ) (x : Meaning) (n : List ℕ) (m : Meaning) → meaning_of (names ++ (a, x) ∷ []) n ≡ Some m →
    (meaning_of names n ≡ Some m) ⊎ (x ≡ m)
last_or [] a x n m h = at (bytes_eq n a) h
  where
    at : (b : Bool) → cond b (Some x) None ≡ Some m → (None ≡ Some m) ⊎ (x ≡ m)
    at true e = inr cc
    at false e = cc
last_or ((b, y) ∷ names) a x n m h = at (bytes_eq n b) h (last_or names a x n m)
  where
    at : (t : Bool) → cond t (Some y) (meaning_of (names ++ (a, x) ∷ []) n) ≡ Some m →
        (meaning_of (names ++ (a, x) ∷ []) n ≡ Some m → (meaning_of names n ≡ Some m) ⊎ (x ≡ m)) →
        (cond t (Some y) (meaning_of names n) ≡ Some m) ⊎ (x ≡ m)
    at true e more = inl e
    at false e more = more e

-- what was given is below the count
pub given_below : (g : Seen) (n : ℕ) → is_given g n ≡ true → n < g.given
given_below g n h = ltb-true n g.given (sym (given_is g n) ∙ h)

-- what is below the count was given
pub below_given : (g : Seen) (n : ℕ) → n < g.given → is_given g n ≡ true
below_given g n lt = given_is g n ∙ lt-ltb n g.given lt

-- names mean what they meant, where signals stay made and of their kind
pub meant_still : (v w : World) (count : ℕ) (names : Names) → w.graph.given ≡ v.graph.given →
    ((k : Kind) (m : ℕ) → is_of_kind k (standing v.graph.state.signals m) ≡ true → is_of_kind k (standing w.graph.state.signals m) ≡ true) →
    AreMeant v count names → AreMeant w count names
meant_still v w count names given kinds all n m is =
    let one : IsMeant v count m = all n m is in record {
      given = λ s. given_same v.graph w.graph m.number given ∙ one.given s;
      fits = kinds m.kind m.number one.fits;
      template = one.template;
    }

-- more templates are made
pub meant_more : (w : World) (count more : ℕ) (names : Names) → count ≤ more → AreMeant w count names → AreMeant w more names
meant_more w count more names le all n m is =
    let one : IsMeant w count m = all n m is in record {
      given = one.given;
      fits = one.fits;
      template = λ t. let lt = one.template t in omega (arith, le, lt);
    }

-- a name more of what is no signal
pub meant_other : (w : World) (count : ℕ) (names : Names) (a : List ℕ) (k : Kind) (i : ℕ) → is_signal k ≡ false → ((s : Stands) → is_of_kind k s ≡ true) →
    (same_kind kind.Template k ≡ true → i < count) →
    AreMeant w count names → AreMeant w count (names ++ (a, record { kind = k; number = i }) ∷ [])
meant_other w count names a k i off any below all n m is = elim (last_or names a (record { kind = k; number = i }) n m is) [
  | inl old ↦ all n m old
  | inr new ↦ subst (IsMeant w count) new
      (record { given = λ s. absurd (true≢false (sym s ∙ off)); fits = any (standing w.graph.state.signals i); template = below })
]

-- what is below isn't what comes next
not_next : (m id : ℕ) → m < id → (m == id) ≡ false
not_next m id lt = at (m == id) refl
  where
    at : (b : Bool) → (m == id) ≡ b → (m == id) ≡ false
    at false e = e
    at true e = let same : m ≡ id = eqb-true m id e in absurd (omega (arith, lt, same))

-- a meaning stays, where only the new signal stands otherwise
still_meant : (g : Seen) (after : Signals) (k : Kind) (i : ℕ) →
    ((m : ℕ) → (m == g.given) ≡ false → standing after m ≡ standing g.state.signals m) → (is_signal k ≡ true → is_given g i ≡ true) →
    is_of_kind k (standing g.state.signals i) ≡ true → is_of_kind k (standing after i) ≡ true
still_meant g after kind.Cell i beside given is = ap (is_of_kind kind.Cell) (beside i (not_next i g.given (given_below g i (given refl)))) ∙ is
still_meant g after kind.List i beside given is = ap (is_of_kind kind.List) (beside i (not_next i g.given (given_below g i (given refl)))) ∙ is
still_meant g after kind.Computed i beside given is = ap (is_of_kind kind.Computed) (beside i (not_next i g.given (given_below g i (given refl)))) ∙ is
still_meant g after kind.Owner i beside given is = refl
still_meant g after kind.Effect i beside given is = refl
still_meant g after kind.Watcher i beside given is = refl
still_meant g after kind.Template i beside given is = refl
still_meant g after kind.Page i beside given is = refl

-- a name of a signal more, which is made
pub meant_made : (v w : World) (count : ℕ) (names : Names) (a : List ℕ) (k : Kind) → same_kind kind.Template k ≡ false →
    w.graph.given ≡ v.graph.given + 1 →
    ((m : ℕ) → (m == v.graph.given) ≡ false → standing w.graph.state.signals m ≡ standing v.graph.state.signals m) →
    is_of_kind k (standing w.graph.state.signals v.graph.given) ≡ true →
    AreMeant v count names → AreMeant w count (names ++ (a, record { kind = k; number = v.graph.given }) ∷ [])
meant_made v w count names a k off given beside here all n m is = elim (last_or names a (record { kind = k; number = v.graph.given }) n m is) [
  | inl old ↦
      let one : IsMeant v count m = all n m old in record {
        given = λ s. let lt = given_below v.graph m.number (one.given s) in below_given w.graph m.number (omega (arith, lt, given));
        fits = still_meant v.graph w.graph.state.signals m.kind m.number beside one.given one.fits;
        template = one.template;
      }
  | inr new ↦ subst (IsMeant w count) new (record {
    given = λ s. below_given w.graph v.graph.given (omega (arith, given));
    fits = here;
    template = λ t. absurd (true≢false (sym t ∙ off));
  })
]

-- no names, which mean nothing
pub none_meant : (w : World) (count : ℕ) → AreMeant w count []
none_meant w count n m is = absurd cc
