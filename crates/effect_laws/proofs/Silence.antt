-- After its end nothing is told of a thing.
use Rattle.std.proofs.Common.{◌≡◌, ◌+◌, ◌≤◌, false, List, [], ◌∷◌, ◌++◌, refl, sym, ap, subst, arith, inl, inr}
use Rattle.std.proofs.lemmas.List.{append_assoc, append-nil}
use Rattle.signal_model.proofs.Shared.{tested}
use Rattle.effect_model.specs.Owners.{Thing, same_thing}
use Rattle.effect_model.specs.Worlds.{Event, gone}
use Rattle.effect_laws.specs.Rolls.{bit, ends_of}
use Rattle.effect_laws.specs.Ends.{about, NoneEnded, AreInTime, is_among, IsSilent, SilenceLaw}
use Rattle.effect_laws.proofs.Trees.{same_is, same_self}
use Rattle.effect_laws.proofs.Ledgers.{ended_more}
use Rattle.effect_laws.proofs.Scripts.{end_law}

-- the later events come in time after the earlier ones
later : (before xs ys : List Event) → AreInTime before (xs ++ ys) → AreInTime (before ++ xs) ys
later before [] ys h = subst (λ b. AreInTime b ys) (sym (append-nil before)) h
later before (x ∷ xs) ys h = subst (λ b. AreInTime b ys) (append_assoc before (x ∷ []) xs) (later (before ++ x ∷ []) xs ys h.2)

not_among : (t : Thing) (before : List Event) (ts : List Thing) → 1 ≤ ends_of t before → NoneEnded before ts → is_among t ts ≡ false
not_among t before [] h n = refl
not_among t before (u ∷ us) h n = elim (tested (same_thing t u)) [
  | inl e ↦ absurd (no (same_is t u e))
  | inr e ↦ rw e (not_among t before us h n.1)
]
  where
    no : t ≡ u → ⊥
    no e = let a : ends_of t before ≡ 0 = subst (λ x. ends_of x before ≡ 0) (sym e) n.0 in omega arith

silent : (t : Thing) (before es : List Event) → 1 ≤ ends_of t before → AreInTime before es → IsSilent t es
silent t before [] h a = tt
silent t before (e ∷ es) h a = (
  not_among t before (about e) h a.0,
  silent t (before ++ e ∷ []) es (let m : ends_of t (before ++ e ∷ [])
      ≡ ends_of t before + ends_of t (e ∷ []) = ended_more t before e in omega arith) a.2,
)

pub silence_law : SilenceLaw
silence_law env hosts cs before after t e =
    let a : AreInTime [] (before ++ gone t ∷ after) = subst (AreInTime []) e (end_law env hosts cs).0 in
    let b : AreInTime before (gone t ∷ after) = later [] before (gone t ∷ after) a in
    let m : ends_of t (before ++ gone t ∷ []) ≡ ends_of t before + (bit (same_thing t t) + 0) = ended_more t before (gone t) in
    let s : bit (same_thing t t) ≡ 1 = ap bit (same_self t) in
    silent t (before ++ gone t ∷ []) after (omega arith) b.2
