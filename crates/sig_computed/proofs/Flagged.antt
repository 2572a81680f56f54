-- Flags of computeds that were visited.
use Rattle.std.proofs.Common.{◌≡◌, ℕ, zero, suc, ◌<◌, ◌≤◌, ◌==◌, ◌||◌, Bool, true, false, cond, List, [], ◌∷◌, ◌++◌, length, refl, sym, ap, ◌∙◌, subst, arith}
use Rattle.std.specs.Prelude.{slice_set, slice_index_or}
use Rattle.std.proofs.lemmas.Bool.{eqb-true}
use Rattle.signal_model.specs.Signals.{is_in}
use Rattle.signal_model.proofs.Shared.{or_left, or_right}
use Rattle.signal_laws.proofs.Shared.{in_append}
use Rattle.sig_computed.proofs.Looks.{late_more}
use Rattle.sig_computed.specs.Flags.{flag_of, is_raised, AreFlagged}

-- ---- one flag

-- what is read there
pub raised_at : (fs : List Bool) (s : ℕ) → s < length fs → slice_index_or fs s false ≡ is_raised fs s
raised_at [] s l = absurd (omega arith)
raised_at (g ∷ fs) zero l = refl
raised_at (g ∷ fs) (suc s) l = let k : s < length fs = omega arith in raised_at fs s k

-- one that isn't there is up
pub raised_past : (fs : List Bool) (s : ℕ) → length fs ≤ s → true ≡ is_raised fs s
raised_past [] s h = refl
raised_past (f ∷ fs) zero h = absurd (omega arith)
raised_past (f ∷ fs) (suc s) h = let k : length fs ≤ s = omega arith in raised_past fs s k

-- one that is raised is up
pub raised_own : (fs : List Bool) (s : ℕ) → is_raised (slice_set fs s true) s ≡ true
raised_own [] s = refl
raised_own (f ∷ fs) zero = refl
raised_own (f ∷ fs) (suc s) = raised_own fs s

-- and the others stay up
pub raised_others : (fs : List Bool) (d s : ℕ) → is_raised fs s ≡ true → is_raised (slice_set fs d true) s ≡ true
raised_others [] d s h = refl
raised_others (f ∷ fs) zero zero h = refl
raised_others (f ∷ fs) zero (suc s) h = h
raised_others (f ∷ fs) (suc d) zero h = h
raised_others (f ∷ fs) (suc d) (suc s) h = raised_others fs d s h

-- ---- the flags of all that were visited

-- of one more
pub flagged_more : (fs gs : List Bool) (ns ms : List ℕ) (n : ℕ) → AreFlagged fs ns → ((p : ℕ) → is_raised fs p ≡ true → is_raised gs p ≡ true) →
    is_raised gs (flag_of n) ≡ true → ((m : ℕ) → is_in m ms ≡ (m == n || is_in m ns)) → AreFlagged gs ms
flagged_more fs gs ns ms n all more own same = record { each = λ m on. go m (m == n) refl (sym (same m) ∙ on) }
  where
    go : (m : ℕ) (b : Bool) → (m == n) ≡ b → (b || is_in m ns) ≡ true → is_raised gs (flag_of m) ≡ true
    go m true e h = subst (λ k. is_raised gs (flag_of k) ≡ true) (sym (eqb-true m n e)) own
    go m false e h = more (flag_of m) (all.each m h)

-- of no others
pub flagged_among : (fs : List Bool) (ns ms : List ℕ) → AreFlagged fs ns → ((m : ℕ) → is_in m ms ≡ true → is_in m ns ≡ true) → AreFlagged fs ms
flagged_among fs ns ms all among = record { each = λ m on. all.each m (among m on) }

-- where one more may have come behind the late ones
pub flagged_pushed : (b : Bool) (fs : List Bool) (ls ks : List ℕ) (n : ℕ) → AreFlagged fs ((ls ++ n ∷ []) ++ ks) → AreFlagged fs (cond b (ls ++ n ∷ []) ls ++ ks)
flagged_pushed true fs ls ks n all = all
flagged_pushed false fs ls ks n all =
    flagged_among fs ((ls ++ n ∷ []) ++ ks) (ls ++ ks) all (λ m on. late_more ls ks n m ∙ or_right (m == n) (is_in m (ls ++ ks)) on)

-- where none of the others is left
pub flagged_cut : (fs : List Bool) (ls ks js : List ℕ) → js ≡ [] → AreFlagged fs (ls ++ ks) → AreFlagged fs (ls ++ js)
flagged_cut fs ls ks js none all = flagged_among fs (ls ++ ks) (ls ++ js) all
    (λ m on. in_append m ls ks ∙ or_left (is_in m ls) (is_in m ks) (left (is_in m ls) (sym (in_append m ls js ∙ ap (λ ns. is_in m ls || is_in m ns) none) ∙ on)))
  where
    left : (b : Bool) → (b || false) ≡ true → b ≡ true
    left true h = refl
    left false h = h

-- where none of the late ones is left
pub flagged_behind : (fs : List Bool) (ls ks js : List ℕ) → js ≡ [] → AreFlagged fs (ls ++ ks) → AreFlagged fs (js ++ ks)
flagged_behind fs ls ks js none all =
    flagged_among fs (ls ++ ks) (js ++ ks) all (λ m on. in_append m ls ks ∙ or_right (is_in m ls) (is_in m ks) (sym (ap (λ ns. is_in m (ns ++ ks)) none) ∙ on))

-- one whose flag is down isn't among them
pub told_off : (a b : Bool) → (a ≡ true → b ≡ true) → b ≡ false → false ≡ a
told_off true b h off = cc (sym (h refl) ∙ off)
told_off false b h off = refl

-- flags of the late ones alone
pub flagged_late : (fs : List Bool) (ls ks : List ℕ) → AreFlagged fs ls → ks ≡ [] → AreFlagged fs (ls ++ ks)
flagged_late fs ls ks all none = flagged_among fs ls (ls ++ ks) all
    (λ m on. left (is_in m ls) (sym (in_append m ls ks ∙ ap (λ ns. is_in m ls || is_in m ns) none) ∙ on))
  where
    left : (b : Bool) → (b || false) ≡ true → b ≡ true
    left true h = refl
    left false h = h
