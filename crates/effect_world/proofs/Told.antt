-- How much is told.
use Rattle.std.proofs.Common.{◌≡◌, ℕ, ◌+◌, ◌≤◌, ◌++◌, List, [], ◌∷◌, length, map, refl, ap, ◌∙◌, arith}
use Rattle.sig_watcher.specs.declared.recipients.Told.{Told}
use Rattle.sig_effect.specs.declared.events.Event.{Event}
use Rattle.sig_effect.specs.declared.events.Event.TheVariants as event
use Rattle.sig_effect.specs.Results.{AreFrozen, AreNotices, ids_refused, ids_told}

length_behind : (es fs : List Event) → length (es ++ fs) ≡ length es + length fs
length_behind [] fs = omega arith
length_behind (e ∷ es) fs = let m : length (es ++ fs) ≡ length es + length fs = length_behind es fs in omega (arith, m)

-- what is put behind is told besides
pub more_told : (before after more : List Event) → after ≡ before ++ more → length before ≤ length after
more_told before after more is = let m : length after ≡ length before + length more = ap length is ∙ length_behind before more in omega (arith, m)

-- one event more
pub one_told : (before after : List Event) (e : Event) → after ≡ before ++ e ∷ [] → length after ≡ length before + 1
one_told before after e is = let m : length after ≡ length before + length (e ∷ []) = ap length is ∙ length_behind before (e ∷ []) in omega (arith, m)

-- refused tries
frozen_told : (ns : List ℕ) (before after : List Event) → AreFrozen ns before after → length before ≤ length after
frozen_told [] before after is = let m : length after ≡ length before = ap length is in omega (arith, m)
frozen_told (n ∷ ns) before after is = more_told before after (is.event ∷ []) is.behind

-- notices
pub notices_told : (ts : List Told) (before after : List Event) → AreNotices ts before after → length before ≤ length after
notices_told ts before after is =
    let mid : List Event = before ++ map event.Notify (ids_told ts) in
    let m : length before ≤ length mid = more_told before mid (map event.Notify (ids_told ts)) refl in
    let n : length mid ≤ length after = frozen_told (ids_refused ts) mid after is in
    omega (arith, m, n)
