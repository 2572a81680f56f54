-- How much acts tell.
use Rattle.std.proofs.Common.{◌≡◌, ◌≤◌, ◌+◌, List, [], ◌∷◌, append-nil, arith, length, length-append, cond, Bool, true, sym, ap, subst, ◌∙◌}
use Rattle.effect_model.specs.Owners.{Thing, Undoing, cleans, ends, disposal_of, emptied, taken_out, teardown_of, under}
use Rattle.effect_model.specs.Worlds.{Environment, Event, cleaned, gone, refused, thing_gone, World, lives, tell}
use Rattle.effect_model.specs.Acts.{do_cleanup, end_of, undo, undo_all, take_back, dispose_live, dispose_thing}
use Rattle.effect_laws.specs.Events.{behind, OnlyTells}
use Rattle.effect_laws.proofs.Acts.{cleanup_only, end_only}

-- a world with nothing told
abbrev pub silent : World → World
silent w = record w { told = [] }

pub told_before : (w : World) → w ≡ behind w.told (silent w)
told_before w = λ i. record w { told = sym (append-nil w.told) i }

-- an act that only tells, of a world and of that world with nothing told
pub told_behind : (act : World → World) → OnlyTells act → (w : World) → act w ≡ behind w.told (act (silent w))
told_behind act o w = ap act (told_before w) ∙ o.same w.told (silent w)

-- nothing that was told is lost
pub told_more : (act : World → World) → OnlyTells act → (w : World) → length w.told ≤ length (act w).told
told_more act o w =
    let e : length (act w).told ≡ length w.told + length (act (silent w)).told =
    ap (λ (v : World). length v.told) (told_behind act o w) ∙ length-append w.told (act (silent w)).told in
    omega (arith, e)

one_told : (e : Event) (w : World) → length (tell e w).told ≡ length w.told + 1
one_told e w = length-append w.told (e ∷ [])

-- each step of a teardown is told
undo_told : (env : Environment) (u : Undoing) (w : World) → length w.told + 1 ≤ length (undo env u w).told
undo_told env (cleans t c) w =
    let e : length (tell (cleaned t c) w).told ≡ length w.told + 1 = one_told (cleaned t c) w in
    let m : length (tell (cleaned t c) w).told ≤ length (do_cleanup env c (tell (cleaned t c) w)).told =
    told_more (do_cleanup env c) (cleanup_only env c) (tell (cleaned t c) w) in
    omega (arith, e, m)
undo_told env (ends t) w =
    let e : length (tell (gone t) (end_of t w)).told ≡ length (end_of t w).told + 1 = one_told (gone t) (end_of t w) in
    let m : length w.told ≤ length (end_of t w).told = told_more (end_of t) (end_only t) w in
    omega (arith, e, m)

pub undone_told : (env : Environment) (us : List Undoing) (w : World) → length w.told + length us ≤ length (undo_all env us w).told
undone_told env [] w = omega arith
undone_told env (u ∷ us) w =
    let one : length w.told + 1 ≤ length (undo env u w).told = undo_told env u w in
    let more : length (undo env u w).told + length us ≤ length (undo_all env us (undo env u w)).told = undone_told env us (undo env u w) in
    omega (arith, one, more)

pub taken_back_told : (env : Environment) (t : Thing) (w : World) → length w.told + length (teardown_of t (under t w.owned)) ≤ length (take_back env t w).told
taken_back_told env t w = undone_told env (teardown_of t (under t w.owned)) (record w { owned = emptied t w.owned })

-- so is each step of a disposal, where the thing lives
pub disposed_told : (env : Environment) (t : Thing) (w : World) → lives t w ≡ true → length w.told + length (disposal_of t w.owned) ≤ length (dispose_thing env t w).told
disposed_told env t w on =
    let v : World = record w { owned = taken_out t w.owned } in
    subst (λ (b : Bool). length w.told + length (disposal_of t w.owned) ≤ length (cond b (dispose_live env t w) (tell (refused (thing_gone t)) w)).told) (sym on)
    (undone_told env (disposal_of t w.owned) v)
