-- Cleanups that set good rows, through the edits of what is owned.
use Rattle.std.proofs.Common.{ℕ, Bool, true, false, cond, [], ◌∷◌, Option, Some, None}
use Rattle.std.specs.List.{AllByRecursion}
use Rattle.signal_laws.proofs.Shared.{all_append}
use Rattle.effect_model.specs.Owners.{Thing, the_owner, same_thing, Cleanup, sets, logs, Owned, nothing, thing, cleanup, Undoing, cleans, ends, teardown_of}
use Rattle.effect_model.specs.Owners.{with_earlier, under, emptied, taken_out, put_under, alone, made_inside, disposal_of, is_holder, listed}
use Rattle.sig_host.specs.Loans.{IsGood}

-- a cleanup that sets good rows, or none
abbrev pub IsGoodCleanup : Cleanup → Type 0
IsGoodCleanup (sets n v) = IsGood v
IsGoodCleanup (logs v) = Unit {0}

-- so are all that stand there
abbrev pub AreGoodOwned : Owned → Type 0
AreGoodOwned nothing = Unit {0}
AreGoodOwned (thing t made earlier) = AreGoodOwned made × AreGoodOwned earlier
AreGoodOwned (cleanup c earlier) = IsGoodCleanup c × AreGoodOwned earlier

-- and a step of a teardown
abbrev pub IsGoodUndoing : Undoing → Type 0
IsGoodUndoing (cleans t c) = IsGoodCleanup c
IsGoodUndoing (ends t) = Unit {0}

earlier_good : (xs ys : Owned) → AreGoodOwned xs → AreGoodOwned ys → AreGoodOwned (with_earlier xs ys)
earlier_good nothing ys g h = h
earlier_good (thing t made rest) ys g h = (g.0, earlier_good rest ys g.1 h)
earlier_good (cleanup c rest) ys g h = (g.0, earlier_good rest ys g.1 h)

either_good : (b : Bool) (x y : Owned) → AreGoodOwned x → AreGoodOwned y → AreGoodOwned (cond b x y)
either_good true x y g h = g
either_good false x y g h = h

under_good : (t : Thing) (o : Owned) → AreGoodOwned o → AreGoodOwned (under t o)
under_good t nothing g = tt
under_good t (thing u made earlier) g =
    earlier_good (cond (same_thing t u) made (under t made)) (under t earlier)
    (either_good (same_thing t u) made (under t made) g.0 (under_good t made g.0)) (under_good t earlier g.1)
under_good t (cleanup c earlier) g = under_good t earlier g.1

pub emptied_good : (t : Thing) (o : Owned) → AreGoodOwned o → AreGoodOwned (emptied t o)
emptied_good t nothing g = tt
emptied_good t (thing u made earlier) g =
    (either_good (same_thing t u) nothing (emptied t made) tt (emptied_good t made g.0), emptied_good t earlier g.1)
emptied_good t (cleanup c earlier) g = (g.0, emptied_good t earlier g.1)

pub taken_good : (t : Thing) (o : Owned) → AreGoodOwned o → AreGoodOwned (taken_out t o)
taken_good t nothing g = tt
taken_good t (thing u made earlier) g =
    either_good (same_thing t u) (taken_out t earlier) (thing u (taken_out t made) (taken_out t earlier)) (taken_good t earlier g.1)
    (taken_good t made g.0, taken_good t earlier g.1)
taken_good t (cleanup c earlier) g = (g.0, taken_good t earlier g.1)

pub put_good : (t : Thing) (one o : Owned) → AreGoodOwned one → AreGoodOwned o → AreGoodOwned (put_under t one o)
put_good t one nothing h g = tt
put_good t one (thing u made earlier) h g = (
  either_good (same_thing t u) (with_earlier one made) (put_under t one made) (earlier_good one made h g.0) (put_good t one made h g.0),
  put_good t one earlier h g.1,
)
put_good t one (cleanup c earlier) h g = (g.0, put_good t one earlier h g.1)

pub made_good : (inside : Option ℕ) (t : Thing) (o : Owned) → AreGoodOwned o → AreGoodOwned (made_inside inside t o)
made_good None t o g = (tt, g)
made_good (Some p) t o g = put_good (the_owner p) (alone t) o (tt, tt) g

pub listed_good : (o : Owned) → AreGoodOwned o → AreGoodOwned (listed o)
listed_good nothing g = tt
listed_good (thing t made earlier) g =
    either_good (is_holder t) (thing t made (listed earlier)) (listed earlier) (g.0, listed_good earlier g.1) (listed_good earlier g.1)
listed_good (cleanup c earlier) g = (g.0, listed_good earlier g.1)

teardown_good : (t : Thing) (o : Owned) → AreGoodOwned o → AllByRecursion IsGoodUndoing (teardown_of t o)
teardown_good t nothing g = tt
teardown_good t (thing u made earlier) g =
    all_append IsGoodUndoing (teardown_of u made) (ends u ∷ teardown_of t earlier) (teardown_good u made g.0) (tt, teardown_good t earlier g.1)
teardown_good t (cleanup c earlier) g = (g.0, teardown_good t earlier g.1)

-- what is taken back of a thing
pub undoings_good : (t : Thing) (o : Owned) → AreGoodOwned o → AllByRecursion IsGoodUndoing (teardown_of t (under t o))
undoings_good t o g = teardown_good t (under t o) (under_good t o g)

pub disposal_good : (t : Thing) (o : Owned) → AreGoodOwned o → AllByRecursion IsGoodUndoing (disposal_of t o)
disposal_good t o g = all_append IsGoodUndoing (teardown_of t (under t o)) (ends t ∷ []) (undoings_good t o g) (tt, tt)
