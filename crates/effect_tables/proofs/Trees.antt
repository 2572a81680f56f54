-- Trees without what stands at the top and can't own.
use Rattle.std.proofs.Common.{◌≡◌, ℕ, Bool, true, false, cond, Option, Some, None, refl, sym, ap, ◌∙◌}
use Rattle.effect_model.specs.Owners.{Thing, the_signal, the_owner, the_effect, the_page, the_watcher, Owned, nothing, thing, cleanup, alone, emptied, made_inside, put_under, same_thing, taken_out, under, with_earlier}
use Rattle.effect_model.specs.Owners.{is_holder, listed}
use Rattle.effect_tables.specs.Roots.{AreBare}

-- ---- what is listed

pub listed_twice : (x : Owned) → listed (listed x) ≡ listed x
listed_twice nothing = refl
listed_twice (cleanup c rest) = ap (cleanup c) (listed_twice rest)
listed_twice (thing (the_owner n) made rest) = ap (thing (the_owner n) made) (listed_twice rest)
listed_twice (thing (the_effect n) made rest) = ap (thing (the_effect n) made) (listed_twice rest)
listed_twice (thing (the_signal n) made rest) = listed_twice rest
listed_twice (thing (the_page n) made rest) = listed_twice rest
listed_twice (thing (the_watcher n) made rest) = listed_twice rest

-- nothing stands under what can't own, whether it is the thing or not
none_under : (b : Bool) (t : Thing) (made : Owned) → made ≡ nothing → cond b made (under t made) ≡ nothing
none_under true t made e = e
none_under false t made e = ap (under t) e

left_out : (t u : Thing) (made rest : Owned) → made ≡ nothing → under t (thing u made rest) ≡ under t rest
left_out t u made rest e = ap (λ z. with_earlier z (under t rest)) (none_under (same_thing t u) t made e)

pub under_listed : (t : Thing) (x : Owned) → AreBare x → under t (listed x) ≡ under t x
under_listed t nothing h = refl
under_listed t (cleanup c rest) h = under_listed t rest h
under_listed t (thing (the_owner n) made rest) h = ap (with_earlier (cond (same_thing t (the_owner n)) made (under t made))) (under_listed t rest h.1)
under_listed t (thing (the_effect n) made rest) h = ap (with_earlier (cond (same_thing t (the_effect n)) made (under t made))) (under_listed t rest h.1)
under_listed t (thing (the_signal n) made rest) h = under_listed t rest h.1 ∙ sym (left_out t (the_signal n) made rest (h.0 refl))
under_listed t (thing (the_page n) made rest) h = under_listed t rest h.1 ∙ sym (left_out t (the_page n) made rest (h.0 refl))
under_listed t (thing (the_watcher n) made rest) h = under_listed t rest h.1 ∙ sym (left_out t (the_watcher n) made rest (h.0 refl))

pub emptied_listed : (t : Thing) (x : Owned) → listed (emptied t (listed x)) ≡ listed (emptied t x)
emptied_listed t nothing = refl
emptied_listed t (cleanup c rest) = ap (cleanup c) (emptied_listed t rest)
emptied_listed t (thing (the_owner n) made rest) = ap (thing (the_owner n) (cond (same_thing t (the_owner n)) nothing (emptied t made))) (emptied_listed t rest)
emptied_listed t (thing (the_effect n) made rest) = ap (thing (the_effect n) (cond (same_thing t (the_effect n)) nothing (emptied t made))) (emptied_listed t rest)
emptied_listed t (thing (the_signal n) made rest) = emptied_listed t rest
emptied_listed t (thing (the_page n) made rest) = emptied_listed t rest
emptied_listed t (thing (the_watcher n) made rest) = emptied_listed t rest

-- a thing that can own, taken out or not
out_kept : (b : Bool) (made x y : Owned) (u : Thing) → is_holder u ≡ true → listed x ≡ listed y → listed (cond b x (thing u made x)) ≡ listed (cond b y (thing u made y))
out_kept true made x y u k e = e
out_kept false made x y u k e = λ i. cond (is_holder u) (thing u made (e i)) (e i)

-- one that can't own
out_left : (b : Bool) (made x y : Owned) (u : Thing) → is_holder u ≡ false → listed x ≡ listed y → listed x ≡ listed (cond b y (thing u made y))
out_left true made x y u k e = e
out_left false made x y u k e = e ∙ sym (ap (λ c. cond c (thing u made (listed y)) (listed y)) k)

pub out_listed : (t : Thing) (x : Owned) → listed (taken_out t (listed x)) ≡ listed (taken_out t x)
out_listed t nothing = refl
out_listed t (cleanup c rest) = ap (cleanup c) (out_listed t rest)
out_listed t (thing (the_owner n) made rest) =
    out_kept (same_thing t (the_owner n)) (taken_out t made) (taken_out t (listed rest)) (taken_out t rest) (the_owner n) refl (out_listed t rest)
out_listed t (thing (the_effect n) made rest) =
    out_kept (same_thing t (the_effect n)) (taken_out t made) (taken_out t (listed rest)) (taken_out t rest) (the_effect n) refl (out_listed t rest)
out_listed t (thing (the_signal n) made rest) =
    out_left (same_thing t (the_signal n)) (taken_out t made) (taken_out t (listed rest)) (taken_out t rest) (the_signal n) refl (out_listed t rest)
out_listed t (thing (the_page n) made rest) =
    out_left (same_thing t (the_page n)) (taken_out t made) (taken_out t (listed rest)) (taken_out t rest) (the_page n) refl (out_listed t rest)
out_listed t (thing (the_watcher n) made rest) =
    out_left (same_thing t (the_watcher n)) (taken_out t made) (taken_out t (listed rest)) (taken_out t rest) (the_watcher n) refl (out_listed t rest)

pub put_listed : (t : Thing) (one x : Owned) → listed (put_under t one (listed x)) ≡ listed (put_under t one x)
put_listed t one nothing = refl
put_listed t one (cleanup c rest) = ap (cleanup c) (put_listed t one rest)
put_listed t one (thing (the_owner n) made rest) =
    ap (thing (the_owner n) (cond (same_thing t (the_owner n)) (with_earlier one made) (put_under t one made))) (put_listed t one rest)
put_listed t one (thing (the_effect n) made rest) =
    ap (thing (the_effect n) (cond (same_thing t (the_effect n)) (with_earlier one made) (put_under t one made))) (put_listed t one rest)
put_listed t one (thing (the_signal n) made rest) = put_listed t one rest
put_listed t one (thing (the_page n) made rest) = put_listed t one rest
put_listed t one (thing (the_watcher n) made rest) = put_listed t one rest

-- ---- what stays bare

pub bare_listed : (x : Owned) → AreBare x → AreBare (listed x)
bare_listed nothing h = tt
bare_listed (cleanup c rest) h = bare_listed rest h
bare_listed (thing t made rest) h = go (is_holder t) (bare_listed rest h.1)
  where
    go : (b : Bool) → AreBare (listed rest) → AreBare (cond b (thing t made (listed rest)) (listed rest))
    go true more = (h.0, more)
    go false more = more

none_emptied : (b : Bool) (t : Thing) (made : Owned) → made ≡ nothing → cond b nothing (emptied t made) ≡ nothing
none_emptied true t made e = refl
none_emptied false t made e = ap (emptied t) e

pub bare_emptied : (t : Thing) (x : Owned) → AreBare x → AreBare (emptied t x)
bare_emptied t nothing h = tt
bare_emptied t (cleanup c rest) h = bare_emptied t rest h
bare_emptied t (thing u made rest) h = (λ k. none_emptied (same_thing t u) t made (h.0 k), bare_emptied t rest h.1)

pub bare_out : (t : Thing) (x : Owned) → AreBare x → AreBare (taken_out t x)
bare_out t nothing h = tt
bare_out t (cleanup c rest) h = bare_out t rest h
bare_out t (thing u made rest) h = go (same_thing t u) (bare_out t rest h.1)
  where
    go : (b : Bool) → AreBare (taken_out t rest) → AreBare (cond b (taken_out t rest) (thing u (taken_out t made) (taken_out t rest)))
    go true more = more
    go false more = (λ k. ap (taken_out t) (h.0 k), more)

-- what can own is another thing than what can't
other_kind : (t u : Thing) → is_holder t ≡ true → is_holder u ≡ false → same_thing t u ≡ false
other_kind (the_effect e) (the_owner n) j k = refl
other_kind (the_effect e) (the_effect n) j k = cc
other_kind (the_effect e) (the_signal n) j k = refl
other_kind (the_effect e) (the_page n) j k = refl
other_kind (the_effect e) (the_watcher n) j k = refl
other_kind (the_owner o) (the_owner n) j k = cc
other_kind (the_owner o) (the_effect n) j k = refl
other_kind (the_owner o) (the_signal n) j k = refl
other_kind (the_owner o) (the_page n) j k = refl
other_kind (the_owner o) (the_watcher n) j k = refl
other_kind (the_signal m) u j k = cc
other_kind (the_page m) u j k = cc
other_kind (the_watcher m) u j k = cc

pub bare_put : (t : Thing) → is_holder t ≡ true → (one x : Owned) → AreBare x → AreBare (put_under t one x)
bare_put t j one nothing h = tt
bare_put t j one (cleanup c rest) h = bare_put t j one rest h
bare_put t j one (thing u made rest) h = (
  λ k. ap (λ b. cond b (with_earlier one made) (put_under t one made)) (other_kind t u j k) ∙ ap (put_under t one) (h.0 k),
  bare_put t j one rest h.1,
)

-- ---- what is made inside an owner or at the top

pub made_listed : (inside : Option ℕ) (t : Thing) (x : Owned) → listed (made_inside inside t (listed x)) ≡ listed (made_inside inside t x)
made_listed None t x = ap (λ y. cond (is_holder t) (thing t nothing y) y) (listed_twice x)
made_listed (Some o) t x = put_listed (the_owner o) (alone t) x

pub bare_made : (inside : Option ℕ) (t : Thing) (x : Owned) → AreBare x → AreBare (made_inside inside t x)
bare_made None t x h = (λ k. refl, h)
bare_made (Some o) t x h = bare_put (the_owner o) refl (alone t) x h
