-- What stands under what, and in which order it is taken back.
use Rattle.std.specs.Prelude.{ℕ, ◌==◌, Bool, true, false, List, [], ◌∷◌, ◌++◌, Option, Some, None, if◌then◌else◌}
use Rattle.sig_base.specs.declared.value.Value.{Value}

-- what can be made and disposed, each by its number among those of its kind
pub data Thing : Type 0 where
  the_signal : ℕ → Thing
  the_owner : ℕ → Thing
  the_effect : ℕ → Thing
  the_page : ℕ → Thing
  the_watcher : ℕ → Thing

-- whether two are one thing
abbrev pub same_thing : Thing → Thing → Bool
same_thing (the_signal m) (the_signal n) = m == n
same_thing (the_owner m) (the_owner n) = m == n
same_thing (the_effect m) (the_effect n) = m == n
same_thing (the_page m) (the_page n) = m == n
same_thing (the_watcher m) (the_watcher n) = m == n
same_thing _ _ = false

-- whether a thing can hold others
abbrev pub is_holder : Thing → Bool
is_holder (the_owner n) = true
is_holder (the_effect n) = true
is_holder _ = false

-- what an effect notes, to be done when it is taken back: a cell is set, or a value is logged
pub data Cleanup : Type 0 where
  sets : ℕ → Value → Cleanup
  logs : Value → Cleanup

-- What stands under an owner or an effect, the last made first. What isn't owned stands at the top.
pub data Owned : Type 0 where
  nothing : Owned
  -- a thing, what stands under it, and what was made before it
  thing : Thing → Owned → Owned → Owned
  -- a cleanup, and what was made before it
  cleanup : Cleanup → Owned → Owned

-- All that stands, but for what stands at the top and can't own.
abbrev pub listed : Owned → Owned
listed nothing = nothing
listed (thing t made earlier) = if is_holder t then thing t made (listed earlier) else listed earlier
listed (cleanup c earlier) = cleanup c (listed earlier)

-- one step of a teardown: a cleanup of an effect is done, or a thing ends
pub data Undoing : Type 0 where
  cleans : Thing → Cleanup → Undoing
  ends : Thing → Undoing

-- What was made under a holder is taken back, the last made first: a cleanup is done; what stands under a thing is taken back, and then
-- the thing ends.
abbrev pub teardown_of : Thing → Owned → List Undoing
teardown_of holder nothing = []
teardown_of holder (thing t made earlier) = teardown_of t made ++ ends t ∷ teardown_of holder earlier
teardown_of holder (cleanup c earlier) = cleans holder c ∷ teardown_of holder earlier

-- what was made later, and before it the earlier
abbrev pub with_earlier : Owned → Owned → Owned
with_earlier nothing earlier = earlier
with_earlier (thing t made rest) earlier = thing t made (with_earlier rest earlier)
with_earlier (cleanup c rest) earlier = cleanup c (with_earlier rest earlier)

-- what stands under a thing
abbrev pub under : Thing → Owned → Owned
under t nothing = nothing
under t (thing u made earlier) = with_earlier (if same_thing t u then made else under t made) (under t earlier)
under t (cleanup c earlier) = under t earlier

-- nothing stands under a thing any more
abbrev pub emptied : Thing → Owned → Owned
emptied t nothing = nothing
emptied t (thing u made earlier) = thing u (if same_thing t u then nothing else emptied t made) (emptied t earlier)
emptied t (cleanup c earlier) = cleanup c (emptied t earlier)

-- a thing and all under it are taken out
abbrev pub taken_out : Thing → Owned → Owned
taken_out t nothing = nothing
taken_out t (thing u made earlier) =
    if same_thing t u then taken_out t earlier else thing u (taken_out t made) (taken_out t earlier)
taken_out t (cleanup c earlier) = cleanup c (taken_out t earlier)

-- one more is made under a thing
abbrev pub put_under : Thing → Owned → Owned → Owned
put_under t one nothing = nothing
put_under t one (thing u made earlier) =
    thing u (if same_thing t u then with_earlier one made else put_under t one made) (put_under t one earlier)
put_under t one (cleanup c earlier) = cleanup c (put_under t one earlier)

-- a thing with nothing under it
abbrev pub alone : Thing → Owned
alone t = thing t nothing nothing

-- a thing is made, inside an owner where one is given, else at the top
abbrev pub made_inside : Option ℕ → Thing → Owned → Owned
made_inside None t owned = thing t nothing owned
made_inside (Some o) t owned = put_under (the_owner o) (alone t) owned

-- all that a disposal of a thing does: what stands under it is taken back, then it ends
abbrev pub disposal_of : Thing → Owned → List Undoing
disposal_of t owned = teardown_of t (under t owned) ++ ends t ∷ []
