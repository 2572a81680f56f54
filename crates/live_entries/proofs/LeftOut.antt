-- What may be left out of what is told where no trace is asked for.
use Rattle.std.proofs.Common.{◌≡◌, ◌&&◌, ℕ, Bool, true, false, not, cond, List, [], ◌∷◌, ◌++◌, flat_map, refl, sym, ap, ◌∙◌}
use Rattle.live_entries.specs.declared.entry.Entry.{Entry}
use Rattle.live_entries.specs.Printed.{is_traced, line_of_entry, printed, AreLeft, AreToldFor, AreTraced, entry_left_out, entry_told, nothing_told}

-- ---- what is left

-- nothing need be left out
pub left_whole : (es : List Entry) → AreLeft es es
left_whole [] = nothing_told
left_whole (e ∷ es) = entry_told e (left_whole es)

-- of what only a trace prints nothing need be left
pub left_none : (es : List Entry) → AreTraced es → AreLeft [] es
left_none [] h = nothing_told
left_none (e ∷ es) h = entry_left_out e h.0 (left_none es h.1)

-- what is left of one list and of another behind it is left of both
pub left_behind : {es all more rest : List Entry} → AreLeft es all → AreLeft more rest → AreLeft (es ++ more) (all ++ rest)
left_behind nothing_told k = k
left_behind (entry_told e h) k = entry_told e (left_behind h k)
left_behind (entry_left_out e t h) k = entry_left_out e t (left_behind h k)

-- where no trace is asked for, the same is printed
hidden : (e : Entry) (rest : List ℕ) → is_traced e ≡ true → printed false e ++ rest ≡ rest
hidden e rest t = ap (λ (b : Bool). cond (b && not false) [] (line_of_entry e) ++ rest) t

pub left_prints : {es all : List Entry} → AreLeft es all → flat_map (printed false) es ≡ flat_map (printed false) all
left_prints nothing_told = refl
left_prints (entry_told e h) = ap (λ (lines : List ℕ). printed false e ++ lines) (left_prints h)
left_prints (entry_left_out e t h) = left_prints h ∙ sym (hidden e _ t)

-- ---- what is told, with a trace or without

-- all may be told
pub told_all : (traced : Bool) (es : List Entry) → AreToldFor traced es es
told_all traced es = record { left = left_whole es; whole = λ e. refl }

-- one list and another behind it
pub told_both : (traced : Bool) {es all more rest : List Entry} → AreToldFor traced es all → AreToldFor traced more rest → AreToldFor traced (es ++ more) (all ++ rest)
told_both traced {es} {all} {more} {rest} h k = record {
  left = left_behind h.left k.left;
  whole = λ e. ap (λ (xs : List Entry). xs ++ more) (h.whole e) ∙ ap (λ (xs : List Entry). all ++ xs) (k.whole e);
}

-- in front nothing need be told of what only a trace prints
pub told_behind : (front es : List Entry) → AreTraced front → AreToldFor false es (front ++ es)
told_behind front es h = record { left = left_behind (left_none front h) (left_whole es); whole = λ e. absurd cc }
