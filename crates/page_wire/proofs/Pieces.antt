-- Frames at the front of some bytes.
use Rattle.std.proofs.Common.{◌≡◌, ℕ, ◌+◌, List, [], ◌∷◌, ◌++◌, length, drop, append_assoc, sym, ap, ◌∙◌}
use Rattle.std.specs.Int.{to_be_bytes, w64}
use Rattle.std.specs.List.{AllByRecursion, IsSplitAt}
use Rattle.std.proofs.lemmas.List.{length-append, take-append-drop}
use Rattle.std.proofs.lemmas.Grind.{flat_map-append}
use Rattle.wire_model.specs.Notes.{IsNote, Note, frame, frame_of_body, frames}
use Rattle.page_wire.specs.OneFrame.{GoesOn, StopsLater}

-- the parts of a list that was cut
joined : (xs front back : List ℕ) (n : ℕ) → IsSplitAt xs n front back → xs ≡ front ++ back
joined xs front back n s = sym (take-append-drop n xs) ∙ (ap (λ (l : List ℕ). l ++ drop n xs) (sym s.1) ∙ ap (λ (l : List ℕ). front ++ l) (sym s.2))

-- eight bytes tell the length of the body behind them
pub whole_frame : (bytes front behind body more : List ℕ) (n : ℕ) → IsSplitAt bytes 8 front behind → to_be_bytes w64 n ≡ front → IsSplitAt behind n body more →
    bytes ≡ frame_of_body body ++ more
whole_frame bytes front behind body more n s e t =
    let head : front ≡ to_be_bytes w64 (length body) = sym e ∙ ap (to_be_bytes w64) (sym t.3) in
    joined bytes front behind 8 s ∙ (ap (λ (l : List ℕ). front ++ l) (joined behind body more n t)
    ∙ (ap (λ (l : List ℕ). l ++ (body ++ more)) head ∙ sym (append_assoc (to_be_bytes w64 (length body)) body more)))

each_more : (xs ys : List Note) → AllByRecursion IsNote xs → AllByRecursion IsNote ys → AllByRecursion IsNote (xs ++ ys)
each_more [] ys g h = h
each_more (x ∷ xs) ys g h = (g.0, each_more xs ys g.1 h)

-- ---- the next piece of a stream

-- the frames of both, and what comes behind them
further : (stream piece : List ℕ) (notes more : List Note) (rest left : List ℕ) → stream ≡ frames notes ++ rest → rest ++ piece ≡ frames more ++ left →
    stream ++ piece ≡ frames (notes ++ more) ++ left
further stream piece notes more rest left e f =
    ap (λ (l : List ℕ). l ++ piece) e ∙ (append_assoc (frames notes) rest piece ∙ (ap (λ (l : List ℕ). frames notes ++ l) f
    ∙ (sym (append_assoc (frames notes) (frames more) left) ∙ ap (λ (l : List ℕ). l ++ left) (sym (flat_map-append frame notes more)))))

pub goes_on : GoesOn
goes_on stream piece notes more rest left a b = record {
  whole = further stream piece notes more rest left a.whole b.whole;
  each = each_more notes more a.each b.each;
  partial = b.partial;
}

pub stops_later : StopsLater
stops_later stream piece notes more rest at a b = record {
  body = b.body;
  more = b.more;
  whole = further stream piece notes more rest (frame_of_body b.body ++ b.more) a.whole b.whole;
  each = each_more notes more a.each b.each;
  none = b.none;
  place = ap (λ (n : ℕ). length (frames notes) + n) b.place
      ∙ (sym (length-append (frames notes) (frames more)) ∙ ap (λ (l : List ℕ). length l) (sym (flat_map-append frame notes more)));
}
