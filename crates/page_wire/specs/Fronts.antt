-- How far the frames at the front of some bytes are notes'.
use Rattle.std.specs.Prelude.{◌≡◌, ◌≤◌, ℕ, List, ◌++◌, drop, length}
use Rattle.wire_model.specs.Notes.{Note, frame_of_body}
use Rattle.wire_model.specs.Streams.{IsNoBody, IsPartial}
use Rattle.page_wire.specs.Decoding.{Took}
use Rattle.page_wire.specs.declared.decoder.Front.{Front}
use Rattle.page_wire.specs.declared.decoder.Front.TheVariants as front

-- a whole frame that is no note's, and more
pub record BeginsBad (bytes : List ℕ) : Type 0 where
  pub body : List ℕ
  pub more : List ℕ
  pub whole : bytes ≡ frame_of_body body ++ more
  pub none : IsNoBody body

-- behind so many bytes less than a whole frame is left, or a whole one that is no note's
abbrev pub Stands : Front → List ℕ → List Note → List Note → Type 0
Stands (front.Partial taken) bytes before after = (taken ≤ length bytes) × Took bytes before after (drop taken bytes) × IsPartial (drop taken bytes)
Stands (front.Bad taken) bytes before after = (taken ≤ length bytes) × Took bytes before after (drop taken bytes) × BeginsBad (drop taken bytes)
