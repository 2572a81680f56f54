use Rattle.page_wire.proofs.Pieces.{goes_on, stops_later}
use Rattle.page_wire.proofs.laws.pieces_law.Goals as goal

pub returns : goal.returns
returns c = record { on = goes_on; stop = stops_later }
