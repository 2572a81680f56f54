use Rattle.page_wire.proofs.OneFrame.{front_spells, front_stops, no_end, one_stop, one_stream}
use Rattle.page_wire.proofs.laws.one_stream.Goals as goal

pub returns : goal.returns
returns c = record {
  stream = one_stream c.one_reading.ensures;
  stop = one_stop c.one_reading.ensures;
  no_end = no_end c.one_reading.ensures;
  front = front_spells c.one_reading.ensures;
  front_stop = front_stops c.one_reading.ensures;
}
