use Rattle.sig_words.proofs.LiteralLaws.{each_written}
use Rattle.sig_words.proofs.quotes.each_character_is_written.Goals as goal

pub returns : goal.returns
returns c = each_written
