use Rattle.sig_words.proofs.Fronts.{word_token}
use Rattle.sig_words.proofs.scan.word.Goals as goal

pub returns-clause-token : goal.returns-clause-token
returns-clause-token c = λ sign. let e = c.word_run.ensures in word_token sign c.word_run.result c.args.bytes.now c.requires.begins e.some e.run e.ends
