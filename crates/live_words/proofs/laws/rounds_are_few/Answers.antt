use Rattle.clap.specs.Words.{fault_of, matches_of}
use Rattle.live_words.specs.Jobs.{job_of_rows, live}
use Rattle.live_words.proofs.Few.{few_by_rows, few_unless}
use Rattle.live_words.proofs.laws.rounds_are_few.Goals as goal

pub returns : goal.returns
returns c = λ words. few_unless (fault_of live words) (job_of_rows (matches_of live words)) (few_by_rows (matches_of live words))
