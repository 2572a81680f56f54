use Rattle.std.proofs.Common.{◌∙◌}
use Rattle.clap.specs.Words.{found_of}
use Rattle.live_words.proofs.Parses.{refused, taken}
use Rattle.live_words.proofs.words.read_job.Goals as goal

pub returns-in-Ok : goal.returns-in-Ok
returns-in-Ok c = c.job_from.ensures ∙ taken _ _ (found_of c.in-Ok.matches) _ _ _ c.in_ok-command.ensures c.in-Ok.ensures.kinds (λ s. (c.in-Ok.ensures.matches s).0) c.get_str.ensures c.get_str-in-Ok.ensures c.get_str-in-Ok-2.ensures

pub returns : goal.returns
returns c = refused _ _ c.in-Err.error c.in_ok-command.ensures c.in-Err.ensures.kinds (λ m. c.in_default.not-OutOfMemory (c.kind.ensures ∙ m))
