use Rattle.std.proofs.Common.{map, refl, string_bytes, sym, ◌∙◌}
use Rattle.std.proofs.lemmas.Bool.{true≢false}
use Rattle.live_words.specs.Jobs.{job_of}
use Rattle.live_words.specs.declared.jobs.Job.TheVariants as asked
use Rattle.live_run.proofs.Output.{nothing_written, of_any, of_job}
use Rattle.live_run.proofs.run.run_live.Goals as goal

-- ---- a script

pub returns-in-Ok-Some-Script-clause-ends : goal.returns-in-Ok-Some-Script-clause-ends
returns-in-Ok-Some-Script-clause-ends g c =
    of_job (job_of (map string_bytes c.args.words.now)) _ _ (asked.Script c.in-Ok-Some-Script.job) _ c.in-Ok-Some-Script.field-0-0-is c.in-Ok-Some-Script.field-0-is c.in-Ok-Some-Script.ensures
    c.run_job.ensures.ends

pub returns-in-Ok-Some-Script-clause-wrong_words : goal.returns-in-Ok-Some-Script-clause-wrong_words
returns-in-Ok-Some-Script-clause-wrong_words g c =
    λ none. let some = sym c.in-Ok-Some-Script.field-0-is ∙ c.in-Ok-Some-Script.ensures in absurd (cc)

pub returns-in-Ok-Some-Script-clause-generated : goal.returns-in-Ok-Some-Script-clause-generated
returns-in-Ok-Some-Script-clause-generated g c =
    of_job (job_of (map string_bytes c.args.words.now)) _ _ (asked.Script c.in-Ok-Some-Script.job) _ c.in-Ok-Some-Script.field-0-0-is c.in-Ok-Some-Script.field-0-is c.in-Ok-Some-Script.ensures
    c.run_job.ensures.generated

pub returns-in-Ok-Some-Script-clause-nothing : goal.returns-in-Ok-Some-Script-clause-nothing
returns-in-Ok-Some-Script-clause-nothing g c =
    of_job (job_of (map string_bytes c.args.words.now)) _ _ (asked.Script c.in-Ok-Some-Script.job) _ c.in-Ok-Some-Script.field-0-0-is c.in-Ok-Some-Script.field-0-is c.in-Ok-Some-Script.ensures
    (λ _. c.run_job.ensures.nothing)

-- ---- frames

pub returns-in-Ok-Some-Follow-clause-ends : goal.returns-in-Ok-Some-Follow-clause-ends
returns-in-Ok-Some-Follow-clause-ends g c =
    of_job (job_of (map string_bytes c.args.words.now)) _ _ asked.Follow _ c.in-Ok-Some-Follow.field-0-0-is c.in-Ok-Some-Follow.field-0-is c.in-Ok-Some-Follow.ensures
    c.follow_frames.ensures

pub returns-in-Ok-Some-Follow-clause-wrong_words : goal.returns-in-Ok-Some-Follow-clause-wrong_words
returns-in-Ok-Some-Follow-clause-wrong_words g c =
    λ none. let some = sym c.in-Ok-Some-Follow.field-0-is ∙ c.in-Ok-Some-Follow.ensures in absurd (cc)

pub returns-in-Ok-Some-Follow-clause-generated : goal.returns-in-Ok-Some-Follow-clause-generated
returns-in-Ok-Some-Follow-clause-generated g c =
    of_job (job_of (map string_bytes c.args.words.now)) _ _ asked.Follow _ c.in-Ok-Some-Follow.field-0-0-is c.in-Ok-Some-Follow.field-0-is c.in-Ok-Some-Follow.ensures
    (λ e. absurd (true≢false e))

pub returns-in-Ok-Some-Follow-clause-nothing : goal.returns-in-Ok-Some-Follow-clause-nothing
returns-in-Ok-Some-Follow-clause-nothing g c =
    of_job (job_of (map string_bytes c.args.words.now)) _ _ asked.Follow _ c.in-Ok-Some-Follow.field-0-0-is c.in-Ok-Some-Follow.field-0-is c.in-Ok-Some-Follow.ensures
    (λ e. absurd (true≢false (sym e)))

-- ---- out of memory

pub returns-in-Err-clause-ends : goal.returns-in-Err-clause-ends
returns-in-Err-clause-ends g c = nothing_written _ _ (job_of (map string_bytes c.args.words.now)) _ _

pub returns-in-Err-clause-generated : goal.returns-in-Err-clause-generated
returns-in-Err-clause-generated g c = of_any (job_of (map string_bytes c.args.words.now)) _ (λ _ _. refl)

pub returns-in-Err-clause-nothing : goal.returns-in-Err-clause-nothing
returns-in-Err-clause-nothing g c = of_any (job_of (map string_bytes c.args.words.now)) _ (λ _ _ _. refl)
