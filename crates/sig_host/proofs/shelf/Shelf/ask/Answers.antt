use Rattle.std.proofs.Common.{◌<◌, IsTrue, is_some, subst}
use Rattle.std.proofs.lemmas.Result.{IfOk-weaker, on_ok_weaker, on_err_weaker}
use Rattle.sig_host.proofs.Places.{answer_at, answers_kept, asked_same, asked_set, counted_at, counted_set, there_at, there_same}
use Rattle.sig_host.specs.Hosts.{HostPlace, last_ask}
use Rattle.sig_host.proofs.shelf.Shelf.ask.Goals as goal

pub ask_at-requires-clause-counted : goal.ask_at-requires-clause-counted
ask_at-requires-clause-counted g c = counted_at _ _ _ c.args.place _ c.requires.there c.index_mut.ensures.value c.requires.counted

pub ask_at-requires-clause-there : goal.ask_at-requires-clause-there
ask_at-requires-clause-there g c =
    subst (λ (o : HostPlace). IsTrue o.there) (there_at (λ p. record { there = is_some p.host; asks = p.count }) _ c.args.place _ c.requires.there c.index_mut.ensures.value) c.requires.there

pub ask_at-requires-clause-room : goal.ask_at-requires-clause-room
ask_at-requires-clause-room g c =
    subst (λ (o : HostPlace). o.asks < last_ask) (there_at (λ p. record { there = is_some p.host; asks = p.count }) _ c.args.place _ c.requires.there c.index_mut.ensures.value) c.requires.room

pub returns-clause-answer : goal.returns-clause-answer
returns-clause-answer g c = λ hosts all. IfOk-weaker c.ask_at.result _ _ (λ s e. answer_at _ (λ p. record { there = is_some p.host; asks = p.count }) _ c.args.place _ c.args.known.now s c.requires.there c.index_mut.ensures.value all e) c.ask_at.ensures.answer

pub returns-clause-answers : goal.returns-clause-answers
returns-clause-answers g c = λ hosts all. answers_kept _ _ c.args.place c.ask_at.new.place _ c.index_mut.ensures.value c.ask_at.ensures.same all

pub returns-clause-counted : goal.returns-clause-counted
returns-clause-counted g c = counted_set _ _ _ c.args.place c.ask_at.new.place c.ask_at.ensures.counted c.requires.counted

pub returns-clause-asked : goal.returns-clause-asked
returns-clause-asked g c = on_ok_weaker c.ask_at.result (asked_set (λ p. record { there = is_some p.host; asks = p.count }) _ c.args.place 1 c.ask_at.new.place _ c.requires.there c.index_mut.ensures.value c.ask_at.ensures.there) c.ask_at.ensures.asked

pub returns-clause-unasked : goal.returns-clause-unasked
returns-clause-unasked g c = on_err_weaker c.ask_at.result (asked_same (λ p. record { there = is_some p.host; asks = p.count }) _ c.args.place c.ask_at.new.place _ c.index_mut.ensures.value) c.ask_at.ensures.unasked

pub returns-clause-there : goal.returns-clause-there
returns-clause-there g c = there_same (λ p. record { there = is_some p.host; asks = p.count }) _ c.args.place c.ask_at.new.place _ c.index_mut.ensures.value c.ask_at.ensures.there
