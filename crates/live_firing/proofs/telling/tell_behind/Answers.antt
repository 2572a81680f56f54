use Rattle.std.proofs.Common.{◌≡◌, ◌++◌, List, drop, sym, ap, subst, ◌∙◌}
use Rattle.std.proofs.lemmas.List.{drop_at}
use Rattle.sig_effect.specs.Events.{AreTold}
use Rattle.sig_effect.specs.declared.events.Event.{Event}
use Rattle.live_firing.proofs.telling.tell_behind.Goals as goal

pub returns-clause-told : goal.returns-clause-told
returns-clause-told c = λ before ts count h.
    let more : c.split_at.result.1.now ≡ h.more = c.split_at.ensures.back ∙ (ap (drop c.args.count) h.behind ∙ drop_at before h.more c.args.count count) in
    c.in_ok-append.ensures ∙ ap (λ es. c.args.told.now.items ++ es) (c.in_ok-entries.ensures.entries ts (subst (λ (es : List Event). AreTold es ts) (sym more) h.each))

pub returns-clause-labels : goal.returns-clause-labels
returns-clause-labels c = λ before ts count h.
    let more : c.split_at.result.1.now ≡ h.more = c.split_at.ensures.back ∙ (ap (drop c.args.count) h.behind ∙ drop_at before h.more c.args.count count) in
    c.in_ok-entries.ensures.labels ts (subst (λ (es : List Event). AreTold es ts) (sym more) h.each)

pub returns-clause-noted : goal.returns-clause-noted
returns-clause-noted c = λ before ts count h.
    let more : c.split_at.result.1.now ≡ h.more = c.split_at.ensures.back ∙ (ap (drop c.args.count) h.behind ∙ drop_at before h.more c.args.count count) in
    c.in_ok-entries.ensures.noted ts (subst (λ (es : List Event). AreTold es ts) (sym more) h.each)
