use Rattle.std.proofs.Common.{ℕ, Bool, sym, subst}
use Rattle.signal_laws.proofs.Shared.{all_snoc}
use Rattle.tpl_hearing.specs.HeardAgain.{AllCompared, IsCompared}
use Rattle.tpl_hearing.proofs.comparisons.note.Goals as goal

pub returns : goal.returns
returns c = λ before heard all one.
    subst (AllCompared before heard) (sym c.in_ok-put_note.ensures)
    (all_snoc (λ (p : ℕ × Bool). IsCompared before heard p.0 p.1) c.args.noted.now.items (c.args.id, c.args.same) all one)
