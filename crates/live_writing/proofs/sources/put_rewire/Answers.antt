use Rattle.live_writing.proofs.sources.put_rewire.Goals as goal

pub returns-in-Formula : goal.returns-in-Formula
returns-in-Formula c = rw c.in-Formula.is c.put_rewire_formula.ensures

pub returns-in-Host : goal.returns-in-Host
returns-in-Host c = rw c.in-Host.is c.put_rewire_host.ensures
