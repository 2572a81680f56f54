use Rattle.sig_base.proofs.Placing.{IsPlaced-padded, placed-padded}
use Rattle.sig_base.specs.declared.chars.TheConstants.{FEW}
use Rattle.sig_base.proofs.chars.Few.of.Goals as goal

pub invariant_of-result : goal.invariant_of-result
invariant_of-result c = rw (c.padded.ensures, c.as_bytes.ensures.value) (IsPlaced-padded FEW c.args.text.now c.requires c.utf8.text)

pub returns : goal.returns
returns c = rw (c.padded.ensures, c.as_bytes.ensures.value) (placed-padded FEW c.args.text.now c.requires)
