use Rattle.tpl_blocks.specs.Blocks.{block, lines_of}
use Rattle.tpl_scratch.specs.Pages.{nodes_of}
use Rattle.tpl_scratch.proofs.Results.{scratch_is}
use Rattle.tpl_scratch.proofs.scratch.page_from_scratch.Goals as goal

pub returns : goal.returns
returns c =
    scratch_is c.args.known.now (lines_of c.args.template.now) (block c.in_ok-block.block) c.show-shown.result (nodes_of c.new-out.result)
    (nodes_of c.show-shown.new.out) c.in_ok-step.step c.in_ok-block.ensures c.new-out.ensures
    (rw (c.deref.ensures, c.in_ok-lines.ensures.ok) at c.show-shown.ensures.shows) (rw (c.deref.ensures, c.in_ok-lines.ensures.ok) at c.show-shown.ensures.stops)
    c.in_ok-step.ensures
