-- What a page keeps, apart from where it lies in memory.
use Rattle.tpl_blocks.specs.Blocks.{block}
use Rattle.tpl_model.specs.KeptLines.Kept.{kept}
use Rattle.tpl_drawn.specs.Addresses.{number_at}
use Rattle.tpl_drawn.specs.Lines.{line_at}
use Rattle.tpl_live.specs.Pages.{Standing}
use Rattle.tpl_live.specs.declared.page.Page.{Page}

-- a page that stands
abbrev pub standing : Page → Standing
standing p = record {
  lines = block p.lines.value;
  links = p.links.items;
  heard = p.heard;
  memo = kept p.memo.value;
  next = p.nodes.next;
  tree = p.nodes.tree;
  number = number_at p.nodes.numbers;
  line = line_at p.nodes.numbers;
}
