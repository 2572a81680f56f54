use Rattle.std.proofs.Common.{◌≡◌, get_or, length, ap, ◌∙◌, arith}
use Rattle.std.specs.Prelude.{slice_get}
use Rattle.signal_model.specs.Memos.{Memo}
use Rattle.sig_nodes.proofs.Sources.{paired_at, paired_past}
use Rattle.sig_nodes.proofs.node.Memo.source.Goals as goal

pub returns-then-place-sources : goal.returns-then-place-sources
returns-then-place-sources c =
    let same : length c.as_slice-sources.result.now ≡ length c.self.inside.sources.items = ap length c.as_slice-sources.ensures in
    paired_at c.self.inside.sources.items c.self.inside.numbers.items c.args.place c.index-sources-place.result c.index.result.now c.self.invariant (omega (arith, same))
    (c.index-sources-place.is ∙ ap (λ l. get_or l c.args.place c.index-sources-place.result) c.as_slice-sources.ensures) c.index.ensures
    ∙ ap (λ (m : Memo). slice_get m.sources c.args.place) c.self.view_is

pub returns-else-place-sources : goal.returns-else-place-sources
returns-else-place-sources c =
    let same : length c.as_slice-sources.result.now ≡ length c.self.inside.sources.items = ap length c.as_slice-sources.ensures in
    paired_past c.self.inside.sources.items c.self.inside.numbers.items c.args.place (omega (arith, same))
    ∙ ap (λ (m : Memo). slice_get m.sources c.args.place) c.self.view_is
