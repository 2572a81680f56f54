use Rattle.line_forms.proofs.Tags.{tagged_utf8}
use Rattle.line_forms.proofs.cursor.tag_of.Goals as goal

pub unreachable-requires : goal.unreachable-requires
unreachable-requires c =
    let h = tagged_utf8 c.args.line.now c.args.token.now c.requires c.in-Tag.is in
    c.in_default-from_utf8.ensures.cases.0 (rw (c.split_at.ensures.back, c.token_bytes.ensures) h)
