use Rattle.std.proofs.Common.{rules}
use Rattle.sig_words.proofs.Shared.{each_token}
use Rattle.line_forms.proofs.cursor.key_at.Goals as goal

pub key_of-requires : goal.key_of-requires
key_of-requires c = let each = each_token c.args.line.now c.args.tokens.now c.requires in search rules
