use Rattle.std.proofs.Common.{sym}
use Rattle.std.specs.Prelude.{slice_index}
use Rattle.std.specs.Int.{w64}
use Rattle.std.proofs.lemmas.Int.{to_z-of_z}
use Rattle.sig_words.proofs.Fronts.{no_tag, no_number, no_literal, no_symbol, opens_begins, opens_at, number_token, literal_token, symbol_token}
use Rattle.sig_words.proofs.scan.scan.Goals as goal

pub word-requires-clause-begins : goal.word-requires-clause-begins
word-requires-clause-begins c = opens_begins c.args.sign (slice_index c.args.bytes.now 0) (slice_index c.args.bytes.now 1) (sym c.in-Words.ensures)

pub returns-in-Words-clause-token : goal.returns-in-Words-clause-token
returns-in-Words-clause-token c = c.word.ensures.token c.args.sign

pub tag-requires-clause-begins : goal.tag-requires-clause-begins
tag-requires-clause-begins c = opens_at c.args.sign (slice_index c.args.bytes.now 0) (slice_index c.args.bytes.now 1) (sym c.in-Tags.ensures)

pub returns-in_default-clause-token : goal.returns-in_default-clause-token
returns-in_default-clause-token c = no_tag c.args.sign c.args.bytes.now (sym c.in-Tags.ensures) c.in_default.ensures.token

pub returns-in_default-number-clause-token : goal.returns-in_default-number-clause-token
returns-in_default-number-clause-token c = no_number c.args.sign c.args.bytes.now (sym c.in-Numbers.ensures) c.in_default-number.ensures.token

pub returns-in_default-literal_len-clause-token : goal.returns-in_default-literal_len-clause-token
returns-in_default-literal_len-clause-token c = no_literal c.args.sign c.args.bytes.now (sym c.in-Literals.ensures) c.in_default-literal_len.ensures.len

pub returns-in_default-symbol-clause-token : goal.returns-in_default-symbol-clause-token
returns-in_default-symbol-clause-token c = no_symbol c.args.sign c.args.bytes.now (sym c.in-Symbols.ensures) c.in_default-symbol.ensures.token

pub returns-in-Some-number-clause-token : goal.returns-in-Some-number-clause-token
returns-in-Some-number-clause-token c =
    let e = c.in-Some-number.ensures in
    rw (to_z-of_z w64 c.in-Some-number.z e.token.0.0) (number_token c.args.sign c.args.bytes.now c.in-Some-number.n c.in-Some-number.z e.within.0 (sym c.in-Numbers.ensures) e.token.0 e.token.1)

pub returns-in-Some-literal_len-clause-token : goal.returns-in-Some-literal_len-clause-token
returns-in-Some-literal_len-clause-token c = literal_token c.args.sign c.args.bytes.now c.in-Some-literal_len.n c.requires (sym c.in-Literals.ensures) c.in-Some-literal_len.ensures.len

pub returns-in-Some-symbol-clause-token : goal.returns-in-Some-symbol-clause-token
returns-in-Some-symbol-clause-token c =
    let e = c.in-Some-symbol.ensures in
    symbol_token c.args.sign c.args.bytes.now c.in-Some-symbol.n e.within.0 e.within.1 (sym c.in-Symbols.ensures) e.token.0 e.token.1
