use Rattle.std.proofs.Common.{sym, ◌∙◌, arith}
use Rattle.std.proofs.lemmas.Bool.{eqb-false, eqb-true}
use Rattle.sig_seats.specs.Found.{count_of}
use Rattle.sig_seats.proofs.NotedFinds.{found_other, found_past, found_told}
use Rattle.sig_seats.proofs.finds.Finds.is_found.Goals as goal

pub returns-then-place-len-clause-none : goal.returns-then-place-len-clause-none
returns-then-place-len-clause-none c = λ q more at.
    let none = found_past (record { at = c.self.inside.at.items; highs = c.self.inside.highs.items }) c.args.self.now c.place_of-place.result c.args.id c.self.view_is c.place_of-place.ensures.place (omega arith) in
    omega (arith, more, at, none)

pub returns-then-eq-clause-found : goal.returns-then-eq-clause-found
returns-then-eq-clause-found c = λ q.
    found_told (record { at = c.self.inside.at.items; highs = c.self.inside.highs.items }) c.args.self.now c.place_of-place.result c.args.id c.high_at.result c.index.result.now c.self.view_is c.place_of-place.ensures.place (omega arith) c.index.ensures
    (sym c.eq.ensures ∙ c.if-eq.true) c.high_at.ensures
    ∙ eqb-true (count_of c.high_at.result c.index.result.now.low) c.args.worn (sym c.is_count.ensures ∙ q)

pub returns-then-eq-clause-none : goal.returns-then-eq-clause-none
returns-then-eq-clause-none c = λ q more at.
    eqb-false (count_of c.high_at.result c.index.result.now.low) c.args.worn (sym c.is_count.ensures ∙ q)
    (sym (found_told (record { at = c.self.inside.at.items; highs = c.self.inside.highs.items }) c.args.self.now c.place_of-place.result c.args.id c.high_at.result c.index.result.now c.self.view_is c.place_of-place.ensures.place (omega arith) c.index.ensures
    (sym c.eq.ensures ∙ c.if-eq.true) c.high_at.ensures) ∙ at)

pub returns-else-eq-clause-none : goal.returns-else-eq-clause-none
returns-else-eq-clause-none c = λ q more at.
    let none = found_other (record { at = c.self.inside.at.items; highs = c.self.inside.highs.items }) c.args.self.now c.place_of-place.result c.args.id c.index.result.now c.self.view_is c.place_of-place.ensures.place (omega arith) c.index.ensures
    (sym c.eq.ensures ∙ q) in
    omega (arith, more, at, none)
