use Rattle.std.proofs.Common.{◌∙◌, ap, arith}
use Rattle.std.specs.Prelude.{slice_set}
use Rattle.sig_seats.specs.declared.finds.Found.{Found}
use Rattle.sig_seats.specs.Found.{Noted, count_for, place_of}
use Rattle.sig_seats.proofs.NotedFinds.{held_here, held_written, noted_here, noted_others}
use Rattle.sig_seats.proofs.finds.Finds.note.Goals as goal

pub returns-then-place-len-clause-here : goal.returns-then-place-len-clause-here
returns-then-place-len-clause-here c =
    let fs = c.self.inside.at.items in
    let s = c.place_of-place.result in
    let f = c.found_of-found.result in
    let t : Noted = record { at = fs; highs = c.self.inside.highs.items } in
    let u : Noted = record { at = slice_set fs s f; highs = c.keep_high.new.highs.items } in
    noted_here t u s c.args.id c.args.worn (record {
      place = c.place_of-place.ensures.place;
      high = c.keep_high.ensures.here ∙ c.high_of.ensures;
      highs = c.keep_high.ensures.others;
      here = λ n high. held_here fs s high n f (omega arith) ∙ ap (λ (g : Found). count_for high g n) c.found_of-found.ensures;
      others = λ n high apart. held_written fs s f (place_of n) high n apart;
    })

pub returns-then-place-len-clause-others : goal.returns-then-place-len-clause-others
returns-then-place-len-clause-others c =
    let fs = c.self.inside.at.items in
    let s = c.place_of-place.result in
    let f = c.found_of-found.result in
    let t : Noted = record { at = fs; highs = c.self.inside.highs.items } in
    let u : Noted = record { at = slice_set fs s f; highs = c.keep_high.new.highs.items } in
    noted_others t c.args.self.now u s c.args.id c.args.worn c.self.view_is (record {
      place = c.place_of-place.ensures.place;
      high = c.keep_high.ensures.here ∙ c.high_of.ensures;
      highs = c.keep_high.ensures.others;
      here = λ n high. held_here fs s high n f (omega arith) ∙ ap (λ (g : Found). count_for high g n) c.found_of-found.ensures;
      others = λ n high apart. held_written fs s f (place_of n) high n apart;
    })

pub returns-else-place-len-clause-here : goal.returns-else-place-len-clause-here
returns-else-place-len-clause-here c =
    let s = c.place_of-place.result in
    let t : Noted = record { at = c.self.inside.at.items; highs = c.self.inside.highs.items } in
    let u : Noted = record { at = c.note_later.new.at.items; highs = c.keep_high.new.highs.items } in
    noted_here t u s c.args.id c.args.worn (record {
      place = c.place_of-place.ensures.place;
      high = c.keep_high.ensures.here ∙ c.high_of.ensures;
      highs = c.keep_high.ensures.others;
      here = λ n high. c.note_later.ensures.here n high ∙ ap (λ (g : Found). count_for high g n) c.found_of-found.ensures;
      others = c.note_later.ensures.others;
    })

pub returns-else-place-len-clause-others : goal.returns-else-place-len-clause-others
returns-else-place-len-clause-others c =
    let s = c.place_of-place.result in
    let t : Noted = record { at = c.self.inside.at.items; highs = c.self.inside.highs.items } in
    let u : Noted = record { at = c.note_later.new.at.items; highs = c.keep_high.new.highs.items } in
    noted_others t c.args.self.now u s c.args.id c.args.worn c.self.view_is (record {
      place = c.place_of-place.ensures.place;
      high = c.keep_high.ensures.here ∙ c.high_of.ensures;
      highs = c.keep_high.ensures.others;
      here = λ n high. c.note_later.ensures.here n high ∙ ap (λ (g : Found). count_for high g n) c.found_of-found.ensures;
      others = c.note_later.ensures.others;
    })
