use Rattle.std.proofs.Common.{◌-◌, length, take, drop, sym, ap, subst, ◌∙◌, arith}
use Rattle.tpl_model.specs.KeptLines.Kept.{kept}
use Rattle.tpl_kept.specs.Turns.{AreAlike}
use Rattle.tpl_kept.proofs.Renewals.Between.{Cut, found_serve}
use Rattle.tpl_kept.proofs.renewing.rows.rows_found.Goals as goal

pub overflow_sub-fewer : goal.overflow_sub-fewer
overflow_sub-fewer c = c.fewer.ensures.most c.args.front c.requires.was c.requires.rows

pub returns : goal.returns
returns c = λ old x.
    let was = c.args.was.now in
    let rows = c.args.rows.now in
    let front = c.args.front in
    let back = c.count_back-back.result in
    let i = c.len.result - back in
    let last = c.len-2.result - back in
    let k = c.len-3.result - back - front in
    let first = c.reserve.new.self.items in
    let left = c.split_off-2.new.self.items in
    let behind = c.in_ok-behind.behind.items in
    let found = c.put_found.new.taken.items in
    let all = c.append.new.self.items in
    let most = c.count_back-back.ensures.most in
    let few = c.fewer.ensures.was in
    let many = c.fewer.ensures.rows in
    let own = c.requires.was in
    let whole = c.len.ensures in
    let now = c.len-2.ensures in
    let again = c.len-3.ensures in
    let cut : Cut was rows front back k i last c.args.memos.items first left behind found all = record {
      is_first = c.in_ok-reserve.ensures.items ∙ c.in_ok-left.ensures.items;
      is_left = c.in_ok-behind.ensures.items ∙ ap (take k) c.in_ok-left.ensures.tail;
      is_behind = c.in_ok-behind.ensures.tail ∙ ap (drop k) c.in_ok-left.ensures.tail;
      whole = c.in_ok-append.ensures.items;
      many = c.in_ok-put_found.ensures.count;
      between = omega (arith, most, few, many, own, whole, again);
      was_all = omega (arith, most, few, whole);
      now_all = omega (arith, most, many, now);
      alike =
          subst (λ z. AreAlike was (z - back) rows last back) (sym whole)
          (subst (λ z. AreAlike was (length was.rows - back) rows (z - back) back) (sym now) c.count_back-back.ensures.alike);
    } in
    found_serve kept was rows front back k i last c.args.memos.items first left behind found all old cut x c.in_ok-put_found.ensures.serve
    c.in_ok-put_found.ensures.among
