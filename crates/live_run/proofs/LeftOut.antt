-- What a report leaves out may be left out of what it is told.
use Rattle.std.proofs.Common.{◌≡◌, Bool, true, false, not, List, ◌++◌, refl, ap}
use Rattle.live_cmd.specs.declared.command.Item.{Item}
use Rattle.live_entries.specs.declared.entry.Entry.{Entry}
use Rattle.live_entries.specs.declared.entry.Entry.TheVariants as entry
use Rattle.live_entries.specs.Printed.{is_traced, AreLeft, AreToldFor, IsSizedEntry, entry_left_out, entry_told, nothing_told}
use Rattle.live_entries.proofs.Shared.{left_behind, left_whole}
use Rattle.live_report.specs.declared.report.Report.{Report}
use Rattle.live_report.specs.Reports.{still}
use Rattle.live_run.specs.Jobs.{AreSized}

-- what only a trace prints has no operation
sized_traced : (e : Entry) → is_traced e ≡ true → IsSizedEntry e
sized_traced (entry.Op n o) h = absurd cc
sized_traced _ h = tt

pub sized_whole : {es all : List Entry} → AreLeft es all → AreSized es → AreSized all
sized_whole nothing_told s = s
sized_whole (entry_told e h) s = (s.0, sized_whole h s.1)
sized_whole (entry_left_out e t h) s = (sized_traced e t, sized_whole h s)

-- what may be left out where no trace is asked for is nothing to a report that leaves it out
pub left_out : (untraced : Bool) (r : Report) (es all fs : List Entry) → AreToldFor (not untraced) es all →
    (untraced ≡ true → (is : List Item) (given whole : List Entry) → AreLeft given whole → still r is given ≡ still r is whole) →
    (is : List Item) → still r is (es ++ fs) ≡ still r is (all ++ fs)
left_out true r es all fs t same is = same refl is (es ++ fs) (all ++ fs) (left_behind t.left (left_whole fs))
left_out false r es all fs t same is = ap (λ (xs : List Entry). still r is (xs ++ fs)) (t.whole refl)
