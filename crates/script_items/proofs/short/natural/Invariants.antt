use Rattle.std.proofs.Common.{◌≡◌, ◌<◌, ◌^◌, ◌++◌, drop}
use Rattle.std.specs.Fmt.{decimal}
use Rattle.script_items.proofs.short.natural.Given as goal

-- the digits so far are those of a number that isn't 0 and isn't long
abbrev pub invariant-loop-digit : goal.invariant-loop-digit
invariant-loop-digit l = record {
  some : 0 < l.number;
  few : l.number < 10 ^ 18;
  is : l.text ≡ decimal l.number ++ drop l.digit-index l.digits;
}
