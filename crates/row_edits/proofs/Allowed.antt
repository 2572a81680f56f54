-- An edit that isn't refused has no fault.
use Rattle.std.proofs.Common.{◌≡◌, Option, Some, None, refl}
use Rattle.std.specs.Prelude.{option_map}
use Rattle.sig_base.specs.Tables.{Table}
use Rattle.sig_rows.specs.declared.fault.RowFault.{RowFault}
use Rattle.live_cmd.specs.declared.command.RowEdit.{RowEdit}
use Rattle.live_model.specs.Rows.{edit_fault, edit_refusal, fault_told}

no_fault : (e : RowEdit) (fault : Option RowFault) → option_map (fault_told e) fault ≡ None → fault ≡ None
no_fault e None h = refl
no_fault e (Some why) h = cc

pub allowed : (e : RowEdit) (t : Table) → edit_refusal e t ≡ None → edit_fault e t ≡ None
allowed e t h = no_fault e (edit_fault e t) h
