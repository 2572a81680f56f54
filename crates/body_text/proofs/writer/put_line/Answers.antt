use Rattle.body_text.proofs.Texts.{line_put}
use Rattle.body_text.proofs.writer.put_line.Goals as goal

pub returns-in_ok-put_targeted-in-Set : goal.returns-in_ok-put_targeted-in-Set
returns-in_ok-put_targeted-in-Set c = line_put c.args.out.now.items _ _ _ _ _ c.in-Set.is c.in_ok-put_targeted-in-Set.ensures

pub returns-in_ok-put_alone-in-Log : goal.returns-in_ok-put_alone-in-Log
returns-in_ok-put_alone-in-Log c = line_put c.args.out.now.items _ _ _ _ _ c.in-Log.is c.in_ok-put_alone-in-Log.ensures

pub returns-in_ok-put_targeted-in-CleanupSet : goal.returns-in_ok-put_targeted-in-CleanupSet
returns-in_ok-put_targeted-in-CleanupSet c = line_put c.args.out.now.items _ _ _ _ _ c.in-CleanupSet.is c.in_ok-put_targeted-in-CleanupSet.ensures

pub returns-in_ok-put_alone-in-CleanupLog : goal.returns-in_ok-put_alone-in-CleanupLog
returns-in_ok-put_alone-in-CleanupLog c = line_put c.args.out.now.items _ _ _ _ _ c.in-CleanupLog.is c.in_ok-put_alone-in-CleanupLog.ensures

pub returns-in_ok-put_acted-in-Dispose : goal.returns-in_ok-put_acted-in-Dispose
returns-in_ok-put_acted-in-Dispose c = line_put c.args.out.now.items _ _ _ _ _ c.in-Dispose.is c.in_ok-put_acted-in-Dispose.ensures
