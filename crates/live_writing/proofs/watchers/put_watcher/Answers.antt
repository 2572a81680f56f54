use Rattle.live_writing.proofs.watchers.put_watcher.Goals as goal

pub returns-in-None : goal.returns-in-None
returns-in-None c = rw c.in-None.is c.put_alone.ensures
