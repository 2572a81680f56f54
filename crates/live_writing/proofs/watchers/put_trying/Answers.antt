use Rattle.live_writing.proofs.watchers.put_trying.Goals as goal

pub returns-in-Get : goal.returns-in-Get
returns-in-Get c = rw c.in-Get.is c.put_tries_get.ensures

pub returns-in-Set : goal.returns-in-Set
returns-in-Set c = rw c.in-Set.is c.put_tries_set.ensures

pub returns-in-Watch : goal.returns-in-Watch
returns-in-Watch c = rw c.in-Watch.is c.put_tries_watch.ensures

pub returns-in-Unwatch : goal.returns-in-Unwatch
returns-in-Unwatch c = rw c.in-Unwatch.is c.put_tries_unwatch.ensures
