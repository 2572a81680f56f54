mod Since
mod Causes
mod AfterChanges
mod AfterRuns
mod Rounds
mod Recording
mod Beginnings
