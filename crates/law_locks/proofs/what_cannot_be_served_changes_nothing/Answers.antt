use Rattle.model_sync.specs.Events.{clear, is_set, set, wait}
use Rattle.model_sync.specs.Locks.{acquire, is_locked, release}
use Rattle.model_sync.specs.Queues.{get, put, size}
use Rattle.law_locks.proofs.Refusing.{no_event_refused, no_lock_refused, no_queue_refused, release_refused}
use Rattle.law_locks.proofs.what_cannot_be_served_changes_nothing.Goals as goal

pub returns-clause-acquire : goal.returns-clause-acquire
returns-clause-acquire c = λ id p kept never. no_lock_refused p kept acquire id never

pub returns-clause-release : goal.returns-clause-release
returns-clause-release c = λ id p kept never. no_lock_refused p kept release id never

pub returns-clause-locked : goal.returns-clause-locked
returns-clause-locked c = λ id p kept never. no_lock_refused p kept is_locked id never

pub returns-clause-set : goal.returns-clause-set
returns-clause-set c = λ id p kept never. no_event_refused p kept set id never

pub returns-clause-clear : goal.returns-clause-clear
returns-clause-clear c = λ id p kept never. no_event_refused p kept clear id never

pub returns-clause-is_set : goal.returns-clause-is_set
returns-clause-is_set c = λ id p kept never. no_event_refused p kept is_set id never

pub returns-clause-wait : goal.returns-clause-wait
returns-clause-wait c = λ id p kept never. no_event_refused p kept wait id never

pub returns-clause-put : goal.returns-clause-put
returns-clause-put c = λ id value p kept never. no_queue_refused p kept (put value) id never

pub returns-clause-get : goal.returns-clause-get
returns-clause-get c = λ id p kept never. no_queue_refused p kept get id never

pub returns-clause-size : goal.returns-clause-size
returns-clause-size c = λ id p kept never. no_queue_refused p kept size id never

pub returns-clause-unlocked : goal.returns-clause-unlocked
returns-clause-unlocked c = λ id lock p kept found open_. release_refused p kept id lock found open_
