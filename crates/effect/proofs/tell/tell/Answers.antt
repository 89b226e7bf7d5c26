-- `tell::tell`: SELECT and READ tell, no other verdict does.
use Rattle.effect.proofs.Told.{nothing}
use Rattle.effect.proofs.tell.tell.Goals as goal

pub returns-in-Err : goal.returns-in-Err
returns-in-Err c = rw c.in-Err.is (nothing _)

pub returns-in-Ok-Create : goal.returns-in-Ok-Create
returns-in-Ok-Create c = rw (c.in-Ok-Create.is, rw c.in-Ok-Create.is at c.in-Ok-Create.field-0-is) (nothing _)

pub returns-in-Ok-Delete : goal.returns-in-Ok-Delete
returns-in-Ok-Delete c = rw (c.in-Ok-Delete.is, rw c.in-Ok-Delete.is at c.in-Ok-Delete.field-0-is) (nothing _)

pub returns-in-Ok-SetLife : goal.returns-in-Ok-SetLife
returns-in-Ok-SetLife c = rw (c.in-Ok-SetLife.is, rw c.in-Ok-SetLife.is at c.in-Ok-SetLife.field-0-is) (nothing _)

pub returns-in-Ok-Update : goal.returns-in-Ok-Update
returns-in-Ok-Update c = rw (c.in-Ok-Update.is, rw c.in-Ok-Update.is at c.in-Ok-Update.field-0-is) (nothing _)
