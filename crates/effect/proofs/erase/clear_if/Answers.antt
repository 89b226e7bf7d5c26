-- `erase::clear_if` clears the record or leaves the image.
use Rattle.sound.specs.Effects.{clear_if}
use Rattle.effect.proofs.erase.clear_if.Goals as goal

pub returns-then-goes : goal.returns-then-goes
unfolding clear_if
returns-then-goes c = rw c.if-goes.true c.clear_record.ensures

pub returns-else-goes : goal.returns-else-goes
unfolding clear_if
returns-else-goes c = rw c.if-goes.false
