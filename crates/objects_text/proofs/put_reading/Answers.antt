-- `put_reading`: the word of what CREATE reads, behind the place up to which it takes the objects.
use native.Mathlib.Omega.{arith}
use Rattle.objects_text.proofs.Listed.{next_small}
use Rattle.objects_text.proofs.put_reading.Goals as goal

pub overflow_cast-o : goal.overflow_cast-o
overflow_cast-o c = record { fits = omega (arith, next_small _ c.requires.0 _ c.all-o.ensures) }

pub put_mark-requires : goal.put_mark-requires
put_mark-requires c = (next_small _ c.requires.0 _ c.all-o.ensures, omega (arith, c.requires.1, c.word.ensures.short))
