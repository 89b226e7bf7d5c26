-- `put_object`: the line of the object.
use native.Mathlib.Omega.{arith}
use Rattle.text.proofs.Written.{written_on}
use Rattle.objects_text.proofs.Marks.{mark_room}
use Rattle.objects_text.proofs.Found.{in_order, short, inside_data}
use Rattle.objects_text.proofs.put_object.Goals as goal

pub overflow_sub-end : goal.overflow_sub-end
overflow_sub-end c = in_order _ _ _ c.requires.0

pub overflow_cast-end : goal.overflow_cast-end
overflow_cast-end c = record { fits = omega (arith, short _ _ _ c.requires.0) }

pub hex-requires-2 : goal.hex-requires-2
hex-requires-2 c = omega (arith, short _ _ _ c.requires.0)

pub put_rest-requires : goal.put_rest-requires
put_rest-requires c = (
  in_order _ _ _ c.requires.0,
  inside_data _ _ _ c.requires.0,
  mark_room _ _ _ _ _ c.put_mark-next.ensures c.requires.2,
)

pub returns : goal.returns
returns c =
    written_on _ (rw (c.hex.ensures, c.hex-2.ensures, c.from.ensures) at c.put_mark-next.ensures) _ c.put_rest.ensures
