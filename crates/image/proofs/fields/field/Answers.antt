-- `fields::field` gives the bytes of a field of record s, as many as its length says.

use native.Mathlib.Omega.{arith}
use Rattle.image.proofs.Places.{byte_in, field_in}
use Rattle.image.proofs.fields.field.Goals as goal

pub overflow_add-to : goal.overflow_add-to
overflow_add-to c = omega (arith, byte_in c.args.image.now c.args.s c.args.k (omega arith))

pub slice_bounds-result-end : goal.slice_bounds-result-end
slice_bounds-result-end c = omega (arith, byte_in c.args.image.now c.args.s c.args.k (omega arith))

pub returns : goal.returns
returns c = field_in _ _ _ c.requires.within.0 c.requires.within.1 c.requires.k_bound _ c.from-n.ensures
