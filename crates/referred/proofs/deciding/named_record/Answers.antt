-- `deciding::named_record`: the byte at its place in the image.
use mathlib.Core.Path.{sym, ◌∙◌}
use Rattle.referred.proofs.Places.{number_in}
use Rattle.referred.proofs.deciding.named_record.Goals as goal

pub returns : goal.returns
returns c = (c.wide.ensures.0 ∙ sym (number_in _ _), c.wide.ensures.1)
