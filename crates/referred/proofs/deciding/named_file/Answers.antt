-- `deciding::named_file`: the two bytes at their place in the image.
use mathlib.Core.Path.{sym, ◌∙◌}
use Rattle.referred.proofs.Places.{file-in}
use Rattle.referred.proofs.deciding.named_file.Goals as goal

pub returns : goal.returns
returns c = c.u16_at.ensures ∙ sym (file-in _ _)
