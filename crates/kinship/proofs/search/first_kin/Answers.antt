use borrow.Author.Rules.{rules}
use Rattle.kinship.proofs.Foreign.{kin_start}
use Rattle.kinship.proofs.search.first_kin.Goals as goal

pub loop-s-init : goal.loop-s-init
loop-s-init g c = (search rules, kin_start _ c.args.n _ _ _)
