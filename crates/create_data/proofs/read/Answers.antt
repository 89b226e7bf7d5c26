-- CREATE's data, for any bytes.
use mathlib.Core.Path.{◌≡◌, sym, subst}
use Rattle.template.specs.Objects.{Held}
use Rattle.create_data.specs.Data.{data_of}
use Rattle.create_data.specs.Good.{Good}
use Rattle.create_data.proofs.Good.{good}
use Rattle.template.proofs.Holding.{held, in-data}
use borrow.Author.Rules.{rules}
use Rattle.create_data.proofs.read.Goals as goal

pub invariant_of-sent : goal.invariant_of-sent
invariant_of-sent c = record { held = in-data _ _ (subst (Held _) (sym c.all.ensures) (held _)) }

pub returns : goal.returns
unfolding data_of
returns c =
    let e : c.file.result ≡ data_of c.args.v c.args.s.now = search rules in
    (e, subst (Good _ _) (sym e) (good _ _))
