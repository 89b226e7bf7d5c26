-- `padding::is_padding`: what `all` answers of the bytes.
use mathlib.Core.Path.{◌≡◌}
use borrow.Author.Rules.{rules}
use borrow.Author.Tests.{tests}
use Rattle.std.proofs.lemmas.Iterator.{cases_from_all, YieldsList-from_slice}
use Rattle.referred.proofs.Ends.{pads_told}
use Rattle.referred.proofs.padding.is_padding.Goals as goal

pub returns : goal.returns
returns c =
    pads_told _ _
    (cases_from_all _ _ _ (λ x. x ≡ 0xFF) (λ x. x ≡ 0xFF → ⊥) c.all.ensures.ran (YieldsList-from_slice c.args.s.now cc)
    (λ x q k. search (rules, tests)) (λ x q k. search (rules, tests)))
