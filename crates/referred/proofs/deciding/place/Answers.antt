-- `deciding::place`: the form tells.
use Rattle.referred.proofs.Places.{place-referred, place-own}
use borrow.Author.Rules.{rules}
use Rattle.referred.proofs.deciding.place.Goals as goal

pub returns-then-form-eq-REFERRED : goal.returns-then-form-eq-REFERRED
returns-then-form-eq-REFERRED c = (search place-referred, search rules)

pub returns : goal.returns
returns c = (search place-own, search rules)
