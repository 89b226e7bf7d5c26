-- A compact rule and its expanded writing decide alike, asked by their forms.
use Rattle.expanded.proofs.Alike.{writing_decides}
use Rattle.access.specs.Access.{granted_of, WritingsAlike}

pub writings_alike : WritingsAlike
unfolding granted_of
writings_alike rule right x = writing_decides rule right x
