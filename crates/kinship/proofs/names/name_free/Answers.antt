use borrow.Author.Rules.{rules}
use Rattle.kinship.proofs.Sameness.{free-start, free_turn, free-empty, free_stop, free-end}
use Rattle.kinship.proofs.names.name_free.Goals as goal

pub returns-then-is_empty : goal.returns-then-is_empty
returns-then-is_empty c = search free-empty

pub loop-s-init : goal.loop-s-init
loop-s-init c = (search rules, free-start _ _)

pub name-requires : goal.name-requires
name-requires c = (search rules, c.requires.short _ (search rules))

pub returns-then-same : goal.returns-then-same
returns-then-same c = search (free_stop, rules)

pub loop-s-preserved : goal.loop-s-preserved
loop-s-preserved c = (search rules, search free_turn)

pub returns : goal.returns
returns c = search (free-end, rules)
