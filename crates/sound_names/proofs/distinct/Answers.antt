use Rattle.keys.proofs.Walking.{keyed_none}
use Rattle.sound_names.proofs.Pairs.{apart-start, pair_start, pair_turn, apart_turn, apart_stop, apart-end}
use borrow.Author.Rules.{rules}
use Rattle.sound_names.proofs.distinct.Goals as goal

pub pairs-init : goal.pairs-init
pairs-init c = (search rules, (search rules, (apart-start _, rw c.new-seen.ensures (keyed_none _ _))))

pub loop-t-init : goal.loop-t-init
loop-t-init c = (search rules, (search rules, pair_start _ _))

pub loop-t-preserved : goal.loop-t-preserved
loop-t-preserved c = (search rules, (search rules, search pair_turn))

pub pairs-preserved : goal.pairs-preserved
pairs-preserved c = (search rules, (search rules, (search apart_turn, search rules)))

pub returns-after-pairs : goal.returns-after-pairs
returns-after-pairs c = search apart-end

pub returns-then-same_name : goal.returns-then-same_name
returns-then-same_name c = search apart_stop
