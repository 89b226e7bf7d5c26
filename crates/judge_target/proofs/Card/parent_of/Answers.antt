-- `Card::parent_of`: every file's parent slot holds a file.
use Rattle.judge_target.proofs.Card.parent_of.Goals as goal

pub returns : goal.returns
returns c = (c.parent.ensures.0, rw c.parent.ensures.0 (c.args.self.now.judgeable.rooted.parent _ c.args.self.now.judgeable.df).low)
