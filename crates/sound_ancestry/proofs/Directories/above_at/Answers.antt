-- `above_at`: no file, one that shares with no directory, or neither its parent nor one above that has its identifier.
use Rattle.sound_ancestry.proofs.Above.{above-free, way_up, parent_stands, above_is}
use Rattle.sound_ancestry.proofs.Noting.{above_unshared}
use Rattle.sound_ancestry.proofs.Directories.above_at.Goals as goal

pub returns-then-not-is_file : goal.returns-then-not-is_file
returns-then-not-is_file c = search above-free

pub returns-then-not-may_share : goal.returns-then-not-may_share
returns-then-not-may_share c = search above_unshared

pub named_up-requires : goal.named_up-requires
named_up-requires c = record { rooted = search way_up; stands = search parent_stands }

pub returns : goal.returns
returns c = search above_is
