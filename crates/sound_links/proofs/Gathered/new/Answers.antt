-- `new`: sets and sums of no record.
use Rattle.keys.proofs.Walking.{keyed_none}
use Rattle.sound_ancestry.proofs.Noting.{seen_none}
use Rattle.sound_charges.proofs.Sums.{summed_none}
use Rattle.sound_links.proofs.Gathered.new.Goals as goal

pub returns : goal.returns
returns c v =
    record {
      keyed = rw c.new.ensures (keyed_none _ _);
      seen = rw (c.new-2.ensures.0, c.new-2.ensures.1) (seen_none _);
      summed = summed_none _;
    }
