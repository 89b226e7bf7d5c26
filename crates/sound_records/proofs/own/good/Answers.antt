-- `own::good`: all zero, or a good used record.
use Rattle.laws.proofs.Branches.{tests}
use Rattle.image.specs.Layout.{kind_of}
use Rattle.sound.specs.Own.{ownb}
use Rattle.laws.specs.Tests.{either}
use Rattle.sound_records.proofs.own.good.Goals as goal

pub returns-then-r-eq0 : goal.returns-then-r-eq0
unfolding ownb kind_of either
returns-then-r-eq0 c = search tests depth 30

pub returns : goal.returns
unfolding ownb kind_of either
returns c = search tests depth 30
