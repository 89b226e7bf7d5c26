-- `may_share`: a DF asks for two directories, any other file for one.
use Rattle.sound_ancestry.proofs.Noting.{shares-df, shares-ef}
use Rattle.sound_ancestry.proofs.Directories.may_share.Goals as goal

pub returns-then-kind-eq-DF : goal.returns-then-kind-eq-DF
returns-then-kind-eq-DF c = search shares-df

pub returns : goal.returns
returns c = search shares-ef
