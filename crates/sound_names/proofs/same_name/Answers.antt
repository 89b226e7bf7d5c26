-- `same_name`: what is asked of the two records.
use Rattle.sound_names.proofs.Alike.{record_long, record_padded}
use Rattle.sound_names.proofs.Pairs.{same_name_is}
use Rattle.sound_names.proofs.same_name.Goals as goal

pub one_name-requires-clause-long : goal.one_name-requires-clause-long
one_name-requires-clause-long c = (search record_long, search record_long)

pub one_name-requires-clause-padded : goal.one_name-requires-clause-padded
one_name-requires-clause-padded c = (search record_padded, search record_padded)

pub returns : goal.returns
returns c = search same_name_is
