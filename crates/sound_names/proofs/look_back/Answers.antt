-- `look_back`: no name, a key that was seen, or a new one.
use Rattle.keys.proofs.Walking.{keyed_free, keyed_again, keyed_put}
use Rattle.sound_names.proofs.Alike.{name-short, record_long, name-key-at}
use Rattle.sound_names.proofs.Pairs.{unnamed, looks_unnamed, looks_all, looks_new}
use borrow.Author.Rules.{rules}
use Rattle.sound_names.proofs.look_back.Goals as goal

pub name-requires : goal.name-requires
name-requires c = (search rules, search name-short)

pub returns-then-name-eq0 : goal.returns-then-name-eq0
returns-then-name-eq0 c = (search looks_unnamed, search (keyed_free, unnamed))

pub key_of-key-requires : goal.key_of-key-requires
key_of-key-requires c = search record_long

pub returns-then-has : goal.returns-then-has
returns-then-has c = (looks_all _ _, search (keyed_again, name-key-at))

pub returns : goal.returns
returns c = (search (looks_new, name-key-at), search (keyed_put, name-key-at))
