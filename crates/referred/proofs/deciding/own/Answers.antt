-- `deciding::own`: the length byte, and as many bytes after it.
use Rattle.referred.proofs.Places.{own_is}
use borrow.Author.Rules.{rules}
use Rattle.referred.proofs.deciding.own.Goals as goal

pub returns : goal.returns
returns c = (search own_is, record { order = search rules; short = search rules })
