-- `deciding::referred`: a law for each way out.
use Rattle.referred.proofs.Places.{parent_stands, found_within, referrals}
use native.Mathlib.Omega.{arith}
use borrow.Author.Rules.{rules}
use Rattle.referred.proofs.deciding.referred.Goals as goal

pub nearest-found-requires : goal.nearest-found-requires
nearest-found-requires c = record { rooted = search rules; stands = search parent_stands }

pub returns-in_default : goal.returns-in_default
returns-in_default c = (search referrals, record { order = omega arith; short = omega arith })

pub returns-then-t-s : goal.returns-then-t-s
returns-then-t-s c = (search referrals, record { order = omega arith; short = omega arith })

pub held-requires : goal.held-requires
held-requires c = (search found_within, search rules)

pub returns : goal.returns
returns c = (search referrals, search rules)
