use mathlib.Core.Path.{◌≡◌, sym}
use native.Mathlib.Omega.{arith}
use borrow.Author.Rules.{rules}
use Rattle.pool.proofs.Wiping.{wipe_none, wipe_turn, wipe_room}
use Rattle.pool.proofs.wipe.wipe.Goals as goal

pub loop-s-init : goal.loop-s-init
loop-s-init c = (search rules, sym (wipe_none _ _ _ _))

pub wipe_if-requires : goal.wipe_if-requires
wipe_if-requires c = record { within = search rules; ends_in = search wipe_room }

pub loop-s-preserved : goal.loop-s-preserved
loop-s-preserved c = (search rules, search wipe_turn)

pub returns : goal.returns
returns c = let e : c.loop-s.s ≡ c.args.n = omega arith in cc
