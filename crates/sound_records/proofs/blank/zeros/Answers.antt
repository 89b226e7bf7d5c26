use Prim.Native.Nat.{ℕ, ◌+◌, ◌-◌}
use lib.Dec.{eqb}
use lib.ListN.{take, drop}
use borrow.Author.Rules.{rules}
use Rattle.std.proofs.lemmas.Iterator.{YieldsList-from_slice}
use Rattle.std.proofs.lemmas.Iterator.Search.{all_from_yields_List}
use Rattle.sound_records.proofs.Zeros.{zeros_all}
use Rattle.sound_records.proofs.blank.zeros.Goals as goal

pub returns : goal.returns
returns c =
    zeros_all _ _ _ _ c.requires (all_from_yields_List (λ (x : ℕ). eqb x 0) _ _ _ c.all.ensures.ran (YieldsList-from_slice (take (c.args.at + c.args.n - c.args.at) (drop c.args.at c.args.s.now)) cc) (λ x b q k. search rules))
