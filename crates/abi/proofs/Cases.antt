-- From what the card answered to what a C function promises.
use mathlib.Core.Path.{◌≡◌, ◌∙◌, ap}
use mathlib.Core.List.{List}
use Prim.Native.Nat.{ℕ}
use Rattle.verdict.specs.declared.State.{State}
use Rattle.card.specs.Command.{Reply, CommandPromises}
use Rattle.abi.specs.Numbers.{packed, told_numbers}
use Rattle.abi.specs.Promises.{HullCommand}

-- r is what the card answered: its number and the three beside it
pub commanded : {img pool c o left kept y : List ℕ} {st : State} {r : Reply} → CommandPromises img pool c st o r left kept y
    → {n : ℕ} {numbers : List ℕ} → n ≡ packed r → numbers ≡ told_numbers r → HullCommand img pool c st o n left kept y numbers
commanded p f g = record {
  result = f ∙ ap packed p.reply;
  image = p.image;
  pool_is = p.pool_is;
  response_is = p.response_is;
  numbers_are = g ∙ ap told_numbers p.reply;
}
