-- `card::slots`: damaged, a pool of a wrong length, or a card.
use Rattle.card.proofs.Called.{check_damaged, check_sound, check_long, check_wrong, check_card}
use Rattle.card.proofs.slots.Goals as goal

pub returns-then-not-sound : goal.returns-then-not-sound
returns-then-not-sound c = search check_damaged

pub pool_fits-requires : goal.pool_fits-requires
pool_fits-requires c = search check_sound

pub returns-then-not-pool_fits : goal.returns-then-not-pool_fits
returns-then-not-pool_fits c = search check_wrong

pub count-requires : goal.count-requires
count-requires c = search check_long

pub returns : goal.returns
returns c = search check_card
