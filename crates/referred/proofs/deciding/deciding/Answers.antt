-- `deciding::deciding`: the part that the place tells lies within its slice.
use Rattle.referred.proofs.Parts.{image_lies, pool_lies, part_none, part-image, part-pool}
use Rattle.referred.proofs.deciding.deciding.Goals as goal

pub slice_bounds-result-end-in-Some-InImage : goal.slice_bounds-result-end-in-Some-InImage
slice_bounds-result-end-in-Some-InImage c =
    let w = c.in-Some-InImage in
    (image_lies _ _ _ _ _ c.place.ensures.0 _ w.is _ _ c.requires.rooted c.requires.stands.0 c.requires.stands.1 w.field-0-is).end

pub slice_bounds-result-end-in-Some-InPool : goal.slice_bounds-result-end-in-Some-InPool
slice_bounds-result-end-in-Some-InPool c =
    let w = c.in-Some-InPool in
    (pool_lies _ _ _ _ _ c.place.ensures.0 _ w.is _ _ c.requires.rooted c.requires.stands.0 c.requires.stands.1 w.field-0-is).end

pub returns-in-None : goal.returns-in-None
returns-in-None c = search part_none

pub returns-in-Some-InImage : goal.returns-in-Some-InImage
returns-in-Some-InImage c = search part-image

pub returns-in-Some-InPool : goal.returns-in-Some-InPool
returns-in-Some-InPool c = search part-pool
