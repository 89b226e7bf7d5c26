-- `fits_record`: a law for each of its tests.
use Rattle.access.proofs.Fits.{fitting}
use Rattle.access.proofs.fits_record.Goals as goal

pub returns-then-rule-lt1 : goal.returns-then-rule-lt1
returns-then-rule-lt1 c = search fitting

pub returns-then-longest_rule-rule : goal.returns-then-longest_rule-rule
returns-then-longest_rule-rule c = search fitting

pub returns-then-not-has_form : goal.returns-then-not-has_form
returns-then-not-has_form c = search fitting

pub returns : goal.returns
returns c = search fitting
