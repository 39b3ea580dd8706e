-- `survey::number`: each call has a number with one digit fewer.
use Rattle.survey.proofs.+number.Given as goal

abbrev pub decreases-number : goal.decreases-number
decreases-number l = l.x
