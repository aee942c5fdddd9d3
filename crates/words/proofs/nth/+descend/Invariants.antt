-- The measure of the recursion is the width.
use Rattle.words.proofs.nth.+descend.Given as goal

abbrev pub decreases-descend : goal.decreases-descend
decreases-descend l = l.width
