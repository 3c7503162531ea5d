use Rattle.texts.proofs.Text.+padded.Given as goal

abbrev pub decreases-padded : goal.decreases-padded
decreases-padded g l = l.width
