-- `channel::lay_row`: what is laid is the drawing of a row, which is legal.
use Rattle.channel.proofs.Drawings.{row_laid}
use Rattle.channel.proofs.lay_row.Goals as goal

pub returns : goal.returns
returns c = row_laid c.requires.1 c.requires.0 c.lay.ensures
