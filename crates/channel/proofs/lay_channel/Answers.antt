-- `channel::lay_channel`: what is laid is the drawing of a channel, which is legal.
use Rattle.channel.proofs.Drawings.{channel_laid}
use Rattle.channel.proofs.lay_channel.Goals as goal

pub returns : goal.returns
returns c = channel_laid c.requires.0 c.lay.ensures
