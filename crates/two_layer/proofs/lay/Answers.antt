-- `two_layer::lay` meets its contract: the operations fit, and what they draw is legal.
use Rattle.std.proofs.Common.{arith, sym, ◌∙◌}
use Rattle.two_layer.proofs.Laying.{fits_norths, fits_moves, fits_souths, width, narrow, painted_legal}
use Rattle.two_layer.proofs.lay.Goals as goal

pub draw-requires : goal.draw-requires
draw-requires c =
    let given = c.requires.layable in
    let size = c.requires.w_value in record {
      fact = (given.channel.columns, omega (arith, size.0, narrow given), size.1);
      w_value = size.0 ∙ sym (width given);
      ops_fit = (fits_norths given, fits_moves given, fits_souths given);
    }

pub returns : goal.returns
returns c = painted_legal c.requires.layable c.args.tracks.0 c.requires.w_value.0 c.draw.ensures
