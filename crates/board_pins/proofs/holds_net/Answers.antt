-- The net is on one of the four sides.
use Rattle.std.proofs.Common.{◌||◌, ◌∙◌}
use Rattle.problem.specs.Problem.{pins_in}
use Rattle.board_pins.proofs.Frees.{found}
use Rattle.board_pins.proofs.holds_net.Goals as goal

pub returns : goal.returns
returns c =
    (λ i. ((c.side_holds.ensures i || c.side_holds-2.ensures i) || c.side_holds-3.ensures i) || c.side_holds-4.ensures i)
    ∙ found (pins_in c.args.pins.now) c.args.net
