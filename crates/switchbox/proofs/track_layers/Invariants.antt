-- Round by round, a comb and the track layer above it are painted.
use Rattle.grid.specs.Legal.{pins_of}
use Rattle.orientation.specs.Lookup.{on_lines}
use Rattle.orientation.specs.Code.{orientation_of}
use Rattle.switchbox.proofs.Rounds.{Rounds}
use Rattle.switchbox.proofs.track_layers.Given as goal

abbrev pub invariant-loop-t : goal.invariant-loop-t
invariant-loop-t l =
    Rounds (on_lines (orientation_of l.moved.orientation)
    (pins_of l.moved.pins.north.now l.moved.pins.south.now l.moved.pins.west.now l.moved.pins.east.now))
    l.moved.n l.moved.w l.tracks l.q l.moved.orientation.turned l.initial.wiring l.wiring l.t
