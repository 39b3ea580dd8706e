-- The loop of `figures::extents_of`: the nets below m have their entries in both lists.
use Rattle.figures.specs.Crossings.{at, nowhere, begin_of, end_of}
use Rattle.figures.proofs.Entries.{Filled}
use Rattle.figures.proofs.extents_of.Given as goal

abbrev pub invariant-loop-m : goal.invariant-loop-m
invariant-loop-m l = record {
  begins : Filled nowhere (λ k. begin_of (at l.x.first.now k) (at l.x.last.now k) (at l.x.near.now k) (at l.x.far.now k) l.past) l.m l.from;
  ends : Filled nowhere (λ k. end_of (at l.x.first.now k) (at l.x.last.now k) (at l.x.near.now k) (at l.x.far.now k) l.past) l.m l.to;
}
