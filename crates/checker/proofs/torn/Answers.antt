-- The marks begin with the first pins, grow by walks and settle by sweeps.
use Rattle.check_sweep.proofs.Settling.{settled_after}
use Rattle.checker.proofs.torn.Goals as goal

pub returns-clause-torn : goal.returns-clause-torn
returns-clause-torn c =
    record {
      s = c.settle.new.s;
      m = c.settle.new.m;
      marking = record {
        s₀ = c.args.s.now;
        m₀ = c.clear.new.m;
        firsts = c.requires.1;
        clear = c.clear.ensures;
        settled = settled_after c.spread.ensures c.settle.ensures;
      };
      lowest = c.lowest_of.ensures.lowest;
    }
