-- The four sides, one after the other.
use Rattle.std.proofs.Common.{refl}
use Rattle.check_sweep.specs.Pins.{pin_places}
use Rattle.check_scan.proofs.Putting.{pin_list}
use Rattle.check_scan.proofs.Scans.{clear_all}
use Rattle.check_scan.proofs.pin_list.Goals as goal

pub returns : goal.returns
returns c =
    pin_list _ _ c.put.new.list c.put-2.new.list c.put-3.new.list _ refl (clear_all pin_places) c.put.ensures c.put-2.ensures c.put-3.ensures
    c.put-4.ensures
