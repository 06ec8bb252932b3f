use Rattle.masks.specs.SearchLaws.{some-bit}
use Rattle.masks.proofs.any.Goals as goal

pub returns : goal.returns
returns c = some-bit c.args.m c.ranges.m.fits
