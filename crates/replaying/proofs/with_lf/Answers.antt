use Rattle.std.proofs.Common.{refl, rules}
use Rattle.replaying.specs.SessionLaws.{joins-over, joins-lf, joins-copied}
use Rattle.replaying.proofs.with_lf.Goals as goal

pub returns-then-n-gt64 : goal.returns-then-n-gt64
returns-then-n-gt64 c = joins-over c.args.held c.if-n-gt64.true c.over.ensures

pub returns-then-contains : goal.returns-then-contains
returns-then-contains c = joins-lf c.args.held c.if-n-gt64.false c.if-contains.ensures.cases c.over-then-contains.ensures

pub returns : goal.returns
returns c = joins-copied c.args.held c.if-n-gt64.false (search rules) c.if-contains.ensures.cases _ c.copy_from_slice.ensures.after refl refl
