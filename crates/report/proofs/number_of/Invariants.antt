use Rattle.std.proofs.Common.{◌≡◌, ◌-◌, ◌<◌, ◌≤◌}
use Rattle.report.specs.Text.{width_of, digits_of, decimal_of}
use Rattle.report.specs.CodeNumbers.{pack_on, grown}
use Rattle.report.proofs.number_of.Given as goal

abbrev pub invariant-loop : goal.invariant-loop
invariant-loop l =
    let left = l.len - l.counter in
    (pack_on (digits_of left l.rest) l.digits ≡ pack_on (decimal_of l.n) 9) × (grown left l.place ≡ grown (width_of l.n) 1)
    × (l.digits < 2814749767106560) × (l.place ≤ 281474976710656)
