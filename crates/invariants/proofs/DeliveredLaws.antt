-- Of the frames that wait for a buffer the newest is left in it after a release.
use Rattle.std.specs.Prelude.{◌≡◌, ℕ, List, set, eqb}
use Rattle.std.proofs.Math.Bool.{true}
use Rattle.contents.specs.declared.Contents.{Contents}
use Rattle.rules.specs.declared.Control.{Control}
use Rattle.rules.specs.Waiting.{delivery, deliveries}
use Rattle.rules.specs.Steps.{Step}
use Rattle.controller.specs.Carry.{row_at, move_all}
use Rattle.invariants.specs.Newest.{is_waited_for, newest}
use Rattle.invariants.specs.DeliveredLaws.{moves, last-left}

module _ (e : Step) (n : ℕ) (c : Control) where
  pub newest-left : (held rows : List Contents) → is_waited_for c.places n ≡ true →
      move_all e held (deliveries c n) rows ≡ set rows n (row_at held (newest c.places n))
  unfolding moves deliveries delivery
  newest-left held rows = last-left e n held rows c.places.swapped (eqb c.places.first n) (eqb c.places.second n)
