-- The public view of a controller: its control state, and the identifiers and lengths of its buffers and of the frames in its two
-- waiting places.
use Rattle.std.specs.Prelude.{List}
use Rattle.contents.specs.Bytes.{Head}
use Rattle.rules.specs.declared.Control.{Control}
use Rattle.controller.specs.declared.Controller.{Controller}
use Rattle.controller.specs.Carry.{heads}

pub record View : Type 0 where
  pub control : Control
  pub heads : List Head
  pub held : List Head

abbrev pub view_of : Controller → View
view_of c = record { control = c.control; heads = heads c.rows; held = heads c.held }
