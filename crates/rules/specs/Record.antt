-- The controller's records with one part changed. There is no update syntax, so each changed part has its function.
use Rattle.std.specs.Prelude.{ℕ, Bool}
use Rattle.filter.specs.declared.Filter.{Filter}
use Rattle.locks.specs.declared.Locks.{Locks}
use Rattle.rules.specs.declared.Mode.{Mode}
use Rattle.rules.specs.declared.Config.{Config}
use Rattle.rules.specs.declared.Events.{Events}
use Rattle.rules.specs.declared.Fifo.{Fifo}
use Rattle.rules.specs.declared.Places.{Places}
use Rattle.rules.specs.declared.Buffers.{Buffers}
use Rattle.rules.specs.declared.Control.{Control}

-- ---- parts of the control state

abbrev pub with_mode : Control → Mode → Control
with_mode c x = record { mode = x; config = c.config; events = c.events; fifo = c.fifo; receive = c.receive; transmit = c.transmit; places = c.places; buffers = c.buffers }

abbrev pub with_config : Control → Config → Control
with_config c x = record { mode = c.mode; config = x; events = c.events; fifo = c.fifo; receive = c.receive; transmit = c.transmit; places = c.places; buffers = c.buffers }

abbrev pub with_events : Control → Events → Control
with_events c x = record { mode = c.mode; config = c.config; events = x; fifo = c.fifo; receive = c.receive; transmit = c.transmit; places = c.places; buffers = c.buffers }

abbrev pub with_fifo : Control → Fifo → Control
with_fifo c x = record { mode = c.mode; config = c.config; events = c.events; fifo = x; receive = c.receive; transmit = c.transmit; places = c.places; buffers = c.buffers }

abbrev pub with_receive : Control → Locks → Control
with_receive c x = record { mode = c.mode; config = c.config; events = c.events; fifo = c.fifo; receive = x; transmit = c.transmit; places = c.places; buffers = c.buffers }

abbrev pub with_transmit : Control → Locks → Control
with_transmit c x = record { mode = c.mode; config = c.config; events = c.events; fifo = c.fifo; receive = c.receive; transmit = x; places = c.places; buffers = c.buffers }

abbrev pub with_places : Control → Places → Control
with_places c x = record { mode = c.mode; config = c.config; events = c.events; fifo = c.fifo; receive = c.receive; transmit = c.transmit; places = x; buffers = c.buffers }

abbrev pub with_buffers : Control → Buffers → Control
with_buffers c x = record { mode = c.mode; config = c.config; events = c.events; fifo = c.fifo; receive = c.receive; transmit = c.transmit; places = c.places; buffers = x }

-- ---- mode

abbrev pub with_alarm : Mode → Bool → Mode
with_alarm m x = record { init = m.init; master = m.master; alarm = x; slprq = m.slprq; wpulse = m.wpulse; sswai = m.sswai; synced = m.synced; last = m.last }

abbrev pub with_slprq : Mode → Bool → Mode
with_slprq m x = record { init = m.init; master = m.master; alarm = m.alarm; slprq = x; wpulse = m.wpulse; sswai = m.sswai; synced = m.synced; last = m.last }

abbrev pub with_synced : Mode → Bool → Mode
with_synced m x = record { init = m.init; master = m.master; alarm = m.alarm; slprq = m.slprq; wpulse = m.wpulse; sswai = m.sswai; synced = x; last = m.last }

abbrev pub with_last : Mode → ℕ → Mode
with_last m x = record { init = m.init; master = m.master; alarm = m.alarm; slprq = m.slprq; wpulse = m.wpulse; sswai = m.sswai; synced = m.synced; last = x }

-- ---- configuration

abbrev pub with_fsiz : Config → ℕ → Config
with_fsiz g x = record { fsiz = x; tcr1 = g.tcr1; tcr2 = g.tcr2; tcr3 = g.tcr3; rier = g.rier; gier = g.gier; accept = g.accept; reject = g.reject; bfen = g.bfen }

abbrev pub with_tcr1 : Config → ℕ → Config
with_tcr1 g x = record { fsiz = g.fsiz; tcr1 = x; tcr2 = g.tcr2; tcr3 = g.tcr3; rier = g.rier; gier = g.gier; accept = g.accept; reject = g.reject; bfen = g.bfen }

abbrev pub with_tcr2 : Config → ℕ → Config
with_tcr2 g x = record { fsiz = g.fsiz; tcr1 = g.tcr1; tcr2 = x; tcr3 = g.tcr3; rier = g.rier; gier = g.gier; accept = g.accept; reject = g.reject; bfen = g.bfen }

abbrev pub with_tcr3 : Config → ℕ → Config
with_tcr3 g x = record { fsiz = g.fsiz; tcr1 = g.tcr1; tcr2 = g.tcr2; tcr3 = x; rier = g.rier; gier = g.gier; accept = g.accept; reject = g.reject; bfen = g.bfen }

abbrev pub with_rier : Config → ℕ → Config
with_rier g x = record { fsiz = g.fsiz; tcr1 = g.tcr1; tcr2 = g.tcr2; tcr3 = g.tcr3; rier = x; gier = g.gier; accept = g.accept; reject = g.reject; bfen = g.bfen }

abbrev pub with_gier : Config → ℕ → Config
with_gier g x = record { fsiz = g.fsiz; tcr1 = g.tcr1; tcr2 = g.tcr2; tcr3 = g.tcr3; rier = g.rier; gier = x; accept = g.accept; reject = g.reject; bfen = g.bfen }

abbrev pub with_accept : Config → Filter → Config
with_accept g x = record { fsiz = g.fsiz; tcr1 = g.tcr1; tcr2 = g.tcr2; tcr3 = g.tcr3; rier = g.rier; gier = g.gier; accept = x; reject = g.reject; bfen = g.bfen }

abbrev pub with_reject : Config → Filter → Config
with_reject g x = record { fsiz = g.fsiz; tcr1 = g.tcr1; tcr2 = g.tcr2; tcr3 = g.tcr3; rier = g.rier; gier = g.gier; accept = g.accept; reject = x; bfen = g.bfen }

abbrev pub with_bfen : Config → Bool → Config
with_bfen g x = record { fsiz = g.fsiz; tcr1 = g.tcr1; tcr2 = g.tcr2; tcr3 = g.tcr3; rier = g.rier; gier = g.gier; accept = g.accept; reject = g.reject; bfen = x }

abbrev pub with_pattern : Filter → ℕ → Filter
with_pattern p x = record { pattern = x; mask = p.mask }

abbrev pub with_mask : Filter → ℕ → Filter
with_mask p x = record { pattern = p.pattern; mask = x }

-- ---- event flags

abbrev pub with_risr : Events → ℕ → Events
with_risr f x = record { risr = x; gisr = f.gisr; clearing = f.clearing }

abbrev pub with_gisr : Events → ℕ → Events
with_gisr f x = record { risr = f.risr; gisr = x; clearing = f.clearing }

abbrev pub with_clearing : Events → Bool → Events
with_clearing f x = record { risr = f.risr; gisr = f.gisr; clearing = x }

-- ---- the buffers' control bits

abbrev pub with_cfg : Buffers → ℕ → Buffers
with_cfg b x = record { cfg = x; iena = b.iena; iflg = b.iflg; abtak = b.abtak; armed = b.armed }

abbrev pub with_iena : Buffers → ℕ → Buffers
with_iena b x = record { cfg = b.cfg; iena = x; iflg = b.iflg; abtak = b.abtak; armed = b.armed }

abbrev pub with_iflg : Buffers → ℕ → Buffers
with_iflg b x = record { cfg = b.cfg; iena = b.iena; iflg = x; abtak = b.abtak; armed = b.armed }

abbrev pub with_abtak : Buffers → ℕ → Buffers
with_abtak b x = record { cfg = b.cfg; iena = b.iena; iflg = b.iflg; abtak = x; armed = b.armed }

abbrev pub with_armed : Buffers → ℕ → Buffers
with_armed b x = record { cfg = b.cfg; iena = b.iena; iflg = b.iflg; abtak = b.abtak; armed = x }
