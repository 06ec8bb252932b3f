-- Towards proofs/KeptRegisterLaws.antt: what keeps the bits that registers have.
use Rattle.std.proofs.Math.Path.{refl}
use Rattle.std.specs.Prelude.{ℕ, ◌-◌, Bool}
use Rattle.std.proofs.Common.{arith}
use Rattle.std.specs.Int.Bits.{bit_and, bit_or}
use Rattle.masks.specs.PickLaws.{pick-keeps}
use Rattle.masks.specs.Laws.{put-lt}
use Rattle.rules.specs.declared.SyncKind.{SyncKind}
use Rattle.rules.specs.declared.SyncKind.TheVariants.{Normal, Alarm}
use Rattle.rules.specs.declared.Fault.{Fault}
use Rattle.rules.specs.declared.Fault.TheVariants.{Early, Lost, Illegal, Mismatch}
use Rattle.rules.specs.declared.Events.{Events}
use Rattle.rules.specs.declared.Config.{Config}
use Rattle.rules.specs.declared.Buffers.{Buffers}
use Rattle.rules.specs.Record.{with_config, with_buffers}
use Rattle.rules.specs.Registers.{has, reset_control, IENA, SLMMIF, XSYNIF, SYNEIF, SYNLIF, ILLPIF}
use Rattle.rules.specs.Flags.{risr_events, gisr_events, cleared, write_risr, defers_clear, write_gisr}
use Rattle.rules.specs.Modes.{enter}
use Rattle.rules.specs.Writes.{cfg_after}
use Rattle.rules.specs.Bus.{raise_gisr, sync_flag, sync_events, lost_events, faulted}
use Rattle.controller.specs.View.{View}
use Rattle.invariants.specs.Sound.{within, RISR, GISR, RIER, Registers, RegistersSound, Sound}
use Rattle.invariants.specs.KeptLaws.{at, reset_view}
use Rattle.invariants.specs.FlagLaws.{or-within, and-within}
use Rattle.invariants.specs.ControlWriteLaws.{Prepared}

none_within : (m : ℕ) → within m 0
unfolding within
none_within m = refl

sync-flag : (k : SyncKind) → within RISR (sync_flag k)
unfolding within
sync-flag Normal = refl
sync-flag Alarm = refl

pub registers-reset : RegistersSound reset_view
unfolding reset_control
registers-reset =
    record {
      risr-only = none_within RISR;
      gisr-only = none_within GISR;
      rier-only = none_within RIER;
      cfg-lt = omega arith;
      iena-lt = omega arith;
    }

-- other event flags
module _ (f : Events) {rier cfg iena : ℕ} (r : Registers f rier cfg iena) where
  flags : {e : Events} → within RISR e.risr → within GISR e.gisr → Registers e rier cfg iena
  flags p q = record { risr-only = p; gisr-only = q; rier-only = r.rier-only; cfg-lt = r.cfg-lt; iena-lt = r.iena-lt }

  less-risr : (m : ℕ) → within RISR (cleared f.risr m)
  less-risr m = and-within RISR (omega arith) f.risr (255 - m) r.risr-only

  less-gisr : (m : ℕ) → within GISR (cleared f.gisr m)
  less-gisr m = and-within GISR (omega arith) f.gisr (255 - m) r.gisr-only

  more-risr : (b : ℕ) → within RISR b → within RISR (bit_or f.risr b)
  more-risr b h = or-within RISR (omega arith) f.risr b r.risr-only h

  more-gisr : (b : ℕ) → within GISR b → within GISR (bit_or f.gisr b)
  more-gisr b h = or-within GISR (omega arith) f.gisr b r.gisr-only h

  pub risr-written : (v : ℕ) → Registers (write_risr f v) rier cfg iena
  unfolding write_risr
  risr-written v = flags (less-risr (bit_and v risr_events)) r.gisr-only

  pub gisr-written : (t : Bool) (v : ℕ) → Registers (write_gisr t f v) rier cfg iena
  unfolding write_gisr
  gisr-written t v =
      pick-keeps (λ (e : Events). Registers e rier cfg iena) (defers_clear t f v)
      (λ d. flags r.risr-only (less-gisr (bit_and v (gisr_events - SYNLIF)))) (λ d. flags r.risr-only (less-gisr (bit_and v gisr_events)))

  pub sync-raised : (k : SyncKind) → Registers (sync_events k f) rier cfg iena
  unfolding sync_events within
  sync-raised k =
      flags (or-within RISR (omega arith) (bit_or f.risr (sync_flag k)) XSYNIF (more-risr (sync_flag k) (sync-flag k)) refl)
      (pick-keeps (within GISR) f.clearing (λ t. less-gisr SYNLIF) (λ t. r.gisr-only))

module _ (w : View) (s : Sound w) where
  now : RegistersSound w
  now = s.registers

  abbrev events : Events
  events = w.control.events

  pub raised : (b : ℕ) → within GISR b → RegistersSound (at w (raise_gisr w.control b))
  raised b h = flags events now now.risr-only (more-gisr events now b h)

  pub faulted-registers : (k : Fault) → RegistersSound (at w (faulted k w.control))
  unfolding faulted lost_events within
  faulted-registers Early = raised SYNEIF refl
  faulted-registers Lost = flags events now now.risr-only (more-gisr events now SYNLIF refl)
  faulted-registers Illegal = raised ILLPIF refl
  faulted-registers Mismatch = flags events now (more-risr events now SLMMIF refl) now.gisr-only

  pub entered-registers : RegistersSound (at w (enter w.control))
  unfolding enter
  entered-registers =
      record {
        risr-only = none_within RISR;
        gisr-only = none_within GISR;
        rier-only = none_within RIER;
        cfg-lt = now.cfg-lt;
        iena-lt = now.iena-lt;
      }

  -- CFG and IENA with one bit replaced
  pub prepared-registers : (n v : ℕ) (b : Buffers) → Prepared w.control n v b → RegistersSound (at w (with_buffers w.control b))
  prepared-registers n v b p =
      record {
        risr-only = now.risr-only;
        gisr-only = now.gisr-only;
        rier-only = now.rier-only;
        cfg-lt = let h = put-lt w.control.buffers.cfg n (cfg_after w.control n v) in let e = p.cfg-as in omega arith;
        iena-lt = let h = put-lt w.control.buffers.iena n (has v IENA) in let e = p.iena-as in omega arith;
      }

  pub configured : (g : Config) → (within RIER w.control.config.rier → within RIER g.rier) → RegistersSound (at w (with_config w.control g))
  configured g h =
      record { risr-only = now.risr-only; gisr-only = now.gisr-only; rier-only = h now.rier-only; cfg-lt = now.cfg-lt; iena-lt = now.iena-lt }
