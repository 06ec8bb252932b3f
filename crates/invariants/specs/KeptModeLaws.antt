-- Towards proofs/KeptModeLaws.antt: what keeps the facts of the modes, idle in initialization, a lawful layout outside it, and a
-- remembered clear only of a standing SYNLIF, unsynchronized.
use Rattle.std.specs.Prelude.{◌≡◌, ℕ, zero, suc, ◌<◌, true, false, ◌&&◌}
use Rattle.std.proofs.Math.Path.{refl}
use Rattle.std.proofs.Common.{sym, ap, ◌∙◌, arith}
use Rattle.std.proofs.Math.Dec.{eqb}
use Rattle.std.specs.Int.Bits.{bit_or}
use Rattle.std.proofs.lemmas.Bool.{and_parts}
use Rattle.masks.specs.PickLaws.{pick-keeps}
use Rattle.rules.specs.declared.Fault.{Fault}
use Rattle.rules.specs.declared.Fault.TheVariants.{Early, Lost, Illegal, Mismatch}
use Rattle.rules.specs.declared.Fifo.{Fifo}
use Rattle.rules.specs.declared.Places.{Places}
use Rattle.rules.specs.declared.Control.{Control}
use Rattle.rules.specs.Record.{with_gisr}
use Rattle.rules.specs.Registers.{reset_control, empty_fifo, SYNEIF, ILLPIF}
use Rattle.rules.specs.Kinds.{is_lawful}
use Rattle.rules.specs.Waiting.{waits_for}
use Rattle.rules.specs.Modes.{enter, cancel}
use Rattle.rules.specs.Writes.{release_fifo}
use Rattle.rules.specs.Bus.{raise_gisr, lost_events, faulted}
use Rattle.controller.specs.View.{View}
use Rattle.invariants.specs.Sound.{Sound, ModeSound}
use Rattle.invariants.specs.ModeLaws.{remembered, forgotten, raised, RestingAt, resting, awake, entered, events-modes}
use Rattle.invariants.specs.KeptLaws.{at, reset_view}
use Rattle.invariants.specs.TestLaws.{impossible}

module _ (w : View) (c : Control) (n : ℕ) (m : ModeSound (at w c)) where
  -- and the FIFO is empty, so not locked
  pub released-empty : c.fifo ≡ empty_fifo → release_fifo c n ≡ empty_fifo
  unfolding release_fifo
  released-empty e =
      pick-keeps (λ (q : Fifo). q ≡ empty_fifo) (c.fifo.locked && eqb n c.fifo.oldest)
      (λ p. impossible (sym (ap (λ (q : Fifo). q.locked) e) ∙ (and_parts c.fifo.locked (eqb n c.fifo.oldest) p).0)) (λ p. e)

-- SLPRQ off
pub cancel-modes : (w : View) → ModeSound w → ModeSound (at w (cancel w.control))
unfolding cancel is_lawful
cancel-modes w m =
    record {
      idle = λ i.
          let q = m.idle i in
          record {
            risr = q.risr;
            gisr = q.gisr;
            clearing = q.clearing;
            iflg = q.iflg;
            abtak = q.abtak;
            armed = q.armed;
            slprq = refl;
            synced = q.synced;
            fifo = q.fifo;
            places = q.places;
          };
      lawful = m.lawful;
      clear-stands = m.clear-stands;
      clear-unsynced = m.clear-unsynced;
    }

-- ---- all the rules

pub modes-reset : ModeSound reset_view
unfolding reset_control enter
modes-reset = entered reset_view reset_control

module _ (w : View) (s : Sound w) where
  now : ModeSound w
  now = s.modes

  rest : w.control.mode.init ≡ true → RestingAt w.control
  rest i = resting (now.idle i)

  pub raise-modes : (b : ℕ) → w.control.mode.init ≡ false → ModeSound (at w (raise_gisr w.control b))
  raise-modes b i =
      events-modes w (with_gisr w.control.events (bit_or w.control.events.gisr b)) (λ t. impossible (sym i ∙ t))
      (raised b (remembered now)) now

  pub faulted-modes : (k : Fault) → w.control.mode.init ≡ false → ModeSound (at w (faulted k w.control))
  unfolding faulted lost_events is_lawful
  faulted-modes Early i = raise-modes SYNEIF i
  faulted-modes Lost i = awake i (now.lawful i) (forgotten refl)
  faulted-modes Illegal i = raise-modes ILLPIF i
  faulted-modes Mismatch i = awake i (now.lawful i) (remembered now)

  -- in initialization the FIFO has no entry, and no frame waits
  pub no-entry : 0 < w.control.fifo.count → w.control.mode.init ≡ true → ⊥
  no-entry some i = let none : w.control.fifo.count ≡ 0 = ap (λ (q : Fifo). q.count) (now.idle i).fifo in omega arith

  pub nothing-waits : (k n : ℕ) → n < 16 → waits_for w.control.places k ≡ n → w.control.mode.init ≡ true → ⊥
  nothing-waits zero n h e i = let z : w.control.places.first ≡ 16 = ap (λ (q : Places). q.first) (now.idle i).places in omega arith
  nothing-waits (suc k) n h e i = let z : w.control.places.second ≡ 16 = ap (λ (q : Places). q.second) (now.idle i).places in omega arith
