-- What becomes of a frame, as the verdict on it and its marks in the control state, and that this is the rules' ruling.
use Rattle.std.specs.Prelude.{ℕ, ◌<◌, max, Option, Some, None, Bool, true, false, ◌&&◌, [], ◌∷◌, ◌≡◌, ltb, leb}
use Rattle.std.proofs.Math.Path.{refl}
use Rattle.std.proofs.Common.{◌∙◌}
use borrow.Author.Tests.{lt-ltb}
use Rattle.std.proofs.Math.Dec.{eqb}
use Rattle.std.specs.Int.Bits.{bit_or, or_zero_r}
use Rattle.masks.specs.Pick.{pick}
use Rattle.masks.specs.PickLaws.{pick_true, pick-false, by-test}
use Rattle.masks.specs.Bits.{bit_of, mask_of, put_bit}
use Rattle.masks.specs.Laws.{own, or-by, put-with}
use Rattle.locks.specs.Pair.{none}
use Rattle.rules.specs.declared.Answer.TheVariants.{Stored, Queued, Waiting, HeldOff, Overrun, Unmatched, BadFrame, Ignored}
use Rattle.rules.specs.declared.Target.TheVariants.{Buffer, Place}
use Rattle.rules.specs.declared.Verdict.{Verdict}
use Rattle.rules.specs.declared.Ruling.{Ruling}
use Rattle.rules.specs.declared.Verdict.TheVariants.{Say, Store}
use Rattle.rules.specs.declared.Fifo.{Fifo}
use Rattle.rules.specs.declared.Places.{Places}
use Rattle.rules.specs.declared.Control.{Control}
use Rattle.rules.specs.Record.{with_fifo, with_buffers, with_slprq, with_last, with_gisr, with_iflg}
use Rattle.rules.specs.Registers.{OVRNIF, ERRIF}
use Rattle.rules.specs.Kinds.{is_locked}
use Rattle.rules.specs.Waiting.{occupied}
use Rattle.rules.specs.Modes.{cancel}
use Rattle.rules.specs.Bus.{raise_gisr, waits, to_place, fifo_takes, with_entry, raise_last}
use Rattle.rules.specs.Plan.{store, say, plain}
use Rattle.bus_steps.specs.declared.frames.Outcome.{Outcome}
use Rattle.bus_steps.specs.Code.{ruling_of}

-- ---- what becomes of a frame

-- a verdict that marks nothing but that SLPRQ is cancelled; p are the waiting places
abbrev pub unmarked : Places → Verdict → Outcome
unmarked p v = record { verdict = v; slprq = false; raises = false; iflg = 0; gisr = 0; queues = false; places = p }

-- the eight outcomes
abbrev pub ignored : Control → Outcome
ignored c = record { verdict = Say Ignored; slprq = c.mode.slprq; raises = false; iflg = 0; gisr = 0; queues = false; places = c.places }

abbrev pub bad : Places → Outcome
bad p = record { verdict = Say BadFrame; slprq = false; raises = false; iflg = 0; gisr = ERRIF; queues = false; places = p }

-- the last identifier raised, and no other mark: p are the places after it
abbrev pub raising : Places → Verdict → Outcome
raising p v = record { verdict = v; slprq = false; raises = true; iflg = 0; gisr = 0; queues = false; places = p }

abbrev pub waits_in : Places → ℕ → ℕ → Outcome
waits_in p k n = raising (occupied p k n) (Store (Place k) (Waiting n))

abbrev pub held_off : Places → ℕ → Outcome
held_off p n = raising p (Say (HeldOff n))

-- the place that a frame takes: the first if it is free, else the second, else none
unfoldable pub free_place : Places → Option ℕ
free_place p = pick (leb none p.first) (Some 0) (pick (leb none p.second) (Some 1) None)

-- a frame for buffer n, which is locked, by the place that it takes
abbrev pub placed_by : Places → ℕ → Option ℕ → Outcome
placed_by p n None = held_off p n
placed_by p n (Some k) = waits_in p k n

abbrev pub stored : Places → ℕ → Outcome
stored p n =
    record { verdict = Store (Buffer n) (Stored n); slprq = false; raises = true; iflg = mask_of (λ k. eqb k n); gisr = 0; queues = false; places = p }

abbrev pub unmatched : Places → Outcome
unmatched p = raising p (Say Unmatched)

abbrev pub overrun : Places → Outcome
overrun p = record { verdict = Say Overrun; slprq = false; raises = true; iflg = 0; gisr = OVRNIF; queues = false; places = p }

abbrev pub queued : Places → ℕ → Outcome
queued p n = record { verdict = Store (Buffer n) (Queued n); slprq = false; raises = true; iflg = 0; gisr = 0; queues = true; places = p }

-- ---- the control state with its marks

unfoldable pub risen : ℕ → Bool → ℕ → ℕ
risen last raises i = pick raises (max last i) last

unfoldable pub entered : Control → Bool → Fifo
entered c queues = pick (queues && ltb c.fifo.count c.config.fsiz) (with_entry c) c.fifo

unfoldable pub marked : Control → Outcome → ℕ → Control
marked c o i =
    record {
      mode = with_slprq (with_last c.mode (risen c.mode.last o.raises i)) o.slprq;
      config = c.config;
      events = with_gisr c.events (bit_or c.events.gisr o.gisr);
      fifo = entered c o.queues;
      receive = c.receive;
      transmit = c.transmit;
      places = o.places;
      buffers = with_iflg c.buffers (bit_or c.buffers.iflg o.iflg);
    }

-- the ruling on a frame with identifier i
abbrev pub ruled_by : Control → ℕ → Outcome → Ruling
ruled_by c i o = record { next = marked c o i; verdict = o.verdict }

-- ---- the rulings by outcome are the rules'

module _ (c : Control) (i : ℕ) where
  pub ignored-ruled : ruled_by c i (ignored c) ≡ ruling_of (plain c Ignored)
  unfolding marked risen entered pick
  ignored-ruled = simp (or_zero_r)

  pub bad-ruled : ruled_by c i (bad c.places) ≡ ruling_of (plain (raise_gisr (cancel c) ERRIF) BadFrame)
  unfolding marked risen entered pick cancel
  bad-ruled = simp (or_zero_r)

  pub held-ruled : (n : ℕ) → ruled_by c i (held_off c.places n) ≡ ruling_of (plain (raise_last (cancel c) i) (HeldOff n))
  unfolding marked risen entered pick raise_last cancel
  held-ruled n = simp (or_zero_r)

  pub waits-ruled : (k n : ℕ) → ruled_by c i (waits_in c.places k n) ≡ ruling_of (waits (raise_last (cancel c) i) k n)
  unfolding marked risen entered pick raise_last cancel
  waits-ruled k n = simp (or_zero_r)

  -- where the frame's buffer is locked
  pub place-ruled : (n : ℕ) → ruled_by c i (placed_by c.places n (free_place c.places)) ≡ ruling_of (to_place (raise_last (cancel c) i) n)
  unfolding to_place free_place raise_last cancel
  place-ruled n =
      by-test (leb none c.places.first) (λ e. simp (pick_true, e) (waits-ruled 0 n))
      (λ e. by-test (leb none c.places.second) (λ f. simp (pick_true, pick-false, e, f) (waits-ruled 1 n)) (λ f. simp (pick-false, e, f) (held-ruled n)))

  pub unmatched-ruled : ruled_by c i (unmatched c.places) ≡ ruling_of (plain (raise_last (cancel c) i) Unmatched)
  unfolding marked risen entered pick raise_last cancel
  unmatched-ruled = simp (or_zero_r)

  pub overrun-ruled : ruled_by c i (overrun c.places) ≡ ruling_of (plain (raise_gisr (raise_last (cancel c) i) OVRNIF) Overrun)
  unfolding marked risen entered pick raise_last cancel
  overrun-ruled = simp (or_zero_r)

  pub stored-ruled : (n : ℕ) → c.buffers.iflg < 65536 → ruled_by c i (stored c.places n)
      ≡ ruling_of (record {
        control = with_buffers (raise_last (cancel c) i) (with_iflg c.buffers (put_bit c.buffers.iflg n true));
        moves = store n ∷ [];
        reply = say (Stored n);
        looked = 0;
      })
  unfolding marked risen entered pick raise_last cancel
  stored-ruled n h =
      simp (or_zero_r, or-by c.buffers.iflg (mask_of (λ k. eqb k n)) (bit_of c.buffers.iflg) (λ k. eqb k n) (own c.buffers.iflg h) refl ∙ put-with c.buffers.iflg n)

  pub queued-ruled : (n : ℕ) → c.fifo.count < c.config.fsiz → ruled_by c i (queued c.places n)
      ≡ ruling_of (record { control = with_fifo (raise_last (cancel c) i) (with_entry c); moves = store n ∷ []; reply = say (Queued n); looked = 0 })
  unfolding marked risen entered raise_last cancel
  queued-ruled n h = simp (or_zero_r, pick_true, lt-ltb c.fifo.count c.config.fsiz h)

  -- a cancelled SLPRQ and a raised last identifier change neither locks nor filters
  pub locked-raised : (n : ℕ) → is_locked (raise_last (cancel c) i) n ≡ is_locked c n
  unfolding is_locked raise_last cancel
  locked-raised n = refl

  pub takes-raised : fifo_takes (raise_last (cancel c) i) i ≡ fifo_takes c i
  unfolding fifo_takes raise_last cancel
  takes-raised = refl
