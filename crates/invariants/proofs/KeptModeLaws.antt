-- Every rule keeps the facts of the modes: idle in initialization, a lawful layout outside it, and a remembered clear only of a
-- standing SYNLIF, unsynchronized.
use Rattle.std.specs.Prelude.{◌≡◌, ℕ, ◌<◌, true, List}
use Rattle.std.proofs.Math.Path.{refl}
use Rattle.std.proofs.Common.{sym, ◌∙◌}
use Rattle.locks.specs.declared.Locks.{Locks}
use Rattle.rules.specs.declared.Buffers.{Buffers}
use Rattle.rules.specs.declared.Control.{Control}
use Rattle.rules.specs.Record.{with_config, with_receive, with_transmit, with_buffers}
use Rattle.rules.specs.Registers.{OVRNIF}
use Rattle.rules.specs.Kinds.{is_lawful}
use Rattle.rules.specs.Waiting.{waits_for, stored_from}
use Rattle.rules.specs.Flags.{write_risr}
use Rattle.rules.specs.Modes.{leave, wake}
use Rattle.rules.specs.Writes.{disarm, release_all}
use Rattle.rules.specs.Bus.{synced, sync_events, timed_out, raise_last}
use Rattle.contents.specs.Bytes.{Head}
use Rattle.controller.specs.View.{View}
use Rattle.invariants.specs.Sound.{Sound, ModeSound}
use Rattle.invariants.specs.ModeLaws.{remembered, forgotten, desynced, raised, gisr-written, RestingAt, resting, modes-by, awake, entered, lawful-same, silent, risr-silent, gisr-silent, events-modes}
use Rattle.invariants.specs.KeptLaws.{Kept, at}
use Rattle.invariants.specs.TestLaws.{impossible}
use Rattle.invariants.specs.BitLaws.{put-none}
use Rattle.invariants.specs.ControlWriteLaws.{Prepared, prepared-kind, prepared-by}
use Rattle.invariants.specs.KeptModeLaws.{released-empty, cancel-modes, raise-modes, faulted-modes, no-entry, nothing-waits}

-- ---- a control write

-- before LOCK: flags and arming stay in initialization, the layout outside it
prepared-modes : (w : View) (n v : ℕ) (b : Buffers) → Prepared w.control n v b → ModeSound w → ModeSound (at w (with_buffers w.control b))
prepared-modes w n v b p m =
    let c = w.control in
    modes-by w refl
    (λ i. let q = m.idle i in
    record {
      iflg-none = p.init-iflg i ∙ q.iflg;
      abtak-none = p.init-abtak i ∙ q.abtak;
      armed-none = p.init-armed i ∙ q.armed;
      fifo-empty = q.fifo;
      places-free = q.places;
    })
    (λ i. lawful-same c (with_buffers c b) refl (prepared-kind c n v b p i) ∙ m.lawful i) m

module _ (w : View) (c : Control) (n : ℕ) (m : ModeSound (at w c)) where
  -- in initialization nothing is armed
  transmit-modes : (l : Locks) → ModeSound (at w (with_transmit (disarm c n) l))
  unfolding is_lawful
  transmit-modes l =
      modes-by (at w c) refl
      (λ i. let q = m.idle i in
      record { iflg-none = q.iflg; abtak-none = q.abtak; armed-none = put-none c.buffers.armed n q.armed; fifo-empty = q.fifo; places-free = q.places })
      m.lawful m

  receive-modes : (l : Locks) → ModeSound (at w (with_receive c l))
  unfolding is_lawful
  receive-modes l = modes-by (at w c) refl (λ i. resting (m.idle i)) m.lawful m

  unlock-modes : ModeSound (at w (release_all c n))
  unfolding release_all is_lawful
  unlock-modes =
      modes-by (at w c) refl
      (λ i. let q = m.idle i in
      record { iflg-none = q.iflg; abtak-none = q.abtak; armed-none = q.armed; fifo-empty = released-empty w c n m q.fifo; places-free = q.places })
      m.lawful m

-- ---- all the rules

module _ (w : View) (s : Sound w) where
  now : ModeSound w
  now = s.modes

  rest : w.control.mode.init ≡ true → RestingAt w.control
  rest i = resting (now.idle i)

  delivers-modes : (k n : ℕ) → n < 16 → waits_for w.control.places k ≡ n → (hs : List Head) →
      ModeSound (record { control = stored_from w.control k n; heads = hs; held = w.held })
  unfolding is_lawful
  delivers-modes k n h e hs = modes-by w refl (λ i. absurd (nothing-waits w s k n h e i)) now.lawful now

  pub modes-kept : Kept ModeSound w
  unfolding leave wake synced sync_events timed_out raise_last write_risr is_lawful
  modes-kept =
      let c = w.control in
      record {
        rewrites = λ v. modes-by w refl rest now.lawful now;
        leaves = λ i l. awake refl l (forgotten (now.idle i).clearing);
        enters = entered w _;
        sleeps = λ i. awake i (now.lawful i) (remembered now);
        cancels = cancel-modes w now;
        wakes = λ i. awake i (now.lawful i) (desynced (remembered now));
        resizes = λ k i h u. modes-by w refl rest (λ t. impossible (sym t ∙ i)) now;
        configures = λ g e only. modes-by w refl rest
            (λ i. lawful-same w.control (with_config w.control g) e (λ k h. refl) ∙ now.lawful i) now;
        clears-risr = λ v. events-modes w _ (λ i. risr-silent w.control.events v (silent (now.idle i))) (remembered now) now;
        clears-gisr = λ v. events-modes w _ (λ i. gisr-silent w.control.mode.synced w.control.events v (silent (now.idle i)))
            (gisr-written w.control.mode.synced w.control.events v (remembered now)) now;
        sends-ident = λ v h. modes-by w refl rest now.lawful now;
        sends-length = λ l b h. modes-by w refl rest now.lawful now;
        takes-ident = λ v i h. modes-by w refl rest now.lawful now;
        takes-length = λ l b i h. modes-by w refl rest now.lawful now;
        prepares = λ n v h m. prepared-by (λ (x : Control). ModeSound (at w x)) c n v (λ b p. prepared-modes w n v b p now);
        locks-transmit = λ n h u t. transmit-modes w c n now _;
        locks-receive = λ n h u t r o. receive-modes w c n now _;
        locks-fifo = λ n h t some e. modes-by w refl (λ i. absurd (no-entry w s some i)) now.lawful now;
        delivers = λ k n b h e. delivers-modes k n h e _;
        unlocks = λ n h f g. unlock-modes w c n now;
        syncs = λ k i. awake i (now.lawful i) (forgotten refl);
        times-out = modes-by w refl rest now.lawful now;
        faults = faulted-modes w s;
        raises = λ b only i. raise-modes w s b i;
        passes = λ i t. modes-by w refl rest now.lawful now;
        overruns = λ i t. awake t (now.lawful t) (raised OVRNIF (remembered now));
        holds = λ i l k t h u b f. awake t (now.lawful t) (remembered now);
        stores = λ i l t y h u. awake t (now.lawful t) (remembered now);
        queues = λ i l t y z u f. awake t (now.lawful t) (remembered now);
        sends = λ i n t e h. awake t (now.lawful t) (remembered now);
      }
