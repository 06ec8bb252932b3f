-- Every rule keeps the control bits of the buffers: ABTAK only beside IFLG and on a transmit buffer, no IFLG on a FIFO
-- buffer.
use Rattle.std.specs.Prelude.{◌≡◌, refl, ℕ, ◌<◌, Bool, true, false, ◌&&◌, ◌||◌, ltb, leb}
use Rattle.std.proofs.Common.{sym, ap, ◌∙◌, subst, arith, le-ltb, leb-true}
use Rattle.std.proofs.Math.Bool.{not}
use Rattle.std.proofs.lemmas.Bool.{not-true, and_parts}
use Rattle.masks.specs.Pick.{pick}
use Rattle.masks.specs.PickLaws.{pick-keeps, by-test}
use Rattle.masks.specs.Bits.{bit_of, mask_of, put_bit, highest}
use Rattle.masks.specs.Laws.{bit-none, bit_mask}
use Rattle.rules.specs.declared.Fault.{Fault}
use Rattle.rules.specs.declared.Fault.TheVariants.{Early, Lost, Illegal, Mismatch}
use Rattle.rules.specs.declared.Control.{Control}
use Rattle.rules.specs.Registers.{has, reset_control, IFLG, ABTRQ}
use Rattle.rules.specs.Kinds.{is_transmit, is_fifo, has_iflg, is_full_transmit}
use Rattle.rules.specs.Waiting.{waits_for}
use Rattle.rules.specs.Modes.{enter, leave, wake, cancel}
use Rattle.rules.specs.Writes.{release_all, cfg_after, write_cfg, write_iena, write_iflg, write_abtrq}
use Rattle.rules.specs.Bus.{synced, timed_out, faulted, raise_last, lookup, offers}
use Rattle.rules.specs.Plan.{head_at}
use Rattle.controller.specs.View.{View}
use Rattle.invariants.specs.Sound.{Sound, BitsSound, Idle}
use Rattle.invariants.specs.KeptLaws.{at, Kept, prepared, reset_view}
use Rattle.invariants.specs.TestLaws.{impossible}
use Rattle.invariants.specs.BitLaws.{put_keeps}
use Rattle.invariants.specs.ViewLaws.{found-receive, sent-armed}
use Rattle.invariants.specs.ControlWriteLaws.{cfg-stays}

-- ---- the masks and FSIZ alone

abbrev in_fifo : ℕ → ℕ → ℕ → Bool
in_fifo cfg fsiz n = not (bit_of cfg n) && ltb n fsiz

record Bits (cfg fsiz iflg abtak : ℕ) : Type 0 where
  abtak-transmit : (n : ℕ) → n < 16 → bit_of abtak n ≡ true → bit_of cfg n ≡ true
  abtak-iflg : (n : ℕ) → n < 16 → bit_of abtak n ≡ true → bit_of iflg n ≡ true
  fifo-iflg : (n : ℕ) → n < 16 → in_fifo cfg fsiz n ≡ true → bit_of iflg n ≡ false

abbrev BitsOf : Control → Type 0
BitsOf c = Bits c.buffers.cfg c.config.fsiz c.buffers.iflg c.buffers.abtak

bits_of : {w : View} → BitsSound w → BitsOf w.control
bits_of b = record { abtak-transmit = b.abtak-transmit; abtak-iflg = b.abtak-iflg; fifo-iflg = b.fifo-iflg }

sound-of : {w : View} → BitsOf w.control → BitsSound w
sound-of b = record { abtak-transmit = b.abtak-transmit; abtak-iflg = b.abtak-iflg; fifo-iflg = b.fifo-iflg }

-- no flag at all
none-set : (cfg fsiz : ℕ) → Bits cfg fsiz 0 0
none-set cfg fsiz =
    record {
      abtak-transmit = λ n h t. impossible (sym (bit-none n) ∙ t);
      abtak-iflg = λ n h t. t;
      fifo-iflg = λ n h t. bit-none n;
    }

-- so in initialization, whatever the layout
idle-set : {c : Control} → Idle c → (cfg fsiz : ℕ) → Bits cfg fsiz c.buffers.iflg c.buffers.abtak
idle-set q cfg fsiz = rw (q.iflg, q.abtak) (none-set cfg fsiz)

-- a transmit buffer is no FIFO buffer
transmit-outside : (cfg fsiz n : ℕ) → bit_of cfg n ≡ true → in_fifo cfg fsiz n ≡ false
transmit-outside cfg fsiz n t = ap (λ (x : Bool). not x && ltb n fsiz) t

-- nor is a dedicated receive buffer
receive_outside : (cfg fsiz n : ℕ) → (not (bit_of cfg n) && leb fsiz n) ≡ true → in_fifo cfg fsiz n ≡ false
receive_outside cfg fsiz n r =
    let high : ltb n fsiz ≡ false = le-ltb n fsiz (leb-true fsiz n (and_parts (not (bit_of cfg n)) (leb fsiz n) r).1) in
    rw (high, (and_parts (not (bit_of cfg n)) (leb fsiz n) r).0)

module _ {cfg fsiz iflg abtak : ℕ} (b : Bits cfg fsiz iflg abtak) where
  -- the same layout with another mask for CFG
  same_layout : (cfg' : ℕ) → ((n : ℕ) → n < 16 → bit_of cfg' n ≡ bit_of cfg n) → Bits cfg' fsiz iflg abtak
  same_layout cfg' e =
      record {
        abtak-transmit = λ n h t. e n h ∙ b.abtak-transmit n h t;
        abtak-iflg = b.abtak-iflg;
        fifo-iflg = λ n h t. b.fifo-iflg n h (ap (λ (x : Bool). not x && ltb n fsiz) (sym (e n h)) ∙ t);
      }

  -- IFLG set outside the FIFO
  flag-set : (n : ℕ) → in_fifo cfg fsiz n ≡ false → Bits cfg fsiz (put_bit iflg n true) abtak
  flag-set n out =
      record {
        abtak-transmit = b.abtak-transmit;
        abtak-iflg = λ k h t. put_keeps (λ (x : Bool). x ≡ true) iflg n true k h (λ e. refl) (λ d. b.abtak-iflg k h t);
        fifo-iflg = λ k h t. put_keeps (λ (x : Bool). x ≡ false) iflg n true k h
            (λ e. impossible (sym out ∙ ap (in_fifo cfg fsiz) (sym e) ∙ t)) (λ d. b.fifo-iflg k h t);
      }

  -- IFLG and ABTAK set on a transmit buffer
  abort-set : (n : ℕ) → bit_of cfg n ≡ true → Bits cfg fsiz (put_bit iflg n true) (put_bit abtak n true)
  abort-set n tr =
      let f = flag-set n (transmit-outside cfg fsiz n tr) in
      record {
        abtak-transmit = λ k h. put_keeps (λ (x : Bool). x ≡ true → bit_of cfg k ≡ true) abtak n true k h
            (λ e t. ap (bit_of cfg) e ∙ tr) (λ d. b.abtak-transmit k h);
        abtak-iflg = λ k h. put_keeps (λ (x : Bool). x ≡ true → bit_of (put_bit iflg n true) k ≡ true) abtak n true k h
            (λ e t. put_keeps (λ (x : Bool). x ≡ true) iflg n true k h (λ d. refl) (λ d. absurd (d e))) (λ d. f.abtak-iflg k h);
        fifo-iflg = f.fifo-iflg;
      }

  -- IFLG cleared, where nothing but ABTAK of other buffers is left
  flag-clear : (n abtak' : ℕ) → ((k : ℕ) → k < 16 → bit_of abtak' k ≡ true → (bit_of abtak k ≡ true) × (k ≡ n → ⊥)) →
      Bits cfg fsiz (put_bit iflg n false) abtak'
  flag-clear n abtak' left =
      record {
        abtak-transmit = λ k h t. b.abtak-transmit k h (left k h t).0;
        abtak-iflg = λ k h t. put_keeps (λ (x : Bool). x ≡ true) iflg n false k h
            (λ e. absurd ((left k h t).1 e)) (λ d. b.abtak-iflg k h (left k h t).0);
        fifo-iflg = λ k h t. put_keeps (λ (x : Bool). x ≡ false) iflg n false k h (λ e. refl) (λ d. b.fifo-iflg k h t);
      }

  -- IFLG cleared, on a transmit buffer ABTAK too; no other buffer has ABTAK
  flag_cleared : (n : ℕ) → Bits cfg fsiz (put_bit iflg n false) (pick (bit_of cfg n) (put_bit abtak n false) abtak)
  flag_cleared n =
      pick-keeps (Bits cfg fsiz (put_bit iflg n false)) (bit_of cfg n)
      (λ p. flag-clear n (put_bit abtak n false) (λ k h. put_keeps (λ (x : Bool). x ≡ true → (bit_of abtak k ≡ true) × (k ≡ n → ⊥)) abtak n false k h
      (λ e t. impossible t) (λ d t. (t, d))))
      (λ p. flag-clear n abtak (λ k h t. (t, λ e. impossible (sym p ∙ ap (bit_of cfg) (sym e) ∙ b.abtak-transmit k h t))))

  -- IFLG set on every transmit buffer
  flag-all : Bits cfg fsiz (mask_of (λ n. bit_of cfg n || bit_of iflg n)) abtak
  flag-all =
      record {
        abtak-transmit = b.abtak-transmit;
        abtak-iflg = λ n h t. bit_mask (λ n. bit_of cfg n || bit_of iflg n) n h ∙ ap (λ (x : Bool). x || bit_of iflg n) (b.abtak-transmit n h t);
        fifo-iflg = λ n h t. bit_mask (λ n. bit_of cfg n || bit_of iflg n) n h
            ∙ rw (not-true (bit_of cfg n) (and_parts (not (bit_of cfg n)) (ltb n fsiz) t).0) (b.fifo-iflg n h t);
      }

-- ---- a control write, part by part

enter-bits : (c : Control) → BitsOf (enter c)
unfolding enter
enter-bits c = none-set c.buffers.cfg c.config.fsiz

module _ (c : Control) (n v : ℕ) (b : BitsOf c) where
  -- CFG changes in initialization alone, where no flag stands
  cfg-bits : (c.mode.init ≡ true → Idle c) → BitsOf (write_cfg c n v)
  unfolding write_cfg
  cfg-bits idle =
      by-test c.mode.init
      (λ p. idle-set (idle p) (put_bit c.buffers.cfg n (cfg_after c n v)) c.config.fsiz)
      (λ p. same_layout b (put_bit c.buffers.cfg n (cfg_after c n v)) (λ k h. cfg-stays c n v k p h))

  iena-bits : BitsOf (write_iena c n v)
  unfolding write_iena
  iena-bits = b

  iflg-bits : BitsOf (write_iflg c n v)
  unfolding write_iflg
  iflg-bits = pick-keeps BitsOf (has v IFLG && not c.mode.init) (λ p. flag_cleared b n) (λ p. b)

  abtrq-bits : BitsOf (write_abtrq c n v)
  unfolding write_abtrq
  abtrq-bits =
      pick-keeps BitsOf (has v ABTRQ && not c.mode.init && is_full_transmit c n)
      (λ p. abort-set b n (and_parts (is_transmit c n) (not (has_iflg c n)) (and_parts (has v ABTRQ && not c.mode.init) (is_full_transmit c n) p).1).0)
      (λ p. b)

prepared-bits : (c : Control) (n v : ℕ) → BitsOf c → (c.mode.init ≡ true → Idle c) → BitsOf (prepared c n v)
prepared-bits c n v b idle = abtrq-bits _ n v (iflg-bits _ n v (iena-bits _ n v (cfg-bits c n v b idle)))

-- ---- all the rules

pub bits-reset : BitsSound reset_view
unfolding reset_control
bits-reset = sound-of (none-set 0 0)

module _ (w : View) (s : Sound w) where
  now : BitsOf w.control
  now = bits_of s.bits

  -- a frame's buffer is a dedicated receive buffer
  lookup-outside : (i : ℕ) → lookup w.control w.heads i < 16 → is_fifo w.control (lookup w.control w.heads i) ≡ false
  lookup-outside i h = receive_outside w.control.buffers.cfg w.control.config.fsiz _ (found-receive w.control w.heads i h)

  -- the buffer that is sent is armed, so a transmit buffer
  sent-outside : (i n : ℕ) → n ≡ highest (offers w.control w.heads i) 16 → n < 16 → is_fifo w.control n ≡ false
  sent-outside i n e h =
      transmit-outside w.control.buffers.cfg w.control.config.fsiz n
      (s.arming.armed n h (sent-armed w.control w.heads i n e h)).transmit

  -- nor is a buffer that a frame waits for
  waits-outside : (k n : ℕ) → k < 2 → n < 16 → waits_for w.control.places k ≡ n → is_fifo w.control n ≡ false
  waits-outside k n b h e =
      let q = s.places.waiting k b (omega arith) in
      subst (λ (m : ℕ). is_fifo w.control m ≡ false) (q.lowest-named ∙ e)
      (lookup-outside (head_at w.held k).ident (let l = q.lowest-named in omega arith))

  pub bits-kept : Kept BitsSound w
  unfolding leave wake cancel synced timed_out faulted raise_last release_all
  bits-kept =
      record {
        rewrites = λ v. sound-of now;
        leaves = λ i l. sound-of (flag-all now);
        enters = sound-of (enter-bits _);
        sleeps = λ i. sound-of now;
        cancels = sound-of now;
        wakes = λ i. sound-of now;
        resizes = λ k i h u. sound-of (idle-set (s.modes.idle i) w.control.buffers.cfg k);
        configures = λ g e only. sound-of (rw e now);
        clears-risr = λ v. sound-of now;
        clears-gisr = λ v. sound-of now;
        sends-ident = λ v h. sound-of now;
        sends-length = λ l b h. sound-of now;
        takes-ident = λ v i h. sound-of now;
        takes-length = λ l b i h. sound-of now;
        prepares = λ n v h m. sound-of (prepared-bits w.control n v now s.modes.idle);
        locks-transmit = λ n h u t. sound-of now;
        locks-receive = λ n h u t r o. sound-of now;
        locks-fifo = λ n h t o e. sound-of now;
        delivers = λ k n b h e. sound-of (flag-set now n (waits-outside k n b h e));
        unlocks = λ n h f g. sound-of now;
        syncs = λ k i. sound-of now;
        times-out = sound-of now;
        faults = λ k i. sound-of (elim k as (λ (k : Fault). BitsOf (at w (faulted k w.control)).control) [ Early ↦ now | Lost ↦ now | Illegal ↦ now | Mismatch ↦ now ]);
        raises = λ b only i. sound-of now;
        passes = λ i t. sound-of now;
        overruns = λ i t. sound-of now;
        holds = λ i l k t h u b f. sound-of now;
        stores = λ i l t y h u. sound-of (flag-set now (lookup w.control w.heads i) (lookup-outside i h));
        queues = λ i l t y z u f. sound-of now;
        sends = λ i n t e h. sound-of (flag-set now n (sent-outside i n e h));
      }
