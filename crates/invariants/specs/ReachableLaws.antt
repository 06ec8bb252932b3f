-- In a sound record neither the FIFO's next place nor an armed buffer is locked, and no frame waits in initialization. And outside the
-- windows a read shows the register's value.
use Rattle.std.specs.Prelude.{◌≡◌, refl, ℕ, ◌+◌, ◌<◌, ◌≤◌, Bool, true, false, ◌&&◌, not, List, eqb, ltb}
use Rattle.std.proofs.Common.{sym, ap, ◌∙◌, arith, ne_eqb, ltb-true, ltb-false}
use Rattle.std.proofs.Math.Bool.{and-false}
use Rattle.std.proofs.lemmas.Bool.{false≢true, lt-leb}
use Rattle.masks.specs.PickLaws.{by-test}
use Rattle.locks.specs.declared.Locks.{Locks}
use Rattle.locks.specs.Pair.{in_pair}
use Rattle.contents.specs.declared.Contents.{Contents}
use Rattle.contents.specs.Bytes.{Head}
use Rattle.rules.specs.declared.Answer.TheVariants.{Value}
use Rattle.rules.specs.declared.Control.{Control}
use Rattle.rules.specs.Registers.{Region, send_place, receive_place, fifo_place, control_of, elsewhere}
use Rattle.rules.specs.Kinds.{is_transmit, is_receive, is_locked}
use Rattle.rules.specs.Waiting.{waits_for}
use Rattle.rules.specs.Reads.{reply_in}
use Rattle.rules.specs.Steps.{Step}
use Rattle.rules.specs.Untouched.{TargetsFree}
use Rattle.controller.specs.Carry.{answer_of}
use Rattle.controller.specs.View.{View}
use Rattle.invariants.specs.Sound.{PairSound, Sound}
use Rattle.invariants.specs.Reads.{is_window}
use Rattle.invariants.specs.ViewLaws.{lawful-low}
use Rattle.invariants.specs.KeptModeLaws.{nothing-waits}

-- ---- the FIFO's next place is not locked while there is room, nor is an armed buffer

-- a buffer that isn't of the pair's kind is none of the pair
not-in-pair : (kind : ℕ → Bool) (l : Locks) (n : ℕ) → PairSound kind l → n < 16 → kind n ≡ false → in_pair l n ≡ false
unfolding in_pair
not-in-pair kind l n p small other =
    let h : eqb n l.holder ≡ false =
    ne_eqb n l.holder (λ e. false≢true (sym other ∙ ap kind e ∙ p.holder-kind (omega arith))) in
    let c : eqb n l.contender ≡ false =
    ne_eqb n l.contender (λ e. false≢true (sym other ∙ ap kind e ∙ p.contender-kind (omega arith))) in
    simp (h, c)

not-receive : (c : Control) (n : ℕ) → n < c.config.fsiz → is_receive c n ≡ false
not-receive c n h = simp (lt-leb c.config.fsiz n h) (and-false (not (is_transmit c n)))

-- with a lock there is an entry, and with room left the next place is behind it
not-oldest : (w : View) → Sound w → w.control.fifo.count < w.control.config.fsiz → (t : Bool) → w.control.fifo.locked ≡ t →
    (t && eqb w.control.fifo.next w.control.fifo.oldest) ≡ false
not-oldest w s room false e = refl
not-oldest w s room true e =
    ne_eqb w.control.fifo.next w.control.fifo.oldest
    (λ same.
    let f = s.fifo in
    let entry = f.lock-entry e in
    let old = f.oldest-lt (omega arith) in
    by-test (ltb (w.control.fifo.oldest + w.control.fifo.count) w.control.config.fsiz)
    (λ t. let h = f.next_low (ltb-true _ _ t) in omega arith) (λ t. let h = f.next-high (ltb-false _ _ t) in omega arith))

pub targets-free : (w : View) → Sound w → TargetsFree w.control
unfolding is_locked
targets-free w s =
    record {
      next-free = λ normal room.
          let f = s.fifo in
          let low : w.control.fifo.next < w.control.config.fsiz = f.next-lt (omega arith) in
          let size : w.control.config.fsiz ≤ 16 = f.size-le in
          let small : w.control.fifo.next < 16 = omega arith in
          let rx : in_pair w.control.receive w.control.fifo.next ≡ false =
          not-in-pair (is_receive w.control) w.control.receive w.control.fifo.next s.locks.receive small (not-receive w.control w.control.fifo.next low) in
          let tx : in_pair w.control.transmit w.control.fifo.next ≡ false =
          not-in-pair (is_transmit w.control) w.control.transmit w.control.fifo.next s.locks.transmit small
          (lawful-low w.control w.control.fifo.next (s.modes.lawful normal) size low) in
          simp (rx, tx) (not-oldest w s room w.control.fifo.locked refl);
      armed-free = λ m h a. (s.arming.armed m h a).unlocked;
    }

pub place-normal : (w : View) → Sound w → (k : ℕ) → waits_for w.control.places k < 16 → w.control.mode.init ≡ false
place-normal w s k h = by-test w.control.mode.init (λ i. absurd (nothing-waits w s k _ h refl i)) (λ i. i)

pub value-shown : (c : Control) (hs : List Head) (e : Step) (rows : List Contents) (g : Region) (v : ℕ) → is_window g ≡ false →
    answer_of e rows (reply_in c hs g v) ≡ Value v
value-shown c hs e rows (send_place p) v t = absurd (false≢true (sym t))
value-shown c hs e rows (receive_place p) v t = absurd (false≢true (sym t))
value-shown c hs e rows (fifo_place p) v t = absurd (false≢true (sym t))
value-shown c hs e rows (control_of n) v t = refl
value-shown c hs e rows elsewhere v t = refl
