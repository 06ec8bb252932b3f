-- Every session from reset: the record after it is sound, no bus event changes a locked buffer, no slot meets one, frames wait only for
-- locked buffers, and registers read what document 01 says of flags and reserved bits.
use Rattle.std.specs.Prelude.{◌≡◌, refl, ℕ, ◌<◌, Bool, true, false, ◌&&◌, ◌||◌, List, eqb, ltb}
use Rattle.std.proofs.Common.{sym, ap, ◌∙◌, subst, arith, ne_eqb}
use Rattle.std.proofs.lemmas.Bool.{false≢true}
use Rattle.std.specs.Int.Bits.{bit_and}
use Rattle.masks.specs.Pick.{pick}
use Rattle.masks.specs.Bits.{bit_of, some_of}
use Rattle.locks.specs.Pair.{has_contender}
use Rattle.contents.specs.Bytes.{Head}
use Rattle.rules.specs.declared.Control.{Control}
use Rattle.rules.specs.Registers.{has, with_flag, low_map, register_at, no_places, RCVFIF, RXIF, TXIF, LOCKIF}
use Rattle.rules.specs.Kinds.{is_receive, is_locked, lockif}
use Rattle.rules.specs.Waiting.{waits_for, is_free, asleep}
use Rattle.rules.specs.Flags.{lines_of, receive_pending, transmit_pending, rcvfif, rxif, txif, risr, gisr}
use Rattle.rules.specs.Reads.{value_of}
use Rattle.rules.specs.Bus.{slotted}
use Rattle.rules.specs.Plan.{Plan}
use Rattle.rules.specs.Steps.{Step}
use Rattle.rules.specs.Untouched.{is_bus_event}
use Rattle.controller.specs.Carry.{reset_state, heads}
use Rattle.controller.specs.Session.{run_by, end_by, run_of, end_of}
use Rattle.controller.specs.View.{view_of}
use Rattle.controller.specs.Untouched.{Untouched, locked-untouched}
use Rattle.invariants.specs.Sound.{RISR, GISR, RegistersSound, Sound}
use Rattle.invariants.specs.FlagLaws.{bit-absent-in, flag-own, flag-other}
use Rattle.invariants.specs.Reads.{reserved_bits, after, reads}
use Rattle.invariants.specs.Slots.{slotted_with, decide_with, heads_after, offered}
use Rattle.invariants.specs.SlotLaws.{slot-unlocked, slot_same}
use Rattle.invariants.proofs.SlotLaws.{decide-same, same-run, same_end}
use Rattle.invariants.specs.ReservedBitLaws.{reserved-by}
use Rattle.invariants.specs.LockLaws.{receive-locked}
use Rattle.invariants.specs.ViewLaws.{found-receive}
use Rattle.invariants.specs.KeptSoundLaws.{reset-sound}
use Rattle.invariants.specs.ReachableLaws.{targets-free, place-normal}
use Rattle.invariants.proofs.ReachableLaws.{session-sound}
use Rattle.invariants.specs.Reachable.{TakenFor}

-- the record after any session from reset is sound
pub reachable-sound : (es : List Step) → Sound (view_of (end_of reset_state es))
unfolding end_of reset_state
reachable-sound es = session-sound reset_state es reset-sound

-- "No bus event changes a locked buffer", its arming and its role included, after any session from reset
pub locked-stays : (es : List Step) (e : Step) (n : ℕ) → is_bus_event e ≡ true → n < 16 →
    is_locked (end_of reset_state es).control n ≡ true → Untouched (end_of reset_state es) e n
locked-stays es e n b small locked =
    locked-untouched (end_of reset_state es) e n (targets-free (view_of (end_of reset_state es)) (reachable-sound es)) b small locked

-- ---- the two places (W5), after any session from reset

-- every place that is taken (its buffer below 16, not 16 for none) is taken for such a buffer
pub place-waits : (es : List Step) (k : ℕ) → k < 2 → waits_for (after es).places k < 16 →
    TakenFor (end_of reset_state es) k (waits_for (after es).places k)
place-waits es k b h =
    let c = end_of reset_state es in
    let s = reachable-sound es in
    let q = s.places.waiting k b h in
    let l = q.lowest-named in
    record {
      receive = subst (λ (m : ℕ). is_receive c.control m ≡ true) l (found-receive c.control (heads c.rows) _ (omega arith));
      locked = receive-locked c.control _ q.locked;
      lowest-named = l;
      short = q.short;
      normal = place-normal (view_of c) s k h;
    }

-- so nothing waits for a buffer that isn't locked, and LOCK 0 written there stores nothing
pub unlocked-unwaited : (es : List Step) (k n : ℕ) → k < 2 → n < 16 → is_locked (after es) n ≡ false → eqb (waits_for (after es).places k) n ≡ false
unlocked-unwaited es k n b h u =
    ne_eqb (waits_for (after es).places k) n (λ e.
    false≢true (sym u ∙ ap (is_locked (after es)) (sym e) ∙ (place-waits es k b (omega arith)).locked))

-- in initialization neither SLPRQ nor SLPAK, and no place taken
pub init-awake : (es : List Step) → (after es).mode.init ≡ true →
    ((after es).mode.slprq ≡ false) × (asleep (after es) ≡ false) × ((after es).places ≡ no_places)
unfolding asleep
init-awake es i =
    let c = after es in
    let idle = (reachable-sound es).modes.idle i in
    (idle.slprq, ap (λ (t : Bool). t && (is_free c 0 && is_free c 1)) idle.slprq, idle.places)

-- ---- slots, after any session from reset

-- the highest armed buffer that carries a slot's identifier is not locked: locking a transmit buffer disarms it
pub offered-unlocked : (es : List Step) (i : ℕ) → offered es i < 16 → is_locked (after es) (offered es i) ≡ false
offered-unlocked es i = slot-unlocked (view_of (end_of reset_state es)) (reachable-sound es) i

-- so the slot's rule with any plan for a locked buffer is the rule without it, on every record that a session reaches
pub same-slots : (es : List Step) (p : ℕ → Plan) (i : ℕ) → slotted_with p (after es) (heads_after es) i ≡ slotted (after es) (heads_after es) i
same-slots es p i = slot_same p (view_of (end_of reset_state es)) (reachable-sound es) i

-- W10: document 01 had the answer "heldback" there, and no session ever got it. With any plan in its place every session from reset
-- reports what it reports under the rules that W10 leaves, and ends in the same record.
pub same-sessions : (p : Control → List Head → ℕ → Plan) (es : List Step) →
    (run_by (decide_with p) lines_of reset_state es ≡ run_of reset_state es) × (end_by (decide_with p) reset_state es ≡ end_of reset_state es)
unfolding run_of end_of reset_state
same-sessions p es =
    let alike = decide-same p in
    (same-run (decide_with p) alike reset_state reset-sound es, same_end (decide_with p) alike reset_state reset-sound es)

-- ---- what registers read, after any session from reset

-- the kept bytes of $06, $07 and $08 hold no other bits than their event flags and enables
pub registers-only : (es : List Step) → RegistersSound (view_of (end_of reset_state es))
registers-only es = (reachable-sound es).registers

-- CFG and IENA have a bit for each buffer and no other
pub cfg-iena-lt : (es : List Step) → ((after es).buffers.cfg < 65536) × ((after es).buffers.iena < 65536)
cfg-iena-lt es = ((registers-only es).cfg-lt, (registers-only es).iena-lt)

-- "RCVFIF: FIFO not empty."
pub rcvfif-exact : (es : List Step) → has (reads es 0x06) RCVFIF ≡ ltb 0 (after es).fifo.count
unfolding value_of register_at low_map pick risr bit_of
rcvfif-exact es =
    let c = after es in
    flag-other (rxif c) RXIF (with_flag (rcvfif c) RCVFIF c.events.risr) 7 refl
    ∙ flag-own (rcvfif c) RCVFIF c.events.risr 7 (bit-absent-in RISR c.events.risr 7 (registers-only es).risr-only refl) refl

-- "RXIF, TXIF: some receive (transmit) buffer has IFLG and IENA"
pub rxif-exact : (es : List Step) → has (reads es 0x06) RXIF ≡ some_of (receive_pending (after es)) 16
unfolding value_of register_at low_map pick risr rxif bit_of
rxif-exact es =
    let c = after es in
    flag-own (rxif c) RXIF (with_flag (rcvfif c) RCVFIF c.events.risr) 6
    (flag-other (rcvfif c) RCVFIF c.events.risr 6 refl ∙ bit-absent-in RISR c.events.risr 6 (registers-only es).risr-only refl) refl

pub txif-exact : (es : List Step) → has (reads es 0x07) TXIF ≡ some_of (transmit_pending (after es)) 16
unfolding value_of register_at low_map pick gisr txif bit_of
txif-exact es =
    let c = after es in
    flag-other (lockif c) LOCKIF (with_flag (txif c) TXIF c.events.gisr) 7 refl
    ∙ flag-own (txif c) TXIF c.events.gisr 7 (bit-absent-in GISR c.events.gisr 7 (registers-only es).gisr-only refl) refl

-- "LOCKIF is 1 exactly while there is a contender."
pub lockif-exact : (es : List Step) → has (reads es 0x07) LOCKIF ≡ (has_contender (after es).receive || has_contender (after es).transmit)
unfolding value_of register_at low_map pick gisr lockif bit_of
lockif-exact es =
    let c = after es in
    flag-own (lockif c) LOCKIF (with_flag (txif c) TXIF c.events.gisr) 1
    (flag-other (txif c) TXIF c.events.gisr 1 refl ∙ bit-absent-in GISR c.events.gisr 1 (registers-only es).gisr-only refl) refl

-- "Reserved bits and addresses read 0"
pub reserved-reads-0 : (es : List Step) (a : ℕ) → bit_and (reads es a) (reserved_bits (register_at a)) ≡ 0
reserved-reads-0 es a =
    let s = reachable-sound es in
    reserved-by (after es) s.registers.risr-only s.registers.rier-only s.fifo.size-le (register_at a)
