-- A fact about views that every turn keeps is kept by every step: each step is a row of turns. What a turn needs to know of a
-- step that was not refused is read off the refusals here, once.
use Rattle.std.specs.Prelude.{◌≡◌, ℕ, ◌+◌, ◌-◌, ◌%◌, ◌<◌, ◌≤◌, Bool, ◌&&◌, ◌||◌, not, set, leb}
use Rattle.std.proofs.Math.Path.{refl, subst}
use Rattle.std.proofs.Common.{sym, arith, eqb-true, ltb-true, ltb-false, leb-true, leb-false, le-leb}
use Rattle.std.proofs.Math.Bool.{true, false, or-true}
use mathlib.Core.List.{List, [], ◌∷◌, ◌++◌}
use Rattle.std.proofs.lemmas.Bool.{eqb-false, not-false, and_parts, or_parts}
use Rattle.std.proofs.Math.ListN.{get_or}
use Rattle.std.proofs.lemmas.List.{set-get_or}
use Rattle.std.proofs.Math.Dec.{eqb, ltb}
use Rattle.masks.specs.Pick.{pick}
use Rattle.masks.specs.PickLaws.{pick-keeps}
use Rattle.masks.specs.Bits.{some_of, highest}
use Rattle.masks.specs.SearchLaws.{lowest-ext}
use Rattle.locks.specs.declared.Locks.{Locks}
use Rattle.locks.specs.Pair.{has_holder, is_full, take_lock}
use Rattle.rules.specs.declared.Buffers.{Buffers}
use Rattle.contents.specs.Bytes.{Head, no_head}
use Rattle.rules.specs.declared.Register.{Register}
use Rattle.rules.specs.declared.Register.TheVariants.{Mcr, Fsizr, Tcr1, Tcr2, Tcr3, Risr, Gisr, Rier, Gier, Rivec, Tivec, Fidac, Fidmr, Mvr, Pctlbf, Buflock, Fidrj, Fidrmr, TransmitWindow, ReceiveWindow, FifoWindow, Bufctl, Reserved}
use Rattle.rules.specs.declared.SyncKind.{SyncKind}
use Rattle.rules.specs.declared.Fault.{Fault}
use Rattle.rules.specs.declared.Control.{Control}
use Rattle.rules.specs.Record.{with_config, with_fsiz, with_receive, with_transmit, with_buffers}
use Rattle.rules.specs.Registers.{has, between, register_at, INITRQ, SLPRQ, LOCK, ERRIF, WAKEIF}
use Rattle.rules.specs.Kinds.{is_transmit, is_receive, is_locked, is_lawful}
use Rattle.rules.specs.Waiting.{is_free, asleep, stored_from, deliver, delivery, deliver_both, delivered, deliveries}
use Rattle.rules.specs.Modes.{cancel, write_sleep, mode_by, write_mcr}
use Rattle.rules.specs.Writes.{enters_by_lock, lock_error, disarm, lock, release_all, unlock, write_lock, write_bufctl, written, window_moves, write_moves}
use Rattle.rules.specs.Bus.{raise_gisr, woken, synced, due_kind, due_sync, faulted, receives, lookup, to_place, to_buffer, fifo_takes, to_fifo, raise_last, found, judged, received, offers, send_from, slot_for, slotted}
use Rattle.rules.specs.Refusals.{refuses1, only_in_init, refuses4, refuses5, refuses6, refuses7, refuses8, refuses9, refuses10, moved_by_fsiz, moved_by_cfg, not_oldest, no_lock_left, refusal}
use Rattle.rules.specs.Steps.{Step, reset, read, write, sync, sync_due, slot, frame, fault, timeout, frame_in}
use Rattle.rules.specs.Plan.{head_at, Move, release, Plan}
use Rattle.rules.specs.Rules.{on_bus, act, decide}
use Rattle.controller.specs.View.{View}
use Rattle.controller.specs.ViewLaws.{head_move, head_moves, head_hold, head_holds, view_next}
use Rattle.invariants.specs.Sound.{within, RIER}
use Rattle.invariants.specs.AcceptedLaws.{Accepted, write-accepted, is_address, address-of}
use Rattle.invariants.specs.KeptLaws.{at, put, rewritten, reset_view, Kept}
use Rattle.invariants.specs.FlagLaws.{cut-within}
use Rattle.invariants.specs.ControlWriteLaws.{Prepared, prepared-by, new-oldest, new-room}
use Rattle.invariants.specs.TestLaws.{both-keep}

-- ---- from the refusals

pub low-address : (a : ℕ) → refuses1 a ≡ false → a < 0x60
unfolding refuses1
low-address a r = let h = ltb-false 0x5F a r in omega arith

-- $00: leaving is lawful
leaves-lawfully : (c : Control) (v : ℕ) → refuses8 c 0x00 v ≡ false → c.mode.init ≡ true → has v INITRQ ≡ false → is_lawful c ≡ true
unfolding refuses8
leaves-lawfully c v r i q = not-false (is_lawful c) (simp (i, q) at r)

-- $01
init-only : (c : Control) (a : ℕ) → only_in_init a ≡ true → refuses4 c a ≡ false → c.mode.init ≡ true
unfolding refuses4
init-only c a o r = not-false c.mode.init (simp o at r)

size_small : (v : ℕ) → refuses6 0x01 v ≡ false → v % 32 ≤ 16
unfolding refuses6
size_small v r = ltb-false 16 (v % 32) r

size-unmoved : (c : Control) (v : ℕ) → refuses7 c 0x01 v ≡ false → some_of (moved_by_fsiz c (v % 32)) 16 ≡ false
unfolding refuses7
size-unmoved c v r = (or_parts (some_of (moved_by_fsiz c (v % 32)) 16) _ r).0

-- $20 to $2D, $30 to $3D
transmit-held : (c : Control) (a p : ℕ) → a ≡ 0x20 + p → p < 14 → refuses5 c a ≡ false → c.transmit.holder < 16
unfolding refuses5
transmit-held c a p e h r =
    let lo : leb 0x20 a ≡ true = le-leb 0x20 a (omega arith) in
    let hi : leb a 0x2D ≡ true = le-leb a 0x2D (omega arith) in
    let t : (between 0x20 a 0x2D && not (has_holder c.transmit)) ≡ false = (or_parts _ _ r).0 in
    ltb-true c.transmit.holder 16 (not-false (has_holder c.transmit) (simp (lo, hi) at t))

receive-held : (c : Control) (a p : ℕ) → a ≡ 0x30 + p → p < 14 → refuses5 c a ≡ false → c.receive.holder < 16
unfolding refuses5
receive-held c a p e h r =
    let lo : leb 0x30 a ≡ true = le-leb 0x30 a (omega arith) in
    let hi : leb a 0x3D ≡ true = le-leb a 0x3D (omega arith) in
    let t : (between 0x30 a 0x3D && not (has_holder c.receive)) ≡ false =
    (or_parts (between 0x20 a 0x2D && not (has_holder c.transmit)) _ r).1 in
    ltb-true c.receive.holder 16 (not-false (has_holder c.receive) (simp (lo, hi) at t))

receive-init : (a p : ℕ) → a ≡ 0x30 + p → p < 14 → only_in_init a ≡ true
unfolding only_in_init
receive-init a p e h =
    let lo : leb 0x30 a ≡ true = le-leb 0x30 a (omega arith) in
    let hi : leb a 0x3D ≡ true = le-leb a 0x3D (omega arith) in
    simp (lo, hi, or-true)

-- $50 to $5F
module _ (c : Control) (a n v : ℕ) (e : a ≡ 0x50 + n) where
  low : leb 0x50 a ≡ true
  low = le-leb 0x50 a (omega arith)

  back : a - 0x50 ≡ n
  back = omega arith

  kind-stays : refuses7 c a v ≡ false → moved_by_cfg c n v ≡ false
  unfolding refuses7
  kind-stays r =
      let t : (leb 0x50 a && moved_by_cfg c (a - 0x50) v) ≡ false =
      (or_parts (eqb a 0x01 && some_of (moved_by_fsiz c (v % 32)) 16) _ r).1 in
      simp (low, back) at t

  oldest-locked : refuses9 c a v ≡ false → not_oldest c n v ≡ false
  unfolding refuses9
  oldest-locked r = simp (low, back) at r

  lock-left : refuses10 c a v ≡ false → no_lock_left c n v ≡ false
  unfolding refuses10
  lock-left r = simp (low, back) at r

-- ---- the steps

-- what a row of moves makes of the view w, with the control state c
abbrev moved : View → List ℕ → Control → List Move → View
moved w f c ms = record { control = c; heads = head_moves f w.held ms w.heads; held = head_holds f ms w.held }

module _ (P : View → Type 0) (K : (w : View) → P w → Kept P w) where
  -- ---- $00

  sleep-kept : (w : View) → P w → w.control.mode.init ≡ false → (s : Bool) → P (at w (write_sleep w.control s))
  unfolding write_sleep
  sleep-kept w p i true = pick-keeps (λ (d : Control). P (at w d)) w.control.config.bfen (λ t. (K w p).sleeps i) (λ t. p)
  sleep-kept w p i false = pick-keeps (λ (d : Control). P (at w d)) (asleep w.control) (λ t. (K w p).wakes i) (λ t. (K w p).cancels)

  mode-kept : (w : View) → P w → (i q s : Bool) → w.control.mode.init ≡ i → (i ≡ true → q ≡ false → is_lawful w.control ≡ true) →
      P (at w (mode_by i q s w.control))
  unfolding mode_by
  mode-kept w p true true s i l = p
  mode-kept w p true false s i l = (K w p).leaves i (l refl refl)
  mode-kept w p false true s i l = (K w p).enters
  mode-kept w p false false s i l = sleep-kept w p i s

  mcr-kept : (w : View) → P w → (a v : ℕ) → Accepted w.control a v → a ≡ 0x00 → P (at w (write_mcr w.control v))
  unfolding write_mcr is_lawful
  mcr-kept w p a v ok e =
      let c = w.control in
      let lawful : c.mode.init ≡ true → has v INITRQ ≡ false → is_lawful c ≡ true = λ i q. leaves-lawfully c v (rw e at ok.not8) i q in
      mode-kept (at w (rewritten c v)) ((K w p).rewrites v) c.mode.init (has v INITRQ) (has v SLPRQ) refl lawful

  -- ---- $50 to $5F

  -- a lock error enters initialization
  error-kept : (w : View) → P w → (l : Locks) → P (at w (lock_error l w.control))
  unfolding lock_error
  error-kept w p l = pick-keeps (λ (d : Control). P (at w d)) (enters_by_lock l w.control) (λ t. (K w p).enters) (λ t. p)

  lock-kept : (w : View) → P w → (n : ℕ) → n < 16 → is_locked w.control n ≡ false →
      (is_transmit w.control n ≡ false → is_receive w.control n ≡ false → (0 < w.control.fifo.count) × (n ≡ w.control.fifo.oldest)) →
      (is_transmit w.control n ≡ false → is_receive w.control n ≡ true → is_full w.control.receive ≡ false) → P (at w (lock w.control n))
  unfolding lock
  lock-kept w p n h u oldest room =
      let c = w.control in
      pick-keeps (λ (d : Control). P (at w d)) (is_transmit c n)
      (λ t. error-kept (at w (with_transmit (disarm c n) (take_lock c.transmit n))) ((K w p).locks-transmit n h u t) c.transmit)
      (λ t. pick-keeps (λ (d : Control). P (at w d)) (is_receive c n)
      (λ r. error-kept (at w (with_receive c (take_lock c.receive n))) ((K w p).locks-receive n h u t r (room t r)) c.receive)
      (λ r. let o = oldest t r in (K w p).locks-fifo n h t o.0 o.1))

  -- the frames in place k and then in place j stored, and the locks released
  module _ (n : ℕ) (h : n < 16) where
    free-kept : (w : View) → P w → (w.control.places.first ≡ n → ⊥) → (w.control.places.second ≡ n → ⊥) → P (at w (release_all w.control n))
    free-kept w p = (K w p).unlocks n h

    gone : 16 ≡ n → ⊥
    gone e = omega arith

    -- the frame in place k
    from : View → ℕ → View
    from w k = record { control = stored_from w.control k n; heads = set w.heads n (head_at w.held k); held = w.held }

    first-second : (w : View) → P w → P (moved w [] (release_all (deliver_both w.control 0 1 n) n) (delivery w.control 0 n ++ delivery w.control 1 n))
    unfolding deliver_both deliver delivery head_moves head_move head_holds head_hold from
    first-second w p =
        let c = w.control in
        both-keep (λ (d : Control) (ms : List Move). P (moved w [] (release_all (deliver d 1 n) n) (ms ++ delivery c 1 n))) (eqb c.places.first n)
        (λ t. let p1 : P (from w 0) = (K w p).delivers 0 n (omega arith) h (eqb-true c.places.first n t) in
        both-keep (λ (d : Control) (ms : List Move). P (moved w [] (release_all d n) (release 0 n ∷ ms))) (eqb c.places.second n)
        (λ u. free-kept (from (from w 0) 1) ((K (from w 0) p1).delivers 1 n (omega arith) h (eqb-true c.places.second n u)) gone gone)
        (λ u. free-kept (from w 0) p1 gone (eqb-false c.places.second n u)))
        (λ t. both-keep (λ (d : Control) (ms : List Move). P (moved w [] (release_all d n) ms)) (eqb c.places.second n)
        (λ u. free-kept (from w 1) ((K w p).delivers 1 n (omega arith) h (eqb-true c.places.second n u)) (eqb-false c.places.first n t) gone)
        (λ u. free-kept w p (eqb-false c.places.first n t) (eqb-false c.places.second n u)))

    second-first : (w : View) → P w → P (moved w [] (release_all (deliver_both w.control 1 0 n) n) (delivery w.control 1 n ++ delivery w.control 0 n))
    unfolding deliver_both deliver delivery head_moves head_move head_holds head_hold from
    second-first w p =
        let c = w.control in
        both-keep (λ (d : Control) (ms : List Move). P (moved w [] (release_all (deliver d 0 n) n) (ms ++ delivery c 0 n))) (eqb c.places.second n)
        (λ t. let p1 : P (from w 1) = (K w p).delivers 1 n (omega arith) h (eqb-true c.places.second n t) in
        both-keep (λ (d : Control) (ms : List Move). P (moved w [] (release_all d n) (release 1 n ∷ ms))) (eqb c.places.first n)
        (λ u. free-kept (from (from w 1) 0) ((K (from w 1) p1).delivers 0 n (omega arith) h (eqb-true c.places.first n u)) gone gone)
        (λ u. free-kept (from w 1) p1 (eqb-false c.places.first n u) gone))
        (λ t. both-keep (λ (d : Control) (ms : List Move). P (moved w [] (release_all d n) ms)) (eqb c.places.first n)
        (λ u. free-kept (from w 0) ((K w p).delivers 0 n (omega arith) h (eqb-true c.places.first n u)) gone (eqb-false c.places.second n t))
        (λ u. free-kept w p (eqb-false c.places.first n u) (eqb-false c.places.second n t)))

    unlock-kept : (w : View) → P w → P (moved w [] (unlock w.control n) (deliveries w.control n))
    unfolding unlock delivered deliveries
    unlock-kept w p =
        both-keep (λ (d : Control) (ms : List Move). P (moved w [] (release_all d n) ms)) w.control.places.swapped (λ t. second-first w p) (λ t. first-second w p)

  -- LOCK of v
  lock-write : (w : View) (n v : ℕ) → n < 16 → not_oldest w.control n v ≡ false → no_lock_left w.control n v ≡ false → (b : Buffers) → Prepared w.control n v b →
      P (at w (with_buffers w.control b)) →
      P (moved w [] (write_lock (with_buffers w.control b) n v) (pick (has v LOCK) [] (deliveries w.control n)))
  unfolding write_lock head_moves head_holds deliveries delivery
  lock-write w n v h o m b q p =
      let c = w.control in
      let d = with_buffers c b in
      both-keep (λ (x : Control) (ms : List Move). P (moved w [] x ms)) (has v LOCK)
      (λ a. pick-keeps (λ (x : Control). P (at w x)) (is_locked d n) (λ u. p)
      (λ u. lock-kept (at w d) p n h u (λ t r. new-oldest c n v b q h o a u t r) (λ t r. new-room c n v b q h m a u t r)))
      (λ a. unlock-kept n h (at w d) p)

  bufctl-kept : (w : View) → P w → (a n v : ℕ) → Accepted w.control a v → a ≡ 0x50 + n → n < 16 →
      P (moved w [] (write_bufctl w.control n v) (pick (has v LOCK) [] (deliveries w.control n)))
  unfolding write_bufctl
  bufctl-kept w p a n v ok e h =
      let c = w.control in
      prepared-by (λ (x : Control). P (at w x) → P (moved w [] (write_lock x n v) (pick (has v LOCK) [] (deliveries c n)))) c n v
      (lock-write w n v h (oldest-locked c a n v e ok.not9) (lock-left c a n v e ok.not10))
      ((K w p).prepares n v h (kind-stays c a n v e ok.not7))

  -- ---- the other registers

  module _ (w : View) (p : P w) where
    abbrev k : Kept P w
    k = K w p

    size-kept : (a v : ℕ) → Accepted w.control a v → a ≡ 0x01 → P (at w (with_config w.control (with_fsiz w.control.config (v % 32))))
    unfolding only_in_init
    size-kept a v ok e =
        k.resizes (v % 32) (init-only w.control 0x01 refl (rw e at ok.not4)) (size_small v (rw e at ok.not6))
        (size-unmoved w.control v (rw e at ok.not7))

    -- place q of the window of buffer n
    window-kept : (n q v : ℕ) → P (put w w.control n v (head_at w.heads n).len) →
        ((l : ℕ) → l ≤ 15 → P (put w w.control n (head_at w.heads n).ident l)) →
        P (moved w [] w.control (window_moves n q v))
    unfolding window_moves head_moves head_move head_holds head_hold
    window-kept n q v ident len =
        pick-keeps (λ (ms : List Move). P (moved w [] w.control ms)) (eqb q 0) (λ t. ident)
        (λ t. pick-keeps (λ (ms : List Move). P (moved w [] w.control ms)) (eqb q 1)
        (λ u. len (v % 16) (omega arith))
        (λ u. subst (λ (hs : List Head). P (record { control = w.control; heads = hs; held = w.held })) (sym (set-get_or w.heads n no_head)) p))

    transmit-kept : (a q v : ℕ) → Accepted w.control a v → a ≡ 0x20 + q → q < 14 →
        P (moved w [] w.control (window_moves w.control.transmit.holder q v))
    transmit-kept a q v ok e h =
        let held = transmit-held w.control a q e h ok.not5 in
        window-kept w.control.transmit.holder q v (k.sends-ident v held) (λ l b. k.sends-length l b held)

    receive-kept : (a q v : ℕ) → Accepted w.control a v → a ≡ 0x30 + q → q < 14 →
        P (moved w [] w.control (window_moves w.control.receive.holder q v))
    receive-kept a q v ok e h =
        let held = receive-held w.control a q e h ok.not5 in
        let init = init-only w.control a (receive-init a q e h) ok.not4 in
        window-kept w.control.receive.holder q v (k.takes-ident v init held) (λ l b. k.takes-length l b init held)

    write_kept : (a v : ℕ) → Accepted w.control a v → (r : Register) → is_address a r ≡ true →
        P (moved w [] (written w.control r v) (write_moves w.control r v))
    unfolding written write_moves head_moves head_holds is_address
    write_kept a v ok Mcr e = mcr-kept w p a v ok (eqb-true a 0x00 e)
    write_kept a v ok Fsizr e = size-kept a v ok (eqb-true a 0x01 e)
    write_kept a v ok Tcr1 e = k.configures _ refl (λ h. h)
    write_kept a v ok Tcr2 e = k.configures _ refl (λ h. h)
    write_kept a v ok Tcr3 e = k.configures _ refl (λ h. h)
    write_kept a v ok Risr e = k.clears-risr v
    write_kept a v ok Gisr e = k.clears-gisr v
    write_kept a v ok Rier e = k.configures _ refl (λ h. cut-within RIER (omega arith) v)
    write_kept a v ok Gier e = k.configures _ refl (λ h. h)
    write_kept a v ok Rivec e = p
    write_kept a v ok Tivec e = p
    write_kept a v ok Fidac e = k.configures _ refl (λ h. h)
    write_kept a v ok Fidmr e = k.configures _ refl (λ h. h)
    write_kept a v ok Mvr e = p
    write_kept a v ok Pctlbf e = k.configures _ refl (λ h. h)
    write_kept a v ok Buflock e = p
    write_kept a v ok Fidrj e = k.configures _ refl (λ h. h)
    write_kept a v ok Fidrmr e = k.configures _ refl (λ h. h)
    write_kept a v ok (TransmitWindow q) e =
        let both = and_parts (eqb a (0x20 + q)) (ltb q 14) e in transmit-kept a q v ok (eqb-true a (0x20 + q) both.0) (ltb-true q 14 both.1)
    write_kept a v ok (ReceiveWindow q) e =
        let both = and_parts (eqb a (0x30 + q)) (ltb q 14) e in receive-kept a q v ok (eqb-true a (0x30 + q) both.0) (ltb-true q 14 both.1)
    write_kept a v ok (FifoWindow q) e = p
    write_kept a v ok (Bufctl n) e =
        let both = and_parts (eqb a (0x50 + n)) (ltb n 16) e in bufctl-kept w p a n v ok (eqb-true a (0x50 + n) both.0) (ltb-true n 16 both.1)
    write_kept a v ok Reserved e = p

    any-write : (a v : ℕ) → Accepted w.control a v →
        P (moved w [] (written w.control (register_at a) v) (write_moves w.control (register_at a) v))
    any-write a v ok = write_kept a v ok (register_at a) (address-of a (low-address a ok.not1))

    -- ---- the bus

    abbrev Good : List ℕ → Plan → Type 0
    Good f q = P (moved w f q.control q.moves)

    bus-kept : (f : List ℕ) (x y : Plan) → (w.control.mode.init ≡ false → Good f x) → (w.control.mode.init ≡ false → Good f y) →
        Good f (on_bus w.control x y)
    unfolding on_bus head_moves head_holds
    bus-kept f x y g h =
        pick-keeps (Good f) w.control.mode.init (λ t. p) (λ t. pick-keeps (Good f) (asleep w.control) (λ u. g t) (λ u. h t))

    slot_kept : (i : ℕ) → w.control.mode.init ≡ false → Good [] (slotted w.control w.heads i)
    unfolding slotted slot_for send_from head_moves head_holds
    slot_kept i t =
        let n = highest (offers w.control w.heads i) 16 in
        pick-keeps (Good []) (not w.control.mode.synced) (λ u. p)
        (λ u. pick-keeps (Good []) (ltb w.control.mode.last i && ltb n 16)
        (λ x. k.sends i n t refl (ltb-true n 16 (and_parts (ltb w.control.mode.last i) (ltb n 16) x).1))
        (λ x. p))

    fifo-kept : (f : List ℕ) (i : ℕ) → w.control.mode.init ≡ false → w.control.mode.synced ≡ true → get_or f 0 0 ≡ i → eqb i 0 ≡ false →
        16 ≤ lookup w.control w.heads i → Good f (to_fifo (raise_last w.control i) i)
    unfolding to_fifo raise_last head_moves head_move head_holds head_hold
    fifo-kept f i t s e z n =
        pick-keeps (Good f) (fifo_takes (raise_last w.control i) i)
        (λ u. pick-keeps (Good f) (leb w.control.config.fsiz w.control.fifo.count) (λ x. k.overruns i t)
        (λ x. rw e (k.queues i (get_or f 1 0) t s z n (leb-false w.control.config.fsiz w.control.fifo.count x))))
        (λ u. k.passes i t)

    buffer-kept : (f : List ℕ) (i : ℕ) → w.control.mode.init ≡ false → w.control.mode.synced ≡ true → get_or f 0 0 ≡ i →
        lookup w.control w.heads i < 16 → Good f (to_buffer (raise_last w.control i) (lookup w.control w.heads i))
    unfolding to_buffer to_place raise_last head_moves head_move head_holds head_hold is_locked
    buffer-kept f i t s e n =
        pick-keeps (Good f) (is_locked w.control (lookup w.control w.heads i)) (λ l.
        pick-keeps (Good f) (is_free w.control 0)
        (λ u. rw e (k.holds i (get_or f 1 0) 0 t n l (omega arith) (leb-true 16 w.control.places.first u)))
        (λ u. pick-keeps (Good f) (is_free w.control 1)
        (λ x. rw e (k.holds i (get_or f 1 0) 1 t n l (omega arith) (leb-true 16 w.control.places.second x))) (λ x. k.passes i t)))
        (λ l. rw e (k.stores i (get_or f 1 0) t s n l))

    found-kept : (f : List ℕ) → w.control.mode.init ≡ false → w.control.mode.synced ≡ true → eqb (get_or f 0 0) 0 ≡ false →
        Good f (found w.control (get_or f 0 0) (lookup w.control w.heads (get_or f 0 0)))
    unfolding found
    found-kept f t s z =
        let i = get_or f 0 0 in
        let n = lookup w.control w.heads i in
        pick-keeps (Good f) (ltb n 16) (λ y. buffer-kept f i t s refl (ltb-true n 16 y)) (λ y. fifo-kept f i t s refl z (ltb-false n 16 y))

  -- what isn't ignored cancels SLPRQ first
  module _ (w : View) (p : P w) where
    abbrev on : View
    on = at w (cancel w.control)

    now : P (at w (cancel w.control))
    now = (K w p).cancels

    woken-kept : w.control.mode.init ≡ false → P (at w (woken w.control))
    unfolding woken within
    woken-kept i = (K (at w (raise_gisr w.control WAKEIF)) ((K w p).raises WAKEIF refl i)).wakes i

    syncs-kept : (s : SyncKind) → w.control.mode.init ≡ false → P (at w (synced s (cancel w.control) w.heads))
    unfolding cancel
    syncs-kept s i = (K on now).syncs s i

    faults-kept : (s : Fault) → w.control.mode.init ≡ false → P (at w (faulted s (cancel w.control)))
    unfolding cancel
    faults-kept s i = (K on now).faults s i

    due-kept : w.control.mode.init ≡ false → Good w p [] (due_sync w.control w.heads)
    unfolding due_sync head_moves head_holds
    due-kept i = pick-keeps (Good w p []) w.control.mode.master (λ t. syncs-kept (due_kind w.control) i) (λ t. p)

    -- cancelling changes no lookup
    lookup-on : (i : ℕ) → lookup (cancel w.control) w.heads i ≡ lookup w.control w.heads i
    unfolding lookup receives cancel
    lookup-on i = lowest-ext (receives (cancel w.control) w.heads i) (receives w.control w.heads i) 0 16 refl (λ n h. refl)

    frame-kept : (good : Bool) (f : List ℕ) → w.control.mode.init ≡ false → Good w p f (received w.control w.heads good (get_or f 0 0))
    unfolding received judged cancel head_moves head_holds within
    frame-kept good f i =
        let id = get_or f 0 0 in
        pick-keeps (Good w p f) (not w.control.mode.synced) (λ u. p)
        (λ u. pick-keeps (Good w p f) (not good || eqb id 0) (λ x. (K on now).raises ERRIF refl i)
        (λ x. subst (λ (n : ℕ). Good w p f (found (cancel w.control) id n)) (lookup-on id)
        (found-kept on now f i (not-false w.control.mode.synced u) (or_parts (not good) (eqb id 0) x).1)))

    act-kept : P reset_view → (e : Step) → refusal w.control e ≡ 0 → Good w p (frame_in e) (act w.control w.heads e)
    unfolding act refusal head_moves head_move head_holds head_hold
    act-kept z reset r = z
    act-kept z (read a) r = p
    act-kept z (write a v) r = any-write w p a v (write-accepted w.control a v r)
    act-kept z (sync s) r = bus-kept w p [] _ _ woken-kept (syncs-kept s)
    act-kept z sync_due r = bus-kept w p [] _ _ (λ i. p) due-kept
    act-kept z (slot i room) r = bus-kept w p [] _ _ (λ t. p) (slot_kept w p i)
    act-kept z (frame good f) r = bus-kept w p f _ _ woken-kept (frame-kept good f)
    act-kept z (fault s) r = bus-kept w p [] _ _ woken-kept (faults-kept s)
    act-kept z timeout r = bus-kept w p [] _ _ (λ i. p) (λ i. (K w p).times-out)

    pub step_kept : P reset_view → (e : Step) → P (view_next decide w e)
    unfolding view_next decide head_moves head_holds
    step_kept z e =
        pick-keeps (Good w p (frame_in e)) (eqb (refusal w.control e) 0)
        (λ t. act-kept z e (eqb-true (refusal w.control e) 0 t)) (λ t. p)
