-- Every rule keeps that an armed buffer is a full, unlocked transmit buffer with an identifier, of a synchronized module.
use Rattle.std.specs.Prelude.{◌≡◌, ℕ, ◌<◌, false, ◌&&◌, List, eqb}
use Rattle.std.proofs.Math.Path.{refl, sym}
use Rattle.std.proofs.Common.{◌∙◌, subst, arith}
use Rattle.std.proofs.Math.Bool.{true, not}
use Rattle.std.proofs.lemmas.Bool.{and_parts}
use borrow.Author.Tests.{not-true}
use Rattle.masks.specs.PickLaws.{by-test}
use Rattle.masks.specs.Bits.{bit_of}
use Rattle.masks.specs.Laws.{bit_mask, put_same}
use Rattle.masks.specs.SearchLaws.{never_both}
use Rattle.contents.specs.Bytes.{Head, cut}
use Rattle.rules.specs.declared.SyncKind.{SyncKind}
use Rattle.rules.specs.declared.Fault.{Fault}
use Rattle.rules.specs.declared.Fault.TheVariants.{Early, Lost, Illegal, Mismatch}
use Rattle.rules.specs.declared.Buffers.{Buffers}
use Rattle.rules.specs.declared.Control.{Control}
use Rattle.rules.specs.Record.{with_mode, with_config, with_fifo, with_buffers, with_fsiz, with_slprq, with_alarm, with_last}
use Rattle.rules.specs.Registers.{reset_control, SLMMIF, OVRNIF, SYNEIF, ILLPIF}
use Rattle.rules.specs.Kinds.{is_transmit, is_full_transmit, has_iflg, is_armed, is_locked}
use Rattle.rules.specs.Waiting.{waits_for, freed, stored_from, occupied}
use Rattle.rules.specs.Flags.{write_risr, write_gisr}
use Rattle.rules.specs.Modes.{leave, wake, cancel, written_mode}
use Rattle.rules.specs.Writes.{disarm}
use Rattle.rules.specs.Bus.{raise_gisr, raise_risr, arms, synced, timed_out, faulted, lookup, raise_last, with_entry, sent_from}
use Rattle.rules.specs.Plan.{head_at}
use Rattle.controller.specs.View.{View}
use Rattle.invariants.specs.Sound.{Armed, ArmingSound, Sound}
use Rattle.invariants.specs.KeptLaws.{at, put_head, flagged, reset_view, Kept}
use Rattle.invariants.specs.ViewLaws.{lawful-low, receive-kind, found-receive}
use Rattle.invariants.specs.LockLaws.{holder-locked}
use Rattle.invariants.specs.ControlWriteLaws.{Prepared, prepared-kind, prepared-by}
use Rattle.invariants.specs.ArmingLaws.{kinds-apart, quiet, same-arming, head-arming, locks-arming, disarm-arming, held-arming, flag-arming, enter-arming, transmit-locked, receive-locked, fifo-locked, unlock-arming}

module _ (w : View) (s : Sound w) where
  abbrev c : Control
  c = w.control

  -- ---- what isn't armed

  -- anything in initialization
  init-quiet : (x : Control) (hs : List Head) → c.mode.init ≡ true → x.buffers.armed ≡ c.buffers.armed →
      ArmingSound (record { control = x; heads = hs; held = w.held })
  init-quiet x hs i e = quiet (record { control = x; heads = hs; held = w.held }) (e ∙ (s.modes.idle i).armed)

  -- the transmit window's holder
  holder-unarmed : (n : ℕ) → Armed w n → n ≡ c.transmit.holder → ⊥
  holder-unarmed n q = holder-locked c n q.unlocked

  -- a buffer below FSIZ
  low-unarmed : c.mode.init ≡ false → (p : ℕ) → p < c.config.fsiz → (n : ℕ) → Armed w n → n ≡ p → ⊥
  low-unarmed i p b n q = kinds-apart c n p q.transmit (lawful-low c p (s.modes.lawful i) s.fifo.size-le b)

  -- ---- $00

  leaves-arming : c.mode.init ≡ true → ArmingSound (at w (leave c))
  unfolding leave
  leaves-arming i = init-quiet (leave c) w.heads i refl

  wakes-arming : (x : Control) → ArmingSound (at w (wake x))
  unfolding wake
  wakes-arming x = quiet (at w (wake x)) refl

  -- ---- $50 to $5F

  -- CFG changes only in initialization; an abort disarms
  prepared-arming : (n v : ℕ) (b : Buffers) → Prepared c n v b → ArmingSound (at w (with_buffers c b))
  unfolding is_locked
  prepared-arming n v b p =
      by-test c.mode.init
      (λ i. init-quiet (with_buffers c b) w.heads i (p.init-armed i))
      (λ i. record {
        armed = λ k l a.
            let q = s.arming.armed k l (p.armed-less k l a) in
            record {
              transmit = prepared-kind c n v b p i k l ∙ q.transmit;
              full = by-test (bit_of b.iflg k)
                  (λ t. absurd (never_both (bit_of b.armed k) a (p.iflg-new k l q.full t).1)) (λ t. t);
              unlocked = q.unlocked;
              named = q.named;
              synced = q.synced;
            };
      })

  -- ---- the bus

  -- exactly what arming asks is armed
  syncs-arming : (k : SyncKind) → ArmingSound (at w (synced k c w.heads))
  unfolding synced arms is_locked
  syncs-arming k =
      record {
        armed = λ n b a.
            let full = is_full_transmit c n in
            let free = not (is_locked c n) in
            let named = not (eqb (head_at w.heads n).ident 0) in
            let all : (full && free && named) ≡ true = sym (bit_mask (arms c w.heads) n b) ∙ a in
            let parts = and_parts (full && free) named all in
            let both = and_parts full free parts.0 in
            let kind = and_parts (is_transmit c n) (not (has_iflg c n)) both.0 in
            record {
              transmit = kind.0;
              full = not-true (has_iflg c n) kind.1;
              unlocked = not-true (is_locked c n) both.1;
              named = not-true (eqb (head_at w.heads n).ident 0) parts.1;
              synced = refl;
            };
      }

  faults-arming : (k : Fault) → ArmingSound (at w (faulted k c))
  unfolding faulted
  faults-arming Early = same-arming w s.arming c.mode c.config (raise_gisr c SYNEIF).events c.places refl
  faults-arming Lost = quiet (at w (faulted Lost c)) refl
  faults-arming Illegal = same-arming w s.arming c.mode c.config (raise_gisr c ILLPIF).events c.places refl
  faults-arming Mismatch = same-arming w s.arming c.mode c.config (raise_risr c SLMMIF).events c.places refl

  passes-arming : (i : ℕ) → ArmingSound (at w (raise_last c i))
  unfolding raise_last
  passes-arming i = same-arming w s.arming (raise_last c i).mode c.config c.events c.places refl

  -- the frame's buffer is a receive buffer
  stores-arming : (i l : ℕ) → lookup c w.heads i < 16 →
      ArmingSound (record { control = flagged (raise_last c i) (lookup c w.heads i); heads = put_head w (lookup c w.heads i) i (cut l); held = w.held })
  unfolding raise_last
  stores-arming i l b =
      let n = lookup c w.heads i in
      let kind = receive-kind c n (found-receive c w.heads i b) in
      let y : View = record { control = raise_last c i; heads = put_head w n i (cut l); held = w.held } in
      let q = head-arming (at w (raise_last c i)) (passes-arming i) n (record { ident = i; len = cut l }) (λ k a. kinds-apart c k n a.transmit kind) in
      flag-arming y q n (by-test (is_armed c n) (λ t. absurd (never_both (is_transmit c n) (s.arming.armed n b t).transmit kind)) (λ t. t))

  -- a frame that waited goes to a receive buffer
  delivers-arming : (k n : ℕ) → k < 2 → n < 16 → waits_for c.places k ≡ n →
      ArmingSound (record { control = stored_from c k n; heads = put_head w n (head_at w.held k).ident (head_at w.held k).len; held = w.held })
  delivers-arming k n b h e =
      let q = s.places.waiting k b (omega arith) in
      let l = q.lowest-named in
      let kind : is_transmit c n ≡ false =
      subst (λ (m : ℕ). is_transmit c m ≡ false) (l ∙ e) (receive-kind c _ (found-receive c w.heads (head_at w.held k).ident (omega arith))) in
      let y : View = record { control = c; heads = put_head w n (head_at w.held k).ident (head_at w.held k).len; held = w.held } in
      let a = head-arming w s.arming n (head_at w.held k) (λ m z. kinds-apart c m n z.transmit kind) in
      let f = flag-arming y a n (by-test (is_armed c n) (λ t. absurd (never_both (is_transmit c n) (s.arming.armed n h t).transmit kind)) (λ t. t)) in
      same-arming (at y (flagged c n)) f c.mode c.config c.events (freed c.places k) refl

  -- the next place is below FSIZ
  queues-arming : (i l : ℕ) → c.mode.init ≡ false → c.fifo.count < c.config.fsiz →
      ArmingSound (record { control = with_fifo (raise_last c i) (with_entry c); heads = put_head w c.fifo.next i (cut l); held = w.held })
  unfolding raise_last
  queues-arming i l out room =
      let p = c.fifo.next in
      let x : View = record { control = c; heads = put_head w p i (cut l); held = w.held } in
      let q = head-arming w s.arming p (record { ident = i; len = cut l }) (low-unarmed out p (s.fifo.next-lt (omega arith))) in
      locks-arming (at x (raise_last c i)) (same-arming x q (raise_last c i).mode c.config c.events c.places refl) c.receive c.transmit (with_entry c)
      (λ n b a k u. record { receive = u.receive; transmit = u.transmit; fifo = u.fifo })

  -- what is sent is disarmed
  sends-arming : (i n : ℕ) → n < 16 → ArmingSound (at w (with_mode (sent_from c n) (with_last c.mode i)))
  sends-arming i n b =
      let q = flag-arming (at w (disarm c n)) (disarm-arming w s.arming n) n (put_same c.buffers.armed n false b) in
      same-arming (at w (sent_from c n)) q (with_last c.mode i) c.config c.events c.places refl

  -- ---- every rule

  pub arming-kept : Kept ArmingSound w
  unfolding cancel timed_out raise_last
  arming-kept =
      let hs = w.heads in
      let a = s.arming in
      let p = c.transmit.holder in
      let r = c.receive.holder in
      record {
        rewrites = λ v. same-arming w a (written_mode c.mode v) c.config c.events c.places refl;
        leaves = λ i h. leaves-arming i;
        enters = enter-arming w a c;
        sleeps = λ i. same-arming w a (with_slprq c.mode true) c.config c.events c.places refl;
        cancels = same-arming w a (with_slprq c.mode false) c.config c.events c.places refl;
        wakes = λ i. wakes-arming c;
        resizes = λ f i h m. init-quiet (with_config c (with_fsiz c.config f)) hs i refl;
        configures = λ g e only. same-arming w a c.mode g c.events c.places refl;
        clears-risr = λ v. same-arming w a c.mode c.config (write_risr c.events v) c.places refl;
        clears-gisr = λ v. same-arming w a c.mode c.config (write_gisr c.mode.synced c.events v) c.places refl;
        sends-ident = λ v h. head-arming w a p (record { ident = v; len = (head_at hs p).len }) holder-unarmed;
        sends-length = λ l b h. head-arming w a p (record { ident = (head_at hs p).ident; len = l }) holder-unarmed;
        takes-ident = λ v i h. init-quiet c (put_head w r v (head_at hs r).len) i refl;
        takes-length = λ l b i h. init-quiet c (put_head w r (head_at hs r).ident l) i refl;
        prepares = λ n v h m. prepared-by (λ (x : Control). ArmingSound (at w x)) c n v (λ b q. prepared-arming n v b q);
        locks-transmit = λ n h u t. transmit-locked w a n;
        locks-receive = λ n h u t k o. receive-locked w a n t;
        locks-fifo = λ n h t o e. fifo-locked w a n t e;
        delivers = delivers-arming;
        unlocks = λ n h f g. unlock-arming w a n;
        syncs = λ k i. syncs-arming k;
        times-out = same-arming w a (with_alarm c.mode false) c.config c.events c.places refl;
        faults = λ k i. faults-arming k;
        raises = λ b only i. same-arming w a c.mode c.config (raise_gisr c b).events c.places refl;
        passes = λ i o. passes-arming i;
        overruns = λ i o. same-arming w a (raise_last c i).mode c.config (raise_gisr c OVRNIF).events c.places refl;
        holds = λ i l k o b u z f.
            held-arming _ (same-arming w a (raise_last c i).mode c.config c.events (occupied c.places k (lookup c hs i)) refl) _;
        stores = λ i l o y b u. stores-arming i l b;
        queues = λ i l o y z n room. queues-arming i l o room;
        sends = λ i n o e b. sends-arming i n b;
      }

pub arming-reset : ArmingSound reset_view
unfolding reset_control
arming-reset = quiet reset_view refl
