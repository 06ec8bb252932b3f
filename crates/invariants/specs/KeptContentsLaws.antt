-- Towards proofs/KeptContentsLaws.antt: what keeps the lengths and identifiers of received frames.
use Rattle.std.specs.Prelude.{◌≡◌, ℕ, zero, suc, ◌<◌, ◌≤◌, Bool, false, ◌&&◌, ◌||◌, not, set, replicate, eqb, leb}
use Rattle.std.proofs.Math.Path.{refl, sym}
use Rattle.std.proofs.Common.{ap, ◌∙◌, arith, ne_eqb, length-set}
use Rattle.std.proofs.Math.Bool.{true}
use Rattle.masks.specs.PickLaws.{by-test}
use Rattle.masks.specs.Bits.{bit_of, highest}
use Rattle.masks.specs.Laws.{bit_mask, put_other}
use Rattle.masks.specs.SearchLaws.{never_both}
use Rattle.contents.specs.Bytes.{Head, no_head, cut}
use Rattle.rules.specs.declared.SyncKind.{SyncKind}
use Rattle.rules.specs.declared.Fault.{Fault}
use Rattle.rules.specs.declared.Fault.TheVariants.{Early, Lost, Illegal, Mismatch}
use Rattle.rules.specs.declared.Buffers.{Buffers}
use Rattle.rules.specs.declared.Control.{Control}
use Rattle.rules.specs.Record.{with_mode, with_fifo, with_buffers, with_last}
use Rattle.rules.specs.Registers.{reset_control}
use Rattle.rules.specs.Kinds.{is_transmit, is_receive, has_iflg}
use Rattle.rules.specs.Modes.{leave, wake}
use Rattle.rules.specs.Bus.{synced, faulted, lookup, raise_last, with_entry, offers, sent_from}
use Rattle.rules.specs.Plan.{head_at}
use Rattle.controller.specs.View.{View}
use Rattle.invariants.specs.Sound.{is_entry, ContentsSound, Sound}
use Rattle.invariants.specs.KeptLaws.{at, put_head, flagged, reset_view}
use Rattle.invariants.specs.TestLaws.{or_cases}
use Rattle.invariants.specs.ViewLaws.{head-cases, lawful-low, receive-kind, receive-high, unfound, sent-armed}
use Rattle.invariants.specs.ControlWriteLaws.{Prepared, prepared-kind}
use Rattle.invariants.specs.EntryLaws.{entry-same, entry-none, entry-low, entry-queued, entry-kind}
use Rattle.invariants.specs.ContentsLaws.{marks, idle-contents, less-contents, same-contents, flag-contents, put-contents}

module _ (w : View) (s : Sound w) where
  abbrev c : Control
  c = w.control

  -- ---- by kind and mode

  -- in initialization there is no IFLG and no entry
  pub init-contents : (x : Control) → c.mode.init ≡ true → x.fifo ≡ c.fifo → x.buffers.iflg ≡ c.buffers.iflg → ContentsSound (at w x)
  init-contents x i q f =
      let idle = s.modes.idle i in
      idle-contents (at w x) (f ∙ idle.iflg) (q ∙ idle.fifo) s.contents.sixteen s.contents.length-le

  -- a transmit buffer holds no entry
  entry-sent : (m : ℕ) → is_entry c m ≡ true → is_transmit c m ≡ true → ⊥
  entry-sent m e t =
      by-test c.mode.init
      (λ i. entry-none c m (s.modes.idle i).fifo e)
      (λ i. never_both (is_transmit c m) t (lawful-low c m (s.modes.lawful i) s.fifo.size-le (entry-low c m e)))

  -- the head of a transmit buffer
  pub sent-head : (p : ℕ) (h : Head) → p < 16 → is_transmit c p ≡ true → h.len ≤ 15 → ContentsSound (record { control = c; heads = set w.heads p h; held = w.held })
  sent-head p h b kind l =
      put-contents w c p h s.contents b
      (record {
        len-le = l;
        received = λ r f. absurd (never_both (is_transmit c p) kind (receive-kind c p r));
        entry = λ e. absurd (entry-sent p e kind);
        kind = λ n r. r;
        received-other = λ n a ne r f. f;
        entry_other = λ m ne e. e;
        as-entry = λ e n a r ne. absurd (entry-sent p e kind);
        as-receive = λ r m e ne. absurd (never_both (is_transmit c p) kind (receive-kind c p r));
      })

  -- the head of a receive buffer, in initialization
  pub init-head : (p : ℕ) (h : Head) → p < 16 → c.mode.init ≡ true → h.len ≤ 15 → ContentsSound (record { control = c; heads = set w.heads p h; held = w.held })
  init-head p h b i l =
      let idle = s.modes.idle i in
      idle-contents (record { control = c; heads = set w.heads p h; held = w.held }) idle.iflg idle.fifo
      (length-set w.heads p h ∙ s.contents.sixteen)
      (λ n. head-cases w.heads p h s.contents.sixteen b (λ (x : Head). x.len ≤ 15) n (λ e. l) (λ ne. s.contents.length-le n))

  -- ---- $00

  -- leaving initialization sets IFLG of transmit buffers alone
  pub leaves-contents : ContentsSound (at w (leave c))
  unfolding leave
  leaves-contents =
      let x = leave c in
      less-contents w s.contents x
      (λ n b r f. (r, flagged-before n r (sym (bit_mask (λ k. is_transmit c k || has_iflg c k) n b) ∙ f)))
      (λ m e. sym (entry-same c m x refl refl refl) ∙ e) (λ m n e b r. r)
    where
      flagged-before : (n : ℕ) → is_receive c n ≡ true → (is_transmit c n || has_iflg c n) ≡ true → has_iflg c n ≡ true
      flagged-before n r f = or_cases (is_transmit c n) (has_iflg c n) f (λ t. absurd (never_both (is_transmit c n) t (receive-kind c n r))) (λ t. t)

  pub wakes-contents : (x : Control) → marks x ≡ marks c → ContentsSound (at w (wake x))
  unfolding wake
  wakes-contents x e = same-contents w s.contents (wake x) e

  -- ---- $50 to $5F

  -- CFG changes only in initialization, IFLG is new only on a transmit buffer
  pub prepared-contents : (n v : ℕ) (b : Buffers) → Prepared c n v b → ContentsSound (at w (with_buffers c b))
  prepared-contents n v b p =
      by-test c.mode.init
      (λ i. init-contents (with_buffers c b) i refl (p.init-iflg i))
      (λ i. less-contents w s.contents (with_buffers c b)
      (λ k l r f. (kept i k l r, by-test (has_iflg c k) (λ t. t) (λ t. absurd (never_both (bit_of b.cfg k) (p.iflg-new k l t f).0 (receive-kind (with_buffers c b) k r)))))
      (λ m e. sym (entry-same c m (with_buffers c b) refl refl refl) ∙ e) (λ m k e l r. kept i k l r))
    where
      kept : c.mode.init ≡ false → (k : ℕ) → k < 16 → is_receive (with_buffers c b) k ≡ true → is_receive c k ≡ true
      kept i k l r = ap (λ (t : Bool). not t && leb c.config.fsiz k) (sym (prepared-kind c n v b p i k l)) ∙ r

  -- ---- the bus

  pub syncs-contents : (k : SyncKind) → ContentsSound (at w (synced k c w.heads))
  unfolding synced
  syncs-contents k = same-contents w s.contents (synced k c w.heads) refl

  pub faults-contents : (k : Fault) → ContentsSound (at w (faulted k c))
  unfolding faulted
  faults-contents Early = same-contents w s.contents (faulted Early c) refl
  faults-contents Lost = same-contents w s.contents (faulted Lost c) refl
  faults-contents Illegal = same-contents w s.contents (faulted Illegal c) refl
  faults-contents Mismatch = same-contents w s.contents (faulted Mismatch c) refl

  pub passes-contents : (i : ℕ) → ContentsSound (at w (raise_last c i))
  unfolding raise_last
  passes-contents i = same-contents w s.contents (raise_last c i) refl

  -- a frame with the head h stored in a receive buffer p, which has its identifier already
  pub stored-contents : (p : ℕ) (h : Head) → p < 16 → is_receive c p ≡ true → (head_at w.heads p).ident ≡ h.ident → h.len ≤ 12 →
      ContentsSound (record { control = flagged c p; heads = set w.heads p h; held = w.held })
  stored-contents p h b kind named short =
      let x = flagged c p in
      let entry : (m : ℕ) → is_entry x m ≡ true → is_entry c m ≡ true = λ m e. sym (entry-same c m x refl refl refl) ∙ e in
      put-contents w x p h s.contents b
      (record {
        len-le = omega arith;
        received = λ r f. short;
        entry = λ e. short;
        kind = λ n r. r;
        received-other = λ n a ne r f. sym (put_other c.buffers.iflg p true n (ne_eqb n p ne) a) ∙ f;
        entry_other = λ m ne e. entry m e;
        as-entry = λ e n a r ne. absurd (entry-kind c p p (entry p e) kind refl);
        as-receive = λ r m e ne.
            ap (λ (x : ℕ). eqb x (head_at w.heads m).ident) (sym named) ∙ s.contents.entry-unmatched m p (entry m e) b kind;
      })

  -- the new entry stands in the next place, which is below FSIZ
  pub queues-contents : (i l : ℕ) → 16 ≤ lookup c w.heads i → c.fifo.count < c.config.fsiz →
      ContentsSound (record { control = with_fifo (raise_last c i) (with_entry c); heads = put_head w c.fifo.next i (cut l); held = w.held })
  unfolding raise_last
  queues-contents i l none room =
      let x = with_fifo (raise_last c i) (with_entry c) in
      let p = c.fifo.next in
      let size = s.fifo.size-le in
      let low = s.fifo.next-lt (omega arith) in
      put-contents w x p (record { ident = i; len = cut l }) s.contents (omega arith)
      (record {
        len-le = omega arith;
        received = λ r f. omega arith;
        entry = λ e. omega arith;
        kind = λ n r. r;
        received-other = λ n a ne r f. f;
        entry_other = λ m ne e. entry-queued c m s.fifo ne (entry-same x m (with_fifo c (with_entry c)) refl refl refl ∙ e);
        as-entry = λ e n a r ne. unfound c w.heads i none n a r;
        as-receive = λ r m e ne.
            absurd (let high = receive-high c p r in omega arith);
      })

  -- a buffer that is sent is armed, hence a transmit buffer
  pub sends-contents : (i n : ℕ) → n ≡ highest (offers c w.heads i) 16 → n < 16 → ContentsSound (at w (with_mode (sent_from c n) (with_last c.mode i)))
  sends-contents i n e b =
      let armed = sent-armed c w.heads i n e b in
      same-contents (at w (flagged c n)) (flag-contents w s.contents n (s.arming.armed n b armed).transmit)
      (with_mode (sent_from c n) (with_last c.mode i)) refl
  -- ---- every rule

-- blank heads have length 0
no_length : (k n : ℕ) → (head_at (replicate k no_head) n).len ≡ 0
no_length zero n = refl
no_length (suc k) zero = refl
no_length (suc k) (suc n) = no_length k n

pub contents-reset : ContentsSound reset_view
unfolding reset_control
contents-reset = idle-contents reset_view refl refl refl (λ n. omega (arith, no_length 16 n))
