-- Every rule keeps the lengths and identifiers of received frames: at most 12, and none in the FIFO with an identifier of a
-- receive buffer.
use Rattle.std.specs.Prelude.{◌≡◌, ℕ, ◌<◌}
use Rattle.std.proofs.Math.Path.{refl}
use Rattle.std.proofs.Common.{ap, ◌∙◌, subst, arith}
use Rattle.std.proofs.Math.Bool.{true}
use Rattle.contents.specs.Bytes.{cut}
use Rattle.rules.specs.declared.Control.{Control}
use Rattle.rules.specs.Record.{with_mode, with_config, with_events, with_fifo, with_receive, with_transmit, with_places, with_fsiz, with_slprq}
use Rattle.rules.specs.Registers.{OVRNIF}
use Rattle.rules.specs.Kinds.{is_receive}
use Rattle.rules.specs.Waiting.{waits_for, stored_from, occupied}
use Rattle.rules.specs.Flags.{write_risr, write_gisr}
use Rattle.rules.specs.Modes.{cancel}
use Rattle.rules.specs.Writes.{disarm, lock_fifo}
use Rattle.locks.specs.Pair.{take_lock}
use Rattle.rules.specs.Bus.{raise_gisr, timed_out, lookup, raise_last}
use Rattle.rules.specs.Plan.{head_at}
use Rattle.controller.specs.View.{View}
use Rattle.invariants.specs.Sound.{ContentsSound, Sound}
use Rattle.invariants.specs.KeptLaws.{at, put, rewritten, flagged, Kept}
use Rattle.invariants.specs.ViewLaws.{found-receive, found-ident}
use Rattle.invariants.specs.ControlWriteLaws.{prepared-by}
use Rattle.invariants.specs.ContentsLaws.{marks, same-contents, enter-contents, held-contents, unlock-contents}
use Rattle.invariants.specs.KeptContentsLaws.{init-contents, sent-head, init-head, leaves-contents, wakes-contents, prepared-contents, syncs-contents, faults-contents, passes-contents, stored-contents, queues-contents, sends-contents}

module _ (w : View) (s : Sound w) where
  abbrev c : Control
  c = w.control

  -- ---- the bus

  stores-contents : (i l : ℕ) → lookup c w.heads i < 16 →
      ContentsSound (put w (flagged (raise_last c i) (lookup c w.heads i)) (lookup c w.heads i) i (cut l))
  unfolding raise_last
  stores-contents i l b =
      let p = lookup c w.heads i in
      same-contents (put w (flagged c p) p i (cut l))
      (stored-contents w s p (record { ident = i; len = cut l }) b (found-receive c w.heads i b) (found-ident c w.heads i b) (omega arith))
      (flagged (raise_last c i) p) refl

  -- a frame that waited
  delivers-contents : (k n : ℕ) → k < 2 → n < 16 → waits_for c.places k ≡ n →
      ContentsSound (put w (stored_from c k n) n (head_at w.held k).ident (head_at w.held k).len)
  delivers-contents k n b h e =
      let i = (head_at w.held k).ident in
      let q = s.places.waiting k b (omega arith) in
      let l = q.lowest-named in
      let f : lookup c w.heads i < 16 = omega arith in
      let kind : is_receive c n ≡ true = subst (λ (m : ℕ). is_receive c m ≡ true) (l ∙ e) (found-receive c w.heads i f) in
      let named : (head_at w.heads n).ident ≡ i = subst (λ (m : ℕ). (head_at w.heads m).ident ≡ i) (l ∙ e) (found-ident c w.heads i f) in
      same-contents (put w (flagged c n) n i (head_at w.held k).len)
      (stored-contents w s n (head_at w.held k) h kind named q.short) (stored_from c k n) refl

  -- ---- every rule

  pub contents-kept : Kept ContentsSound w
  unfolding cancel timed_out raise_last
  contents-kept =
      let hs = w.heads in
      let p = c.transmit.holder in
      let r = c.receive.holder in
      let same : (d : Control) → marks d ≡ marks c → ContentsSound (at w d) = same-contents w s.contents in
      record {
        rewrites = λ v. same (rewritten c v) refl;
        leaves = λ i h. leaves-contents w s;
        enters = enter-contents w s.contents c;
        sleeps = λ i. same (with_mode c (with_slprq c.mode true)) refl;
        cancels = same (cancel c) refl;
        wakes = λ i. wakes-contents w s c refl;
        resizes = λ f i h m. init-contents w s (with_config c (with_fsiz c.config f)) i refl refl;
        configures = λ g e only. same (with_config c g) (ap (λ (f : ℕ). marks (with_config c (with_fsiz c.config f))) e);
        clears-risr = λ v. same (with_events c (write_risr c.events v)) refl;
        clears-gisr = λ v. same (with_events c (write_gisr c.mode.synced c.events v)) refl;
        sends-ident = λ v h. sent-head w s p (record { ident = v; len = (head_at hs p).len }) h (s.locks.transmit.holder-kind h) (s.contents.length-le p);
        sends-length = λ l b h. sent-head w s p (record { ident = (head_at hs p).ident; len = l }) h (s.locks.transmit.holder-kind h) b;
        takes-ident = λ v i h. init-head w s r (record { ident = v; len = (head_at hs r).len }) h i (s.contents.length-le r);
        takes-length = λ l b i h. init-head w s r (record { ident = (head_at hs r).ident; len = l }) h i b;
        prepares = λ n v h m. prepared-by (λ (x : Control). ContentsSound (at w x)) c n v (λ b q. prepared-contents w s n v b q);
        locks-transmit = λ n h u t. same (with_transmit (disarm c n) (take_lock c.transmit n)) refl;
        locks-receive = λ n h u t k o. same (with_receive c (take_lock c.receive n)) refl;
        locks-fifo = λ n h t o e. same (with_fifo c (lock_fifo c.fifo)) refl;
        delivers = delivers-contents;
        unlocks = λ n h f g. unlock-contents w s.contents n s.fifo.oldest-lt s.fifo.count-le;
        syncs = λ k i. syncs-contents w s k;
        times-out = same (timed_out c) refl;
        faults = λ k i. faults-contents w s k;
        raises = λ b only i. same (raise_gisr c b) refl;
        passes = λ i o. passes-contents w s i;
        overruns = λ i o. same (raise_gisr (raise_last c i) OVRNIF) refl;
        holds = λ i l k o b u z f. held-contents _ (same (with_places (raise_last c i) (occupied c.places k (lookup c hs i))) refl) _;
        stores = λ i l o y b u. stores-contents i l b;
        queues = λ i l o y z n room. queues-contents w s i l n room;
        sends = λ i n o e b. sends-contents w s i n e b;
      }
