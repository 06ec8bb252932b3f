-- What keeps lengths and identifiers of received frames as they must be: another control state, a write of LOCK, another
-- head.
use Rattle.std.specs.Prelude.{◌≡◌, ℕ, ◌<◌, ◌≤◌, true, false, ◌&&◌, not, List, set, length, leb}
use Rattle.std.proofs.Math.Path.{refl}
use Rattle.std.proofs.Common.{sym, ap, ◌∙◌, ne_eqb, length-set}
use Rattle.std.proofs.Math.Dec.{eqb}
use Rattle.masks.specs.PickLaws.{pick-keeps}
use Rattle.masks.specs.Bits.{bit_of}
use Rattle.masks.specs.Laws.{put_other}
use Rattle.masks.specs.SearchLaws.{never_both}
use Rattle.locks.specs.Pair.{release_lock}
use Rattle.contents.specs.Bytes.{Head}
use Rattle.rules.specs.declared.Fifo.{Fifo}
use Rattle.rules.specs.declared.Control.{Control}
use Rattle.rules.specs.Record.{with_fifo, with_receive, with_transmit}
use Rattle.rules.specs.Registers.{empty_fifo}
use Rattle.rules.specs.Kinds.{is_transmit, is_receive, has_iflg}
use Rattle.rules.specs.Modes.{enter}
use Rattle.rules.specs.Writes.{release_fifo, without_oldest, release_all}
use Rattle.rules.specs.Plan.{head_at}
use Rattle.controller.specs.View.{View}
use Rattle.invariants.specs.Sound.{is_entry, ContentsSound}
use Rattle.invariants.specs.KeptLaws.{at, flagged}
use Rattle.invariants.specs.BitLaws.{bit-absent}
use Rattle.invariants.specs.ViewLaws.{head-cases, receive-kind}
use Rattle.invariants.specs.EntryLaws.{entry-same, entry-none, entry-released, entry-kind}

-- with no IFLG and no entry only the heads' lengths are asked for
pub idle-contents : (x : View) → x.control.buffers.iflg ≡ 0 → x.control.fifo ≡ empty_fifo → length x.heads ≡ 16 →
    ((n : ℕ) → (head_at x.heads n).len ≤ 15) → ContentsSound x
idle-contents x f e l h =
    record {
      sixteen = l;
      length-le = h;
      received-le = λ n b r t. absurd (never_both (has_iflg x.control n) t (bit-absent x.control.buffers.iflg n f));
      entry-le = λ n t. absurd (entry-none x.control n e t);
      entry-unmatched = λ m n t b r. absurd (entry-none x.control m e t);
    }

-- ---- another control state

-- what of a control state decides which heads hold received frames
pub record Marks : Type 0 where
  pub fsiz : ℕ
  pub oldest : ℕ
  pub count : ℕ
  pub cfg : ℕ
  pub iflg : ℕ

abbrev pub marks : Control → Marks
marks c =
    record { fsiz = c.config.fsiz; oldest = c.fifo.oldest; count = c.fifo.count; cfg = c.buffers.cfg; iflg = c.buffers.iflg }

module _ (w : View) (s : ContentsSound w) where
  abbrev c : Control
  c = w.control

  -- no more received frames, and no more entries
  pub less-contents : (d : Control) →
      ((n : ℕ) → n < 16 → is_receive d n ≡ true → has_iflg d n ≡ true → (is_receive c n ≡ true) × (has_iflg c n ≡ true)) →
      ((m : ℕ) → is_entry d m ≡ true → is_entry c m ≡ true) →
      ((m n : ℕ) → is_entry d m ≡ true → n < 16 → is_receive d n ≡ true → is_receive c n ≡ true) →
      ContentsSound (at w d)
  less-contents d old entry kind =
      record {
        sixteen = s.sixteen;
        length-le = s.length-le;
        received-le = λ n b r f. let o = old n b r f in s.received-le n b o.0 o.1;
        entry-le = λ n e. s.entry-le n (entry n e);
        entry-unmatched = λ m n e b r. s.entry-unmatched m n (entry m e) b (kind m n e b r);
      }

  pub same-contents : (d : Control) → marks d ≡ marks c → ContentsSound (at w d)
  same-contents d e =
      less-contents d
      (λ n b r f. (receive n r, ap (λ (x : Marks). bit_of x.iflg n) (sym e) ∙ f))
      (λ m t. sym (entry-same c m d (ap (λ (x : Marks). x.fsiz) e) (ap (λ (x : Marks). x.oldest) e) (ap (λ (x : Marks). x.count) e)) ∙ t)
      (λ m n t b r. receive n r)
    where
      receive : (n : ℕ) → is_receive d n ≡ true → is_receive c n ≡ true
      receive n r = ap (λ (x : Marks). not (bit_of x.cfg n) && leb x.fsiz n) (sym e) ∙ r

  pub enter-contents : (d : Control) → ContentsSound (at w (enter d))
  unfolding enter
  enter-contents d = idle-contents (at w (enter d)) refl refl s.sixteen s.length-le

  -- IFLG of a transmit buffer
  pub flag-contents : (n : ℕ) → is_transmit c n ≡ true → ContentsSound (at w (flagged c n))
  flag-contents n kind =
      less-contents (flagged c n)
      (λ k b r f. let away = ne_eqb k n (λ e. never_both (is_transmit c k) (ap (is_transmit c) e ∙ kind) (receive-kind c k r)) in
      (r, sym (put_other c.buffers.iflg n true k away b) ∙ f))
      (λ m e. sym (entry-same c m (flagged c n) refl refl refl) ∙ e) (λ m k e b r. r)

  -- ---- LOCK

  -- other frames held
  pub held-contents : (ps : List Head) → ContentsSound (record { control = c; heads = w.heads; held = ps })
  held-contents ps =
      record {
        sixteen = s.sixteen;
        length-le = s.length-le;
        received-le = s.received-le;
        entry-le = s.entry-le;
        entry-unmatched = s.entry-unmatched;
      }

  pub unlock-contents : (n : ℕ) → (0 < c.config.fsiz → c.fifo.oldest < c.config.fsiz) → c.fifo.count ≤ c.config.fsiz → ContentsSound (at w (release_all c n))
  unfolding release_all release_fifo
  unlock-contents n first fits =
      let freed : Fifo → Control = λ f. with_fifo (with_transmit (with_receive c (release_lock c.receive n)) (release_lock c.transmit n)) f in
      pick-keeps (λ (f : Fifo). ContentsSound (at w (freed f))) (c.fifo.locked && eqb n c.fifo.oldest)
      (λ t. less-contents (freed (without_oldest c)) (λ k b r f. (r, f)) (λ m e.
      entry-released c m first fits (entry-same (freed (without_oldest c)) m (with_fifo c (without_oldest c)) refl refl refl ∙ e)) (λ m k e b r. r))
      (λ t. same-contents (freed c.fifo) refl)

-- ---- another head

-- a head h that fits place p of the view w with the control state d
pub record Fits (w : View) (d : Control) (p : ℕ) (h : Head) : Type 0 where
  pub len-le : h.len ≤ 15
  pub received : is_receive d p ≡ true → has_iflg d p ≡ true → h.len ≤ 12
  pub entry : is_entry d p ≡ true → h.len ≤ 12
  pub kind : (n : ℕ) → is_receive d n ≡ true → is_receive w.control n ≡ true
  -- elsewhere nothing is new
  pub received-other : (n : ℕ) → n < 16 → (n ≡ p → ⊥) → is_receive d n ≡ true → has_iflg d n ≡ true → has_iflg w.control n ≡ true
  pub entry_other : (m : ℕ) → (m ≡ p → ⊥) → is_entry d m ≡ true → is_entry w.control m ≡ true
  -- entries and receive buffers with different identifiers
  pub as-entry : is_entry d p ≡ true → (n : ℕ) → n < 16 → is_receive d n ≡ true → (n ≡ p → ⊥) → eqb (head_at w.heads n).ident h.ident ≡ false
  pub as-receive : is_receive d p ≡ true → (m : ℕ) → is_entry d m ≡ true → (m ≡ p → ⊥) → eqb h.ident (head_at w.heads m).ident ≡ false

pub put-contents : (w : View) (d : Control) (p : ℕ) (h : Head) → ContentsSound w → p < 16 → Fits w d p h → ContentsSound (record { control = d; heads = set w.heads p h; held = w.held })
put-contents w d p h s b q =
    record {
      sixteen = length-set w.heads p h ∙ s.sixteen;
      length-le = λ n. cases (λ (x : Head). x.len ≤ 15) n (λ e. q.len-le) (λ ne. s.length-le n);
      received-le = λ n l r f. cases (λ (x : Head). x.len ≤ 12) n
          (λ e. q.received (ap (is_receive d) (sym e) ∙ r) (ap (has_iflg d) (sym e) ∙ f))
          (λ ne. s.received-le n l (q.kind n r) (q.received-other n l ne r f));
      entry-le = λ m t. cases (λ (x : Head). x.len ≤ 12) m
          (λ e. q.entry (ap (is_entry d) (sym e) ∙ t)) (λ ne. s.entry-le m (q.entry_other m ne t));
      entry-unmatched = λ m n t l r.
          cases (λ (x : Head). eqb (head_at (set w.heads p h) n).ident x.ident ≡ false) m
          (λ e. cases (λ (x : Head). eqb x.ident h.ident ≡ false) n
          (λ f. absurd (entry-kind d m n t r (e ∙ sym f)))
          (λ ne. q.as-entry (ap (is_entry d) (sym e) ∙ t) n l r ne))
          (λ ne. cases (λ (x : Head). eqb x.ident (head_at w.heads m).ident ≡ false) n
          (λ f. q.as-receive (ap (is_receive d) (sym f) ∙ r) m t ne)
          (λ nf. s.entry-unmatched m n (q.entry_other m ne t) l (q.kind n r)));
    }
  where
    cases : (P : Head → Type 0) (k : ℕ) → (k ≡ p → P h) → ((k ≡ p → ⊥) → P (head_at w.heads k)) → P (head_at (set w.heads p h) k)
    cases = head-cases w.heads p h s.sixteen b
