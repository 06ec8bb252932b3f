-- Towards proofs/KeptPlaceLaws.antt: what keeps that a waiting frame is for a locked dedicated receive buffer, the lowest with its
-- identifier, and short.
use Rattle.std.specs.Prelude.{◌≡◌, Bool, ◌&&◌, ◌||◌, not, List, length}
use Rattle.std.proofs.Math.Path.{refl, sym, ap, subst}
use Rattle.std.proofs.Common.{◌∙◌, arith}
use Prim.Native.Nat.{ℕ, zero, suc, ◌<◌}
use Rattle.std.proofs.Math.Bool.{true, false, and-false}
use borrow.Author.Tests.{eqb-true, eqb-false, ltb-false, lt-leb}
use Rattle.std.proofs.Math.ListN.{set, length-set}
use Rattle.std.proofs.Math.Seq.{get_or-set_same}
use Rattle.std.proofs.Math.Dec.{eqb, leb}
use Rattle.std.proofs.lemmas.Bool.{and_parts, or_left, or_right}
use Rattle.masks.specs.PickLaws.{pick-keeps, by-test}
use Rattle.masks.specs.Bits.{bit_of}
use Rattle.masks.specs.SearchLaws.{never_both, lowest-ext}
use Rattle.locks.specs.declared.Locks.{Locks}
use Rattle.locks.specs.Pair.{has_holder, is_full, in_pair, take_lock, release_lock}
use Rattle.contents.specs.Bytes.{Head, no_head, cut}
use Rattle.rules.specs.declared.Places.{Places}
use Rattle.rules.specs.declared.Buffers.{Buffers}
use Rattle.rules.specs.declared.Control.{Control}
use Rattle.rules.specs.Record.{with_fifo, with_receive, with_places, with_buffers}
use Rattle.rules.specs.Registers.{reset_control, no_places}
use Rattle.rules.specs.Kinds.{is_transmit, is_receive, is_locked}
use Rattle.rules.specs.Waiting.{waits_for, freed, stored_from, occupied}
use Rattle.rules.specs.Writes.{release_all}
use Rattle.rules.specs.Bus.{receives, lookup, raise_last, with_entry}
use Rattle.rules.specs.Plan.{head_at}
use Rattle.controller.specs.View.{View}
use Rattle.invariants.specs.Sound.{Waits, PlacesSound, Sound}
use Rattle.invariants.specs.KeptLaws.{at, put, flagged, reset_view}
use Rattle.invariants.specs.TestLaws.{and-rest, or_cases}
use Rattle.invariants.specs.ViewLaws.{head-other, head-cases, receive-kind, receive-high, found-receive, found-ident}
use Rattle.invariants.specs.ControlWriteLaws.{Prepared, prepared-kind}

-- ---- locks

module _ (l : Locks) (n m : ℕ) (held : in_pair l m ≡ true) where
  -- a lock taken where there is no contender keeps the others
  take-holds : is_full l ≡ false → m < 16 → (l.contender < 16 → l.holder < 16) → in_pair (take_lock l n) m ≡ true
  unfolding in_pair take_lock is_full
  take-holds room small only =
      let h = eqb m l.holder in
      let d = eqb m l.contender in
      pick-keeps (λ (x : Locks). in_pair x m ≡ true) (has_holder l)
      (λ t. or_cases h d held (or_left h (eqb m n))
      (λ e. absurd (let q = ltb-false l.contender 16 (and-rest (has_holder l) _ room t) in let z = eqb-true m l.contender e in omega arith)))
      (λ t. let q = ltb-false l.holder 16 t in
      or_cases h d held (λ e. absurd (let z = eqb-true m l.holder e in omega arith)) (or_right (eqb m n) d))

  -- a release keeps the others
  release-holds : (m ≡ n → ⊥) → in_pair (release_lock l n) m ≡ true
  unfolding in_pair release_lock
  release-holds away =
      let h = eqb m l.holder in
      let d = eqb m l.contender in
      pick-keeps (λ (x : Locks). in_pair x m ≡ true) (eqb n l.holder)
      (λ t. or_cases h d held (λ e. absurd (away (eqb-true m l.holder e ∙ sym (eqb-true n l.holder t)))) (or_left d _))
      (λ t. pick-keeps (λ (x : Locks). in_pair x m ≡ true) (eqb n l.contender)
      (λ u. or_cases h d held (or_left h _) (λ e. absurd (away (eqb-true m l.contender e ∙ sym (eqb-true n l.contender u)))))
      (λ u. held))

-- ---- what isn't changed

-- what of a control state the waiting frames depend on
pub record Grounds : Type 0 where
  pub places : Places
  pub receive : Locks
  pub fsiz : ℕ
  pub cfg : ℕ

abbrev pub grounds : Control → Grounds
grounds c = record { places = c.places; receive = c.receive; fsiz = c.config.fsiz; cfg = c.buffers.cfg }

-- no frame waits
pub none-waits : (x : View) → x.control.places ≡ no_places → length x.held ≡ 2 → PlacesSound x
none-waits x e l =
    record {
      two = l;
      waiting = λ k b h. absurd (subst (λ (p : Places). waits_for p k < 16 → ⊥) (sym e) (free k) h);
    }
  where
    free : (k : ℕ) → waits_for no_places k < 16 → ⊥
    free zero h = omega arith
    free (suc k) h = omega arith

module _ (w : View) (s : PlacesSound w) where
  abbrev pub c : Control
  c = w.control

  -- the same receive buffers by identifier, and the locks of those that frames wait for
  still-waits : (d : Control) (hs ps : List Head) (n : ℕ) (h : Head) → ((i m : ℕ) → m < 16 → receives d hs i m ≡ receives c w.heads i m) →
      in_pair d.receive n ≡ true → Waits w n h → Waits (record { control = d; heads = hs; held = ps }) n h
  unfolding lookup
  still-waits d hs ps n h same lock q =
      record {
        locked = lock;
        lowest-named = lowest-ext (receives d hs h.ident) (receives c w.heads h.ident) 0 16 refl (same h.ident) ∙ q.lowest-named;
        short = q.short;
      }

  still-places : (d : Control) (hs : List Head) → d.places ≡ c.places → ((i m : ℕ) → m < 16 → receives d hs i m ≡ receives c w.heads i m) →
      ((k : ℕ) → k < 2 → waits_for c.places k < 16 → in_pair c.receive (waits_for c.places k) ≡ true → in_pair d.receive (waits_for c.places k) ≡ true) →
      PlacesSound (record { control = d; heads = hs; held = w.held })
  still-places d hs e same lock =
      record {
        two = s.two;
        waiting = λ k b.
            subst (λ (p : Places). waits_for p k < 16 → Waits (record { control = d; heads = hs; held = w.held }) (waits_for p k) (head_at w.held k)) (sym e)
            (λ h. let q = s.waiting k b h in still-waits d hs w.held _ _ same (lock k b h q.locked) q);
      }

  pub same-places : (d : Control) → grounds d ≡ grounds c → PlacesSound (at w d)
  unfolding receives
  same-places d e =
      still-places d w.heads (ap (λ (g : Grounds). g.places) e)
      (λ i m b. ap (λ (g : Grounds). (not (bit_of g.cfg m) && leb g.fsiz m) && eqb (head_at w.heads m).ident i) e)
      (λ k b h t. ap (λ (g : Grounds). in_pair g.receive (waits_for c.places k)) e ∙ t)

-- ---- another head

module _ (c : Control) (hs : List Head) (p : ℕ) (h : Head) where
  -- of a buffer that isn't a receive buffer
  other-kind : is_receive c p ≡ false → (i m : ℕ) → receives c (set hs p h) i m ≡ receives c hs i m
  unfolding receives
  other-kind kind i m =
      by-test (eqb m p)
      (λ t. let r : is_receive c m ≡ false = ap (is_receive c) (eqb-true m p t) ∙ kind in
      ap (λ (x : Bool). x && eqb (head_at (set hs p h) m).ident i) r ∙ sym (ap (λ (x : Bool). x && eqb (head_at hs m).ident i) r))
      (λ t. ap (λ (x : Head). is_receive c m && eqb x.ident i) (head-other hs p h m (eqb-false m p t)))

  -- with the same identifier
  same-ident : length hs ≡ 16 → p < 16 → (head_at hs p).ident ≡ h.ident → (i m : ℕ) → receives c (set hs p h) i m ≡ receives c hs i m
  unfolding receives
  same-ident l b e i m =
      head-cases hs p h l b (λ (x : Head). (is_receive c m && eqb x.ident i) ≡ (is_receive c m && eqb (head_at hs m).ident i)) m
      (λ t. ap (λ (x : ℕ). is_receive c m && eqb x i) (sym e ∙ ap (λ (j : ℕ). (head_at hs j).ident) (sym t))) (λ t. refl)

-- ---- the places

-- a place freed is free, and the other as it was
freed-same : (p : Places) (k j : ℕ) → waits_for (freed p k) j < 16 → waits_for (freed p k) j ≡ waits_for p j
freed-same p zero zero h = absurd (omega arith)
freed-same p zero (suc j) h = refl
freed-same p (suc k) zero h = refl
freed-same p (suc k) (suc j) h = absurd (omega arith)

-- a place taken is for n, and the other as it was
occupied-cases : (P : ℕ → Type 0) (p : Places) (k j n : ℕ) → k < 2 → j < 2 → (j ≡ k → P n) → ((j ≡ k → ⊥) → P (waits_for p j)) → P (waits_for (occupied p k n) j)
occupied-cases P p zero zero n a b f g = f refl
occupied-cases P p zero (suc j) n a b f g = g (λ e. omega arith)
occupied-cases P p (suc k) zero n a b f g = g (λ e. omega arith)
occupied-cases P p (suc k) (suc j) n a b f g = f (omega arith)

module _ (w : View) (s : Sound w) where
  abbrev d : Control
  d = w.control

  -- in initialization no frame waits
  pub init-places : (x : Control) (hs : List Head) → d.mode.init ≡ true → x.places ≡ d.places → PlacesSound (record { control = x; heads = hs; held = w.held })
  init-places x hs i e = none-waits (record { control = x; heads = hs; held = w.held }) (e ∙ (s.modes.idle i).places) s.places.two

  -- a locked receive buffer is holder or contender
  receive-lock : (n : ℕ) → n < 16 → is_receive d n ≡ true → is_locked d n ≡ true → in_pair d.receive n ≡ true
  unfolding is_locked in_pair
  receive-lock n b r t =
      let x = in_pair d.receive n in
      let y = in_pair d.transmit n in
      let sent : (m : ℕ) → eqb n m ≡ true → is_transmit d m ≡ true → ⊥ =
      λ m e t. never_both (is_transmit d n) (subst (λ (j : ℕ). is_transmit d j ≡ true) (sym (eqb-true n m e)) t) (receive-kind d n r) in
      or_cases (x || y) (d.fifo.locked && eqb n d.fifo.oldest) t
      (λ u. or_cases x y u (λ q. q) (λ q.
      or_cases (eqb n d.transmit.holder) (eqb n d.transmit.contender) q
      (λ e. absurd (sent d.transmit.holder e (let z = eqb-true n d.transmit.holder e in s.locks.transmit.holder-kind (omega arith))))
      (λ e. absurd (sent d.transmit.contender e (let z = eqb-true n d.transmit.contender e in s.locks.transmit.contender-kind (omega arith))))))
      (λ u. absurd (
      let entry = s.fifo.lock-entry (and_parts d.fifo.locked (eqb n d.fifo.oldest) u).0 in
      let some = s.fifo.count-le in
      let low = s.fifo.oldest-lt (omega arith) in
      let z = eqb-true n d.fifo.oldest (and_parts d.fifo.locked (eqb n d.fifo.oldest) u).1 in
      let high = receive-high d n r in
      omega arith))

  -- the transmit window's holder is no receive buffer, nor is a place of the FIFO
  sends-kind : d.transmit.holder < 16 → is_receive d d.transmit.holder ≡ false
  sends-kind h = ap (λ (t : Bool). not t && leb d.config.fsiz d.transmit.holder) (s.locks.transmit.holder-kind h)

  queue-kind : d.fifo.count < d.config.fsiz → is_receive d d.fifo.next ≡ false
  queue-kind room =
      ap (λ (t : Bool). not (is_transmit d d.fifo.next) && t) (lt-leb d.config.fsiz d.fifo.next (s.fifo.next-lt (omega arith)))
      ∙ and-false (not (is_transmit d d.fifo.next))

  -- ---- $50 to $5F

  pub prepared-places : (n v : ℕ) (b : Buffers) → Prepared d n v b → PlacesSound (at w (with_buffers d b))
  unfolding receives
  prepared-places n v b p =
      by-test d.mode.init (λ i. init-places (with_buffers d b) w.heads i refl)
      (λ i. still-places w s.places (with_buffers d b) w.heads refl
      (λ j m l. ap (λ (t : Bool). (not t && leb d.config.fsiz m) && eqb (head_at w.heads m).ident j) (prepared-kind d n v b p i m l))
      (λ k l h t. t))

  pub locks-places : (n : ℕ) → is_full d.receive ≡ false → PlacesSound (at w (with_receive d (take_lock d.receive n)))
  unfolding receives
  locks-places n room =
      still-places w s.places (with_receive d (take_lock d.receive n)) w.heads refl (λ i m b. refl)
      (λ k b h t. take-holds d.receive n (waits_for d.places k) t room h s.locks.receive.contender-held)

  pub unlocks-places : (n : ℕ) → (d.places.first ≡ n → ⊥) → (d.places.second ≡ n → ⊥) → PlacesSound (at w (release_all d n))
  unfolding receives release_all
  unlocks-places n f g =
      still-places w s.places (release_all d n) w.heads refl (λ i m b. refl)
      (λ k b h t. release-holds d.receive n (waits_for d.places k) t (away k))
    where
      away : (k : ℕ) → waits_for d.places k ≡ n → ⊥
      away zero = f
      away (suc k) = g

  stored_same : (k n : ℕ) (g : Head) → n < 16 → (head_at w.heads n).ident ≡ g.ident → (i m : ℕ) → m < 16 →
      receives (stored_from d k n) (set w.heads n g) i m ≡ receives d w.heads i m
  unfolding receives
  stored_same k n g h e i m l = same-ident d w.heads n g s.contents.sixteen h e i m

  pub delivers-places : (k n : ℕ) → k < 2 → n < 16 → waits_for d.places k ≡ n →
      PlacesSound (put w (stored_from d k n) n (head_at w.held k).ident (head_at w.held k).len)
  delivers-places k n b h e =
      let i = (head_at w.held k).ident in
      let x = put w (stored_from d k n) n i (head_at w.held k).len in
      let q = s.places.waiting k b (omega arith) in
      let l = q.lowest-named in
      let f : lookup d w.heads i < 16 = omega arith in
      let named : (head_at w.heads n).ident ≡ i = subst (λ (m : ℕ). (head_at w.heads m).ident ≡ i) (l ∙ e) (found-ident d w.heads i f) in
      record {
        two = s.places.two;
        waiting = λ j a t.
            let z = freed-same d.places k j t in
            subst (λ (m : ℕ). Waits x m (head_at w.held j)) (sym z)
            (let o = s.places.waiting j a (omega arith) in
            still-waits w s.places (stored_from d k n) (set w.heads n (head_at w.held k)) w.held _ _ (stored_same k n (head_at w.held k) h named) o.locked o);
      }

  -- ---- the bus

  held_same : (i k j m : ℕ) → m < 16 →
      receives (with_places (raise_last d i) (occupied d.places k (lookup d w.heads i))) w.heads j m ≡ receives d w.heads j m
  unfolding receives raise_last
  held_same i k j m h = refl

  held-lookup : (i k : ℕ) → lookup (with_places (raise_last d i) (occupied d.places k (lookup d w.heads i))) w.heads i ≡ lookup d w.heads i
  unfolding lookup
  held-lookup i k = lowest-ext _ _ 0 16 refl (held_same i k i)

  pub holds-places : (i l k : ℕ) → lookup d w.heads i < 16 → is_locked d (lookup d w.heads i) ≡ true → k < 2 →
      PlacesSound (record {
        control = with_places (raise_last d i) (occupied d.places k (lookup d w.heads i));
        heads = w.heads;
        held = set w.held k (record { ident = i; len = cut l });
      })
  unfolding raise_last
  holds-places i l k b t a =
      let n = lookup d w.heads i in
      let g : Head = record { ident = i; len = cut l } in
      let x : View = record { control = with_places (raise_last d i) (occupied d.places k n); heads = w.heads; held = set w.held k g } in
      record {
        two = length-set w.held k g ∙ s.places.two;
        waiting = λ j u.
            occupied-cases (λ (m : ℕ). m < 16 → Waits x m (head_at (set w.held k g) j)) d.places k j n a u
            (λ e h. subst (λ (y : Head). Waits x n y) (sym (ap (head_at (set w.held k g)) e ∙ get_or-set_same w.held k g no_head (let z = s.places.two in omega arith)))
            (record {
              locked = receive-lock n b (found-receive d w.heads i b) t;
              lowest-named = held-lookup i k;
              short = omega arith;
            }))
            (λ e h. subst (λ (y : Head). Waits x (waits_for d.places j) y) (sym (head-other w.held k g j e))
            (let o = s.places.waiting j u h in still-waits w s.places _ w.heads _ _ _ (held_same i k) o.locked o));
      }

  pub stores-places : (i l : ℕ) → lookup d w.heads i < 16 →
      PlacesSound (put w (flagged (raise_last d i) (lookup d w.heads i)) (lookup d w.heads i) i (cut l))
  unfolding receives raise_last
  stores-places i l b =
      let n = lookup d w.heads i in
      still-places w s.places (flagged (raise_last d i) n) (set w.heads n (record { ident = i; len = cut l })) refl
      (λ j m h. same-ident d w.heads n (record { ident = i; len = cut l }) s.contents.sixteen b (found-ident d w.heads i b) j m)
      (λ k a h t. t)

  pub queues-places : (i l : ℕ) → d.fifo.count < d.config.fsiz →
      PlacesSound (put w (with_fifo (raise_last d i) (with_entry d)) d.fifo.next i (cut l))
  unfolding receives raise_last
  queues-places i l room =
      still-places w s.places (with_fifo (raise_last d i) (with_entry d)) (set w.heads d.fifo.next (record { ident = i; len = cut l })) refl
      (λ j m h. other-kind d w.heads d.fifo.next (record { ident = i; len = cut l }) (queue-kind room) j m)
      (λ k a h t. t)

  -- a head of the transmit window's holder
  pub sends-places : (h : Head) → d.transmit.holder < 16 → PlacesSound (record { control = d; heads = set w.heads d.transmit.holder h; held = w.held })
  sends-places h b =
      still-places w s.places d (set w.heads d.transmit.holder h) refl
      (λ j m l. other-kind d w.heads d.transmit.holder h (sends-kind b) j m) (λ k a t q. q)
  -- ---- every rule

pub places-reset : PlacesSound reset_view
unfolding reset_control
places-reset = none-waits reset_view refl refl
