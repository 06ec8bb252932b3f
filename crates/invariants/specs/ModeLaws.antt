-- Laws on the facts of the modes: a remembered clear of SYNLIF, what a rule has to leave alone, and the event flags. Most
-- rules change little of what these facts read, so they are kept by one of these laws each.
use Rattle.std.specs.Prelude.{◌≡◌, refl, ℕ, ◌-◌, ◌<◌, Bool, true, false, ◌&&◌, ◌||◌, not, leb}
use Rattle.std.proofs.Common.{sym, ap, ap₂, ◌∙◌, subst, arith}
use Rattle.std.proofs.Math.Bool.{and-true, and-false}
use Rattle.std.proofs.lemmas.Bool.{not-true, and_parts}
use Rattle.std.specs.Int.Bits.{bit_and, bit_or, and_zero_l}
use Rattle.std.proofs.lemmas.Nat.{and_le_r}
use Rattle.masks.specs.PickLaws.{pick-keeps}
use Rattle.masks.specs.Bits.{bit_of, rising, count_of}
use Rattle.masks.specs.Laws.{bit-and, bit-or, bit_not}
use Rattle.masks.specs.SearchLaws.{count-ext}
use Rattle.masks.specs.LayoutLaws.{rising-ext}
use Rattle.rules.specs.declared.Events.{Events}
use Rattle.rules.specs.declared.Fifo.{Fifo}
use Rattle.rules.specs.declared.Places.{Places}
use Rattle.rules.specs.declared.Control.{Control}
use Rattle.rules.specs.Record.{with_events}
use Rattle.rules.specs.Registers.{has, empty_fifo, no_places, SYNLIF}
use Rattle.rules.specs.Kinds.{is_transmit, is_lawful}
use Rattle.rules.specs.Flags.{cleared, risr_events, gisr_events, write_risr, defers_clear, write_gisr}
use Rattle.rules.specs.Modes.{enter}
use Rattle.controller.specs.View.{View}
use Rattle.invariants.specs.Sound.{ModeSound, Idle}
use Rattle.invariants.specs.KeptLaws.{at}
use Rattle.invariants.specs.TestLaws.{impossible}

-- ---- SYNLIF, bit 3 of the flags g

raise-keeps : (g b : ℕ) → has g SYNLIF ≡ true → has (bit_or g b) SYNLIF ≡ true
unfolding bit_of
raise-keeps g b h = bit-or g b 3 ∙ ap (λ (t : Bool). t || bit_of b 3) h

-- a clear of the flags m, SYNLIF not among them
clear-keeps : (g m : ℕ) → m < 256 → has m SYNLIF ≡ false → has g SYNLIF ≡ true → has (cleared g m) SYNLIF ≡ true
unfolding bit_of
clear-keeps g m l z h = bit-and g (255 - m) 3 ∙ ap₂ ◌&&◌ h (bit_not 8 m 3 l (omega arith) ∙ ap not z)

-- a written value v, cut to the flags e that may be cleared
written-without : (g v e : ℕ) → e < 256 → (has v SYNLIF && has e SYNLIF) ≡ false → has g SYNLIF ≡ true →
    has (cleared g (bit_and v e)) SYNLIF ≡ true
unfolding bit_of
written-without g v e l z h = clear-keeps g (bit_and v e) (omega (arith, and_le_r v e)) (bit-and v e 3 ∙ z) h

-- ---- a remembered clear: only of a standing SYNLIF in the flags g, unsynchronized

pub record Remembered (synced : Bool) (g : ℕ) (clearing : Bool) : Type 0 where
  pub stands : clearing ≡ true → has g SYNLIF ≡ true
  pub unsynced : clearing ≡ true → synced ≡ false

abbrev pub RememberedIn : Bool → Events → Type 0
RememberedIn synced f = Remembered synced f.gisr f.clearing

pub remembered : {w : View} → ModeSound w → RememberedIn w.control.mode.synced w.control.events
remembered m = record { stands = m.clear-stands; unsynced = m.clear-unsynced }

-- none
pub forgotten : {synced : Bool} {g : ℕ} {clearing : Bool} → clearing ≡ false → Remembered synced g clearing
forgotten z = record { stands = λ t. impossible (sym z ∙ t); unsynced = λ t. impossible (sym z ∙ t) }

-- with synchronization lost
pub desynced : {synced : Bool} {g : ℕ} {clearing : Bool} → Remembered synced g clearing → Remembered false g clearing
desynced r = record { stands = r.stands; unsynced = λ t. refl }

-- with more flags
pub raised : {synced : Bool} {g : ℕ} {clearing : Bool} (b : ℕ) → Remembered synced g clearing → Remembered synced (bit_or g b) clearing
raised {synced} {g} b r = record { stands = λ t. raise-keeps g b (r.stands t); unsynced = r.unsynced }

-- a written clear of a standing SYNLIF is deferred, so one that is remembered stands on
pub gisr-written : (synced : Bool) (f : Events) (v : ℕ) → RememberedIn synced f → RememberedIn synced (write_gisr synced f v)
unfolding write_gisr defers_clear
gisr-written synced f v r =
    pick-keeps (RememberedIn synced) (has v SYNLIF && has f.gisr SYNLIF && not synced)
    (λ p. let g = (and_parts (has v SYNLIF) (has f.gisr SYNLIF) (and_parts (has v SYNLIF && has f.gisr SYNLIF) (not synced) p).0).1 in
    record {
      stands = λ t. written-without f.gisr v (gisr_events - SYNLIF) (omega arith) (and-false (has v SYNLIF)) g;
      unsynced = λ t. not-true synced (and_parts (has v SYNLIF && has f.gisr SYNLIF) (not synced) p).1;
    })
    (λ p. record {
      stands = λ t.
          let g = r.stands t in
          let u = r.unsynced t in
          let z : has v SYNLIF ≡ false = simp (g, u, and-true) at p in
          written-without f.gisr v gisr_events (omega arith) (ap (λ (x : Bool). x && true) z) g;
      unsynced = r.unsynced;
    })

-- ---- what the modes' facts read in every mode

pub record Steady : Type 0 where
  pub init : Bool
  pub slprq : Bool
  pub synced : Bool
  pub events : Events

abbrev pub steady : Control → Steady
steady c =
    record {
      init = c.mode.init;
      slprq = c.mode.slprq;
      synced = c.mode.synced;
      events = c.events;
    }

-- and what they read in initialization besides
pub record Resting (iflg abtak armed : ℕ) (q : Fifo) (p : Places) : Type 0 where
  pub iflg-none : iflg ≡ 0
  pub abtak-none : abtak ≡ 0
  pub armed-none : armed ≡ 0
  pub fifo-empty : q ≡ empty_fifo
  pub places-free : p ≡ no_places

abbrev pub RestingAt : Control → Type 0
RestingAt c = Resting c.buffers.iflg c.buffers.abtak c.buffers.armed c.fifo c.places

pub resting : {c : Control} → Idle c → RestingAt c
resting q = record { iflg-none = q.iflg; abtak-none = q.abtak; armed-none = q.armed; fifo-empty = q.fifo; places-free = q.places }

-- a rule that leaves the first alone, in initialization the second too, and outside it a lawful layout
pub modes-by : (w : View) {u : View} → steady u.control ≡ steady w.control →
    (w.control.mode.init ≡ true → RestingAt u.control) →
    (w.control.mode.init ≡ false → is_lawful u.control ≡ true) → ModeSound w → ModeSound u
modes-by w {u} e r l m =
    let before : u.control.mode.init ≡ w.control.mode.init = ap (λ (x : Steady). x.init) e in
    record {
      idle = λ i.
          let q = m.idle (sym before ∙ i) in
          let rest = r (sym before ∙ i) in
          record {
            risr = ap (λ (x : Steady). x.events.risr) e ∙ q.risr;
            gisr = ap (λ (x : Steady). x.events.gisr) e ∙ q.gisr;
            clearing = ap (λ (x : Steady). x.events.clearing) e ∙ q.clearing;
            iflg = rest.iflg-none;
            abtak = rest.abtak-none;
            armed = rest.armed-none;
            slprq = ap (λ (x : Steady). x.slprq) e ∙ q.slprq;
            synced = ap (λ (x : Steady). x.synced) e ∙ q.synced;
            fifo = rest.fifo-empty;
            places = rest.places-free;
          };
      lawful = λ i. l (sym before ∙ i);
      clear-stands = subst (λ (x : Steady). x.events.clearing ≡ true → has x.events.gisr SYNLIF ≡ true) (sym e) m.clear-stands;
      clear-unsynced = subst (λ (x : Steady). x.events.clearing ≡ true → x.synced ≡ false) (sym e) m.clear-unsynced;
    }

-- outside initialization nothing need be idle
pub awake : {u : View} → u.control.mode.init ≡ false → is_lawful u.control ≡ true →
    RememberedIn u.control.mode.synced u.control.events → ModeSound u
awake i l r =
    record { idle = λ j. impossible (sym i ∙ j); lawful = λ j. l; clear-stands = r.stands; clear-unsynced = r.unsynced }

-- entering initialization makes all idle
pub entered : (w : View) (c : Control) → ModeSound (at w (enter c))
unfolding enter
entered w c =
    record {
      idle = λ i.
          record {
            risr = refl;
            gisr = refl;
            clearing = refl;
            iflg = refl;
            abtak = refl;
            armed = refl;
            slprq = refl;
            synced = refl;
            fifo = refl;
            places = refl;
          };
      lawful = λ i. impossible (sym i);
      clear-stands = impossible;
      clear-unsynced = impossible;
    }

-- ---- the layout

-- a lawful layout is one of FSIZ and the sixteen kinds
pub lawful-same : (c d : Control) → d.config.fsiz ≡ c.config.fsiz → ((k : ℕ) → k < 16 → is_transmit d k ≡ is_transmit c k) →
    is_lawful d ≡ is_lawful c
unfolding is_lawful
lawful-same c d f e =
    ap₂ (λ (t : Bool) (x : ℕ). t && leb d.config.fsiz x) (rising-ext (is_transmit d) (is_transmit c) 15 (omega arith) e)
    (count-ext (λ n. not (is_transmit d n)) (λ n. not (is_transmit c n)) 16 (omega arith) (λ n h. ap not (e n h)))
    ∙ ap (λ (x : ℕ). rising (is_transmit c) 15 && leb x (count_of (λ n. not (is_transmit c n)) 16)) f

-- ---- the event flags alone

-- no flag and no remembered clear
pub record Silent (f : Events) : Type 0 where
  pub risr-none : f.risr ≡ 0
  pub gisr-none : f.gisr ≡ 0
  pub clear_none : f.clearing ≡ false

pub silent : {c : Control} → Idle c → Silent c.events
silent q = record { risr-none = q.risr; gisr-none = q.gisr; clear_none = q.clearing }

pub risr-silent : (f : Events) (v : ℕ) → Silent f → Silent (write_risr f v)
unfolding write_risr
risr-silent f v q =
    record {
      risr-none = rw q.risr-none (and_zero_l (255 - bit_and v risr_events));
      gisr-none = q.gisr-none;
      clear_none = q.clear_none;
    }

pub gisr-silent : (synced : Bool) (f : Events) (v : ℕ) → Silent f → Silent (write_gisr synced f v)
unfolding write_gisr defers_clear
gisr-silent synced f v q =
    pick-keeps Silent (has v SYNLIF && has f.gisr SYNLIF && not synced)
    (λ p. let g = (and_parts (has v SYNLIF) (has f.gisr SYNLIF) (and_parts (has v SYNLIF && has f.gisr SYNLIF) (not synced) p).0).1 in
    impossible (ap (λ (x : ℕ). has x SYNLIF) (sym q.gisr-none) ∙ g))
    (λ p. record {
      risr-none = q.risr-none;
      gisr-none = rw q.gisr-none (and_zero_l (255 - bit_and v gisr_events));
      clear_none = q.clear_none;
    })

-- a rule that changes the event flags alone
pub events-modes : (w : View) (f : Events) → (w.control.mode.init ≡ true → Silent f) → RememberedIn w.control.mode.synced f →
    ModeSound w → ModeSound (at w (with_events w.control f))
unfolding is_lawful
events-modes w f z r m =
    record {
      idle = λ i.
          let q = m.idle i in
          record {
            risr = (z i).risr-none;
            gisr = (z i).gisr-none;
            clearing = (z i).clear_none;
            iflg = q.iflg;
            abtak = q.abtak;
            armed = q.armed;
            slprq = q.slprq;
            synced = q.synced;
            fifo = q.fifo;
            places = q.places;
          };
      lawful = m.lawful;
      clear-stands = r.stands;
      clear-unsynced = r.unsynced;
    }
