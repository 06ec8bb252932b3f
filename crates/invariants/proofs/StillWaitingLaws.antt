-- A step that neither enters initialization, releases buffer n nor brings another frame for it leaves the newest frame for n in its
-- place: another frame takes a free place, and a release of another buffer frees other places. And a frame answered "waiting" for n is
-- then the newest.
use Rattle.std.specs.Prelude.{◌≡◌, ℕ, ◌+◌, ◌<◌, Bool, ◌&&◌, ◌||◌, get_or, ltb}
use Rattle.std.proofs.Math.Path.{refl, sym, subst}
use Rattle.std.proofs.Common.{◌∙◌, get_or-set_other}
use Rattle.std.proofs.Math.Bool.{true, false, not, false≢true}
use mathlib.Core.List.{List, [], ◌∷◌}
use native.Mathlib.Omega.{arith}
use borrow.Author.Tests.{eq-eqb, ne_eqb, eqb-true, ltb-true, leb-true}
use Rattle.std.proofs.Math.Dec.{eqb}
use Rattle.std.proofs.lemmas.Bool.{or_left, or_right}
use Rattle.masks.specs.Pick.{pick}
use Rattle.masks.specs.PickLaws.{pick-false, pick-keeps, by-test}
use Rattle.contents.specs.declared.Contents.{Contents}
use Rattle.contents.specs.Bytes.{Head, no_contents}
use Rattle.rules.specs.declared.Fault.TheVariants.{Early, Lost, Illegal, Mismatch}
use Rattle.rules.specs.declared.Places.{Places}
use Rattle.rules.specs.declared.Control.{Control}
use Rattle.rules.specs.Registers.{has, register_at, reset_control, LOCK}
use Rattle.rules.specs.Kinds.{is_locked}
use Rattle.rules.specs.Waiting.{is_free, asleep, occupied}
use Rattle.rules.specs.Modes.{wake, cancel}
use Rattle.rules.specs.Bus.{woken, synced, due_sync, timed_out, faulted, lookup, to_place, to_buffer, raise_last, found, judged, received, send_from, slot_for, slotted}
use Rattle.rules.specs.Refusals.{write_refusal, refusal}
use Rattle.rules.specs.Steps.{Step, reset, read, write, sync, sync_due, slot, frame, fault, timeout}
use Rattle.rules.specs.Plan.{Move, hold, Plan}
use Rattle.rules.specs.Rules.{on_bus, act, decide}
use Rattle.controller.specs.Carry.{row_at, hold_all}
use Rattle.invariants.specs.TestLaws.{impossible, and-rest, or_cases}
use Rattle.invariants.specs.AcceptedLaws.{write-accepted, address-of}
use Rattle.invariants.specs.StepLaws.{low-address}
use Rattle.invariants.specs.Newest.{is_waited_for, is_release}
use Rattle.invariants.specs.StillWaitingLaws as the
use Rattle.invariants.specs.StillWaitingLaws.{only-first, only-second, place-begins, fifo-begins, entered, same, write-steady, fifo-fine, bus-fine}

-- ---- a frame answered "waiting" for n is the newest

module _ (e : Step) (rows held : List Contents) (n : ℕ) where
  abbrev Begins : Plan → Type 0
  Begins = the.Begins e rows held n

  buffer-begins : (c : Control) (m : ℕ) → m < 16 → Begins (to_buffer c m)
  unfolding to_buffer
  buffer-begins c m h = pick-keeps Begins (is_locked c m) (λ t. place-begins e rows held n c m h) (λ t a. impossible a)

  judged-begins : (c : Control) (good : Bool) (i m : ℕ) → Begins (judged c good i m)
  unfolding judged found
  judged-begins c good i m =
      pick-keeps Begins (not c.mode.synced) (λ t a. impossible a)
      (λ t. pick-keeps Begins (not good || eqb i 0) (λ u a. impossible a)
      (λ u. pick-keeps Begins (ltb m 16) (λ x. buffer-begins (raise_last (cancel c) i) m (ltb-true m 16 x)) (λ x. fifo-begins e rows held n (raise_last (cancel c) i) i)))

  pub frame-begins : (c : Control) (hs : List Head) (good : Bool) (f : List ℕ) → Begins (decide c hs (frame good f))
  unfolding decide act on_bus received
  frame-begins c hs good f =
      pick-keeps Begins (eqb (refusal c (frame good f)) 0)
      (λ t. pick-keeps Begins c.mode.init (λ u a. impossible a)
      (λ u. pick-keeps Begins (asleep c) (λ x a. impossible a) (λ x. judged-begins c good (get_or f 0 0) (lookup c hs (get_or f 0 0)))))
      (λ t a. impossible a)

module _ (c : Control) (e : Step) (rows held : List Contents) (n : ℕ) (small : n < 16) (waited : is_waited_for c.places n ≡ true) where
  abbrev Stays : Places → List Move → Type 0
  Stays = the.Stays c e rows held n small waited

  abbrev Fine : Plan → Type 0
  Fine = the.Fine c e rows held n small waited

  unmoved : {i : Bool} {q : Places} → q ≡ c.places → the.Unless c e rows held n small waited i q []
  unmoved = the.unmoved c e rows held n small waited

  -- ---- bus steps

  -- another frame takes the first place, or the second: n's is the other
  first_taken : (m : ℕ) → eqb m n ≡ false → is_free c 0 ≡ true → Stays (occupied c.places 0 m) (hold 0 ∷ [])
  unfolding hold_all pick
  first_taken m d free =
      let p = c.places in
      let high = leb-true 16 p.first free in
      let t : eqb p.first n ≡ false = ne_eqb p.first n (λ z. omega arith) in
      let u : eqb p.second n ≡ true = or_cases (eqb p.first n) (eqb p.second n) waited (λ z. absurd (false≢true (sym t ∙ z))) (λ z. z) in
      let one = only-second p n t u in
      record {
        waited-still = or_right (eqb m n) (eqb p.second n) u;
        newest-same = pick-false (eqb m n) 0 1 d ∙ sym one;
        bytes_same = subst (λ (k : ℕ). row_at (hold_all e (hold 0 ∷ []) held) k ≡ row_at held k) (sym one)
            (get_or-set_other held 0 1 _ no_contents (λ z. omega arith));
      }

  second-taken : (m : ℕ) → eqb m n ≡ false → is_free c 1 ≡ true → Stays (occupied c.places 1 m) (hold 1 ∷ [])
  unfolding hold_all pick
  second-taken m d free =
      let p = c.places in
      let high = leb-true 16 p.second free in
      let u : eqb p.second n ≡ false = ne_eqb p.second n (λ z. omega arith) in
      let t : eqb p.first n ≡ true = or_cases (eqb p.first n) (eqb p.second n) waited (λ z. z) (λ z. absurd (false≢true (sym u ∙ z))) in
      let nought = only-first p n t u in
      record {
        waited-still = or_left (eqb p.first n) (eqb m n) t;
        newest-same = pick-false (eqb m n) 1 0 d ∙ sym nought;
        bytes_same = subst (λ (k : ℕ). row_at (hold_all e (hold 1 ∷ []) held) k ≡ row_at held k) (sym nought)
            (get_or-set_other held 1 0 _ no_contents (λ z. omega arith));
      }

  buffer-fine : (i m : ℕ) → Fine (to_buffer (raise_last (cancel c) i) m)
  unfolding to_buffer to_place raise_last cancel hold_all
  buffer-fine i m =
      pick-keeps Fine (is_locked _ m)
      (λ t. pick-keeps Fine (is_free c 0) (λ u a o. first_taken m a u)
      (λ u. pick-keeps Fine (is_free c 1) (λ x a o. second-taken m a x) (λ x a. unmoved refl)))
      (λ t a. same c e rows held n small waited refl refl)

  frame-fine : (good : Bool) (i m : ℕ) → Fine (judged c good i m)
  unfolding judged found cancel
  frame-fine good i m =
      pick-keeps Fine (not c.mode.synced) (λ t a. unmoved refl)
      (λ t. pick-keeps Fine (not good || eqb i 0) (λ u a. unmoved refl) (λ u. pick-keeps Fine (ltb m 16) (λ x. buffer-fine i m) (λ x. fifo-fine c e rows held n small waited i)))

  act-fine : (hs : List Head) (s : Step) → refusal c s ≡ 0 → is_release c n s ≡ false → Fine (act c hs s)
  unfolding act refusal reset_control woken wake synced cancel timed_out faulted due_sync slotted slot_for send_from received
  act-fine hs reset r o = λ a. entered c e rows held n small waited refl
  act-fine hs (read x) r o = λ a. unmoved refl
  act-fine hs (write x v) r o =
      let here = eqb x (0x50 + n) && not (has v LOCK) in
      λ a. write-steady c e rows held n small waited x v (by-test here (λ t. absurd (false≢true (sym (and-rest here _ o t) ∙ eq-eqb (write_refusal c x v) 0 r))) (λ t. t))
      (register_at x) (address-of x (low-address x (write-accepted c x v r).not1))
  act-fine hs (sync k) r o = bus-fine c e rows held n small waited _ _ (λ a. unmoved refl) (λ a. unmoved refl)
  act-fine hs sync_due r o = bus-fine c e rows held n small waited _ _ (λ a. unmoved refl) (pick-keeps Fine c.mode.master (λ t a. unmoved refl) (λ t a. unmoved refl))
  act-fine hs (slot i room) r o =
      bus-fine c e rows held n small waited _ _ (λ a. unmoved refl)
      (pick-keeps Fine (not c.mode.synced) (λ t a. unmoved refl) (λ t. pick-keeps Fine _ (λ u a. unmoved refl) (λ u a. unmoved refl)))
  act-fine hs (frame good f) r o = bus-fine c e rows held n small waited _ _ (λ a. unmoved refl) (frame-fine good (get_or f 0 0) (lookup c hs (get_or f 0 0)))
  act-fine hs (fault Early) r o = bus-fine c e rows held n small waited _ _ (λ a. unmoved refl) (λ a. unmoved refl)
  act-fine hs (fault Lost) r o = bus-fine c e rows held n small waited _ _ (λ a. unmoved refl) (λ a. unmoved refl)
  act-fine hs (fault Illegal) r o = bus-fine c e rows held n small waited _ _ (λ a. unmoved refl) (λ a. unmoved refl)
  act-fine hs (fault Mismatch) r o = bus-fine c e rows held n small waited _ _ (λ a. unmoved refl) (λ a. unmoved refl)
  act-fine hs timeout r o = bus-fine c e rows held n small waited _ _ (λ a. unmoved refl) (λ a. unmoved refl)

  pub decide-fine : (hs : List Head) (s : Step) → is_release c n s ≡ false → Fine (decide c hs s)
  unfolding decide
  decide-fine hs s o =
      pick-keeps Fine (eqb (refusal c s) 0) (λ t. act-fine hs s (eqb-true (refusal c s) 0 t) o) (λ t a. unmoved refl)
