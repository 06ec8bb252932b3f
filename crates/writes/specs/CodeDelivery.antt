-- The write of a control register in two parts: all but the delivery of frames that wait, and that.
use Rattle.std.specs.Prelude.{ℕ, Bool, ◌&&◌, not, ◌≡◌, refl}
use Rattle.std.proofs.Common.{sym, ap, ◌∙◌}
use Rattle.masks.specs.Pick.{pick}
use Rattle.masks.specs.PickLaws.{pick_true, pick-false, pick-keeps, by-test}
use Rattle.rules.specs.declared.Register.TheVariants.{Bufctl}
use Rattle.rules.specs.declared.Places.{Places}
use Rattle.rules.specs.declared.Control.{Control}
use Rattle.rules.specs.Registers.{has, LOCK}
use Rattle.rules.specs.Kinds.{is_locked}
use Rattle.rules.specs.Writes.{lock, release_fifo, release_all, unlock, write_cfg, write_iena, write_iflg, write_abtrq, write_lock, write_bufctl, written}
use Rattle.waiting.specs.Code.{is_awaited, deliver_to, delivered_to}
use Rattle.waiting.specs.CodeLaws.{delivered-control}

-- LOCK written, nothing delivered
unfoldable pub lock_undelivered : Control → ℕ → ℕ → Control
lock_undelivered c n v = pick (has v LOCK) (pick (is_locked c n) c (lock c n)) (release_all c n)

-- what is written before LOCK
abbrev before_lock : Control → ℕ → ℕ → Control
before_lock c n v = write_abtrq (write_iflg (write_iena (write_cfg c n v) n v) n v) n v

unfoldable pub undelivered : Control → ℕ → ℕ → Control
undelivered c n v = lock_undelivered (before_lock c n v) n v

-- LOCK is written 0, and a frame waits for buffer n
unfoldable pub releases : Control → ℕ → ℕ → Bool
releases c n v = not (has v LOCK) && is_awaited c.places n

-- the places stay up to LOCK
places-before : (c : Control) (n v : ℕ) → (before_lock c n v).places ≡ c.places
unfolding write_abtrq write_iflg write_iena write_cfg
places-before c n v =
    pick-keeps Same _ (λ t. pick-keeps Same _ (λ u. refl) (λ u. refl)) (λ t. pick-keeps Same _ (λ u. refl) (λ u. refl))
  where
    Same : Control → Type 0
    Same d = d.places ≡ c.places

-- a delivery and a release are of different parts
commutes : (c : Control) (n : ℕ) → release_all (deliver_to c n) n ≡ deliver_to (release_all c n) n
unfolding release_all release_fifo deliver_to
commutes c n = refl

unlock-delivers : (c : Control) (n : ℕ) → unlock c n ≡ pick (is_awaited c.places n) (deliver_to (release_all c n) n) (release_all c n)
unfolding unlock delivered_to
unlock-delivers c n =
    ap (λ (d : Control). release_all d n) (delivered-control c n)
    ∙ by-test (is_awaited c.places n)
    (λ t. ap (λ (d : Control). release_all d n) (pick_true _ _ _ t) ∙ commutes c n ∙ sym (pick_true _ _ _ t))
    (λ t. ap (λ (d : Control). release_all d n) (pick-false _ _ _ t) ∙ sym (pick-false _ _ _ t))

-- with the delivery, where there is one, the write is whole
pub delivery-whole : (c : Control) (n v : ℕ) → written c (Bufctl n) v ≡ pick (releases c n v) (deliver_to (undelivered c n v) n) (undelivered c n v)
unfolding written write_bufctl write_lock undelivered lock_undelivered releases
delivery-whole c n v =
    let d = before_lock c n v in
    by-test (has v LOCK)
    (λ t. simp (t, pick_true, pick-false))
    (λ t. simp (t, pick-false) (unlock-delivers d n ∙ ap (λ (p : Places). pick (is_awaited p n) (deliver_to (release_all d n) n) (release_all d n)) (places-before c n v)))
