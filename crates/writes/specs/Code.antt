-- The writes of the registers below $50, apart from those of the control registers.
use Rattle.std.specs.Prelude.{ℕ, zero, suc, ◌-◌, ◌<◌, ◌≤◌, List, [], ◌∷◌, ◌≡◌, refl, get_or, ltb}
use Rattle.std.proofs.Common.{arith, lt-ltb, le-ltb, ltb-false}
use Rattle.masks.specs.PickLaws.{pick_true, pick-false, pick-keeps}
use Rattle.rules.specs.declared.Register.{Register}
use Rattle.rules.specs.declared.Register.TheVariants.{Mcr, Fsizr, Tcr1, Tcr2, Tcr3, Risr, Gisr, Rier, Gier, Rivec, Tivec, Fidac, Fidmr, Mvr, Pctlbf, Buflock, Fidrj, Fidrmr, TransmitWindow, ReceiveWindow, FifoWindow, Bufctl, Reserved}
use Rattle.rules.specs.declared.Control.{Control}
use Rattle.rules.specs.Registers.{low_map, register_at}
use Rattle.rules.specs.Writes.{written}

-- a write of a register; one of a control register does nothing here
abbrev pub written_low : Control → Register → ℕ → Control
written_low c Mcr v = written c Mcr v
written_low c Fsizr v = written c Fsizr v
written_low c Tcr1 v = written c Tcr1 v
written_low c Tcr2 v = written c Tcr2 v
written_low c Tcr3 v = written c Tcr3 v
written_low c Risr v = written c Risr v
written_low c Gisr v = written c Gisr v
written_low c Rier v = written c Rier v
written_low c Gier v = written c Gier v
written_low c Rivec v = written c Rivec v
written_low c Tivec v = written c Tivec v
written_low c Fidac v = written c Fidac v
written_low c Fidmr v = written c Fidmr v
written_low c Mvr v = written c Mvr v
written_low c Pctlbf v = written c Pctlbf v
written_low c Buflock v = written c Buflock v
written_low c Fidrj v = written c Fidrj v
written_low c Fidrmr v = written c Fidrmr v
written_low c (TransmitWindow p) v = written c (TransmitWindow p) v
written_low c (ReceiveWindow p) v = written c (ReceiveWindow p) v
written_low c (FifoWindow p) v = written c (FifoWindow p) v
written_low c (Bufctl n) v = c
written_low c Reserved v = written c Reserved v

-- ---- no address below $50 is that of a control register

-- what holds of each register of a list, and of the one beyond its end
abbrev All : (Register → Type 0) → List Register → Type 0
All P [] = Unit {0}
All P (r ∷ rs) = P r × All P rs

all-at : (P : Register → Type 0) (rs : List Register) (a : ℕ) → All P rs → P Reserved → P (get_or rs a Reserved)
all-at P [] a h z = z
all-at P (r ∷ rs) zero h z = h.0
all-at P (r ∷ rs) (suc a) h z = all-at P rs a h.1 z

pub low-written : (c : Control) (a v : ℕ) → a < 0x50 → written_low c (register_at a) v ≡ written c (register_at a) v
unfolding register_at low_map
low-written c a v h =
    pick-keeps Same (ltb a 0x20) (λ t. all-at Same low_map a low refl)
    (λ t. pick-keeps Same (ltb a 0x30) (λ u. pick-keeps Same (ltb (a - 0x20) 14) (λ w. refl) (λ w. refl))
    (λ u. pick-keeps Same (ltb a 0x40) (λ w. pick-keeps Same (ltb (a - 0x30) 14) (λ x. refl) (λ x. refl))
    (λ w. pick-keeps Same (ltb a 0x50) (λ x. pick-keeps Same (ltb (a - 0x40) 14) (λ y. refl) (λ y. refl))
    (λ x. absurd (let over = ltb-false a 0x50 x in omega arith)))))
  where
    Same : Register → Type 0
    Same r = written_low c r v ≡ written c r v

    low : All Same low_map
    low = (refl, (refl, (refl, (refl, (refl, (refl, (refl, (refl, (refl, (refl, (refl, (refl, (refl, (refl, (refl, (refl, (refl, (refl, (refl, (refl, (refl, (refl, (refl, (refl, (refl, (refl, (refl, (refl, (refl, (refl, (refl, (refl, tt))))))))))))))))))))))))))))))))

-- the registers from $50 on are the control registers
pub control-at : (a : ℕ) → 0x50 ≤ a → a < 0x60 → register_at a ≡ Bufctl (a - 0x50)
unfolding register_at
control-at a l h =
    simp (pick_true, pick-false, le-ltb a 0x20 (omega arith), le-ltb a 0x30 (omega arith), le-ltb a 0x40 (omega arith), le-ltb a 0x50 l, lt-ltb a 0x60 h)
