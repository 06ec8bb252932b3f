-- What is known of a write that is not refused, where its rule acts: none of the refusals applies, and the register has its
-- address.
use Rattle.std.specs.Prelude.{◌≡◌, refl, ℕ, suc, ◌+◌, ◌<◌, Bool, true, false, ◌&&◌, not, List, ◌∷◌, eqb, ltb}
use Rattle.std.proofs.Common.{arith}
use Rattle.std.proofs.lemmas.Bool.{not-false}
use Rattle.masks.specs.Pick.{pick}
use Rattle.masks.specs.Bits.{some_of}
use Rattle.masks.specs.SearchLaws.{some-false}
use Rattle.rules.specs.declared.Register.{Register}
use Rattle.rules.specs.declared.Register.TheVariants.{Mcr, Fsizr, Tcr1, Tcr2, Tcr3, Risr, Gisr, Rier, Gier, Rivec, Tivec, Fidac, Fidmr, Mvr, Pctlbf, Buflock, Fidrj, Fidrmr, TransmitWindow, ReceiveWindow, FifoWindow, Bufctl, Reserved}
use Rattle.rules.specs.declared.Control.{Control}
use Rattle.rules.specs.Registers.{low_map, register_at}
use Rattle.rules.specs.Refusals.{refuses1, refuses2, refuses3, refuses4, refuses5, refuses6, refuses7, refuses8, refuses9, refuses10, first_of, write_refusal}

pub record Accepted (c : Control) (a v : ℕ) : Type 0 where
  pub not1 : refuses1 a ≡ false
  pub not2 : refuses2 c a ≡ false
  pub not3 : refuses3 a ≡ false
  pub not4 : refuses4 c a ≡ false
  pub not5 : refuses5 c a ≡ false
  pub not6 : refuses6 a v ≡ false
  pub not7 : refuses7 c a v ≡ false
  pub not8 : refuses8 c a v ≡ false
  pub not9 : refuses9 c a v ≡ false
  pub not10 : refuses10 c a v ≡ false

-- a list of refusals of which none applies
first-none : (k : ℕ) (t : Bool) (ts : List Bool) → 0 < k → first_of k (t ∷ ts) ≡ 0 → (t ≡ false) × (first_of (suc k) ts ≡ 0)
unfolding first_of pick
first-none k true ts h e = absurd (omega arith)
first-none k false ts h e = (refl, e)

pub write-accepted : (c : Control) (a v : ℕ) → write_refusal c a v ≡ 0 → Accepted c a v
unfolding write_refusal
write-accepted c a v z =
    let r1 = first-none 1 _ _ (omega arith) z in
    let r2 = first-none 2 _ _ (omega arith) r1.1 in
    let r3 = first-none 3 _ _ (omega arith) r2.1 in
    let r4 = first-none 4 _ _ (omega arith) r3.1 in
    let r5 = first-none 5 _ _ (omega arith) r4.1 in
    let r6 = first-none 6 _ _ (omega arith) r5.1 in
    let r7 = first-none 7 _ _ (omega arith) r6.1 in
    let r8 = first-none 8 _ _ (omega arith) r7.1 in
    let r9 = first-none 9 _ _ (omega arith) r8.1 in
    let r10 = first-none 10 _ _ (omega arith) r9.1 in
    record {
      not1 = r1.0;
      not2 = r2.0;
      not3 = r3.0;
      not4 = r4.0;
      not5 = r5.0;
      not6 = r6.0;
      not7 = r7.0;
      not8 = r8.0;
      not9 = r9.0;
      not10 = r10.0;
    }

-- ---- the map of the addresses, backwards

-- the address of a register; a reserved one has many
unfoldable pub is_address : ℕ → Register → Bool
is_address a Mcr = eqb a 0x00
is_address a Fsizr = eqb a 0x01
is_address a Tcr1 = eqb a 0x02
is_address a Tcr2 = eqb a 0x03
is_address a Tcr3 = eqb a 0x04
is_address a Risr = eqb a 0x06
is_address a Gisr = eqb a 0x07
is_address a Rier = eqb a 0x08
is_address a Gier = eqb a 0x09
is_address a Rivec = eqb a 0x0A
is_address a Tivec = eqb a 0x0B
is_address a Fidac = eqb a 0x0C
is_address a Fidmr = eqb a 0x0D
is_address a Mvr = eqb a 0x0E
is_address a Pctlbf = eqb a 0x10
is_address a Buflock = eqb a 0x12
is_address a Fidrj = eqb a 0x14
is_address a Fidrmr = eqb a 0x15
is_address a (TransmitWindow p) = eqb a (0x20 + p) && ltb p 14
is_address a (ReceiveWindow p) = eqb a (0x30 + p) && ltb p 14
is_address a (FifoWindow p) = eqb a (0x40 + p) && ltb p 14
is_address a (Bufctl n) = eqb a (0x50 + n) && ltb n 16
is_address a Reserved = true

astray : ℕ → Bool
astray a = not (is_address a (register_at a))

-- computed over the whole map
none-astray : some_of astray 0x60 ≡ false
unfolding some_of astray is_address register_at low_map pick
none-astray = refl

pub address-of : (a : ℕ) → a < 0x60 → is_address a (register_at a) ≡ true
unfolding astray
address-of a h = not-false (is_address a (register_at a)) (some-false astray 0x60 none-astray a h)
