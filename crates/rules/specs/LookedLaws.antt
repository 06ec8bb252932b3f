-- Towards proofs/LookedLaws.antt: W8's count as an answer and the state after the step tell it, and the plans whose count is told so.
use Rattle.std.specs.Prelude.{◌≡◌, ℕ, ◌≤◌, Bool, false, ◌&&◌, not, List, leb}
use Rattle.std.proofs.Math.Path.{refl}
use Rattle.std.proofs.Common.{sym, ap, ◌∙◌, arith, le_refl, ltb-false, le-leb}
use Rattle.std.proofs.Math.Dec.{ltb}
use Rattle.masks.specs.Pick.{pick}
use Rattle.masks.specs.PickLaws.{pick-keeps}
use Rattle.masks.specs.Bits.{highest}
use Rattle.masks.specs.SearchLaws.{count-le, count-ext}
use Rattle.contents.specs.Bytes.{Head}
use Rattle.rules.specs.declared.Register.{Register}
use Rattle.rules.specs.declared.Answer.{Answer}
use Rattle.rules.specs.declared.Control.{Control}
use Rattle.rules.specs.Registers.{region_of, Region, send_place, receive_place, fifo_place, control_of, elsewhere}
use Rattle.rules.specs.Kinds.{is_locked, is_receive}
use Rattle.rules.specs.Waiting.{asleep, is_free}
use Rattle.rules.specs.Reads.{window_reply, reply_in, read_reply}
use Rattle.rules.specs.Bus.{due_sync, to_place, to_buffer, fifo_takes, to_fifo, raise_last, examined, offers, send_from, slot_for, slotted}
use Rattle.rules.specs.Answers.{given_of, number_in, is_found, is_looked_up}
use Rattle.rules.specs.Plan.{Reply, say, show, send, Plan}
use Rattle.rules.specs.Rules.{on_bus}

-- how many buffers were examined, the answer being a and c the state after it: those up to the buffer that it names, or all
unfoldable pub looked_by : Control → Answer → ℕ
looked_by c a = pick (is_looked_up a) (examined c (pick (is_found a) (number_in (given_of a)) 16)) 0

-- the same of a plan's reply
abbrev pub looked_in : Control → Reply → ℕ
looked_in c (say a) = looked_by c a
looked_in c (show n j) = 0
looked_in c (send n) = 0

-- ---- the count

pub examined-le : (c : Control) (n : ℕ) → examined c n ≤ 16
unfolding examined
examined-le c n = count-le (λ k. is_receive c k && leb k n) 16

-- with no buffer all are examined, whatever number stands for it
pub examined-all : (c : Control) (n : ℕ) → ltb n 16 ≡ false → examined c n ≡ examined c 16
unfolding examined
examined-all c n e =
    count-ext (λ k. is_receive c k && leb k n) (λ k. is_receive c k && leb k 16) 16 (le_refl 16)
    (λ k l. let far = ltb-false n 16 e in ap (λ (t : Bool). is_receive c k && t) (le-leb k n (omega arith) ∙ sym (le-leb k 16 (omega arith))))

-- ---- a plan whose count is told so

pub record Told (p : Plan) : Type 0 where
  pub told : p.looked ≡ looked_in p.control p.reply

pub by : (p : Plan) → p.looked ≡ looked_in p.control p.reply → Told p
by p e = record { told = e }

window-told : (c : Control) (hs : List Head) (n p : ℕ) → 0 ≡ looked_in c (window_reply hs n p)
unfolding window_reply looked_by pick
window-told c hs n p =
    pick-keeps (λ (r : Reply). 0 ≡ looked_in c r) (ltb p 2) (λ t. refl)
    (λ t. pick-keeps (λ (r : Reply). 0 ≡ looked_in c r) (ltb n 16) (λ u. refl) (λ u. refl))

reply-told : (c : Control) (hs : List Head) (g : Region) (v : ℕ) → 0 ≡ looked_in c (reply_in c hs g v)
unfolding looked_by pick
reply-told c hs (send_place p) v = window-told c hs _ p
reply-told c hs (receive_place p) v = window-told c hs _ p
reply-told c hs (fifo_place p) v = window-told c hs _ p
reply-told c hs (control_of n) v = refl
reply-told c hs elsewhere v = refl

pub read_told : (c : Control) (hs : List Head) (r : Register) → 0 ≡ looked_in c (read_reply c hs r)
unfolding read_reply
read_told c hs r = reply-told c hs (region_of r) _

module _ (c : Control) where
  pub bus-told : (x y : Plan) → Told x → Told y → Told (on_bus c x y)
  unfolding on_bus looked_by pick
  bus-told x y p q = pick-keeps Told c.mode.init (λ t. by _ refl) (λ t. pick-keeps Told (asleep c) (λ u. p) (λ u. q))

  pub due-told : (hs : List Head) → Told (due_sync c hs)
  unfolding due_sync looked_by pick
  due-told hs = pick-keeps Told c.mode.master (λ t. by _ refl) (λ t. by _ refl)

  pub slot-told : (hs : List Head) (i : ℕ) → Told (slotted c hs i)
  unfolding slotted slot_for send_from looked_by pick
  slot-told hs i =
      pick-keeps Told (not c.mode.synced) (λ t. by _ refl)
      (λ t. pick-keeps Told (ltb c.mode.last i && ltb (highest (offers c hs i) 16) 16) (λ u. by _ refl) (λ u. by _ refl))

  -- a frame changes neither FSIZ nor the kind of a buffer
  abbrev pub Counts : ℕ → Plan → Type 0
  Counts k p = k ≡ looked_in p.control p.reply

  pub buffer-told : (i n : ℕ) → Counts (examined c n) (to_buffer (raise_last c i) n)
  unfolding to_buffer to_place raise_last looked_by examined is_receive pick
  buffer-told i n =
      pick-keeps (Counts (examined c n)) (is_locked (raise_last c i) n)
      (λ t. pick-keeps (Counts (examined c n)) (is_free c 0) (λ u. refl) (λ u. pick-keeps (Counts (examined c n)) (is_free c 1) (λ x. refl) (λ x. refl)))
      (λ t. refl)

  pub fifo-told : (i : ℕ) → Counts (examined c 16) (to_fifo (raise_last c i) i)
  unfolding to_fifo raise_last looked_by examined is_receive pick
  fifo-told i =
      pick-keeps (Counts (examined c 16)) (fifo_takes (raise_last c i) i)
      (λ t. pick-keeps (Counts (examined c 16)) (leb c.config.fsiz c.fifo.count) (λ u. refl) (λ u. refl)) (λ t. refl)
