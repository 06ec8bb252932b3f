-- Towards proofs/SendingLaws.antt: the plans that aren't answered "sent", but for a frame's.
use Rattle.std.specs.Prelude.{◌≡◌, refl, ℕ, Bool, false, ◌&&◌, not, List, ltb, leb}
use Rattle.masks.specs.PickLaws.{pick-keeps}
use Rattle.masks.specs.Bits.{highest}
use Rattle.contents.specs.Bytes.{Head}
use Rattle.rules.specs.declared.Register.{Register}
use Rattle.rules.specs.declared.Control.{Control}
use Rattle.rules.specs.Registers.{Region, send_place, receive_place, fifo_place, control_of, elsewhere, region_of}
use Rattle.rules.specs.Kinds.{is_locked}
use Rattle.rules.specs.Waiting.{asleep, is_free}
use Rattle.rules.specs.Reads.{window_reply, reply_in, read_reply}
use Rattle.rules.specs.Bus.{due_sync, to_place, to_buffer, fifo_takes, to_fifo, offers, send_from, slot_for, slotted}
use Rattle.rules.specs.Answers.{is_sent}
use Rattle.rules.specs.Plan.{Reply, say, show, send, Plan}
use Rattle.rules.specs.Rules.{on_bus}

-- the answer "sent" said without a frame
abbrev pub says_sent : Reply → Bool
says_sent (say a) = is_sent a
says_sent (show n j) = false
says_sent (send n) = false

pub record Honest (p : Plan) : Type 0 where
  pub honest : says_sent p.reply ≡ false

pub record HonestReply (r : Reply) : Type 0 where
  pub honest : says_sent r ≡ false

pub ok : (p : Plan) → says_sent p.reply ≡ false → Honest p
ok p e = record { honest = e }

window-honest : (hs : List Head) (n p : ℕ) → HonestReply (window_reply hs n p)
unfolding window_reply
window-honest hs n p =
    pick-keeps HonestReply (ltb p 2) (λ t. record { honest = refl })
    (λ t. pick-keeps HonestReply (ltb n 16) (λ u. record { honest = refl }) (λ u. record { honest = refl }))

reply-honest : (c : Control) (hs : List Head) (g : Region) (v : ℕ) → HonestReply (reply_in c hs g v)
reply-honest c hs (send_place p) v = window-honest hs _ p
reply-honest c hs (receive_place p) v = window-honest hs _ p
reply-honest c hs (fifo_place p) v = window-honest hs _ p
reply-honest c hs (control_of n) v = record { honest = refl }
reply-honest c hs elsewhere v = record { honest = refl }

pub read-honest : (c : Control) (hs : List Head) (r : Register) → HonestReply (read_reply c hs r)
unfolding read_reply
read-honest c hs r = reply-honest c hs (region_of r) _

pub bus-honest : (c : Control) (p q : Plan) → Honest p → Honest q → Honest (on_bus c p q)
unfolding on_bus
bus-honest c p q x y = pick-keeps Honest c.mode.init (λ t. ok _ refl) (λ t. pick-keeps Honest (asleep c) (λ u. x) (λ u. y))

pub due-honest : (c : Control) (hs : List Head) → Honest (due_sync c hs)
unfolding due_sync
due-honest c hs = pick-keeps Honest c.mode.master (λ t. ok _ refl) (λ t. ok _ refl)

pub slot-honest : (c : Control) (hs : List Head) (i : ℕ) → Honest (slotted c hs i)
unfolding slotted slot_for send_from
slot-honest c hs i =
    let n = highest (offers c hs i) 16 in
    pick-keeps Honest (not c.mode.synced) (λ t. ok _ refl)
    (λ t. pick-keeps Honest (ltb c.mode.last i && ltb n 16)
    (λ u. ok _ refl) (λ u. ok _ refl))

pub buffer-honest : (c : Control) (n : ℕ) → Honest (to_buffer c n)
unfolding to_buffer to_place
buffer-honest c n =
    pick-keeps Honest (is_locked c n)
    (λ t. pick-keeps Honest (is_free c 0) (λ u. ok _ refl) (λ u. pick-keeps Honest (is_free c 1) (λ x. ok _ refl) (λ x. ok _ refl))) (λ t. ok _ refl)

pub fifo-honest : (c : Control) (i : ℕ) → Honest (to_fifo c i)
unfolding to_fifo
fifo-honest c i =
    pick-keeps Honest (fifo_takes c i)
    (λ t. pick-keeps Honest (leb c.config.fsiz c.fifo.count) (λ u. ok _ refl) (λ u. ok _ refl)) (λ t. ok _ refl)
