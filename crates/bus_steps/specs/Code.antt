-- What the code's rules return: a plan of the bus, with the buffers' heads looked up before, as one value.
use Rattle.std.specs.Prelude.{ℕ, Bool, true, false, ◌&&◌, not, List, [], ◌∷◌, eqb}
use Rattle.masks.specs.Pick.{pick}
use Rattle.masks.specs.Bits.{bit_of, mask_of}
use Rattle.contents.specs.Bytes.{Head}
use Rattle.rules.specs.declared.SyncKind.{SyncKind}
use Rattle.rules.specs.declared.Answer.{Answer}
use Rattle.rules.specs.declared.Answer.TheVariants.{Value, Pulse, Ignored}
use Rattle.rules.specs.declared.Target.TheVariants.{Buffer, Place}
use Rattle.rules.specs.declared.Verdict.{Verdict}
use Rattle.rules.specs.declared.Verdict.TheVariants.{Say, Store, Send}
use Rattle.rules.specs.declared.Ruling.{Ruling}
use Rattle.rules.specs.declared.Control.{Control}
use Rattle.rules.specs.Record.{with_mode, with_events, with_buffers, with_slprq, with_synced, with_last, with_armed}
use Rattle.rules.specs.Kinds.{is_full_transmit, is_locked}
use Rattle.rules.specs.Bus.{sync_events, due_kind}
use Rattle.rules.specs.Plan.{head_at, Move, wipe, set_ident, set_length, set_data, store, hold, release, Reply, say, show, send, Plan, plain}

-- a frame is stored in a buffer or a place, or sent, or there is an answer alone
abbrev pub storing : List Move → Answer → Verdict
storing [] a = Say a
storing (wipe ∷ ms) a = Say a
storing (set_ident n v ∷ ms) a = Say a
storing (set_length n v ∷ ms) a = Say a
storing (set_data n j ∷ ms) a = Say a
storing (store n ∷ ms) a = Store (Buffer n) a
storing (hold k ∷ ms) a = Store (Place k) a
storing (release k n ∷ ms) a = Say a

abbrev pub verdict_of : List Move → Reply → Verdict
verdict_of ms (say a) = storing ms a
verdict_of ms (show n j) = Say (Value 0)
verdict_of ms (send n) = Send n

-- The count of W8 is no part of it: answer and state tell it (`looked_by`).
abbrev pub ruling_of : Plan → Ruling
ruling_of p = record { next = p.control; verdict = verdict_of p.moves p.reply }

-- the buffers with an identifier
unfoldable pub is_named : List Head → ℕ → Bool
is_named hs n = not (eqb (head_at hs n).ident 0)

-- the full transmit buffers with an identifier: only these can be armed
unfoldable pub is_ready : Control → List Head → ℕ → Bool
is_ready c hs n = is_full_transmit c n && is_named hs n

-- what a sync arms of the buffers m
unfoldable pub arms_of : Control → ℕ → ℕ → Bool
arms_of c m n = is_full_transmit c n && not (is_locked c n) && bit_of m n

-- a sync, which cancels SLPRQ, the full transmit buffers with an identifier being m
unfoldable pub synced_of : SyncKind → Control → ℕ → Control
synced_of k c m =
    with_buffers (with_events (with_mode c (with_last (with_synced (with_slprq c.mode false) true) 0)) (sync_events k c.events))
    (with_armed c.buffers (mask_of (arms_of c m)))

-- "a master emits alarm if ALARM is set, else normal [..]; a slave ignores it"
unfoldable pub due_of : Control → ℕ → Plan
due_of c m =
    let k = due_kind c in
    pick c.mode.master (plain (synced_of k c m) (Pulse k)) (plain c Ignored)
