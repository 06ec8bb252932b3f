-- Steps that bring bytes leave bytes in the record.
use Rattle.std.specs.Prelude.{ℕ, zero, suc, ◌-◌, ◌<◌, ◌≡◌, refl, Bool, true, false, ltb, List, [], ◌∷◌, ◌++◌, map, get_or, set, take, replicate, Option, Some, None, IfSome, option_map}
use Rattle.std.specs.Bool.{then_some}
use Rattle.std.proofs.Common.{sym, subst, arith, ltb-true}
use Rattle.std.proofs.Math.ListN.{drop}
use Rattle.masks.specs.PickLaws.{pick-keeps}
use Rattle.contents.specs.declared.Contents.{Contents}
use Rattle.contents.specs.Bytes.{Head, blank, no_contents, with_ident, with_length, with_data, cut, taken, store_frame, image_of}
use Rattle.contents.specs.PayloadLaws.{frame-size}
use Rattle.rules.specs.Answers.{given_of, number_in}
use Rattle.rules.specs.Steps.{Step, reset, read, write, sync, sync_due, slot, frame, fault, timeout, data_register, reads_data, value_in, frame_in, hide}
use Rattle.rules.specs.Plan.{Move, wipe, set_ident, set_length, set_data, store, hold, release, Reply, say, show, send, Plan}
use Rattle.rules.specs.Rules.{decide}
use Rattle.controller.specs.declared.Controller.{Controller}
use Rattle.controller.specs.Carry.{reset_state, heads, row_at, move, move_all, hold_by, hold_all, answer_of, carry}
use Rattle.controller.specs.Session.{step_of, end_by, end_of}
use Rattle.controller.specs.ViewLaws.{head_at_lem}
use Rattle.controller.specs.Calls.{step_for}
use Rattle.controller.specs.declared.Call.{Call}
use Rattle.controller.specs.declared.Call.TheVariants.{Write, Sync, Slot, Frame, Fault}
use Rattle.encoding.specs.Calls.{address_of, byte_of, sync_of, verdict_of, fault_of, call_of}
use Rattle.encoding.specs.Code.{meant_of}
use Rattle.encoding.specs.Bytes.{Bytes, BringsBytes, AllBytes}
use Rattle.encoding.specs.ByteListLaws.{set_all, replicate-all, set-bytes, zero-bytes, no_bytes_lem, cons-bytes, drop-bytes, take-bytes, append-bytes}
use Rattle.encoding.specs.ByteRuleLaws.{InBytes, put_by, said_by, PlanBytes, HeadBytes, reset-control-bytes, decide-bytes}

-- ---- the bytes of the buffers and of the frames that wait

abbrev pub RowBytes : List Contents → Type 0
RowBytes rows = (n : ℕ) → Bytes (row_at rows n).bytes

row-set : (rows : List Contents) (n : ℕ) (b : Contents) → RowBytes rows → Bytes b.bytes → RowBytes (set rows n b)
row-set rows n b p h = set_all (λ (x : Contents). Bytes x.bytes) no_contents rows n b p h

blank-rows : (n : ℕ) → RowBytes (replicate n blank)
blank-rows n = replicate-all (λ (x : Contents). Bytes x.bytes) no_contents n blank (zero-bytes 14) no_bytes_lem

module _ (b : Contents) (p : Bytes b.bytes) where
  rest-bytes : Bytes (drop 2 b.bytes)
  rest-bytes = drop-bytes 2 b.bytes p

  ident-bytes : (v : ℕ) → v < 256 → Bytes (with_ident b v).bytes
  unfolding with_ident
  ident-bytes v h = cons-bytes v (get_or b.bytes 1 0 ∷ drop 2 b.bytes) h (cons-bytes _ (drop 2 b.bytes) (p 1) rest-bytes)

  length-bytes : (v : ℕ) → v < 256 → Bytes (with_length b v).bytes
  unfolding with_length
  length-bytes v h = cons-bytes _ (v ∷ drop 2 b.bytes) (p 0) (cons-bytes v (drop 2 b.bytes) h rest-bytes)

  data-bytes : (j v : ℕ) → v < 256 → Bytes (with_data b j v).bytes
  unfolding with_data
  data-bytes j v h = set-bytes b.bytes (suc (suc j)) v p h

store_bytes : (i l : ℕ) (d : List ℕ) → i < 256 → Bytes d → Bytes (store_frame i l d).bytes
unfolding store_frame
store_bytes i l d h q =
    let data-part : List ℕ = take (taken l d) d in
    let rest : List ℕ = replicate (12 - taken l d) 0 in
    cons-bytes i (cut l ∷ (data-part ++ rest)) h
    (cons-bytes (cut l) (data-part ++ rest) (omega arith) (append-bytes data-part rest (take-bytes (taken l d) d q) (zero-bytes (12 - taken l d))))

-- the frame that a step brings, as it is stored
image-bytes : (e : Step) → BringsBytes e → Bytes (image_of (frame_in e)).bytes
image-bytes e b = store_bytes _ (get_or (frame_in e) 1 0) _ (b.frame 0) (drop-bytes 2 (frame_in e) b.frame)

move-bytes : (e : Step) (held : List Contents) (m : Move) (rows : List Contents) →
    BringsBytes e → RowBytes held → put_by m < 256 → RowBytes rows → RowBytes (move e held m rows)
move-bytes e held wipe rows b w h p = blank-rows 16
move-bytes e held (set_ident n v) rows b w h p = row-set rows n _ p (ident-bytes (row_at rows n) (p n) v h)
move-bytes e held (set_length n v) rows b w h p = row-set rows n _ p (length-bytes (row_at rows n) (p n) v h)
move-bytes e held (set_data n j) rows b w h p = row-set rows n _ p (data-bytes (row_at rows n) (p n) j (value_in e) b.value)
move-bytes e held (store n) rows b w h p = row-set rows n _ p (image-bytes e b)
move-bytes e held (hold k) rows b w h p = p
move-bytes e held (release k n) rows b w h p = row-set rows n _ p (w k)

moves-bytes : (e : Step) (held : List Contents) (ms : List Move) (rows : List Contents) →
    BringsBytes e → RowBytes held → Bytes (map put_by ms) → RowBytes rows → RowBytes (move_all e held ms rows)
unfolding move_all
moves-bytes e held [] rows b w h p = p
moves-bytes e held (m ∷ ms) rows b w h p = moves-bytes e held ms (move e held m rows) b w (λ i. h (suc i)) (move-bytes e held m rows b w (h 0) p)

-- the frames that wait
hold-bytes : (e : Step) (m : Move) (held : List Contents) → BringsBytes e → RowBytes held → RowBytes (hold_by e m held)
hold-bytes e wipe held b w = blank-rows 2
hold-bytes e (set_ident n v) held b w = w
hold-bytes e (set_length n v) held b w = w
hold-bytes e (set_data n j) held b w = w
hold-bytes e (store n) held b w = w
hold-bytes e (hold k) held b w = row-set held k _ w (image-bytes e b)
hold-bytes e (release k n) held b w = w

holds-bytes : (e : Step) (ms : List Move) (held : List Contents) → BringsBytes e → RowBytes held → RowBytes (hold_all e ms held)
unfolding hold_all
holds-bytes e [] held b w = w
holds-bytes e (m ∷ ms) held b w = holds-bytes e ms (hold_by e m held) b (hold-bytes e m held b w)

head_bytes : (rows : List Contents) → RowBytes rows → HeadBytes (heads rows)
head_bytes rows p =
    record {
      ident = λ n. subst (λ (h : Head). h.ident < 256) (sym (head_at_lem rows n)) (p n 0);
      len = λ n. subst (λ (h : Head). h.len < 256) (sym (head_at_lem rows n)) (p n 1);
    }

answer-byte : (e : Step) (rows : List Contents) (r : Reply) → said_by r < 256 → RowBytes rows → number_in (given_of (answer_of e rows r)) < 256
answer-byte e rows (say a) h p = h
answer-byte e rows (show n j) h p = pick-keeps (λ (x : ℕ). x < 256) (reads_data e) (λ t. p n (suc (suc j))) (λ t. omega arith)
answer-byte e rows (send n) h p = omega (arith, frame-size (row_at rows n))

-- ---- a step

-- every number of the record that an answer can show is below 256
pub record HoldsBytes (c : Controller) : Type 0 where
  pub control : InBytes c.control
  pub rows : RowBytes c.rows
  pub held : RowBytes c.held

pub reset-bytes : HoldsBytes reset_state
unfolding reset_state
reset-bytes = record { control = reset-control-bytes; rows = blank-rows 16; held = blank-rows 2 }

hidden-value : (e : Step) → value_in e < 256 → value_in (hide e) < 256
hidden-value reset h = h
hidden-value (read a) h = h
hidden-value (write a v) h = pick-keeps (λ (x : ℕ). x < 256) (data_register a) (λ t. omega arith) (λ t. h)
hidden-value (sync k) h = h
hidden-value sync_due h = h
hidden-value (slot i room) h = h
hidden-value (frame good f) h = h
hidden-value (fault k) h = h
hidden-value timeout h = h

module _ (c : Controller) (e : Step) (h : HoldsBytes c) (b : BringsBytes e) where
  abbrev plan : Plan
  plan = decide c.control (heads c.rows) (hide e)

  plan-bytes : PlanBytes plan
  plan-bytes = decide-bytes c.control (heads c.rows) h.control (head_bytes c.rows h.rows) (hide e) (hidden-value e b.value)

  pub step-bytes : HoldsBytes (step_of c e).next
  unfolding step_of carry
  step-bytes =
      record {
        control = plan-bytes.state;
        rows = moves-bytes e c.held plan.moves c.rows b h.held plan-bytes.put h.rows;
        held = holds-bytes e plan.moves c.held b h.held;
      }

  pub detail-byte : number_in (given_of (step_of c e).answer) < 256
  unfolding step_of carry
  detail-byte = answer-byte e c.rows plan.reply plan-bytes.said h.rows

-- ---- sessions from reset

pub end-bytes : (c : Controller) (es : List Step) → HoldsBytes c → AllBytes es → HoldsBytes (end_of c es)
unfolding end_of end_by step_of
end-bytes c [] h b = h
end-bytes c (e ∷ es) h b = end-bytes (step_of c e).next es (step-bytes c e h b.0) b.1

module _ {A B : Type 0} (P : B → Type 0) (make : A → B) where
  if-made : (o : Option A) → ((x : A) → P (make x)) → IfSome (option_map make o) P
  if-made None h = tt
  if-made (Some x) h = h x

  if-kept : (t : Bool) (x : A) → (t ≡ true → P (make x)) → IfSome (option_map make (then_some t x)) P
  if-kept true x h = h refl
  if-kept false x h = tt

-- the steps that callers in C make, each of a kind and its two numbers, bring bytes where the frame slice has bytes alone
module _ (f room : List ℕ) (b : Bytes f) where
  abbrev Brings : Call → Type 0
  Brings call = BringsBytes (step_for call f room)

  pub calls-bring-bytes : (kind first second : ℕ) → IfSome (call_of kind first second) Brings
  unfolding call_of byte_of
  calls-bring-bytes zero first second = record { value = omega arith; frame = no_bytes_lem }
  calls-bring-bytes (suc zero) first second = record { value = omega arith; frame = no_bytes_lem }
  calls-bring-bytes (suc (suc zero)) first second =
      if-kept Brings (Write (address_of first)) (ltb second 256) second (λ e. record { value = ltb-true second 256 e; frame = no_bytes_lem })
  calls-bring-bytes (suc (suc (suc zero))) first second = if-made Brings Sync (sync_of first) (λ k. record { value = omega arith; frame = no_bytes_lem })
  calls-bring-bytes (suc (suc (suc (suc zero)))) first second = record { value = omega arith; frame = no_bytes_lem }
  calls-bring-bytes (suc (suc (suc (suc (suc zero))))) first second = if-made Brings Slot (byte_of first) (λ n. record { value = omega arith; frame = no_bytes_lem })
  calls-bring-bytes (suc (suc (suc (suc (suc (suc zero)))))) first second = if-made Brings Frame (verdict_of first) (λ good. record { value = omega arith; frame = b })
  calls-bring-bytes (suc (suc (suc (suc (suc (suc (suc zero))))))) first second = if-made Brings Fault (fault_of first) (λ k. record { value = omega arith; frame = no_bytes_lem })
  calls-bring-bytes (suc (suc (suc (suc (suc (suc (suc (suc zero)))))))) first second = record { value = omega arith; frame = no_bytes_lem }
  calls-bring-bytes (suc (suc (suc (suc (suc (suc (suc (suc (suc n))))))))) first second = tt

  -- the same of the call that is meant, whether or not the numbers stand for one
  pub meant-bring-bytes : (kind first second : ℕ) → Brings (meant_of kind first second)
  unfolding meant_of
  meant-bring-bytes zero first second = record { value = omega arith; frame = no_bytes_lem }
  meant-bring-bytes (suc zero) first second = record { value = omega arith; frame = no_bytes_lem }
  meant-bring-bytes (suc (suc zero)) first second = record { value = omega arith; frame = no_bytes_lem }
  meant-bring-bytes (suc (suc (suc zero))) first second = record { value = omega arith; frame = no_bytes_lem }
  meant-bring-bytes (suc (suc (suc (suc zero)))) first second = record { value = omega arith; frame = no_bytes_lem }
  meant-bring-bytes (suc (suc (suc (suc (suc zero))))) first second = record { value = omega arith; frame = no_bytes_lem }
  meant-bring-bytes (suc (suc (suc (suc (suc (suc zero)))))) first second = record { value = omega arith; frame = b }
  meant-bring-bytes (suc (suc (suc (suc (suc (suc (suc zero))))))) first second = record { value = omega arith; frame = no_bytes_lem }
  meant-bring-bytes (suc (suc (suc (suc (suc (suc (suc (suc n)))))))) first second = record { value = omega arith; frame = no_bytes_lem }
