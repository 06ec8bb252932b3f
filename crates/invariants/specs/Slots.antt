-- Document 01's rules as they were before request W10: a slot whose buffer was locked had a plan of its own. Which plan is left open.
use Rattle.std.specs.Prelude.{ℕ, ◌&&◌, not, List, eqb, ltb}
use Rattle.masks.specs.Pick.{pick}
use Rattle.masks.specs.Bits.{highest}
use Rattle.contents.specs.Bytes.{Head}
use Rattle.rules.specs.declared.Answer.TheVariants.{Ignored, NotSent, Refused}
use Rattle.rules.specs.declared.Control.{Control}
use Rattle.rules.specs.Kinds.{is_locked}
use Rattle.rules.specs.Bus.{offers, send_from}
use Rattle.rules.specs.Plan.{Plan, plain, Rules}
use Rattle.rules.specs.Refusals.{refusal}
use Rattle.rules.specs.Steps.{Step, reset, read, write, sync, sync_due, slot, frame, fault, timeout}
use Rattle.rules.specs.Rules.{sleeps_on, decide}
use Rattle.controller.specs.Carry.{reset_state, heads}
use Rattle.controller.specs.Session.{end_of}
use Rattle.invariants.specs.Reads.{after}

-- slot i as `slotted` has it, but with the plan p n where the buffer n that it would send is locked
abbrev pub slotted_with : (ℕ → Plan) → Control → List Head → ℕ → Plan
slotted_with p c hs i =
    let n = highest (offers c hs i) 16 in
    pick (not c.mode.synced) (plain c Ignored)
    (pick (ltb c.mode.last i && ltb n 16) (pick (is_locked c n) (p n) (send_from c i n)) (plain c NotSent))

-- document 01's rules with such slots; the plan for a locked buffer may depend on all that a rule is given
abbrev pub decide_with : (Control → List Head → ℕ → Plan) → Rules
decide_with p c hs reset = decide c hs reset
decide_with p c hs (read a) = decide c hs (read a)
decide_with p c hs (write a v) = decide c hs (write a v)
decide_with p c hs (sync k) = decide c hs (sync k)
decide_with p c hs sync_due = decide c hs sync_due
decide_with p c hs (slot i room) =
    let r = refusal c (slot i room) in
    pick (eqb r 0) (sleeps_on c (slotted_with (p c hs) c hs i)) (plain c (Refused r))
decide_with p c hs (frame good f) = decide c hs (frame good f)
decide_with p c hs (fault k) = decide c hs (fault k)
decide_with p c hs timeout = decide c hs timeout

-- the buffers' heads after the session
abbrev pub heads_after : List Step → List Head
heads_after es = heads (end_of reset_state es).rows

-- the highest armed buffer that carries identifier i after the session, or 16
abbrev pub offered : List Step → ℕ → ℕ
offered es i = highest (offers (after es) (heads_after es) i) 16
