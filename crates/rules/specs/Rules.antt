-- The rules of document 01: what each step does that is not refused, and the step.
use Rattle.std.specs.Prelude.{List, [], ◌∷◌, get_or, eqb}
use Rattle.masks.specs.Pick.{pick}
use Rattle.contents.specs.Bytes.{Head}
use Rattle.rules.specs.declared.Answer.TheVariants.{Ok, Refused, Ignored, Woke}
use Rattle.rules.specs.declared.Control.{Control}
use Rattle.rules.specs.Registers.{register_at, reset_control}
use Rattle.rules.specs.Steps.{Step, reset, read, write, sync, sync_due, slot, frame, fault, timeout}
use Rattle.rules.specs.Plan.{wipe, say, Plan, plain}
use Rattle.rules.specs.Waiting.{asleep}
use Rattle.rules.specs.Modes.{cancel}
use Rattle.rules.specs.Reads.{read_reply}
use Rattle.rules.specs.Writes.{written, write_moves}
use Rattle.rules.specs.Bus.{woken, synced, due_sync, timed_out, faulted, received, slotted}
use Rattle.rules.specs.Refusals.{refusal}

-- A bus step: "In initialization each is 'ignored'"; asleep, the plan given first.
unfoldable pub on_bus : Control → Plan → Plan → Plan
on_bus c sleeping awake = pick c.mode.init (plain c Ignored) (pick (asleep c) sleeping awake)

-- sync, frame and fault wake a sleeping module
abbrev pub wakes : Control → Plan → Plan
wakes c awake = on_bus c (plain (woken c) Woke) awake

-- "so is a sync due, a slot or an alarm timeout while asleep"
abbrev pub sleeps_on : Control → Plan → Plan
sleeps_on c awake = on_bus c (plain c Ignored) awake

-- A step that is not refused. W5: "any sync, frame or fault event not refused or answered 'ignored', cancels SLPRQ", where none stands
-- it changes nothing.
unfoldable pub act : Control → List Head → Step → Plan
act c hs reset = record { control = reset_control; moves = wipe ∷ []; reply = say Ok; looked = 0 }
act c hs (read a) = record { control = c; moves = []; reply = read_reply c hs (register_at a); looked = 0 }
act c hs (write a v) = record { control = written c (register_at a) v; moves = write_moves c (register_at a) v; reply = say Ok; looked = 0 }
act c hs (sync k) = wakes c (plain (synced k (cancel c) hs) Ok)
act c hs sync_due = sleeps_on c (due_sync c hs)
act c hs (slot i room) = sleeps_on c (slotted c hs i)
act c hs (frame good f) = wakes c (received c hs good (get_or f 0 0))
act c hs (fault k) = wakes c (plain (faulted k (cancel c)) Ok)
act c hs timeout = sleeps_on c (plain (timed_out c) Ok)

-- "A refusal returns its number only. State and lent memory stay."
unfoldable pub decide : Control → List Head → Step → Plan
decide c hs e = pick (eqb (refusal c e) 0) (act c hs e) (plain c (Refused (refusal c e)))
