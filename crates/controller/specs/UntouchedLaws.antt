-- Moves that leave a buffer alone, carried out.
use Rattle.std.specs.Prelude.{◌≡◌, refl, ℕ, List, [], ◌∷◌}
use Rattle.std.proofs.lemmas.Bool.{eqb-false}
use Rattle.std.proofs.Common.{get_or-set_other}
use Rattle.contents.specs.declared.Contents.{Contents}
use Rattle.contents.specs.Bytes.{no_contents}
use Rattle.rules.specs.Steps.{Step, reset, read, write, sync, sync_due, slot, frame, fault, timeout, hide}
use Rattle.rules.specs.Plan.{Move, wipe, set_ident, set_length, set_data, store, hold, release}
use Rattle.rules.specs.Untouched.{is_bus_event}
use Rattle.rules.specs.UntouchedLaws.{Avoids, none, stores, holds}
use Rattle.controller.specs.Carry.{row_at, move_all}

pub avoided-row : (e : Step) (rows held : List Contents) (n : ℕ) (ms : List Move) → Avoids n ms → row_at (move_all e held ms rows) n ≡ row_at rows n
unfolding move_all
avoided-row e rows held n [] none = refl
avoided-row e rows held n (hold k ∷ []) holds = refl
avoided-row e rows held n (store m ∷ []) (stores d) = get_or-set_other rows m n _ no_contents (λ q. eqb-false n m d q)
avoided-row e rows held n (wipe ∷ _) x5 = elim x5 [ ]
avoided-row e rows held n (set_ident _ _ ∷ _) x8 = elim x8 [ ]
avoided-row e rows held n (set_length _ _ ∷ _) x9 = elim x9 [ ]
avoided-row e rows held n (set_data _ _ ∷ _) x10 = elim x10 [ ]
avoided-row e rows held n (store m ∷ (_ ∷ _)) x12 = elim x12 [ ]
avoided-row e rows held n (hold k ∷ (_ ∷ _)) x13 = elim x13 [ ]
avoided-row e rows held n (release _ _ ∷ _) x13 = elim x13 [ ]

pub hide-bus : (e : Step) → is_bus_event (hide e) ≡ is_bus_event e
hide-bus reset = refl
hide-bus (read a) = refl
hide-bus (write a v) = refl
hide-bus (sync k) = refl
hide-bus sync_due = refl
hide-bus (slot i room) = refl
hide-bus (frame good f) = refl
hide-bus (fault k) = refl
hide-bus timeout = refl
