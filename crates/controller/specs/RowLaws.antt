-- The searches over the buffers' bytes are those over their heads.
use Rattle.std.specs.Prelude.{◌≡◌, refl, ℕ, List, get_or}
use Rattle.std.proofs.Common.{ap, arith}
use Rattle.masks.specs.Bits.{mask_of, highest}
use Rattle.masks.specs.Laws.{bit_mask, same-mask}
use Rattle.masks.specs.SearchLaws.{lowest-ext, highest-ext}
use Rattle.contents.specs.declared.Contents.{Contents}
use Rattle.search.specs.CodeSearch.{carries_at, named_at, is_named_in, lowest_with, highest_with, named_of}
use Rattle.rules.specs.declared.Control.{Control}
use Rattle.rules.specs.Kinds.{is_receive, is_full_transmit}
use Rattle.rules.specs.Plan.{head_at}
use Rattle.rules.specs.Bus.{receives, lookup, offers}
use Rattle.bus_steps.specs.Code.{is_named, is_ready}
use Rattle.controller.specs.Carry.{heads, row_at}
use Rattle.controller.specs.ViewLaws.{head_at_lem}

-- the identifier in the head is that in the bytes
ident-same : (rows : List Contents) (n : ℕ) → (head_at (heads rows) n).ident ≡ get_or (row_at rows n).bytes 0 0
ident-same rows n = ap (λ h. h.ident) (head_at_lem rows n)

pub lookup-rows : (c : Control) (rows : List Contents) (m i : ℕ) → m ≡ mask_of (is_receive c) → lowest_with rows m i ≡ lookup c (heads rows) i
unfolding lowest_with lookup carries_at receives
lookup-rows c rows m i e =
    lowest-ext (carries_at rows m i) (receives c (heads rows) i) 0 16 refl
    (λ n h. simp (e, bit_mask (is_receive c) n h, ident-same rows n))

pub offers-rows : (c : Control) (rows : List Contents) (i : ℕ) → highest_with rows c.buffers.armed i ≡ highest (offers c (heads rows) i) 16
unfolding highest_with carries_at offers
offers-rows c rows i =
    highest-ext (carries_at rows c.buffers.armed i) (offers c (heads rows) i) 16 (omega arith) (λ n h. simp (ident-same rows n))

-- m being the full transmit buffers
module _ (c : Control) (rows : List Contents) (m : ℕ) (full : m ≡ mask_of (is_full_transmit c)) where
  pub ready-rows : named_of rows m ≡ mask_of (is_ready c (heads rows))
  unfolding named_of is_named_in named_at is_ready is_named
  ready-rows =
      same-mask (is_named_in rows m) (is_ready c (heads rows)) (λ n h. simp (full, bit_mask (is_full_transmit c) n h, ident-same rows n))
