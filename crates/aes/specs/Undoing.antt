-- Each step of a round gives a state, and is undone. Assumes nothing.
use Rattle.std.specs.Prelude.{◌≡◌, ℕ, ◌+◌, ◌-◌, ◌*◌, ◌/◌, ◌%◌, ◌<◌, List, [], get_or, slice_index, slice_index_or, refl}
use Rattle.std.proofs.Common.{sym, ap₂, ◌∙◌}
use Rattle.std.proofs.Math.Path.{ap}
use native.Mathlib.Omega.{arith}
use Rattle.std.proofs.lemmas.List.FromFn.{get_or-map-range_with_len, fill_by_all}
use Rattle.octets.specs.Bytes.{Bytes, ◌⊕◌}
use Rattle.octets.proofs.Blocks.{bytes_by_places}
use Rattle.octets.proofs.Xor.{Bytes-⊕, ⊕_undo}
use Rattle.aes.specs.Steps.{State, at, state, block, sub_bytes, inv_sub_bytes, shift_rows, inv_shift_rows, mixed, mix_columns, inv_mix_columns, add_round_key}
use Rattle.aes.specs.Substitution.{s_box, inv_s_box}
use Rattle.aes.specs.Box.{inv_s_box-s_box, s_box-inv_s_box, s_box_small, inv_s_box_small}
use Rattle.aes.specs.Mixing.{four, sum_small, unmixed, remixed}
use Rattle.aes.specs.States.{Lawful, at-column, at-square, lawful_columns, by_columns, by_word, by_square}

-- blocks

pub state_lawful : (b : List ℕ) → Bytes 16 b → Lawful (state b)
unfolding state
state_lawful b h = lawful_columns _ (λ c hc. bytes_by_places 4 _ (λ r hr. h.small (4 * c + r)))

pub block_bytes : (s : State) → Lawful s → Bytes 16 (block s)
unfolding block
block_bytes s h = bytes_by_places 16 _ (λ i hi. (h.column (i / 4) (omega arith)).small (i % 4))

pub state-block : (s : State) → Lawful s → state (block s) ≡ s
unfolding state block
state-block s h =
    by_square _ s h (λ c r hc hr.
    let i = 4 * c + r in
    let col : i / 4 ≡ c = omega arith in
    let row : i % 4 ≡ r = omega arith in
    get_or-map-range_with_len (λ i. at s (i / 4) (i % 4)) 0 16 i i 0 (omega arith) (omega arith) ∙ ap₂ (at s) col row)

pub block-state : (b : List ℕ) → Bytes 16 b → block (state b) ≡ b
unfolding state block
block-state b h =
    sym (fill_by_all _ b 16 0 h.long (λ i hi.
    let whole : 4 * (i / 4) + i % 4 ≡ i = omega arith in
    sym (at-square (λ c r. slice_index b (4 * c + r)) (i / 4) (i % 4) (omega arith) (omega arith) ∙ ap (λ j. slice_index b j) whole)))

module _ (s : State) (h : Lawful s) where
  small : (c r : ℕ) → c < 4 → at s c r < 256
  small c r hc = (h.column c hc).small r

  -- S

  pub sub_bytes_lawful : Lawful (sub_bytes s)
  unfolding sub_bytes
  sub_bytes_lawful = lawful_columns _ (λ c hc. bytes_by_places 4 _ (λ r hr. s_box_small (at s c r)))

  pub inv_sub_bytes_lawful : Lawful (inv_sub_bytes s)
  unfolding inv_sub_bytes
  inv_sub_bytes_lawful = lawful_columns _ (λ c hc. bytes_by_places 4 _ (λ r hr. inv_s_box_small (at s c r)))

  pub s_box_undone : inv_sub_bytes (sub_bytes s) ≡ s
  unfolding sub_bytes inv_sub_bytes
  s_box_undone = by_square _ s h (λ c r hc hr. ap inv_s_box (at-square (λ c r. s_box (at s c r)) c r hc hr) ∙ inv_s_box-s_box (at s c r) (small c r hc))

  pub s_box_redone : sub_bytes (inv_sub_bytes s) ≡ s
  unfolding sub_bytes inv_sub_bytes
  s_box_redone = by_square _ s h (λ c r hc hr. ap s_box (at-square (λ c r. inv_s_box (at s c r)) c r hc hr) ∙ s_box-inv_s_box (at s c r) (small c r hc))

  -- rows

  pub shift_rows_lawful : Lawful (shift_rows s)
  unfolding shift_rows
  shift_rows_lawful = lawful_columns _ (λ c hc. bytes_by_places 4 _ (λ r hr. small ((c + r) % 4) r (omega arith)))

  pub inv_shift_rows_lawful : Lawful (inv_shift_rows s)
  unfolding inv_shift_rows
  inv_shift_rows_lawful = lawful_columns _ (λ c hc. bytes_by_places 4 _ (λ r hr. small ((c + 4 - r) % 4) r (omega arith)))

  pub rows_undone : inv_shift_rows (shift_rows s) ≡ s
  unfolding shift_rows inv_shift_rows
  rows_undone =
      by_square _ s h (λ c r hc hr.
      let from = (c + 4 - r) % 4 in
      let back : (from + r) % 4 ≡ c = omega arith in
      at-square (λ c r. at s ((c + r) % 4) r) from r (omega arith) hr ∙ ap (λ k. at s k r) back)

  pub rows_redone : shift_rows (inv_shift_rows s) ≡ s
  unfolding shift_rows inv_shift_rows
  rows_redone =
      by_square _ s h (λ c r hc hr.
      let from = (c + r) % 4 in
      let back : (from + 4 - r) % 4 ≡ c = omega arith in
      at-square (λ c r. at s ((c + 4 - r) % 4) r) from r (omega arith) hr ∙ ap (λ k. at s k r) back)

  -- columns

  mixed_bytes : (k l m n c : ℕ) → c < 4 → Bytes 4 (mixed k l m n (slice_index_or s c []))
  unfolding mixed
  mixed_bytes k l m n c hc =
      bytes_by_places 4 _ (λ r hr. sum_small k l m n _ _ _ _ (small c ((r + 0) % 4) hc, small c ((r + 1) % 4) hc, small c ((r + 2) % 4) hc, small c ((r + 3) % 4) hc))

  pub mix_columns_lawful : Lawful (mix_columns s)
  unfolding mix_columns
  mix_columns_lawful = lawful_columns _ (λ c hc. mixed_bytes 2 3 1 1 c hc)

  pub inv_mix_columns_lawful : Lawful (inv_mix_columns s)
  unfolding inv_mix_columns
  inv_mix_columns_lawful = lawful_columns _ (λ c hc. mixed_bytes 0x0E 0x0B 0x0D 0x09 c hc)

  -- a column as its four bytes
  column_bytes : (c : ℕ) → c < 4 → four (at s c 0) (at s c 1) (at s c 2) (at s c 3) ≡ slice_index_or s c []
  column_bytes c hc = by_word (at s c) (slice_index_or s c []) (h.column c hc) (λ r hr. refl)

  over : (f : List ℕ → List ℕ) (c : ℕ) → c < 4 → f (four (at s c 0) (at s c 1) (at s c 2) (at s c 3)) ≡ four (at s c 0) (at s c 1) (at s c 2) (at s c 3) → f (slice_index_or s c []) ≡ slice_index_or s c []
  over f c hc e = ap f (sym (column_bytes c hc)) ∙ e ∙ column_bytes c hc

  pub columns_undone : inv_mix_columns (mix_columns s) ≡ s
  unfolding mix_columns inv_mix_columns
  columns_undone =
      by_columns _ s h (λ c hc.
      ap (mixed 0x0E 0x0B 0x0D 0x09) (at-column (λ c. mixed 2 3 1 1 (slice_index_or s c [])) c hc)
      ∙ over (λ w. mixed 0x0E 0x0B 0x0D 0x09 (mixed 2 3 1 1 w)) c hc (unmixed _ _ _ _ (small c 0 hc, small c 1 hc, small c 2 hc, small c 3 hc)))

  pub columns_redone : mix_columns (inv_mix_columns s) ≡ s
  unfolding mix_columns inv_mix_columns
  columns_redone =
      by_columns _ s h (λ c hc.
      ap (mixed 2 3 1 1) (at-column (λ c. mixed 0x0E 0x0B 0x0D 0x09 (slice_index_or s c [])) c hc)
      ∙ over (λ w. mixed 2 3 1 1 (mixed 0x0E 0x0B 0x0D 0x09 w)) c hc (remixed _ _ _ _ (small c 0 hc, small c 1 hc, small c 2 hc, small c 3 hc)))

  -- round keys

  module _ (k : State) (hk : Lawful k) where
    pub add_round_key_lawful : Lawful (add_round_key s k)
    unfolding add_round_key
    add_round_key_lawful = lawful_columns _ (λ c hc. Bytes-⊕ (h.column c hc) (hk.column c hc))

    pub key_undone : add_round_key (add_round_key s k) k ≡ s
    unfolding add_round_key
    key_undone = by_columns _ s h (λ c hc. ap (λ w. w ⊕ get_or k c []) (at-column (λ c. get_or s c [] ⊕ get_or k c []) c hc) ∙ ⊕_undo (h.column c hc) (hk.column c hc))
