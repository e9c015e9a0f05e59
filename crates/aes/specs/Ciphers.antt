-- Cipher and InvCipher undo each other, whatever the words. Assumes nothing.
use Rattle.std.specs.Prelude.{◌≡◌, ℕ, zero, suc, ◌-◌, ◌≤◌, List}
use Rattle.std.proofs.Math.Path.{refl, ap}
use Rattle.std.proofs.Common.{◌∙◌, arith}
use Rattle.octets.specs.Bytes.{Bytes}
use Rattle.aes.specs.Cipher.{round_key, rounds, inv_rounds, cipher, inv_cipher, key_words, enc_block, dec_block}
use Rattle.aes.specs.Steps.{State, state, block, sub_bytes, inv_sub_bytes, shift_rows, inv_shift_rows, mix_columns, inv_mix_columns, add_round_key}
use Rattle.aes.specs.Keys.{round_key_lawful}
use Rattle.aes.specs.States.{Lawful}
use Rattle.aes.specs.Undoing.{state_lawful, block_bytes, state-block, block-state, sub_bytes_lawful, inv_sub_bytes_lawful, s_box_undone, s_box_redone, shift_rows_lawful, inv_shift_rows_lawful, rows_undone, rows_redone, mix_columns_lawful, inv_mix_columns_lawful, columns_undone, columns_redone, add_round_key_lawful, key_undone}

-- S and rows together
module _ (s : State) (h : Lawful s) where
  forth_lawful : Lawful (shift_rows (sub_bytes s))
  forth_lawful = shift_rows_lawful (sub_bytes s) (sub_bytes_lawful s h)

  back_lawful : Lawful (inv_sub_bytes (inv_shift_rows s))
  back_lawful = inv_sub_bytes_lawful (inv_shift_rows s) (inv_shift_rows_lawful s h)

  forth_undone : inv_sub_bytes (inv_shift_rows (shift_rows (sub_bytes s))) ≡ s
  forth_undone = ap inv_sub_bytes (rows_undone (sub_bytes s) (sub_bytes_lawful s h)) ∙ s_box_undone s h

  back_redone : shift_rows (sub_bytes (inv_sub_bytes (inv_shift_rows s))) ≡ s
  back_redone = ap shift_rows (s_box_redone (inv_shift_rows s) (inv_shift_rows_lawful s h)) ∙ rows_redone s h

-- words of which those of rounds 0 to nr are four bytes each
module _ (w : List (List ℕ)) (nr : ℕ) (keyed : (n : ℕ) → n ≤ nr → Lawful (round_key w n)) where
  rounds_lawful : (n : ℕ) (s : State) → n ≤ nr → Lawful s → Lawful (rounds w n s)
  unfolding rounds
  rounds_lawful zero s le h = h
  rounds_lawful (suc n) s le h =
      add_round_key_lawful _ (mix_columns_lawful _ (forth_lawful _ (rounds_lawful n s (omega arith) h))) _ (keyed (suc n) le)

  inv_rounds_lawful : (n : ℕ) (s : State) → n ≤ nr → Lawful s → Lawful (inv_rounds w n s)
  unfolding inv_rounds
  inv_rounds_lawful zero s le h = h
  inv_rounds_lawful (suc n) s le h =
      inv_rounds_lawful n _ (omega arith) (inv_mix_columns_lawful _ (add_round_key_lawful _ (back_lawful s h) _ (keyed (suc n) le)))

  -- the rounds are undone up to the first S and rows
  rounds_undone : (n : ℕ) (s : State) → n ≤ nr → Lawful s → inv_rounds w n (shift_rows (sub_bytes (rounds w n s))) ≡ shift_rows (sub_bytes s)
  unfolding rounds inv_rounds
  rounds_undone zero s le h = refl
  rounds_undone (suc n) s le h =
      let t = shift_rows (sub_bytes (rounds w n s)) in
      let ht = forth_lawful _ (rounds_lawful n s (omega arith) h) in
      let hm = mix_columns_lawful t ht in
      let key = keyed (suc n) le in
      ap (λ u. inv_rounds w n (inv_mix_columns (add_round_key u (round_key w (suc n))))) (forth_undone _ (add_round_key_lawful (mix_columns t) hm _ key))
      ∙ ap (λ u. inv_rounds w n (inv_mix_columns u)) (key_undone (mix_columns t) hm _ key)
      ∙ ap (inv_rounds w n) (columns_undone t ht)
      ∙ rounds_undone n s (omega arith) h

  rounds_redone : (n : ℕ) (s : State) → n ≤ nr → Lawful s → rounds w n (inv_sub_bytes (inv_shift_rows (inv_rounds w n s))) ≡ inv_sub_bytes (inv_shift_rows s)
  unfolding rounds inv_rounds
  rounds_redone zero s le h = refl
  rounds_redone (suc n) s le h =
      let key = keyed (suc n) le in
      let b = inv_sub_bytes (inv_shift_rows s) in
      let hb = back_lawful s h in
      let ha = add_round_key_lawful b hb _ key in
      let t = inv_mix_columns (add_round_key b (round_key w (suc n))) in
      let ht = inv_mix_columns_lawful _ ha in
      ap (λ u. add_round_key (mix_columns (shift_rows (sub_bytes u))) (round_key w (suc n))) (rounds_redone n t (omega arith) ht)
      ∙ ap (λ u. add_round_key (mix_columns u) (round_key w (suc n))) (back_redone t ht)
      ∙ ap (λ u. add_round_key u (round_key w (suc n))) (columns_redone _ ha)
      ∙ key_undone b hb _ key

  module _ (b : List ℕ) (hb : Bytes 16 b) where
    first : Lawful (round_key w 0)
    first = keyed 0 (omega arith)

    last : Lawful (round_key w nr)
    last = keyed nr (omega arith)

    pub cipher_bytes : Bytes 16 (cipher nr w b)
    unfolding cipher
    cipher_bytes =
        let hs = rounds_lawful (nr - 1) _ (omega arith) (add_round_key_lawful (state b) (state_lawful b hb) _ first) in
        block_bytes _ (add_round_key_lawful _ (forth_lawful _ hs) _ last)

    pub inv_cipher_bytes : Bytes 16 (inv_cipher nr w b)
    unfolding inv_cipher
    inv_cipher_bytes =
        let hs = inv_rounds_lawful (nr - 1) _ (omega arith) (add_round_key_lawful (state b) (state_lawful b hb) _ last) in
        block_bytes _ (add_round_key_lawful _ (back_lawful _ hs) _ first)

    pub cipher_undone : inv_cipher nr w (cipher nr w b) ≡ b
    unfolding cipher inv_cipher
    cipher_undone =
        let s = add_round_key (state b) (round_key w 0) in
        let hs = add_round_key_lawful (state b) (state_lawful b hb) _ first in
        let t = shift_rows (sub_bytes (rounds w (nr - 1) s)) in
        let ht = forth_lawful _ (rounds_lawful (nr - 1) s (omega arith) hs) in
        let finish : State → List ℕ = λ u. block (add_round_key (inv_sub_bytes (inv_shift_rows u)) (round_key w 0)) in
        ap (λ u. finish (inv_rounds w (nr - 1) (add_round_key u (round_key w nr)))) (state-block _ (add_round_key_lawful t ht _ last))
        ∙ ap (λ u. finish (inv_rounds w (nr - 1) u)) (key_undone t ht _ last)
        ∙ ap finish (rounds_undone (nr - 1) s (omega arith) hs)
        ∙ ap (λ u. block (add_round_key u (round_key w 0))) (forth_undone s hs)
        ∙ ap block (key_undone (state b) (state_lawful b hb) _ first)
        ∙ block-state b hb

    pub inv_cipher_undone : cipher nr w (inv_cipher nr w b) ≡ b
    unfolding cipher inv_cipher
    inv_cipher_undone =
        let s = add_round_key (state b) (round_key w nr) in
        let hs = add_round_key_lawful (state b) (state_lawful b hb) _ last in
        let t = inv_sub_bytes (inv_shift_rows (inv_rounds w (nr - 1) s)) in
        let ht = back_lawful _ (inv_rounds_lawful (nr - 1) s (omega arith) hs) in
        let finish : State → List ℕ = λ u. block (add_round_key (shift_rows (sub_bytes u)) (round_key w nr)) in
        ap (λ u. finish (rounds w (nr - 1) (add_round_key u (round_key w 0)))) (state-block _ (add_round_key_lawful t ht _ first))
        ∙ ap (λ u. finish (rounds w (nr - 1) u)) (key_undone t ht _ first)
        ∙ ap finish (rounds_redone (nr - 1) s (omega arith) hs)
        ∙ ap (λ u. block (add_round_key u (round_key w nr))) (back_redone s hs)
        ∙ ap block (key_undone (state b) (state_lawful b hb) _ last)
        ∙ block-state b hb

-- AES-128
module _ (k b : List ℕ) (hk : Bytes 16 k) (hb : Bytes 16 b) where
  keyed : (n : ℕ) → n ≤ 10 → Lawful (round_key (key_words k) n)
  keyed n le = round_key_lawful 4 40 n k (omega arith) hk (omega arith)

  pub enc_block_sixteen : Bytes 16 (enc_block k b)
  unfolding enc_block
  enc_block_sixteen = cipher_bytes (key_words k) 10 keyed b hb

  pub dec_block_sixteen : Bytes 16 (dec_block k b)
  unfolding dec_block
  dec_block_sixteen = inv_cipher_bytes (key_words k) 10 keyed b hb

  pub dec_block_undoes_enc_block : dec_block k (enc_block k b) ≡ b
  unfolding enc_block dec_block
  dec_block_undoes_enc_block = cipher_undone (key_words k) 10 keyed b hb

  pub enc_block_undoes_dec_block : enc_block k (dec_block k b) ≡ b
  unfolding enc_block dec_block
  enc_block_undoes_dec_block = inv_cipher_undone (key_words k) 10 keyed b hb
