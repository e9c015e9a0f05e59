-- AES, as FIPS 197 has it: Cipher and InvCipher over expanded keys, and AES-128 with its ten rounds. Assumes nothing.
use Rattle.std.specs.Prelude.{◌≡◌, ℕ, zero, suc, ◌+◌, ◌-◌, ◌*◌, List, [], ◌∷◌, map, slice_index_or}
use Rattle.std.specs.List.{range_with_len}
use Rattle.aes.specs.Expansion.{key_expansion}
use Rattle.aes.specs.Polynomials.{◌·◌}
use Rattle.aes.specs.Steps.{State, columns, state, block, sub_bytes, inv_sub_bytes, shift_rows, inv_shift_rows, mix_columns, inv_mix_columns, add_round_key}
use Rattle.aes.specs.Substitution.{s_box}

-- four words for each round
abbrev pub round_key : List (List ℕ) → ℕ → State
round_key w n = columns (λ c. slice_index_or w (4 * n + c) [])

-- rounds 1 to n
unfoldable pub rounds : List (List ℕ) → ℕ → State → State
rounds w zero s = s
rounds w (suc n) s = add_round_key (mix_columns (shift_rows (sub_bytes (rounds w n s)))) (round_key w (suc n))

-- the last round has no MixColumns
unfoldable pub cipher : ℕ → List (List ℕ) → List ℕ → List ℕ
cipher nr w b =
    let s = rounds w (nr - 1) (add_round_key (state b) (round_key w 0)) in
    block (add_round_key (shift_rows (sub_bytes s)) (round_key w nr))

-- rounds n down to 1
unfoldable pub inv_rounds : List (List ℕ) → ℕ → State → State
inv_rounds w zero s = s
inv_rounds w (suc n) s = inv_rounds w n (inv_mix_columns (add_round_key (inv_sub_bytes (inv_shift_rows s)) (round_key w (suc n))))

unfoldable pub inv_cipher : ℕ → List (List ℕ) → List ℕ → List ℕ
inv_cipher nr w b =
    let s = inv_rounds w (nr - 1) (add_round_key (state b) (round_key w nr)) in
    block (add_round_key (inv_sub_bytes (inv_shift_rows s)) (round_key w 0))

-- the words of a key of AES-128
abbrev pub key_words : List ℕ → List (List ℕ)
key_words k = key_expansion 4 10 k

-- the round keys of a key of AES-128: for the start, and for each of ten rounds
unfoldable pub round_keys : List ℕ → List State
round_keys k = map (round_key (key_words k)) (range_with_len 0 11)

unfoldable pub enc_block : List ℕ → List ℕ → List ℕ
enc_block k b = cipher 10 (key_words k) b

unfoldable pub dec_block : List ℕ → List ℕ → List ℕ
dec_block k b = inv_cipher 10 (key_words k) b

-- S(00), S(53) and 57 times 83, and the block 00 11 22 to FF under the key 00 01 02 to 0F
abbrev pub Examples : Type 0
Examples =
    s_box 0x00 ∷ s_box 0x53 ∷ 0x57 · 0x83
    ∷ enc_block (range_with_len 0 16) (0x00 ∷ 0x11 ∷ 0x22 ∷ 0x33 ∷ 0x44 ∷ 0x55 ∷ 0x66 ∷ 0x77 ∷ 0x88 ∷ 0x99 ∷ 0xAA ∷ 0xBB ∷ 0xCC ∷ 0xDD ∷ 0xEE ∷ 0xFF ∷ [])
    ≡ 0x63 ∷ 0xED ∷ 0xC1
    ∷ 0x69 ∷ 0xC4 ∷ 0xE0 ∷ 0xD8 ∷ 0x6A ∷ 0x7B ∷ 0x04 ∷ 0x30 ∷ 0xD8 ∷ 0xCD ∷ 0xB7 ∷ 0x80 ∷ 0x70 ∷ 0xB4 ∷ 0xC5 ∷ 0x5A ∷ []
