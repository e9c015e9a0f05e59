-- The cipher of exhibition sets, which hides nothing: each byte is moved by one place and has a byte of the key added.
-- Assumes nothing.
use Rattle.std.specs.Prelude.{◌≡◌, ℕ, ◌+◌, ◌-◌, ◌%◌, List, [], ◌∷◌, map, replicate, slice_index}
use Rattle.std.specs.List.{range_with_len}

-- byte i of the block b enciphered under the key k
abbrev pub enc_byte : List ℕ → List ℕ → ℕ → ℕ
enc_byte k b i = (slice_index b ((i + 1) % 16) + slice_index k i) % 256

unfoldable pub enc_block : List ℕ → List ℕ → List ℕ
enc_block k b = map (enc_byte k b) (range_with_len 0 16)

-- byte i of the block that was enciphered to c
abbrev pub dec_byte : List ℕ → List ℕ → ℕ → ℕ
dec_byte k c i = (slice_index c ((i + 15) % 16) + (256 - slice_index k ((i + 15) % 16))) % 256

unfoldable pub dec_block : List ℕ → List ℕ → List ℕ
dec_block k c = map (dec_byte k c) (range_with_len 0 16)

-- Under a key of zeros the block 00 to 0F becomes 01 to 0F and then 00; under a key of FF a block of zeros becomes FF.
abbrev pub Examples : Type 0
Examples =
    map (λ (e : List ℕ × List ℕ). enc_block e.0 e.1) ((replicate 16 0, range_with_len 0 16) ∷ (replicate 16 255, replicate 16 0) ∷ [])
    ≡ (1 ∷ 2 ∷ 3 ∷ 4 ∷ 5 ∷ 6 ∷ 7 ∷ 8 ∷ 9 ∷ 10 ∷ 11 ∷ 12 ∷ 13 ∷ 14 ∷ 15 ∷ 0 ∷ []) ∷ replicate 16 255 ∷ []
