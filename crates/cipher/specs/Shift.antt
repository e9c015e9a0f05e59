-- The demonstration cipher is lawful. Assumes nothing.
use Rattle.std.specs.Prelude.{◌≡◌, ℕ, ◌+◌, ◌%◌, ◌<◌, ◌≤◌, List, map, length, slice_index, slice_index_or}
use Rattle.std.proofs.Common.{sym}
use Rattle.std.proofs.Math.Path.{ap}
use native.Mathlib.Omega.{arith}
use Rattle.std.proofs.lemmas.List.FromFn.{get_or-map-range_with_len, fill_by_all}
use Rattle.std.specs.List.{range_with_len}
use Rattle.octets.specs.Bytes.{Bytes}
use Rattle.octets.proofs.Blocks.{bytes_by_places}
use Rattle.cipher.specs.Demonstration.{enc_block, dec_block, enc_byte, dec_byte}

module _ (k b : List ℕ) (hk : Bytes 16 k) (hb : Bytes 16 b) where
  pub enc_block_sixteen : Bytes 16 (enc_block k b)
  unfolding enc_block
  enc_block_sixteen = bytes_by_places 16 (enc_byte k b) (λ i h. omega arith)

  pub dec_block_sixteen : Bytes 16 (dec_block k b)
  unfolding dec_block
  dec_block_sixteen = bytes_by_places 16 (dec_byte k b) (λ i h. omega arith)

  -- a block read at each place
  read : (f : ℕ → ℕ) → ((i : ℕ) → i < 16 → f i ≡ slice_index b i) → map f (range_with_len 0 16) ≡ b
  read f at = sym (fill_by_all f b 16 0 hb.long (λ i h. sym (at i h)))

  pub dec_block_undoes_enc_block : dec_block k (enc_block k b) ≡ b
  unfolding enc_block dec_block
  dec_block_undoes_enc_block = read (dec_byte k (map (enc_byte k b) (range_with_len 0 16))) (λ i h.
      let m = (i + 15) % 16 in
      let back : (m + 1) % 16 ≡ i = omega arith in
      let e = get_or-map-range_with_len (enc_byte k b) 0 16 m m 0 (omega arith) (omega arith) in
      let at : slice_index_or b ((m + 1) % 16) 0 ≡ slice_index_or b i 0 = ap (λ j. slice_index b j) back in
      omega (arith, e, at, hb.small i, hk.small m))

  pub enc_block_undoes_dec_block : enc_block k (dec_block k b) ≡ b
  unfolding enc_block dec_block
  enc_block_undoes_dec_block = read (enc_byte k (map (dec_byte k b) (range_with_len 0 16))) (λ i h.
      let m = (i + 1) % 16 in
      let back : (m + 15) % 16 ≡ i = omega arith in
      let d = get_or-map-range_with_len (dec_byte k b) 0 16 m m 0 (omega arith) (omega arith) in
      let at : slice_index_or b ((m + 15) % 16) 0 ≡ slice_index_or b i 0 = ap (λ j. slice_index b j) back in
      let key : slice_index_or k ((m + 15) % 16) 0 ≡ slice_index_or k i 0 = ap (λ j. slice_index k j) back in
      omega (arith, d, at, key, hb.small i, hk.small i))

-- sixteen places, each filled by the rule
pub filled : (f : ℕ → ℕ) (out : List ℕ) (i : ℕ) → 16 ≤ i → length out ≡ 16 → ((j : ℕ) → j < i → slice_index out j ≡ f j) → out ≡ map f (range_with_len 0 16)
filled f out i end long at = fill_by_all f out 16 0 long (λ j h. at j (omega arith))
