-- The eight digits of a checksum and the number that they stand for. Assumes nothing.
use Rattle.std.proofs.Common.{◌≡◌, ℕ, zero, suc, ◌^◌, ◌<◌, List, get_or, take, drop, sym, ap, ◌∙◌, arith}
use Rattle.octets.specs.Bytes.{Bytes, Small}
use Rattle.octets.specs.Hex.{hex}
use Rattle.octets.proofs.Digits.{hex_one_to_one}
use Rattle.user_permit.specs.Crc32.{crc32}
use Rattle.user_permit.specs.Lawful.{big_endian, checksum_of}
use Rattle.user_permit.proofs.Checksum.{crc32_fits}

pub big_endian_small : (n : ℕ) → Small (big_endian n)
big_endian_small n zero = omega arith
big_endian_small n (suc zero) = omega arith
big_endian_small n (suc (suc zero)) = omega arith
big_endian_small n (suc (suc (suc zero))) = omega arith
big_endian_small n (suc (suc (suc (suc i)))) = omega arith

big_endian_one_to_one : (m n : ℕ) → m < 2 ^ 32 → n < 2 ^ 32 → big_endian m ≡ big_endian n → m ≡ n
big_endian_one_to_one m n hm hn e =
    let a = ap (λ l. get_or l 0 0) e in
    let b = ap (λ l. get_or l 1 0) e in
    let c = ap (λ l. get_or l 2 0) e in
    let d = ap (λ l. get_or l 3 0) e in
    omega (arith, a, b, c, d)

-- the digits tell the checksum
pub same_checksum : (t u : List ℕ) → Small t → Small u → checksum_of t ≡ checksum_of u → crc32 t ≡ crc32 u
unfolding checksum_of
same_checksum t u ht hu e =
    big_endian_one_to_one (crc32 t) (crc32 u) (crc32_fits t ht) (crc32_fits u hu)
    (hex_one_to_one _ _ (big_endian_small (crc32 t)) (big_endian_small (crc32 u)) e)

-- the checksum that was read from a text, beside the one that was computed
module _ (t read computed : List ℕ) (bytes : Bytes 4 read) (digits : hex read ≡ take 8 (drop 32 t)) (is : computed ≡ big_endian (crc32 (take 32 t))) where
  pub agrees : read ≡ computed → take 8 (drop 32 t) ≡ checksum_of (take 32 t)
  unfolding checksum_of
  agrees e = sym digits ∙ ap hex (e ∙ is)

  pub same_read : take 8 (drop 32 t) ≡ checksum_of (take 32 t) → read ≡ computed
  unfolding checksum_of
  same_read e = hex_one_to_one read (big_endian (crc32 (take 32 t))) bytes.small (big_endian_small (crc32 (take 32 t))) (digits ∙ e) ∙ sym is
