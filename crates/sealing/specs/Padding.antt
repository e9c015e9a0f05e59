-- Padding after PKCS#7: as many bytes as fill the last block, at least one, each with their number as its value.
-- Assumes nothing.
use Rattle.std.specs.Prelude.{◌≡◌, ℕ, ◌-◌, ◌%◌, Bool, true, false, ◌&&◌, List, ◌++◌, length, take, drop, replicate, Option, MatchOption, nat_eq, nat_le, slice_index}
use Rattle.octets.specs.Bytes.{every}

-- how many bytes are appended to so many
abbrev pub pads : ℕ → ℕ
pads long = 16 - long % 16

unfoldable pub padded : List ℕ → List ℕ
padded dataset = dataset ++ replicate (pads (length dataset)) (pads (length dataset))

abbrev pub last_byte : List ℕ → ℕ
last_byte plain = slice_index plain (length plain - 1)

-- the last byte n is 1 to 16, and so are the last n bytes all
unfoldable pub is_padded : List ℕ → Bool
is_padded plain =
    let n = last_byte plain in
    nat_le 1 n && nat_le n 16 && every (nat_eq n) (drop (length plain - n) plain)

-- what stands before the padding
unfoldable pub unpadded : List ℕ → List ℕ
unpadded plain = take (length plain - last_byte plain) plain

-- how many bytes of padding a last block has, and none if they are not good
abbrev pub Ended : List ℕ → Option ℕ → Type 0
Ended last r = MatchOption r (is_padded last ≡ false) (λ n. (is_padded last ≡ true) × (n ≡ last_byte last))
