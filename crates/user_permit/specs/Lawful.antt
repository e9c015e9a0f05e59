-- The text of a user permit: 32 digits of the enciphered hardware ID, 8 digits of their checksum and 6 characters of
-- manufacturer ID. Assumes nothing.
use Rattle.std.specs.Prelude.{◌≡◌, ℕ, ◌/◌, ◌%◌, Bool, true, ◌&&◌, List, [], ◌∷◌, ◌++◌, length, take, drop}
use Rattle.octets.specs.Bytes.{every}
use Rattle.octets.specs.Hex.{is_digit, hex}
use Rattle.fields.specs.ManufacturerId.{is_id_character}
use Rattle.user_permit.specs.Crc32.{crc32}

-- the bytes of a number of 32 bits, the highest first
abbrev pub big_endian : ℕ → List ℕ
big_endian n = (n / 16777216 % 256) ∷ (n / 65536 % 256) ∷ (n / 256 % 256) ∷ (n % 256) ∷ []

-- the digits of a text's checksum
unfoldable pub checksum_of : List ℕ → List ℕ
checksum_of t = hex (big_endian (crc32 t))

-- each character is in its set
unfoldable pub in_sets : List ℕ → Bool
in_sets t = every is_digit (take 40 t) && every is_id_character (drop 40 t)

-- what makes a text a user permit: its length, its characters, and a checksum that agrees
abbrev pub Lawful : List ℕ → Type 0
Lawful t = (length t ≡ 46) × (in_sets t ≡ true) × (take 8 (drop 32 t) ≡ checksum_of (take 32 t))

-- the user permit of an enciphered hardware ID
unfoldable pub permit_text : List ℕ → List ℕ → List ℕ
permit_text encrypted id = hex encrypted ++ (checksum_of (hex encrypted) ++ id)
