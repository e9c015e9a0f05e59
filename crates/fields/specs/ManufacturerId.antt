-- The rule of a manufacturer ID. Assumes nothing.
use Rattle.std.specs.Prelude.{ℕ, Bool, ◌&&◌, ◌||◌, List, length, ◌==◌, nat_le}
use Rattle.octets.specs.Bytes.{every}

-- 0 to 9 and A to Z
abbrev pub is_id_character : ℕ → Bool
is_id_character c = (nat_le 48 c && nat_le c 57) || (nat_le 65 c && nat_le c 90)

-- six of them
abbrev pub is_manufacturer_id : List ℕ → Bool
is_manufacturer_id t = length t == 6 && every is_id_character t
