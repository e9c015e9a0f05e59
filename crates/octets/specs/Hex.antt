-- Upper-case hexadecimal text. Assumes nothing.
use Rattle.std.specs.Prelude.{◌≡◌, ℕ, ◌+◌, ◌-◌, ◌*◌, ◌/◌, ◌%◌, ◌<◌, Bool, true, false, cond, ◌&&◌, ◌||◌, List, [], ◌∷◌, length, Option, MatchOption, ◌≢◌, nat_le, nat_lt}
use Rattle.octets.specs.Bytes.{Bytes, every}

-- the digit of a number below 16
abbrev pub digit : ℕ → ℕ
digit n = cond (nat_lt n 10) (48 + n) (55 + n)

-- 0 to 9 and A to F, and no other character
abbrev pub is_digit : ℕ → Bool
is_digit c = (nat_le 48 c && nat_le c 57) || (nat_le 65 c && nat_le c 70)

abbrev pub Digits : List ℕ → Type 0
Digits t = every is_digit t ≡ true

-- two digits for each byte, the higher first
unfoldable pub hex : List ℕ → List ℕ
hex [] = []
hex (b ∷ bs) = digit (b / 16) ∷ digit (b % 16) ∷ hex bs

-- the number of a digit
abbrev pub value : ℕ → ℕ
value c = cond (nat_lt c 65) (c - 48) (c - 55)

-- a byte for each two digits
unfoldable pub unhex : List ℕ → List ℕ
unhex [] = []
unhex (h ∷ []) = []
unhex (h ∷ l ∷ t) = (value h * 16 + value l) ∷ unhex t

-- the value of a digit, and none of another character
abbrev pub Valued : ℕ → Option ℕ → Type 0
Valued c r = MatchOption r (is_digit c ≡ false) (λ v. (v < 16) × (digit v ≡ c))

-- the byte of two digits, and none of other characters
abbrev pub Paired : ℕ → ℕ → Option ℕ → Type 0
Paired h l r = MatchOption r (is_digit h ≡ true → is_digit l ≢ true) (λ b. (b < 256) × (digit (b / 16) ≡ h) × (digit (b % 16) ≡ l))

-- The bytes that a text of twice as many digits stands for; none only if the text has another length or another
-- character.
abbrev pub Decoded : ℕ → List ℕ → Option (List ℕ) → Type 0
Decoded n t r = MatchOption r (length t ≡ 2 * n → Digits t → ⊥) (λ bs. Bytes n bs × (hex bs ≡ t))
