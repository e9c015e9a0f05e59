-- Hexadecimal text: its length, its parts, and one byte more. Assumes nothing.
use Rattle.std.proofs.Common.{◌≡◌, ℕ, ◌+◌, ◌*◌, ◌/◌, ◌%◌, ◌<◌, true, List, [], ◌∷◌, ◌++◌, length, get_or, take, drop, set, sym, refl, ap, ◌∙◌, ap₂, append_assoc, arith}
use Rattle.std.proofs.ByRecursion.{All-from_get_or}
use Rattle.std.proofs.lemmas.Bool.{and_from}
use Rattle.std.proofs.lemmas.List.{take_more, take_more_set, drop_more, set_at, length_push, length-take-le}
use Rattle.std.proofs.lemmas.Bool.Decides.{nat_tests}
use Rattle.std.specs.List.{AllByRecursion as All}
use Rattle.octets.specs.Bytes.{every, Small}
use Rattle.octets.proofs.Each.{every-at}
use Rattle.octets.specs.Hex.{digit, is_digit, Digits, hex, value, unhex}

pub hex-append : (xs ys : List ℕ) → hex (xs ++ ys) ≡ hex xs ++ hex ys
unfolding hex
hex-append [] ys = refl
hex-append (x ∷ xs) ys = ap (λ l. digit (x / 16) ∷ digit (x % 16) ∷ l) (hex-append xs ys)

pub length-hex : (bs : List ℕ) → length (hex bs) ≡ 2 * length bs
unfolding hex
length-hex [] = refl
length-hex (b ∷ bs) = let h = length-hex bs in omega arith

-- a digit is in the set, and has its number
module _ (n : ℕ) (h : n < 16) where
  is_digit-digit : is_digit (digit n) ≡ true
  is_digit-digit = grind (arith, nat_tests)

  value-digit : value (digit n) ≡ n
  value-digit = grind (arith, nat_tests)

digits-hex : (bs : List ℕ) → All (λ b. b < 256) bs → Digits (hex bs)
unfolding hex every
digits-hex [] h = refl
digits-hex (b ∷ bs) h =
    and_from _ _ (is_digit-digit (b / 16) (omega (arith, h.0))) (and_from _ _ (is_digit-digit (b % 16) (omega arith)) (digits-hex bs h.1))

unhex-hex : (bs : List ℕ) → All (λ b. b < 256) bs → unhex (hex bs) ≡ bs
unfolding hex unhex
unhex-hex [] h = refl
unhex-hex (b ∷ bs) h =
    let high = value-digit (b / 16) (omega (arith, h.0)) in
    let low = value-digit (b % 16) (omega arith) in
    ap₂ (λ x xs. x ∷ xs) (omega (arith, high, low)) (unhex-hex bs h.1)

-- from here on bytes are told by their places
module _ (bs : List ℕ) (small : Small bs) where
  all_small : All (λ b. b < 256) bs
  all_small = All-from_get_or (λ b. b < 256) bs 0 (λ i h. small i)

  pub hex_is_digits : Digits (hex bs)
  hex_is_digits = digits-hex bs all_small

  pub hex_undone : unhex (hex bs) ≡ bs
  hex_undone = unhex-hex bs all_small

pub hex_one_to_one : (xs ys : List ℕ) → Small xs → Small ys → hex xs ≡ hex ys → xs ≡ ys
hex_one_to_one xs ys hx hy e = sym (hex_undone xs hx) ∙ ap unhex e ∙ hex_undone ys hy

-- one byte more, at the end of a text
pub hex_push : (xs : List ℕ) (b : ℕ) → hex (xs ++ b ∷ []) ≡ hex xs ++ digit (b / 16) ∷ digit (b % 16) ∷ []
unfolding hex
hex_push xs b = hex-append xs (b ∷ [])

pub take_two_more : (t : List ℕ) (i : ℕ) → 2 * i + 1 < length t → take (2 * (i + 1)) t ≡ take (2 * i) t ++ get_or t (2 * i) 0 ∷ get_or t (2 * i + 1) 0 ∷ []
take_two_more t i h =
    let twice : 2 * (i + 1) ≡ (2 * i + 1) + 1 = omega arith in
    ap (λ n. take n t) twice ∙ take_more t (2 * i + 1) 0 h ∙ ap (λ l. l ++ get_or t (2 * i + 1) 0 ∷ []) (take_more t (2 * i) 0 (omega arith))
    ∙ append_assoc (take (2 * i) t) (get_or t (2 * i) 0 ∷ []) (get_or t (2 * i + 1) 0 ∷ [])

-- two characters of which one is outside the set
pub no_digits : (t : List ℕ) (i : ℕ) → i + 1 < length t → (is_digit (get_or t i 0) ≡ true → is_digit (get_or t (i + 1) 0) ≡ true → ⊥) → Digits t → ⊥
no_digits t i h outside all =
    let at = λ (k : ℕ) (l : k < length t). every-at is_digit t k l all in
    outside (at i (omega arith)) (at (i + 1) h)

-- a byte more, of a text's next two digits
pub hex_more : (bs t : List ℕ) (i b : ℕ) → i < length bs → 2 * i + 1 < length t → hex (take i bs) ≡ take (2 * i) t → digit (b / 16) ≡ get_or t (2 * i) 0 → digit (b % 16) ≡ get_or t (2 * i + 1) 0 → hex (take (i + 1) (set bs i b)) ≡ take (2 * (i + 1)) t
hex_more bs t i b hb ht so high low =
    ap hex (take_more_set bs i b hb) ∙ hex_push (take i bs) b
    ∙ ap₂ (λ x y. x ++ y) so (ap₂ (λ h l. h ∷ l ∷ []) high low)
    ∙ sym (take_two_more t i ht)

-- two writes, one after the other
pub set_two : (p rest : List ℕ) (x y a b n : ℕ) → length p ≡ n → set (set (p ++ x ∷ y ∷ rest) n a) (n + 1) b ≡ p ++ a ∷ b ∷ rest
set_two p rest x y a b n e =
    ap (λ l. set l (n + 1) b) (set_at p x (y ∷ rest) a n e ∙ sym (append_assoc p (a ∷ []) (y ∷ rest)))
    ∙ set_at (p ++ a ∷ []) y rest b (n + 1) (length_push p a ∙ ap (λ m. m + 1) e)
    ∙ append_assoc p (a ∷ []) (b ∷ rest)

-- the digits of one byte more, written over what stood there
pub written_more : (bs o : List ℕ) (i : ℕ) → i < length bs → 2 * i + 1 < length o → set (set (hex (take i bs) ++ drop (2 * i) o) (2 * i) (digit (get_or bs i 0 / 16))) (2 * i + 1) (digit (get_or bs i 0 % 16)) ≡ hex (take (i + 1) bs) ++ drop (2 * (i + 1)) o
written_more bs o i hb ho =
    let b = get_or bs i 0 in
    let front = hex (take i bs) in
    let high = digit (b / 16) in
    let low = digit (b % 16) in
    let long : length front ≡ 2 * i = length-hex (take i bs) ∙ ap (λ n. 2 * n) (length-take-le i bs (omega arith)) in
    let twice : (2 * i + 1) + 1 ≡ 2 * (i + 1) = omega arith in
    ap (λ l. set (set (front ++ l) (2 * i) high) (2 * i + 1) low) (drop_more o (2 * i) 0 (omega arith) ∙ ap (λ l. get_or o (2 * i) 0 ∷ l) (drop_more o (2 * i + 1) 0 ho))
    ∙ set_two front (drop ((2 * i + 1) + 1) o) _ _ high low (2 * i) long
    ∙ ap (λ n. front ++ high ∷ low ∷ drop n o) twice
    ∙ sym (append_assoc front (high ∷ low ∷ []) (drop (2 * (i + 1)) o))
    ∙ ap (λ l. l ++ drop (2 * (i + 1)) o) (sym (hex_push (take i bs) b) ∙ ap hex (sym (take_more bs i 0 hb)))
