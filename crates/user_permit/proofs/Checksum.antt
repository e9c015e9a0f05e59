-- Laws of CRC-32, from two facts: a shift goes through an exclusive or, and below 2 ^ 32 only 0 is shifted to 0.
-- Assumes nothing.
use Rattle.std.proofs.Common.{◌≡◌, ℕ, zero, suc, ◌+◌, ◌*◌, ◌/◌, ◌%◌, ◌^◌, ◌<◌, ◌≤◌, ◌⊎◌, List, [], ◌∷◌, ◌++◌, map, length, get_or, take, drop, sym, refl, ap, ◌∙◌, subst, ap₂, inl, inr, pow-suc, zero-add, zero-mul, arith, length-drop, take-append-drop, length-take}
use lib.Bits.{bit_and, bit_xor, and_mask, xor_assoc, xor_comm, xor_self, xor_zero_r, xor_lt, xor_shr, xor_mod, xor_shifted, shifted_half, shifted_even}
use Rattle.std.proofs.lemmas.List.FromFn.{get_or-map-range_with_len}
use Rattle.std.proofs.lemmas.List.{get_or-take, get_or-drop, get_or_past, drop-drop}
use Rattle.std.proofs.lemmas.List.Sums.{fold-append}
use Rattle.std.proofs.lemmas.Bool.{cases_lt}
use Rattle.std.specs.List.{range_with_len}
use Rattle.octets.specs.Bytes.{Small}
use Rattle.octets.proofs.Places.{same_before, same_from}
use Rattle.octets.proofs.Xor.{xor_pairs, xor_cancel}
use Rattle.user_permit.specs.Crc32.{polynomial, all_ones, shifted, shifts, byte_in, register, crc32, Examples}

pub examples : Examples
unfolding shifted shifts byte_in register crc32
examples = refl

-- one bit, and n bits

bit_times : (x y p : ℕ) → x < 2 → y < 2 → bit_xor x y * p ≡ bit_xor (x * p) (y * p)
bit_times zero y p hx hy = rw zero-mul
bit_times (suc zero) zero p hx hy = rw zero-mul (sym (xor_zero_r (1 * p)))
bit_times (suc zero) (suc zero) p hx hy = zero-mul p ∙ sym (xor_self (1 * p))
bit_times (suc zero) (suc (suc y)) p hx hy = absurd (omega arith)
bit_times (suc (suc x)) y p hx hy = absurd (omega arith)

pub shifted_xor : (x y : ℕ) → shifted (bit_xor x y) ≡ bit_xor (shifted x) (shifted y)
unfolding shifted
shifted_xor x y =
    ap₂ (λ (a b : ℕ). bit_xor a (b * polynomial)) (xor_shr x y 1) (xor_mod x y 1)
    ∙ ap (bit_xor (bit_xor (x / 2) (y / 2))) (bit_times (x % 2) (y % 2) polynomial (omega arith) (omega arith))
    ∙ xor_pairs (x / 2) (y / 2) (x % 2 * polynomial) (y % 2 * polynomial)

pub shifts_xor : (n x y : ℕ) → shifts n (bit_xor x y) ≡ bit_xor (shifts n x) (shifts n y)
unfolding shifts
shifts_xor zero x y = refl
shifts_xor (suc n) x y = ap (shifts n) (shifted_xor x y) ∙ shifts_xor n (shifted x) (shifted y)

pub shifts_fit : (n x : ℕ) → x < 2 ^ 32 → shifts n x < 2 ^ 32
unfolding shifts shifted
shifts_fit zero x h = h
shifts_fit (suc n) x h = shifts_fit n (shifted x) (xor_lt 32 (x / 2) (x % 2 * polynomial) (omega arith) (omega arith))

-- a number with n bits of 0 below it comes down whole
pub shifts_whole : (n x : ℕ) → shifts n (x * 2 ^ n) ≡ x
unfolding shifts shifted
shifts_whole zero x = omega arith
shifts_whole (suc n) x =
    ap (shifts n)
    (ap₂ (λ (a b : ℕ). bit_xor a (b * polynomial)) (shifted_half x n) (shifted_even x n) ∙ xor_zero_r (x * 2 ^ n))
    ∙ shifts_whole n x

shifted_zero : (x : ℕ) → x < 2 ^ 32 → shifted x ≡ 0 → x ≡ 0
unfolding shifted
shifted_zero x h e =
    let p : ℕ = x % 2 * polynomial in
    let half : x / 2 ≡ x % 2 * polynomial = xor_cancel (x / 2) p p (e ∙ sym (xor_self p)) in omega arith

shifts_zero : (n x : ℕ) → x < 2 ^ 32 → shifts n x ≡ 0 → x ≡ 0
unfolding shifts
shifts_zero zero x h e = e
shifts_zero (suc n) x h e = shifted_zero x h (shifts_zero n (shifted x) (shifts_fit 1 x h) e)

pub shifts_one_to_one : (n x y : ℕ) → x < 2 ^ 32 → y < 2 ^ 32 → shifts n x ≡ shifts n y → x ≡ y
shifts_one_to_one n x y hx hy e =
    let none = shifts_xor n x y ∙ ap (λ (z : ℕ). bit_xor z (shifts n y)) e ∙ xor_self (shifts n y) in
    xor_cancel x y y (shifts_zero n (bit_xor x y) (xor_lt 32 x y hx hy) none ∙ sym (xor_self y))

-- bytes

fits : {b : ℕ} → b < 256 → b < 2 ^ 32
fits h = omega arith

byte_in_fits : (r b : ℕ) → r < 2 ^ 32 → b < 256 → byte_in r b < 2 ^ 32
unfolding byte_in
byte_in_fits r b hr hb = shifts_fit 8 (bit_xor r b) (xor_lt 32 r b hr (fits hb))

-- what lies above the lowest eight bits comes down whole, and apart from them
pub byte_below : (r b n : ℕ) → b < 256 → shifts 8 (bit_xor r (n * 256 + b)) ≡ bit_xor (byte_in r b) n
unfolding byte_in
byte_below r b n h =
    ap (λ (x : ℕ). shifts 8 (bit_xor r x)) (sym (xor_shifted n 8 b h) ∙ xor_comm (n * 256) b)
    ∙ ap (shifts 8) (sym (xor_assoc r b (n * 256)))
    ∙ shifts_xor 8 (bit_xor r b) (n * 256)
    ∙ ap (bit_xor (shifts 8 (bit_xor r b))) (shifts_whole 8 n)

-- the step by a table of what each byte does to a register of 0
pub by_table : (r b : ℕ) → b < 256
    → bit_xor (get_or (map (shifts 8) (range_with_len 0 256)) (bit_and (bit_xor r b) 255) 0) (r / 256) ≡ byte_in r b
unfolding byte_in
by_table r b h =
    let x = bit_xor r b in
    let low : x % 256 < 256 = omega arith in
    let entry = get_or-map-range_with_len (shifts 8) 0 256 (x % 256) (x % 256) 0 low (zero-add (x % 256)) in
    let high : r / 256 ≡ x / 256 = sym (xor_shr r b 8 ∙ ap (bit_xor (r / 256)) (omega arith) ∙ xor_zero_r (r / 256)) in
    rw (and_mask x 8, entry, high) (sym (byte_below 0 (x % 256) (x / 256) low) ∙ ap (shifts 8) (omega arith))

pub register-append : (r : ℕ) (xs ys : List ℕ) → register r (xs ++ ys) ≡ register (register r xs) ys
unfolding register
register-append r xs ys = fold-append byte_in r xs ys

pub register_fits : (r : ℕ) (bs : List ℕ) → r < 2 ^ 32 → Small bs → register r bs < 2 ^ 32
unfolding register
register_fits r [] h bytes = h
register_fits r (b ∷ bs) h bytes = register_fits (byte_in r b) bs (byte_in_fits r b h (bytes 0)) (λ i. bytes (suc i))

pub crc32_fits : (bs : List ℕ) → Small bs → crc32 bs < 2 ^ 32
unfolding crc32
crc32_fits bs bytes = xor_lt 32 (register all_ones bs) all_ones (register_fits all_ones bs (omega arith) bytes) (omega arith)

pub register_one_to_one : (r s : ℕ) (bs : List ℕ) → r < 2 ^ 32 → s < 2 ^ 32 → Small bs → register r bs ≡ register s bs → r ≡ s
unfolding register byte_in
register_one_to_one r s [] hr hs bytes e = e
register_one_to_one r s (b ∷ bs) hr hs bytes e =
    let hb = fits (bytes 0) in
    xor_cancel r s b
    (shifts_one_to_one 8 (bit_xor r b) (bit_xor s b) (xor_lt 32 r b hr hb) (xor_lt 32 s b hs hb)
    (register_one_to_one (byte_in r b) (byte_in s b) bs (byte_in_fits r b hr (bytes 0)) (byte_in_fits s b hs (bytes 0)) (λ i. bytes (suc i)) e))

-- a text as a number, its first byte lowest
number : List ℕ → ℕ
number [] = 0
number (b ∷ bs) = number bs * 256 + b

number_fits : (bs : List ℕ) → Small bs → number bs < 256 ^ length bs
unfolding number
number_fits [] bytes = omega arith
number_fits (b ∷ bs) bytes = rw pow-suc (omega (arith, number_fits bs (λ i. bytes (suc i)), bytes 0))

number_one_to_one : (xs ys : List ℕ) → length xs ≡ length ys → Small xs → Small ys → number xs ≡ number ys → xs ≡ ys
unfolding number
number_one_to_one [] [] l hx hy e = refl
number_one_to_one [] (y ∷ ys) l hx hy e = absurd (omega arith)
number_one_to_one (x ∷ xs) [] l hx hy e = absurd (omega arith)
number_one_to_one (x ∷ xs) (y ∷ ys) l hx hy e =
    ap₂ ◌∷◌ (omega (arith, hx 0, hy 0))
    (number_one_to_one xs ys (omega arith) (λ i. hx (suc i)) (λ i. hy (suc i)) (omega (arith, hx 0, hy 0)))

-- where two short texts bring two registers to one end, the registers differ as the texts do
ends_alike : (r s : ℕ) (xs ys : List ℕ) → r < 2 ^ 32 → s < 2 ^ 32 → length xs ≡ length ys → Small xs → Small ys
    → number xs < 2 ^ 32 → number ys < 2 ^ 32 → register r xs ≡ register s ys → bit_xor r (number xs) ≡ bit_xor s (number ys)
unfolding register number
ends_alike r s [] [] hr hs l hx hy nx ny e = ap (λ (x : ℕ). bit_xor x 0) e
ends_alike r s [] (y ∷ ys) hr hs l hx hy nx ny e = absurd (omega arith)
ends_alike r s (x ∷ xs) [] hr hs l hx hy nx ny e = absurd (omega arith)
ends_alike r s (x ∷ xs) (y ∷ ys) hr hs l hx hy nx ny e =
    shifts_one_to_one 8 (bit_xor r (number (x ∷ xs))) (bit_xor s (number (y ∷ ys))) (xor_lt 32 r (number (x ∷ xs)) hr nx) (xor_lt 32 s (number (y ∷ ys)) hs ny)
    (byte_below r x (number xs) (hx 0)
    ∙ ends_alike (byte_in r x) (byte_in s y) xs ys (byte_in_fits r x hr (hx 0)) (byte_in_fits s y hs (hy 0)) (omega arith) (λ i. hx (suc i)) (λ i. hy (suc i)) (omega arith) (omega arith) e
    ∙ sym (byte_below s y (number ys) (hy 0)))

pub window : (r : ℕ) (xs ys : List ℕ) → r < 2 ^ 32 → length xs ≡ 4 → length ys ≡ 4 → Small xs → Small ys → register r xs ≡ register r ys → xs ≡ ys
window r xs ys h lx ly hx hy e =
    let nx = subst (λ (n : ℕ). number xs < 256 ^ n) lx (number_fits xs hx) in
    let ny = subst (λ (n : ℕ). number ys < 256 ^ n) ly (number_fits ys hy) in
    let alike = ends_alike r r xs ys h h (lx ∙ sym ly) hx hy nx ny e in
    number_one_to_one xs ys (lx ∙ sym ly) hx hy
    (xor_cancel (number xs) (number ys) r (xor_comm (number xs) r ∙ alike ∙ xor_comm r (number ys)))

-- whole texts

bytes_take : (n : ℕ) (bs : List ℕ) → Small bs → Small (take n bs)
bytes_take n bs h i =
    elim (cases_lt i n) [
      | inl lt ↦ rw get_or-take (h i)
      | inr le ↦ rw (get_or_past (take n bs) i 0 (simp length-take (omega arith))) (omega arith)
    ]

bytes_drop : (n : ℕ) (bs : List ℕ) → Small bs → Small (drop n bs)
bytes_drop n bs h i = rw get_or-drop (h (n + i))

-- four bytes show in the sum, whatever stands before and after them
four_between : (p xs ys s : List ℕ) → length xs ≡ 4 → length ys ≡ 4 → Small p → Small xs → Small ys → Small s
    → crc32 (p ++ (xs ++ s)) ≡ crc32 (p ++ (ys ++ s)) → xs ≡ ys
unfolding crc32
four_between p xs ys s lx ly hp hx hy hs e =
    let r = register all_ones p in
    let hr = register_fits all_ones p (omega arith) hp in
    let ends = simp register-append at (xor_cancel (register all_ones (p ++ (xs ++ s))) (register all_ones (p ++ (ys ++ s))) all_ones e) in
    window r xs ys hr lx ly hx hy
    (register_one_to_one (register r xs) (register r ys) s (register_fits r xs hr hx) (register_fits r ys hr hy) hs ends)

abbrev four : ℕ → List ℕ → List ℕ
four k t = take 4 (drop k t)

four_long : (k : ℕ) (t : List ℕ) → k + 4 ≤ length t → length (four k t) ≡ 4
four_long k t h = simp (length-take, length-drop) (omega arith)

cut : (k : ℕ) (t : List ℕ) → take k t ++ (four k t ++ drop (k + 4) t) ≡ t
cut k t = rw (← drop-drop 4 k t, take-append-drop 4, take-append-drop)

-- two texts that differ at most in four bytes in a row, and have one sum, are one text
pub four_neighbours : (t u : List ℕ) (k : ℕ) → length t ≡ length u → k + 4 ≤ length t → Small t → Small u
    → ((i : ℕ) → (i < k) ⊎ (k + 4 ≤ i) → get_or t i 0 ≡ get_or u i 0) → crc32 t ≡ crc32 u → t ≡ u
four_neighbours t u k l h ht hu same e =
    let before = same_before k t u l (λ i lt. same i (inl lt)) in
    let after = same_from (k + 4) t u l (λ i le. same i (inr le)) in
    let other : take k t ++ (four k u ++ drop (k + 4) t) ≡ u = rw (before, after) (cut k u) in
    let inside =
    four_between (take k t) (four k t) (four k u) (drop (k + 4) t) (four_long k t h) (four_long k u (omega arith))
    (bytes_take k t ht) (bytes_take 4 (drop k t) (bytes_drop k t ht)) (bytes_take 4 (drop k u) (bytes_drop k u hu)) (bytes_drop (k + 4) t ht)
    (ap crc32 (cut k t) ∙ e ∙ ap crc32 (sym other)) in
    sym (cut k t) ∙ ap (λ w. take k t ++ (w ++ drop (k + 4) t)) inside ∙ other
