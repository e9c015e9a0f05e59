-- Rules of bytes that are proved by computing both sides at every byte. Assumes nothing.
use Rattle.std.specs.Prelude.{◌≡◌, ℕ, ◌+◌, ◌*◌, ◌/◌, ◌%◌, ◌<◌, true, map, bit_xor, nat_lt, slice_index_or, refl}
use Rattle.std.proofs.Common.{sym, ap, ◌∙◌, arith}
use Rattle.std.proofs.lemmas.List.FromFn.{get_or-map-range_with_len}
use Rattle.std.proofs.lemmas.Bool.{ltb-true}
use Rattle.std.specs.List.{range_with_len}
use Rattle.aes.specs.Cipher.{rounds, cipher, enc_block, Examples}
use Rattle.aes.specs.Expansion.{next, expanded}
use Rattle.aes.specs.Polynomials.{times_x, product, ◌·◌, power, first, inverse}
use Rattle.aes.specs.Steps.{sub_bytes, shift_rows, mix_columns, add_round_key, mixed, state, block}
use Rattle.aes.specs.Substitution.{bit, byte, affine, s_box}

-- what holds at each byte by computing holds at a byte
pub each : {X : Type 0} (f g : ℕ → X) → map f (range_with_len 0 256) ≡ map g (range_with_len 0 256) → (b : ℕ) → b < 256 → f b ≡ g b
each f g all b small =
    sym (get_or-map-range_with_len f 0 256 b b (f b) small (omega arith)) ∙ ap (λ l. slice_index_or l b (f b)) all
    ∙ get_or-map-range_with_len g 0 256 b b (f b) small (omega arith)

-- and at two bytes
pairs : (f g : ℕ → ℕ → ℕ)
    → map (λ a. map (f a) (range_with_len 0 256)) (range_with_len 0 256) ≡ map (λ a. map (g a) (range_with_len 0 256)) (range_with_len 0 256)
    → (a b : ℕ) → a < 256 → b < 256 → f a b ≡ g a b
pairs f g all a b ha hb = each (f a) (g a) (each (λ a. map (f a) (range_with_len 0 256)) (λ a. map (g a) (range_with_len 0 256)) all a ha) b hb

pub times_x_add : (a b : ℕ) → a < 256 → b < 256 → times_x (bit_xor a b) ≡ bit_xor (times_x a) (times_x b)
unfolding times_x
times_x_add = pairs (λ a b. times_x (bit_xor a b)) (λ a b. bit_xor (times_x a) (times_x b)) refl

pub times_x_small : (b : ℕ) → b < 256 → times_x b < 256
unfolding times_x
times_x_small b small = ltb-true _ _ (each (λ b. nat_lt (times_x b) 256) (λ b. true) refl b small)

-- small products

pub none_times : (b : ℕ) → b < 256 → 0 · b ≡ 0
unfolding times_x product
none_times = each (λ b. 0 · b) (λ b. 0) refl

pub once : (b : ℕ) → b < 256 → 1 · b ≡ b
unfolding times_x product
once = each (λ b. 1 · b) (λ b. b) refl

pub doubled : (b : ℕ) → b < 256 → bit_xor (b * 2 % 256) (b / 128 * 27) ≡ 2 · b
unfolding times_x product
doubled = each (λ b. bit_xor (b * 2 % 256) (b / 128 * 27)) (λ b. 2 · b) refl

pub tripled : (b : ℕ) → b < 256 → bit_xor (2 · b) b ≡ 3 · b
unfolding times_x product
tripled = each (λ b. bit_xor (2 · b) b) (λ b. 3 · b) refl

pub doubled_twice : (b : ℕ) → b < 256 → 2 · (2 · b) ≡ 4 · b
unfolding times_x product
doubled_twice = each (λ b. 2 · (2 · b)) (λ b. 4 · b) refl

pub fivefold : (b : ℕ) → b < 256 → bit_xor b (4 · b) ≡ 5 · b
unfolding times_x product
fivefold = each (λ b. bit_xor b (4 · b)) (λ b. 5 · b) refl

-- inverses, and the affine map

pub inverse-inverse : (b : ℕ) → b < 256 → inverse (inverse b) ≡ b
unfolding times_x product first inverse
inverse-inverse = each (λ b. inverse (inverse b)) (λ b. b) refl

-- the affine map undone
unfoldable pub straight : ℕ → ℕ
straight b = byte (λ i. (bit b (i + 2) + bit b (i + 5) + bit b (i + 7) + bit 0x05 i) % 2)

pub affine_undone : (b : ℕ) → b < 256 → straight (affine b) ≡ b
unfolding affine straight
affine_undone = each (λ b. straight (affine b)) (λ b. b) refl

pub affine_redone : (b : ℕ) → b < 256 → affine (straight b) ≡ b
unfolding affine straight
affine_redone = each (λ b. affine (straight b)) (λ b. b) refl

pub examples : Examples
unfolding times_x product first inverse affine s_box power sub_bytes shift_rows mix_columns add_round_key mixed state block next expanded rounds cipher enc_block
examples = refl
